-- What the answers of `solve` mean.
use Rattle.std.proofs.Common.{◌≡◌, ◌≢◌, ◌⊎◌, inl, inr, ℕ, ℤ, List, [], ◌∷◌, ◌++◌, length, refl, sym, ◌∙◌, ap, subst, codes, None, Some, arith}
use Rattle.form_typed.specs.Truth.{Meaning}
use Rattle.base_budget.specs.Trace as trace
use Rattle.base_budget.specs.Trace.{At, End, Funds, cut, done, out_of_range, refused as stopped}
use Rattle.proof_tree.specs.Proof.{Proof, given}
use Rattle.search.specs.Meaning.{IsFoundProof, Tells}
use Rattle.search.specs.Run as run
use Rattle.base_budget.specs.Ending.{ended, ends_with}
use Rattle.form_encoding.specs.Problems.{problem_root}
use Rattle.form_encoding.proofs.Problems.{holds_is, pure_is, root_over}
use Rattle.pri_typing.specs.declared.problem.Problem.{Problem}
use Rattle.pri_typing.specs.WellFormed.{IsWellFormed}
use Rattle.base_answers.specs.Answer.{Answer, line}
use Rattle.pri_lines.specs.Constraint.{IsTextOf}
use Rattle.pri_lines.specs.Meaning.{CoversRoot}
use Rattle.pri_lines.proofs.Losing.{lost_refuted}
use Rattle.pri_lines.proofs.Supporting.{closed_holds, constraint_there, supports, true_there}
use Rattle.pri_problem.specs.Answers.{Poses, refused, posed}
use Rattle.pri_problem.specs.Cuttable.{IsCuttable}
use Rattle.pri_problem.specs.Encoded.{large, leaves, runs}
use Rattle.pri_problem.proofs.Bytes.{reads_formed}
use Rattle.formula.specs.Form.{IsFormOver}
use Rattle.pri_problem.proofs.Cuts.{poses_cuttable}
use Rattle.itp_lines.proofs.Meaning.{blocks_mean}
use Rattle.pri_typing.specs.declared.problem.Cut.{Cut}
use Rattle.pri_problem.proofs.Reduced.{problem_reduced}
use Rattle.job_solve.specs.Solved.{AnswersEnd, closed, valid, invalid, saturated, branch, steps, overflow, run_end, IsSolved}
use Rattle.job_solve.specs.Headline as headline_words
use Rattle.job_solve.specs.Explained.{AnswersSaturated, explained, nowhere, past, short}
use Rattle.job_solve.specs.Headline.{Constrains, Headline, Shows}
use Rattle.countermodel.specs.Explaining.{explaining}
use Rattle.countermodel.specs.Probes.{probe_values}
use Rattle.model_trees.specs.Open.{IsSaturatedTree}
use Rattle.job_solve.proofs.Saturated.{one_or_two}
use Rattle.job_solve.proofs.Refuted.{explained_is, refuted_is, saturated_is}
use Rattle.search.proofs.Telling.{answer_tells}

-- what the answer of a run on the encoded problem says of it
pub tells : (budget : ℕ) (p : Problem) → IsFormOver (length p.existentials) (problem_root p).value → (a : run.RunAnswer) (stands : At) → run_end budget p ≡ ends_with a stands → Tells (problem_root p).value (length p.existentials) a
tells budget p over a stands is =
    answer_tells (problem_root p).value (length p.existentials) (record { budget = budget; spent = 0 }) a stands over (problem_reduced p) is

-- ---- VALID

-- the constraint that was found covers the encoding
pub covers : (p : Problem) (x : Proof) (vs : List ℤ) → IsFoundProof (problem_root p).value (length p.existentials) vs x → CoversRoot p (given x) vs
covers p x vs found = record { over = found.over; covers = found.covers; many = found.best.names; satisfies = found.best.satisfies }

-- the printed constraint and values mean what the headline says
found_constrains : (w : Meaning) (p : Problem) (x : Proof) (vs : List ℤ) (text : List ℕ) → IsWellFormed p → IsFoundProof (problem_root p).value (length p.existentials) vs x → IsTextOf p (given x) text
    → Constrains w p text vs
found_constrains w p x vs text formed found printed = record {
  supports = supports w p (given x) vs text formed (covers p x vs found) printed;
  best = λ e t j below same. found.best.best e t.many (constraint_there w p (given x) vs text formed (covers p x vs found) printed e t) j below same;
  exact = λ pure e h. true_there w p (given x) vs text formed (covers p x vs found) printed e h.many (found.exact ((pure_is p).1 pure) w e h.many ((holds_is w p e formed h.many).1 h));
}

-- ---- the headline

-- an answer with another status than 0 and 1 says nothing
silent : (w : Meaning) (bytes : List ℕ) (a : Answer) (s : ℕ) → a.status ≡ s → s ≢ 0 → s ≢ 1 → Headline w bytes a
silent w bytes a s e not_zero not_one = record { valid = λ z. absurd (not_zero (sym e ∙ z)); invalid = λ z. absurd (not_one (sym e ∙ z)) }

-- a problem with existential constants has no blocks
no_blocks : (p : Problem) → IsCuttable p → p.existentials ≢ [] → p.cuts ≡ []
no_blocks p plain some = by p.cuts refl
  where
    by : (cuts : List Cut) → p.cuts ≡ cuts → p.cuts ≡ []
    by [] is = is
    by (b ∷ bs) is = absurd (some (plain.alone (let many = ap length is in omega (arith, many))))

not_valid : {n : ℕ} → (n ≡ 1) ⊎ (n ≡ 2) → n ≡ 0 → ⊥
not_valid (inl h) z = cc
not_valid (inr h) z = cc

walk_value : {A : Type 0} (v a : A) (e : End) (b : At) → ended v e ≡ ends_with a b → v ≡ a
walk_value v a (done c) b h = cc
walk_value v a (stopped c) b h = absurd (cc)
walk_value v a (out_of_range ps c) b h = absurd (cc)

-- the answer to a saturated run shows its counterexample
shown : (p : Problem) (x : Proof) (left : Funds) (a : Answer) → IsWellFormed p → IsSaturatedTree (problem_root p).value (length p.existentials) x → AnswersSaturated p x left a → a.status ≡ 1
    → (values : List ℤ) → probe_values p.existential_types ≡ Some values → Shows p values a.text
shown p x left a formed open_tree (nowhere none e) z values probe = let bad : None ≡ Some values = sym none ∙ probe in absurd (cc)
shown p x left a formed open_tree (explained at c stands some is e) z values probe =
    let same : at ≡ values = (let two : Some at ≡ Some values = sym some ∙ probe in cc) in
    subst (λ v. Shows p v a.text) same (record {
      found = c;
      is = explained_is p x at c formed open_tree some (walk_value (explaining p x at).value (Some c) (cut (explaining p x at).events (trace.at left [])) stands is);
      told = ap (λ b. b.text) e;
    })
shown p x left a formed open_tree (short is e) z values probe = let bad = sym z ∙ ap (λ b. b.status) e in absurd cc
shown p x left a formed open_tree (past is e) z values probe = let bad = sym z ∙ ap (λ b. b.status) e in absurd cc

end_means : (w : Meaning) (budget : ℕ) (bytes : List ℕ) (p : Problem) (a : Answer) → Poses bytes p → AnswersEnd p (run_end budget p) a → Headline w bytes a
end_means w budget bytes p a poses (closed vs x stands text is none told e) =
    let formed = reads_formed bytes p poses.reads in
    let holds = closed_holds w p (given x) vs formed (covers p x vs (tells budget p (root_over p formed) _ stands is)) none in
    record {
      valid = λ z. record {
        problem = p;
        reads = poses.reads;
        valid = headline_words.closed told.lines none (ap (λ b. b.text) e ∙ ap (λ t. line (codes "VALID") ++ t) told.whole) holds
            (blocks_mean w p stands.funds told.lines formed (poses_cuttable bytes p poses).pure holds told.are);
      };
      invalid = λ z. let bad = sym z ∙ ap (λ b. b.status) e in absurd cc;
    }
end_means w budget bytes p a poses (valid vs x stands text is some printed e) = record {
  valid = λ z. record {
    problem = p;
    reads = poses.reads;
    valid = headline_words.constrained text vs some (no_blocks p (poses_cuttable bytes p poses) some) (ap (λ b. b.text) e) (found_constrains w p x vs text (reads_formed bytes p poses.reads) (tells budget p (root_over p (reads_formed bytes p poses.reads)) _ stands is) printed);
  };
  invalid = λ z. let bad = sym z ∙ ap (λ b. b.status) e in absurd cc;
}
end_means w budget bytes p a poses (invalid log x stands is e) = record {
  valid = λ z. let bad = sym z ∙ ap (λ b. b.status) e in absurd cc;
  invalid = λ z.
      let formed = reads_formed bytes p poses.reads in
      let lost = tells budget p (root_over p formed) _ stands is in
      record {
        problem = p;
        reads = poses.reads;
        refuted = lost_refuted p formed lost.pure lost.fails;
        shows = λ impure values probe. absurd (impure ((pure_is p).0 lost.pure));
      };
}
end_means w budget bytes p a poses (saturated log x stands is told) = record {
  valid = λ z. absurd (not_valid (one_or_two p x stands.funds a told) z);
  invalid = λ z.
      let formed = reads_formed bytes p poses.reads in
      let open_tree = saturated_is budget p (root_over p formed) log x stands is in
      record {
        problem = p;
        reads = poses.reads;
        refuted = refuted_is p x formed open_tree;
        shows = λ impure values probe. shown p x stands.funds a formed open_tree told z values probe;
      };
}
end_means w budget bytes p a poses (branch stands is e) = silent w bytes a 2 (ap (λ b. b.status) e) (λ z. cc) (λ z. cc)
end_means w budget bytes p a poses (steps stands is e) = silent w bytes a 2 (ap (λ b. b.status) e) (λ z. cc) (λ z. cc)
end_means w budget bytes p a poses (overflow numbers stands is e) = silent w bytes a 2 (ap (λ b. b.status) e) (λ z. cc) (λ z. cc)

pub headline : (w : Meaning) (budget : ℕ) (bytes : List ℕ) (a : Answer) → IsSolved budget bytes a → Headline w bytes a
headline w budget bytes a (refused r h e) = silent w bytes a 3 (ap (λ b. b.status) e) (λ z. cc) (λ z. cc)
headline w budget bytes a (posed p h (large l e)) = silent w bytes a 3 (ap (λ b. b.status) e) (λ z. cc) (λ z. cc)
headline w budget bytes a (posed p h (leaves l e)) = silent w bytes a 2 (ap (λ b. b.status) e) (λ z. cc) (λ z. cc)
headline w budget bytes a (posed p h (runs f k)) = end_means w budget bytes p a h k
