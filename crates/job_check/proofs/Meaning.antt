-- What the answers of `check` mean.
use Rattle.std.proofs.Common.{◌≡◌, ◌≢◌, ◌∙◌, ℕ, ℤ, Bool, true, false, cond, ◌&&◌, nat_eq, List, length, Option, Some, None, refl, sym, ap, subst}
use Rattle.form_typed.specs.Truth.{Meaning}
use Rattle.base_budget.specs.Trace.{Traced, just, next}
use Rattle.formula.specs.Form.{Form, IsFormOver, is_pure}
use Rattle.elim_laws.specs.Whole.{AreOver}
use Rattle.sequent.proofs.Forming.{start_formed}
use Rattle.proof_tree.specs.declared.node.Conclusion.{Conclusion}
use Rattle.proof_tree.specs.declared.node.Conclusion.TheVariants.{Solution, Nothing}
use Rattle.proof_tree.specs.declared.run.Verdict.{Verdict}
use Rattle.proof_tree.specs.declared.run.Verdict.TheVariants.{Valid, Invalid}
use Rattle.proof_tree.specs.Proof.{Proof, given}
use Rattle.proof_tree.specs.Proves.{Proves, concluded, is_root_rule, rule_of, values_put, verdict_if}
use Rattle.proof_tree.specs.Walk.{is_same}
use Rattle.clause_set.specs.Dnfs.{top}
use Rattle.linear_term.specs.Range.{is_in_range}
use Rattle.std.specs.List.{list_all}
use Rattle.proof_tree.proofs.Proving.{proves_invalid, proves_valid, root_covers}
use Rattle.sequent.specs.declared.member.Pick.{Pick}
use Rattle.clause_set.specs.declared.literal.Literal.{Literal}
use Rattle.proof_tree.proofs.Given.{node_given}
use Rattle.tree_checker.specs.Faults.{accepted}
use Rattle.tree_checker.proofs.Accepting.{accepts_proofs}
use Rattle.form_encoding.specs.Problems.{problem_root}
use Rattle.form_encoding.proofs.Problems.{root_over}
use Rattle.pri_typing.specs.declared.problem.Problem.{Problem}
use Rattle.base_answers.specs.Answer.{Answer, IsAnswerStatus}
use Rattle.pri_lines.specs.Meaning.{CoversRoot}
use Rattle.pri_lines.proofs.Losing.{lost_refuted}
use Rattle.pri_lines.proofs.Supporting.{closed_holds, supports}
use Rattle.pri_problem.specs.Answers.{Poses, refused, posed}
use Rattle.pri_problem.specs.Encoded.{large, leaves, runs}
use Rattle.pri_problem.proofs.Bytes.{reads_formed}
use Rattle.pri_problem.proofs.Reduced.{problem_reduced}
use Rattle.job_check.specs.Checked as row
use Rattle.job_check.specs.Checked.{AnswersProof, AnswersTree, IsChecked, Judged, clauses, tree}
use Rattle.job_check.specs.Clauses as clause
use Rattle.job_check.specs.Clauses.{AnswersClauses, Shows}
use Rattle.model_trees.specs.Walk.{point}
use Rattle.job_check.specs.Meaning as says
use Rattle.job_check.specs.Meaning.{CheckMeans}
use Rattle.job_check.proofs.Shown.{shown_covers}

-- an accepted proof proves
pub proves : (p : Problem) (proof : List ℕ) (x : Proof) (c : Conclusion) (charges : ℕ) (v : Verdict) → Judged p proof x c charges (accepted v) → Proves (problem_root p).value (length p.existentials) x c charges v
proves p proof x c charges v j = (accepts_proofs (problem_root p).value (length p.existentials) x c charges v).0 j.is

-- its constraint is over the existential constants
pub accepted_over : (p : Problem) → IsFormOver (length p.existentials) (problem_root p).value → (proof : List ℕ) (x : Proof) (c : Conclusion) (charges : ℕ) (v : Verdict) → Judged p proof x c charges (accepted v) → AreOver (length p.existentials) (given x)
accepted_over p over proof x c charges v j =
    (node_given _ x (start_formed (problem_root p).value (length p.existentials) over) (problem_reduced p, tt) (proves p proof x c charges v j).tree).over

-- and its values are as many
pub accepted_values : (p : Problem) (proof : List ℕ) (x : Proof) (c : Conclusion) (charges : ℕ) (vs : List ℤ) → Judged p proof x c charges (accepted (Valid vs)) → length vs ≡ length p.existentials
accepted_values p proof x c charges vs j =
    (proves_valid (problem_root p).value (length p.existentials) x c charges vs (problem_reduced p) (proves p proof x c charges (Valid vs) j)).0

-- it covers the encoding
covers : (p : Problem) → IsFormOver (length p.existentials) (problem_root p).value → (proof : List ℕ) (x : Proof) (c : Conclusion) (charges : ℕ) (vs : List ℤ) → Judged p proof x c charges (accepted (Valid vs)) → CoversRoot p (given x) vs
covers p over proof x c charges vs j =
    let h = proves p proof x c charges (Valid vs) j in
    let v = proves_valid (problem_root p).value (length p.existentials) x c charges vs (problem_reduced p) h in
    record {
      over = accepted_over p over proof x c charges (Valid vs) j;
      covers = root_covers (problem_root p).value (length p.existentials) x over (problem_reduced p) h.tree;
      many = v.0;
      satisfies = v.1;
    }

-- ---- nothing but a formula without predicates and functions is found invalid
verdict_valid : (b : Bool) (us : List ℤ) → verdict_if b (Valid us) ≡ Some Invalid → ⊥
verdict_valid true us e = absurd cc
verdict_valid false us e = absurd cc

first_true : (a b : Bool) → (a && b) ≡ true → a ≡ true
first_true true b h = refl
first_true false b h = absurd cc

values_valid : (b : Bool) (us : List ℤ) (w : Traced (List (List Literal))) → (cond b (next w (λ s. just (verdict_if (is_same s top) (Valid us)))) (just None)).value ≡ Some Invalid → ⊥
unfolding next just
values_valid true us w e = verdict_valid (is_same w.value top) us e
values_valid false us w e = absurd cc

some_first : (b : Bool) (w : Traced (Option Verdict)) → (cond b w (just None)).value ≡ Some Invalid → b ≡ true
unfolding just
some_first true w e = refl
some_first false w e = absurd cc

invalid_pure : (f : Form) (n : ℕ) (r : Pick) (c : Conclusion) (d : List (List Literal)) → (concluded f n r c d).value ≡ Some Invalid → is_pure f ≡ true
invalid_pure f n r (Solution us) d e = absurd (values_valid (nat_eq (length us) n && list_all is_in_range us) us (values_put 0 us d) e)
invalid_pure f n r (Nothing log) d e = first_true (is_pure f) (is_root_rule r) (some_first (is_pure f && is_root_rule r) _ e)

-- ---- what the answers say
-- an answer with another status than 0 says nothing
silent : (w : Meaning) (bytes : List ℕ) (a : Answer) (s : ℕ) → a.status ≡ s → s ≢ 0 → CheckMeans w bytes a
silent w bytes a s e not_zero = record { accepted = λ z. absurd (not_zero (sym e ∙ z)) }

tree_means : (w : Meaning) (proof bytes : List ℕ) (p : Problem) (a : Answer) → Poses bytes p → AnswersTree proof p a → CheckMeans w bytes a
tree_means w proof bytes p a poses (row.syntax at r e) = silent w bytes a 4 (ap (λ b. b.status) e) (λ z. cc)
tree_means w proof bytes p a poses (row.deep at r e) = silent w bytes a 4 (ap (λ b. b.status) e) (λ z. cc)
tree_means w proof bytes p a poses (row.node x c charges m j e) = silent w bytes a 4 (ap (λ b. b.status) e) (λ z. cc)
tree_means w proof bytes p a poses (row.range x c charges m numbers j e) = silent w bytes a 4 (ap (λ b. b.status) e) (λ z. cc)
tree_means w proof bytes p a poses (row.cost x c charges m j e) = silent w bytes a 4 (ap (λ b. b.status) e) (λ z. cc)
tree_means w proof bytes p a poses (row.closed x c charges vs j none e) = record {
  accepted = λ z. record {
    problem = p;
    reads = poses.reads;
    says = says.closed none (ap (λ b. b.text) e) (closed_holds w p (given x) vs (reads_formed bytes p poses.reads) (covers p (root_over p (reads_formed bytes p poses.reads)) proof x c charges vs j) none);
  };
}
tree_means w proof bytes p a poses (row.valid x c charges vs text j some printed e) = record {
  accepted = λ z. record {
    problem = p;
    reads = poses.reads;
    says = says.supported text vs some (ap (λ b. b.text) e) (supports w p (given x) vs text (reads_formed bytes p poses.reads) (covers p (root_over p (reads_formed bytes p poses.reads)) proof x c charges vs j) printed);
  };
}
tree_means w proof bytes p a poses (row.invalid x c charges j e) =
    let h = proves p proof x c charges Invalid j in
    record {
      accepted = λ z. record {
        problem = p;
        reads = poses.reads;
        says = says.refuted (ap (λ b. b.text) e)
            (lost_refuted p (reads_formed bytes p poses.reads) (invalid_pure (problem_root p).value (length p.existentials) (rule_of x) c (given x) h.conclusion)
            (proves_invalid (problem_root p).value (length p.existentials) x c charges (root_over p (reads_formed bytes p poses.reads)) (problem_reduced p) h));
      };
    }

-- a clause proof shows the problem at its values
clauses_means : (w : Meaning) (proof bytes : List ℕ) (p : Problem) (a : Answer) → Poses bytes p → AnswersClauses proof p a → CheckMeans w bytes a
clauses_means w proof bytes p a poses (clause.syntax at r e) = silent w bytes a 4 (ap (λ b. b.status) e) (λ z. cc)
clauses_means w proof bytes p a poses (clause.wrong at h e) = silent w bytes a 4 (ap (λ b. b.status) e) (λ z. cc)
clauses_means w proof bytes p a poses (clause.range at h e) = silent w bytes a 4 (ap (λ b. b.status) e) (λ z. cc)
clauses_means w proof bytes p a poses (clause.cost at h e) = silent w bytes a 4 (ap (λ b. b.status) e) (λ z. cc)
clauses_means w proof bytes p a poses (clause.closed vs h none e) = record {
  accepted = λ z. record {
    problem = p;
    reads = poses.reads;
    says = says.closed none (ap (λ b. b.text) e) (closed_holds w p (point vs) vs (reads_formed bytes p poses.reads) (shown_covers p (root_over p (reads_formed bytes p poses.reads)) proof vs h) none);
  };
}
clauses_means w proof bytes p a poses (clause.valid vs text h some printed e) = record {
  accepted = λ z. record {
    problem = p;
    reads = poses.reads;
    says = says.supported text vs some (ap (λ b. b.text) e) (supports w p (point vs) vs text (reads_formed bytes p poses.reads) (shown_covers p (root_over p (reads_formed bytes p poses.reads)) proof vs h) printed);
  };
}

row_means : (w : Meaning) (proof bytes : List ℕ) (p : Problem) (a : Answer) → Poses bytes p → AnswersProof proof p a → CheckMeans w bytes a
row_means w proof bytes p a poses (tree other k) = tree_means w proof bytes p a poses k
row_means w proof bytes p a poses (clauses is k) = clauses_means w proof bytes p a poses k

pub means : (w : Meaning) (proof bytes : List ℕ) (a : Answer) → IsChecked proof bytes a → CheckMeans w bytes a
means w proof bytes a (refused r h e) = silent w bytes a 3 (ap (λ b. b.status) e) (λ z. cc)
means w proof bytes a (posed p h (large l e)) = silent w bytes a 3 (ap (λ b. b.status) e) (λ z. cc)
means w proof bytes a (posed p h (leaves l e)) = silent w bytes a 2 (ap (λ b. b.status) e) (λ z. cc)
means w proof bytes a (posed p h (runs f k)) = row_means w proof bytes p a h k

-- ---- their statuses
tree_status : (proof : List ℕ) (p : Problem) (a : Answer) → AnswersTree proof p a → IsAnswerStatus a.status
tree_status proof p a (row.syntax at r e) = subst (λ b. IsAnswerStatus b.status) (sym e) refl
tree_status proof p a (row.deep at r e) = subst (λ b. IsAnswerStatus b.status) (sym e) refl
tree_status proof p a (row.node x c charges m j e) = subst (λ b. IsAnswerStatus b.status) (sym e) refl
tree_status proof p a (row.range x c charges m numbers j e) = subst (λ b. IsAnswerStatus b.status) (sym e) refl
tree_status proof p a (row.cost x c charges m j e) = subst (λ b. IsAnswerStatus b.status) (sym e) refl
tree_status proof p a (row.closed x c charges vs j none e) = subst (λ b. IsAnswerStatus b.status) (sym e) refl
tree_status proof p a (row.valid x c charges vs text j some printed e) = subst (λ b. IsAnswerStatus b.status) (sym e) refl
tree_status proof p a (row.invalid x c charges j e) = subst (λ b. IsAnswerStatus b.status) (sym e) refl

clauses_status : (proof : List ℕ) (p : Problem) (a : Answer) → AnswersClauses proof p a → IsAnswerStatus a.status
clauses_status proof p a (clause.syntax at r e) = subst (λ b. IsAnswerStatus b.status) (sym e) refl
clauses_status proof p a (clause.wrong at h e) = subst (λ b. IsAnswerStatus b.status) (sym e) refl
clauses_status proof p a (clause.range at h e) = subst (λ b. IsAnswerStatus b.status) (sym e) refl
clauses_status proof p a (clause.cost at h e) = subst (λ b. IsAnswerStatus b.status) (sym e) refl
clauses_status proof p a (clause.closed vs h none e) = subst (λ b. IsAnswerStatus b.status) (sym e) refl
clauses_status proof p a (clause.valid vs text h some printed e) = subst (λ b. IsAnswerStatus b.status) (sym e) refl

row_status : (proof : List ℕ) (p : Problem) (a : Answer) → AnswersProof proof p a → IsAnswerStatus a.status
row_status proof p a (tree other k) = tree_status proof p a k
row_status proof p a (clauses is k) = clauses_status proof p a k

pub checked_status : (proof bytes : List ℕ) (a : Answer) → IsChecked proof bytes a → IsAnswerStatus a.status
checked_status proof bytes a (refused r h e) = subst (λ b. IsAnswerStatus b.status) (sym e) refl
checked_status proof bytes a (posed p h (large l e)) = subst (λ b. IsAnswerStatus b.status) (sym e) refl
checked_status proof bytes a (posed p h (leaves l e)) = subst (λ b. IsAnswerStatus b.status) (sym e) refl
checked_status proof bytes a (posed p h (runs f k)) = row_status proof p a k
