-- An answer with a proof after it, and the answer without it.
use Rattle.std.proofs.Common.{◌≡◌, ◌≢◌, ◌⊎◌, inl, inr, ◌∙◌, ◌≤◌, ℕ, ℤ, List, [], ◌++◌, length, Option, Some, None, Result, Ok, Err, IfOk, refl, sym, ap, subst, append_assoc, append-nil, codes, arith}
use Rattle.base_limits.specs.Limits.{most_budget}
use Rattle.linear_term.specs.declared.range.Memory.{Memory}
use Rattle.base_budget.specs.Runs.{total}
use Rattle.base_budget.specs.Trace.{Funds, At}
use Rattle.clause_set.specs.declared.literal.Literal.{Literal}
use Rattle.formula.specs.Form.{Form}
use Rattle.formula.specs.Reduced.{HasReducedTerms}
use Rattle.formula.specs.Tree.{form}
use Rattle.proof_tree.specs.declared.node.Conclusion.{Conclusion}
use Rattle.proof_tree.specs.declared.node.Conclusion.TheVariants.{Solution, Nothing}
use Rattle.proof_tree.specs.declared.node.Tree.{Tree}
use Rattle.proof_tree.specs.declared.run.Run.{Run}
use Rattle.proof_tree.specs.declared.run.Why.{Why}
use Rattle.proof_tree.specs.declared.run.Why.TheVariants as why
use Rattle.proof_tree.specs.Proof.{Proof}
use Rattle.proof_tree.specs.Proves.{proof_walk}
use Rattle.proof_tree.specs.Views.{proof_of}
use Rattle.search.specs.declared.judge.Outcome.TheVariants.{Valid, Invalid, Saturated, Unknown}
use Rattle.search.specs.Outcomes.{EndsAs, IsTree}
use Rattle.search.specs.Run as run
use Rattle.base_budget.specs.Ending.{Ending, ends_with}
use Rattle.proof_tokens.specs.Spellings.{spelled}
use Rattle.proof_grammar.specs.Shaped.{IsTextOfProof}
use Rattle.proof_canonical.proofs.Proving.{proved_invalid, proved_valid}
use Rattle.base_budget.specs.declared.log.Entry.{Entry}
use Rattle.proof_tree.specs.declared.run.Verdict.TheVariants as verdict
use Rattle.form_encoding.proofs.Problems.{pure_is, root_over}
use Rattle.form_encoding.specs.Problems.{problem_root}
use Rattle.function_encoding.specs.declared.answer.Encoded.{Encoded}
use Rattle.pri_typing.specs.declared.problem.Problem.{Problem}
use Rattle.pri_typing.specs.Problems.{IsPure}
use Rattle.pri_typing.specs.WellFormed.{IsWellFormed}
use Rattle.base_answers.specs.Answer.{Answer, answer_of}
use Rattle.base_answers.specs.declared.output.Output.{Output}
use Rattle.pri_problem.specs.Answers.{Poses, refused, posed}
use Rattle.pri_problem.specs.Encoded.{Fits, IsEncoded, large, leaves, runs}
use Rattle.job_solve.specs.Proved.{AnswersRunAs, IsProofPart, IsParted, IsProofTold, IsSolvedAs, PrintsAsked, PrintsEnd, PrintsProof, PrintsProofOf, PrintsTree, ProvesInvalid, ProvesValid, charges_of, extended, form_text}
use Rattle.base_answers.specs.declared.form.ProofForm.{ProofForm}
use Rattle.job_solve.specs.Solved.{AnswersEnd, AnswersRun, IsSolved, branch, closed, invalid, overflow, run_end, saturated, steps, valid}
use Rattle.job_parts.specs.Parts.{IsCutBy}
use Rattle.job_solve.specs.Shaping.{IsPrintable}
use Rattle.proof_canonical.proofs.Printed.{invalid_outcome, valid_outcome}
use Rattle.pri_problem.proofs.Bytes.{reads_formed}
use Rattle.pri_problem.proofs.Reduced.{problem_reduced}
use Rattle.pri_problem.proofs.Sizes.{searchable}
use Rattle.job_solve.proofs.Outcomes.{run_is, start}
use Rattle.job_solve.proofs.Saturated.{one_or_two}
use Rattle.job_solve.proofs.Meaning.{tells}
use Rattle.job_solve.proofs.Own.{own_text}

unextended : (a : Answer) → a ≡ extended a []
unextended a = ap (λ t. record { status = a.status; text = t }) (sym (append-nil a.text))

-- ---- a text can hold the tree of the outcome
reduced : (p : Problem) (e : Encoded) → IsEncoded p e → HasReducedTerms (form e.root)
reduced p e h = subst HasReducedTerms (sym h.root) (problem_reduced p)

pub valid_printable : (budget : ℕ) (p : Problem) (e : Encoded) → IsEncoded p e → IsWellFormed p → budget ≤ most_budget → (d : List (List Literal)) (vs : List ℤ) (t : Tree) (new : Funds)
    → EndsAs (form e.root) e.constants (start budget) (Ok (Valid d vs t)) new → IsPrintable t
valid_printable budget p e h formed most d vs t new k = λ typed conclusion. valid_outcome (form e.root) e.constants (start budget) new d vs t (searchable p e formed h) (reduced p e h) (omega (arith, most)) k typed

pub invalid_printable : (budget : ℕ) (p : Problem) (e : Encoded) → IsEncoded p e → IsWellFormed p → budget ≤ most_budget → (d : List (List Literal)) (t : Tree) (new : Funds)
    → EndsAs (form e.root) e.constants (start budget) (Ok (Invalid d t)) new → IsPrintable t
invalid_printable budget p e h formed most d t new k = λ typed conclusion. invalid_outcome (form e.root) e.constants (start budget) new d t (searchable p e formed h) (reduced p e h) (omega (arith, most)) k typed

-- ---- the text of the proof after an answer
pub printed_behind : (form : ProofForm) (t : Tree) (status : ℕ) (old mid out : List ℕ) → mid ≡ old ++ codes "proof:\n" → out ≡ mid ++ spelled (form_text form t.charges (proof_of t.root) t.conclusion)
    → IsTextOfProof (spelled (form_text form t.charges (proof_of t.root) t.conclusion)) t.charges (proof_of t.root) t.conclusion
    → (part : List ℕ) × PrintsTree form t part × (record { status = status; text = out } ≡ extended (record { status = status; text = old }) part)
printed_behind form t status old mid out e q holds =
    let tokens = form_text form t.charges (proof_of t.root) t.conclusion in
    let whole : out ≡ old ++ (codes "proof:\n" ++ spelled tokens) = q ∙ ap (λ z. z ++ spelled tokens) e ∙ append_assoc old (codes "proof:\n") (spelled tokens) in (
      codes "proof:\n" ++ spelled tokens,
      record {
        text = spelled tokens;
        line = refl;
        is = refl;
        holds = holds;
        own = own_text (spelled tokens) t.charges (proof_of t.root) t.conclusion holds;
      },
      ap (λ z. record { status = status; text = z }) whole,
    )

-- ---- the proof that is printed is that of the run
-- the tree of the code, as a tree of the problem's run
tree_prints : (wanted : ProofForm) (p : Problem) (e : Encoded) → IsEncoded p e → (x : Proof) (c : Conclusion) (t : Tree) (part : List ℕ) → IsTree (form e.root) e.constants x c t → PrintsTree wanted t part
    → PrintsProof wanted (charges_of p x c) x c part
tree_prints wanted p e h x c t part is prints =
    let of : Form → ℕ → ℕ = λ f n. total (proof_walk f n x c).events in
    let charges : t.charges ≡ charges_of p x c = is.charges ∙ ap (λ f. of f e.constants) h.root ∙ ap (of (problem_root p).value) h.constants in
    let held = prints.holds in
    record {
      text = prints.text;
      line = prints.line;
      is = prints.is ∙ (λ i. spelled (form_text wanted (charges i) (is.root i) (is.conclusion i)));
      holds = subst (λ n. IsTextOfProof prints.text n x c) charges (subst (λ y. IsTextOfProof prints.text t.charges y c) is.root (subst (λ d. IsTextOfProof prints.text t.charges (proof_of t.root) d) is.conclusion held));
      own = prints.own;
    }

-- the part with the proof of a valid or an invalid run
pub valid_part_told : (asked : Option ProofForm) (budget : ℕ) (p : Problem) (e : Encoded) → IsEncoded p e → (d : List (List Literal)) (vs : List ℤ) (t : Tree) (new : Funds) (part : List ℕ)
    → EndsAs (form e.root) e.constants (start budget) (Ok (Valid d vs t)) new → PrintsAsked asked t part → IsProofPart asked p (run_end budget p) part
valid_part_told None budget p e h d vs t new part k prints = prints
valid_part_told (Some wanted) budget p e h d vs t new part k prints =
    subst (λ end. PrintsEnd wanted p end part) (sym k.2 ∙ run_is budget p e h) (tree_prints wanted p e h k.1 (Solution vs) t part k.4 prints)

pub invalid_part_told : (asked : Option ProofForm) (budget : ℕ) (p : Problem) (e : Encoded) → IsEncoded p e → (d : List (List Literal)) (t : Tree) (new : Funds) (part : List ℕ)
    → EndsAs (form e.root) e.constants (start budget) (Ok (Invalid d t)) new → PrintsAsked asked t part → IsProofPart asked p (run_end budget p) part
invalid_part_told None budget p e h d t new part k prints = prints
invalid_part_told (Some wanted) budget p e h d t new part k prints =
    subst (λ end. PrintsEnd wanted p end part) (sym k.3 ∙ run_is budget p e h) (tree_prints wanted p e h k.2 (Nothing k.1) t part k.5 prints)

-- every other run has none
pub saturated_part : (asked : Option ProofForm) (budget : ℕ) (p : Problem) (e : Encoded) → IsEncoded p e → (d : List (List Literal)) (t : Tree) (new : Funds) → EndsAs (form e.root) e.constants (start budget) (Ok (Saturated d t)) new
    → IsProofPart asked p (run_end budget p) []
saturated_part None budget p e h d t new k = refl
saturated_part (Some wanted) budget p e h d t new k = subst (λ end. PrintsEnd wanted p end []) (sym k.3 ∙ run_is budget p e h) refl

pub unknown_part : (asked : Option ProofForm) (budget : ℕ) (p : Problem) (y : Why) → IsCutBy y (run_end budget p) → IsProofPart asked p (run_end budget p) []
unknown_part None budget p y k = refl
unknown_part (Some wanted) budget p why.Branch k = subst (λ end. PrintsEnd wanted p end []) (sym k.1) refl
unknown_part (Some wanted) budget p why.Steps k = subst (λ end. PrintsEnd wanted p end []) (sym k.1) refl
unknown_part (Some wanted) budget p (why.Overflow place) k = subst (λ end. PrintsEnd wanted p end []) (sym k.2) refl

-- ---- the whole answer
-- an answer without a part after it
pub alone_as : (asked : Option ProofForm) (budget : ℕ) (p : Problem) (r : Result Output Memory) → IsProofPart asked p (run_end budget p) [] → IfOk r (λ out. AnswersRun budget p (answer_of out)) → IfOk r (λ out. AnswersRunAs asked budget p (answer_of out))
alone_as asked budget p (Ok out) none answers = record { plain = answer_of out; answers = answers; part = []; is_part = none; whole = unextended (answer_of out) }
alone_as asked budget p (Err m) none answers = tt

-- an answer with the proof after it that is asked for
pub proved_as : (asked : Option ProofForm) (budget : ℕ) (p : Problem) (t : Tree) (plain : Output) (r : Result Output Memory) → AnswersRun budget p (answer_of plain) → ((part : List ℕ) → PrintsAsked asked t part → IsProofPart asked p (run_end budget p) part)
    → IfOk r (λ out. IsProofTold asked t (answer_of plain) (answer_of out)) → IfOk r (λ out. AnswersRunAs asked budget p (answer_of out))
proved_as asked budget p t plain (Ok out) answers part told = record { plain = answer_of plain; answers = answers; part = told.part; is_part = part told.part told.prints; whole = told.whole }
proved_as asked budget p t plain (Err m) answers part told = tt

-- what is so of each answer of a call is so of its answer
pub if_ok : {P Q : Answer → Type 0} (r : Result Output Memory) → ((a : Answer) → P a → Q a) → IfOk r (λ out. P (answer_of out)) → IfOk r (λ out. Q (answer_of out))
if_ok (Ok out) f h = f (answer_of out) h
if_ok (Err m) f h = tt

-- ---- the answer without its proof
not_asked : (budget : ℕ) (bytes : List ℕ) (a : Answer) (asked : Option ProofForm) → IsSolved budget bytes a → a.status ≢ 0 → a.status ≢ 1 → IsParted asked budget bytes a
not_asked budget bytes a asked solved zero one = record {
  plain = a;
  solved = solved;
  part = [];
  whole = unextended a;
  none = λ off. refl;
  valid = λ form on z. absurd (zero z);
  invalid = λ form on z. absurd (one z);
}

no_part : (asked : Option ProofForm) (p : Problem) (end : Ending run.RunAnswer) (part : List ℕ) → IsProofPart asked p end part → asked ≡ None → part ≡ []
no_part asked p end part is off = subst (λ a. IsProofPart a p end part) off is

its_part : (asked : Option ProofForm) (wanted : ProofForm) (p : Problem) (end : Ending run.RunAnswer) (part : List ℕ) → IsProofPart asked p end part → asked ≡ Some wanted → PrintsEnd wanted p end part
its_part asked wanted p end part is on = subst (λ a. IsProofPart a p end part) on is

-- the run on the encoded problem starts from nothing
funds : ℕ → Funds
funds budget = record { budget = budget; spent = 0 }

valid_part : (wanted : ProofForm) (budget : ℕ) (bytes : List ℕ) (p : Problem) (vs : List ℤ) (x : Proof) (stands : At) (part : List ℕ) → Poses bytes p → Fits p → run_end budget p ≡ ends_with (run.valid vs x) stands → PrintsEnd wanted p (run_end budget p) part
    → PrintsProofOf wanted bytes (verdict.Valid vs) part
unfolding funds
valid_part wanted budget bytes p vs x stands part poses fits is prints = record {
  problem = p;
  poses = poses;
  fits = fits;
  tree = x;
  conclusion = Solution vs;
  charges = charges_of p x (Solution vs);
  prints = subst (λ end. PrintsEnd wanted p end part) is prints;
  proves = proved_valid (problem_root p).value (length p.existentials) (funds budget) vs x stands (root_over p (reads_formed bytes p poses.reads)) (problem_reduced p) is;
}

invalid_part : (wanted : ProofForm) (budget : ℕ) (bytes : List ℕ) (p : Problem) (log : List Entry) (x : Proof) (stands : At) (part : List ℕ) → Poses bytes p → Fits p → run_end budget p ≡ ends_with (run.invalid log x) stands → PrintsEnd wanted p (run_end budget p) part
    → PrintsProofOf wanted bytes verdict.Invalid part
unfolding funds
invalid_part wanted budget bytes p log x stands part poses fits is prints = record {
  problem = p;
  poses = poses;
  fits = fits;
  tree = x;
  conclusion = Nothing (record { entries = log });
  charges = charges_of p x (Nothing (record { entries = log }));
  prints = subst (λ end. PrintsEnd wanted p end part) is prints;
  proves = proved_invalid (problem_root p).value (length p.existentials) (funds budget) (record { entries = log }) x stands (root_over p (reads_formed bytes p poses.reads)) (problem_reduced p) is;
}

-- where a run ends saturated the problem has a predicate or a function
pub impure_is : (budget : ℕ) (bytes : List ℕ) (p : Problem) (log : List Entry) (x : Proof) (stands : At) → Poses bytes p → run_end budget p ≡ ends_with (run.saturated log x) stands → ¬ (IsPure p)
impure_is budget bytes p log x stands poses is pure =
    let bad = sym ((pure_is p).1 pure) ∙ tells budget p (root_over p (reads_formed bytes p poses.reads)) (run.saturated log x) stands is in absurd (cc)

not_zero : {n : ℕ} → (n ≡ 1) ⊎ (n ≡ 2) → n ≡ 0 → ⊥
not_zero (inl h) z = cc
not_zero (inr h) z = cc

end_valid : (wanted : ProofForm) (budget : ℕ) (bytes : List ℕ) (p : Problem) (a : Answer) (part : List ℕ) → Poses bytes p → Fits p → AnswersEnd p (run_end budget p) a → PrintsEnd wanted p (run_end budget p) part → a.status ≡ 0
    → ProvesValid wanted bytes a.text part
unfolding valid_part
end_valid wanted budget bytes p a part poses fits (closed vs x stands text is none told e) prints z = record {
  values = vs;
  prints = valid_part wanted budget bytes p vs x stands part poses fits is prints;
  told = λ some. absurd (some none);
}
end_valid wanted budget bytes p a part poses fits (valid vs x stands text is some printed e) prints z = record {
  values = vs;
  prints = valid_part wanted budget bytes p vs x stands part poses fits is prints;
  told = λ _. (text, printed, ap (λ b. b.text) e);
}
end_valid wanted budget bytes p a part poses fits (invalid log x stands is e) prints z = let bad = sym z ∙ ap (λ b. b.status) e in absurd cc
end_valid wanted budget bytes p a part poses fits (saturated log x stands is told) prints z = absurd (not_zero (one_or_two p x stands.funds a told) z)
end_valid wanted budget bytes p a part poses fits (branch stands is e) prints z = let bad = sym z ∙ ap (λ b. b.status) e in absurd cc
end_valid wanted budget bytes p a part poses fits (steps stands is e) prints z = let bad = sym z ∙ ap (λ b. b.status) e in absurd cc
end_valid wanted budget bytes p a part poses fits (overflow numbers stands is e) prints z = let bad = sym z ∙ ap (λ b. b.status) e in absurd cc

end_invalid : (wanted : ProofForm) (budget : ℕ) (bytes : List ℕ) (p : Problem) (a : Answer) (part : List ℕ) → Poses bytes p → Fits p → AnswersEnd p (run_end budget p) a → PrintsEnd wanted p (run_end budget p) part → a.status ≡ 1
    → ProvesInvalid wanted bytes part
end_invalid wanted budget bytes p a part poses fits (closed vs x stands text is none told e) prints z = let bad = sym z ∙ ap (λ b. b.status) e in absurd cc
end_invalid wanted budget bytes p a part poses fits (valid vs x stands text is some printed e) prints z = let bad = sym z ∙ ap (λ b. b.status) e in absurd cc
end_invalid wanted budget bytes p a part poses fits (invalid log x stands is e) prints z = inl (invalid_part wanted budget bytes p log x stands part poses fits is prints)
end_invalid wanted budget bytes p a part poses fits (saturated log x stands is told) prints z = inr (subst (λ end. PrintsEnd wanted p end part) is prints, (p, poses, impure_is budget bytes p log x stands poses is))
end_invalid wanted budget bytes p a part poses fits (branch stands is e) prints z = let bad = sym z ∙ ap (λ b. b.status) e in absurd cc
end_invalid wanted budget bytes p a part poses fits (steps stands is e) prints z = let bad = sym z ∙ ap (λ b. b.status) e in absurd cc
end_invalid wanted budget bytes p a part poses fits (overflow numbers stands is e) prints z = let bad = sym z ∙ ap (λ b. b.status) e in absurd cc

apart : (n m : ℕ) (a : Answer) (e : a.status ≡ n) → n ≢ m → a.status ≢ m
apart n m a e differ z = differ (sym e ∙ z)

pub parted : (asked : Option ProofForm) (budget : ℕ) (bytes : List ℕ) (a : Answer) → IsSolvedAs asked budget bytes a → IsParted asked budget bytes a
parted asked budget bytes a (refused r h e) = not_asked budget bytes a asked (refused r h e) (apart 3 0 a (ap (λ b. b.status) e) (λ z. cc)) (apart 3 1 a (ap (λ b. b.status) e) (λ z. cc))
parted asked budget bytes a (posed p h (large l e)) = not_asked budget bytes a asked (posed p h (large l e)) (apart 3 0 a (ap (λ b. b.status) e) (λ z. cc)) (apart 3 1 a (ap (λ b. b.status) e) (λ z. cc))
parted asked budget bytes a (posed p h (leaves l e)) = not_asked budget bytes a asked (posed p h (leaves l e)) (apart 2 0 a (ap (λ b. b.status) e) (λ z. cc)) (apart 2 1 a (ap (λ b. b.status) e) (λ z. cc))
parted asked budget bytes a (posed p h (runs f k)) = record {
  plain = k.plain;
  solved = posed p h (runs f k.answers);
  part = k.part;
  whole = k.whole;
  none = no_part asked p (run_end budget p) k.part k.is_part;
  valid = λ wanted on z. end_valid wanted budget bytes p k.plain k.part h f k.answers (its_part asked wanted p (run_end budget p) k.part k.is_part on) z;
  invalid = λ wanted on z. end_invalid wanted budget bytes p k.plain k.part h f k.answers (its_part asked wanted p (run_end budget p) k.part k.is_part on) z;
}

-- where no proof is asked for, the answer is that of `solve` alone
pub plain_solved : (budget : ℕ) (bytes : List ℕ) (a : Answer) → IsSolvedAs None budget bytes a → IsSolved budget bytes a
plain_solved budget bytes a h =
    let s = parted None budget bytes a h in
    subst (IsSolved budget bytes) (sym (s.whole ∙ ap (extended s.plain) (s.none refl) ∙ sym (unextended s.plain))) s.solved
