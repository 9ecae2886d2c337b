-- Where each answer to a clause proof comes.
use Rattle.std.proofs.Common.{◌≡◌, ◌≢◌, ◌∙◌, ◌⊎◌, inl, inr, ℕ, ℤ, List, [], ◌∷◌, ◌++◌, length, refl, sym, ap, codes, arith}
use Rattle.std.specs.Fmt.{decimal}
use Rattle.model_trees.specs.Walk.{point}
use Rattle.form_encoding.specs.Problems.{problem_root}
use Rattle.pri_typing.specs.declared.problem.Problem.{Problem}
use Rattle.pri_printer.specs.Printed.{dnf_text}
use Rattle.base_answers.specs.Answer.{Answer, line, says_line, refused_proof_answer}
use Rattle.pri_lines.specs.Lines.{valued_lines}
use Rattle.clause_file.specs.Verdicts.{IsVerdict, Verdict, proof as shows, refused, wrong}
use Rattle.job_check.specs.Causes.{AreClauseCauses, IsWrittenOf}
use Rattle.job_check.specs.Clauses as clause
use Rattle.job_check.specs.Clauses.{AnswersClauses, HasDearLine, HasWrongLine, IsRefusedText, ReachesLine, Shows}
use Rattle.job_check.specs.Exactly as exactly
use Rattle.job_check.specs.Exactly.{IsCutAnswer}
use Rattle.job_check.proofs.Exactly.{clauses_decided, status_of}
use Rattle.job_check.proofs.Shown.{one}
use Rattle.job_check.proofs.TreeCauses.{accepted_other, letters_same, numbers_same}

-- the answer of a clause proof that is accepted, for these names of existential constants
abbrev shown_answer : Problem → List (List ℕ) → List ℤ → Answer
shown_answer p [] vs = says_line 0 (codes "CHECKED VALID")
shown_answer p (name ∷ names) vs = record { status = 0; text = line (codes "CHECKED VALID") ++ valued_lines p (dnf_text p (point vs)) vs }

abbrev answer_to : Problem → Verdict → Answer
answer_to p (shows vs) = shown_answer p p.existentials vs
answer_to p (wrong at) = refused_proof_answer (codes "line " ++ decimal at)
answer_to p (refused at) = refused_proof_answer (codes "Syntax at " ++ decimal at)

abbrev IsVerdictOf : Problem → List ℕ → Verdict → Type 0
IsVerdictOf p proof v = IsVerdict (problem_root p).value (length p.existentials) proof v

-- an answer with the verdict that it tells
record Told (p : Problem) (proof : List ℕ) (a : Answer) : Type 0 where
  verdict : Verdict
  is_verdict : IsVerdictOf p proof verdict
  is : a ≡ answer_to p verdict

valued : (p : Problem) (names : List (List ℕ)) (vs : List ℤ) → names ≢ [] → record { status = 0; text = line (codes "CHECKED VALID") ++ valued_lines p (dnf_text p (point vs)) vs } ≡ shown_answer p names vs
valued p [] vs some = absurd (some refl)
valued p (name ∷ names) vs some = refl

told : (p : Problem) (proof : List ℕ) (a : Answer) (v : Verdict) → IsVerdictOf p proof v → a ≡ answer_to p v → Told p proof a ⊎ IsCutAnswer a
told p proof a v h e = inl (record { verdict = v; is_verdict = h; is = e })

by_row : (p : Problem) (proof : List ℕ) (a : Answer) → AnswersClauses proof p a → Told p proof a ⊎ IsCutAnswer a
by_row p proof a (clause.syntax at h e) = told p proof a (refused at) h e
by_row p proof a (clause.wrong at h e) = told p proof a (wrong at) h e
by_row p proof a (clause.range at h e) = inr (exactly.range at e)
by_row p proof a (clause.cost at h e) = inr (exactly.cost at e)
by_row p proof a (clause.closed vs h none e) = told p proof a (shows vs) h (e ∙ sym (ap (λ names. shown_answer p names vs) none))
by_row p proof a (clause.valid vs text h some printed e) =
    told p proof a (shows vs) h (e ∙ ap (λ t. record { status = 0; text = line (codes "CHECKED VALID") ++ valued_lines p t vs }) printed.text ∙ valued p p.existentials vs some)

same_verdict : (p : Problem) (proof : List ℕ) (a : Answer) (t : Told p proof a) (v : Verdict) → IsVerdictOf p proof v → a ≡ answer_to p v
same_verdict p proof a t v h = t.is ∙ ap (answer_to p) (one p proof t.verdict v t.is_verdict h)

-- where this is so of the file, the answer tells it, or its check was cut
there : (p : Problem) (proof : List ℕ) (a : Answer) (v : Verdict) → AnswersClauses proof p a → IsVerdictOf p proof v → (a ≡ answer_to p v) ⊎ IsCutAnswer a
there p proof a v row h = by (by_row p proof a row)
  where
    by : Told p proof a ⊎ IsCutAnswer a → (a ≡ answer_to p v) ⊎ IsCutAnswer a
    by (inl t) = inl (same_verdict p proof a t v h)
    by (inr cut) = inr cut

pub one_clauses : (p : Problem) (proof : List ℕ) (a b : Answer) → AnswersClauses proof p a → AnswersClauses proof p b → (a ≡ b) ⊎ (IsCutAnswer a ⊎ IsCutAnswer b)
one_clauses p proof a b h k = by (by_row p proof b k)
  where
    so : (t : Told p proof b) → (a ≡ answer_to p t.verdict) ⊎ IsCutAnswer a → (a ≡ b) ⊎ (IsCutAnswer a ⊎ IsCutAnswer b)
    so t (inl e) = inl (e ∙ sym t.is)
    so t (inr cut) = inr (inl cut)

    by : Told p proof b ⊎ IsCutAnswer b → (a ≡ b) ⊎ (IsCutAnswer a ⊎ IsCutAnswer b)
    by (inl t) = so t (there p proof a t.verdict h t.is_verdict)
    by (inr cut) = inr (inr cut)

-- ---- from a refusal to its cause

syntax_by : (p : Problem) (proof : List ℕ) (a : Answer) (at : ℕ) → a ≡ refused_proof_answer (codes "Syntax at " ++ decimal at) → AnswersClauses proof p a → IsWrittenOf (IsRefusedText p proof) at
syntax_by p proof a at e (clause.syntax n h is) = (n, h, numbers_same a (codes "Syntax at ") n at is e)
syntax_by p proof a at e (clause.wrong n h is) = let bad : 108 ≡ 83 = letters_same a (codes "line " ++ decimal n) (codes "Syntax at " ++ decimal at) is e in absurd (omega (arith, bad))
syntax_by p proof a at e (clause.range n h is) = let bad : 114 ≡ 83 = letters_same a (codes "range " ++ decimal n) (codes "Syntax at " ++ decimal at) is e in absurd (omega (arith, bad))
syntax_by p proof a at e (clause.cost n h is) = let bad : 99 ≡ 83 = letters_same a (codes "cost " ++ decimal n) (codes "Syntax at " ++ decimal at) is e in absurd (omega (arith, bad))
syntax_by p proof a at e (clause.closed vs h none is) = absurd (accepted_other a (codes "Syntax at " ++ decimal at) (ap status_of is) e)
syntax_by p proof a at e (clause.valid vs text h some printed is) = absurd (accepted_other a (codes "Syntax at " ++ decimal at) (ap status_of is) e)

wrong_by : (p : Problem) (proof : List ℕ) (a : Answer) (at : ℕ) → a ≡ refused_proof_answer (codes "line " ++ decimal at) → AnswersClauses proof p a → IsWrittenOf (HasWrongLine p proof) at
wrong_by p proof a at e (clause.syntax n h is) = let bad : 83 ≡ 108 = letters_same a (codes "Syntax at " ++ decimal n) (codes "line " ++ decimal at) is e in absurd (omega (arith, bad))
wrong_by p proof a at e (clause.wrong n h is) = (n, h, numbers_same a (codes "line ") n at is e)
wrong_by p proof a at e (clause.range n h is) = let bad : 114 ≡ 108 = letters_same a (codes "range " ++ decimal n) (codes "line " ++ decimal at) is e in absurd (omega (arith, bad))
wrong_by p proof a at e (clause.cost n h is) = let bad : 99 ≡ 108 = letters_same a (codes "cost " ++ decimal n) (codes "line " ++ decimal at) is e in absurd (omega (arith, bad))
wrong_by p proof a at e (clause.closed vs h none is) = absurd (accepted_other a (codes "line " ++ decimal at) (ap status_of is) e)
wrong_by p proof a at e (clause.valid vs text h some printed is) = absurd (accepted_other a (codes "line " ++ decimal at) (ap status_of is) e)

range_by : (p : Problem) (proof : List ℕ) (a : Answer) (at : ℕ) → a ≡ refused_proof_answer (codes "range " ++ decimal at) → AnswersClauses proof p a → IsWrittenOf (ReachesLine p proof) at
range_by p proof a at e (clause.syntax n h is) = let bad : 83 ≡ 114 = letters_same a (codes "Syntax at " ++ decimal n) (codes "range " ++ decimal at) is e in absurd (omega (arith, bad))
range_by p proof a at e (clause.wrong n h is) = let bad : 108 ≡ 114 = letters_same a (codes "line " ++ decimal n) (codes "range " ++ decimal at) is e in absurd (omega (arith, bad))
range_by p proof a at e (clause.range n h is) = (n, h, numbers_same a (codes "range ") n at is e)
range_by p proof a at e (clause.cost n h is) = let bad : 99 ≡ 114 = letters_same a (codes "cost " ++ decimal n) (codes "range " ++ decimal at) is e in absurd (omega (arith, bad))
range_by p proof a at e (clause.closed vs h none is) = absurd (accepted_other a (codes "range " ++ decimal at) (ap status_of is) e)
range_by p proof a at e (clause.valid vs text h some printed is) = absurd (accepted_other a (codes "range " ++ decimal at) (ap status_of is) e)

cost_by : (p : Problem) (proof : List ℕ) (a : Answer) (at : ℕ) → a ≡ refused_proof_answer (codes "cost " ++ decimal at) → AnswersClauses proof p a → IsWrittenOf (HasDearLine p proof) at
cost_by p proof a at e (clause.syntax n h is) = let bad : 83 ≡ 99 = letters_same a (codes "Syntax at " ++ decimal n) (codes "cost " ++ decimal at) is e in absurd (omega (arith, bad))
cost_by p proof a at e (clause.wrong n h is) = let bad : 108 ≡ 99 = letters_same a (codes "line " ++ decimal n) (codes "cost " ++ decimal at) is e in absurd (omega (arith, bad))
cost_by p proof a at e (clause.range n h is) = let bad : 114 ≡ 99 = letters_same a (codes "range " ++ decimal n) (codes "cost " ++ decimal at) is e in absurd (omega (arith, bad))
cost_by p proof a at e (clause.cost n h is) = (n, h, numbers_same a (codes "cost ") n at is e)
cost_by p proof a at e (clause.closed vs h none is) = absurd (accepted_other a (codes "cost " ++ decimal at) (ap status_of is) e)
cost_by p proof a at e (clause.valid vs text h some printed is) = absurd (accepted_other a (codes "cost " ++ decimal at) (ap status_of is) e)

pub clause_causes : (p : Problem) (proof : List ℕ) (a : Answer) → AnswersClauses proof p a → AreClauseCauses p proof a
clause_causes p proof a row =
    let d = clauses_decided p proof a row in
    record {
      accepts = d.accepts;
      holds = d.holds;
      syntax = record { there = λ at h. there p proof a (refused at) row h; only = λ at e. syntax_by p proof a at e row };
      line = record { there = λ at h. there p proof a (wrong at) row h; only = λ at e. wrong_by p proof a at e row };
      range = λ at e. range_by p proof a at e row;
      cost = λ at e. cost_by p proof a at e row;
    }
