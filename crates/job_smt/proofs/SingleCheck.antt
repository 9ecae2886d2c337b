-- Answers to a check of one problem, and of problems that are the same.
use Rattle.std.proofs.Common.{ℕ, ◌≡◌, inl, inr, true, false, [], refl, sym, ap, ◌∙◌}
use Rattle.form_encoding.specs.Problems.{is_large, problem_root}
use Rattle.pri_typing.specs.WellFormed.{IsWellFormed}
use Rattle.pri_typing.specs.declared.problem.Problem.{Problem}
use Rattle.pri_problem.specs.Encoded.{IsLarge}
use Rattle.pri_problem.specs.Reads.{AreSame}
use Rattle.pri_problem.proofs.Encoded.{root_same}
use Rattle.job_smt.specs.declared.checking.CheckAnswer.{CheckAnswer}
use Rattle.job_smt.specs.declared.checking.CheckAnswer.TheVariants.{Unsat, Sat, Unknown}
use Rattle.job_smt.specs.Answers.{AreAlike, IsCheckAnswer, ends, leaves, proved, refuted}
use Rattle.job_smt.proofs.Answered.{never_both, sat_refuted, unsat_holds}

pub alike : (budget : ℕ) (p : Problem) (a b : CheckAnswer) → IsWellFormed p → p.existentials ≡ [] → IsCheckAnswer budget p a → IsCheckAnswer budget p b → AreAlike a b
alike budget p (Unknown cause) b formed none h k = inr (inl refl)
alike budget p Unsat (Unknown cause) formed none h k = inr (inr refl)
alike budget p Sat (Unknown cause) formed none h k = inr (inr refl)
alike budget p Unsat Unsat formed none h k = inl refl
alike budget p Sat Sat formed none h k = inl refl
alike budget p Unsat Sat formed none h k = absurd (never_both p none (λ w. unsat_holds w budget p formed none h) (sat_refuted budget p formed k))
alike budget p Sat Unsat formed none h k = absurd (never_both p none (λ w. unsat_holds w budget p formed none k) (sat_refuted budget p formed h))

large_same : (p q : Problem) → AreSame p q → is_large (problem_root p).value ≡ is_large (problem_root q).value
large_same p q same = ap (λ w. is_large w.value) (root_same p q same)

small_same : (p q : Problem) → AreSame p q → is_large (problem_root q).value ≡ false → IsLarge p → ⊥
small_same p q same small l = let bad : true ≡ false = sym l ∙ large_same p q same ∙ small in cc

pub not_large : (budget : ℕ) (p q : Problem) (b : CheckAnswer) → AreSame p q → IsCheckAnswer budget q b → IsLarge p → ⊥
not_large budget p q b same (leaves m f) l = small_same p q same m.0 l
not_large budget p q b same (ends g f) l = small_same p q same g.0 l
not_large budget p q b same (proved g early file k f) l = small_same p q same g.0 l
not_large budget p q b same (refuted g early m us k f) l = small_same p q same g.0 l
