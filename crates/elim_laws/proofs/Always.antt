-- "Every value" is "no value" of the negation, by the rules that come first and by any log.
use Rattle.std.proofs.Common.{◌≡◌, ℕ, ℤ, Bool, true, false, not, List, refl, sym, ◌∙◌, subst}
use Rattle.base_integers.specs.Entry.{put}
use Rattle.clause_set.specs.declared.literal.Literal.{Literal}
use Rattle.clause_set.specs.Dnfs.{negation}
use Rattle.clause_set.specs.Kept.{AreFormed}
use Rattle.clause_set.specs.Literals.{dnf_truth, AreLiterals}
use Rattle.clause_set.proofs.Reduced.{negation-truth}
use Rattle.clause_set.proofs.Shapes.{negation-formed, negation-free}
use Rattle.base_budget.specs.Trace.{next}
use Rattle.elim_laws.specs.Elimination.{IsAlwaysMet, IsEvery, IsOut, exists_name, for_all_name}
use Rattle.elim_laws.specs.Logs.{Reader, Yields, every_by_log, name_by_log, read_next, reads_none}
use Rattle.elim_laws.proofs.Accepted.{name_yields}
use Rattle.elim_laws.proofs.Forms.{formed-literals}
use Rattle.elim_laws.proofs.Replays.{yields_next, yields_none}
use Rattle.elim_laws.proofs.Taking.{exists_name-out}

not_true : (b : Bool) → not b ≡ true → b ≡ false
not_true false h = refl
not_true true h = absurd (cc)

not_false : (b : Bool) → not b ≡ false → b ≡ true
not_false true h = refl
not_false false h = absurd (cc)

module _ (x : ℕ) (d r : List (List Literal)) (formed : AreLiterals d) (out : IsOut x (negation d).value r) where
  literals : AreLiterals r
  literals = formed-literals r out.formed

  -- where every value makes d true, none makes its negation true
  every_kept : (e : List ℤ) → IsAlwaysMet d x e → dnf_truth (negation r).value e ≡ true
  every_kept e h = negation-truth r e literals ∙ by (dnf_truth r e) refl
    where
      by : (b : Bool) → dnf_truth r e ≡ b → not b ≡ true
      by false is = refl
      by true is = absurd (let m = out.back e is in let n = negation-truth d (put e x (m.0)) formed in let t = h (m.0) in let k = m.1 in cc)

  every_back : (e : List ℤ) → dnf_truth (negation r).value e ≡ true → IsAlwaysMet d x e
  every_back e h v = by (dnf_truth d (put e x v)) refl
    where
      by : (b : Bool) → dnf_truth d (put e x v) ≡ b → b ≡ true
      by true is = refl
      by false is = absurd (let n = negation-truth d (put e x v) formed in let met : dnf_truth (negation d).value (put e x v) ≡ true = cc in let t = out.kept e (v, met) in let k = negation-truth r e literals in cc)

  -- and where some value makes its negation true, that value makes d false
  every_witness : (e : List ℤ) → dnf_truth (negation r).value e ≡ false → (v : ℤ) × (dnf_truth d (put e x v) ≡ false)
  every_witness e f =
      let m = out.back e (not_false (dnf_truth r e) (sym (negation-truth r e literals) ∙ f)) in
      (m.0, not_true (dnf_truth d (put e x (m.0))) (sym (negation-truth d (put e x (m.0)) formed) ∙ m.1))

  every_of : IsEvery x d (negation r).value
  every_of = record { kept = every_kept; back = every_back; witness = every_witness; formed = negation-formed r literals; free = negation-free x r out.free }

-- the elimination of a for-all of the name x
pub for_all_name-every : (x : ℕ) (d : List (List Literal)) → AreFormed d → IsEvery x d (for_all_name x d).value
unfolding next
for_all_name-every x d h =
    let literals = formed-literals d h in
    every_of x d (exists_name x (negation d).value).value literals (exists_name-out x (negation d).value (negation-formed d literals))

pub every_yields : (x : ℕ) (d : List (List Literal)) → AreFormed d → Yields (every_by_log x d) (IsEvery x d)
every_yields x d h =
    let literals = formed-literals d h in
    let out : List (List Literal) → Reader (List (List Literal)) = (λ n. read_next (name_by_log x n) (λ c. reads_none (negation c))) in
    let one : Yields (out (negation d).value) (IsEvery x d) =
    yields_next (name_by_log x (negation d).value) (λ c. reads_none (negation c)) (IsOut x (negation d).value) (IsEvery x d) (name_yields x (negation d).value (negation-formed d literals))
    (λ r o. yields_none (negation r) (IsEvery x d) (every_of x d r literals o)) in
    yields_next (reads_none (negation d)) out (λ n. n ≡ (negation d).value) (IsEvery x d) (yields_none (negation d) (λ n. n ≡ (negation d).value) refl)
    (λ n is. subst (λ z. Yields (out z) (IsEvery x d)) (sym is) one)
