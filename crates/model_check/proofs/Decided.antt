-- The truth of disjunctions over no names.
use Rattle.std.proofs.Common.{◌≡◌, ℕ, zero, suc, ◌+◌, ◌-◌, ◌^◌, ◌<◌, ◌≤◌, ◌≢◌, ℤ, Bool, true, false, ◌||◌, List, [], ◌∷◌, length, drop, get_or, min, refl, sym, ap, ◌∙◌, subst, arith}
use Rattle.std.specs.List.{list_any}
use Rattle.clause_set.specs.declared.literal.Literal.{Literal}
use Rattle.clause_set.specs.Literals.{dnf_truth, clause_truth}
use Rattle.elim_laws.specs.Presburger.{plain}
use Rattle.elim_laws.specs.Whole.{IsExact}
use Rattle.formula.specs.Form.{Form, FormTruth, is_pure}
use Rattle.formula.proofs.Anywhere.{truth_anywhere}
use Rattle.form_typed.specs.Truth.{Meaning}
use Rattle.model_check.specs.Judged.{Judges}

pub none_seen : (d : List (List Literal)) (n : ℕ) → n ≡ length d → n ≡ 0 → false ≡ dnf_truth d []
none_seen [] n is none = refl
none_seen (c ∷ d) n is none = absurd (omega (arith, is, none))

either_true : (a b : Bool) → b ≡ true → (a || b) ≡ true
either_true a b h = grind arith

pub one_seen : (d : List (List Literal)) (i : ℕ) (c ls : List Literal) → i < length d → c ≡ get_or d i c → ls ≡ c → ls ≡ [] → true ≡ dnf_truth d []
one_seen [] i c ls lt is same none = absurd (omega (arith, lt))
one_seen (x ∷ d) zero c ls lt is same none = sym (ap (λ l. clause_truth l [] || dnf_truth d []) (sym is ∙ sym same ∙ none))
one_seen (x ∷ d) (suc i) c ls lt is same none = sym (either_true (clause_truth x []) (dnf_truth d []) (sym (one_seen d i c ls (omega (arith, lt)) is same none)))

pub ruleset seen = (none_seen, one_seen)

pub judged_by : (f : Form) (d : List (List Literal)) (b : Bool) → is_pure f ≡ true → IsExact d f 0 → b ≡ dnf_truth d [] → Judges b f
judged_by f d b pure exact is = record {
  good = λ h w. truth_anywhere plain w f [] pure ((exact.tells [] refl).yes (sym is ∙ h));
  bad = λ h w t. (exact.tells [] refl).no (sym is ∙ h) (truth_anywhere w plain f [] pure t);
}

pub ruleset decided = (judged_by)
