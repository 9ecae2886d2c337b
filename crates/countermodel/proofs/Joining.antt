-- Values of types, one after the other.
use Rattle.std.proofs.Common.{◌≡◌, ℤ, List, [], ◌∷◌, ◌++◌, length, Option, Some, None, refl, sym, ◌∙◌, ap, append_assoc, append-nil}
use Rattle.form_typed.specs.declared.typed.Sort.{Sort}
use Rattle.countermodel.specs.Probes.{probe_value, probe_values, with_value}

-- these values, and those that are found after them
abbrev pub behind : List ℤ → Option (List ℤ) → Option (List ℤ)
behind vs None = None
behind vs (Some us) = Some (vs ++ us)

-- all are still to come
pub all_behind : (new : List ℤ) (rest ss : List Sort) → new ≡ [] → rest ≡ ss → behind new (probe_values rest) ≡ probe_values ss
all_behind new rest ss none same = (λ i. behind (none i) (probe_values (same i))) ∙ by (probe_values ss)
  where
    by : (o : Option (List ℤ)) → behind [] o ≡ o
    by None = refl
    by (Some us) = refl

-- a type without a value
pub none_behind : (vs : List ℤ) (s : Sort) (rest ss : List Sort) (r : Option ℤ) (all : Option (List ℤ)) → rest ≡ s ∷ ss → behind vs (probe_values rest) ≡ all → r ≡ probe_value s → r ≡ None → None ≡ all
none_behind vs s rest ss r all at inv found none = ap (λ o. behind vs (with_value o (probe_values ss))) (sym none ∙ found) ∙ ap (λ ts. behind vs (probe_values ts)) (sym at) ∙ inv

-- one more value
pub one_behind : (vs new : List ℤ) (v : ℤ) (s : Sort) (rest ss : List Sort) (r : Option ℤ) (all : Option (List ℤ)) → rest ≡ s ∷ ss → behind vs (probe_values rest) ≡ all → r ≡ probe_value s → r ≡ Some v → new ≡ vs ++ v ∷ []
    → behind new (probe_values ss) ≡ all
one_behind vs new v s rest ss r all at inv found some is =
    ap (λ us. behind us (probe_values ss)) is ∙ by (probe_values ss) ∙ ap (λ o. behind vs (with_value o (probe_values ss))) (sym some ∙ found) ∙ ap (λ ts. behind vs (probe_values ts)) (sym at) ∙ inv
  where
    by : (o : Option (List ℤ)) → behind (vs ++ v ∷ []) o ≡ behind vs (with_value (Some v) o)
    by None = refl
    by (Some us) = ap Some (append_assoc vs (v ∷ []) us)

-- no type is left
pub none_left : (vs : List ℤ) (rest : List Sort) (all : Option (List ℤ)) → length rest ≡ 0 → behind vs (probe_values rest) ≡ all → Some vs ≡ all
none_left vs [] all none inv = ap Some (sym (append-nil vs)) ∙ inv
none_left vs (s ∷ rest) all none inv = absurd (cc)
