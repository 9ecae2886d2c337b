-- What is so at each place of a formula is so at each place of what parts assume.
use Rattle.std.proofs.Common.{◌≡◌, ◌↔◌, ℕ, Bool, true, false, not, if◌then◌else◌, ℤ, ◌+◌, ◌≤◌, List, [], ◌∷◌, ◌++◌, length, length-append, map, ◌∙◌, arith}
use Rattle.std.specs.List.{AllByRecursion, filter}
use Rattle.form_typed.specs.Formula.{Formula, Formulas, formula, formulas, constant, compares, applies, negation, every, some, implies, iff, for_all, for_some, part, no_formula, and_formula}
use Rattle.form_typed.specs.Truth.{Meaning, Truth}
use Rattle.pri_typing.specs.declared.problem.Problem.{Problem}
use Rattle.pri_typing.specs.Everywhere.{Property, Everywhere, AllEverywhere}
use Rattle.pri_typing.specs.Problems.{IsPure, IsNoPredicate, IsNoCall, assumed, assumed_by, is_part_in}
use Rattle.pri_typing.specs.WellFormed.{IsWellFormed, IsLinear, SignedFormula, components_of, formula_components, all_formula_components, of_terms}
use Rattle.formula.specs.Form.{Form, Forms, FormTruth, AreFormsTrue, IsFormOver, AreFormsOver, is_pure, are_pure, forms, no_form, and_form}
use Rattle.std.proofs.lemmas.Bool.{and_parts, and_from}
use Rattle.base_budget.specs.Trace.{just, next}
use Rattle.form_encoding.specs.Encoding.{all_encoded}
use Rattle.form_encoding.specs.Meaning.{AreTypedIn}
use Rattle.form_encoding.specs.Occurrences.{occurs}
use Rattle.form_encoding.specs.Root.{names_from, conditions}
use Rattle.form_encoding.specs.Problems.{constants, types, append, parts_root}
use Rattle.form_encoding.proofs.Conditions.{conditions_true, conditions_true_pure, conditions_alone_over, kept_each}
use Rattle.form_encoding.proofs.Problems.{over_constants_is, constants_over}
use Rattle.form_encoding.proofs.Frees.{free_is, everywhere_free}

-- the property asks nothing of a negation and of a conjunction themselves
pub record Passes (P : Property) : Type 0 where
  pub nots : (f : Formula) → P.of_formula 0 (negation f)
  pub everies : (fs : Formulas) → P.of_formula 0 (every fs)

-- there are as many types as constants
pub types_many : (p : Problem) → IsWellFormed p → length (types p) ≡ constants p
types_many p formed = length-append p.existential_types p.universal_types ∙ (λ i. formed.existential_types.many i + formed.universal_types.many i)

few : (p : Problem) → IsWellFormed p → 0 + length (types p) ≤ constants p
few p formed = let m = types_many p formed in omega (arith, m)

abbrev Component : Property → SignedFormula → Type 0
Component P c = Everywhere P 0 c.what

all_behind : (P : Property) (cs ds : List SignedFormula) → AllByRecursion (Component P) cs → AllByRecursion (Component P) ds → AllByRecursion (Component P) (cs ++ ds)
all_behind P [] ds h k = k
all_behind P (c ∷ cs) ds h k = (h.0, all_behind P cs ds h.1 k)

mutual
  components_everywhere : (P : Property) (plus : Bool) (f : Formula) → Everywhere P 0 f → AllByRecursion (Component P) (formula_components plus f)
  components_everywhere P plus (negation f) h = components_everywhere P (not plus) f h.1
  components_everywhere P true (implies f g) h =
      all_behind P (formula_components false f) (formula_components true g) (components_everywhere P false f h.1) (components_everywhere P true g h.2)
  components_everywhere P false (implies f g) h = (h, tt)
  components_everywhere P true (some fs) h = all_components_everywhere P true fs h.1
  components_everywhere P false (some fs) h = (h, tt)
  components_everywhere P true (every fs) h = (h, tt)
  components_everywhere P false (every fs) h = all_components_everywhere P false fs h.1
  components_everywhere P true (constant b) h = (h, tt)
  components_everywhere P false (constant b) h = (h, tt)
  components_everywhere P true (compares r s t) h = (h, tt)
  components_everywhere P false (compares r s t) h = (h, tt)
  components_everywhere P true (applies p ts) h = (h, tt)
  components_everywhere P false (applies p ts) h = (h, tt)
  components_everywhere P true (iff f g) h = (h, tt)
  components_everywhere P false (iff f g) h = (h, tt)
  components_everywhere P true (for_all s f) h = (h, tt)
  components_everywhere P false (for_all s f) h = (h, tt)
  components_everywhere P true (for_some s f) h = (h, tt)
  components_everywhere P false (for_some s f) h = (h, tt)
  components_everywhere P true (part k f) h = (h, tt)
  components_everywhere P false (part k f) h = (h, tt)

  all_components_everywhere : (P : Property) (plus : Bool) (fs : Formulas) → AllEverywhere P 0 fs → AllByRecursion (Component P) (all_formula_components plus fs)
  all_components_everywhere P plus no_formula h = tt
  all_components_everywhere P plus (and_formula f fs) h =
      all_behind P (formula_components plus f) (all_formula_components plus fs) (components_everywhere P plus f h.0) (all_components_everywhere P plus fs h.1)

kept_or_not : (P : Property) (b : Bool) (c : SignedFormula) (cs : List SignedFormula) → Component P c → AllByRecursion (Component P) cs → AllByRecursion (Component P) (if b then (c ∷ cs) else cs)
kept_or_not P true c cs h k = (h, k)
kept_or_not P false c cs h k = k

kept : (P : Property) (test : SignedFormula → Bool) (cs : List SignedFormula) → AllByRecursion (Component P) cs → AllByRecursion (Component P) (filter test cs)
kept P test [] h = tt
kept P test (c ∷ cs) h = kept_or_not P (test c) c (filter test cs) h.0 (kept P test cs h.1)

one_assumed : (P : Property) → Passes P → (c : SignedFormula) → Component P c → Everywhere P 0 (assumed c)
one_assumed P passes c h = by c.plus
  where
    by : (b : Bool) → Everywhere P 0 (if b then negation c.what else c.what)
    by true = (passes.nots c.what, h)
    by false = h

all_assumed : (P : Property) → Passes P → (cs : List SignedFormula) → AllByRecursion (Component P) cs → AllEverywhere P 0 (formulas (map assumed cs))
all_assumed P passes [] h = tt
all_assumed P passes (c ∷ cs) h = (one_assumed P passes c h.0, all_assumed P passes cs h.1)

pub assumed_everywhere : (P : Property) → Passes P → (p : Problem) (set : List ℕ) → Everywhere P 0 (formula p.formula) → Everywhere P 0 (assumed_by p set)
assumed_everywhere P passes p set h =
    let cs = filter (λ (c : SignedFormula). is_part_in set c.what) (components_of p) in (
      passes.everies (formulas (map assumed cs)),
      all_assumed P passes cs (kept P (λ c. is_part_in set c.what) (components_of p) (components_everywhere P true (formula p.formula) h)),
    )

append_true : (w : Meaning) (gs : Forms) (hs : List Form) (e : List ℤ) → AreFormsTrue w (append gs hs) e ↔ (AreFormsTrue w gs e × AreFormsTrue w (forms hs) e)
append_true w no_form hs e = (λ h. (tt, h), λ h. h.1)
append_true w (and_form g gs) hs e =
    let rest = append_true w gs hs e in
    (λ h. let k = rest.0 (h.1) in ((h.0, k.0), k.1), λ h. (h.0.0, rest.1 (h.0.1, h.1)))

append_pure : (gs : Forms) (hs : List Form) → are_pure gs ≡ true → are_pure (forms hs) ≡ true → are_pure (append gs hs) ≡ true
append_pure no_form hs p q = q
append_pure (and_form g gs) hs p q = let h = and_parts (is_pure g) (are_pure gs) p in and_from (is_pure g) (are_pure (append gs hs)) (h.0) (append_pure gs hs (h.1) q)

append_over : (n : ℕ) (gs : Forms) (hs : List Form) → AreFormsOver n gs → AreFormsOver n (forms hs) → AreFormsOver n (append gs hs)
append_over n no_form hs p q = q
append_over n (and_form g gs) hs p q = (p.0, append_over n gs hs (p.1) q)

-- the conditions of the names that stand in what parts assume
abbrev own_conditions : Problem → List ℕ → List Form
own_conditions p set = (conditions (λ x. occurs x (assumed_by p set)) 0 (types p)).value

-- the encoding of what parts assume is true exactly where that is, and its constants have values of their types
pub parts_are : (w : Meaning) (p : Problem) (set : List ℕ) (e : List ℤ) → IsWellFormed p → length e ≡ constants p
    → FormTruth w (parts_root p set).value e ↔ (Truth w (assumed_by p set) e × AreTypedIn (types p) (assumed_by p set) e)
unfolding next just
parts_are w p set e formed l =
    let f = assumed_by p set in
    let members = (all_encoded (names_from 0 (constants p)) (constants p) true (formulas (map assumed (filter (λ (c : SignedFormula). is_part_in set c.what) (components_of p))))).value in
    let truth = over_constants_is w p f e (assumed_everywhere (of_terms IsLinear) (record { nots = λ f. tt; everies = λ fs. tt }) p set formed.products) l in
    let all = append_true w members (own_conditions p set) e in
    let typed = conditions_true w (λ x. occurs x f) 0 (types p) e in
    let each = kept_each (λ x. occurs x f) (types p) e in
    (λ h. let k = all.0 h in (truth.0 (k.0), each.0 (typed.0 (k.1))), λ h. all.1 (truth.1 (h.0), typed.1 (each.1 (h.1))))

-- of a problem without applications it has none
pub parts_pure : (p : Problem) (set : List ℕ) → IsPure p → is_pure (parts_root p set).value ≡ true
unfolding next just
parts_pure p set h =
    let none : Property = record { of_formula = IsNoPredicate; of_term = IsNoCall } in
    let members = (all_encoded (names_from 0 (constants p)) (constants p) true (formulas (map assumed (filter (λ (c : SignedFormula). is_part_in set c.what) (components_of p))))).value in
    append_pure members (own_conditions p set)
    (free_is (assumed_by p set) (names_from 0 (constants p)) (constants p) true
    ∙ everywhere_free 0 (assumed_by p set) (assumed_everywhere none (record { nots = λ f. tt; everies = λ fs. tt }) p set h))
    (conditions_true_pure (λ x. occurs x (assumed_by p set)) 0 (types p))

-- it speaks of constants alone
pub parts_over : (p : Problem) (set : List ℕ) → IsWellFormed p → IsFormOver (constants p) (parts_root p set).value
unfolding next just
parts_over p set formed =
    let members = (all_encoded (names_from 0 (constants p)) (constants p) true (formulas (map assumed (filter (λ (c : SignedFormula). is_part_in set c.what) (components_of p))))).value in
    append_over (constants p) members (own_conditions p set) (constants_over p (assumed_by p set))
    (conditions_alone_over (constants p) (λ x. occurs x (assumed_by p set)) 0 (types p) (few p formed))
