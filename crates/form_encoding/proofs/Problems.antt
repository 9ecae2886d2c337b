-- The encoding of a problem, from that of its formula.
use Rattle.std.proofs.Common.{◌≡◌, ◌↔◌, ℕ, zero, suc, ◌+◌, ◌≤◌, ℤ, Bool, true, ◌&&◌, List, [], ◌∷◌, ◌++◌, length, length-append, refl, sym, ◌∙◌, ap, subst, arith}
use Rattle.form_typed.specs.declared.typed.Sort.{Sort}
use Rattle.form_typed.specs.Formula.{Formula, formula}
use Rattle.form_typed.specs.Sorts.{AreValuesOf}
use Rattle.form_typed.specs.Truth.{Meaning, Truth}
use Rattle.base_budget.specs.Trace.{just, next}
use Rattle.pri_typing.specs.declared.problem.Problem.{Problem}
use Rattle.pri_typing.specs.Everywhere.{Everywhere}
use Rattle.pri_typing.specs.Problems.{Holds, IsPure}
use Rattle.pri_typing.specs.WellFormed.{IsWellFormed, of_terms, IsLinear}
use Rattle.formula.specs.Form.{Form, FormTruth, AreFormsTrue, IsFormOver, is_pure, are_pure, forms}
use Rattle.form_encoding.specs.Root.{names_from, conditions, for_last}
use Rattle.form_encoding.specs.Problems.{constants, over_constants, body, problem_root}
use Rattle.form_encoding.proofs.Products.{products_of}
use Rattle.form_encoding.proofs.Keeping.{encoded_is}
use Rattle.form_encoding.proofs.Roots.{own_read, names_below}
use Rattle.form_encoding.proofs.Overs.{encoded_over}
use Rattle.form_encoding.proofs.Frees.{free_is, free_everywhere, everywhere_free}
use Rattle.form_encoding.proofs.Conditions.{values_length, all_kept, conditions_are, restricted_is, for_last_is, conditions_over, restricted_over, for_last_over, conditions_pure, restricted_pure, for_last_pure}

-- a formula over the problem's constants has its truth
pub over_constants_is : (w : Meaning) (p : Problem) (f : Formula) (e : List ℤ) → Everywhere (of_terms IsLinear) 0 f → length e ≡ constants p
    → FormTruth w (over_constants p f).value e ↔ Truth w f e
over_constants_is w p f e lin l = encoded_is w f (names_from 0 (constants p)) (constants p) true e e ⊥ (own_read (constants p) e l) (products_of 0 f lin)

-- the encoded problem is true exactly where its existential constants have values of their types, and its formula is true for
-- all values of the types of the universal ones
pub root_is : (w : Meaning) (p : Problem) (e : List ℤ) → length e ≡ length p.existential_types
    → FormTruth w (problem_root p).value e ↔ (AreValuesOf p.existential_types e × ((u : List ℤ) → AreValuesOf p.universal_types u → FormTruth w (body p).value (e ++ u)))
unfolding next just
root_is w p e l =
    let es = p.existential_types in
    let g : Form = (for_last (length es) p.universal_types (body p)).value in
    let hs : List Form = (conditions (λ x. true) 0 es).value in
    let one = restricted_is w hs g e in
    let all = conditions_are w (λ x. true) 0 es (g ∷ []) e in
    let typed = all_kept [] e 0 es refl l in
    let last = for_last_is w (length es) p.universal_types (body p) e l in (
      λ h. let k = all.0 (one.0 h) in (typed.0 (k.0), last.0 (k.1.0)),
      λ h. one.1 (all.1 (typed.1 (h.0), (last.1 (h.1), tt))),
    )

-- the encoded problem is true exactly where the problem holds
pub holds_is : (w : Meaning) (p : Problem) (e : List ℤ) → IsWellFormed p → length e ≡ length p.existentials → FormTruth w (problem_root p).value e ↔ Holds w p e
holds_is w p e formed l =
    let r = root_is w p e (l ∙ sym formed.existential_types.many) in
    let all = λ (u : List ℤ) (m : length u ≡ length p.universals). over_constants_is w p (formula p.formula) (e ++ u) formed.products (length-append e u ∙ ap (λ n. n + length u) l ∙ ap (λ n. length p.existentials + n) m) in (
      λ h. let k = r.0 h in record { many = l; typed = k.0; is = λ u m t. (all u m).0 (k.1 u t) },
      λ h. r.1 (h.typed, λ u t. let m = values_length p.universal_types u t ∙ formed.universal_types.many in (all u m).1 (h.is u m t)),
    )

only : (b : Bool) → (b && true) ≡ b
only b = grind arith

-- the encoded problem has an application exactly where the problem has one
pub pure_is : (p : Problem) → (is_pure (problem_root p).value ≡ true) ↔ IsPure p
unfolding next just
pure_is p =
    let m = constants p in
    let es = p.existential_types in
    let g : Form = (for_last (length es) p.universal_types (body p)).value in
    let e : is_pure (problem_root p).value ≡ _ =
    restricted_pure (conditions (λ x. true) 0 es).value g ∙ conditions_pure (λ x. true) 0 es (g ∷ []) ∙ only (is_pure g)
    ∙ for_last_pure (length es) p.universal_types (body p) ∙ free_is (formula p.formula) (names_from 0 m) m true in
    (λ h. free_everywhere 0 (formula p.formula) (sym e ∙ h), λ h. e ∙ everywhere_free 0 (formula p.formula) h)

-- a formula over the constants speaks of those alone
pub constants_over : (p : Problem) (f : Formula) → IsFormOver (constants p) (over_constants p f).value
constants_over p f = encoded_over f (names_from 0 (constants p)) (constants p) true (names_below 0 (constants p) (constants p) (omega arith))

-- the encoded problem speaks of the existential constants alone
pub root_over : (p : Problem) → IsWellFormed p → IsFormOver (length p.existentials) (problem_root p).value
unfolding next just
root_over p formed =
    let m = formed.existential_types.many in
    let k = formed.universal_types.many in
    let es = p.existential_types in
    let g : Form = (for_last (length es) p.universal_types (body p)).value in
    let all : length es + length p.universal_types ≡ constants p = omega (arith, m, k) in
    let last : IsFormOver (length es) g = for_last_over (length es) p.universal_types (body p) (subst (λ n. IsFormOver n (body p).value) (sym all) (constants_over p (formula p.formula))) in
    subst (λ n. IsFormOver n (problem_root p).value) m
    (restricted_over (length es) (conditions (λ x. true) 0 es).value g (conditions_over (length es) (λ x. true) 0 es (g ∷ []) (omega arith) (last, tt)))
