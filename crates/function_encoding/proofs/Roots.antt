-- The encoding of a problem: numbers in the range, room for all names, and what the laws say of its formula.
use Rattle.std.proofs.Common.{◌≡◌, ◌↔◌, ℕ, suc, ◌+◌, ◌≤◌, ◌<◌, ◌^◌, ℤ, Bool, true, false, ◌||◌, nat_lt, List, [], ◌++◌, map, ◌∙◌, length, Result, Ok, Err, IsErrAnd, sym, ap, subst, arith}
use Rattle.std.proofs.lemmas.Grind.{common_steps}
use Rattle.linear_term.specs.declared.range.TermFault.{TermFault}
use Rattle.linear_term.specs.declared.range.TermFault.TheVariants as term_fault
use Rattle.form_typed.specs.Formula.{Formula, Formulas, Expression, Expressions, formula, constant, compares, applies, negation, every, some, implies, iff, for_all, for_some, part, no_formula, and_formula, number, name, call, minus, total, product, choice, absolute, lesser, greater, no_expression, and_expression}
use Rattle.form_typed.specs.Truth.{Meaning}
use Rattle.base_budget.specs.Trace.{Traced, just, next, capped}
use Rattle.base_budget.proofs.Charging.{worked_value}
use Rattle.pri_typing.specs.declared.problem.Problem.{Problem}
use Rattle.pri_typing.specs.Everywhere.{Everywhere, AllEverywhere, TermEverywhere, TermsEverywhere}
use Rattle.pri_typing.specs.Problems.{Holds, IsPure}
use Rattle.pri_typing.specs.WellFormed.{IsWellFormed, IsNumberRanged, IsBinderRanged, of_terms, of_formulas}
use Rattle.formula.specs.declared.calculus.Core.{Core}
use Rattle.formula.specs.Form.{Form, FormTruth, IsFormOver, is_pure}
use Rattle.formula.specs.Made.{Made}
use Rattle.formula.specs.Sizes.{size, depth}
use Rattle.formula.specs.Tree.{form}
use Rattle.form_encoding.specs.Extent.{Extent, measured, extent, restricted_extent}
use Rattle.function_encoding.specs.Bounds.{kept_bounds, below_types}
use Rattle.form_typed.specs.declared.typed.Sort.{Sort}
use Rattle.form_encoding.specs.Problems.{body, constants, problem_root, is_large}
use Rattle.form_encoding.specs.Root.{conditions, for_last}
use Rattle.function_encoding.proofs.Bounding.{alone}
use Rattle.form_encoding.proofs.Problems.{holds_is, pure_is, root_over}
use Rattle.function_encoding.specs.Encoded.{Encodes}
use Rattle.function_encoding.specs.Ranged.{HasRangedNumbers, HaveRangedNumbers, IsTermRanged, AreTermsRanged}
use Rattle.function_encoding.specs.Refusals.{refusal_of}
use Rattle.function_encoding.specs.Room.{HasNamesLeft}
use Rattle.function_encoding.specs.declared.answer.EncodeRefusal.{EncodeRefusal}
use Rattle.function_encoding.proofs.Limits.{problem_extent, restricted_levels, types_levels}

mutual
  pub ranged_of : (n : ℕ) (f : Formula) → Everywhere (of_terms IsNumberRanged) n f → Everywhere (of_formulas IsBinderRanged) n f → HasRangedNumbers f
  ranged_of n (constant b) h k = tt
  ranged_of n (compares r s t) h k = (term_ranged n s h.1 k.1, term_ranged n t h.2 k.2)
  ranged_of n (applies p ts) h k = terms_ranged n ts h.1 k.1
  ranged_of n (negation f) h k = ranged_of n f h.1 k.1
  ranged_of n (every fs) h k = all_ranged n fs h.1 k.1
  ranged_of n (some fs) h k = all_ranged n fs h.1 k.1
  ranged_of n (implies f g) h k = (ranged_of n f h.1 k.1, ranged_of n g h.2 k.2)
  ranged_of n (iff f g) h k = (ranged_of n f h.1 k.1, ranged_of n g h.2 k.2)
  ranged_of n (for_all s f) h k = (k.0, ranged_of (suc n) f h.1 k.1)
  ranged_of n (for_some s f) h k = (k.0, ranged_of (suc n) f h.1 k.1)
  ranged_of n (part i f) h k = ranged_of n f h.1 k.1

  all_ranged : (n : ℕ) (fs : Formulas) → AllEverywhere (of_terms IsNumberRanged) n fs → AllEverywhere (of_formulas IsBinderRanged) n fs → HaveRangedNumbers fs
  all_ranged n no_formula h k = tt
  all_ranged n (and_formula f fs) h k = (ranged_of n f h.0 k.0, all_ranged n fs h.1 k.1)

  term_ranged : (n : ℕ) (t : Expression) → TermEverywhere (of_terms IsNumberRanged) n t → TermEverywhere (of_formulas IsBinderRanged) n t → IsTermRanged t
  term_ranged n (number v) h k = h
  term_ranged n (name x) h k = tt
  term_ranged n (call f ts) h k = terms_ranged n ts h.1 k.1
  term_ranged n (minus t) h k = term_ranged n t h.1 k.1
  term_ranged n (total ts) h k = terms_ranged n ts h.1 k.1
  term_ranged n (product s t) h k = (term_ranged n s h.1 k.1, term_ranged n t h.2 k.2)
  term_ranged n (choice f s t) h k = (ranged_of n f h.1 k.1, term_ranged n s h.2 k.2, term_ranged n t h.3 k.3)
  term_ranged n (absolute t) h k = term_ranged n t h.1 k.1
  term_ranged n (lesser s t) h k = (term_ranged n s h.1 k.1, term_ranged n t h.2 k.2)
  term_ranged n (greater s t) h k = (term_ranged n s h.1 k.1, term_ranged n t h.2 k.2)

  terms_ranged : (n : ℕ) (ts : Expressions) → TermsEverywhere (of_terms IsNumberRanged) n ts → TermsEverywhere (of_formulas IsBinderRanged) n ts → AreTermsRanged ts
  terms_ranged n no_expression h k = tt
  terms_ranged n (and_expression t ts) h k = (term_ranged n t h.0 k.0, terms_ranged n ts h.1 k.1)

neither : (a b : Bool) → (a || b) ≡ false → b ≡ false
neither true b h = absurd (cc)
neither false b h = h

not_deep : (d : ℕ) → nat_lt 2000 d ≡ false → d ≤ 2000
not_deep d h = grind (arith, common_steps)

-- what is not too large leaves room for all its names
pub small_room : (n : ℕ) (f : Form) (e : Extent) → n ≤ 1000 → is_large f ≡ false → e.levels ≤ (measured f).levels → HasNamesLeft n e
small_room n f e few small le = let d = not_deep (depth f) (neither (nat_lt 1000000 (size f)) (nat_lt 2000 (depth f)) small) in omega arith

few_names : (n l : ℕ) → n ≤ 1000 → l ≤ 2000 → n + l < 2 ^ 32
few_names n l p q = omega arith

pub problem_room : (p : Problem) → constants p ≤ 1000 → is_large (problem_root p).value ≡ false → HasNamesLeft (constants p) (extent (formula p.formula))
problem_room p few small =
    let f = (problem_root p).value in
    let e = extent (formula p.formula) in
    let all = restricted_extent (kept_bounds (λ x. true) 0 p.existential_types) (below_types p.universal_types e) in
    let d : depth f ≤ 2000 = not_deep (depth f) (neither (nat_lt 1000000 (size f)) (nat_lt 2000 (depth f)) small) in
    let m : capped (depth f) ≡ all.levels = ap (λ x. x.levels) (problem_extent p) in
    let whole : all.levels ≤ 2000 = omega (arith, d, m) in
    few_names (constants p) e.levels few (types_levels p.universal_types e (restricted_levels (kept_bounds (λ x. true) 0 p.existential_types) (below_types p.universal_types e) whole))

-- an answer
pub encodes_ok : (work : Traced Form) (f : Core) → is_large work.value ≡ false → Made form work (Ok f) → Encodes work (Ok f)
encodes_ok work f small m = (small, m)

pub encodes_err : (work : Traced Form) (e : TermFault) (r : Result Core EncodeRefusal) → is_large work.value ≡ false → Made form work (Err e) → IsErrAnd r (λ x. x ≡ refusal_of e) → Encodes work r
encodes_err work e (Ok x) small m h = absurd h
encodes_err work (term_fault.Overflow p) (Err x) small m h = subst (λ z. Encodes work (Err z)) (sym h) (small, m)
encodes_err work term_fault.Memory (Err x) small m h = subst (λ z. Encodes work (Err z)) (sym h) tt

-- the formula that was made is the value
pub made_value : {work : Traced Form} {f : Core} → Made form work (Ok f) → form f ≡ work.value
made_value m = worked_value m.works

pub root_truth : (p : Problem) (f : Core) → IsWellFormed p → form f ≡ (problem_root p).value → (w : Meaning) (v : List ℤ) → length v ≡ length p.existentials → FormTruth w (form f) v ↔ Holds w p v
root_truth p f formed is w v l = subst (λ (g : Form). FormTruth w g v ↔ Holds w p v) (sym is) (holds_is w p v formed l)

pub root_names : (p : Problem) (f : Core) → IsWellFormed p → form f ≡ (problem_root p).value → IsFormOver (length p.existentials) (form f)
root_names p f formed is = subst (IsFormOver (length p.existentials)) (sym is) (root_over p formed)

pub root_pure : (p : Problem) (f : Core) → form f ≡ (problem_root p).value → (is_pure (form f) ≡ true) ↔ IsPure p
root_pure p f is = subst (λ g. (is_pure g ≡ true) ↔ IsPure p) (sym is) (pure_is p)

-- the parts of the root, as the code has them
pub last_as : (p : Problem) → IsWellFormed p → (m : ℕ) (ss : List Sort) (r : Result Core TermFault) → m ≡ length p.existentials → ss ≡ p.universal_types
    → Made form (for_last m ss (body p)) r → Made form (for_last (length p.existential_types) p.universal_types (body p)) r
last_as p formed m ss r first is h =
    subst (λ z. Made form (for_last z p.universal_types (body p)) r) (first ∙ sym formed.existential_types.many) (subst (λ z. Made form (for_last m z (body p)) r) is h)

pub conditions_as : (p : Problem) (ss : List Sort) (out : List Core) (r : Result (List Core) TermFault) → ss ≡ p.existential_types → out ≡ []
    → Made (λ hs. map form hs) (next (conditions (λ x. true) 0 ss) (λ hs. just (map form out ++ hs))) r → Made (λ hs. map form hs) (conditions (λ x. true) 0 p.existential_types) r
conditions_as p ss out r is none h =
    alone (conditions (λ x. true) 0 p.existential_types) out r none (subst (λ z. Made (λ hs. map form hs) (next (conditions (λ x. true) 0 z) (λ hs. just (map form out ++ hs))) r) is h)
