-- A problem whose encoding is false everywhere is refuted.
use Rattle.std.proofs.Common.{◌≡◌, ◌↔◌, ℕ, suc, ◌+◌, ℤ, pos, Bool, true, false, List, [], ◌∷◌, ◌++◌, length, sym, ◌∙◌, ap, subst, append_assoc, append-nil, length-append, arith}
use Rattle.form_typed.specs.Formula.{formula}
use Rattle.form_typed.specs.Truth.{Meaning}
use Rattle.form_typed.specs.declared.world.Table.{Table}
use Rattle.base_budget.specs.Trace.{Traced, just, next}
use Rattle.formula.specs.Form.{Form, FormTruth, is_pure, universal, forms}
use Rattle.elim_laws.specs.Presburger.{IsPresburger, ArePresburger}
use Rattle.elim_laws.proofs.Reduced.{presburger_of}
use Rattle.elim_laws.proofs.Whole.{anywhere, counterexample}
use Rattle.form_encoding.specs.Problems.{body, constants, problem_root}
use Rattle.form_encoding.specs.Root.{conditions, for_last}
use Rattle.form_encoding.proofs.Problems.{over_constants_is, root_is}
use Rattle.pri_typing.specs.declared.problem.Problem.{Problem}
use Rattle.form_typed.specs.Table.{meaning_of}
use Rattle.pri_typing.specs.Problems.{IsRefuted, by_table}
use Rattle.pri_typing.specs.WellFormed.{IsWellFormed}
use Rattle.pri_problem.proofs.Reduced.{problem_reduced}
use Rattle.form_typed.specs.declared.typed.Sort.{Sort}
use Rattle.form_typed.specs.declared.typed.Sort.TheVariants.{Int, Nat, Range}
use Rattle.form_typed.specs.declared.typed.Relation.TheVariants.{Leq}
use Rattle.form_typed.specs.Sorts.{IsValueOf, AreValuesOf}
use Rattle.form_typed.proofs.Stability.{related_stable}
use Rattle.form_encoding.specs.Encoding.{bounds, limits, restricted}
use Rattle.form_encoding.proofs.Types.{bound_at}
use Rattle.form_encoding.proofs.Conditions.{for_last_is, values_length}

last_member : (hs : List Form) (g : Form) → ArePresburger (forms (hs ++ g ∷ [])) → IsPresburger g
last_member [] g h = h.0
last_member (f ∷ hs) g h = last_member hs g (h.1)

beneath : (all : Bool) (hs : List Form) (g : Form) → IsPresburger (restricted all hs g) → IsPresburger g
beneath all [] g h = h
beneath true (f ∷ hs) g h = last_member (f ∷ hs) g h
beneath false (f ∷ hs) g h = last_member (f ∷ hs) g h

-- values of types for the last names at which the formula fails
record Witness (w : Meaning) (ss : List Sort) (g : Form) (e : List ℤ) : Type 0 where
  values : List ℤ
  typed : AreValuesOf ss values
  fails : ¬ (FormTruth w g (e ++ values))

-- where it is not so that a fact follows from a value's type, the integer is such a value and the fact is not so
value_stable : (s : Sort) (v : ℤ) → ¬ (¬ (IsValueOf s v)) → IsValueOf s v
value_stable Int v h = tt
value_stable Nat v h = related_stable Leq (pos 0) v h
value_stable (Range a b) v h = (related_stable Leq a v (λ n. h (λ k. n k.0)), related_stable Leq v b (λ n. h (λ k. n k.1)))

-- a formula without predicates and functions that fails for all values of its last names has values of the types at which it fails
last_fails : (w : Meaning) (m : ℕ) (ss : List Sort) (work : Traced Form) (e : List ℤ) → length e ≡ m → IsPresburger (for_last m ss work).value → ¬ (FormTruth w (for_last m ss work).value e) → Witness w ss work.value e
unfolding next just
last_fails w m [] work e long is h = record { values = []; typed = tt; fails = λ t. h (subst (FormTruth w work.value) (append-nil e) t) }
last_fails w m (s ∷ ss) work e long is h =
    let g : Form = (for_last (suc m) ss work).value in
    let under : Form = restricted true (limits true m (bounds s)).value g in
    let one = counterexample under e is (λ t. h ((anywhere w (universal under) e is).1 t)) in
    let v = one.0 in
    let never : ¬ (FormTruth w under (e ++ v ∷ [])) = λ t. one.1 ((anywhere w under (e ++ v ∷ []) is).0 t) in
    let at : FormTruth w under (e ++ v ∷ []) ↔ (IsValueOf s v → FormTruth w g (e ++ v ∷ [])) = bound_at w m s g e v long in
    let rest = last_fails w (suc m) ss work (e ++ v ∷ []) (longer m e v long) (beneath true (limits true m (bounds s)).value g is) (λ t. never (at.1 (λ _. t))) in
    record {
      values = v ∷ rest.values;
      typed = (value_stable s v (λ k. never (at.1 (λ t. absurd (k t)))), rest.typed);
      fails = λ t. rest.fails (subst (FormTruth w work.value) (sym (append_assoc e (v ∷ []) rest.values)) t);
    }
  where
    longer : (m : ℕ) (e : List ℤ) (v : ℤ) → length e ≡ m → length (e ++ v ∷ []) ≡ suc m
    longer m e v l = omega (arith, l, length-append e (v ∷ []))

-- the table without rows
pub no_table : Table
no_table = record { truths = []; values = [] }

-- a problem that is false everywhere is refuted: its universal constants have values at which it fails
pub lost_refuted : (p : Problem) → IsWellFormed p → is_pure (problem_root p).value ≡ true → ((w : Meaning) (e : List ℤ) → length e ≡ length p.existentials → ¬ (FormTruth w (problem_root p).value e)) → IsRefuted p
unfolding next just
lost_refuted p formed pure fails = λ e many typed.
    let w = meaning_of no_table in
    let es = p.existential_types in
    let long : length e ≡ length es = many ∙ sym formed.existential_types.many in
    let g : Form = (for_last (length es) p.universal_types (body p)).value in
    let whole : IsPresburger (problem_root p).value = presburger_of (problem_root p).value pure (problem_reduced p) in
    let is : IsPresburger g = beneath false (conditions (λ x. true) 0 es).value g whole in
    let last = for_last_is w (length es) p.universal_types (body p) e long in
    let never : ¬ (FormTruth w g e) = λ t. fails w e many ((root_is w p e long).1 (typed, last.0 t)) in
    let at = last_fails w (length es) p.universal_types (body p) e long is never in
    let few = values_length p.universal_types at.values at.typed ∙ formed.universal_types.many in
    let all : length (e ++ at.values) ≡ constants p = length-append e at.values ∙ ap (λ n. n + length at.values) many ∙ ap (λ n. length p.existentials + n) few in
    record { interpretation = by_table no_table; universals = at.values; fit = few; typed = at.typed; fails = λ t. at.fails ((over_constants_is w p (formula p.formula) (e ++ at.values) formed.products all).1 t) }
