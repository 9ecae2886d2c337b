-- Negations of literals and clauses are true where these are not.
use Rattle.std.proofs.Common.{◌≡◌, ◌≢◌, ℤ, pos, negsuc, neg_ℤ, ◌+ℤ◌, ◌*ℤ◌, int_le, Bool, true, false, not, ◌&&◌, ◌||◌, List, [], ◌∷◌, refl, ◌∙◌, ap, arith}
use Rattle.std.specs.Prelude.{All, unsigned_abs}
use Rattle.std.specs.List.{AllByRecursion, flat_map}
use Rattle.std.specs.Ordering.{int_eq}
use Rattle.std.proofs.lemmas.Int.{ints}
use Rattle.std.proofs.lemmas.List.Folds.{list_any-append}
use Rattle.std.proofs.lemmas.List.Elements.{All-from_recursion, recursion_from_All}
use Rattle.base_integers.specs.Divides.{divides}
use Rattle.linear_term.specs.Linear.{Linear, IsReduced, number, value_of}
use Rattle.linear_term.specs.Combination.{combination}
use Rattle.linear_term.proofs.Totals.{value_of-combination, value_of-number}
use Rattle.linear_term.proofs.Names.{reduced-combination}
use Rattle.base_budget.specs.Trace.{just, step, next}
use Rattle.base_budget.proofs.Tracing.{each-value}
use Rattle.clause_set.specs.declared.literal.Literal.{Literal}
use Rattle.clause_set.specs.declared.literal.Literal.TheVariants.{Eq, Geq, Div, NDiv}
use Rattle.clause_set.specs.Literals.{literal_truth, clause_truth, dnf_truth, IsLiteral}
use Rattle.clause_set.specs.Dnfs.{negated_literal, negated_clause}
use Rattle.clause_set.proofs.ClauseTruth.{and_true}
use Rattle.clause_set.proofs.Operations.{or_nothing, clauses_of-truth}

reduced-number : (k : ℤ) → IsReduced (number k)
reduced-number k = record { rising = tt; not_zero = All-from_recursion (λ p. p.1 ≢ pos 0) [] tt }

pub alone : (l : Literal) → IsLiteral l → All IsLiteral (l ∷ [])
alone l h = All-from_recursion IsLiteral (l ∷ []) (h, tt)

bound_is : (t : Linear) → IsReduced t → IsLiteral (Geq t)
bound_is t h = record { term = h; divisor = tt }

one-truth : (l : Literal) (e : List ℤ) → dnf_truth ((l ∷ []) ∷ []) e ≡ literal_truth l e
one-truth l e = or_nothing (literal_truth l e && true) ∙ and_true (literal_truth l e)

abbrev pub less : Linear → Linear
less t = combination (negsuc 0) t (pos 1) (number (negsuc 0))

abbrev pub more : Linear → Linear
more t = combination (pos 1) t (pos 1) (number (negsuc 0))

less-value : (t : Linear) (e : List ℤ) → value_of (less t) e ≡ neg_ℤ (value_of t e) +ℤ negsuc 0
less-value t e =
    value_of-combination (negsuc 0) (pos 1) t (number (negsuc 0)) e ∙ ap (λ z. (negsuc 0 *ℤ value_of t e) +ℤ (pos 1 *ℤ z)) (value_of-number (negsuc 0) e) ∙ omega (arith, ints)

more-value : (t : Linear) (e : List ℤ) → value_of (more t) e ≡ value_of t e +ℤ negsuc 0
more-value t e =
    value_of-combination (pos 1) (pos 1) t (number (negsuc 0)) e ∙ ap (λ z. (pos 1 *ℤ value_of t e) +ℤ (pos 1 *ℤ z)) (value_of-number (negsuc 0) e) ∙ omega (arith, ints)

less_test : (v w : ℤ) → w ≡ neg_ℤ v +ℤ negsuc 0 → int_le (pos 0) w ≡ not (int_le (pos 0) v)
less_test v w e = grind (arith, ints)

sides_test : (v w x : ℤ) → w ≡ neg_ℤ v +ℤ negsuc 0 → x ≡ v +ℤ negsuc 0 → (int_le (pos 0) w || int_le (pos 0) x) ≡ not (int_eq v (pos 0))
sides_test v w x e f = grind (arith, ints)

pub less_is : (t : Linear) → IsReduced t → IsLiteral (Geq (less t))
less_is t h = bound_is (less t) (reduced-combination (negsuc 0) (pos 1) t (number (negsuc 0)) h (reduced-number (negsuc 0)))

pub more_is : (t : Linear) → IsReduced t → IsLiteral (Geq (more t))
more_is t h = bound_is (more t) (reduced-combination (pos 1) (pos 1) t (number (negsuc 0)) h (reduced-number (negsuc 0)))

twice_not : (b : Bool) → b ≡ not (not b)
twice_not true = refl
twice_not false = refl

pub negated_literal-truth : (l : Literal) (e : List ℤ) → IsLiteral l → dnf_truth (negated_literal l).value e ≡ not (literal_truth l e)
unfolding next just step
negated_literal-truth (Geq t) e h =
    clauses_of-truth ((Geq (less t) ∷ []) ∷ []) e (alone (Geq (less t)) (less_is t h.term), tt) ∙ one-truth (Geq (less t)) e
    ∙ less_test (value_of t e) (value_of (less t) e) (less-value t e)
negated_literal-truth (Eq t) e h =
    clauses_of-truth ((Geq (less t) ∷ []) ∷ (Geq (more t) ∷ []) ∷ []) e (alone (Geq (less t)) (less_is t h.term), (alone (Geq (more t)) (more_is t h.term), tt))
    ∙ ap (λ b. b || dnf_truth ((Geq (more t) ∷ []) ∷ []) e) (and_true (literal_truth (Geq (less t)) e)) ∙ ap (λ b. literal_truth (Geq (less t)) e || b) (one-truth (Geq (more t)) e)
    ∙ sides_test (value_of t e) (value_of (less t) e) (value_of (more t) e) (less-value t e) (more-value t e)
negated_literal-truth (Div d t) e h =
    clauses_of-truth ((NDiv d t ∷ []) ∷ []) e (alone (NDiv d t) (record { term = h.term; divisor = h.divisor }), tt) ∙ one-truth (NDiv d t) e
negated_literal-truth (NDiv d t) e h =
    clauses_of-truth ((Div d t ∷ []) ∷ []) e (alone (Div d t) (record { term = h.term; divisor = h.divisor }), tt) ∙ one-truth (Div d t) e
    ∙ twice_not (divides (unsigned_abs d) (value_of t e))

not_both : (a b : Bool) → (not a || not b) ≡ not (a && b)
not_both true b = refl
not_both false b = refl

negated_all-truth : (c : List Literal) (e : List ℤ) → AllByRecursion IsLiteral c → dnf_truth (flat_map (λ l. (negated_literal l).value) c) e ≡ not (clause_truth c e)
negated_all-truth [] e h = refl
negated_all-truth (l ∷ c) e h =
    list_any-append (λ z. clause_truth z e) (negated_literal l).value (flat_map (λ m. (negated_literal m).value) c)
    ∙ ap (λ b. b || dnf_truth (flat_map (λ m. (negated_literal m).value) c) e) (negated_literal-truth l e h.0)
    ∙ ap (λ b. not (literal_truth l e) || b) (negated_all-truth c e h.1) ∙ not_both (literal_truth l e) (clause_truth c e)

pub negated_clause-truth : (c : List Literal) (e : List ℤ) → All IsLiteral c → dnf_truth (negated_clause c).value e ≡ not (clause_truth c e)
unfolding next just step
negated_clause-truth c e h =
    ap (λ z. dnf_truth z e) (each-value negated_literal c []) ∙ negated_all-truth c e (recursion_from_All IsLiteral c h)
