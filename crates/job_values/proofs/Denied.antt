-- The negation of a problem.
use Rattle.std.proofs.Common.{◌≡◌, ◌∙◌, ◌+◌, ◌≤◌, ℕ, List, [], length, refl, sym, ap, subst, arith}
use Rattle.std.specs.List.{All}
use Rattle.std.proofs.lemmas.List.Elements.{All-from_recursion}
use Rattle.form_typed.specs.Formula.{formula}
use Rattle.form_typed.specs.Sorts.{IsSortRanged}
use Rattle.form_typed.specs.declared.typed.Sort.{Sort}
use Rattle.job_values.specs.Values.{IsDenied}
use Rattle.pri_problem.specs.Reads.{AreSame}
use Rattle.pri_typing.specs.Everywhere.{Everywhere}
use Rattle.pri_typing.specs.WellFormed.{AreTypesOf, HasMember, IsBinderRanged, IsDivision, IsFunctionDeclared, IsLinear, IsNameBelow, IsNumberRanged, IsPartBelow, IsPredicateDeclared, IsWellFormed, of_formulas, of_terms}
use Rattle.pri_typing.specs.declared.problem.Cut.{Cut}
use Rattle.pri_typing.specs.declared.problem.Problem.{Problem}

-- there is one negation
pub same_denied : (p q r : Problem) → IsDenied p q → IsDenied p r → AreSame q r
same_denied p q r h k = record {
  existentials = h.existentials ∙ sym k.existentials;
  existential_types = h.existential_types ∙ sym k.existential_types;
  universals = h.universals ∙ sym k.universals;
  universal_types = h.universal_types ∙ sym k.universal_types;
  functions = h.functions ∙ sym k.functions;
  predicates = h.predicates ∙ sym k.predicates;
  parts = h.parts ∙ sym k.parts;
  formula = h.denies ∙ sym k.denies;
  cuts = h.cuts ∙ sym k.cuts;
  first_application = h.first_application ∙ sym k.first_application;
}

none_ranged : All IsSortRanged []
none_ranged = All-from_recursion IsSortRanged [] tt

none_divided : (parts : ℕ) → All (IsDivision parts) []
none_divided parts = All-from_recursion (IsDivision parts) [] tt

no_cuts : (cuts : List Cut) → cuts ≡ [] → 1 ≤ length cuts → ⊥
no_cuts cuts none some = let few = ap length none in omega (arith, few, some)

-- the negation of a well-formed problem without existential constants is well formed
pub denied_formed : (p q : Problem) → IsWellFormed p → p.existentials ≡ [] → IsDenied p q → IsWellFormed q
denied_formed p q formed alone h =
    let a = ap length alone in
    let e = ap length h.existentials in
    let u = ap length h.universals in
    let f = ap length h.functions in
    let r = ap length h.predicates in
    let few = formed.few in
    let names : length p.existentials + length p.universals ≡ length q.existentials + length q.universals = omega (arith, a, e, u) in
    record {
      few = omega (arith, few, e, u, f, r);
      numbers = subst (Everywhere (of_terms IsNumberRanged) 0) (sym h.denies) (tt, formed.numbers);
      names = subst (λ n. Everywhere (of_terms (IsNameBelow n)) 0 (formula q.formula)) names (subst (Everywhere (of_terms (IsNameBelow (length p.existentials + length p.universals))) 0) (sym h.denies) (tt, formed.names));
      predicates = subst (λ ps. Everywhere (of_formulas (IsPredicateDeclared ps)) 0 (formula q.formula)) (sym h.predicates) (subst (Everywhere (of_formulas (IsPredicateDeclared p.predicates)) 0) (sym h.denies) (tt, formed.predicates));
      functions = subst (λ fs. Everywhere (of_terms (IsFunctionDeclared fs)) 0 (formula q.formula)) (sym h.functions) (subst (Everywhere (of_terms (IsFunctionDeclared p.functions)) 0) (sym h.denies) (tt, formed.functions));
      sums = subst (Everywhere (of_terms HasMember) 0) (sym h.denies) (tt, formed.sums);
      products = subst (Everywhere (of_terms IsLinear) 0) (sym h.denies) (tt, formed.products);
      binders = subst (Everywhere (of_formulas IsBinderRanged) 0) (sym h.denies) (tt, formed.binders);
      existential_types = record {
        many = ap length h.existential_types ∙ formed.universal_types.many ∙ sym e;
        ranged = subst (All IsSortRanged) (sym h.existential_types) formed.universal_types.ranged;
      };
      universal_types = record {
        many = ap length h.universal_types ∙ sym u;
        ranged = subst (All IsSortRanged) (sym h.universal_types) none_ranged;
      };
      parts = subst (λ ps. Everywhere (of_formulas (IsPartBelow (length ps))) 0 (formula q.formula)) (sym h.parts) (subst (Everywhere (of_formulas (IsPartBelow (length p.parts))) 0) (sym h.denies) (tt, formed.parts));
      divisible = λ some. absurd (no_cuts q.cuts h.cuts some);
      divided = subst (All (IsDivision (length q.parts))) (sym h.cuts) (none_divided (length q.parts));
    }
