-- The problem of a sound check is well formed.
use Rattle.std.proofs.Common.{ℕ, suc, ◌≡◌, ◌+◌, List, [], ◌∷◌, length, refl, sym, ap, subst, ◌∙◌, arith}
use Rattle.std.specs.List.{All}
use Rattle.std.proofs.lemmas.List.{length-map}
use Rattle.std.proofs.lemmas.List.Elements.{All-cons}
use Rattle.form_typed.specs.Formula.{Formula, formula}
use Rattle.form_typed.specs.Sorts.{IsSortRanged}
use Rattle.pri_typing.specs.declared.problem.Problem.{Problem}
use Rattle.pri_typing.specs.declared.problem.Symbol.{Symbol}
use Rattle.pri_typing.specs.Everywhere.{Everywhere}
use Rattle.pri_typing.specs.Files.{all_int}
use Rattle.pri_typing.specs.WellFormed.{HasMember, IsBinderRanged, IsDivision, IsFunctionDeclared, IsLinear, IsNameBelow, IsNumberRanged, IsPartBelow, IsPredicateDeclared, IsWellFormed, of_formulas, of_terms}
use Rattle.pri_typing.proofs.Everywhere.{everywhere_more}
use Rattle.smt_terms.specs.Scripts.{State}
use Rattle.smt_reader.specs.Formed.{IsFormedCheck, Sound, symbol, symbols}
use Rattle.smt_reader.specs.Posed.{IsCheckPosed}

module _ (c : ℕ) (fs ps : List Symbol) (f : Formula) (h : Everywhere (Sound c fs ps) 0 f) where
  numbers : Everywhere (of_terms IsNumberRanged) 0 f
  numbers = everywhere_more (Sound c fs ps) (of_terms IsNumberRanged) (record { of_formula = λ n g k. tt; of_term = λ n t k. k.0 }) 0 f h

  names : Everywhere (of_terms (IsNameBelow c)) 0 f
  names = everywhere_more (Sound c fs ps) (of_terms (IsNameBelow c)) (record { of_formula = λ n g k. tt; of_term = λ n t k. k.1 }) 0 f h

  predicates : Everywhere (of_formulas (IsPredicateDeclared ps)) 0 f
  predicates = everywhere_more (Sound c fs ps) (of_formulas (IsPredicateDeclared ps)) (record { of_formula = λ n g k. k.0; of_term = λ n t k. tt }) 0 f h

  functions : Everywhere (of_terms (IsFunctionDeclared fs)) 0 f
  functions = everywhere_more (Sound c fs ps) (of_terms (IsFunctionDeclared fs)) (record { of_formula = λ n g k. tt; of_term = λ n t k. k.2 }) 0 f h

  sums : Everywhere (of_terms HasMember) 0 f
  sums = everywhere_more (Sound c fs ps) (of_terms HasMember) (record { of_formula = λ n g k. tt; of_term = λ n t k. k.3 }) 0 f h

  products : Everywhere (of_terms IsLinear) 0 f
  products = everywhere_more (Sound c fs ps) (of_terms IsLinear) (record { of_formula = λ n g k. tt; of_term = λ n t k. k.4 }) 0 f h

  binders : Everywhere (of_formulas IsBinderRanged) 0 f
  binders = everywhere_more (Sound c fs ps) (of_formulas IsBinderRanged) (record { of_formula = λ n g k. k.1; of_term = λ n t k. tt }) 0 f h

  parts : Everywhere (of_formulas (IsPartBelow 0)) 0 f
  parts = everywhere_more (Sound c fs ps) (of_formulas (IsPartBelow 0)) (record { of_formula = λ n g k. k.2; of_term = λ n t k. tt }) 0 f h

no_values : {A : Type 0} (P : A → Type 0) (xs : List A) → xs ≡ [] → All P xs
no_values P [] e i d h = absurd (omega (arith, h))
no_values P (x ∷ xs) e i d h = absurd (cc)

ints : (xs : List (List ℕ)) → All IsSortRanged (all_int xs)
ints [] = λ i d h. absurd (omega (arith, h))
ints (x ∷ xs) = All-cons IsSortRanged _ (all_int xs) tt (ints xs)

as_many : (xs : List (List ℕ)) → length (all_int xs) ≡ length xs
as_many [] = refl
as_many (x ∷ xs) = ap suc (as_many xs)

pub well_formed : (s : State) (p : Problem) → IsFormedCheck s → IsCheckPosed s p → IsWellFormed p
well_formed s p h e =
    let c = length s.constants in
    let fs = symbols s.functions in
    let ps = symbols s.predicates in
    let sound : Everywhere (Sound c fs ps) 0 (formula p.formula) = subst (Everywhere (Sound c fs ps) 0) (sym e.formula) h.sound in
    let constants : c ≡ length p.existentials + length p.universals = omega (arith, ap length e.existentials, ap length e.universals) in
    record {
      few = omega (arith, h.few, ap length e.existentials, ap length e.universals, ap length e.functions ∙ length-map s.functions symbol, ap length e.predicates ∙ length-map s.predicates symbol);
      numbers = numbers c fs ps (formula p.formula) sound;
      names = subst (λ z. Everywhere (of_terms (IsNameBelow z)) 0 (formula p.formula)) constants (names c fs ps (formula p.formula) sound);
      predicates = subst (λ z. Everywhere (of_formulas (IsPredicateDeclared z)) 0 (formula p.formula)) (sym e.predicates) (predicates c fs ps (formula p.formula) sound);
      functions = subst (λ z. Everywhere (of_terms (IsFunctionDeclared z)) 0 (formula p.formula)) (sym e.functions) (functions c fs ps (formula p.formula) sound);
      sums = sums c fs ps (formula p.formula) sound;
      products = products c fs ps (formula p.formula) sound;
      binders = binders c fs ps (formula p.formula) sound;
      existential_types = record { many = ap length e.existential_types ∙ sym (ap length e.existentials); ranged = no_values IsSortRanged p.existential_types e.existential_types };
      universal_types = record { many = ap length e.universal_types ∙ as_many s.constants ∙ sym (ap length e.universals); ranged = subst (All IsSortRanged) (sym e.universal_types) (ints s.constants) };
      parts = subst (λ z. Everywhere (of_formulas (IsPartBelow z)) 0 (formula p.formula)) (sym (ap length e.parts)) (parts c fs ps (formula p.formula) sound);
      divisible = λ l. absurd (omega (arith, l, ap length e.cuts));
      divided = no_values (IsDivision (length p.parts)) p.cuts e.cuts;
    }
