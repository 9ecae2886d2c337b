-- The negation of a disjunction is true where this is not.
use Rattle.std.proofs.Common.{◌≡◌, Bool, true, false, not, ◌&&◌, ◌||◌, ℤ, List, [], ◌∷◌, refl, sym, ◌∙◌, ap}
use Rattle.std.specs.Prelude.{All}
use Rattle.std.proofs.lemmas.List.Elements.{All-from_recursion, recursion_from_All}
use Rattle.base_budget.specs.Trace.{just, next}
use Rattle.clause_set.specs.declared.literal.Literal.{Literal}
use Rattle.clause_set.specs.Literals.{IsLiteral, AreLiterals, clause_truth, dnf_truth}
use Rattle.clause_set.specs.Dnfs.{conjunction, negated_clause, negated_clauses, negation, top}
use Rattle.clause_set.proofs.Operations.{and-truth}
use Rattle.clause_set.proofs.Negations.{negated_clause-truth}
use Rattle.clause_set.proofs.ClauseTruth.{and_true}
use Rattle.clause_set.proofs.Kept.{conjunction-kept, negated_clause-kept, each_from, each_to, each-back}
use Rattle.clause_set.proofs.Shapes.{formed-denies}
use Rattle.clause_set.specs.Formed.{IsFormed}

negated_clause-are : (c : List Literal) → All IsLiteral c → AreLiterals (negated_clause c).value
negated_clause-are c h =
    each_to IsLiteral (negated_clause c).value (each-back IsLiteral IsFormed formed-denies.back (negated_clause c).value (negated_clause-kept IsLiteral IsFormed formed-denies c (recursion_from_All IsLiteral c h)))

conjunction-are : (a b : List (List Literal)) → AreLiterals a → AreLiterals b → AreLiterals (conjunction a b).value
conjunction-are a b h k =
    each_to IsLiteral (conjunction a b).value (each-back IsLiteral IsFormed formed-denies.back (conjunction a b).value (conjunction-kept IsLiteral IsFormed formed-denies.keeps a b (each_from IsLiteral a h) (each_from IsLiteral b k)))

and_nor : (o a b : Bool) → ((o && not a) && not b) ≡ (o && not (a || b))
and_nor true true b = refl
and_nor true false b = refl
and_nor false a b = refl

negated_clauses-truth : (cs out : List (List Literal)) (e : List ℤ) → AreLiterals cs → AreLiterals out → dnf_truth (negated_clauses cs out).value e ≡ (dnf_truth out e && not (dnf_truth cs e))
unfolding next just
negated_clauses-truth [] out e h k = sym (and_true (dnf_truth out e))
negated_clauses-truth (c ∷ cs) out e h k =
    negated_clauses-truth cs (conjunction out (negated_clause c).value).value e h.1 (conjunction-are out (negated_clause c).value k (negated_clause-are c h.0))
    ∙ ap (λ b. b && not (dnf_truth cs e)) (and-truth out (negated_clause c).value e k (negated_clause-are c h.0) ∙ ap (λ b. dnf_truth out e && b) (negated_clause-truth c e h.0))
    ∙ and_nor (dnf_truth out e) (clause_truth c e) (dnf_truth cs e)

pub negation-truth : (d : List (List Literal)) (e : List ℤ) → AreLiterals d → dnf_truth (negation d).value e ≡ not (dnf_truth d e)
negation-truth d e h = negated_clauses-truth d top e h (All-from_recursion IsLiteral [] tt, tt)
