-- Operations on disjunctions of clauses that are in form leave such ones.
use Rattle.std.proofs.Common.{List, [], ◌∷◌}
use Rattle.std.specs.Prelude.{All}
use Rattle.std.proofs.lemmas.List.Elements.{All-from_recursion, All-weaker}
use Rattle.base_budget.specs.Trace.{just, step, next}
use Rattle.clause_set.specs.declared.literal.Literal.{Literal}
use Rattle.clause_set.specs.declared.literal.Literal.TheVariants.{Eq, Geq, Div, NDiv}
use Rattle.clause_set.specs.Literals.{IsLiteral, AreLiterals}
use Rattle.clause_set.specs.Formed.{IsFormed}
use Rattle.clause_set.specs.Dnfs.{negated_literal, top}
use Rattle.clause_set.proofs.Negations.{alone, less, more, less_is, more_is}
use Rattle.elim_rule_laws.proofs.EquationLists.{kept-weaker}
use Rattle.clause_set.specs.Kept.{AreFormed}
use Rattle.clause_set.proofs.Shapes.{clauses_of-formed}

pub literals_of_clause : (c : List Literal) → All IsFormed c → All IsLiteral c
literals_of_clause c h = All-weaker IsFormed IsLiteral (λ l f. f.literal) c h

pub formed-literals : (d : List (List Literal)) → AreFormed d → AreLiterals d
formed-literals d h = kept-weaker (All IsFormed) (All IsLiteral) literals_of_clause d h

pub negated_literal-formed : (l : Literal) → IsLiteral l → AreFormed (negated_literal l).value
unfolding next just step
negated_literal-formed (Geq t) h = clauses_of-formed ((Geq (less t) ∷ []) ∷ []) (alone _ (less_is t h.term), tt)
negated_literal-formed (Eq t) h = clauses_of-formed ((Geq (less t) ∷ []) ∷ (Geq (more t) ∷ []) ∷ []) (alone _ (less_is t h.term), (alone _ (more_is t h.term), tt))
negated_literal-formed (Div d t) h = clauses_of-formed ((NDiv d t ∷ []) ∷ []) (alone (NDiv d t) (record { term = h.term; divisor = h.divisor }), tt)
negated_literal-formed (NDiv d t) h = clauses_of-formed ((Div d t ∷ []) ∷ []) (alone (Div d t) (record { term = h.term; divisor = h.divisor }), tt)

pub top-formed : AreFormed top
top-formed = (All-from_recursion IsFormed [] tt, tt)
