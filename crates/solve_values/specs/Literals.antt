-- Literals with another term.
use Rattle.linear_term.specs.Linear.{Linear}
use Rattle.clause_set.specs.declared.literal.Literal.{Literal}
use Rattle.clause_set.specs.declared.literal.Literal.TheVariants.{Eq, Geq, Div, NDiv}

-- the literal with the term s
abbrev pub with_term : Literal → Linear → Literal
with_term (Eq t) s = Eq s
with_term (Geq t) s = Geq s
with_term (Div d t) s = Div d s
with_term (NDiv d t) s = NDiv d s
