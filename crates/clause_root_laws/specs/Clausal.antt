-- A disjunction of clauses as a formula of the calculus.
use Rattle.std.specs.Prelude.{ℕ, ℤ, neg_ℤ, List, map, All}
use Rattle.linear_term.specs.Linear.{Linear, with_monomial, IsOver}
use Rattle.clause_set.specs.declared.literal.Literal.{Literal}
use Rattle.clause_set.specs.declared.literal.Literal.TheVariants.{Eq, Geq, Div, NDiv}
use Rattle.clause_set.specs.Literals.{term_of}
use Rattle.formula.specs.Form.{Form, equal, unequal, at_least, conjunction, disjunction, universal, existential, forms}

-- t − d·q, where q is the name n
abbrev pub remainder : ℕ → ℤ → Linear → Linear
remainder n d t = with_monomial t n (neg_ℤ d)

-- the literal as a formula over n: d divides t where t − d·q is 0 for some q
abbrev pub literal_form : ℕ → Literal → Form
literal_form n (Eq t) = equal t
literal_form n (Geq t) = at_least t
literal_form n (Div d t) = existential (equal (remainder n d t))
literal_form n (NDiv d t) = universal (unequal (remainder n d t))

-- the clause as a formula over n
abbrev pub clause_form : ℕ → List Literal → Form
clause_form n c = conjunction (forms (map (literal_form n) c))

-- the disjunction of clauses as a formula over n
abbrev pub dnf_form : ℕ → List (List Literal) → Form
dnf_form n d = disjunction (forms (map (clause_form n) d))

-- the terms of the literals are over n
abbrev pub AreTermsOver : ℕ → List Literal → Type 0
AreTermsOver n c = All (λ l. IsOver n (term_of l)) c
