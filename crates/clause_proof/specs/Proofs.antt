-- What a clause proof of a formula is.
use Rattle.std.specs.Prelude.{◌≡◌, ℕ, ℤ, Bool, true, false, List, [], ◌∷◌, map, Option, None, Some}
use Rattle.form_typed.specs.Truth.{Meaning}
use Rattle.linear_term.specs.Linear.{number}
use Rattle.formula.specs.Form.{Form}
use Rattle.clause_proof.specs.declared.line.Literal.{Literal}
use Rattle.clause_proof.specs.declared.line.Line.{Line}
use Rattle.clause_proof.specs.Clauses.{always, State, IsFormedState, AreClausesRefuted}
use Rattle.clause_proof.specs.Atoms.{literal_of}
use Rattle.clause_proof.specs.Lines.{after, adding, extended, found, positive, opposite}

-- variable 0 is true
abbrev pub empty_state : State
empty_state = record { definitions = always ∷ []; clauses = Some (positive 0 ∷ []) ∷ []; applications = []; count = 0 }

-- the formula f at the integers ks for its names is false; the literal m stands for it
abbrev pub start : Form → List ℤ → Literal → Option State
start f ks m = extended empty_state (adding (literal_of f (map number ks) ∷ []) (m ∷ []) ((opposite m ∷ []) ∷ []) 0)

-- the state after these lines
abbrev pub run : State → List Line → Option State
run s [] = Some s
run s (l ∷ ls) = found (after s l) (λ t. run t ls)

-- a clause that is there, with no literal
abbrev pub is_empty : Option (List Literal) → Bool
is_empty None = false
is_empty (Some []) = true
is_empty (Some (l ∷ ls)) = false

-- the last of the clauses, c and then these, is empty
abbrev pub ends_so : Option (List Literal) → List (Option (List Literal)) → Bool
ends_so c [] = is_empty c
ends_so c (d ∷ cs) = ends_so d cs

abbrev pub ends_empty : List (Option (List Literal)) → Bool
ends_empty [] = false
ends_empty (c ∷ cs) = ends_so c cs

-- the lines lead from the falsity of f at ks to the empty clause
pub record IsClauseProof (f : Form) (ks : List ℤ) (m : Literal) (ls : List Line) : Type 0 where
  pub last : State
  pub runs : found (start f ks m) (λ s. run s ls) ≡ Some last
  pub ends : ends_empty last.clauses ≡ true

-- what a line gives: a well-formed state; and where its clauses are refuted, so were those before it
abbrev pub KeepsTruth : Meaning → State → Option State → Type 0
KeepsTruth w s None = Unit {0}
KeepsTruth w s (Some t) = IsFormedState t × (AreClausesRefuted w t → AreClausesRefuted w s)
