-- Terms of SMT-LIB as trees of the logic, and the tree that a term of the code is.
use Rattle.std.specs.Prelude.{ℕ, suc, ℤ, Bool, List, [], ◌∷◌, map}
use Rattle.smt_terms.specs.declared.term.Name.{Name}
use Rattle.smt_terms.specs.declared.term.Variable.{Variable}
use Rattle.smt_terms.specs.declared.term.Binding.{Binding}
use Rattle.smt_terms.specs.declared.term.Term.{Term}
use Rattle.smt_terms.specs.declared.term.Term.TheOpen as o
use Rattle.smt_terms.specs.declared.term.Term.TheOpen.{Term-F, Binding-F}
use Rattle.smt_terms.specs.declared.term.Term.TheFolds.{fold-Term, fold-Binding}

mutual
  -- a term, with the offset of its first byte
  pub data PlacedTerm : Type 0 where
    number : ℕ → ℤ → PlacedTerm
    large : ℕ → PlacedTerm
    used : ℕ → Name → PlacedTerms → PlacedTerm
    let_in : ℕ → Bindings → PlacedTerm → PlacedTerm
    -- true for `forall`
    quantified : ℕ → Bool → List Variable → PlacedTerm → PlacedTerm
    annotated : ℕ → PlacedTerm → PlacedTerm
    ill : ℕ → PlacedTerm

  -- a list of them
  pub data PlacedTerms : Type 0 where
    no_phrase : PlacedTerms
    and_phrase : PlacedTerm → PlacedTerms → PlacedTerms

  -- the bindings of a `let`: symbols with their terms
  pub data Bindings : Type 0 where
    no_binding : Bindings
    and_binding : List ℕ → PlacedTerm → Bindings → Bindings

-- the terms of a list, in order
abbrev pub phrases : List PlacedTerm → PlacedTerms
phrases [] = no_phrase
phrases (t ∷ ts) = and_phrase t (phrases ts)

-- a symbol with its term
pub record BoundTerm : Type 0 where
  pub text : List ℕ
  pub term : PlacedTerm

-- the bindings of a list, in order
abbrev pub bindings : List BoundTerm → Bindings
bindings [] = no_binding
bindings (b ∷ bs) = and_binding b.text b.term (bindings bs)

abbrev pub phrase_step : Term-F PlacedTerm BoundTerm → PlacedTerm
phrase_step (o.Number at n) = number at n
phrase_step (o.Large at) = large at
phrase_step (o.Use at x ts) = used at x (phrases ts)
phrase_step (o.Let at bs t) = let_in at (bindings bs) t
phrase_step (o.Quantified at all xs t) = quantified at all xs t
phrase_step (o.Annotated at t) = annotated at t
phrase_step (o.Ill at) = ill at

abbrev pub bound_step : Binding-F PlacedTerm BoundTerm → BoundTerm
bound_step b = record { text = b.text; term = b.term }

-- the tree that a term of the code is
abbrev pub phrase : Term → PlacedTerm
phrase = fold-Term PlacedTerm BoundTerm phrase_step bound_step

-- the tree of a binding
abbrev pub bound : Binding → BoundTerm
bound = fold-Binding PlacedTerm BoundTerm phrase_step bound_step

-- the trees of a list of terms
abbrev pub phrases_of : List Term → PlacedTerms
phrases_of ts = phrases (map phrase ts)

-- the trees of a list of bindings
abbrev pub bindings_of : List Binding → Bindings
bindings_of bs = bindings (map bound bs)

-- the offset of the first byte
abbrev pub first_byte : PlacedTerm → ℕ
first_byte (number at n) = at
first_byte (large at) = at
first_byte (used at x ts) = at
first_byte (let_in at bs t) = at
first_byte (quantified at all xs t) = at
first_byte (annotated at t) = at
first_byte (ill at) = at

-- how many there are
abbrev pub count : PlacedTerms → ℕ
count no_phrase = 0
count (and_phrase t ts) = suc (count ts)
