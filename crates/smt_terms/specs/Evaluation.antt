-- The value of a term of SMT-LIB 2.6 in an interpretation, by recursion on the term (section 5.3): a `let` evaluates its terms
-- outside and extends the list of values, and a defined function is evaluated at the values of its arguments.
--
-- The truth of a quantified formula is one that nobody can decide, so what is defined is that the value has a property, as
-- for terms with a condition in form_typed; a term has the value v where its value has the property of being v.
use Rattle.std.specs.Prelude.{◌≡◌, ℕ, ℤ, Bool, true, false, List, length, nat_eq, [], ◌∷◌, map, Option, Some, None}
use Rattle.std.specs.Bool.{MatchBool}
use Rattle.base_integers.specs.Entry.{entry}
use Rattle.form_typed.specs.Truth.{Meaning}
use Rattle.base_texts.specs.Texts.{is_text}
use Rattle.smt_terms.specs.declared.operator.Operator.{Operator}
use Rattle.smt_terms.specs.declared.term.Variable.{Variable}
use Rattle.smt_terms.specs.Term.{PlacedTerm, PlacedTerms, Bindings, number, large, used, let_in, quantified, annotated, ill, no_phrase, and_phrase, no_binding, and_binding}
use Rattle.smt_terms.specs.Operators.{Value, integer, truth, as_integer, as_truth, applied, found, operator_of}

-- the names that are bound where a term stands, with their values, the innermost first
abbrev pub Values : Type 0
Values = List (List ℕ × Value)

-- names with their values put before those around them, the last one innermost
abbrev pub with_names : {A : Type 0} → List (List ℕ) → List A → List (List ℕ × A) → List (List ℕ × A)
with_names [] vs outer = outer
with_names (x ∷ xs) [] outer = outer
with_names (x ∷ xs) (v ∷ vs) outer = with_names xs vs ((x, v) ∷ outer)

-- the names that a `let` binds
abbrev pub names_of : Bindings → List (List ℕ)
names_of no_binding = []
names_of (and_binding x t bs) = x ∷ names_of bs

-- the terms to which it binds them
abbrev pub terms_of : Bindings → PlacedTerms
terms_of no_binding = no_phrase
terms_of (and_binding x t bs) = and_phrase t (terms_of bs)

-- the names of variables
abbrev pub texts_of : List Variable → List (List ℕ)
texts_of = map (λ x. x.text)

-- what the symbols of a script mean: at these values of its arguments the value of a symbol has a property
abbrev pub Symbols : Type 1
Symbols = List ℕ → List Value → (Value → Type 0) → Type 0

-- the truth of a fact has a property
abbrev pub HasTruth : Type 0 → (Value → Type 0) → Type 0
HasTruth A P = (A → P (truth true)) × (¬ A → P (truth false))

-- the value of a symbol at these arguments: of a bound name, else of an operator, else of a symbol of the script
abbrev pub UseHas : Symbols → Option Value → Option Operator → List ℕ → List Value → (Value → Type 0) → Type 0
UseHas S (Some v) o x vs P = P v
UseHas S None (Some o) x vs P = P (applied o vs)
UseHas S None None x vs P = S x vs P

-- each integer, or some integer, is a value of the variables at which the body is true
abbrev pub Ranges : Bool → List (List ℕ) → (Values → Type 0) → Values → Type 0
Ranges all [] Body b = Body b
Ranges true (x ∷ xs) Body b = (v : ℤ) → Ranges true xs Body ((x, integer v) ∷ b)
Ranges false (x ∷ xs) Body b = ¬ ((v : ℤ) → ¬ (Ranges false xs Body ((x, integer v) ∷ b)))

-- the value is true
abbrev pub IsTruth : Value → Type 0
IsTruth v = as_truth v ≡ true

abbrev mutual
  -- the value of the term has the property
  pub Has : Symbols → Values → PlacedTerm → (Value → Type 0) → Type 0
  Has S b (number _ n) P = P (integer n)
  Has S b (large _) P = P (truth false)
  Has S b (used _ x ts) P = HaveAll S b ts (λ vs. UseHas S (found x.text b) (operator_of x.text) x.text vs P)
  Has S b (let_in _ bs t) P = HaveBound S b bs (λ vs. Has S (with_names (names_of bs) vs b) t P)
  Has S b (quantified _ all xs t) P = HasTruth (Ranges all (texts_of xs) (λ c. Has S c t IsTruth) b) P
  Has S b (annotated _ t) P = Has S b t P
  Has S b (ill _) P = P (truth false)

  -- the list of the values of the terms has the property
  pub HaveAll : Symbols → Values → PlacedTerms → (List Value → Type 0) → Type 0
  HaveAll S b no_phrase P = P []
  HaveAll S b (and_phrase t ts) P = Has S b t (λ v. HaveAll S b ts (λ vs. P (v ∷ vs)))

  -- the list of the values of the terms of a `let` has the property
  pub HaveBound : Symbols → Values → Bindings → (List Value → Type 0) → Type 0
  HaveBound S b no_binding P = P []
  HaveBound S b (and_binding x t bs) P = Has S b t (λ v. HaveBound S b bs (λ vs. P (v ∷ vs)))

-- The symbols of a script.

-- what a symbol is declared or defined as: an Int constant, a function or a predicate, by its number among those of its
-- kind, or a function of these names by a term
pub data Meant : Type 0 where
  constant_of : ℕ → Meant
  function_of : ℕ → Meant
  predicate_of : ℕ → Meant
  defined_by : List (List ℕ) → PlacedTerm → Meant

-- the symbols of a script, the last one first
abbrev pub Globals : Type 0
Globals = List (List ℕ × Meant)

-- The value of a symbol that is declared or defined so, after the symbols before it. That of a defined function at another number
-- of arguments is of no interest.
abbrev pub MeantHas : Meaning → List ℤ → Symbols → Meant → List Value → (Value → Type 0) → Type 0
MeantHas w u S (constant_of k) vs P = P (integer (entry u k))
MeantHas w u S (function_of k) vs P = P (integer (w.value k (map as_integer vs)))
MeantHas w u S (predicate_of k) vs P = P (truth (w.truth k (map as_integer vs)))
MeantHas w u S (defined_by xs t) vs P = MatchBool (nat_eq (length vs) (length xs)) (Has S (with_names xs vs []) t P) (P (truth false))

-- the value of a symbol in an interpretation, at these integers of the Int constants
abbrev pub SymbolHas : Meaning → List ℤ → Globals → Symbols
SymbolHas w u [] x vs P = P (truth false)
SymbolHas w u (g ∷ gs) x vs P = MatchBool (is_text x g.0) (MeantHas w u (SymbolHas w u gs) g.1 vs P) (SymbolHas w u gs x vs P)

-- the term is true in the interpretation, at these integers of the Int constants
abbrev pub IsTrue : Meaning → List ℤ → Globals → PlacedTerm → Type 0
IsTrue w u gs t = Has (SymbolHas w u gs) [] t IsTruth
