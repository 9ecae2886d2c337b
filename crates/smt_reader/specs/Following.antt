-- What is held of the commands so far, beside what they came to.
use Rattle.std.specs.Prelude.{◌≡◌, ◌≤◌, ℕ, false, List, [], ◌∷◌, ◌++◌, length, map, take}
use Rattle.base_texts.specs.Texts.{is_among}
use Rattle.smt_terms.specs.Scripts as scripts
use Rattle.smt_terms.specs.Scripts.{Command, State, declare, define, claim, check}
use Rattle.form_typed.specs.Formula.{formulas}
use Rattle.smt_terms.specs.Translation.{asserted, said, symbol_said}
use Rattle.smt_sizes.specs.Sizes.{all_sizes}
use Rattle.smt_sizes.specs.Forms.{Describes}
use Rattle.smt_names.specs.declared.body.Body.{Body}
use Rattle.smt_names.specs.Body.{shape}
use Rattle.smt_names.specs.Known.{Knows}
use Rattle.smt_names.specs.Saying.{calls_of, shape_said}
use Rattle.smt_reader.specs.Formed.{symbols}
use Rattle.smt_reader.specs.declared.following.Assertion.{Assertion}
use Rattle.smt_reader.specs.declared.following.Reading.{Reading}

-- an assertion says what its term says over the symbols before it
pub record IsClaim (definitions : List Body) (a : Assertion) (c : scripts.Claim) : Type 0 where
  pub within : a.definitions ≤ length definitions
  pub says : shape_said (calls_of (take a.definitions definitions)) [] (shape a.body) ≡ said (symbol_said c.globals) [] c.term

-- the same of several, in order
abbrev pub AreClaims : List Body → List Assertion → List scripts.Claim → Type 0
AreClaims ds [] [] = Unit {0}
AreClaims ds [] (c ∷ cs) = ⊥
AreClaims ds (a ∷ as_) [] = ⊥
AreClaims ds (a ∷ as_) (c ∷ cs) = IsClaim ds a c × AreClaims ds as_ cs

-- what is held is what the commands came to
pub record FollowsState (r : Reading) (s : State) : Type 0 where
  pub knows : Knows r.known s.globals
  pub constants : r.constants ≡ s.constants
  pub functions : r.functions ≡ symbols s.functions
  pub predicates : r.predicates ≡ symbols s.predicates
  pub claims : AreClaims r.known.definitions r.claims s.claims
  pub forms : Describes r.forms r.known.definitions
  pub size : (n : ℕ) → r.size ≡ all_sizes (formulas (map (λ c. asserted c.globals n c.term) s.claims))

-- a symbol that is declared or defined is none of these
abbrev pub IsNewSymbol : List (List ℕ) → Command → Type 0
IsNewSymbol texts (declare x n k) = is_among x texts ≡ false
IsNewSymbol texts (define x xs k t) = is_among x texts ≡ false
IsNewSymbol texts (claim t) = Unit {0}
IsNewSymbol texts check = Unit {0}

-- the symbols after a command
abbrev pub texts_behind : List (List ℕ) → Command → List (List ℕ)
texts_behind texts (declare x n k) = texts ++ x ∷ []
texts_behind texts (define x xs k t) = texts ++ x ∷ []
texts_behind texts (claim t) = texts
texts_behind texts check = texts

-- no symbol is declared or defined twice
abbrev pub AreNew : List (List ℕ) → List Command → Type 0
AreNew texts [] = Unit {0}
AreNew texts (c ∷ cs) = IsNewSymbol texts c × AreNew (texts_behind texts c) cs

-- the symbols after several commands
abbrev pub texts_behind_all : List (List ℕ) → List Command → List (List ℕ)
texts_behind_all texts [] = texts
texts_behind_all texts (c ∷ cs) = texts_behind_all (texts_behind texts c) cs
