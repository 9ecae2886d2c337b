-- Facts with a sign, and the truth tables of the connectives.
use Rattle.std.proofs.Common.{◌≡◌, Bool, true, false, not, ◌&&◌, ◌||◌, refl, if◌then◌else◌}
use Rattle.std.specs.Bool.{beq}
use Rattle.smt_terms.specs.Operators.{either}
use Rattle.smt_terms.specs.Meaning.{SignedFact}

pub signed_not : (b : Bool) (A : Type 0) → SignedFact b A → SignedFact (not b) (¬ A)
signed_not true A h = λ n. n h
signed_not false A h = h

pub signed_test : (b : Bool) → SignedFact b (b ≡ true)
signed_test true = refl
signed_test false = λ h. cc

pub signed_alone : (b : Bool) (A : Type 0) → SignedFact b A → SignedFact (b && true) A
signed_alone true A h = h
signed_alone false A h = h

pub signed_and : (a b : Bool) (A B : Type 0) → SignedFact a A → SignedFact b B → SignedFact (a && b) (A × B)
signed_and true true A B h k = (h, k)
signed_and true false A B h k = λ p. k p.1
signed_and false b A B h k = λ p. h p.0

-- the fact that one and all the others are false
pub signed_none : (a b : Bool) (A X : Type 0) → SignedFact a A → SignedFact (not b) X → SignedFact (not (a || b)) ((¬ A) × X)
signed_none true b A X h k = λ p. p.0 h
signed_none false true A X h k = λ p. k p.1
signed_none false false A X h k = (h, k)

pub signed_some : (b : Bool) (X : Type 0) → SignedFact (not b) X → SignedFact b (¬ X)
signed_some true X h = h
signed_some false X h = λ n. n h

pub signed_iff : (a b : Bool) (A B : Type 0) → SignedFact a A → SignedFact b B → SignedFact (beq a b) ((A → B) × (B → A))
signed_iff true true A B h k = (λ _. k, λ _. h)
signed_iff true false A B h k = λ p. k (p.0 h)
signed_iff false true A B h k = λ p. h (p.1 k)
signed_iff false false A B h k = (λ x. absurd (h x), λ y. absurd (k y))

pub signed_implies : (a b : Bool) (A B : Type 0) → SignedFact a A → SignedFact b B → SignedFact (not a || b) (A → B)
signed_implies true true A B h k = λ _. k
signed_implies true false A B h k = λ f. k (f h)
signed_implies false b A B h k = λ x. absurd (h x)

pub signed_either : (a b : Bool) (A B : Type 0) → SignedFact a A → SignedFact b B → SignedFact (either a b) (¬ ((A → B) × (B → A)))
signed_either a b A B h k = signed_not (beq a b) ((A → B) × (B → A)) (signed_iff a b A B h k)

-- the one formula where the condition is true, else the other: an implication and a disjunction
pub signed_choice : (c a b : Bool) (C A B : Type 0) → SignedFact c C → SignedFact a A → SignedFact b B
    → SignedFact (if c then a else b) ((C → A) × ((¬ ((¬ C) × ((¬ B) × Unit {0}))) × Unit {0}))
signed_choice true true b C A B h j k = (λ _. j, (λ p. p.0 h, tt))
signed_choice true false b C A B h j k = λ p. j (p.0 h)
signed_choice false a true C A B h j k = (λ c. absurd (h c), (λ p. p.1.0 k, tt))
signed_choice false a false C A B h j k = λ p. p.1.0 (h, (k, tt))
