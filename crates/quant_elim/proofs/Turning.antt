-- Clauses taken from the end of a list that was turned round.
use Rattle.std.proofs.Common.{◌<◌, length, ◌≡◌, ◌≤◌, ℕ, List, [], ◌∷◌, ◌++◌, refl, ap, ◌∙◌, arith}
use Rattle.std.specs.Prelude.{reverse, max}
use Rattle.clause_set.specs.declared.literal.Literal.{Literal}
use Rattle.clause_set.specs.Rules.{measure}
use Rattle.quant_elim.specs.First.{farthest}
use Rattle.std.proofs.lemmas.List.{reverse-append, reverse-reverse}

pub reverse-last : {X : Type 0} (left before : List X) (c : X) → left ≡ before ++ c ∷ [] → reverse left ≡ c ∷ reverse before
reverse-last left before c e = ap reverse e ∙ reverse-append before (c ∷ [])

farthest-behind : (x : ℕ) (before : List (List Literal)) (c : List Literal) → farthest x (before ++ c ∷ []) ≡ max (farthest x before) (measure x c)
farthest-behind x [] c = omega arith
farthest-behind x (d ∷ ds) c = let rest = farthest-behind x ds c in omega (arith, rest)

-- the last clause, and those before it, are no farther than all
pub farthest-last : (x : ℕ) (left before : List (List Literal)) (c : List Literal) → left ≡ before ++ c ∷ [] → measure x c ≤ farthest x left
farthest-last x left before c e = let whole : farthest x left ≡ max (farthest x before) (measure x c) = ap (farthest x) e ∙ farthest-behind x before c in omega (arith, whole)

pub farthest-front : (x : ℕ) (left before : List (List Literal)) (c : List Literal) → left ≡ before ++ c ∷ [] → farthest x before ≤ farthest x left
farthest-front x left before c e = let whole : farthest x left ≡ max (farthest x before) (measure x c) = ap (farthest x) e ∙ farthest-behind x before c in omega (arith, whole)

-- at most one item is its own list turned round
pub turned_short : {X : Type 0} (xs : List X) → length xs < 2 → xs ≡ reverse xs
turned_short [] h = refl
turned_short (x ∷ []) h = refl
turned_short (x ∷ y ∷ xs) h = absurd (omega (arith, h))

pub ruleset short = (turned_short)

-- the clauses turned round are no farther
farthest-reverse : (x : ℕ) (cs : List (List Literal)) → farthest x (reverse cs) ≡ farthest x cs
farthest-reverse x [] = refl
farthest-reverse x (c ∷ cs) =
    let whole : farthest x (reverse (c ∷ cs)) ≡ max (farthest x (reverse cs)) (measure x c) = ap (farthest x) (reverse-append (c ∷ []) cs) ∙ farthest-behind x (reverse cs) c in
    let rest = farthest-reverse x cs in omega (arith, whole, rest)

pub near_turned : (x : ℕ) (cs left : List (List Literal)) → left ≡ reverse cs → farthest x left ≤ farthest x cs
near_turned x cs left e = let same : farthest x left ≡ farthest x cs = ap (farthest x) e ∙ farthest-reverse x cs in omega (arith, same)

pub turned_back : {X : Type 0} (cs left : List X) → left ≡ reverse cs → reverse left ≡ cs
turned_back cs left e = ap reverse e ∙ reverse-reverse cs

pub ruleset turning = (near_turned, turned_back)
