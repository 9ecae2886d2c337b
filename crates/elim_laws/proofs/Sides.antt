-- The tidy form of at most one clause is that clause.
use Rattle.std.proofs.Common.{◌≡◌, Bool, true, false, not, ◌&&◌, ◌||◌, cond, List, [], ◌∷◌, ◌++◌, Option, Some, None, refl, ◌∙◌, ap}
use Rattle.clause_set.specs.declared.literal.Literal.{Literal}
use Rattle.clause_set.specs.Order.{sorted_once}
use Rattle.clause_set.specs.Clauses.{clause_of, clauses_of, found}
use Rattle.clause_set.specs.Dnfs.{covers, tidied}

kept_alone : (c : List Literal) (b : Bool) → cond (not ((b && not b) || false)) (c ∷ []) [] ≡ c ∷ []
kept_alone c true = refl
kept_alone c false = refl

tidied_one : (c : List Literal) → tidied (c ∷ []) ≡ c ∷ []
unfolding tidied sorted_once
tidied_one c = kept_alone c (covers c c)

tidied_none : tidied [] ≡ []
unfolding tidied sorted_once
tidied_none = refl

tidied_found : (o : Option (List Literal)) → tidied (found o ++ []) ≡ found o ++ []
tidied_found None = tidied_none
tidied_found (Some c) = tidied_one c

pub one_tidied : (d cs : List (List Literal)) (ls : List Literal) → d ≡ tidied cs → cs ≡ clauses_of (ls ∷ []) → d ≡ clauses_of (ls ∷ [])
one_tidied d cs ls is same = is ∙ ap tidied same ∙ tidied_found (clause_of ls)
