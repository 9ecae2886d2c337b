-- What is kept, said of tests.
use Rattle.std.proofs.Common.{◌≡◌, Bool, true, false, ◌&&◌, List, [], ◌∷◌, refl}
use Rattle.std.specs.List.{AllByRecursion, list_all}
use Rattle.std.specs.Cmp.{first_so, second_so}
use Rattle.clause_set.specs.declared.literal.Literal.{Literal}
use Rattle.clause_set.specs.Normal.{normal_of}
use Rattle.clause_set.specs.Clauses.{tightened, literals_of, clauses_of}
use Rattle.clause_set.specs.Dnfs.{tidied}
use Rattle.clause_set.proofs.Kept.{Each, clauses-kept, tidied-kept}

both_so : (a b : Bool) → a ≡ true → b ≡ true → (a && b) ≡ true
both_so true b h k = k
both_so false b h k = absurd (cc)

pass_from : {X : Type 0} (f : X → Bool) (xs : List X) → list_all f xs ≡ true → AllByRecursion (λ x. f x ≡ true) xs
pass_from f [] h = tt
pass_from f (x ∷ xs) h = (first_so (f x) (list_all f xs) h, pass_from f xs (second_so (f x) (list_all f xs) h))

pass_to : {X : Type 0} (f : X → Bool) (xs : List X) → AllByRecursion (λ x. f x ≡ true) xs → list_all f xs ≡ true
pass_to f [] h = refl
pass_to f (x ∷ xs) h = both_so (f x) (list_all f xs) h.0 (pass_to f xs h.1)

each_from : (p : Literal → Bool) (cs : List (List Literal)) → list_all (list_all p) cs ≡ true → Each (λ l. p l ≡ true) cs
each_from p [] h = tt
each_from p (c ∷ cs) h = (pass_from p c (first_so (list_all p c) (list_all (list_all p) cs) h), each_from p cs (second_so (list_all p c) (list_all (list_all p) cs) h))

each_to : (p : Literal → Bool) (cs : List (List Literal)) → Each (λ l. p l ≡ true) cs → list_all (list_all p) cs ≡ true
each_to p [] h = refl
each_to p (c ∷ cs) h = both_so (list_all p c) (list_all (list_all p) cs) (pass_to p c h.0) (each_to p cs h.1)

pub clauses-pass : (p q : Literal → Bool) → ((l : Literal) → p l ≡ true → list_all q (literals_of (normal_of l)) ≡ true)
    → ((ls : List Literal) (l : Literal) → q l ≡ true → q (tightened ls l) ≡ true)
    → (cs : List (List Literal)) → list_all (list_all p) cs ≡ true → list_all (list_all q) (clauses_of cs) ≡ true
clauses-pass p q f g cs h =
    each_to q (clauses_of cs)
    (clauses-kept (λ l. p l ≡ true) (λ l. q l ≡ true) (record { normal = λ l y. pass_from q (literals_of (normal_of l)) (f l y); tight = g }) cs (each_from p cs h))

pub tidied-pass : (p : List Literal → Bool) (cs : List (List Literal)) → list_all p cs ≡ true → list_all p (tidied cs) ≡ true
tidied-pass p cs h = pass_to p (tidied cs) (tidied-kept (λ c. p c ≡ true) cs (pass_from p cs h))
