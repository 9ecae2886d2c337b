-- Operations on disjunctions keep truth.
use Rattle.std.proofs.Common.{◌≡◌, ℤ, Bool, true, false, ◌&&◌, ◌||◌, List, [], ◌∷◌, ◌++◌, Option, Some, None, refl, sym, ◌∙◌, ap}
use Rattle.std.specs.Prelude.{All}
use Rattle.std.proofs.lemmas.List.Folds.{list_any-append, list_all-append}
use Rattle.std.proofs.lemmas.List.Elements.{All-from_recursion, recursion_from_All}
use Rattle.base_budget.specs.Trace.{just, step, next}
use Rattle.clause_set.specs.declared.literal.Literal.{Literal}
use Rattle.clause_set.specs.Literals.{literal_truth, clause_truth, answer_truth, dnf_truth, IsLiteral, AreLiterals}
use Rattle.clause_set.specs.Clauses.{clause_of, found, clauses_of}
use Rattle.clause_set.specs.Dnfs.{joined_with, joined, conjunction, disjunction}
use Rattle.clause_set.proofs.ClauseTruth.{and_false, clause-truth}
use Rattle.clause_set.proofs.Divisors.{kept-append}
use Rattle.clause_set.proofs.Covers.{tidied-truth}

pub or_nothing : (a : Bool) → (a || false) ≡ a
or_nothing true = refl
or_nothing false = refl

and_or : (a b c : Bool) → ((a && b) || (a && c)) ≡ (a && (b || c))
and_or true b c = refl
and_or false b c = refl

or_and : (a b c : Bool) → ((a && c) || (b && c)) ≡ ((a || b) && c)
or_and true true true = refl
or_and true true false = refl
or_and true false true = refl
or_and true false false = refl
or_and false b c = refl

pub or_of_both : (a b : List (List Literal)) (e : List ℤ) → dnf_truth (a ++ b) e ≡ (dnf_truth a e || dnf_truth b e)
or_of_both a b e = list_any-append (λ c. clause_truth c e) a b

pub or-truth : (a b : List (List Literal)) (e : List ℤ) → dnf_truth (disjunction a b).value e ≡ (dnf_truth a e || dnf_truth b e)
unfolding next just step
or-truth a b e = tidied-truth (a ++ b) e ∙ or_of_both a b e

found-truth : (o : Option (List Literal)) (e : List ℤ) → dnf_truth (found o) e ≡ answer_truth o e
found-truth None e = refl
found-truth (Some c) e = or_nothing (clause_truth c e)

pub append-literals : (c d : List Literal) → All IsLiteral c → All IsLiteral d → All IsLiteral (c ++ d)
append-literals c d h k = All-from_recursion IsLiteral (c ++ d) (kept-append IsLiteral c d (recursion_from_All IsLiteral c h) (recursion_from_All IsLiteral d k))

one_joined : (c x : List Literal) (e : List ℤ) → All IsLiteral c → All IsLiteral x → dnf_truth (found (clause_of (c ++ x))) e ≡ (clause_truth c e && clause_truth x e)
one_joined c x e h k =
    found-truth (clause_of (c ++ x)) e ∙ clause-truth (c ++ x) e (append-literals c x h k) ∙ list_all-append (λ l. literal_truth l e) c x

joined_with-truth : (c : List Literal) (d : List (List Literal)) (e : List ℤ) → All IsLiteral c → AreLiterals d → dnf_truth (joined_with c d) e ≡ (clause_truth c e && dnf_truth d e)
joined_with-truth c [] e h k = sym (and_false (clause_truth c e))
joined_with-truth c (x ∷ d) e h k =
    list_any-append (λ z. clause_truth z e) (found (clause_of (c ++ x))) (joined_with c d)
    ∙ ap (λ b. b || dnf_truth (joined_with c d) e) (one_joined c x e h k.0)
    ∙ ap (λ b. (clause_truth c e && clause_truth x e) || b) (joined_with-truth c d e h k.1)
    ∙ and_or (clause_truth c e) (clause_truth x e) (dnf_truth d e)

joined-truth : (a b : List (List Literal)) (e : List ℤ) → AreLiterals a → AreLiterals b → dnf_truth (joined a b) e ≡ (dnf_truth a e && dnf_truth b e)
joined-truth [] b e h k = refl
joined-truth (c ∷ a) b e h k =
    list_any-append (λ z. clause_truth z e) (joined_with c b) (joined a b)
    ∙ ap (λ z. z || dnf_truth (joined a b) e) (joined_with-truth c b e h.0 k)
    ∙ ap (λ z. (clause_truth c e && dnf_truth b e) || z) (joined-truth a b e h.1 k)
    ∙ or_and (clause_truth c e) (dnf_truth a e) (dnf_truth b e)

pub and-truth : (a b : List (List Literal)) (e : List ℤ) → AreLiterals a → AreLiterals b → dnf_truth (conjunction a b).value e ≡ (dnf_truth a e && dnf_truth b e)
unfolding next just step
and-truth a b e h k = tidied-truth (joined a b) e ∙ joined-truth a b e h k

pub clauses_of-truth : (cs : List (List Literal)) (e : List ℤ) → AreLiterals cs → dnf_truth (clauses_of cs) e ≡ dnf_truth cs e
clauses_of-truth [] e h = refl
clauses_of-truth (c ∷ cs) e h =
    list_any-append (λ z. clause_truth z e) (found (clause_of c)) (clauses_of cs)
    ∙ ap (λ b. b || dnf_truth (clauses_of cs) e) (found-truth (clause_of c) e ∙ clause-truth c e h.0)
    ∙ ap (λ b. clause_truth c e || b) (clauses_of-truth cs e h.1)
