-- Definitions that are compared as one are one.
use Rattle.std.proofs.Common.{◌≡◌, ℕ, Bool, true, false, not, ◌&&◌, nat_eq, List, [], ◌∷◌, refl, subst}
use Rattle.std.specs.Ordering.{is_eq}
use Rattle.std.specs.Cmp.Lexicographic.{pointwise}
use Rattle.std.specs.declared.cmp.Ordering.{Ordering}
use Rattle.std.specs.declared.cmp.Ordering.TheVariants.{Less, Equal, Greater}
use Rattle.std.proofs.lemmas.Bool.{and_parts}
use Rattle.linear_term.specs.Linear.{Linear}
use Rattle.linear_term.specs.Order.{linear_cmp}
use Rattle.linear_term.proofs.Orders.{linear_cmp-equal}
use Rattle.pred_unify.proofs.Clashes.{same_number}
use Rattle.clause_proof.specs.Clauses.{Definition, always, at_least_zero, is_zero, predicate, closure}
use Rattle.clause_proof.specs.Atoms.{same_term, same_terms, same_definition}
use Rattle.clause_proof.specs.Lines.{same_sign}

equal_is : (o : Ordering) → is_eq o ≡ true → o ≡ Equal
equal_is Less h = absurd (cc)
equal_is Equal h = refl
equal_is Greater h = absurd (cc)

pub same_term_is : (s t : Linear) → same_term s t ≡ true → s ≡ t
same_term_is s t h = linear_cmp-equal s t (equal_is (linear_cmp s t) h)

pub same_terms_are : (ss ts : List Linear) → same_terms ss ts ≡ true → ss ≡ ts
same_terms_are [] [] h = refl
same_terms_are [] (t ∷ ts) h = absurd (cc)
same_terms_are (s ∷ ss) [] h = absurd (cc)
same_terms_are (s ∷ ss) (t ∷ ts) h =
    let two = and_parts (same_term s t) (same_terms ss ts) h in
    λ i. same_term_is s t two.0 i ∷ same_terms_are ss ts two.1 i

pub same_definition_is : (c d : Definition) → same_definition c d ≡ true → c ≡ d
same_definition_is always always h = refl
same_definition_is always (at_least_zero t) h = absurd (cc)
same_definition_is always (is_zero t) h = absurd (cc)
same_definition_is always (predicate q ts) h = absurd (cc)
same_definition_is always (closure g ts) h = absurd (cc)
same_definition_is (at_least_zero s) always h = absurd (cc)
same_definition_is (at_least_zero s) (at_least_zero t) h = λ i. at_least_zero (same_term_is s t h i)
same_definition_is (at_least_zero s) (is_zero t) h = absurd (cc)
same_definition_is (at_least_zero s) (predicate q ts) h = absurd (cc)
same_definition_is (at_least_zero s) (closure g ts) h = absurd (cc)
same_definition_is (is_zero s) always h = absurd (cc)
same_definition_is (is_zero s) (at_least_zero t) h = absurd (cc)
same_definition_is (is_zero s) (is_zero t) h = λ i. is_zero (same_term_is s t h i)
same_definition_is (is_zero s) (predicate q ts) h = absurd (cc)
same_definition_is (is_zero s) (closure g ts) h = absurd (cc)
same_definition_is (predicate p ss) always h = absurd (cc)
same_definition_is (predicate p ss) (at_least_zero t) h = absurd (cc)
same_definition_is (predicate p ss) (is_zero t) h = absurd (cc)
same_definition_is (predicate p ss) (predicate q ts) h =
    let two = and_parts (nat_eq p q) (same_terms ss ts) h in
    λ i. predicate (same_number p q two.0 i) (same_terms_are ss ts two.1 i)
same_definition_is (predicate p ss) (closure g ts) h = absurd (cc)
same_definition_is (closure f ss) always h = absurd (cc)
same_definition_is (closure f ss) (at_least_zero t) h = absurd (cc)
same_definition_is (closure f ss) (is_zero t) h = absurd (cc)
same_definition_is (closure f ss) (predicate q ts) h = absurd (cc)
same_definition_is (closure f ss) (closure g ts) h = absurd (cc)

pub signs : (a b : Bool) → same_sign a b ≡ true → a ≡ b
signs true true h = refl
signs true false h = absurd (cc)
signs false true h = absurd (cc)
signs false false h = refl
