-- A printed text is read back as what it was printed from.
use Rattle.std.proofs.Common.{◌≡◌, ℕ, ◌+◌, ◌<◌, ◌≤◌, Bool, true, false, List, [], ◌∷◌, ◌++◌, length, map, arith, length-append, zero, suc, cond}
use Rattle.std.specs.List.{AllByRecursion}
use Rattle.std.proofs.lemmas.List.{length-map}
use Rattle.std.proofs.lemmas.List.Elements.{recursion_from_All}
use Rattle.pri_tokens.specs.Written.{IsIdentifier}
use Rattle.pri_reader.specs.Grammar.{whole}
use Rattle.clause_set.specs.declared.literal.Literal.{Literal}
use Rattle.pri_typing.specs.declared.problem.Problem.{Problem}
use Rattle.pri_typing.specs.declared.problem.Symbol.{Symbol}
use Rattle.base_texts.specs.Texts.{is_among}
use Rattle.pri_typing.specs.Problems.{Says, scope_of_problem}
use Rattle.pri_printer.proofs.Standing.{AllPrintable}
use Rattle.pri_typing.specs.WellFormed.{names_of_symbols, IsWellFormed, HasDistinctNames, HasIdentifiers}
use Rattle.pri_printer.specs.Quotient.{quotient_name, quotient_number, free_from}
use Rattle.pri_printer.specs.Printed.{constants_of, dnf_text, dnf_formula, IsWithinLimits}
use Rattle.pri_typing.proofs.Names.{none_split}
use Rattle.pri_printer.proofs.Named.{once_of, once_left, can_print}
use Rattle.pri_printer.proofs.Free.{free_from_free, free_from_least, quotient_name_is}
use Rattle.pri_printer.proofs.Clauses.{normal_form_spelled}
use Rattle.pri_printer.proofs.Whole.{says_by, within_limits}
use Rattle.pri_printer.proofs.Spells.{Spells, IsFormula}

identifiers_left : (xs ys : List (List ℕ)) → AllByRecursion IsIdentifier (xs ++ ys) → AllByRecursion IsIdentifier xs
identifiers_left [] ys h = tt
identifiers_left (x ∷ xs) ys h = (h.0, identifiers_left xs ys h.1)

free_bound : (more n : ℕ) (names : List (List ℕ)) → free_from more n names ≤ n + more
free_bound zero n names = omega arith
free_bound (suc more) n names = by (free_bound more (suc n) names) (is_among (quotient_name n) names)
  where
    by : free_from more (suc n) names ≤ suc n + more → (b : Bool) → cond b (free_from more (suc n) names) n ≤ n + suc more
    by h true = omega arith
    by h false = omega arith

quotient_bound : (p : Problem) → quotient_number p ≤ 1000
unfolding quotient_number
quotient_bound p = omega (arith, free_bound 1000 0 (names_of_symbols p))

few_names : (p : Problem) → IsWellFormed p → length (names_of_symbols p) ≤ 1000
few_names p good =
    let F = map (λ (y : Symbol). y.name) p.functions in let Q = map (λ (y : Symbol). y.name) p.predicates in
    omega (
      arith,
      good.few,
      length-append (constants_of p ++ F) Q,
      length-append (constants_of p) F,
      length-append p.existentials p.universals,
      length-map p.functions (λ (y : Symbol). y.name),
      length-map p.predicates (λ (y : Symbol). y.name),
    )

-- no symbol has the quotient's name
quotient_free : (p : Problem) → length (names_of_symbols p) ≤ 1000 → is_among (quotient_name (quotient_number p)) (names_of_symbols p) ≡ false
unfolding quotient_number
quotient_free p h = free_from_free 1000 0 (names_of_symbols p) (omega arith) (omega arith) (λ i l. absurd (omega arith))

-- the text of a normal form spells its formula
printed_spelled : (p : Problem) (d : List (List Literal)) → IsWellFormed p → HasDistinctNames p → HasIdentifiers p
    → AllPrintable (length (constants_of p)) d → Spells 4 whole (IsFormula (scope_of_problem p) (dnf_formula p d)) (dnf_text p d)
printed_spelled p d good once are h =
    let F = map (λ (y : Symbol). y.name) p.functions in let Q = map (λ (y : Symbol). y.name) p.predicates in
    let k = quotient_name (quotient_number p) in
    let once1 = once_left (constants_of p) F (once_left (constants_of p ++ F) Q (once_of (names_of_symbols p) once)) in
    let are0 = recursion_from_All IsIdentifier (names_of_symbols p) are in
    let are1 = identifiers_left (constants_of p) F (identifiers_left (constants_of p ++ F) Q are0) in
    let free = (none_split k (constants_of p) F (none_split k (constants_of p ++ F) Q (quotient_free p (few_names p good))).0).0 in
    normal_form_spelled 0 _ (constants_of p) k (length (constants_of p)) (can_print p k once1 are1 (quotient_name_is (quotient_number p) (omega (arith, quotient_bound p))) free) d h

pub printed_says : (p : Problem) (d : List (List Literal)) → IsWellFormed p → HasDistinctNames p → HasIdentifiers p
    → AllPrintable (length (constants_of p)) d → Says (dnf_text p d) p (dnf_formula p d)
printed_says p d good once are h = says_by 4 p (dnf_formula p d) (dnf_text p d) (printed_spelled p d good once are h)

pub printed_within : (p : Problem) (d : List (List Literal)) → IsWellFormed p → HasDistinctNames p → HasIdentifiers p
    → AllPrintable (length (constants_of p)) d → IsWithinLimits (dnf_text p d)
printed_within p d good once are h = within_limits 4 p (dnf_formula p d) (dnf_text p d) (omega arith) (printed_spelled p d good once are h)

pub quotient_least : (p : Problem) (i : ℕ) → i < quotient_number p → is_among (quotient_name i) (names_of_symbols p) ≡ true
unfolding quotient_number
quotient_least p i h = free_from_least 1000 0 i (names_of_symbols p) (omega arith) h

pub quotient_free_law : (p : Problem) → IsWellFormed p → is_among (quotient_name (quotient_number p)) (names_of_symbols p) ≡ false
quotient_free_law p good = quotient_free p (few_names p good)
