-- The texts of literals, clauses and normal forms spell them.
use Rattle.std.proofs.Common.{ℕ, suc, Bool, true, false, List, [], ◌∷◌, ◌++◌, length, map, refl, ap, arith, ℤ, pos, cond}
use Rattle.std.specs.Ordering.{int_eq}
use Rattle.std.specs.Prelude.{unsigned_abs, codes}
use Rattle.std.specs.Fmt.{decimal}
use Rattle.linear_term.specs.Linear.{Linear}
use Rattle.linear_term.specs.Range.{InRange}
use Rattle.pri_reader.specs.declared.tree.Comparison.{Comparison}
use Rattle.pri_reader.specs.declared.tree.Comparison.TheVariants as comparison
use Rattle.pri_reader.specs.Grammar.{sum, unary, chain, conjunction, disjunction, whole, comparison_sign}
use Rattle.form_typed.specs.Formula.{Formula, Expression, number, name, minus, product, compares, for_some, negation}
use Rattle.form_typed.specs.declared.typed.Sort.TheVariants as sort
use Rattle.form_typed.specs.Formula as logic
use Rattle.form_typed.specs.declared.typed.Relation.TheVariants as relation
use Rattle.clause_set.specs.declared.literal.Literal.{Literal}
use Rattle.clause_set.specs.declared.literal.Literal.TheVariants.{Eq, Geq, Div, NDiv}
use Rattle.pri_typing.specs.Phrase.{Phrase}
use Rattle.pri_typing.specs.Phrase as ph
use Rattle.pri_typing.specs.Scope.{Scope}
use Rattle.pri_typing.specs.Typing.{relation_of}
use Rattle.pri_printer.proofs.Spells.{Spells, IsTerm, IsFormula, IsNumeral}
use Rattle.pri_printer.specs.Summands.{Summand, SignedSummand, summands}
use Rattle.pri_printer.specs.Text.{term_text, divides_text, literal_text, clause_text, normal_form_text}
use Rattle.pri_printer.specs.Formulas.{term_value, divides_formula, literal_formula, clause_formula, normal_form_formula}
use Rattle.pri_printer.proofs.Standing.{Stand, AreFit, CanPrint, within, IsPrintable, ArePrintable, AllPrintable}
use Rattle.pri_printer.specs.Summands as pieces
use Rattle.pri_printer.proofs.Spelling.{IsSign, factor_spelled, product_of_one, sum_of_one, formula_of_term, unary_spelled, conjunction_of_one, disjunction_of_one, whole_spelled, number_spelled, truth_spelled, compared_spelled, not_spelled, exists_spelled, equal_sign, at_least_sign, and_sign, or_sign}
use Rattle.pri_printer.proofs.Chains.{AreSpelled, chain_spelled}
use Rattle.pri_printer.proofs.Terms.{term_spelled, decimal_spelled, times_spelled}

linear_spelled : (n : ℕ) (sc : Scope) (names : List (List ℕ)) → Stand sc names → (pairs : List (ℕ × ℤ)) (k : ℤ) → AreFit (length names) (summands pairs k)
    → Spells (suc (suc n)) sum (IsTerm sc (term_value (record { pairs = pairs; constant = k }))) (term_text names (record { pairs = pairs; constant = k }))
linear_spelled n sc names st [] k h = term_spelled n sc names st (pieces.constant k) [] h
linear_spelled n sc names st (p ∷ ps) k h =
    term_spelled n sc names st (pieces.monomial p) (map pieces.monomial ps ++ cond (int_eq k (pos 0)) [] (pieces.constant k ∷ [])) h

zero_spelled : (n : ℕ) (sc : Scope) → Spells n sum (IsTerm sc (number (pos 0))) (48 ∷ [])
zero_spelled n sc =
    let Q = IsTerm sc (number (pos 0)) in
    sum_of_one n Q _ (product_of_one n Q _ (factor_spelled n Q _
    (number_spelled n 0 Q (48 ∷ []) (λ at. record { faultless = λ x. refl; is = refl }) refl refl (omega arith))))

compared_is : (n : ℕ) (c : Comparison) (sign : List ℕ) (sc : Scope) (a b : Expression) (left text : List ℕ) → IsSign (comparison_sign c) sign
    → Spells n sum (IsTerm sc a) left → Spells n sum (IsTerm sc b) text
    → Spells n unary (IsFormula sc (compares (relation_of c) a b)) (left ++ (sign ++ text))
compared_is n c sign sc a b left text i h k =
    unary_spelled n (IsFormula sc (compares (relation_of c) a b)) (left ++ (sign ++ text))
    (compared_spelled n c sign (IsTerm sc a) (IsTerm sc b) (IsFormula sc (compares (relation_of c) a b)) left text i
    (λ at f g q r. record { faultless = λ x. rw (q.faultless (ph.first_token f), r.faultless (ph.first_token g)) refl; is = rw (q.is, r.is) refl }) h k)

divides_spelled : (n : ℕ) (sc : Scope) (names : List (List ℕ)) (k : List ℕ) (m : ℕ) → CanPrint sc names k m → (d : ℤ) (t : Linear) → InRange d
    → AreFit (length names) (summands t.pairs t.constant)
    → Spells (suc (suc (suc n))) unary (IsFormula sc (divides_formula m d t)) (divides_text names k d t)
divides_spelled n sc names k m c d t r h =
    let body = compares relation.Eq (term_value t) (product (number (pos (unsigned_abs d))) (name m)) in
    let side = IsTerm (within k sc) (product (number (pos (unsigned_abs d))) (name m)) in
    exists_spelled (suc (suc n)) (IsFormula (within k sc) body) (IsFormula sc (for_some sort.Int body)) k _
    (λ at place f q. record { faultless = λ x. q.faultless (ph.first_token f); is = ap (for_some sort.Int) q.is })
    c.quotient.is c.quotient.identifier
    (compared_is (suc (suc n)) comparison.Equal (32 ∷ 61 ∷ 32 ∷ []) (within k sc) (term_value t) (product (number (pos (unsigned_abs d))) (name m)) _ _ equal_sign
    (linear_spelled n (within k sc) names c.inside t.pairs t.constant h)
    (sum_of_one (suc (suc n)) side _ (times_spelled n m (within k sc) (number (pos (unsigned_abs d))) (decimal (unsigned_abs d)) k
    (factor_spelled (suc n) (IsNumeral (within k sc) (number (pos (unsigned_abs d)))) _ (decimal_spelled (suc n) (unsigned_abs d) (within k sc) r)) c.quotient)))

literal_spelled : (n : ℕ) (sc : Scope) (names : List (List ℕ)) (k : List ℕ) (m : ℕ) → CanPrint sc names k m → (l : Literal) → IsPrintable (length names) l
    → Spells (suc (suc (suc (suc n)))) unary (IsFormula sc (literal_formula m l)) (literal_text names k l)
literal_spelled n sc names k m c (Eq t) h =
    compared_is (suc (suc (suc (suc n)))) comparison.Equal (32 ∷ 61 ∷ 32 ∷ []) sc (term_value t) (number (pos 0)) _ _ equal_sign
    (linear_spelled (suc (suc n)) sc names c.outside t.pairs t.constant h) (zero_spelled (suc (suc (suc (suc n)))) sc)
literal_spelled n sc names k m c (Geq t) h =
    compared_is (suc (suc (suc (suc n)))) comparison.AtLeast (32 ∷ 62 ∷ 61 ∷ 32 ∷ []) sc (term_value t) (number (pos 0)) _ _ at_least_sign
    (linear_spelled (suc (suc n)) sc names c.outside t.pairs t.constant h) (zero_spelled (suc (suc (suc (suc n)))) sc)
literal_spelled n sc names k m c (Div d t) h = divides_spelled (suc n) sc names k m c d t h.0 h.1
literal_spelled n sc names k m c (NDiv d t) h =
    not_spelled (suc (suc (suc n))) (IsFormula sc (divides_formula m d t)) (IsFormula sc (negation (divides_formula m d t))) _
    (λ at f q. record { faultless = λ x. q.faultless (ph.first_token f); is = ap negation q.is }) refl
    (divides_spelled n sc names k m c d t h.0 h.1)

literals_spelled : (n : ℕ) (sc : Scope) (names : List (List ℕ)) (k : List ℕ) (m : ℕ) → CanPrint sc names k m → (ls : List Literal) → ArePrintable (length names) ls
    → AreSpelled (suc (suc (suc (suc n)))) conjunction sc (map (literal_text names k) ls) (map (literal_formula m) ls)
literals_spelled n sc names k m c [] h = tt
literals_spelled n sc names k m c (l ∷ ls) h = (literal_spelled n sc names k m c l h.0, literals_spelled n sc names k m c ls h.1)

word_text : Bool → List ℕ
word_text true = codes "true"
word_text false = codes "false"

word_spelled : (n : ℕ) (sc : Scope) (b : Bool) → Spells n unary (IsFormula sc (logic.constant b)) (word_text b)
unfolding word_text
word_spelled n sc true = let Q = IsFormula sc (logic.constant true) in
    formula_of_term n Q _ (sum_of_one n Q _ (product_of_one n Q _ (factor_spelled n Q _ (truth_spelled n true Q (codes "true") (λ at. record { faultless = λ x. refl; is = refl }) refl refl))))
word_spelled n sc false = let Q = IsFormula sc (logic.constant false) in
    formula_of_term n Q _ (sum_of_one n Q _ (product_of_one n Q _ (factor_spelled n Q _ (truth_spelled n false Q (codes "false") (λ at. record { faultless = λ x. refl; is = refl }) refl refl))))

clause_spelled : (n : ℕ) (sc : Scope) (names : List (List ℕ)) (k : List ℕ) (m : ℕ) → CanPrint sc names k m → (ls : List Literal) → ArePrintable (length names) ls
    → Spells (suc (suc (suc (suc n)))) (chain conjunction) (IsFormula sc (clause_formula m ls)) (clause_text names k ls)
unfolding word_text
clause_spelled n sc names k m c [] h = conjunction_of_one (suc (suc (suc (suc n)))) _ _ (word_spelled (suc (suc (suc (suc n)))) sc true)
clause_spelled n sc names k m c (l ∷ ls) h =
    chain_spelled (suc (suc (suc (suc n)))) conjunction sc (32 ∷ 38 ∷ 32 ∷ []) and_sign _ _ _ _ (literals_spelled n sc names k m c (l ∷ ls) h)

clauses_spelled : (n : ℕ) (sc : Scope) (names : List (List ℕ)) (k : List ℕ) (m : ℕ) → CanPrint sc names k m → (cs : List (List Literal)) → AllPrintable (length names) cs
    → AreSpelled (suc (suc (suc (suc n)))) disjunction sc (map (clause_text names k) cs) (map (clause_formula m) cs)
clauses_spelled n sc names k m c [] h = tt
clauses_spelled n sc names k m c (l ∷ ls) h = (clause_spelled n sc names k m c l h.0, clauses_spelled n sc names k m c ls h.1)

-- the text of a disjunctive normal form spells its formula
pub normal_form_spelled : (n : ℕ) (sc : Scope) (names : List (List ℕ)) (k : List ℕ) (m : ℕ) → CanPrint sc names k m → (cs : List (List Literal)) → AllPrintable (length names) cs
    → Spells (suc (suc (suc (suc n)))) whole (IsFormula sc (normal_form_formula m cs)) (normal_form_text names k cs)
unfolding word_text
normal_form_spelled n sc names k m c [] h = whole_spelled (suc (suc (suc (suc n)))) _ _ (disjunction_of_one (suc (suc (suc (suc n)))) _ _ (conjunction_of_one (suc (suc (suc (suc n)))) _ _ (word_spelled (suc (suc (suc (suc n)))) sc false)))
normal_form_spelled n sc names k m c (l ∷ ls) h = whole_spelled (suc (suc (suc (suc n)))) _ _
    (chain_spelled (suc (suc (suc (suc n)))) disjunction sc (32 ∷ 124 ∷ 32 ∷ []) or_sign _ _ _ _ (clauses_spelled n sc names k m c (l ∷ ls) h))
