-- What normal terms over the constants have is what is asked of printed ones.
use Rattle.std.proofs.Common.{◌≡◌, ℕ, ◌<◌, Bool, true, false, cond, List, [], ◌∷◌, ◌++◌, map, ℤ, pos, subst}
use Rattle.std.specs.Prelude.{All}
use Rattle.std.specs.List.{AllByRecursion}
use Rattle.std.specs.Ordering.{int_eq}
use Rattle.std.proofs.lemmas.List.Elements.{recursion_from_All}
use Rattle.linear_term.specs.Range.{InRange}
use Rattle.linear_term.specs.Linear.{Linear, IsNormal, IsCoefficient}
use Rattle.clause_set.specs.declared.literal.Literal.{Literal}
use Rattle.clause_set.specs.declared.literal.Literal.TheVariants.{Eq, Geq, Div, NDiv}
use Rattle.clause_set.specs.Literals.{term_of, HasDivisor}
use Rattle.pri_printer.specs.Summands.{monomial, constant, summands}
use Rattle.pri_printer.proofs.Standing.{AreFit, IsPrintable, ArePrintable, AllPrintable}
use Rattle.pri_printer.specs.Names.{PairNames, IsVariableBelow, ClauseNames, DnfNames}
use Rattle.pri_printer.specs.Ranges.{IsRangedLiteral}

tail_fits : (c : Bool) (n : ℕ) (k : ℤ) → InRange k → AreFit n (cond c [] (constant k ∷ []))
tail_fits true n k h = tt
tail_fits false n k h = (h, tt)

pairs_fit : (n : ℕ) (ps : List (ℕ × ℤ)) (k : ℤ) → AllByRecursion (λ p. IsCoefficient p.1) ps → AllByRecursion (λ p. p.0 < n) ps → InRange k
    → AreFit n (map monomial ps ++ cond (int_eq k (pos 0)) [] (constant k ∷ []))
pairs_fit n [] k g h r = tail_fits (int_eq k (pos 0)) n k r
pairs_fit n (p ∷ ps) k g h r = ((g.0.in_range, h.0), pairs_fit n ps k g.1 h.1 r)

summands_fit : (n : ℕ) (ps : List (ℕ × ℤ)) (k : ℤ) → AllByRecursion (λ p. IsCoefficient p.1) ps → AllByRecursion (λ p. p.0 < n) ps → InRange k → AreFit n (summands ps k)
summands_fit n [] k g h r = (r, tt)
summands_fit n (p ∷ ps) k g h r = ((g.0.in_range, h.0), pairs_fit n ps k g.1 h.1 r)

term_fits : (n : ℕ) (t : Linear) → IsNormal t → AllByRecursion (λ p. p.0 < n) t.pairs → AreFit n (summands t.pairs t.constant)
term_fits n t g h = summands_fit n t.pairs t.constant (recursion_from_All (λ p. IsCoefficient p.1) t.pairs g.coefficients) h g.constant

below_by : (n : ℕ) (ps : List (ℕ × ℤ)) → PairNames (IsVariableBelow n) ps → AllByRecursion (λ p. p.0 < n) ps
below_by n [] h = tt
below_by n (p ∷ ps) h = (h.0, below_by n ps h.1)

literal_printable : (n : ℕ) (l : Literal) → IsNormal (term_of l) → HasDivisor l → AllByRecursion (λ p. p.0 < n) (term_of l).pairs → IsPrintable n l
literal_printable n (Eq t) g d h = term_fits n t g h
literal_printable n (Geq t) g d h = term_fits n t g h
literal_printable n (Div d t) g r h = (r.in_range, term_fits n t g h)
literal_printable n (NDiv d t) g r h = (r.in_range, term_fits n t g h)

clause_printable : (n : ℕ) (ls : List Literal) → AllByRecursion IsRangedLiteral ls → ClauseNames (IsVariableBelow n) ls → ArePrintable n ls
clause_printable n [] g h = tt
clause_printable n (l ∷ ls) g h = (literal_printable n l g.0.term g.0.divisor (below_by n (term_of l).pairs h.0), clause_printable n ls g.1 h.1)

-- clauses over n names with their numbers in the range are printable
pub dnf_printable : (n : ℕ) (d cs : List (List Literal)) → cs ≡ d → All (All IsRangedLiteral) cs → DnfNames (IsVariableBelow n) d → AllPrintable n d
dnf_printable n d cs q g = by d (recursion_from_All (All IsRangedLiteral) d (subst (All (All IsRangedLiteral)) q g))
  where
    by : (cs : List (List Literal)) → AllByRecursion (All IsRangedLiteral) cs → DnfNames (IsVariableBelow n) cs → AllPrintable n cs
    by [] g h = tt
    by (c ∷ cs) g h = (clause_printable n c (recursion_from_All IsRangedLiteral c g.0) h.0, by cs g.1 h.1)
