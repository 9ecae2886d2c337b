-- Formulas of clauses, built member by member.
use Rattle.std.proofs.Common.{ℤ, neg_ℤ, arith}
use Rattle.std.proofs.lemmas.Int.{ints}
use Rattle.linear_term.specs.Linear.{IsCoefficient}
use Rattle.clause_set.specs.Literals.{IsDivisor}
use Rattle.clause_root_laws.proofs.Clausal.{clauses_over}

pub opposite_divisor : (d : ℤ) → IsDivisor d → IsCoefficient (neg_ℤ d)
opposite_divisor d h = record { in_range = grind (arith, ints, h.in_range); not_zero = λ e. omega (arith, ints, h.positive, e) }

pub ruleset opposite = (opposite_divisor)

pub ruleset spread = (clauses_over)
