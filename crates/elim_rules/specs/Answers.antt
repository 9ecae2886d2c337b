-- The coefficients of Bézout as a call answers them.
use Rattle.clause_set.specs.Bezout.{Bezout}
use Rattle.elim_rules.specs.declared.numbers.Cofactors.{Cofactors}

abbrev pub bezout_of : Cofactors → Bezout
bezout_of z = record { g = z.g; p = z.p; q = z.q }
