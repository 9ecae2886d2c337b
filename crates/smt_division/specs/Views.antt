-- What the terms of the code are.
use Rattle.std.specs.Prelude.{List, map}
use Rattle.smt_lists.specs.Expressions.{expr}
use Rattle.smt_division.specs.declared.closing.Reduced.{Reduced}
use Rattle.smt_division.specs.declared.closing.ReducedAll.{ReducedAll}
use Rattle.smt_division.specs.Terms.{Reduct, Reducts}

abbrev pub reduct_is : Reduced → Reduct
reduct_is p = record { term = expr p.term; variables = map expr p.variables; conditions = map expr p.conditions }

abbrev pub reducts_are : ReducedAll → Reducts
reducts_are ps = record { terms = map expr ps.terms; variables = map expr ps.variables; conditions = map expr ps.conditions }
