use Rattle.std.proofs.Common.{rules, to_z-of_z}
use mir.Syntax.{w128}
use mir.Val.{SFits}
use Rattle.clause_text.proofs.printing.print_line.Goals as goal

pub returns-in-Inequality : goal.returns-in-Inequality
returns-in-Inequality c = rw c.in-Inequality.is c.inequality.ensures

pub returns-in-Equation : goal.returns-in-Equation
returns-in-Equation c = rw c.in-Equation.is c.equation.ensures

pub returns-in-Split : goal.returns-in-Split
returns-in-Split c = rw c.in-Split.is c.split.ensures

pub returns-in-Divide : goal.returns-in-Divide
returns-in-Divide c =
    let v : SFits w128 c.in-Divide.d = search rules in
    let done = simp to_z-of_z at c.divide.ensures in
    rw c.in-Divide.is done

pub returns-in-Apply : goal.returns-in-Apply
returns-in-Apply c = rw c.in-Apply.is (rw (← c.as_slice-in-Apply.ensures) c.apply.ensures)

pub returns-in-Read : goal.returns-in-Read
returns-in-Read c = rw c.in-Read.is (rw (← c.as_slice-in-Read.ensures) c.read.ensures)

pub returns-in-Instance : goal.returns-in-Instance
returns-in-Instance c = rw c.in-Instance.is (rw (← c.as_slice-in-Instance.ensures) c.instance.ensures)

pub returns-in-Predicate : goal.returns-in-Predicate
returns-in-Predicate c = rw c.in-Predicate.is (rw (← c.as_slice-in-Predicate.ensures) c.predicate.ensures)

pub returns-in-Sum : goal.returns-in-Sum
returns-in-Sum c = rw c.in-Sum.is (rw (← c.as_slice-in-Sum.ensures) c.sum.ensures)

pub returns-in-Pair : goal.returns-in-Pair
returns-in-Pair c = rw c.in-Pair.is (rw (← c.as_slice-in-Pair.ensures) c.pair.ensures)

pub returns-in-PredicatePair : goal.returns-in-PredicatePair
returns-in-PredicatePair c = rw c.in-PredicatePair.is (rw (← c.as_slice-in-PredicatePair.ensures) c.predicate_pair.ensures)

pub returns-in-Delete : goal.returns-in-Delete
returns-in-Delete c = rw c.in-Delete.is (rw (← c.as_slice-in-Delete.ensures) c.delete.ensures)

pub returns-in-Open : goal.returns-in-Open
returns-in-Open c = rw c.in-Open.is (rw (← c.as_slice.ensures) c.open.ensures)

pub returns-in-Resolve : goal.returns-in-Resolve
returns-in-Resolve c = rw c.in-Resolve.is (rw (← c.as_slice-in-Resolve.ensures, ← c.as_slice-in-Resolve-2.ensures) c.resolve.ensures)
