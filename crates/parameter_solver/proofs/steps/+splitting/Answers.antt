use Rattle.std.proofs.Common.{arith, refl, None, Some}
use Rattle.base_budget.proofs.Charging.{drop-item, drop_all, remains_next, remains_ends, then_err, then_just, no_memory}
use Rattle.clause_set.specs.Names.{is_equation}
use Rattle.solve_laws.proofs.Candidates.{position-got}
use Rattle.parameter_solver.proofs.Parting.{below_above, name_item, range_append, alone, found_at, parts_of, candidates_root, candidates_fault, candidates_parts, candidates_bounds}
use Rattle.parameter_solver.proofs.steps.+splitting.Goals as goal

pub all_candidates-candidates-requires : goal.all_candidates-candidates-requires
all_candidates-candidates-requires t c =
    let item = drop-item c.args.cs.now c.loop-c.c-index c.c-item.result (omega arith) c.c-item.is in
    let less = below_above c.args.j c.loop-c.c-index c.args.cs.now _ c.c-item.result item in
    (omega (arith, less), name_item c.args.j c.args.cs.now c.loop-c.c-index c.c-item.result c.requires (omega arith) c.c-item.is)

pub all_candidates-returns-in_err-candidates-clause-charged : goal.all_candidates-returns-in_err-candidates-clause-charged
all_candidates-returns-in_err-candidates-clause-charged t c =
    let item = drop-item c.args.cs.now c.loop-c.c-index c.c-item.result (omega arith) c.c-item.is in
    let inv = rw item at c.loop-c.invariant.work in
    remains_ends inv (then_err _ _ c.from_residual.result c.from_residual.ensures.1 c.in_err-candidates.ensures.charged)

pub all_candidates-returns-in_err-append-clause-charged : goal.all_candidates-returns-in_err-append-clause-charged
all_candidates-returns-in_err-append-clause-charged t c =
    let item = drop-item c.args.cs.now c.loop-c.c-index c.c-item.result (omega arith) c.c-item.is in
    let inv = rw item at c.loop-c.invariant.work in
    remains_ends (remains_next _ _ inv c.in_ok-candidates.ensures.charged) (no_memory c.from_residual-in_err-append.result c.from_residual-in_err-append.ensures.1)

pub all_candidates-loop-c-preserved : goal.all_candidates-loop-c-preserved
all_candidates-loop-c-preserved t c =
    let item = drop-item c.args.cs.now c.loop-c.c-index c.c-item.result (omega arith) c.c-item.is in
    let inv = rw item at c.loop-c.invariant.work in
    record {
      work = rw c.in_ok-append.ensures (remains_next _ _ inv c.in_ok-candidates.ensures.charged);
      range = range_append _ _ _ c.in_ok-append.ensures c.loop-c.invariant.range c.in_ok-candidates.ensures.range;
    }

pub all_candidates-returns-clause-charged : goal.all_candidates-returns-clause-charged
all_candidates-returns-clause-charged t c =
    let none = drop_all c.args.cs.now c.loop-c.c-index (omega arith) in
    let inv = rw none at c.loop-c.invariant.work in
    remains_ends inv (then_just c.loop-c.out c.loop-c.out refl)

pub candidates-at_root-requires-clause-alone : goal.candidates-at_root-requires-clause-alone
candidates-at_root-requires-clause-alone t c = alone c.args.j c.args.c.now c.requires

pub candidates-at_root-requires-clause-equation : goal.candidates-at_root-requires-clause-equation
candidates-at_root-requires-clause-equation t c = position-got (is_equation c.args.j) c.args.c.now c.in-Some.i (found_at (is_equation c.args.j) c.literals.result.now c.args.c.now c.equation_place.result (Some c.in-Some.i) c.literals.ensures c.equation_place.ensures c.in-Some.is)

pub candidates-returns-in-Some-clause-charged : goal.candidates-returns-in-Some-clause-charged
candidates-returns-in-Some-clause-charged t c = candidates_root c.args.j c.in-Some.i c.args.c.now c.at_root.result c.requires (found_at (is_equation c.args.j) c.literals.result.now c.args.c.now c.equation_place.result (Some c.in-Some.i) c.literals.ensures c.equation_place.ensures c.in-Some.is) c.at_root.ensures.work

pub candidates-returns-in_err-parts-clause-charged : goal.candidates-returns-in_err-parts-clause-charged
candidates-returns-in_err-parts-clause-charged t c =
    candidates_fault c.args.j c.args.c.now _ c.from_residual.result c.requires (found_at (is_equation c.args.j) c.literals.result.now c.args.c.now c.equation_place.result None c.literals.ensures c.equation_place.ensures c.in_default.is) c.in_err-parts.ensures c.from_residual.ensures.1

pub candidates-bounded-requires : goal.candidates-bounded-requires
candidates-bounded-requires t c = alone c.args.j c.args.c.now c.requires

pub candidates-all_candidates-requires : goal.candidates-all_candidates-requires
candidates-all_candidates-requires t c =
    let parts = parts_of c.args.j c.args.c.now c.in_ok-parts.parts c.in-Some-parts.clauses c.requires (found_at (is_equation c.args.j) c.literals.result.now c.args.c.now c.equation_place.result None c.literals.ensures c.equation_place.ensures c.in_default.is) c.in_ok-parts.ensures c.in-Some-parts.is in
    let below = parts.nearer in
    rw c.as_slice.ensures (omega (arith, below), parts.names)

pub candidates-returns-in-Some-parts-clause-charged : goal.candidates-returns-in-Some-parts-clause-charged
candidates-returns-in-Some-parts-clause-charged t c =
    candidates_parts c.args.j c.args.c.now c.in_ok-parts.parts c.in-Some-parts.clauses c.as_slice.result.now c.all_candidates.result c.requires (found_at (is_equation c.args.j) c.literals.result.now c.args.c.now c.equation_place.result None c.literals.ensures c.equation_place.ensures c.in_default.is) c.in_ok-parts.ensures c.in-Some-parts.is c.as_slice.ensures c.all_candidates.ensures.charged

pub candidates-returns-in-None-clause-charged : goal.candidates-returns-in-None-clause-charged
candidates-returns-in-None-clause-charged t c =
    candidates_bounds c.args.j c.args.c.now c.in_ok-parts.parts c.bounded.result c.requires (found_at (is_equation c.args.j) c.literals.result.now c.args.c.now c.equation_place.result None c.literals.ensures c.equation_place.ensures c.in_default.is) c.in_ok-parts.ensures c.in-None.is c.bounded.ensures.work
