use Rattle.std.proofs.Common.{◌≡◌, ◌+◌, ◌*◌, ◌<◌, ◌≤◌, ◌^◌, ◌∙◌, ap, length, arith, subst, sym}
use Rattle.std.specs.List.{AllByRecursion}
use Rattle.std.proofs.lemmas.List.Elements.{recursion_from_All}
use Rattle.formula.specs.Tree.{form}
use Rattle.linear_term.specs.Range.{InRange}
use Rattle.clause_file.specs.Verdicts.{HoldsClauseProof}
use Rattle.pri_problem.proofs.Sizes.{searchable}
use Rattle.job_check.proofs.Proving.{fault_so, shown_so}
use Rattle.job_check.proofs.checking.clauses_answer.Goals as goal

pub check_clauses-requires : goal.check_clauses-requires
check_clauses-requires c =
    let s = searchable c.args.problem.now c.args.encoded.now c.requires.well_formed c.requires.encoded in
    let deep = s.depth in let few = s.constants in record { room = omega (arith, deep, few); over = s.over }

pub tell_shown-requires-clause-range : goal.tell_shown-requires-clause-range
tell_shown-requires-clause-range c = subst (AllByRecursion InRange) (sym c.as_slice.ensures) (recursion_from_All InRange c.in-Ok.values c.in-Ok.ensures.range)

pub tell_shown-requires-clause-few : goal.tell_shown-requires-clause-few
tell_shown-requires-clause-few c =
    let few = (searchable c.args.problem.now c.args.encoded.now c.requires.well_formed c.requires.encoded).constants in
    omega (arith, few, ap length c.as_slice.ensures ∙ (c.in-Ok.ensures.proof).count)

pub tell_shown-requires-clause-values : goal.tell_shown-requires-clause-values
tell_shown-requires-clause-values c = ap length c.as_slice.ensures ∙ (c.in-Ok.ensures.proof).count ∙ c.requires.encoded.constants

pub returns-in-Ok : goal.returns-in-Ok
returns-in-Ok c =
    shown_so c.args.problem.now c.args.encoded.now c.requires.encoded c.args.proof.now c.as_slice.result.now
    (subst (HoldsClauseProof (form c.args.encoded.now.root) c.args.encoded.now.constants c.args.proof.now) (sym c.as_slice.ensures) c.in-Ok.ensures.proof) _ c.tell_shown.ensures

pub returns-in-Err : goal.returns-in-Err
returns-in-Err c = fault_so c.args.problem.now c.args.encoded.now c.requires.encoded c.args.proof.now c.in-Err.fault c.in-Err.ensures.fault _ c.tell_clause_fault.ensures
