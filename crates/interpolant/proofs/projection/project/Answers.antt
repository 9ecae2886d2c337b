use Rattle.std.proofs.Common.{◌^◌, length}
use Rattle.formula.specs.Tree.{form}
use Rattle.elim_laws.specs.Whole.{eliminating}
use Rattle.function_encoding.specs.Marks.{is_marked}
use Rattle.interpolant.specs.Run.{in_new_log, others_out}
use Rattle.interpolant.proofs.Steps.{elim_budget, elim_err, elim_ok, own_fault, own_ok}
use Rattle.interpolant.proofs.projection.project.Goals as goal

pub returns-in_err-all : goal.returns-in_err-all
returns-in_err-all c =
    elim_err (in_new_log (eliminating (length c.args.marks.now) (form c.args.f.now))) (others_out (is_marked c.args.marks.now) (length c.args.marks.now)) c.in_err-all.field-0.0 c.from_residual.result c.from_residual.ensures.1
    (own_fault (eliminating (length c.args.marks.now) (form c.args.f.now)) c.in_err-all.field-0.0 c.in_err-all.ensures.charged)

pub others_out-requires-clause-budget : goal.others_out-requires-clause-budget
others_out-requires-clause-budget c = elim_budget (2 ^ 32) (own_ok (eliminating (length c.args.marks.now) (form c.args.f.now)) c.in_ok-all.all c.in_ok-all._log c.in_ok-all.ensures.charged) c.requires.budget

pub returns : goal.returns
returns c =
    elim_ok (in_new_log (eliminating (length c.args.marks.now) (form c.args.f.now))) (others_out (is_marked c.args.marks.now) (length c.args.marks.now)) c.others_out.result
    (own_ok (eliminating (length c.args.marks.now) (form c.args.f.now)) c.in_ok-all.all c.in_ok-all._log c.in_ok-all.ensures.charged) c.others_out.ensures
