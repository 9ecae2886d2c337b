use Rattle.std.proofs.Common.{◌++◌, ◌∷◌, [], ◌∙◌, sym, subst}
use Rattle.smt_reader.specs.Poses.{ArePosed}
use Rattle.smt_reader.proofs.Taking.{check_size, fits_small, posed_more, size_more}
use Rattle.smt_reader.proofs.scripts.with_check.Goals as goal

pub returns-in-Large : goal.returns-in-Large
returns-in-Large c s done f h e =
    sym (size_more done s c.args.checks.size c.above-2.result c.beside-size.result e (check_size s c.args.reading.now.size c.above.result c.above-2.result f.size c.above.ensures c.above-2.ensures)
    c.beside-size.ensures) ∙ c.in-Large.is

pub returns : goal.returns
returns c s done f h e = (
  subst (ArePosed (done ++ s ∷ [])) (sym c.in_ok-push.ensures.ok) (posed_more done c.args.checks.problems s c.in_ok-pose.field-0 h (c.in_ok-pose.ensures s f)),
  size_more done s c.args.checks.size c.above-2.result c.beside-size.result e (check_size s c.args.reading.now.size c.above.result c.above-2.result f.size c.above.ensures c.above-2.ensures) c.beside-size.ensures,
  fits_small c.beside-size.result c.in_default.field-0 c.in_default.field-1 c.in_default.is,
)
