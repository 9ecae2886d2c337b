use Rattle.std.proofs.Common.{ap, sym, ◌∙◌}
use Rattle.smt_names.specs.Body.{shape, shapes_of}
use Rattle.smt_names.specs.Saying.{bound_said, shape_said}
use Rattle.smt_names.specs.declared.body.Body.TheVariants as b
use Rattle.smt_names.proofs.Behind.{let-joined}
use Rattle.smt_names.proofs.binding.behind.Goals as goal

pub returns-in_ok-append-in-Let : goal.returns-in_ok-append-in-Let
returns-in_ok-append-in-Let c = λ D e n.
    ap (λ z. shape_said D e (shape (b.Let z c.in-Let.inner)) n) c.in_ok-append-in-Let.ensures
    ∙ let-joined D e c.args.kept c.in-Let.more c.in-Let.inner n
    ∙ ap (λ z. shape_said D (bound_said D e (shapes_of c.args.kept)) (shape z) n) (sym c.in-Let.is)
