use Rattle.std.proofs.Common.{◌≡◌, ◌-◌, ◌∷◌, [], ◌∙◌, suc, length, take, sym, ap, subst, length-append, arith}
use Rattle.smt_sizes.specs.Shapes.{AreForms}
use Rattle.smt_sizes.proofs.Adding.{counted}
use Rattle.smt_sizes.proofs.Describing.{forms-more}
use Rattle.smt_sizes.proofs.forms.Forms.define.Goals as goal

pub returns : goal.returns
returns c = λ d.
    let ds = c.args.definitions.now in
    let fs = c.args.self.forms.items in
    let n = length ds - 1 in
    let long : suc n ≡ length ds = omega (arith, c.if-n-eq0.false) in
    let many : length fs ≡ n = d.0 ∙ counted n ds (omega (arith, long)) in
    let pushed = c.in_ok-push.ensures.items in (
      omega (arith, ap length pushed, length-append fs (c.in_ok-one.one ∷ []), many, long),
      subst (λ gs. AreForms gs ds) (sym pushed)
          (forms-more fs ds n c.in_ok-one.one c.index-definitions-last.result c.index-definitions-last.result long many d.1 c.index-definitions-last.is
          (c.in_ok-one.ensures (subst (λ gs. AreForms gs (take n ds)) (sym c.as_slice.ensures.value) d.1))),
    )
