use Rattle.std.proofs.Common.{refl, sym, subst}
use Rattle.pri_typing.specs.WellFormed.{IsWellFormed}
use Rattle.pri_problem.proofs.Encoded.{encoded_as}
use Rattle.pri_problem.specs.Encoded.{IsEncoded}
use Rattle.pred_interpolant.proofs.Fitting.{fit_formed}
use Rattle.pred_interpolant.proofs.Tables.{if_ok}
use Rattle.pred_interpolant.proofs.replaced.encode_formula.Goals as goal

pub encode-requires : goal.encode-requires
encode-requires c = subst IsWellFormed (sym c.in_ok-q.ensures) (fit_formed c.args.p.now c.args.f c.requires.formed c.requires.fit)

pub returns-clause-encoded : goal.returns-clause-encoded
returns-clause-encoded c =
    if_ok c.encode.result _ _ (λ e k. record {
      typed = c.args.f;
      is = refl;
      formed = fit_formed c.args.p.now c.args.f c.requires.formed c.requires.fit;
      encoded = subst (λ q. IsEncoded q e) c.in_ok-q.ensures k;
    }) (encoded_as c.in_ok-q.q _ c.encode.ensures.work c.encode.ensures.constants c.encode.ensures.over c.encode.ensures.small c.encode.ensures.truth)
