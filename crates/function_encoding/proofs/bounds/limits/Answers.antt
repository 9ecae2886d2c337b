use Rattle.std.proofs.Common.{map}
use Rattle.formula.specs.Tree.{form}
use Rattle.formula.proofs.Making.{made_ok, made_err}
use Rattle.form_encoding.specs.Encoding.{greatest}
use Rattle.function_encoding.proofs.Bounding.{int_limits, nat_limits, range_limits, limit, one_more}
use Rattle.function_encoding.proofs.bounds.limits.Goals as goal

pub returns-in-Int : goal.returns-in-Int
returns-in-Int c = int_limits c.args.all c.args.x c.args.sort.now c.args.out c.in-Int.is

pub returns-in-Nat : goal.returns-in-Nat
returns-in-Nat c = nat_limits c.args.all c.args.x c.args.sort.now c.args.out _ c.in-Nat.is c.with_limit.ensures

pub returns-in_err-some-in-Range : goal.returns-in_err-some-in-Range
returns-in_err-some-in-Range c =
    range_limits c.args.all c.args.x c.args.sort.now c.in-Range.a c.in-Range.b c.args.out _ c.in-Range.is
    (made_err (λ hs. map form hs) (λ hs. map form hs) _ (λ zs. one_more zs (limit c.args.all c.args.x (greatest c.in-Range.b))) _ c.from_residual.ensures.1 c.in_err-some-in-Range.ensures)

pub returns-in_ok-some-in-Range : goal.returns-in_ok-some-in-Range
returns-in_ok-some-in-Range c =
    range_limits c.args.all c.args.x c.args.sort.now c.in-Range.a c.in-Range.b c.args.out _ c.in-Range.is
    (made_ok (λ hs. map form hs) (λ hs. map form hs) _ (λ zs. one_more zs (limit c.args.all c.args.x (greatest c.in-Range.b))) c.in_ok-some-in-Range.ensures c.with_limit-in-Range-2.ensures)
