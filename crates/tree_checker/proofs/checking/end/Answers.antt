use Rattle.std.proofs.Common.{◌≡◌, ◌∙◌, [], refl}
use Rattle.formula.specs.Tree.{form}
use Rattle.tree_checker.proofs.Ended.{end_cut, end_memory, end_none, end_some}
use Rattle.tree_checker.proofs.checking.end.Goals as goal

pub returns-in_err-read_end : goal.returns-in_err-read_end
returns-in_err-read_end g c = λ k coming. end_memory (form c.args.root.now) c.args.constants c.args.rule k c.args.d c.from_residual.result c.from_residual.ensures.1

pub returns-in_err-verdict : goal.returns-in_err-verdict
returns-in_err-verdict g c = λ k coming.
    let same : c.conclusion.result.now ≡ k = c.conclusion.ensures ∙ (c.in_ok-read_end.ensures k [] coming).1 in
    end_cut (form c.args.root.now) c.args.constants c.args.rule k c.args.d c.from_residual-in_err-verdict.result c.conclude.ensures.hand c.from_residual-in_err-verdict.ensures.1 (rw same at (c.in_err-verdict.ensures c.conclude.new.self.hand))

pub returns-in-Some : goal.returns-in-Some
returns-in-Some g c = λ k coming.
    let same : c.conclusion.result.now ≡ k = c.conclusion.ensures ∙ (c.in_ok-read_end.ensures k [] coming).1 in
    end_some (form c.args.root.now) c.args.constants c.args.rule k c.args.d _ c.conclude.ensures.hand (rw (same, c.in-Some.is) at (c.in_ok-verdict.ensures c.conclude.new.self.hand)) refl c.is_exact.ensures

pub returns-in-None : goal.returns-in-None
returns-in-None g c = λ k coming.
    let same : c.conclusion.result.now ≡ k = c.conclusion.ensures ∙ (c.in_ok-read_end.ensures k [] coming).1 in
    end_none (form c.args.root.now) c.args.constants c.args.rule k c.args.d c.conclude.ensures.hand (rw (same, c.in-None.is) at (c.in_ok-verdict.ensures c.conclude.new.self.hand))
