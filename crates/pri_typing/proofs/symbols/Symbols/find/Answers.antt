use Rattle.std.proofs.Common.{◌≡◌, rules, subst, sym, length, ◌≤◌, []}
use Rattle.std.specs.Option.{IfSome}
use Rattle.pri_typing.specs.Scope.{declared_from}
use Rattle.pri_typing.proofs.Tables.{first-within}
use Rattle.pri_typing.proofs.symbols.Symbols.find.Goals as goal

pub returns-clause-within : goal.returns-clause-within
returns-clause-within c =
    let found : c.copied.result ≡ declared_from [] c.args.text.now c.args.self.now = search rules in
    subst (λ r. IfSome r (λ e. e.number ≤ length c.args.self.now)) (sym found) (first-within c.args.text.now c.args.self.now)
