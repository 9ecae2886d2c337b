use Rattle.std.proofs.Common.{rules, ap}
use Rattle.pri_typing.proofs.Tables.{extends_one}
use Rattle.pri_typing.proofs.symbols.Builder.declare.Goals as goal

pub returns : goal.returns
returns c = extends_one c.args.self.now (record { declarations = c.push.new.self; index = c.note.new.index; lists = c.add.new.self; fault = c.earlier_of-self.result })
    c.args.kind c.args.name.now c.in_ok-known.known (record { kind = c.args.kind; number = c.rank.result }) c.requires
    (search rules)
    (ap (λ z. record { kind = c.args.kind; number = z }) (c.rank.ensures c.args.self.now.declarations c.requires.listed))
    (search rules)
    (search rules)
    (search rules)
    (search rules)
