use Rattle.std.proofs.Common.{◌++◌, ◌∷◌, [], ap, sym, subst, ◌∙◌, length}
use Rattle.smt_names.specs.Known.{declared_as, kept_as}
use Rattle.smt_names.specs.Saying.{calls_of}
use Rattle.smt_names.proofs.Growing.{agrees-more, declared-within, declared-same}
use Rattle.smt_names.specs.Uses.{AreUses}
use Rattle.smt_names.proofs.known.Known.declare.Goals as goal

pub returns-clause-knows : goal.returns-clause-knows
returns-clause-knows c = λ gs knows new.
    let with = c.in_ok-with.ensures.more new in (
      agrees-more gs c.args.self.symbols c.in_ok-with.field-0 c.args.self.definitions c.args.text.now (declared_as c.args.declared) (kept_as c.args.declared) knows.0 new
          with.0 (with.1 ∙ ap (λ z. c.args.self.symbols.meant.items ++ z ∷ []) c.meant.ensures)
          (declared-within (length c.args.self.definitions) c.args.declared) (declared-same gs (calls_of c.args.self.definitions) c.args.declared),
      subst (λ z. AreUses z c.args.self.definitions) (sym c.in_ok-with.ensures.used) knows.1,
    )
