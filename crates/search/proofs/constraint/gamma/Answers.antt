use Rattle.std.proofs.Common.{◌∙◌, sym}
use Rattle.proof_tree.specs.Rules.{first_given}
use Rattle.search.proofs.Closing.{empty_is, nothing_left}
use Rattle.search.proofs.constraint.gamma.Goals as goal

pub nothing-none-requires : goal.nothing-none-requires
nothing-none-requires c = sym (empty_is c.clauses.result.now (sym c.is_empty.ensures ∙ c.if-is_empty.true) ∙ c.clauses.ensures)

pub returns-then-is_empty : goal.returns-then-is_empty
returns-then-is_empty c =
    nothing_left c.args.count (first_given c.args.ds) c.args.purse.now c.nothing-none.new.purse c.nothing-none.result
    (empty_is c.clauses.result.now (sym c.is_empty.ensures ∙ c.if-is_empty.true) ∙ c.clauses.ensures ∙ c.into_first-d.ensures) c.nothing-none.ensures c.unlogged.ensures
