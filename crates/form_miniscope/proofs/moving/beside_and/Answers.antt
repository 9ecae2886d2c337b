use Rattle.std.proofs.Common.{sym, ◌∙◌}
use Rattle.std.proofs.lemmas.Bool.{false≢true}
use Rattle.form_miniscope.proofs.Members.{beside_and_is}
use Rattle.form_miniscope.proofs.moving.beside_and.Goals as goal

pub returns : goal.returns
returns c =
    beside_and_is c.args.first c.args.others c.new-members.result c.push.new.self c.append.new.self (λ e. false≢true (sym c.if-is_empty.false ∙ c.is_empty.ensures.1 e)) c.new-members.ensures c.in_ok-push.ensures.ok c.in_ok-append.ensures
