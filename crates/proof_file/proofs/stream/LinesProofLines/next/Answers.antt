use Rattle.std.proofs.Common.{◌∙◌, ap, sym, subst}
use Rattle.proof_file.specs.Coming.{Coming}
use Rattle.proof_grammar.specs.Walks.{owed_of}
use Rattle.proof_file.proofs.Streaming.{none_comes, nothing_owed, parts_in, something_owed, told_next}
use Rattle.proof_file.proofs.stream.LinesProofLines.next.Goals as goal

pub returns-in_default-clause-line : goal.returns-in_default-clause-line
returns-in_default-clause-line c = λ l ls h. absurd (nothing_owed c.args.self.now.parts c.args.self.now.walk c.args.self.now.rest.now l ls c.in_default.ensures h)

pub returns-in_default-2-clause-line : goal.returns-in_default-2-clause-line
returns-in_default-2-clause-line c = λ l ls h.
    absurd (none_comes c.args.self.now.parts c.args.self.now.walk c.in-Some.owed c.in-Some.ensures.0 c.args.self.now.rest.now l ls c.in-Some.ensures.1 (rw c.in_default-2.is at c.in_ok-line.ensures) h)

pub returns-clause-line : goal.returns-clause-line
returns-clause-line c = λ l ls h.
    let s = rw c.in-Some-2.is at c.in_ok-line.ensures in let parts = c.args.self.now.parts in
    let k = told_next parts c.args.self.now.walk c.told.new.self.walk c.in-Some.owed c.in-Some.ensures.0 c.args.self.now.rest.now c.in-Some-2.behind.now l c.in-Some-2.line c.in_ok-full.full ls c.told.result _ c.told.new.self.conclusion
    c.in-Some.ensures.1 s.0 s.1 c.in_ok-full.ensures (λ us e. ap owed_of c.told.ensures.walk ∙ c.in_ok-pay.ensures.ok us e) (ap parts_in c.told.ensures.walk ∙ c.in_ok-pay.ensures.parts) c.told.ensures.told h in
    (k.0, subst (λ z. Coming z c.told.new.self.walk c.told.new.self.rest.now ls) (sym c.told.ensures.parts) (subst (λ b. Coming parts c.told.new.self.walk b.now ls) (sym c.told.ensures.rest) k.1))

pub returns-clause-end : goal.returns-clause-end
returns-clause-end c = λ h. absurd (something_owed c.args.self.now.parts c.args.self.now.walk c.in-Some.owed c.in-Some.ensures.0 c.args.self.now.rest.now c.in-Some.ensures.1 h)
