use Rattle.std.proofs.Common.{rules, refl, sym}
use Rattle.base_budget.specs.declared.log.Entry.TheVariants as e
use Rattle.proof_tokens.specs.declared.tokens.Token.TheVariants as t
use Rattle.proof_tokens.proofs.Fronts.{word_front, lettered_front, merge_front}
use Rattle.proof_tokens.proofs.ahead.entry_ahead.Goals as goal

pub returns-then-first-eq109-clause-exact : goal.returns-then-first-eq109-clause-exact
returns-then-first-eq109-clause-exact c =
    merge_front c.in_ok-i.i c.in_ok-i.j c.args.text.now c.in_ok-first.behind.now c.in_ok-i.rest.now (search rules) (search rules) (search rules) c.in_ok-i.ensures.exact.0 c.in_ok-i.ensures.exact.1

pub returns-then-first-eq110-clause-exact : goal.returns-then-first-eq110-clause-exact
returns-then-first-eq110-clause-exact c = lettered_front 110 (e.Apart c.in_ok-i-2.i) c.in_ok-i-2.i c.args.text.now c.in_ok-first.behind.now c.in_ok-i-2.rest.now (search rules) refl (search rules) c.in_ok-i-2.ensures.exact.0 c.in_ok-i-2.ensures.exact.1

pub returns-then-first-eq101-clause-exact : goal.returns-then-first-eq101-clause-exact
returns-then-first-eq101-clause-exact c = lettered_front 101 (e.Equation c.in_ok-i-3.i) c.in_ok-i-3.i c.args.text.now c.in_ok-first.behind.now c.in_ok-i-3.rest.now (search rules) refl (search rules) c.in_ok-i-3.ensures.exact.0 c.in_ok-i-3.ensures.exact.1

pub returns-then-first-eq115-clause-exact : goal.returns-then-first-eq115-clause-exact
returns-then-first-eq115-clause-exact c = lettered_front 115 (e.Shift c.in_ok-i-4.i) c.in_ok-i-4.i c.args.text.now c.in_ok-first.behind.now c.in_ok-i-4.rest.now (search rules) refl (search rules) c.in_ok-i-4.ensures.exact.0 c.in_ok-i-4.ensures.exact.1

pub returns-then-ends_word-clause-exact : goal.returns-then-ends_word-clause-exact
returns-then-ends_word-clause-exact c = word_front (t.Step e.Exact) c.args.text.now c.in_ok-first.behind.now tt (search rules) (sym c.if-ends_word.ensures)
