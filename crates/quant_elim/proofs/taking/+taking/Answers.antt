use Rattle.std.proofs.Common.{◌^◌, None, Some, Err, refl, sym, ◌∙◌, ap, arith}
use Rattle.std.specs.Option.{option_map}
use Rattle.base_budget.specs.Work.{marks_of}
use Rattle.elim_laws.specs.Elimination.{taken_out}
use Rattle.base_budget.proofs.Charging.{after_note, remains_all, remains_next, remains_ends, then_err, no_memory}
use Rattle.quant_elim.specs.First.{entry_of}
use Rattle.quant_elim.proofs.ByRule.{row_ok, row_err, row_without, row_fault, row_none, row_some, row_nearer, row_memory, noted}
use Rattle.quant_elim.proofs.Budgets.{below_budget}
use Rattle.quant_elim.proofs.Turning.{farthest-last, farthest-front, reverse-last, turned_back, near_turned}
use Rattle.quant_elim.proofs.taking.+taking.Goals as goal

pub take_out-returns-in-None : goal.take_out-returns-in-None
take_out-returns-in-None t c =
    let none = sym c.first_choice.ensures ∙ ap (option_map (entry_of c.args.x c.args.c)) c.in-None.is in
    row_none c.args.x c.args.c _ None c.staying.result (row_without c.args.x c.args.c none) refl c.staying.ensures

pub take_out-returns-in_err-entry-in-Some : goal.take_out-returns-in_err-entry-in-Some
take_out-returns-in_err-entry-in-Some t c =
    let first = sym c.first_choice.ensures ∙ ap (option_map (entry_of c.args.x c.args.c)) c.in-Some.is in
    row_fault c.args.x c.args.c _ c.from_residual.result (row_err c.args.x c.args.c _ (Err c.in_err-entry-in-Some.field-0.0) first refl c.in_err-entry-in-Some.ensures) c.from_residual.ensures.1

pub take_out-returns-in_err-push-in-Some : goal.take_out-returns-in_err-push-in-Some
take_out-returns-in_err-push-in-Some t c =
    let first = sym c.first_choice.ensures ∙ ap (option_map (entry_of c.args.x c.args.c)) c.in-Some.is in
    let did = row_ok c.args.x c.args.c _ (c.in_ok-entry-in-Some.entry, c.in_ok-entry-in-Some.results) first c.in_ok-entry-in-Some.ensures in
    row_memory c.args.x c.args.c _ _ (Some (c.in_ok-entry-in-Some.entry, c.in_ok-entry-in-Some.results)) c.in_ok-entry-in-Some.entry c.in_ok-entry-in-Some.results c.from_residual-in_err-push-in-Some.result did refl
    (ap (λ es. marks_of (record { entries = es })) c.in_err-push-in-Some.ensures.err) c.from_residual-in_err-push-in-Some.ensures.1

pub take_out-take_out_all-requires : goal.take_out-take_out_all-requires
take_out-take_out_all-requires t c =
    let first = sym c.first_choice.ensures ∙ ap (option_map (entry_of c.args.x c.args.c)) c.in-Some.is in
    let did = row_ok c.args.x c.args.c _ (c.in_ok-entry-in-Some.entry, c.in_ok-entry-in-Some.results) first c.in_ok-entry-in-Some.ensures in
    let lt = row_nearer c.args.x c.args.c (Some (c.in_ok-entry-in-Some.entry, c.in_ok-entry-in-Some.results)) c.in_ok-entry-in-Some.entry c.in_ok-entry-in-Some.results did refl in
    (omega (arith, lt), below_budget (2 ^ 32) did c.requires)

pub take_out-returns-in_ok-push-in-Some : goal.take_out-returns-in_ok-push-in-Some
take_out-returns-in_ok-push-in-Some t c =
    let first = sym c.first_choice.ensures ∙ ap (option_map (entry_of c.args.x c.args.c)) c.in-Some.is in
    let did = row_ok c.args.x c.args.c _ (c.in_ok-entry-in-Some.entry, c.in_ok-entry-in-Some.results) first c.in_ok-entry-in-Some.ensures in
    row_some c.args.x c.args.c _ (Some (c.in_ok-entry-in-Some.entry, c.in_ok-entry-in-Some.results)) c.in_ok-entry-in-Some.entry c.in_ok-entry-in-Some.results c.take_out_all.result did refl
    (after_note _ _ (rw (← noted c.args.log.now c.push.new.self c.in_ok-entry-in-Some.entry c.in_ok-push-in-Some.ensures.ok) c.take_out_all.ensures))

pub take_out_all-take_out-requires : goal.take_out_all-take_out-requires
take_out_all-take_out-requires t c =
    let last = farthest-last c.args.x c.loop-c.left c.pop.new.self c.in-Some.c c.in-Some.ensures in
    (omega (arith, last, c.loop-c.invariant.near), c.loop-c.invariant.budget)

pub take_out_all-loop-c-preserved : goal.take_out_all-loop-c-preserved
take_out_all-loop-c-preserved t c =
    let item = reverse-last c.loop-c.left c.pop.new.self c.in-Some.c c.in-Some.ensures in
    let front = farthest-front c.args.x c.loop-c.left c.pop.new.self c.in-Some.c c.in-Some.ensures in
    record {
      work = rw c.in_ok-append.ensures (remains_next _ _ (rw item at c.loop-c.invariant.work) c.in_ok-take_out.ensures);
      near = omega (arith, front, c.loop-c.invariant.near);
      budget = below_budget (2 ^ 32) c.in_ok-take_out.ensures c.loop-c.invariant.budget;
    }

pub take_out_all-loop-c-init : goal.take_out_all-loop-c-init
take_out_all-loop-c-init t c = record {
  work = rw (turned_back c.args.cs _ c.in_ok-left.ensures, c.new-out.ensures) (remains_all _ _);
  near = near_turned c.args.x c.args.cs _ c.in_ok-left.ensures;
  budget = c.requires;
}

pub take_out_all-returns-in_err-take_out : goal.take_out_all-returns-in_err-take_out
take_out_all-returns-in_err-take_out t c =
    let item = reverse-last c.loop-c.left c.pop.new.self c.in-Some.c c.in-Some.ensures in
    remains_ends (rw item at c.loop-c.invariant.work) (then_err (taken_out c.args.x c.in-Some.c) _ c.from_residual-in_err-take_out.result c.from_residual-in_err-take_out.ensures.1 c.in_err-take_out.ensures)

pub take_out_all-returns-in_err-append : goal.take_out_all-returns-in_err-append
take_out_all-returns-in_err-append t c =
    let item = reverse-last c.loop-c.left c.pop.new.self c.in-Some.c c.in-Some.ensures in
    remains_ends (remains_next _ _ (rw item at c.loop-c.invariant.work) c.in_ok-take_out.ensures) (no_memory c.from_residual-in_err-append.result c.from_residual-in_err-append.ensures.1)
