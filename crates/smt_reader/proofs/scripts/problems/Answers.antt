use Rattle.std.proofs.Common.{◌≡◌, ◌∷◌, [], List, Some, ap, arith, length, map, refl, rules, subst, sym, ◌∙◌}
use Rattle.std.specs.Option.{option_map}
use Rattle.smt_lists.specs.Expressions.{expr}
use Rattle.smt_lists.specs.declared.tree.Sexp.{Sexp}
use Rattle.smt_commands.specs.Views.{form_of}
use Rattle.smt_reader.specs.Commands.{acts_of, before}
use Rattle.smt_reader.specs.Effects.{act_is}
use Rattle.smt_reader.specs.Forces.{force}
use Rattle.smt_reader.specs.Taking.{AreTakenOrLarge}
use Rattle.smt_reader.proofs.Stepping.{acts_on, exit_ends, taken_at}
use Rattle.smt_reader.proofs.Taking.{may_ask, taken_all}
use Rattle.smt_reader.proofs.scripts.problems.Goals as goal

pub returns-then-is_exit : goal.returns-then-is_exit
returns-then-is_exit c =
    let all = acts_of (map expr c.args.lists.now) in
    let later = acts_of (map expr c.in-Some.behind.now) in
    let parts : c.loop-list.rest.now ≡ c.in-Some.list.now ∷ c.in-Some.behind.now = search rules in
    let left = acts_on c.loop-list.rest.now c.in-Some.list.now c.in-Some.behind.now (Some (form_of c.in-Some-command_in.command)) parts (sym c.command_in.ensures.exact ∙ ap (option_map form_of) c.in-Some-command_in.is) in
    let ends = exit_ends (form_of c.in-Some-command_in.command) later (sym c.is_exit.ensures.exact ∙ c.if-is_exit.true) in
    taken_all (force c.loop-list.taken.forces) c.loop-list.taken.checks all (taken_at (force c.loop-list.taken.forces) c.loop-list.taken.checks _ [] all c.loop-list.invariant (left ∙ ends))

pub take_step-requires : goal.take_step-requires
take_step-requires c =
    let all = acts_of (map expr c.args.lists.now) in
    let later = acts_of (map expr c.in-Some.behind.now) in
    let parts : c.loop-list.rest.now ≡ c.in-Some.list.now ∷ c.in-Some.behind.now = search rules in
    let left = acts_on c.loop-list.rest.now c.in-Some.list.now c.in-Some.behind.now (Some (form_of c.in-Some-command_in.command)) parts (sym c.command_in.ensures.exact ∙ ap (option_map form_of) c.in-Some-command_in.is) in
    let step = c.in_ok-step.ensures later (sym c.is_exit.ensures.exact ∙ c.if-is_exit.false) ∙ ap (λ z. before (option_map act_is z) later) c.in-Some-2.is in
    record {
      new = may_ask (force c.loop-list.taken.forces) c.loop-list.taken.checks (act_is c.in-Some-2.step) later all
          (taken_at (force c.loop-list.taken.forces) c.loop-list.taken.checks _ (act_is c.in-Some-2.step ∷ later) all c.loop-list.invariant (left ∙ step)) c.requires.new;
    }

pub returns-in_default-3 : goal.returns-in_default-3
returns-in_default-3 c =
    let all = acts_of (map expr c.args.lists.now) in
    let later = acts_of (map expr c.in-Some.behind.now) in
    let parts : c.loop-list.rest.now ≡ c.in-Some.list.now ∷ c.in-Some.behind.now = search rules in
    let left = acts_on c.loop-list.rest.now c.in-Some.list.now c.in-Some.behind.now (Some (form_of c.in-Some-command_in.command)) parts (sym c.command_in.ensures.exact ∙ ap (option_map form_of) c.in-Some-command_in.is) in
    let step = c.in_ok-step.ensures later (sym c.is_exit.ensures.exact ∙ c.if-is_exit.false) ∙ ap (λ z. before (option_map act_is z) later) c.in-Some-2.is in
    subst (AreTakenOrLarge later all) c.in_default-3.is
    (c.in_ok-more.ensures later all (taken_at (force c.loop-list.taken.forces) c.loop-list.taken.checks _ (act_is c.in-Some-2.step ∷ later) all c.loop-list.invariant (left ∙ step)))

empty : (xs : List Sexp) → length xs ≡ 0 → xs ≡ []
empty [] h = refl
empty (x ∷ xs) h = absurd (omega (arith, h))

pub returns : goal.returns
returns c =
    let all = acts_of (map expr c.args.lists.now) in
    let none : c.loop-list.rest.now ≡ [] = empty c.loop-list.rest.now c.in_default.ensures.cases in
    taken_all (force c.loop-list.taken.forces) c.loop-list.taken.checks all
    (taken_at (force c.loop-list.taken.forces) c.loop-list.taken.checks _ [] all c.loop-list.invariant (ap (λ z. acts_of (map expr z)) none))
