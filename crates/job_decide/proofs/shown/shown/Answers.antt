use Rattle.base_answers.specs.Answer.{answer_of}
use Rattle.job_decide.proofs.Showing.{none_of, nothing_shown, some_of, values_many, values_told}
use Rattle.job_decide.proofs.shown.shown.Goals as goal

pub returns-then-not-are_to_show : goal.returns-then-not-are_to_show
returns-then-not-are_to_show c =
    nothing_shown c.args.shows c.args.asked c.args.budget c.args.problem.now (answer_of c.args.output) c.requires.run (λ vs here. absurd (c.are_to_show.ensures.no c.if-not-are_to_show.true here))

pub false_values-requires-clause-alone : goal.false_values-requires-clause-alone
false_values-requires-clause-alone c = (c.are_to_show.ensures.yes c.if-not-are_to_show.false).alone

pub with_values-requires : goal.with_values-requires
with_values-requires c =
    record {
      values = values_many c.args.budget c.args.problem.now c.in-Some.values c.as_slice.result.now c.requires.well_formed (c.are_to_show.ensures.yes c.if-not-are_to_show.false).alone
          (some_of c.args.budget c.args.problem.now c.in_ok-found.found c.in-Some.values c.in-Some.is c.in_ok-found.ensures) c.as_slice.ensures;
    }

pub returns-in-Some : goal.returns-in-Some
returns-in-Some c =
    let here = c.are_to_show.ensures.yes c.if-not-are_to_show.false in
    values_told c.args.shows c.args.asked c.args.budget c.args.problem.now (answer_of c.args.output) c.in-Some.values c.as_slice.result.now c.with_values.result c.requires.well_formed (c.requires.cuts.pure.0 here.pure) c.requires.run here
    (some_of c.args.budget c.args.problem.now c.in_ok-found.found c.in-Some.values c.in-Some.is c.in_ok-found.ensures) c.as_slice.ensures c.with_values.ensures

pub returns-in-None : goal.returns-in-None
returns-in-None c =
    nothing_shown c.args.shows c.args.asked c.args.budget c.args.problem.now (answer_of c.args.output) c.requires.run (λ vs here. none_of c.args.budget c.args.problem.now c.in_ok-found.found c.in-None.is c.in_ok-found.ensures vs)
