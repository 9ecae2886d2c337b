use Rattle.job_values.proofs.Found.{decision_tells}
use Rattle.pri_problem.proofs.Sizes.{searchable}
use Rattle.search.specs.declared.judge.Decided.TheVariants.{Valid, Invalid, Saturated, Unknown}
use Rattle.job_values.proofs.values.run_values.Goals as goal

pub decide-requires-clause-searchable : goal.decide-requires-clause-searchable
decide-requires-clause-searchable c = searchable c.args.problem.now c.args.encoded.now c.requires.well_formed c.requires.encoded

pub returns-in-Valid : goal.returns-in-Valid
returns-in-Valid c =
    decision_tells c.args.budget c.args.problem.now c.args.encoded.now c.requires.encoded _ c.decide.new.purse c.in_ok-decided.decided (Valid c.in-Valid.constraint c.in-Valid.solution) c.new-purse.ensures c.in_ok-decided.ensures c.in-Valid.is

pub returns-in-Invalid : goal.returns-in-Invalid
returns-in-Invalid c =
    decision_tells c.args.budget c.args.problem.now c.args.encoded.now c.requires.encoded _ c.decide.new.purse c.in_ok-decided.decided (Invalid c.in-Invalid.constraint) c.new-purse.ensures c.in_ok-decided.ensures c.in-Invalid.is

pub returns-in-Saturated : goal.returns-in-Saturated
returns-in-Saturated c =
    decision_tells c.args.budget c.args.problem.now c.args.encoded.now c.requires.encoded _ c.decide.new.purse c.in_ok-decided.decided (Saturated c.in-Saturated.constraint) c.new-purse.ensures c.in_ok-decided.ensures c.in-Saturated.is

pub returns : goal.returns
returns c =
    decision_tells c.args.budget c.args.problem.now c.args.encoded.now c.requires.encoded _ c.decide.new.purse c.in_ok-decided.decided (Unknown c.in-Unknown.why c.in-Unknown.run') c.new-purse.ensures c.in_ok-decided.ensures c.in-Unknown.is
