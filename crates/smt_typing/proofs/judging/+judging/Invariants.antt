use Rattle.std.proofs.Common.{◌≡◌, ◌++◌, drop}
use Rattle.smt_commands.specs.Least.{least_from}
use Rattle.smt_terms.specs.Term.{bindings_of, phrases_of}
use Rattle.smt_typing.specs.Bounds.{bound_at, symbols_at}
use Rattle.smt_typing.specs.Faults.{bound_faults, each_faults}
use Rattle.smt_typing.specs.Sorts.{bound_sorts}
use Rattle.smt_typing.proofs.judging.+judging.Given as goal

abbrev pub invariant-judge_bindings-loop-binding : goal.invariant-judge_bindings-loop-binding
invariant-judge_bindings-loop-binding l = record {
  found : least_from l.found (bound_faults (symbols_at l.site) (bound_at l.site) (bindings_of (drop l.binding-index l.bindings)))
      ≡ least_from l.fn.found (bound_faults (symbols_at l.site) (bound_at l.site) (bindings_of l.bindings));
  sorts : l.sorts ++ bound_sorts (symbols_at l.site) (bound_at l.site) (bindings_of (drop l.binding-index l.bindings)) ≡ bound_sorts (symbols_at l.site) (bound_at l.site) (bindings_of l.bindings);
}

abbrev pub invariant-judge_each-loop-term : goal.invariant-judge_each-loop-term
invariant-judge_each-loop-term l = least_from l.found (each_faults (symbols_at l.site) (bound_at l.site) l.want (phrases_of (drop l.term-index l.terms)))
    ≡ least_from l.fn.found (each_faults (symbols_at l.site) (bound_at l.site) l.want (phrases_of l.terms))

abbrev pub invariant-judge_alike-loop-term : goal.invariant-judge_alike-loop-term
invariant-judge_alike-loop-term l = least_from l.found (each_faults (symbols_at l.site) (bound_at l.site) l.sort (phrases_of (drop l.term-index l.rest)))
    ≡ least_from l.initial.found (each_faults (symbols_at l.site) (bound_at l.site) l.sort (phrases_of l.rest))
