use Rattle.std.proofs.Common.{◌≡◌, drop, map, take}
use Rattle.smt_lists.specs.Expressions.{expr, exprs_of}
use Rattle.smt_terms.specs.Term.{bound, phrase}
use Rattle.smt_typing.specs.Reading.{bindings_in, phrase_of}
use Rattle.smt_typing.proofs.Collecting.{joined}
use Rattle.smt_typing.proofs.reading.+reading.Given as goal

abbrev pub invariant-read_all-loop-e : goal.invariant-read_all-loop-e
invariant-read_all-loop-e l = map phrase l.terms ≡ map (λ e. phrase_of (expr e)) (take l.e-index l.es)

abbrev pub invariant-read_bindings-loop-pair : goal.invariant-read_bindings-loop-pair
invariant-read_bindings-loop-pair l = joined (map bound l.bindings) (bindings_in (exprs_of (drop l.pair-index l.pairs))) ≡ bindings_in (exprs_of l.pairs)
