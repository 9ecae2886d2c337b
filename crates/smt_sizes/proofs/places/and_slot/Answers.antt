use Rattle.std.proofs.Common.{◌≤◌, ◌∙◌, length, get_or, set, ap, arith}
use Rattle.smt_sizes.specs.Weight.{node, plus}
use Rattle.smt_sizes.specs.Weights.{Weighed}
use Rattle.smt_sizes.specs.Linear.{weights, combined, sum}
use Rattle.smt_sizes.specs.Shapes.{formula_of}
use Rattle.smt_sizes.proofs.Names.{node-value, slot-value, past-end}
use Rattle.smt_sizes.proofs.places.and_slot.Goals as goal

pub returns-clause-value : goal.returns-clause-value
returns-clause-value c = λ ws h.
    let us = c.args.all.uses.items in
    ap (λ z. plus c.args.all.constant (combined (set us c.args.k z) (weights ws))) (c.plus-more.ensures ∙ ap (λ z. plus z c.args.weight) c.index.ensures)
    ∙ slot-value c.args.all.constant us ws c.args.k c.args.weight c.index.result.now (formula_of node) h (omega (arith, c.if-i-as_slice.false, ap length c.as_slice.ensures.value))

pub returns-then-i-as_slice-clause-value : goal.returns-then-i-as_slice-clause-value
returns-then-i-as_slice-clause-value c = λ ws h.
    let past : length ws ≤ c.args.k = omega (arith, h, c.if-i-as_slice.true, ap length c.as_slice.ensures.value) in
    node-value (sum c.args.all) (sum c.and.result) c.times.result c.args.weight (weights ws) (get_or ws c.args.k (formula_of node)) c.and.ensures c.times.ensures
    (ap (λ (w : Weighed). w.weight) (past-end ws c.args.k (formula_of node) past))
