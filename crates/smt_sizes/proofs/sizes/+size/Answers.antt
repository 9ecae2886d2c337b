use Rattle.std.proofs.Common.{◌≡◌, ◌∙◌, ap, drop, arith}
use Rattle.form_typed.specs.Formula.{formulas_of, expressions_of}
use Rattle.smt_sizes.specs.Sizes.{all_sizes, term_sizes}
use Rattle.smt_sizes.proofs.Backwards.{sizes_end, terms_end, sizes_back, terms_back}
use Rattle.smt_sizes.proofs.sizes.+size.Goals as goal

pub sizes_of-loop-i-init : goal.sizes_of-loop-i-init
sizes_of-loop-i-init t c = (omega arith, sizes_end c.args.formulas.now)

pub sizes_of-returns : goal.sizes_of-returns
sizes_of-returns t c =
    let none : c.loop-i.i ≡ 0 = omega arith in
    c.loop-i.invariant.1 ∙ ap (λ m. all_sizes (formulas_of (drop m c.args.formulas.now))) none

pub sizes_of-loop-i-preserved : goal.sizes_of-loop-i-preserved
sizes_of-loop-i-preserved t c =
    (omega arith, sizes_back c.args.formulas.now c.loop-i.i c.index-formulas-i.result _ _ _ (omega arith) (omega arith) c.index-formulas-i.is c.size_of.ensures c.loop-i.invariant.1 c.beside-all.ensures)

pub term_sizes-loop-i-init : goal.term_sizes-loop-i-init
term_sizes-loop-i-init t c = (omega arith, terms_end c.args.terms.now)

pub term_sizes-returns : goal.term_sizes-returns
term_sizes-returns t c =
    let none : c.loop-i.i ≡ 0 = omega arith in
    c.loop-i.invariant.1 ∙ ap (λ m. term_sizes (expressions_of (drop m c.args.terms.now))) none

pub term_sizes-loop-i-preserved : goal.term_sizes-loop-i-preserved
term_sizes-loop-i-preserved t c =
    (omega arith, terms_back c.args.terms.now c.loop-i.i c.index-terms-i.result _ _ _ (omega arith) (omega arith) c.index-terms-i.is c.term_size.ensures c.loop-i.invariant.1 c.beside-all.ensures)
