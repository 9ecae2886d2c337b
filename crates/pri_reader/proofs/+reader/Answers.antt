use Rattle.std.proofs.Common.{arith, refl, rules, SFits, to_z-of_z}
use mir.Syntax.{w128}
use Rattle.pri_reader.proofs.Lines.{iff_no_room_iff, iff_one, iff_part1, iff_part2, iff_two, implies_no_room_implies, implies_one, implies_part1, implies_part2, implies_two, relation_one, relation_part1, relation_part2, relation_two, times_no_room_times, times_one, times_part1, times_part2, times_two}
use Rattle.pri_reader.proofs.Chains.{and_begun, and_ends, and_more, and_more_part1, and_one, and_part1, begins_more, begins_one, or_begun, or_ends, or_more, or_more_part1, or_one, or_part1}
use Rattle.pri_reader.proofs.Sums.{sum_begun, sum_ends, sum_more, sum_more_part1, sum_one, sum_part1}
use Rattle.pri_reader.proofs.Primaries.{abs_part1, abs_read, factor_refused, group_read, group_refused, identifier_part1, identifier_read, if_part1, if_read, minus_no_room, minus_part1, minus_read, not_no_room, not_part1, not_read, number_refused, number_value, pair_part1, pair_read, part_name_no_bracket, part_name_no_bracket_close, part_name_no_part_name, part_name_part1, part_name_read, part_no_room, part_part1, part_read, quantifier_part1, quantifier_read, truth_read, unary_part1, unary_rel}
use Rattle.pri_reader.proofs.Parentheses.{argument_ends, argument_more, argument_part1, argument_refused, both_no_left, both_no_pair_close, both_no_pair_open, both_no_room_pair_open, both_part1, both_part2, both_read, conditional_no_else, conditional_no_then, conditional_part1, conditional_part2, conditional_part3, conditional_read, name_all_applied, name_all_part1, name_bare, name_empty, name_no_room_name, parenthesis_no_close, parenthesis_no_open, parenthesis_no_room_open, parenthesis_part1, parenthesis_read}
use Rattle.pri_reader.proofs.BoundNames.{quantified_no_binder, quantified_no_body, quantified_read}
use Rattle.pri_reader.proofs.Exits.{adds_shorter, at_most_shorter, begins_shorter, compares_shorter, fails, handed_both, handed_err, handed_ok, less_at_most, made_read, memory, none_taken, prefixes_shorter, same_less, same_shorter, shorter_at_most, takes_shorter, then_shorter}
use Rattle.pri_reader.proofs.+reader.Goals as goal

pub formulas::whole-returns-in_err-first-clause-refused : goal.formulas::whole-returns-in_err-first-clause-refused
formulas::whole-returns-in_err-first-clause-refused t c = fails _ _ c.from_residual.ensures.1 (iff_part1 c.in_err-first.ensures.refused)

pub formulas::whole-returns-in_default-clause-read : goal.formulas::whole-returns-in_default-clause-read
formulas::whole-returns-in_default-clause-read t c = iff_one c.in_ok-first.ensures.read c.in_default.ensures

pub formulas::whole-returns-in_err-depth-clause-refused : goal.formulas::whole-returns-in_err-depth-clause-refused
formulas::whole-returns-in_err-depth-clause-refused t c = fails _ _ c.from_residual-in_err-depth.ensures.1 (iff_no_room_iff c.in_ok-first.ensures.read c.in-Some.ensures c.in_err-depth.ensures.failed)

pub formulas::whole-returns-in_err-second-clause-refused : goal.formulas::whole-returns-in_err-second-clause-refused
formulas::whole-returns-in_err-second-clause-refused t c = fails _ _ c.from_residual-in_err-second.ensures.1 (iff_part2 c.in_ok-first.ensures.read c.in-Some.ensures c.in_ok-depth.ensures.found c.in_err-second.ensures.refused)

pub formulas::whole-returns-clause-read : goal.formulas::whole-returns-clause-read
formulas::whole-returns-clause-read t c = handed_both _ _ _ _ (rw c.get.ensures at c.made.ensures.exact) c.made.ensures.behind (λ x f t. made_read f t (iff_two c.in_ok-first.ensures.read c.in-Some.ensures c.in_ok-depth.ensures.found c.in_ok-second.ensures.read))

pub formulas::whole-returns-clause-refused : goal.formulas::whole-returns-clause-refused
formulas::whole-returns-clause-refused t c = handed_err _ _ _ c.made.ensures.failed (λ e h. memory h)

pub formulas::whole-returns-in_default-clause-shorter : goal.formulas::whole-returns-in_default-clause-shorter
formulas::whole-returns-in_default-clause-shorter t c = c.in_ok-first.ensures.shorter

pub formulas::whole-returns-clause-shorter : goal.formulas::whole-returns-clause-shorter
formulas::whole-returns-clause-shorter t c = handed_ok _ _ _ c.made.ensures.behind (λ x. same_shorter (then_shorter c.in_ok-second.ensures.shorter (then_shorter (takes_shorter c.in-Some.ensures) c.in_ok-first.ensures.shorter)))

pub formulas::imp-returns-in_err-first-clause-refused : goal.formulas::imp-returns-in_err-first-clause-refused
formulas::imp-returns-in_err-first-clause-refused t c = fails _ _ c.from_residual.ensures.1 (implies_part1 c.in_err-first.ensures.refused)

pub formulas::imp-returns-in_default-clause-read : goal.formulas::imp-returns-in_default-clause-read
formulas::imp-returns-in_default-clause-read t c = implies_one c.in_ok-first.ensures.read c.in_default.ensures

pub formulas::imp-returns-in_err-depth-clause-refused : goal.formulas::imp-returns-in_err-depth-clause-refused
formulas::imp-returns-in_err-depth-clause-refused t c = fails _ _ c.from_residual-in_err-depth.ensures.1 (implies_no_room_implies c.in_ok-first.ensures.read c.in-Some.ensures c.in_err-depth.ensures.failed)

pub formulas::imp-returns-in_err-second-clause-refused : goal.formulas::imp-returns-in_err-second-clause-refused
formulas::imp-returns-in_err-second-clause-refused t c = fails _ _ c.from_residual-in_err-second.ensures.1 (implies_part2 c.in_ok-first.ensures.read c.in-Some.ensures c.in_ok-depth.ensures.found c.in_err-second.ensures.refused)

pub formulas::imp-returns-clause-read : goal.formulas::imp-returns-clause-read
formulas::imp-returns-clause-read t c = handed_both _ _ _ _ (rw c.get.ensures at c.made.ensures.exact) c.made.ensures.behind (λ x f t. made_read f t (implies_two c.in_ok-first.ensures.read c.in-Some.ensures c.in_ok-depth.ensures.found c.in_ok-second.ensures.read))

pub formulas::imp-returns-clause-refused : goal.formulas::imp-returns-clause-refused
formulas::imp-returns-clause-refused t c = handed_err _ _ _ c.made.ensures.failed (λ e h. memory h)

pub formulas::imp-returns-in_default-clause-shorter : goal.formulas::imp-returns-in_default-clause-shorter
formulas::imp-returns-in_default-clause-shorter t c = c.in_ok-first.ensures.shorter

pub formulas::imp-returns-clause-shorter : goal.formulas::imp-returns-clause-shorter
formulas::imp-returns-clause-shorter t c = handed_ok _ _ _ c.made.ensures.behind (λ x. same_shorter (then_shorter c.in_ok-second.ensures.shorter (then_shorter (takes_shorter c.in-Some.ensures) c.in_ok-first.ensures.shorter)))

pub terms::product-returns-in_err-first-clause-refused : goal.terms::product-returns-in_err-first-clause-refused
terms::product-returns-in_err-first-clause-refused t c = fails _ _ c.from_residual.ensures.1 (times_part1 c.in_err-first.ensures.refused)

pub terms::product-returns-in_default-clause-read : goal.terms::product-returns-in_default-clause-read
terms::product-returns-in_default-clause-read t c = times_one c.in_ok-first.ensures.read c.in_default.ensures

pub terms::product-returns-in_err-depth-clause-refused : goal.terms::product-returns-in_err-depth-clause-refused
terms::product-returns-in_err-depth-clause-refused t c = fails _ _ c.from_residual-in_err-depth.ensures.1 (times_no_room_times c.in_ok-first.ensures.read c.in-Some.ensures c.in_err-depth.ensures.failed)

pub terms::product-returns-in_err-second-clause-refused : goal.terms::product-returns-in_err-second-clause-refused
terms::product-returns-in_err-second-clause-refused t c = fails _ _ c.from_residual-in_err-second.ensures.1 (times_part2 c.in_ok-first.ensures.read c.in-Some.ensures c.in_ok-depth.ensures.found c.in_err-second.ensures.refused)

pub terms::product-returns-clause-read : goal.terms::product-returns-clause-read
terms::product-returns-clause-read t c = handed_both _ _ _ _ (rw c.get.ensures at c.made.ensures.exact) c.made.ensures.behind (λ x f t. made_read f t (times_two c.in_ok-first.ensures.read c.in-Some.ensures c.in_ok-depth.ensures.found c.in_ok-second.ensures.read))

pub terms::product-returns-clause-refused : goal.terms::product-returns-clause-refused
terms::product-returns-clause-refused t c = handed_err _ _ _ c.made.ensures.failed (λ e h. memory h)

pub terms::product-returns-in_default-clause-shorter : goal.terms::product-returns-in_default-clause-shorter
terms::product-returns-in_default-clause-shorter t c = c.in_ok-first.ensures.shorter

pub terms::product-returns-clause-shorter : goal.terms::product-returns-clause-shorter
terms::product-returns-clause-shorter t c = handed_ok _ _ _ c.made.ensures.behind (λ x. same_shorter (then_shorter c.in_ok-second.ensures.shorter (then_shorter (takes_shorter c.in-Some.ensures) c.in_ok-first.ensures.shorter)))

pub formulas::rel-returns-in_err-first-clause-refused : goal.formulas::rel-returns-in_err-first-clause-refused
formulas::rel-returns-in_err-first-clause-refused t c = fails _ _ c.from_residual.ensures.1 (relation_part1 c.in_err-first.ensures.refused)

pub formulas::rel-returns-in_default-clause-read : goal.formulas::rel-returns-in_default-clause-read
formulas::rel-returns-in_default-clause-read t c = relation_one c.in_ok-first.ensures.read c.in_default.ensures

pub formulas::rel-returns-in_err-second-clause-refused : goal.formulas::rel-returns-in_err-second-clause-refused
formulas::rel-returns-in_err-second-clause-refused t c = fails _ _ c.from_residual-in_err-second.ensures.1 (relation_part2 c.in_ok-first.ensures.read c.in-Some.ensures c.in_err-second.ensures.refused)

pub formulas::rel-returns-clause-read : goal.formulas::rel-returns-clause-read
formulas::rel-returns-clause-read t c = handed_both _ _ _ _ (rw c.get.ensures at c.made.ensures.exact) c.made.ensures.behind (λ x f t. made_read f t (relation_two c.in_ok-first.ensures.read c.in-Some.ensures c.in_ok-second.ensures.read))

pub formulas::rel-returns-clause-refused : goal.formulas::rel-returns-clause-refused
formulas::rel-returns-clause-refused t c = handed_err _ _ _ c.made.ensures.failed (λ e h. memory h)

pub formulas::rel-returns-in_default-clause-shorter : goal.formulas::rel-returns-in_default-clause-shorter
formulas::rel-returns-in_default-clause-shorter t c = c.in_ok-first.ensures.shorter

pub formulas::rel-returns-clause-shorter : goal.formulas::rel-returns-clause-shorter
formulas::rel-returns-clause-shorter t c = handed_ok _ _ _ c.made.ensures.behind (λ x. same_shorter (then_shorter c.in_ok-second.ensures.shorter (then_shorter (compares_shorter c.in-Some.ensures) c.in_ok-first.ensures.shorter)))

pub formulas::and-returns-in_err-first-clause-refused : goal.formulas::and-returns-in_err-first-clause-refused
formulas::and-returns-in_err-first-clause-refused t c = fails _ _ c.from_residual.ensures.1 (and_part1 c.in_err-first.ensures.refused)

pub formulas::and-returns-in_default-clause-read : goal.formulas::and-returns-in_default-clause-read
formulas::and-returns-in_default-clause-read t c = and_one c.in_ok-first.ensures.read c.in_default.ensures

pub formulas::and-members-init : goal.formulas::and-members-init
formulas::and-members-init t c = record {
  leads = rw (c.in_ok-push.ensures.ok, c.new-members.ensures, c.into_inner.ensures) (and_begun c.in_ok-first.ensures.read c.in-Some.ensures);
  begins = rw (c.in_ok-push.ensures.ok, c.new-members.ensures, c.into_inner.ensures, c.get.ensures) (begins_one _);
  shorter = omega (arith, c.in_ok-first.ensures.shorter, takes_shorter c.in-Some.ensures);
}

pub formulas::and-returns-in_err-member-clause-refused : goal.formulas::and-returns-in_err-member-clause-refused
formulas::and-returns-in_err-member-clause-refused t c = fails _ _ c.from_residual-in_err-member.ensures.1 (and_more_part1 c.members.invariant.leads c.in_err-member.ensures.refused)

pub formulas::and-returns-in_default-after-clause-read : goal.formulas::and-returns-in_default-after-clause-read
formulas::and-returns-in_default-after-clause-read t c = handed_both _ _ _ _ (rw (c.in_ok-push-2.ensures.ok, c.into_inner-in-members.ensures) at c.made.ensures.exact) c.made.ensures.behind (λ x f t. made_read f t (and_ends c.members.invariant.leads c.in_ok-member.ensures.read c.in_default-after.ensures c.members.invariant.begins))

pub formulas::and-returns-in_default-after-clause-refused : goal.formulas::and-returns-in_default-after-clause-refused
formulas::and-returns-in_default-after-clause-refused t c = handed_err _ _ _ c.made.ensures.failed (λ e h. memory h)

pub formulas::and-members-preserved : goal.formulas::and-members-preserved
formulas::and-members-preserved t c = record {
  leads = rw (c.in_ok-push-2.ensures.ok, c.into_inner-in-members.ensures) (and_more c.members.invariant.leads c.in_ok-member.ensures.read c.in-Some-after.ensures);
  begins = rw c.in_ok-push-2.ensures.ok (begins_more _ c.members.invariant.begins);
  shorter = omega (arith, c.members.invariant.shorter, c.in_ok-member.ensures.shorter, takes_shorter c.in-Some-after.ensures);
}

pub formulas::and-returns-in_default-clause-shorter : goal.formulas::and-returns-in_default-clause-shorter
formulas::and-returns-in_default-clause-shorter t c = c.in_ok-first.ensures.shorter

pub formulas::and-returns-in_err-push-clause-refused : goal.formulas::and-returns-in_err-push-clause-refused
formulas::and-returns-in_err-push-clause-refused t c = fails _ _ c.from_residual-in_err-push.ensures.1 (memory refl)

pub formulas::and-returns-in_err-push-2-clause-refused : goal.formulas::and-returns-in_err-push-2-clause-refused
formulas::and-returns-in_err-push-2-clause-refused t c = fails _ _ c.from_residual-in_err-push-2.ensures.1 (memory refl)

pub formulas::and-returns-in_default-after-clause-shorter : goal.formulas::and-returns-in_default-after-clause-shorter
formulas::and-returns-in_default-after-clause-shorter t c = handed_ok _ _ _ c.made.ensures.behind (λ x. same_shorter (then_shorter c.in_ok-member.ensures.shorter c.members.invariant.shorter))

pub formulas::or-returns-in_err-first-clause-refused : goal.formulas::or-returns-in_err-first-clause-refused
formulas::or-returns-in_err-first-clause-refused t c = fails _ _ c.from_residual.ensures.1 (or_part1 c.in_err-first.ensures.refused)

pub formulas::or-returns-in_default-clause-read : goal.formulas::or-returns-in_default-clause-read
formulas::or-returns-in_default-clause-read t c = or_one c.in_ok-first.ensures.read c.in_default.ensures

pub formulas::or-members-init : goal.formulas::or-members-init
formulas::or-members-init t c = record {
  leads = rw (c.in_ok-push.ensures.ok, c.new-members.ensures, c.into_inner.ensures) (or_begun c.in_ok-first.ensures.read c.in-Some.ensures);
  begins = rw (c.in_ok-push.ensures.ok, c.new-members.ensures, c.into_inner.ensures, c.get.ensures) (begins_one _);
  shorter = omega (arith, c.in_ok-first.ensures.shorter, takes_shorter c.in-Some.ensures);
}

pub formulas::or-returns-in_err-member-clause-refused : goal.formulas::or-returns-in_err-member-clause-refused
formulas::or-returns-in_err-member-clause-refused t c = fails _ _ c.from_residual-in_err-member.ensures.1 (or_more_part1 c.members.invariant.leads c.in_err-member.ensures.refused)

pub formulas::or-returns-in_default-after-clause-read : goal.formulas::or-returns-in_default-after-clause-read
formulas::or-returns-in_default-after-clause-read t c = handed_both _ _ _ _ (rw (c.in_ok-push-2.ensures.ok, c.into_inner-in-members.ensures) at c.made.ensures.exact) c.made.ensures.behind (λ x f t. made_read f t (or_ends c.members.invariant.leads c.in_ok-member.ensures.read c.in_default-after.ensures c.members.invariant.begins))

pub formulas::or-returns-in_default-after-clause-refused : goal.formulas::or-returns-in_default-after-clause-refused
formulas::or-returns-in_default-after-clause-refused t c = handed_err _ _ _ c.made.ensures.failed (λ e h. memory h)

pub formulas::or-members-preserved : goal.formulas::or-members-preserved
formulas::or-members-preserved t c = record {
  leads = rw (c.in_ok-push-2.ensures.ok, c.into_inner-in-members.ensures) (or_more c.members.invariant.leads c.in_ok-member.ensures.read c.in-Some-after.ensures);
  begins = rw c.in_ok-push-2.ensures.ok (begins_more _ c.members.invariant.begins);
  shorter = omega (arith, c.members.invariant.shorter, c.in_ok-member.ensures.shorter, takes_shorter c.in-Some-after.ensures);
}

pub formulas::or-returns-in_default-clause-shorter : goal.formulas::or-returns-in_default-clause-shorter
formulas::or-returns-in_default-clause-shorter t c = c.in_ok-first.ensures.shorter

pub formulas::or-returns-in_err-push-clause-refused : goal.formulas::or-returns-in_err-push-clause-refused
formulas::or-returns-in_err-push-clause-refused t c = fails _ _ c.from_residual-in_err-push.ensures.1 (memory refl)

pub formulas::or-returns-in_err-push-2-clause-refused : goal.formulas::or-returns-in_err-push-2-clause-refused
formulas::or-returns-in_err-push-2-clause-refused t c = fails _ _ c.from_residual-in_err-push-2.ensures.1 (memory refl)

pub formulas::or-returns-in_default-after-clause-shorter : goal.formulas::or-returns-in_default-after-clause-shorter
formulas::or-returns-in_default-after-clause-shorter t c = handed_ok _ _ _ c.made.ensures.behind (λ x. same_shorter (then_shorter c.in_ok-member.ensures.shorter c.members.invariant.shorter))

pub terms::sum-returns-in_err-first-clause-refused : goal.terms::sum-returns-in_err-first-clause-refused
terms::sum-returns-in_err-first-clause-refused t c = fails _ _ c.from_residual.ensures.1 (sum_part1 c.in_err-first.ensures.refused)

pub terms::sum-returns-in_default-clause-read : goal.terms::sum-returns-in_default-clause-read
terms::sum-returns-in_default-clause-read t c = sum_one c.in_ok-first.ensures.read c.in_default.ensures

pub terms::sum-terms-init : goal.terms::sum-terms-init
terms::sum-terms-init t c = record {
  leads = rw c.new-later.ensures (sum_begun c.in_ok-first.ensures.read c.in-Some.ensures);
  shorter = omega (arith, c.in_ok-first.ensures.shorter, adds_shorter c.in-Some.ensures);
}

pub terms::sum-returns-in_err-term-clause-refused : goal.terms::sum-returns-in_err-term-clause-refused
terms::sum-returns-in_err-term-clause-refused t c = fails _ _ c.from_residual-in_err-term.ensures.1 (sum_more_part1 c.terms.invariant.leads c.in_err-term.ensures.refused)

pub terms::sum-returns-in_default-added-clause-read : goal.terms::sum-returns-in_default-added-clause-read
terms::sum-returns-in_default-added-clause-read t c = handed_both _ _ _ _ (rw (c.in_ok-push.ensures.ok, c.into_inner-term.ensures, c.get.ensures) at c.made.ensures.exact) c.made.ensures.behind (λ x f t. made_read f t (sum_ends c.terms.invariant.leads c.in_ok-term.ensures.read c.in_default-added.ensures))

pub terms::sum-returns-in_default-added-clause-refused : goal.terms::sum-returns-in_default-added-clause-refused
terms::sum-returns-in_default-added-clause-refused t c = handed_err _ _ _ c.made.ensures.failed (λ e h. memory h)

pub terms::sum-terms-preserved : goal.terms::sum-terms-preserved
terms::sum-terms-preserved t c = record {
  leads = rw (c.in_ok-push.ensures.ok, c.into_inner-term.ensures) (sum_more c.terms.invariant.leads c.in_ok-term.ensures.read c.in-Some-added.ensures);
  shorter = omega (arith, c.terms.invariant.shorter, c.in_ok-term.ensures.shorter, adds_shorter c.in-Some-added.ensures);
}

pub terms::sum-returns-in_default-clause-shorter : goal.terms::sum-returns-in_default-clause-shorter
terms::sum-returns-in_default-clause-shorter t c = c.in_ok-first.ensures.shorter

pub terms::sum-returns-in_err-push-clause-refused : goal.terms::sum-returns-in_err-push-clause-refused
terms::sum-returns-in_err-push-clause-refused t c = fails _ _ c.from_residual-in_err-push.ensures.1 (memory refl)

pub terms::sum-returns-in_default-added-clause-shorter : goal.terms::sum-returns-in_default-added-clause-shorter
terms::sum-returns-in_default-added-clause-shorter t c = handed_ok _ _ _ c.made.ensures.behind (λ x. same_shorter (then_shorter c.in_ok-term.ensures.shorter c.terms.invariant.shorter))

pub formulas::unary-returns-in_default-clause-read : goal.formulas::unary-returns-in_default-clause-read
formulas::unary-returns-in_default-clause-read t c = handed_ok _ _ _ c.rel.ensures.read (λ x r. unary_rel c.in_default.ensures r)

pub formulas::unary-returns-in_default-clause-refused : goal.formulas::unary-returns-in_default-clause-refused
formulas::unary-returns-in_default-clause-refused t c = handed_err _ _ _ c.rel.ensures.refused (λ e r. unary_part1 c.in_default.ensures r)

pub formulas::unary-returns-in_err-depth-in-Not-clause-refused : goal.formulas::unary-returns-in_err-depth-in-Not-clause-refused
formulas::unary-returns-in_err-depth-in-Not-clause-refused t c = fails _ _ c.from_residual.ensures.1 (not_no_room (rw c.in-Not.is at c.in-Some.ensures) c.in_err-depth-in-Not.ensures.failed)

pub formulas::unary-returns-in_err-operand-in-Not-clause-refused : goal.formulas::unary-returns-in_err-operand-in-Not-clause-refused
formulas::unary-returns-in_err-operand-in-Not-clause-refused t c = fails _ _ c.from_residual-in_err-operand-in-Not.ensures.1 (not_part1 (rw c.in-Not.is at c.in-Some.ensures) c.in_ok-depth-in-Not.ensures.found c.in_err-operand-in-Not.ensures.refused)

pub formulas::unary-returns-in_ok-operand-in-Not-clause-read : goal.formulas::unary-returns-in_ok-operand-in-Not-clause-read
formulas::unary-returns-in_ok-operand-in-Not-clause-read t c = handed_both _ _ _ _ c.made.ensures.exact c.made.ensures.behind (λ x f t. made_read f t (not_read (rw c.in-Not.is at c.in-Some.ensures) c.in_ok-depth-in-Not.ensures.found c.in_ok-operand-in-Not.ensures.read))

pub formulas::unary-returns-in_ok-operand-in-Not-clause-refused : goal.formulas::unary-returns-in_ok-operand-in-Not-clause-refused
formulas::unary-returns-in_ok-operand-in-Not-clause-refused t c = handed_err _ _ _ c.made.ensures.failed (λ e h. memory h)

pub formulas::unary-returns-in-Quantifier-clause-read : goal.formulas::unary-returns-in-Quantifier-clause-read
formulas::unary-returns-in-Quantifier-clause-read t c = handed_ok _ _ _ c.quantified.ensures.read (λ x r. quantifier_read (rw c.in-Quantifier.is at c.in-Some.ensures) r)

pub formulas::unary-returns-in-Quantifier-clause-refused : goal.formulas::unary-returns-in-Quantifier-clause-refused
formulas::unary-returns-in-Quantifier-clause-refused t c = handed_err _ _ _ c.quantified.ensures.refused (λ e r. quantifier_part1 (rw c.in-Quantifier.is at c.in-Some.ensures) r)

pub formulas::unary-returns-in_err-depth-in-Part-clause-refused : goal.formulas::unary-returns-in_err-depth-in-Part-clause-refused
formulas::unary-returns-in_err-depth-in-Part-clause-refused t c = fails _ _ c.from_residual-in_err-depth-in-Part.ensures.1 (part_no_room (rw c.in-Part.is at c.in-Some.ensures) c.in_err-depth-in-Part.ensures.failed)

pub formulas::unary-returns-in_ok-depth-in-Part-clause-read : goal.formulas::unary-returns-in_ok-depth-in-Part-clause-read
formulas::unary-returns-in_ok-depth-in-Part-clause-read t c = handed_ok _ _ _ c.part.ensures.read (λ x r. part_read (rw c.in-Part.is at c.in-Some.ensures) c.in_ok-depth-in-Part.ensures.found r)

pub formulas::unary-returns-in_ok-depth-in-Part-clause-refused : goal.formulas::unary-returns-in_ok-depth-in-Part-clause-refused
formulas::unary-returns-in_ok-depth-in-Part-clause-refused t c = handed_err _ _ _ c.part.ensures.refused (λ e r. part_part1 (rw c.in-Part.is at c.in-Some.ensures) c.in_ok-depth-in-Part.ensures.found r)

pub formulas::unary-returns-in_default-clause-shorter : goal.formulas::unary-returns-in_default-clause-shorter
formulas::unary-returns-in_default-clause-shorter t c = c.rel.ensures.shorter

pub formulas::unary-returns-in_ok-operand-in-Not-clause-shorter : goal.formulas::unary-returns-in_ok-operand-in-Not-clause-shorter
formulas::unary-returns-in_ok-operand-in-Not-clause-shorter t c = handed_ok _ _ _ c.made.ensures.behind (λ x. same_shorter (then_shorter c.in_ok-operand-in-Not.ensures.shorter (prefixes_shorter c.in-Some.ensures)))

pub formulas::unary-returns-in-Quantifier-clause-shorter : goal.formulas::unary-returns-in-Quantifier-clause-shorter
formulas::unary-returns-in-Quantifier-clause-shorter t c = handed_ok _ _ _ c.quantified.ensures.shorter (λ x r. then_shorter r (prefixes_shorter c.in-Some.ensures))

pub formulas::unary-returns-in_ok-depth-in-Part-clause-shorter : goal.formulas::unary-returns-in_ok-depth-in-Part-clause-shorter
formulas::unary-returns-in_ok-depth-in-Part-clause-shorter t c = handed_ok _ _ _ c.part.ensures.shorter (λ x r. then_shorter r (prefixes_shorter c.in-Some.ensures))

pub formulas::quantified-returns-in_err-names-clause-refused : goal.formulas::quantified-returns-in_err-names-clause-refused
formulas::quantified-returns-in_err-names-clause-refused t c = fails _ _ c.from_residual.ensures.1 (quantified_no_binder c.in_err-names.ensures.refused)

pub formulas::quantified-returns-in_err-scope-clause-refused : goal.formulas::quantified-returns-in_err-scope-clause-refused
formulas::quantified-returns-in_err-scope-clause-refused t c = fails _ _ c.from_residual-in_err-scope.ensures.1 (quantified_no_body c.in_ok-names.ensures.read c.in_err-scope.ensures.refused)

pub formulas::quantified-returns-clause-read : goal.formulas::quantified-returns-clause-read
formulas::quantified-returns-clause-read t c = handed_both _ _ _ _ c.made.ensures.exact c.made.ensures.behind (λ x f t. made_read f t (quantified_read c.in_ok-names.ensures.read c.in_ok-scope.ensures.read))

pub formulas::quantified-returns-clause-refused : goal.formulas::quantified-returns-clause-refused
formulas::quantified-returns-clause-refused t c = handed_err _ _ _ c.made.ensures.failed (λ e h. memory h)

pub formulas::quantified-returns-clause-shorter : goal.formulas::quantified-returns-clause-shorter
formulas::quantified-returns-clause-shorter t c = handed_ok _ _ _ c.made.ensures.behind (λ x. same_shorter (then_shorter c.in_ok-scope.ensures.shorter c.in_ok-names.ensures.shorter))

pub formulas::part-returns-in_err-inner-clause-refused : goal.formulas::part-returns-in_err-inner-clause-refused
formulas::part-returns-in_err-inner-clause-refused t c = fails _ _ c.from_residual.ensures.1 (part_name_no_bracket c.in_err-inner.ensures.failed)

pub formulas::part-returns-in_err-identifier-clause-refused : goal.formulas::part-returns-in_err-identifier-clause-refused
formulas::part-returns-in_err-identifier-clause-refused t c = fails _ _ c.from_residual-in_err-identifier.ensures.1 (part_name_no_part_name c.in_ok-inner.ensures.found c.in_err-identifier.ensures.failed)

pub formulas::part-returns-in_err-body-clause-refused : goal.formulas::part-returns-in_err-body-clause-refused
formulas::part-returns-in_err-body-clause-refused t c = fails _ _ c.from_residual-in_err-body.ensures.1 (part_name_no_bracket_close c.in_ok-inner.ensures.found c.in_ok-identifier.ensures.found c.in_err-body.ensures.failed)

pub formulas::part-returns-in_err-scope-clause-refused : goal.formulas::part-returns-in_err-scope-clause-refused
formulas::part-returns-in_err-scope-clause-refused t c = fails _ _ c.from_residual-in_err-scope.ensures.1 (part_name_part1 c.in_ok-inner.ensures.found c.in_ok-identifier.ensures.found c.in_ok-body.ensures.found c.in_err-scope.ensures.refused)

pub formulas::part-returns-clause-read : goal.formulas::part-returns-clause-read
formulas::part-returns-clause-read t c = handed_both _ _ _ _ (rw c.in_ok-name.ensures.exact at c.made.ensures.exact) c.made.ensures.behind (λ x f t. made_read f t (part_name_read c.in_ok-inner.ensures.found c.in_ok-identifier.ensures.found c.in_ok-body.ensures.found c.in_ok-scope.ensures.read))

pub formulas::part-returns-clause-refused : goal.formulas::part-returns-clause-refused
formulas::part-returns-clause-refused t c = handed_err _ _ _ c.made.ensures.failed (λ e h. memory h)

pub formulas::part-returns-in_err-name-clause-refused : goal.formulas::part-returns-in_err-name-clause-refused
formulas::part-returns-in_err-name-clause-refused t c = fails _ _ c.from_residual-in_err-name.ensures.1 (memory c.in_err-name.ensures.failed)

pub formulas::part-returns-clause-shorter : goal.formulas::part-returns-clause-shorter
formulas::part-returns-clause-shorter t c = handed_ok _ _ _ c.made.ensures.behind (λ x. same_shorter (then_shorter c.in_ok-scope.ensures.shorter (then_shorter (takes_shorter c.in_ok-body.ensures.found) (then_shorter (takes_shorter c.in_ok-identifier.ensures.found) (takes_shorter c.in_ok-inner.ensures.found)))))

pub terms::factor-returns-in_default-clause-refused : goal.terms::factor-returns-in_default-clause-refused
terms::factor-returns-in_default-clause-refused t c = rw c.refused.ensures (factor_refused c.in_default.ensures)

pub terms::factor-returns-in_err-depth-in-Minus-clause-refused : goal.terms::factor-returns-in_err-depth-in-Minus-clause-refused
terms::factor-returns-in_err-depth-in-Minus-clause-refused t c = fails _ _ c.from_residual.ensures.1 (minus_no_room (rw c.in-Minus.is at c.in-Some.ensures) c.in_err-depth-in-Minus.ensures.failed)

pub terms::factor-returns-in_err-operand-in-Minus-clause-refused : goal.terms::factor-returns-in_err-operand-in-Minus-clause-refused
terms::factor-returns-in_err-operand-in-Minus-clause-refused t c = fails _ _ c.from_residual-in_err-operand-in-Minus.ensures.1 (minus_part1 (rw c.in-Minus.is at c.in-Some.ensures) c.in_ok-depth-in-Minus.ensures.found c.in_err-operand-in-Minus.ensures.refused)

pub terms::factor-returns-in_ok-operand-in-Minus-clause-read : goal.terms::factor-returns-in_ok-operand-in-Minus-clause-read
terms::factor-returns-in_ok-operand-in-Minus-clause-read t c = handed_both _ _ _ _ c.made.ensures.exact c.made.ensures.behind (λ x f t. made_read f t (minus_read (rw c.in-Minus.is at c.in-Some.ensures) c.in_ok-depth-in-Minus.ensures.found c.in_ok-operand-in-Minus.ensures.read))

pub terms::factor-returns-in_ok-operand-in-Minus-clause-refused : goal.terms::factor-returns-in_ok-operand-in-Minus-clause-refused
terms::factor-returns-in_ok-operand-in-Minus-clause-refused t c = handed_err _ _ _ c.made.ensures.failed (λ e h. memory h)

pub terms::factor-returns-in_default-numeral-clause-refused : goal.terms::factor-returns-in_default-numeral-clause-refused
terms::factor-returns-in_default-numeral-clause-refused t c = number_refused (rw c.in-Number.is at c.in-Some.ensures) (rw c.spelling.ensures at c.in_default-numeral.ensures.exact)

pub terms::factor-returns-in-Some-numeral-clause-read : goal.terms::factor-returns-in-Some-numeral-clause-read
terms::factor-returns-in-Some-numeral-clause-read t c = let g : SFits w128 c.in-Some-numeral.value = search rules in handed_both _ _ _ _ (rw (to_z-of_z g) at c.made-in-Number.ensures.exact) c.made-in-Number.ensures.behind (λ x f t. made_read f t ((number_value {x = c.in-Some.first} (rw c.in-Number.is at c.in-Some.ensures) (rw c.spelling.ensures at c.in-Some-numeral.ensures.exact))))

pub terms::factor-returns-in-Some-numeral-clause-refused : goal.terms::factor-returns-in-Some-numeral-clause-refused
terms::factor-returns-in-Some-numeral-clause-refused t c = handed_err _ _ _ c.made-in-Number.ensures.failed (λ e h. memory h)

pub terms::factor-returns-in-Truth-clause-read : goal.terms::factor-returns-in-Truth-clause-read
terms::factor-returns-in-Truth-clause-read t c = handed_both _ _ _ _ c.made-in-Truth.ensures.exact c.made-in-Truth.ensures.behind (λ x f t. made_read f t (truth_read (rw c.in-Truth.is at c.in-Some.ensures)))

pub terms::factor-returns-in-Truth-clause-refused : goal.terms::factor-returns-in-Truth-clause-refused
terms::factor-returns-in-Truth-clause-refused t c = handed_err _ _ _ c.made-in-Truth.ensures.failed (λ e h. memory h)

pub terms::factor-returns-in_ok-name-in-Identifier-clause-read : goal.terms::factor-returns-in_ok-name-in-Identifier-clause-read
terms::factor-returns-in_ok-name-in-Identifier-clause-read t c = handed_ok _ _ _ c.application.ensures.read (λ x r. identifier_read (rw c.in-Identifier.is at c.in-Some.ensures) (rw c.in_ok-name-in-Identifier.ensures.exact at r))

pub terms::factor-returns-in_ok-name-in-Identifier-clause-refused : goal.terms::factor-returns-in_ok-name-in-Identifier-clause-refused
terms::factor-returns-in_ok-name-in-Identifier-clause-refused t c = handed_err _ _ _ c.application.ensures.refused (λ e r. identifier_part1 (rw c.in-Identifier.is at c.in-Some.ensures) (rw c.in_ok-name-in-Identifier.ensures.exact at r))

pub terms::factor-returns-in_err-operand-in-Parenthesis-clause-refused : goal.terms::factor-returns-in_err-operand-in-Parenthesis-clause-refused
terms::factor-returns-in_err-operand-in-Parenthesis-clause-refused t c = fails _ _ c.from_residual-in_err-operand-in-Parenthesis.ensures.1 (group_refused (rw c.in-Parenthesis.is at c.in-Some.ensures) c.in_err-operand-in-Parenthesis.ensures.refused)

pub terms::factor-returns-in_ok-operand-in-Parenthesis-clause-read : goal.terms::factor-returns-in_ok-operand-in-Parenthesis-clause-read
terms::factor-returns-in_ok-operand-in-Parenthesis-clause-read t c = handed_both _ _ _ _ c.made-in-Parenthesis.ensures.exact c.made-in-Parenthesis.ensures.behind (λ x f t. made_read f t (group_read (rw c.in-Parenthesis.is at c.in-Some.ensures) c.in_ok-operand-in-Parenthesis.ensures.read))

pub terms::factor-returns-in_ok-operand-in-Parenthesis-clause-refused : goal.terms::factor-returns-in_ok-operand-in-Parenthesis-clause-refused
terms::factor-returns-in_ok-operand-in-Parenthesis-clause-refused t c = handed_err _ _ _ c.made-in-Parenthesis.ensures.failed (λ e h. memory h)

pub terms::factor-returns-in-If-clause-read : goal.terms::factor-returns-in-If-clause-read
terms::factor-returns-in-If-clause-read t c = handed_ok _ _ _ c.conditional.ensures.read (λ x r. if_read (rw c.in-If.is at c.in-Some.ensures) r)

pub terms::factor-returns-in-If-clause-refused : goal.terms::factor-returns-in-If-clause-refused
terms::factor-returns-in-If-clause-refused t c = handed_err _ _ _ c.conditional.ensures.refused (λ e r. if_part1 (rw c.in-If.is at c.in-Some.ensures) r)

pub terms::factor-returns-in_err-operand-in-Abs-clause-refused : goal.terms::factor-returns-in_err-operand-in-Abs-clause-refused
terms::factor-returns-in_err-operand-in-Abs-clause-refused t c = fails _ _ c.from_residual-in_err-operand-in-Abs.ensures.1 (abs_part1 (rw c.in-Abs.is at c.in-Some.ensures) c.in_err-operand-in-Abs.ensures.refused)

pub terms::factor-returns-in_ok-operand-in-Abs-clause-read : goal.terms::factor-returns-in_ok-operand-in-Abs-clause-read
terms::factor-returns-in_ok-operand-in-Abs-clause-read t c = handed_both _ _ _ _ c.made-in-Abs.ensures.exact c.made-in-Abs.ensures.behind (λ x f t. made_read f t (abs_read (rw c.in-Abs.is at c.in-Some.ensures) c.in_ok-operand-in-Abs.ensures.read))

pub terms::factor-returns-in_ok-operand-in-Abs-clause-refused : goal.terms::factor-returns-in_ok-operand-in-Abs-clause-refused
terms::factor-returns-in_ok-operand-in-Abs-clause-refused t c = handed_err _ _ _ c.made-in-Abs.ensures.failed (λ e h. memory h)

pub terms::factor-returns-in-Pair-clause-read : goal.terms::factor-returns-in-Pair-clause-read
terms::factor-returns-in-Pair-clause-read t c = handed_ok _ _ _ c.pair.ensures.read (λ x r. pair_read (rw c.in-Pair.is at c.in-Some.ensures) r)

pub terms::factor-returns-in-Pair-clause-refused : goal.terms::factor-returns-in-Pair-clause-refused
terms::factor-returns-in-Pair-clause-refused t c = handed_err _ _ _ c.pair.ensures.refused (λ e r. pair_part1 (rw c.in-Pair.is at c.in-Some.ensures) r)

pub terms::factor-returns-in_ok-operand-in-Minus-clause-shorter : goal.terms::factor-returns-in_ok-operand-in-Minus-clause-shorter
terms::factor-returns-in_ok-operand-in-Minus-clause-shorter t c = handed_ok _ _ _ c.made.ensures.behind (λ x. same_shorter (then_shorter c.in_ok-operand-in-Minus.ensures.shorter (begins_shorter c.in-Some.ensures)))

pub terms::factor-returns-in-Some-numeral-clause-shorter : goal.terms::factor-returns-in-Some-numeral-clause-shorter
terms::factor-returns-in-Some-numeral-clause-shorter t c = handed_ok _ _ _ c.made-in-Number.ensures.behind (λ x. same_shorter (begins_shorter c.in-Some.ensures))

pub terms::factor-returns-in-Truth-clause-shorter : goal.terms::factor-returns-in-Truth-clause-shorter
terms::factor-returns-in-Truth-clause-shorter t c = handed_ok _ _ _ c.made-in-Truth.ensures.behind (λ x. same_shorter (begins_shorter c.in-Some.ensures))

pub terms::factor-returns-in_ok-operand-in-Parenthesis-clause-shorter : goal.terms::factor-returns-in_ok-operand-in-Parenthesis-clause-shorter
terms::factor-returns-in_ok-operand-in-Parenthesis-clause-shorter t c = handed_ok _ _ _ c.made-in-Parenthesis.ensures.behind (λ x. same_shorter c.in_ok-operand-in-Parenthesis.ensures.shorter)

pub terms::factor-returns-in_ok-operand-in-Abs-clause-shorter : goal.terms::factor-returns-in_ok-operand-in-Abs-clause-shorter
terms::factor-returns-in_ok-operand-in-Abs-clause-shorter t c = handed_ok _ _ _ c.made-in-Abs.ensures.behind (λ x. same_shorter (then_shorter c.in_ok-operand-in-Abs.ensures.shorter (begins_shorter c.in-Some.ensures)))

pub terms::factor-returns-in_err-name-in-Identifier-clause-refused : goal.terms::factor-returns-in_err-name-in-Identifier-clause-refused
terms::factor-returns-in_err-name-in-Identifier-clause-refused t c = fails _ _ c.from_residual-in_err-name-in-Identifier.ensures.1 (memory c.in_err-name-in-Identifier.ensures.failed)

pub terms::factor-returns-in_ok-name-in-Identifier-clause-shorter : goal.terms::factor-returns-in_ok-name-in-Identifier-clause-shorter
terms::factor-returns-in_ok-name-in-Identifier-clause-shorter t c = handed_ok _ _ _ c.application.ensures.shorter (λ x r. at_most_shorter r (begins_shorter c.in-Some.ensures))

pub terms::factor-returns-in-If-clause-shorter : goal.terms::factor-returns-in-If-clause-shorter
terms::factor-returns-in-If-clause-shorter t c = handed_ok _ _ _ c.conditional.ensures.shorter (λ x r. then_shorter r (begins_shorter c.in-Some.ensures))

pub terms::factor-returns-in-Pair-clause-shorter : goal.terms::factor-returns-in-Pair-clause-shorter
terms::factor-returns-in-Pair-clause-shorter t c = handed_ok _ _ _ c.pair.ensures.shorter (λ x r. then_shorter r (begins_shorter c.in-Some.ensures))

pub terms::application-returns-in_default-clause-read : goal.terms::application-returns-in_default-clause-read
terms::application-returns-in_default-clause-read t c = handed_both _ _ _ _ (rw c.new.ensures at c.made.ensures.exact) c.made.ensures.behind (λ x f t. made_read f t (name_bare c.in_default.ensures))

pub terms::application-returns-in_default-clause-refused : goal.terms::application-returns-in_default-clause-refused
terms::application-returns-in_default-clause-refused t c = handed_err _ _ _ c.made.ensures.failed (λ e h. memory h)

pub terms::application-returns-in_default-clause-shorter : goal.terms::application-returns-in_default-clause-shorter
terms::application-returns-in_default-clause-shorter t c = handed_ok _ _ _ c.made.ensures.behind (λ x. none_taken c.in_default.ensures)

pub terms::application-returns-in_err-depth-clause-refused : goal.terms::application-returns-in_err-depth-clause-refused
terms::application-returns-in_err-depth-clause-refused t c = fails _ _ c.from_residual.ensures.1 (name_no_room_name c.in-Some.ensures c.in_err-depth.ensures.failed)

pub terms::application-returns-in_default-after-clause-read : goal.terms::application-returns-in_default-after-clause-read
terms::application-returns-in_default-after-clause-read t c = handed_ok _ _ _ c.arguments.ensures.read (λ x r. name_all_applied c.in-Some.ensures c.in_ok-depth.ensures.found c.in_default-after.ensures r)

pub terms::application-returns-in_default-after-clause-refused : goal.terms::application-returns-in_default-after-clause-refused
terms::application-returns-in_default-after-clause-refused t c = handed_err _ _ _ c.arguments.ensures.refused (λ e r. name_all_part1 c.in-Some.ensures c.in_ok-depth.ensures.found c.in_default-after.ensures r)

pub terms::application-returns-clause-read : goal.terms::application-returns-clause-read
terms::application-returns-clause-read t c = handed_both _ _ _ _ (rw c.new-2.ensures at c.made-2.ensures.exact) c.made-2.ensures.behind (λ x f t. made_read f t (name_empty c.in-Some.ensures c.in_ok-depth.ensures.found c.in-Some-after.ensures))

pub terms::application-returns-clause-refused : goal.terms::application-returns-clause-refused
terms::application-returns-clause-refused t c = handed_err _ _ _ c.made-2.ensures.failed (λ e h. memory h)

pub terms::application-returns-in_default-after-clause-shorter : goal.terms::application-returns-in_default-after-clause-shorter
terms::application-returns-in_default-after-clause-shorter t c = handed_ok _ _ _ c.arguments.ensures.shorter (λ x r. less_at_most r (takes_shorter c.in-Some.ensures))

pub terms::application-returns-clause-shorter : goal.terms::application-returns-clause-shorter
terms::application-returns-clause-shorter t c = handed_ok _ _ _ c.made-2.ensures.behind (λ x. same_less (takes_shorter c.in-Some-after.ensures) (takes_shorter c.in-Some.ensures))

pub terms::arguments-returns-in_err-argument-clause-refused : goal.terms::arguments-returns-in_err-argument-clause-refused
terms::arguments-returns-in_err-argument-clause-refused t c = fails _ _ c.from_residual.ensures.1 (argument_part1 c.arguments.invariant.leads c.in_err-argument.ensures.refused)

pub terms::arguments-returns-in_err-behind-clause-refused : goal.terms::arguments-returns-in_err-behind-clause-refused
terms::arguments-returns-in_err-behind-clause-refused t c = fails _ _ c.from_residual-in_err-behind.ensures.1 (argument_refused c.arguments.invariant.leads c.in_ok-argument.ensures.read c.in_default.ensures c.in_err-behind.ensures.failed)

pub terms::arguments-returns-in_default-clause-read : goal.terms::arguments-returns-in_default-clause-read
terms::arguments-returns-in_default-clause-read t c = handed_both _ _ _ _ (rw (c.in_ok-push.ensures.ok, c.into_inner.ensures) at c.made.ensures.exact) c.made.ensures.behind (λ x f t. made_read f t (argument_ends c.arguments.invariant.leads c.in_ok-argument.ensures.read c.in_ok-behind.ensures.found))

pub terms::arguments-returns-in_default-clause-refused : goal.terms::arguments-returns-in_default-clause-refused
terms::arguments-returns-in_default-clause-refused t c = handed_err _ _ _ c.made.ensures.failed (λ e h. memory h)

pub terms::arguments-arguments-init : goal.terms::arguments-arguments-init
terms::arguments-arguments-init t c = record {
  leads = rw c.new-list.ensures (record { run = λ frames. refl });
  shorter = omega arith;
}

pub terms::arguments-arguments-preserved : goal.terms::arguments-arguments-preserved
terms::arguments-arguments-preserved t c = record {
  leads = rw (c.in_ok-push.ensures.ok, c.into_inner.ensures) (argument_more c.arguments.invariant.leads c.in_ok-argument.ensures.read c.in-Some.ensures);
  shorter = omega (arith, c.arguments.invariant.shorter, c.in_ok-argument.ensures.shorter, takes_shorter c.in-Some.ensures);
}

pub terms::arguments-returns-in_err-push-clause-refused : goal.terms::arguments-returns-in_err-push-clause-refused
terms::arguments-returns-in_err-push-clause-refused t c = fails _ _ c.from_residual-in_err-push.ensures.1 (memory refl)

pub terms::arguments-returns-in_default-clause-shorter : goal.terms::arguments-returns-in_default-clause-shorter
terms::arguments-returns-in_default-clause-shorter t c = handed_ok _ _ _ c.made.ensures.behind (λ x. same_shorter (shorter_at_most (then_shorter (takes_shorter c.in_ok-behind.ensures.found) c.in_ok-argument.ensures.shorter) c.arguments.invariant.shorter))

pub terms::conditional-returns-in_err-test-clause-refused : goal.terms::conditional-returns-in_err-test-clause-refused
terms::conditional-returns-in_err-test-clause-refused t c = fails _ _ c.from_residual.ensures.1 (conditional_part1 c.in_err-test.ensures.refused)

pub terms::conditional-returns-in_err-inner-clause-refused : goal.terms::conditional-returns-in_err-inner-clause-refused
terms::conditional-returns-in_err-inner-clause-refused t c = fails _ _ c.from_residual-in_err-inner.ensures.1 (conditional_no_then c.in_ok-test.ensures.read c.in_err-inner.ensures.failed)

pub terms::conditional-returns-in_err-yes-clause-refused : goal.terms::conditional-returns-in_err-yes-clause-refused
terms::conditional-returns-in_err-yes-clause-refused t c = fails _ _ c.from_residual-in_err-yes.ensures.1 (conditional_part2 c.in_ok-test.ensures.read c.in_ok-inner.ensures.found c.in_err-yes.ensures.refused)

pub terms::conditional-returns-in_err-inner-2-clause-refused : goal.terms::conditional-returns-in_err-inner-2-clause-refused
terms::conditional-returns-in_err-inner-2-clause-refused t c = fails _ _ c.from_residual-in_err-inner-2.ensures.1 (conditional_no_else c.in_ok-test.ensures.read c.in_ok-inner.ensures.found c.in_ok-yes.ensures.read c.in_err-inner-2.ensures.failed)

pub terms::conditional-returns-in_err-no-clause-refused : goal.terms::conditional-returns-in_err-no-clause-refused
terms::conditional-returns-in_err-no-clause-refused t c = fails _ _ c.from_residual-in_err-no.ensures.1 (conditional_part3 c.in_ok-test.ensures.read c.in_ok-inner.ensures.found c.in_ok-yes.ensures.read c.in_ok-inner-2.ensures.found c.in_err-no.ensures.refused)

pub terms::conditional-returns-clause-read : goal.terms::conditional-returns-clause-read
terms::conditional-returns-clause-read t c = handed_both _ _ _ _ c.made.ensures.exact c.made.ensures.behind (λ x f t. made_read f t (conditional_read c.in_ok-test.ensures.read c.in_ok-inner.ensures.found c.in_ok-yes.ensures.read c.in_ok-inner-2.ensures.found c.in_ok-no.ensures.read))

pub terms::conditional-returns-clause-refused : goal.terms::conditional-returns-clause-refused
terms::conditional-returns-clause-refused t c = handed_err _ _ _ c.made.ensures.failed (λ e h. memory h)

pub terms::conditional-returns-clause-shorter : goal.terms::conditional-returns-clause-shorter
terms::conditional-returns-clause-shorter t c = handed_ok _ _ _ c.made.ensures.behind (λ x. same_shorter (then_shorter c.in_ok-no.ensures.shorter (then_shorter (takes_shorter c.in_ok-inner-2.ensures.found) (then_shorter c.in_ok-yes.ensures.shorter (then_shorter (takes_shorter c.in_ok-inner.ensures.found) c.in_ok-test.ensures.shorter)))))

pub terms::pair-returns-in_err-open-clause-refused : goal.terms::pair-returns-in_err-open-clause-refused
terms::pair-returns-in_err-open-clause-refused t c = fails _ _ c.from_residual.ensures.1 (both_no_pair_open c.in_err-open.ensures.failed)

pub terms::pair-returns-in_err-depth-clause-refused : goal.terms::pair-returns-in_err-depth-clause-refused
terms::pair-returns-in_err-depth-clause-refused t c = fails _ _ c.from_residual-in_err-depth.ensures.1 (both_no_room_pair_open c.in_ok-open.ensures.found c.in_err-depth.ensures.failed)

pub terms::pair-returns-in_err-first-clause-refused : goal.terms::pair-returns-in_err-first-clause-refused
terms::pair-returns-in_err-first-clause-refused t c = fails _ _ c.from_residual-in_err-first.ensures.1 (both_part1 c.in_ok-open.ensures.found c.in_ok-depth.ensures.found c.in_err-first.ensures.refused)

pub terms::pair-returns-in_err-inner-clause-refused : goal.terms::pair-returns-in_err-inner-clause-refused
terms::pair-returns-in_err-inner-clause-refused t c = fails _ _ c.from_residual-in_err-inner.ensures.1 (both_no_left c.in_ok-open.ensures.found c.in_ok-depth.ensures.found c.in_ok-first.ensures.read c.in_err-inner.ensures.failed)

pub terms::pair-returns-in_err-second-clause-refused : goal.terms::pair-returns-in_err-second-clause-refused
terms::pair-returns-in_err-second-clause-refused t c = fails _ _ c.from_residual-in_err-second.ensures.1 (both_part2 c.in_ok-open.ensures.found c.in_ok-depth.ensures.found c.in_ok-first.ensures.read c.in_ok-inner.ensures.found c.in_err-second.ensures.refused)

pub terms::pair-returns-in_err-behind-clause-refused : goal.terms::pair-returns-in_err-behind-clause-refused
terms::pair-returns-in_err-behind-clause-refused t c = fails _ _ c.from_residual-in_err-behind.ensures.1 (both_no_pair_close c.in_ok-open.ensures.found c.in_ok-depth.ensures.found c.in_ok-first.ensures.read c.in_ok-inner.ensures.found c.in_ok-second.ensures.read c.in_err-behind.ensures.failed)

pub terms::pair-returns-clause-read : goal.terms::pair-returns-clause-read
terms::pair-returns-clause-read t c = handed_both _ _ _ _ (rw (c.pair_form-form.ensures c.args.at) at c.made.ensures.exact) c.made.ensures.behind (λ x f t. made_read f t (both_read c.in_ok-open.ensures.found c.in_ok-depth.ensures.found c.in_ok-first.ensures.read c.in_ok-inner.ensures.found c.in_ok-second.ensures.read c.in_ok-behind.ensures.found))

pub terms::pair-returns-clause-refused : goal.terms::pair-returns-clause-refused
terms::pair-returns-clause-refused t c = handed_err _ _ _ c.made.ensures.failed (λ e h. memory h)

pub terms::pair-returns-clause-shorter : goal.terms::pair-returns-clause-shorter
terms::pair-returns-clause-shorter t c = handed_ok _ _ _ c.made.ensures.behind (λ x. same_shorter (then_shorter (takes_shorter c.in_ok-behind.ensures.found) (then_shorter c.in_ok-second.ensures.shorter (then_shorter (takes_shorter c.in_ok-inner.ensures.found) (then_shorter c.in_ok-first.ensures.shorter (takes_shorter c.in_ok-open.ensures.found))))))

pub terms::parenthesis-returns-in_err-open-clause-refused : goal.terms::parenthesis-returns-in_err-open-clause-refused
terms::parenthesis-returns-in_err-open-clause-refused t c = fails _ _ c.from_residual.ensures.1 (parenthesis_no_open c.in_err-open.ensures.failed)

pub terms::parenthesis-returns-in_err-depth-clause-refused : goal.terms::parenthesis-returns-in_err-depth-clause-refused
terms::parenthesis-returns-in_err-depth-clause-refused t c = fails _ _ c.from_residual-in_err-depth.ensures.1 (parenthesis_no_room_open c.in_ok-open.ensures.found c.in_err-depth.ensures.failed)

pub terms::parenthesis-returns-in_err-operand-clause-refused : goal.terms::parenthesis-returns-in_err-operand-clause-refused
terms::parenthesis-returns-in_err-operand-clause-refused t c = fails _ _ c.from_residual-in_err-operand.ensures.1 (parenthesis_part1 c.in_ok-open.ensures.found c.in_ok-depth.ensures.found c.in_err-operand.ensures.refused)

pub terms::parenthesis-returns-in_err-rest-clause-refused : goal.terms::parenthesis-returns-in_err-rest-clause-refused
terms::parenthesis-returns-in_err-rest-clause-refused t c = fails _ _ c.from_residual-in_err-rest.ensures.1 (parenthesis_no_close c.in_ok-open.ensures.found c.in_ok-depth.ensures.found c.in_ok-operand.ensures.read c.in_err-rest.ensures.failed)

pub terms::parenthesis-returns-clause-read : goal.terms::parenthesis-returns-clause-read
terms::parenthesis-returns-clause-read t c = parenthesis_read c.in_ok-open.ensures.found c.in_ok-depth.ensures.found c.in_ok-operand.ensures.read c.in_ok-rest.ensures.found

pub terms::parenthesis-returns-clause-shorter : goal.terms::parenthesis-returns-clause-shorter
terms::parenthesis-returns-clause-shorter t c = omega (arith, takes_shorter c.in_ok-open.ensures.found, c.in_ok-operand.ensures.shorter, takes_shorter c.in_ok-rest.ensures.found)
