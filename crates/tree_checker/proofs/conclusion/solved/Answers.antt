use Rattle.std.proofs.Common.{◌≡◌, ◌∙◌, ◌&&◌, nat_eq, Bool, true, false, length, refl, sym}
use Rattle.std.specs.List.{list_all}
use Rattle.linear_term.specs.Range.{is_in_range}
use Rattle.tree_checker.proofs.Concluding.{not_both, solved_no}
use Rattle.tree_checker.proofs.conclusion.solved.Goals as goal
use Rattle.tree_checker.proofs.conclusion.solved.Goals.{then-vs-constants-via-then-vs-constants, then-vs-constants-via-else-vs-constants+then-not-are_in_range}

second_false : (a b : Bool) → b ≡ false → (a && b) ≡ false
second_false true b h = h
second_false false b h = refl

pub returns-then-vs-constants : goal.returns-then-vs-constants
returns-then-vs-constants c = λ f p b n. solved_no (nat_eq (length c.args.vs.now) c.args.constants && list_all is_in_range c.args.vs.now) _ b n
    (elim c.then-vs-constants.branch [
      | then-vs-constants-via-then-vs-constants w ↦ not_both (length c.args.vs.now) c.args.constants (list_all is_in_range c.args.vs.now) w.if-vs-constants.true
      | then-vs-constants-via-else-vs-constants+then-not-are_in_range w ↦ second_false (nat_eq (length c.args.vs.now) c.args.constants) (list_all is_in_range c.args.vs.now) (sym w.are_in_range.ensures ∙ w.if-not-are_in_range.true)
    ])
