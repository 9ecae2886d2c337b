use Rattle.std.proofs.Common.{◌∙◌, sym, ap}
use Rattle.base_texts.specs.Texts.{is_text}
use Rattle.smt_terms.specs.Evaluation.{names_of}
use Rattle.smt_terms.specs.Term.{bindings_of}
use Rattle.smt_typing.specs.Bounds.{last_of}
use Rattle.smt_typing.proofs.Walking.{last_hit, last_missed, last_short}
use Rattle.smt_typing.proofs.bound.last_sort.Goals as goal
use Rattle.smt_typing.proofs.bound.last_sort.Goals.{then-i-sorts+then-eq, else-i-sorts, else-i-sorts-via-then-i-sorts+else-eq, else-i-sorts-via-else-i-sorts}

pub loop-i-preserved : goal.loop-i-preserved
loop-i-preserved c =
    let x = c.args.text.now in
    let bs = c.args.bindings.now in
    let ss = c.args.sorts.now in
    let whole = last_of x c.args.outside (names_of (bindings_of bs)) ss in
    elim c.if-i-sorts.branch [
      | then-i-sorts+then-eq w ↦ rw w.hit-is (last_hit x c.loop-i.hit bs ss c.loop-i.i w.index-bindings-i.result _ whole c.loop-i-test.true w.if-i-sorts.true
          (sym (w.if-eq.ensures ∙ ap (is_text x) w.as_slice.ensures)) c.loop-i.invariant)
      | else-i-sorts w ↦ elim w.else-i-sorts.branch [
        | else-i-sorts-via-then-i-sorts+else-eq w' ↦ rw w.hit-is (last_missed x c.loop-i.hit bs ss c.loop-i.i w'.index-bindings-i.result whole c.loop-i-test.true w'.if-i-sorts.true
            (sym (w'.if-eq.ensures ∙ ap (is_text x) w'.as_slice.ensures)) c.loop-i.invariant)
        | else-i-sorts-via-else-i-sorts w' ↦ rw w.hit-is (last_short x c.loop-i.hit bs ss c.loop-i.i whole w'.if-i-sorts.false c.loop-i.invariant)
      ]
    ]
