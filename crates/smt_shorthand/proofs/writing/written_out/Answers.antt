use Rattle.std.proofs.Common.{◌≡◌, ◌+◌, ◌∙◌, false, true, ap, sym, subst, map, refl}
use Rattle.std.specs.List.{list_any}
use Rattle.smt_lists.specs.Expressions.{expr}
use Rattle.smt_shorthand.specs.Functions.{functions_written_out}
use Rattle.smt_shorthand.specs.Writing.{is_short, written_out}
use Rattle.smt_shorthand.proofs.Ranges.{AreRanged}
use Rattle.smt_shorthand.proofs.FunctionRanges.{written_ranged}
use Rattle.smt_shorthand.proofs.Narrow.{AllNarrow, each_wider, written_narrow}
use Rattle.smt_shorthand.proofs.Plain.{not_both, plain_is}
use Rattle.smt_shorthand.proofs.writing.written_out.Goals as goal

pub returns-then-not-some_is_short : goal.returns-then-not-some_is_short
returns-then-not-some_is_short c =
    let none : list_any is_short (map expr c.args.lists) ≡ false = sym (c.some_is_short.ensures ∙ ap (λ z. list_any is_short (map expr z)) c.as_slice.ensures) ∙ c.if-not-some_is_short.true in
    record {
      exact = sym (plain_is (map expr c.args.lists) none);
      same = λ h. refl;
      ranged = λ h. h;
      narrow = λ n h. each_wider n (map expr c.args.lists) h;
    }

pub returns : goal.returns
returns c =
    let is : map expr c.in_ok-out.out ≡ written_out (map expr c.args.lists) = c.in_ok-out.ensures ∙ ap functions_written_out c.in_ok-resolved.ensures in
    let some : list_any is_short (map expr c.args.lists) ≡ true = sym (c.some_is_short.ensures ∙ ap (λ z. list_any is_short (map expr z)) c.as_slice.ensures) ∙ c.if-not-some_is_short.false in
    record {
      exact = is;
      same = λ h. absurd (not_both (list_any is_short (map expr c.args.lists)) some h);
      ranged = λ h. subst AreRanged (sym is) (written_ranged (map expr c.args.lists) h);
      narrow = λ n h. subst (AllNarrow (n + 4)) (sym is) (written_narrow n (map expr c.args.lists) h);
    }
