use Rattle.pri_printer.proofs.term.put_term.Goals as goal
use Rattle.std.proofs.Common.{sym, ap, ◌∙◌, ◌++◌, cond, [], ◌∷◌}
use Rattle.std.specs.Prelude.{OnOk, Result, Ok, Err}
use Rattle.pri_printer.specs.Printed.{constants_of}
use Rattle.pri_printer.proofs.TermTexts.{joined_term}

on_ok : {T E A B : Type 0} (r : Result T E) → (A → B) → OnOk r A → OnOk r B
on_ok (Ok x) f a = f a
on_ok (Err x) f a = tt

pub returns : goal.returns
returns c =
    on_ok c.put_constant.result
    (λ h. joined_term (constants_of c.args.p.now) c.args.t.now c.in-Some.first.now c.in-Some.more.now _ _ _ _ _
    (sym c.pairs.ensures ∙ c.in-Some.ensures.cases.0) (c.in_ok-put_minus.ensures ∙ ap (λ b. c.args.out.now.items ++ cond b (45 ∷ []) []) c.is_subtracted.ensures) c.in_ok-put_pair.ensures c.in_ok-put_pairs.ensures h)
    c.put_constant.ensures
