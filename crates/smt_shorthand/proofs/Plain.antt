-- A script in which no command is short for others.
use Rattle.std.proofs.Common.{◌≡◌, ◌||◌, Bool, true, false, List, [], ◌∷◌, refl, ap, ◌∙◌, if◌then◌else◌}
use Rattle.std.specs.List.{list_any}
use Rattle.smt_lists.specs.Expressions.{Expr}
use Rattle.smt_shorthand.specs.Table.{no_sorts}
use Rattle.smt_shorthand.specs.Defining.{commands_from, defines_sort}
use Rattle.smt_shorthand.specs.Functions.{defines_function, functions_written_out, written_from}
use Rattle.smt_shorthand.specs.Writing.{is_short, written_out}

neither : (a b : Bool) → (a || b) ≡ false → (a ≡ false) × (b ≡ false)
neither false false e = (refl, refl)
neither false true e = absurd (cc)
neither true b e = absurd (cc)

none_is : (es : List Expr) → list_any is_short es ≡ false → (list_any defines_sort es ≡ false) × (list_any defines_function es ≡ false)
none_is [] e = (refl, refl)
none_is (x ∷ es) e =
    let here = neither (defines_sort x || defines_function x) (list_any is_short es) e in
    let both = neither (defines_sort x) (defines_function x) here.0 in
    let later = none_is es here.1 in
    (ap (λ z. z || list_any defines_sort es) both.0 ∙ later.0, ap (λ z. z || list_any defines_function es) both.1 ∙ later.1)

pub plain_is : (es : List Expr) → list_any is_short es ≡ false → written_out es ≡ es
plain_is es e =
    let none = none_is es e in
    ap functions_written_out (ap (λ z. if z then commands_from no_sorts es else es) none.0) ∙ ap (λ z. if z then written_from es else es) none.1

pub not_both : (b : Bool) → b ≡ true → b ≡ false → ⊥
not_both true e f = cc
not_both false e f = cc
