-- Components of two formulas.
use Rattle.std.proofs.Common.{◌≡◌, ◌||◌, List, ◌++◌}
use Rattle.std.specs.List.{list_any}
use Rattle.std.proofs.lemmas.List.Folds.{list_any-append}
use Rattle.pri_typing.specs.Problems.{is_plainly_true}
use Rattle.pri_typing.specs.WellFormed.{SignedFormula}

pub plainly_both : (xs ys : List SignedFormula) → list_any is_plainly_true (xs ++ ys) ≡ (list_any is_plainly_true xs || list_any is_plainly_true ys)
plainly_both = list_any-append is_plainly_true
