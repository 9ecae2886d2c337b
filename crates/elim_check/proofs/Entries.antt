-- The rules by their entries.
use Rattle.std.proofs.Common.{◌≡◌, ℕ, true, List, Result}
use Rattle.base_budget.specs.declared.fault.StepFault.{StepFault}
use Rattle.base_budget.specs.declared.log.Entry.TheVariants.{OneSided, Exact, Dark}
use Rattle.base_budget.specs.Trace.{Funds}
use Rattle.base_budget.specs.Work.{Charged}
use Rattle.clause_set.specs.declared.literal.Literal.{Literal}
use Rattle.clause_set.specs.Rules.{applies, rule, is_two_sided}
use Rattle.clause_set.specs.Shadows.{one_sided, exact, dark}

pub two_sided : (x : ℕ) (c : List Literal) → applies x c Dark ≡ true → is_two_sided x c ≡ true
unfolding applies
two_sided x c h = h

module _ (x : ℕ) (c : List Literal) {f g : Funds} {r : Result (List (List Literal)) StepFault} where
  pub one_sided_done : Charged (one_sided x c) f r g → Charged (rule x c OneSided) f r g
  unfolding rule
  one_sided_done h = h

  pub exact_done : Charged (exact x c) f r g → Charged (rule x c Exact) f r g
  unfolding rule
  exact_done h = h

  pub dark_done : Charged (dark x c) f r g → Charged (rule x c Dark) f r g
  unfolding rule
  dark_done h = h

pub ruleset entries = (two_sided, one_sided_done, exact_done, dark_done)
