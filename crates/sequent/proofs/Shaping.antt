-- Which rule a conjunction is the principal of.
use Rattle.std.proofs.Common.{◌≡◌, List, [], ◌∷◌, Some, refl}
use Rattle.sequent.specs.declared.member.Shape.TheVariants.{Trivial, Beta}
use Rattle.formula.specs.declared.calculus.Core.{Core}
use Rattle.formula.specs.Form.{conjunction}
use Rattle.formula.specs.Tree.{forms_of}
use Rattle.sequent.specs.Rules.{shape}
use Rattle.formula.proofs.Building.{formed}

pub shape-none : (fs : List Core) → fs ≡ [] → shape (conjunction (forms_of fs)) ≡ Some Trivial
shape-none [] h = refl
shape-none (f ∷ fs) h = absurd (cc)

pub shape-some : (fs : List Core) → ¬ (fs ≡ []) → shape (conjunction (forms_of fs)) ≡ Some Beta
shape-some [] h = absurd (h refl)
shape-some (f ∷ fs) h = refl

pub ruleset shaped = (formed, shape-none, shape-some)
