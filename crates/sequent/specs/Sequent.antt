-- Sequents: members with the number of names that each is over, and a count of constants.
use Rattle.std.specs.Prelude.{ℕ, ◌≤◌, ℤ, List, take}
use Rattle.std.specs.List.{AllByRecursion}
use Rattle.form_typed.specs.Truth.{Meaning}
use Rattle.formula.specs.Form.{Form, FormTruth, IsFormOver}

-- a formula over the first constants of a sequent, and how often the rule for `some` was used on it
pub record Member : Type 0 where
  pub formula : Form
  pub over : ℕ
  pub used : ℕ

pub record Sequent : Type 0 where
  pub members : List Member
  pub count : ℕ

abbrev pub member : Form → ℕ → ℕ → Member
member f n k = record { formula = f; over = n; used = k }

abbrev pub sequent : List Member → ℕ → Sequent
sequent ms n = record { members = ms; count = n }

-- the member is true at the first of the integers, as many as it is over
abbrev pub IsMemberTrue : Meaning → List ℤ → Member → Type 0
IsMemberTrue w e m = FormTruth w m.formula (take m.over e)

-- every member is false
abbrev pub AreFalse : Meaning → List ℤ → List Member → Type 0
AreFalse w e ms = AllByRecursion (λ m. ¬ (IsMemberTrue w e m)) ms

-- some member is true
abbrev pub SequentTruth : Meaning → Sequent → List ℤ → Type 0
SequentTruth w s e = ¬ (AreFalse w e s.members)

-- the member is over at most n names, and its formula over as many as it says
pub record IsMember (n : ℕ) (m : Member) : Type 0 where
  pub within : m.over ≤ n
  pub formed : IsFormOver m.over m.formula

abbrev pub IsFormedSequent : Sequent → Type 0
IsFormedSequent s = AllByRecursion (IsMember s.count) s.members
