-- Conjunctions and disjunctions of one formula.
use Rattle.std.proofs.Common.{◌≡◌, ◌≢◌, ◌<◌, ℕ, suc, List, [], ◌∷◌, length, Option, Some, None, refl, sym, ap, ◌∙◌, subst, arith}
use Rattle.std.specs.Borrow.{Bor}
use Rattle.std.specs.List.{slice_get}
use Rattle.std.specs.Option.{option_copied}
use Rattle.formula.specs.Form.{Form, conjunction, disjunction}
use Rattle.formula.specs.Sizes.{size}
use Rattle.formula.specs.Tree.{form, forms_of}
use Rattle.formula.specs.declared.calculus.Core.{Core}
use Rattle.clause_proof.specs.Atoms.{inner_form}
use Rattle.clause_checker.specs.Prices.{atom_price, literal_price, IsGround, IsLevelAbove}

first_alone : (fs : List Core) (o : Option (Bor Core)) (b : Bor Core) → length fs ≡ 1 → option_copied o ≡ slice_get fs 0 → o ≡ Some b → fs ≡ b.now ∷ []
first_alone [] o b len is at = absurd (cc)
first_alone (f ∷ []) o b len is at = let same : Some f ≡ Some b.now = sym is ∙ ap option_copied at in let one : f ≡ b.now = cc in ap (λ x. x ∷ []) one
first_alone (f ∷ h ∷ fs) o b len is at = absurd (omega (arith, len))

first_there : (fs : List Core) (o : Option (Bor Core)) → option_copied o ≡ slice_get fs 0 → o ≡ None → length fs ≡ 1 → ⊥
first_there [] o is at len = absurd (cc)
first_there (f ∷ fs) o is at len = let bad : Some f ≡ None = sym is ∙ ap option_copied at in absurd (cc)

pub all_single : (f : Form) (fs : List Core) (o : Option (Bor Core)) (b : Bor Core) → f ≡ conjunction (forms_of fs) → length fs ≡ 1 → option_copied o ≡ slice_get fs 0 → o ≡ Some b → inner_form f ≡ inner_form (form b.now)
all_single f fs o b is len at some = ap inner_form is ∙ ap (λ l. inner_form (conjunction (forms_of l))) (first_alone fs o b len at some)

pub any_single : (f : Form) (fs : List Core) (o : Option (Bor Core)) (b : Bor Core) → f ≡ disjunction (forms_of fs) → length fs ≡ 1 → option_copied o ≡ slice_get fs 0 → o ≡ Some b → inner_form f ≡ inner_form (form b.now)
any_single f fs o b is len at some = ap inner_form is ∙ ap (λ l. inner_form (disjunction (forms_of l))) (first_alone fs o b len at some)

pub all_many : (f : Form) (fs : List Core) → f ≡ conjunction (forms_of fs) → length fs ≢ 1 → inner_form f ≡ f
all_many f fs is n = ap inner_form is ∙ go fs n ∙ sym is
  where
    go : (fs : List Core) → length fs ≢ 1 → inner_form (conjunction (forms_of fs)) ≡ conjunction (forms_of fs)
    go [] n = refl
    go (g ∷ []) n = absurd (n refl)
    go (g ∷ h ∷ fs) n = refl

pub any_many : (f : Form) (fs : List Core) → f ≡ disjunction (forms_of fs) → length fs ≢ 1 → inner_form f ≡ f
any_many f fs is n = ap inner_form is ∙ go fs n ∙ sym is
  where
    go : (fs : List Core) → length fs ≢ 1 → inner_form (disjunction (forms_of fs)) ≡ disjunction (forms_of fs)
    go [] n = refl
    go (g ∷ []) n = absurd (n refl)
    go (g ∷ h ∷ fs) n = refl

pub one_lacks : (f : Form) (fs : List Core) (o : Option (Bor Core)) → length fs ≡ 1 → option_copied o ≡ slice_get fs 0 → o ≡ None → inner_form f ≡ f
one_lacks f fs o len is at = absurd (first_there fs o is at len)

-- the formula inside is smaller
pub all_smaller : (f : Form) (fs : List Core) (o : Option (Bor Core)) (b : Bor Core) → f ≡ conjunction (forms_of fs) → length fs ≡ 1 → option_copied o ≡ slice_get fs 0 → o ≡ Some b → size (form b.now) < size f
all_smaller f fs o b is len at some =
    let same : f ≡ conjunction (forms_of (b.now ∷ [])) = is ∙ ap (λ l. conjunction (forms_of l)) (first_alone fs o b len at some) in
    subst (λ g. size (form b.now) < size g) (sym same) (omega arith)

pub any_smaller : (f : Form) (fs : List Core) (o : Option (Bor Core)) (b : Bor Core) → f ≡ disjunction (forms_of fs) → length fs ≡ 1 → option_copied o ≡ slice_get fs 0 → o ≡ Some b → size (form b.now) < size f
any_smaller f fs o b is len at some =
    let same : f ≡ disjunction (forms_of (b.now ∷ [])) = is ∙ ap (λ l. disjunction (forms_of l)) (first_alone fs o b len at some) in
    subst (λ g. size (form b.now) < size g) (sym same) (omega arith)

-- ---- what it costs
pub all_level : (f : Form) (fs : List Core) (o : Option (Bor Core)) (b : Bor Core) → f ≡ conjunction (forms_of fs) → length fs ≡ 1 → option_copied o ≡ slice_get fs 0 → o ≡ Some b → IsLevelAbove f (form b.now)
all_level f fs o b is len at some = record { is = λ ws. ap (literal_price ws) is ∙ ap (λ l. literal_price ws (conjunction (forms_of l))) (first_alone fs o b len at some) }

pub any_level : (f : Form) (fs : List Core) (o : Option (Bor Core)) (b : Bor Core) → f ≡ disjunction (forms_of fs) → length fs ≡ 1 → option_copied o ≡ slice_get fs 0 → o ≡ Some b → IsLevelAbove f (form b.now)
any_level f fs o b is len at some = record { is = λ ws. ap (literal_price ws) is ∙ ap (λ l. literal_price ws (disjunction (forms_of l))) (first_alone fs o b len at some) }

pub all_ground : (f : Form) (fs : List Core) → f ≡ conjunction (forms_of fs) → length fs ≢ 1 → IsGround f
all_ground f fs is n = record { is = λ ws. ap (literal_price ws) is ∙ go fs n ws ∙ ap (λ g. suc (atom_price ws g)) (sym is) }
  where
    go : (fs : List Core) → length fs ≢ 1 → (ws : List ℕ) → literal_price ws (conjunction (forms_of fs)) ≡ suc (atom_price ws (conjunction (forms_of fs)))
    go [] n ws = refl
    go (g ∷ []) n ws = absurd (n refl)
    go (g ∷ h ∷ fs) n ws = refl

pub any_ground : (f : Form) (fs : List Core) → f ≡ disjunction (forms_of fs) → length fs ≢ 1 → IsGround f
any_ground f fs is n = record { is = λ ws. ap (literal_price ws) is ∙ go fs n ws ∙ ap (λ g. suc (atom_price ws g)) (sym is) }
  where
    go : (fs : List Core) → length fs ≢ 1 → (ws : List ℕ) → literal_price ws (disjunction (forms_of fs)) ≡ suc (atom_price ws (disjunction (forms_of fs)))
    go [] n ws = refl
    go (g ∷ []) n ws = absurd (n refl)
    go (g ∷ h ∷ fs) n ws = refl

pub ground_lacks : (f : Form) (fs : List Core) (o : Option (Bor Core)) → length fs ≡ 1 → option_copied o ≡ slice_get fs 0 → o ≡ None → IsGround f
ground_lacks f fs o len is at = absurd (first_there fs o is at len)

-- an atom, and a quantifier
pub atom_ground : (f g : Form) → f ≡ g → ((ws : List ℕ) → literal_price ws g ≡ suc (atom_price ws g)) → IsGround f
atom_ground f g is h = record { is = λ ws. subst (λ k. literal_price ws k ≡ suc (atom_price ws k)) (sym is) (h ws) }

pub ruleset alls = (all_single, all_smaller, all_many, one_lacks, all_level, all_ground, ground_lacks)

pub ruleset anys = (any_single, any_smaller, any_many, one_lacks, any_level, any_ground, ground_lacks)
