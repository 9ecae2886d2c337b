-- Atoms, and what is known of them.
use Rattle.std.proofs.Common.{◌≡◌, ℕ, ℤ, pos, ◌≤ℤ◌, ◌<ℤ◌, ◌+ℤ◌, Bool, true, false, List, [], ◌∷◌, length, refl, sym, ap, ◌∙◌, subst, arith}
use Rattle.std.proofs.lemmas.Int.{ints}
use Rattle.linear_term.specs.Linear.{Linear, value_of, total, value_at}
use Rattle.form_typed.specs.Truth.{Meaning}
use Rattle.formula.specs.Form.{Form, FormTruth, equal, unequal, at_least, conjunction, disjunction, no_form}
use Rattle.formula.specs.declared.calculus.Core.{Core}
use Rattle.formula.specs.declared.calculus.Core.TheVariants as c
use Rattle.formula.specs.Tree.{form}
use Rattle.formula.proofs.Building.{form-Eq, form-Neq, form-Geq, form-And, form-Or}
use Rattle.model_formulas.specs.Expansions.{Tells}

pub tells_as : (g h : Form) (P : List ℤ → Type 0) → g ≡ h → Tells h P → Tells g P
tells_as g h P is t = subst (λ z. Tells z P) (sym is) t

pub tells_iff : (g : Form) (P Q : List ℤ → Type 0) → ((e : List ℤ) → P e → Q e) → ((e : List ℤ) → Q e → P e) → Tells g P → Tells g Q
tells_iff g P Q to fro t = record { pure = t.pure; there = λ w e h. to e (t.there w e h); back = λ w e h. t.back w e (fro e h) }

true_tells : Tells (conjunction no_form) (λ e. true ≡ true)
true_tells = record { pure = refl; there = λ w e h. refl; back = λ w e h. tt }

false_tells : Tells (disjunction no_form) (λ e. false ≡ true)
false_tells = record { pure = refl; there = λ w e h. absurd (h tt); back = λ w e h. absurd (let z : false ≡ true = h in cc) }

pub truth_yes : (b : Bool) (fs : List Core) → b ≡ true → fs ≡ [] → Tells (form (c.And fs)) (λ e. b ≡ true)
truth_yes b fs is none =
    tells_as (form (c.And fs)) (conjunction no_form) (λ e. b ≡ true) (ap (λ l. form (c.And l)) none ∙ form-And [])
    (tells_iff (conjunction no_form) (λ e. true ≡ true) (λ e. b ≡ true) (λ e h. is) (λ e h. refl) true_tells)

pub truth_no : (b : Bool) (fs : List Core) → b ≡ false → fs ≡ [] → Tells (form (c.Or fs)) (λ e. b ≡ true)
truth_no b fs is none =
    tells_as (form (c.Or fs)) (disjunction no_form) (λ e. b ≡ true) (ap (λ l. form (c.Or l)) none ∙ form-Or [])
    (tells_iff (disjunction no_form) (λ e. false ≡ true) (λ e. b ≡ true) (λ e h. absurd (let z : false ≡ true = h in cc)) (λ e h. sym is ∙ h) false_tells)

pub ruleset truths = (truth_yes, truth_no)

-- a term without names is its constant
plain_value : (t : Linear) (e : List ℤ) → length t.pairs ≡ 0 → value_of t e ≡ t.constant
unfolding value_of
plain_value t e h = by t.pairs h
  where
    by : (ps : List (ℕ × ℤ)) → length ps ≡ 0 → total (value_at e) ps +ℤ t.constant ≡ t.constant
    by [] z = omega (arith, ints)
    by (p ∷ ps) z = absurd (omega (arith, z))

pub constant_value : (t : Linear) (k : ℤ) (n : ℕ) → n ≡ length t.pairs → n ≡ 0 → k ≡ t.constant → (e : List ℤ) → value_of t e ≡ k
constant_value t k n is none same e = plain_value t e (sym is ∙ none) ∙ sym same

pub ruleset constants = (constant_value)

-- ---- equations
pub eq_open : (t : Linear) → Tells (form (c.Eq t)) (λ e. value_of t e ≡ pos 0)
eq_open t = tells_as (form (c.Eq t)) (equal t) (λ e. value_of t e ≡ pos 0) (form-Eq t) (record { pure = refl; there = λ w e h. h; back = λ w e h. h })

pub eq_true : (g : Form) (t : Linear) (k : ℤ) → ((e : List ℤ) → value_of t e ≡ k) → k ≡ pos 0 → Tells g (λ e. true ≡ true) → Tells g (λ e. value_of t e ≡ pos 0)
eq_true g t k is zero_is = tells_iff g (λ e. true ≡ true) (λ e. value_of t e ≡ pos 0) (λ e h. is e ∙ zero_is) (λ e h. refl)

pub eq_false : (g : Form) (t : Linear) (k : ℤ) → ((e : List ℤ) → value_of t e ≡ k) → ¬ (k ≡ pos 0) → Tells g (λ e. false ≡ true) → Tells g (λ e. value_of t e ≡ pos 0)
eq_false g t k is other = tells_iff g (λ e. false ≡ true) (λ e. value_of t e ≡ pos 0) (λ e h. absurd (let z : false ≡ true = h in cc)) (λ e h. absurd (other (sym (is e) ∙ h)))

pub ruleset equations = (eq_open, eq_true, eq_false)

-- ---- their negations
pub neq_open : (t : Linear) → Tells (form (c.Neq t)) (λ e. ¬ (value_of t e ≡ pos 0))
neq_open t = tells_as (form (c.Neq t)) (unequal t) (λ e. ¬ (value_of t e ≡ pos 0)) (form-Neq t) (record { pure = refl; there = λ w e h. h; back = λ w e h. h })

pub neq_true : (g : Form) (t : Linear) (k : ℤ) → ((e : List ℤ) → value_of t e ≡ k) → ¬ (k ≡ pos 0) → Tells g (λ e. true ≡ true) → Tells g (λ e. ¬ (value_of t e ≡ pos 0))
neq_true g t k is other = tells_iff g (λ e. true ≡ true) (λ e. ¬ (value_of t e ≡ pos 0)) (λ e h z. other (sym (is e) ∙ z)) (λ e h. refl)

pub neq_false : (g : Form) (t : Linear) (k : ℤ) → ((e : List ℤ) → value_of t e ≡ k) → k ≡ pos 0 → Tells g (λ e. false ≡ true) → Tells g (λ e. ¬ (value_of t e ≡ pos 0))
neq_false g t k is zero_is = tells_iff g (λ e. false ≡ true) (λ e. ¬ (value_of t e ≡ pos 0)) (λ e h. absurd (let z : false ≡ true = h in cc)) (λ e h. absurd (h (is e ∙ zero_is)))

pub ruleset inequations = (neq_open, neq_true, neq_false)

-- ---- inequalities
pub geq_open : (t : Linear) → Tells (form (c.Geq t)) (λ e. pos 0 ≤ℤ value_of t e)
geq_open t = tells_as (form (c.Geq t)) (at_least t) (λ e. pos 0 ≤ℤ value_of t e) (form-Geq t) (record { pure = refl; there = λ w e h. h; back = λ w e h. h })

pub geq_true : (g : Form) (t : Linear) (k : ℤ) → ((e : List ℤ) → value_of t e ≡ k) → pos 0 ≤ℤ k → Tells g (λ e. true ≡ true) → Tells g (λ e. pos 0 ≤ℤ value_of t e)
geq_true g t k is most = tells_iff g (λ e. true ≡ true) (λ e. pos 0 ≤ℤ value_of t e) (λ e h. subst (λ z. pos 0 ≤ℤ z) (sym (is e)) most) (λ e h. refl)

pub geq_false : (g : Form) (t : Linear) (k : ℤ) → ((e : List ℤ) → value_of t e ≡ k) → k <ℤ pos 0 → Tells g (λ e. false ≡ true) → Tells g (λ e. pos 0 ≤ℤ value_of t e)
geq_false g t k is less = tells_iff g (λ e. false ≡ true) (λ e. pos 0 ≤ℤ value_of t e) (λ e h. absurd (let z : false ≡ true = h in cc)) (λ e h. absurd (let z : pos 0 ≤ℤ k = subst (λ z. pos 0 ≤ℤ z) (is e) h in omega (arith, ints)))

pub ruleset inequalities = (geq_open, geq_true, geq_false)
