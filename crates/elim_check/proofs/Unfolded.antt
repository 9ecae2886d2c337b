-- The elimination of a formula by a log, by those of its parts: the bound on the depth does not matter.
use Rattle.std.proofs.Common.{◌≡◌, ◌<◌, ◌≤◌, ◌+◌, ℕ, zero, suc, List, [], ◌∷◌, drop, Option, Some, None, refl, sym, ◌∙◌, ap, subst, arith}
use Rattle.base_budget.specs.Trace.{Traced, just, next, pay}
use Rattle.base_budget.specs.declared.log.Entry.{Entry}
use Rattle.base_budget.proofs.Tracing.{next-same}
use Rattle.clause_set.specs.declared.literal.Literal.{Literal}
use Rattle.clause_set.specs.Dnfs.{conjunction, disjunction, negation, top}
use Rattle.formula.specs.declared.calculus.Core.{Core}
use Rattle.formula.specs.Form as tree
use Rattle.formula.specs.Form.{Form, Forms, IsFormOver}
use Rattle.formula.specs.Sizes.{size, depth, depths}
use Rattle.formula.specs.Duals.{dual}
use Rattle.formula.specs.Tree.{form, forms_of}
use Rattle.elim_laws.specs.Logs.{Rest, rest, Reader, reads_none, go_on, read_next, all_by_log, any_by_log, by_log, name_by_log, Yields}
use Rattle.elim_laws.specs.Presburger.{IsPresburger}
use Rattle.elim_laws.specs.Whole.{AreOver, IsExact}
use Rattle.elim_laws.proofs.Accepted.{log_exact}
use Rattle.elim_laws.proofs.LogOver.{log_over}
use Rattle.elim_laws.proofs.Duals.{dual-depth}
use Rattle.elim_check.specs.Reading.{reading}

-- readers that do the same with every log
abbrev pub Same : {A : Type 0} → Reader A → Reader A → Type 0
Same m p = (log : List Entry) → m log ≡ p log

go_on-same : {A B : Type 0} (f g : A → Reader B) → ((a : A) → Same (f a) (g a)) → (o : Option (Rest A)) → go_on f o ≡ go_on g o
go_on-same f g h None = refl
go_on-same f g h (Some r) = h r.value r.log

next_same : {A B : Type 0} (m p : Reader A) (f g : A → Reader B) → Same m p → ((a : A) → Same (f a) (g a)) → Same (read_next m f) (read_next p g)
next_same m p f g h k log = ap (λ w. next w (go_on f)) (h log) ∙ next-same (p log) (go_on f) (go_on g) (go_on-same f g k (p log).value)

-- after work that reads no entry, the value of that work alone matters
quiet_same : {A B : Type 0} (w : Traced A) (f g : A → Reader B) → Same (f w.value) (g w.value) → Same (read_next (reads_none w) f) (read_next (reads_none w) g)
unfolding next just
quiet_same w f g h log = next-same (next w (λ a. just (Some (rest a log)))) (go_on f) (go_on g) (h log)

module _ (f g : Form → Reader (List (List Literal))) (m : ℕ) (same : (h : Form) → depth h < m → Same (f h) (g h)) where
  all_same : (hs : Forms) (d : List (List Literal)) → depths hs < m → Same (all_by_log f hs d) (all_by_log g hs d)
  all_same tree.no_form d lt = λ log. refl
  all_same (tree.and_form h hs) d lt =
      next_same (f h) (g h) _ _ (same h (omega (arith, lt))) (λ c. quiet_same (conjunction d c) (all_by_log f hs) (all_by_log g hs) (all_same hs (conjunction d c).value (omega (arith, lt))))

  any_same : (hs : Forms) (d : List (List Literal)) → depths hs < m → Same (any_by_log f hs d) (any_by_log g hs d)
  any_same tree.no_form d lt = λ log. refl
  any_same (tree.and_form h hs) d lt =
      next_same (f h) (g h) _ _ (same h (omega (arith, lt))) (λ c. quiet_same (disjunction d c) (any_by_log f hs) (any_by_log g hs) (any_same hs (disjunction d c).value (omega (arith, lt))))

either_bound : (m k n : ℕ) → ((h : Form) → depth h < m → depth h < k → Same (by_log m n h) (by_log k n h)) → (b : ℕ) → b ≤ m → b ≤ k → (h : Form) → depth h < b → Same (by_log m n h) (by_log k n h)
either_bound m k n f b le lf h lt = f h (omega (arith, le, lt)) (omega (arith, lf, lt))

by_log-same : (m k n : ℕ) (f : Form) → depth f < m → depth f < k → Same (by_log m n f) (by_log k n f)
by_log-same zero k n f lt le = absurd (omega (arith, lt))
by_log-same (suc m) zero n f lt le = absurd (omega (arith, le))
by_log-same (suc m) (suc k) n (tree.equal t) lt le = λ log. refl
by_log-same (suc m) (suc k) n (tree.at_least t) lt le = λ log. refl
by_log-same (suc m) (suc k) n (tree.unequal t) lt le = λ log. refl
by_log-same (suc m) (suc k) n (tree.holds q ts) lt le = λ log. refl
by_log-same (suc m) (suc k) n (tree.fails q ts) lt le = λ log. refl
by_log-same (suc m) (suc k) n (tree.differs q ts u) lt le = λ log. refl
by_log-same (suc m) (suc k) n (tree.conjunction fs) lt le =
    all_same (by_log m n) (by_log k n) (suc (depths fs)) (either_bound m k n (by_log-same m k n) (suc (depths fs)) (omega (arith, lt)) (omega (arith, le))) fs top (omega arith)
by_log-same (suc m) (suc k) n (tree.disjunction fs) lt le =
    any_same (by_log m n) (by_log k n) (suc (depths fs)) (either_bound m k n (by_log-same m k n) (suc (depths fs)) (omega (arith, lt)) (omega (arith, le))) fs [] (omega arith)
by_log-same (suc m) (suc k) n (tree.existential f) lt le =
    next_same (by_log m (suc n) f) (by_log k (suc n) f) (name_by_log n) (name_by_log n) (by_log-same m k (suc n) f (omega (arith, lt)) (omega (arith, le))) (λ d log. refl)
by_log-same (suc m) (suc k) n (tree.universal f) lt le =
    let same = dual-depth f in
    let out : List (List Literal) → Reader (List (List Literal)) = (λ d. read_next (name_by_log n d) (λ c. reads_none (negation c))) in
    quiet_same (pay (size f)) (λ _. read_next (reads_none (dual f)) (λ g. read_next (by_log m (suc n) g) out)) (λ _. read_next (reads_none (dual f)) (λ g. read_next (by_log k (suc n) g) out))
    (quiet_same (dual f) (λ g. read_next (by_log m (suc n) g) out) (λ g. read_next (by_log k (suc n) g) out)
    (next_same (by_log m (suc n) (dual f).value) (by_log k (suc n) (dual f).value) out out (by_log-same m k (suc n) (dual f).value (omega (arith, lt, same)) (omega (arith, le, same))) (λ d log. refl)))

-- ---- a formula by its parts
same_below : (n k : ℕ) (h : Form) → depth h < k → Same (by_log k n h) (reading n h)
unfolding reading
same_below n k h lt = by_log-same k (suc (depth h)) n h lt (omega arith)

pub by_all : (n : ℕ) (fs : Forms) → Same (reading n (tree.conjunction fs)) (all_by_log (reading n) fs top)
unfolding reading
by_all n fs = all_same (by_log (1 + depths fs) n) (reading n) (1 + depths fs) (λ h lt. same_below n (1 + depths fs) h lt) fs top (omega arith)

pub by_any : (n : ℕ) (fs : Forms) → Same (reading n (tree.disjunction fs)) (any_by_log (reading n) fs [])
unfolding reading
by_any n fs = any_same (by_log (1 + depths fs) n) (reading n) (1 + depths fs) (λ h lt. same_below n (1 + depths fs) h lt) fs [] (omega arith)

same_names : (n k : ℕ) (h : Form) → n ≡ k → Same (reading n h) (reading k h)
same_names n k h is log = ap (λ j. reading j h log) is

pub by_some : (n : ℕ) (f : Form) → Same (reading n (tree.existential f)) (read_next (reading (n + 1) f) (name_by_log n))
unfolding reading
by_some n f =
    next_same (by_log (1 + depth f) (suc n) f) (reading (n + 1) f) (name_by_log n) (name_by_log n)
    (λ log. same_below (suc n) (1 + depth f) f (omega arith) log ∙ same_names (suc n) (n + 1) f (omega arith) log) (λ d log. refl)

-- what comes after the charge and the dual of a for-all's body
abbrev pub after_dual : ℕ → Form → Reader (List (List Literal))
after_dual n g = read_next (reading (n + 1) g) (λ d. read_next (name_by_log n d) (λ c. reads_none (negation c)))

pub by_every : (n : ℕ) (f : Form) → Same (reading n (tree.universal f)) (read_next (reads_none (pay (size f))) (λ _. read_next (reads_none (dual f)) (after_dual n)))
unfolding reading
by_every n f =
    let same = dual-depth f in
    let out : List (List Literal) → Reader (List (List Literal)) = (λ d. read_next (name_by_log n d) (λ c. reads_none (negation c))) in
    quiet_same (pay (size f)) (λ _. read_next (reads_none (dual f)) (λ g. read_next (by_log (1 + depth f) (suc n) g) out)) (λ _. read_next (reads_none (dual f)) (after_dual n))
    (quiet_same (dual f) (λ g. read_next (by_log (1 + depth f) (suc n) g) out) (after_dual n)
    (next_same (by_log (1 + depth f) (suc n) (dual f).value) (reading (n + 1) (dual f).value) out out
    (λ log. same_below (suc n) (1 + depth f) (dual f).value (omega (arith, same)) log ∙ same_names (suc n) (n + 1) (dual f).value (omega arith) log) (λ d log. refl)))

-- ---- depths
depths-drop : (i : ℕ) (fs : List Core) → depths (forms_of (drop i fs)) ≤ depths (forms_of fs)
depths-drop zero fs = omega arith
depths-drop (suc i) [] = omega arith
depths-drop (suc i) (f ∷ fs) = let r = depths-drop i fs in omega (arith, r)

-- a member is at most as deep as the deepest
pub member_depth : (fs : List Core) (i : ℕ) (f : Core) (gs : List Core) → drop i fs ≡ f ∷ gs → depth (form f) ≤ depths (forms_of fs)
member_depth fs i f gs is =
    let first : depth (form f) ≤ depths (forms_of (drop i fs)) = subst (λ z. depth (form f) ≤ depths (forms_of z)) (sym is) (omega arith) in
    let all = depths-drop i fs in
    omega (arith, first, all)

-- any log that is accepted gives an exact disjunction
pub reading_yields : (n : ℕ) (f : Form) → IsPresburger f → Yields (reading n f) (λ d. IsExact d f n)
unfolding reading
reading_yields n f p = log_exact (suc (depth f)) n f (omega arith) p

-- over the names of the formula
pub reading_over : (n : ℕ) (f : Form) → IsPresburger f → IsFormOver n f → Yields (reading n f) (AreOver n)
unfolding reading
reading_over n f p o = log_over (suc (depth f)) n f (omega arith) p o
