-- The elimination of a formula of the code by a log, from the calls for its parts.
use Rattle.std.proofs.Common.{◌≡◌, ◌≤◌, ◌+◌, ℕ, List, [], ◌∷◌, length, Result, Ok, Err, IsErrAnd, refl, sym, ◌∙◌, ap, subst}
use Rattle.linear_term.specs.Linear.{Linear}
use Rattle.linear_term.specs.declared.range.TermFault.{TermFault}
use Rattle.base_budget.specs.declared.fault.StepFault.{StepFault}
use Rattle.base_budget.specs.declared.log.Entry.{Entry}
use Rattle.base_budget.specs.Trace.{Funds, at, just, pay}
use Rattle.base_budget.specs.Work.{Charged, step_fault_of}
use Rattle.base_budget.proofs.Charging.{then_just, worked_value}
use Rattle.clause_set.specs.declared.literal.Literal.{Literal}
use Rattle.clause_set.specs.declared.literal.Literal.TheVariants.{Eq, Geq}
use Rattle.clause_set.specs.Clauses.{clauses_of}
use Rattle.clause_set.specs.Dnfs.{top}
use Rattle.formula.specs.declared.calculus.Core.{Core}
use Rattle.formula.specs.declared.calculus.Core.TheVariants as c
use Rattle.formula.specs.Form as tree
use Rattle.formula.specs.Form.{Form}
use Rattle.formula.specs.Sizes.{size, depth}
use Rattle.formula.specs.Duals.{dual}
use Rattle.formula.specs.Made.{Made}
use Rattle.formula.specs.Tree.{form, forms_of}
use Rattle.formula.proofs.Building.{form-Eq, form-Neq, form-Geq, form-Pred, form-NotPred, form-NotFun, form-And, form-Or, form-Forall, form-Exists}
use Rattle.elim_laws.specs.Logs.{Reader, reads_none, read_next, all_by_log, any_by_log, name_by_log}
use Rattle.elim_laws.specs.Whole.{paid, two_sides}
use Rattle.elim_laws.proofs.Duals.{dual-depth}
use Rattle.elim_check.specs.declared.fault.Stop.{Stop}
use Rattle.elim_check.specs.declared.fault.Stop.TheVariants as stop
use Rattle.elim_check.specs.Reading.{ReadAt, reading}
use Rattle.elim_check.proofs.Chained.{read_ok, read_err, quiet_ok, quiet_stopped, read_as}
use Rattle.elim_check.proofs.Unfolded.{Same, by_all, by_any, by_some, by_every, after_dual}

module _ (n : ℕ) (f : Core) {log : List Entry} {i j : ℕ} {a b : Funds} {r : Result (List (List Literal)) Stop} where
  -- by the formula's tree
  by_tree : (g : Form) (m : Reader (List (List Literal))) → form f ≡ g → Same (reading n g) m → ReadAt m log i a r j b → ReadAt (reading n (form f)) log i a r j b
  by_tree g m is same h = subst (λ z. ReadAt (reading n z) log i a r j b) (sym is) (read_as (reading n g) m same h)

  pub arm_Eq : (t u : Linear) → f ≡ c.Eq t → u ≡ t → ReadAt (reads_none (paid u (just (clauses_of ((Eq u ∷ []) ∷ []))))) log i a r j b → ReadAt (reading n (form f)) log i a r j b
  unfolding reading
  arm_Eq t u is same h = by_tree (tree.equal u) _ (ap form is ∙ form-Eq t ∙ ap tree.equal (sym same)) (λ ks. refl) h

  pub arm_Geq : (t u : Linear) → f ≡ c.Geq t → u ≡ t → ReadAt (reads_none (paid u (just (clauses_of ((Geq u ∷ []) ∷ []))))) log i a r j b → ReadAt (reading n (form f)) log i a r j b
  unfolding reading
  arm_Geq t u is same h = by_tree (tree.at_least u) _ (ap form is ∙ form-Geq t ∙ ap tree.at_least (sym same)) (λ ks. refl) h

  pub arm_Neq : (t : Linear) → f ≡ c.Neq t → ReadAt (reads_none (paid t (two_sides t))) log i a r j b → ReadAt (reading n (form f)) log i a r j b
  unfolding reading
  arm_Neq t is h = by_tree (tree.unequal t) _ (ap form is ∙ form-Neq t) (λ ks. refl) h

  pub arm_And : (fs gs : List Core) → f ≡ c.And fs → gs ≡ fs → ReadAt (all_by_log (reading n) (forms_of gs) top) log i a r j b → ReadAt (reading n (form f)) log i a r j b
  arm_And fs gs is same h = by_tree (tree.conjunction (forms_of gs)) _ (ap form is ∙ form-And fs ∙ ap (λ z. tree.conjunction (forms_of z)) (sym same)) (by_all n (forms_of gs)) h

  pub arm_Or : (fs gs : List Core) → f ≡ c.Or fs → gs ≡ fs → ReadAt (any_by_log (reading n) (forms_of gs) []) log i a r j b → ReadAt (reading n (form f)) log i a r j b
  arm_Or fs gs is same h = by_tree (tree.disjunction (forms_of gs)) _ (ap form is ∙ form-Or fs ∙ ap (λ z. tree.disjunction (forms_of z)) (sym same)) (by_any n (forms_of gs)) h

  pub arm_Forall : (g h : Core) → f ≡ c.Forall g → h ≡ g → ReadAt (reading n (tree.universal (form h))) log i a r j b → ReadAt (reading n (form f)) log i a r j b
  arm_Forall g h is same k = by_tree (tree.universal (form h)) (reading n (tree.universal (form h))) (ap form is ∙ form-Forall g ∙ ap (λ z. tree.universal (form z)) (sym same)) (λ ks. refl) k

  pub arm_Exists : (g h : Core) → f ≡ c.Exists g → h ≡ g → ReadAt (reading n (tree.existential (form h))) log i a r j b → ReadAt (reading n (form f)) log i a r j b
  arm_Exists g h is same k = by_tree (tree.existential (form h)) (reading n (tree.existential (form h))) (ap form is ∙ form-Exists g ∙ ap (λ z. tree.existential (form z)) (sym same)) (λ ks. refl) k

-- parts with predicates and functions count as false
module _ (n : ℕ) (f : Core) {log : List Entry} {i : ℕ} {a : Funds} (d : List (List Literal)) (within : i ≤ length log) (is_bottom : d ≡ []) where
  pub arm_Pred : (p : ℕ) (ts : List Linear) → f ≡ c.Pred p ts → ReadAt (reading n (form f)) log i a (Ok d) i a
  unfolding reading
  arm_Pred p ts is = by_tree n f (tree.holds p ts) _ (ap form is ∙ form-Pred p ts) (λ ks. refl) (quiet_ok (just []) within (then_just [] d is_bottom))

  pub arm_NotPred : (p : ℕ) (ts : List Linear) → f ≡ c.NotPred p ts → ReadAt (reading n (form f)) log i a (Ok d) i a
  unfolding reading
  arm_NotPred p ts is = by_tree n f (tree.fails p ts) _ (ap form is ∙ form-NotPred p ts) (λ ks. refl) (quiet_ok (just []) within (then_just [] d is_bottom))

  pub arm_NotFun : (p : ℕ) (ts : List Linear) (u : Linear) → f ≡ c.NotFun p ts u → ReadAt (reading n (form f)) log i a (Ok d) i a
  unfolding reading
  arm_NotFun p ts u is = by_tree n f (tree.differs p ts u) _ (ap form is ∙ form-NotFun p ts u) (λ ks. refl) (quiet_ok (just []) within (then_just [] d is_bottom))

-- ---- some value
module _ (n : ℕ) (f : Form) {log : List Entry} {i j : ℕ} {a b : Funds} where
  pub some_ok : {d : List (List Literal)} {l : ℕ} {e : Funds} {r : Result (List (List Literal)) Stop} → ReadAt (reading (n + 1) f) log i a (Ok d) j b → ReadAt (name_by_log n d) log j b r l e → ReadAt (reading n (tree.existential f)) log i a r l e
  some_ok h rest = read_as _ _ (by_some n f) (read_ok (reading (n + 1) f) (name_by_log n) h rest)

  pub some_err : {s : Stop} (r : Result (List (List Literal)) Stop) → ReadAt (reading (n + 1) f) log i a (Err s) j b → IsErrAnd r (λ z. z ≡ s) → ReadAt (reading n (tree.existential f)) log i a r j b
  some_err r h is = read_as _ _ (by_some n f) (read_err (reading (n + 1) f) (name_by_log n) r h is)

-- ---- every value
module _ (n : ℕ) (f : Form) {log : List Entry} {i : ℕ} {a b : Funds} (within : i ≤ length log) where
  pub every_refused : {e : StepFault} (r : Result (List (List Literal)) Stop) → Charged (pay (size f)) a (Err e) b → IsErrAnd r (λ z. z ≡ stop.Step e) → ReadAt (reading n (tree.universal f)) log i a r i b
  every_refused r refused is = read_as _ _ (by_every n f) (quiet_stopped (pay (size f)) (λ _. read_next (reads_none (dual f)) (after_dual n)) r within refused is)

  -- after the charge and the negation that a call made, or could not make
  pub every_ok : {g : Core} {l : ℕ} {k : Funds} {r : Result (List (List Literal)) Stop} → Charged (pay (size f)) a (Ok tt) b → Made form (dual f) (Ok g) → ReadAt (after_dual n (form g)) log i b r l k
      → ReadAt (reading n (tree.universal f)) log i a r l k
  every_ok paid made rest =
      read_as _ _ (by_every n f) (read_ok (reads_none (pay (size f))) (λ _. read_next (reads_none (dual f)) (after_dual n)) (quiet_ok (pay (size f)) within paid)
      (read_ok (reads_none (dual f)) (after_dual n) (quiet_ok (dual f) within (made.works.each (at b []))) rest))

  pub every_err : {e : TermFault} (r : Result (List (List Literal)) Stop) → Charged (pay (size f)) a (Ok tt) b → Made form (dual f) (Err e) → IsErrAnd r (λ z. z ≡ stop.Step (step_fault_of e))
      → ReadAt (reading n (tree.universal f)) log i a r i b
  every_err r paid made is =
      read_as _ _ (by_every n f) (read_ok (reads_none (pay (size f))) (λ _. read_next (reads_none (dual f)) (after_dual n)) (quiet_ok (pay (size f)) within paid)
      (quiet_stopped (dual f) (after_dual n) r within (made.works.each (at b [])) is))

-- the negation is as deep as the formula
pub dual_deep : (f : Form) (g : Core) → Made form (dual f) (Ok g) → depth (form g) ≡ depth f
dual_deep f g made = ap depth (worked_value made.works) ∙ dual-depth f
