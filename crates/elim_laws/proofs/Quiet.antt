-- Work that notes nothing.
use Rattle.std.proofs.Common.{◌≡◌, ℕ, ℤ, pos, Bool, true, false, cond, List, [], ◌∷◌, ◌++◌, Option, Some, None, refl, ◌∙◌, ap}
use Rattle.std.specs.Prelude.{slice_get, remove}
use Rattle.linear_term.specs.declared.range.Place.{Place}
use Rattle.linear_term.specs.Linear.{Linear, coef_of}
use Rattle.base_budget.specs.declared.log.Entry.{Entry}
use Rattle.base_budget.specs.declared.log.Entry.TheVariants.{Equation, Apart, Merge, Shift, OneSided, Exact, Dark}
use Rattle.base_budget.specs.Trace.{Event, charge, raw, mark, entry, new_log, round, enter, back, Traced, just, step, next, pay, each, combining}
use Rattle.base_budget.specs.Runs.{notes}
use Rattle.clause_set.specs.declared.literal.Literal.{Literal}
use Rattle.clause_set.specs.declared.literal.Literal.TheVariants.{Eq, Geq, Div, NDiv}
use Rattle.clause_set.specs.Names.{has, coefficient, remainder}
use Rattle.clause_set.specs.Bezout.{Bezout, bezout}
use Rattle.clause_set.specs.Dnfs.{tidying, conjunction, disjunction, negated_literal, negated_clauses, negation, top}
use Rattle.clause_set.specs.Equations.{solved, equation_at, equation}
use Rattle.clause_set.specs.Divisibilities.{apart_at, apart, merge_with, merge_at, merge, merged, shifted, shift_at, shift}
use Rattle.clause_set.specs.Shadows.{one_sided, exact, dark, dark_with, exact_pair, dark_pair, splinters, uppers, greatest_factor}
use Rattle.clause_set.specs.Rules.{rule}
use Rattle.formula.specs.Form as tree
use Rattle.formula.specs.Form.{Form, Forms}
use Rattle.formula.specs.Duals.{dual, duals}
use Rattle.elim_laws.specs.Logs.{entries_of, IsQuiet}

pub entries-append : (xs ys : List Event) → entries_of (xs ++ ys) ≡ entries_of xs ++ entries_of ys
entries-append [] ys = refl
entries-append (charge n ∷ xs) ys = entries-append xs ys
entries-append (raw ps ∷ xs) ys = entries-append xs ys
entries-append (mark (entry e) ∷ xs) ys = ap (λ z. e ∷ z) (entries-append xs ys)
entries-append (mark new_log ∷ xs) ys = entries-append xs ys
entries-append (mark (round k) ∷ xs) ys = entries-append xs ys
entries-append (mark (enter k) ∷ xs) ys = entries-append xs ys
entries-append (mark (back k) ∷ xs) ys = entries-append xs ys

pub entries-next : {A B : Type 0} (m : Traced A) (f : A → Traced B) → entries_of (next m f).events ≡ entries_of m.events ++ entries_of (f m.value).events
unfolding next
entries-next m f = entries-append m.events (f m.value).events

pub notes-append : (xs ys : List Event) → notes (xs ++ ys) ≡ notes xs ++ notes ys
notes-append [] ys = refl
notes-append (charge n ∷ xs) ys = notes-append xs ys
notes-append (raw ps ∷ xs) ys = notes-append xs ys
notes-append (mark m ∷ xs) ys = ap (λ z. m ∷ z) (notes-append xs ys)

pub notes-next : {A B : Type 0} (m : Traced A) (f : A → Traced B) → notes (next m f).events ≡ notes m.events ++ notes (f m.value).events
unfolding next
notes-next m f = notes-append m.events (f m.value).events

pub quiet_next : {A B : Type 0} (m : Traced A) (f : A → Traced B) → IsQuiet m → ((a : A) → IsQuiet (f a)) → IsQuiet (next m f)
quiet_next m f h k = record {
  none = entries-next m f ∙ ap (λ z. z ++ entries_of (f m.value).events) h.none ∙ (k m.value).none;
  silent = notes-next m f ∙ ap (λ z. z ++ notes (f m.value).events) h.silent ∙ (k m.value).silent;
}

pub quiet_just : {A : Type 0} (a : A) → IsQuiet (just a)
unfolding just
quiet_just a = record { none = refl; silent = refl }

pub quiet_pay : (n : ℕ) → IsQuiet (pay n)
unfolding step
quiet_pay n = record { none = refl; silent = refl }

pub quiet_raw : {A : Type 0} (ps : List Place) (a : A) → IsQuiet (step (raw ps) a)
unfolding step
quiet_raw ps a = record { none = refl; silent = refl }

pub quiet_each : {C D : Type 0} (f : C → Traced (List D)) (cs : List C) (out : List D) → ((c : C) → IsQuiet (f c)) → IsQuiet (each f cs out)
quiet_each f [] out h = quiet_just out
quiet_each f (c ∷ cs) out h = quiet_next _ _ (h c) (λ ds. quiet_each f cs (out ++ ds) h)

pub quiet_cond : {A : Type 0} (b : Bool) (m w : Traced A) → IsQuiet m → IsQuiet w → IsQuiet (cond b m w)
quiet_cond true m w h k = h
quiet_cond false m w h k = k

pub quiet_combining : (m : ℤ) (s : Linear) (n : ℤ) (t : Linear) → IsQuiet (combining m s n t)
quiet_combining m s n t = quiet_raw _ _

-- ---- the rules
solved-quiet : (x : ℕ) (a : ℤ) (s : Linear) (l : Literal) → IsQuiet (solved x a s l)
solved-quiet x a s (Eq u) = quiet_next _ _ (quiet_raw _ _) (λ t. quiet_just _)
solved-quiet x a s (Geq u) = quiet_next _ _ (quiet_raw _ _) (λ t. quiet_just _)
solved-quiet x a s (Div d u) = quiet_next _ _ (quiet_raw _ _) (λ z. quiet_next _ _ (quiet_raw _ _) (λ t. quiet_just _))
solved-quiet x a s (NDiv d u) = quiet_next _ _ (quiet_raw _ _) (λ z. quiet_next _ _ (quiet_raw _ _) (λ t. quiet_just _))

equation-quiet : (x i : ℕ) (c : List Literal) (o : Option Literal) → IsQuiet (equation_at x i c o)
equation-quiet x i c None = quiet_just _
equation-quiet x i c (Some l) =
    quiet_next _ _ (quiet_pay _) (λ z. quiet_next _ _ (quiet_each _ (remove c i) [] (λ m. quiet_cond (has x m) _ _ (solved-quiet x (coefficient x l) (remainder x l) m) (quiet_just _))) (λ ls. quiet_just _))

apart-quiet : (i : ℕ) (c : List Literal) (o : Option Literal) → IsQuiet (apart_at i c o)
apart-quiet i c (Some (NDiv d t)) = quiet_next _ _ (quiet_pay _) (λ z. quiet_each _ _ _ (λ r. quiet_next _ _ (quiet_raw _ _) (λ s. quiet_just _)))
apart-quiet i c (Some (Eq t)) = quiet_just _
apart-quiet i c (Some (Geq t)) = quiet_just _
apart-quiet i c (Some (Div d t)) = quiet_just _
apart-quiet i c None = quiet_just _

merged-quiet : (x : ℕ) (c rest : List Literal) (d1 : ℤ) (t : Linear) (d2 : ℤ) (u : Linear) → IsQuiet (merged x c rest d1 t d2 u)
merged-quiet x c rest d1 t d2 u =
    quiet_next _ _ (quiet_pay _) (λ z. quiet_next _ _ (quiet_raw _ _) (λ z. quiet_next _ _ (quiet_raw _ _) (λ z. quiet_next _ _ (quiet_raw _ _) (λ v. quiet_next _ _ (quiet_raw _ _) (λ w. quiet_just _)))))

merge_with-quiet : (x : ℕ) (c rest : List Literal) (d1 : ℤ) (t : Linear) (o : Option Literal) → IsQuiet (merge_with x c rest d1 t o)
merge_with-quiet x c rest d1 t (Some (Div d2 u)) = merged-quiet x c rest d1 t d2 u
merge_with-quiet x c rest d1 t (Some (Eq u)) = quiet_just _
merge_with-quiet x c rest d1 t (Some (Geq u)) = quiet_just _
merge_with-quiet x c rest d1 t (Some (NDiv d u)) = quiet_just _
merge_with-quiet x c rest d1 t None = quiet_just _

merge-quiet : (x : ℕ) (c rest : List Literal) (o p : Option Literal) → IsQuiet (merge_at x c rest o p)
merge-quiet x c rest (Some (Div d1 t)) p = merge_with-quiet x c rest d1 t p
merge-quiet x c rest (Some (Eq t)) p = quiet_just _
merge-quiet x c rest (Some (Geq t)) p = quiet_just _
merge-quiet x c rest (Some (NDiv d t)) p = quiet_just _
merge-quiet x c rest None p = quiet_just _

shifted-quiet : (x : ℕ) (d : ℤ) (z : Bezout) (t : Linear) (l : Literal) → IsQuiet (shifted x d z t l)
shifted-quiet x d z t (Geq r) = quiet_cond (has x (Geq r)) _ _ (quiet_next _ _ (quiet_raw _ _) (λ q. quiet_next _ _ (quiet_raw _ _) (λ v. quiet_just _))) (quiet_just _)
shifted-quiet x d z t (Eq r) = quiet_just _
shifted-quiet x d z t (Div k r) = quiet_just _
shifted-quiet x d z t (NDiv k r) = quiet_just _

shift-quiet : (x : ℕ) (c rest : List Literal) (o : Option Literal) → IsQuiet (shift_at x c rest o)
shift-quiet x c rest (Some (Div d t)) = quiet_next _ _ (quiet_pay _) (λ z. quiet_next _ _ (quiet_each _ rest [] (shifted-quiet x d (bezout (coef_of t x) d) t)) (λ ls. quiet_just _))
shift-quiet x c rest (Some (Eq t)) = quiet_just _
shift-quiet x c rest (Some (Geq t)) = quiet_just _
shift-quiet x c rest (Some (NDiv d t)) = quiet_just _
shift-quiet x c rest None = quiet_just _

exact_pair-quiet : (x : ℕ) (low up : Literal) → IsQuiet (exact_pair x low up)
exact_pair-quiet x low up = quiet_next _ _ (quiet_raw _ _) (λ t. quiet_just _)

dark_pair-quiet : (x : ℕ) (low up : Literal) → IsQuiet (dark_pair x low up)
dark_pair-quiet x low up = quiet_next _ _ (quiet_raw _ _) (λ t. quiet_next _ _ (quiet_raw _ _) (λ z. quiet_next _ _ (quiet_raw _ _) (λ u. quiet_just _)))

splinters-quiet : (x : ℕ) (c : List Literal) (a : ℤ) (low : Literal) → IsQuiet (splinters x c a low)
splinters-quiet x c a low = quiet_next _ _ (quiet_raw _ _) (λ z. quiet_each _ _ _ (λ i. quiet_next _ _ (quiet_raw _ _) (λ u. quiet_just _)))

dark-quiet : (x : ℕ) (c : List Literal) (a : ℤ) → IsQuiet (dark_with x c a)
dark-quiet x c a =
    quiet_next _ _ (quiet_pay _) (λ z. quiet_next _ _ (quiet_each _ _ _ (λ low. quiet_each _ _ _ (dark_pair-quiet x low)))
    (λ ls. quiet_next _ _ (quiet_each _ _ _ (splinters-quiet x c a)) (λ cs. quiet_just _)))

pub rule-quiet : (x : ℕ) (c : List Literal) (e : Entry) → IsQuiet (rule x c e)
unfolding rule equation apart merge shift one_sided exact dark
rule-quiet x c (Equation i) = equation-quiet x i c (slice_get c i)
rule-quiet x c (Apart i) = apart-quiet i c (slice_get c i)
rule-quiet x c (Merge i j) = merge-quiet x c (remove (remove c j) i) (slice_get c i) (slice_get c j)
rule-quiet x c (Shift i) = shift-quiet x c (remove c i) (slice_get c i)
rule-quiet x c OneSided = quiet_next _ _ (quiet_pay _) (λ z. quiet_just _)
rule-quiet x c Exact = quiet_next _ _ (quiet_pay _) (λ z. quiet_next _ _ (quiet_each _ _ _ (λ low. quiet_each _ _ _ (exact_pair-quiet x low))) (λ ls. quiet_just _))
rule-quiet x c Dark = dark-quiet x c (pos (greatest_factor x (uppers x c)))

-- ---- operations
pub tidying-quiet : (cs : List (List Literal)) → IsQuiet (tidying cs)
tidying-quiet cs = quiet_next _ _ (quiet_pay _) (λ z. quiet_just _)

pub conjunction-quiet : (a b : List (List Literal)) → IsQuiet (conjunction a b)
conjunction-quiet a b = quiet_next _ _ (quiet_pay _) (λ z. tidying-quiet _)

pub disjunction-quiet : (a b : List (List Literal)) → IsQuiet (disjunction a b)
disjunction-quiet a b = quiet_next _ _ (quiet_pay _) (λ z. tidying-quiet _)

pub negated_literal-quiet : (l : Literal) → IsQuiet (negated_literal l)
negated_literal-quiet (Eq t) = quiet_next _ _ (quiet_raw _ _) (λ below. quiet_next _ _ (quiet_raw _ _) (λ above. quiet_just _))
negated_literal-quiet (Geq t) = quiet_next _ _ (quiet_raw _ _) (λ below. quiet_just _)
negated_literal-quiet (Div d t) = quiet_just _
negated_literal-quiet (NDiv d t) = quiet_just _

negated_clauses-quiet : (cs out : List (List Literal)) → IsQuiet (negated_clauses cs out)
negated_clauses-quiet [] out = quiet_just out
negated_clauses-quiet (c ∷ cs) out =
    quiet_next _ _ (quiet_next _ _ (quiet_pay _) (λ z. quiet_each negated_literal c [] negated_literal-quiet)) (λ n. quiet_next _ _ (conjunction-quiet out n) (λ both. negated_clauses-quiet cs both))

pub negation-quiet : (d : List (List Literal)) → IsQuiet (negation d)
negation-quiet d = negated_clauses-quiet d top

mutual
  -- the dual of a formula notes nothing
  pub dual-quiet : (f : Form) → IsQuiet (dual f)
  dual-quiet (tree.equal t) = quiet_just _
  dual-quiet (tree.unequal t) = quiet_just _
  dual-quiet (tree.at_least t) = quiet_next _ _ (quiet_raw _ _) (λ u. quiet_just _)
  dual-quiet (tree.holds p ts) = quiet_just _
  dual-quiet (tree.fails p ts) = quiet_just _
  dual-quiet (tree.differs f ts u) = quiet_just _
  dual-quiet (tree.conjunction fs) = quiet_next _ _ (duals-quiet fs) (λ gs. quiet_just _)
  dual-quiet (tree.disjunction fs) = quiet_next _ _ (duals-quiet fs) (λ gs. quiet_just _)
  dual-quiet (tree.universal f) = quiet_next _ _ (dual-quiet f) (λ g. quiet_just _)
  dual-quiet (tree.existential f) = quiet_next _ _ (dual-quiet f) (λ g. quiet_just _)

  duals-quiet : (fs : Forms) → IsQuiet (duals fs)
  duals-quiet tree.no_form = quiet_just _
  duals-quiet (tree.and_form f fs) = quiet_next _ _ (dual-quiet f) (λ g. quiet_next _ _ (duals-quiet fs) (λ gs. quiet_just _))
