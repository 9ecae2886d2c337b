-- What sets of parts assume, and what stands in it, where one set is part of another.
use Rattle.std.proofs.Common.{◌≡◌, ◌↔◌, ◌<◌, ℕ, zero, suc, ℤ, Bool, true, false, ◌||◌, cond, nat_eq, List, [], ◌∷◌, ◌++◌, map, take, drop, length, get_or, filter, refl, sym, ◌∙◌, ap, arith, append_assoc, append-nil}
use Rattle.std.specs.List.{AllByRecursion, concat, list_any}
use Rattle.std.proofs.lemmas.Bool.{false≢true}
use Rattle.std.proofs.lemmas.List.Folds.{list_any-append}
use Rattle.form_typed.specs.Formula.{Formula, Formulas, formulas, constant, compares, applies, negation, every, some, implies, iff, for_all, for_some, part, no_formula, and_formula}
use Rattle.form_typed.specs.Truth.{Meaning, Truth, AreAllTrue}
use Rattle.pri_typing.specs.declared.problem.Problem.{Problem}
use Rattle.pri_typing.specs.Problems.{assumed, assumed_by, is_part_in}
use Rattle.pri_typing.specs.WellFormed.{SignedFormula, components_of}
use Rattle.form_encoding.specs.Occurrences.{names_in, names_in_all, occurs}
use Rattle.itp_sides.specs.Symbols.{symbols_in, symbols_in_all, is_symbol, uses}

-- a component that one test passes, another one passes
abbrev pub PassesMore : (SignedFormula → Bool) → (SignedFormula → Bool) → Type 0
PassesMore t s = (c : SignedFormula) → t c ≡ true → s c ≡ true

abbrev kept : (SignedFormula → Bool) → List SignedFormula → Formulas
kept s cs = formulas (map assumed (filter s cs))

kept_less : (w : Meaning) (e : List ℤ) (s t : SignedFormula → Bool) → PassesMore t s → (cs : List SignedFormula) → AreAllTrue w (kept s cs) e → AreAllTrue w (kept t cs) e
kept_less w e s t m [] h = tt
kept_less w e s t m (c ∷ cs) h = by (s c) (t c) (m c) h (kept_less w e s t m cs)
  where
    by : (a b : Bool) → (b ≡ true → a ≡ true) → AreAllTrue w (formulas (map assumed (cond a (c ∷ filter s cs) (filter s cs)))) e
        → (AreAllTrue w (kept s cs) e → AreAllTrue w (kept t cs) e) → AreAllTrue w (formulas (map assumed (cond b (c ∷ filter t cs) (filter t cs)))) e
    by true true i h f = (h.0, f h.1)
    by true false i h f = f h.1
    by false true i h f = absurd (false≢true (i refl))
    by false false i h f = f h

kept_join : (w : Meaning) (e : List ℤ) (s t u : SignedFormula → Bool) → ((c : SignedFormula) → s c ≡ true → (t c || u c) ≡ true) → (cs : List SignedFormula)
    → AreAllTrue w (kept t cs) e → AreAllTrue w (kept u cs) e → AreAllTrue w (kept s cs) e
kept_join w e s t u m [] h k = tt
kept_join w e s t u m (c ∷ cs) h k = by (s c) (t c) (u c) (m c) h k (kept_join w e s t u m cs)
  where
    by : (a b d : Bool) → (a ≡ true → (b || d) ≡ true) → AreAllTrue w (formulas (map assumed (cond b (c ∷ filter t cs) (filter t cs)))) e
        → AreAllTrue w (formulas (map assumed (cond d (c ∷ filter u cs) (filter u cs)))) e
        → (AreAllTrue w (kept t cs) e → AreAllTrue w (kept u cs) e → AreAllTrue w (kept s cs) e) → AreAllTrue w (formulas (map assumed (cond a (c ∷ filter s cs) (filter s cs)))) e
    by true true true i h k f = (h.0, f h.1 k.1)
    by true true false i h k f = (h.0, f h.1 k)
    by true false true i h k f = (k.0, f h k.1)
    by true false false i h k f = absurd (false≢true (i refl))
    by false true true i h k f = f h.1 k.1
    by false true false i h k f = f h.1 k
    by false false true i h k f = f h k.1
    by false false false i h k f = f h k

-- what stands in a part of the list stands in the whole
any_less : {A : Type 0} (test : A → Bool) (of : Formula → List A) (all : Formulas → List A)
    → ((f : Formula) (fs : Formulas) → list_any test (all (and_formula f fs)) ≡ (list_any test (of f) || list_any test (all fs))) → list_any test (all no_formula) ≡ false
    → (s t : SignedFormula → Bool) → PassesMore t s → (cs : List SignedFormula) → list_any test (all (kept t cs)) ≡ true → list_any test (all (kept s cs)) ≡ true
any_less test of all split none s t m [] h = h
any_less test of all split none s t m (c ∷ cs) h = by (s c) (t c) (m c) h (any_less test of all split none s t m cs)
  where
    more : (a b d : Bool) → (a || b) ≡ true → (b ≡ true → d ≡ true) → (a || d) ≡ true
    more true b d h f = refl
    more false b d h f = f h

    behind : (a d : Bool) → d ≡ true → (a || d) ≡ true
    behind true d h = refl
    behind false d h = h

    by : (a b : Bool) → (b ≡ true → a ≡ true) → list_any test (all (formulas (map assumed (cond b (c ∷ filter t cs) (filter t cs))))) ≡ true
        → (list_any test (all (kept t cs)) ≡ true → list_any test (all (kept s cs)) ≡ true) → list_any test (all (formulas (map assumed (cond a (c ∷ filter s cs) (filter s cs))))) ≡ true
    by true true i h f = split (assumed c) (kept s cs) ∙ more (list_any test (of (assumed c))) (list_any test (all (kept t cs))) (list_any test (all (kept s cs))) (sym (split (assumed c) (kept t cs)) ∙ h) f
    by true false i h f = split (assumed c) (kept s cs) ∙ behind (list_any test (of (assumed c))) (list_any test (all (kept s cs))) (f h)
    by false true i h f = absurd (false≢true (i refl))
    by false false i h f = f h

-- Sets of parts.

-- the part numbers of one set are numbers of another
abbrev pub IsInSet : List ℕ → List ℕ → Type 0
IsInSet xs ys = (k : ℕ) → list_any (nat_eq k) xs ≡ true → list_any (nat_eq k) ys ≡ true

in_set : (xs ys : List ℕ) → IsInSet xs ys → (f : Formula) → is_part_in xs f ≡ true → is_part_in ys f ≡ true
in_set xs ys i (constant b) h = h
in_set xs ys i (compares r s t) h = h
in_set xs ys i (applies p ts) h = h
in_set xs ys i (negation f) h = h
in_set xs ys i (every fs) h = h
in_set xs ys i (some fs) h = h
in_set xs ys i (implies f g) h = h
in_set xs ys i (iff f g) h = h
in_set xs ys i (for_all s f) h = h
in_set xs ys i (for_some s f) h = h
in_set xs ys i (part k f) h = i k h

in_either : (xs ys : List ℕ) (f : Formula) → is_part_in (xs ++ ys) f ≡ true → (is_part_in xs f || is_part_in ys f) ≡ true
in_either xs ys (constant b) h = h
in_either xs ys (compares r s t) h = h
in_either xs ys (applies p ts) h = h
in_either xs ys (negation f) h = h
in_either xs ys (every fs) h = h
in_either xs ys (some fs) h = h
in_either xs ys (implies f g) h = h
in_either xs ys (iff f g) h = h
in_either xs ys (for_all s f) h = h
in_either xs ys (for_some s f) h = h
in_either xs ys (part k f) h = sym (list_any-append (nat_eq k) xs ys) ∙ h

or_left : (a b : Bool) → a ≡ true → (a || b) ≡ true
or_left a b h = rw h refl

or_right : (a b : Bool) → b ≡ true → (a || b) ≡ true
or_right true b h = refl
or_right false b h = h

pub left_set : (xs ys : List ℕ) → IsInSet xs (xs ++ ys)
left_set xs ys k h = list_any-append (nat_eq k) xs ys ∙ or_left (list_any (nat_eq k) xs) (list_any (nat_eq k) ys) h

pub right_set : (xs ys : List ℕ) → IsInSet ys (xs ++ ys)
right_set xs ys k h = list_any-append (nat_eq k) xs ys ∙ or_right (list_any (nat_eq k) xs) (list_any (nat_eq k) ys) h

-- fewer parts assume less
pub assumes_less : (w : Meaning) (p : Problem) (xs ys : List ℕ) (e : List ℤ) → IsInSet xs ys → Truth w (assumed_by p ys) e → Truth w (assumed_by p xs) e
assumes_less w p xs ys e i h = kept_less w e (λ c. is_part_in ys c.what) (λ c. is_part_in xs c.what) (λ c. in_set xs ys i c.what) (components_of p) h

pub assumes_both : (w : Meaning) (p : Problem) (xs ys : List ℕ) (e : List ℤ) → Truth w (assumed_by p (xs ++ ys)) e ↔ (Truth w (assumed_by p xs) e × Truth w (assumed_by p ys) e)
assumes_both w p xs ys e = (
  λ h. (assumes_less w p xs (xs ++ ys) e (left_set xs ys) h, assumes_less w p ys (xs ++ ys) e (right_set xs ys) h),
  λ h. kept_join w e (λ c. is_part_in (xs ++ ys) c.what) (λ c. is_part_in xs c.what) (λ c. is_part_in ys c.what) (λ c. in_either xs ys c.what) (components_of p) h.0 h.1,
)

-- the names and the symbols of fewer parts are among those of more
pub names_more : (p : Problem) (xs ys : List ℕ) (x : ℕ) → IsInSet xs ys → occurs x (assumed_by p xs) ≡ true → occurs x (assumed_by p ys) ≡ true
names_more p xs ys x i h =
    any_less (nat_eq x) names_in names_in_all (λ f fs. list_any-append (nat_eq x) (names_in f) (names_in_all fs)) refl
    (λ c. is_part_in ys c.what) (λ c. is_part_in xs c.what) (λ c. in_set xs ys i c.what) (components_of p) h

pub symbols_more : (p : Problem) (xs ys : List ℕ) (a : Bool × ℕ) → IsInSet xs ys → uses (assumed_by p xs) a ≡ true → uses (assumed_by p ys) a ≡ true
symbols_more p xs ys a i h =
    any_less (is_symbol a) symbols_in symbols_in_all (λ f fs. list_any-append (is_symbol a) (symbols_in f) (symbols_in_all fs)) refl
    (λ c. is_part_in ys c.what) (λ c. is_part_in xs c.what) (λ c. in_set xs ys i c.what) (components_of p) h

-- Sets of a cut.

pub next_first : (sets : List (List ℕ)) (j : ℕ) → j < length sets → concat (take (suc j) sets) ≡ concat (take j sets) ++ get_or sets j []
next_first [] j l = absurd (omega arith)
next_first (s ∷ sets) zero l = append-nil s
next_first (s ∷ sets) (suc j) l =
    ap (λ z. s ++ z) (next_first sets j (omega arith)) ∙ sym (append_assoc s (concat (take j sets)) (get_or sets j []))

pub next_other : (sets : List (List ℕ)) (j : ℕ) → j < length sets → concat (drop j sets) ≡ get_or sets j [] ++ concat (drop (suc j) sets)
next_other [] j l = absurd (omega arith)
next_other (s ∷ sets) zero l = refl
next_other (s ∷ sets) (suc j) l = next_other sets j (omega arith)

all_assume : (w : Meaning) (p : Problem) (e : List ℤ) (sets : List (List ℕ)) → Truth w (assumed_by p (concat sets)) e → AllByRecursion (λ set. Truth w (assumed_by p set) e) sets
all_assume w p e [] h = tt
all_assume w p e (s ∷ sets) h = let k = (assumes_both w p s (concat sets) e).0 h in (k.0, all_assume w p e sets k.1)

pub both_sides : (w : Meaning) (p : Problem) (e : List ℤ) (sets : List (List ℕ)) (j : ℕ) → Truth w (assumed_by p (concat (take j sets))) e → Truth w (assumed_by p (concat (drop j sets))) e
    → AllByRecursion (λ set. Truth w (assumed_by p set) e) sets
both_sides w p e [] j h k = tt
both_sides w p e (s ∷ sets) zero h k = all_assume w p e (s ∷ sets) k
both_sides w p e (s ∷ sets) (suc j) h k = let i = (assumes_both w p s (concat (take j sets)) e).0 h in (i.0, both_sides w p e sets j i.1 k)
