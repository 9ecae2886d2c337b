-- Marks of names.
use Rattle.std.proofs.Common.{◌≡◌, ◌+◌, ◌<◌, ℕ, Bool, true, false, ◌||◌, cond, nat_eq, List, [], ◌∷◌, ◌++◌, length, map, replicate, take, refl, sym, ◌∙◌, ap, subst, append_assoc, arith}
use Rattle.std.specs.List.{filter, flat_map, list_any}
use Rattle.std.proofs.Math.Seq.{take-append_seam}
use Rattle.std.proofs.lemmas.Bool.Decides.{nat_tests}
use Rattle.std.proofs.lemmas.List.{length-replicate, length-set, get_or-set_same, get_or-set_other, get_or-replicate}
use Rattle.form_typed.specs.declared.typed.Relation.{Relation}
use Rattle.form_typed.specs.declared.typed.Typed.{Typed}
use Rattle.form_typed.specs.declared.typed.Typed.TheVariants as f
use Rattle.form_typed.specs.declared.typed.TypedTerm.TheVariants as e
use Rattle.form_typed.specs.declared.typed.TypedTerm.{TypedTerm}
use Rattle.form_typed.specs.Formula.{formula, formulas, formulas_of, expression, expressions_of, negation}
use Rattle.form_typed.proofs.Folds.{formula-Iff, formula-Implies, formula-Rel, expression-If, expression-Max, expression-Min, expression-Product}
use Rattle.pri_typing.specs.declared.problem.Problem.{Problem}
use Rattle.pri_typing.specs.Problems.{assumed, assumed_by, is_part_in}
use Rattle.pri_typing.specs.WellFormed.{SignedFormula, all_formula_components, components_of, formula_components}
use Rattle.form_encoding.specs.Problems.{constants}
use Rattle.form_encoding.specs.Occurrences.{names_in, names_in_all, names_in_term, names_in_terms}
use Rattle.function_encoding.specs.Marks.{AreMarks, is_marked, marked, names_of_parts, with_mark}

pub marked-append : (marks : List Bool) (xs ys : List ℕ) → marked marks (xs ++ ys) ≡ marked (marked marks xs) ys
marked-append marks [] ys = refl
marked-append marks (x ∷ xs) ys = marked-append (with_mark marks x) xs ys

pub ruleset marking = (marked-append)

-- one member of a list, and then the others
pub formulas_next : (fs rest : List Typed) (g : Typed) (old new : List Bool) → fs ≡ g ∷ rest → new ≡ marked old (names_in (formula g)) → marked new (names_in_all (formulas_of rest)) ≡ marked old (names_in_all (formulas_of fs))
formulas_next fs rest g old new item is =
    ap (λ ms. marked ms (names_in_all (formulas_of rest))) is ∙ sym (marked-append old (names_in (formula g)) (names_in_all (formulas_of rest))) ∙ ap (λ l. marked old (names_in_all (formulas_of l))) (sym item)

pub terms_next : (ts rest : List TypedTerm) (t : TypedTerm) (old new : List Bool) → ts ≡ t ∷ rest → new ≡ marked old (names_in_term (expression t)) → marked new (names_in_terms (expressions_of rest)) ≡ marked old (names_in_terms (expressions_of ts))
terms_next ts rest t old new item is =
    ap (λ ms. marked ms (names_in_terms (expressions_of rest))) is ∙ sym (marked-append old (names_in_term (expression t)) (names_in_terms (expressions_of rest))) ∙ ap (λ l. marked old (names_in_terms (expressions_of l))) (sym item)

-- one call after the other
mark_two : (old between new : List Bool) (xs ys zs : List ℕ) → between ≡ marked old xs → new ≡ marked between ys → zs ≡ xs ++ ys → new ≡ marked old zs
mark_two old between new xs ys zs first second all = second ∙ ap (λ ms. marked ms ys) first ∙ sym (marked-append old xs ys) ∙ ap (marked old) (sym all)

names_Rel : (g : Typed) (r : Relation) (s t : TypedTerm) → g ≡ f.Rel r s t → names_in (formula g) ≡ names_in_term (expression s) ++ names_in_term (expression t)
names_Rel g r s t is = ap names_in (ap formula is ∙ formula-Rel r s t)

both_formulas : (a b c d : Typed) → a ≡ c → b ≡ d → names_in (formula c) ++ names_in (formula d) ≡ names_in (formula a) ++ names_in (formula b)
both_formulas a b c d p q = λ i. names_in (formula (sym p i)) ++ names_in (formula (sym q i))

both_terms : (a b c d : TypedTerm) → a ≡ c → b ≡ d → names_in_term (expression c) ++ names_in_term (expression d) ≡ names_in_term (expression a) ++ names_in_term (expression b)
both_terms a b c d p q = λ i. names_in_term (expression (sym p i)) ++ names_in_term (expression (sym q i))

names_Implies : (k a b g h : Typed) → k ≡ f.Implies g h → a ≡ g → b ≡ h → names_in (formula k) ≡ names_in (formula a) ++ names_in (formula b)
names_Implies k a b g h is p q = ap names_in (ap formula is ∙ formula-Implies g h) ∙ both_formulas a b g h p q

names_Iff : (k a b g h : Typed) → k ≡ f.Iff g h → a ≡ g → b ≡ h → names_in (formula k) ≡ names_in (formula a) ++ names_in (formula b)
names_Iff k a b g h is p q = ap names_in (ap formula is ∙ formula-Iff g h) ∙ both_formulas a b g h p q

names_Product : (k a b s t : TypedTerm) → k ≡ e.Product s t → a ≡ s → b ≡ t → names_in_term (expression k) ≡ names_in_term (expression a) ++ names_in_term (expression b)
names_Product k a b s t is p q = ap names_in_term (ap expression is ∙ expression-Product s t) ∙ both_terms a b s t p q

names_Min : (k a b s t : TypedTerm) → k ≡ e.Min s t → a ≡ s → b ≡ t → names_in_term (expression k) ≡ names_in_term (expression a) ++ names_in_term (expression b)
names_Min k a b s t is p q = ap names_in_term (ap expression is ∙ expression-Min s t) ∙ both_terms a b s t p q

names_Max : (k a b s t : TypedTerm) → k ≡ e.Max s t → a ≡ s → b ≡ t → names_in_term (expression k) ≡ names_in_term (expression a) ++ names_in_term (expression b)
names_Max k a b s t is p q = ap names_in_term (ap expression is ∙ expression-Max s t) ∙ both_terms a b s t p q

names_If : (k : TypedTerm) (c : Typed) (a b : TypedTerm) (g : Typed) (s t : TypedTerm) → k ≡ e.If g s t → c ≡ g → a ≡ s → b ≡ t
    → names_in_term (expression k) ≡ names_in (formula c) ++ (names_in_term (expression a) ++ names_in_term (expression b))
names_If k c a b g s t is o p q =
    ap names_in_term (ap expression is ∙ expression-If g s t) ∙ (λ i. names_in (formula (sym o i)) ++ both_terms a b s t p q i)

pub mark_Rel : (old between new : List Bool) (g : Typed) (r : Relation) (s t : TypedTerm) → g ≡ f.Rel r s t → between ≡ marked old (names_in_term (expression s)) → new ≡ marked between (names_in_term (expression t))
    → new ≡ marked old (names_in (formula g))
mark_Rel old between new g r s t is first second = mark_two old between new (names_in_term (expression s)) (names_in_term (expression t)) (names_in (formula g)) first second (names_Rel g r s t is)

pub mark_Implies : (old between new : List Bool) (k a b g h : Typed) → k ≡ f.Implies g h → a ≡ g → b ≡ h → between ≡ marked old (names_in (formula a)) → new ≡ marked between (names_in (formula b))
    → new ≡ marked old (names_in (formula k))
mark_Implies old between new k a b g h is p q first second = mark_two old between new (names_in (formula a)) (names_in (formula b)) (names_in (formula k)) first second (names_Implies k a b g h is p q)

pub mark_Iff : (old between new : List Bool) (k a b g h : Typed) → k ≡ f.Iff g h → a ≡ g → b ≡ h → between ≡ marked old (names_in (formula a)) → new ≡ marked between (names_in (formula b))
    → new ≡ marked old (names_in (formula k))
mark_Iff old between new k a b g h is p q first second = mark_two old between new (names_in (formula a)) (names_in (formula b)) (names_in (formula k)) first second (names_Iff k a b g h is p q)

pub mark_Product : (old between new : List Bool) (k a b g h : TypedTerm) → k ≡ e.Product g h → a ≡ g → b ≡ h → between ≡ marked old (names_in_term (expression a)) → new ≡ marked between (names_in_term (expression b))
    → new ≡ marked old (names_in_term (expression k))
mark_Product old between new k a b g h is p q first second = mark_two old between new (names_in_term (expression a)) (names_in_term (expression b)) (names_in_term (expression k)) first second (names_Product k a b g h is p q)

pub mark_Min : (old between new : List Bool) (k a b g h : TypedTerm) → k ≡ e.Min g h → a ≡ g → b ≡ h → between ≡ marked old (names_in_term (expression a)) → new ≡ marked between (names_in_term (expression b))
    → new ≡ marked old (names_in_term (expression k))
mark_Min old between new k a b g h is p q first second = mark_two old between new (names_in_term (expression a)) (names_in_term (expression b)) (names_in_term (expression k)) first second (names_Min k a b g h is p q)

pub mark_Max : (old between new : List Bool) (k a b g h : TypedTerm) → k ≡ e.Max g h → a ≡ g → b ≡ h → between ≡ marked old (names_in_term (expression a)) → new ≡ marked between (names_in_term (expression b))
    → new ≡ marked old (names_in_term (expression k))
mark_Max old between new k a b g h is p q first second = mark_two old between new (names_in_term (expression a)) (names_in_term (expression b)) (names_in_term (expression k)) first second (names_Max k a b g h is p q)

pub mark_If : (old one two new : List Bool) (k : TypedTerm) (c : Typed) (a b : TypedTerm) (g : Typed) (s t : TypedTerm) → k ≡ e.If g s t → c ≡ g → a ≡ s → b ≡ t → one ≡ marked old (names_in (formula c))
    → two ≡ marked one (names_in_term (expression a)) → new ≡ marked two (names_in_term (expression b)) → new ≡ marked old (names_in_term (expression k))
mark_If old one two new k c a b g s t is o p q first second third =
    let both = names_in_term (expression a) ++ names_in_term (expression b) in
    mark_two old one new (names_in (formula c)) both (names_in_term (expression k)) first (mark_two one two new (names_in_term (expression a)) (names_in_term (expression b)) both second third refl) (names_If k c a b g s t is o p q)

-- ---- what the marks say
pub length-marked : (marks : List Bool) (xs : List ℕ) → length (marked marks xs) ≡ length marks
length-marked marks [] = refl
length-marked marks (x ∷ xs) = length-marked (with_mark marks x) xs ∙ length-set marks x true

one_mark : (marks : List Bool) (x y : ℕ) → y < length marks → is_marked (with_mark marks x) y ≡ (is_marked marks y || nat_eq y x)
one_mark marks x y lt = by (nat_eq y x) refl
  where
    true_or : (b : Bool) → (b || true) ≡ true
    true_or true = refl
    true_or false = refl

    or_false : (b : Bool) → (b || false) ≡ b
    or_false true = refl
    or_false false = refl

    by : (b : Bool) → nat_eq y x ≡ b → is_marked (with_mark marks x) y ≡ (is_marked marks y || b)
    by true eq = let same : y ≡ x = grind (arith, nat_tests) in subst (λ z. is_marked (with_mark marks z) y ≡ (is_marked marks y || true)) same (get_or-set_same marks y true false lt ∙ sym (true_or (is_marked marks y)))
    by false eq = get_or-set_other marks x y true false (λ s. grind (arith, nat_tests)) ∙ sym (or_false (is_marked marks y))

or_assoc : (a b c : Bool) → ((a || b) || c) ≡ (a || (b || c))
or_assoc true b c = refl
or_assoc false b c = refl

marks_say : (xs : List ℕ) (marks : List Bool) (y : ℕ) → y < length marks → is_marked (marked marks xs) y ≡ (is_marked marks y || list_any (nat_eq y) xs)
marks_say [] marks y lt = none (is_marked marks y)
  where
    none : (b : Bool) → b ≡ (b || false)
    none true = refl
    none false = refl
marks_say (x ∷ xs) marks y lt =
    marks_say xs (with_mark marks x) y (subst (λ n. y < n) (sym (length-set marks x true)) lt)
    ∙ ap (λ b. b || list_any (nat_eq y) xs) (one_mark marks x y lt) ∙ or_assoc (is_marked marks y) (nat_eq y x) (list_any (nat_eq y) xs)

-- ---- the names in parts
names_of_parts-one : (set : List ℕ) (c : SignedFormula) (cs : List SignedFormula) → names_of_parts set (c ∷ cs) ≡ cond (is_part_in set c.what) (names_in c.what ++ names_of_parts set cs) (names_of_parts set cs)
names_of_parts-one set c cs = by (is_part_in set c.what)
  where
    by : (b : Bool) → flat_map (λ (d : SignedFormula). names_in d.what) (cond b (c ∷ filter (λ d. is_part_in set d.what) cs) (filter (λ d. is_part_in set d.what) cs)) ≡ cond b (names_in c.what ++ names_of_parts set cs) (names_of_parts set cs)
    by true = refl
    by false = refl

pub names_of_parts-append : (set : List ℕ) (cs ds : List SignedFormula) → names_of_parts set (cs ++ ds) ≡ names_of_parts set cs ++ names_of_parts set ds
names_of_parts-append set [] ds = refl
names_of_parts-append set (c ∷ cs) ds = names_of_parts-one set c (cs ++ ds) ∙ by (is_part_in set c.what) (names_of_parts-append set cs ds) ∙ ap (λ xs. xs ++ names_of_parts set ds) (sym (names_of_parts-one set c cs))
  where
    by : (b : Bool) → names_of_parts set (cs ++ ds) ≡ names_of_parts set cs ++ names_of_parts set ds
        → cond b (names_in c.what ++ names_of_parts set (cs ++ ds)) (names_of_parts set (cs ++ ds)) ≡ cond b (names_in c.what ++ names_of_parts set cs) (names_of_parts set cs) ++ names_of_parts set ds
    by true is = ap (λ xs. names_in c.what ++ xs) is ∙ sym (append_assoc (names_in c.what) (names_of_parts set cs) (names_of_parts set ds))
    by false is = is

pub ruleset parting = (marked-append, names_of_parts-append)

pub parts_next : (plus : Bool) (set : List ℕ) (fs rest : List Typed) (g : Typed) (old new : List Bool) → fs ≡ g ∷ rest → new ≡ marked old (names_of_parts set (formula_components plus (formula g)))
    → marked new (names_of_parts set (all_formula_components plus (formulas_of rest))) ≡ marked old (names_of_parts set (all_formula_components plus (formulas_of fs)))
parts_next plus set fs rest g old new item is =
    let first = formula_components plus (formula g) in
    let others = all_formula_components plus (formulas_of rest) in
    ap (λ ms. marked ms (names_of_parts set others)) is ∙ sym (marked-append old (names_of_parts set first) (names_of_parts set others))
    ∙ ap (marked old) (sym (names_of_parts-append set first others)) ∙ ap (λ l. marked old (names_of_parts set (all_formula_components plus (formulas_of l)))) (sym item)

parts_Implies : (plus : Bool) (set : List ℕ) (k a b g h : Typed) → plus ≡ true → k ≡ f.Implies g h → a ≡ g → b ≡ h
    → names_of_parts set (formula_components plus (formula k)) ≡ names_of_parts set (formula_components false (formula a)) ++ names_of_parts set (formula_components true (formula b))
parts_Implies plus set k a b g h positive is p q =
    ap (λ s. names_of_parts set (formula_components s (formula k))) positive ∙ ap (λ z. names_of_parts set (formula_components true z)) (ap formula is ∙ formula-Implies g h)
    ∙ names_of_parts-append set (formula_components false (formula g)) (formula_components true (formula h))
    ∙ (λ i. names_of_parts set (formula_components false (formula (sym p i))) ++ names_of_parts set (formula_components true (formula (sym q i))))

pub mark_parts_Implies : (old between new : List Bool) (plus : Bool) (set : List ℕ) (k a b g h : Typed) → plus ≡ true → k ≡ f.Implies g h → a ≡ g → b ≡ h → between ≡ marked old (names_of_parts set (formula_components false (formula a)))
    → new ≡ marked between (names_of_parts set (formula_components true (formula b))) → new ≡ marked old (names_of_parts set (formula_components plus (formula k)))
mark_parts_Implies old between new plus set k a b g h positive is p q first second =
    mark_two old between new (names_of_parts set (formula_components false (formula a))) (names_of_parts set (formula_components true (formula b))) (names_of_parts set (formula_components plus (formula k)))
    first second (parts_Implies plus set k a b g h positive is p q)

assumed_names : (c : SignedFormula) → names_in (assumed c) ≡ names_in c.what
assumed_names c = by c.plus
  where
    by : (b : Bool) → names_in (cond b (negation c.what) c.what) ≡ names_in c.what
    by true = refl
    by false = refl

all_assumed_names : (cs : List SignedFormula) → flat_map (λ (c : SignedFormula). names_in c.what) cs ≡ names_in_all (formulas (map assumed cs))
all_assumed_names [] = refl
all_assumed_names (c ∷ cs) = λ i. sym (assumed_names c) i ++ all_assumed_names cs i

pub side_names : (p : Problem) (set : List ℕ) → names_of_parts set (components_of p) ≡ names_in (assumed_by p set)
side_names p set = all_assumed_names (filter (λ c. is_part_in set c.what) (components_of p))

-- the marks of the names in what parts assume
say_side : (p : Problem) (set : List ℕ) (n : ℕ) (old : List Bool) → old ≡ replicate n false → AreMarks n (assumed_by p set) (marked old (names_of_parts set (components_of p)))
say_side p set n old is =
    let long : length old ≡ n = ap length is ∙ length-replicate n false in
    record {
      many = length-marked old (names_of_parts set (components_of p)) ∙ long;
      exact = λ x lt.
          marks_say (names_of_parts set (components_of p)) old x (subst (λ k. x < k) (sym long) lt)
          ∙ (λ i. (ap (λ ms. is_marked ms x) is ∙ get_or-replicate n x false false lt) i || list_any (nat_eq x) (side_names p set i));
    }

-- a vector after a call on its elements
pub written : (len : ℕ) (new rest : List Bool) → len ≡ length new → take len (new ++ rest) ≡ new
written len new rest is = ap (λ k. take k (new ++ rest)) is ∙ take-append_seam new rest

pub marks_are : (p : Problem) (set : List ℕ) (a b : ℕ) (made old new out : List Bool) → a ≡ length p.existentials → b ≡ length p.universals → made ≡ replicate (a + b) false → old ≡ made
    → new ≡ marked old (names_of_parts set (components_of p)) → out ≡ new → AreMarks (constants p) (assumed_by p set) out
marks_are p set a b made old new out first second is same done back =
    subst (AreMarks (constants p) (assumed_by p set)) (sym (back ∙ done)) (say_side p set (constants p) old (same ∙ is ∙ (λ i. replicate (first i + second i) false)))
