-- Prices, one part more each time.
use Rattle.std.proofs.Common.{◌≡◌, ◌≢◌, ℤ, ℕ, zero, suc, ◌<◌, ◌≤◌, ◌+◌, ◌*◌, ◌^◌, List, [], ◌∷◌, ◌++◌, drop, take, length, get_or, Option, Some, None, refl, sym, ap, ◌∙◌, subst, arith}
use Rattle.std.specs.Prelude.{map}
use Rattle.std.specs.Borrow.{Bor}
use Rattle.std.specs.List.{slice_get}
use Rattle.std.specs.Option.{option_copied}
use Rattle.std.proofs.Math.Nat.{mul_comm}
use Rattle.std.proofs.lemmas.List.{drop_more}
use Rattle.base_budget.specs.Trace.{capped}
use Rattle.base_budget.proofs.Charging.{drop-item, drop_all}
use Rattle.clause_set.proofs.Weights.{sums_more, sums_all, capped_product}
use Rattle.formula.specs.Form.{Form}
use Rattle.formula.specs.Tree.{form, forms_of}
use Rattle.formula.specs.declared.calculus.Core.{Core}
use Rattle.clause_checker.specs.Prices.{arguments_price, atom_price, closure_parts, found_parts, instance_price, literal_price, members_price, or_none, priced, read_price, reading_of, two_forms, width, widths_price, IsGround, IsLevelAbove}
use Rattle.linear_term.specs.Linear.{Linear}
use Rattle.clause_proof.specs.Clauses as q
use Rattle.clause_checker.proofs.Opens.{at_none, at_some}
use Rattle.clause_checker.specs.Views.{body_at, definition_of, definitions_of}
use Rattle.clause_checker.specs.declared.state.Definition.{Definition}

-- a part of a price beside another
pub plus : (a n p : ℕ) → n ≡ capped p → capped (a + n) ≡ capped (a + p)
plus a n p h = omega (arith, h)

pub both : (m n p q : ℕ) → m ≡ capped p → n ≡ capped q → capped (m + n) ≡ capped (p + q)
both m n p q h k = omega (arith, h, k)

pub one_more : (n p : ℕ) → n ≡ capped p → capped (suc n) ≡ capped (suc p)
one_more n p h = omega (arith, h)

-- a new name after the widths
pub with_name : (ws us : List ℕ) (f : Form) (m n r : ℕ) → m ≡ capped (widths_price ws) → us ≡ ws ++ 1 ∷ [] → n ≡ capped (literal_price us f) → r ≡ capped (m + n) → r ≡ capped (widths_price ws + literal_price (ws ++ 1 ∷ []) f)
with_name ws us f m n r h is k l = l ∙ both m n (widths_price ws) (literal_price us f) h k ∙ ap (λ v. capped (widths_price ws + literal_price v f)) is

pub ruleset adding = (plus, both, one_more, with_name)

pub ruleset pricing = (sums_more, sums_all, one_more)

-- a product of two prices
pub product : (m n p q : ℕ) → m ≡ capped p → n ≡ capped q → capped (m * n) ≡ capped (p * q)
product m n p q h k = capped_product m q n k ∙ ap capped (mul_comm m q) ∙ capped_product q p m h ∙ ap capped (mul_comm q p)

pub ruleset products = (capped_product, product, one_more)

-- ---- what is looked up
pub width_none : (ws : List ℕ) (x : ℕ) (o : Option (Bor ℕ)) → option_copied o ≡ slice_get ws x → o ≡ None → 0 ≡ or_none (slice_get ws x)
width_none ws x o is at = ap or_none (sym (ap option_copied at) ∙ is)

pub width_some : (ws : List ℕ) (x : ℕ) (o : Option (Bor ℕ)) (w : Bor ℕ) → option_copied o ≡ slice_get ws x → o ≡ Some w → w.now ≡ or_none (slice_get ws x)
width_some ws x o w is at = ap or_none (sym (ap option_copied at) ∙ is)

pub parts_none : (ds : List Definition) (i : ℕ) (o : Option (Bor Definition)) → option_copied o ≡ slice_get ds i → o ≡ None → None ≡ found_parts (slice_get (definitions_of ds) i)
parts_none ds i o is at = sym (ap found_parts (at_none ds i o is at))

pub parts_some : (ds : List Definition) (i : ℕ) (o : Option (Bor Definition)) (d : Bor Definition) (x : Option (Form × List Linear)) → option_copied o ≡ slice_get ds i → o ≡ Some d → x ≡ closure_parts (definition_of d.now)
    → x ≡ found_parts (slice_get (definitions_of ds) i)
parts_some ds i o d x is at h = h ∙ sym (ap found_parts (at_some ds i o d is at))

pub terms_none : (ds : List Definition) (i : ℕ) (f : q.Definition → ℕ) (o : Option (Bor Definition)) → option_copied o ≡ slice_get ds i → o ≡ None → 0 ≡ capped (priced (slice_get (definitions_of ds) i) f)
terms_none ds i f o is at = sym (ap (λ z. capped (priced z f)) (at_none ds i o is at))

pub terms_some : (ds : List Definition) (i : ℕ) (f : q.Definition → ℕ) (o : Option (Bor Definition)) (d : Bor Definition) (n : ℕ) → option_copied o ≡ slice_get ds i → o ≡ Some d → n ≡ capped (f (definition_of d.now))
    → n ≡ capped (priced (slice_get (definitions_of ds) i) f)
terms_some ds i f o d n is at h = h ∙ sym (ap (λ z. capped (priced z f)) (at_some ds i o d is at))

pub priced_none : {A : Type 0} (xs : List A) (i : ℕ) (f : A → ℕ) (o : Option (Bor A)) → option_copied o ≡ slice_get xs i → o ≡ None → 0 ≡ capped (priced (slice_get xs i) f)
priced_none xs i f o is at = ap (λ z. capped (priced z f)) (sym (ap option_copied at) ∙ is)

pub priced_some : {A : Type 0} (xs : List A) (i : ℕ) (f : A → ℕ) (o : Option (Bor A)) (x : Bor A) (n : ℕ) → option_copied o ≡ slice_get xs i → o ≡ Some x → n ≡ capped (f x.now) → n ≡ capped (priced (slice_get xs i) f)
priced_some xs i f o x n is at h = h ∙ ap (λ z. capped (priced z f)) (sym (ap option_copied at) ∙ is)

pub length_none : {A : Type 0} (xs : List A) (i : ℕ) (f : A → ℕ) (o : Option (Bor A)) → option_copied o ≡ slice_get xs i → o ≡ None → 0 ≡ priced (slice_get xs i) f
length_none xs i f o is at = ap (λ z. priced z f) (sym (ap option_copied at) ∙ is)

pub length_some : {A : Type 0} (xs : List A) (i : ℕ) (f : A → ℕ) (o : Option (Bor A)) (x : Bor A) (n : ℕ) → option_copied o ≡ slice_get xs i → o ≡ Some x → n ≡ f x.now → n ≡ priced (slice_get xs i) f
length_some xs i f o x n is at h = h ∙ ap (λ z. priced z f) (sym (ap option_copied at) ∙ is)

pub ruleset found = (width_none, width_some, parts_none, parts_some, terms_none, terms_some, priced_none, priced_some, length_none, length_some)

-- ---- a price so far, with what is left of all
pub record PriceLeft (total left all : ℕ) : Type 0 where
  pub is : capped (total + left) ≡ capped all
  pub fits : total < 2 ^ 64

pub left_none : (p : ℕ) → PriceLeft 0 p p
left_none p = record { is = ap capped (omega arith); fits = omega arith }

pub left_more : (total n new p left rest all : ℕ) → n ≡ capped p → new ≡ capped (total + n) → left ≡ p + rest → PriceLeft total left all → PriceLeft new rest all
left_more total n new p left rest all h k l t = let is = t.is in record { is = omega (arith, h, k, l, is); fits = omega (arith, k) }

pub left_end : (total n new p left all : ℕ) → n ≡ capped p → new ≡ capped (total + n) → left ≡ p → PriceLeft total left all → new ≡ capped all
left_end total n new p left all h k l t = let is = t.is in omega (arith, h, k, l, is)

pub left_done : (total left all : ℕ) → left ≡ 0 → PriceLeft total left all → total ≡ capped all
left_done total left all l t = let is = t.is in let fits = t.fits in omega (arith, l, is, fits)

-- ---- the literal of a formula
pub levels_more : (ws : List ℕ) (levels new all : ℕ) (f g : Form) → IsLevelAbove f g → new ≡ capped (suc levels) → PriceLeft levels (literal_price ws f) all → PriceLeft new (literal_price ws g) all
levels_more ws levels new all f g above h t = let a = above.is ws in left_more levels 1 new 1 (literal_price ws f) (literal_price ws g) all refl (omega (arith, h)) (omega (arith, a)) t

pub levels_end : (ws : List ℕ) (levels n m r all : ℕ) (f : Form) → IsGround f → n ≡ capped (atom_price ws f) → m ≡ capped (suc n) → r ≡ capped (levels + m) → PriceLeft levels (literal_price ws f) all → r ≡ capped all
levels_end ws levels n m r all f ground h k l t = left_end levels m r (suc (atom_price ws f)) (literal_price ws f) all (omega (arith, h, k)) l (ground.is ws) t

pub ruleset literals = (left_none, levels_more, levels_end)

-- ---- members
pub members_none : (ws : List ℕ) (fs : List Core) → PriceLeft 0 (members_price ws (forms_of fs)) (members_price ws (forms_of fs))
members_none ws fs = left_none (members_price ws (forms_of fs))

pub members_more : (ws : List ℕ) (fs : List Core) (i : ℕ) (f : Core) (total n new all : ℕ) → i < length fs → f ≡ get_or fs i f → n ≡ capped (literal_price ws (form f)) → new ≡ capped (total + n)
    → PriceLeft total (members_price ws (forms_of (drop i fs))) all → PriceLeft new (members_price ws (forms_of (drop (i + 1) fs))) all
members_more ws fs i f total n new all lt is h k t =
    left_more total n new (literal_price ws (form f)) _ (members_price ws (forms_of (drop (i + 1) fs))) all h k (ap (λ l. members_price ws (forms_of l)) (drop-item fs i f lt is)) t

pub members_all : (ws : List ℕ) (fs : List Core) (i total all : ℕ) → length fs ≤ i → PriceLeft total (members_price ws (forms_of (drop i fs))) all → total ≡ capped all
members_all ws fs i total all le t = left_done total _ all (ap (λ l. members_price ws (forms_of l)) (drop_all fs i le)) t

pub ruleset members = (members_none, members_more, members_all)

-- ---- two members
pub two_not : (fs : List Core) → length fs ≢ 2 → None ≡ two_forms (forms_of fs)
two_not [] n = refl
two_not (a ∷ []) n = refl
two_not (a ∷ b ∷ []) n = absurd (n refl)
two_not (a ∷ b ∷ c ∷ fs) n = refl

there : (xs : List Core) (j : ℕ) → j < length xs → slice_get xs j ≡ None → ⊥
there [] j lt h = absurd (omega (arith, lt))
there (x ∷ xs) zero lt h = absurd (cc)
there (x ∷ xs) (suc j) lt h = there xs j (omega (arith, lt)) h

pub two_lacks : (fs : List Core) (i : ℕ) (o : Option (Bor Core)) → length fs ≡ 2 → i < 2 → option_copied o ≡ slice_get fs i → o ≡ None → None ≡ two_forms (forms_of fs)
two_lacks fs i o len lt is at = absurd (there fs i (subst (λ n. i < n) (sym len) lt) (sym is ∙ ap option_copied at))

both_there : (fs : List Core) (a b : Core) → length fs ≡ 2 → slice_get fs 0 ≡ Some a → slice_get fs 1 ≡ Some b → fs ≡ a ∷ b ∷ []
both_there [] a b len x y = absurd (cc)
both_there (c ∷ []) a b len x y = absurd (cc)
both_there (c ∷ d ∷ []) a b len x y = let one : c ≡ a = cc in let two : d ≡ b = cc in λ i. one i ∷ two i ∷ []
both_there (c ∷ d ∷ g ∷ fs) a b len x y = absurd (omega (arith, len))

pub two_are : (fs : List Core) (oa ob : Option (Bor Core)) (a b : Bor Core) → length fs ≡ 2 → option_copied oa ≡ slice_get fs 0 → oa ≡ Some a → option_copied ob ≡ slice_get fs 1 → ob ≡ Some b
    → Some (form a.now, form b.now) ≡ two_forms (forms_of fs)
two_are fs oa ob a b len ia ha ib hb = sym (ap (λ l. two_forms (forms_of l)) (both_there fs a.now b.now len (sym ia ∙ ap option_copied ha) (sym ib ∙ ap option_copied hb)))

pub ruleset two_ones = (two_not, two_lacks, two_are)

-- ---- closures
pub reads_more : (ws us : List ℕ) (bs : List ℕ) (i : ℕ) (f g h : Form) (total copies arguments new all : ℕ) → i < length bs → reading_of f ≡ Some (g, h) → us ≡ ws ++ 1 ∷ [] → copies ≡ capped (suc (widths_price ws))
    → arguments ≡ capped (arguments_price ws g) → new ≡ capped (total + capped (copies + arguments)) → PriceLeft total (read_price ws (drop i bs) f) all → PriceLeft new (read_price us (drop (i + 1) bs) h) all
reads_more ws us bs i f g h total copies arguments new all lt found grown k m n t =
    left_more total (capped (copies + arguments)) new (suc (widths_price ws) + arguments_price ws g) _ (read_price us (drop (i + 1) bs) h) all (both copies arguments _ _ k m) n
    (ap (λ l. read_price ws l f) (drop_more bs i 0 lt) ∙ ap (λ o. priced o (λ x. suc (widths_price ws) + arguments_price ws x.0 + read_price (ws ++ 1 ∷ []) (drop (i + 1) bs) x.1)) found ∙ ap (λ l. suc (widths_price ws) + arguments_price ws g + read_price l (drop (i + 1) bs) h) (sym grown))
    t

pub reads_stop : (ws bs : List ℕ) (i total all : ℕ) (f : Form) → i < length bs → reading_of f ≡ None → PriceLeft total (read_price ws (drop i bs) f) all → total ≡ capped all
reads_stop ws bs i total all f lt found t =
    left_done total _ all (ap (λ l. read_price ws l f) (drop_more bs i 0 lt) ∙ ap (λ o. priced o (λ x. suc (widths_price ws) + arguments_price ws x.0 + read_price (ws ++ 1 ∷ []) (drop (i + 1) bs) x.1)) found) t

pub reads_end : (ws bs : List ℕ) (i total n new all : ℕ) (f : Form) → length bs ≤ i → n ≡ capped (literal_price ws f) → new ≡ capped (total + n) → PriceLeft total (read_price ws (drop i bs) f) all → new ≡ capped all
reads_end ws bs i total n new all f le h k t = left_end total n new (literal_price ws f) _ all h k (ap (λ l. read_price ws l f) (drop_all bs i le)) t

pub ruleset reads = (left_none, reads_end)

pub instances_more : (ws vs : List ℕ) (us : List Linear) (i : ℕ) (u : Linear) (f g : Form) (total copies new all : ℕ) → i < length us → u ≡ get_or us i u → body_at f ≡ Some g → vs ≡ ws ++ width u ∷ [] → copies ≡ capped (suc (width u) + widths_price ws)
    → new ≡ capped (total + copies) → PriceLeft total (instance_price ws (drop i us) f) all → PriceLeft new (instance_price vs (drop (i + 1) us) g) all
instances_more ws vs us i u f g total copies new all lt is found grown k m t =
    left_more total copies new (suc (width u) + widths_price ws) _ (instance_price vs (drop (i + 1) us) g) all k m
    (ap (λ l. instance_price ws l f) (drop-item us i u lt is) ∙ ap (λ o. priced o (λ x. suc (width u) + widths_price ws + instance_price (ws ++ width u ∷ []) (drop (i + 1) us) x)) found ∙ ap (λ l. suc (width u) + widths_price ws + instance_price l (drop (i + 1) us) g) (sym grown))
    t

pub instances_stop : (ws : List ℕ) (us : List Linear) (i : ℕ) (u : Linear) (total all : ℕ) (f : Form) → i < length us → u ≡ get_or us i u → body_at f ≡ None → PriceLeft total (instance_price ws (drop i us) f) all → total ≡ capped all
instances_stop ws us i u total all f lt is found t =
    left_done total _ all (ap (λ l. instance_price ws l f) (drop-item us i u lt is) ∙ ap (λ o. priced o (λ x. suc (width u) + widths_price ws + instance_price (ws ++ width u ∷ []) (drop (i + 1) us) x)) found) t

pub instances_end : (ws : List ℕ) (us : List Linear) (i total n new all : ℕ) (f : Form) → length us ≤ i → n ≡ capped (literal_price ws f) → new ≡ capped (total + n) → PriceLeft total (instance_price ws (drop i us) f) all → new ≡ capped all
instances_end ws us i total n new all f le h k t = left_end total n new (literal_price ws f) _ all h k (ap (λ l. instance_price ws l f) (drop_all us i le)) t

pub ruleset instances = (left_none, instances_end)

-- ---- as many zeros as there are numbers
abbrev no_width : ℤ → ℕ
no_width k = 0

pub zeros_more : (xs : List ℤ) (i : ℕ) (ws us : List ℕ) → i < length xs → ws ≡ map no_width (take i xs) → us ≡ ws ++ 0 ∷ [] → us ≡ map no_width (take (i + 1) xs)
zeros_more xs i ws us lt is more = subst (λ j. us ≡ map no_width (take j xs)) one (more ∙ ap (λ (z : List ℕ). z ++ 0 ∷ []) is ∙ go xs i lt)
  where
    one : suc i ≡ i + 1
    one = omega arith

    with_none : List ℕ → List ℕ
    with_none ws = ws ++ 0 ∷ []

    go : (xs : List ℤ) (i : ℕ) → i < length xs → with_none (map no_width (take i xs)) ≡ map no_width (take (suc i) xs)
    go [] i lt = absurd (omega (arith, lt))
    go (x ∷ xs) zero lt = refl
    go (x ∷ xs) (suc i) lt = ap (λ (z : List ℕ). 0 ∷ z) (go xs i (omega (arith, lt)))

pub ruleset starting = (zeros_more, plus, both, one_more)
