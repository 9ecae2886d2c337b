-- Constants that get quantifiers: which ones, of which types, and where they go.
use Rattle.std.proofs.Common.{◌≡◌, ◌≢◌, ◌+◌, ◌-◌, ◌<◌, ◌≤◌, ◌&&◌, not, ℕ, zero, suc, Bool, true, false, cond, nat_eq, nat_lt, List, [], ◌∷◌, ◌++◌, map, length, drop, get_or, filter, if◌then◌else◌, inl, inr, append_assoc, append-nil, refl, sym, ap, ◌∙◌, subst, arith, Result, Ok, Err, IfOk}
use Rattle.std.specs.List.{list_any}
use Rattle.std.proofs.lemmas.Bool.{cases_lt}
use Rattle.std.proofs.lemmas.Bool.Decides.{nat_tests}
use Rattle.base_budget.proofs.Charging.{drop-item, drop_all}
use Rattle.form_typed.specs.declared.typed.Sort.{Sort}
use Rattle.form_typed.specs.declared.typed.Sort.TheVariants.{Int}
use Rattle.form_typed.specs.Formula.{Formula, for_all, for_some}
use Rattle.form_encoding.specs.Meaning.{type_at}
use Rattle.form_encoding.specs.Occurrences.{occurs}
use Rattle.function_encoding.specs.Marks.{AreMarks, is_marked}
use Rattle.itp_sides.specs.Closing.{numbers_from, own_constants, place_of, quantified, rebound}
use Rattle.pred_interpolant.specs.Copies.{sent}

-- Quantifiers, the innermost first.

quantified-append : (all : Bool) (outer inner : List Sort) (f : Formula) → quantified all (outer ++ inner) f ≡ quantified all outer (quantified all inner f)
quantified-append all [] inner f = refl
quantified-append true (s ∷ outer) inner f = ap (for_all s) (quantified-append true outer inner f)
quantified-append false (s ∷ outer) inner f = ap (for_some s) (quantified-append false outer inner f)

pub quantified-last : (all : Bool) (sorts outer : List Sort) (last : Sort) (f : Formula) → sorts ≡ outer ++ last ∷ []
    → quantified all outer (quantified all (last ∷ []) f) ≡ quantified all sorts f
quantified-last all sorts outer last f e = sym (quantified-append all outer (last ∷ []) f) ∙ ap (λ z. quantified all z f) (sym e)

-- The place of a constant in a list.

-- where a constant goes whose place is looked for from the i-th on
abbrev pub found : ℕ → List ℕ → ℕ → ℕ → ℕ
found n xs x i = cond (list_any (nat_eq x) xs) (n + (i + place_of x xs)) x

found-other : (n : ℕ) (y : ℕ) (ys : List ℕ) (x i : ℕ) → nat_eq x y ≡ false → found n ys x (i + 1) ≡ found n (y ∷ ys) x i
found-other n y ys x i h = rw (h) (ap (λ k. cond (list_any (nat_eq x) ys) (n + k) x) (omega arith))

found-here : (n : ℕ) (y : ℕ) (ys : List ℕ) (x i : ℕ) → nat_eq x y ≡ true → n + i ≡ found n (y ∷ ys) x i
found-here n y ys x i h = rw (h) (omega arith)

number_is_not : (x y : ℕ) → x ≢ y → nat_eq x y ≡ false
number_is_not x y h = grind (arith, nat_tests)

number_is : (x y : ℕ) → x ≡ y → nat_eq x y ≡ true
number_is x y h = grind (arith, nat_tests)

item_is : (own : List ℕ) (i : ℕ) → i < length own → drop i own ≡ get_or own i 0 ∷ drop (i + 1) own
item_is own i lt = drop-item own i (get_or own i 0) lt (one own i lt)
  where
    one : (xs : List ℕ) (k : ℕ) → k < length xs → get_or xs k 0 ≡ get_or xs k (get_or xs k 0)
    one [] k l = absurd (omega arith)
    one (x ∷ xs) zero l = refl
    one (x ∷ xs) (suc k) l = same xs k (get_or xs k 0) 0 (omega arith)
      where
        same : (ys : List ℕ) (m d e : ℕ) → m < length ys → get_or ys m e ≡ get_or ys m d
        same [] m d e q = absurd (omega arith)
        same (y ∷ ys) zero d e q = refl
        same (y ∷ ys) (suc m) d e q = same ys m d e (omega arith)

pub found_next : (n : ℕ) (own : List ℕ) (x i k : ℕ) → i < length own → ¬ (get_or own i 0 ≡ x) → found n (drop i own) x i ≡ k → found n (drop (i + 1) own) x (i + 1) ≡ k
found_next n own x i k lt other h =
    found-other n (get_or own i 0) (drop (i + 1) own) x i (number_is_not x (get_or own i 0) (λ e. other (sym e))) ∙ ap (λ l. found n l x i) (sym (item_is own i lt)) ∙ h

pub found_stop : (n : ℕ) (own : List ℕ) (x i k : ℕ) → i < length own → get_or own i 0 ≡ x → found n (drop i own) x i ≡ k → n + i ≡ k
found_stop n own x i k lt same h =
    found-here n (get_or own i 0) (drop (i + 1) own) x i (number_is x (get_or own i 0) (sym same)) ∙ ap (λ l. found n l x i) (sym (item_is own i lt)) ∙ h

pub found_end : (n : ℕ) (own : List ℕ) (x i k : ℕ) → length own ≤ i → found n (drop i own) x i ≡ k → x ≡ k
found_end n own x i k le h = ap (λ l. found n l x i) (sym (drop_all own i le)) ∙ h

less_is : (x n : ℕ) → x < n → nat_lt x n ≡ true
less_is x n h = grind (arith, nat_tests)

less_is_not : (x n : ℕ) → n ≤ x → nat_lt x n ≡ false
less_is_not x n h = grind (arith, nat_tests)

pub found_rebound : (n : ℕ) (own : List ℕ) (x : ℕ) → x < n → found n own x 0 ≡ rebound n own x
found_rebound n own x lt =
    ap (λ k. cond (list_any (nat_eq x) own) (n + k) x) (omega arith)
    ∙ ap (λ c. cond c (cond (list_any (nat_eq x) own) (n + place_of x own) x) (x + length own)) (sym (less_is x n lt))

-- Numbers in order.

numbers-next : (x n : ℕ) → x < n → numbers_from x (n - x) ≡ x ∷ numbers_from (x + 1) (n - (x + 1))
numbers-next x n lt = ap (numbers_from x) (one (n - x) (n - (x + 1)) (omega arith)) ∙ ap (λ k. x ∷ numbers_from k (n - (x + 1))) (omega arith)
  where
    one : (a b : ℕ) → a ≡ suc b → a ≡ suc b
    one a b h = h

numbers_none : (x n : ℕ) → n ≤ x → numbers_from x (n - x) ≡ []
numbers_none x n le = ap (numbers_from x) (nothing (n - x) (omega arith))
  where
    nothing : (a : ℕ) → a ≡ zero → a ≡ zero
    nothing a h = h

pub table_next : {A : Type 0} (f : ℕ → A) (out new whole : List A) (x n : ℕ) → x < n → new ≡ out ++ f x ∷ [] → out ++ map f (numbers_from x (n - x)) ≡ whole
    → new ++ map f (numbers_from (x + 1) (n - (x + 1))) ≡ whole
table_next f out new whole x n lt e h =
    ap (λ l. l ++ map f (numbers_from (x + 1) (n - (x + 1)))) e ∙ append_assoc out (f x ∷ []) (map f (numbers_from (x + 1) (n - (x + 1))))
    ∙ ap (λ l. out ++ map f l) (sym (numbers-next x n lt)) ∙ h

pub table_end : {A : Type 0} (f : ℕ → A) (out whole : List A) (x n : ℕ) → n ≤ x → out ++ map f (numbers_from x (n - x)) ≡ whole → out ≡ whole
table_end f out whole x n le h = sym (append-nil out) ∙ ap (λ l. out ++ map f l) (sym (numbers_none x n le)) ∙ h

pub kept_next : (test : ℕ → Bool) (kept : Bool) (out new whole : List ℕ) (x n : ℕ) → x < n → kept ≡ test x → new ≡ out ++ cond kept (x ∷ []) [] → out ++ filter test (numbers_from x (n - x)) ≡ whole
    → new ++ filter test (numbers_from (x + 1) (n - (x + 1))) ≡ whole
kept_next test kept out new whole x n lt t e h =
    let rest = filter test (numbers_from (x + 1) (n - (x + 1))) in
    ap (λ l. l ++ rest) (e ∙ ap (λ b. out ++ cond b (x ∷ []) []) t) ∙ append_assoc out (cond (test x) (x ∷ []) []) rest
    ∙ ap (λ l. out ++ l) (sym (ap (filter test) (numbers-next x n lt) ∙ first (test x) rest)) ∙ h
  where
    first : (c : Bool) (ys : List ℕ) → (if c then x ∷ ys else ys) ≡ cond c (x ∷ []) [] ++ ys
    first true ys = refl
    first false ys = refl

pub kept_end : (test : ℕ → Bool) (out whole : List ℕ) (x n : ℕ) → n ≤ x → out ++ filter test (numbers_from x (n - x)) ≡ whole → out ≡ whole
kept_end test out whole x n le h = sym (append-nil out) ∙ ap (λ l. out ++ filter test l) (sym (numbers_none x n le)) ∙ h

-- The table sends each name where a closed formula has it.

get_or-table : {A : Type 0} (f : ℕ → A) (k n x : ℕ) (d : A) → x < n → get_or (map f (numbers_from k n)) x d ≡ f (k + x)
get_or-table f k zero x d lt = absurd (omega arith)
get_or-table f k (suc n) zero d lt = ap f (omega arith)
get_or-table f k (suc n) (suc x) d lt = get_or-table f (suc k) n x d (omega arith) ∙ ap f (omega arith)

length-table : {A : Type 0} (f : ℕ → A) (k n : ℕ) → length (map f (numbers_from k n)) ≡ n
length-table f k zero = refl
length-table f k (suc n) = ap suc (length-table f (suc k) n)

sent_below : (n : ℕ) (own : List ℕ) (x : ℕ) → x < n → sent (map (rebound n own) (numbers_from 0 n)) (length own) x ≡ rebound n own x
sent_below n own x lt =
    let table = map (rebound n own) (numbers_from 0 n) in
    ap (λ c. cond c (get_or table x 0) (x + length own)) (ap (nat_lt x) (length-table (rebound n own) 0 n) ∙ less_is x n lt)
    ∙ get_or-table (rebound n own) 0 n x 0 lt ∙ ap (rebound n own) (omega arith)

sent_behind : (n : ℕ) (own : List ℕ) (x : ℕ) → n ≤ x → sent (map (rebound n own) (numbers_from 0 n)) (length own) x ≡ rebound n own x
sent_behind n own x le =
    let table = map (rebound n own) (numbers_from 0 n) in
    ap (λ c. cond c (get_or table x 0) (x + length own)) (ap (nat_lt x) (length-table (rebound n own) 0 n) ∙ less_is_not x n le)
    ∙ sym (ap (λ c. cond c (cond (list_any (nat_eq x) own) (n + place_of x own) x) (x + length own)) (less_is_not x n le))

sent_is : (n : ℕ) (own : List ℕ) (x : ℕ) → sent (map (rebound n own) (numbers_from 0 n)) (length own) x ≡ rebound n own x
sent_is n own x = elim (cases_lt x n) [ inl lt ↦ sent_below n own x lt | inr le ↦ sent_behind n own x le ]

pub table_sends : (n : ℕ) (own table : List ℕ) (more : ℕ) → table ≡ map (rebound n own) (numbers_from 0 n) → more ≡ length own → sent table more ≡ rebound n own
table_sends n own table more e m = (λ i. sent (e i) (m i)) ∙ (λ i x. sent_is n own x i)

-- Types.

type_first : (ss ts : List Sort) (x : ℕ) → x < length ss → get_or ss x Int ≡ type_at (ss ++ ts) x
type_first [] ts x lt = absurd (omega arith)
type_first (s ∷ ss) ts zero lt = refl
type_first (s ∷ ss) ts (suc x) lt = type_first ss ts x (omega arith)

type_last : (ss ts : List Sort) (x : ℕ) → length ss ≤ x → type_at (ss ++ ts) x ≡ type_at ts (x - length ss)
type_last [] ts x le = ap (type_at ts) (omega arith)
type_last (s ∷ ss) ts zero le = absurd (omega arith)
type_last (s ∷ ss) ts (suc x) le = type_last ss ts x (omega arith) ∙ ap (type_at ts) (omega arith)

type_in : (ts : List Sort) (x : ℕ) → x < length ts → get_or ts x Int ≡ type_at ts x
type_in [] x lt = absurd (omega arith)
type_in (s ∷ ts) zero lt = refl
type_in (s ∷ ts) (suc x) lt = type_in ts x (omega arith)

type_past : (ts : List Sort) (x : ℕ) → length ts ≤ x → type_at ts x ≡ Int
type_past [] x le = refl
type_past (s ∷ ts) zero le = absurd (omega arith)
type_past (s ∷ ts) (suc x) le = type_past ts x (omega arith)

pub sort_first : (first ss ts : List Sort) (x : ℕ) → first ≡ ss → x < length first → get_or first x Int ≡ type_at (ss ++ ts) x
sort_first first ss ts x a lt = ap (λ l. get_or l x Int) a ∙ type_first ss ts x (subst (λ l. x < length l) a lt)

pub sort_last : (first last ss ts : List Sort) (x : ℕ) → first ≡ ss → last ≡ ts → length first ≤ x → x - length first < length last
    → get_or last (x - length first) Int ≡ type_at (ss ++ ts) x
sort_last first last ss ts x a b le lt =
    type_in last (x - length first) lt ∙ (λ i. type_at (b i) (x - length (a i))) ∙ sym (type_last ss ts x (subst (λ l. length l ≤ x) a le))

pub sort_none : (first last ss ts : List Sort) (x : ℕ) → first ≡ ss → last ≡ ts → length first ≤ x → length last ≤ x - length first → Int ≡ type_at (ss ++ ts) x
sort_none first last ss ts x a b le ge =
    sym (type_past last (x - length first) ge) ∙ (λ i. type_at (b i) (x - length (a i))) ∙ sym (type_last ss ts x (subst (λ l. length l ≤ x) a le))

-- Own constants by marks.

filter-same : (f g : ℕ → Bool) (k n : ℕ) → ((x : ℕ) → x < k + n → f x ≡ g x) → filter f (numbers_from k n) ≡ filter g (numbers_from k n)
filter-same f g k zero h = refl
filter-same f g k (suc n) h = both (f k) (g k) (h k (omega arith)) (filter-same f g (suc k) n (λ x lt. h x (omega (arith, lt))))
  where
    both : (a b : Bool) → a ≡ b → filter f (numbers_from (suc k) n) ≡ filter g (numbers_from (suc k) n)
        → (if a then k ∷ filter f (numbers_from (suc k) n) else filter f (numbers_from (suc k) n)) ≡ (if b then k ∷ filter g (numbers_from (suc k) n) else filter g (numbers_from (suc k) n))
    both a b e r = λ i. if e i then k ∷ r i else r i

pub marked_own : (n : ℕ) (f g : Formula) (own : List ℕ) (a b : List Bool) → AreMarks n f a → AreMarks n g b
    → own ≡ filter (λ x. is_marked a x && not (is_marked b x)) (numbers_from 0 (length a)) → own ≡ own_constants n f g
marked_own n f g own a b h k e =
    e ∙ ap (λ m. filter (λ x. is_marked a x && not (is_marked b x)) (numbers_from 0 m)) h.many
    ∙ filter-same (λ x. is_marked a x && not (is_marked b x)) (λ x. occurs x f && not (occurs x g)) 0 n (λ x lt. λ i. h.exact x (omega (arith, lt)) i && not (k.exact x (omega (arith, lt)) i))

length-kept : (test : ℕ → Bool) (k n : ℕ) → length (filter test (numbers_from k n)) ≤ n
length-kept test k zero = omega arith
length-kept test k (suc n) = by (test k) (length-kept test (suc k) n)
  where
    by : (c : Bool) → length (filter test (numbers_from (suc k) n)) ≤ n → length (if c then k ∷ filter test (numbers_from (suc k) n) else filter test (numbers_from (suc k) n)) ≤ suc n
    by true h = omega (arith, h)
    by false h = omega (arith, h)

pub few_own : (test : ℕ → Bool) (own : List ℕ) (n : ℕ) → own ≡ filter test (numbers_from 0 n) → n ≤ 1000 → length own ≤ 1000
few_own test own n e le = let l = length-kept test 0 n in let m = ap length e in omega (arith, l, m, le)

pub if_ok : {T E : Type 0} (r : Result T E) (P Q : T → Type 0) → ((v : T) → P v → Q v) → IfOk r P → IfOk r Q
if_ok (Ok v) P Q f h = f v h
if_ok (Err e) P Q f h = tt
