-- Reading a sum part by part.
use Rattle.std.proofs.Common.{ℕ, ◌≡◌, ◌+◌, ◌==◌, ◌&&◌, not, Bool, true, false, cond, List, [], ◌∷◌, length, take, drop, Option, Some, None, refl, sym, ap, ◌∙◌, one-add, arith}
use Rattle.std.specs.List.{prefix_len}
use Rattle.linear_term.specs.Linear.{Linear}
use Rattle.clause_words.specs.declared.terms.Part.TheVariants as p
use Rattle.clause_words.specs.declared.terms.Sum.{Sum}
use Rattle.clause_words.specs.Terms.{longer, parts, parts_behind, no_sign, part_of, with_name, ended, ended_by, sum_of}
use Rattle.std.proofs.lemmas.Bool.Decides.{nat_tests}

-- ---- the first part

abbrev Parts : Type 0
Parts = List (Bool × List ℕ)

sign_of : (b : ℕ) → (b == 43) ≡ true → (b == 45) ≡ false
sign_of b h = grind (arith, nat_tests)

first_part : (minus : Bool) (b : ℕ) (bs : List ℕ) (u v : Bool) → (b == 43) ≡ u → (b == 45) ≡ v
    → parts minus bs ≡ (minus, take (prefix_len no_sign bs) bs) ∷ parts_behind (drop (prefix_len no_sign bs) bs)
    → cond u ((minus, []) ∷ parts false bs) (cond v ((minus, []) ∷ parts true bs) (longer b minus (parts minus bs)))
    ≡ (minus, take (cond (not u && not v) (1 + prefix_len no_sign bs) 0) (b ∷ bs)) ∷ parts_behind (drop (cond (not u && not v) (1 + prefix_len no_sign bs) 0) (b ∷ bs))
first_part minus b bs true v p q h = ap (λ z. (minus, []) ∷ parts z bs) (sym (sign_of b p))
first_part minus b bs false true p q h = ap (λ z. (minus, []) ∷ parts z bs) (sym q)
first_part minus b bs false false p q h = ap (longer b minus) h ∙ rw one-add refl

-- the first part, and what its sign begins after it
pub split_is : (minus : Bool) (word : List ℕ) → parts minus word ≡ (minus, take (prefix_len no_sign word) word) ∷ parts_behind (drop (prefix_len no_sign word) word)
unfolding parts
split_is minus [] = refl
split_is minus (b ∷ bs) = first_part minus b bs (b == 43) (b == 45) refl refl (split_is minus bs)

-- ---- one part after another

longer_some : (minus : Bool) (b : ℕ) (ps : Parts) → (x : Bool × List ℕ) × (xs : Parts) × (longer b minus ps ≡ x ∷ xs)
longer_some minus b [] = ((minus, b ∷ []), [], refl)
longer_some minus b (s ∷ more) = ((s.0, b ∷ s.1), more, refl)

some_parts : (minus : Bool) (word : List ℕ) → (x : Bool × List ℕ) × (xs : Parts) × (parts minus word ≡ x ∷ xs)
unfolding parts
some_parts minus [] = ((minus, []), [], refl)
some_parts minus (b ∷ bs) = by (b == 43) (b == 45)
  where
    by : (u v : Bool) → (x : Bool × List ℕ) × (xs : Parts) × (cond u ((minus, []) ∷ parts false bs) (cond v ((minus, []) ∷ parts true bs) (longer b minus (parts minus bs))) ≡ x ∷ xs)
    by true v = ((minus, []), parts false bs, refl)
    by false true = ((minus, []), parts true bs, refl)
    by false false = longer_some minus b (parts minus bs)

pub bad_part : (s : Sum) (minus : Bool) (w : List ℕ) (ws : Parts) → part_of w ≡ None → sum_of s ((minus, w) ∷ ws) ≡ None
unfolding sum_of
bad_part s minus w ws h = rw h refl

pub last_constant : (s : Sum) (minus : Bool) (w : List ℕ) (n : ℕ) → part_of w ≡ Some (p.Constant n) → sum_of s ((minus, w) ∷ []) ≡ ended s minus n
unfolding sum_of
last_constant s minus w n h = rw h refl

pub more_constant_by : (s : Sum) (minus : Bool) (w : List ℕ) (n : ℕ) (v : Bool × List ℕ) (vs : Parts) → part_of w ≡ Some (p.Constant n) → sum_of s ((minus, w) ∷ v ∷ vs) ≡ None
unfolding sum_of
more_constant_by s minus w n v vs h = rw h refl

pub constant_is : (s : Sum) (minus : Bool) (w behind : List ℕ) (n : ℕ) → part_of w ≡ Some (p.Constant n) → sum_of s ((minus, w) ∷ parts_behind behind) ≡ ended_by behind s minus n
constant_is s minus w [] n h = last_constant s minus w n h
constant_is s minus w (b ∷ bs) n h = let m = some_parts (b == 45) bs in ap (λ z. sum_of s ((minus, w) ∷ z)) m.2 ∙ more_constant_by s minus w n m.0 m.1 h

pub one_name : (s t : Sum) (minus : Bool) (w : List ℕ) (ws : Parts) (n x : ℕ) → part_of w ≡ Some (p.Monomial n x) → with_name s minus n x ≡ Some t → sum_of s ((minus, w) ∷ ws) ≡ sum_of t ws
unfolding sum_of
one_name s t minus w ws n x h k = rw (h, k) refl

pub no_name : (s : Sum) (minus : Bool) (w : List ℕ) (ws : Parts) (n x : ℕ) → part_of w ≡ Some (p.Monomial n x) → with_name s minus n x ≡ None → sum_of s ((minus, w) ∷ ws) ≡ None
unfolding sum_of
no_name s minus w ws n x h k = rw (h, k) refl

pub no_more : (s : Sum) → sum_of s [] ≡ Some s.term
unfolding sum_of
no_more s = refl

-- ---- the loop

-- the sum and the parts that are left are the whole
abbrev pub Goes : Sum → Bool → List ℕ → Option Linear → Type 0
Goes s minus rest whole = sum_of s (parts minus rest) ≡ whole

-- the first part of what is left
abbrev pub Begins : Bool → List ℕ → List ℕ → List ℕ → Type 0
Begins minus rest w behind = parts minus rest ≡ (minus, w) ∷ parts_behind behind

split_goes : (s : Sum) (minus : Bool) (rest w behind : List ℕ) (whole : Option Linear) → Goes s minus rest whole → Begins minus rest w behind → sum_of s ((minus, w) ∷ parts_behind behind) ≡ whole
split_goes s minus rest w behind whole g b = ap (sum_of s) (sym b) ∙ g

pub none_here : (s : Sum) (minus : Bool) (rest w behind : List ℕ) (whole : Option Linear) → Goes s minus rest whole → Begins minus rest w behind → part_of w ≡ None → None ≡ whole
none_here s minus rest w behind whole g b h = sym (bad_part s minus w (parts_behind behind) h) ∙ split_goes s minus rest w behind whole g b

pub constant_here : (s : Sum) (minus : Bool) (rest w behind : List ℕ) (whole : Option Linear) (n : ℕ) → Goes s minus rest whole → Begins minus rest w behind → part_of w ≡ Some (p.Constant n) → ended_by behind s minus n ≡ whole
constant_here s minus rest w behind whole n g b h = sym (constant_is s minus w behind n h) ∙ split_goes s minus rest w behind whole g b

pub no_name_here : (s : Sum) (minus : Bool) (rest w behind : List ℕ) (whole : Option Linear) (n x : ℕ) → Goes s minus rest whole → Begins minus rest w behind → part_of w ≡ Some (p.Monomial n x) → with_name s minus n x ≡ None → None ≡ whole
no_name_here s minus rest w behind whole n x g b h k = sym (no_name s minus w (parts_behind behind) n x h k) ∙ split_goes s minus rest w behind whole g b

pub last_name_here : (s t : Sum) (minus : Bool) (rest w behind : List ℕ) (whole : Option Linear) (n x : ℕ) → Goes s minus rest whole → Begins minus rest w behind → part_of w ≡ Some (p.Monomial n x) → with_name s minus n x ≡ Some t → length behind ≡ 0 → Some t.term ≡ whole
last_name_here s t minus rest w [] whole n x g b h k e = sym (no_more t) ∙ sym (one_name s t minus w [] n x h k) ∙ split_goes s minus rest w [] whole g b
last_name_here s t minus rest w (c ∷ cs) whole n x g b h k e = absurd (omega arith)

pub name_here : (s t : Sum) (minus next : Bool) (rest w behind : List ℕ) (whole : Option Linear) (n x sign : ℕ) (more : List ℕ) → Goes s minus rest whole → Begins minus rest w behind → part_of w ≡ Some (p.Monomial n x) → with_name s minus n x ≡ Some t
    → behind ≡ sign ∷ more → next ≡ (sign == 45) → Goes t next more whole
name_here s t minus next rest w behind whole n x sign more g b h k e d =
    ap (λ z. sum_of t (parts z more)) d ∙ ap (λ z. sum_of t (parts_behind z)) (sym e) ∙ sym (one_name s t minus w (parts_behind behind) n x h k) ∙ split_goes s minus rest w behind whole g b
