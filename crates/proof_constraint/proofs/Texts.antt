-- Texts that grow at their end.
use Rattle.std.proofs.Common.{ℕ, zero, suc, ◌≡◌, ◌≢◌, ◌≤◌, ◌<◌, ◌+◌, ◌^◌, ℤ, pos, Bool, true, false, cond, List, [], ◌∷◌, ◌++◌, refl, sym, ap, ◌∙◌, append_assoc, append-nil, arith, Some}
use Rattle.std.proofs.lemmas.Int.{ints}
use Rattle.std.proofs.lemmas.Bool.Decides.{Decides-int_eq}
use Rattle.std.specs.Prelude.{int_lt, unsigned_abs}
use Rattle.std.specs.Ordering.{int_eq}
use Rattle.std.specs.List.{AllByRecursion}
use Rattle.proof_tokens.specs.declared.tokens.Token.{Token}
use Rattle.proof_tokens.specs.declared.tokens.Token.TheVariants as t
use Rattle.linear_term.specs.Linear.{Linear}
use Rattle.proof_constraint.specs.declared.draft.Divisor.{Divisor}
use Rattle.clause_set.specs.declared.literal.Literal.{Literal}
use Rattle.proof_constraint.specs.Text.{behind, sign_text, factor_text, pair_text, pairs_text, number_text, constant_text, sum_text, divisor_text, literal_text, clause_text, dnf_text}
use Rattle.proof_constraint.specs.Machine.{signed, divided}
use Rattle.proof_constraint.proofs.Said.{before, is_first, above, ArePairs}

-- the last one of several
pub joined_last : {A : Type 0} (text : A → List Token) (sign : Token) (x : A) (xs : List A) (y : A)
    → text x ++ behind text sign (xs ++ y ∷ []) ≡ before text sign (x ∷ xs) ++ text y
joined_last text sign x [] y = simp (append_assoc, append-nil)
joined_last text sign x (z ∷ zs) y = ap (λ w. text x ++ t.Blank ∷ sign ∷ w) (joined_last text sign z zs y) ∙ sym (append_assoc (text x) _ (text y))

pub before_more : {A : Type 0} (text : A → List Token) (sign : Token) (xs : List A) (y : A)
    → before text sign (xs ++ y ∷ []) ≡ before text sign xs ++ text y ++ t.Blank ∷ sign ∷ []
before_more text sign [] y = refl
before_more text sign (x ∷ xs) y = ap (λ w. text x ++ t.Blank ∷ sign ∷ w) (before_more text sign xs y) ∙ simp append_assoc

pub before_all : {A : Type 0} (text : A → List Token) (sign : Token) (x : A) (xs : List A)
    → before text sign (x ∷ xs) ≡ (text x ++ behind text sign xs) ++ t.Blank ∷ sign ∷ []
before_all text sign x [] = simp append-nil
before_all text sign x (z ∷ zs) = ap (λ w. text x ++ t.Blank ∷ sign ∷ w) (before_all text sign z zs) ∙ simp append_assoc

pub clause_more : (c : List Literal) (y : Literal) → clause_text (c ++ y ∷ []) ≡ before literal_text t.And c ++ literal_text y
clause_more [] y = simp append-nil
clause_more (x ∷ xs) y = joined_last literal_text t.And x xs y

pub dnf_more : (d : List (List Literal)) (c : List Literal) → dnf_text (d ++ c ∷ []) ≡ before clause_text t.Or d ++ clause_text c
dnf_more [] c = simp append-nil
dnf_more (x ∷ xs) c = joined_last clause_text t.Or x xs c

pub pairs_more_later : (ps : List (ℕ × ℤ)) (p : ℕ × ℤ) → pairs_text false (ps ++ p ∷ []) ≡ pairs_text false ps ++ pair_text false p
pairs_more_later [] p = simp append-nil
pairs_more_later (q ∷ ps) p = ap (λ w. pair_text false q ++ w) (pairs_more_later ps p) ∙ sym (append_assoc (pair_text false q) (pairs_text false ps) (pair_text false p))

pub pairs_more : (ps : List (ℕ × ℤ)) (p : ℕ × ℤ) → pairs_text true (ps ++ p ∷ []) ≡ pairs_text true ps ++ pair_text (is_first ps) p
pairs_more [] p = simp append-nil
pairs_more (q ∷ ps) p = ap (λ w. pair_text true q ++ w) (pairs_more_later ps p) ∙ sym (append_assoc (pair_text true q) (pairs_text false ps) (pair_text false p))

is_false : (b : Bool) → (b ≡ true → ⊥) → b ≡ false
is_false true f = absurd (f refl)
is_false false f = refl

pub not_below : (n : ℕ) → int_lt (pos n) (pos 0) ≡ false
not_below n = grind (arith, ints)

pub is_not_zero : (n : ℕ) → 0 < n → int_eq (pos n) (pos 0) ≡ false
is_not_zero n h = is_false (int_eq (pos n) (pos 0)) (λ e. let q : pos n ≡ pos 0 = (Decides-int_eq (pos n) (pos 0)).0 e in let z : n ≡ 0 = cc in omega arith)

pub is_negative : (minus : Bool) (n : ℕ) → 0 < n → int_lt (signed minus n) (pos 0) ≡ minus
is_negative true zero h = absurd (omega arith)
is_negative true (suc n) h = refl
is_negative false n h = not_below n

pub size_of : (minus : Bool) (n : ℕ) → unsigned_abs (signed minus n) ≡ n
size_of true zero = refl
size_of true (suc n) = refl
size_of false n = refl

pub not_zero : (minus : Bool) (n : ℕ) → 0 < n → int_eq (signed minus n) (pos 0) ≡ false
not_zero true zero h = absurd (omega arith)
not_zero true (suc n) h = refl
not_zero false n h = is_not_zero n h

pub pair_is : (first minus : Bool) (n x : ℕ) → 0 < n → pair_text first (x, signed minus n) ≡ sign_text first minus ++ factor_text n x
pair_is first minus n x h = ap (λ m. sign_text first m ++ factor_text (unsigned_abs (signed minus n)) x) (is_negative minus n h) ∙ ap (λ k. sign_text first minus ++ factor_text k x) (size_of minus n)

pub constant_is : (ps : List (ℕ × ℤ)) (minus : Bool) (n : ℕ) → ((n ≡ 0) → (is_first ps ≡ true) × (minus ≡ false)) → constant_text ps (signed minus n) ≡ sign_text (is_first ps) minus ++ t.Number n ∷ []
constant_is [] true zero h = let q = h refl in absurd (cc)
constant_is [] true (suc n) h = refl
constant_is [] false n h = ap (λ m. sign_text true m ++ t.Number n ∷ []) (not_below n)
constant_is (p ∷ ps) minus zero h = let q = h refl in absurd (cc)
constant_is (p ∷ ps) true (suc n) h = refl
constant_is (p ∷ ps) false (suc n) h = ap (λ b. cond b [] (number_text false (pos (suc n)))) (is_not_zero (suc n) (omega arith)) ∙ ap (λ m. sign_text false m ++ t.Number (suc n) ∷ []) (not_below (suc n))

pub zero_constant : (ps : List (ℕ × ℤ)) → is_first ps ≡ false → constant_text ps (pos 0) ≡ []
zero_constant [] h = absurd (cc)
zero_constant (p ∷ ps) h = refl

divided_by : (n : ℤ) (negated : Bool) (s : Linear) → literal_text (divided (record { size = n; negated = negated }) s) ≡ divisor_text (Some (record { size = n; negated = negated })) ++ sum_text s
divided_by n true s = refl
divided_by n false s = refl

pub divided_is : (v : Divisor) (s : Linear) → literal_text (divided v s) ≡ divisor_text (Some v) ++ sum_text s
divided_is v s = divided_by v.size v.negated s

pub above_more : (n : ℕ) (ps : List (ℕ × ℤ)) (x : ℕ) (k : ℤ) → above n (ps ++ (x, k) ∷ []) ≡ x + 1
above_more n [] x k = refl
above_more n (p ∷ ps) x k = above_more (p.0 + 1) ps x k

pub pairs_fit : (n : ℕ) (ps : List (ℕ × ℤ)) (x : ℕ) (k : ℤ) → ArePairs n ps → above n ps ≤ x → x < 2 ^ 32 → k ≢ pos 0 → unsigned_abs k < 2 ^ 127 → ArePairs n (ps ++ (x, k) ∷ [])
pairs_fit n [] x k a h b c d = (h, b, c, d, tt)
pairs_fit n (p ∷ ps) x k a h b c d = (a.0, a.1, a.2, a.3, pairs_fit (p.0 + 1) ps x k a.4 h b c d)

pub all_more : {A : Type 0} (P : A → Type 0) (xs : List A) (y : A) → AllByRecursion P xs → P y → AllByRecursion P (xs ++ y ∷ [])
all_more P [] y a p = (p, tt)
all_more P (x ∷ xs) y a p = (a.0, all_more P xs y a.1 p)
