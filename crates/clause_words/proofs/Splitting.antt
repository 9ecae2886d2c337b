-- The tokens of a text, and those of what stands after the first one.
use Rattle.std.proofs.Common.{ℕ, ◌≡◌, ◌+◌, ◌==◌, ◌||◌, not, Bool, true, false, cond, List, [], ◌∷◌, ◌++◌, length, take, drop, Option, Some, None, Err, refl, sym, ap, subst, ◌∙◌, arith, one-add}
use Rattle.std.specs.List.{prefix_len, list_all}
use Rattle.base_numerals.proofs.Tests.{left_true, right_true, front_all}
use Rattle.clause_words.specs.Tokens.{separates, in_word, is_separator, joined, tokens, spelled, size, with_word, stops}
use Rattle.clause_words.specs.Reading.{Token, done, ◌>>=◌, or_refused, word_as, joint}

-- ---- how many bytes tokens have

joined_size : (b : ℕ) (ts : List Token) → size (joined b ts) ≡ 1 + size ts
joined_size b [] = refl
joined_size b (x ∷ xs) = by (is_separator x)
  where
    by : (v : Bool) → size (cond v ((b ∷ []) ∷ x ∷ xs) ((b ∷ x) ∷ xs)) ≡ 1 + size (x ∷ xs)
    by true = omega arith
    by false = omega arith

size_by : (b : ℕ) (bs : List ℕ) (v : Bool) → size (tokens bs) ≡ length bs → size (cond v ((b ∷ []) ∷ tokens bs) (joined b (tokens bs))) ≡ length (b ∷ bs)
size_by b bs true h = omega (arith, h)
size_by b bs false h = omega (arith, h, joined_size b (tokens bs))

pub size_is : (text : List ℕ) → size (tokens text) ≡ length text
unfolding tokens
size_is [] = refl
size_is (b ∷ bs) = size_by b bs (separates b) (size_is bs)

-- ---- the first word

not_true : (v : Bool) → not v ≡ true → v ≡ false
not_true true e = absurd cc
not_true false e = refl

-- no word goes on after the bytes of a word
pub rest_stops : (text : List ℕ) → stops (drop (prefix_len in_word text) text) ≡ true
rest_stops [] = refl
rest_stops (b ∷ bs) = by (separates b) refl (rest_stops bs)
  where
    by : (v : Bool) → separates b ≡ v → stops (drop (prefix_len in_word bs) bs) ≡ true → stops (drop (cond (not v) (1 + prefix_len in_word bs) 0) (b ∷ bs)) ≡ true
    by true e h = e
    by false e h = rw one-add h

-- one more byte before a word
joined_stop : (b : ℕ) (rest : List ℕ) → stops rest ≡ true → joined b (tokens rest) ≡ (b ∷ []) ∷ tokens rest
unfolding tokens
joined_stop b [] h = refl
joined_stop b (c ∷ cs) h =
    let e : tokens (c ∷ cs) ≡ (c ∷ []) ∷ tokens cs = ap (λ v. cond v ((c ∷ []) ∷ tokens cs) (joined c (tokens cs))) h in
    rw e (ap (λ v. cond v ((b ∷ []) ∷ (c ∷ []) ∷ tokens cs) ((b ∷ c ∷ []) ∷ tokens cs)) h)

joined_word : (b : ℕ) (w rest : List ℕ) → list_all in_word w ≡ true → stops rest ≡ true → joined b (with_word w (tokens rest)) ≡ (b ∷ w) ∷ tokens rest
joined_word b [] rest h s = joined_stop b rest s
joined_word b (c ∷ cs) rest h s =
    let e : separates c ≡ false = not_true (separates c) (left_true (in_word c) (list_all in_word cs) h) in
    ap (λ v. cond v ((b ∷ []) ∷ (c ∷ cs) ∷ tokens rest) ((b ∷ c ∷ cs) ∷ tokens rest)) e

-- the tokens of a word and a text in which it does not go on
pub word_before : (w rest : List ℕ) → list_all in_word w ≡ true → stops rest ≡ true → tokens (w ++ rest) ≡ with_word w (tokens rest)
unfolding tokens
word_before [] rest h s = refl
word_before (b ∷ w) rest h s =
    let e : separates b ≡ false = not_true (separates b) (left_true (in_word b) (list_all in_word w) h) in
    let more = right_true (in_word b) (list_all in_word w) h in
    ap (λ v. cond v ((b ∷ []) ∷ tokens (w ++ rest)) (joined b (tokens (w ++ rest)))) e
    ∙ ap (joined b) (word_before w rest more s)
    ∙ joined_word b w rest more s

pub split_is : (text : List ℕ) → tokens text ≡ with_word (take (prefix_len in_word text) text) (tokens (drop (prefix_len in_word text) text))
split_is text =
    ap tokens (sym (Rattle.std.proofs.lemmas.List.take-append-drop (prefix_len in_word text) text))
    ∙ word_before (take (prefix_len in_word text) text) (drop (prefix_len in_word text) text) (front_all in_word text) (rest_stops text)

pub plain_front : (w : List ℕ) → list_all in_word w ≡ true → is_separator w ≡ false
plain_front [] h = refl
plain_front (b ∷ bs) h = not_true (separates b) (left_true (in_word b) (list_all in_word bs) h)

pub split_plain : (text : List ℕ) → is_separator (take (prefix_len in_word text) text) ≡ false
split_plain text = plain_front (take (prefix_len in_word text) text) (front_all in_word text)

-- ---- no word

pub no_word : {A : Type 0} (f : List ℕ → Option A) (rest : List ℕ) → stops rest ≡ true → word_as f (tokens rest) ≡ Err (length rest)
unfolding tokens word_as
no_word f [] h = refl
no_word f (b ∷ bs) h =
    let e : tokens (b ∷ bs) ≡ (b ∷ []) ∷ tokens bs = ap (λ v. cond v ((b ∷ []) ∷ tokens bs) (joined b (tokens bs))) h in
    ap (word_as f) e ∙ ap (λ v. or_refused (size ((b ∷ []) ∷ tokens bs)) (cond v None (f (b ∷ []))) >>= λ x. done x (tokens bs)) h
    ∙ ap Err (omega (arith, size_is bs))

-- ---- what joins words

other_first : (b : ℕ) (w : List ℕ) (xs : List Token) → (b == 32) ≡ false → (b == 10) ≡ false → joint ((b ∷ w) ∷ xs) ≡ Err (size ((b ∷ w) ∷ xs))
unfolding joint
other_first b w xs p q = simp (p, q) refl

other_joined : (b : ℕ) (ts : List Token) → (b == 32) ≡ false → (b == 10) ≡ false → joint (joined b ts) ≡ Err (size (joined b ts))
other_joined b [] p q = other_first b [] [] p q
other_joined b (x ∷ xs) p q = by (is_separator x)
  where
    by : (v : Bool) → joint (cond v ((b ∷ []) ∷ x ∷ xs) ((b ∷ x) ∷ xs)) ≡ Err (size (cond v ((b ∷ []) ∷ x ∷ xs) ((b ∷ x) ∷ xs)))
    by true = other_first b [] (x ∷ xs) p q
    by false = other_first b x xs p q

no_first : (b : ℕ) (rest : List ℕ) → (b == 32) ≡ false → (b == 10) ≡ false → joint (tokens (b ∷ rest)) ≡ Err (length (b ∷ rest))
unfolding tokens
no_first b rest p q =
    let s : separates b ≡ false = ap (λ v. v || (b == 10)) p ∙ q in
    let e : tokens (b ∷ rest) ≡ joined b (tokens rest) = ap (λ v. cond v ((b ∷ []) ∷ tokens rest) (joined b (tokens rest))) s in
    ap joint e ∙ other_joined b (tokens rest) p q ∙ ap Err (sym (ap size e) ∙ size_is (b ∷ rest))

-- neither a blank nor a line feed comes first
pub no_joint : (b : ℕ) (text rest : List ℕ) → text ≡ b ∷ rest → (b == 32) ≡ false → (b == 10) ≡ false → joint (tokens text) ≡ Err (length text)
no_joint b text rest e p q = subst (λ t. joint (tokens t) ≡ Err (length t)) (sym e) (no_first b rest p q)

blank_only : (rest : List ℕ) → joint (tokens (32 ∷ rest)) ≡ done true (tokens rest)
unfolding tokens joint
blank_only rest = refl

feed_only : (rest : List ℕ) → joint (tokens (10 ∷ rest)) ≡ done false (tokens rest)
unfolding tokens joint
feed_only rest = refl

nothing_only : joint (tokens []) ≡ Err 0
unfolding tokens joint
nothing_only = refl

pub blank_joint : (b : ℕ) (text rest : List ℕ) → text ≡ b ∷ rest → b ≡ 32 → joint (tokens text) ≡ done true (tokens rest)
blank_joint b text rest e p = ap (λ t. joint (tokens t)) (e ∙ ap (λ c. c ∷ rest) p) ∙ blank_only rest

pub feed_joint : (b : ℕ) (text rest : List ℕ) → text ≡ b ∷ rest → b ≡ 10 → joint (tokens text) ≡ done false (tokens rest)
feed_joint b text rest e p = ap (λ t. joint (tokens t)) (e ∙ ap (λ c. c ∷ rest) p) ∙ feed_only rest

pub none_joint : (text : List ℕ) → length text ≡ 0 → joint (tokens text) ≡ Err 0
none_joint [] e = nothing_only
none_joint (b ∷ bs) e = absurd (omega arith)

-- ---- what the first word says

pub empty_word : {A : Type 0} (f : List ℕ → Option A) (text w rest : List ℕ) → tokens text ≡ with_word w (tokens rest) → stops rest ≡ true → w ≡ [] → word_as f (tokens text) ≡ Err (length text)
empty_word f text w rest e s n =
    let t : tokens text ≡ tokens rest = e ∙ ap (λ z. with_word z (tokens rest)) n in
    ap (word_as f) t ∙ no_word f rest s ∙ ap Err (sym (size_is rest) ∙ ap size (sym t) ∙ size_is text)

said_by : {A : Type 0} (f : List ℕ → Option A) (w : List ℕ) (ts : List Token) (v : Bool) (o : Option A) → is_separator w ≡ v → v ≡ false → f w ≡ o
    → word_as f (w ∷ ts) ≡ (or_refused (size (w ∷ ts)) o >>= λ x. done x ts)
unfolding word_as
said_by f w ts v o e h p = ap (λ b. or_refused (size (w ∷ ts)) (cond b None (f w)) >>= λ x. done x ts) (e ∙ h) ∙ ap (λ z. or_refused (size (w ∷ ts)) z >>= λ x. done x ts) p

first_word : {A : Type 0} (f : List ℕ → Option A) (text w rest : List ℕ) (o : Option A) → tokens text ≡ with_word w (tokens rest) → is_separator w ≡ false → (w ≡ [] → ⊥) → f w ≡ o
    → word_as f (tokens text) ≡ (or_refused (length text) o >>= λ x. done x (tokens rest))
first_word f text [] rest o e s n p = absurd (n refl)
first_word f text (b ∷ bs) rest o e s n p =
    ap (word_as f) e ∙ said_by f (b ∷ bs) (tokens rest) false o s refl p
    ∙ ap (λ k. or_refused k o >>= λ x. done x (tokens rest)) (sym (ap size e) ∙ size_is text)

pub no_value : {A : Type 0} (f : List ℕ → Option A) (text w rest : List ℕ) → tokens text ≡ with_word w (tokens rest) → is_separator w ≡ false → (w ≡ [] → ⊥) → f w ≡ None → word_as f (tokens text) ≡ Err (length text)
no_value f text w rest e s n p = first_word f text w rest None e s n p

pub one_value : {A : Type 0} (f : List ℕ → Option A) (text w rest : List ℕ) (v : A) → tokens text ≡ with_word w (tokens rest) → is_separator w ≡ false → (w ≡ [] → ⊥) → f w ≡ Some v → word_as f (tokens text) ≡ done v (tokens rest)
one_value f text w rest v e s n p = first_word f text w rest (Some v) e s n p

pub is_none : (w : List ℕ) → (length w == 0) ≡ true → w ≡ []
is_none [] h = refl
is_none (b ∷ bs) h = absurd (grind (arith, Rattle.std.proofs.lemmas.Bool.Decides.nat_tests))

pub is_some : (w : List ℕ) → (length w == 0) ≡ false → w ≡ [] → ⊥
is_some [] h e = cc
is_some (b ∷ bs) h e = cc

-- ---- the bytes of tokens

joined_spelled : (b : ℕ) (ts : List Token) → spelled (joined b ts) ≡ b ∷ spelled ts
joined_spelled b [] = refl
joined_spelled b (x ∷ xs) = by (is_separator x)
  where
    by : (v : Bool) → spelled (cond v ((b ∷ []) ∷ x ∷ xs) ((b ∷ x) ∷ xs)) ≡ b ∷ spelled (x ∷ xs)
    by true = refl
    by false = refl

spelled_by : (b : ℕ) (bs : List ℕ) (v : Bool) → spelled (tokens bs) ≡ bs → spelled (cond v ((b ∷ []) ∷ tokens bs) (joined b (tokens bs))) ≡ b ∷ bs
spelled_by b bs true h = ap (λ z. b ∷ z) h
spelled_by b bs false h = joined_spelled b (tokens bs) ∙ ap (λ z. b ∷ z) h

-- a text is its tokens, one after another
pub spelled_is : (text : List ℕ) → spelled (tokens text) ≡ text
unfolding tokens
spelled_is [] = refl
spelled_is (b ∷ bs) = spelled_by b bs (separates b) (spelled_is bs)
