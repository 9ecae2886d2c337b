-- Reading words one after another, as a loop does.
use Rattle.std.proofs.Common.{ℕ, ◌≡◌, Bool, true, false, cond, List, [], ◌∷◌, ◌++◌, Option, Some, None, Result, Ok, Err, refl, sym, ap, ◌∙◌, append_assoc, append-nil, ◌⊎◌, inl, inr}
use Rattle.std.specs.Str.{bytes_eq}
use Rattle.proof_tokens.specs.declared.reading.Refusal.{Refusal}
use Rattle.proof_tokens.specs.declared.reading.Refusal.TheVariants as e
use Rattle.clause_words.specs.Tokens.{size, blank, line_feed}
use Rattle.clause_words.specs.Reading.{Token, Read, done, ◌>>=◌, Fails, or_refused, said, word_as, joint, with_first, going_on, fields}

-- ---- what the parts of a read say

ok_is : {A B : Type 0} (x y : A) (r : Result A B) → r ≡ Ok x → r ≡ Ok y → x ≡ y
ok_is x y (Ok z) e h = cc
ok_is x y (Err n) e h = absurd cc

-- what is read is one value, with one rest
pub done_is : {A : Type 0} (v w : A) (ts us : List Token) → done v ts ≡ done w us → (v ≡ w) × (ts ≡ us)
done_is {A} v w ts us e =
    let q : A × List Token = (v, ts) in
    let r : A × List Token = (w, us) in
    let p : q ≡ r = ok_is q r (Ok q) refl e in
    (ap (λ z. z.0) p, ap (λ z. z.1) p)

no_true : true ≡ false → ⊥
no_true e = cc

pub joint_more : (ts us : List Token) → joint ts ≡ done true us → (x : Token) × (ts ≡ x ∷ us) × (bytes_eq x blank ≡ true)
unfolding joint
joint_more [] us h = absurd cc
joint_more (x ∷ xs) us h = by (bytes_eq x blank) (bytes_eq x line_feed) refl h
  where
    by : (b c : Bool) → bytes_eq x blank ≡ b → cond b (done true xs) (cond c (done false xs) (Err (size (x ∷ xs)))) ≡ done true us → (y : Token) × (x ∷ xs ≡ y ∷ us) × (bytes_eq y blank ≡ true)
    by true c p h = (x, ap (λ z. x ∷ z) (done_is true true xs us h).1, p)
    by false true p h = absurd (no_true (sym (done_is false true xs us h).0))
    by false false p h = absurd cc

pub joint_end : (ts us : List Token) → joint ts ≡ done false us → (x : Token) × (ts ≡ x ∷ us) × (bytes_eq x blank ≡ false) × (bytes_eq x line_feed ≡ true)
unfolding joint
joint_end [] us h = absurd cc
joint_end (x ∷ xs) us h = by (bytes_eq x blank) (bytes_eq x line_feed) refl refl h
  where
    by : (b c : Bool) → bytes_eq x blank ≡ b → bytes_eq x line_feed ≡ c → cond b (done true xs) (cond c (done false xs) (Err (size (x ∷ xs)))) ≡ done false us
        → (y : Token) × (x ∷ xs ≡ y ∷ us) × (bytes_eq y blank ≡ false) × (bytes_eq y line_feed ≡ true)
    by true c p q h = absurd (no_true (done_is true false xs us h).0)
    by false true p q h = (x, ap (λ z. x ∷ z) (done_is false false xs us h).1, p, q)
    by false false p q h = absurd cc

pub joint_bad : (ts : List Token) (n : ℕ) → joint ts ≡ Err n → ((ts ≡ []) × (n ≡ 0)) ⊎ ((x : Token) × (xs : List Token) × (ts ≡ x ∷ xs) × (n ≡ size (x ∷ xs)) × (bytes_eq x blank ≡ false) × (bytes_eq x line_feed ≡ false))
unfolding joint
joint_bad [] n h = inl (refl, cc)
joint_bad (x ∷ xs) n h = by (bytes_eq x blank) (bytes_eq x line_feed) refl refl h
  where
    by : (b c : Bool) → bytes_eq x blank ≡ b → bytes_eq x line_feed ≡ c → cond b (done true xs) (cond c (done false xs) (Err (size (x ∷ xs)))) ≡ Err n
        → ((x ∷ xs ≡ []) × (n ≡ 0)) ⊎ ((y : Token) × (ys : List Token) × (x ∷ xs ≡ y ∷ ys) × (n ≡ size (y ∷ ys)) × (bytes_eq y blank ≡ false) × (bytes_eq y line_feed ≡ false))
    by true c p q h = absurd cc
    by false true p q h = absurd cc
    by false false p q h = inr (x, xs, refl, cc, p, q)

pub word_some : {A : Type 0} (f : List ℕ → Option A) (us : List Token) (v : A) (vs : List Token) → word_as f us ≡ done v vs → (y : Token) × (us ≡ y ∷ vs) × (said f y ≡ Some v)
unfolding word_as
word_some f [] v vs h = absurd cc
word_some {A} f (y ∷ ys) v vs h = by (said f y) refl h
  where
    by : (o : Option A) → said f y ≡ o → (or_refused (size (y ∷ ys)) o >>= λ x. done x ys) ≡ done v vs → (z : Token) × (y ∷ ys ≡ z ∷ vs) × (said f z ≡ Some v)
    by None p h = absurd cc
    by (Some w) p h = let d = done_is w v ys vs h in (y, ap (λ z. y ∷ z) d.1, p ∙ ap Some d.0)

pub word_none : {A : Type 0} (f : List ℕ → Option A) (us : List Token) (n : ℕ) → word_as f us ≡ Err n → ((us ≡ []) × (n ≡ 0)) ⊎ ((y : Token) × (ys : List Token) × (us ≡ y ∷ ys) × (n ≡ size (y ∷ ys)) × (said f y ≡ None))
unfolding word_as
word_none f [] n h = inl (refl, cc)
word_none {A} f (y ∷ ys) n h = by (said f y) refl h
  where
    by : (o : Option A) → said f y ≡ o → (or_refused (size (y ∷ ys)) o >>= λ x. done x ys) ≡ Err n → ((y ∷ ys ≡ []) × (n ≡ 0)) ⊎ ((z : Token) × (zs : List Token) × (y ∷ ys ≡ z ∷ zs) × (n ≡ size (z ∷ zs)) × (said f z ≡ None))
    by None p h = inr (y, ys, refl, cc, p)
    by (Some w) p h = absurd cc

-- ---- lists to the end of a line

pub more_one : {A : Type 0} (f : List ℕ → Option A) (x y : Token) (vs : List Token) (v : A) → bytes_eq x blank ≡ true → said f y ≡ Some v → fields f (x ∷ y ∷ vs) ≡ with_first v (fields f vs)
unfolding fields
more_one f x y vs v p q =
    ap (λ b. cond b (going_on (size (y ∷ vs)) (said f y) (fields f vs)) (cond (bytes_eq x line_feed) (done [] (y ∷ vs)) (Err (size (x ∷ y ∷ vs))))) p
    ∙ ap (λ o. going_on (size (y ∷ vs)) o (fields f vs)) q

pub list_more : {A : Type 0} (f : List ℕ → Option A) (ts us vs : List Token) (v : A) → joint ts ≡ done true us → word_as f us ≡ done v vs → fields f ts ≡ with_first v (fields f vs)
list_more f ts us vs v j w =
    let a = joint_more ts us j in let b = word_some f us v vs w in
    ap (fields f) (a.1 ∙ ap (λ z. a.0 ∷ z) b.1) ∙ more_one f a.0 b.0 vs v a.2 b.2

end_one : {A : Type 0} (f : List ℕ → Option A) (x : Token) (us : List Token) → bytes_eq x blank ≡ false → bytes_eq x line_feed ≡ true → fields f (x ∷ us) ≡ done [] us
unfolding fields
end_one f x [] p q = ap (λ b. cond b (Err 0) (cond (bytes_eq x line_feed) (done [] []) (Err (size (x ∷ []))))) p ∙ ap (λ b. cond b (done [] []) (Err (size (x ∷ [])))) q
end_one f x (y ∷ us) p q =
    ap (λ b. cond b (going_on (size (y ∷ us)) (said f y) (fields f us)) (cond (bytes_eq x line_feed) (done [] (y ∷ us)) (Err (size (x ∷ y ∷ us))))) p
    ∙ ap (λ b. cond b (done [] (y ∷ us)) (Err (size (x ∷ y ∷ us)))) q

pub list_end : {A : Type 0} (f : List ℕ → Option A) (ts us : List Token) → joint ts ≡ done false us → fields f ts ≡ done [] us
list_end f ts us j = let a = joint_end ts us j in ap (fields f) a.1 ∙ end_one f a.0 us a.2 a.3

pub bad_one : {A : Type 0} (f : List ℕ → Option A) (x : Token) (us : List Token) → bytes_eq x blank ≡ false → bytes_eq x line_feed ≡ false → fields f (x ∷ us) ≡ Err (size (x ∷ us))
unfolding fields
bad_one f x [] p q = ap (λ b. cond b (Err 0) (cond (bytes_eq x line_feed) (done [] []) (Err (size (x ∷ []))))) p ∙ ap (λ b. cond b (done [] []) (Err (size (x ∷ [])))) q
bad_one f x (y ∷ us) p q =
    ap (λ b. cond b (going_on (size (y ∷ us)) (said f y) (fields f us)) (cond (bytes_eq x line_feed) (done [] (y ∷ us)) (Err (size (x ∷ y ∷ us))))) p
    ∙ ap (λ b. cond b (done [] (y ∷ us)) (Err (size (x ∷ y ∷ us)))) q

no_list : {A : Type 0} (f : List ℕ → Option A) → fields f [] ≡ Err 0
unfolding fields
no_list f = refl

pub list_bad : {A : Type 0} (f : List ℕ → Option A) (ts : List Token) (n : ℕ) → joint ts ≡ Err n → fields f ts ≡ Err n
list_bad {A} f ts n j =
    elim (joint_bad ts n j) as (λ z. fields f ts ≡ Err n) [
      | inl a ↦ ap (fields f) a.0 ∙ no_list f ∙ ap Err (sym a.1)
      | inr a ↦ ap (fields f) a.2 ∙ bad_one f a.0 a.1 a.4 a.5 ∙ ap Err (sym a.3)
    ]

pub wrong_one : {A : Type 0} (f : List ℕ → Option A) (x y : Token) (us : List Token) → bytes_eq x blank ≡ true → said f y ≡ None → fields f (x ∷ y ∷ us) ≡ Err (size (y ∷ us))
unfolding fields
wrong_one f x y us p q =
    ap (λ b. cond b (going_on (size (y ∷ us)) (said f y) (fields f us)) (cond (bytes_eq x line_feed) (done [] (y ∷ us)) (Err (size (x ∷ y ∷ us))))) p
    ∙ ap (λ o. going_on (size (y ∷ us)) o (fields f us)) q

short_one : {A : Type 0} (f : List ℕ → Option A) (x : Token) → bytes_eq x blank ≡ true → fields f (x ∷ []) ≡ Err 0
unfolding fields
short_one f x p = ap (λ b. cond b (Err 0) (cond (bytes_eq x line_feed) (done [] []) (Err (size (x ∷ []))))) p

pub list_wrong : {A : Type 0} (f : List ℕ → Option A) (ts us : List Token) (n : ℕ) → joint ts ≡ done true us → word_as f us ≡ Err n → fields f ts ≡ Err n
list_wrong {A} f ts us n j w =
    let a = joint_more ts us j in
    elim (word_none f us n w) as (λ z. fields f ts ≡ Err n) [
      | inl b ↦ ap (fields f) (a.1 ∙ ap (λ z. a.0 ∷ z) b.0) ∙ short_one f a.0 a.2 ∙ ap Err (sym b.1)
      | inr b ↦ ap (fields f) (a.1 ∙ ap (λ z. a.0 ∷ z) b.2) ∙ wrong_one f a.0 b.0 b.1 a.2 b.4 ∙ ap Err (sym b.3)
    ]

-- ---- the loop: what was read before, and what is still read

abbrev pub with_front : {A : Type 0} → List A → Read (List A) → Read (List A)
with_front front read = read >>= λ p. done (front ++ p.0) p.1

regroup : {A : Type 0} (front : List A) (v : A) (read : Read (List A)) → with_front front (with_first v read) ≡ with_front (front ++ v ∷ []) read
regroup front v (Ok p) = ap (λ vs. done vs p.1) (sym (append_assoc front (v ∷ []) p.0))
regroup front v (Err n) = refl

pub loop_more : {A : Type 0} (f : List ℕ → Option A) (front : List A) (ts us vs : List Token) (v : A) (total : Read (List A)) → joint ts ≡ done true us → word_as f us ≡ done v vs
    → with_front front (fields f ts) ≡ total → with_front (front ++ v ∷ []) (fields f vs) ≡ total
loop_more f front ts us vs v total j w h = sym (regroup front v (fields f vs)) ∙ ap (with_front front) (sym (list_more f ts us vs v j w)) ∙ h

pub loop_end : {A : Type 0} (f : List ℕ → Option A) (front : List A) (ts us : List Token) (total : Read (List A)) → joint ts ≡ done false us
    → with_front front (fields f ts) ≡ total → total ≡ done front us
loop_end f front ts us total j h = sym h ∙ ap (with_front front) (list_end f ts us j) ∙ ap (λ vs. done vs us) (append-nil front)

pub loop_bad : {A : Type 0} (f : List ℕ → Option A) (front : List A) (ts : List Token) (fault : Refusal) (total : Read (List A)) → Fails fault (joint ts)
    → with_front front (fields f ts) ≡ total → Fails fault total
loop_bad f front ts e.Memory total j h = tt
loop_bad f front ts (e.Syntax n) total j h = sym h ∙ ap (with_front front) (list_bad f ts n j)

pub loop_wrong : {A : Type 0} (f : List ℕ → Option A) (front : List A) (ts us : List Token) (fault : Refusal) (total : Read (List A)) → joint ts ≡ done true us → Fails fault (word_as f us)
    → with_front front (fields f ts) ≡ total → Fails fault total
loop_wrong f front ts us e.Memory total j w h = tt
loop_wrong f front ts us (e.Syntax n) total j w h = sym h ∙ ap (with_front front) (list_wrong f ts us n j w)

pub loop_start : {A : Type 0} (read : Read (List A)) → with_front [] read ≡ read
loop_start (Ok p) = refl
loop_start (Err n) = refl
