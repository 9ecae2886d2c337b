-- Tokens are refused first at one place.
use Rattle.std.proofs.Common.{ℕ, ◌≡◌, ◌≤◌, ◌+◌, List, [], ◌∷◌, ◌++◌, Ok, Err, refl, sym, ap, subst, ◌∙◌, append_assoc, append-nil, ◌⊎◌, inl, inr, arith}
use Rattle.clause_text.specs.Files.{IsProofRefusedAt, IsProofText, proof_text}
use Rattle.clause_words.specs.Places.{Begins, IsRefusedAt}
use Rattle.clause_words.specs.Reading.{Token, Read, done}
use Rattle.clause_words.specs.Tokens.{size}
use Rattle.clause_words.proofs.Exact.{Reads, refused}
use Rattle.clause_words.proofs.Lists.{done_is}

-- of two ways to part a list, one front goes on to the other
abbrev Parted : {A : Type 0} → List A → List A → List A → List A → Type 0
Parted {A} xs ys us vs = ((zs : List A) × (ys ≡ xs ++ zs) × (us ≡ zs ++ vs)) ⊎ ((zs : List A) × (xs ≡ ys ++ zs) × (vs ≡ zs ++ us))

parted_on : {A : Type 0} (x y : A) (xs ys us vs : List A) → x ≡ y → Parted xs ys us vs → Parted (x ∷ xs) (y ∷ ys) us vs
parted_on x y xs ys us vs e (inl a) = inl (a.0, ap (λ z. z ∷ ys) (sym e) ∙ ap (λ z. x ∷ z) a.1, a.2)
parted_on x y xs ys us vs e (inr a) = inr (a.0, ap (λ z. z ∷ xs) e ∙ ap (λ z. y ∷ z) a.1, a.2)

parted : {A : Type 0} (xs ys us vs : List A) → xs ++ us ≡ ys ++ vs → Parted xs ys us vs
parted [] ys us vs e = inl (ys, refl, e)
parted (x ∷ xs) [] us vs e = inr (x ∷ xs, refl, sym e)
parted (x ∷ xs) (y ∷ ys) us vs e =
    let first : x ≡ y = cc in
    let rest : xs ++ us ≡ ys ++ vs = cc in
    parted_on x y xs ys us vs first (parted xs ys us vs rest)

nothing_more : (xs : List Token) (ys : List Token) → xs ++ ys ≡ [] → xs ≡ []
nothing_more [] ys e = refl
nothing_more (x ∷ xs) ys e = absurd cc

-- no text of a value begins with the front and the next token
abbrev NoneNext : {V : Type 0} → (V → Type 0) → (V → List Token) → List Token → List Token → Type 0
NoneNext P text front back = (x : Token) (rest : List Token) → back ≡ x ∷ rest → Begins P text (front ++ x ∷ []) → ⊥

begins_shorter : {V : Type 0} (P : V → Type 0) (text : V → List Token) (front more : List Token) (x : Token) → Begins P text (front ++ x ∷ more) → Begins P text (front ++ x ∷ [])
begins_shorter P text front more x b = record {
  value = b.value;
  is_value = b.is_value;
  more = more ++ b.more;
  parts = b.parts ∙ append_assoc front (x ∷ more) b.more ∙ sym (append_assoc front (x ∷ []) (more ++ b.more));
}

-- a front that goes on to another one that a text begins with is that one
no_longer : {V : Type 0} (P : V → Type 0) (text : V → List Token) (f b g c zs : List Token) → g ≡ f ++ zs → b ≡ zs ++ c → Begins P text g → NoneNext P text f b → b ≡ c
no_longer P text f b g c [] e h k none = h
no_longer P text f b g c (z ∷ more) e h k none = absurd (none z (more ++ c) h (begins_shorter P text f more z (subst (Begins P text) e k)))

same_back : {V : Type 0} (P : V → Type 0) (text : V → List Token) (ts f b g c : List Token) → ts ≡ f ++ b → ts ≡ g ++ c → Begins P text f → Begins P text g → NoneNext P text f b → NoneNext P text g c → b ≡ c
same_back P text ts f b g c d e h k none_f none_g =
    elim (parted f g b c (sym d ∙ e)) as (λ z. b ≡ c) [
      | inl a ↦ no_longer P text f b g c a.0 a.1 a.2 k none_f
      | inr a ↦ sym (no_longer P text g c f b a.0 a.1 a.2 h none_g)
    ]

-- the text of a proof is refused at one place
pub same_place : (ts : List Token) (n m : ℕ) → IsProofRefusedAt ts n → IsProofRefusedAt ts m → n ≡ m
same_place ts n m a b = sym a.place ∙ ap size (same_back IsProofText proof_text ts a.front a.back b.front b.back a.whole b.whole a.begins b.begins a.none b.none) ∙ b.place

-- ---- what is refused inside a value's text is refused there by its reader

not_inside : {V : Type 0} (P : V → Type 0) (text : V → List Token) (v : V) (front back rest zs : List Token) → P v → text v ≡ front ++ zs → back ≡ zs ++ rest → NoneNext P text front back → ((w : V) → P w → text w ≡ front → ⊥) → ⊥
not_inside P text v front back rest [] i e h none inside = inside v i (e ∙ append-nil front)
not_inside P text v front back rest (z ∷ more) i e h none inside = none z (more ++ rest) h (record { value = v; is_value = i; more = more; parts = e ∙ sym (append_assoc front (z ∷ []) more) })

not_before : {V : Type 0} (P : V → Type 0) (text : V → List Token) (read : List Token → Read V) → Reads P text read → (v : V) (front zs : List Token) → P v → front ≡ text v ++ zs → Begins P text front → ((w : V) → P w → text w ≡ front → ⊥) → ⊥
not_before P text read r v front zs i e b inside =
    let whole : text b.value ++ [] ≡ text v ++ (zs ++ b.more) = append-nil (text b.value) ∙ b.parts ∙ ap (λ z. z ++ b.more) e ∙ append_assoc (text v) zs b.more in
    let d = done_is b.value v [] (zs ++ b.more) (sym (r.again b.value [] b.is_value) ∙ ap read whole ∙ r.again v (zs ++ b.more) i) in
    let none : zs ≡ [] = nothing_more zs b.more (sym d.1) in
    inside v i (sym (append-nil (text v)) ∙ ap (λ z. text v ++ z) (sym none) ∙ sym e)

never_read : {V : Type 0} (P : V → Type 0) (text : V → List Token) (read : List Token → Read V) → Reads P text read → (ts : List Token) (n : ℕ) (v : V) (rest : List Token) → IsRefusedAt P text ts n → read ts ≡ done v rest → ⊥
never_read P text read r ts n v rest a e =
    let f = r.found ts v rest e in
    elim (parted a.front (text v) a.back rest (sym a.whole ∙ f.1)) as (λ z. ⊥) [
      | inl b ↦ not_inside P text v a.front a.back rest b.0 f.0 b.1 b.2 a.none a.inside
      | inr b ↦ not_before P text read r v a.front b.0 f.0 b.1 a.begins a.inside
    ]

same_refusal : {V : Type 0} (P : V → Type 0) (text : V → List Token) (ts : List Token) (n m : ℕ) → IsRefusedAt P text ts n → IsRefusedAt P text ts m → n ≡ m
same_refusal P text ts n m a b = sym a.place ∙ ap size (same_back P text ts a.front a.back b.front b.back a.whole b.whole a.begins b.begins a.none b.none) ∙ b.place

pub refusal_read : {V : Type 0} (P : V → Type 0) (text : V → List Token) (read : List Token → Read V) → Reads P text read → (ts : List Token) (n : ℕ) → IsRefusedAt P text ts n → read ts ≡ Err n
refusal_read {V} P text read r ts n a = by (read ts) refl
  where
    by : (x : Read V) → read ts ≡ x → read ts ≡ Err n
    by (Ok p) e = absurd (never_read P text read r ts n p.0 p.1 a e)
    by (Err m) e = e ∙ ap Err (same_refusal P text ts m n (refused P text read r ts m e) a)

-- ---- how many bytes are left

size_append : (xs ys : List Token) → size (xs ++ ys) ≡ size xs + size ys
size_append [] ys = omega arith
size_append (x ∷ xs) ys = let e = size_append xs ys in omega (arith, e)

pub refusal_within : {V : Type 0} (P : V → Type 0) (text : V → List Token) (ts : List Token) (n : ℕ) → IsRefusedAt P text ts n → n ≤ size ts
refusal_within P text ts n a = let e = ap size a.whole ∙ size_append a.front a.back in let p = a.place in omega (arith, e, p)
