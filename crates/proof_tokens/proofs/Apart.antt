-- A text that bytes begin with is the only one, and it is not refused.
use Rattle.std.proofs.Common.{ℕ, ◌≡◌, List, [], ◌∷◌, ◌++◌, drop, refl, sym, ap, subst, ◌∙◌, append_assoc, append-nil, ◌⊎◌, inl, inr}
use Rattle.proof_tokens.specs.declared.tokens.Token.{Token}
use Rattle.proof_tokens.specs.declared.scanner.Piece.{Piece}
use Rattle.proof_tokens.specs.Lines.{AnyEntries, entries_text, numbered_text}
use Rattle.proof_tokens.specs.Reading.{Cuts, IsFirstProofRefusal, IsRefusedAt, IsApart}
use Rattle.proof_tokens.proofs.Cutting.{some_same}

abbrev pub token_of : Piece → Token
token_of p = p.token

abbrev len_of : Piece → ℕ
len_of p = p.len

-- one cut goes on as the other
abbrev pub Meets : List Token → List Token → List ℕ → List ℕ → Type 0
Meets xs ys r s = ((u : List Token) × (xs ≡ ys ++ u) × Cuts u s r) ⊎ ((u : List Token) × (ys ≡ xs ++ u) × Cuts u r s)

meets_more : (x y : Token) (xs ys : List Token) (r s : List ℕ) → x ≡ y → Meets xs ys r s → Meets (x ∷ xs) (y ∷ ys) r s
meets_more x y xs ys r s e (inl q) = inl (q.0, (let h = q.1 in cc), q.2)
meets_more x y xs ys r s e (inr q) = inr (q.0, (let h = q.1 in cc), q.2)

pub meets : (xs ys : List Token) (bytes r s : List ℕ) → Cuts xs bytes r → Cuts ys bytes s → Meets xs ys r s
meets [] ys bytes r s p q = inr (ys, refl, subst (λ b. Cuts ys b s) p q)
meets (x ∷ xs) [] bytes r s p q = inl (x ∷ xs, refl, subst (λ b. Cuts (x ∷ xs) b r) q p)
meets (x ∷ xs) (y ∷ ys) bytes r s p q =
    let e = some_same (record { token = x; len = p.0 }) (record { token = y; len = q.0 }) (sym p.1 ∙ q.1) in
    meets_more x y xs ys r s (ap token_of e) (meets xs ys (drop p.0 bytes) r s p.2 (subst (λ k. Cuts ys (drop k bytes) s) (sym (ap len_of e)) q.2))

cut_nothing : (w : List Token) (r s : List ℕ) → w ≡ [] → Cuts w r s → r ≡ s
cut_nothing w r s e c = subst (λ z. Cuts z r s) e c

one_by : {V : Type 0} (IsValue : V → Type 0) (text : V → List Token) → IsApart IsValue text → (u v : V) (r s : List ℕ) → IsValue u → IsValue v → Meets (text u) (text v) r s → (u ≡ v) × (r ≡ s)
one_by IsValue text apart u v r s i j (inl m) = let q = apart u v m.0 i j m.1 in (q.0, sym (cut_nothing m.0 s r q.1 m.2))
one_by IsValue text apart u v r s i j (inr m) = let q = apart v u m.0 j i m.1 in (sym q.0, cut_nothing m.0 r s q.1 m.2)

-- bytes begin with the text of one value
pub one : {V : Type 0} (IsValue : V → Type 0) (text : V → List Token) → IsApart IsValue text → (u v : V) (bytes r s : List ℕ) → IsValue u → IsValue v → Cuts (text u) bytes r → Cuts (text v) bytes s → (u ≡ v) × (r ≡ s)
one IsValue text apart u v bytes r s i j p q = one_by IsValue text apart u v r s i j (meets (text u) (text v) bytes r s p q)

pub front_nothing : (u more : List Token) → u ++ more ≡ [] → u ≡ []
front_nothing [] more e = refl
front_nothing (x ∷ u) more e = absurd (cc)

stopped : {V : Type 0} (IsValue : V → Type 0) (text : V → List Token) (v : V) (bytes : List ℕ) (left : ℕ) (rest : List ℕ) → IsValue v → (f : IsRefusedAt IsValue text bytes left)
    → (u : List Token) → text v ≡ f.first.front ++ u → Cuts u f.back rest → ⊥
stopped IsValue text v bytes left rest i f [] e c = f.inside v i (e ∙ append-nil f.first.front)
stopped IsValue text v bytes left rest i f (x ∷ u) e c =
    f.first.none x (drop c.0 f.back) (c.0, c.1, refl) (record { value = v; is_value = i; more = u; parts = e ∙ sym (append_assoc f.first.front (x ∷ []) u) })

refused_by : {V : Type 0} (IsValue : V → Type 0) (text : V → List Token) → IsApart IsValue text → (v : V) (bytes : List ℕ) (left : ℕ) (rest : List ℕ) → IsValue v → (f : IsRefusedAt IsValue text bytes left)
    → Meets (text v) f.first.front rest f.back → ⊥
refused_by IsValue text apart v bytes left rest i f (inl m) = stopped IsValue text v bytes left rest i f m.0 m.1 m.2
refused_by IsValue text apart v bytes left rest i f (inr m) =
    let b = f.first.begins in
    let q = apart b.value v (m.0 ++ b.more) b.is_value i (b.parts ∙ ap (λ z. z ++ b.more) m.1 ∙ append_assoc (text v) m.0 b.more) in
    f.inside v i (sym (m.1 ∙ ap (λ z. text v ++ z) (front_nothing m.0 b.more q.1) ∙ append-nil (text v)))

-- bytes that begin with a text are not refused as one
pub not_refused : {V : Type 0} (IsValue : V → Type 0) (text : V → List Token) → IsApart IsValue text → (v : V) (bytes rest : List ℕ) (left : ℕ) → IsValue v → Cuts (text v) bytes rest → IsRefusedAt IsValue text bytes left → ⊥
not_refused IsValue text apart v bytes rest left i c f = refused_by IsValue text apart v bytes left rest i f (meets (text v) f.first.front bytes rest f.back c f.first.cut)

pub behind_apart : {V : Type 0} (IsValue : V → Type 0) (text : V → List Token) (x : Token) → IsApart IsValue text → IsApart IsValue (λ v. x ∷ text v)
behind_apart IsValue text x apart u v more i j q = apart u v more i j (cc)

pub entries_apart : IsApart AnyEntries entries_text
entries_apart [] [] more i j q = (refl, let h : [] ≡ more = cc in sym h)
entries_apart [] (a ∷ vs) more i j q = absurd (cc)
entries_apart (s ∷ us) [] more i j q = absurd (cc)
entries_apart (s ∷ us) (a ∷ vs) more i j q =
    let r = entries_apart us vs more tt tt (cc) in
    let same : s ≡ a = cc in let rest = r.0 in (cc, r.1)

pub numbered_apart : (IsValue : ℕ → Type 0) → IsApart IsValue numbered_text
numbered_apart IsValue n m more i j q = let same : n ≡ m = cc in let h : [] ≡ more = cc in (same, sym h)

-- where one refusal's tokens go on as those of another, they are the same
not_later : {V : Type 0} (IsValue : V → Type 0) (text : V → List Token) (bytes r s : List ℕ) (f : IsFirstProofRefusal IsValue text bytes r) (g : IsFirstProofRefusal IsValue text bytes s)
    → (u : List Token) → f.front ≡ g.front ++ u → Cuts u s r → r ≡ s
not_later IsValue text bytes r s f g [] e c = sym c
not_later IsValue text bytes r s f g (x ∷ u) e c =
    let b = f.begins in
    absurd (g.none x (drop c.0 s) (c.0, c.1, refl) (record {
      value = b.value;
      is_value = b.is_value;
      more = u ++ b.more;
      parts = b.parts ∙ ap (λ z. z ++ b.more) e ∙ append_assoc g.front (x ∷ u) b.more ∙ sym (append_assoc g.front (x ∷ []) (u ++ b.more));
    }))

one_place : {V : Type 0} (IsValue : V → Type 0) (text : V → List Token) (bytes r s : List ℕ) (f : IsFirstProofRefusal IsValue text bytes r) (g : IsFirstProofRefusal IsValue text bytes s) → Meets f.front g.front r s → r ≡ s
one_place IsValue text bytes r s f g (inl m) = not_later IsValue text bytes r s f g m.0 m.1 m.2
one_place IsValue text bytes r s f g (inr m) = sym (not_later IsValue text bytes s r g f m.0 m.1 m.2)

-- bytes have one first refusal
pub first_same : {V : Type 0} (IsValue : V → Type 0) (text : V → List Token) (bytes r s : List ℕ) → IsFirstProofRefusal IsValue text bytes r → IsFirstProofRefusal IsValue text bytes s → r ≡ s
first_same IsValue text bytes r s f g = one_place IsValue text bytes r s f g (meets f.front g.front bytes r s f.cut g.cut)
