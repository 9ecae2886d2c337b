-- Refusals of texts that stand in others.
use Rattle.std.proofs.Common.{ℕ, ◌≡◌, List, [], ◌∷◌, ◌++◌, refl, sym, ap, ◌∙◌, append_assoc, append-nil, ◌⊎◌, inl, inr}
use Rattle.proof_tokens.specs.declared.tokens.Token.{Token}
use Rattle.proof_tokens.specs.declared.reading.Refusal.{Refusal}
use Rattle.proof_tokens.specs.declared.reading.Refusal.TheVariants as e
use Rattle.proof_tokens.specs.Reading.{Cuts, IsRefusedAt, RefusesProof, IsApart}
use Rattle.proof_tokens.proofs.Cutting.{cut_append}
use Rattle.proof_tokens.proofs.Apart.{front_nothing}

-- two ways of cutting one list
pub split : (xs ys us vs : List Token) → xs ++ us ≡ ys ++ vs → ((w : List Token) × (xs ≡ ys ++ w) × (vs ≡ w ++ us)) ⊎ ((w : List Token) × (ys ≡ xs ++ w) × (us ≡ w ++ vs))
split [] ys us vs h = inr (ys, refl, h)
split (x ∷ xs) [] us vs h = inl (x ∷ xs, refl, sym h)
split (x ∷ xs) (y ∷ ys) us vs h = split_more x y xs ys us vs (cc) (split xs ys us vs (cc))
  where
    split_more : (x y : Token) (xs ys us vs : List Token) → x ≡ y → ((w : List Token) × (xs ≡ ys ++ w) × (vs ≡ w ++ us)) ⊎ ((w : List Token) × (ys ≡ xs ++ w) × (us ≡ w ++ vs))
        → ((w : List Token) × (x ∷ xs ≡ (y ∷ ys) ++ w) × (vs ≡ w ++ us)) ⊎ ((w : List Token) × (y ∷ ys ≡ (x ∷ xs) ++ w) × (us ≡ w ++ vs))
    split_more x y xs ys us vs e (inl q) = inl (q.0, (let h = q.1 in cc), q.2)
    split_more x y xs ys us vs e (inr q) = inr (q.0, (let h = q.1 in cc), q.2)

front_by : {V : Type 0} (IsValue : V → Type 0) (text : V → List Token) → IsApart IsValue text → (u v : V) (x y : List Token) → IsValue u → IsValue v
    → ((w : List Token) × (text u ≡ text v ++ w) × (y ≡ w ++ x)) ⊎ ((w : List Token) × (text v ≡ text u ++ w) × (x ≡ w ++ y)) → (u ≡ v) × (x ≡ y)
front_by IsValue text apart u v x y i j (inl q) = let a = apart u v q.0 i j q.1 in (a.0, sym (q.2 ∙ ap (λ w. w ++ x) a.1))
front_by IsValue text apart u v x y i j (inr q) = let a = apart v u q.0 j i q.1 in (sym a.0, q.2 ∙ ap (λ w. w ++ y) a.1)

-- the texts of two values, and anything after them: the values and what is after are the same
pub front_same : {V : Type 0} (IsValue : V → Type 0) (text : V → List Token) → IsApart IsValue text → (u v : V) (x y : List Token) → IsValue u → IsValue v → text u ++ x ≡ text v ++ y → (u ≡ v) × (x ≡ y)
front_same IsValue text apart u v x y i j h = front_by IsValue text apart u v x y i j (split (text u) (text v) x y h)

-- what a refused text is not: the text of a value, with anything after it
pub not_whole : {V : Type 0} (IsValue : V → Type 0) (text : V → List Token) → IsApart IsValue text → (bytes : List ℕ) (left : ℕ) (f : IsRefusedAt IsValue text bytes left)
    → (v : V) (u : List Token) → IsValue v → f.first.front ≡ text v ++ u → ⊥
not_whole IsValue text apart bytes left f v u i h =
    let b = f.first.begins in
    let q = apart b.value v (u ++ b.more) b.is_value i (b.parts ∙ ap (λ z. z ++ b.more) h ∙ append_assoc (text v) u b.more) in
    f.inside v i (sym (h ∙ ap (λ z. text v ++ z) (front_nothing u b.more q.1) ∙ append-nil (text v)))

goes_on : {V : Type 0} (IsValue : V → Type 0) (text : V → List Token) (bytes : List ℕ) (left : ℕ) (f : IsRefusedAt IsValue text bytes left) (x : Token) (rest : List ℕ) (v : V) (tail more u : List Token)
    → Cuts (x ∷ []) f.back rest → IsValue v → text v ≡ f.first.front ++ u → x ∷ more ≡ u ++ tail → ⊥
goes_on IsValue text bytes left f x rest v tail more [] c i h q = f.inside v i (h ∙ append-nil f.first.front)
goes_on IsValue text bytes left f x rest v tail more (y ∷ u) c i h q =
    let same : y ≡ x = cc in
    f.first.none x rest c (record { value = v; is_value = i; more = u; parts = h ∙ ap (λ z. f.first.front ++ z ∷ u) same ∙ sym (append_assoc f.first.front (x ∷ []) u) })

text_by : {V : Type 0} (IsValue : V → Type 0) (text : V → List Token) → IsApart IsValue text → (bytes : List ℕ) (left : ℕ) (f : IsRefusedAt IsValue text bytes left) (x : Token) (rest : List ℕ) (v : V) (tail more : List Token)
    → Cuts (x ∷ []) f.back rest → IsValue v
    → ((w : List Token) × (text v ≡ f.first.front ++ w) × (x ∷ more ≡ w ++ tail)) ⊎ ((w : List Token) × (f.first.front ≡ text v ++ w) × (tail ≡ w ++ x ∷ more)) → ⊥
text_by IsValue text apart bytes left f x rest v tail more c i (inl q) = goes_on IsValue text bytes left f x rest v tail more q.0 c i q.1 q.2
text_by IsValue text apart bytes left f x rest v tail more c i (inr q) = not_whole IsValue text apart bytes left f v q.0 i q.1

-- the token where a text is refused stands in no text there, whatever is after that
pub no_text : {V : Type 0} (IsValue : V → Type 0) (text : V → List Token) → IsApart IsValue text → (bytes : List ℕ) (left : ℕ) (f : IsRefusedAt IsValue text bytes left) (x : Token) (rest : List ℕ) (v : V) (tail more : List Token)
    → Cuts (x ∷ []) f.back rest → IsValue v → text v ++ tail ≡ f.first.front ++ x ∷ more → ⊥
no_text IsValue text apart bytes left f x rest v tail more c i h = text_by IsValue text apart bytes left f x rest v tail more c i (split (text v) f.first.front tail (x ∷ more) h)

end_by : {V : Type 0} (IsValue : V → Type 0) (text : V → List Token) → IsApart IsValue text → (bytes : List ℕ) (left : ℕ) (f : IsRefusedAt IsValue text bytes left) (v : V) (tail : List Token) → IsValue v
    → ((w : List Token) × (text v ≡ f.first.front ++ w) × ([] ≡ w ++ tail)) ⊎ ((w : List Token) × (f.first.front ≡ text v ++ w) × (tail ≡ w ++ [])) → ⊥
end_by IsValue text apart bytes left f v tail i (inl q) = f.inside v i (q.1 ∙ ap (λ z. f.first.front ++ z) (front_nothing q.0 tail (sym q.2)) ∙ append-nil f.first.front)
end_by IsValue text apart bytes left f v tail i (inr q) = not_whole IsValue text apart bytes left f v q.0 i q.1

-- no text ends where a text is refused, nor before
pub no_end : {V : Type 0} (IsValue : V → Type 0) (text : V → List Token) → IsApart IsValue text → (bytes : List ℕ) (left : ℕ) (f : IsRefusedAt IsValue text bytes left) (v : V) (tail : List Token) → IsValue v → text v ++ tail ≡ f.first.front → ⊥
no_end IsValue text apart bytes left f v tail i h = end_by IsValue text apart bytes left f v tail i (split (text v) f.first.front tail [] (h ∙ sym (append-nil f.first.front)))

-- what is refused after a token is refused as a text that begins with it, where those that do are these
pub refused_case : {V W : Type 0} (IsValue : V → Type 0) (text : V → List Token) (IsOther : W → Type 0) (other : W → List Token) (x : Token) (bytes rest : List ℕ) (fault : Refusal)
    → Cuts (x ∷ []) bytes rest → ((v : V) → IsValue v → (w : W) × IsOther w × (other w ≡ x ∷ text v)) → ((w : W) (tail : List Token) → IsOther w → other w ≡ x ∷ tail → (v : V) × IsValue v × (text v ≡ tail))
    → RefusesProof IsValue text rest fault → RefusesProof IsOther other bytes fault
refused_case IsValue text IsOther other x bytes rest e.Memory cut into back r = tt
refused_case IsValue text IsOther other x bytes rest (e.Syntax left) cut into back r = record {
  back = r.back;
  first = record {
    front = x ∷ r.first.front;
    cut = cut_append (x ∷ []) r.first.front bytes rest r.back cut r.first.cut;
    begins = let b = r.first.begins in let w = into b.value b.is_value in record { value = w.0; is_value = w.1; more = b.more; parts = w.2 ∙ ap (λ z. x ∷ z) b.parts };
    none = λ y behind q b.
        let v = back b.value (r.first.front ++ y ∷ b.more) b.is_value (b.parts ∙ regrouped x y r.first.front b.more) in
        r.first.none y behind q (record { value = v.0; is_value = v.1; more = b.more; parts = v.2 ∙ sym (append_assoc r.first.front (y ∷ []) b.more) });
  };
  inside = λ w i h. let v = back w r.first.front i h in r.inside v.0 v.1 v.2;
  place = r.place;
}
  where
    regrouped : (x y : Token) (front more : List Token) → (x ∷ front ++ y ∷ []) ++ more ≡ x ∷ (front ++ y ∷ more)
    regrouped x y front more = ap (λ z. x ∷ z) (append_assoc front (y ∷ []) more)

-- texts that are the same for the values of another kind
pub refused_as : {V W : Type 0} (IsValue : V → Type 0) (text : V → List Token) (IsOther : W → Type 0) (other : W → List Token) (bytes : List ℕ) (fault : Refusal)
    → ((v : V) → IsValue v → (w : W) × IsOther w × (other w ≡ text v)) → ((w : W) → IsOther w → (v : V) × IsValue v × (text v ≡ other w))
    → RefusesProof IsValue text bytes fault → RefusesProof IsOther other bytes fault
refused_as IsValue text IsOther other bytes e.Memory into back r = tt
refused_as IsValue text IsOther other bytes (e.Syntax left) into back r = record {
  back = r.back;
  first = record {
    front = r.first.front;
    cut = r.first.cut;
    begins = let b = r.first.begins in let w = into b.value b.is_value in record { value = w.0; is_value = w.1; more = b.more; parts = w.2 ∙ b.parts };
    none = λ y behind q b. let v = back b.value b.is_value in r.first.none y behind q (record { value = v.0; is_value = v.1; more = b.more; parts = v.2 ∙ b.parts });
  };
  inside = λ w i h. let v = back w i in r.inside v.0 v.1 (v.2 ∙ h);
  place = r.place;
}
