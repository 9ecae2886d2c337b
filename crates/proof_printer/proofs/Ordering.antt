-- In which order parts stand.
use Rattle.std.proofs.Common.{ℕ, ◌≡◌, ◌≤◌, ◌<◌, ◌+◌, ◌&&◌, Bool, true, false, cond, not, List, [], ◌∷◌, ◌++◌, length, nat_lt, if◌then◌else◌, refl, sym, ap, subst, ◌∙◌, append_assoc, append-nil, arith, ◌⊎◌, inl, inr}
use Rattle.proof_grammar.specs.declared.lines.TextLine.{TextLine}
use Rattle.base_texts.specs.Texts.{is_among, is_text, picked, place, with_text}
use Rattle.proof_printer.specs.Short.{again_in, keys, most_parts, parts_of, seen_in, times}
use Rattle.proof_printer.proofs.Parting.{Among, comes_again, first_or}
use Rattle.proof_printer.proofs.Shortening.{text_same}

-- one text comes first before another does
abbrev Before : List ℕ → List ℕ → List (List ℕ) → Type 0
Before j k ks = place j ks < place k ks

-- places after one text more, by whether it is the one or the other
abbrev Later : Bool → Bool → ℕ → ℕ → Type 0
Later a b m n = cond (not a) (1 + m) 0 < cond (not b) (1 + n) 0

later_map : (a b : Bool) (m n p q : ℕ) → (b ≡ false → m < n → p < q) → Later a b m n → Later a b p q
later_map true true m n p q f h = absurd (omega (arith, h))
later_map true false m n p q f h = omega arith
later_map false true m n p q f h = absurd (omega (arith, h))
later_map false false m n p q f h = let g = f refl (omega (arith, h)) in omega (arith, g)

later_new : (a b : Bool) (m n : ℕ) → b ≡ false → m < n → Later a b m n
later_new true true m n e h = absurd (let bad : true ≡ false = e in cc)
later_new true false m n e h = omega arith
later_new false true m n e h = absurd (let bad : true ≡ false = e in cc)
later_new false false m n e h = omega (arith, h)

-- a text put into a list leaves which of two comes first, if it is not the later one or has come
put_later : (j k t : List ℕ) (ks js : List (List ℕ)) → (is_text k t ≡ false) ⊎ Among t ks → Before j k (ks ++ js) → Before j k (ks ++ t ∷ js)
put_later j k t [] js (inl n) h = later_new (is_text j t) (is_text k t) (place j js) (place k js) n h
put_later j k t [] js (inr e) h = absurd (cc)
put_later j k t (i ∷ ks) js c h = later_map (is_text j i) (is_text k i) (place j (ks ++ js)) (place k (ks ++ js)) (place j (ks ++ t ∷ js)) (place k (ks ++ t ∷ js)) (λ n. put_later j k t ks js (by n c)) h
  where
    one : is_text k i ≡ false → (is_text t i ≡ true) ⊎ Among t ks → (is_text k t ≡ false) ⊎ Among t ks
    one n (inl e) = inl (ap (is_text k) (text_same t i e) ∙ n)
    one n (inr e) = inr e

    by : is_text k i ≡ false → (is_text k t ≡ false) ⊎ Among t (i ∷ ks) → (is_text k t ≡ false) ⊎ Among t ks
    by n (inl e) = inl e
    by n (inr e) = one n (first_or (is_text t i) (is_among t ks) e)

-- so does one put after it, where it is not there
put_with : (b : Bool) (j k t : List ℕ) (ks js : List (List ℕ)) → is_among t ks ≡ b → Before j k ((if b then ks else ks ++ t ∷ []) ++ js) → Before j k (ks ++ t ∷ js)
put_with true j k t ks js e h = put_later j k t ks js (inr e) h
put_with false j k t ks js e h = subst (Before j k) (append_assoc ks (t ∷ []) js) h

seen_before : (j k : List ℕ) (seen ks : List (List ℕ)) → Before j k (seen_in seen ks) → Before j k (seen ++ ks)
seen_before j k seen [] h = subst (Before j k) (sym (append-nil seen)) h
seen_before j k seen (t ∷ ks) h = put_with (is_among t seen) j k t seen ks refl (seen_before j k (with_text t seen) ks h)

before_more : (j k : List ℕ) (ks js : List (List ℕ)) → Before j k ks → Before j k (ks ++ js)
before_more j k [] js h = absurd (omega (arith, h))
before_more j k (i ∷ ks) js h = later_map (is_text j i) (is_text k i) (place j ks) (place k ks) (place j (ks ++ js)) (place k (ks ++ js)) (λ n. before_more j k ks js) h

-- where there are this many, no more are picked
picked_full : (others : List (List ℕ)) (most : ℕ) (found ts : List (List ℕ)) → nat_lt (length found) most ≡ false → picked others most found ts ≡ found
picked_full others most found [] e = refl
picked_full others most found (t ∷ ts) e = ap (λ b. picked others most (cond (b && is_among t others) (with_text t found) found) ts) e ∙ picked_full others most found ts e

not_same : (c : Bool) (k t : List ℕ) (others : List (List ℕ)) → is_among t others ≡ c → c ≡ false → Among k others → is_text k t ≡ false
not_same c k t others e n h = by (is_text k t) refl
  where
    by : (b : Bool) → is_text k t ≡ b → is_text k t ≡ false
    by false same = same
    by true same = absurd (let bad : true ≡ false = sym (subst (λ z. Among z others) (text_same k t same) h) ∙ e ∙ n in cc)

picked_before : (j k : List ℕ) (others : List (List ℕ)) (most : ℕ) (found ts : List (List ℕ)) → Among k others → Before j k (picked others most found ts) → Before j k (found ++ ts)
picked_before j k others most found [] o h = subst (Before j k) (sym (append-nil found)) h
picked_before j k others most found (t ∷ ts) o h = by (nat_lt (length found) most) refl (is_among t others) refl (λ f p. picked_before j k others most f ts o p) h
  where
    by : (b : Bool) → nat_lt (length found) most ≡ b → (c : Bool) → is_among t others ≡ c → ((f : List (List ℕ)) → Before j k (picked others most f ts) → Before j k (f ++ ts))
        → Before j k (picked others most (cond (b && c) (with_text t found) found) ts) → Before j k (found ++ t ∷ ts)
    by true e true d go p = put_with (is_among t found) j k t found ts refl (go (with_text t found) p)
    by true e false d go p = put_later j k t found ts (inl (not_same (is_among t others) k t others refl d o)) (go found p)
    by false e c d go p = before_more j k found (t ∷ ts) (subst (Before j k) (picked_full others most found ts e) p)

-- a part stands before another one, and before a log for which no part is left, only where its first line does
pub parts_ordered : (ls : List TextLine) (j k : List ℕ) → 2 ≤ times k (keys ls) → Before j k (parts_of ls) → Before j k (keys ls)
parts_ordered ls j k h p =
    seen_before j k [] (keys ls) (picked_before j k (again_in [] [] (keys ls)) most_parts [] (seen_in [] (keys ls)) (comes_again k [] [] (keys ls) (inr (inr h))) p)
