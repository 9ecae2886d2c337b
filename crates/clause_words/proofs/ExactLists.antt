-- Readers of the end of a line and of lists to the end of a line are exact.
use Rattle.std.proofs.Common.{ℕ, ◌≡◌, Bool, true, false, cond, List, [], ◌∷◌, ◌++◌, Option, Some, None, Result, Ok, Err, refl, sym, ap, subst, ◌∙◌, inl, inr}
use Rattle.std.specs.Str.{bytes_eq}
use Rattle.std.specs.List.{AllByRecursion}
use Rattle.clause_words.specs.Tokens.{size, blank, line_feed}
use Rattle.clause_words.specs.Spelling.{IsSpelling}
use Rattle.clause_words.specs.Texts.{list_text, end_text, Always}
use Rattle.clause_words.specs.Reading.{Token, Read, ◌>>=◌, said, joint, feed_first, with_first, going_on, fields, ends, done}
use Rattle.clause_words.proofs.Lists.{joint_end, joint_bad, bad_one, wrong_one, more_one, done_is}
use Rattle.clause_words.proofs.Exact.{IsFault, IsStuck, Reads, fault_bind, ok_not_err, said_some, said_value, same_bytes}

-- ---- the end of a line

feed_is : (us : List Token) → feed_first (line_feed ∷ us) ≡ Ok us
unfolding feed_first joint
feed_is us = refl

feed_bound : (ts us : List Token) (n : ℕ) (j : Read Bool) → joint ts ≡ j → (j >>= λ p. cond p.0 (Err n) (Ok p.1)) ≡ Ok us → joint ts ≡ done false us
feed_bound ts us n (Ok (false, vs)) e h = e ∙ ap (done false) (cc)
feed_bound ts us n (Ok (true, vs)) e h = absurd cc
feed_bound ts us n (Err m) e h = absurd cc

feed_ok : (ts us : List Token) → feed_first ts ≡ Ok us → ts ≡ line_feed ∷ us
unfolding feed_first
feed_ok ts us h =
    let j = joint_end ts us (feed_bound ts us (size ts) (joint ts) refl h) in
    j.1 ∙ ap (λ z. z ∷ us) (same_bytes j.0 line_feed j.3)

feed_size : (ts : List Token) (n : ℕ) (j : Read Bool) → joint ts ≡ j → (j >>= λ p. cond p.0 (Err (size ts)) (Ok p.1)) ≡ Err n → size ts ≡ n
feed_size ts n (Ok (true, vs)) e h = cc
feed_size ts n (Ok (false, vs)) e h = absurd cc
feed_size ts n (Err m) e h =
    let k : m ≡ n = cc in
    elim (joint_bad ts m e) as (λ z. size ts ≡ n) [
      | inl a ↦ ap size a.0 ∙ sym a.1 ∙ k
      | inr a ↦ ap size a.2 ∙ sym a.3 ∙ k
    ]

feed_err : (ts : List Token) (n : ℕ) → feed_first ts ≡ Err n → size ts ≡ n
unfolding feed_first
feed_err ts n h = feed_size ts n (joint ts) refl h

other_feed : (x : Token) (more : List Token) → (x ≡ line_feed → ⊥) → IsFault (feed_first (x ∷ more))
other_feed x more h = by (feed_first (x ∷ more)) refl
  where
    by : (r : Result (List Token) ℕ) → feed_first (x ∷ more) ≡ r → IsFault r
    by (Ok us) e = let b = feed_ok (x ∷ more) us e in h (cc)
    by (Err n) e = tt

end_ok : (r : Result (List Token) ℕ) (v : Unit {0}) (rest : List Token) → (r >>= λ us. done {A = Unit {0}} tt us) ≡ done v rest → r ≡ Ok rest
end_ok (Ok us) v rest e = ap Ok (done_is {A = Unit {0}} tt v us rest e).1
end_ok (Err n) v rest e = absurd cc

end_err : (r : Result (List Token) ℕ) (n : ℕ) → (r >>= λ us. done {A = Unit {0}} tt us) ≡ Err n → r ≡ Err n
end_err (Ok us) n e = absurd cc
end_err (Err m) n e = cc

pub ends_reads : Reads Always end_text ends
ends_reads = record {
  found = λ ts v rest e. (tt, feed_ok ts rest (end_ok (feed_first ts) v rest e));
  again = λ v rest i. ap (λ z. z >>= λ us. done {A = Unit {0}} tt us) (feed_is rest);
  first = λ ts n e.
      let f = end_err (feed_first ts) n e in
      record {
        front = [];
        back = ts;
        whole = refl;
        begins = record { value = tt; is_value = tt; more = line_feed ∷ []; parts = refl };
        stuck = λ x us more p. fault_bind (feed_first (x ∷ more)) (λ us. done {A = Unit {0}} tt us) (other_feed x more (λ q. ok_not_err (feed_first ts) us n (ap feed_first (p ∙ ap (λ z. z ∷ us) q) ∙ feed_is us) f));
        place = feed_err ts n f;
      };
  some = tt;
  some_is = tt;
}

-- ---- lists to the end of a line

pub with_first_ok : {A : Type 0} (v : A) (r : Read (List A)) (vs : List A) (rest : List Token) → with_first v r ≡ done vs rest → (ws : List A) × (r ≡ done ws rest) × (vs ≡ v ∷ ws)
with_first_ok v (Ok p) vs rest e = let d = done_is (v ∷ p.0) vs p.1 rest e in (p.0, ap (λ z. done p.0 z) d.1, sym d.0)
with_first_ok v (Err n) vs rest e = absurd cc

pub with_first_err : {A : Type 0} (v : A) (r : Read (List A)) (n : ℕ) → with_first v r ≡ Err n → r ≡ Err n
with_first_err v (Ok p) n e = absurd cc
with_first_err v (Err m) n e = cc

abbrev HasList : {V : Type 0} → (V → Type 0) → (V → List ℕ) → List Token → List V → List Token → Type 0
HasList P spell ts vs rest = AllByRecursion P vs × (ts ≡ list_text spell vs ++ rest)

list_end_by : {V : Type 0} (P : V → Type 0) (spell : V → List ℕ) (x : Token) (us : List Token) (c : Bool) (n : ℕ) (vs : List V) (rest : List Token)
    → bytes_eq x line_feed ≡ c → cond c (done [] us) (Err n) ≡ done vs rest → HasList P spell (x ∷ us) vs rest
list_end_by P spell x us true n vs rest p e =
    let d = done_is [] vs us rest e in
    subst (λ z. HasList P spell (x ∷ us) z rest) d.0 (tt, ap (λ z. z ∷ us) (same_bytes x line_feed p) ∙ ap (λ z. line_feed ∷ z) d.1)
list_end_by P spell x us false n vs rest p e = absurd cc

list_more_by : {V : Type 0} (P : V → Type 0) (spell : V → List ℕ) (f : List ℕ → Option V) → IsSpelling P spell f → (x y : Token) (us : List Token) (o : Option V) (n : ℕ) (vs : List V) (rest : List Token)
    → ((ws : List V) → fields f us ≡ done ws rest → HasList P spell us ws rest)
    → bytes_eq x blank ≡ true → said f y ≡ o → going_on n o (fields f us) ≡ done vs rest → HasList P spell (x ∷ y ∷ us) vs rest
list_more_by P spell f s x y us None n vs rest ih p q e = absurd cc
list_more_by P spell f s x y us (Some v) n vs rest ih p q e =
    let w = with_first_ok v (fields f us) vs rest e in
    let h = ih w.0 w.1 in
    let g = s.found y v (said_some f y v q) in
    subst (λ z. HasList P spell (x ∷ y ∷ us) z rest) (sym w.2)
    ((g.0, h.0), ap (λ z. z ∷ y ∷ us) (same_bytes x blank p) ∙ ap (λ z. blank ∷ z ∷ us) g.1 ∙ ap (λ z. blank ∷ spell v ∷ z) h.1)

list_found : {V : Type 0} (P : V → Type 0) (spell : V → List ℕ) (f : List ℕ → Option V) → IsSpelling P spell f → (ts : List Token) (vs : List V) (rest : List Token) → fields f ts ≡ done vs rest → HasList P spell ts vs rest
unfolding fields
list_found P spell f s [] vs rest e = absurd cc
list_found {V} P spell f s (x ∷ []) vs rest e = by (bytes_eq x blank) e
  where
    by : (b : Bool) → cond b (Err 0) (cond (bytes_eq x line_feed) (done [] []) (Err (size (x ∷ [])))) ≡ done vs rest → HasList P spell (x ∷ []) vs rest
    by true e = absurd cc
    by false e = list_end_by P spell x [] (bytes_eq x line_feed) (size (x ∷ [])) vs rest refl e
list_found {V} P spell f s (x ∷ y ∷ us) vs rest e = by (bytes_eq x blank) refl e (λ ws. list_found P spell f s us ws rest)
  where
    by : (b : Bool) → bytes_eq x blank ≡ b → cond b (going_on (size (y ∷ us)) (said f y) (fields f us)) (cond (bytes_eq x line_feed) (done [] (y ∷ us)) (Err (size (x ∷ y ∷ us)))) ≡ done vs rest
        → ((ws : List V) → fields f us ≡ done ws rest → HasList P spell us ws rest) → HasList P spell (x ∷ y ∷ us) vs rest
    by true p e ih = list_more_by P spell f s x y us (said f y) (size (y ∷ us)) vs rest ih p refl e
    by false p e ih = list_end_by P spell x (y ∷ us) (bytes_eq x line_feed) (size (x ∷ y ∷ us)) vs rest refl e

list_again : {V : Type 0} (P : V → Type 0) (spell : V → List ℕ) (f : List ℕ → Option V) → IsSpelling P spell f → (vs : List V) (rest : List Token) → AllByRecursion P vs → fields f (list_text spell vs ++ rest) ≡ done vs rest
unfolding fields
list_again P spell f s [] [] h = refl
list_again P spell f s [] (y ∷ rest) h = refl
list_again P spell f s (v ∷ vs) rest h =
    ap (λ o. going_on (size (spell v ∷ (list_text spell vs ++ rest))) o (fields f (list_text spell vs ++ rest))) (said_value P spell f s v h.0)
    ∙ ap (with_first v) (list_again P spell f s vs rest h.1)

abbrev StuckList : {V : Type 0} → (V → Type 0) → (V → List ℕ) → (List ℕ → Option V) → List Token → ℕ → Type 0
StuckList P spell f ts n = IsStuck (AllByRecursion P) (list_text spell) (fields f) ts n

no_list_here : {V : Type 0} (P : V → Type 0) (spell : V → List ℕ) (f : List ℕ → Option V) (x : Token) (us : List Token) (n : ℕ) → bytes_eq x blank ≡ false → bytes_eq x line_feed ≡ false → size (x ∷ us) ≡ n → StuckList P spell f (x ∷ us) n
no_list_here P spell f x us n p q e = record {
  front = [];
  back = x ∷ us;
  whole = refl;
  begins = record { value = []; is_value = tt; more = line_feed ∷ []; parts = refl };
  stuck = λ y rest more h. let same : x ≡ y = cc in subst (λ z. IsFault (fields f (z ∷ more))) same (subst IsFault (sym (bad_one f x more p q)) tt);
  place = e;
}

list_neither : {V : Type 0} (P : V → Type 0) (spell : V → List ℕ) (f : List ℕ → Option V) (x : Token) (us : List Token) (c : Bool) (n : ℕ) → bytes_eq x blank ≡ false → bytes_eq x line_feed ≡ c
    → cond c (done {A = List V} [] us) (Err (size (x ∷ us))) ≡ Err n → StuckList P spell f (x ∷ us) n
list_neither P spell f x us true n p q e = absurd cc
list_neither P spell f x us false n p q e = no_list_here P spell f x us n p q (cc)

-- the text ends after a blank
list_short : {V : Type 0} (P : V → Type 0) (spell : V → List ℕ) (f : List ℕ → Option V) → IsSpelling P spell f → (x : Token) → bytes_eq x blank ≡ true → StuckList P spell f (x ∷ []) 0
list_short P spell f s x p = record {
  front = x ∷ [];
  back = [];
  whole = refl;
  begins = record { value = s.some ∷ []; is_value = (s.some_is, tt); more = spell s.some ∷ line_feed ∷ []; parts = ap (λ z. z ∷ spell s.some ∷ line_feed ∷ []) (sym (same_bytes x blank p)) };
  stuck = λ y rest more h. absurd cc;
  place = refl;
}

list_bad_word : {V : Type 0} (P : V → Type 0) (spell : V → List ℕ) (f : List ℕ → Option V) → IsSpelling P spell f → (x y : Token) (us : List Token) (n : ℕ) → bytes_eq x blank ≡ true → said f y ≡ None → size (y ∷ us) ≡ n
    → StuckList P spell f (x ∷ y ∷ us) n
list_bad_word P spell f s x y us n p q e = record {
  front = x ∷ [];
  back = y ∷ us;
  whole = refl;
  begins = record { value = s.some ∷ []; is_value = (s.some_is, tt); more = spell s.some ∷ line_feed ∷ []; parts = ap (λ z. z ∷ spell s.some ∷ line_feed ∷ []) (sym (same_bytes x blank p)) };
  stuck = λ z rest more h. let same : y ≡ z = cc in subst (λ w. IsFault (fields f (x ∷ w ∷ more))) same (subst IsFault (sym (wrong_one f x y more p q)) tt);
  place = e;
}

list_step : {A : Type 0} (f : List ℕ → Option A) (x y : Token) (us : List Token) (v : A) → bytes_eq x blank ≡ true → said f y ≡ Some v → fields f (x ∷ y ∷ us) ≡ with_first v (fields f us)
list_step f x y us v p q = more_one f x y us v p q

list_later : {V : Type 0} (P : V → Type 0) (spell : V → List ℕ) (f : List ℕ → Option V) → IsSpelling P spell f → (x y : Token) (us : List Token) (o : Option V) (n : ℕ)
    → ((m : ℕ) → fields f us ≡ Err m → StuckList P spell f us m)
    → bytes_eq x blank ≡ true → said f y ≡ o → going_on (size (y ∷ us)) o (fields f us) ≡ Err n → StuckList P spell f (x ∷ y ∷ us) n
list_later P spell f s x y us None n ih p q e = list_bad_word P spell f s x y us n p q (cc)
list_later P spell f s x y us (Some v) n ih p q e =
    let h = ih n (with_first_err v (fields f us) n e) in
    let g = s.found y v (said_some f y v q) in
    record {
      front = x ∷ y ∷ h.front;
      back = h.back;
      whole = ap (λ z. x ∷ y ∷ z) h.whole;
      begins = record {
        value = v ∷ h.begins.value;
        is_value = (g.0, h.begins.is_value);
        more = h.begins.more;
        parts = ap (λ z. z ∷ spell v ∷ list_text spell h.begins.value) (sym (same_bytes x blank p)) ∙ ap (λ z. x ∷ z ∷ list_text spell h.begins.value) (sym g.1) ∙ ap (λ z. x ∷ y ∷ z) h.begins.parts;
      };
      stuck = λ z rest more k. subst IsFault (sym (list_step f x y (h.front ++ z ∷ more) v p q)) (fault_bind (fields f (h.front ++ z ∷ more)) (λ w. done (v ∷ w.0) w.1) (h.stuck z rest more k));
      place = h.place;
    }

list_first : {V : Type 0} (P : V → Type 0) (spell : V → List ℕ) (f : List ℕ → Option V) → IsSpelling P spell f → (ts : List Token) (n : ℕ) → fields f ts ≡ Err n → StuckList P spell f ts n
unfolding fields
list_first P spell f s [] n e = record {
  front = [];
  back = [];
  whole = refl;
  begins = record { value = []; is_value = tt; more = line_feed ∷ []; parts = refl };
  stuck = λ y rest more h. absurd cc;
  place = cc;
}
list_first {V} P spell f s (x ∷ []) n e = by (bytes_eq x blank) refl e
  where
    by : (b : Bool) → bytes_eq x blank ≡ b → cond b (Err 0) (cond (bytes_eq x line_feed) (done {A = List V} [] []) (Err (size (x ∷ [])))) ≡ Err n → StuckList P spell f (x ∷ []) n
    by true p e = subst (λ z. StuckList P spell f (x ∷ []) z) (cc) (list_short P spell f s x p)
    by false p e = list_neither P spell f x [] (bytes_eq x line_feed) n p refl e
list_first {V} P spell f s (x ∷ y ∷ us) n e = by (bytes_eq x blank) refl e (λ m. list_first P spell f s us m)
  where
    by : (b : Bool) → bytes_eq x blank ≡ b → cond b (going_on (size (y ∷ us)) (said f y) (fields f us)) (cond (bytes_eq x line_feed) (done {A = List V} [] (y ∷ us)) (Err (size (x ∷ y ∷ us)))) ≡ Err n
        → ((m : ℕ) → fields f us ≡ Err m → StuckList P spell f us m) → StuckList P spell f (x ∷ y ∷ us) n
    by true p e ih = list_later P spell f s x y us (said f y) n ih p refl e
    by false p e ih = list_neither P spell f x (y ∷ us) (bytes_eq x line_feed) n p refl e

pub fields_reads : {V : Type 0} (P : V → Type 0) (spell : V → List ℕ) (f : List ℕ → Option V) → IsSpelling P spell f → Reads (AllByRecursion P) (list_text spell) (fields f)
fields_reads P spell f s = record {
  found = list_found P spell f s;
  again = list_again P spell f s;
  first = list_first P spell f s;
  some = [];
  some_is = tt;
}
