-- Readers that read exactly the texts of values, and refuse at the first token that cannot stand there.
use Rattle.std.proofs.Common.{ℕ, ◌≡◌, ◌+◌, Bool, true, false, cond, List, [], ◌∷◌, ◌++◌, Option, Some, None, Result, Ok, Err, refl, sym, ap, subst, ◌∙◌, append_assoc, append-nil, ◌⊎◌, inl, inr}
use Rattle.std.specs.Str.{bytes_eq}
use Rattle.std.specs.List.{list_all}
use Rattle.std.proofs.lemmas.Slice.Eq.{bytes_eq-Decides}
use Rattle.base_numerals.proofs.Tests.{left_true}
use Rattle.clause_words.specs.Tokens.{separates, in_word, is_separator, size, blank}
use Rattle.clause_words.specs.Spelling.{is_plain, IsSpelling}
use Rattle.clause_words.specs.Texts.{field_text, both_text, Both}
use Rattle.clause_words.specs.Places.{Begins, IsRefusedAt}
use Rattle.clause_words.specs.Reading.{Token, Read, ◌>>=◌, or_refused, said, word_as, joint, blank_first, field, both, done, paired}
use Rattle.clause_words.proofs.Lists.{joint_more, joint_bad, word_some, word_none, done_is}

abbrev pub IsFault : {A : Type 0} → Result A ℕ → Type 0
IsFault (Ok x) = ⊥
IsFault (Err n) = Unit {0}

-- What is refused with this many bytes left, whatever stands after the first token that is left.
pub record IsStuck {V : Type 0} (IsValue : V → Type 0) (text : V → List Token) (read : List Token → Read V) (ts : List Token) (left : ℕ) : Type 0 where
  pub front : List Token
  pub back : List Token
  pub whole : ts ≡ front ++ back
  pub begins : Begins IsValue text front
  pub stuck : (x : Token) (rest more : List Token) → back ≡ x ∷ rest → IsFault (read (front ++ x ∷ more))
  pub place : size back ≡ left

-- the reader reads exactly the texts of values
pub record Reads {V : Type 0} (IsValue : V → Type 0) (text : V → List Token) (read : List Token → Read V) : Type 0 where
  pub found : (ts : List Token) (v : V) (rest : List Token) → read ts ≡ done v rest → IsValue v × (ts ≡ text v ++ rest)
  pub again : (v : V) (rest : List Token) → IsValue v → read (text v ++ rest) ≡ done v rest
  pub first : (ts : List Token) (n : ℕ) → read ts ≡ Err n → IsStuck IsValue text read ts n
  pub some : V
  pub some_is : IsValue some

fault_not : {A : Type 0} (r : Result A ℕ) (x : A) → IsFault r → r ≡ Ok x → ⊥
fault_not (Ok y) x h e = h
fault_not (Err n) x h e = cc

pub ok_not_err : {A : Type 0} (r : Result A ℕ) (x : A) (n : ℕ) → r ≡ Ok x → r ≡ Err n → ⊥
ok_not_err (Ok y) x n e f = cc
ok_not_err (Err m) x n e f = cc

-- the refusal of an exact reader is the first one
pub refused : {V : Type 0} (IsValue : V → Type 0) (text : V → List Token) (read : List Token → Read V) → Reads IsValue text read → (ts : List Token) (n : ℕ) → read ts ≡ Err n → IsRefusedAt IsValue text ts n
refused {V} IsValue text read r ts n e =
    let s = r.first ts n e in
    record {
      front = s.front;
      back = s.back;
      whole = s.whole;
      begins = s.begins;
      none = λ x rest p b.
          let parts : text b.value ++ [] ≡ s.front ++ x ∷ b.more = append-nil (text b.value) ∙ b.parts ∙ append_assoc s.front (x ∷ []) b.more in
          fault_not (read (s.front ++ x ∷ b.more)) (b.value, []) (s.stuck x rest b.more p) (ap read (sym parts) ∙ r.again b.value [] b.is_value);
      inside = λ v i p. ok_not_err (read ts) (v, s.back) n (ap read (s.whole ∙ ap (λ z. z ++ s.back) (sym p)) ∙ r.again v s.back i) e;
      place = s.place;
    }

-- ---- one reader after another

second_ok : {A B : Type 0} (a : A) (r : Read B) (v : A × B) (rest : List Token) → (r >>= paired a) ≡ done v rest → (b : B) × (r ≡ done b rest) × (v ≡ (a, b))
second_ok {A} {B} a (Ok y) v rest e =
    let w : A × B = (a, y.0) in
    let d = done_is w v y.1 rest e in
    (y.0, ap (done y.0) d.1, sym d.0)
second_ok a (Err n) v rest e = absurd cc

both_ok : {A B : Type 0} (ra : Read A) (rb : List Token → Read B) (v : A × B) (rest : List Token) → (ra >>= λ x. rb x.1 >>= paired x.0) ≡ done v rest
    → (a : A) × (mid : List Token) × (b : B) × (ra ≡ done a mid) × (rb mid ≡ done b rest) × (v ≡ (a, b))
both_ok (Ok x) rb v rest e = let s = second_ok x.0 (rb x.1) v rest e in (x.0, x.1, s.0, refl, s.1, s.2)
both_ok (Err n) rb v rest e = absurd cc

second_err : {A B : Type 0} (a : A) (r : Read B) (n : ℕ) → (r >>= paired a) ≡ Err n → r ≡ Err n
second_err a (Ok y) n e = absurd cc
second_err a (Err m) n e = cc

both_err : {A B : Type 0} (ra : Read A) (rb : List Token → Read B) (n : ℕ) → (ra >>= λ x. rb x.1 >>= paired x.0) ≡ Err n
    → (ra ≡ Err n) ⊎ ((a : A) × (mid : List Token) × (ra ≡ done a mid) × (rb mid ≡ Err n))
both_err (Ok x) rb n e = inr (x.0, x.1, refl, second_err x.0 (rb x.1) n e)
both_err (Err m) rb n e = inl (cc)

pub fault_bind : {A B : Type 0} (r : Result A ℕ) (f : A → Result B ℕ) → IsFault r → IsFault (r >>= f)
fault_bind (Ok x) f h = absurd h
fault_bind (Err n) f h = tt

both_first : {A B : Type 0} (P : A → Type 0) (Q : B → Type 0) (ta : A → List Token) (tb : B → List Token) (ra : List Token → Read A) (rb : List Token → Read B)
    → Reads P ta ra → Reads Q tb rb → (ts : List Token) (n : ℕ) → (ra ts ≡ Err n) ⊎ ((a : A) × (mid : List Token) × (ra ts ≡ done a mid) × (rb mid ≡ Err n))
    → IsStuck (Both P Q) (both_text ta tb) (both ra rb) ts n
both_first P Q ta tb ra rb r q ts n (inl e) =
    let s = r.first ts n e in
    record {
      front = s.front;
      back = s.back;
      whole = s.whole;
      begins = record { value = (s.begins.value, q.some); is_value = (s.begins.is_value, q.some_is); more = s.begins.more ++ tb q.some; parts = ap (λ z. z ++ tb q.some) s.begins.parts ∙ append_assoc s.front s.begins.more (tb q.some) };
      stuck = λ x rest more p. fault_bind (ra (s.front ++ x ∷ more)) (λ z. rb z.1 >>= paired z.0) (s.stuck x rest more p);
      place = s.place;
    }
both_first P Q ta tb ra rb r q ts n (inr e) =
    let a = e.0 in
    let f = r.found ts a e.1 e.2 in
    let s = q.first e.1 n e.3 in
    record {
      front = ta a ++ s.front;
      back = s.back;
      whole = f.1 ∙ ap (λ z. ta a ++ z) s.whole ∙ sym (append_assoc (ta a) s.front s.back);
      begins = record { value = (a, s.begins.value); is_value = (f.0, s.begins.is_value); more = s.begins.more; parts = ap (λ z. ta a ++ z) s.begins.parts ∙ sym (append_assoc (ta a) s.front s.begins.more) };
      stuck = λ x rest more p.
          let e : (ra ((ta a ++ s.front) ++ x ∷ more) >>= λ z. rb z.1 >>= paired z.0) ≡ (rb (s.front ++ x ∷ more) >>= paired a) =
          ap (λ z. z >>= λ w. rb w.1 >>= paired w.0) (ap ra (append_assoc (ta a) s.front (x ∷ more)) ∙ r.again a (s.front ++ x ∷ more) f.0) in
          subst IsFault (sym e) (fault_bind (rb (s.front ++ x ∷ more)) (paired a) (s.stuck x rest more p));
      place = s.place;
    }

pub both_reads : {A B : Type 0} (P : A → Type 0) (Q : B → Type 0) (ta : A → List Token) (tb : B → List Token) (ra : List Token → Read A) (rb : List Token → Read B)
    → Reads P ta ra → Reads Q tb rb → Reads (Both P Q) (both_text ta tb) (both ra rb)
both_reads {A} {B} P Q ta tb ra rb r q = record {
  found = λ ts v rest e.
      let o = both_ok (ra ts) rb v rest e in
      let f = r.found ts o.0 o.1 o.3 in
      let g = q.found o.1 o.2 rest o.4 in
      (subst (λ z. P z.0 × Q z.1) (sym o.5) (f.0, g.0), f.1 ∙ ap (λ z. ta o.0 ++ z) g.1 ∙ sym (append_assoc (ta o.0) (tb o.2) rest) ∙ ap (λ (z : A × B). both_text ta tb z ++ rest) (sym o.5));
  again = λ v rest i.
      ap (λ z. z >>= λ x. rb x.1 >>= paired x.0) (ap ra (append_assoc (ta v.0) (tb v.1) rest) ∙ r.again v.0 (tb v.1 ++ rest) i.0)
      ∙ ap (λ z. z >>= paired v.0) (q.again v.1 rest i.1);
  first = λ ts n e. both_first P Q ta tb ra rb r q ts n (both_err (ra ts) rb n e);
  some = (r.some, q.some);
  some_is = (r.some_is, q.some_is);
}

-- ---- what joins words

pub same_bytes : (x w : List ℕ) → bytes_eq x w ≡ true → x ≡ w
same_bytes x w h = (bytes_eq-Decides x w).0 h

pub blank_is : (us : List Token) → blank_first (blank ∷ us) ≡ Ok us
unfolding blank_first joint
blank_is us = refl

blank_bound : (ts us : List Token) (n : ℕ) (j : Read Bool) → joint ts ≡ j → (j >>= λ p. cond p.0 (Ok p.1) (Err n)) ≡ Ok us → joint ts ≡ done true us
blank_bound ts us n (Ok (true, vs)) e h = e ∙ ap (done true) (cc)
blank_bound ts us n (Ok (false, vs)) e h = absurd cc
blank_bound ts us n (Err m) e h = absurd cc

pub blank_ok : (ts us : List Token) → blank_first ts ≡ Ok us → ts ≡ blank ∷ us
unfolding blank_first
blank_ok ts us h =
    let j = joint_more ts us (blank_bound ts us (size ts) (joint ts) refl h) in
    j.1 ∙ ap (λ z. z ∷ us) (same_bytes j.0 blank j.2)

blank_size : (ts : List Token) (n : ℕ) (j : Read Bool) → joint ts ≡ j → (j >>= λ p. cond p.0 (Ok p.1) (Err (size ts))) ≡ Err n → size ts ≡ n
blank_size ts n (Ok (true, vs)) e h = absurd cc
blank_size ts n (Ok (false, vs)) e h = cc
blank_size ts n (Err m) e h =
    let k : m ≡ n = cc in
    elim (joint_bad ts m e) as (λ z. size ts ≡ n) [
      | inl a ↦ ap size a.0 ∙ sym a.1 ∙ k
      | inr a ↦ ap size a.2 ∙ sym a.3 ∙ k
    ]

pub blank_err : (ts : List Token) (n : ℕ) → blank_first ts ≡ Err n → size ts ≡ n
unfolding blank_first
blank_err ts n h = blank_size ts n (joint ts) refl h

pub other_blank : (x : Token) (more : List Token) → (x ≡ blank → ⊥) → IsFault (blank_first (x ∷ more))
other_blank x more h = by (blank_first (x ∷ more)) refl
  where
    by : (r : Result (List Token) ℕ) → blank_first (x ∷ more) ≡ r → IsFault r
    by (Ok us) e = let b = blank_ok (x ∷ more) us e in h (cc)
    by (Err n) e = tt

-- no blank comes first
no_blank : {V : Type 0} (IsValue : V → Type 0) (text : V → List Token) (rest : List Token → Read V) (ts : List Token) (n : ℕ) (v : V) → IsValue v → blank_first ts ≡ Err n
    → IsStuck IsValue text (λ us. blank_first us >>= rest) ts n
no_blank IsValue text rest ts n v i e = record {
  front = [];
  back = ts;
  whole = refl;
  begins = record { value = v; is_value = i; more = text v; parts = refl };
  stuck = λ x us more p. fault_bind (blank_first (x ∷ more)) rest (other_blank x more (λ q. ok_not_err (blank_first ts) us n (ap blank_first (p ∙ ap (λ z. z ∷ us) q) ∙ blank_is us) e));
  place = blank_err ts n e;
}

-- ---- one word

pub said_some : {A : Type 0} (f : List ℕ → Option A) (y : Token) (v : A) → said f y ≡ Some v → f y ≡ Some v
said_some {A} f y v h = by (is_separator y) h
  where
    by : (b : Bool) → cond b None (f y) ≡ Some v → f y ≡ Some v
    by true e = absurd cc
    by false e = e

pub not_separator : (w : List ℕ) → is_plain w ≡ true → is_separator w ≡ false
not_separator [] h = refl
not_separator (b ∷ bs) h = by (separates b) (left_true (in_word b) (list_all in_word bs) h)
  where
    by : (v : Bool) → Rattle.std.proofs.Common.not v ≡ true → v ≡ false
    by true e = absurd cc
    by false e = refl

pub said_value : {V : Type 0} (IsValue : V → Type 0) (spell : V → List ℕ) (f : List ℕ → Option V) → IsSpelling IsValue spell f → (v : V) → IsValue v → said f (spell v) ≡ Some v
said_value IsValue spell f s v i = ap (λ b. cond b None (f (spell v))) (not_separator (spell v) (s.plain v i)) ∙ s.again v i

pub word_is : {A : Type 0} (f : List ℕ → Option A) (y : Token) (ys : List Token) (v : A) → said f y ≡ Some v → word_as f (y ∷ ys) ≡ done v ys
unfolding word_as
word_is f y ys v h = ap (λ o. or_refused (size (y ∷ ys)) o >>= λ x. done x ys) h

pub word_not : {A : Type 0} (f : List ℕ → Option A) (y : Token) (ys : List Token) → said f y ≡ None → IsFault (word_as f (y ∷ ys))
unfolding word_as
word_not {A} f y ys h = subst (λ o. IsFault {A = A × List Token} (or_refused (size (y ∷ ys)) o >>= λ x. done x ys)) (sym h) tt

pub bind_ok : {A B : Type 0} (r : Result A ℕ) (f : A → Result B ℕ) (y : B) → (r >>= f) ≡ Ok y → (x : A) × (r ≡ Ok x) × (f x ≡ Ok y)
bind_ok (Ok x) f y e = (x, refl, e)
bind_ok (Err n) f y e = absurd cc

pub bind_err : {A B : Type 0} (r : Result A ℕ) (f : A → Result B ℕ) (n : ℕ) → (r >>= f) ≡ Err n → (r ≡ Err n) ⊎ ((x : A) × (r ≡ Ok x) × (f x ≡ Err n))
bind_err (Ok x) f n e = inr (x, refl, e)
bind_err (Err m) f n e = inl (cc)

field_first : {V : Type 0} (IsValue : V → Type 0) (spell : V → List ℕ) (f : List ℕ → Option V) → IsSpelling IsValue spell f → (ts : List Token) (n : ℕ)
    → (blank_first ts ≡ Err n) ⊎ ((us : List Token) × (blank_first ts ≡ Ok us) × (word_as f us ≡ Err n)) → IsStuck IsValue (field_text spell) (λ us. blank_first us >>= word_as f) ts n
field_first IsValue spell f s ts n (inl e) = no_blank IsValue (field_text spell) (word_as f) ts n s.some s.some_is e
field_first IsValue spell f s ts n (inr e) = record {
  front = blank ∷ [];
  back = e.0;
  whole = blank_ok ts e.0 e.1;
  begins = record { value = s.some; is_value = s.some_is; more = spell s.some ∷ []; parts = refl };
  stuck = λ x us more p. subst IsFault (sym (ap (λ z. z >>= word_as f) (blank_is (x ∷ more)))) (wrong x us more p (word_none f e.0 n e.2));
  place = size_by (word_none f e.0 n e.2);
}
  where
    wrong : (x : Token) (us more : List Token) → e.0 ≡ x ∷ us → ((e.0 ≡ []) × (n ≡ 0)) ⊎ ((y : Token) × (ys : List Token) × (e.0 ≡ y ∷ ys) × (n ≡ size (y ∷ ys)) × (said f y ≡ None)) → IsFault (word_as f (x ∷ more))
    wrong x us more p (inl a) = let q = a.0 in absurd cc
    wrong x us more p (inr a) = let q = a.2 in let same : a.0 ≡ x = cc in word_not f x more (ap (said f) (sym same) ∙ a.4)

    size_by : ((e.0 ≡ []) × (n ≡ 0)) ⊎ ((y : Token) × (ys : List Token) × (e.0 ≡ y ∷ ys) × (n ≡ size (y ∷ ys)) × (said f y ≡ None)) → size e.0 ≡ n
    size_by (inl a) = ap size a.0 ∙ sym a.1
    size_by (inr a) = ap size a.2 ∙ sym a.3

pub field_reads : {V : Type 0} (IsValue : V → Type 0) (spell : V → List ℕ) (f : List ℕ → Option V) → IsSpelling IsValue spell f → Reads IsValue (field_text spell) (field f)
unfolding field
field_reads IsValue spell f s = record {
  found = λ ts v rest e.
      let b = bind_ok (blank_first ts) (word_as f) (v, rest) e in
      let w = word_some f b.0 v rest b.2 in
      let g = s.found w.0 v (said_some f w.0 v w.2) in
      (g.0, blank_ok ts b.0 b.1 ∙ ap (λ z. blank ∷ z) (w.1 ∙ ap (λ z. z ∷ rest) g.1));
  again = λ v rest i. ap (λ z. z >>= word_as f) (blank_is (spell v ∷ rest)) ∙ word_is f (spell v) rest v (said_value IsValue spell f s v i);
  first = λ ts n e. field_first IsValue spell f s ts n (bind_err (blank_first ts) (word_as f) n e);
  some = s.some;
  some_is = s.some_is;
}
