-- Lists that a word ends.
use Rattle.std.proofs.Common.{ℕ, ◌≡◌, Bool, true, false, cond, List, [], ◌∷◌, ◌++◌, Option, Some, None, Ok, Err, refl, sym, ap, subst, ◌∙◌, append_assoc, append-nil, inl, inr}
use Rattle.std.specs.Str.{bytes_eq}
use Rattle.std.specs.Option.{option_map}
use Rattle.std.specs.List.{AllByRecursion}
use Rattle.std.proofs.lemmas.Slice.Eq.{bytes_eq-Decides}
use Rattle.proof_tokens.specs.declared.reading.Refusal.{Refusal}
use Rattle.proof_tokens.specs.declared.reading.Refusal.TheVariants as e
use Rattle.clause_words.specs.Tokens.{is_separator, size, blank}
use Rattle.clause_words.specs.Spelling.{IsSpelling}
use Rattle.clause_words.specs.Texts.{list_to_text}
use Rattle.clause_words.specs.Reading.{Token, Read, Fails, said, word_as, blank_first, with_first, going_on_unless, unless, fields_to, done}
use Rattle.clause_words.proofs.Lists.{word_some, word_none, with_front}
use Rattle.clause_words.proofs.Exact.{blank_ok, blank_err, blank_is, ok_not_err, same_bytes, said_some, not_separator, fault_bind, IsFault, IsStuck, Reads}
use Rattle.clause_words.proofs.ExactLists.{with_first_ok, with_first_err}

-- ---- one step

to_more : {A : Type 0} (f : List ℕ → Option (Option A)) (x y : Token) (us : List Token) (v : A) → bytes_eq x blank ≡ true → said f y ≡ Some (Some v) → fields_to f (x ∷ y ∷ us) ≡ with_first v (fields_to f us)
unfolding fields_to
to_more f x y us v p q =
    ap (λ b. cond b (going_on_unless (size (y ∷ us)) us (said f y) (fields_to f us)) (Err (size (x ∷ y ∷ us)))) p
    ∙ ap (λ o. going_on_unless (size (y ∷ us)) us o (fields_to f us)) q

to_end : {A : Type 0} (f : List ℕ → Option (Option A)) (x y : Token) (us : List Token) → bytes_eq x blank ≡ true → said f y ≡ Some None → fields_to f (x ∷ y ∷ us) ≡ done [] us
unfolding fields_to
to_end f x y us p q =
    ap (λ b. cond b (going_on_unless (size (y ∷ us)) us (said f y) (fields_to f us)) (Err (size (x ∷ y ∷ us)))) p
    ∙ ap (λ o. going_on_unless (size (y ∷ us)) us o (fields_to f us)) q

to_wrong : {A : Type 0} (f : List ℕ → Option (Option A)) (x y : Token) (us : List Token) → bytes_eq x blank ≡ true → said f y ≡ None → fields_to f (x ∷ y ∷ us) ≡ Err (size (y ∷ us))
unfolding fields_to
to_wrong f x y us p q =
    ap (λ b. cond b (going_on_unless (size (y ∷ us)) us (said f y) (fields_to f us)) (Err (size (x ∷ y ∷ us)))) p
    ∙ ap (λ o. going_on_unless (size (y ∷ us)) us o (fields_to f us)) q

to_short : {A : Type 0} (f : List ℕ → Option (Option A)) (x : Token) → bytes_eq x blank ≡ true → fields_to f (x ∷ []) ≡ Err 0
unfolding fields_to
to_short f x p = ap (λ b. cond b (Err 0) (Err (size (x ∷ [])))) p

to_bad : {A : Type 0} (f : List ℕ → Option (Option A)) (x : Token) (us : List Token) → bytes_eq x blank ≡ false → fields_to f (x ∷ us) ≡ Err (size (x ∷ us))
unfolding fields_to
to_bad f x [] p = ap (λ b. cond b (Err 0) (Err (size (x ∷ [])))) p
to_bad f x (y ∷ us) p = ap (λ b. cond b (going_on_unless (size (y ∷ us)) us (said f y) (fields_to f us)) (Err (size (x ∷ y ∷ us)))) p

to_nothing : {A : Type 0} (f : List ℕ → Option (Option A)) → fields_to f [] ≡ Err 0
unfolding fields_to
to_nothing f = refl

-- ---- the loop

blank_test : bytes_eq blank blank ≡ true
blank_test = refl

regroup : {A : Type 0} (front : List A) (v : A) (read : Read (List A)) → with_front front (with_first v read) ≡ with_front (front ++ v ∷ []) read
regroup front v (Ok p) = ap (λ vs. done vs p.1) (sym (append_assoc front (v ∷ []) p.0))
regroup front v (Err n) = refl

pub to_loop_more : {A : Type 0} (f : List ℕ → Option (Option A)) (front : List A) (ts us vs : List Token) (v : A) (total : Read (List A)) → blank_first ts ≡ Ok us → word_as f us ≡ done (Some v) vs
    → with_front front (fields_to f ts) ≡ total → with_front (front ++ v ∷ []) (fields_to f vs) ≡ total
to_loop_more f front ts us vs v total j w h =
    let b = word_some f us (Some v) vs w in
    let one : fields_to f ts ≡ with_first v (fields_to f vs) = ap (fields_to f) (blank_ok ts us j ∙ ap (λ z. blank ∷ z) b.1) ∙ to_more f blank b.0 vs v blank_test b.2 in
    sym (regroup front v (fields_to f vs)) ∙ ap (with_front front) (sym one) ∙ h

pub to_loop_end : {A : Type 0} (f : List ℕ → Option (Option A)) (front : List A) (ts us vs : List Token) (total : Read (List A)) → blank_first ts ≡ Ok us → word_as f us ≡ done None vs
    → with_front front (fields_to f ts) ≡ total → total ≡ done front vs
to_loop_end f front ts us vs total j w h =
    let b = word_some f us None vs w in
    let one : fields_to f ts ≡ done [] vs = ap (fields_to f) (blank_ok ts us j ∙ ap (λ z. blank ∷ z) b.1) ∙ to_end f blank b.0 vs blank_test b.2 in
    sym h ∙ ap (with_front front) one ∙ ap (λ ws. done ws vs) (append-nil front)

not_blank : (x : Token) (xs : List Token) (n : ℕ) → blank_first (x ∷ xs) ≡ Err n → bytes_eq x blank ≡ false
not_blank x xs n h = by (bytes_eq x blank) refl
  where
    by : (b : Bool) → bytes_eq x blank ≡ b → b ≡ false
    by true e = absurd (ok_not_err (blank_first (x ∷ xs)) xs n (ap (λ z. blank_first (z ∷ xs)) (same_bytes x blank e) ∙ blank_is xs) h)
    by false e = refl

to_refused : {A : Type 0} (f : List ℕ → Option (Option A)) (ts : List Token) (n : ℕ) → blank_first ts ≡ Err n → fields_to f ts ≡ Err n
to_refused f [] n h = to_nothing f ∙ ap Err (blank_err [] n h)
to_refused f (x ∷ xs) n h = to_bad f x xs (not_blank x xs n h) ∙ ap Err (blank_err (x ∷ xs) n h)

pub to_loop_bad : {A : Type 0} (f : List ℕ → Option (Option A)) (front : List A) (ts : List Token) (fault : Refusal) (total : Read (List A)) → Fails fault (blank_first ts)
    → with_front front (fields_to f ts) ≡ total → Fails fault total
to_loop_bad f front ts e.Memory total j h = tt
to_loop_bad f front ts (e.Syntax n) total j h = sym h ∙ ap (with_front front) (to_refused f ts n j)

to_wrong_word : {A : Type 0} (f : List ℕ → Option (Option A)) (ts us : List Token) (n : ℕ) → blank_first ts ≡ Ok us → word_as f us ≡ Err n → fields_to f ts ≡ Err n
to_wrong_word {A} f ts us n j w =
    elim (word_none f us n w) as (λ z. fields_to f ts ≡ Err n) [
      | inl b ↦ ap (fields_to f) (blank_ok ts us j ∙ ap (λ z. blank ∷ z) b.0) ∙ to_short f blank blank_test ∙ ap Err (sym b.1)
      | inr b ↦ ap (fields_to f) (blank_ok ts us j ∙ ap (λ z. blank ∷ z) b.2) ∙ to_wrong f blank b.0 b.1 blank_test b.4 ∙ ap Err (sym b.3)
    ]

pub to_loop_wrong : {A : Type 0} (f : List ℕ → Option (Option A)) (front : List A) (ts us : List Token) (fault : Refusal) (total : Read (List A)) → blank_first ts ≡ Ok us → Fails fault (word_as f us)
    → with_front front (fields_to f ts) ≡ total → Fails fault total
to_loop_wrong f front ts us e.Memory total j w h = tt
to_loop_wrong f front ts us (e.Syntax n) total j w h = sym h ∙ ap (with_front front) (to_wrong_word f ts us n j w)

-- ---- an exact reader

said_end : {A : Type 0} (w : List ℕ) (f : List ℕ → Option A) (y : Token) → said (unless w f) y ≡ Some None → y ≡ w
said_end {A} w f y h = by (bytes_eq y w) refl (said_some (unless w f) y None h)
  where
    by : (b : Bool) → bytes_eq y w ≡ b → cond b (Some None) (option_map Some (f y)) ≡ Some None → y ≡ w
    by true p e = same_bytes y w p
    by false p e = absurd (other (f y) e)
      where
        other : (o : Option A) → option_map Some o ≡ Some None → ⊥
        other None e = cc
        other (Some v) e = cc

said_item : {A : Type 0} (w : List ℕ) (f : List ℕ → Option A) (y : Token) (v : A) → said (unless w f) y ≡ Some (Some v) → f y ≡ Some v
said_item {A} w f y v h = by (bytes_eq y w) (said_some (unless w f) y (Some v) h)
  where
    other : (o : Option A) → option_map Some o ≡ Some (Some v) → o ≡ Some v
    other None e = absurd cc
    other (Some u) e = cc

    by : (b : Bool) → cond b (Some None) (option_map Some (f y)) ≡ Some (Some v) → f y ≡ Some v
    by true e = absurd cc
    by false e = other (f y) e

abbrev pub IsEndWord : {V : Type 0} → (List ℕ → Option V) → List ℕ → Type 0
IsEndWord f w = (f w ≡ None) × (is_separator w ≡ false)

says_item : {V : Type 0} (P : V → Type 0) (spell : V → List ℕ) (f : List ℕ → Option V) (w : List ℕ) → IsSpelling P spell f → IsEndWord f w → (v : V) → P v → said (unless w f) (spell v) ≡ Some (Some v)
says_item {V} P spell f w s i v p =
    ap (λ b. cond b None (unless w f (spell v))) (not_separator (spell v) (s.plain v p)) ∙ by (bytes_eq (spell v) w) refl ∙ ap (option_map Some) (s.again v p)
  where
    clash : (o : Option V) → o ≡ None → o ≡ Some v → ⊥
    clash None e g = cc
    clash (Some u) e g = cc

    by : (b : Bool) → bytes_eq (spell v) w ≡ b → cond b (Some None) (option_map Some (f (spell v))) ≡ option_map Some (f (spell v))
    by true e = absurd (clash (f w) i.0 (ap f (sym (same_bytes (spell v) w e)) ∙ s.again v p))
    by false e = refl

same_test : (w : List ℕ) → bytes_eq w w ≡ true
same_test w = (bytes_eq-Decides w w).1 refl

says_end : {V : Type 0} (f : List ℕ → Option V) (w : List ℕ) → IsEndWord f w → said (unless w f) w ≡ Some None
says_end f w i = ap (λ b. cond b None (unless w f w)) i.1 ∙ ap (λ b. cond b (Some None) (option_map Some (f w))) (same_test w)

abbrev HasTo : {V : Type 0} → (V → Type 0) → List ℕ → (V → List ℕ) → List Token → List V → List Token → Type 0
HasTo P w spell ts vs rest = AllByRecursion P vs × (ts ≡ list_to_text w spell vs ++ rest)

to_found_by : {V : Type 0} (P : V → Type 0) (spell : V → List ℕ) (f : List ℕ → Option V) (w : List ℕ) → IsSpelling P spell f → (x y : Token) (us : List Token) (o : Option (Option V)) (n : ℕ) (vs : List V) (rest : List Token)
    → ((ws : List V) → fields_to (unless w f) us ≡ done ws rest → HasTo P w spell us ws rest)
    → bytes_eq x blank ≡ true → said (unless w f) y ≡ o → going_on_unless n us o (fields_to (unless w f) us) ≡ done vs rest → HasTo P w spell (x ∷ y ∷ us) vs rest
to_found_by P spell f w s x y us None n vs rest ih p q e = absurd cc
to_found_by {V} P spell f w s x y us (Some None) n vs rest ih p q e =
    let d = Rattle.clause_words.proofs.Lists.done_is {A = List V} [] vs us rest e in
    subst (λ z. HasTo P w spell (x ∷ y ∷ us) z rest) d.0
    (tt, ap (λ z. z ∷ y ∷ us) (same_bytes x blank p) ∙ ap (λ z. blank ∷ z ∷ us) (said_end w f y q) ∙ ap (λ z. blank ∷ w ∷ z) d.1)
to_found_by P spell f w s x y us (Some (Some v)) n vs rest ih p q e =
    let k = with_first_ok v (fields_to (unless w f) us) vs rest e in
    let h = ih k.0 k.1 in
    let g = s.found y v (said_item w f y v q) in
    subst (λ z. HasTo P w spell (x ∷ y ∷ us) z rest) (sym k.2)
    ((g.0, h.0), ap (λ z. z ∷ y ∷ us) (same_bytes x blank p) ∙ ap (λ z. blank ∷ z ∷ us) g.1 ∙ ap (λ z. blank ∷ spell v ∷ z) h.1)

to_found : {V : Type 0} (P : V → Type 0) (spell : V → List ℕ) (f : List ℕ → Option V) (w : List ℕ) → IsSpelling P spell f → (ts : List Token) (vs : List V) (rest : List Token) → fields_to (unless w f) ts ≡ done vs rest → HasTo P w spell ts vs rest
unfolding fields_to
to_found P spell f w s [] vs rest e = absurd cc
to_found {V} P spell f w s (x ∷ []) vs rest e = by (bytes_eq x blank) e
  where
    by : (b : Bool) → cond {A = Read (List V)} b (Err 0) (Err (size (x ∷ []))) ≡ done vs rest → HasTo P w spell (x ∷ []) vs rest
    by true e = absurd cc
    by false e = absurd cc
to_found {V} P spell f w s (x ∷ y ∷ us) vs rest e = by (bytes_eq x blank) refl e (λ ws. to_found P spell f w s us ws rest)
  where
    by : (b : Bool) → bytes_eq x blank ≡ b → cond b (going_on_unless (size (y ∷ us)) us (said (unless w f) y) (fields_to (unless w f) us)) (Err (size (x ∷ y ∷ us))) ≡ done vs rest
        → ((ws : List V) → fields_to (unless w f) us ≡ done ws rest → HasTo P w spell us ws rest) → HasTo P w spell (x ∷ y ∷ us) vs rest
    by true p e ih = to_found_by P spell f w s x y us (said (unless w f) y) (size (y ∷ us)) vs rest ih p refl e
    by false p e ih = absurd cc

to_again : {V : Type 0} (P : V → Type 0) (spell : V → List ℕ) (f : List ℕ → Option V) (w : List ℕ) → IsSpelling P spell f → IsEndWord f w → (vs : List V) (rest : List Token) → AllByRecursion P vs
    → fields_to (unless w f) (list_to_text w spell vs ++ rest) ≡ done vs rest
to_again P spell f w s i [] rest h = to_end (unless w f) blank w rest blank_test (says_end f w i)
to_again P spell f w s i (v ∷ vs) rest h =
    to_more (unless w f) blank (spell v) (list_to_text w spell vs ++ rest) v blank_test (says_item P spell f w s i v h.0)
    ∙ ap (with_first v) (to_again P spell f w s i vs rest h.1)

abbrev StuckTo : {V : Type 0} → (V → Type 0) → (V → List ℕ) → (List ℕ → Option V) → List ℕ → List Token → ℕ → Type 0
StuckTo P spell f w ts n = IsStuck (AllByRecursion P) (list_to_text w spell) (fields_to (unless w f)) ts n

to_no_blank : {V : Type 0} (P : V → Type 0) (spell : V → List ℕ) (f : List ℕ → Option V) (w : List ℕ) (x : Token) (us : List Token) (n : ℕ) → bytes_eq x blank ≡ false → size (x ∷ us) ≡ n → StuckTo P spell f w (x ∷ us) n
to_no_blank P spell f w x us n p e = record {
  front = [];
  back = x ∷ us;
  whole = refl;
  begins = record { value = []; is_value = tt; more = blank ∷ w ∷ []; parts = refl };
  stuck = λ y rest more h. let same : x ≡ y = cc in subst (λ z. IsFault (fields_to (unless w f) (z ∷ more))) same (subst IsFault (sym (to_bad (unless w f) x more p)) tt);
  place = e;
}

to_stuck_short : {V : Type 0} (P : V → Type 0) (spell : V → List ℕ) (f : List ℕ → Option V) (w : List ℕ) (x : Token) → bytes_eq x blank ≡ true → StuckTo P spell f w (x ∷ []) 0
to_stuck_short P spell f w x p = record {
  front = x ∷ [];
  back = [];
  whole = refl;
  begins = record { value = []; is_value = tt; more = w ∷ []; parts = ap (λ z. z ∷ w ∷ []) (sym (same_bytes x blank p)) };
  stuck = λ y rest more h. absurd cc;
  place = refl;
}

to_stuck_word : {V : Type 0} (P : V → Type 0) (spell : V → List ℕ) (f : List ℕ → Option V) (w : List ℕ) (x y : Token) (us : List Token) (n : ℕ) → bytes_eq x blank ≡ true → said (unless w f) y ≡ None → size (y ∷ us) ≡ n
    → StuckTo P spell f w (x ∷ y ∷ us) n
to_stuck_word P spell f w x y us n p q e = record {
  front = x ∷ [];
  back = y ∷ us;
  whole = refl;
  begins = record { value = []; is_value = tt; more = w ∷ []; parts = ap (λ z. z ∷ w ∷ []) (sym (same_bytes x blank p)) };
  stuck = λ z rest more h. let same : y ≡ z = cc in subst (λ v. IsFault (fields_to (unless w f) (x ∷ v ∷ more))) same (subst IsFault (sym (to_wrong (unless w f) x y more p q)) tt);
  place = e;
}

to_later : {V : Type 0} (P : V → Type 0) (spell : V → List ℕ) (f : List ℕ → Option V) (w : List ℕ) → IsSpelling P spell f → (x y : Token) (us : List Token) (o : Option (Option V)) (n : ℕ)
    → ((m : ℕ) → fields_to (unless w f) us ≡ Err m → StuckTo P spell f w us m)
    → bytes_eq x blank ≡ true → said (unless w f) y ≡ o → going_on_unless (size (y ∷ us)) us o (fields_to (unless w f) us) ≡ Err n → StuckTo P spell f w (x ∷ y ∷ us) n
to_later P spell f w s x y us None n ih p q e = to_stuck_word P spell f w x y us n p q (cc)
to_later P spell f w s x y us (Some None) n ih p q e = absurd cc
to_later P spell f w s x y us (Some (Some v)) n ih p q e =
    let h = ih n (with_first_err v (fields_to (unless w f) us) n e) in
    let g = s.found y v (said_item w f y v q) in
    record {
      front = x ∷ y ∷ h.front;
      back = h.back;
      whole = ap (λ z. x ∷ y ∷ z) h.whole;
      begins = record {
        value = v ∷ h.begins.value;
        is_value = (g.0, h.begins.is_value);
        more = h.begins.more;
        parts = ap (λ z. z ∷ spell v ∷ list_to_text w spell h.begins.value) (sym (same_bytes x blank p)) ∙ ap (λ z. x ∷ z ∷ list_to_text w spell h.begins.value) (sym g.1) ∙ ap (λ z. x ∷ y ∷ z) h.begins.parts;
      };
      stuck = λ z rest more k. subst IsFault (sym (to_more (unless w f) x y (h.front ++ z ∷ more) v p q)) (fault_bind (fields_to (unless w f) (h.front ++ z ∷ more)) (λ u. done (v ∷ u.0) u.1) (h.stuck z rest more k));
      place = h.place;
    }

to_first : {V : Type 0} (P : V → Type 0) (spell : V → List ℕ) (f : List ℕ → Option V) (w : List ℕ) → IsSpelling P spell f → (ts : List Token) (n : ℕ) → fields_to (unless w f) ts ≡ Err n → StuckTo P spell f w ts n
unfolding fields_to
to_first P spell f w s [] n e = record {
  front = [];
  back = [];
  whole = refl;
  begins = record { value = []; is_value = tt; more = blank ∷ w ∷ []; parts = refl };
  stuck = λ y rest more h. absurd cc;
  place = cc;
}
to_first {V} P spell f w s (x ∷ []) n e = by (bytes_eq x blank) refl e
  where
    by : (b : Bool) → bytes_eq x blank ≡ b → cond {A = Read (List V)} b (Err 0) (Err (size (x ∷ []))) ≡ Err n → StuckTo P spell f w (x ∷ []) n
    by true p e = subst (λ z. StuckTo P spell f w (x ∷ []) z) (cc) (to_stuck_short P spell f w x p)
    by false p e = to_no_blank P spell f w x [] n p (cc)
to_first {V} P spell f w s (x ∷ y ∷ us) n e = by (bytes_eq x blank) refl e (λ m. to_first P spell f w s us m)
  where
    by : (b : Bool) → bytes_eq x blank ≡ b → cond b (going_on_unless (size (y ∷ us)) us (said (unless w f) y) (fields_to (unless w f) us)) (Err (size (x ∷ y ∷ us))) ≡ Err n
        → ((m : ℕ) → fields_to (unless w f) us ≡ Err m → StuckTo P spell f w us m) → StuckTo P spell f w (x ∷ y ∷ us) n
    by true p e ih = to_later P spell f w s x y us (said (unless w f) y) n ih p refl e
    by false p e ih = to_no_blank P spell f w x (y ∷ us) n p (cc)

pub fields_to_reads : {V : Type 0} (P : V → Type 0) (spell : V → List ℕ) (f : List ℕ → Option V) (w : List ℕ) → IsSpelling P spell f → IsEndWord f w → Reads (AllByRecursion P) (list_to_text w spell) (fields_to (unless w f))
fields_to_reads P spell f w s i = record {
  found = to_found P spell f w s;
  again = to_again P spell f w s i;
  first = to_first P spell f w s;
  some = [];
  some_is = tt;
}
