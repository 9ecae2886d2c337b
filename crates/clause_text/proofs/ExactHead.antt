-- The first lines are read exactly.
use Rattle.std.proofs.Common.{ℕ, ◌≡◌, ◌≤◌, ◌<◌, ◌^◌, ◌&&◌, Bool, true, false, cond, ℤ, List, [], ◌∷◌, ◌++◌, length, Option, Some, None, Result, Ok, Err, refl, sym, ap, subst, ◌∙◌, append_assoc, append-nil, ◌⊎◌, inl, inr, arith}
use Rattle.std.specs.Prelude.{IfOk, IfErr, codes, nat_le}
use Rattle.std.specs.Str.{bytes_eq}
use Rattle.std.specs.Fmt.{decimal}
use Rattle.std.proofs.lemmas.Slice.Eq.{bytes_eq-Decides}
use Rattle.std.proofs.lemmas.Bool.Decides.{nat_tests}
use Rattle.proof_tokens.specs.declared.reading.Refusal.{Refusal}
use Rattle.proof_tokens.specs.declared.reading.Refusal.TheVariants as e
use Rattle.std.specs.List.{AllByRecursion}
use Rattle.linear_term.specs.Range.{InRange}
use Rattle.clause_text.specs.declared.head.Head.{Head}
use Rattle.clause_text.specs.HeadWords.{charge_of, charge_text, format_word, is_label, IsCharge}
use Rattle.clause_text.specs.Literals.{literal_of, literal_text, IsLiteral}
use Rattle.clause_text.specs.Head.{label_text, One, one_of_line, one_text, IsOne, HeadValues, AreHeadValues, head_values_text, head_values, head_with, values_of_head, head_text, IsHead, head_of, RefusesHead}
use Rattle.clause_words.specs.Numbers.{index_of, integer_of}
use Rattle.clause_words.specs.Tokens.{tokens, spelled, size, with_word, is_separator, stops}
use Rattle.clause_words.specs.Spelling.{integer_text, is_plain, IsSpelling}
use Rattle.clause_words.specs.Texts.{both_text, Both, Always, end_text, field_text, list_text}
use Rattle.clause_words.specs.Places.{Begins, IsRefusedAt}
use Rattle.clause_words.specs.Reading.{Token, Read, ◌>>=◌, GivesValue, said, done, word_as, both, ends, field, fields}
use Rattle.clause_words.proofs.Lists.{word_some, word_none, done_is}
use Rattle.clause_words.proofs.Splitting.{spelled_is, empty_word, no_value, one_value}
use Rattle.clause_words.proofs.Spelled.{index_spelling, integer_spelling}
use Rattle.clause_words.proofs.Exact.{Reads, IsStuck, IsFault, fault_bind, both_reads, field_reads, bind_ok, bind_err, said_some, said_value, word_is, word_not, refused}
use Rattle.clause_words.proofs.ExactLists.{ends_reads, fields_reads}
use Rattle.clause_text.proofs.Labels.{charge_spelling, label_spelling}
use Rattle.clause_text.proofs.SpelledLiterals.{literal_spelling}
use Rattle.clause_text.proofs.Shapes.{word_spaced, feed_spaced, word_back, IsSpaced}

-- ---- a word alone

word_first : {V : Type 0} (P : V → Type 0) (spell : V → List ℕ) (f : List ℕ → Option V) → IsSpelling P spell f → (ts : List Token) (n : ℕ)
    → ((ts ≡ []) × (n ≡ 0)) ⊎ ((y : Token) × (ys : List Token) × (ts ≡ y ∷ ys) × (n ≡ size (y ∷ ys)) × (said f y ≡ None)) → IsStuck P (λ v. spell v ∷ []) (word_as f) ts n
word_first P spell f s ts n (inl a) = record {
  front = [];
  back = ts;
  whole = refl;
  begins = record { value = s.some; is_value = s.some_is; more = spell s.some ∷ []; parts = refl };
  stuck = λ x rest more h. absurd (let q = a.0 in cc);
  place = ap size a.0 ∙ sym a.1;
}
word_first P spell f s ts n (inr a) = record {
  front = [];
  back = ts;
  whole = refl;
  begins = record { value = s.some; is_value = s.some_is; more = spell s.some ∷ []; parts = refl };
  stuck = λ x rest more h. let q = a.2 in let same : a.0 ≡ x = cc in word_not f x more (ap (said f) (sym same) ∙ a.4);
  place = ap size a.2 ∙ sym a.3;
}

word_reads : {V : Type 0} (P : V → Type 0) (spell : V → List ℕ) (f : List ℕ → Option V) → IsSpelling P spell f → Reads P (λ v. spell v ∷ []) (word_as f)
word_reads P spell f s = record {
  found = λ ts v rest e.
      let w = word_some f ts v rest e in
      let g = s.found w.0 v (said_some f w.0 v w.2) in
      (g.0, w.1 ∙ ap (λ z. z ∷ rest) g.1);
  again = λ v rest i. word_is f (spell v) rest v (said_value P spell f s v i);
  first = λ ts n e. word_first P spell f s ts n (word_none f ts n e);
  some = s.some;
  some_is = s.some_is;
}

label_reads : (w : List ℕ) → is_plain w ≡ true → Reads Always (label_text w) (word_as (is_label w))
label_reads w h = word_reads Always (λ u. w) (is_label w) (label_spelling w h)

one_reads : {A : Type 0} (w : List ℕ) → is_plain w ≡ true → (P : A → Type 0) (spell : A → List ℕ) (f : List ℕ → Option A) → IsSpelling P spell f → Reads (IsOne P) (one_text w spell) (one_of_line w f)
one_reads w h P spell f s =
    both_reads Always (Both P Always) (label_text w) (both_text (field_text spell) end_text) (word_as (is_label w)) (both (field f) ends) (label_reads w h)
    (both_reads P Always (field_text spell) end_text (field f) ends (field_reads P spell f s) ends_reads)

-- ---- values in another form

mapped_err : {A B : Type 0} (f : A → B) (r : Read A) (n : ℕ) → (r >>= λ p. done (f p.0) p.1) ≡ Err n → r ≡ Err n
mapped_err f (Ok p) n e = absurd cc
mapped_err f (Err m) n e = cc

mapped_reads : {A B : Type 0} (P : A → Type 0) (text : A → List Token) (read : List Token → Read A) (f : A → B) (g : B → A) → ((b : B) → f (g b) ≡ b) → ((a : A) → g (f a) ≡ a)
    → Reads P text read → Reads (λ b. P (g b)) (λ b. text (g b)) (λ ts. read ts >>= λ p. done (f p.0) p.1)
mapped_reads {A} {B} P text read f g fg gf r = record {
  found = λ ts b rest e.
      let o = bind_ok (read ts) (λ p. done (f p.0) p.1) (b, rest) e in
      let d = done_is (f o.0.0) b o.0.1 rest o.2 in
      let same : o.0.0 ≡ g b = sym (gf o.0.0) ∙ ap g d.0 in
      let h = r.found ts o.0.0 o.0.1 o.1 in
      (subst P same h.0, h.1 ∙ ap (λ z. text z ++ o.0.1) same ∙ ap (λ z. text (g b) ++ z) d.1);
  again = λ b rest i. ap (λ z. z >>= λ p. done (f p.0) p.1) (r.again (g b) rest i) ∙ ap (λ z. done z rest) (fg b);
  first = λ ts n e.
      let s = r.first ts n (mapped_err f (read ts) n e) in
      record {
        front = s.front;
        back = s.back;
        whole = s.whole;
        begins = record { value = f s.begins.value; is_value = subst P (sym (gf s.begins.value)) s.begins.is_value; more = s.begins.more; parts = ap text (gf s.begins.value) ∙ s.begins.parts };
        stuck = λ x rest more h. fault_bind (read (s.front ++ x ∷ more)) (λ p. done (f p.0) p.1) (s.stuck x rest more h);
        place = s.place;
      };
  some = f r.some;
  some_is = subst P (sym (gf r.some)) r.some_is;
}

-- ---- the first lines

values_reads : Reads AreHeadValues head_values_text head_values
values_reads =
    let format = one_reads (codes "princess-proof") refl Always (λ u. format_word) (is_label format_word) (label_spelling format_word refl) in
    let charges = one_reads (codes "charges") refl IsCharge charge_text charge_of charge_spelling in
    let prepared = one_reads (codes "prepared") refl (λ n. n < 2 ^ 32) decimal index_of index_spelling in
    let values = both_reads Always (AllByRecursion InRange) (label_text (codes "values")) (list_text integer_text) (word_as (is_label (codes "values"))) (fields integer_of) (label_reads (codes "values") refl) (fields_reads InRange integer_text integer_of integer_spelling) in
    let root = one_reads (codes "root") refl IsLiteral literal_text literal_of literal_spelling in
    both_reads _ _ _ _ _ _ format (both_reads _ _ _ _ _ _ charges (both_reads _ _ _ _ _ _ prepared (both_reads _ _ _ _ _ _ values root)))

pub head_reads : Reads IsHead head_text head_of
unfolding head_of
head_reads = mapped_reads AreHeadValues head_values_text head_values head_with values_of_head (λ h. refl) (λ v. refl) values_reads

-- ---- bytes

behind_label : (w : List ℕ) (ts : List Token) (rest : List ℕ) → is_plain w ≡ true → IsSpaced ts → tokens (spelled (w ∷ ts) ++ rest) ≡ w ∷ (ts ++ tokens rest)
behind_label w ts rest h p = ap tokens (append_assoc w (spelled ts) rest) ∙ word_back w (spelled ts ++ rest) h (p.begins rest) ∙ ap (λ z. w ∷ z) (p.back rest)

one_back : {A : Type 0} (w : List ℕ) (spell : A → List ℕ) (v : One A) (rest : List ℕ) → is_plain w ≡ true → is_plain (spell v.1.0) ≡ true → tokens (spelled (one_text w spell v) ++ rest) ≡ one_text w spell v ++ tokens rest
one_back w spell v rest h p = behind_label w (field_text spell v.1.0 ++ end_text v.1.1) rest h (word_spaced (spell v.1.0) (end_text v.1.1) p feed_spaced)

list_spaced : (vs : List ℤ) → AllByRecursion InRange vs → IsSpaced (list_text integer_text vs)
list_spaced [] h = feed_spaced
list_spaced (v ∷ vs) h = word_spaced (integer_text v) (list_text integer_text vs) (integer_spelling.plain v h.0) (list_spaced vs h.1)

spelled_append : (xs ys : List Token) → spelled (xs ++ ys) ≡ spelled xs ++ spelled ys
spelled_append [] ys = refl
spelled_append (x ∷ xs) ys = ap (λ z. x ++ z) (spelled_append xs ys) ∙ sym (append_assoc x (spelled xs) (spelled ys))

-- tokens that are read as they are written
abbrev Back : List Token → Type 0
Back ts = (rest : List ℕ) → tokens (spelled ts ++ rest) ≡ ts ++ tokens rest

back_append : (xs ys : List Token) → Back xs → Back ys → Back (xs ++ ys)
back_append xs ys h k rest =
    ap (λ z. tokens (z ++ rest)) (spelled_append xs ys) ∙ ap tokens (append_assoc (spelled xs) (spelled ys) rest) ∙ h (spelled ys ++ rest) ∙ ap (λ z. xs ++ z) (k rest) ∙ sym (append_assoc xs ys (tokens rest))

pub head_back : (h : Head) → IsHead h → Back (head_text h)
head_back h i =
    let format = one_text (codes "princess-proof") (λ (u : Unit {0}). format_word) (tt, (tt, tt)) in
    let charges = one_text (codes "charges") charge_text (tt, (h.charges, tt)) in
    let prepared = one_text (codes "prepared") decimal (tt, (h.prepared, tt)) in
    let values = codes "values" ∷ list_text integer_text h.values in
    let root = one_text (codes "root") literal_text (tt, (h.root, tt)) in
    back_append format (charges ++ (prepared ++ (values ++ root))) (λ rest. one_back (codes "princess-proof") (λ (u : Unit {0}). format_word) (tt, (tt, tt)) rest refl refl)
    (back_append charges (prepared ++ (values ++ root)) (λ rest. one_back (codes "charges") charge_text (tt, (h.charges, tt)) rest refl (charge_spelling.plain h.charges i.1.0.1.0))
    (back_append prepared (values ++ root) (λ rest. one_back (codes "prepared") decimal (tt, (h.prepared, tt)) rest refl (index_spelling.plain h.prepared i.1.1.0.1.0))
    (back_append values root (λ rest. behind_label (codes "values") (list_text integer_text h.values) rest refl (list_spaced h.values i.1.1.1.0.1))
    (λ rest. one_back (codes "root") literal_text (tt, (h.root, tt)) rest refl (literal_spelling.plain h.root i.1.1.1.1.1.0)))))

abbrev pub head_seen : {S : Type 0} → (S → List ℕ) → (Head × S) → Head × List Token
head_seen rest x = (x.0, tokens (rest x.1))

pub head_found : {S : Type 0} (text : List ℕ) (rest : S → List ℕ) (r : Result (Head × S) Refusal) → GivesValue (head_seen rest) r (head_of (tokens text)) → IfOk r (λ x. IsHead x.0 × (text ≡ spelled (head_text x.0) ++ rest x.1))
head_found text rest (Ok x) g =
    let f = head_reads.found (tokens text) x.0 (tokens (rest x.1)) g in
    (f.0, sym (spelled_is text) ∙ ap spelled f.1 ∙ spelled_append (head_text x.0) (tokens (rest x.1)) ∙ ap (λ z. spelled (head_text x.0) ++ z) (spelled_is (rest x.1)))
head_found text rest (Err fault) g = tt

pub head_again : {S : Type 0} (text : List ℕ) (rest : S → List ℕ) (r : Result (Head × S) Refusal) → GivesValue (head_seen rest) r (head_of (tokens text)) → (h : Head) (more : List ℕ) → IsHead h → text ≡ spelled (head_text h) ++ more → GivesValue (head_seen rest) r (done h (tokens more))
head_again text rest r g h more i e = subst (GivesValue (head_seen rest) r) (ap (λ z. head_of (tokens z)) e ∙ ap head_of (head_back h i more) ∙ head_reads.again h (tokens more) i) g

pub head_first : {S : Type 0} (text : List ℕ) (rest : S → List ℕ) (r : Result (Head × S) Refusal) → GivesValue (head_seen rest) r (head_of (tokens text)) → IfErr r (RefusesHead text)
head_first text rest (Ok x) g = tt
head_first text rest (Err e.Memory) g = tt
head_first text rest (Err (e.Syntax n)) g = refused IsHead head_text head_of head_reads (tokens text) n g

-- ---- the code's test for a word

pub label_given : (w text x : List ℕ) (rest : List ℕ) → tokens text ≡ with_word x (tokens rest) → is_separator x ≡ false → is_plain w ≡ true → x ≡ w → word_as (is_label w) (tokens text) ≡ done tt (tokens rest)
label_given w text [] rest p s h e = absurd (let q : is_plain [] ≡ true = ap is_plain e ∙ h in cc)
label_given w text (b ∷ bs) rest p s h e =
    one_value (is_label w) text (b ∷ bs) rest tt p s (λ q. cc) (ap (λ z. cond z (Some tt) None) ((bytes_eq-Decides (b ∷ bs) w).1 e))

pub label_missing : (w text x : List ℕ) (rest : List ℕ) → tokens text ≡ with_word x (tokens rest) → is_separator x ≡ false → stops rest ≡ true → bytes_eq x w ≡ false
    → word_as (is_label w) (tokens text) ≡ Err (length text)
label_missing w text [] rest p s t h = empty_word (is_label w) text [] rest p t refl
label_missing w text (b ∷ bs) rest p s t h = no_value (is_label w) text (b ∷ bs) rest p s (λ q. cc) (ap (λ z. cond z (Some tt) None) h)
