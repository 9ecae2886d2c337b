-- What one more symbol does to the parts of a table.
use Rattle.std.proofs.Common.{ℕ, zero, suc, ◌≡◌, ◌≤◌, ◌<◌, ◌+◌, Bool, true, false, not, List, [], ◌∷◌, ◌++◌, length, map, take, refl, sym, ap, ap₂, ◌∙◌, arith, cond, nat_lt, if◌then◌else◌, zero-add, Option, Some, None, MatchOption, position, slice_get}
use Rattle.std.specs.Global.{Vec}
use Rattle.std.specs.List.{position_or_len, prefix_len}
use Rattle.std.proofs.lemmas.Bool.Decides.{nat_tests}
use Rattle.std.proofs.lemmas.List.{length-append, length-map, take-append-le}
use Rattle.std.proofs.lemmas.List.Sums.{sum_by-append}
use Rattle.std.proofs.lemmas.List.Folds.{find_at}
use Rattle.std.proofs.lemmas.Option.{slice_get_past}
use Rattle.indexmap.specs.IndexSet.{insert_key}
use Rattle.base_texts.specs.Texts.{is_text, with_text}
use Rattle.base_texts.proofs.Kept as kept
use Rattle.base_texts.proofs.Kept.{inserted_is}
use Rattle.smt_commands.specs.declared.table.Entry.{Entry}
use Rattle.smt_commands.specs.Symbols.{declared_number, entry_of, is_known, texts_of}

pub texts-more : (table : List Entry) (e : Entry) → texts_of (table ++ e ∷ []) ≡ texts_of table ++ e.text ∷ []
texts-more [] e = refl
texts-more (x ∷ table) e = ap (λ z. x.text ∷ z) (texts-more table e)

prefix_len-map : {A B : Type 0} (p : B → Bool) (f : A → B) (xs : List A) → prefix_len p (map f xs) ≡ prefix_len (λ x. p (f x)) xs
prefix_len-map p f [] = refl
prefix_len-map p f (x ∷ xs) = ap (λ n. cond (p (f x)) (1 + n) 0) (prefix_len-map p f xs)

-- the place of a text is that of its symbol
placed : (text : List ℕ) (table : List Entry) → entry_of text table ≡ slice_get table (position_or_len (is_text text) (texts_of table))
placed text table = find_at (λ e. is_text text e.text) table ∙ ap (slice_get table) (sym (prefix_len-map (λ t. not (is_text text t)) (λ e. e.text) table))

seen : (b : Bool) (k n : ℕ) (table : List Entry) → n ≡ length table → nat_lt k n ≡ b → (p : Option ℕ) → p ≡ cond b (Some k) None
    → MatchOption p (slice_get table k ≡ None) (λ i. i ≡ k)
seen true k n table m h None e = absurd (cc)
seen true k n table m h (Some i) e = cc
seen false k n table m h None e = slice_get_past table k (grind (arith, nat_tests))
seen false k n table m h (Some i) e = absurd (cc)

pub entry_found : (text : List ℕ) (table : List Entry) (texts : List (List ℕ)) (i : ℕ) → texts ≡ texts_of table → position (is_text text) texts ≡ Some i → entry_of text table ≡ slice_get table i
entry_found text table texts i t e =
    let k = position_or_len (is_text text) texts in
    let s : i ≡ k = seen (nat_lt k (length texts)) k (length texts) table (ap length t ∙ length-map table (λ e. e.text)) refl (Some i) (sym e) in
    placed text table ∙ ap (λ z. slice_get table (position_or_len (is_text text) z)) (sym t) ∙ ap (slice_get table) (sym s)

pub entry_missed : (text : List ℕ) (table : List Entry) (texts : List (List ℕ)) → texts ≡ texts_of table → position (is_text text) texts ≡ None → entry_of text table ≡ None
entry_missed text table texts t e =
    let k = position_or_len (is_text text) texts in
    placed text table ∙ ap (λ z. slice_get table (position_or_len (is_text text) z)) (sym t)
    ∙ seen (nat_lt k (length texts)) k (length texts) table (ap length t ∙ length-map table (λ e. e.text)) refl None (sym e)

-- one text more, and the first ones
pub texts_inserted : (keys new : List (Vec ℕ)) (k : Vec ℕ) (text : List ℕ) (table more : List Entry) (e : Entry) → kept.texts_of keys ≡ texts_of table → k.items ≡ text
    → new ≡ insert_key (λ x y. is_text x.items y.items) keys k → is_known text table ≡ false → more ≡ table ++ e ∷ [] → e.text ≡ text → kept.texts_of new ≡ texts_of more
texts_inserted keys new k text table more e same key is fresh entries named =
    ap kept.texts_of is ∙ inserted_is keys k ∙ ap₂ with_text key same ∙ ap (λ z. if z then texts_of table else texts_of table ++ text ∷ []) fresh
    ∙ ap (λ z. texts_of table ++ z ∷ []) (sym named) ∙ sym (texts-more table e) ∙ ap texts_of (sym entries)

take-map : {A B : Type 0} (f : A → B) (n : ℕ) (xs : List A) → map f (take n xs) ≡ take n (map f xs)
take-map f zero xs = refl
take-map f (suc n) [] = refl
take-map f (suc n) (x ∷ xs) = ap (λ z. f x ∷ z) (take-map f n xs)

pub texts_taken : (n : ℕ) (keys : List (Vec ℕ)) (table : List Entry) → kept.texts_of keys ≡ texts_of table → kept.texts_of (take n keys) ≡ texts_of (take n table)
texts_taken n keys table same = take-map (λ k. k.items) n keys ∙ ap (take n) same ∙ sym (take-map (λ e. e.text) n table)

take_less : {A : Type 0} (n : ℕ) (xs : List A) (x : A) → n ≤ length xs → take n (xs ++ x ∷ []) ≡ take n xs
take_less n xs x h = take-append-le n xs (x ∷ []) h

take_long : {A : Type 0} (n : ℕ) (xs : List A) → length xs ≤ n → take n xs ≡ xs
take_long zero [] h = refl
take_long zero (x ∷ xs) h = absurd (omega (arith, h))
take_long (suc n) [] h = refl
take_long (suc n) (x ∷ xs) h = ap (λ z. x ∷ z) (take_long n xs (omega (arith, h)))

-- the last one goes
pub kept_less : {A : Type 0} (n : ℕ) (old new : List A) (last : A) (whole : List A) → old ≡ new ++ last ∷ [] → n < length old → take n old ≡ whole → take n new ≡ whole
kept_less n old new last whole is room w =
    sym (take_less n new last (omega (arith, room, ap length is, length-append new (last ∷ [])))) ∙ ap (take n) (sym is) ∙ w

pub kept_all : {A : Type 0} (n : ℕ) (es whole : List A) → length es ≤ n → take n es ≡ whole → es ≡ whole
kept_all n es whole few w = sym (take_long n es few) ∙ w

-- how many are declared among one fewer
pub declared_less : (old new : List Entry) (last : Entry) → old ≡ new ++ last ∷ [] → declared_number old ≡ declared_number new + cond (not last.defined) 1 0
declared_less old new last is = ap declared_number is ∙ sum_by-append (λ x. cond (not x.defined) 1 0) new (last ∷ []) ∙ ap (λ z. declared_number new + z) (zero-add (cond (not last.defined) 1 0))

pub ruleset tables = (texts-more)
