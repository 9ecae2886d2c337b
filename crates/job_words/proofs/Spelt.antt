-- The reading from the left finds just the uses that a line spells.
use Rattle.std.proofs.Common.{◌≡◌, ◌≢◌, ◌∙◌, ◌==◌, ◌+◌, ◌<◌, ℕ, Bool, true, false, List, [], ◌∷◌, ◌++◌, Option, Some, None, inl, inr, refl, sym, ap, subst, arith, if◌then◌else◌, unwrap_or, ◌||◌, suc, zero, length, take, drop}
use Rattle.std.specs.Prelude.{option_map, not}
use Rattle.std.specs.List.{list_any, prefix_len, slice_index_or}
use Rattle.std.proofs.lemmas.Bool.{eqb-true}
use Rattle.clap.proofs.CutLemmas.{Lacks}
use Rattle.clap.proofs.LexerLemmas.{name_and_value-at, name_and_value-without}
use Rattle.job_words.specs.Uses.{Text, Use, Options, operand, valued, flag, takes_value, IsOperand, Spells, over, behind_dashes, positional, value_apart, value_joined, raised}
use Rattle.job_words.proofs.Reading.{Look, ends, named, dashed, plain, look, look_dash, look_long, name_and_value, uses, option_uses, word_uses}

-- a name, and what stands after its '='
abbrev joined_name : Text → Option Text → Text
joined_name n None = n
joined_name n (Some v) = n ++ 61 ∷ v

joined : (text : Text) → text ≡ joined_name (name_and_value text).0 (name_and_value text).1
joined [] = refl
joined (b ∷ rest) = go (b == 61) refl (joined rest)
  where
    k : ℕ
    k = prefix_len (λ x. not (x == 61)) rest

    shift : drop (suc k + 1) (b ∷ rest) ≡ drop (k + 1) rest
    shift =
        let e : suc k + 1 ≡ suc (k + 1) = omega arith in ap (λ m. drop m (b ∷ rest)) e

    more : (t : Bool) → rest ≡ joined_name (take k rest) (if t then Some (drop (k + 1) rest) else None) → b ∷ rest ≡ joined_name (b ∷ take k rest) (if t then Some (drop (suc k + 1) (b ∷ rest)) else None)
    more true same = ap (λ x. b ∷ x) same ∙ ap (λ d. b ∷ (take k rest ++ 61 ∷ d)) (sym shift)
    more false same = ap (λ x. b ∷ x) same

    go : (t : Bool) → (b == 61) ≡ t → rest ≡ joined_name (name_and_value rest).0 (name_and_value rest).1 → b ∷ rest ≡ joined_name (name_and_value (b ∷ rest)).0 (name_and_value (b ∷ rest)).1
    go true e same = rw e (ap (λ x. x ∷ rest) (eqb-true b 61 e))
    go false e same =
        let one : 1 + k ≡ suc k = omega arith in
        rw e (subst (λ m. b ∷ rest ≡ joined_name (take m (b ∷ rest)) (if list_any (λ x. x == 61) rest then Some (drop (m + 1) (b ∷ rest)) else None)) (sym one) (more (list_any (λ x. x == 61) rest) same))

abbrev Seen : Text → Look → Type 0
Seen word ends = word ≡ 45 ∷ 45 ∷ []
Seen word (named n v) = word ≡ 45 ∷ 45 ∷ (joined_name n v)
Seen word dashed = Unit {0}
Seen word plain = IsOperand word

seen_dash : (rest : Text) → Seen (45 ∷ rest) (look_dash rest)
seen_dash [] = inl refl
seen_dash (b ∷ rest) = go (b == 45) refl
  where
    long : (rest : Text) → Seen (45 ∷ 45 ∷ rest) (look_long rest)
    long [] = refl
    long (c ∷ cs) = ap (λ x. 45 ∷ 45 ∷ x) (joined (c ∷ cs))

    go : (t : Bool) → (b == 45) ≡ t → Seen (45 ∷ b ∷ rest) (if t then look_long rest else dashed)
    go true e = subst (λ x. Seen (45 ∷ x ∷ rest) (look_long rest)) (sym (eqb-true b 45 e)) (long rest)
    go false e = tt

seen : (word : Text) → Seen word (look word)
seen [] = inr (λ rest e. cc)
seen (b ∷ rest) = go (b == 45) refl
  where
    go : (t : Bool) → (b == 45) ≡ t → Seen (b ∷ rest) (if t then look_dash rest else plain)
    go true e = subst (λ x. Seen (x ∷ rest) (look_dash rest)) (sym (eqb-true b 45 e)) (seen_dash rest)
    go false e = inr (λ r same.
        let h : b ≡ 45 = ap (λ l. slice_index_or l 0 0) same in
        let bad : true ≡ false = ap (λ x. x == 45) (sym h) ∙ e in cc)

-- ---- from the reading to the spelling

abbrev SpellsOwed : Options → Option Text → List Text → List Use → Type 0
SpellsOwed options None words us = Spells options words us
SpellsOwed options (Some n) words us = (word : Text) × (rest : List Text) × (vs : List Use) × (words ≡ word ∷ rest) × (us ≡ valued n word ∷ vs) × IsOperand word × Spells options rest vs

some_of : (o : Option (List Use)) (add : Use) (us : List Use) → option_map (λ vs. add ∷ vs) o ≡ Some us → (vs : List Use) × (o ≡ Some vs) × (us ≡ add ∷ vs)
some_of None add us e = cc
some_of (Some vs) add us e = (vs, refl, ap (λ o. unwrap_or o []) (sym e))

spelt_option : (options : Options) (n : Text) (v : Option Text) (rest : List Text) (us : List Use) (tv : Option Bool) → takes_value options n ≡ tv
    → ((o : Option Text) (vs : List Use) → uses options o rest ≡ Some vs → SpellsOwed options o rest vs)
    → option_uses n v tv (λ o. uses options o rest) ≡ Some us → Spells options ((45 ∷ 45 ∷ (joined_name n v)) ∷ rest) us
spelt_option options n v rest us None takes next e = cc
spelt_option options n (Some v) rest us (Some true) takes next e =
    let s = some_of (uses options None rest) (valued n v) us e in
    subst (λ x. Spells options ((45 ∷ 45 ∷ (n ++ 61 ∷ v)) ∷ rest) x) (sym s.2) (value_joined takes (next None s.0 s.1))
spelt_option options n None rest us (Some true) takes next e =
    let s = next (Some n) us e in
    subst (λ x. Spells options ((45 ∷ 45 ∷ n) ∷ rest) x) (sym s.4) (subst (λ x. Spells options ((45 ∷ 45 ∷ n) ∷ x) (valued n s.0 ∷ s.2)) (sym s.3) (value_apart takes s.5 s.6))
spelt_option options n (Some v) rest us (Some false) takes next e = cc
spelt_option options n None rest us (Some false) takes next e =
    let s = some_of (uses options None rest) (flag n) us e in
    subst (λ x. Spells options ((45 ∷ 45 ∷ n) ∷ rest) x) (sym s.2) (raised takes (next None s.0 s.1))

spelt_word : (options : Options) (owed : Option Text) (word : Text) (rest : List Text) (us : List Use) (l : Look) → Seen word l
    → ((o : Option Text) (vs : List Use) → uses options o rest ≡ Some vs → SpellsOwed options o rest vs)
    → word_uses options owed l word rest (λ o. uses options o rest) ≡ Some us → SpellsOwed options owed (word ∷ rest) us
spelt_word options None word rest us ends s next e =
    subst (λ w. Spells options (w ∷ rest) us) (sym s) (subst (λ x. Spells options ((45 ∷ 45 ∷ []) ∷ rest) x) (ap (λ o. unwrap_or o []) e) behind_dashes)
spelt_word options None word rest us (named n v) s next e =
    subst (λ w. Spells options (w ∷ rest) us) (sym s) (spelt_option options n v rest us (takes_value options n) refl next e)
spelt_word options None word rest us dashed s next e = cc
spelt_word options None word rest us plain s next e =
    let x = some_of (uses options None rest) (operand word) us e in
    subst (λ y. Spells options (word ∷ rest) y) (sym x.2) (positional s (next None x.0 x.1))
spelt_word options (Some n) word rest us plain s next e =
    let x = some_of (uses options None rest) (valued n word) us e in (word, rest, x.0, refl, x.2, s, next None x.0 x.1)
spelt_word options (Some n) word rest us ends s next e = cc
spelt_word options (Some n) word rest us (named m v) s next e = cc
spelt_word options (Some n) word rest us dashed s next e = cc

pub spelt : (options : Options) (words : List Text) (owed : Option Text) (us : List Use) → uses options owed words ≡ Some us → SpellsOwed options owed words us
unfolding uses
spelt options [] None us e = subst (λ x. Spells options [] x) (ap (λ o. unwrap_or o []) e) over
spelt options [] (Some n) us e = cc
spelt options (word ∷ rest) owed us e = spelt_word options owed word rest us (look word) (seen word) (λ o vs same. spelt options rest o vs same) e

-- ---- from the spelling to the reading

look_plain : (word : Text) → IsOperand word → look word ≡ plain
look_plain word (inl dash) = ap look dash
look_plain [] (inr other) = refl
look_plain (b ∷ rest) (inr other) = go (b == 45) refl
  where
    go : (t : Bool) → (b == 45) ≡ t → (if t then look_dash rest else plain) ≡ plain
    go true e = absurd (other rest (ap (λ x. x ∷ rest) (eqb-true b 45 e)))
    go false e = refl

-- the names of a command's options are not empty, and have no '='
abbrev pub WellNamed : Options → Type 0
WellNamed options = (name : Text) (b : Bool) → takes_value options name ≡ Some b → Lacks 61 name × (name ≢ [])

look_name : (name : Text) → Lacks 61 name → name ≢ [] → look (45 ∷ 45 ∷ name) ≡ named name None
look_name [] lacks some = absurd (some refl)
look_name (c ∷ cs) lacks some = ap (λ p. named p.0 p.1) (name_and_value-without (c ∷ cs) lacks)

look_joined : (name value : Text) → Lacks 61 name → name ≢ [] → look (45 ∷ 45 ∷ (name ++ 61 ∷ value)) ≡ named name (Some value)
look_joined [] value lacks some = absurd (some refl)
look_joined (c ∷ cs) value lacks some = ap (λ p. named p.0 p.1) (name_and_value-at (c ∷ cs) value lacks)

pub read_from : (options : Options) → WellNamed options → (words : List Text) (us : List Use) → Spells options words us → uses options None words ≡ Some us
unfolding uses
read_from options well words us over = refl
read_from options well words us behind_dashes = refl
read_from options well words us (positional {word = word} {words = rest} {us = vs} is next) =
    ap (λ l. word_uses options None l word rest (λ o. uses options o rest)) (look_plain word is) ∙ ap (λ o. option_map (λ vs. operand word ∷ vs) o) (read_from options well rest vs next)
read_from options well words us (value_apart {name = name} {value = value} {words = rest} {us = vs} takes is next) =
    let w = well name true takes in
    ap (λ l. word_uses options None l (45 ∷ 45 ∷ name) (value ∷ rest) (λ o. uses options o (value ∷ rest))) (look_name name w.0 w.1)
    ∙ ap (λ t. option_uses name None t (λ o. uses options o (value ∷ rest))) takes
    ∙ ap (λ l. word_uses options (Some name) l value rest (λ o. uses options o rest)) (look_plain value is)
    ∙ ap (λ o. option_map (λ vs. valued name value ∷ vs) o) (read_from options well rest vs next)
read_from options well words us (value_joined {name = name} {value = value} {words = rest} {us = vs} takes next) =
    let w = well name true takes in
    ap (λ l. word_uses options None l (45 ∷ 45 ∷ (name ++ 61 ∷ value)) rest (λ o. uses options o rest)) (look_joined name value w.0 w.1)
    ∙ ap (λ t. option_uses name (Some value) t (λ o. uses options o rest)) takes
    ∙ ap (λ o. option_map (λ vs. valued name value ∷ vs) o) (read_from options well rest vs next)
read_from options well words us (raised {name = name} {words = rest} {us = vs} takes next) =
    let w = well name false takes in
    ap (λ l. word_uses options None l (45 ∷ 45 ∷ name) rest (λ o. uses options o rest)) (look_name name w.0 w.1)
    ∙ ap (λ t. option_uses name None t (λ o. uses options o rest)) takes
    ∙ ap (λ o. option_map (λ vs. flag name ∷ vs) o) (read_from options well rest vs next)

or_right : (a b : Bool) → (a || b) ≡ false → b ≡ false
or_right true b e = cc
or_right false b e = e

pub lacks_from : (xs : Text) → list_any (λ x. x == 61) xs ≡ false → (i : ℕ) → i < length xs → slice_index_or xs i 0 ≢ 61
lacks_from [] e i lt = absurd (omega arith)
lacks_from (x ∷ xs) e zero lt = λ same.
    let bad : true ≡ false = ap (λ y. (y == 61) || list_any (λ z. z == 61) xs) (sym same) ∙ e in cc
lacks_from (x ∷ xs) e (suc i) lt = lacks_from xs (or_right (x == 61) (list_any (λ z. z == 61) xs) e) i (omega arith)
