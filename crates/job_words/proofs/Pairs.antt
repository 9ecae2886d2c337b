-- The ids of the uses of a line, with their values; no clap.
use Rattle.std.proofs.Common.{◌≡◌, ◌≢◌, ◌≤◌, ◌∙◌, ◌+◌, ◌==◌, ◌&&◌, ◌||◌, ℕ, Bool, true, false, not, List, [], ◌∷◌, ◌++◌, Option, Some, None, suc, zero, length, refl, sym, ap, subst, codes, arith, if◌then◌else◌, unwrap_or, append_assoc}
use Rattle.std.specs.Prelude.{option_map}
use Rattle.std.specs.List.{list_any}
use Rattle.std.specs.Str.{bytes_eq}
use Rattle.std.proofs.lemmas.Slice.Eq.{bytes_eq-Decides}
use Rattle.std.proofs.lemmas.Bool.{eqb-true}
use Rattle.std.proofs.lemmas.List.{append-nil, length-append}
use Rattle.job_words.specs.Uses.{Text, Use, Options, operand, valued, flag, takes_value, operands, values_of, times}

-- an id with its value
abbrev pub Pair : Type 0
Pair = Text × Text

-- a positional word has the id of the next operand, and a flag the value 'true'
unfoldable pub pairs : List Text → List Use → Option (List Pair)
pairs ids [] = Some []
pairs [] (operand word ∷ us) = None
pairs (id ∷ ids) (operand word ∷ us) = option_map (λ ps. (id, word) ∷ ps) (pairs ids us)
pairs ids (valued n v ∷ us) = option_map (λ ps. (n, v) ∷ ps) (pairs ids us)
pairs ids (flag n ∷ us) = option_map (λ ps. (n, codes "true") ∷ ps) (pairs ids us)

-- the values of an id
abbrev pub vals : Text → List Pair → List Text
vals id [] = []
vals id (p ∷ ps) = if bytes_eq p.0 id then p.1 ∷ vals id ps else vals id ps

-- the first, if there is one
abbrev pub first : List Text → Option Text
first [] = None
first (x ∷ xs) = Some x

-- how often a text is in a list
abbrev pub count : Text → List Text → ℕ
count x [] = 0
count x (y ∷ ys) = if bytes_eq y x then suc (count x ys) else count x ys

-- no text is there twice
abbrev pub distinct : List Text → Bool
distinct [] = true
distinct (x ∷ xs) = (count x xs == 0) && distinct xs

-- each use names an option of its kind
abbrev pub Known : Options → List Use → Type 0
Known options [] = Unit {0}
Known options (operand word ∷ us) = Known options us
Known options (valued n v ∷ us) = (takes_value options n ≡ Some true) × Known options us
Known options (flag n ∷ us) = (takes_value options n ≡ Some false) × Known options us

-- no operand has the name of an option
abbrev pub Strange : Options → List Text → Type 0
Strange options [] = Unit {0}
Strange options (id ∷ ids) = (takes_value options id ≡ None) × Strange options ids

pub same_id : (a b : Text) → bytes_eq a b ≡ true → a ≡ b
same_id a b e = (bytes_eq-Decides a b).0 e

pub itself : (a : Text) → bytes_eq a a ≡ true
itself a = (bytes_eq-Decides a a).1 refl

-- names that are options of different kinds are different
apart : (options : Options) (a b : Text) (x y : Option Bool) → takes_value options a ≡ x → takes_value options b ≡ y → x ≢ y → bytes_eq a b ≡ false
apart options a b x y ea eb differ = go (bytes_eq a b) refl
  where
    go : (t : Bool) → bytes_eq a b ≡ t → t ≡ false
    go true e = absurd (differ (sym ea ∙ ap (takes_value options) (same_id a b e) ∙ eb))
    go false e = refl

-- one more pair
more : (p : Pair) (o : Option (List Pair)) (ps : List Pair) → option_map (λ qs. p ∷ qs) o ≡ Some ps → (qs : List Pair) × (o ≡ Some qs) × (ps ≡ p ∷ qs)
more p None ps e = cc
more p (Some qs) ps e = (qs, refl, ap (λ o. unwrap_or o []) (sym e))

-- ---- the values of each id

-- those of an option
pub valued_vals : (options : Options) (name : Text) → takes_value options name ≡ Some true → (us : List Use) (ids : List Text) (ps : List Pair) → Known options us → Strange options ids → pairs ids us ≡ Some ps → vals name ps ≡ values_of name us
unfolding pairs
valued_vals options name is [] [] ps known strange e = ap (λ o. vals name (unwrap_or o [])) (sym e)
valued_vals options name is [] (id ∷ ids) ps known strange e = ap (λ o. vals name (unwrap_or o [])) (sym e)
valued_vals options name is (operand word ∷ us) [] ps known strange e = cc
valued_vals options name is (operand word ∷ us) (id ∷ ids) ps known strange e =
    let s = more (id, word) (pairs ids us) ps e in
    let other : bytes_eq id name ≡ false = apart options id name None (Some true) strange.0 is (λ bad. cc) in
    ap (vals name) s.2 ∙ rw other (valued_vals options name is us ids s.0 known strange.1 s.1)
valued_vals options name is (valued n v ∷ us) ids ps known strange e =
    let s = more (n, v) (pairs ids us) ps e in
    ap (vals name) s.2 ∙ ap (λ xs. if bytes_eq n name then v ∷ xs else xs) (valued_vals options name is us ids s.0 known.1 strange s.1)
valued_vals options name is (flag n ∷ us) ids ps known strange e =
    let s = more (n, codes "true") (pairs ids us) ps e in
    let other : bytes_eq n name ≡ false = apart options n name (Some false) (Some true) known.0 is (λ bad. cc) in
    ap (vals name) s.2 ∙ rw other (valued_vals options name is us ids s.0 known.1 strange s.1)

-- that often 'true'
abbrev pub trues : ℕ → List Text
trues zero = []
trues (suc n) = codes "true" ∷ trues n

-- those of a flag
pub flag_vals : (options : Options) (name : Text) → takes_value options name ≡ Some false → (us : List Use) (ids : List Text) (ps : List Pair) → Known options us → Strange options ids → pairs ids us ≡ Some ps → vals name ps ≡ trues (times name us)
unfolding pairs
flag_vals options name is [] [] ps known strange e = ap (λ o. vals name (unwrap_or o [])) (sym e)
flag_vals options name is [] (id ∷ ids) ps known strange e = ap (λ o. vals name (unwrap_or o [])) (sym e)
flag_vals options name is (operand word ∷ us) [] ps known strange e = cc
flag_vals options name is (operand word ∷ us) (id ∷ ids) ps known strange e =
    let s = more (id, word) (pairs ids us) ps e in
    let other : bytes_eq id name ≡ false = apart options id name None (Some false) strange.0 is (λ bad. cc) in
    ap (vals name) s.2 ∙ rw other (flag_vals options name is us ids s.0 known strange.1 s.1)
flag_vals options name is (valued n v ∷ us) ids ps known strange e =
    let s = more (n, v) (pairs ids us) ps e in
    let other : bytes_eq n name ≡ false = apart options n name (Some true) (Some false) known.0 is (λ bad. cc) in
    ap (vals name) s.2 ∙ rw other (flag_vals options name is us ids s.0 known.1 strange s.1)
flag_vals options name is (flag n ∷ us) ids ps known strange e =
    let s = more (n, codes "true") (pairs ids us) ps e in
    ap (vals name) s.2 ∙ ap (λ xs. if bytes_eq n name then codes "true" ∷ xs else xs) (flag_vals options name is us ids s.0 known.1 strange s.1) ∙ go (bytes_eq n name)
  where
    go : (t : Bool) → (if t then codes "true" ∷ trues (times name us) else trues (times name us)) ≡ trues (if t then suc (times name us) else times name us)
    go true = refl
    go false = refl

-- a name that is no option's has a value for each operand of that name at most
pub few_vals : (options : Options) (name : Text) → takes_value options name ≡ None → (us : List Use) (ids : List Text) (ps : List Pair) → Known options us → pairs ids us ≡ Some ps → length (vals name ps) ≤ count name ids
unfolding pairs
few_vals options name is [] [] ps known e = subst (λ qs. length (vals name qs) ≤ 0) (ap (λ o. unwrap_or o []) e) (omega arith)
few_vals options name is [] (id ∷ ids) ps known e = subst (λ qs. length (vals name qs) ≤ count name (id ∷ ids)) (ap (λ o. unwrap_or o []) e) (omega arith)
few_vals options name is (operand word ∷ us) [] ps known e = cc
few_vals options name is (operand word ∷ us) (id ∷ ids) ps known e =
    let s = more (id, word) (pairs ids us) ps e in
    subst (λ qs. length (vals name qs) ≤ count name (id ∷ ids)) (sym s.2) (go (bytes_eq id name) s.0 (few_vals options name is us ids s.0 known s.1))
  where
    go : (t : Bool) (qs : List Pair) → length (vals name qs) ≤ count name ids → length (if t then word ∷ vals name qs else vals name qs) ≤ (if t then suc (count name ids) else count name ids)
    go true qs h = omega arith
    go false qs h = h
few_vals options name is (valued n v ∷ us) ids ps known e =
    let s = more (n, v) (pairs ids us) ps e in
    let other : bytes_eq n name ≡ false = apart options n name (Some true) None known.0 is (λ bad. cc) in
    subst (λ qs. length (vals name qs) ≤ count name ids) (sym s.2) (rw other (few_vals options name is us ids s.0 known.1 s.1))
few_vals options name is (flag n ∷ us) ids ps known e =
    let s = more (n, codes "true") (pairs ids us) ps e in
    let other : bytes_eq n name ≡ false = apart options n name (Some false) None known.0 is (λ bad. cc) in
    subst (λ qs. length (vals name qs) ≤ count name ids) (sym s.2) (rw other (few_vals options name is us ids s.0 known.1 s.1))

-- each operand has its word, and those that are left none
abbrev pub Given : List Text → List Text → List Pair → Type 0
Given [] [] ps = Unit {0}
Given [] (word ∷ words) ps = ⊥
Given (id ∷ ids) [] ps = (vals id ps ≡ []) × Given ids [] ps
Given (id ∷ ids) (word ∷ words) ps = (vals id ps ≡ word ∷ []) × Given ids words ps

empty_of : (xs : List Text) → length xs ≤ 0 → xs ≡ []
empty_of [] h = refl
empty_of (x ∷ xs) h = absurd (omega arith)

-- a pair of another id changes nothing
given_more : (ids words : List Text) (p : Pair) (ps : List Pair) → count p.0 ids ≡ 0 → Given ids words ps → Given ids words (p ∷ ps)
given_more [] [] p ps none g = tt
given_more [] (word ∷ words) p ps none g = g
given_more (id ∷ ids) words p ps none g = go (bytes_eq id p.0) refl none words g (λ ws n h. given_more ids ws p ps n h)
  where
    other : bytes_eq id p.0 ≡ false → bytes_eq p.0 id ≡ false
    other e = flip (bytes_eq p.0 id) refl
      where
        flip : (t : Bool) → bytes_eq p.0 id ≡ t → t ≡ false
        flip true same = absurd (true_false (sym (itself p.0) ∙ ap (λ x. bytes_eq x p.0) (same_id p.0 id same) ∙ e))
          where
            true_false : true ≡ false → ⊥
            true_false bad = cc
        flip false same = refl

    go : (t : Bool) → bytes_eq id p.0 ≡ t → (if t then suc (count p.0 ids) else count p.0 ids) ≡ 0 → (words : List Text) → Given (id ∷ ids) words ps
        → ((ws : List Text) → count p.0 ids ≡ 0 → Given ids ws ps → Given ids ws (p ∷ ps)) → Given (id ∷ ids) words (p ∷ ps)
    go true e none words g next = absurd (omega arith)
    go false e none [] g next = (rw (other e) g.0, next [] none g.1)
    go false e none (word ∷ words) g next = (rw (other e) g.0, next words none g.1)

-- the name of an option is none of the operands'
no_operand : (options : Options) (name : Text) (b : Bool) → takes_value options name ≡ Some b → (ids : List Text) → Strange options ids → count name ids ≡ 0
no_operand options name b is [] strange = refl
no_operand options name b is (id ∷ ids) strange =
    let other : bytes_eq id name ≡ false = apart options id name None (Some b) strange.0 is (λ bad. cc) in
    rw other (no_operand options name b is ids strange.1)

pub and_both : (a b : Bool) → (a && b) ≡ true → (a ≡ true) × (b ≡ true)
and_both true true e = (refl, refl)
and_both true false e = cc
and_both false b e = cc

pub none_counted : (n : ℕ) → (n == 0) ≡ true → n ≡ 0
none_counted zero e = refl
none_counted (suc n) e = eqb-true (suc n) 0 e

pub given : (options : Options) (us : List Use) (ids : List Text) (ps : List Pair) → Known options us → Strange options ids → distinct ids ≡ true → pairs ids us ≡ Some ps → Given ids (operands us) ps
unfolding pairs
given options [] [] ps known strange is e = tt
given options [] (id ∷ ids) ps known strange is e =
    subst (λ qs. Given (id ∷ ids) [] qs) (ap (λ o. unwrap_or o []) e) (all_left (id ∷ ids))
  where
    all_left : (ids : List Text) → Given ids [] []
    all_left [] = tt
    all_left (id ∷ ids) = (refl, all_left ids)
given options (operand word ∷ us) [] ps known strange is e = cc
given options (operand word ∷ us) (id ∷ ids) ps known strange is e =
    let s = more (id, word) (pairs ids us) ps e in
    let both = and_both (count id ids == 0) (distinct ids) is in
    let alone : count id ids ≡ 0 = none_counted (count id ids) both.0 in
    let none : vals id s.0 ≡ [] = empty_of (vals id s.0) (subst (λ n. length (vals id s.0) ≤ n) alone (few_vals options id strange.0 us ids s.0 known s.1)) in
    subst (λ qs. Given (id ∷ ids) (word ∷ operands us) qs) (sym s.2)
    (rw (itself id) (ap (λ xs. word ∷ xs) none), given_more ids (operands us) (id, word) s.0 alone (given options us ids s.0 known strange.1 both.1 s.1))
given options (valued n v ∷ us) ids ps known strange is e =
    let s = more (n, v) (pairs ids us) ps e in
    subst (λ qs. Given ids (operands us) qs) (sym s.2)
    (given_more ids (operands us) (n, v) s.0 (no_operand options n true known.0 ids strange) (given options us ids s.0 known.1 strange is s.1))
given options (flag n ∷ us) ids ps known strange is e =
    let s = more (n, codes "true") (pairs ids us) ps e in
    subst (λ qs. Given ids (operands us) qs) (sym s.2)
    (given_more ids (operands us) (n, codes "true") s.0 (no_operand options n false known.0 ids strange) (given options us ids s.0 known.1 strange is s.1))

-- no more positional words than operands: each has an id
pub paired : (us : List Use) (ids : List Text) → length (operands us) ≤ length ids → (ps : List Pair) × (pairs ids us ≡ Some ps)
unfolding pairs
paired [] [] h = ([], refl)
paired [] (id ∷ ids) h = ([], refl)
paired (operand word ∷ us) [] h = absurd (omega arith)
paired (operand word ∷ us) (id ∷ ids) h =
    let s = paired us ids (omega arith) in ((id, word) ∷ s.0, ap (option_map (λ ps. (id, word) ∷ ps)) s.1)
paired (valued n v ∷ us) ids h =
    let s = paired us ids h in ((n, v) ∷ s.0, ap (option_map (λ ps. (n, v) ∷ ps)) s.1)
paired (flag n ∷ us) ids h =
    let s = paired us ids h in ((n, codes "true") ∷ s.0, ap (option_map (λ ps. (n, codes "true") ∷ ps)) s.1)

-- ---- each id once

abbrev pub has : Text → List Pair → Bool
has id ps = list_any (λ p. bytes_eq p.0 id) ps

-- no id of the new pairs is there before
abbrev pub fresh : List Pair → List Pair → Bool
fresh done [] = true
fresh done (p ∷ new) = not (has p.0 done) && fresh (done ++ p ∷ []) new

abbrev pub Once : List Pair → Type 0
Once ps = (id : Text) → length (vals id ps) ≤ 1

pub has_none : (id : Text) (ps : List Pair) → has id ps ≡ false → vals id ps ≡ []
has_none id [] e = refl
has_none id (p ∷ ps) e = go (bytes_eq p.0 id) e (has_none id ps)
  where
    go : (t : Bool) → (t || has id ps) ≡ false → (has id ps ≡ false → vals id ps ≡ []) → (if t then p.1 ∷ vals id ps else vals id ps) ≡ []
    go true e next = cc
    go false e next = next e

pub has_some : (id : Text) (ps : List Pair) → has id ps ≡ true → 1 ≤ length (vals id ps)
has_some id [] e = cc
has_some id (p ∷ ps) e = go (bytes_eq p.0 id) e (has_some id ps)
  where
    go : (t : Bool) → (t || has id ps) ≡ true → (has id ps ≡ true → 1 ≤ length (vals id ps)) → 1 ≤ length (if t then p.1 ∷ vals id ps else vals id ps)
    go true e next = omega arith
    go false e next = next e

vals-append : (id : Text) (a b : List Pair) → vals id (a ++ b) ≡ vals id a ++ vals id b
vals-append id [] b = refl
vals-append id (p ∷ a) b = go (bytes_eq p.0 id) (vals-append id a b)
  where
    go : (t : Bool) → vals id (a ++ b) ≡ vals id a ++ vals id b → (if t then p.1 ∷ vals id (a ++ b) else vals id (a ++ b)) ≡ (if t then p.1 ∷ vals id a else vals id a) ++ vals id b
    go true same = ap (λ xs. p.1 ∷ xs) same
    go false same = same

length-vals : (id : Text) (a b : List Pair) → length (vals id (a ++ b)) ≡ length (vals id a) + length (vals id b)
length-vals id a b = ap length (vals-append id a b) ∙ length-append (vals id a) (vals id b)

pub to_once : (new done : List Pair) → Once done → fresh done new ≡ true → Once (done ++ new)
to_once [] done once e = subst Once (sym (append-nil done)) once
to_once (p ∷ new) done once e = subst Once (append_assoc done (p ∷ []) new) (go (has p.0 done) refl e (λ o f. to_once new (done ++ p ∷ []) o f))
  where
    one : has p.0 done ≡ false → Once (done ++ p ∷ [])
    one none id = at (bytes_eq p.0 id) refl
      where
        at : (t : Bool) → bytes_eq p.0 id ≡ t → length (vals id (done ++ p ∷ [])) ≤ 1
        at true same =
            let empty : vals id done ≡ [] = subst (λ x. vals x done ≡ []) (same_id p.0 id same) (has_none p.0 done none) in
            let both = length-vals id done (p ∷ []) in
            let first : length (vals id done) ≡ 0 = ap length empty in
            let last : length (vals id (p ∷ [])) ≡ 1 = rw same refl in omega arith
        at false same =
            let both = length-vals id done (p ∷ []) in
            let last : length (vals id (p ∷ [])) ≡ 0 = rw same refl in
            let before = once id in omega arith

    go : (t : Bool) → has p.0 done ≡ t → (not t && fresh (done ++ p ∷ []) new) ≡ true
        → (Once (done ++ p ∷ []) → fresh (done ++ p ∷ []) new ≡ true → Once ((done ++ p ∷ []) ++ new)) → Once ((done ++ p ∷ []) ++ new)
    go true is e next = cc
    go false is e next = next (one is) e

pub from_once : (new done : List Pair) → Once (done ++ new) → fresh done new ≡ true
from_once [] done once = refl
from_once (p ∷ new) done once = go (has p.0 done) refl (λ o. from_once new (done ++ p ∷ []) o)
  where
    go : (t : Bool) → has p.0 done ≡ t → (Once ((done ++ p ∷ []) ++ new) → fresh (done ++ p ∷ []) new ≡ true) → (not t && fresh (done ++ p ∷ []) new) ≡ true
    go true is next =
        let here = has_some p.0 done is in
        let both = length-vals p.0 done (p ∷ new) in
        let last : length (vals p.0 (p ∷ new)) ≡ suc (length (vals p.0 new)) = rw (itself p.0) refl in
        let most = once p.0 in absurd (omega arith)
    go false is next = next (subst Once (sym (append_assoc done (p ∷ []) new)) once)
