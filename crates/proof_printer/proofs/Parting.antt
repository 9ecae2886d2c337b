-- Which logs are parts.
use Rattle.std.proofs.Common.{ℕ, ◌≡◌, ◌≤◌, ◌+◌, ◌&&◌, ◌||◌, Bool, true, false, cond, List, [], ◌∷◌, ◌++◌, length, nat_lt, if◌then◌else◌, refl, sym, ap, subst, ◌∙◌, length-append, arith, ◌⊎◌, inl, inr}
use Rattle.std.proofs.lemmas.Bool.Decides.{nat_tests}
use Rattle.proof_grammar.specs.declared.lines.TextLine.{TextLine}
use Rattle.base_texts.specs.Texts.{is_among, is_text, picked, with_text}
use Rattle.proof_printer.specs.Short.{AreDifferent, again_in, keys, most_parts, parts_of, seen_in, times}
use Rattle.proof_printer.proofs.Shortening.{text_is, text_same}
use Rattle.proof_printer.proofs.Tallying.{picked_most}

abbrev pub Among : List ℕ → List (List ℕ) → Type 0
Among k ks = is_among k ks ≡ true

-- a text among others: the first, or one after it
pub first_or : (b c : Bool) → (b || c) ≡ true → (b ≡ true) ⊎ (c ≡ true)
first_or true c h = inl refl
first_or false c h = inr h

or_first : (b c : Bool) → b ≡ true → (b || c) ≡ true
or_first true c h = refl
or_first false c h = absurd (cc)

or_later : (b c : Bool) → c ≡ true → (b || c) ≡ true
or_later true c h = refl
or_later false c h = h

among_one : (k t : List ℕ) → Among k (t ∷ []) → k ≡ t
among_one k t h = by (first_or (is_text k t) false h)
  where
    by : (is_text k t ≡ true) ⊎ (false ≡ true) → k ≡ t
    by (inl e) = text_same k t e
    by (inr e) = absurd (cc)

among_append : (k : List ℕ) (ks js : List (List ℕ)) → Among k (ks ++ js) → Among k ks ⊎ Among k js
among_append k [] js h = inr h
among_append k (i ∷ ks) js h = by (first_or (is_text k i) (is_among k (ks ++ js)) h) (λ e. among_append k ks js e)
  where
    later : Among k ks ⊎ Among k js → Among k (i ∷ ks) ⊎ Among k js
    later (inl e) = inl (or_later (is_text k i) (is_among k ks) e)
    later (inr e) = inr e

    by : (is_text k i ≡ true) ⊎ Among k (ks ++ js) → (Among k (ks ++ js) → Among k ks ⊎ Among k js) → Among k (i ∷ ks) ⊎ Among k js
    by (inl e) go = inl (or_first (is_text k i) (is_among k ks) e)
    by (inr e) go = later (go e)

append_left : (k : List ℕ) (ks js : List (List ℕ)) → Among k ks → Among k (ks ++ js)
append_left k [] js h = absurd (cc)
append_left k (i ∷ ks) js h = by (first_or (is_text k i) (is_among k ks) h) (λ e. append_left k ks js e)
  where
    by : (is_text k i ≡ true) ⊎ Among k ks → (Among k ks → Among k (ks ++ js)) → Among k (i ∷ (ks ++ js))
    by (inl e) go = or_first (is_text k i) (is_among k (ks ++ js)) e
    by (inr e) go = or_later (is_text k i) (is_among k (ks ++ js)) (go e)

append_right : (k : List ℕ) (ks js : List (List ℕ)) → Among k js → Among k (ks ++ js)
append_right k [] js h = h
append_right k (i ∷ ks) js h = or_later (is_text k i) (is_among k (ks ++ js)) (append_right k ks js h)

-- With one more.

with_by : (b : Bool) (k t : List ℕ) (ks : List (List ℕ)) → Among k (if b then ks else ks ++ t ∷ []) → (k ≡ t) ⊎ Among k ks
with_by true k t ks h = inr h
with_by false k t ks h = by (among_append k ks (t ∷ []) h)
  where
    by : Among k ks ⊎ Among k (t ∷ []) → (k ≡ t) ⊎ Among k ks
    by (inl e) = inr e
    by (inr e) = inl (among_one k t e)

with_one : (k t : List ℕ) (ks : List (List ℕ)) → Among k (with_text t ks) → (k ≡ t) ⊎ Among k ks
with_one k t ks h = with_by (is_among t ks) k t ks h

kept_by : (b : Bool) (k t : List ℕ) (ks : List (List ℕ)) → Among k ks → Among k (if b then ks else ks ++ t ∷ [])
kept_by true k t ks h = h
kept_by false k t ks h = append_left k ks (t ∷ []) h

with_kept : (k t : List ℕ) (ks : List (List ℕ)) → Among k ks → Among k (with_text t ks)
with_kept k t ks h = kept_by (is_among t ks) k t ks h

there_by : (b : Bool) (t : List ℕ) (ks : List (List ℕ)) → is_among t ks ≡ b → Among t (if b then ks else ks ++ t ∷ [])
there_by true t ks e = e
there_by false t ks e = append_right t ks (t ∷ []) (or_first (is_text t t) false (text_is t t refl))

with_there : (t : List ℕ) (ks : List (List ℕ)) → Among t (with_text t ks)
with_there t ks = there_by (is_among t ks) t ks refl

-- How often.

times_same : (k j : List ℕ) (ks : List (List ℕ)) → k ≡ j → times k (j ∷ ks) ≡ 1 + times k ks
times_same k j ks e = ap (λ b. cond b (1 + times k ks) (times k ks)) (text_is k j e)

times_grow : (k j : List ℕ) (ks : List (List ℕ)) → times k ks ≤ times k (j ∷ ks)
times_grow k j ks = by (is_text k j)
  where
    by : (b : Bool) → times k ks ≤ cond b (1 + times k ks) (times k ks)
    by true = omega arith
    by false = omega arith

-- What comes again.

-- a text comes again: it has, or it has come and comes once more, or it comes twice
abbrev Comes : List ℕ → List (List ℕ) → List (List ℕ) → List (List ℕ) → Type 0
Comes k seen again ks = Among k again ⊎ (Among k seen × (1 ≤ times k ks)) ⊎ (2 ≤ times k ks)

again_by : (b : Bool) (k j : List ℕ) (seen again ks : List (List ℕ)) → is_among j seen ≡ b → Among k (cond b (with_text j again) again) → Comes k seen again (j ∷ ks)
again_by false k j seen again ks e h = inl h
again_by true k j seen again ks e h = by (with_one k j again h)
  where
    by : (k ≡ j) ⊎ Among k again → Comes k seen again (j ∷ ks)
    by (inl q) = inr (inl (subst (λ z. Among z seen) (sym q) e, omega (arith, times_same k j ks q)))
    by (inr q) = inl q

comes_back : (k j : List ℕ) (seen again ks : List (List ℕ)) → Comes k (with_text j seen) (cond (is_among j seen) (with_text j again) again) ks → Comes k seen again (j ∷ ks)
comes_back k j seen again ks (inl h) = again_by (is_among j seen) k j seen again ks refl h
comes_back k j seen again ks (inr (inl h)) = by (with_one k j seen h.0)
  where
    some : 1 ≤ times k ks
    some = h.1

    by : (k ≡ j) ⊎ Among k seen → Comes k seen again (j ∷ ks)
    by (inl q) = inr (inr (omega (arith, some, times_same k j ks q)))
    by (inr q) = inr (inl (q, omega (arith, some, times_grow k j ks)))
comes_back k j seen again ks (inr (inr h)) = inr (inr (omega (arith, h, times_grow k j ks)))

again_comes : (k : List ℕ) (seen again ks : List (List ℕ)) → Among k (again_in seen again ks) → Comes k seen again ks
again_comes k seen again [] h = inl h
again_comes k seen again (j ∷ ks) h = comes_back k j seen again ks (again_comes k (with_text j seen) (cond (is_among j seen) (with_text j again) again) ks h)

kept_again : (b : Bool) (k j : List ℕ) (again : List (List ℕ)) → Among k again → Among k (cond b (with_text j again) again)
kept_again true k j again h = with_kept k j again h
kept_again false k j again h = h

now_again : (b : Bool) (j : List ℕ) (seen again : List (List ℕ)) → is_among j seen ≡ b → Among j seen → Among j (cond b (with_text j again) again)
now_again true j seen again e h = with_there j again
now_again false j seen again e h = absurd (let bad : true ≡ false = sym h ∙ e in cc)

comes_on : (b : Bool) (k j : List ℕ) (seen again ks : List (List ℕ)) → is_text k j ≡ b → Among k again ⊎ (Among k seen × (1 ≤ cond b (1 + times k ks) (times k ks))) ⊎ (2 ≤ cond b (1 + times k ks) (times k ks))
    → Comes k (with_text j seen) (cond (is_among j seen) (with_text j again) again) ks
comes_on b k j seen again ks e (inl h) = inl (kept_again (is_among j seen) k j again h)
comes_on true k j seen again ks e (inr (inl h)) =
    let same = text_same k j e in inl (subst (λ z. Among z (cond (is_among j seen) (with_text j again) again)) (sym same) (now_again (is_among j seen) j seen again refl (subst (λ z. Among z seen) same h.0)))
comes_on false k j seen again ks e (inr (inl h)) = inr (inl (with_kept k j seen h.0, h.1))
comes_on true k j seen again ks e (inr (inr h)) = inr (inl (subst (λ z. Among z (with_text j seen)) (sym (text_same k j e)) (with_there j seen), omega (arith, h)))
comes_on false k j seen again ks e (inr (inr h)) = inr (inr h)

pub comes_again : (k : List ℕ) (seen again ks : List (List ℕ)) → Comes k seen again ks → Among k (again_in seen again ks)
comes_again k seen again [] (inl h) = h
comes_again k seen again [] (inr (inl h)) = absurd (let some = h.1 in omega arith)
comes_again k seen again [] (inr (inr h)) = absurd (omega arith)
comes_again k seen again (j ∷ ks) c = comes_again k (with_text j seen) (cond (is_among j seen) (with_text j again) again) ks (comes_on (is_text k j) k j seen again ks refl c)

-- What has come.

seen_comes : (k : List ℕ) (seen ks : List (List ℕ)) → Among k seen ⊎ (1 ≤ times k ks) → Among k (seen_in seen ks)
seen_comes k seen [] (inl h) = h
seen_comes k seen [] (inr h) = absurd (omega arith)
seen_comes k seen (j ∷ ks) (inl h) = seen_comes k (with_text j seen) ks (inl (with_kept k j seen h))
seen_comes k seen (j ∷ ks) (inr h) = seen_comes k (with_text j seen) ks (by (is_text k j) refl h)
  where
    by : (b : Bool) → is_text k j ≡ b → 1 ≤ cond b (1 + times k ks) (times k ks) → Among k (with_text j seen) ⊎ (1 ≤ times k ks)
    by true e low = inl (subst (λ z. Among z (with_text j seen)) (sym (text_same k j e)) (with_there j seen))
    by false e low = inr low

-- What is picked.

both_true : (b c : Bool) → (b && c) ≡ true → (b ≡ true) × (c ≡ true)
both_true true c h = (refl, h)
both_true false c h = absurd (cc)

step_of : (b : Bool) (k t : List ℕ) (found : List (List ℕ)) → Among k (cond b (with_text t found) found) → ((b ≡ true) × (k ≡ t)) ⊎ Among k found
step_of false k t found h = inr h
step_of true k t found h = by (with_one k t found h)
  where
    by : (k ≡ t) ⊎ Among k found → ((true ≡ true) × (k ≡ t)) ⊎ Among k found
    by (inl q) = inl (refl, q)
    by (inr q) = inr q

picked_among : (k : List ℕ) (others : List (List ℕ)) (most : ℕ) (found ts : List (List ℕ)) → Among k (picked others most found ts) → Among k found ⊎ Among k others
picked_among k others most found [] h = inl h
picked_among k others most found (t ∷ ts) h = by (picked_among k others most (cond (nat_lt (length found) most && is_among t others) (with_text t found) found) ts h)
  where
    here : (((nat_lt (length found) most && is_among t others) ≡ true) × (k ≡ t)) ⊎ Among k found → Among k found ⊎ Among k others
    here (inl q) = inr (subst (λ z. Among z others) (sym q.1) (both_true (nat_lt (length found) most) (is_among t others) q.0).1)
    here (inr q) = inl q

    by : Among k (cond (nat_lt (length found) most && is_among t others) (with_text t found) found) ⊎ Among k others → Among k found ⊎ Among k others
    by (inl q) = here (step_of (nat_lt (length found) most && is_among t others) k t found q)
    by (inr q) = inr q

grows_by : (b c : Bool) (t : List ℕ) (found : List (List ℕ)) → length found ≤ length (cond b (if c then found else found ++ t ∷ []) found)
grows_by false c t found = omega arith
grows_by true true t found = omega arith
grows_by true false t found = let e = length-append found (t ∷ []) in omega (arith, e)

picked_grows : (others : List (List ℕ)) (most : ℕ) (found ts : List (List ℕ)) → length found ≤ length (picked others most found ts)
picked_grows others most found [] = omega arith
picked_grows others most found (t ∷ ts) =
    let b = nat_lt (length found) most && is_among t others in
    let here = grows_by b (is_among t found) t found in let more = picked_grows others most (cond b (with_text t found) found) ts in omega (arith, here, more)

full_by : (q : Bool) (found : List (List ℕ)) (most : ℕ) → nat_lt (length found) most ≡ q → q ≡ false → most ≤ length found
full_by q found most e h = grind (arith, nat_tests)

kept_step : (b : Bool) (k t : List ℕ) (found : List (List ℕ)) → Among k found → Among k (cond b (with_text t found) found)
kept_step true k t found h = with_kept k t found h
kept_step false k t found h = h

-- a text that is found stays
found_stays : (k : List ℕ) (others : List (List ℕ)) (most : ℕ) (found ts : List (List ℕ)) → Among k found → Among k (picked others most found ts)
found_stays k others most found [] h = h
found_stays k others most found (t ∷ ts) h = found_stays k others most (cond (nat_lt (length found) most && is_among t others) (with_text t found) found) ts (kept_step (nat_lt (length found) most && is_among t others) k t found h)

pick_now : (q c : Bool) (t : List ℕ) (found : List (List ℕ)) → q ≡ true → c ≡ true → Among t (cond (q && c) (with_text t found) found)
pick_now true true t found e h = with_there t found
pick_now true false t found e h = absurd (cc)
pick_now false c t found e h = absurd (cc)

-- a text that is among both is picked, unless there are this many
picked_or_full : (k : List ℕ) (others : List (List ℕ)) (most : ℕ) (found ts : List (List ℕ)) → Among k others → Among k ts → Among k (picked others most found ts) ⊎ (most ≤ length (picked others most found ts))
picked_or_full k others most found [] h i = absurd (cc)
picked_or_full k others most found (t ∷ ts) h i =
    by (first_or (is_text k t) (is_among k ts) i) (λ e. picked_or_full k others most (cond (nat_lt (length found) most && is_among t others) (with_text t found) found) ts h e)
  where
    b : Bool
    b = nat_lt (length found) most && is_among t others

    now : List (List ℕ)
    now = cond b (with_text t found) found

    room : (q : Bool) → nat_lt (length found) most ≡ q → k ≡ t → Among k (picked others most now ts) ⊎ (most ≤ length (picked others most now ts))
    room true e same = inl (found_stays k others most now ts (subst (λ z. Among z now) (sym same) (pick_now (nat_lt (length found) most) (is_among t others) t found e (subst (λ z. Among z others) same h))))
    room false e same = let full = full_by (nat_lt (length found) most) found most refl e in let here = grows_by b (is_among t found) t found in let more = picked_grows others most now ts in inr (omega (arith, full, here, more))

    by : (is_text k t ≡ true) ⊎ Among k ts → (Among k ts → Among k (picked others most now ts) ⊎ (most ≤ length (picked others most now ts))) → Among k (picked others most now ts) ⊎ (most ≤ length (picked others most now ts))
    by (inl e) go = room (nat_lt (length found) most) refl (text_same k t e)
    by (inr e) go = go e

-- Parts.

part_again : (ks : List (List ℕ)) (k : List ℕ) → Among k (picked (again_in [] [] ks) most_parts [] (seen_in [] ks)) → 2 ≤ times k ks
part_again ks k h = by (picked_among k (again_in [] [] ks) most_parts [] (seen_in [] ks) h)
  where
    twice : Comes k [] [] ks → 2 ≤ times k ks
    twice (inl q) = absurd (cc)
    twice (inr (inl q)) = absurd (let bad = q.0 in cc)
    twice (inr (inr q)) = q

    by : Among k [] ⊎ Among k (again_in [] [] ks) → 2 ≤ times k ks
    by (inl q) = absurd (cc)
    by (inr q) = twice (again_comes k [] [] ks q)

pub parts_again : (ls : List TextLine) (k : List ℕ) → is_among k (parts_of ls) ≡ true → 2 ≤ times k (keys ls)
parts_again ls k h = part_again (keys ls) k h

pub all_parts : (ls : List TextLine) (k : List ℕ) → 2 ≤ times k (keys ls) → (is_among k (parts_of ls) ≡ true) ⊎ (length (parts_of ls) ≡ most_parts)
all_parts ls k h = by (picked_or_full k others most_parts [] (seen_in [] (keys ls)) (comes_again k [] [] (keys ls) (inr (inr h))) (seen_comes k [] (keys ls) (inr (omega (arith, h)))))
  where
    others : List (List ℕ)
    others = again_in [] [] (keys ls)

    by : Among k (parts_of ls) ⊎ (most_parts ≤ length (parts_of ls)) → (is_among k (parts_of ls) ≡ true) ⊎ (length (parts_of ls) ≡ most_parts)
    by (inl q) = inl q
    by (inr q) = let few = picked_most others most_parts [] (seen_in [] (keys ls)) (omega arith) in inr (omega (arith, q, few))

-- Different.

not_true : (b : Bool) → (b ≡ true → ⊥) → b ≡ false
not_true true h = absurd (h refl)
not_true false h = refl

different_more : (ks : List (List ℕ)) (t : List ℕ) → is_among t ks ≡ false → AreDifferent ks → AreDifferent (ks ++ t ∷ [])
different_more [] t n d = (refl, tt)
different_more (k ∷ ks) t n d = (
  not_true (is_among k (ks ++ t ∷ [])) (λ h. by (among_append k ks (t ∷ []) h)),
  different_more ks t (not_true (is_among t ks) (λ h. let bad : true ≡ false = sym (or_later (is_text t k) (is_among t ks) h) ∙ n in cc)) d.1,
)
  where
    by : Among k ks ⊎ Among k (t ∷ []) → ⊥
    by (inl e) = let bad : true ≡ false = sym e ∙ d.0 in cc
    by (inr e) = let bad : true ≡ false = sym (or_first (is_text t k) (is_among t ks) (text_is t k (sym (among_one k t e)))) ∙ n in cc

different_with : (b : Bool) (t : List ℕ) (ks : List (List ℕ)) → is_among t ks ≡ b → AreDifferent ks → AreDifferent (if b then ks else ks ++ t ∷ [])
different_with true t ks e d = d
different_with false t ks e d = different_more ks t e d

different_step : (b : Bool) (t : List ℕ) (found : List (List ℕ)) → AreDifferent found → AreDifferent (cond b (with_text t found) found)
different_step true t found d = different_with (is_among t found) t found refl d
different_step false t found d = d

different_picked : (others : List (List ℕ)) (most : ℕ) (found ts : List (List ℕ)) → AreDifferent found → AreDifferent (picked others most found ts)
different_picked others most found [] d = d
different_picked others most found (t ∷ ts) d =
    different_picked others most (cond (nat_lt (length found) most && is_among t others) (with_text t found) found) ts (different_step (nat_lt (length found) most && is_among t others) t found d)

pub different_parts : (ls : List TextLine) → AreDifferent (parts_of ls)
different_parts ls = different_picked (again_in [] [] (keys ls)) most_parts [] (seen_in [] (keys ls)) tt
