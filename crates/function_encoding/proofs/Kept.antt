-- The conditions of several names, one name after another.
use Rattle.std.proofs.Common.{◌≡◌, ℕ, zero, suc, ◌+◌, ◌<◌, ◌≤◌, Bool, true, false, cond, List, [], ◌∷◌, ◌++◌, map, length, drop, get_or, Result, Ok, IsErrAnd, All, refl, sym, ap, ◌∙◌, subst, append_assoc, append-nil, length-append, arith}
use Rattle.std.proofs.lemmas.List.Elements.{All-get_or}
use Rattle.linear_term.specs.declared.range.TermFault.{TermFault}
use Rattle.form_typed.specs.declared.typed.Sort.{Sort}
use Rattle.form_typed.specs.Sorts.{IsSortRanged}
use Rattle.base_budget.specs.Trace.{Traced, Event, just, next}
use Rattle.base_budget.proofs.Charging.{Left, left_all, drop-item, drop_all}
use Rattle.base_budget.proofs.Tracing.{just-next, next-assoc}
use Rattle.formula.specs.declared.calculus.Core.{Core}
use Rattle.formula.specs.Form.{Form, Forms, forms}
use Rattle.formula.specs.Tree.{form}
use Rattle.formula.specs.Made.{Made}
use Rattle.formula.proofs.Making.{made_just, left_made, left_err, left_done}
use Rattle.form_encoding.specs.Encoding.{SortBound, bounds, limits}
use Rattle.form_encoding.specs.Extent.{Extent, beside, leaf, nothing, above, behind_atoms, restricted_extent, measured, all_measured}
use Rattle.form_encoding.specs.Root.{conditions}
use Rattle.form_encoding.proofs.Bounding.{measured-limits}
use Rattle.function_encoding.specs.Bounds.{kept_bounds}

-- the conditions of one name, where it is kept
abbrev pub one_kept : (ℕ → Bool) → ℕ → Sort → Traced (List Form)
one_kept kept x s = cond (kept x) (limits false x (bounds s)) (just [])

-- what is left: the conditions of the names from x on, after others
abbrev pub left_over : (ℕ → Bool) → ℕ → List Sort → List Form → Traced (List Form)
left_over kept x ss out = next (conditions kept x ss) (λ hs. just (out ++ hs))

abbrev pub one_over : (ℕ → Bool) → ℕ → Sort → List Form → Traced (List Form)
one_over kept x s out = next (one_kept kept x s) (λ hs. just (out ++ hs))

two_events : (a b : List Event) → (a ++ (b ++ [])) ++ [] ≡ (a ++ []) ++ (b ++ [])
two_events a b = append-nil (a ++ (b ++ [])) ∙ ap (λ z. z ++ (b ++ [])) (sym (append-nil a))

pub over-more : (kept : ℕ → Bool) (x : ℕ) (s : Sort) (ss : List Sort) (out : List Form) → left_over kept x (s ∷ ss) out ≡ next (one_over kept x s out) (left_over kept (suc x) ss)
unfolding next just
over-more kept x s ss out = λ i. record {
  value = sym (append_assoc out (one_kept kept x s).value (conditions kept (suc x) ss).value) i;
  events = two_events (one_kept kept x s).events (conditions kept (suc x) ss).events i;
}

over-none : (kept : ℕ → Bool) (x : ℕ) (out : List Form) → left_over kept x [] out ≡ just out
unfolding next just
over-none kept x out = ap (λ l. record { value = l; events = [] }) (append-nil out)

pub over_all : (kept : ℕ → Bool) (x i : ℕ) (ss : List Sort) (out : List Core) → i ≡ 0 → Left (left_over kept (x + i) (drop i ss) (map form out)) (left_over kept x ss (map form out))
over_all kept x i ss out first =
    subst (λ j. Left (left_over kept (x + j) (drop j ss) (map form out)) (left_over kept x ss (map form out))) (sym first)
    (subst (λ y. Left (left_over kept y ss (map form out)) (left_over kept x ss (map form out))) (none x) (left_all (left_over kept x ss (map form out))))
  where
    none : (x : ℕ) → x ≡ x + 0
    none x = omega arith

pub over_next : (kept : ℕ → Bool) (x i : ℕ) (ss : List Sort) (s : Sort) (out : List Form) (work : Traced (List Form)) → i < length ss → s ≡ get_or ss i s
    → Left (left_over kept (x + i) (drop i ss) out) work → Left (next (one_over kept (x + i) s out) (left_over kept (x + (i + 1)) (drop (i + 1) ss))) work
over_next kept x i ss s out work lt is h =
    subst (λ w. Left w work)
    (ap (λ l. left_over kept (x + i) l out) (drop-item ss i s lt is) ∙ over-more kept (x + i) s (drop (i + 1) ss) out
    ∙ ap (λ y. next (one_over kept (x + i) s out) (left_over kept y (drop (i + 1) ss))) (up x i)) h
  where
    up : (x i : ℕ) → suc (x + i) ≡ x + (i + 1)
    up x i = omega arith

pub read_any : (ss : List Sort) (j : ℕ) (c d : Sort) → j < length ss → get_or ss j c ≡ get_or ss j d
read_any [] j c d lt = absurd (omega (arith, lt))
read_any (s ∷ ss) zero c d lt = refl
read_any (s ∷ ss) (suc j) c d lt = read_any ss j c d (omega (arith, lt))

-- the same of an item that is read where the list has one
pub over_read : (kept : ℕ → Bool) (x i : ℕ) (ss : List Sort) (d : Sort) (out : List Form) (work : Traced (List Form)) → i < length ss → Left (left_over kept (x + i) (drop i ss) out) work
    → Left (next (one_over kept (x + i) (get_or ss i d) out) (left_over kept (x + (i + 1)) (drop (i + 1) ss))) work
over_read kept x i ss d out work lt h = over_next kept x i ss (get_or ss i d) out work lt (read_any ss i d (get_or ss i d) lt) h

pub over_end : (kept : ℕ → Bool) (x i : ℕ) (ss : List Sort) (out : List Core) (work : Traced (List Form)) → length ss ≤ i → Left (left_over kept (x + i) (drop i ss) (map form out)) work
    → Made (λ hs. map form hs) work (Ok out)
over_end kept x i ss out work le h =
    left_done (λ hs. map form hs) (Ok out) (subst (λ w. Left w work) (ap (λ l. left_over kept (x + i) l (map form out)) (drop_all ss i le) ∙ over-none kept (x + i) (map form out)) h)
    (made_just (λ hs. map form hs) (map form out) out refl)

-- the next name, as the code has it
pub kept_as : (kept : ℕ → Bool) (b : Bool) (x y : ℕ) (s : Sort) (out : List Form) (r : Result (List Core) TermFault) → b ≡ kept y → x ≡ y
    → Made (λ hs. map form hs) (next (cond b (limits false x (bounds s)) (just [])) (λ hs. just (out ++ hs))) r → Made (λ hs. map form hs) (one_over kept y s out) r
kept_as kept b x y s out r p q m = subst (λ w. Made (λ hs. map form hs) w r) (λ i. next (cond (p i) (limits false (q i) (bounds s)) (just [])) (λ hs. just (out ++ hs))) m

pub not_kept : (x : ℕ) (s : Sort) (b : Bool) (out : List Core) → b ≡ false → Made (λ hs. map form hs) (next (cond b (limits false x (bounds s)) (just [])) (λ hs. just (map form out ++ hs))) (Ok out)
not_kept x s b out is =
    subst (λ z. Made (λ hs. map form hs) (next (cond z (limits false x (bounds s)) (just [])) (λ hs. just (map form out ++ hs))) (Ok out)) (sym is)
    (subst (λ w. Made (λ hs. map form hs) w (Ok out)) (sym (over-none (λ _. false) 0 (map form out))) (made_just (λ hs. map form hs) (map form out) out refl))

pub is_kept_limits : (x : ℕ) (s : Sort) (b : Bool) (out : List Form) (r : Result (List Core) TermFault) → b ≡ true
    → Made (λ hs. map form hs) (next (limits false x (bounds s)) (λ hs. just (out ++ hs))) r → Made (λ hs. map form hs) (next (cond b (limits false x (bounds s)) (just [])) (λ hs. just (out ++ hs))) r
is_kept_limits x s b out r is m = subst (λ z. Made (λ hs. map form hs) (next (cond z (limits false x (bounds s)) (just [])) (λ hs. just (out ++ hs))) r) (sym is) m

pub item_ranged : (ss : List Sort) (i : ℕ) (s : Sort) → i < length ss → s ≡ get_or ss i s → All IsSortRanged ss → IsSortRanged s
item_ranged ss i s lt is h = subst IsSortRanged (sym is) (All-get_or IsSortRanged ss i s lt h)

-- Names of two lists of types.

pub over-two : (kept : ℕ → Bool) (x : ℕ) (a b : List Sort) (out : List Form) → left_over kept x (a ++ b) out ≡ next (left_over kept x a out) (left_over kept (x + length a) b)
unfolding next just
over-two kept x [] b out = ap (λ y. left_over kept y b out) (none x) ∙ ap (λ w. next w (left_over kept (x + 0) b)) (sym (over-none kept x out))
  where
    none : (x : ℕ) → x ≡ x + 0
    none x = omega arith
over-two kept x (s ∷ a) b out =
    over-more kept x s (a ++ b) out
    ∙ (λ i. next (one_over kept x s out) (λ zs. over-two kept (suc x) a b zs i))
    ∙ sym (next-assoc (one_over kept x s out) (left_over kept (suc x) a) (left_over kept (suc x + length a) b))
    ∙ ap (λ w. next w (left_over kept (suc x + length a) b)) (sym (over-more kept x s a out))
    ∙ ap (λ y. next (left_over kept x (s ∷ a) out) (left_over kept y b)) (up x (length a))
  where
    up : (x k : ℕ) → suc x + k ≡ x + suc k
    up x k = omega arith

pub over-two_first : (kept : ℕ → Bool) (a b : List Sort) (out : List Form) → left_over kept 0 (a ++ b) out ≡ next (left_over kept 0 a out) (left_over kept (length a) b)
over-two_first kept a b out = over-two kept 0 a b out ∙ ap (λ y. next (left_over kept 0 a out) (left_over kept y b)) (no_more (length a))
  where
    no_more : (n : ℕ) → 0 + n ≡ n
    no_more n = omega arith

pub conditions-same : (kept other : ℕ → Bool) (x : ℕ) (ss : List Sort) → ((y : ℕ) → y < x + length ss → kept y ≡ other y) → conditions kept x ss ≡ conditions other x ss
conditions-same kept other x [] h = refl
conditions-same kept other x (s ∷ ss) h =
    let own : kept x ≡ other x = h x (omega arith) in
    let rest = conditions-same kept other (suc x) ss (λ y lt. h y (omega (arith, lt))) in
    λ i. next (cond (own i) (limits false x (bounds s)) (just [])) (λ hs. next (rest i) (λ gs. just (hs ++ gs)))

-- Extents.

pub behind-sum : (j k : ℕ) (e : Extent) → behind_atoms (j + k) e ≡ behind_atoms j (behind_atoms k e)
behind-sum zero k e = ap (λ n. behind_atoms n e) (no_more k)
  where
    no_more : (k : ℕ) → 0 + k ≡ k
    no_more k = omega arith
behind-sum (suc j) k e = ap (λ n. behind_atoms n e) (one_up j k) ∙ ap (beside leaf) (behind-sum j k e)
  where
    one_up : (j k : ℕ) → suc j + k ≡ suc (j + k)
    one_up j k = omega arith

pub kept-two : (kept : ℕ → Bool) (x : ℕ) (a b : List Sort) → kept_bounds kept x (a ++ b) ≡ kept_bounds kept x a + kept_bounds kept (x + length a) b
kept-two kept x [] b = ap (λ y. kept_bounds kept y b) (none x) ∙ no_more (kept_bounds kept (x + 0) b)
  where
    none : (x : ℕ) → x ≡ x + 0
    none x = omega arith

    no_more : (n : ℕ) → n ≡ 0 + n
    no_more n = omega arith
kept-two kept x (s ∷ a) b =
    let rest = kept-two kept (suc x) a b in
    let y : kept_bounds kept (suc x + length a) b ≡ kept_bounds kept (x + suc (length a)) b = ap (λ z. kept_bounds kept z b) (up x (length a)) in
    omega (arith, rest, y)
  where
    up : (x k : ℕ) → suc x + k ≡ x + suc k
    up x k = omega arith

pub kept-two_first : (kept : ℕ → Bool) (a b : List Sort) → kept_bounds kept 0 (a ++ b) ≡ kept_bounds kept 0 a + kept_bounds kept (length a) b
kept-two_first kept a b = kept-two kept 0 a b ∙ ap (λ y. kept_bounds kept 0 a + kept_bounds kept y b) (no_more (length a))
  where
    no_more : (n : ℕ) → 0 + n ≡ n
    no_more n = omega arith

one_measured : (kept : Bool) (x : ℕ) (s : Sort) (gs : List Form) (a : Extent) → all_measured (forms gs) ≡ a
    → all_measured (forms ((cond kept (limits false x (bounds s)) (just [])).value ++ gs)) ≡ behind_atoms (cond kept (length (bounds s)) 0) a
unfolding just
one_measured true x s gs a p = measured-limits false x (bounds s) gs a p
one_measured false x s gs a p = p

pub conditions_measured : (kept : ℕ → Bool) (x : ℕ) (ss : List Sort) (gs : List Form) (a : Extent) → all_measured (forms gs) ≡ a
    → all_measured (forms ((conditions kept x ss).value ++ gs)) ≡ behind_atoms (kept_bounds kept x ss) a
unfolding next just
conditions_measured kept x [] gs a p = p
conditions_measured kept x (s ∷ ss) gs a p =
    let front : List Form = (one_kept kept x s).value in
    let back : List Form = (conditions kept (suc x) ss).value in
    ap (λ l. all_measured (forms l)) (append_assoc front back gs)
    ∙ one_measured (kept x) x s (back ++ gs) (behind_atoms (kept_bounds kept (suc x) ss) a) (conditions_measured kept (suc x) ss gs a p)
    ∙ sym (behind-sum (cond (kept x) (length (bounds s)) 0) (kept_bounds kept (suc x) ss) a)

-- how many conditions there are
limits_many : (x : ℕ) (bs : List SortBound) → length (limits false x bs).value ≡ length bs
unfolding next just
limits_many x [] = refl
limits_many x (b ∷ bs) = ap suc (limits_many x bs)

pub conditions_many : (kept : ℕ → Bool) (x : ℕ) (ss : List Sort) → length (conditions kept x ss).value ≡ kept_bounds kept x ss
unfolding next just
conditions_many kept x [] = refl
conditions_many kept x (s ∷ ss) =
    length-append (one_kept kept x s).value (conditions kept (suc x) ss).value ∙ (λ i. one (kept x) i + conditions_many kept (suc x) ss i)
  where
    one : (b : Bool) → length (cond b (limits false x (bounds s)) (just [])).value ≡ cond b (length (bounds s)) 0
    one true = limits_many x (bounds s)
    one false = refl

-- from the last name back
pub kept_back : (kept : ℕ → Bool) (x i j : ℕ) (ss : List Sort) (s : Sort) (b : Bool) (all e new : Extent) → i ≡ j + 1 → j < length ss → s ≡ get_or ss j s → b ≡ kept (x + j)
    → all ≡ behind_atoms (kept_bounds kept (x + i) (drop i ss)) e → new ≡ behind_atoms (cond b (length (bounds s)) 0) all → new ≡ behind_atoms (kept_bounds kept (x + j) (drop j ss)) e
kept_back kept x i j ss s b all e new up lt is own h n =
    n ∙ (λ k. behind_atoms (cond (own k) (length (bounds s)) 0) (h k))
    ∙ ap (λ m. behind_atoms (cond (kept (x + j)) (length (bounds s)) 0) (behind_atoms (kept_bounds kept (x + m) (drop m ss)) e)) up
    ∙ ap (λ y. behind_atoms (cond (kept (x + j)) (length (bounds s)) 0) (behind_atoms (kept_bounds kept y (drop (j + 1) ss)) e)) (next_up x j)
    ∙ sym (behind-sum (cond (kept (x + j)) (length (bounds s)) 0) (kept_bounds kept (suc (x + j)) (drop (j + 1) ss)) e)
    ∙ ap (λ l. behind_atoms (kept_bounds kept (x + j) l) e) (sym (drop-item ss j s lt is))
  where
    next_up : (x j : ℕ) → x + (j + 1) ≡ suc (x + j)
    next_up x j = omega arith

pub kept_last : (kept : ℕ → Bool) (x i : ℕ) (ss : List Sort) (e : Extent) → length ss ≤ i → e ≡ behind_atoms (kept_bounds kept (x + i) (drop i ss)) e
kept_last kept x i ss e le = ap (λ l. behind_atoms (kept_bounds kept (x + i) l) e) (sym (drop_all ss i le))

-- the same of an item that is read where the list has one
pub item_back : (kept : ℕ → Bool) (x i j : ℕ) (ss : List Sort) (d : Sort) (b : Bool) (all e new : Extent) → i ≡ j + 1 → j < length ss → b ≡ kept (x + j)
    → all ≡ behind_atoms (kept_bounds kept (x + i) (drop i ss)) e → new ≡ behind_atoms (cond b (length (bounds (get_or ss j d))) 0) all
    → new ≡ behind_atoms (kept_bounds kept (x + j) (drop j ss)) e
item_back kept x i j ss d b all e new up lt own h n = kept_back kept x i j ss (get_or ss j d) b all e new up lt (read_any ss j d (get_or ss j d) lt) own h n
