-- Members of other kinds have no pairs, so they can be left out where pairs are looked for.
use Rattle.std.proofs.Common.{◌≡◌, ℕ, Bool, true, false, cond, List, [], ◌∷◌, ◌++◌, drop, map, filter, refl, sym, ap, ◌∙◌, append_assoc}
use Rattle.std.proofs.lemmas.List.{append-nil}
use Rattle.linear_term.specs.Linear.{Linear}
use Rattle.base_budget.specs.Trace.{Traced, just, next, each}
use Rattle.base_budget.proofs.Tracing.{next-assoc, next-just}
use Rattle.formula.specs.Form.{Form, equal, unequal, at_least, holds, fails, differs, conjunction, disjunction, universal, existential, is_pure}
use Rattle.formula.specs.Tree.{form}
use Rattle.sequent.specs.Sequent as q
use Rattle.sequent.specs.declared.member.Member.{Member}
use Rattle.sequent.specs.Views.{member_of, members_of}
use Rattle.pred_unify.specs.Pairs.{same_arguments, predicate_pair, function_pair, with_predicates, with_functions, function_pairs, pures}
use Rattle.pred_unify.specs.Reading.{among, behind, is_holding, is_differing, meetings, meetings_by, meets, onto, partners}
use Rattle.pred_unify.specs.declared.leaf.Met.{Met}
use Rattle.std.specs.Borrow.{Bor}
use Rattle.std.proofs.lemmas.Grind.{flat_map-append}
use Rattle.sequent.specs.Rules.{brought}
use Rattle.std.specs.List.{AllByRecursion, flat_map}

-- work that gives nothing changes nothing
pub nothing_more : (w : Traced (List Form)) (k : List Form → Traced (List Form)) (out : List Form) → w ≡ just [] → next w (λ fs. k (out ++ fs)) ≡ k out
unfolding next just
nothing_more w k out none = ap (λ t. next t (λ fs. k (out ++ fs))) none ∙ ap k (append-nil out)

-- what gives nothing at the members that are left out gives the same of those that are kept
pub each_kept : (f : q.Member → Traced (List Form)) (test : Member → Bool) → ((m : Member) → test m ≡ false → f (member_of m) ≡ just []) → (ms : List Member) (out : List Form)
    → each f (members_of (filter test ms)) out ≡ each f (members_of ms) out
each_kept f test none [] out = refl
each_kept f test none (m ∷ ms) out = by (test m) refl (each_kept f test none ms)
  where
    by : (b : Bool) → test m ≡ b → ((o : List Form) → each f (members_of (filter test ms)) o ≡ each f (members_of ms) o) → each f (members_of (cond b (m ∷ filter test ms) (filter test ms))) out ≡ each f (members_of (m ∷ ms)) out
    by true h rest = λ i. next (f (member_of m)) (λ ds. rest (out ++ ds) i)
    by false h rest = rest out ∙ sym (nothing_more (f (member_of m)) (λ ds. each f (members_of ms) ds) out (none m h))

-- a predicate has no pair with what does not meet it
not_met : (p : ℕ) (ss : List Linear) (g : Form) → meets p ss g ≡ false → predicate_pair p ss g ≡ just []
not_met p ss (holds q ts) h = ap (λ b. cond b (same_arguments ss ts) (just [])) h
not_met p ss (equal t) h = refl
not_met p ss (unequal t) h = refl
not_met p ss (at_least t) h = refl
not_met p ss (fails q ts) h = refl
not_met p ss (differs q ts u) h = refl
not_met p ss (conjunction fs) h = refl
not_met p ss (disjunction fs) h = refl
not_met p ss (universal f) h = refl
not_met p ss (existential f) h = refl

no_value : (f : ℕ) (ss : List Linear) (u : Linear) (g : Form) → is_differing g ≡ false → function_pair f ss u g ≡ just []
no_value f ss u (differs q ts v) h = cc
no_value f ss u (equal t) h = refl
no_value f ss u (unequal t) h = refl
no_value f ss u (at_least t) h = refl
no_value f ss u (holds q ts) h = refl
no_value f ss u (fails q ts) h = refl
no_value f ss u (conjunction fs) h = refl
no_value f ss u (disjunction fs) h = refl
no_value f ss u (universal g) h = refl
no_value f ss u (existential g) h = refl

no_values : (ms : List q.Member) (g : Form) → is_differing g ≡ false → with_functions ms g ≡ just []
no_values ms (differs q ts v) h = cc
no_values ms (equal t) h = refl
no_values ms (unequal t) h = refl
no_values ms (at_least t) h = refl
no_values ms (holds q ts) h = refl
no_values ms (fails q ts) h = refl
no_values ms (conjunction fs) h = refl
no_values ms (disjunction fs) h = refl
no_values ms (universal g) h = refl
no_values ms (existential g) h = refl

-- a function's value has its pairs with values of functions
with_differing : (ms : List Member) (g : Form) → with_functions (members_of (among is_differing ms)) g ≡ with_functions (members_of ms) g
with_differing ms (differs f ss u) = each_kept (λ m. function_pair f ss u m.formula) (λ m. is_differing (form m.formula)) (λ m. no_value f ss u (form m.formula)) ms []
with_differing ms (equal t) = refl
with_differing ms (unequal t) = refl
with_differing ms (at_least t) = refl
with_differing ms (holds q ts) = refl
with_differing ms (fails q ts) = refl
with_differing ms (conjunction fs) = refl
with_differing ms (disjunction fs) = refl
with_differing ms (universal f) = refl
with_differing ms (existential f) = refl

pub values_kept : (ms : List Member) (out : List Form) → function_pairs (members_of (among is_differing ms)) out ≡ function_pairs (members_of ms) out
values_kept [] out = refl
values_kept (m ∷ ms) out = by (is_differing (form m.formula)) refl (values_kept ms)
  where
    by : (b : Bool) → is_differing (form m.formula) ≡ b → ((o : List Form) → function_pairs (members_of (among is_differing ms)) o ≡ function_pairs (members_of ms) o) → function_pairs (members_of (cond b (m ∷ among is_differing ms) (among is_differing ms))) out ≡ function_pairs (members_of (m ∷ ms)) out
    by true h rest = λ i. next (with_differing ms (form m.formula) i) (λ fs. rest (out ++ fs) i)
    by false h rest = rest out ∙ sym (nothing_more (with_functions (members_of ms) (form m.formula)) (λ fs. function_pairs (members_of ms) fs) out (no_values (members_of ms) (form m.formula) h))

-- the work of an element, and then the rest
pub onto_next : (w : Traced (List Form)) (k : List Form → Traced (List Form)) (out : List Form) → next (onto out w) k ≡ next w (λ fs. k (out ++ fs))
onto_next w k out = next-assoc w (λ fs. just (out ++ fs)) k ∙ (λ i. next w (λ fs. next-just (out ++ fs) k i))

-- work that begins after some formulas gives the same after them
each_behind : {C : Type 0} (f : C → Traced (List Form)) (xs : List C) (a b : List Form) → each f xs (a ++ b) ≡ onto a (each f xs b)
each_behind f [] a b = sym (next-just b (λ fs. just (a ++ fs)))
each_behind f (x ∷ xs) a b =
    (λ i. next (f x) (λ ds. each f xs (append_assoc a b ds i))) ∙ (λ i. next (f x) (λ ds. each_behind f xs a (b ++ ds) i)) ∙ sym (next-assoc (f x) (λ ds. each f xs (b ++ ds)) (λ fs. just (a ++ fs)))

pub each_from : {C : Type 0} (f : C → Traced (List Form)) (xs : List C) (out : List Form) → each f xs out ≡ onto out (each f xs [])
each_from f xs out = ap (each f xs) (sym (append-nil out)) ∙ each_behind f xs out []

each_append : {C : Type 0} (f : C → Traced (List Form)) (xs ys : List C) (out : List Form) → each f (xs ++ ys) out ≡ next (each f xs out) (λ fs. each f ys fs)
each_append f [] ys out = sym (next-just out (λ fs. each f ys fs))
each_append f (x ∷ xs) ys out = (λ i. next (f x) (λ ds. each_append f xs ys (out ++ ds) i)) ∙ sym (next-assoc (f x) (λ ds. each f xs (out ++ ds)) (λ fs. each f ys fs))

-- the pair of a negated predicate and a predicate
abbrev pair_at : Form → Form → Traced (List Form)
pair_at (fails p ss) g = predicate_pair p ss g
pair_at (equal t) g = just []
pair_at (unequal t) g = just []
pair_at (at_least t) g = just []
pair_at (holds q ts) g = just []
pair_at (differs q ts u) g = just []
pair_at (conjunction fs) g = just []
pair_at (disjunction fs) g = just []
pair_at (universal f) g = just []
pair_at (existential f) g = just []

-- the pairs of a negated predicate with those that it meets are its pairs with all
chosen : (m : Member) (p : ℕ) (ss : List Linear) (ms : List Member) (out : List Form) → form m.formula ≡ fails p ss
    → each (λ (x : Member × Member). pair_at (form x.0.formula) (form x.1.formula)) (map (λ h. (m, h)) (filter (λ h. meets p ss (form h.formula)) ms)) out ≡ each (λ n. predicate_pair p ss n.formula) (members_of ms) out
chosen m p ss [] out is = refl
chosen m p ss (h ∷ ms) out is = by (meets p ss (form h.formula)) refl (λ o. chosen m p ss ms o is)
  where
    by : (b : Bool) → meets p ss (form h.formula) ≡ b
        → ((o : List Form) → each (λ (x : Member × Member). pair_at (form x.0.formula) (form x.1.formula)) (map (λ n. (m, n)) (filter (λ n. meets p ss (form n.formula)) ms)) o ≡ each (λ n. predicate_pair p ss n.formula) (members_of ms) o)
        → each (λ (x : Member × Member). pair_at (form x.0.formula) (form x.1.formula)) (map (λ n. (m, n)) (cond b (h ∷ filter (λ n. meets p ss (form n.formula)) ms) (filter (λ n. meets p ss (form n.formula)) ms))) out
        ≡ next (predicate_pair p ss (form h.formula)) (λ ds. each (λ n. predicate_pair p ss n.formula) (members_of ms) (out ++ ds))
    by true met rest = λ i. next (pair_at (is i) (form h.formula)) (λ ds. rest (out ++ ds) i)
    by false met rest = rest out ∙ sym (nothing_more (predicate_pair p ss (form h.formula)) (λ ds. each (λ n. predicate_pair p ss n.formula) (members_of ms) ds) out (not_met p ss (form h.formula) met))

nothing_onto : (w : Traced (List Form)) (out : List Form) → w ≡ just [] → just out ≡ onto out w
nothing_onto w out none = sym (nothing_more w (λ fs. just fs) out none)

-- the pairs of a member's meetings are its pairs with all
partners_pairs : (m : Member) (g : Form) (ms : List Member) (out : List Form) → form m.formula ≡ g
    → each (λ (x : Member × Member). pair_at (form x.0.formula) (form x.1.formula)) (partners m g ms) out ≡ onto out (with_predicates (members_of ms) g)
partners_pairs m (fails p ss) ms out is = chosen m p ss ms out is ∙ each_from (λ n. predicate_pair p ss n.formula) (members_of ms) out
partners_pairs m (equal t) ms out is = nothing_onto (just []) out refl
partners_pairs m (unequal t) ms out is = nothing_onto (just []) out refl
partners_pairs m (at_least t) ms out is = nothing_onto (just []) out refl
partners_pairs m (holds q ts) ms out is = nothing_onto (just []) out refl
partners_pairs m (differs q ts u) ms out is = nothing_onto (just []) out refl
partners_pairs m (conjunction fs) ms out is = nothing_onto (just []) out refl
partners_pairs m (disjunction fs) ms out is = nothing_onto (just []) out refl
partners_pairs m (universal f) ms out is = nothing_onto (just []) out refl
partners_pairs m (existential f) ms out is = nothing_onto (just []) out refl

all_pairs : {C : Type 0} (one : C → Member) (others : C → List Member) (xs : List C) (out : List Form)
    → each (λ (x : Member × Member). pair_at (form x.0.formula) (form x.1.formula)) (flat_map (λ x. partners (one x) (form (one x).formula) (others x)) xs) out ≡ each (λ x. with_predicates (members_of (others x)) (form (one x).formula)) xs out
all_pairs one others [] out = refl
all_pairs one others (x ∷ xs) out =
    let work = λ (y : Member × Member). pair_at (form y.0.formula) (form y.1.formula) in
    let rest = flat_map (λ y. partners (one y) (form (one y).formula) (others y)) xs in
    let here = with_predicates (members_of (others x)) (form (one x).formula) in
    each_append work (partners (one x) (form (one x).formula) (others x)) rest out
    ∙ ap (λ w. next w (λ fs. each work rest fs)) (partners_pairs (one x) (form (one x).formula) (others x) out refl)
    ∙ onto_next here (λ fs. each work rest fs) out ∙ (λ i. next here (λ ds. all_pairs one others xs (out ++ ds) i))

each_map : {C D : Type 0} (f : D → Traced (List Form)) (v : C → D) (xs : List C) (out : List Form) → each f (map v xs) out ≡ each (λ x. f (v x)) xs out
each_map f v [] out = refl
each_map f v (x ∷ xs) out = λ i. next (f (v x)) (λ ds. each_map f v xs (out ++ ds) i)

-- the pairs of those that are met are those of each negated predicate with each predicate
pub meetings_kept : (ms : List Member) (hs : List (Bor Member)) (xs : List Met) (out : List Form) → meetings_by hs xs ≡ meetings ms
    → each (λ x. with_predicates (members_of (behind (drop x.first hs))) (form x.failing.now.formula)) xs out ≡ each (λ m. with_predicates (members_of ms) m.formula) (members_of ms) out
meetings_kept ms hs xs out is =
    sym (all_pairs (λ (x : Met). x.failing.now) (λ (x : Met). behind (drop x.first hs)) xs out) ∙ ap (λ l. each (λ (x : Member × Member). pair_at (form x.0.formula) (form x.1.formula)) l out) is
    ∙ all_pairs (λ (m : Member). m) (λ (m : Member). ms) ms out ∙ sym (each_map (λ m. with_predicates (members_of ms) m.formula) member_of ms out)

-- one more that is met
pub met_pushed : (hs : List (Bor Member)) (old new : List Met) (x : Met) (p : ℕ) (ss same : List Linear) → new ≡ old ++ x ∷ [] → form x.failing.now.formula ≡ fails p ss → same ≡ ss
    → filter (λ h. meets p same (form h.formula)) (behind (drop x.first hs)) ≡ filter (λ h. meets p same (form h.formula)) (behind hs)
    → meetings_by hs new ≡ meetings_by hs old ++ partners x.failing.now (form x.failing.now.formula) (behind hs)
met_pushed hs old new x p ss same push is slice first =
    let m = x.failing.now in
    let all : partners m (fails p ss) (behind (drop x.first hs)) ≡ partners m (fails p ss) (behind hs) =
    ap (λ l. map (λ (h : Member). (m, h)) (filter (λ h. meets p l (form h.formula)) (behind (drop x.first hs)))) (sym slice) ∙ ap (map (λ (h : Member). (m, h))) first
    ∙ ap (λ l. map (λ (h : Member). (m, h)) (filter (λ h. meets p l (form h.formula)) (behind hs))) slice in
    ap (meetings_by hs) push ∙ flat_map-append (λ (y : Met). partners y.failing.now (form y.failing.now.formula) (behind (drop y.first hs))) old (x ∷ [])
    ∙ ap (λ l. meetings_by hs old ++ l)
    (append-nil (partners m (form m.formula) (behind (drop x.first hs))) ∙ ap (λ g. partners m g (behind (drop x.first hs))) is ∙ all ∙ ap (λ g. partners m g (behind hs)) (sym is))

-- a predicate meets none of those in which none holds
no_meeting : (p : ℕ) (ss : List Linear) (g : Form) → is_holding g ≡ false → meets p ss g ≡ false
no_meeting p ss (holds q ts) h = cc
no_meeting p ss (equal t) h = refl
no_meeting p ss (unequal t) h = refl
no_meeting p ss (at_least t) h = refl
no_meeting p ss (fails q ts) h = refl
no_meeting p ss (differs q ts u) h = refl
no_meeting p ss (conjunction fs) h = refl
no_meeting p ss (disjunction fs) h = refl
no_meeting p ss (universal f) h = refl
no_meeting p ss (existential f) h = refl

meeting_held : (p : ℕ) (ss : List Linear) (ms : List Member) → filter (λ h. meets p ss (form h.formula)) (among is_holding ms) ≡ filter (λ h. meets p ss (form h.formula)) ms
meeting_held p ss [] = refl
meeting_held p ss (m ∷ ms) = by (is_holding (form m.formula)) refl (meeting_held p ss ms)
  where
    by : (b : Bool) → is_holding (form m.formula) ≡ b → filter (λ h. meets p ss (form h.formula)) (among is_holding ms) ≡ filter (λ h. meets p ss (form h.formula)) ms
        → filter (λ h. meets p ss (form h.formula)) (cond b (m ∷ among is_holding ms) (among is_holding ms)) ≡ filter (λ h. meets p ss (form h.formula)) (m ∷ ms)
    by true h rest = ap (λ l. cond (meets p ss (form m.formula)) (m ∷ l) l) rest
    by false h rest = rest ∙ sym (ap (λ b. cond b (m ∷ filter (λ n. meets p ss (form n.formula)) ms) (filter (λ n. meets p ss (form n.formula)) ms)) (no_meeting p ss (form m.formula) h))

partners_held : (m : Member) (g : Form) (ms : List Member) → partners m g (among is_holding ms) ≡ partners m g ms
partners_held m (fails p ss) ms = ap (map (λ (h : Member). (m, h))) (meeting_held p ss ms)
partners_held m (equal t) ms = refl
partners_held m (unequal t) ms = refl
partners_held m (at_least t) ms = refl
partners_held m (holds q ts) ms = refl
partners_held m (differs q ts u) ms = refl
partners_held m (conjunction fs) ms = refl
partners_held m (disjunction fs) ms = refl
partners_held m (universal f) ms = refl
partners_held m (existential f) ms = refl

-- the meetings, looked for among the predicates that hold
pub meetings_held : (ms hs : List Member) → hs ≡ among is_holding ms → flat_map (λ m. partners m (form m.formula) hs) ms ≡ meetings ms
meetings_held ms hs is = ap (λ l. flat_map (λ m. partners m (form m.formula) l) ms) is ∙ (λ i. flat_map (λ m. partners_held m (form m.formula) ms i) ms)

-- the pure members, brought among all constants
pub pures_kept : (n : ℕ) (ms : List Member) → map (λ m. brought m.over n (form m.formula)) (among is_pure ms) ≡ pures n (members_of ms)
pures_kept n [] = refl
pures_kept n (m ∷ ms) = by (is_pure (form m.formula)) (pures_kept n ms)
  where
    by : (b : Bool) → map (λ (m : Member). brought m.over n (form m.formula)) (among is_pure ms) ≡ pures n (members_of ms)
        → map (λ (m : Member). brought m.over n (form m.formula)) (cond b (m ∷ among is_pure ms) (among is_pure ms)) ≡ cond b (brought m.over n (form m.formula) ∷ pures n (members_of ms)) (pures n (members_of ms))
    by true rest = ap (λ l. brought m.over n (form m.formula) ∷ l) rest
    by false rest = rest

-- what holds of all members holds of those of a kind
pub all_among : (P : Member → Type 0) (test : Form → Bool) (ms : List Member) → AllByRecursion P ms → AllByRecursion P (among test ms)
all_among P test [] h = tt
all_among P test (m ∷ ms) h = by (test (form m.formula)) (all_among P test ms h.1)
  where
    by : (b : Bool) → AllByRecursion P (among test ms) → AllByRecursion P (cond b (m ∷ among test ms) (among test ms))
    by true rest = (h.0, rest)
    by false rest = rest
