-- Members of other kinds have no pairs, so they add nothing to the size of the pairs.
use Rattle.std.proofs.Common.{◌≡◌, ℕ, ◌+◌, Bool, true, false, cond, List, [], ◌∷◌, ◌++◌, drop, map, filter, length, refl, sym, ap, ◌∙◌, arith}
use Rattle.std.specs.List.{flat_map}
use Rattle.linear_term.specs.Linear.{Linear}
use Rattle.formula.specs.Form.{Form, equal, unequal, at_least, holds, fails, differs, conjunction, disjunction, universal, existential, is_pure}
use Rattle.formula.specs.Sizes.{size}
use Rattle.formula.specs.Tree.{form}
use Rattle.sequent.specs.Sequent as q
use Rattle.sequent.specs.declared.member.Member.{Member}
use Rattle.sequent.specs.Views.{member_of, members_of}
use Rattle.pred_unify.specs.Reading.{among, behind, is_differing, meetings, meetings_by, meets, partners}
use Rattle.pred_unify.specs.declared.leaf.Met.{Met}
use Rattle.std.specs.Borrow.{Bor}
use Rattle.tree_branch.specs.Pairing.{sum_of, predicate_pair_size, function_pair_size, with_predicates_size, with_functions_size, function_pairs_size, pure_size}

-- what adds nothing at the members that are left out adds up to the same over those that are kept
sum_kept : (f : q.Member → ℕ) (test : Member → Bool) → ((m : Member) → test m ≡ false → f (member_of m) ≡ 0) → (ms : List Member) → sum_of f (members_of (filter test ms)) ≡ sum_of f (members_of ms)
sum_kept f test none [] = refl
sum_kept f test none (m ∷ ms) = by (test m) refl (sum_kept f test none ms)
  where
    by : (b : Bool) → test m ≡ b → sum_of f (members_of (filter test ms)) ≡ sum_of f (members_of ms) → sum_of f (members_of (cond b (m ∷ filter test ms) (filter test ms))) ≡ sum_of f (members_of (m ∷ ms))
    by true h rest = ap (λ n. f (member_of m) + n) rest
    by false h rest = let no = none m h in omega (arith, no, rest)

sum_append : {A : Type 0} (f : A → ℕ) (xs ys : List A) → sum_of f (xs ++ ys) ≡ sum_of f xs + sum_of f ys
sum_append f [] ys = omega arith
sum_append f (x ∷ xs) ys = let rest = sum_append f xs ys in omega (arith, rest)

-- a predicate has no pair with what it does not meet
not_met : (p : ℕ) (ss : List Linear) (g : Form) → meets p ss g ≡ false → predicate_pair_size p ss g ≡ 0
not_met p ss (holds q ts) h = ap (λ b. cond b (1 + length ss) 0) h
not_met p ss (equal t) h = refl
not_met p ss (unequal t) h = refl
not_met p ss (at_least t) h = refl
not_met p ss (fails q ts) h = refl
not_met p ss (differs q ts u) h = refl
not_met p ss (conjunction fs) h = refl
not_met p ss (disjunction fs) h = refl
not_met p ss (universal f) h = refl
not_met p ss (existential f) h = refl

-- the size of the pair of a negated predicate and a predicate
abbrev meeting_size : Form → Form → ℕ
meeting_size (fails p ss) g = predicate_pair_size p ss g
meeting_size (equal t) g = 0
meeting_size (unequal t) g = 0
meeting_size (at_least t) g = 0
meeting_size (holds q ts) g = 0
meeting_size (differs q ts u) g = 0
meeting_size (conjunction fs) g = 0
meeting_size (disjunction fs) g = 0
meeting_size (universal f) g = 0
meeting_size (existential f) g = 0

-- the pairs of a negated predicate with those that it meets are all its pairs
chosen : (m : Member) (p : ℕ) (ss : List Linear) (ms : List Member) → form m.formula ≡ fails p ss
    → sum_of (λ (x : Member × Member). meeting_size (form x.0.formula) (form x.1.formula)) (map (λ h. (m, h)) (filter (λ h. meets p ss (form h.formula)) ms)) ≡ sum_of (λ n. predicate_pair_size p ss n.formula) (members_of ms)
chosen m p ss [] is = refl
chosen m p ss (h ∷ ms) is = by (meets p ss (form h.formula)) refl (chosen m p ss ms is)
  where
    by : (b : Bool) → meets p ss (form h.formula) ≡ b
        → sum_of (λ (x : Member × Member). meeting_size (form x.0.formula) (form x.1.formula)) (map (λ n. (m, n)) (filter (λ n. meets p ss (form n.formula)) ms)) ≡ sum_of (λ n. predicate_pair_size p ss n.formula) (members_of ms)
        → sum_of (λ (x : Member × Member). meeting_size (form x.0.formula) (form x.1.formula)) (map (λ n. (m, n)) (cond b (h ∷ filter (λ n. meets p ss (form n.formula)) ms) (filter (λ n. meets p ss (form n.formula)) ms)))
        ≡ predicate_pair_size p ss (form h.formula) + sum_of (λ n. predicate_pair_size p ss n.formula) (members_of ms)
    by true met rest = λ i. meeting_size (is i) (form h.formula) + rest i
    by false met rest = let no = not_met p ss (form h.formula) met in omega (arith, no, rest)

partners_size : (m : Member) (g : Form) (ms : List Member) → form m.formula ≡ g
    → sum_of (λ (x : Member × Member). meeting_size (form x.0.formula) (form x.1.formula)) (partners m g ms) ≡ with_predicates_size (members_of ms) g
partners_size m (fails p ss) ms is = chosen m p ss ms is
partners_size m (equal t) ms is = refl
partners_size m (unequal t) ms is = refl
partners_size m (at_least t) ms is = refl
partners_size m (holds q ts) ms is = refl
partners_size m (differs q ts u) ms is = refl
partners_size m (conjunction fs) ms is = refl
partners_size m (disjunction fs) ms is = refl
partners_size m (universal f) ms is = refl
partners_size m (existential f) ms is = refl

all_sizes : {C : Type 0} (one : C → Member) (others : C → List Member) (xs : List C)
    → sum_of (λ (x : Member × Member). meeting_size (form x.0.formula) (form x.1.formula)) (flat_map (λ x. partners (one x) (form (one x).formula) (others x)) xs) ≡ sum_of (λ x. with_predicates_size (members_of (others x)) (form (one x).formula)) xs
all_sizes one others [] = refl
all_sizes one others (x ∷ xs) =
    let rest = flat_map (λ y. partners (one y) (form (one y).formula) (others y)) xs in
    sum_append (λ (y : Member × Member). meeting_size (form y.0.formula) (form y.1.formula)) (partners (one x) (form (one x).formula) (others x)) rest
    ∙ (λ i. partners_size (one x) (form (one x).formula) (others x) refl i + all_sizes one others xs i)

sum_map : {C D : Type 0} (f : D → ℕ) (v : C → D) (xs : List C) → sum_of f (map v xs) ≡ sum_of (λ x. f (v x)) xs
sum_map f v [] = refl
sum_map f v (x ∷ xs) = ap (λ n. f (v x) + n) (sum_map f v xs)

-- the pairs of those that are met are those of each negated predicate with each predicate
pub meetings_kept : (ms : List Member) (hs : List (Bor Member)) (xs : List Met) → meetings_by hs xs ≡ meetings ms
    → sum_of (λ x. with_predicates_size (members_of (behind (drop x.first hs))) (form x.failing.now.formula)) xs ≡ sum_of (λ m. with_predicates_size (members_of ms) m.formula) (members_of ms)
meetings_kept ms hs xs is =
    sym (all_sizes (λ (x : Met). x.failing.now) (λ (x : Met). behind (drop x.first hs)) xs) ∙ ap (sum_of (λ (x : Member × Member). meeting_size (form x.0.formula) (form x.1.formula))) is
    ∙ all_sizes (λ (m : Member). m) (λ (m : Member). ms) ms ∙ sym (sum_map (λ m. with_predicates_size (members_of ms) m.formula) member_of ms)

pures_all : (ms : List Member) → sum_of (λ m. size m.formula) (members_of (among is_pure ms)) ≡ sum_of pure_size (members_of ms)
pures_all [] = refl
pures_all (m ∷ ms) = by (is_pure (form m.formula)) (pures_all ms)
  where
    by : (b : Bool) → sum_of (λ m. size m.formula) (members_of (among is_pure ms)) ≡ sum_of pure_size (members_of ms)
        → sum_of (λ m. size m.formula) (members_of (cond b (m ∷ among is_pure ms) (among is_pure ms))) ≡ cond b (size (form m.formula)) 0 + sum_of pure_size (members_of ms)
    by true rest = ap (λ n. size (form m.formula) + n) rest
    by false rest = omega (arith, rest)

-- the pure members are those with a size
pub pures_kept : (ms ps : List Member) → ps ≡ among is_pure ms → sum_of (λ m. size m.formula) (members_of ps) ≡ sum_of pure_size (members_of ms)
pures_kept ms ps is = ap (λ l. sum_of (λ m. size m.formula) (members_of l)) is ∙ pures_all ms

no_value : (f : ℕ) (ss : List Linear) (g : Form) → is_differing g ≡ false → function_pair_size f ss g ≡ 0
no_value f ss (differs q ts v) h = absurd (cc)
no_value f ss (equal t) h = refl
no_value f ss (unequal t) h = refl
no_value f ss (at_least t) h = refl
no_value f ss (holds q ts) h = refl
no_value f ss (fails q ts) h = refl
no_value f ss (conjunction fs) h = refl
no_value f ss (disjunction fs) h = refl
no_value f ss (universal g) h = refl
no_value f ss (existential g) h = refl

no_values : (ms : List q.Member) (g : Form) → is_differing g ≡ false → with_functions_size ms g ≡ 0
no_values ms (differs q ts v) h = absurd (cc)
no_values ms (equal t) h = refl
no_values ms (unequal t) h = refl
no_values ms (at_least t) h = refl
no_values ms (holds q ts) h = refl
no_values ms (fails q ts) h = refl
no_values ms (conjunction fs) h = refl
no_values ms (disjunction fs) h = refl
no_values ms (universal g) h = refl
no_values ms (existential g) h = refl

with_differing : (ms : List Member) (g : Form) → with_functions_size (members_of (among is_differing ms)) g ≡ with_functions_size (members_of ms) g
with_differing ms (differs f ss u) = sum_kept (λ m. function_pair_size f ss m.formula) (λ m. is_differing (form m.formula)) (λ m. no_value f ss (form m.formula)) ms
with_differing ms (equal t) = refl
with_differing ms (unequal t) = refl
with_differing ms (at_least t) = refl
with_differing ms (holds q ts) = refl
with_differing ms (fails q ts) = refl
with_differing ms (conjunction fs) = refl
with_differing ms (disjunction fs) = refl
with_differing ms (universal f) = refl
with_differing ms (existential f) = refl

values_all : (ms : List Member) → function_pairs_size (members_of (among is_differing ms)) ≡ function_pairs_size (members_of ms)
values_all [] = refl
values_all (m ∷ ms) = by (is_differing (form m.formula)) refl (values_all ms)
  where
    by : (b : Bool) → is_differing (form m.formula) ≡ b → function_pairs_size (members_of (among is_differing ms)) ≡ function_pairs_size (members_of ms) → function_pairs_size (members_of (cond b (m ∷ among is_differing ms) (among is_differing ms))) ≡ function_pairs_size (members_of (m ∷ ms))
    by true h rest = λ i. with_differing ms (form m.formula) i + rest i
    by false h rest = let no = no_values (members_of ms) (form m.formula) h in omega (arith, no, rest)

pub values_kept : (ms ds : List Member) → ds ≡ among is_differing ms → function_pairs_size (members_of ds) ≡ function_pairs_size (members_of ms)
values_kept ms ds is = ap (λ l. function_pairs_size (members_of l)) is ∙ values_all ms
