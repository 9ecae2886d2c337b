-- The pick of members with one more after them: the later member is picked where its rule comes first.
use Rattle.std.proofs.Common.{◌≡◌, ℕ, suc, Bool, true, false, cond, nat_lt, List, [], ◌∷◌, ◌++◌, length, Option, None, Some, refl, sym, ap, ◌∙◌}
use Rattle.sequent.specs.declared.member.Shape.{Shape}
use Rattle.sequent.specs.declared.member.Shape.TheVariants.{Trivial, Alpha, Delta, Beta, Gamma}
use Rattle.sequent.specs.declared.member.Pick.{Pick}
use Rattle.sequent.specs.declared.member.Pick.TheVariants as pick
use Rattle.sequent.specs.Sequent.{Member}
use Rattle.sequent.specs.Rules.{first_fit, fits, is_shape, or_else, at_place, picked, suc_place}
use Rattle.backlist.specs.declared.boxes.Pos.{Pos}
use Rattle.tree_branch.specs.Choosing.{better, rank}
use Rattle.tree_branch.specs.Standing.{rule_at, rule_of}
use Rattle.tree_branch.specs.declared.principal.Principal.{Principal}

-- ---- the first member that fits a rule
abbrev or_first : Option ℕ → Option ℕ → Option ℕ
or_first None o = o
or_first (Some i) o = Some i

suc_or : (o : Option ℕ) (b : Bool) (n : ℕ) → suc_place (or_first o (cond b (Some n) None)) ≡ or_first (suc_place o) (cond b (Some (suc n)) None)
suc_or None true n = refl
suc_or None false n = refl
suc_or (Some i) b n = refl

fit-append : (limit : ℕ) (k : Shape) (ms : List Member) (m : Member) → first_fit limit k (ms ++ m ∷ []) ≡ or_first (first_fit limit k ms) (cond (is_shape k (fits limit m)) (Some (length ms)) None)
fit-append limit k [] m = refl
fit-append limit k (x ∷ ms) m = by (is_shape k (fits limit x)) (fit-append limit k ms m)
  where
    by : (b : Bool) → first_fit limit k (ms ++ m ∷ []) ≡ or_first (first_fit limit k ms) (cond (is_shape k (fits limit m)) (Some (length ms)) None)
        → cond b (Some 0) (suc_place (first_fit limit k (ms ++ m ∷ []))) ≡ or_first (cond b (Some 0) (suc_place (first_fit limit k ms))) (cond (is_shape k (fits limit m)) (Some (suc (length ms))) None)
    by true rest = refl
    by false rest = ap suc_place rest ∙ suc_or (first_fit limit k ms) (is_shape k (fits limit m)) (length ms)

-- ---- the first rule
abbrev pick_by : Option ℕ → Option ℕ → Option ℕ → Option ℕ → Option ℕ → Pick
pick_by a b c d e = or_else (at_place pick.Trivial a) (or_else (at_place pick.Alpha b) (or_else (at_place pick.Delta c) (or_else (at_place pick.Beta d) (or_else (at_place pick.Gamma e) pick.Close))))

abbrev rank_of : Pick → ℕ
rank_of (pick.Trivial i) = 0
rank_of (pick.Alpha i) = 1
rank_of (pick.Delta i) = 2
rank_of (pick.Beta i) = 3
rank_of (pick.Gamma i) = 4
rank_of pick.Close = 5

abbrev first_of : Pick → Option Shape → ℕ → Pick
first_of p None n = p
first_of p (Some k) n = cond (nat_lt (rank k) (rank_of p)) (rule_at k n) p

-- the picks with the place n for the rules that o fits
abbrev with_place : Option Shape → ℕ → Option ℕ → Option ℕ → Option ℕ → Option ℕ → Option ℕ → Pick
with_place o n a b c d e =
    pick_by (or_first a (cond (is_shape Trivial o) (Some n) None)) (or_first b (cond (is_shape Alpha o) (Some n) None)) (or_first c (cond (is_shape Delta o) (Some n) None)) (or_first d (cond (is_shape Beta o) (Some n) None))
    (or_first e (cond (is_shape Gamma o) (Some n) None))

placed : (o : Option Shape) (n : ℕ) (a b c d e : Option ℕ) → with_place o n a b c d e ≡ first_of (pick_by a b c d e) o n
placed None n (Some i) b c d e = refl
placed None n None (Some i) c d e = refl
placed None n None None (Some i) d e = refl
placed None n None None None (Some i) e = refl
placed None n None None None None (Some i) = refl
placed None n None None None None None = refl
placed (Some Trivial) n (Some i) b c d e = refl
placed (Some Trivial) n None (Some i) c d e = refl
placed (Some Trivial) n None None (Some i) d e = refl
placed (Some Trivial) n None None None (Some i) e = refl
placed (Some Trivial) n None None None None (Some i) = refl
placed (Some Trivial) n None None None None None = refl
placed (Some Alpha) n (Some i) b c d e = refl
placed (Some Alpha) n None (Some i) c d e = refl
placed (Some Alpha) n None None (Some i) d e = refl
placed (Some Alpha) n None None None (Some i) e = refl
placed (Some Alpha) n None None None None (Some i) = refl
placed (Some Alpha) n None None None None None = refl
placed (Some Delta) n (Some i) b c d e = refl
placed (Some Delta) n None (Some i) c d e = refl
placed (Some Delta) n None None (Some i) d e = refl
placed (Some Delta) n None None None (Some i) e = refl
placed (Some Delta) n None None None None (Some i) = refl
placed (Some Delta) n None None None None None = refl
placed (Some Beta) n (Some i) b c d e = refl
placed (Some Beta) n None (Some i) c d e = refl
placed (Some Beta) n None None (Some i) d e = refl
placed (Some Beta) n None None None (Some i) e = refl
placed (Some Beta) n None None None None (Some i) = refl
placed (Some Beta) n None None None None None = refl
placed (Some Gamma) n (Some i) b c d e = refl
placed (Some Gamma) n None (Some i) c d e = refl
placed (Some Gamma) n None None (Some i) d e = refl
placed (Some Gamma) n None None None (Some i) e = refl
placed (Some Gamma) n None None None None (Some i) = refl
placed (Some Gamma) n None None None None None = refl

picked-append : (limit : ℕ) (ms : List Member) (m : Member) → picked limit (ms ++ m ∷ []) ≡ first_of (picked limit ms) (fits limit m) (length ms)
picked-append limit ms m =
    (λ i. pick_by (fit-append limit Trivial ms m i) (fit-append limit Alpha ms m i) (fit-append limit Delta ms m i) (fit-append limit Beta ms m i) (fit-append limit Gamma ms m i))
    ∙ placed (fits limit m) (length ms) (first_fit limit Trivial ms) (first_fit limit Alpha ms) (first_fit limit Delta ms) (first_fit limit Beta ms) (first_fit limit Gamma ms)

-- ---- the better principal
rank_is : (k : Shape) (i : ℕ) → rank_of (rule_at k i) ≡ rank k
rank_is Trivial i = refl
rank_is Alpha i = refl
rank_is Delta i = refl
rank_is Beta i = refl
rank_is Gamma i = refl

first_found : (k : Shape) (i : ℕ) → rule_at k i ≡ first_of pick.Close (Some k) i
first_found Trivial i = refl
first_found Alpha i = refl
first_found Delta i = refl
first_found Beta i = refl
first_found Gamma i = refl

rule_better : (best : Option Principal) (o : Option Shape) (i : ℕ) (p : Pos) → rule_of (better best o i p) ≡ first_of (rule_of best) o i
rule_better None None i p = refl
rule_better (Some b) None i p = refl
rule_better None (Some k) i p = first_found k i
rule_better (Some b) (Some k) i p = by (nat_lt (rank k) (rank b.shape)) ∙ ap (λ r. cond (nat_lt (rank k) r) (rule_at k i) (rule_at b.shape b.index)) (sym (rank_is b.shape b.index))
  where
    by : (t : Bool) → rule_of (cond t (Some (record { shape = k; index = i; at = p })) (Some b)) ≡ cond t (rule_at k i) (rule_at b.shape b.index)
    by true = refl
    by false = refl

-- the better of the pick so far and of the member after
pub picks_better : (limit : ℕ) (ms : List Member) (m : Member) (best : Option Principal) (i : ℕ) (p : Pos) → rule_of best ≡ picked limit ms → length ms ≡ i
    → rule_of (better best (fits limit m) i p) ≡ picked limit (ms ++ m ∷ [])
picks_better limit ms m best i p is count =
    rule_better best (fits limit m) i p ∙ (λ j. first_of (is j) (fits limit m) (sym count j)) ∙ sym (picked-append limit ms m)
