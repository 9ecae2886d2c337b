-- The canonical trees of a formula without a `some` over an application have no gamma node, and leave none after.
use Rattle.std.proofs.Common.{◌≡◌, ℕ, zero, suc, ◌-◌, ℤ, Bool, true, false, cond, not, ◌&&◌, ◌||◌, List, [], ◌∷◌, ◌++◌, map, Option, Some, None, refl, sym, ◌∙◌, ap}
use Rattle.std.specs.List.{AllByRecursion, list_any, remove, slice_get}
use Rattle.base_budget.specs.Trace.{just, step, next}
use Rattle.base_budget.specs.declared.log.Entry.{Entry}
use Rattle.clause_set.specs.declared.literal.Literal.{Literal}
use Rattle.formula.specs.Form.{Form, Forms, is_pure, are_pure, equal, unequal, at_least, holds, fails, differs, conjunction, disjunction, universal, existential, no_form, and_form}
use Rattle.formula.specs.Shifts.{shifted, all_shifted}
use Rattle.formula.proofs.Sameness.{pure_shifted}
use Rattle.sequent.specs.declared.member.Pick.{Pick}
use Rattle.sequent.specs.declared.member.Pick.TheVariants as pick
use Rattle.sequent.specs.Leaf.{is_open}
use Rattle.sequent.specs.Rules.{brought, new_members, one_each, place, premises_at, premises_by, premises_of}
use Rattle.sequent.specs.Sequent.{Member, Sequent, member, sequent}
use Rattle.sequent.proofs.Members.{all_append, all_at, all_remove}
use Rattle.solve_laws.specs.Solutions.{solving}
use Rattle.base_limits.specs.Limits.{branch_limit}
use Rattle.proof_tree.specs.Gives.{AreGiven, Gives}
use Rattle.proof_tree.specs.Proof.{Proof, Proofs, node, no_proof, and_proof, given}
use Rattle.proof_tree.specs.Proves.{start}
use Rattle.search.specs.Building.{built}
use Rattle.search.specs.Run.{RunAnswer, concluded, has_open_leaf, have_open_leaf, judged, one_round}
use Rattle.search.proofs.Retracing.{retraced}
use Rattle.model_runs.specs.Somes.{HasNoGamma, HasPureSomes, HaveNoGamma, HavePureSomes}
use Rattle.model_runs.proofs.Picked.{ArePicked, IsPicked, built_picked, opens_at, picked_opens}

both : (a b : Bool) → (a && b) ≡ true → (a ≡ true) × (b ≡ true)
both true b h = (refl, h)
both false b h = absurd (cc)

clash : {b : Bool} → b ≡ true → b ≡ false → ⊥
clash h k = absurd (let z : true ≡ false = sym h ∙ k in cc)

mutual
  pure_somes : (f : Form) → is_pure f ≡ true → HasPureSomes f
  pure_somes (equal t) h = tt
  pure_somes (unequal t) h = tt
  pure_somes (at_least t) h = tt
  pure_somes (holds p ts) h = tt
  pure_somes (fails p ts) h = tt
  pure_somes (differs f ts u) h = tt
  pure_somes (conjunction fs) h = all_pure_somes fs h
  pure_somes (disjunction fs) h = all_pure_somes fs h
  pure_somes (universal f) h = pure_somes f h
  pure_somes (existential f) h = h

  all_pure_somes : (fs : Forms) → are_pure fs ≡ true → HavePureSomes fs
  all_pure_somes no_form h = tt
  all_pure_somes (and_form f fs) h = let p = both (is_pure f) (are_pure fs) h in (pure_somes f p.0, all_pure_somes fs p.1)

mutual
  shifted_somes : (n k : ℕ) (f : Form) → HasPureSomes f → HasPureSomes (shifted n k f)
  shifted_somes n k (equal t) h = tt
  shifted_somes n k (unequal t) h = tt
  shifted_somes n k (at_least t) h = tt
  shifted_somes n k (holds p ts) h = tt
  shifted_somes n k (fails p ts) h = tt
  shifted_somes n k (differs f ts u) h = tt
  shifted_somes n k (conjunction fs) h = all_shifted_somes n k fs h
  shifted_somes n k (disjunction fs) h = all_shifted_somes n k fs h
  shifted_somes n k (universal f) h = shifted_somes n k f h
  shifted_somes n k (existential f) h = pure_shifted n k f ∙ h

  all_shifted_somes : (n k : ℕ) (fs : Forms) → HavePureSomes fs → HavePureSomes (all_shifted n k fs)
  all_shifted_somes n k no_form h = tt
  all_shifted_somes n k (and_form f fs) h = (shifted_somes n k f h.0, all_shifted_somes n k fs h.1)

-- ---- sequents
abbrev IsSome : Member → Type 0
IsSome m = HasPureSomes m.formula

abbrev AllSome : Sequent → Type 0
AllSome s = AllByRecursion (λ m. HasPureSomes m.formula) s.members

brought_somes : (over n : ℕ) (f : Form) → HasPureSomes f → HasPureSomes (brought over n f)
brought_somes over n f h = shifted_somes over (n - over) f h

new_somes : (over n : ℕ) (fs : Forms) → HavePureSomes fs → AllByRecursion IsSome (new_members over n fs)
new_somes over n no_form h = tt
new_somes over n (and_form f fs) h = (brought_somes over n f h.0, new_somes over n fs h.1)

each_somes : (rest : List Member) (n over : ℕ) (fs : Forms) → AllByRecursion IsSome rest → HavePureSomes fs → AllByRecursion AllSome (map (λ new. sequent (rest ++ new) n) (one_each (new_members over n fs)))
each_somes rest n over no_form r h = tt
each_somes rest n over (and_form f fs) r h =
    (all_append IsSome rest (member (brought over n f) n 0 ∷ []) r (brought_somes over n f h.0, tt), each_somes rest n over fs r h.1)

premises_somes : (s : Sequent) (i over used : ℕ) (f : Form) → HasPureSomes f → AllByRecursion IsSome (remove s.members i) → AllByRecursion AllSome (premises_at s i (Some (member f over used)))
premises_somes s i over used (conjunction fs) h r = each_somes (remove s.members i) s.count over fs r h
premises_somes s i over used (disjunction fs) h r = (all_append IsSome (remove s.members i) (new_members over s.count fs) r (new_somes over s.count fs h), tt)
premises_somes s i over used (universal f) h r = (all_append IsSome (remove s.members i) (member (brought over s.count f) (suc s.count) 0 ∷ []) r (brought_somes over s.count f h, tt), tt)
premises_somes s i over used (existential f) h r =
    (all_append IsSome (remove s.members i) (member (brought over s.count f) (suc s.count) 0 ∷ member (existential f) over (suc used) ∷ []) r (brought_somes over s.count f (pure_somes f h), (h, tt)), tt)
premises_somes s i over used (equal t) h r = tt
premises_somes s i over used (unequal t) h r = tt
premises_somes s i over used (at_least t) h r = tt
premises_somes s i over used (holds p ts) h r = tt
premises_somes s i over used (fails p ts) h r = tt
premises_somes s i over used (differs p ts u) h r = tt

somes_at : (s : Sequent) (i : ℕ) (o : Option Member) → slice_get s.members i ≡ o → AllSome s → AllByRecursion AllSome (premises_at s i o)
somes_at s i None is h = tt
somes_at s i (Some m) is h = premises_somes s i m.over m.used m.formula (all_at IsSome s.members i m is h) (all_remove IsSome s.members i h)

somes_by : (s : Sequent) (o : Option ℕ) → AllSome s → AllByRecursion AllSome (premises_by s o)
somes_by s None h = tt
somes_by s (Some i) h = somes_at s i (slice_get s.members i) refl h

-- gamma could take none of them
not_open : (f : Form) → HasPureSomes f → is_open f ≡ false
not_open (equal t) h = refl
not_open (unequal t) h = refl
not_open (at_least t) h = refl
not_open (holds p ts) h = refl
not_open (fails p ts) h = refl
not_open (differs f ts u) h = refl
not_open (conjunction fs) h = refl
not_open (disjunction fs) h = refl
not_open (universal f) h = refl
not_open (existential f) h = ap not h

none_opens : (ms : List Member) → AllByRecursion IsSome ms → list_any (λ m. is_open m.formula) ms ≡ false
none_opens [] h = refl
none_opens (m ∷ ms) h = ap (λ b. b || list_any (λ m. is_open m.formula) ms) (not_open m.formula h.0) ∙ none_opens ms h.1

no_opens_at : (ms : List Member) (i : ℕ) → AllByRecursion IsSome ms → opens_at (slice_get ms i) ≡ true → ⊥
no_opens_at [] i h k = absurd (cc)
no_opens_at (m ∷ ms) zero h k = clash k (not_open m.formula h.0)
no_opens_at (m ∷ ms) (suc i) h k = no_opens_at ms i h.1 k

-- ---- trees
mutual
  no_gammas : (limit : ℕ) (s : Sequent) (x : Proof) → AllSome s → Gives s x → IsPicked limit s x → HasNoGamma x
  no_gammas limit s (node (pick.Trivial i) ns log d) h g k = (tt, all_no_gammas limit (premises_of s (pick.Trivial i)) ns (somes_by s (place (pick.Trivial i)) h) g.1 k.1)
  no_gammas limit s (node (pick.Alpha i) ns log d) h g k = (tt, all_no_gammas limit (premises_of s (pick.Alpha i)) ns (somes_by s (place (pick.Alpha i)) h) g.1 k.1)
  no_gammas limit s (node (pick.Delta i) ns log d) h g k = (tt, all_no_gammas limit (premises_of s (pick.Delta i)) ns (somes_by s (place (pick.Delta i)) h) g.1 k.1)
  no_gammas limit s (node (pick.Beta i) ns log d) h g k = (tt, all_no_gammas limit (premises_of s (pick.Beta i)) ns (somes_by s (place (pick.Beta i)) h) g.1 k.1)
  no_gammas limit s (node (pick.Gamma i) ns log d) h g k = absurd (no_opens_at s.members i h (picked_opens limit s.members i (sym k.0)))
  no_gammas limit s (node pick.Close ns log d) h g k = (tt, all_no_gammas limit (premises_of s pick.Close) ns (somes_by s (place pick.Close) h) g.1 k.1)

  all_no_gammas : (limit : ℕ) (ss : List Sequent) (ns : Proofs) → AllByRecursion AllSome ss → AreGiven ss ns → ArePicked limit ss ns → HaveNoGamma ns
  all_no_gammas limit [] no_proof h g k = tt
  all_no_gammas limit [] (and_proof x xs) h g k = absurd g
  all_no_gammas limit (s ∷ ss) no_proof h g k = tt
  all_no_gammas limit (s ∷ ss) (and_proof x xs) h g k = (no_gammas limit s x h.0 g.0 k.0, all_no_gammas limit ss xs h.1 g.1 k.1)

leaf_or_below : (s : Sequent) (p : Pick) (ns : Proofs) (log : List Entry) (d : List (List Literal)) → list_any (λ m. is_open m.formula) s.members ≡ false → have_open_leaf (premises_of s p) ns ≡ false
    → has_open_leaf s (node p ns log d) ≡ false
leaf_or_below s p no_proof log d h k = h
leaf_or_below s p (and_proof x xs) log d h k = k

mutual
  pub no_open_leaf : (s : Sequent) (x : Proof) → AllSome s → has_open_leaf s x ≡ false
  no_open_leaf s (node p ns log d) h = leaf_or_below s p ns log d (none_opens s.members h) (no_open_leaves (premises_of s p) ns (somes_by s (place p) h))

  no_open_leaves : (ss : List Sequent) (ns : Proofs) → AllByRecursion AllSome ss → have_open_leaf ss ns ≡ false
  no_open_leaves [] ns h = refl
  no_open_leaves (s ∷ ss) no_proof h = refl
  no_open_leaves (s ∷ ss) (and_proof x xs) h = λ i. no_open_leaf s x h.0 i || no_open_leaves ss xs h.1 i

-- the trees of a search
pub built_no_gamma : (limit left n : ℕ) (s : Sequent) (x : Proof) → AllByRecursion (λ m. HasPureSomes m.formula) s.members → (built limit left n s).value ≡ Some x → HasNoGamma x
built_no_gamma limit left n s x h e = no_gammas limit s x h (retraced limit left n s x e).gives (built_picked limit left n s x e)

-- each round has an answer
answer_there : (b o : Bool) (a c : RunAnswer) → o ≡ false → cond b (Some a) (cond o None (Some c)) ≡ None → ⊥
answer_there true o a c is e = absurd (cc)
answer_there false true a c is e = absurd (cc)
answer_there false false a c is e = absurd (cc)

some_answer : (f : Form) (n : ℕ) (x : Proof) → HasPureSomes f → (a : Option (List ℤ)) → concluded f n x a ≡ None → ⊥
some_answer f n x h (Some vs) e = absurd (cc)
some_answer f n x h None e = answer_there (is_pure f) (has_open_leaf (start f n) x) _ _ (no_open_leaf (start f n) x (h, tt)) e

pub one_round_ends : (f : Form) (n k : ℕ) → HasPureSomes f → (one_round f n k).value ≡ None → ⊥
unfolding next just step
one_round_ends f n k h e = by (built k branch_limit 0 (start f n)).value e
  where
    by : (o : Option Proof) → (judged f n o).value ≡ None → ⊥
    by None e = absurd (cc)
    by (Some x) e = some_answer f n x h (solving n (given x)).value e
