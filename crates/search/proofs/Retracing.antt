-- The canonical tree gives its constraint, and the walk over it is the work of building it: the same events in the same order.
use Rattle.std.proofs.Common.{◌≡◌, ℕ, suc, zero, ◌+◌, Bool, true, false, cond, List, [], ◌∷◌, ◌++◌, map, refl, sym, ◌∙◌, ap, subst, append_assoc, Option, Some, None}
use Rattle.std.proofs.lemmas.List.{append-nil}
use Rattle.base_budget.specs.declared.log.Entry.{Entry}
use Rattle.base_budget.specs.Trace.{enter, back, charge, mark, Traced, just, step, next, pay}
use Rattle.clause_set.specs.declared.literal.Literal.{Literal}
use Rattle.elim_laws.specs.Logs.{by_whole_log, entries_of}
use Rattle.elim_laws.proofs.Wholes.{whole_does}
use Rattle.sequent.specs.declared.member.Pick.{Pick}
use Rattle.sequent.specs.Rules.{picked, premises_of}
use Rattle.sequent.specs.Sequent.{Sequent}
use Rattle.sequent.proofs.Firsts.{picked_applies}
use Rattle.proof_tree.specs.Gives.{AreGiven, Gives}
use Rattle.proof_tree.specs.Proof.{Proof, Proofs, node, given, all_given, proofs}
use Rattle.proof_tree.specs.Rules.{constraint_by}
use Rattle.proof_tree.specs.Walk.{all_walked, confirmed, fee, fits, in_new_log, is_same, left_at, nodes_in, on_some, redone, walked}
use Rattle.proof_tree.proofs.Walking.{all_gives_walked, gives_fits, gives_walked, some_then, then_some, value-on_some, value-redone}
use Rattle.search.specs.Building.{all_built, built, canonical_constraint, entered, finished}
use Rattle.search.proofs.Making.{redone_is, rule_does}

all_given_proofs : (xs : List Proof) → all_given (proofs xs) ≡ map given xs
all_given_proofs [] = refl
all_given_proofs (x ∷ xs) = ap (λ ds. given x ∷ ds) (all_given_proofs xs)

on_some_events : {A B : Type 0} (f : A → Traced (Option B)) (o : Option A) (a : A) → o ≡ Some a → (on_some f o).events ≡ (f a).events
on_some_events f o a e = ap (λ z. (on_some f z).events) e

no_more_events : (d c : List (List Literal)) → (confirmed d c).events ≡ []
unfolding just
no_more_events d c = by_same (is_same c d)
  where
    by_same : (b : Bool) → (cond b (just (Some d)) (just None)).events ≡ []
    by_same true = refl
    by_same false = refl

-- the events of a walk over a node that fits
events-walked : (n : ℕ) (s : Sequent) (p : Pick) (ns : Proofs) (log : List Entry) (d : List (List Literal)) (ds : List (List (List Literal))) (c : List (List Literal))
    → fits s p ns log ≡ true → (all_walked (n + 1) (premises_of s p) ns []).value ≡ Some ds → (redone s p ds log).value ≡ Some c
    → (walked n s (node p ns log d)).events
    ≡ mark (enter n) ∷ charge (fee s p) ∷ ((all_walked (n + 1) (premises_of s p) ns []).events ++ (mark (back n) ∷ ((redone s p ds log).events ++ [])))
unfolding next step
events-walked n s p ns log d ds c f a r =
    let w = all_walked (n + 1) (premises_of s p) ns [] in
    ap (λ b. mark (enter n) ∷ (cond b (next (pay (fee s p)) (λ _. next w (on_some (left_at n s p log d)))) (just None)).events) f
    ∙ ap (λ z. mark (enter n) ∷ charge (fee s p) ∷ (w.events ++ z))
    (on_some_events (left_at n s p log d) w.value ds a
    ∙ ap (λ z. mark (back n) ∷ ((redone s p ds log).events ++ z)) (on_some_events (confirmed d) (redone s p ds log).value c r ∙ no_more_events d c))

events-built : (f : ℕ → Sequent → Traced (Option Proof)) (n : ℕ) (s : Sequent) (p : Pick) (xs : List Proof) → (all_built f (n + 1) (premises_of s p) []).value ≡ Some xs
    → (entered f n s p).events
    ≡ mark (enter n) ∷ charge (fee s p) ∷ ((all_built f (n + 1) (premises_of s p) []).events ++ (mark (back n) ∷ ((in_new_log (canonical_constraint s p (map given xs))).events ++ [])))
unfolding next step just
events-built f n s p xs a =
    let b = all_built f (n + 1) (premises_of s p) [] in
    ap (λ z. mark (enter n) ∷ charge (fee s p) ∷ (b.events ++ z)) (on_some_events (finished n s p) b.value xs a)

pub value-built : (f : ℕ → Sequent → Traced (Option Proof)) (n : ℕ) (s : Sequent) (p : Pick)
    → (entered f n s p).value
    ≡ then_some (all_built f (n + 1) (premises_of s p) []).value
    (λ xs. Some (node p (proofs xs) (entries_of (canonical_constraint s p (map given xs)).events) (canonical_constraint s p (map given xs)).value))
unfolding next step just
value-built f n s p = value-on_some (finished n s p) (all_built f (n + 1) (premises_of s p) []).value

-- the events of redoing what was made
events-redone : (s : Sequent) (p : Pick) (ds : List (List (List Literal))) → (redone s p ds (entries_of (canonical_constraint s p ds).events)).events ≡ (in_new_log (canonical_constraint s p ds)).events
unfolding next just
events-redone s p ds = ap (λ w. w.events) (redone_is s p ds) ∙ append-nil (in_new_log (canonical_constraint s p ds)).events

made_gives : (s : Sequent) (p : Pick) (ds : List (List (List Literal))) → (by_whole_log (constraint_by s p ds) (entries_of (canonical_constraint s p ds).events)).value ≡ Some (canonical_constraint s p ds).value
unfolding next just
made_gives s p ds = ap (λ w. w.value) (whole_does (constraint_by s p ds) (canonical_constraint s p ds) (rule_does s p ds))

-- the tree gives its constraint, and the walk over it does the work
pub record Retraced (n : ℕ) (s : Sequent) (x : Proof) (work : Traced (Option Proof)) : Type 0 where
  pub gives : Gives s x
  pub events : (walked n s x).events ≡ work.events

record AllRetraced (n : ℕ) (ss : List Sequent) (out all : List Proof) (work : Traced (Option (List Proof))) : Type 0 where
  new : List Proof
  whole : all ≡ out ++ new
  gives : AreGiven ss (proofs new)
  events : (ds : List (List (List Literal))) → (all_walked n ss (proofs new) ds).events ≡ work.events

all_retraced : (f : ℕ → Sequent → Traced (Option Proof)) → ((n : ℕ) (s : Sequent) (x : Proof) → (f n s).value ≡ Some x → Retraced n s x (f n s))
    → (ss : List Sequent) (n : ℕ) (out all : List Proof) → (all_built f n ss out).value ≡ Some all → AllRetraced n ss out all (all_built f n ss out)
unfolding next just
all_retraced f ih [] n out all e = record { new = []; whole = (let z : Some out ≡ Some all = e in let y : out ≡ all = cc in sym y ∙ sym (append-nil out)); gives = tt; events = λ ds. refl }
all_retraced f ih (s ∷ ss) n out all e =
    let g = some_then (f n s).value _ all (sym (value-on_some _ (f n s).value) ∙ e) in
    let x = g.0 in
    let r = ih n s x g.1 in
    let a = all_retraced f ih ss (n + nodes_in x) (out ++ x ∷ []) all g.2 in
    record {
      new = x ∷ a.new;
      whole = a.whole ∙ append_assoc out (x ∷ []) a.new;
      gives = (r.gives, a.gives);
      events = λ ds.
          ap (λ z. (walked n s x).events ++ z) (on_some_events _ (walked n s x).value (given x) (gives_walked x n s r.gives) ∙ a.events (ds ++ given x ∷ []))
          ∙ ap (λ z. z ++ (all_built f (n + nodes_in x) ss (out ++ x ∷ [])).events) r.events
          ∙ sym (ap (λ z. (f n s).events ++ z) (on_some_events _ (f n s).value x g.1));
    }

pub retraced : (limit left n : ℕ) (s : Sequent) (x : Proof) → (built limit left n s).value ≡ Some x → Retraced n s x (built limit left n s)
unfolding built just
retraced limit zero n s x e = absurd (let z : None ≡ Some x = e in cc)
retraced limit (suc left) n s x e =
    let p = picked limit s.members in
    let f = built limit left in
    let g = some_then (all_built f (n + 1) (premises_of s p) []).value _ x (sym (value-built f n s p) ∙ e) in
    let a = all_retraced f (retraced limit left) (premises_of s p) (n + 1) [] g.0 g.1 in
    let ns = proofs g.0 in
    let ds = map given g.0 in
    let log = entries_of (canonical_constraint s p ds).events in
    let d = (canonical_constraint s p ds).value in
    let new_is : a.new ≡ g.0 = sym a.whole in
    let children : AreGiven (premises_of s p) ns = subst (λ z. AreGiven (premises_of s p) (proofs z)) new_is a.gives in
    let same : all_given ns ≡ ds = all_given_proofs g.0 in
    let gives : Gives s (node p ns log d) =
    (picked_applies limit s, children, ap (λ z. (by_whole_log (constraint_by s p z) log).value) same ∙ made_gives s p ds) in
    let walked_children : (all_walked (n + 1) (premises_of s p) ns []).value ≡ Some ds = all_gives_walked ns (n + 1) (premises_of s p) [] children ∙ ap Some same in
    let value : (redone s p ds log).value ≡ Some d = value-redone s p ds log ∙ made_gives s p ds in
    let is : node p ns log d ≡ x = (let z : Some (node p ns log d) ≡ Some x = g.2 in cc) in
    subst (λ y. Retraced n s y (built limit (suc left) n s)) is (record {
      gives = gives;
      events =
          events-walked n s p ns log d ds d (gives_fits s p ns log d gives) walked_children value
          ∙ ap (λ z. mark (enter n) ∷ charge (fee s p) ∷ (z ++ (mark (back n) ∷ ((redone s p ds log).events ++ []))))
          (subst (λ y. (all_walked (n + 1) (premises_of s p) (proofs y) []).events ≡ (all_built f (n + 1) (premises_of s p) []).events) new_is (a.events []))
          ∙ ap (λ z. mark (enter n) ∷ charge (fee s p) ∷ ((all_built f (n + 1) (premises_of s p) []).events ++ (mark (back n) ∷ (z ++ [])))) (events-redone s p ds)
          ∙ sym (events-built f n s p g.0 g.1);
    })
