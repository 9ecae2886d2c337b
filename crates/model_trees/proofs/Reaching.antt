-- Where the constraint of a node of an open tree is false, the walk from there ends at a leaf that its table makes false, and
-- whatever makes the leaf false makes each sequent above it false.
use Rattle.std.proofs.Common.{◌≡◌, inl, inr, ℕ, suc, ℤ, Bool, true, false, List, [], ◌∷◌, ◌++◌, length, Option, Some, None, refl, sym, ◌∙◌, ap, subst, append_assoc, append-nil}
use Rattle.std.specs.List.{AllByRecursion, slice_get}
use Rattle.form_typed.specs.Truth.{Meaning}
use Rattle.base_budget.specs.Trace.{Traced, just, next}
use Rattle.clause_set.specs.Literals.{dnf_truth}
use Rattle.formula.specs.Form.{Form, FormTruth, conjunction, disjunction, universal, no_form, and_form}
use Rattle.sequent.specs.declared.member.Pick.TheVariants as pick
use Rattle.sequent.specs.declared.member.Shape.TheVariants.{Trivial, Alpha, Delta, Beta}
use Rattle.sequent.specs.Covers.{IsOneFalse}
use Rattle.sequent.specs.Leaf.{is_leaf}
use Rattle.sequent.specs.Rules.{count_after, is_shape, place, premises_at, premises_of, shape_of}
use Rattle.sequent.specs.Sequent.{Member, Sequent, member, AreFalse, IsMember, IsFormedSequent}
use Rattle.sequent.proofs.Members.{all_at}
use Rattle.pred_unify.specs.Leaf.{table_of}
use Rattle.pred_unify.specs.Pairs.{closing_of}
use Rattle.pred_unify.proofs.Leaves.{leaf_tight}
use Rattle.solve_laws.specs.Solutions.{IsGiven}
use Rattle.proof_tree.specs.Gives.{AreGiven, Gives, truths}
use Rattle.proof_tree.specs.Proof.{Proof, Proofs, node, no_proof, and_proof, given, all_given}
use Rattle.proof_tree.specs.Reduced.{IsReducedSequent}
use Rattle.proof_tree.specs.Rules.{first_given}
use Rattle.proof_tree.specs.Says.{FalsityAt}
use Rattle.proof_tree.specs.Walk.{on_some}
use Rattle.proof_tree.proofs.Giving.{constraint_is, formed_by}
use Rattle.proof_tree.proofs.Premises.{reduced_by}
use Rattle.proof_tree.proofs.Given.{node_given}
use Rattle.model_trees.specs.Open.{AreOpen, IsOpen}
use Rattle.model_trees.specs.Walk.{Stop, denied, walk, walk_false, walk_first, where_none}
use Rattle.model_trees.proofs.Back.{premise_back, premises_count}
use Rattle.model_trees.proofs.Finding.{affirmed_none, affirmed_some, denied_finds}

-- the work finds where the walk ends: at values that begin with v, and members that the table of the leaf makes false there;
-- in any interpretation that does so, s is false at v
pub record Ends (s : Sequent) (v : List ℤ) (work : Traced (Option Stop)) : Type 0 where
  pub stop : Stop
  pub is : work.value ≡ Some stop
  pub more : List ℤ
  pub values : stop.values ≡ v ++ more
  pub formed : AllByRecursion (IsMember (length stop.values)) stop.members
  pub fails : AreFalse (table_of stop.members stop.values) stop.values stop.members
  pub back : (w : Meaning) → AreFalse w stop.values stop.members → AreFalse w v s.members

-- the same from one of the sequents
record EndsBelow (ss : List Sequent) (v : List ℤ) (work : Traced (Option Stop)) : Type 0 where
  at : ℕ
  premise : Sequent
  is : slice_get ss at ≡ Some premise
  ends : Ends premise v work

abbrev HasCount : ℕ → Sequent → Type 0
HasCount n t = t.count ≡ n

abbrev IsSome : List Sequent → Type 0
IsSome [] = ⊥
IsSome (s ∷ ss) = Unit {0}

-- what the first of the children does, and what one does whose constraint is false
abbrev First : List Sequent → Proofs → Type 0
First ss ns = (u : List ℤ) (n : ℕ) → AllByRecursion (HasCount n) ss → length u ≡ n → IsSome ss → dnf_truth (first_given (all_given ns)) u ≡ false → EndsBelow ss u (walk_first ss ns u)

abbrev OneOf : List Sequent → Proofs → Type 0
OneOf ss ns = (u : List ℤ) (n : ℕ) → AllByRecursion (HasCount n) ss → length u ≡ n → IsOneFalse (truths (all_given ns)) u → EndsBelow ss u (walk_false n ss ns u)

same_end : (s : Sequent) (v : List ℤ) (work whole : Traced (Option Stop)) → whole.value ≡ work.value → Ends s v work → Ends s v whole
same_end s v work whole same e = record { stop = e.stop; is = same ∙ e.is; more = e.more; values = e.values; formed = e.formed; fails = e.fails; back = e.back }

-- from a premise, at v and r, to the sequent, at v
up : (s : Sequent) (i : ℕ) (m : Member) (v r : List ℤ) (work whole : Traced (Option Stop)) → IsFormedSequent s → slice_get s.members i ≡ Some m → length v ≡ s.count → length (v ++ r) ≡ count_after s.count m.formula
    → whole.value ≡ work.value → EndsBelow (premises_at s i (Some m)) (v ++ r) work → Ends s v whole
up s i m v r work whole formed at len more same b =
    let e = b.ends in
    let count : (b.premise).count ≡ count_after s.count m.formula = all_at (HasCount (count_after s.count m.formula)) (premises_at s i (Some m)) b.at b.premise b.is (premises_count s i m) in
    record {
      stop = e.stop;
      is = same ∙ e.is;
      more = r ++ e.more;
      values = e.values ∙ append_assoc v r e.more;
      formed = e.formed;
      fails = e.fails;
      back = λ w h. premise_back w s i m b.at b.premise v r formed at b.is len (more ∙ sym count) (e.back w h);
    }

-- the same where the premise has no further constant
up_same : (s : Sequent) (i : ℕ) (m : Member) (v : List ℤ) (work : Traced (Option Stop)) → IsFormedSequent s → slice_get s.members i ≡ Some m → length v ≡ s.count → s.count ≡ count_after s.count m.formula
    → EndsBelow (premises_at s i (Some m)) v work → Ends s v work
up_same s i m v work formed at len more b =
    up s i m v [] work work formed at len (ap length (append-nil v) ∙ len ∙ more) refl (subst (λ u. EndsBelow (premises_at s i (Some m)) u work) (sym (append-nil v)) b)

-- ---- the rules
close_ends : (s : Sequent) (v : List ℤ) → IsFormedSequent s → length v ≡ s.count → AllByRecursion (λ m. is_leaf m.formula ≡ true) s.members → ((w : Meaning) → ¬ (FormTruth w (closing_of s).value v))
    → Ends s v (just (Some (record { values = v; members = s.members })))
unfolding just
close_ends s v formed len leaf bad = record {
  stop = record { values = v; members = s.members };
  is = refl;
  more = [];
  values = sym (append-nil v);
  formed = subst (λ n. AllByRecursion (IsMember n) s.members) (sym len) formed;
  fails = leaf_tight s v formed len leaf (bad (table_of s.members v));
  back = λ w h. h;
}

one_false : (t : Sequent) (ns : Proofs) (e : List ℤ) → AreGiven (t ∷ []) ns → IsOneFalse (truths (all_given ns)) e → dnf_truth (first_given (all_given ns)) e ≡ false
one_false t no_proof e g h = absurd g
one_false t (and_proof x no_proof) e g (inl h) = h
one_false t (and_proof x no_proof) e g (inr h) = absurd h
one_false t (and_proof x (and_proof y ys)) e g h = absurd g.1

trivial_ends : (s : Sequent) (i : ℕ) (o : Option Member) (ns : Proofs) (v : List ℤ) {A : Type 0} → is_shape Trivial (shape_of o) ≡ true → AreGiven (premises_at s i o) ns → FalsityAt o (truths (all_given ns)) v → A
trivial_ends s i None ns v k g f = absurd f
trivial_ends s i (Some m) ns v {A} k g f = by m.over m.used m.formula k g f
  where
    none : (ns : Proofs) → AreGiven [] ns → IsOneFalse (truths (all_given ns)) v → A
    none no_proof g f = absurd f
    none (and_proof x xs) g f = absurd g

    by : (over used : ℕ) (f : Form) → is_shape Trivial (shape_of (Some (member f over used))) ≡ true → AreGiven (premises_at s i (Some (member f over used))) ns → FalsityAt (Some (member f over used)) (truths (all_given ns)) v → A
    by over used (conjunction no_form) k g f = none ns g f
    by over used (conjunction (and_form h hs)) k g f = absurd (cc)
    by over used h k g f = absurd (cc)

alpha_ends : (s : Sequent) (i : ℕ) (o : Option Member) (ns : Proofs) (v : List ℤ) → is_shape Alpha (shape_of o) ≡ true → IsFormedSequent s → slice_get s.members i ≡ o → length v ≡ s.count
    → First (premises_at s i o) ns → AreGiven (premises_at s i o) ns → FalsityAt o (truths (all_given ns)) v → Ends s v (walk_first (premises_at s i o) ns v)
alpha_ends s i None ns v k formed at len first g f = absurd f
alpha_ends s i (Some m) ns v k formed at len first g f = by m.over m.used m.formula k at first g f
  where
    by : (over used : ℕ) (f : Form) → is_shape Alpha (shape_of (Some (member f over used))) ≡ true → slice_get s.members i ≡ Some (member f over used) → First (premises_at s i (Some (member f over used))) ns
        → AreGiven (premises_at s i (Some (member f over used))) ns → FalsityAt (Some (member f over used)) (truths (all_given ns)) v → Ends s v (walk_first (premises_at s i (Some (member f over used))) ns v)
    by over used (disjunction fs) k at first g f =
        up_same s i (member (disjunction fs) over used) v (walk_first (premises_at s i (Some (member (disjunction fs) over used))) ns v) formed at len refl (first v s.count (refl, tt) len tt (one_false _ ns v g f))
    by over used (conjunction no_form) k at first g f = absurd (cc)
    by over used (conjunction (and_form h hs)) k at first g f = absurd (cc)
    by over used h k at first g f = absurd (cc)

delta_ends : (s : Sequent) (i : ℕ) (o : Option Member) (ns : Proofs) (v : List ℤ) → is_shape Delta (shape_of o) ≡ true → IsFormedSequent s → slice_get s.members i ≡ o → length v ≡ s.count
    → First (premises_at s i o) ns → AllByRecursion IsFormedSequent (premises_at s i o) → AllByRecursion IsReducedSequent (premises_at s i o) → AreGiven (premises_at s i o) ns → FalsityAt o (truths (all_given ns)) v
    → Ends s v (next (denied (suc s.count) (first_given (all_given ns)) v) (on_some (λ u. walk_first (premises_at s i o) ns u)))
unfolding next
delta_ends s i None ns v k formed at len first w r g f = absurd f
delta_ends s i (Some m) ns v k formed at len first w r g f = by m.over m.used m.formula k at first w r g f
  where
    constraint : (t : Sequent) (ns : Proofs) → IsFormedSequent t → IsReducedSequent t → AreGiven (t ∷ []) ns → IsGiven t.count (first_given (all_given ns))
    constraint t no_proof w r g = absurd g
    constraint t (and_proof x xs) w r g = node_given t x w r g.0

    by : (over used : ℕ) (f : Form) → is_shape Delta (shape_of (Some (member f over used))) ≡ true → slice_get s.members i ≡ Some (member f over used) → First (premises_at s i (Some (member f over used))) ns
        → AllByRecursion IsFormedSequent (premises_at s i (Some (member f over used))) → AllByRecursion IsReducedSequent (premises_at s i (Some (member f over used)))
        → AreGiven (premises_at s i (Some (member f over used))) ns → FalsityAt (Some (member f over used)) (truths (all_given ns)) v
        → Ends s v (next (denied (suc s.count) (first_given (all_given ns)) v) (on_some (λ u. walk_first (premises_at s i (Some (member f over used))) ns u)))
    by over used (universal f) k at first w r g wrong =
        let d = first_given (all_given ns) in
        let c : IsGiven (suc s.count) d = constraint _ ns w.0 r.0 g in
        let found = denied_finds s.count d v (wrong.0) c len (one_false _ ns (v ++ (wrong.0) ∷ []) g (wrong.1)) in
        let u : List ℤ = v ++ (found.0) ∷ [] in
        let long : length u ≡ suc s.count = one_more v (found.0) s.count len in
        let ss = premises_at s i (Some (member (universal f) over used)) in
        up s i (member (universal f) over used) v ((found.0) ∷ []) (walk_first ss ns u) (next (denied (suc s.count) d v) (on_some (λ z. walk_first ss ns z))) formed at len long
        (ap (λ o. (on_some (λ z. walk_first ss ns z) o).value) (found.1)) (first u (suc s.count) (refl, tt) long tt (found.2))
      where
        one_more : (v : List ℤ) (x : ℤ) (n : ℕ) → length v ≡ n → length (v ++ x ∷ []) ≡ suc n
        one_more [] x n h = ap suc h
        one_more (u ∷ v) x n h = ap suc (one_more v x (length v) refl) ∙ ap suc h
    by over used (conjunction no_form) k at first w r g wrong = absurd (cc)
    by over used (conjunction (and_form h hs)) k at first w r g wrong = absurd (cc)
    by over used h k at first w r g wrong = absurd (cc)

beta_ends : (s : Sequent) (i : ℕ) (o : Option Member) (ns : Proofs) (v : List ℤ) → is_shape Beta (shape_of o) ≡ true → IsFormedSequent s → slice_get s.members i ≡ o → length v ≡ s.count
    → OneOf (premises_at s i o) ns → FalsityAt o (truths (all_given ns)) v → Ends s v (walk_false s.count (premises_at s i o) ns v)
beta_ends s i None ns v k formed at len one f = absurd f
beta_ends s i (Some m) ns v k formed at len one f = by m.over m.used m.formula k at one f
  where
    by : (over used : ℕ) (f : Form) → is_shape Beta (shape_of (Some (member f over used))) ≡ true → slice_get s.members i ≡ Some (member f over used) → OneOf (premises_at s i (Some (member f over used))) ns
        → FalsityAt (Some (member f over used)) (truths (all_given ns)) v → Ends s v (walk_false s.count (premises_at s i (Some (member f over used))) ns v)
    by over used (conjunction (and_form h hs)) k at one f =
        let m = member (conjunction (and_form h hs)) over used in
        up_same s i m v (walk_false s.count (premises_at s i (Some m)) ns v) formed at len refl (one v s.count (premises_count s i m) len f)
    by over used (conjunction no_form) k at one f = absurd (cc)
    by over used h k at one f = absurd (cc)

-- the child x, or one after it
beta_step : (n : ℕ) (s : Sequent) (ss : List Sequent) (x : Proof) (xs : Proofs) (u : List ℤ) (b : Bool) → dnf_truth (given x) u ≡ b → IsGiven n (given x) → length u ≡ n
    → (dnf_truth (given x) u ≡ false → Ends s u (walk s x u)) → (IsOneFalse (truths (all_given xs)) u → EndsBelow ss u (walk_false n ss xs u)) → IsOneFalse (truths (all_given (and_proof x xs))) u
    → EndsBelow (s ∷ ss) u (walk_false n (s ∷ ss) (and_proof x xs) u)
unfolding next
beta_step n s ss x xs u false is c len here later one =
    let none = affirmed_none n (given x) u c len is in
    let same : (walk_false n (s ∷ ss) (and_proof x xs) u).value ≡ (walk s x u).value = ap (λ o. (where_none (walk s x u) (walk_false n ss xs u) o).value) none in
    record { at = 0; premise = s; is = refl; ends = same_end s u (walk s x u) (walk_false n (s ∷ ss) (and_proof x xs) u) same (here is) }
beta_step n s ss x xs u true is c len here later (inl bad) = absurd (let z : true ≡ false = sym is ∙ bad in cc)
beta_step n s ss x xs u true is c len here later (inr one) =
    let some = affirmed_some n (given x) u c len is in
    let same : (walk_false n (s ∷ ss) (and_proof x xs) u).value ≡ (walk_false n ss xs u).value = ap (λ o. (where_none (walk s x u) (walk_false n ss xs u) o).value) (some.1) in
    let b = later one in
    record { at = suc b.at; premise = b.premise; is = b.is; ends = same_end b.premise u (walk_false n ss xs u) (walk_false n (s ∷ ss) (and_proof x xs) u) same b.ends }

mutual
  -- the walk ends at a false leaf
  pub reached : (s : Sequent) (x : Proof) (v : List ℤ) → IsFormedSequent s → IsReducedSequent s → Gives s x → IsOpen s x → length v ≡ s.count → dnf_truth (given x) v ≡ false → Ends s v (walk s x v)
  reached s (node (pick.Trivial i) ns log d) v w r g o len bad =
      trivial_ends s i (slice_get s.members i) ns v g.0 g.1 ((constraint_is s (pick.Trivial i) ns log d r g).no v len bad)
  reached s (node (pick.Alpha i) ns log d) v w r g o len bad =
      let p = pick.Alpha i in
      alpha_ends s i (slice_get s.members i) ns v g.0 w refl len (firsts (premises_of s p) ns (formed_by s (place p) w) (reduced_by s (place p) r) g.1 o.1) g.1 ((constraint_is s p ns log d r g).no v len bad)
  reached s (node (pick.Delta i) ns log d) v w r g o len bad =
      let p = pick.Delta i in
      delta_ends s i (slice_get s.members i) ns v g.0 w refl len (firsts (premises_of s p) ns (formed_by s (place p) w) (reduced_by s (place p) r) g.1 o.1) (formed_by s (place p) w) (reduced_by s (place p) r) g.1
      ((constraint_is s p ns log d r g).no v len bad)
  reached s (node (pick.Beta i) ns log d) v w r g o len bad =
      let p = pick.Beta i in
      beta_ends s i (slice_get s.members i) ns v g.0 w refl len (ones (premises_of s p) ns (formed_by s (place p) w) (reduced_by s (place p) r) g.1 o.1) ((constraint_is s p ns log d r g).no v len bad)
  reached s (node (pick.Gamma i) ns log d) v w r g o len bad = absurd o.0
  reached s (node pick.Close ns log d) v w r g o len bad = close_ends s v w len o.0 ((constraint_is s pick.Close ns log d r g).no v len bad)

  firsts : (ss : List Sequent) (ns : Proofs) → AllByRecursion IsFormedSequent ss → AllByRecursion IsReducedSequent ss → AreGiven ss ns → AreOpen ss ns → First ss ns
  firsts [] ns w r g o = λ u n c len some bad. absurd some
  firsts (s ∷ ss) no_proof w r g o = λ u n c len some bad. absurd g
  firsts (s ∷ ss) (and_proof x xs) w r g o = λ u n c len some bad. record { at = 0; premise = s; is = refl; ends = reached s x u w.0 r.0 g.0 o.0 (len ∙ sym c.0) bad }

  ones : (ss : List Sequent) (ns : Proofs) → AllByRecursion IsFormedSequent ss → AllByRecursion IsReducedSequent ss → AreGiven ss ns → AreOpen ss ns → OneOf ss ns
  ones [] no_proof w r g o = λ u n c len one. absurd one
  ones [] (and_proof x xs) w r g o = λ u n c len one. absurd g
  ones (s ∷ ss) no_proof w r g o = λ u n c len one. absurd g
  ones (s ∷ ss) (and_proof x xs) w r g o = λ u n c len one.
      beta_step n s ss x xs u (dnf_truth (given x) u) refl (subst (λ k. IsGiven k (given x)) c.0 (node_given s x w.0 r.0 g.0)) len (λ bad. reached s x u w.0 r.0 g.0 o.0 (len ∙ sym c.0) bad)
      (λ k. ones ss xs w.1 r.1 g.1 o.1 u n c.1 len k) one
