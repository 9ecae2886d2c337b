-- What an open tree does at the quantifiers of typed universal constants: where all members but the last are atoms, its rule is that
-- of the last one, as long as that has an application. So the walk finds values of the types, one after another.
use Rattle.std.proofs.Common.{◌≡◌, ◌⊎◌, inl, inr, ℕ, zero, suc, ℤ, Bool, true, false, ◌&&◌, List, [], ◌∷◌, ◌++◌, take, length, Some, None, refl, sym, ◌∙◌, ap, subst, append_assoc, append-nil, length-append, arith}
use Rattle.std.specs.List.{AllByRecursion, remove, slice_get}
use Rattle.std.proofs.lemmas.List.{take_all}
use Rattle.form_typed.specs.declared.typed.Sort.{Sort}
use Rattle.form_typed.specs.Sorts.{AreValuesOf}
use Rattle.form_typed.specs.Truth.{Meaning}
use Rattle.base_budget.specs.Trace.{Traced, just, step, next}
use Rattle.base_budget.specs.declared.log.Entry.{Entry}
use Rattle.clause_set.specs.declared.literal.Literal.{Literal}
use Rattle.clause_set.specs.Literals.{dnf_truth}
use Rattle.formula.specs.Form.{Form, Forms, FormTruth, is_pure, are_pure, equal, unequal, at_least, holds, fails, differs, conjunction, disjunction, universal, existential, forms}
use Rattle.sequent.specs.declared.member.Pick.TheVariants as pick
use Rattle.sequent.specs.declared.member.Shape.{Shape}
use Rattle.sequent.specs.declared.member.Shape.TheVariants.{Trivial, Alpha, Delta, Beta, Gamma}
use Rattle.sequent.specs.Leaf.{is_leaf}
use Rattle.sequent.specs.Rules.{is_shape, new_members, premises_at, premises_of, shape, shape_of}
use Rattle.sequent.specs.Sequent.{Member, Sequent, member, sequent, AreFalse, IsMemberTrue, IsFormedSequent}
use Rattle.sequent.proofs.Members.{all_append, all_right}
use Rattle.solve_laws.specs.Solutions.{IsGiven}
use Rattle.proof_tree.specs.Gives.{AreGiven, Gives, truths}
use Rattle.proof_tree.specs.Proof.{Proof, Proofs, node, no_proof, and_proof, given, all_given}
use Rattle.proof_tree.specs.Reduced.{IsReducedSequent}
use Rattle.proof_tree.specs.Rules.{first_given}
use Rattle.proof_tree.specs.Says.{FalsityAt}
use Rattle.proof_tree.specs.Walk.{on_some}
use Rattle.proof_tree.proofs.Giving.{constraint_is, formed_by}
use Rattle.proof_tree.proofs.Premises.{reduced_by}
use Rattle.proof_tree.proofs.Given.{node_given}
use Rattle.form_encoding.specs.Encoding.{SortBound, least, greatest, bounds, limits, restricted}
use Rattle.form_encoding.specs.Root.{for_last}
use Rattle.form_encoding.proofs.Conditions.{for_last_pure}
use Rattle.form_encoding.proofs.Types.{bound_at, pure-limits}
use Rattle.model_trees.specs.Open.{AreOpen, IsOpen}
use Rattle.model_trees.specs.Refutes.{RefutesSequent}
use Rattle.form_typed.specs.Table.{meaning_of}
use Rattle.model_trees.specs.Rows.{table_at}
use Rattle.model_trees.specs.Walk.{Stop, denied, walk, walk_first}
use Rattle.model_trees.proofs.Finding.{denied_finds}
use Rattle.model_trees.proofs.Refuting.{walk_refutes}
use Rattle.model_runs.proofs.Values.{value_typed}
use Rattle.model_runs.proofs.Staying.{brought_stays, members_append, members_of, new_stay}

-- ---- a tree and a walk at a sequent
-- the tree of the sequent is open, and its constraint is false at v
pub record IsAt (s : Sequent) (x : Proof) (v : List ℤ) : Type 0 where
  pub gives : Gives s x
  pub opens : IsOpen s x
  pub formed : IsFormedSequent s
  pub reduced : IsReducedSequent s
  pub long : length v ≡ s.count
  pub bad : dnf_truth (given x) v ≡ false

-- the walk goes on from there to a tree of t, with the values u
pub record GoesOn (s : Sequent) (x : Proof) (v : List ℤ) (t : Sequent) (u : List ℤ) : Type 0 where
  pub child : Proof
  pub there : IsAt t child u
  pub same : (walk s x v).value ≡ (walk t child u).value

pub at_refutes : (s : Sequent) (x : Proof) (v : List ℤ) → IsAt s x v → RefutesSequent s v (walk s x v)
at_refutes s x v h = walk_refutes s x v h.formed h.reduced h.gives h.opens h.long h.bad

-- where the walk ends, its table makes the sequent false at v
pub root_false : (s : Sequent) (x : Proof) (v : List ℤ) (stop : Stop) → IsAt s x v → (walk s x v).value ≡ Some stop → AreFalse (meaning_of (table_at stop).value) v s.members
root_false s x v stop h is =
    let r = at_refutes s x v h in
    let same : r.stop ≡ stop = (let two : Some r.stop ≡ Some stop = sym r.is ∙ is in cc) in
    subst (λ (z : Stop). AreFalse (meaning_of (table_at z).value) v s.members) same r.root

-- ---- atoms, and one member after them
abbrev pub IsAtom : Form → Type 0
IsAtom (at_least t) = Unit {0}
IsAtom (equal t) = ⊥
IsAtom (unequal t) = ⊥
IsAtom (holds p ts) = ⊥
IsAtom (fails p ts) = ⊥
IsAtom (differs f ts u) = ⊥
IsAtom (conjunction fs) = ⊥
IsAtom (disjunction fs) = ⊥
IsAtom (universal f) = ⊥
IsAtom (existential f) = ⊥

abbrev pub AreAtoms : List Form → Type 0
AreAtoms = AllByRecursion IsAtom

abbrev pub AreAtomMembers : List Member → Type 0
AreAtomMembers = AllByRecursion (λ m. IsAtom m.formula)

pub atom_members : (n : ℕ) (fs : List Form) → AreAtoms fs → AreAtomMembers (members_of n fs)
atom_members n [] h = tt
atom_members n (f ∷ fs) h = (h.0, atom_members n fs h.1)

abbrev pub frame : List Member → Form → ℕ → Sequent
frame ms f n = sequent (ms ++ member f n 0 ∷ []) n

last_there : (ms : List Member) (m : Member) → slice_get (ms ++ m ∷ []) (length ms) ≡ Some m
last_there [] m = refl
last_there (x ∷ ms) m = last_there ms m

last_removed : (ms : List Member) (m : Member) → remove (ms ++ m ∷ []) (length ms) ≡ ms
last_removed [] m = refl
last_removed (x ∷ ms) m = ap (λ r. x ∷ r) (last_removed ms m)

none_shape : {A : Type 0} (k : Shape) → is_shape k None ≡ true → A
none_shape Trivial h = absurd (cc)
none_shape Alpha h = absurd (cc)
none_shape Delta h = absurd (cc)
none_shape Beta h = absurd (cc)
none_shape Gamma h = absurd (cc)

atom_shape : {A : Type 0} (k : Shape) (f : Form) → IsAtom f → is_shape k (shape f) ≡ true → A
atom_shape k (at_least t) a h = none_shape k h
atom_shape k (equal t) a h = absurd a
atom_shape k (unequal t) a h = absurd a
atom_shape k (holds p ts) a h = absurd a
atom_shape k (fails p ts) a h = absurd a
atom_shape k (differs f ts u) a h = absurd a
atom_shape k (conjunction fs) a h = absurd a
atom_shape k (disjunction fs) a h = absurd a
atom_shape k (universal f) a h = absurd a
atom_shape k (existential f) a h = absurd a

-- a rule that applies has the last member as its principal
pub only_last : (k : Shape) (ms : List Member) (m : Member) (i : ℕ) → AreAtomMembers ms → is_shape k (shape_of (slice_get (ms ++ m ∷ []) i)) ≡ true → (i ≡ length ms) × (is_shape k (shape m.formula) ≡ true)
only_last k [] m zero a h = (refl, h)
only_last k [] m (suc i) a h = none_shape k h
only_last k (x ∷ ms) m zero a h = atom_shape k x.formula a.0 h
only_last k (x ∷ ms) m (suc i) a h = let r = only_last k ms m i a.1 h in (ap suc r.0, r.1)

-- it does not close, as the last member has an application and is none itself
pub not_closed : (ms : List Member) (m : Member) → is_leaf m.formula ≡ false → AllByRecursion (λ x. is_leaf x.formula ≡ true) (ms ++ m ∷ []) → ⊥
not_closed ms m is h = let leaf = (all_right (λ (x : Member). is_leaf x.formula ≡ true) ms (m ∷ []) h).0 in absurd (let z : true ≡ false = sym leaf ∙ is in cc)

-- ---- premises
delta_premises : (ms : List Member) (f : Form) (n : ℕ) → premises_of (frame ms (universal f) n) (pick.Delta (length ms)) ≡ frame ms f (suc n) ∷ []
delta_premises ms f n =
    let s = frame ms (universal f) n in
    ap (premises_at s (length ms)) (last_there ms (member (universal f) n 0))
    ∙ (λ i. sequent (last_removed ms (member (universal f) n 0) i ++ member (brought_stays n f i) (suc n) 0 ∷ []) (suc n) ∷ [])

alpha_premises : (ms : List Member) (hs : List Form) (g : Form) (n : ℕ) → premises_of (frame ms (disjunction (forms (hs ++ g ∷ []))) n) (pick.Alpha (length ms)) ≡ frame (ms ++ members_of n hs) g n ∷ []
alpha_premises ms hs g n =
    let f = disjunction (forms (hs ++ g ∷ [])) in
    let s = frame ms f n in
    let new : new_members n n (forms (hs ++ g ∷ [])) ≡ members_of n hs ++ member g n 0 ∷ [] = new_stay n (hs ++ g ∷ []) ∙ members_append n hs (g ∷ []) in
    ap (premises_at s (length ms)) (last_there ms (member f n 0))
    ∙ (λ i. sequent (last_removed ms (member f n 0) i ++ new i) n ∷ [])
    ∙ ap (λ l. sequent l n ∷ []) (sym (append_assoc ms (members_of n hs) (member g n 0 ∷ [])))

-- ---- the one child of a rule with one premise
record OneChild (t : Sequent) (ns : Proofs) : Type 0 where
  child : Proof
  is : ns ≡ and_proof child no_proof
  gives : Gives t child

one_child : (t : Sequent) (ns : Proofs) → AreGiven (t ∷ []) ns → OneChild t ns
one_child t no_proof g = absurd g
one_child t (and_proof y no_proof) g = record { child = y; is = refl; gives = g.0 }
one_child t (and_proof y (and_proof z zs)) g = absurd g.1

first : {A : Type 0} → A ⊎ ⊥ → A
first (inl a) = a
first (inr b) = absurd b

one_more : (v : List ℤ) (x : ℤ) (n : ℕ) → length v ≡ n → length (v ++ x ∷ []) ≡ suc n
one_more v x n h = let l = length-append v (x ∷ []) in omega (arith, h, l)

-- ---- delta
-- with one premise t, a delta goes on to it with one value more
delta_by : (s : Sequent) (i : ℕ) (f : Form) (n : ℕ) (t : Sequent) (y : Proof) (log : List Entry) (d : List (List Literal)) (v : List ℤ) → s.count ≡ n → t.count ≡ suc n → slice_get s.members i ≡ Some (member (universal f) n 0)
    → premises_of s (pick.Delta i) ≡ t ∷ [] → IsAt s (node (pick.Delta i) (and_proof y no_proof) log d) v → (z : ℤ) × GoesOn s (node (pick.Delta i) (and_proof y no_proof) log d) v t (v ++ z ∷ [])
unfolding next
delta_by s i f n t y log d v count after at one h =
    let ns = and_proof y no_proof in
    let gives = subst (λ ss. AreGiven ss ns) one (h.gives).1 in
    let opens = subst (λ ss. AreOpen ss ns) one (h.opens).1 in
    let formed = subst (AllByRecursion IsFormedSequent) one (formed_by s (Some i) h.formed) in
    let reduced = subst (AllByRecursion IsReducedSequent) one (reduced_by s (Some i) h.reduced) in
    let falsity = subst (λ o. FalsityAt o (truths (all_given ns)) v) at ((constraint_is s (pick.Delta i) ns log d h.reduced h.gives).no v h.long h.bad) in
    let child_given : IsGiven (suc n) (given y) = subst (λ k. IsGiven k (given y)) after (node_given t y formed.0 reduced.0 gives.0) in
    let long : length v ≡ n = h.long ∙ count in
    let found = denied_finds n (given y) v (falsity.0) child_given long (first (falsity.1)) in
    let u : List ℤ = v ++ (found.0) ∷ [] in
    let here : (denied (suc s.count) (first_given (all_given ns)) v).value ≡ Some u = ap (λ k. (denied (suc k) (given y) v).value) count ∙ found.1 in (
      found.0,
      record {
        child = y;
        there = record { gives = gives.0; opens = opens.0; formed = formed.0; reduced = reduced.0; long = one_more v (found.0) n long ∙ sym after; bad = found.2 };
        same = ap (λ o. (on_some (λ z. walk_first (premises_of s (pick.Delta i)) ns z) o).value) here ∙ ap (λ ss. (walk_first ss ns u).value) one;
      },
    )

delta_at : (ms : List Member) (f : Form) (n i : ℕ) (ns : Proofs) (log : List Entry) (d : List (List Literal)) (v : List ℤ) → length ms ≡ i → IsAt (frame ms (universal f) n) (node (pick.Delta i) ns log d) v
    → (z : ℤ) × GoesOn (frame ms (universal f) n) (node (pick.Delta i) ns log d) v (frame ms f (suc n)) (v ++ z ∷ [])
delta_at ms f n i ns log d v same h =
    let s = frame ms (universal f) n in
    let t = frame ms f (suc n) in
    let one : premises_of s (pick.Delta i) ≡ t ∷ [] = subst (λ j. premises_of s (pick.Delta j) ≡ t ∷ []) same (delta_premises ms f n) in
    let at : slice_get s.members i ≡ Some (member (universal f) n 0) = subst (λ j. slice_get s.members j ≡ Some (member (universal f) n 0)) same (last_there ms (member (universal f) n 0)) in
    let c = one_child t ns (subst (λ ss. AreGiven ss ns) one (h.gives).1) in
    subst (λ (ks : Proofs). (z : ℤ) × GoesOn s (node (pick.Delta i) ks log d) v t (v ++ z ∷ [])) (sym c.is)
    (delta_by s i f n t c.child log d v refl refl at one (subst (λ (ks : Proofs). IsAt s (node (pick.Delta i) ks log d) v) c.is h))

wrong_rule : {A : Type 0} (k : Shape) (ms : List Member) (m : Member) (i : ℕ) → AreAtomMembers ms → is_shape k (shape m.formula) ≡ false → is_shape k (shape_of (slice_get (ms ++ m ∷ []) i)) ≡ true → A
wrong_rule k ms m i a no_shape h = let r = only_last k ms m i a h in absurd (let z : true ≡ false = sym r.1 ∙ no_shape in cc)

-- the rule of an open tree is the delta of the last member
pub delta_on : (ms : List Member) (f : Form) (n : ℕ) (x : Proof) (v : List ℤ) → AreAtomMembers ms → is_pure f ≡ false → IsAt (frame ms (universal f) n) x v → (z : ℤ) × GoesOn (frame ms (universal f) n) x v (frame ms f (suc n)) (v ++ z ∷ [])
delta_on ms f n (node (pick.Delta i) ns log d) v atoms app h = delta_at ms f n i ns log d v (sym (only_last Delta ms (member (universal f) n 0) i atoms (h.gives).0).0) h
delta_on ms f n (node (pick.Trivial i) ns log d) v atoms app h = wrong_rule Trivial ms (member (universal f) n 0) i atoms refl (h.gives).0
delta_on ms f n (node (pick.Alpha i) ns log d) v atoms app h = wrong_rule Alpha ms (member (universal f) n 0) i atoms refl (h.gives).0
delta_on ms f n (node (pick.Beta i) ns log d) v atoms app h = wrong_rule Beta ms (member (universal f) n 0) i atoms refl (h.gives).0
delta_on ms f n (node (pick.Gamma i) ns log d) v atoms app h = absurd (h.opens).0
delta_on ms f n (node pick.Close ns log d) v atoms app h = absurd (not_closed ms (member (universal f) n 0) app (h.opens).0)

-- ---- alpha
alpha_by : (s : Sequent) (i : ℕ) (fs : Forms) (n : ℕ) (t : Sequent) (y : Proof) (log : List Entry) (d : List (List Literal)) (v : List ℤ) → t.count ≡ s.count → slice_get s.members i ≡ Some (member (disjunction fs) n 0)
    → premises_of s (pick.Alpha i) ≡ t ∷ [] → IsAt s (node (pick.Alpha i) (and_proof y no_proof) log d) v → GoesOn s (node (pick.Alpha i) (and_proof y no_proof) log d) v t v
alpha_by s i fs n t y log d v after at one h =
    let ns = and_proof y no_proof in
    let gives = subst (λ ss. AreGiven ss ns) one (h.gives).1 in
    let opens = subst (λ ss. AreOpen ss ns) one (h.opens).1 in
    let formed = subst (AllByRecursion IsFormedSequent) one (formed_by s (Some i) h.formed) in
    let reduced = subst (AllByRecursion IsReducedSequent) one (reduced_by s (Some i) h.reduced) in
    let falsity = subst (λ o. FalsityAt o (truths (all_given ns)) v) at ((constraint_is s (pick.Alpha i) ns log d h.reduced h.gives).no v h.long h.bad) in
    record {
      child = y;
      there = record { gives = gives.0; opens = opens.0; formed = formed.0; reduced = reduced.0; long = h.long ∙ sym after; bad = first falsity };
      same = ap (λ ss. (walk_first ss ns v).value) one;
    }

alpha_at : (ms : List Member) (hs : List Form) (g : Form) (n i : ℕ) (ns : Proofs) (log : List Entry) (d : List (List Literal)) (v : List ℤ) → length ms ≡ i
    → IsAt (frame ms (disjunction (forms (hs ++ g ∷ []))) n) (node (pick.Alpha i) ns log d) v
    → GoesOn (frame ms (disjunction (forms (hs ++ g ∷ []))) n) (node (pick.Alpha i) ns log d) v (frame (ms ++ members_of n hs) g n) v
alpha_at ms hs g n i ns log d v same h =
    let f = disjunction (forms (hs ++ g ∷ [])) in
    let s = frame ms f n in
    let t = frame (ms ++ members_of n hs) g n in
    let one : premises_of s (pick.Alpha i) ≡ t ∷ [] = subst (λ j. premises_of s (pick.Alpha j) ≡ t ∷ []) same (alpha_premises ms hs g n) in
    let at : slice_get s.members i ≡ Some (member f n 0) = subst (λ j. slice_get s.members j ≡ Some (member f n 0)) same (last_there ms (member f n 0)) in
    let c = one_child t ns (subst (λ ss. AreGiven ss ns) one (h.gives).1) in
    subst (λ (ks : Proofs). GoesOn s (node (pick.Alpha i) ks log d) v t v) (sym c.is)
    (alpha_by s i (forms (hs ++ g ∷ [])) n t c.child log d v refl at one (subst (λ (ks : Proofs). IsAt s (node (pick.Alpha i) ks log d) v) c.is h))

-- the rule of an open tree is the alpha of the last member
pub alpha_on : (ms : List Member) (hs : List Form) (g : Form) (n : ℕ) (x : Proof) (v : List ℤ) → AreAtomMembers ms → are_pure (forms (hs ++ g ∷ [])) ≡ false → IsAt (frame ms (disjunction (forms (hs ++ g ∷ []))) n) x v
    → GoesOn (frame ms (disjunction (forms (hs ++ g ∷ []))) n) x v (frame (ms ++ members_of n hs) g n) v
alpha_on ms hs g n (node (pick.Alpha i) ns log d) v atoms app h = alpha_at ms hs g n i ns log d v (sym (only_last Alpha ms (member (disjunction (forms (hs ++ g ∷ []))) n 0) i atoms (h.gives).0).0) h
alpha_on ms hs g n (node (pick.Trivial i) ns log d) v atoms app h = wrong_rule Trivial ms (member (disjunction (forms (hs ++ g ∷ []))) n 0) i atoms refl (h.gives).0
alpha_on ms hs g n (node (pick.Delta i) ns log d) v atoms app h = wrong_rule Delta ms (member (disjunction (forms (hs ++ g ∷ []))) n 0) i atoms refl (h.gives).0
alpha_on ms hs g n (node (pick.Beta i) ns log d) v atoms app h = wrong_rule Beta ms (member (disjunction (forms (hs ++ g ∷ []))) n 0) i atoms refl (h.gives).0
alpha_on ms hs g n (node (pick.Gamma i) ns log d) v atoms app h = absurd (h.opens).0
alpha_on ms hs g n (node pick.Close ns log d) v atoms app h = absurd (not_closed ms (member (disjunction (forms (hs ++ g ∷ []))) n 0) app (h.opens).0)

-- ---- below the bounds of a type
limits_atoms : (x : ℕ) (bs : List SortBound) → AreAtoms (limits true x bs).value
unfolding next step just
limits_atoms x [] = tt
limits_atoms x (least n ∷ bs) = (tt, limits_atoms x bs)
limits_atoms x (greatest n ∷ bs) = (tt, limits_atoms x bs)

-- a walk at a formula after atoms, whose values and end are those of a walk from s
pub record Behind (s : Sequent) (x : Proof) (v : List ℤ) (g : Form) (n : ℕ) : Type 0 where
  pub members : List Member
  pub atoms : AreAtomMembers members
  pub on : GoesOn s x v (frame members g n) v

pub behind_limits : (ms : List Member) (hs : List Form) (g : Form) (n : ℕ) (x : Proof) (v : List ℤ) → AreAtomMembers ms → AreAtoms hs → are_pure (forms (hs ++ g ∷ [])) ≡ false → IsAt (frame ms (restricted true hs g) n) x v
    → Behind (frame ms (restricted true hs g) n) x v g n
behind_limits ms [] g n x v atoms more app h = record { members = ms; atoms = atoms; on = record { child = x; there = h; same = refl } }
behind_limits ms (f ∷ hs) g n x v atoms more app h = record {
  members = ms ++ members_of n (f ∷ hs);
  atoms = all_append (λ m. IsAtom m.formula) ms (members_of n (f ∷ hs)) atoms (atom_members n (f ∷ hs) more);
  on = alpha_on ms (f ∷ hs) g n x v atoms app h;
}

-- ---- values of the types
-- the walk from there ends, with values of these types at which the table of its leaf makes g false
pub record Falsified (ss : List Sort) (g : Form) (s : Sequent) (x : Proof) (v : List ℤ) : Type 0 where
  pub stop : Stop
  pub is : (walk s x v).value ≡ Some stop
  pub found : List ℤ
  pub more : List ℤ
  pub values : stop.values ≡ v ++ (found ++ more)
  pub typed : AreValuesOf ss found
  pub fails : ¬ (FormTruth (meaning_of (table_at stop).value) g (v ++ found))

only_pure : (b : Bool) → (b && true) ≡ b
only_pure true = refl
only_pure false = refl

impure_limits : (x : ℕ) (bs : List SortBound) (g : Form) → is_pure g ≡ false → are_pure (forms ((limits true x bs).value ++ g ∷ [])) ≡ false
impure_limits x bs g app = pure-limits true x bs (g ∷ []) ∙ only_pure (is_pure g) ∙ app

pub last_false : (w : Meaning) (ms : List Member) (f : Form) (n : ℕ) (v : List ℤ) → length v ≡ n → AreFalse w v (ms ++ member f n 0 ∷ []) → ¬ (FormTruth w f v)
last_false w ms f n v long h =
    let bad : ¬ (FormTruth w f (take n v)) = (all_right (λ m. ¬ (IsMemberTrue w v m)) ms (member f n 0 ∷ []) h).0 in
    subst (λ u. ¬ (FormTruth w f u)) (take_all n v (omega (arith, long))) bad

pub falsified : (ss : List Sort) (n : ℕ) (body : Traced Form) (ms : List Member) (x : Proof) (v : List ℤ) → AreAtomMembers ms → is_pure body.value ≡ false → IsAt (frame ms (for_last n ss body).value n) x v
    → Falsified ss body.value (frame ms (for_last n ss body).value n) x v
unfolding next just
falsified [] n body ms x v atoms app h =
    let r = at_refutes (frame ms body.value n) x v h in
    record {
      stop = r.stop;
      is = r.is;
      found = [];
      more = r.more;
      values = r.values;
      typed = tt;
      fails = subst (λ u. ¬ (FormTruth (meaning_of (table_at r.stop).value) body.value u)) (sym (append-nil v)) (last_false (meaning_of (table_at r.stop).value) ms body.value n v h.long r.root);
    }
falsified (s ∷ ss) n body ms x v atoms app h =
    let g = (for_last (suc n) ss body).value in
    let hs = (limits true n (bounds s)).value in
    let inner : is_pure g ≡ false = for_last_pure (suc n) ss body ∙ app in
    let all : is_pure (restricted true hs g) ≡ false = for_last_pure n (s ∷ []) (for_last (suc n) ss body) ∙ inner in
    let d = delta_on ms (restricted true hs g) n x v atoms all h in
    let u : List ℤ = v ++ (d.0) ∷ [] in
    let below = behind_limits ms hs g (suc n) (d.1).child u atoms (limits_atoms n (bounds s)) (impure_limits n (bounds s) g inner) (d.1).there in
    let rest = falsified ss (suc n) body below.members (below.on).child u below.atoms app (below.on).there in
    let w : Meaning = meaning_of (table_at rest.stop).value in
    let ends : (walk (frame ms (restricted true hs g) (suc n)) (d.1).child u).value ≡ Some rest.stop = (below.on).same ∙ rest.is in
    let wrong : ¬ (FormTruth w (restricted true hs g) u) =
    last_false w ms (restricted true hs g) (suc n) u ((d.1).there).long (root_false (frame ms (restricted true hs g) (suc n)) (d.1).child u rest.stop (d.1).there ends) in
    record {
      stop = rest.stop;
      is = (d.1).same ∙ ends;
      found = d.0 ∷ rest.found;
      more = rest.more;
      values = rest.values ∙ append_assoc v (d.0 ∷ []) (rest.found ++ rest.more);
      typed = (value_typed s (d.0) (λ t. wrong ((bound_at w n s g v (d.0) h.long).1 (λ k. absurd (t k)))), rest.typed);
      fails = subst (λ e. ¬ (FormTruth w body.value e)) (append_assoc v (d.0 ∷ []) rest.found) rest.fails;
    }
