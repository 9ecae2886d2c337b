-- The tree of a round, as it grows.
use Rattle.std.proofs.Common.{◌≡◌, ℕ, zero, suc, ◌+◌, ◌-◌, ◌≤◌, Bool, true, false, ◌||◌, List, [], ◌∷◌, ◌++◌, drop, length, map, refl, sym, ◌∙◌, ap, subst, arith, Option, Some, None, Result, Ok, Err, IsErrAnd, IsTrue, ◌↔◌}
use Rattle.std.proofs.lemmas.List.{drop_more}
use Rattle.std.proofs.lemmas.Option.{get_or_from_slice_get, slice_get_within}
use Rattle.std.specs.List.{list_any, slice_get}
use Rattle.base_budget.specs.declared.fault.StepFault.{StepFault}
use Rattle.base_budget.specs.declared.fault.StepFault.TheVariants.{Memory}
use Rattle.base_budget.specs.declared.log.ElimLog.{ElimLog}
use Rattle.base_budget.specs.declared.log.Entry.{Entry}
use Rattle.base_budget.specs.Followed.{Followed, Later}
use Rattle.base_budget.specs.Trace.{Funds, Traced, capped, just, step, next, note, pay, enter, back}
use Rattle.base_budget.specs.Work.{Charged}
use Rattle.base_budget.proofs.Advancing.{followed_later, followed_whole}
use Rattle.base_budget.proofs.Following.{Going, follow_err, follow_just, follow_memory, follow_note, follow_ok, follow_unnoted, going_all, going_ends, going_next}
use Rattle.base_budget.proofs.Tracing.{next-assoc, next-just, next-same}
use Rattle.clause_set.specs.declared.literal.Literal.{Literal}
use Rattle.sequent.specs.declared.member.Pick.{Pick}
use Rattle.sequent.specs.declared.member.Pick.TheVariants as pick
use Rattle.elim_laws.specs.Logs.{entries_of}
use Rattle.sequent.specs.Leaf.{is_open}
use Rattle.sequent.specs.Rules.{picked, premises_of}
use Rattle.sequent.specs.Sequent.{Sequent}
use Rattle.proof_tree.specs.declared.node.Node.{Node}
use Rattle.proof_tree.specs.Proof.{Proof, node, given, no_proof, proofs}
use Rattle.proof_tree.specs.Views.{proof_of}
use Rattle.proof_tree.specs.Walk.{fee, in_new_log, nodes_in, nodes_in_all, on_some}
use Rattle.search.specs.declared.course.Course.{Course}
use Rattle.search.specs.declared.walk.Built.{Built}
use Rattle.search.specs.declared.walk.Children.{Children}
use Rattle.search.specs.Building.{all_built, built, canonical_constraint, entered, finished}
use Rattle.search.specs.Course.{noted}
use Rattle.search.specs.Run.{has_open_leaf, have_open_leaf}
use Rattle.search.specs.Walking.{AreGrown, AreKept, AreNumbered, IsFinished, IsKeptNode, IsNumbered, Makes, listed, making, proofs_in}

-- ---- outcomes
pub made_some : {A B : Type 0} {P : A → B → Type 0} {work : Traced (Option A)} {a b : Funds} {c d : Course} (x : A) (y : B) → Followed noted work a c (Ok (Some x)) b d → P x y → Makes P work a c (Ok (Some y)) b d
made_some {P = P} x y w p = record { some = λ z is. (x, w, subst (P x) (cc) p); none = λ is. absurd (cc); err = λ e is. absurd (cc) }

pub made_none : {A B : Type 0} {P : A → B → Type 0} {work : Traced (Option A)} {a b : Funds} {c d : Course} → Followed noted work a c (Ok None) b d → Makes P work a c (Ok None) b d
made_none w = record { some = λ z is. absurd (cc); none = λ is. w; err = λ e is. absurd (cc) }

pub makes_err : {A B : Type 0} {P : A → B → Type 0} {work : Traced (Option A)} {a b : Funds} {c d : Course} (e : StepFault) (r : Result (Option B) StepFault) → IsErrAnd r (λ x. x ≡ e) → Followed noted work a c (Err e) b d → Makes P work a c r b d
makes_err e (Ok o) h w = absurd h
makes_err {work = work} {a} {b} {c} {d} e (Err x) h w = record {
  some = λ z is. absurd (cc);
  none = λ is. absurd (cc);
  err = λ f is. (let same : x ≡ f = cc in subst (λ (z : StepFault). Followed noted work a c (Err z) b d) (sym h ∙ same) w);
}

pub makes_memory : {A B : Type 0} {P : A → B → Type 0} {work : Traced (Option A)} {a : Funds} {c d : Course} (r : Result (Option B) StepFault) → IsErrAnd r (λ x. x ≡ Memory) → Makes P work a c r a d
makes_memory r h = makes_err Memory r h (follow_memory (Err Memory) refl)

-- what a call made is made by work that it does from a state before
pub makes_then : {A B : Type 0} {P Q : A → B → Type 0} {v w : Traced (Option A)} {a b g : Funds} {c d e : Course} {r : Result (Option B) StepFault}
    → ((x : Result (Option A) StepFault) → Followed noted v b d x g e → Followed noted w a c x g e) → ((x : A) (y : B) → Followed noted v b d (Ok (Some x)) g e → P x y → Q x y) → Makes P v b d r g e → Makes Q w a c r g e
makes_then on to m = record {
  some = λ y is. (let h = m.some y is in (h.0, on (Ok (Some h.0)) h.1, to h.0 y h.1 h.2));
  none = λ is. on (Ok None) (m.none is);
  err = λ e is. on (Err e) (m.err e is);
}

-- the budget is the same, and what is spent has not fallen, and is within it
pub makes_later : {A B : Type 0} {P : A → B → Type 0} {work : Traced (Option A)} {a b : Funds} {c d : Course} (r : Result (Option B) StepFault) → a.spent ≤ a.budget → Makes P work a c r b d → Later a b
makes_later (Ok (Some y)) funds m = let h = m.some y refl in followed_later (Ok (Some h.0)) funds h.1
makes_later (Ok None) funds m = followed_later (Ok None) funds (m.none refl)
makes_later (Err e) funds m = followed_later (Err e) funds (m.err e refl)

-- ---- lists of trees
proofs_more : (xs ys : List Node) → proofs_in (xs ++ ys) ≡ proofs_in xs ++ proofs_in ys
proofs_more [] ys = refl
proofs_more (x ∷ xs) ys = ap (λ (zs : List Proof). proof_of x ∷ zs) (proofs_more xs ys)

kept_more : (keeps : Bool) (xs : List Proof) (x : Proof) (ns : List Node) (o : Option Node) → AreKept keeps xs ns → IsKeptNode keeps x o → AreKept keeps (xs ++ x ∷ []) (ns ++ listed o)
kept_more true xs x ns None all one = absurd (cc)
kept_more true xs x ns (Some n) all one = let is : proof_of n ≡ x = cc in proofs_more ns (n ∷ []) ∙ ap (λ (ys : List Proof). ys ++ proof_of n ∷ []) all ∙ ap (λ (y : Proof). xs ++ y ∷ []) is
kept_more false xs x ns None all one = proofs_more ns [] ∙ ap (λ (ys : List Proof). ys ++ []) all
kept_more false xs x ns (Some n) all one = absurd (cc)

given_more : (xs : List Proof) (x : Proof) → map given (xs ++ x ∷ []) ≡ map given xs ++ given x ∷ []
given_more [] x = refl
given_more (y ∷ xs) x = ap (λ (ys : List (List (List Literal))). given y ∷ ys) (given_more xs x)

nodes_more : (xs : List Proof) (x : Proof) → nodes_in_all (proofs (xs ++ x ∷ [])) ≡ nodes_in_all (proofs xs) + nodes_in x
nodes_more [] x = omega arith
nodes_more (y ∷ xs) x = let h = nodes_more xs x in omega (arith, h)

or_assoc : (a b c : Bool) → (a || (b || c)) ≡ ((a || b) || c)
or_assoc true b c = refl
or_assoc false b c = refl

none_open : (ss : List Sequent) → have_open_leaf ss no_proof ≡ false
none_open [] = refl
none_open (s ∷ ss) = refl

open_more : (ss rest : List Sequent) (s : Sequent) (xs : List Proof) (x : Proof) → drop (length xs) ss ≡ s ∷ rest → have_open_leaf ss (proofs (xs ++ x ∷ [])) ≡ (have_open_leaf ss (proofs xs) || has_open_leaf s x)
open_more [] rest s [] x is = absurd (cc)
open_more [] rest s (y ∷ xs) x is = absurd (let z : [] ≡ s ∷ rest = is in cc)
open_more (t ∷ ss) rest s [] x is = let same : t ≡ s = cc in ap (λ b. has_open_leaf t x || b) (none_open ss) ∙ or_false (has_open_leaf t x) ∙ ap (λ (q : Sequent). has_open_leaf q x) same
  where
    or_false : (b : Bool) → (b || false) ≡ b
    or_false true = refl
    or_false false = refl
open_more (t ∷ ss) rest s (y ∷ xs) x is = ap (λ b. has_open_leaf t y || b) (open_more ss rest s xs x is) ∙ or_assoc (has_open_leaf t y) (have_open_leaf ss (proofs xs)) (has_open_leaf s x)

-- ---- the premises, from the one at i on
pub record Stepping (keeps : Bool) (f : ℕ → Sequent → Traced (Option Proof)) (i : ℕ) (ss : List Sequent) (xs : List Proof) (c : Children) (now : Funds) (h : Course) (old : Funds) (h0 : Course) : Type 0 where
  pub going : Going noted (all_built f h.nodes (drop i ss) xs) now h (all_built f h0.nodes ss []) old h0
  pub trees : AreGrown keeps ss xs c
  pub length : length xs ≡ i
  pub nodes : h.nodes ≡ h0.nodes + nodes_in_all (proofs xs)
  pub paid : h.nodes ≤ now.spent
  pub funds : now.spent ≤ now.budget
  pub budget : now.budget ≡ old.budget

pub no_kept : (keeps : Bool) → AreKept keeps [] []
no_kept true = refl
no_kept false = refl

pub stepping_starts : (keeps : Bool) (f : ℕ → Sequent → Traced (Option Proof)) (ss : List Sequent) (c : Children) (old : Funds) (h : Course) → c ≡ record { nodes = []; constraints = []; has_open = false } → h.nodes ≤ old.spent
    → old.spent ≤ old.budget → Stepping keeps f 0 ss [] c old h old h
stepping_starts keeps f ss c old h is paid funds = subst (λ (z : Children). Stepping keeps f 0 ss [] z old h old h) (sym is) (record {
  going = going_all (all_built f h.nodes ss []) old h;
  trees = record { nodes = no_kept keeps; constraints = refl; has_open = sym (none_open ss) };
  length = refl;
  nodes = omega arith;
  paid = paid;
  funds = funds;
  budget = refl;
})

-- what is left, with its first premise
at_premise : {keeps : Bool} {f : ℕ → Sequent → Traced (Option Proof)} {i : ℕ} {ss : List Sequent} {xs : List Proof} {c : Children} {now : Funds} {h : Course} {old : Funds} {h0 : Course} (s : Sequent) → Stepping keeps f i ss xs c now h old h0 → drop i ss ≡ s ∷ drop (i + 1) ss
    → Going noted (next (f h.nodes s) (on_some (λ x. all_built f (h.nodes + nodes_in x) (drop (i + 1) ss) (xs ++ x ∷ [])))) now h (all_built f h0.nodes ss []) old h0
at_premise {keeps} {f} {i} {ss} {xs} {c} {now} {h} {old} {h0} s st is = subst (λ (ts : List Sequent). Going noted (all_built f h.nodes ts xs) now h (all_built f h0.nodes ss []) old h0) is st.going

pub premise_cut : {keeps : Bool} {f : ℕ → Sequent → Traced (Option Proof)} {i : ℕ} {ss : List Sequent} {xs : List Proof} {c : Children} {now b : Funds} {h d : Course} {old : Funds} {h0 : Course} {e : StepFault} {P : List Proof → Children → Type 0} (s : Sequent) (r : Result (Option Children) StepFault)
    → Stepping keeps f i ss xs c now h old h0 → drop i ss ≡ s ∷ drop (i + 1) ss → IsErrAnd r (λ x. x ≡ e) → Followed noted (f h.nodes s) now h (Err e) b d → Makes P (all_built f h0.nodes ss []) old h0 r b d
premise_cut {f = f} {h = h} {e = e} s r st is err w = makes_err e r err (going_ends (at_premise s st is) (follow_err (f h.nodes s) _ (Err e) refl w))

pub premise_none : {keeps : Bool} {f : ℕ → Sequent → Traced (Option Proof)} {i : ℕ} {ss : List Sequent} {xs : List Proof} {c : Children} {now b : Funds} {h d : Course} {old : Funds} {h0 : Course} (s : Sequent) → Stepping keeps f i ss xs c now h old h0
    → drop i ss ≡ s ∷ drop (i + 1) ss → Followed noted (f h.nodes s) now h (Ok None) b d → Followed noted (all_built f h0.nodes ss []) old h0 (Ok None) b d
premise_none {f = f} {h = h} s st is w = going_ends (at_premise s st is) (follow_ok (f h.nodes s) _ w (follow_just None None refl))

pub stepping_memory : {keeps : Bool} {f : ℕ → Sequent → Traced (Option Proof)} {i : ℕ} {ss : List Sequent} {xs : List Proof} {c : Children} {now : Funds} {h t : Course} {old : Funds} {h0 : Course} {P : List Proof → Children → Type 0} (r : Result (Option Children) StepFault) → Stepping keeps f i ss xs c now h old h0
    → IsErrAnd r (λ x. x ≡ Memory) → Makes P (all_built f h0.nodes ss []) old h0 r now t
stepping_memory r st err = makes_err Memory r err (going_ends st.going (follow_memory (Err Memory) refl))

pub premise_memory : {keeps : Bool} {f : ℕ → Sequent → Traced (Option Proof)} {i : ℕ} {ss : List Sequent} {xs : List Proof} {c : Children} {now b : Funds} {h d t : Course} {old : Funds} {h0 : Course} {P : List Proof → Children → Type 0} (s : Sequent) (x : Proof) (r : Result (Option Children) StepFault)
    → Stepping keeps f i ss xs c now h old h0 → drop i ss ≡ s ∷ drop (i + 1) ss → IsErrAnd r (λ y. y ≡ Memory) → Followed noted (f h.nodes s) now h (Ok (Some x)) b d → Makes P (all_built f h0.nodes ss []) old h0 r b t
premise_memory {f = f} {h = h} s x r st is err w = makes_err Memory r err (going_ends (at_premise s st is) (follow_ok (f h.nodes s) _ w (follow_memory (Err Memory) refl)))

pub premise_built : {keeps : Bool} {f : ℕ → Sequent → Traced (Option Proof)} {i : ℕ} {ss : List Sequent} {xs : List Proof} {c : Children} {now b : Funds} {h d : Course} {old : Funds} {h0 : Course} (s : Sequent) (x : Proof) (t : Built) (c2 : Children) → Stepping keeps f i ss xs c now h old h0
    → drop i ss ≡ s ∷ drop (i + 1) ss → Followed noted (f h.nodes s) now h (Ok (Some x)) b d → IsNumbered keeps s h.nodes d.nodes b.spent x t → c2.nodes ≡ c.nodes ++ listed t.root
    → c2.constraints ≡ c.constraints ++ t.constraint ∷ [] → c2.has_open ≡ (c.has_open || t.has_open) → Stepping keeps f (i + 1) ss (xs ++ x ∷ []) c2 b d old h0
premise_built {keeps} {f} {i} {ss} {xs} {c} {now} {b} {h} {d} {old} {h0} s x t c2 st is w n nodes_is constraints_is open_is =
    let later = followed_later (Ok (Some x)) st.funds w in
    let going : Going noted (all_built f (h.nodes + nodes_in x) (drop (i + 1) ss) (xs ++ x ∷ [])) b d (all_built f h0.nodes ss []) old h0 =
    going_next (f h.nodes s) (on_some (λ y. all_built f (h.nodes + nodes_in y) (drop (i + 1) ss) (xs ++ y ∷ []))) (at_premise s st is) w in
    let here : drop (length xs) ss ≡ s ∷ drop (i + 1) ss = ap (λ k. drop k ss) st.length ∙ is in
    let count = n.nodes in
    let before = st.nodes in
    let sum : nodes_in_all (proofs (xs ++ x ∷ [])) ≡ nodes_in_all (proofs xs) + nodes_in x = nodes_more xs x in
    record {
      going = subst (λ k. Going noted (all_built f k (drop (i + 1) ss) (xs ++ x ∷ [])) b d (all_built f h0.nodes ss []) old h0) (sym count) going;
      trees = record {
        nodes = subst (AreKept keeps (xs ++ x ∷ [])) (sym nodes_is) (kept_more keeps xs x c.nodes t.root (st.trees).nodes (n.tree).root);
        constraints =
            constraints_is ∙ ap (λ (ds : List (List (List Literal))). ds ++ t.constraint ∷ []) (st.trees).constraints ∙ ap (λ (e : List (List Literal)). map given xs ++ e ∷ []) (n.tree).constraint ∙ sym (given_more xs x);
        has_open = open_is ∙ ap (λ e. e || t.has_open) (st.trees).has_open ∙ ap (λ e. have_open_leaf ss (proofs xs) || e) (n.tree).has_open ∙ sym (open_more ss (drop (i + 1) ss) s xs x here);
      };
      length = length_more xs x ∙ ap (λ k. k + 1) st.length;
      nodes = omega (arith, count, before, sum);
      paid = n.paid;
      funds = later.within;
      budget = later.budget ∙ st.budget;
    }
  where
    length_more : (ys : List Proof) (y : Proof) → length (ys ++ y ∷ []) ≡ length ys + 1
    length_more [] y = refl
    length_more (z ∷ ys) y = let m = length_more ys y in omega (arith, m)

pub all_grown : {keeps : Bool} {f : ℕ → Sequent → Traced (Option Proof)} {i : ℕ} {ss : List Sequent} {xs : List Proof} {c : Children} {now : Funds} {h : Course} {old : Funds} {h0 : Course} → Stepping keeps f i ss xs c now h old h0 → drop i ss ≡ []
    → Followed noted (all_built f h0.nodes ss []) old h0 (Ok (Some xs)) now h
all_grown {keeps} {f} {i} {ss} {xs} {c} {now} {h} {old} {h0} st is =
    going_ends st.going (subst (λ (ts : List Sequent). Followed noted (all_built f h.nodes ts xs) now h (Ok (Some xs)) now h) (sym is) (follow_just (Some xs) (Some xs) refl))

pub all_numbered : {keeps : Bool} {f : ℕ → Sequent → Traced (Option Proof)} {i : ℕ} {ss : List Sequent} {xs : List Proof} {c : Children} {now : Funds} {h : Course} {old : Funds} {h0 : Course} → Stepping keeps f i ss xs c now h old h0 → AreNumbered keeps ss h0.nodes h.nodes now.spent xs c
all_numbered st = record { trees = st.trees; nodes = st.nodes; paid = st.paid }

-- ---- a node
-- the item at a place, and what comes after it
pub item_at : {X : Type 0} (xs : List X) (i : ℕ) (x : X) → slice_get xs i ≡ Some x → drop i xs ≡ x ∷ drop (i + 1) xs
item_at xs i x is = drop_more xs i x (slice_get_within xs i x is) ∙ ap (λ z. z ∷ drop (i + 1) xs) (get_or_from_slice_get xs i x x is)

pub no_level : (limit left n : ℕ) (s : Sequent) {a : Funds} {c : Course} → left ≡ 0 → Followed noted (built limit left n s) a c (Ok None) a c
unfolding built
no_level limit zero n s {a} {c} is = follow_just None None refl
no_level limit (suc left) n s {a} {c} is = absurd (omega (arith, is))

built_at : (limit left n : ℕ) (s : Sequent) → (left ≡ 0 → ⊥) → built limit left n s ≡ entered (built limit (left - 1)) n s (picked limit s.members)
unfolding built
built_at limit zero n s some = absurd (some refl)
built_at limit (suc left) n s some = let e : left ≡ suc left - 1 = omega arith in ap (λ k. entered (built limit k) n s (picked limit s.members)) e

-- what an entered node did, the canonical tree does where the node's rule is the first that fits
pub built_then : (limit left : ℕ) (s : Sequent) (p : Pick) (c : Course) {a b : Funds} {d : Course} {P : Proof → Built → Type 0} (r : Result (Option Built) StepFault) → (left ≡ 0 → ⊥) → p ≡ picked limit s.members
    → Makes P (entered (built limit (left - 1)) c.nodes s p) a c r b d → Makes P (built limit left c.nodes s) a c r b d
built_then limit left s p c {a} {b} {d} {P} r some first rest =
    subst (λ (w : Traced (Option Proof)). Makes P w a c r b d) (sym (built_at limit left c.nodes s some))
    (subst (λ (q : Pick). Makes P (entered (built limit (left - 1)) c.nodes s q) a c r b d) first rest)

-- the work of a node after it was entered
abbrev pub inside : (ℕ → Sequent → Traced (Option Proof)) → ℕ → Sequent → Pick → Traced (Option Proof)
inside f n s p = next (pay (fee s p)) (λ _. next (all_built f (n + 1) (premises_of s p) []) (on_some (finished n s p)))

entered_then : (f : ℕ → Sequent → Traced (Option Proof)) (s : Sequent) (p : Pick) (c : Course) {a b : Funds} {c1 d : Course} {r : Result (Option Proof) StepFault} → c1 ≡ noted c (enter c.nodes)
    → Followed noted (inside f c.nodes s p) a c1 r b d → Followed noted (entered f c.nodes s p) a c r b d
entered_then f s p c is rest = follow_note (enter c.nodes) _ is rest

pub node_memory : (f : ℕ → Sequent → Traced (Option Proof)) (s : Sequent) (p : Pick) (c : Course) {a : Funds} {d : Course} {P : Proof → Built → Type 0} (r : Result (Option Built) StepFault) → IsErrAnd r (λ x. x ≡ Memory)
    → Makes P (entered f c.nodes s p) a c r a d
node_memory f s p c r err = makes_memory r err

pub node_unpaid : (f : ℕ → Sequent → Traced (Option Proof)) (s : Sequent) (p : Pick) (c : Course) {a b : Funds} {c1 : Course} {e : StepFault} {P : Proof → Built → Type 0} (r : Result (Option Built) StepFault) → c1 ≡ noted c (enter c.nodes)
    → IsErrAnd r (λ x. x ≡ e) → Charged (pay (fee s p)) a (Err e) b → Makes P (entered f c.nodes s p) a c r b c1
node_unpaid f s p c {e = e} r is err paid = makes_err e r err (entered_then f s p c is (follow_err (pay (fee s p)) _ (Err e) refl (follow_unnoted (Err e) paid)))

-- the premises begin with the number after that of the node
numbered_on : (f : ℕ → Sequent → Traced (Option Proof)) (s : Sequent) (p : Pick) (c : Course) {b g : Funds} {c1 d : Course} {r : Result (Option (List Proof)) StepFault} → c1 ≡ noted c (enter c.nodes)
    → Followed noted (all_built f c1.nodes (premises_of s p) []) b c1 r g d → Followed noted (all_built f (c.nodes + 1) (premises_of s p) []) b c1 r g d
numbered_on f s p c {b} {g} {c1} {d} {r} is h = subst (λ k. Followed noted (all_built f k (premises_of s p) []) b c1 r g d) (ap (λ (z : Course). z.nodes) is) h

pub node_cut : (f : ℕ → Sequent → Traced (Option Proof)) (s : Sequent) (p : Pick) (c : Course) {a b g : Funds} {c1 d : Course} {u : Unit {0}} {e : StepFault} {P : Proof → Built → Type 0} (r : Result (Option Built) StepFault)
    → c1 ≡ noted c (enter c.nodes) → Charged (pay (fee s p)) a (Ok u) b → IsErrAnd r (λ x. x ≡ e) → Followed noted (all_built f c1.nodes (premises_of s p) []) b c1 (Err e) g d → Makes P (entered f c.nodes s p) a c r g d
node_cut f s p c {u = u} {e = e} r is paid err all =
    makes_err e r err (entered_then f s p c is (follow_ok (pay (fee s p)) _ (follow_unnoted (Ok u) paid) (follow_err (all_built f _ (premises_of s p) []) _ (Err e) refl (numbered_on f s p c is all))))

pub node_none : (f : ℕ → Sequent → Traced (Option Proof)) (s : Sequent) (p : Pick) (c : Course) {a b g : Funds} {c1 d : Course} {u : Unit {0}} → c1 ≡ noted c (enter c.nodes) → Charged (pay (fee s p)) a (Ok u) b
    → Followed noted (all_built f c1.nodes (premises_of s p) []) b c1 (Ok None) g d → Followed noted (entered f c.nodes s p) a c (Ok None) g d
node_none f s p c {u = u} is paid all =
    entered_then f s p c is (follow_ok (pay (fee s p)) _ (follow_unnoted (Ok u) paid) (follow_ok (all_built f _ (premises_of s p) []) _ (numbered_on f s p c is all) (follow_just None None refl)))

pub node_built : (f : ℕ → Sequent → Traced (Option Proof)) (s : Sequent) (p : Pick) (c : Course) (xs : List Proof) {a b g k : Funds} {c1 d e : Course} {u : Unit {0}} {r : Result (Option Proof) StepFault} → c1 ≡ noted c (enter c.nodes)
    → Charged (pay (fee s p)) a (Ok u) b → Followed noted (all_built f c1.nodes (premises_of s p) []) b c1 (Ok (Some xs)) g d → Followed noted (finished c.nodes s p xs) g d r k e → Followed noted (entered f c.nodes s p) a c r k e
node_built f s p c xs {u = u} is paid all end =
    entered_then f s p c is (follow_ok (pay (fee s p)) _ (follow_unnoted (Ok u) paid) (follow_ok (all_built f _ (premises_of s p) []) _ (numbered_on f s p c is all) end))

-- a node that was entered has been charged
one_fee : (s : Sequent) (p : Pick) → 1 ≤ capped (fee s p)
one_fee s (pick.Trivial i) = omega arith
one_fee s (pick.Alpha i) = omega arith
one_fee s (pick.Delta i) = omega arith
one_fee s (pick.Beta i) = omega arith
one_fee s (pick.Gamma i) = omega arith
one_fee s pick.Close = omega arith

pub node_paid : (s : Sequent) (p : Pick) (c : Course) {a b : Funds} {c1 : Course} {u : Unit {0}} → c1 ≡ noted c (enter c.nodes) → a.spent ≤ a.budget → c.nodes ≤ a.spent → Charged (pay (fee s p)) a (Ok u) b → (c1.nodes ≤ b.spent) × (b.spent ≤ b.budget)
unfolding step
node_paid s p c {a} {b} {c1} {u} is funds paid did =
    let w = followed_whole noted (pay (fee s p)) a b c c u funds (follow_unnoted (Ok u) did) in
    let later = followed_later {add = noted} {s = c} {t = c} (Ok u) funds (follow_unnoted (Ok u) did) in
    let sum : b.spent ≡ a.spent + (capped (fee s p) + 0) = ap (λ z. z.funds.spent) w.1.stands in
    let one = one_fee s p in
    let count : c1.nodes ≡ c.nodes + 1 = ap (λ (z : Course). z.nodes) is in
    (omega (arith, paid, sum, one, count), later.within)

-- ---- leaving a node
open_at_leaf : (s : Sequent) (p : Pick) (xs : List Proof) {b : Bool} (log : List Entry) (d : List (List Literal)) → xs ≡ [] → b ≡ list_any (λ m. is_open m.formula) s.members → b ≡ has_open_leaf s (node p (proofs xs) log d)
open_at_leaf s p [] log d none is = is
open_at_leaf s p (x ∷ xs) log d none is = absurd (cc)

open_within : (s : Sequent) (p : Pick) (xs : List Proof) {b : Bool} (log : List Entry) (d : List (List Literal)) → (xs ≡ [] → ⊥) → b ≡ have_open_leaf (premises_of s p) (proofs xs) → b ≡ has_open_leaf s (node p (proofs xs) log d)
open_within s p [] log d some is = absurd (some refl)
open_within s p (x ∷ xs) log d some is = is

no_given : (xs : List Proof) → map given xs ≡ [] → xs ≡ []
no_given [] is = refl
no_given (x ∷ xs) is = absurd (cc)

-- without premises a node is a leaf
pub leaf_open : (s : Sequent) (p : Pick) (c : Children) (b none : Bool) → (IsTrue none ↔ (c.constraints ≡ [])) → none ≡ true → b ≡ list_any (λ m. is_open m.formula) s.members
    → (keeps : Bool) (xs : List Proof) (log : List Entry) (d : List (List Literal)) → AreGrown keeps (premises_of s p) xs c → b ≡ has_open_leaf s (node p (proofs xs) log d)
leaf_open s p c b none both is b_is keeps xs log d grown = open_at_leaf s p xs log d (no_given xs (sym grown.constraints ∙ both.0 (subst IsTrue (sym is) refl))) b_is

pub inner_open : (s : Sequent) (p : Pick) (c : Children) (none : Bool) → (IsTrue none ↔ (c.constraints ≡ [])) → none ≡ false
    → (keeps : Bool) (xs : List Proof) (log : List Entry) (d : List (List Literal)) → AreGrown keeps (premises_of s p) xs c → c.has_open ≡ has_open_leaf s (node p (proofs xs) log d)
inner_open s p c none both is keeps xs log d grown = open_within s p xs log d (λ e. by none is (both.1 (grown.constraints ∙ ap (λ (ys : List Proof). map given ys) e))) grown.has_open
  where
    by : (t : Bool) → t ≡ false → IsTrue t → ⊥
    by true e h = absurd (cc)
    by false e h = absurd (cc)

finished_is : (n : ℕ) (s : Sequent) (p : Pick) (xs : List Proof) → next (note (back n)) (λ _. next (making s p (map given xs)) (λ r. just (Some (node p (proofs xs) r.1.entries r.0)))) ≡ finished n s p xs
finished_is n s p xs =
    let w = in_new_log (canonical_constraint s p (map given xs)) in
    let log : ElimLog = record { entries = entries_of (canonical_constraint s p (map given xs)).events } in
    let k : List (List Literal) × ElimLog → Traced (Option Proof) = (λ r. just (Some (node p (proofs xs) r.1.entries r.0))) in
    ap (λ z. next (note (back n)) (λ _. z))
    (next-assoc w (λ d. just (d, log)) k ∙ next-same w (λ d. next (just (d, log)) k) (λ d. k (d, log)) (next-just (w.value, log) k))

as_finished : (n : ℕ) (s : Sequent) (p : Pick) (xs : List Proof) {a b : Funds} {c d : Course} {r : Result (Option Proof) StepFault}
    → Followed noted (next (note (back n)) (λ _. next (making s p (map given xs)) (λ r. just (Some (node p (proofs xs) r.1.entries r.0))))) a c r b d → Followed noted (finished n s p xs) a c r b d
as_finished n s p xs {a} {b} {c} {d} {r} h = subst (λ (w : Traced (Option Proof)). Followed noted w a c r b d) (finished_is n s p xs) h

made_of : (s : Sequent) (p : Pick) (xs : List Proof) (ds : List (List (List Literal))) {a b : Funds} {c d : Course} (r : Result (List (List Literal) × ElimLog) StepFault) → ds ≡ map given xs → Followed noted (making s p ds) a c r b d
    → Followed noted (making s p (map given xs)) a c r b d
made_of s p xs ds {a} {b} {c} {d} r is h = subst (λ (es : List (List (List Literal))). Followed noted (making s p es) a c r b d) is h

pub finish_cut : (n : ℕ) (s : Sequent) (p : Pick) (xs : List Proof) (ds : List (List (List Literal))) {a b : Funds} {c c1 d : Course} {e : StepFault} {P : Proof → Built → Type 0} (r : Result (Option Built) StepFault) → c1 ≡ noted c (back n)
    → ds ≡ map given xs → IsErrAnd r (λ x. x ≡ e) → Followed noted (making s p ds) a c1 (Err e) b d → Makes P (finished n s p xs) a c r b d
finish_cut n s p xs ds {e = e} r back_is ds_is err h =
    makes_err e r err (as_finished n s p xs (follow_note (back n) _ back_is (follow_err (making s p (map given xs)) _ (Err e) refl (made_of s p xs ds (Err e) ds_is h))))

pub finish_memory : (n : ℕ) (s : Sequent) (p : Pick) (xs : List Proof) (ds : List (List (List Literal))) {a b : Funds} {c c1 d f : Course} {P : Proof → Built → Type 0} (v : List (List Literal) × ElimLog) (r : Result (Option Built) StepFault)
    → c1 ≡ noted c (back n) → ds ≡ map given xs → IsErrAnd r (λ x. x ≡ Memory) → Followed noted (making s p ds) a c1 (Ok v) b d → Makes P (finished n s p xs) a c r b f
finish_memory n s p xs ds v r back_is ds_is err h =
    makes_err Memory r err (as_finished n s p xs (follow_note (back n) _ back_is (follow_ok (making s p (map given xs)) _ (made_of s p xs ds (Ok v) ds_is h) (follow_memory (Err Memory) refl))))

pub finish_built : (n : ℕ) (s : Sequent) (p : Pick) (xs : List Proof) (ds : List (List (List Literal))) (keeps : Bool) (t : Built) {a b : Funds} {c c1 d : Course} (v : List (List Literal) × ElimLog) → c1 ≡ noted c (back n) → ds ≡ map given xs
    → Followed noted (making s p ds) a c1 (Ok v) b d → d.nodes ≡ c1.nodes → t.constraint ≡ v.0 → IsKeptNode keeps (node p (proofs xs) v.1.entries t.constraint) t.root
    → t.has_open ≡ has_open_leaf s (node p (proofs xs) v.1.entries v.0) → Makes (IsFinished keeps s xs c.nodes d.nodes) (finished n s p xs) a c (Ok (Some t)) b d
finish_built n s p xs ds keeps t {c = c} v back_is ds_is h nodes_is constraint_is root_is open_is =
    made_some (node p (proofs xs) v.1.entries v.0) t
    (as_finished n s p xs (follow_note (back n) _ back_is (follow_ok (making s p (map given xs)) _ (made_of s p xs ds (Ok v) ds_is h) (follow_just (Some (node p (proofs xs) v.1.entries v.0)) (Some (node p (proofs xs) v.1.entries v.0)) refl))))
    (record {
      tree = record { root = subst (λ (g : List (List Literal)). IsKeptNode keeps (node p (proofs xs) v.1.entries g) t.root) constraint_is root_is; constraint = constraint_is; has_open = open_is };
      size = omega arith;
      nodes = nodes_is ∙ ap (λ (z : Course). z.nodes) back_is;
    })

-- the numbers of a node's tree
numbered_node : (keeps : Bool) (s : Sequent) (p : Pick) (c : Course) (cs : Children) {g k : Funds} {c1 d f : Course} (xs : List Proof) (x : Proof) (t : Built) {w : Traced (Option Proof)} → c1 ≡ noted c (enter c.nodes)
    → AreNumbered keeps (premises_of s p) c1.nodes d.nodes g.spent xs cs → g.spent ≤ g.budget → Followed noted w g d (Ok (Some x)) k f → IsFinished keeps s xs d.nodes f.nodes x t → IsNumbered keeps s c.nodes f.nodes k.spent x t
numbered_node keeps s p c cs xs x t is n funds w end =
    let later = (followed_later (Ok (Some x)) funds w).spent in
    let first = ap (λ (z : Course). z.nodes) is in
    let all = n.nodes in
    let paid = n.paid in
    let count = end.size in
    let same = end.nodes in
    record { tree = end.tree; nodes = omega (arith, first, all, count, same); paid = omega (arith, paid, later, same) }

pub node_made : (keeps : Bool) (f : ℕ → Sequent → Traced (Option Proof)) (s : Sequent) (p : Pick) (c : Course) (xs : List Proof) (cs : Children) {a b g k : Funds} {c1 d e : Course} {u : Unit {0}} (r : Result (Option Built) StepFault)
    → c1 ≡ noted c (enter c.nodes) → Charged (pay (fee s p)) a (Ok u) b → Followed noted (all_built f c1.nodes (premises_of s p) []) b c1 (Ok (Some xs)) g d → AreNumbered keeps (premises_of s p) c1.nodes d.nodes g.spent xs cs
    → g.spent ≤ g.budget → Makes (IsFinished keeps s xs d.nodes e.nodes) (finished c.nodes s p xs) g d r k e → Makes (IsNumbered keeps s c.nodes e.nodes k.spent) (entered f c.nodes s p) a c r k e
node_made keeps f s p c xs cs r is paid all n funds end =
    makes_then (λ x h. node_built f s p c xs is paid all h) (λ x t h done. numbered_node keeps s p c cs xs x t is n funds h done) end

-- and of a leaf that is closed
pub leaf_made : (keeps : Bool) (f : ℕ → Sequent → Traced (Option Proof)) (s t : Sequent) (c : Course) {a b k : Funds} {c1 e : Course} {u : Unit {0}} (r : Result (Option Built) StepFault) → t ≡ s → c1 ≡ noted c (enter c.nodes)
    → a.spent ≤ a.budget → c.nodes ≤ a.spent → Charged (pay (fee s pick.Close)) a (Ok u) b → Makes (IsFinished keeps t [] c1.nodes e.nodes) (finished c.nodes t pick.Close []) b c1 r k e
    → Makes (IsNumbered keeps s c.nodes e.nodes k.spent) (entered f c.nodes s pick.Close) a c r k e
leaf_made keeps f s t c {b = b} {k = k} {c1 = c1} {e = e} r same is funds paid did end =
    let now = node_paid s pick.Close c is funds paid did in
    let cs : Children = record { nodes = []; constraints = []; has_open = false } in
    let none : AreNumbered keeps [] c1.nodes c1.nodes b.spent [] cs = record { trees = record { nodes = no_kept keeps; constraints = refl; has_open = refl }; nodes = omega arith; paid = now.0 } in
    node_made keeps f s pick.Close c [] cs r is did (follow_just (Some []) (Some []) refl) none now.1
    (subst (λ (q : Sequent). Makes (IsFinished keeps q [] c1.nodes e.nodes) (finished c.nodes q pick.Close []) b c1 r k e) same end)
