-- Nodes of the code, where a walk is.
use Rattle.std.proofs.Common.{◌≡◌, ◌<◌, ◌≤◌, ℕ, zero, suc, ℤ, List, [], ◌∷◌, drop, length, map, get_or, Option, Some, None, Result, Ok, Err, IsErrAnd, refl, sym, ◌∙◌, ap, subst, arith}
use Rattle.std.specs.List.{AllByRecursion, slice_get}
use Rattle.base_budget.specs.declared.fault.StepFault.{StepFault}
use Rattle.base_budget.specs.declared.fault.StepFault.TheVariants.{Memory}
use Rattle.base_budget.specs.Trace.{Funds, Traced, just, next}
use Rattle.base_budget.proofs.Following.{Going, follow_err, follow_just, follow_memory, follow_ok, going_ends, going_next}
use Rattle.clause_set.specs.declared.literal.Literal.{Literal}
use Rattle.sequent.specs.declared.member.Pick.{Pick}
use Rattle.sequent.specs.declared.member.Pick.TheVariants as pick
use Rattle.sequent.specs.Rules.{premises_of}
use Rattle.sequent.specs.Sequent.{Sequent}
use Rattle.proof_tree.specs.declared.node.Node.{Node, out-Node}
use Rattle.proof_tree.specs.declared.node.Node.TheFolds.{fold_out-Node}
use Rattle.countermodel.specs.declared.walking.Stop as code
use Rattle.countermodel.specs.Doing.{DoesWork, unnoted}
use Rattle.countermodel.specs.Ready.{AreWalkReady, IsWalkReady}
use Rattle.countermodel.specs.Stopped.{stopped}
use Rattle.proof_tree.specs.Proof.{Proof, no_proof, and_proof, all_given, given, node, proofs}
use Rattle.proof_tree.specs.Rules.{first_given}
use Rattle.proof_tree.specs.Views.{proof_of, proof_step}
use Rattle.proof_tree.specs.Walk.{on_some}
use Rattle.solve_laws.specs.Solutions.{IsGiven}
use Rattle.model_trees.specs.Walk.{Stop, affirmed, denied, walk, walk_false, walk_first, where_none}

pub node_is : (x : Node) → proof_of x ≡ node (out-Node x).rule (proofs (map proof_of (out-Node x).children)) (out-Node x).log.entries (out-Node x).gives
node_is x = fold_out-Node Proof proof_step x

pub gives_is : (x : Node) → given (proof_of x) ≡ (out-Node x).gives
gives_is x = ap given (node_is x)

-- ---- outcomes
stopped_err : (e : StepFault) (r : Result (Option code.Stop) StepFault) → IsErrAnd r (λ x. x ≡ e) → IsErrAnd (stopped r) (λ x. x ≡ e)
stopped_err e (Ok o) h = absurd h
stopped_err e (Err x) h = h

pub wants_memory : {work : Traced (Option Stop)} {a : Funds} (r : Result (Option code.Stop) StepFault) → IsErrAnd r (λ x. x ≡ Memory) → DoesWork work a (stopped r) a
wants_memory r h = follow_memory (stopped r) (stopped_err Memory r h)

-- ---- lists
drop_at : {X : Type 0} (xs : List X) (i : ℕ) (x : X) → slice_get xs i ≡ Some x → (rest : List X) × (drop i xs ≡ x ∷ rest)
drop_at [] i x h = absurd (cc)
drop_at (y ∷ xs) zero x h = let same : y ≡ x = cc in (xs, λ j. same j ∷ xs)
drop_at (y ∷ xs) (suc i) x h = drop_at xs i x h

drop_none : {X : Type 0} (xs : List X) (i : ℕ) → slice_get xs i ≡ None → drop i xs ≡ []
drop_none [] zero h = refl
drop_none [] (suc i) h = refl
drop_none (y ∷ xs) zero h = absurd (cc)
drop_none (y ∷ xs) (suc i) h = drop_none xs i h

get_drop : {X : Type 0} (xs : List X) (i : ℕ) (x : X) (rest : List X) → drop i xs ≡ x ∷ rest → slice_get xs i ≡ Some x
get_drop [] zero x rest h = absurd (let z : [] ≡ x ∷ rest = h in cc)
get_drop [] (suc i) x rest h = absurd (let z : [] ≡ x ∷ rest = h in cc)
get_drop (y ∷ xs) zero x rest h = let same : y ≡ x = cc in ap Some same
get_drop (y ∷ xs) (suc i) x rest h = get_drop xs i x rest h

-- ---- the child number i and its premise
pub record ReadyChild (k : ℕ) (ss : List Sequent) (xs : List Node) (i : ℕ) (x : Node) (v : List ℤ) : Type 0 where
  pub premise : Sequent
  pub is : slice_get ss i ≡ Some premise
  pub ready : IsWalkReady k premise (proof_of x) v
  pub same : walk_first (drop i ss) (proofs (map proof_of (drop i xs))) v ≡ walk premise (proof_of x) v

ready_by : (k : ℕ) (ss : List Sequent) (xs : List Node) (i : ℕ) (x : Node) (v : List ℤ) (rest : List Node) → drop i xs ≡ x ∷ rest → (ds : List Sequent) → drop i ss ≡ ds → AreWalkReady k ds (and_proof (proof_of x) (proofs (map proof_of rest))) v
    → ReadyChild k ss xs i x v
ready_by k ss xs i x v rest q [] e r = absurd r
ready_by k ss xs i x v rest q (t ∷ ts) e r = record { premise = t; is = get_drop ss i t ts e; ready = r.0; same = (λ j. walk_first (e j) (proofs (map proof_of (q j))) v) }

pub ready_child : (k : ℕ) (ss : List Sequent) (xs : List Node) (i : ℕ) (x : Node) (v : List ℤ) → slice_get xs i ≡ Some x → AreWalkReady k (drop i ss) (proofs (map proof_of (drop i xs))) v → ReadyChild k ss xs i x v
ready_child k ss xs i x v is h =
    let d = drop_at xs i x is in
    ready_by k ss xs i x v (d.0) (d.1) (drop i ss) refl (subst (λ (ys : List Node). AreWalkReady k (drop i ss) (proofs (map proof_of ys)) v) (d.1) h)

some_same : {X : Type 0} (o : Option X) (x y : X) → o ≡ Some x → o ≡ Some y → x ≡ y
some_same o x y h k = let z : Some x ≡ Some y = sym h ∙ k in cc

pub ready_here : (k : ℕ) (ss : List Sequent) (xs : List Node) (i : ℕ) (x : Node) (v : List ℤ) (t : Sequent) → ReadyChild k ss xs i x v → slice_get ss i ≡ Some t → IsWalkReady k t (proof_of x) v
ready_here k ss xs i x v t r is = subst (λ (s : Sequent). IsWalkReady k s (proof_of x) v) (some_same (slice_get ss i) r.premise t r.is is) r.ready

pub walked_here : (k : ℕ) (ss : List Sequent) (xs : List Node) (i : ℕ) (x : Node) (v : List ℤ) (t : Sequent) {a b : Funds} (r : Result (Option Stop) StepFault) → ReadyChild k ss xs i x v → slice_get ss i ≡ Some t
    → DoesWork (walk t (proof_of x) v) a r b → DoesWork (walk_first (drop i ss) (proofs (map proof_of (drop i xs))) v) a r b
walked_here k ss xs i x v t {a} {b} r c is did =
    let same : walk_first (drop i ss) (proofs (map proof_of (drop i xs))) v ≡ walk t (proof_of x) v = c.same ∙ ap (λ (s : Sequent). walk s (proof_of x) v) (some_same (slice_get ss i) c.premise t c.is is) in
    subst (λ w. DoesWork w a r b) (sym same) did

none_left : (ds : List Sequent) (v : List ℤ) → walk_first ds no_proof v ≡ just None
none_left [] v = refl
none_left (d ∷ ds) v = refl

pub nothing_there : (ss : List Sequent) (xs : List Node) (i : ℕ) (v : List ℤ) {a : Funds} → slice_get xs i ≡ None → DoesWork (walk_first (drop i ss) (proofs (map proof_of (drop i xs))) v) a (Ok None) a
nothing_there ss xs i v {a} is =
    let same : walk_first (drop i ss) (proofs (map proof_of (drop i xs))) v ≡ just None = ap (λ (ys : List Node). walk_first (drop i ss) (proofs (map proof_of ys)) v) (drop_none xs i is) ∙ none_left (drop i ss) v in
    subst (λ w. DoesWork w a (Ok None) a) (sym same) (follow_just None None refl)

-- ---- delta: the first child
first_gives : (xs : List Node) (x : Node) → slice_get xs 0 ≡ Some x → first_given (all_given (proofs (map proof_of xs))) ≡ (out-Node x).gives
first_gives [] x h = absurd (cc)
first_gives (y ∷ xs) x h = let same : y ≡ x = cc in gives_is y ∙ ap (λ (z : Node). (out-Node z).gives) same

first_map : (xs : List Node) (x : Node) → slice_get xs 0 ≡ Some x → slice_get (map proof_of xs) 0 ≡ Some (proof_of x)
first_map [] x h = absurd (cc)
first_map (y ∷ xs) x h = let same : y ≡ x = cc in ap (λ (z : Node). Some (proof_of z)) same

pub first_is_given : (n : ℕ) (xs : List Node) (x : Node) (d : List (List Literal)) → slice_get xs 0 ≡ Some x → d ≡ (out-Node x).gives → ((y : Proof) → slice_get (map proof_of xs) 0 ≡ Some y → IsGiven n (given y)) → IsGiven n d
first_is_given n xs x d is same h = subst (IsGiven n) (gives_is x ∙ sym same) (h (proof_of x) (first_map xs x is))

abbrev Turn : ℕ → List Sequent → List Node → List ℤ → Traced (Option Stop)
Turn n ss xs v = next (denied (suc n) (first_given (all_given (proofs (map proof_of xs)))) v) (on_some (λ u. walk_first ss (proofs (map proof_of xs)) u))

at_denied : (n m : ℕ) (xs : List Node) (x : Node) (d : List (List Literal)) (v u : List ℤ) {a b : Funds} (r : Result (Option (List ℤ)) StepFault) → slice_get xs 0 ≡ Some x → m ≡ suc n → d ≡ (out-Node x).gives → u ≡ v → DoesWork (denied m d u) a r b
    → DoesWork (denied (suc n) (first_given (all_given (proofs (map proof_of xs)))) v) a r b
at_denied n m xs x d v u {a} {b} r is more same there did =
    let here : d ≡ first_given (all_given (proofs (map proof_of xs))) = same ∙ sym (first_gives xs x is) in
    subst (λ z. DoesWork z a r b) (λ j. denied (more j) (here j) (there j)) did

pub turn_cut : (n m : ℕ) (ss : List Sequent) (xs : List Node) (x : Node) (d : List (List Literal)) (v u : List ℤ) {a b : Funds} {e : StepFault} (r : Result (Option code.Stop) StepFault) → slice_get xs 0 ≡ Some x → m ≡ suc n
    → d ≡ (out-Node x).gives → u ≡ v → DoesWork (denied m d u) a (Err e) b → IsErrAnd r (λ y. y ≡ e) → DoesWork (Turn n ss xs v) a (stopped r) b
turn_cut n m ss xs x d v u {e = e} r is more same there did h = follow_err _ _ (stopped r) (stopped_err e r h) (at_denied n m xs x d v u (Err e) is more same there did)

pub turn_on : (n m : ℕ) (ss : List Sequent) (xs : List Node) (x : Node) (d : List (List Literal)) (v u w : List ℤ) (o : Option (List ℤ)) {a b c : Funds} (r : Result (Option Stop) StepFault) → slice_get xs 0 ≡ Some x → m ≡ suc n
    → d ≡ (out-Node x).gives → u ≡ v → o ≡ Some w → DoesWork (denied m d u) a (Ok o) b → DoesWork (walk_first ss (proofs (map proof_of xs)) w) b r c → DoesWork (Turn n ss xs v) a r c
turn_on n m ss xs x d v u w o {a} {b} r is more same there found did on =
    follow_ok _ _ (at_denied n m xs x d v u (Ok (Some w)) is more same there (subst (λ (z : Option (List ℤ)). DoesWork (denied m d u) a (Ok z) b) found did)) on

pub turn_none : (n m : ℕ) (ss : List Sequent) (xs : List Node) (x : Node) (d : List (List Literal)) (v u : List ℤ) (o : Option (List ℤ)) {a b : Funds} → slice_get xs 0 ≡ Some x → m ≡ suc n → d ≡ (out-Node x).gives → u ≡ v → o ≡ None
    → DoesWork (denied m d u) a (Ok o) b → DoesWork (Turn n ss xs v) a (Ok None) b
turn_none n m ss xs x d v u o {a} {b} is more same there found did =
    follow_ok _ _ (at_denied n m xs x d v u (Ok None) is more same there (subst (λ (z : Option (List ℤ)). DoesWork (denied m d u) a (Ok z) b) found did)) (follow_just None None refl)

pub none_first : (xs : List Node) → slice_get xs 0 ≡ None → 1 ≤ length xs → ⊥
none_first [] h some = absurd (omega (arith, some))
none_first (x ∷ xs) h some = absurd (cc)

-- ---- beta: child number i, where the first i have true constraints
pub record ForkAt (n k : ℕ) (ss : List Sequent) (xs : List Node) (i : ℕ) (x : Node) (d : List (List Literal)) (v u : List ℤ) : Type 0 where
  pub premise : Sequent
  pub first : walk_first (drop i ss) (proofs (map proof_of (drop i xs))) v ≡ walk premise (proof_of x) v
  pub same : walk_false n (drop i ss) (proofs (map proof_of (drop i xs))) v
      ≡ next (affirmed n d u) (where_none (walk premise (proof_of x) v) (walk_false n (drop (suc i) ss) (proofs (map proof_of (drop (suc i) xs))) v))

pub fork_at : (n k : ℕ) (ss : List Sequent) (xs : List Node) (i : ℕ) (x : Node) (d : List (List Literal)) (v u : List ℤ) → slice_get xs i ≡ Some x → d ≡ (out-Node x).gives → u ≡ v → AreWalkReady k ss (proofs (map proof_of xs)) v
    → ForkAt n k ss xs i x d v u
fork_at n k ss [] i x d v u is gives there r = absurd (let z : None ≡ Some x = is in cc)
fork_at n k [] (y ∷ xs) i x d v u is gives there r = absurd r
fork_at n k (s ∷ ss) (y ∷ xs) zero x d v u is gives there r =
    let one : y ≡ x = cc in
    let here : given (proof_of y) ≡ d = gives_is y ∙ ap (λ (z : Node). (out-Node z).gives) one ∙ sym gives in
    record { premise = s; first = (λ j. walk s (proof_of (one j)) v); same = (λ j. next (affirmed n (here j) (sym there j)) (where_none (walk s (proof_of (one j)) v) (walk_false n ss (proofs (map proof_of xs)) v))) }
fork_at n k (s ∷ ss) (y ∷ xs) (suc i) x d v u is gives there r = let q = fork_at n k ss xs i x d v u is gives there r.1 in record { premise = q.premise; first = q.first; same = q.same }

pub ready_drop : (k : ℕ) (ss : List Sequent) (xs : List Node) (i : ℕ) (v : List ℤ) → AreWalkReady k ss (proofs (map proof_of xs)) v → AreWalkReady k (drop i ss) (proofs (map proof_of (drop i xs))) v
ready_drop k ss xs zero v h = h
ready_drop k [] [] (suc i) v h = h
ready_drop k [] (x ∷ xs) (suc i) v h = absurd h
ready_drop k (s ∷ ss) [] (suc i) v h = absurd h
ready_drop k (s ∷ ss) (x ∷ xs) (suc i) v h = ready_drop k ss xs i v h.1

pub given_at : (n : ℕ) (xs : List Node) (i : ℕ) (x : Node) (d : List (List Literal)) → slice_get xs i ≡ Some x → d ≡ (out-Node x).gives → AllByRecursion (λ y. IsGiven n (given y)) (map proof_of xs) → IsGiven n d
given_at n [] i x d is gives h = absurd (let z : None ≡ Some x = is in cc)
given_at n (y ∷ xs) zero x d is gives h = let one : y ≡ x = cc in subst (IsGiven n) (gives_is y ∙ ap (λ (z : Node). (out-Node z).gives) one ∙ sym gives) h.0
given_at n (y ∷ xs) (suc i) x d is gives h = given_at n xs i x d is gives h.1

abbrev Left : ℕ → List Sequent → List Node → ℕ → List ℤ → Traced (Option Stop)
Left n ss xs i v = walk_false n (drop i ss) (proofs (map proof_of (drop i xs))) v

-- the loop's work, at the child's own test
at_child : (n k : ℕ) (ss : List Sequent) (xs : List Node) (i : ℕ) (x : Node) (d : List (List Literal)) (v u w : List ℤ) {work : Traced (Option Stop)} {a old : Funds} → (f : ForkAt n k ss xs i x d v u) → Going unnoted (Left n ss xs i v) a tt work old tt
    → Going unnoted (next (affirmed n d u) (where_none (walk f.premise (proof_of x) v) (Left n ss xs (suc i) v))) a tt work old tt
at_child n k ss xs i x d v u w {work} {a} {old} f inv = subst (λ z. Going unnoted z a tt work old tt) f.same inv

pub fork_cut : (n k : ℕ) (ss : List Sequent) (xs : List Node) (i : ℕ) (x : Node) (d : List (List Literal)) (w v u : List ℤ) {work : Traced (Option Stop)} {a b old : Funds} {e : StepFault} (r : Result (Option code.Stop) StepFault)
    → slice_get xs i ≡ Some x → d ≡ (out-Node x).gives → u ≡ v → v ≡ w → AreWalkReady k ss (proofs (map proof_of xs)) w → Going unnoted (Left n ss xs i v) a tt work old tt → DoesWork (affirmed n d u) a (Err e) b → IsErrAnd r (λ y. y ≡ e)
    → DoesWork work old (stopped r) b
fork_cut n k ss xs i x d w v u {e = e} r is gives there kept ready inv did h =
    let f = fork_at n k ss xs i x d v u is gives there (subst (λ (z : List ℤ). AreWalkReady k ss (proofs (map proof_of xs)) z) (sym kept) ready) in
    going_ends (at_child n k ss xs i x d v u w f inv) (follow_err _ _ (stopped r) (stopped_err e r h) did)

pub fork_on : (n k : ℕ) (ss : List Sequent) (xs : List Node) (i : ℕ) (x : Node) (d : List (List Literal)) (w v u : List ℤ) (o : Option (List ℤ)) {work : Traced (Option Stop)} {a b c old : Funds} (r : Result (Option Stop) StepFault)
    → slice_get xs i ≡ Some x → d ≡ (out-Node x).gives → u ≡ v → v ≡ w → AreWalkReady k ss (proofs (map proof_of xs)) w → Going unnoted (Left n ss xs i v) a tt work old tt → o ≡ None → DoesWork (affirmed n d u) a (Ok o) b
    → DoesWork (walk_first (drop i ss) (proofs (map proof_of (drop i xs))) v) b r c → DoesWork work old r c
fork_on n k ss xs i x d w v u o {a = a} {b = b} {c = c} r is gives there kept ready inv found did on =
    let f = fork_at n k ss xs i x d v u is gives there (subst (λ (z : List ℤ). AreWalkReady k ss (proofs (map proof_of xs)) z) (sym kept) ready) in
    going_ends (at_child n k ss xs i x d v u w f inv) (follow_ok _ _ (subst (λ (z : Option (List ℤ)). DoesWork (affirmed n d u) a (Ok z) b) found did) (subst (λ z. DoesWork z b r c) f.first on))

pub fork_more : (n k : ℕ) (ss : List Sequent) (xs : List Node) (i i2 : ℕ) (x : Node) (d : List (List Literal)) (w v u y : List ℤ) (o : Option (List ℤ)) {work : Traced (Option Stop)} {a b old : Funds}
    → slice_get xs i ≡ Some x → i2 ≡ suc i → d ≡ (out-Node x).gives → u ≡ v → v ≡ w → AreWalkReady k ss (proofs (map proof_of xs)) w → Going unnoted (Left n ss xs i v) a tt work old tt → o ≡ Some y → DoesWork (affirmed n d u) a (Ok o) b
    → Going unnoted (Left n ss xs i2 v) b tt work old tt
fork_more n k ss xs i i2 x d w v u y o {work} {a} {b} {old} is more gives there kept ready inv found did =
    let f = fork_at n k ss xs i x d v u is gives there (subst (λ (z : List ℤ). AreWalkReady k ss (proofs (map proof_of xs)) z) (sym kept) ready) in
    subst (λ (z : ℕ). Going unnoted (Left n ss xs z v) b tt work old tt) (sym more)
    (going_next _ _ (at_child n k ss xs i x d v u w f inv) (subst (λ (z : Option (List ℤ)). DoesWork (affirmed n d u) a (Ok z) b) found did))

drop_end : {X : Type 0} (xs : List X) (i : ℕ) → length xs ≤ i → drop i xs ≡ []
drop_end [] zero h = refl
drop_end [] (suc i) h = refl
drop_end (x ∷ xs) zero h = absurd (omega (arith, h))
drop_end (x ∷ xs) (suc i) h = drop_end xs i (omega (arith, h))

none_false : (n : ℕ) (ds : List Sequent) (v : List ℤ) → walk_false n ds no_proof v ≡ just None
none_false n [] v = refl
none_false n (d ∷ ds) v = refl

pub fork_ends : (n : ℕ) (ss : List Sequent) (xs : List Node) (i : ℕ) (v : List ℤ) {work : Traced (Option Stop)} {a old : Funds} → length xs ≤ i → Going unnoted (Left n ss xs i v) a tt work old tt → DoesWork work old (Ok None) a
fork_ends n ss xs i v {work} {a} {old} over inv =
    let same : Left n ss xs i v ≡ just None = ap (λ (ys : List Node). walk_false n (drop i ss) (proofs (map proof_of ys)) v) (drop_end xs i over) ∙ none_false n (drop i ss) v in
    going_ends (subst (λ z. Going unnoted z a tt work old tt) same inv) (follow_just None None refl)

pub get_at : (xs : List Node) (i : ℕ) (x : Node) → x ≡ get_or xs i x → i < length xs → slice_get xs i ≡ Some x
get_at [] i x h lt = absurd (omega (arith, lt))
get_at (y ∷ xs) zero x h lt = ap Some (sym h)
get_at (y ∷ xs) (suc i) x h lt = get_at xs i x h (omega (arith, lt))

-- ---- the node itself
abbrev At : Node → Pick → Proof
At x p = node p (proofs (map proof_of (out-Node x).children)) (out-Node x).log.entries (out-Node x).gives

walk_at : (s : Sequent) (x : Node) (p : Pick) (v : List ℤ) → (out-Node x).rule ≡ p → walk s (proof_of x) v ≡ walk s (At x p) v
walk_at s x p v is = ap (λ z. walk s z v) (node_is x) ∙ (λ j. walk s (At x (is j)) v)

pub nowhere_trivial : (s : Sequent) (x : Node) (i : ℕ) (v : List ℤ) {a : Funds} → (out-Node x).rule ≡ pick.Trivial i → DoesWork (walk s (proof_of x) v) a (Ok None) a
nowhere_trivial s x i v {a} is = subst (λ w. DoesWork w a (Ok None) a) (sym (walk_at s x (pick.Trivial i) v is)) (follow_just None None refl)

pub nowhere_gamma : (s : Sequent) (x : Node) (i : ℕ) (v : List ℤ) {a : Funds} → (out-Node x).rule ≡ pick.Gamma i → DoesWork (walk s (proof_of x) v) a (Ok None) a
nowhere_gamma s x i v {a} is = subst (λ w. DoesWork w a (Ok None) a) (sym (walk_at s x (pick.Gamma i) v is)) (follow_just None None refl)

pub stops : (s : Sequent) (x : Node) (v : List ℤ) {a : Funds} → (out-Node x).rule ≡ pick.Close → DoesWork (walk s (proof_of x) v) a (Ok (Some (record { values = v; members = s.members }))) a
stops s x v {a} is = subst (λ w. DoesWork w a (Ok (Some (record { values = v; members = s.members }))) a) (sym (walk_at s x pick.Close v is)) (follow_just _ _ refl)

pub walks_alpha : (s : Sequent) (x : Node) (i : ℕ) (ys : List Node) (v : List ℤ) {a b : Funds} (r : Result (Option Stop) StepFault) → (out-Node x).rule ≡ pick.Alpha i → ys ≡ (out-Node x).children
    → DoesWork (walk_first (premises_of s (out-Node x).rule) (proofs (map proof_of ys)) v) a r b → DoesWork (walk s (proof_of x) v) a r b
walks_alpha s x i ys v {a} {b} r is same did =
    let to : walk_first (premises_of s (out-Node x).rule) (proofs (map proof_of ys)) v ≡ walk s (proof_of x) v = (λ j. walk_first (premises_of s (is j)) (proofs (map proof_of (same j))) v) ∙ sym (walk_at s x (pick.Alpha i) v is) in
    subst (λ w. DoesWork w a r b) to did

pub walks_delta : (s : Sequent) (x : Node) (i : ℕ) (ys : List Node) (v : List ℤ) {a b : Funds} (r : Result (Option Stop) StepFault) → (out-Node x).rule ≡ pick.Delta i → ys ≡ (out-Node x).children
    → DoesWork (Turn s.count (premises_of s (out-Node x).rule) ys v) a r b → DoesWork (walk s (proof_of x) v) a r b
walks_delta s x i ys v {a} {b} r is same did =
    let to : Turn s.count (premises_of s (out-Node x).rule) ys v ≡ walk s (proof_of x) v = (λ j. Turn s.count (premises_of s (is j)) (same j) v) ∙ sym (walk_at s x (pick.Delta i) v is) in
    subst (λ w. DoesWork w a r b) to did

pub walks_beta : (s : Sequent) (x : Node) (i : ℕ) (ys : List Node) (v : List ℤ) {a b : Funds} (r : Result (Option Stop) StepFault) → (out-Node x).rule ≡ pick.Beta i → ys ≡ (out-Node x).children
    → DoesWork (walk_false s.count (premises_of s (out-Node x).rule) (proofs (map proof_of ys)) v) a r b → DoesWork (walk s (proof_of x) v) a r b
walks_beta s x i ys v {a} {b} r is same did =
    let to : walk_false s.count (premises_of s (out-Node x).rule) (proofs (map proof_of ys)) v ≡ walk s (proof_of x) v =
    (λ j. walk_false s.count (premises_of s (is j)) (proofs (map proof_of (same j))) v) ∙ sym (walk_at s x (pick.Beta i) v is) in
    subst (λ w. DoesWork w a r b) to did
