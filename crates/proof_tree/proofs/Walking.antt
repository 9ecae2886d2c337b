-- The walk over a tree ends well exactly where the tree gives its constraint.
use Rattle.std.proofs.Common.{◌≡◌, ℕ, suc, zero, ◌+◌, Bool, true, false, cond, ◌&&◌, nat_eq, List, [], ◌∷◌, ◌++◌, length, refl, sym, ◌∙◌, ap, append_assoc, arith, Option, Some, None}
use Rattle.std.specs.Ordering.{is_eq}
use Rattle.std.specs.declared.cmp.Ordering.{Ordering}
use Rattle.std.specs.declared.cmp.Ordering.TheVariants.{Less, Equal, Greater}
use Rattle.std.specs.Cmp.Lexicographic.{slice_cmp}
use Rattle.std.specs.FinMap.{slice_cmp-IsAntisymmetric}
use Rattle.std.proofs.lemmas.Cmp.{lists_total, tied_itself}
use Rattle.std.proofs.lemmas.List.{append-nil}
use Rattle.base_budget.specs.declared.log.Entry.{Entry}
use Rattle.base_budget.specs.Trace.{Traced, just, step, next, pay, note}
use Rattle.clause_set.specs.declared.literal.Literal.{Literal}
use Rattle.clause_set.specs.Order.{clause_cmp}
use Rattle.clause_set.specs.Total.{clause_cmp-equal, clause_cmp-total}
use Rattle.elim_laws.specs.Logs.{Reader, by_whole_log, reads_none, used_up}
use Rattle.sequent.specs.declared.member.Pick.{Pick}
use Rattle.sequent.specs.declared.member.Pick.TheVariants as pick
use Rattle.sequent.specs.Rules.{applies, premises_of}
use Rattle.sequent.specs.Sequent.{Sequent}
use Rattle.proof_tree.specs.Gives.{AreGiven, Gives}
use Rattle.proof_tree.specs.Proof.{Proof, Proofs, node, no_proof, and_proof, given, all_given}
use Rattle.proof_tree.specs.Rules.{constraint_by}
use Rattle.proof_tree.specs.Walk.{all_walked, confirmed, eliminates, fits, is_empty, is_same, nodes_in, on_some, redone, walked, width}
use Rattle.proof_tree.proofs.Giving.{given_length}

equal_is : (o : Ordering) → is_eq o ≡ true → o ≡ Equal
equal_is Less h = absurd (cc)
equal_is Equal h = refl
equal_is Greater h = absurd (cc)

pub same_so : (c d : List (List Literal)) → is_same c d ≡ true → c ≡ d
same_so c d h = slice_cmp-IsAntisymmetric clause_cmp-equal c d (equal_is (slice_cmp clause_cmp c d) h)

pub same_self : (d : List (List Literal)) → is_same d d ≡ true
same_self d = ap is_eq (tied_itself (lists_total clause_cmp-total) d)

-- ---- values of work that may have none
abbrev pub then_some : {A B : Type 0} → Option A → (A → Option B) → Option B
then_some None f = None
then_some (Some a) f = f a

pub value-on_some : {A B : Type 0} (f : A → Traced (Option B)) (o : Option A) → (on_some f o).value ≡ then_some o (λ a. (f a).value)
unfolding just
value-on_some f None = refl
value-on_some f (Some a) = refl

pub value-cond : {A : Type 0} (b : Bool) (x y : Traced A) → (cond b x y).value ≡ cond b x.value y.value
value-cond true x y = refl
value-cond false x y = refl

pub some_then : {A B : Type 0} (o : Option A) (f : A → Option B) (v : B) → then_some o f ≡ Some v → (a : A) × (o ≡ Some a) × (f a ≡ Some v)
some_then None f v e = absurd (cc)
some_then (Some a) f v e = (a, refl, e)

pub some_cond : {A : Type 0} (b : Bool) (x : Option A) (v : A) → cond b x None ≡ Some v → (b ≡ true) × (x ≡ Some v)
some_cond true x v e = (refl, e)
some_cond false x v e = absurd (cc)

-- ---- where a node fits
split_fits : (a b c : Bool) → (a && (b && c)) ≡ true → (a ≡ true) × (b ≡ true) × (c ≡ true)
split_fits true true c h = (refl, refl, h)
split_fits true false c h = absurd (cc)
split_fits false b c h = absurd (cc)

join_fits : (a b c : Bool) → a ≡ true → b ≡ true → c ≡ true → (a && (b && c)) ≡ true
join_fits a b c h k l = cc

same_width : (m n : ℕ) → m ≡ n → nat_eq m n ≡ true
same_width m n h = grind (arith, h)

width_is : (ns : Proofs) → width ns ≡ length (all_given ns)
width_is no_proof = refl
width_is (and_proof n ns) = ap suc (width_is ns)

-- work that reads no entry accepts the empty log alone
none_read : {A : Type 0} (w : Traced A) (log : List Entry) (a : A) → (by_whole_log (reads_none w) log).value ≡ Some a → is_empty log ≡ true
unfolding next just
none_read w [] a h = refl
none_read w (e ∷ log) a h = absurd (cc)

log_fits : (s : Sequent) (p : Pick) (ds : List (List (List Literal))) (log : List Entry) (d : List (List Literal)) → (by_whole_log (constraint_by s p ds) log).value ≡ Some d
    → cond (eliminates p) true (is_empty log) ≡ true
log_fits s (pick.Trivial i) ds log d h = none_read _ log d h
log_fits s (pick.Alpha i) ds log d h = none_read _ log d h
log_fits s (pick.Delta i) ds log d h = refl
log_fits s (pick.Beta i) ds log d h = none_read _ log d h
log_fits s (pick.Gamma i) ds log d h = refl
log_fits s pick.Close ds log d h = refl

-- a node that gives its constraint fits
pub gives_fits : (s : Sequent) (p : Pick) (ns : Proofs) (log : List Entry) (d : List (List Literal)) → Gives s (node p ns log d) → fits s p ns log ≡ true
gives_fits s p ns log d h =
    join_fits (applies s p) (nat_eq (width ns) (length (premises_of s p))) (cond (eliminates p) true (is_empty log)) h.0
    (same_width (width ns) (length (premises_of s p)) (width_is ns ∙ given_length (premises_of s p) ns h.1)) (log_fits s p (all_given ns) log d h.2)

pub value-redone : (s : Sequent) (p : Pick) (ds : List (List (List Literal))) (log : List Entry) → (redone s p ds log).value ≡ (by_whole_log (constraint_by s p ds) log).value
unfolding next just step
value-redone s p ds log = refl

-- ---- the walk
-- what the constraint that was made gives
abbrev ends_in : List (List Literal) → List (List Literal) → Option (List (List Literal))
ends_in d c = cond (is_same c d) (Some d) None

value-walked : (n : ℕ) (s : Sequent) (p : Pick) (ns : Proofs) (log : List Entry) (d : List (List Literal))
    → (walked n s (node p ns log d)).value
    ≡ cond (fits s p ns log) (then_some (all_walked (n + 1) (premises_of s p) ns []).value (λ ds. then_some (by_whole_log (constraint_by s p ds) log).value (ends_in d))) None
unfolding next just step
value-walked n s p ns log d =
    value-cond (fits s p ns log) _ _ ∙ ap (λ z. cond (fits s p ns log) z None)
    (value-on_some _ (all_walked (n + 1) (premises_of s p) ns []).value ∙ ap (then_some (all_walked (n + 1) (premises_of s p) ns []).value)
    (λ i ds. (value-on_some (confirmed d) (redone s p ds log).value ∙ ap (then_some (redone s p ds log).value) (λ j c. value-cond (is_same c d) (just (Some d)) (just None) j)) i))

value-all : (n : ℕ) (s : Sequent) (ss : List Sequent) (x : Proof) (xs : Proofs) (out : List (List (List Literal)))
    → (all_walked n (s ∷ ss) (and_proof x xs) out).value ≡ then_some (walked n s x).value (λ d. (all_walked (n + nodes_in x) ss xs (out ++ d ∷ [])).value)
unfolding next
value-all n s ss x xs out = value-on_some _ (walked n s x).value

mutual
  unfolding just

  -- a walk that ends well is over a tree that gives what it answers
  pub walked_gives : (x : Proof) (n : ℕ) (s : Sequent) (v : List (List Literal)) → (walked n s x).value ≡ Some v → Gives s x × (given x ≡ v)
  walked_gives (node p ns log d) n s v e =
      let f = some_cond (fits s p ns log) _ v (sym (value-walked n s p ns log d) ∙ e) in
      let fit = split_fits (applies s p) (nat_eq (width ns) (length (premises_of s p))) (cond (eliminates p) true (is_empty log)) f.0 in
      let g = some_then (all_walked (n + 1) (premises_of s p) ns []).value _ v f.1 in
      let h = some_then (by_whole_log (constraint_by s p g.0) log).value (ends_in d) v g.2 in
      let i = some_cond (is_same h.0 d) (Some d) v h.2 in
      let c_is : h.0 ≡ d = same_so h.0 d i.0 in
      let given = all_walked_gives ns (n + 1) (premises_of s p) [] g.0 g.1 in
      let v_is : d ≡ v = (let z : Some d ≡ Some v = i.1 in cc) in
      ((fit.0, given.0, ap (λ z. (by_whole_log (constraint_by s p z) log).value) given.1 ∙ h.1 ∙ ap Some c_is), v_is)

  pub all_walked_gives : (xs : Proofs) (n : ℕ) (ss : List Sequent) (out ds : List (List (List Literal))) → (all_walked n ss xs out).value ≡ Some ds → AreGiven ss xs × (out ++ all_given xs ≡ ds)
  all_walked_gives no_proof n [] out ds e = (tt, append-nil out ∙ (let z : Some out ≡ Some ds = e in cc))
  all_walked_gives no_proof n (s ∷ ss) out ds e = absurd (let z : None ≡ Some ds = e in cc)
  all_walked_gives (and_proof x xs) n [] out ds e = absurd (let z : None ≡ Some ds = e in cc)
  all_walked_gives (and_proof x xs) n (s ∷ ss) out ds e =
      let f = some_then (walked n s x).value _ ds (sym (value-all n s ss x xs out) ∙ e) in
      let g = walked_gives x n s f.0 f.1 in
      let h = all_walked_gives xs (n + nodes_in x) ss (out ++ f.0 ∷ []) ds f.2 in
      ((g.0, h.0), ap (λ z. out ++ z ∷ all_given xs) g.1 ∙ sym (append_assoc out (f.0 ∷ []) (all_given xs)) ∙ h.1)

mutual
  unfolding just

  -- and the walk over such a tree ends well
  pub gives_walked : (x : Proof) (n : ℕ) (s : Sequent) → Gives s x → (walked n s x).value ≡ Some (given x)
  gives_walked (node p ns log d) n s h =
      value-walked n s p ns log d
      ∙ ap (λ b. cond b (then_some (all_walked (n + 1) (premises_of s p) ns []).value (λ ds. then_some (by_whole_log (constraint_by s p ds) log).value (ends_in d))) None)
      (gives_fits s p ns log d h)
      ∙ ap (λ o. then_some o (λ ds. then_some (by_whole_log (constraint_by s p ds) log).value (ends_in d))) (all_gives_walked ns (n + 1) (premises_of s p) [] h.1)
      ∙ ap (λ o. then_some o (ends_in d)) h.2
      ∙ ap (λ b. cond b (Some d) None) (same_self d)

  pub all_gives_walked : (xs : Proofs) (n : ℕ) (ss : List Sequent) (out : List (List (List Literal))) → AreGiven ss xs → (all_walked n ss xs out).value ≡ Some (out ++ all_given xs)
  all_gives_walked no_proof n [] out h = ap Some (sym (append-nil out))
  all_gives_walked no_proof n (s ∷ ss) out h = absurd h
  all_gives_walked (and_proof x xs) n [] out h = absurd h
  all_gives_walked (and_proof x xs) n (s ∷ ss) out h =
      value-all n s ss x xs out
      ∙ ap (λ o. then_some o (λ d. (all_walked (n + nodes_in x) ss xs (out ++ d ∷ [])).value)) (gives_walked x n s h.0)
      ∙ all_gives_walked xs (n + nodes_in x) ss (out ++ given x ∷ []) h.1
      ∙ ap Some (append_assoc out (given x ∷ []) (all_given xs))
