-- How the walk goes over the premises of a node.
use Rattle.std.proofs.Common.{◌≡◌, ◌∙◌, ℕ, suc, ◌+◌, List, [], ◌∷◌, ◌++◌, drop, length, append_assoc, Option, Some, None, Result, Ok, Err, IsErrAnd, refl, sym, ap, subst, arith}
use Rattle.std.proofs.lemmas.List.{append-nil, drop_more}
use Rattle.std.proofs.lemmas.Option.{get_or_from_slice_get, slice_get_within}
use Rattle.std.specs.List.{slice_get}
use Rattle.base_budget.specs.declared.fault.StepFault.{StepFault}
use Rattle.base_budget.specs.declared.fault.StepFault.TheVariants.{Memory}
use Rattle.base_budget.specs.Trace.{Funds, next}
use Rattle.base_budget.proofs.Following.{Going, follow_err, follow_just, follow_memory, follow_ok, going_all, going_ends, going_next}
use Rattle.clause_set.specs.declared.literal.Literal.{Literal}
use Rattle.sequent.specs.Sequent.{Sequent}
use Rattle.proof_tree.specs.Proof.{Proof, Proofs, no_proof, and_proof, given, all_given}
use Rattle.proof_tree.specs.Walk.{all_walked, nodes_in, nodes_in_all, on_some, walked, width}
use Rattle.proof_grammar.specs.declared.lines.TextLine.{TextLine}
use Rattle.tree_checker.specs.declared.course.Course.{Course}
use Rattle.tree_checker.specs.Hand.{at_node}
use Rattle.tree_checker.specs.Told.{HasLevels, HaveLevels, told_all, told_lines}
use Rattle.tree_checker.specs.Walking.{HasWalked, HaveWalked}
use Rattle.tree_checker.proofs.Paid.{if_err}

-- ---- the premises, from the one at i on
pub record Stepping (Coming : List TextLine → Type 0) (left : ℕ) (ls : List TextLine) (i : ℕ) (ss : List Sequent) (ns : Proofs) (ds : List (List (List Literal))) (now : Funds) (h : Course) (old : Funds) (h0 : Course) : Type 0 where
  pub rest : Proofs
  pub levels : HaveLevels left rest
  pub wide : width rest ≡ length (drop i ss)
  pub coming : Coming (told_all rest ++ ls)
  pub given : ds ++ all_given rest ≡ all_given ns
  pub nodes : h.nodes + nodes_in_all rest ≡ h0.nodes + nodes_in_all ns
  pub going : Going at_node (all_walked h.nodes (drop i ss) rest ds) now h.hand (all_walked h0.nodes ss ns []) old h0.hand

-- the same where one is left
pub record Ahead (Coming : List TextLine → Type 0) (left : ℕ) (ls : List TextLine) (i : ℕ) (ss : List Sequent) (ns : Proofs) (ds : List (List (List Literal))) (now : Funds) (h : Course) (old : Funds) (h0 : Course) (s : Sequent) : Type 0 where
  pub first : Proof
  pub rest : Proofs
  pub levels : HasLevels left first
  pub levels_rest : HaveLevels left rest
  pub wide : width rest ≡ length (drop (i + 1) ss)
  pub coming : Coming (told_lines first ++ (told_all rest ++ ls))
  pub given : ds ++ given first ∷ all_given rest ≡ all_given ns
  pub nodes : h.nodes + (nodes_in first + nodes_in_all rest) ≡ h0.nodes + nodes_in_all ns
  pub going : Going at_node (next (walked h.nodes s first) (on_some (λ d. all_walked (h.nodes + nodes_in first) (drop (i + 1) ss) rest (ds ++ d ∷ [])))) now h.hand (all_walked h0.nodes ss ns []) old h0.hand

-- the item at a place, and what comes after it
item_at : {X : Type 0} (xs : List X) (i : ℕ) (x : X) → slice_get xs i ≡ Some x → drop i xs ≡ x ∷ drop (i + 1) xs
item_at xs i x is = drop_more xs i x (slice_get_within xs i x is) ∙ ap (λ z. z ∷ drop (i + 1) xs) (get_or_from_slice_get xs i x x is)

module _ (Coming : List TextLine → Type 0) (left : ℕ) (ls : List TextLine) (ss : List Sequent) (ns : Proofs) (old : Funds) (h0 : Course) where
  pub stepping_starts : HaveLevels left ns → width ns ≡ length ss → Coming (told_all ns ++ ls) → Stepping Coming left ls 0 ss ns [] old h0 old h0
  stepping_starts levels wide coming = record { rest = ns; levels = levels; wide = wide; coming = coming; given = refl; nodes = refl; going = going_all (all_walked h0.nodes ss ns []) old h0.hand }

  pub ahead : (i : ℕ) (s : Sequent) {ds : List (List (List Literal))} {now : Funds} {h : Course} → slice_get ss i ≡ Some s → Stepping Coming left ls i ss ns ds now h old h0 → Ahead Coming left ls i ss ns ds now h old h0 s
  ahead i s {ds} {now} {h} premise st =
      let is = item_at ss i s premise in
      by st.rest st.levels (st.wide ∙ ap length is) st.coming st.given st.nodes (subst (λ ts. Going at_node (all_walked h.nodes ts st.rest ds) now h.hand (all_walked h0.nodes ss ns []) old h0.hand) is st.going)
    where
      by : (xs : Proofs) → HaveLevels left xs → width xs ≡ suc (length (drop (i + 1) ss)) → Coming (told_all xs ++ ls) → ds ++ all_given xs ≡ all_given ns → h.nodes + nodes_in_all xs ≡ h0.nodes + nodes_in_all ns
          → Going at_node (all_walked h.nodes (s ∷ drop (i + 1) ss) xs ds) now h.hand (all_walked h0.nodes ss ns []) old h0.hand → Ahead Coming left ls i ss ns ds now h old h0 s
      by no_proof levels wide coming given nodes going = absurd (omega (arith, wide))
      by (and_proof x xs) levels wide coming given nodes going = record {
        first = x;
        rest = xs;
        levels = levels.0;
        levels_rest = levels.1;
        wide = omega (arith, wide);
        coming = subst Coming (append_assoc (told_lines x) (told_all xs) ls) coming;
        given = given;
        nodes = nodes;
        going = going;
      }

  pub stepping_memory : (i : ℕ) {ds : List (List (List Literal))} {now : Funds} {h t : Course} {Behind : Type 0} (r : Result (Option (List (List (List Literal)))) StepFault) → Stepping Coming left ls i ss ns ds now h old h0 → IsErrAnd r (λ x. x ≡ Memory)
      → HaveWalked ss ns Behind old h0 r now t
  stepping_memory i r st err = record { work = going_ends st.going (follow_memory r err); behind = if_err _ _ r err }

  pub premise_cut : (i : ℕ) (s : Sequent) {ds : List (List (List Literal))} {now b : Funds} {h k : Course} {Next Behind : Type 0} {e : StepFault} (r : Result (Option (List (List (List Literal)))) StepFault) (st : Ahead Coming left ls i ss ns ds now h old h0 s)
      → IsErrAnd r (λ x. x ≡ e) → HasWalked s st.first Next now h (Err e) b k → HaveWalked ss ns Behind old h0 r b k
  premise_cut i s {h = h} r st err w = record { work = going_ends st.going (follow_err (walked h.nodes s st.first) _ r err w.work); behind = if_err _ _ r err }

  pub premise_none : (i : ℕ) (s : Sequent) {ds : List (List (List Literal))} {now b : Funds} {h k : Course} {Next Behind : Type 0} (st : Ahead Coming left ls i ss ns ds now h old h0 s) → HasWalked s st.first Next now h (Ok None) b k
      → HaveWalked ss ns Behind old h0 (Ok None) b k
  premise_none i s {h = h} st w = record { work = going_ends st.going (follow_ok (walked h.nodes s st.first) _ w.work (follow_just None None refl)); behind = tt }

  pub premise_memory : (i : ℕ) (s : Sequent) {ds : List (List (List Literal))} {now b : Funds} {h k t : Course} {Next Behind : Type 0} (d : List (List Literal)) (r : Result (Option (List (List (List Literal)))) StepFault)
      (st : Ahead Coming left ls i ss ns ds now h old h0 s) → IsErrAnd r (λ x. x ≡ Memory) → HasWalked s st.first Next now h (Ok (Some d)) b k → HaveWalked ss ns Behind old h0 r b t
  premise_memory i s {h = h} d r st err w = record { work = going_ends st.going (follow_ok (walked h.nodes s st.first) _ w.work (follow_memory r err)); behind = if_err _ _ r err }

  pub all_done : (i : ℕ) {ds : List (List (List Literal))} {now : Funds} {h : Course} → drop i ss ≡ [] → Stepping Coming left ls i ss ns ds now h old h0 → HaveWalked ss ns (Coming ls) old h0 (Ok (Some ds)) now h
  all_done i {ds} {now} {h} is st = by st.rest (st.wide ∙ ap length is) st.coming st.given st.nodes (subst (λ ts. Going at_node (all_walked h.nodes ts st.rest ds) now h.hand (all_walked h0.nodes ss ns []) old h0.hand) is st.going)
    where
      by : (xs : Proofs) → width xs ≡ 0 → Coming (told_all xs ++ ls) → ds ++ all_given xs ≡ all_given ns → h.nodes + nodes_in_all xs ≡ h0.nodes + nodes_in_all ns
          → Going at_node (all_walked h.nodes [] xs ds) now h.hand (all_walked h0.nodes ss ns []) old h0.hand → HaveWalked ss ns (Coming ls) old h0 (Ok (Some ds)) now h
      by (and_proof x xs) wide coming given nodes going = absurd (omega (arith, wide))
      by no_proof wide coming given nodes going = record { work = going_ends going (follow_just (Some ds) (Some ds) refl); behind = (sym (append-nil ds) ∙ given, omega (arith, nodes), coming) }

-- one premise more
pub premise_gives : (Coming Next : List TextLine → Type 0) (left : ℕ) (ls : List TextLine) (ss : List Sequent) (ns : Proofs) (old : Funds) (h0 : Course) (i : ℕ) (s : Sequent) {ds es : List (List (List Literal))} {now b : Funds} {h k : Course}
    (d : List (List Literal)) (st : Ahead Coming left ls i ss ns ds now h old h0 s) → HasWalked s st.first (Next (told_all st.rest ++ ls)) now h (Ok (Some d)) b k → es ≡ ds ++ d ∷ [] → Stepping Next left ls (i + 1) ss ns es b k old h0
premise_gives Coming Next left ls ss ns old h0 i s {ds} {es} {now} {b} {h} {k} d st w is =
    let d_is = w.behind.0 in
    let count = w.behind.1 in
    let before = st.nodes in
    subst (λ z. Stepping Next left ls (i + 1) ss ns z b k old h0) (sym is) (record {
      rest = st.rest;
      levels = st.levels_rest;
      wide = st.wide;
      coming = w.behind.2;
      given = append_assoc ds (d ∷ []) (all_given st.rest) ∙ ap (λ z. ds ++ z ∷ all_given st.rest) d_is ∙ st.given;
      nodes = omega (arith, count, before);
      going =
          subst (λ n. Going at_node (all_walked n (drop (i + 1) ss) st.rest (ds ++ d ∷ [])) b k.hand (all_walked h0.nodes ss ns []) old h0.hand) (sym count)
          (going_next (walked h.nodes s st.first) (on_some (λ d. all_walked (h.nodes + nodes_in st.first) (drop (i + 1) ss) st.rest (ds ++ d ∷ []))) st.going w.work);
    })
