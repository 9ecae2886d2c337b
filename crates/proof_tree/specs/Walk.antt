-- The walk over a proof tree: what a check of it does and charges.
use Rattle.std.specs.Prelude.{◌≡◌, ℕ, suc, ◌+◌, Bool, true, false, cond, ◌&&◌, nat_eq, List, [], ◌∷◌, ◌++◌, length, Option, Some, None}
use Rattle.std.specs.List.{slice_get}
use Rattle.std.specs.Ordering.{is_eq}
use Rattle.std.specs.Cmp.Lexicographic.{slice_cmp}
use Rattle.base_budget.specs.declared.log.Entry.{Entry}
use Rattle.base_budget.specs.Trace.{Traced, just, next, pay, note, new_log, enter, back}
use Rattle.clause_set.specs.declared.literal.Literal.{Literal}
use Rattle.clause_set.specs.Order.{clause_cmp}
use Rattle.formula.specs.Sizes.{size}
use Rattle.elim_laws.specs.Logs.{by_whole_log}
use Rattle.sequent.specs.declared.member.Pick.{Pick}
use Rattle.sequent.specs.declared.member.Pick.TheVariants as pick
use Rattle.sequent.specs.Rules.{applies, place, premises_of}
use Rattle.sequent.specs.Sequent.{Member, Sequent}
use Rattle.pred_unify.specs.Pairs.{closing_of}
use Rattle.proof_tree.specs.Proof.{Proof, Proofs, node, no_proof, and_proof}
use Rattle.proof_tree.specs.Rules.{constraint_by}

abbrev pub width : Proofs → ℕ
width no_proof = 0
width (and_proof n ns) = suc (width ns)

-- how many nodes there are
abbrev mutual
  pub nodes_in : Proof → ℕ
  nodes_in (node p ns log d) = suc (nodes_in_all ns)

  pub nodes_in_all : Proofs → ℕ
  nodes_in_all no_proof = 0
  nodes_in_all (and_proof n ns) = nodes_in n + nodes_in_all ns

-- whether the rule eliminates
abbrev pub eliminates : Pick → Bool
eliminates (pick.Delta i) = true
eliminates (pick.Gamma i) = true
eliminates pick.Close = true
eliminates _ = false

abbrev pub is_empty : {A : Type 0} → List A → Bool
is_empty [] = true
is_empty (x ∷ xs) = false

-- the rule applies, the node has as many children as the rule has premises, and only a rule that eliminates has a log
abbrev pub fits : Sequent → Pick → Proofs → List Entry → Bool
fits s p ns log = applies s p && (nat_eq (width ns) (length (premises_of s p)) && cond (eliminates p) true (is_empty log))

abbrev pub size_at : Option Member → ℕ
size_at None = 0
size_at (Some m) = size m.formula

abbrev pub fee_by : Sequent → Option ℕ → ℕ
fee_by s None = 1 + size (closing_of s).value
fee_by s (Some i) = 1 + size_at (slice_get s.members i)

-- the charge of a node: 1 and the size of its principal, or of the closing formula
abbrev pub fee : Sequent → Pick → ℕ
fee s p = fee_by s (place p)

-- the work in a log of its own
abbrev pub in_new_log : {A : Type 0} → Traced A → Traced A
in_new_log w = next (note new_log) (λ _. next w (λ a. next (note new_log) (λ _. just a)))

-- the rule's constraint, made of those of its premises
abbrev pub redone : Sequent → Pick → List (List (List Literal)) → List Entry → Traced (Option (List (List Literal)))
redone s p ds log = in_new_log (by_whole_log (constraint_by s p ds) log)

-- f of the value, or no value and nothing more
abbrev pub on_some : {A B : Type 0} → (A → Traced (Option B)) → Option A → Traced (Option B)
on_some f None = just None
on_some f (Some a) = f a

-- the same clauses, literal by literal in order
abbrev pub is_same : List (List Literal) → List (List Literal) → Bool
is_same c d = is_eq (slice_cmp clause_cmp c d)

-- d, where that is what was made
abbrev pub confirmed : List (List Literal) → List (List Literal) → Traced (Option (List (List Literal)))
confirmed d c = cond (is_same c d) (just (Some d)) (just None)

-- what is done when the children of the node n have given ds
abbrev pub left_at : ℕ → Sequent → Pick → List Entry → List (List Literal) → List (List (List Literal)) → Traced (Option (List (List Literal)))
left_at n s p log d ds = next (note (back n)) (λ _. next (redone s p ds log) (on_some (confirmed d)))

abbrev mutual
  -- the walk over the node with the number n: its constraint, or none at the first thing that is wrong
  pub walked : ℕ → Sequent → Proof → Traced (Option (List (List Literal)))
  walked n s (node p ns log d) =
      next (note (enter n)) (λ _. cond (fits s p ns log) (next (pay (fee s p)) (λ _. next (all_walked (n + 1) (premises_of s p) ns []) (on_some (left_at n s p log d)))) (just None))

  -- the walk over nodes, the first with the number n, after those that gave out
  pub all_walked : ℕ → List Sequent → Proofs → List (List (List Literal)) → Traced (Option (List (List (List Literal))))
  all_walked n [] no_proof out = just (Some out)
  all_walked n (s ∷ ss) (and_proof x xs) out = next (walked n s x) (on_some (λ d. all_walked (n + nodes_in x) ss xs (out ++ d ∷ [])))
  all_walked n _ _ out = just None
