-- How the walk enters a node.
use Rattle.std.proofs.Common.{◌≡◌, ◌∙◌, ℕ, suc, ◌+◌, Bool, true, false, ◌&&◌, nat_eq, List, [], ◌∷◌, ◌++◌, length, append_assoc, Option, Some, None, Result, Ok, Err, IsErrAnd, refl, sym, ap, subst, arith}
use Rattle.std.proofs.lemmas.Bool.Decides.{Decides-eqb}
use Rattle.base_budget.specs.declared.fault.StepFault.{StepFault}
use Rattle.base_budget.specs.declared.fault.StepFault.TheVariants.{Memory}
use Rattle.base_budget.specs.declared.log.Entry.{Entry}
use Rattle.base_budget.specs.Followed.{Followed}
use Rattle.base_budget.specs.Trace.{Funds, Traced, enter, just, next, pay}
use Rattle.base_budget.specs.Work.{Charged}
use Rattle.base_budget.proofs.Following.{follow_err, follow_just, follow_memory, follow_note, follow_ok, follow_unnoted}
use Rattle.clause_set.specs.declared.literal.Literal.{Literal}
use Rattle.sequent.specs.declared.member.Pick.{Pick}
use Rattle.sequent.specs.Rules.{applies, premises_of}
use Rattle.sequent.specs.Sequent.{Sequent}
use Rattle.proof_tree.specs.Proves.{rule_of}
use Rattle.proof_tree.specs.Proof.{Proof, Proofs, no_proof, and_proof, node}
use Rattle.proof_tree.specs.Walk.{all_walked, fee, fits, left_at, nodes_in, on_some, walked, width}
use Rattle.proof_grammar.specs.declared.lines.TextLine.{TextLine}
use Rattle.proof_grammar.specs.declared.lines.TextLine.TheVariants as w
use Rattle.proof_grammar.specs.Lines.{last_lines}
use Rattle.tree_checker.specs.declared.course.Course.{Course}
use Rattle.tree_checker.specs.Hand.{at_node}
use Rattle.tree_checker.specs.Told.{HasLevels, HaveLevels, told_all, told_lines, told_width}
use Rattle.tree_checker.specs.Walking.{HasLeft, HasWalked, HaveWalked, IfGiven}
use Rattle.tree_checker.proofs.Paid.{if_err}

-- ---- a node
pub no_level : (left : ℕ) (x : Proof) → left ≡ 0 → HasLevels left x → ⊥
no_level left x none levels = subst (λ k. HasLevels k x) none levels

pub second_true : (a b : Bool) → (a && b) ≡ true → b ≡ true
second_true true b h = h
second_true false b h = absurd (cc)

pub first_true : (a b : Bool) → (a && b) ≡ true → a ≡ true
first_true true b h = refl
first_true false b h = absurd (cc)

pub wide_of : (s : Sequent) (p : Pick) (ns : Proofs) (es : List Entry) → fits s p ns es ≡ true → width ns ≡ length (premises_of s p)
wide_of s p ns es f =
    let g = second_true (applies s p) _ f in
    (Decides-eqb (width ns) (length (premises_of s p))).0 (first_true (nat_eq (width ns) (length (premises_of s p))) _ g)

module _ (s : Sequent) (p : Pick) (ns : Proofs) (es : List Entry) (d : List (List Literal)) where
  -- the work of a node after it was entered
  abbrev inside : ℕ → Traced (Option (List (List Literal)))
  inside n = next (pay (fee s p)) (λ _. next (all_walked (n + 1) (premises_of s p) ns []) (on_some (left_at n s p es d)))

  entered_then : (c : Course) {h : ℕ} {a b : Funds} {t : ℕ} {r : Result (Option (List (List Literal))) StepFault} → fits s p ns es ≡ true → h ≡ at_node c.hand (enter c.nodes) → Followed at_node (inside c.nodes) a h r b t
      → Followed at_node (walked c.nodes s (node p ns es d)) a c.hand r b t
  entered_then c fit hand rest = rw fit (follow_note (enter c.nodes) (λ _. inside c.nodes) hand rest)

  -- the premises begin with the number after that of the node
  numbered_on : (c : Course) {m h : ℕ} {b g : Funds} {t : ℕ} {r : Result (Option (List (List (List Literal)))) StepFault} → m ≡ c.nodes + 1 → Followed at_node (all_walked m (premises_of s p) ns []) b h r g t
      → Followed at_node (all_walked (c.nodes + 1) (premises_of s p) ns []) b h r g t
  numbered_on c {m} {h} {b} {g} {t} {r} count done = subst (λ k. Followed at_node (all_walked k (premises_of s p) ns []) b h r g t) count done

  module _ {Behind : Type 0} (c : Course) where
    pub node_wrong : {a : Funds} {c1 : Course} → fits s p ns es ≡ false → c1.hand ≡ at_node c.hand (enter c.nodes) → HasWalked s (node p ns es d) Behind a c (Ok None) a c1
    node_wrong fit hand = record { work = rw fit (follow_note (enter c.nodes) (λ _. just None) hand (follow_just None None refl)); behind = tt }

    pub node_unpaid : {a b : Funds} {c1 : Course} {e : StepFault} (r : Result (Option (List (List Literal))) StepFault) → fits s p ns es ≡ true → c1.hand ≡ at_node c.hand (enter c.nodes) → IsErrAnd r (λ x. x ≡ e)
        → Charged (pay (fee s p)) a (Err e) b → HasWalked s (node p ns es d) Behind a c r b c1
    node_unpaid {e = e} r fit hand err paid = record { work = entered_then c fit hand (follow_err (pay (fee s p)) _ r err (follow_unnoted (Err e) paid)); behind = if_err _ _ r err }

    pub node_cut : {Next : Type 0} {a b g : Funds} {c1 c2 : Course} {u : Unit {0}} {e : StepFault} (r : Result (Option (List (List Literal))) StepFault) → fits s p ns es ≡ true → c1.hand ≡ at_node c.hand (enter c.nodes) → c1.nodes ≡ c.nodes + 1
        → Charged (pay (fee s p)) a (Ok u) b → IsErrAnd r (λ x. x ≡ e) → HaveWalked (premises_of s p) ns Next b c1 (Err e) g c2 → HasWalked s (node p ns es d) Behind a c r g c2
    node_cut {u = u} r fit hand count paid err all = record {
      work = entered_then c fit hand (follow_ok (pay (fee s p)) _ (follow_unnoted (Ok u) paid) (follow_err (all_walked _ (premises_of s p) ns []) _ r err (numbered_on c count all.work)));
      behind = if_err _ _ r err;
    }

    pub node_none : {Next : Type 0} {a b g : Funds} {c1 c2 : Course} {u : Unit {0}} → fits s p ns es ≡ true → c1.hand ≡ at_node c.hand (enter c.nodes) → c1.nodes ≡ c.nodes + 1 → Charged (pay (fee s p)) a (Ok u) b
        → HaveWalked (premises_of s p) ns Next b c1 (Ok None) g c2 → HasWalked s (node p ns es d) Behind a c (Ok None) g c2
    node_none {u = u} fit hand count paid all = record {
      work = entered_then c fit hand (follow_ok (pay (fee s p)) _ (follow_unnoted (Ok u) paid) (follow_ok (all_walked _ (premises_of s p) ns []) _ (numbered_on c count all.work) (follow_just None None refl)));
      behind = tt;
    }

    pub node_left : {Next : Type 0} {a b g k : Funds} {c1 c2 c3 : Course} {u : Unit {0}} (ds : List (List (List Literal))) (r : Result (Option (List (List Literal))) StepFault) → fits s p ns es ≡ true → c1.hand ≡ at_node c.hand (enter c.nodes)
        → c1.nodes ≡ c.nodes + 1 → Charged (pay (fee s p)) a (Ok u) b → HaveWalked (premises_of s p) ns Next b c1 (Ok (Some ds)) g c2 → HasLeft c.nodes s p es d ds Behind g c2 r k c3 → c3.nodes ≡ c2.nodes
        → HasWalked s (node p ns es d) Behind a c r k c3
    node_left {c1 = c1} {c2} {c3} {u} ds r fit hand count paid all left kept = record {
      work = entered_then c fit hand (follow_ok (pay (fee s p)) _ (follow_unnoted (Ok u) paid) (follow_ok (all_walked _ (premises_of s p) ns []) _ (numbered_on c count all.work) left.work));
      behind = both r left.behind;
    }
      where
        nodes : c3.nodes ≡ c.nodes + nodes_in (node p ns es d)
        nodes = let more = all.behind.1 in omega (arith, more, count, kept)

        both : (q : Result (Option (List (List Literal))) StepFault) → IfGiven q (λ e. (e ≡ d) × Behind) → IfGiven q (λ e. (e ≡ d) × (c3.nodes ≡ c.nodes + nodes_in (node p ns es d)) × Behind)
        both (Ok (Some e)) h = (h.0, nodes, h.1)
        both (Ok None) h = tt
        both (Err e) h = tt

-- ---- the row of a node
same_row : (a b : Pick × ℕ) → Some a ≡ Some b → (a.0 ≡ b.0) × (a.1 ≡ b.1)
same_row a b h = let both : a ≡ b = cc in (ap (λ (z : Pick × ℕ). z.0) both, ap (λ (z : Pick × ℕ). z.1) both)

-- what a call that reads a row says of the lines that come next
abbrev pub ReadsRow : (List TextLine → Type 0) → Option (Pick × ℕ) → (List TextLine → Type 0) → Type 0
ReadsRow Coming o Next = (p : Pick) (k : ℕ) (ls : List TextLine) → Coming (w.Row p k ∷ ls) → (o ≡ Some (p, k)) × Next ls

-- the node of a proof, where a row has come and the walk went on from there
pub after_row : (Coming Next Behind : List TextLine → Type 0) (s t : Sequent) (rule : Pick) (count left : ℕ) (o : Option (Pick × ℕ)) {old new : Funds} {from to : Course} {r : Result (Option (List (List Literal))) StepFault} → s ≡ t → o ≡ Some (rule, count) → ReadsRow Coming o Next
    → ((ns : Proofs) (es : List Entry) (d : List (List Literal)) (ls : List TextLine) → HaveLevels left ns → count ≡ told_width rule (width ns) es → Next (told_all ns ++ (last_lines rule es d ++ ls))
    → HasWalked s (node rule ns es d) (Behind ls) old from r new to)
    → (k : ℕ) (x : Proof) (ls : List TextLine) → k ≡ suc left → HasLevels k x → Coming (told_lines x ++ ls) → HasWalked t x (Behind ls) old from r new to × (rule ≡ rule_of x)
after_row Coming Next Behind s t rule count left o {old} {new} {from} {to} {r} same some reads walk k (node p ns es d) ls level levels coming =
    let row = reads p (told_width p (width ns) es) ((told_all ns ++ last_lines p es d) ++ ls) coming in
    let is = same_row (rule, count) (p, told_width p (width ns) es) (sym some ∙ row.0) in
    let behind : Next (told_all ns ++ (last_lines p es d ++ ls)) = subst Next (append_assoc (told_all ns) (last_lines p es d) ls) row.1 in
    let below : HaveLevels left ns = subst (λ m. HasLevels m (node p ns es d)) level levels in
    let here : HasWalked s (node rule ns es d) (Behind ls) old from r new to =
    walk ns es d ls below (subst (λ q. count ≡ told_width q (width ns) es) (sym is.0) is.1) (subst (λ q. Next (told_all ns ++ (last_lines q es d ++ ls))) (sym is.0) behind) in
    (subst (λ z. HasWalked z (node p ns es d) (Behind ls) old from r new to) same (subst (λ q. HasWalked s (node q ns es d) (Behind ls) old from r new to) is.0 here), is.0)

-- running out of memory before anything was done
pub walked_memory : (s : Sequent) (x : Proof) {Behind : Type 0} {a : Funds} {c d : Course} (r : Result (Option (List (List Literal))) StepFault) → IsErrAnd r (λ y. y ≡ Memory) → HasWalked s x Behind a c r a d
walked_memory s x r err = record { work = follow_memory r err; behind = if_err _ _ r err }

-- a leaf that is closed has no premises to walk
pub none_walked : (Coming : List TextLine → Type 0) (ls : List TextLine) (ns : Proofs) {a : Funds} {c : Course} → width ns ≡ 0 → Coming (told_all ns ++ ls) → HaveWalked [] ns (Coming ls) a c (Ok (Some [])) a c
none_walked Coming ls no_proof none coming = record { work = follow_just (Some []) (Some []) refl; behind = (refl, omega arith, coming) }
none_walked Coming ls (and_proof n ns) none coming = absurd (omega (arith, none))
