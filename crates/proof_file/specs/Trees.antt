-- Trees whose lines come one after another: what is still to come before and after a tree is read.
use Rattle.std.specs.Prelude.{ℕ, ◌≡◌, false, List, [], ◌++◌, map}
use Rattle.base_budget.specs.declared.log.Entry.{Entry}
use Rattle.clause_set.specs.declared.literal.Literal.{Literal}
use Rattle.sequent.specs.declared.member.Pick.{Pick}
use Rattle.proof_tree.specs.declared.node.Node.{Node}
use Rattle.proof_tree.specs.Proof.{Proof, Proofs, proofs}
use Rattle.proof_tree.specs.Views.{proof_of}
use Rattle.proof_tree.specs.Walk.{width, eliminates}
use Rattle.proof_grammar.specs.declared.lines.TextLine.{TextLine}
use Rattle.proof_grammar.specs.Lines.{last_lines, lines, lines_all}
use Rattle.proof_grammar.specs.Owed.{Shallow}
use Rattle.proof_grammar.specs.Shaped.{IsShapedNode, AreShapedNodes}

-- the lines of a tree on this level come
abbrev pub TreeComes : (List TextLine → Type 0) → ℕ → Type 0
TreeComes coming j = (x : Proof) × (ls : List TextLine) × IsShapedNode Shallow j x × coming (lines x ++ ls)

-- this is the tree whose lines came, and the others come after it
abbrev pub IsReadTree : (List TextLine → Type 0) → (List TextLine → Type 0) → ℕ → Node → Type 0
IsReadTree before after j n = (x : Proof) (ls : List TextLine) → IsShapedNode Shallow j x → before (lines x ++ ls) → (proof_of n ≡ x) × after ls

-- the lines of k trees on this level come
abbrev pub TreesCome : (List TextLine → Type 0) → ℕ → ℕ → Type 0
TreesCome coming k j = (xs : Proofs) × (ls : List TextLine) × (width xs ≡ k) × AreShapedNodes Shallow j xs × coming (lines_all xs ++ ls)

-- these are the trees whose lines came, and the others come after them
abbrev pub AreTrees : (List TextLine → Type 0) → (List TextLine → Type 0) → ℕ → ℕ → List Node → Type 0
AreTrees before after k j ns = (xs : Proofs) (ls : List TextLine) → width xs ≡ k → AreShapedNodes Shallow j xs → before (lines_all xs ++ ls) → (proofs (map proof_of ns) ≡ xs) × after ls

-- the lines after the premises of a node with this rule come
abbrev pub ClosingComes : (List TextLine → Type 0) → Pick → Type 0
ClosingComes coming p = (es : List Entry) × (d : List (List Literal)) × (ls : List TextLine) × coming (last_lines p es d ++ ls)

-- these are the log, which is empty where the rule does not eliminate, and the constraint that came, and the others come after them
abbrev pub ClosesNode : (List TextLine → Type 0) → (List TextLine → Type 0) → Pick → List Entry → List (List Literal) → Type 0
ClosesNode before after p es d = (fs : List Entry) (e : List (List Literal)) (ls : List TextLine) → (eliminates p ≡ false → fs ≡ []) → before (last_lines p fs e ++ ls) → (es ≡ fs) × (d ≡ e) × after ls
