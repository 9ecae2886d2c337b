-- Proofs that a text can hold, and the bytes that hold one.
use Rattle.std.specs.Prelude.{ℕ, ◌+◌, ◌≡◌, false, List, []}
use Rattle.proof_tree.specs.declared.node.Conclusion.{Conclusion}
use Rattle.proof_tree.specs.Proof.{Proof, Proofs, node, no_proof, and_proof}
use Rattle.proof_tree.specs.Walk.{width, eliminates}
use Rattle.proof_tokens.specs.Lines.{IsCharges}
use Rattle.proof_tokens.specs.Reading.{Cuts}
use Rattle.proof_constraint.specs.Text.{AreClauses}
use Rattle.proof_grammar.specs.declared.lines.TextLine.{TextLine}
use Rattle.proof_grammar.specs.Lines.{proof_lines, tokens_of}
use Rattle.proof_grammar.specs.Owed.{HasWidth, IsConclusion, OwesNothing, Shallow, start}
use Rattle.proof_grammar.specs.Expansion.{expansion}

-- a node on level j: each rule has its premises, those that eliminate nothing have no entries, and divisors are from 2 on
abbrev mutual
  pub IsShapedNode : (ℕ → Type 0) → ℕ → Proof → Type 0
  IsShapedNode Level j (node p ns es d) = Level j × HasWidth p (width ns) × (eliminates p ≡ false → es ≡ []) × AreClauses d × AreShapedNodes Level (j + 1) ns

  pub AreShapedNodes : (ℕ → Type 0) → ℕ → Proofs → Type 0
  AreShapedNodes Level j no_proof = Unit {0}
  AreShapedNodes Level j (and_proof n ns) = IsShapedNode Level j n × AreShapedNodes Level j ns

-- a proof that a text can hold: at most 1,000,000,000 charges and 2,000 levels
pub record IsWritable (n : ℕ) (x : Proof) (c : Conclusion) : Type 0 where
  pub charges : IsCharges n
  pub root : IsShapedNode Shallow 1 x
  pub conclusion : IsConclusion c

-- the bytes are the text of a proof that a text can hold: lines that leave nothing owed, and whose expansion is the proof's
pub record IsTextOfProof (bytes : List ℕ) (n : ℕ) (x : Proof) (c : Conclusion) : Type 0 where
  pub shaped : IsWritable n x c
  pub lines : List TextLine
  pub whole : OwesNothing Shallow start lines
  pub cut : Cuts (tokens_of lines) bytes []
  pub is : expansion lines ≡ proof_lines n x c
