-- The lines in which a walk is told of a proof, whatever the proof is: those of its text, but for the premises that a row counts.
use Rattle.std.specs.Prelude.{ℕ, zero, suc, cond, ◌&&◌, nat_lt, true, List, [], ◌∷◌, ◌++◌}
use Rattle.base_budget.specs.declared.log.Entry.{Entry}
use Rattle.sequent.specs.declared.member.Pick.{Pick}
use Rattle.proof_tree.specs.Proof.{Proof, Proofs, node, no_proof, and_proof}
use Rattle.proof_tree.specs.Walk.{eliminates, is_empty, width}
use Rattle.proof_grammar.specs.declared.lines.TextLine.{TextLine}
use Rattle.proof_grammar.specs.declared.lines.TextLine.TheVariants as w
use Rattle.proof_grammar.specs.Lines.{last_lines}

-- more premises than a rule has
abbrev pub too_many : ℕ
too_many = 4294967295

-- how many premises a row says that a node has: too many, where the node has entries and its rule eliminates nothing
abbrev pub told_width : Pick → ℕ → List Entry → ℕ
told_width p k es = cond (cond (eliminates p) true (is_empty es) && nat_lt k too_many) k too_many

-- the lines of a node
abbrev mutual
  pub told_lines : Proof → List TextLine
  told_lines (node p ns es d) = w.Row p (told_width p (width ns) es) ∷ (told_all ns ++ last_lines p es d)

  pub told_all : Proofs → List TextLine
  told_all no_proof = []
  told_all (and_proof n ns) = told_lines n ++ told_all ns

-- the proof has this many levels at most
abbrev mutual
  pub HasLevels : ℕ → Proof → Type 0
  HasLevels zero x = ⊥
  HasLevels (suc k) (node p ns es d) = HaveLevels k ns

  pub HaveLevels : ℕ → Proofs → Type 0
  HaveLevels k no_proof = Unit {0}
  HaveLevels k (and_proof n ns) = HasLevels k n × HaveLevels k ns
