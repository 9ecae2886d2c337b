-- Trees that a text can hold.
use Rattle.proof_tree.specs.declared.node.Tree.{Tree}
use Rattle.proof_tree.specs.Views.{proof_of}
use Rattle.proof_printer.specs.Typed.{IsTypedConclusion, IsTypedProof}
use Rattle.proof_grammar.specs.Shaped.{IsWritable}

-- a text can hold the tree, with what the types of its parts say
abbrev pub IsPrintable : Tree → Type 0
IsPrintable t = IsTypedProof (proof_of t.root) → IsTypedConclusion t.conclusion → IsWritable t.charges (proof_of t.root) t.conclusion
