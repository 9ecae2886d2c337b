-- The lines of a text that are still to come.
use Rattle.std.specs.Prelude.{ℕ, ◌≡◌, ◌<◌, Bool, true, false, List, [], ◌∷◌, ◌++◌, length, get_or, Option, Some, None}
use Rattle.base_budget.specs.declared.log.ElimLog.{ElimLog}
use Rattle.proof_tree.specs.declared.node.Conclusion.{Conclusion}
use Rattle.proof_tree.specs.declared.node.Conclusion.TheVariants.{Nothing}
use Rattle.proof_tree.specs.Proof.{Proof}
use Rattle.proof_tokens.specs.Reading.{Cuts}
use Rattle.proof_file.specs.declared.source.Line.{Line}
use Rattle.proof_file.specs.declared.source.Line.TheVariants as k
use Rattle.proof_grammar.specs.declared.lines.TextLine.{TextLine}
use Rattle.proof_grammar.specs.declared.lines.TextLine.TheVariants as w
use Rattle.proof_grammar.specs.declared.lines.Owed.{Owed}
use Rattle.proof_grammar.specs.Lines.{line_text, tokens_of, lines}
use Rattle.proof_grammar.specs.Owed.{OwesNothing, Pays, Shallow}
use Rattle.proof_grammar.specs.declared.walk.Walk.{Walk}
use Rattle.proof_grammar.specs.Expansion.{expanded, part_at}
use Rattle.proof_grammar.specs.Shaped.{IsTextOfProof}
use Rattle.proof_grammar.specs.Walks.{owed_of}

-- in a text of these parts the bytes are lines that pay for all that the walk owes, and these are their expansion
pub record Coming (parts : List ElimLog) (walk : Walk) (bytes : List ℕ) (ls : List TextLine) : Type 0 where
  pub many : walk.parts ≡ length parts
  pub written : List TextLine
  pub whole : OwesNothing Shallow (owed_of walk) written
  pub cut : Cuts (tokens_of written) bytes []
  pub is : expanded parts written ≡ ls

-- the text is a proof's, and the lines of its tree and its conclusion are still to come
abbrev pub HoldsAll : List ℕ → ℕ → List ElimLog → Walk → List ℕ → Type 0
HoldsAll text n parts walk rest = (x : Proof) × (c : Conclusion) × IsTextOfProof text n x c × Coming parts walk rest (lines x ++ w.End c ∷ [])

-- no line that pays for what is owed stands there
abbrev pub HasNone : Owed → List ℕ → Type 0
HasNone owed bytes = (l : TextLine) (rest : List ℕ) → Pays Shallow owed l → Cuts (line_text l) bytes rest → ⊥

-- the log that came last: that of a part, or one of its own
abbrev pub log_said : List ElimLog → Option ℕ → ElimLog → ElimLog
log_said parts None own = own
log_said parts (Some i) own = get_or parts i own

-- a conclusion with the entries of its part
abbrev pub ended : List ElimLog → TextLine → TextLine
ended parts (w.EndOf i) = w.End (Nothing (part_at parts i))
ended parts l = l

-- a line after the opening whose conclusion, if it is one, has its entries, and whose part, if it uses one, is there
abbrev pub IsFull : List ElimLog → TextLine → Type 0
IsFull parts (w.Row p k) = Unit {0}
IsFull parts (w.Log log) = Unit {0}
IsFull parts (w.LogOf i) = i < length parts
IsFull parts (w.Gives d) = Unit {0}
IsFull parts (w.End c) = Unit {0}
IsFull parts _ = ⊥

-- what it means
abbrev pub meant : List ElimLog → TextLine → TextLine
meant parts (w.LogOf i) = w.Log (part_at parts i)
meant parts l = l

-- something is told of the line: it is one after the opening, and a conclusion has its entries
abbrev pub is_told : TextLine → Bool
is_told (w.Row p k) = true
is_told (w.Log log) = true
is_told (w.LogOf i) = true
is_told (w.Gives d) = true
is_told (w.End c) = true
is_told _ = false

-- a line that is no conclusion leaves the conclusion
abbrev pub KeepsEnd : Option Line → Conclusion → Conclusion → Type 0
KeepsEnd (Some k.End) before after = Unit {0}
KeepsEnd _ before after = after ≡ before
