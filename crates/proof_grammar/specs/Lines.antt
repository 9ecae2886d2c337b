-- The text of a proof: its lines in their order, and the tokens of each.
use Rattle.std.specs.Prelude.{ℕ, cond, List, [], ◌∷◌, ◌++◌}
use Rattle.base_budget.specs.declared.log.Entry.{Entry}
use Rattle.clause_set.specs.declared.literal.Literal.{Literal}
use Rattle.sequent.specs.declared.member.Pick.{Pick}
use Rattle.sequent.specs.declared.member.Pick.TheVariants as pick
use Rattle.proof_tree.specs.declared.node.Conclusion.{Conclusion}
use Rattle.proof_tree.specs.declared.node.Conclusion.TheVariants.{Solution, Nothing}
use Rattle.proof_tree.specs.Proof.{Proof, Proofs, node, no_proof, and_proof}
use Rattle.proof_tree.specs.Walk.{width, eliminates}
use Rattle.proof_tokens.specs.declared.tokens.Token.{Token}
use Rattle.proof_tokens.specs.declared.tokens.Token.TheVariants as t
use Rattle.proof_tokens.specs.Lines.{numbered_text, counted_text, head_text, parts_text, part_text, use_text, charges_text, log_text, none_text, solution_text}
use Rattle.proof_constraint.specs.Text.{gives_text}
use Rattle.proof_grammar.specs.declared.lines.TextLine.{TextLine}
use Rattle.proof_grammar.specs.declared.lines.TextLine.TheVariants as w

-- the rule of a node, with the place of its principal; beta says how many premises it has
abbrev pub row_text : Pick → ℕ → List Token
row_text (pick.Trivial i) k = t.Trivial ∷ numbered_text i
row_text (pick.Alpha i) k = t.Alpha ∷ numbered_text i
row_text (pick.Delta i) k = t.Delta ∷ numbered_text i
row_text (pick.Beta i) k = t.Beta ∷ counted_text (i, k)
row_text (pick.Gamma i) k = t.Gamma ∷ numbered_text i
row_text pick.Close k = t.Close ∷ t.LineFeed ∷ []

abbrev pub conclusion_text : Conclusion → List Token
conclusion_text (Solution vs) = solution_text vs
conclusion_text (Nothing log) = none_text log.entries

abbrev pub line_text : TextLine → List Token
line_text (w.Head n) = head_text n
line_text (w.Parts n) = parts_text n
line_text (w.Part log) = part_text log.entries
line_text (w.Charges n) = charges_text n
line_text (w.Row p k) = row_text p k
line_text (w.Log log) = log_text log.entries
line_text (w.LogOf i) = t.Log ∷ use_text i
line_text (w.Gives d) = gives_text d
line_text (w.End c) = conclusion_text c
line_text (w.EndOf i) = t.Nothing ∷ use_text i

-- the tokens of lines, one after another
abbrev pub tokens_of : List TextLine → List Token
tokens_of [] = []
tokens_of (l ∷ ls) = line_text l ++ tokens_of ls

-- the lines after the premises of a node
abbrev pub last_lines : Pick → List Entry → List (List Literal) → List TextLine
last_lines p es d = cond (eliminates p) (w.Log (record { entries = es }) ∷ w.Gives d ∷ []) (w.Gives d ∷ [])

-- the lines of a node: its rule, those of its premises, its log where the rule eliminates, and its constraint
abbrev mutual
  pub lines : Proof → List TextLine
  lines (node p ns es d) = w.Row p (width ns) ∷ (lines_all ns ++ last_lines p es d)

  pub lines_all : Proofs → List TextLine
  lines_all no_proof = []
  lines_all (and_proof n ns) = lines n ++ lines_all ns

-- the lines of a proof in the first format: its format, the charges that it may cost, its tree, and its conclusion
abbrev pub proof_lines : ℕ → Proof → Conclusion → List TextLine
proof_lines n x c = w.Head 1 ∷ w.Charges n ∷ (lines x ++ w.End c ∷ [])

-- the text of a proof in the first format
abbrev pub proof_text : ℕ → Proof → Conclusion → List Token
proof_text n x c = tokens_of (proof_lines n x c)
