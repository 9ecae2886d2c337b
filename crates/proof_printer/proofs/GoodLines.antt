-- Lines whose numbers are in their ranges, and how they are spaced.
use Rattle.std.proofs.Common.{ℕ, ◌<◌, ◌≤◌, ◌+◌, ◌^◌, Bool, true, false, cond, List, [], ◌∷◌, ◌++◌, refl, arith}
use Rattle.std.specs.List.{AllByRecursion}
use Rattle.base_budget.specs.declared.log.Entry.{Entry}
use Rattle.clause_set.specs.declared.literal.Literal.{Literal}
use Rattle.sequent.specs.declared.member.Pick.{Pick}
use Rattle.sequent.specs.declared.member.Pick.TheVariants as pick
use Rattle.proof_tokens.specs.declared.tokens.Token.TheVariants as t
use Rattle.proof_tokens.specs.Lines.{numbered_text, counted_text}
use Rattle.proof_tokens.specs.Spellings.{IsEntry, AreSpaced}
use Rattle.proof_tokens.proofs.Spaced.{sign_spaced, word_spaced, spaced_append, numbered_spaced, counted_spaced, head_spaced, parts_spaced, part_spaced, charges_spaced, log_spaced, log_use_spaced, none_spaced, none_use_spaced, solution_spaced}
use Rattle.proof_tree.specs.declared.node.Conclusion.{Conclusion}
use Rattle.proof_tree.specs.declared.node.Conclusion.TheVariants.{Solution, Nothing}
use Rattle.proof_tree.specs.Proof.{Proof, Proofs, node, no_proof, and_proof}
use Rattle.proof_tree.specs.Walk.{eliminates}
use Rattle.proof_constraint.specs.Text.{AreClauses}
use Rattle.proof_grammar.specs.declared.lines.TextLine.{TextLine}
use Rattle.proof_grammar.specs.declared.lines.TextLine.TheVariants as w
use Rattle.proof_grammar.specs.Lines.{row_text, conclusion_text, line_text, tokens_of, last_lines, lines, lines_all}
use Rattle.proof_grammar.specs.Owed.{HasWidth, IsConclusion}
use Rattle.proof_grammar.specs.Shaped.{IsShapedNode, AreShapedNodes, IsWritable}
use Rattle.proof_printer.specs.Short.{plain_lines}
use Rattle.proof_printer.specs.Typed.{IsTypedProof, AreTypedProofs, IsTypedConclusion}
use Rattle.proof_printer.proofs.Readable.{gives_spaced}

abbrev pub IsGood : TextLine → Type 0
IsGood (w.Head n) = n < 2 ^ 127
IsGood (w.Parts n) = n < 2 ^ 127
IsGood (w.Part log) = AllByRecursion IsEntry log.entries
IsGood (w.Charges n) = n < 2 ^ 127
IsGood (w.Row p k) = HasWidth p k
IsGood (w.Log log) = AllByRecursion IsEntry log.entries
IsGood (w.LogOf i) = i < 2 ^ 32
IsGood (w.Gives d) = AreClauses d
IsGood (w.End c) = IsConclusion c × IsTypedConclusion c
IsGood (w.EndOf i) = i < 2 ^ 32

abbrev pub AreGood : List TextLine → Type 0
AreGood ls = AllByRecursion IsGood ls

pub good_append : (ls ms : List TextLine) → AreGood ls → AreGood ms → AreGood (ls ++ ms)
good_append [] ms a b = b
good_append (l ∷ ls) ms a b = (a.0, good_append ls ms a.1 b)

small : (n : ℕ) → n ≤ 4294967295 → n < 2 ^ 127
small n h = omega arith

row_spaced : (p : Pick) (k : ℕ) → HasWidth p k → AreSpaced (row_text p k)
row_spaced (pick.Trivial i) k h = word_spaced t.Trivial (numbered_text i) tt refl (numbered_spaced i (small i h.0.1))
row_spaced (pick.Alpha i) k h = word_spaced t.Alpha (numbered_text i) tt refl (numbered_spaced i (small i h.0.1))
row_spaced (pick.Delta i) k h = word_spaced t.Delta (numbered_text i) tt refl (numbered_spaced i (small i h.0.1))
row_spaced (pick.Beta i) k h = word_spaced t.Beta (counted_text (i, k)) tt refl (counted_spaced (i, k) (small i h.0.1) (small k h.1.1))
row_spaced (pick.Gamma i) k h = word_spaced t.Gamma (numbered_text i) tt refl (numbered_spaced i (small i h.0.1))
row_spaced pick.Close k h = word_spaced t.Close (t.LineFeed ∷ []) tt refl (sign_spaced t.LineFeed [] tt refl tt)

conclusion_spaced : (c : Conclusion) → IsConclusion c → IsTypedConclusion c → AreSpaced (conclusion_text c)
conclusion_spaced (Solution vs) h i = solution_spaced vs h
conclusion_spaced (Nothing log) h i = none_spaced log.entries i

line_spaced : (l : TextLine) → IsGood l → AreSpaced (line_text l)
line_spaced (w.Head n) h = head_spaced n h
line_spaced (w.Parts n) h = parts_spaced n h
line_spaced (w.Part log) h = part_spaced log.entries h
line_spaced (w.Charges n) h = charges_spaced n h
line_spaced (w.Row p k) h = row_spaced p k h
line_spaced (w.Log log) h = log_spaced log.entries h
line_spaced (w.LogOf i) h = log_use_spaced i h
line_spaced (w.Gives d) h = gives_spaced d h
line_spaced (w.End c) h = conclusion_spaced c h.0 h.1
line_spaced (w.EndOf i) h = none_use_spaced i h

-- the tokens of good lines are spaced as texts have them
pub good_spaced : (ls : List TextLine) → AreGood ls → AreSpaced (tokens_of ls)
good_spaced [] a = tt
good_spaced (l ∷ ls) a = spaced_append (line_text l) (tokens_of ls) (line_spaced l a.0) (good_spaced ls a.1)

last_good : (logged : Bool) (es : List Entry) (d : List (List Literal)) → AllByRecursion IsEntry es → AreClauses d → AreGood (cond logged (w.Log (record { entries = es }) ∷ w.Gives d ∷ []) (w.Gives d ∷ []))
last_good true es d e a = (e, (a, tt))
last_good false es d e a = (a, tt)

mutual
  pub node_good : (Level : ℕ → Type 0) (j : ℕ) (x : Proof) → IsShapedNode Level j x → IsTypedProof x → AreGood (lines x)
  node_good Level j (node p ns es d) s i = (s.1, good_append (lines_all ns) (last_lines p es d) (nodes_good Level (j + 1) ns s.4 i.3) (last_good (eliminates p) es d i.1 s.3))

  nodes_good : (Level : ℕ → Type 0) (j : ℕ) (ns : Proofs) → AreShapedNodes Level j ns → AreTypedProofs ns → AreGood (lines_all ns)
  nodes_good Level j no_proof s i = tt
  nodes_good Level j (and_proof x ns) s i = good_append (lines x) (lines_all ns) (node_good Level j x s.0 i.0) (nodes_good Level j ns s.1 i.1)

-- the lines of a proof that a text can hold
pub plain_good : (n : ℕ) (x : Proof) (c : Conclusion) → IsWritable n x c → IsTypedProof x → IsTypedConclusion c → AreGood (plain_lines x c)
plain_good n x c s i k = good_append (lines x) (w.End c ∷ []) (node_good _ 1 x s.root i) ((s.conclusion, k), tt)
