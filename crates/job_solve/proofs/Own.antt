-- The text of a proof has no line that is `proof:`, so as a file of its own it is the part that holds the proof.
use Rattle.std.proofs.Common.{ℕ, ◌≡◌, ◌∙◌, List, [], ◌∷◌, ◌++◌, drop, refl, sym, ap, subst, append-nil}
use Rattle.std.specs.List.{AllByRecursion}
use Rattle.base_budget.specs.declared.log.Entry.{Entry}
use Rattle.sequent.specs.declared.member.Pick.{Pick}
use Rattle.sequent.specs.declared.member.Pick.TheVariants as pick
use Rattle.proof_tree.specs.declared.node.Conclusion.{Conclusion}
use Rattle.proof_tree.specs.declared.node.Conclusion.TheVariants.{Solution, Nothing}
use Rattle.proof_tree.specs.Proof.{Proof}
use Rattle.proof_tokens.specs.declared.tokens.Token.{Token}
use Rattle.proof_tokens.specs.declared.tokens.Token.TheVariants as t
use Rattle.proof_tokens.specs.Lines.{counted_text, entries_text, numbered_text}
use Rattle.proof_tokens.specs.Reading.{Cuts}
use Rattle.proof_tokens.specs.Spellings.{AreSpaced, IsEntry, IsGood, IsRangedToken, IsProofToken, spelled}
use Rattle.proof_tokens.proofs.Cutting.{piece_ranged, spelled_front}
use Rattle.proof_tokens.proofs.Spaced.{charges_spaced, counted_spaced, head_spaced, log_spaced, log_use_spaced, none_spaced, none_use_spaced, numbered_spaced, part_spaced, parts_spaced, sign_spaced, solution_spaced, spaced_append, word_spaced}
use Rattle.proof_grammar.specs.declared.lines.Owed.{Owed}
use Rattle.proof_grammar.specs.declared.lines.Owed.TheVariants as o
use Rattle.proof_grammar.specs.declared.lines.TextLine.{TextLine}
use Rattle.proof_grammar.specs.declared.lines.TextLine.TheVariants as w
use Rattle.proof_grammar.specs.Lines.{line_text, row_text, tokens_of}
use Rattle.proof_grammar.specs.Owed.{OwesNothing, Pays, owes}
use Rattle.proof_grammar.specs.Shaped.{IsTextOfProof}
use Rattle.proof_file.specs.Body.{body}
use Rattle.proof_file.proofs.Own.{own_body}
use Rattle.proof_printer.proofs.Readable.{gives_spaced}

abbrev AreRanged : List Token → Type 0
AreRanged xs = AllByRecursion IsRangedToken xs

-- ---- the numbers of tokens that were cut are in their ranges
cut_ranged : (xs : List Token) (bytes rest : List ℕ) → Cuts xs bytes rest → AreRanged xs
cut_ranged [] bytes rest c = tt
cut_ranged (x ∷ xs) bytes rest c = (piece_ranged bytes (record { token = x; len = c.0 }) c.1, cut_ranged xs (drop c.0 bytes) rest c.2)

front_ranged : (xs ys : List Token) → AreRanged (xs ++ ys) → AreRanged xs
front_ranged [] ys r = tt
front_ranged (x ∷ xs) ys r = (r.0, front_ranged xs ys r.1)

back_ranged : (xs ys : List Token) → AreRanged (xs ++ ys) → AreRanged ys
back_ranged [] ys r = r
back_ranged (x ∷ xs) ys r = back_ranged xs ys r.1

entries_ranged : (es : List Entry) → AreRanged (entries_text es) → AllByRecursion IsEntry es
entries_ranged [] r = tt
entries_ranged (s ∷ es) r = (r.1.0, entries_ranged es r.1.1)

-- ---- lines that pay for something are spaced
row_spaced : (p : Pick) (k : ℕ) → AreRanged (row_text p k) → AreSpaced (row_text p k)
row_spaced (pick.Trivial i) k r = word_spaced t.Trivial (numbered_text i) tt refl (numbered_spaced i r.1.1.0)
row_spaced (pick.Alpha i) k r = word_spaced t.Alpha (numbered_text i) tt refl (numbered_spaced i r.1.1.0)
row_spaced (pick.Delta i) k r = word_spaced t.Delta (numbered_text i) tt refl (numbered_spaced i r.1.1.0)
row_spaced (pick.Beta i) k r = word_spaced t.Beta (counted_text (i, k)) tt refl (counted_spaced (i, k) r.1.1.0 r.1.1.1.1.0)
row_spaced (pick.Gamma i) k r = word_spaced t.Gamma (numbered_text i) tt refl (numbered_spaced i r.1.1.0)
row_spaced pick.Close k r = word_spaced t.Close (t.LineFeed ∷ []) tt refl (sign_spaced t.LineFeed [] tt refl tt)

line_spaced : (Level : ℕ → Type 0) (o : Owed) (l : TextLine) → Pays Level o l → AreRanged (line_text l) → AreSpaced (line_text l)
line_spaced Level o.Head (w.Head n) h r = head_spaced n r.1.1.0
line_spaced Level o.Parts (w.Parts n) h r = parts_spaced n r.1.1.0
line_spaced Level o.Part (w.Part log) h r = part_spaced log.entries (entries_ranged log.entries r.1)
line_spaced Level (o.Charges m) (w.Charges n) h r = charges_spaced n r.1.1.0
line_spaced Level (o.Node j m) (w.Row p k) h r = row_spaced p k r
line_spaced Level (o.Log m) (w.Log log) h r = log_spaced log.entries (entries_ranged log.entries r.1)
line_spaced Level (o.Log m) (w.LogOf i) h r = log_use_spaced i r.1.1.0
line_spaced Level o.Gives (w.Gives d) h r = gives_spaced d h
line_spaced Level (o.End m) (w.End (Solution vs)) h r = solution_spaced vs h
line_spaced Level (o.End m) (w.End (Nothing log)) h r = none_spaced log.entries (entries_ranged log.entries r.1)
line_spaced Level (o.End m) (w.EndOf i) h r = none_use_spaced i r.1.1.0
line_spaced Level _ _ h r = absurd h

lines_spaced : (Level : ℕ → Type 0) (os : List Owed) (ls : List TextLine) → OwesNothing Level os ls → AreRanged (tokens_of ls) → AreSpaced (tokens_of ls)
lines_spaced Level os [] h r = tt
lines_spaced Level [] (l ∷ ls) h r = absurd h
lines_spaced Level (o ∷ os) (l ∷ ls) h r =
    spaced_append (line_text l) (tokens_of ls) (line_spaced Level o l h.0 (front_ranged (line_text l) (tokens_of ls) r)) (lines_spaced Level (owes o l ++ os) ls h.1 (back_ranged (line_text l) (tokens_of ls) r))

-- ---- the text is what is written of them
spaced_good : (xs : List Token) → AreSpaced xs → AllByRecursion IsGood xs
spaced_good [] a = tt
spaced_good (x ∷ xs) a = (λ bad. subst IsProofToken bad a.0, spaced_good xs a.2)

pub own_text : (text : List ℕ) (n : ℕ) (x : Proof) (c : Conclusion) → IsTextOfProof text n x c → body text ≡ text
own_text text n x c h =
    let spaced = lines_spaced _ _ h.lines h.whole (cut_ranged (tokens_of h.lines) text [] h.cut) in
    let same : text ≡ spelled (tokens_of h.lines) = spelled_front (tokens_of h.lines) text [] (spaced_good (tokens_of h.lines) spaced) h.cut ∙ append-nil (spelled (tokens_of h.lines)) in
    ap body same ∙ own_body (tokens_of h.lines) spaced ∙ sym same
