-- The text of a proof in the second format: each log of two entries and more that stands on two lines at least is a part.
use Rattle.std.specs.Prelude.{ℕ, ◌≡◌, ◌+◌, Bool, true, false, cond, List, [], ◌∷◌, ◌++◌, length, map, position, Option, Some, None}
use Rattle.base_budget.specs.declared.log.Entry.{Entry}
use Rattle.proof_tree.specs.declared.node.Conclusion.{Conclusion}
use Rattle.proof_tree.specs.declared.node.Conclusion.TheVariants.{Nothing}
use Rattle.proof_tree.specs.Proof.{Proof}
use Rattle.proof_tokens.specs.declared.tokens.Token.{Token}
use Rattle.proof_tokens.specs.Lines.{entries_text}
use Rattle.proof_tokens.specs.Spellings.{spelled}
use Rattle.proof_grammar.specs.declared.lines.TextLine.{TextLine}
use Rattle.proof_grammar.specs.declared.lines.TextLine.TheVariants as w
use Rattle.proof_grammar.specs.Lines.{lines, tokens_of}
use Rattle.base_texts.specs.Texts.{is_among, is_text, picked, with_text}

-- a log as its line has it after the word: its entries, and the end of the line
abbrev pub key : List Entry → List ℕ
key es = spelled (entries_text es)

abbrev pub has_two : List Entry → Bool
has_two [] = false
has_two (s ∷ []) = false
has_two (s ∷ u ∷ es) = true

-- the log, if it has two entries at least
abbrev pub long_log : List Entry → List (List Entry)
long_log es = cond (has_two es) (es ∷ []) []

-- the logs of two entries and more, in the order of their lines
abbrev pub long_logs : List TextLine → List (List Entry)
long_logs [] = []
long_logs (w.Log log ∷ ls) = long_log log.entries ++ long_logs ls
long_logs (w.End (Nothing log) ∷ ls) = long_log log.entries ++ long_logs ls
long_logs (l ∷ ls) = long_logs ls

-- these as they are written
abbrev pub keys : List TextLine → List (List ℕ)
keys ls = map key (long_logs ls)

-- the different ones, in the order in which they came first
abbrev pub seen_in : List (List ℕ) → List (List ℕ) → List (List ℕ)
seen_in seen [] = seen
seen_in seen (k ∷ ks) = seen_in (with_text k seen) ks

-- those that came once more
abbrev pub again_in : List (List ℕ) → List (List ℕ) → List (List ℕ) → List (List ℕ)
again_in seen again [] = again
again_in seen again (k ∷ ks) = again_in (with_text k seen) (cond (is_among k seen) (with_text k again) again) ks

-- the greatest number of parts that a text can say
abbrev pub most_parts : ℕ
most_parts = 4294967295

-- the parts of a text with these lines, as they are written: the different logs of two entries and more, in the order of their first
-- lines, that come again
abbrev pub parts_of : List TextLine → List (List ℕ)
parts_of ls = picked (again_in [] [] (keys ls)) most_parts [] (seen_in [] (keys ls))

-- the entries that are written so
abbrev pub entries_of : List (List Entry) → List ℕ → List Entry
entries_of [] k = []
entries_of (es ∷ logs) k = cond (is_text k (key es)) es (entries_of logs k)

-- the line of a part
abbrev pub part_line : List (List Entry) → List ℕ → TextLine
part_line logs k = w.Part (record { entries = entries_of logs k })

-- the number of the part that a log is
abbrev pub part_of : List (List ℕ) → List Entry → Option ℕ
part_of parts es = cond (has_two es) (position (is_text (key es)) parts) None

abbrev pub log_line : List Entry → Option ℕ → TextLine
log_line es None = w.Log (record { entries = es })
log_line es (Some i) = w.LogOf i

abbrev pub none_line : List Entry → Option ℕ → TextLine
none_line es None = w.End (Nothing (record { entries = es }))
none_line es (Some i) = w.EndOf i

-- a line, with the use of a part in the place of its log
abbrev pub short_line : List (List ℕ) → TextLine → TextLine
short_line parts (w.Log log) = log_line log.entries (part_of parts log.entries)
short_line parts (w.End (Nothing log)) = none_line log.entries (part_of parts log.entries)
short_line parts l = l

abbrev pub short_lines_of : List (List ℕ) → List TextLine → List TextLine
short_lines_of parts ls = map (short_line parts) ls

-- the lines after the charges in the first format
abbrev pub plain_lines : Proof → Conclusion → List TextLine
plain_lines x c = lines x ++ w.End c ∷ []

-- the lines of a proof in the second format
abbrev pub short_lines : ℕ → Proof → Conclusion → List TextLine
short_lines n x c =
    (let ls = plain_lines x c in let ps = parts_of ls in
    w.Head 2 ∷ w.Parts (length ps) ∷ (map (part_line (long_logs ls)) ps ++ w.Charges n ∷ short_lines_of ps ls))

-- the text of a proof in the second format
abbrev pub short_text : ℕ → Proof → Conclusion → List Token
short_text n x c = tokens_of (short_lines n x c)

-- on how many lines a log stands that is written so
abbrev pub times : List ℕ → List (List ℕ) → ℕ
times k [] = 0
times k (j ∷ ks) = cond (is_text k j) (1 + times k ks) (times k ks)

-- no text stands there twice
abbrev pub AreDifferent : List (List ℕ) → Type 0
AreDifferent [] = Unit {0}
AreDifferent (k ∷ ks) = (is_among k ks ≡ false) × AreDifferent ks
