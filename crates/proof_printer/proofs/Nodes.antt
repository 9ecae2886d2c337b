-- The lines of nodes, written in parts.
use Rattle.std.proofs.Common.{ℕ, suc, ◌≡◌, ◌<◌, ◌+◌, true, false, List, [], ◌∷◌, ◌++◌, length, drop, get_or, refl, sym, ap, subst, ◌∙◌, append_assoc, append-nil, Result, Ok, Err, OnOk}
use Rattle.std.specs.Prelude.{Bool, cond, codes, map, position, Option, Some, None}
use Rattle.base_texts.specs.Texts.{each_behind, is_text}
use Rattle.proof_printer.specs.Short.{entries_of, has_two, key, log_line, long_logs, none_line, part_line, part_of, parts_of, plain_lines, short_line, short_lines_of, short_text}
use Rattle.base_budget.proofs.Charging.{drop-item}
use Rattle.base_budget.specs.declared.log.Entry.{Entry}
use Rattle.base_budget.specs.declared.log.ElimLog.{ElimLog}
use Rattle.clause_set.specs.declared.literal.Literal.{Literal}
use Rattle.sequent.specs.declared.member.Pick.{Pick}
use Rattle.proof_tokens.specs.declared.tokens.Token.{Token}
use Rattle.proof_tokens.specs.declared.tokens.Token.TheVariants as t
use Rattle.proof_tokens.specs.Lines.{charges_text, head_text, log_text, part_text, parts_text, use_text}
use Rattle.proof_tokens.specs.Spellings.{spelled}
use Rattle.proof_tree.specs.declared.node.Node.{Node, out-Node}
use Rattle.proof_tree.specs.declared.node.Node.TheFolds.{fold_out-Node}
use Rattle.proof_tree.specs.declared.node.Conclusion.{Conclusion}
use Rattle.proof_tree.specs.declared.node.Conclusion.TheVariants.{Solution, Nothing}
use Rattle.proof_tree.specs.Proof.{Proof, Proofs, node, proofs}
use Rattle.proof_tree.specs.Views.{proof_of, proof_step}
use Rattle.proof_tree.specs.Walk.{width, eliminates}
use Rattle.proof_constraint.specs.Text.{gives_text}
use Rattle.proof_grammar.specs.declared.lines.TextLine.{TextLine}
use Rattle.proof_grammar.specs.declared.lines.TextLine.TheVariants as w
use Rattle.proof_grammar.specs.Lines.{row_text, conclusion_text, line_text, tokens_of, last_lines, lines, lines_all, proof_text}
use Rattle.proof_grammar.proofs.Leading.{tokens_append}
use Rattle.proof_printer.proofs.Written.{spelled_append, joined}

pub short_append : (ps : List (List ℕ)) (ls ms : List TextLine) → short_lines_of ps (ls ++ ms) ≡ short_lines_of ps ls ++ short_lines_of ps ms
short_append ps [] ms = refl
short_append ps (l ∷ ls) ms = ap (λ z. short_line ps l ∷ z) (short_append ps ls ms)

-- with no parts a line stays as it is
none_of : (b : Bool) (o : Option ℕ) → o ≡ None → cond b o None ≡ None
none_of true o e = e
none_of false o e = refl

no_part : (es : List Entry) → part_of [] es ≡ None
no_part es = none_of (has_two es) (position (is_text (key es)) []) refl

line_stays : (l : TextLine) → short_line [] l ≡ l
line_stays (w.Log log) = ap (log_line log.entries) (no_part log.entries)
line_stays (w.End (Nothing log)) = ap (none_line log.entries) (no_part log.entries)
line_stays (w.End (Solution vs)) = refl
line_stays (w.Head n) = refl
line_stays (w.Parts n) = refl
line_stays (w.Part log) = refl
line_stays (w.Charges n) = refl
line_stays (w.Row p k) = refl
line_stays (w.LogOf i) = refl
line_stays (w.Gives d) = refl
line_stays (w.EndOf i) = refl

pub lines_stay : (ls : List TextLine) → short_lines_of [] ls ≡ ls
lines_stay [] = refl
lines_stay (l ∷ ls) = ap (λ z. z ∷ short_lines_of [] ls) (line_stays l) ∙ ap (λ z. l ∷ z) (lines_stay ls)

-- the bytes of lines that may use parts
abbrev pub short_bytes : List (List ℕ) → List TextLine → List ℕ
short_bytes ps ls = spelled (tokens_of (short_lines_of ps ls))

pub lines_append : (ps : List (List ℕ)) (ls ms : List TextLine) → short_bytes ps (ls ++ ms) ≡ short_bytes ps ls ++ short_bytes ps ms
lines_append ps ls ms = ap (λ z. spelled (tokens_of z)) (short_append ps ls ms) ∙ ap spelled (tokens_append (short_lines_of ps ls) (short_lines_of ps ms)) ∙ spelled_append (tokens_of (short_lines_of ps ls)) (tokens_of (short_lines_of ps ms))

one_line : (xs : List Token) → spelled (xs ++ []) ≡ spelled xs
one_line xs = ap spelled (append-nil xs)

-- The line of a log.

pub plain_log : (ps : List (List ℕ)) (log : ElimLog) (old out : List ℕ) → part_of ps log.entries ≡ None → out ≡ old ++ spelled (log_text log.entries) → out ≡ old ++ spelled (line_text (short_line ps (w.Log log)))
plain_log ps log old out e h = subst (λ o. out ≡ old ++ spelled (line_text (log_line log.entries o))) (sym e) h

pub used_log : (ps : List (List ℕ)) (log : ElimLog) (i : ℕ) (old out : List ℕ) → part_of ps log.entries ≡ Some i → out ≡ old ++ spelled (t.Log ∷ use_text i) → out ≡ old ++ spelled (line_text (short_line ps (w.Log log)))
used_log ps log i old out e h = subst (λ o. out ≡ old ++ spelled (line_text (log_line log.entries o))) (sym e) h

pub plain_none : (ps : List (List ℕ)) (log : ElimLog) (old out : List ℕ) → part_of ps log.entries ≡ None → out ≡ old ++ spelled (conclusion_text (Nothing log)) → out ≡ old ++ spelled (line_text (short_line ps (w.End (Nothing log))))
plain_none ps log old out e h = subst (λ o. out ≡ old ++ spelled (line_text (none_line log.entries o))) (sym e) h

pub used_none : (ps : List (List ℕ)) (log : ElimLog) (i : ℕ) (old out : List ℕ) → part_of ps log.entries ≡ Some i → out ≡ old ++ spelled (t.Nothing ∷ use_text i) → out ≡ old ++ spelled (line_text (short_line ps (w.End (Nothing log))))
used_none ps log i old out e h = subst (λ o. out ≡ old ++ spelled (line_text (none_line log.entries o))) (sym e) h

-- what succeeds with one claim succeeds with another
pub on_ok : {A E : Type 0} (r : Result A E) (P Q : Type 0) → (P → Q) → OnOk r P → OnOk r Q
on_ok (Ok a) P Q f p = f p
on_ok (Err e) P Q f p = tt

-- the lines after the premises where the rule eliminates
pub logged_ends : (ps : List (List ℕ)) (p : Pick) (es : List Entry) (d : List (List Literal)) (old mid out : List ℕ) → eliminates p ≡ true → mid ≡ old ++ spelled (line_text (short_line ps (w.Log (record { entries = es })))) → out ≡ mid ++ spelled (gives_text d)
    → out ≡ old ++ short_bytes ps (last_lines p es d)
logged_ends ps p es d old mid out h e q =
    let log = line_text (short_line ps (w.Log (record { entries = es }))) in
    rw h (joined old out log (gives_text d ++ []) (q ∙ ap (λ z. z ++ spelled (gives_text d)) e ∙ ap (λ z. (old ++ spelled log) ++ z) (sym (one_line (gives_text d)))))

-- and where it does not
pub plain_ends : (ps : List (List ℕ)) (p : Pick) (es : List Entry) (d : List (List Literal)) (old out : List ℕ) → eliminates p ≡ false → out ≡ old ++ spelled (gives_text d) → out ≡ old ++ short_bytes ps (last_lines p es d)
plain_ends ps p es d old out h e = rw h (e ∙ ap (λ z. old ++ z) (sym (one_line (gives_text d))))

-- a node of the code as a proof
pub node_is : (x : Node) → proof_of x ≡ node (out-Node x).rule (proofs (map proof_of (out-Node x).children)) (out-Node x).log.entries (out-Node x).gives
node_is x = fold_out-Node Proof proof_step x

pub widths : (xs : List Node) → width (proofs (map proof_of xs)) ≡ length xs
widths [] = refl
widths (x ∷ xs) = ap (λ (n : ℕ). suc n) (widths xs)

in_three : (row inner ends old out : List ℕ) → out ≡ ((old ++ row) ++ inner) ++ ends → out ≡ old ++ (row ++ (inner ++ ends))
in_three row inner ends old out e = e ∙ append_assoc (old ++ row) inner ends ∙ append_assoc old row (inner ++ ends)

parts_written : (ps : List (List ℕ)) (p : Pick) (ns : Proofs) (es : List Entry) (d : List (List Literal)) (old first mid out : List ℕ) → first ≡ old ++ spelled (row_text p (width ns)) → mid ≡ first ++ short_bytes ps (lines_all ns)
    → out ≡ mid ++ short_bytes ps (last_lines p es d) → out ≡ old ++ short_bytes ps (lines (node p ns es d))
parts_written ps p ns es d old first mid out e q r =
    in_three (spelled (row_text p (width ns))) (short_bytes ps (lines_all ns)) (short_bytes ps (last_lines p es d)) old out
    (r ∙ ap (λ z. z ++ short_bytes ps (last_lines p es d)) (q ∙ ap (λ z. z ++ short_bytes ps (lines_all ns)) e))
    ∙ ap (λ z. old ++ z) (ap (λ z. spelled (row_text p (width ns)) ++ z) (sym (lines_append ps (lines_all ns) (last_lines p es d)))
    ∙ sym (spelled_append (row_text p (width ns)) (tokens_of (short_lines_of ps (lines_all ns ++ last_lines p es d)))))

-- the lines of a node
pub node_written : (ps : List (List ℕ)) (x : Node) (old first mid out : List ℕ) → first ≡ old ++ spelled (row_text (out-Node x).rule (length (out-Node x).children)) → mid ≡ first ++ short_bytes ps (lines_all (proofs (map proof_of (out-Node x).children)))
    → out ≡ mid ++ short_bytes ps (last_lines (out-Node x).rule (out-Node x).log.entries (out-Node x).gives) → out ≡ old ++ short_bytes ps (lines (proof_of x))
node_written ps x old first mid out e q r =
    parts_written ps (out-Node x).rule (proofs (map proof_of (out-Node x).children)) (out-Node x).log.entries (out-Node x).gives old first mid out
    (e ∙ ap (λ n. old ++ spelled (row_text (out-Node x).rule n)) (sym (widths (out-Node x).children))) q r
    ∙ ap (λ z. old ++ short_bytes ps (lines z)) (sym (node_is x))

abbrev nodes_text : List (List ℕ) → List Node → List ℕ
nodes_text ps xs = short_bytes ps (lines_all (proofs (map proof_of xs)))

behind_node : (ps : List (List ℕ)) (x : Node) (xs : List Node) (text : List ℕ) → (text ++ short_bytes ps (lines (proof_of x))) ++ nodes_text ps xs ≡ text ++ nodes_text ps (x ∷ xs)
behind_node ps x xs text =
    append_assoc text (short_bytes ps (lines (proof_of x))) (nodes_text ps xs)
    ∙ ap (λ z. text ++ z) (sym (lines_append ps (lines (proof_of x)) (lines_all (proofs (map proof_of xs)))))

-- one node more
pub node_more : (ps : List (List ℕ)) (xs : List Node) (i : ℕ) (x : Node) (all now next : List ℕ) → i < length xs → x ≡ get_or xs i x → now ++ nodes_text ps (drop i xs) ≡ all → next ≡ now ++ short_bytes ps (lines (proof_of x))
    → next ++ nodes_text ps (drop (i + 1) xs) ≡ all
node_more ps xs i x all now next lt is e q =
    ap (λ z. z ++ nodes_text ps (drop (i + 1) xs)) q ∙ behind_node ps x (drop (i + 1) xs) now ∙ ap (λ z. now ++ nodes_text ps z) (sym (drop-item xs i x lt is)) ∙ e

-- the tree and the conclusion
ends_written : (ps : List (List ℕ)) (x : Proof) (c : Conclusion) (old root out : List ℕ) → root ≡ old ++ short_bytes ps (lines x) → out ≡ root ++ spelled (line_text (short_line ps (w.End c))) → out ≡ old ++ short_bytes ps (plain_lines x c)
ends_written ps x c old root out e q =
    q ∙ ap (λ z. z ++ spelled (line_text (short_line ps (w.End c)))) e ∙ append_assoc old (short_bytes ps (lines x)) (spelled (line_text (short_line ps (w.End c))))
    ∙ ap (λ z. old ++ (short_bytes ps (lines x) ++ z)) (sym (one_line (line_text (short_line ps (w.End c))))) ∙ ap (λ z. old ++ z) (sym (lines_append ps (lines x) (w.End c ∷ [])))

-- the whole text in the first format
tree_written : (n : ℕ) (x : Proof) (c : Conclusion) (old head charges root out : List ℕ) → head ≡ old ++ spelled (head_text 1) → charges ≡ head ++ spelled (charges_text n) → root ≡ charges ++ short_bytes [] (lines x)
    → out ≡ root ++ spelled (conclusion_text c) → out ≡ old ++ spelled (proof_text n x c)
tree_written n x c old head charges root out e q r s =
    let inner : List Token = tokens_of (plain_lines x c) in
    let ends : out ≡ charges ++ spelled inner =
    ends_written [] x c charges root out r (s ∙ ap (λ z. root ++ spelled (line_text z)) (sym (line_stays (w.End c)))) ∙ ap (λ z. charges ++ spelled (tokens_of z)) (lines_stay (plain_lines x c)) in
    joined old out (head_text 1) (charges_text n ++ inner)
    (joined (old ++ spelled (head_text 1)) out (charges_text n) inner (ends ∙ ap (λ z. z ++ spelled inner) (q ∙ ap (λ z. z ++ spelled (charges_text n)) e)))

-- the conclusion is written last
pub tree_ends : {A E : Type 0} (r : Result A E) (n : ℕ) (x : Proof) (c : Conclusion) (old head charges root out : List ℕ) → head ≡ old ++ spelled (head_text 1) → charges ≡ head ++ spelled (charges_text n) → root ≡ charges ++ short_bytes [] (lines x)
    → OnOk r (out ≡ root ++ spelled (conclusion_text c)) → OnOk r (out ≡ old ++ spelled (proof_text n x c))
tree_ends r n x c old head charges root out e q s h = on_ok r _ _ (tree_written n x c old head charges root out e q s) h

-- The lines of the parts.

-- the entries of each part are written as it is
abbrev pub AreWritten : List (List Entry) → List (List ℕ) → Type 0
AreWritten logs [] = Unit {0}
AreWritten logs (k ∷ ks) = (key (entries_of logs k) ≡ k) × AreWritten logs ks

part_lines : (logs : List (List Entry)) (ks : List (List ℕ)) → AreWritten logs ks → each_behind (codes "part") ks ≡ spelled (tokens_of (map (part_line logs) ks))
part_lines logs [] a = refl
part_lines logs (k ∷ ks) a =
    ap (λ z. codes "part" ++ (z ++ each_behind (codes "part") ks)) (sym a.0)
    ∙ ap (λ z. codes "part" ++ (key (entries_of logs k) ++ z)) (part_lines logs ks a.1)
    ∙ sym (spelled_append (part_text (entries_of logs k)) (tokens_of (map (part_line logs) ks)))

-- the whole text in the second format
short_written : (n : ℕ) (x : Proof) (c : Conclusion) (ks : List (List ℕ)) (old head parts each charges root out : List ℕ) → AreWritten (long_logs (plain_lines x c)) ks → head ≡ old ++ spelled (head_text 2) → parts ≡ head ++ spelled (parts_text (length ks))
    → each ≡ parts ++ each_behind (codes "part") ks → charges ≡ each ++ spelled (charges_text n) → root ≡ charges ++ short_bytes ks (lines x) → out ≡ root ++ spelled (line_text (short_line ks (w.End c)))
    → out ≡ old ++ spelled (tokens_of (w.Head 2 ∷ w.Parts (length ks) ∷ (map (part_line (long_logs (plain_lines x c))) ks ++ w.Charges n ∷ short_lines_of ks (plain_lines x c))))
short_written n x c ks old head parts each charges root out a e p f q r s =
    let inner = tokens_of (short_lines_of ks (plain_lines x c)) in let listed = map (part_line (long_logs (plain_lines x c))) ks in
    let ends : out ≡ charges ++ spelled inner = ends_written ks x c charges root out r s in
    let behind : out ≡ each ++ spelled (charges_text n ++ inner) = joined each out (charges_text n) inner (ends ∙ ap (λ z. z ++ spelled inner) q) in
    let all : out ≡ parts ++ spelled (tokens_of (listed ++ w.Charges n ∷ short_lines_of ks (plain_lines x c))) =
    joined parts out (tokens_of listed) (charges_text n ++ inner) (behind ∙ ap (λ z. z ++ spelled (charges_text n ++ inner)) (f ∙ ap (λ z. parts ++ z) (part_lines (long_logs (plain_lines x c)) ks a)))
    ∙ ap (λ z. parts ++ spelled z) (sym (tokens_append listed (w.Charges n ∷ short_lines_of ks (plain_lines x c)))) in
    let rest = tokens_of (listed ++ w.Charges n ∷ short_lines_of ks (plain_lines x c)) in
    joined old out (head_text 2) (parts_text (length ks) ++ rest)
    (joined (old ++ spelled (head_text 2)) out (parts_text (length ks)) rest (all ∙ ap (λ z. z ++ spelled rest) (p ∙ ap (λ z. z ++ spelled (parts_text (length ks))) e)))

pub short_ends : {A E : Type 0} (r : Result A E) (n : ℕ) (x : Proof) (c : Conclusion) (ks : List (List ℕ)) (old head parts each charges root out : List ℕ) → ks ≡ parts_of (plain_lines x c) → AreWritten (long_logs (plain_lines x c)) ks
    → head ≡ old ++ spelled (head_text 2) → parts ≡ head ++ spelled (parts_text (length ks)) → each ≡ parts ++ each_behind (codes "part") ks → charges ≡ each ++ spelled (charges_text n) → root ≡ charges ++ short_bytes ks (lines x)
    → OnOk r (out ≡ root ++ spelled (line_text (short_line ks (w.End c)))) → OnOk r (out ≡ old ++ spelled (short_text n x c))
short_ends r n x c ks old head parts each charges root out is a e p f q s h =
    on_ok r _ _
    (λ k. short_written n x c ks old head parts each charges root out a e p f q s k
    ∙ ap (λ z. old ++ spelled (tokens_of (w.Head 2 ∷ w.Parts (length z) ∷ (map (part_line (long_logs (plain_lines x c))) z ++ w.Charges n ∷ short_lines_of z (plain_lines x c))))) is) h
