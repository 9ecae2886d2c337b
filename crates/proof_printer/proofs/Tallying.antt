-- Logs that are noted, in parts.
use Rattle.std.proofs.Common.{ℕ, ◌≡◌, ◌≤◌, ◌<◌, ◌+◌, ◌&&◌, Bool, true, false, cond, List, [], ◌∷◌, ◌++◌, length, map, drop, get_or, nat_lt, if◌then◌else◌, refl, sym, ap, subst, ◌∙◌, append_assoc, append-nil, length-append, arith, Result, Ok, Err, IfOk, OnOk}
use Rattle.std.proofs.lemmas.Bool.Decides.{nat_tests}
use Rattle.base_budget.specs.declared.log.Entry.{Entry}
use Rattle.base_budget.proofs.Charging.{drop-item}
use Rattle.clause_set.specs.declared.literal.Literal.{Literal}
use Rattle.sequent.specs.declared.member.Pick.{Pick}
use Rattle.proof_tree.specs.declared.node.Node.{Node, out-Node}
use Rattle.proof_tree.specs.declared.node.Conclusion.{Conclusion}
use Rattle.proof_tree.specs.declared.node.Conclusion.TheVariants.{Solution, Nothing}
use Rattle.proof_tree.specs.Proof.{Proof, Proofs, node, proofs}
use Rattle.proof_tree.specs.Views.{proof_of}
use Rattle.proof_tree.specs.Walk.{eliminates}
use Rattle.proof_grammar.specs.declared.lines.TextLine.{TextLine}
use Rattle.proof_grammar.specs.declared.lines.TextLine.TheVariants as w
use Rattle.proof_grammar.specs.Lines.{last_lines, lines, lines_all}
use Rattle.base_texts.specs.Texts.{is_among, picked, with_text}
use Rattle.proof_printer.specs.Short.{again_in, key, keys, long_log, long_logs, most_parts, parts_of, plain_lines, seen_in}
use Rattle.proof_printer.proofs.Nodes.{node_is}

pub long_append : (ls ms : List TextLine) → long_logs (ls ++ ms) ≡ long_logs ls ++ long_logs ms
long_append [] ms = refl
long_append (w.Log log ∷ ls) ms = ap (λ z. long_log log.entries ++ z) (long_append ls ms) ∙ sym (append_assoc (long_log log.entries) (long_logs ls) (long_logs ms))
long_append (w.End (Nothing log) ∷ ls) ms = ap (λ z. long_log log.entries ++ z) (long_append ls ms) ∙ sym (append_assoc (long_log log.entries) (long_logs ls) (long_logs ms))
long_append (w.End (Solution vs) ∷ ls) ms = long_append ls ms
long_append (w.Head n ∷ ls) ms = long_append ls ms
long_append (w.Parts n ∷ ls) ms = long_append ls ms
long_append (w.Part log ∷ ls) ms = long_append ls ms
long_append (w.Charges n ∷ ls) ms = long_append ls ms
long_append (w.Row p k ∷ ls) ms = long_append ls ms
long_append (w.LogOf i ∷ ls) ms = long_append ls ms
long_append (w.Gives d ∷ ls) ms = long_append ls ms
long_append (w.EndOf i ∷ ls) ms = long_append ls ms

keys_map : (xs ys : List (List Entry)) → map key (xs ++ ys) ≡ map key xs ++ map key ys
keys_map [] ys = refl
keys_map (x ∷ xs) ys = ap (λ z. key x ∷ z) (keys_map xs ys)

pub keys_append : (ls ms : List TextLine) → keys (ls ++ ms) ≡ keys ls ++ keys ms
keys_append ls ms = ap (map key) (long_append ls ms) ∙ keys_map (long_logs ls) (long_logs ms)

pub seen_append : (seen ks js : List (List ℕ)) → seen_in seen (ks ++ js) ≡ seen_in (seen_in seen ks) js
seen_append seen [] js = refl
seen_append seen (k ∷ ks) js = seen_append (with_text k seen) ks js

pub again_append : (seen again ks js : List (List ℕ)) → again_in seen again (ks ++ js) ≡ again_in (seen_in seen ks) (again_in seen again ks) js
again_append seen again [] js = refl
again_append seen again (k ∷ ks) js = again_append (with_text k seen) (cond (is_among k seen) (with_text k again) again) ks js

-- what a tally is after some lines
pub record Tallied (seen again : List (List ℕ)) (ls : List TextLine) (seen2 again2 : List (List ℕ)) : Type 0 where
  pub seen_is : seen2 ≡ seen_in seen (keys ls)
  pub again_is : again2 ≡ again_in seen again (keys ls)

pub tallied_none : (seen again : List (List ℕ)) → Tallied seen again [] seen again
tallied_none seen again = record { seen_is = refl; again_is = refl }

-- lines after lines
pub tallied_append : (seen again : List (List ℕ)) (ls : List TextLine) (seen2 again2 : List (List ℕ)) (ms : List TextLine) (seen3 again3 : List (List ℕ)) → Tallied seen again ls seen2 again2 → Tallied seen2 again2 ms seen3 again3 → Tallied seen again (ls ++ ms) seen3 again3
tallied_append seen again ls seen2 again2 ms seen3 again3 p q = record {
  seen_is = q.seen_is ∙ ap (λ z. seen_in z (keys ms)) p.seen_is ∙ sym (seen_append seen (keys ls) (keys ms)) ∙ ap (seen_in seen) (sym (keys_append ls ms));
  again_is = q.again_is ∙ ap (λ z. again_in z again2 (keys ms)) p.seen_is ∙ ap (λ z. again_in (seen_in seen (keys ls)) z (keys ms)) p.again_is
      ∙ sym (again_append seen again (keys ls) (keys ms)) ∙ ap (again_in seen again) (sym (keys_append ls ms));
}

pub tallied_as : (seen again : List (List ℕ)) (ls ms : List TextLine) (seen2 again2 : List (List ℕ)) → ls ≡ ms → Tallied seen again ls seen2 again2 → Tallied seen again ms seen2 again2
tallied_as seen again ls ms seen2 again2 e p = subst (λ z. Tallied seen again z seen2 again2) e p

-- The lines after the premises.

pub last_logged : (p : Pick) (es : List Entry) (d : List (List Literal)) → eliminates p ≡ true → keys (last_lines p es d) ≡ map key (long_log es)
last_logged p es d h = ap (λ b. keys (cond b (w.Log (record { entries = es }) ∷ w.Gives d ∷ []) (w.Gives d ∷ []))) h ∙ ap (map key) (append-nil (long_log es))

pub last_plain : (p : Pick) (es : List Entry) (d : List (List Literal)) → eliminates p ≡ false → keys (last_lines p es d) ≡ []
last_plain p es d h = ap (λ b. keys (cond b (w.Log (record { entries = es }) ∷ w.Gives d ∷ []) (w.Gives d ∷ []))) h

pub end_logged : (log : List Entry) → keys (w.End (Nothing (record { entries = log })) ∷ []) ≡ map key (long_log log)
end_logged log = ap (map key) (append-nil (long_log log))

-- Nodes.

node_keys_by : (p : Pick) (ns : Proofs) (es : List Entry) (d : List (List Literal)) → keys (lines (node p ns es d)) ≡ keys (lines_all ns ++ last_lines p es d)
node_keys_by p ns es d = refl

-- the logs of a node: those of its premises, and its own
pub node_tallied : (x : Node) (seen again seen2 again2 seen3 again3 : List (List ℕ)) → Tallied seen again (lines_all (proofs (map proof_of (out-Node x).children))) seen2 again2
    → Tallied seen2 again2 (last_lines (out-Node x).rule (out-Node x).log.entries (out-Node x).gives) seen3 again3 → Tallied seen again (lines (proof_of x)) seen3 again3
node_tallied x seen again seen2 again2 seen3 again3 p q =
    let all = tallied_append seen again (lines_all (proofs (map proof_of (out-Node x).children))) seen2 again2 (last_lines (out-Node x).rule (out-Node x).log.entries (out-Node x).gives) seen3 again3 p q in
    tallied_as seen again (lines (node (out-Node x).rule (proofs (map proof_of (out-Node x).children)) (out-Node x).log.entries (out-Node x).gives)) (lines (proof_of x)) seen3 again3 (ap lines (sym (node_is x)))
    (record { seen_is = all.seen_is; again_is = all.again_is })

abbrev nodes_lines : List Node → List TextLine
nodes_lines xs = lines_all (proofs (map proof_of xs))

-- the logs of the nodes that are still to come, and those of all
pub record Noting (old_seen old_again : List (List ℕ)) (all : List Node) (i : ℕ) (seen again : List (List ℕ)) : Type 0 where
  pub seen_is : seen_in seen (keys (nodes_lines (drop i all))) ≡ seen_in old_seen (keys (nodes_lines all))
  pub again_is : again_in seen again (keys (nodes_lines (drop i all))) ≡ again_in old_seen old_again (keys (nodes_lines all))

one_more : (x : Node) (xs : List Node) → keys (nodes_lines (x ∷ xs)) ≡ keys (lines (proof_of x)) ++ keys (nodes_lines xs)
one_more x xs = keys_append (lines (proof_of x)) (nodes_lines xs)

pub noting_more : (old_seen old_again : List (List ℕ)) (all : List Node) (i : ℕ) (x : Node) (seen again seen2 again2 : List (List ℕ)) → i < length all → x ≡ get_or all i x → Noting old_seen old_again all i seen again
    → Tallied seen again (lines (proof_of x)) seen2 again2 → Noting old_seen old_again all (i + 1) seen2 again2
noting_more old_seen old_again all i x seen again seen2 again2 lt is n t =
    let here : keys (nodes_lines (drop i all)) ≡ keys (lines (proof_of x)) ++ keys (nodes_lines (drop (i + 1) all)) = ap (λ z. keys (nodes_lines z)) (drop-item all i x lt is) ∙ one_more x (drop (i + 1) all) in
    let rest = keys (nodes_lines (drop (i + 1) all)) in let first = keys (lines (proof_of x)) in
    record {
      seen_is = ap (λ z. seen_in z rest) t.seen_is ∙ sym (seen_append seen first rest) ∙ ap (seen_in seen) (sym here) ∙ n.seen_is;
      again_is = ap (λ z. again_in z again2 rest) t.seen_is ∙ ap (λ z. again_in (seen_in seen first) z rest) t.again_is ∙ sym (again_append seen again first rest) ∙ ap (again_in seen again) (sym here) ∙ n.again_is;
    }

-- Parts.

length_with : (b : Bool) (t : List ℕ) (found : List (List ℕ)) (most : ℕ) → length found < most → length (if b then found else found ++ t ∷ []) ≤ most
length_with true t found most h = omega (arith, h)
length_with false t found most h = let e = length-append found (t ∷ []) in omega (arith, e, h)

picked_step : (b c : Bool) (t : List ℕ) (found : List (List ℕ)) (most : ℕ) → nat_lt (length found) most ≡ b → length found ≤ most → length (cond (b && c) (with_text t found) found) ≤ most
picked_step true true t found most e h = length_with (is_among t found) t found most (grind (arith, nat_tests))
picked_step true false t found most e h = h
picked_step false c t found most e h = h

-- there are this many at most
pub picked_most : (others : List (List ℕ)) (most : ℕ) (found ts : List (List ℕ)) → length found ≤ most → length (picked others most found ts) ≤ most
picked_most others most found [] h = h
picked_most others most found (t ∷ ts) h = picked_most others most (cond (nat_lt (length found) most && is_among t others) (with_text t found) found) ts (picked_step (nat_lt (length found) most) (is_among t others) t found most refl h)

-- the parts of a tally
pub tallied_parts : (x : Proof) (c : Conclusion) (seen again found : List (List ℕ)) → Tallied [] [] (plain_lines x c) seen again → found ≡ picked again most_parts [] seen → found ≡ parts_of (plain_lines x c)
tallied_parts x c seen again found t e = e ∙ ap (λ z. picked z most_parts [] seen) t.again_is ∙ ap (λ z. picked (again_in [] [] (keys (plain_lines x c))) most_parts [] z) t.seen_is

-- a claim on success from two others
pub both_ok : {A E : Type 0} (r : Result A E) (P Q R : Type 0) → (P → Q → R) → OnOk r P → OnOk r Q → OnOk r R
both_ok (Ok a) P Q R f p q = f p q
both_ok (Err e) P Q R f p q = tt

pub if_ok : {A E : Type 0} (r : Result A E) (P Q : A → Type 0) → ((a : A) → P a → Q a) → IfOk r P → IfOk r Q
if_ok (Ok a) P Q f p = f a p
if_ok (Err e) P Q f p = tt

-- the logs of a whole proof
pub proof_tallied : (x : Proof) (c : Conclusion) (seen again seen2 again2 seen3 again3 : List (List ℕ)) → seen ≡ [] → again ≡ [] → Tallied seen again (lines x) seen2 again2 → Tallied seen2 again2 (w.End c ∷ []) seen3 again3 → Tallied [] [] (plain_lines x c) seen3 again3
proof_tallied x c seen again seen2 again2 seen3 again3 e q p t =
    subst (λ z. Tallied z [] (plain_lines x c) seen3 again3) e (subst (λ z. Tallied seen z (plain_lines x c) seen3 again3) q (tallied_append seen again (lines x) seen2 again2 (w.End c ∷ []) seen3 again3 p t))

pub parts_most : (others ts : List (List ℕ)) → length (picked others most_parts [] ts) ≤ most_parts
parts_most others ts = picked_most others most_parts [] ts (omega arith)
