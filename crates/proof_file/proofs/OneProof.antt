-- Bytes hold at most one proof, and where they do they are not refused: the lines of a proof say which one it is.
use Rattle.std.proofs.Common.{ℕ, ◌+◌, ◌≡◌, Bool, true, false, cond, List, [], ◌∷◌, ◌++◌, refl, sym, ap, subst, ◌∙◌, append_assoc, append-nil, arith}
use Rattle.base_budget.specs.declared.log.Entry.{Entry}
use Rattle.base_budget.specs.declared.log.ElimLog.{ElimLog}
use Rattle.clause_set.specs.declared.literal.Literal.{Literal}
use Rattle.proof_tree.specs.declared.node.Conclusion.{Conclusion}
use Rattle.proof_tree.specs.Proof.{Proof, Proofs, node, no_proof, and_proof}
use Rattle.proof_tree.specs.Walk.{width, eliminates}
use Rattle.proof_tokens.specs.declared.tokens.Token.{Token}
use Rattle.proof_tokens.specs.Reading.{Cuts, IsApart}
use Rattle.proof_tokens.proofs.Apart.{one, not_refused}
use Rattle.proof_grammar.specs.declared.lines.TextLine.{TextLine}
use Rattle.proof_grammar.specs.declared.lines.TextLine.TheVariants as w
use Rattle.proof_grammar.specs.declared.text.Fault.{Fault}
use Rattle.proof_grammar.specs.declared.text.Fault.TheVariants as f
use Rattle.proof_grammar.specs.Lines.{tokens_of, last_lines, lines, lines_all, proof_lines}
use Rattle.proof_grammar.specs.Owed.{OwesNothing, start, Any, Shallow}
use Rattle.proof_grammar.specs.Expansion.{expansion}
use Rattle.proof_grammar.specs.Shaped.{IsShapedNode, AreShapedNodes, IsTextOfProof}
use Rattle.proof_grammar.specs.Refusals.{IsRefusedText, RefusesText}
use Rattle.proof_grammar.proofs.Deep.{none_deep}
use Rattle.proof_grammar.proofs.Leading.{leads_any, same_lines}
use Rattle.proof_file.specs.Body.{body}
use Rattle.proof_file.specs.Refused.{RefusesProofFile}
use Rattle.proof_file.specs.declared.refusal.ProofRefusal.{ProofRefusal}
use Rattle.proof_file.specs.declared.refusal.ProofRefusal.TheVariants as r

abbrev entries_of : ElimLog → List Entry
entries_of log = log.entries

last_one : (b : Bool) (es fs : List Entry) (d g : List (List Literal)) (x y : List TextLine) → (b ≡ false → es ≡ []) → (b ≡ false → fs ≡ [])
    → cond b (w.Log (record { entries = es }) ∷ w.Gives d ∷ []) (w.Gives d ∷ []) ++ x ≡ cond b (w.Log (record { entries = fs }) ∷ w.Gives g ∷ []) (w.Gives g ∷ []) ++ y → (es ≡ fs) × (d ≡ g) × (x ≡ y)
last_one true es fs d g x y s u e =
    let k : ElimLog = record { entries = es } in let l : ElimLog = record { entries = fs } in
    let q : w.Log k ∷ w.Gives d ∷ x ≡ w.Log l ∷ w.Gives g ∷ y = e in
    let same : k ≡ l = cc in (ap entries_of same, cc, cc)
last_one false es fs d g x y s u e =
    let q : w.Gives d ∷ x ≡ w.Gives g ∷ y = e in (s refl ∙ sym (u refl), cc, cc)

mutual
  -- the lines say which tree it is
  one_tree : (j : ℕ) (n m : Proof) (x y : List TextLine) → IsShapedNode Shallow j n → IsShapedNode Shallow j m → lines n ++ x ≡ lines m ++ y → (n ≡ m) × (x ≡ y)
  one_tree j (node p ns es d) (node q ms fs g) x y s u e =
      let h : w.Row p (width ns) ∷ ((lines_all ns ++ last_lines p es d) ++ x) ≡ w.Row q (width ms) ∷ ((lines_all ms ++ last_lines q fs g) ++ y) = e in
      let rule : p ≡ q = cc in let many : width ns ≡ width ms = cc in
      let tail : (lines_all ns ++ last_lines p es d) ++ x ≡ (lines_all ms ++ last_lines q fs g) ++ y = cc in
      let a = one_trees (j + 1) ns ms (last_lines p es d ++ x) (last_lines q fs g ++ y) s.4 u.4 many (sym (append_assoc (lines_all ns) (last_lines p es d) x) ∙ tail ∙ append_assoc (lines_all ms) (last_lines q fs g) y) in
      let z = last_one (eliminates p) es fs d g x y s.2 (λ k. u.2 (ap eliminates (sym rule) ∙ k)) (a.1 ∙ ap (λ r. last_lines r fs g ++ y) (sym rule)) in
      let premises = a.0 in (cc (rule, premises, z.0, z.1), z.2)

  one_trees : (j : ℕ) (ns ms : Proofs) (x y : List TextLine) → AreShapedNodes Shallow j ns → AreShapedNodes Shallow j ms → width ns ≡ width ms → lines_all ns ++ x ≡ lines_all ms ++ y → (ns ≡ ms) × (x ≡ y)
  one_trees j no_proof no_proof x y s u h e = (refl, e)
  one_trees j no_proof (and_proof m ms) x y s u h e = absurd (omega arith)
  one_trees j (and_proof n ns) no_proof x y s u h e = absurd (omega arith)
  one_trees j (and_proof n ns) (and_proof m ms) x y s u h e =
      let a = one_tree j n m (lines_all ns ++ x) (lines_all ms ++ y) s.0 u.0 (sym (append_assoc (lines n) (lines_all ns) x) ∙ e ∙ append_assoc (lines m) (lines_all ms) y) in
      let b = one_trees j ns ms x y s.1 u.1 (omega arith) a.1 in
      let first = a.0 in let others = b.0 in (cc, b.1)

nothing_more : (ls ms rest : List TextLine) (more : List Token) → ms ≡ ls ++ rest → OwesNothing Any [] rest → tokens_of rest ≡ more → (ms ≡ ls) × (more ≡ [])
nothing_more ls ms [] more e p q = (e ∙ append-nil ls, sym q)
nothing_more ls ms (l ∷ rest) more e p q = absurd p

-- no whole text begins another one
texts_apart : IsApart (OwesNothing Any start) tokens_of
texts_apart u v more i j q = let b = same_lines v u start [] more j i q in nothing_more v u b.rest more b.is b.whole b.text

one_by : (j : ℕ) (n m : ℕ) (x y : Proof) (c d : Conclusion) → IsShapedNode Shallow j x → IsShapedNode Shallow j y → proof_lines n x c ≡ proof_lines m y d → (n ≡ m) × (x ≡ y) × (c ≡ d)
one_by j n m x y c d s u e =
    let h : w.Head 1 ∷ w.Charges n ∷ (lines x ++ w.End c ∷ []) ≡ w.Head 1 ∷ w.Charges m ∷ (lines y ++ w.End d ∷ []) = e in
    let amount : n ≡ m = cc in let tail : lines x ++ w.End c ∷ [] ≡ lines y ++ w.End d ∷ [] = cc in
    let t = one_tree j x y (w.End c ∷ []) (w.End d ∷ []) s u tail in let last = t.1 in
    let end : c ≡ d = cc in (amount, t.0, end)

pub holds_one : (bytes : List ℕ) (n m : ℕ) (x y : Proof) (c d : Conclusion) → IsTextOfProof bytes n x c → IsTextOfProof bytes m y d → (n ≡ m) × (x ≡ y) × (c ≡ d)
holds_one bytes n m x y c d h k =
    let same = one (OwesNothing Any start) tokens_of texts_apart h.lines k.lines bytes [] [] (leads_any start [] h.lines h.whole) (leads_any start [] k.lines k.whole) h.cut k.cut in
    one_by 1 n m x y c d h.shaped.root k.shaped.root (sym h.is ∙ ap expansion same.0 ∙ k.is)

no_whole : (ls ms : List TextLine) (bytes back : List ℕ) (q : IsRefusedText bytes back) → OwesNothing Any start ls → Cuts (tokens_of ls) bytes [] → OwesNothing Any start ms → tokens_of ms ≡ q.first.front → ⊥
no_whole ls ms bytes back q i p j e =
    let same = one (OwesNothing Any start) tokens_of texts_apart ms ls bytes back [] j i (subst (λ z. Cuts z bytes back) (sym e) q.first.cut) p in q.ends same.1 ms j e

not_syntax : (bytes : List ℕ) (n : ℕ) (x : Proof) (c : Conclusion) (left : ℕ) → IsTextOfProof bytes n x c → RefusesText bytes (f.Syntax left) → ⊥
not_syntax bytes n x c left h q =
    let i = leads_any start [] h.lines h.whole in
    not_refused (OwesNothing Any start) tokens_of texts_apart h.lines bytes [] left i h.cut
    (record { back = q.0; first = q.2.first; inside = λ ms j e. no_whole h.lines ms bytes q.0 q.2 i h.cut j e; place = q.1 })

not_deep : (bytes : List ℕ) (n : ℕ) (x : Proof) (c : Conclusion) (left : ℕ) → IsTextOfProof bytes n x c → RefusesText bytes (f.Deep left) → ⊥
not_deep bytes n x c left h q = none_deep h.lines bytes [] h.whole h.cut q.0 q.2

-- bytes that hold a proof are not refused
pub held_by_text : (bytes : List ℕ) (n : ℕ) (x : Proof) (c : Conclusion) (fault : Fault) → IsTextOfProof bytes n x c → RefusesText bytes fault → fault ≡ f.Memory
held_by_text bytes n x c (f.Syntax left) h q = absurd (not_syntax bytes n x c left h q)
held_by_text bytes n x c (f.Deep left) h q = absurd (not_deep bytes n x c left h q)
held_by_text bytes n x c f.Memory h q = refl

pub held_by_file : (bytes : List ℕ) (n : ℕ) (x : Proof) (c : Conclusion) (refusal : ProofRefusal) → IsTextOfProof (body bytes) n x c → RefusesProofFile bytes refusal → refusal ≡ r.Memory
held_by_file bytes n x c (r.Syntax at) h q = absurd (not_syntax (body bytes) n x c q.0 h q.1)
held_by_file bytes n x c (r.Deep at) h q = absurd (not_deep (body bytes) n x c q.0 h q.1)
held_by_file bytes n x c r.Memory h q = refl
