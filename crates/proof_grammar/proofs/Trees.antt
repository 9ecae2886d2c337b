-- The lines of trees are the lines that pay for a node.
use Rattle.std.proofs.Common.{ℕ, zero, suc, ◌+◌, ◌≡◌, ◌≤◌, Bool, true, false, cond, List, [], ◌∷◌, ◌++◌, length, refl, sym, ap, subst, ◌∙◌, append_assoc, arith, length-append}
use Rattle.base_budget.specs.declared.log.Entry.{Entry}
use Rattle.clause_set.specs.declared.literal.Literal.{Literal}
use Rattle.proof_tree.specs.declared.node.Conclusion.{Conclusion}
use Rattle.proof_tree.specs.Proof.{Proof, Proofs, node, no_proof, and_proof}
use Rattle.proof_tree.specs.Walk.{width, eliminates}
use Rattle.proof_tokens.specs.Lines.{IsCharges}
use Rattle.proof_constraint.specs.Text.{AreClauses}
use Rattle.proof_grammar.specs.declared.lines.TextLine.{TextLine}
use Rattle.proof_grammar.specs.declared.lines.TextLine.TheVariants as w
use Rattle.proof_grammar.specs.declared.lines.Owed.{Owed}
use Rattle.proof_grammar.specs.declared.lines.Owed.TheVariants as o
use Rattle.proof_grammar.specs.Lines.{last_lines, lines, lines_all, proof_lines}
use Rattle.proof_grammar.specs.Owed.{HasWidth, IsConclusion, LeadsOwed, OwesNothing, nodes_owed, last_owed, start, Shallow}
use Rattle.proof_grammar.specs.Shaped.{IsShapedNode, AreShapedNodes, IsWritable}
use Rattle.proof_grammar.proofs.Leading.{leads_append}

last_pay : (Level : ℕ → Type 0) (b : Bool) (es : List Entry) (d : List (List Literal)) (os : List Owed) → AreClauses d
    → LeadsOwed Level (cond b (o.Log 0 ∷ o.Gives ∷ []) (o.Gives ∷ []) ++ os) (cond b (w.Log (record { entries = es }) ∷ w.Gives d ∷ []) (w.Gives d ∷ [])) os
last_pay Level true es d os f = (tt, (f, refl))
last_pay Level false es d os f = (f, refl)

mutual
  -- a tree's lines pay for a node
  pub tree_pays : (Level : ℕ → Type 0) (n : Proof) (j : ℕ) (os : List Owed) → IsShapedNode Level j n → LeadsOwed Level (o.Node j 0 ∷ os) (lines n) os
  tree_pays Level (node p ns es d) j os s = (
    (s.0, s.1),
    subst (λ z. LeadsOwed Level z (lines_all ns ++ last_lines p es d) os) (sym (append_assoc (nodes_owed 0 (width ns) (j + 1)) (last_owed 0 p) os))
        (leads_append Level (nodes_owed 0 (width ns) (j + 1) ++ (last_owed 0 p ++ os)) (last_owed 0 p ++ os) os (lines_all ns) (last_lines p es d)
        (trees_pay Level ns (j + 1) (last_owed 0 p ++ os) s.4) (last_pay Level (eliminates p) es d os s.3)),
  )

  pub trees_pay : (Level : ℕ → Type 0) (ns : Proofs) (j : ℕ) (os : List Owed) → AreShapedNodes Level j ns → LeadsOwed Level (nodes_owed 0 (width ns) j ++ os) (lines_all ns) os
  trees_pay Level no_proof j os s = refl
  trees_pay Level (and_proof n ns) j os s =
      leads_append Level (o.Node j 0 ∷ nodes_owed 0 (width ns) j ++ os) (nodes_owed 0 (width ns) j ++ os) os (lines n) (lines_all ns)
      (tree_pays Level n j (nodes_owed 0 (width ns) j ++ os) s.0) (trees_pay Level ns j os s.1)

-- the tree that some lines begin with, and what is paid after it
pub record Grown (Level : ℕ → Type 0) (j : ℕ) (os : List Owed) (ls : List TextLine) : Type 0 where
  pub tree : Proof
  pub rest : List TextLine
  pub shaped : IsShapedNode Level j tree
  pub parts : ls ≡ lines tree ++ rest
  pub paid : OwesNothing Level os rest

pub record AllGrown (Level : ℕ → Type 0) (k j : ℕ) (os : List Owed) (ls : List TextLine) : Type 0 where
  pub trees : Proofs
  pub rest : List TextLine
  pub many : width trees ≡ k
  pub shaped : AreShapedNodes Level j trees
  pub parts : ls ≡ lines_all trees ++ rest
  pub paid : OwesNothing Level os rest

-- the last lines of a node
record Ended (Level : ℕ → Type 0) (b : Bool) (os : List Owed) (ls : List TextLine) : Type 0 where
  entries : List Entry
  value : List (List Literal)
  rest : List TextLine
  none : b ≡ false → entries ≡ []
  fits : AreClauses value
  parts : ls ≡ cond b (w.Log (record { entries = entries }) ∷ w.Gives value ∷ []) (w.Gives value ∷ []) ++ rest
  paid : OwesNothing Level os rest

gives_end : (Level : ℕ → Type 0) (os : List Owed) (ls : List TextLine) → OwesNothing Level (o.Gives ∷ os) ls → (d : List (List Literal)) × (rest : List TextLine) × AreClauses d × (ls ≡ w.Gives d ∷ rest) × OwesNothing Level os rest
gives_end Level os [] p = absurd (let e : o.Gives ∷ os ≡ [] = p in cc)
gives_end Level os (w.Gives d ∷ ls) p = (d, ls, p.0, refl, p.1)
gives_end Level os (_ ∷ ls) p = absurd p.0

log_end : (Level : ℕ → Type 0) (os : List Owed) (ls : List TextLine) → OwesNothing Level (o.Log 0 ∷ os) ls → (es : List Entry) × (rest : List TextLine) × (ls ≡ w.Log (record { entries = es }) ∷ rest) × OwesNothing Level os rest
log_end Level os [] p = absurd (let e : o.Log 0 ∷ os ≡ [] = p in cc)
log_end Level os (w.Log es ∷ ls) p = (es.entries, ls, refl, p.1)
log_end Level os (w.LogOf i ∷ ls) p = absurd (let low = p.0 in omega arith)
log_end Level os (_ ∷ ls) p = absurd p.0

ends : (Level : ℕ → Type 0) (b : Bool) (os : List Owed) (ls : List TextLine) → OwesNothing Level (cond b (o.Log 0 ∷ o.Gives ∷ []) (o.Gives ∷ []) ++ os) ls → Ended Level b os ls
ends Level true os ls p =
    let x = log_end Level (o.Gives ∷ os) ls p in let y = gives_end Level os x.1 x.3 in
    record { entries = x.0; value = y.0; rest = y.1; none = λ e. absurd (cc); fits = y.2; parts = x.2 ∙ ap (λ z. w.Log (record { entries = x.0 }) ∷ z) y.3; paid = y.4 }
ends Level false os ls p =
    let y = gives_end Level os ls p in
    record { entries = []; value = y.0; rest = y.1; none = λ e. refl; fits = y.2; parts = y.3; paid = y.4 }

all_grown : (Level : ℕ → Type 0) (fuel : ℕ) → ((j : ℕ) (os : List Owed) (ls : List TextLine) → length ls ≤ fuel → OwesNothing Level (o.Node j 0 ∷ os) ls → Grown Level j os ls)
    → (k j : ℕ) (os : List Owed) (ls : List TextLine) → length ls ≤ fuel → OwesNothing Level (nodes_owed 0 k j ++ os) ls → AllGrown Level k j os ls
all_grown Level fuel go zero j os ls h p = record { trees = no_proof; rest = ls; many = refl; shaped = tt; parts = refl; paid = p }
all_grown Level fuel go (suc k) j os ls h p =
    let n = go j (nodes_owed 0 k j ++ os) ls h p in
    let shorter : length n.rest ≤ fuel = omega (arith, ap length n.parts, length-append (lines n.tree) n.rest, h) in
    let x = all_grown Level fuel go k j os n.rest shorter n.paid in
    record {
      trees = and_proof n.tree x.trees;
      rest = x.rest;
      many = ap suc x.many;
      shaped = (n.shaped, x.shaped);
      parts = n.parts ∙ ap (λ z. lines n.tree ++ z) x.parts ∙ sym (append_assoc (lines n.tree) (lines_all x.trees) x.rest);
      paid = x.paid;
    }

grown : (Level : ℕ → Type 0) (fuel j : ℕ) (os : List Owed) (ls : List TextLine) → length ls ≤ fuel → OwesNothing Level (o.Node j 0 ∷ os) ls → Grown Level j os ls
grown Level fuel j os [] h p = absurd (let e : o.Node j 0 ∷ os ≡ [] = p in cc)
grown Level zero j os (w.Row q k ∷ ls) h p = absurd (omega arith)
grown Level (suc fuel) j os (w.Row q k ∷ ls) h p =
    let x = all_grown Level fuel (grown Level fuel) k (j + 1) (last_owed 0 q ++ os) ls (omega arith) (subst (λ z. OwesNothing Level z ls) (append_assoc (nodes_owed 0 k (j + 1)) (last_owed 0 q) os) p.1) in
    let y = ends Level (eliminates q) os x.rest x.paid in
    record {
      tree = node q x.trees y.entries y.value;
      rest = y.rest;
      shaped = (p.0.0, subst (HasWidth q) (sym x.many) p.0.1, y.none, y.fits, x.shaped);
      parts = ap (λ z. w.Row q z ∷ ls) (sym x.many) ∙ ap (λ z. w.Row q (width x.trees) ∷ z) (x.parts ∙ ap (λ z. lines_all x.trees ++ z) y.parts ∙ sym (append_assoc (lines_all x.trees) (last_lines q y.entries y.value) y.rest));
      paid = y.paid;
    }
grown Level fuel j os (_ ∷ ls) h p = absurd p.0

-- lines that pay for a node and what is owed after it begin with a tree's
pub paid_tree : (Level : ℕ → Type 0) (j : ℕ) (os : List Owed) (ls : List TextLine) → OwesNothing Level (o.Node j 0 ∷ os) ls → Grown Level j os ls
paid_tree Level j os ls p = grown Level (length ls) j os ls (omega arith) p

-- Whole proofs.

-- the lines of a proof that a text can hold pay for all that a text owes
pub proof_pays : (n : ℕ) (x : Proof) (c : Conclusion) → IsWritable n x c → OwesNothing Shallow start (proof_lines n x c)
proof_pays n x c s = ((omega arith, omega arith), (s.charges, leads_append Shallow (o.Node 1 0 ∷ o.End 0 ∷ []) (o.End 0 ∷ []) [] (lines x) (w.End c ∷ []) (tree_pays Shallow x 1 (o.End 0 ∷ []) s.root) (s.conclusion, refl)))

-- the proof that whole lines say
pub record Said (ls : List TextLine) : Type 0 where
  pub charges : ℕ
  pub root : Proof
  pub conclusion : Conclusion
  pub shaped : IsWritable charges root conclusion
  pub is : ls ≡ proof_lines charges root conclusion

end_said : (ls : List TextLine) → OwesNothing Shallow (o.End 0 ∷ []) ls → (c : Conclusion) × IsConclusion c × (ls ≡ w.End c ∷ [])
end_said [] p = absurd (let e : o.End 0 ∷ [] ≡ [] = p in cc)
end_said (w.End c ∷ []) p = (c, p.0, refl)
end_said (w.End c ∷ l ∷ ls) p = absurd p.1
end_said (w.EndOf i ∷ ls) p = absurd (let low = p.0 in omega arith)
end_said (_ ∷ ls) p = absurd p.0

tree_said : (n : ℕ) (ls : List TextLine) → IsCharges n → OwesNothing Shallow (o.Node 1 0 ∷ o.End 0 ∷ []) ls → Said (w.Head 1 ∷ w.Charges n ∷ ls)
tree_said n ls i p =
    let g = paid_tree Shallow 1 (o.End 0 ∷ []) ls p in let e = end_said g.rest g.paid in
    record {
      charges = n;
      root = g.tree;
      conclusion = e.0;
      shaped = record { charges = i; root = g.shaped; conclusion = e.1 };
      is = ap (λ z. w.Head 1 ∷ w.Charges n ∷ z) (g.parts ∙ ap (λ z. lines g.tree ++ z) e.2);
    }

charges_said : (ls : List TextLine) → OwesNothing Shallow (o.Charges 0 ∷ []) ls → Said (w.Head 1 ∷ ls)
charges_said [] p = absurd (let e : o.Charges 0 ∷ [] ≡ [] = p in cc)
charges_said (w.Charges n ∷ ls) p = tree_said n ls p.0 p.1
charges_said (_ ∷ ls) p = absurd p.0

-- lines of the first format that pay for all that a text owes are those of a proof
pub proof_said : (ls : List TextLine) → OwesNothing Shallow start (w.Head 1 ∷ ls) → Said (w.Head 1 ∷ ls)
proof_said ls p = charges_said ls p.1
