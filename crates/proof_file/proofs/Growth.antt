-- Trees grow as their lines come.
use Rattle.std.proofs.Common.{ℕ, ◌+◌, ◌≡◌, ◌≤◌, ◌<◌, List, [], ◌∷◌, ◌++◌, map, refl, sym, ap, subst, ◌∙◌, append_assoc, arith}
use Rattle.base_budget.specs.declared.log.Entry.{Entry}
use Rattle.clause_set.specs.declared.literal.Literal.{Literal}
use Rattle.sequent.specs.declared.member.Pick.{Pick}
use Rattle.proof_tree.specs.declared.node.Node.{Node}
use Rattle.proof_tree.specs.Proof.{Proof, Proofs, node, no_proof, and_proof, proofs}
use Rattle.proof_tree.specs.Views.{proof_of}
use Rattle.proof_tree.specs.Walk.{width, eliminates}
use Rattle.proof_grammar.specs.declared.lines.TextLine.{TextLine}
use Rattle.proof_grammar.specs.declared.lines.TextLine.TheVariants as w
use Rattle.proof_grammar.specs.Lines.{last_lines, lines, lines_all}
use Rattle.proof_grammar.specs.Owed.{Shallow}
use Rattle.proof_grammar.specs.Shaped.{IsShapedNode, AreShapedNodes}
use Rattle.proof_file.specs.Trees.{TreeComes, IsReadTree, TreesCome, AreTrees, ClosingComes, ClosesNode}

-- Trees of one level.

-- these proofs, and those after them
abbrev joined : List Proof → Proofs → Proofs
joined [] ms = ms
joined (x ∷ xs) ms = and_proof x (joined xs ms)

joined_more : (ns : List Node) (n : Node) (ms : Proofs) → joined (map proof_of (ns ++ n ∷ [])) ms ≡ joined (map proof_of ns) (and_proof (proof_of n) ms)
joined_more [] n ms = refl
joined_more (m ∷ ns) n ms = ap (and_proof (proof_of m)) (joined_more ns n ms)

joined_none : (xs : List Proof) → proofs xs ≡ joined xs no_proof
joined_none [] = refl
joined_none (x ∷ xs) = ap (and_proof x) (joined_none xs)

-- the trees that are still to come after the first i
pub record Rest (now : List TextLine → Type 0) (k j i : ℕ) (ns : List Node) (xs : Proofs) (ls : List TextLine) : Type 0 where
  pub others : Proofs
  pub parts : xs ≡ joined (map proof_of ns) others
  pub many : width others + i ≡ k
  pub shaped : AreShapedNodes Shallow j others
  pub comes : now (lines_all others ++ ls)

-- the first i of k trees have come
pub record Going (before now : List TextLine → Type 0) (k j i : ℕ) (ns : List Node) : Type 0 where
  pub goes : (xs : Proofs) (ls : List TextLine) → width xs ≡ k → AreShapedNodes Shallow j xs → before (lines_all xs ++ ls) → Rest now k j i ns xs ls

pub going_start : (before : List TextLine → Type 0) (k j : ℕ) → Going before before k j 0 []
going_start before k j = record { goes = λ xs ls m s h. record { others = xs; parts = refl; many = omega (arith, m); shaped = s; comes = h } }

first_comes : (now : List TextLine → Type 0) (k j i : ℕ) (ms : Proofs) (ls : List TextLine) → i < k → width ms + i ≡ k → AreShapedNodes Shallow j ms → now (lines_all ms ++ ls) → TreeComes now j
first_comes now k j i no_proof ls low m s h = absurd (omega arith)
first_comes now k j i (and_proof x xs) ls low m s h = (x, lines_all xs ++ ls, s.0, subst now (append_assoc (lines x) (lines_all xs) ls) h)

-- one more comes
pub tree_comes : (before now : List TextLine → Type 0) (k j i : ℕ) (ns : List Node) → Going before now k j i ns → i < k → TreesCome before k j → TreeComes now j
tree_comes before now k j i ns g low t = let r = g.goes t.0 t.1 t.2 t.3 t.4 in first_comes now k j i r.others t.1 low r.many r.shaped r.comes

rest_more : (now after : List TextLine → Type 0) (k j i : ℕ) (ns : List Node) (n : Node) (xs ms : Proofs) (ls : List TextLine) → i < k → IsReadTree now after j n → xs ≡ joined (map proof_of ns) ms → width ms + i ≡ k → AreShapedNodes Shallow j ms
    → now (lines_all ms ++ ls) → Rest after k j (i + 1) (ns ++ n ∷ []) xs ls
rest_more now after k j i ns n xs no_proof ls low t e m s h = absurd (omega arith)
rest_more now after k j i ns n xs (and_proof y ys) ls low t e m s h =
    let q = t y (lines_all ys ++ ls) s.0 (subst now (append_assoc (lines y) (lines_all ys) ls) h) in
    record {
      others = ys;
      parts = e ∙ ap (λ z. joined (map proof_of ns) (and_proof z ys)) (sym q.0) ∙ sym (joined_more ns n ys);
      many = omega (arith, m);
      shaped = s.1;
      comes = q.1;
    }

-- one more has come
pub going_more : (before now after : List TextLine → Type 0) (k j i : ℕ) (ns : List Node) (n : Node) → Going before now k j i ns → i < k → IsReadTree now after j n → Going before after k j (i + 1) (ns ++ n ∷ [])
going_more before now after k j i ns n g low t = record { goes = λ xs ls m s h. let r = g.goes xs ls m s h in rest_more now after k j i ns n xs r.others ls low t r.parts r.many r.shaped r.comes }

rest_none : (now : List TextLine → Type 0) (k i : ℕ) (ns : List Node) (xs ms : Proofs) (ls : List TextLine) → k ≤ i → xs ≡ joined (map proof_of ns) ms → width ms + i ≡ k → now (lines_all ms ++ ls) → (proofs (map proof_of ns) ≡ xs) × now ls
rest_none now k i ns xs no_proof ls past e m h = (joined_none (map proof_of ns) ∙ sym e, h)
rest_none now k i ns xs (and_proof y ys) ls past e m h = absurd (omega arith)

-- all have come
pub going_end : (before now : List TextLine → Type 0) (k j i : ℕ) (ns : List Node) → Going before now k j i ns → k ≤ i → AreTrees before now k j ns
going_end before now k j i ns g past = λ xs ls m s h. let r = g.goes xs ls m s h in rest_none now k i ns xs r.others ls past r.parts r.many r.comes

-- One tree.

row_by : (coming : List TextLine → Type 0) (x : Proof) (ls : List TextLine) → coming (lines x ++ ls) → (p : Pick) × (k : ℕ) × (ms : List TextLine) × coming (w.Row p k ∷ ms)
row_by coming (node p ns es d) ls h = (p, width ns, (lines_all ns ++ last_lines p es d) ++ ls, h)

-- the rule of a tree comes first
pub row_comes : (coming : List TextLine → Type 0) (j : ℕ) → TreeComes coming j → (p : Pick) × (k : ℕ) × (ms : List TextLine) × coming (w.Row p k ∷ ms)
row_comes coming j t = row_by coming t.0 t.1 t.3

level_by : (x : Proof) (j : ℕ) → IsShapedNode Shallow j x → j ≤ 2000
level_by (node p ns es d) j s = s.0

pub level_of : (coming : List TextLine → Type 0) (j : ℕ) → TreeComes coming j → j ≤ 2000
level_of coming j t = level_by t.0 j t.2

-- what is read of a rule
abbrev IsRow : (List TextLine → Type 0) → (List TextLine → Type 0) → Pick → ℕ → Type 0
IsRow before after p k = (q : Pick) (m : ℕ) (ls : List TextLine) → before (w.Row q m ∷ ls) → (p ≡ q) × (k ≡ m) × after ls

trees_by : (before now : List TextLine → Type 0) (j k : ℕ) (p : Pick) (x : Proof) (ls : List TextLine) → IsShapedNode Shallow j x → before (lines x ++ ls) → IsRow before now p k → TreesCome now k (j + 1)
trees_by before now j k p (node q ns es d) ls s h r =
    let a = r q (width ns) ((lines_all ns ++ last_lines q es d) ++ ls) h in
    (ns, last_lines q es d ++ ls, sym a.1, s.4, subst now (append_assoc (lines_all ns) (last_lines q es d) ls) a.2)

-- after its rule come the trees of its premises
pub trees_come : (before now : List TextLine → Type 0) (j k : ℕ) (p : Pick) → TreeComes before j → IsRow before now p k → TreesCome now k (j + 1)
trees_come before now j k p t r = trees_by before now j k p t.0 t.1 t.2 t.3 r

closing_by : (before now after : List TextLine → Type 0) (j k : ℕ) (p : Pick) (cs : List Node) (x : Proof) (ls : List TextLine) → IsShapedNode Shallow j x → before (lines x ++ ls) → IsRow before now p k → AreTrees now after k (j + 1) cs → ClosingComes after p
closing_by before now after j k p cs (node q ns es d) ls s h r t =
    let a = r q (width ns) ((lines_all ns ++ last_lines q es d) ++ ls) h in
    let b = t ns (last_lines q es d ++ ls) (sym a.1) s.4 (subst now (append_assoc (lines_all ns) (last_lines q es d) ls) a.2) in
    (es, d, ls, subst (λ z. after (last_lines z es d ++ ls)) (sym a.0) b.1)

-- after these come the last lines of the node
pub closing_comes : (before now after : List TextLine → Type 0) (j k : ℕ) (p : Pick) (cs : List Node) → TreeComes before j → IsRow before now p k → AreTrees now after k (j + 1) cs → ClosingComes after p
closing_comes before now after j k p cs t r a = closing_by before now after j k p cs t.0 t.1 t.2 t.3 r a

tree_by : (before now later after : List TextLine → Type 0) (j k : ℕ) (p : Pick) (cs : List Node) (es : List Entry) (d : List (List Literal)) (n : Node) (x : Proof) (ls : List TextLine) → IsShapedNode Shallow j x → before (lines x ++ ls)
    → IsRow before now p k → AreTrees now later k (j + 1) cs → ClosesNode later after p es d → proof_of n ≡ node p (proofs (map proof_of cs)) es d → (proof_of n ≡ x) × after ls
tree_by before now later after j k p cs es d n (node q ns fs e) ls s h r t c m =
    let a = r q (width ns) ((lines_all ns ++ last_lines q fs e) ++ ls) h in
    let b = t ns (last_lines q fs e ++ ls) (sym a.1) s.4 (subst now (append_assoc (lines_all ns) (last_lines q fs e) ls) a.2) in
    let z = c fs e ls (λ o. s.2 (ap eliminates (sym a.0) ∙ o)) (subst (λ y. later (last_lines y fs e ++ ls)) (sym a.0) b.1) in
    (m ∙ cc (a.0, b.0, z.0, z.1), z.2)

-- the tree of what was read
pub tree_is : (before now later after : List TextLine → Type 0) (j k : ℕ) (p : Pick) (cs : List Node) (es : List Entry) (d : List (List Literal)) (n : Node) → IsRow before now p k → AreTrees now later k (j + 1) cs → ClosesNode later after p es d
    → proof_of n ≡ node p (proofs (map proof_of cs)) es d → IsReadTree before after j n
tree_is before now later after j k p cs es d n r t c m = λ x ls s h. tree_by before now later after j k p cs es d n x ls s h r t c m
