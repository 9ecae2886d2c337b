-- The expansion of lines, one after another, and that of whole texts.
use Rattle.std.proofs.Common.{ℕ, zero, suc, ◌≡◌, ◌+◌, ◌==◌, Bool, true, false, cond, List, [], ◌∷◌, ◌++◌, map, refl, sym, ap, subst, ◌∙◌, append_assoc, append-nil, arith}
use Rattle.base_budget.specs.declared.log.ElimLog.{ElimLog}
use Rattle.sequent.specs.declared.member.Pick.{Pick}
use Rattle.proof_tree.specs.declared.node.Conclusion.TheVariants.{Nothing}
use Rattle.proof_tree.specs.Proof.{Proof, Proofs, node, no_proof, and_proof}
use Rattle.proof_tree.specs.Walk.{eliminates}
use Rattle.proof_grammar.specs.declared.lines.TextLine.{TextLine}
use Rattle.proof_grammar.specs.declared.lines.TextLine.TheVariants as w
use Rattle.proof_grammar.specs.declared.lines.Owed.{Owed}
use Rattle.proof_grammar.specs.declared.lines.Owed.TheVariants as o
use Rattle.proof_grammar.specs.Lines.{last_lines, lines, lines_all}
use Rattle.proof_grammar.specs.Owed.{Pays, OwesNothing, nodes_owed, last_owed, parts_owed, tree_owed, owes, start, Shallow}
use Rattle.proof_grammar.specs.Expansion.{expanded, expansion, part_at, parts_behind}
use Rattle.proof_grammar.specs.Walks.{IsInner}

pub parts_append : (ps : List ElimLog) (ls ms : List TextLine) → parts_behind ps (ls ++ ms) ≡ parts_behind (parts_behind ps ls) ms
parts_append ps [] ms = refl
parts_append ps (w.Part log ∷ ls) ms = parts_append (ps ++ log ∷ []) ls ms
parts_append ps (w.Head n ∷ ls) ms = parts_append ps ls ms
parts_append ps (w.Parts n ∷ ls) ms = parts_append ps ls ms
parts_append ps (w.Charges n ∷ ls) ms = parts_append ps ls ms
parts_append ps (w.Row p k ∷ ls) ms = parts_append ps ls ms
parts_append ps (w.Log log ∷ ls) ms = parts_append ps ls ms
parts_append ps (w.LogOf i ∷ ls) ms = parts_append ps ls ms
parts_append ps (w.Gives d ∷ ls) ms = parts_append ps ls ms
parts_append ps (w.End c ∷ ls) ms = parts_append ps ls ms
parts_append ps (w.EndOf i ∷ ls) ms = parts_append ps ls ms

pub expanded_append : (ps : List ElimLog) (ls ms : List TextLine) → expanded ps (ls ++ ms) ≡ expanded ps ls ++ expanded (parts_behind ps ls) ms
expanded_append ps [] ms = refl
expanded_append ps (w.Part log ∷ ls) ms = expanded_append (ps ++ log ∷ []) ls ms
expanded_append ps (w.Parts n ∷ ls) ms = expanded_append ps ls ms
expanded_append ps (w.Head n ∷ ls) ms = ap (λ z. w.Head 1 ∷ z) (expanded_append ps ls ms)
expanded_append ps (w.Charges n ∷ ls) ms = ap (λ z. w.Charges n ∷ z) (expanded_append ps ls ms)
expanded_append ps (w.Row p k ∷ ls) ms = ap (λ z. w.Row p k ∷ z) (expanded_append ps ls ms)
expanded_append ps (w.Log log ∷ ls) ms = ap (λ z. w.Log log ∷ z) (expanded_append ps ls ms)
expanded_append ps (w.LogOf i ∷ ls) ms = ap (λ z. w.Log (part_at ps i) ∷ z) (expanded_append ps ls ms)
expanded_append ps (w.Gives d ∷ ls) ms = ap (λ z. w.Gives d ∷ z) (expanded_append ps ls ms)
expanded_append ps (w.End c ∷ ls) ms = ap (λ z. w.End c ∷ z) (expanded_append ps ls ms)
expanded_append ps (w.EndOf i ∷ ls) ms = ap (λ z. w.End (Nothing (part_at ps i)) ∷ z) (expanded_append ps ls ms)

-- a line after the opening adds no part
pub inner_parts : (ps : List ElimLog) (l : TextLine) → IsInner l → parts_behind ps (l ∷ []) ≡ ps
inner_parts ps (w.Head n) i = absurd i
inner_parts ps (w.Parts n) i = absurd i
inner_parts ps (w.Part log) i = absurd i
inner_parts ps (w.Charges n) i = absurd i
inner_parts ps (w.Row p k) i = refl
inner_parts ps (w.Log log) i = refl
inner_parts ps (w.LogOf n) i = refl
inner_parts ps (w.Gives d) i = refl
inner_parts ps (w.End c) i = refl
inner_parts ps (w.EndOf n) i = refl

-- The lines of trees are their own expansion.

last_expanded : (ps : List ElimLog) (b : Bool) (log : ElimLog) (l : TextLine) (ls : List TextLine) → (ms : List TextLine) → expanded ps (l ∷ ls) ≡ l ∷ ms
    → expanded ps (cond b (w.Log log ∷ l ∷ []) (l ∷ []) ++ ls) ≡ cond b (w.Log log ∷ l ∷ []) (l ∷ []) ++ ms
last_expanded ps true log l ls ms h = ap (λ z. w.Log log ∷ z) h
last_expanded ps false log l ls ms h = h

mutual
  pub tree_expanded : (ps : List ElimLog) (x : Proof) (ls : List TextLine) → expanded ps (lines x ++ ls) ≡ lines x ++ expanded ps ls
  tree_expanded ps (node p ns es d) ls =
      ap (λ z. w.Row p (Rattle.proof_tree.specs.Walk.width ns) ∷ z)
      (ap (expanded ps) (append_assoc (lines_all ns) (last_lines p es d) ls)
      ∙ trees_expanded ps ns (last_lines p es d ++ ls)
      ∙ ap (λ z. lines_all ns ++ z) (last_expanded ps (eliminates p) (record { entries = es }) (w.Gives d) ls (expanded ps ls) refl)
      ∙ sym (append_assoc (lines_all ns) (last_lines p es d) (expanded ps ls)))

  pub trees_expanded : (ps : List ElimLog) (xs : Proofs) (ls : List TextLine) → expanded ps (lines_all xs ++ ls) ≡ lines_all xs ++ expanded ps ls
  trees_expanded ps no_proof ls = refl
  trees_expanded ps (and_proof x xs) ls =
      ap (expanded ps) (append_assoc (lines x) (lines_all xs) ls) ∙ tree_expanded ps x (lines_all xs ++ ls) ∙ ap (λ z. lines x ++ z) (trees_expanded ps xs ls) ∙ sym (append_assoc (lines x) (lines_all xs) (expanded ps ls))

-- What is owed in a text of m parts, and in one of the first format.

abbrev plain : Owed → Owed
plain (o.Charges m) = o.Charges 0
plain (o.Node j m) = o.Node j 0
plain (o.Log m) = o.Log 0
plain (o.End m) = o.End 0
plain x = x

abbrev pub IsOf : ℕ → Owed → Type 0
IsOf m (o.Node j k) = k ≡ m
IsOf m (o.Log k) = k ≡ m
IsOf m o.Gives = Unit {0}
IsOf m (o.End k) = k ≡ m
IsOf m _ = ⊥

abbrev pub AreOf : ℕ → List Owed → Type 0
AreOf m [] = Unit {0}
AreOf m (x ∷ os) = IsOf m x × AreOf m os

pub are_append : (m : ℕ) (os us : List Owed) → AreOf m os → AreOf m us → AreOf m (os ++ us)
are_append m [] us p q = q
are_append m (x ∷ os) us p q = (p.0, are_append m os us p.1 q)

plain_append : (os us : List Owed) → map plain (os ++ us) ≡ map plain os ++ map plain us
plain_append [] us = refl
plain_append (x ∷ os) us = ap (λ z. plain x ∷ z) (plain_append os us)

pub nodes_are : (m k j : ℕ) → AreOf m (nodes_owed m k j)
nodes_are m zero j = tt
nodes_are m (suc k) j = (refl, nodes_are m k j)

nodes_plain : (m k j : ℕ) → map plain (nodes_owed m k j) ≡ nodes_owed 0 k j
nodes_plain m zero j = refl
nodes_plain m (suc k) j = ap (λ z. o.Node j 0 ∷ z) (nodes_plain m k j)

pub last_are : (m : ℕ) (b : Bool) → AreOf m (cond b (o.Log m ∷ o.Gives ∷ []) (o.Gives ∷ []))
last_are m true = (refl, (tt, tt))
last_are m false = (tt, tt)

last_plain : (m : ℕ) (b : Bool) → map plain (cond b (o.Log m ∷ o.Gives ∷ []) (o.Gives ∷ [])) ≡ cond b (o.Log 0 ∷ o.Gives ∷ []) (o.Gives ∷ [])
last_plain m true = refl
last_plain m false = refl

-- one line of a text of m parts, and its expansion
record OnePaid (m : ℕ) (ps : List ElimLog) (x : Owed) (l : TextLine) : Type 0 where
  line : TextLine
  is : (ls : List TextLine) → expanded ps (l ∷ ls) ≡ line ∷ expanded ps ls
  pays : Pays Shallow (plain x) line
  are : AreOf m (owes x l)
  owed : map plain (owes x l) ≡ owes (plain x) line

row_paid : (m : ℕ) (ps : List ElimLog) (j n : ℕ) (p : Pick) (k : ℕ) → n ≡ m → Pays Shallow (o.Node j n) (w.Row p k) → OnePaid m ps (o.Node j n) (w.Row p k)
row_paid m ps j n p k e h = record {
  line = w.Row p k;
  is = λ ls. refl;
  pays = h;
  are = subst (λ z. AreOf z (nodes_owed n k (j + 1) ++ last_owed n p)) e (are_append n (nodes_owed n k (j + 1)) (last_owed n p) (nodes_are n k (j + 1)) (last_are n (eliminates p)));
  owed = plain_append (nodes_owed n k (j + 1)) (last_owed n p) ∙ ap (λ z. z ++ map plain (last_owed n p)) (nodes_plain n k (j + 1)) ∙ ap (λ z. nodes_owed 0 k (j + 1) ++ z) (last_plain n (eliminates p));
}

one_paid : (m : ℕ) (ps : List ElimLog) (x : Owed) (l : TextLine) → IsOf m x → Pays Shallow x l → OnePaid m ps x l
one_paid m ps (o.Node j n) (w.Row p k) i h = row_paid m ps j n p k i h
one_paid m ps (o.Node j n) _ i h = absurd h
one_paid m ps (o.Log n) (w.Log log) i h = record { line = w.Log log; is = λ ls. refl; pays = tt; are = tt; owed = refl }
one_paid m ps (o.Log n) (w.LogOf k) i h = record { line = w.Log (part_at ps k); is = λ ls. refl; pays = tt; are = tt; owed = refl }
one_paid m ps (o.Log n) _ i h = absurd h
one_paid m ps o.Gives (w.Gives d) i h = record { line = w.Gives d; is = λ ls. refl; pays = h; are = tt; owed = refl }
one_paid m ps o.Gives _ i h = absurd h
one_paid m ps (o.End n) (w.End c) i h = record { line = w.End c; is = λ ls. refl; pays = h; are = tt; owed = refl }
one_paid m ps (o.End n) (w.EndOf k) i h = record { line = w.End (Nothing (part_at ps k)); is = λ ls. refl; pays = tt; are = tt; owed = refl }
one_paid m ps (o.End n) _ i h = absurd h
one_paid m ps o.Head l i h = absurd i
one_paid m ps o.Parts l i h = absurd i
one_paid m ps o.Part l i h = absurd i
one_paid m ps (o.Charges n) l i h = absurd i

-- the expansion of lines that pay for all that is owed after an opening pays for it in the first format
inner_whole : (m : ℕ) (ps : List ElimLog) (os : List Owed) (ls : List TextLine) → AreOf m os → OwesNothing Shallow os ls → OwesNothing Shallow (map plain os) (expanded ps ls)
inner_whole m ps os [] a p = ap (map plain) p
inner_whole m ps [] (l ∷ ls) a p = absurd p
inner_whole m ps (x ∷ os) (l ∷ ls) a p =
    let q = one_paid m ps x l a.0 p.0 in
    subst (λ z. OwesNothing Shallow (plain x ∷ map plain os) z) (sym (q.is ls)) (
      q.pays,
      subst (λ z. OwesNothing Shallow (z ++ map plain os) (expanded ps ls)) q.owed
          (subst (λ z. OwesNothing Shallow z (expanded ps ls)) (plain_append (owes x l) os)
          (inner_whole m ps (owes x l ++ os) ls (are_append m (owes x l) os q.are a.1) p.1)),
    )

charges_whole : (m : ℕ) (ps : List ElimLog) (ls : List TextLine) → OwesNothing Shallow (o.Charges m ∷ []) ls → OwesNothing Shallow (o.Charges 0 ∷ []) (expanded ps ls)
charges_whole m ps [] p = absurd (let e : o.Charges m ∷ [] ≡ [] = p in cc)
charges_whole m ps (w.Charges n ∷ ls) p = (p.0, inner_whole m ps (tree_owed m) ls (refl, (refl, tt)) p.1)
charges_whole m ps (_ ∷ ls) p = absurd p.0

part_whole : (k m : ℕ) (ps : List ElimLog) (ls : List TextLine) → OwesNothing Shallow (parts_owed k ++ o.Charges m ∷ []) ls → OwesNothing Shallow (o.Charges 0 ∷ []) (expanded ps ls)
part_whole zero m ps ls p = charges_whole m ps ls p
part_whole (suc k) m ps [] p = absurd (let e : o.Part ∷ (parts_owed k ++ o.Charges m ∷ []) ≡ [] = p in cc)
part_whole (suc k) m ps (w.Part log ∷ ls) p = part_whole k m (ps ++ log ∷ []) ls p.1
part_whole (suc k) m ps (_ ∷ ls) p = absurd p.0

parts_whole : (ps : List ElimLog) (ls : List TextLine) → OwesNothing Shallow (o.Parts ∷ []) ls → OwesNothing Shallow (o.Charges 0 ∷ []) (expanded ps ls)
parts_whole ps [] p = absurd (let e : o.Parts ∷ [] ≡ [] = p in cc)
parts_whole ps (w.Parts m ∷ ls) p = part_whole m m ps ls (subst (λ z. OwesNothing Shallow z ls) (append-nil (parts_owed m ++ o.Charges m ∷ [])) p.1)
parts_whole ps (_ ∷ ls) p = absurd p.0

opening_whole : (b : Bool) (ls : List TextLine) → OwesNothing Shallow (cond b (o.Charges 0 ∷ []) (o.Parts ∷ []) ++ []) ls → OwesNothing Shallow (o.Charges 0 ∷ []) (expanded [] ls)
opening_whole true ls p = charges_whole 0 [] ls p
opening_whole false ls p = parts_whole [] ls p

-- the expansion of a whole text is a whole text of the first format
pub whole_expanded : (ls : List TextLine) → OwesNothing Shallow start ls → OwesNothing Shallow start (expansion ls)
whole_expanded [] p = absurd (let e : start ≡ [] = p in cc)
whole_expanded (w.Head n ∷ ls) p = ((omega arith, omega arith), opening_whole (n == 1) ls p.1)
whole_expanded (_ ∷ ls) p = absurd p.0

-- it is of the first format
pub one_format : (ls : List TextLine) → OwesNothing Shallow start ls → (ms : List TextLine) × (expansion ls ≡ w.Head 1 ∷ ms)
one_format [] p = absurd (let e : start ≡ [] = p in cc)
one_format (w.Head n ∷ ls) p = (expanded [] ls, refl)
one_format (_ ∷ ls) p = absurd p.0
