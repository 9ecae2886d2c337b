-- What is still to come of a tree, line by line.
use Rattle.std.proofs.Common.{◌≡◌, ◌∙◌, ℕ, suc, List, [], ◌∷◌, ◌++◌, length, append_assoc, append-nil, Option, Some, refl, sym, ap, subst, arith}
use Rattle.std.specs.Prelude.{map}
use Rattle.clause_set.specs.declared.literal.Literal.{Literal}
use Rattle.proof_file.specs.Told.{TellsLine}
use Rattle.proof_file.specs.declared.source.Line.{Line}
use Rattle.proof_file.specs.declared.source.Line.TheVariants as line
use Rattle.proof_tree.specs.declared.node.Conclusion.{Conclusion}
use Rattle.proof_tree.specs.declared.node.Node.{Node, out-Node}
use Rattle.proof_tree.specs.declared.node.Node.TheFolds.{fold_out-Node}
use Rattle.proof_tree.specs.Proof.{Proof, node, proofs}
use Rattle.proof_tree.specs.Views.{proof_of, proof_step}
use Rattle.proof_tree.specs.Walk.{width}
use Rattle.base_budget.specs.declared.log.ElimLog.{ElimLog}
use Rattle.proof_grammar.specs.Lines.{last_lines}
use Rattle.proof_grammar.specs.declared.lines.TextLine.{TextLine}
use Rattle.tree_checker.specs.Frames.{IsLineTold, all_due, below, due, ends, row_line}
use Rattle.tree_checker.specs.Told.{told_all, told_lines, told_width}
use Rattle.tree_checker.specs.declared.frames.Frame.{Frame}

-- ---- a node
node_is : (x : Node) → proof_of x ≡ node (out-Node x).rule (proofs (map proof_of (out-Node x).children)) (out-Node x).log.entries (out-Node x).gives
node_is x = fold_out-Node Proof proof_step x

widths : (xs : List Node) → width (proofs (map proof_of xs)) ≡ length xs
widths [] = refl
widths (x ∷ xs) = ap (λ (n : ℕ). suc n) (widths xs)

pub row_told : (x : Node) (k : ℕ) (log : ElimLog) (c : Conclusion) → k ≡ told_width (out-Node x).rule (length (out-Node x).children) (out-Node x).log.entries
    → TellsLine (Some (line.Row (out-Node x).rule k)) log c (row_line (proof_of x))
row_told x k log c is =
    subst (λ (y : Proof). TellsLine (Some (line.Row (out-Node x).rule k)) log c (row_line y)) (sym (node_is x)) (refl, is ∙ ap (λ n. told_width (out-Node x).rule n (out-Node x).log.entries) (sym (widths (out-Node x).children)))

pub behind_is : (x : Node) (rest : List Node) (log : Option ElimLog) (gives : List (List Literal)) → rest ≡ (out-Node x).children → ((d : List (List Literal)) → ends log d ≡ last_lines (out-Node x).rule (out-Node x).log.entries d)
    → gives ≡ (out-Node x).gives → told_all (proofs (map proof_of rest)) ++ ends log gives ≡ below (proof_of x)
behind_is x rest log gives r l g =
    ap (λ z. told_all (proofs (map proof_of z)) ++ ends log gives) r ∙ ap (λ z. told_all (proofs (map proof_of (out-Node x).children)) ++ z) (l gives ∙ ap (last_lines (out-Node x).rule (out-Node x).log.entries) g) ∙ sym (ap below (node_is x))

told_split : (x : Proof) (rest : List TextLine) → told_lines x ++ rest ≡ row_line x ∷ (below x ++ rest)
told_split (node p ns es d) rest = refl

pub none_left : (xs : List Node) → length xs ≡ 0 → xs ≡ []
none_left [] h = refl
none_left (x ∷ xs) h = absurd (omega (arith, h))

-- ---- nodes in one another
pub all_due_last : (fs : List Frame) (f : Frame) → all_due (fs ++ f ∷ []) ≡ due f ++ all_due fs
all_due_last [] f = sym (append-nil (due f))
all_due_last (g ∷ fs) f = ap (λ z. z ++ due g) (all_due_last fs f) ∙ append_assoc (due f) (all_due fs) (due g)

-- ---- what was told
pub begun_told : (x : Proof) (f : Frame) (r : Line) (log : ElimLog) (c : Conclusion) (rest : List TextLine) → TellsLine (Some r) log c (row_line x) → due f ≡ below x → IsLineTold (told_lines x ++ rest) (Some r) log c (due f ++ rest)
begun_told x f r log c rest told is = (row_line x, told, told_split x rest ∙ ap (λ z. row_line x ∷ (z ++ rest)) (sym is))

pub premise_told : (x : Node) (xs : List Node) (log : Option ElimLog) (gives : List (List Literal)) (f g h : Frame) (fs gs : List Frame) (end : List TextLine) (r : Line) (now : ElimLog) (c : Conclusion)
    → due f ≡ told_all (proofs (map proof_of (x ∷ xs))) ++ ends log gives → due g ≡ told_all (proofs (map proof_of xs)) ++ ends log gives → gs ≡ fs ++ g ∷ [] → TellsLine (Some r) now c (row_line (proof_of x)) → due h ≡ below (proof_of x)
    → IsLineTold (due f ++ (all_due fs ++ end)) (Some r) now c (due h ++ (all_due gs ++ end))
premise_told x xs log gives f g h fs gs end r now c f_is g_is gs_is told h_is =
    let t = told_all (proofs (map proof_of xs)) in
    let e = ends log gives in
    let y = proof_of x in
    let others : all_due gs ++ end ≡ (t ++ e) ++ (all_due fs ++ end) = ap (λ z. all_due z ++ end) gs_is ∙ ap (λ z. z ++ end) (all_due_last fs g) ∙ append_assoc (due g) (all_due fs) end ∙ ap (λ z. z ++ (all_due fs ++ end)) g_is in
    let before : due f ++ (all_due fs ++ end) ≡ told_lines y ++ ((t ++ e) ++ (all_due fs ++ end)) =
    ap (λ z. z ++ (all_due fs ++ end)) (f_is ∙ append_assoc (told_lines y) t e) ∙ append_assoc (told_lines y) (t ++ e) (all_due fs ++ end) in
    (row_line y, told, before ∙ told_split y ((t ++ e) ++ (all_due fs ++ end)) ∙ (λ i. row_line y ∷ (sym h_is i ++ sym others i)))

pub told_next : (before after : List TextLine) (x : Option Line) (log : ElimLog) (c : Conclusion) → IsLineTold before x log c after → (l : TextLine) (ls : List TextLine) → l ∷ ls ≡ before → TellsLine x log c l × (ls ≡ after)
told_next before after x log c t l ls is =
    let both : l ∷ ls ≡ t.0 ∷ after = is ∙ t.2 in
    let first : t.0 ≡ l = cc in
    let rest : ls ≡ after = cc in (subst (TellsLine x log c) first t.1, rest)

pub never_ends : (before after : List TextLine) (x : Option Line) (log : ElimLog) (c : Conclusion) → IsLineTold before x log c after → [] ≡ before → ⊥
never_ends before after x log c t is = let both : [] ≡ t.0 ∷ after = is ∙ t.2 in absurd (cc)
