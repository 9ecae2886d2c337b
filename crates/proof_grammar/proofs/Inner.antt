-- After the opening of a text no line of the opening is owed.
use Rattle.std.proofs.Common.{ℕ, zero, suc, ◌≡◌, List, [], ◌∷◌, ◌++◌, refl, sym, ap, subst, ◌∙◌, ◌⊎◌, inl, inr}
use Rattle.base_budget.specs.declared.log.ElimLog.{ElimLog}
use Rattle.proof_grammar.specs.declared.lines.TextLine.{TextLine}
use Rattle.proof_grammar.specs.declared.lines.TextLine.TheVariants as w
use Rattle.proof_grammar.specs.declared.lines.Owed.{Owed}
use Rattle.proof_grammar.specs.declared.lines.Owed.TheVariants as o
use Rattle.proof_grammar.specs.declared.walk.Open.{Open}
use Rattle.proof_grammar.specs.declared.walk.Place.{Place}
use Rattle.proof_grammar.specs.declared.walk.Place.TheVariants as at
use Rattle.proof_grammar.specs.declared.walk.Walk.{Walk}
use Rattle.proof_grammar.specs.Owed.{Pays, Shallow}
use Rattle.proof_grammar.specs.Walks.{IsInner, open_owed, opens_owed, owed_at, owed_of}
use Rattle.proof_grammar.proofs.Walking.{Closing, with_log, without, closing, node_first, none_left}

abbrev IsInnerOwed : Owed → Type 0
IsInnerOwed o.Head = ⊥
IsInnerOwed o.Parts = ⊥
IsInnerOwed o.Part = ⊥
IsInnerOwed (o.Charges m) = ⊥
IsInnerOwed _ = Unit {0}

closing_inner : (parts : ℕ) (f : Open) (tail os : List Owed) (x : Owed) → f.left ≡ 0 → open_owed parts f ++ tail ≡ x ∷ os → Closing parts f.rule f.logged → IsInnerOwed x
closing_inner parts f tail os x z h (with_log e k) = let q : o.Log parts ∷ o.Gives ∷ tail ≡ x ∷ os = ap (λ y. y ++ tail) (sym (none_left parts f z ∙ e)) ∙ h in let same : o.Log parts ≡ x = cc in subst IsInnerOwed same tt
closing_inner parts f tail os x z h (without e) = let q : o.Gives ∷ tail ≡ x ∷ os = ap (λ y. y ++ tail) (sym (none_left parts f z ∙ e)) ∙ h in let same : o.Gives ≡ x = cc in subst IsInnerOwed same tt

open_inner : (parts n : ℕ) (f : Open) (tail os : List Owed) (x : Owed) → f.left ≡ n → open_owed parts f ++ tail ≡ x ∷ os → IsInnerOwed x
open_inner parts zero f tail os x e h = closing_inner parts f tail os x e h (closing parts f.rule f.logged)
open_inner parts (suc m) f tail os x e h = let q = ap (λ y. y ++ tail) (sym (node_first parts f m e)) ∙ h in let same : o.Node f.below parts ≡ x = cc in subst IsInnerOwed same tt

owed_inner : (parts : ℕ) (place : Place) (fs : List Open) (x : Owed) (os : List Owed) → owed_at parts place fs ≡ x ∷ os → IsInnerOwed x
owed_inner parts at.Root fs x os h = let same : o.Node 1 parts ≡ x = cc in subst IsInnerOwed same tt
owed_inner parts (at.Inside f) fs x os h = open_inner parts f.left f (opens_owed parts fs ++ o.End parts ∷ []) os x refl h
owed_inner parts at.End fs x os h = let same : o.End parts ≡ x = cc in subst IsInnerOwed same tt
owed_inner parts at.Done fs x os h = absurd (cc)

inner_by : (x : Owed) (l : TextLine) → IsInnerOwed x → Pays Shallow x l → IsInner l
inner_by o.Head l i p = absurd i
inner_by o.Parts l i p = absurd i
inner_by o.Part l i p = absurd i
inner_by (o.Charges m) l i p = absurd i
inner_by (o.Node j m) (w.Row q k) i p = tt
inner_by (o.Node j m) _ i p = absurd p
inner_by (o.Log m) (w.Log log) i p = tt
inner_by (o.Log m) (w.LogOf n) i p = tt
inner_by (o.Log m) _ i p = absurd p
inner_by o.Gives (w.Gives d) i p = tt
inner_by o.Gives _ i p = absurd p
inner_by (o.End m) (w.End c) i p = tt
inner_by (o.End m) (w.EndOf n) i p = tt
inner_by (o.End m) _ i p = absurd p

-- a line that a walk owes is no line of the opening
pub inner_line : (walk : Walk) (x : Owed) (os : List Owed) (l : TextLine) → owed_of walk ≡ x ∷ os → Pays Shallow x l → IsInner l
inner_line walk x os l e p = inner_by x l (owed_inner walk.parts walk.place walk.outer x os e) p

-- the lines of an opening are none
pub not_opening : (l : TextLine) → ((n : ℕ) × (l ≡ w.Head n)) ⊎ (((n : ℕ) × (l ≡ w.Parts n)) ⊎ (((log : ElimLog) × (l ≡ w.Part log)) ⊎ ((n : ℕ) × (l ≡ w.Charges n)))) → IsInner l → ⊥
not_opening l (inl q) i = subst IsInner q.1 i
not_opening l (inr (inl q)) i = subst IsInner q.1 i
not_opening l (inr (inr (inl q))) i = subst IsInner q.1 i
not_opening l (inr (inr (inr q))) i = subst IsInner q.1 i
