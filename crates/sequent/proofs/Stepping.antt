-- New members one after the other.
use Rattle.std.proofs.Common.{◌≡◌, ℕ, zero, suc, ◌<◌, List, [], ◌∷◌, ◌++◌, length, Some, refl, sym, ap, ◌∙◌, subst, arith, append_assoc}
use Rattle.std.specs.List.{slice_get}
use Rattle.std.proofs.lemmas.List.{map-append}
use Rattle.formula.specs.declared.calculus.Core.{Core}
use Rattle.sequent.specs.declared.member.Member.{Member}
use Rattle.sequent.specs.Sequent as q
use Rattle.sequent.specs.Rules.{new_members, one_each, brought}
use Rattle.formula.specs.Shifts.{IsBelow, AreBelow}
use Rattle.formula.specs.Tree.{form, forms_of}
use Rattle.sequent.specs.Views.{member_of, members_of}
use Rattle.formula.proofs.Building.{formed}

pub new_step : (over n : ℕ) (out : List Member) (m : Member) (f : Core) (fs : List Core) (all : List q.Member) → member_of m ≡ q.member (brought over n (form f)) n 0
    → members_of out ++ new_members over n (forms_of (f ∷ fs)) ≡ all → members_of (out ++ m ∷ []) ++ new_members over n (forms_of fs) ≡ all
new_step over n out m f fs all is h =
    ap (λ l. l ++ new_members over n (forms_of fs)) (map-append member_of out (m ∷ []) ∙ ap (λ x. members_of out ++ x ∷ []) is)
    ∙ append_assoc (members_of out) (q.member (brought over n (form f)) n 0 ∷ []) (new_members over n (forms_of fs)) ∙ h

pub below_at : (b i : ℕ) (fs : List Core) (f : Core) → slice_get fs i ≡ Some f → AreBelow b (forms_of fs) → IsBelow b (form f)
below_at b i [] f at h = absurd (cc)
below_at b zero (g ∷ fs) f at h = let same : g ≡ f = cc in subst (λ (x : Core). IsBelow b (form x)) same h.0
below_at b (suc i) (g ∷ fs) f at h = below_at b i fs f at h.1

pub beta_at : (over n i : ℕ) (fs : List Core) (f : Core) (m : Member) → slice_get fs i ≡ Some f → member_of m ≡ q.member (brought over n (form f)) n 0
    → slice_get (one_each (new_members over n (forms_of fs))) i ≡ Some (member_of m ∷ [])
beta_at over n i [] f m at is = absurd (cc)
beta_at over n zero (g ∷ fs) f m at is = let same : g ≡ f = cc in ap (λ x. Some (q.member (brought over n (form x)) n 0 ∷ [])) same ∙ ap (λ x. Some (x ∷ [])) (sym is)
beta_at over n (suc i) (g ∷ fs) f m at is = beta_at over n i fs f m at is

pub length-each : (over n : ℕ) (fs : List Core) → length (one_each (new_members over n (forms_of fs))) ≡ length fs
length-each over n [] = refl
length-each over n (f ∷ fs) = ap suc (length-each over n fs)

pub only_one : {X : Type 0} (i : ℕ) (x y : X) → i < 1 → y ≡ x → slice_get (x ∷ []) i ≡ Some y
only_one zero x y lt h = ap Some (sym h)
only_one (suc i) x y lt h = absurd (omega arith)

pub ruleset branched = (formed, length-each, only_one)
