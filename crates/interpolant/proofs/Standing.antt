-- The projection of what the first side assumes stands between the two sides.
use Rattle.std.proofs.Common.{◌≡◌, ℕ, ℤ, Bool, true, false, List, [], length, inl, inr, refl, sym, ◌∙◌, subst, arith}
use Rattle.std.specs.Prelude.{Ok, Contains}
use Rattle.form_typed.specs.Formula.{Formula}
use Rattle.form_typed.specs.Truth.{Meaning, Truth}
use Rattle.base_budget.specs.Trace.{Funds, at, Traced}
use Rattle.base_budget.proofs.Meaning.{passes_where_runs}
use Rattle.pri_typing.specs.declared.problem.Cut.{Cut}
use Rattle.pri_typing.specs.declared.problem.Problem.{Problem}
use Rattle.pri_typing.specs.Problems.{Holds, IsPlainlyValid, assumed_by}
use Rattle.pri_typing.specs.WellFormed.{IsWellFormed}
use Rattle.clause_set.specs.declared.literal.Literal.{Literal}
use Rattle.clause_set.specs.Literals.{dnf_truth}
use Rattle.formula.specs.declared.calculus.Core.{Core}
use Rattle.formula.specs.Form.{Form}
use Rattle.formula.specs.Tree.{form}
use Rattle.elim_laws.specs.Elimination.{Reflects}
use Rattle.elim_laws.specs.Presburger.{IsPresburger}
use Rattle.elim_laws.specs.Whole.{eliminating, IsExact}
use Rattle.elim_laws.proofs.Whole.{anywhere, eliminating-exact}
use Rattle.form_encoding.specs.Meaning.{AreTypedIn}
use Rattle.form_encoding.specs.Problems.{constants, parts_root, types}
use Rattle.form_encoding.proofs.Conditions.{pointwise}
use Rattle.form_encoding.proofs.Parts.{parts_are, parts_over, types_many}
use Rattle.function_encoding.specs.Encoded.{Encodes}
use Rattle.quant_elim.proofs.Unfolded.{eliminating-over}
use Rattle.form_encoding.specs.Occurrences.{occurs}
use Rattle.interpolant.specs.Run.{IsEncodable, others_out, interpolating}
use Rattle.itp_sides.specs.Between.{AgreeOn, AreTyped, IsStrongest}
use Rattle.itp_sides.specs.Sides.{first_side, other_side}
use Rattle.itp_sides.proofs.Lines.{sides_apart}
use Rattle.itp_sides.proofs.Standing.{strongest_contradicts, strongest_follows}
use Rattle.interpolant.specs.Sides.{IsInterpolant}
use Rattle.interpolant.proofs.Mixing.{IsSameAt, agree_past, left_same, mixed, length-mixed, mixed_same, mixed_typed, mixed_first, same_put}
use Rattle.interpolant.proofs.Eliminated.{eliminating-lacks}
use Rattle.interpolant.proofs.Encoded.{parts_lack}
use Rattle.interpolant.proofs.Occurrences.{absent_is}
use Rattle.interpolant.proofs.Projected.{Back, others-back, others-gone, others-kept, others-lack, others-over, projected-is}

told : (b : Bool) (P : Type 0) → Reflects b P → P → b ≡ true
told true P t p = refl
told false P t p = absurd (t.no refl p)

module _ (p : Problem) (first second : List ℕ) (formed : IsWellFormed p) (presburger : IsPresburger (parts_root p first).value) where
  abbrev a : Formula
  a = assumed_by p first

  abbrev b : Formula
  b = assumed_by p second

  abbrev n : ℕ
  n = constants p

  abbrev stays : ℕ → Bool
  stays x = occurs x b

  abbrev all : List (List Literal)
  all = (eliminating n (parts_root p first).value).value

  exact : IsExact all (parts_root p first).value n
  exact = eliminating-exact n (parts_root p first).value presburger

  -- the first side is true, at values of its constants' types, where its elimination is, and the other way round
  all_true : (w : Meaning) (e : List ℤ) → AreTyped p e → Truth w a e → dnf_truth all e ≡ true
  all_true w e l t =
      let own : AreTypedIn (types p) a e = λ x _. (pointwise (types p) e (l.many ∙ sym (types_many p formed))).0 l.typed x in
      told (dnf_truth all e) _ (exact.tells e l.many) ((anywhere w (parts_root p first).value e presburger).0 ((parts_are w p first e formed l.many).1 (t, own)))

  first_true : (w : Meaning) (e : List ℤ) → length e ≡ n → dnf_truth all e ≡ true → Truth w a e × AreTypedIn (types p) a e
  first_true w e l t = (parts_are w p first e formed l).0 ((anywhere w (parts_root p first).value e presburger).1 ((exact.tells e l).yes t))

  left_is : (interpolating p first second).value ≡ (others_out stays n all).value
  unfolding interpolating
  left_is = projected-is stays n (parts_root p first).value

  -- a list at which the first side is true, and which is e at the names of the second, gives one that is typed
  typed_back : (w : Meaning) (e : List ℤ) → AreTyped p e → dnf_truth (others_out stays n all).value e ≡ true → ¬ ((d : List ℤ) → AreTyped p d → AgreeOn b e d → ¬ (Truth w a d))
  typed_back w e l t k =
      let P : List ℤ → Type 0 = IsSameAt stays n e in
      let back : Back P all = others-back stays n all P exact.formed (λ x lt is v d h. same_put stays n e d x v lt is h)
      (record { list = e; kept = record { many = l.many; same = λ x is. refl }; holds = t }) in
      let d = back.list in
      let many : length d ≡ n = (back.kept).many in
      let whole = first_true w d many back.holds in
      let mix = mixed (λ x. occurs x a) n d e in
      let long = length-mixed (λ x. occurs x a) n d e (omega (arith, many)) ∙ many in
      k mix (record { many = long; typed = mixed_typed p a d e many (types_many p formed) l.many l.typed whole.1 })
      (record { long = long ∙ sym l.many; same = λ x lt is. mixed_same (λ x. occurs x a) n d e x (let m = l.many in omega (arith, lt, m)) ((back.kept).same x is) })
      (mixed_first w a n d e (omega (arith, many)) whole.0)

  -- where the first side is true at a list that is e at the names of the second, what is left is true at e
  typed_kept : (w : Meaning) (e d : List ℤ) → AreTyped p e → AreTyped p d → AgreeOn b e d → Truth w a d → dnf_truth (others_out stays n all).value e ≡ true
  typed_kept w e d l m same t =
      let many = m.many in
      let kept = others-kept stays n all d exact.formed (omega (arith, many)) (all_true w d m t) in
      sym (left_same stays n (others_out stays n all).value d e many l.many (λ x lt is. others-gone stays n x all lt is exact.formed)
      (λ x is. agree_past n d e x many l.many (λ lt. same.same x (let k = l.many in omega (arith, lt, k)) is))) ∙ kept

  left_strongest : (w : Meaning) → IsStrongest w p a b (λ e. dnf_truth (others_out stays n all).value e ≡ true)
  left_strongest w e l = (
    typed_back w e l,
    λ h. by (dnf_truth (others_out stays n all).value e) refl h,
  )
    where
      by : (c : Bool) → dnf_truth (others_out stays n all).value e ≡ c → ¬ ((d : List ℤ) → AreTyped p d → AgreeOn b e d → ¬ (Truth w a d)) → c ≡ true
      by true is h = refl
      by false is h = absurd (h (λ d m same t. let bad = sym is ∙ typed_kept w e d l m same t in cc))

  pub strongest_is : (d : List (List Literal)) → d ≡ (interpolating p first second).value → (w : Meaning) → IsStrongest w p a b (λ e. dnf_truth d e ≡ true)
  strongest_is d is w = subst (λ z. IsStrongest w p a b (λ e. dnf_truth z e ≡ true)) (sym (is ∙ left_is)) (left_strongest w)

  left : (w : Meaning) → IsInterpolant w p a b (others_out stays n all).value
  left w = record {
    follows = strongest_follows w p a b (λ e. dnf_truth (others_out stays n all).value e ≡ true) (left_strongest w);
    contradicts = λ c e. strongest_contradicts w p a b (λ e. dnf_truth (others_out stays n all).value e ≡ true) (left_strongest w) c e;
    shared = λ x lt h. elim h [
      | inl k ↦ others-lack stays n x all exact.formed (eliminating-lacks n x (parts_root p first).value lt (parts_lack x p first lt k ((absent_is x a).1 k)))
      | inr k ↦ others-gone stays n x all lt ((absent_is x b).1 k) exact.formed
    ];
    over = others-over stays n n all exact.formed (eliminating-over n (parts_root p first).value presburger (parts_over p first formed));
  }

  pub between_is : (d : List (List Literal)) → d ≡ (interpolating p first second).value → (w : Meaning) → IsInterpolant w p a b d
  between_is d is w = subst (λ z. IsInterpolant w p a b z) (sym (is ∙ left_is)) (left w)

-- what was encoded has an encoding
pub encodable : (work : Traced Form) (f : Core) → Encodes work (Ok f) → IsEncodable work
encodable work f h =
    let start : Funds = record { budget = 0; spent = 0 } in
    let passes = (((h.1).works.each (at start [])).ok (form f) refl).1 in
    record { small = h.0; stay = ((passes_where_runs work.events (at start []) (at start []) (omega arith)).0 passes.end).stay }

-- ---- cuts
pub between_apart : (w : Meaning) (p : Problem) (cut : Cut) (j : ℕ) (d : List (List Literal)) → IsWellFormed p → p.existentials ≡ [] → Contains p.cuts cut → ¬ (IsPlainlyValid p) → Holds w p []
    → IsInterpolant w p (first_side p cut j) (other_side p cut j) d → (e : List ℤ) → AreTyped p e → dnf_truth d e ≡ true → ¬ (Truth w (other_side p cut j) e)
between_apart w p cut j d formed alone among plain holds is e l t = is.contradicts (sides_apart w p cut j formed alone among plain holds) e l t
