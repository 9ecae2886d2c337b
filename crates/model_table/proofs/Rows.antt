-- Which row of a model counts.
use Rattle.std.proofs.Common.{◌≡◌, ℕ, zero, suc, ◌+◌, ◌<◌, ℤ, Bool, true, false, List, [], ◌∷◌, ◌++◌, refl, sym, ap, ◌∙◌, arith, cond}
use Rattle.std.specs.List.{AllByRecursion}
use Rattle.std.specs.Ordering.{int_eq}
use Rattle.std.specs.Cmp.Lexicographic.{pointwise}
use Rattle.std.specs.Bool.{Decides}
use Rattle.std.proofs.lemmas.Bool.Decides.{Decides-int_eq}
use Rattle.std.proofs.lemmas.Slice.Eq.{slice_eq-Decides}
use Rattle.model_table.specs.declared.model.ValueEntry.{ValueEntry}
use Rattle.model_table.specs.declared.model.TruthEntry.{TruthEntry}
use Rattle.model_table.specs.Models.{is_at, value_in, truth_in, NoValueAt, NoTruthAt}

pub at_decided : (xs ys : List ℤ) → Decides (is_at xs ys) (xs ≡ ys)
at_decided xs ys = slice_eq-Decides Decides-int_eq xs ys _ refl

pub not_at : (xs ys : List ℤ) → ¬ (xs ≡ ys) → is_at xs ys ≡ false
not_at xs ys h = by (is_at xs ys) refl
  where
    by : (b : Bool) → is_at xs ys ≡ b → b ≡ false
    by true e = absurd (h ((at_decided xs ys).0 e))
    by false e = refl

pub first_value : (before after : List ValueEntry) (row : ValueEntry) (d : ℤ) (xs : List ℤ) → NoValueAt xs before → row.at ≡ xs → value_in (before ++ row ∷ after) d xs ≡ row.value
first_value [] after row d xs n h = ap (λ b. cond b row.value (value_in after d xs)) ((at_decided row.at xs).1 h)
first_value (r ∷ before) after row d xs n h = ap (λ b. cond b r.value (value_in (before ++ row ∷ after) d xs)) (not_at r.at xs n.0) ∙ first_value before after row d xs n.1 h

pub default_value : (rows : List ValueEntry) (d : ℤ) (xs : List ℤ) → NoValueAt xs rows → value_in rows d xs ≡ d
default_value [] d xs n = refl
default_value (r ∷ rows) d xs n = ap (λ b. cond b r.value (value_in rows d xs)) (not_at r.at xs n.0) ∙ default_value rows d xs n.1

pub first_truth : (before after : List TruthEntry) (row : TruthEntry) (d : Bool) (xs : List ℤ) → NoTruthAt xs before → row.at ≡ xs → truth_in (before ++ row ∷ after) d xs ≡ row.truth
first_truth [] after row d xs n h = ap (λ b. cond b row.truth (truth_in after d xs)) ((at_decided row.at xs).1 h)
first_truth (r ∷ before) after row d xs n h = ap (λ b. cond b r.truth (truth_in (before ++ row ∷ after) d xs)) (not_at r.at xs n.0) ∙ first_truth before after row d xs n.1 h

pub default_truth : (rows : List TruthEntry) (d : Bool) (xs : List ℤ) → NoTruthAt xs rows → truth_in rows d xs ≡ d
default_truth [] d xs n = refl
default_truth (r ∷ rows) d xs n = ap (λ b. cond b r.truth (truth_in rows d xs)) (not_at r.at xs n.0) ∙ default_truth rows d xs n.1
