-- The order of terms is total, and only equal terms are equal in it.
use Rattle.std.proofs.Common.{◌≡◌, ℕ, ℤ, refl}
use Rattle.std.specs.Cmp.{IsTotalOrder}
use Rattle.std.specs.FinMap.{IsAntisymmetric, nat_cmp-IsAntisymmetric, int_cmp-IsAntisymmetric, slice_cmp-IsAntisymmetric}
use Rattle.std.specs.Ordering.{nat_cmp, int_cmp, ordering_then}
use Rattle.std.specs.Cmp.Lexicographic.{slice_cmp}
use Rattle.std.specs.declared.cmp.Ordering.{Ordering}
use Rattle.std.specs.declared.cmp.Ordering.TheVariants.{Less, Equal, Greater}
use Rattle.std.proofs.lemmas.Cmp.{nat_cmp_total, int_cmp_total, on_total, then_total, lists_total}
use Rattle.linear_term.specs.Linear.{Linear}
use Rattle.linear_term.specs.Order.{pair_cmp, linear_cmp}

pub linear_cmp-total : IsTotalOrder linear_cmp
linear_cmp-total =
    then_total
    (on_total (λ (t : Linear). t.pairs) (lists_total (then_total (on_total (λ (p : ℕ × ℤ). p.0) nat_cmp_total) (on_total (λ (p : ℕ × ℤ). p.1) int_cmp_total))))
    (on_total (λ (t : Linear). t.constant) int_cmp_total)

both_equal : (a b : Ordering) → ordering_then a b ≡ Equal → (a ≡ Equal) × (b ≡ Equal)
both_equal Less b e = absurd (cc)
both_equal Equal b e = (refl, e)
both_equal Greater b e = absurd (cc)

pair_cmp-equal : IsAntisymmetric pair_cmp
pair_cmp-equal p q e =
    let parts = both_equal (nat_cmp p.0 q.0) (int_cmp p.1 q.1) e in
    λ i. (nat_cmp-IsAntisymmetric p.0 q.0 parts.0 i, int_cmp-IsAntisymmetric p.1 q.1 parts.1 i)

pub linear_cmp-equal : IsAntisymmetric linear_cmp
linear_cmp-equal s t e =
    let parts = both_equal (slice_cmp pair_cmp s.pairs t.pairs) (int_cmp s.constant t.constant) e in
    λ i. record {
      pairs = slice_cmp-IsAntisymmetric pair_cmp-equal s.pairs t.pairs parts.0 i;
      constant = int_cmp-IsAntisymmetric s.constant t.constant parts.1 i;
    }
