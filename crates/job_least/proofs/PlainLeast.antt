-- What the least value of the linear term says of the plain term and of what the disjunction expresses.
use Rattle.std.proofs.Common.{◌≡◌, ℕ, ℤ, ◌≤ℤ◌, ◌<ℤ◌, Bool, true, false, List, length, refl, sym, ◌∙◌, subst}
use Rattle.linear_term.specs.Linear.{value_of}
use Rattle.clause_set.specs.declared.literal.Literal.{Literal}
use Rattle.clause_set.specs.Literals.{dnf_truth}
use Rattle.elim_laws.specs.Elimination.{Reflects}
use Rattle.elim_laws.specs.Whole.{Expresses}
use Rattle.form_typed.specs.Formula.{Expression}
use Rattle.form_typed.specs.Truth.{Meaning, HasValue}
use Rattle.optimiser.specs.Least.{Minimum, nothing, no_least, least_at, IsMinimum}
use Rattle.form_encoding.specs.Root.{names_from}
use Rattle.form_encoding.specs.Plain.{IsPlain, linear_of}
use Rattle.form_encoding.proofs.Products.{IsTermLinear}
use Rattle.job_least.proofs.PlainValues.{plain_value, LeastMeans}
use Rattle.job_least.proofs.Terms.{plain_has, value_is, reads_all}

has : (w : Meaning) (x : Expression) (e : List ℤ) (P : ℤ → Type 0) → IsPlain x → P (plain_value x e) → HasValue w x e P
has w x e P p h = subst (λ (A : Type 0). A) (sym (plain_has w x e P p)) h

true_at : (b : Bool) (P : Type 0) → Reflects b P → P → b ≡ true
true_at true P t h = refl
true_at false P t h = absurd (t.no refl h)

-- the value of the linear term is that of the plain term
pub same_value : (n : ℕ) (x : Expression) (e : List ℤ) → IsPlain x → IsTermLinear x → length e ≡ n → value_of (linear_of (names_from 0 n) x).value e ≡ plain_value x e
same_value n x e p l h = value_is x (names_from 0 n) e (reads_all n e h) p l

pub means : (w : Meaning) (d : List (List Literal)) (n : ℕ) (H : List ℤ → Type 0) (x : Expression) (m : Minimum)
    → Expresses d n H → IsPlain x → IsTermLinear x → IsMinimum (dnf_truth d) n (value_of (linear_of (names_from 0 n) x).value) m → LeastMeans w H n x m
means w d n H x nothing exact p l h = λ e many. (exact.tells e many).no (h e many)
means w d n H x no_least exact p l h = λ k.
    let e : List ℤ = (h k).0 in
    let many : length e ≡ n = (h k).1 in
    let t = value_of (linear_of (names_from 0 n) x).value in
    let below : t e <ℤ k = (h k).3 in (
      e,
      record {
        as_many = many;
        holds = (exact.tells e many).yes (h k).2;
        below = has w x e (λ y. y <ℤ k) p (subst (λ y. y <ℤ k) (same_value n x e p l many) below);
      },
    )
means w d n H x (least_at k v) exact p l h =
    let many : length v ≡ n = h.best.names in
    record {
      as_many = many;
      holds = (exact.tells v many).yes h.satisfies;
      value = has w x v (λ y. y ≡ k) p (sym (same_value n x v p l many) ∙ h.value);
      least = λ e long at.
          has w x e (λ y. k ≤ℤ y) p (subst (λ y. k ≤ℤ y) (same_value n x e p l long) (h.least e long (true_at (dnf_truth d e) (H e) (exact.tells e long) at)));
    }
