-- All names out of a disjunction.
use Rattle.std.proofs.Common.{◌≡◌, ℕ, zero, suc, ℤ, true, List, [], ◌∷◌, ◌++◌, length, refl, sym, ◌∙◌, ap, subst, arith}
use Rattle.std.specs.Prelude.{◌↔◌}
use Rattle.base_budget.specs.Trace.{just, next}
use Rattle.base_budget.proofs.Tracing.{value-just}
use Rattle.clause_set.specs.declared.literal.Literal.{Literal}
use Rattle.clause_set.specs.Literals.{dnf_truth}
use Rattle.clause_set.specs.Kept.{AreFormed}
use Rattle.elim_laws.specs.Elimination.{exists_name, IsOut}
use Rattle.elim_laws.specs.Whole.{names_out, HasSolution}
use Rattle.elim_laws.specs.Logs.{names_by_log, name_by_log, Yields}
use Rattle.elim_laws.proofs.Taking.{exists_name-out}
use Rattle.elim_laws.proofs.Replays.{yields_next, yields_none}
use Rattle.elim_laws.proofs.Accepted.{name_yields, yields_map}
use Rattle.elim_laws.proofs.Whole.{at_end, one_more}

record Split (v : List ℤ) (n : ℕ) : Type 0 where
  front : List ℤ
  last : ℤ
  whole : v ≡ front ++ last ∷ []
  as_many : length front ≡ n

split_last : (v : List ℤ) (n : ℕ) → length v ≡ suc n → Split v n
split_last [] n h = absurd (omega (arith, h))
split_last (u ∷ []) n h = record { front = []; last = u; whole = refl; as_many = omega (arith, h) }
split_last (u ∷ w ∷ v) zero h = absurd (omega (arith, h))
split_last (u ∷ w ∷ v) (suc n) h =
    let s = split_last (w ∷ v) n (omega (arith, h)) in
    record { front = u ∷ s.front; last = s.last; whole = ap (λ z. u ∷ z) s.whole; as_many = ap suc s.as_many }

-- where the last name goes out, some n + 1 integers make d true exactly where some n make what is left true
last_out : (n : ℕ) (d r : List (List Literal)) → IsOut n d r → HasSolution d (suc n) ↔ HasSolution r n
last_out n d r o = (
  λ s. let p = split_last s.values n s.as_many in record { values = p.front; as_many = p.as_many; holds = o.kept p.front (p.last, ap (dnf_truth d) (at_end p.front p.last n p.as_many ∙ sym p.whole) ∙ s.holds) },
  λ s. let m = o.back s.values s.holds in record { values = s.values ++ m.0 ∷ []; as_many = one_more s.values m.0 n s.as_many; holds = sym (ap (dnf_truth d) (at_end s.values m.0 n s.as_many)) ∙ m.1 },
)

none_left : (d : List (List Literal)) → HasSolution d 0 ↔ (dnf_truth d [] ≡ true)
none_left d = (λ s. by s.values s.as_many s.holds, λ h. record { values = []; as_many = refl; holds = h })
  where
    by : (v : List ℤ) → length v ≡ 0 → dnf_truth d v ≡ true → dnf_truth d [] ≡ true
    by [] l h = h
    by (u ∷ v) l h = absurd (omega (arith, l))

pub names_out-exact : (n : ℕ) (d : List (List Literal)) → AreFormed d → HasSolution d n ↔ (dnf_truth (names_out n d).value [] ≡ true)
unfolding next just
names_out-exact zero d f = none_left d
names_out-exact (suc n) d f =
    let o = exists_name-out n d f in
    let rest = names_out-exact n (exists_name n d).value o.formed in
    let last = last_out n d (exists_name n d).value o in
    (λ s. rest.0 (last.0 s), λ h. last.1 (rest.1 h))

-- the same of any log
pub names_yield : (n : ℕ) (d : List (List Literal)) → AreFormed d → Yields (names_by_log n d) (λ r. HasSolution d n ↔ (dnf_truth r [] ≡ true))
names_yield zero d f = yields_none (just d) (λ r. HasSolution d 0 ↔ (dnf_truth r [] ≡ true)) (by (just d).value (value d))
  where
    value : (d : List (List Literal)) → (just d).value ≡ d
    value d = value-just d

    by : (r : List (List Literal)) → r ≡ d → HasSolution d 0 ↔ (dnf_truth r [] ≡ true)
    by r is = subst (λ z. HasSolution d 0 ↔ (dnf_truth z [] ≡ true)) (sym is) (none_left d)
names_yield (suc n) d f =
    yields_next (name_by_log n d) (names_by_log n) (IsOut n d) (λ r. HasSolution d (suc n) ↔ (dnf_truth r [] ≡ true)) (name_yields n d f)
    (λ c o. yields_map (names_by_log n c) (λ r. HasSolution c n ↔ (dnf_truth r [] ≡ true)) (λ r. HasSolution d (suc n) ↔ (dnf_truth r [] ≡ true))
    (λ r h. let last = last_out n d c o in (λ s. h.0 (last.0 s), λ t. last.1 (h.1 t))) (names_yield n c o.formed))
