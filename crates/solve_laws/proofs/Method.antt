-- Solving name by name, without charges, over whatever names can be taken out of.
use Rattle.std.specs.Prelude.{◌≡◌, ◌↔◌, ℕ, zero, suc, ◌+◌, ◌≤◌, ℤ, Bool, true, not, cond, Option, Some, None, List, [], ◌∷◌}
use Rattle.base_integers.specs.Entry.{put}
use Rattle.solve_laws.specs.Best.{rank}

pub record Method (D : Type 0) : Type 0 where
  pub truth : D → List ℤ → Bool
  pub without : ℕ → D → D
  pub chosen : ℕ → D → ℤ
  pub with_value : ℕ → ℤ → D → D
  pub is_false : D → Bool

-- the k names from j on go out of d, the greatest first
abbrev pub out_from : {D : Type 0} → Method D → ℕ → ℕ → D → D
out_from m zero j d = d
out_from m (suc k) j d = out_from m k j (m.without (j + k) d)

-- values for the k names from j on: each is chosen where the later names are out, and is put into d before the next one
abbrev pub values_from : {D : Type 0} → Method D → ℕ → ℕ → D → List ℤ
values_from m zero j d = []
values_from m (suc k) j d =
    let v = m.chosen j (out_from m k (suc j) d) in v ∷ values_from m k (suc j) (m.with_value j v d)

-- the best values of n names that satisfy d; none where the false formula is left when all names are out
abbrev pub solved : {D : Type 0} → Method D → ℕ → D → Option (List ℤ)
solved m n d = cond (m.is_false (out_from m n 0 d)) None (Some (values_from m n 0 d))

-- what the method owes; `Spans j n d`: the names of d are from j on and below n
pub record Laws {D : Type 0} (m : Method D) (Spans : ℕ → ℕ → D → Type 0) : Type 0 where
  pub out_met : (j x : ℕ) (d : D) (e : List ℤ) → j ≤ x → Spans j (suc x) d
      → (m.truth (m.without x d) e ≡ true) ↔ ((v : ℤ) × (m.truth d (put e x v) ≡ true))
  pub out_spans : (j x : ℕ) (d : D) → j ≤ x → Spans j (suc x) d → Spans j x (m.without x d)
  pub chosen_best : (j : ℕ) (d : D) (e : List ℤ) (u : ℤ) → Spans j (suc j) d → m.truth d (put e j u) ≡ true
      → (m.truth d (put e j (m.chosen j d)) ≡ true) × (rank (m.chosen j d) ≤ rank u)
  pub value_truth : (j n : ℕ) (v : ℤ) (d : D) (e : List ℤ) → Spans j n d → m.truth (m.with_value j v d) e ≡ m.truth d (put e j v)
  pub value_spans : (j n : ℕ) (v : ℤ) (d : D) → Spans j n d → Spans (suc j) n (m.with_value j v d)
  pub closed : (j : ℕ) (d : D) (e : List ℤ) → Spans j j d → m.truth d e ≡ not (m.is_false d)
