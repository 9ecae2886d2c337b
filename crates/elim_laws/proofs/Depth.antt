-- The bound on the depth of a formula does not matter, and the log of all names.
use Rattle.std.proofs.Common.{◌≡◌, ◌<◌, ◌≤◌, ℕ, zero, suc, List, [], refl, ◌∙◌, ap, arith}
use Rattle.base_budget.specs.Trace.{Traced, just, next, pay}
use Rattle.base_budget.proofs.Tracing.{next-same}
use Rattle.clause_set.specs.declared.literal.Literal.{Literal}
use Rattle.clause_set.specs.Dnfs.{conjunction, disjunction, negation, top}
use Rattle.elim_laws.specs.Elimination.{exists_name}
use Rattle.formula.specs.Form as tree
use Rattle.formula.specs.Form.{Form, Forms}
use Rattle.formula.specs.Sizes.{size, depth, depths}
use Rattle.formula.specs.Duals.{dual}
use Rattle.elim_laws.specs.Whole.{all_of, any_of, eliminated, names_out}
use Rattle.elim_laws.specs.Logs.{Does, names_by_log}
use Rattle.elim_laws.proofs.Duals.{dual-depth}
use Rattle.elim_laws.proofs.Quiet.{quiet_just}
use Rattle.elim_laws.proofs.Replays.{does_next, does_quiet, name_does}

module _ (f g : Form → Traced (List (List Literal))) (m : ℕ) (same : (h : Form) → depth h < m → f h ≡ g h) where
  pub all_same : (hs : Forms) (d : List (List Literal)) → depths hs < m → all_of f hs d ≡ all_of g hs d
  all_same tree.no_form d lt = refl
  all_same (tree.and_form h hs) d lt =
      ap (λ w. next w (λ c. next (conjunction d c) (λ both. all_of f hs both))) (same h (omega (arith, lt)))
      ∙ next-same (g h) _ _ (next-same (conjunction d (g h).value) _ _ (all_same hs (conjunction d (g h).value).value (omega (arith, lt))))

  pub any_same : (hs : Forms) (d : List (List Literal)) → depths hs < m → any_of f hs d ≡ any_of g hs d
  any_same tree.no_form d lt = refl
  any_same (tree.and_form h hs) d lt =
      ap (λ w. next w (λ c. next (disjunction d c) (λ both. any_of f hs both))) (same h (omega (arith, lt)))
      ∙ next-same (g h) _ _ (next-same (disjunction d (g h).value) _ _ (any_same hs (disjunction d (g h).value).value (omega (arith, lt))))

either_bound : (m k n : ℕ) → ((h : Form) → depth h < m → depth h < k → eliminated m n h ≡ eliminated k n h) → (b : ℕ) → b ≤ m → b ≤ k → (h : Form) → depth h < b → eliminated m n h ≡ eliminated k n h
either_bound m k n f b le lf h lt = f h (omega (arith, le, lt)) (omega (arith, lf, lt))

pub eliminated-same : (m k n : ℕ) (f : Form) → depth f < m → depth f < k → eliminated m n f ≡ eliminated k n f
eliminated-same zero k n f lt le = absurd (omega (arith, lt))
eliminated-same (suc m) zero n f lt le = absurd (omega (arith, le))
eliminated-same (suc m) (suc k) n (tree.equal t) lt le = refl
eliminated-same (suc m) (suc k) n (tree.at_least t) lt le = refl
eliminated-same (suc m) (suc k) n (tree.unequal t) lt le = refl
eliminated-same (suc m) (suc k) n (tree.holds q ts) lt le = refl
eliminated-same (suc m) (suc k) n (tree.fails q ts) lt le = refl
eliminated-same (suc m) (suc k) n (tree.differs q ts u) lt le = refl
eliminated-same (suc m) (suc k) n (tree.conjunction fs) lt le =
    all_same (eliminated m n) (eliminated k n) (suc (depths fs)) (either_bound m k n (eliminated-same m k n) (suc (depths fs)) (omega (arith, lt)) (omega (arith, le))) fs top (omega arith)
eliminated-same (suc m) (suc k) n (tree.disjunction fs) lt le =
    any_same (eliminated m n) (eliminated k n) (suc (depths fs)) (either_bound m k n (eliminated-same m k n) (suc (depths fs)) (omega (arith, lt)) (omega (arith, le))) fs [] (omega arith)
eliminated-same (suc m) (suc k) n (tree.existential f) lt le = ap (λ w. next w (exists_name n)) (eliminated-same m k (suc n) f (omega (arith, lt)) (omega (arith, le)))
eliminated-same (suc m) (suc k) n (tree.universal f) lt le =
    let same = dual-depth f in
    next-same (pay (size f)) _ _ (
    next-same (dual f) _ _
    (ap (λ w. next w (λ d. next (exists_name n d) negation)) (eliminated-same m k (suc n) (dual f).value (omega (arith, lt, same)) (omega (arith, le, same))))
    )

pub names_does : (n : ℕ) (d : List (List Literal)) → Does (names_by_log n d) (names_out n d)
names_does zero d = does_quiet (just d) (quiet_just d)
names_does (suc n) d = does_next _ (names_by_log n) (exists_name n d) (names_out n) (name_does n d) (names_does n (exists_name n d).value)
