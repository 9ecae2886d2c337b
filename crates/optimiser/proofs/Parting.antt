-- Where a clause in one name begins, by its equation, its bounds, or what its first split leaves.
use Rattle.std.proofs.Common.{◌≡◌, ℕ, ℤ, List, Option, Some, None, Result, Ok, Err, IsErrAnd, sym, ◌∙◌, ap, subst}
use Rattle.std.specs.Prelude.{position}
use Rattle.std.proofs.lemmas.Bool.{cond-true, cond-false}
use Rattle.base_budget.specs.declared.fault.StepFault.{StepFault}
use Rattle.base_budget.specs.declared.log.Entry.{Entry}
use Rattle.base_budget.specs.Trace.{Funds, Traced, just, next}
use Rattle.base_budget.specs.Work.{Charged, Worked}
use Rattle.base_budget.proofs.Charging.{then_ok, then_err, free, work_ok, work_just}
use Rattle.base_budget.proofs.Tracing.{next-same, next-just, next-assoc}
use Rattle.clause_set.specs.declared.literal.Literal.{Literal}
use Rattle.clause_set.specs.Names.{is_equation}
use Rattle.clause_set.specs.Rules.{rule}
use Rattle.solve_laws.specs.Candidates.{first_split, lower, root_at}
use Rattle.parameter_solver.specs.Names.{IsOfName}
use Rattle.parameter_solver.specs.Splits.{split_at, splitting}
use Rattle.parameter_solver.proofs.Parting.{any_place, no_place, of_name}
use Rattle.optimiser.specs.declared.floor.Floor.{Floor}
use Rattle.optimiser.specs.declared.floor.Floor.TheVariants.{Nowhere}
use Rattle.optimiser.specs.Floors.{first_floor}
use Rattle.optimiser.specs.OneName.{clause_floor, floor_by, floor_from, floors}
use Rattle.optimiser.proofs.OneName.{clause_floor-unfold}

-- ---- with an equation
pub root_done : (j i : ℕ) (c : List Literal) (vs us : List ℤ) (f : Floor) → Worked (root_at j c (Some i)) (Ok vs) → us ≡ vs → f ≡ first_floor us
    → Worked (next (root_at j c (Some i)) (λ ws. just (first_floor ws))) (Ok f)
root_done j i c vs us f did same is = work_ok (root_at j c (Some i)) (λ ws. just (first_floor ws)) did (work_just _ f (is ∙ ap first_floor same))

-- ---- any clause
-- what comes after the split
abbrev pub after_split : ℕ → List Literal → Option (List (List Literal)) → Traced Floor
after_split j c None = floor_from j c (lower j c)
after_split j c (Some rs) = floors (clause_floor j) rs Nowhere

split_again : (j : ℕ) (c : List Literal) (o : Option Entry) → floor_by (clause_floor j) j c o ≡ next (split_at j c o) (after_split j c)
split_again j c None = sym (next-just None (after_split j c))
split_again j c (Some e) = sym (next-assoc (rule j c e) _ (after_split j c) ∙ next-same (rule j c e) _ _ (next-just (Some (rule j c e).value) (after_split j c)))

by_equation : (j i : ℕ) (c : List Literal) → IsOfName j c → position (is_equation j) c ≡ Some i → clause_floor j c ≡ next (root_at j c (Some i)) (λ vs. just (first_floor vs))
by_equation j i c h at =
    clause_floor-unfold j c (of_name j c h) ∙ cond-true _ _ _ (any_place (is_equation j) c i at) ∙ ap (λ o. next (root_at j c o) (λ vs. just (first_floor vs))) at

by_split : (j : ℕ) (c : List Literal) → IsOfName j c → position (is_equation j) c ≡ None → clause_floor j c ≡ next (splitting j c) (after_split j c)
unfolding splitting
by_split j c h at = clause_floor-unfold j c (of_name j c h) ∙ cond-false _ _ _ (no_place (is_equation j) c at) ∙ split_again j c (first_split j c)

pub floor_root : (j i : ℕ) (c : List Literal) (r : Result Floor StepFault) {f : Funds} → IsOfName j c → position (is_equation j) c ≡ Some i
    → Worked (next (root_at j c (Some i)) (λ vs. just (first_floor vs))) r → Charged (clause_floor j c) f r f
floor_root j i c r {f} h at did = subst (λ w. Charged w f r f) (sym (by_equation j i c h at)) (free r did)

pub floor_fault : (j : ℕ) (c : List Literal) (e : StepFault) (r : Result Floor StepFault) {f g : Funds} → IsOfName j c → position (is_equation j) c ≡ None → Charged (splitting j c) f (Err e) g → IsErrAnd r (λ x. x ≡ e)
    → Charged (clause_floor j c) f r g
floor_fault j c e r {f} {g} h at did err = subst (λ w. Charged w f r g) (sym (by_split j c h at)) (then_err (splitting j c) (after_split j c) r err did)

pub floor_parts : (j : ℕ) (c : List Literal) (o : Option (List (List Literal))) (rs ps : List (List Literal)) (r : Result Floor StepFault) {f g k : Funds} → IsOfName j c → position (is_equation j) c ≡ None
    → Charged (splitting j c) f (Ok o) g → o ≡ Some rs → ps ≡ rs → Charged (floors (clause_floor j) ps Nowhere) g r k → Charged (clause_floor j c) f r k
floor_parts j c o rs ps r {f} {g} {k} h at did is same rest =
    subst (λ w. Charged w f r k) (sym (by_split j c h at))
    (then_ok (splitting j c) (after_split j c) did (subst (λ z. Charged (after_split j c z) g r k) (sym is) (subst (λ z. Charged (floors (clause_floor j) z Nowhere) g r k) same rest)))

pub floor_bounds : (j : ℕ) (c : List Literal) (o : Option (List (List Literal))) (r : Result Floor StepFault) {f g : Funds} → IsOfName j c → position (is_equation j) c ≡ None
    → Charged (splitting j c) f (Ok o) g → o ≡ None → Worked (floor_from j c (lower j c)) r → Charged (clause_floor j c) f r g
floor_bounds j c o r {f} {g} h at did is rest =
    subst (λ w. Charged w f r g) (sym (by_split j c h at))
    (then_ok (splitting j c) (after_split j c) did (subst (λ z. Charged (after_split j c z) g r g) (sym is) (free r rest)))
