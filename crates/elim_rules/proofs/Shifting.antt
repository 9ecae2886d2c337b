-- Bounds at the solutions of a divisibility.
use Rattle.std.proofs.Common.{◌≡◌, ℕ, ℤ, neg_ℤ, ◌*ℤ◌, List, [], ◌∷◌, ◌++◌, Result, ◌∙◌, ap, subst}
use Rattle.linear_term.specs.Linear.{Linear, without}
use Rattle.linear_term.specs.declared.range.Place.{Place}
use Rattle.base_budget.specs.declared.fault.StepFault.{StepFault}
use Rattle.base_budget.specs.Trace.{compute}
use Rattle.base_budget.specs.Work.{Worked}
use Rattle.clause_set.specs.declared.literal.Literal.{Literal}
use Rattle.clause_set.specs.declared.literal.Literal.TheVariants.{Div, Geq}
use Rattle.clause_set.specs.Clauses.{clauses_of}
use Rattle.clause_set.specs.Divisibilities.{with_name}
use Rattle.clause_set.specs.Names.{product}

pub bound_computed : (a d p a' d' : ℤ) (m n : Place) (r : Result (Unit {0}) StepFault) → m ≡ product a d → n ≡ product a p → a ≡ a' → d ≡ d' → Worked (compute (m ∷ n ∷ [])) r
    → Worked (compute (product a' d' ∷ product a' p ∷ [])) r
bound_computed a d p a' d' m n r is_m is_n is_a is_d w =
    subst (λ z. Worked (compute (z ∷ product a' p ∷ [])) r) (is_m ∙ ap (λ z. product z d) is_a ∙ ap (product a') is_d)
    (subst (λ z. Worked (compute (m ∷ z ∷ [])) r) (is_n ∙ ap (λ z. product z p) is_a) w)

pub opposite_at : (o n a p a' : ℤ) → o ≡ neg_ℤ n → n ≡ a *ℤ p → a ≡ a' → o ≡ neg_ℤ (a' *ℤ p)
opposite_at o n a p a' is is_n is_a = is ∙ ap neg_ℤ (is_n ∙ ap (λ z. z *ℤ p) is_a)

pub bound_made : (x : ℕ) (a d a' d' n : ℤ) (v u : Linear) (ls : List Literal) → n ≡ a *ℤ d → a ≡ a' → d ≡ d' → u ≡ with_name x n v → ls ≡ Geq u ∷ [] → ls ≡ Geq (with_name x (a' *ℤ d') v) ∷ []
bound_made x a d a' d' n v u ls is is_a is_d made alone =
    alone ∙ ap (λ z. Geq z ∷ []) (made ∙ ap (λ z. with_name x z v) (is ∙ ap (λ z. z *ℤ d) is_a ∙ ap (λ z. a' *ℤ z) is_d))

pub shift_formed : (x : ℕ) (g : ℤ) (t s : Linear) (old ls all : List Literal) (result : List (List Literal)) → s ≡ without t x → old ≡ Div g s ∷ [] → all ≡ old ++ ls → result ≡ clauses_of (all ∷ [])
    → result ≡ clauses_of ((Div g (without t x) ∷ ls) ∷ [])
shift_formed x g t s old ls all result is first whole formed =
    formed ∙ ap (λ z. clauses_of (z ∷ [])) (whole ∙ ap (λ z. z ++ ls) (first ∙ ap (λ z. Div g z ∷ []) is))
