-- The rule of an equation, from the work of its calls.
use Rattle.std.proofs.Common.{◌≡◌, ℕ, ℤ, List, [], ◌∷◌, ◌++◌, Result, ◌∙◌, ap, subst}
use Rattle.linear_term.specs.Linear.{Linear, coef_of, without}
use Rattle.base_budget.specs.declared.fault.StepFault.{StepFault}
use Rattle.base_budget.specs.Trace.{each}
use Rattle.base_budget.specs.Work.{Worked}
use Rattle.clause_set.specs.declared.literal.Literal.{Literal}
use Rattle.clause_set.specs.declared.literal.Literal.TheVariants.{Div}
use Rattle.clause_set.specs.Literals.{term_of}
use Rattle.clause_set.specs.Clauses.{clauses_of}
use Rattle.clause_set.specs.Names.{coefficient, remainder}
use Rattle.clause_set.specs.Equations.{size_of, solved_or_kept}
use Rattle.elim_rules.specs.declared.equation.Solution.{Solution}

-- q is the equation l for x
pub record Solves (q : Solution) (x : ℕ) (l : Literal) : Type 0 where
  pub name : q.x ≡ x
  pub coefficient : q.a ≡ coefficient x l
  pub rest : q.s ≡ remainder x l

pub solves : (q : Solution) (x : ℕ) (l : Literal) (t : Linear) → t ≡ term_of l → q.x ≡ x → q.a ≡ coef_of t x → q.s ≡ without t x → Solves q x l
solves q x l t is n a s = record { name = n; coefficient = a ∙ ap (λ z. coef_of z x) is; rest = s ∙ ap (λ z. without z x) is }

pub solved_at : (q : Solution) (x : ℕ) (l : Literal) (rest : List Literal) (r : Result (List Literal) StepFault) → Solves q x l
    → Worked (each (solved_or_kept q.x q.a q.s) rest []) r → Worked (each (solved_or_kept x (coefficient x l) (remainder x l)) rest []) r
solved_at q x l rest r h w =
    subst (λ z. Worked (each (solved_or_kept z (coefficient x l) (remainder x l)) rest []) r) h.name
    (subst (λ z. Worked (each (solved_or_kept q.x z (remainder x l)) rest []) r) h.coefficient
    (subst (λ z. Worked (each (solved_or_kept q.x q.a z) rest []) r) h.rest w))

pub solved_formed : (q : Solution) (x : ℕ) (l : Literal) (n : ℤ) (old ls all : List Literal) (result : List (List Literal)) → Solves q x l → n ≡ size_of q.a → old ≡ Div n q.s ∷ [] → all ≡ old ++ ls
    → result ≡ clauses_of (all ∷ []) → result ≡ clauses_of ((Div (size_of (coefficient x l)) (remainder x l) ∷ ls) ∷ [])
solved_formed q x l n old ls all result h size first whole formed =
    formed ∙ ap (λ z. clauses_of (z ∷ []))
    (whole ∙ ap (λ z. z ++ ls) (first ∙ ap (λ z. Div z q.s ∷ []) (size ∙ ap size_of h.coefficient) ∙ ap (λ z. Div (size_of (coefficient x l)) z ∷ []) h.rest))
