-- The formula between two sides, and why there is none.
use Rattle.std.proofs.Common.{◌≡◌, ℕ, pos, true, false, List, refl, sym, ◌∙◌, subst, Result, Ok, Err, IsErrAnd}
use Rattle.form_typed.specs.declared.typed.Typed.{Typed}
use Rattle.form_typed.specs.Formula.{formula, negation}
use Rattle.form_typed.specs.Truth.{Meaning, Truth}
use Rattle.base_budget.specs.Trace.{Funds}
use Rattle.clause_set.specs.declared.literal.Literal.{Literal}
use Rattle.clause_set.specs.Literals.{dnf_truth}
use Rattle.pri_typing.specs.declared.problem.Problem.{Problem}
use Rattle.pri_typing.specs.Problems.{IsWithoutApplication, assumed_by}
use Rattle.pri_typing.specs.WellFormed.{IsWellFormed}
use Rattle.pri_typing.proofs.Everywhere.{everywhere_more}
use Rattle.pri_printer.specs.Printed.{dnf_formula}
use Rattle.itp_sides.specs.Between.{IsStrongest, IsWeakest}
use Rattle.itp_sides.specs.Closing.{strongest_formula, weakest_formula}
use Rattle.itp_sides.specs.Sides.{Case, arithmetic, case_between, case_of, cut_of, first_itself, first_sets, first_side, other_sets, second_denied, StandsBy}
use Rattle.itp_sides.proofs.Quantifying.{strongest, weakest}
use Rattle.interpolant.specs.declared.fault.Interpolant.{Interpolant}
use Rattle.interpolant.specs.Run.{AnswersInterpolant}
use Rattle.interpolant.specs.Sides.{IsInterpolant}
use Rattle.itp_printer.specs.Replaced.{with_formula}
use Rattle.pred_interpolant.specs.declared.fault.MiddleFormula.{MiddleFormula}
use Rattle.pred_interpolant.specs.declared.fault.MiddleFormula.TheVariants.{Arithmetic, General}
use Rattle.pred_interpolant.specs.declared.fault.MiddleFault.{MiddleFault}
use Rattle.pred_interpolant.specs.declared.fault.MiddleFault.TheVariants as fault
use Rattle.pred_interpolant.specs.declared.making.Sides.{Sides}
use Rattle.pred_interpolant.specs.Fit.{IsFitFormula, fit}
use Rattle.pred_interpolant.specs.Made.{AreSides, Finds, FindsBy, FindsOr, Misses, memory}
use Rattle.pred_interpolant.specs.Middle.{IsFound, IsOfCase, Shares, first, second}
use Rattle.pred_interpolant.proofs.Choosing.{arithmetic_empty, first_within, second_within}
use Rattle.pred_interpolant.proofs.Fitting.{assumed_fit, closed_fit, denied_fit, fit_formed, formed_fit}
use Rattle.pred_interpolant.proofs.NormalForms.{dnf_shares, dnf_strongest, plain_side}
use Rattle.pred_interpolant.proofs.Sharing.{strongest_shares, weakest_shares}
use Rattle.itp_sides.specs.Closing.{own_constants}
use Rattle.form_encoding.specs.Problems.{constants}

-- a formula of a well-formed problem can stand in it
pub over_fit : (p : Problem) (f : Typed) → IsWellFormed (with_formula p f) → IsFitFormula p (formula f)
over_fit p f good =
    everywhere_more (fit (with_formula p f)) (fit p) (record {
      of_formula = λ n g h. record { predicate = h.predicate; binder = h.binder; part = h.part };
      of_term = λ n t h. record { number = h.number; name = h.name; function = h.function; sum = h.sum; product = h.product };
    }) 0 (formula f) (formed_fit (with_formula p f) good)

-- the case that the symbols of the sides give
pub case_is : (p : Problem) (cut at : ℕ) (s : Sides) (k c : Case) → AreSides p cut at s → k ≡ case_between (formula s.first) (formula s.second) → k ≡ c → case_of p (cut_of p cut) at ≡ c
case_is p cut at s k c h e is = (λ i. case_between (sym h.first i) (sym h.second i)) ∙ sym e ∙ is

pub side_fit : (p : Problem) (set : List ℕ) (f : Typed) → IsWellFormed p → formula f ≡ assumed_by p set → IsFitFormula p (formula f)
side_fit p set f good e = subst (IsFitFormula p) (sym e) (assumed_fit p set good)

pub plain_first : (p : Problem) (cut at : ℕ) → case_of p (cut_of p cut) at ≡ arithmetic → IsWithoutApplication (first_side p (cut_of p cut) at)
plain_first p cut at h = plain_side (first_side p (cut_of p cut) at) (arithmetic_empty (first p cut at) (second p cut at) h)

some_meaning : Meaning
some_meaning = record { truth = λ k xs. false; value = λ k xs. pos 0 }

-- the normal form
pub arithmetic_work : (p : Problem) (cut at : ℕ) (old new : Funds) (i : Interpolant) → case_of p (cut_of p cut) at ≡ arithmetic
    → AnswersInterpolant p (first_sets (cut_of p cut) at) (other_sets (cut_of p cut) at) old (Ok i) new → Finds p cut at old (Arithmetic i.formula) new
arithmetic_work p cut at old new i c h = subst (λ k. FindsBy p cut at k old (Arithmetic i.formula) new) (sym c) h

pub arithmetic_found : (p : Problem) (cut at : ℕ) (d : List (List Literal)) → case_of p (cut_of p cut) at ≡ arithmetic
    → ((w : Meaning) → IsInterpolant w p (first p cut at) (second p cut at) d) → ((w : Meaning) → IsStrongest w p (first p cut at) (second p cut at) (λ e. dnf_truth d e ≡ true))
    → IsFound p cut at (Arithmetic d)
arithmetic_found p cut at d c b s =
    let over = (b some_meaning).over in
    record {
      of_case = subst (IsOfCase p (first p cut at) (second p cut at) (Arithmetic d)) (sym c) tt;
      over = over;
      stands = λ w. subst (StandsBy w p (first p cut at) (second p cut at) (Truth w (dnf_formula p d))) (sym c) (dnf_strongest w p (first p cut at) (second p cut at) d over (s w));
      shares = dnf_shares some_meaning p (first p cut at) (second p cut at) d (b some_meaning);
    }

-- the first side
pub first_is : (p : Problem) (cut at : ℕ) (s : Sides) (g : Typed) → AreSides p cut at s → formula g ≡ strongest_formula p (assumed_by p s.before.items) (assumed_by p s.behind.items)
    → formula g ≡ strongest_formula p (first p cut at) (second p cut at)
first_is p cut at s g h e = e ∙ (λ i. strongest_formula p (assumed_by p (h.before i)) (assumed_by p (h.behind i)))

pub first_work : (p : Problem) (cut at : ℕ) (old new : Funds) (g : Typed) → case_of p (cut_of p cut) at ≡ first_itself → formula g ≡ strongest_formula p (first p cut at) (second p cut at) → new ≡ old
    → Finds p cut at old (General g) new
first_work p cut at old new g c e n = subst (λ k. FindsBy p cut at k old (General g) new) (sym c) (e, n)

pub first_found : (p : Problem) (cut at : ℕ) (g : Typed) → IsWellFormed p → case_of p (cut_of p cut) at ≡ first_itself → formula g ≡ strongest_formula p (first p cut at) (second p cut at)
    → IsFound p cut at (General g)
first_found p cut at g good c e =
    let f = first p cut at in
    let h = second p cut at in
    record {
      of_case = subst (IsOfCase p f h (General g)) (sym c) e;
      over = fit_formed p g good (subst (IsFitFormula p) (sym e) (closed_fit p false (own_constants (constants p) f h) f good (assumed_fit p (first_sets (cut_of p cut) at) good)));
      stands = λ w. subst (StandsBy w p f h (Truth w (formula g))) (sym c) (subst (λ z. IsStrongest w p f h (Truth w z)) (sym e) (strongest w p f h good));
      shares = subst (λ z. Shares p f z h) (sym e) (strongest_shares p f h (first_within f h c));
    }

-- the second side
pub second_is : (p : Problem) (cut at : ℕ) (s : Sides) (g : Typed) → AreSides p cut at s → formula g ≡ weakest_formula p (assumed_by p s.before.items) (assumed_by p s.behind.items)
    → formula g ≡ weakest_formula p (first p cut at) (second p cut at)
second_is p cut at s g h e = e ∙ (λ i. weakest_formula p (assumed_by p (h.before i)) (assumed_by p (h.behind i)))

pub second_work : (p : Problem) (cut at : ℕ) (old new : Funds) (g : Typed) → case_of p (cut_of p cut) at ≡ second_denied → formula g ≡ weakest_formula p (first p cut at) (second p cut at) → new ≡ old
    → Finds p cut at old (General g) new
second_work p cut at old new g c e n = subst (λ k. FindsBy p cut at k old (General g) new) (sym c) (e, n)

pub second_found : (p : Problem) (cut at : ℕ) (g : Typed) → IsWellFormed p → case_of p (cut_of p cut) at ≡ second_denied → formula g ≡ weakest_formula p (first p cut at) (second p cut at)
    → IsFound p cut at (General g)
second_found p cut at g good c e =
    let f = first p cut at in
    let h = second p cut at in
    record {
      of_case = subst (IsOfCase p f h (General g)) (sym c) e;
      over = fit_formed p g good (subst (IsFitFormula p) (sym e) (closed_fit p true (own_constants (constants p) h f) (negation h) good (denied_fit p h (assumed_fit p (other_sets (cut_of p cut) at) good))));
      stands = λ w. subst (StandsBy w p f h (Truth w (formula g))) (sym c) (subst (λ z. IsWeakest w p f h (Truth w z)) (sym e) (weakest w p f h good));
      shares = subst (λ z. Shares p f z h) (sym e) (weakest_shares p f h (second_within f h c));
    }

-- faults
pub missed : (p : Problem) (cut at : ℕ) (old new : Funds) (e : MiddleFault) (r : Result MiddleFormula MiddleFault) → IsErrAnd r (λ x. x ≡ e) → Misses p cut at old e new → FindsOr p cut at old r new
missed p cut at old new e (Ok m) h k = absurd h
missed p cut at old new e (Err x) h k = subst (λ z. Misses p cut at old z new) (sym h) k

pub missed_memory : (p : Problem) (cut at : ℕ) (old new : Funds) (r : Result MiddleFormula MiddleFault) → IsErrAnd r (λ x. x ≡ fault.Memory) → FindsOr p cut at old r new
missed_memory p cut at old new r h = missed p cut at old new fault.Memory r h (memory refl)
