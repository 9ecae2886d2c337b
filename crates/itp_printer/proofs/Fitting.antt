-- What is asked of a formula whose text is put together follows from its being that of a well-formed problem.
use Rattle.std.proofs.Common.{ℕ, ◌≡◌, ◌≤◌, ◌^◌, length, arith, length-append}
use Rattle.form_typed.specs.declared.typed.Typed.{Typed}
use Rattle.form_typed.specs.Formula.{formula, Formula, constant, compares, applies, negation, every, some, implies, iff, for_all, for_some, part}
use Rattle.pri_typing.specs.declared.problem.Problem.{Problem}
use Rattle.pri_typing.specs.WellFormed.{IsWellFormed, of_formulas}
use Rattle.pri_typing.specs.Everywhere.{Everywhere}
use Rattle.pri_typing.proofs.Everywhere.{everywhere_more}
use Rattle.pri_printer.specs.Printed.{constants_of}
use Rattle.itp_printer.specs.Numbers.{IsAbove, nesting}
use Rattle.itp_printer.specs.Pieces.{printable}
use Rattle.itp_printer.specs.Replaced.{with_formula}
use Rattle.itp_printer.proofs.Levels.{above}
use Rattle.itp_printer.proofs.Sayable.{IsShallow, IsNested, fit_with}

pub few_constants : (p : Problem) (f : Typed) → IsWellFormed (with_formula p f) → length (constants_of p) ≤ 1000
few_constants p f good = omega (arith, good.few, length-append p.existentials p.universals)

above_by : (k : ℕ) (f : Typed) → k ≡ nesting (formula f) → Everywhere (of_formulas (IsAbove k)) 0 (formula f)
above_by k f e = above k 0 (formula f) (omega (arith, e))

pub printable_by : (p : Problem) (f : Typed) (k : ℕ) → IsWellFormed (with_formula p f) → k ≡ nesting (formula f) → Everywhere (printable p k) 0 (formula f)
printable_by p f k good e = fit_with p f (IsAbove k) good (above_by k f e)

above_shallow : (k n : ℕ) (f : Formula) → k ≤ 2 ^ 64 → IsAbove k n f → IsShallow n f
above_shallow k n (constant b) l h = tt
above_shallow k n (compares r s t) l h = tt
above_shallow k n (applies q ts) l h = tt
above_shallow k n (negation f) l h = tt
above_shallow k n (every fs) l h = tt
above_shallow k n (some fs) l h = tt
above_shallow k n (implies f g) l h = tt
above_shallow k n (iff f g) l h = tt
above_shallow k n (for_all s f) l h = omega (arith, h, l)
above_shallow k n (for_some s f) l h = omega (arith, h, l)
above_shallow k n (part j f) l h = tt

pub nested_by : (k : ℕ) (f : Typed) → k ≤ 2 ^ 64 → k ≡ nesting (formula f) → IsNested (formula f)
nested_by k f l e =
    everywhere_more (of_formulas (IsAbove k)) (of_formulas IsShallow) (record { of_formula = λ n g i. above_shallow k n g l i; of_term = λ n t i. tt }) 0 (formula f) (above_by k f e)
