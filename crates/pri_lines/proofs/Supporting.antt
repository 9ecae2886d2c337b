-- What a constraint that covers the encoding of a problem says of the problem.
use Rattle.std.proofs.Common.{◌≡◌, ℕ, ℤ, true, List, [], ◌∷◌, length, refl, sym, ◌∙◌, ap, subst, arith}
use Rattle.form_typed.specs.Truth.{Meaning}
use Rattle.clause_set.specs.declared.literal.Literal.{Literal}
use Rattle.clause_set.specs.Literals.{dnf_truth}
use Rattle.form_encoding.proofs.Problems.{holds_is}
use Rattle.pri_typing.specs.declared.problem.Problem.{Problem}
use Rattle.pri_typing.specs.Problems.{Holds, IsTrueAt}
use Rattle.pri_typing.specs.WellFormed.{IsWellFormed}
use Rattle.pri_printer.specs.Printed.{dnf_formula}
use Rattle.pri_lines.specs.Constraint.{IsTextOf}
use Rattle.pri_lines.proofs.Printed.{speaks, true_where}
use Rattle.pri_lines.specs.Meaning.{CoversRoot, Supports}

pub supports : (w : Meaning) (p : Problem) (d : List (List Literal)) (vs : List ℤ) (x : List ℕ) → IsWellFormed p → CoversRoot p d vs → IsTextOf p d x → Supports w p x vs
supports w p d vs x formed c printed = record {
  constraint = dnf_formula p d;
  says = printed.says;
  alone = speaks p d c.over;
  holds = λ e t. (holds_is w p e formed t.many).0 (c.covers w e t.many ((true_where w p d e c.over t.many).0 t));
  solved = (true_where w p d vs c.over c.many).1 c.satisfies;
}

-- the formula of the constraint is true where the constraint is
pub true_there : (w : Meaning) (p : Problem) (d : List (List Literal)) (vs : List ℤ) (x : List ℕ) (formed : IsWellFormed p) (c : CoversRoot p d vs) (printed : IsTextOf p d x) (e : List ℤ) → length e ≡ length p.existentials
    → dnf_truth d e ≡ true → IsTrueAt w p (supports w p d vs x formed c printed).constraint e
unfolding supports
true_there w p d vs x formed c printed e many t = (true_where w p d e c.over many).1 t

-- and only there
pub constraint_there : (w : Meaning) (p : Problem) (d : List (List Literal)) (vs : List ℤ) (x : List ℕ) (formed : IsWellFormed p) (c : CoversRoot p d vs) (printed : IsTextOf p d x) (e : List ℤ)
    → IsTrueAt w p (supports w p d vs x formed c printed).constraint e → dnf_truth d e ≡ true
unfolding supports
constraint_there w p d vs x formed c printed e t = (true_where w p d e c.over t.many).0 t

no_values : (vs : List ℤ) → length vs ≡ 0 → vs ≡ []
no_values [] e = refl
no_values (v ∷ vs) e = absurd (omega (arith, e))

-- without existential constants the problem holds
pub closed_holds : (w : Meaning) (p : Problem) (d : List (List Literal)) (vs : List ℤ) → IsWellFormed p → CoversRoot p d vs → p.existentials ≡ [] → Holds w p []
closed_holds w p d vs formed c none =
    let empty : vs ≡ [] = no_values vs (c.many ∙ ap length none) in
    let many : 0 ≡ length p.existentials = sym (ap length none) in
    (holds_is w p [] formed many).0 (c.covers w [] many (subst (λ v. dnf_truth d v ≡ true) empty c.satisfies))
