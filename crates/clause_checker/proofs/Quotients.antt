-- Quotients of terms in normal form are in normal form (as in clause_set, which is not built for this crate).
use Rattle.std.proofs.Common.{◌≡◌, ◌≢◌, ◌<◌, ◌≤◌, ◌+◌, ◌/◌, ◌^◌, ℕ, ℤ, pos, negsuc, ◌*ℤ◌, ◌<ℤ◌, int_le, unsigned_abs, true, false, cond, List, [], ◌∷◌, refl, sym, ◌∙◌, ap, subst, arith}
use Rattle.std.specs.Prelude.{All}
use Rattle.std.proofs.Common.{to_z, of_z, to_z-of_z}
use mir.Syntax.{w128}
use mir.Val.{SFits}
use Rattle.std.specs.Int.{int_div_euclid}
use Rattle.std.specs.Ordering.{int_eq}
use Rattle.std.specs.List.{AllByRecursion}
use Rattle.std.proofs.lemmas.Int.{ints}
use Rattle.std.proofs.Math.Nat.{div-le_self}
use Rattle.std.proofs.lemmas.List.Elements.{All-from_recursion, recursion_from_All, All-weaker}
use Rattle.base_integers.specs.Divides.{Divides, divides}
use Rattle.linear_term.specs.Linear.{Linear, IsRisingFrom, IsCoefficient, IsNormal}
use Rattle.linear_term.specs.Range.{InRange}
use Rattle.formula.specs.Form.{Form, conjunction, disjunction}
use Rattle.formula.specs.Tree.{forms_of}
use Rattle.formula.specs.declared.calculus.Core.{Core}
use Rattle.clause_proof.specs.Clauses.{closure}
use Rattle.clause_proof.specs.Atoms.{Signed, plain, literal_by, known, gcd_with, positive_one, content, divided, quotient, leads_negative, turned_inequality, inequality_by, inequality_literal, turned_equation, equation_by, equation_literal}
use Rattle.clause_proof.proofs.Contents.{quotient_exact, content_positive, content_divides}

pub in_range-coefficients : (t : Linear) → IsNormal t → All (λ p. InRange p.1) t.pairs
in_range-coefficients t n = All-weaker (λ p. IsCoefficient p.1) (λ p. InRange p.1) (λ p h. h.in_range) t.pairs n.coefficients

pub content_above : (ps : List (ℕ × ℤ)) (r : ℤ) → r ≡ content ps → pos 0 <ℤ r
content_above ps r is = subst (λ z. pos 0 <ℤ z) (sym is) (content_positive ps)

pub content_all : (ps : List (ℕ × ℤ)) (r : ℤ) → r ≡ content ps → All (λ p. Divides r p.1) ps
content_all ps r is = subst (λ z. All (λ p. Divides z p.1) ps) (sym is) (All-from_recursion (λ p. Divides (content ps) p.1) ps (content_divides ps))

pub ruleset contents = (in_range-coefficients, content_above, content_all)

pub div_in_range : (a g : ℤ) → pos 0 <ℤ g → InRange a → InRange (int_div_euclid a g)
div_in_range (pos a) (pos g) h r = let s : a / g ≤ a = div-le_self a g in omega (arith, ints)
div_in_range (negsuc a) (pos g) h r = let s : a / g ≤ a = div-le_self a g in omega (arith, ints)
div_in_range a (negsuc g) h r = absurd (omega (arith, ints))

quotient_not_zero : (a g : ℤ) → pos 0 <ℤ g → Divides g a → a ≢ pos 0 → int_div_euclid a g ≢ pos 0
quotient_not_zero a g h d n z = n (quotient_exact g a h d ∙ ap (λ q. q *ℤ g) z ∙ omega (arith, ints))

divided-rises : (g : ℤ) (n : ℕ) (ps : List (ℕ × ℤ)) → IsRisingFrom n ps → IsRisingFrom n (divided g ps)
divided-rises g n [] h = tt
divided-rises g n (p ∷ ps) h = (h.0, divided-rises g (p.0 + 1) ps h.1)

divided-coefficients : (g : ℤ) (ps : List (ℕ × ℤ)) → pos 0 <ℤ g → AllByRecursion (λ p. Divides g p.1) ps → AllByRecursion (λ p. IsCoefficient p.1) ps
    → AllByRecursion (λ p. IsCoefficient p.1) (divided g ps)
divided-coefficients g [] h d c = tt
divided-coefficients g (p ∷ ps) h d c =
    (record { in_range = div_in_range p.1 g h c.0.in_range; not_zero = quotient_not_zero p.1 g h d.0 c.0.not_zero }, divided-coefficients g ps h d.1 c.1)

divided-names : (g : ℤ) (ps : List (ℕ × ℤ)) → AllByRecursion (λ p. p.0 < 2 ^ 32) ps → AllByRecursion (λ p. p.0 < 2 ^ 32) (divided g ps)
divided-names g [] h = tt
divided-names g (p ∷ ps) h = (h.0, divided-names g ps h.1)

pub normal-quotient : (g : ℤ) (t : Linear) → pos 0 <ℤ g → All (λ p. Divides g p.1) t.pairs → IsNormal t → IsNormal (quotient g t)
normal-quotient g t h d n = record {
  rising = divided-rises g 0 t.pairs n.rising;
  coefficients = All-from_recursion (λ p. IsCoefficient p.1) (divided g t.pairs)
      (divided-coefficients g t.pairs h (recursion_from_All _ t.pairs d) (recursion_from_All _ t.pairs n.coefficients));
  names = All-from_recursion (λ p. p.0 < 2 ^ 32) (divided g t.pairs) (divided-names g t.pairs (recursion_from_All _ t.pairs n.names));
  constant = div_in_range t.constant g h n.constant;
}

-- a term in normal form, of pairs and of a constant that was passed by value
pub passed : (t : Linear) (ps : List (ℕ × ℤ)) (k : ℤ) → IsNormal t → ps ≡ t.pairs → k ≡ t.constant → SFits w128 k → IsNormal (record { pairs = ps; constant = to_z w128 (of_z w128 k) })
passed t ps k n same e fits =
    subst (λ z. IsNormal (record { pairs = ps; constant = z })) (sym (to_z-of_z fits ∙ e)) (subst (λ z. IsNormal (record { pairs = z; constant = t.constant })) (sym same) n)

-- ---- division by 1
by_one : (a : ℤ) → int_div_euclid a (pos 1) ≡ a
by_one a = sym (quotient_exact (pos 1) a (omega (arith, ints)) (record { quotient = a; is = omega (arith, ints) }) ∙ omega (arith, ints))

divided-one : (ps : List (ℕ × ℤ)) → divided (pos 1) ps ≡ ps
divided-one [] = refl
divided-one (p ∷ ps) = ap (λ k. (p.0, k) ∷ divided (pos 1) ps) (by_one p.1) ∙ ap (λ z. p ∷ z) (divided-one ps)

quotient-one : (t : Linear) → quotient (pos 1) t ≡ t
quotient-one t = λ i. record { pairs = divided-one t.pairs i; constant = by_one t.constant i }

pub quotient_by_one : (g : ℤ) (t s : Linear) → g ≡ pos 1 → s ≡ t → s ≡ quotient g t
quotient_by_one g t s one is = is ∙ sym (ap (λ k. quotient k t) one ∙ quotient-one t)

pub ruleset ones = (quotient_by_one, in_range-coefficients)

-- ---- by the first coefficient
pub leads_none : (ps : List (ℕ × ℤ)) → ps ≡ [] → false ≡ leads_negative ps
leads_none ps is = sym (ap leads_negative is)

pub ruleset leading = (leads_none)

-- ---- with and without coefficients
pub inequality_none : (t : Linear) → t.pairs ≡ [] → inequality_literal t ≡ known (int_le (pos 0) t.constant)
inequality_none t is = ap (inequality_by t) is

inequality_some_at : (t : Linear) (ps : List (ℕ × ℤ)) → ps ≢ [] → inequality_by t ps ≡ turned_inequality (quotient (content t.pairs) t)
inequality_some_at t [] n = absurd (n refl)
inequality_some_at t (p ∷ ps) n = refl

pub inequality_some : (t : Linear) → t.pairs ≢ [] → inequality_literal t ≡ turned_inequality (quotient (content t.pairs) t)
inequality_some t n = inequality_some_at t t.pairs n

pub equation_none : (t : Linear) → t.pairs ≡ [] → equation_literal t ≡ known (int_eq t.constant (pos 0))
equation_none t is = ap (equation_by t) is

equation_some_at : (t : Linear) (ps : List (ℕ × ℤ)) → ps ≢ [] → equation_by t ps ≡ cond (divides (unsigned_abs (content t.pairs)) t.constant) (turned_equation (quotient (content t.pairs) t)) (known false)
equation_some_at t [] n = absurd (n refl)
equation_some_at t (p ∷ ps) n = refl

pub equation_some : (t : Linear) → t.pairs ≢ [] → equation_literal t ≡ cond (divides (unsigned_abs (content t.pairs)) t.constant) (turned_equation (quotient (content t.pairs) t)) (known false)
equation_some t n = equation_some_at t t.pairs n

pub ruleset kinds = (inequality_none, inequality_some, equation_none, equation_some)

pub content_passed : (t : Linear) (ps : List (ℕ × ℤ)) (g r : ℤ) → ps ≡ t.pairs → g ≡ gcd_with (pos 0) ps → r ≡ positive_one g → SFits w128 r → All (λ p. Divides (to_z w128 (of_z w128 r)) p.1) t.pairs
content_passed t ps g r same is one fits = content_all t.pairs (to_z w128 (of_z w128 r)) (to_z-of_z fits ∙ one ∙ ap positive_one (is ∙ ap (gcd_with (pos 0)) same))

-- ---- conjunctions and disjunctions with and without members
all_none_at : (fs : List Core) (ts : List Linear) → fs ≡ [] → known true ≡ literal_by (conjunction (forms_of fs)) ts
all_none_at fs ts is = sym (ap (λ l. literal_by (conjunction (forms_of l)) ts) is)

all_some_at : (fs : List Core) (ts : List Linear) → fs ≢ [] → plain (closure (conjunction (forms_of fs)) ts) ≡ literal_by (conjunction (forms_of fs)) ts
all_some_at [] ts n = absurd (n refl)
all_some_at (f ∷ fs) ts n = refl

pub all_none : (fs : List Core) (ts : List Linear) (x : Signed) → fs ≡ [] → x ≡ known true → x ≡ literal_by (conjunction (forms_of fs)) ts
all_none fs ts x is h = h ∙ all_none_at fs ts is

pub all_some : (g : Form) (fs : List Core) (ts : List Linear) (x : Signed) → g ≡ conjunction (forms_of fs) → fs ≢ [] → x ≡ plain (closure g ts) → x ≡ literal_by (conjunction (forms_of fs)) ts
all_some g fs ts x same n h = h ∙ ap (λ k. plain (closure k ts)) same ∙ all_some_at fs ts n

any_none_at : (fs : List Core) (ts : List Linear) → fs ≡ [] → known false ≡ literal_by (disjunction (forms_of fs)) ts
any_none_at fs ts is = sym (ap (λ l. literal_by (disjunction (forms_of l)) ts) is)

any_some_at : (fs : List Core) (ts : List Linear) → fs ≢ [] → plain (closure (disjunction (forms_of fs)) ts) ≡ literal_by (disjunction (forms_of fs)) ts
any_some_at [] ts n = absurd (n refl)
any_some_at (f ∷ fs) ts n = refl

pub any_none : (fs : List Core) (ts : List Linear) (x : Signed) → fs ≡ [] → x ≡ known false → x ≡ literal_by (disjunction (forms_of fs)) ts
any_none fs ts x is h = h ∙ any_none_at fs ts is

pub any_some : (g : Form) (fs : List Core) (ts : List Linear) (x : Signed) → g ≡ disjunction (forms_of fs) → fs ≢ [] → x ≡ plain (closure g ts) → x ≡ literal_by (disjunction (forms_of fs)) ts
any_some g fs ts x same n h = h ∙ ap (λ k. plain (closure k ts)) same ∙ any_some_at fs ts n

pub ruleset members = (all_none, all_some, any_none, any_some)
