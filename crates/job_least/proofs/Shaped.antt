-- The constraint that elimination makes is in form: the search for a least value takes it as it is.
use Rattle.std.proofs.Common.{◌≢◌, ◌<◌, ℕ, zero, suc, ◌+◌, ℤ, pos, negsuc, Bool, true, false, List, [], ◌∷◌, arith}
use Rattle.std.specs.Prelude.{All}
use Rattle.std.specs.List.{AllByRecursion}
use Rattle.std.proofs.lemmas.List.Elements.{All-from_recursion}
use Rattle.linear_term.specs.Linear as linear
use Rattle.linear_term.specs.Linear.{Linear, IsReduced}
use Rattle.linear_term.proofs.Names.{reduced-combination}
use Rattle.base_budget.specs.Trace.{Traced, just, step, next}
use Rattle.clause_set.specs.declared.literal.Literal.{Literal}
use Rattle.clause_set.specs.declared.literal.Literal.TheVariants.{Eq, Geq}
use Rattle.clause_set.specs.Dnfs.{conjunction, disjunction, negated_literal, negation, tidied, top}
use Rattle.clause_set.specs.Kept.{AreFormed}
use Rattle.clause_set.specs.Literals.{IsLiteral, AreLiterals}
use Rattle.clause_set.specs.Clauses.{clauses_of}
use Rattle.clause_set.specs.Primitive.{IsShaped}
use Rattle.clause_set.proofs.Kept.{Denies, Each, conjunction-kept, disjunction-kept, each_from, negation-kept, tidied-kept}
use Rattle.clause_set.proofs.Negations.{alone, less, more, less_is, more_is}
use Rattle.clause_set.proofs.Primitive.{IsNormalLiteral, normal-keeps}
use Rattle.clause_set.proofs.Shapes.{clauses_of-formed, clauses-shaped, conjunction-formed, disjunction-formed, formed-denies, negation-formed, shaped, tidied-formed}
use Rattle.elim_rule_laws.proofs.EquationLists.{kept-weaker}
use Rattle.formula.specs.Form as tree
use Rattle.formula.specs.Form.{Form, Forms}
use Rattle.formula.specs.Duals.{dual}
use Rattle.formula.specs.Sizes.{depth, depths}
use Rattle.elim_laws.specs.Elimination.{exists_name}
use Rattle.elim_laws.specs.Presburger.{IsPresburger, ArePresburger}
use Rattle.elim_laws.specs.Whole.{all_of, any_of, eliminated, eliminating}
use Rattle.elim_laws.proofs.Duals.{dual-depth, dual-proper}
use Rattle.elim_laws.proofs.Forms.{formed-literals, negated_literal-formed, top-formed}
use Rattle.elim_laws.proofs.Taking.{exists_name-out}
use Rattle.solve_laws.proofs.Outs.{exists_name-shaped}
use Rattle.form_typed.specs.Formula.{Expression, Expressions, number, name, call, minus, total, product, choice, absolute, lesser, greater, no_expression, and_expression}
use Rattle.pri_typing.specs.WellFormed.{is_numeric}
use Rattle.form_encoding.specs.Encoding.{named, multiple, product_of}
use Rattle.form_encoding.specs.Plain.{IsPlain, ArePlain, linear_of, linear_sum, linear_more}

-- ---- a disjunction of clauses in form
pub record IsInForm (d : List (List Literal)) : Type 0 where
  pub formed : AreFormed d
  pub shaped : AllByRecursion (All IsShaped) d

normals_shaped : (d : List (List Literal)) → Each IsNormalLiteral d → AllByRecursion (All IsShaped) d
normals_shaped d h = kept-weaker (AllByRecursion IsNormalLiteral) (All IsShaped) (λ c k. All-from_recursion IsShaped c (kept-weaker IsNormalLiteral IsShaped shaped c k)) d h

clauses_form : (cs : List (List Literal)) → AreLiterals cs → IsInForm (clauses_of cs)
clauses_form cs h = record { formed = clauses_of-formed cs h; shaped = clauses-shaped cs h }

sides_form : (t : Linear) → IsReduced t → IsInForm (tidied (negated_literal (Eq t)).value)
unfolding next just step
sides_form t h = record {
  formed = tidied-formed (negated_literal (Eq t)).value (negated_literal-formed (Eq t) (record { term = h; divisor = tt }));
  shaped = tidied-kept (All IsShaped) (negated_literal (Eq t)).value (clauses-shaped ((Geq (less t) ∷ []) ∷ (Geq (more t) ∷ []) ∷ []) (alone _ (less_is t h), (alone _ (more_is t h), tt)));
}

and_form : (a b : List (List Literal)) → IsInForm a → IsInForm b → IsInForm (conjunction a b).value
and_form a b h k =
    let p = formed-literals a h.formed in
    let q = formed-literals b k.formed in
    record {
      formed = conjunction-formed a b p q;
      shaped = normals_shaped (conjunction a b).value (conjunction-kept IsLiteral IsNormalLiteral normal-keeps a b (each_from IsLiteral a p) (each_from IsLiteral b q));
    }

or_form : (a b : List (List Literal)) → IsInForm a → IsInForm b → IsInForm (disjunction a b).value
or_form a b h k = record { formed = disjunction-formed a b h.formed k.formed; shaped = disjunction-kept (All IsShaped) a b h.shaped k.shaped }

normal-denies : Denies IsLiteral IsNormalLiteral
normal-denies = record {
  keeps = normal-keeps;
  back = λ l h. h.formed.literal;
  below = formed-denies.below;
  above = formed-denies.above;
  bound = formed-denies.bound;
  divided = formed-denies.divided;
  undivided = formed-denies.undivided;
}

negation_form : (d : List (List Literal)) → IsInForm d → IsInForm (negation d).value
negation_form d h =
    let p = formed-literals d h.formed in
    record {
      formed = negation-formed d p;
      shaped = normals_shaped (negation d).value (negation-kept IsLiteral IsNormalLiteral normal-denies d (each_from IsLiteral d p));
    }

exists_form : (n : ℕ) (d : List (List Literal)) → IsInForm d → IsInForm (exists_name n d).value
exists_form n d h = record { formed = (exists_name-out n d h.formed).formed; shaped = exists_name-shaped n d h.formed h.shaped }

-- ---- formulas
abbrev EachInForm : (Form → Traced (List (List Literal))) → Forms → Type 0
EachInForm f tree.no_form = Unit {0}
EachInForm f (tree.and_form g gs) = IsInForm (f g).value × EachInForm f gs

each_form : (m : ℕ) (f : Form → Traced (List (List Literal))) → ((g : Form) → depth g < m → IsPresburger g → IsInForm (f g).value) → (gs : Forms) → depths gs < m → ArePresburger gs → EachInForm f gs
each_form m f h tree.no_form lt p = tt
each_form m f h (tree.and_form g gs) lt p = (h g (omega (arith, lt)) p.0, each_form m f h gs (omega (arith, lt)) p.1)

all_form : (f : Form → Traced (List (List Literal))) (gs : Forms) (d : List (List Literal)) → EachInForm f gs → IsInForm d → IsInForm (all_of f gs d).value
unfolding next just
all_form f tree.no_form d h k = k
all_form f (tree.and_form g gs) d h k = all_form f gs (conjunction d (f g).value).value h.1 (and_form d (f g).value k h.0)

any_form : (f : Form → Traced (List (List Literal))) (gs : Forms) (d : List (List Literal)) → EachInForm f gs → IsInForm d → IsInForm (any_of f gs d).value
unfolding next just
any_form f tree.no_form d h k = k
any_form f (tree.and_form g gs) d h k = any_form f gs (disjunction d (f g).value).value h.1 (or_form d (f g).value k h.0)

top_form : IsInForm top
top_form = record { formed = top-formed; shaped = (All-from_recursion IsShaped [] tt, tt) }

eliminated_form : (m n : ℕ) (f : Form) → depth f < m → IsPresburger f → IsInForm (eliminated m n f).value
unfolding next just step
eliminated_form zero n f lt p = absurd (omega (arith, lt))
eliminated_form (suc m) n (tree.equal t) lt p = clauses_form ((Eq t ∷ []) ∷ []) (alone (Eq t) (record { term = p; divisor = tt }), tt)
eliminated_form (suc m) n (tree.at_least t) lt p = clauses_form ((Geq t ∷ []) ∷ []) (alone (Geq t) (record { term = p; divisor = tt }), tt)
eliminated_form (suc m) n (tree.unequal t) lt p = sides_form t p
eliminated_form (suc m) n (tree.holds q ts) lt p = absurd p
eliminated_form (suc m) n (tree.fails q ts) lt p = absurd p
eliminated_form (suc m) n (tree.differs q ts u) lt p = absurd p
eliminated_form (suc m) n (tree.conjunction fs) lt p = all_form (eliminated m n) fs top (each_form m (eliminated m n) (eliminated_form m n) fs (omega (arith, lt)) p) top_form
eliminated_form (suc m) n (tree.disjunction fs) lt p = any_form (eliminated m n) fs [] (each_form m (eliminated m n) (eliminated_form m n) fs (omega (arith, lt)) p) (record { formed = tt; shaped = tt })
eliminated_form (suc m) n (tree.existential f) lt p = exists_form n (eliminated m (suc n) f).value (eliminated_form m (suc n) f (omega (arith, lt)) p)
eliminated_form (suc m) n (tree.universal f) lt p =
    let same = dual-depth f in
    let deeper : depth (dual f).value < m = omega (arith, lt, same) in
    let d = (eliminated m (suc n) (dual f).value).value in
    negation_form (exists_name n d).value (exists_form n d (eliminated_form m (suc n) (dual f).value deeper (dual-proper f p)))

pub eliminating_form : (n : ℕ) (f : Form) → IsPresburger f → IsInForm (eliminating n f).value
unfolding eliminating
eliminating_form n f p = eliminated_form (suc (depth f)) n f (omega arith) p

-- ---- the linear term that a plain term is has rising names and no coefficient 0
number_reduced : (v : ℤ) → IsReduced (linear.number v)
number_reduced v = record { rising = tt; not_zero = All-from_recursion (λ p. p.1 ≢ pos 0) [] tt }

above_none : (x : ℕ) → 0 < x + 1
above_none x = omega arith

name_reduced : (x : ℕ) → IsReduced (linear.name x)
name_reduced x = record { rising = (above_none x, tt); not_zero = All-from_recursion (λ p. p.1 ≢ pos 0) ((x, pos 1) ∷ []) ((λ e. cc), tt) }

named_reduced : (at : List ℕ) (x : ℕ) → IsReduced (named at x)
named_reduced [] x = number_reduced (pos 0)
named_reduced (y ∷ ys) zero = name_reduced y
named_reduced (y ∷ ys) (suc x) = named_reduced ys x

multiple_reduced : (k : ℤ) (t : Linear) → IsReduced t → IsReduced (multiple k t).value
unfolding step
multiple_reduced k t h = reduced-combination k (pos 0) t (linear.number (pos 0)) h (number_reduced (pos 0))

product_reduced : (left : Bool) (s t : Linear) → IsReduced s → IsReduced t → IsReduced (product_of left s t).value
product_reduced true s t h k = multiple_reduced s.constant t k
product_reduced false s t h k = multiple_reduced t.constant s h

mutual
  unfolding next just step

  pub reduced_of : (t : Expression) (at : List ℕ) → IsPlain t → IsReduced (linear_of at t).value
  reduced_of (number v) at p = number_reduced v
  reduced_of (name x) at p = named_reduced at x
  reduced_of (call f ts) at p = absurd p
  reduced_of (minus t) at p = multiple_reduced (negsuc 0) (linear_of at t).value (reduced_of t at p)
  reduced_of (total ts) at p = reduced_sum ts at p
  reduced_of (product s t) at p = product_reduced (is_numeric s) (linear_of at s).value (linear_of at t).value (reduced_of s at p.0) (reduced_of t at p.1)
  reduced_of (choice f s t) at p = absurd p
  reduced_of (absolute t) at p = absurd p
  reduced_of (lesser s t) at p = absurd p
  reduced_of (greater s t) at p = absurd p

  reduced_sum : (ts : Expressions) (at : List ℕ) → ArePlain ts → IsReduced (linear_sum at ts).value
  reduced_sum no_expression at p = number_reduced (pos 0)
  reduced_sum (and_expression t ts) at p = reduced_more ts at (linear_of at t).value p.1 (reduced_of t at p.0)

  reduced_more : (ts : Expressions) (at : List ℕ) (s : Linear) → ArePlain ts → IsReduced s → IsReduced (linear_more at ts s).value
  reduced_more no_expression at s p h = h
  reduced_more (and_expression (minus t) ts) at s p h = reduced_more ts at _ p.1 (reduced-combination (pos 1) (negsuc 0) s (linear_of at t).value h (reduced_of t at p.0))
  reduced_more (and_expression t ts) at s p h = reduced_more ts at _ p.1 (reduced-combination (pos 1) (pos 1) s (linear_of at t).value h (reduced_of t at p.0))
