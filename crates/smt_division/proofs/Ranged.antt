-- The numerals that are made are in the range of coefficients.
use Rattle.std.proofs.Common.{ℕ, ◌≡◌, ◌<◌, ◌-◌, ◌^◌, Bool, true, false, List, [], ◌∷◌, ◌++◌, map, refl, sym, ap, subst, ◌∙◌, Option, Some, None, if◌then◌else◌, ℤ, pos, arith, rules, nat_lt, ◌&&◌}
use Rattle.std.specs.Prelude.{unwrap_or, unsigned_abs, codes, nat_eq, option_and_then}
use Rattle.linear_term.specs.Range.{InRange, is_in_range}
use Rattle.smt_lists.specs.declared.tree.AtomKind.TheVariants as k
use Rattle.smt_lists.specs.Expressions.{Expr, Exprs, atom, list, no_expr, and_expr, exprs, place_of}
use Rattle.smt_division.specs.declared.forms.Form.{Form}
use Rattle.smt_division.specs.declared.forms.Form.TheVariants as form
use Rattle.smt_division.specs.Made.{symbol, number, use_of, quotient, variable, multiple, condition}
use Rattle.smt_division.specs.Divisors.{below, folded, greatest_remainder}
use Rattle.smt_division.specs.Forms.{bind_operators, form_of, index_of, index_in, is_word, is_positive}
use Rattle.smt_division.specs.Terms.{Reduct, Reducts, whole, nothing, together, quantified, closing, closed, used, let_around, in_let, bound, noted, divided, divided_by, divided_on, divided_all, divided_some, remainder, remainder_by, divisible, divisible_by, reduct, reducts, closed_all, let_reduct, bound_reducts, bound_reduct, quantified_reduct, note_reduct, quotient_reduct, remainder_reduct, indexed_reduct, choice_reduct}
use Rattle.smt_division.proofs.Shapes.{by_form, formed}
use Rattle.smt_shorthand.specs.Ranged.{IsRangedExpr, AreRangedExprs}

-- each of some expressions
abbrev pub AreRanged : List Expr → Type 0
AreRanged [] = Unit {0}
AreRanged (e ∷ es) = IsRangedExpr e × AreRanged es

pub record IsRangedReduct (p : Reduct) : Type 0 where
  pub term : IsRangedExpr p.term
  pub variables : AreRanged p.variables
  pub conditions : AreRanged p.conditions

pub record AreRangedReducts (p : Reducts) : Type 0 where
  pub terms : AreRanged p.terms
  pub variables : AreRanged p.variables
  pub conditions : AreRanged p.conditions

ranged-append : (es fs : List Expr) → AreRanged es → AreRanged fs → AreRanged (es ++ fs)
ranged-append [] fs a b = b
ranged-append (e ∷ es) fs a b = (a.0, ranged-append es fs a.1 b)

ranged-push : (es : List Expr) (e : Expr) → AreRanged es → IsRangedExpr e → AreRanged (es ++ e ∷ [])
ranged-push es e a b = ranged-append es (e ∷ []) a (b, tt)

-- a list of ranged expressions
pub ranged-exprs : (es : List Expr) → AreRanged es → AreRangedExprs (exprs es)
ranged-exprs [] a = tt
ranged-exprs (e ∷ es) a = (a.0, ranged-exprs es a.1)

ranged-use : (at : ℕ) (x : List ℕ) (es : List Expr) → AreRanged es → IsRangedExpr (use_of at x es)
ranged-use at x es a = (tt, ranged-exprs es a)

ranged-variable : (at : ℕ) (n : Expr) → IsRangedExpr (variable at n)
ranged-variable at n = (tt, (tt, tt))

ranged-multiple : (at : ℕ) (n : Expr) → IsRangedExpr n → IsRangedExpr (multiple at n)
ranged-multiple at n a = (tt, (a, (tt, tt)))

ranged-condition : (at : ℕ) (t n : Expr) (r : ℤ) → IsRangedExpr t → IsRangedExpr n → InRange r → IsRangedExpr (condition at t n r)
ranged-condition at t n r a b c =
    ranged-use at (codes "<=") (multiple at n ∷ t ∷ use_of at (codes "+") (multiple at n ∷ number at r ∷ []) ∷ [])
    (ranged-multiple at n b, (a, (ranged-use at (codes "+") (multiple at n ∷ number at r ∷ []) (ranged-multiple at n b, (c, tt)), tt)))

ranged-closing : (at : ℕ) (t : Expr) (xs cs : List Expr) → IsRangedExpr t → AreRanged xs → AreRanged cs → IsRangedExpr (closing at t xs cs)
ranged-closing at t [] cs a b c = a
ranged-closing at t (x ∷ xs) cs a b c =
    ranged-use at (codes "exists") (list at (exprs (x ∷ xs)) ∷ use_of at (codes "and") (cs ++ t ∷ []) ∷ [])
    (ranged-exprs (x ∷ xs) b, (ranged-use at (codes "and") (cs ++ t ∷ []) (ranged-push cs t c a), tt))

pub ranged-closed : (at : ℕ) (p : Reduct) → IsRangedReduct p → IsRangedExpr (closed at p)
ranged-closed at p a = ranged-closing at p.term p.variables p.conditions a.term a.variables a.conditions

ranged-whole : (e : Expr) → IsRangedExpr e → IsRangedReduct (whole e)
ranged-whole e a = record { term = a; variables = tt; conditions = tt }

ranged-together : (p : Reduct) (ps : Reducts) → IsRangedReduct p → AreRangedReducts ps → AreRangedReducts (together p ps)
ranged-together p ps a b = record {
  terms = (a.term, b.terms);
  variables = ranged-append p.variables ps.variables a.variables b.variables;
  conditions = ranged-append p.conditions ps.conditions a.conditions b.conditions;
}

ranged-used : (at : ℕ) (h : Expr) (ps : Reducts) → IsRangedExpr h → AreRangedReducts ps → IsRangedReduct (used at h ps)
ranged-used at h ps a b = record { term = (a, ranged-exprs ps.terms b.terms); variables = b.variables; conditions = b.conditions }

-- the greatest remainder by a divisor is in the range
below-ranged : (v r : ℤ) (w u : Bool) → is_in_range v ≡ u → (if w then None else (if u then Some (pos (unsigned_abs v - 1)) else None)) ≡ Some r → InRange r
below-ranged v r true u k e = absurd (cc)
below-ranged v r false true k e =
    let is : pos (unsigned_abs v - 1) ≡ r = cc in
    let small : unsigned_abs v < 2 ^ 127 = search (rules, k) in
    subst InRange is (omega arith)
below-ranged v r false false k e = absurd (cc)

remainder-by : (o : Option ℤ) (r : ℤ) → option_and_then below o ≡ Some r → InRange r
remainder-by None r e = absurd (cc)
remainder-by (Some v) r e = below-ranged v r (nat_eq (unsigned_abs v) 0) (is_in_range v) refl e

ranged-remainder : (n : Expr) (r : ℤ) → greatest_remainder n ≡ Some r → InRange r
ranged-remainder n r e = remainder-by (folded n) r e

ranged-divided : (at : ℕ) (p : Reduct) (n : Expr) (r : ℤ) → IsRangedReduct p → IsRangedExpr n → InRange r → IsRangedReduct (divided at p n r)
ranged-divided at p n r a b c = record {
  term = tt;
  variables = ranged-push p.variables (variable at n) a.variables (ranged-variable at n);
  conditions = ranged-push p.conditions (condition at p.term n r) a.conditions (ranged-condition at p.term n r a.term b c);
}

-- what is some term is ranged
abbrev IsRangedOption : Option Reduct → Type 0
IsRangedOption None = Unit {0}
IsRangedOption (Some p) = IsRangedReduct p

ranged-divided_by : (at : ℕ) (p : Reduct) (n : Expr) (o : Option ℤ) → greatest_remainder n ≡ o → IsRangedReduct p → IsRangedExpr n → IsRangedOption (divided_by at p n o)
ranged-divided_by at p n None e a b = tt
ranged-divided_by at p n (Some r) e a b = ranged-divided at p n r a b (ranged-remainder n r e)

ranged-on : (at : ℕ) (ns : Exprs) (go : Reduct → Option Reduct) (o : Option Reduct) → IsRangedOption o → ((p : Reduct) → IsRangedReduct p → IsRangedOption (go p)) → IsRangedOption (divided_on at ns go o)
ranged-on at ns go None a f = tt
ranged-on at ns go (Some p) a f = f p a

ranged-divided_all : (at : ℕ) (ns : Exprs) (p : Reduct) → AreRangedExprs ns → IsRangedReduct p → IsRangedOption (divided_all at ns p)
ranged-divided_all at no_expr p a b = b
ranged-divided_all at (and_expr n ns) p a b =
    ranged-on at ns (divided_all at ns) (divided_by at p n (greatest_remainder n)) (ranged-divided_by at p n (greatest_remainder n) refl b a.0)
    (λ q c. ranged-divided_all at ns q a.1 c)

ranged-divided_some : (at : ℕ) (ns : Exprs) (p : Reduct) → AreRangedExprs ns → IsRangedReduct p → IsRangedOption (divided_some at ns p)
ranged-divided_some at no_expr p a b = tt
ranged-divided_some at (and_expr n ns) p a b = ranged-divided_all at (and_expr n ns) p a b

ranged-or : (o : Option Reduct) (e : Reduct) → IsRangedOption o → IsRangedReduct e → IsRangedReduct (unwrap_or o e)
ranged-or None e a b = b
ranged-or (Some p) e a b = a

ranged-remainder_by : (at : ℕ) (e p : Reduct) (n : Expr) (o : Option ℤ) → greatest_remainder n ≡ o → IsRangedReduct e → IsRangedReduct p → IsRangedExpr n → IsRangedReduct (remainder_by at e p n o)
ranged-remainder_by at e p n None k a b c = a
ranged-remainder_by at e p n (Some r) k a b c = record {
  term = ranged-use at (codes "-") (p.term ∷ multiple at n ∷ []) (b.term, (ranged-multiple at n c, tt));
  variables = ranged-push p.variables (variable at n) b.variables (ranged-variable at n);
  conditions = ranged-push p.conditions (condition at p.term n r) b.conditions (ranged-condition at p.term n r b.term c (ranged-remainder n r k));
}

abbrev IsRangedSome : Option Expr → Type 0
IsRangedSome None = Unit {0}
IsRangedSome (Some n) = IsRangedExpr n

index-if : (w : Bool) (n : Expr) → IsRangedExpr n → IsRangedSome (if w then Some n else None)
index-if true n a = a
index-if false n a = tt

ranged-index_in : (es : Exprs) → AreRangedExprs es → IsRangedSome (index_in es)
ranged-index_in no_expr a = tt
ranged-index_in (and_expr u no_expr) a = tt
ranged-index_in (and_expr u (and_expr d no_expr)) a = tt
ranged-index_in (and_expr u (and_expr d (and_expr n no_expr))) a = index-if (is_word (codes "_") u && is_word (codes "divisible") d && is_positive n) n a.1.1.0
ranged-index_in (and_expr u (and_expr d (and_expr n (and_expr m ms)))) a = tt

ranged-index : (h : Expr) → IsRangedExpr h → IsRangedSome (index_of h)
ranged-index (atom x) a = tt
ranged-index (list at es) a = ranged-index_in es a

ranged-divisible : (at : ℕ) (e p : Reduct) (o : Option Expr) → IsRangedReduct e → IsRangedReduct p → IsRangedSome o → IsRangedReduct (divisible_by at e p o)
ranged-divisible at e p None a b c = a
ranged-divisible at e p (Some n) a b c =
    ranged-whole (closing at (use_of at (codes "=") (p.term ∷ multiple at n ∷ [])) (p.variables ++ variable at n ∷ []) p.conditions)
    (ranged-closing at (use_of at (codes "=") (p.term ∷ multiple at n ∷ [])) (p.variables ++ variable at n ∷ []) p.conditions
    (ranged-use at (codes "=") (p.term ∷ multiple at n ∷ []) (b.term, (ranged-multiple at n c, tt)))
    (ranged-push p.variables (variable at n) b.variables (ranged-variable at n)) b.conditions)

ranged-in_let : (at : ℕ) (h : Expr) (b : ℕ) (bs : List Expr) (t : Expr) → IsRangedExpr h → AreRanged bs → IsRangedExpr t → IsRangedExpr (in_let at h b bs t)
ranged-in_let at h b bs t a c d = (a, (ranged-exprs bs c, (d, tt)))

ranged-in_lets : (at : ℕ) (h : Expr) (b : ℕ) (bs ts : List Expr) → IsRangedExpr h → AreRanged bs → AreRanged ts → AreRanged (map (in_let at h b bs) ts)
ranged-in_lets at h b bs [] a c d = tt
ranged-in_lets at h b bs (t ∷ ts) a c d = (ranged-in_let at h b bs t a c d.0, ranged-in_lets at h b bs ts a c d.1)

ranged-let_around : (at : ℕ) (h : Expr) (b : ℕ) (bs : Reducts) (p : Reduct) → IsRangedExpr h → AreRangedReducts bs → IsRangedReduct p → IsRangedReduct (let_around at h b bs p)
ranged-let_around at h b bs p a c d = record {
  term = ranged-in_let at h b bs.terms p.term a c.terms d.term;
  variables = ranged-append bs.variables p.variables c.variables d.variables;
  conditions = ranged-append bs.conditions (map (in_let at h b bs.terms) p.conditions) c.conditions (ranged-in_lets at h b bs.terms p.conditions a c.terms d.conditions);
}

ranged-if : (w : Bool) (x y : Reduct) → IsRangedReduct x → IsRangedReduct y → IsRangedReduct (if w then x else y)
ranged-if true x y a b = a
ranged-if false x y a b = b

-- a list by its form, where each form that it may have is ranged
ranged-form : (at : ℕ) (h : Expr) (es : Exprs) (w : Form) → IsRangedExpr h → AreRangedExprs es → IsRangedReduct (let_reduct at h es) → IsRangedReduct (quantified_reduct at h es)
    → IsRangedReduct (note_reduct at h es) → IsRangedReduct (indexed_reduct at h es) → IsRangedReduct (quotient_reduct at h es) → IsRangedReduct (remainder_reduct at h es)
    → AreRangedReducts (reducts es) → AreRanged (closed_all es) → IsRangedReduct (choice_reduct at h es) → IsRangedReduct (by_form w at h es)
ranged-form at h es form.Let a b l q n i d m u c o = l
ranged-form at h es form.Quantifier a b l q n i d m u c o = q
ranged-form at h es form.Note a b l q n i d m u c o = n
ranged-form at h es form.Other a b l q n i d m u c o = ranged-whole (list at (and_expr h es)) (a, b)
ranged-form at h es form.Indexed a b l q n i d m u c o = i
ranged-form at h es form.Quotient a b l q n i d m u c o = d
ranged-form at h es form.Remainder a b l q n i d m u c o = m
ranged-form at h es form.Relation a b l q n i d m u c o = ranged-whole (closed at (used at h (reducts es))) (ranged-closed at (used at h (reducts es)) (ranged-used at h (reducts es) a u))
ranged-form at h es form.Connective a b l q n i d m u c o = ranged-whole (list at (and_expr h (exprs (closed_all es)))) (a, ranged-exprs (closed_all es) c)
ranged-form at h es form.Choice a b l q n i d m u c o = o
ranged-form at h es form.Use a b l q n i d m u c o = ranged-used at h (reducts es) a u

mutual
  unfolding reduct reducts closed_all let_reduct bound_reducts bound_reduct quantified_reduct note_reduct quotient_reduct remainder_reduct indexed_reduct choice_reduct

  pub ranged-reduct : (e : Expr) → IsRangedExpr e → IsRangedReduct (reduct e)
  ranged-reduct (atom x) a = ranged-whole (atom x) a
  ranged-reduct (list at no_expr) a = ranged-whole (list at no_expr) tt
  ranged-reduct (list at (and_expr h es)) a =
      subst IsRangedReduct (sym (formed at h es (form_of h) refl))
      (ranged-form at h es (form_of h) a.0 a.1 (ranged-let at h es a.0 a.1) (ranged-quantified at h es a.0 a.1) (ranged-note at h es a.0 a.1) (ranged-indexed at h es a.0 a.1)
      (ranged-quotient at h es a.0 a.1) (ranged-rest at h es a.0 a.1) (ranged-reducts es a.1) (ranged-closed_all es a.1) (ranged-choice at h es a.0 a.1))

  ranged-reducts : (es : Exprs) → AreRangedExprs es → AreRangedReducts (reducts es)
  ranged-reducts no_expr a = record { terms = tt; variables = tt; conditions = tt }
  ranged-reducts (and_expr e es) a = ranged-together (reduct e) (reducts es) (ranged-reduct e a.0) (ranged-reducts es a.1)

  pub ranged-closed_all : (es : Exprs) → AreRangedExprs es → AreRanged (closed_all es)
  ranged-closed_all no_expr a = tt
  ranged-closed_all (and_expr e es) a = (ranged-closed (place_of e) (reduct e) (ranged-reduct e a.0), ranged-closed_all es a.1)

  ranged-let : (at : ℕ) (h : Expr) (es : Exprs) → IsRangedExpr h → AreRangedExprs es → IsRangedReduct (let_reduct at h es)
  ranged-let at h no_expr a b = ranged-whole (list at (and_expr h no_expr)) (a, b)
  ranged-let at h (and_expr (atom x) es) a b = ranged-whole (list at (and_expr h (and_expr (atom x) es))) (a, b)
  ranged-let at h (and_expr (list c bs) no_expr) a b = ranged-whole (list at (and_expr h (and_expr (list c bs) no_expr))) (a, b)
  ranged-let at h (and_expr (list c bs) (and_expr t no_expr)) a b =
      ranged-if (bind_operators bs) (whole (list at (and_expr h (and_expr (list c bs) (and_expr t no_expr))))) (let_around at h c (bound_reducts bs) (reduct t))
      (ranged-whole (list at (and_expr h (and_expr (list c bs) (and_expr t no_expr)))) (a, b))
      (ranged-let_around at h c (bound_reducts bs) (reduct t) a (ranged-bindings bs b.0) (ranged-reduct t b.1.0))
  ranged-let at h (and_expr (list c bs) (and_expr t (and_expr u us))) a b = ranged-whole (list at (and_expr h (and_expr (list c bs) (and_expr t (and_expr u us))))) (a, b)

  ranged-bindings : (es : Exprs) → AreRangedExprs es → AreRangedReducts (bound_reducts es)
  ranged-bindings no_expr a = record { terms = tt; variables = tt; conditions = tt }
  ranged-bindings (and_expr e es) a = ranged-together (bound_reduct e) (bound_reducts es) (ranged-binding e a.0) (ranged-bindings es a.1)

  ranged-binding : (e : Expr) → IsRangedExpr e → IsRangedReduct (bound_reduct e)
  ranged-binding (atom x) a = ranged-whole (atom x) a
  ranged-binding (list c no_expr) a = ranged-whole (list c no_expr) a
  ranged-binding (list c (and_expr x no_expr)) a = ranged-whole (list c (and_expr x no_expr)) a
  ranged-binding (list c (and_expr x (and_expr t no_expr))) a =
      let p = ranged-reduct t a.1.0 in record { term = (a.0, (p.term, tt)); variables = p.variables; conditions = p.conditions }
  ranged-binding (list c (and_expr x (and_expr t (and_expr u us)))) a = ranged-whole (list c (and_expr x (and_expr t (and_expr u us)))) a

  ranged-quantified : (at : ℕ) (h : Expr) (es : Exprs) → IsRangedExpr h → AreRangedExprs es → IsRangedReduct (quantified_reduct at h es)
  ranged-quantified at h no_expr a b = ranged-whole (list at (and_expr h no_expr)) (a, b)
  ranged-quantified at h (and_expr (atom x) es) a b = ranged-whole (list at (and_expr h (and_expr (atom x) es))) (a, b)
  ranged-quantified at h (and_expr (list c bs) no_expr) a b = ranged-whole (list at (and_expr h (and_expr (list c bs) no_expr))) (a, b)
  ranged-quantified at h (and_expr (list c bs) (and_expr t no_expr)) a b =
      ranged-if (bind_operators bs) (whole (list at (and_expr h (and_expr (list c bs) (and_expr t no_expr)))))
      (whole (list at (and_expr h (and_expr (list c bs) (and_expr (closed (place_of t) (reduct t)) no_expr)))))
      (ranged-whole (list at (and_expr h (and_expr (list c bs) (and_expr t no_expr)))) (a, b))
      (ranged-whole (list at (and_expr h (and_expr (list c bs) (and_expr (closed (place_of t) (reduct t)) no_expr))))
      (a, (b.0, (ranged-closed (place_of t) (reduct t) (ranged-reduct t b.1.0), tt))))
  ranged-quantified at h (and_expr (list c bs) (and_expr t (and_expr u us))) a b = ranged-whole (list at (and_expr h (and_expr (list c bs) (and_expr t (and_expr u us))))) (a, b)

  ranged-note : (at : ℕ) (h : Expr) (es : Exprs) → IsRangedExpr h → AreRangedExprs es → IsRangedReduct (note_reduct at h es)
  ranged-note at h no_expr a b = ranged-whole (list at (and_expr h no_expr)) (a, b)
  ranged-note at h (and_expr t es) a b = let p = ranged-reduct t b.0 in record { term = (a, (p.term, b.1)); variables = p.variables; conditions = p.conditions }

  ranged-quotient : (at : ℕ) (h : Expr) (es : Exprs) → IsRangedExpr h → AreRangedExprs es → IsRangedReduct (quotient_reduct at h es)
  ranged-quotient at h no_expr a b = ranged-whole (list at (and_expr h no_expr)) (a, b)
  ranged-quotient at h (and_expr t ns) a b =
      ranged-or (divided_some at ns (reduct t)) (whole (list at (and_expr h (and_expr t ns)))) (ranged-divided_some at ns (reduct t) b.1 (ranged-reduct t b.0))
      (ranged-whole (list at (and_expr h (and_expr t ns))) (a, b))

  ranged-rest : (at : ℕ) (h : Expr) (es : Exprs) → IsRangedExpr h → AreRangedExprs es → IsRangedReduct (remainder_reduct at h es)
  ranged-rest at h no_expr a b = ranged-whole (list at (and_expr h no_expr)) (a, b)
  ranged-rest at h (and_expr t no_expr) a b = ranged-whole (list at (and_expr h (and_expr t no_expr))) (a, b)
  ranged-rest at h (and_expr t (and_expr n no_expr)) a b =
      ranged-remainder_by at (whole (list at (and_expr h (and_expr t (and_expr n no_expr))))) (reduct t) n (greatest_remainder n) refl
      (ranged-whole (list at (and_expr h (and_expr t (and_expr n no_expr)))) (a, b)) (ranged-reduct t b.0) b.1.0
  ranged-rest at h (and_expr t (and_expr n (and_expr u us))) a b = ranged-whole (list at (and_expr h (and_expr t (and_expr n (and_expr u us))))) (a, b)

  ranged-indexed : (at : ℕ) (h : Expr) (es : Exprs) → IsRangedExpr h → AreRangedExprs es → IsRangedReduct (indexed_reduct at h es)
  ranged-indexed at h no_expr a b = ranged-whole (list at (and_expr h no_expr)) (a, b)
  ranged-indexed at h (and_expr t no_expr) a b =
      ranged-divisible at (whole (list at (and_expr h (and_expr t no_expr)))) (reduct t) (index_of h) (ranged-whole (list at (and_expr h (and_expr t no_expr))) (a, b)) (ranged-reduct t b.0)
      (ranged-index h a)
  ranged-indexed at h (and_expr t (and_expr u us)) a b = ranged-whole (list at (and_expr h (and_expr t (and_expr u us)))) (a, b)

  ranged-choice : (at : ℕ) (h : Expr) (es : Exprs) → IsRangedExpr h → AreRangedExprs es → IsRangedReduct (choice_reduct at h es)
  ranged-choice at h no_expr a b = ranged-whole (list at (and_expr h no_expr)) (a, b)
  ranged-choice at h (and_expr c es) a b =
      ranged-used at h (together (whole (closed (place_of c) (reduct c))) (reducts es)) a
      (ranged-together (whole (closed (place_of c) (reduct c))) (reducts es)
      (ranged-whole (closed (place_of c) (reduct c)) (ranged-closed (place_of c) (reduct c) (ranged-reduct c b.0))) (ranged-reducts es b.1))
