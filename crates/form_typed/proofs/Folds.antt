-- The tree of each form of a formula and a term: one equation a form, since a fold does not compute by itself.
use Rattle.std.proofs.Common.{◌≡◌, ℕ, ℤ, Bool, List, ap, ◌∙◌, sym}
use Rattle.form_typed.specs.declared.typed.Relation.{Relation}
use Rattle.form_typed.specs.declared.typed.Sort.{Sort}
use Rattle.form_typed.specs.declared.typed.Typed.{Typed}
use Rattle.form_typed.specs.declared.typed.Typed.TheVariants as f
use Rattle.form_typed.specs.declared.typed.Typed.TheVariants.{rolls-Truth, rolls-Rel, rolls-Pred, rolls-Not, rolls-And, rolls-Or, rolls-Implies, rolls-Iff, rolls-Forall, rolls-Exists, rolls-Part}
use Rattle.form_typed.specs.declared.typed.TypedTerm.{TypedTerm}
use Rattle.form_typed.specs.declared.typed.TypedTerm.TheVariants as e
use Rattle.form_typed.specs.declared.typed.TypedTerm.TheVariants.{rolls-Number, rolls-Name, rolls-Apply, rolls-Minus, rolls-Sum, rolls-Product, rolls-If, rolls-Abs, rolls-Min, rolls-Max}
use Rattle.form_typed.specs.declared.typed.Typed.TheOpen as o
use Rattle.form_typed.specs.declared.typed.Typed.TheFolds.{fold-roll-Typed, fold-roll-TypedTerm}
use Rattle.form_typed.specs.Formula.{Formula, Expression, formula, formulas_of, expression, expressions_of, formula_step, expression_step, constant, compares, applies, negation, every, some, implies, iff, for_all, for_some, part, number, name, call, minus, total, product, choice, absolute, lesser, greater}

pub formula-Truth : (b : Bool) → formula (f.Truth b) ≡ constant b
formula-Truth b = ap formula (sym (rolls-Truth b)) ∙ fold-roll-Typed Formula Expression formula_step expression_step (o.Truth b)

pub formula-Rel : (r : Relation) (s t : TypedTerm) → formula (f.Rel r s t) ≡ compares r (expression s) (expression t)
formula-Rel r s t = ap formula (sym (rolls-Rel r s t)) ∙ fold-roll-Typed Formula Expression formula_step expression_step (o.Rel r s t)

pub formula-Pred : (p : ℕ) (ts : List TypedTerm) → formula (f.Pred p ts) ≡ applies p (expressions_of ts)
formula-Pred p ts = ap formula (sym (rolls-Pred p ts)) ∙ fold-roll-Typed Formula Expression formula_step expression_step (o.Pred p ts)

pub formula-Not : (g : Typed) → formula (f.Not g) ≡ negation (formula g)
formula-Not g = ap formula (sym (rolls-Not g)) ∙ fold-roll-Typed Formula Expression formula_step expression_step (o.Not g)

pub formula-And : (gs : List Typed) → formula (f.And gs) ≡ every (formulas_of gs)
formula-And gs = ap formula (sym (rolls-And gs)) ∙ fold-roll-Typed Formula Expression formula_step expression_step (o.And gs)

pub formula-Or : (gs : List Typed) → formula (f.Or gs) ≡ some (formulas_of gs)
formula-Or gs = ap formula (sym (rolls-Or gs)) ∙ fold-roll-Typed Formula Expression formula_step expression_step (o.Or gs)

pub formula-Implies : (g h : Typed) → formula (f.Implies g h) ≡ implies (formula g) (formula h)
formula-Implies g h = ap formula (sym (rolls-Implies g h)) ∙ fold-roll-Typed Formula Expression formula_step expression_step (o.Implies g h)

pub formula-Iff : (g h : Typed) → formula (f.Iff g h) ≡ iff (formula g) (formula h)
formula-Iff g h = ap formula (sym (rolls-Iff g h)) ∙ fold-roll-Typed Formula Expression formula_step expression_step (o.Iff g h)

pub formula-Forall : (s : Sort) (g : Typed) → formula (f.Forall s g) ≡ for_all s (formula g)
formula-Forall s g = ap formula (sym (rolls-Forall s g)) ∙ fold-roll-Typed Formula Expression formula_step expression_step (o.Forall s g)

pub formula-Exists : (s : Sort) (g : Typed) → formula (f.Exists s g) ≡ for_some s (formula g)
formula-Exists s g = ap formula (sym (rolls-Exists s g)) ∙ fold-roll-Typed Formula Expression formula_step expression_step (o.Exists s g)

pub formula-Part : (k : ℕ) (g : Typed) → formula (f.Part k g) ≡ part k (formula g)
formula-Part k g = ap formula (sym (rolls-Part k g)) ∙ fold-roll-Typed Formula Expression formula_step expression_step (o.Part k g)

pub expression-Number : (n : ℤ) → expression (e.Number n) ≡ number n
expression-Number n = ap expression (sym (rolls-Number n)) ∙ fold-roll-TypedTerm Formula Expression formula_step expression_step (o.Number n)

pub expression-Name : (x : ℕ) → expression (e.Name x) ≡ name x
expression-Name x = ap expression (sym (rolls-Name x)) ∙ fold-roll-TypedTerm Formula Expression formula_step expression_step (o.Name x)

pub expression-Apply : (g : ℕ) (ts : List TypedTerm) → expression (e.Apply g ts) ≡ call g (expressions_of ts)
expression-Apply g ts = ap expression (sym (rolls-Apply g ts)) ∙ fold-roll-TypedTerm Formula Expression formula_step expression_step (o.Apply g ts)

pub expression-Minus : (t : TypedTerm) → expression (e.Minus t) ≡ minus (expression t)
expression-Minus t = ap expression (sym (rolls-Minus t)) ∙ fold-roll-TypedTerm Formula Expression formula_step expression_step (o.Minus t)

pub expression-Sum : (ts : List TypedTerm) → expression (e.Sum ts) ≡ total (expressions_of ts)
expression-Sum ts = ap expression (sym (rolls-Sum ts)) ∙ fold-roll-TypedTerm Formula Expression formula_step expression_step (o.Sum ts)

pub expression-Product : (s t : TypedTerm) → expression (e.Product s t) ≡ product (expression s) (expression t)
expression-Product s t = ap expression (sym (rolls-Product s t)) ∙ fold-roll-TypedTerm Formula Expression formula_step expression_step (o.Product s t)

pub expression-If : (g : Typed) (s t : TypedTerm) → expression (e.If g s t) ≡ choice (formula g) (expression s) (expression t)
expression-If g s t = ap expression (sym (rolls-If g s t)) ∙ fold-roll-TypedTerm Formula Expression formula_step expression_step (o.If g s t)

pub expression-Abs : (t : TypedTerm) → expression (e.Abs t) ≡ absolute (expression t)
expression-Abs t = ap expression (sym (rolls-Abs t)) ∙ fold-roll-TypedTerm Formula Expression formula_step expression_step (o.Abs t)

pub expression-Min : (s t : TypedTerm) → expression (e.Min s t) ≡ lesser (expression s) (expression t)
expression-Min s t = ap expression (sym (rolls-Min s t)) ∙ fold-roll-TypedTerm Formula Expression formula_step expression_step (o.Min s t)

pub expression-Max : (s t : TypedTerm) → expression (e.Max s t) ≡ greater (expression s) (expression t)
expression-Max s t = ap expression (sym (rolls-Max s t)) ∙ fold-roll-TypedTerm Formula Expression formula_step expression_step (o.Max s t)
