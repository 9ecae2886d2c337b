-- The tree of each form of a body: one equation a form, since a fold does not compute by itself.
use Rattle.std.proofs.Common.{◌≡◌, ℕ, Bool, List, ap, ◌∙◌, sym}
use Rattle.smt_terms.specs.declared.operator.Operator.{Operator}
use Rattle.smt_names.specs.declared.body.Leaf.{Leaf}
use Rattle.smt_names.specs.declared.body.Body.{Body}
use Rattle.smt_names.specs.declared.body.Body.TheVariants as b
use Rattle.smt_names.specs.declared.body.Body.TheVariants.{rolls-Leaf, rolls-Operated, rolls-Function, rolls-Predicate, rolls-Defined, rolls-Let, rolls-Quantified}
use Rattle.smt_names.specs.declared.body.Body.TheOpen as o
use Rattle.smt_names.specs.declared.body.Body.TheFolds.{fold-roll-Body}
use Rattle.smt_names.specs.Body.{Shape, shape, shapes_of, shape_step, leaf, operation, function, predicate, defined, let_in, quantified}

pub shape-Leaf : (x : Leaf) → shape (b.Leaf x) ≡ leaf x
shape-Leaf x = ap shape (sym (rolls-Leaf x)) ∙ fold-roll-Body Shape shape_step (o.Leaf x)

pub shape-Operated : (op : Operator) (ts : List Body) → shape (b.Operated op ts) ≡ operation op (shapes_of ts)
shape-Operated op ts = ap shape (sym (rolls-Operated op ts)) ∙ fold-roll-Body Shape shape_step (o.Operated op ts)

pub shape-Function : (k : ℕ) (ts : List Body) → shape (b.Function k ts) ≡ function k (shapes_of ts)
shape-Function k ts = ap shape (sym (rolls-Function k ts)) ∙ fold-roll-Body Shape shape_step (o.Function k ts)

pub shape-Predicate : (k : ℕ) (ts : List Body) → shape (b.Predicate k ts) ≡ predicate k (shapes_of ts)
shape-Predicate k ts = ap shape (sym (rolls-Predicate k ts)) ∙ fold-roll-Body Shape shape_step (o.Predicate k ts)

pub shape-Defined : (k : ℕ) (ts : List Body) → shape (b.Defined k ts) ≡ defined k (shapes_of ts)
shape-Defined k ts = ap shape (sym (rolls-Defined k ts)) ∙ fold-roll-Body Shape shape_step (o.Defined k ts)

pub shape-Let : (bs : List Body) (t : Body) → shape (b.Let bs t) ≡ let_in (shapes_of bs) (shape t)
shape-Let bs t = ap shape (sym (rolls-Let bs t)) ∙ fold-roll-Body Shape shape_step (o.Let bs t)

pub shape-Quantified : (all : Bool) (k : ℕ) (t : Body) → shape (b.Quantified all k t) ≡ quantified all k (shape t)
shape-Quantified all k t = ap shape (sym (rolls-Quantified all k t)) ∙ fold-roll-Body Shape shape_step (o.Quantified all k t)
