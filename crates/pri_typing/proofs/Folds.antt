-- The tree of each form: one equation a form, since a fold does not compute by itself.
use Rattle.std.proofs.Common.{◌≡◌, ℕ, ℤ, Bool, List, ap, ◌∙◌, sym}
use Rattle.pri_reader.specs.declared.tree.Name.{Name}
use Rattle.pri_reader.specs.declared.tree.Declared.{Declared}
use Rattle.pri_reader.specs.declared.tree.Comparison.{Comparison}
use Rattle.pri_reader.specs.declared.tree.Expr.{Expr}
use Rattle.pri_reader.specs.declared.tree.Added.{Added}
use Rattle.pri_reader.specs.declared.tree.Form.TheVariants as f
use Rattle.pri_reader.specs.declared.tree.Form.TheVariants.{rolls-Number, rolls-Truth, rolls-Use, rolls-Group, rolls-If, rolls-Abs, rolls-Min, rolls-Max, rolls-Minus, rolls-Product, rolls-Sum, rolls-Compare, rolls-Not, rolls-Quantified, rolls-Part, rolls-And, rolls-Or, rolls-Implies, rolls-Iff}
use Rattle.pri_reader.specs.declared.tree.Form.TheOpen as o
use Rattle.pri_reader.specs.declared.tree.Form.TheFolds.{fold-roll-Form, fold_out-Expr, fold_out-Added}
use Rattle.pri_typing.specs.Phrase.{Phrase, Addend, phrase, phrase_of, phrases_of, addend, addends_of, form_step, phrase_step, addend_step, number, truth, used, group, choice, absolute, lesser, greater, minus, product, sum, compared, negation, quantified, part, conjunction, disjunction, implication, equivalence}

pub phrase-form : (e : Expr) → phrase e ≡ phrase_of e.form e.at
phrase-form e = fold_out-Expr (ℕ → Phrase) Addend Phrase form_step addend_step phrase_step e

pub addend-term : (a : Added) → addend a ≡ record { is_minus = a.minus; term = phrase a.term }
addend-term a = fold_out-Added (ℕ → Phrase) Addend Phrase form_step addend_step phrase_step a

pub phrase-Number : (n : ℤ) (at : ℕ) → phrase_of (f.Number n) at ≡ number at n
phrase-Number n at = ap (λ g. phrase_of g at) (sym (rolls-Number n)) ∙ ap (λ g. g at) (fold-roll-Form (ℕ → Phrase) Addend Phrase form_step addend_step phrase_step (o.Number n))

pub phrase-Truth : (b : Bool) (at : ℕ) → phrase_of (f.Truth b) at ≡ truth at b
phrase-Truth b at = ap (λ g. phrase_of g at) (sym (rolls-Truth b)) ∙ ap (λ g. g at) (fold-roll-Form (ℕ → Phrase) Addend Phrase form_step addend_step phrase_step (o.Truth b))

pub phrase-Use : (x : Name) (es : List Expr) (at : ℕ) → phrase_of (f.Use x es) at ≡ used at x (phrases_of es)
phrase-Use x es at = ap (λ g. phrase_of g at) (sym (rolls-Use x es)) ∙ ap (λ g. g at) (fold-roll-Form (ℕ → Phrase) Addend Phrase form_step addend_step phrase_step (o.Use x es))

pub phrase-Group : (e : Expr) (at : ℕ) → phrase_of (f.Group e) at ≡ group at (phrase e)
phrase-Group e at = ap (λ g. phrase_of g at) (sym (rolls-Group e)) ∙ ap (λ g. g at) (fold-roll-Form (ℕ → Phrase) Addend Phrase form_step addend_step phrase_step (o.Group e))

pub phrase-If : (c e g : Expr) (at : ℕ) → phrase_of (f.If c e g) at ≡ choice at (phrase c) (phrase e) (phrase g)
phrase-If c e g at = ap (λ g. phrase_of g at) (sym (rolls-If c e g)) ∙ ap (λ g. g at) (fold-roll-Form (ℕ → Phrase) Addend Phrase form_step addend_step phrase_step (o.If c e g))

pub phrase-Abs : (e : Expr) (at : ℕ) → phrase_of (f.Abs e) at ≡ absolute at (phrase e)
phrase-Abs e at = ap (λ g. phrase_of g at) (sym (rolls-Abs e)) ∙ ap (λ g. g at) (fold-roll-Form (ℕ → Phrase) Addend Phrase form_step addend_step phrase_step (o.Abs e))

pub phrase-Min : (e g : Expr) (at : ℕ) → phrase_of (f.Min e g) at ≡ lesser at (phrase e) (phrase g)
phrase-Min e g at = ap (λ g. phrase_of g at) (sym (rolls-Min e g)) ∙ ap (λ g. g at) (fold-roll-Form (ℕ → Phrase) Addend Phrase form_step addend_step phrase_step (o.Min e g))

pub phrase-Max : (e g : Expr) (at : ℕ) → phrase_of (f.Max e g) at ≡ greater at (phrase e) (phrase g)
phrase-Max e g at = ap (λ g. phrase_of g at) (sym (rolls-Max e g)) ∙ ap (λ g. g at) (fold-roll-Form (ℕ → Phrase) Addend Phrase form_step addend_step phrase_step (o.Max e g))

pub phrase-Minus : (e : Expr) (at : ℕ) → phrase_of (f.Minus e) at ≡ minus at (phrase e)
phrase-Minus e at = ap (λ g. phrase_of g at) (sym (rolls-Minus e)) ∙ ap (λ g. g at) (fold-roll-Form (ℕ → Phrase) Addend Phrase form_step addend_step phrase_step (o.Minus e))

pub phrase-Product : (e : Expr) (sign : ℕ) (g : Expr) (at : ℕ) → phrase_of (f.Product e sign g) at ≡ product at (phrase e) sign (phrase g)
phrase-Product e sign g at = ap (λ g. phrase_of g at) (sym (rolls-Product e sign g)) ∙ ap (λ g. g at) (fold-roll-Form (ℕ → Phrase) Addend Phrase form_step addend_step phrase_step (o.Product e sign g))

pub phrase-Sum : (e : Expr) (more : List Added) (at : ℕ) → phrase_of (f.Sum e more) at ≡ sum at (phrase e) (addends_of more)
phrase-Sum e more at = ap (λ g. phrase_of g at) (sym (rolls-Sum e more)) ∙ ap (λ g. g at) (fold-roll-Form (ℕ → Phrase) Addend Phrase form_step addend_step phrase_step (o.Sum e more))

pub phrase-Compare : (c : Comparison) (e g : Expr) (at : ℕ) → phrase_of (f.Compare c e g) at ≡ compared at c (phrase e) (phrase g)
phrase-Compare c e g at = ap (λ g. phrase_of g at) (sym (rolls-Compare c e g)) ∙ ap (λ g. g at) (fold-roll-Form (ℕ → Phrase) Addend Phrase form_step addend_step phrase_step (o.Compare c e g))

pub phrase-Not : (e : Expr) (at : ℕ) → phrase_of (f.Not e) at ≡ negation at (phrase e)
phrase-Not e at = ap (λ g. phrase_of g at) (sym (rolls-Not e)) ∙ ap (λ g. g at) (fold-roll-Form (ℕ → Phrase) Addend Phrase form_step addend_step phrase_step (o.Not e))

pub phrase-Quantified : (all : Bool) (names : List Declared) (e : Expr) (at : ℕ) → phrase_of (f.Quantified all names e) at ≡ quantified at all names (phrase e)
phrase-Quantified all names e at = ap (λ g. phrase_of g at) (sym (rolls-Quantified all names e)) ∙ ap (λ g. g at) (fold-roll-Form (ℕ → Phrase) Addend Phrase form_step addend_step phrase_step (o.Quantified all names e))

pub phrase-Part : (x : Name) (e : Expr) (at : ℕ) → phrase_of (f.Part x e) at ≡ part at x (phrase e)
phrase-Part x e at = ap (λ g. phrase_of g at) (sym (rolls-Part x e)) ∙ ap (λ g. g at) (fold-roll-Form (ℕ → Phrase) Addend Phrase form_step addend_step phrase_step (o.Part x e))

pub phrase-And : (es : List Expr) (at : ℕ) → phrase_of (f.And es) at ≡ conjunction at (phrases_of es)
phrase-And es at = ap (λ g. phrase_of g at) (sym (rolls-And es)) ∙ ap (λ g. g at) (fold-roll-Form (ℕ → Phrase) Addend Phrase form_step addend_step phrase_step (o.And es))

pub phrase-Or : (es : List Expr) (at : ℕ) → phrase_of (f.Or es) at ≡ disjunction at (phrases_of es)
phrase-Or es at = ap (λ g. phrase_of g at) (sym (rolls-Or es)) ∙ ap (λ g. g at) (fold-roll-Form (ℕ → Phrase) Addend Phrase form_step addend_step phrase_step (o.Or es))

pub phrase-Implies : (e g : Expr) (at : ℕ) → phrase_of (f.Implies e g) at ≡ implication at (phrase e) (phrase g)
phrase-Implies e g at = ap (λ g. phrase_of g at) (sym (rolls-Implies e g)) ∙ ap (λ g. g at) (fold-roll-Form (ℕ → Phrase) Addend Phrase form_step addend_step phrase_step (o.Implies e g))

pub phrase-Iff : (e g : Expr) (at : ℕ) → phrase_of (f.Iff e g) at ≡ equivalence at (phrase e) (phrase g)
phrase-Iff e g at = ap (λ g. phrase_of g at) (sym (rolls-Iff e g)) ∙ ap (λ g. g at) (fold-roll-Form (ℕ → Phrase) Addend Phrase form_step addend_step phrase_step (o.Iff e g))
