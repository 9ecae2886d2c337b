-- The terms without division of lists of each form.
use Rattle.std.proofs.Common.{ℕ, ◌≡◌, Bool, true, false, List, [], ◌∷◌, ◌++◌, length, map, refl, sym, ap, ◌∙◌, arith, Option, Some, None, if◌then◌else◌}
use Rattle.std.specs.Prelude.{unwrap_or}
use Rattle.smt_lists.specs.declared.tree.Atom.{Atom}
use Rattle.smt_lists.specs.declared.tree.Sexp.{Sexp}
use Rattle.smt_lists.specs.declared.tree.Sexp.TheVariants as s
use Rattle.smt_lists.specs.Expressions.{Expr, Exprs, atom, list, no_expr, and_expr, exprs, expr, exprs_of, place_of}
use Rattle.smt_lists.proofs.Folds.{expr-Atom, expr-List}
use Rattle.smt_division.specs.declared.forms.Form.{Form}
use Rattle.smt_division.specs.declared.forms.Form.TheVariants as form
use Rattle.smt_division.specs.Divisors.{greatest_remainder}
use Rattle.smt_division.specs.Forms.{bind_operators, binder_of, form_of, index_of, pair_of, single_of}
use Rattle.smt_division.specs.Terms.{Reduct, Reducts, whole, nothing, together, closed, used, let_around, bound, noted, divided_some, remainder_by, divisible_by, reduct, reducts, closed_all, let_reduct, bound_reducts, bound_reduct, quantified_reduct, note_reduct, quotient_reduct, remainder_reduct, indexed_reduct, choice_reduct}

pub listed : (e : Sexp) (at : ℕ) (ms : List Sexp) (h : Sexp) (rest : List Sexp) → e ≡ s.List at ms → ms ≡ h ∷ rest → expr e ≡ list at (and_expr (expr h) (exprs_of rest))
listed e at ms h rest is parts = ap expr is ∙ expr-List at ms ∙ ap (λ z. list at (exprs_of z)) parts

pub reduct-atom : (a : Atom) → reduct (atom a) ≡ whole (atom a)
unfolding reduct reducts closed_all let_reduct bound_reducts bound_reduct quantified_reduct note_reduct quotient_reduct remainder_reduct indexed_reduct choice_reduct
reduct-atom a = refl

pub reduct-empty : (at : ℕ) → reduct (list at no_expr) ≡ whole (list at no_expr)
unfolding reduct reducts closed_all let_reduct bound_reducts bound_reduct quantified_reduct note_reduct quotient_reduct remainder_reduct indexed_reduct choice_reduct
reduct-empty at = refl

-- the term of a list of this form
abbrev pub by_form : Form → ℕ → Expr → Exprs → Reduct
by_form form.Let at h es = let_reduct at h es
by_form form.Quantifier at h es = quantified_reduct at h es
by_form form.Note at h es = note_reduct at h es
by_form form.Other at h es = whole (list at (and_expr h es))
by_form form.Indexed at h es = indexed_reduct at h es
by_form form.Quotient at h es = quotient_reduct at h es
by_form form.Remainder at h es = remainder_reduct at h es
by_form form.Relation at h es = whole (closed at (used at h (reducts es)))
by_form form.Connective at h es = whole (list at (and_expr h (exprs (closed_all es))))
by_form form.Choice at h es = choice_reduct at h es
by_form form.Use at h es = used at h (reducts es)

begun : (at : ℕ) (h : Expr) (es : Exprs) (w : Form) → (elim w [
  | form.Let ↦ let_reduct at h es
  | form.Quantifier ↦ quantified_reduct at h es
  | form.Note ↦ note_reduct at h es
  | form.Other ↦ whole (list at (and_expr h es))
  | form.Indexed ↦ indexed_reduct at h es
  | form.Quotient ↦ quotient_reduct at h es
  | form.Remainder ↦ remainder_reduct at h es
  | form.Relation ↦ whole (closed at (used at h (reducts es)))
  | form.Connective ↦ whole (list at (and_expr h (exprs (closed_all es))))
  | form.Choice ↦ choice_reduct at h es
  | form.Use ↦ used at h (reducts es)
]) ≡ by_form w at h es
begun at h es form.Let = refl
begun at h es form.Quantifier = refl
begun at h es form.Note = refl
begun at h es form.Other = refl
begun at h es form.Indexed = refl
begun at h es form.Quotient = refl
begun at h es form.Remainder = refl
begun at h es form.Relation = refl
begun at h es form.Connective = refl
begun at h es form.Choice = refl
begun at h es form.Use = refl

pub formed : (at : ℕ) (h : Expr) (es : Exprs) (w : Form) → w ≡ form_of h → reduct (list at (and_expr h es)) ≡ by_form w at h es
unfolding reduct reducts closed_all let_reduct bound_reducts bound_reduct quantified_reduct note_reduct quotient_reduct remainder_reduct indexed_reduct choice_reduct
formed at h es w e = begun at h es (form_of h) ∙ ap (λ z. by_form z at h es) (sym e)

-- several terms

pub reducts-none : reducts no_expr ≡ nothing
unfolding reduct reducts closed_all let_reduct bound_reducts bound_reduct quantified_reduct note_reduct quotient_reduct remainder_reduct indexed_reduct choice_reduct
reducts-none = refl

pub reducts-more : (e : Expr) (es : Exprs) → reducts (and_expr e es) ≡ together (reduct e) (reducts es)
unfolding reduct reducts closed_all let_reduct bound_reducts bound_reduct quantified_reduct note_reduct quotient_reduct remainder_reduct indexed_reduct choice_reduct
reducts-more e es = refl

pub closed_all-none : closed_all no_expr ≡ []
unfolding reduct reducts closed_all let_reduct bound_reducts bound_reduct quantified_reduct note_reduct quotient_reduct remainder_reduct indexed_reduct choice_reduct
closed_all-none = refl

pub closed_all-more : (e : Expr) (es : Exprs) → closed_all (and_expr e es) ≡ closed (place_of e) (reduct e) ∷ closed_all es
unfolding reduct reducts closed_all let_reduct bound_reducts bound_reduct quantified_reduct note_reduct quotient_reduct remainder_reduct indexed_reduct choice_reduct
closed_all-more e es = refl

pub bound_reducts-none : bound_reducts no_expr ≡ nothing
unfolding reduct reducts closed_all let_reduct bound_reducts bound_reduct quantified_reduct note_reduct quotient_reduct remainder_reduct indexed_reduct choice_reduct
bound_reducts-none = refl

pub bound_reducts-more : (e : Expr) (es : Exprs) → bound_reducts (and_expr e es) ≡ together (bound_reduct e) (bound_reducts es)
unfolding reduct reducts closed_all let_reduct bound_reducts bound_reduct quantified_reduct note_reduct quotient_reduct remainder_reduct indexed_reduct choice_reduct
bound_reducts-more e es = refl

-- `let` and quantifiers

chosen : {A : Type 0} (w : Bool) (x y : A) → w ≡ false → (if w then x else y) ≡ y
chosen w x y e = ap (λ z. if z then x else y) e

no_scope : (w : Bool) (x : ℕ × Exprs × Expr) → (if w then None else Some x) ≡ None → w ≡ true
no_scope true x e = refl
no_scope false x e = absurd (cc)

pub let_left : (at : ℕ) (h : Expr) (es : Exprs) → binder_of es ≡ None → let_reduct at h es ≡ whole (list at (and_expr h es))
unfolding reduct reducts closed_all let_reduct bound_reducts bound_reduct quantified_reduct note_reduct quotient_reduct remainder_reduct indexed_reduct choice_reduct
let_left at h no_expr e = refl
let_left at h (and_expr (atom a) es) e = refl
let_left at h (and_expr (list b bs) no_expr) e = refl
let_left at h (and_expr (list b bs) (and_expr t no_expr)) e =
    ap (λ z. if z then whole (list at (and_expr h (and_expr (list b bs) (and_expr t no_expr)))) else let_around at h b (bound_reducts bs) (reduct t))
    (no_scope (bind_operators bs) (b, bs, t) e)
let_left at h (and_expr (list b bs) (and_expr t (and_expr u us))) e = refl

pub let_made : (at : ℕ) (h : Expr) (b : ℕ) (bs : Exprs) (t : Expr) → bind_operators bs ≡ false
    → let_reduct at h (and_expr (list b bs) (and_expr t no_expr)) ≡ let_around at h b (bound_reducts bs) (reduct t)
unfolding reduct reducts closed_all let_reduct bound_reducts bound_reduct quantified_reduct note_reduct quotient_reduct remainder_reduct indexed_reduct choice_reduct
let_made at h b bs t e = chosen (bind_operators bs) _ _ e

pub quantified_left : (at : ℕ) (h : Expr) (es : Exprs) → binder_of es ≡ None → quantified_reduct at h es ≡ whole (list at (and_expr h es))
unfolding reduct reducts closed_all let_reduct bound_reducts bound_reduct quantified_reduct note_reduct quotient_reduct remainder_reduct indexed_reduct choice_reduct
quantified_left at h no_expr e = refl
quantified_left at h (and_expr (atom a) es) e = refl
quantified_left at h (and_expr (list b bs) no_expr) e = refl
quantified_left at h (and_expr (list b bs) (and_expr t no_expr)) e =
    ap (λ z. if z then whole (list at (and_expr h (and_expr (list b bs) (and_expr t no_expr))))
    else whole (list at (and_expr h (and_expr (list b bs) (and_expr (closed (place_of t) (reduct t)) no_expr)))))
    (no_scope (bind_operators bs) (b, bs, t) e)
quantified_left at h (and_expr (list b bs) (and_expr t (and_expr u us))) e = refl

pub quantified_made : (at : ℕ) (h : Expr) (b : ℕ) (bs : Exprs) (t : Expr) → bind_operators bs ≡ false
    → quantified_reduct at h (and_expr (list b bs) (and_expr t no_expr)) ≡ whole (list at (and_expr h (and_expr (list b bs) (and_expr (closed (place_of t) (reduct t)) no_expr))))
unfolding reduct reducts closed_all let_reduct bound_reducts bound_reduct quantified_reduct note_reduct quotient_reduct remainder_reduct indexed_reduct choice_reduct
quantified_made at h b bs t e = chosen (bind_operators bs) _ _ e

pub bound-atom : (a : Atom) → bound_reduct (atom a) ≡ whole (atom a)
unfolding reduct reducts closed_all let_reduct bound_reducts bound_reduct quantified_reduct note_reduct quotient_reduct remainder_reduct indexed_reduct choice_reduct
bound-atom a = refl

pub bound_left : (b : ℕ) (es : Exprs) → pair_of es ≡ None → bound_reduct (list b es) ≡ whole (list b es)
unfolding reduct reducts closed_all let_reduct bound_reducts bound_reduct quantified_reduct note_reduct quotient_reduct remainder_reduct indexed_reduct choice_reduct
bound_left b no_expr e = refl
bound_left b (and_expr x no_expr) e = refl
bound_left b (and_expr x (and_expr t no_expr)) e = absurd (cc)
bound_left b (and_expr x (and_expr t (and_expr u us))) e = refl

pub bound_made : (b : ℕ) (x t : Expr) → bound_reduct (list b (and_expr x (and_expr t no_expr))) ≡ bound b x (reduct t)
unfolding reduct reducts closed_all let_reduct bound_reducts bound_reduct quantified_reduct note_reduct quotient_reduct remainder_reduct indexed_reduct choice_reduct
bound_made b x t = refl

-- the other forms

pub note-none : (at : ℕ) (h : Expr) → note_reduct at h no_expr ≡ whole (list at (and_expr h no_expr))
unfolding reduct reducts closed_all let_reduct bound_reducts bound_reduct quantified_reduct note_reduct quotient_reduct remainder_reduct indexed_reduct choice_reduct
note-none at h = refl

pub note-made : (at : ℕ) (h t : Expr) (attributes : Exprs) → note_reduct at h (and_expr t attributes) ≡ noted at h attributes (reduct t)
unfolding reduct reducts closed_all let_reduct bound_reducts bound_reduct quantified_reduct note_reduct quotient_reduct remainder_reduct indexed_reduct choice_reduct
note-made at h t attributes = refl

pub choice-none : (at : ℕ) (h : Expr) → choice_reduct at h no_expr ≡ whole (list at (and_expr h no_expr))
unfolding reduct reducts closed_all let_reduct bound_reducts bound_reduct quantified_reduct note_reduct quotient_reduct remainder_reduct indexed_reduct choice_reduct
choice-none at h = refl

pub choice-made : (at : ℕ) (h c : Expr) (es : Exprs) → choice_reduct at h (and_expr c es) ≡ used at h (together (whole (closed (place_of c) (reduct c))) (reducts es))
unfolding reduct reducts closed_all let_reduct bound_reducts bound_reduct quantified_reduct note_reduct quotient_reduct remainder_reduct indexed_reduct choice_reduct
choice-made at h c es = refl

pub quotient-none : (at : ℕ) (h : Expr) → quotient_reduct at h no_expr ≡ whole (list at (and_expr h no_expr))
unfolding reduct reducts closed_all let_reduct bound_reducts bound_reduct quantified_reduct note_reduct quotient_reduct remainder_reduct indexed_reduct choice_reduct
quotient-none at h = refl

pub quotient-made : (at : ℕ) (h t : Expr) (ns : Exprs) → quotient_reduct at h (and_expr t ns) ≡ unwrap_or (divided_some at ns (reduct t)) (whole (list at (and_expr h (and_expr t ns))))
unfolding reduct reducts closed_all let_reduct bound_reducts bound_reduct quantified_reduct note_reduct quotient_reduct remainder_reduct indexed_reduct choice_reduct
quotient-made at h t ns = refl

pub remainder_left : (at : ℕ) (h : Expr) (es : Exprs) → pair_of es ≡ None → remainder_reduct at h es ≡ whole (list at (and_expr h es))
unfolding reduct reducts closed_all let_reduct bound_reducts bound_reduct quantified_reduct note_reduct quotient_reduct remainder_reduct indexed_reduct choice_reduct
remainder_left at h no_expr e = refl
remainder_left at h (and_expr x no_expr) e = refl
remainder_left at h (and_expr x (and_expr t no_expr)) e = absurd (cc)
remainder_left at h (and_expr x (and_expr t (and_expr u us))) e = refl

pub remainder_made : (at : ℕ) (h t n : Expr)
    → remainder_reduct at h (and_expr t (and_expr n no_expr)) ≡ remainder_by at (whole (list at (and_expr h (and_expr t (and_expr n no_expr))))) (reduct t) n (greatest_remainder n)
unfolding reduct reducts closed_all let_reduct bound_reducts bound_reduct quantified_reduct note_reduct quotient_reduct remainder_reduct indexed_reduct choice_reduct
remainder_made at h t n = refl

pub indexed_left : (at : ℕ) (h : Expr) (es : Exprs) → single_of es ≡ None → indexed_reduct at h es ≡ whole (list at (and_expr h es))
unfolding reduct reducts closed_all let_reduct bound_reducts bound_reduct quantified_reduct note_reduct quotient_reduct remainder_reduct indexed_reduct choice_reduct
indexed_left at h no_expr e = refl
indexed_left at h (and_expr x no_expr) e = absurd (cc)
indexed_left at h (and_expr x (and_expr u us)) e = refl

pub indexed_made : (at : ℕ) (h t : Expr) → indexed_reduct at h (and_expr t no_expr) ≡ divisible_by at (whole (list at (and_expr h (and_expr t no_expr)))) (reduct t) (index_of h)
unfolding reduct reducts closed_all let_reduct bound_reducts bound_reduct quantified_reduct note_reduct quotient_reduct remainder_reduct indexed_reduct choice_reduct
indexed_made at h t = refl

-- what the code knows of an expression

pub left_atom : (e : Sexp) (a : Atom) → e ≡ s.Atom a → whole (expr e) ≡ reduct (expr e)
left_atom e a is =
    let known : expr e ≡ atom a = ap expr is ∙ expr-Atom a in
    ap whole known ∙ sym (reduct-atom a) ∙ ap reduct (sym known)

empty_list : (ms : List Sexp) → length ms ≡ 0 → ms ≡ []
empty_list [] h = refl
empty_list (e ∷ es) h = absurd (grind arith)

pub left_empty : (e : Sexp) (at : ℕ) (ms : List Sexp) → e ≡ s.List at ms → length ms ≡ 0 → whole (expr e) ≡ reduct (expr e)
left_empty e at ms is h =
    let known : expr e ≡ list at no_expr = ap expr is ∙ expr-List at ms ∙ ap (λ z. list at (exprs_of z)) (empty_list ms h) in
    ap whole known ∙ sym (reduct-empty at) ∙ ap reduct (sym known)

pub headed : (e : Sexp) (at : ℕ) (ms : List Sexp) (h : Sexp) (rest : List Sexp) (w : Form) → e ≡ s.List at ms → ms ≡ h ∷ rest → w ≡ form_of (expr h)
    → reduct (expr e) ≡ by_form w at (expr h) (exprs_of rest)
headed e at ms h rest w is parts k = ap reduct (listed e at ms h rest is parts) ∙ formed at (expr h) (exprs_of rest) w k

pub left_bound_atom : (e : Sexp) (a : Atom) → e ≡ s.Atom a → whole (expr e) ≡ bound_reduct (expr e)
left_bound_atom e a is =
    let known : expr e ≡ atom a = ap expr is ∙ expr-Atom a in
    ap whole known ∙ sym (bound-atom a) ∙ ap bound_reduct (sym known)

pub left_bound : (e : Sexp) (at : ℕ) (ms : List Sexp) → e ≡ s.List at ms → pair_of (exprs_of ms) ≡ None → whole (expr e) ≡ bound_reduct (expr e)
left_bound e at ms is h =
    let known : expr e ≡ list at (exprs_of ms) = ap expr is ∙ expr-List at ms in
    ap whole known ∙ sym (bound_left at (exprs_of ms) h) ∙ ap bound_reduct (sym known)

pub made_bound : (e : Sexp) (at : ℕ) (ms : List Sexp) (x t : Sexp) → e ≡ s.List at ms → ms ≡ x ∷ t ∷ [] → bound_reduct (expr e) ≡ bound at (expr x) (reduct (expr t))
made_bound e at ms x t is parts =
    ap bound_reduct (ap expr is ∙ expr-List at ms ∙ ap (λ z. list at (exprs_of z)) parts) ∙ bound_made at (expr x) (expr t)

scope_is : (es : List Sexp) (b : ℕ) (ms : List Sexp) (t : Sexp) → es ≡ s.List b ms ∷ t ∷ [] → exprs_of es ≡ and_expr (list b (exprs_of ms)) (and_expr (expr t) no_expr)
scope_is es b ms t parts = ap exprs_of parts ∙ ap (λ z. and_expr z (and_expr (expr t) no_expr)) (expr-List b ms)

pub made_let : (at : ℕ) (h : Expr) (es : List Sexp) (b : ℕ) (ms : List Sexp) (t : Sexp) → es ≡ s.List b ms ∷ t ∷ [] → bind_operators (exprs_of ms) ≡ false
    → let_reduct at h (exprs_of es) ≡ let_around at h b (bound_reducts (exprs_of ms)) (reduct (expr t))
made_let at h es b ms t parts k = ap (let_reduct at h) (scope_is es b ms t parts) ∙ let_made at h b (exprs_of ms) (expr t) k

pub made_quantified : (at : ℕ) (h : Expr) (es : List Sexp) (b : ℕ) (ms : List Sexp) (t : Sexp) → es ≡ s.List b ms ∷ t ∷ [] → bind_operators (exprs_of ms) ≡ false
    → quantified_reduct at h (exprs_of es) ≡ whole (list at (and_expr h (and_expr (list b (exprs_of ms)) (and_expr (closed (place_of (expr t)) (reduct (expr t))) no_expr))))
made_quantified at h es b ms t parts k = ap (quantified_reduct at h) (scope_is es b ms t parts) ∙ quantified_made at h b (exprs_of ms) (expr t) k

pub made_remainder : (at : ℕ) (h : Expr) (es : List Sexp) (t n : Sexp) → es ≡ t ∷ n ∷ []
    → remainder_reduct at h (exprs_of es) ≡ remainder_by at (whole (list at (and_expr h (exprs_of es)))) (reduct (expr t)) (expr n) (greatest_remainder (expr n))
made_remainder at h es t n parts =
    ap (λ z. remainder_reduct at h (exprs_of z)) parts ∙ remainder_made at h (expr t) (expr n)
    ∙ ap (λ z. remainder_by at (whole (list at (and_expr h (exprs_of z)))) (reduct (expr t)) (expr n) (greatest_remainder (expr n))) (sym parts)

pub made_indexed : (at : ℕ) (h : Expr) (es : List Sexp) (t : Sexp) → es ≡ t ∷ [] → indexed_reduct at h (exprs_of es) ≡ divisible_by at (whole (list at (and_expr h (exprs_of es)))) (reduct (expr t)) (index_of h)
made_indexed at h es t parts =
    ap (λ z. indexed_reduct at h (exprs_of z)) parts ∙ indexed_made at h (expr t) ∙ ap (λ z. divisible_by at (whole (list at (and_expr h (exprs_of z)))) (reduct (expr t)) (index_of h)) (sym parts)

pub made_quotient : (at : ℕ) (h : Expr) (es : List Sexp) (t : Sexp) (ns : List Sexp) → es ≡ t ∷ ns
    → quotient_reduct at h (exprs_of es) ≡ unwrap_or (divided_some at (exprs_of ns) (reduct (expr t))) (whole (list at (and_expr h (exprs_of es))))
made_quotient at h es t ns parts =
    ap (λ z. quotient_reduct at h (exprs_of z)) parts ∙ quotient-made at h (expr t) (exprs_of ns)
    ∙ ap (λ z. unwrap_or (divided_some at (exprs_of ns) (reduct (expr t))) (whole (list at (and_expr h (exprs_of z))))) (sym parts)

pub made_note : (at : ℕ) (h : Expr) (es : List Sexp) (t : Sexp) (attributes : List Sexp) → es ≡ t ∷ attributes → note_reduct at h (exprs_of es) ≡ noted at h (exprs_of attributes) (reduct (expr t))
made_note at h es t attributes parts = ap (λ z. note_reduct at h (exprs_of z)) parts ∙ note-made at h (expr t) (exprs_of attributes)

pub made_choice : (at : ℕ) (h : Expr) (es : List Sexp) (t : Sexp) (branches : List Sexp) → es ≡ t ∷ branches
    → choice_reduct at h (exprs_of es) ≡ used at h (together (whole (closed (place_of (expr t)) (reduct (expr t)))) (reducts (exprs_of branches)))
made_choice at h es t branches parts = ap (λ z. choice_reduct at h (exprs_of z)) parts ∙ choice-made at h (expr t) (exprs_of branches)

-- nothing follows the word

pub no_note : (at : ℕ) (h : Expr) (es : List Sexp) → length es ≡ 0 → note_reduct at h (exprs_of es) ≡ whole (list at (and_expr h (exprs_of es)))
no_note at h [] e = note-none at h
no_note at h (x ∷ es) e = absurd (grind arith)

pub no_choice : (at : ℕ) (h : Expr) (es : List Sexp) → length es ≡ 0 → choice_reduct at h (exprs_of es) ≡ whole (list at (and_expr h (exprs_of es)))
no_choice at h [] e = choice-none at h
no_choice at h (x ∷ es) e = absurd (grind arith)

pub no_quotient : (at : ℕ) (h : Expr) (es : List Sexp) → length es ≡ 0 → quotient_reduct at h (exprs_of es) ≡ whole (list at (and_expr h (exprs_of es)))
no_quotient at h [] e = quotient-none at h
no_quotient at h (x ∷ es) e = absurd (grind arith)

-- the members of a quantifier, as they are made
pub made_members : (b : ℕ) (copied ms : List Sexp) (f : Sexp) (x : Expr) (es : List Sexp) → copied ≡ ms → expr f ≡ x → es ≡ s.List b copied ∷ f ∷ []
    → exprs_of es ≡ and_expr (list b (exprs_of ms)) (and_expr x no_expr)
made_members b copied ms f x es p q e =
    ap exprs_of e ∙ ap (λ z. and_expr z (and_expr (expr f) no_expr)) (expr-List b copied ∙ ap (λ z. list b (exprs_of z)) p)
    ∙ ap (λ z. and_expr (list b (exprs_of ms)) (and_expr z no_expr)) q
