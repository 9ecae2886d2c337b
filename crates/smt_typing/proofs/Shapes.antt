-- The terms of lists of each form.
use Rattle.std.proofs.Common.{ℕ, ◌≡◌, ◌==◌, Bool, true, false, List, [], ◌∷◌, length, map, take, take_all, ◌≤◌, refl, sym, ap, subst, ◌∙◌, IsTrue, Option, Some, None, if◌then◌else◌, arith}
use Rattle.smt_lists.specs.declared.tree.Sexp.{Sexp}
use Rattle.smt_lists.specs.declared.tree.Sexp.TheVariants as s
use Rattle.smt_lists.specs.Expressions.{Expr, Exprs, atom, list, no_expr, and_expr, expr, exprs_of}
use Rattle.smt_lists.proofs.Folds.{expr-List}
use Rattle.smt_commands.specs.Commands.{Symbol, items, members_of, symbol_of}
use Rattle.smt_terms.specs.declared.term.Variable.{Variable}
use Rattle.smt_terms.specs.declared.term.Term.{Term}
use Rattle.smt_terms.specs.Term.{PlacedTerm, BoundTerm, bindings, phrase, phrases, phrases_of, and_phrase, let_in, quantified, annotated, ill}
use Rattle.smt_typing.specs.declared.forms.Head.{Head}
use Rattle.smt_typing.specs.declared.forms.Head.TheVariants as head
use Rattle.smt_typing.specs.Reading.{are_attributes, are_proper, bindings_in, bound_by, bound_read, head_by, head_named, head_of, let_of, let_phrase, note_of, phrase_of, phrases_in, quantified_of, quantified_phrase, use_of, variables_of}

-- the term of a list that begins so
abbrev pub by_head : Head → ℕ → Option Symbol → Exprs → PlacedTerm
by_head head.Let at x es = let_of at es
by_head head.Forall at x es = quantified_of at true es
by_head head.Exists at x es = quantified_of at false es
by_head head.Note at x es = note_of at es
by_head head.Other at x es = ill at
by_head head.Use at x es = use_of at x (phrases_in es)

begun : (at : ℕ) (h : Expr) (es : Exprs) (w : Head) → (elim w [
  | head.Let ↦ let_of at es
  | head.Forall ↦ quantified_of at true es
  | head.Exists ↦ quantified_of at false es
  | head.Note ↦ note_of at es
  | head.Other ↦ ill at
  | head.Use ↦ use_of at (symbol_of h) (phrases_in es)
]) ≡ by_head w at (symbol_of h) es
begun at h es head.Let = refl
begun at h es head.Forall = refl
begun at h es head.Exists = refl
begun at h es head.Note = refl
begun at h es head.Other = refl
begun at h es head.Use = refl

headed : (at : ℕ) (h : Expr) (es : Exprs) (w : Head) → head_of h ≡ w → phrase_of (list at (and_expr h es)) ≡ by_head w at (symbol_of h) es
headed at h es w e = begun at h es (head_of h) ∙ ap (λ z. by_head z at (symbol_of h) es) e

pub listed : (e : Sexp) (at : ℕ) (ms : List Sexp) (h : Sexp) (rest : List Sexp) (x : Symbol) (w : Head) → e ≡ s.List at ms → ms ≡ h ∷ rest → symbol_of (expr h) ≡ Some x
    → head_named x.text ≡ w → phrase_of (expr e) ≡ by_head w at (Some x) (exprs_of rest)
listed e at ms h rest x w is parts named begins =
    ap (λ z. phrase_of (expr z)) is ∙ ap phrase_of (expr-List at ms) ∙ ap (λ z. phrase_of (list at (exprs_of z))) parts
    ∙ headed at (expr h) (exprs_of rest) w (ap head_by named ∙ begins) ∙ ap (λ z. by_head w at z (exprs_of rest)) named

-- what ends a list

pub empty_is : (es : List Sexp) (b : Bool) → b ≡ (length es == 0) → b ≡ true → es ≡ []
empty_is [] b e f = refl
empty_is (x ∷ es) b e f = absurd (grind arith)

nonempty : {b : Bool} → b ≡ (length {A = Sexp} [] == 0) → b ≡ false → ⊥
nonempty {b} e f = cc

-- lists and one after
rest_is : (rest : List Sexp) (first : Sexp) (behind : List Sexp) (body : Sexp) (end : List Sexp) → rest ≡ first ∷ behind → behind ≡ body ∷ end
    → exprs_of rest ≡ and_expr (expr first) (and_expr (expr body) (exprs_of end))
rest_is rest first behind body end p q = ap exprs_of (p ∙ ap (λ z. first ∷ z) q)

long_let : (at : ℕ) (x y : Expr) (end : List Sexp) (b : Bool) → b ≡ (length end == 0) → b ≡ false → let_of at (and_expr x (and_expr y (exprs_of end))) ≡ ill at
long_let at x y [] b e f = absurd (nonempty e f)
long_let at (atom a) y (z ∷ end) b e f = refl
long_let at (list at' es) y (z ∷ end) b e f = refl

pub let_long : (at : ℕ) (rest : List Sexp) (first : Sexp) (behind : List Sexp) (body : Sexp) (end : List Sexp) (b : Bool) → rest ≡ first ∷ behind → behind ≡ body ∷ end
    → b ≡ (length end == 0) → b ≡ false → let_of at (exprs_of rest) ≡ ill at
let_long at rest first behind body end b p q e f = ap (let_of at) (rest_is rest first behind body end p q) ∙ long_let at (expr first) (expr body) end b e f

pub let_known : (at : ℕ) (rest : List Sexp) (first : Sexp) (behind : List Sexp) (body : Sexp) (end : List Sexp) (b : Bool) (at' : ℕ) (pairs : List Sexp) (bs : Option (List BoundTerm))
    → rest ≡ first ∷ behind → behind ≡ body ∷ end → b ≡ (length end == 0) → b ≡ true → first ≡ s.List at' pairs → bs ≡ bindings_in (exprs_of pairs)
    → let_of at (exprs_of rest) ≡ let_phrase at bs (phrase_of (expr body))
let_known at rest first behind body end b at' pairs bs p q e f is k =
    ap (let_of at) (rest_is rest first behind body end p q)
    ∙ ap (λ z. let_of at (and_expr z (and_expr (expr body) (exprs_of end)))) (ap expr is ∙ expr-List at' pairs)
    ∙ ap (λ z. let_of at (and_expr (list at' (exprs_of pairs)) (and_expr (expr body) (exprs_of z)))) (empty_is end b e f)
    ∙ ap (λ z. let_phrase at z (phrase_of (expr body))) (sym k)

pub let_made : (at : ℕ) (bs : List BoundTerm) (t : PlacedTerm) (b : Bool) → b ≡ are_proper bs → b ≡ true → let_phrase at (Some bs) t ≡ let_in at (bindings bs) t
let_made at bs t b e f = ap (λ z. if z then let_in at (bindings bs) t else ill at) (sym e ∙ f)

pub let_refused : (at : ℕ) (bs : List BoundTerm) (t : PlacedTerm) (b : Bool) → b ≡ are_proper bs → b ≡ false → let_phrase at (Some bs) t ≡ ill at
let_refused at bs t b e f = ap (λ z. if z then let_in at (bindings bs) t else ill at) (sym e ∙ f)

long_quantified : (at : ℕ) (all : Bool) (x y : Expr) (end : List Sexp) (b : Bool) → b ≡ (length end == 0) → b ≡ false → quantified_of at all (and_expr x (and_expr y (exprs_of end))) ≡ ill at
long_quantified at all x y [] b e f = absurd (nonempty e f)
long_quantified at all (atom a) y (z ∷ end) b e f = refl
long_quantified at all (list at' es) y (z ∷ end) b e f = refl

pub quantified_long : (at : ℕ) (all : Bool) (rest : List Sexp) (first : Sexp) (behind : List Sexp) (body : Sexp) (end : List Sexp) (b : Bool) → rest ≡ first ∷ behind → behind ≡ body ∷ end
    → b ≡ (length end == 0) → b ≡ false → quantified_of at all (exprs_of rest) ≡ ill at
quantified_long at all rest first behind body end b p q e f =
    ap (quantified_of at all) (rest_is rest first behind body end p q) ∙ long_quantified at all (expr first) (expr body) end b e f

quantified_members : (at : ℕ) (all : Bool) (x y : Expr) (pairs : List Expr) → members_of x ≡ Some pairs
    → quantified_of at all (and_expr x (and_expr y no_expr)) ≡ quantified_phrase at all (variables_of pairs) (phrase_of y)
quantified_members at all (atom a) y pairs e = absurd (cc)
quantified_members at all (list at' es) y pairs e =
    let same : items es ≡ pairs = cc in
    ap (λ z. quantified_phrase at all (variables_of z) (phrase_of y)) same

pub quantified_known : (at : ℕ) (all : Bool) (rest : List Sexp) (first : Sexp) (behind : List Sexp) (body : Sexp) (end : List Sexp) (b : Bool) (pairs : List Expr) (xs : Option (List Variable))
    → rest ≡ first ∷ behind → behind ≡ body ∷ end → b ≡ (length end == 0) → b ≡ true → members_of (expr first) ≡ Some pairs → xs ≡ variables_of pairs
    → quantified_of at all (exprs_of rest) ≡ quantified_phrase at all xs (phrase_of (expr body))
quantified_known at all rest first behind body end b pairs xs p q e f is k =
    ap (quantified_of at all) (rest_is rest first behind body end p q)
    ∙ ap (λ z. quantified_of at all (and_expr (expr first) (and_expr (expr body) (exprs_of z)))) (empty_is end b e f)
    ∙ quantified_members at all (expr first) (expr body) pairs is
    ∙ ap (λ z. quantified_phrase at all z (phrase_of (expr body))) (sym k)

pub quantified_made : (at : ℕ) (all : Bool) (xs : List Variable) (t : PlacedTerm) (b : Bool) → (xs ≡ [] → IsTrue b) → b ≡ false → quantified_phrase at all (Some xs) t ≡ quantified at all xs t
quantified_made at all [] t b e f = let q = subst IsTrue f (e refl) in cc
quantified_made at all (x ∷ xs) t b e f = refl

items-exprs : (es : List Sexp) → items (exprs_of es) ≡ map expr es
items-exprs [] = refl
items-exprs (e ∷ es) = ap (λ z. expr e ∷ z) (items-exprs es)

pub note_is : (at : ℕ) (rest : List Sexp) (t : Sexp) (attributes : List Sexp) (b : Bool) → rest ≡ t ∷ attributes → b ≡ are_attributes (map expr attributes)
    → note_of at (exprs_of rest) ≡ (if b then annotated at (phrase_of (expr t)) else ill at)
note_is at rest t attributes b p e =
    ap (λ z. note_of at (exprs_of z)) p ∙ ap (λ z. if z then annotated at (phrase_of (expr t)) else ill at) (ap are_attributes (items-exprs attributes) ∙ sym e)

-- a binding

long_binding : (at : ℕ) (x y : Expr) (end : List Sexp) (b : Bool) → b ≡ (length end == 0) → b ≡ false → bound_read (list at (and_expr x (and_expr y (exprs_of end)))) ≡ None
long_binding at x y [] b e f = absurd (nonempty e f)
long_binding at x y (z ∷ end) b e f = refl

pair_is : (pair : Sexp) (at : ℕ) (members : List Sexp) (first : Sexp) (behind : List Sexp) (body : Sexp) (end : List Sexp) → pair ≡ s.List at members → members ≡ first ∷ behind → behind ≡ body ∷ end
    → expr pair ≡ list at (and_expr (expr first) (and_expr (expr body) (exprs_of end)))
pair_is pair at members first behind body end is p q = ap expr is ∙ expr-List at members ∙ ap (list at) (rest_is members first behind body end p q)

pub binding_long : (pair : Sexp) (at : ℕ) (members : List Sexp) (first : Sexp) (behind : List Sexp) (body : Sexp) (end : List Sexp) (b : Bool)
    → pair ≡ s.List at members → members ≡ first ∷ behind → behind ≡ body ∷ end → b ≡ (length end == 0) → b ≡ false → bound_read (expr pair) ≡ None
binding_long pair at members first behind body end b is p q e f = ap bound_read (pair_is pair at members first behind body end is p q) ∙ long_binding at (expr first) (expr body) end b e f

pub binding_known : (pair : Sexp) (at : ℕ) (members : List Sexp) (first : Sexp) (behind : List Sexp) (body : Sexp) (end : List Sexp) (b : Bool) (x : Option Symbol)
    → pair ≡ s.List at members → members ≡ first ∷ behind → behind ≡ body ∷ end → b ≡ (length end == 0) → b ≡ true → symbol_of (expr first) ≡ x
    → bound_read (expr pair) ≡ bound_by x (phrase_of (expr body))
binding_known pair at members first behind body end b x is p q e f named =
    ap bound_read (pair_is pair at members first behind body end is p q)
    ∙ ap (λ z. bound_read (list at (and_expr (expr first) (and_expr (expr body) (exprs_of z))))) (empty_is end b e f)
    ∙ ap (λ z. bound_by z (phrase_of (expr body))) named

-- several terms

all_are : (es : List Sexp) → phrases (map (λ e. phrase_of (expr e)) es) ≡ phrases_in (exprs_of es)
all_are [] = refl
all_are (e ∷ es) = ap (and_phrase (phrase_of (expr e))) (all_are es)

pub all_read : (terms : List Term) (es : List Sexp) (i : ℕ) → length es ≤ i → map phrase terms ≡ map (λ e. phrase_of (expr e)) (take i es) → phrases_of terms ≡ phrases_in (exprs_of es)
all_read terms es i h k = ap phrases (k ∙ ap (map (λ e. phrase_of (expr e))) (take_all i es h)) ∙ all_are es
