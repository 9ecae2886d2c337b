-- What the loops keep that read lists.
use Rattle.std.proofs.Common.{ℕ, ◌≡◌, ◌<◌, ◌≤◌, ◌+◌, List, [], ◌∷◌, ◌++◌, length, get_or, drop, map, refl, sym, ap, ◌∙◌, append_assoc, arith, rules, Option}
use Rattle.std.specs.Option.{option_map}
use Rattle.std.proofs.lemmas.List.{at_drop_more, at_drop_all, map-append, append-nil}
use Rattle.smt_lists.specs.declared.tree.Sexp.{Sexp}
use Rattle.smt_lists.specs.Expressions.{Expr, Exprs, no_expr, expr, exprs_of, place_of}
use Rattle.smt_division.specs.Terms.{Reduct, Reducts, together, with_reduct, closed, closed_all, reduct, reducts, bound_reduct, bound_reducts, nothing}
use Rattle.smt_division.proofs.Shapes.{reducts-none, reducts-more, closed_all-none, closed_all-more, bound_reducts-none, bound_reducts-more}

-- some terms, with others after them
abbrev pub followed : Reducts → Reducts → Reducts
followed ps qs = record { terms = ps.terms ++ qs.terms; variables = ps.variables ++ qs.variables; conditions = ps.conditions ++ qs.conditions }

abbrev made : List Expr → List Expr → List Expr → Reducts
made a b c = record { terms = a; variables = b; conditions = c }

followed_together : (ps qs : Reducts) (p : Reduct) → followed (with_reduct ps p) qs ≡ followed ps (together p qs)
followed_together ps qs p =
    ap (λ z. made z ((ps.variables ++ p.variables) ++ qs.variables) ((ps.conditions ++ p.conditions) ++ qs.conditions)) (append_assoc ps.terms (p.term ∷ []) qs.terms)
    ∙ ap (λ z. made (ps.terms ++ p.term ∷ qs.terms) z ((ps.conditions ++ p.conditions) ++ qs.conditions)) (append_assoc ps.variables p.variables qs.variables)
    ∙ ap (made (ps.terms ++ p.term ∷ qs.terms) (ps.variables ++ (p.variables ++ qs.variables))) (append_assoc ps.conditions p.conditions qs.conditions)

pub reducts_next : (ps : Reducts) (p : Reduct) (es : List Sexp) (i : ℕ) (e : Sexp) → i < length es → e ≡ get_or es i e → p ≡ reduct (expr e)
    → followed (with_reduct ps p) (reducts (exprs_of (drop (i + 1) es))) ≡ followed ps (reducts (exprs_of (drop i es)))
reducts_next ps p es i e h is known =
    followed_together ps (reducts (exprs_of (drop (i + 1) es))) p
    ∙ ap (λ z. followed ps (together z (reducts (exprs_of (drop (i + 1) es))))) (known ∙ ap (λ z. reduct (expr z)) is)
    ∙ ap (followed ps) (sym (reducts-more (expr (get_or es i e)) (exprs_of (drop (i + 1) es))))
    ∙ sym (at_drop_more (λ z. followed ps (reducts (exprs_of z))) es i e h)

pub bindings_next : (ps : Reducts) (p : Reduct) (es : List Sexp) (i : ℕ) (e : Sexp) → i < length es → e ≡ get_or es i e → p ≡ bound_reduct (expr e)
    → followed (with_reduct ps p) (bound_reducts (exprs_of (drop (i + 1) es))) ≡ followed ps (bound_reducts (exprs_of (drop i es)))
bindings_next ps p es i e h is known =
    followed_together ps (bound_reducts (exprs_of (drop (i + 1) es))) p
    ∙ ap (λ z. followed ps (together z (bound_reducts (exprs_of (drop (i + 1) es))))) (known ∙ ap (λ z. bound_reduct (expr z)) is)
    ∙ ap (followed ps) (sym (bound_reducts-more (expr (get_or es i e)) (exprs_of (drop (i + 1) es))))
    ∙ sym (at_drop_more (λ z. followed ps (bound_reducts (exprs_of z))) es i e h)

followed_nothing : (ps : Reducts) → followed ps nothing ≡ ps
followed_nothing ps =
    ap (λ z. made z (ps.variables ++ []) (ps.conditions ++ [])) (append-nil ps.terms) ∙ ap (λ z. made ps.terms z (ps.conditions ++ [])) (append-nil ps.variables)
    ∙ ap (made ps.terms ps.variables) (append-nil ps.conditions)

pub reducts_end : (ps : Reducts) (es : List Sexp) (i : ℕ) → length es ≤ i → followed ps (reducts (exprs_of (drop i es))) ≡ ps
reducts_end ps es i h = at_drop_all (λ z. followed ps (reducts (exprs_of z))) es i h ∙ ap (followed ps) reducts-none ∙ followed_nothing ps

pub bindings_end : (ps : Reducts) (es : List Sexp) (i : ℕ) → length es ≤ i → followed ps (bound_reducts (exprs_of (drop i es))) ≡ ps
bindings_end ps es i h = at_drop_all (λ z. followed ps (bound_reducts (exprs_of z))) es i h ∙ ap (followed ps) bound_reducts-none ∙ followed_nothing ps

pub closed_next : (fs : List Expr) (f : Expr) (es : List Sexp) (i : ℕ) (e : Sexp) → i < length es → e ≡ get_or es i e → f ≡ closed (place_of (expr e)) (reduct (expr e))
    → (fs ++ f ∷ []) ++ closed_all (exprs_of (drop (i + 1) es)) ≡ fs ++ closed_all (exprs_of (drop i es))
closed_next fs f es i e h is known =
    append_assoc fs (f ∷ []) (closed_all (exprs_of (drop (i + 1) es)))
    ∙ ap (λ z. fs ++ z ∷ closed_all (exprs_of (drop (i + 1) es))) (known ∙ ap (λ z. closed (place_of (expr z)) (reduct (expr z))) is)
    ∙ ap (λ z. fs ++ z) (sym (closed_all-more (expr (get_or es i e)) (exprs_of (drop (i + 1) es))))
    ∙ sym (at_drop_more (λ z. fs ++ closed_all (exprs_of z)) es i e h)

pub closed_end : (fs : List Expr) (es : List Sexp) (i : ℕ) → length es ≤ i → fs ++ closed_all (exprs_of (drop i es)) ≡ fs
closed_end fs es i h = at_drop_all (λ z. fs ++ closed_all (exprs_of z)) es i h ∙ ap (λ z. fs ++ z) closed_all-none ∙ append-nil fs
