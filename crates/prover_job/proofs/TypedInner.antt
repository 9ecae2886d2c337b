-- The text of a formula over the symbols of a problem has no line feed.
use Rattle.std.proofs.Common.{ℕ, suc, ◌-◌, Bool, true, false, cond, nat_lt, List, [], ◌∷◌, ◌++◌, length, map, slice_index_or, refl, codes}
use Rattle.std.specs.Fmt.{decimal, signed_decimal}
use Rattle.std.specs.List.{AllByRecursion}
use Rattle.std.proofs.lemmas.List.Elements.{recursion_from_All}
use Rattle.form_typed.specs.Formula.{Formula, Formulas, Expression, Expressions, constant, compares, applies, negation, every, some, implies, iff, for_all, for_some, part, no_formula, and_formula, number, name, call, minus, total, product, choice, absolute, lesser, greater, no_expression, and_expression}
use Rattle.form_typed.specs.declared.typed.Relation.{Relation}
use Rattle.form_typed.specs.declared.typed.Relation.TheVariants as relation
use Rattle.form_typed.specs.declared.typed.Sort.{Sort}
use Rattle.form_typed.specs.declared.typed.Sort.TheVariants.{Int, Nat, Range}
use Rattle.pri_tokens.specs.Written.{IsIdentifier}
use Rattle.pri_typing.specs.declared.problem.Problem.{Problem}
use Rattle.pri_typing.specs.declared.problem.Symbol.{Symbol}
use Rattle.pri_typing.specs.WellFormed.{HasIdentifiers, names_of_symbols}
use Rattle.pri_printer.specs.Printed.{constants_of}
use Rattle.pri_printer.specs.Text.{behind_each}
use Rattle.itp_printer.specs.Text.{grouped, joined_text, applied_text}
use Rattle.itp_printer.specs.TypedText.{bound_text, formula_text, formula_texts, name_text, quantifier_text, relation_text, sort_text, symbol_text, term_text, term_texts, truth_text}
use Rattle.itp_printer.specs.Variables.{variable_number, variable_text}
use Rattle.prover_job.proofs.Lines.{AreInner, inner_append, inner_word}
use Rattle.prover_job.proofs.Printed.{AreNames, commas_inner, constants_inner, decimal_inner, either_inner, front_names, identifiers_inner, indexed, signed_inner}

pub back_names : (xs ys : List (List ℕ)) → AreNames (xs ++ ys) → AreNames ys
back_names [] ys h = h
back_names (x ∷ xs) ys h = back_names xs ys h.1

abbrev names_of : List Symbol → List (List ℕ)
names_of = map (λ (y : Symbol). y.name)

all_inner : (p : Problem) → HasIdentifiers p → AreNames (names_of_symbols p)
all_inner p h = identifiers_inner (names_of_symbols p) (recursion_from_All IsIdentifier (names_of_symbols p) h)

predicates_inner : (p : Problem) → HasIdentifiers p → AreNames (names_of p.predicates)
predicates_inner p h = back_names (constants_of p ++ names_of p.functions) (names_of p.predicates) (all_inner p h)

functions_inner : (p : Problem) → HasIdentifiers p → AreNames (names_of p.functions)
functions_inner p h = back_names (constants_of p) (names_of p.functions) (front_names (constants_of p ++ names_of p.functions) (names_of p.predicates) (all_inner p h))

grouped_inner : (u : List ℕ) → AreInner u → AreInner (grouped u)
grouped_inner u h = (refl, inner_append u (codes ")") h (refl, tt))

others_inner : (sign : List ℕ) (us : List (List ℕ)) → AreInner sign → AreNames us → AreInner (behind_each sign (map grouped us))
others_inner sign [] s h = tt
others_inner sign (u ∷ us) s h =
    inner_append sign (grouped u ++ behind_each sign (map grouped us)) s (inner_append (grouped u) (behind_each sign (map grouped us)) (grouped_inner u h.0) (others_inner sign us s h.1))

joined_inner : (empty sign : List ℕ) (us : List (List ℕ)) → AreInner empty → AreInner sign → AreNames us → AreInner (joined_text empty sign us)
joined_inner empty sign [] e s h = e
joined_inner empty sign (u ∷ []) e s h = h.0
joined_inner empty sign (u ∷ v ∷ us) e s h = inner_append (grouped u) (behind_each sign (map grouped (v ∷ us))) (grouped_inner u h.0) (others_inner sign (v ∷ us) s h.1)

applied_inner : (symbol : List ℕ) (us : List (List ℕ)) → AreInner symbol → AreNames us → AreInner (applied_text symbol us)
applied_inner symbol [] s h = s
applied_inner symbol (u ∷ us) s h =
    inner_append symbol (grouped (u ++ behind_each (codes ", ") us)) s (grouped_inner (u ++ behind_each (codes ", ") us) (inner_append u (behind_each (codes ", ") us) h.0 (commas_inner us h.1)))

truth_inner : (b : Bool) → AreInner (truth_text b)
truth_inner true = inner_word (truth_text true) refl
truth_inner false = inner_word (truth_text false) refl

relation_inner : (r : Relation) → AreInner (relation_text r)
relation_inner relation.Eq = inner_word (relation_text relation.Eq) refl
relation_inner relation.Neq = inner_word (relation_text relation.Neq) refl
relation_inner relation.Lt = inner_word (relation_text relation.Lt) refl
relation_inner relation.Leq = inner_word (relation_text relation.Leq) refl
relation_inner relation.Gt = inner_word (relation_text relation.Gt) refl
relation_inner relation.Geq = inner_word (relation_text relation.Geq) refl

quantifier_inner : (all : Bool) → AreInner (quantifier_text all)
quantifier_inner true = inner_word (quantifier_text true) refl
quantifier_inner false = inner_word (quantifier_text false) refl

sort_inner : (s : Sort) → AreInner (sort_text s)
sort_inner Int = inner_word (codes "int") refl
sort_inner Nat = inner_word (codes "nat") refl
sort_inner (Range a b) =
    inner_append (codes "int[") _ (inner_word (codes "int[") refl) (inner_append (signed_decimal a) _ (signed_inner a)
    (inner_append (codes ", ") _ (inner_word (codes ", ") refl) (inner_append (signed_decimal b) (codes "]") (signed_inner b) (inner_word (codes "]") refl))))

variable_inner : (p : Problem) (d : ℕ) → AreInner (variable_text p d)
variable_inner p d = (refl, decimal_inner (variable_number p d))

bound_inner : (p : Problem) (all : Bool) (s : Sort) (d : ℕ) (body : List ℕ) → AreInner body → AreInner (bound_text all s (variable_text p d) body)
bound_inner p all s d body h =
    inner_append (quantifier_text all) _ (quantifier_inner all) (inner_append (codes " ") _ (inner_word (codes " ") refl) (inner_append (sort_text s) _ (sort_inner s)
    (inner_append (codes " ") (variable_text p d ++ (codes "; " ++ grouped body)) (inner_word (codes " ") refl) (inner_append (variable_text p d) (codes "; " ++ grouped body) (variable_inner p d)
    (inner_append (codes "; ") (grouped body) (inner_word (codes "; ") refl) (grouped_inner body h))))))

between : (xs sign ys : List ℕ) → AreInner xs → AreInner sign → AreInner ys → AreInner (xs ++ (sign ++ ys))
between xs sign ys h s k = inner_append xs (sign ++ ys) h (inner_append sign ys s k)

module _ (p : Problem) (h : HasIdentifiers p) where
  named_inner : (x : ℕ) → AreInner (name_text p x)
  named_inner x =
      either_inner (nat_lt x (length (constants_of p))) (slice_index_or (constants_of p) x []) (variable_text p (x - length (constants_of p))) (indexed (constants_of p) x (constants_inner p h))
      (variable_inner p (x - length (constants_of p)))

  mutual
    formula_inside : (d : ℕ) (f : Formula) → AreInner (formula_text p d f)
    formula_inside d (constant b) = truth_inner b
    formula_inside d (compares r s t) = between (term_text p d s) (relation_text r) (term_text p d t) (term_inside d s) (relation_inner r) (term_inside d t)
    formula_inside d (applies k ts) = applied_inner (symbol_text p.predicates k) (term_texts p d ts) (indexed (names_of p.predicates) k (predicates_inner p h)) (terms_inside d ts)
    formula_inside d (negation f) = (refl, grouped_inner (formula_text p d f) (formula_inside d f))
    formula_inside d (every fs) = joined_inner (codes "true") (codes " & ") (formula_texts p d fs) (inner_word (codes "true") refl) (inner_word (codes " & ") refl) (formulas_inside d fs)
    formula_inside d (some fs) = joined_inner (codes "false") (codes " | ") (formula_texts p d fs) (inner_word (codes "false") refl) (inner_word (codes " | ") refl) (formulas_inside d fs)
    formula_inside d (implies f g) =
        between (grouped (formula_text p d f)) (codes " -> ") (grouped (formula_text p d g)) (grouped_inner (formula_text p d f) (formula_inside d f)) (inner_word (codes " -> ") refl)
        (grouped_inner (formula_text p d g) (formula_inside d g))
    formula_inside d (iff f g) =
        between (grouped (formula_text p d f)) (codes " <-> ") (grouped (formula_text p d g)) (grouped_inner (formula_text p d f) (formula_inside d f)) (inner_word (codes " <-> ") refl)
        (grouped_inner (formula_text p d g) (formula_inside d g))
    formula_inside d (for_all s f) = bound_inner p true s d (formula_text p (suc d) f) (formula_inside (suc d) f)
    formula_inside d (for_some s f) = bound_inner p false s d (formula_text p (suc d) f) (formula_inside (suc d) f)
    formula_inside d (part k f) = formula_inside d f

    formulas_inside : (d : ℕ) (fs : Formulas) → AreNames (formula_texts p d fs)
    formulas_inside d no_formula = tt
    formulas_inside d (and_formula f fs) = (formula_inside d f, formulas_inside d fs)

    term_inside : (d : ℕ) (t : Expression) → AreInner (term_text p d t)
    term_inside d (number v) = signed_inner v
    term_inside d (name x) = named_inner x
    term_inside d (call k ts) = applied_inner (symbol_text p.functions k) (term_texts p d ts) (indexed (names_of p.functions) k (functions_inner p h)) (terms_inside d ts)
    term_inside d (minus t) = (refl, grouped_inner (term_text p d t) (term_inside d t))
    term_inside d (total ts) = joined_inner (codes "0") (codes " + ") (term_texts p d ts) (inner_word (codes "0") refl) (inner_word (codes " + ") refl) (terms_inside d ts)
    term_inside d (product s t) =
        between (grouped (term_text p d s)) (codes "*") (grouped (term_text p d t)) (grouped_inner (term_text p d s) (term_inside d s)) (inner_word (codes "*") refl)
        (grouped_inner (term_text p d t) (term_inside d t))
    term_inside d (choice f s t) =
        inner_append (codes "\\if ") (grouped (formula_text p d f) ++ (codes " \\then " ++ (grouped (term_text p d s) ++ (codes " \\else " ++ grouped (term_text p d t))))) (inner_word (codes "\\if ") refl)
        (between (grouped (formula_text p d f)) (codes " \\then ") (grouped (term_text p d s) ++ (codes " \\else " ++ grouped (term_text p d t))) (grouped_inner (formula_text p d f) (formula_inside d f)) (inner_word (codes " \\then ") refl)
        (between (grouped (term_text p d s)) (codes " \\else ") (grouped (term_text p d t)) (grouped_inner (term_text p d s) (term_inside d s)) (inner_word (codes " \\else ") refl)
        (grouped_inner (term_text p d t) (term_inside d t))))
    term_inside d (absolute t) = inner_append (codes "\\abs") (grouped (term_text p d t)) (inner_word (codes "\\abs") refl) (grouped_inner (term_text p d t) (term_inside d t))
    term_inside d (lesser s t) =
        inner_append (codes "\\min") (grouped (term_text p d s ++ (codes ", " ++ term_text p d t))) (inner_word (codes "\\min") refl)
        (grouped_inner (term_text p d s ++ (codes ", " ++ term_text p d t)) (between (term_text p d s) (codes ", ") (term_text p d t) (term_inside d s) (inner_word (codes ", ") refl) (term_inside d t)))
    term_inside d (greater s t) =
        inner_append (codes "\\max") (grouped (term_text p d s ++ (codes ", " ++ term_text p d t))) (inner_word (codes "\\max") refl)
        (grouped_inner (term_text p d s ++ (codes ", " ++ term_text p d t)) (between (term_text p d s) (codes ", ") (term_text p d t) (term_inside d s) (inner_word (codes ", ") refl) (term_inside d t)))

    terms_inside : (d : ℕ) (ts : Expressions) → AreNames (term_texts p d ts)
    terms_inside d no_expression = tt
    terms_inside d (and_expression t ts) = (term_inside d t, terms_inside d ts)

pub formula_inner : (p : Problem) (d : ℕ) (f : Formula) → HasIdentifiers p → AreInner (formula_text p d f)
formula_inner p d f h = formula_inside p h d f
