-- The steps of the loops over numerals.
use Rattle.std.proofs.Common.{ℕ, ◌≡◌, ◌<◌, ◌≤◌, ◌+◌, List, [], ◌∷◌, ◌++◌, length, get_or, drop, map, refl, sym, ap, ◌∙◌, Option, Some, None, append_assoc, ℤ, arith}
use Rattle.std.proofs.lemmas.List.{at_drop_more}
use Rattle.smt_lists.specs.declared.tree.Sexp.{Sexp}
use Rattle.smt_lists.specs.Expressions.{expr, exprs_of}
use Rattle.std.specs.Option.{option_and_then, option_map}
use Rattle.smt_division.specs.declared.divisors.Sign.{Sign}
use Rattle.smt_division.specs.Divisors.{applied, before, folded, total, values, within}

-- these, with what comes after them, if it comes
abbrev pub joined : {A : Type 0} → List A → Option (List A) → Option (List A)
joined xs o = option_map (λ ys. xs ++ ys) o

joined_before : (ns : List ℤ) (n : ℤ) (o : Option (List ℤ)) → joined ns (before (Some n) o) ≡ joined (ns ++ n ∷ []) o
joined_before ns n None = refl
joined_before ns n (Some vs) = ap Some (sym (append_assoc ns (n ∷ []) vs))

pub values_more : (ns : List ℤ) (es : List Sexp) (i : ℕ) (e : Sexp) (n : ℤ) → i < length es → e ≡ get_or es i e → Some n ≡ folded (expr e)
    → joined (ns ++ n ∷ []) (values (exprs_of (drop (i + 1) es))) ≡ joined ns (values (exprs_of (drop i es)))
values_more ns es i e n h is known =
    sym (at_drop_more (λ z. joined ns (values (exprs_of z))) es i e h
    ∙ ap (λ z. joined ns (before (folded (expr z)) (values (exprs_of (drop (i + 1) es))))) (sym is)
    ∙ ap (λ z. joined ns (before z (values (exprs_of (drop (i + 1) es))))) (sym known)
    ∙ joined_before ns n (values (exprs_of (drop (i + 1) es))))

-- the rest of a total, by what its next step comes to
abbrev pub goes_on : Sign → List ℤ → Option ℤ → Option ℤ
goes_on s ws o = option_and_then (λ z. total s z ws) o

pub total_more : (s : Sign) (v d : ℤ) (ws : List ℤ) (i : ℕ) (o : Option ℤ) → i < length ws → o ≡ within (applied s v (get_or ws i d))
    → total s v (drop i ws) ≡ goes_on s (drop (i + 1) ws) o
total_more s v d ws i o h known = at_drop_more (total s v) ws i d h ∙ ap (goes_on s (drop (i + 1) ws)) (sym known)
