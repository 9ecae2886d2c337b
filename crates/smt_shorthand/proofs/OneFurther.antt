-- One function further, and one command further.
use Rattle.std.proofs.Common.{ℕ, ◌≡◌, List, [], ◌∷◌, ◌++◌, map, refl, sym, ap, ◌∙◌, Option, Some, None}
use Rattle.smt_lists.specs.declared.tree.Sexp.{Sexp}
use Rattle.smt_lists.specs.Expressions.{Expr, expr}
use Rattle.smt_commands.specs.Commands.{members_of}
use Rattle.smt_shorthand.specs.declared.functions.Function.{Function}
use Rattle.smt_shorthand.specs.Functions.{Made, function_in, functions_from, made, written, written_from}

pub map_more : {A B : Type 0} (f : A → B) (xs ys : List A) → map f (xs ++ ys) ≡ map f xs ++ map f ys
map_more f [] ys = refl
map_more f (x ∷ xs) ys = ap (λ k. f x ∷ k) (map_more f xs ys)

pub append_more : {A : Type 0} (xs ys zs : List A) → (xs ++ ys) ++ zs ≡ xs ++ (ys ++ zs)
append_more [] ys zs = refl
append_more (x ∷ xs) ys zs = ap (λ k. x ∷ k) (append_more xs ys zs)

-- the commands so far, after those that come of one more
pub written_on : (out more new : List Sexp) (e : Sexp) (es : List Sexp) (whole : List Expr) → new ≡ out ++ more → map expr more ≡ written (expr e)
    → map expr out ++ written_from (map expr (e ∷ es)) ≡ whole → map expr new ++ written_from (map expr es) ≡ whole
written_on out more new e es whole is known w =
    ap (λ z. map expr z ++ written_from (map expr es)) is ∙ ap (λ z. z ++ written_from (map expr es)) (map_more expr out more)
    ∙ append_more (map expr out) (map expr more) (written_from (map expr es)) ∙ ap (λ z. map expr out ++ (z ++ written_from (map expr es))) known ∙ w

-- what comes of the functions after one
abbrev after_one : ℕ → List Expr → List Expr → List Expr → List Expr → Option Made → Option (List Expr)
after_one at ds cs ss ts None = None
after_one at ds cs ss ts (Some m) = functions_from at (ds ++ m.declaration ∷ []) (cs ++ m.assertion ∷ []) ss ts

begun : (at : ℕ) (ds cs ss ts : List Expr) (o : Option Made) → (elim o [
  | None ↦ None
  | Some m ↦ functions_from at (ds ++ m.declaration ∷ []) (cs ++ m.assertion ∷ []) ss ts
]) ≡ after_one at ds cs ss ts o
begun at ds cs ss ts None = refl
begun at ds cs ss ts (Some m) = refl

begins : (at : ℕ) (ds cs : List Expr) (ss ts more behind : List Sexp) (s t : Sexp) → ss ≡ s ∷ more → ts ≡ t ∷ behind
    → functions_from at ds cs (map expr ss) (map expr ts) ≡ after_one at ds cs (map expr more) (map expr behind) (function_in at (members_of (expr s)) (expr t))
begins at ds cs ss ts more behind s t p q =
    ap (λ z. functions_from at ds cs (map expr z) (map expr ts)) p ∙ ap (λ z. functions_from at ds cs (map expr (s ∷ more)) (map expr z)) q
    ∙ begun at ds cs (map expr more) (map expr behind) (function_in at (members_of (expr s)) (expr t))

pub functions_on : (at : ℕ) (ds cs ss ts new newer more behind : List Sexp) (s t : Sexp) (f : Function) (whole : Option (List Expr)) → ss ≡ s ∷ more → ts ≡ t ∷ behind
    → Some (made f) ≡ function_in at (members_of (expr s)) (expr t) → new ≡ ds ++ f.declaration ∷ [] → newer ≡ cs ++ f.assertion ∷ []
    → functions_from at (map expr ds) (map expr cs) (map expr ss) (map expr ts) ≡ whole → functions_from at (map expr new) (map expr newer) (map expr more) (map expr behind) ≡ whole
functions_on at ds cs ss ts new newer more behind s t f whole p q known d a w =
    ap (λ z. functions_from at z (map expr newer) (map expr more) (map expr behind)) (ap (map expr) d ∙ map_more expr ds (f.declaration ∷ []))
    ∙ ap (λ z. functions_from at (map expr ds ++ expr f.declaration ∷ []) z (map expr more) (map expr behind)) (ap (map expr) a ∙ map_more expr cs (f.assertion ∷ []))
    ∙ ap (after_one at (map expr ds) (map expr cs) (map expr more) (map expr behind)) known
    ∙ sym (begins at (map expr ds) (map expr cs) ss ts more behind s t p q) ∙ w

pub functions_off : (at : ℕ) (ds cs ss ts more behind : List Sexp) (s t : Sexp) (whole : Option (List Expr)) → ss ≡ s ∷ more → ts ≡ t ∷ behind
    → None ≡ function_in at (members_of (expr s)) (expr t) → functions_from at (map expr ds) (map expr cs) (map expr ss) (map expr ts) ≡ whole → None ≡ whole
functions_off at ds cs ss ts more behind s t whole p q known w =
    ap (after_one at (map expr ds) (map expr cs) (map expr more) (map expr behind)) known
    ∙ sym (begins at (map expr ds) (map expr cs) ss ts more behind s t p q) ∙ w

pub functions_short : (at : ℕ) (ds cs ss ts more : List Sexp) (s : Sexp) (whole : Option (List Expr)) → ss ≡ s ∷ more → ts ≡ []
    → functions_from at (map expr ds) (map expr cs) (map expr ss) (map expr ts) ≡ whole → None ≡ whole
functions_short at ds cs ss ts more s whole p q w =
    sym (ap (λ z. functions_from at (map expr ds) (map expr cs) (map expr z) (map expr ts)) p ∙ ap (λ z. functions_from at (map expr ds) (map expr cs) (map expr (s ∷ more)) (map expr z)) q) ∙ w

pub functions_done : (at : ℕ) (ds cs ss ts new : List Sexp) (whole : Option (List Expr)) → ss ≡ [] → ts ≡ [] → new ≡ ds ++ cs
    → functions_from at (map expr ds) (map expr cs) (map expr ss) (map expr ts) ≡ whole → Some (map expr new) ≡ whole
functions_done at ds cs ss ts new whole p q is w =
    ap (λ z. Some z) (ap (map expr) is ∙ map_more expr ds cs)
    ∙ sym (ap (λ z. functions_from at (map expr ds) (map expr cs) (map expr z) (map expr ts)) p ∙ ap (λ z. functions_from at (map expr ds) (map expr cs) [] (map expr z)) q) ∙ w

long : (at : ℕ) (ds cs : List Expr) (ts : List Sexp) → (ts ≡ [] → ⊥) → functions_from at ds cs [] (map expr ts) ≡ None
long at ds cs [] n = absurd (n refl)
long at ds cs (t ∷ ts) n = refl

pub functions_long : (at : ℕ) (ds cs ss ts : List Sexp) (whole : Option (List Expr)) → ss ≡ [] → (ts ≡ [] → ⊥)
    → functions_from at (map expr ds) (map expr cs) (map expr ss) (map expr ts) ≡ whole → None ≡ whole
functions_long at ds cs ss ts whole p n w =
    sym (ap (λ z. functions_from at (map expr ds) (map expr cs) (map expr z) (map expr ts)) p ∙ long at (map expr ds) (map expr cs) ts n) ∙ w
