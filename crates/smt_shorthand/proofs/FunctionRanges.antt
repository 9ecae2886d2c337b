-- The commands of recursive definitions have numerals in range, where the definitions have.
use Rattle.std.proofs.Common.{ℕ, List, [], ◌∷◌, ◌++◌, map, Bool, true, false, Option, Some, None, if◌then◌else◌, codes}
use Rattle.std.specs.List.{list_any}
use Rattle.smt_lists.specs.Expressions.{Expr, Exprs, atom, list, no_expr, and_expr, place_of}
use Rattle.smt_commands.specs.Commands.{Symbol, items, members_of, symbol_of}
use Rattle.smt_shorthand.specs.Defining.{begins_with, sorts_written_out}
use Rattle.smt_shorthand.specs.Equations.{assertion, claim, declaration, equation, first_of, second_of, use_of}
use Rattle.smt_shorthand.specs.Functions.{Made, are_proper, commands_by, defines_function, function_by, function_in, function_signed, functions_among, functions_by, functions_from, functions_of, functions_written_out, one_in, or_itself, several_in, written, written_from}
use Rattle.smt_shorthand.specs.Ranged.{AreRangedExprs, IsRangedExpr}
use Rattle.smt_shorthand.specs.Writing.{written_out}
use Rattle.smt_shorthand.proofs.Ranges.{AreRanged, exprs_ranged, sorts_ranged}

-- these, where there are some
abbrev AreMaybe : Option (List Expr) → Type 0
AreMaybe None = Unit {0}
AreMaybe (Some es) = AreRanged es

abbrev IsMade : Option Made → Type 0
IsMade None = Unit {0}
IsMade (Some m) = IsRangedExpr m.declaration × IsRangedExpr m.assertion

items_ranged : (es : Exprs) → AreRangedExprs es → AreRanged (items es)
items_ranged no_expr h = tt
items_ranged (and_expr e es) h = (h.0, items_ranged es h.1)

members_ranged : (e : Expr) → IsRangedExpr e → AreMaybe (members_of e)
members_ranged (atom a) h = tt
members_ranged (list at es) h = items_ranged es h

first_ranged : (e : Expr) → IsRangedExpr e → IsRangedExpr (first_of e)
first_ranged (atom a) h = h
first_ranged (list at no_expr) h = h
first_ranged (list at (and_expr x es)) h = h.0

second_ranged : (e : Expr) → IsRangedExpr e → IsRangedExpr (second_of e)
second_ranged (atom a) h = h
second_ranged (list at no_expr) h = h
second_ranged (list at (and_expr x no_expr)) h = h
second_ranged (list at (and_expr x (and_expr s es))) h = h.1.0

map_ranged : (f : Expr → Expr) → ((e : Expr) → IsRangedExpr e → IsRangedExpr (f e)) → (es : List Expr) → AreRanged es → AreRanged (map f es)
map_ranged f k [] h = tt
map_ranged f k (e ∷ es) h = (k e h.0, map_ranged f k es h.1)

append_ranged : (es fs : List Expr) → AreRanged es → AreRanged fs → AreRanged (es ++ fs)
append_ranged [] fs h k = k
append_ranged (e ∷ es) fs h k = (h.0, append_ranged es fs h.1 k)

declaration_ranged : (at : ℕ) (f : Expr) (vs : List Expr) (r : Expr) → IsRangedExpr f → AreRanged vs → IsRangedExpr r → IsRangedExpr (declaration at f vs r)
declaration_ranged at f vs r hf hv hr = (tt, (hf, (exprs_ranged (map second_of vs) (map_ranged second_of second_ranged vs hv), (hr, tt))))

use_ranged : (at : ℕ) (f : Expr) (vs : List Expr) → IsRangedExpr f → AreRanged vs → IsRangedExpr (use_of at f vs)
use_ranged at f [] hf hv = hf
use_ranged at f (v ∷ vs) hf hv = (hf, exprs_ranged (map first_of (v ∷ vs)) (map_ranged first_of first_ranged (v ∷ vs) hv))

equation_ranged : (at : ℕ) (f : Expr) (vs : List Expr) (t : Expr) → IsRangedExpr f → AreRanged vs → IsRangedExpr t → IsRangedExpr (equation at f vs t)
equation_ranged at f vs t hf hv ht = (tt, (use_ranged at f vs hf hv, (ht, tt)))

claim_ranged : (at : ℕ) (f l : Expr) (vs : List Expr) (t : Expr) → IsRangedExpr f → IsRangedExpr l → AreRanged vs → IsRangedExpr t → IsRangedExpr (claim at f l vs t)
claim_ranged at f l [] t hf hl hv ht = equation_ranged at f [] t hf hv ht
claim_ranged at f l (v ∷ vs) t hf hl hv ht = (tt, (hl, (equation_ranged at f (v ∷ vs) t hf hv ht, tt)))

assertion_ranged : (at : ℕ) (f l : Expr) (vs : List Expr) (t : Expr) → IsRangedExpr f → IsRangedExpr l → AreRanged vs → IsRangedExpr t → IsRangedExpr (assertion at f l vs t)
assertion_ranged at f l vs t hf hl hv ht = (tt, (claim_ranged at f l vs t hf hl hv ht, tt))

made_if : (b : Bool) (m : Made) → IsRangedExpr m.declaration → IsRangedExpr m.assertion → IsMade (if b then Some m else None)
made_if true m h k = (h, k)
made_if false m h k = tt

signed_ranged : (at : ℕ) (f l r t : Expr) (x : Option Symbol) (vs : Option (List Expr)) → IsRangedExpr f → IsRangedExpr l → IsRangedExpr r → IsRangedExpr t → AreMaybe vs
    → IsMade (function_signed at f l r t x vs)
signed_ranged at f l r t None vs hf hl hr ht hv = tt
signed_ranged at f l r t (Some x) None hf hl hr ht hv = tt
signed_ranged at f l r t (Some x) (Some vs) hf hl hr ht hv =
    made_if (are_proper x.text vs) (record { declaration = declaration at f vs r; assertion = assertion at f l vs t }) (declaration_ranged at f vs r hf hv hr) (assertion_ranged at f l vs t hf hl hv ht)

function_ranged : (at : ℕ) (f l r t : Expr) → IsRangedExpr f → IsRangedExpr l → IsRangedExpr r → IsRangedExpr t → IsMade (function_by at f l r t)
function_ranged at f l r t hf hl hr ht = signed_ranged at f l r t (symbol_of f) (members_of l) hf hl hr ht (members_ranged l hl)

in_ranged : (at : ℕ) (ms : Option (List Expr)) (t : Expr) → AreMaybe ms → IsRangedExpr t → IsMade (function_in at ms t)
in_ranged at None t h ht = tt
in_ranged at (Some []) t h ht = tt
in_ranged at (Some (f ∷ [])) t h ht = tt
in_ranged at (Some (f ∷ l ∷ [])) t h ht = tt
in_ranged at (Some (f ∷ l ∷ r ∷ [])) t h ht = function_ranged at f l r t h.0 h.1.0 h.1.1.0 ht
in_ranged at (Some (f ∷ l ∷ r ∷ x ∷ es)) t h ht = tt

one_more : (at : ℕ) (ds cs ss ts : List Expr) (o : Option Made) → IsMade o
    → ((m : Made) → IsMade (Some m) → AreMaybe (functions_from at (ds ++ m.declaration ∷ []) (cs ++ m.assertion ∷ []) ss ts)) → AreMaybe (elim o [
      | None ↦ None
      | Some m ↦ functions_from at (ds ++ m.declaration ∷ []) (cs ++ m.assertion ∷ []) ss ts
    ])
one_more at ds cs ss ts None h k = tt
one_more at ds cs ss ts (Some m) h k = k m h

from_ranged : (at : ℕ) (ds cs ss ts : List Expr) → AreRanged ds → AreRanged cs → AreRanged ss → AreRanged ts → AreMaybe (functions_from at ds cs ss ts)
from_ranged at ds cs [] [] hd hc hs ht = append_ranged ds cs hd hc
from_ranged at ds cs [] (t ∷ ts) hd hc hs ht = tt
from_ranged at ds cs (s ∷ ss) [] hd hc hs ht = tt
from_ranged at ds cs (s ∷ ss) (t ∷ ts) hd hc hs ht =
    one_more at ds cs ss ts (function_in at (members_of s) t) (in_ranged at (members_of s) t (members_ranged s hs.0) ht.0)
    (λ m h. from_ranged at (ds ++ m.declaration ∷ []) (cs ++ m.assertion ∷ []) ss ts (append_ranged ds (m.declaration ∷ []) hd (h.0, tt)) (append_ranged cs (m.assertion ∷ []) hc (h.1, tt)) hs.1 ht.1)

by_ranged : (at : ℕ) (ss ts : Option (List Expr)) → AreMaybe ss → AreMaybe ts → AreMaybe (functions_by at ss ts)
by_ranged at None ts hs ht = tt
by_ranged at (Some []) ts hs ht = tt
by_ranged at (Some (s ∷ ss)) None hs ht = tt
by_ranged at (Some (s ∷ ss)) (Some ts) hs ht = from_ranged at [] [] (s ∷ ss) ts tt tt hs ht

commands_ranged : (o : Option Made) → IsMade o → AreMaybe (commands_by o)
commands_ranged None h = tt
commands_ranged (Some m) h = (h.0, (h.1, tt))

one_ranged : (at : ℕ) (es : List Expr) → AreRanged es → AreMaybe (one_in at es)
one_ranged at [] h = tt
one_ranged at (w ∷ []) h = tt
one_ranged at (w ∷ f ∷ []) h = tt
one_ranged at (w ∷ f ∷ l ∷ []) h = tt
one_ranged at (w ∷ f ∷ l ∷ r ∷ []) h = tt
one_ranged at (w ∷ f ∷ l ∷ r ∷ t ∷ []) h = commands_ranged (function_by at f l r t) (function_ranged at f l r t h.1.0 h.1.1.0 h.1.1.1.0 h.1.1.1.1.0)
one_ranged at (w ∷ f ∷ l ∷ r ∷ t ∷ x ∷ es) h = tt

several_ranged : (at : ℕ) (es : List Expr) → AreRanged es → AreMaybe (several_in at es)
several_ranged at [] h = tt
several_ranged at (w ∷ []) h = tt
several_ranged at (w ∷ ss ∷ []) h = tt
several_ranged at (w ∷ ss ∷ ts ∷ []) h = by_ranged at (members_of ss) (members_of ts) (members_ranged ss h.1.0) (members_ranged ts h.1.1.0)
several_ranged at (w ∷ ss ∷ ts ∷ x ∷ es) h = tt

either_maybe : (b : Bool) (x y : Option (List Expr)) → AreMaybe x → AreMaybe y → AreMaybe (if b then x else y)
either_maybe true x y h k = h
either_maybe false x y h k = k

among_ranged : (at : ℕ) (ms : Option (List Expr)) → AreMaybe ms → AreMaybe (functions_among at ms)
among_ranged at None h = tt
among_ranged at (Some es) h =
    either_maybe (begins_with (codes "define-fun-rec") (Some es)) (one_in at es) (if begins_with (codes "define-funs-rec") (Some es) then several_in at es else None) (one_ranged at es h)
    (either_maybe (begins_with (codes "define-funs-rec") (Some es)) (several_in at es) None (several_ranged at es h) tt)

itself_ranged : (e : Expr) (o : Option (List Expr)) → IsRangedExpr e → AreMaybe o → AreRanged (or_itself e o)
itself_ranged e None h k = (h, tt)
itself_ranged e (Some es) h k = k

all_ranged : (es : List Expr) → AreRanged es → AreRanged (written_from es)
all_ranged [] h = tt
all_ranged (e ∷ es) h = append_ranged (written e) (written_from es) (itself_ranged e (functions_of e) h.0 (among_ranged (place_of e) (members_of e) (members_ranged e h.0))) (all_ranged es h.1)

either_ranged : (b : Bool) (es fs : List Expr) → AreRanged es → AreRanged fs → AreRanged (if b then es else fs)
either_ranged true es fs h k = h
either_ranged false es fs h k = k

functions_ranged : (es : List Expr) → AreRanged es → AreRanged (functions_written_out es)
functions_ranged es h = either_ranged (list_any defines_function es) (written_from es) es (all_ranged es h) h

pub written_ranged : (es : List Expr) → AreRanged es → AreRanged (written_out es)
written_ranged es h = functions_ranged (sorts_written_out es) (sorts_ranged es h)
