-- What is made has lists of at most four members more than the lists of the script.
use Rattle.std.proofs.Common.{ℕ, suc, ◌≡◌, ◌+◌, ◌≤◌, List, [], ◌∷◌, ◌++◌, map, length, refl, ap, Bool, true, false, Option, Some, None, if◌then◌else◌, codes, arith}
use Rattle.std.specs.List.{AllByRecursion, list_any}
use Rattle.smt_lists.specs.Expressions.{Expr, Exprs, atom, list, no_expr, and_expr, exprs, place_of}
use Rattle.smt_commands.specs.Commands.{Symbol, items, members_of, symbol_of}
use Rattle.smt_commands.specs.Faults.{form}
use Rattle.smt_shorthand.specs.declared.places.Part.{Part}
use Rattle.smt_shorthand.specs.declared.places.Part.TheVariants as part
use Rattle.smt_shorthand.specs.declared.places.Row.{Row}
use Rattle.smt_shorthand.specs.declared.places.Row.TheVariants as row
use Rattle.smt_shorthand.specs.declared.sorts.Sense.{Sense}
use Rattle.smt_shorthand.specs.declared.sorts.Sense.TheVariants as sense
use Rattle.smt_shorthand.specs.declared.sorts.DefinedSort.{DefinedSort}
use Rattle.smt_shorthand.specs.declared.table.SortTable.{SortTable}
use Rattle.smt_shorthand.specs.Places.{behind, first}
use Rattle.smt_shorthand.specs.Sorts.{sense_of}
use Rattle.smt_shorthand.specs.Resolving.{named_by, resolved, row_resolved}
use Rattle.smt_shorthand.specs.Table.{after, definition_of, no_sorts, with_sort}
use Rattle.smt_shorthand.specs.Defining.{begins_with, commands_from, defines_sort, sorts_written_out}
use Rattle.smt_shorthand.specs.Equations.{assertion, claim, declaration, equation, first_of, second_of, use_of}
use Rattle.smt_shorthand.specs.Functions.{Made, are_proper, commands_by, defines_function, function_by, function_in, function_signed, functions_among, functions_by, functions_from, functions_of, functions_written_out, one_in, or_itself, several_in, written, written_from}
use Rattle.smt_shorthand.specs.Ranged.{AreNarrow, IsNarrow, members}
use Rattle.smt_shorthand.specs.Writing.{written_out}

abbrev pub AllNarrow : ℕ → List Expr → Type 0
AllNarrow n es = AllByRecursion (IsNarrow n) es

members-exprs : (es : List Expr) → members (exprs es) ≡ length es
members-exprs [] = refl
members-exprs (e ∷ es) = ap suc (members-exprs es)

exprs_narrow : (n : ℕ) (es : List Expr) → AllNarrow n es → AreNarrow n (exprs es)
exprs_narrow n [] h = tt
exprs_narrow n (e ∷ es) h = (h.0, exprs_narrow n es h.1)

named_narrow : (n : ℕ) (s : Sense) (e : Expr) → IsNarrow n e → IsNarrow n (named_by s e)
named_narrow n sense.Int e h = tt
named_narrow n sense.Bool e h = tt
named_narrow n (sense.Parameter i) e h = h
named_narrow n sense.Other e h = h

as_many : (sorts : List DefinedSort) (r : Row) (es : Exprs) → length (row_resolved sorts r es) ≡ members es
as_many sorts r no_expr = refl
as_many sorts r (and_expr e es) = ap suc (as_many sorts (behind r e) es)

mutual
  resolved_narrow : (n : ℕ) (sorts : List DefinedSort) (p : Part) (e : Expr) → IsNarrow n e → IsNarrow n (resolved sorts p e)
  resolved_narrow n sorts part.Other (atom a) h = h
  resolved_narrow n sorts part.Sort (atom a) h = named_narrow n (sense_of sorts [] (atom a)) (atom a) h
  resolved_narrow n sorts (part.Members r) (atom a) h = h
  resolved_narrow n sorts part.Other (list at es) h = h
  resolved_narrow n sorts part.Sort (list at es) h = named_narrow n (sense_of sorts [] (list at es)) (list at es) h
  resolved_narrow n sorts (part.Members r) (list at es) h =
      (omega (arith, h.0, members-exprs (row_resolved sorts r es), as_many sorts r es), exprs_narrow n (row_resolved sorts r es) (row_narrow n sorts r es h.1))

  row_narrow : (n : ℕ) (sorts : List DefinedSort) (r : Row) (es : Exprs) → AreNarrow n es → AllNarrow n (row_resolved sorts r es)
  row_narrow n sorts r no_expr h = tt
  row_narrow n sorts r (and_expr e es) h = (resolved_narrow n sorts (first r) e h.0, row_narrow n sorts (behind r e) es h.1)

picked : (n : ℕ) (d : Option DefinedSort) (e : Expr) (rest : List Expr) (f : DefinedSort → List Expr) → IsNarrow n e → AllNarrow n rest → ((s : DefinedSort) → AllNarrow n (f s)) → AllNarrow n (elim d [
  | None ↦ e ∷ rest
  | Some s ↦ f s
])
picked n None e rest f h k g = (h, k)
picked n (Some s) e rest f h k g = g s

defining_narrow : (n : ℕ) (t : SortTable) (es : List Expr) → AllNarrow n es → AllNarrow n (commands_from t es)
defining_narrow n t [] h = tt
defining_narrow n t (e ∷ es) h =
    picked n (definition_of t e) (resolved t.sorts (part.Members row.Command) e) (commands_from (after t (form e)) es) (λ s. commands_from (with_sort t s) es)
    (resolved_narrow n t.sorts (part.Members row.Command) e h.0) (defining_narrow n (after t (form e)) es h.1) (λ s. defining_narrow n (with_sort t s) es h.1)

either_narrow : (n : ℕ) (b : Bool) (es fs : List Expr) → AllNarrow n es → AllNarrow n fs → AllNarrow n (if b then es else fs)
either_narrow n true es fs h k = h
either_narrow n false es fs h k = k

sorts_narrow : (n : ℕ) (es : List Expr) → AllNarrow n es → AllNarrow n (sorts_written_out es)
sorts_narrow n es h = either_narrow n (list_any defines_sort es) (commands_from no_sorts es) es (defining_narrow n no_sorts es h) h

-- What is narrow is so with a greater bound.

mutual
  wider : (n : ℕ) (e : Expr) → IsNarrow n e → IsNarrow (n + 4) e
  wider n (atom a) h = tt
  wider n (list at es) h = (omega (arith, h.0), wider_all n es h.1)

  wider_all : (n : ℕ) (es : Exprs) → AreNarrow n es → AreNarrow (n + 4) es
  wider_all n no_expr h = tt
  wider_all n (and_expr e es) h = (wider n e h.0, wider_all n es h.1)

-- The commands of recursive definitions.

abbrev AreMaybe : ℕ → Option (List Expr) → Type 0
AreMaybe n None = Unit {0}
AreMaybe n (Some es) = (length es ≤ n) × AllNarrow n es

abbrev AreMade : ℕ → Option (List Expr) → Type 0
AreMade n None = Unit {0}
AreMade n (Some es) = AllNarrow n es

abbrev IsMade : ℕ → Option Made → Type 0
IsMade n None = Unit {0}
IsMade n (Some m) = IsNarrow n m.declaration × IsNarrow n m.assertion

length-items : (es : Exprs) → length (items es) ≡ members es
length-items no_expr = refl
length-items (and_expr e es) = ap suc (length-items es)

items_narrow : (n : ℕ) (es : Exprs) → AreNarrow n es → AllNarrow n (items es)
items_narrow n no_expr h = tt
items_narrow n (and_expr e es) h = (h.0, items_narrow n es h.1)

members_narrow : (n : ℕ) (e : Expr) → IsNarrow n e → AreMaybe n (members_of e)
members_narrow n (atom a) h = tt
members_narrow n (list at es) h = (omega (arith, h.0, length-items es), items_narrow n es h.1)

first_narrow : (n : ℕ) (e : Expr) → IsNarrow n e → IsNarrow n (first_of e)
first_narrow n (atom a) h = h
first_narrow n (list at no_expr) h = h
first_narrow n (list at (and_expr x es)) h = h.1.0

second_narrow : (n : ℕ) (e : Expr) → IsNarrow n e → IsNarrow n (second_of e)
second_narrow n (atom a) h = h
second_narrow n (list at no_expr) h = h
second_narrow n (list at (and_expr x no_expr)) h = h
second_narrow n (list at (and_expr x (and_expr s es))) h = h.1.1.0

map_narrow : (n : ℕ) (f : Expr → Expr) → ((e : Expr) → IsNarrow n e → IsNarrow n (f e)) → (es : List Expr) → AllNarrow n es → AreNarrow (n + 4) (exprs (map f es))
map_narrow n f k [] h = tt
map_narrow n f k (e ∷ es) h = (wider n (f e) (k e h.0), map_narrow n f k es h.1)

members-map : (f : Expr → Expr) (es : List Expr) → members (exprs (map f es)) ≡ length es
members-map f [] = refl
members-map f (e ∷ es) = ap suc (members-map f es)

append_narrow : (n : ℕ) (es fs : List Expr) → AllNarrow n es → AllNarrow n fs → AllNarrow n (es ++ fs)
append_narrow n [] fs h k = k
append_narrow n (e ∷ es) fs h k = (h.0, append_narrow n es fs h.1 k)

declaration_narrow : (n at : ℕ) (f : Expr) (vs : List Expr) (r : Expr) → IsNarrow n f → length vs ≤ n → AllNarrow n vs → IsNarrow n r → IsNarrow (n + 4) (declaration at f vs r)
declaration_narrow n at f vs r hf few hv hr =
    (omega arith, (tt, (wider n f hf, ((omega (arith, few, members-map second_of vs), map_narrow n second_of (second_narrow n) vs hv), (wider n r hr, tt)))))

use_narrow : (n at : ℕ) (f : Expr) (vs : List Expr) → IsNarrow n f → length vs ≤ n → AllNarrow n vs → IsNarrow (n + 4) (use_of at f vs)
use_narrow n at f [] hf few hv = wider n f hf
use_narrow n at f (v ∷ vs) hf few hv = (omega (arith, few, members-map first_of (v ∷ vs)), (wider n f hf, map_narrow n first_of (first_narrow n) (v ∷ vs) hv))

equation_narrow : (n at : ℕ) (f : Expr) (vs : List Expr) (t : Expr) → IsNarrow n f → length vs ≤ n → AllNarrow n vs → IsNarrow n t → IsNarrow (n + 4) (equation at f vs t)
equation_narrow n at f vs t hf few hv ht = (omega arith, (tt, (use_narrow n at f vs hf few hv, (wider n t ht, tt))))

claim_narrow : (n at : ℕ) (f l : Expr) (vs : List Expr) (t : Expr) → IsNarrow n f → IsNarrow n l → length vs ≤ n → AllNarrow n vs → IsNarrow n t → IsNarrow (n + 4) (claim at f l vs t)
claim_narrow n at f l [] t hf hl few hv ht = equation_narrow n at f [] t hf few hv ht
claim_narrow n at f l (v ∷ vs) t hf hl few hv ht = (omega arith, (tt, (wider n l hl, (equation_narrow n at f (v ∷ vs) t hf few hv ht, tt))))

assertion_narrow : (n at : ℕ) (f l : Expr) (vs : List Expr) (t : Expr) → IsNarrow n f → IsNarrow n l → length vs ≤ n → AllNarrow n vs → IsNarrow n t → IsNarrow (n + 4) (assertion at f l vs t)
assertion_narrow n at f l vs t hf hl few hv ht = (omega arith, (tt, (claim_narrow n at f l vs t hf hl few hv ht, tt)))

made_if : (n : ℕ) (b : Bool) (m : Made) → IsNarrow n m.declaration → IsNarrow n m.assertion → IsMade n (if b then Some m else None)
made_if n true m h k = (h, k)
made_if n false m h k = tt

signed_narrow : (n at : ℕ) (f l r t : Expr) (x : Option Symbol) (vs : Option (List Expr)) → IsNarrow n f → IsNarrow n l → IsNarrow n r → IsNarrow n t → AreMaybe n vs
    → IsMade (n + 4) (function_signed at f l r t x vs)
signed_narrow n at f l r t None vs hf hl hr ht hv = tt
signed_narrow n at f l r t (Some x) None hf hl hr ht hv = tt
signed_narrow n at f l r t (Some x) (Some vs) hf hl hr ht hv =
    made_if (n + 4) (are_proper x.text vs) (record { declaration = declaration at f vs r; assertion = assertion at f l vs t })
    (declaration_narrow n at f vs r hf hv.0 hv.1 hr) (assertion_narrow n at f l vs t hf hl hv.0 hv.1 ht)

function_narrow : (n at : ℕ) (f l r t : Expr) → IsNarrow n f → IsNarrow n l → IsNarrow n r → IsNarrow n t → IsMade (n + 4) (function_by at f l r t)
function_narrow n at f l r t hf hl hr ht = signed_narrow n at f l r t (symbol_of f) (members_of l) hf hl hr ht (members_narrow n l hl)

in_narrow : (n at : ℕ) (ms : Option (List Expr)) (t : Expr) → AreMaybe n ms → IsNarrow n t → IsMade (n + 4) (function_in at ms t)
in_narrow n at None t h ht = tt
in_narrow n at (Some []) t h ht = tt
in_narrow n at (Some (f ∷ [])) t h ht = tt
in_narrow n at (Some (f ∷ l ∷ [])) t h ht = tt
in_narrow n at (Some (f ∷ l ∷ r ∷ [])) t h ht = function_narrow n at f l r t h.1.0 h.1.1.0 h.1.1.1.0 ht
in_narrow n at (Some (f ∷ l ∷ r ∷ x ∷ es)) t h ht = tt

one_more : (n at : ℕ) (ds cs ss ts : List Expr) (o : Option Made) → IsMade n o
    → ((m : Made) → IsMade n (Some m) → AreMade n (functions_from at (ds ++ m.declaration ∷ []) (cs ++ m.assertion ∷ []) ss ts)) → AreMade n (elim o [
      | None ↦ None
      | Some m ↦ functions_from at (ds ++ m.declaration ∷ []) (cs ++ m.assertion ∷ []) ss ts
    ])
one_more n at ds cs ss ts None h k = tt
one_more n at ds cs ss ts (Some m) h k = k m h

from_narrow : (n at : ℕ) (ds cs ss ts : List Expr) → AllNarrow (n + 4) ds → AllNarrow (n + 4) cs → AllNarrow n ss → AllNarrow n ts → AreMade (n + 4) (functions_from at ds cs ss ts)
from_narrow n at ds cs [] [] hd hc hs ht = append_narrow (n + 4) ds cs hd hc
from_narrow n at ds cs [] (t ∷ ts) hd hc hs ht = tt
from_narrow n at ds cs (s ∷ ss) [] hd hc hs ht = tt
from_narrow n at ds cs (s ∷ ss) (t ∷ ts) hd hc hs ht =
    one_more (n + 4) at ds cs ss ts (function_in at (members_of s) t) (in_narrow n at (members_of s) t (members_narrow n s hs.0) ht.0)
    (λ m h. from_narrow n at (ds ++ m.declaration ∷ []) (cs ++ m.assertion ∷ []) ss ts (append_narrow (n + 4) ds (m.declaration ∷ []) hd (h.0, tt)) (append_narrow (n + 4) cs (m.assertion ∷ []) hc (h.1, tt)) hs.1 ht.1)

by_narrow : (n at : ℕ) (ss ts : Option (List Expr)) → AreMaybe n ss → AreMaybe n ts → AreMade (n + 4) (functions_by at ss ts)
by_narrow n at None ts hs ht = tt
by_narrow n at (Some []) ts hs ht = tt
by_narrow n at (Some (s ∷ ss)) None hs ht = tt
by_narrow n at (Some (s ∷ ss)) (Some ts) hs ht = from_narrow n at [] [] (s ∷ ss) ts tt tt hs.1 ht.1

commands_narrow : (n : ℕ) (o : Option Made) → IsMade n o → AreMade n (commands_by o)
commands_narrow n None h = tt
commands_narrow n (Some m) h = (h.0, (h.1, tt))

one_narrow : (n at : ℕ) (es : List Expr) → AllNarrow n es → AreMade (n + 4) (one_in at es)
one_narrow n at [] h = tt
one_narrow n at (w ∷ []) h = tt
one_narrow n at (w ∷ f ∷ []) h = tt
one_narrow n at (w ∷ f ∷ l ∷ []) h = tt
one_narrow n at (w ∷ f ∷ l ∷ r ∷ []) h = tt
one_narrow n at (w ∷ f ∷ l ∷ r ∷ t ∷ []) h = commands_narrow (n + 4) (function_by at f l r t) (function_narrow n at f l r t h.1.0 h.1.1.0 h.1.1.1.0 h.1.1.1.1.0)
one_narrow n at (w ∷ f ∷ l ∷ r ∷ t ∷ x ∷ es) h = tt

several_narrow : (n at : ℕ) (es : List Expr) → AllNarrow n es → AreMade (n + 4) (several_in at es)
several_narrow n at [] h = tt
several_narrow n at (w ∷ []) h = tt
several_narrow n at (w ∷ ss ∷ []) h = tt
several_narrow n at (w ∷ ss ∷ ts ∷ []) h = by_narrow n at (members_of ss) (members_of ts) (members_narrow n ss h.1.0) (members_narrow n ts h.1.1.0)
several_narrow n at (w ∷ ss ∷ ts ∷ x ∷ es) h = tt

either_made : (n : ℕ) (b : Bool) (x y : Option (List Expr)) → AreMade n x → AreMade n y → AreMade n (if b then x else y)
either_made n true x y h k = h
either_made n false x y h k = k

among_narrow : (n at : ℕ) (ms : Option (List Expr)) → AreMaybe n ms → AreMade (n + 4) (functions_among at ms)
among_narrow n at None h = tt
among_narrow n at (Some es) h =
    either_made (n + 4) (begins_with (codes "define-fun-rec") (Some es)) (one_in at es) (if begins_with (codes "define-funs-rec") (Some es) then several_in at es else None) (one_narrow n at es h.1)
    (either_made (n + 4) (begins_with (codes "define-funs-rec") (Some es)) (several_in at es) None (several_narrow n at es h.1) tt)

itself_narrow : (n : ℕ) (e : Expr) (o : Option (List Expr)) → IsNarrow n e → AreMade n o → AllNarrow n (or_itself e o)
itself_narrow n e None h k = (h, tt)
itself_narrow n e (Some es) h k = k

all_narrow : (n : ℕ) (es : List Expr) → AllNarrow n es → AllNarrow (n + 4) (written_from es)
all_narrow n [] h = tt
all_narrow n (e ∷ es) h =
    append_narrow (n + 4) (written e) (written_from es) (itself_narrow (n + 4) e (functions_of e) (wider n e h.0) (among_narrow n (place_of e) (members_of e) (members_narrow n e h.0))) (all_narrow n es h.1)

pub each_wider : (n : ℕ) (es : List Expr) → AllNarrow n es → AllNarrow (n + 4) es
each_wider n [] h = tt
each_wider n (e ∷ es) h = (wider n e h.0, each_wider n es h.1)

functions_narrow : (n : ℕ) (es : List Expr) → AllNarrow n es → AllNarrow (n + 4) (functions_written_out es)
functions_narrow n es h = either_narrow (n + 4) (list_any defines_function es) (written_from es) es (all_narrow n es h) (each_wider n es h)

pub written_narrow : (n : ℕ) (es : List Expr) → AllNarrow n es → AllNarrow (n + 4) (written_out es)
written_narrow n es h = functions_narrow n (sorts_written_out es) (sorts_narrow n es h)
