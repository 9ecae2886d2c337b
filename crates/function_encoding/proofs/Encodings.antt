-- The encoding of formulas, one after another, and the room that each has.
use Rattle.std.proofs.Common.{◌≡◌, ℕ, zero, suc, ◌+◌, ◌<◌, ◌≤◌, Bool, List, [], ◌∷◌, ◌++◌, map, reverse, length, drop, get_or, Result, Ok, Err, IsErrAnd, refl, sym, ap, ◌∙◌, subst, arith}
use Rattle.linear_term.specs.declared.range.TermFault.{TermFault}
use Rattle.form_typed.specs.declared.typed.Typed.{Typed}
use Rattle.linear_term.specs.Linear.{Linear}
use Rattle.form_typed.specs.declared.typed.Relation.{Relation}
use Rattle.form_typed.specs.Formula.{Formula, formula, Formulas, formulas_of, no_formula, and_formula, Expression, Expressions, compares, applies}
use Rattle.pri_typing.specs.WellFormed.{size}
use Rattle.base_budget.specs.Trace.{Traced, just, next}
use Rattle.base_budget.proofs.Charging.{Left, left_all, drop-item, drop_all}
use Rattle.base_budget.proofs.Tracing.{next-assoc, next-just, just-next}
use Rattle.formula.specs.declared.calculus.Core.{Core}
use Rattle.formula.specs.Form.{Form, Forms, no_form, and_form, forms}
use Rattle.formula.specs.Tree.{form, forms_of}
use Rattle.formula.specs.Made.{Made, seen}
use Rattle.formula.proofs.Making.{made_just, left_done, pushed}
use Rattle.form_encoding.specs.Encoding.{encoded, all_encoded, signed_relation}
use Rattle.form_encoding.specs.Extent.{Extent, above, above_two, beside, nothing, behind_atoms, restricted_extent, in_both, extent, extents, extent_with}
use Rattle.function_encoding.specs.Actions.{Action, relate, predicate, ran, compiled, compiled_all}
use Rattle.function_encoding.specs.Ranged.{HasRangedNumbers, HaveRangedNumbers}
use Rattle.function_encoding.specs.Room.{HasNamesLeft, AreActionsRanged, extent_left}
use Rattle.function_encoding.specs.Stops.{Halts, stopped}
use Rattle.function_encoding.specs.Weight.{weight, weights, weight_left}
use Rattle.function_encoding.specs.declared.stop.Stop.{Stop}
use Rattle.function_encoding.proofs.Rooms.{compiled_extent, all_extent, compiled_ranged, all_ranged, compiled_weight, all_weight}
use Rattle.function_encoding.proofs.Runs.{relation_is, predicate_is}

pub formula_as : (at : List ℕ) (n : ℕ) (plus : Bool) (r : Result Core TermFault) (f g : Formula) → f ≡ g → Made form (encoded at n plus g) r → Made form (encoded at n plus f) r
formula_as at n plus r f g e h = subst (λ z. Made form (encoded at n plus z) r) (sym e) h

-- room below a node, and in two cases
pub room_above : (n : ℕ) (e : Extent) → HasNamesLeft n (above e) → HasNamesLeft (n + 1) e
room_above n e h = omega arith

levels_behind : (k : ℕ) (e : Extent) → e.levels ≤ (behind_atoms k e).levels
levels_behind zero e = omega arith
levels_behind (suc k) e = let rest = levels_behind k e in omega (arith, rest)

pub room_bound : (n k : ℕ) (e : Extent) → HasNamesLeft n (above (restricted_extent k e)) → HasNamesLeft (n + 1) e
room_bound n zero e h = room_above n e h
room_bound n (suc k) e h =
    let all = room_above n (above (behind_atoms (suc k) (beside e nothing))) h in
    let le = levels_behind (suc k) (beside e nothing) in
    omega (arith, all, le)

pub room_two : (n : ℕ) (a b : Extent) → HasNamesLeft n (above_two a b) → HasNamesLeft n a × HasNamesLeft n b
room_two n a b h = (omega arith, omega arith)

pub room_both : (n : ℕ) (c rest : Extent) → HasNamesLeft n (in_both c rest) → HasNamesLeft n c × HasNamesLeft n rest
room_both n c rest h = room_two n c rest (omega arith)

pub room_under : (n : ℕ) (e : Extent) → HasNamesLeft n (above e) → HasNamesLeft n e
room_under n e h = omega arith

pub room_beside : (n : ℕ) (a b : Extent) → HasNamesLeft n (beside a b) → HasNamesLeft n a × HasNamesLeft n b
room_beside n a b h = (omega arith, omega arith)

-- formulas before others
abbrev before : List Form → Forms → Forms
before [] gs = gs
before (f ∷ fs) gs = and_form f (before fs gs)

before-one : (fs : List Form) (g : Form) (gs : Forms) → before fs (and_form g gs) ≡ before (fs ++ g ∷ []) gs
before-one [] g gs = refl
before-one (f ∷ fs) g gs = ap (and_form f) (before-one fs g gs)

before-none : (fs : List Form) → before fs no_form ≡ forms fs
before-none [] = refl
before-none (f ∷ fs) = ap (and_form f) (before-none fs)

-- what is left when these are encoded
abbrev pub rest : List ℕ → ℕ → Bool → List Form → Formulas → Traced Forms
rest at n plus out fs = next (all_encoded at n plus fs) (λ gs. just (before out gs))

pub rest-more : (at : List ℕ) (n : ℕ) (plus : Bool) (out : List Form) (f : Formula) (fs : Formulas) → rest at n plus out (and_formula f fs) ≡ next (encoded at n plus f) (λ g. rest at n plus (out ++ g ∷ []) fs)
rest-more at n plus out f fs =
    next-assoc (encoded at n plus f) (λ g. next (all_encoded at n plus fs) (λ gs. just (and_form g gs))) (λ gs. just (before out gs))
    ∙ (λ i. next (encoded at n plus f) (λ g. one g i))
  where
    one : (g : Form) → next (next (all_encoded at n plus fs) (λ gs. just (and_form g gs))) (λ gs. just (before out gs)) ≡ rest at n plus (out ++ g ∷ []) fs
    one g =
        next-assoc (all_encoded at n plus fs) (λ gs. just (and_form g gs)) (λ gs. just (before out gs))
        ∙ (λ i. next (all_encoded at n plus fs) (λ gs. (next-just (and_form g gs) (λ hs. just (before out hs)) ∙ ap (λ (z : Forms). just z) (before-one out g gs)) i))

pub rest_all : (at : List ℕ) (n : ℕ) (plus : Bool) (fs : Formulas) (out : List Core) → out ≡ [] → Left (rest at n plus (map form out) fs) (all_encoded at n plus fs)
rest_all at n plus fs out none =
    let work = all_encoded at n plus fs in
    subst (λ l. Left (rest at n plus (map form l) fs) work) (sym none) (subst (λ w. Left w work) (sym (just-next work)) (left_all work))

pub rest_next : (at : List ℕ) (n : ℕ) (plus : Bool) (fs : List Typed) (i : ℕ) (f : Typed) (out : List Core) (work : Traced Forms) → i < length fs → f ≡ get_or fs i f
    → Left (rest at n plus (map form out) (formulas_of (drop i fs))) work
    → Left (next (encoded at n plus (formula f)) (λ g. rest at n plus (map form out ++ g ∷ []) (formulas_of (drop (i + 1) fs)))) work
rest_next at n plus fs i f out work lt is h =
    subst (λ w. Left w work)
    (ap (λ l. rest at n plus (map form out) (formulas_of l)) (drop-item fs i f lt is) ∙ rest-more at n plus (map form out) (formula f) (formulas_of (drop (i + 1) fs))) h

pub rest_pushed : (at : List ℕ) (n : ℕ) (plus : Bool) (fs : Formulas) (out more : List Core) (g : Core) (work : Traced Forms) → more ≡ out ++ g ∷ [] → Left (rest at n plus (map form out ++ form g ∷ []) fs) work
    → Left (rest at n plus (map form more) fs) work
rest_pushed at n plus fs out more g work is h = subst (λ l. Left (rest at n plus l fs) work) (sym (ap (map form) is ∙ pushed out g (form g) refl)) h

pub rest_none : (at : List ℕ) (n : ℕ) (plus : Bool) (out : List Core) (work : Traced Forms) → Left (rest at n plus (map form out) no_formula) work → Made forms_of work (Ok out)
rest_none at n plus out work h =
    left_done forms_of (Ok out) h
    (subst (λ w. Made forms_of w (Ok out)) (sym (next-just no_form (λ gs. just (before (map form out) gs)))) (made_just forms_of (before (map form out) no_form) out (sym (before-none (map form out)))))

pub rest_end : (at : List ℕ) (n : ℕ) (plus : Bool) (fs : List Typed) (i : ℕ) (out : List Core) (work : Traced Forms) → length fs ≤ i → Left (rest at n plus (map form out) (formulas_of (drop i fs))) work
    → Made forms_of work (Ok out)
rest_end at n plus fs i out work le h = rest_none at n plus out work (subst (λ l. Left (rest at n plus (map form out) (formulas_of l)) work) (drop_all fs i le) h)

-- the next formula has its numbers in the range, has room, and is lighter than all
pub item_ranged : (fs : List Typed) (i : ℕ) (f : Typed) → i < length fs → f ≡ get_or fs i f → HaveRangedNumbers (formulas_of (drop i fs)) → HasRangedNumbers (formula f) × HaveRangedNumbers (formulas_of (drop (i + 1) fs))
item_ranged fs i f lt is h = let r = subst (λ l. HaveRangedNumbers (formulas_of l)) (drop-item fs i f lt is) h in (r.0, r.1)

pub item_room : (n : ℕ) (fs : List Typed) (i : ℕ) (f : Typed) → i < length fs → f ≡ get_or fs i f → HasNamesLeft n (extents (formulas_of (drop i fs))) → HasNamesLeft n (extent (formula f)) × HasNamesLeft n (extents (formulas_of (drop (i + 1) fs)))
item_room n fs i f lt is h = room_beside n (extent (formula f)) (extents (formulas_of (drop (i + 1) fs))) (subst (λ l. HasNamesLeft n (extents (formulas_of l))) (drop-item fs i f lt is) h)

pub item_weight : (fs : List Typed) (i : ℕ) (f : Typed) (w : ℕ) → i < length fs → f ≡ get_or fs i f → weights (formulas_of (drop i fs)) ≤ w → (weight (formula f) ≤ w) × (weights (formulas_of (drop (i + 1) fs)) ≤ w)
item_weight fs i f w lt is h =
    let e : weights (formulas_of (drop i fs)) ≡ weight (formula f) + weights (formulas_of (drop (i + 1) fs)) = ap (λ l. weights (formulas_of l)) (drop-item fs i f lt is) in
    (omega arith, omega arith)

-- the instructions of an atom are ready to be run
pub relation_ready : (s t : Expression) (q r : Relation) (c : List Action) (n : ℕ) → c ≡ compiled s (compiled t (relate q ∷ [])) → HasRangedNumbers (compares r s t) → HasNamesLeft n (extent (compares r s t))
    → (weight_left c + 2 < weight (compares r s t)) × AreActionsRanged c × HasNamesLeft n (extent_left c)
relation_ready s t q r c n e h k =
    let w = compiled_weight s (compiled t (relate q ∷ [])) in
    let v = compiled_weight t (relate q ∷ []) in
    let x = ap weight_left e in (
      omega arith,
      subst AreActionsRanged (sym e) (compiled_ranged s (compiled t (relate q ∷ [])) (h.0) (compiled_ranged t (relate q ∷ []) (h.1) tt)),
      subst (HasNamesLeft n) (sym (ap extent_left e ∙ compiled_extent s (compiled t (relate q ∷ [])) ∙ ap (extent_with s) (compiled_extent t (relate q ∷ [])))) k,
    )

pub predicate_ready : (ts : Expressions) (plus : Bool) (p : ℕ) (c : List Action) (n : ℕ) → c ≡ compiled_all ts (predicate plus p (size ts) ∷ []) → HasRangedNumbers (applies p ts) → HasNamesLeft n (extent (applies p ts))
    → (weight_left c + 2 < weight (applies p ts)) × AreActionsRanged c × HasNamesLeft n (extent_left c)
predicate_ready ts plus p c n e h k =
    let w = all_weight ts (predicate plus p (size ts) ∷ []) in
    let x = ap weight_left e in (
      omega arith,
      subst AreActionsRanged (sym e) (all_ranged ts (predicate plus p (size ts) ∷ []) h tt),
      subst (HasNamesLeft n) (sym (ap extent_left e ∙ all_extent ts (predicate plus p (size ts) ∷ []))) k,
    )

-- and make it
pub relation_made : (at : List ℕ) (n : ℕ) (plus : Bool) (r q : Relation) (s t : Expression) (c : List Action) (stack : List Linear) (res : Result Core TermFault) → q ≡ signed_relation plus r
    → c ≡ compiled s (compiled t (relate q ∷ [])) → stack ≡ [] → Made form (ran at c n (reverse stack)) res → Made form (encoded at n plus (compares r s t)) res
relation_made at n plus r q s t c stack res sign e none h =
    subst (λ w. Made form w res)
    ((λ i. ran at (e i) n (reverse (none i))) ∙ (λ i. ran at (compiled s (compiled t (relate (sign i) ∷ []))) n []) ∙ relation_is r s t at n plus) h

pub predicate_made : (at : List ℕ) (n : ℕ) (plus : Bool) (p : ℕ) (ts : Expressions) (c : List Action) (stack : List Linear) (res : Result Core TermFault)
    → c ≡ compiled_all ts (predicate plus p (size ts) ∷ []) → stack ≡ [] → Made form (ran at c n (reverse stack)) res → Made form (encoded at n plus (applies p ts)) res
predicate_made at n plus p ts c stack res e none h = subst (λ w. Made form w res) ((λ i. ran at (e i) n (reverse (none i))) ∙ predicate_is p ts at n plus) h

-- below a quantifier, and after a graph
pub bound_as : (at all : List ℕ) (n m : ℕ) (plus : Bool) (g : Formula) (r : Result Core TermFault) → all ≡ at → m ≡ n → Made form (encoded all m plus g) r → Made form (encoded at n plus g) r
bound_as at all n m plus g r e d h = subst (λ w. Made form w r) (λ i. encoded (e i) (d i) plus g) h

pub run_as : (at : List ℕ) (c : List Action) (n m : ℕ) (vs ws : List Linear) (r : Result Core TermFault) → m ≡ n → ws ≡ vs → Made form (ran at c m ws) r → Made form (ran at c n vs) r
run_as at c n m vs ws r d e h = subst (λ w. Made form w r) (λ i. ran at c (d i) (e i)) h

pub halt_made : (at : List ℕ) (c : List Action) (vs : List Linear) (s : Stop) (more : List Action) (n : ℕ) (r : Result Core TermFault) → Halts at c vs s more → Made form (stopped at n more s) r → Made form (ran at c n vs) r
halt_made at c vs s more n r h m = record { works = h.works n (seen form r) m.works }

pub made_same : {m : Traced Form} {e : TermFault} (r : Result Core TermFault) → IsErrAnd r (λ x. x ≡ e) → Made form m (Err e) → Made form m r
made_same (Ok x) h k = absurd h
made_same {m} (Err d) h k = subst (λ z. Made form m (Err z)) (sym h) k
