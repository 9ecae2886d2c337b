-- Work whose value is seen in what the code makes.
use Rattle.std.proofs.Common.{◌≡◌, ℕ, zero, suc, ◌<◌, ◌≤◌, ◌+◌, arith, Bool, false, cond, List, [], ◌∷◌, ◌++◌, map, length, drop, take, ◌-◌, get_or, Result, Ok, Err, IsErrAnd, refl, sym, ap, ◌∙◌, subst, append_assoc}
use Rattle.std.proofs.lemmas.List.{take_all, length-drop, drop_more}
use Rattle.linear_term.specs.Linear.{Linear}
use Rattle.linear_term.specs.declared.range.TermFault.{TermFault}
use Rattle.base_budget.specs.Trace.{Traced, just, next, each}
use Rattle.sequent.specs.Sequent as q
use Rattle.sequent.specs.declared.member.Member.{Member}
use Rattle.sequent.specs.Views.{member_of, members_of}
use Rattle.base_budget.proofs.Charging.{Left, drop-item, drop_all}
use Rattle.base_budget.proofs.Tracing.{next-assoc, next-just}
use Rattle.std.specs.Borrow.{Bor}
use Rattle.std.specs.List.{AllByRecursion}
use Rattle.pred_unify.specs.Reading.{among, behind, is_differing, meetings, meetings_by, onto}
use Rattle.pred_unify.specs.declared.leaf.Met.{Met}
use Rattle.pred_unify.proofs.Partners.{each_from, meetings_kept, nothing_more, onto_next, values_kept}
use Rattle.formula.specs.declared.calculus.Core.{Core}
use Rattle.formula.specs.declared.calculus.Core.TheVariants as c
use Rattle.formula.specs.Form.{Form, equal, unequal, holds, fails, differs, conjunction, disjunction, forms}
use Rattle.pred_unify.specs.Pairs.{difference, equations, alike, same_arguments, other_values, predicate_pair, function_pair, with_predicates, with_functions, function_pairs, pures, pairs_of, closing_of}
use Rattle.formula.specs.Tree.{form}
use Rattle.formula.specs.Made.{Made}
use Rattle.formula.proofs.Building.{form-Eq, form-Neq, form-And, form-Or}
use Rattle.formula.proofs.Making.{made_ok, made_err, made_just, left_done, pushed}

pub equations_next : (ss ts : List Linear) (i : ℕ) (s t : Linear) (out : List Core) (work : Traced (List Form)) → i < length ss → length ss ≡ length ts → s ≡ get_or ss i s → t ≡ get_or ts i t
    → Left (equations (drop i ss) (drop i ts) (map form out)) work → Left (next (difference s t) (λ d. equations (drop (i + 1) ss) (drop (i + 1) ts) (map form out ++ equal d ∷ []))) work
equations_next ss ts i s t out work lt len s_is t_is inv =
    let a : drop i ss ≡ s ∷ drop (i + 1) ss = drop-item ss i s lt s_is in
    let b : drop i ts ≡ t ∷ drop (i + 1) ts = drop-item ts i t (omega (arith, lt, len)) t_is in
    subst (λ l. Left l work) (λ j. equations (a j) (b j) (map form out)) inv

pub equations_pushed : (ss ts : List Linear) (out more : List Core) (d : Linear) (work : Traced (List Form)) → more ≡ out ++ c.Eq d ∷ []
    → Left (equations ss ts (map form out ++ equal d ∷ [])) work → Left (equations ss ts (map form more)) work
equations_pushed ss ts out more d work is inv = subst (λ fs. Left (equations ss ts fs) work) (sym (ap (map form) is ∙ pushed out (c.Eq d) (equal d) (form-Eq d))) inv

pub equations_end : (ss ts : List Linear) (i : ℕ) (out : List Core) (work : Traced (List Form)) → length ss ≤ i → Left (equations (drop i ss) (drop i ts) (map form out)) work → Made (map form) work (Ok out)
equations_end ss ts i out work le inv =
    let end = subst (λ l. Left (equations l (drop i ts) (map form out)) work) (drop_all ss i le) inv in
    left_done (map form) (Ok out) end (made_just (map form) (map form out) out refl)

-- work that gives nothing leaves the list as it is
pub nothing_put : (w : Traced (List Form)) (old new : List Core) → w ≡ just [] → new ≡ old → Made (λ (u : Unit {0}). map form new) (onto (map form old) w) (Ok tt)
nothing_put w old new none is =
    subst (λ x. Made (λ (u : Unit {0}). map form new) x (Ok tt)) (sym (nothing_more w (λ fs. just fs) (map form old) none)) (made_just (λ (u : Unit {0}). map form new) (map form old) tt (ap (map form) is))

same_onto : (out : List Form) (ss ts : List Linear) → onto out (same_arguments ss ts) ≡ next (equations ss ts []) (λ fs. just (out ++ conjunction (forms fs) ∷ []))
same_onto out ss ts =
    next-assoc (equations ss ts []) (λ fs. just (conjunction (forms fs) ∷ [])) (λ gs. just (out ++ gs))
    ∙ (λ i. next (equations ss ts []) (λ fs. next-just (conjunction (forms fs) ∷ []) (λ gs. just (out ++ gs)) i))

pub same_cut : (old new : List Core) (ss ts : List Linear) (r : Result (Unit {0}) TermFault) (e : TermFault) → IsErrAnd r (λ x. x ≡ e)
    → Made (map form) (equations ss ts []) (Err e) → Made (λ (u : Unit {0}). map form new) (onto (map form old) (same_arguments ss ts)) r
same_cut old new ss ts r e h made =
    subst (λ w. Made (λ (u : Unit {0}). map form new) w r) (sym (same_onto (map form old) ss ts))
    (made_err (map form) (λ (u : Unit {0}). map form new) (equations ss ts []) (λ fs. just (map form old ++ conjunction (forms fs) ∷ [])) r h made)

pub same_made : (old new all : List Core) (ss ts : List Linear) → new ≡ old ++ c.And all ∷ []
    → Made (map form) (equations ss ts []) (Ok all) → Made (λ (u : Unit {0}). map form new) (onto (map form old) (same_arguments ss ts)) (Ok tt)
same_made old new all ss ts is made =
    subst (λ w. Made (λ (u : Unit {0}). map form new) w (Ok tt)) (sym (same_onto (map form old) ss ts))
    (made_ok (map form) (λ (u : Unit {0}). map form new) (equations ss ts []) (λ fs. just (map form old ++ conjunction (forms fs) ∷ [])) made
    (made_just (λ (u : Unit {0}). map form new) (map form old ++ conjunction (forms (map form all)) ∷ []) tt (ap (map form) is ∙ pushed old (c.And all) (conjunction (forms (map form all))) (form-And all))))

-- the pair of two values, after the formulas in out
values_onto : (out : List Form) (ss : List Linear) (u : Linear) (ts : List Linear) (v : Linear)
    → onto out (other_values ss u ts v) ≡ next (equations ss ts []) (λ fs. next (difference u v) (λ d. just (out ++ conjunction (forms (fs ++ unequal d ∷ [])) ∷ [])))
values_onto out ss u ts v =
    next-assoc (equations ss ts []) (λ fs. next (difference u v) (λ d. just (conjunction (forms (fs ++ unequal d ∷ [])) ∷ []))) (λ gs. just (out ++ gs))
    ∙ (λ i. next (equations ss ts []) (λ fs. next-assoc (difference u v) (λ d. just (conjunction (forms (fs ++ unequal d ∷ [])) ∷ [])) (λ gs. just (out ++ gs)) i))
    ∙ (λ i. next (equations ss ts []) (λ fs. next (difference u v) (λ d. next-just (conjunction (forms (fs ++ unequal d ∷ [])) ∷ []) (λ gs. just (out ++ gs)) i)))

pub values_cut : (old new : List Core) (ss : List Linear) (u : Linear) (ts : List Linear) (v : Linear) (r : Result (Unit {0}) TermFault) (e : TermFault) → IsErrAnd r (λ x. x ≡ e)
    → Made (map form) (equations ss ts []) (Err e) → Made (λ (x : Unit {0}). map form new) (onto (map form old) (other_values ss u ts v)) r
values_cut old new ss u ts v r e h made =
    subst (λ w. Made (λ (x : Unit {0}). map form new) w r) (sym (values_onto (map form old) ss u ts v))
    (made_err (map form) (λ (x : Unit {0}). map form new) (equations ss ts []) (λ fs. next (difference u v) (λ d. just (map form old ++ conjunction (forms (fs ++ unequal d ∷ [])) ∷ []))) r h made)

-- what is left of the pair of two values once its equations are made
pub values_rest : (old new all : List Core) (ss : List Linear) (u : Linear) (ts : List Linear) (v : Linear) (r : Result (Unit {0}) TermFault) → Made (map form) (equations ss ts []) (Ok all)
    → Made (λ (x : Unit {0}). map form new) (next (difference u v) (λ d. just (map form old ++ conjunction (forms (map form all ++ unequal d ∷ [])) ∷ []))) r
    → Made (λ (x : Unit {0}). map form new) (onto (map form old) (other_values ss u ts v)) r
values_rest old new all ss u ts v r made rest =
    subst (λ w. Made (λ (x : Unit {0}). map form new) w r) (sym (values_onto (map form old) ss u ts v))
    (made_ok (map form) (λ (x : Unit {0}). map form new) (equations ss ts []) (λ fs. next (difference u v) (λ d. just (map form old ++ conjunction (forms (fs ++ unequal d ∷ [])) ∷ []))) made rest)

pub values_pushed : (old new all more : List Core) (d : Linear) → more ≡ all ++ c.Neq d ∷ [] → new ≡ old ++ c.And more ∷ [] → map form new ≡ map form old ++ conjunction (forms (map form all ++ unequal d ∷ [])) ∷ []
values_pushed old new all more d neq is =
    ap (map form) is
    ∙ pushed old (c.And more) (conjunction (forms (map form all ++ unequal d ∷ []))) (form-And more ∙ ap (λ l. conjunction (forms l)) (ap (map form) neq ∙ pushed all (c.Neq d) (unequal d) (form-Neq d)))

pub each_next : (f : q.Member → Traced (List Form)) (rs : List (Bor Member)) (i : ℕ) (r : Bor Member) (out : List Core) (work : Traced (List Form)) → i < length rs → r ≡ get_or rs i r
    → Left (each f (members_of (behind (drop i rs))) (map form out)) work → Left (next (f (member_of r.now)) (λ ds. each f (members_of (behind (drop (i + 1) rs))) (map form out ++ ds))) work
each_next f rs i r out work lt is inv = subst (λ l. Left (each f (members_of (behind l)) (map form out)) work) (drop-item rs i r lt is) inv

-- the work of the member at the index, after the formulas in out, and then that of the later ones
pub each_onto : (f : q.Member → Traced (List Form)) (rs : List (Bor Member)) (i : ℕ) (r : Bor Member) (out : List Core) (work : Traced (List Form)) → i < length rs → r ≡ get_or rs i r
    → Left (each f (members_of (behind (drop i rs))) (map form out)) work → Left (next (onto (map form out) (f (member_of r.now))) (λ fs. each f (members_of (behind (drop (i + 1) rs))) fs)) work
each_onto f rs i r out work lt is inv =
    subst (λ w. Left w work) (sym (onto_next (f (member_of r.now)) (λ fs. each f (members_of (behind (drop (i + 1) rs))) fs) (map form out))) (each_next f rs i r out work lt is inv)

pub each_end : (f : q.Member → Traced (List Form)) (rs : List (Bor Member)) (i : ℕ) (out : List Core) (work : Traced (List Form)) → length rs ≤ i
    → Left (each f (members_of (behind (drop i rs))) (map form out)) work → Made (λ (u : Unit {0}). map form out) work (Ok tt)
each_end f rs i out work le inv =
    left_done (λ (u : Unit {0}). map form out) (Ok tt) (subst (λ l. Left (each f (members_of (behind l)) (map form out)) work) (drop_all rs i le) inv)
    (made_just (λ (u : Unit {0}). map form out) (map form out) tt refl)

-- function pairs that begin after some formulas are the same after them
values_behind : (ms : List q.Member) (a b : List Form) → function_pairs ms (a ++ b) ≡ onto a (function_pairs ms b)
values_behind [] a b = sym (next-just b (λ fs. just (a ++ fs)))
values_behind (m ∷ ms) a b =
    (λ i. next (with_functions ms m.formula) (λ ds. function_pairs ms (append_assoc a b ds i))) ∙ (λ i. next (with_functions ms m.formula) (λ ds. values_behind ms a (b ++ ds) i))
    ∙ sym (next-assoc (with_functions ms m.formula) (λ ds. function_pairs ms (b ++ ds)) (λ fs. just (a ++ fs)))

pub predicate_else : (p : ℕ) (ss : List Linear) (g : Core) (q : ℕ) (ts same : List Linear) (b : Bool) (old new : List Core) → form g ≡ holds q ts → same ≡ ts → b ≡ alike p ss q same → b ≡ false → new ≡ old
    → Made (λ (u : Unit {0}). map form new) (onto (map form old) (predicate_pair p ss (form g))) (Ok tt)
predicate_else p ss g q ts same b old new is slice test none unchanged =
    nothing_put (predicate_pair p ss (form g)) old new
    (ap (predicate_pair p ss) is ∙ ap (λ t. cond t (same_arguments ss ts) (just [])) (ap (alike p ss q) (sym slice) ∙ sym test ∙ none)) unchanged

pub function_else : (f : ℕ) (ss : List Linear) (u : Linear) (g : Core) (h : ℕ) (ts same : List Linear) (v : Linear) (b : Bool) (old new : List Core) → form g ≡ differs h ts v → same ≡ ts → b ≡ alike f ss h same → b ≡ false → new ≡ old
    → Made (λ (x : Unit {0}). map form new) (onto (map form old) (function_pair f ss u (form g))) (Ok tt)
function_else f ss u g h ts same v b old new is slice test none unchanged =
    nothing_put (function_pair f ss u (form g)) old new
    (ap (function_pair f ss u) is ∙ ap (λ t. cond t (other_values ss u ts v) (just [])) (ap (alike f ss h) (sym slice) ∙ sym test ∙ none)) unchanged

pub predicates_made : (ms : List q.Member) (g : Core) (p : ℕ) (ss same : List Linear) (old new : List Core) (r : Result (Unit {0}) TermFault) → form g ≡ fails p ss → same ≡ ss
    → Made (λ (u : Unit {0}). map form new) (each (λ m. predicate_pair p same m.formula) ms (map form old)) r → Made (λ (u : Unit {0}). map form new) (onto (map form old) (with_predicates ms (form g))) r
predicates_made ms g p ss same old new r is slice made =
    subst (λ x. Made (λ (u : Unit {0}). map form new) x r)
    (each_from (λ m. predicate_pair p same m.formula) ms (map form old) ∙ ap (λ l. onto (map form old) (each (λ m. predicate_pair p l m.formula) ms [])) slice ∙ ap (λ f. onto (map form old) (with_predicates ms f)) (sym is)) made

-- the work of the member at the index of a loop over places, after the formulas in out, and then that of the later ones
pub each_at : (f : q.Member → Traced (List Form)) (rs : List (Bor Member)) (i : ℕ) (d : Bor Member) (out : List Core) (work : Traced (List Form)) → i < length rs
    → Left (each f (members_of (behind (drop i rs))) (map form out)) work → Left (next (onto (map form out) (f (member_of (get_or rs i d).now))) (λ fs. each f (members_of (behind (drop (i + 1) rs))) fs)) work
each_at f rs i d out work lt inv =
    subst (λ w. Left w work) (sym (onto_next (f (member_of (get_or rs i d).now)) (λ fs. each f (members_of (behind (drop (i + 1) rs))) fs) (map form out)))
    (subst (λ l. Left (each f (members_of (behind l)) (map form out)) work) (drop_more rs i d lt) inv)

-- the work of what lies at the index, after the formulas in out, and then that of the later ones
pub met_onto : (f : Met → Traced (List Form)) (xs : List Met) (i : ℕ) (x : Met) (out : List Core) (work : Traced (List Form)) → i < length xs → x ≡ get_or xs i x
    → Left (each f (drop i xs) (map form out)) work → Left (next (onto (map form out) (f x)) (λ fs. each f (drop (i + 1) xs) fs)) work
met_onto f xs i x out work lt is inv =
    subst (λ w. Left w work) (sym (onto_next (f x) (λ fs. each f (drop (i + 1) xs) fs) (map form out))) (subst (λ l. Left (each f l (map form out)) work) (drop-item xs i x lt is) inv)

pub met_end : (f : Met → Traced (List Form)) (xs : List Met) (i : ℕ) (out : List Core) (work : Traced (List Form)) → length xs ≤ i
    → Left (each f (drop i xs) (map form out)) work → Made (λ (u : Unit {0}). map form out) work (Ok tt)
met_end f xs i out work le inv =
    left_done (λ (u : Unit {0}). map form out) (Ok tt) (subst (λ l. Left (each f l (map form out)) work) (drop_all xs i le) inv)
    (made_just (λ (u : Unit {0}). map form out) (map form out) tt refl)

pub functions_made : (ms : List q.Member) (g : Core) (f : ℕ) (ss same : List Linear) (u : Linear) (old new : List Core) (r : Result (Unit {0}) TermFault) → form g ≡ differs f ss u → same ≡ ss
    → Made (λ (x : Unit {0}). map form new) (each (λ m. function_pair f same u m.formula) ms (map form old)) r → Made (λ (x : Unit {0}). map form new) (onto (map form old) (with_functions ms (form g))) r
functions_made ms g f ss same u old new r is slice made =
    subst (λ x. Made (λ (y : Unit {0}). map form new) x r)
    (each_from (λ m. function_pair f same u m.formula) ms (map form old) ∙ ap (λ l. onto (map form old) (each (λ m. function_pair f l u m.formula) ms [])) slice ∙ ap (λ h. onto (map form old) (with_functions ms h)) (sym is)) made

pub later_onto : (rs : List (Bor Member)) (i : ℕ) (d : Bor Member) (out : List Core) (work : Traced (List Form)) → i < length rs
    → Left (function_pairs (members_of (behind (drop i rs))) (map form out)) work
    → Left (next (onto (map form out) (with_functions (members_of (behind (drop (i + 1) rs))) (form (get_or rs i d).now.formula))) (λ fs. function_pairs (members_of (behind (drop (i + 1) rs))) fs)) work
later_onto rs i d out work lt inv =
    let ms = members_of (behind (drop (i + 1) rs)) in
    subst (λ w. Left w work) (sym (onto_next (with_functions ms (form (get_or rs i d).now.formula)) (λ fs. function_pairs ms fs) (map form out)))
    (subst (λ l. Left (function_pairs (members_of (behind l)) (map form out)) work) (drop_more rs i d lt) inv)

pub later_end : (rs : List (Bor Member)) (i : ℕ) (out : List Core) (work : Traced (List Form)) → length rs ≤ i
    → Left (function_pairs (members_of (behind (drop i rs))) (map form out)) work → Made (λ (u : Unit {0}). map form out) work (Ok tt)
later_end rs i out work le inv =
    left_done (λ (u : Unit {0}). map form out) (Ok tt) (subst (λ l. Left (function_pairs (members_of (behind l)) (map form out)) work) (drop_all rs i le) inv)
    (made_just (λ (u : Unit {0}). map form out) (map form out) tt refl)

pub later_made : (rs : List (Bor Member)) (i : ℕ) (d : Bor Member) (old new : List Core) (r : Result (Unit {0}) TermFault)
    → Made (λ (u : Unit {0}). map form new) (onto (map form old) (with_functions (members_of (behind (take (length rs - (i + 1)) (drop (i + 1) rs)))) (form (get_or rs i d).now.formula))) r
    → Made (λ (u : Unit {0}). map form new) (onto (map form old) (with_functions (members_of (behind (drop (i + 1) rs))) (form (get_or rs i d).now.formula))) r
later_made rs i d old new r made =
    let whole : take (length rs - (i + 1)) (drop (i + 1) rs) ≡ drop (i + 1) rs = take_all (length rs - (i + 1)) (drop (i + 1) rs) (omega (arith, length-drop (i + 1) rs)) in
    subst (λ l. Made (λ (u : Unit {0}). map form new) (onto (map form old) (with_functions (members_of (behind l)) (form (get_or rs i d).now.formula))) r) whole made

-- the pairs of a sequent, after some formulas, looked for where a predicate is met and among the values of functions
pairs_onto : (ms ds : List Member) (hs : List (Bor Member)) (xs : List Met) (old : List Form) → meetings_by hs xs ≡ meetings ms → ds ≡ among is_differing ms
    → next (each (λ x. with_predicates (members_of (behind (drop x.first hs))) (form x.failing.now.formula)) xs old) (λ fs. function_pairs (members_of ds) fs) ≡ onto old (pairs_of (members_of ms))
pairs_onto ms ds hs xs old met other =
    let all = each (λ m. with_predicates (members_of ms) m.formula) (members_of ms) [] in
    let first : each (λ x. with_predicates (members_of (behind (drop x.first hs))) (form x.failing.now.formula)) xs old ≡ onto old all = meetings_kept ms hs xs old met ∙ each_from (λ m. with_predicates (members_of ms) m.formula) (members_of ms) old in
    let second = λ (fs : List Form). ap (λ l. function_pairs (members_of l) fs) other ∙ values_kept ms fs in
    (λ i. next (first i) (λ fs. second fs i)) ∙ onto_next all (λ fs. function_pairs (members_of ms) fs) old
    ∙ (λ i. next all (λ fs. values_behind (members_of ms) old fs i)) ∙ sym (next-assoc all (λ fs. function_pairs (members_of ms) fs) (λ fs. just (old ++ fs)))

pub pairs_cut : (ms ds : List Member) (hs : List (Bor Member)) (xs : List Met) (old new more : List Core) (r : Result (Unit {0}) TermFault) (e : TermFault) → meetings_by hs xs ≡ meetings ms → ds ≡ among is_differing ms → IsErrAnd r (λ x. x ≡ e)
    → Made (λ (u : Unit {0}). map form more) (each (λ x. with_predicates (members_of (behind (drop x.first hs))) (form x.failing.now.formula)) xs (map form old)) (Err e) → Made (λ (u : Unit {0}). map form new) (onto (map form old) (pairs_of (members_of ms))) r
pairs_cut ms ds hs xs old new more r e met other h made =
    subst (λ w. Made (λ (u : Unit {0}). map form new) w r) (pairs_onto ms ds hs xs (map form old) met other)
    (made_err (λ (u : Unit {0}). map form more) (λ (u : Unit {0}). map form new) (each (λ x. with_predicates (members_of (behind (drop x.first hs))) (form x.failing.now.formula)) xs (map form old)) (λ fs. function_pairs (members_of ds) fs) r h made)

pub pairs_made : (ms ds : List Member) (hs : List (Bor Member)) (xs : List Met) (old new more : List Core) (r : Result (Unit {0}) TermFault) → meetings_by hs xs ≡ meetings ms → ds ≡ among is_differing ms
    → Made (λ (u : Unit {0}). map form more) (each (λ x. with_predicates (members_of (behind (drop x.first hs))) (form x.failing.now.formula)) xs (map form old)) (Ok tt)
    → Made (λ (u : Unit {0}). map form new) (function_pairs (members_of ds) (map form more)) r
    → Made (λ (u : Unit {0}). map form new) (onto (map form old) (pairs_of (members_of ms))) r
pairs_made ms ds hs xs old new more r met other first second =
    subst (λ w. Made (λ (u : Unit {0}). map form new) w r) (pairs_onto ms ds hs xs (map form old) met other)
    (made_ok (λ (u : Unit {0}). map form more) (λ (u : Unit {0}). map form new) (each (λ x. with_predicates (members_of (behind (drop x.first hs))) (form x.failing.now.formula)) xs (map form old)) (λ fs. function_pairs (members_of ds) fs) first second)

-- one of the pure members or of the pairs, put together in one list
closing_onto : (s : q.Sequent) (gs : List Form) → gs ≡ pures s.count s.members → next (onto gs (pairs_of s.members)) (λ fs. just (disjunction (forms fs))) ≡ closing_of s
closing_onto s gs is =
    next-assoc (pairs_of s.members) (λ fs. just (gs ++ fs)) (λ fs. just (disjunction (forms fs)))
    ∙ (λ i. next (pairs_of s.members) (λ fs. next-just (gs ++ fs) (λ hs. just (disjunction (forms hs))) i))
    ∙ ap (λ l. next (pairs_of s.members) (λ fs. just (disjunction (forms (l ++ fs))))) is

pub closing_cut : (s : q.Sequent) (pure new : List Core) (r : Result Core TermFault) (e : TermFault) → map form pure ≡ pures s.count s.members → IsErrAnd r (λ x. x ≡ e)
    → Made (λ (u : Unit {0}). map form new) (onto (map form pure) (pairs_of s.members)) (Err e) → Made form (closing_of s) r
closing_cut s pure new r e is h made =
    subst (λ w. Made form w r) (closing_onto s (map form pure) is)
    (made_err (λ (u : Unit {0}). map form new) form (onto (map form pure) (pairs_of s.members)) (λ fs. just (disjunction (forms fs))) r h made)

pub closing_made : (s : q.Sequent) (pure new : List Core) → map form pure ≡ pures s.count s.members
    → Made (λ (u : Unit {0}). map form new) (onto (map form pure) (pairs_of s.members)) (Ok tt) → Made form (closing_of s) (Ok (c.Or new))
closing_made s pure new is made =
    subst (λ w. Made form w (Ok (c.Or new))) (closing_onto s (map form pure) is)
    (made_ok (λ (u : Unit {0}). map form new) form (onto (map form pure) (pairs_of s.members)) (λ fs. just (disjunction (forms fs))) made (made_just form (disjunction (forms (map form new))) (c.Or new) (form-Or new)))

-- what holds of all members holds of each that a reference leads to
pub all_behind : (P : Member → Type 0) (rs : List (Bor Member)) (i : ℕ) (r : Bor Member) → i < length rs → r ≡ get_or rs i r → AllByRecursion P (behind rs) → P r.now
all_behind P rs i r lt is h = subst (λ (b : Bor Member). P b.now) (sym is) (found rs i h lt)
  where
    found : (rs : List (Bor Member)) (i : ℕ) → AllByRecursion P (behind rs) → i < length rs → P (get_or rs i r).now
    found [] i h lt = absurd (let z : i < 0 = lt in omega (arith, z))
    found (b ∷ bs) zero h lt = h.0
    found (b ∷ bs) (suc i) h lt = found bs i h.1 (let z : suc i < suc (length bs) = lt in omega (arith, z))
