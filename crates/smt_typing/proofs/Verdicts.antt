-- The first fault and the sort of a term, by those of its parts.
use Rattle.std.proofs.Common.{ℕ, ◌≡◌, ◌<◌, ◌≤◌, ◌+◌, Bool, List, [], ◌∷◌, ◌++◌, length, drop, get_or, refl, sym, ap, ◌∙◌, Option, Some, None, Result, Ok, Err, IfOk, append_assoc, nat_eq}
use Rattle.std.proofs.lemmas.List.{drop_all}
use Rattle.smt_commands.specs.declared.refusal.ScriptRefusal.{ScriptRefusal}
use Rattle.smt_commands.specs.declared.table.Entry.{Entry}
use Rattle.smt_commands.specs.Symbols.{entry_of}
use Rattle.smt_commands.specs.Least.{least_from}
use Rattle.smt_commands.proofs.Least.{two, three, least_from-append}
use Rattle.smt_terms.specs.declared.operator.Sort.{Sort}
use Rattle.smt_terms.specs.declared.operator.Sort.TheVariants as sort
use Rattle.smt_terms.specs.declared.operator.Operator.{Operator}
use Rattle.smt_terms.specs.declared.operator.Operator.TheVariants as op
use Rattle.smt_terms.specs.declared.term.Binding.{Binding}
use Rattle.smt_terms.specs.declared.term.Name.{Name}
use Rattle.smt_terms.specs.declared.term.Variable.{Variable}
use Rattle.smt_terms.specs.declared.term.Term.{Term}
use Rattle.smt_terms.specs.declared.term.Term.TheVariants as t
use Rattle.smt_terms.specs.Term.{PlacedTerm, PlacedTerms, bindings_of, count, phrase, phrases_of}
use Rattle.smt_terms.specs.Operators.{found, operator_of}
use Rattle.smt_terms.specs.Evaluation.{names_of, texts_of, with_names}
use Rattle.smt_terms.proofs.Folds.{phrase-Let}
use Rattle.smt_typing.specs.declared.bound.Judged.{Judged}
use Rattle.smt_typing.specs.declared.operators.Need.{Need}
use Rattle.smt_typing.specs.declared.operators.Need.TheVariants as need
use Rattle.smt_typing.specs.Bounds.{judged}
use Rattle.smt_typing.specs.Sorts.{Sorts, bound_sorts, first_of, given_sort, operator_sort, second_of, sorts_in, term_sort, use_sort, variables}
use Rattle.smt_typing.specs.Faults.{alike_faults, arity_faults, bound_faults, branch_faults, each_faults, faults, kind_faults, product_faults, symbol_faults, symbol_wants, takes, term_faults, use_faults, use_wants, variable_faults, wants}
use Rattle.smt_typing.specs.Judging.{argument_faults, operator_faults, quantifier_faults, used_faults, used_sort}
use Rattle.smt_typing.proofs.Walking.{bindings-drop, count-phrases, phrases-drop}

pub ok_map : {A E : Type 0} (r : Result A E) (P Q : A → Type 0) → ((x : A) → P x → Q x) → IfOk r P → IfOk r Q
ok_map (Ok x) P Q f p = f x p
ok_map (Err e) P Q f p = tt

abbrev verdict : Option ScriptRefusal → Option Sort → Judged
verdict f s = record { found = f; sort = s }

pub judged_is : (r f : Option ScriptRefusal) (fs : List ScriptRefusal) (s k : Option Sort) → r ≡ least_from f fs → s ≡ k → verdict r s ≡ judged f fs k
judged_is r f fs s k e h = ap (λ z. verdict z s) e ∙ ap (verdict (least_from f fs)) h

-- a term of which a sort is needed
pub needed_is : (f r : Option ScriptRefusal) (fs : List ScriptRefusal) (want s : Option Sort) (at n : ℕ) (j : Judged) → j ≡ judged f fs s → n ≡ at → r ≡ least_from j.found (kind_faults want j.sort n)
    → verdict r j.sort ≡ judged f (fs ++ kind_faults want s at) s
needed_is f r fs want s at n j e h k =
    judged_is r f (fs ++ kind_faults want s at) j.sort s
    (two f fs (kind_faults want s at) j.found r (ap (λ z. z.found) e) (k ∙ ap (λ z. least_from j.found (kind_faults want z n)) (ap (λ z. z.sort) e) ∙ ap (λ z. least_from j.found (kind_faults want s z)) h))
    (ap (λ z. z.sort) e)

-- one term further
pub each_more : (g : List Entry) (b : Sorts) (want : Option Sort) (ts : List Term) (i : ℕ) (d : Term) (f r whole : Option ScriptRefusal) (j : Judged) (s : Option Sort) → i < length ts
    → j ≡ judged f (term_faults g b want (phrase (get_or ts i d))) s → r ≡ j.found
    → least_from f (each_faults g b want (phrases_of (drop i ts))) ≡ whole → least_from r (each_faults g b want (phrases_of (drop (i + 1) ts))) ≡ whole
each_more g b want ts i d f r whole j s h e k w =
    ap (λ z. least_from z (each_faults g b want (phrases_of (drop (i + 1) ts)))) (k ∙ ap (λ z. z.found) e)
    ∙ sym (least_from-append f (term_faults g b want (phrase (get_or ts i d))) (each_faults g b want (phrases_of (drop (i + 1) ts))))
    ∙ sym (ap (λ z. least_from f (each_faults g b want z)) (phrases-drop ts i d h)) ∙ w

-- one binding further
pub bound_more : (g : List Entry) (b : Sorts) (bs : List Binding) (i : ℕ) (d : Binding) (f whole : Option ScriptRefusal) (j : Judged) (s : Option Sort) → i < length bs
    → j ≡ judged f (faults g b (phrase (get_or bs i d).term)) s
    → least_from f (bound_faults g b (bindings_of (drop i bs))) ≡ whole → least_from j.found (bound_faults g b (bindings_of (drop (i + 1) bs))) ≡ whole
bound_more g b bs i d f whole j s h e w =
    ap (λ z. least_from z (bound_faults g b (bindings_of (drop (i + 1) bs)))) (ap (λ z. z.found) e)
    ∙ sym (least_from-append f (faults g b (phrase (get_or bs i d).term)) (bound_faults g b (bindings_of (drop (i + 1) bs))))
    ∙ sym (ap (λ z. least_from f (bound_faults g b z)) (bindings-drop bs i d h)) ∙ w

pub sorts_more : (g : List Entry) (b : Sorts) (bs : List Binding) (i : ℕ) (d : Binding) (ss new whole : List (Option Sort)) (j : Judged) (f : Option ScriptRefusal) (fs : List ScriptRefusal) → i < length bs
    → j ≡ judged f fs (term_sort g b (phrase (get_or bs i d).term)) → new ≡ ss ++ j.sort ∷ []
    → ss ++ bound_sorts g b (bindings_of (drop i bs)) ≡ whole → new ++ bound_sorts g b (bindings_of (drop (i + 1) bs)) ≡ whole
sorts_more g b bs i d ss new whole j f fs h e n w =
    let later = bound_sorts g b (bindings_of (drop (i + 1) bs)) in
    ap (λ z. z ++ later) n ∙ append_assoc ss (j.sort ∷ []) later ∙ ap (λ z. ss ++ z ∷ later) (ap (λ z. z.sort) e)
    ∙ sym (ap (λ z. ss ++ bound_sorts g b z) (bindings-drop bs i d h)) ∙ w

-- terms of one sort
pub alike_is : (g : List Entry) (b : Sorts) (ts : List Term) (first : Term) (rest : List Term) (f r : Option ScriptRefusal) (j : Judged) → ts ≡ first ∷ rest
    → j ≡ judged f (faults g b (phrase first)) (term_sort g b (phrase first)) → r ≡ least_from j.found (each_faults g b j.sort (phrases_of rest))
    → verdict r j.sort ≡ judged f (alike_faults g b (phrases_of ts)) (first_of (sorts_in g b (phrases_of ts)))
alike_is g b ts first rest f r j p e k =
    let s = term_sort g b (phrase first) in
    judged_is r f (faults g b (phrase first) ++ each_faults g b s (phrases_of rest)) j.sort s
    (two f (faults g b (phrase first)) (each_faults g b s (phrases_of rest)) j.found r (ap (λ z. z.found) e) (k ∙ ap (λ z. least_from j.found (each_faults g b z (phrases_of rest))) (ap (λ z. z.sort) e)))
    (ap (λ z. z.sort) e)
    ∙ ap (λ z. judged f (alike_faults g b (phrases_of z)) (first_of (sorts_in g b (phrases_of z)))) (sym p)

-- a condition and branches
pub branches_are : (g : List Entry) (b : Sorts) (ts : List Term) (c : Term) (rest : List Term) (f : Option ScriptRefusal) (k j : Judged) → ts ≡ c ∷ rest
    → k ≡ judged f (term_faults g b (Some sort.Bool) (phrase c)) (term_sort g b (phrase c)) → j ≡ judged k.found (alike_faults g b (phrases_of rest)) (first_of (sorts_in g b (phrases_of rest)))
    → j ≡ judged f (branch_faults g b (phrases_of ts)) (second_of (sorts_in g b (phrases_of ts)))
branches_are g b ts c rest f k j p e h =
    let first = term_faults g b (Some sort.Bool) (phrase c) in
    h ∙ ap (λ z. judged z (alike_faults g b (phrases_of rest)) (first_of (sorts_in g b (phrases_of rest)))) (ap (λ z. z.found) e)
    ∙ ap (λ z. verdict z (first_of (sorts_in g b (phrases_of rest)))) (sym (least_from-append f first (alike_faults g b (phrases_of rest))))
    ∙ ap (λ z. judged f (branch_faults g b (phrases_of z)) (second_of (sorts_in g b (phrases_of z)))) (sym p)

-- the faults of terms of one sort, when all are gone through
pub each_end : (g : List Entry) (b : Sorts) (want : Option Sort) (ts : List Term) (i : ℕ) (r f : Option ScriptRefusal) → length ts ≤ i
    → least_from r (each_faults g b want (phrases_of (drop i ts))) ≡ least_from f (each_faults g b want (phrases_of ts)) → r ≡ least_from f (each_faults g b want (phrases_of ts))
each_end g b want ts i r f h w = sym (ap (λ z. least_from r (each_faults g b want (phrases_of z))) (drop_all i ts h)) ∙ w

-- an operator

same_sort : (o : Operator) (n : ℕ) (s k : Option Sort) → (wants o ≡ need.Branches → s ≡ k) → operator_sort o n s ≡ operator_sort o n k
same_sort op.Choose n s k h = ap (operator_sort op.Choose n) (h refl)
same_sort (op.Truth v) n s k h = refl
same_sort op.Not n s k h = refl
same_sort op.And n s k h = refl
same_sort op.Or n s k h = refl
same_sort op.Xor n s k h = refl
same_sort op.Implies n s k h = refl
same_sort op.Equal n s k h = refl
same_sort op.Distinct n s k h = refl
same_sort (op.Compare r) n s k h = refl
same_sort op.Plus n s k h = refl
same_sort op.Minus n s k h = refl
same_sort op.Times n s k h = refl
same_sort op.Abs n s k h = refl

pub operator_is : (g : List Entry) (b : Sorts) (o : Operator) (at : ℕ) (ts : List Term) (f p q : Option ScriptRefusal) (fits : Bool) (n : Need) (j : Judged) (s : Option Sort)
    → fits ≡ takes o (length ts) → p ≡ least_from f (arity_faults fits at) → q ≡ least_from p (product_faults o at (phrases_of ts)) → n ≡ wants o
    → j.found ≡ least_from q (argument_faults g b n (phrases_of ts)) → (n ≡ need.Branches → j.sort ≡ second_of (sorts_in g b (phrases_of ts))) → s ≡ operator_sort o (length ts) j.sort
    → verdict j.found s ≡ judged f (operator_faults g b o at (phrases_of ts)) (operator_sort o (length ts) (second_of (sorts_in g b (phrases_of ts))))
operator_is g b o at ts f p q fits n j s a h k w l m e =
    let fits_is : fits ≡ takes o (count (phrases_of ts)) = a ∙ ap (takes o) (sym (count-phrases ts)) in
    judged_is j.found f (operator_faults g b o at (phrases_of ts)) s (operator_sort o (length ts) (second_of (sorts_in g b (phrases_of ts))))
    (three f (arity_faults (takes o (count (phrases_of ts))) at) (product_faults o at (phrases_of ts)) (argument_faults g b (wants o) (phrases_of ts)) p q j.found
    (h ∙ ap (λ z. least_from f (arity_faults z at)) fits_is) k (l ∙ ap (λ z. least_from q (argument_faults g b z (phrases_of ts))) w))
    (e ∙ same_sort o (length ts) j.sort (second_of (sorts_in g b (phrases_of ts))) (λ z. m (w ∙ z)))

-- a symbol at its arguments

abbrev by_use : List Entry → Sorts → Name → PlacedTerms → Option (Option Sort) → Option Operator → Option Entry → Option ScriptRefusal → Judged
by_use g b x ts s o e f = judged f (use_faults s o e x ts ++ argument_faults g b (use_wants s o e) ts) (use_sort s o e (count ts) (sorts_in g b ts))

-- what is used, in the order of the look-ups
pub bound_use : (g : List Entry) (b : Sorts) (x : Name) (ts : List Term) (f p q : Option ScriptRefusal) (s : Option Sort) (fits : Bool) → found x.text b ≡ Some s
    → fits ≡ (nat_eq (length ts) 0) → p ≡ least_from f (arity_faults fits x.at) → q ≡ least_from p (each_faults g b None (phrases_of ts))
    → verdict q s ≡ judged f (used_faults g b x (phrases_of ts)) (used_sort g b x (phrases_of ts))
bound_use g b x ts f p q s fits e a h k =
    let fits_is : fits ≡ nat_eq (count (phrases_of ts)) 0 = a ∙ ap (λ z. nat_eq z 0) (sym (count-phrases ts)) in
    judged_is q f (arity_faults (nat_eq (count (phrases_of ts)) 0) x.at ++ each_faults g b None (phrases_of ts)) s s
    (two f (arity_faults (nat_eq (count (phrases_of ts)) 0) x.at) (each_faults g b None (phrases_of ts)) p q (h ∙ ap (λ z. least_from f (arity_faults z x.at)) fits_is) k) refl
    ∙ ap (λ z. by_use g b x (phrases_of ts) z (operator_of x.text) (entry_of x.text g) f) (sym e)

pub operator_use : (g : List Entry) (b : Sorts) (x : Name) (ts : List Term) (f : Option ScriptRefusal) (o : Operator) (j : Judged) → found x.text b ≡ None → operator_of x.text ≡ Some o
    → j ≡ judged f (operator_faults g b o x.at (phrases_of ts)) (operator_sort o (length ts) (second_of (sorts_in g b (phrases_of ts))))
    → j ≡ judged f (used_faults g b x (phrases_of ts)) (used_sort g b x (phrases_of ts))
operator_use g b x ts f o j e h k =
    k ∙ ap (λ z. judged f (operator_faults g b o x.at (phrases_of ts)) (operator_sort o z (second_of (sorts_in g b (phrases_of ts))))) (sym (count-phrases ts))
    ∙ ap (λ z. by_use g b x (phrases_of ts) None z (entry_of x.text g) f) (sym h)
    ∙ ap (λ z. by_use g b x (phrases_of ts) z (operator_of x.text) (entry_of x.text g) f) (sym e)

pub symbol_use : (g : List Entry) (b : Sorts) (x : Name) (ts : List Term) (f p q : Option ScriptRefusal) (y : Option Entry) (want s : Option Sort) → found x.text b ≡ None → operator_of x.text ≡ None → entry_of x.text g ≡ y
    → p ≡ least_from f (symbol_faults y x.text x.at (length ts)) → symbol_wants y ≡ need.Each want → given_sort y ≡ s → q ≡ least_from p (each_faults g b want (phrases_of ts))
    → verdict q s ≡ judged f (used_faults g b x (phrases_of ts)) (used_sort g b x (phrases_of ts))
symbol_use g b x ts f p q y want s e h l k w gives m =
    let own = symbol_faults y x.text x.at (count (phrases_of ts)) in
    judged_is q f (own ++ argument_faults g b (symbol_wants y) (phrases_of ts)) s (given_sort y)
    (two f own (argument_faults g b (symbol_wants y) (phrases_of ts)) p q (k ∙ ap (λ z. least_from f (symbol_faults y x.text x.at z)) (sym (count-phrases ts)))
    (m ∙ ap (λ z. least_from p (argument_faults g b z (phrases_of ts))) (sym w))) (sym gives)
    ∙ ap (λ z. by_use g b x (phrases_of ts) None None z f) (sym l)
    ∙ ap (λ z. by_use g b x (phrases_of ts) None z (entry_of x.text g) f) (sym h)
    ∙ ap (λ z. by_use g b x (phrases_of ts) z (operator_of x.text) (entry_of x.text g) f) (sym e)

-- a quantifier
pub quantifier_is : (g : List Entry) (b inner : Sorts) (xs : List Variable) (body : PlacedTerm) (f p : Option ScriptRefusal) (j : Judged) (s : Option Sort) → inner ≡ variables (texts_of xs) b
    → p ≡ least_from f (variable_faults xs) → j ≡ judged p (term_faults g inner (Some sort.Bool) body) s → verdict j.found (Some sort.Bool) ≡ judged f (quantifier_faults g b xs body) (Some sort.Bool)
quantifier_is g b inner xs body f p j s i h e =
    judged_is j.found f (quantifier_faults g b xs body) (Some sort.Bool) (Some sort.Bool)
    (two f (variable_faults xs) (term_faults g (variables (texts_of xs) b) (Some sort.Bool) body) p j.found h
    (ap (λ z. z.found) e ∙ ap (λ z. least_from p (term_faults g z (Some sort.Bool) body)) i)) refl

-- a `let`
pub let_is : (g : List Entry) (b inner : Sorts) (term : Term) (at : ℕ) (bs : List Binding) (body : Term) (ss : List (Option Sort)) (f p : Option ScriptRefusal) (j : Judged) → term ≡ t.Let at bs body
    → inner ≡ with_names (names_of (bindings_of bs)) ss b → p ≡ least_from f (bound_faults g b (bindings_of bs)) → ss ≡ bound_sorts g b (bindings_of bs)
    → j ≡ judged p (faults g inner (phrase body)) (term_sort g inner (phrase body)) → j ≡ judged f (faults g b (phrase term)) (term_sort g b (phrase term))
let_is g b inner term at bs body ss f p j is i h s e =
    let whole : inner ≡ with_names (names_of (bindings_of bs)) (bound_sorts g b (bindings_of bs)) b = i ∙ ap (λ z. with_names (names_of (bindings_of bs)) z b) s in
    let deep = with_names (names_of (bindings_of bs)) (bound_sorts g b (bindings_of bs)) b in
    e ∙ ap (λ z. judged p (faults g z (phrase body)) (term_sort g z (phrase body))) whole
    ∙ ap (λ z. judged z (faults g deep (phrase body)) (term_sort g deep (phrase body))) h
    ∙ ap (λ z. verdict z (term_sort g deep (phrase body))) (sym (least_from-append f (bound_faults g b (bindings_of bs)) (faults g deep (phrase body))))
    ∙ ap (λ z. judged f (faults g b z) (term_sort g b z)) (sym (ap phrase is ∙ phrase-Let at bs body))
