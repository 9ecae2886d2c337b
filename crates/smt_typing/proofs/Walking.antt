-- Going through the terms of a list, and through the bindings of a `let`.
use Rattle.std.proofs.Common.{ℕ, suc, ◌≡◌, ◌<◌, ◌≤◌, ◌+◌, ◌||◌, Bool, true, false, List, [], ◌∷◌, length, drop, get_or, refl, sym, ap, ◌∙◌, Option, Some, None, if◌then◌else◌, add-one, drop-cons, arith, Bor}
use Rattle.std.proofs.lemmas.List.{drop_all}
use Rattle.base_texts.specs.Texts.{is_text, is_among}
use Rattle.smt_terms.specs.declared.operator.Sort.{Sort}
use Rattle.smt_terms.specs.declared.operator.Sort.TheVariants as sort
use Rattle.smt_terms.specs.declared.term.Binding.{Binding}
use Rattle.smt_terms.specs.declared.term.Term.{Term}
use Rattle.smt_terms.specs.declared.term.Variable.{Variable}
use Rattle.smt_terms.specs.Term.{and_phrase, and_binding, bindings_of, phrase, phrases_of, count}
use Rattle.smt_terms.specs.Operators.{found}
use Rattle.smt_terms.specs.Evaluation.{names_of, texts_of, with_names}
use Rattle.smt_terms.proofs.Folds.{bound-term}
use Rattle.smt_typing.specs.declared.bound.Bound.{Bound}
use Rattle.smt_typing.specs.declared.bound.Bound.TheViews as view
use Rattle.smt_typing.specs.Bounds.{last_of, sorts_at}
use Rattle.smt_typing.specs.Sorts.{Sorts, variables}

pub phrases-drop : (ts : List Term) (i : ℕ) (d : Term) → i < length ts → phrases_of (drop i ts) ≡ and_phrase (phrase (get_or ts i d)) (phrases_of (drop (i + 1) ts))
phrases-drop ts i d h = rw add-one (ap phrases_of (drop-cons ts i d h))

pub bindings-drop : (bs : List Binding) (i : ℕ) (d : Binding) → i < length bs → bindings_of (drop i bs) ≡ and_binding (get_or bs i d).text (phrase (get_or bs i d).term) (bindings_of (drop (i + 1) bs))
bindings-drop bs i d h = rw add-one (ap bindings_of (drop-cons bs i d h)
    ∙ ap (λ z. and_binding z.text z.term (bindings_of (drop (suc i) bs))) (bound-term (get_or bs i d)))

pub count-phrases : (ts : List Term) → count (phrases_of ts) ≡ length ts
count-phrases [] = refl
count-phrases (t ∷ ts) = ap suc (count-phrases ts)

-- the sort of a name among bound ones

pub found_last : {A : Type 0} (x : List ℕ) (ys : List (List ℕ)) (vs : List A) (b : List (List ℕ × A)) → found x (with_names ys vs b) ≡ last_of x (found x b) ys vs
found_last x [] vs b = refl
found_last x (y ∷ ys) [] b = refl
found_last x (y ∷ ys) (v ∷ vs) b = found_last x ys vs ((y, v) ∷ b)

same_sort : (p q : Bool) (s o : Option (Option Sort)) → (if q then s else (if p then s else o)) ≡ (if p || q then s else o)
same_sort true true s o = refl
same_sort true false s o = refl
same_sort false true s o = refl
same_sort false false s o = refl

pub found_variable : (x : List ℕ) (ys : List (List ℕ)) (b : Sorts) → found x (variables ys b) ≡ (if is_among x ys then Some (Some sort.Int) else found x b)
found_variable x [] b = refl
found_variable x (y ∷ ys) b = found_variable x ys ((y, Some sort.Int) ∷ b) ∙ same_sort (is_text x y) (is_among x ys) (Some (Some sort.Int)) (found x b)

pub at_variables : (x : List ℕ) (b : Bound) (xs : Bor (List Variable)) (outer : Bor Bound) → b ≡ view.Variables xs outer
    → found x (sorts_at b) ≡ (if is_among x (texts_of xs.now) then Some (Some sort.Int) else found x (sorts_at outer.now))
at_variables x b xs outer e = ap (λ z. found x (sorts_at z)) e ∙ found_variable x (texts_of xs.now) (sorts_at outer.now)

pub at_let : (x : List ℕ) (b : Bound) (bs : Bor (List Binding)) (ss : Bor (List (Option Sort))) (outer : Bor Bound) → b ≡ view.Let bs ss outer
    → found x (sorts_at b) ≡ last_of x (found x (sorts_at outer.now)) (names_of (bindings_of bs.now)) ss.now
at_let x b bs ss outer e = ap (λ z. found x (sorts_at z)) e ∙ found_last x (names_of (bindings_of bs.now)) ss.now (sorts_at outer.now)

-- one binding further

last_next : (x : List ℕ) (hit : Option (Option Sort)) (bs : List Binding) (ss : List (Option Sort)) (i : ℕ) (d : Binding) (k : Option Sort) → i < length bs → i < length ss
    → last_of x hit (names_of (bindings_of (drop i bs))) (drop i ss)
    ≡ last_of x (if is_text x (get_or bs i d).text then Some (get_or ss i k) else hit) (names_of (bindings_of (drop (i + 1) bs))) (drop (i + 1) ss)
last_next x hit bs ss i d k h l =
    ap (λ z. last_of x hit (names_of z) (drop i ss)) (bindings-drop bs i d h)
    ∙ rw add-one (ap (last_of x hit ((get_or bs i d).text ∷ names_of (bindings_of (drop (suc i) bs)))) (drop-cons ss i k l))

pub last_hit : (x : List ℕ) (hit : Option (Option Sort)) (bs : List Binding) (ss : List (Option Sort)) (i : ℕ) (d : Binding) (k : Option Sort) (whole : Option (Option Sort)) → i < length bs → i < length ss
    → is_text x (get_or bs i d).text ≡ true → last_of x hit (names_of (bindings_of (drop i bs))) (drop i ss) ≡ whole
    → last_of x (Some (get_or ss i k)) (names_of (bindings_of (drop (i + 1) bs))) (drop (i + 1) ss) ≡ whole
last_hit x hit bs ss i d k whole h l e w =
    ap (λ z. last_of x (if z then Some (get_or ss i k) else hit) (names_of (bindings_of (drop (i + 1) bs))) (drop (i + 1) ss)) (sym e) ∙ sym (last_next x hit bs ss i d k h l) ∙ w

pub last_missed : (x : List ℕ) (hit : Option (Option Sort)) (bs : List Binding) (ss : List (Option Sort)) (i : ℕ) (d : Binding) (whole : Option (Option Sort)) → i < length bs → i < length ss
    → is_text x (get_or bs i d).text ≡ false → last_of x hit (names_of (bindings_of (drop i bs))) (drop i ss) ≡ whole
    → last_of x hit (names_of (bindings_of (drop (i + 1) bs))) (drop (i + 1) ss) ≡ whole
last_missed x hit bs ss i d whole h l e w =
    ap (λ z. last_of x (if z then Some (get_or ss i None) else hit) (names_of (bindings_of (drop (i + 1) bs))) (drop (i + 1) ss)) (sym e) ∙ sym (last_next x hit bs ss i d None h l) ∙ w

last_none : (x : List ℕ) (hit : Option (Option Sort)) (ys : List (List ℕ)) → last_of x hit ys [] ≡ hit
last_none x hit [] = refl
last_none x hit (y ∷ ys) = refl

pub last_short : (x : List ℕ) (hit : Option (Option Sort)) (bs : List Binding) (ss : List (Option Sort)) (i : ℕ) (whole : Option (Option Sort)) → length ss ≤ i
    → last_of x hit (names_of (bindings_of (drop i bs))) (drop i ss) ≡ whole → last_of x hit (names_of (bindings_of (drop (i + 1) bs))) (drop (i + 1) ss) ≡ whole
last_short x hit bs ss i whole h w =
    let here : drop i ss ≡ [] = drop_all i ss h in
    let next : drop (i + 1) ss ≡ [] = drop_all (i + 1) ss (omega arith) in
    ap (last_of x hit (names_of (bindings_of (drop (i + 1) bs)))) next ∙ last_none x hit (names_of (bindings_of (drop (i + 1) bs)))
    ∙ sym (ap (last_of x hit (names_of (bindings_of (drop i bs)))) here ∙ last_none x hit (names_of (bindings_of (drop i bs)))) ∙ w
