-- What each form of a term becomes, from what its parts become.
use Rattle.std.proofs.Common.{◌≡◌, ℕ, ◌+◌, ◌<◌, Bool, List, [], ◌∷◌, ◌++◌, map, length, Option, Some, None, refl, sym, ap, ap₂, ◌∙◌, take, get_or}
use mathlib.Core.Path.{fun_ext}
use Rattle.std.proofs.lemmas.List.{map-append, take_more}
use Rattle.smt_terms.specs.declared.operator.Operator.{Operator}
use Rattle.smt_terms.specs.declared.term.Name.{Name}
use Rattle.smt_terms.specs.declared.term.Variable.{Variable}
use Rattle.smt_terms.specs.declared.term.Binding.{Binding}
use Rattle.smt_terms.specs.declared.term.Term.{Term}
use Rattle.smt_terms.specs.declared.term.Term.TheVariants as te
use Rattle.smt_terms.specs.Term.{phrase, phrases_of, bindings_of}
use Rattle.smt_terms.specs.Evaluation.{names_of, texts_of, with_names}
use Rattle.smt_terms.specs.Operators.{found, operator_of}
use Rattle.smt_terms.specs.Translation.{a_formula, formula_in, operated, Standing, Replacements, Writer, at_depth, use_said, bound_said, said, all_said, bindings_said}
use Rattle.smt_terms.proofs.Folds.{bound-term, phrase-Use, phrase-Let, phrase-Quantified, phrase-Annotated}
use Rattle.smt_names.specs.declared.body.Leaf.{Leaf}
use Rattle.smt_names.specs.declared.body.Body.{Body}
use Rattle.smt_names.specs.declared.scope.Named.{Named}
use Rattle.smt_names.specs.Body.{shapes_of}
use Rattle.smt_names.specs.Saying as saying
use Rattle.smt_names.specs.Saying.{Calls, leaf_said, shape_said}
use Rattle.smt_names.specs.Scopes.{BoundNames, named_onto, names_in, AreWithin}
use Rattle.smt_names.proofs.Behind.{bound-behind}
use Rattle.smt_names.proofs.Reading.{names-left, onto-names}

-- Lists.

pub appended-more : {B X : Type 0} (G : B → X) (ys zs : List X) (x : X) (ts : List B) (i : ℕ) (d : B) → i < length ts → ys ≡ zs ++ x ∷ [] → zs ≡ map G (take i ts) → x ≡ G (get_or ts i d)
    → ys ≡ map G (take (i + 1) ts)
appended-more G ys zs x ts i d h is so_far same =
    is ∙ ap₂ (λ v w. v ++ w ∷ []) so_far same ∙ sym (map-append G (take i ts) (get_or ts i d ∷ [])) ∙ ap (map G) (sym (take_more ts i d h))

pub mapped-more : {A B X : Type 0} (F : A → X) (G : B → X) (out more : List A) (x : A) (ts : List B) (i : ℕ) (d : B) → i < length ts → more ≡ out ++ x ∷ [] → map F out ≡ map G (take i ts)
    → F x ≡ G (get_or ts i d) → map F more ≡ map G (take (i + 1) ts)
mapped-more F G out more x ts i d h is so_far same = appended-more G (map F more) (map F out) (F x) ts i d h (ap (map F) is ∙ map-append F out (x ∷ [])) so_far same

pub all-each : (W : Writer) (c : Replacements) (ts : List Term) → all_said W c (phrases_of ts) ≡ map (λ t. said W c (phrase t)) ts
all-each W c [] = refl
all-each W c (t ∷ ts) = ap (λ z. said W c (phrase t) ∷ z) (all-each W c ts)

pub names-each : (bs : List Binding) → names_of (bindings_of bs) ≡ map (λ b. b.text) bs
names-each [] = refl
names-each (b ∷ bs) = ap (λ z. z.text ∷ names_of (bindings_of bs)) (bound-term b) ∙ ap (λ z. b.text ∷ z) (names-each bs)

pub bindings-each : (W : Writer) (c : Replacements) (bs : List Binding) → bindings_said W c (bindings_of bs) ≡ map (λ b. said W c (phrase b.term)) bs
bindings-each W c [] = refl
bindings-each W c (b ∷ bs) = ap (λ z. said W c z.term ∷ bindings_said W c (bindings_of bs)) (bound-term b) ∙ ap (λ z. said W c (phrase b.term) ∷ z) (bindings-each W c bs)

-- Forms of terms.

pub use-said : (W : Writer) (c : Replacements) (t : Term) (at : ℕ) (x : Name) (ts args : List Term) (text : List ℕ) → t ≡ te.Use at x ts → text ≡ x.text → args ≡ ts
    → use_said W (found text c) (operator_of text) text (all_said W c (phrases_of args)) ≡ said W c (phrase t)
use-said W c t at x ts args text is same all =
    ap (λ z. use_said W (found z c) (operator_of z) z (all_said W c (phrases_of args))) same
    ∙ ap (λ z. use_said W (found x.text c) (operator_of x.text) x.text (all_said W c (phrases_of z))) all
    ∙ fun_ext (λ n. refl) ∙ ap (said W c) (sym (ap phrase is ∙ phrase-Use at x ts))

pub let-said : (W : Writer) (c : Replacements) (t : Term) (at : ℕ) (bs xs : List Binding) (s body : Term) → t ≡ te.Let at bs s → xs ≡ bs → body ≡ s
    → said W (with_names (names_of (bindings_of xs)) (bindings_said W c (bindings_of xs)) c) (phrase body) ≡ said W c (phrase t)
let-said W c t at bs xs s body is same inner =
    ap (λ z. said W (with_names (names_of (bindings_of z)) (bindings_said W c (bindings_of z)) c) (phrase body)) same
    ∙ ap (λ z. said W (with_names (names_of (bindings_of bs)) (bindings_said W c (bindings_of bs)) c) (phrase z)) inner
    ∙ fun_ext (λ n. refl) ∙ ap (said W c) (sym (ap phrase is ∙ phrase-Let at bs s))

pub quantified-form : (W : Writer) (c : Replacements) (t : Term) (at : ℕ) (all : Bool) (xs ys : List Variable) (s body : Term) → t ≡ te.Quantified at all xs s → ys ≡ xs → body ≡ s → (G : Standing)
    → ((n : ℕ) → G n ≡ a_formula (bound_said all (texts_of ys) (λ d m. formula_in (said W d (phrase body) m)) c n)) → G ≡ said W c (phrase t)
quantified-form W c t at all xs ys s body is same inner G h =
    fun_ext h
    ∙ ap (λ z n. a_formula (bound_said all (texts_of z) (λ d m. formula_in (said W d (phrase body) m)) c n)) same
    ∙ ap (λ z n. a_formula (bound_said all (texts_of xs) (λ d m. formula_in (said W d (phrase z) m)) c n)) inner
    ∙ fun_ext (λ n. refl) ∙ ap (said W c) (sym (ap phrase is ∙ phrase-Quantified at all xs s))

pub annotated-said : (W : Writer) (c : Replacements) (t : Term) (at : ℕ) (s inner : Term) → t ≡ te.Annotated at s → inner ≡ s → said W c (phrase inner) ≡ said W c (phrase t)
annotated-said W c t at s inner is same = ap (λ z. said W c (phrase z)) same ∙ fun_ext (λ n. refl) ∙ ap (said W c) (sym (ap phrase is ∙ phrase-Annotated at s))

-- Uses.

pub use-bound : (W : Writer) (f : Option Standing) (o : Option Operator) (x : List ℕ) (ss : List Standing) (s : Standing) → f ≡ Some s → s ≡ use_said W f o x ss
use-bound W f o x ss s is = fun_ext (λ n. refl) ∙ ap (λ z. use_said W z o x ss) (sym is)

pub use-operator : (W : Writer) (f : Option Standing) (p : Option Operator) (o : Operator) (x : List ℕ) (ss : List Standing) → f ≡ None → p ≡ Some o
    → (G : Standing) → ((n : ℕ) → G n ≡ operated o (at_depth n ss)) → G ≡ use_said W f p x ss
use-operator W f p o x ss none is G h = fun_ext h ∙ fun_ext (λ n. refl) ∙ ap₂ (λ y z. use_said W y z x ss) (sym none) (sym is)

pub use-symbol : (W : Writer) (f : Option Standing) (p : Option Operator) (x : List ℕ) (ss : List Standing) → f ≡ None → p ≡ None
    → (G : Standing) → ((n : ℕ) → G n ≡ W x ss n) → G ≡ use_said W f p x ss
use-symbol W f p x ss none is G h = fun_ext h ∙ fun_ext (λ n. refl) ∙ ap₂ (λ y z. use_said W y z x ss) (sym none) (sym is)

-- Bindings.

pub names-bound : (D : Calls) (e : List Standing) (kept : List Body) (ls : BoundNames) → AreWithin (length e) ls → names_in (saying.bound_said D e (shapes_of kept)) ls ≡ names_in e ls
names-bound D e kept ls low = let p = bound-behind D e kept in ap (λ z. names_in z ls) p.1 ∙ names-left e p.0 ls low

each-leaf : (e : List Standing) (ns : List Named) → map (λ x. leaf_said e x.leaf) ns ≡ map (leaf_said e) (map (λ x. x.leaf) ns)
each-leaf e [] = refl
each-leaf e (n ∷ ns) = ap (λ z. leaf_said e n.leaf ∷ z) (each-leaf e ns)

pub let-names : (D : Calls) (W : Writer) (e : List Standing) (kept : List Body) (ns : List Named) (leaves : List Leaf) (ls : BoundNames) (bs : List Binding) → AreWithin (length e) ls
    → map (λ x. x.text.now) ns ≡ map (λ b. b.text) bs → map (λ x. x.leaf) ns ≡ leaves
    → map (leaf_said (saying.bound_said D e (shapes_of kept))) leaves ≡ bindings_said W (names_in e ls) (bindings_of bs)
    → names_in (saying.bound_said D e (shapes_of kept)) (named_onto ns ls)
    ≡ with_names (names_of (bindings_of bs)) (bindings_said W (names_in e ls) (bindings_of bs)) (names_in e ls)
let-names D W e kept ns leaves ls bs low texts same values =
    let E = saying.bound_said D e (shapes_of kept) in
    onto-names E ns ls
    ∙ ap (λ z. with_names z (map (λ x. leaf_said E x.leaf) ns) (names_in E ls)) (texts ∙ sym (names-each bs))
    ∙ ap (λ z. with_names (names_of (bindings_of bs)) z (names_in E ls)) (each-leaf E ns ∙ ap (map (leaf_said E)) same ∙ values)
    ∙ ap (with_names (names_of (bindings_of bs)) (bindings_said W (names_in e ls) (bindings_of bs))) (names-bound D e kept ls low)
