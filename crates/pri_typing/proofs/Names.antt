-- The symbols of a file whose declarations have no faults have different names.
use Rattle.std.proofs.Common.{◌≡◌, ℕ, Bool, true, false, ◌||◌, List, [], ◌∷◌, ◌++◌, map, length, nat_eq, append_assoc, append-nil, refl, sym, ap, subst, ◌∙◌, if◌then◌else◌}
use Rattle.std.specs.List.{AllByRecursion, IsDistinct}
use Rattle.std.proofs.lemmas.List.{map-append}
use Rattle.pri_typing.specs.declared.problem.TypeRefusal.TheVariants.{Redeclared, Many}
use Rattle.pri_typing.specs.declared.problem.Problem.{Problem}
use Rattle.pri_typing.specs.declared.problem.Symbol.{Symbol}
use Rattle.pri_typing.specs.declared.declaration.Kind.{Kind}
use Rattle.pri_typing.specs.declared.declaration.Kind.TheVariants.{Existential, Universal, Function, Predicate}
use Rattle.pri_typing.specs.declared.declaration.Declaration.{Declaration}
use Rattle.base_texts.specs.Texts.{is_text, is_among}
use Rattle.pri_typing.specs.Scope.{existentials, universals, functions, predicates}
use Rattle.base_limits.specs.Limits.{most_symbols}
use Rattle.pri_typing.specs.Files.{declaration_faults, own_faults}
use Rattle.pri_typing.specs.WellFormed.{names_of_symbols}
use Rattle.pri_typing.proofs.WellFormed.{nil_cons, nil_split}
use Rattle.pri_typing.proofs.Distinct.{AreOnce, among-append, or_none, once_behind, text_other}

abbrev texts : List Declaration → List (List ℕ)
texts = map (λ d. d.text)

known_not : (known : Bool) (n at : ℕ) → own_faults known n at ≡ [] → known ≡ false
known_not true n at e = absurd (nil_cons _ _ (nil_split (Redeclared at ∷ []) (if nat_eq n most_symbols then Many at ∷ [] else []) e).0)
known_not false n at e = refl

-- after those before, each declaration has a name of its own
once_from : (before ds : List Declaration) → declaration_faults before ds ≡ [] → AreOnce (texts before) → AreOnce (texts (before ++ ds))
once_from before [] e h = subst (λ z. AreOnce (texts z)) (sym (append-nil before)) h
once_from before (d ∷ ds) e h =
    let own = own_faults (is_among d.text (texts before)) (length before) d.at in
    let free = nil_split own (declaration_faults (before ++ d ∷ []) ds) e in
    let new = known_not (is_among d.text (texts before)) (length before) d.at free.0 in
    subst (λ z. AreOnce (texts z)) (append_assoc before (d ∷ []) ds)
    (once_from (before ++ d ∷ []) ds free.1 (subst AreOnce (sym (map-append (λ b. b.text) before (d ∷ []))) (once_behind (texts before) d.text h new)))

-- Symbols by their kinds.

abbrev pub by_kinds : List Declaration → List (List ℕ)
by_kinds ds = existentials ds ++ universals ds ++ map (λ y. y.name) (functions ds) ++ map (λ y. y.name) (predicates ds)

-- what is not among two lists is among neither, and the other way round
none_join : (t : List ℕ) (xs ys : List (List ℕ)) → is_among t xs ≡ false → is_among t ys ≡ false → is_among t (xs ++ ys) ≡ false
none_join t xs ys h k = among-append t xs ys ∙ ap (λ z. z || is_among t ys) h ∙ k

pub none_split : (t : List ℕ) (xs ys : List (List ℕ)) → is_among t (xs ++ ys) ≡ false → (is_among t xs ≡ false) × (is_among t ys ≡ false)
none_split t xs ys h = or_none (is_among t xs) (is_among t ys) (sym (among-append t xs ys) ∙ h)

-- one more text in the middle
none_middle : (t u : List ℕ) (xs ys : List (List ℕ)) → is_text t u ≡ false → is_among t (xs ++ ys) ≡ false → is_among t (xs ++ u ∷ ys) ≡ false
none_middle t u xs ys e h =
    let both = none_split t xs ys h in
    none_join t xs (u ∷ ys) both.0 (ap (λ z. z || is_among t ys) e ∙ both.1)

once_middle : (t : List ℕ) (xs ys : List (List ℕ)) → is_among t (xs ++ ys) ≡ false → AreOnce (xs ++ ys) → AreOnce (xs ++ t ∷ ys)
once_middle t [] ys e h = (e, h)
once_middle t (x ∷ xs) ys e h =
    let apart = or_none (is_text t x) (is_among t (xs ++ ys)) e in
    (none_middle x t xs ys (text_other t x apart.0) h.0, once_middle t xs ys apart.1 h.1)

-- one list is another with one more text in it
pub record Inserted (t : List ℕ) (old new : List (List ℕ)) : Type 0 where
  pub front : List (List ℕ)
  pub back : List (List ℕ)
  pub old_is : old ≡ front ++ back
  pub new_is : new ≡ front ++ t ∷ back

once_inserted : (t : List ℕ) (old new : List (List ℕ)) → Inserted t old new → is_among t old ≡ false → AreOnce old → AreOnce new
once_inserted t old new i e h =
    subst AreOnce (sym i.new_is) (once_middle t i.front i.back (sym (ap (is_among t) i.old_is) ∙ e) (subst AreOnce i.old_is h))

none_inserted : (t u : List ℕ) (old new : List (List ℕ)) → Inserted t old new → is_text u t ≡ false → is_among u old ≡ false → is_among u new ≡ false
none_inserted t u old new i e h = ap (is_among u) i.new_is ∙ none_middle u t i.front i.back e (sym (ap (is_among u) i.old_is) ∙ h)

pub one_more : (d : Declaration) (ds : List Declaration) → Inserted d.text (by_kinds ds) (by_kinds (d ∷ ds))
one_more d ds = by d.kind
  where
    names : List Symbol → List (List ℕ)
    names = map (λ y. y.name)

    by : (k : Kind) → Inserted d.text (by_kinds ds) (by_kinds (record { at = d.at; text = d.text; kind = k } ∷ ds))
    by Existential = record { front = []; back = by_kinds ds; old_is = refl; new_is = refl }
    by Universal =
        let a = existentials ds in let b = universals ds in let c = map (λ y. y.name) (functions ds) in let e = map (λ y. y.name) (predicates ds) in
        record {
          front = a;
          back = b ++ c ++ e;
          old_is = ap (λ z. z ++ e) (append_assoc a b c) ∙ append_assoc a (b ++ c) e;
          new_is = ap (λ z. z ++ e) (append_assoc a (d.text ∷ b) c) ∙ append_assoc a (d.text ∷ (b ++ c)) e;
        }
    by (Function n) =
        let a = existentials ds in let b = universals ds in let c = map (λ y. y.name) (functions ds) in let e = map (λ y. y.name) (predicates ds) in
        record {
          front = a ++ b;
          back = c ++ e;
          old_is = append_assoc (a ++ b) c e;
          new_is = append_assoc (a ++ b) (d.text ∷ c) e;
        }
    by (Predicate n) =
        record { front = existentials ds ++ universals ds ++ map (λ y. y.name) (functions ds); back = map (λ y. y.name) (predicates ds); old_is = refl; new_is = refl }

pub none_kinds : (t : List ℕ) (ds : List Declaration) → is_among t (texts ds) ≡ false → is_among t (by_kinds ds) ≡ false
none_kinds t [] e = refl
none_kinds t (d ∷ ds) e =
    let apart = or_none (is_text t d.text) (is_among t (texts ds)) e in
    none_inserted d.text t (by_kinds ds) (by_kinds (d ∷ ds)) (one_more d ds) apart.0 (none_kinds t ds apart.1)

pub once_kinds : (ds : List Declaration) → AreOnce (texts ds) → AreOnce (by_kinds ds)
once_kinds [] h = tt {0}
once_kinds (d ∷ ds) h = once_inserted d.text (by_kinds ds) (by_kinds (d ∷ ds)) (one_more d ds) (none_kinds d.text ds h.0) (once_kinds ds h.1)

others : (t : List ℕ) (xs : List (List ℕ)) → is_among t xs ≡ false → AllByRecursion (λ y. is_text t y ≡ false) xs
others t [] e = tt
others t (x ∷ xs) e = let apart = or_none (is_text t x) (is_among t xs) e in (apart.0, others t xs apart.1)

distinct : (xs : List (List ℕ)) → AreOnce xs → IsDistinct is_text xs
unfolding IsDistinct
distinct [] h = tt
distinct (x ∷ xs) h = (others x xs h.0, distinct xs h.1)

-- where the declarations have no faults
pub once_texts : (ds : List Declaration) → declaration_faults [] ds ≡ [] → AreOnce (texts ds)
once_texts ds e = once_from [] ds e (tt {0})

pub distinct_names : (ds : List Declaration) → declaration_faults [] ds ≡ [] → IsDistinct is_text (by_kinds ds)
distinct_names ds e = distinct (by_kinds ds) (once_kinds ds (once_texts ds e))

pub names_same : (ds : List Declaration) (p : Problem) → p.existentials ≡ existentials ds → p.universals ≡ universals ds → p.functions ≡ functions ds → p.predicates ≡ predicates ds
    → names_of_symbols p ≡ by_kinds ds
names_same ds p e u f q =
    let m : List Symbol → List (List ℕ) = map (λ y. y.name) in
    ap (λ z. z ++ p.universals ++ m p.functions ++ m p.predicates) e
    ∙ ap (λ z. existentials ds ++ z ++ m p.functions ++ m p.predicates) u
    ∙ ap (λ z. existentials ds ++ universals ds ++ m z ++ m p.predicates) f
    ∙ ap (λ z. existentials ds ++ universals ds ++ m (functions ds) ++ m z) q
