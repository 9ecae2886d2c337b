-- With the symbols of a problem declared, a name stands for what it stands for in the file.
use Rattle.std.proofs.Common.{◌≡◌, ℕ, suc, ◌+◌, Bool, true, false, List, [], ◌∷◌, ◌++◌, map, length, Option, Some, None, refl, sym, ap, subst, ◌∙◌, arith, if◌then◌else◌, append-nil, length-append, map-id}
use Rattle.std.specs.List.{filter_map, cons_option}
use Rattle.std.proofs.lemmas.List.{map-append}
use Rattle.std.proofs.lemmas.List.Elements.{filter_map-append}
use Rattle.pri_reader.specs.declared.tree.File.{File}
use Rattle.pri_typing.specs.declared.problem.Problem.{Problem}
use Rattle.pri_typing.specs.declared.problem.Symbol.{Symbol}
use Rattle.pri_typing.specs.declared.declaration.Kind.{Kind}
use Rattle.pri_typing.specs.declared.declaration.Kind.TheVariants.{Existential, Universal, Function, Predicate}
use Rattle.pri_typing.specs.declared.declaration.Declaration.{Declaration}
use Rattle.pri_typing.specs.declared.symbols.Entry.{Entry}
use Rattle.pri_typing.specs.declared.scope.Referent.TheVariants as referent
use Rattle.base_texts.specs.Texts.{is_text, is_among}
use Rattle.pri_typing.specs.Scope.{existentials, universals, functions, predicates, existential_text, universal_text, function_symbol, predicate_symbol, entry, declared_from, symbol_of, bound_or_declared, refers, declarations, constants}
use Rattle.pri_typing.specs.Symbols.{first_entry}
use Rattle.pri_typing.specs.Files.{IsTyped, declaration_faults, scope_of}
use Rattle.pri_typing.specs.Problems.{unplaced, scope_of_problem}
use Rattle.pri_typing.specs.WellFormed.{names_of_symbols}
use Rattle.pri_typing.proofs.Distinct.{AreOnce, text_same, or_none}
use Rattle.pri_typing.proofs.Names.{by_kinds, none_kinds, none_split, once_texts, once_kinds, names_same}

-- The place of a text in the lists of symbols, by their kinds.

abbrev find : {A : Type 0} → (A → List ℕ) → (A → Kind) → ℕ → List A → List ℕ → Option Entry
find name kind n [] t = None
find name kind n (x ∷ xs) t = if is_text t (name x) then Some (record { kind = kind x; number = n }) else find name kind (suc n) xs t

abbrev of_text : Kind → ℕ → List (List ℕ) → List ℕ → Option Entry
of_text k = find (λ x. x) (λ x. k)

abbrev of_symbol : (ℕ → Kind) → ℕ → List Symbol → List ℕ → Option Entry
of_symbol k = find (λ y. y.name) (λ y. k y.arity)

-- in which list, after this many symbols of each kind
abbrev look : ℕ → ℕ → ℕ → ℕ → List (List ℕ) → List (List ℕ) → List Symbol → List Symbol → List ℕ → Option Entry
look a b c d es us fs ps t =
    first_entry (of_text Existential a es t) (first_entry (of_text Universal b us t) (first_entry (of_symbol (λ n. Function n) c fs t) (of_symbol (λ n. Predicate n) d ps t)))

abbrev look_in : ℕ → ℕ → ℕ → ℕ → List Declaration → List ℕ → Option Entry
look_in a b c d ds t = look a b c d (existentials ds) (universals ds) (functions ds) (predicates ds) t

find_none : {A : Type 0} (name : A → List ℕ) (kind : A → Kind) (n : ℕ) (xs : List A) (t : List ℕ) → is_among t (map name xs) ≡ false → find name kind n xs t ≡ None
find_none name kind n [] t e = refl
find_none name kind n (x ∷ xs) t e =
    let apart = or_none (is_text t (name x)) (is_among t (map name xs)) e in
    ap (λ z. if z then Some (record { kind = kind x; number = n }) else find name kind (suc n) xs t) apart.0 ∙ find_none name kind (suc n) xs t apart.1

longer : {A : Type 0} (h : Declaration → Option A) (before : List Declaration) (d : Declaration)
    → length (filter_map h (before ++ d ∷ [])) ≡ length (filter_map h before) + length (filter_map h (d ∷ []))
longer h before d = ap length (filter_map-append h before (d ∷ [])) ∙ length-append (filter_map h before) (filter_map h (d ∷ []))

same_offsets : (a b c d i j k l : ℕ) (ds : List Declaration) (t : List ℕ) → a ≡ i → b ≡ j → c ≡ k → d ≡ l → look_in a b c d ds t ≡ look_in i j k l ds t
same_offsets a b c d i j k l ds t e f g h =
    ap (λ z. look_in z b c d ds t) e ∙ ap (λ z. look_in i z c d ds t) f ∙ ap (λ z. look_in i j z d ds t) g ∙ ap (λ z. look_in i j k z ds t) h

-- a text that no declaration has is in no list
record IsNowhere (t : List ℕ) (ds : List Declaration) : Type 0 where
  no_existential : is_among t (map (λ x. x) (existentials ds)) ≡ false
  no_universal : is_among t (map (λ x. x) (universals ds)) ≡ false
  no_function : is_among t (map (λ y. y.name) (functions ds)) ≡ false

nowhere : (t : List ℕ) (ds : List Declaration) → is_among t (map (λ d. d.text) ds) ≡ false → IsNowhere t ds
nowhere t ds e =
    let a = existentials ds in let b = universals ds in let c = map (λ y. y.name) (functions ds) in let d = map (λ y. y.name) (predicates ds) in
    let one = none_split t (a ++ b ++ c) d (none_kinds t ds e) in
    let two = none_split t (a ++ b) c one.0 in
    let three = none_split t a b two.0 in
    record { no_existential = ap (is_among t) (map-id a) ∙ three.0; no_universal = ap (is_among t) (map-id b) ∙ three.1; no_function = two.1 }

declared_look : (t : List ℕ) (before ds : List Declaration) → AreOnce (map (λ d. d.text) ds)
    → declared_from before t ds ≡ look_in (length (existentials before)) (length (universals before)) (length (functions before)) (length (predicates before)) ds t
declared_look t before [] h = refl
declared_look t before (d ∷ ds) h = by d.kind (is_text t d.text) refl (declared_look t (before ++ d ∷ []) ds h.1)
  where
    a : ℕ
    a = length (existentials before)

    b : ℕ
    b = length (universals before)

    c : ℕ
    c = length (functions before)

    e : ℕ
    e = length (predicates before)

    with_kind : Kind → Declaration
    with_kind k = record { at = d.at; text = d.text; kind = k }

    none : is_text t d.text ≡ true → IsNowhere t ds
    none q = nowhere t ds (ap (λ z. is_among z (map (λ d. d.text) ds)) (text_same t d.text q) ∙ h.0)

    by : (k : Kind) (r : Bool) → is_text t d.text ≡ r
        → declared_from (before ++ with_kind k ∷ []) t ds
        ≡ look_in (length (existentials (before ++ with_kind k ∷ []))) (length (universals (before ++ with_kind k ∷ []))) (length (functions (before ++ with_kind k ∷ []))) (length (predicates (before ++ with_kind k ∷ []))) ds t
        → (if r then Some (entry before k) else declared_from (before ++ with_kind k ∷ []) t ds) ≡ look_in a b c e (with_kind k ∷ ds) t
    by Existential true q i = sym (ap (λ z. first_entry (if z then Some (entry before Existential) else of_text Existential (suc a) (existentials ds) t)
        (first_entry (of_text Universal b (universals ds) t) (first_entry (of_symbol (λ n. Function n) c (functions ds) t) (of_symbol (λ n. Predicate n) e (predicates ds) t)))) q)
    by Existential false q i =
        i ∙ same_offsets _ _ _ _ (suc a) b c e ds t (longer existential_text before (with_kind Existential) ∙ omega arith) (longer universal_text before (with_kind Existential) ∙ omega arith)
        (longer function_symbol before (with_kind Existential) ∙ omega arith) (longer predicate_symbol before (with_kind Existential) ∙ omega arith)
        ∙ sym (ap (λ z. first_entry (if z then Some (entry before Existential) else of_text Existential (suc a) (existentials ds) t)
        (first_entry (of_text Universal b (universals ds) t) (first_entry (of_symbol (λ n. Function n) c (functions ds) t) (of_symbol (λ n. Predicate n) e (predicates ds) t)))) q)
    by Universal true q i =
        sym (ap (λ z. first_entry z (first_entry (of_text Universal b (d.text ∷ universals ds) t) (first_entry (of_symbol (λ n. Function n) c (functions ds) t) (of_symbol (λ n. Predicate n) e (predicates ds) t))))
        (find_none (λ x. x) (λ x. Existential) a (existentials ds) t (none q).no_existential)
        ∙ ap (λ z. first_entry (if z then Some (entry before Universal) else of_text Universal (suc b) (universals ds) t) (first_entry (of_symbol (λ n. Function n) c (functions ds) t) (of_symbol (λ n. Predicate n) e (predicates ds) t))) q)
    by Universal false q i =
        i ∙ same_offsets _ _ _ _ a (suc b) c e ds t (longer existential_text before (with_kind Universal) ∙ omega arith) (longer universal_text before (with_kind Universal) ∙ omega arith)
        (longer function_symbol before (with_kind Universal) ∙ omega arith) (longer predicate_symbol before (with_kind Universal) ∙ omega arith)
        ∙ sym (ap (λ z. first_entry (of_text Existential a (existentials ds) t) (first_entry (if z then Some (entry before Universal) else of_text Universal (suc b) (universals ds) t)
        (first_entry (of_symbol (λ n. Function n) c (functions ds) t) (of_symbol (λ n. Predicate n) e (predicates ds) t)))) q)
    by (Function m) true q i =
        let rest = of_symbol (λ n. Predicate n) e (predicates ds) t in
        let here = of_symbol (λ n. Function n) c (record { name = d.text; arity = m } ∷ functions ds) t in
        sym (ap (λ z. first_entry z (first_entry (of_text Universal b (universals ds) t) (first_entry here rest))) (find_none (λ x. x) (λ x. Existential) a (existentials ds) t (none q).no_existential)
        ∙ ap (λ z. first_entry z (first_entry here rest)) (find_none (λ x. x) (λ x. Universal) b (universals ds) t (none q).no_universal)
        ∙ ap (λ z. first_entry (if z then Some (entry before (Function m)) else of_symbol (λ n. Function n) (suc c) (functions ds) t) rest) q)
    by (Function m) false q i =
        i ∙ same_offsets _ _ _ _ a b (suc c) e ds t (longer existential_text before (with_kind (Function m)) ∙ omega arith) (longer universal_text before (with_kind (Function m)) ∙ omega arith)
        (longer function_symbol before (with_kind (Function m)) ∙ omega arith) (longer predicate_symbol before (with_kind (Function m)) ∙ omega arith)
        ∙ sym (ap (λ z. first_entry (of_text Existential a (existentials ds) t) (first_entry (of_text Universal b (universals ds) t)
        (first_entry (if z then Some (entry before (Function m)) else of_symbol (λ n. Function n) (suc c) (functions ds) t) (of_symbol (λ n. Predicate n) e (predicates ds) t)))) q)
    by (Predicate m) true q i =
        let here = of_symbol (λ n. Predicate n) e (record { name = d.text; arity = m } ∷ predicates ds) t in
        let third = of_symbol (λ n. Function n) c (functions ds) t in
        sym (ap (λ z. first_entry z (first_entry (of_text Universal b (universals ds) t) (first_entry third here))) (find_none (λ x. x) (λ x. Existential) a (existentials ds) t (none q).no_existential)
        ∙ ap (λ z. first_entry z (first_entry third here)) (find_none (λ x. x) (λ x. Universal) b (universals ds) t (none q).no_universal)
        ∙ ap (λ z. first_entry z here) (find_none (λ y. y.name) (λ y. Function y.arity) c (functions ds) t (none q).no_function)
        ∙ ap (λ z. if z then Some (entry before (Predicate m)) else of_symbol (λ n. Predicate n) (suc e) (predicates ds) t) q)
    by (Predicate m) false q i =
        i ∙ same_offsets _ _ _ _ a b c (suc e) ds t (longer existential_text before (with_kind (Predicate m)) ∙ omega arith) (longer universal_text before (with_kind (Predicate m)) ∙ omega arith)
        (longer function_symbol before (with_kind (Predicate m)) ∙ omega arith) (longer predicate_symbol before (with_kind (Predicate m)) ∙ omega arith)
        ∙ sym (ap (λ z. first_entry (of_text Existential a (existentials ds) t) (first_entry (of_text Universal b (universals ds) t) (first_entry (of_symbol (λ n. Function n) c (functions ds) t)
        (if z then Some (entry before (Predicate m)) else of_symbol (λ n. Predicate n) (suc e) (predicates ds) t)))) q)

-- The declarations of a problem's symbols, kind after kind.

four : {A : Type 0} (h : Declaration → Option A) (a b c d : List Declaration) → filter_map h (a ++ b ++ c ++ d) ≡ filter_map h a ++ filter_map h b ++ filter_map h c ++ filter_map h d
four h a b c d =
    filter_map-append h (a ++ b ++ c) d
    ∙ ap (λ z. z ++ filter_map h d) (filter_map-append h (a ++ b) c ∙ ap (λ z. z ++ filter_map h c) (filter_map-append h a b))

kept : {X A : Type 0} (h : Declaration → Option A) (g : X → Declaration) (f : X → A) → ((x : X) → h (g x) ≡ Some (f x)) → (xs : List X) → filter_map h (map g xs) ≡ map f xs
kept h g f e [] = refl
kept h g f e (x ∷ xs) = ap (λ z. cons_option z (filter_map h (map g xs))) (e x) ∙ ap (λ z. f x ∷ z) (kept h g f e xs)

dropped : {X A : Type 0} (h : Declaration → Option A) (g : X → Declaration) → ((x : X) → h (g x) ≡ None) → (xs : List X) → filter_map h (map g xs) ≡ []
dropped h g e [] = refl
dropped h g e (x ∷ xs) = ap (λ z. cons_option z (filter_map h (map g xs))) (e x) ∙ dropped h g e xs

abbrev as_function : Symbol → Declaration
as_function y = unplaced (Function y.arity) y.name

abbrev as_predicate : Symbol → Declaration
as_predicate y = unplaced (Predicate y.arity) y.name

abbrev listed : List (List ℕ) → List (List ℕ) → List Symbol → List Symbol → List Declaration
listed es us fs ps = map (unplaced Existential) es ++ map (unplaced Universal) us ++ map as_function fs ++ map as_predicate ps

module _ (es us : List (List ℕ)) (fs ps : List Symbol) where
  existentials-listed : existentials (listed es us fs ps) ≡ es
  existentials-listed =
      four existential_text (map (unplaced Existential) es) (map (unplaced Universal) us) (map as_function fs) (map as_predicate ps)
      ∙ ap (λ z. z ++ existentials (map (unplaced Universal) us) ++ existentials (map as_function fs) ++ existentials (map as_predicate ps))
      (kept existential_text (unplaced Existential) (λ x. x) (λ x. refl) es ∙ map-id es)
      ∙ ap (λ z. es ++ z ++ existentials (map as_function fs) ++ existentials (map as_predicate ps)) (dropped existential_text (unplaced Universal) (λ x. refl) us)
      ∙ ap (λ z. es ++ [] ++ z ++ existentials (map as_predicate ps)) (dropped existential_text as_function (λ x. refl) fs)
      ∙ ap (λ z. es ++ [] ++ [] ++ z) (dropped existential_text as_predicate (λ x. refl) ps)
      ∙ append-nil (es ++ [] ++ []) ∙ append-nil (es ++ []) ∙ append-nil es

  universals-listed : universals (listed es us fs ps) ≡ us
  universals-listed =
      four universal_text (map (unplaced Existential) es) (map (unplaced Universal) us) (map as_function fs) (map as_predicate ps)
      ∙ ap (λ z. z ++ universals (map (unplaced Universal) us) ++ universals (map as_function fs) ++ universals (map as_predicate ps)) (dropped universal_text (unplaced Existential) (λ x. refl) es)
      ∙ ap (λ z. z ++ universals (map as_function fs) ++ universals (map as_predicate ps)) (kept universal_text (unplaced Universal) (λ x. x) (λ x. refl) us ∙ map-id us)
      ∙ ap (λ z. us ++ z ++ universals (map as_predicate ps)) (dropped universal_text as_function (λ x. refl) fs)
      ∙ ap (λ z. us ++ [] ++ z) (dropped universal_text as_predicate (λ x. refl) ps)
      ∙ append-nil (us ++ []) ∙ append-nil us

  functions-listed : functions (listed es us fs ps) ≡ fs
  functions-listed =
      four function_symbol (map (unplaced Existential) es) (map (unplaced Universal) us) (map as_function fs) (map as_predicate ps)
      ∙ ap (λ z. z ++ functions (map (unplaced Universal) us) ++ functions (map as_function fs) ++ functions (map as_predicate ps)) (dropped function_symbol (unplaced Existential) (λ x. refl) es)
      ∙ ap (λ z. z ++ functions (map as_function fs) ++ functions (map as_predicate ps)) (dropped function_symbol (unplaced Universal) (λ x. refl) us)
      ∙ ap (λ z. z ++ functions (map as_predicate ps)) (kept function_symbol as_function (λ y. y) (λ y. refl) fs ∙ map-id fs)
      ∙ ap (λ z. fs ++ z) (dropped function_symbol as_predicate (λ x. refl) ps)
      ∙ append-nil fs

  predicates-listed : predicates (listed es us fs ps) ≡ ps
  predicates-listed =
      four predicate_symbol (map (unplaced Existential) es) (map (unplaced Universal) us) (map as_function fs) (map as_predicate ps)
      ∙ ap (λ z. z ++ predicates (map (unplaced Universal) us) ++ predicates (map as_function fs) ++ predicates (map as_predicate ps)) (dropped predicate_symbol (unplaced Existential) (λ x. refl) es)
      ∙ ap (λ z. z ++ predicates (map as_function fs) ++ predicates (map as_predicate ps)) (dropped predicate_symbol (unplaced Universal) (λ x. refl) us)
      ∙ ap (λ z. z ++ predicates (map as_predicate ps)) (dropped predicate_symbol as_function (λ x. refl) fs)
      ∙ kept predicate_symbol as_predicate (λ y. y) (λ y. refl) ps ∙ map-id ps

names_map : {X : Type 0} (g : X → Declaration) (f : X → List ℕ) → ((x : X) → (g x).text ≡ f x) → (xs : List X) → map (λ d. d.text) (map g xs) ≡ map f xs
names_map g f e [] = refl
names_map g f e (x ∷ xs) = ap (λ z. z ∷ map (λ d. d.text) (map g xs)) (e x) ∙ ap (λ z. f x ∷ z) (names_map g f e xs)

names-listed : (es us : List (List ℕ)) (fs ps : List Symbol) → map (λ d. d.text) (listed es us fs ps) ≡ es ++ us ++ map (λ y. y.name) fs ++ map (λ y. y.name) ps
names-listed es us fs ps =
    let text : Declaration → List ℕ = λ d. d.text in
    let a = map (unplaced Existential) es in let b = map (unplaced Universal) us in let c = map as_function fs in let d = map as_predicate ps in
    map-append text (a ++ b ++ c) d
    ∙ ap (λ z. z ++ map text d) (map-append text (a ++ b) c ∙ ap (λ z. z ++ map text c) (map-append text a b))
    ∙ ap (λ z. z ++ map text b ++ map text c ++ map text d) (names_map (unplaced Existential) (λ x. x) (λ x. refl) es ∙ map-id es)
    ∙ ap (λ z. es ++ z ++ map text c ++ map text d) (names_map (unplaced Universal) (λ x. x) (λ x. refl) us ∙ map-id us)
    ∙ ap (λ z. es ++ us ++ z ++ map text d) (names_map as_function (λ y. y.name) (λ y. refl) fs)
    ∙ ap (λ z. es ++ us ++ map (λ y. y.name) fs ++ z) (names_map as_predicate (λ y. y.name) (λ y. refl) ps)

-- What names stand for.

same_symbol : (ds ks : List Declaration) (e : Entry) → length (existentials ds) ≡ length (existentials ks) → symbol_of ds e.kind e.number ≡ symbol_of ks e.kind e.number
same_symbol ds ks e h = by e.kind e.number
  where
    by : (k : Kind) (n : ℕ) → symbol_of ds k n ≡ symbol_of ks k n
    by Existential n = refl
    by Universal n = ap (λ z. referent.Name (z + n)) h
    by (Function m) n = refl
    by (Predicate m) n = refl

-- where two files declare the same symbols, kind by kind, each under a name of its own
refers_same : (ds ks : List Declaration) (t : List ℕ) → AreOnce (map (λ d. d.text) ds) → AreOnce (map (λ d. d.text) ks)
    → existentials ds ≡ existentials ks → universals ds ≡ universals ks → functions ds ≡ functions ks → predicates ds ≡ predicates ks
    → bound_or_declared ds None (declared_from [] t ds) ≡ bound_or_declared ks None (declared_from [] t ks)
refers_same ds ks t h k e u f p =
    let found : declared_from [] t ds ≡ declared_from [] t ks
    = declared_look t [] ds h
    ∙ ap (λ z. look 0 0 0 0 z (universals ds) (functions ds) (predicates ds) t) e
    ∙ ap (λ z. look 0 0 0 0 (existentials ks) z (functions ds) (predicates ds) t) u
    ∙ ap (λ z. look 0 0 0 0 (existentials ks) (universals ks) z (predicates ds) t) f
    ∙ ap (λ z. look 0 0 0 0 (existentials ks) (universals ks) (functions ks) z t) p
    ∙ sym (declared_look t [] ks k) in
    ap (bound_or_declared ds None) found ∙ by (declared_from [] t ks)
  where
    by : (o : Option Entry) → bound_or_declared ds None o ≡ bound_or_declared ks None o
    by None = refl
    by (Some x) = ap (λ z. Some z) (same_symbol ds ks x (ap length e))

pub stands_same : (f : File) (p : Problem) (t : List ℕ) → declaration_faults [] (declarations f.blocks) ≡ [] → IsTyped f p → refers (scope_of_problem p) t ≡ refers (scope_of f.blocks) t
stands_same f p t e i =
    let ds = declarations f.blocks in
    let es = p.existentials in let us = p.universals in let fs = p.functions in let ps = p.predicates in
    let once = once_texts ds e in
    let names : names_of_symbols p ≡ by_kinds ds = names_same ds p i.existentials i.universals i.functions i.predicates in
    refers_same (listed es us fs ps) ds t
    (subst AreOnce (sym (names-listed es us fs ps ∙ names)) (once_kinds ds once)) once
    (existentials-listed es us fs ps ∙ i.existentials) (universals-listed es us fs ps ∙ i.universals)
    (functions-listed es us fs ps ∙ i.functions) (predicates-listed es us fs ps ∙ i.predicates)

-- the constants of a problem are as many as those of its file
pub same_constants : (f : File) (p : Problem) → IsTyped f p → constants (scope_of_problem p).declared ≡ constants (declarations f.blocks)
same_constants f p i =
    let es = p.existentials in let us = p.universals in let fs = p.functions in let ps = p.predicates in
    ap (λ z. length z + length (universals (listed es us fs ps))) (existentials-listed es us fs ps ∙ i.existentials)
    ∙ ap (λ z. length (existentials (declarations f.blocks)) + length z) (universals-listed es us fs ps ∙ i.universals)
