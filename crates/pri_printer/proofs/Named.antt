-- What the names of a problem's constants stand for.
use Rattle.std.proofs.Common.{◌≡◌, ℕ, zero, suc, ◌+◌, ◌-◌, ◌<◌, ◌≤◌, Bool, true, false, ◌||◌, ◌&&◌, not, List, [], ◌∷◌, ◌++◌, map, length, get_or, refl, sym, ap, ◌∙◌, arith, if◌then◌else◌, append_assoc, append-nil, length-append, Option, Some, None, inl, inr}
use Rattle.std.specs.List.{IsDistinct, AllByRecursion}
use Rattle.std.proofs.lemmas.Bool.{cases_lt, false≢true}
use Rattle.std.specs.Prelude.{codes}
use Rattle.std.specs.Str.{bytes_eq}
use Rattle.std.proofs.lemmas.List.Elements.{filter_map-append}
use Rattle.pri_typing.specs.declared.declaration.Kind.{Kind}
use Rattle.pri_typing.specs.declared.declaration.Kind.TheVariants.{Existential, Universal, Function, Predicate}
use Rattle.pri_typing.specs.declared.declaration.Declaration.{Declaration}
use Rattle.pri_typing.specs.declared.problem.Symbol.{Symbol}
use Rattle.pri_typing.specs.declared.problem.Problem.{Problem}
use Rattle.pri_typing.specs.declared.symbols.Entry.{Entry}
use Rattle.pri_typing.specs.declared.scope.Referent.TheVariants as referent
use Rattle.base_texts.specs.Texts.{is_text, is_among}
use Rattle.pri_typing.specs.Scope.{existentials, universals, existential_text, universal_text, declared_from, refers, bound_or_declared}
use Rattle.pri_tokens.specs.declared.terminals.Terminal.TheVariants as t
use Rattle.pri_tokens.specs.Kinds.{is_name}
use Rattle.pri_tokens.specs.Spellings.{word_of}
use Rattle.pri_tokens.specs.Written.{IsIdentifier}
use Rattle.pri_printer.proofs.Standing.{CanPrint, within}
use Rattle.pri_typing.specs.Problems.{unplaced, scope_of_problem}
use Rattle.pri_typing.proofs.Distinct.{text_self, text_other, or_none, AreOnce}
use Rattle.pri_typing.proofs.Names.{none_split}

-- Texts once each.

none_among : (t : List ℕ) (xs : List (List ℕ)) → AllByRecursion (λ y. is_text t y ≡ false) xs → is_among t xs ≡ false
none_among t [] h = refl
none_among t (x ∷ xs) h = ap (λ z. z || is_among t xs) h.0 ∙ none_among t xs h.1

pub once_of : (xs : List (List ℕ)) → IsDistinct is_text xs → AreOnce xs
unfolding IsDistinct
once_of [] h = tt
once_of (x ∷ xs) h = (none_among x xs h.0, once_of xs h.1)

absent : (t : List ℕ) (xs : List (List ℕ)) (k : ℕ) → is_among t xs ≡ false → k < length xs → is_text t (get_or xs k []) ≡ false
absent t [] k e h = absurd (omega arith)
absent t (x ∷ xs) zero e h = (or_none (is_text t x) (is_among t xs) e).0
absent t (x ∷ xs) (suc k) e h = absent t xs k (or_none (is_text t x) (is_among t xs) e).1 (omega arith)

pub once_left : (xs ys : List (List ℕ)) → AreOnce (xs ++ ys) → AreOnce xs
once_left [] ys h = tt
once_left (x ∷ xs) ys h = ((none_split x xs ys h.0).0, once_left xs ys h.1)

pub once_right : (xs ys : List (List ℕ)) → AreOnce (xs ++ ys) → AreOnce ys
once_right [] ys h = h
once_right (x ∷ xs) ys h = once_right xs ys h.1

none_join : (a b : Bool) → a ≡ false → b ≡ false → (a || b) ≡ false
none_join a b h k = rw (h, k) refl

pub once_apart : (xs ys : List (List ℕ)) (i : ℕ) → AreOnce (xs ++ ys) → i < length ys → is_among (get_or ys i []) xs ≡ false
once_apart [] ys i h l = refl
once_apart (x ∷ xs) ys i h l =
    none_join (is_text (get_or ys i []) x) (is_among (get_or ys i []) xs)
    (text_other x (get_or ys i []) (absent x ys i (none_split x xs ys h.0).1 l)) (once_apart xs ys i h.1 l)

-- Declarations.

abbrev found : Kind → ℕ → Option Entry
found kind n = Some (record { kind = kind; number = n })

one_more : (before : List Declaration) (t : List ℕ) → length (existentials (before ++ unplaced Existential t ∷ [])) ≡ length (existentials before) + 1
one_more before t = ap length (filter_map-append existential_text before (unplaced Existential t ∷ [])) ∙ length-append (existentials before) (t ∷ [])

one_more_universal : (before : List Declaration) (t : List ℕ) → length (universals (before ++ unplaced Universal t ∷ [])) ≡ length (universals before) + 1
one_more_universal before t = ap length (filter_map-append universal_text before (unplaced Universal t ∷ [])) ∙ length-append (universals before) (t ∷ [])

existential_found : (before : List Declaration) (es : List (List ℕ)) (x : ℕ) (more : List Declaration) → AreOnce es → x < length es
    → declared_from before (get_or es x []) (map (unplaced Existential) es ++ more) ≡ found Existential (length (existentials before) + x)
existential_found before [] x more h l = absurd (omega arith)
existential_found before (t ∷ es) zero more h l = rw (text_self t) (ap (found Existential) (omega arith))
existential_found before (t ∷ es) (suc x) more h l =
    rw (text_other t (get_or es x []) (absent t es x h.0 (omega arith)))
    (existential_found (before ++ unplaced Existential t ∷ []) es x more h.1 (omega arith)
    ∙ ap (found Existential) (omega (arith, one_more before t)))

existential_skipped : (before : List Declaration) (t : List ℕ) (es : List (List ℕ)) (more : List Declaration) → is_among t es ≡ false
    → declared_from before t (map (unplaced Existential) es ++ more) ≡ declared_from (before ++ map (unplaced Existential) es) t more
existential_skipped before t [] more h = ap (λ z. declared_from z t more) (sym (append-nil before))
existential_skipped before t (e ∷ es) more h =
    rw ((or_none (is_text t e) (is_among t es) h).0)
    (existential_skipped (before ++ unplaced Existential e ∷ []) t es more (or_none (is_text t e) (is_among t es) h).1
    ∙ ap (λ z. declared_from z t more) (append_assoc before (unplaced Existential e ∷ []) (map (unplaced Existential) es)))

universal_found : (before : List Declaration) (us : List (List ℕ)) (x : ℕ) (more : List Declaration) → AreOnce us → x < length us
    → declared_from before (get_or us x []) (map (unplaced Universal) us ++ more) ≡ found Universal (length (universals before) + x)
universal_found before [] x more h l = absurd (omega arith)
universal_found before (t ∷ us) zero more h l = rw (text_self t) (ap (found Universal) (omega arith))
universal_found before (t ∷ us) (suc x) more h l =
    rw (text_other t (get_or us x []) (absent t us x h.0 (omega arith)))
    (universal_found (before ++ unplaced Universal t ∷ []) us x more h.1 (omega arith)
    ∙ ap (found Universal) (omega (arith, one_more_universal before t)))

existentials_are : (es : List (List ℕ)) → existentials (map (unplaced Existential) es) ≡ es
existentials_are [] = refl
existentials_are (e ∷ es) = ap (λ z. e ∷ z) (existentials_are es)

universals_none : (es : List (List ℕ)) → universals (map (unplaced Existential) es) ≡ []
universals_none [] = refl
universals_none (e ∷ es) = universals_none es

existentials_none : (us : List (List ℕ)) → existentials (map (unplaced Universal) us) ≡ []
existentials_none [] = refl
existentials_none (e ∷ es) = existentials_none es

universals_are : (us : List (List ℕ)) → universals (map (unplaced Universal) us) ≡ us
universals_are [] = refl
universals_are (e ∷ es) = ap (λ z. e ∷ z) (universals_are es)

symbols_none : (fs : List Symbol) → existentials (map (λ y. unplaced (Function y.arity) y.name) fs) ≡ []
symbols_none [] = refl
symbols_none (f ∷ fs) = symbols_none fs

predicates_none : (fs : List Symbol) → existentials (map (λ y. unplaced (Predicate y.arity) y.name) fs) ≡ []
predicates_none [] = refl
predicates_none (f ∷ fs) = predicates_none fs

symbols_none_universal : (fs : List Symbol) → universals (map (λ y. unplaced (Function y.arity) y.name) fs) ≡ []
symbols_none_universal [] = refl
symbols_none_universal (f ∷ fs) = symbols_none_universal fs

predicates_none_universal : (fs : List Symbol) → universals (map (λ y. unplaced (Predicate y.arity) y.name) fs) ≡ []
predicates_none_universal [] = refl
predicates_none_universal (f ∷ fs) = predicates_none_universal fs

existentials-append : (xs ys : List Declaration) → existentials (xs ++ ys) ≡ existentials xs ++ existentials ys
existentials-append xs ys = filter_map-append existential_text xs ys

universals-append : (xs ys : List Declaration) → universals (xs ++ ys) ≡ universals xs ++ universals ys
universals-append xs ys = filter_map-append universal_text xs ys

spread : (E U F Q : List Declaration) → ((E ++ U) ++ F) ++ Q ≡ E ++ (U ++ (F ++ Q))
spread E U F Q = append_assoc (E ++ U) F Q ∙ append_assoc E U (F ++ Q)

declared_spread : (p : Problem) → (scope_of_problem p).declared ≡ map (unplaced Existential) p.existentials ++ (map (unplaced Universal) p.universals
    ++ (map (λ y. unplaced (Function y.arity) y.name) p.functions ++ map (λ y. unplaced (Predicate y.arity) y.name) p.predicates))
declared_spread p = spread (map (unplaced Existential) p.existentials) (map (unplaced Universal) p.universals) (map (λ y. unplaced (Function y.arity) y.name) p.functions) (map (λ y. unplaced (Predicate y.arity) y.name) p.predicates)

join_existentials : (E U F Q : List Declaration) → existentials (E ++ (U ++ (F ++ Q))) ≡ existentials E ++ (existentials U ++ (existentials F ++ existentials Q))
join_existentials E U F Q = existentials-append E (U ++ (F ++ Q)) ∙ ap (λ z. existentials E ++ z) (existentials-append U (F ++ Q) ∙ ap (λ z. existentials U ++ z) (existentials-append F Q))

join_universals : (E U F Q : List Declaration) → universals (E ++ (U ++ (F ++ Q))) ≡ universals E ++ (universals U ++ (universals F ++ universals Q))
join_universals E U F Q = universals-append E (U ++ (F ++ Q)) ∙ ap (λ z. universals E ++ z) (universals-append U (F ++ Q) ∙ ap (λ z. universals U ++ z) (universals-append F Q))

all_existentials : (es us : List (List ℕ)) (fs ps : List Symbol) → existentials (map (unplaced Existential) es ++ (map (unplaced Universal) us
    ++ (map (λ y. unplaced (Function y.arity) y.name) fs ++ map (λ y. unplaced (Predicate y.arity) y.name) ps))) ≡ es
all_existentials es us fs ps =
    join_existentials (map (unplaced Existential) es) (map (unplaced Universal) us) (map (λ y. unplaced (Function y.arity) y.name) fs) (map (λ y. unplaced (Predicate y.arity) y.name) ps)
    ∙ rw (existentials_are es, existentials_none us, symbols_none fs, predicates_none ps) (append-nil es)

all_universals : (es us : List (List ℕ)) (fs ps : List Symbol) → universals (map (unplaced Existential) es ++ (map (unplaced Universal) us
    ++ (map (λ y. unplaced (Function y.arity) y.name) fs ++ map (λ y. unplaced (Predicate y.arity) y.name) ps))) ≡ us
all_universals es us fs ps =
    join_universals (map (unplaced Existential) es) (map (unplaced Universal) us) (map (λ y. unplaced (Function y.arity) y.name) fs) (map (λ y. unplaced (Predicate y.arity) y.name) ps)
    ∙ rw (universals_none es, universals_are us, symbols_none_universal fs, predicates_none_universal ps) (append-nil us)

pub scope_existentials : (p : Problem) → length (existentials (scope_of_problem p).declared) ≡ length p.existentials
scope_existentials p = ap (λ z. length (existentials z)) (declared_spread p) ∙ ap length (all_existentials p.existentials p.universals p.functions p.predicates)

pub scope_universals : (p : Problem) → length (universals (scope_of_problem p).declared) ≡ length p.universals
scope_universals p = ap (λ z. length (universals z)) (declared_spread p) ∙ ap length (all_universals p.existentials p.universals p.functions p.predicates)

get_left : (xs ys : List (List ℕ)) (i : ℕ) → i < length xs → get_or (xs ++ ys) i [] ≡ get_or xs i []
get_left [] ys i h = absurd (omega arith)
get_left (x ∷ xs) ys zero h = refl
get_left (x ∷ xs) ys (suc i) h = get_left xs ys i (omega arith)

get_right : (xs ys : List (List ℕ)) (i : ℕ) → get_or (xs ++ ys) (length xs + i) [] ≡ get_or ys i []
get_right [] ys i = let z : 0 + i ≡ i = omega arith in ap (λ k. get_or ys k []) z
get_right (x ∷ xs) ys i = let z : suc (length xs) + i ≡ suc (length xs + i) = omega arith in ap (λ k. get_or (x ∷ (xs ++ ys)) k []) z ∙ get_right xs ys i

existential_refers : (p : Problem) (x : ℕ) → AreOnce p.existentials → x < length p.existentials
    → refers (scope_of_problem p) (get_or p.existentials x []) ≡ Some (referent.Name x)
existential_refers p x h l =
    let z : 0 + x ≡ x = omega arith in
    ap (bound_or_declared (scope_of_problem p).declared None) (ap (declared_from [] (get_or p.existentials x [])) (declared_spread p) ∙ existential_found [] p.existentials x _ h l)
    ∙ ap (λ k. Some (referent.Name k)) z

universal_refers : (p : Problem) (i : ℕ) → AreOnce (p.existentials ++ p.universals) → i < length p.universals
    → refers (scope_of_problem p) (get_or p.universals i []) ≡ Some (referent.Name (length p.existentials + i))
universal_refers p i h l =
    let E = map (unplaced Existential) p.existentials in
    let none = ap length (universals_none p.existentials) in
    let z : length (universals E) + i ≡ i = omega (arith, none) in
    ap (bound_or_declared (scope_of_problem p).declared None)
    (ap (declared_from [] (get_or p.universals i [])) (declared_spread p) ∙ existential_skipped [] (get_or p.universals i []) p.existentials _ (once_apart p.existentials p.universals i h l)
    ∙ universal_found E p.universals i _ (once_right p.existentials p.universals h) l ∙ ap (found Universal) z)
    ∙ ap (λ k. Some (referent.Name (k + i))) (scope_existentials p)

by_lt : {P : Type 0} (a b : ℕ) → (a < b → P) → (b ≤ a → P) → P
by_lt a b f g = elim (cases_lt a b) [ inl h ↦ f h | inr h ↦ g h ]

-- the text of each constant stands for it
pub constant_refers : (p : Problem) (x : ℕ) → AreOnce (p.existentials ++ p.universals) → x < length (p.existentials ++ p.universals)
    → refers (scope_of_problem p) (get_or (p.existentials ++ p.universals) x []) ≡ Some (referent.Name x)
constant_refers p x h l =
    by_lt x (length p.existentials)
    (λ small. ap (λ t. refers (scope_of_problem p) t) (get_left p.existentials p.universals x small)
    ∙ existential_refers p x (once_left p.existentials p.universals h) small)
    (λ large.
    let i = x - length p.existentials in
    let k : x ≡ length p.existentials + i = omega arith in
    let within = length-append p.existentials p.universals in
    let small : i < length p.universals = omega (arith, l, within) in
    ap (λ t. refers (scope_of_problem p) t) (ap (λ z. get_or (p.existentials ++ p.universals) z []) k ∙ get_right p.existentials p.universals i)
    ∙ universal_refers p i h small ∙ ap (λ z. Some (referent.Name z)) (sym k))

-- What is needed to print.

-- a text that is bound alone, and another one
bound_self : (p : Problem) (k : List ℕ) → refers (within k (scope_of_problem p)) k ≡ Some (referent.Name (length (p.existentials ++ p.universals)))
bound_self p k =
    ap (λ c. bound_or_declared (scope_of_problem p).declared (if c then Some 0 else None) (declared_from [] k (scope_of_problem p).declared)) (text_self k)
    ∙ ap (λ n. Some (referent.Name n)) (omega (arith, scope_existentials p, scope_universals p, length-append p.existentials p.universals))

bound_other : (p : Problem) (k u : List ℕ) → is_text u k ≡ false → refers (within k (scope_of_problem p)) u ≡ refers (scope_of_problem p) u
bound_other p k u h = ap (λ c. bound_or_declared (scope_of_problem p).declared (if c then Some 0 else None) (declared_from [] u (scope_of_problem p).declared)) h

word_cases : (n a b c d : Bool) → (n && not (a || (b || (c || (d || false))))) ≡ true
    → (n ≡ true) × ((if a then t.Int else (if b then t.Nat else (if c then t.True else (if d then t.False else t.Identifier)))) ≡ t.Identifier)
word_cases false a b c d h = absurd (false≢true h)
word_cases true true b c d h = absurd (false≢true h)
word_cases true false true c d h = absurd (false≢true h)
word_cases true false false true d h = absurd (false≢true h)
word_cases true false false false true h = absurd (false≢true h)
word_cases true false false false false h = (refl, refl)

word_by : (text : List ℕ) → IsIdentifier text → (is_name text ≡ true) × (word_of text ≡ t.Identifier)
word_by text h = word_cases (is_name text) (bytes_eq text (codes "int")) (bytes_eq text (codes "nat")) (bytes_eq text (codes "true")) (bytes_eq text (codes "false")) h

identifier_at : (names : List (List ℕ)) (x : ℕ) → AllByRecursion IsIdentifier names → x < length names → IsIdentifier (get_or names x [])
identifier_at [] x h l = absurd (omega arith)
identifier_at (n ∷ names) zero h l = h.0
identifier_at (n ∷ names) (suc x) h l = identifier_at names x h.1 (omega arith)

pub can_print : (p : Problem) (k : List ℕ) → AreOnce (p.existentials ++ p.universals) → AllByRecursion IsIdentifier (p.existentials ++ p.universals)
    → IsIdentifier k → is_among k (p.existentials ++ p.universals) ≡ false
    → CanPrint (scope_of_problem p) (p.existentials ++ p.universals) k (length (p.existentials ++ p.universals))
can_print p k once are i free =
    let names = p.existentials ++ p.universals in
    let is_one : (x : ℕ) → x < length names → IsIdentifier (get_or names x []) = λ x l. identifier_at names x are l in
    record {
      outside = λ x l. record { is = (word_by (get_or names x []) (is_one x l)).0; identifier = (word_by (get_or names x []) (is_one x l)).1; refers_to = constant_refers p x once l };
      inside = λ x l. record {
        is = (word_by (get_or names x []) (is_one x l)).0;
        identifier = (word_by (get_or names x []) (is_one x l)).1;
        refers_to = bound_other p k (get_or names x []) (text_other k (get_or names x []) (absent k names x free l)) ∙ constant_refers p x once l;
      };
      quotient = record { is = (word_by k i).0; identifier = (word_by k i).1; refers_to = bound_self p k };
    }
