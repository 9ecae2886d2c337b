-- What the names of a printed formula stand for.
use Rattle.std.proofs.Common.{◌≡◌, ℕ, zero, suc, ◌+◌, ◌-◌, ◌<◌, ◌≤◌, ◌^◌, Bool, true, false, ◌||◌, ◌&&◌, not, List, [], ◌∷◌, ◌++◌, map, length, get_or, cond, nat_lt, refl, sym, ap, subst, ◌∙◌, arith, if◌then◌else◌, append-nil, append_assoc, length-append, Option, Some, None, inl, inr}
use Rattle.std.specs.List.{AllByRecursion}
use Rattle.std.specs.Prelude.{codes}
use Rattle.std.specs.Str.{bytes_eq}
use Rattle.std.proofs.lemmas.Bool.{cases_lt, false≢true}
use Rattle.std.proofs.lemmas.Bool.Decides.{nat_tests}
use Rattle.std.proofs.lemmas.List.Elements.{filter_map-append}
use Rattle.pri_tokens.specs.declared.terminals.Terminal.TheVariants as t
use Rattle.pri_tokens.specs.Kinds.{is_name}
use Rattle.pri_tokens.specs.Spellings.{word_of}
use Rattle.pri_tokens.specs.Written.{IsIdentifier}
use Rattle.pri_typing.specs.declared.declaration.Kind.{Kind}
use Rattle.pri_typing.specs.declared.declaration.Kind.TheVariants.{Existential, Universal, Function, Predicate}
use Rattle.pri_typing.specs.declared.declaration.Declaration.{Declaration}
use Rattle.pri_typing.specs.declared.problem.Symbol.{Symbol}
use Rattle.pri_typing.specs.declared.problem.Problem.{Problem}
use Rattle.pri_typing.specs.declared.symbols.Entry.{Entry}
use Rattle.pri_typing.specs.declared.scope.Referent.{Referent}
use Rattle.pri_typing.specs.declared.scope.Referent.TheVariants as referent
use Rattle.base_texts.specs.Texts.{is_text, is_among}
use Rattle.pri_typing.specs.Scope.{Scope, functions, predicates, function_symbol, predicate_symbol, declared_from, refers, bound_or_declared, depth_of}
use Rattle.pri_typing.specs.Problems.{unplaced, scope_of_problem}
use Rattle.pri_typing.specs.WellFormed.{names_of_symbols, HasArity}
use Rattle.pri_typing.proofs.Distinct.{AreOnce, text_self, text_same, text_other, or_none, element_among, among-append}
use Rattle.pri_typing.proofs.Names.{none_split}
use Rattle.itp_printer.specs.Variables.{variable_text, bound_names}
use Rattle.itp_printer.specs.TypedText.{name_text, symbol_text}
use Rattle.pri_printer.specs.Printed.{constants_of}
use Rattle.pri_printer.proofs.Named.{once_left, once_right, once_apart, constant_refers, scope_existentials, scope_universals}
use Rattle.itp_printer.proofs.Free.{variable_free, variables_differ, variable_is}

-- the scope inside d quantifiers of a printed formula
abbrev pub scope_at : Problem → ℕ → Scope
scope_at p d = record { declared = (scope_of_problem p).declared; parts = (scope_of_problem p).parts; bound = bound_names p d }

-- the text is an identifier that stands for this
pub record IsNamed (sc : Scope) (r : Referent) (text : List ℕ) : Type 0 where
  pub is : is_name text ≡ true
  pub identifier : word_of text ≡ t.Identifier
  pub refers_to : refers sc text ≡ Some r

-- what is asked of the symbols
pub record CanSay (p : Problem) : Type 0 where
  pub few : length (names_of_symbols p) ≤ 1000
  pub once : AreOnce (names_of_symbols p)
  pub identifiers : AllByRecursion IsIdentifier (names_of_symbols p)

-- Identifiers.

word_cases : (n a b c d : Bool) → (n && not (a || (b || (c || (d || false))))) ≡ true
    → (n ≡ true) × ((if a then t.Int else (if b then t.Nat else (if c then t.True else (if d then t.False else t.Identifier)))) ≡ t.Identifier)
word_cases false a b c d h = absurd (false≢true h)
word_cases true true b c d h = absurd (false≢true h)
word_cases true false true c d h = absurd (false≢true h)
word_cases true false false true d h = absurd (false≢true h)
word_cases true false false false true h = absurd (false≢true h)
word_cases true false false false false h = (refl, refl)

pub word_by : (text : List ℕ) → IsIdentifier text → (is_name text ≡ true) × (word_of text ≡ t.Identifier)
word_by text h = word_cases (is_name text) (bytes_eq text (codes "int")) (bytes_eq text (codes "nat")) (bytes_eq text (codes "true")) (bytes_eq text (codes "false")) h

identifier_at : (names : List (List ℕ)) (x : ℕ) → AllByRecursion IsIdentifier names → x < length names → IsIdentifier (get_or names x [])
identifier_at [] x h l = absurd (omega arith)
identifier_at (n ∷ names) zero h l = h.0
identifier_at (n ∷ names) (suc x) h l = identifier_at names x h.1 (omega arith)

identifiers_left : (xs ys : List (List ℕ)) → AllByRecursion IsIdentifier (xs ++ ys) → AllByRecursion IsIdentifier xs
identifiers_left [] ys h = tt
identifiers_left (x ∷ xs) ys h = (h.0, identifiers_left xs ys h.1)

identifiers_right : (xs ys : List (List ℕ)) → AllByRecursion IsIdentifier (xs ++ ys) → AllByRecursion IsIdentifier ys
identifiers_right [] ys h = h
identifiers_right (x ∷ xs) ys h = identifiers_right xs ys h.1

named_by : (sc : Scope) (r : Referent) (text : List ℕ) → IsIdentifier text → refers sc text ≡ Some r → IsNamed sc r text
named_by sc r text i e = record { is = (word_by text i).0; identifier = (word_by text i).1; refers_to = e }

-- Bound variables.

bound_length : (p : Problem) (d : ℕ) → length (bound_names p d) ≡ d
bound_length p zero = refl
bound_length p (suc d) = ap suc (bound_length p d)

depth_variable : (p : Problem) (d i : ℕ) → i < d → d ≤ 2 ^ 64 → depth_of (variable_text p i) (bound_names p d) ≡ Some i
depth_variable p zero i h l = absurd (omega arith)
depth_variable p (suc d) i h l =
    elim (cases_lt i d) [
      | inl s ↦ ap (λ c. if c then Some (length (bound_names p d)) else depth_of (variable_text p i) (bound_names p d)) (variables_differ p i d s (omega arith))
          ∙ depth_variable p d i s (omega arith)
      | inr g ↦ let q : d ≡ i = omega arith in
          subst (λ z. depth_of (variable_text p z) (bound_names p (suc d)) ≡ Some z) q
          (ap (λ c. if c then Some (length (bound_names p d)) else depth_of (variable_text p d) (bound_names p d)) (text_self (variable_text p d))
          ∙ ap Some (bound_length p d))
    ]

-- a symbol is no bound variable
depth_symbol : (p : Problem) (d : ℕ) (text : List ℕ) → length (names_of_symbols p) ≤ 1000 → d ≤ 2 ^ 64 → is_among text (names_of_symbols p) ≡ true
    → depth_of text (bound_names p d) ≡ None
depth_symbol p zero text few l a = refl
depth_symbol p (suc d) text few l a = by (depth_symbol p d text few (omega arith) a) (is_text text (variable_text p d)) refl
  where
    by : depth_of text (bound_names p d) ≡ None → (b : Bool) → is_text text (variable_text p d) ≡ b → (if b then Some (length (bound_names p d)) else depth_of text (bound_names p d)) ≡ None
    by k true e = absurd (false≢true (sym (variable_free p d few (omega arith)) ∙ ap (λ z. is_among z (names_of_symbols p)) (sym (text_same text (variable_text p d) e)) ∙ a))
    by k false e = k

-- what a symbol stands for outside, it stands for inside
symbol_refers : (p : Problem) (d : ℕ) (text : List ℕ) (r : Option Referent) → length (names_of_symbols p) ≤ 1000 → d ≤ 2 ^ 64 → is_among text (names_of_symbols p) ≡ true
    → refers (scope_of_problem p) text ≡ r → refers (scope_at p d) text ≡ r
symbol_refers p d text r few l a e =
    ap (λ o. bound_or_declared (scope_of_problem p).declared o (declared_from [] text (scope_of_problem p).declared)) (depth_symbol p d text few l a) ∙ e

-- Symbols with arguments.

abbrev found : Kind → ℕ → Option Entry
found kind n = Some (record { kind = kind; number = n })

absent : (text : List ℕ) (xs : List (List ℕ)) (k : ℕ) → is_among text xs ≡ false → k < length xs → is_text text (get_or xs k []) ≡ false
absent text [] k e h = absurd (omega arith)
absent text (x ∷ xs) zero e h = (or_none (is_text text x) (is_among text xs) e).0
absent text (x ∷ xs) (suc k) e h = absent text xs k (or_none (is_text text x) (is_among text xs) e).1 (omega arith)

skipped : (before ds more : List Declaration) (text : List ℕ) → is_among text (map (λ d. d.text) ds) ≡ false
    → declared_from before text (ds ++ more) ≡ declared_from (before ++ ds) text more
skipped before [] more text h = ap (λ z. declared_from z text more) (sym (append-nil before))
skipped before (d ∷ ds) more text h =
    let apart = or_none (is_text text d.text) (is_among text (map (λ d. d.text) ds)) h in
    rw (apart.0) (skipped (before ++ d ∷ []) ds more text apart.1 ∙ ap (λ z. declared_from z text more) (append_assoc before (d ∷ []) ds))

constant_texts : (k : Kind) (es : List (List ℕ)) → map (λ d. d.text) (map (unplaced k) es) ≡ es
constant_texts k [] = refl
constant_texts k (e ∷ es) = ap (λ z. e ∷ z) (constant_texts k es)

abbrev function_declarations : List Symbol → List Declaration
function_declarations fs = map (λ y. unplaced (Function y.arity) y.name) fs

abbrev predicate_declarations : List Symbol → List Declaration
predicate_declarations fs = map (λ y. unplaced (Predicate y.arity) y.name) fs

function_texts : (fs : List Symbol) → map (λ d. d.text) (function_declarations fs) ≡ map (λ y. y.name) fs
function_texts [] = refl
function_texts (f ∷ fs) = ap (λ z. f.name ∷ z) (function_texts fs)

some_is : {A : Type 0} (a b : A) → Some a ≡ Some b → a ≡ b
some_is a b e = ap (λ o. elim o [ Some x ↦ x | None ↦ a ]) e

is_some_of : {A : Type 0} → Option A → Bool
is_some_of (Some x) = true
is_some_of None = false

none_some : {A : Type 0} (a : A) → None ≡ Some a → ⊥
unfolding is_some_of
none_some a e = false≢true (ap is_some_of e)

pub arity_within : (fs : List Symbol) (k n : ℕ) → HasArity fs k n → k < length (map (λ y. y.name) fs)
arity_within [] k n h = absurd (none_some n h)
arity_within (f ∷ fs) zero n h = omega arith
arity_within (f ∷ fs) (suc k) n h = let l = arity_within fs k n h in omega (arith, l)

one_function : (before : List Declaration) (k : ℕ) (name : List ℕ) → length (functions (before ++ unplaced (Function k) name ∷ [])) ≡ length (functions before) + 1
one_function before k name =
    ap length (filter_map-append function_symbol before (unplaced (Function k) name ∷ [])) ∙ length-append (functions before) (record { name = name; arity = k } ∷ [])

one_predicate : (before : List Declaration) (k : ℕ) (name : List ℕ) → length (predicates (before ++ unplaced (Predicate k) name ∷ [])) ≡ length (predicates before) + 1
one_predicate before k name =
    ap length (filter_map-append predicate_symbol before (unplaced (Predicate k) name ∷ [])) ∙ length-append (predicates before) (record { name = name; arity = k } ∷ [])

function_found : (before : List Declaration) (fs : List Symbol) (k n : ℕ) (more : List Declaration) → AreOnce (map (λ y. y.name) fs) → HasArity fs k n
    → declared_from before (symbol_text fs k) (function_declarations fs ++ more) ≡ found (Function n) (length (functions before) + k)
function_found before [] k n more o h = absurd (none_some n h)
function_found before (f ∷ fs) zero n more o h =
    rw (text_self f.name) (ap (λ m. found (Function m) (length (functions before))) (some_is f.arity n h) ∙ ap (found (Function n)) (omega arith))
function_found before (f ∷ fs) (suc k) n more o h =
    rw (text_other f.name (symbol_text fs k) (absent f.name (map (λ y. y.name) fs) k o.0 (arity_within fs k n h)))
    (function_found (before ++ unplaced (Function f.arity) f.name ∷ []) fs k n more o.1 h
    ∙ ap (found (Function n)) (omega (arith, one_function before f.arity f.name)))

predicate_found : (before : List Declaration) (fs : List Symbol) (k n : ℕ) → AreOnce (map (λ y. y.name) fs) → HasArity fs k n
    → declared_from before (symbol_text fs k) (predicate_declarations fs) ≡ found (Predicate n) (length (predicates before) + k)
predicate_found before [] k n o h = absurd (none_some n h)
predicate_found before (f ∷ fs) zero n o h =
    rw (text_self f.name) (ap (λ m. found (Predicate m) (length (predicates before))) (some_is f.arity n h) ∙ ap (found (Predicate n)) (omega arith))
predicate_found before (f ∷ fs) (suc k) n o h =
    rw (text_other f.name (symbol_text fs k) (absent f.name (map (λ y. y.name) fs) k o.0 (arity_within fs k n h)))
    (predicate_found (before ++ unplaced (Predicate f.arity) f.name ∷ []) fs k n o.1 h
    ∙ ap (found (Predicate n)) (omega (arith, one_predicate before f.arity f.name)))

-- constants are no functions and no predicates, and functions are no predicates
existential_functions : (es : List (List ℕ)) → functions (map (unplaced Existential) es) ≡ []
existential_functions [] = refl
existential_functions (e ∷ es) = existential_functions es

universal_functions : (es : List (List ℕ)) → functions (map (unplaced Universal) es) ≡ []
universal_functions [] = refl
universal_functions (e ∷ es) = universal_functions es

existential_predicates : (es : List (List ℕ)) → predicates (map (unplaced Existential) es) ≡ []
existential_predicates [] = refl
existential_predicates (e ∷ es) = existential_predicates es

universal_predicates : (es : List (List ℕ)) → predicates (map (unplaced Universal) es) ≡ []
universal_predicates [] = refl
universal_predicates (e ∷ es) = universal_predicates es

function_predicates : (fs : List Symbol) → predicates (function_declarations fs) ≡ []
function_predicates [] = refl
function_predicates (f ∷ fs) = function_predicates fs

functions_before : (es us : List (List ℕ)) → length (functions (map (unplaced Existential) es ++ map (unplaced Universal) us)) ≡ 0
functions_before es us =
    ap length (filter_map-append function_symbol (map (unplaced Existential) es) (map (unplaced Universal) us))
    ∙ rw (existential_functions es, universal_functions us) refl

predicates_before : (es us : List (List ℕ)) (fs : List Symbol) → length (predicates ((map (unplaced Existential) es ++ map (unplaced Universal) us) ++ function_declarations fs)) ≡ 0
predicates_before es us fs =
    ap length (filter_map-append predicate_symbol (map (unplaced Existential) es ++ map (unplaced Universal) us) (function_declarations fs)
    ∙ ap (λ z. z ++ predicates (function_declarations fs)) (filter_map-append predicate_symbol (map (unplaced Existential) es) (map (unplaced Universal) us)))
    ∙ rw (existential_predicates es, universal_predicates us, function_predicates fs) refl

-- the names of a problem, once each
abbrev function_names : Problem → List (List ℕ)
function_names p = map (λ y. y.name) p.functions

abbrev predicate_names : Problem → List (List ℕ)
predicate_names p = map (λ y. y.name) p.predicates

among_left : (text : List ℕ) (xs ys : List (List ℕ)) → is_among text xs ≡ true → is_among text (xs ++ ys) ≡ true
among_left text xs ys h = among-append text xs ys ∙ rw h refl

or_true : (b : Bool) → (b || true) ≡ true
or_true true = refl
or_true false = refl

among_right : (text : List ℕ) (xs ys : List (List ℕ)) → is_among text ys ≡ true → is_among text (xs ++ ys) ≡ true
among_right text xs ys h = among-append text xs ys ∙ rw h (or_true (is_among text xs))

declared_spread : (p : Problem) → (scope_of_problem p).declared ≡ map (unplaced Existential) p.existentials ++ (map (unplaced Universal) p.universals
    ++ (function_declarations p.functions ++ predicate_declarations p.predicates))
declared_spread p = spread (map (unplaced Existential) p.existentials) (map (unplaced Universal) p.universals) (function_declarations p.functions) (predicate_declarations p.predicates)
  where
    spread : (E U F Q : List Declaration) → ((E ++ U) ++ F) ++ Q ≡ E ++ (U ++ (F ++ Q))
    spread E U F Q = append_assoc (E ++ U) F Q ∙ append_assoc E U (F ++ Q)

constants_apart : (p : Problem) (text : List ℕ) (more : List Declaration) → is_among text (constants_of p) ≡ false
    → declared_from [] text (map (unplaced Existential) p.existentials ++ (map (unplaced Universal) p.universals ++ more))
    ≡ declared_from (map (unplaced Existential) p.existentials ++ map (unplaced Universal) p.universals) text more
constants_apart p text more h =
    let apart = none_split text p.existentials p.universals h in
    skipped [] (map (unplaced Existential) p.existentials) (map (unplaced Universal) p.universals ++ more) text (ap (is_among text) (constant_texts Existential p.existentials) ∙ apart.0)
    ∙ skipped (map (unplaced Existential) p.existentials) (map (unplaced Universal) p.universals) more text (ap (is_among text) (constant_texts Universal p.universals) ∙ apart.1)

function_refers : (p : Problem) (k n : ℕ) → AreOnce (names_of_symbols p) → HasArity p.functions k n
    → refers (scope_of_problem p) (symbol_text p.functions k) ≡ Some (referent.Function k n)
function_refers p k n o h =
    let text = symbol_text p.functions k in
    let once = once_left (constants_of p ++ function_names p) (predicate_names p) o in
    let apart = once_apart (constants_of p) (function_names p) k once (arity_within p.functions k n h) in
    let z = functions_before p.existentials p.universals in
    let number : length (functions (map (unplaced Existential) p.existentials ++ map (unplaced Universal) p.universals)) + k ≡ k = omega (arith, z) in
    ap (bound_or_declared (scope_of_problem p).declared None)
    (ap (declared_from [] text) (declared_spread p)
    ∙ constants_apart p text (function_declarations p.functions ++ predicate_declarations p.predicates) apart
    ∙ function_found _ p.functions k n (predicate_declarations p.predicates) (once_right (constants_of p) (function_names p) once) h
    ∙ ap (found (Function n)) number)

predicate_refers : (p : Problem) (k n : ℕ) → AreOnce (names_of_symbols p) → HasArity p.predicates k n
    → refers (scope_of_problem p) (symbol_text p.predicates k) ≡ Some (referent.Predicate k n)
predicate_refers p k n o h =
    let text = symbol_text p.predicates k in
    let apart = once_apart (constants_of p ++ function_names p) (predicate_names p) k o (arity_within p.predicates k n h) in
    let both = none_split text (constants_of p) (function_names p) apart in
    let z = predicates_before p.existentials p.universals p.functions in
    let number : length (predicates ((map (unplaced Existential) p.existentials ++ map (unplaced Universal) p.universals) ++ function_declarations p.functions)) + k ≡ k = omega (arith, z) in
    ap (bound_or_declared (scope_of_problem p).declared None)
    (ap (declared_from [] text) (declared_spread p)
    ∙ constants_apart p text (function_declarations p.functions ++ predicate_declarations p.predicates) both.0
    ∙ skipped (map (unplaced Existential) p.existentials ++ map (unplaced Universal) p.universals) (function_declarations p.functions) (predicate_declarations p.predicates) text
    (ap (is_among text) (function_texts p.functions) ∙ both.1)
    ∙ predicate_found _ p.predicates k n (once_right (constants_of p ++ function_names p) (predicate_names p) o) h
    ∙ ap (found (Predicate n)) number)

-- Names inside quantifiers.

pub function_named : (p : Problem) (d k n : ℕ) → CanSay p → d ≤ 2 ^ 64 → HasArity p.functions k n
    → IsNamed (scope_at p d) (referent.Function k n) (symbol_text p.functions k)
function_named p d k n good l h =
    let within = arity_within p.functions k n h in
    let all = identifiers_right (constants_of p) (function_names p) (identifiers_left (constants_of p ++ function_names p) (predicate_names p) good.identifiers) in
    named_by (scope_at p d) (referent.Function k n) (symbol_text p.functions k) (identifier_at (function_names p) k all within)
    (symbol_refers p d (symbol_text p.functions k) (Some (referent.Function k n)) good.few l
    (among_left (symbol_text p.functions k) (constants_of p ++ function_names p) (predicate_names p)
    (among_right (symbol_text p.functions k) (constants_of p) (function_names p) (element_among (function_names p) k within)))
    (function_refers p k n good.once h))

pub predicate_named : (p : Problem) (d k n : ℕ) → CanSay p → d ≤ 2 ^ 64 → HasArity p.predicates k n
    → IsNamed (scope_at p d) (referent.Predicate k n) (symbol_text p.predicates k)
predicate_named p d k n good l h =
    let within = arity_within p.predicates k n h in
    let all = identifiers_right (constants_of p ++ function_names p) (predicate_names p) good.identifiers in
    named_by (scope_at p d) (referent.Predicate k n) (symbol_text p.predicates k) (identifier_at (predicate_names p) k all within)
    (symbol_refers p d (symbol_text p.predicates k) (Some (referent.Predicate k n)) good.few l
    (among_right (symbol_text p.predicates k) (constants_of p ++ function_names p) (predicate_names p) (element_among (predicate_names p) k within))
    (predicate_refers p k n good.once h))

constant_named : (p : Problem) (d x : ℕ) → CanSay p → d ≤ 2 ^ 64 → x < length (constants_of p)
    → IsNamed (scope_at p d) (referent.Name x) (get_or (constants_of p) x [])
constant_named p d x good l h =
    let text = get_or (constants_of p) x [] in
    let once = once_left (constants_of p) (function_names p) (once_left (constants_of p ++ function_names p) (predicate_names p) good.once) in
    let all = identifiers_left (constants_of p) (function_names p) (identifiers_left (constants_of p ++ function_names p) (predicate_names p) good.identifiers) in
    named_by (scope_at p d) (referent.Name x) text (identifier_at (constants_of p) x all h)
    (symbol_refers p d text (Some (referent.Name x)) good.few l
    (among_left text (constants_of p ++ function_names p) (predicate_names p)
    (among_left text (constants_of p) (function_names p) (element_among (constants_of p) x h)))
    (constant_refers p x once h))

variable_named : (p : Problem) (d i : ℕ) → d ≤ 2 ^ 64 → i < d → IsNamed (scope_at p d) (referent.Name (length (constants_of p) + i)) (variable_text p i)
variable_named p d i l h =
    named_by (scope_at p d) (referent.Name (length (constants_of p) + i)) (variable_text p i) (variable_is p i (omega arith))
    (ap (λ o. bound_or_declared (scope_of_problem p).declared o (declared_from [] (variable_text p i) (scope_of_problem p).declared)) (depth_variable p d i h l)
    ∙ ap (λ n. Some (referent.Name n)) (omega (arith, scope_existentials p, scope_universals p, length-append p.existentials p.universals)))

by_lt : {P : Type 0} (a b : ℕ) → (a < b → P) → (b ≤ a → P) → P
by_lt a b f g = elim (cases_lt a b) [ inl h ↦ f h | inr h ↦ g h ]

less_is : (x n : ℕ) → x < n → nat_lt x n ≡ true
less_is x n h = grind (arith, nat_tests)

less_is_not : (x n : ℕ) → n ≤ x → nat_lt x n ≡ false
less_is_not x n h = grind (arith, nat_tests)

pub name_named : (p : Problem) (d x : ℕ) → CanSay p → d ≤ 2 ^ 64 → x < length (constants_of p) + d → IsNamed (scope_at p d) (referent.Name x) (name_text p x)
name_named p d x good l h =
    let n = length (constants_of p) in
    let choice = λ (c : Bool). cond c (get_or (constants_of p) x []) (variable_text p (x - n)) in
    by_lt x n
    (λ small. subst (IsNamed (scope_at p d) (referent.Name x)) (sym (ap choice (less_is x n small))) (constant_named p d x good l small))
    (λ large.
    let q : n + (x - n) ≡ x = omega arith in
    subst (IsNamed (scope_at p d) (referent.Name x)) (sym (ap choice (less_is_not x n large)))
    (subst (λ z. IsNamed (scope_at p d) (referent.Name z) (variable_text p (x - n))) q (variable_named p d (x - n) l (omega arith))))
