-- What the commands of each question of a script without refusal come to.
use Rattle.std.proofs.Common.{ℕ, zero, suc, ◌≡◌, ◌≤◌, ◌<◌, ◌+◌, true, false, not, List, [], ◌∷◌, ◌++◌, length, map, refl, sym, ap, subst, ◌∙◌, arith, Option, Some, None, add-zero, zero-add, cond, append_assoc, append-nil}
use Rattle.std.specs.List.{All, AllByRecursion, flat_map}
use Rattle.std.proofs.lemmas.List.Elements.{All-cons, All-head, All-tail}
use Rattle.std.proofs.lemmas.List.Sums.{sum_by-append}
use Rattle.pri_typing.specs.declared.problem.Symbol.{Symbol}
use Rattle.pri_typing.specs.Everywhere.{Everywhere}
use Rattle.pri_typing.specs.WellFormed.{HasArity}
use Rattle.smt_lists.specs.Expressions.{Expr, place_of}
use Rattle.smt_commands.specs.declared.refusal.ScriptRefusal.{ScriptRefusal}
use Rattle.smt_commands.specs.declared.table.Entry.{Entry}
use Rattle.smt_commands.specs.Commands as form
use Rattle.smt_commands.specs.Commands.{CommandForm, Symbol as Named}
use Rattle.smt_commands.specs.Levels.{Levels, left_from, level_fewer, level_more, lowest, popped, pushed}
use Rattle.smt_commands.specs.Symbols.{declared_number, entry, is_known, or_int, sort_of, texts_of}
use Rattle.smt_commands.specs.Symbols as tables
use Rattle.smt_commands.specs.Faults as faults
use Rattle.smt_commands.specs.Faults.{argument_faults, behind, body_faults, claim_faults, command_faults, declaration_faults, definition_faults, name_faults, or_later, refusal_from, refusal_of, sort_fault, sort_faults, unless_exit, use_faults}
use Rattle.smt_commands.specs.Least.{least}
use Rattle.smt_commands.proofs.Least.{none_found}
use Rattle.smt_commands.proofs.Tables.{texts-more}
use Rattle.smt_commands.proofs.Fitting.{declarable, definable}
use Rattle.smt_terms.specs.declared.operator.Sort.{Sort}
use Rattle.smt_terms.specs.declared.operator.Sort.TheVariants as sort
use Rattle.smt_terms.specs.Term.{PlacedTerm, first_byte}
use Rattle.smt_terms.specs.Evaluation.{constant_of, function_of, predicate_of, defined_by}
use Rattle.smt_terms.specs.Translation.{asserted, said, symbol_said}
use Rattle.smt_terms.specs.Scripts as scripts
use Rattle.smt_terms.specs.Scripts.{Claim, Command, Declared, State, after_declaration, claims_said, start}
use Rattle.smt_typing.specs.Sorts.{term_sort, variables}
use Rattle.smt_typing.specs.Faults as typing
use Rattle.smt_typing.specs.Faults.{kind_faults, names_in, term_faults}
use Rattle.smt_typing.specs.Reading.{phrase_of}
use Rattle.smt_reader.specs.Commands.{acts_of, all_after, questions, questions_from, script_terms, state_of, with_form}
use Rattle.smt_reader.specs.Following.{AreNew, IsNewSymbol, texts_behind, texts_behind_all}
use Rattle.smt_reader.specs.Formed.{IsFormedCheck, Sound, symbol, symbols}
use Rattle.smt_shorthand.specs.Ranged.{IsRangedExpr}
use Rattle.smt_reader.proofs.Sound.{AllSound, IsSaid, all_everywhere, formula_of}
use Rattle.smt_reader.proofs.Faultless.{needed_is, none_both}
use Rattle.smt_reader.proofs.Terms.{IsRangedPhrase, formed, none}
use Rattle.smt_reader.proofs.Symbols.{IsWithin, Linked, arity_further, linked_further, more, nothing, symbols_formed}
use Rattle.smt_reader.proofs.Ranges.{IsRangedForm, form_ranged, phrase_ranged}

-- an assertion without faults, over the symbols before it
record ClaimFormed (c : ℕ) (fs ps : List Symbol) (claim : Claim) : Type 0 where
  table : List Entry
  linked : Linked c fs ps table claim.globals
  ranged : IsRangedPhrase claim.term
  none : term_faults table [] (Some sort.Bool) claim.term ≡ []

-- what commands came to, after the symbols of a table
record StateFormed (g : List Entry) (s : State) : Type 0 where
  linked : Linked (length s.constants) (symbols s.functions) (symbols s.predicates) g s.globals
  counted : declared_number g ≡ length s.constants + length s.functions + length s.predicates
  few : declared_number g ≤ 1000
  claims : AllByRecursion (ClaimFormed (length s.constants) (symbols s.functions) (symbols s.predicates)) s.claims

claim_further : (c : ℕ) (fs ps : List Symbol) (c' : ℕ) (fs' ps' : List Symbol) → IsWithin c fs ps c' fs' ps' → (claim : Claim) → ClaimFormed c fs ps claim → ClaimFormed c' fs' ps' claim
claim_further c fs ps c' fs' ps' w claim h = record { table = h.table; linked = linked_further c fs ps c' fs' ps' w h.linked; ranged = h.ranged; none = h.none }

claims_further : (c : ℕ) (fs ps : List Symbol) (c' : ℕ) (fs' ps' : List Symbol) → IsWithin c fs ps c' fs' ps' → (claims : List Claim) → AllByRecursion (ClaimFormed c fs ps) claims → AllByRecursion (ClaimFormed c' fs' ps') claims
claims_further c fs ps c' fs' ps' w [] h = tt
claims_further c fs ps c' fs' ps' w (x ∷ xs) h = (claim_further c fs ps c' fs' ps' w x h.0, claims_further c fs ps c' fs' ps' w xs h.1)

one_claim_more : (c : ℕ) (fs ps : List Symbol) (claims : List Claim) (claim : Claim) → AllByRecursion (ClaimFormed c fs ps) claims → ClaimFormed c fs ps claim → AllByRecursion (ClaimFormed c fs ps) (claims ++ claim ∷ [])
one_claim_more c fs ps [] claim h k = (k, tt)
one_claim_more c fs ps (x ∷ xs) claim h k = (h.0, one_claim_more c fs ps xs claim h.1 k)

-- One symbol more.

counted_more : (g : List Entry) (e : Entry) → declared_number (g ++ e ∷ []) ≡ declared_number g + cond (not e.defined) 1 0
counted_more g e = sum_by-append (λ x. cond (not x.defined) 1 0) g (e ∷ []) ∙ ap (λ z. declared_number g + z) (zero-add (cond (not e.defined) 1 0))

symbols_more : (fs : List Declared) (f : Declared) → symbols (fs ++ f ∷ []) ≡ symbols fs ++ symbol f ∷ []
symbols_more [] f = refl
symbols_more (x ∷ fs) f = ap (λ z. symbol x ∷ z) (symbols_more fs f)

last_arity : (fs : List Symbol) (f : Symbol) → HasArity (fs ++ f ∷ []) (length fs) f.arity
last_arity [] f = refl
last_arity (x ∷ fs) f = last_arity fs f

length_symbols : (fs : List Declared) → length (symbols fs) ≡ length fs
length_symbols [] = refl
length_symbols (x ∷ fs) = ap suc (length_symbols fs)

new_arity : (fs : List Declared) (f : Declared) → HasArity (symbols (fs ++ f ∷ [])) (length fs) f.arity
new_arity fs f = subst (λ z. HasArity z (length fs) f.arity) (sym (symbols_more fs f)) (subst (λ z. HasArity (symbols fs ++ symbol f ∷ []) z f.arity) (length_symbols fs) (last_arity (symbols fs) (symbol f)))

arity_more : (fs : List Declared) (f : Declared) (k n : ℕ) → HasArity (symbols fs) k n → HasArity (symbols (fs ++ f ∷ [])) k n
arity_more fs f k n h = subst (λ z. HasArity z k n) (sym (symbols_more fs f)) (arity_further (symbols fs) (symbol f ∷ []) k n h)

one_longer : {A : Type 0} (xs : List A) (x : A) → length (xs ++ x ∷ []) ≡ suc (length xs)
one_longer [] x = refl
one_longer (y ∷ xs) x = ap suc (one_longer xs x)

abbrev declared_entry : List ℕ → ℕ → Sort → Entry
declared_entry x n k = record { text = x; arity = n; sort = k; defined = false }

constant_formed : (g : List Entry) (s : State) (x : List ℕ) → StateFormed g s → is_known x g ≡ false → declared_number g < 1000 → StateFormed (g ++ declared_entry x 0 sort.Int ∷ []) (after_declaration s x 0 sort.Int)
constant_formed g s x f new room =
    let longer = one_longer s.constants x in
    let within : IsWithin (length s.constants) (symbols s.functions) (symbols s.predicates) (length (s.constants ++ x ∷ [])) (symbols s.functions) (symbols s.predicates) =
    record { constants = omega (arith, longer); functions = λ k n h. h; predicates = λ k n h. h } in
    let counted = counted_more g (declared_entry x 0 sort.Int) in
    record {
      linked = more g s.globals (declared_entry x 0 sort.Int) (constant_of (length s.constants)) (linked_further _ _ _ _ _ _ within f.linked) new (refl, refl, omega (arith, longer)) refl refl;
      counted = omega (arith, counted, f.counted, longer);
      few = omega (arith, counted, room);
      claims = claims_further _ _ _ _ _ _ within s.claims f.claims;
    }

function_formed : (g : List Entry) (s : State) (x : List ℕ) (n : ℕ) → StateFormed g s → is_known x g ≡ false → declared_number g < 1000
    → StateFormed (g ++ declared_entry x (suc n) sort.Int ∷ []) (after_declaration s x (suc n) sort.Int)
function_formed g s x n f new room =
    let d : Declared = record { text = x; arity = suc n } in
    let longer = one_longer s.functions d in
    let within : IsWithin (length s.constants) (symbols s.functions) (symbols s.predicates) (length s.constants) (symbols (s.functions ++ d ∷ [])) (symbols s.predicates) =
    record { constants = omega arith; functions = arity_more s.functions d; predicates = λ k i h. h } in
    let counted = counted_more g (declared_entry x (suc n) sort.Int) in
    record {
      linked = more g s.globals (declared_entry x (suc n) sort.Int) (function_of (length s.functions)) (linked_further _ _ _ _ _ _ within f.linked) new (refl, omega arith, new_arity s.functions d) refl refl;
      counted = omega (arith, counted, f.counted, longer);
      few = omega (arith, counted, room);
      claims = claims_further _ _ _ _ _ _ within s.claims f.claims;
    }

predicate_formed : (g : List Entry) (s : State) (x : List ℕ) (n : ℕ) → StateFormed g s → is_known x g ≡ false → declared_number g < 1000
    → StateFormed (g ++ declared_entry x n sort.Bool ∷ []) (record s { globals = (x, predicate_of (length s.predicates)) ∷ s.globals; predicates = s.predicates ++ (record { text = x; arity = n }) ∷ [] })
predicate_formed g s x n f new room =
    let d : Declared = record { text = x; arity = n } in
    let longer = one_longer s.predicates d in
    let within : IsWithin (length s.constants) (symbols s.functions) (symbols s.predicates) (length s.constants) (symbols s.functions) (symbols (s.predicates ++ d ∷ [])) =
    record { constants = omega arith; functions = λ k i h. h; predicates = arity_more s.predicates d } in
    let counted = counted_more g (declared_entry x n sort.Bool) in
    record {
      linked = more g s.globals (declared_entry x n sort.Bool) (predicate_of (length s.predicates)) (linked_further _ _ _ _ _ _ within f.linked) new (refl, new_arity s.predicates d) refl refl;
      counted = omega (arith, counted, f.counted, longer);
      few = omega (arith, counted, room);
      claims = claims_further _ _ _ _ _ _ within s.claims f.claims;
    }

declared_formed : (g : List Entry) (s : State) (x : List ℕ) (n : ℕ) (k : Sort) → StateFormed g s → is_known x g ≡ false → declared_number g < 1000 → StateFormed (g ++ declared_entry x n k ∷ []) (after_declaration s x n k)
declared_formed g s x zero sort.Int f new room = constant_formed g s x f new room
declared_formed g s x (suc n) sort.Int f new room = function_formed g s x n f new room
declared_formed g s x zero sort.Bool f new room = predicate_formed g s x 0 f new room
declared_formed g s x (suc n) sort.Bool f new room = predicate_formed g s x (suc n) f new room

defined_formed : (g : List Entry) (s : State) (x : List ℕ) (n : ℕ) (k : Sort) (xs : List (List ℕ)) (t : PlacedTerm) → StateFormed g s → is_known x g ≡ false → n ≡ length xs → IsRangedPhrase t
    → term_faults g (variables xs []) (Some k) t ≡ []
    → StateFormed (g ++ (record { text = x; arity = n; sort = k; defined = true }) ∷ []) (record s { globals = (x, defined_by xs t) ∷ s.globals })
defined_formed g s x n k xs t f new many ranged fine =
    let e : Entry = record { text = x; arity = n; sort = k; defined = true } in
    let counted = counted_more g e in
    record {
      linked = more g s.globals e (defined_by xs t) f.linked new (many, ranged, fine) refl refl;
      counted = omega (arith, counted, f.counted);
      few = omega (arith, counted, f.few);
      claims = f.claims;
    }

-- The formula of a check.

claim_sound : (c : ℕ) (fs ps : List Symbol) (claim : Claim) → ClaimFormed c fs ps claim → Everywhere (Sound c fs ps) 0 (asserted claim.globals c claim.term)
claim_sound c fs ps claim f =
    let both = none_both (typing.faults f.table [] claim.term) (kind_faults (Some sort.Bool) (term_sort f.table [] claim.term) (first_byte claim.term)) f.none in
    let made = formed c fs ps f.table (symbol_said claim.globals) (symbols_formed c fs ps f.linked) claim.term [] [] 0 none f.ranged both.0 in
    let is = needed_is sort.Bool made.kind (term_sort f.table [] claim.term) (first_byte claim.term) made.sorted both.1 in
    let good = subst (λ z. IsSaid (Sound c fs ps) 0 z (said (symbol_said claim.globals) [] claim.term (c + 0))) is (made.good 0 (omega arith)) in
    formula_of (Sound c fs ps) 0 (said (symbol_said claim.globals) [] claim.term c) (subst (λ z. IsSaid (Sound c fs ps) 0 sort.Bool (said (symbol_said claim.globals) [] claim.term z)) (add-zero c) good)

claims_sound : (c : ℕ) (fs ps : List Symbol) (claims : List Claim) → AllByRecursion (ClaimFormed c fs ps) claims → AllSound (Sound c fs ps) 0 (map (λ x. asserted x.globals c x.term) claims)
claims_sound c fs ps [] h = tt
claims_sound c fs ps (x ∷ xs) h = (claim_sound c fs ps x h.0, claims_sound c fs ps xs h.1)

check_formed : (g : List Entry) (s : State) → StateFormed g s → IsFormedCheck s
check_formed g s f =
    let Q = Sound (length s.constants) (symbols s.functions) (symbols s.predicates) in
    record {
      few = omega (arith, f.counted, f.few);
      sound = ((tt, tt, tt), ((tt, tt, tt), all_everywhere Q 0 (claims_said s) (claims_sound (length s.constants) (symbols s.functions) (symbols s.predicates) s.claims f.claims)));
    }

-- Commands.

sorted_by : (o : Option Sort) (at : ℕ) → sort_fault at true o ≡ [] → o ≡ Some (or_int o)
sorted_by (Some sort.Int) at e = refl
sorted_by (Some sort.Bool) at e = refl
sorted_by None at e = absurd (cc)

here_none : (a later : Option ScriptRefusal) → or_later a later ≡ None → a ≡ None
here_none None later e = refl
here_none (Some x) later e = absurd (cc)

later_none : (a later : Option ScriptRefusal) → or_later a later ≡ None → later ≡ None
later_none None later e = e
later_none (Some x) later e = absurd (cc)

-- One command more in force.

after_more : (s : State) (cs : List Command) (c : Command) → all_after s (cs ++ c ∷ []) ≡ scripts.after (all_after s cs) c
after_more s [] c = refl
after_more s (d ∷ cs) c = after_more (scripts.after s d) cs c

texts_more : (texts : List (List ℕ)) (cs : List Command) (c : Command) → texts_behind_all texts (cs ++ c ∷ []) ≡ texts_behind (texts_behind_all texts cs) c
texts_more texts [] c = refl
texts_more texts (d ∷ cs) c = texts_more (texts_behind texts d) cs c

new_more : (texts : List (List ℕ)) (cs : List Command) (c : Command) → AreNew texts cs → IsNewSymbol (texts_behind_all texts cs) c → AreNew texts (cs ++ c ∷ [])
new_more texts [] c h k = (k, tt)
new_more texts (d ∷ cs) c h k = (h.0, new_more (texts_behind texts d) cs c h.1 k)

-- what commands that are in force come to, over the symbols in force
record IsFit (g : List Entry) (cs : List Command) : Type 0 where
  formed : StateFormed g (state_of cs)
  texts : texts_behind_all [] cs ≡ texts_of g
  new : AreNew [] cs

fit_more : (g h : List Entry) (cs : List Command) (c : Command) → IsFit g cs → StateFormed h (scripts.after (state_of cs) c) → texts_behind (texts_of g) c ≡ texts_of h → IsNewSymbol (texts_of g) c → IsFit h (cs ++ c ∷ [])
fit_more g h cs c f formed texts new = record {
  formed = subst (StateFormed h) (sym (after_more start cs c)) formed;
  texts = texts_more [] cs c ∙ ap (λ z. texts_behind z c) f.texts ∙ texts;
  new = new_more [] cs c f.new (subst (λ z. IsNewSymbol z c) (sym f.texts) new);
}

-- the same at each level
abbrev AllFit : List (List Entry) → List (List Command) → Type 0
AllFit [] [] = Unit {0}
AllFit [] (cs ∷ ls) = ⊥
AllFit (g ∷ gs) [] = ⊥
AllFit (g ∷ gs) (cs ∷ ls) = IsFit g cs × AllFit gs ls

record AreLevelsFit (g : Levels (List Entry)) (l : Levels (List Command)) : Type 0 where
  now : IsFit g.now l.now
  below : AllFit g.below l.below

pushed_fit : (n : ℕ) (g : Levels (List Entry)) (l : Levels (List Command)) → AreLevelsFit g l → AreLevelsFit (pushed n g) (pushed n l)
pushed_fit zero g l h = h
pushed_fit (suc n) g l h = pushed_fit n (level_more g) (level_more l) (record { now = h.now; below = (h.now, h.below) })

fewer_fit : (a : List Entry) (gs : List (List Entry)) (b : List Command) (bs : List (List Command)) → IsFit a b → AllFit gs bs → AreLevelsFit (left_from a gs) (left_from b bs)
fewer_fit a [] b [] h k = record { now = h; below = tt }
fewer_fit a [] b (y ∷ bs) h k = absurd k
fewer_fit a (x ∷ gs) b [] h k = absurd k
fewer_fit a (x ∷ gs) b (y ∷ bs) h k = record { now = k.0; below = k.1 }

popped_fit : (n : ℕ) (g : Levels (List Entry)) (l : Levels (List Command)) → AreLevelsFit g l → AreLevelsFit (popped n g) (popped n l)
popped_fit zero g l h = h
popped_fit (suc n) g l h = popped_fit n (level_fewer g) (level_fewer l) (fewer_fit g.now g.below l.now l.below h.now h.below)

start_fit : IsFit [] []
start_fit = record { formed = record { linked = nothing refl refl; counted = refl; few = omega arith; claims = tt }; texts = refl; new = tt }

-- an assertion more
claim_fit : (g : List Entry) (cs : List Command) (t : Expr) → IsFit g cs → IsRangedExpr t → typing.script_faults g [] (Some sort.Bool) t ≡ [] → IsFit g (cs ++ scripts.claim (phrase_of t) ∷ [])
claim_fit g cs t f ranged fine =
    let s : State = state_of cs in
    let one : Claim = record { globals = s.globals; term = phrase_of t } in
    fit_more g g cs (scripts.claim (phrase_of t)) f (record {
      linked = f.formed.linked;
      counted = f.formed.counted;
      few = f.formed.few;
      claims = one_claim_more _ _ _ s.claims one f.formed.claims (record { table = g; linked = f.formed.linked; ranged = phrase_ranged t ranged; none = fine });
    }) refl tt

claims_fit : (g : List Entry) (cs : List Command) (ts : List Expr) → IsFit g cs → AllByRecursion IsRangedExpr ts → claim_faults script_terms g ts ≡ [] → IsFit g (cs ++ map scripts.claim (map phrase_of ts))
claims_fit g cs [] f r e = subst (IsFit g) (sym (append-nil cs)) f
claims_fit g cs (t ∷ ts) f r e =
    let both = none_both (typing.script_faults g [] (Some sort.Bool) t) (claim_faults script_terms g ts) e in
    subst (IsFit g) (append_assoc cs (scripts.claim (phrase_of t) ∷ []) (map scripts.claim (map phrase_of ts))) (claims_fit g (cs ++ scripts.claim (phrase_of t) ∷ []) ts (claim_fit g cs t f r.0 both.0) r.1 both.1)

declare_fit : (g : List Entry) (cs : List Command) (x : Named) (sorts : List Expr) (st : Expr) → IsFit g cs → least (declaration_faults g x sorts st) ≡ None
    → IsFit (tables.after g (form.declare x sorts st)) (cs ++ scripts.declare x.text (length sorts) (or_int (sort_of st)) ∷ [])
declare_fit g cs x sorts st f e =
    let fits = declarable g x sorts st (sym e) in
    fit_more g _ cs _ f (declared_formed g (state_of cs) x.text (length sorts) (or_int (sort_of st)) f.formed fits.0 fits.1) (sym (texts-more g (entry x sorts st false))) fits.0

define_fit : (g : List Entry) (cs : List Command) (at : ℕ) (x : Named) (arguments : List Expr) (st t : Expr) → IsFit g cs → IsRangedExpr t → length arguments ≡ length (names_in arguments)
    → least (definition_faults g x arguments st ++ body_faults script_terms g at x.text arguments (sort_of st) t) ≡ None
    → IsFit (tables.after g (form.define x arguments st t)) (cs ++ scripts.define x.text (names_in arguments) (or_int (sort_of st)) (phrase_of t) ∷ [])
define_fit g cs at x arguments st t f ranged many fits =
    let own = definition_faults g x arguments st in
    let body = body_faults script_terms g at x.text arguments (sort_of st) t in
    let both = none_both own body (none_found (own ++ body) fits) in
    let new = definable body g x arguments st (sym fits) in
    let sorted = sorted_by (sort_of st) (place_of st) (none_both (name_faults g x ++ flat_map argument_faults arguments) (sort_faults true st) both.0).1 in
    let fine = (none_both (use_faults script_terms at x.text arguments t) (typing.script_faults g arguments (sort_of st) t) both.1).1 in
    fit_more g _ cs _ f (defined_formed g (state_of cs) x.text (length arguments) (or_int (sort_of st)) (names_in arguments) (phrase_of t) f.formed new many (phrase_ranged t ranged)
    (subst (λ z. term_faults g (variables (names_in arguments) []) z (phrase_of t) ≡ []) sorted fine)) (sym (texts-more g (entry x arguments st true))) new

-- The questions of the commands after.

-- there are symbols over which the commands of a question are so
record IsFitQuestion (cs : List Command) : Type 0 where
  over : List Entry
  fit : IsFit over cs

abbrev Goes : List Expr → Type 0
Goes es = (g : Levels (List Entry)) (l : Levels (List Command)) → AreLevelsFit g l → refusal_from script_terms g es ≡ None → All IsFitQuestion (questions_from l (acts_of es))

no_questions : All IsFitQuestion []
no_questions i d h = absurd (omega (arith, h))

command_on : (es : List Expr) → Goes es → (g : Levels (List Entry)) (l : Levels (List Command)) (at : ℕ) (f : Option CommandForm) → AreLevelsFit g l → IsRangedForm f
    → least (command_faults script_terms g at f) ≡ None → unless_exit f (refusal_from script_terms (behind g f) es) ≡ None → All IsFitQuestion (questions_from l (with_form f (acts_of es)))
command_on es go g l at None h r e later = absurd (cc)
command_on es go g l at (Some form.skip) h r e later = go g l h later
command_on es go g l at (Some (form.say x)) h r e later = go g l h later
command_on es go g l at (Some (form.declare x sorts st)) h r e later = go _ _ (record { now = declare_fit g.now l.now x sorts st h.now e; below = h.below }) later
command_on es go g l at (Some (form.define x arguments st t)) h r e later = go _ _ (record { now = define_fit g.now l.now at x arguments st t h.now r.0 r.1 e; below = h.below }) later
command_on es go g l at (Some (form.assert t)) h r e later =
    go g _ (record { now = claim_fit g.now l.now t h.now r (none_found (typing.script_faults g.now [] (Some sort.Bool) t) e); below = h.below }) later
command_on es go g l at (Some (form.check_sat ts)) h r e later =
    All-cons IsFitQuestion (l.now ++ map scripts.claim (map phrase_of ts)) (questions_from l (acts_of es))
    (record { over = g.now; fit = claims_fit g.now l.now ts h.now r (none_found (claim_faults script_terms g.now ts) e) }) (go g l h later)
command_on es go g l at (Some (form.push n)) h r e later = go _ _ (pushed_fit n g l h) later
command_on es go g l at (Some (form.pop n)) h r e later = go _ _ (popped_fit n g l h) later
command_on es go g l at (Some form.reset) h r e later = go _ _ (record { now = start_fit; below = tt }) later
command_on es go g l at (Some form.exit) h r e later = no_questions

questions_on : (es : List Expr) → AllByRecursion IsRangedExpr es → Goes es
questions_on [] r g l h e = no_questions
questions_on (x ∷ es) r g l h e =
    let own = least (command_faults script_terms g (place_of x) (faults.form x)) in
    let later = unless_exit (faults.form x) (refusal_from script_terms (behind g (faults.form x)) es) in
    command_on es (questions_on es r.1) g l (place_of x) (faults.form x) h (form_ranged x r.0) (here_none own later e) (later_none own later e)

questions_fit : (es : List Expr) → AllByRecursion IsRangedExpr es → refusal_of script_terms es ≡ None → All IsFitQuestion (questions (acts_of es))
questions_fit es r e = questions_on es r (lowest []) (lowest []) (record { now = start_fit; below = tt }) e

all_formed : (qs : List (List Command)) → All IsFitQuestion qs → All IsFormedCheck (map state_of qs)
all_formed [] h = λ i d k. absurd (omega (arith, k))
all_formed (cs ∷ qs) h =
    let one = All-head IsFitQuestion cs qs h in
    All-cons IsFormedCheck (state_of cs) (map state_of qs) (check_formed one.over (state_of cs) one.fit.formed) (all_formed qs (All-tail IsFitQuestion cs qs h))

all_new : (qs : List (List Command)) → All IsFitQuestion qs → All (AreNew []) qs
all_new [] h = λ i d k. absurd (omega (arith, k))
all_new (cs ∷ qs) h = All-cons (AreNew []) cs qs (All-head IsFitQuestion cs qs h).fit.new (all_new qs (All-tail IsFitQuestion cs qs h))

pub checks_formed : (es : List Expr) → AllByRecursion IsRangedExpr es → refusal_of script_terms es ≡ None → All IsFormedCheck (map state_of (questions (acts_of es)))
checks_formed es r e = all_formed (questions (acts_of es)) (questions_fit es r e)

-- no symbol of a question is declared or defined twice
pub questions_new : (es : List Expr) → AllByRecursion IsRangedExpr es → refusal_of script_terms es ≡ None → All (AreNew []) (questions (acts_of es))
questions_new es r e = all_new (questions (acts_of es)) (questions_fit es r e)
