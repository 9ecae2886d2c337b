-- The symbols of a script become what is of their sorts and sound.
use Rattle.std.proofs.Common.{ℕ, zero, suc, ◌≡◌, ◌≤◌, ◌<◌, ◌+◌, ◌||◌, Bool, true, false, List, [], ◌∷◌, ◌++◌, length, map, refl, sym, ap, subst, ◌∙◌, arith, Some, None, nat_eq, if◌then◌else◌, slice_get, cond}
use Rattle.std.proofs.lemmas.Bool.Decides.{nat_tests}
use Rattle.form_typed.specs.Formula as logic
use Rattle.form_typed.specs.Formula.{Expression, expressions}
use Rattle.pri_typing.specs.declared.problem.Symbol.{Symbol}
use Rattle.pri_typing.specs.WellFormed.{HasArity, size}
use Rattle.pri_typing.proofs.Distinct.{text_same}
use Rattle.base_texts.specs.Texts.{is_text}
use Rattle.smt_commands.specs.declared.table.Entry.{Entry}
use Rattle.smt_commands.specs.Symbols.{entry_of, is_known}
use Rattle.smt_terms.specs.declared.operator.Sort.TheVariants as sort
use Rattle.smt_terms.specs.Term.{first_byte}
use Rattle.smt_terms.specs.Evaluation.{Globals, Meant, constant_of, function_of, predicate_of, defined_by, with_names}
use Rattle.smt_terms.specs.Translation.{a_formula, a_term, term_in, Standing, Replacements, Writer, at_depth, said, meant_said, symbol_said}
use Rattle.smt_typing.specs.Sorts.{Sorts, term_sort, variables}
use Rattle.smt_typing.specs.Faults.{faults, kind_faults, term_faults}
use Rattle.smt_reader.specs.Formed.{Sound}
use Rattle.smt_reader.proofs.Sound.{IsSaid, terms_of, terms_everywhere}
use Rattle.smt_reader.proofs.Faultless.{needed_is, none_both}
use Rattle.smt_reader.proofs.Terms.{IsRangedPhrase, Good, AreGood, AreFormed, none, one, SymbolsFormed, formed, said_at}

-- The first symbol of a text after one more.

size_of : (ts : List Expression) → size (expressions ts) ≡ length ts
size_of [] = refl
size_of (t ∷ ts) = ap suc (size_of ts)

length_terms : (n : ℕ) (ss : List Standing) → length (map term_in (at_depth n ss)) ≡ length ss
length_terms n [] = refl
length_terms n (s ∷ ss) = ap suc (length_terms n ss)

missed : (x : List ℕ) (g : List Entry) → is_known x g ≡ false → entry_of x g ≡ None
missed x [] h = refl
missed x (e ∷ g) h = by (is_text x e.text) (missed x g) h
  where
    by : (t : Bool) → (is_known x g ≡ false → entry_of x g ≡ None) → (t || is_known x g) ≡ false → cond t (Some e) (entry_of x g) ≡ None
    by true ih k = absurd (cc)
    by false ih k = ih k

found_last : (x : List ℕ) (g : List Entry) (e y : Entry) → entry_of x (g ++ e ∷ []) ≡ Some y → is_text x e.text ≡ false → entry_of x g ≡ Some y
found_last x [] e y h k = absurd (let bad = sym (ap (λ z. cond z (Some e) None) k) ∙ h in cc)
found_last x (d ∷ g) e y h k = by (is_text x d.text) (found_last x g e y) h
  where
    by : (t : Bool) → (entry_of x (g ++ e ∷ []) ≡ Some y → is_text x e.text ≡ false → entry_of x g ≡ Some y) → cond t (Some d) (entry_of x (g ++ e ∷ [])) ≡ Some y
        → cond t (Some d) (entry_of x g) ≡ Some y
    by true ih p = p
    by false ih p = ih p k

found_here : (x : List ℕ) (g : List Entry) (e y : Entry) → entry_of x (g ++ e ∷ []) ≡ Some y → is_text x e.text ≡ true → entry_of x g ≡ None → e ≡ y
found_here x [] e y h k n = let q = sym (ap (λ z. cond z (Some e) None) k) ∙ h in cc
found_here x (d ∷ g) e y h k n = by (is_text x d.text) (found_here x g e y) h n
  where
    by : (t : Bool) → (entry_of x (g ++ e ∷ []) ≡ Some y → is_text x e.text ≡ true → entry_of x g ≡ None → e ≡ y) → cond t (Some d) (entry_of x (g ++ e ∷ [])) ≡ Some y
        → cond t (Some d) (entry_of x g) ≡ None → e ≡ y
    by true ih p q = absurd (cc)
    by false ih p q = ih p k q

module _ (c : ℕ) (functions predicates : List Symbol) where
  -- a symbol of the table means this, after the symbols before it
  abbrev pub Links : List Entry → Entry → Meant → Type 0
  Links g e (constant_of k) = (e.arity ≡ 0) × (e.sort ≡ sort.Int) × (k < c)
  Links g e (function_of k) = (e.sort ≡ sort.Int) × (1 ≤ e.arity) × HasArity functions k e.arity
  Links g e (predicate_of k) = (e.sort ≡ sort.Bool) × HasArity predicates k e.arity
  Links g e (defined_by xs t) = (e.arity ≡ length xs) × IsRangedPhrase t × (term_faults g (variables xs []) (Some e.sort) t ≡ [])

  -- the symbols of a table mean these, in the other order
  pub data Linked : List Entry → Globals → Type 0 where
    nothing : {all : List Entry} {globals : Globals} → all ≡ [] → globals ≡ [] → Linked all globals
    more : {all : List Entry} {globals : Globals} (g : List Entry) (gs : Globals) (e : Entry) (m : Meant) → Linked g gs → is_known e.text g ≡ false → Links g e m
        → all ≡ g ++ e ∷ [] → globals ≡ (e.text, m) ∷ gs → Linked all globals

  -- the arguments of a definition
  arguments_formed : (m : ℕ) (xs : List (List ℕ)) (ss : List Standing) (b : Sorts) (ns : Replacements) → length ss ≡ length xs → AreGood c functions predicates m sort.Int ss → AreFormed c functions predicates m b ns
      → AreFormed c functions predicates m (variables xs b) (with_names xs ss ns)
  arguments_formed m [] ss b ns e g f = f
  arguments_formed m (x ∷ xs) [] b ns e g f = absurd (omega arith)
  arguments_formed m (x ∷ xs) (s ∷ ss) b ns e g f = arguments_formed m xs ss ((x, Some sort.Int) ∷ b) ((x, s) ∷ ns) (omega arith) g.1 (one x sort.Int s g.0 f)

  same_length : (n k : ℕ) → n ≡ k → nat_eq n k ≡ true
  same_length n k e = grind (arith, nat_tests)

  meant_good : (g : List Entry) (e : Entry) (W : Writer) (mt : Meant) → SymbolsFormed c functions predicates g W → Links g e mt → (m : ℕ) (ss : List Standing) → AreGood c functions predicates m sort.Int ss
      → length ss ≡ e.arity → Good c functions predicates m e.sort (meant_said W mt ss)
  meant_good g e W (constant_of k) s l m ss a h n i = subst (λ z. IsSaid (Sound c functions predicates) n z (a_term (logic.name k))) (sym l.1) (tt, omega (arith, l.2), tt, tt, tt)
  meant_good g e W (function_of k) s l m ss a h n i =
      let ts = map term_in (at_depth (c + n) ss) in
      let many : size (expressions ts) ≡ e.arity = size_of ts ∙ length_terms (c + n) ss ∙ h in
      subst (λ z. IsSaid (Sound c functions predicates) n z (a_term (logic.call k (expressions ts)))) (sym l.0) (
        (tt, tt, (subst (HasArity functions k) (sym many) l.2, omega (arith, l.1, many)), tt, tt),
        terms_everywhere (Sound c functions predicates) n ts (terms_of (Sound c functions predicates) n (at_depth (c + n) ss) (said_at c functions predicates m n sort.Int ss i a)),
      )
  meant_good g e W (predicate_of k) s l m ss a h n i =
      let ts = map term_in (at_depth (c + n) ss) in
      let many : size (expressions ts) ≡ e.arity = size_of ts ∙ length_terms (c + n) ss ∙ h in
      subst (λ z. IsSaid (Sound c functions predicates) n z (a_formula (logic.applies k (expressions ts)))) (sym l.0) (
        (subst (HasArity predicates k) (sym many) l.1, tt, tt),
        terms_everywhere (Sound c functions predicates) n ts (terms_of (Sound c functions predicates) n (at_depth (c + n) ss) (said_at c functions predicates m n sort.Int ss i a)),
      )
  meant_good g e W (defined_by xs t) s l m ss a h n i =
      let fits : length ss ≡ length xs = h ∙ l.0 in
      let none_are = none_both (faults g (variables xs []) t) (kind_faults (Some e.sort) (term_sort g (variables xs []) t) (first_byte t)) l.2 in
      let made = formed c functions predicates g W s t (variables xs []) (with_names xs ss []) m (arguments_formed m xs ss [] [] fits a none) l.1 none_are.0 in
      let is = needed_is e.sort made.kind (term_sort g (variables xs []) t) (first_byte t) made.sorted none_are.1 in
      subst (λ z. IsSaid (Sound c functions predicates) n e.sort (if z then said W (with_names xs ss []) t (c + n) else a_formula (logic.constant false))) (sym (same_length (length ss) (length xs) fits))
      (subst (λ z. IsSaid (Sound c functions predicates) n z (said W (with_names xs ss []) t (c + n))) is (made.good n i))

  symbol_by : (g : List Entry) (gs : Globals) (e y : Entry) (mt : Meant) (x : List ℕ) (m : ℕ) (ss : List Standing) (t : Bool) → SymbolsFormed c functions predicates g (symbol_said gs) → is_known e.text g ≡ false
      → Links g e mt → is_text x e.text ≡ t → entry_of x (g ++ e ∷ []) ≡ Some y → AreGood c functions predicates m sort.Int ss → length ss ≡ y.arity
      → Good c functions predicates m y.sort (λ n. if t then meant_said (symbol_said gs) mt ss n else symbol_said gs x ss n)
  symbol_by g gs e y mt x m ss true s new l is h a k =
      let here = text_same x e.text is in
      let same : e ≡ y = found_here x g e y h is (missed x g (ap (λ z. is_known z g) here ∙ new)) in
      subst (λ z. Good c functions predicates m z.sort (meant_said (symbol_said gs) mt ss)) same (meant_good g e (symbol_said gs) mt s l m ss a (k ∙ ap (λ z. z.arity) (sym same)))
  symbol_by g gs e y mt x m ss false s new l is h a k = s.at x y (found_last x g e y h is) m ss a k

  pub symbols_formed : {g : List Entry} {gs : Globals} → Linked g gs → SymbolsFormed c functions predicates g (symbol_said gs)
  symbols_formed (nothing e f) = record { at = λ x y h m ss a k. absurd (let bad = sym (ap (entry_of x) e) ∙ h in cc) }
  symbols_formed {gs = globals} (more g gs e mt l new links p q) =
      let before = symbols_formed l in
      let here : SymbolsFormed c functions predicates (g ++ e ∷ []) (symbol_said ((e.text, mt) ∷ gs)) =
      record { at = λ x y h m ss a k. symbol_by g gs e y mt x m ss (is_text x e.text) before new links refl h a k } in
      subst (λ z. SymbolsFormed c functions predicates z (symbol_said globals)) (sym p) (subst (λ z. SymbolsFormed c functions predicates (g ++ e ∷ []) (symbol_said z)) (sym q) here)

-- More symbols are declared later.

further : (xs ys : List ℕ) (k n : ℕ) → slice_get xs k ≡ Some n → slice_get (xs ++ ys) k ≡ Some n
further [] ys k n h = absurd (cc)
further (x ∷ xs) ys zero n h = h
further (x ∷ xs) ys (suc k) n h = further xs ys k n h

-- what is declared is declared where more is
pub record IsWithin (c : ℕ) (fs ps : List Symbol) (c' : ℕ) (fs' ps' : List Symbol) : Type 0 where
  pub constants : c ≤ c'
  pub functions : (k n : ℕ) → HasArity fs k n → HasArity fs' k n
  pub predicates : (k n : ℕ) → HasArity ps k n → HasArity ps' k n

pub arity_further : (fs gs : List Symbol) (k n : ℕ) → HasArity fs k n → HasArity (fs ++ gs) k n
arity_further fs gs k n h = subst (λ z. slice_get z k ≡ Some n) (sym (by fs gs)) (further (map (λ y. y.arity) fs) (map (λ y. y.arity) gs) k n h)
  where
    by : (xs ys : List Symbol) → map (λ y. y.arity) (xs ++ ys) ≡ map (λ y. y.arity) xs ++ map (λ y. y.arity) ys
    by [] ys = refl
    by (x ∷ xs) ys = ap (λ z. x.arity ∷ z) (by xs ys)

links_further : (c : ℕ) (fs ps : List Symbol) (c' : ℕ) (fs' ps' : List Symbol) → IsWithin c fs ps c' fs' ps' → (g : List Entry) (e : Entry) (m : Meant) → Links c fs ps g e m → Links c' fs' ps' g e m
links_further c fs ps c' fs' ps' w g e (constant_of k) l = (l.0, l.1, omega (arith, l.2, w.constants))
links_further c fs ps c' fs' ps' w g e (function_of k) l = (l.0, l.1, w.functions k e.arity l.2)
links_further c fs ps c' fs' ps' w g e (predicate_of k) l = (l.0, w.predicates k e.arity l.1)
links_further c fs ps c' fs' ps' w g e (defined_by xs t) l = l

pub linked_further : (c : ℕ) (fs ps : List Symbol) (c' : ℕ) (fs' ps' : List Symbol) → IsWithin c fs ps c' fs' ps' → {g : List Entry} {gs : Globals} → Linked c fs ps g gs → Linked c' fs' ps' g gs
linked_further c fs ps c' fs' ps' w (nothing p q) = nothing p q
linked_further c fs ps c' fs' ps' w (more g gs e m l new links p q) = more g gs e m (linked_further c fs ps c' fs' ps' w l) new (links_further c fs ps c' fs' ps' w g e m links) p q
