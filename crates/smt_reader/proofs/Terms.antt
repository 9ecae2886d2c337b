-- A term without faults has a sort, and what it becomes is of that sort and sound.
use Rattle.std.proofs.Common.{ℕ, suc, ◌≡◌, ◌≤◌, ◌+◌, ◌&&◌, Bool, true, false, List, [], ◌∷◌, ◌++◌, length, map, refl, sym, ap, subst, ◌∙◌, arith, Option, Some, None, nat_eq, nat_le, nat_lt, if◌then◌else◌}
use Rattle.linear_term.specs.Range.{InRange}
use Rattle.form_typed.specs.Formula.{Formula}
use Rattle.pri_typing.specs.declared.problem.Symbol.{Symbol}
use Rattle.pri_typing.specs.Everywhere.{Property, Everywhere}
use Rattle.pri_typing.specs.WellFormed.{is_numeric}
use Rattle.base_texts.specs.Texts.{is_text}
use Rattle.smt_commands.specs.declared.refusal.ScriptRefusal.{ScriptRefusal}
use Rattle.smt_commands.specs.declared.table.Entry.{Entry}
use Rattle.smt_commands.specs.Symbols.{entry_of, is_unlisted}
use Rattle.smt_terms.specs.declared.operator.Sort.{Sort}
use Rattle.smt_terms.specs.declared.operator.Sort.TheVariants as sort
use Rattle.smt_terms.specs.declared.operator.Operator.{Operator}
use Rattle.smt_terms.specs.declared.operator.Operator.TheVariants as op
use Rattle.smt_terms.specs.declared.term.Name.{Name}
use Rattle.smt_terms.specs.Term.{PlacedTerm, PlacedTerms, Bindings, number, large, used, let_in, quantified, annotated, ill, no_phrase, and_phrase, no_binding, and_binding, count, first_byte}
use Rattle.smt_terms.specs.Operators.{found, operator_of}
use Rattle.smt_terms.specs.Evaluation.{names_of, texts_of, with_names}
use Rattle.smt_terms.specs.Translation.{Said, formula_in, term_in, operated, Standing, Replacements, Writer, at_depth, use_said, variable, bound_said, said, all_said, bindings_said}
use Rattle.smt_typing.specs.declared.operators.Need.{Need}
use Rattle.smt_typing.specs.declared.operators.Need.TheVariants as need
use Rattle.smt_typing.specs.Sorts.{Sorts, bound_sorts, first_of, operator_sort, second_of, sorts_in, term_sort, use_sort, variables}
use Rattle.smt_typing.specs.Faults.{alike_faults, are_numerals, arity_faults, bound_faults, branch_faults, each_faults, faults, is_numeral, is_sign, kind_faults, others, product_faults, takes, use_faults, use_wants, variable_faults, wants}
use Rattle.smt_typing.specs.Judging.{argument_faults}
use Rattle.smt_reader.specs.Formed.{Sound}
use Rattle.smt_reader.proofs.Faultless.{AreNumeric, IsSign, at_least, at_most, count_said, depth_count, exactly, few_by, fits_by, left_true, minus, needed_is, none_both, numeric_sign, plus, right_true, sign_is, times, unknown_by}
use Rattle.smt_reader.proofs.Sound.{IsSaid, AreSaid, formula_of, plain, plain_by, truth_said, not_said, and_said, or_said, xor_said, implies_said, equals_said, distinct_said, compare_said, choose_said, plus_said, minus_said, times_said, abs_said}

-- the numerals of a term are in the range
abbrev mutual
  pub IsRangedPhrase : PlacedTerm → Type 0
  IsRangedPhrase (number at n) = InRange n
  IsRangedPhrase (large at) = Unit {0}
  IsRangedPhrase (used at x ts) = AreRangedPhrases ts
  IsRangedPhrase (let_in at bs t) = AreRangedBindings bs × IsRangedPhrase t
  IsRangedPhrase (quantified at all xs t) = IsRangedPhrase t
  IsRangedPhrase (annotated at t) = IsRangedPhrase t
  IsRangedPhrase (ill at) = Unit {0}

  pub AreRangedPhrases : PlacedTerms → Type 0
  AreRangedPhrases no_phrase = Unit {0}
  AreRangedPhrases (and_phrase t ts) = IsRangedPhrase t × AreRangedPhrases ts

  pub AreRangedBindings : Bindings → Type 0
  AreRangedBindings no_binding = Unit {0}
  AreRangedBindings (and_binding x t bs) = IsRangedPhrase t × AreRangedBindings bs

module _ (c : ℕ) (functions predicates : List Symbol) where
  abbrev Q : Property
  Q = Sound c functions predicates

  -- what replaces a name, or what a term becomes, is so wherever at least m binders are around it
  abbrev pub Good : ℕ → Sort → Standing → Type 0
  Good m k s = (n : ℕ) → m ≤ n → IsSaid Q n k (s (c + n))

  abbrev pub AreGood : ℕ → Sort → List Standing → Type 0
  AreGood m k [] = Unit {0}
  AreGood m k (s ∷ ss) = Good m k s × AreGood m k ss

  -- bound names of these sorts, with what replaces them
  pub data AreFormed (m : ℕ) : Sorts → Replacements → Type 0 where
    none : AreFormed m [] []
    one : {b : Sorts} {ns : Replacements} (x : List ℕ) (k : Sort) (s : Standing) → Good m k s → AreFormed m b ns → AreFormed m ((x, Some k) ∷ b) ((x, s) ∷ ns)

  pub deeper : {m : ℕ} {b : Sorts} {ns : Replacements} (n : ℕ) → m ≤ n → AreFormed m b ns → AreFormed n b ns
  deeper n h none = none
  deeper n h (one x k s g f) = one x k s (λ i j. g i (omega arith)) (deeper n h f)

  good_deeper : (m n : ℕ) (k : Sort) (s : Standing) → m ≤ n → Good m k s → Good n k s
  good_deeper m n k s h g i j = g i (omega arith)

  -- what replaces a bound name of a sort
  abbrev FoundFormed : ℕ → Option (Option Sort) → Option Standing → Type 0
  FoundFormed m None None = Unit {0}
  FoundFormed m (Some (Some k)) (Some s) = Good m k s
  FoundFormed m _ _ = ⊥

  found_by : (m : ℕ) (t : Bool) (k : Sort) (s : Standing) (o : Option (Option Sort)) (p : Option Standing) → Good m k s → FoundFormed m o p
      → FoundFormed m (if t then Some (Some k) else o) (if t then Some s else p)
  found_by m true k s o p g f = g
  found_by m false k s o p g f = f

  pub found_formed : {m : ℕ} {b : Sorts} {ns : Replacements} (x : List ℕ) → AreFormed m b ns → FoundFormed m (found x b) (found x ns)
  found_formed x none = tt
  found_formed {m = m} x (one {b = b} {ns = ns} y k s g f) = found_by m (is_text x y) k s (found x b) (found x ns) g (found_formed x f)

  -- at n binders
  pub said_at : (m n : ℕ) (k : Sort) (ss : List Standing) → m ≤ n → AreGood m k ss → AreSaid Q n k (at_depth (c + n) ss)
  said_at m n k [] h g = tt
  said_at m n k (s ∷ ss) h g = (g.0 n h, said_at m n k ss h g.1)

  -- symbols of a script are so, at arguments of the sort Int
  pub record SymbolsFormed (g : List Entry) (W : Writer) : Type 0 where
    pub at : (x : List ℕ) (e : Entry) → entry_of x g ≡ Some e → (m : ℕ) (ss : List Standing) → AreGood m sort.Int ss → length ss ≡ e.arity → Good m e.sort (W x ss)

  -- what a term becomes
  pub record Formed (g : List Entry) (b : Sorts) (W : Writer) (ns : Replacements) (m : ℕ) (t : PlacedTerm) : Type 0 where
    pub kind : Sort
    pub sorted : term_sort g b t ≡ Some kind
    pub good : Good m kind (said W ns t)

  -- what arguments of one sort become
  record AlikeFormed (g : List Entry) (b : Sorts) (W : Writer) (ns : Replacements) (m : ℕ) (ts : PlacedTerms) : Type 0 where
    kind : Sort
    first : first_of (sorts_in g b ts) ≡ Some kind
    good : AreGood m kind (all_said W ns ts)

  -- what a condition and branches of one sort become
  abbrev AreBranches : ℕ → Sort → List Standing → Type 0
  AreBranches m k [] = ⊥
  AreBranches m k (s ∷ ss) = Good m sort.Bool s × AreGood m k ss

  record BranchesFormed (g : List Entry) (b : Sorts) (W : Writer) (ns : Replacements) (m : ℕ) (ts : PlacedTerms) : Type 0 where
    kind : Sort
    second : second_of (sorts_in g b ts) ≡ Some kind
    good : AreBranches m kind (all_said W ns ts)

  -- what is known of the arguments of a symbol, by the faults that they have not
  record Known (g : List Entry) (b : Sorts) (W : Writer) (ns : Replacements) (m : ℕ) (ts : PlacedTerms) : Type 0 where
    each : (k : Sort) → each_faults g b (Some k) ts ≡ [] → AreGood m k (all_said W ns ts)
    alike : 1 ≤ count ts → alike_faults g b ts ≡ [] → AlikeFormed g b W ns m ts
    branches : 2 ≤ count ts → branch_faults g b ts ≡ [] → BranchesFormed g b W ns m ts
    plains : each_faults g b (Some sort.Int) ts ≡ [] → (n : ℕ) → plain (map term_in (at_depth n (all_said W ns ts))) ≤ others ts

  -- an operator at its arguments
  record OperatorFormed (g : List Entry) (b : Sorts) (W : Writer) (ns : Replacements) (m : ℕ) (o : Operator) (ts : PlacedTerms) : Type 0 where
    kind : Sort
    sorted : operator_sort o (count ts) (second_of (sorts_in g b ts)) ≡ Some kind
    good : Good m kind (λ n. operated o (at_depth n (all_said W ns ts)))

  three_said : (n : ℕ) (k : Sort) (ss : List Said) → length ss ≡ 3 → (s : Said) (more : List Said) → ss ≡ s ∷ more → IsSaid Q n sort.Bool s → AreSaid Q n k more → IsSaid Q n k (operated op.Choose ss)
  three_said n k [] e s more p h l = absurd (omega arith)
  three_said n k (x ∷ []) e s more p h l = absurd (omega arith)
  three_said n k (x ∷ (y ∷ [])) e s more p h l = absurd (omega arith)
  three_said n k (x ∷ (y ∷ (z ∷ (w ∷ ss)))) e s more p h l = absurd (omega arith)
  three_said n k (x ∷ (y ∷ (z ∷ []))) e s more p h l =
      let q : s ≡ x = cc in
      let q' : more ≡ y ∷ (z ∷ []) = cc in
      let l' = subst (AreSaid Q n k) q' l in
      choose_said c functions predicates n k x y z (subst (IsSaid Q n sort.Bool) q h) l'.0 l'.1.0

  branches_said : (m n : ℕ) (k : Sort) (ss : List Standing) → m ≤ n → length (at_depth (c + n) ss) ≡ 3 → AreBranches m k ss → IsSaid Q n k (operated op.Choose (at_depth (c + n) ss))
  branches_said m n k [] h e f = elim f [ ]
  branches_said m n k (s ∷ ss) h e f = three_said n k (at_depth (c + n) (s ∷ ss)) e (s (c + n)) (at_depth (c + n) ss) refl (f.0 n h) (said_at m n k ss h f.1)

  operator_formed : (g : List Entry) (b : Sorts) (W : Writer) (ns : Replacements) (m : ℕ) (o : Operator) (at : ℕ) (ts : PlacedTerms) → Known g b W ns m ts → takes o (count ts) ≡ true → product_faults o at ts ≡ []
      → argument_faults g b (wants o) ts ≡ [] → OperatorFormed g b W ns m o ts
  operator_formed g b W ns m (op.Truth v) at ts w a p e = record { kind = sort.Bool; sorted = refl; good = λ n h. truth_said c functions predicates n v (at_depth (c + n) (all_said W ns ts)) }
  operator_formed g b W ns m op.Not at ts w a p e =
      let good = w.each sort.Bool e in
      record { kind = sort.Bool; sorted = refl; good = λ n h. not_said c functions predicates n (at_depth (c + n) (all_said W ns ts)) (depth_count W ns ts (c + n) ∙ exactly (count ts) 1 a) (said_at m n sort.Bool (all_said W ns ts) h good) }
  operator_formed g b W ns m op.And at ts w a p e =
      let good = w.each sort.Bool e in
      record { kind = sort.Bool; sorted = refl; good = λ n h. and_said c functions predicates n (at_depth (c + n) (all_said W ns ts)) (omega (arith, depth_count W ns ts (c + n), at_least 1 (count ts) a)) (said_at m n sort.Bool (all_said W ns ts) h good) }
  operator_formed g b W ns m op.Or at ts w a p e =
      let good = w.each sort.Bool e in
      record { kind = sort.Bool; sorted = refl; good = λ n h. or_said c functions predicates n (at_depth (c + n) (all_said W ns ts)) (omega (arith, depth_count W ns ts (c + n), at_least 1 (count ts) a)) (said_at m n sort.Bool (all_said W ns ts) h good) }
  operator_formed g b W ns m op.Xor at ts w a p e =
      let good = w.each sort.Bool e in
      record { kind = sort.Bool; sorted = refl; good = λ n h. xor_said c functions predicates n (at_depth (c + n) (all_said W ns ts)) (omega (arith, depth_count W ns ts (c + n), at_least 2 (count ts) a)) (said_at m n sort.Bool (all_said W ns ts) h good) }
  operator_formed g b W ns m op.Implies at ts w a p e =
      let good = w.each sort.Bool e in
      record { kind = sort.Bool; sorted = refl; good = λ n h. implies_said c functions predicates n (at_depth (c + n) (all_said W ns ts)) (omega (arith, depth_count W ns ts (c + n), at_least 2 (count ts) a)) (said_at m n sort.Bool (all_said W ns ts) h good) }
  operator_formed g b W ns m op.Equal at ts w a p e =
      let two = at_least 2 (count ts) a in
      let f = w.alike (omega (arith, two)) e in
      record { kind = sort.Bool; sorted = refl; good = λ n h. equals_said c functions predicates n f.kind (at_depth (c + n) (all_said W ns ts)) (said_at m n f.kind (all_said W ns ts) h f.good) }
  operator_formed g b W ns m op.Distinct at ts w a p e =
      let two = at_least 2 (count ts) a in
      let f = w.alike (omega (arith, two)) e in
      record { kind = sort.Bool; sorted = refl; good = λ n h. distinct_said c functions predicates n f.kind (at_depth (c + n) (all_said W ns ts)) (said_at m n f.kind (all_said W ns ts) h f.good) }
  operator_formed g b W ns m op.Choose at ts w a p e =
      let three = exactly (count ts) 3 a in
      let f = w.branches (omega (arith, three)) e in
      record { kind = f.kind; sorted = ap (λ z. if z then second_of (sorts_in g b ts) else None) a ∙ f.second; good = λ n h. branches_said m n f.kind (all_said W ns ts) h (depth_count W ns ts (c + n) ∙ three) f.good }
  operator_formed g b W ns m (op.Compare v) at ts w a p e =
      let good = w.each sort.Int e in
      record { kind = sort.Bool; sorted = refl; good = λ n h. compare_said c functions predicates n v (at_depth (c + n) (all_said W ns ts)) (said_at m n sort.Int (all_said W ns ts) h good) }
  operator_formed g b W ns m op.Plus at ts w a p e =
      let good = w.each sort.Int e in
      record { kind = sort.Int; sorted = refl; good = λ n h. plus_said c functions predicates n (at_depth (c + n) (all_said W ns ts)) (omega (arith, depth_count W ns ts (c + n), at_least 1 (count ts) a)) (said_at m n sort.Int (all_said W ns ts) h good) }
  operator_formed g b W ns m op.Minus at ts w a p e =
      let good = w.each sort.Int e in
      record { kind = sort.Int; sorted = refl; good = λ n h. minus_said c functions predicates n (at_depth (c + n) (all_said W ns ts)) (omega (arith, depth_count W ns ts (c + n), at_least 1 (count ts) a)) (said_at m n sort.Int (all_said W ns ts) h good) }
  operator_formed g b W ns m op.Times at ts w a p e =
      let good = w.each sort.Int e in
      let few = at_most (others ts) (few_by (nat_lt 1 (others ts)) at p) in
      record {
        kind = sort.Int;
        sorted = refl;
        good = λ n h. times_said c functions predicates n (at_depth (c + n) (all_said W ns ts)) (omega (arith, depth_count W ns ts (c + n), at_least 2 (count ts) a)) (said_at m n sort.Int (all_said W ns ts) h good)
            (omega (arith, w.plains e (c + n), few));
      }
  operator_formed g b W ns m op.Abs at ts w a p e =
      let good = w.each sort.Int e in
      record { kind = sort.Int; sorted = refl; good = λ n h. abs_said c functions predicates n (at_depth (c + n) (all_said W ns ts)) (depth_count W ns ts (c + n) ∙ exactly (count ts) 1 a) (said_at m n sort.Int (all_said W ns ts) h good) }

  -- a symbol at its arguments
  record UseFormed (g : List Entry) (b : Sorts) (W : Writer) (ns : Replacements) (m : ℕ) (s : Option (Option Sort)) (p : Option Standing) (o : Option Operator) (y : Option Entry) (x : List ℕ) (ts : PlacedTerms) : Type 0 where
    kind : Sort
    sorted : use_sort s o y (count ts) (sorts_in g b ts) ≡ Some kind
    good : Good m kind (use_said W p o x (all_said W ns ts))

  use_formed : (g : List Entry) (b : Sorts) (W : Writer) (ns : Replacements) (m : ℕ) (x : Name) (ts : PlacedTerms) → SymbolsFormed g W → Known g b W ns m ts
      → (s : Option (Option Sort)) (p : Option Standing) → FoundFormed m s p → (o : Option Operator) (y : Option Entry) → entry_of x.text g ≡ y
      → use_faults s o y x ts ++ argument_faults g b (use_wants s o y) ts ≡ [] → UseFormed g b W ns m s p o y x.text ts
  use_formed g b W ns m x ts symbols w None (Some s) f o y q e = elim f [ ]
  use_formed g b W ns m x ts symbols w (Some None) p f o y q e = elim f [ ]
  use_formed g b W ns m x ts symbols w (Some (Some k)) None f o y q e = elim f [ ]
  use_formed g b W ns m x ts symbols w (Some (Some k)) (Some s) f o y q e = record { kind = k; sorted = refl; good = f }
  use_formed g b W ns m x ts symbols w None None f (Some o) y q e =
      let both = none_both (arity_faults (takes o (count ts)) x.at ++ product_faults o x.at ts) (argument_faults g b (wants o) ts) e in
      let own = none_both (arity_faults (takes o (count ts)) x.at) (product_faults o x.at ts) both.0 in
      let made = operator_formed g b W ns m o x.at ts w (fits_by (takes o (count ts)) x.at own.0) own.1 both.1 in
      record { kind = made.kind; sorted = made.sorted; good = made.good }
  use_formed g b W ns m x ts symbols w None None f None (Some y) q e =
      let both = none_both (arity_faults (nat_eq (count ts) y.arity) x.at) (each_faults g b (Some sort.Int) ts) e in
      let many = exactly (count ts) y.arity (fits_by (nat_eq (count ts) y.arity) x.at both.0) in
      record { kind = y.sort; sorted = refl; good = symbols.at x.text y q m (all_said W ns ts) (w.each sort.Int both.1) (count_said W ns ts ∙ many) }
  use_formed g b W ns m x ts symbols w None None f None None q e = absurd (unknown_by (is_unlisted x.text) x.at (argument_faults g b (need.Each None) ts) e)

  -- a quantifier, by what is so of its body wherever it stands
  bound_formed : (all : Bool) (ys : List (List ℕ)) (body : Replacements → ℕ → Formula) (n : ℕ) (b : Sorts) (ns : Replacements) → AreFormed n b ns
      → ((i : ℕ) (inner : Replacements) → AreFormed i (variables ys b) inner → Everywhere Q i (body inner (c + i))) → Everywhere Q n (bound_said all ys body ns (c + n))
  bound_formed all [] body n b ns f h = h n ns f
  bound_formed true (y ∷ ys) body n b ns f h =
      let v : Standing = variable (c + n) in
      let named : Good (suc n) sort.Int v = λ i l. (tt, omega arith, tt, tt, tt) in
      let place : c + suc n ≡ suc (c + n) = omega arith in (
        (tt, tt, tt),
        subst (λ z. Everywhere Q (suc n) (bound_said true ys body ((y, v) ∷ ns) z)) place
            (bound_formed true ys body (suc n) ((y, Some sort.Int) ∷ b) ((y, v) ∷ ns) (one y sort.Int v named (deeper (suc n) (omega arith) f)) h),
      )
  bound_formed false (y ∷ ys) body n b ns f h =
      let v : Standing = variable (c + n) in
      let named : Good (suc n) sort.Int v = λ i l. (tt, omega arith, tt, tt, tt) in
      let place : c + suc n ≡ suc (c + n) = omega arith in (
        (tt, tt, tt),
        subst (λ z. Everywhere Q (suc n) (bound_said false ys body ((y, v) ∷ ns) z)) place
            (bound_formed false ys body (suc n) ((y, Some sort.Int) ∷ b) ((y, v) ∷ ns) (one y sort.Int v named (deeper (suc n) (omega arith) f)) h),
      )

  none_found : (m : ℕ) (o : Option (Option Sort)) (p : Option Standing) (q : Option Operator) (y : Option Entry) (x : Name) (ts : PlacedTerms) (more : List ScriptRefusal) → FoundFormed m o p → 1 ≤ count ts
      → use_faults o q y x ts ++ more ≡ [] → (o ≡ None) × (p ≡ None)
  none_found m None None q y x ts more f some e = (refl, refl)
  none_found m None (Some s) q y x ts more f some e = elim f [ ]
  none_found m (Some None) p q y x ts more f some e = elim f [ ]
  none_found m (Some (Some k)) None q y x ts more f some e = elim f [ ]
  none_found m (Some (Some k)) (Some s) q y x ts more f some e =
      let none = exactly (count ts) 0 (fits_by (nat_eq (count ts) 0) x.at (none_both (arity_faults (nat_eq (count ts) 0) x.at) more e).0) in
      absurd (omega arith)

  numeric_signs : (o : Option Operator) (p : Option (Option Sort)) (y : Option Entry) (g : List Entry) (b : Sorts) (ts : PlacedTerms) → IsSign o → p ≡ None → (want : Option Need)
      → argument_faults g b (use_wants p o y) ts ≡ [] → each_faults g b (Some sort.Int) ts ≡ []
  numeric_signs o p y g b ts i q want e = by i (sym (ap (λ z. argument_faults g b (use_wants z o y) ts) q) ∙ e)
    where
      by : {o : Option Operator} → IsSign o → argument_faults g b (use_wants None o y) ts ≡ [] → each_faults g b (Some sort.Int) ts ≡ []
      by plus e = e
      by minus e = e
      by times e = e

  -- a term without faults that is built of numerals becomes one
  mutual
    numeral : (g : List Entry) (b : Sorts) (W : Writer) (ns : Replacements) (m : ℕ) (t : PlacedTerm) → AreFormed m b ns → faults g b t ≡ [] → is_numeral t ≡ true → (n : ℕ) → is_numeric (term_in (said W ns t n)) ≡ true
    numeral g b W ns m (number at k) f e h n = refl
    numeral g b W ns m (large at) f e h n = absurd (cc)
    numeral g b W ns m (let_in at bs t) f e h n = absurd (cc)
    numeral g b W ns m (quantified at all xs t) f e h n = absurd (cc)
    numeral g b W ns m (annotated at t) f e h n = absurd (cc)
    numeral g b W ns m (ill at) f e h n = absurd (cc)
    numeral g b W ns m (used at x ts) f e h n =
        let front = left_true (is_sign x.text && nat_le 1 (count ts)) (are_numerals ts) h in
        let sign = sign_is x.text (left_true (is_sign x.text) (nat_le 1 (count ts)) front) in
        let some = at_least 1 (count ts) (right_true (is_sign x.text) (nat_le 1 (count ts)) front) in
        let inner = right_true (is_sign x.text && nat_le 1 (count ts)) (are_numerals ts) h in
        let wanted = use_wants (found x.text b) (operator_of x.text) (entry_of x.text g) in
        let both = none_both (use_faults (found x.text b) (operator_of x.text) (entry_of x.text g) x ts) (argument_faults g b wanted ts) e in
        let none = none_found m (found x.text b) (found x.text ns) (operator_of x.text) (entry_of x.text g) x ts (argument_faults g b wanted ts) (found_formed x.text f) some e in
        let each = numeric_signs (operator_of x.text) (found x.text b) (entry_of x.text g) g b ts sign none.0 None both.1 in
        subst (λ z. is_numeric (term_in (use_said W z (operator_of x.text) x.text (all_said W ns ts) n)) ≡ true) (sym none.1)
        (numeric_sign W x.text (all_said W ns ts) n sign (omega (arith, depth_count W ns ts n, some)) (numerals g b W ns m ts f each inner n))

    numerals : (g : List Entry) (b : Sorts) (W : Writer) (ns : Replacements) (m : ℕ) (ts : PlacedTerms) → AreFormed m b ns → each_faults g b (Some sort.Int) ts ≡ [] → are_numerals ts ≡ true → (n : ℕ)
        → AreNumeric (at_depth n (all_said W ns ts))
    numerals g b W ns m no_phrase f e h n = tt
    numerals g b W ns m (and_phrase t ts) f e h n =
        let both = none_both (faults g b t ++ kind_faults (Some sort.Int) (term_sort g b t) (first_byte t)) (each_faults g b (Some sort.Int) ts) e in
        let own = none_both (faults g b t) (kind_faults (Some sort.Int) (term_sort g b t) (first_byte t)) both.0 in
        (numeral g b W ns m t f own.0 (left_true (is_numeral t) (are_numerals ts) h) n, numerals g b W ns m ts f both.1 (right_true (is_numeral t) (are_numerals ts) h) n)

  plain_more : (n k : ℕ) (a b : Bool) → (b ≡ true → a ≡ true) → n ≤ k → plain_by a n ≤ (if b then k else suc k)
  plain_more n k true true h l = l
  plain_more n k true false h l = omega arith
  plain_more n k false false h l = omega arith
  plain_more n k false true h l = absurd (let bad = h refl in cc)

  plains_formed : (g : List Entry) (b : Sorts) (W : Writer) (ns : Replacements) (m : ℕ) (ts : PlacedTerms) → AreFormed m b ns → each_faults g b (Some sort.Int) ts ≡ [] → (n : ℕ)
      → plain (map term_in (at_depth n (all_said W ns ts))) ≤ others ts
  plains_formed g b W ns m no_phrase f e n = omega arith
  plains_formed g b W ns m (and_phrase t ts) f e n =
      let both = none_both (faults g b t ++ kind_faults (Some sort.Int) (term_sort g b t) (first_byte t)) (each_faults g b (Some sort.Int) ts) e in
      let own = none_both (faults g b t) (kind_faults (Some sort.Int) (term_sort g b t) (first_byte t)) both.0 in
      plain_more (plain (map term_in (at_depth n (all_said W ns ts)))) (others ts) (is_numeric (term_in (said W ns t n))) (is_numeral t) (λ h. numeral g b W ns m t f own.0 h n) (plains_formed g b W ns m ts f both.1 n)

  mutual
    pub formed : (g : List Entry) (W : Writer) → SymbolsFormed g W → (t : PlacedTerm) (b : Sorts) (ns : Replacements) (m : ℕ) → AreFormed m b ns → IsRangedPhrase t → faults g b t ≡ [] → Formed g b W ns m t
    formed g W s (number at n) b ns m f h e = record { kind = sort.Int; sorted = refl; good = λ i l. (h, tt, tt, tt, tt) }
    formed g W s (large at) b ns m f h e = absurd (cc)
    formed g W s (used at x ts) b ns m f h e =
        let known : Known g b W ns m ts = record {
          each = λ k q. each_formed g W s ts b ns m k f h q;
          alike = λ l q. alike_formed g W s ts b ns m f h l q;
          branches = λ l q. branches_formed g W s ts b ns m f h l q;
          plains = plains_formed g b W ns m ts f;
        } in
        let made = use_formed g b W ns m x ts s known (found x.text b) (found x.text ns) (found_formed x.text f) (operator_of x.text) (entry_of x.text g) refl e in
        record { kind = made.kind; sorted = made.sorted; good = made.good }
    formed g W s (let_in at bs t) b ns m f h e =
        let both = none_both (bound_faults g b bs) (faults g (with_names (names_of bs) (bound_sorts g b bs) b) t) e in
        let inner = bindings_formed g W s bs b ns m f h.0 both.0 b ns f in
        let made = formed g W s t (with_names (names_of bs) (bound_sorts g b bs) b) (with_names (names_of bs) (bindings_said W ns bs) ns) m inner h.1 both.1 in
        record { kind = made.kind; sorted = made.sorted; good = made.good }
    formed g W s (quantified at all xs t) b ns m f h e =
        let inside = variables (texts_of xs) b in
        let both = none_both (variable_faults xs) (faults g inside t ++ kind_faults (Some sort.Bool) (term_sort g inside t) (first_byte t)) e in
        let own = none_both (faults g inside t) (kind_faults (Some sort.Bool) (term_sort g inside t) (first_byte t)) both.1 in
        record {
          kind = sort.Bool;
          sorted = refl;
          good = λ n l. bound_formed all (texts_of xs) (λ d i. formula_in (said W d t i)) n b ns (deeper n l f) (λ i inner k.
              let made = formed g W s t inside inner i k h own.0 in
              let is = needed_is sort.Bool made.kind (term_sort g inside t) (first_byte t) made.sorted own.1 in
              formula_of Q i (said W inner t (c + i)) (subst (λ z. IsSaid Q i z (said W inner t (c + i))) is (made.good i (omega arith))));
        }
    formed g W s (annotated at t) b ns m f h e =
        let made = formed g W s t b ns m f h e in
        record { kind = made.kind; sorted = made.sorted; good = made.good }
    formed g W s (ill at) b ns m f h e = absurd (cc)

    each_formed : (g : List Entry) (W : Writer) → SymbolsFormed g W → (ts : PlacedTerms) (b : Sorts) (ns : Replacements) (m : ℕ) (k : Sort) → AreFormed m b ns → AreRangedPhrases ts → each_faults g b (Some k) ts ≡ []
        → AreGood m k (all_said W ns ts)
    each_formed g W s no_phrase b ns m k f h e = tt
    each_formed g W s (and_phrase t ts) b ns m k f h e =
        let both = none_both (faults g b t ++ kind_faults (Some k) (term_sort g b t) (first_byte t)) (each_faults g b (Some k) ts) e in
        let own = none_both (faults g b t) (kind_faults (Some k) (term_sort g b t) (first_byte t)) both.0 in
        let made = formed g W s t b ns m f h.0 own.0 in
        let is = needed_is k made.kind (term_sort g b t) (first_byte t) made.sorted own.1 in
        (subst (λ z. Good m z (said W ns t)) is made.good, each_formed g W s ts b ns m k f h.1 both.1)

    alike_formed : (g : List Entry) (W : Writer) → SymbolsFormed g W → (ts : PlacedTerms) (b : Sorts) (ns : Replacements) (m : ℕ) → AreFormed m b ns → AreRangedPhrases ts → 1 ≤ count ts → alike_faults g b ts ≡ []
        → AlikeFormed g b W ns m ts
    alike_formed g W s no_phrase b ns m f h l e = absurd (omega arith)
    alike_formed g W s (and_phrase t ts) b ns m f h l e =
        let both = none_both (faults g b t) (each_faults g b (term_sort g b t) ts) e in
        let made = formed g W s t b ns m f h.0 both.0 in
        let more = each_formed g W s ts b ns m made.kind f h.1 (sym (ap (λ z. each_faults g b z ts) made.sorted) ∙ both.1) in
        record { kind = made.kind; first = made.sorted; good = (made.good, more) }

    branches_formed : (g : List Entry) (W : Writer) → SymbolsFormed g W → (ts : PlacedTerms) (b : Sorts) (ns : Replacements) (m : ℕ) → AreFormed m b ns → AreRangedPhrases ts → 2 ≤ count ts → branch_faults g b ts ≡ []
        → BranchesFormed g b W ns m ts
    branches_formed g W s no_phrase b ns m f h l e = absurd (omega arith)
    branches_formed g W s (and_phrase t ts) b ns m f h l e =
        let both = none_both (faults g b t ++ kind_faults (Some sort.Bool) (term_sort g b t) (first_byte t)) (alike_faults g b ts) e in
        let own = none_both (faults g b t) (kind_faults (Some sort.Bool) (term_sort g b t) (first_byte t)) both.0 in
        let made = formed g W s t b ns m f h.0 own.0 in
        let is = needed_is sort.Bool made.kind (term_sort g b t) (first_byte t) made.sorted own.1 in
        let more = alike_formed g W s ts b ns m f h.1 (omega arith) both.1 in
        record { kind = more.kind; second = more.first; good = (subst (λ z. Good m z (said W ns t)) is made.good, more.good) }

    bindings_formed : (g : List Entry) (W : Writer) → SymbolsFormed g W → (bs : Bindings) (b : Sorts) (ns : Replacements) (m : ℕ) → AreFormed m b ns → AreRangedBindings bs → bound_faults g b bs ≡ []
        → (b' : Sorts) (ns' : Replacements) → AreFormed m b' ns' → AreFormed m (with_names (names_of bs) (bound_sorts g b bs) b') (with_names (names_of bs) (bindings_said W ns bs) ns')
    bindings_formed g W s no_binding b ns m f h e b' ns' f' = f'
    bindings_formed g W s (and_binding x t bs) b ns m f h e b' ns' f' =
        let both = none_both (faults g b t) (bound_faults g b bs) e in
        let made = formed g W s t b ns m f h.0 both.0 in
        subst (λ z. AreFormed m (with_names (names_of bs) (bound_sorts g b bs) ((x, z) ∷ b')) (with_names (names_of bs) (bindings_said W ns bs) ((x, said W ns t) ∷ ns'))) (sym made.sorted)
        (bindings_formed g W s bs b ns m f h.1 both.1 ((x, Some made.kind) ∷ b') ((x, said W ns t) ∷ ns') (one x made.kind (said W ns t) made.good f'))
