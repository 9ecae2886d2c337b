-- The formula that a normal form is printed as: it can stand in the problem, and speaks of the names of the normal form alone.
use Rattle.std.proofs.Common.{◌≡◌, ◌⊎◌, ◌<◌, ◌≤◌, ◌^◌, ◌||◌, ℕ, suc, ℤ, pos, Bool, true, false, cond, nat_eq, List, [], ◌∷◌, ◌++◌, map, length, length-append, refl, sym, ◌∙◌, ap, subst, arith, inl, inr, unsigned_abs}
use Rattle.std.specs.Prelude.{All}
use Rattle.std.specs.List.{AllByRecursion, list_any}
use Rattle.std.proofs.lemmas.Bool.{false≢true}
use Rattle.std.proofs.lemmas.Bool.Decides.{nat_tests}
use Rattle.linear_term.specs.Linear.{Linear}
use Rattle.linear_term.specs.Range.{InRange}
use Rattle.form_typed.specs.Formula.{Formula, Formulas, Expression, Expressions, expressions, formulas, constant, compares, applies, negation, every, some, implies, iff, for_all, for_some, part, no_formula, and_formula, number, name, call, minus, total, product, choice, absolute, lesser, greater, no_expression, and_expression}
use Rattle.form_typed.specs.Truth.{Meaning, Truth}
use Rattle.clause_set.specs.declared.literal.Literal.{Literal}
use Rattle.clause_set.specs.declared.literal.Literal.TheVariants.{Eq, Geq, Div, NDiv}
use Rattle.clause_set.specs.Literals.{dnf_truth}
use Rattle.clause_set.specs.Names.{has}
use Rattle.pri_typing.specs.declared.problem.Problem.{Problem}
use Rattle.pri_typing.specs.Everywhere.{Property, Everywhere, AllEverywhere, TermEverywhere, TermsEverywhere}
use Rattle.pri_typing.specs.Problems.{IsNoCall, IsNoPredicate, IsWithoutApplication}
use Rattle.pri_typing.specs.Typing.{signed}
use Rattle.pri_printer.specs.Summands.{SignedSummand, Summand, alone, summands, times}
use Rattle.pri_printer.specs.Formulas.{clause_formula, divides_formula, later, later_part, less_summand, literal_formula, normal_form_formula, sum_value, summand_value}
use Rattle.pri_printer.specs.Names.{DnfNames, IsVariableBelow, HasNamesIn, OccursIn}
use Rattle.pri_printer.specs.Printed.{constants_of, dnf_formula}
use Rattle.pri_printer.specs.Ranges.{IsRangedLiteral}
use Rattle.pri_printer.proofs.Bridge.{dnf_printable}
use Rattle.pri_printer.proofs.Outer.{constants_true}
use Rattle.pri_printer.proofs.Plain.{printed_names}
use Rattle.pri_printer.proofs.Standing.{AllPrintable, AreFit, ArePrintable, Fits, IsPrintable}
use Rattle.pri_lines.proofs.Printed.{all_below}
use Rattle.elim_laws.specs.Whole.{AreOver, Lacks}
use Rattle.form_encoding.specs.Occurrences.{names_in, names_in_all, names_in_term, names_in_terms, occurs}
use Rattle.form_encoding.specs.Problems.{constants}
use Rattle.itp_sides.specs.Between.{IsStrongest}
use Rattle.itp_sides.specs.Symbols.{is_empty, symbols_in, symbols_in_all, symbols_in_term, symbols_in_terms}
use Rattle.interpolant.specs.Sides.{IsInterpolant}
use Rattle.interpolant.specs.Sides as sides
use Rattle.interpolant.proofs.Occurrences.{absent_is}
use Rattle.pred_interpolant.specs.Fit.{IsFitFormula, fit}
use Rattle.pred_interpolant.specs.Middle.{Shares}

-- ---- it can stand in the problem

number_fit : (p : Problem) (k v : ℕ) → v < 2 ^ 127 → TermEverywhere (fit p) k (number (pos v))
number_fit p k v h = record { number = h; name = tt; function = tt; sum = tt; product = tt }

name_fit : (p : Problem) (k x : ℕ) → x < constants p → TermEverywhere (fit p) k (name x)
name_fit p k x h = record { number = tt; name = omega (arith, h); function = tt; sum = tt; product = tt }

minus_fit : (p : Problem) (k : ℕ) (t : Expression) → TermEverywhere (fit p) k t → TermEverywhere (fit p) k (minus t)
minus_fit p k t h = (record { number = tt; name = tt; function = tt; sum = tt; product = tt }, h)

times_fit : (c : Bool) (p : Problem) (k v x : ℕ) → v < 2 ^ 127 → x < constants p → TermEverywhere (fit p) k (cond c (name x) (product (number (pos v)) (name x)))
times_fit true p k v x h l = name_fit p k x l
times_fit false p k v x h l = (record { number = tt; name = tt; function = tt; sum = tt; product = refl }, number_fit p k v h, name_fit p k x l)

less_times : (c : Bool) (p : Problem) (k v x : ℕ) → v < 2 ^ 127 → x < constants p → TermEverywhere (fit p) k (cond c (minus (name x)) (product (minus (number (pos v))) (name x)))
less_times true p k v x h l = minus_fit p k (name x) (name_fit p k x l)
less_times false p k v x h l =
    (record { number = tt; name = tt; function = tt; sum = tt; product = refl }, minus_fit p k (number (pos v)) (number_fit p k v h), name_fit p k x l)

summand_fit : (p : Problem) (k : ℕ) (a : Summand) → Fits (constants p) a → TermEverywhere (fit p) k (summand_value a)
summand_fit p k (alone v) h = number_fit p k v h
summand_fit p k (times v x) h = times_fit (nat_eq v 1) p k v x h.0 h.1

less_fit : (p : Problem) (k : ℕ) (a : Summand) → Fits (constants p) a → TermEverywhere (fit p) k (less_summand a)
less_fit p k (alone v) h = minus_fit p k (number (pos v)) (number_fit p k v h)
less_fit p k (times v x) h = less_times (nat_eq v 1) p k v x h.0 h.1

first_fit : (c : Bool) (p : Problem) (k : ℕ) (a : Summand) → Fits (constants p) a → TermEverywhere (fit p) k (cond c (less_summand a) (summand_value a))
first_fit true p k a h = less_fit p k a h
first_fit false p k a h = summand_fit p k a h

signed_fit : (c : Bool) (p : Problem) (k : ℕ) (a : Summand) → Fits (constants p) a → TermEverywhere (fit p) k (signed c (summand_value a))
signed_fit true p k a h = minus_fit p k (summand_value a) (summand_fit p k a h)
signed_fit false p k a h = summand_fit p k a h

later_fit : (p : Problem) (k : ℕ) (more : List SignedSummand) → AreFit (constants p) more → TermsEverywhere (fit p) k (expressions (map later (map later_part more)))
later_fit p k [] h = tt
later_fit p k (a ∷ more) h = (signed_fit a.0 p k a.1 h.0, later_fit p k more h.1)

sum_fit : (p : Problem) (k : ℕ) (xs : List SignedSummand) → AreFit (constants p) xs → TermEverywhere (fit p) k (sum_value xs)
sum_fit p k [] h = number_fit p k 0 (omega arith)
sum_fit p k (a ∷ []) h = first_fit a.0 p k a.1 h.0
sum_fit p k (a ∷ b ∷ more) h =
    (record { number = tt; name = tt; function = tt; sum = omega arith; product = tt }, (first_fit a.0 p k a.1 h.0, later_fit p k (b ∷ more) h.1))

divides_fit : (p : Problem) (d : ℤ) (t : Linear) → InRange d → AreFit (constants p) (summands t.pairs t.constant) → Everywhere (fit p) 0 (divides_formula (constants p) d t)
divides_fit p d t r h = (
  record { predicate = tt; binder = tt; part = tt },
  (
    record { predicate = tt; binder = tt; part = tt },
    sum_fit p 1 (summands t.pairs t.constant) h,
    (
      record { number = tt; name = tt; function = tt; sum = tt; product = refl },
      number_fit p 1 (unsigned_abs d) r,
      record { number = tt; name = omega arith; function = tt; sum = tt; product = tt },
    ),
  ),
)

zero_fit : (p : Problem) (k : ℕ) → TermEverywhere (fit p) k (number (pos 0))
zero_fit p k = number_fit p k 0 (omega arith)

literal_fit : (p : Problem) (l : Literal) → IsPrintable (constants p) l → Everywhere (fit p) 0 (literal_formula (constants p) l)
literal_fit p (Eq t) h = (record { predicate = tt; binder = tt; part = tt }, sum_fit p 0 (summands t.pairs t.constant) h, zero_fit p 0)
literal_fit p (Geq t) h = (record { predicate = tt; binder = tt; part = tt }, sum_fit p 0 (summands t.pairs t.constant) h, zero_fit p 0)
literal_fit p (Div d t) h = divides_fit p d t h.0 h.1
literal_fit p (NDiv d t) h = (record { predicate = tt; binder = tt; part = tt }, divides_fit p d t h.0 h.1)

literals_fit : (p : Problem) (ls : List Literal) → ArePrintable (constants p) ls → AllEverywhere (fit p) 0 (formulas (map (literal_formula (constants p)) ls))
literals_fit p [] h = tt
literals_fit p (l ∷ ls) h = (literal_fit p l h.0, literals_fit p ls h.1)

clause_fit : (p : Problem) (ls : List Literal) → ArePrintable (constants p) ls → Everywhere (fit p) 0 (clause_formula (constants p) ls)
clause_fit p [] h = record { predicate = tt; binder = tt; part = tt }
clause_fit p (l ∷ []) h = literal_fit p l h.0
clause_fit p (l ∷ m ∷ ls) h = (record { predicate = tt; binder = tt; part = tt }, literals_fit p (l ∷ m ∷ ls) h)

clauses_fit : (p : Problem) (cs : List (List Literal)) → AllPrintable (constants p) cs → AllEverywhere (fit p) 0 (formulas (map (clause_formula (constants p)) cs))
clauses_fit p [] h = tt
clauses_fit p (c ∷ cs) h = (clause_fit p c h.0, clauses_fit p cs h.1)

normal_fit : (p : Problem) (cs : List (List Literal)) → AllPrintable (constants p) cs → Everywhere (fit p) 0 (normal_form_formula (constants p) cs)
normal_fit p [] h = record { predicate = tt; binder = tt; part = tt }
normal_fit p (c ∷ []) h = clause_fit p c h.0
normal_fit p (c ∷ d ∷ cs) h = (record { predicate = tt; binder = tt; part = tt }, clauses_fit p (c ∷ d ∷ cs) h)

pub many_constants : (p : Problem) → length (constants_of p) ≡ constants p
many_constants p = length-append p.existentials p.universals

-- the formula of a normal form over the constants with its numbers in the range
pub dnf_fit : (p : Problem) (d cs : List (List Literal)) → cs ≡ d → All (All IsRangedLiteral) cs → AreOver (constants p) d → IsFitFormula p (dnf_formula p d)
dnf_fit p d cs e ranged over =
    subst (λ n. IsFitFormula p (normal_form_formula n d)) (sym (many_constants p))
    (normal_fit p d (dnf_printable (constants p) d cs e ranged (subst (λ n. DnfNames (IsVariableBelow n) d) (many_constants p) (all_below p d over))))

pub dnf_is : (p : Problem) (d cs : List (List Literal)) (n : ℕ) (f : Formula) → cs ≡ d → n ≡ constants p → f ≡ normal_form_formula n cs → f ≡ dnf_formula p d
dnf_is p d cs n f e m h = h ∙ (λ i. normal_form_formula ((m ∙ sym (many_constants p)) i) (e i))

-- ---- it is true where the normal form is

pub dnf_strongest : (w : Meaning) (p : Problem) (f g : Formula) (d : List (List Literal)) → AreOver (constants p) d → IsStrongest w p f g (λ e. dnf_truth d e ≡ true)
    → IsStrongest w p f g (Truth w (dnf_formula p d))
dnf_strongest w p f g d over h e typed =
    let t = constants_true w p d e (all_below p d over) (typed.many ∙ sym (many_constants p)) in
    let s = h e typed in
    (λ a. s.0 (t.0 a), λ b. t.1 (s.1 b))

-- ---- what it speaks of

-- each name of a formula that speaks of names that are P is one of these, or at n or above
abbrev AreNamed : (ℕ → Type 0) → ℕ → List ℕ → Type 0
AreNamed P n xs = AllByRecursion (λ x. P x ⊎ (n ≤ x)) xs

named_both : (P : ℕ → Type 0) (n : ℕ) (xs ys : List ℕ) → AreNamed P n xs → AreNamed P n ys → AreNamed P n (xs ++ ys)
named_both P n [] ys h k = k
named_both P n (x ∷ xs) ys h k = (h.0, named_both P n xs ys h.1 k)

abbrev speaking : (ℕ → Type 0) → ℕ → Property
speaking P n = record { of_formula = IsNoPredicate; of_term = λ depth. HasNamesIn P n }

none : {A : Type 0} (xs ys : List A) → xs ≡ [] → ys ≡ [] → xs ++ ys ≡ []
none xs ys h k = λ i. h i ++ k i

-- two parts
joined : (P : ℕ → Type 0) (n : ℕ) (xs ys : List ℕ) (a b : List (Bool × ℕ)) → AreNamed P n xs × (a ≡ []) → AreNamed P n ys × (b ≡ []) → AreNamed P n (xs ++ ys) × (a ++ b ≡ [])
joined P n xs ys a b h k = (named_both P n xs ys h.0 k.0, none a b h.1 k.1)

mutual
  spoken : (P : ℕ → Type 0) (n k : ℕ) (f : Formula) → Everywhere (speaking P n) k f → AreNamed P n (names_in f) × (symbols_in f ≡ [])
  spoken P n k (constant b) h = (tt, refl)
  spoken P n k (compares r s t) h =
      joined P n (names_in_term s) (names_in_term t) (symbols_in_term s) (symbols_in_term t) (spoken_term P n k s h.1) (spoken_term P n k t h.2)
  spoken P n k (applies p ts) h = absurd h.0
  spoken P n k (negation f) h = spoken P n k f h.1
  spoken P n k (every fs) h = spoken_all P n k fs h.1
  spoken P n k (some fs) h = spoken_all P n k fs h.1
  spoken P n k (implies f g) h = joined P n (names_in f) (names_in g) (symbols_in f) (symbols_in g) (spoken P n k f h.1) (spoken P n k g h.2)
  spoken P n k (iff f g) h = joined P n (names_in f) (names_in g) (symbols_in f) (symbols_in g) (spoken P n k f h.1) (spoken P n k g h.2)
  spoken P n k (for_all s f) h = spoken P n (suc k) f h.1
  spoken P n k (for_some s f) h = spoken P n (suc k) f h.1
  spoken P n k (part j f) h = spoken P n k f h.1

  spoken_all : (P : ℕ → Type 0) (n k : ℕ) (fs : Formulas) → AllEverywhere (speaking P n) k fs → AreNamed P n (names_in_all fs) × (symbols_in_all fs ≡ [])
  spoken_all P n k no_formula h = (tt, refl)
  spoken_all P n k (and_formula f fs) h = joined P n (names_in f) (names_in_all fs) (symbols_in f) (symbols_in_all fs) (spoken P n k f h.0) (spoken_all P n k fs h.1)

  spoken_term : (P : ℕ → Type 0) (n k : ℕ) (t : Expression) → TermEverywhere (speaking P n) k t → AreNamed P n (names_in_term t) × (symbols_in_term t ≡ [])
  spoken_term P n k (number v) h = (tt, refl)
  spoken_term P n k (name x) h = ((h, tt), refl)
  spoken_term P n k (call f ts) h = absurd h.0
  spoken_term P n k (minus t) h = spoken_term P n k t h.1
  spoken_term P n k (total ts) h = spoken_terms P n k ts h.1
  spoken_term P n k (product s t) h =
      joined P n (names_in_term s) (names_in_term t) (symbols_in_term s) (symbols_in_term t) (spoken_term P n k s h.1) (spoken_term P n k t h.2)
  spoken_term P n k (choice f s t) h =
      joined P n (names_in f) (names_in_term s ++ names_in_term t) (symbols_in f) (symbols_in_term s ++ symbols_in_term t) (spoken P n k f h.1)
      (joined P n (names_in_term s) (names_in_term t) (symbols_in_term s) (symbols_in_term t) (spoken_term P n k s h.2) (spoken_term P n k t h.3))
  spoken_term P n k (absolute t) h = spoken_term P n k t h.1
  spoken_term P n k (lesser s t) h =
      joined P n (names_in_term s) (names_in_term t) (symbols_in_term s) (symbols_in_term t) (spoken_term P n k s h.1) (spoken_term P n k t h.2)
  spoken_term P n k (greater s t) h =
      joined P n (names_in_term s) (names_in_term t) (symbols_in_term s) (symbols_in_term t) (spoken_term P n k s h.1) (spoken_term P n k t h.2)

  spoken_terms : (P : ℕ → Type 0) (n k : ℕ) (ts : Expressions) → TermsEverywhere (speaking P n) k ts → AreNamed P n (names_in_terms ts) × (symbols_in_terms ts ≡ [])
  spoken_terms P n k no_expression h = (tt, refl)
  spoken_terms P n k (and_expression t ts) h =
      joined P n (names_in_term t) (names_in_terms ts) (symbols_in_term t) (symbols_in_terms ts) (spoken_term P n k t h.0) (spoken_terms P n k ts h.1)

number_is : (x y : ℕ) → nat_eq x y ≡ true → x ≡ y
number_is x y h = grind (arith, nat_tests)

named_by : (P : ℕ → Type 0) (n x : ℕ) (xs : List ℕ) → x < n → AreNamed P n xs → list_any (nat_eq x) xs ≡ true → P x
named_by P n x [] lt h k = absurd (false≢true k)
named_by P n x (y ∷ xs) lt h k = by (nat_eq x y) refl k (named_by P n x xs lt h.1)
  where
    one : x ≡ y → P y ⊎ (n ≤ y) → P x
    one e (inl a) = subst P (sym e) a
    one e (inr le) = absurd (omega (arith, e, le, lt))

    by : (c : Bool) → nat_eq x y ≡ c → (c || list_any (nat_eq x) xs) ≡ true → (list_any (nat_eq x) xs ≡ true → P x) → P x
    by true e i f = one (number_is x y e) h.0
    by false e i f = f i

lacks_clause : (x : ℕ) (ls : List Literal) → Lacks x ls → list_any (has x) ls ≡ false
lacks_clause x [] h = refl
lacks_clause x (l ∷ ls) h = λ i. h.0 i || lacks_clause x ls h.1 i

lacks_all : (x : ℕ) (d : List (List Literal)) → AllByRecursion (Lacks x) d → list_any (list_any (has x)) d ≡ false
lacks_all x [] h = refl
lacks_all x (c ∷ d) h = λ i. lacks_clause x c h.0 i || lacks_all x d h.1 i

pub dnf_shares : (w : Meaning) (p : Problem) (f g : Formula) (d : List (List Literal)) → IsInterpolant w p f g d → Shares p f (dnf_formula p d) g
dnf_shares w p f g d b =
    let n = length (constants_of p) in
    let s = spoken (OccursIn d) n 0 (dnf_formula p d) (printed_names p d) in
    record {
      names = λ x lt o.
          let has_it : OccursIn d x = named_by (OccursIn d) n x (names_in (dnf_formula p d)) (subst (λ k. x < k) (sym (many_constants p)) lt) s.0 o in (
            stands x f lt (λ k. inl k) has_it,
            stands x g lt (λ k. inr k) has_it,
          );
      symbols = λ a u. absurd (false≢true (sym (ap (list_any _) s.1) ∙ u));
    }
  where
    stands : (x : ℕ) (h : Formula) → x < constants p → (sides.LacksName x h → sides.LacksName x f ⊎ sides.LacksName x g) → OccursIn d x → occurs x h ≡ true
    stands x h lt side o = by (occurs x h) refl
      where
        by : (c : Bool) → occurs x h ≡ c → c ≡ true
        by true e = refl
        by false e = absurd (false≢true (sym (lacks_all x d (b.shared x lt (side ((absent_is x h).0 e)))) ∙ o))

-- ---- a formula without symbols

left_none : {A : Type 0} (xs ys : List A) → xs ++ ys ≡ [] → xs ≡ []
left_none [] ys h = refl
left_none (x ∷ xs) ys h = absurd cc

right_none : {A : Type 0} (xs ys : List A) → xs ++ ys ≡ [] → ys ≡ []
right_none [] ys h = h
right_none (x ∷ xs) ys h = absurd cc

abbrev plain : Property
plain = record { of_formula = IsNoPredicate; of_term = IsNoCall }

mutual
  unapplied : (k : ℕ) (f : Formula) → symbols_in f ≡ [] → Everywhere plain k f
  unapplied k (constant b) h = tt
  unapplied k (compares r s t) h =
      (tt, unapplied_term k s (left_none (symbols_in_term s) (symbols_in_term t) h), unapplied_term k t (right_none (symbols_in_term s) (symbols_in_term t) h))
  unapplied k (applies p ts) h = absurd cc
  unapplied k (negation f) h = (tt, unapplied k f h)
  unapplied k (every fs) h = (tt, unapplied_all k fs h)
  unapplied k (some fs) h = (tt, unapplied_all k fs h)
  unapplied k (implies f g) h = (tt, unapplied k f (left_none (symbols_in f) (symbols_in g) h), unapplied k g (right_none (symbols_in f) (symbols_in g) h))
  unapplied k (iff f g) h = (tt, unapplied k f (left_none (symbols_in f) (symbols_in g) h), unapplied k g (right_none (symbols_in f) (symbols_in g) h))
  unapplied k (for_all s f) h = (tt, unapplied (suc k) f h)
  unapplied k (for_some s f) h = (tt, unapplied (suc k) f h)
  unapplied k (part j f) h = (tt, unapplied k f h)

  unapplied_all : (k : ℕ) (fs : Formulas) → symbols_in_all fs ≡ [] → AllEverywhere plain k fs
  unapplied_all k no_formula h = tt
  unapplied_all k (and_formula f fs) h =
      (unapplied k f (left_none (symbols_in f) (symbols_in_all fs) h), unapplied_all k fs (right_none (symbols_in f) (symbols_in_all fs) h))

  unapplied_term : (k : ℕ) (t : Expression) → symbols_in_term t ≡ [] → TermEverywhere plain k t
  unapplied_term k (number v) h = tt
  unapplied_term k (name x) h = tt
  unapplied_term k (call f ts) h = absurd cc
  unapplied_term k (minus t) h = (tt, unapplied_term k t h)
  unapplied_term k (total ts) h = (tt, unapplied_terms k ts h)
  unapplied_term k (product s t) h =
      (tt, unapplied_term k s (left_none (symbols_in_term s) (symbols_in_term t) h), unapplied_term k t (right_none (symbols_in_term s) (symbols_in_term t) h))
  unapplied_term k (choice f s t) h =
      let rest = right_none (symbols_in f) (symbols_in_term s ++ symbols_in_term t) h in (
        tt,
        unapplied k f (left_none (symbols_in f) (symbols_in_term s ++ symbols_in_term t) h),
        unapplied_term k s (left_none (symbols_in_term s) (symbols_in_term t) rest),
        unapplied_term k t (right_none (symbols_in_term s) (symbols_in_term t) rest),
      )
  unapplied_term k (absolute t) h = (tt, unapplied_term k t h)
  unapplied_term k (lesser s t) h =
      (tt, unapplied_term k s (left_none (symbols_in_term s) (symbols_in_term t) h), unapplied_term k t (right_none (symbols_in_term s) (symbols_in_term t) h))
  unapplied_term k (greater s t) h =
      (tt, unapplied_term k s (left_none (symbols_in_term s) (symbols_in_term t) h), unapplied_term k t (right_none (symbols_in_term s) (symbols_in_term t) h))

  unapplied_terms : (k : ℕ) (ts : Expressions) → symbols_in_terms ts ≡ [] → TermsEverywhere plain k ts
  unapplied_terms k no_expression h = tt
  unapplied_terms k (and_expression t ts) h =
      (unapplied_term k t (left_none (symbols_in_term t) (symbols_in_terms ts) h), unapplied_terms k ts (right_none (symbols_in_term t) (symbols_in_terms ts) h))

empty_is : (xs : List (Bool × ℕ)) → is_empty xs ≡ true → xs ≡ []
empty_is [] h = refl
empty_is (x ∷ xs) h = absurd (false≢true h)

pub plain_side : (f : Formula) → is_empty (symbols_in f) ≡ true → IsWithoutApplication f
plain_side f h = unapplied 0 f (empty_is (symbols_in f) h)
