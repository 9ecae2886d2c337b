-- Texts put together, and what is asked of the parts of a formula.
use Rattle.std.proofs.Common.{◌≡◌, ◌≢◌, ℕ, suc, ◌-◌, ◌<◌, ◌≤◌, Bool, true, false, ◌==◌, cond, nat_lt, List, [], ◌∷◌, ◌++◌, map, length, get_or, refl, sym, ap, subst, ◌∙◌, arith, append_assoc, append-nil, OnOk, Result, Ok, Err, true≢false}
use Rattle.std.specs.List.{concat}
use Rattle.form_typed.specs.Formula.{formula, formulas_of, expressions_of}
use Rattle.form_typed.specs.declared.typed.Sort.{Sort}
use Rattle.form_typed.specs.declared.typed.Typed.{Typed}
use Rattle.form_typed.specs.declared.typed.TypedTerm.{TypedTerm}
use Rattle.pri_typing.specs.WellFormed.{HasArity}
use Rattle.pri_printer.specs.Printed.{constants_of}
use Rattle.itp_printer.specs.Text.{applied_text, grouped, joined_text}
use Rattle.itp_printer.proofs.Referring.{arity_within}
use Rattle.itp_printer.specs.Pieces.{arguments_text, binder_text, separated}
use Rattle.std.proofs.lemmas.Bool.Decides.{nat_tests}
use Rattle.pri_typing.specs.declared.problem.Problem.{Problem}
use Rattle.pri_typing.specs.declared.problem.Symbol.{Symbol}
use Rattle.itp_printer.specs.TypedText.{bound_text, quantifier_text, sort_text, formula_text, formula_texts, name_text, term_texts}
use Rattle.itp_printer.specs.Variables.{variable_name, variable_number, variable_text}

less_is : (x n : ℕ) → x < n → nat_lt x n ≡ true
less_is x n h = grind (arith, nat_tests)

less_is_not : (x n : ℕ) → n ≤ x → nat_lt x n ≡ false
less_is_not x n h = grind (arith, nat_tests)

pub constant_is : (p : Problem) (x : ℕ) → x < length (constants_of p) → name_text p x ≡ get_or (constants_of p) x []
constant_is p x h = ap (λ c. cond c (get_or (constants_of p) x []) (variable_text p (x - length (constants_of p)))) (less_is x (length (constants_of p)) h)

pub variable_is : (p : Problem) (x : ℕ) → length (constants_of p) ≤ x → name_text p x ≡ variable_name (variable_number p (x - length (constants_of p)))
variable_is p x h = ap (λ c. cond c (get_or (constants_of p) x []) (variable_text p (x - length (constants_of p)))) (less_is_not x (length (constants_of p)) h)

-- One text after another.

pub two_texts : (o0 o1 o2 a b e : List ℕ) → o1 ≡ o0 ++ a → o2 ≡ o1 ++ b → e ≡ a ++ b → o2 ≡ o0 ++ e
two_texts o0 o1 o2 a b e h k m = k ∙ ap (λ o. o ++ b) h ∙ append_assoc o0 a b ∙ ap (λ z. o0 ++ z) (sym m)

pub three_texts : (o0 o1 o2 o3 a b d e : List ℕ) → o1 ≡ o0 ++ a → o2 ≡ o1 ++ b → o3 ≡ o2 ++ d → e ≡ a ++ (b ++ d) → o3 ≡ o0 ++ e
three_texts o0 o1 o2 o3 a b d e h k l m = l ∙ ap (λ o. o ++ d) (two_texts o0 o1 o2 a b (a ++ b) h k refl) ∙ append_assoc o0 (a ++ b) d ∙ ap (λ z. o0 ++ z) (append_assoc a b d ∙ sym m)

pub six_texts : (o0 o1 o2 o3 o4 o5 o6 a b d f g i e : List ℕ) → o1 ≡ o0 ++ a → o2 ≡ o1 ++ b → o3 ≡ o2 ++ d → o4 ≡ o3 ++ f → o5 ≡ o4 ++ g → o6 ≡ o5 ++ i
    → e ≡ a ++ (b ++ (d ++ (f ++ (g ++ i)))) → o6 ≡ o0 ++ e
six_texts o0 o1 o2 o3 o4 o5 o6 a b d f g i e h1 h2 h3 h4 h5 h6 m =
    three_texts o0 o1 o2 o6 a b (d ++ (f ++ (g ++ i))) e h1 h2
    (two_texts o2 o3 o6 d (f ++ (g ++ i)) (d ++ (f ++ (g ++ i))) h3 (three_texts o3 o4 o5 o6 f g i (f ++ (g ++ i)) h4 h5 h6 refl) refl) m

pub separated-cons : (sign : List ℕ) (s : Bool) (u : List ℕ) (us : List (List ℕ)) → separated sign s (u ∷ us) ≡ cond s sign [] ++ (u ++ separated sign true us)
separated-cons sign true u us = refl
separated-cons sign false u us = refl

pub ruleset separating = separated-cons

-- Symbols with their arguments.

applied_is : (symbol : List ℕ) (us : List (List ℕ)) → applied_text symbol us ≡ symbol ++ arguments_text us
applied_is symbol [] = sym (append-nil symbol)
applied_is symbol (u ∷ us) = refl

pub applied_texts : (o0 o1 o2 n symbol e : List ℕ) (us vs : List (List ℕ)) → o1 ≡ o0 ++ n → n ≡ symbol → o2 ≡ o1 ++ arguments_text us → us ≡ vs → e ≡ applied_text symbol vs → o2 ≡ o0 ++ e
applied_texts o0 o1 o2 n symbol e us vs h i k j m =
    two_texts o0 o1 o2 n (arguments_text us) e h k (m ∙ applied_is symbol vs ∙ (λ x. sym i x ++ arguments_text (sym j x)))

pub arity_below : (ys : List Symbol) (k n : ℕ) → HasArity ys k n → k < length ys
arity_below ys k n h = subst (λ z. k < z) (length-names ys) (arity_within ys k n h)
  where
    length-names : (zs : List Symbol) → length (map (λ y. y.name) zs) ≡ length zs
    length-names [] = refl
    length-names (z ∷ zs) = ap suc (length-names zs)

pub arguments_are : (p : Problem) (d : ℕ) (ts : List TypedTerm) (b : Bool) → b ≡ (length ts == 0) → b ≡ false
    → arguments_text (term_texts p d (expressions_of ts)) ≡ (40 ∷ []) ++ (separated (44 ∷ 32 ∷ []) false (term_texts p d (expressions_of ts)) ++ (41 ∷ []))
arguments_are p d [] b h k = absurd (true≢false (sym h ∙ k))
arguments_are p d (t ∷ ts) b h k = refl

-- Lists of operands.

pub only_formula : (p : Problem) (d : ℕ) (none sign : List ℕ) (fs : List Typed) → length fs ≡ 1 → concat (formula_texts p d (formulas_of fs)) ≡ joined_text none sign (formula_texts p d (formulas_of fs))
only_formula p d none sign [] l = absurd (omega (arith, l))
only_formula p d none sign (f ∷ []) l = append-nil _
only_formula p d none sign (f ∷ g ∷ fs) l = absurd (omega (arith, l))

pub more_formulas : (p : Problem) (d : ℕ) (none sign : List ℕ) (fs : List Typed) (b : Bool) → length fs ≢ 1 → b ≡ (length fs == 0) → b ≡ false
    → separated sign false (map grouped (formula_texts p d (formulas_of fs))) ≡ joined_text none sign (formula_texts p d (formulas_of fs))
more_formulas p d none sign [] b l h k = absurd (true≢false (sym h ∙ k))
more_formulas p d none sign (f ∷ []) b l h k = absurd (l refl)
more_formulas p d none sign (f ∷ g ∷ fs) b l h k = refl

pub only_term : (p : Problem) (d : ℕ) (none sign : List ℕ) (ts : List TypedTerm) → length ts ≡ 1 → concat (term_texts p d (expressions_of ts)) ≡ joined_text none sign (term_texts p d (expressions_of ts))
only_term p d none sign [] l = absurd (omega (arith, l))
only_term p d none sign (t ∷ []) l = append-nil _
only_term p d none sign (t ∷ u ∷ ts) l = absurd (omega (arith, l))

pub more_terms : (p : Problem) (d : ℕ) (none sign : List ℕ) (ts : List TypedTerm) (b : Bool) → length ts ≢ 1 → b ≡ (length ts == 0) → b ≡ false
    → separated sign false (map grouped (term_texts p d (expressions_of ts))) ≡ joined_text none sign (term_texts p d (expressions_of ts))
more_terms p d none sign [] b l h k = absurd (true≢false (sym h ∙ k))
more_terms p d none sign (t ∷ []) b l h k = absurd (l refl)
more_terms p d none sign (t ∷ u ∷ ts) b l h k = refl

-- Quantifiers.

pub binder_is : (all : Bool) (sort : Sort) (v u : List ℕ) → bound_text all sort v u ≡ binder_text all sort v ++ grouped u
binder_is all sort v u =
    let last = 59 ∷ 32 ∷ [] in
    sym (append_assoc (quantifier_text all) (32 ∷ (sort_text sort ++ (32 ∷ (v ++ last)))) (grouped u)
    ∙ ap (λ z. quantifier_text all ++ (32 ∷ z)) (append_assoc (sort_text sort) (32 ∷ (v ++ last)) (grouped u)
    ∙ ap (λ z. sort_text sort ++ (32 ∷ z)) (append_assoc v last (grouped u))))

pub bound_texts : (p : Problem) (d m n : ℕ) (all : Bool) (sort : Sort) (f g : Typed) (o0 o1 o2 e : List ℕ) → n ≡ variable_number p d → m ≡ suc d → g ≡ f
    → o1 ≡ o0 ++ binder_text all sort (variable_name n) → o2 ≡ o1 ++ grouped (formula_text p m (formula g))
    → e ≡ bound_text all sort (variable_text p d) (formula_text p (suc d) (formula f)) → o2 ≡ o0 ++ e
bound_texts p d m n all sort f g o0 o1 o2 e num one is h k t =
    two_texts o0 o1 o2 (binder_text all sort (variable_name n)) (grouped (formula_text p m (formula g))) e h k
    (t ∙ binder_is all sort (variable_text p d) (formula_text p (suc d) (formula f))
    ∙ (λ x. binder_text all sort (variable_name (sym num x)) ++ grouped (formula_text p (sym one x) (formula (sym is x)))))

pub on_ok : {T E A B : Type 0} (r : Result T E) → (A → B) → OnOk r A → OnOk r B
on_ok (Ok x) f a = f a
on_ok (Err x) f a = tt
