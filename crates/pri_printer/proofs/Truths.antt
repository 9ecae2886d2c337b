-- The formula that a normal form is printed as is true where the normal form is.
use Rattle.std.proofs.Common.{ℕ, ◌≡◌, ◌+◌, ◌↔◌, ◌&&◌, ◌||◌, Bool, true, false, not, List, [], ◌∷◌, ◌++◌, length, map, refl, sym, ap, subst, ◌∙◌, arith, ℤ, pos, negsuc, ◌+ℤ◌, ◌*ℤ◌, ◌≤ℤ◌, int_le}
use Rattle.std.specs.Prelude.{unsigned_abs}
use Rattle.std.proofs.lemmas.Bool.{false≢true}
use Rattle.std.proofs.lemmas.Bool.Decides.{Decides-int_eq, nat_tests}
use borrow.Author.Differences.{ints}
use Rattle.base_integers.specs.Entry.{entry}
use Rattle.base_integers.specs.Divides.{divides}
use Rattle.base_integers.proofs.Divisors.{Divides_from_test, test_from_Divides}
use Rattle.base_integers.proofs.Entries.{entry-append_left, entry-append_right}
use Rattle.linear_term.specs.Linear.{Linear, value_of, value_at, total}
use Rattle.form_typed.specs.Formula.{formulas}
use Rattle.form_typed.specs.Truth.{Meaning, Truth, HasValue, AreAllTrue, AreAllFalse}
use Rattle.form_typed.proofs.Stability.{test_stable}
use Rattle.clause_set.specs.declared.literal.Literal.{Literal}
use Rattle.clause_set.specs.declared.literal.Literal.TheVariants.{Eq, Geq, Div, NDiv}
use Rattle.clause_set.specs.Literals.{literal_truth, clause_truth, dnf_truth}
use Rattle.pri_printer.specs.Formulas.{term_value, divides_formula, literal_formula, clause_formula, normal_form_formula}
use Rattle.pri_printer.specs.Names.{PairNames, IsVariableBelow, LiteralNames, ClauseNames, DnfNames}
use Rattle.pri_printer.proofs.Values.{term_has}

by_path : {A B : Type 0} → A ≡ B → A ↔ B
by_path p = (subst (λ X. X) p, subst (λ X. X) (sym p))

through : {A B C : Type 0} → A ↔ B → B ↔ C → A ↔ C
through f g = (λ a. g.0 (f.0 a), λ c. f.1 (g.1 c))

total-append : (e : List ℤ) (v : ℤ) (ps : List (ℕ × ℤ)) → PairNames (IsVariableBelow (length e)) ps → total (value_at (e ++ v ∷ [])) ps ≡ total (value_at e) ps
total-append e v [] h = refl
total-append e v (p ∷ ps) h = rw (entry-append_left e (v ∷ []) p.0 h.0, total-append e v ps h.1) refl

value-append : (e : List ℤ) (v : ℤ) (t : Linear) → PairNames (IsVariableBelow (length e)) t.pairs → value_of t (e ++ v ∷ []) ≡ value_of t e
unfolding value_of
value-append e v t h = ap (λ z. z +ℤ t.constant) (total-append e v t.pairs h)

last-entry : (e : List ℤ) (v : ℤ) → entry (e ++ v ∷ []) (length e) ≡ v
last-entry e v =
    let z : length e ≡ length e + 0 = omega arith in
    ap (entry (e ++ v ∷ [])) z ∙ entry-append_right e (v ∷ []) 0

swap : (z q : ℤ) (d : ℕ) → z ≡ q *ℤ pos d → z ≡ pos d *ℤ q
swap z q d h = omega (arith, ints)

swap_back : (z q : ℤ) (d : ℕ) → z ≡ pos d *ℤ q → z ≡ q *ℤ pos d
swap_back z q d h = omega (arith, ints)

-- what the body of a divisibility says of the quotient
body_is : (w : Meaning) (e : List ℤ) (v : ℤ) (d : ℕ) (t : Linear) → PairNames (IsVariableBelow (length e)) t.pairs
    → HasValue w (term_value t) (e ++ v ∷ []) (λ x. x ≡ pos d *ℤ entry (e ++ v ∷ []) (length e)) ≡ (value_of t e ≡ pos d *ℤ v)
body_is w e v d t h =
    term_has w (e ++ v ∷ []) t.pairs t.constant (λ x. x ≡ pos d *ℤ entry (e ++ v ∷ []) (length e))
    ∙ ap (λ z. z ≡ pos d *ℤ entry (e ++ v ∷ []) (length e)) (value-append e v t h)
    ∙ ap (λ z. value_of t e ≡ pos d *ℤ z) (last-entry e v)

divides_true : (w : Meaning) (e : List ℤ) (d : ℤ) (t : Linear) → PairNames (IsVariableBelow (length e)) t.pairs
    → Truth w (divides_formula (length e) d t) e ↔ (divides (unsigned_abs d) (value_of t e) ≡ true)
divides_true w e d t h = (
  λ u. test_stable _ (λ no. u (λ v i b. no (test_from_Divides (unsigned_abs d) (value_of t e)
      (record { quotient = v; is = swap_back _ v (unsigned_abs d) ((by_path (body_is w e v (unsigned_abs d) t h)).0 b) })))),
  λ b all. let q = Divides_from_test (unsigned_abs d) (value_of t e) b in
      all q.quotient tt ((by_path (body_is w e q.quotient (unsigned_abs d) t h)).1 (swap _ q.quotient (unsigned_abs d) q.is)),
)

not_true : (b : Bool) → (¬ (b ≡ true)) ↔ (not b ≡ true)
not_true true = (λ h. absurd (h refl), λ h. absurd (false≢true h))
not_true false = (λ h. refl, λ h e. false≢true e)

at_least_zero : (z : ℤ) → (pos 0 ≤ℤ z) ↔ (int_le (pos 0) z ≡ true)
at_least_zero (pos n) = (λ h. grind (arith, nat_tests), λ h. grind (arith, ints))
at_least_zero (negsuc n) = (λ h. absurd (grind (arith, ints)), λ h. absurd (false≢true h))

pub literal_true : (w : Meaning) (e : List ℤ) (l : Literal) → LiteralNames (IsVariableBelow (length e)) l → Truth w (literal_formula (length e) l) e ↔ (literal_truth l e ≡ true)
literal_true w e (Eq t) h =
    let d = Decides-int_eq (value_of t e) (pos 0) in
    through (by_path (term_has w e t.pairs t.constant (λ x. x ≡ pos 0))) (d.1, d.0)
literal_true w e (Geq t) h =
    through (by_path (term_has w e t.pairs t.constant (λ x. pos 0 ≤ℤ x))) (at_least_zero (value_of t e))
literal_true w e (Div d t) h = divides_true w e d t h
literal_true w e (NDiv d t) h =
    let i = divides_true w e d t h in
    through (λ no b. no (i.1 b), λ no u. no (i.0 u)) (not_true (divides (unsigned_abs d) (value_of t e)))

both_true : (a b : Bool) → ((a ≡ true) × (b ≡ true)) ↔ ((a && b) ≡ true)
both_true true b = (λ h. h.1, λ h. (refl, h))
both_true false b = (λ h. absurd (false≢true h.0), λ h. absurd (false≢true h))

alone_true : (a : Bool) → (a ≡ true) ↔ ((a && true) ≡ true)
alone_true true = (λ h. h, λ h. h)
alone_true false = (λ h. h, λ h. h)

all_true : (w : Meaning) (e : List ℤ) (ls : List Literal) → ClauseNames (IsVariableBelow (length e)) ls
    → AreAllTrue w (formulas (map (literal_formula (length e)) ls)) e ↔ (clause_truth ls e ≡ true)
all_true w e [] h = (λ u. refl, λ u. tt)
all_true w e (l ∷ ls) h =
    let i = literal_true w e l h.0 in let j = all_true w e ls h.1 in
    through (λ u. (i.0 u.0, j.0 u.1), λ u. (i.1 u.0, j.1 u.1)) (both_true (literal_truth l e) (clause_truth ls e))

pub clause_true : (w : Meaning) (e : List ℤ) (ls : List Literal) → ClauseNames (IsVariableBelow (length e)) ls
    → Truth w (clause_formula (length e) ls) e ↔ (clause_truth ls e ≡ true)
clause_true w e [] h = (λ u. u, λ u. u)
clause_true w e (l ∷ []) h = through (literal_true w e l h.0) (alone_true (literal_truth l e))
clause_true w e (l ∷ m ∷ ls) h = all_true w e (l ∷ m ∷ ls) h

either_true : (a b : Bool) → ((¬ (a ≡ true)) × (b ≡ false)) ↔ ((a || b) ≡ false)
either_true true b = (λ h. absurd (h.0 refl), λ h. absurd (false≢true (sym h)))
either_true false b = (λ h. h.1, λ h. (false≢true, h))

all_false : (w : Meaning) (e : List ℤ) (cs : List (List Literal)) → DnfNames (IsVariableBelow (length e)) cs
    → AreAllFalse w (formulas (map (clause_formula (length e)) cs)) e ↔ (dnf_truth cs e ≡ false)
all_false w e [] h = (λ u. refl, λ u. tt)
all_false w e (c ∷ cs) h =
    let i = clause_true w e c h.0 in let j = all_false w e cs h.1 in
    through (λ u. (λ b. u.0 (i.1 b), j.0 u.1), λ u. (λ b. u.0 (i.0 b), j.1 u.1)) (either_true (clause_truth c e) (dnf_truth cs e))

or_false : (a : Bool) → (a ≡ true) ↔ ((a || false) ≡ true)
or_false true = (λ h. h, λ h. h)
or_false false = (λ h. h, λ h. h)

not_false : (b : Bool) → (¬ (b ≡ false)) ↔ (b ≡ true)
not_false true = (λ h. refl, λ h e. false≢true (sym e))
not_false false = (λ h. absurd (h refl), λ h. absurd (false≢true h))

pub normal_form_true : (w : Meaning) (e : List ℤ) (cs : List (List Literal)) → DnfNames (IsVariableBelow (length e)) cs
    → Truth w (normal_form_formula (length e) cs) e ↔ (dnf_truth cs e ≡ true)
normal_form_true w e [] h = (λ u. u, λ u. u)
normal_form_true w e (c ∷ []) h = through (clause_true w e c h.0) (or_false (clause_truth c e))
normal_form_true w e (c ∷ d ∷ cs) h =
    let i = all_false w e (c ∷ d ∷ cs) h in
    through (λ no b. no (i.1 b), λ no u. no (i.0 u)) (not_false (dnf_truth (c ∷ d ∷ cs) e))
