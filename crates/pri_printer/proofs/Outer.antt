-- A normal form over the first names does not depend on the others.
use Rattle.std.proofs.Common.{◌≡◌, ℕ, ◌≤◌, ◌+◌, ◌↔◌, true, not, List, [], ◌∷◌, ◌++◌, length, refl, sym, ap, subst, ◌∙◌, arith, ℤ, pos, ◌+ℤ◌, int_le, length-append, map}
use Rattle.std.proofs.lemmas.List.{length-map}
use Rattle.pri_typing.specs.Problems.{IsTrueAt}
use Rattle.std.specs.Prelude.{unsigned_abs}
use Rattle.std.specs.Ordering.{int_eq}
use Rattle.base_integers.specs.Divides.{divides}
use Rattle.base_integers.proofs.Entries.{entry-append_left}
use Rattle.linear_term.specs.Linear.{Linear, value_of, value_at, total}
use Rattle.form_typed.specs.Truth.{Meaning, Truth}
use Rattle.clause_set.specs.declared.literal.Literal.{Literal}
use Rattle.clause_set.specs.declared.literal.Literal.TheVariants.{Eq, Geq, Div, NDiv}
use Rattle.pri_typing.specs.declared.problem.Problem.{Problem}
use Rattle.clause_set.specs.Literals.{literal_truth, clause_truth, dnf_truth, term_of}
use Rattle.pri_printer.specs.Formulas.{normal_form_formula}
use Rattle.pri_printer.specs.Names.{PairNames, IsVariableBelow, LiteralNames, ClauseNames, DnfNames}
use Rattle.pri_printer.specs.Printed.{constants_of, dnf_formula}
use Rattle.pri_printer.proofs.Truths.{normal_form_true}

total-outer : (e u : List ℤ) (ps : List (ℕ × ℤ)) → PairNames (IsVariableBelow (length e)) ps → total (value_at (e ++ u)) ps ≡ total (value_at e) ps
total-outer e u [] h = refl
total-outer e u (p ∷ ps) h = rw (entry-append_left e u p.0 h.0, total-outer e u ps h.1) refl

value-outer : (e u : List ℤ) (t : Linear) → PairNames (IsVariableBelow (length e)) t.pairs → value_of t (e ++ u) ≡ value_of t e
unfolding value_of
value-outer e u t h = ap (λ z. z +ℤ t.constant) (total-outer e u t.pairs h)

literal-outer : (e u : List ℤ) (l : Literal) → LiteralNames (IsVariableBelow (length e)) l → literal_truth l (e ++ u) ≡ literal_truth l e
literal-outer e u (Eq t) h = ap (λ z. int_eq z (pos 0)) (value-outer e u t h)
literal-outer e u (Geq t) h = ap (int_le (pos 0)) (value-outer e u t h)
literal-outer e u (Div d t) h = ap (divides (unsigned_abs d)) (value-outer e u t h)
literal-outer e u (NDiv d t) h = ap (λ z. not (divides (unsigned_abs d) z)) (value-outer e u t h)

clause-outer : (e u : List ℤ) (ls : List Literal) → ClauseNames (IsVariableBelow (length e)) ls → clause_truth ls (e ++ u) ≡ clause_truth ls e
clause-outer e u [] h = refl
clause-outer e u (l ∷ ls) h = rw (literal-outer e u l h.0, clause-outer e u ls h.1) refl

outer : (e u : List ℤ) (cs : List (List Literal)) → DnfNames (IsVariableBelow (length e)) cs → dnf_truth cs (e ++ u) ≡ dnf_truth cs e
outer e u [] h = refl
outer e u (c ∷ cs) h = rw (clause-outer e u c h.0, outer e u cs h.1) refl

below_more : (m n : ℕ) (ps : List (ℕ × ℤ)) → m ≤ n → PairNames (IsVariableBelow m) ps → PairNames (IsVariableBelow n) ps
below_more m n [] l h = tt
below_more m n (p ∷ ps) l h = (omega (arith, h.0), below_more m n ps l h.1)

clause_more : (m n : ℕ) (ls : List Literal) → m ≤ n → ClauseNames (IsVariableBelow m) ls → ClauseNames (IsVariableBelow n) ls
clause_more m n [] l h = tt
clause_more m n (c ∷ cs) l h = (below_more m n (term_of c).pairs l h.0, clause_more m n cs l h.1)

clauses_more : (m n : ℕ) (cs : List (List Literal)) → m ≤ n → DnfNames (IsVariableBelow m) cs → DnfNames (IsVariableBelow n) cs
clauses_more m n [] l h = tt
clauses_more m n (c ∷ cs) l h = (clause_more m n c l h.0, clauses_more m n cs l h.1)

printed_true : (w : Meaning) (p : Problem) (d : List (List Literal)) (e u : List ℤ) → length e ≡ length p.existentials → length u ≡ length p.universals
    → DnfNames (IsVariableBelow (length e)) d → Truth w (dnf_formula p d) (e ++ u) ↔ (dnf_truth d e ≡ true)
printed_true w p d e u h k o =
    let n : length (e ++ u) ≡ length (constants_of p) = length-append e u ∙ ap (λ z. z + length u) h ∙ ap (λ z. length p.existentials + z) k ∙ sym (length-append p.existentials p.universals) in
    let t = normal_form_true w (e ++ u) d (clauses_more (length e) (length (e ++ u)) d (omega (arith, length-append e u)) o) in
    let s = outer e u d o in (
      λ a. sym s ∙ t.0 (subst (λ z. Truth w (normal_form_formula z d) (e ++ u)) (sym n) a),
      λ b. subst (λ z. Truth w (normal_form_formula z d) (e ++ u)) n (t.1 (s ∙ b)),
    )

-- at the values of all constants
pub constants_true : (w : Meaning) (p : Problem) (d : List (List Literal)) (e : List ℤ) → DnfNames (IsVariableBelow (length (constants_of p))) d
    → length e ≡ length (constants_of p) → Truth w (dnf_formula p d) e ↔ (dnf_truth d e ≡ true)
constants_true w p d e o h =
    let t = normal_form_true w e d (subst (λ n. DnfNames (IsVariableBelow n) d) (sym h) o) in
    (λ a. t.0 (subst (λ z. Truth w (normal_form_formula z d) e) (sym h) a), λ b. subst (λ z. Truth w (normal_form_formula z d) e) h (t.1 b))

zeros : List (List ℕ) → List ℤ
zeros = map (λ x. pos 0)

zeros_many : (xs : List (List ℕ)) → length (zeros xs) ≡ length xs
unfolding zeros
zeros_many xs = length-map xs (λ x. pos 0)

-- at the values of the existential constants, where the normal form is over them
pub existentials_true : (w : Meaning) (p : Problem) (d : List (List Literal)) (e : List ℤ) → DnfNames (IsVariableBelow (length p.existentials)) d
    → length e ≡ length p.existentials → IsTrueAt w p (dnf_formula p d) e ↔ (dnf_truth d e ≡ true)
existentials_true w p d e o h =
    let over = subst (λ n. DnfNames (IsVariableBelow n) d) (sym h) o in (
      λ a. (printed_true w p d e (zeros p.universals) h (zeros_many p.universals) over).0 (a.is (zeros p.universals) (zeros_many p.universals)),
      λ b. record { many = h; is = λ u k. (printed_true w p d e u h k over).1 b },
    )
