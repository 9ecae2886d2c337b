-- What it means of the assertions of a check that its problem holds or is refuted.
use Rattle.std.proofs.Common.{◌≡◌, ℕ, ℤ, List, [], ◌∷◌, ◌++◌, length, sym, ap, subst, ◌∙◌, arith}
use Rattle.std.specs.List.{Contains}
use Rattle.std.proofs.lemmas.List.Elements.{All-contains, Contains-append_right, Contains-get_or}
use Rattle.form_typed.specs.Sorts.{AreValuesOf}
use Rattle.form_typed.specs.Formula.{formula}
use Rattle.form_typed.specs.Truth.{Meaning, Truth}
use Rattle.pri_typing.specs.declared.problem.Problem.{Problem}
use Rattle.pri_typing.specs.Files.{all_int}
use Rattle.pri_typing.specs.Problems.{finite_meaning}
use Rattle.smt_terms.specs.Scripts.{CheckLaw, Command, IsSatisfied, State, after, check, checks, checks_from, claim, declare, define, start}
use Rattle.smt_terms.proofs.Scripts.{checks_law}
use Rattle.smt_reader.specs.Commands.{all_after, state_of}
use Rattle.smt_reader.specs.Posed.{IsCheckPosed, MeansSatisfiable, MeansUnsatisfiable}

-- what commands come to is what a check after them asks of
asked : (s : State) (cs : List Command) → Contains (checks_from s (cs ++ check ∷ [])) (all_after s cs)
asked s [] = Contains-get_or (s ∷ []) 0 s (omega arith)
asked s (declare x n k ∷ cs) = asked (after s (declare x n k)) cs
asked s (define x xs k t ∷ cs) = asked (after s (define x xs k t)) cs
asked s (claim t ∷ cs) = asked (after s (claim t)) cs
asked s (check ∷ cs) = Contains-append_right (s ∷ []) (checks_from s (cs ++ check ∷ [])) (all_after s cs) (asked s cs)

law_of : (cs : List Command) → CheckLaw (state_of cs)
law_of cs = All-contains CheckLaw (checks (cs ++ check ∷ [])) (state_of cs) (checks_law (cs ++ check ∷ [])) (asked start cs)

-- every integer is of the type Int
integers : (xs : List (List ℕ)) (u : List ℤ) → length u ≡ length xs → AreValuesOf (all_int xs) u
integers [] [] h = tt
integers [] (v ∷ u) h = absurd (omega (arith, h))
integers (x ∷ xs) [] h = absurd (omega (arith, h))
integers (x ∷ xs) (v ∷ u) h = (tt, integers xs u (omega (arith, h)))

pub unsatisfiable : (cs : List Command) (p : Problem) → MeansUnsatisfiable cs p
unsatisfiable cs p posed w holds u l =
    let is : length u ≡ length p.universals = l ∙ sym (ap length posed.universals) in
    let typed = subst (λ z. AreValuesOf z u) (sym posed.universal_types) (integers (state_of cs).constants u l) in
    ((law_of cs).true_where w u l).0 (subst (λ f. Truth w f u) posed.formula (holds.is u is typed))

pub satisfiable : (cs : List Command) (p : Problem) → MeansSatisfiable cs p
satisfiable cs p posed refuted =
    let at = refuted [] (sym (ap length posed.existentials)) (subst (λ z. AreValuesOf z []) (sym posed.existential_types) tt) in
    let fits : length at.universals ≡ length (state_of cs).constants = at.fit ∙ ap length posed.universals in
    record {
      interpretation = at.interpretation;
      constants = at.universals;
      fit = fits;
      satisfies = ((law_of cs).false_where (finite_meaning at.interpretation) at.universals fits).0 (subst (λ f. ¬ (Truth (finite_meaning at.interpretation) f at.universals)) posed.formula at.fails);
    }

-- at a counterexample of its problem the assertions of a check are true
pub satisfied : (cs : List Command) (p : Problem) (w : Meaning) (us : List ℤ) → IsCheckPosed (state_of cs) p → length us ≡ length p.universals → ¬ (Truth w (formula p.formula) us) → IsSatisfied w us (state_of cs)
satisfied cs p w us posed fit fails = ((law_of cs).false_where w us (fit ∙ ap length posed.universals)).0 (subst (λ f. ¬ (Truth w f us)) posed.formula fails)
