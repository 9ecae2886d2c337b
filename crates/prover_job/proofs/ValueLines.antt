-- The lines with values of the universal constants, before a proof.
use Rattle.std.proofs.Common.{ℕ, ℤ, ◌≡◌, ◌==◌, ◌∙◌, Bool, true, false, List, [], ◌∷◌, ◌++◌, append_assoc, refl, sym, subst, codes}
use Rattle.std.specs.List.{AllByRecursion}
use Rattle.std.proofs.lemmas.Slice.Eq.{bytes_eq-Decides}
use Rattle.base_answers.specs.Answer.{line}
use Rattle.job_values.specs.Values.{no_model}
use Rattle.model_printer.specs.Models.{functions_lines, model_text, predicates_lines}
use Rattle.pri_printer.specs.Counterexample.{lines_text}
use Rattle.pri_printer.specs.Text.{value_text, value_texts}
use Rattle.pri_typing.specs.WellFormed.{HasIdentifiers}
use Rattle.pri_typing.specs.declared.problem.Problem.{Problem}
use Rattle.pri_typing.specs.declared.problem.Symbol.{Symbol}
use Rattle.proof_file.specs.Body.{is_marker}
use Rattle.prover_job.proofs.Lines.{AreInner, IsOfLines, IsPassed, inner_word, no_lines, one_more}
use Rattle.prover_job.proofs.Printed.{AreNames, constants_inner, value_inner}
use Rattle.prover_job.proofs.TypedInner.{back_names}

abbrev IsNoBlank : ℕ → Type 0
IsNoBlank b = (b == 32) ≡ false

has_blank : (x rest : List ℕ) → AllByRecursion IsNoBlank (x ++ 32 ∷ rest) → ⊥
has_blank [] rest h = let bad = h.0 in cc
has_blank (b ∷ x) rest h = has_blank x rest h.1

-- a name with its value is not the marker, which has no blank
no_marker : (x : List ℕ) (v : ℤ) → is_marker (value_text x v) ≡ false
no_marker x v = by (is_marker (value_text x v)) refl
  where
    by : (b : Bool) → is_marker (value_text x v) ≡ b → b ≡ false
    by false is = refl
    by true is = absurd (has_blank x _ (subst (AllByRecursion IsNoBlank) (sym ((bytes_eq-Decides (value_text x v) (codes "proof:")).0 is)) (refl, (refl, (refl, (refl, (refl, (refl, tt))))))))

value_passed : (x : List ℕ) (v : ℤ) → AreInner x → IsPassed (value_text x v)
value_passed x v h = record { inner = value_inner x v h; other = no_marker x v }

-- the lines with the values of the universal constants
pub values_lines : (p : Problem) (vs : List ℤ) → HasIdentifiers p → IsOfLines (model_text p vs no_model)
values_lines p vs h =
    one_more (codes "counterexample:") _ (record { inner = inner_word (codes "counterexample:") refl; other = refl })
    (subst (λ t. IsOfLines (lines_text (value_texts p.universals vs) ++ t)) (sym (λ i. lines_text (no_truths p.predicates i) ++ lines_text (no_rows p.functions i))) (named_lines p.universals vs (back_names p.existentials p.universals (constants_inner p h))))
  where
    no_truths : (ys : List Symbol) → predicates_lines ys [] ≡ []
    no_truths [] = refl
    no_truths (y ∷ ys) = refl

    no_rows : (ys : List Symbol) → functions_lines ys [] ≡ []
    no_rows [] = refl
    no_rows (y ∷ ys) = refl

    named_lines : (names : List (List ℕ)) (us : List ℤ) → AreNames names → IsOfLines (lines_text (value_texts names us) ++ [])
    named_lines [] us k = no_lines
    named_lines (x ∷ names) [] k = no_lines
    named_lines (x ∷ names) (u ∷ us) k =
        subst IsOfLines (append_assoc (value_text x u) (10 ∷ []) (lines_text (value_texts names us) ++ []) ∙ sym (append_assoc (value_text x u) (codes "\n" ++ lines_text (value_texts names us)) []))
        (one_more (value_text x u) (lines_text (value_texts names us) ++ []) (value_passed x u k.0) (named_lines names us k.1))
