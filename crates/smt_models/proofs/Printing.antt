-- Pieces of the texts of tables.
use Rattle.std.proofs.Common.{◌≡◌, ℕ, zero, suc, ◌+◌, ◌-◌, ◌<◌, ℤ, Bool, List, [], ◌∷◌, ◌++◌, Result, refl, sym, ap, ◌∙◌, append_assoc, append-nil, arith, replicate, length}
use Rattle.std.specs.Prelude.{codes, drop}
use Rattle.std.specs.List.{flat_map}
use Rattle.std.specs.Result.{OnOk}
use Rattle.std.proofs.lemmas.Result.{on_ok_weaker}
use Rattle.model_table.specs.declared.model.TruthEntry.{TruthEntry}
use Rattle.model_table.specs.declared.model.ValueEntry.{ValueEntry}
use Rattle.smt_terms.specs.Term.{phrases}
use Rattle.smt_models.specs.Printed.{text, texts}
use Rattle.smt_models.specs.Terms.{all_terms, equation, equations, integer_term, truth_term, truths_term, values_term}
use Rattle.smt_models.specs.Rows.{truth_row_text, value_row_text}

-- the three arguments of `ite`
three : (c v q : List ℕ) → c ++ ((codes " " ++ (v ++ (codes " " ++ (q ++ [])))) ++ codes ")") ≡ (c ++ (codes " " ++ (v ++ codes " "))) ++ (q ++ codes ")")
three c v q =
    ap (λ z. c ++ (32 ∷ z)) (append_assoc v (32 ∷ (q ++ [])) (codes ")") ∙ ap (λ z. v ++ (32 ∷ (z ++ codes ")"))) (append-nil q) ∙ sym (append_assoc v (codes " ") (q ++ codes ")")))
    ∙ sym (append_assoc c (codes " " ++ (v ++ codes " ")) (q ++ codes ")"))

value_row : (row : ValueEntry) (rows : List ValueEntry) (d : ℤ) → text (values_term (row ∷ rows) d) ≡ value_row_text row ++ (text (values_term rows d) ++ codes ")")
value_row row rows d = ap (λ z. codes "(ite " ++ z) (three (text (all_terms (equations 0 row.at))) (text (integer_term row.value)) (text (values_term rows d)))

truth_row : (row : TruthEntry) (rows : List TruthEntry) (d : Bool) → text (truths_term (row ∷ rows) d) ≡ truth_row_text row ++ (text (truths_term rows d) ++ codes ")")
truth_row row rows d = ap (λ z. codes "(ite " ++ z) (three (text (all_terms (equations 0 row.at))) (text (truth_term row.truth)) (text (truths_term rows d)))

closes_swap : (n : ℕ) → replicate n 41 ++ codes ")" ≡ codes ")" ++ replicate n 41
closes_swap zero = refl
closes_swap (suc n) = ap (λ z. codes ")" ++ z) (closes_swap n)

-- one row more
row_more : (row rows default left : List ℕ) (n : ℕ) → left ≡ rows ++ (default ++ replicate n 41) → row ++ (left ++ codes ")") ≡ (row ++ rows) ++ (default ++ replicate (suc n) 41)
row_more row rows default left n h =
    ap (λ z. row ++ (z ++ codes ")")) h
    ∙ ap (λ z. row ++ z) (append_assoc rows (default ++ replicate n 41) (codes ")") ∙ ap (λ z. rows ++ z) (append_assoc default (replicate n 41) (codes ")") ∙ ap (λ z. default ++ z) (closes_swap n)))
    ∙ sym (append_assoc row rows (default ++ replicate (suc n) 41))

values_text : (rows : List ValueEntry) (d : ℤ) → text (values_term rows d) ≡ flat_map value_row_text rows ++ (text (integer_term d) ++ replicate (length rows) 41)
values_text [] d = sym (append-nil (text (integer_term d)))
values_text (row ∷ rows) d = value_row row rows d ∙ row_more (value_row_text row) (flat_map value_row_text rows) (text (integer_term d)) (text (values_term rows d)) (length rows) (values_text rows d)

truths_text : (rows : List TruthEntry) (d : Bool) → text (truths_term rows d) ≡ flat_map truth_row_text rows ++ (text (truth_term d) ++ replicate (length rows) 41)
truths_text [] d = sym (append-nil (text (truth_term d)))
truths_text (row ∷ rows) d = truth_row row rows d ∙ row_more (truth_row_text row) (flat_map truth_row_text rows) (text (truth_term d)) (text (truths_term rows d)) (length rows) (truths_text rows d)

-- a table in three pieces: its rows, its default, and a parenthesis for each row
table_end : {A E : Type 0} (r : Result A E) (out a b end rows default whole : List ℕ) (n : ℕ) → whole ≡ rows ++ (default ++ replicate n 41) → a ≡ out ++ rows → b ≡ a ++ default
    → OnOk r (end ≡ b ++ replicate n 41) → OnOk r (end ≡ out ++ whole)
table_end r out a b end rows default whole n w first second e =
    on_ok_weaker r (λ is. is ∙ ap (λ z. z ++ replicate n 41) (second ∙ ap (λ z. z ++ default) first) ∙ append_assoc (out ++ rows) default (replicate n 41)
    ∙ append_assoc out rows (default ++ replicate n 41) ∙ ap (λ z. out ++ z) (sym w)) e

pub values_end : {A E : Type 0} (r : Result A E) (out a b end : List ℕ) (rows : List ValueEntry) (d : ℤ) → a ≡ out ++ flat_map value_row_text rows → b ≡ a ++ text (integer_term d)
    → OnOk r (end ≡ b ++ replicate (length rows) 41) → OnOk r (end ≡ out ++ text (values_term rows d))
values_end r out a b end rows d first second e =
    table_end r out a b end (flat_map value_row_text rows) (text (integer_term d)) (text (values_term rows d)) (length rows) (values_text rows d) first second e

pub truths_end : {A E : Type 0} (r : Result A E) (out a b end : List ℕ) (rows : List TruthEntry) (d : Bool) → a ≡ out ++ flat_map truth_row_text rows → b ≡ a ++ text (truth_term d)
    → OnOk r (end ≡ b ++ replicate (length rows) 41) → OnOk r (end ≡ out ++ text (truths_term rows d))
truths_end r out a b end rows d first second e =
    table_end r out a b end (flat_map truth_row_text rows) (text (truth_term d)) (text (truths_term rows d)) (length rows) (truths_text rows d) first second e

-- one more parenthesis
pub closes_step : (out mid done : List ℕ) (n k : ℕ) → k < n → mid ≡ out ++ codes ")" → out ++ replicate (n - k) 41 ≡ done → mid ++ replicate (n - (k + 1)) 41 ≡ done
closes_step out mid done n k lt m h =
    let one : n - k ≡ suc (n - (k + 1)) = omega (arith, lt) in
    ap (λ z. z ++ replicate (n - (k + 1)) 41) m ∙ append_assoc out (codes ")") (replicate (n - (k + 1)) 41) ∙ ap (λ j. out ++ replicate j 41) (sym one) ∙ h

-- one equation of those that are left
pub equations_step : (out a b done : List ℕ) (at : List ℤ) (i : ℕ) (v : ℤ) → drop i at ≡ v ∷ drop (i + 1) at → a ≡ out ++ codes " " → b ≡ a ++ text (equation i v)
    → out ++ texts (phrases (equations i (drop i at))) ≡ done → b ++ texts (phrases (equations (i + 1) (drop (i + 1) at))) ≡ done
equations_step out a b done at i v left first second h =
    let rest = texts (phrases (equations (suc i) (drop (i + 1) at))) in
    let one : i + 1 ≡ suc i = omega arith in
    ap (λ z. b ++ texts (phrases (equations z (drop (i + 1) at)))) one
    ∙ ap (λ z. z ++ rest) (second ∙ ap (λ z. z ++ text (equation i v)) first)
    ∙ append_assoc (out ++ codes " ") (text (equation i v)) rest ∙ append_assoc out (codes " ") (text (equation i v) ++ rest)
    ∙ ap (λ z. out ++ texts (phrases (equations i z))) (sym left) ∙ h

-- several equations
pub several : (v : ℤ) (more : List ℤ) → ¬ (more ≡ []) → text (all_terms (equations 0 (v ∷ more))) ≡ codes "(and" ++ (texts (phrases (equations 0 (v ∷ more))) ++ codes ")")
several v [] some = absurd (some refl)
several v (w ∷ ws) some =
    ap (λ z. codes "(and " ++ z) (sym (append_assoc (text (equation 0 v)) (texts (phrases (equations 1 (w ∷ ws)))) (codes ")")))

pub place_end : (out a b end : List ℕ) (at more : List ℤ) (v : ℤ) → at ≡ v ∷ more → ¬ (more ≡ []) → a ≡ out ++ codes "(and" → b ≡ a ++ texts (phrases (equations 0 at)) → end ≡ b ++ codes ")"
    → end ≡ out ++ text (all_terms (equations 0 at))
place_end out a b end at more v is some first second third =
    let whole : text (all_terms (equations 0 at)) ≡ codes "(and" ++ (texts (phrases (equations 0 at)) ++ codes ")") =
    ap (λ z. text (all_terms (equations 0 z))) is ∙ several v more some ∙ ap (λ z. codes "(and" ++ (texts (phrases (equations 0 z)) ++ codes ")")) (sym is) in
    third ∙ ap (λ z. z ++ codes ")") (second ∙ ap (λ z. z ++ texts (phrases (equations 0 at))) first)
    ∙ append_assoc (out ++ codes "(and") (texts (phrases (equations 0 at))) (codes ")") ∙ append_assoc out (codes "(and") (texts (phrases (equations 0 at)) ++ codes ")") ∙ ap (λ z. out ++ z) (sym whole)
