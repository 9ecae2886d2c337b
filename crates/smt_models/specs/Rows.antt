-- The texts of rows.
use Rattle.std.specs.Prelude.{ℕ, List, ◌++◌, codes}
use Rattle.model_table.specs.declared.model.TruthEntry.{TruthEntry}
use Rattle.model_table.specs.declared.model.ValueEntry.{ValueEntry}
use Rattle.smt_models.specs.Printed.{text}
use Rattle.smt_models.specs.Terms.{all_terms, equations, integer_term, truth_term}

-- the beginning of the term of a table, up to the term of the rows behind this one
abbrev pub value_row_text : ValueEntry → List ℕ
value_row_text row = codes "(ite " ++ (text (all_terms (equations 0 row.at)) ++ (codes " " ++ (text (integer_term row.value) ++ codes " ")))

abbrev pub truth_row_text : TruthEntry → List ℕ
truth_row_text row = codes "(ite " ++ (text (all_terms (equations 0 row.at)) ++ (codes " " ++ (text (truth_term row.truth) ++ codes " ")))
