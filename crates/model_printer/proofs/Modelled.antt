-- Lines for what a model says.
use Rattle.std.proofs.Common.{◌≡◌, ◌≢◌, ℕ, ℤ, suc, ◌+◌, ◌-◌, ◌<◌, List, [], ◌∷◌, ◌++◌, cond, Result, refl, sym, ap, ◌∙◌, append_assoc, arith}
use Rattle.std.specs.Prelude.{codes, replicate}
use Rattle.std.specs.Result.{OnOk}
use Rattle.std.proofs.lemmas.Bool.{ne_eqb}
use Rattle.std.proofs.lemmas.Result.{on_ok_weaker}
use Rattle.model_table.specs.declared.model.FunctionModel.{FunctionModel}
use Rattle.model_table.specs.declared.model.PredicateModel.{PredicateModel}
use Rattle.model_table.specs.declared.model.TruthEntry.{TruthEntry}
use Rattle.model_table.specs.declared.model.ValueEntry.{ValueEntry}
use Rattle.model_table.specs.Models.{truth_in, value_in}
use Rattle.pri_printer.specs.Counterexample.{lines_text}
use Rattle.pri_printer.specs.Text.{behind_each}
use Rattle.pri_typing.specs.declared.problem.Symbol.{Symbol}
use Rattle.model_printer.specs.Models.{default_truth, default_value, function_lines, functions_lines, predicate_lines, predicates_lines, truth_lines, value_lines}

-- lines after lines
pub lines-append : (a b : List (List ℕ)) → lines_text (a ++ b) ≡ lines_text a ++ lines_text b
lines-append [] b = refl
lines-append (u ∷ us) b =
    ap (λ z. u ++ (codes "\n" ++ z)) (lines-append us b)
    ∙ sym (append_assoc u (codes "\n" ++ lines_text us) (lines_text b) ∙ ap (λ z. u ++ z) (append_assoc (codes "\n") (lines_text us) (lines_text b)))

-- ---- a text that grows towards a whole one

-- one piece of what is left
one_piece : (out mid piece rest left done : List ℕ) → mid ≡ out ++ piece → left ≡ piece ++ rest → out ++ left ≡ done → mid ++ rest ≡ done
one_piece out mid piece rest left done m l h = ap (λ z. z ++ rest) m ∙ append_assoc out piece rest ∙ ap (λ z. out ++ z) (sym l) ∙ h

-- two pieces, one after the other
two_pieces : (out mid end piece rest left : List ℕ) → mid ≡ out ++ piece → left ≡ piece ++ rest → end ≡ mid ++ rest → end ≡ out ++ left
two_pieces out mid end piece rest left m l e = e ∙ ap (λ z. z ++ rest) m ∙ append_assoc out piece rest ∙ ap (λ z. out ++ z) (sym l)

-- ---- underscores

-- one underscore of those that are left
blanks_more : (n k : ℕ) → k < n → behind_each (codes ", ") (replicate (n - k) (codes "_")) ≡ (codes ", " ++ codes "_") ++ behind_each (codes ", ") (replicate (n - (k + 1)) (codes "_"))
blanks_more n k lt =
    let one : n - k ≡ suc (n - (k + 1)) = omega (arith, lt) in
    ap (λ j. behind_each (codes ", ") (replicate j (codes "_"))) one

pub blanks_step : (out a b done : List ℕ) (n k : ℕ) → k < n → a ≡ out ++ codes ", " → b ≡ a ++ codes "_"
    → out ++ behind_each (codes ", ") (replicate (n - k) (codes "_")) ≡ done → b ++ behind_each (codes ", ") (replicate (n - (k + 1)) (codes "_")) ≡ done
blanks_step out a b done n k lt first second h =
    one_piece out b (codes ", " ++ codes "_") _ _ done (second ∙ ap (λ z. z ++ codes "_") first ∙ append_assoc out (codes ", ") (codes "_")) (blanks_more n k lt) h

-- ---- what is said of one symbol

predicate_is : (y : Symbol) (t : PredicateModel) → y.arity ≢ 0 → lines_text (predicate_lines y t) ≡ lines_text (truth_lines y.name t.default t.rows) ++ lines_text (default_truth y t.default)
predicate_is y t some =
    ap (λ b. lines_text (cond b (default_truth y (truth_in t.rows t.default [])) (truth_lines y.name t.default t.rows ++ default_truth y t.default))) (ne_eqb y.arity 0 some)
    ∙ lines-append (truth_lines y.name t.default t.rows) (default_truth y t.default)

function_is : (y : Symbol) (t : FunctionModel) → y.arity ≢ 0 → lines_text (function_lines y t) ≡ lines_text (value_lines y.name t.default t.rows) ++ lines_text (default_value y t.default)
function_is y t some =
    ap (λ b. lines_text (cond b (default_value y (value_in t.rows t.default [])) (value_lines y.name t.default t.rows ++ default_value y t.default))) (ne_eqb y.arity 0 some)
    ∙ lines-append (value_lines y.name t.default t.rows) (default_value y t.default)

pub predicate_put : {A E : Type 0} (r : Result A E) (out mid end name : List ℕ) (rows : List TruthEntry) (y : Symbol) (t : PredicateModel) → name ≡ y.name → rows ≡ t.rows → y.arity ≢ 0
    → mid ≡ out ++ lines_text (truth_lines name t.default rows) → OnOk r (end ≡ mid ++ lines_text (default_truth y t.default)) → OnOk r (end ≡ out ++ lines_text (predicate_lines y t))
predicate_put r out mid end name rows y t same these some m h =
    let lines : mid ≡ out ++ lines_text (truth_lines y.name t.default t.rows) =
    m ∙ ap (λ n. out ++ lines_text (truth_lines n t.default rows)) same ∙ ap (λ l. out ++ lines_text (truth_lines y.name t.default l)) these in
    on_ok_weaker r (two_pieces out mid end (lines_text (truth_lines y.name t.default t.rows)) (lines_text (default_truth y t.default)) (lines_text (predicate_lines y t)) lines (predicate_is y t some)) h

pub function_put : {A E : Type 0} (r : Result A E) (out mid end name : List ℕ) (d : ℤ) (rows : List ValueEntry) (y : Symbol) (t : FunctionModel) → name ≡ y.name → d ≡ t.default → rows ≡ t.rows → y.arity ≢ 0
    → mid ≡ out ++ lines_text (value_lines name d rows) → OnOk r (end ≡ mid ++ lines_text (default_value y d)) → OnOk r (end ≡ out ++ lines_text (function_lines y t))
function_put r out mid end name d rows y t same default these some m h =
    let lines : mid ≡ out ++ lines_text (value_lines y.name t.default t.rows) =
    m ∙ ap (λ n. out ++ lines_text (value_lines n d rows)) same ∙ ap (λ v. out ++ lines_text (value_lines y.name v rows)) default ∙ ap (λ l. out ++ lines_text (value_lines y.name t.default l)) these in
    on_ok_weaker r
    (λ e. two_pieces out mid end (lines_text (value_lines y.name t.default t.rows)) (lines_text (default_value y t.default)) (lines_text (function_lines y t)) lines (function_is y t some)
    (e ∙ ap (λ v. mid ++ lines_text (default_value y v)) default)) h

-- ---- what is said of the first symbol, and of those after it

pub predicates_step : (out mid done : List ℕ) (ys zs : List Symbol) (ts us : List PredicateModel) (y : Symbol) (t : PredicateModel) → ys ≡ y ∷ zs → ts ≡ t ∷ us
    → mid ≡ out ++ lines_text (predicate_lines y t) → out ++ lines_text (predicates_lines ys ts) ≡ done → mid ++ lines_text (predicates_lines zs us) ≡ done
predicates_step out mid done ys zs ts us y t is also m h =
    one_piece out mid (lines_text (predicate_lines y t)) _ _ done m
    (ap (λ l. lines_text (predicates_lines l ts)) is ∙ ap (λ l. lines_text (predicates_lines (y ∷ zs) l)) also ∙ lines-append (predicate_lines y t) (predicates_lines zs us)) h

pub functions_step : (out mid done : List ℕ) (ys zs : List Symbol) (ts us : List FunctionModel) (y : Symbol) (t : FunctionModel) → ys ≡ y ∷ zs → ts ≡ t ∷ us
    → mid ≡ out ++ lines_text (function_lines y t) → out ++ lines_text (functions_lines ys ts) ≡ done → mid ++ lines_text (functions_lines zs us) ≡ done
functions_step out mid done ys zs ts us y t is also m h =
    one_piece out mid (lines_text (function_lines y t)) _ _ done m
    (ap (λ l. lines_text (functions_lines l ts)) is ∙ ap (λ l. lines_text (functions_lines (y ∷ zs) l)) also ∙ lines-append (function_lines y t) (functions_lines zs us)) h
