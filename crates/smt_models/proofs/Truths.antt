-- The values of symbols, one after another.
use Rattle.std.proofs.Common.{◌≡◌, ℕ, zero, suc, ◌+◌, ◌<◌, ℤ, List, [], ◌∷◌, ◌++◌, length, drop, get_or, refl, sym, ap, ◌∙◌, append_assoc, arith}
use Rattle.std.specs.List.{slice_get}
use Rattle.std.proofs.lemmas.List.{drop_more}
use Rattle.model_table.specs.Models.{truth_at}
use Rattle.model_table.specs.declared.model.PredicateModel.{PredicateModel}
use Rattle.pri_typing.specs.declared.problem.Symbol.{Symbol}
use Rattle.smt_models.specs.declared.values.Value.{Value}
use Rattle.smt_models.specs.Values.{truth_by, truth_value, truth_values}

-- the truth by the table at a place is what the model says
pub truth_found : (ts : List PredicateModel) (k : ℕ) → truth_by (slice_get ts k) ≡ truth_at ts k []
truth_found [] k = refl
truth_found (t ∷ ts) zero = refl
truth_found (t ∷ ts) (suc k) = truth_found ts k

-- one predicate further
pub truths_step : (found mid whole : List Value) (ys : List Symbol) (ts : List PredicateModel) (k : ℕ) (y : Symbol) → k < length ys → get_or ys k y ≡ y → mid ≡ found ++ truth_value y ts k
    → found ++ truth_values (drop k ys) ts k ≡ whole → mid ++ truth_values (drop (k + 1) ys) ts (k + 1) ≡ whole
truths_step found mid whole ys ts k y lt is m h =
    let next : suc k ≡ k + 1 = omega arith in
    ap (λ z. z ++ truth_values (drop (k + 1) ys) ts (k + 1)) m ∙ append_assoc found (truth_value y ts k) (truth_values (drop (k + 1) ys) ts (k + 1))
    ∙ ap (λ z. found ++ (truth_value y ts k ++ truth_values (drop (k + 1) ys) ts z)) (sym next)
    ∙ sym (ap (λ z. found ++ truth_values z ts k) (drop_more ys k y lt ∙ ap (λ z. z ∷ drop (k + 1) ys) is)) ∙ h
