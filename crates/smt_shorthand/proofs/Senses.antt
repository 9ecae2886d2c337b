-- What a sort that is a list comes to.
use Rattle.std.proofs.Common.{ℕ, ◌≡◌, List, ◌∷◌, sym, ap, ◌∙◌}
use Rattle.smt_lists.specs.declared.tree.Sexp.{Sexp}
use Rattle.smt_lists.specs.declared.tree.Sexp.TheVariants as s
use Rattle.smt_lists.specs.Expressions.{expr, exprs_of, list}
use Rattle.smt_lists.proofs.Folds.{expr-List}
use Rattle.smt_commands.specs.Commands.{symbol_of}
use Rattle.smt_shorthand.specs.declared.sorts.Sense.{Sense}
use Rattle.smt_shorthand.specs.declared.sorts.DefinedSort.{DefinedSort}
use Rattle.smt_shorthand.specs.Sorts.{sense_applied, sense_of, senses_of}

pub listed_sense : (sorts : List DefinedSort) (ps : List (List ℕ)) (e : Sexp) (at : ℕ) (ms : List Sexp) (h : Sexp) (rest : List Sexp) (ss : List Sense)
    → e ≡ s.List at ms → ms ≡ h ∷ rest → ss ≡ senses_of sorts ps (exprs_of rest) → sense_applied sorts ps (symbol_of (expr h)) ss ≡ sense_of sorts ps (expr e)
listed_sense sorts ps e at ms h rest ss is parts known =
    sym (ap (λ z. sense_of sorts ps (expr z)) is ∙ ap (sense_of sorts ps) (expr-List at ms) ∙ ap (λ z. sense_of sorts ps (list at (exprs_of z))) parts
    ∙ ap (sense_applied sorts ps (symbol_of (expr h))) (sym known))
