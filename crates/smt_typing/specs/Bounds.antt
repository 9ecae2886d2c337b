-- The bound names where a term stands, in code.
use Rattle.std.specs.Prelude.{ℕ, List, [], ◌∷◌, Option, Some, if◌then◌else◌}
use Rattle.base_texts.specs.Texts.{is_text}
use Rattle.smt_commands.specs.declared.refusal.ScriptRefusal.{ScriptRefusal}
use Rattle.smt_commands.specs.declared.table.Entry.{Entry}
use Rattle.smt_commands.specs.Least.{least_from}
use Rattle.smt_terms.specs.declared.operator.Sort.{Sort}
use Rattle.smt_terms.specs.Term.{bindings_of}
use Rattle.smt_terms.specs.Evaluation.{with_names, names_of, texts_of}
use Rattle.smt_typing.specs.declared.bound.Bound.{Bound, Nothing, Variables', Let'}
use Rattle.smt_typing.specs.declared.bound.Judged.{Judged}
use Rattle.smt_typing.specs.declared.bound.Site.{Site}
use Rattle.smt_typing.specs.Sorts.{Sorts, variables}

-- the bound names with their sorts
abbrev pub sorts_at : Bound → Sorts
sorts_at Nothing = []
sorts_at (Variables' xs p outer) = variables (texts_of xs.now) (sorts_at outer)
sorts_at (Let' bs ss p outer) = with_names (names_of (bindings_of bs.now)) ss.now (sorts_at outer)

-- the symbols of the script at a place, and the bound names there
abbrev pub symbols_at : Site → List Entry
symbols_at site = site.table.now.entries

abbrev pub bound_at : Site → Sorts
bound_at site = sorts_at site.bound.now

-- the value that names have under a text, given the one that those around them have
abbrev pub last_of : {A : Type 0} → List ℕ → Option A → List (List ℕ) → List A → Option A
last_of x hit [] vs = hit
last_of x hit (y ∷ ys) [] = hit
last_of x hit (y ∷ ys) (v ∷ vs) = last_of x (if is_text x y then Some v else hit) ys vs

-- the first of a fault and of these, with a sort
abbrev pub judged : Option ScriptRefusal → List ScriptRefusal → Option Sort → Judged
judged found faults s = record { found = least_from found faults; sort = s }
