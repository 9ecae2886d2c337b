-- The steps of a replay: clauses without the name are passed, and the first one with it takes the rule of the next entry.
use Rattle.std.specs.Prelude.{ℕ, Bool, true, cond, List, [], ◌∷◌, ◌++◌, Option, Some, None}
use Rattle.std.specs.List.{list_any}
use Rattle.base_budget.specs.declared.log.Entry.{Entry}
use Rattle.base_budget.specs.Trace.{Traced, just, next, pay}
use Rattle.clause_set.specs.declared.literal.Literal.{Literal}
use Rattle.clause_set.specs.Names.{has}
use Rattle.clause_set.specs.Rules.{applies, rule}
use Rattle.elim_laws.specs.Logs.{Reader, replayed}

-- no clause is left, or the first one has x
abbrev pub is_turn : ℕ → List (List Literal) → Bool
is_turn x [] = true
is_turn x (c ∷ cs) = list_any (has x) c

-- the clauses without x go after those of out, each at the charge 1, up to the first one with x
abbrev pub passed : ℕ → List (List Literal) → List (List Literal) → Traced (List (List Literal) × List (List Literal))
passed x [] out = just ([], out)
passed x (c ∷ cs) out = cond (list_any (has x) c) (just (c ∷ cs, out)) (next (pay 1) (λ _. passed x cs (out ++ c ∷ [])))

-- what the rule of the entry leaves of the first clause, before the others; none where it does not apply
abbrev pub turn : ℕ → Entry → List (List Literal) → Traced (Option (List (List Literal)))
turn x e [] = just None
turn x e (c ∷ cs) = cond (applies x c e) (next (rule x c e) (λ rs. just (Some (rs ++ cs)))) (just None)

-- x out of the clauses, by a log
abbrev pub replaying : ℕ → List (List Literal) → Reader (List (List Literal))
replaying x cs log = replayed x log cs []
