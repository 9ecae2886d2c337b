-- Solving notes entries and beginnings of logs alone.
use Rattle.std.proofs.Common.{◌≡◌, ℕ, zero, suc, ◌+◌, ℤ, Bool, cond, List, [], ◌∷◌, ◌++◌, Option, Some, None}
use Rattle.std.specs.List.{list_any}
use Rattle.std.specs.Prelude.{position, remove, slice_get}
use Rattle.linear_term.specs.declared.range.Place.{Place}
use Rattle.linear_term.specs.Linear.{Linear, coef_of, number, without}
use Rattle.base_budget.specs.declared.log.Entry.{Entry}
use Rattle.base_budget.specs.Trace.{Traced, just, next, pay, note, new_log, each}
use Rattle.clause_set.specs.declared.literal.Literal.{Literal}
use Rattle.clause_set.specs.declared.literal.Literal.TheVariants.{Eq, Geq, Div, NDiv}
use Rattle.clause_set.specs.Clauses.{clauses_of}
use Rattle.clause_set.specs.Dnfs.{tidying}
use Rattle.clause_set.specs.Names.{is_equation}
use Rattle.clause_set.specs.Rules.{measure, rule}
use Rattle.elim_laws.specs.Elimination.{exists_name}
use Rattle.elim_laws.specs.Logs.{IsQuiet, NotesLogs}
use Rattle.elim_laws.specs.Whole.{names_out}
use Rattle.elim_laws.proofs.Noting.{exists_logs, logs_new, logs_next, logs_quiet, names_logs}
use Rattle.elim_laws.proofs.Quiet.{quiet_combining, quiet_cond, quiet_each, quiet_just, quiet_next, quiet_pay, quiet_raw, rule-quiet, tidying-quiet}
use Rattle.solve_laws.specs.Candidates.{bounded, candidates, candidates_of, candidates_within, charged_candidates, class_of, first_split, lower, root_at, root_of, computed, down_from, solutions, split_by, two_between, up_from, upper, value_number}
use Rattle.solve_laws.specs.Nearest.{nearest}
use Rattle.solve_laws.specs.Solutions.{answered, chosen, names_from, solving, valued, valued_clause, valued_term, values_at, with_value}

-- ---- candidates note nothing
root-quiet : (j : ℕ) (rest : List Literal) (o : Option Literal) → IsQuiet (root_of j rest o)
root-quiet j rest None = quiet_just []
root-quiet j rest (Some l) = quiet_next _ _ (quiet_raw _ _) (λ z. quiet_just _)

root_at-quiet : (j : ℕ) (c : List Literal) (o : Option ℕ) → IsQuiet (root_at j c o)
root_at-quiet j c None = quiet_just []
root_at-quiet j c (Some i) = root-quiet j (remove c i) (slice_get c i)

class-quiet : (j : ℕ) (c : List Literal) → IsQuiet (class_of j c)
class-quiet j [] = quiet_just _
class-quiet j (Div d t ∷ ls) = quiet_next _ _ (quiet_raw _ _) (λ z. quiet_just _)
class-quiet j (Eq t ∷ ls) = class-quiet j ls
class-quiet j (Geq t ∷ ls) = class-quiet j ls
class-quiet j (NDiv d t ∷ ls) = class-quiet j ls

computed-quiet : (p : Place) → IsQuiet (computed p)
unfolding computed
computed-quiet p = quiet_raw _ _

between-quiet : (m r : ℤ) (lo hi : Option ℤ) → IsQuiet (two_between m r lo hi)
between-quiet m r lo hi =
    quiet_next (computed (up_from m r lo)) _ (computed-quiet (up_from m r lo)) (λ up. quiet_next (computed (down_from m r hi)) _ (computed-quiet (down_from m r hi)) (λ down. quiet_just _))

bounded-quiet : (j : ℕ) (c : List Literal) → IsQuiet (bounded j c)
bounded-quiet j c = quiet_next (class_of j c) _ (class-quiet j c) (λ z. between-quiet z.modulus z.residue (lower j c) (upper j c))

split-quiet : (f : List Literal → Traced (List ℤ)) (j : ℕ) (c : List Literal) (o : Option Entry) → ((r : List Literal) → IsQuiet (f r)) → IsQuiet (split_by f j c o)
split-quiet f j c None h = bounded-quiet j c
split-quiet f j c (Some e) h = quiet_next (rule j c e) _ (rule-quiet j c e) (λ cs. quiet_each f cs [] h)

within-quiet : (n j : ℕ) (c : List Literal) → IsQuiet (candidates_within n j c)
within-quiet zero j c = quiet_just []
within-quiet (suc n) j c =
    quiet_cond (list_any (is_equation j) c) (root_at j c (position (is_equation j) c)) (split_by (candidates_within n j) j c (first_split j c))
    (root_at-quiet j c (position (is_equation j) c)) (split-quiet (candidates_within n j) j c (first_split j c) (within-quiet n j))

charged-quiet : (j : ℕ) (c : List Literal) → IsQuiet (charged_candidates j c)
unfolding candidates
charged-quiet j c = quiet_next _ _ (quiet_pay _) (λ z. within-quiet (suc (measure j c)) j c)

chosen-quiet : (j : ℕ) (d : List (List Literal)) → IsQuiet (chosen j d)
unfolding chosen
chosen-quiet j d = quiet_next (each (charged_candidates j) d []) _ (quiet_each (charged_candidates j) d [] (charged-quiet j)) (λ vs. quiet_just _)

valued-quiet : (j : ℕ) (v : ℤ) (l : Literal) → IsQuiet (valued j v l)
valued-quiet j v (Eq t) = quiet_next (valued_term j v t) _ (quiet_combining _ _ _ _) (λ s. quiet_just _)
valued-quiet j v (Geq t) = quiet_next (valued_term j v t) _ (quiet_combining _ _ _ _) (λ s. quiet_just _)
valued-quiet j v (Div d t) = quiet_next (valued_term j v t) _ (quiet_combining _ _ _ _) (λ s. quiet_just _)
valued-quiet j v (NDiv d t) = quiet_next (valued_term j v t) _ (quiet_combining _ _ _ _) (λ s. quiet_just _)

clause-quiet : (j : ℕ) (v : ℤ) (c : List Literal) → IsQuiet (valued_clause j v c)
clause-quiet j v c = quiet_next (each (valued j v) c []) _ (quiet_each (valued j v) c [] (valued-quiet j v)) (λ ls. quiet_just _)

with_value-quiet : (j : ℕ) (v : ℤ) (d : List (List Literal)) → IsQuiet (with_value j v d)
unfolding with_value
with_value-quiet j v d =
    quiet_next _ _ (quiet_pay _) (λ z. quiet_next (each (valued_clause j v) d []) tidying (quiet_each (valued_clause j v) d [] (clause-quiet j v)) (λ cs. tidying-quiet cs))

-- ---- solving
from_logs : (k j : ℕ) (d : List (List Literal)) → NotesLogs (names_from k j d)
from_logs zero j d = logs_quiet (just d) (quiet_just d)
from_logs (suc k) j d = logs_next (exists_name (j + k) d) _ (exists_logs (j + k) d) (λ r. from_logs k j r)

values_logs : (k j : ℕ) (d : List (List Literal)) (vs : List ℤ) → NotesLogs (values_at k j d vs)
values_logs zero j d vs = logs_quiet (just vs) (quiet_just vs)
values_logs (suc k) j d vs =
    logs_next (note new_log) _ logs_new
    (λ z. logs_next (names_from k (suc j) d) _ (from_logs k (suc j) d)
    (λ left. logs_next (chosen j left) _ (logs_quiet (chosen j left) (chosen-quiet j left))
    (λ v. logs_next (with_value j v d) _ (logs_quiet (with_value j v d) (with_value-quiet j v d)) (λ r. values_logs k (suc j) r (vs ++ v ∷ [])))))

answered_logs : (n : ℕ) (d left : List (List Literal)) → NotesLogs (answered n d left)
answered_logs n d [] = logs_quiet (just None) (quiet_just None)
answered_logs n d (c ∷ cs) = logs_next (values_at n 0 d []) _ (values_logs n 0 d []) (λ vs. logs_quiet _ (quiet_just (Some vs)))

pub solving_logs : (n : ℕ) (d : List (List Literal)) → NotesLogs (solving n d)
unfolding solving
solving_logs n d = logs_next (names_out n d) (answered n d) (names_logs n d) (answered_logs n d)
