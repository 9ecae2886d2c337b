-- Eliminations note entries and beginnings of logs alone.
use Rattle.std.proofs.Common.{ℕ, zero, suc, List, [], ◌∷◌, ◌++◌, Option, Some, None, sym, subst}
use Rattle.std.specs.List.{AllByRecursion}
use Rattle.clause_set.proofs.Divisors.{kept-append}
use Rattle.base_budget.specs.declared.log.Entry.{Entry}
use Rattle.base_budget.specs.Trace.{entry, new_log, Traced, just, step, next, pay, note, each}
use Rattle.base_budget.specs.Runs.{notes}
use Rattle.clause_set.specs.declared.literal.Literal.{Literal}
use Rattle.clause_set.specs.declared.literal.Literal.TheVariants.{Eq}
use Rattle.clause_set.specs.Dnfs.{conjunction, disjunction, negated_literal, negation, tidying, top}
use Rattle.clause_set.specs.Rules.{first_rule, measure, rule, unused}
use Rattle.formula.specs.Form as tree
use Rattle.formula.specs.Form.{Form, Forms}
use Rattle.formula.specs.Sizes.{depth, size}
use Rattle.formula.specs.Duals.{dual}
use Rattle.elim_laws.specs.Elimination.{by_first, exists_name, rules_deep, taken_out}
use Rattle.elim_laws.specs.Logs.{IsOfLog, IsQuiet, NotesLogs}
use Rattle.elim_laws.specs.Whole.{all_of, any_of, eliminated, eliminating, names_out}
use Rattle.elim_laws.proofs.Quiet.{conjunction-quiet, disjunction-quiet, dual-quiet, negated_literal-quiet, negation-quiet, notes-next, quiet_just, quiet_next, quiet_pay, rule-quiet, tidying-quiet}

pub logs_next : {A B : Type 0} (m : Traced A) (f : A → Traced B) → NotesLogs m → ((a : A) → NotesLogs (f a)) → NotesLogs (next m f)
logs_next m f h k = record { logs = subst (AllByRecursion IsOfLog) (sym (notes-next m f)) (kept-append IsOfLog (notes m.events) (notes (f m.value).events) h.logs (k m.value).logs) }

pub logs_quiet : {A : Type 0} (w : Traced A) → IsQuiet w → NotesLogs w
logs_quiet w h = record { logs = subst (AllByRecursion IsOfLog) (sym h.silent) tt }

pub logs_entry : (e : Entry) → NotesLogs (note (entry e))
unfolding step
logs_entry e = record { logs = (tt, tt) }

pub logs_new : NotesLogs (note new_log)
unfolding step
logs_new = record { logs = (tt, tt) }

pub logs_each : {C D : Type 0} (f : C → Traced (List D)) (cs : List C) (out : List D) → ((c : C) → NotesLogs (f c)) → NotesLogs (each f cs out)
logs_each f [] out h = logs_quiet (just out) (quiet_just out)
logs_each f (c ∷ cs) out h = logs_next (f c) _ (h c) (λ ds. logs_each f cs (out ++ ds) h)

first_logs : (x : ℕ) (f : List Literal → Traced (List (List Literal))) (c : List Literal) → ((r : List Literal) → NotesLogs (f r)) → (o : Option Entry) → NotesLogs (by_first f x c o)
first_logs x f c h None = logs_quiet (unused c) (quiet_next _ _ (quiet_pay 1) (λ z. quiet_just _))
first_logs x f c h (Some e) = logs_next (rule x c e) _ (logs_quiet (rule x c e) (rule-quiet x c e)) (λ rs. logs_next (note (entry e)) _ (logs_entry e) (λ z. logs_each f rs [] h))

deep_logs : (x n : ℕ) (c : List Literal) → NotesLogs (rules_deep x n c)
deep_logs x zero c = logs_quiet (just (c ∷ [])) (quiet_just (c ∷ []))
deep_logs x (suc n) c = first_logs x (rules_deep x n) c (deep_logs x n) (first_rule x c)

taken_logs : (x : ℕ) (c : List Literal) → NotesLogs (taken_out x c)
unfolding taken_out
taken_logs x c = deep_logs x (suc (measure x c)) c

pub exists_logs : (x : ℕ) (d : List (List Literal)) → NotesLogs (exists_name x d)
exists_logs x d = logs_next (each (taken_out x) d []) tidying (logs_each (taken_out x) d [] (taken_logs x)) (λ cs. logs_quiet (tidying cs) (tidying-quiet cs))

pub names_logs : (n : ℕ) (d : List (List Literal)) → NotesLogs (names_out n d)
names_logs zero d = logs_quiet (just d) (quiet_just d)
names_logs (suc n) d = logs_next (exists_name n d) (names_out n) (exists_logs n d) (names_logs n)

-- ---- formulas
all_logs : (f : Form → Traced (List (List Literal))) → ((g : Form) → NotesLogs (f g)) → (gs : Forms) (d : List (List Literal)) → NotesLogs (all_of f gs d)
all_logs f h tree.no_form d = logs_quiet (just d) (quiet_just d)
all_logs f h (tree.and_form g gs) d = logs_next (f g) _ (h g) (λ c. logs_next (conjunction d c) _ (logs_quiet (conjunction d c) (conjunction-quiet d c)) (λ both. all_logs f h gs both))

any_logs : (f : Form → Traced (List (List Literal))) → ((g : Form) → NotesLogs (f g)) → (gs : Forms) (d : List (List Literal)) → NotesLogs (any_of f gs d)
any_logs f h tree.no_form d = logs_quiet (just d) (quiet_just d)
any_logs f h (tree.and_form g gs) d = logs_next (f g) _ (h g) (λ c. logs_next (disjunction d c) _ (logs_quiet (disjunction d c) (disjunction-quiet d c)) (λ both. any_logs f h gs both))

pub eliminated_logs : (m n : ℕ) (f : Form) → NotesLogs (eliminated m n f)
eliminated_logs zero n f = logs_quiet (just []) (quiet_just [])
eliminated_logs (suc m) n (tree.equal t) = logs_quiet _ (quiet_next _ _ (quiet_pay _) (λ z. quiet_just _))
eliminated_logs (suc m) n (tree.at_least t) = logs_quiet _ (quiet_next _ _ (quiet_pay _) (λ z. quiet_just _))
eliminated_logs (suc m) n (tree.unequal t) = logs_quiet _ (quiet_next _ _ (quiet_pay _) (λ z. quiet_next (negated_literal (Eq t)) _ (negated_literal-quiet (Eq t)) (λ cs. quiet_just _)))
eliminated_logs (suc m) n (tree.holds p ts) = logs_quiet (just []) (quiet_just [])
eliminated_logs (suc m) n (tree.fails p ts) = logs_quiet (just []) (quiet_just [])
eliminated_logs (suc m) n (tree.differs f ts u) = logs_quiet (just []) (quiet_just [])
eliminated_logs (suc m) n (tree.conjunction fs) = all_logs (eliminated m n) (eliminated_logs m n) fs top
eliminated_logs (suc m) n (tree.disjunction fs) = any_logs (eliminated m n) (eliminated_logs m n) fs []
eliminated_logs (suc m) n (tree.existential f) = logs_next (eliminated m (suc n) f) (exists_name n) (eliminated_logs m (suc n) f) (exists_logs n)
eliminated_logs (suc m) n (tree.universal f) =
    logs_next (pay (size f)) _ (logs_quiet (pay (size f)) (quiet_pay (size f)))
    (λ z. logs_next (dual f) _ (logs_quiet (dual f) (dual-quiet f))
    (λ g. logs_next (eliminated m (suc n) g) _ (eliminated_logs m (suc n) g) (λ d. logs_next (exists_name n d) negation (exists_logs n d) (λ c. logs_quiet (negation c) (negation-quiet c)))))

pub eliminating_logs : (n : ℕ) (f : Form) → NotesLogs (eliminating n f)
unfolding eliminating
eliminating_logs n f = eliminated_logs (suc (depth f)) n f
