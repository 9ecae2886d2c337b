-- Elimination by the rules that a log names.
use Rattle.std.specs.Prelude.{◌≡◌, ℕ, zero, suc, cond, List, [], ◌∷◌, ◌++◌, Option, Some, None}
use Rattle.std.specs.List.{AllByRecursion, list_any}
use Rattle.base_budget.specs.declared.log.Entry.{Entry}
use Rattle.base_budget.specs.Runs.{notes}
use Rattle.base_budget.specs.Trace.{Mark, Event, charge, raw, mark, entry, new_log, round, enter, back, Traced, just, next, pay, note}
use Rattle.clause_set.specs.declared.literal.Literal.{Literal}
use Rattle.clause_set.specs.declared.literal.Literal.TheVariants.{Eq, Geq}
use Rattle.clause_set.specs.Clauses.{clauses_of}
use Rattle.clause_set.specs.Dnfs.{tidying, conjunction, disjunction, negation, top}
use Rattle.clause_set.specs.Names.{has}
use Rattle.clause_set.specs.Rules.{applies, rule}
use Rattle.formula.specs.Form as tree
use Rattle.formula.specs.Form.{Form, Forms}
use Rattle.formula.specs.Sizes.{size}
use Rattle.formula.specs.Duals.{dual}
use Rattle.elim_laws.specs.Whole.{paid, two_sides}

-- the entries that the events note
abbrev pub entries_of : List Event → List Entry
entries_of [] = []
entries_of (charge n ∷ es) = entries_of es
entries_of (raw ps ∷ es) = entries_of es
entries_of (mark (entry e) ∷ es) = e ∷ entries_of es
entries_of (mark new_log ∷ es) = entries_of es
entries_of (mark (round k) ∷ es) = entries_of es
entries_of (mark (enter k) ∷ es) = entries_of es
entries_of (mark (back k) ∷ es) = entries_of es

-- a value, and what is left of the log after it
pub record Rest (A : Type 0) : Type 0 where
  pub value : A
  pub log : List Entry

abbrev pub rest : {A : Type 0} → A → List Entry → Rest A
rest a ls = record { value = a; log = ls }

-- work that takes its rules from a log: none where an entry is missing, or names no rule that applies
abbrev pub Reader : Type 0 → Type 0
Reader A = List Entry → Traced (Option (Rest A))

-- work that reads no entry
abbrev pub reads_none : {A : Type 0} → Traced A → Reader A
reads_none w ls = next w (λ a. just (Some (rest a ls)))

abbrev pub go_on : {A B : Type 0} → (A → Reader B) → Option (Rest A) → Traced (Option (Rest B))
go_on f None = just None
go_on f (Some r) = f r.value r.log

-- first m, then f of its value with what m left of the log
abbrev pub read_next : {A B : Type 0} → Reader A → (A → Reader B) → Reader B
read_next m f ls = next (m ls) (go_on f)

-- the clauses without x go to the others, up to the first with x, where it is its turn
abbrev pub up_to : ℕ → List Entry → (List Literal → List (List Literal) → List (List Literal) → Traced (Option (Rest (List (List Literal))))) → List (List Literal) → List (List Literal)
    → Traced (Option (Rest (List (List Literal))))
up_to x ls turn [] out = just (Some (rest out ls))
up_to x ls turn (c ∷ cs) out = cond (list_any (has x) c) (turn c cs out) (next (pay 1) (λ _. up_to x ls turn cs (out ++ c ∷ [])))

-- the rule of the entry e, if it applies, then k of the clauses that it leaves
abbrev pub turn_of : {A : Type 0} → ℕ → Entry → List Literal → (List (List Literal) → Traced (Option A)) → Traced (Option A)
turn_of x e c k = cond (applies x c e) (next (rule x c e) (λ rs. next (note (entry e)) (λ _. k rs))) (just None)

-- x out of the clauses cs, after those of out, by the rules that the log names in turn
abbrev pub replayed : ℕ → List Entry → List (List Literal) → List (List Literal) → Traced (Option (Rest (List (List Literal))))
replayed x [] = up_to x [] (λ c cs out. just None)
replayed x (e ∷ ls) = up_to x (e ∷ ls) (λ c cs out. turn_of x e c (λ rs. replayed x ls (rs ++ cs) out))

-- x out of the disjunction d
abbrev pub name_by_log : ℕ → List (List Literal) → Reader (List (List Literal))
name_by_log x d = read_next (λ ls. replayed x ls d []) (λ cs. reads_none (tidying cs))

-- every value of x makes d true: no value makes its negation true
abbrev pub every_by_log : ℕ → List (List Literal) → Reader (List (List Literal))
every_by_log x d = read_next (reads_none (negation d)) (λ n. read_next (name_by_log x n) (λ c. reads_none (negation c)))

abbrev pub all_by_log : (Form → Reader (List (List Literal))) → Forms → List (List Literal) → Reader (List (List Literal))
all_by_log f tree.no_form d = reads_none (just d)
all_by_log f (tree.and_form g gs) d = read_next (f g) (λ c. read_next (reads_none (conjunction d c)) (λ both. all_by_log f gs both))

abbrev pub any_by_log : (Form → Reader (List (List Literal))) → Forms → List (List Literal) → Reader (List (List Literal))
any_by_log f tree.no_form d = reads_none (just d)
any_by_log f (tree.and_form g gs) d = read_next (f g) (λ c. read_next (reads_none (disjunction d c)) (λ both. any_by_log f gs both))

-- the elimination of a formula over n that is less than m levels deep
abbrev pub by_log : ℕ → ℕ → Form → Reader (List (List Literal))
by_log zero n f = reads_none (just [])
by_log (suc m) n (tree.equal t) = reads_none (paid t (just (clauses_of ((Eq t ∷ []) ∷ []))))
by_log (suc m) n (tree.at_least t) = reads_none (paid t (just (clauses_of ((Geq t ∷ []) ∷ []))))
by_log (suc m) n (tree.unequal t) = reads_none (paid t (two_sides t))
by_log (suc m) n (tree.holds p ts) = reads_none (just [])
by_log (suc m) n (tree.fails p ts) = reads_none (just [])
by_log (suc m) n (tree.differs f ts u) = reads_none (just [])
by_log (suc m) n (tree.conjunction fs) = all_by_log (by_log m n) fs top
by_log (suc m) n (tree.disjunction fs) = any_by_log (by_log m n) fs []
by_log (suc m) n (tree.existential f) = read_next (by_log m (suc n) f) (name_by_log n)
by_log (suc m) n (tree.universal f) =
    read_next (reads_none (pay (size f))) (λ _. read_next (reads_none (dual f)) (λ g. read_next (by_log m (suc n) g) (λ d. read_next (name_by_log n d) (λ c. reads_none (negation c)))))

-- the value, where nothing is left of the log
abbrev pub used_up : {A : Type 0} → Option (Rest A) → Option A
used_up None = None
used_up (Some r) = at_end r.value r.log
  where
    at_end : {A : Type 0} → A → List Entry → Option A
    at_end a [] = Some a
    at_end a (e ∷ ls) = None

-- the work that a whole log does: none where an entry is missing, names no rule that applies, or is left over
abbrev pub by_whole_log : {A : Type 0} → Reader A → List Entry → Traced (Option A)
by_whole_log m ls = next (m ls) (λ o. just (used_up o))

-- ---- laws
-- the work notes nothing
pub record IsQuiet {A : Type 0} (w : Traced A) : Type 0 where
  pub none : entries_of w.events ≡ []
  pub silent : notes w.events ≡ []

-- the note is of a log
abbrev pub IsOfLog : Mark → Type 0
IsOfLog (entry e) = Unit {0}
IsOfLog new_log = Unit {0}
IsOfLog (round k) = ⊥
IsOfLog (enter n) = ⊥
IsOfLog (back n) = ⊥

-- the work notes entries and beginnings of logs alone
pub record NotesLogs {A : Type 0} (w : Traced A) : Type 0 where
  pub logs : AllByRecursion IsOfLog (notes w.events)

-- by the entries that the work w notes, m does w, with its charges and numbers, and leaves the others
pub record Does {A : Type 0} (m : Reader A) (w : Traced A) : Type 0 where
  pub does : (ls : List Entry) → m (entries_of w.events ++ ls) ≡ reads_none w ls

-- whatever log m accepts, its value has P
pub record Yields {A : Type 0} (m : Reader A) (P : A → Type 0) : Type 0 where
  pub yields : (ls : List Entry) (r : Rest A) → (m ls).value ≡ Some r → P r.value

-- the names n − 1 down to 0 out of d, by one log
abbrev pub names_by_log : ℕ → List (List Literal) → Reader (List (List Literal))
names_by_log zero d = reads_none (just d)
names_by_log (suc n) d = read_next (name_by_log n d) (names_by_log n)
