-- Logs: the log of a run does the run's work, and whatever a log does is exact.
use Rattle.std.proofs.Common.{◌≡◌, ◌<◌, ℕ, zero, suc, true, false, List, [], ◌∷◌, ◌++◌, Option, Some, None, refl, sym, ◌∙◌, ap, subst, append_assoc, arith}
use Rattle.std.specs.List.{AllByRecursion, list_any}
use Rattle.std.proofs.lemmas.Bool.{cond-true, cond-false}
use Rattle.std.proofs.lemmas.List.{append-nil}
use Rattle.base_budget.specs.declared.log.Entry.{Entry}
use Rattle.base_budget.specs.Trace.{entry, Traced, just, step, next, pay, note, each}
use Rattle.base_budget.proofs.Tracing.{next-same, next-just, next-assoc, value-next}
use Rattle.linear_term.specs.Linear.{Linear}
use Rattle.clause_set.specs.declared.literal.Literal.{Literal}
use Rattle.clause_set.specs.declared.literal.Literal.TheVariants.{Eq}
use Rattle.clause_set.specs.Names.{has}
use Rattle.clause_set.specs.Dnfs.{tidying, conjunction, disjunction, negation, top}
use Rattle.clause_set.specs.Rules.{rule, applies, first_rule, measure}
use Rattle.elim_laws.specs.Elimination.{by_first, rules_deep, taken_out, exists_name, for_all_name}
use Rattle.formula.specs.Form as tree
use Rattle.formula.specs.Form.{Form, Forms}
use Rattle.formula.specs.Sizes.{size}
use Rattle.formula.specs.Duals.{dual}
use Rattle.elim_laws.specs.Whole.{all_of, any_of, eliminated, two_sides}
use Rattle.elim_laws.specs.Logs.{entries_of, Rest, rest, Reader, reads_none, go_on, read_next, replayed, name_by_log, all_by_log, any_by_log, by_log, IsQuiet, Does, Yields, every_by_log}
use Rattle.elim_laws.proofs.First.{first_is_rule, none_first, applies_has}
use Rattle.elim_laws.proofs.Quiet.{entries-next, quiet_next, quiet_just, quiet_pay, rule-quiet, dual-quiet, tidying-quiet, conjunction-quiet, disjunction-quiet, negation-quiet, negated_literal-quiet}
use Rattle.elim_laws.proofs.Taking.{nearer_members}

-- ---- readers
pub does_next : {A B : Type 0} (m : Reader A) (f : A → Reader B) (w : Traced A) (g : A → Traced B) → Does m w → Does (f w.value) (g w.value) → Does (read_next m f) (next w g)
does_next m f w g h k = record {
  does = λ ls.
      let es = entries_of (g w.value).events in
      ap (λ z. next (m z) (go_on f)) (ap (λ z. z ++ ls) (entries-next w g) ∙ append_assoc (entries_of w.events) es ls)
      ∙ ap (λ z. next z (go_on f)) (h.does (es ++ ls))
      ∙ next-assoc w _ (go_on f)
      ∙ next-same w _ _ (next-just _ (go_on f) ∙ k.does ls)
      ∙ sym (next-assoc w g _);
}

pub does_quiet : {A : Type 0} (w : Traced A) → IsQuiet w → Does (reads_none w) w
does_quiet w h = record { does = λ ls. ap (λ z. reads_none w (z ++ ls)) h.none }

by_some : {A B : Type 0} (o : Option (Rest A)) (f : A → Reader B) (r : Rest B) (P : Type 0) → (go_on f o).value ≡ Some r → ((a : Rest A) → o ≡ Some a → (f a.value a.log).value ≡ Some r → P) → P
unfolding just
by_some None f r P h k = absurd (cc)
by_some (Some a) f r P h k = k a refl h

pub yields_next : {A B : Type 0} (m : Reader A) (f : A → Reader B) (P : A → Type 0) (Q : B → Type 0) → Yields m P → ((a : A) → P a → Yields (f a) Q) → Yields (read_next m f) Q
yields_next m f P Q h k = record {
  yields = λ ls r is. by_some (m ls).value f r (Q r.value) (sym (value-next (m ls) (go_on f)) ∙ is) (λ a at then. (k a.value (h.yields ls a at)).yields a.log r then);
}

pub yields_none : {A : Type 0} (w : Traced A) (P : A → Type 0) → P w.value → Yields (reads_none w) P
unfolding next just
yields_none w P h = record { yields = λ ls r is. let s : rest w.value ls ≡ r = cc in subst (λ z. P z.value) s h }

-- ---- one name: the log of a run
replayed_none : (x : ℕ) (ls : List Entry) (out : List (List Literal)) → replayed x ls [] out ≡ just (Some (rest out ls))
replayed_none x [] out = refl
replayed_none x (e ∷ ls) out = refl

replayed_free : (x : ℕ) (ls : List Entry) (c : List Literal) (cs out : List (List Literal)) → list_any (has x) c ≡ false → replayed x ls (c ∷ cs) out ≡ next (pay 1) (λ _. replayed x ls cs (out ++ c ∷ []))
replayed_free x [] c cs out h = cond-false _ _ _ h
replayed_free x (e ∷ ls) c cs out h = cond-false _ _ _ h

replayed_turn : (x : ℕ) (e : Entry) (ls : List Entry) (c : List Literal) (cs out : List (List Literal)) → applies x c e ≡ true
    → replayed x (e ∷ ls) (c ∷ cs) out ≡ next (rule x c e) (λ rs. next (note (entry e)) (λ _. replayed x ls (rs ++ cs) out))
replayed_turn x e ls c cs out h = cond-true _ _ _ (applies_has x c e h) ∙ cond-true _ _ _ h

-- by the entries of w, x goes out of c as w does it
record Replays (x : ℕ) (c : List Literal) (w : Traced (List (List Literal))) : Type 0 where
  does : (ls : List Entry) (cs out : List (List Literal)) → replayed x (entries_of w.events ++ ls) (c ∷ cs) out ≡ next w (λ ds. replayed x ls cs (out ++ ds))

each_replays : (x : ℕ) (f : List Literal → Traced (List (List Literal))) (rs : List (List Literal)) → AllByRecursion (λ r. Replays x r (f r)) rs
    → (ls : List Entry) (cs out done : List (List Literal)) → replayed x (entries_of (each f rs done).events ++ ls) (rs ++ cs) (out ++ done) ≡ next (each f rs done) (λ ds. replayed x ls cs (out ++ ds))
each_replays x f [] h ls cs out done = ap (λ z. replayed x (z ++ ls) cs (out ++ done)) (quiet_just done).none ∙ sym (next-just done _)
each_replays x f (r ∷ rs) h ls cs out done =
    let g : List (List Literal) → Traced (List (List Literal)) = (λ ds. each f rs (done ++ ds)) in
    let es = entries_of (g (f r).value).events in
    ap (λ z. replayed x z (r ∷ rs ++ cs) (out ++ done)) (ap (λ z. z ++ ls) (entries-next (f r) g) ∙ append_assoc (entries_of (f r).events) es ls)
    ∙ h.0.does (es ++ ls) (rs ++ cs) (out ++ done)
    ∙ next-same (f r) _ _ (ap (replayed x (es ++ ls) (rs ++ cs)) (append_assoc out done (f r).value) ∙ each_replays x f rs h.1 ls cs out (done ++ (f r).value))
    ∙ sym (next-assoc (f r) g _)

entries_unused : (c : List Literal) → entries_of (next (pay 1) (λ _. just (c ∷ []))).events ≡ []
entries_unused c = (quiet_next _ _ (quiet_pay 1) (λ z. quiet_just _)).none

entries_noted : {B : Type 0} (e : Entry) (f : Unit {0} → Traced B) → entries_of (next (note (entry e)) f).events ≡ e ∷ entries_of (f tt).events
unfolding next step
entries_noted e f = refl

unused_replays : (x : ℕ) (c : List Literal) → list_any (has x) c ≡ false → Replays x c (next (pay 1) (λ _. just (c ∷ [])))
unused_replays x c h = record {
  does = λ ls cs out.
      ap (λ z. replayed x (z ++ ls) (c ∷ cs) out) (entries_unused c)
      ∙ replayed_free x ls c cs out h
      ∙ next-same (pay 1) _ _ (sym (next-just (c ∷ []) _))
      ∙ sym (next-assoc (pay 1) _ _);
}

rule_replays : (x : ℕ) (c : List Literal) (e : Entry) (f : List Literal → Traced (List (List Literal))) → applies x c e ≡ true → AllByRecursion (λ r. Replays x r (f r)) (rule x c e).value
    → Replays x c (next (rule x c e) (λ rs. next (note (entry e)) (λ _. each f rs [])))
rule_replays x c e f a h = record {
  does = λ ls cs out.
      let rs = (rule x c e).value in
      let es = entries_of (each f rs []).events in
      let all : entries_of (next (rule x c e) (λ rs. next (note (entry e)) (λ _. each f rs []))).events ≡ e ∷ es =
      entries-next (rule x c e) _ ∙ ap (λ z. z ++ entries_of (next (note (entry e)) (λ _. each f rs [])).events) (rule-quiet x c e).none ∙ entries_noted e (λ _. each f rs []) in
      ap (λ z. replayed x (z ++ ls) (c ∷ cs) out) all
      ∙ replayed_turn x e (es ++ ls) c cs out a
      ∙ next-same (rule x c e) _ _ (
      next-same (note (entry e)) _ _ (ap (replayed x (es ++ ls) (rs ++ cs)) (sym (append-nil out)) ∙ each_replays x f rs h ls cs out []) ∙ sym (next-assoc (note (entry e)) _ _)
      )
      ∙ sym (next-assoc (rule x c e) _ _);
}

rules_deep-replays : (x n : ℕ) (c : List Literal) → measure x c < n → Replays x c (rules_deep x n c)
rules_deep-replays x zero c lt = absurd (omega (arith, lt))
rules_deep-replays x (suc n) c lt = by (first_rule x c) refl (rules_deep-replays x n)
  where
    all : ((r : List Literal) → measure x r < n → Replays x r (rules_deep x n r)) → (cs : List (List Literal)) → AllByRecursion (λ r. measure x r < n) cs → AllByRecursion (λ r. Replays x r (rules_deep x n r)) cs
    all f [] h = tt
    all f (r ∷ cs) h = (f r h.0, all f cs h.1)

    by : (o : Option Entry) → first_rule x c ≡ o → ((r : List Literal) → measure x r < n → Replays x r (rules_deep x n r)) → Replays x c (by_first (rules_deep x n) x c o)
    by None is f = unused_replays x c (none_first x c is)
    by (Some e) is f =
        let r = first_is_rule x c e is in
        rule_replays x c e (rules_deep x n) r.applies (all f (rule x c e).value (nearer_members x (measure x c) n (rule x c e).value (omega (arith, lt)) r.nearer))

taken_out-replays : (x : ℕ) (c : List Literal) → Replays x c (taken_out x c)
unfolding taken_out
taken_out-replays x c = rules_deep-replays x (suc (measure x c)) c (omega arith)

all_replays : (x : ℕ) (d : List (List Literal)) → AllByRecursion (λ c. Replays x c (taken_out x c)) d
all_replays x [] = tt
all_replays x (c ∷ d) = (taken_out-replays x c, all_replays x d)

-- the log of the elimination of a name does its work
pub name_does : (x : ℕ) (d : List (List Literal)) → Does (name_by_log x d) (exists_name x d)
name_does x d =
    does_next (λ ls. replayed x ls d []) (λ cs. reads_none (tidying cs)) (each (taken_out x) d []) tidying (record {
      does = λ ls.
          ap (λ z. replayed x (entries_of (each (taken_out x) d []).events ++ ls) z []) (sym (append-nil d))
          ∙ each_replays x (taken_out x) d (all_replays x d) ls [] [] []
          ∙ next-same (each (taken_out x) d []) _ _ (replayed_none x ls _);
    })
    (does_quiet (tidying _) (tidying-quiet _))

-- the log of "every value" does its work
pub every_does : (x : ℕ) (d : List (List Literal)) → Does (every_by_log x d) (for_all_name x d)
every_does x d =
    does_next (reads_none (negation d)) (λ n. read_next (name_by_log x n) (λ c. reads_none (negation c))) (negation d) (λ n. next (exists_name x n) negation)
    (does_quiet (negation d) (negation-quiet d))
    (does_next (name_by_log x (negation d).value) (λ c. reads_none (negation c)) (exists_name x (negation d).value) negation (name_does x (negation d).value)
    (does_quiet (negation (exists_name x (negation d).value).value) (negation-quiet (exists_name x (negation d).value).value)))

-- ---- formulas: the log of a run
abbrev EachDoes : (Form → Reader (List (List Literal))) → (Form → Traced (List (List Literal))) → Forms → Type 0
EachDoes m w tree.no_form = Unit {0}
EachDoes m w (tree.and_form g gs) = Does (m g) (w g) × EachDoes m w gs

each_form : (m : Form → Reader (List (List Literal))) (w : Form → Traced (List (List Literal))) → ((g : Form) → Does (m g) (w g)) → (gs : Forms) → EachDoes m w gs
each_form m w h tree.no_form = tt
each_form m w h (tree.and_form g gs) = (h g, each_form m w h gs)

all_does : (m : Form → Reader (List (List Literal))) (w : Form → Traced (List (List Literal))) (gs : Forms) (d : List (List Literal)) → EachDoes m w gs → Does (all_by_log m gs d) (all_of w gs d)
all_does m w tree.no_form d h = does_quiet (just d) (quiet_just d)
all_does m w (tree.and_form g gs) d h =
    does_next (m g) _ (w g) _ h.0 (does_next (reads_none (conjunction d (w g).value)) _ (conjunction d (w g).value) _ (does_quiet _ (conjunction-quiet d (w g).value)) (all_does m w gs (conjunction d (w g).value).value h.1))

any_does : (m : Form → Reader (List (List Literal))) (w : Form → Traced (List (List Literal))) (gs : Forms) (d : List (List Literal)) → EachDoes m w gs → Does (any_by_log m gs d) (any_of w gs d)
any_does m w tree.no_form d h = does_quiet (just d) (quiet_just d)
any_does m w (tree.and_form g gs) d h =
    does_next (m g) _ (w g) _ h.0 (does_next (reads_none (disjunction d (w g).value)) _ (disjunction d (w g).value) _ (does_quiet _ (disjunction-quiet d (w g).value)) (any_does m w gs (disjunction d (w g).value).value h.1))

sides-quiet : (t : Linear) → IsQuiet (two_sides t)
sides-quiet t = quiet_next _ _ (negated_literal-quiet (Eq t)) (λ cs. quiet_just _)

-- the log of the elimination of a formula does its work
pub form_does : (m n : ℕ) (f : Form) → Does (by_log m n f) (eliminated m n f)
form_does zero n f = does_quiet _ (quiet_just [])
form_does (suc m) n (tree.equal t) = does_quiet _ (quiet_next _ _ (quiet_pay _) (λ z. quiet_just _))
form_does (suc m) n (tree.at_least t) = does_quiet _ (quiet_next _ _ (quiet_pay _) (λ z. quiet_just _))
form_does (suc m) n (tree.unequal t) = does_quiet _ (quiet_next _ _ (quiet_pay _) (λ z. sides-quiet t))
form_does (suc m) n (tree.holds q ts) = does_quiet _ (quiet_just [])
form_does (suc m) n (tree.fails q ts) = does_quiet _ (quiet_just [])
form_does (suc m) n (tree.differs q ts u) = does_quiet _ (quiet_just [])
form_does (suc m) n (tree.conjunction fs) = all_does (by_log m n) (eliminated m n) fs top (each_form _ _ (form_does m n) fs)
form_does (suc m) n (tree.disjunction fs) = any_does (by_log m n) (eliminated m n) fs [] (each_form _ _ (form_does m n) fs)
form_does (suc m) n (tree.existential f) = does_next (by_log m (suc n) f) (name_by_log n) (eliminated m (suc n) f) (exists_name n) (form_does m (suc n) f) (name_does n _)
form_does (suc m) n (tree.universal f) =
    does_next _ _ (pay (size f)) _ (does_quiet _ (quiet_pay (size f)))
    (does_next _ _ (dual f) _ (does_quiet _ (dual-quiet f))
    (does_next (by_log m (suc n) (dual f).value) _ (eliminated m (suc n) (dual f).value) _ (form_does m (suc n) (dual f).value)
    (does_next _ _ (exists_name n _) _ (name_does n _) (does_quiet _ (negation-quiet _)))))
