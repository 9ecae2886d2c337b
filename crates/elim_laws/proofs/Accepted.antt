-- Whatever a log that is accepted does is exact.
use Rattle.std.proofs.Common.{◌≡◌, ◌<◌, ℕ, zero, suc, ℤ, Bool, true, false, cond, List, [], ◌∷◌, ◌++◌, Option, Some, None, refl, sym, ◌∙◌, ap, subst, append_assoc, arith}
use Rattle.std.specs.Prelude.{All}
use Rattle.std.specs.List.{list_any}
use Rattle.std.proofs.lemmas.List.{append-nil}
use Rattle.std.proofs.lemmas.List.Elements.{recursion_from_All}
use Rattle.base_budget.specs.declared.log.Entry.{Entry}
use Rattle.linear_term.specs.Linear.{Linear, IsReduced, value_of}
use Rattle.base_budget.specs.Trace.{entry, Traced, just, step, next, pay, note}
use Rattle.clause_set.specs.declared.literal.Literal.{Literal}
use Rattle.clause_set.specs.declared.literal.Literal.TheVariants.{Eq, Geq}
use Rattle.clause_set.specs.Literals.{literal_truth, IsLiteral}
use Rattle.clause_set.specs.Clauses.{clauses_of}
use Rattle.clause_set.specs.Formed.{IsFormed}
use Rattle.clause_set.specs.Met.{IsMet}
use Rattle.clause_set.specs.Names.{has}
use Rattle.clause_set.specs.Dnfs.{tidying, conjunction, disjunction, negation, top}
use Rattle.clause_set.specs.Rules.{rule, applies}
use Rattle.clause_set.proofs.Divisors.{kept-append}
use Rattle.elim_rule_laws.proofs.EquationExactness.{Keeps}
use Rattle.clause_set.specs.Kept.{AreFormed}
use Rattle.elim_laws.specs.Elimination.{IsOut, Reflects}
use Rattle.formula.specs.Form as tree
use Rattle.formula.specs.Form.{Form, Forms}
use Rattle.formula.specs.Sizes.{size, depth, depths}
use Rattle.elim_laws.specs.Presburger.{IsPresburgerTrue, AreTrueForms, AreFalseForms, IsPresburger, ArePresburger}
use Rattle.formula.specs.Duals.{dual}
use Rattle.elim_laws.specs.Whole.{Expresses, IsExact, paid, two_sides}
use Rattle.elim_laws.specs.Logs.{Rest, rest, Reader, reads_none, read_next, up_to, replayed, name_by_log, all_by_log, any_by_log, by_log, Yields}
use Rattle.elim_laws.proofs.Duals.{dual-proper, dual-depth}
use Rattle.elim_laws.proofs.Replays.{yields_next, yields_none}
use Rattle.elim_laws.proofs.Taking.{rule_keeps, out_none, out_append, out_unused, either_met, left_met, right_met, tidied-out}
use Rattle.elim_laws.proofs.Whole.{and_expresses, or_expresses, atom_expresses, zero_tells, bound_tells, sides_expresses, tells_map, some_value, every_value, top_expresses, bottom_expresses}

-- ---- one name
-- the replay goes on after what is done, with clauses from which x is out
record GoesOn (x : ℕ) (cs done : List (List Literal)) (r : Rest (List (List Literal))) : Type 0 where
  more : List (List Literal)
  value : r.value ≡ done ++ more
  out : IsOut x cs more

rule_front : (x : ℕ) (c : List Literal) (vs cs r : List (List Literal)) → Keeps x c vs → IsOut x (vs ++ cs) r → IsOut x (c ∷ cs) r
rule_front x c vs cs r k o = record {
  kept = λ e m. o.kept e (either_met x (c ∷ []) cs e (IsMet (vs ++ cs) x e) m (λ n. left_met x vs cs e ((k.met e).0 n)) (λ n. right_met x vs cs e n));
  back = λ e h. either_met x vs cs e (IsMet (c ∷ cs) x e) (o.back e h) (λ n. left_met x (c ∷ []) cs e ((k.met e).1 n)) (λ n. right_met x (c ∷ []) cs e n);
  formed = o.formed;
  free = o.free;
}

up_to_goes : (x : ℕ) (ls : List Entry) (turn : List Literal → List (List Literal) → List (List Literal) → Traced (Option (Rest (List (List Literal)))))
    → ((c : List Literal) (cs done : List (List Literal)) (r : Rest (List (List Literal))) → AreFormed (c ∷ cs) → (turn c cs done).value ≡ Some r → GoesOn x (c ∷ cs) done r)
    → (cs done : List (List Literal)) (r : Rest (List (List Literal))) → AreFormed cs → (up_to x ls turn cs done).value ≡ Some r → GoesOn x cs done r
unfolding next just step
up_to_goes x ls turn h [] done r f is = let s : rest done ls ≡ r = cc in record { more = []; value = sym (ap (λ z. z.value) s) ∙ sym (append-nil done); out = out_none x }
up_to_goes x ls turn h (c ∷ cs) done r f is =
    by (list_any (has x) c) refl (up_to_goes x ls turn h cs (done ++ c ∷ []) r f.1) is
  where
    by : (b : Bool) → list_any (has x) c ≡ b → ((up_to x ls turn cs (done ++ c ∷ [])).value ≡ Some r → GoesOn x cs (done ++ c ∷ []) r)
        → (cond b (turn c cs done) (next (pay 1) (λ _. up_to x ls turn cs (done ++ c ∷ [])))).value ≡ Some r → GoesOn x (c ∷ cs) done r
    by true e g s = h c cs done r f s
    by false e g s =
        let m = g s in
        record { more = c ∷ m.more; value = m.value ∙ append_assoc done (c ∷ []) m.more; out = out_append x (c ∷ []) cs (c ∷ []) m.more (out_unused x c f.0 e) m.out }

replayed_goes : (x : ℕ) (ls : List Entry) (cs done : List (List Literal)) (r : Rest (List (List Literal))) → AreFormed cs → (replayed x ls cs done).value ≡ Some r → GoesOn x cs done r
unfolding next just step
replayed_goes x [] cs done r f is = up_to_goes x [] _ (λ c cs done r f s. absurd (cc)) cs done r f is
replayed_goes x (e ∷ ls) cs done r f is = up_to_goes x (e ∷ ls) _ (λ c cs done r f s. by c cs done r f (replayed_goes x ls) (applies x c e) refl s) cs done r f is
  where
    by : (c : List Literal) (cs done : List (List Literal)) (r : Rest (List (List Literal))) → AreFormed (c ∷ cs)
        → ((cs done : List (List Literal)) (r : Rest (List (List Literal))) → AreFormed cs → (replayed x ls cs done).value ≡ Some r → GoesOn x cs done r)
        → (b : Bool) → applies x c e ≡ b → (cond b (next (rule x c e) (λ rs. next (note (entry e)) (λ _. replayed x ls (rs ++ cs) done))) (just None)).value ≡ Some r → GoesOn x (c ∷ cs) done r
    by c cs done r f g true a s =
        let k = rule_keeps x c e f.0 a in
        let m = g ((rule x c e).value ++ cs) done r (kept-append (All IsFormed) _ cs (recursion_from_All (All IsFormed) _ k.formed) f.1) s in
        record { more = m.more; value = m.value; out = rule_front x c (rule x c e).value cs m.more k m.out }
    by c cs done r f g false a s = absurd (cc)

-- any log that takes x out of d takes it out
pub name_yields : (x : ℕ) (d : List (List Literal)) → AreFormed d → Yields (name_by_log x d) (IsOut x d)
unfolding next just step
name_yields x d f =
    yields_next (λ ls. replayed x ls d []) (λ cs. reads_none (tidying cs)) (IsOut x d) (IsOut x d)
    (record { yields = λ ls r is. let g = replayed_goes x ls d [] r f is in subst (IsOut x d) (sym g.value) g.out })
    (λ cs o. yields_none (tidying cs) (IsOut x d) (tidied-out x d cs o))

-- ---- formulas
abbrev EachYields : (Form → Reader (List (List Literal))) → ℕ → Forms → Type 0
EachYields m n tree.no_form = Unit {0}
EachYields m n (tree.and_form g gs) = Yields (m g) (λ d. IsExact d g n) × EachYields m n gs

each_below : (k n : ℕ) (m : Form → Reader (List (List Literal))) → ((g : Form) → depth g < k → IsPresburger g → Yields (m g) (λ d. IsExact d g n)) → (gs : Forms) → depths gs < k → ArePresburger gs → EachYields m n gs
each_below k n m h tree.no_form lt p = tt
each_below k n m h (tree.and_form g gs) lt p = (h g (omega (arith, lt)) p.0, each_below k n m h gs (omega (arith, lt)) p.1)

expresses_map : (d : List (List Literal)) (n : ℕ) (P Q : List ℤ → Type 0) → ((e : List ℤ) → P e → Q e) → ((e : List ℤ) → Q e → P e) → Expresses d n P → Expresses d n Q
expresses_map d n P Q f g s = record { formed = s.formed; tells = λ e l. tells_map (f e) (g e) (s.tells e l) }

pub yields_map : {A : Type 0} (m : Reader A) (P Q : A → Type 0) → ((a : A) → P a → Q a) → Yields m P → Yields m Q
yields_map m P Q f h = record { yields = λ ls r is. f r.value (h.yields ls r is) }

all_yields : (m : Form → Reader (List (List Literal))) (n : ℕ) (gs : Forms) (d : List (List Literal)) (P : List ℤ → Type 0) → EachYields m n gs → Expresses d n P
    → Yields (all_by_log m gs d) (λ r. Expresses r n (λ e. P e × AreTrueForms gs e))
unfolding next just step
all_yields m n tree.no_form d P h s = yields_none (just d) _ (expresses_map d n _ _ (λ e p. (p, tt)) (λ e p. p.0) s)
all_yields m n (tree.and_form g gs) d P h s =
    yields_next (m g) _ (λ c. IsExact c g n) _ h.0 (λ c t. yields_next (reads_none (conjunction d c)) _ (λ b. Expresses b n (λ e. P e × IsPresburgerTrue g e)) _ (yields_none (conjunction d c) _ (and_expresses d c n P (IsPresburgerTrue g) s t))
    (λ b u. yields_map (all_by_log m gs b) (λ r. Expresses r n (λ e. (P e × IsPresburgerTrue g e) × AreTrueForms gs e)) _ (λ r v. expresses_map r n _ _ (λ e p. (p.0.0, (p.0.1, p.1))) (λ e p. ((p.0, p.1.0), p.1.1)) v)
    (all_yields m n gs b (λ e. P e × IsPresburgerTrue g e) h.1 u)))

any_yields : (m : Form → Reader (List (List Literal))) (n : ℕ) (gs : Forms) (d : List (List Literal)) (N : List ℤ → Type 0) → EachYields m n gs → Expresses d n (λ e. ¬ (N e))
    → Yields (any_by_log m gs d) (λ r. Expresses r n (λ e. ¬ (N e × AreFalseForms gs e)))
unfolding next just step
any_yields m n tree.no_form d N h s = yields_none (just d) _ (expresses_map d n _ _ (λ e p q. p q.0) (λ e p q. p (q, tt)) s)
any_yields m n (tree.and_form g gs) d N h s =
    yields_next (m g) _ (λ c. IsExact c g n) _ h.0 (λ c t. yields_next (reads_none (disjunction d c)) _ (λ b. Expresses b n (λ e. ¬ (N e × (¬ (IsPresburgerTrue g e))))) _ (yields_none (disjunction d c) _ (or_expresses d c n N (IsPresburgerTrue g) s t))
    (λ b u. yields_map (any_by_log m gs b) (λ r. Expresses r n (λ e. ¬ ((N e × (¬ (IsPresburgerTrue g e))) × AreFalseForms gs e))) _ (λ r v. expresses_map r n _ _ (λ e p q. p ((q.0, q.1.0), q.1.1)) (λ e p q. p (q.0.0, (q.0.1, q.1))) v)
    (any_yields m n gs b (λ e. N e × (¬ (IsPresburgerTrue g e))) h.1 u)))

paid_yields : (t : Linear) (w : Traced (List (List Literal))) (P : List (List Literal) → Type 0) → P w.value → Yields (reads_none (paid t w)) P
unfolding next just step
paid_yields t w P h = yields_none (paid t w) P h

sides_yields : (t : Linear) (n : ℕ) → IsReduced t → Yields (reads_none (paid t (two_sides t))) (λ d. IsExact d (tree.unequal t) n)
unfolding next just step
sides_yields t n p = paid_yields t (two_sides t) (λ d. IsExact d (tree.unequal t) n) (sides_expresses t n p)

literal_yields : (t : Linear) (l : Literal) (n : ℕ) (P : List ℤ → Type 0) → IsLiteral l → ((e : List ℤ) → Reflects (literal_truth l e) (P e)) → Yields (reads_none (paid t (just (clauses_of ((l ∷ []) ∷ []))))) (λ d. Expresses d n P)
unfolding just
literal_yields t l n P h k = paid_yields t (just (clauses_of ((l ∷ []) ∷ []))) (λ d. Expresses d n P) (atom_expresses l n P h k)

pub dual_yields : (f : Form) → Yields (reads_none (dual f)) (λ g. g ≡ (dual f).value)
dual_yields f = yields_none (dual f) (λ g. g ≡ (dual f).value) refl

-- any log that is accepted gives an exact normal form
pub log_exact : (m n : ℕ) (f : Form) → depth f < m → IsPresburger f → Yields (by_log m n f) (λ d. IsExact d f n)
log_exact zero n f lt p = absurd (omega (arith, lt))
log_exact (suc m) n (tree.equal t) lt p = literal_yields t (Eq t) n (IsPresburgerTrue (tree.equal t)) (record { term = p; divisor = tt }) (λ e. zero_tells (value_of t e))
log_exact (suc m) n (tree.at_least t) lt p = literal_yields t (Geq t) n (IsPresburgerTrue (tree.at_least t)) (record { term = p; divisor = tt }) (λ e. bound_tells (value_of t e))
log_exact (suc m) n (tree.unequal t) lt p = sides_yields t n p
log_exact (suc m) n (tree.holds q ts) lt p = absurd p
log_exact (suc m) n (tree.fails q ts) lt p = absurd p
log_exact (suc m) n (tree.differs q ts u) lt p = absurd p
log_exact (suc m) n (tree.conjunction fs) lt p =
    yields_map (all_by_log (by_log m n) fs top) (λ d. Expresses d n (λ e. Unit {0} × AreTrueForms fs e)) (λ d. IsExact d (tree.conjunction fs) n) (λ d s. expresses_map d n (λ e. Unit {0} × AreTrueForms fs e) (AreTrueForms fs) (λ e q. q.1) (λ e q. (tt, q)) s)
    (all_yields (by_log m n) n fs top (λ e. Unit {0}) (each_below m n (by_log m n) (log_exact m n) fs (omega (arith, lt)) p) (top_expresses n))
log_exact (suc m) n (tree.disjunction fs) lt p =
    yields_map (any_by_log (by_log m n) fs []) (λ d. Expresses d n (λ e. ¬ (Unit {0} × AreFalseForms fs e))) (λ d. IsExact d (tree.disjunction fs) n) (λ d s. expresses_map d n (λ e. ¬ (Unit {0} × AreFalseForms fs e)) (IsPresburgerTrue (tree.disjunction fs)) (λ e q r. q (tt, r)) (λ e q r. q r.1) s)
    (any_yields (by_log m n) n fs [] (λ e. Unit {0}) (each_below m n (by_log m n) (log_exact m n) fs (omega (arith, lt)) p) (bottom_expresses n))
log_exact (suc m) n (tree.existential f) lt p =
    yields_next (by_log m (suc n) f) (name_by_log n) (λ d. IsExact d f (suc n)) (λ r. IsExact r (tree.existential f) n) (log_exact m (suc n) f (omega (arith, lt)) p)
    (λ d s. yields_map (name_by_log n d) (IsOut n d) (λ r. IsExact r (tree.existential f) n) (λ r o. some_value f n d r s o) (name_yields n d s.formed))
log_exact (suc m) n (tree.universal f) lt p =
    let goal : List (List Literal) → Type 0 = (λ d. IsExact d (tree.universal f) n) in
    let out : List (List Literal) → Reader (List (List Literal)) = (λ d. read_next (name_by_log n d) (λ c. reads_none (negation c))) in
    let body : Form → Reader (List (List Literal)) = (λ g. read_next (by_log m (suc n) g) out) in
    let deeper : depth (dual f).value < m = (let same = dual-depth f in omega (arith, lt, same)) in
    let one : (d : List (List Literal)) → IsExact d (dual f).value (suc n) → Yields (out d) goal =
    (λ d s. yields_next (name_by_log n d) (λ c. reads_none (negation c)) (IsOut n d) goal (name_yields n d s.formed)
    (λ r o. yields_none (negation r) goal (every_value f n r p (some_value (dual f).value n d r s o)))) in
    let all : Yields (body (dual f).value) goal = yields_next (by_log m (suc n) (dual f).value) out (λ d. IsExact d (dual f).value (suc n)) goal (log_exact m (suc n) (dual f).value deeper (dual-proper f p)) one in
    yields_next (reads_none (pay (size f))) (λ _. read_next (reads_none (dual f)) body) (λ z. Unit {0}) goal (yields_none (pay (size f)) (λ z. Unit {0}) tt)
    (λ z _. yields_next (reads_none (dual f)) body (λ g. g ≡ (dual f).value) goal (dual_yields f) (λ g is. subst (λ h. Yields (body h) goal) (sym is) all))
