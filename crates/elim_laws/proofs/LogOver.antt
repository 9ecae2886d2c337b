-- Whatever a log that is accepted leaves of a formula over n is over n.
use Rattle.std.proofs.Common.{◌≡◌, ◌≢◌, ◌<◌, ◌≤◌, ℕ, zero, suc, Bool, true, false, cond, nat_eq, List, [], ◌∷◌, ◌++◌, Option, Some, None, refl, sym, subst, arith}
use Rattle.std.specs.List.{AllByRecursion, list_any}
use Rattle.std.proofs.lemmas.Bool.Decides.{nat_tests}
use Rattle.linear_term.proofs.Names.{over-unmentioned}
use Rattle.base_budget.specs.declared.log.Entry.{Entry}
use Rattle.base_budget.specs.Trace.{entry, Traced, just, step, next, pay, note}
use Rattle.clause_set.specs.declared.literal.Literal.{Literal}
use Rattle.clause_set.specs.declared.literal.Literal.TheVariants.{Eq, Geq}
use Rattle.clause_set.specs.Clauses.{clauses_of}
use Rattle.clause_set.specs.Dnfs.{tidying, conjunction, disjunction, negated_literal, negation, top}
use Rattle.clause_set.specs.Kept.{AreFormed}
use Rattle.clause_set.specs.Names.{has}
use Rattle.clause_set.specs.Rules.{applies, rule}
use Rattle.clause_set.proofs.Divisors.{kept-append}
use Rattle.clause_set.proofs.Kept.{tidied-kept}
use Rattle.elim_rule_laws.proofs.EquationLists.{any-none, kept-weaker}
use Rattle.formula.specs.Form as tree
use Rattle.formula.specs.Form.{Form, Forms, IsFormOver, AreFormsOver}
use Rattle.formula.specs.Sizes.{size, depth, depths}
use Rattle.formula.specs.Duals.{dual}
use Rattle.formula.proofs.Duals.{dual_over}
use Rattle.elim_laws.specs.Elimination.{IsOut}
use Rattle.elim_laws.specs.Logs.{Rest, rest, Reader, reads_none, read_next, up_to, replayed, name_by_log, all_by_log, any_by_log, by_log, Yields}
use Rattle.elim_laws.specs.Presburger.{IsPresburger, ArePresburger}
use Rattle.elim_laws.specs.Whole.{AreOver, IsExact, Lacks, paid, two_sides}
use Rattle.elim_laws.proofs.Accepted.{dual_yields, log_exact, name_yields, yields_map}
use Rattle.elim_laws.proofs.Duals.{dual-proper, dual-depth}
use Rattle.elim_laws.proofs.Names.{clauses-lack, rule-lacks}
use Rattle.elim_laws.proofs.Over.{conjunction-lacks, disjunction-lacks, negated_literal-lacks, negation-lacks}
use Rattle.elim_laws.proofs.Replays.{yields_next, yields_none}

-- ---- one name
-- the clauses, and those of a rest, are without y
abbrev AllLack : ℕ → List (List Literal) → Type 0
AllLack y = AllByRecursion (Lacks y)

up_to_lacks : (x y : ℕ) (ls : List Entry) (turn : List Literal → List (List Literal) → List (List Literal) → Traced (Option (Rest (List (List Literal)))))
    → ((c : List Literal) (cs done : List (List Literal)) (r : Rest (List (List Literal))) → AllLack y (c ∷ cs) → AllLack y done → (turn c cs done).value ≡ Some r → AllLack y r.value)
    → (cs done : List (List Literal)) (r : Rest (List (List Literal))) → AllLack y cs → AllLack y done → (up_to x ls turn cs done).value ≡ Some r → AllLack y r.value
unfolding next just step
up_to_lacks x y ls turn h [] done r f k is = let s : rest done ls ≡ r = cc in subst (λ z. AllLack y z.value) s k
up_to_lacks x y ls turn h (c ∷ cs) done r f k is =
    by (list_any (has x) c) (up_to_lacks x y ls turn h cs (done ++ c ∷ []) r f.1 (kept-append (Lacks y) done (c ∷ []) k (f.0, tt))) is
  where
    by : (b : Bool) → ((up_to x ls turn cs (done ++ c ∷ [])).value ≡ Some r → AllLack y r.value)
        → (cond b (turn c cs done) (next (pay 1) (λ _. up_to x ls turn cs (done ++ c ∷ [])))).value ≡ Some r → AllLack y r.value
    by true g s = h c cs done r f k s
    by false g s = g s

replayed_lacks : (x y : ℕ) → y ≢ x → (ls : List Entry) (cs done : List (List Literal)) (r : Rest (List (List Literal))) → AllLack y cs → AllLack y done → (replayed x ls cs done).value ≡ Some r → AllLack y r.value
unfolding next just step
replayed_lacks x y apart [] cs done r f k is = up_to_lacks x y [] _ (λ c cs done r f k s. absurd (cc)) cs done r f k is
replayed_lacks x y apart (e ∷ ls) cs done r f k is = up_to_lacks x y (e ∷ ls) _ (λ c cs done r f k s. by c cs done r f k (replayed_lacks x y apart ls) (applies x c e) s) cs done r f k is
  where
    by : (c : List Literal) (cs done : List (List Literal)) (r : Rest (List (List Literal))) → AllLack y (c ∷ cs) → AllLack y done
        → ((cs done : List (List Literal)) (r : Rest (List (List Literal))) → AllLack y cs → AllLack y done → (replayed x ls cs done).value ≡ Some r → AllLack y r.value)
        → (b : Bool) → (cond b (next (rule x c e) (λ rs. next (note (entry e)) (λ _. replayed x ls (rs ++ cs) done))) (just None)).value ≡ Some r → AllLack y r.value
    by c cs done r f k g true s = g ((rule x c e).value ++ cs) done r (kept-append (Lacks y) (rule x c e).value cs (rule-lacks x y c e apart f.0) f.1) k s
    by c cs done r f k g false s = absurd (cc)

name_lacks : (x y : ℕ) (d : List (List Literal)) → y ≢ x → AllLack y d → Yields (name_by_log x d) (AllLack y)
unfolding next just step
name_lacks x y d apart f =
    yields_next (λ ls. replayed x ls d []) (λ cs. reads_none (tidying cs)) (AllLack y) (AllLack y)
    (record { yields = λ ls r is. replayed_lacks x y apart ls d [] r f tt is })
    (λ cs k. yields_none (tidying cs) (AllLack y) (tidied-kept (Lacks y) cs k))

out_over : (n : ℕ) (d r : List (List Literal)) → IsOut n d r → ((y : ℕ) → y ≢ n → n ≤ y → AllLack y r) → AreOver n r
out_over n d r o h = λ y le. by y le (nat_eq y n) refl
  where
    by : (y : ℕ) → n ≤ y → (b : Bool) → nat_eq y n ≡ b → AllLack y r
    by y le true e =
        let same : n ≡ y = grind (arith, nat_tests) in
        subst (λ z. AllLack z r) same (kept-weaker (λ c. list_any (has n) c ≡ false) (Lacks n) (λ c k. any-none (has n) c k) r o.free)
    by y le false e = h y (λ s. grind (arith, nat_tests)) le

-- the last name goes out
name_over : (n : ℕ) (d : List (List Literal)) → AreFormed d × AreOver (suc n) d → Yields (name_by_log n d) (AreOver n)
name_over n d h = record {
  yields = λ ls r is. out_over n d r.value ((name_yields n d h.0).yields ls r is) (λ y apart le. (name_lacks n y d apart (h.1 y (omega (arith, apart, le)))).yields ls r is);
}

-- ---- formulas
both : {A : Type 0} (m : Reader A) (P Q : A → Type 0) → Yields m P → Yields m Q → Yields m (λ a. P a × Q a)
both m P Q h k = record { yields = λ ls r is. (h.yields ls r is, k.yields ls r is) }

abbrev EachOver : (Form → Reader (List (List Literal))) → ℕ → Forms → Type 0
EachOver m n tree.no_form = Unit {0}
EachOver m n (tree.and_form g gs) = Yields (m g) (AreOver n) × EachOver m n gs

each_over : (k n : ℕ) (m : Form → Reader (List (List Literal))) → ((g : Form) → depth g < k → IsPresburger g → IsFormOver n g → Yields (m g) (AreOver n)) → (gs : Forms) → depths gs < k → ArePresburger gs → AreFormsOver n gs → EachOver m n gs
each_over k n m h tree.no_form lt p o = tt
each_over k n m h (tree.and_form g gs) lt p o = (h g (omega (arith, lt)) p.0 o.0, each_over k n m h gs (omega (arith, lt)) p.1 o.1)

all_over : (m : Form → Reader (List (List Literal))) (n : ℕ) (gs : Forms) (d : List (List Literal)) → EachOver m n gs → AreOver n d → Yields (all_by_log m gs d) (AreOver n)
unfolding just
all_over m n tree.no_form d h k = yields_none (just d) (AreOver n) k
all_over m n (tree.and_form g gs) d h k =
    yields_next (m g) _ (AreOver n) (AreOver n) h.0
    (λ c t. yields_next (reads_none (conjunction d c)) (all_by_log m gs) (AreOver n) (AreOver n) (yields_none (conjunction d c) (AreOver n) (λ y le. conjunction-lacks y d c (k y le) (t y le)))
    (λ b u. all_over m n gs b h.1 u))

any_over : (m : Form → Reader (List (List Literal))) (n : ℕ) (gs : Forms) (d : List (List Literal)) → EachOver m n gs → AreOver n d → Yields (any_by_log m gs d) (AreOver n)
unfolding just
any_over m n tree.no_form d h k = yields_none (just d) (AreOver n) k
any_over m n (tree.and_form g gs) d h k =
    yields_next (m g) _ (AreOver n) (AreOver n) h.0
    (λ c t. yields_next (reads_none (disjunction d c)) (any_by_log m gs) (AreOver n) (AreOver n) (yields_none (disjunction d c) (AreOver n) (λ y le. disjunction-lacks y d c (k y le) (t y le)))
    (λ b u. any_over m n gs b h.1 u))

formed_over : (m : Reader (List (List Literal))) (n : ℕ) (f : Form) → Yields m (λ d. IsExact d f n) → Yields m (AreOver n) → Yields m (λ d. AreFormed d × AreOver n d)
formed_over m n f exact over = both m AreFormed (AreOver n) (yields_map m (λ d. IsExact d f n) AreFormed (λ d s. s.formed) exact) over

pub log_over : (m n : ℕ) (f : Form) → depth f < m → IsPresburger f → IsFormOver n f → Yields (by_log m n f) (AreOver n)
unfolding next just step
log_over zero n f lt p o = absurd (omega (arith, lt))
log_over (suc m) n (tree.equal t) lt p o =
    yields_none (paid t (just (clauses_of ((Eq t ∷ []) ∷ [])))) (AreOver n) (λ y le. clauses-lack y ((Eq t ∷ []) ∷ []) ((over-unmentioned n y t o le, tt), tt))
log_over (suc m) n (tree.at_least t) lt p o =
    yields_none (paid t (just (clauses_of ((Geq t ∷ []) ∷ [])))) (AreOver n) (λ y le. clauses-lack y ((Geq t ∷ []) ∷ []) ((over-unmentioned n y t o le, tt), tt))
log_over (suc m) n (tree.unequal t) lt p o =
    yields_none (paid t (two_sides t)) (AreOver n) (λ y le. tidied-kept (Lacks y) (negated_literal (Eq t)).value (negated_literal-lacks y (Eq t) (over-unmentioned n y t o le)))
log_over (suc m) n (tree.holds q ts) lt p o = absurd p
log_over (suc m) n (tree.fails q ts) lt p o = absurd p
log_over (suc m) n (tree.differs q ts u) lt p o = absurd p
log_over (suc m) n (tree.conjunction fs) lt p o =
    all_over (by_log m n) n fs top (each_over m n (by_log m n) (log_over m n) fs (omega (arith, lt)) p o) (λ y le. (tt, tt))
log_over (suc m) n (tree.disjunction fs) lt p o =
    any_over (by_log m n) n fs [] (each_over m n (by_log m n) (log_over m n) fs (omega (arith, lt)) p o) (λ y le. tt)
log_over (suc m) n (tree.existential f) lt p o =
    let inner : depth f < m = omega (arith, lt) in
    yields_next (by_log m (suc n) f) (name_by_log n) (λ d. AreFormed d × AreOver (suc n) d) (AreOver n)
    (formed_over (by_log m (suc n) f) (suc n) f (log_exact m (suc n) f inner p) (log_over m (suc n) f inner p o)) (name_over n)
log_over (suc m) n (tree.universal f) lt p o =
    let g : Form = (dual f).value in
    let out : List (List Literal) → Reader (List (List Literal)) = (λ d. read_next (name_by_log n d) (λ c. reads_none (negation c))) in
    let body : Form → Reader (List (List Literal)) = (λ h. read_next (by_log m (suc n) h) out) in
    let deeper : depth g < m = (let same = dual-depth f in omega (arith, lt, same)) in
    let one : (d : List (List Literal)) → AreFormed d × AreOver (suc n) d → Yields (out d) (AreOver n) =
    (λ d h. yields_next (name_by_log n d) (λ c. reads_none (negation c)) (AreOver n) (AreOver n) (name_over n d h)
    (λ r q. yields_none (negation r) (AreOver n) (λ y le. negation-lacks y r (q y le)))) in
    let all : Yields (body g) (AreOver n) = yields_next (by_log m (suc n) g) out (λ d. AreFormed d × AreOver (suc n) d) (AreOver n)
    (formed_over (by_log m (suc n) g) (suc n) g (log_exact m (suc n) g deeper (dual-proper f p)) (log_over m (suc n) g deeper (dual-proper f p) (dual_over (suc n) f o))) one in
    yields_next (reads_none (pay (size f))) (λ _. read_next (reads_none (dual f)) body) (λ z. Unit {0}) (AreOver n) (yields_none (pay (size f)) (λ z. Unit {0}) tt)
    (λ z _. yields_next (reads_none (dual f)) body (λ h. h ≡ g) (AreOver n) (dual_yields f) (λ h is. subst (λ i. Yields (body i) (AreOver n)) (sym is) all))
