-- What a log that takes a name out keeps of the clauses.
use Rattle.std.proofs.Common.{◌≡◌, ◌≢◌, ℕ, Bool, true, false, cond, List, [], ◌∷◌, ◌++◌, Option, Some, None, refl, sym, subst}
use Rattle.std.specs.Prelude.{All}
use Rattle.std.specs.List.{AllByRecursion, list_any}
use Rattle.std.proofs.lemmas.List.Elements.{All-from_recursion, recursion_from_All}
use Rattle.base_budget.specs.declared.log.Entry.{Entry}
use Rattle.base_budget.specs.declared.log.Entry.TheVariants.{Equation, Apart, Merge, Shift, OneSided, Exact, Dark}
use Rattle.base_budget.specs.Trace.{Traced, entry, just, next, note, pay, step}
use Rattle.clause_set.specs.declared.literal.Literal.{Literal}
use Rattle.clause_set.specs.Clauses.{clauses_of}
use Rattle.clause_set.specs.Dnfs.{tidying}
use Rattle.clause_set.specs.Formed.{IsFormed}
use Rattle.clause_set.specs.Kept.{AreFormed}
use Rattle.clause_set.specs.Literals.{IsLiteral}
use Rattle.clause_set.specs.Names.{has}
use Rattle.clause_set.specs.Primitive.{IsShaped}
use Rattle.clause_set.specs.Rules.{applies, rule}
use Rattle.clause_set.proofs.Divisors.{kept-append}
use Rattle.clause_set.proofs.Kept.{tidied-kept}
use Rattle.clause_set.proofs.Shapes.{clauses-shaped}
use Rattle.elim_rule_laws.proofs.EquationExactness.{equation-exact, apart-exact, merge-exact, shift-exact}
use Rattle.elim_rule_laws.proofs.EquationLists.{kept-weaker}
use Rattle.elim_rule_laws.proofs.EquationValues.{equation-value, apart-value, merge-value, shift-value}
use Rattle.elim_rule_laws.specs.ShadowResults.{one_sided_results, exact_results, dark_results}
use Rattle.elim_rule_laws.proofs.Forms.{one_sided-proper, exact-proper, dark_results-proper}
use Rattle.elim_rule_laws.proofs.ShadowValues.{one_sided-value, exact-value, dark-value}
use Rattle.elim_laws.specs.Logs.{Rest, rest, Yields, name_by_log, reads_none, replayed, up_to}
use Rattle.elim_laws.specs.Whole.{Lacks}
use Rattle.elim_laws.proofs.Forms.{literals_of_clause}
use Rattle.elim_laws.proofs.Names.{rule-lacks}
use Rattle.elim_laws.proofs.Replays.{yields_next, yields_none}
use Rattle.elim_laws.proofs.Taking.{rule_keeps}

-- ---- what each rule keeps of a clause is kept by a log of rules
-- the rules for x keep Q
abbrev Keep : ℕ → (List Literal → Type 0) → Type 0
Keep x Q = (c : List Literal) (e : Entry) → Q c → applies x c e ≡ true → AllByRecursion Q (rule x c e).value

up_to_kept : (Q : List Literal → Type 0) (x : ℕ) (ls : List Entry) (turn : List Literal → List (List Literal) → List (List Literal) → Traced (Option (Rest (List (List Literal)))))
    → ((c : List Literal) (cs done : List (List Literal)) (r : Rest (List (List Literal))) → Q c → AllByRecursion Q cs → AllByRecursion Q done → (turn c cs done).value ≡ Some r → AllByRecursion Q r.value)
    → (cs done : List (List Literal)) (r : Rest (List (List Literal))) → AllByRecursion Q cs → AllByRecursion Q done → (up_to x ls turn cs done).value ≡ Some r → AllByRecursion Q r.value
unfolding next just step
up_to_kept Q x ls turn h [] done r f g is = let s : rest done ls ≡ r = cc in subst (λ (z : Rest (List (List Literal))). AllByRecursion Q z.value) s g
up_to_kept Q x ls turn h (c ∷ cs) done r f g is = by (list_any (has x) c) (up_to_kept Q x ls turn h cs (done ++ c ∷ []) r f.1 (kept-append Q done (c ∷ []) g (f.0, tt))) is
  where
    by : (b : Bool) → ((up_to x ls turn cs (done ++ c ∷ [])).value ≡ Some r → AllByRecursion Q r.value)
        → (cond b (turn c cs done) (next (pay 1) (λ _. up_to x ls turn cs (done ++ c ∷ [])))).value ≡ Some r → AllByRecursion Q r.value
    by true k s = h c cs done r f.0 f.1 g s
    by false k s = k s

replayed_kept : (Q : List Literal → Type 0) (x : ℕ) → Keep x Q → (ls : List Entry) (cs done : List (List Literal)) (r : Rest (List (List Literal))) → AllByRecursion Q cs → AllByRecursion Q done
    → (replayed x ls cs done).value ≡ Some r → AllByRecursion Q r.value
unfolding next just step
replayed_kept Q x keep [] cs done r f g is = up_to_kept Q x [] _ (λ c cs done r q f g s. absurd (cc)) cs done r f g is
replayed_kept Q x keep (e ∷ ls) cs done r f g is = up_to_kept Q x (e ∷ ls) _ (λ c cs done r q f g s. by c cs done r q f g (replayed_kept Q x keep ls) (applies x c e) refl s) cs done r f g is
  where
    by : (c : List Literal) (cs done : List (List Literal)) (r : Rest (List (List Literal))) → Q c → AllByRecursion Q cs → AllByRecursion Q done
        → ((cs done : List (List Literal)) (r : Rest (List (List Literal))) → AllByRecursion Q cs → AllByRecursion Q done → (replayed x ls cs done).value ≡ Some r → AllByRecursion Q r.value)
        → (b : Bool) → applies x c e ≡ b → (cond b (next (rule x c e) (λ rs. next (note (entry e)) (λ _. replayed x ls (rs ++ cs) done))) (just None)).value ≡ Some r → AllByRecursion Q r.value
    by c cs done r q f g more true a s = more ((rule x c e).value ++ cs) done r (kept-append Q (rule x c e).value cs (keep c e q a) f) g s
    by c cs done r q f g more false a s = absurd (cc)

name_kept : (Q : List Literal → Type 0) (x : ℕ) → Keep x Q → (d : List (List Literal)) → AllByRecursion Q d → Yields (name_by_log x d) (AllByRecursion Q)
unfolding next just step
name_kept Q x keep d f =
    yields_next (λ ls. replayed x ls d []) (λ cs. reads_none (tidying cs)) (AllByRecursion Q) (AllByRecursion Q) (record { yields = λ ls r is. replayed_kept Q x keep ls d [] r f tt is })
    (λ cs k. yields_none (tidying cs) (AllByRecursion Q) (tidied-kept Q cs k))

-- ---- other names stay away
pub lacks_kept : (x y : ℕ) (d : List (List Literal)) → y ≢ x → AllByRecursion (Lacks y) d → Yields (name_by_log x d) (AllByRecursion (Lacks y))
lacks_kept x y d other h = name_kept (Lacks y) x (λ c e k a. rule-lacks x y c e other k) d h

-- ---- clauses keep their form and shape
by_value : (ds vs : List (List Literal)) → vs ≡ clauses_of ds → AllByRecursion (All IsLiteral) ds → AllByRecursion (All IsShaped) vs
by_value ds vs is h = subst (AllByRecursion (All IsShaped)) (sym is) (clauses-shaped ds h)

by_recursion : (ds : List (List Literal)) → AllByRecursion (AllByRecursion IsLiteral) ds → AllByRecursion (All IsLiteral) ds
by_recursion ds h = kept-weaker (AllByRecursion IsLiteral) (All IsLiteral) (λ c k. All-from_recursion IsLiteral c k) ds h

literals : (c : List Literal) → All IsFormed c → AllByRecursion IsLiteral c
literals c f = recursion_from_All IsLiteral c (literals_of_clause c f)

formed : (c : List Literal) → All IsFormed c → AllByRecursion IsFormed c
formed c f = recursion_from_All IsFormed c f

rule-shaped : (x : ℕ) (c : List Literal) (e : Entry) → All IsFormed c → applies x c e ≡ true → AllByRecursion (All IsShaped) (rule x c e).value
rule-shaped x c (Equation i) f a = by_value _ _ (equation-value x i c) (by_recursion _ (equation-exact x i c (literals c f) a).literals)
rule-shaped x c (Apart i) f a = by_value _ _ (apart-value x i c) (by_recursion _ (apart-exact x i c (literals c f) a).literals)
rule-shaped x c (Merge i j) f a = by_value _ _ (merge-value x i j c) (by_recursion _ (merge-exact x i j c (formed c f) a).literals)
rule-shaped x c (Shift i) f a = by_value _ _ (shift-value x i c) (by_recursion _ (shift-exact x i c (formed c f) a).literals)
rule-shaped x c OneSided f a = by_value (one_sided_results x c) _ (one_sided-value x c) (recursion_from_All (All IsLiteral) (one_sided_results x c) (one_sided-proper x c (literals_of_clause c f)))
rule-shaped x c Exact f a = by_value (exact_results x c) _ (exact-value x c) (recursion_from_All (All IsLiteral) (exact_results x c) (exact-proper x c (literals_of_clause c f)))
rule-shaped x c Dark f a = by_value (dark_results x c) _ (dark-value x c) (recursion_from_All (All IsLiteral) (dark_results x c) (dark_results-proper x c (literals_of_clause c f)))

-- a clause of literals in form, with the shape of clauses
pub record IsFit (c : List Literal) : Type 0 where
  pub formed : All IsFormed c
  pub shaped : All IsShaped c

pub fit : (d : List (List Literal)) → AreFormed d → AllByRecursion (All IsShaped) d → AllByRecursion IsFit d
fit [] f s = tt
fit (c ∷ d) f s = (record { formed = f.0; shaped = s.0 }, fit d f.1 s.1)

pub shaped_fit : (d : List (List Literal)) → AllByRecursion IsFit d → AllByRecursion (All IsShaped) d
shaped_fit d h = kept-weaker IsFit (All IsShaped) (λ c k. k.shaped) d h

pub fit_kept : (x : ℕ) (d : List (List Literal)) → AllByRecursion IsFit d → Yields (name_by_log x d) (AllByRecursion IsFit)
fit_kept x d h = name_kept IsFit x (λ c e k a. fit (rule x c e).value (recursion_from_All (All IsFormed) (rule x c e).value (rule_keeps x c e k.formed a).formed) (rule-shaped x c e k.formed a)) d h
