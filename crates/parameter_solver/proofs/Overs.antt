-- The names of a disjunction are below a bound exactly where the test says so.
use Rattle.std.proofs.Common.{◌≡◌, ◌<◌, ◌≤◌, ℕ, ℤ, Bool, true, false, cond, nat_eq, nat_lt, List, [], ◌∷◌, refl, sym, ◌∙◌, ap, arith}
use Rattle.std.specs.Prelude.{◌↔◌}
use Rattle.std.specs.List.{AllByRecursion, list_all}
use Rattle.std.proofs.lemmas.Bool.Decides.{nat_tests}
use Rattle.linear_term.specs.Linear.{mentions, has_name}
use Rattle.clause_set.specs.declared.literal.Literal.{Literal}
use Rattle.clause_set.specs.Literals.{term_of}
use Rattle.elim_rule_laws.proofs.EquationLists.{and_left, and_right, and_both}
use Rattle.elim_laws.specs.Whole.{AreOver, Lacks}
use Rattle.solve_laws.proofs.Alone.{same_name}
use Rattle.parameter_solver.specs.Over.{term_is_over, clause_is_over}

pairs_lack : (n y : ℕ) (ps : List (ℕ × ℤ)) → n ≤ y → list_all (λ p. nat_lt p.0 n) ps ≡ true → has_name ps y ≡ false
pairs_lack n y [] le h = refl
pairs_lack n y (p ∷ ps) le h =
    let lt : p.0 < n = let t = and_left (nat_lt p.0 n) (list_all (λ q. nat_lt q.0 n) ps) h in grind (arith, nat_tests) in
    let other : nat_eq p.0 y ≡ false = grind (arith, nat_tests) in
    ap (λ b. cond b true (has_name ps y)) other ∙ pairs_lack n y ps le (and_right (nat_lt p.0 n) (list_all (λ q. nat_lt q.0 n) ps) h)

literals_lack : (n y : ℕ) (c : List Literal) → n ≤ y → clause_is_over n c ≡ true → Lacks y c
unfolding mentions
literals_lack n y [] le h = tt
literals_lack n y (l ∷ c) le h = (pairs_lack n y (term_of l).pairs le (and_left _ _ h), literals_lack n y c le (and_right (term_is_over n (term_of l)) _ h))

clauses_lack : (n y : ℕ) (d : List (List Literal)) → n ≤ y → list_all (clause_is_over n) d ≡ true → AllByRecursion (Lacks y) d
clauses_lack n y [] le h = tt
clauses_lack n y (c ∷ d) le h = (literals_lack n y c le (and_left _ _ h), clauses_lack n y d le (and_right (clause_is_over n c) _ h))

-- ---- back
rest_lacks : (b r : Bool) → cond b true r ≡ false → r ≡ false
rest_lacks true r h = absurd (cc)
rest_lacks false r h = h

pairs_over : (n : ℕ) (ps : List (ℕ × ℤ)) → ((y : ℕ) → n ≤ y → has_name ps y ≡ false) → list_all (λ p. nat_lt p.0 n) ps ≡ true
pairs_over n [] h = refl
pairs_over n (p ∷ ps) h = and_both _ _ (by (nat_lt p.0 n) refl) (pairs_over n ps (λ y le. rest_lacks (nat_eq p.0 y) (has_name ps y) (h y le)))
  where
    by : (b : Bool) → nat_lt p.0 n ≡ b → b ≡ true
    by true e = refl
    by false e =
        let le : n ≤ p.0 = grind (arith, nat_tests) in
        let here = sym (ap (λ b. cond b true (has_name ps p.0)) (same_name p.0)) ∙ h p.0 le in
        absurd (cc here)

literals_over : (n : ℕ) (c : List Literal) → ((y : ℕ) → n ≤ y → Lacks y c) → clause_is_over n c ≡ true
unfolding mentions
literals_over n [] h = refl
literals_over n (l ∷ c) h = and_both _ _ (pairs_over n (term_of l).pairs (λ y le. (h y le).0)) (literals_over n c (λ y le. (h y le).1))

clauses_over : (n : ℕ) (d : List (List Literal)) → AreOver n d → list_all (clause_is_over n) d ≡ true
clauses_over n [] h = refl
clauses_over n (c ∷ d) h = and_both _ _ (literals_over n c (λ y le. (h y le).0)) (clauses_over n d (λ y le. (h y le).1))

pub over_test : (n : ℕ) (d : List (List Literal)) (b : Bool) → b ≡ list_all (clause_is_over n) d → (b ≡ true) ↔ AreOver n d
over_test n d b is = (λ t. λ y le. clauses_lack n y d le (sym is ∙ t), λ h. is ∙ clauses_over n d h)
