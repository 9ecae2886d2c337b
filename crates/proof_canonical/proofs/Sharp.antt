-- The literals of canonical constraints are normal forms.
use Rattle.std.proofs.Common.{◌≡◌, ◌<◌, ℕ, zero, suc, true, List, [], ◌∷◌, Option, Some, None, refl, sym, subst, arith}
use Rattle.std.specs.Prelude.{All}
use Rattle.std.specs.List.{AllByRecursion}
use Rattle.std.proofs.lemmas.List.Elements.{All-from_recursion, recursion_from_All}
use Rattle.base_budget.specs.declared.log.Entry.{Entry}
use Rattle.base_budget.specs.declared.log.Entry.TheVariants.{Equation, Apart, Merge, Shift, OneSided, Exact, Dark}
use Rattle.base_budget.specs.Trace.{Traced, just, step, next}
use Rattle.base_budget.proofs.Tracing.{each-value}
use Rattle.clause_set.specs.declared.literal.Literal.{Literal}
use Rattle.clause_set.specs.declared.literal.Literal.TheVariants.{Eq, Geq}
use Rattle.clause_set.specs.Clauses.{clauses_of}
use Rattle.clause_set.specs.Dnfs.{conjunction, disjunction, negation, top}
use Rattle.clause_set.specs.Formed.{IsFormed}
use Rattle.clause_set.specs.Literals.{IsLiteral}
use Rattle.clause_set.specs.Rules.{rule, applies, first_rule, measure}
use Rattle.clause_set.proofs.Kept.{Each, Denies, clauses-kept, conjunction-kept, disjunction-kept, each-back, negation-kept, tidied-kept}
use Rattle.clause_set.proofs.Negations.{less, more, less_is, more_is}
use Rattle.clause_set.proofs.Primitive.{IsNormalLiteral, normal-keeps}
use Rattle.elim_rule_laws.proofs.EquationLists.{kept-weaker}
use Rattle.elim_rule_laws.proofs.EquationExactness.{equation-exact, apart-exact, merge-exact, shift-exact}
use Rattle.elim_rule_laws.proofs.EquationValues.{equation-value, apart-value, merge-value, shift-value}
use Rattle.elim_rule_laws.specs.ShadowResults.{one_sided_results, exact_results, dark_results}
use Rattle.elim_rule_laws.proofs.ShadowValues.{one_sided-value, exact-value, dark-value}
use Rattle.elim_rule_laws.proofs.Forms.{one_sided-proper, exact-proper, dark_results-proper}
use Rattle.elim_laws.specs.Elimination.{by_first, exists_name, for_all_name, rules_deep, taken_out}
use Rattle.elim_laws.specs.Presburger.{IsPresburger, ArePresburger}
use Rattle.elim_laws.specs.Whole.{all_of, any_of, eliminated, eliminating}
use Rattle.elim_laws.proofs.Duals.{dual-proper, dual-depth}
use Rattle.elim_laws.proofs.First.{first_is_rule}
use Rattle.elim_laws.proofs.Forms.{literals_of_clause}
use Rattle.elim_laws.proofs.Names.{all_flat}
use Rattle.formula.specs.Form as tree
use Rattle.formula.specs.Form.{Form, Forms}
use Rattle.formula.specs.Duals.{dual}
use Rattle.formula.specs.Sizes.{depth, depths}
use Rattle.sequent.specs.declared.member.Pick.{Pick}
use Rattle.sequent.specs.declared.member.Pick.TheVariants as pick
use Rattle.sequent.specs.Sequent.{Sequent}
use Rattle.pred_unify.specs.Pairs.{closing_of}
use Rattle.proof_tree.specs.Reduced.{IsReducedSequent}
use Rattle.proof_tree.specs.Rules.{conjoined, first_given}
use Rattle.proof_tree.proofs.Closing.{closing_presburger}
use Rattle.search.specs.Building.{canonical_constraint}

abbrev pub AreNormal : List (List Literal) → Type 0
AreNormal d = Each IsNormalLiteral d

abbrev IsNormalClause : List Literal → Type 0
IsNormalClause c = AllByRecursion IsNormalLiteral c

normal-denies : Denies IsLiteral IsNormalLiteral
normal-denies = record {
  keeps = normal-keeps;
  back = λ l h. (h.formed).literal;
  below = λ t h. less_is t h.term;
  above = λ t h. more_is t h.term;
  bound = λ t h. less_is t h.term;
  divided = λ d t h. record { term = h.term; divisor = h.divisor };
  undivided = λ d t h. record { term = h.term; divisor = h.divisor };
}

literals : (d : List (List Literal)) → AreNormal d → Each IsLiteral d
literals d h = each-back IsLiteral IsNormalLiteral (λ l k. (k.formed).literal) d h

formed_clause : (c : List Literal) → IsNormalClause c → All IsFormed c
formed_clause c h = All-from_recursion IsFormed c (kept-weaker IsNormalLiteral IsFormed (λ l k. k.formed) c h)

pub clauses_normal : (cs : List (List Literal)) → Each IsLiteral cs → AreNormal (clauses_of cs)
clauses_normal cs h = clauses-kept IsLiteral IsNormalLiteral normal-keeps cs h

and_normal : (a b : List (List Literal)) → AreNormal a → AreNormal b → AreNormal (conjunction a b).value
and_normal a b h k = conjunction-kept IsLiteral IsNormalLiteral normal-keeps a b (literals a h) (literals b k)

or_normal : (a b : List (List Literal)) → AreNormal a → AreNormal b → AreNormal (disjunction a b).value
or_normal a b h k = disjunction-kept IsNormalClause a b h k

not_normal : (d : List (List Literal)) → AreNormal d → AreNormal (negation d).value
not_normal d h = negation-kept IsLiteral IsNormalLiteral normal-denies d (literals d h)

-- ---- a name out
by_value : (ds vs : List (List Literal)) → vs ≡ clauses_of ds → Each IsLiteral ds → AreNormal vs
by_value ds vs is h = subst AreNormal (sym is) (clauses_normal ds h)

by_elements : (ds : List (List Literal)) → AllByRecursion (All IsLiteral) ds → Each IsLiteral ds
by_elements ds h = kept-weaker (All IsLiteral) (AllByRecursion IsLiteral) (λ c k. recursion_from_All IsLiteral c k) ds h

rule_normal : (x : ℕ) (c : List Literal) (e : Entry) → IsNormalClause c → applies x c e ≡ true → AreNormal (rule x c e).value
rule_normal x c (Equation i) h a = by_value _ _ (equation-value x i c) (equation-exact x i c (recursion_from_All IsLiteral c (literals_of_clause c (formed_clause c h))) a).literals
rule_normal x c (Apart i) h a = by_value _ _ (apart-value x i c) (apart-exact x i c (recursion_from_All IsLiteral c (literals_of_clause c (formed_clause c h))) a).literals
rule_normal x c (Merge i j) h a = by_value _ _ (merge-value x i j c) (merge-exact x i j c (kept-weaker IsNormalLiteral IsFormed (λ l k. k.formed) c h) a).literals
rule_normal x c (Shift i) h a = by_value _ _ (shift-value x i c) (shift-exact x i c (kept-weaker IsNormalLiteral IsFormed (λ l k. k.formed) c h) a).literals
rule_normal x c OneSided h a =
    by_value (one_sided_results x c) _ (one_sided-value x c) (by_elements (one_sided_results x c) (recursion_from_All (All IsLiteral) (one_sided_results x c) (one_sided-proper x c (literals_of_clause c (formed_clause c h)))))
rule_normal x c Exact h a = by_value (exact_results x c) _ (exact-value x c) (by_elements (exact_results x c) (recursion_from_All (All IsLiteral) (exact_results x c) (exact-proper x c (literals_of_clause c (formed_clause c h)))))
rule_normal x c Dark h a = by_value (dark_results x c) _ (dark-value x c) (by_elements (dark_results x c) (recursion_from_All (All IsLiteral) (dark_results x c) (dark_results-proper x c (literals_of_clause c (formed_clause c h)))))

rules_deep_normal : (x n : ℕ) (c : List Literal) → IsNormalClause c → AreNormal (rules_deep x n c).value
unfolding next just step
rules_deep_normal x zero c h = (h, tt)
rules_deep_normal x (suc n) c h = by (first_rule x c) refl (λ r k. rules_deep_normal x n r k)
  where
    by : (o : Option Entry) → first_rule x c ≡ o → ((r : List Literal) → IsNormalClause r → AreNormal (rules_deep x n r).value) → AreNormal (by_first (rules_deep x n) x c o).value
    by None is f = (h, tt)
    by (Some e) is f =
        subst AreNormal (sym (each-value (rules_deep x n) (rule x c e).value []))
        (all_flat IsNormalClause IsNormalClause (λ r. (rules_deep x n r).value) (rule x c e).value f (rule_normal x c e h (first_is_rule x c e is).applies))

taken_out_normal : (x : ℕ) (c : List Literal) → IsNormalClause c → AreNormal (taken_out x c).value
unfolding taken_out
taken_out_normal x c h = rules_deep_normal x (suc (measure x c)) c h

exists_normal : (x : ℕ) (d : List (List Literal)) → AreNormal d → AreNormal (exists_name x d).value
unfolding next just step
exists_normal x d h =
    tidied-kept IsNormalClause _ (subst AreNormal (sym (each-value (taken_out x) d [])) (all_flat IsNormalClause IsNormalClause (λ c. (taken_out x c).value) d (taken_out_normal x) h))

every_normal : (x : ℕ) (d : List (List Literal)) → AreNormal d → AreNormal (for_all_name x d).value
unfolding next
every_normal x d h = not_normal (exists_name x (negation d).value).value (exists_normal x (negation d).value (not_normal d h))

-- ---- formulas
abbrev EachNormal : (Form → Traced (List (List Literal))) → Forms → Type 0
EachNormal f tree.no_form = Unit {0}
EachNormal f (tree.and_form g gs) = AreNormal (f g).value × EachNormal f gs

each_normal : (m : ℕ) (f : Form → Traced (List (List Literal))) → ((g : Form) → depth g < m → IsPresburger g → AreNormal (f g).value) → (gs : Forms) → depths gs < m → ArePresburger gs → EachNormal f gs
each_normal m f h tree.no_form lt p = tt
each_normal m f h (tree.and_form g gs) lt p = (h g (omega (arith, lt)) p.0, each_normal m f h gs (omega (arith, lt)) p.1)

all_normal : (f : Form → Traced (List (List Literal))) (gs : Forms) (d : List (List Literal)) → EachNormal f gs → AreNormal d → AreNormal (all_of f gs d).value
unfolding next just
all_normal f tree.no_form d h k = k
all_normal f (tree.and_form g gs) d h k = all_normal f gs (conjunction d (f g).value).value h.1 (and_normal d (f g).value k h.0)

any_normal : (f : Form → Traced (List (List Literal))) (gs : Forms) (d : List (List Literal)) → EachNormal f gs → AreNormal d → AreNormal (any_of f gs d).value
unfolding next just
any_normal f tree.no_form d h k = k
any_normal f (tree.and_form g gs) d h k = any_normal f gs (disjunction d (f g).value).value h.1 (or_normal d (f g).value k h.0)

eliminated_normal : (m n : ℕ) (f : Form) → depth f < m → IsPresburger f → AreNormal (eliminated m n f).value
unfolding next just step
eliminated_normal zero n f lt p = absurd (omega (arith, lt))
eliminated_normal (suc m) n (tree.equal t) lt p = clauses_normal ((Eq t ∷ []) ∷ []) ((record { term = p; divisor = tt }, tt), tt)
eliminated_normal (suc m) n (tree.at_least t) lt p = clauses_normal ((Geq t ∷ []) ∷ []) ((record { term = p; divisor = tt }, tt), tt)
eliminated_normal (suc m) n (tree.unequal t) lt p =
    tidied-kept IsNormalClause (clauses_of ((Geq (less t) ∷ []) ∷ (Geq (more t) ∷ []) ∷ []))
    (clauses_normal ((Geq (less t) ∷ []) ∷ (Geq (more t) ∷ []) ∷ []) ((less_is t p, tt), ((more_is t p, tt), tt)))
eliminated_normal (suc m) n (tree.holds q ts) lt p = absurd p
eliminated_normal (suc m) n (tree.fails q ts) lt p = absurd p
eliminated_normal (suc m) n (tree.differs q ts u) lt p = absurd p
eliminated_normal (suc m) n (tree.conjunction fs) lt p = all_normal (eliminated m n) fs top (each_normal m (eliminated m n) (eliminated_normal m n) fs (omega (arith, lt)) p) (tt, tt)
eliminated_normal (suc m) n (tree.disjunction fs) lt p = any_normal (eliminated m n) fs [] (each_normal m (eliminated m n) (eliminated_normal m n) fs (omega (arith, lt)) p) tt
eliminated_normal (suc m) n (tree.existential f) lt p = exists_normal n (eliminated m (suc n) f).value (eliminated_normal m (suc n) f (omega (arith, lt)) p)
eliminated_normal (suc m) n (tree.universal f) lt p =
    let same = dual-depth f in
    let d = (eliminated m (suc n) (dual f).value).value in
    not_normal (exists_name n d).value (exists_normal n d (eliminated_normal m (suc n) (dual f).value (omega (arith, lt, same)) (dual-proper f p)))

-- ---- rules
first_normal : (ds : List (List (List Literal))) → AllByRecursion AreNormal ds → AreNormal (first_given ds)
first_normal [] h = tt
first_normal (d ∷ ds) h = h.0

conjoined_normal : (ds : List (List (List Literal))) (d : List (List Literal)) → AllByRecursion AreNormal ds → AreNormal d → AreNormal (conjoined ds d).value
unfolding next just
conjoined_normal [] d h k = k
conjoined_normal (c ∷ cs) d h k = conjoined_normal cs (conjunction d c).value h.1 (and_normal d c k h.0)

pub constraint_normal : (s : Sequent) (p : Pick) (ds : List (List (List Literal))) → IsReducedSequent s → AllByRecursion AreNormal ds → AreNormal (canonical_constraint s p ds).value
unfolding next just eliminating
constraint_normal s (pick.Trivial i) ds r h = (tt, tt)
constraint_normal s (pick.Alpha i) ds r h = first_normal ds h
constraint_normal s (pick.Delta i) ds r h = every_normal s.count (first_given ds) (first_normal ds h)
constraint_normal s (pick.Beta i) ds r h = conjoined_normal ds top h (tt, tt)
constraint_normal s (pick.Gamma i) ds r h = exists_normal s.count (first_given ds) (first_normal ds h)
constraint_normal s pick.Close ds r h = let f = (closing_of s).value in eliminated_normal (suc (depth f)) s.count f (omega arith) (closing_presburger s r)
