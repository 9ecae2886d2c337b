-- A name out of clauses: some value of it makes them true exactly where what is left is true.
use Rattle.std.proofs.Common.{◌≡◌, ◌<◌, ◌≤◌, ℕ, zero, suc, ℤ, pos, Bool, true, false, ◌||◌, List, [], ◌∷◌, ◌++◌, Option, Some, None, refl, sym, ◌∙◌, ap, subst, arith}
use Rattle.std.specs.Prelude.{All}
use Rattle.std.specs.List.{AllByRecursion, list_any, flat_map}
use Rattle.std.proofs.lemmas.List.Elements.{recursion_from_All, All-weaker}
use Rattle.std.proofs.lemmas.List.Folds.{list_any-append}
use Rattle.base_integers.specs.Entry.{put}
use Rattle.base_budget.specs.declared.log.Entry.{Entry}
use Rattle.base_budget.specs.declared.log.Entry.TheVariants.{Equation, Apart, Merge, Shift, OneSided, Exact, Dark}
use Rattle.base_budget.specs.Trace.{Traced, just, step, next, note, entry, each}
use Rattle.base_budget.proofs.Tracing.{each-value, next-same}
use Rattle.clause_set.specs.declared.literal.Literal.{Literal}
use Rattle.clause_set.specs.Literals.{clause_truth, dnf_truth}
use Rattle.clause_set.specs.Formed.{IsFormed}
use Rattle.clause_set.specs.Met.{IsMet}
use Rattle.clause_set.specs.Names.{has}
use Rattle.clause_set.specs.Dnfs.{tidied}
use Rattle.clause_set.specs.Rules.{rule, applies, first_rule, measure}
use Rattle.clause_set.proofs.ClauseTruth.{by_first}
use Rattle.clause_set.proofs.Covers.{tidied-truth}
use Rattle.clause_set.proofs.Divisors.{kept-append}
use Rattle.elim_rule_laws.proofs.EquationExactness.{Keeps, equation-keeps, apart-keeps, merge-keeps, shift-keeps}
use Rattle.elim_rule_laws.proofs.Solving.{unused-truth}
use Rattle.elim_rule_laws.proofs.Forms.{one_sided-kept, exact-kept, dark-kept, one_sided-formed, exact-formed, dark-formed}
use Rattle.clause_set.specs.Kept.{AreFormed}
use Rattle.elim_laws.specs.Elimination.{by_first as by_first_rule, rules_deep, taken_out, exists_name, IsOut}
use Rattle.elim_laws.proofs.First.{first_is_rule, none_first}
use Rattle.clause_set.proofs.Kept.{tidied-kept}
use Rattle.elim_laws.proofs.Forms.{literals_of_clause}

-- ---- any rule that applies
pub rule_keeps : (x : ℕ) (c : List Literal) (e : Entry) → All IsFormed c → applies x c e ≡ true → Keeps x c (rule x c e).value
rule_keeps x c (Equation i) f a = equation-keeps x i c f a
rule_keeps x c (Apart i) f a = apart-keeps x i c f a
rule_keeps x c (Merge i j) f a = merge-keeps x i j c f a
rule_keeps x c (Shift i) f a = shift-keeps x i c f a
rule_keeps x c OneSided f a = record { met = λ e. one_sided-kept x c e (literals_of_clause c f) a; formed = one_sided-formed x c (literals_of_clause c f) }
rule_keeps x c Exact f a = record { met = λ e. exact-kept x c e (literals_of_clause c f) a; formed = exact-formed x c (literals_of_clause c f) }
rule_keeps x c Dark f a = record { met = λ e. dark-kept x c e (literals_of_clause c f) a; formed = dark-formed x c (literals_of_clause c f) }

-- ---- some value of x
pub or_left : (a b : Bool) → a ≡ true → (a || b) ≡ true
or_left true b h = refl
or_left false b h = absurd (cc)

pub or_right : (a b : Bool) → b ≡ true → (a || b) ≡ true
or_right true b h = refl
or_right false b h = h

-- what makes a disjunction of two true makes one of them true
pub either_met : (x : ℕ) (a b : List (List Literal)) (e : List ℤ) (P : Type 0) → IsMet (a ++ b) x e → (IsMet a x e → P) → (IsMet b x e → P) → P
either_met x a b e P m f g =
    by_first (dnf_truth a (put e x m.0)) (dnf_truth b (put e x m.0)) P (sym (list_any-append (λ c. clause_truth c (put e x m.0)) a b) ∙ m.1)
    (λ t. f (m.0, t)) (λ t. g (m.0, t))

pub left_met : (x : ℕ) (a b : List (List Literal)) (e : List ℤ) → IsMet a x e → IsMet (a ++ b) x e
left_met x a b e m = (m.0, list_any-append (λ c. clause_truth c (put e x m.0)) a b ∙ or_left _ _ m.1)

pub right_met : (x : ℕ) (a b : List (List Literal)) (e : List ℤ) → IsMet b x e → IsMet (a ++ b) x e
right_met x a b e m = (m.0, list_any-append (λ c. clause_truth c (put e x m.0)) a b ∙ or_right _ _ m.1)

-- ---- what is out
pub out_none : (x : ℕ) → IsOut x [] []
out_none x = record { kept = λ e m. let h = m.1 in absurd (cc); back = λ e h. absurd (cc); formed = tt; free = tt }

pub out_append : (x : ℕ) (a b r s : List (List Literal)) → IsOut x a r → IsOut x b s → IsOut x (a ++ b) (r ++ s)
out_append x a b r s p q = record {
  kept = λ e m. list_any-append (λ c. clause_truth c e) r s ∙ either_met x a b e ((dnf_truth r e || dnf_truth s e) ≡ true) m (λ n. or_left _ _ (p.kept e n)) (λ n. or_right _ _ (q.kept e n));
  back = λ e h. by_first (dnf_truth r e) (dnf_truth s e) (IsMet (a ++ b) x e) (sym (list_any-append (λ c. clause_truth c e) r s) ∙ h) (λ t. left_met x a b e (p.back e t)) (λ t. right_met x a b e (q.back e t));
  formed = kept-append (All IsFormed) r s p.formed q.formed;
  free = kept-append (λ c. list_any (has x) c ≡ false) r s p.free q.free;
}

-- a clause without x stays
pub out_unused : (x : ℕ) (c : List Literal) → All IsFormed c → list_any (has x) c ≡ false → IsOut x (c ∷ []) (c ∷ [])
out_unused x c f h = record {
  kept = λ e m. ap (λ b. b || false) (sym (unused-truth x c e m.0 h)) ∙ m.1;
  back = λ e t. (pos 0, ap (λ b. b || false) (unused-truth x c e (pos 0) h) ∙ t);
  formed = (f, tt);
  free = (h, tt);
}

-- a rule that applies keeps what is out
pub out_rule : (x : ℕ) (c : List Literal) (vs r : List (List Literal)) → Keeps x c vs → IsOut x vs r → IsOut x (c ∷ []) r
out_rule x c vs r k o = record { kept = λ e m. o.kept e ((k.met e).0 m); back = λ e h. (k.met e).1 (o.back e h); formed = o.formed; free = o.free }

-- clauses one after the other
pub out_each : (x : ℕ) (f : List Literal → List (List Literal)) (cs : List (List Literal)) → AllByRecursion (λ c. IsOut x (c ∷ []) (f c)) cs → IsOut x cs (flat_map f cs)
out_each x f [] h = out_none x
out_each x f (c ∷ cs) h = out_append x (c ∷ []) cs (f c) (flat_map f cs) h.0 (out_each x f cs h.1)

members : (x n : ℕ) (P : List Literal → Type 0) → ((c : List Literal) → measure x c < n → All IsFormed c → P c)
    → (cs : List (List Literal)) → AllByRecursion (λ c. measure x c < n) cs → AreFormed cs → AllByRecursion P cs
members x n P f [] h k = tt
members x n P f (c ∷ cs) h k = (f c h.0 k.0, members x n P f cs h.1 k.1)

pub nearer_members : (x m n : ℕ) (cs : List (List Literal)) → m ≤ n → All (λ r. measure x r < m) cs → AllByRecursion (λ r. measure x r < n) cs
nearer_members x m n cs le h = recursion_from_All (λ r. measure x r < n) cs (All-weaker (λ r. measure x r < m) (λ r. measure x r < n) (λ r l. omega (arith, l)) cs h)

pub rules_deep-out : (x n : ℕ) (c : List Literal) → measure x c < n → All IsFormed c → IsOut x (c ∷ []) (rules_deep x n c).value
unfolding next just step
rules_deep-out x zero c lt f = absurd (omega (arith, lt))
rules_deep-out x (suc n) c lt f = by (first_rule x c) refl (members x n (λ r. IsOut x (r ∷ []) (rules_deep x n r).value) (rules_deep-out x n))
  where
    by : (o : Option Entry) → first_rule x c ≡ o
        → ((cs : List (List Literal)) → AllByRecursion (λ r. measure x r < n) cs → AreFormed cs → AllByRecursion (λ r. IsOut x (r ∷ []) (rules_deep x n r).value) cs)
        → IsOut x (c ∷ []) (by_first_rule (rules_deep x n) x c o).value
    by None is rest = out_unused x c f (none_first x c is)
    by (Some e) is rest =
        let k = rule_keeps x c e f (first_is_rule x c e is).applies in
        let near = nearer_members x (measure x c) n (rule x c e).value (omega (arith, lt)) (first_is_rule x c e is).nearer in
        out_rule x c (rule x c e).value _ k
        (subst (IsOut x (rule x c e).value) (sym (each-value (rules_deep x n) (rule x c e).value []))
        (out_each x (λ r. (rules_deep x n r).value) (rule x c e).value (rest (rule x c e).value near (recursion_from_All (All IsFormed) _ k.formed))))

pub taken_out-out : (x : ℕ) (c : List Literal) → All IsFormed c → IsOut x (c ∷ []) (taken_out x c).value
unfolding taken_out
taken_out-out x c f = rules_deep-out x (suc (measure x c)) c (omega arith) f

all_out : (x : ℕ) (d : List (List Literal)) → AreFormed d → AllByRecursion (λ c. IsOut x (c ∷ []) (taken_out x c).value) d
all_out x [] f = tt
all_out x (c ∷ d) f = (taken_out-out x c f.0, all_out x d f.1)

pub tidied-out : (x : ℕ) (d r : List (List Literal)) → IsOut x d r → IsOut x d (tidied r)
tidied-out x d r o = record {
  kept = λ e m. tidied-truth r e ∙ o.kept e m;
  back = λ e h. o.back e (sym (tidied-truth r e) ∙ h);
  formed = tidied-kept (All IsFormed) r o.formed;
  free = tidied-kept (λ c. list_any (has x) c ≡ false) r o.free;
}

-- x out of a disjunction
pub exists_name-out : (x : ℕ) (d : List (List Literal)) → AreFormed d → IsOut x d (exists_name x d).value
unfolding next just step
exists_name-out x d f =
    tidied-out x d _ (subst (IsOut x d) (sym (each-value (taken_out x) d [])) (out_each x (λ c. (taken_out x c).value) d (all_out x d f)))

-- ---- the depth does not matter
each-same : (f g : List Literal → Traced (List (List Literal))) (cs out : List (List Literal)) → AllByRecursion (λ c. f c ≡ g c) cs → each f cs out ≡ each g cs out
each-same f g [] out h = refl
each-same f g (c ∷ cs) out h =
    ap (λ m. next m (λ ds. each f cs (out ++ ds))) h.0 ∙ next-same (g c) _ _ (each-same f g cs (out ++ (g c).value) h.1)

rules_deep-same : (x n m : ℕ) (c : List Literal) → measure x c < n → measure x c < m → rules_deep x n c ≡ rules_deep x m c
rules_deep-same x zero m c lt le = absurd (omega (arith, lt))
rules_deep-same x (suc n) zero c lt le = absurd (omega (arith, le))
rules_deep-same x (suc n) (suc m) c lt le = by (first_rule x c) refl (rules_deep-same x n m)
  where
    all : ((r : List Literal) → measure x r < n → measure x r < m → rules_deep x n r ≡ rules_deep x m r) → (cs : List (List Literal)) → AllByRecursion (λ r. measure x r < measure x c) cs
        → AllByRecursion (λ r. rules_deep x n r ≡ rules_deep x m r) cs
    all f [] h = tt
    all f (r ∷ cs) h = let l = h.0 in (f r (omega (arith, lt, l)) (omega (arith, le, l)), all f cs h.1)

    by : (o : Option Entry) → first_rule x c ≡ o → ((r : List Literal) → measure x r < n → measure x r < m → rules_deep x n r ≡ rules_deep x m r)
        → by_first_rule (rules_deep x n) x c o ≡ by_first_rule (rules_deep x m) x c o
    by None is f = refl
    by (Some e) is f =
        next-same (rule x c e) _ _ (next-same (note (entry e)) _ _
        (each-same (rules_deep x n) (rules_deep x m) (rule x c e).value [] (all f (rule x c e).value (recursion_from_All _ _ (first_is_rule x c e is).nearer))))

-- x out of a clause is the rule that comes first, then x out of each clause that it leaves
pub taken_out-rule : (x : ℕ) (c : List Literal) → taken_out x c ≡ by_first_rule (taken_out x) x c (first_rule x c)
unfolding taken_out
taken_out-rule x c = by (first_rule x c) refl
  where
    all : (cs : List (List Literal)) → AllByRecursion (λ r. measure x r < measure x c) cs → AllByRecursion (λ r. rules_deep x (measure x c) r ≡ rules_deep x (suc (measure x r)) r) cs
    all [] h = tt
    all (r ∷ cs) h = let l = h.0 in (rules_deep-same x (measure x c) (suc (measure x r)) r l (omega arith), all cs h.1)

    by : (o : Option Entry) → first_rule x c ≡ o → by_first_rule (rules_deep x (measure x c)) x c o ≡ by_first_rule (taken_out x) x c o
    by None is = refl
    by (Some e) is =
        next-same (rule x c e) _ _ (next-same (note (entry e)) _ _
        (each-same (rules_deep x (measure x c)) (taken_out x) (rule x c e).value [] (all (rule x c e).value (recursion_from_All _ _ (first_is_rule x c e is).nearer))))
