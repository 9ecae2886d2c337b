-- Unit propagation: where clauses are true, literals whose falsity clashes with them are not all false.
use Rattle.std.proofs.Common.{◌≡◌, ℕ, zero, suc, ℤ, Bool, true, false, not, ◌||◌, List, [], ◌∷◌, ◌++◌, nat_eq, Option, Some, None, refl, sym, subst, cond, slice_set}
use Rattle.std.specs.List.{AllByRecursion, list_any, slice_get}
use Rattle.std.proofs.lemmas.Bool.{and_parts}
use Rattle.form_typed.specs.Truth.{Meaning}
use Rattle.pred_unify.proofs.Clashes.{same_number}
use Rattle.clause_proof.specs.Clauses.{Definition}
use Rattle.sequent.proofs.Members.{all_append}
use Rattle.clause_proof.specs.declared.line.Literal.{Literal}
use Rattle.clause_proof.specs.Clauses.{IsFoundSo, LiteralTruth, AreLiteralsFalse, ClauseTruth, IsKeptTrue}
use Rattle.clause_proof.specs.Lines.{is_literal, same_sign, opposite, left_of, clashes, clause_passes, unit_passes, without_clauses}

signs : (a b : Bool) → same_sign a b ≡ true → a ≡ b
signs true true h = refl
signs true false h = absurd (cc)
signs false true h = absurd (cc)
signs false false h = refl

literals : (k l : Literal) → k.variable ≡ l.variable → k.positive ≡ l.positive → k ≡ l
literals k l f p = λ i. record { variable = f i; positive = p i }

same_literal : (k l : Literal) → is_literal k l ≡ true → k ≡ l
same_literal k l h =
    let two = and_parts (nat_eq k.variable l.variable) (same_sign k.positive l.positive) h in
    literals k l (same_number k.variable l.variable two.0) (signs k.positive l.positive two.1)

one_of : (P : Literal → Type 0) (l k : Literal) (rest : Bool) (b : Bool) → is_literal l k ≡ b → P k → (rest ≡ true → P l) → (b || rest) ≡ true → P l
one_of P l k rest true is p f h = subst P (sym (same_literal l k is)) p
one_of P l k rest false is p f h = f h

-- a literal among false ones is false
among : (P : Literal → Type 0) (l : Literal) (ls : List Literal) → AllByRecursion P ls → list_any (is_literal l) ls ≡ true → P l
among P l [] h any = absurd (cc)
among P l (k ∷ ks) h any = one_of P l k (list_any (is_literal l) ks) (is_literal l k) refl h.0 (λ more. among P l ks h.1 more) any

left_step : (P : Literal → Type 0) (l : Literal) (ls rest : List Literal) (b : Bool) → (b ≡ true → P l) → AllByRecursion P (cond (not b) (l ∷ rest) rest)
    → (AllByRecursion P rest → AllByRecursion P ls) → P l × AllByRecursion P ls
left_step P l ls rest true hit h more = (hit refl, more h)
left_step P l ls rest false hit h more = (h.0, more h.1)

-- where the literals that are left are false too, all are
all_left_false : (P : Literal → Type 0) (false_ones c : List Literal) → AllByRecursion P false_ones → AllByRecursion P (left_of false_ones c) → AllByRecursion P c
all_left_false P fo [] f h = tt
all_left_false P fo (l ∷ ls) f h =
    left_step P l ls (left_of fo ls) (list_any (is_literal l) fo) (λ any. among P l fo f any) h (λ more. all_left_false P fo ls f more)

opposite_so : (w : Meaning) (e : List ℤ) (b : Bool) (o : Option Definition) → IsFoundSo w e (not b) o → ¬ (IsFoundSo w e b o)
opposite_so w e b None h k = h
opposite_so w e true (Some m) h k = h k
opposite_so w e false (Some m) h k = k h

clash_unit : (w : Meaning) (e : List ℤ) (fs : List Definition) (false_ones c left : List Literal) (test : Literal → Bool)
    → ClauseTruth w e fs c → (AreLiteralsFalse w e fs left → AreLiteralsFalse w e fs c)
    → ((l : Literal) → test l ≡ true → ¬ (LiteralTruth w e fs (opposite l)) → ⊥) → unit_passes left test ≡ true → ⊥
clash_unit w e fs fo c [] test t all more h = t (all tt)
clash_unit w e fs fo c (l ∷ []) test t all more h =
    t (all ((λ so. more l h (λ absent. opposite_so w e l.positive (slice_get fs l.variable) absent so)), tt))
clash_unit w e fs fo c (l ∷ k ∷ ls) test t all more h = absurd (cc)

clash_clause : (w : Meaning) (e : List ℤ) (fs : List Definition) (false_ones : List Literal) (o : Option (Option (List Literal))) (test : Literal → Bool)
    → ((c : List Literal) → o ≡ Some (Some c) → ClauseTruth w e fs c) → AreLiteralsFalse w e fs false_ones
    → ((l : Literal) → test l ≡ true → ¬ (LiteralTruth w e fs (opposite l)) → ⊥)
    → clause_passes o (λ c. unit_passes (left_of false_ones c) test) ≡ true → ⊥
clash_clause w e fs fo None test t f more h = absurd (cc)
clash_clause w e fs fo (Some None) test t f more h = absurd (cc)
clash_clause w e fs fo (Some (Some c)) test t f more h =
    clash_unit w e fs fo c (left_of fo c) test (t c refl) (all_left_false (λ l. ¬ (LiteralTruth w e fs l)) fo c f) more h

kept_at : (P : Option (List Literal) → Type 0) (cs : List (Option (List Literal))) (i : ℕ) (c : Option (List Literal)) → AllByRecursion P cs → slice_get cs i ≡ Some c → P c
kept_at P [] i c h is = absurd (cc)
kept_at P (d ∷ cs) zero c h is = let same : d ≡ c = cc in subst P same h.0
kept_at P (d ∷ cs) (suc i) c h is = kept_at P cs i c h.1 is

-- the clauses clash with the false literals: they can not both be so
pub clash_absurd : (w : Meaning) (e : List ℤ) (fs : List Definition) (cs : List (Option (List Literal))) (hs : List ℕ) (false_ones : List Literal)
    → AllByRecursion (IsKeptTrue w e fs) cs → AreLiteralsFalse w e fs false_ones → clashes cs hs false_ones ≡ true → ⊥
clash_absurd w e fs cs [] fo t f h = absurd (cc)
clash_absurd w e fs cs (i ∷ hs) fo t f h =
    clash_clause w e fs fo (slice_get cs i) (λ l. clashes cs hs (fo ++ opposite l ∷ [])) (λ c is. kept_at (IsKeptTrue w e fs) cs i (Some c) t is) f
    (λ l more absent. clash_absurd w e fs cs hs (fo ++ opposite l ∷ []) t (all_append (λ k. ¬ (LiteralTruth w e fs k)) fo (opposite l ∷ []) f (absent, tt)) more) h

deleted_one : (w : Meaning) (e : List ℤ) (fs : List Definition) (cs : List (Option (List Literal))) (i : ℕ) → AllByRecursion (IsKeptTrue w e fs) cs
    → AllByRecursion (IsKeptTrue w e fs) (slice_set cs i None)
deleted_one w e fs [] i h = tt
deleted_one w e fs (c ∷ cs) zero h = (tt, h.1)
deleted_one w e fs (c ∷ cs) (suc i) h = (h.0, deleted_one w e fs cs i h.1)

-- fewer clauses are true where all are
pub deleted_true : (w : Meaning) (e : List ℤ) (fs : List Definition) (cs : List (Option (List Literal))) (hs : List ℕ) → AllByRecursion (IsKeptTrue w e fs) cs
    → AllByRecursion (IsKeptTrue w e fs) (without_clauses cs hs)
deleted_true w e fs cs [] h = h
deleted_true w e fs cs (i ∷ hs) h = deleted_true w e fs (slice_set cs i None) hs (deleted_one w e fs cs i h)
