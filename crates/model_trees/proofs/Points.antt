-- The clause of a point is true at the lists that begin with it, and nowhere else.
use Rattle.std.proofs.Common.{◌≡◌, ◌≢◌, ◌<◌, ◌≤◌, ◌+◌, ℕ, suc, ℤ, pos, neg_ℤ, ◌+ℤ◌, Bool, true, false, ◌&&◌, ◌||◌, List, [], ◌∷◌, ◌++◌, length, refl, sym, ◌∙◌, subst, append_assoc, length-append, arith}
use Rattle.std.specs.List.{AllByRecursion}
use Rattle.std.proofs.lemmas.Bool.Decides.{Decides-int_eq}
use Rattle.std.proofs.lemmas.Int.{ints}
use Rattle.std.proofs.lemmas.List.Elements.{All-nil, All-cons}
use Rattle.base_integers.specs.Entry.{entry}
use Rattle.base_integers.proofs.Entries.{entry-append_right}
use Rattle.linear_term.specs.Linear.{IsOver, IsReduced, value_of}
use Rattle.clause_set.specs.declared.literal.Literal.TheVariants.{Eq}
use Rattle.clause_set.specs.Literals.{clause_truth, dnf_truth, literal_truth}
use Rattle.solve_laws.specs.Solutions.{IsGiven}
use Rattle.model_trees.specs.Walk.{apart, equations_from, point}
use Rattle.proof_tree.proofs.Clauses.{IsRaw}
use Rattle.model_trees.proofs.Clauses.{raw_are_literals, raw_read, read_truth}

-- ---- the equations are literals over the names below n
apart_reduced : (x : ℕ) (v : ℤ) → IsReduced (apart x v)
apart_reduced x v = record { rising = (omega arith, tt); not_zero = All-cons (λ (p : ℕ × ℤ). p.1 ≢ pos 0) (x, pos 1) [] (λ h. omega (arith, ints, h)) (All-nil (λ (p : ℕ × ℤ). p.1 ≢ pos 0)) }

apart_over : (n x : ℕ) (v : ℤ) → x < n → IsOver n (apart x v)
apart_over n x v lt = All-cons (λ (p : ℕ × ℤ). p.0 < n) (x, pos 1) [] lt (All-nil (λ (p : ℕ × ℤ). p.0 < n))

equation_raw : (n x : ℕ) (v : ℤ) → x < n → IsRaw n (Eq (apart x v))
equation_raw n x v lt = record { literal = record { term = apart_reduced x v; divisor = tt }; over = apart_over n x v lt }

equations_raw : (n j : ℕ) (vs : List ℤ) → j + length vs ≤ n → AllByRecursion (IsRaw n) (equations_from j vs)
equations_raw n j [] le = tt
equations_raw n j (v ∷ vs) le = (equation_raw n j v (omega (arith, le)), equations_raw n (suc j) vs (omega (arith, le)))

pub point_given : (n : ℕ) (v : List ℤ) → length v ≤ n → IsGiven n (point v)
point_given n v le = raw_read n (equations_from 0 v ∷ []) (equations_raw n 0 v (omega (arith, le)), tt)

-- ---- truth
equation_is : (x : ℕ) (v : ℤ) (e : List ℤ) → value_of (apart x v) e ≡ entry e x +ℤ neg_ℤ v
unfolding value_of
equation_is x v e = omega (arith, ints)

equation_true : (x : ℕ) (v : ℤ) (e : List ℤ) → entry e x ≡ v → literal_truth (Eq (apart x v)) e ≡ true
equation_true x v e h = (Decides-int_eq (value_of (apart x v) e) (pos 0)).1 (omega (arith, ints, equation_is x v e, h))

true_equation : (x : ℕ) (v : ℤ) (e : List ℤ) → literal_truth (Eq (apart x v)) e ≡ true → entry e x ≡ v
true_equation x v e h = let z = (Decides-int_eq (value_of (apart x v) e) (pos 0)).0 h in omega (arith, ints, equation_is x v e, z)

both : (a b : Bool) → a ≡ true → b ≡ true → (a && b) ≡ true
both true true h k = refl
both true false h k = absurd (cc)
both false b h k = absurd (cc)

parts : (a b : Bool) → (a && b) ≡ true → (a ≡ true) × (b ≡ true)
parts true true h = (refl, refl)
parts true false h = absurd (cc)
parts false b h = absurd (cc)

or_false : (a : Bool) → (a || false) ≡ a
or_false true = refl
or_false false = refl

-- the equations of vs from the length of pre on, at a list that goes on with vs
equations_true : (pre vs r : List ℤ) → clause_truth (equations_from (length pre) vs) (pre ++ (vs ++ r)) ≡ true
equations_true pre [] r = refl
equations_true pre (v ∷ vs) r =
    let first : entry (pre ++ (v ∷ (vs ++ r))) (length pre) ≡ v = (let z = entry-append_right pre (v ∷ (vs ++ r)) 0 in let is : length pre + 0 ≡ length pre = omega arith in subst (λ m. entry (pre ++ (v ∷ (vs ++ r))) m ≡ v) is z) in
    let whole : (pre ++ v ∷ []) ++ (vs ++ r) ≡ pre ++ (v ∷ (vs ++ r)) = append_assoc pre (v ∷ []) (vs ++ r) in
    let long : length (pre ++ v ∷ []) ≡ suc (length pre) = omega (arith, length-append pre (v ∷ [])) in
    let later : clause_truth (equations_from (suc (length pre)) vs) (pre ++ (v ∷ (vs ++ r))) ≡ true =
    subst (λ m. clause_truth (equations_from m vs) (pre ++ (v ∷ (vs ++ r))) ≡ true) long (subst (λ e. clause_truth (equations_from (length (pre ++ v ∷ [])) vs) e ≡ true) whole (equations_true (pre ++ v ∷ []) vs r)) in
    both (literal_truth (Eq (apart (length pre) v)) (pre ++ (v ∷ (vs ++ r)))) (clause_truth (equations_from (suc (length pre)) vs) (pre ++ (v ∷ (vs ++ r)))) (equation_true (length pre) v _ first) later

-- and a list at which they are true goes on with vs
true_equations : (pre vs e : List ℤ) → length vs ≤ length e → clause_truth (equations_from (length pre) vs) (pre ++ e) ≡ true → (r : List ℤ) × (e ≡ vs ++ r)
true_equations pre [] e le h = (e, refl)
true_equations pre (v ∷ vs) [] le h = absurd (omega (arith, le))
true_equations pre (v ∷ vs) (x ∷ e) le h =
    let p = parts (literal_truth (Eq (apart (length pre) v)) (pre ++ (x ∷ e))) (clause_truth (equations_from (suc (length pre)) vs) (pre ++ (x ∷ e))) h in
    let there : entry (pre ++ (x ∷ e)) (length pre) ≡ x = (let z = entry-append_right pre (x ∷ e) 0 in let is : length pre + 0 ≡ length pre = omega arith in subst (λ m. entry (pre ++ (x ∷ e)) m ≡ x) is z) in
    let same : x ≡ v = sym there ∙ true_equation (length pre) v (pre ++ (x ∷ e)) p.0 in
    let long : length (pre ++ x ∷ []) ≡ suc (length pre) = omega (arith, length-append pre (x ∷ [])) in
    let later : clause_truth (equations_from (length (pre ++ x ∷ [])) vs) ((pre ++ x ∷ []) ++ e) ≡ true =
    subst (λ m. clause_truth (equations_from m vs) ((pre ++ x ∷ []) ++ e) ≡ true) (sym long) (subst (λ d. clause_truth (equations_from (suc (length pre)) vs) d ≡ true) (sym (append_assoc pre (x ∷ []) e)) p.1) in
    let r = true_equations (pre ++ x ∷ []) vs e (omega (arith, le)) later in
    (r.0, (λ i. same i ∷ r.1 i))

point_is : (v e : List ℤ) → dnf_truth (point v) e ≡ clause_truth (equations_from 0 v) e
point_is v e = read_truth (equations_from 0 v ∷ []) e (raw_are_literals (length v) (equations_from 0 v ∷ []) (equations_raw (length v) 0 v (omega arith), tt)) ∙ or_false (clause_truth (equations_from 0 v) e)

pub point_true : (v r : List ℤ) → dnf_truth (point v) (v ++ r) ≡ true
point_true v r = point_is v (v ++ r) ∙ equations_true [] v r

pub true_point : (v e : List ℤ) → length v ≤ length e → dnf_truth (point v) e ≡ true → (r : List ℤ) × (e ≡ v ++ r)
true_point v e le h = true_equations [] v e le (sym (point_is v e) ∙ h)
