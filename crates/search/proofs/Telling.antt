-- What the end of the canonical run says.
use Rattle.std.proofs.Common.{◌≡◌, ℕ, zero, suc, ℤ, Bool, true, false, cond, nat_lt, List, [], refl, sym, ◌∙◌, ap, subst, Option, Some, None}
use Rattle.base_budget.specs.Trace.{Funds, At, at, End, done, refused, out_of_range, cut, Traced, just, step, next}
use Rattle.clause_set.specs.Literals.{dnf_truth}
use Rattle.elim_laws.specs.Logs.{entries_of}
use Rattle.elim_laws.specs.Whole.{names_out}
use Rattle.formula.specs.Form.{Form, IsFormOver, is_pure}
use Rattle.formula.specs.Reduced.{HasReducedTerms}
use Rattle.sequent.specs.Rules.{picked, premises_of}
use Rattle.sequent.proofs.Forming.{start_formed}
use Rattle.solve_laws.specs.Solutions.{IsGiven, solving}
use Rattle.solve_laws.proofs.Solving.{solving-best, solving-none}
use Rattle.proof_tree.specs.Proof.{Proof, given}
use Rattle.proof_tree.specs.Proves.{is_root_rule, rule_of, start}
use Rattle.proof_tree.proofs.Proving.{root_covers, root_exact}
use Rattle.search.specs.Building.{all_built, built}
use Rattle.search.specs.Meaning.{Tells}
use Rattle.base_budget.specs.Ending.{ends_with, ended, ending}
use Rattle.search.specs.Run.{RunAnswer, canonical_run, concluded, has_open_leaf, invalid, judged, one_round, or_further, rounds, saturated}
use Rattle.base_limits.specs.Limits.{branch_limit}
use Rattle.search.proofs.Charges.{built_rule, root_rule}
use Rattle.search.proofs.Given.{built-given}
use Rattle.search.proofs.Pures.{no_premises, pure_pick}
use Rattle.search.proofs.Retracing.{retraced, value-built}
use Rattle.proof_tree.proofs.Walking.{then_some}

-- what a round says: of its answer, or where a further one is to come
abbrev RoundTells : Form → ℕ → Option RunAnswer → Type 0
RoundTells f n None = is_pure f ≡ false
RoundTells f n (Some a) = Tells f n a

-- a tree of a pure formula is a leaf that is closed or trivial
pure_root : (f : Form) (n k : ℕ) (x : Proof) → (built k branch_limit 0 (start f n)).value ≡ Some x → is_pure f ≡ true → is_root_rule (rule_of x) ≡ true
pure_root f n k x e p = ap is_root_rule (built_rule k 0 (start f n) x e ∙ pure_pick f n k p) ∙ root_rule f (nat_lt 0 k)

true_unless : (b : Bool) → (b ≡ false → ⊥) → b ≡ true
true_unless true h = refl
true_unless false h = absurd (h refl)

concluded_tells : (f : Form) (n k : ℕ) (x : Proof) → IsFormOver n f → HasReducedTerms f → (built k branch_limit 0 (start f n)).value ≡ Some x → (a : Option (List ℤ)) → (solving n (given x)).value ≡ a → RoundTells f n (concluded f n x a)
concluded_tells f n k x over red e (Some vs) is =
    let g = (retraced k branch_limit 0 (start f n) x e).gives in
    let i : IsGiven n (given x) = built-given k branch_limit 0 (start f n) x (start_formed f n over) (red, tt) e in
    record {
      over = i.over;
      covers = root_covers f n x over red g;
      exact = λ p w u l t. true_unless (dnf_truth (given x) u) (λ z. root_exact f n x over red p (pure_root f n k x e p) g w u l z t);
      best = solving-best n (given x) vs i is;
    }
concluded_tells f n k x over red e None is = by (is_pure f) (has_open_leaf (start f n) x) refl
  where
    by : (b o : Bool) → is_pure f ≡ b → RoundTells f n (cond b (Some (invalid (entries_of (names_out n (given x)).events) x)) (cond o None (Some (saturated (entries_of (names_out n (given x)).events) x))))
    by true o p =
        let g = (retraced k branch_limit 0 (start f n) x e).gives in
        let i : IsGiven n (given x) = built-given k branch_limit 0 (start f n) x (start_formed f n over) (red, tt) e in
        record { pure = p; fails = λ w u l t. root_exact f n x over red p (pure_root f n k x e p) g w u l ((solving-none n (given x) i).0 is u l) t }
    by false true p = p
    by false false p = p

-- a pure formula has a tree in each round
pure_built : (f : Form) (n k : ℕ) → is_pure f ≡ true → (built k branch_limit 0 (start f n)).value ≡ None → ⊥
unfolding built just
pure_built f n k p e =
    let s = start f n in
    let q = picked k s.members in
    let all : (all_built (built k 1999) 1 (premises_of s q) []).value ≡ Some [] = ap (λ ss. (all_built (built k 1999) 1 ss []).value) (no_premises f n k p) in
    let z = sym (value-built (built k 1999) 0 s q) ∙ e in
    absurd (none_some (all_built (built k 1999) 1 (premises_of s q) []).value _ all z)
  where
    none_some : {A B : Type 0} (o : Option A) {a : A} (g : A → B) → o ≡ Some a → then_some o (λ y. Some (g y)) ≡ None → ⊥
    none_some None g is h = absurd (cc)
    none_some (Some b) g is h = absurd (cc)

judged_tells : (f : Form) (n k : ℕ) → IsFormOver n f → HasReducedTerms f → (o : Option Proof) → (built k branch_limit 0 (start f n)).value ≡ o → RoundTells f n (judged f n o).value
unfolding next just step
judged_tells f n k over red None e = by (is_pure f) refl
  where
    by : (b : Bool) → is_pure f ≡ b → is_pure f ≡ false
    by true p = absurd (pure_built f n k p e)
    by false p = p
judged_tells f n k over red (Some x) e = concluded_tells f n k x over red e (solving n (given x)).value refl

round_tells : (f : Form) (n k : ℕ) → IsFormOver n f → HasReducedTerms f → RoundTells f n (one_round f n k).value
unfolding next just step
round_tells f n k over red = judged_tells f n k over red (built k branch_limit 0 (start f n)).value refl

further_tells : (f : Form) (n : ℕ) (further : Traced RunAnswer) (o : Option RunAnswer) → RoundTells f n o → (is_pure f ≡ false → Tells f n further.value) → Tells f n (or_further further o).value
unfolding just
further_tells f n further (Some a) h k = h
further_tells f n further None h k = k h

rounds_tell : (f : Form) (n m k : ℕ) → IsFormOver n f → HasReducedTerms f → is_pure f ≡ false → Tells f n (rounds f n m k).value
unfolding next just
rounds_tell f n zero k over red p = p
rounds_tell f n (suc m) k over red p = further_tells f n (rounds f n m (suc k)) (one_round f n k).value (round_tells f n k over red) (λ q. rounds_tell f n m (suc k) over red p)

run_tells : (f : Form) (n budget : ℕ) → IsFormOver n f → HasReducedTerms f → Tells f n (canonical_run f n budget).value
unfolding canonical_run next
run_tells f n budget over red = further_tells f n (rounds f n budget 1) (one_round f n 0).value (round_tells f n 0 over red) (λ p. rounds_tell f n budget 1 over red p)

ended_value : {A : Type 0} (v a : A) (e : End) (b : At) → ended v e ≡ ends_with a b → v ≡ a
ended_value v a (done c) b h = cc
ended_value v a (refused c) b h = absurd (cc)
ended_value v a (out_of_range ps c) b h = absurd (cc)

-- what the canonical run ends with says so of the formula
pub answer_tells : (f : Form) (n : ℕ) (g : Funds) (a : RunAnswer) (b : At) → IsFormOver n f → HasReducedTerms f → ending (canonical_run f n g.budget) (at g []) ≡ ends_with a b → Tells f n a
answer_tells f n g a b over red h = subst (Tells f n) (ended_value (canonical_run f n g.budget).value a (cut (canonical_run f n g.budget).events (at g [])) b h) (run_tells f n g.budget over red)
