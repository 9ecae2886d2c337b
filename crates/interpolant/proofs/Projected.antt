-- What is left where names go out, one after the other.
use Rattle.std.proofs.Common.{◌≡◌, ◌<◌, ◌≤◌, ℕ, zero, suc, ℤ, Bool, true, false, nat_eq, List, length, refl, sym, ◌∙◌, ap, subst, arith}
use Rattle.std.specs.List.{AllByRecursion, list_any}
use Rattle.std.proofs.lemmas.Bool.Decides.{nat_tests}
use Rattle.base_integers.specs.Entry.{entry, put}
use Rattle.base_integers.proofs.Entries.{put-entry}
use Rattle.base_budget.specs.Trace.{just, step, next}
use Rattle.base_budget.proofs.Tracing.{next-same}
use Rattle.clause_set.specs.declared.literal.Literal.{Literal}
use Rattle.clause_set.specs.Kept.{AreFormed}
use Rattle.clause_set.specs.Literals.{dnf_truth}
use Rattle.clause_set.specs.Names.{has}
use Rattle.elim_rule_laws.proofs.EquationLists.{any-none, kept-weaker}
use Rattle.formula.specs.Form.{Form}
use Rattle.elim_laws.specs.Elimination.{exists_name}
use Rattle.elim_laws.specs.Whole.{AreOver, Lacks, eliminating}
use Rattle.elim_laws.proofs.Names.{exists_name-lacks}
use Rattle.elim_laws.proofs.Taking.{exists_name-out}
use Rattle.interpolant.specs.Run.{in_new_log, without, others_out, projecting}

-- ---- one name
without-formed : (stays : Bool) (x : ℕ) (d : List (List Literal)) → AreFormed d → AreFormed (without stays x d).value
unfolding next just step
without-formed true x d h = h
without-formed false x d h = (exists_name-out x d h).formed

gone : (x : ℕ) (d : List (List Literal)) → AreFormed d → AllByRecursion (Lacks x) (exists_name x d).value
gone x d h = kept-weaker (λ c. list_any (has x) c ≡ false) (Lacks x) (λ c k. any-none (has x) c k) (exists_name x d).value (exists_name-out x d h).free

without-gone : (stays : Bool) (x : ℕ) (d : List (List Literal)) → stays ≡ false → AreFormed d → AllByRecursion (Lacks x) (without stays x d).value
unfolding next just step
without-gone true x d is h = absurd (cc)
without-gone false x d is h = gone x d h

-- a name that is not there does not come in
without-lacks : (stays : Bool) (x y : ℕ) (d : List (List Literal)) → AreFormed d → AllByRecursion (Lacks y) d → AllByRecursion (Lacks y) (without stays x d).value
unfolding next just step
without-lacks true x y d h k = k
without-lacks false x y d h k = by (nat_eq y x) refl
  where
    by : (b : Bool) → nat_eq y x ≡ b → AllByRecursion (Lacks y) (exists_name x d).value
    by true e = let same : x ≡ y = grind (arith, nat_tests) in subst (λ z. AllByRecursion (Lacks z) (exists_name x d).value) same (gone x d h)
    by false e = exists_name-lacks x y d (λ s. grind (arith, nat_tests)) k

without-kept : (stays : Bool) (x : ℕ) (d : List (List Literal)) (e : List ℤ) → AreFormed d → x < length e → dnf_truth d e ≡ true → dnf_truth (without stays x d).value e ≡ true
unfolding next just step
without-kept true x d e h lt k = k
without-kept false x d e h lt k = (exists_name-out x d h).kept e (entry e x, ap (dnf_truth d) (put-entry e x lt) ∙ k)

-- a list with P at which d is true
pub record Back (P : List ℤ → Type 0) (d : List (List Literal)) : Type 0 where
  pub list : List ℤ
  pub kept : P list
  pub holds : dnf_truth d list ≡ true

without-back : (stays : Bool) (x : ℕ) (d : List (List Literal)) (P : List ℤ → Type 0) → AreFormed d → (stays ≡ false → (v : ℤ) (e : List ℤ) → P e → P (put e x v))
    → Back P (without stays x d).value → Back P d
unfolding next just step
without-back true x d P h more b = b
without-back false x d P h more b = let met = (exists_name-out x d h).back b.list b.holds in record { list = put b.list x met.0; kept = more refl met.0 b.list b.kept; holds = met.1 }

-- ---- several names
module _ (stays : ℕ → Bool) where
  pub others-lack : (n y : ℕ) (d : List (List Literal)) → AreFormed d → AllByRecursion (Lacks y) d → AllByRecursion (Lacks y) (others_out stays n d).value
  unfolding next just
  others-lack zero y d h k = k
  others-lack (suc x) y d h k = others-lack x y (without (stays x) x d).value (without-formed (stays x) x d h) (without-lacks (stays x) x y d h k)

  -- each name that does not stay is gone
  pub others-gone : (n y : ℕ) (d : List (List Literal)) → y < n → stays y ≡ false → AreFormed d → AllByRecursion (Lacks y) (others_out stays n d).value
  unfolding next just
  others-gone zero y d lt is h = absurd (omega (arith, lt))
  others-gone (suc x) y d lt is h = by (λ k. others-gone x y (without (stays x) x d).value k is (without-formed (stays x) x d h)) (nat_eq y x) refl
    where
      by : (y < x → AllByRecursion (Lacks y) (others_out stays x (without (stays x) x d).value).value) → (b : Bool) → nat_eq y x ≡ b → AllByRecursion (Lacks y) (others_out stays x (without (stays x) x d).value).value
      by f true e =
          let same : y ≡ x = grind (arith, nat_tests) in
          others-lack x y (without (stays x) x d).value (without-formed (stays x) x d h)
          (subst (λ z. AllByRecursion (Lacks z) (without (stays x) x d).value) (sym same) (without-gone (stays x) x d (ap stays (sym same) ∙ is) h))
      by f false e = f (grind (arith, nat_tests))

  pub others-kept : (n : ℕ) (d : List (List Literal)) (e : List ℤ) → AreFormed d → n ≤ length e → dnf_truth d e ≡ true → dnf_truth (others_out stays n d).value e ≡ true
  unfolding next just
  others-kept zero d e h le k = k
  others-kept (suc x) d e h le k = others-kept x (without (stays x) x d).value e (without-formed (stays x) x d h) (omega (arith, le)) (without-kept (stays x) x d e h (omega (arith, le)) k)

  pub others-back : (n : ℕ) (d : List (List Literal)) (P : List ℤ → Type 0) → AreFormed d → ((x : ℕ) → x < n → stays x ≡ false → (v : ℤ) (e : List ℤ) → P e → P (put e x v))
      → Back P (others_out stays n d).value → Back P d
  unfolding next just
  others-back zero d P h more b = b
  others-back (suc x) d P h more b =
      without-back (stays x) x d P h (more x (omega arith))
      (others-back x (without (stays x) x d).value P (without-formed (stays x) x d h) (λ y lt. more y (omega (arith, lt))) b)

-- names that are all below n stay so
pub others-over : (stays : ℕ → Bool) (m n : ℕ) (d : List (List Literal)) → AreFormed d → AreOver n d → AreOver n (others_out stays m d).value
others-over stays m n d h o = λ y le. others-lack stays m y d h (o y le)

-- ---- the same test
without-same : (a b : Bool) (x : ℕ) (d : List (List Literal)) → a ≡ b → without a x d ≡ without b x d
without-same a b x d is = ap (λ z. without z x d) is

pub others-same : (s t : ℕ → Bool) (n : ℕ) (d : List (List Literal)) → ((x : ℕ) → x < n → s x ≡ t x) → others_out s n d ≡ others_out t n d
others-same s t zero d h = refl
others-same s t (suc x) d h =
    ap (λ w. next w (others_out s x)) (without-same (s x) (t x) x d (h x (omega arith)))
    ∙ next-same (without (t x) x d) (others_out s x) (others_out t x) (others-same s t x (without (t x) x d).value (λ y lt. h y (omega (arith, lt))))

pub projecting-same : (s t : ℕ → Bool) (n : ℕ) (f : Form) → ((x : ℕ) → x < n → s x ≡ t x) → projecting s n f ≡ projecting t n f
projecting-same s t n f h = next-same (in_new_log (eliminating n f)) (others_out s n) (others_out t n) (others-same s t n (in_new_log (eliminating n f)).value h)

-- ---- the value of a projection
pub projected-is : (s : ℕ → Bool) (n : ℕ) (f : Form) → (projecting s n f).value ≡ (others_out s n (eliminating n f).value).value
unfolding next step
projected-is s n f = refl
