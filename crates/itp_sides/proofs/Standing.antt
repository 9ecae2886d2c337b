-- The strongest and the weakest condition between two formulas, and neighbouring ones.
use Rattle.std.proofs.Common.{◌≡◌, ◌<◌, ℕ, zero, suc, ℤ, Bool, true, false, cond, List, [], ◌∷◌, length, refl, sym, ◌∙◌, ap, arith}
use Rattle.base_integers.specs.Entry.{entry}
use Rattle.form_typed.specs.declared.typed.Sort.{Sort}
use Rattle.form_typed.specs.Formula.{Formula}
use Rattle.form_typed.specs.Sorts.{IsValueOf, AreValuesOf}
use Rattle.form_typed.specs.Truth.{Meaning, Truth}
use Rattle.pri_typing.specs.declared.problem.Problem.{Problem}
use Rattle.form_encoding.specs.Occurrences.{occurs}
use Rattle.form_encoding.specs.Problems.{types}
use Rattle.itp_sides.specs.Between.{AreTyped, Condition, AgreeOn, Contradict, IsStrongest, IsWeakest, IsSetPassed, Leads}
use Rattle.itp_sides.proofs.Agreeing.{agree_true, agree_self, agree_less}

pub strongest_follows : (w : Meaning) (p : Problem) (first second : Formula) (c : Condition) → IsStrongest w p first second c
    → (e : List ℤ) → AreTyped p e → Truth w first e → c e
strongest_follows w p first second c s e l h = (s e l).1 (λ k. k e l (agree_self second e) h)

pub strongest_contradicts : (w : Meaning) (p : Problem) (first second : Formula) (c : Condition) → IsStrongest w p first second c → Contradict w p first second
    → (e : List ℤ) → AreTyped p e → c e → ¬ (Truth w second e)
strongest_contradicts w p first second c s apart e l h b = (s e l).0 h (λ d t a k. apart d t k ((agree_true w second e d a).1 b))

pub weakest_follows : (w : Meaning) (p : Problem) (first second : Formula) (c : Condition) → IsWeakest w p first second c → Contradict w p first second
    → (e : List ℤ) → AreTyped p e → Truth w first e → c e
weakest_follows w p first second c s apart e l h = (s e l).1 (λ d t a. apart d t ((agree_true w first e d a).1 h))

pub weakest_contradicts : (w : Meaning) (p : Problem) (first second : Formula) (c : Condition) → IsWeakest w p first second c
    → (e : List ℤ) → AreTyped p e → c e → ¬ (Truth w second e)
weakest_contradicts w p first second c s e l h = (s e l).0 h e l (agree_self first e)

-- Neighbours.

pub strong_strong : (w : Meaning) (p : Problem) (first second between wider narrower : Formula) (i j : Condition) → IsSetPassed w p first second between wider narrower
    → IsStrongest w p first second i → IsStrongest w p wider narrower j → Leads w p i between j
strong_strong w p first second between wider narrower i j o s t e l h b =
    (t e l).1 (λ k. (s e l).0 h (λ d m a f.
    k d m (agree_less second narrower e d o.narrower_left a) ((o.joins d m).1 (f, (agree_true w between e d (agree_less second between e d o.between_left a)).1 b))))

pub weak_weak : (w : Meaning) (p : Problem) (first second between wider narrower : Formula) (i j : Condition) → IsSetPassed w p first second between wider narrower
    → IsWeakest w p first second i → IsWeakest w p wider narrower j → Leads w p i between j
weak_weak w p first second between wider narrower i j o s t e l h b =
    (t e l).1 (λ d m a k.
    (s e l).0 h d m (agree_less wider first e d o.first_names a)
    ((o.splits d m).1 ((agree_true w between e d (agree_less wider between e d o.between_names a)).1 b, k)))

behind_first : List ℤ → List ℤ
behind_first [] = []
behind_first (u ∷ us) = us

behind-entry : (us : List ℤ) (x : ℕ) → entry (behind_first us) x ≡ entry us (suc x)
unfolding behind_first
behind-entry [] x = refl
behind-entry (u ∷ us) x = refl

-- the entries of one list at some names, and those of another at the others
mixed : (ℕ → Bool) → List ℤ → List ℤ → List ℤ
mixed test [] others = []
mixed test (v ∷ e) others = cond (test 0) v (entry others 0) ∷ mixed (λ x. test (suc x)) e (behind_first others)

length-mixed : (test : ℕ → Bool) (e others : List ℤ) → length (mixed test e others) ≡ length e
unfolding mixed
length-mixed test [] others = refl
length-mixed test (v ∷ e) others = ap suc (length-mixed (λ x. test (suc x)) e (behind_first others))

entry-mixed : (test : ℕ → Bool) (e others : List ℤ) (x : ℕ) → x < length e → entry (mixed test e others) x ≡ cond (test x) (entry e x) (entry others x)
unfolding mixed
entry-mixed test [] others x l = absurd (omega arith)
entry-mixed test (v ∷ e) others zero l = refl
entry-mixed test (v ∷ e) others (suc x) l =
    entry-mixed (λ y. test (suc y)) e (behind_first others) x (omega arith) ∙ ap (λ z. cond (test (suc x)) (entry e x) z) (behind-entry others x)

behind_typed : (s : Sort) (ss : List Sort) (u : List ℤ) → AreValuesOf (s ∷ ss) u → AreValuesOf ss (behind_first u)
unfolding behind_first
behind_typed s ss [] h = absurd h
behind_typed s ss (v ∷ u) h = h.1

first_typed : (s : Sort) (ss : List Sort) (u : List ℤ) → AreValuesOf (s ∷ ss) u → IsValueOf s (entry u 0)
first_typed s ss [] h = absurd h
first_typed s ss (v ∷ u) h = h.0

typed-mixed : (test : ℕ → Bool) (ss : List Sort) (e others : List ℤ) → AreValuesOf ss e → AreValuesOf ss others → AreValuesOf ss (mixed test e others)
unfolding mixed
typed-mixed test [] [] others h k = tt
typed-mixed test [] (v ∷ e) others h k = absurd h
typed-mixed test (s ∷ ss) [] others h k = absurd h
typed-mixed test (s ∷ ss) (v ∷ e) others h k =
    (either (test 0), typed-mixed (λ x. test (suc x)) ss e (behind_first others) h.1 (behind_typed s ss others k))
  where
    either : (b : Bool) → IsValueOf s (cond b v (entry others 0))
    either true = h.0
    either false = first_typed s ss others k

pub strong_weak : (w : Meaning) (p : Problem) (first second between wider narrower : Formula) (i j : Condition) → IsSetPassed w p first second between wider narrower
    → Contradict w p first second → IsStrongest w p first second i → IsWeakest w p wider narrower j → Leads w p i between j
strong_weak w p first second between wider narrower i j o apart s t e l h b =
    (t e l).1 (λ d td a k. (s e l).0 h (λ u tu v f.
    let test : ℕ → Bool = λ x. occurs x second in
    let m = mixed test d u in
    let long = length-mixed test d u in
    let all : Truth w second d = (o.splits d td).1 ((agree_true w between e d (agree_less wider between e d o.between_names a)).1 b, k) in
    let on_second : AgreeOn second d m = record { long = long; same = λ x small q. entry-mixed test d u x small ∙ ap (λ c. cond c (entry d x) (entry u x)) q } in
    let on_first : AgreeOn first u m = record {
      long = long ∙ a.long ∙ sym v.long;
      same = λ x small q.
          let within : x < length e = omega (arith, v.long, small) in
          let other : x < length d = omega (arith, a.long, within) in
          let is = entry-mixed test d u x other in
          both_cases (occurs x second) (entry d x) (entry u x) (entry m x) is (λ r. a.same x within (o.first_names x q) ∙ sym (v.same x within r));
    } in
    let typed : AreTyped p m = record { many = long ∙ td.many; typed = typed-mixed test (types p) d u td.typed tu.typed } in
    apart m typed ((agree_true w first u m on_first).1 f) ((agree_true w second d m on_second).1 all)))
  where
    both_cases : (c : Bool) (x y z : ℤ) → z ≡ cond c x y → (c ≡ true → x ≡ y) → z ≡ y
    both_cases true x y z q f = q ∙ f refl
    both_cases false x y z q f = q
