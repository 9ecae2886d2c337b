-- Words that are known, and charges.
use Rattle.std.proofs.Common.{ℕ, ◌≡◌, ◌≤◌, ◌<◌, ◌^◌, ◌&&◌, Bool, true, false, cond, List, Option, Some, None, refl, sym, ap, subst, ◌∙◌, arith}
use Rattle.std.specs.Prelude.{nat_le}
use Rattle.std.specs.Str.{bytes_eq}
use Rattle.std.specs.Fmt.{decimal}
use Rattle.std.proofs.lemmas.Slice.Eq.{bytes_eq-Decides}
use Rattle.std.proofs.lemmas.Bool.Decides.{nat_tests}
use Rattle.base_limits.specs.Limits.{most_budget}
use Rattle.clause_text.specs.declared.charge.Charge.{Charge}
use Rattle.clause_text.specs.HeadWords.{charge_if, charge_of, charge_text, is_label, IsCharge}
use Rattle.clause_words.specs.Numbers.{index_of}
use Rattle.clause_words.specs.Spelling.{is_plain, IsSpelling}
use Rattle.clause_words.specs.Texts.{Always}
use Rattle.clause_words.proofs.Spelled.{index_spelling, decimal_plain}

label_found : (w x : List ℕ) (v : Unit {0}) → is_label w x ≡ Some v → x ≡ w
label_found w x v e = by (bytes_eq x w) refl e
  where
    by : (b : Bool) → bytes_eq x w ≡ b → cond b (Some tt) None ≡ Some v → x ≡ w
    by true p e = (bytes_eq-Decides x w).0 p
    by false p e = absurd cc

pub label_spelling : (w : List ℕ) → is_plain w ≡ true → IsSpelling Always (λ u. w) (is_label w)
label_spelling w h = record {
  found = λ x v e. (tt, label_found w x v e);
  again = λ v i. ap (λ b. cond b (Some tt) None) ((bytes_eq-Decides w w).1 refl);
  plain = λ v i. h;
  some = tt;
  some_is = tt;
}

charge_found_by : (x : List ℕ) (v : Charge) (o : Option ℕ) → index_of x ≡ o → charge_if o ≡ Some v → IsCharge v × (x ≡ decimal v.count)
charge_found_by x v None p e = absurd cc
charge_found_by x v (Some n) p e = by (nat_le 1 n) (nat_le n most_budget) refl refl e
  where
    by : (b c : Bool) → nat_le 1 n ≡ b → nat_le n most_budget ≡ c → cond (b && c) (Some (record { count = n })) None ≡ Some v → IsCharge v × (x ≡ decimal v.count)
    by false c q r e = absurd cc
    by true false q r e = absurd cc
    by true true q r e =
        let w : Charge = record { count = n } in
        let is : w ≡ v = cc in
        let low : 1 ≤ n = grind (arith, nat_tests) in
        let high : n ≤ most_budget = grind (arith, nat_tests) in
        subst (λ z. IsCharge z × (x ≡ decimal z.count)) is ((low, high), (index_spelling.found x n p).1)

charge_again : (v : Charge) → IsCharge v → charge_of (decimal v.count) ≡ Some v
charge_again v i =
    let small : v.count < 2 ^ 32 = omega (arith, i.1) in
    let low : nat_le 1 v.count ≡ true = let h = i.0 in grind (arith, nat_tests) in
    let high : nat_le v.count most_budget ≡ true = let h = i.1 in grind (arith, nat_tests) in
    ap charge_if (index_spelling.again v.count small) ∙ ap (λ b. cond (b && nat_le v.count most_budget) (Some v) None) low ∙ ap (λ b. cond b (Some v) None) high

pub charge_spelling : IsSpelling IsCharge charge_text charge_of
charge_spelling = record {
  found = λ x v e. charge_found_by x v (index_of x) refl e;
  again = charge_again;
  plain = λ v i. decimal_plain v.count (omega (arith, i.1));
  some = record { count = 1 };
  some_is = (omega arith, omega arith);
}
