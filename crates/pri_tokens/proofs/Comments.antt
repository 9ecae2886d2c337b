-- Where comments end.
use Rattle.std.proofs.Common.{ℕ, zero, suc, ◌≡◌, ◌≤◌, ◌<◌, ◌+◌, ◌==◌, ◌&&◌, Bool, true, false, List, [], ◌∷◌, length, refl, arith, Option, Some, None, if◌then◌else◌}
use Rattle.std.specs.Option.{option_map}
use Rattle.std.proofs.lemmas.Bool.{eqb-true}
use Rattle.std.proofs.lemmas.Bool.Decides.{nat_tests}
use Rattle.pri_tokens.specs.Lexemes.{behind_close}
use Rattle.pri_tokens.specs.Tokenization.{Closes, IsBlockComment}
use Rattle.base_numerals.proofs.Tests.{left_true, right_true}

-- the first `*/` after the byte p
pub record CloseAt (p : ℕ) (text : List ℕ) (n : ℕ) : Type 0 where
  pub place : ℕ
  pub closes : Closes (p ∷ text) place
  pub first : (i : ℕ) → i < place → Closes (p ∷ text) i → ⊥
  pub end : n ≡ place + 1
  pub within : n ≤ length text

not_here : (p b : ℕ) → (p == 42 && b == 47) ≡ false → p ≡ 42 → b ≡ 47 → ⊥
not_here p b e f g = grind (arith, nat_tests)

first_by : (p b : ℕ) (bs : List ℕ) (place : ℕ) → (p == 42 && b == 47) ≡ false → ((i : ℕ) → i < place → Closes (b ∷ bs) i → ⊥)
    → (i : ℕ) → i < suc place → Closes (p ∷ b ∷ bs) i → ⊥
first_by p b bs place v f zero h c = not_here p b v c.0 c.1
first_by p b bs place v f (suc i) h c = f i (omega arith) c

close_by : (p b : ℕ) (bs : List ℕ) (n : ℕ) (v : Bool) → (p == 42 && b == 47) ≡ v → (o : Option ℕ)
    → ((m : ℕ) → o ≡ Some m → CloseAt b bs m) → (if v then Some 1 else option_map suc o) ≡ Some n → CloseAt p (b ∷ bs) n
close_by p b bs n true v o r e = record {
  place = 0;
  closes = (eqb-true p 42 (left_true (p == 42) _ v), eqb-true b 47 (right_true (p == 42) _ v));
  first = λ i h c. absurd (omega arith);
  end = let q : n ≡ 1 = cc in omega arith;
  within = let q : n ≡ 1 = cc in omega arith;
}
close_by p b bs n false v None r e = cc
close_by p b bs n false v (Some m) r e =
    let q : n ≡ suc m = cc in
    let x = r m refl in
    record {
      place = suc x.place;
      closes = x.closes;
      first = first_by p b bs x.place v x.first;
      end = let y = x.end in omega arith;
      within = let y = x.within in omega arith;
    }

pub close_found : (p : ℕ) (text : List ℕ) (n : ℕ) → behind_close (p == 42) text ≡ Some n → CloseAt p text n
close_found p [] n e = cc
close_found p (b ∷ bs) n e = close_by p b bs n (p == 42 && b == 47) refl (behind_close (b == 42) bs) (close_found b bs) e

not_open_by : (p b : ℕ) (bs : List ℕ) (v : Bool) → (p == 42 && b == 47) ≡ v → (o : Option ℕ)
    → (o ≡ None → (i : ℕ) → Closes (b ∷ bs) i → ⊥) → (if v then Some 1 else option_map suc o) ≡ None → (i : ℕ) → Closes (p ∷ b ∷ bs) i → ⊥
not_open_by p b bs true v o r e i c = cc
not_open_by p b bs false v (Some m) r e i c = cc
not_open_by p b bs false v None r e zero c = not_here p b v c.0 c.1
not_open_by p b bs false v None r e (suc i) c = r refl i c

pub no_close : (p : ℕ) (text : List ℕ) → behind_close (p == 42) text ≡ None → (i : ℕ) → Closes (p ∷ text) i → ⊥
no_close p [] e i c = let h = c.1 in omega arith
no_close p (b ∷ bs) e i c = not_open_by p b bs (p == 42 && b == 47) refl (behind_close (b == 42) bs) (no_close b bs) e i c

pub block_by : (inner : List ℕ) (n place : ℕ) → Closes (0 ∷ inner) place → ((i : ℕ) → i < place → Closes (0 ∷ inner) i → ⊥) → n ≡ place + 1
    → IsBlockComment (47 ∷ 42 ∷ inner) (2 + n)
block_by inner n zero c f e = let h = c.0 in absurd (omega arith)
block_by inner n (suc place) c f e = record {
  inner = inner;
  parts = refl;
  place = place;
  closes = c;
  first = λ i h d. f (suc i) (omega arith) d;
  end = omega arith;
}
