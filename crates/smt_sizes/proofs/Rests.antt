-- The kinds of arguments from one on.
use Rattle.std.proofs.Common.{◌≡◌, ℕ, zero, suc, ◌+◌, ◌<◌, ◌≤◌, ◌||◌, Bool, true, false, List, [], ◌∷◌, length, drop, get_or, refl, ap, ap₂, ◌∙◌, arith, if◌then◌else◌}
use Rattle.std.specs.Bool.{beq}
use Rattle.smt_sizes.specs.declared.weight.Weight.{Weight}
use Rattle.smt_sizes.specs.Weight.{nothing, plus}
use Rattle.smt_sizes.specs.Linear.{Sum, kept, start}
use Rattle.smt_sizes.specs.Operators.{if_none, next, by_kind, number_of, inside, joint, of_pairs, in_pairs, pairs_sum}

pub rest-more : {A : Type 0} (bs : List Bool) (i : ℕ) (x y : A) → i < length bs → y ≡ if_none (drop i bs) x y
rest-more [] i x y h = absurd (omega arith)
rest-more (b ∷ bs) zero x y h = refl
rest-more (b ∷ bs) (suc i) x y h = rest-more bs i x y (omega arith)

pub rest-none : {A : Type 0} (bs : List Bool) (i : ℕ) (x y : A) → length bs ≤ i → x ≡ if_none (drop i bs) x y
rest-none [] zero x y h = refl
rest-none [] (suc i) x y h = refl
rest-none (b ∷ bs) zero x y h = absurd (omega arith)
rest-none (b ∷ bs) (suc i) x y h = rest-none bs i x y (omega arith)

pub opened : (bs : List Bool) (i : ℕ) (d : Bool) → i < length bs → drop i bs ≡ get_or bs i d ∷ drop (i + 1) bs
opened [] i d h = absurd (omega arith)
opened (b ∷ bs) zero d h = refl
opened (b ∷ bs) (suc i) d h =
    let is : suc (i + 1) ≡ suc i + 1 = omega arith in
    opened bs i d (omega arith) ∙ ap (λ k. get_or bs i d ∷ drop k (b ∷ bs)) is

pub next-there : (t : Bool) (c : Weight) (b : Bool) (bs : List Bool) (i : ℕ) (d : Bool) → i < length bs
    → next t c b (drop i bs) ≡ (if t || beq b (get_or bs i d) then c else nothing)
next-there t c b bs i d h = ap (next t c b) (opened bs i d h)

pub next-none : (t : Bool) (c : Weight) (b : Bool) (bs : List Bool) (i : ℕ) → length bs ≤ i → nothing ≡ next t c b (drop i bs)
next-none t c b [] zero h = refl
next-none t c b [] (suc i) h = refl
next-none t c b (x ∷ bs) zero h = absurd (omega arith)
next-none t c b (x ∷ bs) (suc i) h = next-none t c b bs i (omega arith)

pub number-behind : (want : Bool) (bs : List Bool) (i : ℕ) (d : Bool) → i < length bs
    → number_of want (drop i bs) ≡ (if beq (get_or bs i d) want then suc (number_of want (drop (i + 1) bs)) else number_of want (drop (i + 1) bs))
number-behind want bs i d h = ap (number_of want) (opened bs i d h)

pub kinds-same : (c e : Bool → Weight) → ((b : Bool) → c b ≡ e b) → (bs : List Bool) (f : Sum) → by_kind c bs f ≡ by_kind e bs f
kinds-same c e h [] f = refl
kinds-same c e h (b ∷ bs) f = ap (λ w. by_kind c bs (kept nothing w f)) (h b) ∙ kinds-same c e h bs (kept nothing (e b) f)

pub pairs-made : (bs : List Bool) (all : Sum) (m j p w s t : Weight) → m ≡ inside bs → all ≡ start w → w ≡ plus j p → j ≡ joint bs → p ≡ of_pairs m bs → s ≡ in_pairs m bs true → t ≡ in_pairs m bs false
    → by_kind (λ b. if b then s else t) bs all ≡ pairs_sum bs
pairs-made bs all m j p w s t im ia iw ij ip is it =
    ap₂ (λ x y. by_kind (λ b. if b then x else y) bs all) is it ∙ kinds-same (λ b. if b then in_pairs m bs true else in_pairs m bs false) (in_pairs m bs) by bs all
    ∙ ap (by_kind (in_pairs m bs) bs) (ia ∙ ap start (iw ∙ ap₂ plus ij ip)) ∙ ap (λ z. by_kind (in_pairs z bs) bs (start (plus (joint bs) (of_pairs z bs)))) im
  where
    by : (b : Bool) → (if b then in_pairs m bs true else in_pairs m bs false) ≡ in_pairs m bs b
    by true = refl
    by false = refl
