-- The values that are chosen name by name are the best ones.
use Rattle.std.proofs.Common.{◌≡◌, ◌+◌, ◌<◌, ◌≤◌, ℕ, zero, suc, ℤ, Bool, true, false, not, cond, Some, None, List, [], ◌∷◌, ◌++◌, length, take, length-append, refl, sym, ◌∙◌, ap, subst, arith, append_assoc}
use Rattle.std.specs.Prelude.{◌↔◌}
use Rattle.std.proofs.lemmas.List.{append-nil}
use Rattle.base_integers.specs.Entry.{entry, put}
use Rattle.base_integers.proofs.Entries.{put-length, put-append_right}
use Rattle.solve_laws.specs.Best.{rank}
use Rattle.solve_laws.proofs.Method.{Method, Laws, out_from, values_from, solved}

-- v is the first by rank of the lists of n integers that satisfy p, name by name
pub record IsFirst (p : List ℤ → Bool) (n : ℕ) (v : List ℤ) : Type 0 where
  pub names : length v ≡ n
  pub satisfies : p v ≡ true
  pub best : (w : List ℤ) → length w ≡ n → p w ≡ true → (j : ℕ) → j < n → take j w ≡ take j v → rank (entry v j) ≤ rank (entry w j)

-- a best first entry, and a best list after it
pub best-cons : (p : List ℤ → Bool) (n : ℕ) (v : ℤ) (r : List ℤ) → ((u : ℤ) (w : List ℤ) → length w ≡ n → p (u ∷ w) ≡ true → rank v ≤ rank u)
    → IsFirst (λ w. p (v ∷ w)) n r → IsFirst p (suc n) (v ∷ r)
best-cons p n v r first h = record {
  names = ap suc h.names;
  satisfies = h.satisfies;
  best = best;
}
  where
    behind : (u : ℤ) (w : List ℤ) → length (u ∷ w) ≡ suc n → p (u ∷ w) ≡ true → (j : ℕ) → j < suc n → take j (u ∷ w) ≡ take j (v ∷ r) → rank (entry (v ∷ r) j) ≤ rank (entry (u ∷ w) j)
    behind u w l t zero lt e = first u w (omega arith) t
    behind u w l t (suc j) lt e =
        let head : u ≡ v = cc in
        let tail : take j w ≡ take j r = cc in
        h.best w (omega arith) (subst (λ (x : ℤ). p (x ∷ w) ≡ true) head t) j (omega arith) tail

    best : (w : List ℤ) → length w ≡ suc n → p w ≡ true → (j : ℕ) → j < suc n → take j w ≡ take j (v ∷ r) → rank (entry (v ∷ r) j) ≤ rank (entry w j)
    best [] l t j lt e = absurd (omega arith)
    best (u ∷ w) l t j lt e = behind u w l t j lt e

best-none : (p : List ℤ → Bool) → p [] ≡ true → IsFirst p 0 []
best-none p t = record { names = refl; satisfies = t; best = λ w l s j lt e. absurd (omega arith) }

-- a list of n + 1 integers is one of n and one after it
record IsSplit (n : ℕ) (w : List ℤ) : Type 0 where
  front : List ℤ
  last : ℤ
  is : w ≡ front ++ last ∷ []
  names : length front ≡ n

split_at_end : (n : ℕ) (w : List ℤ) → length w ≡ suc n → IsSplit n w
split_at_end n [] l = absurd (omega arith)
split_at_end zero (u ∷ []) l = record { front = []; last = u; is = refl; names = refl }
split_at_end zero (u ∷ v ∷ w) l = absurd (omega arith)
split_at_end (suc n) (u ∷ w) l =
    let h : IsSplit n w = split_at_end n w (omega arith) in
    record { front = u ∷ h.front; last = h.last; is = ap (λ (r : List ℤ). u ∷ r) h.is; names = ap suc h.names }

length-behind : (e : List ℤ) (u : ℤ) → length (e ++ u ∷ []) ≡ suc (length e)
length-behind [] u = refl
length-behind (v ∷ e) u = ap suc (length-behind e u)

put-behind : (e : List ℤ) (x : ℕ) (v : ℤ) → length e ≡ x → put e x v ≡ e ++ v ∷ []
put-behind e x v l = subst (λ (y : ℕ). put e y v ≡ e ++ v ∷ []) l (put-length e v)

-- some k integers after p satisfy d
abbrev pub IsSatisfied : (List ℤ → Bool) → ℕ → List ℤ → Type 0
IsSatisfied t k p = (w : List ℤ) × ((length w ≡ k) × (t (p ++ w) ≡ true))

nothing : (w : List ℤ) → length w ≡ 0 → w ≡ []
nothing [] l = refl
nothing (u ∷ w) l = absurd (omega arith)

at_end : (p w : List ℤ) (x : ℕ) (v : ℤ) → length p + length w ≡ x → put (p ++ w) x v ≡ p ++ (w ++ v ∷ [])
at_end p w x v l = put-behind (p ++ w) x v (length-append p w ∙ l) ∙ append_assoc p w (v ∷ [])

best-same : (p q : List ℤ → Bool) (n : ℕ) (v : List ℤ) → ((w : List ℤ) → p w ≡ q w) → IsFirst p n v → IsFirst q n v
best-same p q n v e h = record { names = h.names; satisfies = sym (e v) ∙ h.satisfies; best = λ w l t. h.best w l (e w ∙ t) }

put_again : (p : List ℤ) (v : ℤ) (r : List ℤ) (j : ℕ) → length p ≡ j → put ((p ++ v ∷ []) ++ r) j v ≡ p ++ v ∷ r
put_again p v r j l =
    let at : j ≡ length p + 0 = omega arith in
    ap (λ (e : List ℤ). put e j v) (append_assoc p (v ∷ []) r) ∙ ap (λ (x : ℕ). put (p ++ v ∷ r) x v) at ∙ put-append_right p (v ∷ r) 0 v

by_first : {T : Type 0} (k : ℕ) (w : List ℤ) → length w ≡ suc k → ((u : ℤ) (r : List ℤ) → w ≡ u ∷ r → T) → T
by_first k [] l f = absurd (omega arith)
by_first k (u ∷ r) l f = f u r refl

module _ {D : Type 0} (m : Method D) (Spans : ℕ → ℕ → D → Type 0) (h : Laws m Spans) where
  -- d without the k names from j on is true at p where some values of these names make d true
  pub out-satisfied : (k j i : ℕ) (d : D) (p : List ℤ) → length p ≡ j → i ≤ j → Spans i (j + k) d
      → (m.truth (out_from m k j d) p ≡ true) ↔ IsSatisfied (m.truth d) k p
  out-satisfied zero j i d p l le s = (
    λ t. ([], (refl, ap (m.truth d) (append-nil p) ∙ t)),
    λ w. ap (m.truth d) (sym (append-nil p) ∙ ap (λ (u : List ℤ). p ++ u) (sym (nothing w.0 w.1.0))) ∙ w.1.1,
  )
  out-satisfied (suc k) j i d p l le s =
      let x : ℕ = j + k in
      let sx : Spans i (suc x) d = subst (λ (n : ℕ). Spans i n d) (omega arith) s in
      let lx : i ≤ x = omega arith in
      let out : D = m.without x d in
      let ih = out-satisfied k j i out p l le (h.out_spans i x d lx sx) in (
        λ t.
            let w : IsSatisfied (m.truth out) k p = ih.0 t in
            let v = (h.out_met i x d (p ++ w.0) lx sx).0 w.1.1 in
            (w.0 ++ v.0 ∷ [], (length-behind w.0 v.0 ∙ ap suc w.1.0, ap (m.truth d) (sym (at_end p w.0 x v.0 (omega (arith, w.1.0)))) ∙ v.1)),
        λ w.
            let c : IsSplit k w.0 = split_at_end k w.0 w.1.0 in
            let here : m.truth d (put (p ++ c.front) x c.last) ≡ true =
            ap (m.truth d) (at_end p c.front x c.last (omega (arith, c.names)) ∙ ap (λ (u : List ℤ). p ++ u) (sym c.is)) ∙ w.1.1 in
            ih.1 (c.front, (c.names, (h.out_met i x d (p ++ c.front) lx sx).1 (c.last, here))),
      )

  out-spans : (k j i : ℕ) (d : D) → i ≤ j → Spans i (j + k) d → Spans i j (out_from m k j d)
  out-spans zero j i d le s = subst (λ (n : ℕ). Spans i n d) (omega arith) s
  out-spans (suc k) j i d le s =
      out-spans k j i (m.without (j + k) d) le (h.out_spans i (j + k) d (omega arith) (subst (λ (n : ℕ). Spans i n d) (omega arith) s))

  -- the values chosen from j on are the best ones after p, where some values satisfy d there
  pub values-best : (k j : ℕ) (d : D) (p : List ℤ) → length p ≡ j → Spans j (j + k) d → IsSatisfied (m.truth d) k p
      → IsFirst (λ w. m.truth d (p ++ w)) k (values_from m k j d)
  values-best zero j d p l s w =
      best-none (λ u. m.truth d (p ++ u)) (ap (λ (u : List ℤ). m.truth d (p ++ u)) (sym (nothing w.0 w.1.0)) ∙ w.1.1)
  values-best (suc k) j d p l s w =
      let sj : Spans j (suc j + k) d = subst (λ (n : ℕ). Spans j n d) (omega arith) s in
      let left : D = out_from m k (suc j) d in
      let v : ℤ = m.chosen j left in
      let alone : Spans j (suc j) left = out-spans k (suc j) j d (omega arith) sj in
      let best : (u : ℤ) (r : List ℤ) → length r ≡ k → m.truth d (p ++ u ∷ r) ≡ true → (m.truth left (put p j v) ≡ true) × (rank v ≤ rank u) =
      (λ u r lr t. h.chosen_best j left p u alone
      (ap (m.truth left) (put-behind p j u l) ∙ (out-satisfied k (suc j) j d (p ++ u ∷ []) (length-behind p u ∙ ap suc l) (omega arith) sj).1
      (r, (lr, ap (m.truth d) (append_assoc p (u ∷ []) r) ∙ t)))) in
      let valued : (r : List ℤ) → m.truth (m.with_value j v d) ((p ++ v ∷ []) ++ r) ≡ m.truth d (p ++ v ∷ r) =
      (λ r. h.value_truth j (j + suc k) v d ((p ++ v ∷ []) ++ r) s ∙ ap (m.truth d) (put_again p v r j l)) in
      let some : m.truth left (put p j v) ≡ true = first_satisfied w (λ u r lr t. (best u r lr t).0) in
      let rest : IsSatisfied (m.truth d) k (p ++ v ∷ []) = (out-satisfied k (suc j) j d (p ++ v ∷ []) (length-behind p v ∙ ap suc l) (omega arith) sj).0 (ap (m.truth left) (sym (put-behind p j v l)) ∙ some) in
      best-cons (λ u. m.truth d (p ++ u)) k v (values_from m k (suc j) (m.with_value j v d)) (λ u r lr t. (best u r lr t).1)
      (best-same _ _ k _ valued
      (values-best k (suc j) (m.with_value j v d) (p ++ v ∷ []) (length-behind p v ∙ ap suc l)
      (subst (λ (n : ℕ). Spans (suc j) n (m.with_value j v d)) (omega arith) (h.value_spans j (j + suc k) v d s))
      (rest.0, (rest.1.0, valued rest.0 ∙ ap (m.truth d) (sym (append_assoc p (v ∷ []) rest.0)) ∙ rest.1.1))))
    where
      first_satisfied : {T : Type 0} → IsSatisfied (m.truth d) (suc k) p → ((u : ℤ) (r : List ℤ) → length r ≡ k → m.truth d (p ++ u ∷ r) ≡ true → T) → T
      first_satisfied w f = by_first k w.0 w.1.0 (λ u r e. f u r (omega (arith, w.1.0, ap (λ (x : List ℤ). length x) e)) (ap (λ (x : List ℤ). m.truth d (p ++ x)) (sym e) ∙ w.1.1))

  from_zero : (n : ℕ) (d : D) → Spans 0 n d → Spans 0 (0 + n) d
  from_zero n d s = subst (λ (k : ℕ). Spans 0 k d) (omega arith) s

  closed-satisfied : (n : ℕ) (d : D) → Spans 0 n d → (not (m.is_false (out_from m n 0 d)) ≡ true) ↔ IsSatisfied (m.truth d) n []
  closed-satisfied n d s =
      let e : m.truth (out_from m n 0 d) [] ≡ not (m.is_false (out_from m n 0 d)) = h.closed 0 (out_from m n 0 d) [] (out-spans n 0 0 d (omega arith) (from_zero n d s)) in
      let met = out-satisfied n 0 0 d [] refl (omega arith) (from_zero n d s) in
      (λ t. met.0 (e ∙ t), λ w. sym e ∙ met.1 w)

  -- solved answers the best list
  pub solved-best : (n : ℕ) (d : D) (v : List ℤ) → Spans 0 n d → solved m n d ≡ Some v → IsFirst (m.truth d) n v
  solved-best n d v s = by_answer (m.is_false (out_from m n 0 d)) (closed-satisfied n d s)
    where
      by_answer : (b : Bool) → (not b ≡ true) ↔ IsSatisfied (m.truth d) n [] → cond b None (Some (values_from m n 0 d)) ≡ Some v → IsFirst (m.truth d) n v
      by_answer true met e = absurd cc
      by_answer false met e = let same : values_from m n 0 d ≡ v = cc in subst (IsFirst (m.truth d) n) same (values-best n 0 d [] refl (from_zero n d s) (met.0 refl))

  -- and none exactly where no list satisfies d
  pub solved-none : (n : ℕ) (d : D) → Spans 0 n d → (solved m n d ≡ None) ↔ ((w : List ℤ) → length w ≡ n → m.truth d w ≡ false)
  solved-none n d s = by_answer (m.is_false (out_from m n 0 d)) (closed-satisfied n d s)
    where
      none : (b : Bool) → (b ≡ true → ⊥) → b ≡ false
      none true f = absurd (f refl)
      none false f = refl

      by_answer : (b : Bool) → (not b ≡ true) ↔ IsSatisfied (m.truth d) n [] → (cond b None (Some (values_from m n 0 d)) ≡ None) ↔ ((w : List ℤ) → length w ≡ n → m.truth d w ≡ false)
      by_answer true met = (λ e w l. none (m.truth d w) (λ t. absurd (let k : not true ≡ true = met.1 (w, (l, t)) in cc)), λ f. refl)
      by_answer false met = (λ e. absurd cc, λ f. let w = met.0 refl in absurd (let k : true ≡ false = sym w.1.1 ∙ f w.0 w.1.0 in cc))
