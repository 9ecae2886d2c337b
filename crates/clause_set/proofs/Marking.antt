-- The marks of a clause are among those of each clause that it covers.
use Rattle.std.proofs.Common.{◌≡◌, ◌≢◌, ◌≤◌, ◌<◌, ◌+◌, ◌*◌, ◌%◌, ◌^◌, ℕ, ℤ, neg_ℤ, unsigned_abs, Bool, true, false, not, ◌&&◌, cond, List, [], ◌∷◌, Some, drop, drop-cons, add-one, length, get_or, inl, inr, refl, sym, ◌∙◌, ap, arith}
use Rattle.std.specs.Prelude.{bit_and, bit_or}
use Rattle.std.specs.Int.{bit_at}
use Rattle.std.specs.List.{list_any}
use Rattle.std.specs.Cmp.{first_so, second_so}
use Rattle.std.proofs.lemmas.Int.{ints}
use Rattle.std.proofs.Math.ListN.{drop_of_length-le}
use Rattle.std.proofs.lemmas.Nat.{one_shl}
use Rattle.std.proofs.lemmas.Nat.Bits.{bit_at_or, bit_at_and, bit_at-zero, same_from_bits}
use Rattle.base_budget.proofs.Charging.{drop-item}
use Rattle.linear_term.specs.Linear.{Linear}
use Rattle.linear_term.proofs.Totals.{by_test}
use Rattle.clause_set.specs.declared.literal.Literal.{Literal}
use Rattle.clause_set.specs.declared.literal.Literal.TheVariants.{Eq, Geq, Div, NDiv}
use Rattle.clause_set.specs.Normal.{leads_negative, negated}
use Rattle.clause_set.specs.Order.{is_literal}
use Rattle.clause_set.specs.Clauses.{slack, slack_of}
use Rattle.clause_set.specs.Dnfs.{covers, follows, is_implied, outdoes}
use Rattle.clause_set.specs.Marks.{mixed, shade, mark, mark_of, marks}
use Rattle.clause_set.proofs.ClauseTruth.{by_first}
use Rattle.clause_set.proofs.Covers.{Among, any_from, by_no, same_literal_test, slack-witness, within_some}
use Rattle.clause_set.proofs.Intervals.{bound-slack, equation-slack}

-- each member of the set m is in the set n
abbrev pub Within : ℕ → ℕ → Type 0
Within m n = (i : ℕ) → bit_at m i ≤ bit_at n i

within_self : (m n : ℕ) → m ≡ n → Within m n
within_self m n e i = omega (arith, ap (λ z. bit_at z i) e)

within_left : (m a b : ℕ) → Within m a → Within m (bit_or a b)
within_left m a b h i = omega (arith, h i, bit_at_or a b i)

within_right : (m a b : ℕ) → Within m b → Within m (bit_or a b)
within_right m a b h i = omega (arith, h i, bit_at_or a b i)

within_both : (a b n : ℕ) → Within a n → Within b n → Within (bit_or a b) n
within_both a b n h k i = omega (arith, h i, k i, bit_at_or a b i)

within_zero : (n : ℕ) → Within 0 n
within_zero n i = omega (arith, bit_at-zero i)

within_along : (a b c : ℕ) → Within a b → Within b c → Within a c
within_along a b c h k i = omega (arith, h i, k i)

within-and : (m n : ℕ) → Within m n → bit_and m n ≡ m
within-and m n h = same_from_bits (bit_and m n) m (λ i. omega (arith, bit_at_and m n i, h i))

-- ---- opposite coefficients have the same mark
shade-negated : (h : ℕ) (ps : List (ℕ × ℤ)) → shade h (negated ps) ≡ shade h ps
unfolding shade
shade-negated h [] = refl
shade-negated h (p ∷ ps) =
    let e : unsigned_abs (neg_ℤ p.1) ≡ unsigned_abs p.1 = grind (arith, ints) in
    ap (λ k. shade ((h * 35 + p.0 + k % 128 * 9) % 128) (negated ps)) e ∙ shade-negated (mixed h p) ps

mark-negated : (ps : List (ℕ × ℤ)) → mark (negated ps) ≡ mark ps
unfolding mark
mark-negated ps = ap (λ k. 2 ^ k) (shade-negated 0 ps)

-- ---- a literal among others
among-within : (b : Bool) (l : Literal) (c : List Literal) → Among l c → Within (mark_of b l) (marks b c)
among-within b l [] m = absurd m
among-within b l (x ∷ c) (inl e) = within_left (mark_of b l) (mark_of b x) (marks b c) (within_self (mark_of b l) (mark_of b x) (ap (mark_of b) e))
among-within b l (x ∷ c) (inr m) = within_right (mark_of b l) (mark_of b x) (marks b c) (among-within b l c m)

bound-within_mark : (b : Bool) (t : Linear) → Within (mark_of b (Geq t)) (mark t.pairs)
bound-within_mark false t = by_test (λ z. Within z (mark t.pairs)) (leads_negative t.pairs) 0 (mark t.pairs) (λ _. within_zero (mark t.pairs)) (λ _. within_self (mark t.pairs) (mark t.pairs) refl)
bound-within_mark true t = by_test (λ z. Within z (mark t.pairs)) (leads_negative t.pairs) (mark t.pairs) 0 (λ _. within_self (mark t.pairs) (mark t.pairs) refl) (λ _. within_zero (mark t.pairs))

bound_at_equation : (b : Bool) (t s : Linear) → mark s.pairs ≡ mark t.pairs → Within (mark_of b (Geq t)) (mark_of b (Eq s))
bound_at_equation b t s e = within_along (mark_of b (Geq t)) (mark t.pairs) (mark_of b (Eq s)) (bound-within_mark b t) (within_self (mark t.pairs) (mark_of b (Eq s)) (sym e))

bound_at_bound : (b : Bool) (s t : Linear) → s.pairs ≡ t.pairs → mark_of b (Geq s) ≡ mark_of b (Geq t)
bound_at_bound false s t e = ap (λ p. cond (leads_negative p) 0 (mark p)) e
bound_at_bound true s t e = ap (λ p. cond (leads_negative p) (mark p) 0) e

-- a literal that bounds the coefficients of t has the mark of a bound of t
slack-within : (b : Bool) (t : Linear) (m : Literal) (j : ℤ) → slack_of m t.pairs ≡ Some j → Within (mark_of b (Geq t)) (mark_of b m)
slack-within b t (Eq s) j e =
    equation-slack (Within (mark_of b (Geq t)) (mark_of b (Eq s))) s t.pairs j e
    (λ q. bound_at_equation b t s (ap mark q))
    (λ q. bound_at_equation b t s (ap mark q ∙ mark-negated t.pairs))
slack-within b t (Geq s) j e =
    bound-slack (Within (mark_of b (Geq t)) (mark_of b (Geq s))) s t.pairs j e
    (λ q is. within_self (mark_of b (Geq t)) (mark_of b (Geq s)) (bound_at_bound b t s (sym q)))
slack-within b t (Div d s) j e = absurd cc
slack-within b t (NDiv d s) j e = absurd cc

-- ---- a literal that a clause has, or that follows from it
follows-within : (b : Bool) (c : List Literal) (l : Literal) → follows c l ≡ true → Within (mark_of b l) (marks b c)
follows-within b c (Eq t) f = absurd cc
follows-within b c (Geq t) f =
    within_some (Within (mark_of b (Geq t)) (marks b c)) (slack c t.pairs) t.constant f
    (λ j e le. let w = slack-witness c t.pairs j e in
    within_along (mark_of b (Geq t)) (mark_of b w.literal) (marks b c) (slack-within b t w.literal j w.is) (among-within b w.literal c w.among))
follows-within b c (Div d t) f = absurd cc
follows-within b c (NDiv d t) f = absurd cc

implied-within : (b : Bool) (c : List Literal) (l : Literal) → is_implied c l ≡ true → Within (mark_of b l) (marks b c)
implied-within b c l h =
    by_first (list_any (is_literal l) c) (follows c l) (Within (mark_of b l) (marks b c)) h
    (λ t. let w = any_from (is_literal l) c t in
    within_along (mark_of b l) (mark_of b w.element) (marks b c)
    (within_self (mark_of b l) (mark_of b w.element) (ap (mark_of b) (same_literal_test l w.element w.passes)))
    (among-within b w.element c w.among))
    (λ f. follows-within b c l f)

-- a clause covers only those with its marks
pub covers-within : (b : Bool) (d c : List Literal) → covers d c ≡ true → Within (marks b d) (marks b c)
covers-within b [] c h = within_zero (marks b c)
covers-within b (l ∷ d) c h =
    within_both (mark_of b l) (marks b d) (marks b c)
    (implied-within b c l (first_so (is_implied c l) (covers d c) h))
    (covers-within b d c (second_so (is_implied c l) (covers d c) h))

pub marked_apart : (b : Bool) (d c : List Literal) (m n : ℕ) → m ≡ marks b d → n ≡ marks b c → bit_and m n ≢ m → covers d c ≡ false
marked_apart b d c m n e f other =
    by_no (covers d c)
    (λ y. other (ap (λ z. bit_and z n) e ∙ ap (λ z. bit_and (marks b d) z) f ∙ within-and (marks b d) (marks b c) (covers-within b d c y) ∙ sym e))

pub own_apart : (d c : List Literal) (m n : ℕ) → m ≡ marks false d → n ≡ marks false c → bit_and m n ≢ m → covers d c ≡ false
own_apart d c m n e f other = marked_apart false d c m n e f other

pub opposite_apart : (d c : List Literal) (m n : ℕ) → m ≡ marks true d → n ≡ marks true c → bit_and m n ≢ m → covers d c ≡ false
opposite_apart d c m n e f other = marked_apart true d c m n e f other

pub ruleset apart = (own_apart, opposite_apart)

-- what covers nothing outdoes nothing
pub outdoes_none : (d c : List Literal) → covers d c ≡ false → outdoes d c ≡ false
outdoes_none d c e = ap (λ b. b && not (covers c d)) e

pub ruleset outdoing = (outdoes_none)

-- ---- the loop over the coefficients
shade_less_more : (h : ℕ) (ps : List (ℕ × ℤ)) → h < 128 → shade h ps < 128
unfolding shade
shade_less_more h [] lt = lt
shade_less_more h (p ∷ ps) lt = shade_less_more (mixed h p) ps (omega arith)

pub shade-less : (ps : List (ℕ × ℤ)) → shade 0 ps < 128
shade-less ps = shade_less_more 0 ps (omega arith)

-- h is what the coefficients before i leave
pub record Shades (ps : List (ℕ × ℤ)) (i h : ℕ) : Type 0 where
  pub rest : shade h (drop i ps) ≡ shade 0 ps
  pub less : h < 128

pub shades_none : (ps : List (ℕ × ℤ)) → Shades ps 0 0
shades_none ps = record { rest = refl; less = omega arith }

pub shades_more : (ps : List (ℕ × ℤ)) (i h n : ℕ) (d : ℕ × ℤ) → i < length ps → n ≡ mixed h (get_or ps i d) → n < 128 → Shades ps i h → Shades ps (i + 1) n
unfolding shade
shades_more ps i h n d lt e small s = record {
  rest = ap (λ z. shade z (drop (i + 1) ps)) e ∙ ap (λ z. shade (mixed h (get_or ps i d)) (drop z ps)) (add-one i) ∙ sym (ap (shade h) (drop-cons ps i d lt)) ∙ s.rest;
  less = small;
}

pub shades_all : (ps : List (ℕ × ℤ)) (i h : ℕ) → length ps ≤ i → Shades ps i h → h ≡ shade 0 ps
unfolding shade
shades_all ps i h le s = sym (ap (shade h) (drop_of_length-le ps le)) ∙ s.rest

pub ruleset shading = (shades_none, shades_all)

-- the set of one number
pub single_mark : (ps : List (ℕ × ℤ)) (s : ℕ) → s ≡ shade 0 ps → s < 128 → 1 * 2 ^ s % 340282366920938463463374607431768211456 ≡ mark ps
unfolding mark
single_mark ps s e lt = one_shl s 128 lt ∙ ap (λ k. 2 ^ k) e

pub ruleset single = (single_mark)

-- ---- the loop over the literals
or-assoc : (a b c : ℕ) → bit_or (bit_or a b) c ≡ bit_or a (bit_or b c)
or-assoc a b c =
    same_from_bits (bit_or (bit_or a b) c) (bit_or a (bit_or b c))
    (λ i. omega (arith, bit_at_or (bit_or a b) c i, bit_at_or a b i, bit_at_or a (bit_or b c) i, bit_at_or b c i))

or-none : (a : ℕ) → bit_or a 0 ≡ a
or-none a = same_from_bits (bit_or a 0) a (λ i. omega (arith, bit_at_or a 0 i, bit_at-zero i))

none-or : (a : ℕ) → bit_or 0 a ≡ a
none-or a = same_from_bits (bit_or 0 a) a (λ i. omega (arith, bit_at_or 0 a i, bit_at-zero i))

-- m has the marks of the literals before i
pub record Marked (b : Bool) (ls : List Literal) (i m : ℕ) : Type 0 where
  pub rest : bit_or m (marks b (drop i ls)) ≡ marks b ls

pub marked_none : (b : Bool) (ls : List Literal) → Marked b ls 0 0
marked_none b ls = record { rest = none-or (marks b ls) }

pub marked_more : (b : Bool) (ls : List Literal) (i m n : ℕ) (l : Literal) → i < length ls → l ≡ get_or ls i l → n ≡ bit_or m (mark_of b l) → Marked b ls i m → Marked b ls (i + 1) n
marked_more b ls i m n l lt is e s = record {
  rest =
      ap (λ z. bit_or z (marks b (drop (i + 1) ls))) e ∙ or-assoc m (mark_of b l) (marks b (drop (i + 1) ls))
      ∙ sym (ap (λ z. bit_or m (marks b z)) (drop-item ls i l lt is)) ∙ s.rest;
}

pub marked_all : (b : Bool) (ls : List Literal) (i m : ℕ) → length ls ≤ i → Marked b ls i m → m ≡ marks b ls
marked_all b ls i m le s = sym (ap (λ z. bit_or m (marks b z)) (drop_of_length-le ls le) ∙ or-none m) ∙ s.rest

pub ruleset marking = (marked_none, marked_more, marked_all)
