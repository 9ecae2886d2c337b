-- Each state says what stood before it: what a token does adds that token.
use Rattle.std.proofs.Common.{ℕ, ◌≡◌, ◌≢◌, ◌≤◌, ◌<◌, ◌^◌, ℤ, pos, ◌<ℤ◌, Bool, true, false, ◌&&◌, cond, List, [], ◌∷◌, ◌++◌, refl, sym, ap, subst, ◌∙◌, append_assoc, append-nil, arith, lit<, Option, Some, None}
use Rattle.std.specs.Prelude.{unsigned_abs, nat_eq, nat_le, nat_lt}
use Rattle.std.proofs.lemmas.Int.{ints}
use Rattle.std.proofs.lemmas.Bool.{leb-true, ltb-true}
use Rattle.std.proofs.lemmas.Bool.Decides.{nat_tests}
use Rattle.std.specs.Ordering.{int_eq}
use Rattle.proof_tokens.specs.declared.tokens.Token.{Token}
use Rattle.proof_tokens.specs.declared.tokens.Token.TheVariants as t
use Rattle.linear_term.specs.Linear.{Linear, IsNormal}
use Rattle.proof_constraint.specs.declared.draft.Divisor.{Divisor}
use Rattle.clause_set.specs.declared.literal.Literal.{Literal}
use Rattle.proof_tokens.specs.Spellings.{IsRangedToken}
use Rattle.proof_constraint.proofs.Normals.{normal_sum}
use Rattle.proof_constraint.specs.declared.draft.Draft.{Draft}
use Rattle.proof_constraint.specs.Behind.{Behind}
use Rattle.proof_constraint.specs.Behind as b
use Rattle.proof_constraint.specs.State.{GivenState}
use Rattle.proof_constraint.specs.State as s
use Rattle.proof_constraint.specs.Move.{GivenMove}
use Rattle.proof_constraint.specs.Move as m
use Rattle.proof_constraint.specs.Text.{IsSaidDivisor, IsSaid, AreSaidLiterals, AreClauses, sign_text, factor_text, pairs_text, sum_text, divisor_text, relation_text, zero_text, literal_text, clause_text, gives_text}
use Rattle.proof_constraint.specs.Machine.{signed, opened, with_pair, sum_of, divided, compared, named, counted, starred, and_then, or_then, ended, ends_literal, relation, follows, divides_then, false_then, true_then, word, line_end, blank, times, behind_word, in_word_minus, in_word_times, moves}
use Rattle.proof_constraint.proofs.Said.{before, is_first, said_before, said_draft, said_behind, said, HasDivisor, IsDraft, IsFineBehind, IsFine}
use Rattle.proof_constraint.proofs.Texts.{before_more, before_all, clause_more, dnf_more, pairs_more, not_zero, size_of, pair_is, constant_is, zero_constant, divided_is, above_more, pairs_fit, all_more}

-- what a move says of the tokens up to now
abbrev pub Leads : List Token → GivenMove → Type 0
Leads now m.Bad = Unit {0}
Leads now (m.On z) = IsFine z × (said z ≡ now)
Leads now (m.Done d) = AreClauses d × (gives_text d ≡ now)

by_test : (now : List Token) (test : Bool) (x y : GivenMove) → (test ≡ true → Leads now x) → (test ≡ false → Leads now y) → Leads now (cond test x y)
by_test now true x y f g = f refl
by_test now false x y f g = g refl

both_true : (a b : Bool) → a && b ≡ true → (a ≡ true) × (b ≡ true)
both_true true b e = (refl, e)
both_true false b e = absurd (cc)

abbrev clause_said : List (List Literal) → List Literal → List Token
clause_said d c = t.Gives ∷ before clause_text t.Or d ++ clause_text c

abbrev sum_said : Draft → ℤ → List Token
sum_said g k = said_before g.clauses g.literals ++ divisor_text g.divisor ++ sum_text (sum_of g k)

opened_fine : (d : List (List Literal)) (c : List Literal) (v : Option Divisor) → AreClauses d → AreSaidLiterals c → HasDivisor v → IsDraft (opened d c v)
opened_fine d c v p q r = record { clauses = p; literals = q; divisor = r; pairs = tt; least = refl }

opened_said : (d : List (List Literal)) (c : List Literal) (v : Option Divisor) → said_draft (opened d c v) ≡ said_before d c ++ divisor_text v
opened_said d c v = append-nil (said_before d c ++ divisor_text v)

not_first : (ps : List (ℕ × ℤ)) (p : ℕ × ℤ) → is_first (ps ++ p ∷ []) ≡ false
not_first [] p = refl
not_first (q ∷ ps) p = refl

-- a name comes
named_leads : (now : List Token) (g : Draft) (minus : Bool) (n x : ℕ) → IsDraft g → 0 < n → n < 2 ^ 127 → x < 2 ^ 32
    → said_draft g ++ sign_text (is_first g.sum.pairs) minus ++ factor_text n x ≡ now → Leads now (named g minus n x)
named_leads now g minus n x fine some small fits e = by_test now (nat_le g.least x) (m.On (s.Behind (b.Sum (with_pair g minus n x)))) m.Bad (λ h.
    let low : g.least ≤ x = leb-true g.least x h in
    let above_is = fine.least in
    let pair : signed minus n ≢ pos 0 = λ q. let z = sym (not_zero minus n some) ∙ ap (λ k. int_eq k (pos 0)) q in absurd (cc) in
    let size : unsigned_abs (signed minus n) < 2 ^ 127 = subst (λ k. k < 2 ^ 127) (sym (size_of minus n)) small in
    let p : IsDraft (with_pair g minus n x) = record {
      clauses = fine.clauses;
      literals = fine.literals;
      divisor = fine.divisor;
      pairs = pairs_fit 0 g.sum.pairs x (signed minus n) fine.pairs (subst (λ k. k ≤ x) above_is low) fits pair size;
      least = sym (above_more 0 g.sum.pairs x (signed minus n));
    } in
    let text : said_draft (with_pair g minus n x) ≡ now =
    ap (λ w. said_before g.clauses g.literals ++ divisor_text g.divisor ++ w) (pairs_more g.sum.pairs (x, signed minus n) ∙ ap (λ w. pairs_text true g.sum.pairs ++ w) (pair_is (is_first g.sum.pairs) minus n x some))
    ∙ (simp append_assoc) ∙ e in
    ((p, not_first g.sum.pairs (x, signed minus n)), text)) (λ h. tt)

counted_leads : (now : List Token) (g : Draft) (minus : Bool) (n : ℕ) → IsDraft g → n < 2 ^ 127
    → said_draft g ++ sign_text (is_first g.sum.pairs) minus ++ t.Number n ∷ [] ≡ now → Leads now (counted g minus n)
counted_leads now g minus n fine small e = by_test now (nat_lt 0 n) (m.On (s.Behind (b.Number g minus n))) m.Bad (λ h.
    let some = ltb-true 0 n h in ((fine, small, λ z. absurd (omega arith)), e)) (λ h. tt)

starred_leads : (now : List Token) (g : Draft) (minus : Bool) (n : ℕ) → IsDraft g → n < 2 ^ 127
    → said_draft g ++ sign_text (is_first g.sum.pairs) minus ++ t.Number n ∷ t.Times ∷ [] ≡ now → Leads now (starred g minus n)
starred_leads now g minus n fine small e = by_test now (nat_lt 1 n && nat_lt g.least (2 ^ 32)) (m.On (s.Times g minus n)) m.Bad (λ h.
    let q = both_true (nat_lt 1 n) (nat_lt g.least (2 ^ 32)) h in
    ((fine, small, ltb-true 1 n q.0, ltb-true g.least (2 ^ 32) q.1), e)) (λ h. tt)

-- after the literals of a clause
and_leads : (now : List Token) (d : List (List Literal)) (c : List Literal) → AreClauses d → AreSaidLiterals c → clause_said d c ++ t.Blank ∷ t.And ∷ [] ≡ now → Leads now (and_then d c)
and_leads now d [] p q e = tt
and_leads now d (x ∷ xs) p q e = (
  (opened_fine d (x ∷ xs) None p q tt, refl),
  opened_said d (x ∷ xs) None ∙ append-nil _ ∙ ap (λ w. t.Gives ∷ before clause_text t.Or d ++ w) (before_all literal_text t.And x xs) ∙ (simp append_assoc) ∙ e,
)

or_leads : (now : List Token) (d : List (List Literal)) (c : List Literal) → AreClauses d → AreSaidLiterals c → clause_said d c ++ t.Blank ∷ t.Or ∷ [] ≡ now → Leads now (or_then d c)
or_leads now d c p q e = (
  (opened_fine (d ++ c ∷ []) [] None (all_more AreSaidLiterals d c p q) tt tt, refl),
  opened_said (d ++ c ∷ []) [] None ∙ append-nil _ ∙ append-nil _ ∙ ap (λ w. t.Gives ∷ w) (before_more clause_text t.Or d c) ∙ (simp append_assoc) ∙ e,
)

ended_leads : (now : List Token) (d : List (List Literal)) (c : List Literal) → AreClauses d → AreSaidLiterals c → clause_said d c ++ t.LineFeed ∷ [] ≡ now → Leads now (ended d c)
ended_leads now d c p q e = (all_more AreSaidLiterals d c p q, ap (λ w. t.Gives ∷ w ++ t.LineFeed ∷ []) (dnf_more d c) ∙ e)

-- after a whole sum
fits_by : (n : ℤ) (negated : Bool) (sum : Linear) → IsSaidDivisor n → IsNormal sum → IsSaid (divided (record { size = n; negated = negated }) sum)
fits_by n true sum p q = (p, q)
fits_by n false sum p q = (p, q)

divided_fits : (v : Divisor) (sum : Linear) → IsSaidDivisor v.size → IsNormal sum → IsSaid (divided v sum)
divided_fits v sum p q = fits_by v.size v.negated sum p q

regrouped : (a b c d e : List Token) → (a ++ (b ++ (c ++ d))) ++ e ≡ (((a ++ b) ++ c) ++ d) ++ e
regrouped a b c d e = simp append_assoc

literal_leads : (now rest : List Token) (then : List (List Literal) → List Literal → GivenMove)
    → ((d : List (List Literal)) (c : List Literal) → AreClauses d → AreSaidLiterals c → clause_said d c ++ rest ≡ now → Leads now (then d c))
    → (v : Option Divisor) (g : Draft) (k : ℤ) → g.divisor ≡ v → IsDraft g → unsigned_abs k < 2 ^ 127 → sum_said g k ++ rest ≡ now → Leads now (ends_literal then v g k)
literal_leads now rest then f None g k is fine small e = tt
literal_leads now rest then f (Some v) g k is fine small e =
    let sum : IsNormal (sum_of g k) = normal_sum g.sum.pairs k fine.pairs small in
    let divisor : IsSaidDivisor v.size = subst HasDivisor is fine.divisor in
    f g.clauses (g.literals ++ divided v (sum_of g k) ∷ []) fine.clauses (all_more IsSaid g.literals (divided v (sum_of g k)) fine.literals (divided_fits v (sum_of g k) divisor sum))
    (ap (λ w. t.Gives ∷ (before clause_text t.Or g.clauses ++ w) ++ rest) (clause_more g.literals (divided v (sum_of g k)) ∙ ap (λ w. before literal_text t.And g.literals ++ w) (divided_is v (sum_of g k) ∙ ap (λ w. divisor_text w ++ sum_text (sum_of g k)) (sym is)))
    ∙ ap (λ w. t.Gives ∷ w) (regrouped (before clause_text t.Or g.clauses) (before literal_text t.And g.literals) (divisor_text g.divisor) (sum_text (sum_of g k)) rest) ∙ e)

relation_leads : (now : List Token) (bound : Bool) (v : Option Divisor) (g : Draft) (k : ℤ) → g.divisor ≡ v → IsDraft g → unsigned_abs k < 2 ^ 127
    → sum_said g k ++ relation_text bound ≡ now → Leads now (relation bound v g k)
relation_leads now bound (Some v) g k is fine small e = tt
relation_leads now bound None g k is fine small e = (
  (fine.clauses, fine.literals, normal_sum g.sum.pairs k fine.pairs small),
  ap (λ w. (w ++ sum_text (sum_of g k)) ++ relation_text bound) (sym (append-nil (said_before g.clauses g.literals)))
      ∙ ap (λ w. (said_before g.clauses g.literals ++ divisor_text w ++ sum_text (sum_of g k)) ++ relation_text bound) (sym is) ∙ e,
)

follows_leads : (before_it : List Token) (g : Draft) (k : ℤ) (x : Token) → IsDraft g → unsigned_abs k < 2 ^ 127 → sum_said g k ≡ before_it → Leads ((before_it ++ t.Blank ∷ []) ++ x ∷ []) (follows g k x)
follows_leads w g k t.Equal fine small e = relation_leads _ false g.divisor g k refl fine small (ap (λ z. z ++ relation_text false) e ∙ sym (append_assoc w (t.Blank ∷ []) (t.Equal ∷ [])))
follows_leads w g k t.AtLeast fine small e = relation_leads _ true g.divisor g k refl fine small (ap (λ z. z ++ relation_text true) e ∙ sym (append_assoc w (t.Blank ∷ []) (t.AtLeast ∷ [])))
follows_leads w g k t.And fine small e = literal_leads _ (t.Blank ∷ t.And ∷ []) and_then (and_leads _) g.divisor g k refl fine small (ap (λ z. z ++ t.Blank ∷ t.And ∷ []) e ∙ sym (append_assoc w (t.Blank ∷ []) (t.And ∷ [])))
follows_leads w g k t.Or fine small e = literal_leads _ (t.Blank ∷ t.Or ∷ []) or_then (or_leads _) g.divisor g k refl fine small (ap (λ z. z ++ t.Blank ∷ t.Or ∷ []) e ∙ sym (append_assoc w (t.Blank ∷ []) (t.Or ∷ [])))
follows_leads w g k _ fine small e = tt

-- the sum so far, and 0
pub sum_whole : (g : Draft) → is_first g.sum.pairs ≡ false → sum_said g (pos 0) ≡ said_draft g
sum_whole g h = ap (λ w. said_before g.clauses g.literals ++ divisor_text g.divisor ++ (pairs_text true g.sum.pairs ++ w)) (zero_constant g.sum.pairs h) ∙ ap (λ w. said_before g.clauses g.literals ++ divisor_text g.divisor ++ w) (append-nil (pairs_text true g.sum.pairs))

-- the sum with its constant
pub sum_counted : (g : Draft) (minus : Bool) (n : ℕ) → ((n ≡ 0) → (is_first g.sum.pairs ≡ true) × (minus ≡ false)) → sum_said g (signed minus n) ≡ said_draft g ++ sign_text (is_first g.sum.pairs) minus ++ t.Number n ∷ []
sum_counted g minus n h = ap (λ w. said_before g.clauses g.literals ++ divisor_text g.divisor ++ (pairs_text true g.sum.pairs ++ w)) (constant_is g.sum.pairs minus n h) ∙ (simp append_assoc)

small_sign : (minus : Bool) (n : ℕ) → n < 2 ^ 127 → unsigned_abs (signed minus n) < 2 ^ 127
small_sign minus n h = subst (λ k. k < 2 ^ 127) (sym (size_of minus n)) h

false_leads : (d : List (List Literal)) (c : List Literal) (v : Option Divisor) (ps : List (ℕ × ℤ)) → ps ≡ []
    → Leads (((said_before d c ++ divisor_text v ++ pairs_text true ps) ++ t.Blank ∷ []) ++ t.False ∷ []) (false_then d c v)
false_leads [] [] None ps e = (tt, ap (λ z. (((said_before [] [] ++ divisor_text None ++ pairs_text true z) ++ t.Blank ∷ []) ++ t.False ∷ [])) (sym e))
false_leads [] [] (Some v) ps e = tt
false_leads [] (x ∷ xs) v ps e = tt
false_leads (x ∷ xs) c v ps e = tt

true_leads : (d : List (List Literal)) (c : List Literal) (v : Option Divisor) (ps : List (ℕ × ℤ)) → ps ≡ [] → AreClauses d
    → Leads (((said_before d c ++ divisor_text v ++ pairs_text true ps) ++ t.Blank ∷ []) ++ t.True ∷ []) (true_then d c v)
true_leads d [] None ps e p = ((p, tt), (simp (append_assoc, append-nil)) ∙ ap (λ z. (((said_before d [] ++ divisor_text None ++ pairs_text true z) ++ t.Blank ∷ []) ++ t.True ∷ [])) (sym e))
true_leads d [] (Some v) ps e p = tt
true_leads d (x ∷ xs) v ps e p = tt

above_one : (n : ℕ) → 1 < n → pos 1 <ℤ pos n
above_one n h = omega (arith, ints)

divides_leads : (negated : Bool) (v : Option Divisor) (ps : List (ℕ × ℤ)) (minus : Bool) (g : Draft) (n : ℕ) → g.divisor ≡ v → g.sum.pairs ≡ ps → IsDraft g → n < 2 ^ 127
    → Leads (((said_draft g ++ sign_text (is_first g.sum.pairs) minus ++ t.Number n ∷ []) ++ t.Blank ∷ []) ++ cond negated t.NotDivides t.Divides ∷ []) (divides_then negated v ps minus g n)
divides_leads negated None [] false g n is none fine small = by_test _ (nat_lt 1 n) (m.On (s.Behind (b.Start (opened g.clauses g.literals (Some (record { size = pos n; negated = negated })))))) m.Bad (λ h.
    let v : Option Divisor = Some (record { size = pos n; negated = negated }) in (
      (opened_fine g.clauses g.literals v fine.clauses fine.literals (above_one n (ltb-true 1 n h), small), refl),
      opened_said g.clauses g.literals v
          ∙ ap (λ w. w ++ divisor_text v) (sym (append-nil (said_before g.clauses g.literals)) ∙ sym (append-nil (said_before g.clauses g.literals ++ [])))
          ∙ ap (λ w. (said_before g.clauses g.literals ++ divisor_text w ++ pairs_text true []) ++ divisor_text v) (sym is)
          ∙ ap (λ w. (said_before g.clauses g.literals ++ divisor_text g.divisor ++ pairs_text true w) ++ divisor_text v) (sym none)
          ∙ (simp append_assoc)
          ∙ ap (λ w. ((said_draft g ++ sign_text (is_first w) false ++ t.Number n ∷ []) ++ t.Blank ∷ []) ++ cond negated t.NotDivides t.Divides ∷ []) (sym none),
    )) (λ h. tt)
divides_leads negated None [] true g n is none fine small = tt
divides_leads negated None (p ∷ ps) minus g n is none fine small = tt
divides_leads negated (Some v) ps minus g n is none fine small = tt

compared_is : (bound : Bool) (sum : Linear) → literal_text (compared bound sum) ≡ sum_text sum ++ relation_text bound ++ zero_text
compared_is true sum = refl
compared_is false sum = refl

compared_fits : (bound : Bool) (sum : Linear) → IsNormal sum → IsSaid (compared bound sum)
compared_fits true sum h = h
compared_fits false sum h = h

regrouped_zero : (a c u r : List Token) → a ++ (c ++ (u ++ r ++ zero_text)) ≡ (((a ++ c) ++ u ++ r) ++ t.Blank ∷ []) ++ t.Number 0 ∷ []
regrouped_zero a c u r = simp append_assoc

relation_zero : (d : List (List Literal)) (c : List Literal) (sum : Linear) (bound : Bool) (n : ℕ) → AreClauses d → AreSaidLiterals c → IsNormal sum
    → Leads (((said_before d c ++ sum_text sum ++ relation_text bound) ++ t.Blank ∷ []) ++ t.Number n ∷ []) (cond (nat_eq n 0) (m.On (s.Behind (b.Clause d (c ++ compared bound sum ∷ [])))) m.Bad)
relation_zero d c sum bound n p q r = by_test _ (nat_eq n 0) (m.On (s.Behind (b.Clause d (c ++ compared bound sum ∷ [])))) m.Bad (λ h.
    let zero_is : n ≡ 0 = grind (arith, nat_tests) in (
      (p, all_more IsSaid c (compared bound sum) q (compared_fits bound sum r)),
      ap (λ w. t.Gives ∷ before clause_text t.Or d ++ w) (clause_more c (compared bound sum) ∙ ap (λ w. before literal_text t.And c ++ w) (compared_is bound sum))
          ∙ ap (λ w. t.Gives ∷ w) (regrouped_zero (before clause_text t.Or d) (before literal_text t.And c) (sum_text sum) (relation_text bound)) ∙ ap (λ z. ((said_before d c ++ sum_text sum ++ relation_text bound) ++ t.Blank ∷ []) ++ t.Number z ∷ []) (sym zero_is),
    )) (λ h. tt)

-- the first sign, and a later one
first_sign : (g : Draft) (minus : Bool) (xs : List Token) → g.sum.pairs ≡ [] → said_draft g ++ sign_text (is_first g.sum.pairs) minus ++ xs ≡ said_draft g ++ sign_text true minus ++ xs
first_sign g minus xs e = ap (λ w. said_draft g ++ sign_text (is_first w) minus ++ xs) e

later_sign : (g : Draft) (minus : Bool) (xs : List Token) → is_first g.sum.pairs ≡ false
    → said_draft g ++ sign_text (is_first g.sum.pairs) minus ++ xs ≡ ((said_draft g ++ t.Blank ∷ cond minus t.Minus t.Plus ∷ []) ++ t.Blank ∷ []) ++ xs
later_sign g minus xs e = ap (λ w. said_draft g ++ sign_text w minus ++ xs) e ∙ (simp append_assoc)

word_leads : (w : Behind) (x : Token) → IsRangedToken x → IsFineBehind w → Leads ((said_behind w ++ t.Blank ∷ []) ++ x ∷ []) (word w x)
word_leads (b.Start g) t.False r f = false_leads g.clauses g.literals g.divisor g.sum.pairs f.1
word_leads (b.Start g) t.True r f = true_leads g.clauses g.literals g.divisor g.sum.pairs f.1 f.0.clauses
word_leads (b.Start g) t.Minus r f = (f, sym (append_assoc (said_draft g) (t.Blank ∷ []) (t.Minus ∷ [])))
word_leads (b.Start g) (t.Number n) r f = ((f.0, r, λ z. (ap is_first f.1, refl)), first_sign g false (t.Number n ∷ []) f.1)
word_leads (b.Start g) (t.Name x) r f = named_leads _ g false 1 x f.0 (omega arith) (lit< tt) r (first_sign g false (t.Name x ∷ []) f.1)
word_leads (b.Sum g) t.Plus r f = (f, sym (append_assoc (said_draft g) (t.Blank ∷ []) (t.Plus ∷ [])))
word_leads (b.Sum g) t.Minus r f = (f, sym (append_assoc (said_draft g) (t.Blank ∷ []) (t.Minus ∷ [])))
word_leads (b.Sum g) x r f = follows_leads (said_draft g) g (pos 0) x f.0 (lit< tt) (sum_whole g f.1)
word_leads (b.Sign g minus) (t.Number n) r f = counted_leads _ g minus n f.0 r (later_sign g minus (t.Number n ∷ []) f.1)
word_leads (b.Sign g minus) (t.Name x) r f = named_leads _ g minus 1 x f.0 (omega arith) (lit< tt) r (later_sign g minus (t.Name x ∷ []) f.1)
word_leads (b.Number g minus n) t.Divides r f = divides_leads false g.divisor g.sum.pairs minus g n refl refl f.0 f.1
word_leads (b.Number g minus n) t.NotDivides r f = divides_leads true g.divisor g.sum.pairs minus g n refl refl f.0 f.1
word_leads (b.Number g minus n) x r f = follows_leads (said_behind (b.Number g minus n)) g (signed minus n) x f.0 (small_sign minus n f.1) (sum_counted g minus n f.2)
word_leads (b.Relation d c sum bound) (t.Number n) r f = relation_zero d c sum bound n f.0 f.1 f.2
word_leads (b.Clause d c) t.And r f = and_leads _ d c f.0 f.1 (sym (append_assoc (clause_said d c) (t.Blank ∷ []) (t.And ∷ [])))
word_leads (b.Clause d c) t.Or r f = or_leads _ d c f.0 f.1 (sym (append_assoc (clause_said d c) (t.Blank ∷ []) (t.Or ∷ [])))
word_leads _ _ r f = tt

line_end_leads : (w : Behind) → IsFineBehind w → Leads (said_behind w ++ t.LineFeed ∷ []) (line_end w)
line_end_leads (b.Sum g) f = literal_leads _ (t.LineFeed ∷ []) ended (ended_leads _) g.divisor g (pos 0) refl f.0 (lit< tt) (ap (λ w. w ++ t.LineFeed ∷ []) (sum_whole g f.1))
line_end_leads (b.Number g minus n) f = literal_leads _ (t.LineFeed ∷ []) ended (ended_leads _) g.divisor g (signed minus n) refl f.0 (small_sign minus n f.1) (ap (λ w. w ++ t.LineFeed ∷ []) (sum_counted g minus n f.2))
line_end_leads (b.Clause d c) f = ended_leads _ d c f.0 f.1 refl
line_end_leads b.False f = (tt, refl)
line_end_leads (b.Start g) f = tt
line_end_leads (b.Sign g minus) f = tt
line_end_leads (b.Relation d c sum bound) f = tt

blank_leads : (w : Behind) → IsFineBehind w → Leads (said_behind w ++ t.Blank ∷ []) (blank w)
blank_leads (b.Start g) f = ((f, λ e. absurd (cc)), refl)
blank_leads (b.Sum g) f = ((f, λ e. absurd (cc)), refl)
blank_leads (b.Sign g minus) f = ((f, λ e. absurd (cc)), refl)
blank_leads (b.Number g minus n) f = ((f, λ e. absurd (cc)), refl)
blank_leads (b.Relation d c sum bound) f = ((f, λ e. absurd (cc)), refl)
blank_leads (b.Clause d c) f = ((f, λ e. absurd (cc)), refl)
blank_leads b.False f = tt

times_leads : (w : Behind) → IsFineBehind w → Leads (said_behind w ++ t.Times ∷ []) (times w)
times_leads (b.Number g minus n) f = starred_leads _ g minus n f.0 f.1 (simp append_assoc)
times_leads (b.Start g) f = tt
times_leads (b.Sum g) f = tt
times_leads (b.Sign g minus) f = tt
times_leads (b.Relation d c sum bound) f = tt
times_leads (b.Clause d c) f = tt
times_leads b.False f = tt

behind_leads : (w : Behind) (x : Token) → IsFineBehind w → Leads (said_behind w ++ x ∷ []) (behind_word w x)
behind_leads w t.Blank f = blank_leads w f
behind_leads w t.LineFeed f = line_end_leads w f
behind_leads w t.Times f = times_leads w f
behind_leads w _ f = tt

minus_leads : (g : Draft) (x : Token) → IsRangedToken x → IsDraft g → g.sum.pairs ≡ [] → Leads ((said_draft g ++ t.Blank ∷ t.Minus ∷ []) ++ x ∷ []) (in_word_minus g x)
minus_leads g (t.Number n) r f e = counted_leads _ g true n f r (first_sign g true (t.Number n ∷ []) e)
minus_leads g (t.Name x) r f e = named_leads _ g true 1 x f (omega arith) (lit< tt) r (first_sign g true (t.Name x ∷ []) e)
minus_leads g _ r f e = tt

factor_is : (n x : ℕ) → 1 < n → factor_text n x ≡ t.Number n ∷ t.Times ∷ t.Name x ∷ []
factor_is n x h = let e : nat_eq n 1 ≡ false = grind (arith, nat_tests) in ap (λ q. cond q (t.Name x ∷ []) (t.Number n ∷ t.Times ∷ t.Name x ∷ [])) e

times_name : (g : Draft) (minus : Bool) (n : ℕ) (x : Token) → IsRangedToken x → IsFine (s.Times g minus n) → Leads (said (s.Times g minus n) ++ x ∷ []) (in_word_times g minus n x)
times_name g minus n (t.Name x) r f = named_leads _ g minus n x f.0 (let h = f.2 in omega arith) f.1 r
    (ap (λ w. said_draft g ++ sign_text (is_first g.sum.pairs) minus ++ w) (factor_is n x f.2) ∙ (simp append_assoc))
times_name g minus n _ r f = tt

-- each move leads on by its token
pub leads : (z : GivenState) (x : Token) → IsRangedToken x → IsFine z → Leads (said z ++ x ∷ []) (moves z x)
unfolding moves
leads (s.Behind w) x r f = behind_leads w x f
leads (s.Blank w) x r f = word_leads w x r f.0
leads (s.Minus g) x r f = minus_leads g x r f.0 f.1
leads (s.Times g minus n) x r f = times_name g minus n x r f
