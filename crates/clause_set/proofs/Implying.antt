-- A literal follows from a clause where it follows from one of its literals.
use Rattle.std.proofs.Common.{◌≡◌, ◌+◌, ◌<◌, ◌≤◌, ◌≤ℤ◌, Bool, true, false, ◌||◌, int_lt, List, [], ◌∷◌, ◌++◌, length, refl, sym, ◌∙◌, ap, subst, arith}
use Rattle.std.specs.Cmp.{first_so, second_so}
use Rattle.std.proofs.lemmas.Int.{ints}
use Rattle.std.specs.List.{list_any}
use Rattle.std.proofs.lemmas.List.Folds.{list_any-append}
use Rattle.std.proofs.lemmas.List.{length-append}
use Rattle.clause_set.specs.declared.literal.Literal.{Literal}
use Rattle.clause_set.specs.declared.literal.Literal.TheVariants.{Eq, Geq, Div, NDiv}
use Rattle.linear_term.specs.Linear.{Linear}
use Rattle.clause_set.specs.Clause.{IsClause}
use Rattle.clause_set.specs.Clauses.{same_pairs, slack}
use Rattle.clause_set.specs.Dnfs.{is_implied, is_within}
use Rattle.clause_set.specs.Implying.{implies, is_looser, refutes}
use Rattle.clause_set.proofs.Across.{among_left, among_right}
use Rattle.clause_set.proofs.ClauseTruth.{AtMost}
use Rattle.clause_set.proofs.Intervals.{clause-intervals, own_least}
use Rattle.clause_set.proofs.Orders.{same_pairs-equal}
use Rattle.clause_set.proofs.Covers.{Among, any_from, by_no, within_some, implied_bound, implied_equation, implied_div, implied_ndiv}
use Rattle.clause_set.proofs.Slack.{any-within}

-- ---- backwards over a list
-- the items after those that are left fail the test
pub record FailsBehind {X : Type 0} (test : X → Bool) (xs left : List X) : Type 0 where
  pub rest : list_any test left ≡ list_any test xs
  pub within : length left ≤ length xs

pub fails_behind_none : {X : Type 0} (test : X → Bool) (xs : List X) → FailsBehind test xs xs
fails_behind_none test xs = record { rest = refl; within = omega arith }

or_false : (a : Bool) → (a || (false || false)) ≡ a
or_false true = refl
or_false false = refl

or_true : (a : Bool) → (a || (true || false)) ≡ true
or_true true = refl
or_true false = refl

any_last : {X : Type 0} (test : X → Bool) (left before : List X) (x : X) → left ≡ before ++ x ∷ [] → list_any test left ≡ (list_any test before || (test x || false))
any_last test left before x e = ap (list_any test) e ∙ list_any-append test before (x ∷ [])

length_last : {X : Type 0} (left before : List X) (x : X) → left ≡ before ++ x ∷ [] → length left ≡ length before + 1
length_last left before x e = ap length e ∙ length-append before (x ∷ [])

pub fails_behind_more : {X : Type 0} (test : X → Bool) (xs left before : List X) (x : X) → left ≡ before ++ x ∷ [] → test x ≡ false → FailsBehind test xs left → FailsBehind test xs before
fails_behind_more test xs left before x e fails h = record {
  rest = sym (any_last test left before x e ∙ ap (λ b. list_any test before || (b || false)) fails ∙ or_false (list_any test before)) ∙ h.rest;
  within = omega (arith, h.within, length_last left before x e);
}

pub passes_behind : {X : Type 0} (test : X → Bool) (xs left before : List X) (x : X) → left ≡ before ++ x ∷ [] → test x ≡ true → FailsBehind test xs left → list_any test xs ≡ true
passes_behind test xs left before x e passes h =
    sym h.rest ∙ any_last test left before x e ∙ ap (λ b. list_any test before || (b || false)) passes ∙ or_true (list_any test before)

pub place_behind : {X : Type 0} (test : X → Bool) (xs left before : List X) (x : X) → left ≡ before ++ x ∷ [] → FailsBehind test xs left → length before < length xs
place_behind test xs left before x e h = omega (arith, h.within, length_last left before x e)

pub fails_behind_all : {X : Type 0} (test : X → Bool) (xs left : List X) → left ≡ [] → FailsBehind test xs left → list_any test xs ≡ false
fails_behind_all test xs left e h = sym h.rest ∙ ap (list_any test) e

pub ruleset backwards = (fails_behind_none, fails_behind_more, passes_behind, place_behind, fails_behind_all)

-- ---- a clause in two parts
implied-any : (c : List Literal) (l : Literal) → is_implied c l ≡ list_any (implies l) c
implied-any c (Geq t) = implied_bound c t ∙ sym (any-within c t.pairs t.constant)
implied-any c (Eq t) = implied_equation c t
implied-any c (Div d t) = implied_div c d t
implied-any c (NDiv d t) = implied_ndiv c d t

left_true : (p q : Bool) → p ≡ true → (p || q) ≡ true
left_true true q h = refl
left_true false q h = absurd cc

right_true : (p q : Bool) → q ≡ true → (p || q) ≡ true
right_true true q h = refl
right_true false q h = h

both_false : (p q : Bool) → p ≡ false → q ≡ false → (p || q) ≡ false
both_false true q h k = absurd cc
both_false false q h k = k

in_parts : (c near others : List Literal) (l : Literal) → c ≡ near ++ others → is_implied c l ≡ (list_any (implies l) near || list_any (implies l) others)
in_parts c near others l e = implied-any c l ∙ ap (list_any (implies l)) e ∙ list_any-append (implies l) near others

pub implied_near : (c near others : List Literal) (l : Literal) → c ≡ near ++ others → list_any (implies l) near ≡ true → is_implied c l ≡ true
implied_near c near others l e h = in_parts c near others l e ∙ left_true (list_any (implies l) near) (list_any (implies l) others) h

pub implied_other : (c near others : List Literal) (l : Literal) → c ≡ near ++ others → list_any (implies l) others ≡ true → is_implied c l ≡ true
implied_other c near others l e h = in_parts c near others l e ∙ right_true (list_any (implies l) near) (list_any (implies l) others) h

pub implied_nowhere : (c near others : List Literal) (l : Literal) → c ≡ near ++ others → list_any (implies l) near ≡ false → list_any (implies l) others ≡ false → is_implied c l ≡ false
implied_nowhere c near others l e h k = in_parts c near others l e ∙ both_false (list_any (implies l) near) (list_any (implies l) others) h k

-- a bound of the same form that is not as tight
looser_than : (c : List Literal) (t : Linear) (m : Literal) → IsClause c → Among m c → is_looser t m ≡ true → is_implied c (Geq t) ≡ false
looser_than c t (Eq s) h a x = absurd cc
looser_than c t (Geq s) h a x =
    let same : s.pairs ≡ t.pairs = same_pairs-equal s.pairs t.pairs (first_so (same_pairs s.pairs t.pairs) (int_lt t.constant s.constant) x) in
    let less : int_lt t.constant s.constant ≡ true = second_so (same_pairs s.pairs t.pairs) (int_lt t.constant s.constant) x in
    implied_bound c t
    ∙ by_no (is_within (slack c t.pairs) t.constant)
    (λ y. let low : s.constant ≤ℤ t.constant = within_some (s.constant ≤ℤ t.constant) (slack c t.pairs) t.constant y
    (λ j e le. let own : s.constant ≤ℤ j = own_least c s j (clause-intervals c h) a (subst (λ p. AtMost (slack c p) j) (sym same) (subst (λ o. AtMost o j) (sym e) (omega (arith, ints)))) in
    omega (arith, ints, own, le)) in
    above low less)
  where
    above : s.constant ≤ℤ t.constant → int_lt t.constant s.constant ≡ true → ⊥
    above low less = grind (arith, ints)
looser_than c t (Div d s) h a x = absurd cc
looser_than c t (NDiv d s) h a x = absurd cc

refuted : (c : List Literal) (l m : Literal) → IsClause c → Among m c → refutes l m ≡ true → is_implied c l ≡ false
refuted c (Geq t) m h a x = looser_than c t m h a x
refuted c (Eq t) m h a x = absurd cc
refuted c (Div d t) m h a x = absurd cc
refuted c (NDiv d t) m h a x = absurd cc

pub refuted_near : (c near others : List Literal) (l : Literal) → IsClause c → c ≡ near ++ others → list_any (refutes l) near ≡ true → is_implied c l ≡ false
refuted_near c near others l h e x =
    let w = any_from (refutes l) near x in
    refuted c l w.element h (subst (Among w.element) (sym e) (among_left w.element near others w.among)) w.passes

pub refuted_other : (c near others : List Literal) (l : Literal) → IsClause c → c ≡ near ++ others → list_any (refutes l) others ≡ true → is_implied c l ≡ false
refuted_other c near others l h e x =
    let w = any_from (refutes l) others x in
    refuted c l w.element h (subst (Among w.element) (sym e) (among_right w.element near others w.among)) w.passes

pub parts_length : (c near others : List Literal) → c ≡ near ++ others → length c ≡ length near + length others
parts_length c near others e = ap length e ∙ length-append near others

pub ruleset halves = (implied_near, implied_other, implied_nowhere, refuted_near, refuted_other, parts_length)
