-- Stamps that are set, and stamps that none has.
use Rattle.std.proofs.Common.{◌≡◌, ◌≢◌, ℕ, zero, suc, ◌<◌, ◌++◌, Bool, true, false, not, ◌&&◌, ◌||◌, cond, nat_eq, List, [], ◌∷◌, length, All, Option, Some, None, slice_set, refl, sym, ap, ◌∙◌, arith}
use Rattle.std.specs.Borrow.{Bor}
use Rattle.std.specs.List.{slice_get}
use Rattle.std.specs.Option.{option_copied}
use Rattle.std.proofs.lemmas.Bool.Decides.{nat_tests}
use Rattle.std.proofs.lemmas.List.Elements.{recursion_from_All}
use Rattle.std.specs.List.{AllByRecursion}
use Rattle.clause_proof.specs.declared.line.Literal.{Literal}
use Rattle.clause_proof.specs.Lines.{is_literal, same_sign}
use Rattle.clause_marks.specs.Marked.{has_stamp, is_marked, HasSameStamps, HasStampAt}

equal_yes : (a b : ℕ) → a ≡ b → nat_eq a b ≡ true
equal_yes a b h = grind (arith, nat_tests)

equal_not : (a b : ℕ) → a ≢ b → nat_eq a b ≡ false
equal_not a b h = grind (arith, nat_tests)

-- ---- a stamp is read
pub stamp_none : (table : List ℕ) (i s : ℕ) (o : Option (Bor ℕ)) → option_copied o ≡ slice_get table i → o ≡ None → false ≡ has_stamp s (slice_get table i)
stamp_none table i s o is at = ap (has_stamp s) (sym (ap option_copied at) ∙ is)

pub stamp_some : (table : List ℕ) (i s : ℕ) (o : Option (Bor ℕ)) (k : Bor ℕ) (b : Bool) → option_copied o ≡ slice_get table i → o ≡ Some k → b ≡ nat_eq k.now s → b ≡ has_stamp s (slice_get table i)
stamp_some table i s o k b is at h = h ∙ ap (has_stamp s) (sym (ap option_copied at) ∙ is)

pub ruleset reads = (stamp_none, stamp_some)

-- ---- no stamp
absent : (ks : List ℕ) (s i : ℕ) → AllByRecursion (λ k. k < s) ks → has_stamp s (slice_get ks i) ≡ false
absent [] s i h = refl
absent (k ∷ ks) s zero h = equal_not k s (λ is. absurd (let lt : k < s = h.0 in omega (arith, lt, is)))
absent (k ∷ ks) s (suc i) h = absent ks s i h.1

signed_absent : (b : Bool) (s i : ℕ) (ps ns : List ℕ) → All (λ k. k < s) ps → All (λ k. k < s) ns → has_stamp s (slice_get (cond b ps ns) i) ≡ false
signed_absent true s i ps ns p n = absent ps s i (recursion_from_All (λ k. k < s) ps p)
signed_absent false s i ps ns p n = absent ns s i (recursion_from_All (λ k. k < s) ns n)

pub none_marked : (s : ℕ) (ps ns : List ℕ) (l : Literal) → All (λ k. k < s) ps → All (λ k. k < s) ns → is_marked s ps ns l ≡ false
none_marked s ps ns l p n = signed_absent l.positive s l.variable ps ns p n

empty_table : (b : Bool) (s i : ℕ) → has_stamp s (slice_get (cond b [] []) i) ≡ false
empty_table true s i = refl
empty_table false s i = refl

pub none_yet : (s : ℕ) (ps ns : List ℕ) (l : Literal) → ps ≡ [] → ns ≡ [] → is_marked s ps ns l ≡ false
none_yet s ps ns l p n = (λ i. has_stamp s (slice_get (cond l.positive (p i) (n i)) l.variable)) ∙ empty_table l.positive s l.variable

pub ruleset starts = (none_yet)

pub ruleset clears = (none_marked)

-- ---- a table grows
still_absent : (ks : List ℕ) (s i : ℕ) → 0 < s → has_stamp s (slice_get (ks ++ 0 ∷ []) i) ≡ has_stamp s (slice_get ks i)
still_absent [] s zero lt = equal_not 0 s (λ is. absurd (omega (arith, lt, is)))
still_absent [] s (suc i) lt = refl
still_absent (k ∷ ks) s zero lt = refl
still_absent (k ∷ ks) s (suc i) lt = still_absent ks s i lt

pub same_stamps : (s : ℕ) (ks js : List ℕ) → js ≡ ks → HasSameStamps s ks js
same_stamps s ks js is = record { same = λ i. ap (λ l. has_stamp s (slice_get l i)) is }

pub same_push : (s : ℕ) (ks js ls : List ℕ) → 0 < s → ls ≡ js ++ 0 ∷ [] → HasSameStamps s ks js → HasSameStamps s ks ls
same_push s ks js ls lt is h = record { same = λ i. ap (λ l. has_stamp s (slice_get l i)) is ∙ still_absent js s i lt ∙ h.same i }

pub ruleset grows = (same_stamps, same_push)

-- ---- a literal is looked up
pub marked_positive : (s : ℕ) (ps ns : List ℕ) (l : Literal) (b : Bool) → l.positive ≡ true → b ≡ has_stamp s (slice_get ps l.variable) → b ≡ is_marked s ps ns l
marked_positive s ps ns l b sign h = h ∙ sym (ap (λ c. has_stamp s (slice_get (cond c ps ns) l.variable)) sign)

pub marked_negative : (s : ℕ) (ps ns : List ℕ) (l : Literal) (b : Bool) → l.positive ≡ false → b ≡ has_stamp s (slice_get ns l.variable) → b ≡ is_marked s ps ns l
marked_negative s ps ns l b sign h = h ∙ sym (ap (λ c. has_stamp s (slice_get (cond c ps ns) l.variable)) sign)

pub ruleset contains = (marked_positive, marked_negative)

-- ---- a literal is taken in
or_true : (a b : Bool) → b ≡ true → true ≡ (a || b)
or_true true b h = refl
or_true false b h = sym h

or_false : (a b : Bool) → b ≡ false → a ≡ (a || b)
or_false true b h = refl
or_false false b h = sym h

stamp_set : (ks : List ℕ) (s v j : ℕ) → v < length ks → has_stamp s (slice_get (slice_set ks v s) j) ≡ (has_stamp s (slice_get ks j) || nat_eq j v)
stamp_set [] s v j lt = absurd (omega (arith, lt))
stamp_set (k ∷ ks) s zero zero lt = equal_yes s s refl ∙ or_true (nat_eq k s) (nat_eq zero zero) (equal_yes zero zero refl)
stamp_set (k ∷ ks) s zero (suc j) lt = or_false (has_stamp s (slice_get ks j)) (nat_eq (suc j) zero) (equal_not (suc j) zero (omega arith))
stamp_set (k ∷ ks) s (suc v) zero lt = or_false (nat_eq k s) (nat_eq zero (suc v)) (equal_not zero (suc v) (omega arith))
stamp_set (k ∷ ks) s (suc v) (suc j) lt = stamp_set ks s v j (omega (arith, lt)) ∙ ap (λ b. has_stamp s (slice_get ks j) || b) (grind (arith, nat_tests))

pub stamped : (s v : ℕ) (ks js ls : List ℕ) → HasSameStamps s ks js → v < length js → ls ≡ slice_set js v s → HasStampAt s v ks ls
stamped s v ks js ls h lt is = record { set = λ j. ap (λ l. has_stamp s (slice_get l j)) is ∙ stamp_set js s v j lt ∙ ap (λ b. b || nat_eq j v) (h.same j) }

pub ruleset stamps = (stamped)

and_so : (a b c : Bool) → b ≡ c → (a && b) ≡ (a && c)
and_so a b c h = ap (λ x. a && x) h

and_true : (a b : Bool) → b ≡ true → (a && b) ≡ a
and_true true b h = h
and_true false b h = refl

and_false : (a b : Bool) → b ≡ false → (a && b) ≡ false
and_false true b h = h
and_false false b h = refl

signs_true : (a b : Bool) → b ≡ true → same_sign a b ≡ a
signs_true true b h = h
signs_true false b h = ap not h

signs_false : (a b : Bool) → b ≡ false → same_sign a b ≡ not a
signs_false true b h = h
signs_false false b h = ap not h

positive_set : (a : Bool) (s v j : ℕ) (ps qs ns : List ℕ) → HasStampAt s v ps qs
    → has_stamp s (slice_get (cond a qs ns) j) ≡ (has_stamp s (slice_get (cond a ps ns) j) || (nat_eq j v && a))
positive_set true s v j ps qs ns h = h.set j ∙ ap (λ b. has_stamp s (slice_get ps j) || b) (sym (and_true (nat_eq j v) true refl))
positive_set false s v j ps qs ns h = or_false (has_stamp s (slice_get ns j)) (nat_eq j v && false) (and_false (nat_eq j v) false refl)

negative_set : (a : Bool) (s v j : ℕ) (ps ns ms : List ℕ) → HasStampAt s v ns ms
    → has_stamp s (slice_get (cond a ps ms) j) ≡ (has_stamp s (slice_get (cond a ps ns) j) || (nat_eq j v && not a))
negative_set true s v j ps ns ms h = or_false (has_stamp s (slice_get ps j)) (nat_eq j v && false) (and_false (nat_eq j v) false refl)
negative_set false s v j ps ns ms h = h.set j ∙ ap (λ b. has_stamp s (slice_get ns j) || b) (sym (and_true (nat_eq j v) true refl))

pub set_positive : (s : ℕ) (ps qs ns : List ℕ) (l k : Literal) → l.positive ≡ true → HasStampAt s l.variable ps qs → is_marked s qs ns k ≡ (is_marked s ps ns k || is_literal k l)
set_positive s ps qs ns l k sign h =
    positive_set k.positive s l.variable k.variable ps qs ns h ∙ ap (λ b. is_marked s ps ns k || (nat_eq k.variable l.variable && b)) (sym (signs_true k.positive l.positive sign))

pub set_negative : (s : ℕ) (ps ns ms : List ℕ) (l k : Literal) → l.positive ≡ false → HasStampAt s l.variable ns ms → is_marked s ps ms k ≡ (is_marked s ps ns k || is_literal k l)
set_negative s ps ns ms l k sign h =
    negative_set k.positive s l.variable k.variable ps ns ms h ∙ ap (λ b. is_marked s ps ns k || (nat_eq k.variable l.variable && b)) (sym (signs_false k.positive l.positive sign))

pub ruleset inserts = (set_positive, set_negative)
