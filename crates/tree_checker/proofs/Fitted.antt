-- Which count of premises a row tells, and what it means that a rule has this many.
use Rattle.std.proofs.Common.{◌≡◌, ◌∙◌, ℕ, zero, suc, ◌+◌, ◌<◌, ◌≤◌, Bool, true, false, cond, ◌&&◌, nat_eq, nat_lt, List, [], ◌∷◌, ◌++◌, length, is_none, is_some, refl, sym, arith}
use Rattle.base_budget.specs.declared.log.Entry.{Entry}
use Rattle.sequent.specs.declared.member.Pick.{Pick}
use Rattle.sequent.specs.declared.member.Pick.TheVariants as pick
use Rattle.sequent.specs.Rules.{applies, place, premises_of}
use Rattle.sequent.specs.Sequent.{Sequent}
use Rattle.proof_tree.specs.Proof.{Proof, Proofs, node, no_proof, and_proof}
use Rattle.proof_tree.specs.Walk.{eliminates, fits, is_empty, width}
use Rattle.proof_grammar.specs.declared.lines.TextLine.TheVariants as w
use Rattle.proof_grammar.specs.Lines.{last_lines, lines, lines_all}
use Rattle.proof_grammar.specs.Owed.{HasWidth, Shallow}
use Rattle.proof_grammar.specs.Shaped.{AreShapedNodes, IsShapedNode}
use Rattle.tree_checker.specs.Told.{HasLevels, HaveLevels, told_all, told_lines, told_width, too_many}

-- ---- the count that a row tells, at a rule that applies
right_log : Pick → List Entry → Bool
right_log p es = cond (eliminates p) true (is_empty es)

module _ (s : Sequent) (p : Pick) (ns : Proofs) (es : List Entry) (k : ℕ) where
  pub told_fits : applies s p ≡ true → length (premises_of s p) < too_many → k ≡ told_width p (width ns) es → k ≡ length (premises_of s p) → fits s p ns es ≡ true
  told_fits takes few told same = by (cond (eliminates p) true (is_empty es)) (nat_lt (width ns) too_many) refl told
    where
      by : (a b : Bool) → cond (eliminates p) true (is_empty es) ≡ a → k ≡ cond (a && b) (width ns) too_many → fits s p ns es ≡ true
      by true true log is = let n : width ns ≡ length (premises_of s p) = sym is ∙ same in rw (takes, n, log) (grind arith)
      by true false log is = absurd (omega (arith, few, is, same))
      by false b log is = absurd (omega (arith, few, is, same))

  pub told_unfit : length (premises_of s p) < too_many → k ≡ told_width p (width ns) es → (k ≡ length (premises_of s p) → ⊥) → fits s p ns es ≡ false
  told_unfit few told other = by (cond (eliminates p) true (is_empty es)) (nat_lt (width ns) too_many) refl refl told
    where
      no_last : (a b : Bool) → (a && (b && false)) ≡ false
      no_last true true = refl
      no_last true false = refl
      no_last false b = refl

      no_second : (a c : Bool) (n m : ℕ) → (n ≡ m → ⊥) → (a && (nat_eq n m && c)) ≡ false
      no_second false c n m h = refl
      no_second true c n m h = at (nat_eq n m) refl
        where
          at : (b : Bool) → nat_eq n m ≡ b → (b && c) ≡ false
          at true e = absurd (h (grind (arith, e)))
          at false e = refl

      by : (a b : Bool) → cond (eliminates p) true (is_empty es) ≡ a → nat_lt (width ns) too_many ≡ b → k ≡ cond (a && b) (width ns) too_many → fits s p ns es ≡ false
      by true true log small is = no_second (applies s p) _ (width ns) (length (premises_of s p)) (λ n. other (is ∙ n))
      by true false log small is = no_second (applies s p) _ (width ns) (length (premises_of s p)) (λ n. absurd (grind (arith, few, small, n)))
      by false b log small is = rw log (no_last (applies s p) (nat_eq (width ns) (length (premises_of s p))))

-- a node that fits has entries only where its rule eliminates
pub fits_log : (s : Sequent) (p : Pick) (ns : Proofs) (es : List Entry) → fits s p ns es ≡ true → eliminates p ≡ false → es ≡ []
fits_log s p ns es fit none = by es (rw none at (third (applies s p) (nat_eq (width ns) (length (premises_of s p))) _ fit))
  where
    third : (a b c : Bool) → (a && (b && c)) ≡ true → c ≡ true
    third true true c h = h
    third true false c h = absurd (cc)
    third false b c h = absurd (cc)

    by : (es : List Entry) → is_empty es ≡ true → es ≡ []
    by [] h = refl
    by (e ∷ es) h = absurd (cc)

-- ---- a rule without a principal
pub close_is : (p : Pick) → is_none (place p) ≡ true → p ≡ pick.Close
close_is (pick.Trivial i) h = absurd (cc)
close_is (pick.Alpha i) h = absurd (cc)
close_is (pick.Delta i) h = absurd (cc)
close_is (pick.Beta i) h = absurd (cc)
close_is (pick.Gamma i) h = absurd (cc)
close_is pick.Close h = refl

no_first : (a b : Bool) → (a && true) ≡ false → (a && b) ≡ false
no_first true b h = absurd (cc)
no_first false b h = refl

-- a rule for which no principal was found applies to no node but a leaf
pub lone_unfit : (s : Sequent) (p : Pick) (ns : Proofs) (es : List Entry) (k : ℕ) → (applies s p && is_some (place p)) ≡ false → k ≡ told_width p (width ns) es → (is_none (place p) && nat_eq k 0) ≡ false → fits s p ns es ≡ false
lone_unfit s (pick.Trivial i) ns es k lone told leaf = no_first (applies s (pick.Trivial i)) _ lone
lone_unfit s (pick.Alpha i) ns es k lone told leaf = no_first (applies s (pick.Alpha i)) _ lone
lone_unfit s (pick.Delta i) ns es k lone told leaf = no_first (applies s (pick.Delta i)) _ lone
lone_unfit s (pick.Beta i) ns es k lone told leaf = no_first (applies s (pick.Beta i)) _ lone
lone_unfit s (pick.Gamma i) ns es k lone told leaf = no_first (applies s (pick.Gamma i)) _ lone
lone_unfit s pick.Close ns es k lone told leaf = told_unfit s pick.Close ns es k (omega arith) told (λ z. absurd (grind (arith, leaf, z)))

-- such a leaf has no premises
pub leaf_none : (k n : ℕ) (es : List Entry) → nat_eq k 0 ≡ true → k ≡ told_width pick.Close n es → n ≡ 0
leaf_none k n es none told = by (nat_lt n too_many) told
  where
    by : (b : Bool) → k ≡ cond b n too_many → n ≡ 0
    by true is = grind (arith, none, is)
    by false is = absurd (grind (arith, none, is))

pub leaf_fits : (s : Sequent) (ns : Proofs) (es : List Entry) (k : ℕ) → nat_eq k 0 ≡ true → k ≡ told_width pick.Close (width ns) es → fits s pick.Close ns es ≡ true
leaf_fits s ns es k none told = told_fits s pick.Close ns es k refl (omega arith) told (grind (arith, none))

-- ---- proofs that a text can hold
width_told : (p : Pick) (k : ℕ) (es : List Entry) → HasWidth p k → (eliminates p ≡ false → es ≡ []) → told_width p k es ≡ k
width_told p k es width none = by (eliminates p) refl
  where
    small : (p : Pick) → HasWidth p k → k ≤ too_many
    small (pick.Trivial i) h = let n = h.1 in omega (arith, n)
    small (pick.Alpha i) h = let n = h.1 in omega (arith, n)
    small (pick.Delta i) h = let n = h.1 in omega (arith, n)
    small (pick.Beta i) h = let n = h.1.1 in omega (arith, n)
    small (pick.Gamma i) h = let n = h.1 in omega (arith, n)
    small pick.Close h = omega (arith, h)

    kept : (b : Bool) → nat_lt k too_many ≡ b → cond b k too_many ≡ k
    kept true e = refl
    kept false e = let most = small p width in grind (arith, e, most)

    by : (b : Bool) → eliminates p ≡ b → told_width p k es ≡ k
    by true e = rw e (kept (nat_lt k too_many) refl)
    by false e = rw (e, none e) (kept (nat_lt k too_many) refl)

mutual
  pub told_same : (j : ℕ) (x : Proof) → IsShapedNode Shallow j x → told_lines x ≡ lines x
  told_same j (node p ns es d) h = λ i. w.Row p (width_told p (width ns) es h.1 h.2 i) ∷ (all_told_same (j + 1) ns h.4 i ++ last_lines p es d)

  all_told_same : (j : ℕ) (ns : Proofs) → AreShapedNodes Shallow j ns → told_all ns ≡ lines_all ns
  all_told_same j no_proof h = refl
  all_told_same j (and_proof n ns) h = λ i. told_same j n h.0 i ++ all_told_same j ns h.1 i

mutual
  pub shaped_levels : (j k : ℕ) (x : Proof) → j + k ≡ 2001 → IsShapedNode Shallow j x → HasLevels k x
  shaped_levels j zero x level h = absurd (no_more x h)
    where
      no_more : (x : Proof) → IsShapedNode Shallow j x → ⊥
      no_more (node p ns es d) h = let most : j ≤ 2000 = h.0 in omega (arith, most, level)
  shaped_levels j (suc k) (node p ns es d) level h = all_shaped_levels (j + 1) k ns (omega (arith, level)) h.4

  all_shaped_levels : (j k : ℕ) (ns : Proofs) → j + k ≡ 2001 → AreShapedNodes Shallow j ns → HaveLevels k ns
  all_shaped_levels j k no_proof level h = tt
  all_shaped_levels j k (and_proof n ns) level h = (shaped_levels j k n level h.0, all_shaped_levels j k ns level h.1)
