-- The loop that tightens literals, up to one whose form has no value.
use Rattle.std.proofs.Common.{◌≡◌, ℕ, ◌+◌, ◌<◌, ◌≤◌, Bool, true, false, cond, List, [], ◌∷◌, ◌++◌, map, length, get_or, Some, None, refl, sym, ◌∙◌, ap}
use Rattle.std.specs.List.{list_any}
use Rattle.clause_set.specs.declared.literal.Literal.{Literal}
use Rattle.clause_set.specs.Clauses.{is_void, tightened, compact}
use Rattle.clause_set.specs.Order.{literal_cmp, sorted_once}
use Rattle.clause_set.specs.Table.{tight_or_void}
use Rattle.clause_set.proofs.Walks.{Fails, fails_none, fails_more, passes_here, fails_all, Maps, maps_none, maps_more, maps_all}

-- the literals before i are not void, and out has them tightened
pub record Tightens (ls : List Literal) (i : ℕ) (out : List Literal) : Type 0 where
  pub not_void : Fails (is_void ls) ls i
  pub tight : Maps (tightened ls) ls i out

void_so : {X : Type 0} (b : Bool) (y : X) → None ≡ cond b None (Some y) → b ≡ true
void_so true y e = refl
void_so false y e = absurd cc

tight_so : {X : Type 0} (b : Bool) (x y : X) → Some x ≡ cond b None (Some y) → (b ≡ false) × (x ≡ y)
tight_so true x y e = absurd cc
tight_so false x y e = (refl, (cc))

pub tightens_none : (ls : List Literal) → Tightens ls 0 []
tightens_none ls = record { not_void = fails_none (is_void ls) ls; tight = maps_none (tightened ls) ls }

pub tightens_more : (ls : List Literal) (i : ℕ) (l m : Literal) (out new : List Literal) → i < length ls → l ≡ get_or ls i l → Some m ≡ tight_or_void ls l → new ≡ out ++ m ∷ []
    → Tightens ls i out → Tightens ls (i + 1) new
tightens_more ls i l m out new lt is e pushed h =
    let s = tight_so (is_void ls l) m (tightened ls l) e in
    record {
      not_void = fails_more (is_void ls) ls i l lt is s.0 h.not_void;
      tight = maps_more (tightened ls) ls i l m out new lt is s.1 pushed h.tight;
    }

pub tightens_void : (ls : List Literal) (i : ℕ) (l : Literal) (out : List Literal) → i < length ls → l ≡ get_or ls i l → None ≡ tight_or_void ls l → Tightens ls i out
    → None ≡ cond (list_any (is_void ls) ls) None (Some (map (tightened ls) ls))
tightens_void ls i l out lt is e h =
    sym (ap (λ b. cond b None (Some (map (tightened ls) ls))) (passes_here (is_void ls) ls i l lt is (void_so (is_void ls l) (tightened ls l) e) h.not_void))

pub tightens_all : (ls : List Literal) (i : ℕ) (out : List Literal) → length ls ≤ i → Tightens ls i out → Some out ≡ cond (list_any (is_void ls) ls) None (Some (map (tightened ls) ls))
tightens_all ls i out le h =
    ap Some (maps_all (tightened ls) ls i out le h.tight) ∙ sym (ap (λ b. cond b None (Some (map (tightened ls) ls))) (fails_all (is_void ls) ls i le h.not_void))

pub ruleset tightenings = (tightens_none, tightens_more, tightens_void, tightens_all)

-- the form of a conjunction from its tightened literals
pub compact_none : (ls : List Literal) → None ≡ cond (list_any (is_void ls) ls) None (Some (map (tightened ls) ls)) → None ≡ compact ls
unfolding compact
compact_none ls e = sym (ap (λ b. cond b None (Some (sorted_once literal_cmp (map (tightened ls) ls)))) (void_so (list_any (is_void ls) ls) (map (tightened ls) ls) e))

pub compact_some : (ls tight sorted : List Literal) → Some tight ≡ cond (list_any (is_void ls) ls) None (Some (map (tightened ls) ls)) → sorted ≡ sorted_once literal_cmp tight → Some sorted ≡ compact ls
unfolding compact
compact_some ls tight sorted e is =
    let s = tight_so (list_any (is_void ls) ls) tight (map (tightened ls) ls) e in
    ap Some (is ∙ ap (sorted_once literal_cmp) s.1) ∙ sym (ap (λ b. cond b None (Some (sorted_once literal_cmp (map (tightened ls) ls)))) s.0)

pub ruleset ends = (compact_none, compact_some)
