-- Clauses in form, by the names that they speak of.
use Rattle.std.proofs.Common.{◌≡◌, ◌<◌, ◌≤◌, ℕ, ℤ, Bool, true, false, cond, nat_eq, List, [], ◌∷◌, refl, sym, ◌∙◌, ap, subst, arith}
use Rattle.std.specs.Prelude.{All, ◌⊎◌}
use Rattle.std.specs.List.{AllByRecursion}
use Rattle.std.proofs.lemmas.Bool.{cases_lt}
use Rattle.std.proofs.lemmas.Bool.Decides.{nat_tests}
use Rattle.std.proofs.lemmas.List.Elements.{All-from_recursion, recursion_from_All}
use mathlib.Core.Logic.{inl, inr}
use Rattle.linear_term.specs.Linear.{mentions, has_name}
use Rattle.clause_set.specs.declared.literal.Literal.{Literal}
use Rattle.clause_set.specs.Literals.{term_of}
use Rattle.clause_set.specs.Formed.{IsFormed}
use Rattle.clause_set.specs.Kept.{AreFormed}
use Rattle.clause_set.specs.Primitive.{IsShaped}
use Rattle.clause_set.specs.Names.{has}
use Rattle.clause_set.proofs.Shapes.{IsOn}
use Rattle.elim_rule_laws.proofs.EquationLists.{kept-weaker}
use Rattle.elim_laws.specs.Whole.{Lacks}
use Rattle.solve_laws.specs.Solutions.{IsGiven}

-- a literal in form whose names satisfy N
pub record IsIn (N : ℕ → Type 0) (l : Literal) : Type 0 where
  pub formed : IsFormed l
  pub shaped : IsShaped l
  pub on : IsOn N l

-- the name is from j on and below n
abbrev pub IsFrom : ℕ → ℕ → ℕ → Type 0
IsFrom j n y = (j ≤ y) × (y < n)

-- the name is j
abbrev pub IsName : ℕ → ℕ → Type 0
IsName j y = y ≡ j

-- d is in form, and its names are from j on and below n
abbrev pub Spans : ℕ → ℕ → List (List Literal) → Type 0
Spans j n d = AllByRecursion (AllByRecursion (IsIn (IsFrom j n))) d

-- ---- names that do not occur
same_name : (y : ℕ) → nat_eq y y ≡ true
same_name y = grind (arith, nat_tests)

later : (b r : Bool) → r ≡ true → cond b true r ≡ true
later true r h = refl
later false r h = h

all_on : (N : ℕ → Type 0) (ps : List (ℕ × ℤ)) → ((y : ℕ) → has_name ps y ≡ true → N y) → AllByRecursion (λ p. N p.0) ps
all_on N [] f = tt
all_on N (p ∷ ps) f = (
  f p.0 (ap (λ b. cond b true (has_name ps p.0)) (same_name p.0)),
  all_on N ps (λ y t. f y (later (nat_eq p.0 y) (has_name ps y) t)),
)

-- the names that occur satisfy N
literal_on : (N : ℕ → Type 0) (l : Literal) → ((y : ℕ) → has y l ≡ true → N y) → IsOn N l
unfolding mentions
literal_on N l f = all_on N (term_of l).pairs f

lacks_pairs : (N : ℕ → Type 0) (y : ℕ) (ps : List (ℕ × ℤ)) → ¬ (N y) → AllByRecursion (λ p. N p.0) ps → has_name ps y ≡ false
lacks_pairs N y [] n h = refl
lacks_pairs N y (p ∷ ps) n h = by (nat_eq p.0 y) refl (lacks_pairs N y ps n h.1)
  where
    by : (b : Bool) → nat_eq p.0 y ≡ b → has_name ps y ≡ false → cond b true (has_name ps y) ≡ false
    by true e k = absurd (let same : p.0 ≡ y = grind (arith, nat_tests) in n (subst N same h.0))
    by false e k = k

literal_lacks : (N : ℕ → Type 0) (y : ℕ) (l : Literal) → ¬ (N y) → IsOn N l → has y l ≡ false
unfolding mentions
literal_lacks N y l n h = lacks_pairs N y (term_of l).pairs n h

clause_lacks : (N : ℕ → Type 0) (y : ℕ) (c : List Literal) → ¬ (N y) → AllByRecursion (IsIn N) c → Lacks y c
clause_lacks N y c n h = kept-weaker (IsIn N) (λ l. has y l ≡ false) (λ l k. literal_lacks N y l n k.on) c h

-- a name that is not in N is in no clause
pub all_lack : (N : ℕ → Type 0) (y : ℕ) (d : List (List Literal)) → ¬ (N y) → AllByRecursion (AllByRecursion (IsIn N)) d → AllByRecursion (Lacks y) d
all_lack N y d n h = kept-weaker (AllByRecursion (IsIn N)) (Lacks y) (λ c k. clause_lacks N y c n k) d h

-- ---- from what literals have and lack
clause_in : (N : ℕ → Type 0) (c : List Literal) → AllByRecursion IsFormed c → AllByRecursion IsShaped c → AllByRecursion (λ l. (y : ℕ) → has y l ≡ true → N y) c → AllByRecursion (IsIn N) c
clause_in N [] f s o = tt
clause_in N (l ∷ ls) f s o = (record { formed = f.0; shaped = s.0; on = literal_on N l o.0 }, clause_in N ls f.1 s.1 o.1)

-- each name that some literal of c has is in N
abbrev pub Holds : (ℕ → Type 0) → List Literal → Type 0
Holds N c = AllByRecursion (λ l. (y : ℕ) → has y l ≡ true → N y) c

pub from_names : (N : ℕ → Type 0) (c : List Literal) → All IsFormed c → All IsShaped c → Holds N c → AllByRecursion (IsIn N) c
from_names N c f s o = clause_in N c (recursion_from_All IsFormed c f) (recursion_from_All IsShaped c s) o

-- where each name outside N is lacked
one_held : (N : ℕ → Type 0) (l : Literal) → ((y : ℕ) → N y ⊎ (has y l ≡ false)) → (y : ℕ) → has y l ≡ true → N y
one_held N l f y t = by (f y)
  where
    by : N y ⊎ (has y l ≡ false) → N y
    by (inl k) = k
    by (inr k) = absurd (let z : true ≡ false = sym t ∙ k in cc)

-- a name is in N, or no literal of c has it
abbrev pub Divided : (ℕ → Type 0) → List Literal → Type 0
Divided N c = (y : ℕ) → N y ⊎ Lacks y c

first_lacks : (N : ℕ → Type 0) (l : Literal) (c : List Literal) (y : ℕ) → N y ⊎ Lacks y (l ∷ c) → N y ⊎ (has y l ≡ false)
first_lacks N l c y (inl k) = inl k
first_lacks N l c y (inr k) = inr k.0

others_lack : (N : ℕ → Type 0) (l : Literal) (c : List Literal) (y : ℕ) → N y ⊎ Lacks y (l ∷ c) → N y ⊎ Lacks y c
others_lack N l c y (inl k) = inl k
others_lack N l c y (inr k) = inr k.1

held : (N : ℕ → Type 0) (c : List Literal) → Divided N c → Holds N c
held N [] f = tt
held N (l ∷ c) f = (one_held N l (λ y. first_lacks N l c y (f y)), held N c (λ y. others_lack N l c y (f y)))

pub from_lacks : (N : ℕ → Type 0) (c : List Literal) → All IsFormed c → All IsShaped c → Divided N c → AllByRecursion (IsIn N) c
from_lacks N c f s o = from_names N c f s (held N c o)

abbrev pub AreDivided : (ℕ → Type 0) → List (List Literal) → Type 0
AreDivided N d = (y : ℕ) → N y ⊎ AllByRecursion (Lacks y) d

first_clause : (N : ℕ → Type 0) (c : List Literal) (d : List (List Literal)) (y : ℕ) → N y ⊎ AllByRecursion (Lacks y) (c ∷ d) → N y ⊎ Lacks y c
first_clause N c d y (inl k) = inl k
first_clause N c d y (inr k) = inr k.0

other_clauses : (N : ℕ → Type 0) (c : List Literal) (d : List (List Literal)) (y : ℕ) → N y ⊎ AllByRecursion (Lacks y) (c ∷ d) → N y ⊎ AllByRecursion (Lacks y) d
other_clauses N c d y (inl k) = inl k
other_clauses N c d y (inr k) = inr k.1

pub all_from_lacks : (N : ℕ → Type 0) (d : List (List Literal)) → AreFormed d → AllByRecursion (All IsShaped) d → AreDivided N d → AllByRecursion (AllByRecursion (IsIn N)) d
all_from_lacks N [] f s o = tt
all_from_lacks N (c ∷ d) f s o =
    (from_lacks N c f.0 s.0 (λ y. first_clause N c d y (o y)), all_from_lacks N d f.1 s.1 (λ y. other_clauses N c d y (o y)))

-- what is given spans the names below n
pub given-spans : (n : ℕ) (d : List (List Literal)) → IsGiven n d → Spans 0 n d
given-spans n d h = all_from_lacks (IsFrom 0 n) d h.formed h.shaped (λ y. by y (cases_lt y n))
  where
    by : (y : ℕ) → (y < n) ⊎ (n ≤ y) → IsFrom 0 n y ⊎ AllByRecursion (Lacks y) d
    by y (inl l) = inl (omega arith, l)
    by y (inr l) = inr (h.over y l)

pub in-formed : (N : ℕ → Type 0) (c : List Literal) → AllByRecursion (IsIn N) c → AllByRecursion IsFormed c
in-formed N c h = kept-weaker (IsIn N) IsFormed (λ l f. f.formed) c h

pub in-shaped : (N : ℕ → Type 0) (c : List Literal) → AllByRecursion (IsIn N) c → AllByRecursion IsShaped c
in-shaped N c h = kept-weaker (IsIn N) IsShaped (λ l f. f.shaped) c h

pub in-on : (N : ℕ → Type 0) (c : List Literal) → AllByRecursion (IsIn N) c → AllByRecursion (IsOn N) c
in-on N c h = kept-weaker (IsIn N) (IsOn N) (λ l f. f.on) c h

pub spans-formed : (N : ℕ → Type 0) (d : List (List Literal)) → AllByRecursion (AllByRecursion (IsIn N)) d → AreFormed d
spans-formed N d h = kept-weaker (AllByRecursion (IsIn N)) (All IsFormed) (λ c k. All-from_recursion IsFormed c (in-formed N c k)) d h

pub spans-shaped : (N : ℕ → Type 0) (d : List (List Literal)) → AllByRecursion (AllByRecursion (IsIn N)) d → AllByRecursion (All IsShaped) d
spans-shaped N d h = kept-weaker (AllByRecursion (IsIn N)) (All IsShaped) (λ c k. All-from_recursion IsShaped c (in-shaped N c k)) d h
