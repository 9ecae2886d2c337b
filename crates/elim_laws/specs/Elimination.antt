-- Elimination of a name from a disjunction of clauses: each clause by the rules that come first, or by those of a log.
use Rattle.std.specs.Prelude.{◌≡◌, ℕ, zero, suc, ℤ, Bool, true, false, List, [], ◌∷◌, Option, Some, None}
use Rattle.base_integers.specs.Entry.{put}
use Rattle.base_budget.specs.Trace.{entry, Traced, just, next, note, each}
use Rattle.base_budget.specs.declared.log.Entry.{Entry}
use Rattle.base_budget.specs.declared.log.Entry.TheVariants.{Apart, Merge}
use Rattle.clause_set.specs.declared.literal.Literal.{Literal}
use Rattle.clause_set.specs.Dnfs.{tidying, negation}
use Rattle.clause_set.specs.Kept.{AreFormed, AreFree}
use Rattle.clause_set.specs.Literals.{dnf_truth}
use Rattle.clause_set.specs.Met.{IsMet}
use Rattle.clause_set.specs.Rules.{rule, first_rule, unused, measure}

-- the rule of the entry e, then each clause that it leaves by `rest`
abbrev pub by_rule : (List Literal → Traced (List (List Literal))) → ℕ → List Literal → Entry → Traced (List (List Literal))
by_rule rest x c e = next (rule x c e) (λ rs. next (note (entry e)) (λ _. each rest rs []))

-- the same of the rule that comes first; a clause without x stays
abbrev pub by_first : (List Literal → Traced (List (List Literal))) → ℕ → List Literal → Option Entry → Traced (List (List Literal))
by_first rest x c None = unused c
by_first rest x c (Some e) = by_rule rest x c e

-- x out of the clause c, at most n rules after one another
abbrev pub rules_deep : ℕ → ℕ → List Literal → Traced (List (List Literal))
rules_deep x zero c = just (c ∷ [])
rules_deep x (suc n) c = by_first (rules_deep x n) x c (first_rule x c)

-- x out of the clause c by the rules that come first, whose entries it notes
unfoldable pub taken_out : ℕ → List Literal → Traced (List (List Literal))
taken_out x c = rules_deep x (suc (measure x c)) c

-- some value of x makes d true: x out of each clause of d
abbrev pub exists_name : ℕ → List (List Literal) → Traced (List (List Literal))
exists_name x d = next (each (taken_out x) d []) tidying

-- every value of x makes d true
abbrev pub for_all_name : ℕ → List (List Literal) → Traced (List (List Literal))
for_all_name x d = next (negation d) (λ n. next (exists_name x n) negation)

-- b tells P: it is true exactly where P holds
pub record Reflects (b : Bool) (P : Type 0) : Type 0 where
  pub yes : b ≡ true → P
  pub no : b ≡ false → ¬ P

-- r is d without x: true exactly where some value of x makes d true; x is in no clause of it
pub record IsOut (x : ℕ) (d r : List (List Literal)) : Type 0 where
  pub kept : (e : List ℤ) → IsMet d x e → dnf_truth r e ≡ true
  pub back : (e : List ℤ) → dnf_truth r e ≡ true → IsMet d x e
  pub formed : AreFormed r
  pub free : AreFree x r

-- whatever integer x becomes in e, the disjunction d is true
abbrev pub IsAlwaysMet : List (List Literal) → ℕ → List ℤ → Type 0
IsAlwaysMet d x e = (v : ℤ) → dnf_truth d (put e x v) ≡ true

-- r is "every value of x makes d true": true exactly there, and where it is false some value makes d false; x is in no clause of it
pub record IsEvery (x : ℕ) (d r : List (List Literal)) : Type 0 where
  pub kept : (e : List ℤ) → IsAlwaysMet d x e → dnf_truth r e ≡ true
  pub back : (e : List ℤ) → dnf_truth r e ≡ true → IsAlwaysMet d x e
  pub witness : (e : List ℤ) → dnf_truth r e ≡ false → (v : ℤ) × (dnf_truth d (put e x v) ≡ false)
  pub formed : AreFormed r
  pub free : AreFree x r

-- the rules that split a clause or merge two of its divisibilities
abbrev pub IsSplit : Entry → Type 0
IsSplit (Apart i) = Unit {0}
IsSplit (Merge i j) = Unit {0}
IsSplit _ = ⊥
