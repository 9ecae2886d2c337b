-- Clauses over n names, before and after they are put into form, and what the operations on them keep.
use Rattle.std.proofs.Common.{◌<◌, ℕ, ℤ, negsuc, List, [], ◌∷◌, arith}
use Rattle.std.specs.List.{AllByRecursion}
use Rattle.std.proofs.lemmas.List.Elements.{All-from_recursion, recursion_from_All}
use Rattle.linear_term.specs.Linear.{Linear, IsOver, number}
use Rattle.linear_term.proofs.Names.{combination-over}
use Rattle.clause_set.specs.declared.literal.Literal.{Literal}
use Rattle.clause_set.specs.Clauses.{clauses_of}
use Rattle.clause_set.specs.Dnfs.{conjunction, disjunction, negation, top}
use Rattle.clause_set.specs.Formed.{IsFormed}
use Rattle.clause_set.specs.Literals.{IsLiteral, term_of}
use Rattle.clause_set.proofs.Formed.{formed-keeps}
use Rattle.clause_set.proofs.Kept.{Each, Keeps, Denies, clauses-kept, conjunction-kept, disjunction-kept, negation-kept}
use Rattle.clause_set.proofs.Negations.{less, more, less_is, more_is}
use Rattle.clause_set.proofs.Primitive.{IsNormalLiteral, normal-keeps}
use Rattle.clause_set.proofs.Shapes.{IsOn, names-keep, shaped}
use Rattle.clause_set.specs.Clauses.{literals_of}
use Rattle.clause_set.specs.Normal.{normal_of}
use Rattle.elim_rule_laws.proofs.EquationLists.{kept-weaker}
use Rattle.solve_laws.specs.Solutions.{IsGiven}
use Rattle.solve_laws.proofs.Spans.{IsFrom, IsIn, Spans, all_lack, given-spans, spans-formed, spans-shaped}

-- ---- literals over n names, before and after they are put into form
abbrev pub IsBelow : ℕ → ℕ → Type 0
IsBelow n y = y < n

pub record IsRaw (n : ℕ) (l : Literal) : Type 0 where
  pub literal : IsLiteral l
  pub over : IsOver n (term_of l)

pub record IsKept (n : ℕ) (l : Literal) : Type 0 where
  pub formed : IsFormed l
  pub normal : IsNormalLiteral l
  pub on : IsOn (IsBelow n) l

all_kept : (n : ℕ) (ls : List Literal) → AllByRecursion IsFormed ls → AllByRecursion IsNormalLiteral ls → AllByRecursion (IsOn (IsBelow n)) ls → AllByRecursion (IsKept n) ls
all_kept n [] f m o = tt
all_kept n (l ∷ ls) f m o = (record { formed = f.0; normal = m.0; on = o.0 }, all_kept n ls f.1 m.1 o.1)

raw_on : (n : ℕ) (l : Literal) → IsRaw n l → IsOn (IsBelow n) l
raw_on n l h = recursion_from_All (λ p. p.0 < n) (term_of l).pairs h.over

pub raw-keeps : (n : ℕ) → Keeps (IsRaw n) (IsKept n)
raw-keeps n = record {
  normal = λ l h. all_kept n (literals_of (normal_of l)) (formed-keeps.normal l h.literal) (normal-keeps.normal l h.literal) ((names-keep (IsBelow n)).normal l (raw_on n l h));
  tight = λ ls l h. record { formed = formed-keeps.tight ls l h.formed; normal = normal-keeps.tight ls l h.normal; on = (names-keep (IsBelow n)).tight ls l h.on };
}

number_over : (n : ℕ) (k : ℤ) → IsOver n (number k)
number_over n k = All-from_recursion (λ p. p.0 < n) (number k).pairs tt

pub less_over : (n : ℕ) (t : Linear) → IsOver n t → IsOver n (less t)
less_over n t h = combination-over n _ _ t _ h (number_over n (negsuc 0))

pub more_over : (n : ℕ) (t : Linear) → IsOver n t → IsOver n (more t)
more_over n t h = combination-over n _ _ t _ h (number_over n (negsuc 0))

raw-denies : (n : ℕ) → Denies (IsRaw n) (IsKept n)
raw-denies n = record {
  keeps = raw-keeps n;
  back = λ l h. record { literal = (h.formed).literal; over = All-from_recursion (λ p. p.0 < n) (term_of l).pairs h.on };
  below = λ t h. record { literal = less_is t (h.literal).term; over = less_over n t h.over };
  above = λ t h. record { literal = more_is t (h.literal).term; over = more_over n t h.over };
  bound = λ t h. record { literal = less_is t (h.literal).term; over = less_over n t h.over };
  divided = λ d t h. record { literal = record { term = (h.literal).term; divisor = (h.literal).divisor }; over = h.over };
  undivided = λ d t h. record { literal = record { term = (h.literal).term; divisor = (h.literal).divisor }; over = h.over };
}

-- ---- disjunctions of clauses over n names
pub spans_given : (n : ℕ) (d : List (List Literal)) → Spans 0 n d → IsGiven n d
spans_given n d s = record { formed = spans-formed (IsFrom 0 n) d s; shaped = spans-shaped (IsFrom 0 n) d s; over = λ y le. all_lack (IsFrom 0 n) y d (λ k. absurd (omega (arith, k.1, le))) s }

from_pairs : (n : ℕ) (ps : List (ℕ × ℤ)) → AllByRecursion (λ p. p.0 < n) ps → AllByRecursion (λ p. IsFrom 0 n p.0) ps
from_pairs n [] h = tt
from_pairs n (p ∷ ps) h = ((omega arith, h.0), from_pairs n ps h.1)

to_pairs : (n : ℕ) (ps : List (ℕ × ℤ)) → AllByRecursion (λ p. IsFrom 0 n p.0) ps → AllByRecursion (λ p. p.0 < n) ps
to_pairs n [] h = tt
to_pairs n (p ∷ ps) h = ((h.0).1, to_pairs n ps h.1)

kept_in : (n : ℕ) (l : Literal) → IsKept n l → IsIn (IsFrom 0 n) l
kept_in n l h = record { formed = h.formed; shaped = shaped l h.normal; on = from_pairs n (term_of l).pairs h.on }

pub kept_given : (n : ℕ) (d : List (List Literal)) → Each (IsKept n) d → IsGiven n d
kept_given n d h = spans_given n d (kept-weaker (AllByRecursion (IsKept n)) (AllByRecursion (IsIn (IsFrom 0 n))) (λ c k. kept-weaker (IsKept n) (IsIn (IsFrom 0 n)) (λ l i. kept_in n l i) c k) d h)

in_raw : (n : ℕ) (l : Literal) → IsIn (IsFrom 0 n) l → IsRaw n l
in_raw n l h = record { literal = (h.formed).literal; over = All-from_recursion (λ p. p.0 < n) (term_of l).pairs (to_pairs n (term_of l).pairs h.on) }

pub given_raw : (n : ℕ) (d : List (List Literal)) → IsGiven n d → Each (IsRaw n) d
given_raw n d h = kept-weaker (AllByRecursion (IsIn (IsFrom 0 n))) (AllByRecursion (IsRaw n)) (λ c k. kept-weaker (IsIn (IsFrom 0 n)) (IsRaw n) (λ l i. in_raw n l i) c k) d (given-spans n d h)

pub given_top : (n : ℕ) → IsGiven n top
given_top n = kept_given n top (tt, tt)

pub given_none : (n : ℕ) → IsGiven n []
given_none n = kept_given n [] tt

pub given_clauses : (n : ℕ) (cs : List (List Literal)) → Each (IsRaw n) cs → IsGiven n (clauses_of cs)
given_clauses n cs h = kept_given n (clauses_of cs) (clauses-kept (IsRaw n) (IsKept n) (raw-keeps n) cs h)

pub given_and : (n : ℕ) (a b : List (List Literal)) → IsGiven n a → IsGiven n b → IsGiven n (conjunction a b).value
given_and n a b h k = kept_given n (conjunction a b).value (conjunction-kept (IsRaw n) (IsKept n) (raw-keeps n) a b (given_raw n a h) (given_raw n b k))

pub given_or : (n : ℕ) (a b : List (List Literal)) → IsGiven n a → IsGiven n b → IsGiven n (disjunction a b).value
given_or n a b h k = spans_given n (disjunction a b).value (disjunction-kept (AllByRecursion (IsIn (IsFrom 0 n))) a b (given-spans n a h) (given-spans n b k))

pub given_not : (n : ℕ) (d : List (List Literal)) → IsGiven n d → IsGiven n (negation d).value
given_not n d h = kept_given n (negation d).value (negation-kept (IsRaw n) (IsKept n) (raw-denies n) d (given_raw n d h))
