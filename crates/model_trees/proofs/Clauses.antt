-- The clauses that a node gives, read: clauses over as many names, with the same truth. Negation and conjunction of such clauses.
use Rattle.std.proofs.Common.{◌≡◌, ℕ, ℤ, not, ◌&&◌, List, [], ◌∷◌, ◌∙◌}
use Rattle.std.specs.List.{AllByRecursion}
use Rattle.std.proofs.lemmas.List.Elements.{All-from_recursion}
use Rattle.clause_set.specs.declared.literal.Literal.{Literal}
use Rattle.clause_set.specs.Clauses.{clauses_of}
use Rattle.clause_set.specs.Dnfs.{conjunction, negation}
use Rattle.clause_set.specs.Literals.{AreLiterals, IsLiteral, dnf_truth}
use Rattle.clause_set.proofs.Covers.{tidied-truth}
use Rattle.clause_set.proofs.Kept.{Each, clauses-kept, tidied-kept}
use Rattle.clause_set.proofs.Operations.{and-truth, clauses_of-truth}
use Rattle.clause_set.proofs.Reduced.{negation-truth}
use Rattle.elim_laws.proofs.Forms.{formed-literals}
use Rattle.solve_laws.specs.Solutions.{IsGiven}
use Rattle.proof_tree.proofs.Clauses.{IsKept, IsRaw, given_raw, kept_given, raw-keeps}
use Rattle.model_trees.specs.Walk.{read}

-- clauses that are put into form
pub raw_read : (n : ℕ) (cs : List (List Literal)) → Each (IsRaw n) cs → IsGiven n (read cs)
raw_read n cs h = kept_given n (read cs) (tidied-kept (AllByRecursion (IsKept n)) (clauses_of cs) (clauses-kept (IsRaw n) (IsKept n) (raw-keeps n) cs h))

pub given_read : (n : ℕ) (d : List (List Literal)) → IsGiven n d → IsGiven n (read d)
given_read n d h = raw_read n d (given_raw n d h)

raw_literals : (n : ℕ) (ls : List Literal) → AllByRecursion (IsRaw n) ls → AllByRecursion IsLiteral ls
raw_literals n [] h = tt
raw_literals n (l ∷ ls) h = ((h.0).literal, raw_literals n ls h.1)

pub raw_are_literals : (n : ℕ) (cs : List (List Literal)) → Each (IsRaw n) cs → AreLiterals cs
raw_are_literals n [] h = tt
raw_are_literals n (c ∷ cs) h = (All-from_recursion IsLiteral c (raw_literals n c h.0), raw_are_literals n cs h.1)

-- ---- truth
pub read_truth : (cs : List (List Literal)) (e : List ℤ) → AreLiterals cs → dnf_truth (read cs) e ≡ dnf_truth cs e
read_truth cs e h = tidied-truth (clauses_of cs) e ∙ clauses_of-truth cs e h

pub given_literals : (n : ℕ) (d : List (List Literal)) → IsGiven n d → AreLiterals d
given_literals n d h = formed-literals d h.formed

pub both_truth : (n : ℕ) (a b : List (List Literal)) (e : List ℤ) → IsGiven n a → IsGiven n b → dnf_truth (conjunction a b).value e ≡ (dnf_truth a e && dnf_truth b e)
both_truth n a b e h k = and-truth a b e (given_literals n a h) (given_literals n b k)

pub not_truth : (n : ℕ) (d : List (List Literal)) (e : List ℤ) → IsGiven n d → dnf_truth (negation d).value e ≡ not (dnf_truth d e)
not_truth n d e h = negation-truth d e (given_literals n d h)
