-- The terms of sequents of the code are reduced.
use Rattle.std.proofs.Common.{◌≡◌, ◌<◌, ◌≤◌, ◌+◌, ℕ, List, length, drop, get_or, sym, subst}
use Rattle.std.specs.List.{AllByRecursion}
use Rattle.base_budget.proofs.Charging.{drop-item, drop_all}
use Rattle.formula.specs.Reduced.{HasReducedTerms}
use Rattle.formula.specs.Tree.{form}
use Rattle.sequent.specs.declared.member.Member.{Member}
use Rattle.sequent.specs.declared.member.Sequent.{Sequent}
use Rattle.sequent.specs.Views.{members_of, sequent_of}
use Rattle.proof_tree.specs.Reduced.{IsReducedSequent}

-- the members before i are known: all are, where the others are
pub record MembersBefore (ms : List Member) (i : ℕ) : Type 0 where
  pub rest : AllByRecursion (λ m. HasReducedTerms m.formula) (members_of (drop i ms)) → AllByRecursion (λ m. HasReducedTerms m.formula) (members_of ms)

pub members_none : (ms : List Member) → MembersBefore ms 0
members_none ms = record { rest = λ k. k }

pub members_more : (ms : List Member) (i : ℕ) (m : Member) → i < length ms → m ≡ get_or ms i m → HasReducedTerms (form m.formula) → MembersBefore ms i → MembersBefore ms (i + 1)
members_more ms i m lt is k h = record {
  rest = λ more. h.rest (subst (λ z. AllByRecursion (λ x. HasReducedTerms x.formula) (members_of z)) (sym (drop-item ms i m lt is)) (k, more));
}

pub members_all : (s : Sequent) (i : ℕ) → length s.members ≤ i → MembersBefore s.members i → IsReducedSequent (sequent_of s)
members_all s i le h = h.rest (subst (λ z. AllByRecursion (λ x. HasReducedTerms x.formula) (members_of z)) (sym (drop_all s.members i le)) tt)

pub ruleset known = (members_none, members_more, members_all)
