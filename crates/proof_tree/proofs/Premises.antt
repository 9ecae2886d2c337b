-- Premises of a sequent with reduced terms have such terms too.
use Rattle.std.proofs.Common.{◌≡◌, ◌≢◌, ℕ, suc, ◌-◌, ◌≤◌, ℤ, pos, List, [], ◌∷◌, ◌++◌, map, Option, Some, None, refl, arith}
use Rattle.std.specs.List.{AllByRecursion, remove, slice_get}
use Rattle.std.proofs.lemmas.List.Elements.{All-map}
use Rattle.linear_term.specs.Linear.{Linear, IsReduced}
use Rattle.formula.specs.Form.{Form, Forms, equal, unequal, at_least, holds, fails, differs, conjunction, disjunction, universal, existential, no_form, and_form}
use Rattle.formula.specs.Shifts.{raised, raised_name, shifted, all_shifted}
use Rattle.formula.proofs.Raising.{rising_raised}
use Rattle.sequent.specs.Sequent.{Member, Sequent, member, sequent}
use Rattle.sequent.specs.Rules.{brought, new_members, one_each, premises_at, premises_by}
use Rattle.sequent.proofs.Members.{all_append, all_remove, all_at}
use Rattle.formula.specs.Reduced.{HasReducedTerms, HaveReducedTerms}
use Rattle.proof_tree.specs.Reduced.{IsReducedSequent}

raised_reduced : (n k : ℕ) (t : Linear) → IsReduced t → IsReduced (raised n k t)
unfolding raised
raised_reduced n k t h = record {
  rising = rising_raised n k 0 0 t.pairs (λ x le. omega arith) h.rising;
  not_zero = All-map (λ (q : ℕ × ℤ). q.1 ≢ pos 0) (λ (q : ℕ × ℤ). (raised_name n k q.0, q.1)) t.pairs h.not_zero;
}

all_raised : (n k : ℕ) (ts : List Linear) → AllByRecursion IsReduced ts → AllByRecursion IsReduced (map (raised n k) ts)
all_raised n k [] h = tt
all_raised n k (t ∷ ts) h = (raised_reduced n k t h.0, all_raised n k ts h.1)

mutual
  pub shifted_reduced : (n k : ℕ) (f : Form) → HasReducedTerms f → HasReducedTerms (shifted n k f)
  shifted_reduced n k (equal t) h = raised_reduced n k t h
  shifted_reduced n k (unequal t) h = raised_reduced n k t h
  shifted_reduced n k (at_least t) h = raised_reduced n k t h
  shifted_reduced n k (holds p ts) h = all_raised n k ts h
  shifted_reduced n k (fails p ts) h = all_raised n k ts h
  shifted_reduced n k (differs f ts u) h = (all_raised n k ts h.0, raised_reduced n k u h.1)
  shifted_reduced n k (conjunction fs) h = all_shifted_reduced n k fs h
  shifted_reduced n k (disjunction fs) h = all_shifted_reduced n k fs h
  shifted_reduced n k (universal f) h = shifted_reduced n k f h
  shifted_reduced n k (existential f) h = shifted_reduced n k f h

  all_shifted_reduced : (n k : ℕ) (fs : Forms) → HaveReducedTerms fs → HaveReducedTerms (all_shifted n k fs)
  all_shifted_reduced n k no_form h = tt
  all_shifted_reduced n k (and_form f fs) h = (shifted_reduced n k f h.0, all_shifted_reduced n k fs h.1)

-- ---- premises
abbrev pub IsReducedMember : Member → Type 0
IsReducedMember m = HasReducedTerms m.formula

brought_reduced : (over n : ℕ) (f : Form) → HasReducedTerms f → HasReducedTerms (brought over n f)
brought_reduced over n f h = shifted_reduced over (n - over) f h

new_reduced : (over n : ℕ) (fs : Forms) → HaveReducedTerms fs → AllByRecursion IsReducedMember (new_members over n fs)
new_reduced over n no_form h = tt
new_reduced over n (and_form f fs) h = (brought_reduced over n f h.0, new_reduced over n fs h.1)

each_reduced : (rest : List Member) (n over : ℕ) (fs : Forms) → AllByRecursion IsReducedMember rest → HaveReducedTerms fs
    → AllByRecursion IsReducedSequent (map (λ new. sequent (rest ++ new) n) (one_each (new_members over n fs)))
each_reduced rest n over no_form r h = tt
each_reduced rest n over (and_form f fs) r h =
    (all_append IsReducedMember rest (member (brought over n f) n 0 ∷ []) r (brought_reduced over n f h.0, tt), each_reduced rest n over fs r h.1)

premises_of_reduced : (s : Sequent) (i over used : ℕ) (f : Form) → HasReducedTerms f → AllByRecursion IsReducedMember (remove s.members i)
    → AllByRecursion IsReducedSequent (premises_at s i (Some (member f over used)))
premises_of_reduced s i over used (conjunction fs) h r = each_reduced (remove s.members i) s.count over fs r h
premises_of_reduced s i over used (disjunction fs) h r = (all_append IsReducedMember (remove s.members i) (new_members over s.count fs) r (new_reduced over s.count fs h), tt)
premises_of_reduced s i over used (universal f) h r =
    (all_append IsReducedMember (remove s.members i) (member (brought over s.count f) (suc s.count) 0 ∷ []) r (brought_reduced over s.count f h, tt), tt)
premises_of_reduced s i over used (existential f) h r =
    (all_append IsReducedMember (remove s.members i) (member (brought over s.count f) (suc s.count) 0 ∷ member (existential f) over (suc used) ∷ []) r (brought_reduced over s.count f h, (h, tt)), tt)
premises_of_reduced s i over used (equal t) h r = tt
premises_of_reduced s i over used (unequal t) h r = tt
premises_of_reduced s i over used (at_least t) h r = tt
premises_of_reduced s i over used (holds p ts) h r = tt
premises_of_reduced s i over used (fails p ts) h r = tt
premises_of_reduced s i over used (differs p ts u) h r = tt

reduced_at : (s : Sequent) (i : ℕ) (o : Option Member) → IsReducedSequent s → slice_get s.members i ≡ o → AllByRecursion IsReducedSequent (premises_at s i o)
reduced_at s i None h is = tt
reduced_at s i (Some m) h is = premises_of_reduced s i m.over m.used m.formula (all_at IsReducedMember s.members i m is h) (all_remove IsReducedMember s.members i h)

pub reduced_by : (s : Sequent) (o : Option ℕ) → IsReducedSequent s → AllByRecursion IsReducedSequent (premises_by s o)
reduced_by s None h = tt
reduced_by s (Some i) h = reduced_at s i (slice_get s.members i) h refl
