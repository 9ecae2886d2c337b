-- Premises of a well-formed sequent are well formed.
use Rattle.std.proofs.Common.{◌≡◌, ℕ, suc, ◌+◌, ◌-◌, ◌≤◌, List, [], ◌∷◌, ◌++◌, map, Some, sym, subst, arith}
use Rattle.std.specs.List.{AllByRecursion, remove, slice_get}
use Rattle.formula.specs.Form.{Form, Forms, equal, unequal, at_least, holds, fails, differs, conjunction, disjunction, universal, existential, no_form, and_form, IsFormOver, AreFormsOver}
use Rattle.sequent.specs.Sequent.{Member, Sequent, member, sequent, IsMember, IsFormedSequent}
use Rattle.sequent.specs.Rules.{brought, new_members, one_each, premises_at}
use Rattle.formula.proofs.Overs.{form_over}
use Rattle.sequent.proofs.Members.{all_append, all_remove, all_at, all_same}

brought_over : (over n b : ℕ) (f : Form) → over ≤ n → IsFormOver (over + b) f → IsFormOver (n + b) (brought over n f)
brought_over over n b f le h =
    let whole : over + (n - over) ≡ n = omega (arith, le) in
    subst (λ m. IsFormOver (m + b) (brought over n f)) whole (form_over over (n - over) b f h)

-- a formula of the principal, among all constants
pub new_formed : (over n : ℕ) (f : Form) → over ≤ n → IsFormOver over f → IsMember n (member (brought over n f) n 0)
new_formed over n f le h =
    let none : over + 0 ≡ over = omega arith in
    let same : n + 0 ≡ n = omega arith in
    record { within = omega arith; formed = subst (λ m. IsFormOver m (brought over n f)) same (brought_over over n 0 f le (subst (λ m. IsFormOver m f) (sym none) h)) }

body_formed : (over n : ℕ) (f : Form) → over ≤ n → IsFormOver (suc over) f → IsMember (suc n) (member (brought over n f) (suc n) 0)
body_formed over n f le h =
    let one : over + 1 ≡ suc over = omega arith in
    let same : n + 1 ≡ suc n = omega arith in
    record { within = omega arith; formed = subst (λ m. IsFormOver m (brought over n f)) same (brought_over over n 1 f le (subst (λ m. IsFormOver m f) (sym one) h)) }

all_new_formed : (over n : ℕ) (fs : Forms) → over ≤ n → AreFormsOver over fs → AllByRecursion (IsMember n) (new_members over n fs)
all_new_formed over n no_form le h = tt
all_new_formed over n (and_form f fs) le h = (new_formed over n f le h.0, all_new_formed over n fs le h.1)

one_more : (n : ℕ) (m : Member) → IsMember n m → IsMember (suc n) m
one_more n m h = record { within = omega (arith, h.within); formed = h.formed }

each_formed : (rest : List Member) (n over : ℕ) (fs : Forms) → AllByRecursion (IsMember n) rest → over ≤ n → AreFormsOver over fs
    → AllByRecursion IsFormedSequent (map (λ new. sequent (rest ++ new) n) (one_each (new_members over n fs)))
each_formed rest n over no_form r le h = tt
each_formed rest n over (and_form f fs) r le h =
    (all_append (IsMember n) rest (member (brought over n f) n 0 ∷ []) r (new_formed over n f le h.0, tt), each_formed rest n over fs r le h.1)

premises_of_formed : (s : Sequent) (i over used : ℕ) (f : Form) → over ≤ s.count → IsFormOver over f → AllByRecursion (IsMember s.count) (remove s.members i)
    → AllByRecursion IsFormedSequent (premises_at s i (Some (member f over used)))
premises_of_formed s i over used (conjunction fs) le h r = each_formed (remove s.members i) s.count over fs r le h
premises_of_formed s i over used (disjunction fs) le h r = (all_append (IsMember s.count) (remove s.members i) (new_members over s.count fs) r (all_new_formed over s.count fs le h), tt)
premises_of_formed s i over used (universal f) le h r = (
  all_append (IsMember (suc s.count)) (remove s.members i) (member (brought over s.count f) (suc s.count) 0 ∷ []) (all_same (IsMember s.count) (IsMember (suc s.count)) (remove s.members i) (one_more s.count) r)
      (body_formed over s.count f le h, tt),
  tt,
)
premises_of_formed s i over used (existential f) le h r = (
  all_append (IsMember (suc s.count)) (remove s.members i) (member (brought over s.count f) (suc s.count) 0 ∷ member (existential f) over (suc used) ∷ [])
      (all_same (IsMember s.count) (IsMember (suc s.count)) (remove s.members i) (one_more s.count) r)
      (body_formed over s.count f le h, (one_more s.count (member (existential f) over (suc used)) (record { within = le; formed = h }), tt)),
  tt,
)
premises_of_formed s i over used (equal t) le h r = tt
premises_of_formed s i over used (unequal t) le h r = tt
premises_of_formed s i over used (at_least t) le h r = tt
premises_of_formed s i over used (holds p ts) le h r = tt
premises_of_formed s i over used (fails p ts) le h r = tt
premises_of_formed s i over used (differs p ts u) le h r = tt

pub premises_formed : (s : Sequent) (i : ℕ) (m : Member) → IsFormedSequent s → slice_get s.members i ≡ Some m → AllByRecursion IsFormedSequent (premises_at s i (Some m))
premises_formed s i m formed is =
    let one = all_at (IsMember s.count) s.members i m is formed in
    premises_of_formed s i m.over m.used m.formula one.within one.formed (all_remove (IsMember s.count) s.members i formed)

-- a formula alone, over this many constants
pub start_formed : (f : Form) (n : ℕ) → IsFormOver n f → IsFormedSequent (sequent (member f n 0 ∷ []) n)
start_formed f n h = (record { within = omega arith; formed = h }, tt)
