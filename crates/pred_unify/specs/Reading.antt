-- A leaf that is read where its members lie: references to all of them, and to those that have pairs.
use Rattle.std.specs.Borrow.{Bor}
use Rattle.std.specs.Int.RustNames.{bit_and, bit_or}
use Rattle.std.specs.List.{flat_map}
use Rattle.std.specs.Prelude.{◌≡◌, ℕ, ◌^◌, ◌%◌, Bool, true, false, List, [], ◌++◌, drop, map, filter}
use Rattle.formula.specs.Form.{Form, holds, fails, differs, is_pure}
use Rattle.formula.specs.Tree.{form}
use Rattle.linear_term.specs.Linear.{Linear}
use Rattle.pred_unify.specs.Pairs.{alike}
use Rattle.base_budget.specs.Trace.{Traced, just, next}
use Rattle.sequent.specs.declared.member.Member.{Member}
use Rattle.sequent.specs.declared.member.Sequent.{Sequent}
use Rattle.pred_unify.specs.declared.leaf.Leaf.{Leaf}
use Rattle.pred_unify.specs.declared.leaf.Met.{Met}

-- what the references lead to
abbrev pub behind : List (Bor Member) → List Member
behind rs = map (λ r. r.now) rs

-- a predicate that holds
abbrev pub is_holding : Form → Bool
is_holding (holds p ss) = true
is_holding _ = false

-- a function with another value
abbrev pub is_differing : Form → Bool
is_differing (differs f ss u) = true
is_differing _ = false

-- the predicate p holds, at as many arguments as in ss
abbrev pub meets : ℕ → List Linear → Form → Bool
meets p ss (holds q ts) = alike p ss q ts
meets p ss _ = false

-- the member m, whose formula is g, with each of these in which its predicate holds, if it is a negated predicate
abbrev pub partners : Member → Form → List Member → List (Member × Member)
partners m (fails p ss) hs = map (λ h. (m, h)) (filter (λ h. meets p ss (form h.formula)) hs)
partners m _ hs = []

-- the negated predicates, each with the predicates that it meets
abbrev pub meetings : List Member → List (Member × Member)
meetings ms = flat_map (λ m. partners m (form m.formula) ms) ms

-- the meetings of those that are met
abbrev pub meetings_by : List (Bor Member) → List Met → List (Member × Member)
meetings_by hs xs = flat_map (λ x. partners x.failing.now (form x.failing.now.formula) (behind (drop x.first hs))) xs

-- a mask with the bit of the predicate that holds
abbrev pub with_bit : Form → ℕ → ℕ
with_bit (holds p ss) mask = bit_or mask (2 ^ (p % 64))
with_bit _ mask = mask

-- a predicate whose bit is not in the mask meets none of these
abbrev pub Masks : ℕ → List Member → Type 0
Masks mask hs = (p : ℕ) (ss : List Linear) → bit_and mask (2 ^ (p % 64)) ≡ 0 → filter (λ h. meets p ss (form h.formula)) hs ≡ []

-- what the work gives, after those in out
abbrev pub onto : List Form → Traced (List Form) → Traced (List Form)
onto out w = next w (λ fs. just (out ++ fs))

-- the members whose formula is of a kind
abbrev pub among : (Form → Bool) → List Member → List Member
among test ms = filter (λ m. test (form m.formula)) ms

-- the sequent of the leaf
abbrev pub sequent_at : Leaf → Sequent
sequent_at l = record { members = behind l.members.items; count = l.count }

-- the references to the members of each kind are those, and so are the meetings
pub record HasKinds (l : Leaf) : Type 0 where
  pub holding : behind l.holding.items ≡ among is_holding (behind l.members.items)
  pub met : meetings_by l.holding.items l.met.items ≡ meetings (behind l.members.items)
  pub differing : behind l.differing.items ≡ among is_differing (behind l.members.items)
  pub pure : behind l.pure.items ≡ among is_pure (behind l.members.items)
