-- A formula that lacks a name, without its place: the names above it are lowered by one.
use Rattle.std.specs.Prelude.{ℕ, ◌-◌, nat_lt, nat_eq, cond, map, Bool, false, ◌||◌, List}
use Rattle.std.specs.List.{list_any}
use Rattle.linear_term.specs.Linear.{Linear}
use Rattle.formula.specs.Form.{Form, Forms, equal, unequal, at_least, holds, fails, differs, conjunction, disjunction, universal, existential, no_form, and_form}

-- the term, some term has the name n
abbrev pub has : ℕ → Linear → Bool
has n t = list_any (λ p. nat_eq p.0 n) t.pairs

abbrev pub some_has : ℕ → List Linear → Bool
some_has n ts = list_any (has n) ts

abbrev mutual
  -- the formula has the name n
  pub occurs : ℕ → Form → Bool
  occurs n (equal t) = has n t
  occurs n (unequal t) = has n t
  occurs n (at_least t) = has n t
  occurs n (holds p ts) = some_has n ts
  occurs n (fails p ts) = some_has n ts
  occurs n (differs f ts u) = has n u || some_has n ts
  occurs n (conjunction fs) = occurs_in n fs
  occurs n (disjunction fs) = occurs_in n fs
  occurs n (universal f) = occurs n f
  occurs n (existential f) = occurs n f

  pub occurs_in : ℕ → Forms → Bool
  occurs_in n no_form = false
  occurs_in n (and_form f fs) = occurs n f || occurs_in n fs

-- x, less 1 where it is above n
abbrev pub lowered_name : ℕ → ℕ → ℕ
lowered_name n x = cond (nat_lt n x) (x - 1) x

-- the term with each name above n less 1
abbrev pub lowered : ℕ → Linear → Linear
lowered n t = record { pairs = map (λ p. (lowered_name n p.0, p.1)) t.pairs; constant = t.constant }

abbrev mutual
  -- the formula with each name above n less 1
  pub freed : ℕ → Form → Form
  freed n (equal t) = equal (lowered n t)
  freed n (unequal t) = unequal (lowered n t)
  freed n (at_least t) = at_least (lowered n t)
  freed n (holds p ts) = holds p (map (lowered n) ts)
  freed n (fails p ts) = fails p (map (lowered n) ts)
  freed n (differs f ts u) = differs f (map (lowered n) ts) (lowered n u)
  freed n (conjunction fs) = conjunction (all_freed n fs)
  freed n (disjunction fs) = disjunction (all_freed n fs)
  freed n (universal f) = universal (freed n f)
  freed n (existential f) = existential (freed n f)

  pub all_freed : ℕ → Forms → Forms
  all_freed n no_form = no_form
  all_freed n (and_form f fs) = and_form (freed n f) (all_freed n fs)
