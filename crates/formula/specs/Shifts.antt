-- A formula brought to a scope of more names: the names from one on are raised.
use Rattle.std.specs.Prelude.{ℕ, ◌+◌, nat_lt, cond, map, All}
use Rattle.linear_term.specs.Linear.{Linear, IsOver}
use Rattle.formula.specs.Form.{Form, Forms, equal, unequal, at_least, holds, fails, differs, conjunction, disjunction, universal, existential, no_form, and_form}

-- x, raised by k where it is not below n
abbrev pub raised_name : ℕ → ℕ → ℕ → ℕ
raised_name n k x = cond (nat_lt x n) x (x + k)

-- the term with each name from n on raised by k
unfoldable pub raised : ℕ → ℕ → Linear → Linear
raised n k t = record { pairs = map (λ p. (raised_name n k p.0, p.1)) t.pairs; constant = t.constant }

abbrev mutual
  -- the formula with each name from n on raised by k
  pub shifted : ℕ → ℕ → Form → Form
  shifted n k (equal t) = equal (raised n k t)
  shifted n k (unequal t) = unequal (raised n k t)
  shifted n k (at_least t) = at_least (raised n k t)
  shifted n k (holds p ts) = holds p (map (raised n k) ts)
  shifted n k (fails p ts) = fails p (map (raised n k) ts)
  shifted n k (differs f ts u) = differs f (map (raised n k) ts) (raised n k u)
  shifted n k (conjunction fs) = conjunction (all_shifted n k fs)
  shifted n k (disjunction fs) = disjunction (all_shifted n k fs)
  shifted n k (universal f) = universal (shifted n k f)
  shifted n k (existential f) = existential (shifted n k f)

  pub all_shifted : ℕ → ℕ → Forms → Forms
  all_shifted n k no_form = no_form
  all_shifted n k (and_form f fs) = and_form (shifted n k f) (all_shifted n k fs)

abbrev mutual
  -- every name of the formula, bound ones included, is below n
  pub IsBelow : ℕ → Form → Type 0
  IsBelow n (equal t) = IsOver n t
  IsBelow n (unequal t) = IsOver n t
  IsBelow n (at_least t) = IsOver n t
  IsBelow n (holds p ts) = All (IsOver n) ts
  IsBelow n (fails p ts) = All (IsOver n) ts
  IsBelow n (differs f ts u) = All (IsOver n) ts × IsOver n u
  IsBelow n (conjunction fs) = AreBelow n fs
  IsBelow n (disjunction fs) = AreBelow n fs
  IsBelow n (universal f) = IsBelow n f
  IsBelow n (existential f) = IsBelow n f

  pub AreBelow : ℕ → Forms → Type 0
  AreBelow n no_form = Unit {0}
  AreBelow n (and_form f fs) = IsBelow n f × AreBelow n fs
