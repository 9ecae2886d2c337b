-- What the check of a line charges: a number in proportion to what the line reads and writes, which is known before the line is made.
-- A price above the greatest number of 64 bits counts as that number.
use Rattle.std.specs.Prelude.{ℕ, suc, ◌≡◌, ◌+◌, ◌*◌, ℤ, List, [], ◌∷◌, ◌++◌, map, length, sum_by, Option, None, Some}
use Rattle.std.specs.List.{slice_get}
use Rattle.base_budget.specs.Trace.{capped}
use Rattle.linear_term.specs.Linear.{Linear}
use Rattle.formula.specs.Form.{Form, Forms, equal, unequal, at_least, holds, fails, differs, conjunction, disjunction, universal, no_form, and_form}
use Rattle.clause_proof.specs.declared.line.Application.{Application}
use Rattle.clause_proof.specs.declared.line.Literal.{Literal}
use Rattle.clause_proof.specs.declared.line.Factor.{Factor}
use Rattle.clause_proof.specs.declared.line.Line.{Line}
use Rattle.clause_proof.specs.declared.line.Line.TheVariants as line
use Rattle.clause_checker.specs.Views.{body_at}
use Rattle.clause_proof.specs.Clauses.{Definition, at_least_zero, is_zero, predicate, closure, State}

-- the width of a term: how many names it has
abbrev pub width : Linear → ℕ
width t = length t.pairs

abbrev pub widths : List Linear → List ℕ
widths ts = map width ts

-- copies of the terms; of terms with these widths
abbrev pub copies_price : List Linear → ℕ
copies_price ts = sum_by (λ t. suc (width t)) ts

abbrev pub widths_price : List ℕ → ℕ
widths_price ws = sum_by suc ws

-- a width, 0 where there is none
abbrev pub or_none : Option ℕ → ℕ
or_none None = 0
or_none (Some w) = w

-- A term with terms of the widths ws for its names: each of these is added to a sum that is at most as wide as all of them.
abbrev pub put_price : List ℕ → Linear → ℕ
put_price ws t = suc (width t) * suc (sum_by (λ p. suc (or_none (slice_get ws p.0))) t.pairs)

abbrev pub puts_price : List ℕ → List Linear → ℕ
puts_price ws ts = sum_by (put_price ws) ts

abbrev pub atom_price : List ℕ → Form → ℕ
atom_price ws (equal t) = put_price ws t
atom_price ws (unequal t) = put_price ws t
atom_price ws (at_least t) = put_price ws t
atom_price ws (holds p ts) = puts_price ws ts
atom_price ws (fails p ts) = puts_price ws ts
atom_price ws f = 0

-- the literal of a formula, with each connective of one member around it
abbrev pub literal_price : List ℕ → Form → ℕ
literal_price ws (conjunction (and_form f no_form)) = suc (literal_price ws f)
literal_price ws (disjunction (and_form f no_form)) = suc (literal_price ws f)
literal_price ws f = suc (atom_price ws f)

-- f is a connective whose only member is g; and it is none with one member
pub record IsLevelAbove (f g : Form) : Type 0 where
  pub is : (ws : List ℕ) → literal_price ws f ≡ suc (literal_price ws g)

pub record IsGround (f : Form) : Type 0 where
  pub is : (ws : List ℕ) → literal_price ws f ≡ suc (atom_price ws f)

abbrev pub members_price : List ℕ → Forms → ℕ
members_price ws no_form = 0
members_price ws (and_form f fs) = literal_price ws f + members_price ws fs

-- Open: the members; or the terms and a new constant, and the body with them.
abbrev pub open_price : List ℕ → Form → ℕ
open_price ws (conjunction fs) = members_price ws fs
open_price ws (disjunction fs) = members_price ws fs
open_price ws (universal f) = widths_price ws + literal_price (ws ++ 1 ∷ []) f
open_price ws f = 0

abbrev pub arguments_price : List ℕ → Form → ℕ
arguments_price ws (differs f ts u) = puts_price ws ts
arguments_price ws f = 0

-- a price of what there is
abbrev pub priced : {A : Type 0} → Option A → (A → ℕ) → ℕ
priced None price = 0
priced (Some x) price = price x

-- the two members of a disjunction under a for-all
abbrev pub two_forms : Forms → Option (Form × Form)
two_forms (and_form f (and_form g no_form)) = Some (f, g)
two_forms fs = None

abbrev pub two_members : Form → Option (Form × Form)
two_members (disjunction fs) = two_forms fs
two_members f = None

abbrev pub reading_of : Form → Option (Form × Form)
reading_of (universal f) = two_members f
reading_of f = None

-- Read: for each application its arguments, and the terms and its constant; what is left with them.
abbrev pub read_price : List ℕ → List ℕ → Form → ℕ
read_price ws [] f = literal_price ws f
read_price ws (b ∷ bs) f = priced (reading_of f) (λ x. suc (widths_price ws) + arguments_price ws x.0 + read_price (ws ++ 1 ∷ []) bs x.1)

-- Instance: for each term all terms so far and itself; the body with them.
abbrev pub instance_price : List ℕ → List Linear → Form → ℕ
instance_price ws [] f = literal_price ws f
instance_price ws (u ∷ us) f = priced (body_at f) (λ g. suc (width u) + widths_price ws + instance_price (ws ++ width u ∷ []) us g)

-- the formula and the terms of a closure
abbrev pub closure_parts : Definition → Option (Form × List Linear)
closure_parts (closure f ts) = Some (f, ts)
closure_parts d = None

abbrev pub found_parts : Option Definition → Option (Form × List Linear)
found_parts None = None
found_parts (Some d) = closure_parts d

-- the terms of an atom
abbrev pub definition_price : Definition → ℕ
definition_price (at_least_zero t) = suc (width t)
definition_price (is_zero t) = suc (width t)
definition_price (predicate p ts) = copies_price ts
definition_price d = 0

-- the terms of the literals of a sum
abbrev pub facts_price : List Definition → List Factor → ℕ
facts_price ds xs = suc (sum_by (λ x. priced (slice_get ds x.literal.variable) definition_price) xs)

abbrev pub application_price : Application → ℕ
application_price x = copies_price x.terms

abbrev pub clause_price : Option (List Literal) → ℕ
clause_price None = 0
clause_price (Some c) = length c

abbrev pub hints_price : List (Option (List Literal)) → List ℕ → ℕ
hints_price cs hs = sum_by (λ h. suc (priced (slice_get cs h) clause_price)) hs

abbrev pub content_price : State → Line → ℕ
content_price s (line.Open i ms) = length ms + priced (found_parts (slice_get s.definitions i)) (λ x. open_price (widths x.1) x.0)
content_price s (line.Apply f ts) = copies_price ts
content_price s (line.Read i bs m) = priced (found_parts (slice_get s.definitions i)) (λ x. read_price (widths x.1) bs x.0)
content_price s (line.Instance i us m) = priced (found_parts (slice_get s.definitions i)) (λ x. instance_price (widths x.1) us x.0)
content_price s (line.Inequality t) = width t
content_price s (line.Equation t) = width t
content_price s (line.Predicate p ts) = copies_price ts
content_price s (line.Split i g h) = priced (slice_get s.definitions i) definition_price
content_price s (line.Sum xs) = length xs * facts_price s.definitions xs
content_price s (line.Pair a b es r) = length es + priced (slice_get s.applications a) application_price + priced (slice_get s.applications b) application_price
content_price s (line.PredicatePair i j es) = length es + priced (slice_get s.definitions i) definition_price + priced (slice_get s.definitions j) definition_price
content_price s (line.Divide d t g h) = width t
content_price s (line.Resolve c hints) = length c + hints_price s.clauses hints
content_price s (line.Delete hints) = length hints

-- a line
abbrev pub price : State → Line → ℕ
price s l = capped (suc (content_price s l))

-- the start: the values, and the root with them
abbrev pub start_price : Form → List ℤ → ℕ
start_price f ks = capped (suc (length ks + literal_price (map (λ k. 0) ks) f))
