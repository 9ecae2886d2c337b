-- What each line of a clause proof makes.
--
-- A line is sound when it never makes the clauses absurd that were not: wherever all clauses before it are true, those after
-- it are true too, for some value of its new constant if it has one. The clauses that open a formula have one direction alone
-- (Plaisted and Greenbaum, A structure-preserving clause form translation, 1986): a formula is false, so some member is.
-- No formula is ever copied: a closure is a formula with a term for each of its names, and a member of it has the same terms.
use Rattle.std.specs.Prelude.{ℕ, zero, suc, ℤ, pos, negsuc, ◌+ℤ◌, Bool, true, false, not, ◌&&◌, ◌||◌, nat_eq, nat_lt, int_le, int_lt, neg_ℤ, cond, List, [], ◌∷◌, ◌++◌, length, map, filter, slice_set, Option, None, Some}
use Rattle.std.specs.List.{list_all, list_any, slice_get}
use Rattle.linear_term.specs.Linear.{Linear, name, number}
use Rattle.linear_term.specs.Combination.{combination}
use Rattle.formula.specs.Form.{Form, Forms, equal, unequal, at_least, holds, fails, differs, conjunction, disjunction, universal, existential, no_form, and_form}
use Rattle.clause_proof.specs.declared.line.Application.{Application}
use Rattle.clause_proof.specs.declared.line.Literal.{Literal}
use Rattle.clause_proof.specs.declared.line.Factor.{Factor}
use Rattle.clause_proof.specs.declared.line.Line.{Line}
use Rattle.clause_proof.specs.declared.line.Line.TheVariants as line
use Rattle.clause_proof.specs.Clauses.{Definition, always, at_least_zero, is_zero, predicate, closure, State}
use Rattle.form_closures.specs.Putting.{put_in}
use Rattle.clause_proof.specs.Atoms.{Signed, plain, less_one, opposite_less_one, inequality_literal, equation_literal, literal_of, same_term, same_terms, same_definition}

-- variable number i is true; is false
abbrev pub positive : ℕ → Literal
positive i = record { variable = i; positive = true }

abbrev pub negative : ℕ → Literal
negative i = record { variable = i; positive = false }

abbrev pub opposite : Literal → Literal
opposite l = record { variable = l.variable; positive = not l.positive }

-- first x, if it is there, then f of it
abbrev pub found : {A B : Type 0} → Option A → (A → Option B) → Option B
found None f = None
found (Some x) f = f x

abbrev pub same_sign : Bool → Bool → Bool
same_sign true b = b
same_sign false b = not b

-- what a line adds: what its literals stand for, clauses, applications, and how many constants there are then
pub record Addition : Type 0 where
  pub meant : List Signed
  pub literals : List Literal
  pub clauses : List (Option (List Literal))
  pub applications : List Application
  pub count : ℕ

-- The literal stands for x: it has the sign of x, and its variable is a known one that stands for the same, or the next new one.
abbrev pub known_as : List Definition → Option Definition → Definition → Option (List Definition)
known_as ds None d = None
known_as ds (Some c) d = cond (same_definition c d) (Some ds) None

abbrev pub stand : List Definition → Signed → Literal → Option (List Definition)
stand ds x m =
    cond (same_sign x.positive m.positive)
    (cond (nat_eq m.variable (length ds)) (Some (ds ++ x.definition ∷ [])) (known_as ds (slice_get ds m.variable) x.definition))
    None

-- each literal in turn stands for what it is meant to
abbrev pub stand_all : List Definition → List Signed → List Literal → Option (List Definition)
stand_all ds [] [] = Some ds
stand_all ds [] (m ∷ ms) = None
stand_all ds (x ∷ xs) [] = None
stand_all ds (x ∷ xs) (m ∷ ms) = found (stand ds x m) (λ cs. stand_all cs xs ms)

abbrev pub extended : State → Addition → Option State
extended s a =
    found (stand_all s.definitions a.meant a.literals)
    (λ ds. Some (record { definitions = ds; clauses = s.clauses ++ a.clauses; applications = s.applications ++ a.applications; count = a.count }))

-- clauses over literals that stand for these, with n constants
abbrev pub adding : List Signed → List Literal → List (List Literal) → ℕ → Addition
adding xs ms cs n = record { meant = xs; literals = ms; clauses = map Some cs; applications = []; count = n }

-- clauses alone
abbrev pub clauses_of : State → List (List Literal) → Addition
clauses_of s cs = adding [] [] cs s.count

-- the first number that no variable has
abbrev pub next_number : State → ℕ
next_number s = length s.definitions

-- variable i is true, or some of these is false; and for each of these: variable i is true, or it is false
abbrev pub some_false : ℕ → List Literal → List Literal
some_false i ms = positive i ∷ map opposite ms

abbrev pub each_false : ℕ → List Literal → List (List Literal)
each_false i ms = map (λ m. positive i ∷ opposite m ∷ []) ms

-- the members with the terms ts for their names
abbrev pub members : Forms → List Linear → List Signed
members no_form ts = []
members (and_form f fs) ts = literal_of f ts ∷ members fs ts

-- Open. A conjunction that is false has a member that is; each member of a false disjunction is. The body of a false for-all is
-- false at some value, and the new constant is that value (a Skolem constant).
abbrev pub opened : State → ℕ → List Literal → Form → List Linear → Option Addition
opened s i ms (conjunction fs) ts = Some (adding (members fs ts) ms (some_false i ms ∷ []) s.count)
opened s i ms (disjunction fs) ts = Some (adding (members fs ts) ms (each_false i ms) s.count)
opened s i ms (universal f) ts = Some (adding (literal_of f (ts ++ name s.count ∷ []) ∷ []) ms (each_false i ms) (suc s.count))
opened s i ms f ts = None

-- a formula with a term for each of its names
abbrev pub Inner : Type 0
Inner = Form × List Linear

-- variable i is a closure that is true where this is
abbrev pub implied_by : State → ℕ → Literal → Inner → Option Addition
implied_by s i m x = Some (adding (literal_of x.0 x.1 ∷ []) (m ∷ []) (each_false i (m ∷ [])) s.count)

-- the names of the term, of the terms are below n
abbrev pub is_over : ℕ → Linear → Bool
is_over n t = list_all (λ p. nat_lt p.0 n) t.pairs

abbrev pub are_over : ℕ → List Linear → Bool
are_over n ts = list_all (is_over n) ts

-- Apply. A new constant is the value of a function at terms.
abbrev pub applied : State → ℕ → List Linear → Option Addition
applied s f ts =
    cond (are_over s.count ts)
    (Some (record { meant = []; literals = []; clauses = []; applications = record { function = f; terms = ts; constant = s.count } ∷ []; count = suc s.count }))
    None

-- Read. For all u, f(ss) is not u or the rest is true: this is the rest with the value of f(ss) for u, which an application knows.
-- The formula is so, for the n-th name u and the application x, where ss with the terms ts are the terms of x.
abbrev pub reads : Application → ℕ → List Linear → ℕ → List Linear → Linear → Bool
reads x f ss n ts u = nat_eq x.function f && (are_over n ss && (same_terms (map (put_in ts) ss) x.terms && same_term u (name n)))

-- f(ss) is not u
abbrev pub reads_atom : Application → List Linear → Form → Bool
reads_atom x ts (differs f ss u) = reads x f ss (length ts) ts u
reads_atom x ts g = false

-- two members, of which the first passes: the second
abbrev pub second_form : (Form → Bool) → Forms → Option Form
second_form test (and_form f (and_form g no_form)) = cond (test f) (Some g) None
second_form test fs = None

abbrev pub second_of : (Form → Bool) → Form → Option Form
second_of test (disjunction fs) = second_form test fs
second_of test g = None

abbrev pub read_one : Application → List Linear → Form → Option Form
read_one x ts (universal f) = second_of (reads_atom x ts) f
read_one x ts g = None

-- what is left of a formula that reads these applications in turn
abbrev pub read_all : List Application → List ℕ → Form → List Linear → Option Inner
read_all apps [] f ts = Some (f, ts)
read_all apps (a ∷ more) f ts = found (slice_get apps a) (λ x. found (read_one x ts f) (λ g. read_all apps more g (ts ++ name x.constant ∷ [])))

-- Instance. The body of a false for-some is false at every value, so at those of the terms.
abbrev pub bodies : List Linear → Form → List Linear → Option Inner
bodies [] f ts = Some (f, ts)
bodies (u ∷ us) (existential f) ts = bodies us f (ts ++ u ∷ [])
bodies (u ∷ us) f ts = None

abbrev pub instanced : State → ℕ → List Linear → Literal → Form → List Linear → Option Addition
instanced s i us m f ts = cond (are_over s.count us) (found (bodies us f ts) (implied_by s i m)) None

-- Inequality, equation, predicate. A new variable, of which no clause speaks.
abbrev pub with_atom : State → Bool → Definition → Option Addition
with_atom s over d = cond over (Some (adding (plain d ∷ []) (positive (next_number s) ∷ []) [] s.count)) None

-- Split. A number is 0, at least 1, or at most -1.
abbrev pub splitted : State → ℕ → Literal → Literal → Definition → Option Addition
splitted s i g h (is_zero t) =
    Some (adding (inequality_literal (less_one t) ∷ inequality_literal (opposite_less_one t) ∷ []) (g ∷ h ∷ []) ((positive i ∷ g ∷ h ∷ []) ∷ []) s.count)
splitted s i g h _ = None

-- what the falsity of a literal says of a term: it is 0, if the truth value beside it is true, else it is at least 0
abbrev pub Fact : Type 0
Fact = Linear × Bool

abbrev pub fact_of : Definition → Bool → Option Fact
fact_of (at_least_zero t) true = Some (opposite_less_one t, false)
fact_of (at_least_zero t) false = Some (t, false)
fact_of (is_zero t) false = Some (t, true)
fact_of d b = None

abbrev pub fact_at : List Definition → Literal → Option Fact
fact_at ds l = found (slice_get ds l.variable) (λ d. fact_of d l.positive)

-- u, and k times the fact: an inequality has no negative multiplier
abbrev pub with_fact : ℤ → Fact → Fact → Option Fact
with_fact k u f = cond (f.1 || int_le (pos 0) k) (Some (combination (pos 1) u.0 k f.0, u.1 && f.1)) None

-- u, and the weighted sum of the facts
abbrev pub sum_of : List Definition → List Factor → Fact → Option Fact
sum_of ds [] u = Some u
sum_of ds (x ∷ xs) u = found (found (fact_at ds x.literal) (with_fact x.by u)) (sum_of ds xs)

-- a literal that is false
abbrev pub is_absurd : Signed → Bool
is_absurd x = not x.positive && same_definition x.definition always

abbrev pub literal_of_fact : Fact → Signed
literal_of_fact u = cond u.1 (equation_literal u.0) (inequality_literal u.0)

-- Sum. If all the literals were false, a weighted sum would be absurd: a number below 0 that is at least 0 (Farkas), or, of
-- equations alone, a sum whose constant the greatest common divisor of its coefficients does not divide.
abbrev pub summed : State → List Factor → Option Addition
summed s xs = found (sum_of s.definitions xs (number (pos 0), true)) (λ u. cond (is_absurd (literal_of_fact u)) (Some (clauses_of s (map (λ x. x.literal) xs ∷ []))) None)

-- s1 - t1, .., sn - tn
abbrev pub differences : List Linear → List Linear → List Linear
differences [] ts = []
differences (s ∷ ss) [] = []
differences (s ∷ ss) (t ∷ ts) = combination (pos 1) s (negsuc 0) t ∷ differences ss ts

abbrev pub equations : List Linear → List Linear → List Signed
equations ss ts = map equation_literal (differences ss ts)

-- Pair. Where the arguments of two applications of one function are equal, so are their constants.
abbrev pub paired : State → List Literal → Literal → Application → Application → Option Addition
paired s es r x y =
    cond (nat_eq x.function y.function && nat_eq (length x.terms) (length y.terms))
    (Some (adding (equation_literal (combination (pos 1) (name x.constant) (negsuc 0) (name y.constant)) ∷ equations x.terms y.terms) (r ∷ es) ((r ∷ map opposite es) ∷ []) s.count))
    None

-- Predicate pair. Where the arguments are equal, the first implies the second.
abbrev pub predicates_paired : State → ℕ → ℕ → List Literal → Definition → Definition → Option Addition
predicates_paired s i j es (predicate p ss) (predicate q ts) =
    cond (nat_eq p q && nat_eq (length ss) (length ts)) (Some (adding (equations ss ts) es ((negative i ∷ positive j ∷ map opposite es) ∷ []) s.count)) None
predicates_paired s i j es c d = None

-- t - d·c
abbrev pub rest_of : Linear → ℤ → ℕ → Linear
rest_of t d c = combination (pos 1) t (neg_ℤ d) (name c)

-- (d - 1) - u
abbrev pub below_divisor : Linear → ℤ → Linear
below_divisor u d = combination (negsuc 0) u (pos 1) (number (d +ℤ negsuc 0))

-- Divide. For a positive d the new constant c is the floor of t / d: t - d·c is from 0 to d - 1.
abbrev pub divided : State → ℤ → Linear → Literal → Literal → Option Addition
divided s d t g h =
    let u = rest_of t d s.count in
    cond (int_lt (pos 0) d && is_over s.count t)
    (Some (adding (inequality_literal u ∷ inequality_literal (below_divisor u d) ∷ []) (g ∷ h ∷ []) ((g ∷ []) ∷ (h ∷ []) ∷ []) (suc s.count)))
    None

abbrev pub is_literal : Literal → Literal → Bool
is_literal k l = nat_eq k.variable l.variable && same_sign k.positive l.positive

-- the literals of the clause that are not among the false ones
abbrev pub left_of : List Literal → List Literal → List Literal
left_of false_ones c = filter (λ l. not (list_any (is_literal l) false_ones)) c

-- the clause, if it is there and not deleted, is as the test says
abbrev pub clause_passes : Option (Option (List Literal)) → (List Literal → Bool) → Bool
clause_passes None test = false
clause_passes (Some None) test = false
clause_passes (Some (Some c)) test = test c

-- no literal is left, or one is, which is as the test says
abbrev pub unit_passes : List Literal → (Literal → Bool) → Bool
unit_passes [] test = true
unit_passes (l ∷ []) test = test l
unit_passes (l ∷ k ∷ ls) test = false

-- Unit propagation: with these literals false, each clause in turn has one literal left, which so is true, until one has none.
abbrev pub clashes : List (Option (List Literal)) → List ℕ → List Literal → Bool
clashes cs [] false_ones = false
clashes cs (h ∷ hs) false_ones =
    clause_passes (slice_get cs h) (λ c. unit_passes (left_of false_ones c) (λ l. clashes cs hs (false_ones ++ opposite l ∷ [])))

-- the variables of the literals are among the first n
abbrev pub are_known : ℕ → List Literal → Bool
are_known n ls = list_all (λ l. nat_lt l.variable n) ls

-- Resolve. A clause whose falsity clashes with earlier clauses is true (reverse unit propagation: Goldberg and Novikov, Verification
-- of proofs of unsatisfiability for CNF formulas, 2003; with hints: Cruz-Filipe and others, Efficient certified RAT verification, 2017).
abbrev pub resolved : State → List Literal → List ℕ → Option Addition
resolved s c hints = cond (are_known (next_number s) c && clashes s.clauses hints c) (Some (clauses_of s (c ∷ []))) None

-- Delete. Fewer clauses say less.
abbrev pub without_clauses : List (Option (List Literal)) → List ℕ → List (Option (List Literal))
without_clauses cs [] = cs
without_clauses cs (h ∷ hs) = without_clauses (slice_set cs h None) hs

-- variable number i, if it is a closure
abbrev pub as_closure : {A : Type 0} → Definition → (Form → List Linear → Option A) → Option A
as_closure (closure f ts) k = k f ts
as_closure d k = None

abbrev pub closure_at : {A : Type 0} → State → ℕ → (Form → List Linear → Option A) → Option A
closure_at s i k = found (slice_get s.definitions i) (λ d. as_closure d k)

-- what a line adds, if all is as it needs it
abbrev pub added : State → Line → Option Addition
added s (line.Open i ms) = closure_at s i (opened s i ms)
added s (line.Apply f ts) = applied s f ts
added s (line.Read i apps m) = closure_at s i (λ f ts. found (read_all s.applications apps f ts) (implied_by s i m))
added s (line.Instance i us m) = closure_at s i (instanced s i us m)
added s (line.Inequality t) = with_atom s (is_over s.count t) (inequality_literal t).definition
added s (line.Equation t) = with_atom s (is_over s.count t) (equation_literal t).definition
added s (line.Predicate p ts) = with_atom s (are_over s.count ts) (predicate p ts)
added s (line.Split i g h) = found (slice_get s.definitions i) (splitted s i g h)
added s (line.Sum xs) = summed s xs
added s (line.Pair a b es r) = found (slice_get s.applications a) (λ x. found (slice_get s.applications b) (paired s es r x))
added s (line.PredicatePair i j es) = found (slice_get s.definitions i) (λ c. found (slice_get s.definitions j) (predicates_paired s i j es c))
added s (line.Divide d t g h) = divided s d t g h
added s (line.Resolve c hints) = resolved s c hints
added s (line.Delete hints) = None

-- the state after a line
abbrev pub after : State → Line → Option State
after s (line.Delete hints) = Some (record { definitions = s.definitions; clauses = without_clauses s.clauses hints; applications = s.applications; count = s.count })
after s l = found (added s l) (extended s)
