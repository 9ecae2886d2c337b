-- New variables, split and quotients.
use Rattle.std.proofs.Common.{◌≡◌, ℕ, suc, ℤ, pos, ◌<ℤ◌, ◌≤ℤ◌, int_lt, Bool, true, false, ◌&&◌, cond, [], ◌∷◌, ◌++◌, length, Option, Some, None, Result, Ok, Err, IsErrAnd, refl, sym, ap, ◌∙◌, arith}
use Rattle.std.proofs.lemmas.Int.{ints}
use Rattle.std.proofs.lemmas.List.{append-nil}
use Rattle.linear_term.specs.Linear.{Linear}
use Rattle.clause_proof.specs.declared.line.Literal.{Literal}
use Rattle.clause_proof.specs.Clauses as q
use Rattle.clause_proof.specs.Atoms as atoms
use Rattle.clause_proof.specs.Lines.{found, stand_all, adding, extended, with_atom, splitted, divided, is_over, rest_of, below_divisor, positive}
use Rattle.clause_checker.specs.declared.fault.Fault.{Fault}
use Rattle.clause_checker.specs.declared.fault.Fault.TheVariants.{Refused}
use Rattle.clause_checker.specs.declared.state.Definition.{Definition}
use Rattle.clause_checker.specs.declared.state.State.{State}
use Rattle.clause_checker.specs.Answers.{Does}
use Rattle.clause_checker.specs.Views.{definition_of, definitions_of, state_of, new_variable, zero_of}
use Rattle.clause_checker.proofs.Doing.{does_some, does_none, does_then, does_err, does_as}
use Rattle.clause_checker.proofs.Stands.{all_one, stand_next, length_of}
use Rattle.clause_checker.proofs.Opens.{adds_stood}

pub variable_pushed : (s t : State) (d : Definition) → t.definitions ≡ s.definitions ++ d ∷ [] → t.clauses ≡ s.clauses → t.applications ≡ s.applications → t.count ≡ s.count
    → Does (λ (u : Unit {0}). state_of t) (extended (state_of s) (new_variable (state_of s) (definition_of d))) (Ok tt)
variable_pushed s t d ds c a n =
    let x = atoms.plain (definition_of d) in
    let m = positive (length (definitions_of s.definitions)) in
    let stood : stand_all (definitions_of s.definitions) (x ∷ []) (m ∷ []) ≡ Some (definitions_of t.definitions)
    = all_one (definitions_of s.definitions) x m ∙ stand_next s.definitions t.definitions d x m refl (length_of s.definitions) ds refl in
    adds_stood s t (x ∷ []) (m ∷ []) [] [] s.count t.definitions (does_some (λ (u : Unit {0}). definitions_of t.definitions) (stand_all (definitions_of s.definitions) (x ∷ []) (m ∷ [])) tt stood) refl
    (c ∙ sym (append-nil s.clauses)) refl a n

pub ruleset pushing = (variable_pushed)

pub atom_yes : {A : Type 0} (v : A → q.State) (s : q.State) (over b : Bool) (d e : q.Definition) (r : Result A Fault) → b ≡ over → b ≡ true → d ≡ e → Does v (extended s (new_variable s d)) r
    → Does v (found (with_atom s over e) (extended s)) r
atom_yes v s over b d e r is yes_is same h =
    does_as v (extended s (new_variable s d)) (found (with_atom s over e) (extended s)) r
    (ap (λ c. found (with_atom s c e) (extended s)) (sym is ∙ yes_is) ∙ ap (λ k. extended s (new_variable s k)) (sym same)) h

pub atom_no : {A : Type 0} (v : A → q.State) (s : q.State) (over b : Bool) (e : q.Definition) → b ≡ over → b ≡ false → Does v (found (with_atom s over e) (extended s)) (Err Refused)
atom_no v s over b e is no_is = does_none v (found (with_atom s over e) (extended s)) (ap (λ c. found (with_atom s c e) (extended s)) (sym is ∙ no_is))

pub ruleset making = (atom_yes, atom_no)

-- ---- split
split_is : (s : q.State) (i : ℕ) (g h : Literal) (o : Option q.Definition) → found (found o (splitted s i g h)) (extended s)
    ≡ found (found o zero_of) (λ t. extended s (adding (atoms.inequality_literal (atoms.less_one t) ∷ atoms.inequality_literal (atoms.opposite_less_one t) ∷ []) (g ∷ h ∷ []) ((positive i ∷ g ∷ h ∷ []) ∷ []) s.count))
split_is s i g h None = refl
split_is s i g h (Some q.always) = refl
split_is s i g h (Some (q.at_least_zero t)) = refl
split_is s i g h (Some (q.is_zero t)) = refl
split_is s i g h (Some (q.predicate p ts)) = refl
split_is s i g h (Some (q.closure f ts)) = refl

pub split_goes : {A : Type 0} (v : A → q.State) (s : q.State) (i : ℕ) (g h : Literal) (o : Option q.Definition) (t : Linear) (r : Result A Fault) → Does (λ (x : Linear). x) (found o zero_of) (Ok t)
    → Does v (extended s (adding (atoms.inequality_literal (atoms.less_one t) ∷ atoms.inequality_literal (atoms.opposite_less_one t) ∷ []) (g ∷ h ∷ []) ((positive i ∷ g ∷ h ∷ []) ∷ []) s.count)) r
    → Does v (found (found o (splitted s i g h)) (extended s)) r
split_goes v s i g h o t r d k =
    does_as v _ (found (found o (splitted s i g h)) (extended s)) r (split_is s i g h o)
    (does_then (λ (x : Linear). x) v (found o zero_of) (λ t. extended s (adding (atoms.inequality_literal (atoms.less_one t) ∷ atoms.inequality_literal (atoms.opposite_less_one t) ∷ []) (g ∷ h ∷ []) ((positive i ∷ g ∷ h ∷ []) ∷ []) s.count)) t r d k)

pub split_stops : {A : Type 0} (v : A → q.State) (s : q.State) (i : ℕ) (g h : Literal) (o : Option q.Definition) (e : Fault) (r : Result A Fault) → IsErrAnd r (λ y. y ≡ e) → Does (λ (x : Linear). x) (found o zero_of) (Err e)
    → Does v (found (found o (splitted s i g h)) (extended s)) r
split_stops v s i g h o e r err d =
    does_as v _ (found (found o (splitted s i g h)) (extended s)) r (split_is s i g h o)
    (does_err (λ (x : Linear). x) v (found o zero_of) (λ t. extended s (adding (atoms.inequality_literal (atoms.less_one t) ∷ atoms.inequality_literal (atoms.opposite_less_one t) ∷ []) (g ∷ h ∷ []) ((positive i ∷ g ∷ h ∷ []) ∷ []) s.count)) e r err d)

pub ruleset splitting = (split_goes, split_stops)

-- ---- divide
above : (d : ℤ) → pos 0 <ℤ d → int_lt (pos 0) d ≡ true
above d h = grind (arith, ints)

not_above : (d : ℤ) → d ≤ℤ pos 0 → int_lt (pos 0) d ≡ false
not_above d h = grind (arith, ints)

abbrev divided_by : q.State → ℤ → Linear → Literal → Literal → Bool → Option q.State
divided_by s d t g h b = found (cond b (Some (adding (atoms.inequality_literal (rest_of t d s.count) ∷ atoms.inequality_literal (below_divisor (rest_of t d s.count) d) ∷ []) (g ∷ h ∷ []) ((g ∷ []) ∷ (h ∷ []) ∷ []) (suc s.count))) None) (extended s)

pub divided_low : {A : Type 0} (v : A → q.State) (s : q.State) (d : ℤ) (t : Linear) (g h : Literal) → d ≤ℤ pos 0 → Does v (found (divided s d t g h) (extended s)) (Err Refused)
divided_low v s d t g h low = does_none v (found (divided s d t g h) (extended s)) (ap (λ c. divided_by s d t g h (c && is_over s.count t)) (not_above d low))

pub divided_not : {A : Type 0} (v : A → q.State) (s : q.State) (d : ℤ) (t : Linear) (g h : Literal) (b : Bool) → pos 0 <ℤ d → b ≡ is_over s.count t → b ≡ false → Does v (found (divided s d t g h) (extended s)) (Err Refused)
divided_not v s d t g h b some is no_is =
    does_none v (found (divided s d t g h) (extended s)) (ap (λ c. divided_by s d t g h (c && is_over s.count t)) (above d some) ∙ ap (λ c. divided_by s d t g h c) (sym is ∙ no_is))

pub divided_yes : {A : Type 0} (v : A → q.State) (s : q.State) (d : ℤ) (t : Linear) (g h : Literal) (b : Bool) (r : Result A Fault) → pos 0 <ℤ d → b ≡ is_over s.count t → b ≡ true
    → Does v (extended s (adding (atoms.inequality_literal (rest_of t d s.count) ∷ atoms.inequality_literal (below_divisor (rest_of t d s.count) d) ∷ []) (g ∷ h ∷ []) ((g ∷ []) ∷ (h ∷ []) ∷ []) (suc s.count))) r
    → Does v (found (divided s d t g h) (extended s)) r
divided_yes v s d t g h b r some is yes_is k =
    does_as v _ (found (divided s d t g h) (extended s)) r (ap (λ c. divided_by s d t g h (c && is_over s.count t)) (above d some) ∙ ap (λ c. divided_by s d t g h c) (sym is ∙ yes_is)) k

pub ruleset dividing = (divided_low, divided_not, divided_yes)
