-- Each tree of the logic is that of a typed formula, so each file without faults poses a problem.
use Rattle.std.proofs.Common.{◌≡◌, ℕ, List, [], ◌∷◌, length, Option, Some, None, Result, Ok, Err, ◌⊎◌, inl, inr, refl, ap, ◌∙◌}
use Rattle.std.specs.List.{flat_map}
use Rattle.form_typed.specs.declared.typed.Typed.{Typed}
use Rattle.form_typed.specs.declared.typed.Typed.TheVariants as f
use Rattle.form_typed.specs.declared.typed.TypedTerm.{TypedTerm}
use Rattle.form_typed.specs.declared.typed.TypedTerm.TheVariants as e
use Rattle.form_typed.specs.Formula.{Formula, Formulas, Expression, Expressions, formula, formulas_of, expression, expressions_of, constant, compares, applies, negation, every, some, implies, iff, for_all, for_some, part, no_formula, and_formula, number, name, call, minus, total, product, choice, absolute, lesser, greater, no_expression, and_expression}
use Rattle.form_typed.proofs.Folds as fold
use Rattle.pri_tokens.specs.Lexemes.{lexemes_of}
use Rattle.pri_reader.specs.declared.tree.File.{File}
use Rattle.pri_reader.specs.declared.tree.ReadRefusal.{ReadRefusal}
use Rattle.pri_reader.specs.Machine.{run}
use Rattle.pri_reader.specs.MachineStates.{a_block}
use Rattle.pri_reader.specs.Reading.{file_setting}
use Rattle.pri_reader.proofs.FirstRefusal.{first_refused}
use Rattle.pri_reader.proofs.Sound.{file_sound}
use Rattle.pri_reader.proofs.SourceFiles.{small_asks, shallow_asks}
use Rattle.pri_typing.specs.declared.problem.Problem.{Problem}
use Rattle.pri_typing.specs.declared.problem.TypeRefusal.{TypeRefusal}
use Rattle.pri_typing.specs.Scope.{declarations, existentials, universals, functions, predicates}
use Rattle.pri_typing.specs.Faults.{least}
use Rattle.pri_typing.specs.Sorts.{existential_sorts, universal_sorts}
use Rattle.pri_typing.specs.Files.{file_faults, IsTyped, scope_of, problem_of}
use Rattle.pri_typing.specs.Parts.{cuts_in}
use Rattle.pri_typing.specs.Typing.{says, applications, first_of, part_names}
use Rattle.pri_problem.specs.Reads.{IsFileOf, Reads, Refusal, FirstRefusal, unread, untyped}

mutual
  -- a typed formula of this tree
  typed : Formula → Typed
  typed (constant b) = f.Truth b
  typed (compares r s t) = f.Rel r (typed_term s) (typed_term t)
  typed (applies p ts) = f.Pred p (all_terms ts)
  typed (negation g) = f.Not (typed g)
  typed (every gs) = f.And (all_typed gs)
  typed (some gs) = f.Or (all_typed gs)
  typed (implies g h) = f.Implies (typed g) (typed h)
  typed (iff g h) = f.Iff (typed g) (typed h)
  typed (for_all s g) = f.Forall s (typed g)
  typed (for_some s g) = f.Exists s (typed g)
  typed (part k g) = f.Part k (typed g)

  all_typed : Formulas → List Typed
  all_typed no_formula = []
  all_typed (and_formula g gs) = typed g ∷ all_typed gs

  -- a typed term of this tree
  typed_term : Expression → TypedTerm
  typed_term (number n) = e.Number n
  typed_term (name x) = e.Name x
  typed_term (call k ts) = e.Apply k (all_terms ts)
  typed_term (minus t) = e.Minus (typed_term t)
  typed_term (total ts) = e.Sum (all_terms ts)
  typed_term (product s t) = e.Product (typed_term s) (typed_term t)
  typed_term (choice g s t) = e.If (typed g) (typed_term s) (typed_term t)
  typed_term (absolute t) = e.Abs (typed_term t)
  typed_term (lesser s t) = e.Min (typed_term s) (typed_term t)
  typed_term (greater s t) = e.Max (typed_term s) (typed_term t)

  all_terms : Expressions → List TypedTerm
  all_terms no_expression = []
  all_terms (and_expression t ts) = typed_term t ∷ all_terms ts

mutual
  unfolding typed all_typed typed_term all_terms

  formula-typed : (g : Formula) → formula (typed g) ≡ g
  formula-typed (constant b) = fold.formula-Truth b
  formula-typed (compares r s t) = fold.formula-Rel r (typed_term s) (typed_term t) ∙ ap (λ z. compares r z (expression (typed_term t))) (expression-typed s) ∙ ap (λ z. compares r s z) (expression-typed t)
  formula-typed (applies p ts) = fold.formula-Pred p (all_terms ts) ∙ ap (λ z. applies p z) (expressions-typed ts)
  formula-typed (negation g) = fold.formula-Not (typed g) ∙ ap (λ z. negation z) (formula-typed g)
  formula-typed (every gs) = fold.formula-And (all_typed gs) ∙ ap (λ z. every z) (formulas-typed gs)
  formula-typed (some gs) = fold.formula-Or (all_typed gs) ∙ ap (λ z. some z) (formulas-typed gs)
  formula-typed (implies g h) = fold.formula-Implies (typed g) (typed h) ∙ ap (λ z. implies z (formula (typed h))) (formula-typed g) ∙ ap (λ z. implies g z) (formula-typed h)
  formula-typed (iff g h) = fold.formula-Iff (typed g) (typed h) ∙ ap (λ z. iff z (formula (typed h))) (formula-typed g) ∙ ap (λ z. iff g z) (formula-typed h)
  formula-typed (for_all s g) = fold.formula-Forall s (typed g) ∙ ap (λ z. for_all s z) (formula-typed g)
  formula-typed (for_some s g) = fold.formula-Exists s (typed g) ∙ ap (λ z. for_some s z) (formula-typed g)
  formula-typed (part k g) = fold.formula-Part k (typed g) ∙ ap (λ z. part k z) (formula-typed g)

  formulas-typed : (gs : Formulas) → formulas_of (all_typed gs) ≡ gs
  formulas-typed no_formula = refl
  formulas-typed (and_formula g gs) = ap (λ z. and_formula z (formulas_of (all_typed gs))) (formula-typed g) ∙ ap (λ z. and_formula g z) (formulas-typed gs)

  expression-typed : (t : Expression) → expression (typed_term t) ≡ t
  expression-typed (number n) = fold.expression-Number n
  expression-typed (name x) = fold.expression-Name x
  expression-typed (call k ts) = fold.expression-Apply k (all_terms ts) ∙ ap (λ z. call k z) (expressions-typed ts)
  expression-typed (minus t) = fold.expression-Minus (typed_term t) ∙ ap (λ z. minus z) (expression-typed t)
  expression-typed (total ts) = fold.expression-Sum (all_terms ts) ∙ ap (λ z. total z) (expressions-typed ts)
  expression-typed (product s t) = fold.expression-Product (typed_term s) (typed_term t) ∙ ap (λ z. product z (expression (typed_term t))) (expression-typed s) ∙ ap (λ z. product s z) (expression-typed t)
  expression-typed (choice g s t) = fold.expression-If (typed g) (typed_term s) (typed_term t) ∙ ap (λ z. choice z (expression (typed_term s)) (expression (typed_term t))) (formula-typed g) ∙ ap (λ z. choice g z (expression (typed_term t))) (expression-typed s) ∙ ap (λ z. choice g s z) (expression-typed t)
  expression-typed (absolute t) = fold.expression-Abs (typed_term t) ∙ ap (λ z. absolute z) (expression-typed t)
  expression-typed (lesser s t) = fold.expression-Min (typed_term s) (typed_term t) ∙ ap (λ z. lesser z (expression (typed_term t))) (expression-typed s) ∙ ap (λ z. lesser s z) (expression-typed t)
  expression-typed (greater s t) = fold.expression-Max (typed_term s) (typed_term t) ∙ ap (λ z. greater z (expression (typed_term t))) (expression-typed s) ∙ ap (λ z. greater s z) (expression-typed t)

  expressions-typed : (ts : Expressions) → expressions_of (all_terms ts) ≡ ts
  expressions-typed no_expression = refl
  expressions-typed (and_expression t ts) = ap (λ z. and_expression z (expressions_of (all_terms ts))) (expression-typed t) ∙ ap (λ z. and_expression t z) (expressions-typed ts)

-- the problem of a file without faults
abbrev posed : File → Problem
posed g = record {
  existentials = existentials (declarations g.blocks);
  existential_types = flat_map existential_sorts g.blocks;
  universals = universals (declarations g.blocks);
  universal_types = flat_map universal_sorts g.blocks;
  functions = functions (declarations g.blocks);
  predicates = predicates (declarations g.blocks);
  parts = part_names (problem_of g.blocks);
  formula = typed (says (scope_of g.blocks) (problem_of g.blocks));
  cuts = flat_map (cuts_in (part_names (problem_of g.blocks))) g.blocks;
  first_application = first_of (applications (scope_of g.blocks) (problem_of g.blocks));
}

posed_typed : (g : File) → IsTyped g (posed g)
posed_typed g = record {
  existentials = refl;
  existential_types = refl;
  universals = refl;
  universal_types = refl;
  functions = refl;
  predicates = refl;
  parts = refl;
  formula = formula-typed (says (scope_of g.blocks) (problem_of g.blocks));
  cuts = refl;
  first_application = refl;
}

-- a file poses a problem, or it has a least fault
typed_or_refused : (bytes : List ℕ) (g : File) → IsFileOf bytes g → (fault : Option TypeRefusal) → least (file_faults g) ≡ fault
    → ((p : Problem) × Reads bytes p) ⊎ ((r : Refusal) × FirstRefusal bytes r)
typed_or_refused bytes g read None sound = inl (posed g, record { file = g; read = read; sound = sound; typed = posed_typed g })
typed_or_refused bytes g read (Some r) is = inr (untyped r, (g, read, is))

-- bytes pose a problem, or they have a first refusal
pub either : (bytes : List ℕ) → ((p : Problem) × Reads bytes p) ⊎ ((r : Refusal) × FirstRefusal bytes r)
either bytes = by (run (file_setting bytes) (length bytes) (lexemes_of bytes) (a_block []) []) refl
  where
    by : (outcome : Result File ReadRefusal) → run (file_setting bytes) (length bytes) (lexemes_of bytes) (a_block []) [] ≡ outcome → ((p : Problem) × Reads bytes p) ⊎ ((r : Refusal) × FirstRefusal bytes r)
    by (Ok g) is = typed_or_refused bytes g (file_sound (file_setting bytes) (length bytes) g (lexemes_of bytes) is) (least (file_faults g)) refl
    by (Err r) is = inr (unread r, first_refused (file_setting bytes) (small_asks bytes) (shallow_asks bytes) (length bytes) (lexemes_of bytes) r is)
