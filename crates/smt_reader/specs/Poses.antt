-- Which texts are scripts, with which problems, and how others are refused.
use Rattle.std.specs.Prelude.{◌≡◌, ◌⊎◌, ℕ, List, [], ◌∷◌, map, None}
use Rattle.smt_lists.specs.declared.tree.Sexp.{Sexp}
use Rattle.smt_lists.specs.Expressions.{Expr}
use Rattle.form_typed.specs.Formula.{Formulas, formulas}
use Rattle.pri_typing.specs.declared.problem.Problem.{Problem}
use Rattle.smt_lists.specs.Grammar.{IsScriptText}
use Rattle.smt_commands.specs.declared.refusal.ScriptRefusal.{ScriptRefusal}
use Rattle.smt_commands.specs.declared.refusal.ScriptRefusal.TheVariants as r
use Rattle.smt_commands.specs.Faults.{refusal_of}
use Rattle.smt_commands.specs.Least.{IsScriptRefused}
use Rattle.smt_reader.specs.Scripts.{RefusesScript}
use Rattle.smt_sizes.specs.Extent.{IsTooLarge, all_extent}
use Rattle.smt_terms.specs.Scripts.{State, refutation}
use Rattle.smt_reader.specs.Commands.{acts_of, questions, script_terms, state_of}
use Rattle.smt_reader.specs.Posed.{IsCheckPosed}
use Rattle.smt_reader.specs.declared.replies.Reply.{Reply}
use Rattle.smt_reader.specs.Replies.{replies}
use Rattle.smt_reader.specs.Read.{read_as}

-- one problem for each check, in order
abbrev pub ArePosed : List State → List Problem → Type 0
ArePosed [] [] = Unit {0}
ArePosed [] (p ∷ ps) = ⊥
ArePosed (s ∷ ss) [] = ⊥
ArePosed (s ∷ ss) (p ∷ ps) = IsCheckPosed s p × ArePosed ss ps

-- the formulas of the checks
abbrev pub refutations : List State → Formulas
refutations ss = formulas (map refutation ss)

-- all of them together have more than 1,000,000 nodes, or one has more than 2,000 levels
abbrev pub AreLarge : List State → Type 0
AreLarge ss = IsTooLarge (all_extent (refutations ss))

-- the checks of a script of these lists: what the commands of each question come to
abbrev pub checks_in : List Expr → List State
checks_in es = map state_of (questions (acts_of es))

-- neither a command nor a term of the lists has a fault, the checks have these problems, and they are not too large
pub record IsPosedBy (es : List Expr) (problems : List Problem) : Type 0 where
  pub fits : refusal_of script_terms es ≡ None
  pub posed : ArePosed (checks_in es) problems
  pub small : ¬ (AreLarge (checks_in es))

-- the lists have no fault, and their checks are too large
pub record AreTooLarge (es : List Expr) : Type 0 where
  pub fits : refusal_of script_terms es ≡ None
  pub large : AreLarge (checks_in es)

-- the lists are refused so: for the first fault of their commands, or for their size
abbrev pub IsRefusedBy : List Expr → ScriptRefusal → Type 0
IsRefusedBy es e = IsScriptRefused e (refusal_of script_terms es) ⊎ ((e ≡ r.Large) × AreTooLarge es)

-- the text is a script whose checks have these problems
pub record IsScriptOf (bytes : List ℕ) (problems : List Problem) : Type 0 where
  pub lists : List Sexp
  pub said : IsScriptText bytes lists
  pub posed : IsPosedBy (read_as lists) problems

-- the text is such a script, and its commands ask for these replies
pub record IsScriptWith (bytes : List ℕ) (problems : List Problem) (told : List Reply) : Type 0 where
  pub script : IsScriptOf bytes problems
  pub replies : told ≡ replies (read_as script.lists)

-- the text is a script that is too large
pub record IsLargeScript (bytes : List ℕ) : Type 0 where
  pub lists : List Sexp
  pub said : IsScriptText bytes lists
  pub large : AreTooLarge (read_as lists)

-- the text is refused so: for its tokens or its commands, or because it is too large
abbrev pub IsScriptRefusal : List ℕ → ScriptRefusal → Type 0
IsScriptRefusal bytes e = RefusesScript script_terms bytes e ⊎ ((e ≡ r.Large) × IsLargeScript bytes)
