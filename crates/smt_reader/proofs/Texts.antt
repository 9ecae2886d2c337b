-- The numerals of a text that is a script are in the range, and so are those of its checks.
use Rattle.std.proofs.Common.{ℕ, None, ◌≡◌, ◌^◌, Bool, true, false, List, [], ◌∷◌, ◌++◌, map, pos, nat_lt, sym, ap, subst, ◌∙◌, arith, if◌then◌else◌}
use Rattle.std.specs.List.{All, AllByRecursion}
use Rattle.std.proofs.lemmas.Bool.Decides.{nat_tests}
use Rattle.smt_tokens.specs.declared.terminals.Terminal.{Terminal}
use Rattle.smt_tokens.specs.declared.terminals.Terminal.TheVariants as t
use Rattle.smt_tokens.specs.declared.terminals.Lexeme.{Lexeme}
use Rattle.smt_lists.specs.declared.tree.AtomKind.TheVariants as k
use Rattle.smt_lists.specs.declared.tree.Sexp.{Sexp}
use Rattle.smt_lists.specs.Expressions.{Expr, exprs, expr}
use Rattle.smt_lists.proofs.Folds.{expr-Atom, expr-List}
use Rattle.base_numerals.specs.Numerals.{decimal_value}
use Rattle.smt_lists.specs.Atoms.{atom_of, kind_of, span}
use Rattle.smt_lists.specs.Grammar.{IsScriptText, SayAll, SaysSexp, atom, list, more, nothing}
use Rattle.smt_commands.specs.Faults.{refusal_of}
use Rattle.smt_reader.specs.Commands.{acts_of, questions, script_terms}
use Rattle.smt_reader.specs.Following.{AreNew}
use Rattle.smt_reader.specs.Poses.{checks_in}
use Rattle.smt_reader.proofs.Checks.{checks_formed, questions_new}
use Rattle.smt_reader.specs.Formed.{IsFormedCheck}
use Rattle.smt_shorthand.specs.Ranged.{AreRangedExprs, IsRangedExpr, IsRangedAtom}
use Rattle.smt_shorthand.proofs.FunctionRanges.{written_ranged}
use Rattle.smt_shorthand.specs.Writing.{written_out}
use Rattle.smt_division.proofs.RangedCommands.{ranged_script}
use Rattle.smt_reader.specs.Read.{read_as}

numeral_by : (n : ℕ) (b : Bool) → nat_lt n (2 ^ 127) ≡ b → IsRangedAtom (if b then k.Numeral (pos n) else k.LargeNumeral)
numeral_by n true e = grind (arith, nat_tests)
numeral_by n false e = tt

kind_ranged : (b : List ℕ) (x : Lexeme) (terminal : Terminal) → IsRangedAtom (kind_of b x terminal)
kind_ranged b x t.Numeral = numeral_by (decimal_value (span b x.at x.len)) (nat_lt (decimal_value (span b x.at x.len)) (2 ^ 127)) refl_of
  where
    refl_of : nat_lt (decimal_value (span b x.at x.len)) (2 ^ 127) ≡ nat_lt (decimal_value (span b x.at x.len)) (2 ^ 127)
    refl_of = λ i. nat_lt (decimal_value (span b x.at x.len)) (2 ^ 127)
kind_ranged b x t.Decimal = tt
kind_ranged b x t.Hash = tt
kind_ranged b x t.StringLiteral = tt
kind_ranged b x t.Keyword = tt
kind_ranged b x t.Quoted = tt
kind_ranged b x t.Symbol = tt
kind_ranged b x t.Open = tt
kind_ranged b x t.Close = tt
kind_ranged b x t.Bad = tt
kind_ranged b x t.Unfinished = tt

exprs_ranged : (es : List Expr) → AllByRecursion IsRangedExpr es → AreRangedExprs (exprs es)
exprs_ranged [] h = tt
exprs_ranged (e ∷ es) h = (h.0, exprs_ranged es h.1)

more_ranged : (es : List Sexp) (e : Sexp) → AllByRecursion IsRangedExpr (map expr es) → IsRangedExpr (expr e) → AllByRecursion IsRangedExpr (map expr (es ++ e ∷ []))
more_ranged [] e h k = (k, tt)
more_ranged (x ∷ es) e h k = (h.0, more_ranged es e h.1 k)

mutual
  one_ranged : (b : List ℕ) (n : ℕ) (e : Sexp) (tokens : List Lexeme) → SaysSexp b n e tokens → IsRangedExpr (expr e)
  one_ranged b n e tokens (atom x a is parts) = subst IsRangedExpr (sym (ap expr is ∙ expr-Atom (atom_of b x))) (kind_ranged b x x.terminal)
  one_ranged b n e tokens (list m x y es inner o all c levels is parts) =
      subst IsRangedExpr (sym (ap expr is ∙ expr-List x.at es)) (exprs_ranged (map expr es) (all_ranged b m es inner all))

  all_ranged : (b : List ℕ) (n : ℕ) (es : List Sexp) (tokens : List Lexeme) → SayAll b n es tokens → AllByRecursion IsRangedExpr (map expr es)
  all_ranged b n es tokens (nothing is parts) = subst (λ z. AllByRecursion IsRangedExpr (map expr z)) (sym is) tt
  all_ranged b n es tokens (more before e front back all one is parts) =
      subst (λ z. AllByRecursion IsRangedExpr (map expr z)) (sym is) (more_ranged before e (all_ranged b n before front all) (one_ranged b n e back one))

pub text_ranged : (bytes : List ℕ) (lists : List Sexp) → IsScriptText bytes lists → AllByRecursion IsRangedExpr (map expr lists)
text_ranged bytes lists h = all_ranged bytes 200 lists _ h.said

pub read_ranged : (bytes : List ℕ) (lists : List Sexp) → IsScriptText bytes lists → AllByRecursion IsRangedExpr (read_as lists)
read_ranged bytes lists h = ranged_script (written_out (map expr lists)) (written_ranged (map expr lists) (text_ranged bytes lists h))

pub text_checks : (bytes : List ℕ) (lists : List Sexp) → IsScriptText bytes lists → refusal_of script_terms (read_as lists) ≡ None → All IsFormedCheck (checks_in (read_as lists))
text_checks bytes lists h e = checks_formed (read_as lists) (read_ranged bytes lists h) e

pub text_new : (bytes : List ℕ) (lists : List Sexp) → IsScriptText bytes lists → refusal_of script_terms (read_as lists) ≡ None → All (AreNew []) (questions (acts_of (read_as lists)))
text_new bytes lists h e = questions_new (read_as lists) (read_ranged bytes lists h) e
