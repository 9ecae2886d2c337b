-- The answer to a text by the outcome of the machine.
use Rattle.std.proofs.Common.{ℕ, ◌≡◌, List, [], length, subst, Result, Ok, Err, IfOk, IfErr, MatchResult, arith}
use Rattle.smt_tokens.specs.declared.terminals.Lexeme.{Lexeme}
use Rattle.smt_tokens.specs.Lexemes.{lexemes_of}
use Rattle.smt_lists.specs.declared.tree.Sexp.{Sexp}
use Rattle.smt_lists.specs.declared.refusal.ReadRefusal.{ReadRefusal}
use Rattle.smt_lists.specs.declared.refusal.ReadRefusal.TheVariants as refusal
use Rattle.smt_lists.specs.Grammar.{IsScriptText}
use Rattle.smt_lists.specs.First.{GivesLists, IsFirstListRefusal}
use Rattle.smt_lists.specs.Machine.{run, MeansLists, ListsFailWith}
use Rattle.smt_lists.proofs.Complete.{script_read}
use Rattle.smt_lists.proofs.Outcomes.{outcome}

-- what the machine makes of a text
abbrev whole : List ℕ → Result (List Sexp) ReadRefusal
whole b = run b 200 (length b) (lexemes_of b) [] []

-- the answer is that of the machine
abbrev IsOutcome : List ℕ → List Lexeme → Result (List Sexp) ReadRefusal → Type 0
IsOutcome b tokens result = MatchResult result (λ es. run b 200 (length b) tokens [] [] ≡ Ok es) (λ e. ListsFailWith e (run b 200 (length b) tokens [] []))

found_by : (b : List ℕ) (result : Result (List Sexp) ReadRefusal) → IsOutcome b (lexemes_of b) result → IfOk result (λ es. IsScriptText b es)
found_by b (Ok es) o = subst (MeansLists b (length b) (lexemes_of b)) o (outcome b (length b) (lexemes_of b))
found_by b (Err e) o = tt

refused_by : (b : List ℕ) (e : ReadRefusal) → ListsFailWith e (whole b) → IsFirstListRefusal b e
refused_by b (refusal.Syntax at) o = subst (MeansLists b (length b) (lexemes_of b)) o (outcome b (length b) (lexemes_of b))
refused_by b (refusal.Deep at) o = subst (MeansLists b (length b) (lexemes_of b)) o (outcome b (length b) (lexemes_of b))
refused_by b refusal.Memory o = tt

first_by : (b : List ℕ) (result : Result (List Sexp) ReadRefusal) → IsOutcome b (lexemes_of b) result → IfErr result (λ e. IsFirstListRefusal b e)
first_by b (Ok es) o = tt
first_by b (Err e) o = refused_by b e o

only_by : (b : List ℕ) (result : Result (List Sexp) ReadRefusal) → IsOutcome b (lexemes_of b) result → (es : List Sexp) → IsScriptText b es → GivesLists es result
only_by b (Ok found) o es p = let e = script_read b 200 (length b) 200 es (lexemes_of b) p (omega arith) in cc
only_by b (Err refusal.Memory) o es p = tt
only_by b (Err (refusal.Syntax at)) o es p = let e = script_read b 200 (length b) 200 es (lexemes_of b) p (omega arith) in absurd (cc)
only_by b (Err (refusal.Deep at)) o es p = let e = script_read b 200 (length b) 200 es (lexemes_of b) p (omega arith) in absurd (cc)

pub text_found : (b : List ℕ) (tokens : List Lexeme) (result : Result (List Sexp) ReadRefusal) → tokens ≡ lexemes_of b → IsOutcome b tokens result → IfOk result (λ es. IsScriptText b es)
text_found b tokens result e o = found_by b result (subst (λ z. IsOutcome b z result) e o)

pub text_first : (b : List ℕ) (tokens : List Lexeme) (result : Result (List Sexp) ReadRefusal) → tokens ≡ lexemes_of b → IsOutcome b tokens result → IfErr result (λ e. IsFirstListRefusal b e)
text_first b tokens result e o = first_by b result (subst (λ z. IsOutcome b z result) e o)

pub text_only : (b : List ℕ) (tokens : List Lexeme) (result : Result (List Sexp) ReadRefusal) → tokens ≡ lexemes_of b → IsOutcome b tokens result
    → (es : List Sexp) → IsScriptText b es → GivesLists es result
text_only b tokens result e o = only_by b result (subst (λ z. IsOutcome b z result) e o)
