-- The words with which commands begin.
use Rattle.std.specs.Prelude.{ℕ, List, codes, Option, Some, None, if◌then◌else◌}
use Rattle.std.specs.Str.{bytes_eq}
use Rattle.smt_commands.specs.declared.words.Word.{Word}
use Rattle.smt_commands.specs.declared.words.Word.TheVariants as w

-- the command of a word
abbrev pub word_of : List ℕ → Option Word
word_of text =
    if bytes_eq text (codes "set-logic") then Some w.SetLogic else
    (if bytes_eq text (codes "set-info") then Some w.SetInfo else
    (if bytes_eq text (codes "set-option") then Some w.SetOption else
    (if bytes_eq text (codes "declare-const") then Some w.DeclareConst else
    (if bytes_eq text (codes "declare-fun") then Some w.DeclareFun else
    (if bytes_eq text (codes "define-fun") then Some w.DefineFun else
    (if bytes_eq text (codes "define-const") then Some w.DefineConst else
    (if bytes_eq text (codes "assert") then Some w.Assert else
    (if bytes_eq text (codes "check-sat") then Some w.CheckSat else
    (if bytes_eq text (codes "check-sat-assuming") then Some w.CheckSatAssuming else
    (if bytes_eq text (codes "push") then Some w.Push else
    (if bytes_eq text (codes "pop") then Some w.Pop else
    (if bytes_eq text (codes "reset") then Some w.Reset else
    (if bytes_eq text (codes "reset-assertions") then Some w.ResetAssertions else
    (if bytes_eq text (codes "echo") then Some w.Echo else
    (if bytes_eq text (codes "get-info") then Some w.GetInfo else
    (if bytes_eq text (codes "get-option") then Some w.GetOption else
    (if bytes_eq text (codes "get-model") then Some w.GetModel else
    (if bytes_eq text (codes "get-value") then Some w.GetValue else
    (if bytes_eq text (codes "get-assignment") then Some w.GetAssignment else
    (if bytes_eq text (codes "get-assertions") then Some w.GetAssertions else
    (if bytes_eq text (codes "get-unsat-core") then Some w.GetUnsatCore else
    (if bytes_eq text (codes "get-unsat-assumptions") then Some w.GetUnsatAssumptions else
    (if bytes_eq text (codes "get-proof") then Some w.GetProof else
    (if bytes_eq text (codes "exit") then Some w.Exit else
    None))))))))))))))))))))))))
