-- The answer to a text by those of its tokens and of its commands.
use Rattle.std.proofs.Common.{ℕ, ◌≡◌, List, None, inl, inr}
use Rattle.smt_lists.specs.declared.tree.Sexp.{Sexp}
use Rattle.smt_lists.specs.declared.refusal.ReadRefusal.{ReadRefusal}
use Rattle.smt_lists.specs.Grammar.{IsScriptText}
use Rattle.smt_lists.specs.First.{IsFirstListRefusal}
use Rattle.smt_commands.specs.declared.refusal.ScriptRefusal.{ScriptRefusal}
use Rattle.smt_commands.specs.declared.table.Entry.{Entry}
use Rattle.smt_commands.specs.Faults.{TermFaults, refusal_of}
use Rattle.smt_commands.specs.Least.{IsScriptRefused}
use Rattle.smt_typing.specs.Steps.{symbols_of}
use Rattle.smt_reader.specs.Read.{read_as}
use Rattle.smt_reader.specs.Scripts.{IsTaken, RefusesScript, as_script}

pub taken : (terms : TermFaults) (b : List ℕ) (es : List Sexp) (symbols : List Entry) → IsScriptText b es → refusal_of terms (read_as es) ≡ None → symbols ≡ symbols_of (read_as es)
    → IsTaken terms b symbols
taken terms b es symbols s f a = record { lists = es; said = s; fits = f; are = a }

pub refused_tokens : (terms : TermFaults) (b : List ℕ) (e : ReadRefusal) (fault : ScriptRefusal) → IsFirstListRefusal b e → fault ≡ as_script e → RefusesScript terms b fault
refused_tokens terms b e fault f q = inl (record { tokens = e; first = f; is = q })

pub refused_commands : (terms : TermFaults) (b : List ℕ) (es : List Sexp) (fault : ScriptRefusal) → IsScriptText b es → IsScriptRefused fault (refusal_of terms (read_as es)) → RefusesScript terms b fault
refused_commands terms b es fault s q = inr (record { lists = es; said = s; is = q })
