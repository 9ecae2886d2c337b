-- A script with the problems of its checks and its replies, by its lists.
use Rattle.std.proofs.Common.{◌≡◌, inl, inr, ℕ, List, [], map, refl, ◌∙◌, ap, subst, Result, Ok, Err, IfOk, IfErr}
use Rattle.smt_lists.specs.declared.tree.Sexp.{Sexp}
use Rattle.smt_lists.specs.Expressions.{expr}
use Rattle.smt_tokens.specs.Lexemes.{lexemes_from}
use Rattle.smt_lists.specs.Grammar.{IsScriptText, nothing}
use Rattle.smt_commands.specs.declared.refusal.ScriptRefusal.{ScriptRefusal}
use Rattle.smt_reader.specs.declared.posing.Script.{Script}
use Rattle.smt_reader.specs.Poses.{IsPosedBy, IsRefusedBy, IsScriptRefusal, IsScriptWith}
use Rattle.smt_reader.specs.Read.{read_as}
use Rattle.smt_reader.specs.Replies.{replies}

-- the commands that are taken are those that the lists are read as
pub commands_are : (lists commands slice : List Sexp) → map expr commands ≡ read_as lists → slice ≡ commands → map expr slice ≡ read_as lists
commands_are lists commands slice is same = ap (map expr) same ∙ is

pub script_read : (bytes : List ℕ) (lists slice : List Sexp) (r : Result Script ScriptRefusal) → IsScriptText bytes lists → map expr slice ≡ read_as lists → IfOk r (λ s. IsPosedBy (map expr slice) s.checks)
    → IfOk r (λ s. s.replies ≡ replies (map expr slice)) → IfOk r (λ s. IsScriptWith bytes s.checks s.replies)
script_read bytes lists slice (Ok s) said is posed told = record {
  script = record { lists = lists; said = said; posed = subst (λ z. IsPosedBy z s.checks) is posed };
  replies = told ∙ ap replies is;
}
script_read bytes lists slice (Err e) said is posed told = tt

-- its refusal
refused_by : (bytes : List ℕ) (lists : List Sexp) (e : ScriptRefusal) → IsScriptText bytes lists → IsRefusedBy (read_as lists) e → IsScriptRefusal bytes e
refused_by bytes lists e said (inl h) = inl (inr (record { lists = lists; said = said; is = h }))
refused_by bytes lists e said (inr h) = inr (h.0, record { lists = lists; said = said; large = h.1 })

pub script_refused : {A : Type 0} (bytes : List ℕ) (lists slice : List Sexp) (r : Result A ScriptRefusal) → IsScriptText bytes lists → map expr slice ≡ read_as lists → IfErr r (λ e. IsRefusedBy (map expr slice) e)
    → IfErr r (λ e. IsScriptRefusal bytes e)
script_refused bytes lists slice (Ok s) said is h = tt
script_refused bytes lists slice (Err e) said is h = refused_by bytes lists e said (subst (λ z. IsRefusedBy z e) is h)

-- no bytes are the script of no lists
pub empty_said : IsScriptText [] []
unfolding lexemes_from
empty_said = record { said = nothing refl refl; lists = tt }
