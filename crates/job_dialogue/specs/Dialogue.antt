-- A dialogue (SMT-LIB 2.6, sections 4.1 and 4.2): each command is answered as in the script of what is in force and this command.
use Rattle.std.specs.Prelude.{◌≡◌, ◌≢◌, ℕ, ◌-◌, ◌==◌, ◌⊎◌, Bool, false, List, [], ◌∷◌, ◌++◌, length, take, drop, map, Option, Some, None, if◌then◌else◌}
use Rattle.base_answers.specs.Answer.{Answer}
use Rattle.smt_lists.specs.declared.tree.Sexp.{Sexp}
use Rattle.smt_lists.specs.Expressions.{expr}
use Rattle.smt_lists.specs.Grammar.{IsScriptText}
use Rattle.smt_commands.specs.Least.{place_in}
use Rattle.smt_commands.specs.declared.refusal.ScriptRefusal.{ScriptRefusal}
use Rattle.smt_commands.specs.declared.refusal.ScriptRefusal.TheVariants as r
use Rattle.pri_typing.specs.declared.problem.Problem.{Problem}
use Rattle.smt_reader.specs.Poses.{IsScriptRefusal, IsScriptWith}
use Rattle.smt_reader.specs.declared.replies.Reply.{Reply}
use Rattle.job_smt.specs.Answered.{IsSmtAnswer}
use Rattle.job_dialogue.specs.declared.kinds.Kind.{Kind}
use Rattle.job_dialogue.specs.declared.kinds.Kind.TheVariants as k
use Rattle.job_dialogue.specs.declared.kinds.Reading.{Reading}
use Rattle.job_dialogue.specs.declared.spots.Spot.{Spot}
use Rattle.job_dialogue.specs.Errors.{error_line}
use Rattle.job_dialogue.specs.Held.{Held, Turn, behaving, ending, first_held, leaving, opening, or_success, passing, restarting, succeeding}
use Rattle.job_dialogue.specs.Kinds.{reading_of}
use Rattle.job_dialogue.specs.Spots.{spot_after}

-- the piece is read so: it is one list, or else it is judged as it is
pub data IsPieceRead (piece : List ℕ) (reading : Reading) : Type 0 where
  lists : (es : List Sexp) → IsScriptText piece es → reading ≡ reading_of (map expr es) → IsPieceRead piece reading
  no_lists : ((es : List Sexp) → IsScriptText piece es → ⊥) → reading ≡ record { start = 0; kind = k.Says } → IsPieceRead piece reading

-- the check that stands before a command which asks for its model
abbrev pub check_before : Kind → Option (List ℕ) → List ℕ
check_before k.Shows (Some check) = check
check_before _ checked = []

-- what stands before a command in the script that is asked
abbrev pub front_of : Held → Kind → List ℕ
front_of h kind = h.text ++ check_before kind h.checked

-- a text after its first line
abbrev pub behind_line : List ℕ → List ℕ
behind_line [] = []
behind_line (b ∷ text) = if b == 10 then text else behind_line text

abbrev pub shown : Option (List ℕ) → Bool → List ℕ → List ℕ
shown None succeeds text = or_success succeeds text
shown (Some check) succeeds text = behind_line text

-- what is told of the answer: all of it, what is behind the line of the check that stands before the command, or `success`
abbrev pub told : Kind → Held → List ℕ → List ℕ
told k.Asks h text = text
told k.Shows h text = shown h.checked h.succeeds text
told _ h text = or_success h.succeeds text

-- what is held after it: a declaration, a definition or an assertion is kept, and a check is held until then
abbrev pub taken : Kind → List ℕ → Held → Held
taken k.Keeps body h = record h { text = h.text ++ body; checked = None }
taken k.Asks body h = record h { checked = Some body }
taken _ body h = h

-- the place of a refusal of the script, in the input
abbrev pub spot_of : Held → Kind → List ℕ → ScriptRefusal → Spot
spot_of h kind body e = spot_after h.spot (take (place_in e - length (front_of h kind)) body)

-- the bytes are a script
abbrev pub IsAnyScript : List ℕ → Type 0
IsAnyScript bytes = (ps : List Problem) × (told : List Reply) × IsScriptWith bytes ps told

-- the script is refused so; or it is not, and one of its checks is too large
abbrev pub IsRefusal : List ℕ → ScriptRefusal → Type 0
IsRefusal bytes e = (IsScriptRefusal bytes e × (e ≢ r.Memory)) ⊎ ((e ≡ r.Large) × IsAnyScript bytes)

-- a status with which a script is answered to its end
abbrev pub IsTakenStatus : ℕ → Type 0
IsTakenStatus status = (status ≡ 0) ⊎ (status ≡ 2)

-- the script of what is in force and this command is asked: where it is refused, the error is told and nothing changes
pub data IsAsked (budget : ℕ) (h : Held) (kind : Kind) (body : List ℕ) (o : Turn) : Type 0 where
  accepted : (a : Answer) → IsSmtAnswer budget (front_of h kind ++ body) a → IsTakenStatus a.status
      → o ≡ record { held = taken kind body h; text = told kind h a.text } → IsAsked budget h kind body o
  refused : (a : Answer) (e : ScriptRefusal) → IsSmtAnswer budget (front_of h kind ++ body) a → ¬ (IsTakenStatus a.status) → IsRefusal (front_of h kind ++ body) e
      → o ≡ record { held = h; text = error_line (spot_of h kind body e) e } → IsAsked budget h kind body o

-- what comes of a command of this kind
abbrev pub IsDone : ℕ → Held → Kind → List ℕ → Turn → Type 0
IsDone budget h (k.Opens n) body o = o ≡ opening n h
IsDone budget h (k.Leaves n) body o = o ≡ leaving n h
IsDone budget h k.Restarts body o = o ≡ restarting h
IsDone budget h k.Ends body o = o ≡ ending h
IsDone budget h (k.Succeeds b) body o = o ≡ succeeding b h
IsDone budget h k.Behaves body o = o ≡ behaving h
IsDone budget h k.Keeps body o = IsAsked budget h k.Keeps body o
IsDone budget h k.Asks body o = IsAsked budget h k.Asks body o
IsDone budget h k.Shows body o = IsAsked budget h k.Shows body o
IsDone budget h k.Says body o = IsAsked budget h k.Says body o

-- A piece of the input is answered by this text, and then this is held: what stands before its list is passed, and then the list is done.
pub record IsReply (budget : ℕ) (h : Held) (piece : List ℕ) (next : Held) (text : List ℕ) : Type 0 where
  pub reading : Reading
  pub read : IsPieceRead piece reading
  pub outcome : Turn
  pub done : IsDone budget (passing (take reading.start piece) h) reading.kind (drop reading.start piece) outcome
  pub held : next ≡ passing (drop reading.start piece) outcome.held
  pub told : text ≡ outcome.text

-- These pieces are answered, one after the other, by this text; nothing is answered after an `exit`.
pub data IsDialogue (budget : ℕ) : List (List ℕ) → Held → List ℕ → Type 0 where
  begins : {pieces : List (List ℕ)} {h : Held} {text : List ℕ} → pieces ≡ [] → h ≡ first_held → text ≡ [] → IsDialogue budget pieces h text
  goes_on : {pieces : List (List ℕ)} {next : Held} {text : List ℕ} (before : List (List ℕ)) (h : Held) (front : List ℕ) (piece said : List ℕ)
      → IsDialogue budget before h front → h.ended ≡ false → IsReply budget h piece next said
      → pieces ≡ before ++ piece ∷ [] → text ≡ front ++ said → IsDialogue budget pieces next text
