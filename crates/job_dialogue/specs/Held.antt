-- What a dialogue holds between two commands, and what the commands do to it that need no answer of a script (SMT-LIB 2.6, section 4.1).
use Rattle.std.specs.Prelude.{ℕ, ◌+◌, ◌-◌, Bool, true, false, List, [], ◌++◌, length, take, replicate, slice_index_or, Option, None, codes, nat_le, if◌then◌else◌}
use Rattle.smt_commands.specs.Faults.{most_levels}
use Rattle.smt_commands.specs.declared.refusal.ScriptRefusal.{ScriptRefusal}
use Rattle.smt_commands.specs.declared.refusal.ScriptRefusal.TheVariants as r
use Rattle.job_dialogue.specs.declared.spots.Spot.{Spot}
use Rattle.job_dialogue.specs.Errors.{error_line}
use Rattle.job_dialogue.specs.Spots.{first_spot, spot_after}

-- the declarations, definitions and assertions in force, as one text; for each open level, the outermost first, how many bytes of it stood
-- where the level began; the last check, where nothing but questions came after it; whether a command without another answer is answered
-- `success`; whether there was an `exit`; and where the next piece begins
pub record Held : Type 0 where
  pub text : List ℕ
  pub marks : List ℕ
  pub checked : Option (List ℕ)
  pub succeeds : Bool
  pub ended : Bool
  pub spot : Spot

-- where nothing is said yet
abbrev pub first_held : Held
first_held = record { text = []; marks = []; checked = None; succeeds = false; ended = false; spot = first_spot }

-- what is held after a command, and the answer to it
pub record Turn : Type 0 where
  pub held : Held
  pub text : List ℕ

-- an answer, or `success` where that is asked for and there is no other
abbrev pub or_success : Bool → List ℕ → List ℕ
or_success true [] = codes "success\n"
or_success _ text = text

abbrev pub done : Held → Turn
done h = record { held = h; text = or_success h.succeeds [] }

-- the command is refused, and nothing changes
abbrev pub fails : Held → ScriptRefusal → Turn
fails h e = record { held = h; text = error_line h.spot e }

-- n levels more
abbrev pub opened : ℕ → Held → Held
opened n h = record h { marks = h.marks ++ replicate n (length h.text); checked = None }

abbrev pub opening : ℕ → Held → Turn
opening n h = if nat_le (length h.marks + n) most_levels then done (opened n h) else fails h (r.Deep 0)

-- n levels fewer: what is in force is what stood where the n-th last one began
abbrev pub left : ℕ → Held → Held
left n h = record h { text = take (slice_index_or h.marks (length h.marks - n) (length h.text)) h.text; marks = take (length h.marks - n) h.marks; checked = None }

abbrev pub leaving : ℕ → Held → Turn
leaving n h = if nat_le n (length h.marks) then done (left n h) else fails h (r.Profile 0)

-- nothing is in force, and no level is open
abbrev pub restarting : Held → Turn
restarting h = done (record h { text = []; marks = []; checked = None })

abbrev pub ending : Held → Turn
ending h = done (record h { ended = true })

abbrev pub succeeding : Bool → Held → Turn
succeeding b h = done (record h { succeeds = b })

-- after an error a dialogue goes on
abbrev pub behaving : Held → Turn
behaving h = record { held = h; text = codes "(:error-behavior continued-execution)\n" }

-- after these bytes of the input
abbrev pub passing : List ℕ → Held → Held
passing bytes h = record h { spot = spot_after h.spot bytes }
