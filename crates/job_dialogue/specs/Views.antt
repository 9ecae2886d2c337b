-- What the values of the code are.
use Rattle.std.specs.Option.{option_map}
use Rattle.job_dialogue.specs.declared.dialogue.Dialogue.{Dialogue}
use Rattle.job_dialogue.specs.declared.dialogue.Reply.{Reply}
use Rattle.job_dialogue.specs.Held.{Held, Turn}

-- what a dialogue holds
abbrev pub held_of : Dialogue → Held
held_of d = record { text = d.text.items; marks = d.marks.items; checked = option_map (λ check. check.items) d.checked; succeeds = d.succeeds; ended = d.ended; spot = d.spot }

-- what comes of a command
abbrev pub outcome_of : Reply → Turn
outcome_of r = record { held = held_of r.dialogue; text = r.text.items }
