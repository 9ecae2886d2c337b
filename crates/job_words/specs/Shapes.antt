-- The commands, as clap's clauses see them.
use Rattle.std.specs.Prelude.{Bool, true, List, map, Some, None, if◌then◌else◌, fold}
use Rattle.clap.specs.Words.{App, Rule, new_app, new_rule, with_rule}
use Rattle.clap.specs.Simple.{on_top}
use Rattle.clap.specs.declared.builder.action.ArgAction.TheVariants.{SetTrue}
use Rattle.job_words.specs.Uses.{Text, Options}

-- an operand, which must be there
abbrev pub operand_rule : Text → Rule
operand_rule id = record (new_rule id) { required = true }

-- an option, with a value or as a flag
abbrev pub option_rule : Text × Bool → Rule
option_rule o = record (new_rule o.0) { long = Some o.0; action = if o.1 then None else Some SetTrue }

-- a command without arguments, help and version
abbrev pub bare_app : Text → App
bare_app name = on_top (λ s. record s { no_binary_name = true; disable_help_flag = true; disable_version_flag = true }) (new_app name)

-- a command with these operands and options
abbrev pub command_app : Text → List Text → Options → App
command_app name ids options = fold with_rule (fold with_rule (bare_app name) (map operand_rule ids)) (map option_rule options)
