-- The arguments of a command once clap has built it.
use Rattle.std.proofs.Common.{ℕ, Bool, true, List, [], ◌∷◌, map, suc}
use Rattle.clap.specs.Walk.{Rule}
use Rattle.clap.specs.Simple.{Shape, filled, new_shape, with_index}
use Rattle.job_words.specs.Uses.{Text, Options}
use Rattle.job_words.specs.Shapes.{operand_rule, option_rule}

-- the operand at a place
abbrev pub operand_arg : ℕ → Text → Rule
operand_arg i id = with_index i (filled (operand_rule id))

abbrev pub option_arg : Text × Bool → Rule
option_arg o = filled (option_rule o)

-- the operands from a place on, and then the options
abbrev pub rules_from : ℕ → List Text → Options → List Rule
rules_from i [] options = map option_arg options
rules_from i (id ∷ ids) options = operand_arg i id ∷ rules_from (suc i) ids options

-- a built command with these arguments
abbrev pub flat : Text → List Rule → Shape
flat name c = record (new_shape name) {
  rules = c;
  no_binary_name = true;
  disable_help_flag = true;
  disable_help_subcommand = true;
  disable_version_flag = true;
  is_built = true;
}
