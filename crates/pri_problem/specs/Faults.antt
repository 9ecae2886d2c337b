-- Why a file's bytes are not held as a problem, as the code has it.
use Rattle.std.specs.Prelude.{◌≡◌, ◌⊎◌, ℕ, List, length}
use Rattle.base_answers.specs.Answer.{answer_of, refused_answer}
use Rattle.base_answers.specs.declared.output.Output.{Output}
use Rattle.pri_tokens.specs.Lexemes.{lexemes_of}
use Rattle.pri_reader.specs.declared.tree.ReadRefusal.TheVariants as reading
use Rattle.pri_reader.specs.First.{Refuses}
use Rattle.pri_reader.specs.Reading.{file_setting}
use Rattle.pri_typing.specs.declared.problem.TypeRefusal.TheVariants as typing
use Rattle.pri_problem.specs.declared.fault.FileFault.{FileFault}
use Rattle.pri_problem.specs.declared.fault.FileFault.TheVariants as fault
use Rattle.pri_problem.specs.Reads.{FirstRefusal, unread, untyped}
use Rattle.pri_problem.specs.Refusals.{refusal_name}

-- what a fault says of the bytes: it is their first refusal; running out of memory says nothing
abbrev pub RefusesFile : List ℕ → FileFault → Type 0
RefusesFile bytes (fault.Reading e) = Refuses (file_setting bytes) (length bytes) (lexemes_of bytes) e
RefusesFile bytes (fault.Typing e) = (e ≡ typing.Memory) ⊎ FirstRefusal bytes (untyped e)

-- the output tells the fault; none tells running out of memory
abbrev pub IsTold : FileFault → Output → Type 0
IsTold (fault.Reading reading.Memory) output = ⊥
IsTold (fault.Reading e) output = answer_of output ≡ refused_answer (refusal_name (unread e))
IsTold (fault.Typing typing.Memory) output = ⊥
IsTold (fault.Typing e) output = answer_of output ≡ refused_answer (refusal_name (untyped e))
