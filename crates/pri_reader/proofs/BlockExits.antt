-- How a function that reads blocks fails as the file does.
use Rattle.std.proofs.Common.{◌≡◌, ℕ, List}
use Rattle.pri_tokens.specs.declared.terminals.Lexeme.{Lexeme}
use Rattle.pri_reader.specs.declared.tree.ReadRefusal.{ReadRefusal}
use Rattle.pri_reader.specs.declared.tree.ReadRefusal.TheVariants as refusal
use Rattle.pri_reader.specs.declared.classes.Heading.{Heading}
use Rattle.pri_reader.specs.MachineStates.{Want}
use Rattle.pri_reader.specs.BlockReading.{IsNoBlock, StopsReader}

-- running out of memory says nothing of the file
pub stops_memory : {b : List ℕ} {A : Type 0} {want : A → Want} {tokens : List Lexeme} {e : ReadRefusal} → e ≡ refusal.Memory → StopsReader b want tokens e
stops_memory h = rw h (record { run = λ a. tt })

pub block_memory : {b : List ℕ} {heading : Heading} {at : ℕ} {tokens : List Lexeme} {e : ReadRefusal} → e ≡ refusal.Memory → IsNoBlock b heading at tokens e
block_memory h = rw h (record { run = λ blocks. tt })

pub ruleset memory = (stops_memory, block_memory)
