-- What the answers of a check say.
use Rattle.std.specs.Prelude.{ℕ, ◌≡◌, ◌+◌, ◌≤◌, List, Bool, codes, take, length, Result, Ok, Err}
use Rattle.std.specs.Str.{bytes_eq}
use Rattle.formula.specs.Form.{Form}
use Rattle.proof_file.specs.Body.{body}
use Rattle.proof_tokens.specs.declared.reading.Refusal.{Refusal}
use Rattle.proof_tokens.specs.declared.reading.Refusal.TheVariants as e
use Rattle.clause_text.specs.declared.head.Head.{Head}
use Rattle.clause_checker.specs.declared.fault.Fault.{Fault}
use Rattle.clause_checker.specs.declared.fault.Fault.TheVariants as checker
use Rattle.clause_file.specs.declared.fault.ClauseFault.{ClauseFault}
use Rattle.clause_file.specs.declared.fault.ClauseFault.TheVariants as f
use Rattle.clause_file.specs.Costs.{IsCostAt}
use Rattle.clause_file.specs.Ranges.{IsRangeAt}
use Rattle.clause_file.specs.Verdicts.{HoldsClauseProof, IsRefusedFirst, IsWrongAt}

-- the words that begin a proof in the third format
abbrev pub first_words : List ℕ
first_words = codes "princess-proof 3"

-- the proof in the file begins with them
abbrev pub is_clause_text : List ℕ → Bool
is_clause_text file = bytes_eq (take (length first_words) (body file)) first_words

-- what a fault says of the file: it is refused there, or wrong there, or the check was cut there; running out of memory says nothing
abbrev pub IsFault : Form → ℕ → List ℕ → ClauseFault → Type 0
IsFault g n file (f.Syntax at) = IsRefusedFirst g n file at
IsFault g n file (f.Line number) = IsWrongAt g n file number
IsFault g n file (f.Range number) = IsRangeAt g n file number
IsFault g n file (f.Cost number) = IsCostAt g n file number
IsFault g n file f.Memory = Unit {0}

-- what a check of the lines after these first lines answers: the file holds a proof at their values, or it has the fault
abbrev pub IsCheckResult : Form → ℕ → List ℕ → Head → Result (Unit {0}) ClauseFault → Type 0
IsCheckResult g n file h (Ok u) = HoldsClauseProof g n file h.values
IsCheckResult g n file h (Err fault) = IsFault g n file fault

-- the fault of a check of one line, as one of the file
abbrev pub fault_at : ℕ → Fault → ClauseFault
fault_at number checker.Refused = f.Line number
fault_at number checker.Steps = f.Cost number
fault_at number (checker.Overflow p) = f.Range number
fault_at number checker.Room = f.Range number
fault_at number checker.Memory = f.Memory

-- the refusal of a text at the end of a file with this number of bytes, as a fault of the file
abbrev pub IsPlaced : ℕ → Refusal → ClauseFault → Type 0
IsPlaced bytes (e.Syntax left) fault = (at : ℕ) × (fault ≡ f.Syntax at) × (at + left ≡ bytes)
IsPlaced bytes e.Memory fault = fault ≡ f.Memory

-- the refusal leaves no more bytes than there are
abbrev pub LeavesWithin : ℕ → Refusal → Type 0
LeavesWithin bytes (e.Syntax left) = left ≤ bytes
LeavesWithin bytes e.Memory = Unit {0}
