-- The refusal of a call on terms as one of an encoding.
use Rattle.linear_term.specs.declared.range.TermFault.{TermFault}
use Rattle.linear_term.specs.declared.range.TermFault.TheVariants as term_fault
use Rattle.function_encoding.specs.declared.answer.EncodeRefusal.{EncodeRefusal}
use Rattle.function_encoding.specs.declared.answer.EncodeRefusal.TheVariants.{Overflow, Memory}

abbrev pub refusal_of : TermFault → EncodeRefusal
refusal_of (term_fault.Overflow p) = Overflow p
refusal_of term_fault.Memory = Memory
