-- The cause of a cut, handed on from one call to the next.
use Rattle.std.proofs.Common.{◌≡◌, ℕ, List, sym, subst}
use Rattle.linear_term.specs.declared.range.Place.{Place}
use Rattle.linear_term.specs.declared.range.TermFault.{TermFault}
use Rattle.linear_term.specs.declared.range.TermFault.TheVariants as term_fault
use Rattle.linear_term.specs.Range.{IsCause}
use Rattle.clause_checker.specs.declared.fault.Fault.{Fault}
use Rattle.clause_checker.specs.declared.fault.Fault.TheVariants.{Refused, Steps, Overflow, Room, Memory}
use Rattle.clause_checker.specs.Answers.{HasCause, IsTermCut, IsRefusedOrCut, fault_of}

-- a cut is a refusal or a cut, and has its cause whatever the number of constants is
pub cut_refused : (e : Fault) → IsTermCut e → IsRefusedOrCut e
cut_refused Refused h = absurd h
cut_refused Steps h = absurd h
cut_refused (Overflow p) h = h
cut_refused Room h = absurd h
cut_refused Memory h = tt

pub refused_has : (n : ℕ) (e : Fault) → IsRefusedOrCut e → HasCause n e
refused_has n Refused h = tt
refused_has n Steps h = absurd h
refused_has n (Overflow p) h = h
refused_has n Room h = absurd h
refused_has n Memory h = tt

pub cut_has : (n : ℕ) (e : Fault) → IsTermCut e → HasCause n e
cut_has n e h = refused_has n e (cut_refused e h)

-- running out of memory
pub memory_cut : (e : Fault) → e ≡ Memory → IsTermCut e
memory_cut e is = subst IsTermCut (sym is) tt

pub memory_refused : (e : Fault) → e ≡ Memory → IsRefusedOrCut e
memory_refused e is = cut_refused e (memory_cut e is)

pub memory_has : (n : ℕ) (e : Fault) → e ≡ Memory → HasCause n e
memory_has n e is = cut_has n e (memory_cut e is)

-- a number that left the range
pub term_cut : (t : TermFault) (ps : List Place) (e : Fault) → e ≡ fault_of t → IsCause t ps → IsTermCut e
term_cut (term_fault.Overflow p) ps e is h = subst IsTermCut (sym is) (h.1)
term_cut term_fault.Memory ps e is h = subst IsTermCut (sym is) tt

pub ruleset causes = (cut_refused, refused_has, cut_has, memory_cut, memory_refused, memory_has, term_cut)
