-- What is derived as a type, the machine reads so.
use Rattle.std.proofs.Common.{ℕ, ℤ, ◌≡◌, Bool, true, false, List, [], ◌∷◌, refl, sym, ap, ◌∙◌}
use Rattle.pri_tokens.specs.declared.terminals.Terminal.{Terminal}
use Rattle.pri_tokens.specs.declared.terminals.Terminal.TheVariants as t
use Rattle.pri_tokens.specs.declared.terminals.Lexeme.{Lexeme}
use Rattle.pri_reader.specs.declared.tree.TypeName.{TypeName}
use Rattle.pri_reader.specs.declared.tree.TypeName.TheVariants as type
use Rattle.pri_reader.specs.declared.tree.Declared.{Declared}
use Rattle.pri_reader.specs.declared.tree.Block.{Block}
use Rattle.pri_reader.specs.Grammar.{Setting, Takes, Endpoint, endpoint_plain, endpoint_minus, IsType, type_nat, type_int, type_range}
use Rattle.pri_reader.specs.MachineStates.{Frame, TypeFor, for_line, for_binder, Side, lower, upper, a_line, a_binder, a_type, behind_int_word, an_endpoint, behind_endpoint, behind_type}
use Rattle.pri_reader.specs.Machine.{int_word_moves, behind_type_moves, moves, limited, goes_on, run}
use Rattle.pri_reader.proofs.Moves.{taken, step_on, step_numeral}

-- no `[` comes next
abbrev pub opens_range : Terminal → Bool
opens_range t.OpenBracket = true
opens_range _ = false

abbrev pub next_opens_range : List Lexeme → Bool
next_opens_range [] = false
next_opens_range (x ∷ tokens) = opens_range x.terminal

pub no_range_at : {k : Terminal} {x : Lexeme} {tokens inner : List Lexeme} → Takes k x tokens inner → opens_range k ≡ false → next_opens_range tokens ≡ false
no_range_at e h = ap next_opens_range e.parts ∙ ap opens_range e.is ∙ h

no_range : (s : Setting) (x : Lexeme) (k : Terminal) (for : TypeFor) (frames : List Frame) → opens_range k ≡ false
    → int_word_moves s x k for frames ≡ behind_type_moves s x k for type.Int frames
no_range s x t.OpenBracket for frames h = absurd cc
no_range s x _ for frames h = refl

int_word : (s : Setting) (end : ℕ) (for : TypeFor) (frames : List Frame) (rest : List Lexeme) → next_opens_range rest ≡ false
    → run s end rest (behind_int_word for) frames ≡ run s end rest (behind_type for type.Int) frames
unfolding run moves
int_word s end (for_line universal at names blocks) frames [] h = refl
int_word s end (for_binder at all several n names) frames [] h = refl
int_word s end (for_line universal at names blocks) frames (x ∷ inner) h =
    ap (λ z. goes_on (run s end inner) (limited (s.small inner) (s.shallow inner) x.at z)) (no_range s x x.terminal (for_line universal at names blocks) frames h)
int_word s end (for_binder at all several n names) frames (x ∷ inner) h =
    ap (λ z. goes_on (run s end inner) (limited (s.small inner) (s.shallow inner) x.at z)) (no_range s x x.terminal (for_binder at all several n names) frames h)

endpoint_complete : {s : Setting} {value : ℤ} {tokens rest : List Lexeme} (end : ℕ) → Endpoint s value tokens rest → (for : TypeFor) (side : Side) (frames : List Frame)
    → run s end tokens (an_endpoint for side) frames ≡ run s end rest (behind_endpoint for side value) frames
unfolding moves
endpoint_complete {s = s} end (endpoint_plain n) for side frames = step_numeral s end n.takes _ _ refl n.small
endpoint_complete {s = s} end (endpoint_minus m n) for side frames = step_on s end m _ _ refl ∙ step_numeral s end n.takes _ _ refl n.small

-- a type, after which no `[` comes
pub type_complete : {s : Setting} {sort : TypeName} {tokens rest : List Lexeme} (end : ℕ) → IsType s sort tokens rest → next_opens_range rest ≡ false
    → (for : TypeFor) (frames : List Frame) → run s end tokens (a_type for) frames ≡ run s end rest (behind_type for sort) frames
unfolding moves
type_complete {s = s} end (type_nat e) h for frames = step_on s end e _ _ refl
type_complete {s = s} {rest = rest} end (type_int e) h for frames = step_on s end e _ _ refl ∙ int_word s end for frames rest h
type_complete {s = s} end (type_range {a = a} e o l c u r) h for frames =
    step_on s end e _ _ refl ∙ step_on s end o _ _ refl ∙ endpoint_complete end l for lower frames ∙ step_on s end c _ _ refl
    ∙ endpoint_complete end u for (upper a) frames ∙ step_on s end r _ _ refl

-- a type begins where a line of constants, or a binder, may begin, too
pub line_begins : {s : Setting} {sort : TypeName} {tokens rest : List Lexeme} (end : ℕ) → IsType s sort tokens rest → (universal : Bool) (at : ℕ) (names : List Declared) (blocks : List Block)
    → run s end tokens (a_line universal at names blocks) [] ≡ run s end tokens (a_type (for_line universal at names blocks)) []
unfolding moves
line_begins {s = s} end (type_nat e) universal at names blocks = taken s end e _ _ ∙ sym (taken s end e _ _)
line_begins {s = s} end (type_int e) universal at names blocks = taken s end e _ _ ∙ sym (taken s end e _ _)
line_begins {s = s} end (type_range e o l c u r) universal at names blocks = taken s end e _ _ ∙ sym (taken s end e _ _)

pub binder_begins : {s : Setting} {sort : TypeName} {tokens rest : List Lexeme} (end : ℕ) → IsType s sort tokens rest → (at : ℕ) (all : Bool) (d : ℕ) (frames : List Frame)
    → run s end tokens (a_binder at all d) frames ≡ run s end tokens (a_type (for_binder at all false d [])) frames
unfolding moves
binder_begins {s = s} end (type_nat e) at all d frames = taken s end e _ _ ∙ sym (taken s end e _ _)
binder_begins {s = s} end (type_int e) at all d frames = taken s end e _ _ ∙ sym (taken s end e _ _)
binder_begins {s = s} end (type_range e o l c u r) at all d frames = taken s end e _ _ ∙ sym (taken s end e _ _)
