-- What the machine does at the tokens of types.
use Rattle.std.proofs.Common.{ℕ, ℤ, ◌≡◌, ◌≤◌, ◌^◌, List, length, pos, neg_ℤ, Err, refl, sym, ◌∙◌}
use Rattle.pri_tokens.specs.declared.terminals.Terminal.{Terminal}
use Rattle.pri_tokens.specs.declared.terminals.Terminal.TheVariants as t
use Rattle.pri_tokens.specs.declared.terminals.Lexeme.{Lexeme}
use Rattle.pri_reader.specs.declared.tree.TypeName.{TypeName}
use Rattle.pri_reader.specs.declared.tree.TypeName.TheVariants as type
use Rattle.pri_reader.specs.declared.tree.ReadRefusal.TheVariants as refusal
use Rattle.pri_reader.specs.Grammar.{Setting, value_of, Takes, TakesNumber}
use Rattle.pri_reader.specs.MachineStates.{Frame, TypeFor, for_line, for_binder, Side, lower, upper, a_type, behind_int_word, an_endpoint, an_endpoint_number, behind_endpoint, behind_type, bad}
use Rattle.pri_reader.specs.Machine.{type_moves, behind_type_moves, int_word_moves, endpoint_moves, endpoint_number_moves, behind_endpoint_moves, moves, ends}
use Rattle.pri_reader.specs.Reading.{file_setting, reads, place, NotNext}
use Rattle.pri_reader.proofs.Moves.{step_numeral}
use Rattle.pri_reader.proofs.TokenSteps.{refused, refused_both, passes, goes, too_great}

-- The words.

only_type : (k : Terminal) (for : TypeFor) (frames : List Frame) → (k ≡ t.Nat → ⊥) → (k ≡ t.Int → ⊥) → type_moves k for frames ≡ bad
only_type t.Nat for frames h g = absurd (h refl)
only_type t.Int for frames h g = absurd (g refl)
only_type _ for frames h g = refl

pub type_bad : (b : List ℕ) (tokens : List Lexeme) (for : TypeFor) (frames : List Frame) → NotNext t.Nat tokens → NotNext t.Int tokens
    → reads b tokens (a_type for) frames ≡ Err (refusal.Syntax (place (length b) tokens))
unfolding reads moves
type_bad b tokens for frames h g = refused_both b t.Nat t.Int tokens _ _ h g refl (λ x k u v. only_type k for frames u v)

pub nat_step : (b : List ℕ) (tokens inner : List Lexeme) (x : Lexeme) (for : TypeFor) (frames : List Frame) → Takes t.Nat x tokens inner
    → reads b tokens (a_type for) frames ≡ reads b inner (behind_type for type.Nat) frames
unfolding moves
nat_step b tokens inner x for frames e = goes b e _ _ refl

pub int_step : (b : List ℕ) (tokens inner : List Lexeme) (x : Lexeme) (for : TypeFor) (frames : List Frame) → Takes t.Int x tokens inner
    → reads b tokens (a_type for) frames ≡ reads b inner (behind_int_word for) frames
unfolding moves
int_step b tokens inner x for frames e = goes b e _ _ refl

-- the names of a type begin as the state after it says
pub names_move : (s : Setting) (x : Lexeme) (k : Terminal) (for : TypeFor) (sort : TypeName) (frames : List Frame)
    → moves s x k (behind_type for sort) frames ≡ behind_type_moves s x k for sort frames
unfolding moves
names_move s x k (for_line universal at names blocks) sort frames = refl
names_move s x k (for_binder at all several n names) sort frames = refl

names_end : (end : ℕ) (for : TypeFor) (sort : TypeName) → ends end (behind_type for sort) ≡ Err (refusal.Syntax end)
names_end end (for_line universal at names blocks) sort = refl
names_end end (for_binder at all several n names) sort = refl

other_word : (s : Setting) (x : Lexeme) (k : Terminal) (for : TypeFor) (frames : List Frame) → (k ≡ t.OpenBracket → ⊥)
    → int_word_moves s x k for frames ≡ behind_type_moves s x k for type.Int frames
other_word s x t.OpenBracket for frames h = absurd (h refl)
other_word s x _ for frames h = refl

pub int_pass : (b : List ℕ) (tokens : List Lexeme) (for : TypeFor) (frames : List Frame) → NotNext t.OpenBracket tokens
    → reads b tokens (behind_int_word for) frames ≡ reads b tokens (behind_type for type.Int) frames
unfolding moves
int_pass b tokens for frames h =
    passes b t.OpenBracket tokens _ _ frames h (sym (names_end (length b) for type.Int))
    (λ x k u. other_word (file_setting b) x k for frames u ∙ sym (names_move (file_setting b) x k for type.Int frames))

pub bracket_step : (b : List ℕ) (tokens inner : List Lexeme) (x : Lexeme) (for : TypeFor) (frames : List Frame) → Takes t.OpenBracket x tokens inner
    → reads b tokens (behind_int_word for) frames ≡ reads b inner (an_endpoint for lower) frames
unfolding moves
bracket_step b tokens inner x for frames e = goes b e _ _ refl

-- The endpoints of a range.

only_endpoint : (s : Setting) (x : Lexeme) (k : Terminal) (for : TypeFor) (side : Side) (frames : List Frame) → (k ≡ t.Minus → ⊥) → (k ≡ t.Number → ⊥)
    → endpoint_moves s x k for side frames ≡ bad
only_endpoint s x t.Minus for side frames h g = absurd (h refl)
only_endpoint s x t.Number for side frames h g = absurd (g refl)
only_endpoint s x _ for side frames h g = refl

pub endpoint_bad : (b : List ℕ) (tokens : List Lexeme) (for : TypeFor) (side : Side) (frames : List Frame) → NotNext t.Minus tokens → NotNext t.Number tokens
    → reads b tokens (an_endpoint for side) frames ≡ Err (refusal.Syntax (place (length b) tokens))
unfolding reads moves
endpoint_bad b tokens for side frames h g = refused_both b t.Minus t.Number tokens _ _ h g refl (λ x k u v. only_endpoint (file_setting b) x k for side frames u v)

pub endpoint_step : (b : List ℕ) (tokens inner : List Lexeme) (x : Lexeme) (for : TypeFor) (side : Side) (frames : List Frame) → TakesNumber (file_setting b) x tokens inner
    → reads b tokens (an_endpoint for side) frames ≡ reads b inner (behind_endpoint for side (pos (value_of (file_setting b) x))) frames
unfolding reads moves
endpoint_step b tokens inner x for side frames e = step_numeral (file_setting b) (length b) e.takes _ _ refl e.small

pub endpoint_great : (b : List ℕ) (tokens inner : List Lexeme) (x : Lexeme) (for : TypeFor) (side : Side) (frames : List Frame) → Takes t.Number x tokens inner
    → 2 ^ 127 ≤ value_of (file_setting b) x → reads b tokens (an_endpoint for side) frames ≡ Err (refusal.Literal x.at)
unfolding moves
endpoint_great b tokens inner x for side frames e h = too_great b e _ _ refl h

pub minus_step : (b : List ℕ) (tokens inner : List Lexeme) (x : Lexeme) (for : TypeFor) (side : Side) (frames : List Frame) → Takes t.Minus x tokens inner
    → reads b tokens (an_endpoint for side) frames ≡ reads b inner (an_endpoint_number for side) frames
unfolding moves
minus_step b tokens inner x for side frames e = goes b e _ _ refl

only_number : (s : Setting) (x : Lexeme) (k : Terminal) (for : TypeFor) (side : Side) (frames : List Frame) → (k ≡ t.Number → ⊥)
    → endpoint_number_moves s x k for side frames ≡ bad
only_number s x t.Number for side frames h = absurd (h refl)
only_number s x _ for side frames h = refl

pub number_bad : (b : List ℕ) (tokens : List Lexeme) (for : TypeFor) (side : Side) (frames : List Frame) → NotNext t.Number tokens
    → reads b tokens (an_endpoint_number for side) frames ≡ Err (refusal.Syntax (place (length b) tokens))
unfolding reads moves
number_bad b tokens for side frames h = refused b t.Number tokens _ _ h refl (λ x k u. only_number (file_setting b) x k for side frames u)

pub number_step : (b : List ℕ) (tokens inner : List Lexeme) (x : Lexeme) (for : TypeFor) (side : Side) (frames : List Frame) → TakesNumber (file_setting b) x tokens inner
    → reads b tokens (an_endpoint_number for side) frames ≡ reads b inner (behind_endpoint for side (neg_ℤ (pos (value_of (file_setting b) x)))) frames
unfolding reads moves
number_step b tokens inner x for side frames e = step_numeral (file_setting b) (length b) e.takes _ _ refl e.small

pub number_great : (b : List ℕ) (tokens inner : List Lexeme) (x : Lexeme) (for : TypeFor) (side : Side) (frames : List Frame) → Takes t.Number x tokens inner
    → 2 ^ 127 ≤ value_of (file_setting b) x → reads b tokens (an_endpoint_number for side) frames ≡ Err (refusal.Literal x.at)
unfolding moves
number_great b tokens inner x for side frames e h = too_great b e _ _ refl h

only_comma : (k : Terminal) (for : TypeFor) (value : ℤ) (frames : List Frame) → (k ≡ t.Comma → ⊥) → behind_endpoint_moves k for lower value frames ≡ bad
only_comma t.Comma for value frames h = absurd (h refl)
only_comma _ for value frames h = refl

pub comma_bad : (b : List ℕ) (tokens : List Lexeme) (for : TypeFor) (value : ℤ) (frames : List Frame) → NotNext t.Comma tokens
    → reads b tokens (behind_endpoint for lower value) frames ≡ Err (refusal.Syntax (place (length b) tokens))
unfolding reads moves
comma_bad b tokens for value frames h = refused b t.Comma tokens _ _ h refl (λ x k u. only_comma k for value frames u)

pub comma_step : (b : List ℕ) (tokens inner : List Lexeme) (x : Lexeme) (for : TypeFor) (value : ℤ) (frames : List Frame) → Takes t.Comma x tokens inner
    → reads b tokens (behind_endpoint for lower value) frames ≡ reads b inner (an_endpoint for (upper value)) frames
unfolding moves
comma_step b tokens inner x for value frames e = goes b e _ _ refl

only_close : (k : Terminal) (for : TypeFor) (least value : ℤ) (frames : List Frame) → (k ≡ t.CloseBracket → ⊥) → behind_endpoint_moves k for (upper least) value frames ≡ bad
only_close t.CloseBracket for least value frames h = absurd (h refl)
only_close _ for least value frames h = refl

pub close_bad : (b : List ℕ) (tokens : List Lexeme) (for : TypeFor) (least value : ℤ) (frames : List Frame) → NotNext t.CloseBracket tokens
    → reads b tokens (behind_endpoint for (upper least) value) frames ≡ Err (refusal.Syntax (place (length b) tokens))
unfolding reads moves
close_bad b tokens for least value frames h = refused b t.CloseBracket tokens _ _ h refl (λ x k u. only_close k for least value frames u)

pub close_step : (b : List ℕ) (tokens inner : List Lexeme) (x : Lexeme) (for : TypeFor) (least value : ℤ) (frames : List Frame) → Takes t.CloseBracket x tokens inner
    → reads b tokens (behind_endpoint for (upper least) value) frames ≡ reads b inner (behind_type for (type.Range least value)) frames
unfolding moves
close_step b tokens inner x for least value frames e = goes b e _ _ refl
