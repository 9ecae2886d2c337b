-- What the machine reads is derived: every move keeps what its state says of the tokens before.
use Rattle.std.proofs.Common.{ℕ, ◌≡◌, Bool, true, false, List, [], ◌∷◌, Result, Ok, Err, refl, ap, subst, if◌then◌else◌}
use Rattle.pri_tokens.specs.declared.terminals.Lexeme.{Lexeme}
use Rattle.pri_reader.specs.declared.tree.File.{File}
use Rattle.pri_reader.specs.declared.tree.Block.{Block}
use Rattle.pri_reader.specs.declared.tree.ReadRefusal.{ReadRefusal}
use Rattle.pri_reader.specs.declared.tree.ReadRefusal.TheVariants as refusal
use Rattle.pri_reader.specs.Classes.{prefix_of, opening_of}
use Rattle.pri_reader.specs.Grammar.{Setting, Takes, has_problem, Blocks, blocks_none, IsFile}
use Rattle.pri_reader.specs.MachineStates.{Frame, Want, a_unary, a_minus, a_parenthesis, behind_name, an_argument, a_pair, a_binder, a_type, behind_int_word, an_endpoint, an_endpoint_number, behind_endpoint, a_bound, bound_more, a_part_bracket, a_part_name, a_part_close, gives, a_block, a_brace, a_line, a_name, names_more, an_item_line, an_item, behind_item, a_first_parameter, a_parameter, behind_int, parameters_more, items_more, Move, bad, on, numeral, level}
use Rattle.pri_reader.specs.Machine.{moves, limited, goes_on, ends, run}
use Rattle.pri_reader.proofs.States.{IsOpen, Good}
use Rattle.pri_reader.proofs.Following.{follows_sound}
use Rattle.pri_reader.proofs.Beginning.{open_sound, minus_sound, unary_sound, argument_sound, name_sound, pair_begins_sound, bracket_sound, part_name_sound, part_close_sound}
use Rattle.pri_reader.proofs.BinderMoves.{line_sound, binder_sound, type_sound, int_word_sound, endpoint_sound, endpoint_number_sound, behind_endpoint_sound, bound_sound, bound_more_sound}
use Rattle.pri_reader.proofs.BlockMoves.{block_sound, brace_sound, a_name_sound, names_more_sound, item_sound, item_line_sound, items_more_sound, behind_item_sound, parameter_sound, first_parameter_sound, parameters_more_sound, behind_int_sound}

-- Every state.

moves_sound : (s : Setting) (start : List Lexeme) (want : Want) (frames : List Frame) (x : Lexeme) (tokens inner : List Lexeme) → Takes x.terminal x tokens inner
    → IsOpen s start want frames tokens → Good s start (moves s x x.terminal want frames) inner
unfolding moves
moves_sound s start (a_unary n) frames x tokens inner e a = unary_sound s start n frames e a (prefix_of x.terminal) refl
moves_sound s start (a_minus n) frames x tokens inner e a = minus_sound s start n frames e a (opening_of x.terminal) refl
moves_sound s start (a_parenthesis n) frames x tokens inner e a = open_sound s start n frames x.terminal e a
moves_sound s start (behind_name name n) frames x tokens inner e a = name_sound s start name n frames e a
moves_sound s start (an_argument name n) frames x tokens inner e a = argument_sound s start name n frames e a
moves_sound s start (a_pair max at n) frames x tokens inner e a = pair_begins_sound s start max at n frames x.terminal e a
moves_sound s start (a_binder at all n) frames x tokens inner e a = binder_sound s start at all n frames e a
moves_sound s start (a_type for) frames x tokens inner e a = type_sound s start for frames x.terminal e a
moves_sound s start (behind_int_word for) frames x tokens inner e a = int_word_sound s start for frames e a
moves_sound s start (an_endpoint for side) frames x tokens inner e a = endpoint_sound s start for side frames x.terminal e a
moves_sound s start (an_endpoint_number for side) frames x tokens inner e a = endpoint_number_sound s start for side frames x.terminal e a
moves_sound s start (behind_endpoint for side value) frames x tokens inner e a = behind_endpoint_sound s start for side value frames x.terminal e a
moves_sound s start (a_bound at all several sort n names) frames x tokens inner e a = bound_sound s start at all several sort n names frames x.terminal e a
moves_sound s start (bound_more at all several sort n names) frames x tokens inner e a = bound_more_sound s start at all several sort n names frames x.terminal e a
moves_sound s start (a_part_bracket at n) frames x tokens inner e a = bracket_sound s start at n frames x.terminal e a
moves_sound s start (a_part_name at n) frames x tokens inner e a = part_name_sound s start at n frames x.terminal e a
moves_sound s start (a_part_close at name n) frames x tokens inner e a = part_close_sound s start at name n frames x.terminal e a
moves_sound s start (gives f) frames x tokens inner e a = follows_sound s start frames f a.part a.depth x a.outer tokens inner e a.derived a.fits
moves_sound s start (a_block blocks) frames x tokens inner e a = block_sound s start blocks x.terminal e a
moves_sound s start (a_brace heading at blocks) frames x tokens inner e a = brace_sound s start heading at blocks x.terminal e a
moves_sound s start (a_line universal at names blocks) frames x tokens inner e a = line_sound s start universal at names blocks e a
moves_sound s start (a_name names_for names) frames x tokens inner e a = a_name_sound s start names_for names x.terminal e a
moves_sound s start (names_more names_for names) frames x tokens inner e a = names_more_sound s start names_for names e a
moves_sound s start (an_item_line i) frames x tokens inner e a = item_line_sound s start i.typed i.at i.items i.blocks x.terminal e a
moves_sound s start (an_item i) frames x tokens inner e a = item_sound s start i x.terminal e a
moves_sound s start (behind_item i name) frames x tokens inner e a = behind_item_sound s start i name e a
moves_sound s start (a_first_parameter i name) frames x tokens inner e a = first_parameter_sound s start i name e a
moves_sound s start (a_parameter i name n) frames x tokens inner e a = parameter_sound s start i name n x.terminal e a
moves_sound s start (behind_int i name n) frames x tokens inner e a = behind_int_sound s start i name n e a
moves_sound s start (parameters_more i name n) frames x tokens inner e a = parameters_more_sound s start i name n x.terminal e a
moves_sound s start (items_more i) frames x tokens inner e a = items_more_sound s start i x.terminal e a

-- The whole run.

abbrev file_of : List Block → File
file_of blocks = record { blocks = blocks }

abbrev ok_file : List Block → Result File ReadRefusal
ok_file blocks = Ok (file_of blocks)

ok_blocks : (blocks : List Block) (file : File) → ok_file blocks ≡ Ok file → blocks ≡ file.blocks
ok_blocks blocks file e = let q : file_of blocks ≡ file = cc in ap (λ z. z.blocks) q

allowed_by : (more : Want → List Frame → Result File ReadRefusal) (e : ReadRefusal) (want : Want) (frames : List Frame) (file : File) (v : Bool)
    → goes_on more (if v then Ok (want, frames) else Err e) ≡ Ok file → {A : Type 0} → (v ≡ true → more want frames ≡ Ok file → A) → A
allowed_by more e want frames file true i r = r refl i
allowed_by more e want frames file false i r = absurd cc

ends_by : (s : Setting) (end : ℕ) (start : List Lexeme) (blocks : List Block) (file : File) → Blocks s blocks start [] → (v : Bool) → has_problem blocks ≡ v
    → (if v then Ok (record { blocks = blocks }) else Err (refusal.Syntax end)) ≡ Ok file → IsFile s file start
ends_by s end start blocks file m true q e =
    let i : blocks ≡ file.blocks = ok_blocks blocks file e in
    record { blocks_are = subst (λ z. Blocks s z start []) i m; problem = subst (λ z. has_problem z ≡ true) i q }
ends_by s end start blocks file m false q e = absurd cc

ends_sound : (s : Setting) (end : ℕ) (start : List Lexeme) (want : Want) (frames : List Frame) (file : File) → IsOpen s start want frames [] → ends end want ≡ Ok file → IsFile s file start
ends_sound s end start (a_block blocks) frames file m e = ends_by s end start blocks file m (has_problem blocks) refl e
ends_sound s end start _ frames file m e = absurd cc

move_by : (s : Setting) (end : ℕ) (start inner : List Lexeme) (at : ℕ) (file : File) (m : Move) → Good s start m inner
    → goes_on (run s end inner) (limited (s.small inner) (s.shallow inner) at m) ≡ Ok file
    → ((want : Want) (frames : List Frame) → IsOpen s start want frames inner → run s end inner want frames ≡ Ok file → IsFile s file start) → IsFile s file start
move_by s end start inner at file bad g e r = absurd cc
move_by s end start inner at file (on want frames) g e r = r want frames g e
move_by s end start inner at file (numeral n want frames) g e r = allowed_by (run s end inner) (refusal.Literal at) want frames file (s.small inner n) e (λ v i. r want frames (g v) i)
move_by s end start inner at file (level n want frames) g e r = allowed_by (run s end inner) (refusal.Deep at) want frames file (s.shallow inner n) e (λ v i. r want frames (g v) i)

run_sound : (s : Setting) (end : ℕ) (start tokens : List Lexeme) (want : Want) (frames : List Frame) (file : File) → IsOpen s start want frames tokens
    → run s end tokens want frames ≡ Ok file → IsFile s file start
unfolding run
run_sound s end start [] want frames file a e = ends_sound s end start want frames file a e
run_sound s end start (x ∷ inner) want frames file a e =
    let taken : Takes x.terminal x (x ∷ inner) inner = record { parts = refl; is = refl } in
    move_by s end start inner x.at file (moves s x x.terminal want frames) (moves_sound s start want frames x (x ∷ inner) inner taken a) e
    (λ w fr b i. run_sound s end start inner w fr file b i)

-- what the machine reads as a file is one
pub file_sound : (s : Setting) (end : ℕ) (file : File) (tokens : List Lexeme) → run s end tokens (a_block []) [] ≡ Ok file → IsFile s file tokens
file_sound s end file tokens e = run_sound s end tokens tokens (a_block []) [] file blocks_none e
