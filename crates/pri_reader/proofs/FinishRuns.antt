-- The state of the machine after the first tokens of a file, and what a file's front and its state have to do with each other:
-- the tokens begin a file exactly where the machine takes them.
use Rattle.std.proofs.Common.{ℕ, ◌≡◌, ◌≤◌, ◌<◌, ◌||◌, Bool, true, false, List, [], ◌∷◌, ◌++◌, length, Result, Ok, Err, refl, sym, ap, subst, ◌∙◌, arith, if◌then◌else◌, nat_lt}
use Rattle.std.proofs.lemmas.List.{append-nil, length-append}
use Rattle.std.proofs.lemmas.Bool.{lt-ltb, le-ltb}
use Rattle.pri_tokens.specs.declared.terminals.Terminal.{Terminal}
use Rattle.pri_tokens.specs.declared.terminals.Lexeme.{Lexeme}
use Rattle.pri_reader.specs.declared.tree.File.{File}
use Rattle.pri_reader.specs.declared.tree.ReadRefusal.{ReadRefusal}
use Rattle.pri_reader.specs.declared.tree.ReadRefusal.TheVariants as refusal
use Rattle.pri_reader.specs.Grammar.{Limit, Setting, value_of}
use Rattle.pri_reader.specs.MachineStates.{Frame, Want, a_block, Move, bad, on, numeral, level}
use Rattle.pri_reader.specs.Machine.{moves, limited, goes_on, ends, run}
use Rattle.pri_reader.specs.First.{with_limits, AsksNumber}
use Rattle.pri_reader.specs.First.{any, unlimited, asked_before, in_front_of, BeginsFile}
use Rattle.pri_reader.proofs.CompleteBlocks.{file_complete}
use Rattle.pri_reader.proofs.Sound.{file_sound}
use Rattle.pri_reader.proofs.Finish.{IsWhole, completes, or_true}
use Rattle.pri_reader.proofs.FinishMoves.{Keeps, moves_keep}

abbrev pub State : Type 0
State = Want × List Frame

abbrev pub Next : Type 0
Next = Want → List Frame → Result State ReadRefusal

abbrev pub Rest : Type 0
Rest = Want → List Frame → Result File ReadRefusal

abbrev pub and_then : Next → Result State ReadRefusal → Result State ReadRefusal
and_then next (Ok state) = next state.0 state.1
and_then next (Err e) = Err e

-- the state after the tokens, from a state on; for limits that ask of the number alone
unfoldable pub after : Setting → List Lexeme → Want → List Frame → Result State ReadRefusal
after s [] want frames = Ok (want, frames)
after s (x ∷ front) want frames = and_then (after s front) (limited (s.small []) (s.shallow []) x.at (moves s x x.terminal want frames))

-- The run of a file is that of its front, and then that of what is after it.

run_limit : (v w : Bool) (more : Rest) (next : Next) (last : Rest) (want : Want) (frames : List Frame) (e : ReadRefusal) → v ≡ w
    → more want frames ≡ goes_on last (next want frames)
    → goes_on more (if v then Ok (want, frames) else Err e) ≡ goes_on last (and_then next (if w then Ok (want, frames) else Err e))
run_limit true true more next last want frames e q r = r
run_limit true false more next last want frames e q r = absurd cc
run_limit false true more next last want frames e q r = absurd cc
run_limit false false more next last want frames e q r = refl

run_move : (more : Rest) (next : Next) (last : Rest) (small shallow few low : ℕ → Bool) (at : ℕ) (m : Move) → ((n : ℕ) → small n ≡ few n) → ((n : ℕ) → shallow n ≡ low n)
    → ((want : Want) (frames : List Frame) → more want frames ≡ goes_on last (next want frames))
    → goes_on more (limited small shallow at m) ≡ goes_on last (and_then next (limited few low at m))
run_move more next last small shallow few low at bad u v r = refl
run_move more next last small shallow few low at (on want frames) u v r = r want frames
run_move more next last small shallow few low at (numeral n want frames) u v r = run_limit (small n) (few n) more next last want frames (refusal.Literal at) (u n) (r want frames)
run_move more next last small shallow few low at (level n want frames) u v r = run_limit (shallow n) (low n) more next last want frames (refusal.Deep at) (v n) (r want frames)

-- a limit is this one at every token that has this many tokens after it
abbrev Agrees : ℕ → Limit → (ℕ → Bool) → Type 0
Agrees most limit few = (rest : List Lexeme) (n : ℕ) → most ≤ length rest → limit rest n ≡ few n

behind_most : (front back : List Lexeme) → length back ≤ length (front ++ back)
behind_most front back = let e = length-append front back in omega arith

run_front : (s : Setting) (small shallow : Limit) (end : ℕ) (back front : List Lexeme) (want : Want) (frames : List Frame)
    → Agrees (length back) small (s.small []) → Agrees (length back) shallow (s.shallow [])
    → run (with_limits s small shallow) end (front ++ back) want frames ≡ goes_on (run (with_limits s small shallow) end back) (after s front want frames)
unfolding run moves after
run_front s small shallow end back [] want frames u v = refl
run_front s small shallow end back (x ∷ front) want frames u v =
    run_move (run (with_limits s small shallow) end (front ++ back)) (after s front) (run (with_limits s small shallow) end back) (small (front ++ back))
    (shallow (front ++ back)) (s.small []) (s.shallow []) x.at (moves s x x.terminal want frames) (λ n. u (front ++ back) n (behind_most front back))
    (λ n. v (front ++ back) n (behind_most front back)) (λ w f. run_front s small shallow end back front w f u v)

-- the whole run
pub run_all : (s : Setting) (end : ℕ) (tokens : List Lexeme) (want : Want) (frames : List Frame) → AsksNumber s.small → AsksNumber s.shallow
    → run s end tokens want frames ≡ goes_on (λ w f. ends end w) (after s tokens want frames)
unfolding run
run_all s end tokens want frames u v =
    ap (λ z. run s end z want frames) (sym (append-nil tokens))
    ∙ run_front s s.small s.shallow end [] tokens want frames (λ rest n h. u rest [] n) (λ rest n h. v rest [] n)

-- Two fronts, one after the other.

and_then_twice : (one two : Next) (both : Next) (o : Result State ReadRefusal) → ((want : Want) (frames : List Frame) → both want frames ≡ and_then two (one want frames))
    → and_then both o ≡ and_then two (and_then one o)
and_then_twice one two both (Ok state) r = r state.0 state.1
and_then_twice one two both (Err e) r = refl

pub after_two : (s : Setting) (front back : List Lexeme) (want : Want) (frames : List Frame)
    → after s (front ++ back) want frames ≡ and_then (after s back) (after s front want frames)
unfolding after
after_two s [] back want frames = refl
after_two s (x ∷ front) back want frames =
    and_then_twice (after s front) (after s back) (after s (front ++ back)) (limited (s.small []) (s.shallow []) x.at (moves s x x.terminal want frames))
    (λ w f. after_two s front back w f)

-- Wider limits let the same pass.

abbrev Wider : (ℕ → Bool) → (ℕ → Bool) → Type 0
Wider few many = (n : ℕ) → few n ≡ true → many n ≡ true

wider_limit : (v w : Bool) (next other : Next) (want : Want) (frames : List Frame) (e : ReadRefusal) (state : State) → (v ≡ true → w ≡ true)
    → (next want frames ≡ Ok state → other want frames ≡ Ok state)
    → and_then next (if v then Ok (want, frames) else Err e) ≡ Ok state → and_then other (if w then Ok (want, frames) else Err e) ≡ Ok state
wider_limit true true next other want frames e state q r i = r i
wider_limit true false next other want frames e state q r i = let z = q refl in absurd cc
wider_limit false w next other want frames e state q r i = absurd cc

wider_move : (next other : Next) (small shallow many deep : ℕ → Bool) (at : ℕ) (m : Move) (state : State) → Wider small many → Wider shallow deep
    → ((want : Want) (frames : List Frame) → next want frames ≡ Ok state → other want frames ≡ Ok state)
    → and_then next (limited small shallow at m) ≡ Ok state → and_then other (limited many deep at m) ≡ Ok state
wider_move next other small shallow many deep at bad state u v r i = absurd cc
wider_move next other small shallow many deep at (on want frames) state u v r i = r want frames i
wider_move next other small shallow many deep at (numeral n want frames) state u v r i =
    wider_limit (small n) (many n) next other want frames (refusal.Literal at) state (u n) (r want frames) i
wider_move next other small shallow many deep at (level n want frames) state u v r i =
    wider_limit (shallow n) (deep n) next other want frames (refusal.Deep at) state (v n) (r want frames) i

after_wider : (s : Setting) (small shallow : Limit) → Wider (s.small []) (small []) → Wider (s.shallow []) (shallow [])
    → (front : List Lexeme) (want : Want) (frames : List Frame) (state : State) → after s front want frames ≡ Ok state → after (with_limits s small shallow) front want frames ≡ Ok state
unfolding after moves
after_wider s small shallow u v [] want frames state e = e
after_wider s small shallow u v (x ∷ front) want frames state e =
    wider_move (after s front) (after (with_limits s small shallow) front) (s.small []) (s.shallow []) (small []) (shallow []) x.at (moves s x x.terminal want frames) state u v
    (λ w f h. after_wider s small shallow u v front w f state h) e

and_then_nothing : (s : Setting) (o : Result State ReadRefusal) → and_then (after s []) o ≡ o
unfolding after
and_then_nothing s (Ok state) = refl
and_then_nothing s (Err e) = refl

-- the state after one more token, with wider limits
pub after_one : (s : Setting) (small shallow : Limit) → Wider (s.small []) (small []) → Wider (s.shallow []) (shallow [])
    → (front : List Lexeme) (x : Lexeme) (state : State) (m : Move) → after s front (a_block []) [] ≡ Ok state → moves s x x.terminal state.0 state.1 ≡ m
    → after (with_limits s small shallow) (front ++ x ∷ []) (a_block []) [] ≡ limited (small []) (shallow []) x.at m
unfolding after moves
after_one s small shallow u v front x state m e q =
    after_two (with_limits s small shallow) front (x ∷ []) (a_block []) []
    ∙ ap (and_then (after (with_limits s small shallow) (x ∷ []))) (after_wider s small shallow u v front (a_block []) [] state e)
    ∙ and_then_nothing (with_limits s small shallow) (limited (small []) (shallow []) x.at (moves s x x.terminal state.0 state.1)) ∙ ap (limited (small []) (shallow []) x.at) q

-- Each state after a front is whole.

kept_limit : (v : Bool) (next : Next) (want : Want) (frames : List Frame) (e : ReadRefusal) (state : State) → (next want frames ≡ Ok state → IsWhole state.0 state.1)
    → and_then next (if v then Ok (want, frames) else Err e) ≡ Ok state → IsWhole state.0 state.1
kept_limit true next want frames e state r i = r i
kept_limit false next want frames e state r i = absurd cc

kept_move : (next : Next) (k : Terminal) (value : ℕ) (small shallow : ℕ → Bool) (at : ℕ) (m : Move) (state : State) → Keeps k value m
    → ((want : Want) (frames : List Frame) → IsWhole want frames → next want frames ≡ Ok state → IsWhole state.0 state.1)
    → and_then next (limited small shallow at m) ≡ Ok state → IsWhole state.0 state.1
kept_move next k value small shallow at bad state g r i = absurd cc
kept_move next k value small shallow at (on want frames) state g r i = r want frames g.1 i
kept_move next k value small shallow at (numeral n want frames) state g r i = kept_limit (small n) next want frames (refusal.Literal at) state (r want frames g.2) i
kept_move next k value small shallow at (level n want frames) state g r i = kept_limit (shallow n) next want frames (refusal.Deep at) state (r want frames g.1) i

after_whole : (s : Setting) (front : List Lexeme) (want : Want) (frames : List Frame) (state : State) → IsWhole want frames → after s front want frames ≡ Ok state → IsWhole state.0 state.1
unfolding after
after_whole s [] want frames state w e = let q : want ≡ state.0 = cc in let r : frames ≡ state.1 = cc in subst (λ z. IsWhole z state.1) q (subst (λ z. IsWhole want z) r w)
after_whole s (x ∷ front) want frames state w e =
    kept_move (after s front) x.terminal (value_of s x) (s.small []) (s.shallow []) x.at (moves s x x.terminal want frames) state (moves_keep s x x.terminal want frames w)
    (λ new more v h. after_whole s front new more state v h) e

pub state_whole : (s : Setting) (front : List Lexeme) (state : State) → after s front (a_block []) [] ≡ Ok state → IsWhole state.0 state.1
state_whole s front state e = after_whole s front (a_block []) [] state tt e

-- The limits of a front.

or_false : (a b : Bool) → b ≡ false → (a || b) ≡ a
or_false true b e = refl
or_false false b e = e

asked : (more : List Lexeme) (limit : Limit) → AsksNumber limit → Agrees (length more) (asked_before more limit) (limit [])
asked more limit u rest n h = or_false (limit rest n) (nat_lt (length rest) (length more)) (le-ltb (length rest) (length more) h) ∙ u rest [] n

not_asked : (more : List Lexeme) (limit : Limit) (rest : List Lexeme) (n : ℕ) → length rest < length more → asked_before more limit rest n ≡ true
not_asked more limit rest n h = or_true (limit rest n) (nat_lt (length rest) (length more)) (lt-ltb (length rest) (length more) h)

free_limit : (v w : Bool) (more other : Rest) (want : Want) (frames : List Frame) (e : ReadRefusal) → v ≡ true → w ≡ true → more want frames ≡ other want frames
    → goes_on more (if v then Ok (want, frames) else Err e) ≡ goes_on other (if w then Ok (want, frames) else Err e)
free_limit true true more other want frames e p q r = r
free_limit true false more other want frames e p q r = absurd cc
free_limit false w more other want frames e p q r = absurd cc

free_move : (more other : Rest) (small shallow : ℕ → Bool) (at : ℕ) (m : Move) → ((n : ℕ) → small n ≡ true) → ((n : ℕ) → shallow n ≡ true)
    → ((want : Want) (frames : List Frame) → more want frames ≡ other want frames) → goes_on more (limited small shallow at m) ≡ goes_on other (limited (any []) (any []) at m)
free_move more other small shallow at bad u v r = refl
free_move more other small shallow at (on want frames) u v r = r want frames
free_move more other small shallow at (numeral n want frames) u v r = free_limit (small n) true more other want frames (refusal.Literal at) (u n) refl (r want frames)
free_move more other small shallow at (level n want frames) u v r = free_limit (shallow n) true more other want frames (refusal.Deep at) (v n) refl (r want frames)

abbrev IsFree : ℕ → Limit → Type 0
IsFree most limit = (rest : List Lexeme) (n : ℕ) → length rest < most → limit rest n ≡ true

-- tokens that nothing is asked of
run_free : (s : Setting) (small shallow : Limit) (most end : ℕ) → IsFree most small → IsFree most shallow → (tokens : List Lexeme) → length tokens ≤ most
    → (want : Want) (frames : List Frame) → run (with_limits s small shallow) end tokens want frames ≡ run (unlimited s) end tokens want frames
unfolding run moves
run_free s small shallow most end u v [] h want frames = refl
run_free s small shallow most end u v (x ∷ tokens) h want frames =
    free_move (run (with_limits s small shallow) end tokens) (run (unlimited s) end tokens) (small tokens) (shallow tokens) x.at (moves s x x.terminal want frames)
    (λ n. u tokens n (omega arith)) (λ n. v tokens n (omega arith)) (λ w f. run_free s small shallow most end u v tokens (omega arith) w f)

-- A front begins a file exactly where there is a state after it.

pub begins_after : (s : Setting) → AsksNumber s.small → AsksNumber s.shallow → (front : List Lexeme) (state : State) → after s front (a_block []) [] ≡ Ok state → BeginsFile s front
begins_after s u v front state e =
    let c = completes s state.0 state.1 (state_whole s front state e) in
    record {
      more = c.more;
      file = c.file;
      is_file = file_sound (in_front_of c.more s) 0 c.file (front ++ c.more)
          (run_front s (asked_before c.more s.small) (asked_before c.more s.shallow) 0 c.more front (a_block []) [] (asked c.more s.small u) (asked c.more s.shallow v)
          ∙ ap (goes_on (run (in_front_of c.more s) 0 c.more)) e
          ∙ run_free s (asked_before c.more s.small) (asked_before c.more s.shallow) (length c.more) 0 (not_asked c.more s.small) (not_asked c.more s.shallow) c.more (omega arith) state.0 state.1
          ∙ c.ends 0);
    }

-- there is a state
pub record IsTaken (o : Result State ReadRefusal) : Type 0 where
  pub state : State
  pub is : o ≡ Ok state

taken_by : (more : Rest) (o : Result State ReadRefusal) (file : File) → goes_on more o ≡ Ok file → IsTaken o
taken_by more (Ok state) file e = record { state = state; is = refl }
taken_by more (Err e) file q = absurd cc

pub after_begins : (s : Setting) → AsksNumber s.small → AsksNumber s.shallow → (front : List Lexeme) → BeginsFile s front → IsTaken (after s front (a_block []) [])
after_begins s u v front b =
    taken_by (run (in_front_of b.more s) 0 b.more) (after s front (a_block []) []) b.file
    (sym (run_front s (asked_before b.more s.small) (asked_before b.more s.shallow) 0 b.more front (a_block []) [] (asked b.more s.small u) (asked b.more s.shallow v))
    ∙ file_complete (in_front_of b.more s) 0 b.file (front ++ b.more) b.is_file)
