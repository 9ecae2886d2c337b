-- The machine refuses tokens with exactly their first refusal.
use Rattle.std.proofs.Common.{ℕ, ◌≡◌, Bool, true, false, List, [], ◌∷◌, ◌++◌, Result, Ok, Err, refl, sym, ap, subst, ◌∙◌, inl, inr, ◌⊎◌, ◌↔◌, if◌then◌else◌}
use Rattle.pri_tokens.specs.declared.terminals.Terminal.TheVariants as t
use Rattle.pri_tokens.specs.declared.terminals.Lexeme.{Lexeme}
use Rattle.pri_reader.specs.declared.tree.File.{File}
use Rattle.pri_reader.specs.declared.tree.Block.{Block}
use Rattle.pri_reader.specs.declared.tree.ReadRefusal.{ReadRefusal}
use Rattle.pri_reader.specs.declared.tree.ReadRefusal.TheVariants as refusal
use Rattle.pri_reader.specs.Grammar.{Setting, value_of, has_problem, IsFile}
use Rattle.pri_reader.specs.MachineStates.{Frame, Want, a_block, Move, bad, on, numeral, level}
use Rattle.pri_reader.specs.Machine.{moves, limited, goes_on, ends, run}
use Rattle.pri_reader.specs.First.{AsksNumber}
use Rattle.pri_reader.specs.First.{any, opens_level, unlimited, without_levels, BeginsFile, FirstAt, IsFirstRefusal, first_syntax, first_literal, first_deep, first_end}
use Rattle.pri_reader.proofs.CompleteBlocks.{file_complete}
use Rattle.pri_reader.proofs.Sound.{file_sound}
use Rattle.pri_reader.proofs.FinishMoves.{is_number, Keeps, moves_keep}
use Rattle.pri_reader.proofs.FinishRuns.{State, and_then, after, run_all, after_two, after_one, state_whole, begins_after, IsTaken, after_begins}

-- The state after a front and the token there, with the limits, without those of levels, and without any.

one_more : (s : Setting) (front : List Lexeme) (x : Lexeme) (state : State) (m : Move) → after s front (a_block []) [] ≡ Ok state → moves s x x.terminal state.0 state.1 ≡ m
    → after s (front ++ x ∷ []) (a_block []) [] ≡ limited (s.small []) (s.shallow []) x.at m
one_more s front x state m e q = after_one s s.small s.shallow (λ n h. h) (λ n h. h) front x state m e q

one_more_without_levels : (s : Setting) (front : List Lexeme) (x : Lexeme) (state : State) (m : Move) → after s front (a_block []) [] ≡ Ok state → moves s x x.terminal state.0 state.1 ≡ m
    → after (without_levels s) (front ++ x ∷ []) (a_block []) [] ≡ limited (s.small []) (any []) x.at m
one_more_without_levels s front x state m e q = after_one s s.small any (λ n h. h) (λ n h. refl) front x state m e q

one_more_unlimited : (s : Setting) (front : List Lexeme) (x : Lexeme) (state : State) (m : Move) → after s front (a_block []) [] ≡ Ok state → moves s x x.terminal state.0 state.1 ≡ m
    → after (unlimited s) (front ++ x ∷ []) (a_block []) [] ≡ limited (any []) (any []) x.at m
one_more_unlimited s front x state m e q = after_one s any any (λ n h. refl) (λ n h. refl) front x state m e q

asks_none : AsksNumber any
asks_none one two n = refl

-- there is no state where a move is refused
not_taken : (o r : Result State ReadRefusal) (e : ReadRefusal) → o ≡ r → r ≡ Err e → IsTaken o → ⊥
not_taken o r e p q b = let i = b.is in absurd cc

-- A refusal of the machine has a front, a state after it, and a token that is refused there.

record Stop (s : Setting) (tokens : List Lexeme) (want : Want) (frames : List Frame) (e : ReadRefusal) : Type 0 where
  front : List Lexeme
  x : Lexeme
  back : List Lexeme
  parts : tokens ≡ front ++ x ∷ back
  state : State
  reached : after s front want frames ≡ Ok state
  refused : limited (s.small []) (s.shallow []) x.at (moves s x x.terminal state.0 state.1) ≡ Err e

stop_by : (s : Setting) (x : Lexeme) (tokens : List Lexeme) (want : Want) (frames : List Frame) (e : ReadRefusal) (o : Result State ReadRefusal)
    → limited (s.small []) (s.shallow []) x.at (moves s x x.terminal want frames) ≡ o → and_then (after s tokens) o ≡ Err e
    → ((new : Want) (more : List Frame) → after s tokens new more ≡ Err e → Stop s tokens new more e) → Stop s (x ∷ tokens) want frames e
unfolding after
stop_by s x tokens want frames e (Ok state) q h r =
    let c = r state.0 state.1 h in
    record {
      front = x ∷ c.front;
      x = c.x;
      back = c.back;
      parts = ap (λ z. x ∷ z) c.parts;
      state = c.state;
      reached = ap (and_then (after s c.front)) q ∙ c.reached;
      refused = c.refused;
    }
stop_by s x tokens want frames e (Err other) q h r =
    record { front = []; x = x; back = tokens; parts = refl; state = (want, frames); reached = refl; refused = q ∙ h }

stop_of : (s : Setting) (tokens : List Lexeme) (want : Want) (frames : List Frame) (e : ReadRefusal) → after s tokens want frames ≡ Err e → Stop s tokens want frames e
unfolding after
stop_of s [] want frames e h = absurd cc
stop_of s (x ∷ tokens) want frames e h =
    stop_by s x tokens want frames e (limited (s.small []) (s.shallow []) x.at (moves s x x.terminal want frames)) refl h (λ new more g. stop_of s tokens new more e g)

-- What is refused there is the first refusal.

limit_false : (state : State) (e f : ReadRefusal) (v : Bool) → (if v then Ok state else Err f) ≡ Err e → (v ≡ false) × (f ≡ e)
limit_false state e f true h = absurd cc
limit_false state e f false h = (refl, cc)

refused_by : (small shallow : ℕ → Bool) (at n : ℕ) (want : Want) (frames : List Frame) → small n ≡ false → limited small shallow at (numeral n want frames) ≡ Err (refusal.Literal at)
refused_by small shallow at n want frames e = ap (λ z. if z then Ok (want, frames) else Err (refusal.Literal at)) e

deep_by : (small shallow : ℕ → Bool) (at n : ℕ) (want : Want) (frames : List Frame) → shallow n ≡ false → limited small shallow at (level n want frames) ≡ Err (refusal.Deep at)
deep_by small shallow at n want frames e = ap (λ z. if z then Ok (want, frames) else Err (refusal.Deep at)) e

abbrev first_at : (s : Setting) → AsksNumber s.small → AsksNumber s.shallow → (tokens front back : List Lexeme) (x : Lexeme) (state : State)
    → tokens ≡ front ++ x ∷ back → after s front (a_block []) [] ≡ Ok state → FirstAt s tokens x.at
first_at s u v tokens front back x state p e = record { front = front; x = x; back = back; parts = p; place = refl; begins = begins_after s u v front state e }

move_refused : (s : Setting) → AsksNumber s.small → AsksNumber s.shallow → (end : ℕ) (tokens front back : List Lexeme) (x : Lexeme) (state : State) (e : ReadRefusal)
    → tokens ≡ front ++ x ∷ back → after s front (a_block []) [] ≡ Ok state → (m : Move) → moves s x x.terminal state.0 state.1 ≡ m
    → Keeps x.terminal (value_of s x) m → limited (s.small []) (s.shallow []) x.at m ≡ Err e → IsFirstRefusal s end tokens e
move_refused s u v end tokens front back x state e p r bad q k h =
    let i : refusal.Syntax x.at ≡ e = cc in
    subst (λ z. IsFirstRefusal s end tokens z) i (first_syntax (record {
      first = first_at s u v tokens front back x state p r;
      none = λ b. not_taken (after (unlimited s) (front ++ x ∷ []) (a_block []) []) (limited (any []) (any []) x.at bad) (refusal.Syntax x.at)
          (one_more_unlimited s front x state bad r q) refl (after_begins (unlimited s) asks_none asks_none (front ++ x ∷ []) b);
    }))
move_refused s u v end tokens front back x state e p r (on want frames) q k h = absurd cc
move_refused s u v end tokens front back x state e p r (numeral n want frames) q k h =
    let i = limit_false (want, frames) e (refusal.Literal x.at) (s.small [] n) h in
    subst (λ z. IsFirstRefusal s end tokens z) i.1 (first_literal (record {
      first = first_at s u v tokens front back x state p r;
      fits = begins_after (unlimited s) asks_none asks_none (front ++ x ∷ []) (want, frames) (one_more_unlimited s front x state (numeral n want frames) r q);
      numeral = k.0;
      large = ap (s.small back) (sym k.1) ∙ u back [] n ∙ i.0;
    }))
move_refused s u v end tokens front back x state e p r (level n want frames) q k h =
    let i = limit_false (want, frames) e (refusal.Deep x.at) (s.shallow [] n) h in
    subst (λ z. IsFirstRefusal s end tokens z) i.1 (first_deep (record {
      first = first_at s u v tokens front back x state p r;
      fits = begins_after (without_levels s) u asks_none (front ++ x ∷ []) (want, frames) (one_more_without_levels s front x state (level n want frames) r q);
      opens = k.0;
      none = λ b. not_taken (after s (front ++ x ∷ []) (a_block []) []) (limited (s.small []) (s.shallow []) x.at (level n want frames)) (refusal.Deep x.at)
          (one_more s front x state (level n want frames) r q) (deep_by (s.small []) (s.shallow []) x.at n want frames i.0) (after_begins s u v (front ++ x ∷ []) b);
    }))

stop_refused : (s : Setting) → AsksNumber s.small → AsksNumber s.shallow → (end : ℕ) (tokens : List Lexeme) (e : ReadRefusal) → Stop s tokens (a_block []) [] e
    → IsFirstRefusal s end tokens e
stop_refused s u v end tokens e c =
    move_refused s u v end tokens c.front c.back c.x c.state e c.parts c.reached (moves s c.x c.x.terminal c.state.0 c.state.1) refl
    (moves_keep s c.x c.x.terminal c.state.0 c.state.1 (state_whole s c.front c.state c.reached)) c.refused

-- The tokens end.

abbrev end_if : List Block → ℕ → Bool → Result File ReadRefusal
end_if blocks end v = if v then Ok (record { blocks = blocks }) else Err (refusal.Syntax end)

-- tokens that end are a file, or it is refused where they end
data Ending (end : ℕ) : Result File ReadRefusal → Type 0 where
  a_file : {file : File} → Ending end (Ok file)
  too_early : Ending end (Err (refusal.Syntax end))

ending_if : (blocks : List Block) (end : ℕ) (v : Bool) → Ending end (end_if blocks end v)
ending_if blocks end true = a_file
ending_if blocks end false = too_early

ending : (end : ℕ) (want : Want) → Ending end (ends end want)
ending end (a_block blocks) = ending_if blocks end (has_problem blocks)
ending end _ = too_early

end_refused : (end : ℕ) (o : Result File ReadRefusal) (e : ReadRefusal) → Ending end o → o ≡ Err e → refusal.Syntax end ≡ e
end_refused end _ e a_file h = absurd cc
end_refused end _ e too_early h = cc

run_refused : (s : Setting) → AsksNumber s.small → AsksNumber s.shallow → (end : ℕ) (tokens : List Lexeme) (e : ReadRefusal) (o : Result State ReadRefusal)
    → after s tokens (a_block []) [] ≡ o → run s end tokens (a_block []) [] ≡ Err e → goes_on (λ w f. ends end w) o ≡ Err e → IsFirstRefusal s end tokens e
run_refused s u v end tokens e (Ok state) q g h =
    subst (λ z. IsFirstRefusal s end tokens z) (end_refused end (ends end state.0) e (ending end state.0) h) (first_end (record {
      begins = begins_after s u v tokens state q;
      none = λ file f. (let i = file_complete s end file tokens f in absurd cc);
    }))
run_refused s u v end tokens e (Err other) q g h =
    let i : other ≡ e = cc in
    stop_refused s u v end tokens e (stop_of s tokens (a_block []) [] e (q ∙ ap (λ z. Err z) i))

pub first_refused : (s : Setting) → AsksNumber s.small → AsksNumber s.shallow → (end : ℕ) (tokens : List Lexeme) (e : ReadRefusal)
    → run s end tokens (a_block []) [] ≡ Err e → IsFirstRefusal s end tokens e
first_refused s u v end tokens e h =
    let a = run_all s end tokens (a_block []) [] u v in
    run_refused s u v end tokens e (after s tokens (a_block []) []) refl h (sym a ∙ h)

-- And the first refusal is what the machine answers.

run_stop : (s : Setting) → AsksNumber s.small → AsksNumber s.shallow → (end : ℕ) (tokens front back : List Lexeme) (x : Lexeme) (state : State) (e : ReadRefusal)
    → tokens ≡ front ++ x ∷ back → after s front (a_block []) [] ≡ Ok state → limited (s.small []) (s.shallow []) x.at (moves s x x.terminal state.0 state.1) ≡ Err e
    → run s end tokens (a_block []) [] ≡ Err e
unfolding after
run_stop s u v end tokens front back x state e p r h =
    run_all s end tokens (a_block []) [] u v
    ∙ ap (goes_on (λ w f. ends end w)) (ap (λ z. after s z (a_block []) []) p ∙ after_two s front (x ∷ back) (a_block []) []
    ∙ ap (and_then (after s (x ∷ back))) r ∙ ap (and_then (after s back)) h)

-- a token that nothing takes is Syntax
move_syntax : (s : Setting) (front : List Lexeme) (x : Lexeme) (state : State) → after s front (a_block []) [] ≡ Ok state → (BeginsFile (unlimited s) (front ++ x ∷ []) → ⊥)
    → (m : Move) → moves s x x.terminal state.0 state.1 ≡ m → limited (s.small []) (s.shallow []) x.at m ≡ Err (refusal.Syntax x.at)
move_syntax s front x state r b bad q = refl
move_syntax s front x state r b (on want frames) q =
    absurd (b (begins_after (unlimited s) asks_none asks_none (front ++ x ∷ []) (want, frames) (one_more_unlimited s front x state (on want frames) r q)))
move_syntax s front x state r b (numeral n want frames) q =
    absurd (b (begins_after (unlimited s) asks_none asks_none (front ++ x ∷ []) (want, frames) (one_more_unlimited s front x state (numeral n want frames) r q)))
move_syntax s front x state r b (level n want frames) q =
    absurd (b (begins_after (unlimited s) asks_none asks_none (front ++ x ∷ []) (want, frames) (one_more_unlimited s front x state (level n want frames) r q)))

-- a number that fits and is too large is Literal
move_literal : (s : Setting) → AsksNumber s.small → (front back : List Lexeme) (x : Lexeme) (state : State) → after s front (a_block []) [] ≡ Ok state → BeginsFile (unlimited s) (front ++ x ∷ [])
    → x.terminal ≡ t.Number → s.small back (value_of s x) ≡ false → (m : Move) → moves s x x.terminal state.0 state.1 ≡ m → Keeps x.terminal (value_of s x) m
    → limited (s.small []) (s.shallow []) x.at m ≡ Err (refusal.Literal x.at)
move_literal s u front back x state r b i large bad q k =
    absurd (not_taken (after (unlimited s) (front ++ x ∷ []) (a_block []) []) (limited (any []) (any []) x.at bad) (refusal.Syntax x.at)
    (one_more_unlimited s front x state bad r q) refl (after_begins (unlimited s) asks_none asks_none (front ++ x ∷ []) b))
move_literal s u front back x state r b i large (on want frames) q k = let j : is_number x.terminal ≡ true = ap is_number i in let l = k.0 in absurd cc
move_literal s u front back x state r b i large (numeral n want frames) q k =
    refused_by (s.small []) (s.shallow []) x.at n want frames (ap (s.small []) k.1 ∙ u [] back (value_of s x) ∙ large)
move_literal s u front back x state r b i large (level n want frames) q k = let j : opens_level x.terminal ≡ false = ap opens_level i in let l = k.0 in absurd cc

-- a limit that is kept, or is not
kept_or : (v : Bool) → (v ≡ true) ⊎ (v ≡ false)
kept_or true = inl refl
kept_or false = inr refl

-- a token that fits below any number of levels, and not within the limit, is Deep
move_deep : (s : Setting) → AsksNumber s.small → AsksNumber s.shallow → (front : List Lexeme) (x : Lexeme) (state : State) → after s front (a_block []) [] ≡ Ok state
    → BeginsFile (without_levels s) (front ++ x ∷ []) → (BeginsFile s (front ++ x ∷ []) → ⊥) → (m : Move) → moves s x x.terminal state.0 state.1 ≡ m
    → limited (s.small []) (s.shallow []) x.at m ≡ Err (refusal.Deep x.at)
move_deep s u v front x state r b none bad q =
    absurd (not_taken (after (without_levels s) (front ++ x ∷ []) (a_block []) []) (limited (s.small []) (any []) x.at bad) (refusal.Syntax x.at)
    (one_more_without_levels s front x state bad r q) refl (after_begins (without_levels s) u asks_none (front ++ x ∷ []) b))
move_deep s u v front x state r b none (on want frames) q =
    absurd (none (begins_after s u v (front ++ x ∷ []) (want, frames) (one_more s front x state (on want frames) r q)))
move_deep s u v front x state r b none (numeral n want frames) q = elim (kept_or (s.small [] n)) [
  | inl i ↦ absurd (none (begins_after s u v (front ++ x ∷ []) (want, frames)
      (one_more s front x state (numeral n want frames) r q ∙ ap (λ z. if z then Ok (want, frames) else Err (refusal.Literal x.at)) i)))
  | inr i ↦ absurd (not_taken (after (without_levels s) (front ++ x ∷ []) (a_block []) []) (limited (s.small []) (any []) x.at (numeral n want frames)) (refusal.Literal x.at)
      (one_more_without_levels s front x state (numeral n want frames) r q) (refused_by (s.small []) (any []) x.at n want frames i)
      (after_begins (without_levels s) u asks_none (front ++ x ∷ []) b))
]
move_deep s u v front x state r b none (level n want frames) q = elim (kept_or (s.shallow [] n)) [
  | inl i ↦ absurd (none (begins_after s u v (front ++ x ∷ []) (want, frames)
      (one_more s front x state (level n want frames) r q ∙ ap (λ z. if z then Ok (want, frames) else Err (refusal.Deep x.at)) i)))
  | inr i ↦ deep_by (s.small []) (s.shallow []) x.at n want frames i
]

-- the tokens begin a file and are none
early_ends : (s : Setting) (end : ℕ) (tokens : List Lexeme) (o : Result File ReadRefusal) → run s end tokens (a_block []) [] ≡ o → ((file : File) → IsFile s file tokens → ⊥) → Ending end o
    → run s end tokens (a_block []) [] ≡ Err (refusal.Syntax end)
early_ends s end tokens _ q none (a_file {file = file}) = absurd (none file (file_sound s end file tokens q))
early_ends s end tokens _ q none too_early = q

at_place : (s : Setting) (end : ℕ) (tokens : List Lexeme) (make : ℕ → ReadRefusal) (one two : ℕ) → one ≡ two → run s end tokens (a_block []) [] ≡ Err (make one)
    → run s end tokens (a_block []) [] ≡ Err (make two)
at_place s end tokens make one two e h = h ∙ ap (λ z. Err (make z)) e

pub refused_first : (s : Setting) → AsksNumber s.small → AsksNumber s.shallow → (end : ℕ) (tokens : List Lexeme) (e : ReadRefusal)
    → IsFirstRefusal s end tokens e → run s end tokens (a_block []) [] ≡ Err e
refused_first s u v end tokens _ (first_syntax {at = at} c) =
    let f = c.first in
    let a = after_begins s u v f.front f.begins in
    at_place s end tokens (λ z. refusal.Syntax z) f.x.at at f.place (run_stop s u v end tokens f.front f.back f.x a.state (refusal.Syntax f.x.at) f.parts a.is
    (move_syntax s f.front f.x a.state a.is c.none (moves s f.x f.x.terminal a.state.0 a.state.1) refl))
refused_first s u v end tokens _ (first_literal {at = at} c) =
    let f = c.first in
    let a = after_begins s u v f.front f.begins in
    at_place s end tokens (λ z. refusal.Literal z) f.x.at at f.place (run_stop s u v end tokens f.front f.back f.x a.state (refusal.Literal f.x.at) f.parts a.is
    (move_literal s u f.front f.back f.x a.state a.is c.fits c.numeral c.large (moves s f.x f.x.terminal a.state.0 a.state.1) refl
    (moves_keep s f.x f.x.terminal a.state.0 a.state.1 (state_whole s f.front a.state a.is))))
refused_first s u v end tokens _ (first_deep {at = at} c) =
    let f = c.first in
    let a = after_begins s u v f.front f.begins in
    at_place s end tokens (λ z. refusal.Deep z) f.x.at at f.place (run_stop s u v end tokens f.front f.back f.x a.state (refusal.Deep f.x.at) f.parts a.is
    (move_deep s u v f.front f.x a.state a.is c.fits c.none (moves s f.x f.x.terminal a.state.0 a.state.1) refl))
refused_first s u v end tokens _ (first_end c) =
    let a = after_begins s u v tokens c.begins in
    early_ends s end tokens (ends end a.state.0) (run_all s end tokens (a_block []) [] u v ∙ ap (goes_on (λ w f. ends end w)) a.is) c.none (ending end a.state.0)

pub first_exact : (s : Setting) (end : ℕ) (tokens : List Lexeme) (e : ReadRefusal) → AsksNumber s.small → AsksNumber s.shallow
    → (run s end tokens (a_block []) [] ≡ Err e) ↔ IsFirstRefusal s end tokens e
first_exact s end tokens e u v = (first_refused s u v end tokens e, refused_first s u v end tokens e)

-- Tokens have at most one first refusal, and exactly those have one that are no file.

one_error : (e f : ReadRefusal) (o : Result File ReadRefusal) → o ≡ Err e → o ≡ Err f → e ≡ f
one_error e f o p q = cc

pub first_unique : (s : Setting) (end : ℕ) (tokens : List Lexeme) (e f : ReadRefusal) → AsksNumber s.small → AsksNumber s.shallow
    → IsFirstRefusal s end tokens e → IsFirstRefusal s end tokens f → e ≡ f
first_unique s end tokens e f u v p q =
    one_error e f (run s end tokens (a_block []) []) (refused_first s u v end tokens e p) (refused_first s u v end tokens f q)

some_by : (s : Setting) (end : ℕ) (tokens : List Lexeme) → AsksNumber s.small → AsksNumber s.shallow → ((file : File) → IsFile s file tokens → ⊥)
    → (o : Result File ReadRefusal) → run s end tokens (a_block []) [] ≡ o → (e : ReadRefusal) × IsFirstRefusal s end tokens e
some_by s end tokens u v none (Ok file) q = absurd (none file (file_sound s end file tokens q))
some_by s end tokens u v none (Err e) q = (e, first_refused s u v end tokens e q)

pub first_some : (s : Setting) (end : ℕ) (tokens : List Lexeme) → AsksNumber s.small → AsksNumber s.shallow → ((file : File) → IsFile s file tokens → ⊥)
    → (e : ReadRefusal) × IsFirstRefusal s end tokens e
first_some s end tokens u v none = some_by s end tokens u v none (run s end tokens (a_block []) []) refl

pub first_none : (s : Setting) (end : ℕ) (tokens : List Lexeme) (file : File) (e : ReadRefusal) → AsksNumber s.small → AsksNumber s.shallow
    → IsFile s file tokens → IsFirstRefusal s end tokens e → ⊥
first_none s end tokens file e u v f r =
    let i = file_complete s end file tokens f in
    let j = refused_first s u v end tokens e r in
    absurd cc
