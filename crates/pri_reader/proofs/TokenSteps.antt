-- What the machine does at a token, or where no token is taken.
use Rattle.std.proofs.Common.{ℕ, ◌≡◌, ◌≤◌, ◌<◌, ◌^◌, true, false, List, [], ◌∷◌, length, Ok, Err, refl, sym, ap, ◌∙◌, arith, add-one, nat_lt, if◌then◌else◌}
use Rattle.std.proofs.lemmas.Bool.Decides.{nat_tests}
use Rattle.pri_tokens.specs.declared.terminals.Terminal.{Terminal}
use Rattle.pri_tokens.specs.declared.terminals.Terminal.TheVariants as t
use Rattle.pri_tokens.specs.declared.terminals.Lexeme.{Lexeme}
use Rattle.pri_reader.specs.declared.tree.Expr.{Expr}
use Rattle.pri_reader.specs.declared.tree.ReadRefusal.TheVariants as refusal
use Rattle.pri_reader.specs.Grammar.{equivalence, Takes}
use Rattle.pri_reader.specs.MachineStates.{Frame, wrap, Wrap, wrapped, parenthesis_of, Want, a_unary, a_parenthesis, gives, bad, on, numeral, level, under_right}
use Rattle.pri_reader.specs.Machine.{parenthesis_follows, parenthesis_moves, follows, moves, limited, goes_on, ends, run}
use Rattle.pri_reader.specs.Reading.{file_setting, reads, place, NotNext, Opened}
use Rattle.pri_reader.proofs.Moves.{taken, step_on, step_level, pass_wrap}

pub below : (n m : ℕ) → n < m → nat_lt n m ≡ true
below n m h = grind (arith, nat_tests)

pub not_below : (n m : ℕ) → m ≤ n → nat_lt n m ≡ false
not_below n m h = grind (arith, nat_tests)

-- the token x, whatever it is
abbrev pub it : {x : Lexeme} {tokens inner : List Lexeme} → tokens ≡ x ∷ inner → Takes x.terminal x tokens inner
it e = record { parts = e; is = refl }

pub stuck : (b : List ℕ) {x : Lexeme} {tokens inner : List Lexeme} → tokens ≡ x ∷ inner → (want : Want) (frames : List Frame)
    → moves (file_setting b) x x.terminal want frames ≡ bad → reads b tokens want frames ≡ Err (refusal.Syntax x.at)
unfolding reads
stuck b {x = x} {inner = inner} e want frames m =
    taken (file_setting b) (length b) (it e) want frames
    ∙ ap (λ z. goes_on (run (file_setting b) (length b) inner) (limited ((file_setting b).small inner) ((file_setting b).shallow inner) x.at z)) m

-- the next token is not the only one that is taken
pub refused : (b : List ℕ) (terminal : Terminal) (tokens : List Lexeme) (want : Want) (frames : List Frame) → NotNext terminal tokens
    → ends (length b) want ≡ Err (refusal.Syntax (length b))
    → ((x : Lexeme) (k : Terminal) → (k ≡ terminal → ⊥) → moves (file_setting b) x k want frames ≡ bad)
    → reads b tokens want frames ≡ Err (refusal.Syntax (place (length b) tokens))
unfolding reads run
refused b terminal [] want frames h e m = e
refused b terminal (x ∷ inner) want frames h e m = stuck b refl want frames (m x x.terminal (h.no x inner refl))

-- neither of two
pub refused_both : (b : List ℕ) (one two : Terminal) (tokens : List Lexeme) (want : Want) (frames : List Frame) → NotNext one tokens → NotNext two tokens
    → ends (length b) want ≡ Err (refusal.Syntax (length b))
    → ((x : Lexeme) (k : Terminal) → (k ≡ one → ⊥) → (k ≡ two → ⊥) → moves (file_setting b) x k want frames ≡ bad)
    → reads b tokens want frames ≡ Err (refusal.Syntax (place (length b) tokens))
unfolding reads run
refused_both b one two [] want frames h g e m = e
refused_both b one two (x ∷ inner) want frames h g e m = stuck b refl want frames (m x x.terminal (h.no x inner refl) (g.no x inner refl))

pub opened : (b : List ℕ) {k : Terminal} {x : Lexeme} {tokens inner : List Lexeme} → Takes k x tokens inner
    → (want : Want) (frames : List Frame) {n : ℕ} {new : Want} {more : List Frame} → moves (file_setting b) x k want frames ≡ level n new more → n < 200
    → reads b tokens want frames ≡ reads b inner new more
unfolding reads
opened b e want frames {n = n} m h = step_level (file_setting b) (length b) e want frames m (below n 200 h)

pub too_deep : (b : List ℕ) {k : Terminal} {x : Lexeme} {tokens inner : List Lexeme} → Takes k x tokens inner
    → (want : Want) (frames : List Frame) {n : ℕ} {new : Want} {more : List Frame} → moves (file_setting b) x k want frames ≡ level n new more → 200 ≤ n
    → reads b tokens want frames ≡ Err (refusal.Deep x.at)
unfolding reads
too_deep b {x = x} {inner = inner} e want frames {n = n} {new = new} {more = more} m h =
    taken (file_setting b) (length b) e want frames
    ∙ ap (λ z. goes_on (run (file_setting b) (length b) inner) (limited ((file_setting b).small inner) ((file_setting b).shallow inner) x.at z)) m
    ∙ ap (λ z. goes_on (run (file_setting b) (length b) inner) (if z then Ok (new, more) else Err (refusal.Deep x.at))) (not_below n 200 h)

pub too_great : (b : List ℕ) {k : Terminal} {x : Lexeme} {tokens inner : List Lexeme} → Takes k x tokens inner
    → (want : Want) (frames : List Frame) {value : ℕ} {new : Want} {more : List Frame} → moves (file_setting b) x k want frames ≡ numeral value new more → 2 ^ 127 ≤ value
    → reads b tokens want frames ≡ Err (refusal.Literal x.at)
unfolding reads
too_great b {x = x} {inner = inner} e want frames {value = value} {new = new} {more = more} m h =
    taken (file_setting b) (length b) e want frames
    ∙ ap (λ z. goes_on (run (file_setting b) (length b) inner) (limited ((file_setting b).small inner) ((file_setting b).shallow inner) x.at z)) m
    ∙ ap (λ z. goes_on (run (file_setting b) (length b) inner) (if z then Ok (new, more) else Err (refusal.Literal x.at))) (not_below value (2 ^ 127) h)

-- a token that is not of this terminal does the same in another state
pub passes : (b : List ℕ) (terminal : Terminal) (tokens : List Lexeme) (want new : Want) (frames : List Frame) → NotNext terminal tokens
    → ends (length b) want ≡ ends (length b) new
    → ((x : Lexeme) (k : Terminal) → (k ≡ terminal → ⊥) → moves (file_setting b) x k want frames ≡ moves (file_setting b) x k new frames)
    → reads b tokens want frames ≡ reads b tokens new frames
unfolding reads run
passes b terminal [] want new frames h e m = e
passes b terminal (x ∷ inner) want new frames h e m =
    ap (λ z. goes_on (run (file_setting b) (length b) inner) (limited ((file_setting b).small inner) ((file_setting b).shallow inner) x.at z)) (m x x.terminal (h.no x inner refl))

pub goes : (b : List ℕ) {k : Terminal} {x : Lexeme} {tokens inner : List Lexeme} → Takes k x tokens inner
    → (want : Want) (frames : List Frame) {new : Want} {more : List Frame} → moves (file_setting b) x k want frames ≡ on new more
    → reads b tokens want frames ≡ reads b inner new more
unfolding reads
goes b e want frames m = step_on (file_setting b) (length b) e want frames m

pub gives_wrap : (b : List ℕ) (tokens : List Lexeme) (w : Wrap) (f : Expr) (frames : List Frame)
    → reads b tokens (gives f) (wrap w ∷ frames) ≡ reads b tokens (gives (wrapped w f)) frames
unfolding reads
gives_wrap b tokens w f frames = pass_wrap (file_setting b) (length b) w f frames tokens

only_open : (k : Terminal) (n : ℕ) (frames : List Frame) → (k ≡ t.OpenParenthesis → ⊥) → parenthesis_moves k n frames ≡ bad
only_open t.OpenParenthesis n frames h = absurd (h refl)
only_open _ n frames h = refl

pub open_bad : (b : List ℕ) (tokens : List Lexeme) (n : ℕ) (frames : List Frame) → NotNext t.OpenParenthesis tokens
    → reads b tokens (a_parenthesis n) (frames) ≡ Err (refusal.Syntax (place (length b) tokens))
unfolding reads moves follows
open_bad b tokens n frames h = refused b t.OpenParenthesis tokens _ _ h refl (λ y k z. only_open k n frames z)

pub open_step : (b : List ℕ) (tokens inner : List Lexeme) (x : Lexeme) (n : ℕ) (frames : List Frame) → Takes t.OpenParenthesis x tokens inner → {d : ℕ} → Opened n d
    → reads b tokens (a_parenthesis n) (frames) ≡ reads b inner (a_unary d) (under_right equivalence d (parenthesis_of ∷ frames))
unfolding reads moves follows
open_step b tokens inner x n frames e {d = d} h = opened b e _ _ refl h.below ∙ ap (λ m. reads b inner (a_unary m) (under_right equivalence m (parenthesis_of ∷ frames))) (sym (h.is ∙ add-one n))

pub open_deep : (b : List ℕ) (tokens inner : List Lexeme) (x : Lexeme) (n : ℕ) (frames : List Frame) → Takes t.OpenParenthesis x tokens inner → 200 ≤ n
    → reads b tokens (a_parenthesis n) (frames) ≡ Err (refusal.Deep x.at)
unfolding reads moves follows
open_deep b tokens inner x n frames e h = too_deep b e _ _ refl h

only_close : (k : Terminal) (f : Expr) (frames : List Frame) → (k ≡ t.CloseParenthesis → ⊥) → parenthesis_follows k f frames ≡ bad
only_close t.CloseParenthesis f frames h = absurd (h refl)
only_close _ f frames h = refl

pub close_bad : (b : List ℕ) (tokens : List Lexeme) (f : Expr) (frames : List Frame) → NotNext t.CloseParenthesis tokens
    → reads b tokens (gives f) (parenthesis_of ∷ frames) ≡ Err (refusal.Syntax (place (length b) tokens))
unfolding reads moves follows
close_bad b tokens f frames h = refused b t.CloseParenthesis tokens _ _ h refl (λ y k z. only_close k f frames z)

pub close_step : (b : List ℕ) (tokens inner : List Lexeme) (x : Lexeme) (f : Expr) (frames : List Frame) → Takes t.CloseParenthesis x tokens inner
    → reads b tokens (gives f) (parenthesis_of ∷ frames) ≡ reads b inner (gives f) (frames)
unfolding reads moves follows
close_step b tokens inner x f frames e = goes b e _ _ refl
