-- What the machine does at a token, and where an expression ends.
use Rattle.std.proofs.Common.{ℕ, suc, ◌≡◌, ◌≤◌, ◌<◌, Bool, true, false, List, [], ◌∷◌, ◌++◌, None, Ok, Err, refl, ap, ◌∙◌, arith, if◌then◌else◌}
use Rattle.pri_tokens.specs.declared.terminals.Terminal.{Terminal}
use Rattle.pri_tokens.specs.declared.terminals.Terminal.TheVariants as t
use Rattle.pri_tokens.specs.declared.terminals.Lexeme.{Lexeme}
use Rattle.pri_reader.specs.declared.tree.Expr.{Expr}
use Rattle.pri_reader.specs.declared.tree.Form.TheVariants as form
use Rattle.pri_reader.specs.declared.tree.Added.{Added}
use Rattle.pri_reader.specs.declared.tree.Name.{Name}
use Rattle.pri_reader.specs.declared.tree.Comparison.{Comparison}
use Rattle.pri_reader.specs.declared.tree.Comparison.TheVariants as compare
use Rattle.pri_reader.specs.declared.tree.ReadRefusal.TheVariants as refusal
use Rattle.pri_reader.specs.Classes.{comparison_of, adding_of}
use Rattle.pri_reader.specs.Grammar.{Right, equivalence, implication, multiplication, Chain, disjunction, conjunction, Part, right, chain, unary, rel, sum, factor, primary, parenthesized, operand, member, right_sign, chain_sign, comparison_sign, adding_sign, expr, chained, added, summed, Setting, Takes}
use Rattle.pri_reader.specs.MachineStates.{Frame, right_of, chain_of, rel_of, sum_of, wrap, Wrap, second, compared, wrapped, Want, a_unary, a_minus, behind_name, gives, on, numeral, level, under_product, under_sum, under_chain, under_right, under_member, wants_right, under_rel, a_parenthesis}
use Rattle.pri_reader.specs.Machine.{takes_right, takes_chain, behind_name_moves, rel_goes_on, sum_goes_on, follows, moves, limited, goes_on, run}

-- What begins a part below n open levels.

abbrev pub under : Part → ℕ → List Frame → List Frame
under (right r) n frames = under_right r n frames
under (chain c) n frames = under_chain c n frames
under rel n frames = under_rel n frames
under sum n frames = under_sum n frames
under _ n frames = frames

abbrev pub wants : Part → ℕ → Want
wants (right r) n = wants_right r n
wants (chain c) n = a_unary n
wants unary n = a_unary n
wants parenthesized n = a_parenthesis n
wants _ n = a_minus n

-- a token is taken
pub taken : (s : Setting) (end : ℕ) {k : Terminal} {x : Lexeme} {tokens inner : List Lexeme} → Takes k x tokens inner
    → (want : Want) (frames : List Frame)
    → run s end tokens want frames ≡ goes_on (run s end inner) (limited (s.small inner) (s.shallow inner) x.at (moves s x k want frames))
unfolding run
taken s end {k = k} {x = x} {tokens = tokens} {inner = inner} e want frames =
    ap (λ z. run s end z want frames) e.parts
    ∙ ap (λ z. goes_on (run s end inner) (limited (s.small inner) (s.shallow inner) x.at (moves s x z want frames))) e.is

pub step_on : (s : Setting) (end : ℕ) {k : Terminal} {x : Lexeme} {tokens inner : List Lexeme} → Takes k x tokens inner
    → (want : Want) (frames : List Frame) {new : Want} {more : List Frame} → moves s x k want frames ≡ on new more
    → run s end tokens want frames ≡ run s end inner new more
step_on s end {x = x} {inner = inner} e want frames m =
    taken s end e want frames ∙ ap (λ z. goes_on (run s end inner) (limited (s.small inner) (s.shallow inner) x.at z)) m

pub step_level : (s : Setting) (end : ℕ) {k : Terminal} {x : Lexeme} {tokens inner : List Lexeme} → Takes k x tokens inner
    → (want : Want) (frames : List Frame) {n : ℕ} {new : Want} {more : List Frame} → moves s x k want frames ≡ level n new more → s.shallow inner n ≡ true
    → run s end tokens want frames ≡ run s end inner new more
step_level s end {x = x} {inner = inner} e want frames {n = n} {new = new} {more = more} m l =
    taken s end e want frames ∙ ap (λ z. goes_on (run s end inner) (limited (s.small inner) (s.shallow inner) x.at z)) m
    ∙ ap (λ z. goes_on (run s end inner) (if z then Ok (new, more) else Err (refusal.Deep x.at))) l

pub step_numeral : (s : Setting) (end : ℕ) {k : Terminal} {x : Lexeme} {tokens inner : List Lexeme} → Takes k x tokens inner
    → (want : Want) (frames : List Frame) {n : ℕ} {new : Want} {more : List Frame} → moves s x k want frames ≡ numeral n new more → s.small inner n ≡ true
    → run s end tokens want frames ≡ run s end inner new more
step_numeral s end {x = x} {inner = inner} e want frames {n = n} {new = new} {more = more} m l =
    taken s end e want frames ∙ ap (λ z. goes_on (run s end inner) (limited (s.small inner) (s.shallow inner) x.at z)) m
    ∙ ap (λ z. goes_on (run s end inner) (if z then Ok (new, more) else Err (refusal.Literal x.at))) l

-- Where an expression ends.

-- which line a token goes on with, from the tightest
abbrev pub joins : Terminal → ℕ
joins t.OpenParenthesis = 1
joins t.Star = 2
joins t.Plus = 3
joins t.Minus = 3
joins t.Equal = 4
joins t.Unequal = 4
joins t.Less = 4
joins t.AtMost = 4
joins t.Greater = 4
joins t.AtLeast = 4
joins t.And = 5
joins t.Or = 6
joins t.Implies = 7
joins t.Iff = 8
joins _ = 9

abbrev pub next_joins : List Lexeme → ℕ
next_joins [] = 9
next_joins (x ∷ tokens) = joins x.terminal

abbrev pub right_rank : Right → ℕ
right_rank multiplication = 2
right_rank implication = 7
right_rank equivalence = 8

abbrev pub chain_rank : Chain → ℕ
chain_rank conjunction = 5
chain_rank disjunction = 6

abbrev pub rank : Part → ℕ
rank (right r) = right_rank r
rank (chain c) = chain_rank c
rank unary = 4
rank rel = 4
rank sum = 3
rank factor = 1
rank primary = 1
rank parenthesized = 0

-- the token after a part goes on with none of its lines
abbrev pub Stops : ℕ → List Lexeme → Type 0
Stops r rest = r < next_joins rest

pub stops_at : {k : Terminal} {x : Lexeme} {tokens inner : List Lexeme} (r : ℕ) → Takes k x tokens inner → r < joins k → Stops r tokens
stops_at {k = k} {x = x} {tokens = tokens} {inner = inner} r e h =
    let p : next_joins tokens ≡ joins x.terminal = ap next_joins e.parts in
    let q : joins x.terminal ≡ joins k = ap joins e.is in
    omega arith

pub stops_less : (r q : ℕ) (rest : List Lexeme) → q ≤ r → Stops r rest → Stops q rest
stops_less r q rest h s = omega arith

pub operand_rank : (r : Right) → rank (operand r) < right_rank r
operand_rank multiplication = omega arith
operand_rank implication = omega arith
operand_rank equivalence = omega arith

pub member_rank : (c : Chain) → rank (member c) < chain_rank c
member_rank conjunction = omega arith
member_rank disjunction = omega arith

pub right_joins : (r : Right) → joins (right_sign r) ≡ right_rank r
right_joins multiplication = refl
right_joins implication = refl
right_joins equivalence = refl

pub chain_joins : (c : Chain) → joins (chain_sign c) ≡ chain_rank c
chain_joins conjunction = refl
chain_joins disjunction = refl

pub comparison_joins : (c : Comparison) → joins (comparison_sign c) ≡ 4
comparison_joins compare.Equal = refl
comparison_joins compare.Unequal = refl
comparison_joins compare.Less = refl
comparison_joins compare.AtMost = refl
comparison_joins compare.Greater = refl
comparison_joins compare.AtLeast = refl

pub adding_joins : (b : Bool) → joins (adding_sign b) ≡ 3
adding_joins true = refl
adding_joins false = refl

not_right : (r : Right) (k : Terminal) → right_rank r < joins k → takes_right r k ≡ false
not_right multiplication t.Star h = absurd (omega arith)
not_right multiplication _ h = refl
not_right implication t.Implies h = absurd (omega arith)
not_right implication _ h = refl
not_right equivalence t.Iff h = absurd (omega arith)
not_right equivalence _ h = refl

not_chain : (c : Chain) (k : Terminal) → chain_rank c < joins k → takes_chain c k ≡ false
not_chain conjunction t.And h = absurd (omega arith)
not_chain conjunction _ h = refl
not_chain disjunction t.Or h = absurd (omega arith)
not_chain disjunction _ h = refl

not_comparison : (k : Terminal) → 4 < joins k → comparison_of k ≡ None
not_comparison t.Equal h = absurd (omega arith)
not_comparison t.Unequal h = absurd (omega arith)
not_comparison t.Less h = absurd (omega arith)
not_comparison t.AtMost h = absurd (omega arith)
not_comparison t.Greater h = absurd (omega arith)
not_comparison t.AtLeast h = absurd (omega arith)
not_comparison _ h = refl

not_adding : (k : Terminal) → 3 < joins k → adding_of k ≡ None
not_adding t.Plus h = absurd (omega arith)
not_adding t.Minus h = absurd (omega arith)
not_adding _ h = refl

not_applied : (at : ℕ) (k : Terminal) (name : Name) (n : ℕ) (frames : List Frame) → 1 < joins k
    → behind_name_moves k at name n frames ≡ follows at k (expr name.at (form.Use name [])) frames
not_applied at t.OpenParenthesis name n frames h = absurd (omega arith)
not_applied at _ name n frames h = refl

-- two states that do the same at each token and at the end
pub same_run : (s : Setting) (end : ℕ) (tokens : List Lexeme) (f g : Expr) (frames more : List Frame)
    → ((x : Lexeme) (inner : List Lexeme) → tokens ≡ x ∷ inner → moves s x x.terminal (gives f) frames ≡ moves s x x.terminal (gives g) more)
    → run s end tokens (gives f) frames ≡ run s end tokens (gives g) more
unfolding run
same_run s end [] f g frames more h = refl
same_run s end (x ∷ inner) f g frames more h = ap (λ z. goes_on (run s end inner) (limited (s.small inner) (s.shallow inner) x.at z)) (h x inner refl)

pub pass_right : (s : Setting) (end : ℕ) (r : Right) (n : ℕ) (f : Expr) (frames : List Frame) (rest : List Lexeme) → Stops (right_rank r) rest
    → run s end rest (gives f) (right_of r n ∷ frames) ≡ run s end rest (gives f) frames
unfolding moves follows
pass_right s end r n f frames rest h = same_run s end rest f f (right_of r n ∷ frames) frames
    (λ x inner e. let p : next_joins rest ≡ joins x.terminal = ap next_joins e in
    ap (λ z. if z then level n (wants_right r (suc n)) (under_right r (suc n) (wrap (second r f x.at) ∷ frames)) else follows x.at x.terminal f frames)
    (not_right r x.terminal (omega arith)))

pub pass_chain : (s : Setting) (end : ℕ) (c : Chain) (n : ℕ) (fs : List Expr) (f : Expr) (frames : List Frame) (rest : List Lexeme) → Stops (chain_rank c) rest
    → run s end rest (gives f) (chain_of c n fs ∷ frames) ≡ run s end rest (gives (chained c fs f)) frames
unfolding moves follows
pass_chain s end c n fs f frames rest h = same_run s end rest f (chained c fs f) (chain_of c n fs ∷ frames) frames
    (λ x inner e. let p : next_joins rest ≡ joins x.terminal = ap next_joins e in
    ap (λ z. if z then on (a_unary n) (under_member c n (chain_of c n (fs ++ f ∷ []) ∷ frames)) else follows x.at x.terminal (chained c fs f) frames)
    (not_chain c x.terminal (omega arith)))

pub pass_rel : (s : Setting) (end n : ℕ) (f : Expr) (frames : List Frame) (rest : List Lexeme) → Stops 4 rest
    → run s end rest (gives f) (rel_of n ∷ frames) ≡ run s end rest (gives f) frames
unfolding moves follows
pass_rel s end n f frames rest h = same_run s end rest f f (rel_of n ∷ frames) frames
    (λ x inner e. let p : next_joins rest ≡ joins x.terminal = ap next_joins e in
    ap (λ z. rel_goes_on z n f frames (follows x.at x.terminal f frames)) (not_comparison x.terminal (omega arith)))

pub pass_sum : (s : Setting) (end n : ℕ) (before : List Added) (sign : Bool) (f : Expr) (frames : List Frame) (rest : List Lexeme) → Stops 3 rest
    → run s end rest (gives f) (sum_of n before sign ∷ frames) ≡ run s end rest (gives (summed before sign f)) frames
unfolding moves follows
pass_sum s end n before sign f frames rest h = same_run s end rest f (summed before sign f) (sum_of n before sign ∷ frames) frames
    (λ x inner e. let p : next_joins rest ≡ joins x.terminal = ap next_joins e in
    ap (λ z. sum_goes_on z n (before ++ added sign f ∷ []) frames (follows x.at x.terminal (summed before sign f) frames)) (not_adding x.terminal (omega arith)))

pub pass_wrap : (s : Setting) (end : ℕ) (w : Wrap) (f : Expr) (frames : List Frame) (rest : List Lexeme)
    → run s end rest (gives f) (wrap w ∷ frames) ≡ run s end rest (gives (wrapped w f)) frames
unfolding moves follows
pass_wrap s end w f frames rest = same_run s end rest f (wrapped w f) (wrap w ∷ frames) frames (λ x inner e. refl)

pub pass_name : (s : Setting) (end : ℕ) (name : Name) (n : ℕ) (frames : List Frame) (rest : List Lexeme) → Stops 1 rest
    → run s end rest (behind_name name n) frames ≡ run s end rest (gives (expr name.at (form.Use name []))) frames
unfolding run moves
pass_name s end name n frames [] h = refl
pass_name s end name n frames (x ∷ inner) h =
    ap (λ z. goes_on (run s end inner) (limited (s.small inner) (s.shallow inner) x.at z)) (not_applied x.at x.terminal name n frames h)

-- What a sign does.

pub follow_right : (at n : ℕ) (r : Right) (f : Expr) (frames : List Frame) → follows at (right_sign r) f (right_of r n ∷ frames)
    ≡ level n (wants_right r (suc n)) (under_right r (suc n) (wrap (second r f at) ∷ frames))
unfolding follows
follow_right at n multiplication f frames = refl
follow_right at n implication f frames = refl
follow_right at n equivalence f frames = refl

pub follow_chain : (at n : ℕ) (c : Chain) (fs : List Expr) (f : Expr) (frames : List Frame) → follows at (chain_sign c) f (chain_of c n fs ∷ frames)
    ≡ on (a_unary n) (under_member c n (chain_of c n (fs ++ f ∷ []) ∷ frames))
unfolding follows
follow_chain at n conjunction fs f frames = refl
follow_chain at n disjunction fs f frames = refl

pub follow_rel : (at n : ℕ) (c : Comparison) (f : Expr) (frames : List Frame) → follows at (comparison_sign c) f (rel_of n ∷ frames)
    ≡ on (a_minus n) (under_sum n (wrap (compared c f) ∷ frames))
unfolding follows
follow_rel at n compare.Equal f frames = refl
follow_rel at n compare.Unequal f frames = refl
follow_rel at n compare.Less f frames = refl
follow_rel at n compare.AtMost f frames = refl
follow_rel at n compare.Greater f frames = refl
follow_rel at n compare.AtLeast f frames = refl

pub follow_sum : (at n : ℕ) (b : Bool) (before : List Added) (sign : Bool) (f : Expr) (frames : List Frame)
    → follows at (adding_sign b) f (sum_of n before sign ∷ frames) ≡ on (a_minus n) (under_product n (sum_of n (before ++ added sign f ∷ []) b ∷ frames))
unfolding follows
follow_sum at n true before sign f frames = refl
follow_sum at n false before sign f frames = refl

-- What begins a part.

pub begin_right : (r : Right) (n : ℕ) (frames : List Frame) (A : Want → List Frame → Type 0)
    → A (wants (operand r) n) (under (operand r) n (right_of r n ∷ frames)) → A (wants_right r n) (under_right r n frames)
begin_right multiplication n frames A h = h
begin_right implication n frames A h = h
begin_right equivalence n frames A h = h

pub begin_member : (c : Chain) (n : ℕ) (frames : List Frame) (A : Want → List Frame → Type 0)
    → A (wants (member c) n) (under (member c) n frames) → A (a_unary n) (under_member c n frames)
begin_member conjunction n frames A h = h
begin_member disjunction n frames A h = h

pub begin_chain : (c : Chain) (n : ℕ) (frames : List Frame) (A : Want → List Frame → Type 0)
    → A (wants (member c) n) (under (member c) n (chain_of c n [] ∷ frames)) → A (a_unary n) (under_chain c n frames)
begin_chain conjunction n frames A h = h
begin_chain disjunction n frames A h = h
