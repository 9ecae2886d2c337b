-- What the machine does at the tokens of formulas that are no relation, and of terms.
use Rattle.std.proofs.Common.{ℕ, ◌≡◌, ◌≤◌, ◌<◌, ◌^◌, Bool, List, [], ◌∷◌, ◌++◌, length, Option, Some, Err, refl, sym, ap, ◌∙◌, add-one, pos}
use Rattle.pri_tokens.specs.declared.terminals.Terminal.{Terminal}
use Rattle.pri_tokens.specs.declared.terminals.Terminal.TheVariants as t
use Rattle.pri_tokens.specs.declared.terminals.Lexeme.{Lexeme}
use Rattle.pri_tokens.specs.Bytes.{text_of}
use Rattle.base_numerals.specs.Numerals.{decimal_value}
use Rattle.pri_reader.specs.declared.tree.Expr.{Expr}
use Rattle.pri_reader.specs.declared.tree.Form.TheVariants as form
use Rattle.pri_reader.specs.declared.tree.Name.{Name}
use Rattle.pri_reader.specs.declared.tree.ReadRefusal.TheVariants as refusal
use Rattle.pri_reader.specs.declared.classes.Prefix.{Prefix}
use Rattle.pri_reader.specs.declared.classes.Prefix.TheVariants as p
use Rattle.pri_reader.specs.declared.classes.Opening.{Opening}
use Rattle.pri_reader.specs.declared.classes.Opening.TheVariants as o
use Rattle.pri_reader.specs.Classes.{prefix_of, opening_of}
use Rattle.pri_reader.specs.Grammar.{equivalence, expr, paired, name_of, Takes}
use Rattle.pri_reader.specs.MachineStates.{Frame, wrap, not_at, minus_at, grouped_at, absolute_at, branches, test_of, branch_of, arguments_of, pair_left, pair_right, a_unary, a_minus, a_parenthesis, behind_name, an_argument, a_pair, a_binder, a_part_bracket, gives, bad, applied, under_rel, under_right}
use Rattle.pri_reader.specs.Machine.{test_follows, branch_follows, arguments_follow, left_follows, pair_follows, minus_moves, unary_moves, behind_name_moves, argument_moves, pair_moves, follows, moves, limited, goes_on, run}
use Rattle.pri_reader.specs.Reading.{file_setting, reads, place, NotNext, BeginsTerm, BeginsNone, Opened, Prefixes, PrefixesNone}
use Rattle.pri_reader.proofs.Moves.{taken, step_numeral}
use Rattle.pri_reader.proofs.TokenSteps.{below, it, stuck, refused, refused_both, opened, too_deep, too_great, goes}

at_prefix : (b : List ℕ) (x : Lexeme) (n : ℕ) (frames : List Frame) (q : Option Prefix) → prefix_of x.terminal ≡ q
    → moves (file_setting b) x x.terminal (a_unary n) frames ≡ unary_moves (file_setting b) x q (opening_of x.terminal) n frames
unfolding reads moves
at_prefix b x n frames q e = ap (λ z. unary_moves (file_setting b) x z (opening_of x.terminal) n frames) e

pub not_step : (b : List ℕ) (tokens inner : List Lexeme) (x : Lexeme) (n : ℕ) (frames : List Frame) → Prefixes p.Not x tokens inner → {d : ℕ} → Opened n d
    → reads b tokens (a_unary n) frames ≡ reads b inner (a_unary d) (wrap (not_at x.at) ∷ frames)
not_step b tokens inner x n frames e {d = d} h = opened b (it e.parts) _ _ (at_prefix b x n frames _ e.is) h.below ∙ ap (λ m. reads b inner (a_unary m) (wrap (not_at x.at) ∷ frames)) (sym (h.is ∙ add-one n))

pub not_deep : (b : List ℕ) (tokens inner : List Lexeme) (x : Lexeme) (n : ℕ) (frames : List Frame) → Prefixes p.Not x tokens inner → 200 ≤ n
    → reads b tokens (a_unary n) frames ≡ Err (refusal.Deep x.at)
not_deep b tokens inner x n frames e h = too_deep b (it e.parts) _ _ (at_prefix b x n frames _ e.is) h

pub quantifier_step : (b : List ℕ) (tokens inner : List Lexeme) (x : Lexeme) (all : Bool) (n : ℕ) (frames : List Frame) → Prefixes (p.Quantifier all) x tokens inner
    → reads b tokens (a_unary n) frames ≡ reads b inner (a_binder x.at all n) frames
quantifier_step b tokens inner x all n frames e = goes b (it e.parts) _ _ (at_prefix b x n frames _ e.is)

pub part_step : (b : List ℕ) (tokens inner : List Lexeme) (x : Lexeme) (n : ℕ) (frames : List Frame) → Prefixes p.Part x tokens inner → {d : ℕ} → Opened n d
    → reads b tokens (a_unary n) frames ≡ reads b inner (a_part_bracket x.at d) frames
part_step b tokens inner x n frames e {d = d} h = opened b (it e.parts) _ _ (at_prefix b x n frames _ e.is) h.below ∙ ap (λ m. reads b inner (a_part_bracket x.at m) frames) (sym (h.is ∙ add-one n))

pub part_deep : (b : List ℕ) (tokens inner : List Lexeme) (x : Lexeme) (n : ℕ) (frames : List Frame) → Prefixes p.Part x tokens inner → 200 ≤ n
    → reads b tokens (a_unary n) frames ≡ Err (refusal.Deep x.at)
part_deep b tokens inner x n frames e h = too_deep b (it e.parts) _ _ (at_prefix b x n frames _ e.is) h

pub relation_of_unary : (b : List ℕ) (tokens : List Lexeme) (n : ℕ) (frames : List Frame) → PrefixesNone tokens
    → reads b tokens (a_unary n) frames ≡ reads b tokens (a_minus n) (under_rel n frames)
unfolding reads run moves
relation_of_unary b [] n frames h = refl
relation_of_unary b (x ∷ inner) n frames h =
    ap (λ z. goes_on (run (file_setting b) (length b) inner) (limited ((file_setting b).small inner) ((file_setting b).shallow inner) x.at (unary_moves (file_setting b) x z (opening_of x.terminal) n frames))) (h.no x inner refl)

at_opening : (b : List ℕ) (x : Lexeme) (n : ℕ) (frames : List Frame) (q : Option Opening) → opening_of x.terminal ≡ q
    → moves (file_setting b) x x.terminal (a_minus n) frames ≡ minus_moves (file_setting b) x q n frames
unfolding reads moves
at_opening b x n frames q e = ap (λ z. minus_moves (file_setting b) x z n frames) e

pub factor_bad : (b : List ℕ) (tokens : List Lexeme) (n : ℕ) (frames : List Frame) → BeginsNone tokens
    → reads b tokens (a_minus n) frames ≡ Err (refusal.Syntax (place (length b) tokens))
unfolding reads run
factor_bad b [] n frames h = refl
factor_bad b (x ∷ inner) n frames h = stuck b refl _ _ (at_opening b x n frames _ (h.no x inner refl))

pub minus_step : (b : List ℕ) (tokens inner : List Lexeme) (x : Lexeme) (n : ℕ) (frames : List Frame) → BeginsTerm o.Minus x tokens inner → {d : ℕ} → Opened n d
    → reads b tokens (a_minus n) frames ≡ reads b inner (a_minus d) (wrap (minus_at x.at) ∷ frames)
minus_step b tokens inner x n frames e {d = d} h = opened b (it e.parts) _ _ (at_opening b x n frames _ e.is) h.below ∙ ap (λ m. reads b inner (a_minus m) (wrap (minus_at x.at) ∷ frames)) (sym (h.is ∙ add-one n))

pub minus_deep : (b : List ℕ) (tokens inner : List Lexeme) (x : Lexeme) (n : ℕ) (frames : List Frame) → BeginsTerm o.Minus x tokens inner → 200 ≤ n
    → reads b tokens (a_minus n) frames ≡ Err (refusal.Deep x.at)
minus_deep b tokens inner x n frames e h = too_deep b (it e.parts) _ _ (at_opening b x n frames _ e.is) h

pub number_step : (b : List ℕ) (tokens inner : List Lexeme) (x : Lexeme) (n : ℕ) (frames : List Frame) → BeginsTerm o.Number x tokens inner
    → decimal_value (text_of b x) < 2 ^ 127
    → reads b tokens (a_minus n) frames ≡ reads b inner (gives (expr x.at (form.Number (pos (decimal_value (text_of b x)))))) frames
unfolding reads
number_step b tokens inner x n frames e h =
    step_numeral (file_setting b) (length b) (it e.parts) _ _ (at_opening b x n frames _ e.is) (below (decimal_value (text_of b x)) (2 ^ 127) h)

pub number_great : (b : List ℕ) (tokens inner : List Lexeme) (x : Lexeme) (n : ℕ) (frames : List Frame) → BeginsTerm o.Number x tokens inner
    → 2 ^ 127 ≤ decimal_value (text_of b x)
    → reads b tokens (a_minus n) frames ≡ Err (refusal.Literal x.at)
number_great b tokens inner x n frames e h = too_great b (it e.parts) _ _ (at_opening b x n frames _ e.is) h

pub truth_step : (b : List ℕ) (tokens inner : List Lexeme) (x : Lexeme) (truth : Bool) (n : ℕ) (frames : List Frame) → BeginsTerm (o.Truth truth) x tokens inner
    → reads b tokens (a_minus n) frames ≡ reads b inner (gives (expr x.at (form.Truth truth))) frames
truth_step b tokens inner x truth n frames e = goes b (it e.parts) _ _ (at_opening b x n frames _ e.is)

pub identifier_step : (b : List ℕ) (tokens inner : List Lexeme) (x : Lexeme) (n : ℕ) (frames : List Frame) → BeginsTerm o.Identifier x tokens inner
    → reads b tokens (a_minus n) frames ≡ reads b inner (behind_name (name_of (file_setting b) x) n) frames
identifier_step b tokens inner x n frames e = goes b (it e.parts) _ _ (at_opening b x n frames _ e.is)

is_parenthesis : (k : Terminal) → opening_of k ≡ Some o.Parenthesis → k ≡ t.OpenParenthesis
is_parenthesis t.OpenParenthesis e = refl
is_parenthesis _ e = absurd cc

pub group_step : (b : List ℕ) (tokens inner : List Lexeme) (x : Lexeme) (n : ℕ) (frames : List Frame) → BeginsTerm o.Parenthesis x tokens inner
    → reads b tokens (a_minus n) frames ≡ reads b tokens (a_parenthesis n) (wrap (grouped_at x.at) ∷ frames)
unfolding reads moves
group_step b tokens inner x n frames e =
    let h : Takes t.OpenParenthesis x tokens inner = record { parts = e.parts; is = is_parenthesis x.terminal e.is } in
    taken (file_setting b) (length b) h (a_minus n) frames ∙ sym (taken (file_setting b) (length b) h (a_parenthesis n) (wrap (grouped_at x.at) ∷ frames))

pub if_step : (b : List ℕ) (tokens inner : List Lexeme) (x : Lexeme) (n : ℕ) (frames : List Frame) → BeginsTerm o.If x tokens inner
    → reads b tokens (a_minus n) frames ≡ reads b inner (a_parenthesis n) (test_of x.at n ∷ frames)
if_step b tokens inner x n frames e = goes b (it e.parts) _ _ (at_opening b x n frames _ e.is)

pub abs_step : (b : List ℕ) (tokens inner : List Lexeme) (x : Lexeme) (n : ℕ) (frames : List Frame) → BeginsTerm o.Abs x tokens inner
    → reads b tokens (a_minus n) frames ≡ reads b inner (a_parenthesis n) (wrap (absolute_at x.at) ∷ frames)
abs_step b tokens inner x n frames e = goes b (it e.parts) _ _ (at_opening b x n frames _ e.is)

pub pair_begin : (b : List ℕ) (tokens inner : List Lexeme) (x : Lexeme) (max : Bool) (n : ℕ) (frames : List Frame) → BeginsTerm (o.Pair max) x tokens inner
    → reads b tokens (a_minus n) frames ≡ reads b inner (a_pair max x.at n) frames
pair_begin b tokens inner x max n frames e = goes b (it e.parts) _ _ (at_opening b x n frames _ e.is)

no_parenthesis : (k : Terminal) (at : ℕ) (name : Name) (n : ℕ) (frames : List Frame) → (k ≡ t.OpenParenthesis → ⊥)
    → behind_name_moves k at name n frames ≡ follows at k (applied name []) frames
no_parenthesis t.OpenParenthesis at name n frames h = absurd (h refl)
no_parenthesis _ at name n frames h = refl

pub name_pass : (b : List ℕ) (tokens : List Lexeme) (name : Name) (n : ℕ) (frames : List Frame) → NotNext t.OpenParenthesis tokens
    → reads b tokens (behind_name name n) frames ≡ reads b tokens (gives (applied name [])) frames
unfolding reads run moves
name_pass b [] name n frames h = refl
name_pass b (x ∷ inner) name n frames h =
    ap (λ z. goes_on (run (file_setting b) (length b) inner) (limited ((file_setting b).small inner) ((file_setting b).shallow inner) x.at z))
    (no_parenthesis x.terminal x.at name n frames (h.no x inner refl))

pub name_step : (b : List ℕ) (tokens inner : List Lexeme) (x : Lexeme) (name : Name) (n : ℕ) (frames : List Frame) → Takes t.OpenParenthesis x tokens inner → {d : ℕ} → Opened n d
    → reads b tokens (behind_name name n) (frames) ≡ reads b inner (an_argument name d) (frames)
unfolding reads moves follows
name_step b tokens inner x name n frames e {d = d} h = opened b e _ _ refl h.below ∙ ap (λ m. reads b inner (an_argument name m) (frames)) (sym (h.is ∙ add-one n))

pub name_deep : (b : List ℕ) (tokens inner : List Lexeme) (x : Lexeme) (name : Name) (n : ℕ) (frames : List Frame) → Takes t.OpenParenthesis x tokens inner → 200 ≤ n
    → reads b tokens (behind_name name n) (frames) ≡ Err (refusal.Deep x.at)
unfolding reads moves follows
name_deep b tokens inner x name n frames e h = too_deep b e _ _ refl h

pub empty_step : (b : List ℕ) (tokens inner : List Lexeme) (x : Lexeme) (name : Name) (n : ℕ) (frames : List Frame) → Takes t.CloseParenthesis x tokens inner
    → reads b tokens (an_argument name n) (frames) ≡ reads b inner (gives (applied name [])) (frames)
unfolding reads moves follows
empty_step b tokens inner x name n frames e = goes b e _ _ refl

not_empty : (b : List ℕ) (k : Terminal) (x : Lexeme) (name : Name) (n : ℕ) (frames : List Frame) → (k ≡ t.CloseParenthesis → ⊥)
    → argument_moves (file_setting b) x k name n frames ≡ unary_moves (file_setting b) x (prefix_of k) (opening_of k) n (under_right equivalence n (arguments_of name n [] ∷ frames))
not_empty b t.CloseParenthesis x name n frames h = absurd (h refl)
not_empty b _ x name n frames h = refl

pub argument_pass : (b : List ℕ) (tokens : List Lexeme) (name : Name) (n : ℕ) (frames : List Frame) → NotNext t.CloseParenthesis tokens
    → reads b tokens (an_argument name n) frames ≡ reads b tokens (a_unary n) (under_right equivalence n (arguments_of name n [] ∷ frames))
unfolding reads run moves
argument_pass b [] name n frames h = refl
argument_pass b (x ∷ inner) name n frames h =
    ap (λ z. goes_on (run (file_setting b) (length b) inner) (limited ((file_setting b).small inner) ((file_setting b).shallow inner) x.at z))
    (not_empty b x.terminal x name n frames (h.no x inner refl))

pub comma_step : (b : List ℕ) (tokens inner : List Lexeme) (x : Lexeme) (name : Name) (n : ℕ) (fs : List Expr) (f : Expr) (frames : List Frame) → Takes t.Comma x tokens inner
    → reads b tokens (gives f) (arguments_of name n fs ∷ frames) ≡ reads b inner (a_unary n) (under_right equivalence n (arguments_of name n (fs ++ f ∷ []) ∷ frames))
unfolding reads moves follows
comma_step b tokens inner x name n fs f frames e = goes b e _ _ refl

pub arguments_step : (b : List ℕ) (tokens inner : List Lexeme) (x : Lexeme) (name : Name) (n : ℕ) (fs : List Expr) (f : Expr) (frames : List Frame) → Takes t.CloseParenthesis x tokens inner
    → reads b tokens (gives f) (arguments_of name n fs ∷ frames) ≡ reads b inner (gives (applied name (fs ++ f ∷ []))) (frames)
unfolding reads moves follows
arguments_step b tokens inner x name n fs f frames e = goes b e _ _ refl

only_arguments : (k : Terminal) (name : Name) (n : ℕ) (fs : List Expr) (frames : List Frame) → (k ≡ t.Comma → ⊥) → (k ≡ t.CloseParenthesis → ⊥)
    → arguments_follow k name n fs frames ≡ bad
only_arguments t.Comma name n fs frames h g = absurd (h refl)
only_arguments t.CloseParenthesis name n fs frames h g = absurd (g refl)
only_arguments _ name n fs frames h g = refl

pub arguments_bad : (b : List ℕ) (tokens : List Lexeme) (name : Name) (n : ℕ) (fs : List Expr) (f : Expr) (frames : List Frame) → NotNext t.Comma tokens → NotNext t.CloseParenthesis tokens
    → reads b tokens (gives f) (arguments_of name n fs ∷ frames) ≡ Err (refusal.Syntax (place (length b) tokens))
unfolding reads moves follows
arguments_bad b tokens name n fs f frames h g = refused_both b t.Comma t.CloseParenthesis tokens _ _ h g refl (λ x k u v. only_arguments k name n (fs ++ f ∷ []) frames u v)

only_then : (k : Terminal) (at : ℕ) (n : ℕ) (f : Expr) (frames : List Frame) → (k ≡ t.Then → ⊥) → test_follows k at n f frames ≡ bad
only_then t.Then at n f frames h = absurd (h refl)
only_then _ at n f frames h = refl

pub then_bad : (b : List ℕ) (tokens : List Lexeme) (at : ℕ) (n : ℕ) (f : Expr) (frames : List Frame) → NotNext t.Then tokens
    → reads b tokens (gives f) (test_of at n ∷ frames) ≡ Err (refusal.Syntax (place (length b) tokens))
unfolding reads moves follows
then_bad b tokens at n f frames h = refused b t.Then tokens _ _ h refl (λ y k z. only_then k at n f frames z)

pub then_step : (b : List ℕ) (tokens inner : List Lexeme) (x : Lexeme) (at : ℕ) (n : ℕ) (f : Expr) (frames : List Frame) → Takes t.Then x tokens inner
    → reads b tokens (gives f) (test_of at n ∷ frames) ≡ reads b inner (a_parenthesis n) (branch_of at n f ∷ frames)
unfolding reads moves follows
then_step b tokens inner x at n f frames e = goes b e _ _ refl

only_else : (k : Terminal) (at : ℕ) (n : ℕ) (c : Expr) (f : Expr) (frames : List Frame) → (k ≡ t.Else → ⊥) → branch_follows k at n c f frames ≡ bad
only_else t.Else at n c f frames h = absurd (h refl)
only_else _ at n c f frames h = refl

pub else_bad : (b : List ℕ) (tokens : List Lexeme) (at : ℕ) (n : ℕ) (c : Expr) (f : Expr) (frames : List Frame) → NotNext t.Else tokens
    → reads b tokens (gives f) (branch_of at n c ∷ frames) ≡ Err (refusal.Syntax (place (length b) tokens))
unfolding reads moves follows
else_bad b tokens at n c f frames h = refused b t.Else tokens _ _ h refl (λ y k z. only_else k at n c f frames z)

pub else_step : (b : List ℕ) (tokens inner : List Lexeme) (x : Lexeme) (at : ℕ) (n : ℕ) (c : Expr) (f : Expr) (frames : List Frame) → Takes t.Else x tokens inner
    → reads b tokens (gives f) (branch_of at n c ∷ frames) ≡ reads b inner (a_parenthesis n) (wrap (branches at c f) ∷ frames)
unfolding reads moves follows
else_step b tokens inner x at n c f frames e = goes b e _ _ refl

only_pair_open : (k : Terminal) (max : Bool) (at : ℕ) (n : ℕ) (frames : List Frame) → (k ≡ t.OpenParenthesis → ⊥) → pair_moves k max at n frames ≡ bad
only_pair_open t.OpenParenthesis max at n frames h = absurd (h refl)
only_pair_open _ max at n frames h = refl

pub pair_open_bad : (b : List ℕ) (tokens : List Lexeme) (max : Bool) (at : ℕ) (n : ℕ) (frames : List Frame) → NotNext t.OpenParenthesis tokens
    → reads b tokens (a_pair max at n) (frames) ≡ Err (refusal.Syntax (place (length b) tokens))
unfolding reads moves follows
pair_open_bad b tokens max at n frames h = refused b t.OpenParenthesis tokens _ _ h refl (λ y k z. only_pair_open k max at n frames z)

pub pair_open_step : (b : List ℕ) (tokens inner : List Lexeme) (x : Lexeme) (max : Bool) (at : ℕ) (n : ℕ) (frames : List Frame) → Takes t.OpenParenthesis x tokens inner → {d : ℕ} → Opened n d
    → reads b tokens (a_pair max at n) (frames) ≡ reads b inner (a_unary d) (under_right equivalence d (pair_left max at d ∷ frames))
unfolding reads moves follows
pair_open_step b tokens inner x max at n frames e {d = d} h = opened b e _ _ refl h.below ∙ ap (λ m. reads b inner (a_unary m) (under_right equivalence m (pair_left max at m ∷ frames))) (sym (h.is ∙ add-one n))

pub pair_open_deep : (b : List ℕ) (tokens inner : List Lexeme) (x : Lexeme) (max : Bool) (at : ℕ) (n : ℕ) (frames : List Frame) → Takes t.OpenParenthesis x tokens inner → 200 ≤ n
    → reads b tokens (a_pair max at n) (frames) ≡ Err (refusal.Deep x.at)
unfolding reads moves follows
pair_open_deep b tokens inner x max at n frames e h = too_deep b e _ _ refl h

only_left : (k : Terminal) (max : Bool) (at : ℕ) (n : ℕ) (f : Expr) (frames : List Frame) → (k ≡ t.Comma → ⊥) → left_follows k max at n f frames ≡ bad
only_left t.Comma max at n f frames h = absurd (h refl)
only_left _ max at n f frames h = refl

pub left_bad : (b : List ℕ) (tokens : List Lexeme) (max : Bool) (at : ℕ) (n : ℕ) (f : Expr) (frames : List Frame) → NotNext t.Comma tokens
    → reads b tokens (gives f) (pair_left max at n ∷ frames) ≡ Err (refusal.Syntax (place (length b) tokens))
unfolding reads moves follows
left_bad b tokens max at n f frames h = refused b t.Comma tokens _ _ h refl (λ y k z. only_left k max at n f frames z)

pub left_step : (b : List ℕ) (tokens inner : List Lexeme) (x : Lexeme) (max : Bool) (at : ℕ) (n : ℕ) (f : Expr) (frames : List Frame) → Takes t.Comma x tokens inner
    → reads b tokens (gives f) (pair_left max at n ∷ frames) ≡ reads b inner (a_unary n) (under_right equivalence n (pair_right max at f ∷ frames))
unfolding reads moves follows
left_step b tokens inner x max at n f frames e = goes b e _ _ refl

only_pair_close : (k : Terminal) (max : Bool) (at : ℕ) (f : Expr) (g : Expr) (frames : List Frame) → (k ≡ t.CloseParenthesis → ⊥) → pair_follows k max at f g frames ≡ bad
only_pair_close t.CloseParenthesis max at f g frames h = absurd (h refl)
only_pair_close _ max at f g frames h = refl

pub pair_close_bad : (b : List ℕ) (tokens : List Lexeme) (max : Bool) (at : ℕ) (f : Expr) (g : Expr) (frames : List Frame) → NotNext t.CloseParenthesis tokens
    → reads b tokens (gives g) (pair_right max at f ∷ frames) ≡ Err (refusal.Syntax (place (length b) tokens))
unfolding reads moves follows
pair_close_bad b tokens max at f g frames h = refused b t.CloseParenthesis tokens _ _ h refl (λ y k z. only_pair_close k max at f g frames z)

pub pair_close_step : (b : List ℕ) (tokens inner : List Lexeme) (x : Lexeme) (max : Bool) (at : ℕ) (f : Expr) (g : Expr) (frames : List Frame) → Takes t.CloseParenthesis x tokens inner
    → reads b tokens (gives g) (pair_right max at f ∷ frames) ≡ reads b inner (gives (paired max at f g)) (frames)
unfolding reads moves follows
pair_close_step b tokens inner x max at f g frames e = goes b e _ _ refl
