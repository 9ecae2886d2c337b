-- What the machine does at the tokens of parts and of bound names.
use Rattle.std.proofs.Common.{ℕ, ◌≡◌, ◌≤◌, Bool, true, false, List, [], ◌∷◌, ◌++◌, length, Err, refl, sym, ap, ◌∙◌, add-one}
use Rattle.pri_tokens.specs.declared.terminals.Terminal.{Terminal}
use Rattle.pri_tokens.specs.declared.terminals.Terminal.TheVariants as t
use Rattle.pri_tokens.specs.declared.terminals.Lexeme.{Lexeme}
use Rattle.pri_reader.specs.declared.tree.Name.{Name}
use Rattle.pri_reader.specs.declared.tree.TypeName.{TypeName}
use Rattle.pri_reader.specs.declared.tree.Declared.{Declared}
use Rattle.pri_reader.specs.declared.tree.ReadRefusal.TheVariants as refusal
use Rattle.pri_reader.specs.Grammar.{name_of, of_type, Takes}
use Rattle.pri_reader.specs.MachineStates.{Frame, wrap, bound_at, part_at, a_unary, a_binder, for_binder, a_type, a_bound, bound_more, a_part_bracket, a_part_name, a_part_close, bad}
use Rattle.pri_reader.specs.Machine.{binder_moves, type_moves, bound_moves, bound_more_moves, part_bracket_moves, part_name_moves, part_close_moves, follows, moves, run}
use Rattle.pri_reader.specs.Reading.{file_setting, reads, place, NotNext, Opened}
use Rattle.pri_reader.proofs.TokenSteps.{stuck, refused, refused_both, opened, too_deep, passes, goes}

only_bracket : (k : Terminal) (at : ℕ) (n : ℕ) (frames : List Frame) → (k ≡ t.OpenBracket → ⊥) → part_bracket_moves k at n frames ≡ bad
only_bracket t.OpenBracket at n frames h = absurd (h refl)
only_bracket _ at n frames h = refl

pub bracket_bad : (b : List ℕ) (tokens : List Lexeme) (at : ℕ) (n : ℕ) (frames : List Frame) → NotNext t.OpenBracket tokens
    → reads b tokens (a_part_bracket at n) (frames) ≡ Err (refusal.Syntax (place (length b) tokens))
unfolding reads moves follows
bracket_bad b tokens at n frames h = refused b t.OpenBracket tokens _ _ h refl (λ y k z. only_bracket k at n frames z)

pub bracket_step : (b : List ℕ) (tokens inner : List Lexeme) (x : Lexeme) (at : ℕ) (n : ℕ) (frames : List Frame) → Takes t.OpenBracket x tokens inner
    → reads b tokens (a_part_bracket at n) (frames) ≡ reads b inner (a_part_name at n) (frames)
unfolding reads moves follows
bracket_step b tokens inner x at n frames e = goes b e _ _ refl

only_part_name : (b : List ℕ) (k : Terminal) (x : Lexeme) (at n : ℕ) (frames : List Frame) → (k ≡ t.Identifier → ⊥) → part_name_moves (file_setting b) x k at n frames ≡ bad
only_part_name b t.Identifier x at n frames h = absurd (h refl)
only_part_name b _ x at n frames h = refl

pub part_name_bad : (b : List ℕ) (tokens : List Lexeme) (at n : ℕ) (frames : List Frame) → NotNext t.Identifier tokens
    → reads b tokens (a_part_name at n) frames ≡ Err (refusal.Syntax (place (length b) tokens))
unfolding reads moves
part_name_bad b tokens at n frames h = refused b t.Identifier tokens _ _ h refl (λ x k g. only_part_name b k x at n frames g)

pub part_name_step : (b : List ℕ) (tokens inner : List Lexeme) (x : Lexeme) (at : ℕ) (n : ℕ) (frames : List Frame) → Takes t.Identifier x tokens inner
    → reads b tokens (a_part_name at n) (frames) ≡ reads b inner (a_part_close at (name_of (file_setting b) x) n) (frames)
unfolding reads moves follows
part_name_step b tokens inner x at n frames e = goes b e _ _ refl

only_bracket_close : (k : Terminal) (at : ℕ) (name : Name) (n : ℕ) (frames : List Frame) → (k ≡ t.CloseBracket → ⊥) → part_close_moves k at name n frames ≡ bad
only_bracket_close t.CloseBracket at name n frames h = absurd (h refl)
only_bracket_close _ at name n frames h = refl

pub bracket_close_bad : (b : List ℕ) (tokens : List Lexeme) (at : ℕ) (name : Name) (n : ℕ) (frames : List Frame) → NotNext t.CloseBracket tokens
    → reads b tokens (a_part_close at name n) (frames) ≡ Err (refusal.Syntax (place (length b) tokens))
unfolding reads moves follows
bracket_close_bad b tokens at name n frames h = refused b t.CloseBracket tokens _ _ h refl (λ y k z. only_bracket_close k at name n frames z)

pub bracket_close_step : (b : List ℕ) (tokens inner : List Lexeme) (x : Lexeme) (at : ℕ) (name : Name) (n : ℕ) (frames : List Frame) → Takes t.CloseBracket x tokens inner
    → reads b tokens (a_part_close at name n) (frames) ≡ reads b inner (a_unary n) (wrap (part_at at name) ∷ frames)
unfolding reads moves follows
bracket_close_step b tokens inner x at name n frames e = goes b e _ _ refl

other_binder : (k : Terminal) (at : ℕ) (all : Bool) (n : ℕ) (frames : List Frame) → (k ≡ t.OpenParenthesis → ⊥)
    → binder_moves k at all n frames ≡ type_moves k (for_binder at all false n []) frames
other_binder t.OpenParenthesis at all n frames h = absurd (h refl)
other_binder _ at all n frames h = refl

pub plain_pass : (b : List ℕ) (tokens : List Lexeme) (at : ℕ) (all : Bool) (n : ℕ) (frames : List Frame) → NotNext t.OpenParenthesis tokens
    → reads b tokens (a_binder at all n) frames ≡ reads b tokens (a_type (for_binder at all false n [])) frames
unfolding moves
plain_pass b tokens at all n frames h = passes b t.OpenParenthesis tokens _ _ frames h refl (λ x k u. other_binder k at all n frames u)

pub grouped_step : (b : List ℕ) (tokens inner : List Lexeme) (x : Lexeme) (at : ℕ) (all : Bool) (n : ℕ) (frames : List Frame) → Takes t.OpenParenthesis x tokens inner
    → reads b tokens (a_binder at all n) (frames) ≡ reads b inner (a_type (for_binder at all true n [])) (frames)
unfolding reads moves follows
grouped_step b tokens inner x at all n frames e = goes b e _ _ refl

only_bound : (b : List ℕ) (k : Terminal) (x : Lexeme) (at : ℕ) (all several : Bool) (sort : TypeName) (n : ℕ) (names : List Declared) (frames : List Frame) → (k ≡ t.Identifier → ⊥)
    → bound_moves (file_setting b) x k at all several sort n names frames ≡ bad
only_bound b t.Identifier x at all several sort n names frames h = absurd (h refl)
only_bound b _ x at all several sort n names frames h = refl

pub bound_bad : (b : List ℕ) (tokens : List Lexeme) (at : ℕ) (all several : Bool) (sort : TypeName) (n : ℕ) (names : List Declared) (frames : List Frame) → NotNext t.Identifier tokens
    → reads b tokens (a_bound at all several sort n names) frames ≡ Err (refusal.Syntax (place (length b) tokens))
unfolding reads moves
bound_bad b tokens at all several sort n names frames h = refused b t.Identifier tokens _ _ h refl (λ x k g. only_bound b k x at all several sort n names frames g)

pub bound_step : (b : List ℕ) (tokens inner : List Lexeme) (x : Lexeme) (at : ℕ) (all several : Bool) (sort : TypeName) (n : ℕ) (names : List Declared) (frames : List Frame) → Takes t.Identifier x tokens inner → {d : ℕ} → Opened n d
    → reads b tokens (a_bound at all several sort n names) (frames) ≡ reads b inner (bound_more at all several sort d (names ++ of_type sort (name_of (file_setting b) x) ∷ [])) (frames)
unfolding reads moves follows
bound_step b tokens inner x at all several sort n names frames e {d = d} h = opened b e _ _ refl h.below ∙ ap (λ m. reads b inner (bound_more at all several sort m (names ++ of_type sort (name_of (file_setting b) x) ∷ [])) (frames)) (sym (h.is ∙ add-one n))

pub bound_deep : (b : List ℕ) (tokens inner : List Lexeme) (x : Lexeme) (at : ℕ) (all several : Bool) (sort : TypeName) (n : ℕ) (names : List Declared) (frames : List Frame) → Takes t.Identifier x tokens inner → 200 ≤ n
    → reads b tokens (a_bound at all several sort n names) (frames) ≡ Err (refusal.Deep x.at)
unfolding reads moves follows
bound_deep b tokens inner x at all several sort n names frames e h = too_deep b e _ _ refl h

pub bound_comma_step : (b : List ℕ) (tokens inner : List Lexeme) (x : Lexeme) (at : ℕ) (all several : Bool) (sort : TypeName) (n : ℕ) (names : List Declared) (frames : List Frame) → Takes t.Comma x tokens inner
    → reads b tokens (bound_more at all several sort n names) (frames) ≡ reads b inner (a_bound at all several sort n names) (frames)
unfolding reads moves follows
bound_comma_step b tokens inner x at all several sort n names frames e = goes b e _ _ refl

pub bound_line_step : (b : List ℕ) (tokens inner : List Lexeme) (x : Lexeme) (at : ℕ) (all : Bool) (sort : TypeName) (n : ℕ) (names : List Declared) (frames : List Frame) → Takes t.Semicolon x tokens inner
    → reads b tokens (bound_more at all true sort n names) (frames) ≡ reads b inner (a_type (for_binder at all true n names)) (frames)
unfolding reads moves follows
bound_line_step b tokens inner x at all sort n names frames e = goes b e _ _ refl

pub bound_plain_end_step : (b : List ℕ) (tokens inner : List Lexeme) (x : Lexeme) (at : ℕ) (all : Bool) (sort : TypeName) (n : ℕ) (names : List Declared) (frames : List Frame) → Takes t.Semicolon x tokens inner
    → reads b tokens (bound_more at all false sort n names) (frames) ≡ reads b inner (a_unary n) (wrap (bound_at at all names) ∷ frames)
unfolding reads moves follows
bound_plain_end_step b tokens inner x at all sort n names frames e = goes b e _ _ refl

pub bound_grouped_end_step : (b : List ℕ) (tokens inner : List Lexeme) (x : Lexeme) (at : ℕ) (all : Bool) (sort : TypeName) (n : ℕ) (names : List Declared) (frames : List Frame) → Takes t.CloseParenthesis x tokens inner
    → reads b tokens (bound_more at all true sort n names) (frames) ≡ reads b inner (a_unary n) (wrap (bound_at at all names) ∷ frames)
unfolding reads moves follows
bound_grouped_end_step b tokens inner x at all sort n names frames e = goes b e _ _ refl

only_plain_more : (k : Terminal) (at : ℕ) (all : Bool) (sort : TypeName) (n : ℕ) (names : List Declared) (frames : List Frame) → (k ≡ t.Comma → ⊥) → (k ≡ t.Semicolon → ⊥)
    → bound_more_moves k at all false sort n names frames ≡ bad
only_plain_more t.Comma at all sort n names frames h g = absurd (h refl)
only_plain_more t.Semicolon at all sort n names frames h g = absurd (g refl)
only_plain_more _ at all sort n names frames h g = refl

pub plain_more_bad : (b : List ℕ) (tokens : List Lexeme) (at : ℕ) (all : Bool) (sort : TypeName) (n : ℕ) (names : List Declared) (frames : List Frame) → NotNext t.Comma tokens → NotNext t.Semicolon tokens
    → reads b tokens (bound_more at all false sort n names) frames ≡ Err (refusal.Syntax (place (length b) tokens))
unfolding reads moves
plain_more_bad b tokens at all sort n names frames h g = refused_both b t.Comma t.Semicolon tokens _ _ h g refl (λ x k u v. only_plain_more k at all sort n names frames u v)

only_grouped_more : (k : Terminal) (at : ℕ) (all : Bool) (sort : TypeName) (n : ℕ) (names : List Declared) (frames : List Frame) → (k ≡ t.Comma → ⊥) → (k ≡ t.Semicolon → ⊥) → (k ≡ t.CloseParenthesis → ⊥)
    → bound_more_moves k at all true sort n names frames ≡ bad
only_grouped_more t.Comma at all sort n names frames h g i = absurd (h refl)
only_grouped_more t.Semicolon at all sort n names frames h g i = absurd (g refl)
only_grouped_more t.CloseParenthesis at all sort n names frames h g i = absurd (i refl)
only_grouped_more _ at all sort n names frames h g i = refl

pub grouped_more_bad : (b : List ℕ) (tokens : List Lexeme) (at : ℕ) (all : Bool) (sort : TypeName) (n : ℕ) (names : List Declared) (frames : List Frame)
    → NotNext t.Comma tokens → NotNext t.Semicolon tokens → NotNext t.CloseParenthesis tokens
    → reads b tokens (bound_more at all true sort n names) frames ≡ Err (refusal.Syntax (place (length b) tokens))
unfolding reads run moves
grouped_more_bad b [] at all sort n names frames h g i = refl
grouped_more_bad b (x ∷ inner) at all sort n names frames h g i =
    stuck b {x = x} {tokens = x ∷ inner} {inner = inner} refl (bound_more at all true sort n names) frames (only_grouped_more x.terminal at all sort n names frames (h.no x inner refl) (g.no x inner refl) (i.no x inner refl))
