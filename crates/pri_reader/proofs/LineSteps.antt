-- What the machine does at the signs of the lines of formulas and terms.
use Rattle.std.proofs.Common.{ℕ, suc, ◌≡◌, ◌≤◌, Bool, false, List, [], ◌∷◌, ◌++◌, length, Err, refl, sym, ap, ◌∙◌, add-one, if◌then◌else◌}
use Rattle.pri_tokens.specs.declared.terminals.Terminal.{Terminal}
use Rattle.pri_tokens.specs.declared.terminals.Terminal.TheVariants as t
use Rattle.pri_tokens.specs.declared.terminals.Lexeme.{Lexeme}
use Rattle.pri_reader.specs.declared.tree.Expr.{Expr}
use Rattle.pri_reader.specs.declared.tree.Added.{Added}
use Rattle.pri_reader.specs.declared.tree.Comparison.{Comparison}
use Rattle.pri_reader.specs.declared.tree.ReadRefusal.TheVariants as refusal
use Rattle.pri_reader.specs.Grammar.{equivalence, implication, multiplication, disjunction, conjunction, chained, added, summed, Takes}
use Rattle.pri_reader.specs.MachineStates.{Frame, right_of, chain_of, rel_of, sum_of, wrap, second, compared, a_unary, a_minus, gives, on, level, under_product, under_sum, under_right, under_member, wants_right}
use Rattle.pri_reader.specs.Machine.{takes_right, takes_chain, sum_goes_on, rel_goes_on, follows, moves}
use Rattle.pri_reader.specs.Reading.{file_setting, reads, NotNext, AddsTerm, AddsNone, Compares, ComparesNone, Opened}
use Rattle.pri_reader.proofs.Moves.{same_run}
use Rattle.pri_reader.proofs.TokenSteps.{it, opened, too_deep, goes}

not_iff : (k : Terminal) → (k ≡ t.Iff → ⊥) → takes_right equivalence k ≡ false
not_iff t.Iff h = absurd (h refl)
not_iff _ h = refl

pub iff_pass : (b : List ℕ) (tokens : List Lexeme) (n : ℕ) (f : Expr) (frames : List Frame) → NotNext t.Iff tokens
    → reads b tokens (gives f) (right_of equivalence n ∷ frames) ≡ reads b tokens (gives f) frames
unfolding reads moves follows
iff_pass b tokens n f frames h = same_run (file_setting b) (length b) tokens f f (right_of equivalence n ∷ frames) frames
    (λ x inner e. ap (λ z. if z then level n (wants_right equivalence (suc n)) (under_right equivalence (suc n) (wrap (second equivalence f x.at) ∷ frames)) else follows x.at x.terminal f frames)
    (not_iff x.terminal (h.no x inner e)))

pub iff_step : (b : List ℕ) (tokens inner : List Lexeme) (x : Lexeme) (n : ℕ) (f : Expr) (frames : List Frame) → Takes t.Iff x tokens inner → {d : ℕ} → Opened n d
    → reads b tokens (gives f) (right_of equivalence n ∷ frames) ≡ reads b inner (a_unary d) (under_right equivalence d (wrap (second equivalence f x.at) ∷ frames))
unfolding reads moves follows
iff_step b tokens inner x n f frames e {d = d} h = opened b e _ _ refl h.below ∙ ap (λ m. reads b inner (a_unary m) (under_right equivalence m (wrap (second equivalence f x.at) ∷ frames))) (sym (h.is ∙ add-one n))

pub iff_deep : (b : List ℕ) (tokens inner : List Lexeme) (x : Lexeme) (n : ℕ) (f : Expr) (frames : List Frame) → Takes t.Iff x tokens inner → 200 ≤ n
    → reads b tokens (gives f) (right_of equivalence n ∷ frames) ≡ Err (refusal.Deep x.at)
unfolding reads moves follows
iff_deep b tokens inner x n f frames e h = too_deep b e _ _ refl h

not_implies : (k : Terminal) → (k ≡ t.Implies → ⊥) → takes_right implication k ≡ false
not_implies t.Implies h = absurd (h refl)
not_implies _ h = refl

pub implies_pass : (b : List ℕ) (tokens : List Lexeme) (n : ℕ) (f : Expr) (frames : List Frame) → NotNext t.Implies tokens
    → reads b tokens (gives f) (right_of implication n ∷ frames) ≡ reads b tokens (gives f) frames
unfolding reads moves follows
implies_pass b tokens n f frames h = same_run (file_setting b) (length b) tokens f f (right_of implication n ∷ frames) frames
    (λ x inner e. ap (λ z. if z then level n (wants_right implication (suc n)) (under_right implication (suc n) (wrap (second implication f x.at) ∷ frames)) else follows x.at x.terminal f frames)
    (not_implies x.terminal (h.no x inner e)))

pub implies_step : (b : List ℕ) (tokens inner : List Lexeme) (x : Lexeme) (n : ℕ) (f : Expr) (frames : List Frame) → Takes t.Implies x tokens inner → {d : ℕ} → Opened n d
    → reads b tokens (gives f) (right_of implication n ∷ frames) ≡ reads b inner (a_unary d) (under_right implication d (wrap (second implication f x.at) ∷ frames))
unfolding reads moves follows
implies_step b tokens inner x n f frames e {d = d} h = opened b e _ _ refl h.below ∙ ap (λ m. reads b inner (a_unary m) (under_right implication m (wrap (second implication f x.at) ∷ frames))) (sym (h.is ∙ add-one n))

pub implies_deep : (b : List ℕ) (tokens inner : List Lexeme) (x : Lexeme) (n : ℕ) (f : Expr) (frames : List Frame) → Takes t.Implies x tokens inner → 200 ≤ n
    → reads b tokens (gives f) (right_of implication n ∷ frames) ≡ Err (refusal.Deep x.at)
unfolding reads moves follows
implies_deep b tokens inner x n f frames e h = too_deep b e _ _ refl h

not_times : (k : Terminal) → (k ≡ t.Star → ⊥) → takes_right multiplication k ≡ false
not_times t.Star h = absurd (h refl)
not_times _ h = refl

pub times_pass : (b : List ℕ) (tokens : List Lexeme) (n : ℕ) (f : Expr) (frames : List Frame) → NotNext t.Star tokens
    → reads b tokens (gives f) (right_of multiplication n ∷ frames) ≡ reads b tokens (gives f) frames
unfolding reads moves follows
times_pass b tokens n f frames h = same_run (file_setting b) (length b) tokens f f (right_of multiplication n ∷ frames) frames
    (λ x inner e. ap (λ z. if z then level n (wants_right multiplication (suc n)) (under_right multiplication (suc n) (wrap (second multiplication f x.at) ∷ frames)) else follows x.at x.terminal f frames)
    (not_times x.terminal (h.no x inner e)))

pub times_step : (b : List ℕ) (tokens inner : List Lexeme) (x : Lexeme) (n : ℕ) (f : Expr) (frames : List Frame) → Takes t.Star x tokens inner → {d : ℕ} → Opened n d
    → reads b tokens (gives f) (right_of multiplication n ∷ frames) ≡ reads b inner (a_minus d) (under_right multiplication d (wrap (second multiplication f x.at) ∷ frames))
unfolding reads moves follows
times_step b tokens inner x n f frames e {d = d} h = opened b e _ _ refl h.below ∙ ap (λ m. reads b inner (a_minus m) (under_right multiplication m (wrap (second multiplication f x.at) ∷ frames))) (sym (h.is ∙ add-one n))

pub times_deep : (b : List ℕ) (tokens inner : List Lexeme) (x : Lexeme) (n : ℕ) (f : Expr) (frames : List Frame) → Takes t.Star x tokens inner → 200 ≤ n
    → reads b tokens (gives f) (right_of multiplication n ∷ frames) ≡ Err (refusal.Deep x.at)
unfolding reads moves follows
times_deep b tokens inner x n f frames e h = too_deep b e _ _ refl h

not_and : (k : Terminal) → (k ≡ t.And → ⊥) → takes_chain conjunction k ≡ false
not_and t.And h = absurd (h refl)
not_and _ h = refl

pub and_pass : (b : List ℕ) (tokens : List Lexeme) (n : ℕ) (fs : List Expr) (f : Expr) (frames : List Frame) → NotNext t.And tokens
    → reads b tokens (gives f) (chain_of conjunction n fs ∷ frames) ≡ reads b tokens (gives (chained conjunction fs f)) frames
unfolding reads moves follows
and_pass b tokens n fs f frames h = same_run (file_setting b) (length b) tokens f (chained conjunction fs f) (chain_of conjunction n fs ∷ frames) frames
    (λ x inner e. ap (λ z. if z then on (a_unary n) (under_member conjunction n (chain_of conjunction n (fs ++ f ∷ []) ∷ frames)) else follows x.at x.terminal (chained conjunction fs f) frames)
    (not_and x.terminal (h.no x inner e)))

pub and_step : (b : List ℕ) (tokens inner : List Lexeme) (x : Lexeme) (n : ℕ) (fs : List Expr) (f : Expr) (frames : List Frame) → Takes t.And x tokens inner
    → reads b tokens (gives f) (chain_of conjunction n fs ∷ frames) ≡ reads b inner (a_unary n) (under_member conjunction n (chain_of conjunction n (fs ++ f ∷ []) ∷ frames))
unfolding reads moves follows
and_step b tokens inner x n fs f frames e = goes b e _ _ refl

not_or : (k : Terminal) → (k ≡ t.Or → ⊥) → takes_chain disjunction k ≡ false
not_or t.Or h = absurd (h refl)
not_or _ h = refl

pub or_pass : (b : List ℕ) (tokens : List Lexeme) (n : ℕ) (fs : List Expr) (f : Expr) (frames : List Frame) → NotNext t.Or tokens
    → reads b tokens (gives f) (chain_of disjunction n fs ∷ frames) ≡ reads b tokens (gives (chained disjunction fs f)) frames
unfolding reads moves follows
or_pass b tokens n fs f frames h = same_run (file_setting b) (length b) tokens f (chained disjunction fs f) (chain_of disjunction n fs ∷ frames) frames
    (λ x inner e. ap (λ z. if z then on (a_unary n) (under_member disjunction n (chain_of disjunction n (fs ++ f ∷ []) ∷ frames)) else follows x.at x.terminal (chained disjunction fs f) frames)
    (not_or x.terminal (h.no x inner e)))

pub or_step : (b : List ℕ) (tokens inner : List Lexeme) (x : Lexeme) (n : ℕ) (fs : List Expr) (f : Expr) (frames : List Frame) → Takes t.Or x tokens inner
    → reads b tokens (gives f) (chain_of disjunction n fs ∷ frames) ≡ reads b inner (a_unary n) (under_member disjunction n (chain_of disjunction n (fs ++ f ∷ []) ∷ frames))
unfolding reads moves follows
or_step b tokens inner x n fs f frames e = goes b e _ _ refl

pub sum_pass : (b : List ℕ) (tokens : List Lexeme) (n : ℕ) (before : List Added) (sign : Bool) (f : Expr) (frames : List Frame) → AddsNone tokens
    → reads b tokens (gives f) (sum_of n before sign ∷ frames) ≡ reads b tokens (gives (summed before sign f)) frames
unfolding reads moves follows
sum_pass b tokens n before sign f frames h = same_run (file_setting b) (length b) tokens f (summed before sign f) (sum_of n before sign ∷ frames) frames
    (λ x inner e. ap (λ z. sum_goes_on z n (before ++ added sign f ∷ []) frames (follows x.at x.terminal (summed before sign f) frames)) (h.no x inner e))

pub sum_step : (b : List ℕ) (tokens inner : List Lexeme) (n : ℕ) (before : List Added) (old new : Bool) (f : Expr) (frames : List Frame) → AddsTerm new tokens inner
    → reads b tokens (gives f) (sum_of n before old ∷ frames) ≡ reads b inner (a_minus n) (under_product n (sum_of n (before ++ added old f ∷ []) new ∷ frames))
unfolding reads moves follows
sum_step b tokens inner n before old new f frames h = goes b (it h.parts) _ _
    (ap (λ z. sum_goes_on z n (before ++ added old f ∷ []) frames (follows h.x.at h.x.terminal (summed before old f) frames)) h.is)

pub relation_pass : (b : List ℕ) (tokens : List Lexeme) (n : ℕ) (f : Expr) (frames : List Frame) → ComparesNone tokens
    → reads b tokens (gives f) (rel_of n ∷ frames) ≡ reads b tokens (gives f) frames
unfolding reads moves follows
relation_pass b tokens n f frames h = same_run (file_setting b) (length b) tokens f f (rel_of n ∷ frames) frames
    (λ x inner e. ap (λ z. rel_goes_on z n f frames (follows x.at x.terminal f frames)) (h.no x inner e))

pub relation_step : (b : List ℕ) (tokens inner : List Lexeme) (n : ℕ) (c : Comparison) (f : Expr) (frames : List Frame) → Compares c tokens inner
    → reads b tokens (gives f) (rel_of n ∷ frames) ≡ reads b inner (a_minus n) (under_sum n (wrap (compared c f) ∷ frames))
unfolding reads moves follows
relation_step b tokens inner n c f frames h = goes b (it h.parts) _ _
    (ap (λ z. rel_goes_on z n f frames (follows h.x.at h.x.terminal f frames)) h.is)
