-- What a token that begins an expression does keeps what the machine's state says.
use Rattle.std.proofs.Common.{ℕ, suc, ◌≡◌, Bool, true, false, List, [], ◌∷◌, ◌++◌, Option, Some, None, refl, sym, ap, subst, inl, inr, ◌⊎◌}
use Rattle.pri_tokens.specs.declared.terminals.Terminal.{Terminal}
use Rattle.pri_tokens.specs.declared.terminals.Terminal.TheVariants as t
use Rattle.pri_tokens.specs.declared.terminals.Lexeme.{Lexeme}
use Rattle.pri_reader.specs.declared.tree.Name.{Name}
use Rattle.pri_reader.specs.declared.classes.Prefix.{Prefix}
use Rattle.pri_reader.specs.declared.classes.Prefix.TheVariants as p
use Rattle.pri_reader.specs.declared.classes.Opening.{Opening}
use Rattle.pri_reader.specs.declared.classes.Opening.TheVariants as o
use Rattle.pri_reader.specs.Classes.{prefix_of, opening_of}
use Rattle.pri_reader.specs.Grammar.{equivalence, unary, factor, parenthesized, quantifier, truth_word, pair_word, Setting, name_of, Takes, Derives, unary_not, unary_part, factor_minus, factor_primary, number, truth, use_bare, use_empty, use_applied, group, conditional, absolute, pair, parentheses, argument_first}
use Rattle.pri_reader.specs.MachineStates.{Frame, wrap, parenthesis_of, arguments_of, pair_left, grouped_at, applied, under_rel, under_right}
use Rattle.pri_reader.specs.Machine.{parenthesis_moves, minus_moves, unary_moves, behind_name_moves, argument_moves, pair_moves, part_bracket_moves, part_name_moves, part_close_moves, follows}
use Rattle.pri_reader.proofs.States.{Below, BehindName, AnArgument, APair, PartBracket, PartName, PartClose, Good}
use Rattle.pri_reader.proofs.Following.{begin_rel, begin_right, takes_as, follows_sound}

-- What begins: which token it was.

abbrev prefix_word : Prefix → Terminal
prefix_word p.Not = t.Not
prefix_word (p.Quantifier all) = quantifier all
prefix_word p.Part = t.Part

abbrev opening_word : Opening → Terminal
opening_word o.Minus = t.Minus
opening_word o.Number = t.Number
opening_word (o.Truth b) = truth_word b
opening_word o.Identifier = t.Identifier
opening_word o.Parenthesis = t.OpenParenthesis
opening_word o.If = t.If
opening_word o.Abs = t.Abs
opening_word (o.Pair max) = pair_word max

is_prefix : (q : Prefix) (k : Terminal) → prefix_of k ≡ Some q → k ≡ prefix_word q
is_prefix q t.Not e = let i : q ≡ p.Not = cc in ap prefix_word (sym i)
is_prefix q t.Forall e = let i : q ≡ p.Quantifier true = cc in ap prefix_word (sym i)
is_prefix q t.Exists e = let i : q ≡ p.Quantifier false = cc in ap prefix_word (sym i)
is_prefix q t.Part e = let i : q ≡ p.Part = cc in ap prefix_word (sym i)
is_prefix q _ e = absurd cc

is_opening : (q : Opening) (k : Terminal) → opening_of k ≡ Some q → k ≡ opening_word q
is_opening q t.Minus e = let i : q ≡ o.Minus = cc in ap opening_word (sym i)
is_opening q t.Number e = let i : q ≡ o.Number = cc in ap opening_word (sym i)
is_opening q t.True e = let i : q ≡ o.Truth true = cc in ap opening_word (sym i)
is_opening q t.False e = let i : q ≡ o.Truth false = cc in ap opening_word (sym i)
is_opening q t.Identifier e = let i : q ≡ o.Identifier = cc in ap opening_word (sym i)
is_opening q t.OpenParenthesis e = let i : q ≡ o.Parenthesis = cc in ap opening_word (sym i)
is_opening q t.If e = let i : q ≡ o.If = cc in ap opening_word (sym i)
is_opening q t.Abs e = let i : q ≡ o.Abs = cc in ap opening_word (sym i)
is_opening q t.Min e = let i : q ≡ o.Pair false = cc in ap opening_word (sym i)
is_opening q t.Max e = let i : q ≡ o.Pair true = cc in ap opening_word (sym i)
is_opening q _ e = absurd cc

pub open_sound : (s : Setting) (start : List Lexeme) (n : ℕ) (frames : List Frame) (k : Terminal) {x : Lexeme} {tokens inner : List Lexeme}
    → Takes k x tokens inner → Below s start frames parenthesized n tokens → Good s start (parenthesis_moves k n frames) inner
open_sound s start n frames t.OpenParenthesis {x = x} {tokens = tokens} {inner = inner} e fits = λ l.
    begin_right s start equivalence (suc n) (parenthesis_of ∷ frames) inner (record {
      depth = n;
      outer = tokens;
      closes = λ f c close rest u v. parentheses e l u v;
      outside = fits;
    })
open_sound s start n frames _ e fits = tt

pub minus_sound : (s : Setting) (start : List Lexeme) (n : ℕ) (frames : List Frame) {x : Lexeme} {tokens inner : List Lexeme} → Takes x.terminal x tokens inner
    → Below s start frames factor n tokens → (q : Option Opening) → opening_of x.terminal ≡ q → Good s start (minus_moves s x q n frames) inner
minus_sound s start n frames e fits None q = tt
minus_sound s start n frames {x = x} {tokens = tokens} {inner = inner} e fits (Some o.Minus) q = λ l. record {
  new = factor;
  depth = n;
  outer = tokens;
  wraps = λ f rest u. factor_minus (takes_as e (is_opening o.Minus x.terminal q)) l u;
  outside = fits;
}
minus_sound s start n frames {x = x} {tokens = tokens} {inner = inner} e fits (Some o.Number) q = λ l. record {
  part = factor;
  depth = n;
  outer = tokens;
  derived = factor_primary (number (takes_as e (is_opening o.Number x.terminal q)) l);
  fits = fits;
}
minus_sound s start n frames {x = x} {tokens = tokens} {inner = inner} e fits (Some (o.Truth b)) q = record {
  part = factor;
  depth = n;
  outer = tokens;
  derived = factor_primary (truth (takes_as e (is_opening (o.Truth b) x.terminal q)));
  fits = fits;
}
minus_sound s start n frames {x = x} {tokens = tokens} {inner = inner} e fits (Some o.Identifier) q = record {
  outer = tokens;
  x = x;
  takes = takes_as e (is_opening o.Identifier x.terminal q);
  name_is = refl;
  fits = fits;
}
minus_sound s start n frames {x = x} {tokens = tokens} {inner = inner} e fits (Some o.Parenthesis) q =
    let a = takes_as e (is_opening o.Parenthesis x.terminal q) in λ l.
    begin_right s start equivalence (suc n) (parenthesis_of ∷ wrap (grouped_at x.at) ∷ frames) inner (record {
      depth = n;
      outer = tokens;
      closes = λ f c close rest u v. parentheses a l u v;
      outside = record { new = factor; depth = n; outer = tokens; wraps = λ f rest u. factor_primary (group a u); outside = fits };
    })
minus_sound s start n frames {x = x} {tokens = tokens} {inner = inner} e fits (Some o.If) q = record {
  depth = n;
  outer = tokens;
  closes = λ c f g y z mid yes last no rest u v w r i. factor_primary (conditional (takes_as e (is_opening o.If x.terminal q)) u v w r i);
  outside = fits;
}
minus_sound s start n frames {x = x} {tokens = tokens} {inner = inner} e fits (Some o.Abs) q = record {
  new = factor;
  depth = n;
  outer = tokens;
  wraps = λ f rest u. factor_primary (absolute (takes_as e (is_opening o.Abs x.terminal q)) u);
  outside = fits;
}
minus_sound s start n frames {x = x} {tokens = tokens} {inner = inner} e fits (Some (o.Pair max)) q = record {
  outer = tokens;
  closes = λ f g a i c first comma second close rest u l v w r y. factor_primary (pair max (takes_as e (is_opening (o.Pair max) x.terminal q)) u l v w r y);
  fits = fits;
}

pub unary_sound : (s : Setting) (start : List Lexeme) (n : ℕ) (frames : List Frame) {x : Lexeme} {tokens inner : List Lexeme} → Takes x.terminal x tokens inner
    → Below s start frames unary n tokens → (q : Option Prefix) → prefix_of x.terminal ≡ q → Good s start (unary_moves s x q (opening_of x.terminal) n frames) inner
unary_sound s start n frames {x = x} {tokens = tokens} e fits (Some p.Not) q = λ l. record {
  new = unary;
  depth = n;
  outer = tokens;
  wraps = λ f rest u. unary_not (takes_as e (is_prefix p.Not x.terminal q)) l u;
  outside = fits;
}
unary_sound s start n frames {x = x} {tokens = tokens} e fits (Some (p.Quantifier all)) q = record {
  outer = tokens;
  x = x;
  takes = takes_as e (is_prefix (p.Quantifier all) x.terminal q);
  at_is = refl;
  fits = fits;
}
unary_sound s start n frames {x = x} {tokens = tokens} e fits (Some p.Part) q = λ l. record {
  depth = n;
  outer = tokens;
  closes = λ f a i c inner close body rest u v w r. unary_part (takes_as e (is_prefix p.Part x.terminal q)) l u v w r;
  fits = fits;
}
unary_sound s start n frames {x = x} {tokens = tokens} e fits None q =
    minus_sound s start n (under_rel n frames) e
    (begin_rel s start n frames tokens fits)
    (opening_of x.terminal) refl

argument_as : (s : Setting) (x : Lexeme) (k : Terminal) (name : Name) (n : ℕ) (frames : List Frame)
    → (k ≡ t.CloseParenthesis) ⊎ (argument_moves s x k name n frames ≡ unary_moves s x (prefix_of k) (opening_of k) n (under_right equivalence n (arguments_of name n [] ∷ frames)))
argument_as s x t.CloseParenthesis name n frames = inl refl
argument_as s x _ name n frames = inr refl

pub argument_sound : (s : Setting) (start : List Lexeme) (name : Name) (n : ℕ) (frames : List Frame) {x : Lexeme} {tokens inner : List Lexeme}
    → Takes x.terminal x tokens inner → AnArgument s name n tokens (Below s start frames) → Good s start (argument_moves s x x.terminal name n frames) inner
argument_sound s start name n frames {x = x} {tokens = tokens} {inner = inner} e a = elim (argument_as s x x.terminal name n frames) [
  | inl q ↦ (let r : Good s start (argument_moves s x t.CloseParenthesis name n frames) inner = record {
    part = factor;
    depth = a.depth;
    outer = a.outer;
    derived = a.empty x inner (takes_as e q);
    fits = a.fits;
  } in
      subst (λ k. Good s start (argument_moves s x k name n frames) inner) (sym q) r)
  | inr q ↦ subst (λ m. Good s start m inner) (sym q)
      (unary_sound s start n (under_right equivalence n (arguments_of name n [] ∷ frames)) e
      (begin_right s start equivalence n (arguments_of name n [] ∷ frames) tokens (record {
        depth = a.depth;
        outer = a.outer;
        list = tokens;
        joins = λ f rest u. argument_first u;
        closes = a.full;
        outside = a.fits;
      }))
      (prefix_of x.terminal) refl)
]

name_as : (at : ℕ) (k : Terminal) (name : Name) (n : ℕ) (frames : List Frame)
    → (k ≡ t.OpenParenthesis) ⊎ (behind_name_moves k at name n frames ≡ follows at k (applied name []) frames)
name_as at t.OpenParenthesis name n frames = inl refl
name_as at _ name n frames = inr refl

bare_use : (s : Setting) {name : Name} {n : ℕ} {x : Lexeme} {outer tokens : List Lexeme} → Takes t.Identifier x outer tokens → name ≡ name_of s x
    → Derives s n factor (applied name []) outer tokens
bare_use s {n = n} {outer = outer} {tokens = tokens} e q = subst (λ z. Derives s n factor (applied z []) outer tokens) (sym q) (factor_primary (use_bare e))

pub name_sound : (s : Setting) (start : List Lexeme) (name : Name) (n : ℕ) (frames : List Frame) {x : Lexeme} {tokens inner : List Lexeme}
    → Takes x.terminal x tokens inner → BehindName s name n tokens (Below s start frames) → Good s start (behind_name_moves x.terminal x.at name n frames) inner
name_sound s start name n frames {x = x} {tokens = tokens} {inner = inner} e a = elim (name_as x.at x.terminal name n frames) [
  | inl q ↦ (let o : Takes t.OpenParenthesis x tokens inner = takes_as e q in
      let r : Good s start (behind_name_moves t.OpenParenthesis x.at name n frames) inner = λ l. record {
        depth = n;
        outer = a.outer;
        empty = λ c rest u. subst (λ z. Derives s n factor (applied z []) a.outer rest) (sym a.name_is) (factor_primary (use_empty a.takes o l u));
        full = λ fs f c close rest m u. subst (λ z. Derives s n factor (applied z (fs ++ f ∷ [])) a.outer rest) (sym a.name_is) (factor_primary (use_applied a.takes o l m u));
        fits = a.fits;
      } in
      subst (λ k. Good s start (behind_name_moves k x.at name n frames) inner) (sym q) r)
  | inr q ↦ subst (λ m. Good s start m inner) (sym q)
      (follows_sound s start frames (applied name []) factor n x a.outer tokens inner e (bare_use s a.takes a.name_is) a.fits)
]

pub pair_begins_sound : (s : Setting) (start : List Lexeme) (max : Bool) (at n : ℕ) (frames : List Frame) (k : Terminal) {x : Lexeme} {tokens inner : List Lexeme}
    → Takes k x tokens inner → APair s max at n tokens (Below s start frames) → Good s start (pair_moves k max at n frames) inner
pair_begins_sound s start max at n frames t.OpenParenthesis {x = x} {inner = inner} e a = λ l.
    begin_right s start equivalence (suc n) (pair_left max at (suc n) ∷ frames) inner (record {
      depth = n;
      outer = a.outer;
      closes = λ f g i c comma second close rest u v w y. a.closes f g x i c inner comma second close rest e l u v w y;
      outside = a.fits;
    })
pair_begins_sound s start max at n frames _ e a = tt

pub bracket_sound : (s : Setting) (start : List Lexeme) (at n : ℕ) (frames : List Frame) (k : Terminal) {x : Lexeme} {tokens inner : List Lexeme}
    → Takes k x tokens inner → PartBracket s at n tokens (Below s start frames) → Good s start (part_bracket_moves k at n frames) inner
bracket_sound s start at n frames t.OpenBracket {x = x} {inner = inner} e a = record {
  depth = a.depth;
  outer = a.outer;
  closes = λ f i c close body rest u v w. a.closes f x i c inner close body rest e u v w;
  fits = a.fits;
}
bracket_sound s start at n frames _ e a = tt

pub part_name_sound : (s : Setting) (start : List Lexeme) (at n : ℕ) (frames : List Frame) (k : Terminal) {x : Lexeme} {tokens inner : List Lexeme}
    → Takes k x tokens inner → PartName s at n tokens (Below s start frames) → Good s start (part_name_moves s x k at n frames) inner
part_name_sound s start at n frames t.Identifier {x = x} {inner = inner} e a = record {
  depth = a.depth;
  outer = a.outer;
  closes = λ f c body rest u v. a.closes f x c inner body rest e u v;
  fits = a.fits;
}
part_name_sound s start at n frames _ e a = tt

pub part_close_sound : (s : Setting) (start : List Lexeme) (at : ℕ) (name : Name) (n : ℕ) (frames : List Frame) (k : Terminal) {x : Lexeme} {tokens inner : List Lexeme}
    → Takes k x tokens inner → PartClose s at name n tokens (Below s start frames) → Good s start (part_close_moves k at name n frames) inner
part_close_sound s start at name n frames t.CloseBracket {x = x} {inner = inner} e a = record {
  new = unary;
  depth = a.depth;
  outer = a.outer;
  wraps = λ f rest u. a.closes f x inner rest e u;
  outside = a.fits;
}
part_close_sound s start at name n frames _ e a = tt
