-- What a token of a type, or of a binder, does keeps what the machine's state says.
use Rattle.std.proofs.Common.{ℕ, ℤ, neg_ℤ, pos, ◌≡◌, Bool, true, false, List, [], refl, sym, subst, inl, inr, ◌⊎◌}
use Rattle.pri_tokens.specs.declared.terminals.Terminal.{Terminal}
use Rattle.pri_tokens.specs.declared.terminals.Terminal.TheVariants as t
use Rattle.pri_tokens.specs.declared.terminals.Lexeme.{Lexeme}
use Rattle.pri_reader.specs.declared.tree.Form.TheVariants as form
use Rattle.pri_reader.specs.declared.tree.TypeName.{TypeName}
use Rattle.pri_reader.specs.declared.tree.TypeName.TheVariants as type
use Rattle.pri_reader.specs.declared.tree.Declared.{Declared}
use Rattle.pri_reader.specs.declared.tree.Block.{Block}
use Rattle.pri_reader.specs.Grammar.{unary, expr, Setting, value_of, Takes, names_first, endpoint_plain, endpoint_minus, type_nat, type_int, type_range, bound_first, bound_next, bound_line, Derives, unary_bound, unary_grouped}
use Rattle.pri_reader.specs.MachineStates.{Frame, TypeFor, for_line, for_binder, Side, lower, upper, behind_type}
use Rattle.pri_reader.specs.Machine.{type_moves, behind_type_moves, int_word_moves, endpoint_moves, endpoint_number_moves, behind_endpoint_moves, binder_moves, bound_moves, bound_more_moves, line_moves}
use Rattle.pri_reader.proofs.States.{Below, Binder, ABinder, ABound, BoundMore, ALine, BehindType, AType, BehindIntWord, AnEndpoint, AnEndpointNumber, BehindEndpoint, IsOpen, Good}
use Rattle.pri_reader.proofs.Following.{takes_as}
use Rattle.pri_reader.proofs.BlockMoves.{a_name_sound}

-- Bound names.

pub bound_sound : (s : Setting) (start : List Lexeme) (at : ℕ) (all several : Bool) (sort : TypeName) (n : ℕ) (names : List Declared) (frames : List Frame) (k : Terminal) {x : Lexeme} {tokens inner : List Lexeme}
    → Takes k x tokens inner → ABound s at all several sort n names tokens (Below s start frames) → Good s start (bound_moves s x k at all several sort n names frames) inner
bound_sound s start at all several sort n names frames t.Identifier {x = x} {inner = inner} e a = λ l. record {
  list = a.list;
  binder = a.binder;
  bound = a.more x inner e l;
}
bound_sound s start at all several sort n names frames _ e a = tt

-- Types.

names_open : (s : Setting) (start : List Lexeme) (for : TypeFor) (sort : TypeName) (frames : List Frame) (tokens : List Lexeme) → BehindType s start for sort frames tokens
    → IsOpen s start (behind_type for sort) frames tokens
names_open s start (for_line universal at names blocks) sort frames tokens a = a
names_open s start (for_binder at all several n names) sort frames tokens a = a

pub type_sound : (s : Setting) (start : List Lexeme) (for : TypeFor) (frames : List Frame) (k : Terminal) {x : Lexeme} {tokens inner : List Lexeme}
    → Takes k x tokens inner → AType s start for frames tokens → Good s start (type_moves k for frames) inner
type_sound s start for frames t.Nat {inner = inner} e a = names_open s start for type.Nat frames inner (a.done type.Nat inner (type_nat e))
type_sound s start for frames t.Int {x = x} {tokens = tokens} e a = record { outer = tokens; x = x; takes = e; done = a.done }
type_sound s start for frames _ e a = tt

names_sound : (s : Setting) (start : List Lexeme) (for : TypeFor) (sort : TypeName) (frames : List Frame) {x : Lexeme} {tokens inner : List Lexeme}
    → Takes x.terminal x tokens inner → BehindType s start for sort frames tokens → Good s start (behind_type_moves s x x.terminal for sort frames) inner
names_sound s start (for_line universal at names blocks) sort frames {x = x} e a = a_name_sound s start _ [] x.terminal e a
names_sound s start (for_binder at all several n names) sort frames {x = x} e a = bound_sound s start at all several sort n names frames x.terminal e a

word_as : (s : Setting) (x : Lexeme) (k : Terminal) (for : TypeFor) (frames : List Frame)
    → (k ≡ t.OpenBracket) ⊎ (int_word_moves s x k for frames ≡ behind_type_moves s x k for type.Int frames)
word_as s x t.OpenBracket for frames = inl refl
word_as s x _ for frames = inr refl

pub int_word_sound : (s : Setting) (start : List Lexeme) (for : TypeFor) (frames : List Frame) {x : Lexeme} {tokens inner : List Lexeme}
    → Takes x.terminal x tokens inner → BehindIntWord s start for frames tokens → Good s start (int_word_moves s x x.terminal for frames) inner
int_word_sound s start for frames {x = x} {tokens = tokens} {inner = inner} e a = elim (word_as s x x.terminal for frames) [
  | inl q ↦ (let o : Takes t.OpenBracket x tokens inner = takes_as e q in
      let r : Good s start (int_word_moves s x t.OpenBracket for frames) inner = record {
        done = λ value behind u most c d mid close rest v w y. a.done (type.Range value most) rest (type_range a.takes o u v w y);
      } in
      subst (λ k. Good s start (int_word_moves s x k for frames) inner) (sym q) r)
  | inr q ↦ subst (λ m. Good s start m inner) (sym q) (names_sound s start for type.Int frames e (a.done type.Int tokens (type_int a.takes)))
]

pub endpoint_sound : (s : Setting) (start : List Lexeme) (for : TypeFor) (side : Side) (frames : List Frame) (k : Terminal) {x : Lexeme} {tokens inner : List Lexeme}
    → Takes k x tokens inner → AnEndpoint s start for side frames tokens → Good s start (endpoint_moves s x k for side frames) inner
endpoint_sound s start for side frames t.Minus {x = x} e a = record { done = λ y behind n. a.done (neg_ℤ (pos (value_of s y))) behind (endpoint_minus e n) }
endpoint_sound s start for side frames t.Number {x = x} {inner = inner} e a = λ l. a.done (pos (value_of s x)) inner (endpoint_plain (record { takes = e; small = l }))
endpoint_sound s start for side frames _ e a = tt

pub endpoint_number_sound : (s : Setting) (start : List Lexeme) (for : TypeFor) (side : Side) (frames : List Frame) (k : Terminal) {x : Lexeme} {tokens inner : List Lexeme}
    → Takes k x tokens inner → AnEndpointNumber s start for side frames tokens → Good s start (endpoint_number_moves s x k for side frames) inner
endpoint_number_sound s start for side frames t.Number {x = x} {inner = inner} e a = λ l. a.done x inner (record { takes = e; small = l })
endpoint_number_sound s start for side frames _ e a = tt

pub behind_endpoint_sound : (s : Setting) (start : List Lexeme) (for : TypeFor) (side : Side) (value : ℤ) (frames : List Frame) (k : Terminal) {x : Lexeme} {tokens inner : List Lexeme}
    → Takes k x tokens inner → BehindEndpoint s start for side value frames tokens → Good s start (behind_endpoint_moves k for side value frames) inner
behind_endpoint_sound s start for lower value frames t.Comma {x = x} {inner = inner} e a = record { done = λ most behind v d rest w. a most x d inner behind rest e v w }
behind_endpoint_sound s start for (upper least) value frames t.CloseBracket {x = x} {inner = inner} e a =
    names_open s start for (type.Range least value) frames inner (a x inner e)
behind_endpoint_sound s start for side value frames _ e a = tt

-- Where a type may begin.

first_constant : (s : Setting) (start : List Lexeme) (universal : Bool) (at : ℕ) (names : List Declared) (blocks : List Block) (tokens : List Lexeme)
    → ALine s start universal at names blocks tokens → AType s start (for_line universal at names blocks) [] tokens
first_constant s start universal at names blocks tokens a = record {
  done = λ sort rest u. record {
    line = rest;
    more = λ y behind v. names_first v;
    fits = record { list = a.list; types = tokens; lines = a.lines; is_type = u; closes = a.closes };
  };
}

line_as : (k : Terminal) (universal : Bool) (at : ℕ) (names : List Declared) (blocks : List Block)
    → (k ≡ t.CloseBrace) ⊎ (line_moves k universal at names blocks ≡ type_moves k (for_line universal at names blocks) [])
line_as t.CloseBrace universal at names blocks = inl refl
line_as _ universal at names blocks = inr refl

pub line_sound : (s : Setting) (start : List Lexeme) (universal : Bool) (at : ℕ) (names : List Declared) (blocks : List Block) {x : Lexeme} {tokens inner : List Lexeme}
    → Takes x.terminal x tokens inner → ALine s start universal at names blocks tokens → Good s start (line_moves x.terminal universal at names blocks) inner
line_sound s start universal at names blocks {x = x} {tokens = tokens} {inner = inner} e a = elim (line_as x.terminal universal at names blocks) [
  | inl q ↦ (let r : Good s start (line_moves t.CloseBrace universal at names blocks) inner = a.closes names x tokens inner a.lines (takes_as e q) in
      subst (λ k. Good s start (line_moves k universal at names blocks) inner) (sym q) r)
  | inr q ↦ subst (λ m. Good s start m inner) (sym q)
      (type_sound s start (for_line universal at names blocks) [] x.terminal e (first_constant s start universal at names blocks tokens a))
]

binder_of : (s : Setting) (start : List Lexeme) (at : ℕ) (all : Bool) (n : ℕ) (frames : List Frame) {tokens : List Lexeme} → ABinder s at all n tokens (Below s start frames)
    → Binder s at all false tokens (Below s start frames)
binder_of s start at all n frames {tokens = tokens} a = record {
  depth = n;
  outer = a.outer;
  closes = λ sort e names f c end body rest b u v. subst (λ z. Derives s n unary (expr z (form.Quantified all names f)) a.outer rest) (sym a.at_is) (unary_bound a.takes b u v);
  fits = a.fits;
}

grouped_binder : (s : Setting) (start : List Lexeme) (at : ℕ) (all : Bool) (n : ℕ) (frames : List Frame) {q : Lexeme} {tokens inner : List Lexeme} → ABinder s at all n tokens (Below s start frames)
    → Takes t.OpenParenthesis q tokens inner → Binder s at all true inner (Below s start frames)
grouped_binder s start at all n frames {inner = inner} a o = record {
  depth = n;
  outer = a.outer;
  closes = λ sort e names f c end body rest b u v. subst (λ z. Derives s n unary (expr z (form.Quantified all names f)) a.outer rest) (sym a.at_is) (unary_grouped a.takes o b u v);
  fits = a.fits;
}

plain_binder : (s : Setting) (start : List Lexeme) (at : ℕ) (all : Bool) (n : ℕ) (frames : List Frame) (tokens : List Lexeme) → ABinder s at all n tokens (Below s start frames)
    → AType s start (for_binder at all false n []) frames tokens
unfolding binder_of
plain_binder s start at all n frames tokens a = record {
  done = λ sort rest u. record { list = tokens; binder = binder_of s start at all n frames a; more = λ x behind v l. bound_first u v l };
}

binder_as : (k : Terminal) (at : ℕ) (all : Bool) (n : ℕ) (frames : List Frame)
    → (k ≡ t.OpenParenthesis) ⊎ (binder_moves k at all n frames ≡ type_moves k (for_binder at all false n []) frames)
binder_as t.OpenParenthesis at all n frames = inl refl
binder_as _ at all n frames = inr refl

pub binder_sound : (s : Setting) (start : List Lexeme) (at : ℕ) (all : Bool) (n : ℕ) (frames : List Frame) {x : Lexeme} {tokens inner : List Lexeme}
    → Takes x.terminal x tokens inner → ABinder s at all n tokens (Below s start frames) → Good s start (binder_moves x.terminal at all n frames) inner
unfolding grouped_binder
binder_sound s start at all n frames {x = x} {tokens = tokens} {inner = inner} e a = elim (binder_as x.terminal at all n frames) [
  | inl q ↦ (let r : Good s start (binder_moves t.OpenParenthesis at all n frames) inner = record {
    done = λ sort rest u. record { list = inner; binder = grouped_binder s start at all n frames a (takes_as e q); more = λ y behind v l. bound_first u v l };
  } in
      subst (λ k. Good s start (binder_moves k at all n frames) inner) (sym q) r)
  | inr q ↦ subst (λ m. Good s start m inner) (sym q) (type_sound s start (for_binder at all false n []) frames x.terminal e (plain_binder s start at all n frames tokens a))
]

pub bound_more_sound : (s : Setting) (start : List Lexeme) (at : ℕ) (all several : Bool) (sort : TypeName) (n : ℕ) (names : List Declared) (frames : List Frame) (k : Terminal) {x : Lexeme} {tokens inner : List Lexeme}
    → Takes k x tokens inner → BoundMore s at all several sort n names tokens (Below s start frames) → Good s start (bound_more_moves k at all several sort n names frames) inner
bound_more_sound s start at all several sort n names frames t.Comma e a = record {
  list = a.list;
  binder = a.binder;
  more = λ y rest u l. bound_next a.bound e u l;
}
bound_more_sound s start at all false sort n names frames t.Semicolon {x = x} {tokens = tokens} {inner = inner} e a = record {
  new = unary;
  depth = a.binder.depth;
  outer = a.binder.outer;
  wraps = λ f rest u. a.binder.closes sort n names f x tokens inner rest a.bound e u;
  outside = a.binder.fits;
}
bound_more_sound s start at all true sort n names frames t.Semicolon e a = record {
  done = λ new rest u. record { list = a.list; binder = a.binder; more = λ y behind v l. bound_line a.bound e u v l };
}
bound_more_sound s start at all true sort n names frames t.CloseParenthesis {x = x} {tokens = tokens} {inner = inner} e a = record {
  new = unary;
  depth = a.binder.depth;
  outer = a.binder.outer;
  wraps = λ f rest u. a.binder.closes sort n names f x tokens inner rest a.bound e u;
  outside = a.binder.fits;
}
bound_more_sound s start at all several sort n names frames _ e a = tt
