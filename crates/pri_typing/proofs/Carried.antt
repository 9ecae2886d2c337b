-- What is derived of tokens is derived wherever the same tokens have the same bytes.
use Rattle.std.proofs.Common.{◌≡◌, ℕ, ℤ, suc, pos, neg_ℤ, true, List, [], ◌∷◌, ◌++◌, refl, sym, ap, subst, ◌∙◌, append_assoc, append-nil}
use Rattle.std.specs.List.{AllByRecursion}
use Rattle.std.proofs.lemmas.List.{append_cancel_right}
use Rattle.pri_tokens.specs.declared.terminals.Terminal.{Terminal}
use Rattle.pri_tokens.specs.declared.terminals.Lexeme.{Lexeme}
use Rattle.pri_tokens.specs.Bytes.{text_of}
use Rattle.base_numerals.specs.Numerals.{decimal_value}
use Rattle.pri_reader.specs.declared.tree.Expr.{Expr}
use Rattle.pri_reader.specs.declared.tree.Form.TheVariants as form
use Rattle.pri_reader.specs.declared.tree.Added.{Added}
use Rattle.pri_reader.specs.declared.tree.TypeName.{TypeName}
use Rattle.pri_reader.specs.declared.tree.Declared.{Declared}
use Rattle.pri_reader.specs.Grammar as grammar
use Rattle.pri_reader.specs.Grammar.{Setting, Chain, Part, expr, name_of, value_of, of_type, Takes, Endpoint, IsType, Binding, Derives, Members, Terms, Arguments, whole}
use Rattle.pri_tokens.specs.Lexemes.{lexemes_of}
use Rattle.pri_typing.specs.Problems.{text_setting}
use Rattle.pri_typing.proofs.Identified.{split}

-- the tokens have the same bytes in both settings
abbrev pub AreSame : Setting → Setting → List Lexeme → Type 0
AreSame s t = AllByRecursion (λ x. text_of t.bytes x ≡ text_of s.bytes x)

-- the limits of t allow what those of s do, whatever is after
pub record IsLooser (s t : Setting) : Type 0 where
  pub small : (rest more : List Lexeme) (n : ℕ) → s.small rest n ≡ true → t.small more n ≡ true
  pub shallow : (rest more : List Lexeme) (n : ℕ) → s.shallow rest n ≡ true → t.shallow more n ≡ true

-- what is derived of the tokens before the rest is derived of them in the other setting, before any others
pub record Carried (s t : Setting) (D : List Lexeme → List Lexeme → Type 0) (tokens rest : List Lexeme) : Type 0 where
  pub front : List Lexeme
  pub parts : tokens ≡ front ++ rest
  pub derived : (more : List Lexeme) → AreSame s t front → D (front ++ more) more

turn : {s t : Setting} {D E : List Lexeme → List Lexeme → Type 0} {tokens rest : List Lexeme} → ((xs ys : List Lexeme) → D xs ys → E xs ys) → Carried s t D tokens rest → Carried s t E tokens rest
turn f c = record { front = c.front; parts = c.parts; derived = λ more k. f (c.front ++ more) more (c.derived more k) }

-- one after the other
abbrev Behind : (List Lexeme → List Lexeme → Type 0) → (List Lexeme → List Lexeme → Type 0) → List Lexeme → List Lexeme → Type 0
Behind D E xs ys = (m : List Lexeme) × D xs m × E m ys

then : {s t : Setting} {D E : List Lexeme → List Lexeme → Type 0} {tokens mid rest : List Lexeme} → Carried s t D tokens mid → Carried s t E mid rest → Carried s t (Behind D E) tokens rest
then {s} {t} {D} {E} {rest = rest} c d = record {
  front = c.front ++ d.front;
  parts = c.parts ∙ ap (λ z. c.front ++ z) d.parts ∙ sym (append_assoc c.front d.front rest);
  derived = λ more k.
      let both = split (λ x. text_of t.bytes x ≡ text_of s.bytes x) c.front d.front k in
      (d.front ++ more, subst (λ z. D z (d.front ++ more)) (sym (append_assoc c.front d.front more)) (c.derived (d.front ++ more) both.0), d.derived more both.1);
}

-- a token, with its bytes
abbrev Taken : Setting → Setting → Terminal → Lexeme → List Lexeme → List Lexeme → Type 0
Taken s t terminal x xs ys = Takes terminal x xs ys × (text_of t.bytes x ≡ text_of s.bytes x)

take : (s t : Setting) {terminal : Terminal} {x : Lexeme} {tokens rest : List Lexeme} → Takes terminal x tokens rest → Carried s t (Taken s t terminal x) tokens rest
take s t {x = x} h = record { front = x ∷ []; parts = h.parts; derived = λ more k. (record { parts = refl; is = h.is }, k.0) }

name_same : (s t : Setting) (x : Lexeme) → text_of t.bytes x ≡ text_of s.bytes x → name_of t x ≡ name_of s x
name_same s t x e = ap (λ z. record { at = x.at; text = z }) e

one_head : {tokens xs ys : List Lexeme} {x y : Lexeme} → tokens ≡ x ∷ xs → tokens ≡ y ∷ ys → x ≡ y
one_head e f = cc

module _ (s t : Setting) (loose : IsLooser s t) where
  still_small : (x : Lexeme) (rest more : List Lexeme) → text_of t.bytes x ≡ text_of s.bytes x → s.small rest (value_of s x) ≡ true → t.small more (value_of t x) ≡ true
  still_small x rest more e h = subst (λ z. t.small more (decimal_value z) ≡ true) (sym e) (loose.small rest more (value_of s x) h)

  endpoint : {value : ℤ} {tokens rest : List Lexeme} → Endpoint s value tokens rest → Carried s t (Endpoint t value) tokens rest
  endpoint (grammar.endpoint_plain {x = x} n) =
      turn (λ xs ys h. subst (λ z. Endpoint t (pos (decimal_value z)) xs ys) h.1 (grammar.endpoint_plain (record { takes = h.0; small = still_small x _ ys h.1 n.small }))) (take s t n.takes)
  endpoint (grammar.endpoint_minus {x = x} m n) =
      turn (λ xs ys h. subst (λ z. Endpoint t (neg_ℤ (pos (decimal_value z))) xs ys) h.2.1 (grammar.endpoint_minus h.1.0 (record { takes = h.2.0; small = still_small x _ ys h.2.1 n.small })))
      (then (take s t m) (take s t n.takes))

  type : {sort : TypeName} {tokens rest : List Lexeme} → IsType s sort tokens rest → Carried s t (IsType t sort) tokens rest
  type (grammar.type_nat x) = turn (λ xs ys h. grammar.type_nat h.0) (take s t x)
  type (grammar.type_int x) = turn (λ xs ys h. grammar.type_int h.0) (take s t x)
  type (grammar.type_range x o l c u r) =
      turn (λ xs ys h. grammar.type_range h.1.0 h.2.1.0 h.2.2.1 h.2.2.2.1.0 h.2.2.2.2.1 h.2.2.2.2.2.0)
      (then (take s t x) (then (take s t o) (then (endpoint l) (then (take s t c) (then (endpoint u) (take s t r))))))

  binding : {several : _} {sort : TypeName} {d e : ℕ} {names : List Declared} {tokens rest : List Lexeme} → Binding s several sort d e names tokens rest
      → Carried s t (Binding t several sort d e names) tokens rest
  binding {several} {sort} {d} (grammar.bound_first {x = x} i n o) =
      turn (λ xs ys h. subst (λ z. Binding t several sort d (suc d) (of_type sort z ∷ []) xs ys) (name_same s t x h.2.1) (grammar.bound_first h.1 h.2.0 (loose.shallow _ ys d o)))
      (then (type i) (take s t n))
  binding {several} {sort} {d} (grammar.bound_next {e = e} {names = names} {x = x} m c n o) =
      turn (λ xs ys h. subst (λ z. Binding t several sort d (suc e) (names ++ of_type sort z ∷ []) xs ys) (name_same s t x h.2.2.1) (grammar.bound_next h.1 h.2.1.0 h.2.2.0 (loose.shallow _ ys e o)))
      (then (binding m) (then (take s t c) (take s t n)))
  binding {several} {sort} {d} (grammar.bound_line {e = e} {names = names} {x = x} m c i n o) =
      turn (λ xs ys h. subst (λ z. Binding t several sort d (suc e) (names ++ of_type sort z ∷ []) xs ys) (name_same s t x h.2.2.2.1) (grammar.bound_line h.1 h.2.1.0 h.2.2.1 h.2.2.2.0 (loose.shallow _ ys e o)))
      (then (binding m) (then (take s t c) (then (type i) (take s t n))))

  mutual
    pub carry : {d : ℕ} {part : Part} {e : Expr} {tokens rest : List Lexeme} → Derives s d part e tokens rest → Carried s t (Derives t d part e) tokens rest
    carry (grammar.right_one u) = turn (λ xs ys h. grammar.right_one h) (carry u)
    carry {d} (grammar.right_two u x o v) = turn (λ xs ys h. grammar.right_two h.1 h.2.1.0 (loose.shallow _ h.2.0 d o) h.2.2) (then (carry u) (then (take s t x) (carry v)))
    carry (grammar.chain_all m) = turn (λ xs ys h. grammar.chain_all h) (members m)
    carry {d} (grammar.unary_not x o u) = turn (λ xs ys h. grammar.unary_not h.1.0 (loose.shallow _ h.0 d o) h.2) (then (take s t x) (carry u))
    carry (grammar.unary_bound x m c u) =
        turn (λ xs ys h. grammar.unary_bound h.1.0 h.2.1 h.2.2.1.0 h.2.2.2) (then (take s t x) (then (binding m) (then (take s t c) (carry u))))
    carry (grammar.unary_grouped x o m c u) =
        turn (λ xs ys h. grammar.unary_grouped h.1.0 h.2.1.0 h.2.2.1 h.2.2.2.1.0 h.2.2.2.2) (then (take s t x) (then (take s t o) (then (binding m) (then (take s t c) (carry u)))))
    carry {d} (grammar.unary_part {f = f} {x = x} {n = n} p o b m c u) =
        turn (λ xs ys h. subst (λ z. Derives t d grammar.unary (expr x.at (form.Part z f)) xs ys) (name_same s t n h.2.2.1.1)
        (grammar.unary_part h.1.0 (loose.shallow _ h.0 d o) h.2.1.0 h.2.2.1.0 h.2.2.2.1.0 h.2.2.2.2))
        (then (take s t p) (then (take s t b) (then (take s t m) (then (take s t c) (carry u)))))
    carry (grammar.unary_rel u) = turn (λ xs ys h. grammar.unary_rel h) (carry u)
    carry (grammar.rel_one u) = turn (λ xs ys h. grammar.rel_one h) (carry u)
    carry (grammar.rel_two u x v) = turn (λ xs ys h. grammar.rel_two h.1 h.2.1.0 h.2.2) (then (carry u) (then (take s t x) (carry v)))
    carry (grammar.sum_all m) = turn (λ xs ys h. grammar.sum_all h) (terms m)
    carry {d} (grammar.factor_minus x o u) = turn (λ xs ys h. grammar.factor_minus h.1.0 (loose.shallow _ h.0 d o) h.2) (then (take s t x) (carry u))
    carry (grammar.factor_primary u) = turn (λ xs ys h. grammar.factor_primary h) (carry u)
    carry {d} (grammar.number {x = x} n small) =
        turn (λ xs ys h. subst (λ z. Derives t d grammar.primary (expr x.at (form.Number (pos (decimal_value z)))) xs ys) h.1 (grammar.number h.0 (still_small x _ ys h.1 small))) (take s t n)
    carry (grammar.truth x) = turn (λ xs ys h. grammar.truth h.0) (take s t x)
    carry {d} (grammar.use_bare {x = x} n) =
        turn (λ xs ys h. subst (λ z. Derives t d grammar.primary (expr x.at (form.Use z [])) xs ys) (name_same s t x h.1) (grammar.use_bare h.0)) (take s t n)
    carry {d} (grammar.use_empty {x = x} n o b c) =
        turn (λ xs ys h. subst (λ z. Derives t d grammar.primary (expr x.at (form.Use z [])) xs ys) (name_same s t x h.1.1) (grammar.use_empty h.1.0 h.2.1.0 (loose.shallow _ h.2.0 d b) h.2.2.0))
        (then (take s t n) (then (take s t o) (take s t c)))
    carry {d} (grammar.use_applied {fs = fs} {f = f} {x = x} n o b m c) =
        turn (λ xs ys h. subst (λ z. Derives t d grammar.primary (expr x.at (form.Use z (fs ++ f ∷ []))) xs ys) (name_same s t x h.1.1)
        (grammar.use_applied h.1.0 h.2.1.0 (loose.shallow _ h.2.0 d b) h.2.2.1 h.2.2.2.0))
        (then (take s t n) (then (take s t o) (then (arguments m) (take s t c))))
    carry {d} (grammar.group {f = f} y (grammar.parentheses p b u c)) =
        turn (λ xs ys h. subst (λ z. Derives t d grammar.primary (expr z.at (form.Group f)) xs ys) (one_head p.parts y.parts)
        (grammar.group h.1.0 (grammar.parentheses h.1.0 (loose.shallow _ h.0 d b) h.2.1 h.2.2.0)))
        (then (take s t p) (then (carry u) (take s t c)))
    carry (grammar.conditional x u y v z w) =
        turn (λ xs ys h. grammar.conditional h.1.0 h.2.1 h.2.2.1.0 h.2.2.2.1 h.2.2.2.2.1.0 h.2.2.2.2.2)
        (then (take s t x) (then (carry u) (then (take s t y) (then (carry v) (then (take s t z) (carry w))))))
    carry (grammar.absolute x u) = turn (λ xs ys h. grammar.absolute h.1.0 h.2) (then (take s t x) (carry u))
    carry {d} (grammar.pair max x o b u c v e) =
        turn (λ xs ys h. grammar.pair max h.1.0 h.2.1.0 (loose.shallow _ h.2.0 d b) h.2.2.1 h.2.2.2.1.0 h.2.2.2.2.1 h.2.2.2.2.2.0)
        (then (take s t x) (then (take s t o) (then (carry u) (then (take s t c) (then (carry v) (take s t e))))))
    carry {d} (grammar.parentheses o b u c) =
        turn (λ xs ys h. grammar.parentheses h.1.0 (loose.shallow _ h.0 d b) h.2.1 h.2.2.0) (then (take s t o) (then (carry u) (take s t c)))

    members : {d : ℕ} {c : Chain} {fs : List Expr} {f : Expr} {tokens rest : List Lexeme} → Members s d c fs f tokens rest → Carried s t (Members t d c fs f) tokens rest
    members (grammar.member_first u) = turn (λ xs ys h. grammar.member_first h) (carry u)
    members (grammar.member_next m x u) = turn (λ xs ys h. grammar.member_next h.1 h.2.1.0 h.2.2) (then (members m) (then (take s t x) (carry u)))

    terms : {d : ℕ} {before : List Added} {sign : _} {f : Expr} {tokens rest : List Lexeme} → Terms s d before sign f tokens rest → Carried s t (Terms t d before sign f) tokens rest
    terms (grammar.term_first u) = turn (λ xs ys h. grammar.term_first h) (carry u)
    terms (grammar.term_next m x u) = turn (λ xs ys h. grammar.term_next h.1 h.2.1.0 h.2.2) (then (terms m) (then (take s t x) (carry u)))

    arguments : {d : ℕ} {fs : List Expr} {f : Expr} {tokens rest : List Lexeme} → Arguments s d fs f tokens rest → Carried s t (Arguments t d fs f) tokens rest
    arguments (grammar.argument_first u) = turn (λ xs ys h. grammar.argument_first h) (carry u)
    arguments (grammar.argument_next m x u) = turn (λ xs ys h. grammar.argument_next h.1 h.2.1.0 h.2.2) (then (arguments m) (then (take s t x) (carry u)))

text_looser : (s : Setting) (text : List ℕ) → IsLooser s (text_setting text)
text_looser s text = record { small = λ rest more n h. refl; shallow = λ rest more n h. refl }

-- a text whose tokens are those of which an expression is derived, with the same bytes, is derived as that expression
pub text_derived : (s : Setting) (text : List ℕ) (e : Expr) (between rest : List Lexeme) → Derives s 0 whole e (between ++ rest) rest → lexemes_of text ≡ between
    → AreSame s (text_setting text) between → Derives (text_setting text) 0 whole e (lexemes_of text) []
text_derived s text e between rest d is same =
    let c = carry s (text_setting text) (text_looser s text) d in
    let front : c.front ≡ between = append_cancel_right c.front between rest (sym c.parts) in
    subst (λ z. Derives (text_setting text) 0 whole e z []) (append-nil c.front ∙ front ∙ sym is) (c.derived [] (subst (AreSame s (text_setting text)) (sym front) same))
