-- How texts that are spelled are put together: one lemma for each production of the grammar.
use Rattle.std.proofs.Common.{ℕ, suc, ◌≡◌, ◌≤◌, ◌<◌, ◌^◌, Bool, true, false, not, ◌==◌, List, [], ◌∷◌, ◌++◌, length, refl, sym, ap, subst, ◌∙◌, arith, append_assoc, Some, pos}
use Rattle.std.proofs.lemmas.Bool.{false≢true}
use Rattle.pri_tokens.specs.declared.terminals.Lexeme.{Lexeme}
use Rattle.pri_tokens.specs.declared.terminals.Terminal.{Terminal}
use Rattle.pri_tokens.specs.declared.terminals.Terminal.TheVariants as t
use Rattle.pri_tokens.specs.Lexemes.{piece_of, named, first_piece_of}
use Rattle.pri_tokens.specs.Kinds.{is_name, is_number}
use Rattle.base_numerals.specs.Numerals.{decimal_value}
use Rattle.pri_tokens.specs.Spellings.{word_of}
use Rattle.pri_reader.specs.declared.tree.Expr.{Expr}
use Rattle.pri_reader.specs.declared.tree.Comparison.{Comparison}
use Rattle.pri_reader.specs.declared.tree.Form.TheVariants as form
use Rattle.pri_reader.specs.declared.tree.TypeName.TheVariants as type
use Rattle.pri_reader.specs.Grammar.{Setting, Derives, Takes, Part, right, chain, unary, rel, sum, factor, primary, whole, equivalence, implication, multiplication, disjunction, conjunction, right_one, right_two, chain_all, member_first, unary_not, unary_bound, unary_rel, rel_one, rel_two, sum_all, term_first, factor_minus, factor_primary, number, truth, use_bare, join, expr, comparison_sign, type_int, bound_first, of_type, name_of, value_of, truth_word}
use Rattle.pri_typing.specs.Phrase.{Phrase, phrase}
use Rattle.pri_typing.specs.Phrase as ph
use Rattle.pri_printer.specs.Text.{exists_text}
use Rattle.pri_printer.proofs.Writing.{Ends, tokens_at, is_parted, lexeme_at}
use Rattle.pri_printer.proofs.Spells.{Allows, Derived, Spells}
use Rattle.pri_printer.proofs.Lexing.{ends_behind, sign_lexed, name_lexed, number_lexed, command_lexed, blank_lexed, text-lexed, token_lexed}
use Rattle.pri_typing.proofs.Folds.{phrase-form, phrase-Minus, phrase-Product, phrase-Compare, phrase-Number, phrase-Use, phrase-Not, phrase-Truth, phrase-Quantified}

deeper : (s : Setting) (d n : ℕ) → Allows s d (suc n) → Allows s (suc d) n
deeper s d n a = record { numerals = a.numerals; levels = λ rest e h. a.levels rest e (omega arith) }

fewer : (s : Setting) (d n : ℕ) → Allows s d (suc n) → Allows s d n
fewer s d n a = record { numerals = a.numerals; levels = λ rest e h. a.levels rest e (omega arith) }

-- a line of the grammar with one operand
spells_up : (n : ℕ) (part up : Part) (Q : Phrase → Type 0) (text : List ℕ)
    → ((s : Setting) (d : ℕ) (f : Expr) (tokens rest : List Lexeme) → Derives s d part f tokens rest → Derives s d up f tokens rest)
    → Spells n part Q text → Spells n up Q text
spells_up n part up Q text u h = record {
  wherever = λ s d rest a e p.
      let g = h.wherever s d rest a e p in record { expression = g.expression; derived = u s d g.expression _ _ g.derived; is = g.is };
}

pub spells_as : (n : ℕ) (part : Part) (Q R : Phrase → Type 0) (text : List ℕ) → ((p : Phrase) → Q p → R p) → Spells n part Q text → Spells n part R text
spells_as n part Q R text u h = record {
  wherever = λ s d rest a e p.
      let g = h.wherever s d rest a e p in record { expression = g.expression; derived = g.derived; is = u _ g.is };
}

pub factor_spelled : (n : ℕ) (Q : Phrase → Type 0) (text : List ℕ) → Spells n primary Q text → Spells n factor Q text
factor_spelled n Q text = spells_up n primary factor Q text (λ s d f a b u. factor_primary u)

pub product_of_one : (n : ℕ) (Q : Phrase → Type 0) (text : List ℕ) → Spells n factor Q text → Spells n (right multiplication) Q text
product_of_one n Q text = spells_up n factor (right multiplication) Q text (λ s d f a b u. right_one {r = multiplication} u)

pub sum_of_one : (n : ℕ) (Q : Phrase → Type 0) (text : List ℕ) → Spells n (right multiplication) Q text → Spells n sum Q text
sum_of_one n Q text = spells_up n (right multiplication) sum Q text (λ s d f a b u. sum_all {before = []} {sign = false} (term_first u))

pub formula_of_term : (n : ℕ) (Q : Phrase → Type 0) (text : List ℕ) → Spells n sum Q text → Spells n unary Q text
formula_of_term n Q text = spells_up n sum unary Q text (λ s d f a b u. unary_rel (rel_one u))

pub unary_spelled : (n : ℕ) (Q : Phrase → Type 0) (text : List ℕ) → Spells n rel Q text → Spells n unary Q text
unary_spelled n Q text = spells_up n rel unary Q text (λ s d f a b u. unary_rel u)

pub conjunction_of_one : (n : ℕ) (Q : Phrase → Type 0) (text : List ℕ) → Spells n unary Q text → Spells n (chain conjunction) Q text
conjunction_of_one n Q text = spells_up n unary (chain conjunction) Q text (λ s d f a b u. chain_all {c = conjunction} {fs = []} (member_first u))

pub disjunction_of_one : (n : ℕ) (Q : Phrase → Type 0) (text : List ℕ) → Spells n (chain conjunction) Q text → Spells n (chain disjunction) Q text
disjunction_of_one n Q text = spells_up n (chain conjunction) (chain disjunction) Q text (λ s d f a b u. chain_all {c = disjunction} {fs = []} (member_first u))

pub whole_spelled : (n : ℕ) (Q : Phrase → Type 0) (text : List ℕ) → Spells n (chain disjunction) Q text → Spells n whole Q text
whole_spelled n Q text = spells_up n (chain disjunction) whole Q text (λ s d f a b u. right_one {r = equivalence} (right_one {r = implication} u))

-- Leaves.

-- a numeral
pub number_spelled : (n v : ℕ) (Q : Phrase → Type 0) (text : List ℕ) → ((at : ℕ) → Q (ph.number at (pos v)))
    → is_number text ≡ true → decimal_value text ≡ v → v < 2 ^ 127 → Spells n primary Q text
number_spelled n v Q text q w same h = record {
  wherever = λ s d rest a e p.
      let x = lexeme_at s.bytes (text ++ rest) (length text) t.Number in
      let value : value_of s x ≡ v = ap decimal_value (text-lexed s.bytes text rest t.Number e) ∙ same in
      let small : s.small (tokens_at s.bytes rest) (value_of s x) ≡ true = a.numerals _ _ (subst (λ z. z < 2 ^ 127) (sym value) h) in
      record {
        expression = expr x.at (form.Number (pos (value_of s x)));
        derived = number {x = x} (record { parts = number_lexed s.bytes text rest e w p; is = refl }) small;
        is = subst Q (sym (phrase-form _ ∙ phrase-Number _ _ ∙ ap (λ z. ph.number x.at (pos z)) value)) (q x.at);
      };
}

-- a name without arguments
pub name_spelled : (n : ℕ) (Q : Phrase → Type 0) (text : List ℕ) → ((at : ℕ) → Q (ph.used at (record { at = at; text = text }) ph.no_phrase))
    → is_name text ≡ true → word_of text ≡ t.Identifier → Spells n primary Q text
name_spelled n Q text q w i = record {
  wherever = λ s d rest a e p.
      let x = lexeme_at s.bytes (text ++ rest) (length text) (word_of text) in
      let same = text-lexed s.bytes text rest (word_of text) e in
      record {
        expression = expr x.at (form.Use (name_of s x) []);
        derived = use_bare {x = x} (record { parts = name_lexed s.bytes text rest e w p; is = i });
        is = subst Q (sym (phrase-form _ ∙ phrase-Use _ _ _ ∙ ap (λ z. ph.used x.at (record { at = x.at; text = z }) ph.no_phrase) same)) (q x.at);
      };
}

-- Signs.

-- the text begins with a byte that passes
abbrev pub heads : (ℕ → Bool) → List ℕ → Bool
heads q [] = false
heads q (b ∷ bs) = q b

-- a text between two others that is one token, and lets a word before it end
pub record IsSign (terminal : Terminal) (sign : List ℕ) : Type 0 where
  pub parted : (more : List ℕ) → is_parted (sign ++ more) ≡ true
  pub lexed : (bytes more : List ℕ) → Ends bytes (sign ++ more) → (x : Lexeme) × Takes terminal x (tokens_at bytes (sign ++ more)) (tokens_at bytes more)

-- a sign between blanks
pub spaced : (terminal : Terminal) (word : List ℕ) → 1 ≤ length word
    → ((more : List ℕ) → first_piece_of (word ++ (32 ∷ more)) ≡ Some (named (length word) terminal))
    → IsSign terminal (32 ∷ (word ++ (32 ∷ [])))
spaced terminal word h u = record {
  parted = λ more. refl;
  lexed = λ bytes more e.
      let q = append_assoc word (32 ∷ []) more in
      let e1 = subst (λ z. Ends bytes (32 ∷ z)) q e in
      let e2 = ends_behind bytes (32 ∷ []) (word ++ (32 ∷ more)) e1 in
      let e3 = ends_behind bytes word (32 ∷ more) e2 in (
        lexeme_at bytes (word ++ (32 ∷ more)) (length word) terminal,
        record {
          parts = ap (λ z. tokens_at bytes (32 ∷ z)) q ∙ blank_lexed bytes (word ++ (32 ∷ more)) e1
              ∙ token_lexed bytes word (32 ∷ more) terminal e2 h (u more)
              ∙ ap (λ z. lexeme_at bytes (word ++ (32 ∷ more)) (length word) terminal ∷ z) (blank_lexed bytes more e3);
          is = refl;
        },
      );
}

pub plus_sign : IsSign t.Plus (32 ∷ 43 ∷ 32 ∷ [])
plus_sign = spaced t.Plus (43 ∷ []) (omega arith) (λ more. refl)

pub minus_sign : IsSign t.Minus (32 ∷ 45 ∷ 32 ∷ [])
minus_sign = spaced t.Minus (45 ∷ []) (omega arith) (λ more. refl)

pub equal_sign : IsSign t.Equal (32 ∷ 61 ∷ 32 ∷ [])
equal_sign = spaced t.Equal (61 ∷ []) (omega arith) (λ more. refl)

pub at_least_sign : IsSign t.AtLeast (32 ∷ 62 ∷ 61 ∷ 32 ∷ [])
at_least_sign = spaced t.AtLeast (62 ∷ 61 ∷ []) (omega arith) (λ more. refl)

pub and_sign : IsSign t.And (32 ∷ 38 ∷ 32 ∷ [])
and_sign = spaced t.And (38 ∷ []) (omega arith) (λ more. refl)

pub or_sign : IsSign t.Or (32 ∷ 124 ∷ 32 ∷ [])
or_sign = spaced t.Or (124 ∷ []) (omega arith) (λ more. refl)

pub star_sign : IsSign t.Star (42 ∷ [])
star_sign = record { parted = λ more. refl; lexed = λ bytes more e. (lexeme_at bytes (42 ∷ more) 1 t.Star, record { parts = sign_lexed bytes more 42 t.Star e refl; is = refl }) }

-- Productions.

not_true : (b : Bool) → not b ≡ true → b ≡ false
not_true true h = absurd (false≢true h)
not_true false h = refl

minus_piece : (text more : List ℕ) → heads (λ b. not (b == 62)) text ≡ true → piece_of 45 (text ++ more) ≡ named 1 t.Minus
minus_piece [] more h = absurd (false≢true h)
minus_piece (b ∷ text) more h = rw (not_true (b == 62) h) refl

not_piece : (text more : List ℕ) → heads (λ b. not (b == 61)) text ≡ true → piece_of 33 (text ++ more) ≡ named 1 t.Not
not_piece [] more h = absurd (false≢true h)
not_piece (b ∷ text) more h = rw (not_true (b == 61) h) refl

pub minus_spelled : (n : ℕ) (Q R : Phrase → Type 0) (text : List ℕ) → ((at : ℕ) (f : Phrase) → Q f → R (ph.minus at f))
    → heads (λ b. not (b == 62)) text ≡ true → Spells n factor Q text → Spells (suc n) factor R (45 ∷ text)
minus_spelled n Q R text r b h = record {
  wherever = λ s d rest a e p.
      let g = h.wherever s (suc d) rest (deeper s d n a) (ends_behind s.bytes (45 ∷ []) (text ++ rest) e) p in
      let x = lexeme_at s.bytes (45 ∷ (text ++ rest)) 1 t.Minus in
      record {
        expression = expr x.at (form.Minus g.expression);
        derived = factor_minus {x = x} (record { parts = sign_lexed s.bytes (text ++ rest) 45 t.Minus e (minus_piece text rest b); is = refl }) (a.levels _ d (omega arith)) g.derived;
        is = subst R (sym (phrase-form _ ∙ phrase-Minus _ _)) (r x.at (phrase g.expression) g.is);
      };
}

pub not_spelled : (n : ℕ) (Q R : Phrase → Type 0) (text : List ℕ) → ((at : ℕ) (f : Phrase) → Q f → R (ph.negation at f))
    → heads (λ b. not (b == 61)) text ≡ true → Spells n unary Q text → Spells (suc n) unary R (33 ∷ text)
not_spelled n Q R text r b h = record {
  wherever = λ s d rest a e p.
      let g = h.wherever s (suc d) rest (deeper s d n a) (ends_behind s.bytes (33 ∷ []) (text ++ rest) e) p in
      let x = lexeme_at s.bytes (33 ∷ (text ++ rest)) 1 t.Not in
      record {
        expression = expr x.at (form.Not g.expression);
        derived = unary_not {x = x} (record { parts = sign_lexed s.bytes (text ++ rest) 33 t.Not e (not_piece text rest b); is = refl }) (a.levels _ d (omega arith)) g.derived;
        is = subst R (sym (phrase-form _ ∙ phrase-Not _ _)) (r x.at (phrase g.expression) g.is);
      };
}

-- a text after another one and a sign
behind_sign : (bytes left sign more : List ℕ) → Ends bytes (left ++ (sign ++ more)) → Ends bytes more
behind_sign bytes left sign more e = ends_behind bytes sign more (ends_behind bytes left (sign ++ more) e)

three_parts : (left sign text rest : List ℕ) → (left ++ (sign ++ text)) ++ rest ≡ left ++ (sign ++ (text ++ rest))
three_parts left sign text rest = append_assoc left (sign ++ text) rest ∙ ap (λ z. left ++ z) (append_assoc sign text rest)

pub product_spelled : (n : ℕ) (P Q R : Phrase → Type 0) (left text : List ℕ)
    → ((at sign : ℕ) (f g : Phrase) → P f → Q g → R (ph.product at f sign g))
    → Spells n factor P left → Spells n (right multiplication) Q text → Spells (suc n) (right multiplication) R (left ++ 42 ∷ text)
product_spelled n P Q R left text r h k = record {
  wherever = λ s d rest a e p.
      let q = three_parts left (42 ∷ []) text rest in
      let e1 = subst (Ends s.bytes) q e in
      let f = h.wherever s d (42 ∷ (text ++ rest)) (fewer s d n a) e1 refl in
      let g = k.wherever s (suc d) rest (deeper s d n a) (behind_sign s.bytes left (42 ∷ []) (text ++ rest) e1) p in
      let x = star_sign.lexed s.bytes (text ++ rest) (ends_behind s.bytes left (42 ∷ (text ++ rest)) e1) in
      subst (λ z. Derived s d (right multiplication) R z rest) (sym q) (record {
        expression = join multiplication f.expression x.0.at g.expression;
        derived = right_two {r = multiplication} f.derived x.1 (a.levels _ d (omega arith)) g.derived;
        is = subst R (sym (phrase-form _ ∙ phrase-Product _ _ _ _)) (r f.expression.at x.0.at (phrase f.expression) (phrase g.expression) f.is g.is);
      });
}

pub compared_spelled : (n : ℕ) (c : Comparison) (sign : List ℕ) (P Q R : Phrase → Type 0) (left text : List ℕ)
    → IsSign (comparison_sign c) sign → ((at : ℕ) (f g : Phrase) → P f → Q g → R (ph.compared at c f g))
    → Spells n sum P left → Spells n sum Q text → Spells n rel R (left ++ (sign ++ text))
compared_spelled n c sign P Q R left text i r h k = record {
  wherever = λ s d rest a e p.
      let q = three_parts left sign text rest in
      let e1 = subst (Ends s.bytes) q e in
      let f = h.wherever s d (sign ++ (text ++ rest)) a e1 (i.parted (text ++ rest)) in
      let g = k.wherever s d rest a (behind_sign s.bytes left sign (text ++ rest) e1) p in
      let x = i.lexed s.bytes (text ++ rest) (ends_behind s.bytes left (sign ++ (text ++ rest)) e1) in
      subst (λ z. Derived s d rel R z rest) (sym q) (record {
        expression = expr f.expression.at (form.Compare c f.expression g.expression);
        derived = rel_two {c = c} f.derived x.1 g.derived;
        is = subst R (sym (phrase-form _ ∙ phrase-Compare _ _ _ _)) (r f.expression.at (phrase f.expression) (phrase g.expression) f.is g.is);
      });
}

-- `true` and `false`
pub truth_spelled : (n : ℕ) (b : Bool) (Q : Phrase → Type 0) (text : List ℕ) → ((at : ℕ) → Q (ph.truth at b))
    → is_name text ≡ true → word_of text ≡ truth_word b → Spells n primary Q text
truth_spelled n b Q text q w i = record {
  wherever = λ s d rest a e p.
      let x = lexeme_at s.bytes (text ++ rest) (length text) (word_of text) in
      record {
        expression = expr x.at (form.Truth b);
        derived = truth {b = b} {x = x} (record { parts = name_lexed s.bytes text rest e w p; is = i });
        is = subst Q (sym (phrase-form _ ∙ phrase-Truth _ _)) (q x.at);
      };
}

exists_rest : (name body rest : List ℕ) → exists_text name body ++ rest ≡ exists_text name (body ++ rest)
exists_rest name body rest =
    ap (λ z. (92 ∷ 101 ∷ 120 ∷ 105 ∷ 115 ∷ 116 ∷ 115 ∷ []) ++ (32 ∷ ((105 ∷ 110 ∷ 116 ∷ []) ++ (32 ∷ z)))) (append_assoc name (59 ∷ (32 ∷ body)) rest)

pub exists_spelled : (n : ℕ) (Q R : Phrase → Type 0) (name text : List ℕ)
    → ((at place : ℕ) (f : Phrase) → Q f → R (ph.quantified at false (of_type type.Int (record { at = place; text = name }) ∷ []) f))
    → is_name name ≡ true → word_of name ≡ t.Identifier → Spells n unary Q text → Spells (suc n) unary R (exists_text name text)
exists_spelled n Q R name text r w i h = record {
  wherever = λ s d rest a e p.
      let word = 101 ∷ 120 ∷ 105 ∷ 115 ∷ 116 ∷ 115 ∷ [] in
      let int = 105 ∷ 110 ∷ 116 ∷ [] in
      let q = exists_rest name text rest in
      let body = text ++ rest in
      let e1 = subst (Ends s.bytes) q e in
      let e2 = ends_behind s.bytes (92 ∷ word) (32 ∷ (int ++ (32 ∷ (name ++ (59 ∷ (32 ∷ body)))))) e1 in
      let e3 = ends_behind s.bytes (32 ∷ []) (int ++ (32 ∷ (name ++ (59 ∷ (32 ∷ body))))) e2 in
      let e4 = ends_behind s.bytes int (32 ∷ (name ++ (59 ∷ (32 ∷ body)))) e3 in
      let e5 = ends_behind s.bytes (32 ∷ []) (name ++ (59 ∷ (32 ∷ body))) e4 in
      let e6 = ends_behind s.bytes name (59 ∷ (32 ∷ body)) e5 in
      let e7 = ends_behind s.bytes (59 ∷ []) (32 ∷ body) e6 in
      let e8 = ends_behind s.bytes (32 ∷ []) body e7 in
      let g = h.wherever s (suc d) rest (deeper s d n a) e8 p in
      let x = lexeme_at s.bytes (exists_text name body) 7 t.Exists in
      let y = lexeme_at s.bytes (int ++ (32 ∷ (name ++ (59 ∷ (32 ∷ body))))) 3 t.Int in
      let z = lexeme_at s.bytes (name ++ (59 ∷ (32 ∷ body))) (length name) (word_of name) in
      let v = lexeme_at s.bytes (59 ∷ (32 ∷ body)) 1 t.Semicolon in
      let same = text-lexed s.bytes name (59 ∷ (32 ∷ body)) (word_of name) e5 in
      subst (λ u. Derived s d unary R u rest) (sym q) (record {
        expression = expr x.at (form.Quantified false (of_type type.Int (name_of s z) ∷ []) g.expression);
        derived = unary_bound {all = false} {x = x} {c = v}
            (record {
              parts = command_lexed s.bytes word (32 ∷ (int ++ (32 ∷ (name ++ (59 ∷ (32 ∷ body)))))) e1 refl refl
                  ∙ ap (λ u. x ∷ u) (blank_lexed s.bytes (int ++ (32 ∷ (name ++ (59 ∷ (32 ∷ body))))) e2);
              is = refl;
            })
            (bound_first {several = false} {x = z}
            (type_int {x = y} (record {
              parts = name_lexed s.bytes int (32 ∷ (name ++ (59 ∷ (32 ∷ body)))) e3 refl refl
                  ∙ ap (λ u. y ∷ u) (blank_lexed s.bytes (name ++ (59 ∷ (32 ∷ body))) e4);
              is = refl;
            }))
            (record { parts = name_lexed s.bytes name (59 ∷ (32 ∷ body)) e5 w refl; is = i })
            (a.levels _ d (omega arith)))
            (record { parts = sign_lexed s.bytes (32 ∷ body) 59 t.Semicolon e6 refl ∙ ap (λ u. v ∷ u) (blank_lexed s.bytes body e7); is = refl })
            g.derived;
        is = subst R (sym (phrase-form _ ∙ phrase-Quantified _ _ _ _
            ∙ ap (λ u. ph.quantified x.at false (of_type type.Int (record { at = z.at; text = u }) ∷ []) (phrase g.expression)) same)) (r x.at z.at (phrase g.expression) g.is);
      });
}
