-- One lemma for each further production of the grammar: signs, parentheses, implications and equivalences.
use Rattle.std.proofs.Common.{ℕ, suc, ◌≡◌, List, [], ◌∷◌, ◌++◌, refl, sym, ap, subst, ◌∙◌, arith, append_assoc}
use Rattle.pri_tokens.specs.declared.terminals.Terminal.TheVariants as t
use Rattle.pri_reader.specs.declared.tree.Expr.{Expr}
use Rattle.pri_reader.specs.declared.tree.Form.TheVariants as form
use Rattle.pri_reader.specs.Grammar.{Derives, Right, right, operand, right_sign, primary, whole, parenthesized, right_two, parentheses, group, join, expr}
use Rattle.pri_typing.specs.Phrase.{Phrase, phrase}
use Rattle.pri_typing.specs.Phrase as ph
use Rattle.pri_typing.proofs.Folds.{phrase-form, phrase-Group}
use Rattle.pri_printer.proofs.Writing.{Ends, tokens_at, lexeme_at}
use Rattle.pri_printer.proofs.Spells.{Derived, Spells}
use Rattle.pri_printer.proofs.Lexing.{ends_behind, sign_lexed, blank_lexed}
use Rattle.pri_printer.proofs.Spelling.{IsSign, spaced}
use Rattle.itp_printer.specs.Text.{grouped}
use Rattle.itp_printer.proofs.Steps.{deeper, fewer, behind_sign, three_parts}

-- Signs.

pub unequal_sign : IsSign t.Unequal (32 ∷ 33 ∷ 61 ∷ 32 ∷ [])
unequal_sign = spaced t.Unequal (33 ∷ 61 ∷ []) (omega arith) (λ more. refl)

pub less_sign : IsSign t.Less (32 ∷ 60 ∷ 32 ∷ [])
less_sign = spaced t.Less (60 ∷ []) (omega arith) (λ more. refl)

pub at_most_sign : IsSign t.AtMost (32 ∷ 60 ∷ 61 ∷ 32 ∷ [])
at_most_sign = spaced t.AtMost (60 ∷ 61 ∷ []) (omega arith) (λ more. refl)

pub greater_sign : IsSign t.Greater (32 ∷ 62 ∷ 32 ∷ [])
greater_sign = spaced t.Greater (62 ∷ []) (omega arith) (λ more. refl)

pub implies_sign : IsSign t.Implies (32 ∷ 45 ∷ 62 ∷ 32 ∷ [])
implies_sign = spaced t.Implies (45 ∷ 62 ∷ []) (omega arith) (λ more. refl)

pub iff_sign : IsSign t.Iff (32 ∷ 60 ∷ 45 ∷ 62 ∷ 32 ∷ [])
iff_sign = spaced t.Iff (60 ∷ 45 ∷ 62 ∷ []) (omega arith) (λ more. refl)

pub then_sign : IsSign t.Then (32 ∷ 92 ∷ 116 ∷ 104 ∷ 101 ∷ 110 ∷ 32 ∷ [])
then_sign = spaced t.Then (92 ∷ 116 ∷ 104 ∷ 101 ∷ 110 ∷ []) (omega arith) (λ more. refl)

pub else_sign : IsSign t.Else (32 ∷ 92 ∷ 101 ∷ 108 ∷ 115 ∷ 101 ∷ 32 ∷ [])
else_sign = spaced t.Else (92 ∷ 101 ∷ 108 ∷ 115 ∷ 101 ∷ []) (omega arith) (λ more. refl)

pub comma_sign : IsSign t.Comma (44 ∷ 32 ∷ [])
comma_sign = record {
  parted = λ more. refl;
  lexed = λ bytes more e.
      let x = lexeme_at bytes (44 ∷ 32 ∷ more) 1 t.Comma in (
        x,
        record {
          parts = sign_lexed bytes (32 ∷ more) 44 t.Comma e refl ∙ ap (λ z. x ∷ z) (blank_lexed bytes more (ends_behind bytes (44 ∷ []) (32 ∷ more) e));
          is = refl;
        },
      );
}

-- Parentheses.

pub group_rest : (u rest : List ℕ) → grouped u ++ rest ≡ 40 ∷ (u ++ (41 ∷ rest))
group_rest u rest = ap (λ z. 40 ∷ z) (append_assoc u (41 ∷ []) rest)

pub parenthesized_spelled : (n : ℕ) (Q : Phrase → Type 0) (u : List ℕ) → Spells n whole Q u → Spells (suc n) parenthesized Q (grouped u)
parenthesized_spelled n Q u h = record {
  wherever = λ s d rest a e p.
      let q = group_rest u rest in
      let e1 = subst (Ends s.bytes) q e in
      let e2 = ends_behind s.bytes (40 ∷ []) (u ++ (41 ∷ rest)) e1 in
      let e3 = ends_behind s.bytes u (41 ∷ rest) e2 in
      let g = h.wherever s (suc d) (41 ∷ rest) (deeper s d n a) e2 refl in
      let o = lexeme_at s.bytes (40 ∷ (u ++ (41 ∷ rest))) 1 t.OpenParenthesis in
      let c = lexeme_at s.bytes (41 ∷ rest) 1 t.CloseParenthesis in
      subst (λ z. Derived s d parenthesized Q z rest) (sym q) (record {
        expression = g.expression;
        derived = parentheses {o = o} {c = c} (record { parts = sign_lexed s.bytes (u ++ (41 ∷ rest)) 40 t.OpenParenthesis e1 refl; is = refl })
            (a.levels _ d (omega arith)) g.derived (record { parts = sign_lexed s.bytes rest 41 t.CloseParenthesis e3 refl; is = refl });
        is = g.is;
      });
}

pub group_spelled : (n : ℕ) (Q R : Phrase → Type 0) (u : List ℕ) → ((at : ℕ) (f : Phrase) → Q f → R (ph.group at f))
    → Spells n whole Q u → Spells (suc n) primary R (grouped u)
group_spelled n Q R u r h = record {
  wherever = λ s d rest a e p.
      let q = group_rest u rest in
      let e1 = subst (Ends s.bytes) q e in
      let g = (parenthesized_spelled n Q u h).wherever s d rest a e p in
      let o = lexeme_at s.bytes (40 ∷ (u ++ (41 ∷ rest))) 1 t.OpenParenthesis in
      subst (λ z. Derived s d primary R z rest) (sym q) (record {
        expression = expr o.at (form.Group g.expression);
        derived = group {x = o} (record { parts = sign_lexed s.bytes (u ++ (41 ∷ rest)) 40 t.OpenParenthesis e1 refl; is = refl })
            (subst (λ z. Derives s d parenthesized g.expression (tokens_at s.bytes z) (tokens_at s.bytes rest)) q g.derived);
        is = subst R (sym (phrase-form _ ∙ phrase-Group _ _)) (r o.at (phrase g.expression) g.is);
      });
}

-- Two operands, grouped to the right.

pub right_spelled : (n : ℕ) (r : Right) (sign : List ℕ) (P Q R : Phrase → Type 0) (left text : List ℕ) → IsSign (right_sign r) sign
    → ((at : ℕ) (f g : Expr) → P (phrase f) → Q (phrase g) → R (phrase (join r f at g)))
    → Spells n (operand r) P left → Spells n (right r) Q text → Spells (suc n) (right r) R (left ++ (sign ++ text))
right_spelled n r sign P Q R left text i j h k = record {
  wherever = λ s d rest a e p.
      let q = three_parts left sign text rest in
      let e1 = subst (Ends s.bytes) q e in
      let f = h.wherever s d (sign ++ (text ++ rest)) (fewer s d n a) e1 (i.parted (text ++ rest)) in
      let g = k.wherever s (suc d) rest (deeper s d n a) (behind_sign s.bytes left sign (text ++ rest) e1) p in
      let x = i.lexed s.bytes (text ++ rest) (ends_behind s.bytes left (sign ++ (text ++ rest)) e1) in
      subst (λ z. Derived s d (right r) R z rest) (sym q) (record {
        expression = join r f.expression x.0.at g.expression;
        derived = right_two {r = r} f.derived x.1 (a.levels _ d (omega arith)) g.derived;
        is = j x.0.at f.expression g.expression f.is g.is;
      });
}
