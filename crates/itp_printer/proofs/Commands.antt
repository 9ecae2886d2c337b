-- The productions of the commands: conditions, absolute values, minima and maxima.
use Rattle.std.proofs.Common.{ℕ, suc, ◌≡◌, Bool, true, false, List, [], ◌∷◌, ◌++◌, length, refl, sym, ap, subst, ◌∙◌, arith, append_assoc}
use Rattle.std.specs.List.{list_all}
use Rattle.std.specs.Char.{is_ascii_alphabetic}
use Rattle.pri_tokens.specs.declared.terminals.Terminal.TheVariants as t
use Rattle.pri_tokens.specs.Spellings.{command_of}
use Rattle.pri_reader.specs.declared.tree.Expr.{Expr}
use Rattle.pri_reader.specs.declared.tree.Form.TheVariants as form
use Rattle.pri_reader.specs.Grammar.{primary, whole, parenthesized, conditional, absolute, pair, paired, pair_word, expr}
use Rattle.pri_typing.specs.Phrase.{Phrase, phrase}
use Rattle.pri_typing.specs.Phrase as ph
use Rattle.pri_typing.proofs.Folds.{phrase-form, phrase-If, phrase-Abs, phrase-Min, phrase-Max}
use Rattle.pri_printer.proofs.Writing.{Ends, lexeme_at}
use Rattle.pri_printer.proofs.Spells.{Derived, Spells}
use Rattle.pri_printer.proofs.Lexing.{ends_behind, sign_lexed, command_lexed, blank_lexed}
use Rattle.itp_printer.specs.Text.{grouped}
use Rattle.itp_printer.proofs.Steps.{deeper}
use Rattle.itp_printer.proofs.Productions.{then_sign, else_sign, comma_sign, group_rest, parenthesized_spelled}

-- `\if c \then u \else v`
abbrev choice_text : List ℕ → List ℕ → List ℕ → List ℕ
choice_text c u v = (92 ∷ 105 ∷ 102 ∷ 32 ∷ []) ++ (c ++ ((32 ∷ 92 ∷ 116 ∷ 104 ∷ 101 ∷ 110 ∷ 32 ∷ []) ++ (u ++ ((32 ∷ 92 ∷ 101 ∷ 108 ∷ 115 ∷ 101 ∷ 32 ∷ []) ++ v))))

choice_rest : (c u v rest : List ℕ) → choice_text c u v ++ rest ≡ choice_text c u (v ++ rest)
choice_rest c u v rest =
    let th = 32 ∷ 92 ∷ 116 ∷ 104 ∷ 101 ∷ 110 ∷ 32 ∷ [] in
    let el = 32 ∷ 92 ∷ 101 ∷ 108 ∷ 115 ∷ 101 ∷ 32 ∷ [] in
    ap (λ z. (92 ∷ 105 ∷ 102 ∷ 32 ∷ []) ++ z)
    (append_assoc c (th ++ (u ++ (el ++ v))) rest ∙ ap (λ z. c ++ (th ++ z)) (append_assoc u (el ++ v) rest))

pub choice_spelled : (n : ℕ) (C P Q R : Phrase → Type 0) (c u v : List ℕ) → ((at : ℕ) (f g h : Phrase) → C f → P g → Q h → R (ph.choice at f g h))
    → Spells n parenthesized C c → Spells n parenthesized P u → Spells n parenthesized Q v → Spells n primary R (choice_text c u v)
choice_spelled n C P Q R c u v r k l m = record {
  wherever = λ s d rest a e p.
      let th = 32 ∷ 92 ∷ 116 ∷ 104 ∷ 101 ∷ 110 ∷ 32 ∷ [] in
      let el = 32 ∷ 92 ∷ 101 ∷ 108 ∷ 115 ∷ 101 ∷ 32 ∷ [] in
      let q = choice_rest c u v rest in
      let last = v ++ rest in
      let third = u ++ (el ++ last) in
      let second = c ++ (th ++ third) in
      let e1 = subst (Ends s.bytes) q e in
      let e2 = ends_behind s.bytes (92 ∷ 105 ∷ 102 ∷ []) (32 ∷ second) e1 in
      let e3 = ends_behind s.bytes (32 ∷ []) second e2 in
      let e4 = ends_behind s.bytes c (th ++ third) e3 in
      let e5 = ends_behind s.bytes th third e4 in
      let e6 = ends_behind s.bytes u (el ++ last) e5 in
      let e7 = ends_behind s.bytes el last e6 in
      let f = k.wherever s d (th ++ third) a e3 (then_sign.parted third) in
      let g = l.wherever s d (el ++ last) a e5 (else_sign.parted last) in
      let h = m.wherever s d rest a e7 p in
      let x = lexeme_at s.bytes (92 ∷ 105 ∷ 102 ∷ 32 ∷ second) 3 t.If in
      let y = then_sign.lexed s.bytes third e4 in
      let z = else_sign.lexed s.bytes last e6 in
      subst (λ w. Derived s d primary R w rest) (sym q) (record {
        expression = expr x.at (form.If f.expression g.expression h.expression);
        derived = conditional {x = x} {y = y.0} {z = z.0}
            (record { parts = command_lexed s.bytes (105 ∷ 102 ∷ []) (32 ∷ second) e1 refl refl ∙ ap (λ w. x ∷ w) (blank_lexed s.bytes second e2); is = refl })
            f.derived y.1 g.derived z.1 h.derived;
        is = subst R (sym (phrase-form _ ∙ phrase-If _ _ _ _)) (r x.at (phrase f.expression) (phrase g.expression) (phrase h.expression) f.is g.is h.is);
      });
}

pub absolute_spelled : (n : ℕ) (Q R : Phrase → Type 0) (u : List ℕ) → ((at : ℕ) (f : Phrase) → Q f → R (ph.absolute at f))
    → Spells n whole Q u → Spells (suc n) primary R ((92 ∷ 97 ∷ 98 ∷ 115 ∷ []) ++ grouped u)
absolute_spelled n Q R u r h = record {
  wherever = λ s d rest a e p.
      let e2 = ends_behind s.bytes (92 ∷ 97 ∷ 98 ∷ 115 ∷ []) (grouped u ++ rest) e in
      let g = (parenthesized_spelled n Q u h).wherever s d rest a e2 p in
      let x = lexeme_at s.bytes ((92 ∷ 97 ∷ 98 ∷ 115 ∷ []) ++ (grouped u ++ rest)) 4 t.Abs in
      record {
        expression = expr x.at (form.Abs g.expression);
        derived = absolute {x = x} (record { parts = command_lexed s.bytes (97 ∷ 98 ∷ 115 ∷ []) (grouped u ++ rest) e refl refl; is = refl }) g.derived;
        is = subst R (sym (phrase-form _ ∙ phrase-Abs _ _)) (r x.at (phrase g.expression) g.is);
      };
}

abbrev pub pair_phrase : Bool → ℕ → Phrase → Phrase → Phrase
pair_phrase true at f g = ph.greater at f g
pair_phrase false at f g = ph.lesser at f g

paired_phrase : (max : Bool) (at : ℕ) (f g : Expr) → phrase (paired max at f g) ≡ pair_phrase max at (phrase f) (phrase g)
paired_phrase true at f g = phrase-form _ ∙ phrase-Max _ _ _
paired_phrase false at f g = phrase-form _ ∙ phrase-Min _ _ _

pair_rest : (word u v rest : List ℕ)
    → ((92 ∷ word) ++ grouped (u ++ ((44 ∷ 32 ∷ []) ++ v))) ++ rest ≡ (92 ∷ word) ++ (40 ∷ (u ++ ((44 ∷ 32 ∷ []) ++ (v ++ (41 ∷ rest)))))
pair_rest word u v rest =
    append_assoc (92 ∷ word) (grouped (u ++ ((44 ∷ 32 ∷ []) ++ v))) rest
    ∙ ap (λ z. (92 ∷ word) ++ z) (group_rest (u ++ ((44 ∷ 32 ∷ []) ++ v)) rest ∙ ap (λ z. 40 ∷ z) (append_assoc u ((44 ∷ 32 ∷ []) ++ v) (41 ∷ rest)))

pub pair_spelled : (n : ℕ) (max : Bool) (word : List ℕ) (P Q R : Phrase → Type 0) (u v : List ℕ)
    → ((at : ℕ) (f g : Phrase) → P f → Q g → R (pair_phrase max at f g))
    → list_all is_ascii_alphabetic word ≡ true → command_of (92 ∷ word) ≡ pair_word max
    → Spells n whole P u → Spells n whole Q v → Spells (suc n) primary R ((92 ∷ word) ++ grouped (u ++ ((44 ∷ 32 ∷ []) ++ v)))
pair_spelled n max word P Q R u v r letters command h k = record {
  wherever = λ s d rest a e p.
      let q = pair_rest word u v rest in
      let last = v ++ (41 ∷ rest) in
      let inner = u ++ ((44 ∷ 32 ∷ []) ++ last) in
      let e1 = subst (Ends s.bytes) q e in
      let e2 = ends_behind s.bytes (92 ∷ word) (40 ∷ inner) e1 in
      let e3 = ends_behind s.bytes (40 ∷ []) inner e2 in
      let e4 = ends_behind s.bytes u ((44 ∷ 32 ∷ []) ++ last) e3 in
      let e5 = ends_behind s.bytes (44 ∷ 32 ∷ []) last e4 in
      let e6 = ends_behind s.bytes v (41 ∷ rest) e5 in
      let f = h.wherever s (suc d) ((44 ∷ 32 ∷ []) ++ last) (deeper s d n a) e3 (comma_sign.parted last) in
      let g = k.wherever s (suc d) (41 ∷ rest) (deeper s d n a) e5 refl in
      let x = lexeme_at s.bytes ((92 ∷ word) ++ (40 ∷ inner)) (length (92 ∷ word)) (command_of (92 ∷ word)) in
      let o = lexeme_at s.bytes (40 ∷ inner) 1 t.OpenParenthesis in
      let c = lexeme_at s.bytes (41 ∷ rest) 1 t.CloseParenthesis in
      let y = comma_sign.lexed s.bytes last e4 in
      subst (λ z. Derived s d primary R z rest) (sym q) (record {
        expression = paired max x.at f.expression g.expression;
        derived = pair max {x = x} {o = o} {c = y.0} {e = c}
            (record { parts = command_lexed s.bytes word (40 ∷ inner) e1 letters refl; is = command })
            (record { parts = sign_lexed s.bytes inner 40 t.OpenParenthesis e2 refl; is = refl })
            (a.levels _ d (omega arith)) f.derived y.1 g.derived
            (record { parts = sign_lexed s.bytes rest 41 t.CloseParenthesis e6 refl; is = refl });
        is = subst R (sym (paired_phrase max x.at f.expression g.expression)) (r x.at (phrase f.expression) (phrase g.expression) f.is g.is);
      });
}
