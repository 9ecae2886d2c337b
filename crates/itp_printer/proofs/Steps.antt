-- Levels, texts after one another, and lines of the grammar with one operand.
use Rattle.std.proofs.Common.{ℕ, suc, ◌≡◌, ◌≤◌, true, List, [], ◌∷◌, ◌++◌, ap, ◌∙◌, arith, append_assoc}
use Rattle.pri_tokens.specs.declared.terminals.Lexeme.{Lexeme}
use Rattle.pri_reader.specs.declared.tree.Expr.{Expr}
use Rattle.pri_reader.specs.Grammar.{Setting, Derives, Part}
use Rattle.pri_typing.specs.Phrase.{Phrase}
use Rattle.pri_printer.specs.Text.{behind_each}
use Rattle.pri_printer.proofs.Writing.{Ends, is_parted}
use Rattle.pri_printer.proofs.Spells.{Allows, Spells}
use Rattle.pri_printer.proofs.Lexing.{ends_behind}

pub deeper : (s : Setting) (d n : ℕ) → Allows s d (suc n) → Allows s (suc d) n
deeper s d n a = record { numerals = a.numerals; levels = λ rest e h. a.levels rest e (omega arith) }

pub fewer : (s : Setting) (d n : ℕ) → Allows s d (suc n) → Allows s d n
fewer s d n a = record { numerals = a.numerals; levels = λ rest e h. a.levels rest e (omega arith) }

-- a line of the grammar with one operand
pub spells_up : (n : ℕ) (part up : Part) (Q : Phrase → Type 0) (text : List ℕ)
    → ((s : Setting) (d : ℕ) (f : Expr) (tokens rest : List Lexeme) → Derives s d part f tokens rest → Derives s d up f tokens rest)
    → Spells n part Q text → Spells n up Q text
spells_up n part up Q text u h = record {
  wherever = λ s d rest a e p.
      let g = h.wherever s d rest a e p in record { expression = g.expression; derived = u s d g.expression _ _ g.derived; is = g.is };
}

-- a text that is spelled at some level is so where more levels may be opened
pub lifted : (m n : ℕ) (part : Part) (Q : Phrase → Type 0) (text : List ℕ) → m ≤ n → Spells m part Q text → Spells n part Q text
lifted m n part Q text l h = record {
  wherever = λ s d rest a e p. h.wherever s d rest (record { numerals = a.numerals; levels = λ after k small. a.levels after k (omega arith) }) e p;
}

-- a text after another one and a sign
pub behind_sign : (bytes left sign more : List ℕ) → Ends bytes (left ++ (sign ++ more)) → Ends bytes more
behind_sign bytes left sign more e = ends_behind bytes sign more (ends_behind bytes left (sign ++ more) e)

pub three_parts : (left sign text rest : List ℕ) → (left ++ (sign ++ text)) ++ rest ≡ left ++ (sign ++ (text ++ rest))
three_parts left sign text rest = append_assoc left (sign ++ text) rest ∙ ap (λ z. left ++ z) (append_assoc sign text rest)

pub parted_each : (sign : List ℕ) → ((more : List ℕ) → is_parted (sign ++ more) ≡ true) → (us : List (List ℕ)) (rest : List ℕ) → is_parted rest ≡ true
    → is_parted (behind_each sign us ++ rest) ≡ true
parted_each sign h [] rest p = p
parted_each sign h (u ∷ us) rest p = ap is_parted (append_assoc sign (u ++ behind_each sign us) rest) ∙ h _
