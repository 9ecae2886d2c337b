-- The texts of types are read as them, and the production of a quantifier.
use Rattle.std.proofs.Common.{ℕ, suc, ◌≡◌, ◌<◌, ◌^◌, ℤ, pos, negsuc, neg_ℤ, Bool, true, false, not, ◌==◌, List, [], ◌∷◌, ◌++◌, length, refl, sym, ap, subst, ◌∙◌, arith, append_assoc}
use Rattle.std.specs.List.{list_all}
use Rattle.std.specs.Char.{is_ascii_alphabetic}
use Rattle.std.specs.Fmt.{decimal, signed_decimal}
use Rattle.std.proofs.lemmas.Bool.{false≢true}
use Rattle.linear_term.specs.Range.{InRange}
use Rattle.pri_tokens.specs.declared.terminals.Lexeme.{Lexeme}
use Rattle.pri_tokens.specs.declared.terminals.Terminal.TheVariants as t
use Rattle.pri_tokens.specs.Kinds.{is_name}
use Rattle.pri_tokens.specs.Lexemes.{piece_of, named}
use Rattle.base_numerals.specs.Numerals.{decimal_value}
use Rattle.pri_tokens.specs.Spellings.{word_of, command_of}
use Rattle.pri_reader.specs.declared.tree.Form.TheVariants as form
use Rattle.pri_reader.specs.declared.tree.TypeName.{TypeName}
use Rattle.pri_reader.specs.declared.tree.TypeName.TheVariants as type
use Rattle.pri_reader.specs.Grammar.{Setting, TakesNumber, Endpoint, endpoint_plain, endpoint_minus, IsType, type_nat, type_int, type_range, unary, unary_bound, expr, bound_first, of_type, name_of, value_of, quantifier}
use Rattle.form_typed.specs.Sorts.{IsSortRanged}
use Rattle.form_typed.specs.declared.typed.Sort.{Sort}
use Rattle.form_typed.specs.declared.typed.Sort.TheVariants.{Int, Nat, Range}
use Rattle.pri_typing.specs.Phrase.{Phrase, phrase}
use Rattle.pri_typing.specs.Phrase as ph
use Rattle.pri_typing.specs.Sorts.{sort_of}
use Rattle.pri_typing.proofs.Folds.{phrase-form, phrase-Quantified}
use Rattle.pri_printer.proofs.Writing.{Ends, tokens_at, is_parted, lexeme_at}
use Rattle.pri_printer.proofs.Spells.{Derived, Spells}
use Rattle.pri_printer.proofs.Lexing.{ends_behind, sign_lexed, name_lexed, number_lexed, command_lexed, blank_lexed, text-lexed}
use Rattle.pri_printer.proofs.Spelling.{heads}
use Rattle.base_numerals.proofs.Decimals.{decimal_is}
use Rattle.itp_printer.specs.TypedText.{sort_text}
use Rattle.itp_printer.proofs.Decimals.{number_by, number_heads}
use Rattle.itp_printer.proofs.Productions.{comma_sign}
use Rattle.itp_printer.proofs.Steps.{deeper}

-- the type as a file writes it
abbrev pub type_of : Sort → TypeName
type_of Int = type.Int
type_of Nat = type.Nat
type_of (Range a b) = type.Range a b

pub sort_is : (sort : Sort) → sort_of (type_of sort) ≡ sort
sort_is Int = refl
sort_is Nat = refl
sort_is (Range a b) = refl

-- Numbers.

-- numerals below 2^127 are allowed
abbrev AllowsNumerals : Setting → Type 0
AllowsNumerals s = (rest : List Lexeme) (v : ℕ) → v < 2 ^ 127 → s.small rest v ≡ true

-- the numeral of this value comes next
record IsTaken (s : Setting) (v : ℕ) (text rest : List ℕ) : Type 0 where
  token : Lexeme
  takes : TakesNumber s token (tokens_at s.bytes text) (tokens_at s.bytes rest)
  value : value_of s token ≡ v

number_taken : (s : Setting) (v : ℕ) (rest : List ℕ) → AllowsNumerals s → v < 2 ^ 127 → Ends s.bytes (decimal v ++ rest) → is_parted rest ≡ true
    → IsTaken s v (decimal v ++ rest) rest
number_taken s v rest small h e p =
    let i = decimal_is v (omega arith) in
    let x = lexeme_at s.bytes (decimal v ++ rest) (length (decimal v)) t.Number in
    let same : value_of s x ≡ v = ap decimal_value (text-lexed s.bytes (decimal v) rest t.Number e) ∙ i.value in
    record {
      token = x;
      takes = record {
        takes = record { parts = number_lexed s.bytes (decimal v) rest e (number_by (decimal v) i.digits i.some) p; is = refl };
        small = small _ _ (subst (λ z. z < 2 ^ 127) (sym same) h);
      };
      value = same;
    }

not_true : (b : Bool) → not b ≡ true → b ≡ false
not_true true h = absurd (false≢true h)
not_true false h = refl

minus_piece : (text more : List ℕ) → heads (λ b. not (b == 62)) text ≡ true → piece_of 45 (text ++ more) ≡ named 1 t.Minus
minus_piece [] more h = absurd (false≢true h)
minus_piece (b ∷ text) more h = rw (not_true (b == 62) h) refl

endpoint_read : (s : Setting) (v : ℤ) (rest : List ℕ) → AllowsNumerals s → InRange v → Ends s.bytes (signed_decimal v ++ rest) → is_parted rest ≡ true
    → Endpoint s v (tokens_at s.bytes (signed_decimal v ++ rest)) (tokens_at s.bytes rest)
endpoint_read s (pos n) rest small h e p =
    let n1 = number_taken s n rest small h e p in
    subst (λ z. Endpoint s (pos z) (tokens_at s.bytes (decimal n ++ rest)) (tokens_at s.bytes rest)) n1.value (endpoint_plain {x = n1.token} n1.takes)
endpoint_read s (negsuc n) rest small h e p =
    let text = decimal (suc n) in
    let i = decimal_is (suc n) (omega (arith, h)) in
    let n1 = number_taken s (suc n) rest small h (ends_behind s.bytes (45 ∷ []) (text ++ rest) e) p in
    let x = lexeme_at s.bytes (45 ∷ (text ++ rest)) 1 t.Minus in
    subst (λ z. Endpoint s (neg_ℤ (pos z)) (tokens_at s.bytes (45 ∷ (text ++ rest))) (tokens_at s.bytes rest)) n1.value
    (endpoint_minus {m = x} {x = n1.token}
    (record { parts = sign_lexed s.bytes (text ++ rest) 45 t.Minus e (minus_piece text rest (number_heads text i.digits i.some)); is = refl }) n1.takes)

-- Types.

range_rest : (a b rest : List ℕ) → ((105 ∷ 110 ∷ 116 ∷ 91 ∷ []) ++ (a ++ ((44 ∷ 32 ∷ []) ++ (b ++ 93 ∷ [])))) ++ rest
    ≡ (105 ∷ 110 ∷ 116 ∷ 91 ∷ []) ++ (a ++ ((44 ∷ 32 ∷ []) ++ (b ++ (93 ∷ rest))))
range_rest a b rest =
    ap (λ z. (105 ∷ 110 ∷ 116 ∷ 91 ∷ []) ++ z)
    (append_assoc a ((44 ∷ 32 ∷ []) ++ (b ++ 93 ∷ [])) rest ∙ ap (λ z. a ++ ((44 ∷ 32 ∷ []) ++ z)) (append_assoc b (93 ∷ []) rest))

-- the text of a type is read as the type
pub type_read : (s : Setting) → AllowsNumerals s → (sort : Sort) (rest : List ℕ) → IsSortRanged sort → Ends s.bytes (sort_text sort ++ rest) → is_parted rest ≡ true
    → IsType s (type_of sort) (tokens_at s.bytes (sort_text sort ++ rest)) (tokens_at s.bytes rest)
type_read s small Int rest h e p =
    type_int {x = lexeme_at s.bytes ((105 ∷ 110 ∷ 116 ∷ []) ++ rest) 3 t.Int} (record { parts = name_lexed s.bytes (105 ∷ 110 ∷ 116 ∷ []) rest e refl p; is = refl })
type_read s small Nat rest h e p =
    type_nat {x = lexeme_at s.bytes ((110 ∷ 97 ∷ 116 ∷ []) ++ rest) 3 t.Nat} (record { parts = name_lexed s.bytes (110 ∷ 97 ∷ 116 ∷ []) rest e refl p; is = refl })
type_read s small (Range a b) rest h e p =
    let int = 105 ∷ 110 ∷ 116 ∷ [] in
    let first = signed_decimal a in
    let second = signed_decimal b in
    let q = range_rest first second rest in
    let last = 93 ∷ rest in
    let upper = second ++ last in
    let lower = first ++ ((44 ∷ 32 ∷ []) ++ upper) in
    let e1 = subst (Ends s.bytes) q e in
    let e2 = ends_behind s.bytes int (91 ∷ lower) e1 in
    let e3 = ends_behind s.bytes (91 ∷ []) lower e2 in
    let e4 = ends_behind s.bytes first ((44 ∷ 32 ∷ []) ++ upper) e3 in
    let e5 = ends_behind s.bytes (44 ∷ 32 ∷ []) upper e4 in
    let e6 = ends_behind s.bytes second last e5 in
    let x = lexeme_at s.bytes (int ++ (91 ∷ lower)) 3 t.Int in
    let o = lexeme_at s.bytes (91 ∷ lower) 1 t.OpenBracket in
    let c = comma_sign.lexed s.bytes upper e4 in
    let z = lexeme_at s.bytes last 1 t.CloseBracket in
    subst (λ u. IsType s (type.Range a b) (tokens_at s.bytes u) (tokens_at s.bytes rest)) (sym q)
    (type_range {x = x} {o = o} {c = c.0} {e = z}
    (record { parts = name_lexed s.bytes int (91 ∷ lower) e1 refl refl; is = refl })
    (record { parts = sign_lexed s.bytes lower 91 t.OpenBracket e2 refl; is = refl })
    (endpoint_read s a ((44 ∷ 32 ∷ []) ++ upper) small h.0 e3 refl) c.1 (endpoint_read s b last small h.1 e5 refl)
    (record { parts = sign_lexed s.bytes rest 93 t.CloseBracket e6 refl; is = refl }))

-- Quantifiers.

-- a quantifier, a blank, a type, a blank, the name, `;`, a blank and the body
abbrev quantified_text : List ℕ → Sort → List ℕ → List ℕ → List ℕ
quantified_text word sort name body = (92 ∷ word) ++ (32 ∷ (sort_text sort ++ (32 ∷ (name ++ (59 ∷ (32 ∷ body))))))

quantified_rest : (word : List ℕ) (sort : Sort) (name body rest : List ℕ) → quantified_text word sort name body ++ rest ≡ quantified_text word sort name (body ++ rest)
quantified_rest word sort name body rest =
    append_assoc (92 ∷ word) (32 ∷ (sort_text sort ++ (32 ∷ (name ++ (59 ∷ (32 ∷ body)))))) rest
    ∙ ap (λ z. (92 ∷ word) ++ (32 ∷ z)) (append_assoc (sort_text sort) (32 ∷ (name ++ (59 ∷ (32 ∷ body)))) rest
    ∙ ap (λ z. sort_text sort ++ (32 ∷ z)) (append_assoc name (59 ∷ (32 ∷ body)) rest))

pub quantified_spelled : (n : ℕ) (all : Bool) (sort : Sort) (word : List ℕ) (Q R : Phrase → Type 0) (name text : List ℕ)
    → ((at place : ℕ) (f : Phrase) → Q f → R (ph.quantified at all (of_type (type_of sort) (record { at = place; text = name }) ∷ []) f))
    → IsSortRanged sort → list_all is_ascii_alphabetic word ≡ true → command_of (92 ∷ word) ≡ quantifier all
    → is_name name ≡ true → word_of name ≡ t.Identifier → Spells n unary Q text → Spells (suc n) unary R (quantified_text word sort name text)
quantified_spelled n all sort word Q R name text r ranged letters command w i h = record {
  wherever = λ s d rest a e p.
      let of = sort_text sort in
      let q = quantified_rest word sort name text rest in
      let body = text ++ rest in
      let e1 = subst (Ends s.bytes) q e in
      let e2 = ends_behind s.bytes (92 ∷ word) (32 ∷ (of ++ (32 ∷ (name ++ (59 ∷ (32 ∷ body)))))) e1 in
      let e3 = ends_behind s.bytes (32 ∷ []) (of ++ (32 ∷ (name ++ (59 ∷ (32 ∷ body))))) e2 in
      let e4 = ends_behind s.bytes of (32 ∷ (name ++ (59 ∷ (32 ∷ body)))) e3 in
      let e5 = ends_behind s.bytes (32 ∷ []) (name ++ (59 ∷ (32 ∷ body))) e4 in
      let e6 = ends_behind s.bytes name (59 ∷ (32 ∷ body)) e5 in
      let e7 = ends_behind s.bytes (59 ∷ []) (32 ∷ body) e6 in
      let e8 = ends_behind s.bytes (32 ∷ []) body e7 in
      let g = h.wherever s (suc d) rest (deeper s d n a) e8 p in
      let x = lexeme_at s.bytes (quantified_text word sort name body) (length (92 ∷ word)) (command_of (92 ∷ word)) in
      let z = lexeme_at s.bytes (name ++ (59 ∷ (32 ∷ body))) (length name) (word_of name) in
      let v = lexeme_at s.bytes (59 ∷ (32 ∷ body)) 1 t.Semicolon in
      let same = text-lexed s.bytes name (59 ∷ (32 ∷ body)) (word_of name) e5 in
      subst (λ u. Derived s d unary R u rest) (sym q) (record {
        expression = expr x.at (form.Quantified all (of_type (type_of sort) (name_of s z) ∷ []) g.expression);
        derived = unary_bound {all = all} {x = x} {c = v}
            (record {
              parts = command_lexed s.bytes word (32 ∷ (of ++ (32 ∷ (name ++ (59 ∷ (32 ∷ body)))))) e1 letters refl
                  ∙ ap (λ u. x ∷ u) (blank_lexed s.bytes (of ++ (32 ∷ (name ++ (59 ∷ (32 ∷ body))))) e2);
              is = command;
            })
            (bound_first {several = false} {x = z}
            (subst (IsType s (type_of sort) (tokens_at s.bytes (of ++ (32 ∷ (name ++ (59 ∷ (32 ∷ body)))))))
            (blank_lexed s.bytes (name ++ (59 ∷ (32 ∷ body))) e4)
            (type_read s a.numerals sort (32 ∷ (name ++ (59 ∷ (32 ∷ body)))) ranged e3 refl))
            (record { parts = name_lexed s.bytes name (59 ∷ (32 ∷ body)) e5 w refl; is = i })
            (a.levels _ d (omega arith)))
            (record { parts = sign_lexed s.bytes (32 ∷ body) 59 t.Semicolon e6 refl ∙ ap (λ u. v ∷ u) (blank_lexed s.bytes body e7); is = refl })
            g.derived;
        is = subst R (sym (phrase-form _ ∙ phrase-Quantified _ _ _ _
            ∙ ap (λ u. ph.quantified x.at all (of_type (type_of sort) (record { at = z.at; text = u }) ∷ []) (phrase g.expression)) same)) (r x.at z.at (phrase g.expression) g.is);
      });
}
