-- Sums: terms with their signs.
use Rattle.std.proofs.Common.{ℕ, ◌≡◌, Bool, true, false, List, [], ◌∷◌, ◌++◌, map, refl, sym, ap, subst, ◌∙◌, append_assoc, append-nil}
use Rattle.pri_tokens.specs.declared.terminals.Lexeme.{Lexeme}
use Rattle.pri_reader.specs.declared.tree.Expr.{Expr}
use Rattle.pri_reader.specs.declared.tree.Form.TheVariants as form
use Rattle.pri_reader.specs.declared.tree.Added.{Added}
use Rattle.pri_reader.specs.Grammar.{Setting, right, sum, multiplication, sum_all, term_first, expr, Terms, summed, added, term_next, adding_sign}
use Rattle.form_typed.specs.Formula.{Expression, total, expressions}
use Rattle.pri_typing.specs.Phrase.{Phrase, phrase}
use Rattle.pri_typing.specs.Phrase as ph
use Rattle.pri_typing.specs.Scope.{Scope}
use Rattle.pri_typing.specs.Faults.{addend_faults}
use Rattle.pri_typing.specs.Typing.{signed_terms}
use Rattle.pri_printer.specs.Text.{adding_text, added_texts}
use Rattle.pri_printer.specs.Formulas.{later, summation}
use Rattle.pri_printer.proofs.Writing.{Ends, tokens_at, is_parted}
use Rattle.pri_printer.proofs.Spells.{Allows, Derived, Spells, IsTerm}
use Rattle.pri_printer.proofs.Lexing.{ends_behind}
use Rattle.pri_printer.proofs.Spelling.{IsSign, plus_sign, minus_sign}
use Rattle.pri_typing.proofs.Folds.{phrase-form, phrase-Sum, addend-term}

-- the terms, with their signs, type as these
AreTerms : Scope → List Added → List (Bool × Expression) → Type 0
AreTerms sc [] [] = Unit {0}
AreTerms sc [] (t ∷ ts) = ⊥
AreTerms sc (a ∷ terms) [] = ⊥
AreTerms sc (a ∷ terms) (t ∷ ts) = (a.minus ≡ t.0) × IsTerm sc t.1 (phrase a.term) × AreTerms sc terms ts

terms_behind : (sc : Scope) (es : List Added) (ts : List (Bool × Expression)) (e : Added) (t : Bool × Expression) → AreTerms sc es ts
    → e.minus ≡ t.0 → IsTerm sc t.1 (phrase e.term) → AreTerms sc (es ++ e ∷ []) (ts ++ t ∷ [])
unfolding AreTerms
terms_behind sc [] [] e t a m i = (m, i, tt)
terms_behind sc [] (u ∷ ts) e t a m i = absurd a
terms_behind sc (h ∷ es) [] e t a m i = absurd a
terms_behind sc (h ∷ es) (u ∷ ts) e t a m i = (a.0, a.1, terms_behind sc es ts e t a.2 m i)

addends_are : (sc : Scope) (es : List Added) (ts : List (Bool × Expression)) → AreTerms sc es ts
    → (addend_faults sc (ph.addends_of es) ≡ []) × (signed_terms sc (ph.addends_of es) ≡ expressions (map later ts))
unfolding AreTerms
addends_are sc [] [] a = (refl, refl)
addends_are sc [] (t ∷ ts) a = absurd a
addends_are sc (e ∷ es) [] a = absurd a
addends_are sc (e ∷ es) (t ∷ ts) a =
    let m = addends_are sc es ts a.2 in
    (rw (addend-term e, a.1.faultless (ph.first_token (phrase e.term)), m.0) refl, rw (addend-term e, a.0, a.1.is, m.1) refl)

sum_is : (sc : Scope) (a : Added) (more : List Added) (t : Bool × Expression) (ts : List (Bool × Expression)) → t.0 ≡ false
    → AreTerms sc (a ∷ more) (t ∷ ts) → IsTerm sc (total (expressions (t.1 ∷ map later ts))) (phrase (expr a.term.at (form.Sum a.term more)))
unfolding AreTerms
sum_is sc a more t ts z h =
    let m = addends_are sc more ts h.2 in
    subst (IsTerm sc (total (expressions (t.1 ∷ map later ts)))) (sym (phrase-form _ ∙ phrase-Sum _ _ _))
    (record { faultless = λ x. rw (h.1.faultless (ph.first_token (phrase a.term)), m.0) refl; is = rw (h.1.is, m.1) refl })

summed_is : (sc : Scope) (before : List Added) (sign : Bool) (last : Expr) (t : Expression) (ts : List (Bool × Expression))
    → AreTerms sc (before ++ added sign last ∷ []) ((false, t) ∷ ts) → IsTerm sc (summation t ts) (phrase (summed before sign last))
unfolding AreTerms
summed_is sc [] sign last t [] a = a.1
summed_is sc [] sign last t (u ∷ ts) a = absurd a.2
summed_is sc (b ∷ []) sign last t [] a = absurd a.2
summed_is sc (b ∷ b2 ∷ before) sign last t [] a = absurd a.2
summed_is sc (b ∷ before) sign last t (u ∷ ts) a = sum_is sc b (before ++ added sign last ∷ []) (false, t) (u ∷ ts) refl a

record Summed (s : Setting) (d : ℕ) (sc : Scope) (ts : List (Bool × Expression)) (start : List Lexeme) (rest : List ℕ) : Type 0 where
  before : List Added
  sign : Bool
  last : Expr
  derived : Terms s d before sign last start (tokens_at s.bytes rest)
  are : AreTerms sc (before ++ added sign last ∷ []) ts

-- each of the texts spells its term
abbrev pub AreTermsSpelled : ℕ → Scope → List (Bool × List ℕ) → List (Bool × Expression) → Type 0
AreTermsSpelled n sc [] [] = Unit {0}
AreTermsSpelled n sc [] (t ∷ ts) = ⊥
AreTermsSpelled n sc (u ∷ us) [] = ⊥
AreTermsSpelled n sc (u ∷ us) (t ∷ ts) = (u.0 ≡ t.0) × Spells n (right multiplication) (IsTerm sc t.1) u.1 × AreTermsSpelled n sc us ts

adding_is : (b : Bool) → IsSign (adding_sign b) (adding_text b)
adding_is true = minus_sign
adding_is false = plus_sign

parted_added : (us : List (Bool × List ℕ)) (rest : List ℕ) → is_parted rest ≡ true → is_parted (added_texts us ++ rest) ≡ true
parted_added [] rest p = p
parted_added (u ∷ us) rest p = ap is_parted (append_assoc (adding_text u.0) (u.1 ++ added_texts us) rest) ∙ (adding_is u.0).parted _

sum_on : (n : ℕ) (sc : Scope) (s : Setting) (d : ℕ) (a : Allows s d n) (start : List Lexeme)
    (us : List (Bool × List ℕ)) (new ts : List (Bool × Expression)) (rest : List ℕ) → AreTermsSpelled n sc us new
    → Ends s.bytes (added_texts us ++ rest) → is_parted rest ≡ true
    → Summed s d sc ts start (added_texts us ++ rest) → Summed s d sc (ts ++ new) start rest
sum_on n sc s d a start [] [] ts rest h e p m = subst (λ z. Summed s d sc z start rest) (sym (append-nil ts)) m
sum_on n sc s d a start [] (t ∷ new) ts rest h e p m = absurd h
sum_on n sc s d a start (u ∷ us) [] ts rest h e p m = absurd h
sum_on n sc s d a start (u ∷ us) (t ∷ new) ts rest h e p m =
    let more = added_texts us ++ rest in
    let sign = adding_text u.0 in
    let i = adding_is u.0 in
    let q : added_texts (u ∷ us) ++ rest ≡ sign ++ (u.1 ++ more) =
    append_assoc sign (u.1 ++ added_texts us) rest ∙ ap (λ z. sign ++ z) (append_assoc u.1 (added_texts us) rest) in
    let e1 = subst (Ends s.bytes) q e in
    let e2 = ends_behind s.bytes sign (u.1 ++ more) e1 in
    let e3 = ends_behind s.bytes u.1 more e2 in
    let x = i.lexed s.bytes (u.1 ++ more) e1 in
    let f = h.1.wherever s d more a e2 (parted_added us rest p) in
    let m1 = subst (λ z. Summed s d sc ts start z) q m in
    subst (λ z. Summed s d sc z start rest) (append_assoc ts (t ∷ []) new)
    (sum_on n sc s d a start us new (ts ++ t ∷ []) rest h.2 e3 p (record {
      before = m1.before ++ added m1.sign m1.last ∷ [];
      sign = u.0;
      last = f.expression;
      derived = term_next {new = u.0} m1.derived x.1 f.derived;
      are = terms_behind sc (m1.before ++ added m1.sign m1.last ∷ []) ts (added u.0 f.expression) t m1.are h.0 f.is;
    }))

-- a sum
pub sum_spelled : (n : ℕ) (sc : Scope) (u : List ℕ) (us : List (Bool × List ℕ)) (t : Expression) (ts : List (Bool × Expression))
    → Spells n (right multiplication) (IsTerm sc t) u → AreTermsSpelled n sc us ts → Spells n sum (IsTerm sc (summation t ts)) (u ++ added_texts us)
unfolding AreTerms
sum_spelled n sc u us t ts k h = record {
  wherever = λ s d rest a e p.
      let q = append_assoc u (added_texts us) rest in
      let more = added_texts us ++ rest in
      let e1 = subst (Ends s.bytes) q e in
      let g = k.wherever s d more a e1 (parted_added us rest p) in
      let m = sum_on n sc s d a (tokens_at s.bytes (u ++ more)) us ts ((false, t) ∷ []) rest h (ends_behind s.bytes u more e1) p
      (record {
        before = [];
        sign = false;
        last = g.expression;
        derived = term_first g.derived;
        are = terms_behind sc [] [] (added false g.expression) (false, t) tt refl g.is;
      }) in
      subst (λ z. Derived s d sum (IsTerm sc (summation t ts)) z rest) (sym q) (record {
        expression = summed m.before m.sign m.last;
        derived = sum_all m.derived;
        is = summed_is sc m.before m.sign m.last t ts m.are;
      });
}
