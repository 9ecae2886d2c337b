-- Lists of terms: the arguments of a symbol, and sums.
use Rattle.std.proofs.Common.{ℕ, suc, ◌≡◌, Bool, true, false, ◌&&◌, List, [], ◌∷◌, ◌++◌, length, map, refl, sym, ap, subst, ◌∙◌, arith, append_assoc, append-nil}
use Rattle.pri_tokens.specs.declared.terminals.Lexeme.{Lexeme}
use Rattle.pri_tokens.specs.declared.terminals.Terminal.TheVariants as t
use Rattle.pri_tokens.specs.Kinds.{is_name}
use Rattle.pri_tokens.specs.Spellings.{word_of}
use Rattle.pri_reader.specs.declared.tree.Expr.{Expr}
use Rattle.pri_reader.specs.declared.tree.Added.{Added}
use Rattle.pri_reader.specs.declared.tree.Form.TheVariants as form
use Rattle.pri_reader.specs.Grammar.{Setting, whole, primary, expr, name_of, Arguments, argument_first, argument_next, use_applied, right, sum, multiplication, sum_all, term_first, Terms, summed, added, term_next}
use Rattle.form_typed.specs.Formula.{Expression, total, expressions}
use Rattle.pri_typing.specs.declared.scope.Category.TheVariants as category
use Rattle.pri_typing.specs.Phrase.{Phrase, Phrases, phrase, count}
use Rattle.pri_typing.specs.Phrase as ph
use Rattle.pri_typing.specs.Scope.{Scope}
use Rattle.pri_typing.specs.Faults.{all_faults, addend_faults, is_numeral, are_numerals}
use Rattle.pri_typing.specs.Typing.{terms, signed_terms}
use Rattle.pri_printer.specs.Text.{behind_each}
use Rattle.itp_printer.specs.Text.{grouped}
use Rattle.pri_printer.proofs.Writing.{Ends, tokens_at, is_parted, lexeme_at}
use Rattle.pri_printer.proofs.Spells.{Allows, Derived, Spells, IsTerm}
use Rattle.pri_printer.proofs.Lexing.{ends_behind, sign_lexed, name_lexed, text-lexed}
use Rattle.pri_printer.proofs.Spelling.{plus_sign}
use Rattle.itp_printer.proofs.Steps.{deeper, parted_each}
use Rattle.itp_printer.proofs.Productions.{comma_sign, group_rest}
use Rattle.pri_typing.proofs.Folds.{phrase-form, phrase-Use, phrase-Sum, addend-term}

-- a term, with whether it is built of numbers alone
abbrev pub Said : Type 0
Said = Expression × Bool

-- the phrase types as this term, and is a numeral expression where the term is built of numbers alone
pub record IsSaid (sc : Scope) (a : Said) (p : Phrase) : Type 0 where
  pub term : IsTerm sc a.0 p
  pub numeral : a.1 ≡ true → is_numeral p ≡ true

-- Arguments.

-- the expressions type as these terms
AreArguments : Scope → List Expr → List Said → Type 0
AreArguments sc [] [] = Unit {0}
AreArguments sc [] (a ∷ os) = ⊥
AreArguments sc (e ∷ es) [] = ⊥
AreArguments sc (e ∷ es) (a ∷ os) = IsSaid sc a (phrase e) × AreArguments sc es os

arguments_behind : (sc : Scope) (es : List Expr) (os : List Said) (e : Expr) (a : Said) → AreArguments sc es os → IsSaid sc a (phrase e)
    → AreArguments sc (es ++ e ∷ []) (os ++ a ∷ [])
unfolding AreArguments
arguments_behind sc [] [] e a h i = (i, tt)
arguments_behind sc [] (b ∷ os) e a h i = absurd h
arguments_behind sc (g ∷ es) [] e a h i = absurd h
arguments_behind sc (g ∷ es) (b ∷ os) e a h i = (h.0, arguments_behind sc es os e a h.1 i)

-- what a list of phrases is, as arguments
pub record AreTermsOf (sc : Scope) (os : List Said) (ps : Phrases) : Type 0 where
  pub faultless : all_faults sc category.Term ps ≡ []
  pub are : terms sc ps ≡ expressions (map (λ a. a.0) os)
  pub many : count ps ≡ length os

arguments_are : (sc : Scope) (es : List Expr) (os : List Said) → AreArguments sc es os → AreTermsOf sc os (ph.phrases_of es)
unfolding AreArguments
arguments_are sc [] [] h = record { faultless = refl; are = refl; many = refl }
arguments_are sc [] (a ∷ os) h = absurd h
arguments_are sc (e ∷ es) [] h = absurd h
arguments_are sc (e ∷ es) (a ∷ os) h =
    let m = arguments_are sc es os h.1 in
    record {
      faultless = rw (h.0.term.faultless (ph.first_token (phrase e)), m.faultless) refl;
      are = rw (h.0.term.is, m.are) refl;
      many = ap suc m.many;
    }

record Argued (s : Setting) (d : ℕ) (sc : Scope) (os : List Said) (start : List Lexeme) (rest : List ℕ) : Type 0 where
  before : List Expr
  last : Expr
  derived : Arguments s d before last start (tokens_at s.bytes rest)
  are : AreArguments sc (before ++ last ∷ []) os

-- each of the texts spells its term, as an argument
abbrev pub AreArgumentsSpelled : ℕ → Scope → List (List ℕ) → List Said → Type 0
AreArgumentsSpelled n sc [] [] = Unit {0}
AreArgumentsSpelled n sc [] (a ∷ os) = ⊥
AreArgumentsSpelled n sc (u ∷ us) [] = ⊥
AreArgumentsSpelled n sc (u ∷ us) (a ∷ os) = Spells n whole (IsSaid sc a) u × AreArgumentsSpelled n sc us os

arguments_on : (n : ℕ) (sc : Scope) (s : Setting) (d : ℕ) (a : Allows s d n) (start : List Lexeme)
    (us : List (List ℕ)) (new os : List Said) (rest : List ℕ) → AreArgumentsSpelled n sc us new
    → Ends s.bytes (behind_each (44 ∷ 32 ∷ []) us ++ rest) → is_parted rest ≡ true
    → Argued s d sc os start (behind_each (44 ∷ 32 ∷ []) us ++ rest) → Argued s d sc (os ++ new) start rest
arguments_on n sc s d a start [] [] os rest h e p m = subst (λ z. Argued s d sc z start rest) (sym (append-nil os)) m
arguments_on n sc s d a start [] (b ∷ new) os rest h e p m = absurd h
arguments_on n sc s d a start (u ∷ us) [] os rest h e p m = absurd h
arguments_on n sc s d a start (u ∷ us) (b ∷ new) os rest h e p m =
    let sign = 44 ∷ 32 ∷ [] in
    let more = behind_each sign us ++ rest in
    let q : behind_each sign (u ∷ us) ++ rest ≡ sign ++ (u ++ more) =
    append_assoc sign (u ++ behind_each sign us) rest ∙ ap (λ z. sign ++ z) (append_assoc u (behind_each sign us) rest) in
    let e1 = subst (Ends s.bytes) q e in
    let e2 = ends_behind s.bytes sign (u ++ more) e1 in
    let e3 = ends_behind s.bytes u more e2 in
    let x = comma_sign.lexed s.bytes (u ++ more) e1 in
    let f = h.0.wherever s d more a e2 (parted_each sign (comma_sign.parted) us rest p) in
    let m1 = subst (λ z. Argued s d sc os start z) q m in
    subst (λ z. Argued s d sc z start rest) (append_assoc os (b ∷ []) new)
    (arguments_on n sc s d a start us new (os ++ b ∷ []) rest h.1 e3 p (record {
      before = m1.before ++ m1.last ∷ [];
      last = f.expression;
      derived = argument_next m1.derived x.1 f.derived;
      are = arguments_behind sc (m1.before ++ m1.last ∷ []) os f.expression b m1.are f.is;
    }))

-- what a use of this name is
abbrev UseIs : Scope → List ℕ → List Said → (Phrase → Type 0) → Type 0
UseIs sc symbol os R = (at place : ℕ) (ps : Phrases) → AreTermsOf sc os ps → R (ph.used at (record { at = place; text = symbol }) ps)

-- a name with its arguments in parentheses
pub applied_spelled : (n : ℕ) (sc : Scope) (R : Phrase → Type 0) (symbol u : List ℕ) (us : List (List ℕ)) (a : Said) (os : List Said)
    → UseIs sc symbol (a ∷ os) R → is_name symbol ≡ true → word_of symbol ≡ t.Identifier
    → AreArgumentsSpelled n sc (u ∷ us) (a ∷ os) → Spells (suc n) primary R (symbol ++ grouped (u ++ behind_each (44 ∷ 32 ∷ []) us))
unfolding AreArguments
applied_spelled n sc R symbol u us a os r w i h = record {
  wherever = λ s d rest al e p.
      let sign = 44 ∷ 32 ∷ [] in
      let list = u ++ behind_each sign us in
      let close = 41 ∷ rest in
      let more = behind_each sign us ++ close in
      let q : (symbol ++ grouped list) ++ rest ≡ symbol ++ (40 ∷ (u ++ more)) =
      append_assoc symbol (grouped list) rest ∙ ap (λ z. symbol ++ z) (group_rest list rest ∙ ap (λ z. 40 ∷ z) (append_assoc u (behind_each sign us) close)) in
      let e1 = subst (Ends s.bytes) q e in
      let e2 = ends_behind s.bytes symbol (40 ∷ (u ++ more)) e1 in
      let e3 = ends_behind s.bytes (40 ∷ []) (u ++ more) e2 in
      let e4 = ends_behind s.bytes u more e3 in
      let e5 = ends_behind s.bytes (behind_each sign us) close e4 in
      let inner = deeper s d n al in
      let g = h.0.wherever s (suc d) more inner e3 (parted_each sign comma_sign.parted us close refl) in
      let m = arguments_on n sc s (suc d) inner (tokens_at s.bytes (u ++ more)) us os (a ∷ []) close h.1 e4 refl
      (record { before = []; last = g.expression; derived = argument_first g.derived; are = arguments_behind sc [] [] g.expression a tt g.is }) in
      let x = lexeme_at s.bytes (symbol ++ (40 ∷ (u ++ more))) (length symbol) (word_of symbol) in
      let o = lexeme_at s.bytes (40 ∷ (u ++ more)) 1 t.OpenParenthesis in
      let c = lexeme_at s.bytes close 1 t.CloseParenthesis in
      let same = text-lexed s.bytes symbol (40 ∷ (u ++ more)) (word_of symbol) e1 in
      subst (λ z. Derived s d primary R z rest) (sym q) (record {
        expression = expr x.at (form.Use (name_of s x) (m.before ++ m.last ∷ []));
        derived = use_applied {x = x} {o = o} {c = c}
            (record { parts = name_lexed s.bytes symbol (40 ∷ (u ++ more)) e1 w refl; is = i })
            (record { parts = sign_lexed s.bytes (u ++ more) 40 t.OpenParenthesis e2 refl; is = refl })
            (al.levels _ d (omega arith)) m.derived
            (record { parts = sign_lexed s.bytes rest 41 t.CloseParenthesis e5 refl; is = refl });
        is = subst R (sym (phrase-form _ ∙ phrase-Use _ _ _
            ∙ ap (λ z. ph.used x.at (record { at = x.at; text = z }) (ph.phrases_of (m.before ++ m.last ∷ []))) same))
            (r x.at x.at (ph.phrases_of (m.before ++ m.last ∷ [])) (arguments_are sc (m.before ++ m.last ∷ []) (a ∷ os) m.are));
      });
}

-- Sums.

-- whether all are built of numbers alone
abbrev pub all_numeric : List Said → Bool
all_numeric [] = true
all_numeric (a ∷ os) = a.1 && all_numeric os

-- the later terms, each with a plus, type as these
AreAddends : Scope → List Added → List Said → Type 0
AreAddends sc [] [] = Unit {0}
AreAddends sc [] (a ∷ os) = ⊥
AreAddends sc (e ∷ es) [] = ⊥
AreAddends sc (e ∷ es) (a ∷ os) = (e.minus ≡ false) × IsSaid sc a (phrase e.term) × AreAddends sc es os

addends_behind : (sc : Scope) (es : List Added) (os : List Said) (e : Added) (a : Said) → AreAddends sc es os
    → e.minus ≡ false → IsSaid sc a (phrase e.term) → AreAddends sc (es ++ e ∷ []) (os ++ a ∷ [])
unfolding AreAddends
addends_behind sc [] [] e a h m i = (m, i, tt)
addends_behind sc [] (b ∷ os) e a h m i = absurd h
addends_behind sc (g ∷ es) [] e a h m i = absurd h
addends_behind sc (g ∷ es) (b ∷ os) e a h m i = (h.0, h.1, addends_behind sc es os e a h.2 m i)

both_true : (a b : Bool) → (a && b) ≡ true → (a ≡ true) × (b ≡ true)
both_true true true h = (refl, refl)
both_true true false h = absurd cc
both_true false b h = absurd cc

record AreAdded (sc : Scope) (os : List Said) (es : ph.Addends) : Type 0 where
  faultless : addend_faults sc es ≡ []
  are : signed_terms sc es ≡ expressions (map (λ a. a.0) os)
  numerals : all_numeric os ≡ true → are_numerals es ≡ true

addends_are : (sc : Scope) (es : List Added) (os : List Said) → AreAddends sc es os → AreAdded sc os (ph.addends_of es)
unfolding AreAddends
addends_are sc [] [] h = record { faultless = refl; are = refl; numerals = λ k. refl }
addends_are sc [] (a ∷ os) h = absurd h
addends_are sc (e ∷ es) [] h = absurd h
addends_are sc (e ∷ es) (a ∷ os) h =
    let m = addends_are sc es os h.2 in
    record {
      faultless = rw (addend-term e, h.1.term.faultless (ph.first_token (phrase e.term)), m.faultless) refl;
      are = rw (addend-term e, h.0, h.1.term.is, m.are) refl;
      numerals = λ k. let both = both_true a.1 (all_numeric os) k in rw (addend-term e, h.1.numeral both.0, m.numerals both.1) refl;
    }

-- the sum of these terms, one of which is itself
abbrev pub sum_of_said : Said → List Said → Said
sum_of_said a [] = a
sum_of_said a (b ∷ os) = (total (expressions (map (λ c. c.0) (a ∷ b ∷ os))), all_numeric (a ∷ b ∷ os))

sum_is : (sc : Scope) (e : Added) (more : List Added) (a b : Said) (os : List Said) → AreAddends sc (e ∷ more) (a ∷ b ∷ os)
    → IsSaid sc (sum_of_said a (b ∷ os)) (phrase (expr e.term.at (form.Sum e.term more)))
unfolding AreAddends
sum_is sc e more a b os h =
    let m = addends_are sc more (b ∷ os) h.2 in
    subst (IsSaid sc (sum_of_said a (b ∷ os))) (sym (phrase-form _ ∙ phrase-Sum _ _ _)) (record {
      term = record { faultless = λ x. rw (h.1.term.faultless (ph.first_token (phrase e.term)), m.faultless) refl; is = rw (h.1.term.is, m.are) refl };
      numeral = λ k. let both = both_true a.1 (all_numeric (b ∷ os)) k in rw (h.1.numeral both.0, m.numerals both.1) refl;
    })

summed_is : (sc : Scope) (before : List Added) (sign : Bool) (last : Expr) (a : Said) (os : List Said)
    → AreAddends sc (before ++ added sign last ∷ []) (a ∷ os) → IsSaid sc (sum_of_said a os) (phrase (summed before sign last))
unfolding AreAddends
summed_is sc [] sign last a [] h = h.1
summed_is sc [] sign last a (b ∷ os) h = absurd h.2
summed_is sc (e ∷ []) sign last a [] h = absurd h.2
summed_is sc (e ∷ e2 ∷ before) sign last a [] h = absurd h.2
summed_is sc (e ∷ before) sign last a (b ∷ os) h = sum_is sc e (before ++ added sign last ∷ []) a b os h

record Summed (s : Setting) (d : ℕ) (sc : Scope) (os : List Said) (start : List Lexeme) (rest : List ℕ) : Type 0 where
  before : List Added
  sign : Bool
  last : Expr
  derived : Terms s d before sign last start (tokens_at s.bytes rest)
  are : AreAddends sc (before ++ added sign last ∷ []) os

-- each of the texts spells its term, as a term of a sum
abbrev pub AreAddendsSpelled : ℕ → Scope → List (List ℕ) → List Said → Type 0
AreAddendsSpelled n sc [] [] = Unit {0}
AreAddendsSpelled n sc [] (a ∷ os) = ⊥
AreAddendsSpelled n sc (u ∷ us) [] = ⊥
AreAddendsSpelled n sc (u ∷ us) (a ∷ os) = Spells n (right multiplication) (IsSaid sc a) u × AreAddendsSpelled n sc us os

sum_on : (n : ℕ) (sc : Scope) (s : Setting) (d : ℕ) (a : Allows s d n) (start : List Lexeme)
    (us : List (List ℕ)) (new os : List Said) (rest : List ℕ) → AreAddendsSpelled n sc us new
    → Ends s.bytes (behind_each (32 ∷ 43 ∷ 32 ∷ []) us ++ rest) → is_parted rest ≡ true
    → Summed s d sc os start (behind_each (32 ∷ 43 ∷ 32 ∷ []) us ++ rest) → Summed s d sc (os ++ new) start rest
sum_on n sc s d a start [] [] os rest h e p m = subst (λ z. Summed s d sc z start rest) (sym (append-nil os)) m
sum_on n sc s d a start [] (b ∷ new) os rest h e p m = absurd h
sum_on n sc s d a start (u ∷ us) [] os rest h e p m = absurd h
sum_on n sc s d a start (u ∷ us) (b ∷ new) os rest h e p m =
    let sign = 32 ∷ 43 ∷ 32 ∷ [] in
    let more = behind_each sign us ++ rest in
    let q : behind_each sign (u ∷ us) ++ rest ≡ sign ++ (u ++ more) =
    append_assoc sign (u ++ behind_each sign us) rest ∙ ap (λ z. sign ++ z) (append_assoc u (behind_each sign us) rest) in
    let e1 = subst (Ends s.bytes) q e in
    let e2 = ends_behind s.bytes sign (u ++ more) e1 in
    let e3 = ends_behind s.bytes u more e2 in
    let x = plus_sign.lexed s.bytes (u ++ more) e1 in
    let f = h.0.wherever s d more a e2 (parted_each sign (plus_sign.parted) us rest p) in
    let m1 = subst (λ z. Summed s d sc os start z) q m in
    subst (λ z. Summed s d sc z start rest) (append_assoc os (b ∷ []) new)
    (sum_on n sc s d a start us new (os ++ b ∷ []) rest h.1 e3 p (record {
      before = m1.before ++ added m1.sign m1.last ∷ [];
      sign = false;
      last = f.expression;
      derived = term_next {new = false} m1.derived x.1 f.derived;
      are = addends_behind sc (m1.before ++ added m1.sign m1.last ∷ []) os (added false f.expression) b m1.are refl f.is;
    }))

pub total_spelled : (n : ℕ) (sc : Scope) (u : List ℕ) (us : List (List ℕ)) (a : Said) (os : List Said) → AreAddendsSpelled n sc (u ∷ us) (a ∷ os)
    → Spells n sum (IsSaid sc (sum_of_said a os)) (u ++ behind_each (32 ∷ 43 ∷ 32 ∷ []) us)
unfolding AreAddends
total_spelled n sc u us a os h = record {
  wherever = λ s d rest al e p.
      let sign = 32 ∷ 43 ∷ 32 ∷ [] in
      let q = append_assoc u (behind_each sign us) rest in
      let more = behind_each sign us ++ rest in
      let e1 = subst (Ends s.bytes) q e in
      let g = h.0.wherever s d more al e1 (parted_each sign plus_sign.parted us rest p) in
      let m = sum_on n sc s d al (tokens_at s.bytes (u ++ more)) us os (a ∷ []) rest h.1 (ends_behind s.bytes u more e1) p
      (record {
        before = [];
        sign = false;
        last = g.expression;
        derived = term_first g.derived;
        are = addends_behind sc [] [] (added false g.expression) a tt refl g.is;
      }) in
      subst (λ z. Derived s d sum (IsSaid sc (sum_of_said a os)) z rest) (sym q) (record {
        expression = summed m.before m.sign m.last;
        derived = sum_all m.derived;
        is = summed_is sc m.before m.sign m.last a os m.are;
      });
}
