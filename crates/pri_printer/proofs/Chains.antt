-- Conjunctions, disjunctions and sums: texts with a sign between each two.
use Rattle.std.proofs.Common.{ℕ, ◌≡◌, true, List, [], ◌∷◌, ◌++◌, refl, sym, ap, subst, ◌∙◌, append_assoc, append-nil}
use Rattle.pri_tokens.specs.declared.terminals.Lexeme.{Lexeme}
use Rattle.pri_reader.specs.declared.tree.Expr.{Expr}
use Rattle.pri_reader.specs.Grammar.{Setting, chain, disjunction, conjunction, chain_all, member_first, chained, listed, Members, member, chain_sign, Chain, member_next}
use Rattle.form_typed.specs.Formula.{Formula, Formulas, every, some, formulas}
use Rattle.pri_typing.specs.declared.scope.Category.TheVariants as category
use Rattle.pri_typing.specs.Phrase.{Phrase, phrase}
use Rattle.pri_typing.specs.Phrase as ph
use Rattle.pri_typing.specs.Scope.{Scope}
use Rattle.pri_typing.specs.Faults.{all_faults}
use Rattle.pri_typing.specs.Typing.{members}
use Rattle.pri_printer.specs.Text.{behind_each}
use Rattle.pri_printer.specs.Formulas.{joined_by}
use Rattle.pri_printer.proofs.Writing.{Ends, tokens_at, is_parted}
use Rattle.pri_printer.proofs.Spells.{Allows, Derived, Spells, IsFormula}
use Rattle.pri_printer.proofs.Lexing.{ends_behind}
use Rattle.pri_printer.proofs.Spelling.{IsSign}
use Rattle.pri_typing.proofs.Folds.{phrase-form, phrase-And, phrase-Or}

-- the expressions type as these formulas
AreFormulas : Scope → List Expr → List Formula → Type 0
AreFormulas sc [] [] = Unit {0}
AreFormulas sc [] (f ∷ fs) = ⊥
AreFormulas sc (e ∷ es) [] = ⊥
AreFormulas sc (e ∷ es) (f ∷ fs) = IsFormula sc f (phrase e) × AreFormulas sc es fs

formulas_behind : (sc : Scope) (es : List Expr) (fs : List Formula) (e : Expr) (f : Formula) → AreFormulas sc es fs → IsFormula sc f (phrase e)
    → AreFormulas sc (es ++ e ∷ []) (fs ++ f ∷ [])
unfolding AreFormulas
formulas_behind sc [] [] e f a i = (i, tt)
formulas_behind sc [] (g ∷ fs) e f a i = absurd a
formulas_behind sc (h ∷ es) [] e f a i = absurd a
formulas_behind sc (h ∷ es) (g ∷ fs) e f a i = (a.0, formulas_behind sc es fs e f a.1 i)

-- the formulas of a chain, as one
abbrev pub connective : Chain → Formulas → Formula
connective disjunction fs = some fs
connective conjunction fs = every fs

abbrev pub connected : Chain → List Formula → Formula
connected c fs = connective c (formulas fs)

abbrev pub connection : Chain → List Formula → Formula
connection c fs = joined_by (connective c) fs

members_are : (sc : Scope) (es : List Expr) (fs : List Formula) → AreFormulas sc es fs
    → (all_faults sc category.Formula (ph.phrases_of es) ≡ []) × (members sc (ph.phrases_of es) ≡ formulas fs)
unfolding AreFormulas
members_are sc [] [] a = (refl, refl)
members_are sc [] (f ∷ fs) a = absurd a
members_are sc (e ∷ es) [] a = absurd a
members_are sc (e ∷ es) (f ∷ fs) a =
    let m = members_are sc es fs a.1 in
    (rw (a.0.faultless (ph.first_token (phrase e)), m.0) refl, rw (a.0.is, m.1) refl)

listed_is : (sc : Scope) (c : Chain) (at : Expr) (es : List Expr) (fs : List Formula) → AreFormulas sc es fs → IsFormula sc (connected c fs) (phrase (listed c at es))
listed_is sc disjunction at es fs a =
    let m = members_are sc es fs a in
    subst (IsFormula sc (some (formulas fs))) (sym (phrase-form _ ∙ phrase-Or _ _)) (record { faultless = λ x. m.0; is = ap some m.1 })
listed_is sc conjunction at es fs a =
    let m = members_are sc es fs a in
    subst (IsFormula sc (every (formulas fs))) (sym (phrase-form _ ∙ phrase-And _ _)) (record { faultless = λ x. m.0; is = ap every m.1 })

chained_is : (sc : Scope) (c : Chain) (before : List Expr) (last : Expr) (fs : List Formula) → AreFormulas sc (before ++ last ∷ []) fs
    → IsFormula sc (connection c fs) (phrase (chained c before last))
unfolding AreFormulas
chained_is sc c [] last [] a = absurd a
chained_is sc c [] last (f ∷ []) a = a.0
chained_is sc c [] last (f ∷ g ∷ fs) a = absurd a.1
chained_is sc c (b ∷ before) last [] a = absurd a
chained_is sc c (b ∷ []) last (f ∷ []) a = absurd a.1
chained_is sc c (b ∷ b2 ∷ before) last (f ∷ []) a = absurd a.1
chained_is sc c (b ∷ before) last (f ∷ g ∷ fs) a = listed_is sc c b ((b ∷ before) ++ last ∷ []) (f ∷ g ∷ fs) a

-- the tokens from the start up to the rest are members of a chain, which type as these formulas
record Chained (s : Setting) (d : ℕ) (c : Chain) (sc : Scope) (fs : List Formula) (start : List Lexeme) (rest : List ℕ) : Type 0 where
  before : List Expr
  last : Expr
  derived : Members s d c before last start (tokens_at s.bytes rest)
  are : AreFormulas sc (before ++ last ∷ []) fs

-- each of the texts spells its formula, as a member of a chain
abbrev pub AreSpelled : ℕ → Chain → Scope → List (List ℕ) → List Formula → Type 0
AreSpelled n c sc [] [] = Unit {0}
AreSpelled n c sc [] (f ∷ fs) = ⊥
AreSpelled n c sc (u ∷ us) [] = ⊥
AreSpelled n c sc (u ∷ us) (f ∷ fs) = Spells n (member c) (IsFormula sc f) u × AreSpelled n c sc us fs

parted_each : (sign : List ℕ) → ((more : List ℕ) → is_parted (sign ++ more) ≡ true) → (us : List (List ℕ)) (rest : List ℕ) → is_parted rest ≡ true
    → is_parted (behind_each sign us ++ rest) ≡ true
parted_each sign h [] rest p = p
parted_each sign h (u ∷ us) rest p = ap is_parted (append_assoc sign (u ++ behind_each sign us) rest) ∙ h _

chain_on : (n : ℕ) (c : Chain) (sc : Scope) (sign : List ℕ) (i : IsSign (chain_sign c) sign) (s : Setting) (d : ℕ) (a : Allows s d n) (start : List Lexeme)
    (us : List (List ℕ)) (gs fs : List Formula) (rest : List ℕ) → AreSpelled n c sc us gs
    → Ends s.bytes (behind_each sign us ++ rest) → is_parted rest ≡ true
    → Chained s d c sc fs start (behind_each sign us ++ rest) → Chained s d c sc (fs ++ gs) start rest
chain_on n c sc sign i s d a start [] [] fs rest h e p m = subst (λ z. Chained s d c sc z start rest) (sym (append-nil fs)) m
chain_on n c sc sign i s d a start [] (g ∷ gs) fs rest h e p m = absurd h
chain_on n c sc sign i s d a start (u ∷ us) [] fs rest h e p m = absurd h
chain_on n c sc sign i s d a start (u ∷ us) (g ∷ gs) fs rest h e p m =
    let more = behind_each sign us ++ rest in
    let q : behind_each sign (u ∷ us) ++ rest ≡ sign ++ (u ++ more) =
    append_assoc sign (u ++ behind_each sign us) rest ∙ ap (λ z. sign ++ z) (append_assoc u (behind_each sign us) rest) in
    let e1 = subst (Ends s.bytes) q e in
    let e2 = ends_behind s.bytes sign (u ++ more) e1 in
    let e3 = ends_behind s.bytes u more e2 in
    let x = i.lexed s.bytes (u ++ more) e1 in
    let f = h.0.wherever s d more a e2 (parted_each sign (i.parted) us rest p) in
    let m1 = subst (λ z. Chained s d c sc fs start z) q m in
    subst (λ z. Chained s d c sc z start rest) (append_assoc fs (g ∷ []) gs)
    (chain_on n c sc sign i s d a start us gs (fs ++ g ∷ []) rest h.1 e3 p (record {
      before = m1.before ++ m1.last ∷ [];
      last = f.expression;
      derived = member_next m1.derived x.1 f.derived;
      are = formulas_behind sc (m1.before ++ m1.last ∷ []) fs f.expression g m1.are f.is;
    }))

-- a chain of texts
pub chain_spelled : (n : ℕ) (c : Chain) (sc : Scope) (sign : List ℕ) → IsSign (chain_sign c) sign
    → (u : List ℕ) (us : List (List ℕ)) (f : Formula) (fs : List Formula) → AreSpelled n c sc (u ∷ us) (f ∷ fs)
    → Spells n (chain c) (IsFormula sc (connection c (f ∷ fs))) (u ++ behind_each sign us)
unfolding AreFormulas
chain_spelled n c sc sign i u us f fs h = record {
  wherever = λ s d rest a e p.
      let q = append_assoc u (behind_each sign us) rest in
      let more = behind_each sign us ++ rest in
      let e1 = subst (Ends s.bytes) q e in
      let g = h.0.wherever s d more a e1 (parted_each sign i.parted us rest p) in
      let m = chain_on n c sc sign i s d a (tokens_at s.bytes (u ++ more)) us fs (f ∷ []) rest h.1 (ends_behind s.bytes u more e1) p
      (record { before = []; last = g.expression; derived = member_first g.derived; are = formulas_behind sc [] [] g.expression f tt g.is }) in
      subst (λ z. Derived s d (chain c) (IsFormula sc (connection c (f ∷ fs))) z rest) (sym q) (record {
        expression = chained c m.before m.last;
        derived = chain_all m.derived;
        is = chained_is sc c m.before m.last (f ∷ fs) m.are;
      });
}
