-- Lists of operands: chains, arguments and sums.
use Rattle.std.proofs.Common.{ℕ, suc, ◌≡◌, ◌≤◌, ◌+◌, Bool, true, false, ◌&&◌, List, [], ◌∷◌, length, map, refl, arith, pos, nat_eq, Some}
use Rattle.std.proofs.lemmas.Bool.{false≢true}
use Rattle.std.proofs.lemmas.Bool.Decides.{nat_tests}
use Rattle.pri_reader.specs.Grammar.{Chain, chain, member, chain_sign, unary, sum, whole, disjunction, conjunction}
use Rattle.form_typed.specs.Formula.{Formula, Expression, expressions, applies, number, call}
use Rattle.pri_typing.specs.declared.scope.Referent.TheVariants as referent
use Rattle.pri_typing.specs.Phrase.{Phrase, Phrases}
use Rattle.pri_typing.specs.Phrase as ph
use Rattle.pri_typing.specs.Scope.{Scope, refers}
use Rattle.pri_printer.proofs.Spells.{Spells, IsFormula}
use Rattle.pri_printer.proofs.Spelling.{IsSign, spells_as, factor_spelled, product_of_one, conjunction_of_one, disjunction_of_one, whole_spelled, number_spelled, name_spelled}
use Rattle.pri_printer.proofs.Chains.{AreSpelled, chain_spelled, connective}
use Rattle.itp_printer.specs.Text.{grouped, joined_text, applied_text}
use Rattle.itp_printer.specs.Plain.{joined, summed}
use Rattle.itp_printer.proofs.Steps.{lifted}
use Rattle.itp_printer.proofs.Arguments.{Said, IsSaid, AreTermsOf, AreArgumentsSpelled, applied_spelled, AreAddendsSpelled, total_spelled, all_numeric}
use Rattle.itp_printer.proofs.Referring.{IsNamed}
use Rattle.itp_printer.proofs.SaidTerms.{Spelled, sum_of_primary, whole_of_sum, term_grouped, no_numeral}
use Rattle.itp_printer.proofs.SaidFormulas.{formula_grouped}

-- Chains.

-- each of the texts spells its formula
abbrev pub AreWhole : ℕ → Scope → List (List ℕ) → List Formula → Type 0
AreWhole n sc [] [] = Unit {0}
AreWhole n sc [] (f ∷ fs) = ⊥
AreWhole n sc (u ∷ us) [] = ⊥
AreWhole n sc (u ∷ us) (f ∷ fs) = Spells n whole (IsFormula sc f) u × AreWhole n sc us fs

pub record AllSpelled (sc : Scope) (us : List (List ℕ)) (fs : List Formula) : Type 0 where
  pub levels : ℕ
  pub spells : AreWhole levels sc us fs

lift_all : (m n : ℕ) (sc : Scope) (us : List (List ℕ)) (fs : List Formula) → m ≤ n → AreWhole m sc us fs → AreWhole n sc us fs
lift_all m n sc [] [] l h = tt
lift_all m n sc [] (f ∷ fs) l h = absurd h
lift_all m n sc (u ∷ us) [] l h = absurd h
lift_all m n sc (u ∷ us) (f ∷ fs) l h = (lifted m n whole (IsFormula sc f) u l h.0, lift_all m n sc us fs l h.1)

pub one_more_spelled : (sc : Scope) (u : List ℕ) (us : List (List ℕ)) (f : Formula) (fs : List Formula) → Spelled whole (IsFormula sc f) u → AllSpelled sc us fs
    → AllSpelled sc (u ∷ us) (f ∷ fs)
one_more_spelled sc u us f fs h k =
    let n = h.levels + k.levels in
    record { levels = n; spells = (lifted h.levels n whole (IsFormula sc f) u (omega arith) h.spells, lift_all k.levels n sc us fs (omega arith) k.spells) }

as_member : (n : ℕ) (c : Chain) (Q : Phrase → Type 0) (text : List ℕ) → Spells n unary Q text → Spells n (member c) Q text
as_member n disjunction Q text h = conjunction_of_one n Q text h
as_member n conjunction Q text h = h

members_spelled : (n : ℕ) (c : Chain) (sc : Scope) (us : List (List ℕ)) (fs : List Formula) → AreWhole n sc us fs → AreSpelled (suc n) c sc (map grouped us) fs
members_spelled n c sc [] [] h = tt
members_spelled n c sc [] (f ∷ fs) h = absurd h
members_spelled n c sc (u ∷ us) [] h = absurd h
members_spelled n c sc (u ∷ us) (f ∷ fs) h =
    (as_member (suc n) c (IsFormula sc f) (grouped u) (formula_grouped n sc f u h.0), members_spelled n c sc us fs h.1)

whole_of_chain : (n : ℕ) (c : Chain) (Q : Phrase → Type 0) (text : List ℕ) → Spells n (chain c) Q text → Spells n whole Q text
whole_of_chain n disjunction Q text h = whole_spelled n Q text h
whole_of_chain n conjunction Q text h = whole_spelled n Q text (disjunction_of_one n Q text h)

pub chain_said : (c : Chain) (sc : Scope) (none sign : List ℕ) (empty : Formula) → IsSign (chain_sign c) sign → Spelled whole (IsFormula sc empty) none
    → (us : List (List ℕ)) (fs : List Formula) → AllSpelled sc us fs → Spelled whole (IsFormula sc (joined empty (connective c) fs)) (joined_text none sign us)
chain_said c sc none sign empty i z [] [] h = z
chain_said c sc none sign empty i z [] (f ∷ fs) h = absurd h.spells
chain_said c sc none sign empty i z (u ∷ us) [] h = absurd h.spells
chain_said c sc none sign empty i z (u ∷ []) (f ∷ []) h = record { levels = h.levels; spells = h.spells.0 }
chain_said c sc none sign empty i z (u ∷ []) (f ∷ g ∷ fs) h = absurd h.spells.1
chain_said c sc none sign empty i z (u ∷ v ∷ us) (f ∷ []) h = absurd h.spells.1
chain_said c sc none sign empty i z (u ∷ v ∷ us) (f ∷ g ∷ fs) h =
    let n = suc h.levels in
    record {
      levels = n;
      spells = whole_of_chain n c _ _ (chain_spelled n c sc sign i (grouped u) (map grouped (v ∷ us)) f (g ∷ fs) (members_spelled h.levels c sc (u ∷ v ∷ us) (f ∷ g ∷ fs) h.spells));
    }

-- Arguments.

-- each of the texts spells its term
abbrev pub AreSums : ℕ → Scope → List (List ℕ) → List Said → Type 0
AreSums n sc [] [] = Unit {0}
AreSums n sc [] (a ∷ more) = ⊥
AreSums n sc (u ∷ us) [] = ⊥
AreSums n sc (u ∷ us) (a ∷ more) = Spells n sum (IsSaid sc a) u × AreSums n sc us more

pub record TermsSpelled (sc : Scope) (us : List (List ℕ)) (ts : List Said) : Type 0 where
  pub levels : ℕ
  pub spells : AreSums levels sc us ts

lift_sums : (m n : ℕ) (sc : Scope) (us : List (List ℕ)) (ts : List Said) → m ≤ n → AreSums m sc us ts → AreSums n sc us ts
lift_sums m n sc [] [] l h = tt
lift_sums m n sc [] (a ∷ ts) l h = absurd h
lift_sums m n sc (u ∷ us) [] l h = absurd h
lift_sums m n sc (u ∷ us) (a ∷ ts) l h = (lifted m n sum (IsSaid sc a) u l h.0, lift_sums m n sc us ts l h.1)

pub one_more_term : (sc : Scope) (u : List ℕ) (us : List (List ℕ)) (a : Said) (ts : List Said) → Spelled sum (IsSaid sc a) u → TermsSpelled sc us ts
    → TermsSpelled sc (u ∷ us) (a ∷ ts)
one_more_term sc u us a ts h k =
    let n = h.levels + k.levels in
    record { levels = n; spells = (lifted h.levels n sum (IsSaid sc a) u (omega arith) h.spells, lift_sums k.levels n sc us ts (omega arith) k.spells) }

arguments_spelled : (n : ℕ) (sc : Scope) (us : List (List ℕ)) (ts : List Said) → AreSums n sc us ts → AreArgumentsSpelled n sc us ts
arguments_spelled n sc [] [] h = tt
arguments_spelled n sc [] (a ∷ ts) h = absurd h
arguments_spelled n sc (u ∷ us) [] h = absurd h
arguments_spelled n sc (u ∷ us) (a ∷ ts) h = (whole_of_sum n (IsSaid sc a) u h.0, arguments_spelled n sc us ts h.1)

addends_spelled : (n : ℕ) (sc : Scope) (us : List (List ℕ)) (ts : List Said) → AreSums n sc us ts → AreAddendsSpelled (suc n) sc (map grouped us) ts
addends_spelled n sc [] [] h = tt
addends_spelled n sc [] (a ∷ ts) h = absurd h
addends_spelled n sc (u ∷ us) [] h = absurd h
addends_spelled n sc (u ∷ us) (a ∷ ts) h =
    (product_of_one (suc n) (IsSaid sc a) (grouped u) (factor_spelled (suc n) (IsSaid sc a) (grouped u) (term_grouped n sc a u h.0)), addends_spelled n sc us ts h.1)

same_number : (n : ℕ) → nat_eq n n ≡ true
same_number n = grind (arith, nat_tests)

-- the terms alone
abbrev pub terms_of : List Said → List Expression
terms_of = map (λ a. a.0)

call_is : (sc : Scope) (k : ℕ) (symbol : List ℕ) (ts : List Said) → refers sc symbol ≡ Some (referent.Function k (length ts)) → (at place : ℕ) (ps : Phrases)
    → AreTermsOf sc ts ps → IsSaid sc (call k (expressions (terms_of ts)), false) (ph.used at (record { at = place; text = symbol }) ps)
call_is sc k symbol ts e at place ps q = record {
  term = record { faultless = λ x. rw (e, q.many, same_number (length ts), q.faultless) refl; is = rw (e, q.are) refl };
  numeral = λ m. no_numeral m;
}

pub call_said : (sc : Scope) (k : ℕ) (symbol : List ℕ) (us : List (List ℕ)) (ts : List Said) → IsNamed sc (referent.Function k (length ts)) symbol → 1 ≤ length ts
    → TermsSpelled sc us ts → Spelled sum (IsSaid sc (call k (expressions (terms_of ts)), false)) (applied_text symbol us)
call_said sc k symbol us [] i l h = absurd (omega arith)
call_said sc k symbol [] (a ∷ ts) i l h = absurd h.spells
call_said sc k symbol (u ∷ us) (a ∷ ts) i l h =
    let n = suc h.levels in
    let R = IsSaid sc (call k (expressions (terms_of (a ∷ ts))), false) in
    record {
      levels = n;
      spells = sum_of_primary n R _ (applied_spelled h.levels sc R symbol u us a ts (call_is sc k symbol (a ∷ ts) i.refers_to) i.is i.identifier
          (arguments_spelled h.levels sc (u ∷ us) (a ∷ ts) h.spells));
    }

predicate_is : (sc : Scope) (k : ℕ) (symbol : List ℕ) (ts : List Said) → refers sc symbol ≡ Some (referent.Predicate k (length ts)) → (at place : ℕ) (ps : Phrases)
    → AreTermsOf sc ts ps → IsFormula sc (applies k (expressions (terms_of ts))) (ph.used at (record { at = place; text = symbol }) ps)
predicate_is sc k symbol ts e at place ps q = record { faultless = λ x. rw (e, q.many, same_number (length ts), q.faultless) refl; is = rw (e, q.are) refl }

pub predicate_said : (sc : Scope) (k : ℕ) (symbol : List ℕ) (us : List (List ℕ)) (ts : List Said) → IsNamed sc (referent.Predicate k (length ts)) symbol
    → TermsSpelled sc us ts → Spelled whole (IsFormula sc (applies k (expressions (terms_of ts)))) (applied_text symbol us)
predicate_said sc k symbol [] [] i h =
    let R = IsFormula sc (applies k (expressions [])) in
    record {
      levels = 0;
      spells = whole_of_sum 0 R symbol (sum_of_primary 0 R symbol (name_spelled 0 R symbol
          (λ at. predicate_is sc k symbol [] i.refers_to at at ph.no_phrase (record { faultless = refl; are = refl; many = refl })) i.is i.identifier));
    }
predicate_said sc k symbol [] (a ∷ ts) i h = absurd h.spells
predicate_said sc k symbol (u ∷ us) [] i h = absurd h.spells
predicate_said sc k symbol (u ∷ us) (a ∷ ts) i h =
    let n = suc h.levels in
    let R = IsFormula sc (applies k (expressions (terms_of (a ∷ ts)))) in
    record {
      levels = n;
      spells = whole_of_sum n R _ (sum_of_primary n R _ (applied_spelled h.levels sc R symbol u us a ts (predicate_is sc k symbol (a ∷ ts) i.refers_to) i.is i.identifier
          (arguments_spelled h.levels sc (u ∷ us) (a ∷ ts) h.spells)));
    }

-- Sums.

and_true : (a : Bool) → (a && true) ≡ true → a ≡ true
and_true true h = refl
and_true false h = absurd (false≢true h)

pub total_said : (sc : Scope) (us : List (List ℕ)) (ts : List Said) → TermsSpelled sc us ts
    → Spelled sum (IsSaid sc (summed (terms_of ts), all_numeric ts)) (joined_text (48 ∷ []) (32 ∷ 43 ∷ 32 ∷ []) us)
total_said sc [] [] h =
    let Q = IsSaid sc (number (pos 0), true) in
    record {
      levels = 0;
      spells = sum_of_primary 0 Q (48 ∷ []) (number_spelled 0 0 Q (48 ∷ [])
          (λ at. record { term = record { faultless = λ x. refl; is = refl }; numeral = λ k. refl }) refl refl (omega arith));
    }
total_said sc [] (a ∷ ts) h = absurd h.spells
total_said sc (u ∷ us) [] h = absurd h.spells
total_said sc (u ∷ []) (a ∷ []) h = record {
  levels = h.levels;
  spells = spells_as h.levels sum (IsSaid sc a) (IsSaid sc (a.0, all_numeric (a ∷ []))) u (λ p q. record { term = q.term; numeral = λ k. q.numeral (and_true a.1 k) }) h.spells.0;
}
total_said sc (u ∷ []) (a ∷ b ∷ ts) h = absurd h.spells.1
total_said sc (u ∷ v ∷ us) (a ∷ []) h = absurd h.spells.1
total_said sc (u ∷ v ∷ us) (a ∷ b ∷ ts) h = record {
  levels = suc h.levels;
  spells = total_spelled (suc h.levels) sc (grouped u) (map grouped (v ∷ us)) a (b ∷ ts) (addends_spelled h.levels sc (u ∷ v ∷ us) (a ∷ b ∷ ts) h.spells);
}
