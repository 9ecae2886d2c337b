-- How formulas are put together, and terms with a condition.
use Rattle.std.proofs.Common.{suc, ◌≡◌, ℕ, ◌+◌, Bool, true, false, List, [], ◌∷◌, ◌++◌, refl, sym, ap, subst, ◌∙◌, arith}
use Rattle.pri_tokens.specs.declared.terminals.Terminal.TheVariants as t
use Rattle.pri_tokens.specs.Kinds.{is_name}
use Rattle.pri_tokens.specs.Spellings.{word_of}
use Rattle.pri_reader.specs.declared.tree.Comparison.{Comparison}
use Rattle.pri_reader.specs.Grammar.{right_one, Right, right, operand, comparison_sign, unary, sum, whole, equivalence, implication}
use Rattle.form_typed.specs.declared.typed.Sort.{Sort}
use Rattle.form_typed.specs.Sorts.{IsSortRanged}
use Rattle.form_typed.specs.Formula.{Formula, compares, negation, implies, iff, for_all, for_some, choice}
use Rattle.form_typed.specs.Formula as logic
use Rattle.pri_typing.specs.Phrase.{Phrase, phrase}
use Rattle.pri_typing.specs.Phrase as ph
use Rattle.pri_typing.specs.Scope.{Scope}
use Rattle.pri_typing.specs.Typing.{relation_of, says}
use Rattle.pri_typing.proofs.Folds.{phrase-form, phrase-Implies, phrase-Iff}
use Rattle.pri_printer.proofs.Spells.{Spells, IsFormula}
use Rattle.pri_printer.proofs.Spelling.{IsSign, formula_of_term, unary_spelled, conjunction_of_one, disjunction_of_one, truth_spelled, not_spelled, compared_spelled}
use Rattle.pri_printer.proofs.Standing.{within}
use Rattle.itp_printer.specs.Text.{grouped}
use Rattle.itp_printer.specs.TypedText.{truth_text, bound_text}
use Rattle.itp_printer.proofs.Steps.{lifted, spells_up}
use Rattle.itp_printer.proofs.Productions.{group_spelled, parenthesized_spelled, right_spelled, implies_sign, iff_sign}
use Rattle.itp_printer.proofs.Types.{sort_is, quantified_spelled}
use Rattle.itp_printer.proofs.Commands.{choice_spelled}
use Rattle.itp_printer.proofs.Arguments.{Said, IsSaid}
use Rattle.itp_printer.proofs.SaidTerms.{Spelled, sum_of_primary, whole_of_unary, whole_of_sum, no_numeral}

-- Formulas.

group_formula : (sc : Scope) (f : Formula) (at : ℕ) (q : Phrase) → IsFormula sc f q → IsFormula sc f (ph.group at q)
group_formula sc f at q h = record { faultless = λ x. h.faultless x; is = h.is }

-- a formula in parentheses
pub formula_grouped : (n : ℕ) (sc : Scope) (f : Formula) (u : List ℕ) → Spells n whole (IsFormula sc f) u → Spells (suc n) unary (IsFormula sc f) (grouped u)
formula_grouped n sc f u h =
    formula_of_term (suc n) (IsFormula sc f) (grouped u) (sum_of_primary (suc n) (IsFormula sc f) (grouped u) (group_spelled n (IsFormula sc f) (IsFormula sc f) u (group_formula sc f) h))

pub choice_said : (sc : Scope) (f : Formula) (a b : Said) (c u v : List ℕ) → Spelled whole (IsFormula sc f) c → Spelled sum (IsSaid sc a) u → Spelled sum (IsSaid sc b) v
    → Spelled sum (IsSaid sc (choice f a.0 b.0, false)) ((92 ∷ 105 ∷ 102 ∷ 32 ∷ []) ++ (grouped c ++ ((32 ∷ 92 ∷ 116 ∷ 104 ∷ 101 ∷ 110 ∷ 32 ∷ [])
    ++ (grouped u ++ ((32 ∷ 92 ∷ 101 ∷ 108 ∷ 115 ∷ 101 ∷ 32 ∷ []) ++ grouped v)))))
choice_said sc f a b c u v g h k =
    let n = g.levels + (h.levels + k.levels) in
    let R = IsSaid sc (choice f a.0 b.0, false) in
    record {
      levels = suc n;
      spells = sum_of_primary (suc n) R _ (choice_spelled (suc n) (IsFormula sc f) (IsSaid sc a) (IsSaid sc b) R (grouped c) (grouped u) (grouped v)
          (λ at x y z q r w. record {
            term = record {
              faultless = λ o. rw (q.faultless (ph.first_token x), r.term.faultless (ph.first_token y), w.term.faultless (ph.first_token z)) refl;
              is = rw (q.is, r.term.is, w.term.is) refl;
            };
            numeral = λ m. no_numeral m;
          })
          (parenthesized_spelled n (IsFormula sc f) c (lifted g.levels n whole (IsFormula sc f) c (omega arith) g.spells))
          (parenthesized_spelled n (IsSaid sc a) u (whole_of_sum n (IsSaid sc a) u (lifted h.levels n sum (IsSaid sc a) u (omega arith) h.spells)))
          (parenthesized_spelled n (IsSaid sc b) v (whole_of_sum n (IsSaid sc b) v (lifted k.levels n sum (IsSaid sc b) v (omega arith) k.spells))));
    }

truth_is : (sc : Scope) (b : Bool) (at : ℕ) → IsFormula sc (logic.constant b) (ph.truth at b)
truth_is sc b at = record { faultless = λ x. refl; is = refl }

pub truth_said : (sc : Scope) (b : Bool) → Spelled whole (IsFormula sc (logic.constant b)) (truth_text b)
truth_said sc true = record { levels = 0; spells = whole_of_sum 0 _ _ (sum_of_primary 0 _ _ (truth_spelled 0 true _ _ (truth_is sc true) refl refl)) }
truth_said sc false = record { levels = 0; spells = whole_of_sum 0 _ _ (sum_of_primary 0 _ _ (truth_spelled 0 false _ _ (truth_is sc false) refl refl)) }

pub compared_said : (sc : Scope) (c : Comparison) (sign : List ℕ) (a b : Said) (u v : List ℕ) → IsSign (comparison_sign c) sign
    → Spelled sum (IsSaid sc a) u → Spelled sum (IsSaid sc b) v → Spelled whole (IsFormula sc (compares (relation_of c) a.0 b.0)) (u ++ (sign ++ v))
compared_said sc c sign a b u v i h k =
    let n = h.levels + k.levels in
    let R = IsFormula sc (compares (relation_of c) a.0 b.0) in
    record {
      levels = n;
      spells = whole_of_unary n R _ (unary_spelled n R _ (compared_spelled n c sign (IsSaid sc a) (IsSaid sc b) R u v i
          (λ at f g q r. record { faultless = λ x. rw (q.term.faultless (ph.first_token f), r.term.faultless (ph.first_token g)) refl; is = rw (q.term.is, r.term.is) refl })
          (lifted h.levels n sum (IsSaid sc a) u (omega arith) h.spells) (lifted k.levels n sum (IsSaid sc b) v (omega arith) k.spells)));
    }

pub negation_said : (sc : Scope) (f : Formula) (u : List ℕ) → Spelled whole (IsFormula sc f) u → Spelled whole (IsFormula sc (negation f)) (33 ∷ grouped u)
negation_said sc f u h =
    let n = suc h.levels in
    let R = IsFormula sc (negation f) in
    record {
      levels = suc n;
      spells = whole_of_unary (suc n) R (33 ∷ grouped u) (not_spelled n (IsFormula sc f) R (grouped u)
          (λ at g q. record { faultless = λ x. q.faultless (ph.first_token g); is = ap negation q.is }) refl (formula_grouped h.levels sc f u h.spells));
    }

implies_is : (sc : Scope) (f g : Formula) (at : ℕ) (x y : Phrase) → IsFormula sc f x → IsFormula sc g y → IsFormula sc (implies f g) (ph.implication at x y)
implies_is sc f g at x y q r = record { faultless = λ o. rw (q.faultless (ph.first_token x), r.faultless (ph.first_token y)) refl; is = rw (q.is, r.is) refl }

iff_is : (sc : Scope) (f g : Formula) (at : ℕ) (x y : Phrase) → IsFormula sc f x → IsFormula sc g y → IsFormula sc (iff f g) (ph.equivalence at x y)
iff_is sc f g at x y q r = record { faultless = λ o. rw (q.faultless (ph.first_token x), r.faultless (ph.first_token y)) refl; is = rw (q.is, r.is) refl }

right_of_operand : (n : ℕ) (r : Right) (Q : Phrase → Type 0) (text : List ℕ) → Spells n (operand r) Q text → Spells n (right r) Q text
right_of_operand n r Q text = spells_up n (operand r) (right r) Q text (λ s d f a b u. right_one {r = r} u)

implication_of_unary : (n : ℕ) (Q : Phrase → Type 0) (text : List ℕ) → Spells n unary Q text → Spells n (right implication) Q text
implication_of_unary n Q text h = right_of_operand n implication Q text (disjunction_of_one n Q text (conjunction_of_one n Q text h))

pub implies_said : (sc : Scope) (f g : Formula) (u v : List ℕ) → Spelled whole (IsFormula sc f) u → Spelled whole (IsFormula sc g) v
    → Spelled whole (IsFormula sc (implies f g)) (grouped u ++ ((32 ∷ 45 ∷ 62 ∷ 32 ∷ []) ++ grouped v))
implies_said sc f g u v h k =
    let n = h.levels + k.levels in
    let F = IsFormula sc f in
    let G = IsFormula sc g in
    let R = IsFormula sc (implies f g) in
    let left = formula_grouped n sc f u (lifted h.levels n whole F u (omega arith) h.spells) in
    let text = formula_grouped n sc g v (lifted k.levels n whole G v (omega arith) k.spells) in
    record {
      levels = suc (suc n);
      spells = right_of_operand (suc (suc n)) equivalence R _ (right_spelled (suc n) implication (32 ∷ 45 ∷ 62 ∷ 32 ∷ []) F G R (grouped u) (grouped v) implies_sign
          (λ at x y q r. subst R (sym (phrase-form _ ∙ phrase-Implies _ _ _)) (implies_is sc f g _ (phrase x) (phrase y) q r))
          (disjunction_of_one (suc n) F (grouped u) (conjunction_of_one (suc n) F (grouped u) left))
          (implication_of_unary (suc n) G (grouped v) text));
    }

pub iff_said : (sc : Scope) (f g : Formula) (u v : List ℕ) → Spelled whole (IsFormula sc f) u → Spelled whole (IsFormula sc g) v
    → Spelled whole (IsFormula sc (iff f g)) (grouped u ++ ((32 ∷ 60 ∷ 45 ∷ 62 ∷ 32 ∷ []) ++ grouped v))
iff_said sc f g u v h k =
    let n = h.levels + k.levels in
    let F = IsFormula sc f in
    let G = IsFormula sc g in
    let R = IsFormula sc (iff f g) in
    let left = formula_grouped n sc f u (lifted h.levels n whole F u (omega arith) h.spells) in
    let text = formula_grouped n sc g v (lifted k.levels n whole G v (omega arith) k.spells) in
    record {
      levels = suc (suc n);
      spells = right_spelled (suc n) equivalence (32 ∷ 60 ∷ 45 ∷ 62 ∷ 32 ∷ []) F G R (grouped u) (grouped v) iff_sign
          (λ at x y q r. subst R (sym (phrase-form _ ∙ phrase-Iff _ _ _)) (iff_is sc f g _ (phrase x) (phrase y) q r))
          (implication_of_unary (suc n) F (grouped u) left)
          (whole_of_unary (suc n) G (grouped v) text);
    }

-- Quantifiers.

pub for_all_said : (sc : Scope) (sort : Sort) (f : Formula) (v u : List ℕ) → IsSortRanged sort → is_name v ≡ true → word_of v ≡ t.Identifier
    → Spelled whole (IsFormula (within v sc) f) u → Spelled whole (IsFormula sc (for_all sort f)) (bound_text true sort v u)
for_all_said sc sort f v u ranged w i h =
    let n = suc h.levels in
    let R = IsFormula sc (for_all sort f) in
    record {
      levels = suc n;
      spells = whole_of_unary (suc n) R _ (quantified_spelled n true sort (102 ∷ 111 ∷ 114 ∷ 97 ∷ 108 ∷ 108 ∷ []) (IsFormula (within v sc) f) R v (grouped u)
          (λ at place x q. record {
            faultless = λ o. q.faultless (ph.first_token x);
            is = ap (λ z. for_all z (says (within v sc) x)) (sort_is sort) ∙ ap (for_all sort) q.is;
          }) ranged refl refl w i (formula_grouped h.levels (within v sc) f u h.spells));
    }

pub for_some_said : (sc : Scope) (sort : Sort) (f : Formula) (v u : List ℕ) → IsSortRanged sort → is_name v ≡ true → word_of v ≡ t.Identifier
    → Spelled whole (IsFormula (within v sc) f) u → Spelled whole (IsFormula sc (for_some sort f)) (bound_text false sort v u)
for_some_said sc sort f v u ranged w i h =
    let n = suc h.levels in
    let R = IsFormula sc (for_some sort f) in
    record {
      levels = suc n;
      spells = whole_of_unary (suc n) R _ (quantified_spelled n false sort (101 ∷ 120 ∷ 105 ∷ 115 ∷ 116 ∷ 115 ∷ []) (IsFormula (within v sc) f) R v (grouped u)
          (λ at place x q. record {
            faultless = λ o. q.faultless (ph.first_token x);
            is = ap (λ z. for_some z (says (within v sc) x)) (sort_is sort) ∙ ap (for_some sort) q.is;
          }) ranged refl refl w i (formula_grouped h.levels (within v sc) f u h.spells));
    }
