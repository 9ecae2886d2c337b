-- What a text spells at some number of levels, and how terms are put together.
use Rattle.std.proofs.Common.{ℕ, suc, ◌≡◌, ◌<◌, ◌+◌, ◌^◌, Bool, true, false, ◌&&◌, ◌||◌, List, [], ◌∷◌, ◌++◌, refl, ap, arith, pos}
use Rattle.std.specs.Fmt.{decimal}
use Rattle.std.proofs.lemmas.Bool.{false≢true}
use Rattle.pri_reader.specs.Grammar.{Part, unary, sum, primary, whole}
use Rattle.form_typed.specs.Formula.{Expression, number, name, minus, product, absolute, lesser, greater}
use Rattle.pri_typing.specs.declared.scope.Referent.TheVariants as referent
use Rattle.pri_typing.specs.Phrase.{Phrase}
use Rattle.pri_typing.specs.Phrase as ph
use Rattle.pri_typing.specs.Scope.{Scope}
use Rattle.pri_typing.specs.Faults.{is_numeral}
use Rattle.pri_printer.proofs.Spells.{Spells}
use Rattle.pri_printer.proofs.Spelling.{factor_spelled, product_of_one, sum_of_one, formula_of_term, conjunction_of_one, disjunction_of_one, whole_spelled, number_spelled, name_spelled, minus_spelled, product_spelled}
use Rattle.base_numerals.proofs.Decimals.{decimal_is}
use Rattle.itp_printer.specs.Text.{grouped}
use Rattle.itp_printer.proofs.Steps.{lifted}
use Rattle.itp_printer.proofs.Decimals.{number_by, number_heads}
use Rattle.itp_printer.proofs.Productions.{group_spelled}
use Rattle.itp_printer.proofs.Commands.{absolute_spelled, pair_spelled, pair_phrase}
use Rattle.itp_printer.proofs.Arguments.{Said, IsSaid}
use Rattle.itp_printer.proofs.Referring.{IsNamed}

-- the text spells it, opening some number of levels
pub record Spelled (part : Part) (Q : Phrase → Type 0) (text : List ℕ) : Type 0 where
  pub levels : ℕ
  pub spells : Spells levels part Q text

-- Terms.

pub sum_of_primary : (n : ℕ) (Q : Phrase → Type 0) (text : List ℕ) → Spells n primary Q text → Spells n sum Q text
sum_of_primary n Q text h = sum_of_one n Q text (product_of_one n Q text (factor_spelled n Q text h))

pub whole_of_unary : (n : ℕ) (Q : Phrase → Type 0) (text : List ℕ) → Spells n unary Q text → Spells n whole Q text
whole_of_unary n Q text h = whole_spelled n Q text (disjunction_of_one n Q text (conjunction_of_one n Q text h))

pub whole_of_sum : (n : ℕ) (Q : Phrase → Type 0) (text : List ℕ) → Spells n sum Q text → Spells n whole Q text
whole_of_sum n Q text h = whole_of_unary n Q text (formula_of_term n Q text h)

group_said : (sc : Scope) (a : Said) (at : ℕ) (f : Phrase) → IsSaid sc a f → IsSaid sc a (ph.group at f)
group_said sc a at f h = record { term = record { faultless = λ x. h.term.faultless x; is = h.term.is }; numeral = h.numeral }

-- a term in parentheses
pub term_grouped : (n : ℕ) (sc : Scope) (a : Said) (u : List ℕ) → Spells n sum (IsSaid sc a) u → Spells (suc n) primary (IsSaid sc a) (grouped u)
term_grouped n sc a u h = group_spelled n (IsSaid sc a) (IsSaid sc a) u (group_said sc a) (whole_of_sum n (IsSaid sc a) u h)

pub no_numeral : {P : Type 0} → false ≡ true → P
no_numeral h = absurd (false≢true h)

pub number_said : (n : ℕ) (sc : Scope) → n < 2 ^ 127 → Spelled sum (IsSaid sc (number (pos n), true)) (decimal n)
number_said n sc h =
    let i = decimal_is n (omega arith) in
    let Q = IsSaid sc (number (pos n), true) in
    record {
      levels = 0;
      spells = sum_of_primary 0 Q (decimal n) (number_spelled 0 n Q (decimal n)
          (λ at. record { term = record { faultless = λ x. refl; is = refl }; numeral = λ k. refl }) (number_by (decimal n) i.digits i.some) i.value h);
    }

pub negative_said : (n : ℕ) (sc : Scope) → n < 2 ^ 127 → Spelled sum (IsSaid sc (minus (number (pos n)), true)) (45 ∷ decimal n)
negative_said n sc h =
    let i = decimal_is n (omega arith) in
    let Q = IsSaid sc (number (pos n), true) in
    let R = IsSaid sc (minus (number (pos n)), true) in
    record {
      levels = 1;
      spells = sum_of_one 1 R (45 ∷ decimal n) (product_of_one 1 R (45 ∷ decimal n) (minus_spelled 0 Q R (decimal n)
          (λ at f q. record { term = record { faultless = λ x. q.term.faultless (ph.first_token f); is = ap minus q.term.is }; numeral = q.numeral })
          (number_heads (decimal n) i.digits i.some)
          (factor_spelled 0 Q (decimal n) (number_spelled 0 n Q (decimal n)
          (λ at. record { term = record { faultless = λ x. refl; is = refl }; numeral = λ k. refl }) (number_by (decimal n) i.digits i.some) i.value h))));
    }

pub name_said : (x : ℕ) (sc : Scope) (text : List ℕ) → IsNamed sc (referent.Name x) text → Spelled sum (IsSaid sc (name x, false)) text
name_said x sc text i =
    let Q = IsSaid sc (name x, false) in
    record {
      levels = 0;
      spells = sum_of_primary 0 Q text (name_spelled 0 Q text
          (λ at. record { term = record { faultless = λ y. rw i.refers_to refl; is = rw i.refers_to refl }; numeral = λ k. no_numeral k }) i.is i.identifier);
    }

pub minus_said : (sc : Scope) (a : Said) (u : List ℕ) → Spelled sum (IsSaid sc a) u → Spelled sum (IsSaid sc (minus a.0, a.1)) (45 ∷ grouped u)
minus_said sc a u h =
    let n = h.levels in
    let R = IsSaid sc (minus a.0, a.1) in
    record {
      levels = suc (suc n);
      spells = sum_of_one (suc (suc n)) R (45 ∷ grouped u) (product_of_one (suc (suc n)) R (45 ∷ grouped u) (minus_spelled (suc n) (IsSaid sc a) R (grouped u)
          (λ at f q. record { term = record { faultless = λ x. q.term.faultless (ph.first_token f); is = ap minus q.term.is }; numeral = q.numeral })
          refl (factor_spelled (suc n) (IsSaid sc a) (grouped u) (term_grouped n sc a u h.spells))));
    }

both_true : (a b : Bool) → (a && b) ≡ true → (a ≡ true) × (b ≡ true)
both_true true true h = (refl, refl)
both_true true false h = absurd (false≢true h)
both_true false b h = absurd (false≢true h)

-- one side of a product is a numeral expression where one side of the term is built of numbers
one_numeral : (a b c e : Bool) → (a ≡ true → c ≡ true) → (b ≡ true → e ≡ true) → (a || b) ≡ true → (c || e) ≡ true
one_numeral true b c e f g h = rw (f refl) refl
one_numeral false true true e f g h = refl
one_numeral false true false e f g h = g refl
one_numeral false false c e f g h = absurd (false≢true h)

product_is : (sc : Scope) (a b : Said) → (a.1 || b.1) ≡ true → (at sign : ℕ) (f g : Phrase) → IsSaid sc a f → IsSaid sc b g
    → IsSaid sc (product a.0 b.0, a.1 && b.1) (ph.product at f sign g)
product_is sc a b h at sign f g q r = record {
  term = record {
    faultless = λ x. rw (one_numeral a.1 b.1 (is_numeral f) (is_numeral g) q.numeral r.numeral h, q.term.faultless (ph.first_token f), r.term.faultless (ph.first_token g)) refl;
    is = rw (q.term.is, r.term.is) refl;
  };
  numeral = λ k. let both = both_true a.1 b.1 k in rw (q.numeral both.0, r.numeral both.1) refl;
}

pub product_said : (sc : Scope) (a b : Said) (u v : List ℕ) → (a.1 || b.1) ≡ true → Spelled sum (IsSaid sc a) u → Spelled sum (IsSaid sc b) v
    → Spelled sum (IsSaid sc (product a.0 b.0, a.1 && b.1)) (grouped u ++ 42 ∷ grouped v)
product_said sc a b u v l h k =
    let n = suc (h.levels + k.levels) in
    let R = IsSaid sc (product a.0 b.0, a.1 && b.1) in
    record {
      levels = suc n;
      spells = sum_of_one (suc n) R (grouped u ++ 42 ∷ grouped v) (product_spelled n (IsSaid sc a) (IsSaid sc b) R (grouped u) (grouped v)
          (λ at sign f g q r. product_is sc a b l at sign f g q r)
          (factor_spelled n (IsSaid sc a) (grouped u) (term_grouped (h.levels + k.levels) sc a u (lifted h.levels (h.levels + k.levels) sum (IsSaid sc a) u (omega arith) h.spells)))
          (product_of_one n (IsSaid sc b) (grouped v) (factor_spelled n (IsSaid sc b) (grouped v)
          (term_grouped (h.levels + k.levels) sc b v (lifted k.levels (h.levels + k.levels) sum (IsSaid sc b) v (omega arith) k.spells)))));
    }

pub absolute_said : (sc : Scope) (a : Said) (u : List ℕ) → Spelled sum (IsSaid sc a) u
    → Spelled sum (IsSaid sc (absolute a.0, false)) ((92 ∷ 97 ∷ 98 ∷ 115 ∷ []) ++ grouped u)
absolute_said sc a u h =
    let n = h.levels in
    let R = IsSaid sc (absolute a.0, false) in
    record {
      levels = suc n;
      spells = sum_of_primary (suc n) R ((92 ∷ 97 ∷ 98 ∷ 115 ∷ []) ++ grouped u) (absolute_spelled n (IsSaid sc a) R u
          (λ at f q. record { term = record { faultless = λ x. q.term.faultless (ph.first_token f); is = ap absolute q.term.is }; numeral = λ k. no_numeral k })
          (whole_of_sum n (IsSaid sc a) u h.spells));
    }

-- the lesser and the greater of two terms
abbrev pub pair_term : Bool → Expression → Expression → Expression
pair_term true s t = greater s t
pair_term false s t = lesser s t

pair_is : (sc : Scope) (max : Bool) (a b : Said) (at : ℕ) (f g : Phrase) → IsSaid sc a f → IsSaid sc b g → IsSaid sc (pair_term max a.0 b.0, false) (pair_phrase max at f g)
pair_is sc true a b at f g q r = record {
  term = record { faultless = λ x. rw (q.term.faultless (ph.first_token f), r.term.faultless (ph.first_token g)) refl; is = rw (q.term.is, r.term.is) refl };
  numeral = λ k. no_numeral k;
}
pair_is sc false a b at f g q r = record {
  term = record { faultless = λ x. rw (q.term.faultless (ph.first_token f), r.term.faultless (ph.first_token g)) refl; is = rw (q.term.is, r.term.is) refl };
  numeral = λ k. no_numeral k;
}

pub lesser_said : (sc : Scope) (a b : Said) (u v : List ℕ) → Spelled sum (IsSaid sc a) u → Spelled sum (IsSaid sc b) v
    → Spelled sum (IsSaid sc (lesser a.0 b.0, false)) ((92 ∷ 109 ∷ 105 ∷ 110 ∷ []) ++ grouped (u ++ ((44 ∷ 32 ∷ []) ++ v)))
lesser_said sc a b u v h k =
    let n = h.levels + k.levels in
    let R = IsSaid sc (lesser a.0 b.0, false) in
    record {
      levels = suc n;
      spells = sum_of_primary (suc n) R _ (pair_spelled n false (109 ∷ 105 ∷ 110 ∷ []) (IsSaid sc a) (IsSaid sc b) R u v (pair_is sc false a b) refl refl
          (whole_of_sum n (IsSaid sc a) u (lifted h.levels n sum (IsSaid sc a) u (omega arith) h.spells))
          (whole_of_sum n (IsSaid sc b) v (lifted k.levels n sum (IsSaid sc b) v (omega arith) k.spells)));
    }

pub greater_said : (sc : Scope) (a b : Said) (u v : List ℕ) → Spelled sum (IsSaid sc a) u → Spelled sum (IsSaid sc b) v
    → Spelled sum (IsSaid sc (greater a.0 b.0, false)) ((92 ∷ 109 ∷ 97 ∷ 120 ∷ []) ++ grouped (u ++ ((44 ∷ 32 ∷ []) ++ v)))
greater_said sc a b u v h k =
    let n = h.levels + k.levels in
    let R = IsSaid sc (greater a.0 b.0, false) in
    record {
      levels = suc n;
      spells = sum_of_primary (suc n) R _ (pair_spelled n true (109 ∷ 97 ∷ 120 ∷ []) (IsSaid sc a) (IsSaid sc b) R u v (pair_is sc true a b) refl refl
          (whole_of_sum n (IsSaid sc a) u (lifted h.levels n sum (IsSaid sc a) u (omega arith) h.spells))
          (whole_of_sum n (IsSaid sc b) v (lifted k.levels n sum (IsSaid sc b) v (omega arith) k.spells)));
    }
