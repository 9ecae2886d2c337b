-- Which uses are built of numerals.
use Rattle.std.proofs.Common.{ℕ, ◌≡◌, ◌<◌, ◌&&◌, Bool, true, List, length, nat_le, sym, ap, ◌∙◌, arith}
use Rattle.smt_terms.specs.declared.term.Name.{Name}
use Rattle.smt_terms.specs.declared.term.Term.{Term}
use Rattle.smt_terms.specs.declared.term.Term.TheVariants as t
use Rattle.smt_terms.specs.Term.{count, phrase, phrases_of}
use Rattle.smt_terms.proofs.Folds.{phrase-Use}
use Rattle.smt_typing.specs.Faults.{are_numerals, is_numeral, is_sign}
use Rattle.smt_typing.proofs.Walking.{count-phrases}

some_are : (n m : ℕ) → m ≡ n → 0 < n → nat_le 1 m ≡ true
some_are n m e h = grind arith

pub numeral_use : (term : Term) (at : ℕ) (x : Name) (ts : List Term) (a : Bool) → term ≡ t.Use at x ts → is_sign x.text ≡ true → 0 < length ts → a ≡ are_numerals (phrases_of ts)
    → a ≡ is_numeral (phrase term)
numeral_use term at x ts a is sign some e =
    e ∙ sym (ap (λ z. is_numeral (phrase z)) is ∙ ap is_numeral (phrase-Use at x ts)
    ∙ ap (λ z. z && nat_le 1 (count (phrases_of ts)) && are_numerals (phrases_of ts)) sign
    ∙ ap (λ z. z && are_numerals (phrases_of ts)) (some_are (length ts) (count (phrases_of ts)) (count-phrases ts) some))
