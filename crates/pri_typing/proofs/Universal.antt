-- In a pure formula no quantifier stands over an application.
use Rattle.std.proofs.Common.{ℕ, suc, inr}
use Rattle.form_typed.specs.Formula.{Formula, Formulas, Expression, Expressions, formula, constant, compares, applies, negation, every, some, implies, iff, for_all, for_some, part, no_formula, and_formula, number, name, call, minus, total, product, choice, absolute, lesser, greater, no_expression, and_expression}
use Rattle.pri_typing.specs.declared.problem.Problem.{Problem}
use Rattle.pri_typing.specs.Everywhere.{Everywhere, AllEverywhere, TermEverywhere, TermsEverywhere}
use Rattle.pri_typing.specs.Problems.{IsNoPredicate, IsNoCall, IsPure, Sign, plus, both, turned, IsUniversalAt, AreUniversalAt, IsTermUniversal, AreTermsUniversal, IsUniversal}
use Rattle.pri_typing.proofs.Everywhere.{moved}
use Rattle.pri_typing.proofs.Purity.{unapplied}

-- binders around a formula give it no application
anywhere : (m n : ℕ) (f : Formula) → Everywhere unapplied m f → Everywhere unapplied n f
anywhere m n = moved (λ i j. Unit {0}) unapplied unapplied (record { under_binder = λ i j r. tt {0}; of_formula = λ i j r f h. at i j f h; of_term = λ i j r t h. at_term i j t h }) m n (tt {0})
  where
    at : (i j : ℕ) (f : Formula) → IsNoPredicate i f → IsNoPredicate j f
    at i j (constant b) h = tt {0}
    at i j (compares r s t) h = tt {0}
    at i j (applies p ts) h = h
    at i j (negation f) h = tt {0}
    at i j (every fs) h = tt {0}
    at i j (some fs) h = tt {0}
    at i j (implies f g) h = tt {0}
    at i j (iff f g) h = tt {0}
    at i j (for_all s f) h = tt {0}
    at i j (for_some s f) h = tt {0}
    at i j (part k f) h = tt {0}

    at_term : (i j : ℕ) (t : Expression) → IsNoCall i t → IsNoCall j t
    at_term i j (number v) h = tt {0}
    at_term i j (name x) h = tt {0}
    at_term i j (call f ts) h = h
    at_term i j (minus t) h = tt {0}
    at_term i j (total ts) h = tt {0}
    at_term i j (product s t) h = tt {0}
    at_term i j (choice f s t) h = tt {0}
    at_term i j (absolute t) h = tt {0}
    at_term i j (lesser s t) h = tt {0}
    at_term i j (greater s t) h = tt {0}

mutual
  universal : (sign : Sign) (n : ℕ) (f : Formula) → Everywhere unapplied n f → IsUniversalAt sign f
  universal sign n (constant b) h = tt {0}
  universal sign n (compares r s t) h = (term_universal n s h.1, term_universal n t h.2)
  universal sign n (applies p ts) h = absurd h.0
  universal sign n (negation f) h = universal (turned sign) n f h.1
  universal sign n (every fs) h = all_universal sign n fs h.1
  universal sign n (some fs) h = all_universal sign n fs h.1
  universal sign n (implies f g) h = (universal (turned sign) n f h.1, universal sign n g h.2)
  universal sign n (iff f g) h = (universal both n f h.1, universal both n g h.2)
  universal sign n (for_all s f) h = (inr (anywhere (suc n) 0 f h.1), universal sign (suc n) f h.1)
  universal sign n (for_some s f) h = (inr (anywhere (suc n) 0 f h.1), universal sign (suc n) f h.1)
  universal sign n (part k f) h = universal sign n f h.1

  all_universal : (sign : Sign) (n : ℕ) (fs : Formulas) → AllEverywhere unapplied n fs → AreUniversalAt sign fs
  all_universal sign n no_formula h = tt {0}
  all_universal sign n (and_formula f fs) h = (universal sign n f h.0, all_universal sign n fs h.1)

  term_universal : (n : ℕ) (t : Expression) → TermEverywhere unapplied n t → IsTermUniversal t
  term_universal n (number v) h = tt {0}
  term_universal n (name x) h = tt {0}
  term_universal n (call f ts) h = absurd h.0
  term_universal n (minus t) h = term_universal n t h.1
  term_universal n (total ts) h = terms_universal n ts h.1
  term_universal n (product s t) h = (term_universal n s h.1, term_universal n t h.2)
  term_universal n (choice f s t) h = (universal both n f h.1, term_universal n s h.2, term_universal n t h.3)
  term_universal n (absolute t) h = term_universal n t h.1
  term_universal n (lesser s t) h = (term_universal n s h.1, term_universal n t h.2)
  term_universal n (greater s t) h = (term_universal n s h.1, term_universal n t h.2)

  terms_universal : (n : ℕ) (ts : Expressions) → TermsEverywhere unapplied n ts → AreTermsUniversal ts
  terms_universal n no_expression h = tt {0}
  terms_universal n (and_expression t ts) h = (term_universal n t h.0, terms_universal n ts h.1)

-- a pure problem is universal
pub pure_universal : (p : Problem) → IsPure p → IsUniversal p
pure_universal p h = universal plus 0 (formula p.formula) h
