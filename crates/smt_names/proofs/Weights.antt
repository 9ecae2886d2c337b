-- How large terms are, for calls that go from a term to its parts.
use Rattle.std.proofs.Common.{ℕ, zero, suc, ◌+◌, ◌<◌, List, [], ◌∷◌, ap, arith, length, get_or}
use Rattle.smt_terms.specs.declared.term.Term.{Term}
use Rattle.smt_terms.specs.declared.term.Binding.{Binding}
use Rattle.smt_terms.specs.Term.{PlacedTerm, PlacedTerms, Bindings, phrase, phrases_of, bindings_of, number, large, used, let_in, quantified, annotated, ill, no_phrase, and_phrase, no_binding, and_binding}
use Rattle.smt_terms.proofs.Folds.{bound-term}

abbrev mutual
  pub weight : PlacedTerm → ℕ
  weight (number at n) = 1
  weight (large at) = 1
  weight (used at x ts) = 2 + weights ts
  weight (let_in at bs t) = 2 + (binding_weights bs + weight t)
  weight (quantified at all xs t) = 2 + weight t
  weight (annotated at t) = 1 + weight t
  weight (ill at) = 1

  pub weights : PlacedTerms → ℕ
  weights no_phrase = 0
  weights (and_phrase t ts) = 1 + (weight t + weights ts)

  pub binding_weights : Bindings → ℕ
  binding_weights no_binding = 0
  binding_weights (and_binding x t bs) = 1 + (weight t + binding_weights bs)

pub member_weight : (ts : List Term) (i : ℕ) (d : Term) → i < length ts → weight (phrase (get_or ts i d)) < weights (phrases_of ts)
member_weight [] i d h = absurd (omega arith)
member_weight (t ∷ ts) zero d h = omega arith
member_weight (t ∷ ts) (suc i) d h = omega (arith, member_weight ts i d (omega arith))

pub bound_weight : (bs : List Binding) (i : ℕ) (d : Binding) → i < length bs → weight (phrase (get_or bs i d).term) < binding_weights (bindings_of bs)
bound_weight [] i d h = absurd (omega arith)
bound_weight (b ∷ bs) zero d h = omega (arith, ap (λ z. weight z.term) (bound-term b))
bound_weight (b ∷ bs) (suc i) d h = omega (arith, bound_weight bs i d (omega arith))
