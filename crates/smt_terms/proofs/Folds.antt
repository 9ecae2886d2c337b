-- The tree of each form of a term: one equation a form, since a fold does not compute by itself.
use Rattle.std.proofs.Common.{◌≡◌, ℕ, ℤ, Bool, List, ap, ◌∙◌, sym}
use Rattle.smt_terms.specs.declared.term.Name.{Name}
use Rattle.smt_terms.specs.declared.term.Variable.{Variable}
use Rattle.smt_terms.specs.declared.term.Binding.{Binding}
use Rattle.smt_terms.specs.declared.term.Term.{Term}
use Rattle.smt_terms.specs.declared.term.Term.TheVariants as t
use Rattle.smt_terms.specs.declared.term.Term.TheVariants.{rolls-Number, rolls-Large, rolls-Use, rolls-Let, rolls-Quantified, rolls-Annotated, rolls-Ill}
use Rattle.smt_terms.specs.declared.term.Term.TheOpen as o
use Rattle.smt_terms.specs.declared.term.Term.TheFolds.{fold-roll-Term, fold_out-Binding}
use Rattle.smt_terms.specs.Term.{PlacedTerm, BoundTerm, phrase, bound, phrases_of, bindings_of, phrase_step, bound_step, number, large, used, let_in, quantified, annotated, ill}

pub bound-term : (b : Binding) → bound b ≡ record { text = b.text; term = phrase b.term }
bound-term b = fold_out-Binding PlacedTerm BoundTerm phrase_step bound_step b

pub phrase-Number : (at : ℕ) (n : ℤ) → phrase (t.Number at n) ≡ number at n
phrase-Number at n = ap phrase (sym (rolls-Number at n)) ∙ fold-roll-Term PlacedTerm BoundTerm phrase_step bound_step (o.Number at n)

pub phrase-Large : (at : ℕ) → phrase (t.Large at) ≡ large at
phrase-Large at = ap phrase (sym (rolls-Large at)) ∙ fold-roll-Term PlacedTerm BoundTerm phrase_step bound_step (o.Large at)

pub phrase-Use : (at : ℕ) (x : Name) (ts : List Term) → phrase (t.Use at x ts) ≡ used at x (phrases_of ts)
phrase-Use at x ts = ap phrase (sym (rolls-Use at x ts)) ∙ fold-roll-Term PlacedTerm BoundTerm phrase_step bound_step (o.Use at x ts)

pub phrase-Let : (at : ℕ) (bs : List Binding) (s : Term) → phrase (t.Let at bs s) ≡ let_in at (bindings_of bs) (phrase s)
phrase-Let at bs s = ap phrase (sym (rolls-Let at bs s)) ∙ fold-roll-Term PlacedTerm BoundTerm phrase_step bound_step (o.Let at bs s)

pub phrase-Quantified : (at : ℕ) (all : Bool) (xs : List Variable) (s : Term) → phrase (t.Quantified at all xs s) ≡ quantified at all xs (phrase s)
phrase-Quantified at all xs s = ap phrase (sym (rolls-Quantified at all xs s)) ∙ fold-roll-Term PlacedTerm BoundTerm phrase_step bound_step (o.Quantified at all xs s)

pub phrase-Annotated : (at : ℕ) (s : Term) → phrase (t.Annotated at s) ≡ annotated at (phrase s)
phrase-Annotated at s = ap phrase (sym (rolls-Annotated at s)) ∙ fold-roll-Term PlacedTerm BoundTerm phrase_step bound_step (o.Annotated at s)

pub phrase-Ill : (at : ℕ) → phrase (t.Ill at) ≡ ill at
phrase-Ill at = ap phrase (sym (rolls-Ill at)) ∙ fold-roll-Term PlacedTerm BoundTerm phrase_step bound_step (o.Ill at)

pub ruleset folds = (bound-term, phrase-Number, phrase-Large, phrase-Use, phrase-Let, phrase-Quantified, phrase-Annotated, phrase-Ill)
