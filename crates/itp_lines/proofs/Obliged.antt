-- The obligations of a problem that holds everywhere hold everywhere.
use Rattle.std.proofs.Common.{◌≡◌, ◌<◌, ℕ, ℤ, List, [], ◌∷◌, ◌++◌, length, Ok, Err, Result, IsErrAnd, refl, sym, ◌∙◌, ap, subst, arith}
use Rattle.std.specs.Prelude.{Contains}
use Rattle.form_typed.specs.Formula.{Formula, formula}
use Rattle.form_typed.specs.Sorts.{AreValuesOf}
use Rattle.form_typed.specs.Truth.{Meaning, Truth}
use Rattle.base_budget.specs.Trace.{Funds, at}
use Rattle.formula.specs.Tree.{form}
use Rattle.pri_typing.specs.declared.problem.Problem.{Problem}
use Rattle.pri_typing.specs.Problems.{Holds, IsPlainlyValid}
use Rattle.pri_typing.specs.WellFormed.{IsWellFormed}
use Rattle.function_encoding.specs.declared.answer.Encoded.{Encoded}
use Rattle.itp_sides.specs.Between.{AreTyped}
use Rattle.itp_sides.specs.Sides.{Case, arithmetic, case_of, cut_of, first_itself, none, second_denied}
use Rattle.itp_sides.proofs.Lines.{sides_apart, stands_contradicts, stands_follows}
use Rattle.interpolant.proofs.Steps.{elim_budget}
use Rattle.itp_printer.specs.Replaced.{with_formula}
use Rattle.pred_interpolant.specs.declared.fault.MiddleFormula.{MiddleFormula}
use Rattle.pred_interpolant.specs.declared.fault.MiddleFormula.TheVariants.{Arithmetic, General}
use Rattle.pred_interpolant.specs.declared.fault.MiddleFault.{MiddleFault}
use Rattle.pred_interpolant.specs.declared.fault.Obligations.{Obligations}
use Rattle.pred_interpolant.specs.Made.{FindsBy, MakesObligations}
use Rattle.pred_interpolant.specs.Middle.{IsFound, IsObligation, above, below, contradicts, first, follows, said, second}
use Rattle.itp_lines.specs.Obligations.{Separates}
use Rattle.pred_interpolant.specs.Middle.{obligation_root}
use Rattle.pred_interpolant.specs.declared.fault.MiddleFault.TheVariants as fault
use Rattle.search.specs.Outcomes.{IsTree}
use Rattle.base_budget.specs.Ending.{ending}
use Rattle.search.specs.Run.{canonical_run}
use Rattle.proof_tree.specs.declared.node.Conclusion.TheVariants.{Solution}
use Rattle.std.proofs.lemmas.List.Elements.{Contains-get_or}
use Rattle.itp_lines.specs.declared.proved.Middle.{Middle}
use Rattle.itp_lines.specs.declared.proved.Proved.{Proved}
use Rattle.itp_lines.specs.Runs.{MiddleEndsEarly, FindsTree, IsSound, MakesMiddle, Runs, StopsRun, first_run, obligations, root_end, run_end, second_run}

-- what stands between the sides of a cut of a problem that holds
pub stands_between : (w : Meaning) (p : Problem) (cut at : ℕ) (m : MiddleFormula) → IsWellFormed p → p.existentials ≡ [] → ¬ (IsPlainlyValid p) → Holds w p [] → Contains p.cuts (cut_of p cut) → IsFound p cut at m
    → Separates w p (first p cut at) (said p m) (second p cut at)
stands_between w p cut at m good alone plain holds in_it found =
    let apart = sides_apart w p (cut_of p cut) at good alone in_it plain holds in
    record {
      follows = stands_follows w p (cut_of p cut) at (Truth w (said p m)) apart (found.stands w);
      contradicts = stands_contradicts w p (cut_of p cut) at (Truth w (said p m)) apart (found.stands w);
      shares = found.shares;
    }

-- a formula that is true at all values of the constants' types makes a problem that holds
holds_by : (w : Meaning) (p q : Problem) (f : Formula) → p.existentials ≡ [] → IsWellFormed p → q.existentials ≡ p.existentials → q.existential_types ≡ p.existential_types → q.universals ≡ p.universals
    → q.universal_types ≡ p.universal_types → formula q.formula ≡ f → Holds w p [] → ((e : List ℤ) → AreTyped p e → Truth w f e) → Holds w q []
holds_by w p q f alone good e et u ut is there h = record {
  many = sym (ap length (e ∙ alone));
  typed = subst (λ ts. AreValuesOf ts []) (sym et) there.typed;
  is = λ us long typed. subst (λ g. Truth w g us) (sym is) (h us (record {
    many = let k = ap length u in let l = ap length alone in omega (arith, long, k, l);
    typed = subst (λ ts. AreValuesOf (ts ++ p.universal_types) us) (sym (no_types p.existential_types there.typed)) (subst (λ ts. AreValuesOf ts us) ut typed);
  }));
}
  where
    no_types : (ts : List _) → AreValuesOf ts [] → ts ≡ []
    no_types [] h = refl
    no_types (t ∷ ts) h = absurd h

pub sound : (p : Problem) (f : Formula) (e : Encoded) → IsWellFormed p → p.existentials ≡ [] → ((w : Meaning) → Holds w p []) → ((w : Meaning) (v : List ℤ) → AreTyped p v → Truth w f v) → IsObligation p f e → IsSound e
sound p f e good alone holds h o = record {
  problem = with_formula p o.typed;
  formed = o.formed;
  alone = alone;
  encoded = o.encoded;
  holds = λ w. holds_by w p (with_formula p o.typed) f alone good refl refl refl refl o.is (holds w) (h w);
}

-- the two obligations
pub below_true : (w : Meaning) (p : Problem) (f i g : Formula) → Separates w p f i g → (v : List ℤ) → AreTyped p v → Truth w (follows f i) v
below_true w p f i g b v t h = b.follows v t h

pub above_true : (w : Meaning) (p : Problem) (f i g : Formula) → Separates w p f i g → (v : List ℤ) → AreTyped p v → Truth w (contradicts i g) v
above_true w p f i g b v t h = absurd (b.contradicts v t h.0 h.1.0)

-- ---- the budget after the obligations
pub obligations_budget : (p : Problem) (cut at : ℕ) (old new : Funds) (o : Obligations) (n : ℕ) → MakesObligations p cut at old (Ok o) new → old.budget < n → new.budget < n
obligations_budget p cut at old new o n h lt = by (case_of p (cut_of p cut) at) o.formula h.0
  where
    by : (c : Case) (m : MiddleFormula) → FindsBy p cut at c old m new → new.budget < n
    by arithmetic (Arithmetic d) k = elim_budget n k.1 lt
    by arithmetic (General f) k = absurd k
    by first_itself (Arithmetic d) k = absurd k
    by first_itself (General f) k = subst (λ g. g.budget < n) (sym k.1) lt
    by second_denied (Arithmetic d) k = absurd k
    by second_denied (General f) k = subst (λ g. g.budget < n) (sym k.1) lt
    by none m k = absurd k

pub cut_is_one : (p : Problem) (cut : ℕ) → cut < length p.cuts → Contains p.cuts (cut_of p cut)
cut_is_one p cut lt = Contains-get_or p.cuts cut (record { sets = [] }) lt

pub below_sound : (p : Problem) (cut at : ℕ) (m : MiddleFormula) (e : Encoded) → IsWellFormed p → p.existentials ≡ [] → ¬ (IsPlainlyValid p) → ((w : Meaning) → Holds w p []) → cut < length p.cuts → IsFound p cut at m
    → IsObligation p (below p cut at m) e → IsSound e
below_sound p cut at m e good alone plain holds lt found o =
    sound p (below p cut at m) e good alone holds
    (λ w v t. below_true w p (first p cut at) (said p m) (second p cut at) (stands_between w p cut at m good alone plain (holds w) (cut_is_one p cut lt) found) v t) o

pub above_sound : (p : Problem) (cut at : ℕ) (m : MiddleFormula) (e : Encoded) → IsWellFormed p → p.existentials ≡ [] → ¬ (IsPlainlyValid p) → ((w : Meaning) → Holds w p []) → cut < length p.cuts → IsFound p cut at m
    → IsObligation p (above p cut at m) e → IsSound e
above_sound p cut at m e good alone plain holds lt found o =
    sound p (above p cut at m) e good alone holds
    (λ w v t. above_true w p (first p cut at) (said p m) (second p cut at) (stands_between w p cut at m good alone plain (holds w) (cut_is_one p cut lt) found) v t) o

-- ---- the runs are those on the obligations

end_is : (p : Problem) (f : Formula) (e : Encoded) (old : Funds) → IsObligation p f e → run_end p f old ≡ root_end e old
end_is p f e old o =
    let root : (obligation_root p f).value ≡ form e.root = ap (λ g. (obligation_root p g).value) (sym o.is) ∙ sym o.encoded.root in
    λ i. ending (canonical_run (root i) (sym o.encoded.constants i) old.budget) (at old [])

pub finds_of : (p : Problem) (f : Formula) (e : Encoded) (old new : Funds) (m : Proved) → IsObligation p f e → Runs e old (Ok m) new → FindsTree p f old m.tree new
finds_of p f e old new m o k =
    let root : form e.root ≡ (obligation_root p f).value = o.encoded.root ∙ ap (λ g. (obligation_root p g).value) o.is in (
      (k.1).0,
      (k.1).1,
      end_is p f e old o ∙ (k.1).2,
      subst (λ n. IsTree (obligation_root p f).value n (k.1).1 (Solution []) m.tree) o.encoded.constants (subst (λ g. IsTree g e.constants (k.1).1 (Solution []) m.tree) root (k.1).3),
    )

stops_of : (p : Problem) (f : Formula) (e : Encoded) (old new : Funds) (y : MiddleFault) → IsObligation p f e → Runs e old (Err y) new → StopsRun p f old y new
stops_of p f e old new fault.Steps o k = (k.0, end_is p f e old o ∙ k.1)
stops_of p f e old new (fault.Overflow q) o k = (k.0, k.1, end_is p f e old o ∙ k.2, k.3, k.4)
stops_of p f e old new fault.Branch o k = (k.0, end_is p f e old o ∙ k.1)
stops_of p f e old new fault.Memory o k = tt
stops_of p f e old new fault.Symbols o k = k
stops_of p f e old new fault.Large o k = k

early : (p : Problem) (cut at : ℕ) (old new : Funds) (y : MiddleFault) (r : Result Middle MiddleFault) → IsErrAnd r (λ x. x ≡ y) → MiddleEndsEarly p cut at old y new → MakesMiddle p cut at old r new
early p cut at old new y (Ok m) h k = absurd h
early p cut at old new y (Err x) h k = subst (λ z. MiddleEndsEarly p cut at old z new) (sym h) k

pub not_made : (p : Problem) (cut at : ℕ) (old new : Funds) (y : MiddleFault) (r : Result Middle MiddleFault) → IsErrAnd r (λ x. x ≡ y) → MakesObligations p cut at old (Err y) new → MakesMiddle p cut at old r new
not_made p cut at old new y r h k = early p cut at old new y r h (obligations k)

pub first_stops : (p : Problem) (cut at : ℕ) (old new made : Funds) (o : Obligations) (y : MiddleFault) (r : Result Middle MiddleFault) → IsErrAnd r (λ x. x ≡ y) → MakesObligations p cut at old (Ok o) made
    → IsObligation p (below p cut at o.formula) o.below → Runs o.below made (Err y) new → MakesMiddle p cut at old r new
first_stops p cut at old new made o y r h work b k = early p cut at old new y r h (first_run o made work (stops_of p (below p cut at o.formula) o.below made new y b k))

pub second_stops : (p : Problem) (cut at : ℕ) (old new made between : Funds) (o : Obligations) (m : Proved) (y : MiddleFault) (r : Result Middle MiddleFault) → IsErrAnd r (λ x. x ≡ y)
    → MakesObligations p cut at old (Ok o) made → IsObligation p (below p cut at o.formula) o.below → IsObligation p (above p cut at o.formula) o.above → Runs o.below made (Ok m) between
    → Runs o.above between (Err y) new → MakesMiddle p cut at old r new
second_stops p cut at old new made between o m y r h work b a j k =
    early p cut at old new y r h
    (second_run o m.tree made between work (finds_of p (below p cut at o.formula) o.below made between m b j) (stops_of p (above p cut at o.formula) o.above between new y a k))

pub all_run : (p : Problem) (cut at : ℕ) (old new made between : Funds) (o : Obligations) (m n : Proved) → MakesObligations p cut at old (Ok o) made → IsObligation p (below p cut at o.formula) o.below
    → IsObligation p (above p cut at o.formula) o.above → Runs o.below made (Ok m) between → Runs o.above between (Ok n) new
    → MakesMiddle p cut at old (Ok (record { formula = o.formula; below = m; above = n })) new
all_run p cut at old new made between o m n work b a j k = (
  made,
  between,
  subst (λ z. MakesObligations p cut at old (Ok z) made) (λ i. record { formula = o.formula; below = sym (j.0) i; above = sym (k.0) i }) work,
  finds_of p (below p cut at o.formula) o.below made between m b j,
  finds_of p (above p cut at o.formula) o.above between new n a k,
)
