-- How a run ends on the encoding of a problem that holds everywhere, and that it leaves the budget as it is.
use Rattle.std.proofs.Common.{◌≡◌, ◌<◌, ◌+◌, ℕ, ℤ, Bool, true, false, cond, nat_le, List, [], ◌∷◌, length, Ok, Err, Result, IsErrAnd, refl, sym, ◌∙◌, ap, subst, arith}
use Rattle.linear_term.specs.Range.{all_stay}
use Rattle.base_budget.specs.Trace.{At, End, Event, Funds, after_charge, after_mark, at, capped, charge, cut, done, mark, out_of_range, raw, refused, stand}
use Rattle.form_typed.specs.Truth.{Meaning}
use Rattle.formula.specs.Form.{Form, FormTruth, IsFormOver}
use Rattle.formula.specs.Reduced.{HasReducedTerms}
use Rattle.formula.specs.Tree.{form}
use Rattle.form_typed.specs.Table.{meaning_of}
use Rattle.pri_typing.specs.Problems.{finite_meaning}
use Rattle.model_trees.specs.Open.{IsSaturatedTree}
use Rattle.form_encoding.specs.Problems.{problem_root}
use Rattle.function_encoding.specs.declared.answer.Encoded.{Encoded}
use Rattle.pri_problem.proofs.Reduced.{problem_reduced}
use Rattle.proof_tree.specs.declared.node.Tree.{Tree}
use Rattle.proof_tree.specs.declared.run.Run.{Run}
use Rattle.proof_tree.specs.declared.run.Why.{Why}
use Rattle.proof_tree.specs.declared.run.Why.TheVariants as why
use Rattle.proof_tree.specs.declared.run.Verdict.TheVariants as verdict
use Rattle.proof_tree.specs.Proof.{Proof}
use Rattle.proof_tree.specs.Proves.{Proves}
use Rattle.proof_tree.specs.Views.{proof_of}
use Rattle.proof_canonical.proofs.Proving.{told_valid}
use Rattle.clause_set.specs.declared.literal.Literal.{Literal}
use Rattle.search.specs.declared.judge.Outcome.{Outcome}
use Rattle.search.specs.declared.judge.Outcome.TheVariants.{Valid, Invalid, Saturated, Unknown}
use Rattle.search.specs.Outcomes.{EndsAs, IsTree}
use Rattle.proof_tree.specs.declared.node.Conclusion.TheVariants.{Solution}
use Rattle.search.specs.Run as run
use Rattle.base_budget.specs.Ending.{Ending, ended, ends_with, out_of_steps, overflows}
use Rattle.search.specs.Run.{canonical_run}
use Rattle.search.proofs.Telling.{answer_tells}
use Rattle.model_runs.proofs.Ended.{saturated_says}
use Rattle.model_runs.proofs.Problems.{refuted}
use Rattle.pred_interpolant.specs.declared.fault.MiddleFault.{MiddleFault}
use Rattle.itp_lines.specs.declared.proved.Proved.{Proved}
use Rattle.itp_lines.specs.Obligations.{IsProved}
use Rattle.itp_lines.specs.Runs.{IsSound, Runs, fault_of, root_end}

-- ---- the encoding

reduced : (e : Encoded) → IsSound e → HasReducedTerms (form e.root)
reduced e s = subst HasReducedTerms (sym s.encoded.root) (problem_reduced s.problem)

none_left : (e : Encoded) → (s : IsSound e) → e.constants ≡ 0
none_left e s = s.encoded.constants ∙ ap length s.alone

pub over : (e : Encoded) → IsSound e → IsFormOver e.constants (form e.root)
over e s = subst (λ n. IsFormOver n (form e.root)) (sym s.encoded.constants) s.encoded.over

true_there : (e : Encoded) → (s : IsSound e) → (w : Meaning) → FormTruth w (form e.root) []
true_there e s w = (s.encoded.truth w [] (sym (ap length s.alone))).1 (s.holds w)

-- ---- how the run ends

some_meaning : Meaning
some_meaning = meaning_of (record { truths = []; values = [] })

-- it does not end invalid
pub not_invalid : (e : Encoded) (old new : Funds) (d : List (List Literal)) (t : Tree) → IsSound e → EndsAs (form e.root) e.constants old (Ok (Invalid d t)) new → ⊥
not_invalid e old new d t s k =
    let lost = answer_tells (form e.root) e.constants old (run.invalid (k.1).entries k.2) (at new k.0) (over e s) (reduced e s) k.3 in
    lost.fails some_meaning [] (sym (none_left e s)) (true_there e s some_meaning)

-- it does not end saturated
pub not_saturated : (e : Encoded) (old new : Funds) (d : List (List Literal)) (t : Tree) → IsSound e → EndsAs (form e.root) e.constants old (Ok (Saturated d t)) new → ⊥
not_saturated e old new d t s k =
    let p = s.problem in
    let says = saturated_says (form e.root) e.constants old (k.1).entries k.2 (at new k.0) (over e s) (reduced e s) k.3 in
    let open_there : IsSaturatedTree (problem_root p).value (length p.existentials) k.2 =
    subst (λ n. IsSaturatedTree (problem_root p).value n k.2) s.encoded.constants (subst (λ f. IsSaturatedTree f e.constants k.2) s.encoded.root says.0) in
    let bad = refuted p k.2 s.formed (problem_reduced p) open_there [] (sym (ap length s.alone)) (s.holds some_meaning).typed in
    bad.fails ((s.holds (finite_meaning bad.interpretation)).is bad.universals bad.fit bad.typed)

-- what it ends with is told

empty : (us : List ℤ) → length us ≡ 0 → us ≡ []
empty [] h = refl
empty (u ∷ us) h = absurd (omega (arith, h))

-- there are no values
no_values : (e : Encoded) (old : Funds) (vs : List ℤ) (x : Proof) (b : At) → IsSound e → root_end e old ≡ ends_with (run.valid vs x) b → vs ≡ []
no_values e old vs x b s h = empty vs ((answer_tells (form e.root) e.constants old (run.valid vs x) b (over e s) (reduced e s) h).best.names ∙ none_left e s)

pub valid_runs : (e : Encoded) (old new : Funds) (d : List (List Literal)) (vs : List ℤ) (t : Tree) → IsSound e → EndsAs (form e.root) e.constants old (Ok (Valid d vs t)) new
    → Runs e old (Ok (record { encoded = e; tree = t })) new
valid_runs e old new d vs t s k =
    let none = no_values e old vs k.1 (at new k.0) s k.2 in
    (refl, (k.0, k.1, k.2 ∙ ap (λ v. ends_with (run.valid v k.1) (at new k.0)) none, subst (λ v. IsTree (form e.root) e.constants k.1 (Solution v) t) none k.4))

pub valid_proved : (e : Encoded) (old new : Funds) (d : List (List Literal)) (vs : List ℤ) (t : Tree) → IsSound e → EndsAs (form e.root) e.constants old (Ok (Valid d vs t)) new
    → IsProved (record { encoded = e; tree = t })
valid_proved e old new d vs t s k =
    subst (λ v. Proves (form e.root) e.constants (proof_of t.root) t.conclusion t.charges (verdict.Valid v)) (no_values e old vs k.1 (at new k.0) s k.2)
    (told_valid (form e.root) e.constants old new d vs t (over e s) (reduced e s) k)

pub unknown_runs : (e : Encoded) (old new : Funds) (y : Why) (r : Run) → EndsAs (form e.root) e.constants old (Ok (Unknown y r)) new → Runs e old (Err (fault_of y)) new
unknown_runs e old new why.Steps r k = (k.0, k.1)
unknown_runs e old new (why.Overflow q) r k = (k.0, k.1, k.2, k.3, k.4)
unknown_runs e old new why.Branch r k = (k.0, k.1)

-- an outcome that is known
pub ends_at : (f : Form) (n : ℕ) (old new : Funds) (o q : Outcome) → EndsAs f n old (Ok o) new → o ≡ q → EndsAs f n old (Ok q) new
ends_at f n old new o q k is = subst (λ z. EndsAs f n old (Ok z) new) is k

pub stops : (e : Encoded) (old new : Funds) (y : MiddleFault) (r : Result Proved MiddleFault) → IsErrAnd r (λ x. x ≡ y) → Runs e old (Err y) new → Runs e old r new
stops e old new y (Ok m) h k = absurd h
stops e old new y (Err x) h k = subst (λ z. Runs e old (Err z) new) (sym h) k

-- ---- the budget

pub cut_budget : (es : List Event) (a : At) → (stand (cut es a)).funds.budget ≡ a.funds.budget
unfolding cut
cut_budget [] a = refl
cut_budget (charge n ∷ es) a = by (nat_le (a.funds.spent + capped n) a.funds.budget) (cut_budget es (after_charge n a))
  where
    by : (t : Bool) → (stand (cut es (after_charge n a))).funds.budget ≡ a.funds.budget → (stand (cond t (cut es (after_charge n a)) (refused a))).funds.budget ≡ a.funds.budget
    by true h = h
    by false h = refl
cut_budget (raw ps ∷ es) a = by (all_stay ps) (cut_budget es a)
  where
    by : (t : Bool) → (stand (cut es a)).funds.budget ≡ a.funds.budget → (stand (cond t (cut es a) (out_of_range ps a))).funds.budget ≡ a.funds.budget
    by true h = h
    by false h = refl
cut_budget (mark m ∷ es) a = cut_budget es (after_mark m a)

abbrev last : Ending run.RunAnswer → At
last (ends_with a s) = s
last (out_of_steps s) = s
last (overflows numbers s) = s

last_is : (a : run.RunAnswer) (e : End) → last (ended a e) ≡ stand e
last_is a (done s) = refl
last_is a (refused s) = refl
last_is a (out_of_range numbers s) = refl

-- a run leaves the budget as it is
pub runs_budget : (e : Encoded) (old new : Funds) (m : Proved) (n : ℕ) → Runs e old (Ok m) new → old.budget < n → new.budget < n
runs_budget e old new m n k lt =
    let work = canonical_run (form e.root) e.constants old.budget in
    let same : new.budget ≡ old.budget =
    ap (λ x. (last x).funds.budget) (sym (k.1).2) ∙ ap (λ (s : At). s.funds.budget) (last_is work.value (cut work.events (at old []))) ∙ cut_budget work.events (at old []) in
    subst (λ b. b < n) (sym same) lt
