-- The answers of the calls for two sets of parts and for a cut.
use Rattle.std.proofs.Common.{◌≡◌, ◌+◌, ◌<◌, ◌≤◌, ◌^◌, ℕ, Bool, true, false, ◌||◌, nat_lt, List, [], length, get_or, Result, Ok, Err, IsErrAnd, IfOk, refl, sym, ◌∙◌, ap, subst, arith}
use Rattle.std.proofs.lemmas.Bool.Decides.{nat_tests}
use Rattle.std.proofs.lemmas.List.{get_or_read}
use Rattle.form_typed.specs.Truth.{Meaning}
use Rattle.base_budget.specs.declared.fault.ElimFault.{ElimFault}
use Rattle.base_budget.specs.declared.fault.ElimFault.TheVariants.{Memory}
use Rattle.base_budget.specs.Trace.{Funds}
use Rattle.pri_typing.specs.declared.problem.Cut.{Cut}
use Rattle.pri_typing.specs.declared.problem.Problem.{Problem}
use Rattle.pri_typing.specs.Problems.{IsWithoutApplication, assumed_by}
use Rattle.pri_typing.specs.WellFormed.{IsWellFormed}
use Rattle.clause_set.specs.declared.literal.Literal.{Literal}
use Rattle.clause_set.specs.Literals.{dnf_truth}
use Rattle.formula.specs.declared.calculus.Core.{Core}
use Rattle.formula.specs.Form.{Form, is_pure}
use Rattle.formula.specs.Reduced.{HasReducedTerms}
use Rattle.formula.specs.Sizes.{depth, size}
use Rattle.formula.specs.Tree.{form}
use Rattle.elim_laws.specs.Presburger.{IsPresburger}
use Rattle.elim_laws.proofs.Reduced.{presburger_of}
use Rattle.form_encoding.specs.Problems.{constants, is_large, parts_root}
use Rattle.function_encoding.specs.declared.answer.EncodeRefusal.{EncodeRefusal}
use Rattle.function_encoding.specs.declared.answer.EncodeRefusal.TheVariants.{Memory as NoMemory}
use Rattle.function_encoding.specs.Encoded.{Encodes}
use Rattle.function_encoding.proofs.Roots.{made_value}
use Rattle.interpolant.specs.declared.fault.Interpolant.{Interpolant}
use Rattle.interpolant.specs.declared.fault.InterpolantFault.{InterpolantFault}
use Rattle.interpolant.specs.declared.fault.InterpolantFault.TheVariants.{Elim, Encode}
use Rattle.form_encoding.specs.Occurrences.{occurs}
use Rattle.function_encoding.specs.Marks.{AreMarks, is_marked}
use Rattle.interpolant.specs.Run.{DoesElimination, AnswersInterpolant, interpolating, projecting}
use Rattle.itp_sides.specs.Between.{IsStrongest}
use Rattle.itp_sides.specs.Sides.{cut_of}
use Rattle.interpolant.specs.Sides.{IsInterpolant}
use Rattle.interpolant.proofs.Applications.{assumed_pure}
use Rattle.interpolant.proofs.Projected.{projecting-same}
use Rattle.interpolant.proofs.Standing.{between_is, encodable, strongest_is}
use Rattle.interpolant.proofs.Steps.{elim_memory, elim_value}

-- ---- room
second_false : (a b : Bool) → (a || b) ≡ false → b ≡ false
second_false true b h = absurd (cc)
second_false false b h = h

not_deep : (d : ℕ) → nat_lt 2000 d ≡ false → d ≤ 2000
not_deep d h = grind (arith, nat_tests)

pub few_marks : (p : Problem) (k : ℕ) → IsWellFormed p → k ≡ constants p → k ≤ 1000
few_marks p k formed is = let h = formed.few in omega (arith, is, h)

pub marks_room : (p : Problem) (k : ℕ) (f : Form) → IsWellFormed p → k ≡ constants p → is_large f ≡ false → k + depth f ≤ 2 ^ 32
marks_room p k f formed is small =
    let few = few_marks p k formed is in
    let shallow = not_deep (depth f) (second_false (nat_lt 1000000 (size f)) (nat_lt 2000 (depth f)) small) in
    omega (arith, few, shallow)

-- ---- two sets of parts
as_run : (p : Problem) (first second : List ℕ) (f : Core) (marks : List Bool) {old new : Funds} {r : Result (List (List Literal)) ElimFault} → Encodes (parts_root p first) (Ok f) → AreMarks (constants p) (assumed_by p second) marks
    → DoesElimination (projecting (is_marked marks) (length marks) (form f)) old r new → DoesElimination (interpolating p first second) old r new
unfolding interpolating
as_run p first second f marks {old} {new} {r} e m h =
    let stays : ℕ → Bool = λ x. occurs x (assumed_by p second) in
    subst (λ w. DoesElimination w old r new)
    (ap (λ k. projecting (is_marked marks) k (form f)) m.many ∙ projecting-same (is_marked marks) stays (constants p) (form f) m.exact ∙ ap (λ g. projecting stays (constants p) g) (made_value e.1)) h

pub not_encoded : (p : Problem) (first second : List ℕ) (old : Funds) (refusal : EncodeRefusal) (r : Result Interpolant InterpolantFault) → IsErrAnd r (λ x. x ≡ Encode refusal) → Encodes (parts_root p first) (Err refusal)
    → AnswersInterpolant p first second old r old
not_encoded p first second old refusal (Ok i) is h = absurd is
not_encoded p first second old refusal (Err x) is h = subst (λ z. AnswersInterpolant p first second old (Err z) old) (sym is) (h, refl)

not_eliminated : (p : Problem) (first second : List ℕ) (f : Core) (old new : Funds) (fault : ElimFault) (r : Result Interpolant InterpolantFault) → IsErrAnd r (λ x. x ≡ Elim fault) → Encodes (parts_root p first) (Ok f)
    → DoesElimination (interpolating p first second) old (Err fault) new → AnswersInterpolant p first second old r new
not_eliminated p first second f old new fault (Ok i) is e h = absurd is
not_eliminated p first second f old new fault (Err x) is e h = subst (λ z. AnswersInterpolant p first second old (Err z) new) (sym is) (encodable (parts_root p first) f e, h)

pub no_memory_left : (p : Problem) (first second : List ℕ) (f : Core) (old : Funds) (r : Result Interpolant InterpolantFault) → IsErrAnd r (λ x. x ≡ Elim Memory) → Encodes (parts_root p first) (Ok f) → AnswersInterpolant p first second old r old
no_memory_left p first second f old r is e = not_eliminated p first second f old old Memory r is e (elim_memory (interpolating p first second) old)

pub cut_short : (p : Problem) (first second : List ℕ) (f : Core) (marks : List Bool) (old new : Funds) (fault : ElimFault) (r : Result Interpolant InterpolantFault) → IsErrAnd r (λ x. x ≡ Elim fault) → Encodes (parts_root p first) (Ok f)
    → AreMarks (constants p) (assumed_by p second) marks → DoesElimination (projecting (is_marked marks) (length marks) (form f)) old (Err fault) new → AnswersInterpolant p first second old r new
cut_short p first second f marks old new fault r is e m h = not_eliminated p first second f old new fault r is e (as_run p first second f marks e m h)

pub run_done : (p : Problem) (first second : List ℕ) (f : Core) (marks : List Bool) (d : List (List Literal)) {old new : Funds} → Encodes (parts_root p first) (Ok f)
    → AreMarks (constants p) (assumed_by p second) marks → DoesElimination (projecting (is_marked marks) (length marks) (form f)) old (Ok d) new → AnswersInterpolant p first second old (Ok (record { formula = d })) new
run_done p first second f marks d e m h = (encodable (parts_root p first) f e, as_run p first second f marks e m h)

presburger : (p : Problem) (first : List ℕ) (f : Core) → IsWithoutApplication (assumed_by p first) → HasReducedTerms (form f) → Encodes (parts_root p first) (Ok f) → IsPresburger (parts_root p first).value
presburger p first f plain reduced e =
    let is = made_value e.1 in
    subst IsPresburger is (presburger_of (form f) (subst (λ z. is_pure z ≡ true) (sym is) (assumed_pure p first plain)) reduced)

pub between_done : (p : Problem) (first second : List ℕ) (f : Core) (marks : List Bool) (d : List (List Literal)) {old new : Funds} → IsWellFormed p → IsWithoutApplication (assumed_by p first) → HasReducedTerms (form f)
    → Encodes (parts_root p first) (Ok f) → AreMarks (constants p) (assumed_by p second) marks → DoesElimination (projecting (is_marked marks) (length marks) (form f)) old (Ok d) new
    → (w : Meaning) → IsInterpolant w p (assumed_by p first) (assumed_by p second) d
between_done p first second f marks d formed plain reduced e m h =
    between_is p first second formed (presburger p first f plain reduced e) d (elim_value (as_run p first second f marks e m h))

pub strongest_done : (p : Problem) (first second : List ℕ) (f : Core) (marks : List Bool) (d : List (List Literal)) {old new : Funds} → IsWellFormed p → IsWithoutApplication (assumed_by p first) → HasReducedTerms (form f)
    → Encodes (parts_root p first) (Ok f) → AreMarks (constants p) (assumed_by p second) marks → DoesElimination (projecting (is_marked marks) (length marks) (form f)) old (Ok d) new
    → (w : Meaning) → IsStrongest w p (assumed_by p first) (assumed_by p second) (λ e. dnf_truth d e ≡ true)
strongest_done p first second f marks d formed plain reduced e m h =
    strongest_is p first second formed (presburger p first f plain reduced e) d (elim_value (as_run p first second f marks e m h))

-- the marks as a slice
pub slice_marks : (n : ℕ) (p : Problem) (set : List ℕ) (items slice : List Bool) → slice ≡ items → AreMarks n (assumed_by p set) items → AreMarks n (assumed_by p set) slice
slice_marks n p set items slice is m = subst (AreMarks n (assumed_by p set)) (sym is) m

-- ---- a cut
pub not_together : (p : Problem) (first second : List ℕ) (old : Funds) (refusal : EncodeRefusal) (r : Result Interpolant InterpolantFault) → IsErrAnd r (λ x. x ≡ Encode refusal) → refusal ≡ NoMemory → AnswersInterpolant p first second old r old
not_together p first second old refusal r is memory = not_encoded p first second old refusal r is (subst (λ z. Encodes (parts_root p first) (Err z)) (sym memory) tt)

-- the calls for the same sets
pub of_sets : (p : Problem) (first second a b : List ℕ) (old new : Funds) (r : Result Interpolant InterpolantFault) → first ≡ a → second ≡ b → AnswersInterpolant p first second old r new → AnswersInterpolant p a b old r new
of_sets p first second a b old new r is same h = subst (λ z. AnswersInterpolant p z b old r new) is (subst (λ z. AnswersInterpolant p first z old r new) same h)

-- what is said of the interpolant of two sets
abbrev pub Stand : Problem → Result Interpolant InterpolantFault → List ℕ → List ℕ → Type 0
Stand p r first second = IfOk r (λ i. (w : Meaning) → IsInterpolant w p (assumed_by p first) (assumed_by p second) i.formula)

abbrev pub AreStrongest : Problem → Result Interpolant InterpolantFault → List ℕ → List ℕ → Type 0
AreStrongest p r first second = IfOk r (λ i. (w : Meaning) → IsStrongest w p (assumed_by p first) (assumed_by p second) (λ e. dnf_truth i.formula e ≡ true))

pub with_sets : (P : List ℕ → List ℕ → Type 0) (first second a b : List ℕ) → first ≡ a → second ≡ b → P first second → P a b
with_sets P first second a b is same h = subst (λ z. P z b) is (subst (P first) same h)

-- the cut of a problem at a place of the slice of its cuts
pub cut_read : (p : Problem) (k : ℕ) (cuts : List Cut) (cut : Cut) → cuts ≡ p.cuts → k < length p.cuts → cut ≡ get_or cuts k cut → cut ≡ cut_of p k
cut_read p k cuts cut is lt h = get_or_read p.cuts k cut lt (subst (λ xs. cut ≡ get_or xs k cut) is h) (record { sets = [] })
