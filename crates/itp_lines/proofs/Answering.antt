-- The calls for seams answer their lines.
use Rattle.std.proofs.Common.{◌≡◌, ◌≢◌, ◌<◌, ◌≤◌, ◌+◌, ◌-◌, ℕ, zero, suc, Bool, true, false, if◌then◌else◌, List, [], ◌∷◌, ◌++◌, length, drop, get_or, Option, Some, None, is_some, Result, Ok, Err, IfOk, OnOk, refl, sym, ◌∙◌, ap, subst, Contains, append_assoc, append-nil, arith, codes}
use Rattle.std.specs.List.{concat, slice_index_or}
use Rattle.std.specs.Global.{Vec}
use Rattle.linear_term.specs.declared.range.Memory.{Memory}
use Rattle.base_budget.specs.declared.fault.ElimFault.TheVariants as elimination
use Rattle.base_budget.specs.Trace.{Funds}
use Rattle.base_budget.proofs.Charging.{drop_all}
use Rattle.form_typed.specs.Formula.{Formula}
use Rattle.form_typed.specs.Truth.{Meaning}
use Rattle.formula.specs.Tree.{form}
use Rattle.form_typed.specs.Table.{meaning_of}
use Rattle.pri_typing.specs.Problems.{Holds, IsPlainlyValid}
use Rattle.pri_typing.specs.declared.problem.Cut.{Cut}
use Rattle.pri_typing.specs.declared.problem.Problem.{Problem}
use Rattle.form_encoding.specs.Problems.{is_large, parts_root}
use Rattle.function_encoding.specs.declared.answer.EncodeRefusal.TheVariants as refusal
use Rattle.interpolant.specs.declared.fault.Interpolant.{Interpolant}
use Rattle.interpolant.specs.declared.fault.InterpolantFault.{InterpolantFault}
use Rattle.interpolant.specs.declared.fault.InterpolantFault.TheVariants.{Elim, Encode}
use Rattle.itp_sides.specs.Sides.{Case, arithmetic, first_itself, second_denied, none as no_case, case_of, cut_of, first_sets}
use Rattle.pri_lines.specs.Constraint.{IsLineOf, IsTextOf, interpolant_line}
use Rattle.pred_interpolant.specs.declared.fault.MiddleFault.{MiddleFault}
use Rattle.pred_interpolant.specs.declared.fault.MiddleFault.TheVariants as fault
use Rattle.pred_interpolant.specs.declared.fault.MiddleFormula.{MiddleFormula}
use Rattle.pred_interpolant.specs.declared.fault.MiddleFormula.TheVariants.{Arithmetic, General}
use Rattle.pred_interpolant.specs.Made.{FindsBy, uninterpolated}
use Rattle.pred_interpolant.specs.Middle.{IsObligation, above, below, obligation_root, said}
use Rattle.proof_tree.specs.declared.run.Verdict.TheVariants as verdict
use Rattle.proof_tree.specs.Proves.{Proves}
use Rattle.proof_tree.specs.Views.{proof_of}
use Rattle.itp_lines.specs.declared.proved.Middle.{Middle}
use Rattle.itp_lines.specs.declared.proved.Proved.{Proved}
use Rattle.itp_lines.specs.Obligations.{IsProved}
use Rattle.itp_lines.specs.Runs.{MakesMiddle}
use Rattle.itp_lines.specs.Blocks.{after_line, after_lines, unknown_line, IsSeamLine, found, unknown, AreLines, IsLinesText, IsTextBy, IsTypedText}
use Rattle.itp_lines.specs.Ends.{Cause, cause_text, plain as plainly, prints, tells, left_by, line_end, formula_by, is_applied, is_plainly_valid, middle_by, normal_end, seam_case}
use Rattle.itp_lines.specs.Proved.{AreObligationsProved, HasProvingTree}
use Rattle.itp_lines.specs.Seams.{Seam, seams, seams_from, seams_of}
use Rattle.itp_lines.specs.Told.{TellsInterpolantFault, TellsFormula, TellsMiddleFault}
use Rattle.itp_lines.proofs.Running.{Called, IsMade, IsNoWant, cause_of, middle_made, middle_unmade, run_found, run_missed}

-- ---- which work is done

applied_not : (p : Problem) → p.first_application ≡ None → is_applied p ≡ false
applied_not p h = ap is_some h

applied_so : (p : Problem) → p.first_application ≢ None → is_applied p ≡ true
applied_so p h = by p.first_application h
  where
    by : (x : Option ℕ) → x ≢ None → is_some x ≡ true
    by None k = absurd (k refl)
    by (Some x) k = refl

pure_end : (p : Problem) (b : Seam) (old : Funds) → p.first_application ≡ None → line_end p b old ≡ normal_end p b old
pure_end p b old h = ap (λ a. if a then (if is_plainly_valid p then tells plainly old else middle_by p b (seam_case p b) old) else normal_end p b old) (applied_not p h)

pure_case : (p : Problem) (b : Seam) → p.first_application ≡ None → seam_case p b ≡ arithmetic
pure_case p b h = ap (λ a. if a then case_of p b.cut b.at else arithmetic) (applied_not p h)

applied_end : (p : Problem) (b : Seam) (old : Funds) → p.first_application ≢ None → line_end p b old ≡ (if is_plainly_valid p then tells plainly old else middle_by p b (seam_case p b) old)
applied_end p b old h = ap (λ a. if a then (if is_plainly_valid p then tells plainly old else middle_by p b (seam_case p b) old) else normal_end p b old) (applied_so p h)

applied_case : (p : Problem) (b : Seam) → p.first_application ≢ None → seam_case p b ≡ case_of p b.cut b.at
applied_case p b h = ap (λ a. if a then case_of p b.cut b.at else arithmetic) (applied_so p h)

pub some_applied : (p : Problem) → is_applied p ≡ true → p.first_application ≢ None
some_applied p h n = let bad : true ≡ false = sym h ∙ applied_not p n in cc

not_plain : (p : Problem) → ¬ (IsPlainlyValid p) → is_plainly_valid p ≡ false
not_plain p h = by (is_plainly_valid p) h
  where
    by : (x : Bool) → ¬ (x ≡ true) → x ≡ false
    by true k = absurd (k refl)
    by false k = refl

middle_end : (p : Problem) (b : Seam) (old : Funds) → p.first_application ≢ None → ¬ (IsPlainlyValid p) → line_end p b old ≡ middle_by p b (case_of p b.cut b.at) old
middle_end p b old h k =
    applied_end p b old h ∙ ap (λ v. if v then tells plainly old else middle_by p b (seam_case p b) old) (not_plain p k) ∙ ap (λ c. middle_by p b c old) (applied_case p b h)

-- ---- one line

-- what a call has answered, for its line and for its purse
record Answered (p : Problem) (b : Seam) (old : Funds) (text : List ℕ) (new : Funds) : Type 0 where
  line : IsSeamLine p b old text
  left : new ≡ after_line p b old

answered_found : (p : Problem) (b : Seam) (old new : Funds) (x text : List ℕ) → line_end p b old ≡ prints new → IsTextBy p b (seam_case p b) x → text ≡ interpolant_line x
    → (p.first_application ≢ None → AreObligationsProved p b (formula_by p b (seam_case p b))) → Answered p b old text new
answered_found p b old new x text is t e proved = record { line = found new x is t e proved; left = sym (ap left_by is) }

answered_unknown : (p : Problem) (b : Seam) (old new : Funds) (c : Cause) (text : List ℕ) → line_end p b old ≡ tells c new → text ≡ unknown_line (cause_text c) → Answered p b old text new
answered_unknown p b old new c text is e = record { line = unknown c new is e; left = sym (ap left_by is) }

interpolant_told : (p : Problem) (b : Seam) (old new : Funds) (i : Interpolant) (text : List ℕ) → p.first_application ≡ None → Called p b old (Ok i) new → IsLineOf interpolant_line p i.formula text → Answered p b old text new
interpolant_told p b old new i text none h l =
    let f = run_found p b old new i h in
    answered_found p b old new l.x text (pure_end p b old none ∙ f.0)
    (subst (λ c. IsTextBy p b c l.x) (sym (pure_case p b none)) (subst (λ d. IsTextOf p d l.x) (sym f.1) l.printed)) l.line (λ some. absurd (some none))

run_cause : (x : InterpolantFault) (text : List ℕ) → TellsInterpolantFault x text → IsNoWant (uninterpolated x) × (text ≡ unknown_line (cause_text (cause_of (uninterpolated x))))
run_cause (Elim (elimination.Steps log)) text t = (tt, t.2 ∙ ap unknown_line t.1)
run_cause (Elim (elimination.Overflow log place)) text t = (tt, t.2 ∙ ap unknown_line t.1)
run_cause (Elim elimination.Memory) text t = absurd t.1
run_cause (Encode refusal.Large) text t = absurd t.1
run_cause (Encode (refusal.Overflow place)) text t = (tt, t.2 ∙ ap unknown_line t.1)
run_cause (Encode refusal.Memory) text t = absurd t.1

fault_told : (p : Problem) (b : Seam) (old new : Funds) (x : InterpolantFault) (text : List ℕ) → p.first_application ≡ None → is_large (parts_root p (first_sets b.cut b.at)).value ≡ false
    → Called p b old (Err x) new → TellsInterpolantFault x text → Answered p b old text new
fault_told p b old new x text none small h t =
    let k = run_cause x text t in answered_unknown p b old new _ text (pure_end p b old none ∙ run_missed p b old new x small h k.0) k.1

middle_cause : (x : MiddleFault) (text : List ℕ) → TellsMiddleFault x text → IsNoWant x × (text ≡ unknown_line (cause_text (cause_of x)))
middle_cause fault.Symbols text t = (tt, t.2 ∙ ap unknown_line t.1)
middle_cause fault.Steps text t = (tt, t.2 ∙ ap unknown_line t.1)
middle_cause (fault.Overflow place) text t = (tt, t.2 ∙ ap unknown_line t.1)
middle_cause fault.Branch text t = (tt, t.2 ∙ ap unknown_line t.1)
middle_cause fault.Large text t = (tt, t.2 ∙ ap unknown_line t.1)
middle_cause fault.Memory text t = absurd t.1

-- the seam of a cut with a number
abbrev pub numbered : Problem → ℕ → ℕ → Seam
numbered p cut place = record { cut = cut_of p cut; at = place }

formula_text_told : (p : Problem) (cut place : ℕ) (c : Case) (old left : Funds) (m : MiddleFormula) (text : List ℕ) → FindsBy p cut place c old m left → TellsFormula p m text
    → (x : List ℕ) × IsTextBy p (numbered p cut place) c x × (text ≡ interpolant_line x)
formula_text_told p cut place arithmetic old left (Arithmetic d) text h t =
    (t.x, subst (λ k. IsTextOf p k t.x) (sym (run_found p (numbered p cut place) old left _ h).1) t.printed, t.line)
formula_text_told p cut place arithmetic old left (General f) text h t = absurd h
formula_text_told p cut place first_itself old left (Arithmetic d) text h t = absurd h
formula_text_told p cut place first_itself old left (General f) text h t = (t.x, subst (λ g. IsTypedText p g t.x) h.0 t.printed, t.line)
formula_text_told p cut place second_denied old left (Arithmetic d) text h t = absurd h
formula_text_told p cut place second_denied old left (General f) text h t = (t.x, subst (λ g. IsTypedText p g t.x) h.0 t.printed, t.line)
formula_text_told p cut place no_case old left m text h t = absurd h

-- the trees of the call are those of its obligations
tree_of : (p : Problem) (f : Formula) (m : Proved) → IsObligation p f m.encoded → IsProved m → HasProvingTree p f
tree_of p f m o h =
    let root : form m.encoded.root ≡ (obligation_root p f).value = o.encoded.root ∙ ap (λ g. (obligation_root p g).value) o.is in
    record {
      tree = proof_of m.tree.root;
      conclusion = m.tree.conclusion;
      charges = m.tree.charges;
      proves = subst (λ n. Proves (obligation_root p f).value n (proof_of m.tree.root) m.tree.conclusion m.tree.charges (verdict.Valid [])) o.encoded.constants
          (subst (λ g. Proves g m.encoded.constants (proof_of m.tree.root) m.tree.conclusion m.tree.charges (verdict.Valid [])) root h);
    }

pub record HasTrees (p : Problem) (cut place : ℕ) (m : Middle) : Type 0 where
  pub is_below : IsObligation p (below p cut place m.formula) m.below.encoded
  pub is_above : IsObligation p (above p cut place m.formula) m.above.encoded
  pub proved_below : IsProved m.below
  pub proved_above : IsProved m.above

trees_of : (p : Problem) (cut place : ℕ) (m : Middle) → HasTrees p cut place m → AreObligationsProved p (numbered p cut place) (said p m.formula)
trees_of p cut place m h = record { below = tree_of p _ m.below h.is_below h.proved_below; above = tree_of p _ m.above h.is_above h.proved_above }

middle_told : (p : Problem) (cut place : ℕ) (old new : Funds) (m : Middle) (text : List ℕ) → p.first_application ≢ None → ¬ (IsPlainlyValid p) → MakesMiddle p cut place old (Ok m) new
    → HasTrees p cut place m → TellsFormula p m.formula text → Answered p (numbered p cut place) old text new
middle_told p cut place old new m text some plain h trees t =
    let made : IsMade p cut place old new m.formula = middle_made p cut place old new m h in
    let told = formula_text_told p cut place (case_of p (cut_of p cut) place) old made.left m.formula text made.finds t in
    answered_found p (numbered p cut place) old new told.0 text (middle_end p (numbered p cut place) old some plain ∙ made.ends)
    (subst (λ c. IsTextBy p (numbered p cut place) c told.0) (sym (applied_case p (numbered p cut place) some)) told.1) told.2
    (λ s. subst (λ c. AreObligationsProved p (numbered p cut place) (formula_by p (numbered p cut place) c)) (sym (applied_case p (numbered p cut place) some))
    (subst (AreObligationsProved p (numbered p cut place)) (sym made.is) (trees_of p cut place m trees)))

middle_fault_told : (p : Problem) (cut place : ℕ) (old new : Funds) (x : MiddleFault) (text : List ℕ) → p.first_application ≢ None → ¬ (IsPlainlyValid p)
    → is_large (parts_root p (first_sets (cut_of p cut) place)).value ≡ false → MakesMiddle p cut place old (Err x) new → TellsMiddleFault x text → Answered p (numbered p cut place) old text new
middle_fault_told p cut place old new x text some plain small h t =
    let k = middle_cause x text t in
    answered_unknown p (numbered p cut place) old new _ text (middle_end p (numbered p cut place) old some plain ∙ middle_unmade p cut place old new x small h k.0) k.1

plain_told : (p : Problem) (b : Seam) (old : Funds) (text : List ℕ) → p.first_application ≢ None → is_plainly_valid p ≡ true → text ≡ unknown_line (codes "plain") → Answered p b old text old
plain_told p b old text some valid e =
    answered_unknown p b old old plainly text (applied_end p b old some ∙ ap (λ v. if v then tells plainly old else middle_by p b (seam_case p b) old) valid) e

-- the same of answers of the code
module _ (p : Problem) (b : Seam) (old new : Funds) where
  all_told : (r : Result (Vec ℕ) Memory) (P : List ℕ → Type 0) → ((text : List ℕ) → P text → Answered p b old text new) → IfOk r (λ t. P t.items) → IfOk r (λ t. Answered p b old t.items new)
  all_told (Ok t) P so h = so t.items h
  all_told (Err m) P so h = tt

  line_told : (r : Result (Vec ℕ) Memory) → IfOk r (λ t. Answered p b old t.items new) → IfOk r (λ t. IsSeamLine p b old t.items)
  line_told (Ok t) h = h.line
  line_told (Err m) h = tt

  left_told : (r : Result (Vec ℕ) Memory) → IfOk r (λ t. Answered p b old t.items new) → OnOk r (new ≡ after_line p b old)
  left_told (Ok t) h = h.left
  left_told (Err m) h = tt

  module _ (r : Result (Vec ℕ) Memory) where
    found_all : (i : Interpolant) → p.first_application ≡ None → Called p b old (Ok i) new → IfOk r (λ t. IsLineOf interpolant_line p i.formula t.items) → IfOk r (λ t. Answered p b old t.items new)
    found_all i none h = all_told r (IsLineOf interpolant_line p i.formula) (λ text. interpolant_told p b old new i text none h)

    pub found_line : (i : Interpolant) → p.first_application ≡ None → Called p b old (Ok i) new → IfOk r (λ t. IsLineOf interpolant_line p i.formula t.items) → IfOk r (λ t. IsSeamLine p b old t.items)
    found_line i none h k = line_told r (found_all i none h k)

    pub found_left : (i : Interpolant) → p.first_application ≡ None → Called p b old (Ok i) new → IfOk r (λ t. IsLineOf interpolant_line p i.formula t.items) → OnOk r (new ≡ after_line p b old)
    found_left i none h k = left_told r (found_all i none h k)

    missed_all : (x : InterpolantFault) → p.first_application ≡ None → is_large (parts_root p (first_sets b.cut b.at)).value ≡ false → Called p b old (Err x) new → IfOk r (λ t. TellsInterpolantFault x t.items) → IfOk r (λ t. Answered p b old t.items new)
    missed_all x none small h = all_told r (TellsInterpolantFault x) (λ text. fault_told p b old new x text none small h)

    pub missed_line : (x : InterpolantFault) → p.first_application ≡ None → is_large (parts_root p (first_sets b.cut b.at)).value ≡ false → Called p b old (Err x) new → IfOk r (λ t. TellsInterpolantFault x t.items) → IfOk r (λ t. IsSeamLine p b old t.items)
    missed_line x none small h k = line_told r (missed_all x none small h k)

    pub missed_left : (x : InterpolantFault) → p.first_application ≡ None → is_large (parts_root p (first_sets b.cut b.at)).value ≡ false → Called p b old (Err x) new → IfOk r (λ t. TellsInterpolantFault x t.items) → OnOk r (new ≡ after_line p b old)
    missed_left x none small h k = left_told r (missed_all x none small h k)

  plain_all : (r : Result (Vec ℕ) Memory) → p.first_application ≢ None → is_plainly_valid p ≡ true → new ≡ old → IfOk r (λ t. t.items ≡ unknown_line (codes "plain")) → IfOk r (λ t. Answered p b old t.items new)
  plain_all r some valid same = all_told r (λ text. text ≡ unknown_line (codes "plain")) (λ text e. subst (λ g. Answered p b old text g) (sym same) (plain_told p b old text some valid e))

  pub plain_line : (r : Result (Vec ℕ) Memory) → p.first_application ≢ None → is_plainly_valid p ≡ true → new ≡ old → IfOk r (λ t. t.items ≡ unknown_line (codes "plain")) → IfOk r (λ t. IsSeamLine p b old t.items)
  plain_line r some valid same k = line_told r (plain_all r some valid same k)

  pub plain_left : (r : Result (Vec ℕ) Memory) → p.first_application ≢ None → is_plainly_valid p ≡ true → new ≡ old → IfOk r (λ t. t.items ≡ unknown_line (codes "plain")) → OnOk r (new ≡ after_line p b old)
  plain_left r some valid same k = left_told r (plain_all r some valid same k)

-- of a call with these numbers
module _ (p : Problem) (cut place k j : ℕ) (same_cut : k ≡ cut) (same_place : j ≡ place) (old new : Funds) (some : p.first_application ≢ None) (not : ¬ (IsPlainlyValid p)) (r : Result (Vec ℕ) Memory) where
  placed : (x : Result Middle MiddleFault) → MakesMiddle p k j old x new → MakesMiddle p cut place old x new
  placed x h = subst (λ z. MakesMiddle p z place old x new) same_cut (subst (λ z. MakesMiddle p k z old x new) same_place h)

  placed_trees : (m : Middle) → HasTrees p k j m → HasTrees p cut place m
  placed_trees m h = subst (λ z. HasTrees p z place m) same_cut (subst (λ z. HasTrees p k z m) same_place h)

  middle_all : (m : Middle) → MakesMiddle p k j old (Ok m) new → HasTrees p k j m → IfOk r (λ t. TellsFormula p m.formula t.items) → IfOk r (λ t. Answered p (numbered p cut place) old t.items new)
  middle_all m h trees = all_told p (numbered p cut place) old new r (TellsFormula p m.formula) (λ text. middle_told p cut place old new m text some not (placed (Ok m) h) (placed_trees m trees))

  pub middle_line : (m : Middle) → MakesMiddle p k j old (Ok m) new → HasTrees p k j m → IfOk r (λ t. TellsFormula p m.formula t.items) → IfOk r (λ t. IsSeamLine p (numbered p cut place) old t.items)
  middle_line m h trees told = line_told p (numbered p cut place) old new r (middle_all m h trees told)

  pub middle_left : (m : Middle) → MakesMiddle p k j old (Ok m) new → HasTrees p k j m → IfOk r (λ t. TellsFormula p m.formula t.items) → OnOk r (new ≡ after_line p (numbered p cut place) old)
  middle_left m h trees told = left_told p (numbered p cut place) old new r (middle_all m h trees told)

  unmade_all : (x : MiddleFault) → is_large (parts_root p (first_sets (cut_of p cut) place)).value ≡ false → MakesMiddle p k j old (Err x) new → IfOk r (λ t. TellsMiddleFault x t.items)
      → IfOk r (λ t. Answered p (numbered p cut place) old t.items new)
  unmade_all x small h = all_told p (numbered p cut place) old new r (TellsMiddleFault x) (λ text. middle_fault_told p cut place old new x text some not small (placed (Err x) h))

  pub unmade_line : (x : MiddleFault) → is_large (parts_root p (first_sets (cut_of p cut) place)).value ≡ false → MakesMiddle p k j old (Err x) new → IfOk r (λ t. TellsMiddleFault x t.items)
      → IfOk r (λ t. IsSeamLine p (numbered p cut place) old t.items)
  unmade_line x small h told = line_told p (numbered p cut place) old new r (unmade_all x small h told)

  pub unmade_left : (x : MiddleFault) → is_large (parts_root p (first_sets (cut_of p cut) place)).value ≡ false → MakesMiddle p k j old (Err x) new → IfOk r (λ t. TellsMiddleFault x t.items)
      → OnOk r (new ≡ after_line p (numbered p cut place) old)
  unmade_left x small h told = left_told p (numbered p cut place) old new r (unmade_all x small h told)

-- a problem that holds without values has no existential constant
pub no_existentials : (w : Meaning) (p : Problem) → Holds w p [] → p.existentials ≡ []
no_existentials w p h = by p.existentials h.many
  where
    by : (xs : List (List ℕ)) → 0 ≡ length xs → xs ≡ []
    by [] e = refl
    by (x ∷ xs) e = absurd (omega (arith, e))

-- an interpretation
pub some_meaning : Meaning
some_meaning = meaning_of (record { truths = []; values = [] })

-- what is encoded is not too large
pub not_large : (p : Problem) (b : Seam) (old new : Funds) (fault : InterpolantFault) → is_large (parts_root p (first_sets b.cut b.at)).value ≡ false → Called p b old (Err fault) new → fault ≢ Encode refusal.Large
not_large p b old new fault small h is =
    let large : is_large (parts_root p (first_sets b.cut b.at)).value ≡ true = (subst (λ f. Called p b old (Err f) new) is h).0 in
    let bad : true ≡ false = sym large ∙ small in
    cc

-- ---- several lines

lines_join : (p : Problem) (bs cs : List Seam) (old : Funds) (xs ys : List (List ℕ)) → AreLines p bs old xs → AreLines p cs (after_lines p bs old) ys → AreLines p (bs ++ cs) old (xs ++ ys)
lines_join p [] cs old [] ys h k = k
lines_join p [] cs old (x ∷ xs) ys h k = absurd h
lines_join p (b ∷ bs) cs old [] ys h k = absurd h
lines_join p (b ∷ bs) cs old (x ∷ xs) ys h k = (h.0, lines_join p bs cs (after_line p b old) xs ys h.1 k)

after_join : (p : Problem) (bs cs : List Seam) (old : Funds) → after_lines p (bs ++ cs) old ≡ after_lines p cs (after_lines p bs old)
after_join p [] cs old = refl
after_join p (b ∷ bs) cs old = after_join p bs cs (after_line p b old)

concat_join : (xs ys : List (List ℕ)) → concat (xs ++ ys) ≡ concat xs ++ concat ys
concat_join [] ys = refl
concat_join (x ∷ xs) ys = ap (λ z. x ++ z) (concat_join xs ys) ∙ sym (append_assoc x (concat xs) (concat ys))

-- what is left of the seams: with the lines for the rest the text is whole, and after them the purse is as it will be
pub record Goes (p : Problem) (bs : List Seam) (now : Funds) (text : List ℕ) (all : List Seam) (old : Funds) : Type 0 where
  pub goes : (rest : List (List ℕ)) → AreLines p bs now rest → IsLinesText p all old (text ++ concat rest)
  pub left : after_lines p bs now ≡ after_lines p all old

pub goes_all : (p : Problem) (all : List Seam) (old : Funds) → Goes p all old [] all old
goes_all p all old = record { goes = λ rest h. record { lines = rest; are = h; whole = refl }; left = refl }

-- with the lines of some more
pub goes_more : (p : Problem) (bs cs ds : List Seam) (now new old : Funds) (text more whole : List ℕ) (all : List Seam) → cs ≡ bs ++ ds → whole ≡ text ++ more → IsLinesText p bs now more → new ≡ after_lines p bs now
    → Goes p cs now text all old → Goes p ds new whole all old
goes_more p bs cs ds now new old text more whole all is made told left h =
    subst (λ t. Goes p ds new t all old) (sym made) (subst (λ g. Goes p ds g (text ++ more) all old) (sym left) (record {
      goes = λ rest k.
          subst (IsLinesText p all old) (ap (λ z. text ++ z) (concat_join told.lines rest) ∙ sym (append_assoc text (concat told.lines) (concat rest)) ∙ ap (λ z. (text ++ z) ++ concat rest) (sym told.whole))
          (h.goes (told.lines ++ rest) (subst (λ xs. AreLines p xs now (told.lines ++ rest)) (sym is) (lines_join p bs ds now told.lines rest told.are k)));
      left = sym (after_join p bs ds now) ∙ ap (λ xs. after_lines p xs now) (sym is) ∙ h.left;
    }))

-- with one line more
pub goes_next : (p : Problem) (b : Seam) (cs ds : List Seam) (now new old : Funds) (text line whole : List ℕ) (all : List Seam) → cs ≡ b ∷ ds → whole ≡ text ++ line → IsSeamLine p b now line → new ≡ after_line p b now
    → Goes p cs now text all old → Goes p ds new whole all old
goes_next p b cs ds now new old text line whole all is made told left h =
    goes_more p (b ∷ []) cs ds now new old text line whole all is made (record { lines = line ∷ []; are = (told, tt); whole = sym (append-nil line) }) left h

pub goes_end : (p : Problem) (bs : List Seam) (now old : Funds) (text : List ℕ) (all : List Seam) → bs ≡ [] → Goes p bs now text all old → IsLinesText p all old text
goes_end p bs now old text all none h = subst (IsLinesText p all old) (append-nil text) (h.goes [] (subst (λ xs. AreLines p xs now []) (sym none) tt))

pub goes_left : (p : Problem) (bs : List Seam) (now old : Funds) (text : List ℕ) (all : List Seam) → bs ≡ [] → Goes p bs now text all old → now ≡ after_lines p all old
goes_left p bs now old text all none h = ap (λ xs. after_lines p xs now) (sym none) ∙ h.left

-- ---- the seams that are left

-- those of a block from a place on, and the ones after it
pub seams_next : (b : Cut) (n at : ℕ) → at < n → seams_from b at (n - at) ≡ record { cut = b; at = at } ∷ seams_from b (at + 1) (n - (at + 1))
seams_next b n at lt =
    let less : n - at ≡ suc (n - (at + 1)) = omega (arith, lt) in
    let next : suc at ≡ at + 1 = omega arith in
    ap (seams_from b at) less ∙ ap (λ k. record { cut = b; at = at } ∷ seams_from b k (n - (at + 1))) next

pub seams_end : (b : Cut) (n at : ℕ) → n ≤ at → seams_from b at (n - at) ≡ []
seams_end b n at le = let none : n - at ≡ 0 = omega (arith, le) in ap (seams_from b at) none

-- the cut with a number is one of them, and its seams are the first of those that are left
get_numbered : (cuts : List Cut) (i : ℕ) (c d : Cut) → i < length cuts → get_or cuts i c ≡ slice_index_or cuts i d
get_numbered [] i c d lt = absurd (omega (arith, lt))
get_numbered (b ∷ bs) zero c d lt = refl
get_numbered (b ∷ bs) (suc i) c d lt = get_numbered bs i c d (omega (arith, lt))

pub among_cuts : (p : Problem) (i : ℕ) → i < length p.cuts → Contains p.cuts (cut_of p i)
among_cuts p i lt = (i, lt, get_numbered p.cuts i (cut_of p i) (record { sets = [] }) lt)

-- its sets, as the code reads them
pub sets_many : (p : Problem) (i : ℕ) (slice : List Cut) (c : Cut) (read : List (List ℕ)) → slice ≡ p.cuts → i < length p.cuts → read ≡ (get_or slice i c).sets → length read ≡ length (cut_of p i).sets
sets_many p i slice c read is lt e =
    ap length e ∙ ap (λ cuts. length (get_or cuts i c).sets) is ∙ ap (λ (b : Cut). length b.sets) (get_numbered p.cuts i c (record { sets = [] }) lt)

seams_numbered : (cuts : List Cut) (i : ℕ) (d : Cut) → i < length cuts → seams (drop i cuts) ≡ seams_of (slice_index_or cuts i d) ++ seams (drop (i + 1) cuts)
seams_numbered [] i d lt = absurd (omega (arith, lt))
seams_numbered (b ∷ bs) zero d lt = refl
seams_numbered (b ∷ bs) (suc i) d lt =
    let next : suc (i + 1) ≡ suc i + 1 = omega arith in
    seams_numbered bs i d (omega (arith, lt)) ∙ ap (λ k. seams_of (slice_index_or bs i d) ++ seams (drop k (b ∷ bs))) next

pub next_cut : (p : Problem) (i : ℕ) → i < length p.cuts → seams (drop i p.cuts) ≡ seams_of (cut_of p i) ++ seams (drop (i + 1) p.cuts)
next_cut p i lt = seams_numbered p.cuts i (record { sets = [] }) lt

pub none_left : (cuts : List Cut) (i : ℕ) → length cuts ≤ i → seams (drop i cuts) ≡ []
none_left cuts i le = ap seams (drop_all cuts i le)
