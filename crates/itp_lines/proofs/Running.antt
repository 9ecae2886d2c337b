-- The calls do the work of a line.
use Rattle.std.proofs.Common.{◌≡◌, ℕ, true, false, if◌then◌else◌, [], ◌∷◌, Result, Ok, Err, refl, sym, ◌∙◌, ap, subst, arith}
use Rattle.base_budget.specs.declared.fault.ElimFault.TheVariants as elimination
use Rattle.base_budget.specs.Runs.{raw_stay}
use Rattle.base_budget.specs.Trace.{Funds, At, at, End, done, Traced}
use Rattle.base_budget.specs.Work.{Refused, Leaves}
use Rattle.base_budget.proofs.Meaning.{passes_where_runs}
use Rattle.form_typed.specs.Formula.{Formula, constant, every, formulas, implies}
use Rattle.pri_typing.specs.declared.problem.Problem.{Problem}
use Rattle.pri_printer.specs.Printed.{dnf_formula}
use Rattle.formula.specs.declared.calculus.Core.{Core}
use Rattle.formula.specs.Form.{Form}
use Rattle.formula.specs.Made.{Made}
use Rattle.formula.specs.Tree.{form}
use Rattle.form_encoding.specs.Problems.{is_large, parts_root}
use Rattle.function_encoding.specs.declared.answer.EncodeRefusal.{EncodeRefusal}
use Rattle.function_encoding.specs.declared.answer.EncodeRefusal.TheVariants as refusal
use Rattle.function_encoding.specs.Encoded.{Encodes}
use Rattle.proof_tree.specs.declared.node.Tree.{Tree}
use Rattle.interpolant.specs.declared.fault.Interpolant.{Interpolant}
use Rattle.interpolant.specs.declared.fault.InterpolantFault.{InterpolantFault}
use Rattle.interpolant.specs.declared.fault.InterpolantFault.TheVariants.{Elim, Encode}
use Rattle.interpolant.specs.Run.{AnswersInterpolant}
use Rattle.itp_sides.specs.Sides.{Case, arithmetic, first_itself, second_denied, none, case_of, cut_of, first_sets, other_sets}
use Rattle.pred_interpolant.specs.declared.fault.MiddleFault.{MiddleFault}
use Rattle.pred_interpolant.specs.declared.fault.MiddleFault.TheVariants as fault
use Rattle.pred_interpolant.specs.declared.fault.MiddleFormula.{MiddleFormula}
use Rattle.pred_interpolant.specs.declared.fault.MiddleFormula.TheVariants.{Arithmetic, General}
use Rattle.pred_interpolant.specs.Made as made
use Rattle.pred_interpolant.specs.Made.{Finds, FindsBy, IsRootOf, IsUnencoded, MakesObligations, Misses, uninterpolated, unencoded}
use Rattle.pred_interpolant.specs.Middle.{above, below, obligation_root, said}
use Rattle.pri_problem.proofs.Encoded.{left_stays}
use Rattle.itp_lines.specs.declared.proved.Middle.{Middle}
use Rattle.itp_lines.specs.Runs as runs
use Rattle.itp_lines.specs.Runs.{FindsTree as FindsTree, MakesMiddle, StopsRun}
use Rattle.itp_lines.specs.Ends.{Cause, steps, overflow, symbols, branch, large, LineEnd, prints, tells, above_by, below_by, formula_by, found_by, middle_by, normal_end, proof_ended, run_ended, seam_end, seam_run, stays, then_encoded, then_proved}
use Rattle.itp_lines.specs.Seams.{Seam, before, behind}

-- what a fault tells; running out of memory tells nothing
abbrev pub cause_of : MiddleFault → Cause
cause_of fault.Symbols = symbols
cause_of fault.Steps = steps
cause_of (fault.Overflow place) = overflow
cause_of fault.Branch = branch
cause_of fault.Large = large
cause_of fault.Memory = steps

abbrev pub IsNoWant : MiddleFault → Type 0
IsNoWant fault.Memory = ⊥
IsNoWant e = Unit {0}

no_want : (e : MiddleFault) → IsNoWant e → e ≡ fault.Memory → ⊥
no_want e h is = subst IsNoWant is h

abbrev start : At
start = at (record { budget = 0; spent = 0 }) []

made_stays : (work : Traced Form) (f : Core) → Made form work (Ok f) → raw_stay work.events ≡ true
made_stays work f m = ((passes_where_runs work.events start start (omega arith)).0 (((m.works).each start).ok (form f) refl).1.end).stay

-- ---- the run of a normal form

abbrev pub Called : Problem → Seam → Funds → Result Interpolant InterpolantFault → Funds → Type 0
Called p b = AnswersInterpolant p (first_sets b.cut b.at) (other_sets b.cut b.at)

normal_ended : (p : Problem) (b : Seam) (old : Funds) (end : End) → stays p b ≡ true → seam_end p b old ≡ end → normal_end p b old ≡ run_ended end
normal_ended p b old end stay is = ap (λ s. if s then run_ended (seam_end p b old) else tells overflow old) stay ∙ ap run_ended is

normal_left : (p : Problem) (b : Seam) (old : Funds) → stays p b ≡ false → normal_end p b old ≡ tells overflow old
normal_left p b old leaves = ap (λ s. if s then run_ended (seam_end p b old) else tells overflow old) leaves

pub run_found : (p : Problem) (b : Seam) (old new : Funds) (i : Interpolant) → Called p b old (Ok i) new → (normal_end p b old ≡ prints new) × ((seam_run p b).value ≡ i.formula)
run_found p b old new i h =
    let ended = ((h.1).did []).charged.ok i.formula refl in
    let is : seam_end p b old ≡ done (at new ((h.1).did []).notes) = (ended.1).end in
    (normal_ended p b old _ (h.0).stay is, sym ended.0)

pub run_missed : (p : Problem) (b : Seam) (old new : Funds) (x : InterpolantFault) → is_large (parts_root p (first_sets b.cut b.at)).value ≡ false → Called p b old (Err x) new → IsNoWant (uninterpolated x)
    → normal_end p b old ≡ tells (cause_of (uninterpolated x)) new
run_missed p b old new (Elim (elimination.Steps log)) small h n =
    let notes = ((h.1).did []).notes in
    let ended : Refused (seam_run p b).events (at old []) (at new notes) = ((h.1).did []).charged.steps refl in
    normal_ended p b old _ (h.0).stay ended.end
run_missed p b old new (Elim (elimination.Overflow log place)) small h n =
    let notes = ((h.1).did []).notes in
    let ended : Leaves (seam_run p b).events (at old []) (at new notes) place = ((h.1).did []).charged.overflow place refl in
    normal_ended p b old _ (h.0).stay ended.end
run_missed p b old new (Elim elimination.Memory) small h n = absurd n
run_missed p b old new (Encode refusal.Large) small h n = let bad : true ≡ false = sym h.0 ∙ small in cc
run_missed p b old new (Encode (refusal.Overflow place)) small h n =
    normal_left p b old (left_stays (parts_root p (first_sets b.cut b.at)) place h.0.1) ∙ ap (tells overflow) (sym h.1)
run_missed p b old new (Encode refusal.Memory) small h n = absurd n

-- ---- what comes after a formula

pub encoded_on : (p : Problem) (f : Formula) (c : Core) (left : Funds) → IsRootOf p f c → then_encoded p f (prints left) ≡ prints left
encoded_on p f c left h =
    ap (λ l. if l then tells large left else (if raw_stay (obligation_root p f).events then prints left else tells overflow left)) h.0
    ∙ ap (λ s. if s then prints left else tells overflow left) (made_stays (obligation_root p f) c h.1)

unencoded_by : (p : Problem) (f : Formula) (left : Funds) (r : EncodeRefusal) → Encodes (obligation_root p f) (Err r) → IsNoWant (unencoded r)
    → then_encoded p f (prints left) ≡ tells (cause_of (unencoded r)) left
unencoded_by p f left refusal.Large h n = ap (λ l. if l then tells large left else (if raw_stay (obligation_root p f).events then prints left else tells overflow left)) h
unencoded_by p f left (refusal.Overflow place) h n =
    ap (λ l. if l then tells large left else (if raw_stay (obligation_root p f).events then prints left else tells overflow left)) h.0
    ∙ ap (λ s. if s then prints left else tells overflow left) (left_stays (obligation_root p f) place h.1)
unencoded_by p f left refusal.Memory h n = absurd n

pub encoded_not : (p : Problem) (f : Formula) (left : Funds) (e : MiddleFault) → IsUnencoded p f e → IsNoWant e → then_encoded p f (prints left) ≡ tells (cause_of e) left
encoded_not p f left e h n = unencoded_by p f left h.0 h.1 (subst IsNoWant h.2 n) ∙ ap (λ x. tells (cause_of x) left) (sym h.2)

pub proved_on : (p : Problem) (f : Formula) (old new : Funds) (t : Tree) → FindsTree p f old t new → then_proved p f (prints old) ≡ prints new
proved_on p f old new t h = ap proof_ended h.2

pub proved_not : (p : Problem) (f : Formula) (old new : Funds) (e : MiddleFault) → StopsRun p f old e new → IsNoWant e → then_proved p f (prints old) ≡ tells (cause_of e) new
proved_not p f old new fault.Steps h n = ap proof_ended h.1
proved_not p f old new (fault.Overflow place) h n = ap proof_ended h.2
proved_not p f old new fault.Branch h n = ap proof_ended h.1
proved_not p f old new fault.Memory h n = absurd n
proved_not p f old new fault.Symbols h n = absurd h
proved_not p f old new fault.Large h n = absurd h

-- ---- the formula

module _ (p : Problem) (cut place : ℕ) where
  abbrev b : Seam
  b = record { cut = cut_of p cut; at = place }

  found_formula : (c : Case) (old new : Funds) (m : MiddleFormula) → FindsBy p cut place c old m new → (found_by p b c old ≡ prints new) × (formula_by p b c ≡ said p m)
  found_formula arithmetic old new (Arithmetic d) h = let f = run_found p b old new _ h in (f.0, ap (dnf_formula p) f.1)
  found_formula arithmetic old new (General f) h = absurd h
  found_formula first_itself old new (Arithmetic d) h = absurd h
  found_formula first_itself old new (General f) h = (ap prints (sym h.1), sym h.0)
  found_formula second_denied old new (Arithmetic d) h = absurd h
  found_formula second_denied old new (General f) h = (ap prints (sym h.1), sym h.0)
  found_formula none old new m h = absurd h

  -- the work by the case of the seam
  abbrev c : Case
  c = case_of p (cut_of p cut) place

  abbrev work : LineEnd → LineEnd
  work end = then_proved p (above_by p b c) (then_proved p (below_by p b c) (then_encoded p (above_by p b c) (then_encoded p (below_by p b c) end)))

  abbrev proofs : LineEnd → LineEnd
  proofs end = then_proved p (above_by p b c) (then_proved p (below_by p b c) end)

  below_is : (m : MiddleFormula) → formula_by p b c ≡ said p m → below_by p b c ≡ below p cut place m
  below_is m is = ap (λ f. implies (before p b) f) is

  above_is : (m : MiddleFormula) → formula_by p b c ≡ said p m → above_by p b c ≡ above p cut place m
  above_is m is = ap (λ f. implies (every (formulas (f ∷ behind p b ∷ []))) (constant false)) is

  missed : (old new : Funds) (e : MiddleFault) → is_large (parts_root p (first_sets b.cut b.at)).value ≡ false → Misses p cut place old e new → IsNoWant e → found_by p b c old ≡ tells (cause_of e) new
  missed old new e small (made.symbols is f left) n = ap (λ k. found_by p b k old) is ∙ ap (tells symbols) (sym left) ∙ ap (λ x. tells (cause_of x) new) (sym f)
  missed old new e small (made.run x is h f) n =
      ap (λ k. found_by p b k old) is ∙ run_missed p b old new x small h (subst IsNoWant f n) ∙ ap (λ y. tells (cause_of y) new) (sym f)
  missed old new e small (made.memory f) n = absurd (no_want e n f)

  -- both obligations are encoded
  both_encoded : (old new : Funds) (m : MiddleFormula) (x y : Core) → Finds p cut place old m new → IsRootOf p (below p cut place m) x → IsRootOf p (above p cut place m) y → work (found_by p b c old) ≡ proofs (prints new)
  both_encoded old new m x y h k l =
      let f = found_formula c old new m h in
      ap work f.0
      ∙ ap (λ z. proofs (then_encoded p (above_by p b c) z)) (encoded_on p (below_by p b c) x new (subst (λ g. IsRootOf p g x) (sym (below_is m f.1)) k))
      ∙ ap proofs (encoded_on p (above_by p b c) y new (subst (λ g. IsRootOf p g y) (sym (above_is m f.1)) l))

  unmade : (old new : Funds) (e : MiddleFault) → is_large (parts_root p (first_sets b.cut b.at)).value ≡ false → made.ObligationsEndEarly p cut place old e new → IsNoWant e → work (found_by p b c old) ≡ tells (cause_of e) new
  unmade old new e small (made.unfound h) n = ap work (missed old new e small h n)
  unmade old new e small (made.first_obligation m h k) n =
      let f = found_formula c old new m h in
      ap work f.0
      ∙ ap (λ z. proofs (then_encoded p (above_by p b c) z)) (encoded_not p (below_by p b c) new e (subst (λ g. IsUnencoded p g e) (sym (below_is m f.1)) k) n)
  unmade old new e small (made.second_obligation m x h k l) n =
      let f = found_formula c old new m h in
      ap work f.0
      ∙ ap (λ z. proofs (then_encoded p (above_by p b c) z)) (encoded_on p (below_by p b c) x new (subst (λ g. IsRootOf p g x) (sym (below_is m f.1)) k))
      ∙ ap proofs (encoded_not p (above_by p b c) new e (subst (λ g. IsUnencoded p g e) (sym (above_is m f.1)) l) n)

  -- what is made: the work ends with the formula, and this is the one of the case
  pub record IsMade (old new : Funds) (m : MiddleFormula) : Type 0 where
    pub ends : middle_by p b c old ≡ prints new
    pub left : Funds
    pub finds : FindsBy p cut place c old m left
    pub is : formula_by p b c ≡ said p m

  pub middle_made : (old new : Funds) (m : Middle) → MakesMiddle p cut place old (Ok m) new → IsMade old new m.formula
  middle_made old new m h =
      let f = found_formula c old h.0 m.formula h.2.0 in
      record {
        ends = both_encoded old h.0 m.formula _ _ h.2.0 h.2.1 h.2.2
            ∙ ap (then_proved p (above_by p b c)) (proved_on p (below_by p b c) h.0 h.1 m.below.tree (subst (λ g. FindsTree p g h.0 m.below.tree h.1) (sym (below_is m.formula f.1)) h.3))
            ∙ proved_on p (above_by p b c) h.1 new m.above.tree (subst (λ g. FindsTree p g h.1 m.above.tree new) (sym (above_is m.formula f.1)) h.4);
        left = h.0;
        finds = h.2.0;
        is = f.1;
      }

  pub middle_unmade : (old new : Funds) (e : MiddleFault) → is_large (parts_root p (first_sets b.cut b.at)).value ≡ false → MakesMiddle p cut place old (Err e) new → IsNoWant e
      → middle_by p b c old ≡ tells (cause_of e) new
  middle_unmade old new e small (runs.obligations h) n = unmade old new e small h n
  middle_unmade old new e small (runs.first_run o left h k) n =
      let f = found_formula c old left o.formula h.0 in
      both_encoded old left o.formula _ _ h.0 h.1 h.2
      ∙ ap (then_proved p (above_by p b c)) (proved_not p (below_by p b c) left new e (subst (λ g. StopsRun p g left e new) (sym (below_is o.formula f.1)) k) n)
  middle_unmade old new e small (runs.second_run o t left between h k l) n =
      let f = found_formula c old left o.formula h.0 in
      both_encoded old left o.formula _ _ h.0 h.1 h.2
      ∙ ap (then_proved p (above_by p b c)) (proved_on p (below_by p b c) left between t (subst (λ g. FindsTree p g left t between) (sym (below_is o.formula f.1)) k))
      ∙ proved_not p (above_by p b c) between new e (subst (λ g. StopsRun p g between e new) (sym (above_is o.formula f.1)) l) n
