-- The lines of blocks: one list of them, the same for the same problem, and where each comes.
use Rattle.std.proofs.Common.{◌≡◌, ◌<◌, ◌+◌, ℕ, zero, suc, Bool, true, false, cond, nat_eq, if◌then◌else◌, is_some, List, [], ◌∷◌, ◌++◌, length, map, filter, take, refl, sym, ◌∙◌, ap, subst, slice_index_or, arith}
use Rattle.std.specs.List.{list_any}
use Rattle.base_budget.specs.Runs.{raw_stay}
use Rattle.base_budget.specs.Trace.{Funds, at, Traced, just, next}
use Rattle.base_budget.specs.Trace as trace
use Rattle.form_typed.specs.Formula.{Formula, constant, every, formulas, implies, negation}
use Rattle.formula.specs.Form.{Form}
use Rattle.clause_set.specs.declared.literal.Literal.{Literal}
use Rattle.pri_typing.specs.declared.problem.Problem.{Problem}
use Rattle.pri_typing.specs.Problems.{assumed, assumed_by, is_part_in, is_plainly_true}
use Rattle.pri_typing.specs.WellFormed.{formula_components}
use Rattle.pri_printer.specs.Formulas.{normal_form_formula}
use Rattle.pri_printer.specs.Printed.{dnf_text}
use Rattle.form_encoding.specs.Encoding.{encoded}
use Rattle.form_encoding.specs.Meaning.{type_at}
use Rattle.form_encoding.specs.Problems.{constants, extended, is_large, parts_root}
use Rattle.form_encoding.specs.Root.{conditions, names_from, root}
use Rattle.form_encoding.specs.Occurrences.{occurs}
use Rattle.proof_tree.specs.declared.run.Verdict.TheVariants as verdict
use Rattle.proof_tree.specs.Proves.{Proves}
use Rattle.base_budget.specs.Ending.{ending}
use Rattle.search.specs.Run.{canonical_run}
use Rattle.interpolant.specs.Run.{interpolating, projecting}
use Rattle.itp_sides.specs.Closing.{own_constants, quantified, rebound, renamed, strongest_formula, weakest_formula}
use Rattle.itp_sides.specs.Sides.{Case, arithmetic, first_itself, second_denied, none, case_between, first_sets, other_sets}
use Rattle.pred_interpolant.specs.Middle.{obligation_root}
use Rattle.pri_problem.specs.Reads.{AreSame}
use Rattle.pri_lines.specs.Constraint.{IsTextOf, interpolant_line}
use Rattle.pri_lines.proofs.Printed.{text_same}
use Rattle.itp_printer.specs.Plain.{plain as plain_form}
use Rattle.itp_printer.specs.TypedText.{formula_text}
use Rattle.itp_lines.specs.Blocks.{after_line, after_lines, unknown_line, IsSeamLine, found, unknown, IsTextBy, IsTypedText, AreLines, AreBlockLines}
use Rattle.itp_lines.specs.Causes.{before_line, line_at, seam_at, AreBlocksCaused, IsSeamFound, IsUnknown}
use Rattle.itp_lines.specs.Ends.{Cause, steps, overflow, symbols, branch, large, plain, cause_text, LineEnd, prints, tells, unproved, left_by, above_by, below_by, formula_by, found_by, is_applied, is_plainly_valid, line_end, middle_by, normal_end, proof_ended, run_ended, seam_case, seam_run, then_encoded, then_proved}
use Rattle.itp_lines.specs.Proved.{AreObligationsProved, HasProvingTree}
use Rattle.itp_lines.specs.Seams.{Seam, before, behind, seams}
use Rattle.itp_lines.proofs.Texts.{formula_same, says_same}

-- ---- one line for each seam

-- the text of the formula that stands there by the case
abbrev text_by : Problem → Seam → Case → List ℕ
text_by p b arithmetic = dnf_text p (seam_run p b).value
text_by p b first_itself = formula_text p 0 (formula_by p b first_itself)
text_by p b second_denied = formula_text p 0 (formula_by p b second_denied)
text_by p b none = []

text_is : (p : Problem) (b : Seam) (c : Case) (x : List ℕ) → IsTextBy p b c x → x ≡ text_by p b c
text_is p b arithmetic x h = h.text
text_is p b first_itself x h = h.text
text_is p b second_denied x h = h.text
text_is p b none x h = absurd h

-- the line of an end
abbrev end_line : Problem → Seam → LineEnd → List ℕ
end_line p b (prints left) = interpolant_line (text_by p b (seam_case p b))
end_line p b (tells c left) = unknown_line (cause_text c)
end_line p b (unproved left) = []

-- the line of a seam
abbrev seam_line : Problem → Seam → Funds → List ℕ
seam_line p b old = end_line p b (line_end p b old)

line_is : (p : Problem) (b : Seam) (old : Funds) (text : List ℕ) → IsSeamLine p b old text → text ≡ seam_line p b old
line_is p b old text (found left x is printed e proved) = e ∙ ap interpolant_line (text_is p b (seam_case p b) x printed) ∙ sym (ap (end_line p b) is)
line_is p b old text (unknown c left is e) = e ∙ sym (ap (end_line p b) is)

-- the lines of seams
abbrev pub seam_lines : Problem → List Seam → Funds → List (List ℕ)
seam_lines p [] old = []
seam_lines p (b ∷ bs) old = seam_line p b old ∷ seam_lines p bs (after_line p b old)

pub lines_are : (p : Problem) (bs : List Seam) (old : Funds) (texts : List (List ℕ)) → AreLines p bs old texts → texts ≡ seam_lines p bs old
lines_are p [] old [] h = refl
lines_are p [] old (t ∷ ts) h = absurd h
lines_are p (b ∷ bs) old [] h = absurd h
lines_are p (b ∷ bs) old (t ∷ ts) h = ap (λ x. x ∷ ts) (line_is p b old t h.0) ∙ ap (λ xs. seam_line p b old ∷ xs) (lines_are p bs (after_line p b old) ts h.1)

pub one_list : (p : Problem) (old : Funds) (xs ys : List (List ℕ)) → AreBlockLines p p.cuts old xs → AreBlockLines p p.cuts old ys → xs ≡ ys
one_list p old xs ys h k = lines_are p (seams p.cuts) old xs h ∙ sym (lines_are p (seams p.cuts) old ys k)

-- ---- the same problem

module _ (p q : Problem) (same : AreSame p q) where
  constants_same : constants p ≡ constants q
  constants_same = λ i. length (same.existentials i) + length (same.universals i)

  assumed_same : (set : List ℕ) → assumed_by p set ≡ assumed_by q set
  assumed_same set = ap (λ f. every (formulas (map assumed (filter (λ c. is_part_in set c.what) (formula_components true f))))) same.formula

  root_same : (set : List ℕ) → parts_root p set ≡ parts_root q set
  root_same set = λ i. next (encoded (names_from 0 (constants_same i)) (constants_same i) true (assumed_same set i)) (λ f.
      next (conditions (λ x. occurs x (assumed_same set i)) 0 (same.existential_types i ++ same.universal_types i)) (λ hs. just (extended f hs)))

  interpolating_same : (first second : List ℕ) → interpolating p first second ≡ interpolating q first second
  unfolding interpolating
  interpolating_same first second =
      let stays : Formula → ℕ → Bool = λ g x. occurs x g in
      ap (λ g. projecting (stays g) (constants p) (parts_root p first).value) (assumed_same second)
      ∙ ap (λ n. projecting (stays (assumed_by q second)) n (parts_root p first).value) constants_same
      ∙ ap (λ (r : Traced Form). projecting (stays (assumed_by q second)) (constants q) r.value) (root_same first)

  run_same : (b : Seam) → seam_run p b ≡ seam_run q b
  run_same b = interpolating_same (first_sets b.cut b.at) (other_sets b.cut b.at)

  before_same : (b : Seam) → before p b ≡ before q b
  before_same b = assumed_same (first_sets b.cut b.at)

  behind_same : (b : Seam) → behind p b ≡ behind q b
  behind_same b = assumed_same (other_sets b.cut b.at)

  applied_same : is_applied p ≡ is_applied q
  applied_same = ap is_some same.first_application

  valid_same : is_plainly_valid p ≡ is_plainly_valid q
  valid_same = ap (λ f. list_any is_plainly_true (formula_components true f)) same.formula

  case_same : (b : Seam) → seam_case p b ≡ seam_case q b
  case_same b = λ i. if applied_same i then case_between (before_same b i) (behind_same b i) else arithmetic

  strongest_same : (f g h k : Formula) → f ≡ h → g ≡ k → strongest_formula p f g ≡ strongest_formula q h k
  strongest_same f g h k a b = λ i. (
      let own = own_constants (constants_same i) (a i) (b i) in
      quantified false (map (type_at (same.existential_types i ++ same.universal_types i)) own) (renamed (rebound (constants_same i) own) (a i)))

  weakest_same : (f g h k : Formula) → f ≡ h → g ≡ k → weakest_formula p f g ≡ weakest_formula q h k
  weakest_same f g h k a b = λ i. (
      let own = own_constants (constants_same i) (b i) (a i) in
      quantified true (map (type_at (same.existential_types i ++ same.universal_types i)) own) (renamed (rebound (constants_same i) own) (negation (b i))))

  formula_by_same : (b : Seam) (c : Case) → formula_by p b c ≡ formula_by q b c
  formula_by_same b arithmetic = λ i. normal_form_formula (length (same.existentials i ++ same.universals i)) (run_same b i).value
  formula_by_same b first_itself = strongest_same _ _ _ _ (before_same b) (behind_same b)
  formula_by_same b second_denied = weakest_same _ _ _ _ (before_same b) (behind_same b)
  formula_by_same b none = refl

  below_same : (b : Seam) (c : Case) → below_by p b c ≡ below_by q b c
  below_same b c = λ i. implies (before_same b i) (formula_by_same b c i)

  above_same : (b : Seam) (c : Case) → above_by p b c ≡ above_by q b c
  above_same b c = λ i. implies (every (formulas (formula_by_same b c i ∷ behind_same b i ∷ []))) (constant false)

  obligation_same : (f g : Formula) → f ≡ g → obligation_root p f ≡ obligation_root q g
  obligation_same f g is = λ i. root (same.existential_types i) (same.universal_types i) (encoded (names_from 0 (constants_same i)) (constants_same i) true (is i))

  encoded_same : (f g : Formula) → f ≡ g → (end : LineEnd) → then_encoded p f end ≡ then_encoded q g end
  encoded_same f g is (prints left) =
      ap (λ (r : Traced Form). if is_large r.value then tells large left else (if raw_stay r.events then prints left else tells overflow left)) (obligation_same f g is)
  encoded_same f g is (tells c left) = refl
  encoded_same f g is (unproved left) = refl

  proved_same : (f g : Formula) → f ≡ g → (end : LineEnd) → then_proved p f end ≡ then_proved q g end
  proved_same f g is (prints left) =
      λ i. proof_ended (ending (canonical_run (obligation_same f g is i).value (length (same.existentials i)) left.budget) (at left []))
  proved_same f g is (tells c left) = refl
  proved_same f g is (unproved left) = refl

  normal_same : (b : Seam) (old : Funds) → normal_end p b old ≡ normal_end q b old
  normal_same b old = λ i. if raw_stay (root_same (first_sets b.cut b.at) i).events then run_ended (trace.cut (run_same b i).events (at old [])) else tells overflow old

  found_same : (b : Seam) (c : Case) (old : Funds) → found_by p b c old ≡ found_by q b c old
  found_same b arithmetic old = normal_same b old
  found_same b first_itself old = refl
  found_same b second_denied old = refl
  found_same b none old = refl

  middle_same : (b : Seam) (c : Case) (old : Funds) → middle_by p b c old ≡ middle_by q b c old
  middle_same b c old =
      let one = found_same b c old in
      let two = encoded_same _ _ (below_same b c) (found_by p b c old) ∙ ap (then_encoded q (below_by q b c)) one in
      let three = encoded_same _ _ (above_same b c) (then_encoded p (below_by p b c) (found_by p b c old)) ∙ ap (then_encoded q (above_by q b c)) two in
      let four = proved_same _ _ (below_same b c) (then_encoded p (above_by p b c) (then_encoded p (below_by p b c) (found_by p b c old))) ∙ ap (then_proved q (below_by q b c)) three in
      proved_same _ _ (above_same b c) (then_proved p (below_by p b c) (then_encoded p (above_by p b c) (then_encoded p (below_by p b c) (found_by p b c old))))
      ∙ ap (then_proved q (above_by q b c)) four

  end_same : (b : Seam) (old : Funds) → line_end p b old ≡ line_end q b old
  end_same b old =
      let one = middle_same b (seam_case p b) old ∙ ap (λ c. middle_by q b c old) (case_same b) in
      λ i. if applied_same i then (if valid_same i then tells plain old else one i) else normal_same b old i

  after_same : (b : Seam) (old : Funds) → after_line p b old ≡ after_line q b old
  after_same b old = ap left_by (end_same b old)

  typed_same : (f g : Formula) (x : List ℕ) → f ≡ g → IsTypedText p f x → IsTypedText q g x
  typed_same f g x is h = record { text = h.text ∙ formula_same p q same 0 f ∙ ap (formula_text q 0) is; says = says_same p q same x _ _ (ap plain_form is) h.says }

  text_by_same : (b : Seam) (c : Case) (x : List ℕ) → IsTextBy p b c x → IsTextBy q b c x
  text_by_same b arithmetic x h = subst (λ (r : Traced (List (List Literal))). IsTextOf q r.value x) (run_same b) (text_same p q (seam_run p b).value x same h)
  text_by_same b first_itself x h = typed_same _ _ x (formula_by_same b first_itself) h
  text_by_same b second_denied x h = typed_same _ _ x (formula_by_same b second_denied) h
  text_by_same b none x h = h

  tree_same : (f g : Formula) → f ≡ g → HasProvingTree p f → HasProvingTree q g
  tree_same f g is h = record {
    tree = h.tree;
    conclusion = h.conclusion;
    charges = h.charges;
    proves = subst (λ names. Proves (obligation_root q g).value (length names) h.tree h.conclusion h.charges (verdict.Valid [])) same.existentials
        (subst (λ (r : Traced Form). Proves r.value (length p.existentials) h.tree h.conclusion h.charges (verdict.Valid [])) (obligation_same f g is) h.proves);
  }

  obligations_same : (b : Seam) (c : Case) → AreObligationsProved p b (formula_by p b c) → AreObligationsProved q b (formula_by q b c)
  obligations_same b c h = record { below = tree_same _ _ (below_same b c) h.below; above = tree_same _ _ (above_same b c) h.above }

  line_same : (b : Seam) (old : Funds) (text : List ℕ) → IsSeamLine p b old text → IsSeamLine q b old text
  line_same b old text (found left x is printed e proved) =
      found left x (sym (end_same b old) ∙ is) (subst (λ c. IsTextBy q b c x) (case_same b) (text_by_same b (seam_case p b) x printed)) e
      (λ some. subst (λ c. AreObligationsProved q b (formula_by q b c)) (case_same b) (obligations_same b (seam_case p b) (proved (λ gone. some (sym same.first_application ∙ gone)))))
  line_same b old text (unknown c left is e) = unknown c left (sym (end_same b old) ∙ is) e

  lines_same : (bs : List Seam) (old : Funds) (texts : List (List ℕ)) → AreLines p bs old texts → AreLines q bs old texts
  lines_same [] old [] h = h
  lines_same [] old (t ∷ ts) h = h
  lines_same (b ∷ bs) old [] h = h
  lines_same (b ∷ bs) old (t ∷ ts) h = (line_same b old t h.0, lines_same bs (after_line q b old) ts (subst (λ g. AreLines p bs g ts) (after_same b old) h.1))

  pub same_list : (old : Funds) (texts : List (List ℕ)) → AreBlockLines p p.cuts old texts → AreBlockLines q q.cuts old texts
  same_list old texts h = subst (λ bs. AreLines q (seams bs) old texts) same.cuts (lines_same (seams p.cuts) old texts h)

-- ---- where each line comes

-- the bytes of a line that tell whether an interpolant was found, and what was met
abbrev mark : List ℕ → ℕ
mark text = slice_index_or text 11 0

abbrev second_letter : List ℕ → ℕ
second_letter text = slice_index_or text 22 0

-- the cause with this second letter
read_cause : ℕ → Cause
read_cause n = cond (nat_eq n 116) steps (cond (nat_eq n 118) overflow (cond (nat_eq n 121) symbols (cond (nat_eq n 114) branch (cond (nat_eq n 97) large plain))))

cause_read : (c : Cause) → read_cause (second_letter (unknown_line (cause_text c))) ≡ c
unfolding read_cause
cause_read steps = refl
cause_read overflow = refl
cause_read symbols = refl
cause_read branch = refl
cause_read large = refl
cause_read plain = refl

one_cause : (c d : Cause) (text : List ℕ) → text ≡ unknown_line (cause_text c) → text ≡ unknown_line (cause_text d) → c ≡ d
one_cause c d text h k = sym (cause_read c) ∙ ap (λ t. read_cause (second_letter t)) (sym h ∙ k) ∙ cause_read d

-- lines tell apart what was met
not_found : (x text : List ℕ) (what : List ℕ) → text ≡ interpolant_line x → text ≡ unknown_line what → ⊥
not_found x text what h k = omega (arith, ap mark (sym h ∙ k))

-- a work ends in one way
not_both : (end : LineEnd) (a b : Funds) (c : Cause) → end ≡ prints a → end ≡ tells c b → ⊥
not_both end a b c h k = let bad = sym h ∙ k in cc

told_cause : LineEnd → Cause
told_cause (prints a) = steps
told_cause (tells c a) = c
told_cause (unproved a) = steps

one_told : (end : LineEnd) (a b : Funds) (c d : Cause) → end ≡ tells c a → end ≡ tells d b → c ≡ d
unfolding told_cause
one_told end a b c d h k = ap told_cause (sym h ∙ k)

abbrev PrintsFound : Problem → Seam → List ℕ → Type 0
PrintsFound p b text = (x : List ℕ) × IsTextBy p b (seam_case p b) x × (text ≡ interpolant_line x)

found_is : (p : Problem) (b : Seam) (old : Funds) (text : List ℕ) → IsSeamLine p b old text → PrintsFound p b text → IsSeamFound p b old
found_is p b old text (found left x is printed e proved) h = (left, is)
found_is p b old text (unknown c left is e) h = absurd (not_found h.0 text (cause_text c) h.2 e)

is_found : (p : Problem) (b : Seam) (old : Funds) (text : List ℕ) → IsSeamLine p b old text → IsSeamFound p b old → PrintsFound p b text
is_found p b old text (found left x is printed e proved) h = (x, printed, e)
is_found p b old text (unknown c left is e) h = absurd (not_both (line_end p b old) h.0 left c h.1 is)

unknown_is : (c : Cause) (p : Problem) (b : Seam) (old : Funds) (text : List ℕ) → IsSeamLine p b old text → text ≡ unknown_line (cause_text c) → IsUnknown c p b old
unknown_is c p b old text (found left x is printed e proved) h = absurd (not_found x text (cause_text c) e h)
unknown_is c p b old text (unknown d left is e) h = (left, is ∙ ap (λ k. tells k left) (one_cause d c text e h))

is_unknown : (c : Cause) (p : Problem) (b : Seam) (old : Funds) (text : List ℕ) → IsSeamLine p b old text → IsUnknown c p b old → text ≡ unknown_line (cause_text c)
is_unknown c p b old text (found left x is printed e proved) h = absurd (not_both (line_end p b old) left h.0 c is h.1)
is_unknown c p b old text (unknown d left is e) h = e ∙ ap (λ k. unknown_line (cause_text k)) (one_told (line_end p b old) left h.0 d c is h.1)

abbrev no_seam : Seam
no_seam = record { cut = record { sets = [] }; at = 0 }

-- the line with a number is that of the seam with this number, on the purse as it stands before
line_of : (p : Problem) (bs : List Seam) (old : Funds) (texts : List (List ℕ)) → AreLines p bs old texts → (k : ℕ) → k < length bs
    → IsSeamLine p (slice_index_or bs k no_seam) (after_lines p (take k bs) old) (line_at texts k)
line_of p [] old texts h k lt = absurd (omega (arith, lt))
line_of p (b ∷ bs) old [] h k lt = absurd h
line_of p (b ∷ bs) old (t ∷ ts) h zero lt = h.0
line_of p (b ∷ bs) old (t ∷ ts) h (suc k) lt = line_of p bs (after_line p b old) ts h.1 k (omega (arith, lt))

as_many : (p : Problem) (bs : List Seam) (old : Funds) (texts : List (List ℕ)) → AreLines p bs old texts → length texts ≡ length bs
as_many p [] old [] h = refl
as_many p [] old (t ∷ ts) h = absurd h
as_many p (b ∷ bs) old [] h = absurd h
as_many p (b ∷ bs) old (t ∷ ts) h = ap suc (as_many p bs (after_line p b old) ts h.1)

pub blocks_caused : (p : Problem) (old : Funds) (texts : List (List ℕ)) → AreBlockLines p p.cuts old texts → AreBlocksCaused p old texts
blocks_caused p old texts h = record {
  many = as_many p (seams p.cuts) old texts h;
  found = λ k lt. let is = line_of p (seams p.cuts) old texts h k lt in (found_is p (seam_at p k) (before_line p old k) (line_at texts k) is, is_found p (seam_at p k) (before_line p old k) (line_at texts k) is);
  unknown = λ c k lt. let is = line_of p (seams p.cuts) old texts h k lt in (unknown_is c p (seam_at p k) (before_line p old k) (line_at texts k) is, is_unknown c p (seam_at p k) (before_line p old k) (line_at texts k) is);
}
