-- What the lines of blocks mean.
use Rattle.std.proofs.Common.{◌≡◌, ◌≢◌, ◌↔◌, ◌<◌, ◌≤◌, ◌+◌, ◌-◌, ℕ, zero, suc, ℤ, Bool, true, false, cond, nat_eq, if◌then◌else◌, List, [], ◌∷◌, ◌++◌, length, Option, Some, None, is_some, refl, sym, ◌∙◌, ap, subst, Contains, arith, length-append}
use Rattle.std.specs.List.{AllByRecursion, list_any}
use Rattle.std.proofs.lemmas.List.Elements.{recursion_from_All, All-contains_itself}
use Rattle.base_budget.specs.Trace.{Funds}
use Rattle.form_typed.specs.Formula.{Formula}
use Rattle.form_typed.specs.Truth.{Meaning, Truth}
use Rattle.pri_typing.specs.declared.problem.Cut.{Cut}
use Rattle.pri_typing.specs.declared.problem.Problem.{Problem}
use Rattle.pri_typing.specs.Problems.{Holds, IsPlainlyValid, IsPure, IsWithoutApplication, Says, assumed_by}
use Rattle.pri_typing.specs.WellFormed.{IsWellFormed}
use Rattle.clause_set.specs.declared.literal.Literal.{Literal}
use Rattle.clause_set.specs.Literals.{dnf_truth}
use Rattle.elim_laws.specs.Presburger.{IsPresburger}
use Rattle.elim_laws.specs.Whole.{AreOver}
use Rattle.elim_laws.proofs.Reduced.{presburger_of}
use Rattle.form_encoding.specs.Occurrences.{names_in}
use Rattle.form_encoding.specs.Problems.{constants, parts_root}
use Rattle.pri_printer.specs.Printed.{dnf_formula}
use Rattle.pri_printer.proofs.Outer.{constants_true}
use Rattle.itp_sides.specs.Between.{AreTyped, Contradict, IsStrongest, Leads}
use Rattle.itp_sides.specs.Sides.{Case, arithmetic, first_itself, second_denied, none as no_case, StandsBy, case_of, first_sets, other_sets}
use Rattle.itp_sides.specs.Symbols.{is_empty, is_symbol, is_within, symbols_in}
use Rattle.itp_sides.proofs.Lines.{passed, sequence, sides_apart}
use Rattle.itp_sides.proofs.Quantifying.{strongest, weakest}
use Rattle.itp_sides.proofs.Standing.{strong_strong, strongest_contradicts, strongest_follows, weakest_contradicts, weakest_follows}
use Rattle.interpolant.specs.Sides.{IsInterpolant}
use Rattle.interpolant.proofs.Applications.{assumed_pure, pure_assumed}
use Rattle.interpolant.proofs.Standing.{between_is, strongest_is}
use Rattle.pred_interpolant.specs.Middle.{Shares}
use Rattle.pred_interpolant.proofs.NormalForms.{dnf_shares, plain_side}
use Rattle.pred_interpolant.proofs.Sharing.{strongest_shares, weakest_shares}
use Rattle.pri_problem.proofs.Reduced.{parts_reduced}
use Rattle.pri_lines.proofs.Printed.{all_below}
use Rattle.itp_printer.specs.Plain.{plain as plain_form}
use Rattle.itp_printer.proofs.Kept.{names_kept}
use Rattle.itp_printer.proofs.KeptSymbols.{symbols_kept}
use Rattle.itp_printer.proofs.Truths.{plain_same}
use Rattle.itp_lines.specs.Blocks.{after_line, IsSeamLine, found, unknown, IsTextBy, AreLines, AreBlockLines}
use Rattle.itp_lines.specs.Ends.{plain as plainly, prints, tells, cause_text, formula_by, is_applied, is_plainly_valid, line_end, middle_by, normal_end, seam_case, seam_run}
use Rattle.itp_lines.specs.Meaning.{AreInterpolantLines, AreTold, Follows, Interpolates, IsSequence, TellsSeam}
use Rattle.itp_lines.specs.Proved.{AreObligationsProved}
use Rattle.itp_lines.specs.Seams.{Seam, before, behind, next_seam, seams, seams_from, seams_of, set_behind}
use Rattle.itp_lines.proofs.Answering.{no_existentials}

-- ---- the printed formula of a normal form over all constants

printed_true : (w : Meaning) (p : Problem) (d : List (List Literal)) (e : List ℤ) → AreOver (constants p) d → length e ≡ constants p → Truth w (dnf_formula p d) e ↔ (dnf_truth d e ≡ true)
printed_true w p d e over many = constants_true w p d e (all_below p d over) (many ∙ sym (length-append p.existentials p.universals))

-- ---- the formula of a seam

parts_presburger : (p : Problem) (set : List ℕ) → IsWithoutApplication (assumed_by p set) → IsPresburger (parts_root p set).value
parts_presburger p set plain = presburger_of (parts_root p set).value (assumed_pure p set plain) (parts_reduced p set)

seam_between : (w : Meaning) (p : Problem) (s : Seam) → IsWellFormed p → IsWithoutApplication (before p s) → IsInterpolant w p (before p s) (behind p s) (seam_run p s).value
seam_between w p s formed plain =
    between_is p (first_sets s.cut s.at) (other_sets s.cut s.at) formed (parts_presburger p (first_sets s.cut s.at) plain) (seam_run p s).value refl w

-- a printed normal form is the strongest formula between the sides
printed_strongest : (w : Meaning) (p : Problem) (s : Seam) → IsWellFormed p → IsWithoutApplication (before p s)
    → IsStrongest w p (before p s) (behind p s) (Truth w (dnf_formula p (seam_run p s).value))
printed_strongest w p s formed plain e l =
    let d = (seam_run p s).value in
    let is = strongest_is p (first_sets s.cut s.at) (other_sets s.cut s.at) formed (parts_presburger p (first_sets s.cut s.at) plain) d refl w e l in
    let same = printed_true w p d e (seam_between w p s formed plain).over l.many in
    (λ t. is.0 (same.0 t), λ h. same.1 (is.1 h))

-- the formula that is read back
read_by : Problem → Seam → Case → Formula
read_by p s arithmetic = formula_by p s arithmetic
read_by p s first_itself = plain_form (formula_by p s first_itself)
read_by p s second_denied = plain_form (formula_by p s second_denied)
read_by p s no_case = formula_by p s no_case

read_true : (w : Meaning) (p : Problem) (s : Seam) (c : Case) (e : List ℤ) → Truth w (read_by p s c) e ↔ Truth w (formula_by p s c) e
unfolding read_by
read_true w p s arithmetic e = (λ t. t, λ t. t)
read_true w p s first_itself e = plain_same w (formula_by p s first_itself) e
read_true w p s second_denied e = plain_same w (formula_by p s second_denied) e
read_true w p s no_case e = (λ t. t, λ t. t)

read_names : (p : Problem) (s : Seam) (c : Case) → names_in (read_by p s c) ≡ names_in (formula_by p s c)
unfolding read_by
read_names p s arithmetic = refl
read_names p s first_itself = names_kept (formula_by p s first_itself)
read_names p s second_denied = names_kept (formula_by p s second_denied)
read_names p s no_case = refl

read_symbols : (p : Problem) (s : Seam) (c : Case) → symbols_in (read_by p s c) ≡ symbols_in (formula_by p s c)
unfolding read_by
read_symbols p s arithmetic = refl
read_symbols p s first_itself = symbols_kept (formula_by p s first_itself)
read_symbols p s second_denied = symbols_kept (formula_by p s second_denied)
read_symbols p s no_case = refl

read_shares : (p : Problem) (s : Seam) (c : Case) → Shares p (before p s) (formula_by p s c) (behind p s) → Shares p (before p s) (read_by p s c) (behind p s)
read_shares p s c h = record {
  names = λ x lt o. h.names x lt (ap (list_any (nat_eq x)) (sym (read_names p s c)) ∙ o);
  symbols = λ a o. h.symbols a (ap (list_any (is_symbol a)) (sym (read_symbols p s c)) ∙ o);
}

read_says : (p : Problem) (s : Seam) (c : Case) (x : List ℕ) → IsTextBy p s c x → Says x p (read_by p s c)
unfolding read_by
read_says p s arithmetic x h = h.says
read_says p s first_itself x h = h.says
read_says p s second_denied x h = h.says
read_says p s no_case x h = absurd h

-- what a case says of the sides
abbrev SaysOfSides : Problem → Seam → Case → Type 0
SaysOfSides p s arithmetic = IsWithoutApplication (before p s)
SaysOfSides p s first_itself = is_within (before p s) (behind p s) ≡ true
SaysOfSides p s second_denied = is_within (behind p s) (before p s) ≡ true
SaysOfSides p s no_case = Unit {0}

case_says : (p : Problem) (s : Seam) → SaysOfSides p s (case_of p s.cut s.at)
case_says p s = by (is_empty (symbols_in (before p s))) refl (is_within (before p s) (behind p s)) refl (is_within (behind p s) (before p s)) refl
  where
    by : (a : Bool) → is_empty (symbols_in (before p s)) ≡ a → (b : Bool) → is_within (before p s) (behind p s) ≡ b → (c : Bool) → is_within (behind p s) (before p s) ≡ c
        → SaysOfSides p s (cond a arithmetic (cond b first_itself (cond c second_denied no_case)))
    by true e b f c g = plain_side (before p s) e
    by false e true f c g = f
    by false e false f true g = g
    by false e false f false g = tt

-- a seam of a block of the problem, with a set after it
record IsInside (p : Problem) (s : Seam) : Type 0 where
  among : Contains p.cuts s.cut
  below : s.at < length s.cut.sets

inside_from : (p : Problem) (b : Cut) (at n : ℕ) → Contains p.cuts b → at + n ≤ length b.sets → AllByRecursion (IsInside p) (seams_from b at n)
inside_from p b at zero among le = tt
inside_from p b at (suc n) among le = (record { among = among; below = omega (arith, le) }, inside_from p b (suc at) n among (omega (arith, le)))

-- no seam stands in a block without sets
inside_of : (p : Problem) (b : Cut) → Contains p.cuts b → AllByRecursion (IsInside p) (seams_of b)
inside_of p b among = by (length b.sets) refl
  where
    by : (k : ℕ) → length b.sets ≡ k → AllByRecursion (IsInside p) (seams_from b 1 (k - 1))
    by zero is = tt
    by (suc k) is = let less : suc k - 1 ≡ k = omega arith in subst (λ m. AllByRecursion (IsInside p) (seams_from b 1 m)) (sym less) (inside_from p b 1 k among (omega (arith, is)))

join_inside : (p : Problem) (ss ts : List Seam) → AllByRecursion (IsInside p) ss → AllByRecursion (IsInside p) ts → AllByRecursion (IsInside p) (ss ++ ts)
join_inside p [] ts h k = k
join_inside p (s ∷ ss) ts h k = (h.0, join_inside p ss ts h.1 k)

all_inside : (p : Problem) (bs : List Cut) → AllByRecursion (Contains p.cuts) bs → AllByRecursion (IsInside p) (seams bs)
all_inside p [] h = tt
all_inside p (b ∷ bs) h = join_inside p (seams_of b) (seams bs) (inside_of p b h.0) (all_inside p bs h.1)

-- what a line prints
said : (p : Problem) (s : Seam) (old : Funds) (text : List ℕ) → IsSeamLine p s old text → Option Formula
said p s old text (found left x is printed e proved) = Some (read_by p s (seam_case p s))
said p s old text (unknown c left is e) = None

all_said : (p : Problem) (ss : List Seam) (old : Funds) (texts : List (List ℕ)) → AreLines p ss old texts → List (Option Formula)
all_said p [] old texts h = []
all_said p (s ∷ ss) old [] h = []
all_said p (s ∷ ss) old (t ∷ ts) h = said p s old t h.0 ∷ all_said p ss (after_line p s old) ts h.1

-- a formula is printed where the problem has no application, or else where it is not plainly valid
data Mode (p : Problem) (s : Seam) : Type 0 where
  pure : is_applied p ≡ false → IsPure p → seam_case p s ≡ arithmetic → Mode p s
  applied : is_applied p ≡ true → ¬ (IsPlainlyValid p) → seam_case p s ≡ case_of p s.cut s.at → Mode p s

module _ (w : Meaning) (p : Problem) (formed : IsWellFormed p) (purity : (p.first_application ≡ None) ↔ IsPure p) (holds : Holds w p []) where
  unapplied : is_applied p ≡ false → p.first_application ≡ None
  unapplied h = by p.first_application h
    where
      by : (x : Option ℕ) → is_some x ≡ false → x ≡ None
      by None k = refl
      by (Some x) k = cc

  mode : (s : Seam) (old left : Funds) → line_end p s old ≡ prints left → Mode p s
  mode s old left is = by (is_applied p) refl
    where
      inner : (v : Bool) → is_plainly_valid p ≡ v → (if v then tells plainly old else middle_by p s (seam_case p s) old) ≡ prints left → ¬ (IsPlainlyValid p)
      inner true e k h = cc
      inner false e k h = (let bad : true ≡ false = sym h ∙ e in cc)

      by : (a : Bool) → is_applied p ≡ a → Mode p s
      by true e =
          applied e (inner (is_plainly_valid p) refl (sym (ap (λ a. if a then (if is_plainly_valid p then tells plainly old else middle_by p s (seam_case p s) old) else normal_end p s old) e) ∙ is))
          (ap (λ a. if a then case_of p s.cut s.at else arithmetic) e)
      by false e = pure e (purity.0 (unapplied e)) (ap (λ a. if a then case_of p s.cut s.at else arithmetic) e)

  -- what the case of a seam says of its sides
  seam_says : (s : Seam) → Mode p s → SaysOfSides p s (seam_case p s)
  seam_says s (pure a is e) = subst (SaysOfSides p s) (sym e) (pure_assumed p (first_sets s.cut s.at) is)
  seam_says s (applied a not e) = subst (SaysOfSides p s) (sym e) (case_says p s)

  stands_by : (s : Seam) (c : Case) (x : List ℕ) → SaysOfSides p s c → IsTextBy p s c x → StandsBy w p (before p s) (behind p s) (Truth w (formula_by p s c)) c
  stands_by s arithmetic x h t = printed_strongest w p s formed h
  stands_by s first_itself x h t = strongest w p (before p s) (behind p s) formed
  stands_by s second_denied x h t = weakest w p (before p s) (behind p s) formed
  stands_by s no_case x h t = absurd t

  shares_by : (s : Seam) (c : Case) (x : List ℕ) → SaysOfSides p s c → IsTextBy p s c x → Shares p (before p s) (formula_by p s c) (behind p s)
  shares_by s arithmetic x h t = dnf_shares w p (before p s) (behind p s) (seam_run p s).value (seam_between w p s formed h)
  shares_by s first_itself x h t = strongest_shares p (before p s) (behind p s) h
  shares_by s second_denied x h t = weakest_shares p (before p s) (behind p s) h
  shares_by s no_case x h t = absurd t

  sides_contradict : (s : Seam) → IsInside p s → ¬ (IsPlainlyValid p) → Contradict w p (before p s) (behind p s)
  sides_contradict s i not = sides_apart w p s.cut s.at formed (no_existentials w p holds) i.among not holds

  -- it follows from the first side, and contradicts the second where that does
  follows_by : (s : Seam) → IsInside p s → Mode p s → (c : Case) → seam_case p s ≡ c → StandsBy w p (before p s) (behind p s) (Truth w (formula_by p s c)) c
      → (e : List ℤ) → AreTyped p e → Truth w (before p s) e → Truth w (formula_by p s c) e
  follows_by s i m arithmetic is st = strongest_follows w p (before p s) (behind p s) (Truth w (formula_by p s arithmetic)) st
  follows_by s i m first_itself is st = strongest_follows w p (before p s) (behind p s) (Truth w (formula_by p s first_itself)) st
  follows_by s i (pure a h e) second_denied is st = let bad : arithmetic ≡ second_denied = sym e ∙ is in cc
  follows_by s i (applied a not e) second_denied is st = weakest_follows w p (before p s) (behind p s) (Truth w (formula_by p s second_denied)) st (sides_contradict s i not)
  follows_by s i m no_case is st = absurd st

  contradicts_by : (s : Seam) (c : Case) → StandsBy w p (before p s) (behind p s) (Truth w (formula_by p s c)) c → Contradict w p (before p s) (behind p s) → Contradict w p (formula_by p s c) (behind p s)
  contradicts_by s arithmetic st a = strongest_contradicts w p (before p s) (behind p s) (Truth w (formula_by p s arithmetic)) st a
  contradicts_by s first_itself st a = strongest_contradicts w p (before p s) (behind p s) (Truth w (formula_by p s first_itself)) st a
  contradicts_by s second_denied st a = weakest_contradicts w p (before p s) (behind p s) (Truth w (formula_by p s second_denied)) st
  contradicts_by s no_case st a = absurd st

  line_interpolates : (s : Seam) → IsInside p s → Mode p s → (x : List ℕ) → IsTextBy p s (seam_case p s) x → (p.first_application ≢ None → AreObligationsProved p s (formula_by p s (seam_case p s)))
      → Interpolates w p s x (read_by p s (seam_case p s))
  line_interpolates s i m x t proved =
      let c = seam_case p s in
      let says = seam_says s m in
      let st = stands_by s c x says t in
      let against : Contradict w p (before p s) (behind p s) → Contradict w p (read_by p s c) (behind p s) = λ a e l h. contradicts_by s c st a e l ((read_true w p s c e).0 h) in
      record {
        says = read_says p s c x t;
        between = record {
          follows = λ e l h. (read_true w p s c e).1 (follows_by s i m c refl st e l h);
          contradicts = against;
          shares = read_shares p s c (shares_by s c x says t);
        };
        apart = λ not. against (sides_contradict s i not);
        proved = λ some. record { made = formula_by p s c; same = read_true w p s c; proved = proved some };
      }

  line_means : (s : Seam) (old : Funds) (text : List ℕ) (h : IsSeamLine p s old text) → IsInside p s → TellsSeam w p s text (said p s old text h)
  unfolding said
  line_means s old text (found left x is printed e proved) i = (x, e, line_interpolates s i (mode s old left is) x printed proved)
  line_means s old text (unknown c left is e) i = (cause_text c, e)

  lines_mean : (ss : List Seam) (old : Funds) (texts : List (List ℕ)) (h : AreLines p ss old texts) → AllByRecursion (IsInside p) ss → AreTold w p ss texts (all_said p ss old texts h)
  unfolding all_said
  lines_mean [] old [] h i = tt
  lines_mean [] old (t ∷ ts) h i = absurd h
  lines_mean (s ∷ ss) old [] h i = absurd h
  lines_mean (s ∷ ss) old (t ∷ ts) h i = (line_means s old t h.0 i.0, lines_mean ss (after_line p s old) ts h.1 i.1)

  -- the later formula of two neighbours in a block follows from the earlier one and what the set between them assumes
  next_follows : (s : Seam) (x y : List ℕ) → IsInside p s → Mode p s → Mode p (next_seam s) → IsTextBy p s (seam_case p s) x → IsTextBy p (next_seam s) (seam_case p (next_seam s)) y
      → Leads w p (Truth w (formula_by p s (seam_case p s))) (set_behind p s) (Truth w (formula_by p (next_seam s) (seam_case p (next_seam s))))
  next_follows s x y i (pure a h e) n t u =
      let st = stands_by s (seam_case p s) x (seam_says s (pure a h e)) t in
      let su = stands_by (next_seam s) (seam_case p (next_seam s)) y (seam_says (next_seam s) n) u in
      strong_strong w p (before p s) (behind p s) (set_behind p s) (before p (next_seam s)) (behind p (next_seam s))
      (Truth w (formula_by p s (seam_case p s))) (Truth w (formula_by p (next_seam s) (seam_case p (next_seam s)))) (passed w p s.cut s.at i.below)
      (subst (λ c. StandsBy w p (before p s) (behind p s) (Truth w (formula_by p s (seam_case p s))) c) e st)
      (subst (λ c. StandsBy w p (before p (next_seam s)) (behind p (next_seam s)) (Truth w (formula_by p (next_seam s) (seam_case p (next_seam s)))) c) (pure_next n) su)
    where
      pure_next : Mode p (next_seam s) → seam_case p (next_seam s) ≡ arithmetic
      pure_next (pure b k f) = f
      pure_next (applied b not f) = let bad : true ≡ false = sym b ∙ a in cc
  next_follows s x y i (applied a not e) n t u =
      let st = stands_by s (seam_case p s) x (seam_says s (applied a not e)) t in
      let su = stands_by (next_seam s) (seam_case p (next_seam s)) y (seam_says (next_seam s) n) u in
      sequence w p s.cut s.at (Truth w (formula_by p s (seam_case p s))) (Truth w (formula_by p (next_seam s) (seam_case p (next_seam s)))) i.below (sides_contradict s i not)
      (subst (λ c. StandsBy w p (before p s) (behind p s) (Truth w (formula_by p s (seam_case p s))) c) e st)
      (subst (λ c. StandsBy w p (before p (next_seam s)) (behind p (next_seam s)) (Truth w (formula_by p (next_seam s) (seam_case p (next_seam s)))) c) (case_next n) su)
    where
      case_next : Mode p (next_seam s) → seam_case p (next_seam s) ≡ case_of p s.cut (suc s.at)
      case_next (applied b also f) = f
      case_next (pure b k f) = let bad : true ≡ false = sym a ∙ b in cc

  two_follow : (s t : Seam) (x y : List ℕ) → IsInside p s → Mode p s → Mode p t → IsTextBy p s (seam_case p s) x → IsTextBy p t (seam_case p t) y
      → Follows w p s t (Some (read_by p s (seam_case p s))) (Some (read_by p t (seam_case p t)))
  two_follow s t x y i m n u v is e l h b =
      let c = seam_case p s in
      let same : t ≡ next_seam s = is in
      let leads = next_follows s x y i m (subst (Mode p) same n) u (subst (λ z. IsTextBy p z (seam_case p z) y) same v) in
      (read_true w p t (seam_case p t) e).1
      (subst (λ z. Truth w (formula_by p z (seam_case p z)) e) (sym same) (leads e l ((read_true w p s c e).0 h) b))

  line_follows : (s t : Seam) (old new : Funds) (text more : List ℕ) (h : IsSeamLine p s old text) (k : IsSeamLine p t new more) → IsInside p s
      → Follows w p s t (said p s old text h) (said p t new more k)
  unfolding said
  line_follows s t old new text more (found left x is printed e proved) (found right y end read f more_proved) i = two_follow s t x y i (mode s old left is) (mode t new right end) printed read
  line_follows s t old new text more (found left x is printed e proved) (unknown c right end f) i = tt
  line_follows s t old new text more (unknown c left is e) k i = tt

  lines_follow : (ss : List Seam) (old : Funds) (texts : List (List ℕ)) (h : AreLines p ss old texts) → AllByRecursion (IsInside p) ss → IsSequence w p ss (all_said p ss old texts h)
  unfolding all_said
  lines_follow [] old texts h i = tt
  lines_follow (s ∷ []) old [] h i = absurd h
  lines_follow (s ∷ []) old (x ∷ xs) h i = tt
  lines_follow (s ∷ t ∷ ss) old [] h i = absurd h
  lines_follow (s ∷ t ∷ ss) old (x ∷ []) h i = absurd h.1
  lines_follow (s ∷ t ∷ ss) old (x ∷ y ∷ xs) h i =
      (line_follows s t old (after_line p s old) x y h.0 h.1.0 i.0, lines_follow (t ∷ ss) (after_line p s old) (y ∷ xs) h.1 i.1)

pub blocks_mean : (w : Meaning) (p : Problem) (old : Funds) (texts : List (List ℕ)) → IsWellFormed p → ((p.first_application ≡ None) ↔ IsPure p) → Holds w p []
    → AreBlockLines p p.cuts old texts → AreInterpolantLines w p texts
blocks_mean w p old texts formed purity holds h =
    let inside = all_inside p p.cuts (recursion_from_All (Contains p.cuts) p.cuts (All-contains_itself p.cuts)) in
    record {
      formulas = all_said p (seams p.cuts) old texts h;
      told = lines_mean w p formed purity holds (seams p.cuts) old texts h inside;
      sequence = lines_follow w p formed purity holds (seams p.cuts) old texts h inside;
    }
