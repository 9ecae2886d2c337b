-- What holds of the answers to problems by their encoding, whatever is answered where it fits; and what the code of the encoding
-- answers.
use Rattle.std.proofs.Common.{Some, None, ℕ, ◌≡◌, ◌↔◌, ℤ, Bool, true, false, ◌&&◌, List, [], ◌∷◌, ◌++◌, ◌+◌, length, None, Result, Ok, Err, IfOk, IfErr, refl, sym, ◌∙◌, ap, subst, codes, arith}
use Rattle.linear_term.specs.declared.range.Memory.{Memory}
use Rattle.linear_term.specs.declared.range.Place.{Place}
use Rattle.linear_term.specs.declared.range.TermFault.TheVariants as term_fault
use Rattle.linear_term.specs.Range.{all_stay}
use Rattle.form_typed.specs.Truth.{Meaning}
use Rattle.form_typed.specs.Formula.{Formula}
use Rattle.base_budget.specs.Trace.{Traced, Event, charge, raw, mark, At, at}
use Rattle.base_budget.specs.Runs.{raw_stay}
use Rattle.base_budget.proofs.Meaning.{passes_where_runs, left_where_leaves}
use Rattle.formula.specs.declared.calculus.Core.{Core}
use Rattle.formula.specs.Form.{Form, FormTruth, IsFormOver, is_pure}
use Rattle.formula.specs.Made.{Made}
use Rattle.formula.specs.Tree.{form}
use Rattle.pri_typing.specs.declared.problem.Problem.{Problem}
use Rattle.pri_typing.specs.Problems.{Holds, IsPure}
use Rattle.form_encoding.specs.Problems.{is_large, problem_root}
use Rattle.form_encoding.specs.Encoding.{encoded}
use Rattle.form_encoding.specs.Root.{names_from, root}
use Rattle.function_encoding.specs.declared.answer.Encoded.{Encoded}
use Rattle.function_encoding.specs.declared.answer.EncodeRefusal.{EncodeRefusal}
use Rattle.function_encoding.specs.declared.answer.EncodeRefusal.TheVariants as encode_refusal
use Rattle.function_encoding.specs.Encoded.{Encodes, root_of}
use Rattle.function_encoding.proofs.Roots.{made_value}
use Rattle.form_encoding.proofs.Problems.{pure_is}
use Rattle.base_answers.specs.Answer.{Answer, answer_of, placed, refused_answer}
use Rattle.base_answers.specs.declared.output.Output.{Output}
use Rattle.pri_problem.specs.Reads.{AreSame}
use Rattle.pri_problem.specs.Encoded.{Fits, LeavesRange, AnswersEncoded, large, leaves, runs, AnswersPure, impure, pure, IsEncoded, RefusesEncoding, IsToldUnencoded}
use Rattle.pri_problem.proofs.Bytes.{some_same}

-- ---- one answer

-- the same problems have the same encoding
pub root_same : (p q : Problem) → AreSame p q → problem_root p ≡ problem_root q
root_same p q same = λ i. root (same.existential_types i) (same.universal_types i) (body_of (same.existentials i) (same.universals i) (same.formula i))
  where
    body_of : (es us : List (List ℕ)) → Formula → Traced Form
    body_of es us f = encoded (names_from 0 (length es + length us)) (length es + length us) true f

pub fits_same : (p q : Problem) → AreSame p q → Fits p → Fits q
fits_same p q same h = subst (λ w. (is_large w.value ≡ false) × (raw_stay w.events ≡ true)) (root_same p q same) h

leaves_same : (p q : Problem) → AreSame p q → LeavesRange p → LeavesRange q
leaves_same p q same h = subst (λ w. (is_large w.value ≡ false) × (raw_stay w.events ≡ false)) (root_same p q same) h

pub one_of_encoded : (IsAnswer : Problem → Answer → Type 0) → ((p : Problem) (a b : Answer) → IsAnswer p a → IsAnswer p b → a ≡ b) → (p : Problem) (a b : Answer)
    → AnswersEncoded IsAnswer p a → AnswersEncoded IsAnswer p b → a ≡ b
one_of_encoded IsAnswer one p a b (large h e) (large k f) = e ∙ sym f
one_of_encoded IsAnswer one p a b (large h e) (leaves k f) = let small = k.0 in absurd cc
one_of_encoded IsAnswer one p a b (large h e) (runs k f) = let small = k.0 in absurd cc
one_of_encoded IsAnswer one p a b (leaves h e) (large k f) = let small = h.0 in absurd cc
one_of_encoded IsAnswer one p a b (leaves h e) (leaves k f) = e ∙ sym f
one_of_encoded IsAnswer one p a b (leaves h e) (runs k f) = let out = h.1 in let stay = k.1 in absurd cc
one_of_encoded IsAnswer one p a b (runs h e) (large k f) = let small = h.0 in absurd cc
one_of_encoded IsAnswer one p a b (runs h e) (leaves k f) = let out = k.1 in let stay = h.1 in absurd cc
one_of_encoded IsAnswer one p a b (runs h e) (runs k f) = one p a b e f

pub same_encoded : (IsAnswer : Problem → Answer → Type 0) → ((p q : Problem) (a : Answer) → AreSame p q → IsAnswer p a → IsAnswer q a) → (p q : Problem) (a : Answer)
    → AreSame p q → AnswersEncoded IsAnswer p a → AnswersEncoded IsAnswer q a
same_encoded IsAnswer go p q a same (large h e) = large (subst (λ w. is_large w.value ≡ true) (root_same p q same) h) e
same_encoded IsAnswer go p q a same (leaves h e) = leaves (leaves_same p q same h) e
same_encoded IsAnswer go p q a same (runs h e) = runs (fits_same p q same h) (go p q a same e)

pub one_of_pure : (IsAnswer : Problem → Answer → Type 0) → ((p : Problem) (a b : Answer) → IsAnswer p a → IsAnswer p b → a ≡ b) → (p : Problem) (a b : Answer)
    → AnswersPure IsAnswer p a → AnswersPure IsAnswer p b → a ≡ b
one_of_pure IsAnswer one p a b (impure m h e) (impure n k f) = e ∙ ap (λ x. refused_answer (placed (codes "Impure") x)) (some_same m n (sym h ∙ k)) ∙ sym f
one_of_pure IsAnswer one p a b (impure m h e) (pure k f) = absurd cc
one_of_pure IsAnswer one p a b (pure h e) (impure n k f) = absurd cc
one_of_pure IsAnswer one p a b (pure h e) (pure k f) = one p a b e f

pub same_pure : (IsAnswer : Problem → Answer → Type 0) → ((p q : Problem) (a : Answer) → AreSame p q → IsAnswer p a → IsAnswer q a) → (p q : Problem) (a : Answer)
    → AreSame p q → AnswersPure IsAnswer p a → AnswersPure IsAnswer q a
same_pure IsAnswer go p q a same (impure n h e) = impure n (sym same.first_application ∙ h) e
same_pure IsAnswer go p q a same (pure h e) = pure (sym same.first_application ∙ h) (go p q a same e)

-- the answer to a problem whose encoding fits is one of these
pub fitting_answered : (IsAnswer : Problem → Answer → Type 0) (p : Problem) (a : Answer) → AnswersEncoded IsAnswer p a → Fits p → IsAnswer p a
fitting_answered IsAnswer p a (large h e) fits = let small = fits.0 in absurd cc
fitting_answered IsAnswer p a (leaves h e) fits = let out = h.1 in let stay = fits.1 in absurd cc
fitting_answered IsAnswer p a (runs h k) fits = k

-- the answer to a problem without applications is one of these
pub pure_answered : (IsAnswer : Problem → Answer → Type 0) (p : Problem) (a : Answer) → AnswersPure IsAnswer p a → p.first_application ≡ None → IsAnswer p a
pure_answered IsAnswer p a (impure n h e) none = absurd cc
pure_answered IsAnswer p a (pure h k) none = k

-- ---- what the code of the encoding answers

abbrev start : At
start = at (record { budget = 0; spent = 0 }) []

-- what is made has its numbers in the range
made_stays : (work : Traced Form) (f : Core) → Made form work (Ok f) → raw_stay work.events ≡ true
made_stays work f m = ((passes_where_runs work.events start start (omega arith)).0 (((m.works).each start).ok (form f) refl).1.end).stay

leaves_behind : (before after : List Event) (ps : List Place) → all_stay ps ≡ false → raw_stay (before ++ raw ps ∷ after) ≡ false
leaves_behind [] after ps h = rw h refl
leaves_behind (charge n ∷ before) after ps h = leaves_behind before after ps h
leaves_behind (raw qs ∷ before) after ps h = by (all_stay qs) (raw_stay (before ++ raw ps ∷ after)) (leaves_behind before after ps h)
  where
    by : (a b : Bool) → b ≡ false → (a && b) ≡ false
    by true b e = e
    by false b e = refl
leaves_behind (mark m ∷ before) after ps h = leaves_behind before after ps h

-- what is refused as out of the range has a number that leaves it
pub left_stays : (work : Traced Form) (place : Place) → Made form work (Err (term_fault.Overflow place)) → raw_stay work.events ≡ false
left_stays work place m =
    let out = ((m.works).each start).overflow place refl in
    let stop = (left_where_leaves work.events start start out.numbers (omega arith)).0 out.end in
    ap raw_stay (stop.1).whole ∙ leaves_behind stop.0 (stop.1).after out.numbers (stop.1).stops

-- the encoding of the problem is one that keeps its truth
pub encoded_as : (p : Problem) (r : Result Encoded EncodeRefusal) → Encodes (problem_root p) (root_of r) → IfOk r (λ e. e.constants ≡ length p.existentials)
    → IfOk r (λ e. IsFormOver (length p.existentials) (form e.root)) → IfOk r (λ e. is_large (form e.root) ≡ false)
    → IfOk r (λ e. (w : Meaning) (v : List ℤ) → length v ≡ length p.existentials → FormTruth w (form e.root) v ↔ Holds w p v) → IfOk r (IsEncoded p)
encoded_as p (Err x) work constants over small truth = tt
encoded_as p (Ok e) work constants over small truth =
    let is = made_value work.1 in
    record {
      fits = (work.0, made_stays (problem_root p) e.root work.1);
      root = is;
      constants = constants;
      over = over;
      small = small;
      pure = subst (λ f. (is_pure f ≡ true) ↔ IsPure p) (sym is) (pure_is p);
      truth = truth;
    }

-- where there is none, that is told of the problem
pub refused_as : (p : Problem) (r : Result Encoded EncodeRefusal) → Encodes (problem_root p) (root_of r) → IfErr r (RefusesEncoding p)
refused_as p (Ok e) work = tt
refused_as p (Err encode_refusal.Large) work = work
refused_as p (Err (encode_refusal.Overflow place)) work = (work.0, left_stays (problem_root p) place work.1)
refused_as p (Err encode_refusal.Memory) work = tt

-- ---- what a job makes of it

-- what is answered of an encoded problem is answered of the problem
pub encoded_so : (IsAnswer : Problem → Answer → Type 0) (p : Problem) (e : Encoded) → IsEncoded p e → (r : Result Output Memory)
    → IfOk r (λ o. IsAnswer p (answer_of o)) → IfOk r (λ o. AnswersEncoded IsAnswer p (answer_of o))
encoded_so IsAnswer p e h (Ok o) k = runs h.fits k
encoded_so IsAnswer p e h (Err m) k = tt

-- a refusal that is told is the answer to the problem
pub unencoded_so : (IsAnswer : Problem → Answer → Type 0) (p : Problem) (x : EncodeRefusal) → RefusesEncoding p x → (r : Result Output Memory)
    → IfOk r (IsToldUnencoded x) → IfOk r (λ o. AnswersEncoded IsAnswer p (answer_of o))
unencoded_so IsAnswer p encode_refusal.Large h (Ok o) k = large h k
unencoded_so IsAnswer p (encode_refusal.Overflow place) h (Ok o) k = leaves h k
unencoded_so IsAnswer p encode_refusal.Memory h (Ok o) k = absurd k
unencoded_so IsAnswer p x h (Err m) k = tt

-- an application that is told is the answer to the problem
pub impure_so : (IsAnswer : Problem → Answer → Type 0) (p : Problem) (n : ℕ) → p.first_application ≡ Some n → (r : Result Output Memory)
    → IfOk r (λ o. answer_of o ≡ refused_answer (placed (codes "Impure") n)) → IfOk r (λ o. AnswersPure IsAnswer p (answer_of o))
impure_so IsAnswer p n h (Ok o) k = impure n h k
impure_so IsAnswer p n h (Err m) k = tt

-- what is answered of a problem without applications is answered of the problem
pub pure_so : (IsAnswer : Problem → Answer → Type 0) (p : Problem) → p.first_application ≡ None → (r : Result Output Memory)
    → IfOk r (λ o. IsAnswer p (answer_of o)) → IfOk r (λ o. AnswersPure IsAnswer p (answer_of o))
pure_so IsAnswer p h (Ok o) k = pure h k
pure_so IsAnswer p h (Err m) k = tt
