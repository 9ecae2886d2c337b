-- Where each answer to a proof tree comes.
use Rattle.std.proofs.Common.{◌≡◌, ◌≢◌, ◌∙◌, ◌⊎◌, inl, inr, ℕ, ℤ, List, [], ◌∷◌, ◌++◌, drop, length, slice_index_or, refl, sym, ap, codes, arith}
use Rattle.std.specs.Fmt.{decimal}
use Rattle.std.proofs.lemmas.List.{append_cancel_left, append_cancel_right}
use Rattle.linear_term.specs.declared.range.Place.{Place}
use Rattle.proof_tree.specs.declared.node.Conclusion.{Conclusion}
use Rattle.proof_tree.specs.declared.run.Verdict.TheVariants.{Valid, Invalid}
use Rattle.proof_tree.specs.Proof.{Proof, given}
use Rattle.proof_file.specs.declared.refusal.ProofRefusal.{ProofRefusal}
use Rattle.proof_file.specs.declared.refusal.ProofRefusal.TheVariants as r
use Rattle.proof_file.specs.Body.{body}
use Rattle.proof_file.specs.Refused.{RefusesProofFile}
use Rattle.proof_file.proofs.OneProof.{held_by_file, holds_one}
use Rattle.proof_file.proofs.OneRefusal.{one_by_file}
use Rattle.tree_checker.specs.Faults.{Check, accepted, wrong, too_costly, leaves, checked}
use Rattle.form_encoding.specs.Problems.{problem_root}
use Rattle.pri_typing.specs.declared.problem.Problem.{Problem}
use Rattle.pri_printer.specs.Printed.{dnf_text}
use Rattle.base_answers.specs.Answer.{Answer, line, says_line, refused_proof_answer}
use Rattle.pri_lines.specs.Lines.{valued_lines}
use Rattle.job_check.specs.Causes.{AreTreeCauses, IsJudgedTree, IsWrittenOf}
use Rattle.job_check.specs.Checked.{AnswersTree, Judged, syntax, deep, node, range, cost, closed, valid, invalid}
use Rattle.job_check.specs.Exactly.{HoldsTree}
use Rattle.job_check.proofs.Exactly.{status_of, tree_decided}

-- what is found of the proof in a file: a refusal, or what the check of the proof answers
data Found : Type 0 where
  unread : ProofRefusal → Found
  judged : Proof → Check → Found

-- it is found there
abbrev IsFound : Problem → List ℕ → Found → Type 0
IsFound p proof (unread refusal) = RefusesProofFile proof refusal × (refusal ≢ r.Memory)
IsFound p proof (judged x a) = (c : Conclusion) × (charges : ℕ) × Judged p proof x c charges a

-- the answer of a proof that is accepted, for these names of existential constants
abbrev valid_answer : Problem → List (List ℕ) → Proof → List ℤ → Answer
valid_answer p [] x vs = says_line 0 (codes "CHECKED VALID")
valid_answer p (name ∷ names) x vs = record { status = 0; text = line (codes "CHECKED VALID") ++ valued_lines p (dnf_text p (given x)) vs }

abbrev answer_to : Problem → Found → Answer
answer_to p (unread (r.Syntax at)) = refused_proof_answer (codes "Syntax at " ++ decimal at)
answer_to p (unread (r.Deep at)) = refused_proof_answer (codes "Deep at " ++ decimal at)
answer_to p (unread r.Memory) = says_line 0 []
answer_to p (judged x (wrong m)) = refused_proof_answer (codes "node " ++ decimal m)
answer_to p (judged x (leaves m numbers)) = refused_proof_answer (codes "range " ++ decimal m)
answer_to p (judged x (too_costly m)) = refused_proof_answer (codes "cost " ++ decimal m)
answer_to p (judged x (accepted (Valid vs))) = valid_answer p p.existentials x vs
answer_to p (judged x (accepted Invalid)) = says_line 0 (codes "CHECKED INVALID")

-- what one file holds is found once
one_found : (p : Problem) (proof : List ℕ) (f g : Found) → IsFound p proof f → IsFound p proof g → f ≡ g
one_found p proof (unread a) (unread b) h k = ap unread (one_by_file proof a b h.0 k.0 h.1 k.1)
one_found p proof (unread a) (judged x b) h k = absurd (h.1 (held_by_file proof k.1 x k.0 a k.2.holds h.0))
one_found p proof (judged x a) (unread b) h k = absurd (k.1 (held_by_file proof h.1 x h.0 b h.2.holds k.0))
one_found p proof (judged x a) (judged y b) h k =
    let one = holds_one (body proof) h.1 k.1 x y h.0 k.0 h.2.holds k.2.holds in
    let of : ℕ → Proof → Conclusion → Check = λ n z d. checked (problem_root p).value (length p.existentials) z d n in
    let same : of h.1 x h.0 ≡ of k.1 y k.0 = (λ i. of (one.0 i) (one.1 i) (one.2 i)) in
    let answers : a ≡ b = sym h.2.is ∙ same ∙ k.2.is in
    (λ i. judged (one.1 i) (answers i))

-- an answer with what it was found of
record Answered (p : Problem) (proof : List ℕ) (a : Answer) : Type 0 where
  found : Found
  is_found : IsFound p proof found
  is : a ≡ answer_to p found

answered : (p : Problem) (proof : List ℕ) (a : Answer) (f : Found) → IsFound p proof f → a ≡ answer_to p f → Answered p proof a
answered p proof a f h e = record { found = f; is_found = h; is = e }

valued : (p : Problem) (names : List (List ℕ)) (x : Proof) (vs : List ℤ) → names ≢ [] → record { status = 0; text = line (codes "CHECKED VALID") ++ valued_lines p (dnf_text p (given x)) vs } ≡ valid_answer p names x vs
valued p [] x vs some = absurd (some refl)
valued p (name ∷ names) x vs some = refl

by_row : (p : Problem) (proof : List ℕ) (a : Answer) → AnswersTree proof p a → Answered p proof a
by_row p proof a (syntax at h e) = answered p proof a (unread (r.Syntax at)) (h, (λ z. cc)) e
by_row p proof a (deep at h e) = answered p proof a (unread (r.Deep at)) (h, (λ z. cc)) e
by_row p proof a (node x c charges m j e) = answered p proof a (judged x (wrong m)) (c, charges, j) e
by_row p proof a (range x c charges m numbers j e) = answered p proof a (judged x (leaves m numbers)) (c, charges, j) e
by_row p proof a (cost x c charges m j e) = answered p proof a (judged x (too_costly m)) (c, charges, j) e
by_row p proof a (closed x c charges vs j none e) = answered p proof a (judged x (accepted (Valid vs))) (c, charges, j) (e ∙ sym (ap (λ names. valid_answer p names x vs) none))
by_row p proof a (valid x c charges vs text j some printed e) =
    answered p proof a (judged x (accepted (Valid vs))) (c, charges, j)
    (e ∙ ap (λ t. record { status = 0; text = line (codes "CHECKED VALID") ++ valued_lines p t vs }) printed.text ∙ valued p p.existentials x vs some)
by_row p proof a (invalid x c charges j e) = answered p proof a (judged x (accepted Invalid)) (c, charges, j) e

-- where this is found, the answer is that of it
found_there : (p : Problem) (proof : List ℕ) (a : Answer) (f : Found) → AnswersTree proof p a → IsFound p proof f → a ≡ answer_to p f
found_there p proof a f row h = let q = by_row p proof a row in q.is ∙ ap (answer_to p) (one_found p proof q.found f q.is_found h)

pub one_tree : (p : Problem) (proof : List ℕ) (a b : Answer) → AnswersTree proof p a → AnswersTree proof p b → a ≡ b
one_tree p proof a b h k = let q = by_row p proof b k in found_there p proof a q.found h q.is_found ∙ sym q.is

-- ---- from a refusal to its cause

-- refusals of proofs with the same text have the same name
name_same : (m n : List ℕ) → refused_proof_answer m ≡ refused_proof_answer n → m ≡ n
name_same m n e = ap (drop 15) (append_cancel_right (codes "refused proof: " ++ m) (codes "refused proof: " ++ n) (10 ∷ []) (ap (λ a. a.text) e))

-- and their names begin with the same letter
pub letters_same : (a : Answer) (m n : List ℕ) → a ≡ refused_proof_answer m → a ≡ refused_proof_answer n → slice_index_or m 0 0 ≡ slice_index_or n 0 0
letters_same a m n e f = ap (λ t. slice_index_or t 0 0) (name_same m n (sym e ∙ f))

-- the numbers after the same word are written the same
pub numbers_same : (a : Answer) (word : List ℕ) (m n : ℕ) → a ≡ refused_proof_answer (word ++ decimal m) → a ≡ refused_proof_answer (word ++ decimal n) → decimal m ≡ decimal n
numbers_same a word m n e f = append_cancel_left word (decimal m) (decimal n) (name_same (word ++ decimal m) (word ++ decimal n) (sym e ∙ f))

pub accepted_other : (a : Answer) (n : List ℕ) → a.status ≡ 0 → a ≡ refused_proof_answer n → ⊥
accepted_other a n zero f = let bad = sym zero ∙ ap status_of f in cc

valid_status : (p : Problem) (names : List (List ℕ)) (x : Proof) (vs : List ℤ) → (valid_answer p names x vs).status ≡ 0
valid_status p [] x vs = refl
valid_status p (name ∷ names) x vs = refl

syntax_by : (p : Problem) (proof : List ℕ) (a : Answer) (at : ℕ) → a ≡ refused_proof_answer (codes "Syntax at " ++ decimal at) → (f : Found) → IsFound p proof f → a ≡ answer_to p f → IsWrittenOf (λ at. RefusesProofFile proof (r.Syntax at)) at
syntax_by p proof a at e (unread (r.Syntax n)) h is = (n, h.0, numbers_same a (codes "Syntax at ") n at is e)
syntax_by p proof a at e (unread (r.Deep n)) h is = let bad : 68 ≡ 83 = letters_same a (codes "Deep at " ++ decimal n) (codes "Syntax at " ++ decimal at) is e in absurd (omega (arith, bad))
syntax_by p proof a at e (unread r.Memory) h is = absurd (h.1 refl)
syntax_by p proof a at e (judged x (wrong n)) h is = let bad : 110 ≡ 83 = letters_same a (codes "node " ++ decimal n) (codes "Syntax at " ++ decimal at) is e in absurd (omega (arith, bad))
syntax_by p proof a at e (judged x (leaves n numbers)) h is = let bad : 114 ≡ 83 = letters_same a (codes "range " ++ decimal n) (codes "Syntax at " ++ decimal at) is e in absurd (omega (arith, bad))
syntax_by p proof a at e (judged x (too_costly n)) h is = let bad : 99 ≡ 83 = letters_same a (codes "cost " ++ decimal n) (codes "Syntax at " ++ decimal at) is e in absurd (omega (arith, bad))
syntax_by p proof a at e (judged x (accepted (Valid vs))) h is = absurd (accepted_other a (codes "Syntax at " ++ decimal at) (ap status_of is ∙ valid_status p p.existentials x vs) e)
syntax_by p proof a at e (judged x (accepted Invalid)) h is = absurd (accepted_other a (codes "Syntax at " ++ decimal at) (ap status_of is) e)

deep_by : (p : Problem) (proof : List ℕ) (a : Answer) (at : ℕ) → a ≡ refused_proof_answer (codes "Deep at " ++ decimal at) → (f : Found) → IsFound p proof f → a ≡ answer_to p f → IsWrittenOf (λ at. RefusesProofFile proof (r.Deep at)) at
deep_by p proof a at e (unread (r.Syntax n)) h is = let bad : 83 ≡ 68 = letters_same a (codes "Syntax at " ++ decimal n) (codes "Deep at " ++ decimal at) is e in absurd (omega (arith, bad))
deep_by p proof a at e (unread (r.Deep n)) h is = (n, h.0, numbers_same a (codes "Deep at ") n at is e)
deep_by p proof a at e (unread r.Memory) h is = absurd (h.1 refl)
deep_by p proof a at e (judged x (wrong n)) h is = let bad : 110 ≡ 68 = letters_same a (codes "node " ++ decimal n) (codes "Deep at " ++ decimal at) is e in absurd (omega (arith, bad))
deep_by p proof a at e (judged x (leaves n numbers)) h is = let bad : 114 ≡ 68 = letters_same a (codes "range " ++ decimal n) (codes "Deep at " ++ decimal at) is e in absurd (omega (arith, bad))
deep_by p proof a at e (judged x (too_costly n)) h is = let bad : 99 ≡ 68 = letters_same a (codes "cost " ++ decimal n) (codes "Deep at " ++ decimal at) is e in absurd (omega (arith, bad))
deep_by p proof a at e (judged x (accepted (Valid vs))) h is = absurd (accepted_other a (codes "Deep at " ++ decimal at) (ap status_of is ∙ valid_status p p.existentials x vs) e)
deep_by p proof a at e (judged x (accepted Invalid)) h is = absurd (accepted_other a (codes "Deep at " ++ decimal at) (ap status_of is) e)

node_by : (p : Problem) (proof : List ℕ) (a : Answer) (at : ℕ) → a ≡ refused_proof_answer (codes "node " ++ decimal at) → (f : Found) → IsFound p proof f → a ≡ answer_to p f → IsWrittenOf (λ m. IsJudgedTree p proof (wrong m)) at
node_by p proof a at e (unread (r.Syntax n)) h is = let bad : 83 ≡ 110 = letters_same a (codes "Syntax at " ++ decimal n) (codes "node " ++ decimal at) is e in absurd (omega (arith, bad))
node_by p proof a at e (unread (r.Deep n)) h is = let bad : 68 ≡ 110 = letters_same a (codes "Deep at " ++ decimal n) (codes "node " ++ decimal at) is e in absurd (omega (arith, bad))
node_by p proof a at e (unread r.Memory) h is = absurd (h.1 refl)
node_by p proof a at e (judged x (wrong n)) h is = (n, (x, h.0, h.1, h.2), numbers_same a (codes "node ") n at is e)
node_by p proof a at e (judged x (leaves n numbers)) h is = let bad : 114 ≡ 110 = letters_same a (codes "range " ++ decimal n) (codes "node " ++ decimal at) is e in absurd (omega (arith, bad))
node_by p proof a at e (judged x (too_costly n)) h is = let bad : 99 ≡ 110 = letters_same a (codes "cost " ++ decimal n) (codes "node " ++ decimal at) is e in absurd (omega (arith, bad))
node_by p proof a at e (judged x (accepted (Valid vs))) h is = absurd (accepted_other a (codes "node " ++ decimal at) (ap status_of is ∙ valid_status p p.existentials x vs) e)
node_by p proof a at e (judged x (accepted Invalid)) h is = absurd (accepted_other a (codes "node " ++ decimal at) (ap status_of is) e)

range_by : (p : Problem) (proof : List ℕ) (a : Answer) (at : ℕ) → a ≡ refused_proof_answer (codes "range " ++ decimal at) → (f : Found) → IsFound p proof f → a ≡ answer_to p f → IsWrittenOf (λ m. (numbers : List Place) × IsJudgedTree p proof (leaves m numbers)) at
range_by p proof a at e (unread (r.Syntax n)) h is = let bad : 83 ≡ 114 = letters_same a (codes "Syntax at " ++ decimal n) (codes "range " ++ decimal at) is e in absurd (omega (arith, bad))
range_by p proof a at e (unread (r.Deep n)) h is = let bad : 68 ≡ 114 = letters_same a (codes "Deep at " ++ decimal n) (codes "range " ++ decimal at) is e in absurd (omega (arith, bad))
range_by p proof a at e (unread r.Memory) h is = absurd (h.1 refl)
range_by p proof a at e (judged x (wrong n)) h is = let bad : 110 ≡ 114 = letters_same a (codes "node " ++ decimal n) (codes "range " ++ decimal at) is e in absurd (omega (arith, bad))
range_by p proof a at e (judged x (leaves n numbers)) h is = (n, (numbers, (x, h.0, h.1, h.2)), numbers_same a (codes "range ") n at is e)
range_by p proof a at e (judged x (too_costly n)) h is = let bad : 99 ≡ 114 = letters_same a (codes "cost " ++ decimal n) (codes "range " ++ decimal at) is e in absurd (omega (arith, bad))
range_by p proof a at e (judged x (accepted (Valid vs))) h is = absurd (accepted_other a (codes "range " ++ decimal at) (ap status_of is ∙ valid_status p p.existentials x vs) e)
range_by p proof a at e (judged x (accepted Invalid)) h is = absurd (accepted_other a (codes "range " ++ decimal at) (ap status_of is) e)

cost_by : (p : Problem) (proof : List ℕ) (a : Answer) (at : ℕ) → a ≡ refused_proof_answer (codes "cost " ++ decimal at) → (f : Found) → IsFound p proof f → a ≡ answer_to p f → IsWrittenOf (λ m. IsJudgedTree p proof (too_costly m)) at
cost_by p proof a at e (unread (r.Syntax n)) h is = let bad : 83 ≡ 99 = letters_same a (codes "Syntax at " ++ decimal n) (codes "cost " ++ decimal at) is e in absurd (omega (arith, bad))
cost_by p proof a at e (unread (r.Deep n)) h is = let bad : 68 ≡ 99 = letters_same a (codes "Deep at " ++ decimal n) (codes "cost " ++ decimal at) is e in absurd (omega (arith, bad))
cost_by p proof a at e (unread r.Memory) h is = absurd (h.1 refl)
cost_by p proof a at e (judged x (wrong n)) h is = let bad : 110 ≡ 99 = letters_same a (codes "node " ++ decimal n) (codes "cost " ++ decimal at) is e in absurd (omega (arith, bad))
cost_by p proof a at e (judged x (leaves n numbers)) h is = let bad : 114 ≡ 99 = letters_same a (codes "range " ++ decimal n) (codes "cost " ++ decimal at) is e in absurd (omega (arith, bad))
cost_by p proof a at e (judged x (too_costly n)) h is = (n, (x, h.0, h.1, h.2), numbers_same a (codes "cost ") n at is e)
cost_by p proof a at e (judged x (accepted (Valid vs))) h is = absurd (accepted_other a (codes "cost " ++ decimal at) (ap status_of is ∙ valid_status p p.existentials x vs) e)
cost_by p proof a at e (judged x (accepted Invalid)) h is = absurd (accepted_other a (codes "cost " ++ decimal at) (ap status_of is) e)

not_accepted : (p : Problem) (proof : List ℕ) (a : Answer) → (a.status ≡ 0) ⊎ (a.status ≡ 4) → (a.status ≡ 0 → HoldsTree p proof) → (¬ (HoldsTree p proof)) → a.status ≡ 4
not_accepted p proof a (inl h) holds none = absurd (none (holds h))
not_accepted p proof a (inr h) holds none = h

pub tree_causes : (p : Problem) (proof : List ℕ) (a : Answer) → AnswersTree proof p a → AreTreeCauses p proof a
tree_causes p proof a row =
    let d = tree_decided p proof a row in
    let q = by_row p proof a row in
    record {
      accepts = d.accepts;
      refuses = (λ four h. (let bad = sym (d.accepts.1 h) ∙ four in cc), not_accepted p proof a d.decides d.accepts.0);
      syntax = record { there = λ at h. found_there p proof a (unread (r.Syntax at)) row (h, (λ z. cc)); only = λ at e. syntax_by p proof a at e q.found q.is_found q.is };
      deep = record { there = λ at h. found_there p proof a (unread (r.Deep at)) row (h, (λ z. cc)); only = λ at e. deep_by p proof a at e q.found q.is_found q.is };
      node = record { there = λ m h. found_there p proof a (judged h.0 (wrong m)) row (h.1, h.2, h.3); only = λ at e. node_by p proof a at e q.found q.is_found q.is };
      range = record { there = λ m h. found_there p proof a (judged h.1.0 (leaves m h.0)) row (h.1.1, h.1.2, h.1.3); only = λ at e. range_by p proof a at e q.found q.is_found q.is };
      cost = record { there = λ m h. found_there p proof a (judged h.0 (too_costly m)) row (h.1, h.2, h.3); only = λ at e. cost_by p proof a at e q.found q.is_found q.is };
    }
