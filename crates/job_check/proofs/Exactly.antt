-- The proof in a file is accepted exactly where it proves, but for cuts of the check of a clause proof.
use Rattle.std.proofs.Common.{◌≡◌, ◌↔◌, ◌⊎◌, ◌∙◌, inl, inr, ℕ, ℤ, true, false, List, ◌++◌, length, sym, ap, subst, codes}
use Rattle.formula.specs.Form.{Form}
use Rattle.proof_tree.specs.declared.node.Conclusion.{Conclusion}
use Rattle.proof_tree.specs.declared.run.Verdict.{Verdict}
use Rattle.proof_tree.specs.declared.run.Verdict.TheVariants.{Valid, Invalid}
use Rattle.proof_tree.specs.Proof.{Proof, given}
use Rattle.proof_grammar.specs.Shaped.{IsTextOfProof}
use Rattle.proof_file.specs.declared.refusal.ProofRefusal.TheVariants as r
use Rattle.proof_file.specs.Body.{body}
use Rattle.proof_file.specs.Refused.{RefusesProofFile}
use Rattle.proof_file.proofs.OneProof.{held_by_file, holds_one}
use Rattle.tree_checker.specs.Faults.{Check, accepted, wrong, too_costly, leaves, checked}
use Rattle.tree_checker.proofs.Accepting.{accepts_proofs}
use Rattle.form_encoding.specs.Problems.{problem_root}
use Rattle.pri_typing.specs.declared.problem.Problem.{Problem}
use Rattle.pri_printer.specs.Text.{listed_text, value_texts}
use Rattle.base_answers.specs.Answer.{Answer, line}
use Rattle.pri_lines.specs.Constraint.{constraint_line}
use Rattle.pri_lines.proofs.Printed.{text_same}
use Rattle.pri_problem.specs.Answers.{Poses}
use Rattle.pri_problem.specs.Encoded.{AnswersEncoded, Fits}
use Rattle.pri_problem.specs.Reads.{AreSame}
use Rattle.pri_problem.proofs.Answering.{posed_answered}
use Rattle.pri_problem.proofs.Encoded.{fitting_answered, root_same, same_encoded}
use Rattle.pri_lines.specs.Lines.{valued_lines}
use Rattle.clause_file.specs.Costs.{IsCostAt}
use Rattle.clause_file.specs.Ranges.{IsRangeAt}
use Rattle.clause_file.specs.Verdicts.{HoldsClauseProof, IsRefusedFirst, IsWrongAt}
use Rattle.clause_file.specs.Answers.{is_clause_text}
use Rattle.model_trees.specs.Walk.{point}
use Rattle.job_check.specs.Checked.{AnswersProof, AnswersTree, IsChecked, Judged, syntax, deep, node, range, cost, closed, valid, invalid, tree, clauses}
use Rattle.job_check.specs.Clauses as clause
use Rattle.job_check.specs.Clauses.{AnswersClauses, Shows}
use Rattle.job_check.specs.Exactly as exactly
use Rattle.job_check.specs.Exactly.{HoldsClauses, HoldsTree, IsCutAnswer, IsDecided}
use Rattle.proof_tree.specs.Proves.{Proves}
use Rattle.job_check.proofs.Formats.{no_clauses, no_tree}
use Rattle.job_check.proofs.Meaning.{proves}
use Rattle.job_check.proofs.Shown.{moved, not_refused, not_wrong}

-- ---- the same problem has the same answer
same_judged : (p q : Problem) (proof : List ℕ) (x : Proof) (c : Conclusion) (charges : ℕ) (a : Check) → AreSame p q → Judged p proof x c charges a → Judged q proof x c charges a
same_judged p q proof x c charges a same j =
    let of : Form → ℕ → Check = λ f n. checked f n x c charges in
    let is : of (problem_root p).value (length p.existentials) ≡ of (problem_root q).value (length q.existentials) =
    ap (λ w. of w.value (length p.existentials)) (root_same p q same) ∙ ap (λ names. of (problem_root q).value (length names)) same.existentials in
    record { holds = j.holds; is = sym is ∙ j.is }

lines_same : (p q : Problem) (text : List ℕ) (vs : List ℤ) → AreSame p q → valued_lines p text vs ≡ valued_lines q text vs
lines_same p q text vs same = ap (λ names. constraint_line text ++ line (codes "solution: " ++ listed_text (value_texts names vs))) same.existentials

same_tree : (proof : List ℕ) (p q : Problem) (a : Answer) → AreSame p q → AnswersTree proof p a → AnswersTree proof q a
same_tree proof p q a same (syntax at h e) = syntax at h e
same_tree proof p q a same (deep at h e) = deep at h e
same_tree proof p q a same (node x c charges m j e) = node x c charges m (same_judged p q proof x c charges _ same j) e
same_tree proof p q a same (range x c charges m numbers j e) = range x c charges m numbers (same_judged p q proof x c charges _ same j) e
same_tree proof p q a same (cost x c charges m j e) = cost x c charges m (same_judged p q proof x c charges _ same j) e
same_tree proof p q a same (closed x c charges vs j none e) = closed x c charges vs (same_judged p q proof x c charges _ same j) (sym same.existentials ∙ none) e
same_tree proof p q a same (valid x c charges vs text j some printed e) =
    valid x c charges vs text (same_judged p q proof x c charges _ same j) (λ none. some (same.existentials ∙ none)) (text_same p q (given x) text same printed)
    (e ∙ ap (λ t. record { status = 0; text = line (codes "CHECKED VALID") ++ t }) (lines_same p q text vs same))
same_tree proof p q a same (invalid x c charges j e) = invalid x c charges (same_judged p q proof x c charges _ same j) e

same_clauses : (proof : List ℕ) (p q : Problem) (a : Answer) → AreSame p q → AnswersClauses proof p a → AnswersClauses proof q a
same_clauses proof p q a same (clause.syntax at h e) = clause.syntax at (moved (λ f n. IsRefusedFirst f n proof at) p q same h) e
same_clauses proof p q a same (clause.wrong at h e) = clause.wrong at (moved (λ f n. IsWrongAt f n proof at) p q same h) e
same_clauses proof p q a same (clause.range at h e) = clause.range at (moved (λ f n. IsRangeAt f n proof at) p q same h) e
same_clauses proof p q a same (clause.cost at h e) = clause.cost at (moved (λ f n. IsCostAt f n proof at) p q same h) e
same_clauses proof p q a same (clause.closed vs h none e) = clause.closed vs (moved (λ f n. HoldsClauseProof f n proof vs) p q same h) (sym same.existentials ∙ none) e
same_clauses proof p q a same (clause.valid vs text h some printed e) =
    clause.valid vs text (moved (λ f n. HoldsClauseProof f n proof vs) p q same h) (λ none. some (same.existentials ∙ none)) (text_same p q (point vs) text same printed)
    (e ∙ ap (λ t. record { status = 0; text = line (codes "CHECKED VALID") ++ t }) (lines_same p q text vs same))

pub same_row : (proof : List ℕ) (p q : Problem) (a : Answer) → AreSame p q → AnswersProof proof p a → AnswersProof proof q a
same_row proof p q a same (tree other k) = tree other (same_tree proof p q a same k)
same_row proof p q a same (clauses is k) = clauses is (same_clauses proof p q a same k)

-- ---- accepted exactly where it proves
abbrev pub status_of : Answer → ℕ
status_of a = a.status

-- a proof that a check does not accept does not prove
unproved : (p : Problem) (proof : List ℕ) (x : Proof) (c : Conclusion) (charges : ℕ) (a : Check) → ((v : Verdict) → accepted v ≡ a → ⊥) → Judged p proof x c charges a → HoldsTree p proof → ⊥
unproved p proof x c charges a never j h =
    let one = holds_one (body proof) charges h.charges x h.tree c h.conclusion j.holds h.holds in
    let is = (accepts_proofs (problem_root p).value (length p.existentials) h.tree h.conclusion h.charges h.verdict).1 h.proves in
    let of : ℕ → Proof → Conclusion → Check = λ n y d. checked (problem_root p).value (length p.existentials) y d n in
    let same : of charges x c ≡ of h.charges h.tree h.conclusion = (λ i. of (one.0 i) (one.1 i) (one.2 i)) in
    never h.verdict (sym is ∙ sym same ∙ j.is)

refused_none : (p : Problem) (proof : List ℕ) (at : ℕ) → RefusesProofFile proof (r.Syntax at) → HoldsTree p proof → ⊥
refused_none p proof at refused h = let bad = held_by_file proof h.charges h.tree h.conclusion (r.Syntax at) h.holds refused in absurd cc

deep_none : (p : Problem) (proof : List ℕ) (at : ℕ) → RefusesProofFile proof (r.Deep at) → HoldsTree p proof → ⊥
deep_none p proof at refused h = let bad = held_by_file proof h.charges h.tree h.conclusion (r.Deep at) h.holds refused in absurd cc

-- the status is 0 exactly where the file holds a proof tree of the problem, and 4 elsewhere
pub record IsTreeDecided (p : Problem) (proof : List ℕ) (answer : Answer) : Type 0 where
  pub accepts : (answer.status ≡ 0) ↔ HoldsTree p proof
  pub decides : (answer.status ≡ 0) ⊎ (answer.status ≡ 4)

refuses : (p : Problem) (proof : List ℕ) (a : Answer) → a.status ≡ 4 → (HoldsTree p proof → ⊥) → IsTreeDecided p proof a
refuses p proof a four none = record {
  accepts = ((λ z. let bad = sym z ∙ four in absurd cc), (λ h. absurd (none h)));
  decides = inr four;
}

accepts : (p : Problem) (proof : List ℕ) (a : Answer) (x : Proof) (c : Conclusion) (charges : ℕ) (v : Verdict) → a.status ≡ 0 → Judged p proof x c charges (accepted v) → IsTreeDecided p proof a
accepts p proof a x c charges v zero j = record {
  accepts = ((λ z. record { tree = x; conclusion = c; charges = charges; verdict = v; holds = j.holds; proves = proves p proof x c charges v j }), (λ h. zero));
  decides = inl zero;
}

pub tree_decided : (p : Problem) (proof : List ℕ) (a : Answer) → AnswersTree proof p a → IsTreeDecided p proof a
tree_decided p proof a (syntax at h e) = refuses p proof a (ap status_of e) (refused_none p proof at h)
tree_decided p proof a (deep at h e) = refuses p proof a (ap status_of e) (deep_none p proof at h)
tree_decided p proof a (node x c charges m j e) = refuses p proof a (ap status_of e) (unproved p proof x c charges (wrong m) (λ v is. absurd cc) j)
tree_decided p proof a (range x c charges m numbers j e) = refuses p proof a (ap status_of e) (unproved p proof x c charges (leaves m numbers) (λ v is. absurd cc) j)
tree_decided p proof a (cost x c charges m j e) = refuses p proof a (ap status_of e) (unproved p proof x c charges (too_costly m) (λ v is. absurd cc) j)
tree_decided p proof a (closed x c charges vs j none e) = accepts p proof a x c charges (Valid vs) (ap status_of e) j
tree_decided p proof a (valid x c charges vs text j some printed e) = accepts p proof a x c charges (Valid vs) (ap status_of e) j
tree_decided p proof a (invalid x c charges j e) = accepts p proof a x c charges Invalid (ap status_of e) j

-- the same of a clause proof, but for a cut
pub record IsClauseDecided (p : Problem) (proof : List ℕ) (answer : Answer) : Type 0 where
  pub accepts : answer.status ≡ 0 → HoldsClauses p proof
  pub holds : HoldsClauses p proof → (answer.status ≡ 0) ⊎ IsCutAnswer answer
  pub decides : (answer.status ≡ 0) ⊎ (answer.status ≡ 4)

refuses_clauses : (p : Problem) (proof : List ℕ) (a : Answer) → a.status ≡ 4 → (HoldsClauses p proof → (a.status ≡ 0) ⊎ IsCutAnswer a) → IsClauseDecided p proof a
refuses_clauses p proof a four holds = record { accepts = λ z. (let bad = sym z ∙ four in absurd cc); holds = holds; decides = inr four }

accepts_clauses : (p : Problem) (proof : List ℕ) (a : Answer) (vs : List ℤ) → a.status ≡ 0 → Shows p proof vs → IsClauseDecided p proof a
accepts_clauses p proof a vs zero h = record { accepts = λ z. record { values = vs; holds = h }; holds = λ h. inl zero; decides = inl zero }

pub clauses_decided : (p : Problem) (proof : List ℕ) (a : Answer) → AnswersClauses proof p a → IsClauseDecided p proof a
clauses_decided p proof a (clause.syntax at h e) = refuses_clauses p proof a (ap status_of e) (λ k. absurd (not_refused p proof at k.values h k.holds))
clauses_decided p proof a (clause.wrong at h e) = refuses_clauses p proof a (ap status_of e) (λ k. absurd (not_wrong p proof at k.values h k.holds))
clauses_decided p proof a (clause.range at h e) = refuses_clauses p proof a (ap status_of e) (λ k. inr (exactly.range at e))
clauses_decided p proof a (clause.cost at h e) = refuses_clauses p proof a (ap status_of e) (λ k. inr (exactly.cost at e))
clauses_decided p proof a (clause.closed vs h none e) = accepts_clauses p proof a vs (ap status_of e) h
clauses_decided p proof a (clause.valid vs text h some printed e) = accepts_clauses p proof a vs (ap status_of e) h

row_decided : (p : Problem) (proof : List ℕ) (a : Answer) → AnswersProof proof p a → IsDecided p proof a
row_decided p proof a (tree other k) = let d = tree_decided p proof a k in record {
  accepts = λ z. inl (d.accepts.0 z);
  tree = d.accepts.1;
  clauses = λ h. absurd (no_clauses (problem_root p).value (length p.existentials) proof h.values h.holds other);
  decides = d.decides;
}
row_decided p proof a (clauses is k) = let d = clauses_decided p proof a k in record {
  accepts = λ z. inr (d.accepts z);
  tree = λ h. absurd (no_tree proof h.charges h.tree h.conclusion h.holds is);
  clauses = d.holds;
  decides = d.decides;
}

pub decided : (proof bytes : List ℕ) (a : Answer) (p : Problem) → IsChecked proof bytes a → Poses bytes p → Fits p → IsDecided p proof a
decided proof bytes a p checked poses fits =
    row_decided p proof a (fitting_answered (AnswersProof proof) p a (posed_answered (AnswersEncoded (AnswersProof proof)) (same_encoded (AnswersProof proof) (same_row proof)) bytes a p checked poses) fits)

-- a file that is the text of a proof tree of the problem is accepted
pub accepted_text : (bytes text : List ℕ) (p : Problem) (x : Proof) (c : Conclusion) (charges : ℕ) (v : Verdict) (a : Answer) → Poses bytes p → Fits p → IsTextOfProof text charges x c → body text ≡ text
    → Proves (problem_root p).value (length p.existentials) x c charges v → IsChecked text bytes a → a.status ≡ 0
accepted_text bytes text p x c charges v a poses fits holds own proved is =
    (decided text bytes a p is poses fits).tree
    (record { tree = x; conclusion = c; charges = charges; verdict = v; holds = subst (λ z. IsTextOfProof z charges x c) (sym own) holds; proves = proved })
