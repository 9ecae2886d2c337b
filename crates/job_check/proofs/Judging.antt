-- What is told of a check is the answer to the problem and the proof.
use Rattle.std.proofs.Common.{◌≡◌, ◌∙◌, ℕ, ℤ, List, length, Result, Ok, Err, IfOk, sym, ap, subst}
use Rattle.linear_term.specs.declared.range.Memory.{Memory}
use Rattle.formula.specs.Form.{Form, IsFormOver}
use Rattle.formula.specs.Tree.{form}
use Rattle.elim_laws.specs.Whole.{AreOver}
use Rattle.proof_tree.specs.declared.node.Conclusion.{Conclusion}
use Rattle.proof_tree.specs.declared.run.Verdict.{Verdict}
use Rattle.proof_tree.specs.declared.run.Verdict.TheVariants.{Valid, Invalid}
use Rattle.proof_tree.specs.Proof.{Proof}
use Rattle.proof_grammar.specs.Shaped.{IsTextOfProof}
use Rattle.proof_file.specs.Body.{body}
use Rattle.tree_checker.specs.declared.checking.Checked.{Checked}
use Rattle.tree_checker.specs.declared.text.TextFault.{TextFault}
use Rattle.tree_checker.specs.declared.text.TextFault.TheVariants as fault
use Rattle.tree_checker.specs.Faults.{Check, accepted, checked}
use Rattle.tree_checker.specs.Texts.{ChecksText}
use Rattle.form_encoding.specs.Problems.{problem_root}
use Rattle.function_encoding.specs.declared.answer.Encoded.{Encoded}
use Rattle.pri_typing.specs.declared.problem.Problem.{Problem}
use Rattle.base_answers.specs.Answer.{Answer, answer_of}
use Rattle.base_answers.specs.declared.output.Output.{Output}
use Rattle.pri_lines.specs.Constraint.{IsTextOf}
use Rattle.pri_problem.specs.Encoded.{IsEncoded}
use Rattle.job_check.specs.Checked.{AnswersTree, Judged, syntax, deep, node, range, cost, closed, valid, invalid}
use Rattle.job_check.specs.Told.{HasValues, IsFitting, IsCheckedValid, TellsFault, TellsVerdict, alone, lines}
use Rattle.job_check.proofs.Meaning.{accepted_over, accepted_values}

-- the check of the code is that of the problem
check_is : (p : Problem) (e : Encoded) → IsEncoded p e → (x : Proof) (c : Conclusion) (charges : ℕ) → checked (form e.root) e.constants x c charges ≡ checked (problem_root p).value (length p.existentials) x c charges
check_is p e h x c charges =
    let of : Form → ℕ → Check = λ f n. checked f n x c charges in
    ap (λ f. of f e.constants) h.root ∙ ap (of (problem_root p).value) h.constants

judged : (p : Problem) (e : Encoded) → IsEncoded p e → (proof : List ℕ) (x : Proof) (c : Conclusion) (charges : ℕ) (a : Check) → IsTextOfProof (body proof) charges x c → checked (form e.root) e.constants x c charges ≡ a
    → Judged p proof x c charges a
judged p e h proof x c charges a holds is = record { holds = holds; is = sym (check_is p e h x c charges) ∙ is }

-- what is accepted is of the existential constants
pub fitting : (p : Problem) (e : Encoded) → IsEncoded p e → (proof : List ℕ) (k : Checked) → ChecksText (form e.root) e.constants proof (Ok k) → IsFitting p k
fitting p e h proof k t =
    let j = judged p e h proof t.1 t.2 t.0 (accepted k.verdict) t.3 t.4.0 in
    record { over = subst (AreOver (length p.existentials)) (sym t.4.1) (accepted_over p (subst (IsFormOver (length p.existentials)) h.root h.over) proof t.1 t.2 t.0 k.verdict j); values = values k.verdict j }
  where
    values : (v : Verdict) → Judged p proof t.1 t.2 t.0 (accepted v) → HasValues p v
    values (Valid vs) j = accepted_values p proof t.1 t.2 t.0 vs j
    values Invalid j = tt

-- the answer to an accepted proof
accepted_told : (p : Problem) (e : Encoded) → IsEncoded p e → (proof : List ℕ) (k : Checked) → ChecksText (form e.root) e.constants proof (Ok k) → (a : Answer) → TellsVerdict p k.constraint k.verdict a → AnswersTree proof p a
accepted_told p e h proof k t a told = by k.verdict (judged p e h proof t.1 t.2 t.0 (accepted k.verdict) t.3 t.4.0) told
  where
    told_valid : (vs : List ℤ) → Judged p proof t.1 t.2 t.0 (accepted (Valid vs)) → IsCheckedValid p k.constraint vs a → AnswersTree proof p a
    told_valid vs j (alone none is) = closed t.1 t.2 t.0 vs j none is
    told_valid vs j (lines text some ls is) =
        valid t.1 t.2 t.0 vs ls.0 j some (subst (λ d. IsTextOf p d ls.0) t.4.1 ls.1) (is ∙ ap (λ x. record { status = 0; text = x }) ls.2)

    by : (v : Verdict) → Judged p proof t.1 t.2 t.0 (accepted v) → TellsVerdict p k.constraint v a → AnswersTree proof p a
    by (Valid vs) j told = told_valid vs j told
    by Invalid j told = invalid t.1 t.2 t.0 j told

pub accepted_so : (p : Problem) (e : Encoded) → IsEncoded p e → (proof : List ℕ) (k : Checked) → ChecksText (form e.root) e.constants proof (Ok k) → (r : Result Output Memory)
    → IfOk r (λ out. TellsVerdict p k.constraint k.verdict (answer_of out)) → IfOk r (λ out. AnswersTree proof p (answer_of out))
accepted_so p e h proof k t (Ok out) told = accepted_told p e h proof k t (answer_of out) told
accepted_so p e h proof k t (Err m) told = tt

-- the answer to a proof that is refused
refused_told : (p : Problem) (e : Encoded) → IsEncoded p e → (proof : List ℕ) (f : TextFault) → ChecksText (form e.root) e.constants proof (Err f) → (a : Answer) → TellsFault f a → AnswersTree proof p a
refused_told p e h proof (fault.Syntax at) t a is = syntax at t is
refused_told p e h proof (fault.Deep at) t a is = deep at t is
refused_told p e h proof (fault.Node m) t a is = node t.1 t.2 t.0 m (judged p e h proof t.1 t.2 t.0 _ t.3 t.4) is
refused_told p e h proof (fault.Range m place) t a is = range t.1 t.2 t.0 m t.4.0 (judged p e h proof t.1 t.2 t.0 _ t.3 t.4.1) is
refused_told p e h proof (fault.Cost m) t a is = cost t.1 t.2 t.0 m (judged p e h proof t.1 t.2 t.0 _ t.3 t.4) is
refused_told p e h proof fault.Memory t a is = absurd is

pub refused_so : (p : Problem) (e : Encoded) → IsEncoded p e → (proof : List ℕ) (f : TextFault) → ChecksText (form e.root) e.constants proof (Err f) → (r : Result Output Memory)
    → IfOk r (λ out. TellsFault f (answer_of out)) → IfOk r (λ out. AnswersTree proof p (answer_of out))
refused_so p e h proof f t (Ok out) told = refused_told p e h proof f t (answer_of out) told
refused_so p e h proof f t (Err m) told = tt
