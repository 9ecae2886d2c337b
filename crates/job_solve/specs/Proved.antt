-- What `solve` answers where the proof is asked for: the same, and after it the text of the proof in the form that is asked for.
use Rattle.std.specs.Prelude.{◌≡◌, ◌≢◌, ◌⊎◌, ℕ, ℤ, List, [], ◌++◌, length, codes, Option, Some, None}
use Rattle.base_budget.specs.Runs.{total}
use Rattle.proof_tree.specs.declared.node.Conclusion.{Conclusion}
use Rattle.proof_tree.specs.declared.node.Conclusion.TheVariants.{Solution, Nothing}
use Rattle.proof_tree.specs.declared.node.Tree.{Tree}
use Rattle.proof_tree.specs.Proof.{Proof, given}
use Rattle.proof_tree.specs.declared.run.Verdict.{Verdict}
use Rattle.proof_tree.specs.declared.run.Verdict.TheVariants as verdict
use Rattle.proof_tree.specs.Proves.{Proves, proof_walk}
use Rattle.proof_tree.specs.Views.{proof_of}
use Rattle.search.specs.Run as run
use Rattle.base_budget.specs.Ending.{Ending, ends_with}
use Rattle.proof_tokens.specs.declared.tokens.Token.{Token}
use Rattle.proof_tokens.specs.Spellings.{spelled}
use Rattle.proof_grammar.specs.Lines.{proof_text}
use Rattle.proof_grammar.specs.Shaped.{IsTextOfProof}
use Rattle.proof_printer.specs.Short.{short_text}
use Rattle.proof_file.specs.Body.{body}
use Rattle.form_encoding.specs.Problems.{problem_root}
use Rattle.pri_typing.specs.declared.problem.Problem.{Problem}
use Rattle.base_answers.specs.Answer.{Answer, line}
use Rattle.pri_typing.specs.Problems.{IsPure}
use Rattle.pri_problem.specs.Answers.{AnswersFile, Poses, PosesOne}
use Rattle.pri_problem.specs.Encoded.{AnswersEncoded, Fits}
use Rattle.base_answers.specs.declared.form.ProofForm.{ProofForm}
use Rattle.base_answers.specs.declared.form.ProofForm.TheVariants.{Whole, Short}
use Rattle.pri_lines.specs.Constraint.{IsTextOf}
use Rattle.job_solve.specs.Solved.{AnswersRun, IsSolved, run_end, valid_answer}

-- the text of a proof in a form
abbrev pub form_text : ProofForm → ℕ → Proof → Conclusion → List Token
form_text Whole n x c = proof_text n x c
form_text Short n x c = short_text n x c

-- the part is the line `proof:`, and after it the text of this proof in this form, which as a file of its own holds it too
pub record PrintsProof (form : ProofForm) (charges : ℕ) (x : Proof) (c : Conclusion) (part : List ℕ) : Type 0 where
  pub text : List ℕ
  pub line : part ≡ line (codes "proof:") ++ text
  pub is : text ≡ spelled (form_text form charges x c)
  pub holds : IsTextOfProof text charges x c
  pub own : body text ≡ text

-- how much a check of the tree x with the conclusion c charges, for the encoding of the problem
abbrev pub charges_of : Problem → Proof → Conclusion → ℕ
charges_of p x c = total (proof_walk (problem_root p).value (length p.existentials) x c).events

-- what is printed of the proof of a run that ends so
abbrev pub PrintsEnd : ProofForm → Problem → Ending run.RunAnswer → List ℕ → Type 0
PrintsEnd form p (ends_with (run.valid vs x) stands) part = PrintsProof form (charges_of p x (Solution vs)) x (Solution vs) part
PrintsEnd form p (ends_with (run.invalid log x) stands) part = PrintsProof form (charges_of p x (Nothing (record { entries = log }))) x (Nothing (record { entries = log })) part
PrintsEnd form p _ part = part ≡ []

-- the part after the answer: the proof, in the form that is asked for
abbrev pub IsProofPart : Option ProofForm → Problem → Ending run.RunAnswer → List ℕ → Type 0
IsProofPart (Some form) p end part = PrintsEnd form p end part
IsProofPart None p end part = part ≡ []

-- an answer with a part of its text after it
abbrev pub extended : Answer → List ℕ → Answer
extended answer part = record { status = answer.status; text = answer.text ++ part }

-- the answer to a problem whose encoding fits, with its proof or without
pub record AnswersRunAs (asked : Option ProofForm) (budget : ℕ) (p : Problem) (answer : Answer) : Type 0 where
  pub plain : Answer
  pub answers : AnswersRun budget p plain
  pub part : List ℕ
  pub is_part : IsProofPart asked p (run_end budget p) part
  pub whole : answer ≡ extended plain part

-- the answer of `solve` with this budget to the bytes of a file, with the proof or without
abbrev pub IsSolvedAs : Option ProofForm → ℕ → List ℕ → Answer → Type 0
IsSolvedAs asked budget = AnswersFile (AnswersEncoded (AnswersRunAs asked budget))

-- the problem has a predicate or a function
abbrev pub IsImpure : Problem → Type 0
IsImpure p = ¬ (IsPure p)

-- the part is the line `proof:`, and after it the text in this form of a proof of this, of the problem that the bytes pose
pub record PrintsProofOf (form : ProofForm) (bytes : List ℕ) (v : Verdict) (part : List ℕ) : Type 0 where
  pub problem : Problem
  pub poses : Poses bytes problem
  pub fits : Fits problem
  pub tree : Proof
  pub conclusion : Conclusion
  pub charges : ℕ
  pub prints : PrintsProof form charges tree conclusion part
  pub proves : Proves (problem_root problem).value (length problem.existentials) tree conclusion charges v

-- the part has a proof of just what the text says: of the values vs, by a tree whose constraint is the one that is printed with them,
-- where the problem has existential constants
pub record ProvesValid (form : ProofForm) (bytes text part : List ℕ) : Type 0 where
  pub values : List ℤ
  pub prints : PrintsProofOf form bytes (verdict.Valid values) part
  pub told : prints.problem.existentials ≢ [] → (x : List ℕ) × IsTextOf prints.problem (given prints.tree) x × (text ≡ (valid_answer prints.problem x values).text)

-- the part has a proof that the problem is invalid; there is none where the problem has predicates or functions: what is printed of
-- it is a counterexample
abbrev pub ProvesInvalid : ProofForm → List ℕ → List ℕ → Type 0
ProvesInvalid form bytes part = PrintsProofOf form bytes verdict.Invalid part ⊎ ((part ≡ []) × PosesOne bytes IsImpure)

-- an answer is one of `solve` with a part after it; where the proof is asked for the part has it, at each answer that the problem is
-- valid or invalid; there is none at a counterexample, and at all other answers
pub record IsParted (asked : Option ProofForm) (budget : ℕ) (bytes : List ℕ) (answer : Answer) : Type 0 where
  pub plain : Answer
  pub solved : IsSolved budget bytes plain
  pub part : List ℕ
  pub whole : answer ≡ extended plain part
  pub none : asked ≡ None → part ≡ []
  pub valid : (form : ProofForm) → asked ≡ Some form → plain.status ≡ 0 → ProvesValid form bytes plain.text part
  pub invalid : (form : ProofForm) → asked ≡ Some form → plain.status ≡ 1 → ProvesInvalid form bytes part

-- ---- as the code prints it
abbrev pub PrintsTree : ProofForm → Tree → List ℕ → Type 0
PrintsTree form t part = PrintsProof form t.charges (proof_of t.root) t.conclusion part

-- the part with the tree's proof, in the form that is asked for, if one is
abbrev pub PrintsAsked : Option ProofForm → Tree → List ℕ → Type 0
PrintsAsked (Some form) t part = PrintsTree form t part
PrintsAsked None t part = part ≡ []

-- the answer with the tree's proof after it, if one is asked for
pub record IsProofTold (asked : Option ProofForm) (tree : Tree) (plain answer : Answer) : Type 0 where
  pub part : List ℕ
  pub prints : PrintsAsked asked tree part
  pub whole : answer ≡ extended plain part
