-- What the answers of `find` mean, and where each comes.
use Rattle.std.proofs.Common.{◌≡◌, ◌∙◌, inl, inr, ℕ, ℤ, Bool, true, false, List, [], refl, sym, ap, subst, append-nil}
use Rattle.base_answers.specs.Answer.{Answer, IsAnswerStatus}
use Rattle.base_answers.specs.declared.form.ProofForm.TheVariants.{Whole}
use Rattle.form_typed.specs.Truth.{Meaning}
use Rattle.job_decide.specs.Causes.{by_problem, elsewhere}
use Rattle.job_decide.specs.Shown.{nothing}
use Rattle.job_decide.proofs.Causing.{solve_so}
use Rattle.job_decide.proofs.Showing.{no_part as no_part_asked, unextended}
use Rattle.job_find.specs.Causes.{IsFindCaused}
use Rattle.job_find.specs.Causes as cause
use Rattle.job_find.specs.Found.{AnswersFound, IsFoundIn, found_answer, found_part, nowhere, run, tree_form, values}
use Rattle.job_find.specs.Meaning.{FindMeans}
use Rattle.job_seeking.specs.Sought.{IsClauseFileAt}
use Rattle.job_seeking.proofs.Seeking.{values_hold}
use Rattle.job_solve.specs.Headline.{Headline}
use Rattle.job_solve.specs.Proved.{AnswersRunAs, IsSolvedAs, extended}
use Rattle.job_solve.specs.Solved.{run_end}
use Rattle.job_solve.proofs.Exactly.{solved_status}
use Rattle.job_solve.proofs.Meaning.{headline}
use Rattle.job_solve.proofs.Printing.{parted}
use Rattle.pri_problem.specs.Answers.{Poses, posed, refused}
use Rattle.pri_problem.specs.Encoded.{Fits, large, leaves, runs}
use Rattle.pri_problem.proofs.Bytes.{reads_formed}
use Rattle.pri_typing.specs.declared.problem.Problem.{Problem}

abbrev status_of : Answer → ℕ
status_of a = a.status

abbrev text_of : Answer → List ℕ
text_of a = a.text

-- an answer of the canonical run
run_means : (w : Meaning) (proves : Bool) (budget : ℕ) (bytes : List ℕ) (a : Answer) → IsSolvedAs (tree_form proves) budget bytes a → FindMeans w proves bytes a
run_means w true budget bytes a is =
    let s = parted (tree_form true) budget bytes a is in
    let status : a.status ≡ (s.plain).status = ap status_of s.whole in
    let h : Headline w bytes s.plain = headline w budget bytes s.plain s.solved in
    record {
      text = (s.plain).text;
      part = s.part;
      whole = ap text_of s.whole;
      none = λ off. absurd cc;
      found = λ z. inr (record { valid = h.valid (sym status ∙ z); proved = λ on. s.valid Whole refl (sym status ∙ z) });
      refuted = λ one. h.invalid (sym status ∙ one);
      disproved = λ one. inr (s.invalid Whole refl (sym status ∙ one));
    }
run_means w false budget bytes a is =
    let s = parted (tree_form false) budget bytes a is in
    let status : a.status ≡ (s.plain).status = ap status_of s.whole in
    let h : Headline w bytes s.plain = headline w budget bytes s.plain s.solved in
    record {
      text = (s.plain).text;
      part = s.part;
      whole = ap text_of s.whole;
      none = λ off. s.none refl;
      found = λ z. inr (record { valid = h.valid (sym status ∙ z); proved = λ on. absurd cc });
      refuted = λ one. h.invalid (sym status ∙ one);
      disproved = λ one. inl (s.none refl);
    }

no_part : (proves : Bool) (file : List ℕ) → proves ≡ false → found_part proves file ≡ []
no_part true file off = absurd cc
no_part false file off = refl

-- an answer with values
values_mean : (w : Meaning) (proves : Bool) (bytes : List ℕ) (p : Problem) (a : Answer) (vs : List ℤ) (file : List ℕ) → Poses bytes p → Fits p → IsClauseFileAt p vs file
    → a ≡ extended (found_answer p vs) (found_part proves file) → FindMeans w proves bytes a
values_mean w proves bytes p a vs file poses fits h e = record {
  text = (found_answer p vs).text;
  part = found_part proves file;
  whole = ap text_of e;
  none = λ off. no_part proves file off;
  found = λ z. inl (record {
    problem = p;
    poses = poses;
    fits = fits;
    values = vs;
    holds = λ v. values_hold v p vs file (reads_formed bytes p poses.reads) h;
    told = refl;
    file = file;
    proof = h;
    part_is = refl;
  });
  refuted = λ one. let bad = sym one ∙ ap status_of e in absurd cc;
  disproved = λ one. let bad = sym one ∙ ap status_of e in absurd cc;
}

found_means : (w : Meaning) (proves : Bool) (budget : ℕ) (bytes : List ℕ) (p : Problem) (a : Answer) → Poses bytes p → Fits p → AnswersFound proves budget p a → FindMeans w proves bytes a
found_means w proves budget bytes p a h f (values vs file is e) = values_mean w proves bytes p a vs file h f is e
found_means w proves budget bytes p a h f (nowhere is e) = record {
  text = a.text;
  part = [];
  whole = sym (append-nil a.text);
  none = λ off. refl;
  found = λ z. let bad = sym z ∙ ap status_of e in absurd cc;
  refuted = λ one. record { problem = p; reads = h.reads; refuted = is.refuted; shows = λ impure vs probe. absurd (impure is.pure) };
  disproved = λ one. inl refl;
}
found_means w proves budget bytes p a h f (run k) = run_means w proves budget bytes a (posed p h (runs f k))

pub means : (w : Meaning) (proves : Bool) (budget : ℕ) (bytes : List ℕ) (a : Answer) → IsFoundIn proves budget bytes a → FindMeans w proves bytes a
means w proves budget bytes a (refused r h e) = run_means w proves budget bytes a (refused r h e)
means w proves budget bytes a (posed p h (large l e)) = run_means w proves budget bytes a (posed p h (large l e))
means w proves budget bytes a (posed p h (leaves l e)) = run_means w proves budget bytes a (posed p h (leaves l e))
means w proves budget bytes a (posed p h (runs f k)) = found_means w proves budget bytes p a h f k

-- an answer of the canonical run to an encoded problem, without values after it
run_so : (proves : Bool) (budget : ℕ) (bytes : List ℕ) (p : Problem) (a : Answer) → Poses bytes p → Fits p → AnswersRunAs (tree_form proves) budget p a → IsFindCaused proves budget bytes a
run_so proves budget bytes p a h f k = cause.run (record {
  plain = k.plain;
  lines = [];
  part = k.part;
  whole = k.whole ∙ ap (λ q. extended q k.part) (unextended k.plain);
  shown = by_problem (p, h, (f, nothing (λ vs here. let bad = here.asked in absurd cc) refl));
  none = no_part_asked (tree_form proves) p (run_end budget p) k.part k.is_part;
  caused = solve_so budget bytes k.plain (posed p h (runs f k.answers));
})

-- an answer without a run
other_so : (proves : Bool) (budget : ℕ) (bytes : List ℕ) (a : Answer) → IsSolvedAs (tree_form proves) budget bytes a → (a.status ≡ 1 → ⊥) → IsFindCaused proves budget bytes a
other_so proves budget bytes a is other =
    let s = parted (tree_form proves) budget bytes a is in
    cause.run (record {
      plain = s.plain;
      lines = [];
      part = s.part;
      whole = s.whole ∙ ap (λ q. extended q s.part) (unextended s.plain);
      shown = elsewhere (λ z. other (ap status_of s.whole ∙ z)) refl;
      none = s.none;
      caused = solve_so budget bytes s.plain s.solved;
    })

pub causes : (proves : Bool) (budget : ℕ) (bytes : List ℕ) (a : Answer) → IsFoundIn proves budget bytes a → IsFindCaused proves budget bytes a
causes proves budget bytes a (refused r h e) = other_so proves budget bytes a (refused r h e) (λ one. let bad = sym one ∙ ap status_of e in cc)
causes proves budget bytes a (posed p h (large l e)) = other_so proves budget bytes a (posed p h (large l e)) (λ one. let bad = sym one ∙ ap status_of e in cc)
causes proves budget bytes a (posed p h (leaves l e)) = other_so proves budget bytes a (posed p h (leaves l e)) (λ one. let bad = sym one ∙ ap status_of e in cc)
causes proves budget bytes a (posed p h (runs f (values vs file is e))) = cause.values (ap status_of e) (p, h, (f, (vs, file, is)))
causes proves budget bytes a (posed p h (runs f (nowhere is e))) = cause.nowhere (ap status_of e) (p, h, (f, is))
causes proves budget bytes a (posed p h (runs f (run k))) = run_so proves budget bytes p a h f k

solved_as_status : (proves : Bool) (budget : ℕ) (bytes : List ℕ) (a : Answer) → IsSolvedAs (tree_form proves) budget bytes a → IsAnswerStatus a.status
solved_as_status proves budget bytes a h = let s = parted (tree_form proves) budget bytes a h in subst (λ b. IsAnswerStatus b.status) (sym s.whole) (solved_status budget bytes s.plain s.solved)

pub find_status : (proves : Bool) (budget : ℕ) (bytes : List ℕ) (a : Answer) → IsFoundIn proves budget bytes a → IsAnswerStatus a.status
find_status proves budget bytes a (refused r h e) = solved_as_status proves budget bytes a (refused r h e)
find_status proves budget bytes a (posed p h (large l e)) = solved_as_status proves budget bytes a (posed p h (large l e))
find_status proves budget bytes a (posed p h (leaves l e)) = solved_as_status proves budget bytes a (posed p h (leaves l e))
find_status proves budget bytes a (posed p h (runs f (values vs file is e))) = subst (λ b. IsAnswerStatus b.status) (sym e) refl
find_status proves budget bytes a (posed p h (runs f (nowhere is e))) = subst (λ b. IsAnswerStatus b.status) (sym e) refl
find_status proves budget bytes a (posed p h (runs f (run k))) = solved_as_status proves budget bytes a (posed p h (runs f k))
