-- How answers meet the outside: a run that ends for a fault meets every answer, and what meets some answers meets all that
-- they are.
use Rattle.std.proofs.Common.{◌≡◌, ℕ, ◌+◌, ◌<◌, ◌≤◌, List, Option, Some, None, refl, length, arith}
use Rattle.std.proofs.lemmas.List.{length-replicate}
use Rattle.std.specs.Prelude.{replicate}
use Rattle.prover_io.specs.Outside.{IsLonger, IsWhole}
use Rattle.base_answers.specs.Answer.{Answer, long_answer}
use Rattle.base_answers.specs.Outside.{Meets}
use Rattle.base_answers.specs.Files.{AnswersSource, too_long, within}

-- a run that ends since the source failed meets every answer
pub meets_failed : (P : Answer → Type 0) (before after : Option (List ℕ)) → Meets P 6 before after
meets_failed P before after = record { whole = λ not_six. absurd (not_six refl); part = λ six. absurd (cc) }

-- a run that ends for lack of memory meets every answer
pub meets_wanting : (P : Answer → Type 0) (before after : Option (List ℕ)) → Meets P 8 before after
meets_wanting P before after = record { whole = λ a b not_eight. absurd (not_eight refl); part = λ eight. absurd (cc) }

-- what meets some answers meets all that they are
pub meets_more : (P Q : Answer → Type 0) (ends : ℕ) (before after : Option (List ℕ)) → ((answer : Answer) → P answer → Q answer) → Meets P ends before after → Meets Q ends before after
meets_more P Q ends before after more met = record {
  whole = λ a b c. let given = met.whole a b c in record { answer = given.answer; is = more given.answer given.is; status = given.status; put = given.put };
  part = λ seven. let given = met.part seven in record { answer = given.answer; is = more given.answer given.is; put = given.put };
}

-- a file that is held whole is answered
pub whole_answered : (most : ℕ) (IsAnswer : List ℕ → Answer → Type 0) (told : Option (List ℕ)) (bytes : List ℕ) (answer : Answer) → IsWhole told bytes → length bytes ≤ most
    → IsAnswer bytes answer → AnswersSource most IsAnswer told answer
whole_answered most IsAnswer told bytes answer whole few is = record { bytes = bytes; whole = whole; is = within few is }

-- some bytes are longer than n
longer_bytes : (n : ℕ) → (bytes : List ℕ) × (n < length bytes)
longer_bytes n = let zero : ℕ = 0 in (replicate (n + 1) zero, rw (length-replicate (n + 1) zero) (omega arith))

-- a file past the limit is answered so
pub long_answered : (most : ℕ) (IsAnswer : List ℕ → Answer → Type 0) (told : Option (List ℕ)) (answer : Answer) → IsLonger told most → answer ≡ long_answer → AnswersSource most IsAnswer told answer
long_answered most IsAnswer (Some all) answer longer e = record { bytes = all; whole = refl; is = too_long longer e }
long_answered most IsAnswer None answer longer e = let some = longer_bytes most in record { bytes = some.0; whole = tt; is = too_long some.1 e }
