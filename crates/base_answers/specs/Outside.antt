-- How an answer meets the outside: its text is put whole, or a front part of it.
use Rattle.std.specs.Prelude.{◌≡◌, ◌≢◌, ℕ, List, [], ◌++◌, Option, Some, None}
use Rattle.base_answers.specs.Answer.{Answer}

-- all of a text is put after what was taken before, where that is told
abbrev pub PutsAll : Option (List ℕ) → Option (List ℕ) → List ℕ → Type 0
PutsAll (Some before) after text = after ≡ Some (before ++ text)
PutsAll None after text = after ≡ None

-- a text is put as far as to this rest of it
pub record PutsUpTo (before after : Option (List ℕ)) (text rest : List ℕ) : Type 0 where
  pub front : List ℕ
  pub parts : front ++ rest ≡ text
  pub put : PutsAll before after front

-- a front part of a text is put, and not all of it
pub record PutsPart (before after : Option (List ℕ)) (text : List ℕ) : Type 0 where
  pub rest : List ℕ
  pub more : rest ≢ []
  pub put : PutsUpTo before after text rest

-- one of these answers is given whole: the run ends with its status, and all of its text is put
pub record IsPutWhole (IsAnswer : Answer → Type 0) (ends : ℕ) (before after : Option (List ℕ)) : Type 0 where
  pub answer : Answer
  pub is : IsAnswer answer
  pub status : ends ≡ answer.status
  pub put : PutsAll before after answer.text

-- of one of these answers a front part is put, and not all
pub record GivesPart (IsAnswer : Answer → Type 0) (before after : Option (List ℕ)) : Type 0 where
  pub answer : Answer
  pub is : IsAnswer answer
  pub put : PutsPart before after answer.text

-- one of these answers meets the outside: it is given whole, but where the source fails (6), the sink fails (7, with a part
-- of the text not put) or memory runs out (8)
pub record Meets (IsAnswer : Answer → Type 0) (ends : ℕ) (before after : Option (List ℕ)) : Type 0 where
  pub whole : ends ≢ 6 → ends ≢ 7 → ends ≢ 8 → IsPutWhole IsAnswer ends before after
  pub part : ends ≡ 7 → GivesPart IsAnswer before after
