-- A dialogue over an input that is read bit by bit: each piece is answered as soon as its last byte is read.
use Rattle.std.specs.Prelude.{◌≡◌, ◌≢◌, ◌⊎◌, ℕ, Bool, true, false, List, [], ◌++◌, Option, Some, None, ⊤}
use Rattle.base_answers.specs.Outside.{PutsAll, PutsUpTo}
use Rattle.prover_io.specs.Outside.{IsWhole}
use Rattle.job_dialogue.specs.declared.stops.Stop.{Stop}
use Rattle.job_dialogue.specs.declared.stops.Stop.TheVariants as stop
use Rattle.job_dialogue.specs.declared.talks.Talk.{Talk}
use Rattle.job_dialogue.specs.Held.{Held}
use Rattle.job_dialogue.specs.Pieces.{cut_of, last_piece}
use Rattle.job_dialogue.specs.Dialogue.{IsDialogue, IsReply}
use Rattle.job_dialogue.specs.Views.{held_of}

-- an input begins with these bytes, where it tells its bytes
abbrev pub StartsWith : Option (List ℕ) → List ℕ → Type 0
StartsWith (Some all) read = (rest : List ℕ) × (all ≡ read ++ rest)
StartsWith None read = ⊤

-- the pieces of an input that ends after these bytes
abbrev pub pieces_of : List ℕ → List (List ℕ)
pieces_of bytes = (cut_of bytes).pieces ++ last_piece (cut_of bytes).rest

-- This text answers an input: all its pieces are answered, or those up to an `exit`.
pub data IsConversation (budget : ℕ) (input : Option (List ℕ)) (text : List ℕ) : Type 0 where
  exits : (read : List ℕ) (h : Held) → StartsWith input read → IsDialogue budget (cut_of read).pieces h text → h.ended ≡ true → IsConversation budget input text
  ends : (read : List ℕ) (h : Held) → IsWhole input read → IsDialogue budget (pieces_of read) h text → IsConversation budget input text

-- such a text is put
pub record IsAnswered (budget : ℕ) (input before after : Option (List ℕ)) : Type 0 where
  pub text : List ℕ
  pub answers : IsConversation budget input text
  pub put : PutsAll before after text

-- these are the pieces of an input that begins with these bytes, or that ends after them
abbrev pub ArePieces : List (List ℕ) → List ℕ → Type 0
ArePieces pieces read = (pieces ≡ (cut_of read).pieces) ⊎ (pieces ≡ pieces_of read)

-- A dialogue breaks off: of the input a front is read, its pieces are answered, and the answers are put, all of them unless the sink failed.
pub record IsAnsweredUpTo (budget : ℕ) (e : Stop) (input before after : Option (List ℕ)) : Type 0 where
  pub read : List ℕ
  pub begins : StartsWith input read
  pub pieces : List (List ℕ)
  pub cut : ArePieces pieces read
  pub held : Held
  pub text : List ℕ
  pub answers : IsDialogue budget pieces held text
  pub unput : List ℕ
  pub put : PutsUpTo before after text unput
  pub full : e ≢ stop.Sink → unput ≡ []

-- the exit status where it breaks off
abbrev pub status_of : Stop → ℕ
status_of stop.Source = 6
status_of stop.Sink = 7
status_of stop.Memory = 8

-- ---- as the code has it

-- the pieces of what is read are answered by this text, and what is read of the next one is kept
pub record IsHeard (budget : ℕ) (read : List ℕ) (talk : Talk) (text : List ℕ) : Type 0 where
  pub answered : IsDialogue budget (cut_of read).pieces (held_of talk.dialogue) text
  pub rest : talk.rest.items ≡ (cut_of read).rest
  pub scan : talk.scan ≡ (cut_of read).scan

-- a piece is answered, and the answer is put
pub record TellsPiece (budget : ℕ) (h : Held) (piece : List ℕ) (next : Held) (before after : Option (List ℕ)) : Type 0 where
  pub said : List ℕ
  pub replies : IsReply budget h piece next said
  pub put : PutsAll before after said

-- a piece is answered, and the answer is not put whole
pub record TellsPart (budget : ℕ) (h : Held) (piece : List ℕ) (before after : Option (List ℕ)) : Type 0 where
  pub next : Held
  pub said : List ℕ
  pub replies : IsReply budget h piece next said
  pub unput : List ℕ
  pub put : PutsUpTo before after said unput

-- these bytes more are read, and what that answers is put
pub record Hears (budget : ℕ) (old new : Talk) (bytes : List ℕ) (before after : Option (List ℕ)) : Type 0 where
  pub said : List ℕ
  pub put : PutsAll before after said
  pub heard : (read text : List ℕ) → IsHeard budget read old text → IsHeard budget (read ++ bytes) new (text ++ said)

-- so are these bytes, or those up to an `exit`
pub record HearsFront (budget : ℕ) (old new : Talk) (bytes : List ℕ) (before after : Option (List ℕ)) : Type 0 where
  pub front : List ℕ
  pub rest : List ℕ
  pub parts : front ++ rest ≡ bytes
  pub whole : new.dialogue.ended ≡ false → rest ≡ []
  pub hears : Hears budget old new front before after

-- A dialogue breaks off while these bytes are read: of them a front is read, its pieces are answered, and the answers are put, all of them
-- unless the sink failed.
pub record BreaksOff (budget : ℕ) (old : Talk) (bytes : List ℕ) (e : Stop) (before after : Option (List ℕ)) : Type 0 where
  pub front : List ℕ
  pub rest : List ℕ
  pub parts : front ++ rest ≡ bytes
  pub said : List ℕ
  pub unput : List ℕ
  pub put : PutsUpTo before after said unput
  pub full : e ≢ stop.Sink → unput ≡ []
  pub heard : (read text : List ℕ) → IsHeard budget read old text → (h : Held) × IsDialogue budget (cut_of (read ++ front)).pieces h (text ++ said)

-- from an input, of which this is left, these bytes are read
abbrev pub ReadsOff : Option (List ℕ) → Option (List ℕ) → List ℕ → Type 0
ReadsOff (Some before) after bytes = (rest : List ℕ) × (after ≡ Some rest) × (before ≡ bytes ++ rest)
ReadsOff None after bytes = after ≡ None

-- nothing is left of an input, where it tells its bytes
abbrev pub IsAtEnd : Option (List ℕ) → Type 0
IsAtEnd (Some left) = left ≡ []
IsAtEnd None = ⊤

-- what is read next is heard; if nothing is, the input is at its end
pub record Listens (budget : ℕ) (old new : Talk) (at_end : Bool) (left_before left_after before after : Option (List ℕ)) : Type 0 where
  pub bytes : List ℕ
  pub read : ReadsOff left_before left_after bytes
  pub end : at_end ≡ true → IsAtEnd left_after
  pub heard : HearsFront budget old new bytes before after

-- a dialogue breaks off while what is left of an input is read
pub record BreaksIn (budget : ℕ) (old : Talk) (e : Stop) (left before after : Option (List ℕ)) : Type 0 where
  pub front : List ℕ
  pub begins : StartsWith left front
  pub said : List ℕ
  pub unput : List ℕ
  pub put : PutsUpTo before after said unput
  pub full : e ≢ stop.Sink → unput ≡ []
  pub heard : (read text : List ℕ) → IsHeard budget read old text → (h : Held) × IsDialogue budget (cut_of (read ++ front)).pieces h (text ++ said)

-- what was read so far of an input is heard, and what that answers is put
pub record IsTalked (budget : ℕ) (talk : Talk) (input left before after : Option (List ℕ)) : Type 0 where
  pub read : List ℕ
  pub text : List ℕ
  pub taken : ReadsOff input left read
  pub heard : IsHeard budget read talk text
  pub put : PutsAll before after text

-- at the end of an input the last piece is answered, and the answer is put
pub record Finishes (budget : ℕ) (old : Talk) (before after : Option (List ℕ)) : Type 0 where
  pub said : List ℕ
  pub put : PutsAll before after said
  pub heard : (read text : List ℕ) → IsHeard budget read old text → (h : Held) × IsDialogue budget (pieces_of read) h (text ++ said)

-- a dialogue breaks off at the end of an input
pub record BreaksLast (budget : ℕ) (old : Talk) (e : Stop) (before after : Option (List ℕ)) : Type 0 where
  pub said : List ℕ
  pub unput : List ℕ
  pub put : PutsUpTo before after said unput
  pub full : e ≢ stop.Sink → unput ≡ []
  pub heard : (read text : List ℕ) → IsHeard budget read old text → (pieces : List (List ℕ)) × (h : Held) × ArePieces pieces read × IsDialogue budget pieces h (text ++ said)
