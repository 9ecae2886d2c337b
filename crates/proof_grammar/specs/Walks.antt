-- What a walk through a text still owes.
use Rattle.std.specs.Prelude.{ℕ, ◌≡◌, Bool, cond, List, [], ◌∷◌, ◌++◌}
use Rattle.sequent.specs.declared.member.Pick.{Pick}
use Rattle.proof_grammar.specs.declared.lines.Owed.{Owed}
use Rattle.proof_grammar.specs.declared.lines.Owed.TheVariants as o
use Rattle.proof_grammar.specs.declared.lines.TextLine.{TextLine}
use Rattle.proof_grammar.specs.declared.lines.TextLine.TheVariants as w
use Rattle.proof_grammar.specs.declared.walk.Open.{Open}
use Rattle.proof_grammar.specs.declared.walk.Place.{Place}
use Rattle.proof_grammar.specs.declared.walk.Place.TheVariants as at
use Rattle.proof_grammar.specs.declared.walk.Walk.{Walk}
use Rattle.proof_tokens.specs.Reading.{Cuts}
use Rattle.proof_grammar.specs.Lines.{line_text}
use Rattle.proof_grammar.specs.Owed.{nodes_owed, last_owed, owes, Pays, Shallow}

-- what a rule owes after its premises, in a text of m parts
abbrev pub closing_owed : ℕ → Pick → Bool → List Owed
closing_owed m p logged = cond logged (o.Gives ∷ []) (last_owed m p)

-- what an open rule owes
abbrev pub open_owed : ℕ → Open → List Owed
open_owed m f = nodes_owed m f.left f.below ++ closing_owed m f.rule f.logged

-- what open rules owe, the last one first
abbrev pub opens_owed : ℕ → List Open → List Owed
opens_owed m [] = []
opens_owed m (f ∷ fs) = opens_owed m fs ++ open_owed m f

abbrev pub owed_at : ℕ → Place → List Open → List Owed
owed_at m at.Root fs = o.Node 1 m ∷ (opens_owed m fs ++ o.End m ∷ [])
owed_at m (at.Inside f) fs = open_owed m f ++ (opens_owed m fs ++ o.End m ∷ [])
owed_at m at.End fs = o.End m ∷ []
owed_at m at.Done fs = []

-- what a walk owes
abbrev pub owed_of : Walk → List Owed
owed_of walk = owed_at walk.parts walk.place walk.outer

-- a line after the opening of a text
abbrev pub IsInner : TextLine → Type 0
IsInner (w.Head n) = ⊥
IsInner (w.Parts n) = ⊥
IsInner (w.Part log) = ⊥
IsInner (w.Charges n) = ⊥
IsInner _ = Unit {0}

-- a line that pays for what is owed is read, and the walk goes on after it
pub record Advanced (before after : Walk) (owed : Owed) (bytes behind : List ℕ) : Type 0 where
  pub line : TextLine
  pub pays : Pays Shallow owed line
  pub cut : Cuts (line_text line) bytes behind
  pub inner : (os : List Owed) → owed_of before ≡ owed ∷ os → IsInner line
  pub goes_on : (os : List Owed) → owed_of before ≡ owed ∷ os → owed_of after ≡ owes owed line ++ os
