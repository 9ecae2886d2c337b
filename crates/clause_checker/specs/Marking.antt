-- Marks for the false literals of a unit propagation.
use Rattle.std.specs.Prelude.{◌≡◌, List}
use Rattle.std.specs.List.{list_any}
use Rattle.clause_proof.specs.declared.line.Literal.{Literal}
use Rattle.clause_proof.specs.Lines.{is_literal}
use Rattle.clause_marks.specs.Marked.{is_marked}
use Rattle.clause_marks.specs.declared.marks.Marks.{Marks}

-- the marked literals are these
abbrev pub IsMarking : Marks → List Literal → Type 0
IsMarking m fs = (l : Literal) → is_marked m.stamp m.positive m.negative l ≡ list_any (is_literal l) fs
