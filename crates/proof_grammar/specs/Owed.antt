-- What a text of lines still owes: which lines have to come.
use Rattle.std.specs.Prelude.{ℕ, zero, suc, ◌≡◌, ◌≤◌, ◌<◌, ◌+◌, ◌==◌, cond, List, [], ◌∷◌, ◌++◌}
use Rattle.base_limits.specs.Limits.{branch_limit}
use Rattle.sequent.specs.declared.member.Pick.{Pick}
use Rattle.sequent.specs.declared.member.Pick.TheVariants as pick
use Rattle.proof_tree.specs.declared.node.Conclusion.{Conclusion}
use Rattle.proof_tree.specs.declared.node.Conclusion.TheVariants.{Solution, Nothing}
use Rattle.proof_tree.specs.Walk.{eliminates}
use Rattle.proof_tokens.specs.Lines.{IsFormat, IsCharges, IsPart, IsPosition, IsCount, AreValues}
use Rattle.proof_constraint.specs.Text.{AreClauses}
use Rattle.proof_grammar.specs.declared.lines.TextLine.{TextLine}
use Rattle.proof_grammar.specs.declared.lines.TextLine.TheVariants as w
use Rattle.proof_grammar.specs.declared.lines.Owed.{Owed}
use Rattle.proof_grammar.specs.declared.lines.Owed.TheVariants as o

-- how many premises a rule has in a text
abbrev pub HasWidth : Pick → ℕ → Type 0
HasWidth (pick.Trivial i) k = IsPosition i × (k ≡ 0)
HasWidth (pick.Alpha i) k = IsPosition i × (k ≡ 1)
HasWidth (pick.Delta i) k = IsPosition i × (k ≡ 1)
HasWidth (pick.Beta i) k = IsPosition i × IsCount k
HasWidth (pick.Gamma i) k = IsPosition i × (k ≡ 1)
HasWidth pick.Close k = k ≡ 0

-- a conclusion that a text can say
abbrev pub IsConclusion : Conclusion → Type 0
IsConclusion (Solution vs) = AreValues vs
IsConclusion (Nothing log) = Unit {0}

-- which line pays for what is owed, where nodes may stand on these levels
abbrev pub Pays : (ℕ → Type 0) → Owed → TextLine → Type 0
Pays Level o.Head (w.Head n) = IsFormat n
Pays Level o.Parts (w.Parts n) = IsPosition n
Pays Level o.Part (w.Part log) = IsPart log.entries
Pays Level (o.Charges m) (w.Charges n) = IsCharges n
Pays Level (o.Node j m) (w.Row p k) = Level j × HasWidth p k
Pays Level (o.Log m) (w.Log log) = Unit {0}
Pays Level (o.Log m) (w.LogOf i) = i < m
Pays Level o.Gives (w.Gives d) = AreClauses d
Pays Level (o.End m) (w.End c) = IsConclusion c
Pays Level (o.End m) (w.EndOf i) = i < m
Pays Level _ _ = ⊥

-- this many parts
abbrev pub parts_owed : ℕ → List Owed
parts_owed zero = []
parts_owed (suc n) = o.Part ∷ parts_owed n

-- this many nodes on this level, in a text of m parts
abbrev pub nodes_owed : ℕ → ℕ → ℕ → List Owed
nodes_owed m zero j = []
nodes_owed m (suc k) j = o.Node j m ∷ nodes_owed m k j

-- what a rule owes after its premises
abbrev pub last_owed : ℕ → Pick → List Owed
last_owed m p = cond (eliminates p) (o.Log m ∷ o.Gives ∷ []) (o.Gives ∷ [])

-- what is owed after the first line: in the second format how many parts there are
abbrev pub opening_owed : ℕ → List Owed
opening_owed n = cond (n == 1) (o.Charges 0 ∷ []) (o.Parts ∷ [])

-- what is owed after the opening of a text of m parts
abbrev pub tree_owed : ℕ → List Owed
tree_owed m = o.Node 1 m ∷ o.End m ∷ []

-- what is owed besides, after a line
abbrev pub owes : Owed → TextLine → List Owed
owes o.Head (w.Head n) = opening_owed n
owes o.Parts (w.Parts m) = parts_owed m ++ o.Charges m ∷ []
owes (o.Charges m) (w.Charges n) = tree_owed m
owes (o.Node j m) (w.Row p k) = nodes_owed m k (j + 1) ++ last_owed m p
owes _ _ = []

-- the lines lead from what is owed to what is still owed
abbrev pub LeadsOwed : (ℕ → Type 0) → List Owed → List TextLine → List Owed → Type 0
LeadsOwed Level os [] ws = os ≡ ws
LeadsOwed Level [] (l ∷ ls) ws = ⊥
LeadsOwed Level (o ∷ os) (l ∷ ls) ws = Pays Level o l × LeadsOwed Level (owes o l ++ os) ls ws

-- nothing is owed after the lines
abbrev pub OwesNothing : (ℕ → Type 0) → List Owed → List TextLine → Type 0
OwesNothing Level os ls = LeadsOwed Level os ls []

-- what the text of a proof owes at its start
abbrev pub start : List Owed
start = o.Head ∷ []

-- any level
abbrev pub Any : ℕ → Type 0
Any j = Unit {0}

-- a level that a text may have
abbrev pub Shallow : ℕ → Type 0
Shallow j = j ≤ branch_limit
