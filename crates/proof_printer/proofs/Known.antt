-- What the types of a proof's parts say, for all of a list.
use Rattle.std.proofs.Common.{◌≡◌, ◌<◌, ◌≤◌, ◌+◌, ℕ, List, [], ◌∷◌, length, drop, get_or, sym, subst}
use Rattle.std.specs.Prelude.{map}
use Rattle.std.specs.List.{AllByRecursion}
use Rattle.base_budget.specs.declared.log.Entry.{Entry}
use Rattle.base_budget.proofs.Charging.{drop-item, drop_all}
use Rattle.clause_set.specs.declared.literal.Literal.{Literal}
use Rattle.proof_tokens.specs.Spellings.{IsEntry}
use Rattle.proof_tree.specs.declared.node.Node.{Node, out-Node}
use Rattle.proof_tree.specs.Proof.{proofs}
use Rattle.proof_tree.specs.Views.{proof_of}
use Rattle.proof_printer.specs.Typed.{IsTypedRule, IsTypedLiteral, AreTypedLiterals, IsTypedProof, AreTypedProofs}
use Rattle.proof_printer.proofs.Nodes.{node_is}

-- P holds of all where it holds of those from i on
pub record Before {A : Type 0} (P : A → Type 0) (xs : List A) (i : ℕ) : Type 0 where
  pub rest : AllByRecursion P (drop i xs) → AllByRecursion P xs

before_none : {A : Type 0} (P : A → Type 0) (xs : List A) → Before P xs 0
before_none P xs = record { rest = λ k. k }

before_more : {A : Type 0} (P : A → Type 0) (xs : List A) (i : ℕ) (x : A) → i < length xs → x ≡ get_or xs i x → P x → Before P xs i → Before P xs (i + 1)
before_more P xs i x lt is p h = record { rest = λ more. h.rest (subst (AllByRecursion P) (sym (drop-item xs i x lt is)) (p, more)) }

before_all : {A : Type 0} (P : A → Type 0) (xs : List A) (i : ℕ) → length xs ≤ i → Before P xs i → AllByRecursion P xs
before_all P xs i le h = h.rest (subst (AllByRecursion P) (sym (drop_all xs i le)) tt)

pub entries_none : (es : List Entry) → Before IsEntry es 0
entries_none es = before_none IsEntry es

pub entries_more : (es : List Entry) (i : ℕ) (e : Entry) → i < length es → e ≡ get_or es i e → IsEntry e → Before IsEntry es i → Before IsEntry es (i + 1)
entries_more es i e lt is p h = before_more IsEntry es i e lt is p h

pub entries_all : (es : List Entry) (i : ℕ) → length es ≤ i → Before IsEntry es i → AllByRecursion IsEntry es
entries_all es i le h = before_all IsEntry es i le h

pub literals_none : (ms : List Literal) → Before IsTypedLiteral ms 0
literals_none ms = before_none IsTypedLiteral ms

pub literals_more : (ms : List Literal) (i : ℕ) (m : Literal) → i < length ms → m ≡ get_or ms i m → IsTypedLiteral m → Before IsTypedLiteral ms i → Before IsTypedLiteral ms (i + 1)
literals_more ms i m lt is p h = before_more IsTypedLiteral ms i m lt is p h

pub literals_all : (ms : List Literal) (i : ℕ) → length ms ≤ i → Before IsTypedLiteral ms i → AreTypedLiterals ms
literals_all ms i le h = before_all IsTypedLiteral ms i le h

pub clauses_none : (cs : List (List Literal)) → Before AreTypedLiterals cs 0
clauses_none cs = before_none AreTypedLiterals cs

pub clauses_more : (cs : List (List Literal)) (i : ℕ) (c : List Literal) → i < length cs → c ≡ get_or cs i c → AreTypedLiterals c → Before AreTypedLiterals cs i → Before AreTypedLiterals cs (i + 1)
clauses_more cs i c lt is p h = before_more AreTypedLiterals cs i c lt is p h

pub clauses_all : (cs : List (List Literal)) (i : ℕ) → length cs ≤ i → Before AreTypedLiterals cs i → AllByRecursion AreTypedLiterals cs
clauses_all cs i le h = before_all AreTypedLiterals cs i le h

abbrev IsTypedNode : Node → Type 0
IsTypedNode x = IsTypedProof (proof_of x)

typed_all : (xs : List Node) → AllByRecursion IsTypedNode xs → AreTypedProofs (proofs (map proof_of xs))
typed_all [] a = tt
typed_all (x ∷ xs) a = (a.0, typed_all xs a.1)

abbrev pub NodesBefore : List Node → ℕ → Type 0
NodesBefore xs i = Before IsTypedNode xs i

pub nodes_none : (xs : List Node) → NodesBefore xs 0
nodes_none xs = before_none IsTypedNode xs

pub nodes_more : (xs : List Node) (i : ℕ) (x : Node) → i < length xs → x ≡ get_or xs i x → IsTypedProof (proof_of x) → NodesBefore xs i → NodesBefore xs (i + 1)
nodes_more xs i x lt is p h = before_more IsTypedNode xs i x lt is p h

pub nodes_all : (xs : List Node) (i : ℕ) → length xs ≤ i → NodesBefore xs i → AreTypedProofs (proofs (map proof_of xs))
nodes_all xs i le h = typed_all xs (before_all IsTypedNode xs i le h)

pub node_known : (x : Node) → IsTypedRule (out-Node x).rule → AllByRecursion IsEntry (out-Node x).log.entries → AllByRecursion AreTypedLiterals (out-Node x).gives → AreTypedProofs (proofs (map proof_of (out-Node x).children)) → IsTypedProof (proof_of x)
node_known x r e g n = subst IsTypedProof (sym (node_is x)) (r, e, g, n)

pub ruleset entries_known = (entries_none, entries_more, entries_all)

pub ruleset literals_known = (literals_none, literals_more, literals_all)

pub ruleset clauses_known = (clauses_none, clauses_more, clauses_all)

pub ruleset nodes_known = (nodes_none, nodes_more, nodes_all)
