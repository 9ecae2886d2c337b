-- The trees of a run as the code builds them: nodes where trees are kept, their constraints, and whether a leaf is open.
use Rattle.std.specs.Prelude.{◌≡◌, ℕ, ◌+◌, ◌≤◌, Bool, cond, List, [], ◌∷◌, map, Option, Some, None, Result, Ok, Err}
use Rattle.std.specs.Option.{option_map}
use Rattle.linear_term.specs.declared.range.TermFault.{TermFault}
use Rattle.linear_term.specs.declared.range.TermFault.TheVariants as term_fault
use Rattle.base_budget.specs.declared.fault.StepFault.{StepFault}
use Rattle.base_budget.specs.declared.fault.StepFault.TheVariants as step_fault
use Rattle.base_budget.specs.declared.fault.ElimFault.{ElimFault}
use Rattle.base_budget.specs.declared.fault.ElimFault.TheVariants.{Steps, Overflow, Memory}
use Rattle.base_budget.specs.declared.log.ElimLog.{ElimLog}
use Rattle.base_budget.specs.Followed.{Followed}
use Rattle.base_budget.specs.Trace.{Funds, Traced, just, next}
use Rattle.clause_set.specs.declared.literal.Literal.{Literal}
use Rattle.elim_laws.specs.Logs.{entries_of}
use Rattle.sequent.specs.declared.member.Pick.{Pick}
use Rattle.sequent.specs.Sequent.{Sequent}
use Rattle.proof_tree.specs.declared.node.Node.{Node}
use Rattle.proof_tree.specs.Proof.{Proof, given, proofs}
use Rattle.proof_tree.specs.Views.{proof_of}
use Rattle.proof_tree.specs.Walk.{in_new_log, nodes_in, nodes_in_all}
use Rattle.search.specs.declared.course.Course.{Course}
use Rattle.search.specs.declared.walk.Built.{Built}
use Rattle.search.specs.declared.walk.Children.{Children}
use Rattle.search.specs.Building.{canonical_constraint}
use Rattle.search.specs.Course.{no_log, noted}
use Rattle.search.specs.Run.{has_open_leaf, have_open_leaf}

-- the refusal of a call on terms, with an empty log
abbrev pub without_log : TermFault → ElimFault
without_log (term_fault.Overflow p) = Overflow no_log p
without_log term_fault.Memory = Memory

-- an outcome that eliminated nothing, with its empty log
abbrev pub unlogged : Result (List (List Literal)) StepFault → Result (List (List Literal) × ElimLog) ElimFault
unlogged (Ok d) = Ok (d, no_log)
unlogged (Err step_fault.Steps) = Err (Steps no_log)
unlogged (Err (step_fault.Overflow p)) = Err (Overflow no_log p)
unlogged (Err step_fault.Memory) = Err Memory

-- the constraint of a rule, made of those of its premises in a log of its own, with that log
abbrev pub making : Sequent → Pick → List (List (List Literal)) → Traced (List (List Literal) × ElimLog)
making s p ds = next (in_new_log (canonical_constraint s p ds)) (λ d. just (d, record { entries = entries_of (canonical_constraint s p ds).events }))

-- the proofs that nodes are
abbrev pub proofs_in : List Node → List Proof
proofs_in xs = map proof_of xs

-- the node, if there is one
abbrev pub listed : Option Node → List Node
listed None = []
listed (Some x) = x ∷ []

-- the node is the proof x where trees are kept, and else there is none
abbrev pub IsKeptNode : Bool → Proof → Option Node → Type 0
IsKeptNode keeps x o = option_map proof_of o ≡ cond keeps (Some x) None

-- the nodes are the proofs xs where trees are kept, and else there are none
abbrev pub AreKept : Bool → List Proof → List Node → Type 0
AreKept keeps xs ns = proofs_in ns ≡ cond keeps xs []

-- the trees xs of these sequents have these constraints, and have an open leaf or none
pub record AreGrown (keeps : Bool) (ss : List Sequent) (xs : List Proof) (c : Children) : Type 0 where
  pub nodes : AreKept keeps xs c.nodes
  pub constraints : c.constraints ≡ map given xs
  pub has_open : c.has_open ≡ have_open_leaf ss (proofs xs)

-- the tree x of this sequent has this constraint, and has an open leaf or none
pub record IsGrown (keeps : Bool) (s : Sequent) (x : Proof) (b : Built) : Type 0 where
  pub root : IsKeptNode keeps x b.root
  pub constraint : b.constraint ≡ given x
  pub has_open : b.has_open ≡ has_open_leaf s x

-- a tree above the trees xs, for which no further node was entered
pub record IsFinished (keeps : Bool) (s : Sequent) (xs : List Proof) (n m : ℕ) (x : Proof) (b : Built) : Type 0 where
  pub tree : IsGrown keeps s x b
  pub size : nodes_in x ≡ nodes_in_all (proofs xs) + 1
  pub nodes : m ≡ n

-- a tree whose nodes have the numbers from n up to m, each of which was charged
pub record IsNumbered (keeps : Bool) (s : Sequent) (n m spent : ℕ) (x : Proof) (b : Built) : Type 0 where
  pub tree : IsGrown keeps s x b
  pub nodes : m ≡ n + nodes_in x
  pub paid : m ≤ spent

pub record AreNumbered (keeps : Bool) (ss : List Sequent) (n m spent : ℕ) (xs : List Proof) (c : Children) : Type 0 where
  pub trees : AreGrown keeps ss xs c
  pub nodes : m ≡ n + nodes_in_all (proofs xs)
  pub paid : m ≤ spent

-- p of what was built, if anything was
abbrev pub IfBuilt : {A : Type 0} → Result (Option A) StepFault → (A → Type 0) → Type 0
IfBuilt (Ok (Some a)) p = p a
IfBuilt (Ok None) p = Unit {0}
IfBuilt (Err e) p = Unit {0}

-- the call did the work as far as its result says, and what it made is, by P, the value of the work
pub record Gets {A B : Type 0} (P : A → B → Type 0) (work : Traced A) (old : Funds) (c : Course) (result : Result B StepFault) (new : Funds) (d : Course) : Type 0 where
  pub ok : (b : B) → result ≡ Ok b → (x : A) × Followed noted work old c (Ok x) new d × P x b
  pub err : (e : StepFault) → result ≡ Err e → Followed noted work old c (Err e) new d

-- the same of work that may have no value
pub record Makes {A B : Type 0} (P : A → B → Type 0) (work : Traced (Option A)) (old : Funds) (c : Course) (result : Result (Option B) StepFault) (new : Funds) (d : Course) : Type 0 where
  pub some : (b : B) → result ≡ Ok (Some b) → (x : A) × Followed noted work old c (Ok (Some x)) new d × P x b
  pub none : result ≡ Ok None → Followed noted work old c (Ok None) new d
  pub err : (e : StepFault) → result ≡ Err e → Followed noted work old c (Err e) new d
