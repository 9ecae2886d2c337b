-- What the types of a proof's parts say: positions fit 32 bits, linear terms are in normal form, and divisors fit 127 bits.
use Rattle.std.specs.Prelude.{◌<◌, ◌^◌, ◌<ℤ◌, pos, List}
use Rattle.std.specs.List.{AllByRecursion}
use Rattle.linear_term.specs.Linear.{IsNormal}
use Rattle.clause_set.specs.declared.literal.Literal.{Literal}
use Rattle.clause_set.specs.declared.literal.Literal.TheVariants as l
use Rattle.clause_set.specs.Literals.{term_of}
use Rattle.sequent.specs.declared.member.Pick.{Pick}
use Rattle.sequent.specs.declared.member.Pick.TheVariants as pick
use Rattle.proof_tokens.specs.Spellings.{IsEntry}
use Rattle.proof_tree.specs.declared.node.Conclusion.{Conclusion}
use Rattle.proof_tree.specs.declared.node.Conclusion.TheVariants.{Solution, Nothing}
use Rattle.proof_tree.specs.Proof.{Proof, Proofs, node, no_proof, and_proof}

-- the position of a rule's principal fits 32 bits
abbrev pub IsTypedRule : Pick → Type 0
IsTypedRule (pick.Trivial i) = i < 2 ^ 32
IsTypedRule (pick.Alpha i) = i < 2 ^ 32
IsTypedRule (pick.Delta i) = i < 2 ^ 32
IsTypedRule (pick.Beta i) = i < 2 ^ 32
IsTypedRule (pick.Gamma i) = i < 2 ^ 32
IsTypedRule pick.Close = Unit {0}

-- the literal's divisor, if it has one, is below 2^127
abbrev pub HasTypedDivisor : Literal → Type 0
HasTypedDivisor (l.Eq t) = Unit {0}
HasTypedDivisor (l.Geq t) = Unit {0}
HasTypedDivisor (l.Div d t) = d <ℤ pos (2 ^ 127)
HasTypedDivisor (l.NDiv d t) = d <ℤ pos (2 ^ 127)

-- the literal's term is in normal form, and its divisor fits
abbrev pub IsTypedLiteral : Literal → Type 0
IsTypedLiteral x = IsNormal (term_of x) × HasTypedDivisor x

abbrev pub AreTypedLiterals : List Literal → Type 0
AreTypedLiterals c = AllByRecursion IsTypedLiteral c

abbrev mutual
  -- the positions of rules and of logs' entries fit 32 bits, and the literals of constraints are as
  -- their types have them
  pub IsTypedProof : Proof → Type 0
  IsTypedProof (node p ns es d) = IsTypedRule p × AllByRecursion IsEntry es × AllByRecursion AreTypedLiterals d × AreTypedProofs ns

  pub AreTypedProofs : Proofs → Type 0
  AreTypedProofs no_proof = Unit {0}
  AreTypedProofs (and_proof n ns) = IsTypedProof n × AreTypedProofs ns

-- the positions of a conclusion's entries fit 32 bits
abbrev pub IsTypedConclusion : Conclusion → Type 0
IsTypedConclusion (Solution vs) = Unit {0}
IsTypedConclusion (Nothing log) = AllByRecursion IsEntry log.entries
