-- The canonical trees are as a text can hold them.
use Rattle.std.proofs.Common.{◌≡◌, ℕ, suc, zero, ◌+◌, ◌<◌, ◌≤◌, ◌^◌, ◌&&◌, ℤ, pos, ◌<ℤ◌, Bool, true, false, cond, nat_eq, List, [], ◌∷◌, length, refl, ◌∙◌, ap, subst, arith, Option, Some, None}
use Rattle.std.specs.List.{AllByRecursion, slice_get}
use Rattle.std.proofs.lemmas.Int.{ints}
use Rattle.linear_term.specs.Range.{InRange}
use Rattle.base_budget.specs.declared.log.Entry.{Entry}
use Rattle.clause_set.specs.declared.literal.Literal.{Literal}
use Rattle.clause_set.specs.declared.literal.Literal.TheVariants.{Eq, Geq, Div, NDiv}
use Rattle.clause_set.proofs.Primitive.{IsNormalLiteral}
use Rattle.formula.specs.Form as tree
use Rattle.formula.specs.Form.{Form, Forms}
use Rattle.sequent.specs.declared.member.Pick.{Pick}
use Rattle.sequent.specs.declared.member.Pick.TheVariants as pick
use Rattle.sequent.specs.declared.member.Shape.TheVariants.{Trivial, Alpha, Delta, Beta, Gamma}
use Rattle.sequent.specs.Rules.{applies, is_shape, premises_at, premises_of, shape_of}
use Rattle.sequent.specs.Sequent.{Member, Sequent, member}
use Rattle.proof_tree.specs.Gives.{AreGiven, Gives}
use Rattle.proof_tree.specs.Proof.{Proof, Proofs, node, no_proof, and_proof}
use Rattle.proof_tree.specs.Walk.{eliminates, is_empty, width}
use Rattle.proof_tree.proofs.Walking.{gives_fits}
use Rattle.tree_branch.specs.Within.{IsWithin}
use Rattle.tree_branch.proofs.Keeping.{premises_few, premises_within}
use Rattle.proof_constraint.specs.Text.{IsSaid, AreSaidLiterals, AreClauses}
use Rattle.proof_grammar.specs.Owed.{HasWidth, Shallow}
use Rattle.proof_grammar.specs.Shaped.{IsShapedNode, AreShapedNodes}
use Rattle.proof_printer.specs.Typed.{AreTypedProofs, AreTypedLiterals, IsTypedProof, IsTypedLiteral, IsTypedRule}
use Rattle.proof_canonical.proofs.Sharp.{AreNormal}
use Rattle.proof_canonical.proofs.Trees.{IsCanonical, AreCanonical}

-- ---- constraints
divisor_fits : (d : ℤ) → pos 1 <ℤ d → d <ℤ pos (2 ^ 127) → InRange d
divisor_fits d h k = omega (arith, ints, h, k)

literal_said : (x : Literal) → IsNormalLiteral x → IsTypedLiteral x → IsSaid x
literal_said (Eq t) h i = i.0
literal_said (Geq t) h i = i.0
literal_said (Div d t) h i = (((h.primitive).divisor, divisor_fits d (h.primitive).divisor i.1), i.0)
literal_said (NDiv d t) h i = (((h.primitive).divisor, divisor_fits d (h.primitive).divisor i.1), i.0)

clause_said : (c : List Literal) → AllByRecursion IsNormalLiteral c → AreTypedLiterals c → AreSaidLiterals c
clause_said [] h i = tt
clause_said (x ∷ c) h i = (literal_said x h.0 i.0, clause_said c h.1 i.1)

clauses_said : (d : List (List Literal)) → AreNormal d → AllByRecursion AreTypedLiterals d → AreClauses d
clauses_said [] h i = tt
clauses_said (c ∷ d) h i = (clause_said c h.0 i.0, clauses_said d h.1 i.1)

-- ---- how many premises a rule has
no_premise : (s : Sequent) (i : ℕ) (o : Option Member) → is_shape Trivial (shape_of o) ≡ true → length (premises_at s i o) ≡ 0
no_premise s i None h = absurd (cc)
no_premise s i (Some m) h = by m.over m.used m.formula h
  where
    by : (over used : ℕ) (f : Form) → is_shape Trivial (shape_of (Some (member f over used))) ≡ true → length (premises_at s i (Some (member f over used))) ≡ 0
    by over used (tree.conjunction tree.no_form) h = refl
    by over used (tree.conjunction (tree.and_form f fs)) h = absurd (cc)
    by over used f h = absurd (cc)

alpha_premise : (s : Sequent) (i : ℕ) (o : Option Member) → is_shape Alpha (shape_of o) ≡ true → length (premises_at s i o) ≡ 1
alpha_premise s i None h = absurd (cc)
alpha_premise s i (Some m) h = by m.over m.used m.formula h
  where
    by : (over used : ℕ) (f : Form) → is_shape Alpha (shape_of (Some (member f over used))) ≡ true → length (premises_at s i (Some (member f over used))) ≡ 1
    by over used (tree.disjunction fs) h = refl
    by over used (tree.conjunction tree.no_form) h = absurd (cc)
    by over used (tree.conjunction (tree.and_form f fs)) h = absurd (cc)
    by over used f h = absurd (cc)

delta_premise : (s : Sequent) (i : ℕ) (o : Option Member) → is_shape Delta (shape_of o) ≡ true → length (premises_at s i o) ≡ 1
delta_premise s i None h = absurd (cc)
delta_premise s i (Some m) h = by m.over m.used m.formula h
  where
    by : (over used : ℕ) (f : Form) → is_shape Delta (shape_of (Some (member f over used))) ≡ true → length (premises_at s i (Some (member f over used))) ≡ 1
    by over used (tree.universal f) h = refl
    by over used (tree.conjunction tree.no_form) h = absurd (cc)
    by over used (tree.conjunction (tree.and_form f fs)) h = absurd (cc)
    by over used f h = absurd (cc)

gamma_premise : (s : Sequent) (i : ℕ) (o : Option Member) → is_shape Gamma (shape_of o) ≡ true → length (premises_at s i o) ≡ 1
gamma_premise s i None h = absurd (cc)
gamma_premise s i (Some m) h = by m.over m.used m.formula h
  where
    by : (over used : ℕ) (f : Form) → is_shape Gamma (shape_of (Some (member f over used))) ≡ true → length (premises_at s i (Some (member f over used))) ≡ 1
    by over used (tree.existential f) h = refl
    by over used (tree.conjunction tree.no_form) h = absurd (cc)
    by over used (tree.conjunction (tree.and_form f fs)) h = absurd (cc)
    by over used f h = absurd (cc)

beta_premises : (s : Sequent) (i : ℕ) (o : Option Member) → is_shape Beta (shape_of o) ≡ true → 1 ≤ length (premises_at s i o)
beta_premises s i None h = absurd (cc)
beta_premises s i (Some m) h = by m.over m.used m.formula h
  where
    by : (over used : ℕ) (f : Form) → is_shape Beta (shape_of (Some (member f over used))) ≡ true → 1 ≤ length (premises_at s i (Some (member f over used)))
    by over used (tree.conjunction tree.no_form) h = absurd (cc)
    by over used (tree.conjunction (tree.and_form f fs)) h = omega arith
    by over used f h = absurd (cc)

rule_width : (s : Sequent) (p : Pick) (k : ℕ) → applies s p ≡ true → k ≡ length (premises_of s p) → length (premises_of s p) < 2 ^ 32 → IsTypedRule p → HasWidth p k
rule_width s (pick.Trivial i) k a e few t = ((omega arith, omega (arith, t)), e ∙ no_premise s i (slice_get s.members i) a)
rule_width s (pick.Alpha i) k a e few t = ((omega arith, omega (arith, t)), e ∙ alpha_premise s i (slice_get s.members i) a)
rule_width s (pick.Delta i) k a e few t = ((omega arith, omega (arith, t)), e ∙ delta_premise s i (slice_get s.members i) a)
rule_width s (pick.Beta i) k a e few t = ((omega arith, omega (arith, t)), (let some = beta_premises s i (slice_get s.members i) a in omega (arith, e, some), omega (arith, e, few)))
rule_width s (pick.Gamma i) k a e few t = ((omega arith, omega (arith, t)), e ∙ gamma_premise s i (slice_get s.members i) a)
rule_width s pick.Close k a e few t = e

-- ---- nodes
given_width : (ss : List Sequent) (ns : Proofs) → AreGiven ss ns → width ns ≡ length ss
given_width [] no_proof h = refl
given_width [] (and_proof x ns) h = absurd h
given_width (s ∷ ss) no_proof h = absurd h
given_width (s ∷ ss) (and_proof x ns) h = ap (λ (k : ℕ). suc k) (given_width ss ns h.1)

no_entries : (log : List Entry) → is_empty log ≡ true → log ≡ []
no_entries [] h = refl
no_entries (e ∷ log) h = absurd (cc)

third : (a b c : Bool) → (a && (b && c)) ≡ true → c ≡ true
third true true c h = h
third true false c h = absurd (cc)
third false b c h = absurd (cc)

plain_empty : (logged : Bool) (log : List Entry) → cond logged true (is_empty log) ≡ true → logged ≡ false → log ≡ []
plain_empty true log h k = absurd (cc)
plain_empty false log h k = no_entries log h

mutual
  -- a canonical tree below j − 1 levels of a text
  pub node_shaped : (left j : ℕ) (s : Sequent) (x : Proof) → j + left ≤ 2001 → Gives s x → IsCanonical left x → IsWithin left s → IsTypedProof x → IsShapedNode Shallow j x
  node_shaped zero j s (node p ns es d) le g c w t = absurd c
  node_shaped (suc left) j s (node p ns es d) le g c w t =
      let same : suc left ≡ left + 1 = omega arith in
      let fit = third (applies s p) (nat_eq (width ns) (length (premises_of s p))) (cond (eliminates p) true (is_empty es)) (gives_fits s p ns es d g) in (
        omega (arith, le),
        rule_width s p (width ns) g.0 (given_width (premises_of s p) ns g.1) (premises_few (suc left) s p w) t.0,
        plain_empty (eliminates p) es fit,
        clauses_said d c.0 t.2,
        nodes_shaped left (j + 1) (premises_of s p) ns (omega (arith, le)) g.1 c.1 (premises_within left s p (subst (λ (k : ℕ). IsWithin k s) same w)) t.3,
      )

  nodes_shaped : (left j : ℕ) (ss : List Sequent) (ns : Proofs) → j + left ≤ 2001 → AreGiven ss ns → AreCanonical left ns → AllByRecursion (IsWithin left) ss → AreTypedProofs ns → AreShapedNodes Shallow j ns
  nodes_shaped left j [] no_proof le g c w t = tt
  nodes_shaped left j [] (and_proof x ns) le g c w t = absurd g
  nodes_shaped left j (s ∷ ss) no_proof le g c w t = absurd g
  nodes_shaped left j (s ∷ ss) (and_proof x ns) le g c w t = (node_shaped left j s x le g.0 c.0 w.0 t.0, nodes_shaped left j ss ns le g.1 c.1 w.1 t.1)
