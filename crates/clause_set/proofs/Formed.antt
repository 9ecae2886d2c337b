-- The literals of a clause that is made of literals: their terms are reduced, their divisors positive, and so are
-- the coefficients after a divisor.
use Rattle.std.proofs.Common.{◌≡◌, ◌≢◌, ◌+◌, ℕ, ℤ, pos, neg_ℤ, ◌*ℤ◌, ◌<ℤ◌, unsigned_abs, int_le, Bool, true, false, not, cond, List, [], ◌∷◌, Option, Some, None, refl, sym, ◌∙◌, ap, subst, arith}
use Rattle.std.specs.Prelude.{All}
use Rattle.std.specs.List.{AllByRecursion, flat_map}
use Rattle.std.specs.Int.{int_div_euclid, int_rem_euclid}
use Rattle.std.specs.Ordering.{int_eq}
use Rattle.std.proofs.lemmas.Int.{ints}
use Rattle.std.proofs.lemmas.Bool.Decides.{Decides-int_eq}
use Rattle.std.proofs.lemmas.List.Elements.{recursion_from_All, All-from_recursion}
use Rattle.base_integers.specs.Divides.{Divides, divides}
use Rattle.base_integers.specs.Gcd.{gcd}
use Rattle.base_integers.proofs.Order.{lt_of_mul_lt}
use Rattle.base_integers.proofs.Residues.{rem-bounds}
use Rattle.linear_term.specs.Linear.{Linear, IsRisingFrom, IsReduced}
use Rattle.linear_term.proofs.Normal.{rising_weaker}
use Rattle.linear_term.proofs.Totals.{by_test}
use Rattle.clause_set.specs.declared.literal.Literal.{Literal}
use Rattle.clause_set.specs.declared.literal.Literal.TheVariants.{Eq, Geq, Div, NDiv}
use Rattle.clause_set.specs.declared.literal.Norm.{Norm}
use Rattle.clause_set.specs.declared.literal.Norm.TheVariants.{True, False, Lit}
use Rattle.clause_set.specs.Literals.{IsLiteral}
use Rattle.clause_set.specs.Clause.{IsClause}
use Rattle.clause_set.specs.Formed.{IsFormed}
use Rattle.clause_set.specs.Normal.{gcd_with, divided, quotient, negated, leads_negative, turned, residues, residue, decided, denied, normal_equation, normal_inequality, normal_divisibility, normal_of}
use Rattle.clause_set.specs.Clauses.{slack, extent, is_zero, with_constant, tightened, literals_of, clause_of, clauses_of}
use Rattle.clause_set.proofs.Contents.{gcd_with-positive, gcd_with-divides, gcd_with-divides_all, gcd_positive_right, quotient_exact}
use Rattle.clause_set.proofs.Kept.{Keeps, normals-kept, clause-kept, clauses-kept}

-- pairs as a reduced term has them
record AreReduced (n : ℕ) (ps : List (ℕ × ℤ)) : Type 0 where
  rising : IsRisingFrom n ps
  not_zero : AllByRecursion (λ p. p.1 ≢ pos 0) ps

reduced_from : (t : Linear) → AreReduced 0 t.pairs → IsReduced t
reduced_from t h = record { rising = h.rising; not_zero = All-from_recursion (λ p. p.1 ≢ pos 0) t.pairs h.not_zero }

reduced_to : (t : Linear) → IsReduced t → AreReduced 0 t.pairs
reduced_to t h = record { rising = h.rising; not_zero = recursion_from_All (λ p. p.1 ≢ pos 0) t.pairs h.not_zero }

-- ---- quotients
divided-rising : (g : ℤ) (n : ℕ) (ps : List (ℕ × ℤ)) → IsRisingFrom n ps → IsRisingFrom n (divided g ps)
divided-rising g n [] h = tt
divided-rising g n (p ∷ ps) h = (h.0, divided-rising g (p.0 + 1) ps h.1)

quotient_not_zero : (g k : ℤ) → pos 0 <ℤ g → Divides g k → k ≢ pos 0 → int_div_euclid k g ≢ pos 0
quotient_not_zero g k h d n z = n (quotient_exact g k h d ∙ ap (λ q. q *ℤ g) z ∙ omega (arith, ints))

divided-not_zero : (g : ℤ) (ps : List (ℕ × ℤ)) → pos 0 <ℤ g → AllByRecursion (λ p. Divides g p.1) ps → AllByRecursion (λ p. p.1 ≢ pos 0) ps → AllByRecursion (λ p. p.1 ≢ pos 0) (divided g ps)
divided-not_zero g [] h d n = tt
divided-not_zero g (p ∷ ps) h d n = (quotient_not_zero g p.1 h d.0 n.0, divided-not_zero g ps h d.1 n.1)

pub quotient_positive : (g k : ℤ) → pos 0 <ℤ g → Divides g k → pos 0 <ℤ k → pos 0 <ℤ int_div_euclid k g
quotient_positive g k h d n = lt_of_mul_lt (pos 0) (int_div_euclid k g) g (omega (arith, ints)) (omega (arith, ints, quotient_exact g k h d))

pub divided-positive : (g : ℤ) (ps : List (ℕ × ℤ)) → pos 0 <ℤ g → AllByRecursion (λ p. Divides g p.1) ps → AllByRecursion (λ p. pos 0 <ℤ p.1) ps → AllByRecursion (λ p. pos 0 <ℤ p.1) (divided g ps)
divided-positive g [] h d n = tt
divided-positive g (p ∷ ps) h d n = (quotient_positive g p.1 h d.0 n.0, divided-positive g ps h d.1 n.1)

pub quotient-reduced : (g : ℤ) (t : Linear) → pos 0 <ℤ g → AllByRecursion (λ p. Divides g p.1) t.pairs → IsReduced t → IsReduced (quotient g t)
quotient-reduced g t h d r =
    reduced_from (quotient g t) (record { rising = divided-rising g 0 t.pairs r.rising; not_zero = divided-not_zero g t.pairs h d (reduced_to t r).not_zero })

-- ---- turned terms
negated-rising : (n : ℕ) (ps : List (ℕ × ℤ)) → IsRisingFrom n ps → IsRisingFrom n (negated ps)
negated-rising n [] h = tt
negated-rising n (p ∷ ps) h = (h.0, negated-rising (p.0 + 1) ps h.1)

negated-not_zero : (ps : List (ℕ × ℤ)) → AllByRecursion (λ p. p.1 ≢ pos 0) ps → AllByRecursion (λ p. p.1 ≢ pos 0) (negated ps)
negated-not_zero [] h = tt
negated-not_zero (p ∷ ps) h = ((λ z. h.0 (omega (arith, ints, z))), negated-not_zero ps h.1)

turned-reduced : (t : Linear) → IsReduced t → IsReduced (turned t)
turned-reduced t h =
    by_test IsReduced (leads_negative t.pairs) (record { pairs = negated t.pairs; constant = neg_ℤ t.constant }) t
    (λ _. reduced_from (record { pairs = negated t.pairs; constant = neg_ℤ t.constant }) (record { rising = negated-rising 0 t.pairs h.rising; not_zero = negated-not_zero t.pairs (reduced_to t h).not_zero }))
    (λ _. h)

-- ---- residues
residues-rising : (d : ℤ) (n : ℕ) (ps : List (ℕ × ℤ)) → IsRisingFrom n ps → IsRisingFrom n (residues d ps)
residues-rising d n [] h = tt
residues-rising d n (p ∷ ps) h =
    let rest : IsRisingFrom (p.0 + 1) (residues d ps) = residues-rising d (p.0 + 1) ps h.1 in
    by_test (IsRisingFrom n) (not (int_eq (int_rem_euclid p.1 d) (pos 0))) ((p.0, int_rem_euclid p.1 d) ∷ residues d ps) (residues d ps)
    (λ _. (h.0, rest))
    (λ _. rising_weaker n (p.0 + 1) (residues d ps) (omega (arith, h.0)) rest)

pub residues-positive : (d : ℤ) (ps : List (ℕ × ℤ)) → pos 0 <ℤ d → AllByRecursion (λ p. pos 0 <ℤ p.1) (residues d ps)
residues-positive d [] h = tt
residues-positive d (p ∷ ps) h =
    let rest : AllByRecursion (λ p. pos 0 <ℤ p.1) (residues d ps) = residues-positive d ps h in
    by_test (AllByRecursion (λ p. pos 0 <ℤ p.1)) (not (int_eq (int_rem_euclid p.1 d) (pos 0))) ((p.0, int_rem_euclid p.1 d) ∷ residues d ps) (residues d ps)
    (λ y. (let low = (rem-bounds p.1 d h).0 in let not_zero : int_rem_euclid p.1 d ≢ pos 0 = (λ z. let t : int_eq (int_rem_euclid p.1 d) (pos 0) ≡ true = (Decides-int_eq (int_rem_euclid p.1 d) (pos 0)).1 z in grind arith) in omega (arith, ints), rest))
    (λ _. rest)

positive_not_zero : (ps : List (ℕ × ℤ)) → AllByRecursion (λ p. pos 0 <ℤ p.1) ps → AllByRecursion (λ p. p.1 ≢ pos 0) ps
positive_not_zero [] h = tt
positive_not_zero (p ∷ ps) h = ((λ z. let lt = h.0 in absurd (omega (arith, ints, z, lt))), positive_not_zero ps h.1)

pub residue-reduced : (d : ℤ) (t : Linear) → pos 0 <ℤ d → IsReduced t → IsReduced (residue d t)
residue-reduced d t h r =
    reduced_from (residue d t) (record { rising = residues-rising d 0 t.pairs r.rising; not_zero = positive_not_zero (residues d t.pairs) (residues-positive d t.pairs h) })

-- ---- the normal form of a literal
abbrev AreFormed : Norm → Type 0
AreFormed n = AllByRecursion IsFormed (literals_of n)

formed_equation : (t : Linear) → IsReduced t → IsFormed (Eq t)
formed_equation t h = record { literal = record { term = h; divisor = tt }; coefficients = tt }

formed_bound : (t : Linear) → IsReduced t → IsFormed (Geq t)
formed_bound t h = record { literal = record { term = h; divisor = tt }; coefficients = tt }

decided-formed : (b : Bool) → AreFormed (decided b)
decided-formed true = tt
decided-formed false = tt

equation-formed : (t : Linear) (ps : List (ℕ × ℤ)) → t.pairs ≡ ps → IsReduced t → AllByRecursion (λ p. p.1 ≢ pos 0) ps → AreFormed (normal_equation t ps)
equation-formed t [] is r n = decided-formed (int_eq t.constant (pos 0))
equation-formed t (p ∷ ps) is r n =
    let g : ℤ = gcd_with (pos 0) (p ∷ ps) in
    let gp : pos 0 <ℤ g = gcd_with-positive (gcd (pos 0) p.1) ps (gcd_positive_right (pos 0) p.1 n.0) in
    let all : AllByRecursion (λ q. Divides g q.1) t.pairs = subst (AllByRecursion (λ q. Divides g q.1)) (sym is) (gcd_with-divides_all (pos 0) (p ∷ ps)) in
    by_test AreFormed (divides (unsigned_abs g) t.constant) (Lit (Eq (turned (quotient g t)))) False
    (λ _. (formed_equation (turned (quotient g t)) (turned-reduced (quotient g t) (quotient-reduced g t gp all r)), tt))
    (λ _. tt)

inequality-formed : (t : Linear) (ps : List (ℕ × ℤ)) → t.pairs ≡ ps → IsReduced t → AllByRecursion (λ p. p.1 ≢ pos 0) ps → AreFormed (normal_inequality t ps)
inequality-formed t [] is r n = decided-formed (int_le (pos 0) t.constant)
inequality-formed t (p ∷ ps) is r n =
    let g : ℤ = gcd_with (pos 0) (p ∷ ps) in
    let gp : pos 0 <ℤ g = gcd_with-positive (gcd (pos 0) p.1) ps (gcd_positive_right (pos 0) p.1 n.0) in
    let all : AllByRecursion (λ q. Divides g q.1) t.pairs = subst (AllByRecursion (λ q. Divides g q.1)) (sym is) (gcd_with-divides_all (pos 0) (p ∷ ps)) in
    (formed_bound (quotient g t) (quotient-reduced g t gp all r), tt)

-- a divisibility, and its negation
record IsFormedPair (n : Norm) : Type 0 where
  plain : AreFormed n
  denied : AreFormed (denied n)

divisibility-formed : (d : ℤ) (t : Linear) → pos 0 <ℤ d → IsReduced t → IsFormedPair (normal_divisibility d t)
divisibility-formed d t dp r =
    let h : ℤ = gcd_with d (residues d t.pairs) in
    let s : Linear = residue d t in
    let hp : pos 0 <ℤ h = gcd_with-positive d (residues d t.pairs) dp in
    let all : AllByRecursion (λ q. Divides h q.1) s.pairs = gcd_with-divides_all d (residues d t.pairs) in
    let k : ℤ = int_div_euclid d h in
    let kp : pos 0 <ℤ k = quotient_positive h d hp (gcd_with-divides d (residues d t.pairs)) dp in
    let term : IsReduced (quotient h s) = quotient-reduced h s hp all (residue-reduced d t dp r) in
    let positive : All (λ p. pos 0 <ℤ p.1) (quotient h s).pairs = All-from_recursion (λ p. pos 0 <ℤ p.1) (divided h s.pairs) (divided-positive h s.pairs hp all (residues-positive d t.pairs dp)) in
    by_test IsFormedPair (divides (unsigned_abs h) s.constant) (cond (int_eq k (pos 1)) True (Lit (Div k (quotient h s)))) False
    (λ _. by_test IsFormedPair (int_eq k (pos 1)) True (Lit (Div k (quotient h s)))
    (λ _. record { plain = tt; denied = tt })
    (λ _. record {
      plain = (record { literal = record { term = term; divisor = kp }; coefficients = positive }, tt);
      denied = (record { literal = record { term = term; divisor = kp }; coefficients = positive }, tt);
    }))
    (λ _. record { plain = tt; denied = tt })

pub normal-formed : (l : Literal) → IsLiteral l → AllByRecursion IsFormed (literals_of (normal_of l))
unfolding normal_of
normal-formed (Eq t) h = equation-formed t t.pairs refl h.term (reduced_to t h.term).not_zero
normal-formed (Geq t) h = inequality-formed t t.pairs refl h.term (reduced_to t h.term).not_zero
normal-formed (Div d t) h = (divisibility-formed d t h.divisor h.term).plain
normal-formed (NDiv d t) h = (divisibility-formed d t h.divisor h.term).denied

-- ---- the normal form of a conjunction
pub with_constant-reduced : (k : Option ℤ) (t : Linear) → IsReduced t → IsReduced (with_constant k t)
with_constant-reduced None t h = h
with_constant-reduced (Some k) t h = record { rising = h.rising; not_zero = h.not_zero }

pub tightened-formed : (ls : List Literal) (l : Literal) → IsFormed l → IsFormed (tightened ls l)
tightened-formed ls (Eq t) h = h
tightened-formed ls (Geq t) h =
    let s : Linear = with_constant (slack ls t.pairs) t in
    let r : IsReduced s = with_constant-reduced (slack ls t.pairs) t h.literal.term in
    by_test IsFormed (is_zero (extent ls t.pairs)) (Eq (turned s)) (Geq s) (λ _. formed_equation (turned s) (turned-reduced s r)) (λ _. formed_bound s r)
tightened-formed ls (Div d t) h = h
tightened-formed ls (NDiv d t) h = h

-- the normal form of literals is formed
pub formed-keeps : Keeps IsLiteral IsFormed
formed-keeps = record { normal = normal-formed; tight = tightened-formed }

pub normals-formed : (ls : List Literal) → AllByRecursion IsLiteral ls → AllByRecursion IsFormed (flat_map (λ l. literals_of (normal_of l)) ls)
normals-formed ls h = normals-kept IsLiteral IsFormed formed-keeps ls h

-- the clause of a conjunction of literals has formed ones
pub clause-formed : (ls c : List Literal) → AllByRecursion IsLiteral ls → clause_of ls ≡ Some c → AllByRecursion IsFormed c
clause-formed ls c h e = clause-kept IsLiteral IsFormed formed-keeps ls c h e

pub clauses-formed : (cs : List (List Literal)) → AllByRecursion (AllByRecursion IsLiteral) cs → AllByRecursion (AllByRecursion IsFormed) (clauses_of cs)
clauses-formed cs h = clauses-kept IsLiteral IsFormed formed-keeps cs h

-- those of a clause are formed
pub clause-is_formed : (c : List Literal) → IsClause c → All IsFormed c
clause-is_formed c h = All-from_recursion IsFormed c (clause-formed h.conjunction c (recursion_from_All IsLiteral h.conjunction h.of_literals) h.is)
