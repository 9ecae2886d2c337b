-- A literal in lowest terms has a name, and a single name has no divisor in common with the rest; no name comes in.
use Rattle.std.proofs.Common.{◌≡◌, ◌≢◌, ℕ, ℤ, pos, negsuc, neg_ℤ, ◌<ℤ◌, unsigned_abs, int_le, nat_eq, Bool, true, false, not, ◌||◌, cond, List, [], ◌∷◌, Option, Some, None, inl, inr, refl, sym, ◌∙◌, ap, arith}
use Rattle.std.specs.Prelude.{All}
use Rattle.std.specs.List.{AllByRecursion, list_any}
use Rattle.std.specs.Int.{int_div_euclid, int_rem_euclid}
use Rattle.std.specs.Ordering.{int_eq}
use Rattle.std.proofs.lemmas.Int.{ints}
use Rattle.std.proofs.lemmas.List.Elements.{recursion_from_All, All-from_recursion}
use Rattle.base_integers.specs.Divides.{Divides, divides}
use Rattle.base_integers.specs.Gcd.{gcd}
use Rattle.base_integers.proofs.Divisors.{Divides-zero, Divides-refl}
use Rattle.base_integers.proofs.Divisor.{gcd-divides_left, gcd-divides_right, gcd-positive, gcd-zero}
use Rattle.linear_term.specs.Linear.{Linear, has_name, mentions, number}
use Rattle.linear_term.proofs.Totals.{by_test}
use Rattle.linear_term.proofs.Names.{combination-unmentioned}
use Rattle.clause_set.specs.declared.literal.Literal.{Literal}
use Rattle.clause_set.specs.declared.literal.Literal.TheVariants.{Eq, Geq, Div, NDiv}
use Rattle.clause_set.specs.declared.literal.Norm.{Norm}
use Rattle.clause_set.specs.declared.literal.Norm.TheVariants.{True, False, Lit}
use Rattle.clause_set.specs.Clause.{IsClause}
use Rattle.clause_set.specs.Literals.{IsLiteral, AreLiterals, term_of}
use Rattle.clause_set.specs.Formed.{IsFormed}
use Rattle.clause_set.specs.Kept.{AreFormed, AreFree}
use Rattle.clause_set.specs.Names.{has}
use Rattle.clause_set.specs.Primitive.{AreCoprime, LeadsPositive, IsReducedModulo, IsSingleWith, IsUnit, IsShaped}
use Rattle.clause_set.specs.Normal.{gcd_with, divided, quotient, negated, leads_negative, turned, residues, residue, decided, denied, normal_equation, normal_inequality, normal_divisibility, normal_of}
use Rattle.clause_set.specs.Clauses.{slack, extent, is_zero, with_constant, tightened, literals_of, clauses_of}
use Rattle.clause_set.specs.Dnfs.{tidied, conjunction, disjunction, negation}
use Rattle.clause_set.proofs.Formed.{formed-keeps}
use Rattle.clause_set.proofs.Negations.{less, more, less_is, more_is}
use Rattle.clause_set.proofs.Primitive.{IsNormalLiteral, normal-keeps}
use Rattle.clause_set.proofs.Kept.{Each, Keeps, Denies, clauses-kept, conjunction-kept, disjunction-kept, negation-kept, tidied-kept, each_from, each_to}
use Rattle.clause_set.proofs.Owned.{clause-normal}

-- ---- single names
single-coprime : (a d : ℤ) → a ≢ pos 0 → ((g : ℤ) → pos 0 <ℤ g → Divides g d → Divides g a → g ≡ pos 1) → gcd a d ≡ pos 1
single-coprime a d n h = h (gcd a d) (gcd-positive a d n) (gcd-divides_right a d) (gcd-divides_left a d)

unit_from : (a : ℤ) → pos (unsigned_abs a) ≡ pos 1 → IsUnit a
unit_from (pos n) e = inl e
unit_from (negsuc n) e = inr (let z : n ≡ 0 = omega (arith, ints, e) in ap negsuc z)

of_one : (g : ℤ) (p : ℕ × ℤ) → Divides g p.1 → All (λ (q : ℕ × ℤ). Divides g q.1) (p ∷ [])
of_one g p d = All-from_recursion (λ q. Divides g q.1) (p ∷ []) (d, tt)

of_none : (g : ℤ) → All (λ (q : ℕ × ℤ). Divides g q.1) []
of_none g = All-from_recursion (λ q. Divides g q.1) [] tt

unit-single : (ps : List (ℕ × ℤ)) → AllByRecursion (λ p. p.1 ≢ pos 0) ps → AreCoprime (pos 0) ps → IsSingleWith IsUnit ps
unit-single [] n c = let e : pos 2 ≡ pos 1 = c (pos 2) (omega (arith, ints)) (Divides-zero (pos 2)) (of_none (pos 2)) in omega (arith, ints, e)
unit-single (p ∷ []) n c = unit_from p.1 (sym (gcd-zero p.1) ∙ single-coprime p.1 (pos 0) n.0 (λ g gp d k. c g gp d (of_one g p k)))
unit-single (p ∷ q ∷ ps) n c = tt

positive_unit : (a : ℤ) → IsUnit a → pos 0 <ℤ a → a ≡ pos 1
positive_unit a (inl e) h = e
positive_unit a (inr e) h = absurd (omega (arith, ints, e, h))

one-single : (ps : List (ℕ × ℤ)) → IsSingleWith IsUnit ps → LeadsPositive ps → IsSingleWith (λ a. a ≡ pos 1) ps
one-single [] h l = h
one-single (p ∷ []) h l = positive_unit p.1 h l
one-single (p ∷ q ∷ ps) h l = tt

modulo-single : (d : ℤ) (ps : List (ℕ × ℤ)) → pos 1 <ℤ d → AllByRecursion (λ p. pos 0 <ℤ p.1) ps → AreCoprime d ps → IsSingleWith (λ a. gcd a d ≡ pos 1) ps
modulo-single d [] lt n c = let e : d ≡ pos 1 = c d (omega (arith, ints, lt)) (Divides-refl d) (of_none d) in omega (arith, ints, e, lt)
modulo-single d (p ∷ []) lt n c = single-coprime p.1 d (λ z. omega (arith, ints, z, n.0)) (λ g gp k l. c g gp k (of_one g p l))
modulo-single d (p ∷ q ∷ ps) lt n c = tt

reduced-single : (d : ℤ) (t : Linear) → IsReducedModulo d t → IsSingleWith (λ a. gcd a d ≡ pos 1) t.pairs
reduced-single d t h = modulo-single d t.pairs h.divisor (recursion_from_All (λ p. pos 0 <ℤ p.1) t.pairs h.positive) h.coprime

-- a literal in lowest terms is in shape
pub shaped : (l : Literal) → IsNormalLiteral l → IsShaped l
shaped (Eq t) h = one-single t.pairs (unit-single t.pairs (recursion_from_All (λ p. p.1 ≢ pos 0) t.pairs h.formed.literal.term.not_zero) h.primitive.0) h.primitive.1
shaped (Geq t) h = unit-single t.pairs (recursion_from_All (λ p. p.1 ≢ pos 0) t.pairs h.formed.literal.term.not_zero) h.primitive
shaped (Div d t) h = reduced-single d t h.primitive
shaped (NDiv d t) h = reduced-single d t h.primitive

all_shaped : (c : List Literal) → AllByRecursion IsNormalLiteral c → AllByRecursion IsShaped c
all_shaped [] h = tt
all_shaped (l ∷ c) h = (shaped l h.0, all_shaped c h.1)

each_shaped : (d : List (List Literal)) → Each IsNormalLiteral d → AllByRecursion (All IsShaped) d
each_shaped [] h = tt
each_shaped (c ∷ d) h = (All-from_recursion IsShaped c (all_shaped c h.0), each_shaped d h.1)

pub clause-shaped : (c : List Literal) → IsClause c → All IsShaped c
clause-shaped c h = All-from_recursion IsShaped c (all_shaped c (clause-normal c h))

pub clauses-shaped : (cs : List (List Literal)) → AreLiterals cs → AllByRecursion (All IsShaped) (clauses_of cs)
clauses-shaped cs h = each_shaped (clauses_of cs) (clauses-kept IsLiteral IsNormalLiteral normal-keeps cs (each_from IsLiteral cs h))

-- ---- names: each name of a literal has N
abbrev pub IsOn : (ℕ → Type 0) → Literal → Type 0
IsOn N l = AllByRecursion (λ p. N p.0) (term_of l).pairs

divided-on : (N : ℕ → Type 0) (g : ℤ) (ps : List (ℕ × ℤ)) → AllByRecursion (λ p. N p.0) ps → AllByRecursion (λ p. N p.0) (divided g ps)
divided-on N g [] h = tt
divided-on N g (p ∷ ps) h = (h.0, divided-on N g ps h.1)

negated-on : (N : ℕ → Type 0) (ps : List (ℕ × ℤ)) → AllByRecursion (λ p. N p.0) ps → AllByRecursion (λ p. N p.0) (negated ps)
negated-on N [] h = tt
negated-on N (p ∷ ps) h = (h.0, negated-on N ps h.1)

residues-on : (N : ℕ → Type 0) (d : ℤ) (ps : List (ℕ × ℤ)) → AllByRecursion (λ p. N p.0) ps → AllByRecursion (λ p. N p.0) (residues d ps)
residues-on N d [] h = tt
residues-on N d (p ∷ ps) h =
    by_test (AllByRecursion (λ q. N q.0)) (not (int_eq (int_rem_euclid p.1 d) (pos 0))) ((p.0, int_rem_euclid p.1 d) ∷ residues d ps) (residues d ps)
    (λ _. (h.0, residues-on N d ps h.1)) (λ _. residues-on N d ps h.1)

turned-on : (N : ℕ → Type 0) (t : Linear) → AllByRecursion (λ p. N p.0) t.pairs → AllByRecursion (λ p. N p.0) (turned t).pairs
turned-on N t h =
    by_test (λ s. AllByRecursion (λ p. N p.0) s.pairs) (leads_negative t.pairs) (record { pairs = negated t.pairs; constant = neg_ℤ t.constant }) t
    (λ _. negated-on N t.pairs h) (λ _. h)

decided-none : (Q : Literal → Type 0) (b : Bool) → AllByRecursion Q (literals_of (decided b))
decided-none Q true = tt
decided-none Q false = tt

denied-on : (N : ℕ → Type 0) (n : Norm) → AllByRecursion (IsOn N) (literals_of n) → AllByRecursion (IsOn N) (literals_of (denied n))
denied-on N True h = tt
denied-on N False h = tt
denied-on N (Lit (Eq t)) h = h
denied-on N (Lit (Geq t)) h = h
denied-on N (Lit (Div d t)) h = h
denied-on N (Lit (NDiv d t)) h = h

equation-on : (N : ℕ → Type 0) (t : Linear) (ps : List (ℕ × ℤ)) → AllByRecursion (λ p. N p.0) t.pairs → AllByRecursion (IsOn N) (literals_of (normal_equation t ps))
equation-on N t [] h = decided-none (IsOn N) (int_eq t.constant (pos 0))
equation-on N t (p ∷ ps) h =
    let g : ℤ = gcd_with (pos 0) (p ∷ ps) in
    by_test (λ n. AllByRecursion (IsOn N) (literals_of n)) (divides (unsigned_abs g) t.constant) (Lit (Eq (turned (quotient g t)))) False
    (λ _. (turned-on N (quotient g t) (divided-on N g t.pairs h), tt)) (λ _. tt)

inequality-on : (N : ℕ → Type 0) (t : Linear) (ps : List (ℕ × ℤ)) → AllByRecursion (λ p. N p.0) t.pairs → AllByRecursion (IsOn N) (literals_of (normal_inequality t ps))
inequality-on N t [] h = decided-none (IsOn N) (int_le (pos 0) t.constant)
inequality-on N t (p ∷ ps) h = (divided-on N (gcd_with (pos 0) (p ∷ ps)) t.pairs h, tt)

divisibility-on : (N : ℕ → Type 0) (d : ℤ) (t : Linear) → AllByRecursion (λ p. N p.0) t.pairs → AllByRecursion (IsOn N) (literals_of (normal_divisibility d t))
divisibility-on N d t h =
    let k : ℤ = gcd_with d (residues d t.pairs) in
    by_test (λ n. AllByRecursion (IsOn N) (literals_of n)) (divides (unsigned_abs k) (residue d t).constant)
    (cond (int_eq (int_div_euclid d k) (pos 1)) True (Lit (Div (int_div_euclid d k) (quotient k (residue d t))))) False
    (λ _. by_test (λ n. AllByRecursion (IsOn N) (literals_of n)) (int_eq (int_div_euclid d k) (pos 1)) True (Lit (Div (int_div_euclid d k) (quotient k (residue d t))))
    (λ _. tt) (λ _. (divided-on N k (residues d t.pairs) (residues-on N d t.pairs h), tt)))
    (λ _. tt)

normal-on : (N : ℕ → Type 0) (l : Literal) → IsOn N l → AllByRecursion (IsOn N) (literals_of (normal_of l))
unfolding normal_of
normal-on N (Eq t) h = equation-on N t t.pairs h
normal-on N (Geq t) h = inequality-on N t t.pairs h
normal-on N (Div d t) h = divisibility-on N d t h
normal-on N (NDiv d t) h = denied-on N (normal_divisibility d t) (divisibility-on N d t h)

with_constant-on : (N : ℕ → Type 0) (k : Option ℤ) (t : Linear) → AllByRecursion (λ p. N p.0) t.pairs → AllByRecursion (λ p. N p.0) (with_constant k t).pairs
with_constant-on N None t h = h
with_constant-on N (Some k) t h = h

tightened-on : (N : ℕ → Type 0) (ls : List Literal) (l : Literal) → IsOn N l → IsOn N (tightened ls l)
tightened-on N ls (Eq t) h = h
tightened-on N ls (Geq t) h =
    let s : Linear = with_constant (slack ls t.pairs) t in
    by_test (IsOn N) (is_zero (extent ls t.pairs)) (Eq (turned s)) (Geq s) (λ _. turned-on N s (with_constant-on N (slack ls t.pairs) t h)) (λ _. with_constant-on N (slack ls t.pairs) t h)
tightened-on N ls (Div d t) h = h
tightened-on N ls (NDiv d t) h = h

-- normal forms bring no name in
pub names-keep : (N : ℕ → Type 0) → Keeps (IsOn N) (IsOn N)
names-keep N = record { normal = normal-on N; tight = tightened-on N }

pub clauses-on : (N : ℕ → Type 0) (cs : List (List Literal)) → Each (IsOn N) cs → Each (IsOn N) (clauses_of cs)
clauses-on N cs h = clauses-kept (IsOn N) (IsOn N) (names-keep N) cs h

-- ---- a name that does not occur
abbrev Other : ℕ → ℕ → Type 0
Other x y = nat_eq y x ≡ false

neither : (b r : Bool) → cond b true r ≡ false → (b ≡ false) × (r ≡ false)
neither true r h = absurd (cc)
neither false r h = (refl, h)

on_from : (x : ℕ) (ps : List (ℕ × ℤ)) → has_name ps x ≡ false → AllByRecursion (λ p. Other x p.0) ps
on_from x [] h = tt
on_from x (p ∷ ps) h = let n = neither (nat_eq p.0 x) (has_name ps x) h in (n.0, on_from x ps n.1)

on_to : (x : ℕ) (ps : List (ℕ × ℤ)) → AllByRecursion (λ p. Other x p.0) ps → has_name ps x ≡ false
on_to x [] h = refl
on_to x (p ∷ ps) h = ap (λ b. cond b true (has_name ps x)) h.0 ∙ on_to x ps h.1

free_on : (x : ℕ) (l : Literal) → has x l ≡ false → IsOn (Other x) l
unfolding mentions
free_on x l h = on_from x (term_of l).pairs h

on_free : (x : ℕ) (l : Literal) → IsOn (Other x) l → has x l ≡ false
unfolding mentions
on_free x l h = on_to x (term_of l).pairs h

abbrev IsFree : ℕ → Literal → Type 0
IsFree x l = has x l ≡ false

free_norm : (x : ℕ) (ls : List Literal) → AllByRecursion (IsOn (Other x)) ls → AllByRecursion (IsFree x) ls
free_norm x [] h = tt
free_norm x (l ∷ ls) h = (on_free x l h.0, free_norm x ls h.1)

free-keeps : (x : ℕ) → Keeps (IsFree x) (IsFree x)
free-keeps x = record {
  normal = λ l h. free_norm x (literals_of (normal_of l)) (normal-on (Other x) l (free_on x l h));
  tight = λ ls l h. on_free x (tightened ls l) (tightened-on (Other x) ls l (free_on x l h));
}

number-free : (k : ℤ) (x : ℕ) → mentions (number k) x ≡ false
unfolding mentions
number-free k x = refl

less-free : (t : Linear) (x : ℕ) → mentions t x ≡ false → mentions (less t) x ≡ false
less-free t x h = combination-unmentioned (negsuc 0) (pos 1) t (number (negsuc 0)) x h (number-free (negsuc 0) x)

more-free : (t : Linear) (x : ℕ) → mentions t x ≡ false → mentions (more t) x ≡ false
more-free t x h = combination-unmentioned (pos 1) (pos 1) t (number (negsuc 0)) x h (number-free (negsuc 0) x)

free-denies : (x : ℕ) → Denies (IsFree x) (IsFree x)
free-denies x = record {
  keeps = free-keeps x;
  back = λ l h. h;
  below = λ t h. less-free t x h;
  above = λ t h. more-free t x h;
  bound = λ t h. less-free t x h;
  divided = λ d t h. h;
  undivided = λ d t h. h;
}

any_from_all : (x : ℕ) (c : List Literal) → AllByRecursion (IsFree x) c → list_any (has x) c ≡ false
any_from_all x [] h = refl
any_from_all x (l ∷ c) h = ap (λ b. b || list_any (has x) c) h.0 ∙ any_from_all x c h.1

or_neither : (b r : Bool) → (b || r) ≡ false → (b ≡ false) × (r ≡ false)
or_neither true r h = absurd (cc)
or_neither false r h = (refl, h)

all_from_any : (x : ℕ) (c : List Literal) → list_any (has x) c ≡ false → AllByRecursion (IsFree x) c
all_from_any x [] h = tt
all_from_any x (l ∷ c) h = let n = or_neither (has x l) (list_any (has x) c) h in (n.0, all_from_any x c n.1)

free_to : (x : ℕ) (d : List (List Literal)) → Each (IsFree x) d → AreFree x d
free_to x [] h = tt
free_to x (c ∷ d) h = (any_from_all x c h.0, free_to x d h.1)

free_from : (x : ℕ) (d : List (List Literal)) → AreFree x d → Each (IsFree x) d
free_from x [] h = tt
free_from x (c ∷ d) h = (all_from_any x c h.0, free_from x d h.1)

pub clauses-free : (x : ℕ) (cs : List (List Literal)) → AreFree x cs → AreFree x (clauses_of cs)
clauses-free x cs h = free_to x (clauses_of cs) (clauses-kept (IsFree x) (IsFree x) (free-keeps x) cs (free_from x cs h))

pub tidied-free : (x : ℕ) (cs : List (List Literal)) → AreFree x cs → AreFree x (tidied cs)
tidied-free x cs h = tidied-kept (λ c. list_any (has x) c ≡ false) cs h

pub conjunction-free : (x : ℕ) (a b : List (List Literal)) → AreFree x a → AreFree x b → AreFree x (conjunction a b).value
conjunction-free x a b h g = free_to x (conjunction a b).value (conjunction-kept (IsFree x) (IsFree x) (free-keeps x) a b (free_from x a h) (free_from x b g))

pub disjunction-free : (x : ℕ) (a b : List (List Literal)) → AreFree x a → AreFree x b → AreFree x (disjunction a b).value
disjunction-free x a b h g = disjunction-kept (λ c. list_any (has x) c ≡ false) a b h g

pub negation-free : (x : ℕ) (d : List (List Literal)) → AreFree x d → AreFree x (negation d).value
negation-free x d h = free_to x (negation d).value (negation-kept (IsFree x) (IsFree x) (free-denies x) d (free_from x d h))

-- ---- literals as clauses have them
pub formed-denies : Denies IsLiteral IsFormed
formed-denies = record {
  keeps = formed-keeps;
  back = λ l h. h.literal;
  below = λ t h. less_is t h.term;
  above = λ t h. more_is t h.term;
  bound = λ t h. less_is t h.term;
  divided = λ d t h. record { term = h.term; divisor = h.divisor };
  undivided = λ d t h. record { term = h.term; divisor = h.divisor };
}

pub clauses_of-formed : (cs : List (List Literal)) → AreLiterals cs → AreFormed (clauses_of cs)
clauses_of-formed cs h = each_to IsFormed (clauses_of cs) (clauses-kept IsLiteral IsFormed formed-keeps cs (each_from IsLiteral cs h))

pub tidied-formed : (cs : List (List Literal)) → AreFormed cs → AreFormed (tidied cs)
tidied-formed cs h = tidied-kept (All IsFormed) cs h

pub conjunction-formed : (a b : List (List Literal)) → AreLiterals a → AreLiterals b → AreFormed (conjunction a b).value
conjunction-formed a b h g = each_to IsFormed (conjunction a b).value (conjunction-kept IsLiteral IsFormed formed-keeps a b (each_from IsLiteral a h) (each_from IsLiteral b g))

pub disjunction-formed : (a b : List (List Literal)) → AreFormed a → AreFormed b → AreFormed (disjunction a b).value
disjunction-formed a b h g = disjunction-kept (All IsFormed) a b h g

pub negation-formed : (d : List (List Literal)) → AreLiterals d → AreFormed (negation d).value
negation-formed d h = each_to IsFormed (negation d).value (negation-kept IsLiteral IsFormed formed-denies d (each_from IsLiteral d h))
