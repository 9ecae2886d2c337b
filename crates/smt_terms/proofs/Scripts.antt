-- A check's formula is true exactly where its assertions are not all true.
use Rattle.std.proofs.Common.{◌≡◌, ◌↔◌, ◌≤◌, ℕ, zero, suc, ◌+◌, ℤ, List, [], ◌∷◌, ◌++◌, map, length, All, sym, subst, arith, length-append}
use Rattle.std.proofs.lemmas.List.Elements.{All-nil, All-cons, All-head, All-tail}
use Rattle.form_typed.specs.Formula.{formulas}
use Rattle.form_typed.specs.Truth.{Meaning, Truth, AreAllTrue}
use Rattle.form_typed.proofs.Stability.{all_true_stable}
use Rattle.smt_terms.specs.declared.operator.Sort.{Sort}
use Rattle.smt_terms.specs.declared.operator.Sort.TheVariants as sort
use Rattle.smt_terms.specs.Evaluation.{Globals, Meant, constant_of, function_of, predicate_of, defined_by, IsTrue}
use Rattle.smt_terms.specs.Translation.{asserted}
use Rattle.smt_terms.specs.Meaning.{IsConstantBelow, AreConstantsBelow}
use Rattle.smt_terms.specs.Scripts.{Command, declare, define, claim, check, Claim, State, start, after, after_declaration, checks_from, checks, IsSatisfied, claims_said, refutation, CheckLaw}
use Rattle.smt_terms.proofs.Symbols.{truth_law}

-- all numbers of constants are below those of the state
pub record IsNumbered (s : State) : Type 0 where
  pub globals : AreConstantsBelow (length s.constants) s.globals
  pub claims : All (λ c. AreConstantsBelow (length s.constants) c.globals) s.claims

below_more : (n m : ℕ) → n ≤ m → (g : Meant) → IsConstantBelow n g → IsConstantBelow m g
below_more n m le (constant_of k) h = omega (arith, h)
below_more n m le (function_of k) h = tt
below_more n m le (predicate_of k) h = tt
below_more n m le (defined_by xs t) h = tt

all_below_more : (n m : ℕ) → n ≤ m → (gs : Globals) → AreConstantsBelow n gs → AreConstantsBelow m gs
all_below_more n m le [] h = tt
all_below_more n m le (g ∷ gs) h = (below_more n m le g.1 h.0, all_below_more n m le gs h.1)

claims_more : (n m : ℕ) → n ≤ m → (cs : List Claim) → All (λ c. AreConstantsBelow n c.globals) cs → All (λ c. AreConstantsBelow m c.globals) cs
claims_more n m le [] h = All-nil (λ c. AreConstantsBelow m c.globals)
claims_more n m le (c ∷ cs) h =
    All-cons (λ c. AreConstantsBelow m c.globals) c cs (all_below_more n m le c.globals (All-head (λ c. AreConstantsBelow n c.globals) c cs h))
    (claims_more n m le cs (All-tail (λ c. AreConstantsBelow n c.globals) c cs h))

behind : (P : Claim → Type 0) (cs : List Claim) (c : Claim) → All P cs → P c → All P (cs ++ c ∷ [])
behind P [] c h k = All-cons P c [] k (All-nil P)
behind P (d ∷ cs) c h k = All-cons P d (cs ++ c ∷ []) (All-head P d cs h) (behind P cs c (All-tail P d cs h) k)

numbered_declaration : (s : State) (x : List ℕ) (n : ℕ) (k : Sort) → IsNumbered s → IsNumbered (after_declaration s x n k)
numbered_declaration s x zero sort.Int h =
    let longer : length (s.constants ++ x ∷ []) ≡ length s.constants + 1 = length-append s.constants (x ∷ []) in record {
      globals = (omega arith, all_below_more (length s.constants) (length (s.constants ++ x ∷ [])) (omega arith) s.globals h.globals);
      claims = claims_more (length s.constants) (length (s.constants ++ x ∷ [])) (omega arith) s.claims h.claims;
    }
numbered_declaration s x (suc n) sort.Int h = record { globals = (tt, h.globals); claims = h.claims }
numbered_declaration s x zero sort.Bool h = record { globals = (tt, h.globals); claims = h.claims }
numbered_declaration s x (suc n) sort.Bool h = record { globals = (tt, h.globals); claims = h.claims }

numbered : (s : State) (c : Command) → IsNumbered s → IsNumbered (after s c)
numbered s (declare x n k) h = numbered_declaration s x n k h
numbered s (define x xs k t) h = record { globals = (tt, h.globals); claims = h.claims }
numbered s (claim t) h = record { globals = h.globals; claims = behind (λ c. AreConstantsBelow (length s.constants) c.globals) s.claims _ h.claims h.globals }
numbered s check h = h

pub numbered_checks : (s : State) (cs : List Command) → IsNumbered s → All IsNumbered (checks_from s cs)
numbered_checks s [] h = All-nil IsNumbered
numbered_checks s (declare x n k ∷ cs) h = numbered_checks (after s (declare x n k)) cs (numbered s (declare x n k) h)
numbered_checks s (define x xs k t ∷ cs) h = numbered_checks (after s (define x xs k t)) cs (numbered s (define x xs k t) h)
numbered_checks s (claim t ∷ cs) h = numbered_checks (after s (claim t)) cs (numbered s (claim t) h)
numbered_checks s (check ∷ cs) h = All-cons IsNumbered s (checks_from s cs) h (numbered_checks s cs h)

pub numbered_start : IsNumbered start
numbered_start = record { globals = tt; claims = All-nil (λ (c : Claim). AreConstantsBelow 0 c.globals) }

-- the assertions become formulas that are true where they are
claims_are : (w : Meaning) (u : List ℤ) (n : ℕ) → length u ≡ n → (cs : List Claim) → All (λ c. AreConstantsBelow n c.globals) cs
    → AreAllTrue w (formulas (map (λ c. asserted c.globals n c.term) cs)) u ↔ All (λ c. IsTrue w u c.globals c.term) cs
claims_are w u n l [] h = (λ _. All-nil (λ (c : Claim). IsTrue w u c.globals c.term), λ _. tt)
claims_are w u n l (c ∷ cs) h =
    let P : Claim → Type 0 = λ d. IsTrue w u d.globals d.term in
    let below : AreConstantsBelow (length u) c.globals = subst (λ m. AreConstantsBelow m c.globals) (sym l) (All-head (λ d. AreConstantsBelow n d.globals) c cs h) in
    let first = truth_law w u c.globals c.term below in
    let here : Truth w (asserted c.globals n c.term) u ↔ IsTrue w u c.globals c.term = subst (λ m. Truth w (asserted c.globals m c.term) u ↔ IsTrue w u c.globals c.term) l first in
    let rest = claims_are w u n l cs (All-tail (λ d. AreConstantsBelow n d.globals) c cs h) in
    (λ k. All-cons P c cs (here.0 k.0) (rest.0 k.1), λ k. (here.1 (All-head P c cs k), rest.1 (All-tail P c cs k)))

-- the formula of a check is true exactly where its assertions are not satisfied
pub refutation_is : (s : State) → IsNumbered s → (w : Meaning) (u : List ℤ) → length u ≡ length s.constants → Truth w (refutation s) u ↔ ¬ (IsSatisfied w u s)
refutation_is s h w u l =
    let is = claims_are w u (length s.constants) l s.claims h.claims in
    (λ t k. t (is.1 k), λ n k. n (is.0 k))

-- and where it is false they are satisfied
pub satisfied_where_false : (s : State) → IsNumbered s → (w : Meaning) (u : List ℤ) → length u ≡ length s.constants → ¬ (Truth w (refutation s) u) → IsSatisfied w u s
satisfied_where_false s h w u l n = (claims_are w u (length s.constants) l s.claims h.claims).0 (all_true_stable w (formulas (claims_said s)) u n)

check_law : (s : State) → IsNumbered s → CheckLaw s
check_law s h = record {
  true_where = refutation_is s h;
  false_where = λ w u l. (satisfied_where_false s h w u l, λ k t. (refutation_is s h w u l).0 t k);
}

all_laws : (ss : List State) → All IsNumbered ss → All CheckLaw ss
all_laws [] h = All-nil CheckLaw
all_laws (s ∷ ss) h = All-cons CheckLaw s ss (check_law s (All-head IsNumbered s ss h)) (all_laws ss (All-tail IsNumbered s ss h))

pub checks_law : (cs : List Command) → All CheckLaw (checks cs)
checks_law cs = all_laws (checks cs) (numbered_checks start cs numbered_start)
