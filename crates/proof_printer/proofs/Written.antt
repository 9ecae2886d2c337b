-- Texts that are written in parts.
use Rattle.std.proofs.Common.{ℕ, ◌≡◌, ◌≢◌, ℤ, pos, Bool, true, false, cond, List, [], ◌∷◌, ◌++◌, length, Some, refl, sym, ap, ◌∙◌, append_assoc, append-nil, arith}
use Rattle.std.specs.Prelude.{codes, unsigned_abs}
use Rattle.std.specs.Ordering.{int_eq}
use Rattle.std.specs.Fmt.{decimal}
use Rattle.std.proofs.lemmas.Fmt.{decimal_digit}
use Rattle.std.proofs.lemmas.Grind.{flat_map-append}
use Rattle.linear_term.specs.Linear.{Linear}
use Rattle.clause_set.specs.declared.literal.Literal.{Literal}
use Rattle.clause_set.specs.declared.literal.Literal.TheVariants as l
use Rattle.proof_tokens.specs.declared.tokens.Token.{Token}
use Rattle.proof_tokens.specs.declared.tokens.Token.TheVariants as t
use Rattle.proof_tokens.specs.Spellings.{spelling, spelled}
use Rattle.proof_constraint.specs.Text.{behind, number_text, pairs_text, constant_text, sum_text, relation_text, zero_text, divisor_text, literal_text, clause_text, dnf_text, gives_text}

pub spelled_append : (xs ys : List Token) → spelled (xs ++ ys) ≡ spelled xs ++ spelled ys
spelled_append = flat_map-append spelling

-- two parts
pub joined : (old out : List ℕ) (xs ys : List Token) → out ≡ (old ++ spelled xs) ++ spelled ys → out ≡ old ++ spelled (xs ++ ys)
joined old out xs ys e = e ∙ append_assoc old (spelled xs) (spelled ys) ∙ ap (λ z. old ++ z) (sym (spelled_append xs ys))

sum_by : (ps : List (ℕ × ℤ)) (k : ℤ) (tail : List Token) (old out : List ℕ) → constant_text ps k ≡ tail → out ≡ (old ++ spelled (pairs_text true ps)) ++ spelled tail → out ≡ old ++ spelled (sum_text (record { pairs = ps; constant = k }))
sum_by ps k tail old out e h = joined old out (pairs_text true ps) (constant_text ps k) (h ∙ ap (λ z. (old ++ spelled (pairs_text true ps)) ++ spelled z) (sym e))

alone_by : (ps : List (ℕ × ℤ)) (k : ℤ) → length ps ≡ 0 → constant_text ps k ≡ number_text true k
alone_by [] k h = refl
alone_by (p ∷ ps) k h = absurd (omega arith)

more_by : (ps : List (ℕ × ℤ)) (k : ℤ) → length ps ≢ 0 → int_eq k (pos 0) ≡ false → constant_text ps k ≡ number_text false k
more_by [] k h e = absurd (h refl)
more_by (p ∷ ps) k h e = ap (λ b. cond b [] (number_text false k)) e

zero_by : (ps : List (ℕ × ℤ)) (k : ℤ) → length ps ≢ 0 → k ≡ pos 0 → constant_text ps k ≡ []
zero_by [] k h e = absurd (h refl)
zero_by (p ∷ ps) k h e = ap (λ z. constant_text (p ∷ ps) z) e

-- a constant alone
pub sum_alone : (s : Linear) (old mid out : List ℕ) → length s.pairs ≡ 0 → mid ≡ old ++ spelled (pairs_text true s.pairs) → out ≡ mid ++ spelled (number_text true s.constant) → out ≡ old ++ spelled (sum_text s)
sum_alone s old mid out h e q = sum_by s.pairs s.constant (number_text true s.constant) old out (alone_by s.pairs s.constant h) (q ∙ ap (λ z. z ++ spelled (number_text true s.constant)) e)

-- a constant after monomials
pub sum_more : (s : Linear) (old mid out : List ℕ) → length s.pairs ≢ 0 → int_eq s.constant (pos 0) ≡ false → mid ≡ old ++ spelled (pairs_text true s.pairs) → out ≡ mid ++ spelled (number_text false s.constant) → out ≡ old ++ spelled (sum_text s)
sum_more s old mid out h k e q = sum_by s.pairs s.constant (number_text false s.constant) old out (more_by s.pairs s.constant h k) (q ∙ ap (λ z. z ++ spelled (number_text false s.constant)) e)

-- no constant
pub sum_zero : (s : Linear) (old out : List ℕ) → length s.pairs ≢ 0 → s.constant ≡ pos 0 → out ≡ old ++ spelled (pairs_text true s.pairs) → out ≡ old ++ spelled (sum_text s)
sum_zero s old out h k e = sum_by s.pairs s.constant [] old out (zero_by s.pairs s.constant h k) (e ∙ sym (append-nil (old ++ spelled (pairs_text true s.pairs))))

compared_by : (s : Linear) (bound : Bool) (tail old mid out : List ℕ) → tail ≡ spelled (relation_text bound) ++ spelled zero_text → mid ≡ old ++ spelled (sum_text s) → out ≡ mid ++ tail → out ≡ old ++ spelled (sum_text s ++ relation_text bound ++ zero_text)
compared_by s bound tail old mid out is e q =
    q ∙ ap (λ z. z ++ tail) e ∙ ap (λ z. (old ++ spelled (sum_text s)) ++ z) is
    ∙ append_assoc old (spelled (sum_text s)) (spelled (relation_text bound) ++ spelled zero_text)
    ∙ ap (λ z. old ++ z) (sym (append_assoc (spelled (sum_text s)) (spelled (relation_text bound)) (spelled zero_text))
    ∙ ap (λ z. z ++ spelled zero_text) (sym (spelled_append (sum_text s) (relation_text bound))) ∙ sym (spelled_append (sum_text s ++ relation_text bound) zero_text))

zero_behind : (relation : List ℕ) → relation ++ codes " 0" ≡ relation ++ spelled zero_text
zero_behind relation = ap (λ z. relation ++ (codes " " ++ z)) (sym (decimal_digit 0 (omega arith)) ∙ sym (append-nil (decimal 0)))

pub equation_written : (s : Linear) (old mid out : List ℕ) → mid ≡ old ++ spelled (sum_text s) → out ≡ mid ++ codes " = 0" → out ≡ old ++ spelled (literal_text (l.Eq s))
equation_written s old mid out e q = compared_by s false (codes " = 0") old mid out (zero_behind (codes " =")) e q

pub bound_written : (s : Linear) (old mid out : List ℕ) → mid ≡ old ++ spelled (sum_text s) → out ≡ mid ++ codes " >= 0" → out ≡ old ++ spelled (literal_text (l.Geq s))
bound_written s old mid out e q = compared_by s true (codes " >= 0") old mid out (zero_behind (codes " >=")) e q

divisor_by : (d : ℤ) (negated : Bool) → codes " " ++ (decimal (unsigned_abs d) ++ cond negated (codes " notdivides") (codes " divides")) ≡ spelled (divisor_text (Some (record { size = d; negated = negated })))
divisor_by d true = refl
divisor_by d false = refl

-- a divisor with its word
pub divisor_written : (d : ℤ) (negated : Bool) (old first word out : List ℕ) → first ≡ old ++ (codes " " ++ decimal (unsigned_abs d)) → word ≡ cond negated (codes " notdivides") (codes " divides") → out ≡ first ++ word
    → out ≡ old ++ spelled (divisor_text (Some (record { size = d; negated = negated })))
divisor_written d negated old first word out e w q =
    q ∙ ap (λ z. first ++ z) w ∙ ap (λ z. z ++ cond negated (codes " notdivides") (codes " divides")) e
    ∙ append_assoc old (codes " " ++ decimal (unsigned_abs d)) (cond negated (codes " notdivides") (codes " divides"))
    ∙ ap (λ z. old ++ z) (append_assoc (codes " ") (decimal (unsigned_abs d)) (cond negated (codes " notdivides") (codes " divides")) ∙ divisor_by d negated)

pub div_written : (d : ℤ) (s : Linear) (old mid out : List ℕ) → mid ≡ old ++ spelled (divisor_text (Some (record { size = d; negated = false }))) → out ≡ mid ++ spelled (sum_text s) → out ≡ old ++ spelled (literal_text (l.Div d s))
div_written d s old mid out e q = joined old out (divisor_text (Some (record { size = d; negated = false }))) (sum_text s) (q ∙ ap (λ z. z ++ spelled (sum_text s)) e)

pub ndiv_written : (d : ℤ) (s : Linear) (old mid out : List ℕ) → mid ≡ old ++ spelled (divisor_text (Some (record { size = d; negated = true }))) → out ≡ mid ++ spelled (sum_text s) → out ≡ old ++ spelled (literal_text (l.NDiv d s))
ndiv_written d s old mid out e q = joined old out (divisor_text (Some (record { size = d; negated = true }))) (sum_text s) (q ∙ ap (λ z. z ++ spelled (sum_text s)) e)

-- one literal more, and one clause more
pub literal_behind : (x : Literal) (xs : List Literal) (old first mid out all : List ℕ) → first ≡ old ++ codes " &" → mid ≡ first ++ spelled (literal_text x) → out ≡ mid ++ spelled (behind literal_text t.And xs) → out ≡ old ++ spelled (behind literal_text t.And (x ∷ xs))
literal_behind x xs old first mid out all e q r =
    r ∙ ap (λ z. z ++ spelled (behind literal_text t.And xs)) (q ∙ ap (λ z. z ++ spelled (literal_text x)) e)
    ∙ ap (λ z. z ++ spelled (behind literal_text t.And xs)) (append_assoc old (codes " &") (spelled (literal_text x)))
    ∙ append_assoc old (codes " &" ++ spelled (literal_text x)) (spelled (behind literal_text t.And xs))
    ∙ ap (λ z. old ++ (codes " &" ++ z)) (sym (spelled_append (literal_text x) (behind literal_text t.And xs)))

pub clause_whole : (x : Literal) (xs : List Literal) (old mid out : List ℕ) → mid ≡ old ++ spelled (literal_text x) → out ≡ mid ++ spelled (behind literal_text t.And xs) → out ≡ old ++ spelled (clause_text (x ∷ xs))
clause_whole x xs old mid out e q = joined old out (literal_text x) (behind literal_text t.And xs) (q ∙ ap (λ z. z ++ spelled (behind literal_text t.And xs)) e)

pub dnf_whole : (x : List Literal) (xs : List (List Literal)) (old mid out : List ℕ) → mid ≡ old ++ spelled (clause_text x) → out ≡ mid ++ spelled (behind clause_text t.Or xs) → out ≡ old ++ spelled (dnf_text (x ∷ xs))
dnf_whole x xs old mid out e q = joined old out (clause_text x) (behind clause_text t.Or xs) (q ∙ ap (λ z. z ++ spelled (behind clause_text t.Or xs)) e)

pub line_whole : (d : List (List Literal)) (old first mid out : List ℕ) → first ≡ old ++ codes "gives" → mid ≡ first ++ spelled (dnf_text d) → out ≡ mid ++ codes "\n" → out ≡ old ++ spelled (gives_text d)
line_whole d old first mid out e q r =
    r ∙ ap (λ z. z ++ codes "\n") (q ∙ ap (λ z. z ++ spelled (dnf_text d)) e)
    ∙ ap (λ z. z ++ codes "\n") (append_assoc old (codes "gives") (spelled (dnf_text d))) ∙ append_assoc old (codes "gives" ++ spelled (dnf_text d)) (codes "\n")
    ∙ ap (λ z. old ++ (codes "gives" ++ z)) (sym (spelled_append (dnf_text d) (t.LineFeed ∷ [])))
