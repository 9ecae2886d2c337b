-- Terms that are written in parts.
use Rattle.std.proofs.Common.{ℕ, ◌≡◌, ◌≢◌, ℤ, pos, Bool, true, false, ◌&&◌, cond, List, [], ◌∷◌, ◌++◌, length, map, refl, sym, ap, ◌∙◌, append_assoc, append-nil, arith}
use Rattle.std.specs.Prelude.{int_lt, unsigned_abs}
use Rattle.std.specs.Ordering.{int_eq}
use Rattle.std.specs.Fmt.{decimal}
use Rattle.linear_term.specs.Linear.{Linear}
use Rattle.clause_words.specs.Terms.{SignedPart, constant_parts, monomial_part, parts_text, part_text, sign_text, term_text}

-- parts after parts
parts_append : (first : Bool) (ss tt : List SignedPart) → (ss ≡ [] → ⊥) → parts_text first (ss ++ tt) ≡ parts_text first ss ++ parts_text false tt
parts_append first [] tt h = absurd (h refl)
parts_append first (s ∷ []) tt h = ap (λ z. sign_text first s.0 ++ (z ++ parts_text false tt)) (sym (append-nil (part_text s.1))) ∙ sym (append_assoc (sign_text first s.0) (part_text s.1 ++ []) (parts_text false tt))
parts_append first (s ∷ r ∷ ss) tt h =
    ap (λ z. sign_text first s.0 ++ (part_text s.1 ++ z)) (parts_append false (r ∷ ss) tt (λ e. cc))
    ∙ ap (λ z. sign_text first s.0 ++ z) (sym (append_assoc (part_text s.1) (parts_text false (r ∷ ss)) (parts_text false tt)))
    ∙ sym (append_assoc (sign_text first s.0) (part_text s.1 ++ parts_text false (r ∷ ss)) (parts_text false tt))

abbrev alone_text : Bool → ℤ → List ℕ
alone_text first k = sign_text first (int_lt k (pos 0)) ++ decimal (unsigned_abs k)

alone_by : (ps : List (ℕ × ℤ)) (k : ℤ) → length ps ≡ 0 → term_text (record { pairs = ps; constant = k }) ≡ alone_text true k
alone_by [] k h = by (int_eq k (pos 0))
  where
    by : (v : Bool) → parts_text true (cond (v && false) [] ((int_lt k (pos 0), Rattle.clause_words.specs.declared.terms.Part.TheVariants.Constant (unsigned_abs k)) ∷ [])) ≡ alone_text true k
    by true = ap (λ z. sign_text true (int_lt k (pos 0)) ++ z) (append-nil (decimal (unsigned_abs k)))
    by false = ap (λ z. sign_text true (int_lt k (pos 0)) ++ z) (append-nil (decimal (unsigned_abs k)))
alone_by (p ∷ ps) k h = absurd (omega arith)

more_by : (ps : List (ℕ × ℤ)) (k : ℤ) → length ps ≢ 0 → int_eq k (pos 0) ≡ false → term_text (record { pairs = ps; constant = k }) ≡ parts_text true (map monomial_part ps) ++ alone_text false k
more_by [] k h e = absurd (h refl)
more_by (p ∷ ps) k h e =
    parts_append true (map monomial_part (p ∷ ps)) (constant_parts false k) (λ e. cc)
    ∙ ap (λ v. parts_text true (map monomial_part (p ∷ ps)) ++ parts_text false (cond (v && true) [] ((int_lt k (pos 0), Rattle.clause_words.specs.declared.terms.Part.TheVariants.Constant (unsigned_abs k)) ∷ []))) e
    ∙ ap (λ z. parts_text true (map monomial_part (p ∷ ps)) ++ (sign_text false (int_lt k (pos 0)) ++ z)) (append-nil (decimal (unsigned_abs k)))

zero_by : (ps : List (ℕ × ℤ)) (k : ℤ) → length ps ≢ 0 → k ≡ pos 0 → term_text (record { pairs = ps; constant = k }) ≡ parts_text true (map monomial_part ps)
zero_by [] k h e = absurd (h refl)
zero_by (p ∷ ps) k h e = ap (λ z. term_text (record { pairs = p ∷ ps; constant = z })) e ∙ ap (parts_text true) (append-nil (map monomial_part (p ∷ ps)))

-- a constant alone
pub term_alone : (s : Linear) (old mid out : List ℕ) → length s.pairs ≡ 0 → mid ≡ old ++ parts_text true (map monomial_part s.pairs) → out ≡ mid ++ alone_text true s.constant → out ≡ old ++ term_text s
term_alone s old mid out h e q = by s.pairs h e
  where
    by : (ps : List (ℕ × ℤ)) → length ps ≡ 0 → mid ≡ old ++ parts_text true (map monomial_part ps) → out ≡ old ++ term_text (record { pairs = ps; constant = s.constant })
    by [] h e = q ∙ ap (λ z. z ++ alone_text true s.constant) (e ∙ append-nil old) ∙ ap (λ z. old ++ z) (sym (alone_by [] s.constant refl))
    by (p ∷ ps) h e = absurd (omega arith)

-- a constant after monomials
pub term_more : (s : Linear) (old mid out : List ℕ) → length s.pairs ≢ 0 → int_eq s.constant (pos 0) ≡ false → mid ≡ old ++ parts_text true (map monomial_part s.pairs) → out ≡ mid ++ alone_text false s.constant → out ≡ old ++ term_text s
term_more s old mid out h k e q =
    q ∙ ap (λ z. z ++ alone_text false s.constant) e ∙ append_assoc old (parts_text true (map monomial_part s.pairs)) (alone_text false s.constant)
    ∙ ap (λ z. old ++ z) (sym (more_by s.pairs s.constant h k))

-- no constant
pub term_zero : (s : Linear) (old out : List ℕ) → length s.pairs ≢ 0 → s.constant ≡ pos 0 → out ≡ old ++ parts_text true (map monomial_part s.pairs) → out ≡ old ++ term_text s
term_zero s old out h k e = e ∙ ap (λ z. old ++ z) (sym (zero_by s.pairs s.constant h k))
