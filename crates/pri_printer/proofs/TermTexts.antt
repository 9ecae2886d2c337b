-- The text of a term in the pieces in which it is put.
use Rattle.std.proofs.Common.{◌≡◌, ℕ, Bool, true, false, cond, List, [], ◌∷◌, ◌++◌, map, refl, sym, ap, ◌∙◌, append_assoc, ℤ, pos}
use Rattle.std.specs.Prelude.{unsigned_abs, int_lt, codes}
use Rattle.std.specs.Ordering.{int_eq}
use Rattle.pri_printer.specs.Summands.{SignedSummand, monomial, constant, summands, times}
use Rattle.pri_printer.specs.Text.{added_texts, adding_text, later_text, summand_text, sum_text, term_text, exists_text}
use Rattle.linear_term.specs.Linear.{Linear}

added-append : (names : List (List ℕ)) (xs ys : List SignedSummand) → added_texts (map (later_text names) (xs ++ ys)) ≡ added_texts (map (later_text names) xs) ++ added_texts (map (later_text names) ys)
added-append names [] ys = refl
added-append names (x ∷ xs) ys =
    ap (λ z. adding_text x.0 ++ (summand_text names x.1 ++ z)) (added-append names xs ys)
    ∙ ap (λ z. adding_text x.0 ++ z) (sym (append_assoc (summand_text names x.1) (added_texts (map (later_text names) xs)) _))
    ∙ sym (append_assoc (adding_text x.0) (summand_text names x.1 ++ added_texts (map (later_text names) xs)) _)

minus_apart : (c : Bool) (text : List ℕ) → cond c (45 ∷ text) text ≡ cond c (45 ∷ []) [] ++ text
minus_apart true text = refl
minus_apart false text = refl

pub term_texts : (names : List (List ℕ)) (p : ℕ × ℤ) (ps : List (ℕ × ℤ)) (k : ℤ) → sum_text names (summands (p ∷ ps) k)
    ≡ cond (int_lt p.1 (pos 0)) (45 ∷ []) [] ++ (summand_text names (times (unsigned_abs p.1) p.0)
    ++ (added_texts (map (later_text names) (map monomial ps)) ++ added_texts (map (later_text names) (cond (int_eq k (pos 0)) [] (constant k ∷ [])))))
term_texts names p ps k =
    let text = summand_text names (times (unsigned_abs p.1) p.0) in
    let tail = cond (int_eq k (pos 0)) [] (constant k ∷ []) in
    ap (λ z. z ++ added_texts (map (later_text names) (map monomial ps ++ tail))) (minus_apart (int_lt p.1 (pos 0)) text)
    ∙ append_assoc (cond (int_lt p.1 (pos 0)) (45 ∷ []) []) text _
    ∙ ap (λ z. cond (int_lt p.1 (pos 0)) (45 ∷ []) [] ++ (text ++ z)) (added-append names (map monomial ps) tail)

pub joined_term : (names : List (List ℕ)) (t : Linear) (p : ℕ × ℤ) (ps : List (ℕ × ℤ)) (o a b d e : List ℕ) → t.pairs ≡ p ∷ ps
    → a ≡ o ++ cond (int_lt p.1 (pos 0)) (45 ∷ []) [] → b ≡ a ++ summand_text names (times (unsigned_abs p.1) p.0)
    → d ≡ b ++ added_texts (map (later_text names) (map monomial ps))
    → e ≡ d ++ added_texts (map (later_text names) (cond (int_eq t.constant (pos 0)) [] (constant t.constant ∷ [])))
    → e ≡ o ++ term_text names t
joined_term names t p ps o a b d e q f g h i =
    let w = cond (int_lt p.1 (pos 0)) (45 ∷ []) [] in
    let x = summand_text names (times (unsigned_abs p.1) p.0) in
    let y = added_texts (map (later_text names) (map monomial ps)) in
    let z = added_texts (map (later_text names) (cond (int_eq t.constant (pos 0)) [] (constant t.constant ∷ []))) in
    i ∙ ap (λ v. v ++ z) (h ∙ ap (λ v. v ++ y) (g ∙ ap (λ v. v ++ x) f)) ∙ four o w x y z
    ∙ ap (λ v. o ++ v) (sym (ap (λ v. sum_text names (summands v t.constant)) q ∙ term_texts names p ps t.constant))
  where
    four : (o w x y z : List ℕ) → (((o ++ w) ++ x) ++ y) ++ z ≡ o ++ (w ++ (x ++ (y ++ z)))
    four o w x y z = append_assoc ((o ++ w) ++ x) y z ∙ append_assoc (o ++ w) x (y ++ z) ∙ append_assoc o w (x ++ (y ++ z))

pub joined_divides : (o k t n a b d e f g h i : List ℕ) → a ≡ o ++ codes "\\exists int " → b ≡ a ++ k → d ≡ b ++ codes "; " → e ≡ d ++ t → f ≡ e ++ codes " = "
    → g ≡ f ++ n → h ≡ g ++ codes "*" → i ≡ h ++ k → i ≡ o ++ exists_text k (t ++ ((32 ∷ 61 ∷ 32 ∷ []) ++ (n ++ 42 ∷ k)))
joined_divides o k t n a b d e f g h i ea eb ed ee ef eg eh ei = rw (ei, eh, eg, ef, ee, ed, eb, ea) (simp append_assoc refl)
