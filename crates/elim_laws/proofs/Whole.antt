-- Elimination of all quantifiers is exact.
use Rattle.std.proofs.Common.{◌≡◌, ◌↔◌, ◌<◌, ℕ, zero, suc, ℤ, pos, ◌≤ℤ◌, int_le, Bool, true, false, not, ◌&&◌, ◌||◌, List, [], ◌∷◌, ◌++◌, length, ◌⊎◌, inl, inr, refl, sym, ◌∙◌, ap, subst, arith}
use Rattle.std.specs.Ordering.{int_eq}
use Rattle.std.proofs.lemmas.Int.{ints}
use Rattle.std.proofs.lemmas.Bool.Decides.{Decides-int_eq}
use Rattle.std.proofs.lemmas.List.{length-append}
use Rattle.base_integers.specs.Entry.{put}
use Rattle.base_integers.proofs.Entries.{put-length}
use Rattle.linear_term.specs.Linear.{Linear, IsReduced, value_of}
use Rattle.base_budget.specs.Trace.{Traced, just, step, next}
use Rattle.clause_set.specs.declared.literal.Literal.{Literal}
use Rattle.clause_set.specs.declared.literal.Literal.TheVariants.{Eq, Geq}
use Rattle.clause_set.specs.Literals.{dnf_truth, literal_truth, IsLiteral}
use Rattle.clause_set.specs.Clauses.{clauses_of}
use Rattle.clause_set.specs.Dnfs.{negated_literal, conjunction, disjunction, negation, tidied, top}
use Rattle.clause_set.proofs.Covers.{tidied-truth}
use Rattle.clause_set.proofs.Negations.{alone, negated_literal-truth}
use Rattle.clause_set.proofs.Operations.{and-truth, or-truth, clauses_of-truth}
use Rattle.clause_set.proofs.Reduced.{negation-truth}
use Rattle.elim_laws.specs.Elimination.{exists_name, Reflects, IsOut}
use Rattle.formula.specs.Form as tree
use Rattle.formula.specs.Form.{Form, Forms}
use Rattle.formula.specs.Sizes.{depth, depths}
use Rattle.elim_laws.specs.Presburger.{IsPresburgerTrue, AreTrueForms, AreFalseForms, IsPresburger, ArePresburger}
use Rattle.formula.specs.Duals.{dual}
use Rattle.elim_laws.specs.Whole.{all_of, any_of, eliminated, eliminating, Expresses, IsExact}
use Rattle.clause_set.proofs.Shapes.{clauses_of-formed, conjunction-formed, disjunction-formed, negation-formed}
use Rattle.clause_set.proofs.Kept.{tidied-kept}
use Rattle.elim_laws.proofs.Forms.{formed-literals, negated_literal-formed, top-formed}
use Rattle.form_typed.specs.Truth.{Meaning}
use Rattle.formula.specs.Form.{FormTruth}
use Rattle.formula.proofs.Anywhere.{truth_anywhere}
use Rattle.elim_laws.specs.Presburger.{plain}
use Rattle.elim_laws.proofs.Duals.{presburger-pure, stable, dual_false, dual_true, dual-proper, dual-depth}
use Rattle.elim_laws.proofs.Taking.{exists_name-out}

-- ---- what a test tells
pub tells_map : {b : Bool} {P Q : Type 0} → (P → Q) → (Q → P) → Reflects b P → Reflects b Q
tells_map f g t = record { yes = λ h. f (t.yes h); no = λ h q. t.no h (g q) }

tells_same : {P : Type 0} (a b : Bool) → b ≡ a → Reflects a P → Reflects b P
tells_same {P} a b e t = subst (λ c. Reflects c P) (sym e) t

tells_not : {b : Bool} {P : Type 0} → Reflects b P → Reflects (not b) (¬ P)
tells_not {b = true} t = record { yes = λ h. absurd (cc); no = λ h n. n (t.yes refl) }
tells_not {b = false} t = record { yes = λ h. t.no refl; no = λ h. absurd (cc) }

tells_both : {a b : Bool} {P Q : Type 0} → Reflects a P → Reflects b Q → Reflects (a && b) (P × Q)
tells_both {a = true} s t = record { yes = λ h. (s.yes refl, t.yes h); no = λ h k. t.no h k.1 }
tells_both {a = false} s t = record { yes = λ h. absurd (cc); no = λ h k. s.no refl k.0 }

tells_either : {a b : Bool} {N P : Type 0} → Reflects a (¬ N) → Reflects b P → Reflects (a || b) (¬ (N × (¬ P)))
tells_either {a = true} s t = record { yes = λ h k. s.yes refl k.0; no = λ h. absurd (cc) }
tells_either {a = false} s t = record { yes = λ h k. k.1 (t.yes h); no = λ h k. s.no refl (λ n. k (n, t.no h)) }

-- ---- atoms
pub atom_expresses : (l : Literal) (n : ℕ) (P : List ℤ → Type 0) → IsLiteral l → ((e : List ℤ) → Reflects (literal_truth l e) (P e)) → Expresses (clauses_of ((l ∷ []) ∷ [])) n P
atom_expresses l n P h t = record {
  formed = clauses_of-formed ((l ∷ []) ∷ []) (alone l h, tt);
  tells = λ e _. tells_same _ _ (clauses_of-truth ((l ∷ []) ∷ []) e (alone l h, tt) ∙ single (literal_truth l e)) (t e);
}
  where
    single : (b : Bool) → ((b && true) || false) ≡ b
    single true = refl
    single false = refl

pub zero_tells : (v : ℤ) → Reflects (int_eq v (pos 0)) (v ≡ pos 0)
zero_tells v = record { yes = λ h. (Decides-int_eq v (pos 0)).0 h; no = λ h z. let t = (Decides-int_eq v (pos 0)).1 z in absurd (cc) }

pub bound_tells : (v : ℤ) → Reflects (int_le (pos 0) v) (pos 0 ≤ℤ v)
bound_tells v = record { yes = λ h. grind (arith, ints); no = λ h z. grind (arith, ints) }

pub sides_expresses : (t : Linear) (n : ℕ) → IsReduced t → Expresses (tidied (negated_literal (Eq t)).value) n (λ e. ¬ (value_of t e ≡ pos 0))
sides_expresses t n h =
    let l : IsLiteral (Eq t) = record { term = h; divisor = tt } in record {
      formed = tidied-kept _ _ (negated_literal-formed (Eq t) l);
      tells = λ e _. tells_same _ _ (tidied-truth (negated_literal (Eq t)).value e ∙ negated_literal-truth (Eq t) e l) (tells_not (zero_tells (value_of t e)));
    }

-- ---- members
abbrev EachSays : (Form → Traced (List (List Literal))) → ℕ → Forms → Type 0
EachSays f n tree.no_form = Unit {0}
EachSays f n (tree.and_form g gs) = Expresses (f g).value n (IsPresburgerTrue g) × EachSays f n gs

pub and_expresses : (d c : List (List Literal)) (n : ℕ) (P Q : List ℤ → Type 0) → Expresses d n P → Expresses c n Q → Expresses (conjunction d c).value n (λ e. P e × Q e)
and_expresses d c n P Q s t = record {
  formed = conjunction-formed d c (formed-literals d s.formed) (formed-literals c t.formed);
  tells = λ e l. tells_same _ _ (and-truth d c e (formed-literals d s.formed) (formed-literals c t.formed)) (tells_both (s.tells e l) (t.tells e l));
}

pub or_expresses : (d c : List (List Literal)) (n : ℕ) (N P : List ℤ → Type 0) → Expresses d n (λ e. ¬ (N e)) → Expresses c n P → Expresses (disjunction d c).value n (λ e. ¬ (N e × (¬ (P e))))
or_expresses d c n N P s t = record {
  formed = disjunction-formed d c s.formed t.formed;
  tells = λ e l. tells_same _ _ (or-truth d c e) (tells_either (s.tells e l) (t.tells e l));
}

pub top_expresses : (n : ℕ) → Expresses top n (λ e. Unit {0})
top_expresses n = record { formed = top-formed; tells = λ e _. record { yes = λ h. tt; no = λ h. absurd (cc) } }

pub bottom_expresses : (n : ℕ) → Expresses [] n (λ e. ¬ (Unit {0}))
bottom_expresses n = record { formed = tt; tells = λ e _. record { yes = λ h. absurd (cc); no = λ h k. k tt } }

module _ (f : Form → Traced (List (List Literal))) (n : ℕ) where
  all_expresses : (gs : Forms) (d : List (List Literal)) (P : List ℤ → Type 0) → EachSays f n gs → Expresses d n P → Expresses (all_of f gs d).value n (λ e. P e × AreTrueForms gs e)
  unfolding next just
  all_expresses tree.no_form d P h s = record { formed = s.formed; tells = λ e l. tells_map (λ p. (p, tt)) (λ p. p.0) (s.tells e l) }
  all_expresses (tree.and_form g gs) d P h s =
      let all = all_expresses gs (conjunction d (f g).value).value (λ e. P e × IsPresburgerTrue g e) h.1 (and_expresses d (f g).value n P (IsPresburgerTrue g) s h.0) in
      record { formed = all.formed; tells = λ e l. tells_map (λ p. (p.0.0, (p.0.1, p.1))) (λ p. ((p.0, p.1.0), p.1.1)) (all.tells e l) }

  any_expresses : (gs : Forms) (d : List (List Literal)) (N : List ℤ → Type 0) → EachSays f n gs → Expresses d n (λ e. ¬ (N e)) → Expresses (any_of f gs d).value n (λ e. ¬ (N e × AreFalseForms gs e))
  unfolding next just
  any_expresses tree.no_form d N h s = record { formed = s.formed; tells = λ e l. tells_map (λ p q. p q.0) (λ p q. p (q, tt)) (s.tells e l) }
  any_expresses (tree.and_form g gs) d N h s =
      let all = any_expresses gs (disjunction d (f g).value).value (λ e. N e × (¬ (IsPresburgerTrue g e))) h.1 (or_expresses d (f g).value n N (IsPresburgerTrue g) s h.0) in
      record { formed = all.formed; tells = λ e l. tells_map (λ p q. p ((q.0, q.1.0), q.1.1)) (λ p q. p (q.0.0, (q.0.1, q.1))) (all.tells e l) }

-- ---- quantifiers
pub one_more : (e : List ℤ) (v : ℤ) (n : ℕ) → length e ≡ n → length (e ++ v ∷ []) ≡ suc n
one_more e v n l = length-append e (v ∷ []) ∙ omega (arith, l)

pub at_end : (e : List ℤ) (v : ℤ) (n : ℕ) → length e ≡ n → put e n v ≡ e ++ v ∷ []
at_end e v n l = ap (λ k. put e k v) (sym l) ∙ put-length e v

pub some_value : (f : Form) (n : ℕ) (d r : List (List Literal)) → IsExact d f (suc n) → IsOut n d r → IsExact r (tree.existential f) n
some_value f n d r s o = record {
  formed = o.formed;
  tells = λ e l. record {
    yes = λ h k. let m = o.back e h in k m.0 ((s.tells (e ++ m.0 ∷ []) (one_more e m.0 n l)).yes (sym (ap (dnf_truth d) (at_end e m.0 n l)) ∙ m.1));
    no = λ h t. t (λ v g. by e v l h g (dnf_truth d (e ++ v ∷ [])) refl);
  };
}
  where
    by : (e : List ℤ) (v : ℤ) → length e ≡ n → dnf_truth r e ≡ false → IsPresburgerTrue f (e ++ v ∷ []) → (b : Bool) → dnf_truth d (e ++ v ∷ []) ≡ b → ⊥
    by e v l h g true is = let t = o.kept e (v, ap (dnf_truth d) (at_end e v n l) ∙ is) in absurd (cc)
    by e v l h g false is = (s.tells (e ++ v ∷ []) (one_more e v n l)).no is g

pub every_value : (f : Form) (n : ℕ) (r : List (List Literal)) → IsPresburger f → IsExact r (tree.existential (dual f).value) n → IsExact (negation r).value (tree.universal f) n
unfolding next just
every_value f n r p s = record {
  formed = negation-formed r (formed-literals r s.formed);
  tells = λ e l. tells_same _ _ (negation-truth r e (formed-literals r s.formed))
      (tells_map (λ (h : ¬ (IsPresburgerTrue (tree.existential (dual f).value) e)). stable (tree.universal f) e (λ k. h (dual_true (tree.universal f) e p k))) (λ h k. dual_false (tree.universal f) e p k h) (tells_not (s.tells e l)));
}

-- ---- all formulas
each_below : (m n : ℕ) (f : Form → Traced (List (List Literal))) → ((g : Form) → depth g < m → IsPresburger g → IsExact (f g).value g n) → (gs : Forms) → depths gs < m → ArePresburger gs → EachSays f n gs
each_below m n f h tree.no_form lt p = tt
each_below m n f h (tree.and_form g gs) lt p = (h g (omega (arith, lt)) p.0, each_below m n f h gs (omega (arith, lt)) p.1)

pub eliminated-exact : (m n : ℕ) (f : Form) → depth f < m → IsPresburger f → IsExact (eliminated m n f).value f n
unfolding next just step
eliminated-exact zero n f lt p = absurd (omega (arith, lt))
eliminated-exact (suc m) n (tree.equal t) lt p = atom_expresses (Eq t) n _ (record { term = p; divisor = tt }) (λ e. zero_tells (value_of t e))
eliminated-exact (suc m) n (tree.at_least t) lt p = atom_expresses (Geq t) n _ (record { term = p; divisor = tt }) (λ e. bound_tells (value_of t e))
eliminated-exact (suc m) n (tree.unequal t) lt p = sides_expresses t n p
eliminated-exact (suc m) n (tree.holds q ts) lt p = absurd p
eliminated-exact (suc m) n (tree.fails q ts) lt p = absurd p
eliminated-exact (suc m) n (tree.differs q ts u) lt p = absurd p
eliminated-exact (suc m) n (tree.conjunction fs) lt p =
    let all = all_expresses (eliminated m n) n fs top (λ e. Unit {0}) (each_below m n (eliminated m n) (eliminated-exact m n) fs (omega (arith, lt)) p) (top_expresses n) in
    record { formed = all.formed; tells = λ e l. tells_map (λ q. q.1) (λ q. (tt, q)) (all.tells e l) }
eliminated-exact (suc m) n (tree.disjunction fs) lt p =
    let all = any_expresses (eliminated m n) n fs [] (λ e. Unit {0}) (each_below m n (eliminated m n) (eliminated-exact m n) fs (omega (arith, lt)) p) (bottom_expresses n) in
    record { formed = all.formed; tells = λ e l. tells_map (λ q r. q (tt, r)) (λ q r. q r.1) (all.tells e l) }
eliminated-exact (suc m) n (tree.existential f) lt p =
    let s = eliminated-exact m (suc n) f (omega (arith, lt)) p in
    some_value f n (eliminated m (suc n) f).value _ s (exists_name-out n (eliminated m (suc n) f).value s.formed)
eliminated-exact (suc m) n (tree.universal f) lt p =
    let s = eliminated-exact m (suc n) (dual f).value (omega (arith, lt, dual-depth f)) (dual-proper f p) in
    every_value f n _ p (some_value (dual f).value n (eliminated m (suc n) (dual f).value).value _ s (exists_name-out n (eliminated m (suc n) (dual f).value).value s.formed))

pub eliminating-exact : (n : ℕ) (f : Form) → IsPresburger f → IsExact (eliminating n f).value f n
unfolding eliminating
eliminating-exact n f p = eliminated-exact (suc (depth f)) n f (omega arith) p

-- ---- what follows
pub decided : (f : Form) (e : List ℤ) → IsPresburger f → IsPresburgerTrue f e ⊎ (¬ (IsPresburgerTrue f e))
decided f e p = by (dnf_truth (eliminating (length e) f).value e) ((eliminating-exact (length e) f p).tells e refl)
  where
    by : (b : Bool) → Reflects b (IsPresburgerTrue f e) → IsPresburgerTrue f e ⊎ (¬ (IsPresburgerTrue f e))
    by true t = inl (t.yes refl)
    by false t = inr (t.no refl)

-- a formula that is true for some integer is true for one that is known
pub witness : (f : Form) (e : List ℤ) → IsPresburger f → IsPresburgerTrue (tree.existential f) e → (v : ℤ) × IsPresburgerTrue f (e ++ v ∷ [])
witness f e p h = by (dnf_truth (exists_name (length e) d).value e) refl
  where
    d : List (List Literal)
    d = (eliminating (suc (length e)) f).value

    s : IsExact d f (suc (length e))
    s = eliminating-exact (suc (length e)) f p

    o : IsOut (length e) d (exists_name (length e) d).value
    o = exists_name-out (length e) d s.formed

    by : (b : Bool) → dnf_truth (exists_name (length e) d).value e ≡ b → (v : ℤ) × IsPresburgerTrue f (e ++ v ∷ [])
    by true is = let m = o.back e is in (m.0, (s.tells (e ++ m.0 ∷ []) (one_more e m.0 (length e) refl)).yes (sym (ap (dnf_truth d) (at_end e m.0 (length e) refl)) ∙ m.1))
    by false is = absurd (((some_value f (length e) d _ s o).tells e refl).no is h)

-- a formula that is not true for every integer fails for one that is known
pub counterexample : (f : Form) (e : List ℤ) → IsPresburger f → ¬ (IsPresburgerTrue (tree.universal f) e) → (v : ℤ) × (¬ (IsPresburgerTrue f (e ++ v ∷ [])))
unfolding next just
counterexample f e p h =
    let w = witness (dual f).value e (dual-proper f p) (dual_true (tree.universal f) e p h) in
    (w.0, dual_false f (e ++ w.0 ∷ []) p w.1)

-- the interpretation does not matter
pub anywhere : (w : Meaning) (f : Form) (e : List ℤ) → IsPresburger f → FormTruth w f e ↔ IsPresburgerTrue f e
anywhere w f e p = (truth_anywhere w plain f e (presburger-pure f p), truth_anywhere plain w f e (presburger-pure f p))
