-- Closed comparisons are eliminated in six steps a node: what stands for one has no names, and is false or true.
use Rattle.std.proofs.Common.{◌≡◌, ◌+◌, ◌*◌, ◌≤◌, ◌<◌, ◌||◌, ℕ, zero, suc, ℤ, pos, Bool, true, false, cond, int_eq, int_le, List, [], ◌∷◌, ◌++◌, length, ◌⊎◌, inl, inr, refl, sym, ◌∙◌, ap, subst, Option, None, arith}
use Rattle.std.specs.List.{AllByRecursion}
use Rattle.std.proofs.lemmas.List.{append-nil, length-append}
use Rattle.std.proofs.lemmas.List.Elements.{All-from_recursion, recursion_from_All}
use Rattle.linear_term.proofs.Names.{combination-over}
use Rattle.clause_set.specs.Weight.{weight}
use Rattle.linear_term.specs.Linear.{Linear, IsOver}
use Rattle.base_budget.specs.Runs.{total}
use Rattle.base_budget.specs.Trace.{capped, Traced, just, step, next}
use Rattle.clause_set.specs.declared.literal.Literal.{Literal}
use Rattle.clause_set.specs.declared.literal.Literal.TheVariants.{Eq, Geq}
use Rattle.clause_set.specs.declared.literal.Norm.{Norm}
use Rattle.clause_set.specs.Clauses.{clause_of, compact, found, is_false, literals_of}
use Rattle.clause_set.specs.Dnfs.{conjunction, disjunction, joined, tidied, top}
use Rattle.clause_set.specs.Normal.{decided, normal_equation, normal_inequality, normal_of}
use Rattle.clause_set.specs.Order.{sorted_once}
use Rattle.clause_set.proofs.Negations.{less, more}
use Rattle.formula.specs.Form as tree
use Rattle.formula.specs.Form.{Form, Forms, IsFormOver, AreFormsOver}
use Rattle.formula.specs.Sizes.{size, sizes, depth, depths}
use Rattle.elim_laws.specs.Whole.{all_of, any_of, eliminated, eliminating}
use Rattle.search.specs.Closed.{IsClosed, AreClosed}
use Rattle.search.proofs.Endings.{total-append}

-- ---- disjunctions without names: false or true
abbrev IsBare : List (List Literal) → Type 0
IsBare d = (d ≡ []) ⊎ (d ≡ top)

-- a bare disjunction, made with this many steps
record IsFine (k : ℕ) (w : Traced (List (List Literal))) : Type 0 where
  bare : IsBare w.value
  steps : total w.events ≤ k

-- the clause of a literal that is decided
of_norm : Norm → Option (List Literal)
of_norm n = cond (is_false n || false) None (compact (literals_of n ++ []))

decided_bare : (b : Bool) → IsBare (found (of_norm (decided b)))
unfolding of_norm compact sorted_once
decided_bare true = inr refl
decided_bare false = inl refl

clause_is : (l : Literal) → found (clause_of (l ∷ [])) ≡ found (of_norm (normal_of l))
unfolding of_norm clause_of
clause_is l = refl

clause_bare : (l : Literal) (b : Bool) → normal_of l ≡ decided b → IsBare (found (clause_of (l ∷ [])))
clause_bare l b e = subst IsBare (sym (clause_is l)) (subst (λ n. IsBare (found (of_norm n))) (sym e) (decided_bare b))

bare_end : (d : List (List Literal)) → IsBare d → IsBare (d ++ [])
bare_end d (inl e) = inl (ap (λ x. x ++ []) e)
bare_end d (inr e) = inr (ap (λ x. x ++ []) e)

no_pairs : (ps : List (ℕ × ℤ)) → AllByRecursion (λ p. p.0 < 0) ps → ps ≡ []
no_pairs [] h = refl
no_pairs (p ∷ ps) h = let lt : p.0 < 0 = h.0 in absurd (omega (arith, lt))

none_there : (t : Linear) → IsOver 0 t → t.pairs ≡ []
none_there t h = no_pairs t.pairs (recursion_from_All (λ p. p.0 < 0) t.pairs h)

equation_decided : (t : Linear) → IsOver 0 t → normal_of (Eq t) ≡ decided (int_eq t.constant (pos 0))
unfolding normal_of
equation_decided t h = ap (normal_equation t) (none_there t h)

bound_decided : (t : Linear) → IsOver 0 t → normal_of (Geq t) ≡ decided (int_le (pos 0) t.constant)
unfolding normal_of
bound_decided t h = ap (normal_inequality t) (none_there t h)

equation_bare : (t : Linear) → IsOver 0 t → IsBare (found (clause_of (Eq t ∷ [])))
equation_bare t h = clause_bare (Eq t) (int_eq t.constant (pos 0)) (equation_decided t h)

bound_bare : (t : Linear) → IsOver 0 t → IsBare (found (clause_of (Geq t ∷ [])))
bound_bare t h = clause_bare (Geq t) (int_le (pos 0) t.constant) (bound_decided t h)

-- ---- operations on such
tidied_none : IsBare (tidied [])
unfolding tidied sorted_once
tidied_none = inl refl

tidied_one : IsBare (tidied top)
unfolding tidied sorted_once
tidied_one = inr refl

tidied_two : IsBare (tidied (top ++ top))
unfolding tidied sorted_once
tidied_two = inr refl

tidied_both : (a b : List (List Literal)) → IsBare a → IsBare b → IsBare (tidied (a ++ b))
tidied_both a b (inl e) (inl f) = subst (λ x. IsBare (tidied (x ++ b))) (sym e) (subst (λ y. IsBare (tidied ([] ++ y))) (sym f) tidied_none)
tidied_both a b (inl e) (inr f) = subst (λ x. IsBare (tidied (x ++ b))) (sym e) (subst (λ y. IsBare (tidied ([] ++ y))) (sym f) tidied_one)
tidied_both a b (inr e) (inl f) = subst (λ x. IsBare (tidied (x ++ b))) (sym e) (subst (λ y. IsBare (tidied (top ++ y))) (sym f) tidied_one)
tidied_both a b (inr e) (inr f) = subst (λ x. IsBare (tidied (x ++ b))) (sym e) (subst (λ y. IsBare (tidied (top ++ y))) (sym f) tidied_two)

pub capped_below : (n : ℕ) → capped n ≤ n
capped_below n = grind arith

record IsLight (d : List (List Literal)) : Type 0 where
  weight : weight d ≡ 0
  length : length d ≤ 1

light : (d : List (List Literal)) → IsBare d → IsLight d
light d (inl e) = record { weight = ap weight e; length = subst (λ x. length x ≤ 1) (sym e) (omega arith) }
light d (inr e) = record { weight = ap weight e; length = subst (λ x. length x ≤ 1) (sym e) (omega arith) }

square : (n k : ℕ) → n ≤ k → n * n ≤ k * k
square n k h = grind (arith, h)

or_steps : (a b : List (List Literal)) → IsBare a → IsBare b → total (disjunction a b).events ≤ 5
unfolding next just step
or_steps a b h k =
    let u = light a h in
    let v = light b k in
    let e : total (disjunction a b).events ≡ capped (1 + weight a + weight b) + (capped (length (a ++ b) * length (a ++ b)) + 0) = refl in
    let p = capped_below (1 + weight a + weight b) in
    let q = capped_below (length (a ++ b) * length (a ++ b)) in
    let l = length-append a b in
    let m = u.length in
    let n = v.length in
    let s = square (length (a ++ b)) 2 (omega (arith, l, m, n)) in
    let wa = u.weight in
    let wb = v.weight in
    omega (arith, e, p, q, s, wa, wb)

or_bare : (a b : List (List Literal)) → IsBare a → IsBare b → IsBare (disjunction a b).value
unfolding next just step
or_bare a b h k = tidied_both a b h k

joined_tops : joined top top ≡ top
unfolding clause_of compact sorted_once
joined_tops = refl

times_none : (n : ℕ) → n * 0 ≡ 0
times_none n = omega arith

-- the joined clauses
joined_bare : (a b : List (List Literal)) → IsBare a → IsBare b → IsBare (joined a b)
joined_bare a b (inl e) k = inl (ap (λ x. joined x b) e)
joined_bare a b (inr e) (inl f) = inl (ap (λ x. joined x b) e ∙ ap (λ y. joined top y) f)
joined_bare a b (inr e) (inr f) = inr (ap (λ x. joined x b) e ∙ ap (λ y. joined top y) f ∙ joined_tops)

and_bare : (a b : List (List Literal)) → IsBare a → IsBare b → IsBare (conjunction a b).value
unfolding next just step
and_bare a b h k = subst (λ x. IsBare (tidied x)) (append-nil (joined a b)) (tidied_both (joined a b) [] (joined_bare a b h k) (inl refl))

and_steps : (a b : List (List Literal)) → IsBare a → IsBare b → total (conjunction a b).events ≤ 5
unfolding next just step
and_steps a b h k =
    let u = light a h in
    let v = light b k in
    let j = light (joined a b) (joined_bare a b h k) in
    let e : total (conjunction a b).events ≡ capped (1 + length b * weight a + length a * weight b) + (capped (length (joined a b) * length (joined a b)) + 0) = refl in
    let p = capped_below (1 + length b * weight a + length a * weight b) in
    let q = capped_below (length (joined a b) * length (joined a b)) in
    let x : length b * weight a ≡ 0 = ap (λ z. length b * z) u.weight ∙ times_none (length b) in
    let y : length a * weight b ≡ 0 = ap (λ z. length a * z) v.weight ∙ times_none (length a) in
    let s = square (length (joined a b)) 1 j.length in
    omega (arith, e, p, q, s, x, y)

-- ---- formulas
less_over : (t : Linear) → IsOver 0 t → IsOver 0 (less t)
less_over t h = combination-over 0 _ _ t _ h (All-from_recursion (λ p. p.0 < 0) [] tt)

more_over : (t : Linear) → IsOver 0 t → IsOver 0 (more t)
more_over t h = combination-over 0 _ _ t _ h (All-from_recursion (λ p. p.0 < 0) [] tt)

atom_steps : (t : Linear) (k : ℕ) → IsOver 0 t → k ≡ capped (1 + length t.pairs) + 0 → k + 5 ≤ 6
atom_steps t k h e = let c = capped_below (1 + length t.pairs) in let l : length t.pairs ≡ 0 = ap length (none_there t h) in omega (arith, e, c, l)

record IsCheap (k : ℕ) (w : Traced (List (List Literal))) : Type 0 where
  bare : IsBare w.value
  steps : total w.events + 5 ≤ k

abbrev EachCheap : (Form → Traced (List (List Literal))) → Forms → Type 0
EachCheap f tree.no_form = Unit {0}
EachCheap f (tree.and_form g gs) = IsCheap (6 * size g) (f g) × EachCheap f gs

each_cheap : (m : ℕ) (f : Form → Traced (List (List Literal))) → ((g : Form) → depth g < m → IsClosed g → IsFormOver 0 g → IsCheap (6 * size g) (f g)) → (gs : Forms) → depths gs < m → AreClosed gs → AreFormsOver 0 gs → EachCheap f gs
each_cheap m f h tree.no_form lt c o = tt
each_cheap m f h (tree.and_form g gs) lt c o = (h g (omega (arith, lt)) c.0 o.0, each_cheap m f h gs (omega (arith, lt)) c.1 o.1)

all_cheap : (f : Form → Traced (List (List Literal))) (gs : Forms) (d : List (List Literal)) → EachCheap f gs → IsBare d → IsFine (6 * sizes gs) (all_of f gs d)
unfolding next just
all_cheap f tree.no_form d h k = record { bare = k; steps = omega arith }
all_cheap f (tree.and_form g gs) d h k =
    let one = h.0 in
    let r = all_cheap f gs (conjunction d (f g).value).value h.1 (and_bare d (f g).value k one.bare) in
    let e = total-append (f g).events ((conjunction d (f g).value).events ++ (all_of f gs (conjunction d (f g).value).value).events) in
    let e2 = total-append (conjunction d (f g).value).events (all_of f gs (conjunction d (f g).value).value).events in
    let s = one.steps in
    let t = and_steps d (f g).value k one.bare in
    let u = r.steps in
    record { bare = r.bare; steps = omega (arith, e, e2, s, t, u) }

any_cheap : (f : Form → Traced (List (List Literal))) (gs : Forms) (d : List (List Literal)) → EachCheap f gs → IsBare d → IsFine (6 * sizes gs) (any_of f gs d)
unfolding next just
any_cheap f tree.no_form d h k = record { bare = k; steps = omega arith }
any_cheap f (tree.and_form g gs) d h k =
    let one = h.0 in
    let r = any_cheap f gs (disjunction d (f g).value).value h.1 (or_bare d (f g).value k one.bare) in
    let e = total-append (f g).events ((disjunction d (f g).value).events ++ (any_of f gs (disjunction d (f g).value).value).events) in
    let e2 = total-append (disjunction d (f g).value).events (any_of f gs (disjunction d (f g).value).value).events in
    let s = one.steps in
    let t = or_steps d (f g).value k one.bare in
    let u = r.steps in
    record { bare = r.bare; steps = omega (arith, e, e2, s, t, u) }

eliminated_cheap : (m : ℕ) (f : Form) → depth f < m → IsClosed f → IsFormOver 0 f → IsCheap (6 * size f) (eliminated m 0 f)
unfolding next just step
eliminated_cheap zero f lt c o = absurd (omega (arith, lt))
eliminated_cheap (suc m) (tree.equal t) lt c o = record { bare = bare_end _ (equation_bare t o); steps = atom_steps t _ o refl }
eliminated_cheap (suc m) (tree.at_least t) lt c o = record { bare = bare_end _ (bound_bare t o); steps = atom_steps t _ o refl }
eliminated_cheap (suc m) (tree.unequal t) lt c o =
    record { bare = tidied_both _ _ (bound_bare (less t) (less_over t o)) (bare_end _ (bound_bare (more t) (more_over t o))); steps = atom_steps t _ o refl }
eliminated_cheap (suc m) (tree.holds q ts) lt c o = absurd c
eliminated_cheap (suc m) (tree.fails q ts) lt c o = absurd c
eliminated_cheap (suc m) (tree.differs q ts u) lt c o = absurd c
eliminated_cheap (suc m) (tree.conjunction fs) lt c o =
    let r = all_cheap (eliminated m 0) fs top (each_cheap m (eliminated m 0) (eliminated_cheap m) fs (omega (arith, lt)) c o) (inr refl) in
    let s = r.steps in
    record { bare = r.bare; steps = omega (arith, s) }
eliminated_cheap (suc m) (tree.disjunction fs) lt c o =
    let r = any_cheap (eliminated m 0) fs [] (each_cheap m (eliminated m 0) (eliminated_cheap m) fs (omega (arith, lt)) c o) (inl refl) in
    let s = r.steps in
    record { bare = r.bare; steps = omega (arith, s) }
eliminated_cheap (suc m) (tree.universal f) lt c o = absurd c
eliminated_cheap (suc m) (tree.existential f) lt c o = absurd c

-- eliminating it, alone in a disjunction, charges six steps a node
pub eliminating_steps : (f : Form) → IsClosed f → IsFormOver 0 f → total (eliminating 0 (tree.disjunction (tree.and_form f tree.no_form))).events ≤ 6 * size f
unfolding eliminating
eliminating_steps f c o =
    let gs = tree.and_form f tree.no_form in
    let m = depth (tree.disjunction gs) in
    let one : IsCheap (6 * size f) (eliminated m 0 f) = eliminated_cheap m f (omega arith) c o in
    let all = (any_cheap (eliminated m 0) gs [] (one, tt) (inl refl)).steps in
    omega (arith, all)
