-- What a proof proves.
use Rattle.std.proofs.Common.{◌≡◌, ◌≤◌, ℕ, zero, suc, ℤ, Bool, true, false, cond, ◌&&◌, nat_eq, List, [], ◌∷◌, ◌++◌, length, take, Option, Some, None, refl, sym, ◌∙◌, ap, subst, append_assoc, arith}
use Rattle.std.specs.Prelude.{◌↔◌, All}
use Rattle.std.specs.List.{AllByRecursion, list_all, slice_get}
use Rattle.std.proofs.lemmas.List.{length-append, take_all}
use Rattle.std.proofs.lemmas.List.Elements.{recursion_from_All}
use Rattle.base_integers.specs.Entry.{put}
use Rattle.linear_term.specs.Range.{is_in_range}
use Rattle.form_typed.specs.Truth.{Meaning}
use Rattle.base_budget.specs.declared.log.ElimLog.{ElimLog}
use Rattle.base_budget.specs.Trace.{Traced, just, step, next, each}
use Rattle.clause_set.specs.declared.literal.Literal.{Literal}
use Rattle.clause_set.specs.Dnfs.{tidied, top}
use Rattle.clause_set.specs.Kept.{AreFormed}
use Rattle.clause_set.specs.Literals.{IsLiteral, dnf_truth}
use Rattle.formula.specs.Form.{Form, FormTruth, IsFormOver, is_pure, equal, unequal, at_least, holds, fails, differs, conjunction, disjunction, universal, existential, no_form, and_form}
use Rattle.formula.proofs.Anywhere.{truth_anywhere}
use Rattle.formula.proofs.Stability.{form_stable}
use Rattle.elim_laws.specs.Logs.{by_whole_log, names_by_log}
use Rattle.elim_laws.specs.Whole.{HasSolution}
use Rattle.elim_laws.proofs.Forms.{formed-literals}
use Rattle.elim_laws.proofs.Satisfied.{names_yield}
use Rattle.elim_rule_laws.proofs.EquationLists.{kept-weaker}
use Rattle.sequent.specs.declared.member.Shape.TheVariants.{Trivial}
use Rattle.sequent.specs.declared.member.Pick.{Pick}
use Rattle.sequent.specs.declared.member.Pick.TheVariants as pick
use Rattle.sequent.specs.Leaf.{is_leaf}
use Rattle.sequent.specs.Rules.{applies, is_shape, premises_at, shape_of}
use Rattle.sequent.specs.Sequent.{Member, Sequent, AreFalse, IsFormedSequent}
use Rattle.sequent.proofs.Forming.{start_formed}
use Rattle.solve_laws.specs.Solutions.{valued_clause}
use Rattle.solve_laws.proofs.Solving.{put-formed, put-truth}
use Rattle.proof_tree.specs.declared.node.Conclusion.{Conclusion}
use Rattle.proof_tree.specs.declared.node.Conclusion.TheVariants.{Solution, Nothing}
use Rattle.proof_tree.specs.declared.run.Verdict.{Verdict}
use Rattle.proof_tree.specs.declared.run.Verdict.TheVariants.{Valid, Invalid}
use Rattle.proof_tree.specs.Gives.{Gives}
use Rattle.proof_tree.specs.Proof.{Proof, Proofs, node, given}
use Rattle.proof_tree.specs.Proves.{Proves, concluded, is_root_rule, rule_of, start, values_put, verdict_if}
use Rattle.formula.specs.Reduced.{HasReducedTerms}
use Rattle.proof_tree.specs.Reduced.{IsReducedSequent}
use Rattle.proof_tree.specs.Tight.{AreSaturated, IsSaturated, IsSaturatedLeaf}
use Rattle.proof_tree.specs.Walk.{is_same, on_some}
use Rattle.proof_tree.proofs.Denying.{node_tight}
use Rattle.proof_tree.proofs.Giving.{node_covers, node_formed}
use Rattle.proof_tree.proofs.Walking.{same_so, some_cond, some_then, value-cond, value-on_some}
use Rattle.elim_laws.proofs.Wholes.{whole_yields}

-- ---- values put into a constraint
-- the last values first
put_all : List ℤ → ℕ → List ℤ → List ℤ
put_all e j [] = e
put_all e j (v ∷ vs) = put (put_all e (suc j) vs) j v

literals_of : (d : List (List Literal)) → AreFormed d → AllByRecursion (AllByRecursion IsLiteral) d
literals_of d h = all_from d (formed-literals d h)
  where
    all_from : (d : List (List Literal)) → AllByRecursion (All IsLiteral) d → AllByRecursion (AllByRecursion IsLiteral) d
    all_from d h = kept-weaker (All IsLiteral) (AllByRecursion IsLiteral) (λ c k. recursion_from_All IsLiteral c k) d h

put_truth : (j : ℕ) (vs : List ℤ) (d : List (List Literal)) (e : List ℤ) → AreFormed d → dnf_truth (values_put j vs d).value e ≡ dnf_truth d (put_all e j vs)
unfolding next just put_all
put_truth j [] d e h = refl
put_truth j (v ∷ vs) d e h =
    put_truth (suc j) vs (tidied (each (valued_clause j v) d []).value) e (put-formed j v d (literals_of d h)) ∙ put-truth j v d (put_all e (suc j) vs) (literals_of d h)

own : (before : List ℤ) (v : ℤ) (after : List ℤ) → put (before ++ v ∷ after) (length before) v ≡ before ++ v ∷ after
own [] v after = refl
own (u ∷ before) v after = ap (λ l. u ∷ l) (own before v after)

-- the values that are there already
own_all : (before vs : List ℤ) → put_all (before ++ vs) (length before) vs ≡ before ++ vs
unfolding put_all
own_all before [] = refl
own_all before (v ∷ vs) =
    let more : length (before ++ v ∷ []) ≡ suc (length before) = length-append before (v ∷ []) ∙ omega arith in
    let same : put_all (before ++ v ∷ vs) (suc (length before)) vs ≡ before ++ v ∷ vs =
    subst (λ l. put_all l (suc (length before)) vs ≡ l) (append_assoc before (v ∷ []) vs) (subst (λ k. put_all ((before ++ v ∷ []) ++ vs) k vs ≡ (before ++ v ∷ []) ++ vs) more (own_all (before ++ v ∷ []) vs)) in
    ap (λ l. put l (length before) v) same ∙ own before v vs

top_true : (e : List ℤ) → dnf_truth top e ≡ true
top_true e = refl

values_satisfy : (vs : List ℤ) (d : List (List Literal)) → AreFormed d → is_same (values_put 0 vs d).value top ≡ true → dnf_truth d vs ≡ true
values_satisfy vs d h same =
    sym (ap (dnf_truth d) (own_all [] vs)) ∙ sym (put_truth 0 vs d vs h) ∙ ap (λ r. dnf_truth r vs) (same_so (values_put 0 vs d).value top same) ∙ top_true vs

-- ---- verdicts
valid_is : (b : Bool) (us vs : List ℤ) → verdict_if b (Valid us) ≡ Some (Valid vs) → (b ≡ true) × (us ≡ vs)
valid_is true us vs e = (refl, (let z : Some (Valid us) ≡ Some (Valid vs) = e in cc))
valid_is false us vs e = absurd (cc)

not_valid : (b : Bool) (vs : List ℤ) → verdict_if b Invalid ≡ Some (Valid vs) → ⊥
not_valid true vs e = absurd (cc)
not_valid false vs e = absurd (cc)

not_invalid : (b : Bool) (us : List ℤ) → verdict_if b (Valid us) ≡ Some Invalid → ⊥
not_invalid true us e = absurd (cc)
not_invalid false us e = absurd (cc)

invalid_is : (b : Bool) → verdict_if b Invalid ≡ Some Invalid → b ≡ true
invalid_is true e = refl
invalid_is false e = absurd (cc)

both_true : (a b : Bool) → (a && b) ≡ true → (a ≡ true) × (b ≡ true)
both_true true b h = (refl, h)
both_true false b h = absurd (cc)

same_number : (m n : ℕ) → nat_eq m n ≡ true → m ≡ n
same_number m n h = grind arith

value-values : (f : Form) (n : ℕ) (p : Pick) (us : List ℤ) (d : List (List Literal))
    → (concluded f n p (Solution us) d).value ≡ cond (nat_eq (length us) n && list_all is_in_range us) (verdict_if (is_same (values_put 0 us d).value top) (Valid us)) None
unfolding next just
value-values f n p us d = value-cond (nat_eq (length us) n && list_all is_in_range us) _ _

value-none : (f : Form) (n : ℕ) (p : Pick) (log : ElimLog) (d : List (List Literal))
    → (concluded f n p (Nothing log) d).value
    ≡ cond (is_pure f && is_root_rule p) (on_some (λ r. just (verdict_if (is_same r []) Invalid)) (by_whole_log (names_by_log n d) log.entries).value).value None
unfolding next just
value-none f n p log d = value-cond (is_pure f && is_root_rule p) _ _

-- the values of a valid proof are as many as there are names, and satisfy the constraint
concluded_valid : (f : Form) (n : ℕ) (p : Pick) (c : Conclusion) (d : List (List Literal)) (vs : List ℤ) → AreFormed d → (concluded f n p c d).value ≡ Some (Valid vs)
    → (length vs ≡ n) × (dnf_truth d vs ≡ true)
unfolding just
concluded_valid f n p (Solution us) d vs h e =
    let a = some_cond (nat_eq (length us) n && list_all is_in_range us) _ (Valid vs) (sym (value-values f n p us d) ∙ e) in
    let b = valid_is (is_same (values_put 0 us d).value top) us vs a.1 in
    let l : length us ≡ n = same_number (length us) n (both_true (nat_eq (length us) n) (list_all is_in_range us) a.0).0 in
    (subst (λ ws. length ws ≡ n) b.1 l, subst (λ ws. dnf_truth d ws ≡ true) b.1 (values_satisfy us d h b.0))
concluded_valid f n p (Nothing log) d vs h e =
    let a = some_cond (is_pure f && is_root_rule p) _ (Valid vs) (sym (value-none f n p log d) ∙ e) in
    let b = some_then (by_whole_log (names_by_log n d) log.entries).value (λ r. verdict_if (is_same r []) Invalid) (Valid vs)
    (sym (value-on_some (λ r. just (verdict_if (is_same r []) Invalid)) (by_whole_log (names_by_log n d) log.entries).value) ∙ a.1) in
    absurd (not_valid (is_same (b.0) []) vs b.2)

none_satisfied : (n : ℕ) (d r : List (List Literal)) → is_same r [] ≡ true → (HasSolution d n ↔ (dnf_truth r [] ≡ true)) → (e : List ℤ) → length e ≡ n → dnf_truth d e ≡ false
none_satisfied n d r same s e l = by (dnf_truth d e) refl
  where
    by : (b : Bool) → dnf_truth d e ≡ b → b ≡ false
    by false is = refl
    by true is = absurd (let t = s.0 (record { values = e; as_many = l; holds = is }) in let z : dnf_truth r [] ≡ false = ap (λ q. dnf_truth q []) (same_so r [] same) in cc)

-- nothing satisfies the constraint of an invalid proof, whose formula is pure and whose root is a leaf
concluded_invalid : (f : Form) (n : ℕ) (p : Pick) (c : Conclusion) (d : List (List Literal)) → AreFormed d → (concluded f n p c d).value ≡ Some Invalid
    → (is_pure f ≡ true) × (is_root_rule p ≡ true) × ((e : List ℤ) → length e ≡ n → dnf_truth d e ≡ false)
unfolding just
concluded_invalid f n p (Solution us) d h e =
    let a = some_cond (nat_eq (length us) n && list_all is_in_range us) _ Invalid (sym (value-values f n p us d) ∙ e) in
    absurd (not_invalid (is_same (values_put 0 us d).value top) us a.1)
concluded_invalid f n p (Nothing log) d h e =
    let a = some_cond (is_pure f && is_root_rule p) _ Invalid (sym (value-none f n p log d) ∙ e) in
    let b = some_then (by_whole_log (names_by_log n d) log.entries).value (λ r. verdict_if (is_same r []) Invalid) Invalid
    (sym (value-on_some (λ r. just (verdict_if (is_same r []) Invalid)) (by_whole_log (names_by_log n d) log.entries).value) ∙ a.1) in
    let two = both_true (is_pure f) (is_root_rule p) a.0 in
    let y = whole_yields (names_by_log n d) (λ r. HasSolution d n ↔ (dnf_truth r [] ≡ true)) (names_yield n d h) log.entries (b.0) b.1 in
    (two.0, two.1, none_satisfied n d (b.0) (invalid_is (is_same (b.0) []) b.2) y)

-- ---- the root
reduced_start : (f : Form) (n : ℕ) → HasReducedTerms f → IsReducedSequent (start f n)
reduced_start f n h = (h, tt)

false_at : (w : Meaning) (f : Form) (n : ℕ) (e : List ℤ) → length e ≡ n → ¬ (FormTruth w f e) → AreFalse w e (start f n).members
false_at w f n e l h = ((λ t. h (subst (λ z. FormTruth w f z) (take_all n e (omega (arith, l))) t)), tt)

-- wherever the constraint of a tree is true, so is the formula, in every interpretation
pub root_covers : (f : Form) (n : ℕ) (x : Proof) → IsFormOver n f → HasReducedTerms f → Gives (start f n) x → (w : Meaning) (e : List ℤ) → length e ≡ n → dnf_truth (given x) e ≡ true → FormTruth w f e
root_covers f n x over h g w e l t = form_stable w f e (λ none. node_covers w (start f n) x (start_formed f n over) (reduced_start f n h) g e l t (false_at w f n e l none))

no_premises : (s : Sequent) (i : ℕ) (o : Option Member) → is_shape Trivial (shape_of o) ≡ true → premises_at s i o ≡ []
no_premises s i None h = refl
no_premises s i (Some m) h = by m.over m.used m.formula h
  where
    by : (over used : ℕ) (f : Form) → is_shape Trivial (shape_of (Some (record { formula = f; over = over; used = used }))) ≡ true → premises_at s i (Some (record { formula = f; over = over; used = used })) ≡ []
    by over used (conjunction no_form) k = refl
    by over used (conjunction (and_form f fs)) k = absurd (cc)
    by over used f k = absurd (cc)

pure_leaf : (f : Form) → is_pure f ≡ true → is_leaf f ≡ true
pure_leaf (holds p ts) h = refl
pure_leaf (fails p ts) h = refl
pure_leaf (differs g ts u) h = refl
pure_leaf (equal t) h = refl
pure_leaf (unequal t) h = refl
pure_leaf (at_least t) h = refl
pure_leaf (conjunction fs) h = h
pure_leaf (disjunction fs) h = h
pure_leaf (universal f) h = h
pure_leaf (existential f) h = h

saturated_root : (f : Form) (n : ℕ) (x : Proof) → is_pure f ≡ true → is_root_rule (rule_of x) ≡ true → Gives (start f n) x → IsSaturated (start f n) x
saturated_root f n (node pick.Close ns log d) p r g = ((pure_leaf f p, tt), tt)
saturated_root f n (node (pick.Trivial i) ns log d) p r g =
    (tt, subst (λ ss. AreSaturated ss ns) (sym (no_premises (start f n) i (slice_get (start f n).members i) g.0)) tt)
saturated_root f n (node (pick.Alpha i) ns log d) p r g = absurd (cc)
saturated_root f n (node (pick.Delta i) ns log d) p r g = absurd (cc)
saturated_root f n (node (pick.Beta i) ns log d) p r g = absurd (cc)
saturated_root f n (node (pick.Gamma i) ns log d) p r g = absurd (cc)

-- and where the root of a pure formula is a leaf, the formula is false wherever the constraint is
pub root_exact : (f : Form) (n : ℕ) (x : Proof) → IsFormOver n f → HasReducedTerms f → is_pure f ≡ true → is_root_rule (rule_of x) ≡ true → Gives (start f n) x
    → (w : Meaning) (e : List ℤ) → length e ≡ n → dnf_truth (given x) e ≡ false → ¬ (FormTruth w f e)
root_exact f n x over h p r g w e l t k =
    let m = node_tight (start f n) x (start_formed f n over) (reduced_start f n h) g (saturated_root f n x p r g) e l t in
    m.1.0 (subst (λ z. FormTruth (m.0) f z) (sym (take_all n e (omega (arith, l)))) (truth_anywhere w (m.0) f e p k))

-- ---- the laws
pub proves_valid : (f : Form) (n : ℕ) (x : Proof) (c : Conclusion) (charges : ℕ) (vs : List ℤ) → HasReducedTerms f → Proves f n x c charges (Valid vs) → (length vs ≡ n) × (dnf_truth (given x) vs ≡ true)
proves_valid f n x c charges vs h p = concluded_valid f n (rule_of x) c (given x) vs (node_formed (start f n) x (reduced_start f n h) p.tree) p.conclusion

pub proves_invalid : (f : Form) (n : ℕ) (x : Proof) (c : Conclusion) (charges : ℕ) → IsFormOver n f → HasReducedTerms f → Proves f n x c charges Invalid
    → (w : Meaning) (e : List ℤ) → length e ≡ n → ¬ (FormTruth w f e)
proves_invalid f n x c charges over h p w e l =
    let i = concluded_invalid f n (rule_of x) c (given x) (node_formed (start f n) x (reduced_start f n h) p.tree) p.conclusion in
    root_exact f n x over h i.0 i.1 p.tree w e l (i.2 e l)
