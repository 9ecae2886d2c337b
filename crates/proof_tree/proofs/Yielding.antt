-- The constraint that a log makes of the premises' constraints says what the rule wants, whatever the log.
use Rattle.std.proofs.Common.{◌≡◌, ◌+◌, ℕ, suc, ℤ, Bool, true, false, not, ◌&&◌, List, [], ◌∷◌, ◌++◌, length, ◌⊎◌, inl, inr, Option, Some, None, refl, sym, ◌∙◌, ap, subst, arith}
use Rattle.std.specs.List.{AllByRecursion, slice_get}
use Rattle.form_typed.specs.Truth.{Meaning}
use Rattle.base_integers.specs.Entry.{put}
use Rattle.base_budget.specs.Trace.{Traced, just, next}
use Rattle.clause_set.specs.declared.literal.Literal.{Literal}
use Rattle.clause_set.specs.Dnfs.{conjunction, negation, top}
use Rattle.clause_set.specs.Kept.{AreFormed}
use Rattle.clause_set.specs.Literals.{dnf_truth}
use Rattle.clause_set.proofs.Operations.{and-truth}
use Rattle.clause_set.proofs.Reduced.{negation-truth}
use Rattle.clause_set.proofs.Shapes.{conjunction-formed, negation-formed}
use Rattle.formula.specs.Form.{Form, Forms, FormTruth, equal, unequal, at_least, holds, fails, differs, conjunction as all_of, disjunction as any_of, universal, existential, no_form, and_form}
use Rattle.formula.specs.Sizes.{depth}
use Rattle.elim_laws.specs.Elimination.{IsEvery, IsOut}
use Rattle.elim_laws.specs.Logs.{Reader, Yields, by_log, every_by_log, name_by_log, read_next, reads_none}
use Rattle.elim_laws.specs.Presburger.{IsPresburger, IsPresburgerTrue}
use Rattle.elim_laws.specs.Whole.{IsExact}
use Rattle.elim_laws.proofs.Always.{every_yields}
use Rattle.elim_laws.proofs.Accepted.{log_exact, name_yields, yields_map}
use Rattle.elim_laws.proofs.Forms.{formed-literals, top-formed}
use Rattle.elim_laws.proofs.Replays.{yields_next, yields_none}
use Rattle.elim_laws.proofs.Whole.{anywhere}
use Rattle.sequent.specs.declared.member.Shape.{Shape}
use Rattle.sequent.specs.declared.member.Shape.TheVariants.{Trivial, Alpha, Delta, Beta, Gamma}
use Rattle.sequent.specs.declared.member.Pick.{Pick}
use Rattle.sequent.specs.declared.member.Pick.TheVariants as pick
use Rattle.sequent.specs.Covers.{AreTrue, IsOneFalse, RuleTruth, RuleFalsity}
use Rattle.sequent.specs.Rules.{applies, is_shape, place, premises_at, premises_by, shape, shape_of}
use Rattle.sequent.specs.Sequent.{Member, Sequent, member}
use Rattle.sequent.proofs.Lasts.{met_gamma, put_end}
use Rattle.pred_unify.specs.Pairs.{closing_of}
use Rattle.proof_tree.specs.Gives.{truths}
use Rattle.proof_tree.specs.Reduced.{IsReducedSequent}
use Rattle.proof_tree.specs.Rules.{conjoined, constraint_by, first_given}
use Rattle.proof_tree.specs.Says.{FalsityAt, IsConstraint, TruthAt}
use Rattle.proof_tree.proofs.Closing.{closing_presburger}

-- ---- beta
abbrev AllFormed : List (List (List Literal)) → Type 0
AllFormed ds = AllByRecursion AreFormed ds

split_true : (a b : Bool) → (a && b) ≡ true → (a ≡ true) × (b ≡ true)
split_true true b h = (refl, h)
split_true false b h = absurd (cc)

split_false : (a b : Bool) → (a && b) ≡ false → (a ≡ false) ⊎ (b ≡ false)
split_false true b h = inr h
split_false false b h = inl refl

conjoined_formed : (ds : List (List (List Literal))) (d : List (List Literal)) → AllFormed ds → AreFormed d → AreFormed (conjoined ds d).value
unfolding next just
conjoined_formed [] d h k = k
conjoined_formed (c ∷ cs) d h k = conjoined_formed cs (conjunction d c).value h.1 (conjunction-formed d c (formed-literals d k) (formed-literals c h.0))

conjoined_true : (ds : List (List (List Literal))) (d : List (List Literal)) (e : List ℤ) → AllFormed ds → AreFormed d → dnf_truth (conjoined ds d).value e ≡ true
    → (dnf_truth d e ≡ true) × AreTrue (truths ds) e
unfolding next just
conjoined_true [] d e h k t = (t, tt)
conjoined_true (c ∷ cs) d e h k t =
    let both = conjoined_true cs (conjunction d c).value e h.1 (conjunction-formed d c (formed-literals d k) (formed-literals c h.0)) t in
    let two = split_true (dnf_truth d e) (dnf_truth c e) (sym (and-truth d c e (formed-literals d k) (formed-literals c h.0)) ∙ both.0) in
    (two.0, (two.1, both.1))

conjoined_false : (ds : List (List (List Literal))) (d : List (List Literal)) (e : List ℤ) → AllFormed ds → AreFormed d → dnf_truth (conjoined ds d).value e ≡ false
    → (dnf_truth d e ≡ false) ⊎ IsOneFalse (truths ds) e
unfolding next just
conjoined_false [] d e h k t = inl t
conjoined_false (c ∷ cs) d e h k t =
    by (conjoined_false cs (conjunction d c).value e h.1 (conjunction-formed d c (formed-literals d k) (formed-literals c h.0)) t)
  where
    two : (dnf_truth d e ≡ false) ⊎ (dnf_truth c e ≡ false) → (dnf_truth d e ≡ false) ⊎ IsOneFalse (truths (c ∷ cs)) e
    two (inl a) = inl a
    two (inr b) = inr (inl b)

    by : (dnf_truth (conjunction d c).value e ≡ false) ⊎ IsOneFalse (truths cs) e → (dnf_truth d e ≡ false) ⊎ IsOneFalse (truths (c ∷ cs)) e
    by (inl f) = two (split_false (dnf_truth d e) (dnf_truth c e) (sym (and-truth d c e (formed-literals d k) (formed-literals c h.0)) ∙ f))
    by (inr f) = inr (inr f)

top_false : (e : List ℤ) (P : Type 0) → dnf_truth top e ≡ false → P
top_false e P h = absurd (cc)

-- ---- the rule with a principal
-- d says of the integers what the constraint of the rule with the principal f says
record Says (n : ℕ) (f : Form) (ds : List (List (List Literal))) (d : List (List Literal)) : Type 0 where
  formed : AreFormed d
  yes : (e : List ℤ) → length e ≡ n → dnf_truth d e ≡ true → RuleTruth f (truths ds) e
  no : (e : List ℤ) → length e ≡ n → dnf_truth d e ≡ false → RuleFalsity f (truths ds) e

beta_says : (n : ℕ) (fs : Forms) (ds : List (List (List Literal))) → AllFormed ds → Says n (all_of fs) ds (conjoined ds top).value
beta_says n fs ds h = record {
  formed = conjoined_formed ds top h top-formed;
  yes = λ e l t. (conjoined_true ds top e h top-formed t).1;
  no = λ e l f. by e (conjoined_false ds top e h top-formed f);
}
  where
    by : (e : List ℤ) → (dnf_truth top e ≡ false) ⊎ IsOneFalse (truths ds) e → IsOneFalse (truths ds) e
    by e (inl f) = top_false e _ f
    by e (inr f) = f

delta_says : (n : ℕ) (f : Form) (d r : List (List Literal)) → IsEvery n d r → Says n (universal f) (d ∷ []) r
delta_says n f d r a = record {
  formed = a.formed;
  yes = λ e l t v. (subst (λ z. dnf_truth d z ≡ true) (put_end e n v l) (a.back e t v), tt);
  no = λ e l t. let m = a.witness e t in (m.0, inl (subst (λ z. dnf_truth d z ≡ false) (put_end e n (m.0) l) m.1));
}

gamma_says : (n : ℕ) (f : Form) (d r : List (List Literal)) → IsOut n d r → Says n (existential f) (d ∷ []) r
gamma_says n f d r o = record {
  formed = o.formed;
  yes = λ e l t. met_gamma f (dnf_truth d) e n l (o.back e t);
  no = λ e l t v. inl (by e v l t (dnf_truth d (e ++ v ∷ [])) refl);
}
  where
    by : (e : List ℤ) (v : ℤ) → length e ≡ n → dnf_truth r e ≡ false → (b : Bool) → dnf_truth d (e ++ v ∷ []) ≡ b → b ≡ false
    by e v l t false is = refl
    by e v l t true is = absurd (let k = o.kept e (v, ap (dnf_truth d) (put_end e n v l) ∙ is) in cc)

-- ---- shapes
abbrev ForShape : Shape → (Form → Type 0) → Type 0
ForShape Trivial P = P (all_of no_form)
ForShape Alpha P = (fs : Forms) → P (any_of fs)
ForShape Delta P = (f : Form) → P (universal f)
ForShape Beta P = (f : Form) (fs : Forms) → P (all_of (and_form f fs))
ForShape Gamma P = (f : Form) → P (existential f)

by_shape : (k : Shape) (f : Form) (P : Form → Type 0) → is_shape k (shape f) ≡ true → ForShape k P → P f
by_shape Trivial (all_of no_form) P h g = g
by_shape Alpha (any_of fs) P h g = g fs
by_shape Delta (universal f) P h g = g f
by_shape Beta (all_of (and_form f fs)) P h g = g f fs
by_shape Gamma (existential f) P h g = g f
by_shape Trivial (all_of (and_form f fs)) P h g = absurd (cc)
by_shape Beta (all_of no_form) P h g = absurd (cc)
by_shape Alpha (all_of no_form) P h g = absurd (cc)
by_shape Alpha (all_of (and_form f fs)) P h g = absurd (cc)
by_shape Delta (all_of no_form) P h g = absurd (cc)
by_shape Delta (all_of (and_form f fs)) P h g = absurd (cc)
by_shape Gamma (all_of no_form) P h g = absurd (cc)
by_shape Gamma (all_of (and_form f fs)) P h g = absurd (cc)
by_shape k f P h g = absurd (cc)

no_shape : (k : Shape) → is_shape k None ≡ true → ⊥
no_shape Trivial h = absurd (cc)
no_shape Alpha h = absurd (cc)
no_shape Delta h = absurd (cc)
no_shape Beta h = absurd (cc)
no_shape Gamma h = absurd (cc)

-- the constraint of a rule whose principal has this form, over the constraints ds of its premises
record Rule (s : Sequent) (i over used : ℕ) (m : List (List (List Literal)) → Reader (List (List Literal))) (f : Form) : Type 0 where
  made : (ds : List (List (List Literal))) → AllFormed ds → length ds ≡ length (premises_at s i (Some (member f over used))) → Yields (m ds) (Says s.count f ds)

only : (m : List (List (List Literal)) → Reader (List (List Literal))) (n : ℕ) (f : Form) → ((d : List (List Literal)) → AreFormed d → Yields (m (d ∷ [])) (Says n f (d ∷ [])))
    → (ds : List (List (List Literal))) → AllFormed ds → length ds ≡ 1 → Yields (m ds) (Says n f ds)
only m n f h [] k l = absurd (omega (arith, l))
only m n f h (d ∷ []) k l = h d k.0
only m n f h (d ∷ c ∷ ds) k l = absurd (omega (arith, l))

trivial_rule : (s : Sequent) (i over used : ℕ) → Rule s i over used (constraint_by s (pick.Trivial i)) (all_of no_form)
unfolding just
trivial_rule s i over used = record {
  made = λ ds h l. none ds l;
}
  where
    none : (ds : List (List (List Literal))) → length ds ≡ 0 → Yields (constraint_by s (pick.Trivial i) ds) (Says s.count (all_of no_form) ds)
    none [] l = yields_none (just top) (Says s.count (all_of no_form) []) (record { formed = top-formed; yes = λ e l t. tt; no = λ e l t. top_false e _ t })
    none (d ∷ ds) l = absurd (omega (arith, l))

alpha_rule : (s : Sequent) (i over used : ℕ) (fs : Forms) → Rule s i over used (constraint_by s (pick.Alpha i)) (any_of fs)
unfolding just
alpha_rule s i over used fs = record {
  made = only (constraint_by s (pick.Alpha i)) s.count (any_of fs)
      (λ d h. yields_none (just d) (Says s.count (any_of fs) (d ∷ [])) (record { formed = h; yes = λ e l t. (t, tt); no = λ e l t. inl t }));
}

delta_rule : (s : Sequent) (i over used : ℕ) (f : Form) → Rule s i over used (constraint_by s (pick.Delta i)) (universal f)
delta_rule s i over used f = record {
  made = only (constraint_by s (pick.Delta i)) s.count (universal f)
      (λ d h. yields_map (every_by_log s.count d) (IsEvery s.count d) (Says s.count (universal f) (d ∷ [])) (delta_says s.count f d) (every_yields s.count d h));
}

beta_rule : (s : Sequent) (i over used : ℕ) (f : Form) (fs : Forms) → Rule s i over used (constraint_by s (pick.Beta i)) (all_of (and_form f fs))
beta_rule s i over used f fs = record {
  made = λ ds h l. yields_none (conjoined ds top) (Says s.count (all_of (and_form f fs)) ds) (beta_says s.count (and_form f fs) ds h);
}

gamma_rule : (s : Sequent) (i over used : ℕ) (f : Form) → Rule s i over used (constraint_by s (pick.Gamma i)) (existential f)
gamma_rule s i over used f = record {
  made = only (constraint_by s (pick.Gamma i)) s.count (existential f)
      (λ d h. yields_map (name_by_log s.count d) (IsOut s.count d) (Says s.count (existential f) (d ∷ [])) (gamma_says s.count f d) (name_yields s.count d h));
}

-- ---- all rules
says_at : (s : Sequent) (i : ℕ) (k : Shape) (m : List (List (List Literal)) → Reader (List (List Literal))) (o : Option Member) (ds : List (List (List Literal))) → slice_get s.members i ≡ o
    → is_shape k (shape_of o) ≡ true → ((over used : ℕ) → ForShape k (Rule s i over used m)) → AllFormed ds → length ds ≡ length (premises_at s i o)
    → Yields (m ds) (IsConstraint s (Some i) (truths ds))
says_at s i k m None ds at is r h l = absurd (no_shape k is)
says_at s i k m (Some p) ds at is r h l =
    let rule = by_shape k p.formula (Rule s i p.over p.used m) is (r p.over p.used) in
    yields_map (m ds) (Says s.count p.formula ds) (IsConstraint s (Some i) (truths ds))
    (λ d a. record {
      formed = a.formed;
      yes = λ e n t. subst (λ o. TruthAt o (truths ds) e) (sym at) (a.yes e n t);
      no = λ e n t. subst (λ o. FalsityAt o (truths ds) e) (sym at) (a.no e n t);
    })
    (rule.made ds h l)

close_yields : (s : Sequent) (ds : List (List (List Literal))) → IsReducedSequent s → Yields (constraint_by s pick.Close ds) (IsConstraint s None (truths ds))
close_yields s ds h =
    let f = (closing_of s).value in
    let p = closing_presburger s h in
    let goal : List (List Literal) → Type 0 = IsConstraint s None (truths ds) in
    let log : Form → Reader (List (List Literal)) = (λ g. by_log (suc (depth g)) s.count g) in
    yields_next (reads_none (closing_of s)) log (λ g. g ≡ f) goal (yields_none (closing_of s) (λ g. g ≡ f) refl)
    (λ g is. subst (λ z. Yields (log z) goal) (sym is)
    (yields_map (log f) (λ d. IsExact d f s.count) goal
    (λ d x. record {
      formed = x.formed;
      yes = λ e l t w. (anywhere w f e p).1 ((x.tells e l).yes t);
      no = λ e l t w k. (x.tells e l).no t ((anywhere w f e p).0 k);
    })
    (log_exact (suc (depth f)) s.count f (omega arith) p)))

-- what a rule's constraint says, whatever the log
pub rule_yields : (s : Sequent) (p : Pick) (ds : List (List (List Literal))) → IsReducedSequent s → applies s p ≡ true → AllByRecursion AreFormed ds → length ds ≡ length (premises_by s (place p))
    → Yields (constraint_by s p ds) (IsConstraint s (place p) (truths ds))
rule_yields s (pick.Trivial i) ds r a h l = says_at s i Trivial (constraint_by s (pick.Trivial i)) (slice_get s.members i) ds refl a (trivial_rule s i) h l
rule_yields s (pick.Alpha i) ds r a h l = says_at s i Alpha (constraint_by s (pick.Alpha i)) (slice_get s.members i) ds refl a (alpha_rule s i) h l
rule_yields s (pick.Delta i) ds r a h l = says_at s i Delta (constraint_by s (pick.Delta i)) (slice_get s.members i) ds refl a (delta_rule s i) h l
rule_yields s (pick.Beta i) ds r a h l = says_at s i Beta (constraint_by s (pick.Beta i)) (slice_get s.members i) ds refl a (beta_rule s i) h l
rule_yields s (pick.Gamma i) ds r a h l = says_at s i Gamma (constraint_by s (pick.Gamma i)) (slice_get s.members i) ds refl a (gamma_rule s i) h l
rule_yields s pick.Close ds r a h l = close_yields s ds r
