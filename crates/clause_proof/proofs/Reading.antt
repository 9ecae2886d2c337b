-- Closures that are true where another is: bodies of for-somes at terms, and what is left of for-alls that read applications.
use Rattle.std.proofs.Common.{◌≡◌, ℕ, zero, suc, ◌≤◌, ◌<◌, ℤ, Bool, true, false, ◌&&◌, nat_eq, cond, List, [], ◌∷◌, ◌++◌, length, map, Option, Some, None, refl, sym, ap, ◌∙◌, subst, arith}
use Rattle.std.specs.List.{AllByRecursion, slice_get}
use Rattle.std.proofs.lemmas.Bool.{and_parts}
use Rattle.std.proofs.lemmas.List.Elements.{All-from_recursion}
use Rattle.linear_term.specs.Linear.{Linear, value_of, name, IsOver}
use Rattle.linear_term.proofs.Totals.{by_test, value_of-name}
use Rattle.form_typed.specs.Truth.{Meaning}
use Rattle.formula.specs.Form.{Form, FormTruth, Forms, equal, unequal, at_least, holds, fails, differs, conjunction, disjunction, universal, existential, no_form, and_form, values_of}
use Rattle.formula.proofs.Extending.{extends_more, entry_last, values_extend, over_name}
use Rattle.pred_unify.proofs.Clashes.{same_number}
use Rattle.sequent.proofs.Members.{all_at}
use Rattle.clause_proof.specs.declared.line.Application.{Application}
use Rattle.clause_proof.specs.declared.line.Literal.{Literal}
use Rattle.clause_proof.specs.Clauses.{Definition, closure, IsApplicationTrue, State, AreTrue, IsApplicationOver, IsFormedState}
use Rattle.form_closures.specs.Putting.{put_in}
use Rattle.clause_proof.specs.Atoms.{literal_of, same_term, same_terms}
use Rattle.clause_proof.specs.Lines.{each_false, Inner, implied_by, are_over, reads, reads_atom, second_form, second_of, read_one, read_all, bodies, found}
use Rattle.clause_proof.proofs.Canonical.{literal_means, literal_over}
use Rattle.clause_proof.proofs.Equality.{same_term_is, same_terms_are}
use Rattle.form_closures.proofs.Values.{put_values}
use Rattle.clause_proof.proofs.Over.{overs_are, Parts, parts_of}
use Rattle.clause_proof.proofs.Keeping.{Adds, adds_plain}
use Rattle.clause_proof.proofs.Opening.{old_false, each_clause, values_more, terms_with}

-- where the inner formula is true, so is the outer one
abbrev pub IsInward : Meaning → List ℤ → Form → List Linear → Inner → Type 0
IsInward w e f ts x = FormTruth w x.0 (values_of x.1 e) → FormTruth w f (values_of ts e)

pub implied_gives : (w : Meaning) (s : State) (i : ℕ) (m : Literal) (f : Form) (ts : List Linear) (x : Inner) → IsFormedState s → slice_get s.definitions i ≡ Some (closure f ts)
    → AllByRecursion (IsOver s.count) x.1 → ((e : List ℤ) → AreTrue w e s → IsInward w e f ts x) → Adds w s (implied_by s i m x)
implied_gives w s i m f ts x formed is over inward =
    adds_plain w s (literal_of x.0 x.1 ∷ []) (m ∷ []) (each_false i (m ∷ [])) formed (literal_over s.count x.0 x.1 over, tt)
    (λ ds g st e len t. each_clause w e ds i (literal_of x.0 x.1 ∷ []) (m ∷ []) st
    (λ n. ((λ k. old_false w e s.definitions ds i (closure f ts) g is n (inward e t ((literal_means w x.0 x.1 e).there k))), tt)))

here_inward : (w : Meaning) (e : List ℤ) (f : Form) (ts : List Linear) (x : Inner) → Some (f, ts) ≡ Some x → IsInward w e f ts x
here_inward w e f ts x is = let one : (f, ts) ≡ x = cc in subst (IsInward w e f ts) one (λ h. h)

-- ---- instances
pub bodies_inward : (w : Meaning) (e : List ℤ) (us : List Linear) (f : Form) (ts : List Linear) (x : Inner) → bodies us f ts ≡ Some x → IsInward w e f ts x
bodies_inward w e [] f ts x is = here_inward w e f ts x is
bodies_inward w e (u ∷ us) (existential f) ts x is =
    λ h nobody. nobody (value_of u e) (subst (FormTruth w f) (values_more ts u e) (bodies_inward w e us f (ts ++ u ∷ []) x is h))
bodies_inward w e (u ∷ us) (universal f) ts x is = absurd (cc)
bodies_inward w e (u ∷ us) (conjunction fs) ts x is = absurd (cc)
bodies_inward w e (u ∷ us) (disjunction fs) ts x is = absurd (cc)
bodies_inward w e (u ∷ us) (equal t) ts x is = absurd (cc)
bodies_inward w e (u ∷ us) (unequal t) ts x is = absurd (cc)
bodies_inward w e (u ∷ us) (at_least t) ts x is = absurd (cc)
bodies_inward w e (u ∷ us) (holds p ss) ts x is = absurd (cc)
bodies_inward w e (u ∷ us) (fails p ss) ts x is = absurd (cc)
bodies_inward w e (u ∷ us) (differs p ss t) ts x is = absurd (cc)

pub bodies_over : (n : ℕ) (us : List Linear) (f : Form) (ts : List Linear) (x : Inner) → AllByRecursion (IsOver n) us → AllByRecursion (IsOver n) ts → bodies us f ts ≡ Some x → AllByRecursion (IsOver n) x.1
bodies_over n [] f ts x h k is = let one : ts ≡ x.1 = cc in subst (AllByRecursion (IsOver n)) one k
bodies_over n (u ∷ us) (existential f) ts x h k is = bodies_over n us f (ts ++ u ∷ []) x h.1 (terms_with n ts u k h.0) is
bodies_over n (u ∷ us) (universal f) ts x h k is = absurd (cc)
bodies_over n (u ∷ us) (conjunction fs) ts x h k is = absurd (cc)
bodies_over n (u ∷ us) (disjunction fs) ts x h k is = absurd (cc)
bodies_over n (u ∷ us) (equal t) ts x h k is = absurd (cc)
bodies_over n (u ∷ us) (unequal t) ts x h k is = absurd (cc)
bodies_over n (u ∷ us) (at_least t) ts x h k is = absurd (cc)
bodies_over n (u ∷ us) (holds p ss) ts x h k is = absurd (cc)
bodies_over n (u ∷ us) (fails p ss) ts x h k is = absurd (cc)
bodies_over n (u ∷ us) (differs p ss t) ts x h k is = absurd (cc)

-- ---- applications that are read
values_length : (ts : List Linear) (e : List ℤ) → length (values_of ts e) ≡ length ts
values_length [] e = refl
values_length (t ∷ ts) e = ap suc (values_length ts e)

-- the value of the function, as the application knows it
known_value : (w : Meaning) (e : List ℤ) (x : Application) (ts : List Linear) (f : ℕ) (ss : List Linear) (u : Linear) (v : ℤ) → IsApplicationTrue w e x → reads x f ss (length ts) ts u ≡ true
    → w.value f (values_of ss (values_of ts e ++ v ∷ [])) ≡ value_of u (values_of ts e ++ v ∷ []) → value_of (name x.constant) e ≡ v
known_value w e x ts f ss u v true_is test eq =
    let n = length ts in
    let vs = values_of ts e in
    let a = and_parts (nat_eq x.function f) (are_over n ss && (same_terms (map (put_in ts) ss) x.terms && same_term u (name n))) test in
    let b = and_parts (are_over n ss) (same_terms (map (put_in ts) ss) x.terms && same_term u (name n)) a.1 in
    let c = and_parts (same_terms (map (put_in ts) ss) x.terms) (same_term u (name n)) b.1 in
    let len : length vs ≡ n = values_length ts e in
    let before : values_of ss (vs ++ v ∷ []) ≡ values_of ss vs = values_extend n (suc n) vs (vs ++ v ∷ []) ss (extends_more n vs v len) (All-from_recursion (IsOver n) ss (overs_are n ss b.0)) in
    let args : values_of ss (vs ++ v ∷ []) ≡ values_of x.terms e = before ∙ sym (put_values ts ss e) ∙ ap (λ us. values_of us e) (same_terms_are (map (put_in ts) ss) x.terms c.0) in
    let own : value_of u (vs ++ v ∷ []) ≡ v = ap (λ t. value_of t (vs ++ v ∷ [])) (same_term_is u (name n) c.1) ∙ value_of-name n (vs ++ v ∷ []) ∙ entry_last n vs v len in
    let whole : w.value x.function (values_of x.terms e) ≡ w.value f (values_of ss (vs ++ v ∷ [])) = λ i. w.value (same_number x.function f a.0 i) (sym args i) in
    sym true_is ∙ whole ∙ eq ∙ own

reads_inward : (w : Meaning) (e : List ℤ) (x : Application) (ts : List Linear) (a b : Form) → IsApplicationTrue w e x → reads_atom x ts a ≡ true
    → FormTruth w b (values_of (ts ++ name x.constant ∷ []) e) → FormTruth w (universal (disjunction (and_form a (and_form b no_form)))) (values_of ts e)
reads_inward w e x ts (differs f ss u) b true_is test h =
    λ v none. none.0 (λ eq. none.1.0 (subst (λ z. FormTruth w b (values_of ts e ++ z ∷ [])) (known_value w e x ts f ss u v true_is test eq)
    (subst (FormTruth w b) (values_more ts (name x.constant) e) h)))
reads_inward w e x ts (equal t) b true_is test h = absurd (cc)
reads_inward w e x ts (unequal t) b true_is test h = absurd (cc)
reads_inward w e x ts (at_least t) b true_is test h = absurd (cc)
reads_inward w e x ts (holds p ss) b true_is test h = absurd (cc)
reads_inward w e x ts (fails p ss) b true_is test h = absurd (cc)
reads_inward w e x ts (conjunction fs) b true_is test h = absurd (cc)
reads_inward w e x ts (disjunction fs) b true_is test h = absurd (cc)
reads_inward w e x ts (universal g) b true_is test h = absurd (cc)
reads_inward w e x ts (existential g) b true_is test h = absurd (cc)

forms_inward : (w : Meaning) (e : List ℤ) (x : Application) (ts : List Linear) (fs : Forms) (g : Form) → IsApplicationTrue w e x → second_form (reads_atom x ts) fs ≡ Some g
    → FormTruth w g (values_of (ts ++ name x.constant ∷ []) e) → FormTruth w (universal (disjunction fs)) (values_of ts e)
forms_inward w e x ts (and_form a (and_form b no_form)) g true_is =
    by_test (λ o. o ≡ Some g → FormTruth w g (values_of (ts ++ name x.constant ∷ []) e) → FormTruth w (universal (disjunction (and_form a (and_form b no_form)))) (values_of ts e))
    (reads_atom x ts a) (Some b) None
    (λ test is h. let one : g ≡ b = cc in reads_inward w e x ts a b true_is test (subst (λ k. FormTruth w k (values_of (ts ++ name x.constant ∷ []) e)) one h))
    (λ miss is h. absurd (cc))
forms_inward w e x ts no_form g true_is = λ is h. absurd (cc)
forms_inward w e x ts (and_form a no_form) g true_is = λ is h. absurd (cc)
forms_inward w e x ts (and_form a (and_form b (and_form c fs))) g true_is = λ is h. absurd (cc)

second_inward : (w : Meaning) (e : List ℤ) (x : Application) (ts : List Linear) (f g : Form) → IsApplicationTrue w e x → second_of (reads_atom x ts) f ≡ Some g
    → FormTruth w g (values_of (ts ++ name x.constant ∷ []) e) → FormTruth w (universal f) (values_of ts e)
second_inward w e x ts (disjunction fs) g true_is is h = forms_inward w e x ts fs g true_is is h
second_inward w e x ts (conjunction fs) g true_is is h = absurd (cc)
second_inward w e x ts (universal f) g true_is is h = absurd (cc)
second_inward w e x ts (existential f) g true_is is h = absurd (cc)
second_inward w e x ts (equal t) g true_is is h = absurd (cc)
second_inward w e x ts (unequal t) g true_is is h = absurd (cc)
second_inward w e x ts (at_least t) g true_is is h = absurd (cc)
second_inward w e x ts (holds p ss) g true_is is h = absurd (cc)
second_inward w e x ts (fails p ss) g true_is is h = absurd (cc)
second_inward w e x ts (differs p ss u) g true_is is h = absurd (cc)

one_inward : (w : Meaning) (e : List ℤ) (x : Application) (ts : List Linear) (f g : Form) → IsApplicationTrue w e x → read_one x ts f ≡ Some g
    → FormTruth w g (values_of (ts ++ name x.constant ∷ []) e) → FormTruth w f (values_of ts e)
one_inward w e x ts (universal f) g true_is is h = second_inward w e x ts f g true_is is h
one_inward w e x ts (conjunction fs) g true_is is h = absurd (cc)
one_inward w e x ts (disjunction fs) g true_is is h = absurd (cc)
one_inward w e x ts (existential f) g true_is is h = absurd (cc)
one_inward w e x ts (equal t) g true_is is h = absurd (cc)
one_inward w e x ts (unequal t) g true_is is h = absurd (cc)
one_inward w e x ts (at_least t) g true_is is h = absurd (cc)
one_inward w e x ts (holds p ss) g true_is is h = absurd (cc)
one_inward w e x ts (fails p ss) g true_is is h = absurd (cc)
one_inward w e x ts (differs p ss u) g true_is is h = absurd (cc)

pub read_inward : (w : Meaning) (e : List ℤ) (apps : List Application) (bs : List ℕ) (f : Form) (ts : List Linear) (x : Inner) → AllByRecursion (IsApplicationTrue w e) apps
    → read_all apps bs f ts ≡ Some x → IsInward w e f ts x
read_inward w e apps [] f ts x all is = here_inward w e f ts x is
read_inward w e apps (b ∷ bs) f ts x all is =
    let p = parts_of (slice_get apps b) (λ a. found (read_one a ts f) (λ g. read_all apps bs g (ts ++ name a.constant ∷ []))) x is in
    let q = parts_of (read_one p.one ts f) (λ g. read_all apps bs g (ts ++ name p.one.constant ∷ [])) x p.rest in
    λ h. one_inward w e p.one ts f q.one (all_at (IsApplicationTrue w e) apps b p.one p.at all) q.at (read_inward w e apps bs q.one (ts ++ name p.one.constant ∷ []) x all q.rest h)

pub read_over : (n : ℕ) (apps : List Application) (bs : List ℕ) (f : Form) (ts : List Linear) (x : Inner) → AllByRecursion (IsApplicationOver n) apps → AllByRecursion (IsOver n) ts
    → read_all apps bs f ts ≡ Some x → AllByRecursion (IsOver n) x.1
read_over n apps [] f ts x h k is = let one : ts ≡ x.1 = cc in subst (AllByRecursion (IsOver n)) one k
read_over n apps (b ∷ bs) f ts x h k is =
    let p = parts_of (slice_get apps b) (λ a. found (read_one a ts f) (λ g. read_all apps bs g (ts ++ name a.constant ∷ []))) x is in
    let q = parts_of (read_one p.one ts f) (λ g. read_all apps bs g (ts ++ name p.one.constant ∷ [])) x p.rest in
    read_over n apps bs q.one (ts ++ name p.one.constant ∷ []) x h
    (terms_with n ts (name p.one.constant) k (over_name n p.one.constant (all_at (IsApplicationOver n) apps b p.one p.at h).constant)) q.rest
