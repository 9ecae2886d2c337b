-- Bodies and readings, one more each time.
use Rattle.std.proofs.Common.{◌≡◌, ◌≢◌, ℕ, zero, suc, ◌+◌, ◌<◌, ◌≤◌, Bool, true, false, cond, List, [], ◌∷◌, ◌++◌, length, drop, get_or, Option, Some, None, Result, Ok, Err, IsErrAnd, refl, sym, ap, ◌∙◌, subst, arith}
use Rattle.std.specs.Borrow.{Bor}
use Rattle.std.specs.List.{slice_get}
use Rattle.std.specs.Option.{option_copied}
use Rattle.base_budget.proofs.Charging.{drop-item, drop_all}
use Rattle.linear_term.specs.Linear.{Linear, name}
use Rattle.formula.specs.Form.{Form, equal, unequal, at_least, holds, fails, differs, conjunction, disjunction, universal, existential}
use Rattle.formula.specs.Tree.{form, forms_of}
use Rattle.formula.specs.declared.calculus.Core.{Core}
use Rattle.clause_proof.specs.declared.line.Application.{Application}
use Rattle.clause_proof.specs.declared.line.Literal.{Literal}
use Rattle.clause_proof.specs.Clauses as q
use Rattle.clause_proof.specs.Lines.{Inner, found, extended, implied_by, instanced, are_over, bodies, read_all, read_one, second_form, Addition}
use Rattle.clause_checker.specs.declared.fault.Fault.{Fault}
use Rattle.clause_checker.specs.declared.fault.Fault.TheVariants.{Refused}
use Rattle.clause_checker.specs.Answers.{Does}
use Rattle.clause_checker.specs.Views.{inner_of, pair_up, body_at, read_at}
use Rattle.clause_checker.proofs.Doing.{does_some, does_none, does_cut, does_on, does_then, does_err, does_as}

-- ---- bodies
pub record BodiesLeft (us : List Linear) (f : Form) (ts : List Linear) (all : Option Inner) : Type 0 where
  pub is : all ≡ bodies us f ts

pub bodies_begin : (us : List Linear) (f : Form) (ts : List Linear) → BodiesLeft us f ts (bodies us f ts)
bodies_begin us f ts = record { is = refl }

body_then : (u : Linear) (us : List Linear) (f : Form) (ts : List Linear) → bodies (u ∷ us) f ts ≡ found (body_at f) (λ g. bodies us g (ts ++ u ∷ []))
body_then u us (existential f) ts = refl
body_then u us (universal f) ts = refl
body_then u us (conjunction fs) ts = refl
body_then u us (disjunction fs) ts = refl
body_then u us (equal t) ts = refl
body_then u us (unequal t) ts = refl
body_then u us (at_least t) ts = refl
body_then u us (holds p ss) ts = refl
body_then u us (fails p ss) ts = refl
body_then u us (differs p ss t) ts = refl

body_is : (us : List Linear) (i : ℕ) (u : Linear) (f : Form) (ts : List Linear) (all : Option Inner) → i < length us → u ≡ get_or us i u → BodiesLeft (drop i us) f ts all
    → all ≡ found (body_at f) (λ g. bodies (drop (i + 1) us) g (ts ++ u ∷ []))
body_is us i u f ts all lt is h = h.is ∙ ap (λ l. bodies l f ts) (drop-item us i u lt is) ∙ body_then u (drop (i + 1) us) f ts

pub body_goes : (us : List Linear) (i : ℕ) (u : Linear) (f : Form) (ts vs : List Linear) (g : Bor Core) (all : Option Inner) → i < length us → u ≡ get_or us i u → BodiesLeft (drop i us) f ts all
    → Does (λ (x : Bor Core). form x.now) (body_at f) (Ok g) → vs ≡ ts ++ u ∷ [] → BodiesLeft (drop (i + 1) us) (form g.now) vs all
body_goes us i u f ts vs g all lt is h d more =
    record { is = body_is us i u f ts all lt is h ∙ ap (λ x. found x (λ g. bodies (drop (i + 1) us) g (ts ++ u ∷ []))) (d.ok g refl) ∙ ap (bodies (drop (i + 1) us) (form g.now)) (sym more) }

pub body_stops : {A : Type 0} (v : A → Inner) (us : List Linear) (i : ℕ) (u : Linear) (f : Form) (ts : List Linear) (all : Option Inner) (e : Fault) (r : Result A Fault) → i < length us → u ≡ get_or us i u → BodiesLeft (drop i us) f ts all
    → IsErrAnd r (λ y. y ≡ e) → Does (λ (x : Bor Core). form x.now) (body_at f) (Err e) → Does v all r
body_stops v us i u f ts all e r lt is h err d =
    does_as v _ all r (body_is us i u f ts all lt is h) (does_err (λ (x : Bor Core). form x.now) v (body_at f) (λ g. bodies (drop (i + 1) us) g (ts ++ u ∷ [])) e r err d)

pub bodies_end : (us : List Linear) (i : ℕ) (x : Bor Core × List Linear) (all : Option Inner) → length us ≤ i → BodiesLeft (drop i us) (form x.0.now) x.1 all → Does inner_of all (Ok x)
bodies_end us i x all le h = does_some inner_of all x (h.is ∙ ap (λ l. bodies l (form x.0.now) x.1) (drop_all us i le))

pub ruleset bodies_ones = (bodies_begin, body_goes, body_stops, bodies_end, does_on)

-- ---- instances
instance_is : (s : q.State) (i : ℕ) (us : List Linear) (m : Literal) (f : Form) (ts : List Linear) (b : Bool) → b ≡ are_over s.count us → b ≡ true
    → found (instanced s i us m f ts) (extended s) ≡ found (bodies us f ts) (λ x. found (implied_by s i m x) (extended s))
instance_is s i us m f ts b is yes_is = ap (λ c. found (cond c (found (bodies us f ts) (implied_by s i m)) None) (extended s)) (sym is ∙ yes_is) ∙ twice (bodies us f ts)
  where
    twice : (o : Option Inner) → found (found o (implied_by s i m)) (extended s) ≡ found o (λ x. found (implied_by s i m x) (extended s))
    twice None = refl
    twice (Some x) = refl

pub instance_not : {A : Type 0} (v : A → q.State) (s : q.State) (i : ℕ) (us : List Linear) (m : Literal) (f : Form) (ts : List Linear) (b : Bool) → b ≡ are_over s.count us → b ≡ false
    → Does v (found (instanced s i us m f ts) (extended s)) (Err Refused)
instance_not v s i us m f ts b is no_is = does_none v (found (instanced s i us m f ts) (extended s)) (ap (λ c. found (cond c (found (bodies us f ts) (implied_by s i m)) None) (extended s)) (sym is ∙ no_is))

pub instance_goes : {A : Type 0} (v : A → q.State) (s : q.State) (i : ℕ) (us : List Linear) (m : Literal) (f : Form) (ts : List Linear) (b : Bool) (x : Bor Core × List Linear) (r : Result A Fault)
    → b ≡ are_over s.count us → b ≡ true → Does inner_of (bodies us f ts) (Ok x) → Does v (found (implied_by s i m (form x.0.now, x.1)) (extended s)) r → Does v (found (instanced s i us m f ts) (extended s)) r
instance_goes v s i us m f ts b x r is yes_is d h =
    does_as v _ (found (instanced s i us m f ts) (extended s)) r (instance_is s i us m f ts b is yes_is) (does_then inner_of v (bodies us f ts) (λ y. found (implied_by s i m y) (extended s)) x r d h)

pub instance_stops : {A : Type 0} (v : A → q.State) (s : q.State) (i : ℕ) (us : List Linear) (m : Literal) (f : Form) (ts : List Linear) (b : Bool) (e : Fault) (r : Result A Fault)
    → b ≡ are_over s.count us → b ≡ true → IsErrAnd r (λ y. y ≡ e) → Does inner_of (bodies us f ts) (Err e) → Does v (found (instanced s i us m f ts) (extended s)) r
instance_stops v s i us m f ts b e r is yes_is err d =
    does_as v _ (found (instanced s i us m f ts) (extended s)) r (instance_is s i us m f ts b is yes_is) (does_err inner_of v (bodies us f ts) (λ y. found (implied_by s i m y) (extended s)) e r err d)

pub ruleset instances = (instance_not, instance_goes, instance_stops)

-- ---- two members
two_forms : (fs : List Core) (a b : Core) → length fs ≡ 2 → slice_get fs 0 ≡ Some a → slice_get fs 1 ≡ Some b → fs ≡ a ∷ b ∷ []
two_forms [] a b len x y = absurd (cc)
two_forms (c ∷ []) a b len x y = absurd (cc)
two_forms (c ∷ d ∷ []) a b len x y = let one : c ≡ a = cc in let two : d ≡ b = cc in λ i. one i ∷ two i ∷ []
two_forms (c ∷ d ∷ g ∷ fs) a b len x y = absurd (omega (arith, len))

not_two : (test : Form → Bool) (fs : List Core) → length fs ≢ 2 → second_form test (forms_of fs) ≡ None
not_two test [] n = refl
not_two test (a ∷ []) n = refl
not_two test (a ∷ b ∷ []) n = absurd (n refl)
not_two test (a ∷ b ∷ c ∷ fs) n = refl

pub second_not : {A : Type 0} (v : A → Form) (test : Form → Bool) (fs : List Core) → length fs ≢ 2 → Does v (second_form test (forms_of fs)) (Err Refused)
second_not v test fs n = does_none v (second_form test (forms_of fs)) (not_two test fs n)

pub second_lacks : {A : Type 0} (v : A → Form) (test : Form → Bool) (fs : List Core) (i : ℕ) (o : Option (Bor Core)) → length fs ≡ 2 → i < 2 → option_copied o ≡ slice_get fs i → o ≡ None → Does v (second_form test (forms_of fs)) (Err Refused)
second_lacks v test fs i o len lt is at = absurd (there fs i (subst (λ n. i < n) (sym len) lt) (sym is ∙ ap option_copied at))
  where
    there : (xs : List Core) (j : ℕ) → j < length xs → slice_get xs j ≡ None → ⊥
    there [] j lt h = absurd (omega (arith, lt))
    there (x ∷ xs) zero lt h = absurd (cc)
    there (x ∷ xs) (suc j) lt h = there xs j (omega (arith, lt)) h

second_is : (test : Form → Bool) (fs : List Core) (oa ob : Option (Bor Core)) (a b : Bor Core) (t : Bool) → length fs ≡ 2 → option_copied oa ≡ slice_get fs 0 → oa ≡ Some a → option_copied ob ≡ slice_get fs 1 → ob ≡ Some b
    → t ≡ test (form a.now) → second_form test (forms_of fs) ≡ cond t (Some (form b.now)) None
second_is test fs oa ob a b t len ia ha ib hb is =
    ap (λ l. second_form test (forms_of l)) (two_forms fs a.now b.now len (sym ia ∙ ap option_copied ha) (sym ib ∙ ap option_copied hb)) ∙ ap (λ c. cond c (Some (form b.now)) None) (sym is)

pub second_yes : (test : Form → Bool) (fs : List Core) (oa ob : Option (Bor Core)) (a b : Bor Core) (t : Bool) → length fs ≡ 2 → option_copied oa ≡ slice_get fs 0 → oa ≡ Some a → option_copied ob ≡ slice_get fs 1 → ob ≡ Some b
    → t ≡ test (form a.now) → t ≡ true → Does (λ (g : Bor Core). form g.now) (second_form test (forms_of fs)) (Ok b)
second_yes test fs oa ob a b t len ia ha ib hb is yes_is =
    does_some (λ (g : Bor Core). form g.now) (second_form test (forms_of fs)) b (second_is test fs oa ob a b t len ia ha ib hb is ∙ ap (λ c. cond c (Some (form b.now)) None) yes_is)

pub second_no : {A : Type 0} (v : A → Form) (test : Form → Bool) (fs : List Core) (oa ob : Option (Bor Core)) (a b : Bor Core) (t : Bool) → length fs ≡ 2 → option_copied oa ≡ slice_get fs 0 → oa ≡ Some a → option_copied ob ≡ slice_get fs 1 → ob ≡ Some b
    → t ≡ test (form a.now) → t ≡ false → Does v (second_form test (forms_of fs)) (Err Refused)
second_no v test fs oa ob a b t len ia ha ib hb is no_is =
    does_none v (second_form test (forms_of fs)) (second_is test fs oa ob a b t len ia ha ib hb is ∙ ap (λ c. cond c (Some (form b.now)) None) no_is)

pub ruleset seconds = (second_not, second_lacks, second_yes, second_no, does_cut, does_on)

-- ---- applications
pub application_some : (xs : List Application) (i : ℕ) (o : Option (Bor Application)) (x : Bor Application) → option_copied o ≡ slice_get xs i → o ≡ Some x → Does (λ (y : Bor Application). y.now) (slice_get xs i) (Ok x)
application_some xs i o x is at = does_some (λ (y : Bor Application). y.now) (slice_get xs i) x (sym is ∙ ap option_copied at)

pub application_none : {A : Type 0} (v : A → Application) (xs : List Application) (i : ℕ) (o : Option (Bor Application)) → option_copied o ≡ slice_get xs i → o ≡ None → Does v (slice_get xs i) (Err Refused)
application_none v xs i o is at = does_none v (slice_get xs i) (sym is ∙ ap option_copied at)

pub ruleset applications = (application_some, application_none)

pub step_ends : (g : Form) (ts us : List Linear) (c : ℕ) (x : Bor Core × List Linear) → g ≡ form x.0.now → us ≡ x.1 → us ≡ ts ++ name c ∷ [] → Does inner_of (Some (g, ts ++ name c ∷ [])) (Ok x)
step_ends g ts us c x is same more = does_some inner_of (Some (g, ts ++ name c ∷ [])) x (λ i. Some (is i, (sym more ∙ same) i))

pub ruleset steps = (does_then, does_err, does_some, does_cut, does_on)

-- ---- readings
pub record ReadLeft (apps : List Application) (bs : List ℕ) (f : Form) (ts : List Linear) (all : Option Inner) : Type 0 where
  pub is : all ≡ read_all apps bs f ts

pub read_begins : (apps : List Application) (bs : List ℕ) (f : Form) (ts : List Linear) → ReadLeft apps bs f ts (read_all apps bs f ts)
read_begins apps bs f ts = record { is = refl }

abbrev after_reading : List Application → List ℕ → Inner → Option Inner
after_reading apps bs y = read_all apps bs y.0 y.1

read_parts : (apps : List Application) (b : ℕ) (bs : List ℕ) (f : Form) (ts : List Linear) → read_all apps (b ∷ bs) f ts ≡ found (read_at apps b f ts) (after_reading apps bs)
read_parts apps b bs f ts = at_x (slice_get apps b)
  where
    at_g : (x : Application) (o : Option Form) → found o (λ g. read_all apps bs g (ts ++ name x.constant ∷ [])) ≡ found (found o (λ g. pair_up g (ts ++ name x.constant ∷ []))) (after_reading apps bs)
    at_g x None = refl
    at_g x (Some g) = refl

    at_x : (o : Option Application) → found o (λ x. found (read_one x ts f) (λ g. read_all apps bs g (ts ++ name x.constant ∷ [])))
        ≡ found (found o (λ x. found (read_one x ts f) (λ g. pair_up g (ts ++ name x.constant ∷ [])))) (after_reading apps bs)
    at_x None = refl
    at_x (Some x) = at_g x (read_one x ts f)

read_is : (apps : List Application) (bs : List ℕ) (i b : ℕ) (f : Form) (ts : List Linear) (all : Option Inner) → i < length bs → b ≡ get_or bs i b → ReadLeft apps (drop i bs) f ts all
    → all ≡ found (read_at apps b f ts) (after_reading apps (drop (i + 1) bs))
read_is apps bs i b f ts all lt is h = h.is ∙ ap (λ l. read_all apps l f ts) (drop-item bs i b lt is) ∙ read_parts apps b (drop (i + 1) bs) f ts

pub read_goes : (apps : List Application) (bs : List ℕ) (i b : ℕ) (f : Form) (ts : List Linear) (x : Bor Core × List Linear) (all : Option Inner) → i < length bs → b ≡ get_or bs i b → ReadLeft apps (drop i bs) f ts all
    → Does inner_of (read_at apps b f ts) (Ok x) → ReadLeft apps (drop (i + 1) bs) (form x.0.now) x.1 all
read_goes apps bs i b f ts x all lt is h d = record { is = read_is apps bs i b f ts all lt is h ∙ ap (λ o. found o (after_reading apps (drop (i + 1) bs))) (d.ok x refl) }

pub read_stops : {A : Type 0} (v : A → Inner) (apps : List Application) (bs : List ℕ) (i b : ℕ) (f : Form) (ts : List Linear) (all : Option Inner) (e : Fault) (r : Result A Fault) → i < length bs → b ≡ get_or bs i b
    → ReadLeft apps (drop i bs) f ts all → IsErrAnd r (λ y. y ≡ e) → Does inner_of (read_at apps b f ts) (Err e) → Does v all r
read_stops v apps bs i b f ts all e r lt is h err d =
    does_as v _ all r (read_is apps bs i b f ts all lt is h) (does_err inner_of v (read_at apps b f ts) (after_reading apps (drop (i + 1) bs)) e r err d)

pub reads_end : (apps : List Application) (bs : List ℕ) (i : ℕ) (x : Bor Core × List Linear) (all : Option Inner) → length bs ≤ i → ReadLeft apps (drop i bs) (form x.0.now) x.1 all → Does inner_of all (Ok x)
reads_end apps bs i x all le h = does_some inner_of all x (h.is ∙ ap (λ l. read_all apps l (form x.0.now) x.1) (drop_all bs i le))

pub ruleset reading_ones = (read_begins, read_goes, read_stops, reads_end)

found_twice : {A B C : Type 0} (o : Option A) (f : A → Option B) (g : B → Option C) → found (found o f) g ≡ found o (λ x. found (f x) g)
found_twice None f g = refl
found_twice (Some x) f g = refl

pub reading_goes : {A C : Type 0} (v : A → C) (o : Option Inner) (k : Inner → Option Addition) (g : Addition → Option C) (x : Bor Core × List Linear) (r : Result A Fault)
    → Does inner_of o (Ok x) → Does v (found (k (form x.0.now, x.1)) g) r → Does v (found (found o k) g) r
reading_goes v o k g x r d h = does_as v _ (found (found o k) g) r (found_twice o k g) (does_then inner_of v o (λ y. found (k y) g) x r d h)

pub reading_stops : {A C : Type 0} (v : A → C) (o : Option Inner) (k : Inner → Option Addition) (g : Addition → Option C) (e : Fault) (r : Result A Fault)
    → IsErrAnd r (λ y. y ≡ e) → Does inner_of o (Err e) → Does v (found (found o k) g) r
reading_stops v o k g e r err d = does_as v _ (found (found o k) g) r (found_twice o k g) (does_err inner_of v o (λ y. found (k y) g) e r err d)

pub ruleset readings = (reading_goes, reading_stops)
