-- What was true of variables, applications and clauses stays true when more are there, and more constants; and what a new
-- literal stands for.
use Rattle.std.proofs.Common.{◌≡◌, ℕ, zero, suc, ◌<◌, ◌≤◌, ℤ, pos, ◌≤ℤ◌, Bool, true, false, not, List, [], ◌∷◌, ◌++◌, length, map, nat_eq, cond, Option, Some, None, refl, sym, ap, ◌∙◌, subst, arith}
use Rattle.std.specs.List.{AllByRecursion, slice_get}
use Rattle.std.proofs.lemmas.List.Elements.{All-from_recursion}
use Rattle.linear_term.specs.Linear.{Linear, value_of, name, IsOver}
use Rattle.linear_term.proofs.Totals.{by_test}
use Rattle.form_typed.specs.Truth.{Meaning}
use Rattle.formula.specs.Form.{FormTruth, values_of}
use Rattle.formula.proofs.Extending.{Extends, extends_refl, value_extends, values_extend, over_more, over_name}
use Rattle.pred_unify.proofs.Clashes.{same_number}
use Rattle.sequent.proofs.Members.{all_append, all_same, all_at}
use Rattle.clause_proof.specs.declared.line.Application.{Application}
use Rattle.clause_proof.specs.declared.line.Literal.{Literal}
use Rattle.clause_proof.specs.Clauses.{Definition, always, at_least_zero, is_zero, predicate, closure, DefinitionTruth, IsApplicationTrue, State, IsSo, IsFoundSo, LiteralTruth, ClauseTruth, IsKeptTrue, AreTrue, AreClausesRefuted, IsDefinitionOver, IsApplicationOver, IsFormedState}
use Rattle.clause_proof.specs.Atoms.{Signed, other, same_definition}
use Rattle.clause_proof.specs.Lines.{found, same_sign, opposite, Addition, known_as, stand, stand_all, extended, adding}
use Rattle.clause_proof.specs.Proofs.{KeepsTruth}
use Rattle.clause_proof.proofs.Canonical.{Same, both, as_types, same_all, IsSigned, IsSignedOver, other_means}
use Rattle.clause_proof.proofs.Equality.{same_definition_is, signs}

-- ---- more constants
pub all_of : (n : ℕ) (ts : List Linear) → AllByRecursion (IsOver n) ts → (m : ℕ) (e e' : List ℤ) → Extends n e m e' → values_of ts e ≡ values_of ts e'
all_of n ts h m e e' x = sym (values_extend n m e e' ts x (All-from_recursion (IsOver n) ts h))

pub definition_same : (w : Meaning) (n m : ℕ) (e e' : List ℤ) (d : Definition) → Extends n e m e' → IsDefinitionOver n d → Same (DefinitionTruth w e d) (DefinitionTruth w e' d)
definition_same w n m e e' always x h = same_all
definition_same w n m e e' (at_least_zero t) x h = as_types (ap (λ z. pos 0 ≤ℤ z) (sym (value_extends n m e e' t x h)))
definition_same w n m e e' (is_zero t) x h = as_types (ap (λ z. z ≡ pos 0) (sym (value_extends n m e e' t x h)))
definition_same w n m e e' (predicate p ts) x h = as_types (ap (λ vs. w.truth p vs ≡ true) (all_of n ts h m e e' x))
definition_same w n m e e' (closure f ts) x h = as_types (ap (FormTruth w f) (all_of n ts h m e e' x))

so_stays : (w : Meaning) (n m : ℕ) (e e' : List ℤ) (b : Bool) (d : Definition) → Extends n e m e' → IsDefinitionOver n d → IsSo w e b d → IsSo w e' b d
so_stays w n m e e' true d x h k = (definition_same w n m e e' d x h).there k
so_stays w n m e e' false d x h k = λ t. k ((definition_same w n m e e' d x h).back t)

application_stays : (w : Meaning) (n m : ℕ) (e e' : List ℤ) (a : Application) → Extends n e m e' → IsApplicationOver n a → IsApplicationTrue w e a → IsApplicationTrue w e' a
application_stays w n m e e' a x h k =
    ap (w.value a.function) (sym (all_of n a.terms h.terms m e e' x)) ∙ k ∙ sym (value_extends n m e e' (name a.constant) x (over_name n a.constant h.constant))

applications_stay : (w : Meaning) (n m : ℕ) (e e' : List ℤ) (xs : List Application) → Extends n e m e' → AllByRecursion (IsApplicationOver n) xs
    → AllByRecursion (IsApplicationTrue w e) xs → AllByRecursion (IsApplicationTrue w e') xs
applications_stay w n m e e' [] x h k = tt
applications_stay w n m e e' (a ∷ more) x h k = (application_stays w n m e e' a x h.0 k.0, applications_stay w n m e e' more x h.1 k.1)

-- ---- over more constants
terms_more : (n m : ℕ) (ts : List Linear) → n ≤ m → AllByRecursion (IsOver n) ts → AllByRecursion (IsOver m) ts
terms_more n m ts le h = all_same (IsOver n) (IsOver m) ts (λ t k. over_more n m t le k) h

definition_more : (n m : ℕ) (d : Definition) → n ≤ m → IsDefinitionOver n d → IsDefinitionOver m d
definition_more n m always le h = tt
definition_more n m (at_least_zero t) le h = over_more n m t le h
definition_more n m (is_zero t) le h = over_more n m t le h
definition_more n m (predicate p ts) le h = terms_more n m ts le h
definition_more n m (closure f ts) le h = terms_more n m ts le h

application_more : (n m : ℕ) (a : Application) → n ≤ m → IsApplicationOver n a → IsApplicationOver m a
application_more n m a le h = record { terms = terms_more n m a.terms le h.terms; constant = omega (arith, le, h.constant) }

-- ---- more variables
pub record Grows (cs ds : List Definition) : Type 0 where
  pub still : (i : ℕ) (d : Definition) → slice_get cs i ≡ Some d → slice_get ds i ≡ Some d

grows_same : (ds : List Definition) → Grows ds ds
grows_same ds = record { still = λ i d h. h }

grows_trans : (bs cs ds : List Definition) → Grows bs cs → Grows cs ds → Grows bs ds
grows_trans bs cs ds h k = record { still = λ i d is. k.still i d (h.still i d is) }

get_left : {X : Type 0} (xs ys : List X) (i : ℕ) (x : X) → slice_get xs i ≡ Some x → slice_get (xs ++ ys) i ≡ Some x
get_left [] ys i x h = absurd (cc)
get_left (y ∷ xs) ys zero x h = h
get_left (y ∷ xs) ys (suc i) x h = get_left xs ys i x h

get_here : {X : Type 0} (xs : List X) (y : X) (ys : List X) → slice_get (xs ++ y ∷ ys) (length xs) ≡ Some y
get_here [] y ys = refl
get_here (x ∷ xs) y ys = get_here xs y ys

-- what is so of a variable that was found
pub found_so : (w : Meaning) (e : List ℤ) (b : Bool) (ds : List Definition) (i : ℕ) (d : Definition) → slice_get ds i ≡ Some d → IsSo w e b d → IsFoundSo w e b (slice_get ds i)
found_so w e b ds i d is h = subst (λ o. IsFoundSo w e b o) (sym is) h

literal_at : (w : Meaning) (n m : ℕ) (e e' : List ℤ) (cs ds : List Definition) (b : Bool) (i : ℕ) (o : Option Definition) → Extends n e m e' → AllByRecursion (IsDefinitionOver n) cs → Grows cs ds
    → slice_get cs i ≡ o → IsFoundSo w e b o → IsFoundSo w e' b (slice_get ds i)
literal_at w n m e e' cs ds b i None x f g is h = absurd h
literal_at w n m e e' cs ds b i (Some d) x f g is h =
    found_so w e' b ds i d (g.still i d is) (so_stays w n m e e' b d x (all_at (IsDefinitionOver n) cs i d is f) h)

literal_stays : (w : Meaning) (n m : ℕ) (e e' : List ℤ) (cs ds : List Definition) (l : Literal) → Extends n e m e' → AllByRecursion (IsDefinitionOver n) cs → Grows cs ds
    → LiteralTruth w e cs l → LiteralTruth w e' ds l
literal_stays w n m e e' cs ds l x f g h = literal_at w n m e e' cs ds l.positive l.variable (slice_get cs l.variable) x f g refl h

pub clause_stays : (w : Meaning) (n m : ℕ) (e e' : List ℤ) (cs ds : List Definition) (c : List Literal) → Extends n e m e' → AllByRecursion (IsDefinitionOver n) cs → Grows cs ds
    → ClauseTruth w e cs c → ClauseTruth w e' ds c
clause_stays w n m e e' cs ds c x f g h none =
    h (all_same (λ l. ¬ (LiteralTruth w e' ds l)) (λ l. ¬ (LiteralTruth w e cs l)) c (λ l k t. k (literal_stays w n m e e' cs ds l x f g t)) none)

kept_stays : (w : Meaning) (n m : ℕ) (e e' : List ℤ) (cs ds : List Definition) (c : Option (List Literal)) → Extends n e m e' → AllByRecursion (IsDefinitionOver n) cs → Grows cs ds
    → IsKeptTrue w e cs c → IsKeptTrue w e' ds c
kept_stays w n m e e' cs ds None x f g h = tt
kept_stays w n m e e' cs ds (Some c) x f g h = clause_stays w n m e e' cs ds c x f g h

pub all_kept : (w : Meaning) (e : List ℤ) (ds : List Definition) (cs : List (List Literal)) → AllByRecursion (ClauseTruth w e ds) cs → AllByRecursion (IsKeptTrue w e ds) (map Some cs)
all_kept w e ds [] h = tt
all_kept w e ds (c ∷ cs) h = (h.0, all_kept w e ds cs h.1)

-- ---- what a literal stands for
pub record Stands (ds : List Definition) (x : Signed) (m : Literal) : Type 0 where
  pub sign : x.positive ≡ m.positive
  pub there : slice_get ds m.variable ≡ Some x.definition

abbrev pub AreStanding : List Definition → List Signed → List Literal → Type 0
AreStanding ds [] [] = Unit {0}
AreStanding ds [] (m ∷ ms) = ⊥
AreStanding ds (x ∷ xs) [] = ⊥
AreStanding ds (x ∷ xs) (m ∷ ms) = Stands ds x m × AreStanding ds xs ms

pub literal_is : (w : Meaning) (e : List ℤ) (ds : List Definition) (x : Signed) (m : Literal) → Stands ds x m → Same (LiteralTruth w e ds m) (IsSigned w e x)
literal_is w e ds x m h = as_types (λ i. IsFoundSo w e (sym h.sign i) (h.there i))

opposite_stands : (ds : List Definition) (x : Signed) (m : Literal) → Stands ds x m → Stands ds (other x) (opposite m)
opposite_stands ds x m h = record { sign = ap not h.sign; there = h.there }

-- the opposite of a literal that stands for x, which says P
pub opposite_is : {P : Type 0} (w : Meaning) (e : List ℤ) (ds : List Definition) (x : Signed) (m : Literal) → Stands ds x m → Same (IsSigned w e x) P → Same (LiteralTruth w e ds (opposite m)) (¬ P)
opposite_is w e ds x m h k = both (literal_is w e ds (other x) (opposite m) (opposite_stands ds x m h)) (other_means w e x.positive x.definition k)

record Stood (cs ds : List Definition) (x : Signed) (m : Literal) : Type 0 where
  pub grows : Grows cs ds
  pub stands : Stands ds x m
  pub over : (n : ℕ) → AllByRecursion (IsDefinitionOver n) cs → IsSignedOver n x → AllByRecursion (IsDefinitionOver n) ds

known_stood : (cs ds : List Definition) (x : Signed) (m : Literal) (o : Option Definition) → x.positive ≡ m.positive → slice_get cs m.variable ≡ o → known_as cs o x.definition ≡ Some ds → Stood cs ds x m
known_stood cs ds x m None sign at is = absurd (cc)
known_stood cs ds x m (Some d) sign at is =
    by_test (λ o. o ≡ Some ds → Stood cs ds x m) (same_definition d x.definition) (Some cs) None
    (λ same found_is.
    let one : cs ≡ ds = cc in
    subst (λ l. Stood cs l x m) one (record { grows = grows_same cs; stands = record { sign = sign; there = at ∙ ap Some (same_definition_is d x.definition same) }; over = λ n h k. h }))
    (λ miss found_is. absurd (cc)) is

stand_is : (cs ds : List Definition) (x : Signed) (m : Literal) → stand cs x m ≡ Some ds → Stood cs ds x m
stand_is cs ds x m =
    by_test (λ o. o ≡ Some ds → Stood cs ds x m) (same_sign x.positive m.positive)
    (cond (nat_eq m.variable (length cs)) (Some (cs ++ x.definition ∷ [])) (known_as cs (slice_get cs m.variable) x.definition)) None
    (λ sign.
    let sign_is = signs x.positive m.positive sign in
    by_test (λ o. o ≡ Some ds → Stood cs ds x m) (nat_eq m.variable (length cs)) (Some (cs ++ x.definition ∷ [])) (known_as cs (slice_get cs m.variable) x.definition)
    (λ next is.
    let one : cs ++ x.definition ∷ [] ≡ ds = cc in
    let at : m.variable ≡ length cs = same_number m.variable (length cs) next in
    subst (λ l. Stood cs l x m) one (record {
      grows = record { still = λ i d h. get_left cs (x.definition ∷ []) i d h };
      stands = record { sign = sign_is; there = ap (slice_get (cs ++ x.definition ∷ [])) at ∙ get_here cs x.definition [] };
      over = λ n h k. all_append (IsDefinitionOver n) cs (x.definition ∷ []) h (k, tt);
    }))
    (λ older is. known_stood cs ds x m (slice_get cs m.variable) sign_is refl is))
    (λ miss is. absurd (cc))

standing_grows : (cs ds : List Definition) (xs : List Signed) (ms : List Literal) → Grows cs ds → AreStanding cs xs ms → AreStanding ds xs ms
standing_grows cs ds [] [] g h = tt
standing_grows cs ds [] (m ∷ ms) g h = absurd h
standing_grows cs ds (x ∷ xs) [] g h = absurd h
standing_grows cs ds (x ∷ xs) (m ∷ ms) g h = (record { sign = h.0.sign; there = g.still m.variable x.definition h.0.there }, standing_grows cs ds xs ms g h.1)

record AllStood (cs ds : List Definition) (xs : List Signed) (ms : List Literal) : Type 0 where
  pub grows : Grows cs ds
  pub standing : AreStanding ds xs ms
  pub over : (n : ℕ) → AllByRecursion (IsDefinitionOver n) cs → AllByRecursion (IsSignedOver n) xs → AllByRecursion (IsDefinitionOver n) ds

more_stand : (cs ds : List Definition) (x : Signed) (m : Literal) (xs : List Signed) (ms : List Literal) (o : Option (List Definition)) → stand cs x m ≡ o
    → ((bs : List Definition) → stand_all bs xs ms ≡ Some ds → AllStood bs ds xs ms) → found o (λ bs. stand_all bs xs ms) ≡ Some ds → AllStood cs ds (x ∷ xs) (m ∷ ms)
more_stand cs ds x m xs ms None at f is = absurd (cc)
more_stand cs ds x m xs ms (Some bs) at f is =
    let one = stand_is cs bs x m at in
    let rest = f bs is in record {
      grows = grows_trans cs bs ds one.grows rest.grows;
      standing = (record { sign = one.stands.sign; there = rest.grows.still m.variable x.definition one.stands.there }, rest.standing);
      over = λ n h k. rest.over n (one.over n h k.0) k.1;
    }

all_stand : (cs ds : List Definition) (xs : List Signed) (ms : List Literal) → stand_all cs xs ms ≡ Some ds → AllStood cs ds xs ms
all_stand cs ds [] [] is =
    let one : cs ≡ ds = cc in subst (λ l. AllStood cs l [] []) one (record { grows = grows_same cs; standing = tt; over = λ n h k. h })
all_stand cs ds [] (m ∷ ms) is = absurd (cc)
all_stand cs ds (x ∷ xs) [] is = absurd (cc)
all_stand cs ds (x ∷ xs) (m ∷ ms) is = more_stand cs ds x m xs ms (stand cs x m) refl (λ bs h. all_stand bs ds xs ms h) is

-- ---- an addition
-- wherever all is true, what is added is not refuted, for some values of the new constants
abbrev pub Keeps : Meaning → State → Addition → Type 0
Keeps w s a =
    (ds : List Definition) → Grows s.definitions ds → AreStanding ds a.meant a.literals → (e : List ℤ) → length e ≡ s.count → AreTrue w e s
    → ((e' : List ℤ) → Extends s.count e a.count e' → AllByRecursion (IsKeptTrue w e' ds) a.clauses → AllByRecursion (IsApplicationTrue w e') a.applications → ⊥) → ⊥

adds_at : (w : Meaning) (s : State) (a : Addition) (o : Option (List Definition)) → IsFormedState s → s.count ≤ a.count → AllByRecursion (IsSignedOver a.count) a.meant
    → AllByRecursion (IsApplicationOver a.count) a.applications → Keeps w s a → stand_all s.definitions a.meant a.literals ≡ o
    → KeepsTruth w s (found o (λ ds. Some (record { definitions = ds; clauses = s.clauses ++ a.clauses; applications = s.applications ++ a.applications; count = a.count })))
adds_at w s a None formed le over apps keeps is = tt
adds_at w s a (Some ds) formed le over apps keeps is =
    let stood = all_stand s.definitions ds a.meant a.literals is in (
      record {
        definitions = stood.over a.count (all_same (IsDefinitionOver s.count) (IsDefinitionOver a.count) s.definitions (λ d h. definition_more s.count a.count d le h) formed.definitions) over;
        applications = all_append (IsApplicationOver a.count) s.applications a.applications
            (all_same (IsApplicationOver s.count) (IsApplicationOver a.count) s.applications (λ x h. application_more s.count a.count x le h) formed.applications) apps;
      },
      λ absent e len t. keeps ds stood.grows stood.standing e len t (λ e' x cs more.
          absent e' x.long (record {
            applications = all_append (IsApplicationTrue w e') s.applications a.applications (applications_stay w s.count a.count e e' s.applications x formed.applications t.applications) more;
            clauses = all_append (IsKeptTrue w e' ds) s.clauses a.clauses
                (all_same (IsKeptTrue w e s.definitions) (IsKeptTrue w e' ds) s.clauses (λ c k. kept_stays w s.count a.count e e' s.definitions ds c x formed.definitions stood.grows k) t.clauses)
                cs;
          })),
    )

pub adds_all : (w : Meaning) (s : State) (a : Addition) → IsFormedState s → s.count ≤ a.count → AllByRecursion (IsSignedOver a.count) a.meant
    → AllByRecursion (IsApplicationOver a.count) a.applications → Keeps w s a → KeepsTruth w s (extended s a)
adds_all w s a formed le over apps keeps = adds_at w s a (stand_all s.definitions a.meant a.literals) formed le over apps keeps refl

-- what an addition gives
abbrev pub Adds : Meaning → State → Option Addition → Type 0
Adds w s None = Unit {0}
Adds w s (Some a) = KeepsTruth w s (extended s a)

-- no new constant: what is to be shown of the clauses
pub adds_plain : (w : Meaning) (s : State) (xs : List Signed) (ms : List Literal) (cs : List (List Literal)) → IsFormedState s → AllByRecursion (IsSignedOver s.count) xs
    → ((ds : List Definition) → Grows s.definitions ds → AreStanding ds xs ms → (e : List ℤ) → length e ≡ s.count → AreTrue w e s → AllByRecursion (ClauseTruth w e ds) cs)
    → Adds w s (Some (adding xs ms cs s.count))
adds_plain w s xs ms cs formed over h =
    adds_all w s (adding xs ms cs s.count) formed (omega arith) over tt (λ ds g st e len t k. k e (extends_refl s.count e len) (all_kept w e ds cs (h ds g st e len t)) tt)
