-- What is so at each place of the formula of a normal form, where it is so at each form of it and at each name.
use Rattle.std.proofs.Common.{◌≡◌, ℕ, suc, ◌||◌, Bool, true, false, cond, List, [], ◌∷◌, ◌++◌, map, length, refl, subst, ℤ, pos, inl, inr, arith, length-append}
use Rattle.std.specs.Prelude.{nat_eq}
use Rattle.std.specs.List.{list_any}
use Rattle.std.specs.Ordering.{int_eq}
use Rattle.linear_term.specs.Linear.{Linear, mentions, has_name}
use Rattle.form_typed.specs.Formula.{Formula, Formulas, Expression, Expressions, expressions, formulas, number, name, minus, product, total, compares, negation, every, some, for_some}
use Rattle.form_typed.specs.declared.typed.Sort.TheVariants as sort
use Rattle.form_typed.specs.Formula as logic
use Rattle.form_typed.specs.declared.typed.Relation.{Relation}
use Rattle.clause_set.specs.declared.literal.Literal.{Literal}
use Rattle.clause_set.specs.declared.literal.Literal.TheVariants.{Eq, Geq, Div, NDiv}
use Rattle.clause_set.specs.Literals.{term_of}
use Rattle.clause_set.specs.Names.{has}
use Rattle.pri_typing.specs.declared.problem.Problem.{Problem}
use Rattle.pri_typing.specs.Everywhere.{Property, Everywhere, AllEverywhere, TermEverywhere, TermsEverywhere}
use Rattle.pri_typing.specs.Problems.{IsNoPredicate, IsNameIn, SpeaksOfExistentials}
use Rattle.pri_typing.specs.Typing.{signed}
use Rattle.pri_printer.specs.Summands.{Summand, alone, times, SignedSummand, monomial, constant, summands}
use Rattle.pri_printer.specs.Formulas.{summand_value, less_summand, later_part, later, sum_value, divides_formula, literal_formula, clause_formula, normal_form_formula}
use Rattle.pri_printer.specs.Names.{PairNames, LiteralNames, ClauseNames, DnfNames, IsVariableBelow, HasNamesIn, OccursIn, SpeaksOf}
use Rattle.pri_printer.specs.Printed.{constants_of, dnf_formula}

-- the property holds of each form that is printed, of the names that are P, and of the name n
record Suits (Q : Property) (P : ℕ → Type 0) (n : ℕ) : Type 0 where
  number_is : (k : ℕ) (v : ℤ) → Q.of_term k (number v)
  named : (k x : ℕ) → P x → Q.of_term k (name x)
  quotient : (k : ℕ) → Q.of_term k (name n)
  minus_is : (k : ℕ) (t : Expression) → Q.of_term k (minus t)
  total_is : (k : ℕ) (ts : Expressions) → Q.of_term k (total ts)
  product_is : (k : ℕ) (s t : Expression) → Q.of_term k (product s t)
  truth_is : (k : ℕ) (b : Bool) → Q.of_formula k (logic.constant b)
  compared : (k : ℕ) (r : Relation) (s t : Expression) → Q.of_formula k (compares r s t)
  negated : (k : ℕ) (f : Formula) → Q.of_formula k (negation f)
  every_is : (k : ℕ) (fs : Formulas) → Q.of_formula k (every fs)
  some_is : (k : ℕ) (fs : Formulas) → Q.of_formula k (some fs)
  bound : (k : ℕ) (f : Formula) → Q.of_formula k (for_some sort.Int f)

abbrev SummandNames : (ℕ → Type 0) → Summand → Type 0
SummandNames P (alone n) = Unit {0}
SummandNames P (times n x) = P x

abbrev SummandsNames : (ℕ → Type 0) → List SignedSummand → Type 0
SummandsNames P [] = Unit {0}
SummandsNames P (a ∷ more) = SummandNames P a.1 × SummandsNames P more

times_plain : (c : Bool) (Q : Property) (P : ℕ → Type 0) (n : ℕ) → Suits Q P n → (k v x : ℕ) → P x → TermEverywhere Q k (cond c (name x) (product (number (pos v)) (name x)))
times_plain true Q P n s k v x h = s.named k x h
times_plain false Q P n s k v x h = (s.product_is k _ _, s.number_is k _, s.named k x h)

less_times : (c : Bool) (Q : Property) (P : ℕ → Type 0) (n : ℕ) → Suits Q P n → (k v x : ℕ) → P x → TermEverywhere Q k (cond c (minus (name x)) (product (minus (number (pos v))) (name x)))
less_times true Q P n s k v x h = (s.minus_is k _, s.named k x h)
less_times false Q P n s k v x h = (s.product_is k _ _, (s.minus_is k _, s.number_is k _), s.named k x h)

summand_plain : (Q : Property) (P : ℕ → Type 0) (n : ℕ) → Suits Q P n → (k : ℕ) (a : Summand) → SummandNames P a → TermEverywhere Q k (summand_value a)
summand_plain Q P n s k (alone v) h = s.number_is k _
summand_plain Q P n s k (times v x) h = times_plain (nat_eq v 1) Q P n s k v x h

less_plain : (Q : Property) (P : ℕ → Type 0) (n : ℕ) → Suits Q P n → (k : ℕ) (a : Summand) → SummandNames P a → TermEverywhere Q k (less_summand a)
less_plain Q P n s k (alone v) h = (s.minus_is k _, s.number_is k _)
less_plain Q P n s k (times v x) h = less_times (nat_eq v 1) Q P n s k v x h

first_plain : (c : Bool) (Q : Property) (P : ℕ → Type 0) (n : ℕ) → Suits Q P n → (k : ℕ) (a : Summand) → SummandNames P a
    → TermEverywhere Q k (cond c (less_summand a) (summand_value a))
first_plain true Q P n s k a h = less_plain Q P n s k a h
first_plain false Q P n s k a h = summand_plain Q P n s k a h

signed_plain : (c : Bool) (Q : Property) (P : ℕ → Type 0) (n : ℕ) → Suits Q P n → (k : ℕ) (a : Summand) → SummandNames P a → TermEverywhere Q k (signed c (summand_value a))
signed_plain true Q P n s k a h = (s.minus_is k _, summand_plain Q P n s k a h)
signed_plain false Q P n s k a h = summand_plain Q P n s k a h

later_plain : (Q : Property) (P : ℕ → Type 0) (n : ℕ) → Suits Q P n → (k : ℕ) (more : List SignedSummand) → SummandsNames P more
    → TermsEverywhere Q k (expressions (map later (map later_part more)))
later_plain Q P n s k [] h = tt
later_plain Q P n s k (a ∷ more) h = (signed_plain a.0 Q P n s k a.1 h.0, later_plain Q P n s k more h.1)

sum_plain : (Q : Property) (P : ℕ → Type 0) (n : ℕ) → Suits Q P n → (k : ℕ) (a : SignedSummand) (more : List SignedSummand) → SummandsNames P (a ∷ more) → TermEverywhere Q k (sum_value (a ∷ more))
sum_plain Q P n s k a [] h = first_plain a.0 Q P n s k a.1 h.0
sum_plain Q P n s k a (b ∷ more) h = (s.total_is k _, (first_plain a.0 Q P n s k a.1 h.0, later_plain Q P n s k (b ∷ more) h.1))

tail_names : (c : Bool) (P : ℕ → Type 0) (z : ℤ) → SummandsNames P (cond c [] (constant z ∷ []))
tail_names true P z = tt
tail_names false P z = (tt, tt)

pairs_names : (P : ℕ → Type 0) (ps : List (ℕ × ℤ)) (z : ℤ) → PairNames P ps → SummandsNames P (map monomial ps ++ cond (int_eq z (pos 0)) [] (constant z ∷ []))
pairs_names P [] z h = tail_names (int_eq z (pos 0)) P z
pairs_names P (p ∷ ps) z h = (h.0, pairs_names P ps z h.1)

term_plain : (Q : Property) (P : ℕ → Type 0) (n : ℕ) → Suits Q P n → (k : ℕ) (ps : List (ℕ × ℤ)) (z : ℤ) → PairNames P ps → TermEverywhere Q k (sum_value (summands ps z))
term_plain Q P n s k [] z h = sum_plain Q P n s k (constant z) [] (tt, tt)
term_plain Q P n s k (p ∷ ps) z h = sum_plain Q P n s k (monomial p) (map monomial ps ++ cond (int_eq z (pos 0)) [] (constant z ∷ [])) (h.0, pairs_names P ps z h.1)

divides_plain : (Q : Property) (P : ℕ → Type 0) (n : ℕ) → Suits Q P n → (k : ℕ) (d : ℤ) (t : Linear) → PairNames P t.pairs → Everywhere Q k (divides_formula n d t)
divides_plain Q P n s k d t h =
    (s.bound k _, (s.compared (suc k) _ _ _, term_plain Q P n s (suc k) t.pairs t.constant h, (s.product_is (suc k) _ _, s.number_is (suc k) _, s.quotient (suc k))))

literal_plain : (Q : Property) (P : ℕ → Type 0) (n : ℕ) → Suits Q P n → (k : ℕ) (l : Literal) → LiteralNames P l → Everywhere Q k (literal_formula n l)
literal_plain Q P n s k (Eq t) h = (s.compared k _ _ _, term_plain Q P n s k t.pairs t.constant h, s.number_is k _)
literal_plain Q P n s k (Geq t) h = (s.compared k _ _ _, term_plain Q P n s k t.pairs t.constant h, s.number_is k _)
literal_plain Q P n s k (Div d t) h = divides_plain Q P n s k d t h
literal_plain Q P n s k (NDiv d t) h = (s.negated k _, divides_plain Q P n s k d t h)

literals_plain : (Q : Property) (P : ℕ → Type 0) (n : ℕ) → Suits Q P n → (k : ℕ) (ls : List Literal) → ClauseNames P ls → AllEverywhere Q k (formulas (map (literal_formula n) ls))
literals_plain Q P n s k [] h = tt
literals_plain Q P n s k (l ∷ ls) h = (literal_plain Q P n s k l h.0, literals_plain Q P n s k ls h.1)

clause_plain : (Q : Property) (P : ℕ → Type 0) (n : ℕ) → Suits Q P n → (k : ℕ) (ls : List Literal) → ClauseNames P ls → Everywhere Q k (clause_formula n ls)
clause_plain Q P n s k [] h = s.truth_is k true
clause_plain Q P n s k (l ∷ []) h = literal_plain Q P n s k l h.0
clause_plain Q P n s k (l ∷ l2 ∷ ls) h = (s.every_is k _, literals_plain Q P n s k (l ∷ l2 ∷ ls) h)

clauses_plain : (Q : Property) (P : ℕ → Type 0) (n : ℕ) → Suits Q P n → (k : ℕ) (cs : List (List Literal)) → DnfNames P cs → AllEverywhere Q k (formulas (map (clause_formula n) cs))
clauses_plain Q P n s k [] h = tt
clauses_plain Q P n s k (c ∷ cs) h = (clause_plain Q P n s k c h.0, clauses_plain Q P n s k cs h.1)

normal_form_plain : (Q : Property) (P : ℕ → Type 0) (n : ℕ) → Suits Q P n → (cs : List (List Literal)) → DnfNames P cs → Everywhere Q 0 (normal_form_formula n cs)
normal_form_plain Q P n s [] h = s.truth_is 0 false
normal_form_plain Q P n s (c ∷ []) h = clause_plain Q P n s 0 c h.0
normal_form_plain Q P n s (c ∷ c2 ∷ cs) h = (s.some_is 0 _, clauses_plain Q P n s 0 (c ∷ c2 ∷ cs) h)

-- The two properties.

names_suit : (P : ℕ → Type 0) (n : ℕ) → Suits (record { of_formula = IsNoPredicate; of_term = λ depth. HasNamesIn P n }) P n
names_suit P n = record {
  number_is = λ k v. tt;
  named = λ k x h. inl h;
  quotient = λ k. inr (omega arith);
  minus_is = λ k t. tt;
  total_is = λ k ts. tt;
  product_is = λ k s t. tt;
  truth_is = λ k b. tt;
  compared = λ k r s t. tt;
  negated = λ k f. tt;
  every_is = λ k fs. tt;
  some_is = λ k fs. tt;
  bound = λ k f. tt;
}

existentials_suit : (m n : ℕ) → Suits (record { of_formula = IsNoPredicate; of_term = λ depth. IsNameIn m n }) (IsVariableBelow m) n
existentials_suit m n = record {
  number_is = λ k v. tt;
  named = λ k x h. inl h;
  quotient = λ k. inr (omega arith);
  minus_is = λ k t. tt;
  total_is = λ k ts. tt;
  product_is = λ k s t. tt;
  truth_is = λ k b. tt;
  compared = λ k r s t. tt;
  negated = λ k f. tt;
  every_is = λ k fs. tt;
  some_is = λ k fs. tt;
  bound = λ k f. tt;
}

-- A normal form has the names that occur in it.

name_at : (y x : ℕ) → y ≡ x → (b : Bool) → cond (nat_eq y x) true b ≡ true
name_at y x e b = grind (arith, e)

has_later : (c : Bool) (b : Bool) → b ≡ true → cond c true b ≡ true
has_later true b h = refl
has_later false b h = h

any_left : (a b : Bool) → a ≡ true → (a || b) ≡ true
any_left true b h = refl
any_left false b h = absurd cc

any_right : (a b : Bool) → b ≡ true → (a || b) ≡ true
any_right true b h = refl
any_right false b h = h

pairs_have : (P : ℕ → Type 0) (ps : List (ℕ × ℤ)) → ((x : ℕ) → has_name ps x ≡ true → P x) → PairNames P ps
pairs_have P [] f = tt
pairs_have P (p ∷ ps) f = (f p.0 (name_at p.0 p.0 refl (has_name ps p.0)), pairs_have P ps (λ x h. f x (has_later (nat_eq p.0 x) (has_name ps x) h)))

literal_has : (P : ℕ → Type 0) (l : Literal) → ((x : ℕ) → has x l ≡ true → P x) → LiteralNames P l
unfolding mentions
literal_has P l f = pairs_have P (term_of l).pairs f

clause_has : (P : ℕ → Type 0) (ls : List Literal) → ((x : ℕ) → list_any (has x) ls ≡ true → P x) → ClauseNames P ls
clause_has P [] f = tt
clause_has P (l ∷ ls) f =
    (literal_has P l (λ x h. f x (any_left (has x l) (list_any (has x) ls) h)), clause_has P ls (λ x h. f x (any_right (has x l) (list_any (has x) ls) h)))

dnf_has : (P : ℕ → Type 0) (d : List (List Literal)) → ((x : ℕ) → OccursIn d x → P x) → DnfNames P d
dnf_has P [] f = tt
dnf_has P (c ∷ cs) f = (
  clause_has P c (λ x h. f x (any_left (list_any (has x) c) (list_any (list_any (has x)) cs) h)),
  dnf_has P cs (λ x h. f x (any_right (list_any (has x) c) (list_any (list_any (has x)) cs) h)),
)

-- the formula speaks of the names that occur in the normal form alone
pub printed_names : (p : Problem) (d : List (List Literal)) → SpeaksOf (OccursIn d) (length (constants_of p)) (dnf_formula p d)
printed_names p d =
    normal_form_plain _ (OccursIn d) (length (constants_of p)) (names_suit (OccursIn d) (length (constants_of p))) d (dnf_has (OccursIn d) d (λ x h. h))

-- and of existential constants alone, where the normal form does
pub printed_existentials : (p : Problem) (d : List (List Literal)) → DnfNames (IsVariableBelow (length p.existentials)) d → SpeaksOfExistentials p (dnf_formula p d)
printed_existentials p d h =
    subst (λ n. Everywhere (record { of_formula = IsNoPredicate; of_term = λ depth. IsNameIn (length p.existentials) n }) 0 (dnf_formula p d)) (length-append p.existentials p.universals)
    (normal_form_plain _ (IsVariableBelow (length p.existentials)) (length (constants_of p)) (existentials_suit (length p.existentials) (length (constants_of p))) d h)
