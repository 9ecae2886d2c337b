-- Printed texts have no line feed within a line.
use Rattle.std.proofs.Common.{ℕ, zero, suc, ℤ, pos, negsuc, ◌≡◌, ◌+◌, ◌/◌, ◌%◌, ◌==◌, nat_eq, nat_lt, Bool, true, false, cond, not, unsigned_abs, List, [], ◌∷◌, ◌++◌, map, slice_index_or, refl, codes, arith}
use Rattle.std.specs.Fmt.{decimal, digit_glyph, digits, digits_onto, signed_decimal}
use Rattle.std.specs.List.{AllByRecursion, list_all}
use Rattle.std.proofs.lemmas.Bool.Decides.{nat_tests}
use Rattle.std.proofs.lemmas.List.Elements.{recursion_from_All}
use Rattle.linear_term.specs.Linear.{Linear}
use Rattle.clause_set.specs.declared.literal.Literal.{Literal}
use Rattle.clause_set.specs.declared.literal.Literal.TheVariants.{Eq, Geq, Div, NDiv}
use Rattle.base_numerals.proofs.Tests.{left_true, right_true}
use Rattle.pri_tokens.specs.Lexemes.{starts_name, is_name_byte}
use Rattle.pri_tokens.specs.Kinds.{is_name, is_one_of, words}
use Rattle.pri_tokens.specs.Written.{IsIdentifier}
use Rattle.pri_typing.specs.declared.problem.Problem.{Problem}
use Rattle.pri_typing.specs.declared.problem.Symbol.{Symbol}
use Rattle.pri_typing.specs.WellFormed.{HasIdentifiers, names_of_symbols}
use Rattle.pri_printer.specs.Summands.{Summand, alone, times, SignedSummand, summands}
use Rattle.pri_printer.specs.Quotient.{quotient_name, quotient_number}
use Rattle.pri_printer.specs.Printed.{constants_of, dnf_text, solution_text}
use Rattle.pri_printer.specs.Text.{added_texts, adding_text, behind_each, clause_text, divides_text, later_text, listed_text, literal_text, normal_form_text, sum_text, summand_text, term_text, value_text, value_texts}
use Rattle.prover_job.proofs.Lines.{AreInner, IsInner, inner_append, inner_word}

-- ---- numbers and names

glyph_inner : (u : Bool) (d : ℕ) → IsInner (digit_glyph u d)
glyph_inner u d = by u (nat_lt d 10)
  where
    by : (u v : Bool) → IsInner (cond v (48 + d) (cond u (55 + d) (87 + d)))
    by u true = grind (arith, nat_tests)
    by true false = grind (arith, nat_tests)
    by false false = grind (arith, nat_tests)

pub either_inner : (v : Bool) (xs ys : List ℕ) → AreInner xs → AreInner ys → AreInner (cond v xs ys)
either_inner true xs ys h k = h
either_inner false xs ys h k = k

digits_inner : (k n : ℕ) (acc : List ℕ) → AreInner acc → AreInner (digits_onto k 10 false n acc)
digits_inner zero n acc h = h
digits_inner (suc k) n acc h =
    let more : AreInner (digit_glyph false (n % 10) ∷ acc) = (glyph_inner false (n % 10), h) in
    either_inner (n / 10 == 0) (digit_glyph false (n % 10) ∷ acc) (digits_onto k 10 false (n / 10) (digit_glyph false (n % 10) ∷ acc)) more (digits_inner k (n / 10) (digit_glyph false (n % 10) ∷ acc) more)

pub decimal_inner : (n : ℕ) → AreInner (decimal n)
unfolding digits
decimal_inner n = digits_inner 64 n [] tt

pub signed_inner : (z : ℤ) → AreInner (signed_decimal z)
signed_inner (pos n) = decimal_inner n
signed_inner (negsuc n) = (refl, decimal_inner (suc n))

starts_inner : (b : ℕ) → starts_name b ≡ true → IsInner b
starts_inner b h = grind (arith, nat_tests)

name_inner : (b : ℕ) → is_name_byte b ≡ true → IsInner b
name_inner b h = grind (arith, nat_tests)

names_inner : (bs : List ℕ) → list_all is_name_byte bs ≡ true → AreInner bs
names_inner [] h = tt
names_inner (b ∷ bs) h = (name_inner b (left_true (is_name_byte b) (list_all is_name_byte bs) h), names_inner bs (right_true (is_name_byte b) (list_all is_name_byte bs) h))

is_name_inner : (text : List ℕ) → is_name text ≡ true → AreInner text
is_name_inner [] h = tt
is_name_inner (b ∷ bs) h = (starts_inner b (left_true (starts_name b) (list_all is_name_byte bs) h), names_inner bs (right_true (starts_name b) (list_all is_name_byte bs) h))

identifier_inner : (text : List ℕ) → IsIdentifier text → AreInner text
identifier_inner text h = is_name_inner text (left_true (is_name text) (not (is_one_of words text)) h)

abbrev pub AreNames : List (List ℕ) → Type 0
AreNames names = AllByRecursion AreInner names

pub identifiers_inner : (names : List (List ℕ)) → AllByRecursion IsIdentifier names → AreNames names
identifiers_inner [] h = tt
identifiers_inner (x ∷ names) h = (identifier_inner x h.0, identifiers_inner names h.1)

pub front_names : (xs ys : List (List ℕ)) → AreNames (xs ++ ys) → AreNames xs
front_names [] ys h = tt
front_names (x ∷ xs) ys h = (h.0, front_names xs ys h.1)

pub constants_inner : (p : Problem) → HasIdentifiers p → AreNames (constants_of p)
constants_inner p h =
    let F = map (λ (y : Symbol). y.name) p.functions in let Q = map (λ (y : Symbol). y.name) p.predicates in
    front_names (constants_of p) F (front_names (constants_of p ++ F) Q (identifiers_inner (names_of_symbols p) (recursion_from_All IsIdentifier (names_of_symbols p) h)))

pub indexed : (names : List (List ℕ)) (x : ℕ) → AreNames names → AreInner (slice_index_or names x [])
indexed [] x h = tt
indexed (y ∷ names) zero h = h.0
indexed (y ∷ names) (suc x) h = indexed names x h.1

-- ---- terms

summand_inner : (names : List (List ℕ)) (s : Summand) → AreNames names → AreInner (summand_text names s)
summand_inner names (alone n) h = decimal_inner n
summand_inner names (times n x) h =
    either_inner (nat_eq n 1) (slice_index_or names x []) (decimal n ++ (codes "*" ++ slice_index_or names x [])) (indexed names x h)
    (inner_append (decimal n) (codes "*" ++ slice_index_or names x []) (decimal_inner n) (refl, indexed names x h))

adding_inner : (v : Bool) → AreInner (adding_text v)
adding_inner true = inner_word (adding_text true) refl
adding_inner false = inner_word (adding_text false) refl

added_inner : (names : List (List ℕ)) (us : List SignedSummand) → AreNames names → AreInner (added_texts (map (later_text names) us))
added_inner names [] h = tt
added_inner names (u ∷ us) h =
    inner_append (adding_text u.0) (summand_text names u.1 ++ added_texts (map (later_text names) us)) (adding_inner u.0)
    (inner_append (summand_text names u.1) (added_texts (map (later_text names) us)) (summand_inner names u.1 h) (added_inner names us h))

sum_inner : (names : List (List ℕ)) (us : List SignedSummand) → AreNames names → AreInner (sum_text names us)
sum_inner names [] h = tt
sum_inner names (u ∷ us) h =
    inner_append (cond u.0 (codes "-" ++ summand_text names u.1) (summand_text names u.1)) (added_texts (map (later_text names) us))
    (either_inner u.0 (codes "-" ++ summand_text names u.1) (summand_text names u.1) (refl, summand_inner names u.1 h) (summand_inner names u.1 h)) (added_inner names us h)

term_inner : (names : List (List ℕ)) (t : Linear) → AreNames names → AreInner (term_text names t)
term_inner names t h = sum_inner names (summands t.pairs t.constant) h

-- ---- formulas

divides_inner : (names : List (List ℕ)) (k : List ℕ) (d : ℤ) (t : Linear) → AreNames names → AreInner k → AreInner (divides_text names k d t)
divides_inner names k d t h i =
    let number = inner_append (decimal (unsigned_abs d)) (codes "*" ++ k) (decimal_inner (unsigned_abs d)) (refl, i) in
    let equal = inner_append (codes " = ") (decimal (unsigned_abs d) ++ (codes "*" ++ k)) (inner_word (codes " = ") refl) number in
    let body = inner_append (term_text names t) (codes " = " ++ (decimal (unsigned_abs d) ++ (codes "*" ++ k))) (term_inner names t h) equal in
    inner_append (codes "\\exists int ") _ (inner_word (codes "\\exists int ") refl) (inner_append k _ i (inner_append (codes "; ") _ (inner_word (codes "; ") refl) body))

literal_inner : (names : List (List ℕ)) (k : List ℕ) (l : Literal) → AreNames names → AreInner k → AreInner (literal_text names k l)
literal_inner names k (Eq t) h i = inner_append (term_text names t) (codes " = " ++ codes "0") (term_inner names t h) (inner_word (codes " = " ++ codes "0") refl)
literal_inner names k (Geq t) h i = inner_append (term_text names t) (codes " >= " ++ codes "0") (term_inner names t h) (inner_word (codes " >= " ++ codes "0") refl)
literal_inner names k (Div d t) h i = divides_inner names k d t h i
literal_inner names k (NDiv d t) h i = (refl, divides_inner names k d t h i)

each_inner : {A : Type 0} (sign : List ℕ) (text : A → List ℕ) (xs : List A) → AreInner sign → ((x : A) → AreInner (text x)) → AreInner (behind_each sign (map text xs))
each_inner sign text [] h k = tt
each_inner sign text (x ∷ xs) h k = inner_append sign (text x ++ behind_each sign (map text xs)) h (inner_append (text x) (behind_each sign (map text xs)) (k x) (each_inner sign text xs h k))

clause_inner : (names : List (List ℕ)) (k : List ℕ) (c : List Literal) → AreNames names → AreInner k → AreInner (clause_text names k c)
clause_inner names k [] h i = inner_word (codes "true") refl
clause_inner names k (l ∷ ls) h i =
    inner_append (literal_text names k l) _ (literal_inner names k l h i) (each_inner (codes " & ") (literal_text names k) ls (inner_word (codes " & ") refl) (λ x. literal_inner names k x h i))

form_inner : (names : List (List ℕ)) (k : List ℕ) (d : List (List Literal)) → AreNames names → AreInner k → AreInner (normal_form_text names k d)
form_inner names k [] h i = inner_word (codes "false") refl
form_inner names k (c ∷ cs) h i =
    inner_append (clause_text names k c) _ (clause_inner names k c h i) (each_inner (codes " | ") (clause_text names k) cs (inner_word (codes " | ") refl) (λ x. clause_inner names k x h i))

-- the text of a normal form of a problem has no line feed
pub dnf_inner : (p : Problem) (d : List (List Literal)) → HasIdentifiers p → AreInner (dnf_text p d)
dnf_inner p d h =
    form_inner (constants_of p) (quotient_name (quotient_number p)) d (constants_inner p h)
    (inner_append (codes "k") (decimal (quotient_number p)) (refl, tt) (decimal_inner (quotient_number p)))

-- ---- values

pub value_inner : (x : List ℕ) (v : ℤ) → AreInner x → AreInner (value_text x v)
value_inner x v h = inner_append x _ h (inner_append (codes " = ") (signed_decimal v) (inner_word (codes " = ") refl) (signed_inner v))

values_inner : (names : List (List ℕ)) (vs : List ℤ) → AreNames names → AreNames (value_texts names vs)
values_inner [] vs h = tt
values_inner (x ∷ names) [] h = tt
values_inner (x ∷ names) (v ∷ vs) h = (value_inner x v h.0, values_inner names vs h.1)

pub commas_inner : (us : List (List ℕ)) → AreNames us → AreInner (behind_each (codes ", ") us)
commas_inner [] h = tt
commas_inner (u ∷ us) h = inner_append (codes ", ") (u ++ behind_each (codes ", ") us) (inner_word (codes ", ") refl) (inner_append u (behind_each (codes ", ") us) h.0 (commas_inner us h.1))

listed_inner : (us : List (List ℕ)) → AreNames us → AreInner (listed_text us)
listed_inner [] h = tt
listed_inner (u ∷ us) h = inner_append u (behind_each (codes ", ") us) h.0 (commas_inner us h.1)

-- the text of a solution has no line feed
pub solution_inner : (p : Problem) (vs : List ℤ) → HasIdentifiers p → AreInner (solution_text p vs)
solution_inner p vs h = listed_inner (value_texts p.existentials vs) (values_inner p.existentials vs (front_names p.existentials p.universals (constants_inner p h)))
