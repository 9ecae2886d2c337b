-- The first lines of a proof in the third format.
use Rattle.std.specs.Prelude.{ℕ, ℤ, ◌<◌, ◌^◌, List, [], ◌∷◌, ◌++◌, Option, codes}
use Rattle.std.specs.List.{AllByRecursion}
use Rattle.std.specs.Fmt.{decimal}
use Rattle.linear_term.specs.Range.{InRange}
use Rattle.proof_tokens.specs.declared.reading.Refusal.{Refusal}
use Rattle.proof_tokens.specs.declared.reading.Refusal.TheVariants as e
use Rattle.clause_proof.specs.declared.line.Literal.{Literal}
use Rattle.clause_text.specs.declared.charge.Charge.{Charge}
use Rattle.clause_text.specs.declared.head.Head.{Head}
use Rattle.clause_text.specs.HeadWords.{charge_of, charge_text, format_word, is_label, IsCharge}
use Rattle.clause_text.specs.Literals.{literal_of, literal_text, IsLiteral}
use Rattle.clause_words.specs.Numbers.{index_of, integer_of}
use Rattle.clause_words.specs.Spelling.{integer_text}
use Rattle.clause_words.specs.Tokens.{tokens}
use Rattle.clause_words.specs.Texts.{both_text, Both, Always, end_text, field_text, list_text}
use Rattle.clause_words.specs.Places.{IsRefusedAt}
use Rattle.clause_words.specs.Reading.{Token, Read, ◌>>=◌, done, word_as, both, ends, field, fields}

-- a word alone
abbrev pub label_text : List ℕ → Unit {0} → List Token
label_text w u = w ∷ []

-- a line with this word and one value
abbrev pub One : Type 0 → Type 0
One A = Unit {0} × (A × Unit {0})

abbrev pub one_of_line : {A : Type 0} → List ℕ → (List ℕ → Option A) → List Token → Read (One A)
one_of_line w f = both (word_as (is_label w)) (both (field f) ends)

abbrev pub one_text : {A : Type 0} → List ℕ → (A → List ℕ) → One A → List Token
one_text w spell = both_text (label_text w) (both_text (field_text spell) end_text)

abbrev pub IsOne : {A : Type 0} → (A → Type 0) → One A → Type 0
IsOne P = Both Always (Both P Always)

-- what is read of a word alone; of a line
abbrev pub unsaid : List Token → Unit {0} × List Token
unsaid ts = (tt, ts)

abbrev pub format_said : List Token → One (Unit {0}) × List Token
format_said ts = ((tt, (tt, tt)), ts)

abbrev pub one_said : {A : Type 0} → A → List Token → One A × List Token
one_said v ts = ((tt, (v, tt)), ts)

abbrev pub list_said : {A : Type 0} → List A → List Token → (Unit {0} × List A) × List Token
list_said vs ts = ((tt, vs), ts)

-- the five lines
abbrev pub format_line : List Token → Read (One (Unit {0}))
format_line = one_of_line (codes "princess-proof") (is_label format_word)

abbrev pub charges_line : List Token → Read (One Charge)
charges_line = one_of_line (codes "charges") charge_of

abbrev pub prepared_line : List Token → Read (One ℕ)
prepared_line = one_of_line (codes "prepared") index_of

abbrev pub values_line : List Token → Read (Unit {0} × List ℤ)
values_line = both (word_as (is_label (codes "values"))) (fields integer_of)

abbrev pub root_line : List Token → Read (One Literal)
root_line = one_of_line (codes "root") literal_of

abbrev pub HeadValues : Type 0
HeadValues = One (Unit {0}) × (One Charge × (One ℕ × ((Unit {0} × List ℤ) × One Literal)))

abbrev pub AreHeadValues : HeadValues → Type 0
AreHeadValues = Both (IsOne Always) (Both (IsOne IsCharge) (Both (IsOne (λ n. n < 2 ^ 32)) (Both (Both Always (AllByRecursion InRange)) (IsOne IsLiteral))))

abbrev pub head_values_text : HeadValues → List Token
head_values_text =
    both_text (one_text (codes "princess-proof") (λ u. format_word))
    (both_text (one_text (codes "charges") charge_text)
    (both_text (one_text (codes "prepared") decimal)
    (both_text (both_text (label_text (codes "values")) (list_text integer_text))
    (one_text (codes "root") literal_text))))

abbrev pub head_values : List Token → Read HeadValues
head_values = both format_line (both charges_line (both prepared_line (both values_line root_line)))

abbrev pub head_with : HeadValues → Head
head_with v = record { charges = v.1.0.1.0; prepared = v.1.1.0.1.0; values = v.1.1.1.0.1; root = v.1.1.1.1.1.0 }

abbrev pub values_of_head : Head → HeadValues
values_of_head h = ((tt, (tt, tt)), ((tt, (h.charges, tt)), ((tt, (h.prepared, tt)), ((tt, h.values), (tt, (h.root, tt))))))

-- the text of the first lines
abbrev pub head_text : Head → List Token
head_text h = head_values_text (values_of_head h)

-- first lines that a text can have
abbrev pub IsHead : Head → Type 0
IsHead h = AreHeadValues (values_of_head h)

unfoldable pub head_of : List Token → Read Head
head_of ts = head_values ts >>= λ p. done (head_with p.0) p.1

-- what a refusal says: where the first one is; or memory was short
abbrev pub RefusesHead : List ℕ → Refusal → Type 0
RefusesHead text (e.Syntax left) = IsRefusedAt IsHead head_text (tokens text) left
RefusesHead text e.Memory = Unit {0}
