-- Reading tokens from left to right: a value and the tokens after it, or how many bytes are left from the first token that
-- cannot stand there.
use Rattle.std.specs.Prelude.{ℕ, ◌≡◌, Bool, true, false, List, [], ◌∷◌, Option, Some, None, Result, Ok, Err, cond}
use Rattle.std.specs.Str.{bytes_eq}
use Rattle.std.specs.Option.{option_map}
use Rattle.proof_tokens.specs.declared.reading.Refusal.{Refusal}
use Rattle.proof_tokens.specs.declared.reading.Refusal.TheVariants as e
use Rattle.clause_words.specs.Tokens.{is_separator, size, blank, line_feed}

abbrev pub Token : Type 0
Token = List ℕ

abbrev pub Read : Type 0 → Type 0
Read A = Result (A × List Token) ℕ

abbrev pub done : {A : Type 0} → A → List Token → Read A
done v ts = Ok (v, ts)

infixl 10 ◌>>=◌
abbrev pub ◌>>=◌ : {A B : Type 0} → Result A ℕ → (A → Result B ℕ) → Result B ℕ
(Ok x) >>= f = f x
(Err n) >>= f = Err n

-- what a function returned, seen by view, is what reading gives, unless memory ran out
abbrev pub Fails : {Y : Type 0} → Refusal → Result Y ℕ → Type 0
Fails e.Memory read = Unit {0}
Fails (e.Syntax n) read = read ≡ Err n

abbrev pub GivesValue : {X Y : Type 0} → (X → Y) → Result X Refusal → Result Y ℕ → Type 0
GivesValue view (Ok x) read = read ≡ Ok (view x)
GivesValue view (Err fault) read = Fails fault read

abbrev pub or_refused : {A : Type 0} → ℕ → Option A → Result A ℕ
or_refused n None = Err n
or_refused n (Some x) = Ok x

-- what a word says; no blank and no line feed says anything
abbrev pub said : {A : Type 0} → (List ℕ → Option A) → Token → Option A
said f x = cond (is_separator x) None (f x)

-- the value that the first token says
unfoldable pub word_as : {A : Type 0} → (List ℕ → Option A) → List Token → Read A
word_as f [] = Err 0
word_as f (x ∷ xs) = or_refused (size (x ∷ xs)) (said f x) >>= λ v. Ok (v, xs)

-- whether a blank comes first, not a line feed
unfoldable pub joint : List Token → Read Bool
joint [] = Err 0
joint (x ∷ xs) = cond (bytes_eq x blank) (Ok (true, xs)) (cond (bytes_eq x line_feed) (Ok (false, xs)) (Err (size (x ∷ xs))))

-- the tokens after a blank
unfoldable pub blank_first : List Token → Result (List Token) ℕ
blank_first ts = joint ts >>= λ p. cond p.0 (Ok p.1) (Err (size ts))

-- the tokens after a line feed
unfoldable pub feed_first : List Token → Result (List Token) ℕ
feed_first ts = joint ts >>= λ p. cond p.0 (Err (size ts)) (Ok p.1)

-- the value of the word after a blank
unfoldable pub field : {A : Type 0} → (List ℕ → Option A) → List Token → Read A
field f ts = blank_first ts >>= word_as f

abbrev pub with_first : {A : Type 0} → A → Read (List A) → Read (List A)
with_first v read = read >>= λ p. Ok (v ∷ p.0, p.1)

abbrev pub going_on : {A : Type 0} → ℕ → Option A → Read (List A) → Read (List A)
going_on n None read = Err n
going_on n (Some v) read = with_first v read

-- the values of words, each after a blank, to the end of the line
unfoldable pub fields : {A : Type 0} → (List ℕ → Option A) → List Token → Read (List A)
fields f [] = Err 0
fields f (x ∷ []) = cond (bytes_eq x blank) (Err 0) (cond (bytes_eq x line_feed) (Ok ([], [])) (Err (size (x ∷ []))))
fields f (x ∷ y ∷ ts) =
    cond (bytes_eq x blank) (going_on (size (y ∷ ts)) (said f y) (fields f ts))
    (cond (bytes_eq x line_feed) (Ok ([], y ∷ ts)) (Err (size (x ∷ y ∷ ts))))

-- what a word says where the word w ends a list
abbrev pub unless : {A : Type 0} → List ℕ → (List ℕ → Option A) → List ℕ → Option (Option A)
unless w f x = cond (bytes_eq x w) (Some None) (option_map Some (f x))

abbrev pub going_on_unless : {A : Type 0} → ℕ → List Token → Option (Option A) → Read (List A) → Read (List A)
going_on_unless n ts None read = Err n
going_on_unless n ts (Some None) read = done [] ts
going_on_unless n ts (Some (Some v)) read = with_first v read

-- the values of words, each after a blank, up to one that ends the list
unfoldable pub fields_to : {A : Type 0} → (List ℕ → Option (Option A)) → List Token → Read (List A)
fields_to f [] = Err 0
fields_to f (x ∷ []) = cond (bytes_eq x blank) (Err 0) (Err (size (x ∷ [])))
fields_to f (x ∷ y ∷ ts) = cond (bytes_eq x blank) (going_on_unless (size (y ∷ ts)) ts (said f y) (fields_to f ts)) (Err (size (x ∷ y ∷ ts)))

abbrev pub paired : {A B : Type 0} → A → (B × List Token) → Read (A × B)
paired a y = Ok ((a, y.0), y.1)

-- one reader after another
abbrev pub both : {A B : Type 0} → (List Token → Read A) → (List Token → Read B) → List Token → Read (A × B)
both ra rb ts = ra ts >>= λ x. rb x.1 >>= paired x.0

-- the end of a line
abbrev pub ends : List Token → Read (Unit {0})
ends ts = feed_first ts >>= λ rest. Ok (tt, rest)
