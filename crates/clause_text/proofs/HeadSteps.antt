-- Reading the first lines field by field.
use Rattle.std.proofs.Common.{ℕ, ℤ, ◌≡◌, List, Option, Result, Ok, Err, refl, sym, ap, ◌∙◌}
use Rattle.proof_tokens.specs.declared.reading.Refusal.{Refusal}
use Rattle.proof_tokens.specs.declared.reading.Refusal.TheVariants as e
use Rattle.clause_proof.specs.declared.line.Literal.{Literal}
use Rattle.clause_text.specs.declared.charge.Charge.{Charge}
use Rattle.clause_text.specs.Head.{One, one_of_line, charges_line, prepared_line, values_line, root_line, HeadValues, head_values, head_with, head_of}
use Rattle.clause_text.specs.HeadWords.{is_label}
use Rattle.clause_words.specs.Reading.{Token, Read, ◌>>=◌, Fails, done, paired, both, ends, blank_first, feed_first, field, word_as}

fails_by : {A B : Type 0} (fault : Refusal) (r : Result A ℕ) (f : A → Result B ℕ) → Fails fault r → Fails fault (r >>= f)
fails_by e.Memory r f h = tt
fails_by (e.Syntax n) r f h = ap (λ z. z >>= f) h

fails_as : {A : Type 0} (fault : Refusal) (r q : Result A ℕ) → q ≡ r → Fails fault r → Fails fault q
fails_as e.Memory r q p h = tt
fails_as (e.Syntax n) r q p h = p ∙ h

pub both_done : {A B : Type 0} (ra : List Token → Read A) (rb : List Token → Read B) (ts us rest : List Token) (a : A) (b : B) → ra ts ≡ done a us → rb us ≡ done b rest → both ra rb ts ≡ done (a, b) rest
both_done ra rb ts us rest a b h g = ap (λ z. z >>= λ x. rb x.1 >>= paired x.0) h ∙ ap (λ z. z >>= paired a) g

pub both_first : {A B : Type 0} (ra : List Token → Read A) (rb : List Token → Read B) (ts : List Token) (fault : Refusal) → Fails fault (ra ts) → Fails fault (both ra rb ts)
both_first ra rb ts fault h = fails_by fault (ra ts) (λ x. rb x.1 >>= paired x.0) h

pub both_second : {A B : Type 0} (ra : List Token → Read A) (rb : List Token → Read B) (ts us : List Token) (a : A) (fault : Refusal) → ra ts ≡ done a us → Fails fault (rb us) → Fails fault (both ra rb ts)
both_second ra rb ts us a fault h g = fails_as fault (rb us >>= paired a) (both ra rb ts) (ap (λ z. z >>= λ x. rb x.1 >>= paired x.0) h) (fails_by fault (rb us) (paired a) g)

pub ends_done : (ts rest : List Token) → feed_first ts ≡ Ok rest → ends ts ≡ done {A = Unit {0}} tt rest
ends_done ts rest h = ap (λ z. z >>= λ r. done {A = Unit {0}} tt r) h

pub ends_fails : (ts : List Token) (fault : Refusal) → Fails fault (feed_first ts) → Fails fault (ends ts)
ends_fails ts fault h = fails_by fault (feed_first ts) (λ r. done {A = Unit {0}} tt r) h

-- a line with one value
pub one_done : {A : Type 0} (w : List ℕ) (f : List ℕ → Option A) (ts us vs rest : List Token) (v : A) → word_as (is_label w) ts ≡ done tt us → field f us ≡ done v vs → feed_first vs ≡ Ok rest → one_of_line w f ts ≡ done (tt, (v, tt)) rest
one_done w f ts us vs rest v h g k = both_done (word_as (is_label w)) (both (field f) ends) ts us rest tt (v, tt) h (both_done (field f) ends us vs rest v tt g (ends_done vs rest k))

pub one_label_fails : {A : Type 0} (w : List ℕ) (f : List ℕ → Option A) (ts : List Token) (fault : Refusal) → Fails fault (word_as (is_label w) ts) → Fails fault (one_of_line w f ts)
one_label_fails w f ts fault h = both_first (word_as (is_label w)) (both (field f) ends) ts fault h

pub one_field_fails : {A : Type 0} (w : List ℕ) (f : List ℕ → Option A) (ts us : List Token) (fault : Refusal) → word_as (is_label w) ts ≡ done tt us → Fails fault (field f us) → Fails fault (one_of_line w f ts)
one_field_fails w f ts us fault h g = both_second (word_as (is_label w)) (both (field f) ends) ts us tt fault h (both_first (field f) ends us fault g)

pub one_end_fails : {A : Type 0} (w : List ℕ) (f : List ℕ → Option A) (ts us vs : List Token) (v : A) (fault : Refusal) → word_as (is_label w) ts ≡ done tt us → field f us ≡ done v vs → Fails fault (feed_first vs) → Fails fault (one_of_line w f ts)
one_end_fails w f ts us vs v fault h g k = both_second (word_as (is_label w)) (both (field f) ends) ts us tt fault h (both_second (field f) ends us vs v fault g (ends_fails vs fault k))

-- a word after a blank
pub word_field : {A : Type 0} (f : List ℕ → Option A) (us xs vs : List Token) (v : A) → blank_first us ≡ Ok xs → word_as f xs ≡ done v vs → field f us ≡ done v vs
unfolding field
word_field f us xs vs v h g = ap (λ z. z >>= word_as f) h ∙ g

pub blank_field : {A : Type 0} (f : List ℕ → Option A) (us : List Token) (fault : Refusal) → Fails fault (blank_first us) → Fails fault (field f us)
unfolding field
blank_field f us fault h = fails_by fault (blank_first us) (word_as f) h

pub wrong_field : {A : Type 0} (f : List ℕ → Option A) (us xs : List Token) (fault : Refusal) → blank_first us ≡ Ok xs → Fails fault (word_as f xs) → Fails fault (field f us)
unfolding field
wrong_field f us xs fault h g = fails_as fault (word_as f xs) (blank_first us >>= word_as f) (ap (λ z. z >>= word_as f) h) g

-- ---- the five lines

abbrev pub behind_prepared : List Token → Read ((Unit {0} × List ℤ) × One Literal)
behind_prepared = both values_line root_line

abbrev pub behind_charges : List Token → Read (One ℕ × ((Unit {0} × List ℤ) × One Literal))
behind_charges = both prepared_line behind_prepared

abbrev pub behind_format : List Token → Read (One Charge × (One ℕ × ((Unit {0} × List ℤ) × One Literal)))
behind_format = both charges_line behind_charges

pub head_done : (ts rest : List Token) (v : HeadValues) → head_values ts ≡ done v rest → head_of ts ≡ done (head_with v) rest
unfolding head_of
head_done ts rest v h = ap (λ z. z >>= λ p. done (head_with p.0) p.1) h

pub head_fails : (ts : List Token) (fault : Refusal) → Fails fault (head_values ts) → Fails fault (head_of ts)
unfolding head_of
head_fails ts fault h = fails_by fault (head_values ts) (λ p. done (head_with p.0) p.1) h
