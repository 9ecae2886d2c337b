-- Reading a line field by field.
use Rattle.std.proofs.Common.{ℕ, ◌≡◌, List, Result, Ok, Err, refl, sym, ap, ◌∙◌}
use Rattle.proof_tokens.specs.declared.reading.Refusal.{Refusal}
use Rattle.proof_tokens.specs.declared.reading.Refusal.TheVariants as e
use Rattle.clause_proof.specs.declared.line.Line.{Line}
use Rattle.clause_text.specs.declared.line_word.LineWord.{LineWord}
use Rattle.clause_text.specs.Shapes.{Kind, Shape, nothing, one, many_by, Said, meaning, by, LineValues, shape_of, reading}
use Rattle.clause_text.specs.Lines.{line_with, line_behind}
use Rattle.clause_words.specs.Reading.{Token, Read, ◌>>=◌, GivesValue, Fails, done, paired, feed_first, field, fields, fields_to, unless}
use Rattle.clause_text.proofs.ExactLines.{seen}

pub step_done : (k : Kind) (s : Shape) (ts us rest : List Token) (v : Said k) (vs : LineValues s) → field (meaning k) ts ≡ done v us → reading s us ≡ done vs rest → reading (one k s) ts ≡ done (v, vs) rest
step_done k s ts us rest v vs h g = ap (λ z. z >>= λ x. reading s x.1 >>= paired x.0) h ∙ ap (λ z. z >>= paired v) g

fails_by : {A B : Type 0} (fault : Refusal) (r : Read A) (f : A × List Token → Read B) → Fails fault r → Fails fault (r >>= f)
fails_by e.Memory r f h = tt
fails_by (e.Syntax n) r f h = ap (λ z. z >>= f) h

fails_as : {A : Type 0} (fault : Refusal) (r q : Read A) → q ≡ r → Fails fault r → Fails fault q
fails_as e.Memory r q p h = tt
fails_as (e.Syntax n) r q p h = p ∙ h

pub step_fails : (k : Kind) (s : Shape) (ts us : List Token) (v : Said k) (fault : Refusal) → field (meaning k) ts ≡ done v us → Fails fault (reading s us) → Fails fault (reading (one k s) ts)
step_fails k s ts us v fault h g =
    fails_as fault (reading s us >>= paired v) (reading (one k s) ts) (ap (λ z. z >>= λ x. reading s x.1 >>= paired x.0) h) (fails_by fault (reading s us) (paired v) g)

pub by_done : (j k : Kind) (ts us rest : List Token) (v : List (Said j)) (vs : List (Said k)) → fields_to (unless by (meaning j)) ts ≡ done v us → fields (meaning k) us ≡ done vs rest → reading (many_by j k) ts ≡ done (v, vs) rest
by_done j k ts us rest v vs h g = ap (λ z. z >>= λ x. fields (meaning k) x.1 >>= paired x.0) h ∙ ap (λ z. z >>= paired v) g

pub by_fails : (j k : Kind) (ts us : List Token) (v : List (Said j)) (fault : Refusal) → fields_to (unless by (meaning j)) ts ≡ done v us → Fails fault (fields (meaning k) us) → Fails fault (reading (many_by j k) ts)
by_fails j k ts us v fault h g =
    fails_as fault (fields (meaning k) us >>= paired v) (reading (many_by j k) ts) (ap (λ z. z >>= λ x. fields (meaning k) x.1 >>= paired x.0) h) (fails_by fault (fields (meaning k) us) (paired v) g)

pub end_done : (ts rest : List Token) → feed_first ts ≡ Ok rest → reading nothing ts ≡ done {A = Unit {0}} tt rest
end_done ts rest h = ap (λ z. z >>= λ r. done {A = Unit {0}} tt r) h

pub end_fails : (ts : List Token) (fault : Refusal) → Fails fault (feed_first ts) → Fails fault (reading nothing ts)
end_fails ts e.Memory h = tt
end_fails ts (e.Syntax n) h = ap (λ z. z >>= λ r. done {A = Unit {0}} tt r) h

pub line_done : (w : LineWord) (ts rest : List Token) (v : LineValues (shape_of w)) → reading (shape_of w) ts ≡ done v rest → line_behind w ts ≡ done (line_with w v) rest
line_done w ts rest v h = ap (λ z. z >>= λ p. done (line_with w p.0) p.1) h

pub line_fails : (w : LineWord) (ts : List Token) (fault : Refusal) → Fails fault (reading (shape_of w) ts) → Fails fault (line_behind w ts)
line_fails w ts fault h = fails_by fault (reading (shape_of w) ts) (λ p. done (line_with w p.0) p.1) h

-- a case of the word
pub arm : {S : Type 0} (rest : S → List ℕ) (r : Result (Line × S) Refusal) (v w : LineWord) (ts : List Token) → v ≡ w → GivesValue (seen rest) r (line_behind w ts) → GivesValue (seen rest) r (line_behind v ts)
arm rest r v w ts e g = Rattle.std.proofs.Common.subst (λ z. GivesValue (seen rest) r (line_behind z ts)) (sym e) g

-- a field that fails
pub field_fails : (k : Kind) (s : Shape) (ts : List Token) (fault : Refusal) → Fails fault (field (meaning k) ts) → Fails fault (reading (one k s) ts)
field_fails k s ts fault h = fails_by fault (field (meaning k) ts) (λ x. reading s x.1 >>= paired x.0) h
