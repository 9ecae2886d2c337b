-- Refusals of texts, from those of what stands in them.
use Rattle.std.proofs.Common.{ℕ, ◌≡◌, List, [], ◌∷◌, ◌++◌, Result, refl, ap, ◌∙◌, append_assoc}
use Rattle.std.specs.Result.{IfErr, IsErrAnd}
use Rattle.std.proofs.lemmas.Result.{err_from_is_err_and}
use Rattle.proof_tokens.specs.declared.tokens.Token.{Token}
use Rattle.proof_tokens.specs.declared.reading.Refusal.{Refusal}
use Rattle.proof_tokens.specs.declared.reading.Refusal.TheVariants as e
use Rattle.proof_tokens.specs.Reading.{Cuts, Begins, RefusesProof, RefusesNext}
use Rattle.proof_tokens.proofs.Cutting.{cut_append}

-- none of the tokens that can stand after some others comes there
pub lacked : {V : Type 0} (IsValue : V → Type 0) (text : V → List Token) (front : List Token) (bytes back : List ℕ) (P : Token → Type 0) (fault : Refusal)
    → Cuts front bytes back → RefusesNext P back fault → Begins IsValue text front
    → ((v : V) (x : Token) (more : List Token) → IsValue v → text v ≡ front ++ x ∷ more → P x)
    → ((v : V) → IsValue v → text v ≡ front → ⊥) → RefusesProof IsValue text bytes fault
lacked IsValue text front bytes back P e.Memory cut lacks begins next inside = tt
lacked IsValue text front bytes back P (e.Syntax left) cut lacks begins next inside = record {
  back = back;
  first = record {
    front = front;
    cut = cut;
    begins = begins;
    none = λ x rest q b. lacks.1 x rest q (next b.value x b.more b.is_value (b.parts ∙ append_assoc front (x ∷ []) b.more));
  };
  inside = inside;
  place = lacks.0;
}

-- what is refused after a token is refused after it
pub refused_behind : {V : Type 0} (IsValue : V → Type 0) (text : V → List Token) (x : Token) (bytes rest : List ℕ) (fault : Refusal)
    → Cuts (x ∷ []) bytes rest → RefusesProof IsValue text rest fault → RefusesProof IsValue (λ v. x ∷ text v) bytes fault
refused_behind IsValue text x bytes rest e.Memory cut r = tt
refused_behind IsValue text x bytes rest (e.Syntax left) cut r = record {
  back = r.back;
  first = record {
    front = x ∷ r.first.front;
    cut = cut_append (x ∷ []) r.first.front bytes rest r.back cut r.first.cut;
    begins = record { value = r.first.begins.value; is_value = r.first.begins.is_value; more = r.first.begins.more; parts = ap (λ z. x ∷ z) r.first.begins.parts };
    none = λ y behind q b. r.first.none y behind q (record { value = b.value; is_value = b.is_value; more = b.more; parts = let h = b.parts in cc });
  };
  inside = λ v i h. r.inside v i (cc);
  place = r.place;
}

-- another token stands where a text has to begin with this one
pub no_word : {V : Type 0} (IsValue : V → Type 0) (text : V → List Token) (x : Token) (v : V) (bytes : List ℕ) (fault : Refusal)
    → IsValue v → RefusesNext (λ y. y ≡ x) bytes fault → RefusesProof IsValue (λ u. x ∷ text u) bytes fault
no_word IsValue text x v bytes fault i lacks = lacked IsValue (λ u. x ∷ text u) [] bytes bytes (λ y. y ≡ x) fault refl lacks
    (record { value = v; is_value = i; more = x ∷ text v; parts = refl })
    (λ u y more j q. cc)
    (λ u j q. cc)

-- what a `?` hands on
pub fails : {A : Type 0} (fault : Refusal) (r : Result A Refusal) (P : Refusal → Type 0) → IsErrAnd r (λ x. x ≡ fault) → P fault → IfErr r P
fails fault r P h p = let q = err_from_is_err_and r h in rw (q.1, q.2) p
