-- What is held of assertions stays so after further definitions.
use Rattle.std.proofs.Common.{◌≡◌, ◌≤◌, List, [], ◌∷◌, ◌++◌, length, take, sym, ap, ◌∙◌, arith}
use Rattle.std.proofs.lemmas.List.{length-take, take-take}
use Rattle.smt_terms.specs.Scripts as scripts
use Rattle.smt_names.specs.declared.body.Body.{Body}
use Rattle.smt_names.specs.Body.{shape}
use Rattle.smt_names.specs.Saying.{calls_of, shape_said}
use Rattle.smt_reader.specs.declared.following.Assertion.{Assertion}
use Rattle.smt_reader.specs.Following.{AreClaims, IsClaim}

front_long : {A : Type 0} (xs ys : List A) → take (length xs) ys ≡ xs → length xs ≤ length ys
front_long xs ys h = let is = sym (ap length h) ∙ length-take (length xs) ys in omega (arith, is)

claim_on : (ds more : List Body) (a : Assertion) (c : scripts.Claim) → take (length ds) more ≡ ds → IsClaim ds a c → IsClaim more a c
claim_on ds more a c e h = record {
  within = let long : length ds ≤ length more = front_long ds more e in omega (arith, long, h.within);
  says = ap (λ z. shape_said (calls_of z) [] (shape a.body)) (sym (take-take a.definitions (length ds) more h.within) ∙ ap (take a.definitions) e) ∙ h.says;
}

pub claims_on : (ds more : List Body) (xs : List Assertion) (cs : List scripts.Claim) → take (length ds) more ≡ ds → AreClaims ds xs cs → AreClaims more xs cs
claims_on ds more [] [] e h = tt
claims_on ds more [] (c ∷ cs) e h = absurd h
claims_on ds more (a ∷ xs) [] e h = absurd h
claims_on ds more (a ∷ xs) (c ∷ cs) e h = (claim_on ds more a c e h.0, claims_on ds more xs cs e h.1)

pub claims_more : (ds : List Body) (xs : List Assertion) (cs : List scripts.Claim) (a : Assertion) (c : scripts.Claim) → AreClaims ds xs cs → IsClaim ds a c → AreClaims ds (xs ++ a ∷ []) (cs ++ c ∷ [])
claims_more ds [] [] a c h k = (k, tt)
claims_more ds [] (d ∷ cs) a c h k = absurd h
claims_more ds (x ∷ xs) [] a c h k = absurd h
claims_more ds (x ∷ xs) (d ∷ cs) a c h k = (h.0, claims_more ds xs cs a c h.1 k)
