-- The assertions of a check, one more.
use Rattle.std.proofs.Common.{ℕ, zero, suc, ◌≡◌, ◌+◌, ◌<◌, ◌≤◌, List, [], ◌∷◌, ◌++◌, length, map, take, get_or, refl, sym, ap, ap₂, subst, ◌∙◌, arith}
use Rattle.std.proofs.lemmas.List.{map-append, take_all, take_more}
use Rattle.form_typed.specs.Formula.{Formula, formula}
use Rattle.form_typed.specs.declared.typed.Typed.{Typed}
use Rattle.smt_terms.specs.Scripts as scripts
use Rattle.smt_terms.specs.Translation.{asserted, formula_in}
use Rattle.smt_names.specs.declared.body.Body.{Body}
use Rattle.smt_names.specs.Body.{shape}
use Rattle.smt_names.specs.Saying.{calls_of, shape_said}
use Rattle.smt_reader.specs.declared.following.Assertion.{Assertion}
use Rattle.smt_reader.specs.Following.{AreClaims, IsClaim}

as_many : (ds : List Body) (xs : List Assertion) (cs : List scripts.Claim) → AreClaims ds xs cs → length xs ≡ length cs
as_many ds [] [] h = refl
as_many ds [] (c ∷ cs) h = absurd h
as_many ds (a ∷ xs) [] h = absurd h
as_many ds (a ∷ xs) (c ∷ cs) h = ap suc (as_many ds xs cs h.1)

pub all_claims : (ds : List Body) (xs : List Assertion) (cs : List scripts.Claim) (n : ℕ) → AreClaims ds xs cs → n ≡ length xs → take n cs ≡ cs
all_claims ds xs cs n h is = take_all n cs (let many = as_many ds xs cs h in omega (arith, is, many))

claim_at : (ds : List Body) (xs : List Assertion) (cs : List scripts.Claim) (i : ℕ) (a : Assertion) (d : scripts.Claim) → AreClaims ds xs cs → i < length xs → IsClaim ds (get_or xs i a) (get_or cs i d)
claim_at ds [] cs i a d h k = absurd (omega (arith, k))
claim_at ds (x ∷ xs) [] i a d h k = absurd h
claim_at ds (x ∷ xs) (c ∷ cs) zero a d h k = h.0
claim_at ds (x ∷ xs) (c ∷ cs) (suc i) a d h k = claim_at ds xs cs i a d h.1 (omega (arith, k))

-- one formula more
pub asserted_more : (ds visible : List Body) (xs : List Assertion) (cs : List scripts.Claim) (i n : ℕ) (a : Assertion) (members more : List Typed) (t : Typed)
    → AreClaims ds xs cs → i < length xs → a ≡ get_or xs i a → (a.definitions ≤ length ds → visible ≡ take a.definitions ds)
    → formula t ≡ formula_in (shape_said (calls_of visible) [] (shape a.body) n) → more ≡ members ++ t ∷ []
    → map formula members ≡ map (λ c. asserted c.globals n c.term) (take i cs) → map formula more ≡ map (λ c. asserted c.globals n c.term) (take (i + 1) cs)
asserted_more ds visible xs [] i n a members more t h k is seen says longer so_far = absurd (let many = as_many ds xs [] h in omega (arith, k, many))
asserted_more ds visible xs (d ∷ cs) i n a members more t h k is seen says longer so_far =
    let F : scripts.Claim → Formula = λ c. asserted c.globals n c.term in
    let many : length xs ≡ length (d ∷ cs) = as_many ds xs (d ∷ cs) h in
    let here : IsClaim ds a (get_or (d ∷ cs) i d) = subst (λ z. IsClaim ds z (get_or (d ∷ cs) i d)) (sym is) (claim_at ds xs (d ∷ cs) i a d h k) in
    let one : formula t ≡ F (get_or (d ∷ cs) i d) =
    says ∙ ap (λ z. formula_in (shape_said (calls_of z) [] (shape a.body) n)) (seen here.within) ∙ ap (λ z. formula_in (z n)) here.says in
    ap (map formula) longer ∙ map-append formula members (t ∷ []) ∙ ap₂ (λ (y : List Formula) z. y ++ z ∷ []) so_far one
    ∙ sym (map-append F (take i (d ∷ cs)) (get_or (d ∷ cs) i d ∷ [])) ∙ ap (map F) (sym (take_more (d ∷ cs) i d (omega (arith, k, many))))
