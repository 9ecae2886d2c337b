-- Names after a name, each with its sign, lead on.
use Rattle.std.proofs.Common.{ℕ, ◌≡◌, ◌≤◌, ◌<◌, ◌^◌, ℤ, Bool, true, false, cond, List, [], ◌∷◌, ◌++◌, length, refl, sym, ap, subst, arith}
use Rattle.std.specs.Prelude.{nat_le}
use Rattle.proof_tokens.specs.declared.tokens.Token.{Token}
use Rattle.proof_tokens.specs.declared.tokens.Token.TheVariants as t
use Rattle.proof_tokens.specs.Reading.{Cuts}
use Rattle.proof_tokens.proofs.Cutting.{cut_append}
use Rattle.proof_constraint.specs.declared.draft.Draft.{Draft}
use Rattle.proof_constraint.specs.Behind as b
use Rattle.proof_constraint.specs.State.{GivenState}
use Rattle.proof_constraint.specs.State as s
use Rattle.proof_constraint.specs.Move.{GivenMove}
use Rattle.proof_constraint.specs.Move as m
use Rattle.proof_constraint.specs.Machine.{moves, named, signed, with_pair}
use Rattle.proof_constraint.proofs.Texts.{all_more}
use Rattle.std.proofs.lemmas.Bool.Decides.{nat_tests}
use Rattle.std.proofs.lemmas.List.Elements.{All-from_recursion, recursion_from_All}
use Rattle.proof_constraint.specs.Ranges.{IsRising}
use Rattle.proof_constraint.specs.Steps.{LeadOn, ReachesState}

pub lead_append : (z y w : GivenState) (xs ys : List Token) → LeadOn z xs y → LeadOn y ys w → LeadOn z (xs ++ ys) w
lead_append z y w [] ys p q = subst (λ v. LeadOn v ys w) (sym p) q
lead_append z y w (x ∷ xs) ys p q = (p.0, p.1, p.2, lead_append p.0 y w xs ys p.3 q)

abbrev pub name_tokens : Bool → ℕ → List Token
name_tokens minus x = t.Blank ∷ cond minus t.Minus t.Plus ∷ t.Blank ∷ t.Name x ∷ []

pub named_on : (g : Draft) (minus : Bool) (x : ℕ) → nat_le g.least x ≡ true → m.On (s.Behind (b.Sum (with_pair g minus 1 x))) ≡ named g minus 1 x
named_on g minus x h = sym (ap (λ q. cond q (m.On (s.Behind (b.Sum (with_pair g minus 1 x)))) m.Bad) h)

name_leads : (g : Draft) (minus : Bool) (x : ℕ) → x < 2 ^ 32 → nat_le g.least x ≡ true → LeadOn (s.Behind (b.Sum g)) (name_tokens minus x) (s.Behind (b.Sum (with_pair g minus 1 x)))
unfolding moves
name_leads g true x small h = (s.Blank (b.Sum g), refl, tt, (s.Behind (b.Sign g true), refl, tt, (s.Blank (b.Sign g true), refl, tt, (s.Behind (b.Sum (with_pair g true 1 x)), named_on g true x h, small, refl))))
name_leads g false x small h = (s.Blank (b.Sum g), refl, tt, (s.Behind (b.Sign g false), refl, tt, (s.Blank (b.Sign g false), refl, tt, (s.Behind (b.Sum (with_pair g false 1 x)), named_on g false x h, small, refl))))

-- a name above the last one may come
still_open : (g : Draft) (minus : Bool) (x : ℕ) → g.least ≤ x → IsRising g → IsRising (with_pair g minus 1 x)
still_open g minus x up above y h =
    let Below : ℕ × ℤ → Type 0 = λ p. p.0 < y in
    let all = recursion_from_All Below g.sum.pairs (above y (omega arith)) in
    All-from_recursion Below (g.sum.pairs ++ (x, signed minus 1) ∷ []) (all_more Below g.sum.pairs (x, signed minus 1) all (omega arith))

pub is_above : (least x : ℕ) → least ≤ x → nat_le least x ≡ true
is_above least x up = grind (arith, nat_tests)

-- what the loop over names has done
pub record Named (old g : Draft) (text rest : List ℕ) : Type 0 where
  pub reaches : ReachesState (s.Behind (b.Sum old)) (s.Behind (b.Sum g)) text rest
  pub is_open : IsRising g
  pub within : length rest ≤ length text

pub none_named : (g : Draft) (text : List ℕ) → IsRising g → Named g g text text
none_named g text h = record { reaches = record { tokens = []; leads = refl; cut = refl }; is_open = h; within = omega arith }

pub more_named : (old g h : Draft) (minus : Bool) (x : ℕ) (text rest more : List ℕ) → x < 2 ^ 32 → g.least ≤ x → h ≡ with_pair g minus 1 x → Cuts (name_tokens minus x) rest more → length more < length rest
    → Named old g text rest → Named old h text more
more_named old g h minus x text rest more small up is cut shorter n = record {
  reaches = record {
    tokens = n.reaches.tokens ++ name_tokens minus x;
    leads = lead_append (s.Behind (b.Sum old)) (s.Behind (b.Sum g)) (s.Behind (b.Sum h)) n.reaches.tokens (name_tokens minus x) n.reaches.leads (subst (λ d. LeadOn (s.Behind (b.Sum g)) (name_tokens minus x) (s.Behind (b.Sum d))) (sym is) (name_leads g minus x small (is_above g.least x up)));
    cut = cut_append n.reaches.tokens (name_tokens minus x) text rest more n.reaches.cut cut;
  };
  is_open = subst IsRising (sym is) (still_open g minus x up n.is_open);
  within = let w = n.within in omega (arith, w, shorter);
}
