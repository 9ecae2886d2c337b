-- The encoding of a problem may be searched.
use Rattle.std.proofs.Common.{◌≡◌, ℕ, ◌≤◌, Bool, true, false, ◌||◌, nat_lt, length, refl, sym, subst, arith}
use Rattle.std.proofs.lemmas.Grind.{common_steps}
use Rattle.base_limits.specs.Limits.{most_constants, most_levels, most_nodes}
use Rattle.formula.specs.Form.{Form, IsFormOver}
use Rattle.formula.specs.Searchable.{IsSearchable}
use Rattle.formula.specs.Sizes.{depth, size}
use Rattle.formula.specs.Tree.{form}
use Rattle.form_encoding.specs.Problems.{is_large}
use Rattle.function_encoding.specs.declared.answer.Encoded.{Encoded}
use Rattle.pri_typing.specs.declared.problem.Problem.{Problem}
use Rattle.pri_typing.specs.WellFormed.{IsWellFormed}
use Rattle.pri_problem.specs.Encoded.{IsEncoded}

neither : (a b : Bool) → (a || b) ≡ false → (a ≡ false) × (b ≡ false)
neither true b h = absurd cc
neither false b h = (refl, h)

not_above : (most n : ℕ) → nat_lt most n ≡ false → n ≤ most
not_above most n h = grind (arith, common_steps)

-- what is not too large is within the limits
pub within_limits : (f : Form) → is_large f ≡ false → (size f ≤ most_nodes) × (depth f ≤ most_levels)
within_limits f small =
    let each = neither (nat_lt most_nodes (size f)) (nat_lt most_levels (depth f)) small in
    (not_above most_nodes (size f) each.0, not_above most_levels (depth f) each.1)

few_constants : (p : Problem) → IsWellFormed p → length p.existentials ≤ most_constants
few_constants p formed = let few = formed.few in omega (arith, few)

pub searchable : (p : Problem) (e : Encoded) → IsWellFormed p → IsEncoded p e → IsSearchable (form e.root) e.constants
searchable p e formed h =
    let within = within_limits (form e.root) h.small in
    record {
      over = subst (λ n. IsFormOver n (form e.root)) (sym h.constants) h.over;
      size = within.0;
      depth = within.1;
      constants = subst (λ n. n ≤ most_constants) (sym h.constants) (few_constants p formed);
    }
