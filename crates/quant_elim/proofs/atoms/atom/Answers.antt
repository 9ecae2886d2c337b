use Rattle.std.proofs.Common.{ℕ}
use Rattle.elim_laws.specs.Whole.{IsExact, eliminating}
use Rattle.formula.specs.Tree.{form}
use Rattle.quant_elim.proofs.Atomic.{atom_exact}
use Rattle.quant_elim.proofs.Outcomes.{value_of_call}
use Rattle.quant_elim.proofs.atoms.atom.Goals as goal

pub returns-clause-exact : goal.returns-clause-exact
returns-clause-exact c =
    value_of_call (λ d. (n : ℕ) → IsExact d (form c.args.f.now) n) (eliminating 0 (form c.args.f.now)) c.by_kind.result c.by_kind.ensures (atom_exact (form c.args.f.now) c.know_terms.ensures c.requires)
