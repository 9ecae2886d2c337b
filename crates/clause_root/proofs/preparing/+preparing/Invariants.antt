use Rattle.std.proofs.Common.{◌≡◌, ◌+◌, ◌*◌, ◌≤◌, drop, map}
use Rattle.formula.specs.Form.{AreFormsOver}
use Rattle.formula.specs.Sizes.{depth, depths}
use Rattle.formula.specs.Tree.{form, forms_of}
use Rattle.clause_root_laws.specs.Prepared.{all_prepared}
use Rattle.clause_root.proofs.Members.{behind}
use Rattle.clause_root.proofs.preparing.+preparing.Given as goal

abbrev pub decreases-prepared : goal.decreases-prepared
decreases-prepared l = 2 * depth (form l.f.now)

abbrev pub decreases-prepared_all : goal.decreases-prepared_all
decreases-prepared_all l = 2 * depths (forms_of l.formulas.now) + 1

abbrev pub invariant-prepared_all-loop-f : goal.invariant-prepared_all-loop-f
invariant-prepared_all-loop-f l = record {
  is : behind (map form l.out) (all_prepared l.inside l.names (forms_of (drop l.f-index l.formulas)) l.left) ≡ all_prepared l.inside l.names (forms_of l.formulas) l.fn.left;
  over : AreFormsOver l.names (forms_of (drop l.f-index l.formulas));
  room : depths (forms_of (drop l.f-index l.formulas)) ≤ depths (forms_of l.formulas);
}
