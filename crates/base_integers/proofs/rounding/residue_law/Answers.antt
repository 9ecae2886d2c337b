use Rattle.base_integers.proofs.Residues.{residue-is, residue-only, rem-parts, divides-residue}
use Rattle.base_integers.proofs.rounding.residue_law.Goals as goal

pub returns : goal.returns
returns c = record {
  residue = residue-is;
  only = residue-only;
  divides = divides-residue;
  rest = rem-parts;
}
