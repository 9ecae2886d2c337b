-- An extent as the code has it.
use Rattle.form_encoding.specs.Extent as spec
use Rattle.function_encoding.specs.declared.counting.Extent.{Extent}

abbrev pub counted : Extent → spec.Extent
counted a = record { nodes = a.nodes; levels = a.levels }
