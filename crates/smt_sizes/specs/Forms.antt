-- Forms of defined functions.
use Rattle.std.specs.Prelude.{◌≡◌, List, length}
use Rattle.smt_names.specs.declared.body.Body.{Body}
use Rattle.smt_sizes.specs.declared.forms.Forms.{Forms}
use Rattle.smt_sizes.specs.Shapes.{AreForms}

-- There is a form for each of these defined functions, and it is theirs.
abbrev pub Describes : Forms → List Body → Type 0
Describes f ds = (length f.forms.items ≡ length ds) × AreForms f.forms.items ds
