-- What stands below the for-all of a constant in an encoded problem.
use Rattle.std.specs.Prelude.{Option, None, Some}
use Rattle.form_typed.specs.declared.typed.Sort.{Sort}
use Rattle.form_typed.specs.declared.typed.Sort.TheVariants.{Int}
use Rattle.formula.specs.Form.{Form, Forms, disjunction, universal, no_form, and_form}

-- the last member
abbrev pub last_form : Forms → Option Form
last_form no_form = None
last_form (and_form f no_form) = Some f
last_form (and_form f (and_form g fs)) = last_form (and_form g fs)

-- the last member of a disjunction
abbrev pub last_of : Form → Option Form
last_of (disjunction fs) = last_form fs
last_of f = None

-- below a for-all over the values of a type: its body, without what says that a value is none of the type
abbrev pub below : Sort → Form → Option Form
below Int (universal g) = Some g
below s (universal g) = last_of g
below s f = None
