-- What posing a problem makes, at a place, of blocks without faults.
use Rattle.std.specs.Prelude.{◌≡◌, List}
use Rattle.std.specs.List.{flat_map}
use Rattle.pri_reader.specs.declared.tree.Block.{Block}
use Rattle.form_typed.specs.Formula as logic
use Rattle.pri_typing.specs.declared.problem.Problem.{Problem}
use Rattle.pri_typing.specs.declared.scope.Site.{Site}
use Rattle.pri_typing.specs.Phrase.{Phrase}
use Rattle.pri_typing.specs.Sites.{scope_at}
use Rattle.pri_typing.specs.Parts.{cuts_in}
use Rattle.pri_typing.specs.Sorts.{existential_sorts, universal_sorts}
use Rattle.pri_typing.specs.Symbols.{IsListed}
use Rattle.pri_typing.specs.Typing.{says, applications, first_of}

-- the problem that blocks without faults pose, with a formula that stands at this place
pub record IsPosed (here : Site) (blocks : List Block) (formula : Phrase) (p : Problem) : Type 0 where
  pub listed : IsListed (record { existentials = p.existentials; universals = p.universals; functions = p.functions; predicates = p.predicates }) here.symbols.now
  pub existential_types_are : p.existential_types ≡ flat_map existential_sorts blocks
  pub universal_types_are : p.universal_types ≡ flat_map universal_sorts blocks
  pub parts_are : p.parts ≡ here.parts.now
  pub formula_is : logic.formula p.formula ≡ says (scope_at here) formula
  pub cuts_are : p.cuts ≡ flat_map (cuts_in here.parts.now) blocks
  pub first_is : p.first_application ≡ first_of (applications (scope_at here) formula)
