-- A problem with another formula.
use Rattle.std.specs.Prelude.{[], None}
use Rattle.form_typed.specs.declared.typed.Typed.{Typed}
use Rattle.pri_typing.specs.declared.problem.Problem.{Problem}

-- the problem with this formula and without cuts
abbrev pub with_formula : Problem → Typed → Problem
with_formula p f = record {
  existentials = p.existentials;
  existential_types = p.existential_types;
  universals = p.universals;
  universal_types = p.universal_types;
  functions = p.functions;
  predicates = p.predicates;
  parts = p.parts;
  formula = f;
  cuts = [];
  first_application = None;
}
