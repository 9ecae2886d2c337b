-- The names of refusals, with their places.
use Rattle.std.specs.Prelude.{ℕ, ◌<◌, ◌^◌, List, [], codes}
use Rattle.base_answers.specs.Answer.{placed}
use Rattle.pri_reader.specs.declared.tree.ReadRefusal.TheVariants as reading
use Rattle.pri_typing.specs.declared.problem.TypeRefusal.TheVariants as typing
use Rattle.pri_problem.specs.Reads.{Refusal, unread, untyped}

-- what a refusal is called; running out of memory is none
abbrev pub refusal_name : Refusal → List ℕ
refusal_name (unread (reading.Syntax at)) = placed (codes "Syntax") at
refusal_name (unread (reading.Literal at)) = placed (codes "Literal") at
refusal_name (unread (reading.Deep at)) = placed (codes "Deep") at
refusal_name (untyped (typing.Undeclared at)) = placed (codes "Undeclared") at
refusal_name (untyped (typing.Redeclared at)) = placed (codes "Redeclared") at
refusal_name (untyped (typing.Arity at)) = placed (codes "Arity") at
refusal_name (untyped (typing.Kind at)) = placed (codes "Kind") at
refusal_name (untyped (typing.NonLinear at)) = placed (codes "NonLinear") at
refusal_name (untyped (typing.Parts at)) = placed (codes "Parts") at
refusal_name (untyped (typing.Many at)) = placed (codes "Many") at
refusal_name (unread reading.Memory) = []
refusal_name (untyped typing.Memory) = []

-- a refusal has a name: it is not running out of memory, and its place is a number of 64 bits
abbrev pub IsNamed : Refusal → Type 0
IsNamed (unread (reading.Syntax at)) = at < 2 ^ 64
IsNamed (unread (reading.Literal at)) = at < 2 ^ 64
IsNamed (unread (reading.Deep at)) = at < 2 ^ 64
IsNamed (untyped (typing.Undeclared at)) = at < 2 ^ 64
IsNamed (untyped (typing.Redeclared at)) = at < 2 ^ 64
IsNamed (untyped (typing.Arity at)) = at < 2 ^ 64
IsNamed (untyped (typing.Kind at)) = at < 2 ^ 64
IsNamed (untyped (typing.NonLinear at)) = at < 2 ^ 64
IsNamed (untyped (typing.Parts at)) = at < 2 ^ 64
IsNamed (untyped (typing.Many at)) = at < 2 ^ 64
IsNamed (unread reading.Memory) = ⊥
IsNamed (untyped typing.Memory) = ⊥
