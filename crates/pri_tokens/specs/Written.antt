-- How each terminal is written: the words, the commands and the signs in one way each.
use Rattle.std.specs.Prelude.{ℕ, ◌≡◌, true, List, codes, Option, Some, None}
use Rattle.pri_tokens.specs.declared.terminals.Terminal.{Terminal}
use Rattle.pri_tokens.specs.declared.terminals.Terminal.TheVariants as t
use Rattle.pri_tokens.specs.declared.terminals.TokenKind.TheVariants as k
use Rattle.pri_tokens.specs.Kinds.{is_spelled}

-- the one spelling of a terminal, where it has one
abbrev pub spelling_of : Terminal → Option (List ℕ)
spelling_of t.Identifier = None
spelling_of t.Number = None
spelling_of t.Int = Some (codes "int")
spelling_of t.Nat = Some (codes "nat")
spelling_of t.True = Some (codes "true")
spelling_of t.False = Some (codes "false")
spelling_of t.UniversalConstants = Some (codes "\\universalConstants")
spelling_of t.ExistentialConstants = Some (codes "\\existentialConstants")
spelling_of t.Functions = Some (codes "\\functions")
spelling_of t.Predicates = Some (codes "\\predicates")
spelling_of t.Problem = Some (codes "\\problem")
spelling_of t.Interpolant = Some (codes "\\interpolant")
spelling_of t.Forall = Some (codes "\\forall")
spelling_of t.Exists = Some (codes "\\exists")
spelling_of t.Part = Some (codes "\\part")
spelling_of t.If = Some (codes "\\if")
spelling_of t.Then = Some (codes "\\then")
spelling_of t.Else = Some (codes "\\else")
spelling_of t.Abs = Some (codes "\\abs")
spelling_of t.Min = Some (codes "\\min")
spelling_of t.Max = Some (codes "\\max")
spelling_of t.OpenBrace = Some (codes "{")
spelling_of t.CloseBrace = Some (codes "}")
spelling_of t.OpenParenthesis = Some (codes "(")
spelling_of t.CloseParenthesis = Some (codes ")")
spelling_of t.OpenBracket = Some (codes "[")
spelling_of t.CloseBracket = Some (codes "]")
spelling_of t.Semicolon = Some (codes ";")
spelling_of t.Comma = Some (codes ",")
spelling_of t.Not = Some (codes "!")
spelling_of t.And = Some (codes "&")
spelling_of t.Or = Some (codes "|")
spelling_of t.Implies = Some (codes "->")
spelling_of t.Iff = Some (codes "<->")
spelling_of t.Equal = Some (codes "=")
spelling_of t.Unequal = Some (codes "!=")
spelling_of t.Less = Some (codes "<")
spelling_of t.AtMost = Some (codes "<=")
spelling_of t.Greater = Some (codes ">")
spelling_of t.AtLeast = Some (codes ">=")
spelling_of t.Plus = Some (codes "+")
spelling_of t.Minus = Some (codes "-")
spelling_of t.Star = Some (codes "*")
spelling_of t.Bad = None

-- the text is an identifier
abbrev pub IsIdentifier : List ℕ → Type 0
IsIdentifier text = is_spelled k.Identifier text ≡ true

-- the text is written for this terminal: an identifier, digits, or the one spelling that it has
abbrev pub IsWritten : Terminal → List ℕ → Type 0
IsWritten t.Identifier text = IsIdentifier text
IsWritten t.Number text = is_spelled k.Number text ≡ true
IsWritten t.Bad text = Unit {0}
IsWritten terminal text = spelling_of terminal ≡ Some text
