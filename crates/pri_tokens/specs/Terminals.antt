-- The kinds of tokens by what they say to the grammar.
use Rattle.pri_tokens.specs.declared.terminals.Terminal.{Terminal}
use Rattle.pri_tokens.specs.declared.terminals.Terminal.TheVariants as t
use Rattle.pri_tokens.specs.declared.terminals.TokenKind.{TokenKind}
use Rattle.pri_tokens.specs.declared.terminals.TokenKind.TheVariants as k

-- the kind of a terminal: identifier, number, one of four words, one of fifteen commands, bad, or a sign
abbrev pub kind_of : Terminal → TokenKind
kind_of t.Identifier = k.Identifier
kind_of t.Number = k.Number
kind_of t.Int = k.Word
kind_of t.Nat = k.Word
kind_of t.True = k.Word
kind_of t.False = k.Word
kind_of t.UniversalConstants = k.Command
kind_of t.ExistentialConstants = k.Command
kind_of t.Functions = k.Command
kind_of t.Predicates = k.Command
kind_of t.Problem = k.Command
kind_of t.Interpolant = k.Command
kind_of t.Forall = k.Command
kind_of t.Exists = k.Command
kind_of t.Part = k.Command
kind_of t.If = k.Command
kind_of t.Then = k.Command
kind_of t.Else = k.Command
kind_of t.Abs = k.Command
kind_of t.Min = k.Command
kind_of t.Max = k.Command
kind_of t.Bad = k.Bad
kind_of _ = k.Sign
