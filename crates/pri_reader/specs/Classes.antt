-- What a token begins, by its terminal.
use Rattle.std.specs.Prelude.{Bool, true, false, Option, Some, None}
use Rattle.pri_tokens.specs.declared.terminals.Terminal.{Terminal}
use Rattle.pri_tokens.specs.declared.terminals.Terminal.TheVariants as t
use Rattle.pri_reader.specs.declared.classes.Prefix.{Prefix}
use Rattle.pri_reader.specs.declared.classes.Prefix.TheVariants as p
use Rattle.pri_reader.specs.declared.classes.Opening.{Opening}
use Rattle.pri_reader.specs.declared.classes.Opening.TheVariants as o
use Rattle.pri_reader.specs.declared.classes.Heading.{Heading}
use Rattle.pri_reader.specs.declared.classes.Heading.TheVariants as h
use Rattle.pri_reader.specs.declared.tree.Comparison.{Comparison}
use Rattle.pri_reader.specs.declared.tree.Comparison.TheVariants as c

-- the formula that is no relation which a token begins
abbrev pub prefix_of : Terminal → Option Prefix
prefix_of t.Not = Some p.Not
prefix_of t.Forall = Some (p.Quantifier true)
prefix_of t.Exists = Some (p.Quantifier false)
prefix_of t.Part = Some p.Part
prefix_of _ = None

-- the term, or the formula in parentheses, that a token begins
abbrev pub opening_of : Terminal → Option Opening
opening_of t.Minus = Some o.Minus
opening_of t.Number = Some o.Number
opening_of t.True = Some (o.Truth true)
opening_of t.False = Some (o.Truth false)
opening_of t.Identifier = Some o.Identifier
opening_of t.OpenParenthesis = Some o.Parenthesis
opening_of t.If = Some o.If
opening_of t.Abs = Some o.Abs
opening_of t.Min = Some (o.Pair false)
opening_of t.Max = Some (o.Pair true)
opening_of _ = None

-- the block that a token begins
abbrev pub heading_of : Terminal → Option Heading
heading_of t.UniversalConstants = Some (h.Constants true)
heading_of t.ExistentialConstants = Some (h.Constants false)
heading_of t.Functions = Some (h.Items true)
heading_of t.Predicates = Some (h.Items false)
heading_of t.Problem = Some h.Problem
heading_of t.Interpolant = Some h.Interpolant
heading_of _ = None

-- the comparison that a sign is
abbrev pub comparison_of : Terminal → Option Comparison
comparison_of t.Equal = Some c.Equal
comparison_of t.Unequal = Some c.Unequal
comparison_of t.Less = Some c.Less
comparison_of t.AtMost = Some c.AtMost
comparison_of t.Greater = Some c.Greater
comparison_of t.AtLeast = Some c.AtLeast
comparison_of _ = None

-- whether a sign adds a term, and then whether it is a minus
abbrev pub adding_of : Terminal → Option Bool
adding_of t.Plus = Some false
adding_of t.Minus = Some true
adding_of _ = None
