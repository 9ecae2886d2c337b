-- What is known of a script.
use Rattle.smt_terms.specs.Evaluation as evaluation
use Rattle.smt_terms.specs.Evaluation.{Globals, constant_of, function_of, predicate_of}
use Rattle.smt_names.specs.declared.known.Declared.{Declared}
use Rattle.smt_names.specs.declared.known.Declared.TheVariants as d
use Rattle.smt_names.specs.declared.known.Known.{Known}
use Rattle.smt_names.specs.declared.symbols.Meant.{Meant}
use Rattle.smt_names.specs.declared.symbols.Meant.TheVariants as m
use Rattle.smt_names.specs.Symbols.{Agrees}

-- what a declared symbol is among those of a script
abbrev pub declared_as : Declared → evaluation.Meant
declared_as (d.Constant k) = constant_of k
declared_as (d.Function k) = function_of k
declared_as (d.Predicate k) = predicate_of k

-- the same among those of the code
abbrev pub kept_as : Declared → Meant
kept_as (d.Constant k) = m.Constant k
kept_as (d.Function k) = m.Function k
kept_as (d.Predicate k) = m.Predicate k

-- the symbols of a script are known
abbrev pub Knows : Known → Globals → Type 0
Knows k gs = Agrees gs k.symbols k.definitions
