use Rattle.clause_text.specs.declared.line_word.LineWord.TheVariants as w
use Rattle.clause_text.proofs.Steps.{arm}
use Rattle.clause_words.specs.Tokens.{tokens}
use Rattle.clause_text.proofs.lines.line_behind.Goals as goal

pub returns-in-Open : goal.returns-in-Open
returns-in-Open c = arm (λ s. s.now) c.open.result c.args.word w.Open (tokens c.args.text.now) c.in-Open.is c.open.ensures

pub returns-in-Apply : goal.returns-in-Apply
returns-in-Apply c = arm (λ s. s.now) c.apply.result c.args.word w.Apply (tokens c.args.text.now) c.in-Apply.is c.apply.ensures

pub returns-in-Read : goal.returns-in-Read
returns-in-Read c = arm (λ s. s.now) c.read.result c.args.word w.Read (tokens c.args.text.now) c.in-Read.is c.read.ensures

pub returns-in-Instance : goal.returns-in-Instance
returns-in-Instance c = arm (λ s. s.now) c.instance.result c.args.word w.Instance (tokens c.args.text.now) c.in-Instance.is c.instance.ensures

pub returns-in-Geq : goal.returns-in-Geq
returns-in-Geq c = arm (λ s. s.now) c.inequality.result c.args.word w.Geq (tokens c.args.text.now) c.in-Geq.is c.inequality.ensures

pub returns-in-Eq : goal.returns-in-Eq
returns-in-Eq c = arm (λ s. s.now) c.equation.result c.args.word w.Eq (tokens c.args.text.now) c.in-Eq.is c.equation.ensures

pub returns-in-Pred : goal.returns-in-Pred
returns-in-Pred c = arm (λ s. s.now) c.predicate.result c.args.word w.Pred (tokens c.args.text.now) c.in-Pred.is c.predicate.ensures

pub returns-in-Split : goal.returns-in-Split
returns-in-Split c = arm (λ s. s.now) c.split.result c.args.word w.Split (tokens c.args.text.now) c.in-Split.is c.split.ensures

pub returns-in-Sum : goal.returns-in-Sum
returns-in-Sum c = arm (λ s. s.now) c.sum.result c.args.word w.Sum (tokens c.args.text.now) c.in-Sum.is c.sum.ensures

pub returns-in-Pair : goal.returns-in-Pair
returns-in-Pair c = arm (λ s. s.now) c.pair.result c.args.word w.Pair (tokens c.args.text.now) c.in-Pair.is c.pair.ensures

pub returns-in-PredPair : goal.returns-in-PredPair
returns-in-PredPair c = arm (λ s. s.now) c.predicate_pair.result c.args.word w.PredPair (tokens c.args.text.now) c.in-PredPair.is c.predicate_pair.ensures

pub returns-in-Divide : goal.returns-in-Divide
returns-in-Divide c = arm (λ s. s.now) c.divide.result c.args.word w.Divide (tokens c.args.text.now) c.in-Divide.is c.divide.ensures

pub returns-in-Resolve : goal.returns-in-Resolve
returns-in-Resolve c = arm (λ s. s.now) c.resolve.result c.args.word w.Resolve (tokens c.args.text.now) c.in-Resolve.is c.resolve.ensures

pub returns-in-Delete : goal.returns-in-Delete
returns-in-Delete c = arm (λ s. s.now) c.delete.result c.args.word w.Delete (tokens c.args.text.now) c.in-Delete.is c.delete.ensures
