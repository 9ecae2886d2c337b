-- What the code writes a term out to, as the formula or the term that it becomes.
use Rattle.form_typed.specs.Formula.{formula, expression}
use Rattle.smt_terms.specs.Translation.{Said, a_formula, a_term}
use Rattle.smt_writing.specs.declared.written.Written.{Written}
use Rattle.smt_writing.specs.declared.written.Written.TheVariants as w

abbrev pub written : Written → Said
written (w.Formula f) = a_formula (formula f)
written (w.Term t) = a_term (expression t)
