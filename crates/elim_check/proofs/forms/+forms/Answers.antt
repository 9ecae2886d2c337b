use Rattle.std.proofs.Common.{◌+◌, [], ◌∷◌, arith}
use Rattle.linear_term.specs.Linear.{Linear}
use Rattle.clause_set.specs.declared.literal.Literal.TheVariants.{Eq, Geq}
use Rattle.clause_set.specs.Clauses.{clauses_of}
use Rattle.clause_set.specs.Dnfs.{negation}
use Rattle.elim_laws.specs.Logs.{name_by_log, reads_none, read_next}
use Rattle.elim_laws.specs.Whole.{paid, two_sides}
use Rattle.formula.specs.Sizes.{size}
use Rattle.formula.specs.Tree.{form}
use Rattle.base_budget.specs.Trace.{just}
use Rattle.base_budget.proofs.Charging.{drop-item, drop_all}
use Rattle.elim_check.specs.Reading.{reading}
use Rattle.elim_check.proofs.Arms.{arm_Eq, arm_Geq, arm_Neq, arm_Pred, arm_NotPred, arm_NotFun, arm_And, arm_Or, some_ok, some_err, every_refused, every_ok, every_err, dual_deep}
use Rattle.elim_check.proofs.Chained.{read_ok, read_err, quiet_ok, quiet_err, read_memory}
use Rattle.elim_check.proofs.Members.{all_err, all_unjoined, all_next, all_ends, any_err, any_unjoined, any_next, any_ends}
use Rattle.elim_check.proofs.Unfolded.{member_depth}
use Rattle.elim_check.proofs.forms.+forms.Goals as goal

pub conjunction_by_log-returns-in_err-all : goal.conjunction_by_log-returns-in_err-all
conjunction_by_log-returns-in_err-all t c = read_memory c.from_residual.result c.requires.within c.from_residual.ensures.1

pub conjunction_by_log-form_by_log-requires : goal.conjunction_by_log-form_by_log-requires
conjunction_by_log-form_by_log-requires t c =
    let item = drop-item c.args.members.now c.loop-f.f-index c.f-item.result (omega arith) c.f-item.is in
    let d = member_depth c.args.members.now c.loop-f.f-index c.f-item.result _ item in
    (omega (arith, d), (omega (arith, d), c.loop-f.invariant.within))

pub conjunction_by_log-returns-in_err-member : goal.conjunction_by_log-returns-in_err-member
conjunction_by_log-returns-in_err-member t c =
    let item = drop-item c.args.members.now c.loop-f.f-index c.f-item.result (omega arith) c.f-item.is in
    all_err (reading c.args.names) _ _ c.f-item.result item c.loop-f.all c.from_residual-in_err-member.result c.loop-f.invariant c.in_err-member.ensures c.from_residual-in_err-member.ensures.1

pub conjunction_by_log-returns-in_err-all-2 : goal.conjunction_by_log-returns-in_err-all-2
conjunction_by_log-returns-in_err-all-2 t c =
    let item = drop-item c.args.members.now c.loop-f.f-index c.f-item.result (omega arith) c.f-item.is in
    all_unjoined (reading c.args.names) _ _ c.f-item.result item c.loop-f.all c.from_residual-in_err-all-2.result c.loop-f.invariant c.in_ok-member.ensures c.in_err-all-2.ensures.charged c.from_residual-in_err-all-2.ensures.1

pub conjunction_by_log-loop-f-preserved : goal.conjunction_by_log-loop-f-preserved
conjunction_by_log-loop-f-preserved t c =
    let item = drop-item c.args.members.now c.loop-f.f-index c.f-item.result (omega arith) c.f-item.is in
    all_next (reading c.args.names) _ _ c.f-item.result item c.loop-f.all c.loop-f.invariant c.in_ok-member.ensures c.in_ok-all-2.ensures.charged

pub conjunction_by_log-returns : goal.conjunction_by_log-returns
conjunction_by_log-returns t c = all_ends (reading c.args.names) _ (drop_all c.args.members.now c.loop-f.f-index (omega arith)) c.loop-f.all c.loop-f.invariant

pub disjunction_by_log-form_by_log-requires : goal.disjunction_by_log-form_by_log-requires
disjunction_by_log-form_by_log-requires t c =
    let item = drop-item c.args.members.now c.loop-f.f-index c.f-item.result (omega arith) c.f-item.is in
    let d = member_depth c.args.members.now c.loop-f.f-index c.f-item.result _ item in
    (omega (arith, d), (omega (arith, d), c.loop-f.invariant.within))

pub disjunction_by_log-returns-in_err-member : goal.disjunction_by_log-returns-in_err-member
disjunction_by_log-returns-in_err-member t c =
    let item = drop-item c.args.members.now c.loop-f.f-index c.f-item.result (omega arith) c.f-item.is in
    any_err (reading c.args.names) _ _ c.f-item.result item c.loop-f.any c.from_residual.result c.loop-f.invariant c.in_err-member.ensures c.from_residual.ensures.1

pub disjunction_by_log-returns-in_err-any : goal.disjunction_by_log-returns-in_err-any
disjunction_by_log-returns-in_err-any t c =
    let item = drop-item c.args.members.now c.loop-f.f-index c.f-item.result (omega arith) c.f-item.is in
    any_unjoined (reading c.args.names) _ _ c.f-item.result item c.loop-f.any c.from_residual-in_err-any.result c.loop-f.invariant c.in_ok-member.ensures c.in_err-any.ensures.charged c.from_residual-in_err-any.ensures.1

pub disjunction_by_log-loop-f-preserved : goal.disjunction_by_log-loop-f-preserved
disjunction_by_log-loop-f-preserved t c =
    let item = drop-item c.args.members.now c.loop-f.f-index c.f-item.result (omega arith) c.f-item.is in
    any_next (reading c.args.names) _ _ c.f-item.result item c.loop-f.any c.loop-f.invariant c.in_ok-member.ensures c.in_ok-any.ensures.charged

pub disjunction_by_log-returns : goal.disjunction_by_log-returns
disjunction_by_log-returns t c = any_ends (reading c.args.names) _ (drop_all c.args.members.now c.loop-f.f-index (omega arith)) c.loop-f.any c.loop-f.invariant

pub existential_by_log-returns-in_err-d : goal.existential_by_log-returns-in_err-d
existential_by_log-returns-in_err-d t c = some_err c.args.names (form c.args.body.now) c.from_residual.result c.in_err-d.ensures c.from_residual.ensures.1

pub existential_by_log-returns : goal.existential_by_log-returns
existential_by_log-returns t c = some_ok c.args.names (form c.args.body.now) c.in_ok-d.ensures c.some_value.ensures

pub form_by_log-returns-in_err-copy-in-Eq : goal.form_by_log-returns-in_err-copy-in-Eq
form_by_log-returns-in_err-copy-in-Eq t c = read_memory c.from_residual.result c.requires.within c.from_residual.ensures.1

pub form_by_log-returns-in_err-of_literal-in-Eq : goal.form_by_log-returns-in_err-of_literal-in-Eq
form_by_log-returns-in_err-of_literal-in-Eq t c =
    let u : Linear = c.in_ok-copy-in-Eq.field-0 in
    arm_Eq c.args.names c.args.f.now c.in-Eq.t u c.in-Eq.is c.in_ok-copy-in-Eq.ensures
    (quiet_err (paid u (just (clauses_of ((Eq u ∷ []) ∷ [])))) c.from_residual-in_err-of_literal-in-Eq.result c.requires.within c.in_err-of_literal-in-Eq.ensures c.from_residual-in_err-of_literal-in-Eq.ensures.1)

pub form_by_log-returns-in_ok-of_literal-in-Eq : goal.form_by_log-returns-in_ok-of_literal-in-Eq
form_by_log-returns-in_ok-of_literal-in-Eq t c =
    let u : Linear = c.in_ok-copy-in-Eq.field-0 in
    arm_Eq c.args.names c.args.f.now c.in-Eq.t u c.in-Eq.is c.in_ok-copy-in-Eq.ensures (quiet_ok (paid u (just (clauses_of ((Eq u ∷ []) ∷ [])))) c.requires.within c.in_ok-of_literal-in-Eq.ensures)

pub form_by_log-returns-in_err-of_unequal-in-Neq : goal.form_by_log-returns-in_err-of_unequal-in-Neq
form_by_log-returns-in_err-of_unequal-in-Neq t c =
    arm_Neq c.args.names c.args.f.now c.in-Neq.t c.in-Neq.is
    (quiet_err (paid c.in-Neq.t (two_sides c.in-Neq.t)) c.from_residual-in_err-of_unequal-in-Neq.result c.requires.within c.in_err-of_unequal-in-Neq.ensures c.from_residual-in_err-of_unequal-in-Neq.ensures.1)

pub form_by_log-returns-in_ok-of_unequal-in-Neq : goal.form_by_log-returns-in_ok-of_unequal-in-Neq
form_by_log-returns-in_ok-of_unequal-in-Neq t c =
    arm_Neq c.args.names c.args.f.now c.in-Neq.t c.in-Neq.is (quiet_ok (paid c.in-Neq.t (two_sides c.in-Neq.t)) c.requires.within c.in_ok-of_unequal-in-Neq.ensures)

pub form_by_log-returns-in_err-copy-in-Geq : goal.form_by_log-returns-in_err-copy-in-Geq
form_by_log-returns-in_err-copy-in-Geq t c = read_memory c.from_residual-in_err-copy-in-Geq.result c.requires.within c.from_residual-in_err-copy-in-Geq.ensures.1

pub form_by_log-returns-in_err-of_literal-in-Geq : goal.form_by_log-returns-in_err-of_literal-in-Geq
form_by_log-returns-in_err-of_literal-in-Geq t c =
    let u : Linear = c.in_ok-copy-in-Geq.field-0 in
    arm_Geq c.args.names c.args.f.now c.in-Geq.t u c.in-Geq.is c.in_ok-copy-in-Geq.ensures
    (quiet_err (paid u (just (clauses_of ((Geq u ∷ []) ∷ [])))) c.from_residual-in_err-of_literal-in-Geq.result c.requires.within c.in_err-of_literal-in-Geq.ensures c.from_residual-in_err-of_literal-in-Geq.ensures.1)

pub form_by_log-returns-in_ok-of_literal-in-Geq : goal.form_by_log-returns-in_ok-of_literal-in-Geq
form_by_log-returns-in_ok-of_literal-in-Geq t c =
    let u : Linear = c.in_ok-copy-in-Geq.field-0 in
    arm_Geq c.args.names c.args.f.now c.in-Geq.t u c.in-Geq.is c.in_ok-copy-in-Geq.ensures (quiet_ok (paid u (just (clauses_of ((Geq u ∷ []) ∷ [])))) c.requires.within c.in_ok-of_literal-in-Geq.ensures)

pub form_by_log-returns-in-Pred : goal.form_by_log-returns-in-Pred
form_by_log-returns-in-Pred t c = arm_Pred c.args.names c.args.f.now c.bottom.result c.requires.within c.bottom.ensures c.in-Pred.field-0 c.in-Pred.field-1 c.in-Pred.is

pub form_by_log-returns-in-NotPred : goal.form_by_log-returns-in-NotPred
form_by_log-returns-in-NotPred t c =
    arm_NotPred c.args.names c.args.f.now c.bottom-in-NotPred.result c.requires.within c.bottom-in-NotPred.ensures c.in-NotPred.field-0 c.in-NotPred.field-1 c.in-NotPred.is

pub form_by_log-returns-in-NotFun : goal.form_by_log-returns-in-NotFun
form_by_log-returns-in-NotFun t c =
    arm_NotFun c.args.names c.args.f.now c.bottom-in-NotFun.result c.requires.within c.bottom-in-NotFun.ensures c.in-NotFun.field-0 c.in-NotFun.field-1 c.in-NotFun.field-2 c.in-NotFun.is

pub form_by_log-returns-in-And : goal.form_by_log-returns-in-And
form_by_log-returns-in-And t c = arm_And c.args.names c.args.f.now c.in-And.fs c.as_slice.result.now c.in-And.is c.as_slice.ensures c.conjunction_by_log.ensures

pub form_by_log-returns-in-Or : goal.form_by_log-returns-in-Or
form_by_log-returns-in-Or t c = arm_Or c.args.names c.args.f.now c.in-Or.fs c.as_slice-in-Or.result.now c.in-Or.is c.as_slice-in-Or.ensures c.disjunction_by_log.ensures

pub universal_by_log-returns-in_err-step : goal.universal_by_log-returns-in_err-step
universal_by_log-returns-in_err-step t c =
    every_refused c.args.names (form c.args.body.now) c.requires.within c.from_residual.result (c.in_err-step.ensures (size (form c.args.body.now)) c.size.ensures) c.from_residual.ensures.1

pub universal_by_log-returns-in_err-negation : goal.universal_by_log-returns-in_err-negation
universal_by_log-returns-in_err-negation t c =
    every_err c.args.names (form c.args.body.now) c.requires.within c.from_residual-in_err-negation.result (c.in_ok-step.ensures (size (form c.args.body.now)) c.size.ensures) c.in_err-negation.ensures
    c.from_residual-in_err-negation.ensures.1

pub universal_by_log-form_by_log-requires : goal.universal_by_log-form_by_log-requires
universal_by_log-form_by_log-requires t c =
    let same = dual_deep (form c.args.body.now) c.in_ok-negation.negation c.in_ok-negation.ensures in
    (omega (arith, same), (omega (arith, same), c.requires.within))

pub universal_by_log-returns-in_err-fails : goal.universal_by_log-returns-in_err-fails
universal_by_log-returns-in_err-fails t c =
    every_ok c.args.names (form c.args.body.now) c.requires.within (c.in_ok-step.ensures (size (form c.args.body.now)) c.size.ensures) c.in_ok-negation.ensures
    (read_err (reading (c.args.names + 1) (form c.in_ok-negation.negation)) _ c.from_residual-in_err-fails.result c.in_err-fails.ensures c.from_residual-in_err-fails.ensures.1)

pub universal_by_log-returns-in_err-some : goal.universal_by_log-returns-in_err-some
universal_by_log-returns-in_err-some t c =
    every_ok c.args.names (form c.args.body.now) c.requires.within (c.in_ok-step.ensures (size (form c.args.body.now)) c.size.ensures) c.in_ok-negation.ensures
    (read_ok (reading (c.args.names + 1) (form c.in_ok-negation.negation)) (λ d. read_next (name_by_log c.args.names d) (λ r. reads_none (negation r))) c.in_ok-fails.ensures
    (read_err (name_by_log c.args.names c.in_ok-fails.fails) (λ r. reads_none (negation r)) c.from_residual-in_err-some.result c.in_err-some.ensures c.from_residual-in_err-some.ensures.1))

pub universal_by_log-returns-in_err-not : goal.universal_by_log-returns-in_err-not
universal_by_log-returns-in_err-not t c =
    every_ok c.args.names (form c.args.body.now) c.requires.within (c.in_ok-step.ensures (size (form c.args.body.now)) c.size.ensures) c.in_ok-negation.ensures
    (read_ok (reading (c.args.names + 1) (form c.in_ok-negation.negation)) (λ d. read_next (name_by_log c.args.names d) (λ r. reads_none (negation r))) c.in_ok-fails.ensures
    (read_ok (name_by_log c.args.names c.in_ok-fails.fails) (λ r. reads_none (negation r)) c.in_ok-some.ensures
    (quiet_err (negation c.in_ok-some.some) c.from_residual-in_err-not.result c.in_ok-some.ensures.within c.in_err-not.ensures.charged c.from_residual-in_err-not.ensures.1)))

pub universal_by_log-returns : goal.universal_by_log-returns
universal_by_log-returns t c =
    every_ok c.args.names (form c.args.body.now) c.requires.within (c.in_ok-step.ensures (size (form c.args.body.now)) c.size.ensures) c.in_ok-negation.ensures
    (read_ok (reading (c.args.names + 1) (form c.in_ok-negation.negation)) (λ d. read_next (name_by_log c.args.names d) (λ r. reads_none (negation r))) c.in_ok-fails.ensures
    (read_ok (name_by_log c.args.names c.in_ok-fails.fails) (λ r. reads_none (negation r)) c.in_ok-some.ensures (quiet_ok (negation c.in_ok-some.some) c.in_ok-some.ensures.within c.in_ok-not.ensures.charged)))
