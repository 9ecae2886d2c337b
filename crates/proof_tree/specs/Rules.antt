-- The constraint of each rule of the sequent calculus (Rümmer, A constraint sequent calculus for first-order logic with
-- linear integer arithmetic, 2008), made of the constraints of its premises by a log.
use Rattle.std.specs.Prelude.{suc, List, [], ◌∷◌}
use Rattle.base_budget.specs.Trace.{Traced, just, next}
use Rattle.clause_set.specs.declared.literal.Literal.{Literal}
use Rattle.clause_set.specs.Dnfs.{conjunction, top}
use Rattle.formula.specs.Sizes.{depth}
use Rattle.elim_laws.specs.Logs.{Reader, by_log, every_by_log, name_by_log, read_next, reads_none}
use Rattle.sequent.specs.declared.member.Pick.{Pick}
use Rattle.sequent.specs.declared.member.Pick.TheVariants as pick
use Rattle.sequent.specs.Sequent.{Sequent}
use Rattle.pred_unify.specs.Pairs.{closing_of}

-- the constraint of a rule's first premise
abbrev pub first_given : List (List (List Literal)) → List (List Literal)
first_given [] = []
first_given (d ∷ ds) = d

-- "and" of the constraints, after d
abbrev pub conjoined : List (List (List Literal)) → List (List Literal) → Traced (List (List Literal))
conjoined [] d = just d
conjoined (c ∷ cs) d = next (conjunction d c) (λ both. conjoined cs both)

-- the constraint of a rule, by a log: close eliminates the closing formula, delta and gamma the new constant
abbrev pub constraint_by : Sequent → Pick → List (List (List Literal)) → Reader (List (List Literal))
constraint_by s (pick.Trivial i) ds = reads_none (just top)
constraint_by s (pick.Alpha i) ds = reads_none (just (first_given ds))
constraint_by s (pick.Delta i) ds = every_by_log s.count (first_given ds)
constraint_by s (pick.Beta i) ds = reads_none (conjoined ds top)
constraint_by s (pick.Gamma i) ds = name_by_log s.count (first_given ds)
constraint_by s pick.Close ds = read_next (reads_none (closing_of s)) (λ f. by_log (suc (depth f)) s.count f)
