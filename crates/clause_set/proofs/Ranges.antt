-- Tidying, disjunctions and conjunctions compute no raw number, so their work never leaves the range.
use Rattle.std.proofs.Common.{◌≡◌, ◌≢◌, Result, Err, [], Bool, true, false, cond, List}
use Rattle.linear_term.specs.declared.range.Place.{Place}
use Rattle.base_budget.specs.Trace.{Funds, Traced, At, at, End, done, refused, out_of_range, cut, just, next, step}
use Rattle.base_budget.specs.Work.{Charged}
use Rattle.base_budget.specs.declared.fault.StepFault.{StepFault}
use Rattle.base_budget.specs.declared.fault.StepFault.TheVariants.{Overflow}
use Rattle.clause_set.specs.declared.literal.Literal.{Literal}
use Rattle.clause_set.specs.Dnfs.{tidying, conjunction, disjunction}

neither : (b : Bool) (x y z : End) → ¬ (x ≡ z) → ¬ (y ≡ z) → ¬ (cond b x y ≡ z)
neither true x y z n k e = n e
neither false x y z n k e = k e

done_not : (a b : At) (ps : List Place) → ¬ (done a ≡ out_of_range ps b)
done_not a b ps e = cc

refused_not : (a b : At) (ps : List Place) → ¬ (refused a ≡ out_of_range ps b)
refused_not a b ps e = cc

pub tidying-stays : (cs : List (List Literal)) (a b : At) (ps : List Place) → ¬ (cut (tidying cs).events a ≡ out_of_range ps b)
unfolding next just step cut
tidying-stays cs a b ps = neither _ _ _ _ (done_not _ b ps) (refused_not a b ps)

pub disjunction-stays : (c d : List (List Literal)) (a b : At) (ps : List Place) → ¬ (cut (disjunction c d).events a ≡ out_of_range ps b)
unfolding next just step cut
disjunction-stays c d a b ps = neither _ _ _ _ (neither _ _ _ _ (done_not _ b ps) (refused_not _ b ps)) (refused_not a b ps)

pub conjunction-stays : (c d : List (List Literal)) (a b : At) (ps : List Place) → ¬ (cut (conjunction c d).events a ≡ out_of_range ps b)
unfolding next just step cut
conjunction-stays c d a b ps = neither _ _ _ _ (neither _ _ _ _ (done_not _ b ps) (refused_not _ b ps)) (refused_not a b ps)

-- so calls that do such work never answer Overflow
never : {A : Type 0} (work : Traced A) (old new : Funds) (r : Result A StepFault) (p : Place) → ((a b : At) (ps : List Place) → ¬ (cut work.events a ≡ out_of_range ps b))
    → Charged work old r new → r ≢ Err (Overflow p)
never work old new r p h c e = let l = c.overflow p e in h (at old []) (at new []) l.numbers l.end

pub tidying_never : (cs : List (List Literal)) (old new : Funds) (r : Result (List (List Literal)) StepFault) (p : Place) → Charged (tidying cs) old r new → r ≢ Err (Overflow p)
tidying_never cs old new r p c = never (tidying cs) old new r p (tidying-stays cs) c

pub disjunction_never : (a b : List (List Literal)) (old new : Funds) (r : Result (List (List Literal)) StepFault) (p : Place) → Charged (disjunction a b) old r new → r ≢ Err (Overflow p)
disjunction_never a b old new r p c = never (disjunction a b) old new r p (disjunction-stays a b) c

pub conjunction_never : (a b : List (List Literal)) (old new : Funds) (r : Result (List (List Literal)) StepFault) (p : Place) → Charged (conjunction a b) old r new → r ≢ Err (Overflow p)
conjunction_never a b old new r p c = never (conjunction a b) old new r p (conjunction-stays a b) c
