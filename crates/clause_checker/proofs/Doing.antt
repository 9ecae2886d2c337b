-- Calls one after the other: what they make together.
use Rattle.std.proofs.Common.{◌≡◌, Option, Some, None, Result, Ok, Err, IsErrAnd, refl, sym, ap, ◌∙◌, subst}
use Rattle.clause_proof.specs.Lines.{found}
use Rattle.clause_checker.specs.declared.fault.Fault.{Fault}
use Rattle.clause_checker.specs.declared.fault.Fault.TheVariants.{Refused, Steps, Overflow, Room, Memory}
use Rattle.clause_checker.specs.Answers.{IsTermCut, Does}

-- it made this
pub does_some : {A B : Type 0} (view : A → B) (work : Option B) (x : A) → work ≡ Some (view x) → Does view work (Ok x)
does_some view work x h = record { ok = λ y is. let same : x ≡ y = cc in h ∙ ap (λ z. Some (view z)) same; refused = λ is. absurd (cc) }

-- there is nothing to make
pub does_none : {A B : Type 0} (view : A → B) (work : Option B) → work ≡ None → Does view work (Err Refused)
does_none view work h = record { ok = λ y is. absurd (cc); refused = λ is. h }

not_refused : (e : Fault) → IsTermCut e → e ≡ Refused → ⊥
not_refused Refused h is = h
not_refused Steps h is = h
not_refused (Overflow p) h is = absurd (cc)
not_refused Room h is = h
not_refused Memory h is = absurd (cc)

-- a cut says nothing
pub does_cut : {A B : Type 0} (view : A → B) (work : Option B) (r : Result A Fault) → IsErrAnd r IsTermCut → Does view work r
does_cut view work (Ok x) h = absurd h
does_cut view work (Err e) h = record { ok = λ y is. absurd (cc); refused = λ is. let same : e ≡ Refused = cc in absurd (not_refused e h same) }

-- nor does a lack of room
pub does_room : {A B : Type 0} (view : A → B) (work : Option B) → Does view work (Err Room)
does_room view work = record { ok = λ y is. absurd (cc); refused = λ is. absurd (cc) }

-- the same of a fault that is handed on
pub does_on : {A B : Type 0} (view : A → B) (work : Option B) (e : Fault) (r : Result A Fault) → IsErrAnd r (λ x. x ≡ e) → IsTermCut e → Does view work r
does_on view work e (Ok x) h k = absurd h
does_on view work e (Err d) h k = does_cut view work (Err d) (subst IsTermCut (sym h) k)

-- after a part that made something, the rest
pub does_then : {A B C D : Type 0} (u : A → B) (v : C → D) (part : Option B) (rest : B → Option D) (x : A) (r : Result C Fault) → Does u part (Ok x) → Does v (rest (u x)) r → Does v (found part rest) r
does_then u v part rest x r h k = subst (λ o. Does v (found o rest) r) (sym (h.ok x refl)) k

-- a part that was refused or cut
pub does_err : {A B C D : Type 0} (u : A → B) (v : C → D) (part : Option B) (rest : B → Option D) (e : Fault) (r : Result C Fault) → IsErrAnd r (λ x. x ≡ e) → Does u part (Err e) → Does v (found part rest) r
does_err u v part rest e (Ok x) h k = absurd h
does_err u v part rest e (Err d) h k = record {
  ok = λ y is. absurd (cc);
  refused = λ is. let d_is : d ≡ Refused = cc in let same : e ≡ Refused = sym h ∙ d_is in ap (λ o. found o rest) (k.refused (ap Err same));
}

-- work that is another by an equation
pub does_as : {A B : Type 0} (view : A → B) (work other : Option B) (r : Result A Fault) → other ≡ work → Does view work r → Does view other r
does_as view work other r is h = subst (λ o. Does view o r) (sym is) h

pub ruleset doing = (does_some, does_none, does_cut, does_room, does_on, does_then, does_err)
