-- What each state says begins a line: some tokens end it.
use Rattle.std.proofs.Common.{ℕ, ◌≡◌, Bool, true, false, cond, List, [], ◌∷◌, ◌++◌, refl, ap, subst, ◌∙◌, append_assoc, arith, lit<, Option, Some, None}
use Rattle.std.specs.Prelude.{nat_le}
use Rattle.std.proofs.lemmas.Bool.{le-leb}
use Rattle.proof_tokens.specs.declared.tokens.Token.{Token}
use Rattle.proof_tokens.specs.declared.tokens.Token.TheVariants as t
use Rattle.linear_term.specs.Linear.{Linear}
use Rattle.proof_constraint.specs.declared.draft.Divisor.{Divisor}
use Rattle.clause_set.specs.declared.literal.Literal.{Literal}
use Rattle.proof_constraint.specs.declared.draft.Draft.{Draft}
use Rattle.proof_constraint.specs.Behind.{Behind}
use Rattle.proof_constraint.specs.Behind as b
use Rattle.proof_constraint.specs.State.{GivenState}
use Rattle.proof_constraint.specs.State as s
use Rattle.proof_constraint.specs.Move.{GivenMove}
use Rattle.proof_constraint.specs.Move as m
use Rattle.proof_constraint.specs.Text.{AreClauses, gives_text}
use Rattle.proof_constraint.specs.Machine.{signed, opened, with_pair, sum_of, divided, compared, named, relation, ends_literal, ended, or_then, moves}
use Rattle.proof_constraint.proofs.Said.{said, IsFine}
use Rattle.proof_tokens.specs.Spellings.{IsRangedToken}
use Rattle.proof_tokens.specs.Reading.{Begins}
use Rattle.proof_constraint.proofs.Leads.{Leads, leads}

abbrev IsBegun : GivenState → Type 0
IsBegun z = Begins AreClauses gives_text (said z)

begun_on : (z y : GivenState) (x : Token) → IsRangedToken x → IsFine z → moves z x ≡ m.On y → (IsFine y → IsBegun y) → IsBegun z
begun_on z y x r f e go =
    let l = subst (Leads (said z ++ x ∷ [])) e (leads z x r f) in let k = go l.0 in
    record { value = k.value; is_value = k.is_value; more = x ∷ k.more; parts = k.parts ∙ ap (λ w. w ++ k.more) l.1 ∙ append_assoc (said z) (x ∷ []) k.more }

begun_done : (z : GivenState) (d : List (List Literal)) (x : Token) → IsRangedToken x → IsFine z → moves z x ≡ m.Done d → IsBegun z
begun_done z d x r f e =
    let l = subst (Leads (said z ++ x ∷ [])) e (leads z x r f) in
    record { value = d; is_value = l.0; more = x ∷ []; parts = l.1 }

clause_begun : (d : List (List Literal)) (c : List Literal) → IsFine (s.Behind (b.Clause d c)) → IsBegun (s.Behind (b.Clause d c))
unfolding moves
clause_begun d c f = begun_done (s.Behind (b.Clause d c)) (d ++ c ∷ []) t.LineFeed tt f refl

false_begun : IsBegun (s.Behind b.False)
unfolding moves
false_begun = begun_done (s.Behind b.False) [] t.LineFeed tt tt refl

relation_blank_begun : (d : List (List Literal)) (c : List Literal) (sum : Linear) (bound : Bool) → IsFine (s.Blank (b.Relation d c sum bound)) → IsBegun (s.Blank (b.Relation d c sum bound))
unfolding moves
relation_blank_begun d c sum bound f = begun_on (s.Blank (b.Relation d c sum bound)) (s.Behind (b.Clause d (c ++ compared bound sum ∷ []))) (t.Number 0) (lit< tt) f refl (clause_begun d (c ++ compared bound sum ∷ []))

relation_begun : (d : List (List Literal)) (c : List Literal) (sum : Linear) (bound : Bool) → IsFine (s.Behind (b.Relation d c sum bound)) → IsBegun (s.Behind (b.Relation d c sum bound))
unfolding moves
relation_begun d c sum bound f = begun_on (s.Behind (b.Relation d c sum bound)) (s.Blank (b.Relation d c sum bound)) t.Blank tt f refl (relation_blank_begun d c sum bound)

number_blank_open : (g : Draft) (minus : Bool) (n : ℕ) → g.divisor ≡ None → IsFine (s.Blank (b.Number g minus n)) → IsBegun (s.Blank (b.Number g minus n))
unfolding moves
number_blank_open g minus n e f =
    begun_on (s.Blank (b.Number g minus n)) (s.Behind (b.Relation g.clauses g.literals (sum_of g (signed minus n)) false)) t.Equal tt f (ap (λ v. relation false v g (signed minus n)) e) (relation_begun g.clauses g.literals (sum_of g (signed minus n)) false)

number_by : (v : Option Divisor) (g : Draft) (minus : Bool) (n : ℕ) → g.divisor ≡ v → IsFine (s.Behind (b.Number g minus n)) → IsBegun (s.Behind (b.Number g minus n))
unfolding moves
number_by None g minus n e f = begun_on (s.Behind (b.Number g minus n)) (s.Blank (b.Number g minus n)) t.Blank tt f refl (number_blank_open g minus n e)
number_by (Some v) g minus n e f = begun_done (s.Behind (b.Number g minus n)) (g.clauses ++ (g.literals ++ divided v (sum_of g (signed minus n)) ∷ []) ∷ []) t.LineFeed tt f (ap (λ v. ends_literal ended v g (signed minus n)) e)

number_begun : (g : Draft) (minus : Bool) (n : ℕ) → IsFine (s.Behind (b.Number g minus n)) → IsBegun (s.Behind (b.Number g minus n))
number_begun g minus n f = number_by g.divisor g minus n refl f

start_blank_begun : (g : Draft) → IsFine (s.Blank (b.Start g)) → IsBegun (s.Blank (b.Start g))
unfolding moves
start_blank_begun g f = begun_on (s.Blank (b.Start g)) (s.Behind (b.Number g false 0)) (t.Number 0) (lit< tt) f refl (number_begun g false 0)

start_begun : (g : Draft) → IsFine (s.Behind (b.Start g)) → IsBegun (s.Behind (b.Start g))
unfolding moves
start_begun g f = begun_on (s.Behind (b.Start g)) (s.Blank (b.Start g)) t.Blank tt f refl (start_blank_begun g)

number_blank_by : (v : Option Divisor) (g : Draft) (minus : Bool) (n : ℕ) → g.divisor ≡ v → IsFine (s.Blank (b.Number g minus n)) → IsBegun (s.Blank (b.Number g minus n))
unfolding moves
number_blank_by None g minus n e f = number_blank_open g minus n e f
number_blank_by (Some v) g minus n e f =
    let c = g.literals ++ divided v (sum_of g (signed minus n)) ∷ [] in
    begun_on (s.Blank (b.Number g minus n)) (s.Behind (b.Start (opened (g.clauses ++ c ∷ []) [] None))) t.Or tt f (ap (λ v. ends_literal or_then v g (signed minus n)) e) (start_begun (opened (g.clauses ++ c ∷ []) [] None))

sign_blank_begun : (g : Draft) (minus : Bool) → IsFine (s.Blank (b.Sign g minus)) → IsBegun (s.Blank (b.Sign g minus))
unfolding moves
sign_blank_begun g minus f = begun_on (s.Blank (b.Sign g minus)) (s.Behind (b.Number g minus 1)) (t.Number 1) (lit< tt) f refl (number_begun g minus 1)

sign_begun : (g : Draft) (minus : Bool) → IsFine (s.Behind (b.Sign g minus)) → IsBegun (s.Behind (b.Sign g minus))
unfolding moves
sign_begun g minus f = begun_on (s.Behind (b.Sign g minus)) (s.Blank (b.Sign g minus)) t.Blank tt f refl (sign_blank_begun g minus)

sum_blank_begun : (g : Draft) → IsFine (s.Blank (b.Sum g)) → IsBegun (s.Blank (b.Sum g))
unfolding moves
sum_blank_begun g f = begun_on (s.Blank (b.Sum g)) (s.Behind (b.Sign g false)) t.Plus tt f refl (sign_begun g false)

sum_begun : (g : Draft) → IsFine (s.Behind (b.Sum g)) → IsBegun (s.Behind (b.Sum g))
unfolding moves
sum_begun g f = begun_on (s.Behind (b.Sum g)) (s.Blank (b.Sum g)) t.Blank tt f refl (sum_blank_begun g)

named_on : (g : Draft) (minus : Bool) (n : ℕ) → named g minus n g.least ≡ m.On (s.Behind (b.Sum (with_pair g minus n g.least)))
named_on g minus n = let h : nat_le g.least g.least ≡ true = le-leb g.least g.least (omega arith) in ap (λ q. cond q (m.On (s.Behind (b.Sum (with_pair g minus n g.least)))) m.Bad) h

-- what any state says begins a line
pub begun : (z : GivenState) → IsFine z → IsBegun z
unfolding moves
begun (s.Behind (b.Start g)) f = start_begun g f
begun (s.Behind (b.Sum g)) f = sum_begun g f
begun (s.Behind (b.Sign g minus)) f = sign_begun g minus f
begun (s.Behind (b.Number g minus n)) f = number_begun g minus n f
begun (s.Behind (b.Relation d c sum bound)) f = relation_begun d c sum bound f
begun (s.Behind (b.Clause d c)) f = clause_begun d c f
begun (s.Behind b.False) f = false_begun
begun (s.Blank (b.Start g)) f = start_blank_begun g f
begun (s.Blank (b.Sum g)) f = sum_blank_begun g f
begun (s.Blank (b.Sign g minus)) f = sign_blank_begun g minus f
begun (s.Blank (b.Number g minus n)) f = number_blank_by g.divisor g minus n refl f
begun (s.Blank (b.Relation d c sum bound)) f = relation_blank_begun d c sum bound f
begun (s.Blank (b.Clause d c)) f = begun_on (s.Blank (b.Clause d c)) (s.Behind (b.Start (opened (d ++ c ∷ []) [] None))) t.Or tt f refl (start_begun (opened (d ++ c ∷ []) [] None))
begun (s.Blank b.False) f = absurd (f.1 refl)
begun (s.Minus g) f = begun_on (s.Minus g) (s.Behind (b.Number g true 1)) (t.Number 1) (lit< tt) f refl (number_begun g true 1)
begun (s.Times g minus n) f = begun_on (s.Times g minus n) (s.Behind (b.Sum (with_pair g minus n g.least))) (t.Name g.least) f.3 f (named_on g minus n) (sum_begun (with_pair g minus n g.least))
