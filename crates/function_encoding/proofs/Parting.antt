-- Four works in a row as two of two, and lists of two.
use Rattle.std.proofs.Common.{◌≡◌, Bool, true, false, cond, List, [], ◌∷◌, ◌++◌, Result, ap, ◌∙◌, subst, append_assoc, append-nil}
use Rattle.linear_term.specs.declared.range.TermFault.{TermFault}
use Rattle.linear_term.specs.Linear.{Linear}
use Rattle.base_budget.specs.Trace.{Event, Traced, just, next}
use Rattle.base_budget.proofs.Tracing.{next-just}
use Rattle.formula.specs.declared.calculus.Core.{Core}
use Rattle.formula.specs.Form.{Form, forms, conjunction, disjunction}
use Rattle.formula.specs.Made.{Made}
use Rattle.formula.specs.Tree.{form}
use Rattle.function_encoding.specs.Actions.{negated, parted}

-- two members, one put after the other
pub two_items : {A : Type 0} (none one two : List A) (f g : A) → none ≡ [] → one ≡ none ++ f ∷ [] → two ≡ one ++ g ∷ [] → two ≡ f ∷ g ∷ []
two_items none one two f g start first second = second ∙ ap (λ l. l ++ g ∷ []) (first ∙ ap (λ l. l ++ f ∷ []) start)

events_paired : (a b c d : List Event) → (a ++ (b ++ [])) ++ ((c ++ (d ++ [])) ++ []) ≡ a ++ (b ++ (c ++ (d ++ [])))
events_paired a b c d =
    ap (λ z. (a ++ (b ++ [])) ++ z) (append-nil (c ++ (d ++ [])))
    ∙ ap (λ z. (a ++ z) ++ (c ++ (d ++ []))) (append-nil b)
    ∙ append_assoc a b (c ++ (d ++ []))

-- two works, and their values in one
abbrev pub of_two : (Form → Form → Form) → Traced Form → Traced Form → Traced Form
of_two two p q = next p (λ a. next q (λ b. just (two a b)))

four_as : (p q r s : Traced Form) (two all : Form → Form → Form) → of_two all (of_two two p q) (of_two two r s) ≡ next p (λ a. next q (λ b. next r (λ c. next s (λ d. just (all (two a b) (two c d))))))
unfolding next just
four_as p q r s two all = ap (λ es. record { value = all (two p.value q.value) (two r.value s.value); events = es }) (events_paired p.events q.events r.events s.events)

abbrev pub all_two : Form → Form → Form
all_two f g = conjunction (forms (f ∷ g ∷ []))

abbrev pub some_two : Form → Form → Form
some_two f g = disjunction (forms (f ∷ g ∷ []))

-- an equivalence: two disjunctions
pub ways_made : (p q r s : Traced Form) (res : Result Core TermFault) → Made form (of_two all_two (of_two some_two p q) (of_two some_two r s)) res
    → Made form (next p (λ a. next q (λ b. next r (λ c. next s (λ d. just (all_two (some_two a b) (some_two c d))))))) res
ways_made p q r s res m = subst (λ w. Made form w res) (four_as p q r s some_two all_two) m

-- the stack of a case, and what becomes of it
abbrev pub turned_rest : Bool → List Linear → (List Linear → Traced Form) → Traced Form
turned_rest negate vs rest = next (cond negate (negated vs) (just vs)) rest

-- two cases: two conjunctions
pub parted_made : (test : Bool → Traced Form) (vs : List Linear) (negate : Bool) (ws : List Linear) (rest : List Linear → Traced Form) (res : Result Core TermFault)
    → Made form (of_two some_two (of_two all_two (test true) (turned_rest false vs rest)) (of_two all_two (test false) (turned_rest negate ws rest))) res
    → Made form (parted test vs negate ws rest) res
parted_made test vs negate ws rest res m =
    subst (λ w. Made form w res)
    (ap (λ w. of_two some_two (of_two all_two (test true) w) (of_two all_two (test false) (turned_rest negate ws rest))) (next-just vs rest)
    ∙ four_as (test true) (rest vs) (test false) (turned_rest negate ws rest) all_two some_two) m
