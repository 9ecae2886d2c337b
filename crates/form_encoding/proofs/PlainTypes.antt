-- Where all types are `int`, the encoding has neither conditions nor their negations.
use Rattle.std.proofs.Common.{◌≡◌, ℕ, zero, suc, Bool, true, false, not, cond, List, [], ◌∷◌, ◌++◌, length, refl, sym, ap, ◌∙◌}
use Rattle.form_typed.specs.declared.typed.Sort.{Sort}
use Rattle.form_typed.specs.declared.typed.Sort.TheVariants.{Int}
use Rattle.form_typed.specs.Formula.{Formula, for_all, for_some}
use Rattle.base_budget.specs.Trace.{Traced, just, next}
use Rattle.base_budget.proofs.Tracing.{just-next, next-assoc, next-same}
use Rattle.pri_typing.specs.declared.problem.Problem.{Problem}
use Rattle.pri_typing.specs.Files.{all_int}
use Rattle.pri_typing.specs.Problems.{assumed_by}
use Rattle.formula.specs.Form.{Form, Forms, equal, unequal, at_least, holds, fails, differs, conjunction, disjunction, universal, existential, no_form, and_form}
use Rattle.form_encoding.specs.Encoding.{encoded, quantified, bounds, limits, restricted, bound_by}
use Rattle.form_encoding.specs.Occurrences.{occurs}
use Rattle.form_encoding.specs.Problems.{append, extended, body, over_constants, problem_root, parts_root, types}
use Rattle.form_encoding.specs.Root.{conditions, for_last, root, all_last}

pub plain_for_all : (at : List ℕ) (n : ℕ) (plus : Bool) (f : Formula) → encoded at n plus (for_all Int f) ≡ next (encoded (at ++ n ∷ []) (suc n) plus f) (λ g. just (quantified plus g))
unfolding next just
plain_for_all at n plus f = refl

pub plain_for_some : (at : List ℕ) (n : ℕ) (plus : Bool) (f : Formula) → encoded at n plus (for_some Int f) ≡ next (encoded (at ++ n ∷ []) (suc n) plus f) (λ g. just (quantified (not plus) g))
unfolding next just
plain_for_some at n plus f = refl

abbrev nothing_more : Traced (List Form)
nothing_more = just []

no_condition : (b : Bool) → cond b nothing_more nothing_more ≡ nothing_more
no_condition true = refl
no_condition false = refl

conditions_none : (kept : ℕ → Bool) (x : ℕ) (names : List (List ℕ)) → conditions kept x (all_int names) ≡ just []
unfolding next just
conditions_none kept x [] = refl
conditions_none kept x (t ∷ names) =
    ap (λ z. next z (λ hs. next (conditions kept (suc x) (all_int names)) (λ gs. just (hs ++ gs)))) (no_condition (kept x))
    ∙ ap (λ z. next z (λ gs. just gs)) (conditions_none kept (suc x) names)

last_none : (m : ℕ) (names : List (List ℕ)) (body : Traced Form) → for_last m (all_int names) body ≡ next body (λ g. just (all_last (length names) g))
unfolding next just
last_none m [] body = sym (just-next body)
last_none m (t ∷ names) body =
    ap (λ z. next z (λ g. just (universal g))) (last_none (suc m) names body)
    ∙ next-assoc body (λ g. just (all_last (length names) g)) (λ g. just (universal g))

root_none : (names others : List (List ℕ)) (body : Traced Form) → root (all_int names) (all_int others) body ≡ next body (λ g. just (all_last (length others) g))
unfolding next just
root_none names others body =
    let last : Traced Form = for_last (length (all_int names)) (all_int others) body in
    ap (λ z. next last (λ g. next z (λ hs. just (restricted false hs g)))) (conditions_none (λ x. true) 0 names)
    ∙ just-next last ∙ last_none (length (all_int names)) others body

pub plain_problem : (p : Problem) → p.existential_types ≡ all_int p.existentials → p.universal_types ≡ all_int p.universals
    → problem_root p ≡ next (body p) (λ g. just (all_last (length p.universals) g))
plain_problem p e u =
    ap (λ ss. root ss p.universal_types (body p)) e ∙ ap (λ ss. root (all_int p.existentials) ss (body p)) u ∙ root_none p.existentials p.universals (body p)

append-none : (gs : Forms) → append gs [] ≡ gs
append-none no_form = refl
append-none (and_form g gs) = ap (and_form g) (append-none gs)

extended-none : (f : Form) → extended f [] ≡ f
extended-none (equal t) = refl
extended-none (unequal t) = refl
extended-none (at_least t) = refl
extended-none (holds q ts) = refl
extended-none (fails q ts) = refl
extended-none (differs g ts u) = refl
extended-none (conjunction gs) = ap conjunction (append-none gs)
extended-none (disjunction gs) = refl
extended-none (universal g) = refl
extended-none (existential g) = refl

int-append : (names others : List (List ℕ)) → all_int names ++ all_int others ≡ all_int (names ++ others)
int-append [] others = refl
int-append (t ∷ names) others = ap (λ z. Int ∷ z) (int-append names others)

pub plain_parts : (p : Problem) (set : List ℕ) → p.existential_types ≡ all_int p.existentials → p.universal_types ≡ all_int p.universals
    → parts_root p set ≡ over_constants p (assumed_by p set)
unfolding next just
plain_parts p set e u =
    let assumed : Traced Form = over_constants p (assumed_by p set) in
    let all : types p ≡ all_int (p.existentials ++ p.universals) = ap (λ ss. ss ++ p.universal_types) e ∙ ap (λ ss. all_int p.existentials ++ ss) u ∙ int-append p.existentials p.universals in
    ap (λ ss. next assumed (λ f. next (conditions (λ x. occurs x (assumed_by p set)) 0 ss) (λ hs. just (extended f hs)))) all
    ∙ ap (λ z. next assumed (λ f. next z (λ hs. just (extended f hs)))) (conditions_none (λ x. occurs x (assumed_by p set)) 0 (p.existentials ++ p.universals))
    ∙ next-same assumed (λ f. just (extended f [])) (λ f. just f) (ap (λ f. just f) (extended-none assumed.value))
    ∙ just-next assumed
