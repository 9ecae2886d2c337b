-- Instructions after others.
use Rattle.std.proofs.Common.{◌≡◌, ℕ, suc, Bool, ◌+◌, ◌<◌, ◌≤◌, List, [], ◌∷◌, ◌++◌, length, get_or, drop, Result, Ok, Err, OnOk, refl, sym, ap, ◌∙◌, subst, arith}
use Rattle.std.proofs.lemmas.List.{append-nil}
use Rattle.form_typed.specs.declared.typed.TypedTerm.{TypedTerm}
use Rattle.form_typed.specs.Formula.{Expression, expression, expressions_of}
use Rattle.base_budget.proofs.Charging.{drop-item, drop_all}
use Rattle.pri_typing.specs.WellFormed.{size}
use Rattle.function_encoding.specs.Actions.{Action, add, compiled, compiled_all, compiled_more}
use Rattle.function_encoding.specs.Instructions.{FollowsActions, actions_of}
use Rattle.function_encoding.specs.declared.instruction.Instruction.{Instruction}
use Rattle.function_encoding.specs.Members.{is_subtracted, without_minus}
use Rattle.function_encoding.specs.Weight.{weight_of, weights_of}
use Rattle.function_encoding.proofs.Members.{more_is}

pub follows_then : {a b c : List Action} {f g : List Action → List Action} → FollowsActions a b f → FollowsActions b c g → FollowsActions a c (λ m. f (g m))
follows_then {f = f} {g = g} h k = record { is = λ m. k.is m ∙ h.is (g m) }

pub follows_last : {E : Type 0} (r : Result (Unit {0}) E) (a b c : List Action) (f g : List Action → List Action) → FollowsActions a b f → OnOk r (FollowsActions b c g) → OnOk r (FollowsActions a c (λ m. f (g m)))
follows_last (Ok u) a b c f g h k = follows_then h k
follows_last (Err e) a b c f g h k = tt

-- what is put after nothing
pub follows_none : (old : List Instruction) (new : List Action) (f : List Action → List Action) → old ≡ [] → FollowsActions (actions_of old) new f → new ≡ f []
follows_none old new f e h = sym (append-nil new) ∙ h.is [] ∙ ap (λ l. actions_of l ++ f []) e

-- the instructions of a term, by its tree
pub compiled_as : {E : Type 0} (r : Result (Unit {0}) E) (old new : List Action) (t : TypedTerm) (e : Expression) → expression t ≡ e → OnOk r (FollowsActions old new (compiled e)) → OnOk r (FollowsActions old new (compiled (expression t)))
compiled_as r old new t e is h = subst (λ x. OnOk r (FollowsActions old new (compiled x))) (sym is) h

pub terms_many : (ts : List TypedTerm) → size (expressions_of ts) ≡ length ts
terms_many [] = refl
terms_many (t ∷ ts) = ap suc (terms_many ts)

-- the instructions so far, and those to come
pub record Goes (old now : List Action) (rest whole : List Action → List Action) : Type 0 where
  pub is : (more : List Action) → now ++ rest more ≡ old ++ whole more

pub goes_all : (old now : List Action) (f : List Action → List Action) → now ≡ old → Goes old now f f
goes_all old now f e = record { is = λ m. ap (λ l. l ++ f m) e }

pub goes_next : {old now new : List Action} {f g whole : List Action → List Action} → Goes old now (λ m. f (g m)) whole → FollowsActions now new f → Goes old new g whole
goes_next {g = g} h k = record { is = λ m. k.is (g m) ∙ h.is m }

pub goes_end : {old now : List Action} {whole : List Action → List Action} → Goes old now (λ m. m) whole → FollowsActions old now whole
goes_end h = record { is = h.is }

pub all_item : {old now : List Action} {whole : List Action → List Action} (ts : List TypedTerm) (i : ℕ) (t : TypedTerm) → i < length ts → t ≡ get_or ts i t
    → Goes old now (compiled_all (expressions_of (drop i ts))) whole → Goes old now (λ m. compiled (expression t) (compiled_all (expressions_of (drop (i + 1) ts)) m)) whole
all_item {old} {now} {whole} ts i t lt is h = subst (λ l. Goes old now (compiled_all (expressions_of l)) whole) (drop-item ts i t lt is) h

pub all_end : {old now : List Action} {whole : List Action → List Action} (ts : List TypedTerm) (i : ℕ) → length ts ≤ i → Goes old now (compiled_all (expressions_of (drop i ts))) whole → FollowsActions old now whole
all_end {old} {now} {whole} ts i le h = goes_end (subst (λ l. Goes old now (compiled_all (expressions_of l)) whole) (drop_all ts i le) h)

pub more_item : {old now : List Action} {whole : List Action → List Action} (ts : List TypedTerm) (i : ℕ) (t : TypedTerm) → i < length ts → t ≡ get_or ts i t
    → Goes old now (compiled_more (expressions_of (drop i ts))) whole
    → Goes old now (λ m. compiled (without_minus (expression t)) (add (is_subtracted (expression t)) ∷ compiled_more (expressions_of (drop (i + 1) ts)) m)) whole
more_item {old} {now} {whole} ts i t lt is h =
    subst (λ f. Goes old now f whole) (λ k m. more_is (expression t) (expressions_of (drop (i + 1) ts)) m k)
    (subst (λ l. Goes old now (compiled_more (expressions_of l)) whole) (drop-item ts i t lt is) h)

pub more_pushed : {old now new : List Action} {whole : List Action → List Action} (ts : List TypedTerm) (i : ℕ) (t : TypedTerm) (u : Expression) (b : Bool) → i < length ts → t ≡ get_or ts i t
    → u ≡ without_minus (expression t) → b ≡ is_subtracted (expression t) → Goes old now (compiled_more (expressions_of (drop i ts))) whole → FollowsActions now new (λ m. compiled u (add b ∷ m))
    → Goes old new (compiled_more (expressions_of (drop (i + 1) ts))) whole
more_pushed {old} {now} {new} {whole} ts i t u b lt is part sign h k =
    goes_next {f = λ m. compiled (without_minus (expression t)) (add (is_subtracted (expression t)) ∷ m)} {g = compiled_more (expressions_of (drop (i + 1) ts))} (more_item ts i t lt is h)
    (subst (λ z. FollowsActions now new (λ m. compiled z (add (is_subtracted (expression t)) ∷ m))) part (subst (λ z. FollowsActions now new (λ m. compiled u (add z ∷ m))) sign k))

pub more_end : {old now : List Action} {whole : List Action → List Action} (ts : List TypedTerm) (i : ℕ) → length ts ≤ i → Goes old now (compiled_more (expressions_of (drop i ts))) whole → FollowsActions old now whole
more_end {old} {now} {whole} ts i le h = goes_end (subst (λ l. Goes old now (compiled_more (expressions_of l)) whole) (drop_all ts i le) h)

-- a member is lighter than all of them
pub lighter : (ts : List TypedTerm) (i : ℕ) (t : TypedTerm) (w : ℕ) → i < length ts → t ≡ get_or ts i t → weights_of (expressions_of (drop i ts)) ≤ w
    → (weight_of (expression t) + 4 ≤ w) × (weights_of (expressions_of (drop (i + 1) ts)) ≤ w)
lighter ts i t w lt is h =
    let e : weights_of (expressions_of (drop i ts)) ≡ weight_of (expression t) + weights_of (expressions_of (drop (i + 1) ts)) + 4 = ap (λ l. weights_of (expressions_of l)) (drop-item ts i t lt is) in
    (omega arith, omega arith)

pub sum_lighter : (ts more : List TypedTerm) (t : TypedTerm) → ts ≡ t ∷ more → weights_of (expressions_of more) ≤ weights_of (expressions_of ts)
sum_lighter ts more t is =
    let e : weights_of (expressions_of ts) ≡ weight_of (expression t) + weights_of (expressions_of more) + 4 = ap (λ l. weights_of (expressions_of l)) is in omega arith
