-- What stands below the for-alls of an encoded problem.
use Rattle.std.proofs.Common.{◌≡◌, ℕ, suc, Some, List, [], ◌∷◌, ◌++◌, length, refl, sym, ap, ◌∙◌, arith}
use Rattle.base_budget.specs.Trace.{Traced, just, next}
use Rattle.form_typed.specs.declared.typed.Sort.{Sort}
use Rattle.form_typed.specs.declared.typed.Sort.TheVariants.{Int, Nat, Range}
use Rattle.formula.specs.declared.calculus.Core.{Core}
use Rattle.formula.specs.Form.{Form, disjunction}
use Rattle.formula.specs.Tree.{form, forms_of}
use Rattle.form_encoding.specs.Root.{for_last, root}
use Rattle.form_encoding.specs.Problems.{body, problem_root}
use Rattle.model_refuting.specs.Below.{below, last_form, last_of}
use Rattle.pri_typing.specs.WellFormed.{IsWellFormed}
use Rattle.pri_typing.specs.declared.problem.Problem.{Problem}

last_behind : (front : List Core) (x : Core) → last_form (forms_of (front ++ x ∷ [])) ≡ Some (form x)
last_behind [] x = refl
last_behind (f ∷ []) x = refl
last_behind (f ∷ g ∷ fs) x = last_behind (g ∷ fs) x

pub last_is : (f x : Core) (xs front : List Core) → xs ≡ front ++ x ∷ [] → form f ≡ disjunction (forms_of xs) → last_of (form f) ≡ Some (form x)
last_is f x xs front is or = ap last_of or ∙ ap (λ l. last_form (forms_of l)) is ∙ last_behind front x

pub ruleset member = (last_is)

below_is : (x : ℕ) (s : Sort) (ss : List Sort) (b : Traced Form) → below s (for_last x (s ∷ ss) b).value ≡ Some (for_last (suc x) ss b).value
unfolding next just
below_is x Int ss b = refl
below_is x Nat ss b = refl
below_is x (Range l h) ss b = refl

-- f is the formula for all values of these types of further names
abbrev pub IsAbove : Problem → List Sort → Form → Type 0
IsAbove p ss f = (x : ℕ) × ((for_last x ss (body p)).value ≡ f)

some_is : (a b : Form) → Some a ≡ Some b → a ≡ b
some_is a b e = cc

pub one_below : (p : Problem) (ss more : List Sort) (s : Sort) (f g : Form) → ss ≡ s ∷ more → below s f ≡ Some g → IsAbove p ss f → IsAbove p more g
one_below p ss more s f g is step h =
    (suc h.0, some_is _ g (sym (below_is h.0 s more (body p)) ∙ ap (λ l. below s (for_last h.0 l (body p)).value) (sym is) ∙ ap (below s) h.1 ∙ step))

without : (ss us : List Sort) (b : Traced Form) → length ss ≡ 0 → (root ss us b).value ≡ (for_last 0 us b).value
unfolding next just
without [] us b h = refl
without (s ∷ ss) us b h = absurd (omega (arith, h))

pub whole_above : (p : Problem) (f : Form) → IsWellFormed p → p.existentials ≡ [] → f ≡ (problem_root p).value → IsAbove p p.universal_types f
whole_above p f formed none is = (0, sym (is ∙ without p.existential_types p.universal_types (body p) (formed.existential_types.many ∙ ap length none)))

pub last_above : (p : Problem) (ss : List Sort) (f : Form) → length ss ≡ 0 → IsAbove p ss f → f ≡ (body p).value
last_above p [] f e h = sym h.1
last_above p (s ∷ ss) f e h = absurd (omega (arith, e))

pub ruleset stripping = (one_below, whole_above, last_above)
