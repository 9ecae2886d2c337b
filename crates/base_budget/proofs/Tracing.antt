-- Laws of traced work: its value, and work in a row.
use Rattle.std.proofs.Common.{◌≡◌, ◌∙◌, List, [], ◌∷◌, ◌++◌, refl, sym, ap, append_assoc}
use Rattle.std.specs.List.{flat_map}
use Rattle.std.proofs.lemmas.List.{append-nil}
use Rattle.base_budget.specs.Trace.{Event, Traced, just, step, next, each}

pub value-next : {A B : Type 0} (m : Traced A) (f : A → Traced B) → (next m f).value ≡ (f m.value).value
unfolding next
value-next m f = refl

pub value-just : {A : Type 0} (x : A) → (just x).value ≡ x
unfolding just
value-just x = refl

pub value-step : {A : Type 0} (e : Event) (x : A) → (step e x).value ≡ x
unfolding step
value-step e x = refl

pub events-next : {A B : Type 0} (m : Traced A) (f : A → Traced B) → (next m f).events ≡ m.events ++ (f m.value).events
unfolding next
events-next m f = refl

-- what comes after depends on the value alone
pub next-same : {A B : Type 0} (m : Traced A) (f g : A → Traced B) → f m.value ≡ g m.value → next m f ≡ next m g
unfolding next
next-same m f g e = ap (λ z. record { value = z.value; events = m.events ++ z.events }) e

pub next-just : {A B : Type 0} (x : A) (f : A → Traced B) → next (just x) f ≡ f x
unfolding next just
next-just x f = refl

pub just-next : {A : Type 0} (m : Traced A) → next m (λ x. just x) ≡ m
unfolding next just
just-next m = ap (λ es. record { value = m.value; events = es }) (append-nil m.events)

pub next-assoc : {A B C : Type 0} (m : Traced A) (f : A → Traced B) (g : B → Traced C) → next (next m f) g ≡ next m (λ x. next (f x) g)
unfolding next
next-assoc m f g = ap (λ es. record { value = (g (f m.value).value).value; events = es }) (append_assoc m.events (f m.value).events (g (f m.value).value).events)

pub each-value : {C D : Type 0} (f : C → Traced (List D)) (xs : List C) (out : List D) → (each f xs out).value ≡ out ++ flat_map (λ x. (f x).value) xs
unfolding next just
each-value f [] out = sym (append-nil out)
each-value f (x ∷ xs) out = each-value f xs (out ++ (f x).value) ∙ append_assoc out (f x).value (flat_map (λ y. (f y).value) xs)
