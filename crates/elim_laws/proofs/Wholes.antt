-- A whole log: that of a run is accepted, does its work, and every accepted one is exact.
use Rattle.std.proofs.Common.{◌≡◌, ℕ, List, [], ◌∷◌, Option, Some, None, refl, sym, ◌∙◌, ap, subst}
use Rattle.std.proofs.lemmas.List.{append-nil}
use Rattle.base_budget.specs.declared.log.Entry.{Entry}
use Rattle.base_budget.specs.Trace.{Traced, just, next}
use Rattle.base_budget.proofs.Tracing.{next-same, next-just, next-assoc, value-next}
use Rattle.formula.specs.Form.{Form}
use Rattle.elim_laws.specs.Whole.{eliminated}
use Rattle.elim_laws.specs.Logs.{entries_of, Rest, rest, Reader, used_up, by_whole_log, by_log, Does, Yields}
use Rattle.elim_laws.proofs.Replays.{form_does}

pub whole_does : {A : Type 0} (m : Reader A) (w : Traced A) → Does m w → by_whole_log m (entries_of w.events) ≡ next w (λ a. just (Some a))
whole_does m w h =
    ap (λ z. next (m z) (λ o. just (used_up o))) (sym (append-nil (entries_of w.events)))
    ∙ ap (λ z. next z (λ o. just (used_up o))) (h.does [])
    ∙ next-assoc w _ _
    ∙ next-same w _ _ (next-just (Some (rest w.value [])) _)

used_rest : {A : Type 0} (o : Option (Rest A)) (a : A) → used_up o ≡ Some a → (r : Rest A) × (o ≡ Some r) × (r.value ≡ a)
used_rest None a h = absurd (cc)
used_rest (Some r) a h = by r.log refl h
  where
    by : (ls : List Entry) → r.log ≡ ls → used_up (Some (rest r.value ls)) ≡ Some a → (s : Rest _) × (Some r ≡ Some s) × (s.value ≡ a)
    by [] is k = (r, refl, (cc))
    by (e ∷ ls) is k = absurd (cc)

pub whole_yields : {A : Type 0} (m : Reader A) (P : A → Type 0) → Yields m P → (ls : List Entry) (a : A) → (by_whole_log m ls).value ≡ Some a → P a
unfolding just
whole_yields m P h ls a is =
    let u = used_rest (m ls).value a (sym (value-next (m ls) (λ o. just (used_up o))) ∙ is) in
    subst P u.2 (h.yields ls u.0 u.1)

-- the log of the elimination of f is accepted, with the same charges and raw numbers in the same order
pub form_log : (m n : ℕ) (f : Form) → by_whole_log (by_log m n f) (entries_of (eliminated m n f).events) ≡ next (eliminated m n f) (λ d. just (Some d))
form_log m n f = whole_does (by_log m n f) (eliminated m n f) (form_does m n f)
