-- A call leaves the budget as it is.
use Rattle.std.proofs.Common.{◌≡◌, ◌<◌, ◌+◌, ℕ, Bool, true, false, cond, nat_le, List, [], ◌∷◌, Ok, refl, sym, ap, subst}
use Rattle.linear_term.specs.Range.{all_stay}
use Rattle.base_budget.specs.Trace.{Event, charge, raw, mark, At, after_charge, after_mark, done, refused, out_of_range, capped, cut, Traced}
use Rattle.base_budget.specs.Work.{ChargedAt}

cut_budget : (es : List Event) (a b : At) → cut es a ≡ done b → b.funds.budget ≡ a.funds.budget
unfolding cut
cut_budget [] a b h = let same : a ≡ b = cc in ap (λ (z : At). z.funds.budget) (sym same)
cut_budget (charge n ∷ es) a b h = by (nat_le (a.funds.spent + capped n) a.funds.budget) (cut_budget es (after_charge n a) b) h
  where
    by : (t : Bool) → (cut es (after_charge n a) ≡ done b → b.funds.budget ≡ a.funds.budget) → cond t (cut es (after_charge n a)) (refused a) ≡ done b → b.funds.budget ≡ a.funds.budget
    by true f k = f k
    by false f k = absurd (cc)
cut_budget (raw ps ∷ es) a b h = by (all_stay ps) (cut_budget es a b) h
  where
    by : (t : Bool) → (cut es a ≡ done b → b.funds.budget ≡ a.funds.budget) → cond t (cut es a) (out_of_range ps a) ≡ done b → b.funds.budget ≡ a.funds.budget
    by true f k = f k
    by false f k = absurd (cc)
cut_budget (mark m ∷ es) a b h = cut_budget es (after_mark m a) b h

pub below_budget : {A : Type 0} {w : Traced A} {a b : At} {v : A} (n : ℕ) → ChargedAt w a (Ok v) b → a.funds.budget < n → b.funds.budget < n
below_budget {w = w} {a} {b} {v} n did lt = subst (λ k. k < n) (sym (cut_budget w.events a b (did.ok v refl).1.end)) lt
