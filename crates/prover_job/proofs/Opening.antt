-- The names that a job begins, one file after another.
use Rattle.std.proofs.Common.{ℕ, zero, suc, ◌≡◌, ◌∙◌, ◌+◌, List, [], ◌∷◌, ◌++◌, take, sym, ap, append_assoc, append-nil, arith}
use Rattle.prover_io.specs.Outside.{BeginsFront, GrowsAtMost}

-- none is begun
pub begins_none : (names before after : List (List ℕ)) → after ≡ before → BeginsFront names before after
begins_none names before after e = (0, e ∙ sym (append-nil before))

-- where the first is begun or none, a front part of all is
pub begins_first : (name : List ℕ) (names before after : List (List ℕ)) → BeginsFront (name ∷ []) before after → BeginsFront (name ∷ names) before after
begins_first name names before after h = by h.0 h.1
  where
    by : (k : ℕ) → after ≡ before ++ take k (name ∷ []) → BeginsFront (name ∷ names) before after
    by zero e = (0, e)
    by (suc zero) e = (1, e)
    by (suc (suc k)) e = (1, e)

-- the first is begun, and after it the second or none
pub begins_second : (one two : List ℕ) (before between after : List (List ℕ)) → between ≡ before ++ one ∷ [] → BeginsFront (two ∷ []) between after → BeginsFront (one ∷ two ∷ []) before after
begins_second one two before between after e h = (suc h.0, h.1 ∙ ap (λ z. z ++ take h.0 (two ∷ [])) e ∙ append_assoc before (one ∷ []) (take h.0 (two ∷ [])))

pub both_begun : (one two : List ℕ) (before between after : List (List ℕ)) → between ≡ before ++ one ∷ [] → after ≡ between ++ two ∷ [] → after ≡ before ++ one ∷ two ∷ []
both_begun one two before between after e f = f ∙ ap (λ z. z ++ two ∷ []) e ∙ append_assoc before (one ∷ []) (two ∷ [])

-- what grows by at most m and then by at most n grows by at most both
pub grows_both : (m n before between after : ℕ) → GrowsAtMost before between m → GrowsAtMost between after n → GrowsAtMost before after (m + n)
grows_both m n before between after h k = (omega (arith, h.0, k.0), omega (arith, h.1, k.1))

pub grows_more : (m n before after : ℕ) → GrowsAtMost before after m → GrowsAtMost before after (m + n)
grows_more m n before after h = (h.0, omega (arith, h.1))

pub ruleset opening = (begins_none, begins_first, begins_second, both_begun, grows_both, grows_more)
