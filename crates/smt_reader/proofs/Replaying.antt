-- The commands in force, one after another.
use Rattle.std.proofs.Common.{ℕ, zero, suc, ◌≡◌, true, List, [], ◌∷◌, ◌++◌, map, reverse, take, refl, sym, ap, subst, ◌∙◌, Result, Ok, Err, IfOk}
use Rattle.smt_commands.specs.Levels.{left_from, level_fewer}
use Rattle.smt_commands.specs.Marks.{are_marks, taken_at}
use Rattle.smt_commands.proofs.Marks.{popped_marks, popped_taken}
use Rattle.smt_terms.specs.Scripts.{Command, State, after, start}
use Rattle.smt_reader.specs.declared.following.Reading.{Reading}
use Rattle.smt_reader.specs.Commands.{all_after, state_of}
use Rattle.smt_reader.specs.Following.{AreNew, FollowsState, IsNewSymbol, texts_behind}
use Rattle.smt_reader.specs.Taking.{IsAssumed, IsReplayed}

pub replayed_start : (r : Reading) (cs : List Command) → FollowsState r start → r.known.symbols.texts ≡ [] → AreNew [] cs → IsReplayed r cs cs
replayed_start r cs f t n = record { state = start; follows = f; new = subst (λ z. AreNew z cs) (sym t) n; whole = refl }

pub replayed_on : (r next : Reading) (c : Command) (cs all : List Command) → IsReplayed r (c ∷ cs) all
    → ((s : State) → FollowsState r s → IsNewSymbol r.known.symbols.texts c → FollowsState next (after s c))
    → (IsNewSymbol r.known.symbols.texts c → next.known.symbols.texts ≡ texts_behind r.known.symbols.texts c) → IsReplayed next cs all
replayed_on r next c cs all h follows texts = record {
  state = after h.state c;
  follows = follows h.state h.follows h.new.0;
  new = subst (λ z. AreNew z cs) (sym (texts h.new.0)) h.new.1;
  whole = h.whole;
}

pub replayed_all : (r : Reading) (all : List Command) → IsReplayed r [] all → FollowsState r (state_of all)
replayed_all r all h = subst (FollowsState r) h.whole h.follows

-- assertions alone

after_both : (s : State) (cs ds : List Command) → all_after s (cs ++ ds) ≡ all_after (all_after s cs) ds
after_both s [] ds = refl
after_both s (c ∷ cs) ds = after_both (after s c) cs ds

pub assumed_start : (r : Reading) (cs ds : List Command) → FollowsState r (state_of cs) → IsAssumed r ds (cs ++ ds)
assumed_start r cs ds f = record { state = state_of cs; follows = f; whole = sym (after_both start cs ds) }

pub assumed_on : (r next : Reading) (c : Command) (cs all : List Command) → IsAssumed r (c ∷ cs) all → ((s : State) → FollowsState r s → FollowsState next (after s c)) → IsAssumed next cs all
assumed_on r next c cs all h follows = record { state = after h.state c; follows = follows h.state h.follows; whole = h.whole }

pub assumed_all : (r : Reading) (all : List Command) → IsAssumed r [] all → FollowsState r (state_of all)
assumed_all r all h = subst (FollowsState r) h.whole h.follows

pub assumed_ok : {E : Type 0} (o : Result Reading E) (r : Reading) (cs ds : List Command) → IfOk o (λ new. (bs : List Command) → FollowsState r (state_of bs) → FollowsState new (state_of (bs ++ ds))) → FollowsState r (state_of cs)
    → IfOk o (λ new. FollowsState new (state_of (cs ++ ds)))
assumed_ok (Ok new) r cs ds h f = h cs f
assumed_ok (Err e) r cs ds h f = tt

-- one level fewer

map_take : {A B : Type 0} (f : A → B) (n : ℕ) (xs : List A) → map f (take n xs) ≡ take n (map f xs)
map_take f zero xs = refl
map_take f (suc n) [] = refl
map_take f (suc n) (x ∷ xs) = ap (λ z. f x ∷ z) (map_take f n xs)

pub popped_force : {A B : Type 0} (f : A → B) (xs new : List A) (old ms : List ℕ) (n : ℕ) → new ≡ take n xs → old ≡ ms ++ n ∷ []
    → record { now = map f new; below = taken_at (map f new) (reverse ms) } ≡ level_fewer (record { now = map f xs; below = taken_at (map f xs) (reverse old) })
popped_force f xs new old ms n is parts =
    ap (λ z. record { now = z; below = taken_at z (reverse ms) }) (ap (map f) is ∙ map_take f n xs) ∙ sym (ap (left_from (map f xs)) (popped_taken (map f xs) old ms n parts))

pub popped_within : {A B : Type 0} (f : A → B) (xs new : List A) (old ms : List ℕ) (n : ℕ) → new ≡ take n xs → old ≡ ms ++ n ∷ [] → are_marks (map f xs) (reverse old) ≡ true → are_marks (map f new) (reverse ms) ≡ true
popped_within f xs new old ms n is parts h = ap (λ z. are_marks z (reverse ms)) (ap (map f) is ∙ map_take f n xs) ∙ popped_marks (map f xs) old ms n parts h

pub lowest_force : {A : Type 0} (es : List A) (old ms : List ℕ) → old ≡ [] → ms ≡ [] → record { now = es; below = taken_at es (reverse ms) } ≡ level_fewer (record { now = es; below = taken_at es (reverse old) })
lowest_force es old ms h k =
    ap (λ z. record { now = es; below = taken_at es (reverse z) }) k ∙ sym (ap (λ z. level_fewer (record { now = es; below = taken_at es (reverse z) })) h)

pub lowest_within : {A : Type 0} (es : List A) (ms : List ℕ) → ms ≡ [] → are_marks es (reverse ms) ≡ true
lowest_within es ms k = ap (λ z. are_marks es (reverse z)) k
