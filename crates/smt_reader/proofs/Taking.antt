-- One command further.
use Rattle.std.proofs.Common.{ℕ, ◌≡◌, List, [], ◌∷◌, ◌++◌, length, map, sym, ap, ap₂, subst, ◌∙◌, append_assoc, append-nil, arith, Option, Some, None}
use Rattle.std.specs.List.{All, Contains}
use Rattle.std.proofs.lemmas.List.{map-append}
use Rattle.std.proofs.lemmas.List.Elements.{All-contains, Contains-append_right, Contains-get_or}
use Rattle.pri_typing.specs.declared.problem.Problem.{Problem}
use Rattle.form_typed.specs.Formula.{formulas}
use Rattle.smt_terms.specs.Scripts.{Command, State, claim, refutation}
use Rattle.smt_terms.specs.Term.{PlacedTerm}
use Rattle.smt_terms.specs.Translation.{asserted}
use Rattle.smt_commands.specs.Levels.{Levels}
use Rattle.smt_sizes.specs.declared.size.Size.{Size}
use Rattle.smt_sizes.specs.declared.size.Size.TheVariants.{Large, Fits}
use Rattle.smt_sizes.specs.Size.{above, beside}
use Rattle.smt_sizes.specs.Sizes.{all_sizes, size}
use Rattle.smt_sizes.proofs.Limits.{together_law}
use Rattle.smt_reader.specs.declared.scripts.Gathered.{Gathered}
use Rattle.smt_reader.specs.Commands.{Act, asks, does, in_force, leaves, opens, questions, questions_from, restarts, state_of}
use Rattle.smt_reader.specs.Following.{AreNew, texts_behind}
use Rattle.smt_reader.specs.Posed.{IsCheckPosed}
use Rattle.smt_reader.specs.Poses.{AreLarge, ArePosed, refutations}
use Rattle.smt_reader.specs.Taking.{ArePosedOrLarge, AreTaken, IsGathered, MayAsk, size_together}
use Rattle.smt_reader.proofs.Together.{large_stays, sizes_more}

pub posed_more : (ss : List State) (ps : List Problem) (s : State) (p : Problem) → ArePosed ss ps → IsCheckPosed s p → ArePosed (ss ++ s ∷ []) (ps ++ p ∷ [])
posed_more [] [] s p h k = (k, tt)
posed_more [] (q ∷ ps) s p h k = absurd h
posed_more (t ∷ ss) [] s p h k = absurd h
posed_more (t ∷ ss) (q ∷ ps) s p h k = (h.0, posed_more ss ps s p h.1 k)

-- a command that does not ask
pub taken_quiet : (l new : Levels (List Command)) (c : Gathered) (a : Act) (rest all : List Act) → AreTaken l c (a ∷ rest) all → questions_from l (a ∷ rest) ≡ questions_from (in_force l a) rest → new ≡ in_force l a → AreTaken new c rest all
taken_quiet l new c a rest all h quiet is = record {
  done = h.done;
  posed = h.posed;
  size = h.size;
  small = h.small;
  whole = h.whole ∙ ap (λ z. h.done ++ z) (quiet ∙ ap (λ z. questions_from z rest) (sym is));
}

states_more : (done : List (List Command)) (q : List Command) → map state_of (done ++ q ∷ []) ≡ map state_of done ++ state_of q ∷ []
states_more done q = map-append state_of done (q ∷ [])

whole_more : (all : List Act) (done later : List (List Command)) (q : List Command) → questions all ≡ done ++ q ∷ later → questions all ≡ (done ++ q ∷ []) ++ later
whole_more all done later q h = h ∙ sym (append_assoc done (q ∷ []) later)

-- a check
pub taken_asked : (l : Levels (List Command)) (c more : Gathered) (ts : List PlacedTerm) (rest all : List Act) → AreTaken l c (asks ts ∷ rest) all
    → ((done : List State) → ArePosed done c.problems → c.size ≡ size_together done → IsGathered (done ++ state_of (l.now ++ map claim ts) ∷ []) (Some more))
    → AreTaken l more rest all
taken_asked l c more ts rest all h taken =
    let q = l.now ++ map claim ts in
    let now : IsGathered (map state_of h.done ++ state_of q ∷ []) (Some more) = taken (map state_of h.done) h.posed h.size in
    record {
      done = h.done ++ q ∷ [];
      posed = subst (λ z. ArePosed z more.problems) (sym (states_more h.done q)) now.0;
      size = now.1 ∙ ap size_together (sym (states_more h.done q));
      small = now.2;
      whole = whole_more all h.done (questions_from l rest) q h.whole;
    }

large_one : (ss : List State) → (size_together ss ≡ Large) → AreLarge ss
large_one ss h = (together_law (refutations ss)).0 h

pub taken_all : (l : Levels (List Command)) (c : Gathered) (all : List Act) → AreTaken l c [] all → ArePosedOrLarge (map state_of (questions all)) (Some c.problems)
taken_all l c all h =
    let same : map state_of (questions all) ≡ map state_of h.done = ap (map state_of) (h.whole ∙ append-nil h.done) in (
      subst (λ z. ArePosed z c.problems) (sym same) h.posed,
      λ large. h.small (h.size ∙ (together_law (refutations (map state_of h.done))).1 (subst AreLarge same large)),
    )

-- too large at some check, too large in the end
pub taken_large : (l : Levels (List Command)) (c : Gathered) (ts : List PlacedTerm) (rest all : List Act) → AreTaken l c (asks ts ∷ rest) all
    → ((done : List State) → ArePosed done c.problems → c.size ≡ size_together done → IsGathered (done ++ state_of (l.now ++ map claim ts) ∷ []) None)
    → AreLarge (map state_of (questions all))
taken_large l c ts rest all h taken =
    let q = l.now ++ map claim ts in
    let front = map state_of h.done ++ state_of q ∷ [] in
    let back = map state_of (questions_from l rest) in
    let now : size_together front ≡ Large = taken (map state_of h.done) h.posed h.size in
    let whole : map state_of (questions all) ≡ front ++ back =
    ap (map state_of) (whole_more all h.done (questions_from l rest) q h.whole) ∙ map-append state_of (h.done ++ q ∷ []) (questions_from l rest) ∙ ap (λ z. z ++ back) (states_more h.done q) in
    large_one (map state_of (questions all)) (ap size_together whole ∙ ap (λ z. all_sizes (formulas z)) (map-append refutation front back) ∙ large_stays (map refutation front) (map refutation back) now)

-- the same of a check as the code asks it
asked_as : (cs now : List Command) (us ts : List PlacedTerm) (r other : Option Gathered) (ss : List State) → cs ≡ now → us ≡ ts → r ≡ other → IsGathered (ss ++ state_of (cs ++ map claim us) ∷ []) r
    → IsGathered (ss ++ state_of (now ++ map claim ts) ∷ []) other
asked_as cs now us ts r other ss f t is h =
    subst (IsGathered (ss ++ state_of (now ++ map claim ts) ∷ [])) is (subst (λ z. IsGathered (ss ++ state_of z ∷ []) r) (ap₂ (λ x y. x ++ map claim y) f t) h)

pub asked_some : (l : Levels (List Command)) (c more : Gathered) (cs : List Command) (us ts : List PlacedTerm) (a : Act) (r : Option Gathered) (rest all : List Act) → AreTaken l c (a ∷ rest) all
    → a ≡ asks ts → cs ≡ l.now → us ≡ ts → r ≡ Some more
    → ((done : List State) → ArePosed done c.problems → c.size ≡ size_together done → IsGathered (done ++ state_of (cs ++ map claim us) ∷ []) r)
    → AreTaken l more rest all
asked_some l c more cs us ts a r rest all h is f t some taken =
    taken_asked l c more ts rest all (subst (λ z. AreTaken l c (z ∷ rest) all) is h) (λ done p s. asked_as cs l.now us ts r (Some more) done f t some (taken done p s))

pub asked_none : (l : Levels (List Command)) (c : Gathered) (cs : List Command) (us ts : List PlacedTerm) (a : Act) (r : Option Gathered) (rest all : List Act) → AreTaken l c (a ∷ rest) all
    → a ≡ asks ts → cs ≡ l.now → us ≡ ts → r ≡ None
    → ((done : List State) → ArePosed done c.problems → c.size ≡ size_together done → IsGathered (done ++ state_of (cs ++ map claim us) ∷ []) r)
    → AreLarge (map state_of (questions all))
asked_none l c cs us ts a r rest all h is f t none taken =
    taken_large l c ts rest all (subst (λ z. AreTaken l c (z ∷ rest) all) is h) (λ done p s. asked_as cs l.now us ts r None done f t none (taken done p s))

-- no symbol of a question is declared or defined twice
front_new : (texts : List (List ℕ)) (cs ds : List Command) → AreNew texts (cs ++ ds) → AreNew texts cs
front_new texts [] ds h = tt
front_new texts (c ∷ cs) ds h = (h.0, front_new (texts_behind texts c) cs ds h.1)

pub may_ask : (l : Levels (List Command)) (c : Gathered) (a : Act) (rest all : List Act) → AreTaken l c (a ∷ rest) all → All (AreNew []) (questions all) → MayAsk l a
may_ask l c (does d) rest all h new = tt
may_ask l c (asks ts) rest all h new =
    front_new [] l.now (map claim ts)
    (All-contains (AreNew []) (questions all) (l.now ++ map claim ts) new
    (subst (λ z. Contains z (l.now ++ map claim ts)) (sym h.whole)
    (Contains-append_right h.done ((l.now ++ map claim ts) ∷ questions_from l rest) (l.now ++ map claim ts) (Contains-get_or ((l.now ++ map claim ts) ∷ questions_from l rest) 0 (l.now ++ map claim ts) (omega arith)))))
may_ask l c (opens n) rest all h new = tt
may_ask l c (leaves n) rest all h new = tt
may_ask l c restarts rest all h new = tt

-- one check more
pub size_more : (done : List State) (s : State) (a one both : Size) → a ≡ size_together done → one ≡ size (refutation s) → both ≡ beside a one → both ≡ size_together (done ++ s ∷ [])
size_more done s a one both is last together =
    together ∙ ap₂ beside is last ∙ sym (sizes_more (map refutation done) (refutation s)) ∙ ap (λ z. all_sizes (formulas z)) (sym (map-append refutation done (s ∷ [])))

-- how large the formula of a check is
pub check_size : (s : State) (a inner outer : Size) → ((n : ℕ) → a ≡ all_sizes (formulas (map (λ c. asserted c.globals n c.term) s.claims))) → inner ≡ above a → outer ≡ above inner → outer ≡ size (refutation s)
check_size s a inner outer h i o = o ∙ ap above (i ∙ ap above (h (length s.constants)))

pub fits_small : (a : Size) (n l : ℕ) → a ≡ Fits n l → a ≡ Large → ⊥
fits_small a n l e bad = let z : Fits n l ≡ Large = sym e ∙ bad in cc
