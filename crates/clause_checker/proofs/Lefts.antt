-- What is left of clauses, and unit propagation, one more each time.
use Rattle.std.proofs.Common.{◌≡◌, ℕ, zero, suc, ◌<◌, ◌≤◌, ◌+◌, Bool, true, false, not, ◌||◌, List, [], ◌∷◌, ◌++◌, drop, take, length, get_or, Option, Some, None, slice_set, cond, refl, sym, ap, ◌∙◌, subst, arith}
use Rattle.std.specs.List.{list_any, slice_get}
use Rattle.std.proofs.lemmas.List.{append-nil, take_all}
use Rattle.std.proofs.lemmas.List.Elements.{filter-append}
use Rattle.base_budget.proofs.Charging.{drop-item, drop_all}
use Rattle.clause_proof.specs.declared.line.Literal.{Literal}
use Rattle.clause_proof.specs.Lines.{is_literal, opposite, left_of, clashes, clause_passes, unit_passes, without_clauses}
use Rattle.clause_checker.specs.declared.resolving.Left.{Left}
use Rattle.clause_checker.specs.declared.resolving.Left.TheVariants as left
use Rattle.clause_marks.specs.Marked.{is_marked}
use Rattle.clause_marks.specs.declared.marks.Marks.{Marks}
use Rattle.clause_checker.specs.Marking.{IsMarking}
use Rattle.clause_checker.specs.Views.{left_view, left_at}

among_is : (m : Marks) (ls ff : List Literal) (l : Literal) (b : Bool) → IsMarking m ff → b ≡ is_marked m.stamp m.positive m.negative l → b ≡ true → ls ++ left_of ff (l ∷ []) ≡ ls
among_is m ls ff l b mk is h = ap (λ t. ls ++ cond (not t) (l ∷ []) []) (sym (mk l) ∙ sym is ∙ h) ∙ append-nil ls

apart_is : (m : Marks) (ls ff : List Literal) (l : Literal) (b : Bool) → IsMarking m ff → b ≡ is_marked m.stamp m.positive m.negative l → b ≡ false → ls ++ left_of ff (l ∷ []) ≡ ls ++ l ∷ []
apart_is m ls ff l b mk is h = ap (λ t. ls ++ cond (not t) (l ∷ []) []) (sym (mk l) ∙ sym is ∙ h)

pub left_same : (m : Marks) (x : Left) (ls ff : List Literal) (l : Literal) (b : Bool) → b ≡ is_marked m.stamp m.positive m.negative l → b ≡ true → IsMarking m ff → x ≡ left_view ls → x ≡ left_view (ls ++ left_of ff (l ∷ []))
left_same m x ls ff l b is h mk v = v ∙ ap left_view (sym (among_is m ls ff l b mk is h))

view_one : (ls : List Literal) (l : Literal) → left.Nothing ≡ left_view ls → left.One l ≡ left_view (ls ++ l ∷ [])
view_one [] l h = refl
view_one (k ∷ []) l h = absurd (cc)
view_one (k ∷ j ∷ ls) l h = absurd (cc)

view_more : (ls : List Literal) (l k : Literal) → left.One k ≡ left_view ls → left.More ≡ left_view (ls ++ l ∷ [])
view_more [] l k h = absurd (cc)
view_more (j ∷ []) l k h = refl
view_more (j ∷ i ∷ ls) l k h = absurd (cc)

view_still : (ls : List Literal) (l : Literal) → left.More ≡ left_view ls → left.More ≡ left_view (ls ++ l ∷ [])
view_still [] l h = absurd (cc)
view_still (j ∷ []) l h = absurd (cc)
view_still (j ∷ i ∷ ls) l h = refl

pub left_one : (m : Marks) (x : Left) (ls ff : List Literal) (l : Literal) (b : Bool) → b ≡ is_marked m.stamp m.positive m.negative l → b ≡ false → x ≡ left.Nothing → IsMarking m ff → x ≡ left_view ls → left.One l ≡ left_view (ls ++ left_of ff (l ∷ []))
left_one m x ls ff l b is h at mk v = view_one ls l (sym at ∙ v) ∙ ap left_view (sym (apart_is m ls ff l b mk is h))

pub left_more : (m : Marks) (x : Left) (ls ff : List Literal) (l k : Literal) (b : Bool) → b ≡ is_marked m.stamp m.positive m.negative l → b ≡ false → x ≡ left.One k → IsMarking m ff → x ≡ left_view ls → left.More ≡ left_view (ls ++ left_of ff (l ∷ []))
left_more m x ls ff l k b is h at mk v = view_more ls l k (sym at ∙ v) ∙ ap left_view (sym (apart_is m ls ff l b mk is h))

pub left_still : (m : Marks) (x : Left) (ls ff : List Literal) (l : Literal) (b : Bool) → b ≡ is_marked m.stamp m.positive m.negative l → b ≡ false → x ≡ left.More → IsMarking m ff → x ≡ left_view ls → left.More ≡ left_view (ls ++ left_of ff (l ∷ []))
left_still m x ls ff l b is h at mk v = view_still ls l (sym at ∙ v) ∙ ap left_view (sym (apart_is m ls ff l b mk is h))

pub ruleset lefts = (left_same, left_one, left_more, left_still)

left_append : (ff xs : List Literal) (l : Literal) → left_of ff xs ++ left_of ff (l ∷ []) ≡ left_of ff (xs ++ l ∷ [])
left_append ff xs l = sym (filter-append (λ k. not (list_any (is_literal k) ff)) xs (l ∷ []))

take_item : (xs : List Literal) (i : ℕ) (x : Literal) → i < length xs → x ≡ get_or xs i x → take (i + 1) xs ≡ take i xs ++ x ∷ []
take_item xs i x lt is = subst (λ j. take j xs ≡ take i xs ++ x ∷ []) one (go xs i lt is)
  where
    one : suc i ≡ i + 1
    one = omega arith

    go : (xs : List Literal) (i : ℕ) → i < length xs → x ≡ get_or xs i x → take (suc i) xs ≡ take i xs ++ x ∷ []
    go [] i lt is = absurd (omega arith)
    go (y ∷ xs) zero lt is = ap (λ z. z ∷ []) (sym is)
    go (y ∷ xs) (suc i) lt is = ap (λ l. y ∷ l) (go xs i (omega arith) is)

-- what is left of the first literals, whichever are marked
pub record LeftSoFar (m : Marks) (x : Left) (c : List Literal) : Type 0 where
  pub is : (ff : List Literal) → IsMarking m ff → x ≡ left_view (left_of ff c)

pub left_begins : (m : Marks) (x : Left) → x ≡ left.Nothing → LeftSoFar m x []
left_begins m x h = record { is = λ ff mk. h }

pub left_goes : (m : Marks) (x y : Left) (c : List Literal) (i : ℕ) (l : Literal) → i < length c → l ≡ get_or c i l → LeftSoFar m x (take i c)
    → ((ff ls : List Literal) → IsMarking m ff → x ≡ left_view ls → y ≡ left_view (ls ++ left_of ff (l ∷ []))) → LeftSoFar m y (take (i + 1) c)
left_goes m x y c i l lt is h more =
    record { is = λ ff mk. more ff (left_of ff (take i c)) mk (h.is ff mk) ∙ ap left_view (left_append ff (take i c) l ∙ ap (left_of ff) (sym (take_item c i l lt is))) }

pub left_all : (m : Marks) (x : Left) (ff c : List Literal) (i : ℕ) → length c ≤ i → LeftSoFar m x (take i c) → IsMarking m ff → x ≡ left_view (left_of ff c)
left_all m x ff c i le h mk = h.is ff mk ∙ ap (λ l. left_view (left_of ff l)) (take_all i c le)

pub ruleset leaving = (left_begins, left_goes, left_all)

-- ---- marks
any_more : (l m : Literal) (ff : List Literal) → (list_any (is_literal l) ff || is_literal l m) ≡ list_any (is_literal l) (ff ++ m ∷ [])
any_more l m [] = or_nothing (is_literal l m)
  where
    or_nothing : (b : Bool) → b ≡ (b || false)
    or_nothing true = refl
    or_nothing false = refl
any_more l m (k ∷ ff) = or_assoc (is_literal l k) (list_any (is_literal l) ff) (is_literal l m) ∙ ap (λ b. is_literal l k || b) (any_more l m ff)
  where
    or_assoc : (a b c : Bool) → ((a || b) || c) ≡ (a || (b || c))
    or_assoc true b c = refl
    or_assoc false b c = refl

pub marks_more : (m n : Marks) (ff : List Literal) (k : Literal) → ((l : Literal) → is_marked n.stamp n.positive n.negative l ≡ (is_marked m.stamp m.positive m.negative l || is_literal l k)) → IsMarking m ff → IsMarking n (ff ++ k ∷ [])
marks_more m n ff k set mk l = set l ∙ ap (λ b. b || is_literal l k) (mk l) ∙ any_more l k ff

pub ruleset marking = (marks_more)

pub record MarkedSoFar (m : Marks) (c : List Literal) : Type 0 where
  pub is : IsMarking m c

pub marks_begin : (m : Marks) (c : List Literal) → ((l : Literal) → is_marked m.stamp m.positive m.negative l ≡ false) → c ≡ [] → MarkedSoFar m c
marks_begin m c none h = record { is = λ l. none l ∙ ap (list_any (is_literal l)) (sym h) }

pub marks_go : (m n : Marks) (c : List Literal) (i : ℕ) (l : Literal) → i < length c → l ≡ get_or c i l → MarkedSoFar m (take i c)
    → ((ff : List Literal) → IsMarking m ff → IsMarking n (ff ++ l ∷ [])) → MarkedSoFar n (take (i + 1) c)
marks_go m n c i l lt is h more = record { is = subst (IsMarking n) (sym (take_item c i l lt is)) (more (take i c) h.is) }

pub marks_end : (m : Marks) (c : List Literal) (i : ℕ) → length c ≤ i → MarkedSoFar m (take i c) → IsMarking m c
marks_end m c i le h = subst (IsMarking m) (take_all i c le) h.is

pub ruleset marked_ones = (marks_begin, marks_go, marks_end)

-- ---- unit propagation
abbrev by_left : Left → (Literal → Bool) → Bool
by_left left.Nothing test = true
by_left (left.One l) test = test l
by_left left.More test = false

unit_is : (ls : List Literal) (test : Literal → Bool) → unit_passes ls test ≡ by_left (left_view ls) test
unit_is [] test = refl
unit_is (l ∷ []) test = refl
unit_is (l ∷ k ∷ ls) test = refl

clause_is : (o : Option (Option (List Literal))) (ff : List Literal) (test : Literal → Bool) → clause_passes o (λ c. unit_passes (left_of ff c) test) ≡ by_left (left_at o ff) test
clause_is None ff test = refl
clause_is (Some None) ff test = refl
clause_is (Some (Some c)) ff test = unit_is (left_of ff c) test

-- the marked literals are such that what is left of a propagation says b
pub record ClashAt (cs : List (Option (List Literal))) (hs : List ℕ) (m : Marks) (b : Bool) : Type 0 where
  pub false_ones : List Literal
  pub marks : IsMarking m false_ones
  pub is : b ≡ clashes cs hs false_ones

-- whichever literals were marked at first, it says what all of it does
pub record ClashLeft (cs : List (Option (List Literal))) (rest hs : List ℕ) (m first : Marks) : Type 0 where
  pub is : (ff : List Literal) → IsMarking first ff → ClashAt cs rest m (clashes cs hs ff)

pub clash_begins : (cs : List (Option (List Literal))) (rest hs : List ℕ) (m first : Marks) → rest ≡ hs → m ≡ first → ClashLeft cs rest hs m first
clash_begins cs rest hs m first same is = record { is = λ ff mk. record { false_ones = ff; marks = subst (λ x. IsMarking x ff) (sym is) mk; is = ap (λ l. clashes cs l ff) (sym same) } }

clash_is : (cs : List (Option (List Literal))) (hs : List ℕ) (i h : ℕ) (m : Marks) (x : Left) (b : Bool) → i < length hs → h ≡ get_or hs i h → (at : ClashAt cs (drop i hs) m b)
    → ((ff : List Literal) → IsMarking m ff → x ≡ left_at (slice_get cs h) ff) → b ≡ by_left x (λ l. clashes cs (drop (i + 1) hs) (at.false_ones ++ opposite l ∷ []))
clash_is cs hs i h m x b lt is at seen =
    let ff = at.false_ones in
    at.is ∙ ap (λ l. clashes cs l ff) (drop-item hs i h lt is) ∙ clause_is (slice_get cs h) ff (λ l. clashes cs (drop (i + 1) hs) (ff ++ opposite l ∷ []))
    ∙ ap (λ y. by_left y (λ l. clashes cs (drop (i + 1) hs) (ff ++ opposite l ∷ []))) (sym (seen ff at.marks))

clash_by : (cs : List (Option (List Literal))) (hs : List ℕ) (i h : ℕ) (m : Marks) (x y : Left) (b : Bool) → i < length hs → h ≡ get_or hs i h → (at : ClashAt cs (drop i hs) m b)
    → ((ff : List Literal) → IsMarking m ff → x ≡ left_at (slice_get cs h) ff) → x ≡ y → b ≡ by_left y (λ l. clashes cs (drop (i + 1) hs) (at.false_ones ++ opposite l ∷ []))
clash_by cs hs i h m x y b lt is at seen same =
    clash_is cs hs i h m x b lt is at seen ∙ ap (λ z. by_left z (λ l. clashes cs (drop (i + 1) hs) (at.false_ones ++ opposite l ∷ []))) same

pub clash_yes : (cs : List (Option (List Literal))) (hs : List ℕ) (i h : ℕ) (m first : Marks) (ff : List Literal) (x : Left) → i < length hs → h ≡ get_or hs i h → ClashLeft cs (drop i hs) hs m first
    → ((ff : List Literal) → IsMarking m ff → x ≡ left_at (slice_get cs h) ff) → x ≡ left.Nothing → IsMarking first ff → true ≡ clashes cs hs ff
clash_yes cs hs i h m first ff x lt is inv seen none mk = sym (clash_by cs hs i h m x left.Nothing (clashes cs hs ff) lt is (inv.is ff mk) seen none)

pub clash_no : (cs : List (Option (List Literal))) (hs : List ℕ) (i h : ℕ) (m first : Marks) (ff : List Literal) (x : Left) → i < length hs → h ≡ get_or hs i h → ClashLeft cs (drop i hs) hs m first
    → ((ff : List Literal) → IsMarking m ff → x ≡ left_at (slice_get cs h) ff) → x ≡ left.More → IsMarking first ff → false ≡ clashes cs hs ff
clash_no cs hs i h m first ff x lt is inv seen more mk = sym (clash_by cs hs i h m x left.More (clashes cs hs ff) lt is (inv.is ff mk) seen more)

pub clash_on : (cs : List (Option (List Literal))) (hs : List ℕ) (i h : ℕ) (m n first : Marks) (x : Left) (l : Literal) → i < length hs → h ≡ get_or hs i h → ClashLeft cs (drop i hs) hs m first
    → ((ff : List Literal) → IsMarking m ff → x ≡ left_at (slice_get cs h) ff) → x ≡ left.One l → ((ff : List Literal) → IsMarking m ff → IsMarking n (ff ++ opposite l ∷ []))
    → ClashLeft cs (drop (i + 1) hs) hs n first
clash_on cs hs i h m n first x l lt is inv seen one more = record {
  is = λ ff mk. let at = inv.is ff mk in record {
    false_ones = at.false_ones ++ opposite l ∷ [];
    marks = more at.false_ones at.marks;
    is = clash_by cs hs i h m x (left.One l) (clashes cs hs ff) lt is at seen one;
  };
}

pub clash_ends : (cs : List (Option (List Literal))) (hs : List ℕ) (i : ℕ) (m first : Marks) (ff : List Literal) → length hs ≤ i → ClashLeft cs (drop i hs) hs m first → IsMarking first ff → false ≡ clashes cs hs ff
clash_ends cs hs i m first ff le inv mk = let at = inv.is ff mk in sym (at.is ∙ ap (λ l. clashes cs l at.false_ones) (drop_all hs i le))

pub ruleset clashing = (clash_begins, clash_yes, clash_no, clash_on, clash_ends)

-- ---- deleted clauses
pub set_past : (cs : List (Option (List Literal))) (h : ℕ) (c : Option (List Literal)) → length cs ≤ h → cs ≡ slice_set cs h c
set_past [] h c le = refl
set_past (d ∷ cs) zero c le = absurd (omega arith)
set_past (d ∷ cs) (suc h) c le = ap (λ l. d ∷ l) (set_past cs h c (omega arith))

-- what is left to delete gives all that is to be
pub record DeleteLeft (cs : List (Option (List Literal))) (hs : List ℕ) (all : List (Option (List Literal))) : Type 0 where
  pub is : all ≡ without_clauses cs hs

pub delete_begins : (cs : List (Option (List Literal))) (hs : List ℕ) → DeleteLeft cs hs (without_clauses cs hs)
delete_begins cs hs = record { is = refl }

pub delete_on : (cs ds : List (Option (List Literal))) (hs : List ℕ) (i h : ℕ) (all : List (Option (List Literal))) → i < length hs → h ≡ get_or hs i h → DeleteLeft cs (drop i hs) all
    → ds ≡ slice_set cs h None → DeleteLeft ds (drop (i + 1) hs) all
delete_on cs ds hs i h all lt is inv set =
    record { is = inv.is ∙ ap (without_clauses cs) (drop-item hs i h lt is) ∙ ap (λ l. without_clauses l (drop (i + 1) hs)) (sym set) }

pub delete_ends : (cs : List (Option (List Literal))) (hs : List ℕ) (i : ℕ) (all : List (Option (List Literal))) → length hs ≤ i → DeleteLeft cs (drop i hs) all → cs ≡ all
delete_ends cs hs i all le inv = sym (inv.is ∙ ap (without_clauses cs) (drop_all hs i le))

pub ruleset deleting = (delete_begins, delete_on, delete_ends)
