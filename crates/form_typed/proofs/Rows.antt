-- What the rows of a table say is what it means.
use Rattle.std.proofs.Common.{◌≡◌, ℕ, ℤ, pos, Bool, true, false, List, [], ◌∷◌, ◌++◌, All, refl, ap, ◌∙◌, arith, cond, nat_eq}
use Rattle.std.specs.Ordering.{int_eq}
use Rattle.std.specs.Cmp.Lexicographic.{pointwise}
use Rattle.std.specs.Bool.{Decides}
use Rattle.std.proofs.lemmas.Bool.Decides.{Decides-eqb, Decides-int_eq, Decides-and}
use Rattle.std.proofs.lemmas.Slice.Eq.{slice_eq-Decides}
use Rattle.std.proofs.lemmas.List.Elements.{All-head, All-tail}
use Rattle.form_typed.specs.declared.world.TruthRow.{TruthRow}
use Rattle.form_typed.specs.declared.world.ValueRow.{ValueRow}
use Rattle.form_typed.specs.Table.{is_row_for, is_true_at_row, value_at_row, SaysValue, SaysTruth}

lists_decided : (xs ys : List ℤ) → Decides (pointwise int_eq xs ys) (xs ≡ ys)
lists_decided xs ys = slice_eq-Decides Decides-int_eq xs ys _ refl

-- a row passes the test exactly where it is for the number at the integers
row_decided : (a f : ℕ) (xs ys : List ℤ) → Decides (is_row_for a xs f ys) ((a ≡ f) × (xs ≡ ys))
row_decided a f xs ys = Decides-and (nat_eq a f) (pointwise int_eq xs ys) (Decides-eqb a f) (lists_decided xs ys)

not_true : (b : Bool) → ¬ (b ≡ true) → b ≡ false
not_true b h = grind arith

-- a predicate is true at the integers of one of its rows
pub is_true_at_row-row : (before after : List TruthRow) (row : TruthRow) (p : ℕ) (xs : List ℤ) → SaysTruth row p xs → is_true_at_row (before ++ row ∷ after) p xs ≡ true
is_true_at_row-row [] after row p xs h = ap (λ b. cond b true (is_true_at_row after p xs)) ((row_decided row.id p row.at xs).1 (h.predicate, h.arguments))
is_true_at_row-row (r ∷ before) after row p xs h = either_way (is_row_for r.id r.at p xs) (is_true_at_row-row before after row p xs h)
  where
    either_way : (b : Bool) {c : Bool} → c ≡ true → cond b true c ≡ true
    either_way true h = refl
    either_way false h = h

-- a predicate is true nowhere else
pub is_true_at_row-none : (rows : List TruthRow) (p : ℕ) (xs : List ℤ) → All (λ row. ¬ (SaysTruth row p xs)) rows → is_true_at_row rows p xs ≡ false
is_true_at_row-none [] p xs h = refl
is_true_at_row-none (row ∷ rows) p xs h =
    let P : TruthRow → Type 0 = λ r. ¬ (SaysTruth r p xs) in
    let other : is_row_for row.id row.at p xs ≡ false = not_true _ (λ t. let both : (row.id ≡ p) × (row.at ≡ xs) = (row_decided row.id p row.at xs).0 t in All-head P row rows h (record { predicate = both.0; arguments = both.1 })) in
    ap (λ b. cond b true (is_true_at_row rows p xs)) other ∙ is_true_at_row-none rows p xs (All-tail P row rows h)

-- a function has the value of its first row at the integers
pub value_at_row-row : (before after : List ValueRow) (row : ValueRow) (f : ℕ) (xs : List ℤ) → All (λ r. ¬ (SaysValue r f xs)) before → SaysValue row f xs → value_at_row (before ++ row ∷ after) f xs ≡ row.value
value_at_row-row [] after row f xs n h = ap (λ b. cond b row.value (value_at_row after f xs)) ((row_decided row.id f row.at xs).1 (h.function, h.arguments))
value_at_row-row (r ∷ before) after row f xs n h =
    let P : ValueRow → Type 0 = λ r. ¬ (SaysValue r f xs) in
    let other : is_row_for r.id r.at f xs ≡ false = not_true _ (λ t. let both : (r.id ≡ f) × (r.at ≡ xs) = (row_decided r.id f r.at xs).0 t in All-head P r before n (record { function = both.0; arguments = both.1 })) in
    ap (λ b. cond b r.value (value_at_row (before ++ row ∷ after) f xs)) other ∙ value_at_row-row before after row f xs (All-tail P r before n) h

-- a function without a row at the integers is 0 there
pub value_at_row-none : (rows : List ValueRow) (f : ℕ) (xs : List ℤ) → All (λ row. ¬ (SaysValue row f xs)) rows → value_at_row rows f xs ≡ pos 0
value_at_row-none [] f xs h = refl
value_at_row-none (row ∷ rows) f xs h =
    let P : ValueRow → Type 0 = λ r. ¬ (SaysValue r f xs) in
    let other : is_row_for row.id row.at f xs ≡ false = not_true _ (λ t. let both : (row.id ≡ f) × (row.at ≡ xs) = (row_decided row.id f row.at xs).0 t in All-head P row rows h (record { function = both.0; arguments = both.1 })) in
    ap (λ b. cond b row.value (value_at_row rows f xs)) other ∙ value_at_row-none rows f xs (All-tail P row rows h)
