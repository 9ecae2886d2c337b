-- Lists of a known number of members.
use Rattle.std.proofs.Common.{◌≡◌, ◌≤◌, ◌<◌, Bool, List, [], ◌∷◌, length, get_or, map, refl, sym, ap, ◌∙◌, arith, codes, None, if◌then◌else◌}
use Rattle.smt_lists.specs.declared.tree.Sexp.{Sexp}
use Rattle.smt_lists.specs.Expressions.{expr}
use Rattle.smt_commands.specs.Commands.{members_of, symbol_of}
use Rattle.smt_shorthand.specs.declared.table.SortTable.{SortTable}
use Rattle.smt_shorthand.specs.Table.{definition_by, definition_in, is_word}

pub four : {A : Type 0} (xs : List A) (a b c d : A) → 4 ≤ length xs → length xs < 5 → a ≡ get_or xs 0 a → b ≡ get_or xs 1 b → c ≡ get_or xs 2 c → d ≡ get_or xs 3 d
    → xs ≡ a ∷ b ∷ c ∷ d ∷ []
four [] a b c d l u p q r s = absurd (omega arith)
four (x ∷ []) a b c d l u p q r s = absurd (omega arith)
four (x ∷ y ∷ []) a b c d l u p q r s = absurd (omega arith)
four (x ∷ y ∷ z ∷ []) a b c d l u p q r s = absurd (omega arith)
four (x ∷ y ∷ z ∷ w ∷ []) a b c d l u p q r s =
    ap (λ k. k ∷ y ∷ z ∷ w ∷ []) (sym p) ∙ ap (λ k. a ∷ k ∷ z ∷ w ∷ []) (sym q) ∙ ap (λ k. a ∷ b ∷ k ∷ w ∷ []) (sym r) ∙ ap (λ k. a ∷ b ∷ c ∷ k ∷ []) (sym s)
four (x ∷ y ∷ z ∷ w ∷ v ∷ xs) a b c d l u p q r s = absurd (omega arith)

pub definition_known : (t : SortTable) (ms : List Sexp) (a b c d : Sexp) (w : Bool) → ms ≡ a ∷ b ∷ c ∷ d ∷ [] → w ≡ is_word (codes "define-sort") (symbol_of (expr a))
    → definition_in t (map expr ms) ≡ (if w then definition_by t (symbol_of (expr b)) (members_of (expr c)) (expr d) else None)
definition_known t ms a b c d w is known =
    ap (λ z. definition_in t (map expr z)) is ∙ ap (λ z. if z then definition_by t (symbol_of (expr b)) (members_of (expr c)) (expr d) else None) (sym known)

pub three : {A : Type 0} (xs : List A) (a b c : A) → 3 ≤ length xs → length xs < 4 → a ≡ get_or xs 0 a → b ≡ get_or xs 1 b → c ≡ get_or xs 2 c → xs ≡ a ∷ b ∷ c ∷ []
three [] a b c l u p q r = absurd (omega arith)
three (x ∷ []) a b c l u p q r = absurd (omega arith)
three (x ∷ y ∷ []) a b c l u p q r = absurd (omega arith)
three (x ∷ y ∷ z ∷ []) a b c l u p q r = ap (λ k. k ∷ y ∷ z ∷ []) (sym p) ∙ ap (λ k. a ∷ k ∷ z ∷ []) (sym q) ∙ ap (λ k. a ∷ b ∷ k ∷ []) (sym r)
three (x ∷ y ∷ z ∷ w ∷ xs) a b c l u p q r = absurd (omega arith)

pub after_three : {A : Type 0} (xs : List A) (b c : A) → 3 ≤ length xs → length xs < 4 → b ≡ get_or xs 1 b → c ≡ get_or xs 2 c → xs ≡ get_or xs 0 b ∷ b ∷ c ∷ []
after_three xs b c l u q r = three xs (get_or xs 0 b) b c l u (first_or xs b (omega arith)) q r
  where
    first_or : {A : Type 0} (xs : List A) (b : A) → 1 ≤ length xs → get_or xs 0 b ≡ get_or xs 0 (get_or xs 0 b)
    first_or [] b h = absurd (omega arith)
    first_or (x ∷ xs) b h = refl

pub after_five : {A : Type 0} (xs : List A) (b c d e : A) → 5 ≤ length xs → length xs < 6 → b ≡ get_or xs 1 b → c ≡ get_or xs 2 c → d ≡ get_or xs 3 d → e ≡ get_or xs 4 e
    → xs ≡ get_or xs 0 b ∷ b ∷ c ∷ d ∷ e ∷ []
after_five [] b c d e l u p q r s = absurd (omega arith)
after_five (v ∷ []) b c d e l u p q r s = absurd (omega arith)
after_five (v ∷ x ∷ []) b c d e l u p q r s = absurd (omega arith)
after_five (v ∷ x ∷ y ∷ []) b c d e l u p q r s = absurd (omega arith)
after_five (v ∷ x ∷ y ∷ z ∷ []) b c d e l u p q r s = absurd (omega arith)
after_five (v ∷ x ∷ y ∷ z ∷ w ∷ []) b c d e l u p q r s =
    ap (λ k. v ∷ k ∷ y ∷ z ∷ w ∷ []) (sym p) ∙ ap (λ k. v ∷ b ∷ k ∷ z ∷ w ∷ []) (sym q) ∙ ap (λ k. v ∷ b ∷ c ∷ k ∷ w ∷ []) (sym r) ∙ ap (λ k. v ∷ b ∷ c ∷ d ∷ k ∷ []) (sym s)
after_five (v ∷ x ∷ y ∷ z ∷ w ∷ k ∷ xs) b c d e l u p q r s = absurd (omega arith)
