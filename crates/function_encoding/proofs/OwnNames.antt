-- Names in their order, one more at a time.
use Rattle.std.proofs.Common.{◌≡◌, ℕ, suc, ◌+◌, ◌-◌, ◌<◌, ◌≤◌, List, [], ◌∷◌, ◌++◌, sym, ap, ◌∙◌, append_assoc, arith}
use Rattle.std.proofs.lemmas.List.{append-nil}
use Rattle.form_encoding.specs.Root.{names_from}

names_next : (x n : ℕ) → x < n → names_from x (n - x) ≡ x ∷ names_from (x + 1) (n - (x + 1))
names_next x n lt =
    let k : n - x ≡ suc (n - (x + 1)) = omega arith in
    let y : suc x ≡ x + 1 = omega arith in
    ap (names_from x) k ∙ ap (λ z. x ∷ names_from z (n - (x + 1))) y

pub names_pushed : (all new whole : List ℕ) (x n : ℕ) → x < n → all ++ names_from x (n - x) ≡ whole → new ≡ all ++ x ∷ [] → new ++ names_from (x + 1) (n - (x + 1)) ≡ whole
names_pushed all new whole x n lt inv is =
    ap (λ z. z ++ names_from (x + 1) (n - (x + 1))) is ∙ append_assoc all (x ∷ []) (names_from (x + 1) (n - (x + 1)))
    ∙ ap (λ z. all ++ z) (sym (names_next x n lt)) ∙ inv

pub names_all : (all whole : List ℕ) (x n : ℕ) → n ≤ x → all ++ names_from x (n - x) ≡ whole → all ≡ whole
names_all all whole x n le inv =
    let k : n - x ≡ 0 = omega arith in
    sym (append-nil all) ∙ sym (ap (λ z. all ++ names_from x z) k) ∙ inv
