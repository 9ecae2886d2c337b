-- What tables of texts say.
use Rattle.std.proofs.Common.{ℕ, ◌≡◌, Bool, true, List, [], ◌∷◌, ap, ◌∙◌, inl, inr}
use Rattle.std.specs.List.{list_all}
use Rattle.std.specs.Str.{bytes_eq}
use Rattle.std.proofs.lemmas.Slice.Eq.{bytes_eq-Decides}
use Rattle.base_numerals.proofs.Tests.{left_true, right_true, either_true}
use Rattle.pri_tokens.specs.Kinds.{is_one_of}

-- what all texts of a table pass, each of them passes
pub of_table : (q : List ℕ → Bool) (table : List (List ℕ)) (text : List ℕ) → list_all q table ≡ true → is_one_of table text ≡ true → q text ≡ true
of_table q [] text a e = cc
of_table q (s ∷ ss) text a e =
    elim (either_true (bytes_eq text s) (is_one_of ss text) e) [
      | inl h ↦ (let same : text ≡ s = (bytes_eq-Decides text s).0 h in ap q same ∙ left_true (q s) (list_all q ss) a)
      | inr h ↦ of_table q ss text (right_true (q s) (list_all q ss) a) h
    ]
