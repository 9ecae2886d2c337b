-- The words of the first lines.
use Rattle.std.specs.Prelude.{ℕ, ◌≤◌, ◌&&◌, List, Option, Some, None, codes, cond, nat_le}
use Rattle.std.specs.Str.{bytes_eq}
use Rattle.std.specs.Fmt.{decimal}
use Rattle.base_limits.specs.Limits.{most_budget}
use Rattle.clause_text.specs.declared.charge.Charge.{Charge}
use Rattle.clause_words.specs.Numbers.{index_of}

-- the word is this one
abbrev pub is_label : List ℕ → List ℕ → Option (Unit {0})
is_label w x = cond (bytes_eq x w) (Some tt) None

-- how many steps a checker may charge
abbrev pub IsCharge : Charge → Type 0
IsCharge c = (1 ≤ c.count) × (c.count ≤ most_budget)

abbrev pub charge_if : Option ℕ → Option Charge
charge_if None = None
charge_if (Some n) = cond (nat_le 1 n && nat_le n most_budget) (Some (record { count = n })) None

abbrev pub charge_of : List ℕ → Option Charge
charge_of x = charge_if (index_of x)

abbrev pub charge_text : Charge → List ℕ
charge_text c = decimal c.count

abbrev pub format_word : List ℕ
format_word = codes "3"
