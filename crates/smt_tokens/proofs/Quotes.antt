-- How a string goes on at its next byte.
use Rattle.std.proofs.Common.{ℕ, suc, ◌≡◌, ◌+◌, ◌<◌, ◌==◌, not, Bool, true, false, List, ◌∷◌, length, drop, get_or, refl, sym, ap, ◌∙◌, add-one, drop-cons, if◌then◌else◌}
use Rattle.smt_tokens.specs.declared.strings.Ending.{Ending}
use Rattle.smt_tokens.specs.declared.strings.Ending.TheVariants as end
use Rattle.smt_tokens.specs.Bytes.{is_string_byte}
use Rattle.smt_tokens.specs.Lexemes.{ending_from}

quote_by : (n : ℕ) (quote : Bool) (b : ℕ) (text : List ℕ) → (b == 34) ≡ true → ending_from n quote (b ∷ text) ≡ ending_from (suc n) (not quote) text
quote_by n true b text e = rw e refl
quote_by n false b text e = rw e refl

chosen : {A : Type 0} (u v : Bool) (x y z : A) → u ≡ false → v ≡ true → (if u then x else (if v then y else z)) ≡ y
chosen true v x y z e f = cc
chosen false true x y z e f = refl
chosen false false x y z e f = cc

byte_by : (n b : ℕ) (text : List ℕ) → (b == 34) ≡ false → is_string_byte b ≡ true → ending_from n false (b ∷ text) ≡ ending_from (suc n) false text
byte_by n b text e f = chosen (b == 34) (is_string_byte b) (ending_from (suc n) true text) (ending_from (suc n) false text) end.Forbidden e f

-- at a `"`, and at another byte of a string
pub behind_quote : (text : List ℕ) (i : ℕ) (quote : Bool) (whole : Ending) → i < length text → (get_or text i 0 == 34) ≡ true
    → ending_from i quote (drop i text) ≡ whole → ending_from (i + 1) (not quote) (drop (i + 1) text) ≡ whole
behind_quote text i quote whole h e w = rw add-one (sym (quote_by i quote (get_or text i 0) (drop (suc i) text) e) ∙ ap (ending_from i quote) (sym (drop-cons text i 0 h)) ∙ w)

pub behind_byte : (text : List ℕ) (i : ℕ) (whole : Ending) → i < length text → (get_or text i 0 == 34) ≡ false → is_string_byte (get_or text i 0) ≡ true
    → ending_from i false (drop i text) ≡ whole → ending_from (i + 1) false (drop (i + 1) text) ≡ whole
behind_byte text i whole h e f w = rw add-one (sym (byte_by i (get_or text i 0) (drop (suc i) text) e f) ∙ ap (ending_from i false) (sym (drop-cons text i 0 h)) ∙ w)
