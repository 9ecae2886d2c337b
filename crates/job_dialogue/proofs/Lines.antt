-- What stands after the first line of a text, byte after byte.
use Rattle.std.proofs.Common.{◌≡◌, ℕ, ◌∷◌, [], List, Bool, false, ◌==◌, if◌then◌else◌, sym, ap, ◌∙◌}
use Rattle.job_dialogue.specs.Dialogue.{behind_line}

pub line_short : (text whole : List ℕ) → text ≡ [] → behind_line text ≡ whole → text ≡ whole
line_short text whole e w = e ∙ sym (ap behind_line e) ∙ w

pub line_ends : (text more whole : List ℕ) (b : ℕ) → text ≡ b ∷ more → b ≡ 10 → behind_line text ≡ whole → more ≡ whole
line_ends text more whole b e here w = sym (ap behind_line (e ∙ ap (λ z. z ∷ more) here)) ∙ w

behind_where : List ℕ → Bool → List ℕ
behind_where more is = if is then more else behind_line more

pub line_goes_on : (text more whole : List ℕ) (b : ℕ) → text ≡ b ∷ more → (b == 10) ≡ false → behind_line text ≡ whole → behind_line more ≡ whole
line_goes_on text more whole b e other w = sym (ap (λ z. if z then more else behind_line more) other) ∙ sym (ap behind_line e) ∙ w
