-- The cuts of a text among its tokens, one token after the other.
use Rattle.std.proofs.Common.{ℕ, ◌≡◌, ◌∷◌, [], List, Bool, true, false, refl, sym, ap, subst, ◌∙◌}
use Rattle.smt_tokens.specs.declared.terminals.Lexeme.{Lexeme}
use Rattle.smt_lists.specs.Cuts.{cut_at, cut_from, depth_after}

pub cuts_end : (fits : ℕ → Bool) (n found whole : ℕ) (tokens : List Lexeme) → tokens ≡ [] → cut_from fits n found tokens ≡ whole → found ≡ whole
cuts_end fits n found whole tokens e w = sym (ap (cut_from fits n found) e) ∙ w

pub cuts_on : (fits : ℕ → Bool) (n m found new whole : ℕ) (tokens more : List Lexeme) (x : Lexeme) → tokens ≡ x ∷ more → m ≡ depth_after x.terminal n → new ≡ cut_at fits x n found
    → cut_from fits n found tokens ≡ whole → cut_from fits m new more ≡ whole
cuts_on fits n m found new whole tokens more x e d c w =
    ap (λ z. cut_from fits z new more) d ∙ ap (λ z. cut_from fits (depth_after x.terminal n) z more) c ∙ sym (ap (cut_from fits n found) e) ∙ w
