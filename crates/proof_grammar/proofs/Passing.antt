-- Lines that pay for what is owed, and of which nothing is kept.
use Rattle.std.proofs.Common.{ℕ, ◌≡◌, List, [], ◌∷◌, ◌++◌, ◌+◌, ◌≤◌, refl, sym, ap, subst, ◌∙◌}
use Rattle.std.specs.Prelude.{codes}
use Rattle.proof_tokens.specs.Lines.{log_text}
use Rattle.proof_tokens.specs.Reading.{Cuts}
use Rattle.proof_tokens.proofs.Respelled.{cut_back}
use Rattle.proof_constraint.specs.Text.{gives_text}
use Rattle.base_limits.specs.Limits.{branch_limit}
use Rattle.sequent.specs.declared.member.Pick.{Pick}
use Rattle.proof_grammar.specs.Owed.{last_owed, nodes_owed}
use Rattle.proof_grammar.specs.Rows.{IsRow, row_line}
use Rattle.proof_grammar.specs.declared.lines.Owed.{Owed}
use Rattle.proof_grammar.specs.declared.lines.Owed.TheVariants as o
use Rattle.proof_grammar.specs.declared.lines.TextLine.TheVariants as w
use Rattle.proof_grammar.specs.declared.walk.Walk.{Walk}
use Rattle.proof_grammar.specs.Walks.{Advanced, owed_of}

-- the line `gives true`
pub true_passed : (before after : Walk) (owed : Owed) (bytes behind : List ℕ) → owed ≡ o.Gives → Cuts (gives_text ([] ∷ [])) bytes behind → ((os : List Owed) → owed_of before ≡ o.Gives ∷ os → owed_of after ≡ os)
    → Advanced before after owed bytes behind
true_passed before after owed bytes behind is cut left = subst (λ x. Advanced before after x bytes behind) (sym is) (record {
  line = w.Gives ([] ∷ []);
  pays = (tt, tt);
  cut = cut;
  inner = λ os e. tt;
  goes_on = left;
})

-- the bytes of the line `log` with no entry
pub log_cut : (text word rest : List ℕ) → word ≡ codes "log\n" → text ≡ word ++ rest → Cuts (log_text []) text rest
log_cut text word rest is e =
    subst (λ z. Cuts (log_text []) z rest) (sym (e ∙ ap (λ w. w ++ rest) is)) (cut_back (log_text []) rest (tt, (λ _. refl), (tt, (λ h. absurd (cc)), tt)))

-- the line `log` with no entry
pub log_passed : (before after : Walk) (owed : Owed) (parts : ℕ) (bytes behind : List ℕ) → owed ≡ o.Log parts → Cuts (log_text []) bytes behind → ((m : ℕ) (os : List Owed) → owed_of before ≡ o.Log m ∷ os → owed_of after ≡ os)
    → Advanced before after owed bytes behind
log_passed before after owed parts bytes behind is cut left = subst (λ x. Advanced before after x bytes behind) (sym is) (record {
  line = w.Log (record { entries = [] });
  pays = tt;
  cut = cut;
  inner = λ os e. tt;
  goes_on = left parts;
})

-- the line of a rule
pub row_passed : (before after : Walk) (owed : Owed) (level parts : ℕ) (r : Pick × ℕ) (bytes behind : List ℕ) → owed ≡ o.Node level parts → level ≤ branch_limit → IsRow r → Cuts (row_line r) bytes behind
    → ((m : ℕ) (os : List Owed) → owed_of before ≡ o.Node level m ∷ os → owed_of after ≡ nodes_owed m r.1 (level + 1) ++ last_owed m r.0 ++ os) → Advanced before after owed bytes behind
row_passed before after owed level parts r bytes behind is low row cut left = subst (λ x. Advanced before after x bytes behind) (sym is) (record {
  line = w.Row r.0 r.1;
  pays = (low, row);
  cut = cut;
  inner = λ os e. tt;
  goes_on = left parts;
})
