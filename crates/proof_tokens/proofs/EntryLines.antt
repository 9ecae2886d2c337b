-- Lines of entries: what stands before the next token, and which tokens can stand there.
use Rattle.std.proofs.Common.{ℕ, ◌≡◌, List, [], ◌∷◌, ◌++◌, refl, sym, ap, subst, ◌∙◌, append_assoc, append-nil}
use Rattle.base_budget.specs.declared.log.Entry.{Entry}
use Rattle.base_budget.specs.declared.log.Entry.TheVariants as step
use Rattle.proof_tokens.specs.declared.tokens.Token.{Token}
use Rattle.proof_tokens.specs.declared.tokens.Token.TheVariants as t
use Rattle.proof_tokens.specs.declared.reading.Refusal.{Refusal}
use Rattle.proof_tokens.specs.Lines.{entries_text, AnyEntries, IsStep, IsSeparator}
use Rattle.proof_tokens.specs.Reading.{Cuts, RefusesProof, RefusesNext}
use Rattle.proof_tokens.proofs.Cutting.{cut_append}
use Rattle.proof_tokens.proofs.Refusals.{lacked}

-- entries, each after a blank
abbrev pub before : List Entry → List Token
before [] = []
before (s ∷ es) = t.Blank ∷ t.Step s ∷ before es

before_end : (es : List Entry) → entries_text es ≡ before es ++ t.LineFeed ∷ []
before_end [] = refl
before_end (s ∷ es) = ap (λ z. t.Blank ∷ t.Step s ∷ z) (before_end es)

before_more : (es : List Entry) (s : Entry) → before (es ++ s ∷ []) ≡ (before es ++ t.Blank ∷ []) ++ t.Step s ∷ []
before_more [] s = refl
before_more (a ∷ es) s = ap (λ z. t.Blank ∷ t.Step a ∷ z) (before_more es s)

-- after some entries of a line stand entries
behind_is : (us es : List Entry) (tail : List Token) → entries_text us ≡ before es ++ tail → (ws : List Entry) × (entries_text ws ≡ tail)
behind_is us [] tail q = (us, q)
behind_is [] (s ∷ es) tail q = absurd (cc)
behind_is (u ∷ us) (s ∷ es) tail q = behind_is us es tail (cc)

separates : (ws : List Entry) (x : Token) (more : List Token) → entries_text ws ≡ x ∷ more → IsSeparator x
separates [] x more q = let h : t.LineFeed ≡ x = cc in subst IsSeparator h tt
separates (s ∷ ws) x more q = let h : t.Blank ≡ x = cc in subst IsSeparator h tt

steps : (ws : List Entry) (x : Token) (more : List Token) → entries_text ws ≡ t.Blank ∷ x ∷ more → IsStep x
steps [] x more q = absurd (cc)
steps (s ∷ ws) x more q = let h : t.Step s ≡ x = cc in subst IsStep h tt

not_nothing : (ws : List Entry) → entries_text ws ≡ [] → ⊥
not_nothing [] q = cc
not_nothing (s ∷ ws) q = cc

not_blank : (ws : List Entry) → entries_text ws ≡ t.Blank ∷ [] → ⊥
not_blank [] q = cc
not_blank (s ∷ ws) q = cc

-- after an entry neither a blank nor the end of the line comes
pub no_separator : (es : List Entry) (bytes back : List ℕ) (fault : Refusal) → Cuts (before es) bytes back → RefusesNext IsSeparator back fault → RefusesProof AnyEntries entries_text bytes fault
no_separator es bytes back fault cut lacks = lacked AnyEntries entries_text (before es) bytes back IsSeparator fault cut lacks
    (record { value = es; is_value = tt; more = t.LineFeed ∷ []; parts = before_end es })
    (λ us x more i q. let w = behind_is us es (x ∷ more) q in separates w.0 x more w.1)
    (λ us i q. let w = behind_is us es [] (q ∙ sym (append-nil (before es))) in not_nothing w.0 w.1)

-- after a blank no entry comes
pub no_step : (es : List Entry) (bytes blank back : List ℕ) (fault : Refusal) → Cuts (before es) bytes blank → Cuts (t.Blank ∷ []) blank back → RefusesNext IsStep back fault → RefusesProof AnyEntries entries_text bytes fault
no_step es bytes blank back fault cut is_blank lacks = lacked AnyEntries entries_text (before es ++ t.Blank ∷ []) bytes back IsStep fault
    (cut_append (before es) (t.Blank ∷ []) bytes blank back cut is_blank) lacks
    (record {
      value = es ++ step.Exact ∷ [];
      is_value = tt;
      more = t.Step step.Exact ∷ t.LineFeed ∷ [];
      parts = before_end (es ++ step.Exact ∷ []) ∙ ap (λ z. z ++ t.LineFeed ∷ []) (before_more es step.Exact) ∙ append_assoc (before es ++ t.Blank ∷ []) (t.Step step.Exact ∷ []) (t.LineFeed ∷ []);
    })
    (λ us x more i q. let w = behind_is us es (t.Blank ∷ x ∷ more) (q ∙ append_assoc (before es) (t.Blank ∷ []) (x ∷ more)) in steps w.0 x more w.1)
    (λ us i q. let w = behind_is us es (t.Blank ∷ []) q in not_blank w.0 w.1)

-- one entry further
pub cut_step : (es : List Entry) (s : Entry) (bytes blank item back : List ℕ) → Cuts (before es) bytes blank → Cuts (t.Blank ∷ []) blank item → Cuts (t.Step s ∷ []) item back → Cuts (before (es ++ s ∷ [])) bytes back
cut_step es s bytes blank item back p q r =
    subst (λ z. Cuts z bytes back) (sym (before_more es s))
    (cut_append (before es ++ t.Blank ∷ []) (t.Step s ∷ []) bytes item back (cut_append (before es) (t.Blank ∷ []) bytes blank item p q) r)

-- the end of the line
pub cut_end : (es : List Entry) (bytes blank back : List ℕ) → Cuts (before es) bytes blank → Cuts (t.LineFeed ∷ []) blank back → Cuts (entries_text es) bytes back
cut_end es bytes blank back p q = subst (λ z. Cuts z bytes back) (sym (before_end es)) (cut_append (before es) (t.LineFeed ∷ []) bytes blank back p q)
