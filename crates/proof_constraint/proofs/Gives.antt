-- Where the machine of a line `gives` stands in the bytes, and how it ends.
use Rattle.std.proofs.Common.{ℕ, ◌≡◌, List, [], ◌∷◌, ◌++◌, drop, length, refl, sym, ap, subst, ◌∙◌, append_assoc, append-nil}
use Rattle.std.specs.Prelude.{codes}
use Rattle.clause_set.specs.declared.literal.Literal.{Literal}
use Rattle.proof_tokens.specs.declared.tokens.Token.{Token}
use Rattle.proof_tokens.specs.declared.tokens.Token.TheVariants as t
use Rattle.proof_tokens.specs.Spellings.{IsRangedToken}
use Rattle.proof_tokens.specs.Reading.{Cuts, IsRefusedAt, IsApart, RefusesNext, RefusesProof}
use Rattle.proof_tokens.specs.declared.reading.Refusal.{Refusal}
use Rattle.proof_tokens.specs.declared.scanner.Piece.{Piece}
use Rattle.proof_tokens.proofs.Cutting.{cut_append, some_same}
use Rattle.proof_tokens.proofs.Refusals.{no_word}
use Rattle.proof_tokens.proofs.Respelled.{cut_back}
use Rattle.proof_constraint.specs.declared.draft.Draft.{Draft}
use Rattle.proof_constraint.specs.declared.place.Last.TheVariants as w
use Rattle.proof_constraint.specs.declared.place.Place.{Place}
use Rattle.proof_constraint.specs.declared.place.Place.TheVariants as p
use Rattle.proof_constraint.specs.Behind as b
use Rattle.proof_constraint.specs.Places.{state_of}
use Rattle.proof_constraint.specs.State.{GivenState}
use Rattle.proof_constraint.specs.State as s
use Rattle.proof_constraint.specs.Move.{GivenMove}
use Rattle.proof_constraint.specs.Move as m
use Rattle.proof_constraint.specs.Text.{AreClauses, dnf_text, gives_text}
use Rattle.proof_constraint.specs.Machine.{moves}
use Rattle.proof_constraint.specs.Steps.{LeadOn, ReachesState}
use Rattle.proof_constraint.proofs.Said.{said, IsFine}
use Rattle.proof_constraint.proofs.Running.{read, run}
use Rattle.proof_constraint.proofs.Line.{as_step, line_moves, gives_read}
use Rattle.proof_constraint.proofs.Leads.{Leads, leads}
use Rattle.proof_constraint.proofs.Finish.{begun}
use Rattle.proof_constraint.proofs.Complete.{complete}
use Rattle.proof_constraint.proofs.Runner.{run_on, run_bad, run_nil}

-- the bytes up to `rest` are what the state says, and the machine comes to it by them
pub record Stands (z : GivenState) (bytes rest : List ℕ) : Type 0 where
  pub cut : Cuts (said z) bytes rest
  pub fine : IsFine z
  pub inner : List Token
  pub is : said z ≡ t.Gives ∷ inner
  pub comes : (xs : List Token) → run line_moves gives_read (inner ++ xs) ≡ run line_moves z xs

pub starts : (bytes rest : List ℕ) → Cuts (t.Gives ∷ []) bytes rest → Stands gives_read bytes rest
starts bytes rest c = record {
  cut = c;
  fine = (record { clauses = tt; literals = tt; divisor = tt; pairs = tt; least = refl }, refl);
  inner = [];
  is = refl;
  comes = λ xs. refl;
}

pub goes_on : (z y : GivenState) (x : Token) (bytes rest more : List ℕ) (move : GivenMove) → move ≡ moves z x → move ≡ m.On y → IsRangedToken x → Cuts (x ∷ []) rest more → Stands z bytes rest → Stands y bytes more
goes_on z y x bytes rest more move p q r c h =
    let l = subst (Leads (said z ++ x ∷ [])) (sym p ∙ q) (leads z x r h.fine) in
    record {
      cut = subst (λ w. Cuts w bytes more) (sym l.1) (cut_append (said z) (x ∷ []) bytes rest more h.cut c);
      fine = l.0;
      inner = h.inner ++ x ∷ [];
      is = l.1 ∙ ap (λ w. w ++ x ∷ []) h.is;
      comes = λ xs. ap (run line_moves gives_read) (append_assoc h.inner (x ∷ []) xs) ∙ h.comes (x ∷ xs) ∙ run_on line_moves z y x xs (ap as_step (sym p ∙ q));
    }

-- several tokens
lead_far : (z y : GivenState) (xs : List Token) (bytes rest more : List ℕ) → LeadOn z xs y → Cuts xs rest more → Stands z bytes rest → Stands y bytes more
lead_far z y [] bytes rest more l c h = subst (λ w. Stands w bytes more) l (subst (λ r. Stands z bytes r) c h)
lead_far z y (x ∷ xs) bytes rest more l c h = lead_far l.0 y xs bytes (drop c.0 rest) more l.3 c.2 (goes_on z l.0 x bytes rest (drop c.0 rest) (m.On l.0) l.1 refl l.2 (c.0, c.1, refl) h)

pub goes_far : (z y : GivenState) (bytes rest more : List ℕ) → ReachesState z y rest more → Stands z bytes rest → Stands y bytes more
goes_far z y bytes rest more r h = lead_far z y r.tokens bytes rest more r.leads r.cut h

pub ends : (z : GivenState) (d : List (List Literal)) (x : Token) (bytes rest more : List ℕ) (move : GivenMove) → move ≡ moves z x → move ≡ m.Done d → IsRangedToken x → Cuts (x ∷ []) rest more → Stands z bytes rest
    → AreClauses d × Cuts (gives_text d) bytes more
ends z d x bytes rest more move p q r c h =
    let l = subst (Leads (said z ++ x ∷ [])) (sym p ∙ q) (leads z x r h.fine) in
    (l.0, subst (λ w. Cuts w bytes more) (sym l.1) (cut_append (said z) (x ∷ []) bytes rest more h.cut c))

-- the line ends after a clause
pub ends_clause : (place : Place) (g : Draft) (d : List (List Literal)) (bytes rest more : List ℕ) → place ≡ p.Behind w.Clause → d ≡ g.clauses ++ g.literals ∷ [] → Cuts (t.LineFeed ∷ []) rest more → Stands (state_of place g) bytes rest
    → AreClauses d × Cuts (gives_text d) bytes more
unfolding moves
ends_clause place g d bytes rest more is e c h =
    ends (s.Behind (b.Clause g.clauses g.literals)) d t.LineFeed bytes rest more (m.Done (g.clauses ++ g.literals ∷ [])) refl (ap m.Done (sym e)) tt c (subst (λ z. Stands (state_of z g) bytes rest) is h)

whole : (d : List (List Literal)) → AreClauses d → run line_moves gives_read (dnf_text d ++ t.LineFeed ∷ []) ≡ read d []
whole d a = ap (run line_moves gives_read) (sym (append-nil (dnf_text d ++ t.LineFeed ∷ []))) ∙ complete d [] a

-- the bytes of the line `gives true`
pub true_cut : (text word rest : List ℕ) → word ≡ codes "gives true\n" → text ≡ word ++ rest → Cuts (gives_text ([] ∷ [])) text rest
true_cut text word rest is e =
    subst (λ z. Cuts (gives_text ([] ∷ [])) z rest) (sym (e ∙ ap (λ w. w ++ rest) is))
    (cut_back (gives_text ([] ∷ [])) rest (tt, (λ _. refl), (tt, (λ h. absurd (cc)), (tt, (λ _. refl), (tt, (λ h. absurd (cc)), tt)))))

-- no text goes on so
none_goes_on : (z : GivenState) (x : Token) (inner more : List Token) (d : List (List Literal)) → AreClauses d → ((xs : List Token) → run line_moves gives_read (inner ++ xs) ≡ run line_moves z xs) → moves z x ≡ m.Bad
    → gives_text d ≡ (t.Gives ∷ inner ++ x ∷ []) ++ more → ⊥
none_goes_on z x inner more d a comes e q =
    let tail : dnf_text d ++ t.LineFeed ∷ [] ≡ (inner ++ x ∷ []) ++ more = cc in
    let p = sym (whole d a) ∙ ap (run line_moves gives_read) (tail ∙ append_assoc inner (x ∷ []) more) ∙ comes (x ∷ more) ∙ run_bad line_moves z x more (ap as_step e) in
    absurd (cc)

none_ends : (z : GivenState) (inner : List Token) (d : List (List Literal)) → AreClauses d → ((xs : List Token) → run line_moves gives_read (inner ++ xs) ≡ run line_moves z xs) → gives_text d ≡ t.Gives ∷ inner → ⊥
none_ends z inner d a comes q =
    let tail : dnf_text d ++ t.LineFeed ∷ [] ≡ inner = cc in
    let p = sym (whole d a) ∙ ap (run line_moves gives_read) (tail ∙ sym (append-nil inner)) ∙ comes [] ∙ run_nil line_moves z in
    absurd (cc)

-- where no token that comes leads on
pub stuck : (z : GivenState) (bytes rest : List ℕ) (left : ℕ) → length rest ≡ left → Stands z bytes rest → ((x : Token) (more : List ℕ) → Cuts (x ∷ []) rest more → moves z x ≡ m.Bad)
    → IsRefusedAt AreClauses gives_text bytes left
stuck z bytes rest left e h bad = record {
  back = rest;
  first = record {
    front = said z;
    cut = h.cut;
    begins = begun z h.fine;
    none = λ x more c b. none_goes_on z x h.inner b.more b.value b.is_value h.comes (bad x more c) (b.parts ∙ ap (λ w. (w ++ x ∷ []) ++ b.more) h.is);
  };
  inside = λ d a q. none_ends z h.inner d a h.comes (q ∙ h.is);
  place = e;
}

same_run : (u v : List (List Literal)) (x y : List Token) → AreClauses u → AreClauses v → (dnf_text u ++ t.LineFeed ∷ []) ++ x ≡ (dnf_text v ++ t.LineFeed ∷ []) ++ y → (u ≡ v) × (x ≡ y)
same_run u v x y a b e = let p = sym (complete u x a) ∙ ap (run line_moves gives_read) e ∙ complete v y b in (cc, cc)

-- the line of no constraint begins that of another
pub gives_apart : IsApart AreClauses gives_text
gives_apart u v more a b e =
    let tail : dnf_text u ++ t.LineFeed ∷ [] ≡ (dnf_text v ++ t.LineFeed ∷ []) ++ more = cc in
    let q = same_run u v [] more a b (append-nil (dnf_text u ++ t.LineFeed ∷ []) ∙ tail) in
    (q.0, sym q.1)

same_token : (rest : List ℕ) (x y : Token) (more other : List ℕ) → Cuts (x ∷ []) rest more → Cuts (y ∷ []) rest other → x ≡ y
same_token rest x y more other c d = ap token_of (some_same (record { token = x; len = c.0 }) (record { token = y; len = d.0 }) (sym c.1 ∙ d.1))
  where
    token_of : Piece → Token
    token_of p = p.token

-- the bytes end inside the line
pub at_end : (z : GivenState) (bytes rest : List ℕ) → rest ≡ [] → Stands z bytes rest → IsRefusedAt AreClauses gives_text bytes 0
at_end z bytes rest e h = stuck z bytes rest 0 (ap length e) h (λ x more c. absurd (nothing_cut rest x more e c))
  where
    nothing_cut : (rest : List ℕ) (x : Token) (more : List ℕ) → rest ≡ [] → Cuts (x ∷ []) rest more → ⊥
    nothing_cut [] x more e c = let h = c.1 in cc
    nothing_cut (b ∷ rest) x more e c = cc

-- the token that comes is refused
pub at_bad : (z : GivenState) (x : Token) (bytes rest more : List ℕ) (move : GivenMove) → move ≡ moves z x → move ≡ m.Bad → Cuts (x ∷ []) rest more → Stands z bytes rest → IsRefusedAt AreClauses gives_text bytes (length rest)
at_bad z x bytes rest more move p q c h = stuck z bytes rest (length rest) refl h (λ y other d. subst (λ w. moves z w ≡ m.Bad) (same_token rest x y more other c d) (sym p ∙ q))

-- another token stands where the word has to
pub no_gives : (bytes : List ℕ) (fault : Refusal) → RefusesNext (λ y. y ≡ t.Gives) bytes fault → RefusesProof AreClauses gives_text bytes fault
no_gives bytes fault lacks = no_word AreClauses (λ d. dnf_text d ++ t.LineFeed ∷ []) t.Gives [] bytes fault tt lacks
