-- Lines that lead from what is owed to what is still owed, and the first refusal of a text of lines.
use Rattle.std.proofs.Common.{ℕ, ◌≡◌, List, [], ◌∷◌, ◌++◌, refl, sym, ap, subst, ◌∙◌, append_assoc, append-nil, arith}
use Rattle.base_budget.specs.declared.log.Entry.TheVariants as step
use Rattle.sequent.specs.declared.member.Pick.TheVariants as pick
use Rattle.proof_tree.specs.declared.node.Conclusion.TheVariants.{Solution, Nothing}
use Rattle.proof_tokens.specs.declared.tokens.Token.{Token}
use Rattle.proof_tokens.specs.Reading.{Cuts, IsFirstProofRefusal, IsRefusedAt}
use Rattle.proof_tokens.proofs.Cutting.{cut_append}
use Rattle.proof_tokens.proofs.Behind.{front_same, no_text, no_end}
use Rattle.proof_grammar.specs.declared.lines.TextLine.{TextLine}
use Rattle.proof_grammar.specs.declared.lines.TextLine.TheVariants as w
use Rattle.proof_grammar.specs.declared.lines.Owed.{Owed}
use Rattle.proof_grammar.specs.declared.lines.Owed.TheVariants as o
use Rattle.proof_grammar.specs.Lines.{line_text, tokens_of}
use Rattle.proof_grammar.specs.Owed.{Pays, tree_owed, owes, LeadsOwed, OwesNothing, Any, Shallow}
use Rattle.proof_grammar.proofs.LinesApart.{line_apart}

pub tokens_append : (ls ms : List TextLine) → tokens_of (ls ++ ms) ≡ tokens_of ls ++ tokens_of ms
tokens_append [] ms = refl
tokens_append (l ∷ ls) ms = ap (λ z. line_text l ++ z) (tokens_append ls ms) ∙ sym (append_assoc (line_text l) (tokens_of ls) (tokens_of ms))

pub leads_append : (Level : ℕ → Type 0) (os ws us : List Owed) (ls ms : List TextLine) → LeadsOwed Level os ls ws → LeadsOwed Level ws ms us → LeadsOwed Level os (ls ++ ms) us
leads_append Level os ws us [] ms p q = subst (λ z. LeadsOwed Level z ms us) (sym p) q
leads_append Level [] ws us (l ∷ ls) ms p q = absurd p
leads_append Level (o ∷ os) ws us (l ∷ ls) ms p q = (p.0, leads_append Level (owes o l ++ os) ws us ls ms p.1 q)

-- one line more
pub leads_more : (Level : ℕ → Type 0) (os us : List Owed) (x : Owed) (ls : List TextLine) (l : TextLine) → LeadsOwed Level os ls (x ∷ us) → Pays Level x l → LeadsOwed Level os (ls ++ l ∷ []) (owes x l ++ us)
leads_more Level os us x ls l p q = leads_append Level os (x ∷ us) (owes x l ++ us) ls (l ∷ []) p (q, refl)

pub cut_more : (ls : List TextLine) (l : TextLine) (bytes inner rest : List ℕ) → Cuts (tokens_of ls) bytes inner → Cuts (line_text l) inner rest → Cuts (tokens_of (ls ++ l ∷ [])) bytes rest
cut_more ls l bytes inner rest c d =
    subst (λ z. Cuts z bytes rest) (ap (λ z. tokens_of ls ++ z) (sym (append-nil (line_text l))) ∙ sym (tokens_append ls (l ∷ []))) (cut_append (tokens_of ls) (line_text l) bytes inner rest c d)

pub pays_any : (x : Owed) (l : TextLine) → Pays Shallow x l → Pays Any x l
pays_any o.Head (w.Head n) h = h
pays_any o.Head _ h = absurd h
pays_any o.Parts (w.Parts n) h = h
pays_any o.Parts _ h = absurd h
pays_any o.Part (w.Part log) h = h
pays_any o.Part _ h = absurd h
pays_any (o.Charges m) (w.Charges n) h = h
pays_any (o.Charges m) _ h = absurd h
pays_any (o.Node j m) (w.Row p k) h = (tt, h.1)
pays_any (o.Node j m) _ h = absurd h
pays_any (o.Log m) (w.Log log) h = h
pays_any (o.Log m) (w.LogOf i) h = h
pays_any (o.Log m) _ h = absurd h
pays_any o.Gives (w.Gives d) h = h
pays_any o.Gives _ h = absurd h
pays_any (o.End m) (w.End c) h = h
pays_any (o.End m) (w.EndOf i) h = h
pays_any (o.End m) _ h = absurd h

pub leads_any : (os ws : List Owed) (ls : List TextLine) → LeadsOwed Shallow os ls ws → LeadsOwed Any os ls ws
leads_any os ws [] p = p
leads_any [] ws (l ∷ ls) p = absurd p
leads_any (x ∷ os) ws (l ∷ ls) p = (pays_any x l p.0, leads_any (owes x l ++ os) ws ls p.1)

-- the lines after some others of a text
pub record Behind (os ws : List Owed) (ls ms : List TextLine) (tail : List Token) : Type 0 where
  pub rest : List TextLine
  pub is : ms ≡ ls ++ rest
  pub whole : OwesNothing Any ws rest
  pub text : tokens_of rest ≡ tail

behind_more : (os ws us : List Owed) (l m : TextLine) (ls ms : List TextLine) (tail : List Token) → m ≡ l → Behind us ws ls ms tail → Behind os ws (l ∷ ls) (m ∷ ms) tail
behind_more os ws us l m ls ms tail e b = record { rest = b.rest; is = ap (λ z. z ∷ ms) e ∙ ap (λ z. l ∷ z) b.is; whole = b.whole; text = b.text }

line_nothing : (x : Owed) (l : TextLine) (tail : List Token) → Pays Any x l → [] ≡ line_text l ++ tail → ⊥
line_nothing x l tail p e = nothing_by x l p (Rattle.proof_tokens.proofs.Apart.front_nothing (line_text l) tail (sym e))
  where
    nothing_by : (x : Owed) (l : TextLine) → Pays Any x l → line_text l ≡ [] → ⊥
    nothing_by x (w.Head n) p e = cc
    nothing_by x (w.Parts n) p e = cc
    nothing_by x (w.Part log) p e = cc
    nothing_by x (w.Charges n) p e = cc
    nothing_by x (w.Row (pick.Trivial i) k) p e = cc
    nothing_by x (w.Row (pick.Alpha i) k) p e = cc
    nothing_by x (w.Row (pick.Delta i) k) p e = cc
    nothing_by x (w.Row (pick.Beta i) k) p e = cc
    nothing_by x (w.Row (pick.Gamma i) k) p e = cc
    nothing_by x (w.Row pick.Close k) p e = cc
    nothing_by x (w.Log es) p e = cc
    nothing_by x (w.LogOf i) p e = cc
    nothing_by x (w.Gives d) p e = cc
    nothing_by x (w.End (Solution vs)) p e = cc
    nothing_by x (w.End (Nothing log)) p e = cc
    nothing_by x (w.EndOf i) p e = cc

-- a whole text that begins with the tokens of some lines begins with these lines
pub same_lines : (ls ms : List TextLine) (os ws : List Owed) (tail : List Token) → LeadsOwed Any os ls ws → OwesNothing Any os ms → tokens_of ms ≡ tokens_of ls ++ tail → Behind os ws ls ms tail
same_lines [] ms os ws tail p q e = record { rest = ms; is = refl; whole = subst (λ z. OwesNothing Any z ms) p q; text = e }
same_lines (l ∷ ls) ms [] ws tail p q e = absurd p
same_lines (l ∷ ls) [] (x ∷ os) ws tail p q e = absurd (line_nothing x l (tokens_of ls ++ tail) p.0 (e ∙ append_assoc (line_text l) (tokens_of ls) tail))
same_lines (l ∷ ls) (m ∷ ms) (x ∷ os) ws tail p q e =
    let s = front_same (Pays Any x) line_text (line_apart x) m l (tokens_of ms) (tokens_of ls ++ tail) q.0 p.0 (e ∙ append_assoc (line_text l) (tokens_of ls) tail) in
    behind_more (x ∷ os) ws (owes x l ++ os) l m ls ms tail s.0 (same_lines ls ms (owes x l ++ os) ws tail p.1 (subst (λ z. OwesNothing Any (owes x z ++ os) ms) s.0 q.1) s.1)

-- whatever is owed can be paid
pub record Paid (os : List Owed) : Type 0 where
  pub lines : List TextLine
  pub whole : OwesNothing Any os lines

-- the shortest tree, and a conclusion
abbrev least_tree : List TextLine
least_tree = w.Row (pick.Trivial 0) 0 ∷ w.Gives [] ∷ w.End (Solution []) ∷ []

tree_paid : (m : ℕ) (os : List Owed) (ls : List TextLine) → OwesNothing Any os ls → OwesNothing Any (tree_owed m ++ os) (least_tree ++ ls)
tree_paid m os ls q = ((tt, ((omega arith, omega arith), refl)), (tt, (tt, q)))

charges_paid : (m : ℕ) (os : List Owed) (ls : List TextLine) → OwesNothing Any os ls → OwesNothing Any (o.Charges m ∷ os) (w.Charges 0 ∷ least_tree ++ ls)
charges_paid m os ls q = ((omega arith, omega arith), tree_paid m os ls q)

pub can_be_paid : (os : List Owed) → Paid os
can_be_paid [] = record { lines = []; whole = refl }
can_be_paid (o.Head ∷ os) = let q = can_be_paid os in record { lines = w.Head 1 ∷ w.Charges 0 ∷ least_tree ++ q.lines; whole = ((omega arith, omega arith), charges_paid 0 os q.lines q.whole) }
can_be_paid (o.Parts ∷ os) = let q = can_be_paid os in record { lines = w.Parts 0 ∷ w.Charges 0 ∷ least_tree ++ q.lines; whole = ((omega arith, omega arith), charges_paid 0 os q.lines q.whole) }
can_be_paid (o.Part ∷ os) = let q = can_be_paid os in record { lines = w.Part (record { entries = step.Exact ∷ [] }) ∷ q.lines; whole = (tt, q.whole) }
can_be_paid (o.Charges m ∷ os) = let q = can_be_paid os in record { lines = w.Charges 0 ∷ least_tree ++ q.lines; whole = charges_paid m os q.lines q.whole }
can_be_paid (o.Node j m ∷ os) = let q = can_be_paid os in record { lines = w.Row (pick.Trivial 0) 0 ∷ w.Gives [] ∷ q.lines; whole = ((tt, ((omega arith, omega arith), refl)), (tt, q.whole)) }
can_be_paid (o.Log m ∷ os) = let q = can_be_paid os in record { lines = w.Log (record { entries = [] }) ∷ q.lines; whole = (tt, q.whole) }
can_be_paid (o.Gives ∷ os) = let q = can_be_paid os in record { lines = w.Gives [] ∷ q.lines; whole = (tt, q.whole) }
can_be_paid (o.End m ∷ os) = let q = can_be_paid os in record { lines = w.End (Solution []) ∷ q.lines; whole = (tt, q.whole) }

none_behind : (x : Owed) (os : List Owed) (bytes : List ℕ) (left : ℕ) (r : IsRefusedAt (Pays Any x) line_text bytes left) (y : Token) (more : List ℕ) (rest : List TextLine) (tail : List Token) → Cuts (y ∷ []) r.back more
    → OwesNothing Any (x ∷ os) rest → tokens_of rest ≡ r.first.front ++ y ∷ tail → ⊥
none_behind x os bytes left r y more [] tail c p h = nothing_there r.first.front y tail h
  where
    nothing_there : (front : List Token) (y : Token) (tail : List Token) → [] ≡ front ++ y ∷ tail → ⊥
    nothing_there [] y tail h = cc
    nothing_there (z ∷ front) y tail h = cc
none_behind x os bytes left r y more (l ∷ ls) tail c p h = no_text (Pays Any x) line_text (line_apart x) bytes left r y more l (tokens_of ls) tail c p.0 h

none_ends : (x : Owed) (os : List Owed) (bytes : List ℕ) (left : ℕ) (r : IsRefusedAt (Pays Any x) line_text bytes left) (rest : List TextLine) → OwesNothing Any (x ∷ os) rest → tokens_of rest ≡ r.first.front → ⊥
none_ends x os bytes left r [] p h = absurd (let e : x ∷ os ≡ [] = p in cc)
none_ends x os bytes left r (l ∷ ls) p h = no_end (Pays Any x) line_text (line_apart x) bytes left r l (tokens_of ls) p.0 h

regrouped : (a b c d : List Token) → ((a ++ b) ++ c) ++ d ≡ a ++ (b ++ (c ++ d))
regrouped a b c d = simp append_assoc

regrouped_four : (a b c d : List Token) → a ++ ((b ++ c) ++ d) ≡ (a ++ b) ++ (c ++ d)
regrouped_four a b c d = simp append_assoc

text_goes_on : (start os : List Owed) (x : Owed) (ls : List TextLine) (bytes inner : List ℕ) (left : ℕ) → LeadsOwed Any start ls (x ∷ os) → (r : IsRefusedAt (Pays Any x) line_text inner left)
    → (ms : List TextLine) → OwesNothing Any start ms → tokens_of ms ≡ tokens_of ls ++ r.first.front → ⊥
text_goes_on start os x ls bytes inner left p r ms i e =
    let s = same_lines ls ms start (x ∷ os) r.first.front p i e in none_ends x os inner left r s.rest s.whole s.text

-- a text that is refused inside a line
pub record TextRefused (start : List Owed) (bytes back : List ℕ) : Type 0 where
  pub first : IsFirstProofRefusal (OwesNothing Any start) tokens_of bytes back
  pub ends : (ms : List TextLine) → OwesNothing Any start ms → tokens_of ms ≡ first.front → ⊥

first_refused : (start os : List Owed) (x : Owed) (ls : List TextLine) (bytes inner : List ℕ) (left : ℕ) → LeadsOwed Any start ls (x ∷ os) → Cuts (tokens_of ls) bytes inner → (r : IsRefusedAt (Pays Any x) line_text inner left)
    → (f : IsFirstProofRefusal (OwesNothing Any start) tokens_of bytes r.back) × (f.front ≡ tokens_of ls ++ r.first.front)
first_refused start os x ls bytes inner left p c r =
    let b = r.first.begins in let more = can_be_paid (owes x b.value ++ os) in (
      record {
        front = tokens_of ls ++ r.first.front;
        cut = cut_append (tokens_of ls) r.first.front bytes inner r.back c r.first.cut;
        begins = record {
          value = ls ++ b.value ∷ more.lines;
          is_value = leads_append Any start (x ∷ os) [] ls (b.value ∷ more.lines) p (b.is_value, more.whole);
          more = b.more ++ tokens_of more.lines;
          parts = tokens_append ls (b.value ∷ more.lines) ∙ ap (λ z. tokens_of ls ++ (z ++ tokens_of more.lines)) b.parts ∙ regrouped_four (tokens_of ls) r.first.front b.more (tokens_of more.lines);
        };
        none = λ y rest d g.
            let s = same_lines ls g.value start (x ∷ os) (r.first.front ++ y ∷ g.more) p g.is_value (g.parts ∙ regrouped (tokens_of ls) r.first.front (y ∷ []) g.more) in
            none_behind x os inner left r y rest s.rest g.more d s.whole s.text;
      },
      refl,
    )

-- the first refusal of a line is that of the text, and the bytes do not end with a whole text there
pub text_refused : (start os : List Owed) (x : Owed) (ls : List TextLine) (bytes inner : List ℕ) (left : ℕ) → LeadsOwed Any start ls (x ∷ os) → Cuts (tokens_of ls) bytes inner → (r : IsRefusedAt (Pays Any x) line_text inner left)
    → TextRefused start bytes r.back
text_refused start os x ls bytes inner left p c r =
    let q = first_refused start os x ls bytes inner left p c r in
    record { first = q.0; ends = λ ms i e. text_goes_on start os x ls bytes inner left p r ms i (e ∙ q.1) }

nothing_behind : (rest : List TextLine) (y : Token) (tail : List Token) → OwesNothing Any [] rest → tokens_of rest ≡ y ∷ tail → ⊥
nothing_behind [] y tail p e = cc
nothing_behind (l ∷ ls) y tail p e = absurd p

-- after a whole text any token is refused
pub token_behind : (start : List Owed) (ls : List TextLine) (bytes back : List ℕ) → OwesNothing Any start ls → Cuts (tokens_of ls) bytes back → IsFirstProofRefusal (OwesNothing Any start) tokens_of bytes back
token_behind start ls bytes back p c = record {
  front = tokens_of ls;
  cut = c;
  begins = record { value = ls; is_value = p; more = []; parts = sym (append-nil (tokens_of ls)) };
  none = λ y rest d g.
      let s = same_lines ls g.value start [] (y ∷ g.more) p g.is_value (g.parts ∙ append_assoc (tokens_of ls) (y ∷ []) g.more) in
      nothing_behind s.rest y g.more s.whole s.text;
}
