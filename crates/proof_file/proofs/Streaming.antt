-- Lines that come one after another.
use Rattle.std.proofs.Common.{ℕ, ◌≡◌, ◌<◌, List, [], ◌∷◌, ◌++◌, length, refl, sym, ap, subst, ◌∙◌, arith, append-nil, Option, inl, inr}
use Rattle.base_budget.specs.declared.log.ElimLog.{ElimLog}
use Rattle.proof_tree.specs.declared.node.Conclusion.{Conclusion}
use Rattle.proof_tree.specs.Proof.{Proof}
use Rattle.proof_tokens.specs.declared.tokens.Token.{Token}
use Rattle.proof_tokens.specs.Reading.{Cuts}
use Rattle.proof_tokens.proofs.Apart.{Meets, meets, one, not_refused}
use Rattle.proof_grammar.specs.declared.lines.TextLine.{TextLine}
use Rattle.proof_grammar.specs.declared.lines.TextLine.TheVariants as w
use Rattle.proof_grammar.specs.declared.lines.Owed.{Owed}
use Rattle.proof_grammar.specs.declared.lines.Owed.TheVariants as o
use Rattle.proof_grammar.specs.declared.text.Fault.TheVariants as f
use Rattle.proof_grammar.specs.Faults.{IsTooDeep, RefusesLine}
use Rattle.proof_grammar.specs.Lines.{line_text, tokens_of, lines, proof_lines}
use Rattle.proof_grammar.specs.Owed.{Pays, owes, LeadsOwed, OwesNothing, Any, Shallow, start, tree_owed}
use Rattle.proof_grammar.specs.declared.walk.Walk.{Walk}
use Rattle.proof_grammar.specs.Expansion.{expanded, expansion}
use Rattle.proof_grammar.specs.Shaped.{IsTextOfProof}
use Rattle.proof_grammar.specs.Stands.{IsOpened}
use Rattle.proof_grammar.specs.Walks.{owed_of, IsInner}
use Rattle.proof_grammar.specs.Refusals.{HoldsSome}
use Rattle.proof_file.specs.declared.source.Line.{Line}
use Rattle.proof_file.specs.Told.{TellsLine}
use Rattle.proof_file.specs.Coming.{Coming, HasNone, HoldsAll, IsFull, ended, meant}
use Rattle.proof_grammar.proofs.LinesApart.{line_apart}
use Rattle.proof_grammar.proofs.Leading.{pays_any, leads_any, same_lines}
use Rattle.proof_grammar.proofs.Expanding.{expanded_append}
use Rattle.proof_grammar.proofs.Inner.{inner_line}
use Rattle.proof_grammar.proofs.Walking.{log_parts}
use Rattle.proof_grammar.proofs.Deep.{parted}

-- The opening.

after_opening : (n m : ℕ) (es ls : List TextLine) → w.Head 1 ∷ w.Charges n ∷ es ≡ w.Head 1 ∷ w.Charges m ∷ ls → (n ≡ m) × (es ≡ ls)
after_opening n m es ls e = (cc, cc)

whole_behind : (Level : ℕ → Type 0) (os ws : List Owed) (ls rest : List TextLine) → LeadsOwed Level os ls ws → OwesNothing Level os (ls ++ rest) → OwesNothing Level ws rest
whole_behind Level os ws [] rest p q = subst (λ z. OwesNothing Level z rest) p q
whole_behind Level [] ws (l ∷ ls) rest p q = absurd p
whole_behind Level (x ∷ os) ws (l ∷ ls) rest p q = whole_behind Level (owes x l ++ os) ws ls rest p.1 q.1

no_bytes : (u : List Token) (rest : List ℕ) → Cuts u [] rest → (u ≡ []) × (rest ≡ [])
no_bytes [] rest c = (refl, sym c)
no_bytes (x ∷ u) rest c = let e = c.1 in absurd (cc)

-- the text of whole lines goes on after their opening
goes_on : (before ls : List TextLine) (text rest : List ℕ) → Meets (tokens_of ls) (tokens_of before) [] rest → (u : List Token) × (tokens_of ls ≡ tokens_of before ++ u) × Cuts u rest []
goes_on before ls text rest (inl q) = q
goes_on before ls text rest (inr q) =
    let n = no_bytes q.0 rest q.2 in ([], sym (q.1 ∙ ap (λ z. tokens_of ls ++ z) n.0 ∙ append-nil (tokens_of ls)) ∙ sym (append-nil (tokens_of before)), n.1)

coming_by : (n m : ℕ) (x : Proof) (c : Conclusion) (ps : List ElimLog) (text rest : List ℕ) (walk : Walk) → owed_of walk ≡ tree_owed (length ps) → walk.parts ≡ length ps → IsTextOfProof text n x c → IsOpened ps m text rest → HoldsAll text m ps walk rest
coming_by n m x c ps text rest walk owed many h s =
    let g = goes_on s.before h.lines text rest (meets (tokens_of h.lines) (tokens_of s.before) text [] rest h.cut s.cut) in
    let b = same_lines s.before h.lines start (tree_owed (length ps)) g.0 (leads_any start (tree_owed (length ps)) s.before s.leads) (leads_any start [] h.lines h.whole) g.1 in
    let is : w.Head 1 ∷ w.Charges m ∷ expanded ps b.rest ≡ proof_lines n x c =
    ap (λ z. z ++ expanded ps b.rest) (sym s.is) ∙ ap (λ z. expansion s.before ++ expanded z b.rest) (sym s.has) ∙ sym (expanded_append [] s.before b.rest) ∙ ap expansion (sym b.is) ∙ h.is in
    let q = after_opening m n (expanded ps b.rest) (lines x ++ w.End c ∷ []) is in (
      x,
      c,
      subst (λ k. IsTextOfProof text k x c) (sym q.0) h,
      record {
        many = many;
        written = b.rest;
        whole = subst (λ z. OwesNothing Shallow z b.rest) (sym owed) (whole_behind Shallow start (tree_owed (length ps)) s.before b.rest s.leads (subst (OwesNothing Shallow start) b.is h.whole));
        cut = subst (λ z. Cuts z rest []) (sym b.text) g.2;
        is = q.1;
      },
    )

-- after the opening of a proof's text come the lines of its tree
pub coming_all : (n : ℕ) (ps : List ElimLog) (text rest : List ℕ) (walk : Walk) → owed_of walk ≡ tree_owed (length ps) → walk.parts ≡ length ps → HoldsSome text n → IsOpened ps n text rest → HoldsAll text n ps walk rest
coming_all n ps text rest walk owed many h s = coming_by n n h.0 h.1 ps text rest walk owed many h.2 s

-- Line after line.

inner_meaning : (ps : List ElimLog) (l : TextLine) (ls : List TextLine) → IsInner l → expanded ps (l ∷ ls) ≡ meant ps (ended ps l) ∷ expanded ps ls
inner_meaning ps (w.Head n) ls i = absurd i
inner_meaning ps (w.Parts n) ls i = absurd i
inner_meaning ps (w.Part log) ls i = absurd i
inner_meaning ps (w.Charges n) ls i = absurd i
inner_meaning ps (w.Row p k) ls i = refl
inner_meaning ps (w.Log log) ls i = refl
inner_meaning ps (w.LogOf n) ls i = refl
inner_meaning ps (w.Gives d) ls i = refl
inner_meaning ps (w.End c) ls i = refl
inner_meaning ps (w.EndOf n) ls i = refl

-- the line that comes as it is written, and what comes after it
pub record Came (ps : List ElimLog) (x : Owed) (os : List Owed) (bytes : List ℕ) (l : TextLine) (ls : List TextLine) : Type 0 where
  pub line : TextLine
  pub pays : Pays Shallow x line
  pub means : l ≡ meant ps (ended ps line)
  pub rest : List ℕ
  pub cut : Cuts (line_text line) bytes rest
  pub others : List TextLine
  pub whole : OwesNothing Shallow (owes x line ++ os) others
  pub others_cut : Cuts (tokens_of others) rest []
  pub others_mean : expanded ps others ≡ ls

came_by : (ps : List ElimLog) (walk : Walk) (x : Owed) (os : List Owed) (bytes : List ℕ) (l : TextLine) (ls written : List TextLine) → owed_of walk ≡ x ∷ os → OwesNothing Shallow (x ∷ os) written → Cuts (tokens_of written) bytes []
    → expanded ps written ≡ l ∷ ls → Came ps x os bytes l ls
came_by ps walk x os bytes l ls [] e p c is = absurd (let q : x ∷ os ≡ [] = p in cc)
came_by ps walk x os bytes l ls (m ∷ ms) e p c is =
    let k = parted (line_text m) (tokens_of ms) bytes [] c in let q = sym (inner_meaning ps m ms (inner_line walk x os m e p.0)) ∙ is in
    record { line = m; pays = p.0; means = cc; rest = k.mid; cut = k.first; others = ms; whole = p.1; others_cut = k.second; others_mean = cc }

pub came : (ps : List ElimLog) (walk : Walk) (x : Owed) (os : List Owed) (bytes : List ℕ) (l : TextLine) (ls : List TextLine) → owed_of walk ≡ x ∷ os → Coming ps walk bytes (l ∷ ls) → Came ps x os bytes l ls
came ps walk x os bytes l ls e h = came_by ps walk x os bytes l ls h.written e (subst (λ z. OwesNothing Shallow z h.written) e h.whole) h.cut h.is

same_line : (ps : List ElimLog) (x : Owed) (os : List Owed) (bytes rest : List ℕ) (l m : TextLine) (ls : List TextLine) → Pays Shallow x m → Cuts (line_text m) bytes rest → (h : Came ps x os bytes l ls) → (m ≡ h.line) × (rest ≡ h.rest)
same_line ps x os bytes rest l m ls p c h = one (Pays Any x) line_text (line_apart x) m h.line bytes rest h.rest (pays_any x m p) (pays_any x h.line h.pays) c h.cut

-- a conclusion with its entries pays as the one that uses a part does, and owes nothing either
pub pays_ended : (ps : List ElimLog) (x : Owed) (m : TextLine) → Pays Shallow x m → Pays Shallow x (ended ps m)
pays_ended ps (o.End k) (w.EndOf i) p = tt
pays_ended ps o.Head (w.EndOf i) p = absurd p
pays_ended ps o.Parts (w.EndOf i) p = absurd p
pays_ended ps o.Part (w.EndOf i) p = absurd p
pays_ended ps (o.Charges k) (w.EndOf i) p = absurd p
pays_ended ps (o.Node j k) (w.EndOf i) p = absurd p
pays_ended ps (o.Log k) (w.EndOf i) p = absurd p
pays_ended ps o.Gives (w.EndOf i) p = absurd p
pays_ended ps x (w.Head n) p = p
pays_ended ps x (w.Parts n) p = p
pays_ended ps x (w.Part log) p = p
pays_ended ps x (w.Charges n) p = p
pays_ended ps x (w.Row q k) p = p
pays_ended ps x (w.Log log) p = p
pays_ended ps x (w.LogOf i) p = p
pays_ended ps x (w.Gives d) p = p
pays_ended ps x (w.End c) p = p

owes_ended : (ps : List ElimLog) (x : Owed) (m : TextLine) → Pays Shallow x m → owes x (ended ps m) ≡ owes x m
owes_ended ps (o.End k) (w.EndOf i) p = refl
owes_ended ps o.Head (w.EndOf i) p = absurd p
owes_ended ps o.Parts (w.EndOf i) p = absurd p
owes_ended ps o.Part (w.EndOf i) p = absurd p
owes_ended ps (o.Charges k) (w.EndOf i) p = absurd p
owes_ended ps (o.Node j k) (w.EndOf i) p = absurd p
owes_ended ps (o.Log k) (w.EndOf i) p = absurd p
owes_ended ps o.Gives (w.EndOf i) p = absurd p
owes_ended ps x (w.Head n) p = refl
owes_ended ps x (w.Parts n) p = refl
owes_ended ps x (w.Part log) p = refl
owes_ended ps x (w.Charges n) p = refl
owes_ended ps x (w.Row q k) p = refl
owes_ended ps x (w.Log log) p = refl
owes_ended ps x (w.LogOf i) p = refl
owes_ended ps x (w.Gives d) p = refl
owes_ended ps x (w.End c) p = refl

use_within : (ps : List ElimLog) (walk : Walk) (x : Owed) (os : List Owed) (i : ℕ) → owed_of walk ≡ x ∷ os → walk.parts ≡ length ps → Pays Shallow x (w.LogOf i) → i < length ps
use_within ps walk (o.Log k) os i e many p = let q = log_parts walk.parts k walk.place walk.outer os e in omega (arith, q, many, p)
use_within ps walk o.Head os i e many p = absurd p
use_within ps walk o.Parts os i e many p = absurd p
use_within ps walk o.Part os i e many p = absurd p
use_within ps walk (o.Charges k) os i e many p = absurd p
use_within ps walk (o.Node j k) os i e many p = absurd p
use_within ps walk o.Gives os i e many p = absurd p
use_within ps walk (o.End k) os i e many p = absurd p

-- a line that is read after the opening is full
full_is : (ps : List ElimLog) (walk : Walk) (x : Owed) (os : List Owed) (m : TextLine) → owed_of walk ≡ x ∷ os → walk.parts ≡ length ps → Pays Shallow x m → IsInner m → IsFull ps (ended ps m)
full_is ps walk x os (w.Head n) e many p i = absurd i
full_is ps walk x os (w.Parts n) e many p i = absurd i
full_is ps walk x os (w.Part log) e many p i = absurd i
full_is ps walk x os (w.Charges n) e many p i = absurd i
full_is ps walk x os (w.Row q k) e many p i = tt
full_is ps walk x os (w.Log log) e many p i = tt
full_is ps walk x os (w.LogOf n) e many p i = use_within ps walk x os n e many p
full_is ps walk x os (w.Gives d) e many p i = tt
full_is ps walk x os (w.End c) e many p i = tt
full_is ps walk x os (w.EndOf n) e many p i = tt

deep_no : (x : Owed) (l : TextLine) (bytes : List ℕ) → Pays Shallow x l → IsTooDeep x bytes → ⊥
deep_no (o.Node j m) (w.Row q k) bytes p d = let low = p.0 in let high = d.0 in omega arith
deep_no (o.Node j m) _ bytes p d = p
deep_no _ l bytes p d = d

-- where nothing is owed nothing comes
pub nothing_owed : (ps : List ElimLog) (walk : Walk) (bytes : List ℕ) (l : TextLine) (ls : List TextLine) → owed_of walk ≡ [] → Coming ps walk bytes (l ∷ ls) → ⊥
nothing_owed ps walk bytes l ls e h = by h.written (subst (λ z. OwesNothing Shallow z h.written) e h.whole) h.is
  where
    by : (written : List TextLine) → OwesNothing Shallow [] written → expanded ps written ≡ l ∷ ls → ⊥
    by [] p is = cc
    by (m ∷ ms) p is = p

pub something_owed : (ps : List ElimLog) (walk : Walk) (x : Owed) (os : List Owed) (bytes : List ℕ) → owed_of walk ≡ x ∷ os → Coming ps walk bytes [] → ⊥
something_owed ps walk x os bytes e h = by h.written (subst (λ z. OwesNothing Shallow z h.written) e h.whole) h.is
  where
    by : (written : List TextLine) → OwesNothing Shallow (x ∷ os) written → expanded ps written ≡ [] → ⊥
    by [] p is = let q : x ∷ os ≡ [] = p in cc
    by (m ∷ ms) p is = let q = sym (inner_meaning ps m ms (inner_line walk x os m e p.0)) ∙ is in cc

-- a line that is refused stands nowhere
pub syntax_none : (x : Owed) (bytes : List ℕ) (left : ℕ) → RefusesLine x bytes (f.Syntax left) → HasNone x bytes
syntax_none x bytes left r l rest p c = not_refused (Pays Any x) line_text (line_apart x) l bytes rest left (pays_any x l p) c r.0

pub deep_none : (x : Owed) (bytes : List ℕ) (left : ℕ) → RefusesLine x bytes (f.Deep left) → HasNone x bytes
deep_none x bytes left r l rest p c = deep_no x l bytes p r.0

pub none_comes : (ps : List ElimLog) (walk : Walk) (x : Owed) (os : List Owed) (bytes : List ℕ) (l : TextLine) (ls : List TextLine) → owed_of walk ≡ x ∷ os → HasNone x bytes → Coming ps walk bytes (l ∷ ls) → ⊥
none_comes ps walk x os bytes l ls e n h = let k = came ps walk x os bytes l ls e h in n k.line k.rest k.pays k.cut

-- the line that is told is the one that comes, and the others come after it
pub told_next : (ps : List ElimLog) (walk after : Walk) (x : Owed) (os : List Owed) (bytes rest : List ℕ) (l m full : TextLine) (ls : List TextLine) (told : Option Line) (log : ElimLog) (end : Conclusion) → owed_of walk ≡ x ∷ os → Pays Shallow x m
    → Cuts (line_text m) bytes rest → full ≡ ended ps m → ((us : List Owed) → owed_of walk ≡ x ∷ us → owed_of after ≡ owes x full ++ us) → after.parts ≡ walk.parts → (IsFull ps full → TellsLine told log end (meant ps full)) → Coming ps walk bytes (l ∷ ls)
    → TellsLine told log end l × Coming ps after rest ls
told_next ps walk after x os bytes rest l m full ls told log end e p c f q many t h =
    let k = came ps walk x os bytes l ls e h in let s = same_line ps x os bytes rest l m ls p c k in
    let means : meant ps full ≡ l = ap (meant ps) (f ∙ ap (ended ps) s.0) ∙ sym k.means in (
      subst (λ z. TellsLine told log end z) means (t (subst (IsFull ps) (sym f) (full_is ps walk x os m e h.many p (inner_line walk x os m e p)))),
      record {
        many = many ∙ h.many;
        written = k.others;
        whole = subst (λ z. OwesNothing Shallow z k.others) (ap (λ z. owes x z ++ os) (sym s.0) ∙ ap (λ z. z ++ os) (sym (owes_ended ps x m p)) ∙ ap (λ z. owes x z ++ os) (sym f) ∙ sym (q os e)) k.whole;
        cut = subst (λ z. Cuts (tokens_of k.others) z []) (sym s.1) k.others_cut;
        is = k.others_mean;
      },
    )

-- how many parts the text of a walk has
abbrev pub parts_in : Walk → ℕ
parts_in walk = walk.parts
