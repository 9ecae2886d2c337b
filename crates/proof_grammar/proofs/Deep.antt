-- The refusal of a line is that of the text in which it stands.
use Rattle.std.proofs.Common.{ℕ, ◌≡◌, ◌≤◌, ◌<◌, List, [], ◌∷◌, ◌++◌, refl, sym, subst, ◌∙◌, arith, drop}
use Rattle.proof_tokens.specs.declared.tokens.Token.{Token}
use Rattle.proof_tokens.specs.Reading.{Cuts, IsRefusedAt}
use Rattle.proof_tokens.proofs.Apart.{one, not_refused}
use Rattle.proof_grammar.specs.declared.lines.TextLine.{TextLine}
use Rattle.proof_grammar.specs.declared.lines.TextLine.TheVariants as w
use Rattle.proof_grammar.specs.declared.lines.Owed.{Owed}
use Rattle.proof_grammar.specs.declared.lines.Owed.TheVariants as o
use Rattle.proof_grammar.specs.declared.text.Fault.{Fault}
use Rattle.proof_grammar.specs.declared.text.Fault.TheVariants as f
use Rattle.proof_grammar.specs.Faults.{BeginsNode, HasNoDeepNode, IsTooDeep, RefusesLine}
use Rattle.proof_grammar.specs.Lines.{line_text, tokens_of}
use Rattle.proof_grammar.specs.Owed.{Pays, owes, LeadsOwed, OwesNothing, start, Any, Shallow}
use Rattle.proof_grammar.specs.Refusals.{IsDeepAt, RefusesText}
use Rattle.proof_grammar.proofs.LinesApart.{line_apart}
use Rattle.proof_grammar.proofs.Leading.{pays_any, leads_any, text_refused}

-- tokens in two parts
pub record Parted (xs ys : List Token) (bytes rest : List ℕ) : Type 0 where
  pub mid : List ℕ
  pub first : Cuts xs bytes mid
  pub second : Cuts ys mid rest

pub parted : (xs ys : List Token) (bytes rest : List ℕ) → Cuts (xs ++ ys) bytes rest → Parted xs ys bytes rest
parted [] ys bytes rest c = record { mid = bytes; first = refl; second = c }
parted (x ∷ xs) ys bytes rest c = let q = parted xs ys (drop c.0 bytes) rest c.2 in record { mid = q.mid; first = (c.0, c.1, q.first); second = q.second }

-- a line that goes on from here
record Next (ws : List Owed) (bytes : List ℕ) : Type 0 where
  owed : Owed
  others : List Owed
  is : ws ≡ owed ∷ others
  line : TextLine
  pays : Pays Shallow owed line
  rest : List ℕ
  cut : Cuts (line_text line) bytes rest

-- two ways of cutting lines: they are the same, or one goes on where the other ends
data Compared (ws us : List Owed) (r s : List ℕ) : Type 0 where
  same : ws ≡ us → r ≡ s → Compared ws us r s
  first_on : Next us s → Compared ws us r s
  second_on : Next ws r → Compared ws us r s

compare : (ls ms : List TextLine) (os ws us : List Owed) (bytes r s : List ℕ) → LeadsOwed Shallow os ls ws → LeadsOwed Shallow os ms us → Cuts (tokens_of ls) bytes r → Cuts (tokens_of ms) bytes s → Compared ws us r s
compare [] [] os ws us bytes r s p q c d = same (sym p ∙ q) (sym c ∙ d)
compare [] (m ∷ ms) [] ws us bytes r s p q c d = absurd q
compare [] (m ∷ ms) (x ∷ os) ws us bytes r s p q c d =
    let k = parted (line_text m) (tokens_of ms) bytes s d in
    second_on (record { owed = x; others = os; is = sym p; line = m; pays = q.0; rest = k.mid; cut = subst (λ b. Cuts (line_text m) b k.mid) c k.first })
compare (l ∷ ls) ms [] ws us bytes r s p q c d = absurd p
compare (l ∷ ls) [] (x ∷ os) ws us bytes r s p q c d =
    let k = parted (line_text l) (tokens_of ls) bytes r c in
    first_on (record { owed = x; others = os; is = sym q; line = l; pays = p.0; rest = k.mid; cut = subst (λ b. Cuts (line_text l) b k.mid) d k.first })
compare (l ∷ ls) (m ∷ ms) (x ∷ os) ws us bytes r s p q c d =
    let k = parted (line_text l) (tokens_of ls) bytes r c in let j = parted (line_text m) (tokens_of ms) bytes s d in
    let e = one (Pays Any x) line_text (line_apart x) m l bytes j.mid k.mid (pays_any x m q.0) (pays_any x l p.0) j.first k.first in
    compare ls ms (owes x l ++ os) ws us k.mid r s p.1 (subst (λ z. LeadsOwed Shallow (owes x z ++ os) ms us) e.0 q.1) k.second (subst (λ b. Cuts (tokens_of ms) b s) e.1 j.second)

too_deep : (j m : ℕ) (l : TextLine) → 2000 < j → Pays Shallow (o.Node j m) l → ⊥
too_deep j m (w.Row q k) h p = let low = p.0 in omega arith
too_deep j m _ h p = p

on_deep : (j m : ℕ) (ws us : List Owed) (s : List ℕ) → 2000 < j → us ≡ o.Node j m ∷ ws → Next us s → ⊥
on_deep j m ws us s d e n = let h : n.owed ≡ o.Node j m = (let q = sym n.is ∙ e in cc) in too_deep j m n.line d (subst (λ x. Pays Shallow x n.line) h n.pays)

whole_by : (ws : List Owed) (r : List ℕ) → Next [] r → ⊥
whole_by ws r n = let e = n.is in cc

deep_whole : (j m : ℕ) (us owed : List Owed) (r s : List ℕ) → 2000 < j → us ≡ o.Node j m ∷ owed → Compared [] us r s → ⊥
deep_whole j m us owed r s d e (same p q) = let h = p ∙ e in cc
deep_whole j m us owed r s d e (first_on n) = on_deep j m owed us s d e n
deep_whole j m us owed r s d e (second_on n) = whole_by owed r n

-- the lines of a whole text have no node that stands too deep
pub none_deep : (ls : List TextLine) (bytes rest : List ℕ) → OwesNothing Shallow start ls → Cuts (tokens_of ls) bytes rest → (deep : List ℕ) → IsDeepAt bytes deep → ⊥
none_deep ls bytes rest p c deep d = deep_whole d.level d.parts (o.Node d.level d.parts ∷ d.owed) d.owed rest deep d.too_deep refl (compare ls d.before start [] (o.Node d.level d.parts ∷ d.owed) bytes rest deep p d.leads c d.cut)

deep_same : (j k m n : ℕ) (ws us : List Owed) (r s : List ℕ) → 2000 < j → 2000 < k → Compared (o.Node j m ∷ ws) (o.Node k n ∷ us) r s → r ≡ s
deep_same j k m n ws us r s d e (same p q) = q
deep_same j k m n ws us r s d e (first_on x) = absurd (on_deep k n us (o.Node k n ∷ us) s e refl x)
deep_same j k m n ws us r s d e (second_on x) = absurd (on_deep j m ws (o.Node j m ∷ ws) r d refl x)

-- one node is the first that stands too deep
pub one_deep : (bytes r s : List ℕ) → IsDeepAt bytes r → IsDeepAt bytes s → r ≡ s
one_deep bytes r s d e =
    deep_same d.level e.level d.parts e.parts d.owed e.owed r s d.too_deep e.too_deep
    (compare d.before e.before start (o.Node d.level d.parts ∷ d.owed) (o.Node e.level e.parts ∷ e.owed) bytes r s d.leads e.leads d.cut e.cut)

same_owed : (j m : ℕ) (x : Owed) (os owed : List Owed) (inner deep : List ℕ) → 2000 < j → x ∷ os ≡ o.Node j m ∷ owed → inner ≡ deep → HasNoDeepNode x inner → BeginsNode deep → ⊥
same_owed j m x os owed inner deep d e q s b =
    let h : x ≡ o.Node j m = cc in
    let low : j ≤ 2000 = subst (λ z. HasNoDeepNode z inner) h s (subst BeginsNode (sym q) b) in omega arith

taken_by : (x : Owed) (os : List Owed) (inner : List ℕ) (left : ℕ) → IsRefusedAt (Pays Any x) line_text inner left → Next (x ∷ os) inner → ⊥
taken_by x os inner left r n =
    let h : n.owed ≡ x = (let q = n.is in cc) in
    not_refused (Pays Any x) line_text (line_apart x) n.line inner n.rest left (pays_any x n.line (subst (λ z. Pays Shallow z n.line) h n.pays)) n.cut r

deep_line : (j m : ℕ) (x : Owed) (os us owed : List Owed) (inner deep : List ℕ) (left : ℕ) → 2000 < j → us ≡ o.Node j m ∷ owed → HasNoDeepNode x inner → IsRefusedAt (Pays Any x) line_text inner left → BeginsNode deep → Compared (x ∷ os) us inner deep → ⊥
deep_line j m x os us owed inner deep left d e s r b (same p q) = same_owed j m x os owed inner deep d (p ∙ e) q s b
deep_line j m x os us owed inner deep left d e s r b (first_on n) = on_deep j m owed us deep d e n
deep_line j m x os us owed inner deep left d e s r b (second_on n) = taken_by x os inner left r n

-- the first refusal of a line that is owed is that of the text
pub refused_here : (ls : List TextLine) (x : Owed) (os : List Owed) (bytes inner : List ℕ) (fault : Fault) → LeadsOwed Shallow start ls (x ∷ os) → Cuts (tokens_of ls) bytes inner → RefusesLine x inner fault → RefusesText bytes fault
refused_here ls x os bytes inner f.Memory p c r = tt
refused_here ls x os bytes inner (f.Syntax left) p c r =
    let q = text_refused start os x ls bytes inner left (leads_any start (x ∷ os) ls p) c r.0 in (
      r.0.back,
      r.0.place,
      record {
        first = q.first;
        ends = λ e ms i h. q.ends ms i h;
        shallow = λ deep d. deep_line d.level d.parts x os (o.Node d.level d.parts ∷ d.owed) d.owed inner deep left d.too_deep refl r.1 r.0 d.begins (compare ls d.before start (x ∷ os) (o.Node d.level d.parts ∷ d.owed) bytes inner deep p d.leads c d.cut);
      },
    )
refused_here ls x os bytes inner (f.Deep left) p c r = (inner, r.1, deep_at x ls os bytes inner p c r.0)
  where
    deep_at : (x : Owed) (ls : List TextLine) (os : List Owed) (bytes inner : List ℕ) → LeadsOwed Shallow start ls (x ∷ os) → Cuts (tokens_of ls) bytes inner → IsTooDeep x inner → IsDeepAt bytes inner
    deep_at (o.Node j m) ls os bytes inner p c d = record { before = ls; level = j; parts = m; owed = os; leads = p; too_deep = d.0; cut = c; begins = d.1 }
    deep_at _ ls os bytes inner p c d = absurd d
