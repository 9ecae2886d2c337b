-- What the state of the machine says of the tokens before it, and how each token goes on.
use Rattle.std.proofs.Common.{ℕ, suc, ◌≡◌, ◌+◌, List, [], ◌∷◌, ◌++◌, length, refl, sym, ap, subst, ◌∙◌, arith, append_assoc, append-nil, true}
use Rattle.smt_tokens.specs.declared.terminals.Terminal.TheVariants as t
use Rattle.smt_tokens.specs.declared.terminals.Lexeme.{Lexeme}
use Rattle.smt_lists.specs.declared.tree.Sexp.{Sexp}
use Rattle.smt_lists.specs.declared.tree.Sexp.TheVariants as s
use Rattle.smt_lists.specs.declared.reading.Outer.{Outer}
use Rattle.smt_lists.specs.Atoms.{is_atom, atom_of}
use Rattle.smt_lists.specs.Grammar.{SaysSexp, atom, list, SayAll, nothing, more, IsList, IsScript}
use Rattle.smt_lists.specs.First.{BeginsScript}
use Rattle.smt_lists.proofs.Complete.{all_more}

-- The tokens are those of the lists that are open and of the members so far; n levels are left inside the innermost list.
abbrev pub Reached : List ℕ → ℕ → List Outer → List Sexp → List Lexeme → Type 0
Reached b n [] es front = IsScript b n es front
Reached b n (o ∷ os) es front =
    (outside inner : List Lexeme) × (x : Lexeme) × (front ≡ outside ++ x ∷ inner) × (x.terminal ≡ t.Open) × (x.at ≡ o.at)
    × Reached b (suc n) os o.before outside × SayAll b n es inner

-- one more member inside a list
pub member_reached : (b : List ℕ) (n : ℕ) (o : Outer) (os : List Outer) (es : List Sexp) (e : Sexp) (front back : List Lexeme) → Reached b n (o ∷ os) es front → SaysSexp b n e back
    → Reached b n (o ∷ os) (es ++ e ∷ []) (front ++ back)
member_reached b n o os es e front back r one =
    (r.0, r.1 ++ back, r.2, ap (λ z. z ++ back) r.3 ∙ append_assoc r.0 (r.2 ∷ r.1) back, r.4, r.5, r.6, more es e r.1 back r.7 one refl refl)

-- one more list
list_reached : (b : List ℕ) (n : ℕ) (os : List Outer) (es : List Sexp) (e : Sexp) (front back : List Lexeme) → Reached b n os es front → SaysSexp b n e back → IsList e
    → Reached b n os (es ++ e ∷ []) (front ++ back)
list_reached b n [] es e front back r one l = record { said = more es e front back r.said one refl refl; lists = all_more IsList es e r.lists l }
list_reached b n (o ∷ os) es e front back r one l = member_reached b n o os es e front back r one

pub atom_reached : (b : List ℕ) (n : ℕ) (o : Outer) (os : List Outer) (es : List Sexp) (front : List Lexeme) (x : Lexeme) → Reached b n (o ∷ os) es front → is_atom x.terminal ≡ true
    → Reached b n (o ∷ os) (es ++ s.Atom (atom_of b x) ∷ []) (front ++ x ∷ [])
atom_reached b n o os es front x r a = member_reached b n o os es (s.Atom (atom_of b x)) front (x ∷ []) r (atom x a refl refl)

pub open_reached : (b : List ℕ) (n : ℕ) (os : List Outer) (es : List Sexp) (front : List Lexeme) (x : Lexeme) → Reached b (suc n) os es front → x.terminal ≡ t.Open
    → Reached b n (record { at = x.at; before = es } ∷ os) [] (front ++ x ∷ [])
open_reached b n os es front x r o = (front, [], x, refl, o, refl, r, nothing refl refl)

pub close_reached : (b : List ℕ) (n : ℕ) (o : Outer) (os : List Outer) (es : List Sexp) (front : List Lexeme) (y : Lexeme) → Reached b n (o ∷ os) es front → y.terminal ≡ t.Close
    → Reached b (suc n) os (o.before ++ s.List o.at es ∷ []) (front ++ y ∷ [])
close_reached b n o os es front y r c =
    let one : SaysSexp b (suc n) (s.List o.at es) (r.2 ∷ r.1 ++ y ∷ []) = list n r.2 y es r.1 r.4 r.7 c refl (ap (λ z. s.List z es) (sym r.5)) refl in
    let parts : r.0 ++ (r.2 ∷ r.1 ++ y ∷ []) ≡ front ++ y ∷ [] = sym (ap (λ z. z ++ y ∷ []) r.3 ∙ append_assoc r.0 (r.2 ∷ r.1) (y ∷ [])) in
    subst (λ z. Reached b (suc n) os (o.before ++ s.List o.at es ∷ []) z) parts
    (list_reached b (suc n) os o.before (s.List o.at es) r.0 (r.2 ∷ r.1 ++ y ∷ []) r.6 one (record { at = o.at; members = es; is = refl }))

-- closing all lists makes a script
pub begun : (b : List ℕ) (n k : ℕ) (os : List Outer) (es : List Sexp) (front : List Lexeme) → k ≡ length os + n → Reached b n os es front → BeginsScript b k front
begun b n k [] es front h r =
    let same : n ≡ k = omega (arith, h) in
    record { more = []; lists = es; is_script = subst (λ z. IsScript b z es (front ++ [])) same (subst (λ z. IsScript b n es z) (sym (append-nil front)) r) }
begun b n k (o ∷ os) es front h r =
    let y : Lexeme = record { at = 0; len = 0; terminal = t.Close } in
    let same : k ≡ length os + suc n = omega (arith, h) in
    let go = begun b (suc n) k os (o.before ++ s.List o.at es ∷ []) (front ++ y ∷ []) same (close_reached b n o os es front y r refl) in
    record { more = y ∷ go.more; lists = go.lists; is_script = subst (λ z. IsScript b k go.lists z) (append_assoc front (y ∷ []) go.more) go.is_script }

mutual
  wider_one : (b : List ℕ) (n : ℕ) (e : Sexp) (tokens : List Lexeme) → SaysSexp b n e tokens → SaysSexp b (suc n) e tokens
  wider_one b n e tokens (atom x a is parts) = atom x a is parts
  wider_one b n e tokens (list m x y es inner o all c levels is parts) = list (suc m) x y es inner o (wider b m es inner all) c (ap suc levels) is parts

  wider : (b : List ℕ) (n : ℕ) (es : List Sexp) (tokens : List Lexeme) → SayAll b n es tokens → SayAll b (suc n) es tokens
  wider b n es tokens (nothing is parts) = nothing is parts
  wider b n es tokens (more before e front back all one is parts) = more before e front back (wider b n before front all) (wider_one b n e back one) is parts

-- one level more may be left
pub wider_reached : (b : List ℕ) (n : ℕ) (os : List Outer) (es : List Sexp) (front : List Lexeme) → Reached b n os es front → Reached b (suc n) os es front
wider_reached b n [] es front r = record { said = wider b n es front r.said; lists = r.lists }
wider_reached b n (o ∷ os) es front r = (r.0, r.1, r.2, r.3, r.4, r.5, wider_reached b (suc n) os o.before r.0 r.6, wider b n es r.1 r.7)
