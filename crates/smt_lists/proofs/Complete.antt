-- Whatever is a script, the machine reads.
use Rattle.std.proofs.Common.{ℕ, ◌≡◌, ◌≤◌, ◌<◌, ◌+◌, List, [], ◌∷◌, ◌++◌, length, sym, ap, subst, ◌∙◌, Ok, true, arith, append_assoc, append-nil}
use Rattle.std.specs.List.{AllByRecursion}
use Rattle.smt_tokens.specs.declared.terminals.Lexeme.{Lexeme}
use Rattle.smt_lists.specs.declared.tree.Atom.{Atom}
use Rattle.smt_lists.specs.declared.tree.Sexp.{Sexp}
use Rattle.smt_lists.specs.declared.tree.Sexp.TheVariants as s
use Rattle.smt_lists.specs.Expressions.{expr}
use Rattle.smt_lists.proofs.Folds.{expr-Atom, expr-List}
use Rattle.smt_lists.specs.declared.reading.Outer.{Outer}
use Rattle.smt_lists.specs.Atoms.{is_atom, atom_of}
use Rattle.smt_lists.specs.Grammar.{SaysSexp, atom, list, SayAll, nothing, more, IsList, IsScript}
use Rattle.smt_lists.specs.Machine.{run}
use Rattle.smt_lists.proofs.Steps.{run_open, run_close, run_atom, run_end}

pub all_front : {A : Type 0} (P : A → Type 0) (xs ys : List A) → AllByRecursion P (xs ++ ys) → AllByRecursion P xs
all_front P [] ys a = tt
all_front P (x ∷ xs) ys a = (a.0, all_front P xs ys a.1)

pub all_last : {A : Type 0} (P : A → Type 0) (xs : List A) (y : A) → AllByRecursion P (xs ++ y ∷ []) → P y
all_last P [] y a = a.0
all_last P (x ∷ xs) y a = all_last P xs y a.1

pub all_more : {A : Type 0} (P : A → Type 0) (xs : List A) (y : A) → AllByRecursion P xs → P y → AllByRecursion P (xs ++ y ∷ [])
all_more P [] y a p = (p, tt)
all_more P (x ∷ xs) y a p = (a.0, all_more P xs y a.1 p)

atom_no_list : (a : Atom) → IsList (s.Atom a) → ⊥
atom_no_list a l = let e = sym (expr-Atom a) ∙ ap expr l.is ∙ expr-List l.at l.members in absurd (cc)

-- outside all lists this has to be so
abbrev Fits : List Outer → Type 0 → Type 0
Fits [] P = P
Fits (o ∷ os) P = Unit {0}

front_fits : (os : List Outer) (es : List Sexp) (e : Sexp) → Fits os (AllByRecursion IsList (es ++ e ∷ [])) → Fits os (AllByRecursion IsList es)
front_fits [] es e f = all_front IsList es (e ∷ []) f
front_fits (o ∷ os) es e f = tt

last_fits : (os : List Outer) (es : List Sexp) (e : Sexp) → Fits os (AllByRecursion IsList (es ++ e ∷ [])) → Fits os (IsList e)
last_fits [] es e f = all_last IsList es e f
last_fits (o ∷ os) es e f = tt

atom_read : (b : List ℕ) (most end : ℕ) (x : Lexeme) (rest : List Lexeme) (os : List Outer) (ms : List Sexp) → is_atom x.terminal ≡ true → Fits os (IsList (s.Atom (atom_of b x)))
    → run b most end (x ∷ rest) os ms ≡ run b most end rest os (ms ++ s.Atom (atom_of b x) ∷ [])
atom_read b most end x rest [] ms a f = absurd (atom_no_list (atom_of b x) f)
atom_read b most end x rest (o ∷ os) ms a f = run_atom b most end x rest o os ms a

mutual
  one_read : (b : List ℕ) (most end n : ℕ) (e : Sexp) (tokens rest : List Lexeme) (os : List Outer) (ms : List Sexp) → SaysSexp b n e tokens → length os + n ≤ most → Fits os (IsList e)
      → run b most end (tokens ++ rest) os ms ≡ run b most end rest os (ms ++ e ∷ [])
  one_read b most end n e tokens rest os ms (atom x a is parts) h f =
      let g = subst (λ z. Fits os (IsList z)) is f in
      ap (λ z. run b most end (z ++ rest) os ms) parts ∙ atom_read b most end x rest os ms a g ∙ ap (λ z. run b most end rest os (ms ++ z ∷ [])) (sym is)
  one_read b most end n e tokens rest os ms (list m x y es inner o all c levels is parts) h f =
      let new : Outer = record { at = x.at; before = ms } in
      let room : length os < most = omega (arith, levels) in
      let deep : length (new ∷ os) + m ≤ most = omega (arith, levels) in
      ap (λ z. run b most end (z ++ rest) os ms) parts
      ∙ run_open b most end x ((inner ++ y ∷ []) ++ rest) os ms o room
      ∙ ap (λ z. run b most end z (new ∷ os) []) (append_assoc inner (y ∷ []) rest)
      ∙ all_read b most end m es inner (y ∷ rest) (new ∷ os) [] all deep tt
      ∙ run_close b most end y rest new os es c
      ∙ ap (λ z. run b most end rest os (ms ++ z ∷ [])) (sym is)

  all_read : (b : List ℕ) (most end n : ℕ) (es : List Sexp) (tokens rest : List Lexeme) (os : List Outer) (ms : List Sexp) → SayAll b n es tokens → length os + n ≤ most → Fits os (AllByRecursion IsList es)
      → run b most end (tokens ++ rest) os ms ≡ run b most end rest os (ms ++ es)
  all_read b most end n es tokens rest os ms (nothing is parts) h f =
      ap (λ z. run b most end (z ++ rest) os ms) parts ∙ ap (λ z. run b most end rest os z) (sym (ap (λ z. ms ++ z) is ∙ append-nil ms))
  all_read b most end n es tokens rest os ms (more before e front back all one is parts) h f =
      let g = subst (λ z. Fits os (AllByRecursion IsList z)) is f in
      ap (λ z. run b most end z os ms) (ap (λ z. z ++ rest) parts ∙ append_assoc front back rest)
      ∙ all_read b most end n before front (back ++ rest) os ms all h (front_fits os before e g)
      ∙ one_read b most end n e back rest os (ms ++ before) one h (last_fits os before e g)
      ∙ ap (λ z. run b most end rest os z) (append_assoc ms before (e ∷ []) ∙ ap (λ z. ms ++ z) (sym is))

-- a script is read, if this many lists may be open
pub script_read : (b : List ℕ) (most end n : ℕ) (es : List Sexp) (tokens : List Lexeme) → IsScript b n es tokens → n ≤ most → run b most end tokens [] [] ≡ Ok es
script_read b most end n es tokens p h =
    let room : length {A = Outer} [] + n ≤ most = omega (arith, h) in
    ap (λ z. run b most end z [] []) (sym (append-nil tokens)) ∙ all_read b most end n es tokens [] [] [] p.said room p.lists ∙ run_end b most end es

pub one_script : (b : List ℕ) (n m : ℕ) (es fs : List Sexp) (tokens : List Lexeme) → IsScript b n es tokens → IsScript b m fs tokens → es ≡ fs
one_script b n m es fs tokens p q =
    let left = script_read b (n + m) 0 n es tokens p (omega arith) in
    let right = script_read b (n + m) 0 m fs tokens q (omega arith) in
    cc
