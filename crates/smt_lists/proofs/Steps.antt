-- What each token does in each state.
use Rattle.std.proofs.Common.{ℕ, ◌≡◌, ◌≤◌, ◌<◌, Bool, true, false, List, [], ◌∷◌, ◌++◌, length, refl, ap, ◌∙◌, Ok, Err, nat_lt, arith, if◌then◌else◌}
use Rattle.std.proofs.lemmas.Bool.Decides.{nat_tests}
use Rattle.smt_tokens.specs.declared.terminals.Terminal.{Terminal}
use Rattle.smt_tokens.specs.declared.terminals.Terminal.TheVariants as t
use Rattle.smt_tokens.specs.declared.terminals.Lexeme.{Lexeme}
use Rattle.smt_lists.specs.declared.tree.Sexp.{Sexp}
use Rattle.smt_lists.specs.declared.tree.Sexp.TheVariants as s
use Rattle.smt_lists.specs.declared.refusal.ReadRefusal.TheVariants as refusal
use Rattle.smt_lists.specs.declared.reading.Outer.{Outer}
use Rattle.smt_lists.specs.Atoms.{is_atom, atom_of}
use Rattle.smt_lists.specs.Machine.{Go, named, taken, run}

-- the outcome of a token, by its terminal
by_terminal : (b : List ℕ) (most end : ℕ) (x : Lexeme) (tokens : List Lexeme) (os : List Outer) (es : List Sexp) (terminal : Terminal) → x.terminal ≡ terminal
    → run b most end (x ∷ tokens) os es ≡ taken b most end x terminal (run b most end tokens) os es
unfolding run
by_terminal b most end x tokens os es terminal e = ap (λ w. taken b most end x w (run b most end tokens) os es) e

if_true : {A : Type 0} (c : Bool) (x y : A) → c ≡ true → (if c then x else y) ≡ x
if_true true x y e = refl
if_true false x y e = cc

if_false : {A : Type 0} (c : Bool) (x y : A) → c ≡ false → (if c then x else y) ≡ y
if_false true x y e = cc
if_false false x y e = refl

pub run_open : (b : List ℕ) (most end : ℕ) (x : Lexeme) (tokens : List Lexeme) (os : List Outer) (es : List Sexp) → x.terminal ≡ t.Open → length os < most
    → run b most end (x ∷ tokens) os es ≡ run b most end tokens (record { at = x.at; before = es } ∷ os) []
run_open b most end x tokens os es e h =
    let c : nat_lt (length os) most ≡ true = grind (arith, nat_tests) in
    by_terminal b most end x tokens os es t.Open e ∙ if_true (nat_lt (length os) most) (run b most end tokens (record { at = x.at; before = es } ∷ os) []) (Err (refusal.Deep x.at)) c

pub run_deep : (b : List ℕ) (most end : ℕ) (x : Lexeme) (tokens : List Lexeme) (os : List Outer) (es : List Sexp) → x.terminal ≡ t.Open → most ≤ length os
    → run b most end (x ∷ tokens) os es ≡ Err (refusal.Deep x.at)
run_deep b most end x tokens os es e h =
    let c : nat_lt (length os) most ≡ false = grind (arith, nat_tests) in
    by_terminal b most end x tokens os es t.Open e ∙ if_false (nat_lt (length os) most) (run b most end tokens (record { at = x.at; before = es } ∷ os) []) (Err (refusal.Deep x.at)) c

pub run_close : (b : List ℕ) (most end : ℕ) (x : Lexeme) (tokens : List Lexeme) (o : Outer) (os : List Outer) (es : List Sexp) → x.terminal ≡ t.Close
    → run b most end (x ∷ tokens) (o ∷ os) es ≡ run b most end tokens os (o.before ++ s.List o.at es ∷ [])
run_close b most end x tokens o os es e = by_terminal b most end x tokens (o ∷ os) es t.Close e

pub run_surplus : (b : List ℕ) (most end : ℕ) (x : Lexeme) (tokens : List Lexeme) (es : List Sexp) → x.terminal ≡ t.Close
    → run b most end (x ∷ tokens) [] es ≡ Err (refusal.Syntax x.at)
run_surplus b most end x tokens es e = by_terminal b most end x tokens [] es t.Close e

pub run_bad : (b : List ℕ) (most end : ℕ) (x : Lexeme) (tokens : List Lexeme) (os : List Outer) (es : List Sexp) → x.terminal ≡ t.Bad
    → run b most end (x ∷ tokens) os es ≡ Err (refusal.Syntax x.at)
run_bad b most end x tokens os es e = by_terminal b most end x tokens os es t.Bad e

pub run_unfinished : (b : List ℕ) (most end : ℕ) (x : Lexeme) (tokens : List Lexeme) (os : List Outer) (es : List Sexp) → x.terminal ≡ t.Unfinished
    → run b most end (x ∷ tokens) os es ≡ Err (refusal.Syntax end)
run_unfinished b most end x tokens os es e = by_terminal b most end x tokens os es t.Unfinished e

taken_atom : (b : List ℕ) (most end : ℕ) (x : Lexeme) (terminal : Terminal) (go : Go) (os : List Outer) (es : List Sexp) → is_atom terminal ≡ true
    → taken b most end x terminal go os es ≡ named (atom_of b x) go os es
taken_atom b most end x t.Open go os es e = cc
taken_atom b most end x t.Close go os es e = cc
taken_atom b most end x t.Bad go os es e = cc
taken_atom b most end x t.Unfinished go os es e = cc
taken_atom b most end x t.Numeral go os es e = refl
taken_atom b most end x t.Decimal go os es e = refl
taken_atom b most end x t.Hash go os es e = refl
taken_atom b most end x t.StringLiteral go os es e = refl
taken_atom b most end x t.Keyword go os es e = refl
taken_atom b most end x t.Symbol go os es e = refl
taken_atom b most end x t.Quoted go os es e = refl

pub run_atom : (b : List ℕ) (most end : ℕ) (x : Lexeme) (tokens : List Lexeme) (o : Outer) (os : List Outer) (es : List Sexp) → is_atom x.terminal ≡ true
    → run b most end (x ∷ tokens) (o ∷ os) es ≡ run b most end tokens (o ∷ os) (es ++ s.Atom (atom_of b x) ∷ [])
run_atom b most end x tokens o os es e =
    by_terminal b most end x tokens (o ∷ os) es x.terminal refl ∙ taken_atom b most end x x.terminal (run b most end tokens) (o ∷ os) es e

pub run_alone : (b : List ℕ) (most end : ℕ) (x : Lexeme) (tokens : List Lexeme) (es : List Sexp) → is_atom x.terminal ≡ true
    → run b most end (x ∷ tokens) [] es ≡ Err (refusal.Syntax x.at)
run_alone b most end x tokens es e =
    by_terminal b most end x tokens [] es x.terminal refl ∙ taken_atom b most end x x.terminal (run b most end tokens) [] es e

pub run_end : (b : List ℕ) (most end : ℕ) (es : List Sexp) → run b most end [] [] es ≡ Ok es
unfolding run
run_end b most end es = refl

pub run_short : (b : List ℕ) (most end : ℕ) (o : Outer) (os : List Outer) (es : List Sexp) → run b most end [] (o ∷ os) es ≡ Err (refusal.Syntax end)
unfolding run
run_short b most end o os es = refl

-- what a token is to the grammar
pub data Class (terminal : Terminal) : Type 0 where
  opens : terminal ≡ t.Open → Class terminal
  closes : terminal ≡ t.Close → Class terminal
  an_atom : is_atom terminal ≡ true → Class terminal
  no_token : terminal ≡ t.Bad → Class terminal
  no_end : terminal ≡ t.Unfinished → Class terminal

pub class_of : (terminal : Terminal) → Class terminal
class_of t.Open = opens refl
class_of t.Close = closes refl
class_of t.Bad = no_token refl
class_of t.Unfinished = no_end refl
class_of t.Numeral = an_atom refl
class_of t.Decimal = an_atom refl
class_of t.Hash = an_atom refl
class_of t.StringLiteral = an_atom refl
class_of t.Keyword = an_atom refl
class_of t.Symbol = an_atom refl
class_of t.Quoted = an_atom refl
