-- How a function of the reader fails as the file does.
use Rattle.std.proofs.Common.{◌≡◌, ◌<◌, ◌≤◌, ℕ, Bool, List, length, arith, Result, Ok, Err, sym, subst}
use Rattle.std.specs.Result.{IfErr, IfOk, IsErrAnd}
use Rattle.std.proofs.lemmas.Result.{err_from_is_err_and}
use Rattle.pri_tokens.specs.declared.terminals.Terminal.{Terminal}
use Rattle.pri_tokens.specs.declared.terminals.Lexeme.{Lexeme}
use Rattle.pri_reader.specs.declared.tree.Expr.{Expr}
use Rattle.pri_reader.specs.declared.tree.File.{File}
use Rattle.pri_reader.specs.declared.tree.ReadRefusal.{ReadRefusal}
use Rattle.pri_reader.specs.declared.tree.ReadRefusal.TheVariants as refusal
use Rattle.pri_reader.specs.Grammar.{Takes}
use Rattle.pri_reader.specs.MachineStates.{Want, Frame}
use Rattle.pri_reader.specs.declared.tree.Comparison.{Comparison}
use Rattle.pri_reader.specs.declared.classes.Prefix.{Prefix}
use Rattle.pri_reader.specs.declared.classes.Heading.{Heading}
use Rattle.pri_reader.specs.declared.classes.Opening.{Opening}
use Rattle.pri_reader.specs.Reading.{AddsTerm, BeginsTerm, Compares, FailsWith, Heads, IsRead, IsReadRefused, NotNext, Prefixes}

-- the outcome is that of what was left to do, and that fails
pub through : {outcome inner : Result File ReadRefusal} (e : ReadRefusal) → outcome ≡ inner → FailsWith e inner → FailsWith e outcome
through e p h = subst (FailsWith e) (sym p) h

-- running out of memory says nothing of the file
pub memory : {b : List ℕ} {want : Want} {above : List Frame} {tokens : List Lexeme} {e : ReadRefusal} → e ≡ refusal.Memory → IsReadRefused b want above tokens e
memory h = rw h (record { run = λ frames. tt })

-- the expression that is made of what was read
pub made_read : {b : List ℕ} {want : Want} {above : List Frame} {made f : Expr} {tokens rest behind : List Lexeme} → made ≡ f → behind ≡ rest → IsRead b want above f tokens rest
    → IsRead b want above made tokens behind
made_read p q h = rw (p, q) h

-- a `?` hands on the refusal of the call before it
pub fails : {A : Type 0} {e : ReadRefusal} (r : Result A ReadRefusal) (P : ReadRefusal → Type 0) → IsErrAnd r (λ x. x ≡ e) → P e → IfErr r P
fails r P h p = let q = err_from_is_err_and r h in rw (q.1, q.2) p

-- the result of the last call is handed on
pub handed_err : {A : Type 0} (r : Result A ReadRefusal) (P Q : ReadRefusal → Type 0) → IfErr r P → ((e : ReadRefusal) → P e → Q e) → IfErr r Q
handed_err (Ok x) P Q h f = tt
handed_err (Err e) P Q h f = f e h

pub handed_ok : {A : Type 0} (r : Result A ReadRefusal) (P Q : A → Type 0) → IfOk r P → ((x : A) → P x → Q x) → IfOk r Q
handed_ok (Ok x) P Q h f = f x h
handed_ok (Err e) P Q h f = tt

-- two facts of the result of the last call
pub handed_both : {A : Type 0} (r : Result A ReadRefusal) (P Q S : A → Type 0) → IfOk r P → IfOk r Q → ((x : A) → P x → Q x → S x) → IfOk r S
handed_both (Ok x) P Q S g h f = f x g h
handed_both (Err e) P Q S g h f = tt

-- a token less stands after a token
pub takes_shorter : {k : Terminal} {x : Lexeme} {tokens rest : List Lexeme} → Takes k x tokens rest → length rest < length tokens
takes_shorter {rest = rest} s = rw s.parts (omega arith)

pub adds_shorter : {sign : Bool} {tokens rest : List Lexeme} → AddsTerm sign tokens rest → length rest < length tokens
adds_shorter {rest = rest} s = rw s.parts (omega arith)

pub compares_shorter : {sign : Comparison} {tokens rest : List Lexeme} → Compares sign tokens rest → length rest < length tokens
compares_shorter {rest = rest} s = rw s.parts (omega arith)

pub prefixes_shorter : {p : Prefix} {x : Lexeme} {tokens rest : List Lexeme} → Prefixes p x tokens rest → length rest < length tokens
prefixes_shorter {rest = rest} s = rw s.parts (omega arith)

pub begins_shorter : {o : Opening} {x : Lexeme} {tokens rest : List Lexeme} → BeginsTerm o x tokens rest → length rest < length tokens
begins_shorter {rest = rest} s = rw s.parts (omega arith)

pub heads_shorter : {heading : Heading} {x : Lexeme} {tokens rest : List Lexeme} → Heads heading x tokens rest → length rest < length tokens
heads_shorter {rest = rest} s = rw s.parts (omega arith)

-- the tokens after a part, one after the other
pub then_shorter : {a b c : ℕ} → a < b → b < c → a < c
then_shorter p q = omega (arith, p, q)

pub shorter_at_most : {a b c : ℕ} → a < b → b ≤ c → a < c
shorter_at_most p q = omega (arith, p, q)

pub at_most_shorter : {a b c : ℕ} → a ≤ b → b < c → a < c
at_most_shorter p q = omega (arith, p, q)

pub less_at_most : {a b c : ℕ} → a < b → b < c → a ≤ c
less_at_most p q = omega (arith, p, q)

-- the tokens that are handed on are as long
pub same_shorter : {a b : List Lexeme} {c : ℕ} → length b < c → a ≡ b → length a < c
same_shorter h p = rw p h

pub same_less : {a b : List Lexeme} {m c : ℕ} → length b < m → m < c → a ≡ b → length a ≤ c
same_less h k p = rw p (omega (arith, h, k))

pub none_taken : {k : Terminal} {a b : List Lexeme} → NotNext k b → a ≡ b → length a ≤ length b
none_taken n p = rw p (omega arith)

pub ruleset shorter = (takes_shorter, heads_shorter, adds_shorter, compares_shorter, prefixes_shorter, begins_shorter)
