-- The tokens of a term, as those of a `\problem` block, are a file whose one block has the term.
use Rattle.std.proofs.Common.{◌≡◌, ℕ, true, false, List, [], ◌∷◌, ◌++◌, Option, Some, None, Ok, Err, refl, sym, ap, ◌∙◌, subst, append-nil}
use Rattle.pri_tokens.specs.declared.terminals.Lexeme.{Lexeme}
use Rattle.pri_tokens.specs.declared.terminals.Terminal.TheVariants as t
use Rattle.pri_tokens.specs.Lexemes.{lexemes_of}
use Rattle.pri_reader.specs.declared.tree.Expr.{Expr}
use Rattle.pri_reader.specs.declared.tree.File.{File}
use Rattle.pri_reader.specs.declared.tree.Block.{Block}
use Rattle.pri_reader.specs.declared.tree.Block.TheVariants as block
use Rattle.pri_reader.specs.declared.tree.ReadRefusal.{ReadRefusal}
use Rattle.pri_reader.specs.declared.tree.ReadRefusal.TheVariants as refusal
use Rattle.pri_reader.specs.Grammar as grammar
use Rattle.pri_reader.specs.Grammar.{Setting, Takes, Derives, Declaration, Blocks, IsFile, sum, whole}
use Rattle.pri_reader.specs.MachineStates.{a_block}
use Rattle.pri_reader.specs.Reading.{FailsWith, file_setting, reads}
use Rattle.pri_reader.proofs.CompleteBlocks.{one_file}
use Rattle.pri_reader.proofs.SourceFiles.{answered, found}
use Rattle.pri_typing.proofs.Carried.{AreSame, IsLooser, carry}
use Rattle.job_least.specs.Reads.{IsOnlyTerm, IsReadTerm, ReadsTerm, in_block, is_sum, made}
use Rattle.job_least.proofs.Sums.{sum_is, sum_whole, whole_sum}

-- ---- one block

one_behind : {A : Type 0} (xs : List A) (x y : A) → xs ++ x ∷ [] ≡ y ∷ [] → (xs ≡ []) × (x ≡ y)
one_behind [] x y e = (refl, cc)
one_behind (z ∷ []) x y e = absurd cc
one_behind (z ∷ w ∷ zs) x y e = absurd cc

never_none : {A : Type 0} (xs : List A) (x : A) → xs ++ x ∷ [] ≡ [] → ⊥
never_none [] x e = cc
never_none (z ∷ zs) x e = cc

none_taken : {s : Setting} {blocks : List Block} {tokens rest : List Lexeme} → Blocks s blocks tokens rest → blocks ≡ [] → tokens ≡ rest
none_taken grammar.blocks_none e = refl
none_taken (grammar.blocks_next {blocks = blocks} {b = b} m d h) e = absurd (never_none blocks b e)

one_taken : {s : Setting} {blocks : List Block} {tokens rest : List Lexeme} (one : Block) → Blocks s blocks tokens rest → blocks ≡ one ∷ [] → Declaration s one tokens rest
one_taken one grammar.blocks_none e = absurd cc
one_taken {s} {rest = rest} one (grammar.blocks_next {blocks = blocks} {b = b} {inner = inner} m d h) e =
    let both = one_behind blocks b one e in
    subst (λ ts. Declaration s one ts rest) (sym (none_taken m both.0)) (subst (λ z. Declaration s z inner rest) both.1 d)

-- the tokens before the rest are a `\problem` block with this expression
record InBlock (s : Setting) (e : Expr) (tokens rest : List Lexeme) : Type 0 where
  x : Lexeme
  o : Lexeme
  c : Lexeme
  after : List Lexeme
  inner : List Lexeme
  close : List Lexeme
  takes : Takes t.Problem x tokens after
  opens : Takes t.OpenBrace o after inner
  derived : Derives s 0 whole e inner close
  closes : Takes t.CloseBrace c close rest

problem_taken : {s : Setting} {b : Block} {tokens rest : List Lexeme} (at : ℕ) (e : Expr) → Declaration s b tokens rest → b ≡ block.Problem at e → InBlock s e tokens rest
problem_taken at e (grammar.block_constants true x o m c) is = absurd cc
problem_taken at e (grammar.block_constants false x o m c) is = absurd cc
problem_taken at e (grammar.block_items true x o m c) is = absurd cc
problem_taken at e (grammar.block_items false x o m c) is = absurd cc
problem_taken {s} at e (grammar.block_problem {f = f} {inner = inner} {close = close} x o u c) is =
    let same : f ≡ e = cc in
    record { x = _; o = _; c = _; after = _; inner = inner; close = close; takes = x; opens = o; derived = subst (λ z. Derives s 0 whole z inner close) same u; closes = c }
problem_taken at e (grammar.block_interpolant x o m n c) is = absurd cc

-- ---- the tokens of a term alone

-- the limits of a file do not look after
still_loose : (text : List ℕ) → IsLooser (file_setting text) (file_setting text)
still_loose text = record { small = λ rest more n h. h; shallow = λ rest more n h. h }

all_same : (s : Setting) (tokens : List Lexeme) → AreSame s s tokens
all_same s [] = tt
all_same s (x ∷ tokens) = (refl, all_same s tokens)

-- what is derived of the tokens before the last one is derived of them alone, and before any others
record Alone (text : List ℕ) (e : Expr) (tokens : List Lexeme) : Type 0 where
  any : (more : List Lexeme) → Derives (file_setting text) 0 whole e (tokens ++ more) more

same_front : {A : Type 0} (xs ys : List A) (x y : A) → xs ++ x ∷ [] ≡ ys ++ y ∷ [] → xs ≡ ys
same_front [] [] x y e = refl
same_front [] (w ∷ ys) x y e = absurd (never_none ys y (sym (tail e)))
  where
    tail : x ∷ [] ≡ w ∷ (ys ++ y ∷ []) → [] ≡ ys ++ y ∷ []
    tail h = cc
same_front (z ∷ xs) [] x y e = absurd (never_none xs x (tail e))
  where
    tail : z ∷ (xs ++ x ∷ []) ≡ y ∷ [] → xs ++ x ∷ [] ≡ []
    tail h = cc
same_front (z ∷ xs) (w ∷ ys) x y e =
    let heads : z ≡ w = cc in
    let tails : xs ++ x ∷ [] ≡ ys ++ y ∷ [] = cc in (λ i. heads i ∷ same_front xs ys x y tails i)

alone : (text : List ℕ) (e : Expr) (tokens rest front : List Lexeme) → Derives (file_setting text) 0 whole e tokens rest → ((ys : List Lexeme) → tokens ≡ ys ++ rest → ys ≡ front)
    → Alone text e front
alone text e tokens rest front u only =
    let s = file_setting text in
    let c = carry s s (still_loose text) u in
    record { any = λ more. subst (λ z. Derives s 0 whole e (z ++ more) more) (only c.front c.parts) (c.derived more (all_same s c.front)) }

pub is_term : (text : List ℕ) (e : Expr) (at : ℕ) (file : File) → IsFile (file_setting text) file (in_block (lexemes_of text)) → file.blocks ≡ block.Problem at e ∷ [] → is_sum e ≡ true
    → ReadsTerm text e
is_term text e at file is one h =
    let tokens = lexemes_of text in
    let b : InBlock (file_setting text) e (in_block tokens) [] = problem_taken at e (one_taken (block.Problem at e) is.blocks_are one) refl in
    let after : b.after ≡ made t.OpenBrace ∷ (tokens ++ made t.CloseBrace ∷ []) = behind _ _ _ _ (b.takes.parts) in
    let inner : b.inner ≡ tokens ++ made t.CloseBrace ∷ [] = behind _ _ _ _ (sym after ∙ b.opens.parts) in
    let a = alone text e b.inner b.close tokens b.derived (λ ys p. same_front ys tokens b.c (made t.CloseBrace) (ap (λ z. ys ++ z) (sym b.closes.parts) ∙ sym p ∙ inner)) in
    whole_sum (subst (λ z. Derives (file_setting text) 0 whole e z []) (append-nil tokens) (a.any [])) h
  where
    behind : (x y : Lexeme) (xs ys : List Lexeme) → x ∷ xs ≡ y ∷ ys → ys ≡ xs
    behind x y xs ys p = cc

pub term_file : (text : List ℕ) (e : Expr) → ReadsTerm text e → IsFile (file_setting text) (record { blocks = block.Problem 0 e ∷ [] }) (in_block (lexemes_of text))
term_file text e u =
    let tokens = lexemes_of text in
    let a = alone text e tokens [] tokens (sum_whole u) (λ ys p. sym (append-nil ys) ∙ sym p) in
    record {
      blocks_are = grammar.blocks_next {blocks = []} grammar.blocks_none
          (grammar.block_problem (record { parts = refl; is = refl }) (record { parts = refl; is = refl }) (a.any (made t.CloseBrace ∷ [])) (record { parts = refl; is = refl })) (λ h. refl);
      problem = refl;
    }

-- a text is one term at most
pub one_term : (text : List ℕ) (e g : Expr) → ReadsTerm text e → ReadsTerm text g → e ≡ g
one_term text e g u v =
    let same = one_file (file_setting text) (in_block (lexemes_of text)) (record { blocks = block.Problem 0 e ∷ [] }) (record { blocks = block.Problem 0 g ∷ [] }) (term_file text e u) (term_file text g v) in
    let blocks : block.Problem 0 e ∷ [] ≡ block.Problem 0 g ∷ [] = ap (λ (f : File). f.blocks) same in cc

-- ---- the answer

pub file_term : (text : List ℕ) (tokens : List Lexeme) (file : File) (o : Option Expr) → tokens ≡ in_block (lexemes_of text) → reads text tokens (a_block []) [] ≡ Ok file
    → IsOnlyTerm file.blocks o → IsReadTerm text o
file_term text tokens file (Some e) are h only =
    is_term text e only.0.0 file (subst (IsFile (file_setting text) file) are (found text tokens file h)) only.0.1 only.1
file_term text tokens file None are h only = λ e u.
    let is = subst (IsFile (file_setting text) (record { blocks = block.Problem 0 e ∷ [] })) (sym are) (term_file text e u) in
    let same : file ≡ record { blocks = block.Problem 0 e ∷ [] } = answered text tokens (Ok file) h tt (record { blocks = block.Problem 0 e ∷ [] }) is in
    let bad : true ≡ false = sym (sum_is u) ∙ only 0 e (ap (λ (f : File). f.blocks) same) in cc

pub no_file : (text : List ℕ) (tokens : List Lexeme) (e : ReadRefusal) → tokens ≡ in_block (lexemes_of text) → FailsWith e (reads text tokens (a_block []) [])
    → (e ≡ refusal.Memory → ⊥) → (x : Expr) → ReadsTerm text x → ⊥
no_file text tokens e are fails other x u =
    by e fails other (subst (IsFile (file_setting text) (record { blocks = block.Problem 0 x ∷ [] })) (sym are) (term_file text x u))
  where
    by : (r : ReadRefusal) → FailsWith r (reads text tokens (a_block []) []) → (r ≡ refusal.Memory → ⊥) → IsFile (file_setting text) (record { blocks = block.Problem 0 x ∷ [] }) tokens → ⊥
    by refusal.Memory k o is = o refl
    by (refusal.Syntax at) k o is = answered text tokens (Err (refusal.Syntax at)) tt k (record { blocks = block.Problem 0 x ∷ [] }) is
    by (refusal.Literal at) k o is = answered text tokens (Err (refusal.Literal at)) tt k (record { blocks = block.Problem 0 x ∷ [] }) is
    by (refusal.Deep at) k o is = answered text tokens (Err (refusal.Deep at)) tt k (record { blocks = block.Problem 0 x ∷ [] }) is
