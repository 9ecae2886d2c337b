-- What the tokens of a script say.
use Rattle.std.specs.Prelude.{ℕ, suc, ◌≡◌, true, List, [], ◌∷◌, ◌++◌}
use Rattle.std.specs.List.{AllByRecursion}
use Rattle.smt_tokens.specs.declared.terminals.Terminal.TheVariants as t
use Rattle.smt_tokens.specs.declared.terminals.Lexeme.{Lexeme}
use Rattle.smt_tokens.specs.Lexemes.{lexemes_of}
use Rattle.smt_lists.specs.declared.tree.Sexp.{Sexp}
use Rattle.smt_lists.specs.declared.tree.Sexp.TheVariants as s
use Rattle.smt_lists.specs.Atoms.{is_atom, atom_of}

mutual
  -- the tokens are this S-expression, in which lists stand at most n deep within each other
  pub data SaysSexp (b : List ℕ) : ℕ → Sexp → List Lexeme → Type 0 where
    atom : {n : ℕ} {e : Sexp} {tokens : List Lexeme} (x : Lexeme) → is_atom x.terminal ≡ true
        → e ≡ s.Atom (atom_of b x) → tokens ≡ x ∷ [] → SaysSexp b n e tokens
    list : {n : ℕ} {e : Sexp} {tokens : List Lexeme} (m : ℕ) (x y : Lexeme) (es : List Sexp) (inner : List Lexeme)
        → x.terminal ≡ t.Open → SayAll b m es inner → y.terminal ≡ t.Close
        → n ≡ suc m → e ≡ s.List x.at es → tokens ≡ x ∷ inner ++ y ∷ [] → SaysSexp b n e tokens

  -- the tokens are these S-expressions, one after another
  pub data SayAll (b : List ℕ) : ℕ → List Sexp → List Lexeme → Type 0 where
    nothing : {n : ℕ} {all : List Sexp} {tokens : List Lexeme} → all ≡ [] → tokens ≡ [] → SayAll b n all tokens
    more : {n : ℕ} {all : List Sexp} {tokens : List Lexeme} (es : List Sexp) (e : Sexp) (front back : List Lexeme)
        → SayAll b n es front → SaysSexp b n e back → all ≡ es ++ e ∷ [] → tokens ≡ front ++ back → SayAll b n all tokens

-- the S-expression is a list
pub record IsList (e : Sexp) : Type 0 where
  pub at : ℕ
  pub members : List Sexp
  pub is : e ≡ s.List at members

-- the tokens are a script: lists, in which lists stand at most n deep within each other
pub record IsScript (b : List ℕ) (n : ℕ) (es : List Sexp) (tokens : List Lexeme) : Type 0 where
  pub said : SayAll b n es tokens
  pub lists : AllByRecursion IsList es

-- the text is the script of these lists, at most 200 deep within each other
abbrev pub IsScriptText : List ℕ → List Sexp → Type 0
IsScriptText bytes es = IsScript bytes 200 es (lexemes_of bytes)
