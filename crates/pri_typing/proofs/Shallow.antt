-- What is derived within the limit on levels binds at most as many names at each place as levels may be open.
use Rattle.std.proofs.Common.{◌≡◌, ℕ, suc, pos, ◌+◌, ◌<◌, ◌≤◌, length, Bool, true, false, List, [], ◌∷◌, ◌++◌, refl, sym, ◌∙◌, ap, subst, arith}
use Rattle.pri_tokens.specs.declared.terminals.Lexeme.{Lexeme}
use Rattle.pri_reader.specs.declared.tree.Expr.{Expr}
use Rattle.pri_reader.specs.declared.tree.Form.{Form}
use Rattle.pri_reader.specs.declared.tree.Form.TheVariants as form
use Rattle.pri_reader.specs.declared.tree.Added.{Added}
use Rattle.pri_reader.specs.declared.tree.Block.{Block}
use Rattle.pri_reader.specs.declared.tree.Block.TheVariants as block
use Rattle.pri_reader.specs.declared.tree.File.{File}
use Rattle.pri_reader.specs.Grammar as grammar
use Rattle.pri_reader.specs.Grammar.{Setting, Right, Chain, Part, expr, join, chained, added, summed, paired, value_of, Derives, Members, Terms, Arguments, Declaration, Blocks, IsFile}
use Rattle.pri_typing.specs.Phrase.{Phrase, phrase, phrase_of, phrases_of, addends_of, and_addend}
use Rattle.std.proofs.lemmas.Bool.{ltb-true}
use Rattle.pri_reader.specs.declared.tree.TypeName.{TypeName}
use Rattle.pri_reader.specs.declared.tree.Declared.{Declared}
use Rattle.pri_reader.specs.Grammar.{Binding, bound_first, bound_next, bound_line}
use Rattle.pri_reader.specs.Reading.{file_setting}
use Rattle.pri_typing.specs.Sites.{most_bound}
use Rattle.pri_typing.specs.Limits.{IsShallow, AreShallow, AddendsAreShallow}
use Rattle.pri_typing.specs.Files.{problem_of}
use Rattle.pri_typing.proofs.Folds.{phrase-form, addend-term, phrase-Number, phrase-Truth, phrase-Use, phrase-Group, phrase-If, phrase-Abs, phrase-Min, phrase-Max, phrase-Minus, phrase-Product, phrase-Sum, phrase-Compare, phrase-Not, phrase-Quantified, phrase-Part, phrase-And, phrase-Or, phrase-Implies, phrase-Iff}

at_form : (n : ℕ) (at : ℕ) (g : Form) (x : Phrase) → phrase_of g at ≡ x → IsShallow n x → IsShallow n (phrase (expr at g))
at_form n at g x is h = subst (IsShallow n) (sym (phrase-form (expr at g) ∙ is)) h

many_shallow : (n : ℕ) (es : List Expr) (e : Expr) → AreShallow n (phrases_of es) → IsShallow n (phrase e) → AreShallow n (phrases_of (es ++ e ∷ []))
many_shallow n [] e h k = (k, tt {0})
many_shallow n (g ∷ es) e h k = (h.0, many_shallow n es e h.1 k)

added_first : (n : ℕ) (a : Added) (more : List Added) → IsShallow n (phrase a.term) → AddendsAreShallow n (addends_of more) → AddendsAreShallow n (addends_of (a ∷ more))
added_first n a more h k = subst (λ z. AddendsAreShallow n (and_addend z.is_minus z.term (addends_of more))) (sym (addend-term a)) (h, k)

added_split : (n : ℕ) (a : Added) (more : List Added) → AddendsAreShallow n (addends_of (a ∷ more)) → IsShallow n (phrase a.term) × AddendsAreShallow n (addends_of more)
added_split n a more h = subst (λ z. AddendsAreShallow n (and_addend z.is_minus z.term (addends_of more))) (addend-term a) h

added_shallow : (n : ℕ) (more : List Added) (a : Added) → AddendsAreShallow n (addends_of more) → IsShallow n (phrase a.term) → AddendsAreShallow n (addends_of (more ++ a ∷ []))
added_shallow n [] a h k = added_first n a [] k (tt {0})
added_shallow n (b ∷ more) a h k = let split = added_split n b more h in added_first n b (more ++ a ∷ []) split.0 (added_shallow n more a split.1 k)

joined : (n : ℕ) (r : Right) (f : Expr) (at : ℕ) (g : Expr) → IsShallow n (phrase f) → IsShallow n (phrase g) → IsShallow n (phrase (join r f at g))
joined n grammar.equivalence f at g h k = at_form n f.at (form.Iff f g) _ (phrase-Iff f g f.at) (h, k)
joined n grammar.implication f at g h k = at_form n f.at (form.Implies f g) _ (phrase-Implies f g f.at) (h, k)
joined n grammar.multiplication f at g h k = at_form n f.at (form.Product f at g) _ (phrase-Product f at g f.at) (h, k)

chained-shallow : (n : ℕ) (c : Chain) (fs : List Expr) (f : Expr) → AreShallow n (phrases_of fs) → IsShallow n (phrase f) → IsShallow n (phrase (chained c fs f))
chained-shallow n c [] f h k = k
chained-shallow n grammar.disjunction (g ∷ gs) f h k = at_form n g.at (form.Or ((g ∷ gs) ++ f ∷ [])) _ (phrase-Or ((g ∷ gs) ++ f ∷ []) g.at) (many_shallow n (g ∷ gs) f h k)
chained-shallow n grammar.conjunction (g ∷ gs) f h k = at_form n g.at (form.And ((g ∷ gs) ++ f ∷ [])) _ (phrase-And ((g ∷ gs) ++ f ∷ []) g.at) (many_shallow n (g ∷ gs) f h k)

summed-shallow : (n : ℕ) (before : List Added) (sign : Bool) (f : Expr) → AddendsAreShallow n (addends_of before) → IsShallow n (phrase f) → IsShallow n (phrase (summed before sign f))
summed-shallow n [] sign f h k = k
summed-shallow n (a ∷ terms) sign f h k =
    let split = added_split n a terms h in
    at_form n a.term.at (form.Sum a.term (terms ++ added sign f ∷ [])) _ (phrase-Sum a.term (terms ++ added sign f ∷ []) a.term.at) (split.0, added_shallow n terms (added sign f) split.1 k)

paired-shallow : (n : ℕ) (max : Bool) (at : ℕ) (f g : Expr) → IsShallow n (phrase f) → IsShallow n (phrase g) → IsShallow n (phrase (paired max at f g))
paired-shallow n true at f g h k = at_form n at (form.Max f g) _ (phrase-Max f g at) (h, k)
paired-shallow n false at f g h k = at_form n at (form.Min f g) _ (phrase-Min f g at) (h, k)

-- at most 200 levels may be open
abbrev pub IsLimited : Setting → Type 0
IsLimited s = (rest : List Lexeme) (d : ℕ) → s.shallow rest d ≡ true → d < most_bound

more_names : {X : Type 0} (xs : List X) (x : X) → length (xs ++ x ∷ []) ≡ suc (length xs)
more_names [] x = refl
more_names (y ∷ xs) x = ap suc (more_names xs x)

next_level : (d e k l : ℕ) → e ≡ k + d → l ≡ suc k → suc e ≡ l + d
next_level d e k l is more = omega (arith, is, more)

-- each bound name opens a level
bound_levels : {s : Setting} {several : Bool} {sort : TypeName} {d e : ℕ} {names : List Declared} {tokens rest : List Lexeme} → IsLimited s → Binding s several sort d e names tokens rest → (e ≡ length names + d) × (e ≤ most_bound)
bound_levels {d = d} b (bound_first {rest = rest} i x o) = (omega arith, let lt : d < most_bound = b rest d o in omega (arith, lt))
bound_levels {d = d} b (bound_next {e = e} {names = names} {rest = rest} m c x o) =
    let before = bound_levels b m in let lt : e < most_bound = b rest e o in
    (next_level d e (length names) _ before.0 (more_names names _), omega (arith, lt))
bound_levels {d = d} b (bound_line {e = e} {names = names} {rest = rest} m c i x o) =
    let before = bound_levels b m in let lt : e < most_bound = b rest e o in
    (next_level d e (length names) _ before.0 (more_names names _), omega (arith, lt))

up : {n d : ℕ} → n ≤ d → n ≤ suc d
up le = omega (arith, le)

-- inside a quantifier
under : (n d e k : ℕ) → n ≤ d → e ≡ k + d → k + n ≤ e
under n d e k le is = omega (arith, le, is)

within : (n d e k : ℕ) → n ≤ d → e ≡ k + d → e ≤ most_bound → k + n ≤ most_bound
within n d e k le is most = omega (arith, le, is, most)

quantified-shallow : (n d e at : ℕ) (all : Bool) (names : List Declared) (f : Expr) → n ≤ d → (e ≡ length names + d) × (e ≤ most_bound) → IsShallow (length names + n) (phrase f)
    → IsShallow n (phrase (expr at (form.Quantified all names f)))
quantified-shallow n d e at all names f le levels h = at_form n at (form.Quantified all names f) _ (phrase-Quantified all names f at) (within n d e (length names) le levels.0 levels.1, h)

mutual
  pub derived_shallow : {s : Setting} {d : ℕ} {part : Part} {e : Expr} {tokens rest : List Lexeme} → IsLimited s → (n : ℕ) → n ≤ d → Derives s d part e tokens rest → IsShallow n (phrase e)
  derived_shallow b n le (grammar.right_one u) = derived_shallow b n le u
  derived_shallow b n le (grammar.right_two {r = r} {f = f} {g = g} {x = x} u t o v) = joined n r f x.at g (derived_shallow b n le u) (derived_shallow b n (up le) v)
  derived_shallow b n le (grammar.chain_all {c = c} {fs = fs} {f = f} m) = let both = members_shallow b n le m in chained-shallow n c fs f both.0 both.1
  derived_shallow b n le (grammar.unary_not {f = f} {x = x} t o u) = at_form n x.at (form.Not f) _ (phrase-Not f x.at) (derived_shallow b n (up le) u)
  derived_shallow {d = d} b n le (grammar.unary_bound {e = e} {all = all} {names = names} {f = f} {x = x} t m s u) =
      let levels = bound_levels b m in quantified-shallow n d e x.at all names f le levels (derived_shallow b (length names + n) (under n d e (length names) le levels.0) u)
  derived_shallow {d = d} b n le (grammar.unary_grouped {e = e} {all = all} {names = names} {f = f} {x = x} t o m c u) =
      let levels = bound_levels b m in quantified-shallow n d e x.at all names f le levels (derived_shallow b (length names + n) (under n d e (length names) le levels.0) u)
  derived_shallow b n le (grammar.unary_part {f = f} {x = x} t o p m c u) = at_form n x.at (form.Part _ f) _ (phrase-Part _ f x.at) (derived_shallow b n (up le) u)
  derived_shallow b n le (grammar.unary_rel u) = derived_shallow b n le u
  derived_shallow b n le (grammar.rel_one u) = derived_shallow b n le u
  derived_shallow b n le (grammar.rel_two {c = c} {f = f} {g = g} u t v) = at_form n f.at (form.Compare c f g) _ (phrase-Compare c f g f.at) (derived_shallow b n le u, derived_shallow b n le v)
  derived_shallow b n le (grammar.sum_all {before = before} {sign = sign} {f = f} m) = let both = terms_shallow b n le m in summed-shallow n before sign f both.0 both.1
  derived_shallow b n le (grammar.factor_minus {f = f} {x = x} t o u) = at_form n x.at (form.Minus f) _ (phrase-Minus f x.at) (derived_shallow b n (up le) u)
  derived_shallow b n le (grammar.factor_primary u) = derived_shallow b n le u
  derived_shallow {s} b n le (grammar.number {x = x} {rest = rest} t small) = at_form n x.at (form.Number (pos (value_of s x))) _ (phrase-Number (pos (value_of s x)) x.at) (tt {0})
  derived_shallow b n le (grammar.truth {b = v} {x = x} t) = at_form n x.at (form.Truth v) _ (phrase-Truth v x.at) (tt {0})
  derived_shallow b n le (grammar.use_bare {x = x} t) = at_form n x.at (form.Use _ []) _ (phrase-Use _ [] x.at) (tt {0})
  derived_shallow b n le (grammar.use_empty {x = x} t o p c) = at_form n x.at (form.Use _ []) _ (phrase-Use _ [] x.at) (tt {0})
  derived_shallow b n le (grammar.use_applied {fs = fs} {f = f} {x = x} t o p m c) =
      let both = arguments_shallow b n (up le) m in at_form n x.at (form.Use _ (fs ++ f ∷ [])) _ (phrase-Use _ (fs ++ f ∷ []) x.at) (many_shallow n fs f both.0 both.1)
  derived_shallow b n le (grammar.group {f = f} {x = x} t u) = at_form n x.at (form.Group f) _ (phrase-Group f x.at) (derived_shallow b n le u)
  derived_shallow b n le (grammar.conditional {c = c} {f = f} {g = g} {x = x} t u y v z w) =
      at_form n x.at (form.If c f g) _ (phrase-If c f g x.at) (derived_shallow b n le u, derived_shallow b n le v, derived_shallow b n le w)
  derived_shallow b n le (grammar.absolute {f = f} {x = x} t u) = at_form n x.at (form.Abs f) _ (phrase-Abs f x.at) (derived_shallow b n le u)
  derived_shallow b n le (grammar.pair max {f = f} {g = g} {x = x} t o p u c v e) = paired-shallow n max x.at f g (derived_shallow b n (up le) u) (derived_shallow b n (up le) v)
  derived_shallow b n le (grammar.parentheses o p u c) = derived_shallow b n (up le) u

  members_shallow : {s : Setting} {d : ℕ} {c : Chain} {fs : List Expr} {f : Expr} {tokens rest : List Lexeme} → IsLimited s → (n : ℕ) → n ≤ d → Members s d c fs f tokens rest → AreShallow n (phrases_of fs) × IsShallow n (phrase f)
  members_shallow b n le (grammar.member_first u) = (tt {0}, derived_shallow b n le u)
  members_shallow b n le (grammar.member_next {fs = fs} {f = f} m t u) = let both = members_shallow b n le m in (many_shallow n fs f both.0 both.1, derived_shallow b n le u)

  terms_shallow : {s : Setting} {d : ℕ} {before : List Added} {sign : Bool} {f : Expr} {tokens rest : List Lexeme} → IsLimited s → (n : ℕ) → n ≤ d → Terms s d before sign f tokens rest → AddendsAreShallow n (addends_of before) × IsShallow n (phrase f)
  terms_shallow b n le (grammar.term_first u) = (tt {0}, derived_shallow b n le u)
  terms_shallow b n le (grammar.term_next {before = before} {old = old} {f = f} m t u) = let both = terms_shallow b n le m in (added_shallow n before (added old f) both.0 both.1, derived_shallow b n le u)

  arguments_shallow : {s : Setting} {d : ℕ} {fs : List Expr} {f : Expr} {tokens rest : List Lexeme} → IsLimited s → (n : ℕ) → n ≤ d → Arguments s d fs f tokens rest → AreShallow n (phrases_of fs) × IsShallow n (phrase f)
  arguments_shallow b n le (grammar.argument_first u) = (tt {0}, derived_shallow b n le u)
  arguments_shallow b n le (grammar.argument_next {fs = fs} {f = f} m t u) = let both = arguments_shallow b n le m in (many_shallow n fs f both.0 both.1, derived_shallow b n le u)

-- the formula of each block
abbrev IsBlockShallow : Block → Type 0
IsBlockShallow (block.Problem at e) = IsShallow 0 (phrase e)
IsBlockShallow _ = Unit {0}

abbrev AreBlocksShallow : List Block → Type 0
AreBlocksShallow [] = Unit {0}
AreBlocksShallow (b ∷ blocks) = IsBlockShallow b × AreBlocksShallow blocks

block_shallow : {s : Setting} {b : Block} {tokens rest : List Lexeme} → IsLimited s → Declaration s b tokens rest → IsBlockShallow b
block_shallow b (grammar.block_constants true t o n c) = tt {0}
block_shallow b (grammar.block_constants false t o n c) = tt {0}
block_shallow b (grammar.block_items true t o n c) = tt {0}
block_shallow b (grammar.block_items false t o n c) = tt {0}
block_shallow b (grammar.block_problem t o u c) = derived_shallow b 0 (omega arith) u
block_shallow b (grammar.block_interpolant t o m l c) = tt {0}

behind_shallow : (blocks : List Block) (b : Block) → AreBlocksShallow blocks → IsBlockShallow b → AreBlocksShallow (blocks ++ b ∷ [])
behind_shallow [] b h k = (k, tt {0})
behind_shallow (c ∷ blocks) b h k = (h.0, behind_shallow blocks b h.1 k)

blocks_shallow : {s : Setting} {blocks : List Block} {tokens rest : List Lexeme} → IsLimited s → Blocks s blocks tokens rest → AreBlocksShallow blocks
blocks_shallow s grammar.blocks_none = tt {0}
blocks_shallow s (grammar.blocks_next {blocks = blocks} {b = b} m d n) = behind_shallow blocks b (blocks_shallow s m) (block_shallow s d)

problem_in : (blocks : List Block) → AreBlocksShallow blocks → IsShallow 0 (problem_of blocks)
problem_in [] h = tt {0}
problem_in (block.Problem at e ∷ blocks) h = h.0
problem_in (block.Universals at names ∷ blocks) h = problem_in blocks h.1
problem_in (block.Existentials at names ∷ blocks) h = problem_in blocks h.1
problem_in (block.Functions at items ∷ blocks) h = problem_in blocks h.1
problem_in (block.Predicates at items ∷ blocks) h = problem_in blocks h.1
problem_in (block.Interpolant at sets ∷ blocks) h = problem_in blocks h.1

limited : (bytes : List ℕ) → IsLimited (file_setting bytes)
limited bytes = λ rest d h. ltb-true d most_bound h

-- the formula of a file that is derived within the limits
pub file_shallow : (bytes : List ℕ) (f : File) (tokens : List Lexeme) → IsFile (file_setting bytes) f tokens → IsShallow 0 (problem_of f.blocks)
file_shallow bytes f tokens h = problem_in _ (blocks_shallow (limited bytes) h.blocks_are)
