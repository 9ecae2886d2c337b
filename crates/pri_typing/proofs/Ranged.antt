-- What is derived within the limit on numerals has its numerals in the range of coefficients.
use Rattle.std.proofs.Common.{◌≡◌, ℕ, ℤ, zero, suc, pos, neg_ℤ, unsigned_abs, ◌<◌, ◌^◌, Bool, true, false, List, [], ◌∷◌, ◌++◌, refl, sym, ◌∙◌, subst}
use Rattle.std.specs.List.{AllByRecursion}
use Rattle.std.proofs.lemmas.List.Elements.{All-from_recursion}
use Rattle.linear_term.specs.Range.{InRange}
use Rattle.pri_tokens.specs.declared.terminals.Lexeme.{Lexeme}
use Rattle.pri_reader.specs.declared.tree.Expr.{Expr}
use Rattle.pri_reader.specs.declared.tree.Form.{Form}
use Rattle.pri_reader.specs.declared.tree.Form.TheVariants as form
use Rattle.pri_reader.specs.declared.tree.Added.{Added}
use Rattle.pri_reader.specs.declared.tree.TypeName.{TypeName}
use Rattle.pri_reader.specs.declared.tree.Declared.{Declared}
use Rattle.pri_reader.specs.declared.tree.Block.{Block}
use Rattle.pri_reader.specs.declared.tree.Block.TheVariants as block
use Rattle.pri_reader.specs.declared.tree.File.{File}
use Rattle.pri_reader.specs.Grammar as grammar
use Rattle.pri_reader.specs.Grammar.{Setting, Right, Chain, Part, expr, join, chained, added, summed, paired, value_of, Endpoint, IsType, Binding, Derives, Members, Terms, Arguments, Declaration, Blocks, IsFile}
use Rattle.pri_typing.specs.Phrase.{Phrase, phrase, phrase_of, phrases_of, addends_of, and_addend}
use Rattle.pri_typing.specs.Ranges.{IsRanged, AreRanged, AreAddedRanged}
use Rattle.pri_typing.specs.Files.{problem_of}
use Rattle.form_typed.specs.Sorts.{IsSortRanged}
use Rattle.pri_typing.specs.Sorts.{sort_of, sorts_of}
use Rattle.pri_typing.proofs.Folds.{phrase-form, addend-term, phrase-Number, phrase-Truth, phrase-Use, phrase-Group, phrase-If, phrase-Abs, phrase-Min, phrase-Max, phrase-Minus, phrase-Product, phrase-Sum, phrase-Compare, phrase-Not, phrase-Quantified, phrase-Part, phrase-And, phrase-Or, phrase-Implies, phrase-Iff}

at_form : (at : ℕ) (g : Form) (x : Phrase) → phrase_of g at ≡ x → IsRanged x → IsRanged (phrase (expr at g))
at_form at g x is h = subst IsRanged (sym (phrase-form (expr at g) ∙ is)) h

many_ranged : (es : List Expr) (e : Expr) → AreRanged (phrases_of es) → IsRanged (phrase e) → AreRanged (phrases_of (es ++ e ∷ []))
many_ranged [] e h k = (k, tt {0})
many_ranged (g ∷ es) e h k = (h.0, many_ranged es e h.1 k)

added_first : (a : Added) (more : List Added) → IsRanged (phrase a.term) → AreAddedRanged (addends_of more) → AreAddedRanged (addends_of (a ∷ more))
added_first a more h k = subst (λ z. AreAddedRanged (and_addend z.is_minus z.term (addends_of more))) (sym (addend-term a)) (h, k)

added_split : (a : Added) (more : List Added) → AreAddedRanged (addends_of (a ∷ more)) → IsRanged (phrase a.term) × AreAddedRanged (addends_of more)
added_split a more h = subst (λ z. AreAddedRanged (and_addend z.is_minus z.term (addends_of more))) (addend-term a) h

added_ranged : (more : List Added) (a : Added) → AreAddedRanged (addends_of more) → IsRanged (phrase a.term) → AreAddedRanged (addends_of (more ++ a ∷ []))
added_ranged [] a h k = added_first a [] k (tt {0})
added_ranged (b ∷ more) a h k = let split = added_split b more h in added_first b (more ++ a ∷ []) split.0 (added_ranged more a split.1 k)

joined : (r : Right) (f : Expr) (at : ℕ) (g : Expr) → IsRanged (phrase f) → IsRanged (phrase g) → IsRanged (phrase (join r f at g))
joined grammar.equivalence f at g h k = at_form f.at (form.Iff f g) _ (phrase-Iff f g f.at) (h, k)
joined grammar.implication f at g h k = at_form f.at (form.Implies f g) _ (phrase-Implies f g f.at) (h, k)
joined grammar.multiplication f at g h k = at_form f.at (form.Product f at g) _ (phrase-Product f at g f.at) (h, k)

chained-ranged : (c : Chain) (fs : List Expr) (f : Expr) → AreRanged (phrases_of fs) → IsRanged (phrase f) → IsRanged (phrase (chained c fs f))
chained-ranged c [] f h k = k
chained-ranged grammar.disjunction (g ∷ gs) f h k = at_form g.at (form.Or ((g ∷ gs) ++ f ∷ [])) _ (phrase-Or ((g ∷ gs) ++ f ∷ []) g.at) (many_ranged (g ∷ gs) f h k)
chained-ranged grammar.conjunction (g ∷ gs) f h k = at_form g.at (form.And ((g ∷ gs) ++ f ∷ [])) _ (phrase-And ((g ∷ gs) ++ f ∷ []) g.at) (many_ranged (g ∷ gs) f h k)

summed-ranged : (before : List Added) (sign : Bool) (f : Expr) → AreAddedRanged (addends_of before) → IsRanged (phrase f) → IsRanged (phrase (summed before sign f))
summed-ranged [] sign f h k = k
summed-ranged (a ∷ terms) sign f h k =
    let split = added_split a terms h in
    at_form a.term.at (form.Sum a.term (terms ++ added sign f ∷ [])) _ (phrase-Sum a.term (terms ++ added sign f ∷ []) a.term.at) (split.0, added_ranged terms (added sign f) split.1 k)

paired-ranged : (max : Bool) (at : ℕ) (f g : Expr) → IsRanged (phrase f) → IsRanged (phrase g) → IsRanged (phrase (paired max at f g))
paired-ranged true at f g h k = at_form at (form.Max f g) _ (phrase-Max f g at) (h, k)
paired-ranged false at f g h k = at_form at (form.Min f g) _ (phrase-Min f g at) (h, k)

-- the limit on numerals is below 2^127 at most
abbrev pub IsSmall : Setting → Type 0
IsSmall s = (rest : List Lexeme) (n : ℕ) → s.small rest n ≡ true → n < 2 ^ 127

-- The endpoints of types.

negated : (n : ℕ) → unsigned_abs (neg_ℤ (pos n)) ≡ n
negated zero = refl
negated (suc n) = refl

endpoint_ranged : {s : Setting} {value : ℤ} {tokens rest : List Lexeme} → IsSmall s → Endpoint s value tokens rest → InRange value
endpoint_ranged {s} {rest = rest} b (grammar.endpoint_plain {x = x} n) = b rest (value_of s x) n.small
endpoint_ranged {s} {rest = rest} b (grammar.endpoint_minus {x = x} m n) = subst (λ z. z < 2 ^ 127) (sym (negated (value_of s x))) (b rest (value_of s x) n.small)

pub type_ranged : {s : Setting} {sort : TypeName} {tokens rest : List Lexeme} → IsSmall s → IsType s sort tokens rest → IsSortRanged (sort_of sort)
type_ranged b (grammar.type_nat x) = tt {0}
type_ranged b (grammar.type_int x) = tt {0}
type_ranged b (grammar.type_range x o l c u r) = (endpoint_ranged b l, endpoint_ranged b u)

abbrev pub AreNamesRanged : List Declared → Type 0
AreNamesRanged names = AllByRecursion IsSortRanged (sorts_of names)

pub behind_name : (names : List Declared) (n : Declared) → AreNamesRanged names → IsSortRanged (sort_of n.sort) → AreNamesRanged (names ++ n ∷ [])
behind_name [] n h k = (k, tt {0})
behind_name (m ∷ names) n h k = (h.0, behind_name names n h.1 k)

-- the last bound name, with its type, which the next one may have
pub record AreBoundRanged (sort : TypeName) (names : List Declared) : Type 0 where
  pub all : AreNamesRanged names
  pub last : IsSortRanged (sort_of sort)

bound_ranged : {s : Setting} {several : Bool} {sort : TypeName} {d e : ℕ} {names : List Declared} {tokens rest : List Lexeme} → IsSmall s → Binding s several sort d e names tokens rest
    → AreBoundRanged sort names
bound_ranged b (grammar.bound_first i n o) = let k = type_ranged b i in record { all = (k, tt {0}); last = k }
bound_ranged b (grammar.bound_next {names = names} m c n o) = let h = bound_ranged b m in record { all = behind_name names _ h.all h.last; last = h.last }
bound_ranged b (grammar.bound_line {names = names} m c i n o) = let h = bound_ranged b m in let k = type_ranged b i in record { all = behind_name names _ h.all k; last = k }

quantified-ranged : (at : ℕ) (all : Bool) (sort : TypeName) (names : List Declared) (f : Expr) → AreBoundRanged sort names → IsRanged (phrase f) → IsRanged (phrase (expr at (form.Quantified all names f)))
quantified-ranged at all sort names f h k =
    at_form at (form.Quantified all names f) _ (phrase-Quantified all names f at) (All-from_recursion IsSortRanged (sorts_of names) h.all, k)

mutual
  pub derived_ranged : {s : Setting} {d : ℕ} {part : Part} {e : Expr} {tokens rest : List Lexeme} → IsSmall s → Derives s d part e tokens rest → IsRanged (phrase e)
  derived_ranged b (grammar.right_one u) = derived_ranged b u
  derived_ranged b (grammar.right_two {r = r} {f = f} {g = g} {x = x} u t o v) = joined r f x.at g (derived_ranged b u) (derived_ranged b v)
  derived_ranged b (grammar.chain_all {c = c} {fs = fs} {f = f} m) = let both = members_ranged b m in chained-ranged c fs f both.0 both.1
  derived_ranged b (grammar.unary_not {f = f} {x = x} t o u) = at_form x.at (form.Not f) _ (phrase-Not f x.at) (derived_ranged b u)
  derived_ranged b (grammar.unary_bound {all = all} {sort = sort} {names = names} {f = f} {x = x} t n s u) = quantified-ranged x.at all sort names f (bound_ranged b n) (derived_ranged b u)
  derived_ranged b (grammar.unary_grouped {all = all} {sort = sort} {names = names} {f = f} {x = x} t o n c u) = quantified-ranged x.at all sort names f (bound_ranged b n) (derived_ranged b u)
  derived_ranged b (grammar.unary_part {f = f} {x = x} {n = n} t o p m c u) = at_form x.at (form.Part _ f) _ (phrase-Part _ f x.at) (derived_ranged b u)
  derived_ranged b (grammar.unary_rel u) = derived_ranged b u
  derived_ranged b (grammar.rel_one u) = derived_ranged b u
  derived_ranged b (grammar.rel_two {c = c} {f = f} {g = g} u t v) = at_form f.at (form.Compare c f g) _ (phrase-Compare c f g f.at) (derived_ranged b u, derived_ranged b v)
  derived_ranged b (grammar.sum_all {before = before} {sign = sign} {f = f} m) = let both = terms_ranged b m in summed-ranged before sign f both.0 both.1
  derived_ranged b (grammar.factor_minus {f = f} {x = x} t o u) = at_form x.at (form.Minus f) _ (phrase-Minus f x.at) (derived_ranged b u)
  derived_ranged b (grammar.factor_primary u) = derived_ranged b u
  derived_ranged {s} b (grammar.number {x = x} {rest = rest} t small) = at_form x.at (form.Number (pos (value_of s x))) _ (phrase-Number (pos (value_of s x)) x.at) (b rest (value_of s x) small)
  derived_ranged b (grammar.truth {b = v} {x = x} t) = at_form x.at (form.Truth v) _ (phrase-Truth v x.at) (tt {0})
  derived_ranged b (grammar.use_bare {x = x} t) = at_form x.at (form.Use _ []) _ (phrase-Use _ [] x.at) (tt {0})
  derived_ranged b (grammar.use_empty {x = x} t o p c) = at_form x.at (form.Use _ []) _ (phrase-Use _ [] x.at) (tt {0})
  derived_ranged b (grammar.use_applied {fs = fs} {f = f} {x = x} t o p m c) = let both = arguments_ranged b m in at_form x.at (form.Use _ (fs ++ f ∷ [])) _ (phrase-Use _ (fs ++ f ∷ []) x.at) (many_ranged fs f both.0 both.1)
  derived_ranged b (grammar.group {f = f} {x = x} t u) = at_form x.at (form.Group f) _ (phrase-Group f x.at) (derived_ranged b u)
  derived_ranged b (grammar.conditional {c = c} {f = f} {g = g} {x = x} t u y v z w) = at_form x.at (form.If c f g) _ (phrase-If c f g x.at) (derived_ranged b u, derived_ranged b v, derived_ranged b w)
  derived_ranged b (grammar.absolute {f = f} {x = x} t u) = at_form x.at (form.Abs f) _ (phrase-Abs f x.at) (derived_ranged b u)
  derived_ranged b (grammar.pair max {f = f} {g = g} {x = x} t o p u c v e) = paired-ranged max x.at f g (derived_ranged b u) (derived_ranged b v)
  derived_ranged b (grammar.parentheses o p u c) = derived_ranged b u

  members_ranged : {s : Setting} {d : ℕ} {c : Chain} {fs : List Expr} {f : Expr} {tokens rest : List Lexeme} → IsSmall s → Members s d c fs f tokens rest → AreRanged (phrases_of fs) × IsRanged (phrase f)
  members_ranged b (grammar.member_first u) = (tt {0}, derived_ranged b u)
  members_ranged b (grammar.member_next {fs = fs} {f = f} m t u) = let both = members_ranged b m in (many_ranged fs f both.0 both.1, derived_ranged b u)

  terms_ranged : {s : Setting} {d : ℕ} {before : List Added} {sign : Bool} {f : Expr} {tokens rest : List Lexeme} → IsSmall s → Terms s d before sign f tokens rest → AreAddedRanged (addends_of before) × IsRanged (phrase f)
  terms_ranged b (grammar.term_first u) = (tt {0}, derived_ranged b u)
  terms_ranged b (grammar.term_next {before = before} {old = old} {f = f} m t u) = let both = terms_ranged b m in (added_ranged before (added old f) both.0 both.1, derived_ranged b u)

  arguments_ranged : {s : Setting} {d : ℕ} {fs : List Expr} {f : Expr} {tokens rest : List Lexeme} → IsSmall s → Arguments s d fs f tokens rest → AreRanged (phrases_of fs) × IsRanged (phrase f)
  arguments_ranged b (grammar.argument_first u) = (tt {0}, derived_ranged b u)
  arguments_ranged b (grammar.argument_next {fs = fs} {f = f} m t u) = let both = arguments_ranged b m in (many_ranged fs f both.0 both.1, derived_ranged b u)

abbrev IsBlockRanged : Block → Type 0
IsBlockRanged (block.Problem at e) = IsRanged (phrase e)
IsBlockRanged _ = Unit {0}

-- of each block
abbrev AreBlocksRanged : List Block → Type 0
AreBlocksRanged [] = Unit {0}
AreBlocksRanged (b ∷ blocks) = IsBlockRanged b × AreBlocksRanged blocks

block_ranged : {s : Setting} {b : Block} {tokens rest : List Lexeme} → IsSmall s → Declaration s b tokens rest → IsBlockRanged b
block_ranged b (grammar.block_constants true t o n c) = tt {0}
block_ranged b (grammar.block_constants false t o n c) = tt {0}
block_ranged b (grammar.block_items true t o n c) = tt {0}
block_ranged b (grammar.block_items false t o n c) = tt {0}
block_ranged b (grammar.block_problem t o u c) = derived_ranged b u
block_ranged b (grammar.block_interpolant t o m l c) = tt {0}

behind_ranged : (blocks : List Block) (b : Block) → AreBlocksRanged blocks → IsBlockRanged b → AreBlocksRanged (blocks ++ b ∷ [])
behind_ranged [] b h k = (k, tt {0})
behind_ranged (c ∷ blocks) b h k = (h.0, behind_ranged blocks b h.1 k)

blocks_ranged : {s : Setting} {blocks : List Block} {tokens rest : List Lexeme} → IsSmall s → Blocks s blocks tokens rest → AreBlocksRanged blocks
blocks_ranged s grammar.blocks_none = tt {0}
blocks_ranged s (grammar.blocks_next {blocks = blocks} {b = b} m d n) = behind_ranged blocks b (blocks_ranged s m) (block_ranged s d)

problem_in : (blocks : List Block) → AreBlocksRanged blocks → IsRanged (problem_of blocks)
problem_in [] h = tt {0}
problem_in (block.Problem at e ∷ blocks) h = h.0
problem_in (block.Universals at names ∷ blocks) h = problem_in blocks h.1
problem_in (block.Existentials at names ∷ blocks) h = problem_in blocks h.1
problem_in (block.Functions at items ∷ blocks) h = problem_in blocks h.1
problem_in (block.Predicates at items ∷ blocks) h = problem_in blocks h.1
problem_in (block.Interpolant at sets ∷ blocks) h = problem_in blocks h.1

-- the formula of a file that is derived within the limit
pub file_ranged : {s : Setting} {f : File} {tokens : List Lexeme} → IsSmall s → IsFile s f tokens → IsRanged (problem_of f.blocks)
file_ranged b h = problem_in _ (blocks_ranged b h.blocks_are)
