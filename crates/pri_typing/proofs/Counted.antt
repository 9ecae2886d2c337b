-- A formula has no more parts than tokens.
use Rattle.std.proofs.Common.{◌≡◌, ℕ, ℤ, suc, pos, ◌+◌, ◌≤◌, Bool, true, false, List, [], ◌∷◌, ◌++◌, length, refl, ◌∙◌, ap, arith, if◌then◌else◌}
use Rattle.std.proofs.lemmas.List.{length-append}
use Rattle.pri_tokens.specs.declared.terminals.Terminal.{Terminal}
use Rattle.pri_tokens.specs.declared.terminals.Lexeme.{Lexeme}
use Rattle.pri_reader.specs.declared.tree.Name.{Name}
use Rattle.pri_reader.specs.declared.tree.TypeName.{TypeName}
use Rattle.pri_reader.specs.declared.tree.Declared.{Declared}
use Rattle.pri_reader.specs.declared.tree.Expr.{Expr}
use Rattle.pri_reader.specs.declared.tree.Form.{Form}
use Rattle.pri_reader.specs.declared.tree.Form.TheVariants as form
use Rattle.pri_reader.specs.declared.tree.Added.{Added}
use Rattle.pri_reader.specs.declared.tree.Item.{Item}
use Rattle.pri_reader.specs.declared.tree.NameSet.{NameSet}
use Rattle.pri_reader.specs.declared.tree.Block.{Block}
use Rattle.pri_reader.specs.declared.tree.Block.TheVariants as block
use Rattle.pri_reader.specs.declared.tree.File.{File}
use Rattle.pri_reader.specs.Grammar as grammar
use Rattle.pri_reader.specs.Grammar.{Setting, Right, Chain, Part, expr, join, chained, added, summed, paired, name_of, value_of, Takes, Endpoint, IsType, Binding, Derives, Members, Terms, Arguments, Names, Constants, Parameter, Parameters, Declares, Items, ItemLines, Sets, Declaration, Blocks, IsFile}
use Rattle.pri_typing.specs.Phrase.{Phrase, phrase, phrase_of, phrases_of, addends_of, and_addend}
use Rattle.pri_typing.specs.Typing.{parts_in, all_parts, addend_parts, distinct_from, part_names}
use Rattle.base_texts.specs.Texts.{is_among, with_text}
use Rattle.pri_typing.specs.Files.{problem_of}
use Rattle.pri_typing.proofs.Folds.{phrase-form, addend-term, phrase-Number, phrase-Truth, phrase-Use, phrase-Group, phrase-If, phrase-Abs, phrase-Min, phrase-Max, phrase-Minus, phrase-Product, phrase-Sum, phrase-Compare, phrase-Not, phrase-Quantified, phrase-Part, phrase-And, phrase-Or, phrase-Implies, phrase-Iff}

-- how many parts an expression has, and those of lists
abbrev count : Expr → ℕ
count e = length (parts_in (phrase e))

abbrev all_count : List Expr → ℕ
all_count es = length (all_parts (phrases_of es))

abbrev added_count : List Added → ℕ
added_count more = length (addend_parts (addends_of more))

at_form : (at : ℕ) (g : Form) (x : Phrase) (n : ℕ) → phrase_of g at ≡ x → length (parts_in x) ≡ n → count (expr at g) ≡ n
at_form at g x n is h = ap (λ p. length (parts_in p)) (phrase-form (expr at g) ∙ is) ∙ h

all_more : (es : List Expr) (e : Expr) → all_count (es ++ e ∷ []) ≡ all_count es + count e
all_more [] e = length-append (parts_in (phrase e)) [] ∙ omega arith
all_more (g ∷ es) e =
    let i = length-append (parts_in (phrase g)) (all_parts (phrases_of (es ++ e ∷ []))) in
    let j = length-append (parts_in (phrase g)) (all_parts (phrases_of es)) in
    let k = all_more es e in omega (arith, i, j, k)

added_first : (a : Added) (more : List Added) → added_count (a ∷ more) ≡ count a.term + added_count more
added_first a more = ap (λ z. length (addend_parts (and_addend z.is_minus z.term (addends_of more)))) (addend-term a) ∙ length-append (parts_in (phrase a.term)) (addend_parts (addends_of more))

added_more : (more : List Added) (a : Added) → added_count (more ++ a ∷ []) ≡ added_count more + count a.term
added_more [] a = added_first a [] ∙ omega arith
added_more (b ∷ more) a =
    let i = added_first b (more ++ a ∷ []) in let j = added_first b more in let k = added_more more a in omega (arith, i, j, k)

two : (e g : Expr) → length (parts_in (phrase e) ++ parts_in (phrase g)) ≡ count e + count g
two e g = length-append (parts_in (phrase e)) (parts_in (phrase g))

joined : (r : Right) (f : Expr) (at : ℕ) (g : Expr) → count (join r f at g) ≡ count f + count g
joined grammar.equivalence f at g = at_form f.at (form.Iff f g) _ _ (phrase-Iff f g f.at) (two f g)
joined grammar.implication f at g = at_form f.at (form.Implies f g) _ _ (phrase-Implies f g f.at) (two f g)
joined grammar.multiplication f at g = at_form f.at (form.Product f at g) _ _ (phrase-Product f at g f.at) (two f g)

chained-count : (c : Chain) (fs : List Expr) (f : Expr) → count (chained c fs f) ≡ all_count fs + count f
chained-count c [] f = omega arith
chained-count grammar.disjunction (g ∷ gs) f = at_form g.at (form.Or ((g ∷ gs) ++ f ∷ [])) _ _ (phrase-Or ((g ∷ gs) ++ f ∷ []) g.at) (all_more (g ∷ gs) f)
chained-count grammar.conjunction (g ∷ gs) f = at_form g.at (form.And ((g ∷ gs) ++ f ∷ [])) _ _ (phrase-And ((g ∷ gs) ++ f ∷ []) g.at) (all_more (g ∷ gs) f)

sum-count : (p : Expr) (terms : List Added) (at : ℕ) → count (expr at (form.Sum p terms)) ≡ count p + added_count terms
sum-count p terms at = at_form at (form.Sum p terms) _ _ (phrase-Sum p terms at) (length-append (parts_in (phrase p)) (addend_parts (addends_of terms)))

summed-count : (before : List Added) (sign : Bool) (f : Expr) → count (summed before sign f) ≡ added_count before + count f
summed-count [] sign f = omega arith
summed-count (a ∷ terms) sign f =
    let i = sum-count a.term (terms ++ added sign f ∷ []) a.term.at in
    let j = added_more terms (added sign f) in let k = added_first a terms in omega (arith, i, j, k)

paired-count : (max : Bool) (at : ℕ) (f g : Expr) → count (paired max at f g) ≡ count f + count g
paired-count true at f g = at_form at (form.Max f g) _ _ (phrase-Max f g at) (two f g)
paired-count false at f g = at_form at (form.Min f g) _ _ (phrase-Min f g at) (two f g)

three : (c f g : Expr) (at : ℕ) → count (expr at (form.If c f g)) ≡ count c + count f + count g
three c f g at =
    at_form at (form.If c f g) _ _ (phrase-If c f g at)
    (length-append (parts_in (phrase c) ++ parts_in (phrase f)) (parts_in (phrase g)) ∙ ap (λ n. n + count g) (two c f))

one : (at : ℕ) (g : Form) (e : Expr) (x : Phrase) → phrase_of g at ≡ x → parts_in x ≡ parts_in (phrase e) → count (expr at g) ≡ count e
one at g e x is h = at_form at g x (count e) is (ap length h)

none : (at : ℕ) (g : Form) (x : Phrase) → phrase_of g at ≡ x → parts_in x ≡ [] → count (expr at g) ≡ 0
none at g x is h = at_form at g x 0 is (ap length h)

-- ---- tokens
taken : {t : Terminal} {x : Lexeme} {tokens rest : List Lexeme} → Takes t x tokens rest → length tokens ≡ suc (length rest)
taken h = ap length h.parts

endpoint_tokens : {s : Setting} {value : ℤ} {tokens rest : List Lexeme} → Endpoint s value tokens rest → length rest ≤ length tokens
endpoint_tokens (grammar.endpoint_plain n) = let a = taken n.takes in omega (arith, a)
endpoint_tokens (grammar.endpoint_minus m n) = let a = taken m in let b = taken n.takes in omega (arith, a, b)

type_tokens : {s : Setting} {sort : TypeName} {tokens rest : List Lexeme} → IsType s sort tokens rest → length rest ≤ length tokens
type_tokens (grammar.type_nat x) = let a = taken x in omega (arith, a)
type_tokens (grammar.type_int x) = let a = taken x in omega (arith, a)
type_tokens (grammar.type_range x o l c u r) =
    let a = taken x in let b = taken o in let k = endpoint_tokens l in let h = taken c in let m = endpoint_tokens u in let i = taken r in omega (arith, a, b, k, h, m, i)

bound_tokens : {s : Setting} {several : Bool} {sort : TypeName} {d e : ℕ} {names : List Declared} {tokens rest : List Lexeme} → Binding s several sort d e names tokens rest → length rest ≤ length tokens
bound_tokens (grammar.bound_first i x o) = let a = type_tokens i in let b = taken x in omega (arith, a, b)
bound_tokens (grammar.bound_next m c x o) = let h = bound_tokens m in let a = taken c in let b = taken x in omega (arith, h, a, b)
bound_tokens (grammar.bound_line m c i x o) = let h = bound_tokens m in let a = taken c in let b = type_tokens i in let k = taken x in omega (arith, h, a, b, k)

mutual
  derived : {s : Setting} {d : ℕ} {part : Part} {e : Expr} {tokens rest : List Lexeme} → Derives s d part e tokens rest → count e + length rest ≤ length tokens
  derived (grammar.right_one u) = derived u
  derived (grammar.right_two {r = r} {f = f} {g = g} {x = x} u t o v) = let i = joined r f x.at g in let a = derived u in let b = taken t in let k = derived v in omega (arith, i, a, b, k)
  derived (grammar.chain_all {c = c} {fs = fs} {f = f} m) = let i = chained-count c fs f in let a = members m in omega (arith, i, a)
  derived (grammar.unary_not {f = f} {x = x} t o u) = let i = one x.at (form.Not f) f _ (phrase-Not f x.at) refl in let a = taken t in let b = derived u in omega (arith, i, a, b)
  derived (grammar.unary_bound {all = all} {names = names} {f = f} {x = x} t m c u) =
      let i = one x.at (form.Quantified all names f) f _ (phrase-Quantified all names f x.at) refl in
      let a = taken t in let b = bound_tokens m in let k = taken c in let h = derived u in omega (arith, i, a, b, k, h)
  derived (grammar.unary_grouped {all = all} {names = names} {f = f} {x = x} t o m c u) =
      let i = one x.at (form.Quantified all names f) f _ (phrase-Quantified all names f x.at) refl in
      let a = taken t in let p = taken o in let b = bound_tokens m in let k = taken c in let h = derived u in omega (arith, i, a, p, b, k, h)
  derived {s} (grammar.unary_part {f = f} {x = x} {n = n} t o p m c u) =
      let i = at_form x.at (form.Part (name_of s n) f) _ (suc (count f)) (phrase-Part (name_of s n) f x.at) refl in
      let a = taken t in let b = taken p in let k = taken m in let l = taken c in let h = derived u in omega (arith, i, a, b, k, l, h)
  derived (grammar.unary_rel u) = derived u
  derived (grammar.rel_one u) = derived u
  derived (grammar.rel_two {c = c} {f = f} {g = g} u t v) =
      let i = at_form f.at (form.Compare c f g) _ _ (phrase-Compare c f g f.at) (two f g) in let a = derived u in let b = taken t in let k = derived v in omega (arith, i, a, b, k)
  derived (grammar.sum_all {before = before} {sign = sign} {f = f} m) = let i = summed-count before sign f in let a = terms m in omega (arith, i, a)
  derived (grammar.factor_minus {f = f} {x = x} t o u) = let i = one x.at (form.Minus f) f _ (phrase-Minus f x.at) refl in let a = taken t in let b = derived u in omega (arith, i, a, b)
  derived (grammar.factor_primary u) = derived u
  derived {s} (grammar.number {x = x} t small) = let i = none x.at (form.Number (pos (value_of s x))) _ (phrase-Number (pos (value_of s x)) x.at) refl in let a = taken t in omega (arith, i, a)
  derived (grammar.truth {b = v} {x = x} t) = let i = none x.at (form.Truth v) _ (phrase-Truth v x.at) refl in let a = taken t in omega (arith, i, a)
  derived {s} (grammar.use_bare {x = x} t) = let i = none x.at (form.Use (name_of s x) []) _ (phrase-Use (name_of s x) [] x.at) refl in let a = taken t in omega (arith, i, a)
  derived {s} (grammar.use_empty {x = x} t o p c) =
      let i = none x.at (form.Use (name_of s x) []) _ (phrase-Use (name_of s x) [] x.at) refl in let a = taken t in let b = taken o in let k = taken c in omega (arith, i, a, b, k)
  derived {s} (grammar.use_applied {fs = fs} {f = f} {x = x} t o p m c) =
      let i = at_form x.at (form.Use (name_of s x) (fs ++ f ∷ [])) _ (all_count fs + count f) (phrase-Use (name_of s x) (fs ++ f ∷ []) x.at) (all_more fs f) in
      let a = taken t in let b = taken o in let h = arguments m in let k = taken c in omega (arith, i, a, b, h, k)
  derived (grammar.group {f = f} {x = x} t u) = let i = one x.at (form.Group f) f _ (phrase-Group f x.at) refl in let h = derived u in omega (arith, i, h)
  derived (grammar.conditional {c = c} {f = f} {g = g} {x = x} t u y v z w) =
      let i = three c f g x.at in let a = taken t in let b = derived u in let k = taken y in let l = derived v in let m = taken z in let h = derived w in omega (arith, i, a, b, k, l, m, h)
  derived (grammar.absolute {f = f} {x = x} t u) = let i = one x.at (form.Abs f) f _ (phrase-Abs f x.at) refl in let a = taken t in let h = derived u in omega (arith, i, a, h)
  derived (grammar.pair max {f = f} {g = g} {x = x} t o p u c v e) =
      let i = paired-count max x.at f g in let a = taken t in let b = taken o in let k = derived u in let l = taken c in let m = derived v in let h = taken e in omega (arith, i, a, b, k, l, m, h)
  derived (grammar.parentheses o p u c) = let a = taken o in let h = derived u in let k = taken c in omega (arith, a, h, k)

  members : {s : Setting} {d : ℕ} {c : Chain} {fs : List Expr} {f : Expr} {tokens rest : List Lexeme} → Members s d c fs f tokens rest → (all_count fs + count f) + length rest ≤ length tokens
  members (grammar.member_first u) = let h = derived u in omega (arith, h)
  members (grammar.member_next {fs = fs} {f = f} m t u) = let i = all_more fs f in let a = members m in let b = taken t in let k = derived u in omega (arith, i, a, b, k)

  terms : {s : Setting} {d : ℕ} {before : List Added} {sign : Bool} {f : Expr} {tokens rest : List Lexeme} → Terms s d before sign f tokens rest → (added_count before + count f) + length rest ≤ length tokens
  terms (grammar.term_first u) = let h = derived u in omega (arith, h)
  terms (grammar.term_next {before = before} {old = old} {f = f} m t u) = let i = added_more before (added old f) in let a = terms m in let b = taken t in let k = derived u in omega (arith, i, a, b, k)

  arguments : {s : Setting} {d : ℕ} {fs : List Expr} {f : Expr} {tokens rest : List Lexeme} → Arguments s d fs f tokens rest → (all_count fs + count f) + length rest ≤ length tokens
  arguments (grammar.argument_first u) = let h = derived u in omega (arith, h)
  arguments (grammar.argument_next {fs = fs} {f = f} m t u) = let i = all_more fs f in let a = arguments m in let b = taken t in let k = derived u in omega (arith, i, a, b, k)

names_tokens : {s : Setting} {names : List Name} {tokens rest : List Lexeme} → Names s names tokens rest → length rest ≤ length tokens
names_tokens (grammar.names_first t) = let a = taken t in omega (arith, a)
names_tokens (grammar.names_next m c t) = let h = names_tokens m in let a = taken c in let b = taken t in omega (arith, h, a, b)

constants_tokens : {s : Setting} {names : List Declared} {tokens rest : List Lexeme} → Constants s names tokens rest → length rest ≤ length tokens
constants_tokens grammar.constants_none = omega arith
constants_tokens (grammar.constants_line m i n c) = let h = constants_tokens m in let a = type_tokens i in let b = names_tokens n in let k = taken c in omega (arith, h, a, b, k)

parameter_tokens : {tokens rest : List Lexeme} → Parameter tokens rest → length rest ≤ length tokens
parameter_tokens (grammar.parameter_bare i) = let a = taken i in omega (arith, a)
parameter_tokens (grammar.parameter_named i x) = let a = taken i in let b = taken x in omega (arith, a, b)

parameters_tokens : {n : ℕ} {tokens rest : List Lexeme} → Parameters n tokens rest → length rest ≤ length tokens
parameters_tokens (grammar.parameters_first p) = parameter_tokens p
parameters_tokens (grammar.parameters_next m c p) = let h = parameters_tokens m in let a = taken c in let b = parameter_tokens p in omega (arith, h, a, b)

item_tokens : {s : Setting} {i : Item} {tokens rest : List Lexeme} → Declares s i tokens rest → length rest ≤ length tokens
item_tokens (grammar.item_bare x) = let a = taken x in omega (arith, a)
item_tokens (grammar.item_empty x o c) = let a = taken x in let b = taken o in let k = taken c in omega (arith, a, b, k)
item_tokens (grammar.item_applied x o p c) = let a = taken x in let b = taken o in let h = parameters_tokens p in let k = taken c in omega (arith, a, b, h, k)

items_tokens : {s : Setting} {is : List Item} {tokens rest : List Lexeme} → Items s is tokens rest → length rest ≤ length tokens
items_tokens (grammar.items_first i) = item_tokens i
items_tokens (grammar.items_next m c i) = let h = items_tokens m in let a = taken c in let b = item_tokens i in omega (arith, h, a, b)

lines_tokens : {s : Setting} {typed : Bool} {is : List Item} {tokens rest : List Lexeme} → ItemLines s typed is tokens rest → length rest ≤ length tokens
lines_tokens grammar.lines_none = omega arith
lines_tokens (grammar.line_function m i n c) = let h = lines_tokens m in let a = taken i in let b = items_tokens n in let k = taken c in omega (arith, h, a, b, k)
lines_tokens (grammar.line_predicate m n c) = let h = lines_tokens m in let b = items_tokens n in let k = taken c in omega (arith, h, b, k)

-- how many parts a block's formula has
abbrev block_count : Block → ℕ
block_count (block.Problem at e) = count e
block_count _ = 0

abbrev blocks_count : List Block → ℕ
blocks_count [] = 0
blocks_count (b ∷ blocks) = block_count b + blocks_count blocks

sets_tokens : {s : Setting} {before : List NameSet} {start : _} {names : List Name} {tokens rest : List Lexeme} → Sets s before start names tokens rest → length rest ≤ length tokens
sets_tokens (grammar.sets_first n) = names_tokens n
sets_tokens (grammar.sets_next m c n) = let h = sets_tokens m in let a = taken c in let b = names_tokens n in omega (arith, h, a, b)

block_tokens : {s : Setting} {b : Block} {tokens rest : List Lexeme} → Declaration s b tokens rest → block_count b + length rest ≤ length tokens
block_tokens (grammar.block_constants true t o n c) = let a = taken t in let b = taken o in let h = constants_tokens n in let k = taken c in omega (arith, a, b, h, k)
block_tokens (grammar.block_constants false t o n c) = let a = taken t in let b = taken o in let h = constants_tokens n in let k = taken c in omega (arith, a, b, h, k)
block_tokens (grammar.block_items true t o n c) = let a = taken t in let b = taken o in let h = lines_tokens n in let k = taken c in omega (arith, a, b, h, k)
block_tokens (grammar.block_items false t o n c) = let a = taken t in let b = taken o in let h = lines_tokens n in let k = taken c in omega (arith, a, b, h, k)
block_tokens (grammar.block_problem t o u c) = let a = taken t in let b = taken o in let h = derived u in let k = taken c in omega (arith, a, b, h, k)
block_tokens (grammar.block_interpolant t o m l c) = let a = taken t in let b = taken o in let h = sets_tokens m in let k = taken c in omega (arith, a, b, h, k)

blocks_more : (blocks : List Block) (b : Block) → blocks_count (blocks ++ b ∷ []) ≡ blocks_count blocks + block_count b
blocks_more [] b = omega arith
blocks_more (c ∷ blocks) b = let h = blocks_more blocks b in omega (arith, h)

blocks_tokens : {s : Setting} {blocks : List Block} {tokens rest : List Lexeme} → Blocks s blocks tokens rest → blocks_count blocks + length rest ≤ length tokens
blocks_tokens grammar.blocks_none = omega arith
blocks_tokens (grammar.blocks_next {blocks = blocks} {b = b} m d n) = let i = blocks_more blocks b in let h = blocks_tokens m in let k = block_tokens d in omega (arith, i, h, k)

problem_count : (blocks : List Block) → length (parts_in (problem_of blocks)) ≤ blocks_count blocks
problem_count [] = omega arith
problem_count (block.Problem at e ∷ blocks) = omega arith
problem_count (block.Universals at names ∷ blocks) = let h = problem_count blocks in omega (arith, h)
problem_count (block.Existentials at names ∷ blocks) = let h = problem_count blocks in omega (arith, h)
problem_count (block.Functions at items ∷ blocks) = let h = problem_count blocks in omega (arith, h)
problem_count (block.Predicates at items ∷ blocks) = let h = problem_count blocks in omega (arith, h)
problem_count (block.Interpolant at sets ∷ blocks) = let h = problem_count blocks in omega (arith, h)

with-length : (text : List ℕ) (before : List (List ℕ)) → length (with_text text before) ≤ suc (length before)
with-length text before = by (is_among text before)
  where
    by : (b : Bool) → length (if b then before else before ++ text ∷ []) ≤ suc (length before)
    by true = omega arith
    by false = let h = length-append before (text ∷ []) in omega (arith, h)

distinct-length : (before : List (List ℕ)) (names : List Name) → length (distinct_from before names) ≤ length before + length names
distinct-length before [] = omega arith
distinct-length before (n ∷ names) = let h = distinct-length (with_text n.text before) names in let k = with-length n.text before in omega (arith, h, k)

-- the parts of a file's formula are no more than its tokens
pub file_counted : (s : Setting) (f : File) (tokens : List Lexeme) → IsFile s f tokens → length (part_names (problem_of f.blocks)) ≤ length tokens
file_counted s f tokens h =
    let a = blocks_tokens h.blocks_are in let b = problem_count f.blocks in let k = distinct-length [] (parts_in (problem_of f.blocks)) in omega (arith, a, b, k)
