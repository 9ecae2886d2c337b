-- What an S-expression is, by its form.
use Rattle.std.proofs.Common.{◌≡◌, ℕ, List, [], ◌∷◌, map, refl, ap, ◌∙◌, sym, Some, None, Bool, ◌&&◌, true, false}
use Rattle.std.specs.List.{list_all}
use Rattle.smt_lists.specs.declared.tree.Atom.{Atom}
use Rattle.smt_lists.specs.declared.tree.Sexp.{Sexp}
use Rattle.smt_lists.specs.declared.tree.Sexp.TheVariants as s
use Rattle.smt_lists.specs.Expressions.{Expr, exprs, expr, place_of}
use Rattle.smt_lists.proofs.Folds.{expr-Atom, expr-List}
use Rattle.smt_commands.specs.Commands.{symbol_in, symbol_of, keyword_of, keyword_in, string_of, string_in, items, members_of, command_by, is_argument, is_symbol}
use Rattle.smt_commands.specs.declared.words.Word.TheVariants as w

items-exprs : (es : List Expr) → items (exprs es) ≡ es
items-exprs [] = refl
items-exprs (e ∷ es) = ap (λ z. e ∷ z) (items-exprs es)

pub symbol-Atom : (a : Atom) → symbol_of (expr (s.Atom a)) ≡ symbol_in a.at a.kind
symbol-Atom a = ap symbol_of (expr-Atom a)

pub symbol-List : (at : ℕ) (es : List Sexp) → symbol_of (expr (s.List at es)) ≡ None
symbol-List at es = ap symbol_of (expr-List at es)

pub keyword-Atom : (a : Atom) → keyword_of (expr (s.Atom a)) ≡ keyword_in a.kind
keyword-Atom a = ap keyword_of (expr-Atom a)

pub keyword-List : (at : ℕ) (es : List Sexp) → keyword_of (expr (s.List at es)) ≡ None
keyword-List at es = ap keyword_of (expr-List at es)

pub string-Atom : (a : Atom) → string_of (expr (s.Atom a)) ≡ string_in a.kind
string-Atom a = ap string_of (expr-Atom a)

pub string-List : (at : ℕ) (es : List Sexp) → string_of (expr (s.List at es)) ≡ None
string-List at es = ap string_of (expr-List at es)

pub members-Atom : (a : Atom) → members_of (expr (s.Atom a)) ≡ None
members-Atom a = ap members_of (expr-Atom a)

pub members-List : (at : ℕ) (es : List Sexp) → members_of (expr (s.List at es)) ≡ Some (map expr es)
members-List at es = ap members_of (expr-List at es) ∙ ap (λ z. Some z) (items-exprs (map expr es))

pub place-Atom : (a : Atom) → place_of (expr (s.Atom a)) ≡ a.at
place-Atom a = ap place_of (expr-Atom a)

pub place-List : (at : ℕ) (es : List Sexp) → place_of (expr (s.List at es)) ≡ at
place-List at es = ap place_of (expr-List at es)

pub ruleset views = (place-Atom, place-List, symbol-Atom, symbol-List, keyword-Atom, keyword-List, string-Atom, string-List, members-Atom, members-List)

-- whether all are arguments, one further
pub all_on : (xs : List Sexp) (x : Sexp) (more : List Sexp) (whole : Bool) → xs ≡ x ∷ more → is_argument (expr x) ≡ true
    → list_all is_argument (map expr xs) ≡ whole → list_all is_argument (map expr more) ≡ whole
all_on xs x more whole e a w =
    sym (ap (λ z. z && list_all is_argument (map expr more)) a) ∙ sym (ap (λ z. list_all is_argument (map expr z)) e) ∙ w

pub all_off : (xs : List Sexp) (x : Sexp) (more : List Sexp) (whole : Bool) → xs ≡ x ∷ more → is_argument (expr x) ≡ false
    → list_all is_argument (map expr xs) ≡ whole → false ≡ whole
all_off xs x more whole e a w =
    sym (ap (λ z. z && list_all is_argument (map expr more)) a) ∙ sym (ap (λ z. list_all is_argument (map expr z)) e) ∙ w

pub all_end : (xs : List Sexp) (whole : Bool) → xs ≡ [] → list_all is_argument (map expr xs) ≡ whole → true ≡ whole
all_end xs whole e w = sym (ap (λ z. list_all is_argument (map expr z)) e) ∙ w

-- whether all are symbols, one further
pub symbols_on : (xs : List Sexp) (x : Sexp) (more : List Sexp) (whole : Bool) → xs ≡ x ∷ more → is_symbol (expr x) ≡ true
    → list_all is_symbol (map expr xs) ≡ whole → list_all is_symbol (map expr more) ≡ whole
symbols_on xs x more whole e a w =
    sym (ap (λ z. z && list_all is_symbol (map expr more)) a) ∙ sym (ap (λ z. list_all is_symbol (map expr z)) e) ∙ w

pub symbols_off : (xs : List Sexp) (x : Sexp) (more : List Sexp) (whole : Bool) → xs ≡ x ∷ more → is_symbol (expr x) ≡ false
    → list_all is_symbol (map expr xs) ≡ whole → false ≡ whole
symbols_off xs x more whole e a w =
    sym (ap (λ z. z && list_all is_symbol (map expr more)) a) ∙ sym (ap (λ z. list_all is_symbol (map expr z)) e) ∙ w

pub symbols_end : (xs : List Sexp) (whole : Bool) → xs ≡ [] → list_all is_symbol (map expr xs) ≡ whole → true ≡ whole
symbols_end xs whole e w = sym (ap (λ z. list_all is_symbol (map expr z)) e) ∙ w

-- what is longer is not of the form
fun_too_long : (a b c : Sexp) (end : List Sexp) → (end ≡ [] → ⊥) → command_by w.DeclareFun (map expr (a ∷ b ∷ c ∷ end)) ≡ None
fun_too_long a b c [] n = absurd (n refl)
fun_too_long a b c (d ∷ end) n = refl

pub long_declaration : (xs : List Sexp) (a b c : Sexp) (end : List Sexp) → xs ≡ a ∷ b ∷ c ∷ end → (end ≡ [] → ⊥) → None ≡ command_by w.DeclareFun (map expr xs)
long_declaration xs a b c end e n = sym (ap (λ z. command_by w.DeclareFun (map expr z)) e ∙ fun_too_long a b c end n)

define_too_long : (a b c d : Sexp) (end : List Sexp) → (end ≡ [] → ⊥) → command_by w.DefineFun (map expr (a ∷ b ∷ c ∷ d ∷ end)) ≡ None
define_too_long a b c d [] n = absurd (n refl)
define_too_long a b c d (x ∷ end) n = refl

pub long_definition : (xs : List Sexp) (a b c d : Sexp) (end : List Sexp) → xs ≡ a ∷ b ∷ c ∷ d ∷ end → (end ≡ [] → ⊥) → None ≡ command_by w.DefineFun (map expr xs)
long_definition xs a b c d end e n = sym (ap (λ z. command_by w.DefineFun (map expr z)) e ∙ define_too_long a b c d end n)

const_too_long : (a b c : Sexp) (end : List Sexp) → (end ≡ [] → ⊥) → command_by w.DefineConst (map expr (a ∷ b ∷ c ∷ end)) ≡ None
const_too_long a b c [] n = absurd (n refl)
const_too_long a b c (d ∷ end) n = refl

pub long_constant : (xs : List Sexp) (a b c : Sexp) (end : List Sexp) → xs ≡ a ∷ b ∷ c ∷ end → (end ≡ [] → ⊥) → None ≡ command_by w.DefineConst (map expr xs)
long_constant xs a b c end e n = sym (ap (λ z. command_by w.DefineConst (map expr z)) e ∙ const_too_long a b c end n)
