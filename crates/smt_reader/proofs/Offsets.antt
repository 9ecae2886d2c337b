-- The offsets of faults are those of the S-expressions that they are in.
use Rattle.std.proofs.Common.{ℕ, Bool, true, false, List, [], ◌∷◌, ◌++◌, Option, Some, None, nat_eq, nat_lt, if◌then◌else◌}
use Rattle.std.specs.List.{AllByRecursion}
use Rattle.smt_lists.specs.declared.tree.AtomKind.{AtomKind}
use Rattle.smt_lists.specs.declared.tree.AtomKind.TheVariants as k
use Rattle.smt_lists.specs.Expressions.{Expr, Exprs, atom, list, no_expr, and_expr, place_of}
use Rattle.smt_commands.specs.declared.refusal.ScriptRefusal.{ScriptRefusal}
use Rattle.smt_commands.specs.declared.refusal.ScriptRefusal.TheVariants as r
use Rattle.smt_commands.specs.declared.table.Entry.{Entry}
use Rattle.smt_commands.specs.Commands.{Symbol, items, symbol_in, symbol_of}
use Rattle.smt_commands.specs.Symbols.{entry_of, is_unlisted, sort_of}
use Rattle.smt_commands.specs.Least.{place_in}
use Rattle.smt_terms.specs.declared.operator.Sort.{Sort}
use Rattle.smt_terms.specs.declared.operator.Sort.TheVariants as sort
use Rattle.smt_terms.specs.declared.operator.Operator.{Operator}
use Rattle.smt_terms.specs.declared.operator.Operator.TheVariants as op
use Rattle.smt_terms.specs.declared.term.Name.{Name}
use Rattle.smt_terms.specs.declared.term.Variable.{Variable}
use Rattle.smt_terms.specs.Term.{PlacedTerm, PlacedTerms, Bindings, BoundTerm, bindings, number, large, used, let_in, quantified, annotated, ill, no_phrase, and_phrase, no_binding, and_binding, count, first_byte}
use Rattle.smt_terms.specs.Operators.{found, operator_of}
use Rattle.smt_terms.specs.Evaluation.{names_of, texts_of, with_names}
use Rattle.smt_typing.specs.declared.forms.Head.{Head}
use Rattle.smt_typing.specs.declared.forms.Head.TheVariants as head
use Rattle.smt_typing.specs.declared.operators.Need.{Need}
use Rattle.smt_typing.specs.declared.operators.Need.TheVariants as need
use Rattle.smt_typing.specs.Reading.{are_attributes, are_proper, atom_phrase, before, bindings_in, bound_by, bound_read, head_of, ill_by, let_of, let_phrase, note_of, phrase_of, phrases_in, quantified_of, quantified_phrase, use_of, variable_by, variable_of, variables_of}
use Rattle.smt_typing.specs.Sorts.{Sorts, bound_sorts, term_sort, variables}
use Rattle.smt_typing.specs.Faults.{alike_faults, arity_faults, bound_faults, branch_faults, each_faults, faults, ill_faults, kind_faults, others, product_faults, takes, use_faults, use_wants, variable_faults}

module _ (P : ℕ → Type 0) where
  -- every offset of an S-expression is so
  abbrev mutual
    pub ExprAt : Expr → Type 0
    ExprAt (atom a) = P a.at
    ExprAt (list at es) = P at × ExprsAt es

    pub ExprsAt : Exprs → Type 0
    ExprsAt no_expr = Unit {0}
    ExprsAt (and_expr e es) = ExprAt e × ExprsAt es

  -- every offset of a variable's sort, of a term
  abbrev IllAt : Option ℕ → Type 0
  IllAt None = Unit {0}
  IllAt (Some at) = P at

  abbrev VariablesAt : List Variable → Type 0
  VariablesAt [] = Unit {0}
  VariablesAt (x ∷ xs) = IllAt x.ill × VariablesAt xs

  abbrev mutual
    PhraseAt : PlacedTerm → Type 0
    PhraseAt (number at n) = P at
    PhraseAt (large at) = P at
    PhraseAt (used at x ts) = P at × P x.at × PhrasesAt ts
    PhraseAt (let_in at bs t) = P at × BindingsAt bs × PhraseAt t
    PhraseAt (quantified at all xs t) = P at × VariablesAt xs × PhraseAt t
    PhraseAt (annotated at t) = P at × PhraseAt t
    PhraseAt (ill at) = P at

    PhrasesAt : PlacedTerms → Type 0
    PhrasesAt no_phrase = Unit {0}
    PhrasesAt (and_phrase t ts) = PhraseAt t × PhrasesAt ts

    BindingsAt : Bindings → Type 0
    BindingsAt no_binding = Unit {0}
    BindingsAt (and_binding x t bs) = PhraseAt t × BindingsAt bs

  -- every fault of a list is there
  abbrev pub FaultsAt : List ScriptRefusal → Type 0
  FaultsAt = AllByRecursion (λ f. P (place_in f))

  pub both_at : (xs ys : List ScriptRefusal) → FaultsAt xs → FaultsAt ys → FaultsAt (xs ++ ys)
  both_at [] ys h l = l
  both_at (x ∷ xs) ys h l = (h.0, both_at xs ys h.1 l)

  pub expr_place : (e : Expr) → ExprAt e → P (place_of e)
  expr_place (atom a) h = h
  expr_place (list at es) h = h.0

  -- Reading.

  abbrev ReadAt : Option (List BoundTerm) → Type 0
  ReadAt None = Unit {0}
  ReadAt (Some bs) = BindingsAt (bindings bs)

  abbrev OneAt : Option BoundTerm → Type 0
  OneAt None = Unit {0}
  OneAt (Some b) = PhraseAt b.term

  abbrev pub SymbolAt : Option Symbol → Type 0
  SymbolAt None = Unit {0}
  SymbolAt (Some x) = P x.at

  abbrev OptionAt : Option (List Variable) → Type 0
  OptionAt None = Unit {0}
  OptionAt (Some xs) = VariablesAt xs

  let_at : (at : ℕ) (bs : Option (List BoundTerm)) (t : PlacedTerm) → P at → ReadAt bs → PhraseAt t → PhraseAt (let_phrase at bs t)
  let_at at None t p h l = p
  let_at at (Some bs) t p h l = by (are_proper bs)
    where
      by : (b : Bool) → PhraseAt (if b then let_in at (bindings bs) t else ill at)
      by true = (p, h, l)
      by false = p

  before_at : (b : Option BoundTerm) (bs : Option (List BoundTerm)) → OneAt b → ReadAt bs → ReadAt (before b bs)
  before_at None bs h l = tt
  before_at (Some b) None h l = tt
  before_at (Some b) (Some bs) h l = (h, l)

  bound_at : (x : Option Symbol) (t : PlacedTerm) → PhraseAt t → OneAt (bound_by x t)
  bound_at None t h = tt
  bound_at (Some x) t h = h

  quantified_at : (at : ℕ) (all : Bool) (xs : Option (List Variable)) (t : PlacedTerm) → P at → OptionAt xs → PhraseAt t → PhraseAt (quantified_phrase at all xs t)
  quantified_at at all None t p h l = p
  quantified_at at all (Some []) t p h l = p
  quantified_at at all (Some (x ∷ xs)) t p h l = (p, h, l)

  note_at : (at : ℕ) (b : Bool) (t : PlacedTerm) → P at → PhraseAt t → PhraseAt (if b then annotated at t else ill at)
  note_at at true t p h = (p, h)
  note_at at false t p h = p

  use_at : (at : ℕ) (x : Option Symbol) (ts : PlacedTerms) → P at → SymbolAt x → PhrasesAt ts → PhraseAt (use_of at x ts)
  use_at at None ts p h l = p
  use_at at (Some x) ts p h l = (p, h, l)

  atom_at : (at : ℕ) (a : AtomKind) → P at → PhraseAt (atom_phrase at a)
  atom_at at (k.Numeral n) h = h
  atom_at at k.LargeNumeral h = h
  atom_at at k.Decimal h = h
  atom_at at k.Hash h = h
  atom_at at (k.StringLiteral text) h = h
  atom_at at (k.Keyword text) h = h
  atom_at at (k.Symbol x) h = (h, h, tt)

  symbol_by : (at : ℕ) (a : AtomKind) → P at → SymbolAt (symbol_in at a)
  symbol_by at (k.Symbol x) h = h
  symbol_by at (k.Numeral n) h = tt
  symbol_by at k.LargeNumeral h = tt
  symbol_by at k.Decimal h = tt
  symbol_by at k.Hash h = tt
  symbol_by at (k.StringLiteral text) h = tt
  symbol_by at (k.Keyword text) h = tt

  pub symbol_at : (e : Expr) → ExprAt e → SymbolAt (symbol_of e)
  symbol_at (atom a) h = symbol_by a.at a.kind h
  symbol_at (list at es) h = tt

  ill_at : (o : Option Sort) (at : ℕ) → P at → IllAt (ill_by o at)
  ill_at (Some sort.Int) at h = tt
  ill_at (Some sort.Bool) at h = h
  ill_at None at h = h

  abbrev VariableAt : Option Variable → Type 0
  VariableAt None = Unit {0}
  VariableAt (Some x) = IllAt x.ill

  variable_made : (x : Option Symbol) (s : Expr) → ExprAt s → VariableAt (variable_by x s)
  variable_made None s h = tt
  variable_made (Some x) s h = ill_at (sort_of s) (place_of s) (expr_place s h)

  variable_at : (e : Expr) → ExprAt e → VariableAt (variable_of e)
  variable_at (atom a) h = tt
  variable_at (list l no_expr) h = tt
  variable_at (list l (and_expr x no_expr)) h = tt
  variable_at (list l (and_expr x (and_expr s no_expr))) h = variable_made (symbol_of x) s h.1.1.0
  variable_at (list l (and_expr x (and_expr s (and_expr e es)))) h = tt

  join_at : (x : Option Variable) (xs : Option (List Variable)) → VariableAt x → OptionAt xs → OptionAt (before x xs)
  join_at None xs h l = tt
  join_at (Some x) None h l = tt
  join_at (Some x) (Some xs) h l = (h, l)

  abbrev ListAt : List Expr → Type 0
  ListAt = AllByRecursion ExprAt

  variables_at : (es : List Expr) → ListAt es → OptionAt (variables_of es)
  variables_at [] h = tt
  variables_at (e ∷ es) h = join_at (variable_of e) (variables_of es) (variable_at e h.0) (variables_at es h.1)

  pub items_at : (es : Exprs) → ExprsAt es → ListAt (items es)
  items_at no_expr h = tt
  items_at (and_expr e es) h = (h.0, items_at es h.1)

  head_at : (at : ℕ) (h : Expr) (es : Exprs) (v : Head) → P at → SymbolAt (symbol_of h) → PhraseAt (let_of at es) → ((all : Bool) → PhraseAt (quantified_of at all es)) → PhraseAt (note_of at es) → PhrasesAt (phrases_in es)
      → PhraseAt (elim v [
        | head.Let ↦ let_of at es
        | head.Forall ↦ quantified_of at true es
        | head.Exists ↦ quantified_of at false es
        | head.Note ↦ note_of at es
        | head.Other ↦ ill at
        | head.Use ↦ use_of at (symbol_of h) (phrases_in es)
      ])
  head_at at h es head.Let p s l q n u = l
  head_at at h es head.Forall p s l q n u = q true
  head_at at h es head.Exists p s l q n u = q false
  head_at at h es head.Note p s l q n u = n
  head_at at h es head.Other p s l q n u = p
  head_at at h es head.Use p s l q n u = use_at at (symbol_of h) (phrases_in es) p s u

  mutual
    phrase_at : (e : Expr) → ExprAt e → PhraseAt (phrase_of e)
    phrase_at (atom a) h = atom_at a.at a.kind h
    phrase_at (list at no_expr) h = h.0
    phrase_at (list at (and_expr e es)) h =
        head_at at e es (head_of e) h.0 (symbol_at e h.1.0) (let_of_at at es h.0 h.1.1) (λ all. quantified_of_at at all es h.0 h.1.1) (note_of_at at es h.0 h.1.1) (phrases_at es h.1.1)

    phrases_at : (es : Exprs) → ExprsAt es → PhrasesAt (phrases_in es)
    phrases_at no_expr h = tt
    phrases_at (and_expr e es) h = (phrase_at e h.0, phrases_at es h.1)

    let_of_at : (at : ℕ) (es : Exprs) → P at → ExprsAt es → PhraseAt (let_of at es)
    let_of_at at no_expr p h = p
    let_of_at at (and_expr (atom a) es) p h = p
    let_of_at at (and_expr (list l bs) no_expr) p h = p
    let_of_at at (and_expr (list l bs) (and_expr t no_expr)) p h = let_at at (bindings_in bs) (phrase_of t) p (bindings_at bs h.0.1) (phrase_at t h.1.0)
    let_of_at at (and_expr (list l bs) (and_expr t (and_expr e es))) p h = p

    bindings_at : (es : Exprs) → ExprsAt es → ReadAt (bindings_in es)
    bindings_at no_expr h = tt
    bindings_at (and_expr e es) h = before_at (bound_read e) (bindings_in es) (read_at e h.0) (bindings_at es h.1)

    read_at : (e : Expr) → ExprAt e → OneAt (bound_read e)
    read_at (atom a) h = tt
    read_at (list l no_expr) h = tt
    read_at (list l (and_expr x no_expr)) h = tt
    read_at (list l (and_expr x (and_expr t no_expr))) h = bound_at (symbol_of x) (phrase_of t) (phrase_at t h.1.1.0)
    read_at (list l (and_expr x (and_expr t (and_expr e es)))) h = tt

    quantified_of_at : (at : ℕ) (all : Bool) (es : Exprs) → P at → ExprsAt es → PhraseAt (quantified_of at all es)
    quantified_of_at at all no_expr p h = p
    quantified_of_at at all (and_expr (atom a) es) p h = p
    quantified_of_at at all (and_expr (list l xs) no_expr) p h = p
    quantified_of_at at all (and_expr (list l xs) (and_expr t no_expr)) p h = quantified_at at all (variables_of (items xs)) (phrase_of t) p (variables_at (items xs) (items_at xs h.0.1)) (phrase_at t h.1.0)
    quantified_of_at at all (and_expr (list l xs) (and_expr t (and_expr e es))) p h = p

    note_of_at : (at : ℕ) (es : Exprs) → P at → ExprsAt es → PhraseAt (note_of at es)
    note_of_at at no_expr p h = p
    note_of_at at (and_expr t es) p h = note_at at (are_attributes (items es)) (phrase_of t) p (phrase_at t h.0)

  -- Faults.

  byte_at : (t : PlacedTerm) → PhraseAt t → P (first_byte t)
  byte_at (number at n) h = h
  byte_at (large at) h = h
  byte_at (used at x ts) h = h.0
  byte_at (let_in at bs t) h = h.0
  byte_at (quantified at all xs t) h = h.0
  byte_at (annotated at t) h = h.0
  byte_at (ill at) h = h

  kind_at : (want is : Option Sort) (at : ℕ) → P at → FaultsAt (kind_faults want is at)
  kind_at (Some sort.Int) (Some sort.Bool) at h = (h, tt)
  kind_at (Some sort.Bool) (Some sort.Int) at h = (h, tt)
  kind_at (Some sort.Int) (Some sort.Int) at h = tt
  kind_at (Some sort.Bool) (Some sort.Bool) at h = tt
  kind_at (Some sort.Int) None at h = tt
  kind_at (Some sort.Bool) None at h = tt
  kind_at None is at h = tt

  one_at : (b : Bool) (f g : ScriptRefusal) → P (place_in f) → P (place_in g) → FaultsAt (if b then f ∷ [] else g ∷ [])
  one_at true f g h l = (h, tt)
  one_at false f g h l = (l, tt)

  some_at : (b : Bool) (f : ScriptRefusal) → P (place_in f) → FaultsAt (if b then f ∷ [] else [])
  some_at true f h = (h, tt)
  some_at false f h = tt

  arity_at : (b : Bool) (at : ℕ) → P at → FaultsAt (arity_faults b at)
  arity_at true at h = tt
  arity_at false at h = (h, tt)

  product_at : (o : Operator) (at : ℕ) (ts : PlacedTerms) → P at → FaultsAt (product_faults o at ts)
  product_at op.Times at ts h = some_at (nat_lt 1 (others ts)) (r.NonLinear at) h
  product_at (op.Truth b) at ts h = tt
  product_at op.Not at ts h = tt
  product_at op.And at ts h = tt
  product_at op.Or at ts h = tt
  product_at op.Xor at ts h = tt
  product_at op.Implies at ts h = tt
  product_at op.Equal at ts h = tt
  product_at op.Distinct at ts h = tt
  product_at op.Choose at ts h = tt
  product_at (op.Compare c) at ts h = tt
  product_at op.Plus at ts h = tt
  product_at op.Minus at ts h = tt
  product_at op.Abs at ts h = tt

  used_at : (s : Option (Option Sort)) (o : Option Operator) (e : Option Entry) (x : Name) (ts : PlacedTerms) → P x.at → FaultsAt (use_faults s o e x ts)
  used_at (Some s) o e x ts h = arity_at (nat_eq (count ts) 0) x.at h
  used_at None (Some o) e x ts h = both_at (arity_faults (takes o (count ts)) x.at) (product_faults o x.at ts) (arity_at (takes o (count ts)) x.at h) (product_at o x.at ts h)
  used_at None None (Some e) x ts h = arity_at (nat_eq (count ts) e.arity) x.at h
  used_at None None None x ts h = one_at (is_unlisted x.text) (r.Profile x.at) (r.Undeclared x.at) h h

  unfit_at : (xs : List Variable) → VariablesAt xs → FaultsAt (variable_faults xs)
  unfit_at [] h = tt
  unfit_at (x ∷ xs) h = both_at (ill_faults x.ill) (variable_faults xs) (by x.ill h.0) (unfit_at xs h.1)
    where
      by : (o : Option ℕ) → IllAt o → FaultsAt (ill_faults o)
      by None l = tt
      by (Some at) l = (l, tt)

  needs_at : (n : Need) (g : List Entry) (b : Sorts) (ts : PlacedTerms) → ((want : Option Sort) → FaultsAt (each_faults g b want ts)) → FaultsAt (alike_faults g b ts) → FaultsAt (branch_faults g b ts)
      → FaultsAt (elim n [
        | need.Each want ↦ each_faults g b want ts
        | need.Alike ↦ alike_faults g b ts
        | need.Branches ↦ branch_faults g b ts
      ])
  needs_at (need.Each want) g b ts e a c = e want
  needs_at need.Alike g b ts e a c = a
  needs_at need.Branches g b ts e a c = c

  mutual
    faults_at : (g : List Entry) (b : Sorts) (t : PlacedTerm) → PhraseAt t → FaultsAt (faults g b t)
    faults_at g b (number at n) h = tt
    faults_at g b (large at) h = (h, tt)
    faults_at g b (used at x ts) h =
        both_at (use_faults (found x.text b) (operator_of x.text) (entry_of x.text g) x ts) _ (used_at (found x.text b) (operator_of x.text) (entry_of x.text g) x ts h.1)
        (needs_at (use_wants (found x.text b) (operator_of x.text) (entry_of x.text g)) g b ts (λ want. each_at g b want ts h.2) (alike_at g b ts h.2) (branch_at g b ts h.2))
    faults_at g b (let_in at bs t) h =
        let inner = with_names (names_of bs) (bound_sorts g b bs) b in
        both_at (bound_faults g b bs) (faults g inner t) (bounds_at g b bs h.1) (faults_at g inner t h.2)
    faults_at g b (quantified at all xs t) h =
        let inner = variables (texts_of xs) b in
        both_at (variable_faults xs) (faults g inner t ++ kind_faults (Some sort.Bool) (term_sort g inner t) (first_byte t)) (unfit_at xs h.1)
        (both_at (faults g inner t) (kind_faults (Some sort.Bool) (term_sort g inner t) (first_byte t)) (faults_at g inner t h.2) (kind_at (Some sort.Bool) (term_sort g inner t) (first_byte t) (byte_at t h.2)))
    faults_at g b (annotated at t) h = faults_at g b t h.1
    faults_at g b (ill at) h = (h, tt)

    each_at : (g : List Entry) (b : Sorts) (want : Option Sort) (ts : PlacedTerms) → PhrasesAt ts → FaultsAt (each_faults g b want ts)
    each_at g b want no_phrase h = tt
    each_at g b want (and_phrase t ts) h =
        both_at (faults g b t ++ kind_faults want (term_sort g b t) (first_byte t)) (each_faults g b want ts)
        (both_at (faults g b t) (kind_faults want (term_sort g b t) (first_byte t)) (faults_at g b t h.0) (kind_at want (term_sort g b t) (first_byte t) (byte_at t h.0))) (each_at g b want ts h.1)

    alike_at : (g : List Entry) (b : Sorts) (ts : PlacedTerms) → PhrasesAt ts → FaultsAt (alike_faults g b ts)
    alike_at g b no_phrase h = tt
    alike_at g b (and_phrase t ts) h = both_at (faults g b t) (each_faults g b (term_sort g b t) ts) (faults_at g b t h.0) (each_at g b (term_sort g b t) ts h.1)

    branch_at : (g : List Entry) (b : Sorts) (ts : PlacedTerms) → PhrasesAt ts → FaultsAt (branch_faults g b ts)
    branch_at g b no_phrase h = tt
    branch_at g b (and_phrase t ts) h =
        both_at (faults g b t ++ kind_faults (Some sort.Bool) (term_sort g b t) (first_byte t)) (alike_faults g b ts)
        (both_at (faults g b t) (kind_faults (Some sort.Bool) (term_sort g b t) (first_byte t)) (faults_at g b t h.0) (kind_at (Some sort.Bool) (term_sort g b t) (first_byte t) (byte_at t h.0))) (alike_at g b ts h.1)

    bounds_at : (g : List Entry) (b : Sorts) (bs : Bindings) → BindingsAt bs → FaultsAt (bound_faults g b bs)
    bounds_at g b no_binding h = tt
    bounds_at g b (and_binding x t bs) h = both_at (faults g b t) (bound_faults g b bs) (faults_at g b t h.0) (bounds_at g b bs h.1)

  -- the faults of an S-expression as a term
  pub term_at : (g : List Entry) (b : Sorts) (want : Option Sort) (e : Expr) → ExprAt e → FaultsAt (faults g b (phrase_of e) ++ kind_faults want (term_sort g b (phrase_of e)) (first_byte (phrase_of e)))
  term_at g b want e h =
      let t = phrase_at e h in
      both_at (faults g b (phrase_of e)) (kind_faults want (term_sort g b (phrase_of e)) (first_byte (phrase_of e))) (faults_at g b (phrase_of e) t) (kind_at want (term_sort g b (phrase_of e)) (first_byte (phrase_of e)) (byte_at (phrase_of e) t))
