-- A whole that has the tree of a sum is one, and a sum has such a tree.
use Rattle.std.proofs.Common.{◌≡◌, ℕ, pos, Bool, true, false, List, [], ◌∷◌, ◌++◌, refl, ap, ◌∙◌}
use Rattle.pri_tokens.specs.declared.terminals.Lexeme.{Lexeme}
use Rattle.pri_reader.specs.declared.tree.Expr.{Expr}
use Rattle.pri_reader.specs.declared.tree.Form.{Form}
use Rattle.pri_reader.specs.declared.tree.Form.TheVariants as form
use Rattle.pri_reader.specs.declared.tree.Added.{Added}
use Rattle.pri_reader.specs.Grammar as grammar
use Rattle.pri_reader.specs.Grammar.{Setting, Chain, conjunction, disjunction, equivalence, implication, multiplication, Part, chain, chained, expr, factor, member, primary, rel, right, sum, summed, added, unary, value_of, whole, Derives, Members, Terms}
use Rattle.pri_typing.specs.Phrase.{Phrase, phrase_of}
use Rattle.pri_typing.proofs.Folds.{phrase-form, phrase-Number, phrase-Truth, phrase-Use, phrase-Group, phrase-If, phrase-Abs, phrase-Min, phrase-Max, phrase-Minus, phrase-Product, phrase-Sum, phrase-Compare, phrase-Not, phrase-Quantified, phrase-Part, phrase-And, phrase-Or, phrase-Implies, phrase-Iff}
use Rattle.job_least.specs.Reads.{is_sum, is_sum_phrase}

-- the tree of this form
at_form : (at : ℕ) (g : Form) (x : Phrase) (b : Bool) → phrase_of g at ≡ x → is_sum_phrase x ≡ b → is_sum (expr at g) ≡ b
at_form at g x b is h = ap is_sum_phrase (phrase-form (expr at g) ∙ is) ∙ h

-- ---- a whole with the tree of a sum

several : (c : Chain) (fs : List Expr) (f g : Expr) → is_sum (chained c (fs ++ f ∷ []) g) ≡ false
several disjunction [] f g = at_form f.at (form.Or ((f ∷ []) ++ g ∷ [])) _ false (phrase-Or ((f ∷ []) ++ g ∷ []) f.at) refl
several conjunction [] f g = at_form f.at (form.And ((f ∷ []) ++ g ∷ [])) _ false (phrase-And ((f ∷ []) ++ g ∷ []) f.at) refl
several disjunction (x ∷ fs) f g = at_form x.at (form.Or ((x ∷ (fs ++ f ∷ [])) ++ g ∷ [])) _ false (phrase-Or ((x ∷ (fs ++ f ∷ [])) ++ g ∷ []) x.at) refl
several conjunction (x ∷ fs) f g = at_form x.at (form.And ((x ∷ (fs ++ f ∷ [])) ++ g ∷ [])) _ false (phrase-And ((x ∷ (fs ++ f ∷ [])) ++ g ∷ []) x.at) refl

not_both : {A : Type 0} (b : Bool) → b ≡ false → b ≡ true → A
not_both b f t = absurd cc

chain_sum : {s : Setting} {d : ℕ} {c : Chain} {fs : List Expr} {f : Expr} {tokens rest : List Lexeme} → Members s d c fs f tokens rest → is_sum (chained c fs f) ≡ true
    → Derives s d (member c) (chained c fs f) tokens rest
chain_sum (grammar.member_first u) h = u
chain_sum {c = c} (grammar.member_next {fs = fs} {f = f} {g = g} m x u) h = not_both (is_sum (chained c (fs ++ f ∷ []) g)) (several c fs f g) h

rel_sum : {s : Setting} {d : ℕ} {e : Expr} {tokens rest : List Lexeme} → Derives s d rel e tokens rest → is_sum e ≡ true → Derives s d sum e tokens rest
rel_sum (grammar.rel_one u) h = u
rel_sum (grammar.rel_two {c = c} {f = f} {g = g} u x v) h = not_both _ (at_form f.at (form.Compare c f g) _ false (phrase-Compare c f g f.at) refl) h

unary_sum : {s : Setting} {d : ℕ} {e : Expr} {tokens rest : List Lexeme} → Derives s d unary e tokens rest → is_sum e ≡ true → Derives s d sum e tokens rest
unary_sum (grammar.unary_not {f = f} {x = x} e o u) h = not_both _ (at_form x.at (form.Not f) _ false (phrase-Not f x.at) refl) h
unary_sum (grammar.unary_bound {all = all} {names = names} {f = f} {x = x} e m c u) h = not_both _ (at_form x.at (form.Quantified all names f) _ false (phrase-Quantified all names f x.at) refl) h
unary_sum (grammar.unary_grouped {all = all} {names = names} {f = f} {x = x} e o m c u) h = not_both _ (at_form x.at (form.Quantified all names f) _ false (phrase-Quantified all names f x.at) refl) h
unary_sum {s} (grammar.unary_part {f = f} {x = x} {n = n} e o b m c u) h = not_both _ (at_form x.at (form.Part (grammar.name_of s n) f) _ false (phrase-Part (grammar.name_of s n) f x.at) refl) h
unary_sum (grammar.unary_rel u) h = rel_sum u h

conjunction_sum : {s : Setting} {d : ℕ} {e : Expr} {tokens rest : List Lexeme} → Derives s d (chain conjunction) e tokens rest → is_sum e ≡ true → Derives s d sum e tokens rest
conjunction_sum (grammar.chain_all m) h = unary_sum (chain_sum m h) h

disjunction_sum : {s : Setting} {d : ℕ} {e : Expr} {tokens rest : List Lexeme} → Derives s d (chain disjunction) e tokens rest → is_sum e ≡ true → Derives s d sum e tokens rest
disjunction_sum (grammar.chain_all m) h = conjunction_sum (chain_sum m h) h

implication_sum : {s : Setting} {d : ℕ} {e : Expr} {tokens rest : List Lexeme} → Derives s d (right implication) e tokens rest → is_sum e ≡ true → Derives s d sum e tokens rest
implication_sum (grammar.right_one u) h = disjunction_sum u h
implication_sum (grammar.right_two {f = f} {g = g} u x o v) h = not_both _ (at_form f.at (form.Implies f g) _ false (phrase-Implies f g f.at) refl) h

pub whole_sum : {s : Setting} {d : ℕ} {e : Expr} {tokens rest : List Lexeme} → Derives s d whole e tokens rest → is_sum e ≡ true → Derives s d sum e tokens rest
whole_sum (grammar.right_one u) h = implication_sum u h
whole_sum (grammar.right_two {f = f} {g = g} u x o v) h = not_both _ (at_form f.at (form.Iff f g) _ false (phrase-Iff f g f.at) refl) h

-- ---- a sum

pub sum_whole : {s : Setting} {d : ℕ} {e : Expr} {tokens rest : List Lexeme} → Derives s d sum e tokens rest → Derives s d whole e tokens rest
sum_whole u =
    grammar.right_one {r = equivalence} (grammar.right_one {r = implication}
    (grammar.chain_all {c = disjunction} {fs = []} (grammar.member_first (grammar.chain_all {c = conjunction} {fs = []} (grammar.member_first (grammar.unary_rel (grammar.rel_one u)))))))

primary_is : {s : Setting} {d : ℕ} {e : Expr} {tokens rest : List Lexeme} → Derives s d primary e tokens rest → is_sum e ≡ true
primary_is {s} (grammar.number {x = x} n small) = at_form x.at (form.Number (pos (value_of s x))) _ true (phrase-Number (pos (value_of s x)) x.at) refl
primary_is (grammar.truth {b = v} {x = x} e) = at_form x.at (form.Truth v) _ true (phrase-Truth v x.at) refl
primary_is (grammar.use_bare {x = x} e) = at_form x.at (form.Use _ []) _ true (phrase-Use _ [] x.at) refl
primary_is (grammar.use_empty {x = x} e o b c) = at_form x.at (form.Use _ []) _ true (phrase-Use _ [] x.at) refl
primary_is (grammar.use_applied {fs = fs} {f = f} {x = x} e o b m c) = at_form x.at (form.Use _ (fs ++ f ∷ [])) _ true (phrase-Use _ (fs ++ f ∷ []) x.at) refl
primary_is (grammar.group {f = f} {x = x} e u) = at_form x.at (form.Group f) _ true (phrase-Group f x.at) refl
primary_is (grammar.conditional {c = c} {f = f} {g = g} {x = x} e u y v z w) = at_form x.at (form.If c f g) _ true (phrase-If c f g x.at) refl
primary_is (grammar.absolute {f = f} {x = x} e u) = at_form x.at (form.Abs f) _ true (phrase-Abs f x.at) refl
primary_is (grammar.pair true {f = f} {g = g} {x = x} t o b u c v e) = at_form x.at (form.Max f g) _ true (phrase-Max f g x.at) refl
primary_is (grammar.pair false {f = f} {g = g} {x = x} t o b u c v e) = at_form x.at (form.Min f g) _ true (phrase-Min f g x.at) refl

factor_is : {s : Setting} {d : ℕ} {e : Expr} {tokens rest : List Lexeme} → Derives s d factor e tokens rest → is_sum e ≡ true
factor_is (grammar.factor_minus {f = f} {x = x} e o u) = at_form x.at (form.Minus f) _ true (phrase-Minus f x.at) refl
factor_is (grammar.factor_primary u) = primary_is u

product_is : {s : Setting} {d : ℕ} {e : Expr} {tokens rest : List Lexeme} → Derives s d (right multiplication) e tokens rest → is_sum e ≡ true
product_is (grammar.right_one u) = factor_is u
product_is (grammar.right_two {f = f} {g = g} {x = x} u e o v) = at_form f.at (form.Product f x.at g) _ true (phrase-Product f x.at g f.at) refl

terms_is : {s : Setting} {d : ℕ} {before : List Added} {sign : Bool} {f : Expr} {tokens rest : List Lexeme} → Terms s d before sign f tokens rest → is_sum (summed before sign f) ≡ true
terms_is (grammar.term_first u) = product_is u
terms_is (grammar.term_next {before = before} {old = old} {new = new} {f = f} {g = g} m x u) = by before
  where
    by : (xs : List Added) → is_sum (summed (xs ++ added old f ∷ []) new g) ≡ true
    by [] = at_form f.at (form.Sum f ([] ++ added new g ∷ [])) _ true (phrase-Sum f ([] ++ added new g ∷ []) f.at) refl
    by (y ∷ ys) = at_form y.term.at (form.Sum y.term ((ys ++ added old f ∷ []) ++ added new g ∷ [])) _ true (phrase-Sum y.term ((ys ++ added old f ∷ []) ++ added new g ∷ []) y.term.at) refl

pub sum_is : {s : Setting} {d : ℕ} {e : Expr} {tokens rest : List Lexeme} → Derives s d sum e tokens rest → is_sum e ≡ true
sum_is (grammar.sum_all m) = terms_is m
