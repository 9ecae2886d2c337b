-- What the innermost bound name of a text stands for, list by list.
use Rattle.std.proofs.Common.{◌≡◌, ℕ, ◌+◌, ◌<◌, Bool, true, false, List, [], ◌∷◌, ◌++◌, length, Option, Some, None, refl, sym, ap, ◌∙◌, take, get_or, if◌then◌else◌, Bor}
use Rattle.std.proofs.lemmas.List.{take_more}
use Rattle.base_texts.specs.Texts.{is_text}
use Rattle.smt_terms.specs.Operators.{found}
use Rattle.smt_names.specs.declared.body.Leaf.{Leaf}
use Rattle.smt_names.specs.declared.scope.Named.{Named}
use Rattle.smt_names.specs.declared.scope.Scope.{Scope}
use Rattle.smt_names.specs.declared.scope.Scope.TheViews as view
use Rattle.smt_names.specs.Scopes.{BoundNames, named_onto, leaves_at, or_else, last_named}

found-named_onto : (t : List ℕ) (xs : List Named) (outer : BoundNames) → found t (named_onto xs outer) ≡ or_else (last_named t xs) (found t outer)
found-named_onto t [] outer = refl
found-named_onto t (x ∷ xs) outer = found-named_onto t xs ((x.text.now, x.leaf) ∷ outer) ∙ by (last_named t xs) (is_text t x.text.now)
  where
    by : (r : Option Leaf) (b : Bool) → or_else r (if b then Some x.leaf else found t outer) ≡ or_else (or_else r (if b then Some x.leaf else None)) (found t outer)
    by (Some y) b = refl
    by None true = refl
    by None false = refl

pub found_in : (t : List ℕ) (s : Scope) (xs : Bor (List Named)) (o : Bor Scope) → s ≡ view.Names xs o → (r : Option Leaf) → r ≡ last_named t xs.now
    → found t (leaves_at s) ≡ or_else r (found t (leaves_at o.now))
found_in t s xs o is r same =
    ap (λ z. found t (leaves_at z)) is ∙ found-named_onto t xs.now (leaves_at o.now) ∙ ap (λ z. or_else z (found t (leaves_at o.now))) (sym same)

last_named-append : (t : List ℕ) (xs : List Named) (x : Named) → last_named t (xs ++ x ∷ []) ≡ (if is_text t x.text.now then Some x.leaf else last_named t xs)
last_named-append t [] x = refl
last_named-append t (y ∷ xs) x = ap (λ z. or_else z first) (last_named-append t xs x) ∙ by (is_text t x.text.now)
  where
    first : Option Leaf
    first = if is_text t y.text.now then Some y.leaf else None

    by : (b : Bool) → or_else (if b then Some x.leaf else last_named t xs) first ≡ (if b then Some x.leaf else or_else (last_named t xs) first)
    by true = refl
    by false = refl

pub one_name_more : (t : List ℕ) (xs : List Named) (i : ℕ) (d : Named) → i < length xs
    → last_named t (take (i + 1) xs) ≡ (if is_text t (get_or xs i d).text.now then Some (get_or xs i d).leaf else last_named t (take i xs))
one_name_more t xs i d h = ap (last_named t) (take_more xs i d h) ∙ last_named-append t (take i xs) (get_or xs i d)
