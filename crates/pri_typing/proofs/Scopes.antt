-- What names stand for.
use Rattle.std.proofs.Common.{◌≡◌, ℕ, suc, ◌+◌, Bool, true, false, ◌||◌, List, [], ◌∷◌, ◌++◌, length, Option, Some, None, refl, ap, ◌∙◌, arith, is_some, if◌then◌else◌, ◌<◌, take, get_or, Bor}
use Rattle.std.proofs.lemmas.List.{take_more, length-take-le}
use Rattle.pri_reader.specs.declared.tree.Declared.{Declared}
use Rattle.base_texts.specs.Texts.{is_text}
use Rattle.pri_typing.specs.Scope.{bind, depth_of}
use Rattle.pri_typing.specs.Sites.{last_or, last_place, bound_texts}
use Rattle.pri_typing.specs.declared.scope.BoundNames.{BoundNames}
use Rattle.pri_typing.specs.declared.scope.BoundNames.TheViews as bound
use Rattle.std.specs.Option.{IfSome}

-- Bound names.

pub last_place-append : (t : List ℕ) (names : List Declared) (n : Declared) → last_place t (names ++ n ∷ []) ≡ (if is_text t n.name.text then Some (length names) else last_place t names)
last_place-append t [] n = refl
last_place-append t (x ∷ names) n = ap (λ z. last_or z first) (last_place-append t names n) ∙ by (is_text t n.name.text)
  where
    first : Option ℕ
    first = if is_text t x.name.text then Some 0 else None

    by : (b : Bool) → last_or (if b then Some (length names) else last_place t names) first ≡ (if b then Some (suc (length names)) else last_or (last_place t names) first)
    by true = refl
    by false = refl

pub last_place-more : (t : List ℕ) (names : List Declared) (i : ℕ) (n : Declared) → i < length names
    → last_place t (take (i + 1) names) ≡ (if is_text t (get_or names i n).name.text then Some i else last_place t (take i names))
last_place-more t names i n h = ap (last_place t) (take_more names i n h) ∙ last_place-append t (take i names) (get_or names i n)
    ∙ ap (λ z. if is_text t (get_or names i n).name.text then Some z else last_place t (take i names)) (length-take-le i names (omega arith))

-- the depth of a text: by its last place among the innermost names, else further out
abbrev pub depth_by : List ℕ → List (List ℕ) → Option ℕ → Option ℕ
depth_by t outer (Some i) = Some (length outer + i)
depth_by t outer None = depth_of t outer

pub depth_of-bind : (t : List ℕ) (names : List Declared) (outer : List (List ℕ)) → depth_of t (bind names outer) ≡ depth_by t outer (last_place t names)
depth_of-bind t [] outer = refl
depth_of-bind t (n ∷ names) outer = depth_of-bind t names (n.name.text ∷ outer) ∙ by (last_place t names) (is_text t n.name.text) refl
  where
    by : (r : Option ℕ) (b : Bool) → is_text t n.name.text ≡ b
        → depth_by t (n.name.text ∷ outer) r ≡ depth_by t outer (last_or r (if b then Some 0 else None))
    by (Some i) b e = ap (λ z. Some z) (omega arith)
    by None true e = ap (λ z. if z then Some (length outer) else depth_of t outer) e ∙ ap (λ z. Some z) (omega arith)
    by None false e = ap (λ z. if z then Some (length outer) else depth_of t outer) e

-- a text that the innermost names have is bound, and else it is where it is further out
pub bound_is : (t : List ℕ) (names : List Declared) (outer : List (List ℕ)) → is_some (depth_of t (bind names outer)) ≡ (is_some (last_place t names) || is_some (depth_of t outer))
bound_is t names outer = ap is_some (depth_of-bind t names outer) ∙ by (last_place t names)
  where
    by : (r : Option ℕ) → is_some (depth_by t outer r) ≡ (is_some r || is_some (depth_of t outer))
    by (Some i) = refl
    by None = refl

pub length-bind : (names : List Declared) (outer : List (List ℕ)) → length (bind names outer) ≡ length names + length outer
length-bind [] outer = omega arith
length-bind (n ∷ names) outer = length-bind names (n.name.text ∷ outer) ∙ omega arith

pub bound_more : (b : BoundNames) (names : Bor (List Declared)) (outer : Bor BoundNames) → b ≡ bound.More names outer → length (bound_texts b) ≡ length names.now + length (bound_texts outer.now)
bound_more b names outer e = ap (λ z. length (bound_texts z)) e ∙ length-bind names.now (bound_texts outer.now)

pub last_place-within : (t : List ℕ) (names : List Declared) → IfSome (last_place t names) (λ i. i < length names)
last_place-within t [] = tt
last_place-within t (n ∷ names) = by (last_place t names) (is_text t n.name.text) (last_place-within t names)
  where
    by : (r : Option ℕ) (b : Bool) → IfSome r (λ i. i < length names) → IfSome (last_or r (if b then Some 0 else None)) (λ i. i < suc (length names))
    by (Some i) b h = omega arith
    by None true h = omega arith
    by None false h = tt

pub depth_of-more : (t : List ℕ) (b : BoundNames) (names : Bor (List Declared)) (outer : Bor BoundNames) → b ≡ bound.More names outer
    → depth_of t (bound_texts b) ≡ depth_by t (bound_texts outer.now) (last_place t names.now)
depth_of-more t b names outer e = ap (λ z. depth_of t (bound_texts z)) e ∙ depth_of-bind t names.now (bound_texts outer.now)

pub depth_of-within : (t : List ℕ) (texts : List (List ℕ)) → IfSome (depth_of t texts) (λ d. d < length texts)
depth_of-within t [] = tt
depth_of-within t (x ∷ outer) = by (is_text t x) (depth_of t outer) (depth_of-within t outer)
  where
    by : (b : Bool) (r : Option ℕ) → IfSome r (λ d. d < length outer) → IfSome (if b then Some (length outer) else r) (λ d. d < suc (length outer))
    by true r h = omega arith
    by false None h = tt
    by false (Some d) h = omega arith

pub ruleset bounding = (bound_more, depth_of-more)
