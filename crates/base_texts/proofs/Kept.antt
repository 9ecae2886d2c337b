-- Texts that are kept as vectors.
use Rattle.std.proofs.Common.{◌≡◌, ℕ, ◌+◌, ◌<◌, Bool, true, false, ◌||◌, cond, not, List, [], ◌∷◌, ◌++◌, map, length, refl, sym, ap, ◌∙◌, arith, if◌then◌else◌, position, nat_lt, Some, None}
use Rattle.std.specs.Global.{Vec}
use Rattle.std.specs.List.{list_any, prefix_len}
use Rattle.std.proofs.lemmas.List.{length-map}
use Rattle.std.proofs.lemmas.List.Sums.{prefix_len-le-length}
use Rattle.indexmap.specs.IndexSet.{insert_key}
use Rattle.base_texts.specs.Texts.{is_among, is_text, place, with_text}

abbrev pub texts_of : List (Vec ℕ) → List (List ℕ)
texts_of = map (λ k. k.items)

pub among_is : (t : List ℕ) (ks : List (Vec ℕ)) → list_any (λ k. is_text t k.items) ks ≡ is_among t (texts_of ks)
among_is t [] = refl
among_is t (k ∷ ks) = ap (λ z. is_text t k.items || z) (among_is t ks)

prefix_is : (t : List ℕ) (ks : List (Vec ℕ)) → prefix_len (λ k. not (is_text t k.items)) ks ≡ prefix_len (λ x. not (is_text t x)) (texts_of ks)
prefix_is t [] = refl
prefix_is t (k ∷ ks) = ap (λ z. cond (not (is_text t k.items)) (1 + z) 0) (prefix_is t ks)

pub position_is : (t : List ℕ) (ks : List (Vec ℕ)) → position (λ k. is_text t k.items) ks ≡ position (is_text t) (texts_of ks)
position_is t ks = λ i. if nat_lt (prefix_is t ks i) (sym (length-map ks (λ k. k.items)) i) then Some (prefix_is t ks i) else None

map-append : (xs ys : List (Vec ℕ)) → texts_of (xs ++ ys) ≡ texts_of xs ++ texts_of ys
map-append [] ys = refl
map-append (x ∷ xs) ys = ap (λ z. x.items ∷ z) (map-append xs ys)

pub inserted_is : (ks : List (Vec ℕ)) (k : Vec ℕ) → texts_of (insert_key (λ x y. is_text x.items y.items) ks k) ≡ with_text k.items (texts_of ks)
inserted_is ks k = by (list_any (λ y. is_text k.items y.items) ks) ∙ ap (λ z. if z then texts_of ks else texts_of ks ++ k.items ∷ []) (among_is k.items ks)
  where
    by : (b : Bool) → texts_of (if b then ks else ks ++ k ∷ []) ≡ (if b then texts_of ks else texts_of ks ++ k.items ∷ [])
    by true = refl
    by false = map-append ks (k ∷ [])

-- the place of a text that is not there
pub place_missing : (t : List ℕ) (texts : List (List ℕ)) → position (is_text t) texts ≡ None → place t texts ≡ length texts
place_missing t texts h = by (nat_lt (prefix_len (λ x. not (is_text t x)) texts) (length texts)) refl h
  where
    by : (b : Bool) → nat_lt (prefix_len (λ x. not (is_text t x)) texts) (length texts) ≡ b
        → (if b then Some (prefix_len (λ x. not (is_text t x)) texts) else None) ≡ None → prefix_len (λ x. not (is_text t x)) texts ≡ length texts
    by true e k = absurd cc
    by false e k = grind (arith, e, prefix_len-le-length (λ x. not (is_text t x)) texts)
