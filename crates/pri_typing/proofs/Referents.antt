-- What a name stands for is a constant, a bound variable, or a declared symbol.
use Rattle.std.proofs.Common.{◌≡◌, ℕ, ◌+◌, ◌<◌, ◌≤◌, Bool, true, false, List, [], ◌∷◌, ◌++◌, length, Option, Some, None, refl, sym, ap, subst, ◌∙◌, arith, append_assoc, if◌then◌else◌, length-append}
use Rattle.std.specs.Option.{IfSome}
use Rattle.std.specs.List.{filter_map}
use Rattle.std.proofs.lemmas.List.Elements.{filter_map-append}
use Rattle.pri_typing.specs.declared.declaration.Kind.{Kind}
use Rattle.pri_typing.specs.declared.declaration.Kind.TheVariants.{Existential, Universal, Function, Predicate}
use Rattle.pri_typing.specs.declared.declaration.Declaration.{Declaration}
use Rattle.pri_typing.specs.declared.problem.Symbol.{Symbol}
use Rattle.pri_typing.specs.declared.symbols.Entry.{Entry}
use Rattle.pri_typing.specs.declared.scope.Referent.{Referent}
use Rattle.pri_typing.specs.declared.scope.Referent.TheVariants as referent
use Rattle.base_texts.specs.Texts.{is_text}
use Rattle.pri_typing.specs.Scope.{Scope, existentials, universals, functions, predicates, existential_text, universal_text, function_symbol, predicate_symbol, rank, entry, declared_from, constants, symbol_of, bound_or_declared, refers, depth_of}
use Rattle.pri_typing.specs.WellFormed.{HasArity}
use Rattle.pri_typing.proofs.Scopes.{depth_of-within}

-- a function has an argument
abbrev pub IsProperKind : Kind → Type 0
IsProperKind Existential = Unit {0}
IsProperKind Universal = Unit {0}
IsProperKind (Function n) = 1 ≤ n
IsProperKind (Predicate n) = Unit {0}

abbrev pub AreProper : List Declaration → Type 0
AreProper [] = Unit {0}
AreProper (d ∷ ds) = IsProperKind d.kind × AreProper ds

-- the number of a declared symbol of a kind
abbrev IsSymbol : List Declaration → Kind → ℕ → Type 0
IsSymbol ds Existential x = x < length (existentials ds)
IsSymbol ds Universal x = x < length (universals ds)
IsSymbol ds (Function n) f = HasArity (functions ds) f n × (1 ≤ n)
IsSymbol ds (Predicate n) p = HasArity (predicates ds) p n

arity_behind : (xs : List Symbol) (y : Symbol) (ys : List Symbol) → HasArity (xs ++ y ∷ ys) (length xs) y.arity
arity_behind [] y ys = refl
arity_behind (x ∷ xs) y ys = arity_behind xs y ys

shorter : (xs : List (List ℕ)) (x : List ℕ) (ys : List (List ℕ)) → length xs < length (xs ++ x ∷ ys)
shorter xs x ys = omega (arith, length-append xs (x ∷ ys))

-- a declaration after others is found with its number
at_place : (before : List Declaration) (d : Declaration) (ds : List Declaration) → IsProperKind d.kind → IsSymbol (before ++ d ∷ ds) d.kind (rank d.kind before)
at_place before d ds = by d.kind refl
  where
    by : (k : Kind) → d.kind ≡ k → IsProperKind k → IsSymbol (before ++ d ∷ ds) k (rank k before)
    by Existential e h = subst (λ z. length (existentials before) < length z)
        (sym (filter_map-append existential_text before (d ∷ ds) ∙ ap (λ k. existentials before ++ filter_map existential_text (record { at = d.at; text = d.text; kind = k } ∷ ds)) e))
        (shorter (existentials before) d.text (existentials ds))
    by Universal e h = subst (λ z. length (universals before) < length z)
        (sym (filter_map-append universal_text before (d ∷ ds) ∙ ap (λ k. universals before ++ filter_map universal_text (record { at = d.at; text = d.text; kind = k } ∷ ds)) e))
        (shorter (universals before) d.text (universals ds))
    by (Function n) e h = (
      subst (λ z. HasArity z (length (functions before)) n)
          (sym (filter_map-append function_symbol before (d ∷ ds) ∙ ap (λ k. functions before ++ filter_map function_symbol (record { at = d.at; text = d.text; kind = k } ∷ ds)) e))
          (arity_behind (functions before) (record { name = d.text; arity = n }) (functions ds)),
      h,
    )
    by (Predicate n) e h = subst (λ z. HasArity z (length (predicates before)) n)
        (sym (filter_map-append predicate_symbol before (d ∷ ds) ∙ ap (λ k. predicates before ++ filter_map predicate_symbol (record { at = d.at; text = d.text; kind = k } ∷ ds)) e))
        (arity_behind (predicates before) (record { name = d.text; arity = n }) (predicates ds))

declared_is : (text : List ℕ) (before ds : List Declaration) → AreProper ds → IfSome (declared_from before text ds) (λ e. IsSymbol (before ++ ds) e.kind e.number)
declared_is text before [] h = tt {0}
declared_is text before (d ∷ ds) h = by (is_text text d.text) (declared_is text (before ++ d ∷ []) ds h.1)
  where
    by : (b : Bool) → IfSome (declared_from (before ++ d ∷ []) text ds) (λ e. IsSymbol ((before ++ d ∷ []) ++ ds) e.kind e.number)
        → IfSome (if b then Some (entry before d.kind) else declared_from (before ++ d ∷ []) text ds) (λ e. IsSymbol (before ++ d ∷ ds) e.kind e.number)
    by true l = at_place before d ds h.0
    by false l = subst (λ z. IfSome (declared_from (before ++ d ∷ []) text ds) (λ e. IsSymbol z e.kind e.number)) (append_assoc before (d ∷ []) ds) l

-- a name below the constants and the n bound variables, or a declared symbol
abbrev pub IsReferent : List Declaration → ℕ → Option Referent → Type 0
IsReferent ds n None = Unit {0}
IsReferent ds n (Some (referent.Name x)) = x < constants ds + n
IsReferent ds n (Some (referent.Function f m)) = HasArity (functions ds) f m × (1 ≤ m)
IsReferent ds n (Some (referent.Predicate p m)) = HasArity (predicates ds) p m

symbol_is : (ds : List Declaration) (n : ℕ) (k : Kind) (x : ℕ) → IsSymbol ds k x → IsReferent ds n (Some (symbol_of ds k x))
symbol_is ds n Existential x h = omega (arith, h)
symbol_is ds n Universal x h = omega (arith, h)
symbol_is ds n (Function m) x h = h
symbol_is ds n (Predicate m) x h = h

pub referent_is : (s : Scope) (text : List ℕ) → AreProper s.declared → IsReferent s.declared (length s.bound) (refers s text)
referent_is s text h = by (depth_of text s.bound) (declared_from [] text s.declared) (depth_of-within text s.bound) (declared_is text [] s.declared h)
  where
    by : (b : Option ℕ) (d : Option Entry) → IfSome b (λ i. i < length s.bound) → IfSome d (λ e. IsSymbol s.declared e.kind e.number)
        → IsReferent s.declared (length s.bound) (bound_or_declared s.declared b d)
    by (Some i) d k l = omega (arith, k)
    by None (Some e) k l = symbol_is s.declared (length s.bound) e.kind e.number l
    by None None k l = tt {0}
