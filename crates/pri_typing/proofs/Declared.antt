-- What a file without faults in its declarations declares.
use Rattle.std.proofs.Common.{◌≡◌, ℕ, zero, suc, ◌+◌, ◌≤◌, Bool, true, false, List, [], ◌∷◌, ◌++◌, map, length, nat_eq, refl, arith, if◌then◌else◌, length-append}
use Rattle.pri_reader.specs.declared.tree.Declared.{Declared}
use Rattle.pri_reader.specs.declared.tree.Item.{Item}
use Rattle.pri_reader.specs.declared.tree.Block.{Block}
use Rattle.pri_reader.specs.declared.tree.Block.TheVariants as block
use Rattle.pri_typing.specs.declared.problem.TypeRefusal.TheVariants.{Redeclared, Many}
use Rattle.pri_typing.specs.declared.declaration.Kind.{Kind}
use Rattle.pri_typing.specs.declared.declaration.Kind.TheVariants.{Existential, Universal, Function, Predicate}
use Rattle.pri_typing.specs.declared.declaration.Declaration.{Declaration}
use Rattle.base_texts.specs.Texts.{is_among}
use Rattle.pri_typing.specs.Scope.{existentials, universals, functions, predicates, declaration, function_kind, declared_by, declarations}
use Rattle.base_limits.specs.Limits.{most_symbols}
use Rattle.pri_typing.specs.Files.{declaration_faults, own_faults}
use Rattle.pri_typing.proofs.Referents.{IsProperKind, AreProper}
use Rattle.pri_typing.proofs.WellFormed.{nil_cons, nil_split}

own_below : (known : Bool) (n at : ℕ) → own_faults known n at ≡ [] → n ≤ most_symbols → suc n ≤ most_symbols
own_below known n at e h = by (nat_eq n most_symbols) refl (nil_split (if known then Redeclared at ∷ [] else []) (if nat_eq n most_symbols then Many at ∷ [] else []) e).1
  where
    by : (b : Bool) → nat_eq n most_symbols ≡ b → (if b then Many at ∷ [] else []) ≡ [] → suc n ≤ most_symbols
    by true k l = absurd (nil_cons (Many at) [] l)
    by false k l = grind (arith, k, h)

few_from : (before ds : List Declaration) → declaration_faults before ds ≡ [] → length before ≤ most_symbols → length before + length ds ≤ most_symbols
few_from before [] e h = omega (arith, h)
few_from before (d ∷ ds) e h =
    let own = own_faults (is_among d.text (map (λ b. b.text) before)) (length before) d.at in
    let free = nil_split own (declaration_faults (before ++ d ∷ []) ds) e in
    let long = length-append before (d ∷ []) in
    let next = own_below (is_among d.text (map (λ b. b.text) before)) (length before) d.at free.0 h in
    let rest = few_from (before ++ d ∷ []) ds free.1 (omega (arith, long, next)) in
    omega (arith, long, rest)

-- each declaration is of one kind
by_kind : (ds : List Declaration) → length (existentials ds) + length (universals ds) + length (functions ds) + length (predicates ds) ≤ length ds
by_kind [] = omega arith
by_kind (d ∷ ds) = by d.kind d.text (by_kind ds)
  where
    total : List Declaration → ℕ
    total l = length (existentials l) + length (universals l) + length (functions l) + length (predicates l)

    by : (k : Kind) (t : List ℕ) → length (existentials ds) + length (universals ds) + length (functions ds) + length (predicates ds) ≤ length ds
        → length (existentials (record { at = 0; text = t; kind = k } ∷ ds)) + length (universals (record { at = 0; text = t; kind = k } ∷ ds))
        + length (functions (record { at = 0; text = t; kind = k } ∷ ds)) + length (predicates (record { at = 0; text = t; kind = k } ∷ ds)) ≤ suc (length ds)
    by Existential t h = omega arith
    by Universal t h = omega arith
    by (Function n) t h = omega arith
    by (Predicate n) t h = omega arith

pub few_symbols : (ds : List Declaration) → declaration_faults [] ds ≡ [] → length (existentials ds) + length (universals ds) + length (functions ds) + length (predicates ds) ≤ most_symbols
few_symbols ds e = let all = few_from [] ds e (omega arith) in let kinds = by_kind ds in omega (arith, all, kinds)

-- Each declared function has an argument.

proper_append : (ds es : List Declaration) → AreProper ds → AreProper es → AreProper (ds ++ es)
proper_append [] es h k = k
proper_append (d ∷ ds) es h k = (h.0, proper_append ds es h.1 k)

proper_names : (k : Kind) → IsProperKind k → (names : List Declared) → AreProper (map (λ n. declaration k n.name) names)
proper_names k h [] = tt {0}
proper_names k h (n ∷ names) = (h, proper_names k h names)

proper_kind : (n : ℕ) → IsProperKind (function_kind n)
proper_kind zero = tt {0}
proper_kind (suc n) = omega arith

proper_functions : (items : List Item) → AreProper (map (λ i. declaration (function_kind i.arity) i.name) items)
proper_functions [] = tt {0}
proper_functions (i ∷ items) = (proper_kind i.arity, proper_functions items)

proper_predicates : (items : List Item) → AreProper (map (λ i. declaration (Predicate i.arity) i.name) items)
proper_predicates [] = tt {0}
proper_predicates (i ∷ items) = (tt {0}, proper_predicates items)

proper_block : (b : Block) → AreProper (declared_by b)
proper_block (block.Existentials at names) = proper_names Existential (tt {0}) names
proper_block (block.Universals at names) = proper_names Universal (tt {0}) names
proper_block (block.Functions at items) = proper_functions items
proper_block (block.Predicates at items) = proper_predicates items
proper_block (block.Problem at e) = tt {0}
proper_block (block.Interpolant at sets) = tt {0}

pub proper : (blocks : List Block) → AreProper (declarations blocks)
proper [] = tt {0}
proper (b ∷ blocks) = proper_append (declared_by b) (declarations blocks) (proper_block b) (proper blocks)
