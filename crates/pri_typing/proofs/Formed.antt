-- The problem of a file without faults is well formed.
use Rattle.std.proofs.Common.{◌≡◌, ℕ, ◌<◌, ◌≤◌, Bool, true, false, List, [], ◌∷◌, ◌++◌, length, refl, sym, ap, subst, ◌∙◌, arith, if◌then◌else◌, Contains, All, flat_map}
use Rattle.std.specs.List.{AllByRecursion, list_any, IsDistinct}
use Rattle.std.proofs.lemmas.List.Elements.{All-nil, All-cons}
use Rattle.pri_reader.specs.declared.tree.Block.{Block}
use Rattle.pri_reader.specs.declared.tree.File.{File}
use Rattle.form_typed.specs.Formula.{formula}
use Rattle.pri_typing.specs.declared.problem.Problem.{Problem}
use Rattle.pri_typing.specs.declared.declaration.Declaration.{Declaration}
use Rattle.pri_typing.specs.declared.scope.Category.TheVariants as category
use Rattle.pri_typing.specs.Phrase.{Phrase, first_token}
use Rattle.base_texts.specs.Texts.{is_text}
use Rattle.pri_typing.specs.Scope.{declarations, functions, predicates, constants}
use Rattle.pri_typing.specs.Faults.{faults}
use Rattle.pri_typing.specs.Typing.{says, parts_in, part_names}
use Rattle.pri_typing.specs.Parts.{formula_faults, block_faults, is_cut, cuts_in}
use Rattle.pri_typing.specs.Files.{declaration_faults, problem_of, scope_of, parts_faults, file_faults, has_existential, IsTyped}
use Rattle.pri_typing.specs.Ranges.{IsRanged}
use Rattle.form_typed.specs.Sorts.{IsSortRanged}
use Rattle.pri_typing.specs.Sorts.{existential_sorts, universal_sorts}
use Rattle.pri_typing.proofs.Sorting.{existential_count, universal_count}
use Rattle.pri_typing.specs.Everywhere.{Property, Everywhere}
use Rattle.pri_typing.specs.Limits.{HasSets}
use Rattle.pri_typing.specs.WellFormed.{of_formulas, of_terms, IsNumberRanged, IsNameBelow, IsPredicateDeclared, IsFunctionDeclared, HasMember, IsLinear, IsPartBelow, IsBinderRanged, IsPartOrTruth, SignedFormula, components_of, part_numbers, formula_components, IsDivision, IsWellFormed, HasDistinctNames}
use Rattle.pri_typing.proofs.WellFormed.{nil_split, placed, formula_placed}
use Rattle.pri_typing.proofs.Everywhere.{Follows, everywhere_more}
use Rattle.pri_typing.proofs.Declared.{few_symbols, proper}
use Rattle.pri_typing.proofs.Distinct.{names_among, once_distinct, element_among}
use Rattle.pri_typing.proofs.Dividing.{AreWhole, splits}
use Rattle.pri_typing.proofs.Names.{distinct_names, names_same}
use Rattle.pri_typing.proofs.Divisions.{divisions, no_cuts, each_place}

-- Each point that is asked of a place follows from all of them.

of_numbers : (ds : List Declaration) (parts : List (List ℕ)) → Follows (placed ds parts) (of_terms IsNumberRanged)
of_numbers ds parts = record { of_formula = λ n f h. tt {0}; of_term = λ n t h. h.0 }

of_names : (ds : List Declaration) (parts : List (List ℕ)) → Follows (placed ds parts) (of_terms (IsNameBelow (constants ds)))
of_names ds parts = record { of_formula = λ n f h. tt {0}; of_term = λ n t h. h.1 }

of_functions : (ds : List Declaration) (parts : List (List ℕ)) → Follows (placed ds parts) (of_terms (IsFunctionDeclared (functions ds)))
of_functions ds parts = record { of_formula = λ n f h. tt {0}; of_term = λ n t h. h.2 }

of_sums : (ds : List Declaration) (parts : List (List ℕ)) → Follows (placed ds parts) (of_terms HasMember)
of_sums ds parts = record { of_formula = λ n f h. tt {0}; of_term = λ n t h. h.3 }

of_products : (ds : List Declaration) (parts : List (List ℕ)) → Follows (placed ds parts) (of_terms IsLinear)
of_products ds parts = record { of_formula = λ n f h. tt {0}; of_term = λ n t h. h.4 }

of_predicates : (ds : List Declaration) (parts : List (List ℕ)) → Follows (placed ds parts) (of_formulas (IsPredicateDeclared (predicates ds)))
of_predicates ds parts = record { of_formula = λ n f h. h.0; of_term = λ n t h. tt {0} }

of_parts : (ds : List Declaration) (parts : List (List ℕ)) → Follows (placed ds parts) (of_formulas (IsPartBelow (length parts)))
of_parts ds parts = record { of_formula = λ n f h. h.1; of_term = λ n t h. tt {0} }

of_binders : (ds : List Declaration) (parts : List (List ℕ)) → Follows (placed ds parts) (of_formulas IsBinderRanged)
of_binders ds parts = record { of_formula = λ n f h. h.2; of_term = λ n t h. tt {0} }

-- Cuts.

-- the blocks that ask for cuts, and the formula, have no faults
pub cut_free : (parts : List (List ℕ)) (existential : Bool) (blocks : List Block) (p : Phrase) → list_any is_cut blocks ≡ true → parts_faults parts existential blocks p ≡ []
    → (formula_faults true p ≡ []) × (flat_map (block_faults parts existential) blocks ≡ [])
cut_free parts existential blocks p e h =
    let of_blocks = flat_map (block_faults parts existential) blocks in
    nil_split (formula_faults true p) of_blocks (sym (ap (λ z. if z then formula_faults true p ++ of_blocks else []) e) ∙ h)

all_whole : (cs : List SignedFormula) → AreWhole cs → All (λ c. IsPartOrTruth c.what) cs
all_whole [] h = All-nil (λ c. IsPartOrTruth c.what)
all_whole (c ∷ cs) h = All-cons (λ c. IsPartOrTruth c.what) c cs h.0 (all_whole cs h.1)

cuts_divide : (existential : Bool) (blocks : List Block) (p : Phrase) → AllByRecursion HasSets blocks → parts_faults (part_names p) existential blocks p ≡ []
    → All (IsDivision (length (part_names p))) (flat_map (cuts_in (part_names p)) blocks)
cuts_divide existential blocks p proper_cuts h = by (list_any is_cut blocks) refl
  where
    by : (b : Bool) → list_any is_cut blocks ≡ b → All (IsDivision (length (part_names p))) (flat_map (cuts_in (part_names p)) blocks)
    by true e = divisions (part_names p) existential blocks (once_distinct [] (parts_in p) (tt {0})) proper_cuts (cut_free (part_names p) existential blocks p e h).1
    by false e = subst (All (IsDivision (length (part_names p)))) (sym (no_cuts (part_names p) blocks e)) (All-nil (IsDivision (length (part_names p))))

-- the blocks ask for a cut where there is one
pub some_cut : (parts : List (List ℕ)) (blocks : List Block) → 1 ≤ length (flat_map (cuts_in parts) blocks) → list_any is_cut blocks ≡ true
some_cut parts blocks h = by (list_any is_cut blocks) refl
  where
    by : (b : Bool) → list_any is_cut blocks ≡ b → b ≡ true
    by true e = refl
    by false e = absurd (none (subst (λ z. 1 ≤ length z) (no_cuts parts blocks e) h))
      where
        none : 1 ≤ 0 → ⊥
        none k = omega arith

divisible : (blocks : List Block) (cs : List SignedFormula) → cs ≡ formula_components true (says (scope_of blocks) (problem_of blocks)) → formula_faults true (problem_of blocks) ≡ []
    → All (λ c. IsPartOrTruth c.what) cs × ((k : ℕ) → k < length (part_names (problem_of blocks)) → Contains (part_numbers cs) k)
divisible blocks cs is e =
    let p = problem_of blocks in
    let parts = part_names p in
    let h = splits (scope_of blocks) true p e in (
      subst (All (λ c. IsPartOrTruth c.what)) (sym is) (all_whole (formula_components true (says (scope_of blocks) p)) h.whole),
      λ k l. subst (λ z. Contains (part_numbers z) k) (sym is)
          (subst (λ z. Contains z k) (sym h.numbers) (each_place parts (parts_in p) k (once_distinct [] (parts_in p) (tt {0})) l (element_among parts k l))),
    )

-- All together.

pub well_formed : (f : File) (p : Problem) → file_faults f ≡ [] → IsTyped f p → IsRanged (problem_of f.blocks) → All IsSortRanged (flat_map existential_sorts f.blocks)
    → All IsSortRanged (flat_map universal_sorts f.blocks) → AllByRecursion HasSets f.blocks → IsWellFormed p
well_formed f p e t ranged existential universal proper_cuts =
    let ds = declarations f.blocks in
    let q = problem_of f.blocks in
    let parts = part_names q in
    let s = scope_of f.blocks in
    let own = faults s category.Formula (first_token q) q in
    let front = nil_split (declaration_faults [] ds ++ own) (parts_faults parts (has_existential ds) f.blocks q) e in
    let both = nil_split (declaration_faults [] ds) own front.0 in
    let all = formula_placed s (first_token q) q (proper f.blocks) both.1 ranged (names_among [] (parts_in q)) in
    let at : (Q : Property) → Follows (placed ds parts) Q → Everywhere Q 0 (formula p.formula)
    = λ Q w. subst (Everywhere Q 0) (sym t.formula) (everywhere_more (placed ds parts) Q w 0 (says s q) all) in
    let m = ap length t.existentials in
    let k = ap length t.universals in
    let i = ap length t.functions in
    let j = ap length t.predicates in
    let few = few_symbols ds both.0 in
    let cuts_are = t.cuts ∙ ap (λ z. flat_map (cuts_in z) f.blocks) t.parts in
    record {
      few = omega (arith, m, k, i, j, few);
      existential_types = record {
        many = ap length t.existential_types ∙ existential_count f.blocks ∙ sym m;
        ranged = subst (All IsSortRanged) (sym t.existential_types) existential;
      };
      universal_types = record {
        many = ap length t.universal_types ∙ universal_count f.blocks ∙ sym k;
        ranged = subst (All IsSortRanged) (sym t.universal_types) universal;
      };
      binders = at (of_formulas IsBinderRanged) (of_binders ds parts);
      numbers = at (of_terms IsNumberRanged) (of_numbers ds parts);
      names = subst (λ z. Everywhere (of_terms (IsNameBelow z)) 0 (formula p.formula)) (omega (arith, m, k)) (at (of_terms (IsNameBelow (constants ds))) (of_names ds parts));
      predicates = subst (λ z. Everywhere (of_formulas (IsPredicateDeclared z)) 0 (formula p.formula)) (sym t.predicates) (at (of_formulas (IsPredicateDeclared (predicates ds))) (of_predicates ds parts));
      functions = subst (λ z. Everywhere (of_terms (IsFunctionDeclared z)) 0 (formula p.formula)) (sym t.functions) (at (of_terms (IsFunctionDeclared (functions ds))) (of_functions ds parts));
      sums = at (of_terms HasMember) (of_sums ds parts);
      products = at (of_terms IsLinear) (of_products ds parts);
      parts = subst (λ z. Everywhere (of_formulas (IsPartBelow (length z))) 0 (formula p.formula)) (sym t.parts) (at (of_formulas (IsPartBelow (length parts))) (of_parts ds parts));
      divisible = λ some.
          let free = cut_free parts (has_existential ds) f.blocks q (some_cut parts f.blocks (subst (λ z. 1 ≤ length z) cuts_are some)) front.1 in
          let both_points = divisible f.blocks (components_of p) (ap (formula_components true) t.formula) free.0 in
          record { parts_are_components = both_points.0; each_part = λ n l. both_points.1 n (subst (λ z. n < length z) t.parts l) };
      divided = subst (λ z. All (IsDivision (length z)) p.cuts) (sym t.parts) (subst (All (IsDivision (length parts))) (sym cuts_are) (cuts_divide (has_existential ds) f.blocks q proper_cuts front.1));
    }

-- the declarations of a file without faults have none
pub declarations_free : (f : File) → file_faults f ≡ [] → declaration_faults [] (declarations f.blocks) ≡ []
declarations_free f e =
    let ds = declarations f.blocks in
    let q = problem_of f.blocks in
    let own = faults (scope_of f.blocks) category.Formula (first_token q) q in
    (nil_split (declaration_faults [] ds) own (nil_split (declaration_faults [] ds ++ own) (parts_faults (part_names q) (has_existential ds) f.blocks q) e).0).0

pub names_differ : (f : File) (p : Problem) → file_faults f ≡ [] → IsTyped f p → HasDistinctNames p
names_differ f p e t =
    let ds = declarations f.blocks in
    subst (IsDistinct is_text) (sym (names_same ds p t.existentials t.universals t.functions t.predicates)) (distinct_names ds (declarations_free f e))
