-- The least fault of a whole file, and what a file without faults poses.
use Rattle.std.proofs.Common.{◌≡◌, ℕ, ◌+◌, ◌<◌, ◌≤◌, Bool, true, false, List, [], ◌∷◌, ◌++◌, map, length, Option, None, refl, sym, ap, ◌∙◌, subst, nat_eq, ◌^◌, arith, length-append, if◌then◌else◌}
use Rattle.std.specs.List.{flat_map, list_any}
use Rattle.pri_reader.specs.declared.tree.Block.{Block}
use Rattle.pri_typing.specs.declared.declaration.Declaration.{Declaration}
use Rattle.pri_typing.specs.declared.problem.Problem.{Problem}
use Rattle.pri_typing.specs.declared.problem.TypeRefusal.{TypeRefusal}
use Rattle.pri_typing.specs.declared.problem.TypeRefusal.TheVariants.{Many, Redeclared}
use Rattle.pri_typing.specs.declared.scope.Site.{Site}
use Rattle.pri_typing.specs.declared.scope.Category.TheVariants.{Formula}
use Rattle.pri_typing.specs.Phrase.{Phrase, first_token}
use Rattle.base_texts.specs.Texts.{is_among}
use Rattle.pri_typing.specs.Scope.{declarations, existentials, universals, functions, predicates}
use Rattle.pri_typing.specs.Sites.{bound_texts, scope_at}
use Rattle.pri_typing.specs.Faults.{least, earlier, faults}
use Rattle.pri_typing.specs.Typing.{says, applications, first_of, part_names}
use Rattle.pri_typing.specs.Parts.{is_cut, formula_faults, block_faults, cuts_in}
use Rattle.base_limits.specs.Limits.{most_symbols}
use Rattle.pri_typing.specs.Files.{own_faults, declaration_faults, has_existential, parts_faults, problem_of, scope_of, file_faults, IsTyped}
use Rattle.pri_typing.specs.Limits.{IsResolvable, IsReady, IsShallow}
use Rattle.pri_typing.specs.Posed.{IsPosed}
use Rattle.pri_typing.proofs.Least.{least-append, least-none}
use Rattle.pri_typing.proofs.Faulting.{least-three}

pub parts_least : (parts : List (List ℕ)) (existential : Bool) (blocks : List Block) (p : Phrase) {own of res : Option TypeRefusal} → list_any is_cut blocks ≡ true
    → own ≡ least (formula_faults true p) → of ≡ least (flat_map (block_faults parts existential) blocks) → res ≡ earlier own of
    → res ≡ least (parts_faults parts existential blocks p)
parts_least parts existential blocks p {own} {of} asks is_own is_of h =
    h ∙ ap (λ z. earlier z of) is_own ∙ ap (earlier (least (formula_faults true p))) is_of
    ∙ sym (least-append (formula_faults true p) (flat_map (block_faults parts existential) blocks))
    ∙ ap (λ b. least (if b then formula_faults true p ++ flat_map (block_faults parts existential) blocks else [])) (sym asks)

-- the least fault of the declarations, of the formula and of the parts
abbrev pub least_at : List Block → List Declaration → List (List ℕ) → Phrase → Option TypeRefusal
least_at blocks ds parts p =
    earlier (earlier (least (declaration_faults [] ds)) (least (faults (record { declared = ds; parts = parts; bound = [] }) Formula (first_token p) p)))
    (least (parts_faults parts (has_existential ds) blocks p))

pub file_least : (blocks : List Block) (ds : List Declaration) (parts : List (List ℕ)) (p : Phrase) {r : Option TypeRefusal}
    → ds ≡ declarations blocks → parts ≡ part_names p → p ≡ problem_of blocks → r ≡ least_at blocks ds parts p → r ≡ least (file_faults (record { blocks = blocks }))
file_least blocks ds parts p e f g h = h
    ∙ ap (λ z. least_at blocks z parts p) e ∙ ap (λ z. least_at blocks (declarations blocks) z p) f ∙ ap (λ z. least_at blocks (declarations blocks) (part_names z) z) g
    ∙ sym (least-three (declaration_faults [] (declarations blocks)) (faults (scope_of blocks) Formula (first_token (problem_of blocks)) (problem_of blocks))
    (parts_faults (part_names (problem_of blocks)) (has_existential (declarations blocks)) blocks (problem_of blocks)))

-- Where there is no fault, there are at most 1,000 declarations.

left_empty : (xs ys : List TypeRefusal) → xs ++ ys ≡ [] → xs ≡ []
left_empty [] ys h = refl
left_empty (x ∷ xs) ys h = absurd cc

right_empty : (xs ys : List TypeRefusal) → xs ++ ys ≡ [] → ys ≡ []
right_empty [] ys h = h
right_empty (x ∷ xs) ys h = absurd cc

not_many : (known : Bool) (n at : ℕ) → own_faults known n at ≡ [] → nat_eq n most_symbols ≡ false
not_many known n at h = by (nat_eq n most_symbols) (right_empty (if known then Redeclared at ∷ [] else []) (if nat_eq n most_symbols then Many at ∷ [] else []) h)
  where
    by : (b : Bool) → (if b then Many at ∷ [] else []) ≡ [] → b ≡ false
    by true k = absurd cc
    by false k = refl

few : (before ds : List Declaration) → declaration_faults before ds ≡ [] → length before ≤ most_symbols → length before + length ds ≤ most_symbols
few before [] h k = omega (arith, k)
few before (d ∷ ds) h k =
    let own = own_faults (is_among d.text (map (λ b. b.text) before)) (length before) d.at in
    let other = not_many _ (length before) d.at (left_empty own (declaration_faults (before ++ d ∷ []) ds) h) in
    let room : length (before ++ d ∷ []) ≤ most_symbols = grind (arith, length-append before (d ∷ []), other, k) in
    let rest = few (before ++ d ∷ []) ds (right_empty own (declaration_faults (before ++ d ∷ []) ds) h) room in
    omega (arith, rest, length-append before (d ∷ []))

pub few_symbols : (blocks : List Block) → least (file_faults (record { blocks = blocks })) ≡ None → length (declarations blocks) ≤ most_symbols
few_symbols blocks h =
    let ds = declarations blocks in
    let typed = faults (scope_of blocks) Formula (first_token (problem_of blocks)) (problem_of blocks) in
    let parts = parts_faults (part_names (problem_of blocks)) (has_existential ds) blocks (problem_of blocks) in
    let none = left_empty (declaration_faults [] ds) typed (left_empty (declaration_faults [] ds ++ typed) parts (least-none (file_faults (record { blocks = blocks })) h)) in
    let all = few [] ds none (omega arith) in
    omega (arith, all)

-- the place of a formula of a file without faults is one where all numbers fit
pub ready_is : (blocks : List Block) (here : Site) (p : Phrase) → here.symbols.now ≡ declarations blocks → here.parts.now ≡ part_names p → bound_texts here.bound.now ≡ []
    → p ≡ problem_of blocks → IsResolvable blocks → least (file_faults (record { blocks = blocks })) ≡ None → IsReady here p
ready_is blocks here p e f g h limits none = record {
  fit = record {
    few = subst (λ z. length z ≤ most_symbols) (sym e) (few_symbols blocks none);
    countable = subst (λ z. length z < 2 ^ 32) (sym (f ∙ ap part_names h)) limits.countable;
    shallow = subst (λ z. length z ≤ 200) (sym g) (omega arith);
  };
  shallow = subst (λ z. IsShallow (length z) p) (sym g) (subst (IsShallow 0) (sym h) limits.shallow);
}

pub typed_is : (blocks : List Block) (here : Site) (p : Phrase) (q : Problem) → here.symbols.now ≡ declarations blocks → here.parts.now ≡ part_names p
    → bound_texts here.bound.now ≡ [] → p ≡ problem_of blocks → IsPosed here blocks p q → IsTyped (record { blocks = blocks }) q
typed_is blocks here p q e f g h posed =
    let scope : scope_at here ≡ scope_of blocks = λ i. record { declared = e i; parts = (f ∙ ap part_names h) i; bound = g i } in
    record {
      existentials = posed.listed.existentials_are ∙ ap existentials e;
      universals = posed.listed.universals_are ∙ ap universals e;
      functions = posed.listed.functions_are ∙ ap functions e;
      predicates = posed.listed.predicates_are ∙ ap predicates e;
      existential_types = posed.existential_types_are;
      universal_types = posed.universal_types_are;
      parts = posed.parts_are ∙ f ∙ ap part_names h;
      formula = posed.formula_is ∙ ap (λ z. says z p) scope ∙ ap (says (scope_of blocks)) h;
      cuts = posed.cuts_are ∙ ap (λ z. flat_map (cuts_in z) blocks) (sym posed.parts_are);
      first_application = posed.first_is ∙ ap (λ z. first_of (applications z p)) scope ∙ ap (λ z. first_of (applications (scope_of blocks) z)) h;
    }
