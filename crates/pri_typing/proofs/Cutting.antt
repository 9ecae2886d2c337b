-- The faults of parts and of cuts, of one more in a list.
use Rattle.std.proofs.Common.{◌≡◌, ℕ, suc, ◌+◌, ◌<◌, Bool, List, [], ◌∷◌, ◌++◌, map, length, Option, Some, None, refl, sym, ap, ◌∙◌, append_assoc, take, take_all, get_or, true, false, ◌≤◌, if◌then◌else◌}
use Rattle.std.proofs.lemmas.List.{append-nil, map-append, take_more}
use Rattle.std.proofs.lemmas.Grind.{flat_map-append}
use Rattle.std.specs.List.{flat_map}
use Rattle.pri_reader.specs.declared.tree.Expr.{Expr}
use Rattle.pri_reader.specs.declared.tree.Name.{Name}
use Rattle.pri_reader.specs.declared.tree.NameSet.{NameSet}
use Rattle.pri_reader.specs.declared.tree.Block.{Block}
use Rattle.pri_typing.specs.declared.problem.TypeRefusal.{TypeRefusal}
use Rattle.pri_typing.specs.declared.problem.TypeRefusal.TheVariants.{Parts}
use Rattle.pri_typing.specs.Phrase.{Phrase, phrase, phrases, phrases_of}
use Rattle.base_texts.specs.Texts.{is_among, with_text, misses}
use Rattle.pri_typing.specs.Faults.{least, earlier}
use Rattle.pri_typing.specs.Typing.{distinct_from}
use Rattle.pri_typing.specs.Parts.{Component, components, all_components, component_faults, formula_faults, parts_at, name_faults, own_name_faults, names_of, block_faults, cut_faults}
use Rattle.pri_typing.proofs.Least.{least-append}
use Rattle.pri_typing.proofs.Faulting.{first_token_is, form_is}
use Rattle.pri_typing.proofs.Folds.{phrase-Implies}
use Rattle.pri_reader.specs.declared.tree.Form.TheVariants as f
use Rattle.pri_typing.proofs.Collecting.{distinct_from-take, distinct_from-append}

pub least-parts-take : (names : List Name) (i : ℕ) (n : Name) → i < length names
    → least (parts_at (take (i + 1) names)) ≡ earlier (least (parts_at (take i names))) (Some (Parts (get_or names i n).at))
least-parts-take names i n h = ap (λ z. least (parts_at z)) (take_more names i n h)
    ∙ ap least (map-append (λ x. Parts x.at) (take i names) (get_or names i n ∷ [])) ∙ least-append (parts_at (take i names)) _

abbrev faults_of : List Component → List TypeRefusal
faults_of = flat_map (λ c. component_faults c.what)

all_components-phrases : (plus : Bool) (ps : List Phrase) (p : Phrase) → all_components plus (phrases (ps ++ p ∷ [])) ≡ all_components plus (phrases ps) ++ components plus p
all_components-phrases plus [] p = append-nil (components plus p)
all_components-phrases plus (q ∷ ps) p =
    ap (λ z. components plus q ++ z) (all_components-phrases plus ps p) ∙ sym (append_assoc (components plus q) (all_components plus (phrases ps)) (components plus p))

pub members-take : (plus : Bool) (es : List Expr) (i : ℕ) (e : Expr) → i < length es
    → least (flat_map (λ c. component_faults c.what) (all_components plus (phrases_of (take (i + 1) es))))
    ≡ earlier (least (flat_map (λ c. component_faults c.what) (all_components plus (phrases_of (take i es))))) (least (formula_faults plus (phrase (get_or es i e))))
members-take plus es i e h = ap (λ z. least (faults_of (all_components plus (phrases_of z)))) (take_more es i e h)
    ∙ ap (λ z. least (faults_of (all_components plus (phrases z)))) (map-append phrase (take i es) (get_or es i e ∷ []))
    ∙ ap (λ z. least (faults_of z)) (all_components-phrases plus (map phrase (take i es)) (phrase (get_or es i e)))
    ∙ ap least (flat_map-append (λ c. component_faults c.what) (all_components plus (phrases_of (take i es))) (components plus (phrase (get_or es i e))))
    ∙ least-append (faults_of (all_components plus (phrases_of (take i es)))) _

-- the faults of two lists of components
pub least-components : (a b : List Component) → least (flat_map (λ c. component_faults c.what) (a ++ b))
    ≡ earlier (least (flat_map (λ c. component_faults c.what) a)) (least (flat_map (λ c. component_faults c.what) b))
least-components a b = ap least (flat_map-append (λ c. component_faults c.what) a b) ∙ least-append (faults_of a) (faults_of b)

pub blocks-take : (parts : List (List ℕ)) (existential : Bool) (blocks : List Block) (i : ℕ) (b : Block) → i < length blocks
    → least (flat_map (block_faults parts existential) (take (i + 1) blocks))
    ≡ earlier (least (flat_map (block_faults parts existential) (take i blocks))) (least (block_faults parts existential (get_or blocks i b)))
blocks-take parts existential blocks i b h = ap (λ z. least (flat_map (block_faults parts existential) z)) (take_more blocks i b h)
    ∙ ap least (flat_map-append (block_faults parts existential) (take i blocks) (get_or blocks i b ∷ []))
    ∙ ap (λ z. least (flat_map (block_faults parts existential) (take i blocks) ++ z)) (append-nil (block_faults parts existential (get_or blocks i b)))
    ∙ least-append (flat_map (block_faults parts existential) (take i blocks)) _

pub ruleset cutting = (least-append, least-parts-take, first_token_is, append-nil, members-take, least-components, blocks-take)

name_faults-append : (parts given : List (List ℕ)) (xs ys : List Name) → name_faults parts given (xs ++ ys) ≡ name_faults parts given xs ++ name_faults parts (distinct_from given xs) ys
name_faults-append parts given [] ys = refl
name_faults-append parts given (x ∷ xs) ys =
    let own = own_name_faults (is_among x.text parts) (is_among x.text given) x.at in
    ap (λ z. own ++ z) (name_faults-append parts (with_text x.text given) xs ys)
    ∙ sym (append_assoc own (name_faults parts (with_text x.text given) xs) (name_faults parts (distinct_from (with_text x.text given) xs) ys))

pub least-names : (parts given : List (List ℕ)) (xs ys : List Name)
    → least (name_faults parts given (xs ++ ys)) ≡ earlier (least (name_faults parts given xs)) (least (name_faults parts (distinct_from given xs) ys))
least-names parts given xs ys = ap least (name_faults-append parts given xs ys) ∙ least-append (name_faults parts given xs) _

pub names-take : (parts given : List (List ℕ)) (names : List Name) (i : ℕ) (n : Name) → i < length names
    → least (name_faults parts given (take (i + 1) names))
    ≡ earlier (least (name_faults parts given (take i names)))
    (least (own_name_faults (is_among (get_or names i n).text parts) (is_among (get_or names i n).text (distinct_from given (take i names))) (get_or names i n).at))
names-take parts given names i n h =
    let x = get_or names i n in
    ap (λ z. least (name_faults parts given z)) (take_more names i n h) ∙ least-names parts given (take i names) (x ∷ [])
    ∙ ap (λ z. earlier (least (name_faults parts given (take i names))) (least z)) (append-nil (own_name_faults (is_among x.text parts) (is_among x.text (distinct_from given (take i names))) x.at))

pub sets-take : (sets : List NameSet) (i : ℕ) (n : NameSet) → i < length sets → names_of (take (i + 1) sets) ≡ names_of (take i sets) ++ (get_or sets i n).names
sets-take sets i n h = ap names_of (take_more sets i n h) ∙ flat_map-append (λ s. s.names) (take i sets) (get_or sets i n ∷ [])
    ∙ ap (λ z. names_of (take i sets) ++ z) (append-nil (get_or sets i n).names)

pub ruleset naming = (least-append, names-take, sets-take, least-names, distinct_from-take, distinct_from-append)

pub implies_fault : (e l r gl gr : Expr) (plus : Bool) {first second res : Option TypeRefusal} → e.form ≡ f.Implies l r → plus ≡ true → gl ≡ l → gr ≡ r
    → first ≡ least (formula_faults false (phrase gl)) → second ≡ least (formula_faults true (phrase gr)) → res ≡ earlier first second
    → res ≡ least (formula_faults plus (phrase e))
implies_fault e l r gl gr plus {first} {second} is is_plus at_left at_right of_left of_right h =
    h ∙ ap (λ z. earlier z second) (of_left ∙ ap (λ z. least (formula_faults false (phrase z))) at_left)
    ∙ ap (earlier (least (formula_faults false (phrase l)))) (of_right ∙ ap (λ z. least (formula_faults true (phrase z))) at_right)
    ∙ sym (least-components (components false (phrase l)) (components true (phrase r)))
    ∙ ap (λ p. least (formula_faults true p)) (sym (form_is e (f.Implies l r) is ∙ phrase-Implies l r e.at))
    ∙ ap (λ b. least (formula_faults b (phrase e))) (sym is_plus)

-- the names of one more set
names_more : (sets : List NameSet) (i : ℕ) (s : NameSet) (slice : List Name) → i < length sets → s ≡ get_or sets i s → slice ≡ s.names
    → names_of (take i sets) ++ slice ≡ names_of (take (i + 1) sets)
names_more sets i s slice within is names = ap (λ z. names_of (take i sets) ++ z) (names ∙ ap (λ x. x.names) is) ∙ sym (sets-take sets i s within)

pub set_given : (sets : List NameSet) (i : ℕ) (s : NameSet) (slice : List Name) (given new : List (List ℕ)) → i < length sets → s ≡ get_or sets i s → slice ≡ s.names
    → given ≡ distinct_from [] (names_of (take i sets)) → new ≡ distinct_from given slice → new ≡ distinct_from [] (names_of (take (i + 1) sets))
set_given sets i s slice given new within is names old h = h ∙ ap (λ z. distinct_from z slice) old
    ∙ sym (distinct_from-append [] (names_of (take i sets)) slice) ∙ ap (distinct_from []) (names_more sets i s slice within is names)

pub set_fault : (parts : List (List ℕ)) (sets : List NameSet) (i : ℕ) (s : NameSet) (slice : List Name) (given : List (List ℕ)) {fault of_set res : Option TypeRefusal}
    → i < length sets → s ≡ get_or sets i s → slice ≡ s.names
    → given ≡ distinct_from [] (names_of (take i sets)) → fault ≡ least (name_faults parts [] (names_of (take i sets)))
    → of_set ≡ least (name_faults parts given slice) → res ≡ earlier fault of_set → res ≡ least (name_faults parts [] (names_of (take (i + 1) sets)))
set_fault parts sets i s slice given {fault} {of_set} within is names old before of h = h ∙ ap (λ z. earlier z of_set) before
    ∙ ap (earlier (least (name_faults parts [] (names_of (take i sets))))) (of ∙ ap (λ z. least (name_faults parts z slice)) old)
    ∙ sym (least-names parts [] (names_of (take i sets)) slice) ∙ ap (λ z. least (name_faults parts [] z)) (names_more sets i s slice within is names)

abbrev where_faulty : Bool → ℕ → List TypeRefusal
where_faulty b at = if b then Parts at ∷ [] else []

pub whole_fault : (parts given : List (List ℕ)) (existential : Bool) (at : ℕ) (sets : List NameSet) (i : ℕ) (missing : Bool) {fault res : Option TypeRefusal} → length sets ≤ i
    → given ≡ distinct_from [] (names_of (take i sets)) → fault ≡ least (name_faults parts [] (names_of (take i sets))) → missing ≡ misses parts given
    → res ≡ earlier (earlier fault (least (if missing then Parts at ∷ [] else []))) (least (if existential then Parts at ∷ [] else []))
    → res ≡ least (cut_faults parts existential at sets)
whole_fault parts given existential at sets i missing {fault} ended old before is h =
    let all : take i sets ≡ sets = take_all i sets ended in
    h ∙ ap (λ z. earlier (earlier z (least (where_faulty missing at))) (least (where_faulty existential at))) (before ∙ ap (λ z. least (name_faults parts [] (names_of z))) all)
    ∙ ap (λ z. earlier (earlier (least (name_faults parts [] (names_of sets))) (least (where_faulty z at))) (least (where_faulty existential at)))
    (is ∙ ap (misses parts) (old ∙ ap (λ z. distinct_from [] (names_of z)) all))
    ∙ ap (λ z. earlier z (least (where_faulty existential at))) (sym (least-append (name_faults parts [] (names_of sets)) (where_faulty (misses parts (distinct_from [] (names_of sets))) at)))
    ∙ sym (least-append (name_faults parts [] (names_of sets) ++ where_faulty (misses parts (distinct_from [] (names_of sets))) at) (where_faulty existential at))
