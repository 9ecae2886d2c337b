-- What components assume, one after another.
use Rattle.std.proofs.Common.{◌≡◌, ℕ, suc, cond, ◌+◌, ◌<◌, ◌≤◌, Bool, true, false, not, ◌||◌, ◌↔◌, ℤ, nat_lt, List, [], ◌∷◌, ◌++◌, map, length, drop, get_or, append-nil, Result, Ok, Err, IsErrAnd, refl, sym, ap, ◌∙◌, subst, arith}
use Rattle.std.specs.List.{filter}
use Rattle.linear_term.specs.declared.range.TermFault.{TermFault}
use Rattle.form_typed.specs.Formula.{Formula, Formulas, formula, formulas, every, no_formula, and_formula}
use Rattle.form_typed.specs.declared.typed.Typed.{Typed}
use Rattle.form_typed.specs.Truth.{Meaning, Truth}
use Rattle.base_budget.specs.Trace.{Traced, just, next}
use Rattle.base_budget.proofs.Charging.{Left, drop-item, drop_all}
use Rattle.pri_typing.specs.declared.problem.Problem.{Problem}
use Rattle.pri_typing.specs.Problems.{assumed, assumed_by, is_part_in}
use Rattle.pri_typing.specs.WellFormed.{IsWellFormed, IsNumberRanged, IsBinderRanged, SignedFormula, components_of, formula_components, of_terms, of_formulas}
use Rattle.formula.specs.declared.calculus.Core.{Core}
use Rattle.formula.specs.Form.{Form, Forms, FormTruth, IsFormOver, conjunction, forms}
use Rattle.formula.specs.Tree.{form, forms_of}
use Rattle.formula.specs.Made.{Made}
use Rattle.form_typed.specs.declared.typed.Sort.{Sort}
use Rattle.form_encoding.specs.Encoding.{bounds, encoded, all_encoded}
use Rattle.form_encoding.specs.Extent.{Extent, measured, all_measured, above, beside, behind_atoms, nothing, extent, extents}
use Rattle.form_encoding.specs.Meaning.{AreTypedIn}
use Rattle.form_encoding.specs.Occurrences.{occurs}
use Rattle.form_encoding.specs.Root.{conditions, names_from}
use Rattle.form_encoding.specs.Problems.{append, assumed_form, constants, extended, parts_root, types, is_large}
use Rattle.form_encoding.proofs.Measuring.{measured-more, measured-junction, measured-nothing}
use Rattle.form_encoding.proofs.Extents.{extent_is}
use Rattle.form_encoding.proofs.Parts.{assumed_everywhere, parts_are, parts_over, types_many}
use Rattle.form_encoding.proofs.PartsFlat.{append-forms, extended_flat}
use Rattle.base_budget.proofs.Tracing.{next-assoc}
use Rattle.formula.proofs.Making.{made_ok, made_err}
use Rattle.function_encoding.specs.Bounds.{extents_before, kept_bounds}
use Rattle.function_encoding.specs.Encoded.{all_assumed, all_signed, is_in}
use Rattle.function_encoding.specs.Marks.{AreMarks, is_marked}
use Rattle.function_encoding.proofs.Kept.{left_over, over-two_first, behind-sum, kept-two_first, conditions-same, conditions_measured}
use Rattle.function_encoding.specs.Ranged.{HasRangedNumbers, HaveRangedNumbers}
use Rattle.function_encoding.specs.Room.{HasNamesLeft}
use Rattle.function_encoding.specs.declared.component.Component.{Component}
use Rattle.function_encoding.proofs.Encodings.{rest, rest-more, rest_none, room_beside, room_under}
use Rattle.function_encoding.proofs.Limits.{large_is}
use Rattle.function_encoding.proofs.Roots.{ranged_of, small_room}

assumed_encoded : (at : List ℕ) (n : ℕ) (plus : Bool) (f : Formula) → encoded at n true (assumed (record { plus = plus; what = f })) ≡ encoded at n (not plus) f
assumed_encoded at n true f = refl
assumed_encoded at n false f = refl

assumed_extent : (plus : Bool) (f : Formula) → extent (assumed (record { plus = plus; what = f })) ≡ extent f
assumed_extent true f = refl
assumed_extent false f = refl

assumed_ranged : (plus : Bool) (f : Formula) → HasRangedNumbers (assumed (record { plus = plus; what = f })) → HasRangedNumbers f
assumed_ranged true f h = h
assumed_ranged false f h = h

-- the extents, from the last component back
pub chosen_last : (cs : List Component) (i : ℕ) (others : Extent) → length cs ≤ i → others ≡ extents_before (all_assumed (drop i cs)) others
chosen_last cs i others le = ap (λ l. extents_before (all_assumed l) others) (sym (drop_all cs i le))

pub chosen_back : (cs : List Component) (i j : ℕ) (c : Component) (others all e new : Extent) → i ≡ j + 1 → j < length cs → c ≡ get_or cs j c → all ≡ extents_before (all_assumed (drop i cs)) others
    → e ≡ extent (formula c.what.now) → new ≡ beside e all → new ≡ extents_before (all_assumed (drop j cs)) others
chosen_back cs i j c others all e new up lt is h g n =
    n ∙ (λ k. beside (g k) (h k)) ∙ ap (λ m. beside (extent (formula c.what.now)) (extents_before (all_assumed (drop m cs)) others)) up
    ∙ ap (λ x. beside x (extents_before (all_assumed (drop (j + 1) cs)) others)) (sym (assumed_extent c.plus (formula c.what.now)))
    ∙ ap (λ l. extents_before (all_assumed l) others) (sym (drop-item cs j c lt is))

-- their encodings, from the first component on
pub chosen_next : (at : List ℕ) (n : ℕ) (cs : List Component) (i : ℕ) (c : Component) (out : List Core) (work : Traced Forms) → i < length cs → c ≡ get_or cs i c
    → Left (rest at n true (map form out) (all_assumed (drop i cs))) work
    → Left (next (encoded at n (not c.plus) (formula c.what.now)) (λ g. rest at n true (map form out ++ g ∷ []) (all_assumed (drop (i + 1) cs)))) work
chosen_next at n cs i c out work lt is h =
    subst (λ w. Left w work)
    (ap (λ l. rest at n true (map form out) (all_assumed l)) (drop-item cs i c lt is)
    ∙ rest-more at n true (map form out) (assumed (record { plus = c.plus; what = formula c.what.now })) (all_assumed (drop (i + 1) cs))
    ∙ ap (λ m. next m (λ g. rest at n true (map form out ++ g ∷ []) (all_assumed (drop (i + 1) cs)))) (assumed_encoded at n c.plus (formula c.what.now))) h

pub chosen_end : (at : List ℕ) (n : ℕ) (cs : List Component) (i : ℕ) (out : List Core) (work : Traced Forms) → length cs ≤ i → Left (rest at n true (map form out) (all_assumed (drop i cs))) work
    → Made forms_of work (Ok out)
chosen_end at n cs i out work le h = rest_none at n true out work (subst (λ l. Left (rest at n true (map form out) (all_assumed l)) work) (drop_all cs i le) h)

pub chosen_ranged : (cs : List Component) (i : ℕ) (c : Component) → i < length cs → c ≡ get_or cs i c → HaveRangedNumbers (all_assumed (drop i cs))
    → HasRangedNumbers (formula c.what.now) × HaveRangedNumbers (all_assumed (drop (i + 1) cs))
chosen_ranged cs i c lt is h =
    let r = subst (λ l. HaveRangedNumbers (all_assumed l)) (drop-item cs i c lt is) h in (assumed_ranged c.plus (formula c.what.now) r.0, r.1)

pub chosen_room : (n : ℕ) (cs : List Component) (i : ℕ) (c : Component) → i < length cs → c ≡ get_or cs i c → HasNamesLeft n (extents (all_assumed (drop i cs)))
    → HasNamesLeft n (extent (formula c.what.now)) × HasNamesLeft n (extents (all_assumed (drop (i + 1) cs)))
chosen_room n cs i c lt is h =
    let r = room_beside n (extent (assumed (record { plus = c.plus; what = formula c.what.now }))) (extents (all_assumed (drop (i + 1) cs)))
    (subst (λ l. HasNamesLeft n (extents (all_assumed l))) (drop-item cs i c lt is) h) in
    (subst (HasNamesLeft n) (assumed_extent c.plus (formula c.what.now)) r.0, r.1)

-- the components of a set are what its parts assume
pub chosen_are : (p : Problem) (set : List ℕ) (cs : List Component) → all_signed cs ≡ filter (λ c. is_part_in set c.what) (components_of p) → every (all_assumed cs) ≡ assumed_by p set
chosen_are p set cs e = ap (λ l. every (formulas (map assumed l))) e

append_measured : (at : List ℕ) (n : ℕ) (fs : Formulas) (hs : List Form) (a : Extent) → all_measured (forms hs) ≡ a
    → all_measured (append (all_encoded at n true fs).value hs) ≡ extents_before fs a
unfolding next just
append_measured at n no_formula hs a p = p
append_measured at n (and_formula f fs) hs a p =
    measured-more (encoded at n true f).value (append (all_encoded at n true fs).value hs) (extent f) (extents_before fs a) (extent_is f at n true) (append_measured at n fs hs a p)

abbrev chosen_formulas : Problem → List ℕ → Formulas
chosen_formulas p set = formulas (map assumed (filter (λ (c : SignedFormula). is_part_in set c.what) (components_of p)))

own_measured : (p : Problem) (kept : ℕ → Bool) → all_measured (forms (conditions kept 0 (types p)).value) ≡ behind_atoms (kept_bounds kept 0 (types p)) nothing
own_measured p kept =
    let hs : List Form = (conditions kept 0 (types p)).value in
    ap (λ l. all_measured (forms l)) (sym (append-nil hs)) ∙ conditions_measured kept 0 (types p) [] nothing measured-nothing

pub parts_extent : (p : Problem) (set : List ℕ)
    → measured (parts_root p set).value ≡ above (extents_before (chosen_formulas p set) (behind_atoms (kept_bounds (λ x. occurs x (assumed_by p set)) 0 (types p)) nothing))
unfolding next just
parts_extent p set =
    let kept : ℕ → Bool = λ x. occurs x (assumed_by p set) in
    let members : Forms = (all_encoded (names_from 0 (constants p)) (constants p) true (chosen_formulas p set)).value in
    let own : Extent = behind_atoms (kept_bounds kept 0 (types p)) nothing in
    measured-junction true (append members (conditions kept 0 (types p)).value) (extents_before (chosen_formulas p set) own)
    (append_measured (names_from 0 (constants p)) (constants p) (chosen_formulas p set) (conditions kept 0 (types p)).value own (own_measured p kept))

-- the marks say which constants stand in what parts assume
marks_agree : (p : Problem) (set : List ℕ) (marks : List Bool) → IsWellFormed p → AreMarks (constants p) (assumed_by p set) marks
    → (y : ℕ) → y < 0 + length (types p) → is_marked marks y ≡ occurs y (assumed_by p set)
marks_agree p set marks formed m y lt = m.exact y (let many = types_many p formed in omega (arith, lt, many))

marked_conditions : (p : Problem) (set : List ℕ) (marks : List Bool) → IsWellFormed p → AreMarks (constants p) (assumed_by p set) marks
    → conditions (λ x. is_marked marks x) 0 (types p) ≡ conditions (λ x. occurs x (assumed_by p set)) 0 (types p)
marked_conditions p set marks formed m = conditions-same (λ x. is_marked marks x) (λ x. occurs x (assumed_by p set)) 0 (types p) (marks_agree p set marks formed m)

-- the extent of the conditions of the constants that are marked
abbrev pub marked_extent : Problem → List Bool → Extent
marked_extent p marks = behind_atoms (kept_bounds (λ x. is_marked marks x) 0 (types p)) nothing

same_bounds : (kept other : ℕ → Bool) (x : ℕ) (ss : List Sort) → ((y : ℕ) → y < x + length ss → kept y ≡ other y) → kept_bounds kept x ss ≡ kept_bounds other x ss
same_bounds kept other x [] h = refl
same_bounds kept other x (s ∷ ss) h =
    let own : kept x ≡ other x = h x (omega arith) in
    let rest = same_bounds kept other (suc x) ss (λ y lt. h y (omega (arith, lt))) in
    λ i. cond (own i) (length (bounds s)) 0 + rest i

pub parts_measured : (p : Problem) (set : List ℕ) (marks : List Bool) → IsWellFormed p → AreMarks (constants p) (assumed_by p set) marks
    → measured (parts_root p set).value ≡ above (extents_before (chosen_formulas p set) (marked_extent p marks))
parts_measured p set marks formed m =
    parts_extent p set
    ∙ ap (λ k. above (extents_before (chosen_formulas p set) (behind_atoms k nothing)))
    (sym (same_bounds (λ x. is_marked marks x) (λ x. occurs x (assumed_by p set)) 0 (types p) (marks_agree p set marks formed m)))

pub parts_large : (p : Problem) (set : List ℕ) (marks : List Bool) (cs : List Component) (e : Extent) → IsWellFormed p → AreMarks (constants p) (assumed_by p set) marks
    → all_signed cs ≡ filter (λ c. is_part_in set c.what) (components_of p) → e ≡ above (extents_before (all_assumed cs) (marked_extent p marks))
    → (nat_lt 1000000 e.nodes || nat_lt 2000 e.levels) ≡ is_large (parts_root p set).value
parts_large p set marks cs e formed m chosen is =
    large_is (parts_root p set).value e
    (parts_measured p set marks formed m ∙ ap (λ l. above (extents_before (formulas (map assumed l)) (marked_extent p marks))) (sym chosen) ∙ sym is)

pub parts_ranged : (p : Problem) (set : List ℕ) (cs : List Component) → IsWellFormed p → all_signed cs ≡ filter (λ c. is_part_in set c.what) (components_of p) → HaveRangedNumbers (all_assumed cs)
parts_ranged p set cs formed chosen =
    subst HasRangedNumbers (sym (chosen_are p set cs chosen))
    (ranged_of 0 (assumed_by p set) (assumed_everywhere (of_terms IsNumberRanged) (record { nots = λ f. tt; everies = λ fs. tt }) p set formed.numbers)
    (assumed_everywhere (of_formulas IsBinderRanged) (record { nots = λ f. tt; everies = λ fs. tt }) p set formed.binders))

before_levels : (fs : Formulas) (e : Extent) → (extents fs).levels ≤ (extents_before fs e).levels
before_levels no_formula e = omega arith
before_levels (and_formula f fs) e = let rest = before_levels fs e in omega (arith, rest)

less_room : (n : ℕ) (a b : Extent) → a.levels ≤ b.levels → HasNamesLeft n b → HasNamesLeft n a
less_room n a b le h = omega (arith, le, h)

pub parts_room : (p : Problem) (set : List ℕ) (marks : List Bool) (cs : List Component) → IsWellFormed p → AreMarks (constants p) (assumed_by p set) marks → constants p ≤ 1000
    → is_large (parts_root p set).value ≡ false → all_signed cs ≡ filter (λ c. is_part_in set c.what) (components_of p) → HasNamesLeft (constants p) (extents (all_assumed cs))
parts_room p set marks cs formed m few small chosen =
    let fs = all_assumed cs in
    let is : above (extents_before fs (marked_extent p marks)) ≡ measured (parts_root p set).value =
    ap (λ l. above (extents_before (formulas (map assumed l)) (marked_extent p marks))) chosen ∙ sym (parts_measured p set marks formed m) in
    less_room (constants p) (extents fs) (extents_before fs (marked_extent p marks)) (before_levels fs (marked_extent p marks))
    (room_under (constants p) (extents_before fs (marked_extent p marks))
    (subst (HasNamesLeft (constants p)) (sym is) (small_room (constants p) (parts_root p set).value (measured (parts_root p set).value) few small (omega arith))))

-- their conjunction
pub members_as : (at all : List ℕ) (n m : ℕ) (fs : Formulas) (r : Result (List Core) TermFault) → all ≡ at → m ≡ n → Made forms_of (all_encoded all m true fs) r → Made forms_of (all_encoded at n true fs) r
members_as at all n m fs r e d h = subst (λ w. Made forms_of w r) (λ i. all_encoded (e i) (d i) true fs) h

-- the conjunction with the conditions after its members
abbrev whole : Problem → Formulas → List Bool → Traced Form
whole p fs marks =
    next (all_encoded (names_from 0 (constants p)) (constants p) true fs) (λ gs. next (conditions (λ x. is_marked marks x) 0 (types p)) (λ hs. just (conjunction (append gs hs))))

parts_whole : (p : Problem) (set : List ℕ) (marks : List Bool) (cs : List Component) → IsWellFormed p → AreMarks (constants p) (assumed_by p set) marks
    → all_signed cs ≡ filter (λ c. is_part_in set c.what) (components_of p) → whole p (all_assumed cs) marks ≡ parts_root p set
unfolding next just
parts_whole p set marks cs formed m chosen =
    let at = names_from 0 (constants p) in
    let n = constants p in
    ap (λ l. whole p (formulas (map assumed l)) marks) chosen
    ∙ (λ i. next (all_encoded at n true (chosen_formulas p set)) (λ gs. next (marked_conditions p set marks formed m i) (λ hs. just (conjunction (append gs hs)))))
    ∙ sym (next-assoc (all_encoded at n true (chosen_formulas p set)) (λ gs. just (conjunction gs)) (λ f. next (conditions (λ x. occurs x (assumed_by p set)) 0 (types p)) (λ hs. just (extended f hs))))

behind_members : (work : Traced (List Form)) (members : List Core)
    → next (next work (λ hs. just (map form members ++ hs))) (λ zs. just (conjunction (forms zs))) ≡ next work (λ hs. just (conjunction (append (forms_of members) hs)))
unfolding next just
behind_members work members =
    next-assoc work (λ hs. just (map form members ++ hs)) (λ zs. just (conjunction (forms zs)))
    ∙ (λ i. next work (λ hs. just (conjunction (sym (append-forms (map form members) hs) i))))

pub parts_made : (p : Problem) (set : List ℕ) (marks : List Bool) (cs : List Component) (r : Result Core TermFault) → IsWellFormed p → AreMarks (constants p) (assumed_by p set) marks
    → all_signed cs ≡ filter (λ c. is_part_in set c.what) (components_of p) → Made form (whole p (all_assumed cs) marks) r → Made form (parts_root p set) r
parts_made p set marks cs r formed m chosen made = subst (λ w. Made form w r) (parts_whole p set marks cs formed m chosen) made

pub members_err : (p : Problem) (fs : Formulas) (marks : List Bool) (e : TermFault) (r : Result Core TermFault) → IsErrAnd r (λ x. x ≡ e)
    → Made forms_of (all_encoded (names_from 0 (constants p)) (constants p) true fs) (Err e) → Made form (whole p fs marks) r
members_err p fs marks e r h k =
    made_err forms_of form (all_encoded (names_from 0 (constants p)) (constants p) true fs) (λ gs. next (conditions (λ x. is_marked marks x) 0 (types p)) (λ hs. just (conjunction (append gs hs)))) r h k

pub members_ok : (p : Problem) (fs : Formulas) (marks : List Bool) (members : List Core) (r : Result Core TermFault)
    → Made forms_of (all_encoded (names_from 0 (constants p)) (constants p) true fs) (Ok members)
    → Made form (next (next (conditions (λ x. is_marked marks x) 0 (types p)) (λ hs. just (map form members ++ hs))) (λ zs. just (conjunction (forms zs)))) r → Made form (whole p fs marks) r
members_ok p fs marks members r k made =
    made_ok forms_of form (all_encoded (names_from 0 (constants p)) (constants p) true fs) (λ gs. next (conditions (λ x. is_marked marks x) 0 (types p)) (λ hs. just (conjunction (append gs hs)))) k
    (subst (λ w. Made form w r) (behind_members (conditions (λ x. is_marked marks x) 0 (types p)) members) made)

pub parts_truth : (p : Problem) (set : List ℕ) (f : Core) → IsWellFormed p → form f ≡ (parts_root p set).value
    → (w : Meaning) (v : List ℤ) → length v ≡ constants p → FormTruth w (form f) v ↔ (Truth w (assumed_by p set) v × AreTypedIn (types p) (assumed_by p set) v)
parts_truth p set f formed is w v l = subst (λ (g : Form). FormTruth w g v ↔ (Truth w (assumed_by p set) v × AreTypedIn (types p) (assumed_by p set) v)) (sym is) (parts_are w p set v formed l)

pub parts_names : (p : Problem) (set : List ℕ) (f : Core) → IsWellFormed p → form f ≡ (parts_root p set).value → IsFormOver (constants p) (form f)
parts_names p set f formed is = subst (IsFormOver (constants p)) (sym is) (parts_over p set formed)

pub parts_are_flat : (p : Problem) (set : List ℕ) (f : Core) → form f ≡ (parts_root p set).value
    → form f ≡ conjunction (forms (map (assumed_form p) (filter (λ c. is_part_in set c.what) (components_of p)) ++ (conditions (λ x. occurs x (assumed_by p set)) 0 (types p)).value))
unfolding next just
parts_are_flat p set f is =
    is ∙ extended_flat (names_from 0 (constants p)) (constants p) (filter (λ c. is_part_in set c.what) (components_of p)) (conditions (λ x. occurs x (assumed_by p set)) 0 (types p)).value

-- the conditions of the existential constants, and then of the universal ones
pub marked_bounds : (p : Problem) (marks : List Bool) (m : ℕ) (us es : List Sort) (last all : Extent) → m ≡ length p.existential_types → us ≡ p.universal_types → es ≡ p.existential_types
    → last ≡ behind_atoms (kept_bounds (λ x. is_marked marks x) m us) nothing → all ≡ behind_atoms (kept_bounds (λ x. is_marked marks x) 0 es) last → all ≡ marked_extent p marks
marked_bounds p marks m us es last all first u e h k =
    let kept : ℕ → Bool = λ x. is_marked marks x in
    k ∙ (λ i. behind_atoms (kept_bounds kept 0 (e i)) (h i)) ∙ (λ i. behind_atoms (kept_bounds kept 0 p.existential_types) (behind_atoms (kept_bounds kept (first i) (u i)) nothing))
    ∙ sym (behind-sum (kept_bounds kept 0 p.existential_types) (kept_bounds kept (length p.existential_types) p.universal_types) nothing)
    ∙ ap (λ n. behind_atoms n nothing) (sym (kept-two_first kept p.existential_types p.universal_types))

pub two_lists_err : (p : Problem) (marks : List Bool) (out : List Form) (es : List Sort) (e : TermFault) (r : Result (List Core) TermFault) → es ≡ p.existential_types → IsErrAnd r (λ x. x ≡ e)
    → Made (λ hs. map form hs) (left_over (λ x. is_marked marks x) 0 es out) (Err e) → Made (λ hs. map form hs) (left_over (λ x. is_marked marks x) 0 (types p) out) r
two_lists_err p marks out es e r is h m =
    let kept : ℕ → Bool = λ x. is_marked marks x in
    subst (λ w. Made (λ hs. map form hs) w r) (sym (over-two_first kept p.existential_types p.universal_types out))
    (made_err (λ hs. map form hs) (λ hs. map form hs) (left_over kept 0 p.existential_types out) (left_over kept (length p.existential_types) p.universal_types) r h
    (subst (λ z. Made (λ hs. map form hs) (left_over kept 0 z out) (Err e)) is m))

pub two_lists_ok : (p : Problem) (marks : List Bool) (out : List Form) (es us : List Sort) (n : ℕ) (some : List Core) (r : Result (List Core) TermFault) → es ≡ p.existential_types → us ≡ p.universal_types
    → n ≡ length p.existential_types → Made (λ hs. map form hs) (left_over (λ x. is_marked marks x) 0 es out) (Ok some)
    → Made (λ hs. map form hs) (left_over (λ x. is_marked marks x) n us (map form some)) r → Made (λ hs. map form hs) (left_over (λ x. is_marked marks x) 0 (types p) out) r
two_lists_ok p marks out es us n some r e u first m k =
    let kept : ℕ → Bool = λ x. is_marked marks x in
    subst (λ w. Made (λ hs. map form hs) w r) (sym (over-two_first kept p.existential_types p.universal_types out))
    (made_ok (λ hs. map form hs) (λ hs. map form hs) (left_over kept 0 p.existential_types out) (left_over kept (length p.existential_types) p.universal_types)
    (subst (λ z. Made (λ hs. map form hs) (left_over kept 0 z out) (Ok some)) e m)
    (subst (λ z. Made (λ hs. map form hs) (left_over kept (length p.existential_types) z (map form some)) r) u (subst (λ z. Made (λ hs. map form hs) (left_over kept z us (map form some)) r) first k)))

-- a formula that is no part adds nothing to the components
pub none_collected : (out : List Component) (plus : Bool) (set : List ℕ) (g : Typed) (e : Formula) → formula g ≡ e → filter (is_in set) (formula_components plus e) ≡ []
    → all_signed out ≡ all_signed out ++ filter (is_in set) (formula_components plus (formula g))
none_collected out plus set g e is none = sym (append-nil (all_signed out)) ∙ ap (λ l. all_signed out ++ l) (sym (ap (λ x. filter (is_in set) (formula_components plus x)) is ∙ none))
