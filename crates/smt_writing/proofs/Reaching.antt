-- From a body to what it stands for: what stays the same, and that it goes less far down.
use Rattle.std.proofs.Common.{◌≡◌, ℕ, suc, ◌+◌, ◌-◌, ◌<◌, ◌≤◌, List, [], length, false, sym, ap, ◌∙◌, take, get_or, arith, append-nil, Bor}
use Rattle.smt_terms.specs.Translation.{Standing}
use Rattle.smt_names.specs.declared.body.Body.{Body}
use Rattle.smt_names.specs.declared.body.Leaf.TheVariants as leaves
use Rattle.smt_names.specs.Body.{shape, shapes_of}
use Rattle.smt_names.specs.Saying.{nothing, leaf_said, shape_said, shapes_said, bound_said, calls_of}
use Rattle.smt_names.proofs.Saying.{said-there, calls-there}
use Rattle.smt_writing.specs.declared.layers.Layer.{Layer}
use Rattle.smt_writing.specs.declared.layers.Names.{Names}
use Rattle.smt_writing.specs.declared.layers.Names.TheVariants as names
use Rattle.smt_writing.specs.declared.places.Head.TheVariants as heads
use Rattle.smt_writing.specs.declared.places.Place.{Place}
use Rattle.smt_writing.specs.declared.places.Places.{Places}
use Rattle.smt_writing.specs.declared.places.Step.{Step}
use Rattle.smt_writing.specs.declared.places.Step.TheVariants as steps
use Rattle.smt_writing.specs.Heights.{leaf_height, height, heights, bound_heights, costs_of}
use Rattle.smt_writing.specs.Layers.{AreLayered, Extends, IsLayerOf, first_number, heights_at, heights_behind, names_at, names_behind, own_count}
use Rattle.smt_writing.specs.Places.{Reaches, IsWithin, call_height, call_said, name_height, name_said, place_height, step_height, step_said}
use Rattle.smt_writing.proofs.Calling.{no-call}
use Rattle.smt_writing.proofs.Gathering.{gathered, bound-gathered, heights-gathered, gathered-there, entry-past, variables-there, heights-there, costs-there}
use Rattle.smt_writing.proofs.Layering.{names-count, heights-long}

-- Layers that are extended twice.

pub extends-none : (ls : List Layer) → Extends ls ls
extends-none ls = ([], sym (append-nil ls))

-- Steps.

-- one that adds no layer
pub stays : (ls : List Layer) (said : Standing) (h : ℕ) (x : Step) → AreLayered ls → IsWithin ls x → ((m : ℕ) → step_said ls x m ≡ said m) → step_height ls x < h → Reaches ls said h ls x
stays ls said h x layered within same lower = record { layered = layered; extends = extends-none ls; within = within; same = same; lower = lower }

-- one into a layer that is added
pub goes_in : (old new : List Layer) (said : Standing) (h outer : ℕ) (ns : Names) (p : Place) → AreLayered new → Extends old new → p.layer ≡ length new
    → names_at new p.layer ≡ names_behind (names_at old outer) ns → heights_at new p.layer ≡ heights_behind (heights_at old outer) ns
    → ((m : ℕ) → shape_said (calls_of p.definitions.now) (names_behind (names_at old outer) ns) (shape p.body.now) m ≡ said m)
    → height (costs_of p.definitions.now) (heights_behind (heights_at old outer) ns) (shape p.body.now) < h → Reaches old said h new (steps.Next p)
goes_in old new said h outer ns p layered extends last named high same lower =
    let more = ap (λ e. height (costs_of p.definitions.now) e (shape p.body.now)) high in
    record {
      layered = layered;
      extends = extends;
      within = omega (arith, last);
      same = λ m. ap (λ e. shape_said (calls_of p.definitions.now) e (shape p.body.now) m) named ∙ same m;
      lower = omega (arith, more, lower);
    }

-- one to what becomes the same and goes no further down
pub reaches_as : (old new : List Layer) (said becomes : Standing) (h high : ℕ) (x : Step) → ((m : ℕ) → said m ≡ becomes m) → h ≤ high → Reaches old said h new x → Reaches old becomes high new x
reaches_as old new said becomes h high x same lower r =
    let less = r.lower in
    record { layered = r.layered; extends = r.extends; within = r.within; same = λ m. r.same m ∙ same m; lower = omega (arith, lower, less) }

-- Calls.

pub calls_nothing : (ls : List Layer) (k : ℕ) (ps : Places) → AreLayered ls → length ps.definitions.now ≤ k → Reaches ls (call_said ls k ps) (suc (call_height ls k ps)) ls (steps.Last (heads.Truth false))
calls_nothing ls k ps layered past = stays ls _ _ (steps.Last (heads.Truth false)) layered tt (λ m. no-call ps.definitions.now k _ m past) (omega arith)

pub calls_body : (old new : List Layer) (k : ℕ) (ps : Places) (p : Place) → AreLayered new → Extends old new → p.layer ≡ length new
    → names_at new p.layer ≡ names_behind (names_at old ps.layer) (names.Arguments ps.bodies ps.definitions)
    → heights_at new p.layer ≡ heights_behind (heights_at old ps.layer) (names.Arguments ps.bodies ps.definitions)
    → k < length ps.definitions.now → p.definitions.now ≡ take k ps.definitions.now → p.body.now ≡ get_or ps.definitions.now k p.body.now
    → Reaches old (call_said old k ps) (suc (call_height old k ps)) new (steps.Next p)
calls_body old new k ps p layered extends last named high low those this =
    let ds = ps.definitions.now in
    let ss = names_behind (names_at old ps.layer) (names.Arguments ps.bodies ps.definitions) in
    let hs = heights_behind (heights_at old ps.layer) (names.Arguments ps.bodies ps.definitions) in
    let cost : height (costs_of p.definitions.now) hs (shape p.body.now) ≡ call_height old k ps =
    ap (λ z. height (costs_of z) hs (shape p.body.now)) those ∙ ap (λ z. height (costs_of (take k ds)) hs (shape z)) this ∙ sym (costs-there ds k p.body.now hs low) in
    goes_in old new (call_said old k ps) (suc (call_height old k ps)) ps.layer (names.Arguments ps.bodies ps.definitions) p layered extends last named high
    (λ m. ap (λ z. shape_said (calls_of z) ss (shape p.body.now) m) those ∙ ap (λ z. shape_said (calls_of (take k ds)) ss (shape z) m) this ∙ sym (calls-there ds k p.body.now ss m low)) (omega (arith, cost))

-- Names.

abbrev name_in : List Standing → Names → ℕ → Standing
name_in e ns i = get_or (names_behind e ns) (first_number ns (length e) + i) nothing

abbrev height_in : List ℕ → Names → ℕ → ℕ
height_in e ns i = get_or (heights_behind e ns) (first_number ns (length e) + i) 0

pub finds_nothing : (ls : List Layer) (l : Layer) (i : ℕ) → AreLayered ls → own_count l.names ≤ i → Reaches ls (name_said ls l i) (suc (name_height ls l i)) ls (steps.Last (heads.Truth false))
finds_nothing ls l i layered past =
    let e = names_at ls l.outer in
    let none = entry-past (names_behind e l.names) (first_number l.names (length e) + i) nothing (omega (arith, past, names-count l.names e)) in
    stays ls (name_said ls l i) (suc (name_height ls l i)) (steps.Last (heads.Truth false)) layered tt (λ m. sym (ap (λ (z : Standing). z m) none)) (omega arith)

pub finds_variable : (ls : List Layer) (l : Layer) (k first i : ℕ) → AreLayered ls → l.names ≡ names.Variables k first → i < k
    → Reaches ls (name_said ls l i) (suc (name_height ls l i)) ls (steps.Last (heads.Name (first + i)))
finds_variable ls l k first i layered is low =
    let e = names_at ls l.outer in
    let there = ap (λ z. name_in e z i) is ∙ variables-there k e first i nothing low in
    stays ls (name_said ls l i) (suc (name_height ls l i)) (steps.Last (heads.Name (first + i))) layered tt (λ m. sym (ap (λ (z : Standing). z m) there)) (omega arith)

pub finds_argument : (ls : List Layer) (l : Layer) (ts ds : Bor (List Body)) (i : ℕ) (p : Place) → AreLayered ls → l.names ≡ names.Arguments ts ds → l.outer ≤ length ls → i < length ts.now
    → p.layer ≡ l.outer → p.definitions.now ≡ ds.now → p.body.now ≡ get_or ts.now i p.body.now → Reaches ls (name_said ls l i) (suc (name_height ls l i)) ls (steps.Next p)
finds_argument ls l ts ds i p layered is within low at those this =
    let e = names_at ls l.outer in
    let hs = heights_at ls l.outer in
    let D = calls_of ds.now in
    let C = costs_of ds.now in
    let first : 0 + i ≡ i = omega arith in
    let there = ap (λ z. name_in e z i) is ∙ ap (λ j. get_or (shapes_said D e (shapes_of ts.now)) j nothing) first ∙ said-there D e ts.now i p.body.now nothing low in
    let high = ap (λ z. height_in hs z i) is ∙ ap (λ j. get_or (heights C hs (shapes_of ts.now)) j 0) first ∙ heights-there C hs ts.now i p.body.now low in
    let here : place_height ls p ≡ height C hs (shape (get_or ts.now i p.body.now)) =
    ap (λ z. height (costs_of z) (heights_at ls p.layer) (shape p.body.now)) those ∙ ap (λ z. height C (heights_at ls z) (shape p.body.now)) at ∙ ap (λ z. height C hs (shape z)) this in
    stays ls (name_said ls l i) (suc (name_height ls l i)) (steps.Next p) layered (omega (arith, at, within)) (λ m.
    ap (λ z. shape_said (calls_of z) (names_at ls p.layer) (shape p.body.now) m) those ∙ ap (λ z. shape_said D (names_at ls z) (shape p.body.now) m) at
    ∙ ap (λ z. shape_said D e (shape z) m) this ∙ sym (ap (λ (z : Standing). z m) there)) (omega (arith, here, high))

pub finds_bound : (old new : List Layer) (l : Layer) (bs ds : Bor (List Body)) (i : ℕ) (p : Place) → AreLayered new → Extends old new → p.layer ≡ length new
    → names_at new p.layer ≡ bound_said (calls_of ds.now) (names_at old l.outer) (shapes_of (take i bs.now))
    → heights_at new p.layer ≡ bound_heights (costs_of ds.now) (heights_at old l.outer) (shapes_of (take i bs.now))
    → l.names ≡ names.Bound bs ds → i < length bs.now → p.definitions.now ≡ ds.now → p.body.now ≡ get_or bs.now i p.body.now
    → Reaches old (name_said old l i) (suc (name_height old l i)) new (steps.Next p)
finds_bound old new l bs ds i p layered extends last named high is low those this =
    let e = names_at old l.outer in
    let hs = heights_at old l.outer in
    let D = calls_of ds.now in
    let C = costs_of ds.now in
    let b = p.body.now in
    let cut = take i bs.now in
    let before : Bor (List Body) = record { ref_ptr = bs.ref_ptr; now = cut } in
    let there = ap (λ z. name_in e z i) is ∙ ap (λ z. get_or z (length e + i) nothing) (bound-gathered D e bs.now) ∙ gathered-there (shape_said D) e bs.now i b nothing low in
    let tall = ap (λ z. height_in hs z i) is ∙ ap (λ z. get_or z (length hs + i) 0) (heights-gathered C hs bs.now) ∙ gathered-there (height C) hs bs.now i b 0 low in
    let here : height (costs_of p.definitions.now) (bound_heights C hs (shapes_of cut)) (shape b) ≡ height C (gathered (height C) hs cut) (shape (get_or bs.now i b)) =
    ap (λ z. height (costs_of z) (bound_heights C hs (shapes_of cut)) (shape b)) those ∙ ap (λ z. height C z (shape b)) (heights-gathered C hs cut)
    ∙ ap (λ z. height C (gathered (height C) hs cut) (shape z)) this in
    goes_in old new (name_said old l i) (suc (name_height old l i)) l.outer (names.Bound before ds) p layered extends last named high
    (λ m. ap (λ z. shape_said (calls_of z) (bound_said D e (shapes_of cut)) (shape b) m) those ∙ ap (λ z. shape_said D z (shape b) m) (bound-gathered D e cut)
    ∙ ap (λ z. shape_said D (gathered (shape_said D) e cut) (shape z) m) this ∙ sym (ap (λ (z : Standing). z m) there)) (omega (arith, here, tall))

-- Leaves.

pub slot_reaches : (old new : List Layer) (n k : ℕ) (l : Layer) (x : Step) → IsLayerOf old n k l → Reaches old (name_said old l (k - l.start)) (suc (name_height old l (k - l.start))) new x
    → Reaches old (leaf_said (names_at old n) (leaves.Slot k)) (suc (leaf_height (heights_at old n) (leaves.Slot k))) new x
slot_reaches old new n k l x here r =
    let e = names_at old l.outer in
    let hs = heights_at old l.outer in
    let numbered : l.start ≡ first_number l.names (length e) = here.numbered in
    let measured : l.start ≡ first_number l.names (length hs) = numbered ∙ ap (first_number l.names) (sym (heights-long old l.outer)) in
    let low = here.low in
    let at : first_number l.names (length e) + (k - l.start) ≡ k = omega (arith, numbered, low) in
    let at_height : first_number l.names (length hs) + (k - l.start) ≡ k = omega (arith, measured, low) in
    let tall = ap (λ j. get_or (heights_behind hs l.names) j 0) at_height ∙ sym here.height in
    reaches_as old new (name_said old l (k - l.start)) (leaf_said (names_at old n) (leaves.Slot k)) (suc (name_height old l (k - l.start))) (suc (leaf_height (heights_at old n) (leaves.Slot k))) x
    (λ m. ap (λ j. get_or (names_behind e l.names) j nothing m) at ∙ sym (ap (λ (z : Standing). z m) here.said)) (omega (arith, tall)) r
