-- The names in sight in each of several layers, and where one of them is looked up.
use Rattle.std.proofs.Common.{◌≡◌, ℕ, zero, suc, ◌+◌, ◌-◌, ◌<◌, ◌≤◌, List, [], ◌∷◌, ◌++◌, length, map, refl, sym, ap, ap₂, subst, ◌∙◌, get_or, arith, length-append}
use Rattle.std.proofs.lemmas.List.{map-append}
use Rattle.smt_terms.specs.Translation.{Standing}
use Rattle.smt_names.specs.Saying.{nothing, shape_said, calls_of}
use Rattle.smt_names.proofs.Saying.{said-count}
use Rattle.smt_writing.specs.declared.layers.Layer.{Layer}
use Rattle.smt_writing.specs.declared.layers.Names.{Names}
use Rattle.smt_writing.specs.declared.layers.Names.TheVariants as names
use Rattle.smt_writing.specs.Heights.{height, costs_of}
use Rattle.smt_writing.specs.Layers.{AreLayered, Extends, IsLayerOf, IsNumbered, first_number, heights_at, heights_behind, layer_by_layer, names_at, names_behind, own_count}
use Rattle.smt_writing.proofs.Gathering.{bound-gathered, heights-gathered, gathered-count, gathered-before, entry-left, entry-here, variables-count, variables-before, zeros-count, zeros-before, heights-count}

-- What is made layer by layer.

made-count : {A : Type 0} (f : List A → Names → List A) (made : List (List A)) (ls : List Layer) → length (layer_by_layer f made ls) ≡ length made + length ls
made-count f made [] = omega arith
made-count f made (l ∷ ls) =
    let more = f (get_or made l.outer []) l.names ∷ [] in
    omega (arith, made-count f (made ++ more) ls, length-append made more)

made-before : {A : Type 0} (f : List A → Names → List A) (made : List (List A)) (ls : List Layer) (k : ℕ) → k < length made → get_or (layer_by_layer f made ls) k [] ≡ get_or made k []
made-before f made [] k h = refl
made-before f made (l ∷ ls) k h =
    let more = f (get_or made l.outer []) l.names ∷ [] in
    made-before f (made ++ more) ls k (omega (arith, h, length-append made more)) ∙ entry-left made more k [] h

made-there : {A : Type 0} (f : List A → Names → List A) (made : List (List A)) (ls : List Layer) (i : ℕ) (d : Layer) → i < length ls → (get_or ls i d).outer < length made + i
    → get_or (layer_by_layer f made ls) (length made + i) [] ≡ f (get_or (layer_by_layer f made ls) (get_or ls i d).outer []) (get_or ls i d).names
made-there f made [] i d h low = absurd (omega arith)
made-there f made (l ∷ ls) zero d h low =
    let x = f (get_or made l.outer []) l.names in
    let is : length made + 0 ≡ length made = omega arith in
    ap (λ k. get_or (layer_by_layer f (made ++ x ∷ []) ls) k []) is
    ∙ made-before f (made ++ x ∷ []) ls (length made) (omega (arith, length-append made (x ∷ []))) ∙ entry-here made x []
    ∙ ap (λ e. f e l.names) (sym (made-before f made (l ∷ ls) l.outer (omega (arith, low))))
made-there f made (l ∷ ls) (suc i) d h low =
    let x = f (get_or made l.outer []) l.names in
    let is : length made + suc i ≡ length (made ++ x ∷ []) + i = omega (arith, length-append made (x ∷ [])) in
    ap (λ k. get_or (layer_by_layer f (made ++ x ∷ []) ls) k []) is ∙ made-there f (made ++ x ∷ []) ls i d (omega (arith, h)) (omega (arith, low, is))

made-append : {A : Type 0} (f : List A → Names → List A) (made : List (List A)) (xs ys : List Layer) → layer_by_layer f made (xs ++ ys) ≡ layer_by_layer f (layer_by_layer f made xs) ys
made-append f made [] ys = refl
made-append f made (l ∷ xs) ys = made-append f (made ++ f (get_or made l.outer []) l.names ∷ []) xs ys

made-kept : {A : Type 0} (f : List A → Names → List A) (xs ys : List Layer) (k : ℕ) → k ≤ length xs → get_or (layer_by_layer f ([] ∷ []) (xs ++ ys)) k [] ≡ get_or (layer_by_layer f ([] ∷ []) xs) k []
made-kept f xs ys k h =
    ap (λ t. get_or t k []) (made-append f ([] ∷ []) xs ys) ∙ made-before f (layer_by_layer f ([] ∷ []) xs) ys k (omega (arith, h, made-count f ([] ∷ []) xs))

made-last : {A : Type 0} (f : List A → Names → List A) (xs : List Layer) (l : Layer)
    → get_or (layer_by_layer f ([] ∷ []) (xs ++ l ∷ [])) (suc (length xs)) [] ≡ f (get_or (layer_by_layer f ([] ∷ []) xs) l.outer []) l.names
made-last f xs l =
    let made = layer_by_layer f ([] ∷ []) xs in
    let x = f (get_or made l.outer []) l.names in
    let many : suc (length xs) ≡ length made = omega (arith, made-count f ([] ∷ []) xs) in
    ap (λ t. get_or t (suc (length xs)) []) (made-append f ([] ∷ []) xs (l ∷ [])) ∙ ap (λ k. get_or (made ++ x ∷ []) k []) many ∙ entry-here made x []

made-layer : {A : Type 0} (f : List A → Names → List A) (ls : List Layer) (i : ℕ) (d : Layer) → i < length ls → (get_or ls i d).outer ≤ i
    → get_or (layer_by_layer f ([] ∷ []) ls) (suc i) [] ≡ f (get_or (layer_by_layer f ([] ∷ []) ls) (get_or ls i d).outer []) (get_or ls i d).names
made-layer f ls i d h low =
    let is : suc i ≡ 1 + i = omega arith in
    ap (λ k. get_or (layer_by_layer f ([] ∷ []) ls) k []) is ∙ made-there f ([] ∷ []) ls i d h (omega (arith, low))

-- Layers to which others are added.

pub names-kept : (old new : List Layer) (k : ℕ) → Extends old new → k ≤ length old → names_at new k ≡ names_at old k
names-kept old new k h low = ap (λ z. names_at z k) h.1 ∙ made-kept names_behind old h.0 k low

pub names-pushed : (old new : List Layer) (l : Layer) (k : ℕ) → new ≡ old ++ l ∷ [] → k ≡ length new → names_at new k ≡ names_behind (names_at old l.outer) l.names
names-pushed old new l k is many =
    let at : k ≡ suc (length old) = omega (arith, many, ap length is, length-append old (l ∷ [])) in
    (λ i. names_at (is i) (at i)) ∙ made-last names_behind old l

pub heights-pushed : (old new : List Layer) (l : Layer) (k : ℕ) → new ≡ old ++ l ∷ [] → k ≡ length new → heights_at new k ≡ heights_behind (heights_at old l.outer) l.names
heights-pushed old new l k is many =
    let at : k ≡ suc (length old) = omega (arith, many, ap length is, length-append old (l ∷ [])) in
    (λ i. heights_at (is i) (at i)) ∙ made-last heights_behind old l

numbered-kept : (old new : List Layer) (l : Layer) → Extends old new → l.outer ≤ length old → IsNumbered old l → IsNumbered new l
numbered-kept old new l h low is = is ∙ ap (λ e. first_number l.names (length e)) (sym (names-kept old new l.outer h low))

each-more : {A : Type 0} (P : ℕ → A → Type 0) (xs : List A) (x : A) → ((i : ℕ) (d : A) → i < length xs → P i (get_or xs i d)) → P (length xs) x
    → (i : ℕ) (d : A) → i < length (xs ++ x ∷ []) → P i (get_or (xs ++ x ∷ []) i d)
each-more P [] x all last zero d h = last
each-more P [] x all last (suc i) d h = absurd (omega (arith, h))
each-more P (y ∷ xs) x all last zero d h = all zero d (omega arith)
each-more P (y ∷ xs) x all last (suc i) d h = each-more (λ j. P (suc j)) xs x (λ j e low. all (suc j) e (omega (arith, low))) last i d (omega (arith, h))

layered-more : (ls : List Layer) (l : Layer) → AreLayered ls → l.outer ≤ length ls → IsNumbered ls l → AreLayered (ls ++ l ∷ [])
layered-more ls l layered low numbered =
    let new = ls ++ l ∷ [] in
    each-more (λ i x. (x.outer ≤ i) × IsNumbered new x) ls l
    (λ i d h. ((layered i d h).0, numbered-kept ls new (get_or ls i d) (l ∷ [], refl) (omega (arith, h, (layered i d h).0)) (layered i d h).1)) (low, numbered-kept ls new l (l ∷ [], refl) low numbered)

pub layered-pushed : (old new : List Layer) (l : Layer) → new ≡ old ++ l ∷ [] → AreLayered old → l.outer ≤ length old → IsNumbered old l → AreLayered new
layered-pushed old new l is layered low numbered = subst AreLayered (sym is) (layered-more old l layered low numbered)

-- The names in a layer.

-- with no layer around there is no name
pub names-outermost : (ls : List Layer) → names_at ls 0 ≡ []
names-outermost ls = made-before names_behind ([] ∷ []) ls 0 (omega arith)

-- what is known of the layer up to which there are k layers
pub there : (ls : List Layer) (k : ℕ) (l : Layer) → AreLayered ls → 0 < k → k ≤ length ls → l ≡ get_or ls (k - 1) l
    → (l.outer < k) × IsNumbered ls l × (names_at ls k ≡ names_behind (names_at ls l.outer) l.names) × (heights_at ls k ≡ heights_behind (heights_at ls l.outer) l.names)
there ls zero l layered some low is = absurd (omega (arith, some))
there ls (suc i) l layered some low is =
    let less : suc i - 1 ≡ i = omega arith in
    let at : get_or ls i l ≡ l = ap (λ j. get_or ls j l) (sym less) ∙ sym is in
    let known = layered i l (omega (arith, low)) in
    let P : Layer → Type 0 = λ (z : Layer). (z.outer < suc i) × IsNumbered ls z × (names_at ls (suc i) ≡ names_behind (names_at ls z.outer) z.names) × (heights_at ls (suc i) ≡ heights_behind (heights_at ls z.outer) z.names) in
    subst P at (omega (arith, known.0), known.1, made-layer names_behind ls i l (omega (arith, low)) known.0, made-layer heights_behind ls i l (omega (arith, low)) known.0)

pub names-count : (ns : Names) (e : List Standing) → length (names_behind e ns) ≡ first_number ns (length e) + own_count ns
names-count (names.Variables k first) e = variables-count k e first
names-count (names.Bound bs ds) e = ap length (bound-gathered (calls_of ds.now) e bs.now) ∙ gathered-count (shape_said (calls_of ds.now)) e bs.now
names-count (names.Arguments ts ds) e = omega (arith, said-count (calls_of ds.now) e ts.now)

long : (ns : Names) (h : List ℕ) (e : List Standing) → length h ≡ length e → length (heights_behind h ns) ≡ length (names_behind e ns)
long (names.Variables k first) h e is = omega (arith, is, zeros-count k h, variables-count k e first)
long (names.Bound bs ds) h e is =
    omega (arith, is, ap length (heights-gathered (costs_of ds.now) h bs.now), gathered-count (height (costs_of ds.now)) h bs.now, names-count (names.Bound bs ds) e)
long (names.Arguments ts ds) h e is = heights-count (costs_of ds.now) h ts.now ∙ sym (said-count (calls_of ds.now) e ts.now)

length-at : {A : Type 0} (made : List (List A)) (k : ℕ) → length (get_or made k []) ≡ get_or (map length made) k 0
length-at [] k = refl
length-at (e ∷ made) zero = refl
length-at (e ∷ made) (suc k) = length-at made k

made-long : (hs : List (List ℕ)) (es : List (List Standing)) (ls : List Layer) → map length hs ≡ map length es
    → map length (layer_by_layer heights_behind hs ls) ≡ map length (layer_by_layer names_behind es ls)
made-long hs es [] is = is
made-long hs es (l ∷ ls) is =
    let h = get_or hs l.outer [] in
    let e = get_or es l.outer [] in
    let same : length h ≡ length e = length-at hs l.outer ∙ ap (λ z. get_or z l.outer 0) is ∙ sym (length-at es l.outer) in
    made-long (hs ++ heights_behind h l.names ∷ []) (es ++ names_behind e l.names ∷ []) ls (
    map-append length hs (heights_behind h l.names ∷ []) ∙ ap₂ (λ xs x. xs ++ x ∷ []) is (long l.names h e same) ∙ sym (map-append length es (names_behind e l.names ∷ []))
    )

-- there are as many heights as names
pub heights-long : (ls : List Layer) (k : ℕ) → length (heights_at ls k) ≡ length (names_at ls k)
heights-long ls k =
    length-at (layer_by_layer heights_behind ([] ∷ []) ls) k ∙ ap (λ z. get_or z k 0) (made-long ([] ∷ []) ([] ∷ []) ls refl)
    ∙ sym (length-at (layer_by_layer names_behind ([] ∷ []) ls) k)

-- The names before those of a layer.

before : (ns : Names) (e : List Standing) (k : ℕ) → k < first_number ns (length e) → get_or (names_behind e ns) k nothing ≡ get_or e k nothing
before (names.Variables j first) e k h = variables-before j e first k nothing h
before (names.Bound bs ds) e k h = ap (λ z. get_or z k nothing) (bound-gathered (calls_of ds.now) e bs.now) ∙ gathered-before (shape_said (calls_of ds.now)) e bs.now k nothing h
before (names.Arguments ts ds) e k h = absurd (omega (arith, h))

before-height : (ns : Names) (e : List ℕ) (k : ℕ) → k < first_number ns (length e) → get_or (heights_behind e ns) k 0 ≡ get_or e k 0
before-height (names.Variables j first) e k h = zeros-before j e k h
before-height (names.Bound bs ds) e k h = ap (λ z. get_or z k 0) (heights-gathered (costs_of ds.now) e bs.now) ∙ gathered-before (height (costs_of ds.now)) e bs.now k 0 h
before-height (names.Arguments ts ds) e k h = absurd (omega (arith, h))

-- A name that is looked up from layer to layer.

pub counted : (ls : List Layer) (k : ℕ) (l : Layer) → AreLayered ls → 0 < k → k ≤ length ls → l ≡ get_or ls (k - 1) l → l.start + own_count l.names ≡ length (names_at ls k)
counted ls k l layered some low is =
    let known = there ls k l layered some low is in
    ap (λ z. z + own_count l.names) known.1 ∙ sym (names-count l.names (names_at ls l.outer)) ∙ ap length (sym known.2)

pub found_here : (ls : List Layer) (n at k : ℕ) (l : Layer) → AreLayered ls → 0 < at → at ≤ length ls → l ≡ get_or ls (at - 1) l → l.start ≤ k
    → get_or (names_at ls at) k nothing ≡ get_or (names_at ls n) k nothing → get_or (heights_at ls at) k 0 ≡ get_or (heights_at ls n) k 0 → IsLayerOf ls n k l
found_here ls n at k l layered some low is fits same high =
    let known = there ls at l layered some low is in
    let outer = known.0 in
    record {
      within = omega (arith, low, outer);
      numbered = known.1;
      low = fits;
      said = sym same ∙ ap (λ e. get_or e k nothing) known.2;
      height = sym high ∙ ap (λ e. get_or e k 0) known.3;
    }

pub found_around : (ls : List Layer) (at k : ℕ) (l : Layer) → AreLayered ls → 0 < at → at ≤ length ls → l ≡ get_or ls (at - 1) l → k < l.start
    → (get_or (names_at ls l.outer) k nothing ≡ get_or (names_at ls at) k nothing) × (get_or (heights_at ls l.outer) k 0 ≡ get_or (heights_at ls at) k 0)
found_around ls at k l layered some low is less =
    let known = there ls at l layered some low is in
    let numbered : l.start ≡ first_number l.names (length (names_at ls l.outer)) = known.1 in
    let measured : l.start ≡ first_number l.names (length (heights_at ls l.outer)) = numbered ∙ ap (first_number l.names) (sym (heights-long ls l.outer)) in (
      sym (ap (λ e. get_or e k nothing) known.2 ∙ before l.names (names_at ls l.outer) k (omega (arith, less, numbered))),
      sym (ap (λ e. get_or e k 0) known.3 ∙ before-height l.names (heights_at ls l.outer) k (omega (arith, less, measured))),
    )
