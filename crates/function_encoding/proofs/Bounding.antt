-- Atoms of bounds after others, and a quantifier with them.
use Rattle.std.proofs.Common.{◌≡◌, ◌↔◌, IsTrue, ℕ, ℤ, zero, suc, ◌+◌, ◌<◌, ◌≤◌, Bool, true, false, not, cond, pos, List, [], ◌∷◌, ◌++◌, map, length, drop, get_or, Result, Ok, Err, IsErrAnd, All, refl, sym, ap, ◌∙◌, subst, append_assoc, append-nil, arith}
use Rattle.linear_term.specs.declared.range.TermFault.{TermFault}
use Rattle.form_typed.specs.declared.typed.Sort.{Sort}
use Rattle.form_typed.specs.declared.typed.Sort.TheVariants.{Int, Nat, Range}
use Rattle.base_budget.specs.Trace.{Traced, Event, just, next}
use Rattle.base_budget.proofs.Charging.{drop-item, drop_all}
use Rattle.base_budget.proofs.Tracing.{just-next, next-assoc}
use Rattle.formula.specs.declared.calculus.Core.{Core}
use Rattle.formula.specs.Form.{Form, Forms, forms}
use Rattle.formula.specs.Tree.{form, forms_of}
use Rattle.formula.specs.Made.{Made}
use Rattle.formula.proofs.Making.{made_ok, made_err, made_just, pushed}
use Rattle.form_encoding.specs.Encoding.{SortBound, least, greatest, bounds, within, outside, limits, restricted, quantified, bound_by, junction}
use Rattle.form_encoding.specs.Root.{for_last}
use Rattle.form_encoding.proofs.Arithmetic.{no_test}
use Rattle.function_encoding.proofs.Kept.{read_any}

-- the atom of a bound
abbrev pub limit : Bool → ℕ → SortBound → Traced Form
limit all x b = cond all (outside x b) (within x b)

-- atoms after others
abbrev pub behind_others : List Form → Traced (List Form) → Traced (List Form)
behind_others out work = next work (λ hs. just (out ++ hs))

abbrev pub one_more : List Form → Traced Form → Traced (List Form)
one_more out work = next work (λ h. just (out ++ h ∷ []))

none_behind : (out : List Form) → behind_others out (just []) ≡ just out
unfolding next just
none_behind out = ap (λ l. record { value = l; events = [] }) (append-nil out)

one_behind : (all : Bool) (x : ℕ) (b : SortBound) (out : List Form) → behind_others out (limits all x (b ∷ [])) ≡ one_more out (limit all x b)
unfolding next just
one_behind all x b out = next-assoc (limit all x b) (λ h. just (h ∷ [])) (λ hs. just (out ++ hs))

two_events : (a b : List Event) → (a ++ ((b ++ []) ++ [])) ++ [] ≡ (a ++ []) ++ (b ++ [])
two_events a b = append-nil (a ++ ((b ++ []) ++ [])) ∙ ap (λ z. a ++ z) (append-nil (b ++ [])) ∙ ap (λ z. z ++ (b ++ [])) (sym (append-nil a))

two_behind : (all : Bool) (x : ℕ) (a b : SortBound) (out : List Form) → behind_others out (limits all x (a ∷ b ∷ [])) ≡ next (one_more out (limit all x a)) (λ zs. one_more zs (limit all x b))
unfolding next just
two_behind all x a b out = λ i. record {
  value = sym (append_assoc out ((limit all x a).value ∷ []) ((limit all x b).value ∷ [])) i;
  events = two_events (limit all x a).events (limit all x b).events i;
}

pub int_limits : (all : Bool) (x : ℕ) (s : Sort) (out : List Core) → s ≡ Int → Made (λ hs. map form hs) (behind_others (map form out) (limits all x (bounds s))) (Ok out)
int_limits all x s out is =
    subst (λ z. Made (λ hs. map form hs) (behind_others (map form out) (limits all x (bounds z))) (Ok out)) (sym is)
    (subst (λ w. Made (λ hs. map form hs) w (Ok out)) (sym (none_behind (map form out))) (made_just (λ hs. map form hs) (map form out) out refl))

pub nat_limits : (all : Bool) (x : ℕ) (s : Sort) (out : List Core) (r : Result (List Core) TermFault) → s ≡ Nat
    → Made (λ hs. map form hs) (one_more (map form out) (limit all x (least (pos 0)))) r → Made (λ hs. map form hs) (behind_others (map form out) (limits all x (bounds s))) r
nat_limits all x s out r is m =
    subst (λ z. Made (λ hs. map form hs) (behind_others (map form out) (limits all x (bounds z))) r) (sym is)
    (subst (λ w. Made (λ hs. map form hs) w r) (sym (one_behind all x (least (pos 0)) (map form out))) m)

pub range_limits : (all : Bool) (x : ℕ) (s : Sort) (a b : ℤ) (out : List Core) (r : Result (List Core) TermFault) → s ≡ Range a b
    → Made (λ hs. map form hs) (next (one_more (map form out) (limit all x (least a))) (λ zs. one_more zs (limit all x (greatest b)))) r
    → Made (λ hs. map form hs) (behind_others (map form out) (limits all x (bounds s))) r
range_limits all x s a b out r is m =
    subst (λ z. Made (λ hs. map form hs) (behind_others (map form out) (limits all x (bounds z))) r) (sym is)
    (subst (λ w. Made (λ hs. map form hs) w r) (sym (two_behind all x (least a) (greatest b) (map form out))) m)

-- what a test of emptiness says
pub not_empty : (b : Bool) (hs : List Core) → b ≡ false → IsTrue b ↔ (hs ≡ []) → ¬ (hs ≡ [])
not_empty b hs e h = λ k. let t : b ≡ true = h.1 k in absurd (no_test (sym e ∙ t))

-- a formula with the limits before it
pub unrestricted : (all : Bool) (hs : List Core) (f : Core) → hs ≡ [] → form f ≡ restricted all (map form hs) (form f)
unrestricted all hs f is = ap (λ l. restricted all (map form l) (form f)) (sym is)

pub restricted_more : (all : Bool) (hs members : List Core) (f : Core) → ¬ (hs ≡ []) → members ≡ hs ++ f ∷ [] → junction (not all) (forms_of members) ≡ restricted all (map form hs) (form f)
restricted_more all [] members f some is = absurd (some refl)
restricted_more all (h ∷ hs) members f some is = ap (λ l. junction (not all) (forms (map form l))) is ∙ ap (λ l. junction (not all) (forms l)) (pushed (h ∷ hs) f (form f) refl)

-- limits after nothing
pub alone : (work : Traced (List Form)) (out : List Core) (r : Result (List Core) TermFault) → out ≡ [] → Made (λ hs. map form hs) (behind_others (map form out) work) r → Made (λ hs. map form hs) work r
alone work out r none m = subst (λ w. Made (λ hs. map form hs) w r) (ap (λ l. behind_others (map form l) work) none ∙ just-next work) m

-- one more quantifier
pub bound_more : (x : ℕ) (s : Sort) (ss : List Sort) (work : Traced Form) (f : Core) (r : Result Core TermFault) → Made form (for_last (suc x) ss work) (Ok f)
    → Made form (next (limits true x (bounds s)) (λ hs. just (quantified true (restricted true hs (form f))))) r → Made form (for_last x (s ∷ ss) work) r
bound_more x s ss work f r m k = made_ok form form (for_last (suc x) ss work) (λ g. next (limits true x (bounds s)) (λ hs. just (quantified true (restricted true hs g)))) m k

-- below one more quantifier
pub bound_err : (x : ℕ) (all : Bool) (s : Sort) {e : TermFault} {work : Traced Form} (r : Result Core TermFault) → IsErrAnd r (λ z. z ≡ e) → Made form work (Err e) → Made form (bound_by all x s work) r
bound_err x all s {e} {work} r h m = made_err form form work (λ g. next (limits all x (bounds s)) (λ hs. just (quantified all (restricted all hs g)))) r h m

pub bound_ok : (x : ℕ) (all : Bool) (s : Sort) {work : Traced Form} {f : Core} (r : Result Core TermFault) → Made form work (Ok f)
    → Made form (next (limits all x (bounds s)) (λ hs. just (quantified all (restricted all hs (form f))))) r → Made form (bound_by all x s work) r
bound_ok x all s {work} r m k = made_ok form form work (λ g. next (limits all x (bounds s)) (λ hs. just (quantified all (restricted all hs g)))) m k

-- quantifiers from the last one back
pub last_start : (x i : ℕ) (ss : List Sort) (work : Traced Form) (f : Core) → length ss ≤ i → Made form work (Ok f) → Made form (for_last (x + i) (drop i ss) work) (Ok f)
last_start x i ss work f le m = subst (λ l. Made form (for_last (x + i) l work) (Ok f)) (sym (drop_all ss i le)) m

pub last_step : (x i j y : ℕ) (ss : List Sort) (s : Sort) (work : Traced Form) (f : Core) (r : Result Core TermFault) → i ≡ j + 1 → j < length ss → s ≡ get_or ss j s → y ≡ x + j
    → Made form (for_last (x + i) (drop i ss) work) (Ok f) → Made form (next (limits true y (bounds s)) (λ hs. just (quantified true (restricted true hs (form f))))) r
    → Made form (for_last (x + j) (drop j ss) work) r
last_step x i j y ss s work f r up lt is own m k =
    subst (λ l. Made form (for_last (x + j) l work) r) (sym (drop-item ss j s lt is))
    (bound_more (x + j) s (drop (j + 1) ss) work f r
    (subst (λ z. Made form (for_last z (drop (j + 1) ss) work) (Ok f)) (next_name x j) (subst (λ n. Made form (for_last (x + n) (drop n ss) work) (Ok f)) up m))
    (subst (λ z. Made form (next (limits true z (bounds s)) (λ hs. just (quantified true (restricted true hs (form f))))) r) own k))
  where
    next_name : (x j : ℕ) → x + (j + 1) ≡ suc (x + j)
    next_name x j = omega arith

pub last_end : (x i : ℕ) (ss : List Sort) (work : Traced Form) (f : Core) → i ≡ 0 → Made form (for_last (x + i) (drop i ss) work) (Ok f) → Made form (for_last x ss work) (Ok f)
last_end x i ss work f none m = subst (λ y. Made form (for_last y ss work) (Ok f)) (own x) (subst (λ n. Made form (for_last (x + n) (drop n ss) work) (Ok f)) none m)
  where
    own : (x : ℕ) → x + 0 ≡ x
    own x = omega arith

-- the same, of an item that is read where the list has one
read_again : (ss : List Sort) (j : ℕ) (d : Sort) → j < length ss → get_or ss j d ≡ get_or ss j (get_or ss j d)
read_again ss j d lt = read_any ss j d (get_or ss j d) lt

pub item_step : (x i j : ℕ) (ss : List Sort) (d : Sort) (work : Traced Form) (f : Core) (r : Result Core TermFault) → i ≡ j + 1 → j < length ss
    → Made form (for_last (x + i) (drop i ss) work) (Ok f) → Made form (next (limits true (x + j) (bounds (get_or ss j d))) (λ hs. just (quantified true (restricted true hs (form f))))) r
    → Made form (for_last (x + j) (drop j ss) work) r
item_step x i j ss d work f r up lt m k = last_step x i j (x + j) ss (get_or ss j d) work f r up lt (read_again ss j d lt) refl m k

-- running out of memory, or a number that leaves the range, further in
pub last_failed : (x : ℕ) (ss : List Sort) (work : Traced Form) (e : TermFault) → Made form work (Err e) → Made form (for_last x ss work) (Err e)
last_failed x [] work e m = m
last_failed x (s ∷ ss) work e m =
    made_err form form (for_last (suc x) ss work) (λ g. next (limits true x (bounds s)) (λ hs. just (quantified true (restricted true hs g)))) (Err e) refl (last_failed (suc x) ss work e m)

-- below this many further quantifiers
pub last_more : (x j : ℕ) (ss : List Sort) (work : Traced Form) (e : TermFault) → Made form (for_last (x + j) (drop j ss) work) (Err e) → Made form (for_last x ss work) (Err e)
last_more x zero ss work e m = subst (λ y. Made form (for_last y ss work) (Err e)) (own x) m
  where
    own : (x : ℕ) → x + 0 ≡ x
    own x = omega arith
last_more x (suc j) [] work e m = m
last_more x (suc j) (s ∷ ss) work e m =
    made_err form form (for_last (suc x) ss work) (λ g. next (limits true x (bounds s)) (λ hs. just (quantified true (restricted true hs g)))) (Err e) refl
    (last_more (suc x) j ss work e (subst (λ y. Made form (for_last y (drop j ss) work) (Err e)) (up x j) m))
  where
    up : (x j : ℕ) → x + suc j ≡ suc x + j
    up x j = omega arith

pub same_fault : {work : Traced Form} {e : TermFault} (r : Result Core TermFault) → IsErrAnd r (λ z. z ≡ e) → Made form work (Err e) → Made form work r
same_fault (Ok x) h m = absurd h
same_fault {work} (Err d) h m = subst (λ z. Made form work (Err z)) (sym h) m
