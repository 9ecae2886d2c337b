-- What a walk owes after each line.
use Rattle.std.proofs.Common.{ℕ, zero, suc, ◌≡◌, ◌<◌, ◌-◌, Bool, true, false, cond, List, [], ◌∷◌, ◌++◌, refl, sym, ap, ◌∙◌, append_assoc, append-nil, arith}
use Rattle.sequent.specs.declared.member.Pick.{Pick}
use Rattle.proof_tree.specs.Walk.{eliminates}
use Rattle.proof_grammar.specs.declared.lines.Owed.{Owed}
use Rattle.proof_grammar.specs.declared.lines.Owed.TheVariants as o
use Rattle.proof_grammar.specs.declared.walk.Open.{Open}
use Rattle.proof_grammar.specs.declared.walk.Place.{Place}
use Rattle.proof_grammar.specs.declared.walk.Place.TheVariants as at
use Rattle.proof_grammar.specs.declared.walk.Walk.{Walk}
use Rattle.proof_grammar.specs.Owed.{nodes_owed}
use Rattle.proof_grammar.specs.Walks.{closing_owed, open_owed, opens_owed, owed_at, owed_of}

pub opens_more : (parts : ℕ) (fs : List Open) (f : Open) → opens_owed parts (fs ++ f ∷ []) ≡ open_owed parts f ++ opens_owed parts fs
opens_more parts [] f = sym (append-nil (open_owed parts f))
opens_more parts (g ∷ fs) f = ap (λ z. z ++ open_owed parts g) (opens_more parts fs f) ∙ append_assoc (open_owed parts f) (opens_owed parts fs) (open_owed parts g)

-- what a rule owes after its premises, in both cases
pub data Closing (parts : ℕ) (p : Pick) (logged : Bool) : Type 0 where
  with_log : closing_owed parts p logged ≡ o.Log parts ∷ o.Gives ∷ [] → logged ≡ false → Closing parts p logged
  without : closing_owed parts p logged ≡ o.Gives ∷ [] → Closing parts p logged

closing_by : (parts : ℕ) (p : Pick) (e logged : Bool) → eliminates p ≡ e → Closing parts p logged
closing_by parts p e true h = without refl
closing_by parts p true false h = with_log (ap (λ b. cond b (o.Log parts ∷ o.Gives ∷ []) (o.Gives ∷ [])) h) refl
closing_by parts p false false h = without (ap (λ b. cond b (o.Log parts ∷ o.Gives ∷ []) (o.Gives ∷ [])) h)

pub closing : (parts : ℕ) (p : Pick) (logged : Bool) → Closing parts p logged
closing parts p logged = closing_by parts p (eliminates p) logged refl

-- The first line that an open rule owes.
record First (os : List Owed) (x : Owed) : Type 0 where
  others : List Owed
  is : os ≡ x ∷ others

pub node_first : (parts : ℕ) (f : Open) (m : ℕ) → f.left ≡ suc m → open_owed parts f ≡ o.Node f.below parts ∷ (nodes_owed parts m f.below ++ closing_owed parts f.rule f.logged)
node_first parts f m e = ap (λ n. nodes_owed parts n f.below ++ closing_owed parts f.rule f.logged) e

pub none_left : (parts : ℕ) (f : Open) → f.left ≡ 0 → open_owed parts f ≡ closing_owed parts f.rule f.logged
none_left parts f e = ap (λ n. nodes_owed parts n f.below ++ closing_owed parts f.rule f.logged) e

pub next_node : (parts : ℕ) (f : Open) → 0 < f.left → (os : List Owed) × (open_owed parts f ≡ o.Node f.below parts ∷ os)
next_node parts f h = let e : f.left ≡ suc (f.left - 1) = omega arith in (nodes_owed parts (f.left - 1) f.below ++ closing_owed parts f.rule f.logged, node_first parts f (f.left - 1) e)

pub next_log : (parts : ℕ) (f : Open) → f.left ≡ 0 → f.logged ≡ false → eliminates f.rule ≡ true → (os : List Owed) × (open_owed parts f ≡ o.Log parts ∷ os)
next_log parts f e l h = (o.Gives ∷ [], none_left parts f e ∙ ap (λ b. closing_owed parts f.rule b) l ∙ ap (λ b. cond b (o.Log parts ∷ o.Gives ∷ []) (o.Gives ∷ [])) h)

pub next_gives_logged : (parts : ℕ) (f : Open) → f.left ≡ 0 → f.logged ≡ true → (os : List Owed) × (open_owed parts f ≡ o.Gives ∷ os)
next_gives_logged parts f e l = ([], none_left parts f e ∙ ap (λ b. closing_owed parts f.rule b) l)

pub next_gives : (parts : ℕ) (f : Open) → f.left ≡ 0 → f.logged ≡ false → eliminates f.rule ≡ false → (os : List Owed) × (open_owed parts f ≡ o.Gives ∷ os)
next_gives parts f e l h = ([], none_left parts f e ∙ ap (λ b. closing_owed parts f.rule b) l ∙ ap (λ b. cond b (o.Log parts ∷ o.Gives ∷ []) (o.Gives ∷ [])) h)

pub next_inside : (parts : ℕ) (f : Open) (fs : List Open) (x : Owed) → ((os : List Owed) × (open_owed parts f ≡ x ∷ os)) → (os : List Owed) × (owed_at parts (at.Inside f) fs ≡ x ∷ os)
next_inside parts f fs x q = (q.0 ++ (opens_owed parts fs ++ o.End parts ∷ []), ap (λ z. z ++ (opens_owed parts fs ++ o.End parts ∷ [])) q.1)

-- A rule.

not_node : (parts : ℕ) (tail os : List Owed) (p : Pick) (logged : Bool) (level : ℕ) → closing_owed parts p logged ++ tail ≡ o.Node level parts ∷ os → Closing parts p logged → ⊥
not_node parts tail os p logged level h (with_log e k) = let q : o.Log parts ∷ o.Gives ∷ tail ≡ o.Node level parts ∷ os = ap (λ z. z ++ tail) (sym e) ∙ h in cc
not_node parts tail os p logged level h (without e) = let q : o.Gives ∷ tail ≡ o.Node level parts ∷ os = ap (λ z. z ++ tail) (sym e) ∙ h in cc

regrouped : (new rest outer e : List Owed) → new ++ ((rest ++ outer) ++ e) ≡ new ++ (rest ++ (outer ++ e))
regrouped new rest outer e = ap (λ z. new ++ z) (append_assoc rest outer e)

enter_by : (parts : ℕ) (n : ℕ) (f rest new : Open) (fs : List Open) (level : ℕ) (made os : List Owed) → f.left ≡ n → rest.rule ≡ f.rule → rest.left ≡ f.left - 1 → rest.below ≡ f.below → rest.logged ≡ f.logged → open_owed parts new ≡ made
    → owed_at parts (at.Inside f) fs ≡ o.Node level parts ∷ os → owed_at parts (at.Inside new) (fs ++ rest ∷ []) ≡ made ++ os
enter_by parts zero f rest new fs level made os e r l b g is h =
    absurd (not_node parts (opens_owed parts fs ++ o.End parts ∷ []) os f.rule f.logged level (ap (λ z. z ++ (opens_owed parts fs ++ o.End parts ∷ [])) (sym (none_left parts f e)) ∙ h) (closing parts f.rule f.logged))
enter_by parts (suc m) f rest new fs level made os e r l b g is h =
    let tail = opens_owed parts fs ++ o.End parts ∷ [] in
    let whole : o.Node f.below parts ∷ ((nodes_owed parts m f.below ++ closing_owed parts f.rule f.logged) ++ tail) ≡ o.Node level parts ∷ os = ap (λ z. z ++ tail) (sym (node_first parts f m e)) ∙ h in
    let others : (nodes_owed parts m f.below ++ closing_owed parts f.rule f.logged) ++ tail ≡ os = cc in
    let one : rest.left ≡ m = l ∙ ap (λ n. n - 1) e ∙ (omega arith) in
    let same : open_owed parts rest ≡ nodes_owed parts m f.below ++ closing_owed parts f.rule f.logged =
    ap (λ n. nodes_owed parts n rest.below ++ closing_owed parts rest.rule rest.logged) one ∙ ap (λ n. nodes_owed parts m n ++ closing_owed parts rest.rule rest.logged) b
    ∙ ap (λ p. nodes_owed parts m f.below ++ closing_owed parts p rest.logged) r ∙ ap (λ q. nodes_owed parts m f.below ++ closing_owed parts f.rule q) g in
    ap (λ z. z ++ (opens_owed parts (fs ++ rest ∷ []) ++ o.End parts ∷ [])) is
    ∙ ap (λ z. made ++ (z ++ o.End parts ∷ [])) (opens_more parts fs rest)
    ∙ regrouped made (open_owed parts rest) (opens_owed parts fs) (o.End parts ∷ [])
    ∙ ap (λ z. made ++ (z ++ tail)) same
    ∙ ap (λ z. made ++ z) others

pub enter_inside : (parts : ℕ) (f rest new : Open) (fs : List Open) (level : ℕ) (made os : List Owed) → rest.rule ≡ f.rule → rest.left ≡ f.left - 1 → rest.below ≡ f.below → rest.logged ≡ f.logged → open_owed parts new ≡ made
    → owed_at parts (at.Inside f) fs ≡ o.Node level parts ∷ os → owed_at parts (at.Inside new) (fs ++ rest ∷ []) ≡ made ++ os
enter_inside parts f rest new fs level made os r l b g is h = enter_by parts f.left f rest new fs level made os refl r l b g is h

pub enter_outside : (parts : ℕ) (place : Place) (new : Open) (fs : List Open) (level : ℕ) (made os : List Owed) → ((f : Open) → place ≡ at.Inside f → ⊥) → open_owed parts new ≡ made
    → owed_at parts place fs ≡ o.Node level parts ∷ os → owed_at parts (at.Inside new) fs ≡ made ++ os
enter_outside parts at.Root new fs level made os out is h = let others : opens_owed parts fs ++ o.End parts ∷ [] ≡ os = cc in ap (λ z. z ++ (opens_owed parts fs ++ o.End parts ∷ [])) is ∙ ap (λ z. made ++ z) others
enter_outside parts (at.Inside f) new fs level made os out is h = absurd (out f refl)
enter_outside parts at.End new fs level made os out is h = absurd (cc)
enter_outside parts at.Done new fs level made os out is h = absurd (cc)

-- A log.

note_closing : (parts said : ℕ) (f noted : Open) (tail os : List Owed) → noted.rule ≡ f.rule → noted.left ≡ 0 → noted.logged ≡ true → closing_owed parts f.rule f.logged ++ tail ≡ o.Log said ∷ os → Closing parts f.rule f.logged → open_owed parts noted ++ tail ≡ os
note_closing parts said f noted tail os r z g h (with_log e k) =
    let q : o.Log parts ∷ o.Gives ∷ tail ≡ o.Log said ∷ os = ap (λ y. y ++ tail) (sym e) ∙ h in
    let others : o.Gives ∷ tail ≡ os = cc in
    ap (λ y. y ++ tail) (none_left parts noted z ∙ ap (λ b. closing_owed parts noted.rule b) g) ∙ others
note_closing parts said f noted tail os r z g h (without e) = let q : o.Gives ∷ tail ≡ o.Log said ∷ os = ap (λ y. y ++ tail) (sym e) ∙ h in absurd (cc)

note_by : (parts said : ℕ) (n : ℕ) (f noted : Open) (fs : List Open) (os : List Owed) → f.left ≡ n → noted.rule ≡ f.rule → noted.left ≡ f.left → noted.logged ≡ true → owed_at parts (at.Inside f) fs ≡ o.Log said ∷ os → owed_at parts (at.Inside noted) fs ≡ os
note_by parts said zero f noted fs os e r l g h =
    note_closing parts said f noted (opens_owed parts fs ++ o.End parts ∷ []) os r (l ∙ e) g (ap (λ z. z ++ (opens_owed parts fs ++ o.End parts ∷ [])) (sym (none_left parts f e)) ∙ h) (closing parts f.rule f.logged)
note_by parts said (suc m) f noted fs os e r l g h =
    let tail = opens_owed parts fs ++ o.End parts ∷ [] in
    let q : o.Node f.below parts ∷ ((nodes_owed parts m f.below ++ closing_owed parts f.rule f.logged) ++ tail) ≡ o.Log said ∷ os = ap (λ z. z ++ tail) (sym (node_first parts f m e)) ∙ h in absurd (cc)

pub note_inside : (parts said : ℕ) (f noted : Open) (fs : List Open) (os : List Owed) → noted.rule ≡ f.rule → noted.left ≡ f.left → noted.logged ≡ true → owed_at parts (at.Inside f) fs ≡ o.Log said ∷ os → owed_at parts (at.Inside noted) fs ≡ os
note_inside parts said f noted fs os r l g h = note_by parts said f.left f noted fs os refl r l g h

pub note_outside : (parts said : ℕ) (place : Place) (fs : List Open) (os : List Owed) → ((f : Open) → place ≡ at.Inside f → ⊥) → owed_at parts place fs ≡ o.Log said ∷ os → ⊥
note_outside parts said at.Root fs os out h = cc
note_outside parts said (at.Inside f) fs os out h = out f refl
note_outside parts said at.End fs os out h = cc
note_outside parts said at.Done fs os out h = cc

-- A constraint.

leave_closing : (parts : ℕ) (p : Pick) (logged : Bool) (tail os : List Owed) → closing_owed parts p logged ++ tail ≡ o.Gives ∷ os → Closing parts p logged → tail ≡ os
leave_closing parts p logged tail os h (with_log e k) = let q : o.Log parts ∷ o.Gives ∷ tail ≡ o.Gives ∷ os = ap (λ y. y ++ tail) (sym e) ∙ h in absurd (cc)
leave_closing parts p logged tail os h (without e) = let q : o.Gives ∷ tail ≡ o.Gives ∷ os = ap (λ y. y ++ tail) (sym e) ∙ h in cc

leave_by : (parts : ℕ) (n : ℕ) (f : Open) (fs : List Open) (os : List Owed) → f.left ≡ n → owed_at parts (at.Inside f) fs ≡ o.Gives ∷ os → opens_owed parts fs ++ o.End parts ∷ [] ≡ os
leave_by parts zero f fs os e h = leave_closing parts f.rule f.logged (opens_owed parts fs ++ o.End parts ∷ []) os (ap (λ z. z ++ (opens_owed parts fs ++ o.End parts ∷ [])) (sym (none_left parts f e)) ∙ h) (closing parts f.rule f.logged)
leave_by parts (suc m) f fs os e h =
    let tail = opens_owed parts fs ++ o.End parts ∷ [] in
    let q : o.Node f.below parts ∷ ((nodes_owed parts m f.below ++ closing_owed parts f.rule f.logged) ++ tail) ≡ o.Gives ∷ os = ap (λ z. z ++ tail) (sym (node_first parts f m e)) ∙ h in absurd (cc)

behind_gives : (parts : ℕ) (place : Place) (fs : List Open) (os : List Owed) → owed_at parts place fs ≡ o.Gives ∷ os → opens_owed parts fs ++ o.End parts ∷ [] ≡ os
behind_gives parts at.Root fs os h = absurd (cc)
behind_gives parts (at.Inside f) fs os h = leave_by parts f.left f fs os refl h
behind_gives parts at.End fs os h = absurd (cc)
behind_gives parts at.Done fs os h = absurd (cc)

pub leave_some : (parts : ℕ) (place : Place) (fs gs : List Open) (f : Open) (os : List Owed) → fs ≡ gs ++ f ∷ [] → owed_at parts place fs ≡ o.Gives ∷ os → owed_at parts (at.Inside f) gs ≡ os
leave_some parts place fs gs f os e h =
    sym (append_assoc (open_owed parts f) (opens_owed parts gs) (o.End parts ∷ [])) ∙ ap (λ z. z ++ o.End parts ∷ []) (sym (opens_more parts gs f) ∙ ap (opens_owed parts) (sym e)) ∙ behind_gives parts place fs os h

pub leave_none : (parts : ℕ) (place : Place) (fs : List Open) (os : List Owed) → fs ≡ [] → owed_at parts place fs ≡ o.Gives ∷ os → o.End parts ∷ [] ≡ os
leave_none parts place fs os e h = ap (λ z. opens_owed parts z ++ o.End parts ∷ []) (sym e) ∙ behind_gives parts place fs os h

-- The conclusion.

not_end : (parts said : ℕ) (tail os : List Owed) (p : Pick) (logged : Bool) → closing_owed parts p logged ++ tail ≡ o.End said ∷ os → Closing parts p logged → ⊥
not_end parts said tail os p logged h (with_log e k) = let q : o.Log parts ∷ o.Gives ∷ tail ≡ o.End said ∷ os = ap (λ y. y ++ tail) (sym e) ∙ h in cc
not_end parts said tail os p logged h (without e) = let q : o.Gives ∷ tail ≡ o.End said ∷ os = ap (λ y. y ++ tail) (sym e) ∙ h in cc

end_by : (parts said : ℕ) (n : ℕ) (f : Open) (fs : List Open) (os : List Owed) → f.left ≡ n → owed_at parts (at.Inside f) fs ≡ o.End said ∷ os → ⊥
end_by parts said zero f fs os e h = not_end parts said (opens_owed parts fs ++ o.End parts ∷ []) os f.rule f.logged (ap (λ z. z ++ (opens_owed parts fs ++ o.End parts ∷ [])) (sym (none_left parts f e)) ∙ h) (closing parts f.rule f.logged)
end_by parts said (suc m) f fs os e h =
    let tail = opens_owed parts fs ++ o.End parts ∷ [] in
    let q : o.Node f.below parts ∷ ((nodes_owed parts m f.below ++ closing_owed parts f.rule f.logged) ++ tail) ≡ o.End said ∷ os = ap (λ z. z ++ tail) (sym (node_first parts f m e)) ∙ h in cc

pub end_outside : (parts said : ℕ) (place : Place) (fs : List Open) (os : List Owed) → owed_at parts place fs ≡ o.End said ∷ os → [] ≡ os
end_outside parts said at.Root fs os h = absurd (cc)
end_outside parts said (at.Inside f) fs os h = absurd (end_by parts said f.left f fs os refl h)
end_outside parts said at.End fs os h = cc
end_outside parts said at.Done fs os h = absurd (cc)

pub root_owed : (walk : Walk) → walk.place ≡ at.Root → (os : List Owed) × (owed_of walk ≡ o.Node 1 walk.parts ∷ os)
root_owed walk e = (opens_owed walk.parts walk.outer ++ o.End walk.parts ∷ [], ap (λ p. owed_at walk.parts p walk.outer) e)

pub inside_owed : (walk : Walk) (f : Open) (x : Owed) → walk.place ≡ at.Inside f → ((os : List Owed) × (open_owed walk.parts f ≡ x ∷ os)) → (os : List Owed) × (owed_of walk ≡ x ∷ os)
inside_owed walk f x e q = let n = next_inside walk.parts f walk.outer x q in (n.0, ap (λ p. owed_at walk.parts p walk.outer) e ∙ n.1)

-- How many parts there are where a node or a log is owed.

open_node : (parts said level n : ℕ) (f : Open) (tail os : List Owed) → f.left ≡ n → open_owed parts f ++ tail ≡ o.Node level said ∷ os → said ≡ parts
open_node parts said level zero f tail os e h = absurd (none (ap (λ z. z ++ tail) (sym (none_left parts f e)) ∙ h) (closing parts f.rule f.logged))
  where
    none : closing_owed parts f.rule f.logged ++ tail ≡ o.Node level said ∷ os → Closing parts f.rule f.logged → ⊥
    none h (with_log e k) = let q : o.Log parts ∷ o.Gives ∷ tail ≡ o.Node level said ∷ os = ap (λ z. z ++ tail) (sym e) ∙ h in cc
    none h (without e) = let q : o.Gives ∷ tail ≡ o.Node level said ∷ os = ap (λ z. z ++ tail) (sym e) ∙ h in cc
open_node parts said level (suc m) f tail os e h =
    let q : o.Node f.below parts ∷ ((nodes_owed parts m f.below ++ closing_owed parts f.rule f.logged) ++ tail) ≡ o.Node level said ∷ os = ap (λ z. z ++ tail) (sym (node_first parts f m e)) ∙ h in cc

pub node_parts : (parts said level : ℕ) (place : Place) (fs : List Open) (os : List Owed) → owed_at parts place fs ≡ o.Node level said ∷ os → said ≡ parts
node_parts parts said level at.Root fs os h = cc
node_parts parts said level (at.Inside f) fs os h = open_node parts said level f.left f (opens_owed parts fs ++ o.End parts ∷ []) os refl h
node_parts parts said level at.End fs os h = absurd (cc)
node_parts parts said level at.Done fs os h = absurd (cc)

open_log : (parts said n : ℕ) (f : Open) (tail os : List Owed) → f.left ≡ n → open_owed parts f ++ tail ≡ o.Log said ∷ os → said ≡ parts
open_log parts said zero f tail os e h = logged (ap (λ z. z ++ tail) (sym (none_left parts f e)) ∙ h) (closing parts f.rule f.logged)
  where
    logged : closing_owed parts f.rule f.logged ++ tail ≡ o.Log said ∷ os → Closing parts f.rule f.logged → said ≡ parts
    logged h (with_log e k) = let q : o.Log parts ∷ o.Gives ∷ tail ≡ o.Log said ∷ os = ap (λ z. z ++ tail) (sym e) ∙ h in cc
    logged h (without e) = let q : o.Gives ∷ tail ≡ o.Log said ∷ os = ap (λ z. z ++ tail) (sym e) ∙ h in absurd (cc)
open_log parts said (suc m) f tail os e h =
    let q : o.Node f.below parts ∷ ((nodes_owed parts m f.below ++ closing_owed parts f.rule f.logged) ++ tail) ≡ o.Log said ∷ os = ap (λ z. z ++ tail) (sym (node_first parts f m e)) ∙ h in absurd (cc)

-- how many parts a log that is owed may use
pub log_parts : (parts said : ℕ) (place : Place) (fs : List Open) (os : List Owed) → owed_at parts place fs ≡ o.Log said ∷ os → said ≡ parts
log_parts parts said at.Root fs os h = absurd (cc)
log_parts parts said (at.Inside f) fs os h = open_log parts said f.left f (opens_owed parts fs ++ o.End parts ∷ []) os refl h
log_parts parts said at.End fs os h = absurd (cc)
log_parts parts said at.Done fs os h = absurd (cc)
