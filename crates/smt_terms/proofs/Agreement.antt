-- Names and what replaces them: at every list that goes on, it has the value that the name is bound to.
use Rattle.std.proofs.Common.{◌≡◌, ◌<◌, ℕ, suc, ◌+◌, ℤ, Bool, true, false, List, [], ◌∷◌, ◌++◌, length, Option, Some, None, refl, sym, ap, subst, ◌∙◌, append_assoc, append-nil, length-append, arith, if◌then◌else◌}
use Rattle.base_integers.specs.Entry.{entry}
use Rattle.base_integers.proofs.Entries.{entry-append_left, entry-append_right}
use Rattle.form_typed.specs.Truth.{Meaning}
use Rattle.base_texts.specs.Texts.{is_text}
use Rattle.smt_terms.specs.Operators.{Value, integer, found}
use Rattle.smt_terms.specs.Evaluation.{Values, with_names}
use Rattle.smt_terms.specs.Translation.{Standing, Replacements, at_depth, variable}
use Rattle.smt_terms.specs.Meaning.{IsValue}
use Rattle.smt_terms.proofs.Rules.{AreValues, none, more}

-- the list goes on with others after
pub record Extends (e e' : List ℤ) : Type 0 where
  pub behind : List ℤ
  pub is : e' ≡ e ++ behind

pub extends_itself : (e : List ℤ) → Extends e e
extends_itself e = record { behind = []; is = sym (append-nil e) }

pub extends_further : (e d f : List ℤ) → Extends e d → Extends d f → Extends e f
extends_further e d f h k = record { behind = h.behind ++ k.behind; is = k.is ∙ ap (λ z. z ++ k.behind) h.is ∙ append_assoc e h.behind k.behind }

pub extends_by : (e : List ℤ) (v : ℤ) → Extends e (e ++ v ∷ [])
extends_by e v = record { behind = v ∷ []; is = refl }

-- what replaces a name has this value, wherever it is used
pub record Keeps (w : Meaning) (e : List ℤ) (s : Standing) (v : Value) : Type 0 where
  pub at : (e' : List ℤ) → Extends e e' → IsValue w (s (length e')) e' v

pub keeps_on : (w : Meaning) (e d : List ℤ) (s : Standing) (v : Value) → Extends e d → Keeps w e s v → Keeps w d s v
keeps_on w e d s v x k = record { at = λ e' y. k.at e' (extends_further e d e' x y) }

-- several, with their values
pub data AllKeep (w : Meaning) (e : List ℤ) : List Standing → List Value → Type 0 where
  no_keep : AllKeep w e [] []
  and_keep : {s : Standing} {v : Value} {ss : List Standing} {vs : List Value} → Keeps w e s v → AllKeep w e ss vs → AllKeep w e (s ∷ ss) (v ∷ vs)

pub kept_values : {w : Meaning} {e : List ℤ} {ss : List Standing} {vs : List Value} → AllKeep w e ss vs → AreValues w e (at_depth (length e) ss) vs
kept_values no_keep = none
kept_values {w} {e} (and_keep {s} {v} h k) = more {s = s (length e)} {v = v} (h.at e (extends_itself e)) (kept_values k)

pub kept_lengths : {w : Meaning} {e : List ℤ} {ss : List Standing} {vs : List Value} → AllKeep w e ss vs → length vs ≡ length ss
kept_lengths no_keep = refl
kept_lengths (and_keep h k) = ap suc (kept_lengths k)

-- names bound to values, and the same names with what replaces them
pub data Agree (w : Meaning) (e : List ℤ) : Values → Replacements → Type 0 where
  no_name : Agree w e [] []
  and_name : {x : List ℕ} {v : Value} {s : Standing} {b : Values} {c : Replacements} → Keeps w e s v → Agree w e b c → Agree w e ((x, v) ∷ b) ((x, s) ∷ c)

pub agree_on : {w : Meaning} {e d : List ℤ} {b : Values} {c : Replacements} → Extends e d → Agree w e b c → Agree w d b c
agree_on x no_name = no_name
agree_on {w} {e} {d} x (and_name {v} {s} h k) = and_name (keeps_on w e d s v x h) (agree_on x k)

pub agree_with : {w : Meaning} {e : List ℤ} {b : Values} {c : Replacements} {ss : List Standing} {vs : List Value} (xs : List (List ℕ)) → AllKeep w e ss vs → Agree w e b c
    → Agree w e (with_names xs vs b) (with_names xs ss c)
agree_with [] h a = a
agree_with (x ∷ xs) no_keep a = a
agree_with (x ∷ xs) (and_keep h k) a = agree_with xs k (and_name h a)

-- what a name is bound to, and what replaces it
pub data AreAlike (w : Meaning) (e : List ℤ) : Option Value → Option Standing → Type 0 where
  neither : AreAlike w e None None
  alike : {v : Value} {s : Standing} → Keeps w e s v → AreAlike w e (Some v) (Some s)

pub found_alike : {w : Meaning} {e : List ℤ} {b : Values} {c : Replacements} (x : List ℕ) → Agree w e b c → AreAlike w e (found x b) (found x c)
found_alike x no_name = neither
found_alike {w} {e} x (and_name {x = y} {v} {s} {b} {c} h k) = by (is_text x y) (found_alike x k)
  where
    by : (t : Bool) → AreAlike w e (found x b) (found x c) → AreAlike w e (if t then Some v else found x b) (if t then Some s else found x c)
    by true later = alike h
    by false later = later

-- A variable.

pub entry_there : (e : List ℤ) (v : ℤ) (e' : List ℤ) → Extends (e ++ v ∷ []) e' → entry e' (length e) ≡ v
entry_there e v e' x =
    let is : e' ≡ e ++ (v ∷ x.behind) = x.is ∙ append_assoc e (v ∷ []) x.behind in
    let zero_more : length e + 0 ≡ length e = omega arith in
    ap (λ z. entry z (length e)) is ∙ subst (λ m. entry (e ++ (v ∷ x.behind)) m ≡ v) zero_more (entry-append_right e (v ∷ x.behind) 0)

pub variable_keeps : (w : Meaning) (e : List ℤ) (v : ℤ) → Keeps w (e ++ v ∷ []) (variable (length e)) (integer v)
variable_keeps w e v = record { at = λ e' x. entry_there e v e' x }

pub entry_kept : (u e : List ℤ) (k : ℕ) → Extends u e → k < length u → entry e k ≡ entry u k
entry_kept u e k x lt = ap (λ z. entry z k) x.is ∙ entry-append_left u x.behind k lt

pub one_longer : (e : List ℤ) (v : ℤ) → length (e ++ v ∷ []) ≡ suc (length e)
one_longer e v = omega (arith, length-append e (v ∷ []))
