-- What the script of what is in force and a command answers.
use Rattle.std.proofs.Common.{◌≡◌, ℕ, ◌-◌, Bool, true, false, MatchBool, List, ◌++◌, length, take, ap, subst, ◌∙◌}
use Rattle.base_answers.specs.Answer.{Answer}
use Rattle.job_smt.specs.Answered.{IsSmtAnswer}
use Rattle.smt_commands.specs.declared.refusal.ScriptRefusal.{ScriptRefusal}
use Rattle.smt_commands.specs.Least.{place_in}
use Rattle.job_dialogue.specs.declared.kinds.Kind.{Kind}
use Rattle.job_dialogue.specs.declared.spots.Spot.{Spot}
use Rattle.job_dialogue.specs.Errors.{error_line}
use Rattle.job_dialogue.specs.Held.{Held, Turn}
use Rattle.job_dialogue.specs.Dialogue.{IsAsked, IsRefusal, IsTakenStatus, accepted, front_of, refused, spot_of, taken, told}
use Rattle.job_dialogue.specs.Spots.{spot_after}

pub script_accepts : (budget : ℕ) (h : Held) (kind : Kind) (body script : List ℕ) (a : Answer) (o : Turn) → script ≡ front_of h kind ++ body → IsSmtAnswer budget script a → IsTakenStatus a.status
    → o ≡ record { held = taken kind body h; text = told kind h a.text } → IsAsked budget h kind body o
script_accepts budget h kind body script a o same answers status e = accepted a (subst (λ z. IsSmtAnswer budget z a) same answers) status e

pub script_refuses : (budget : ℕ) (h : Held) (kind : Kind) (body script : List ℕ) (a : Answer) (e : ScriptRefusal) (o : Turn) → script ≡ front_of h kind ++ body → IsSmtAnswer budget script a
    → ¬ (IsTakenStatus a.status) → IsRefusal script e → o ≡ record { held = h; text = error_line (spot_of h kind body e) e } → IsAsked budget h kind body o
script_refuses budget h kind body script a e o same answers status refusal made =
    refused a e (subst (λ z. IsSmtAnswer budget z a) same answers) status (subst (λ z. IsRefusal z e) same refusal) made

pub outcome_made : (h k : Held) (s t : List ℕ) (o : Turn) → o ≡ record { held = h; text = s } → h ≡ k → s ≡ t → o ≡ record { held = k; text = t }
outcome_made h k s t o made same alike = made ∙ (ap (λ z. record { held = z; text = s }) same ∙ ap (λ z. record { held = k; text = z }) alike)

-- the place of a refusal, by how much stands before the command in the script
pub placed_error : (h : Held) (kind : Kind) (body text : List ℕ) (before : ℕ) (spot : Spot) (e : ScriptRefusal) → before ≡ length (front_of h kind) → spot ≡ spot_after h.spot (take (place_in e - before) body)
    → text ≡ error_line spot e → text ≡ error_line (spot_of h kind body e) e
placed_error h kind body text before spot e long there line = line ∙ (ap (λ z. error_line z e) there ∙ ap (λ n. error_line (spot_after h.spot (take (place_in e - n) body)) e) long)

pub when_true : (b : Bool) (P Q : Type 0) → MatchBool b P Q → b ≡ true → P
when_true true P Q h e = h
when_true false P Q h e = absurd cc

pub when_false : (b : Bool) (P Q : Type 0) → MatchBool b P Q → b ≡ false → Q
when_false true P Q h e = absurd cc
when_false false P Q h e = h
