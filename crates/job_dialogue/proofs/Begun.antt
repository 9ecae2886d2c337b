-- A dialogue over the first pieces has told a beginning of the text; and what the answer to a check says.
use Rattle.std.proofs.Common.{◌≡◌, ◌⊎◌, ℕ, ◌∷◌, [], ◌++◌, List, drop, fold, take, Bool, true, false, inl, inr, sym, ap, subst, ◌∙◌, refl, append_assoc}
use Rattle.std.specs.List.{concat}
use Rattle.std.proofs.lemmas.List.{append-nil}
use Rattle.std.proofs.lemmas.List.Sums.{fold_push}
use Rattle.std.proofs.lemmas.List.Folds.{concat-append}
use Rattle.base_answers.specs.Answer.{Answer}
use Rattle.form_typed.specs.Truth.{Meaning}
use Rattle.job_smt.specs.Answered.{IsSmtAnswer}
use Rattle.job_smt.specs.Meaning.{Scripted}
use Rattle.job_dialogue.specs.declared.kinds.Kind.TheVariants as k
use Rattle.job_dialogue.specs.Held.{Held, Turn, passing}
use Rattle.job_dialogue.specs.Pieces.{Cut, cut_of, cut_on, cut_where, ends_piece, first_cut}
use Rattle.job_dialogue.specs.Dialogue.{IsAsked, IsDialogue, IsDone, IsReply, IsTakenStatus, accepted, begins, goes_on, refused}
use Rattle.job_dialogue.specs.Laws.{HasBegun, IsCheckTold, fails, says}

-- two lists that are none together
no_more : (ps qs : List (List ℕ)) → ps ++ qs ≡ [] → qs ≡ []
no_more [] qs e = e
no_more (p ∷ ps) qs e = absurd cc

-- where two lists together end with a piece, the second one is empty, or ends with it
last_split : (ps qs before : List (List ℕ)) (x : List ℕ) → ps ++ qs ≡ before ++ x ∷ [] → (qs ≡ []) ⊎ ((init : List (List ℕ)) × (before ≡ ps ++ init))
last_split [] qs before x e = inr (before, refl)
last_split (p ∷ ps) qs [] x e = inl (no_more ps qs (let t : ps ++ qs ≡ [] = cc in t))
last_split (p ∷ ps) qs (b ∷ before) x e =
    let t : ps ++ qs ≡ before ++ x ∷ [] = cc in
    let same : b ≡ p = cc in
    elim (last_split ps qs before x t) [ inl none ↦ inl none | inr found ↦ inr (found.0, ap (λ z. z ∷ before) same ∙ ap (λ z. p ∷ z) found.1) ]

whole_begun : (budget : ℕ) (ps qs : List (List ℕ)) (h : Held) (text : List ℕ) → qs ≡ [] → IsDialogue budget (ps ++ qs) h text → HasBegun budget ps text
whole_begun budget ps qs h text none d = record {
  held = h;
  front = text;
  back = [];
  parts = sym (append-nil text);
  answers = subst (λ z. IsDialogue budget z h text) (ap (λ z. ps ++ z) none ∙ append-nil ps) d;
}

begun_more : (budget : ℕ) (ps : List (List ℕ)) (front said text : List ℕ) → text ≡ front ++ said → HasBegun budget ps front → HasBegun budget ps text
begun_more budget ps front said text whole b = record {
  held = b.held;
  front = b.front;
  back = b.back ++ said;
  parts = whole ∙ (ap (λ z. z ++ said) b.parts ∙ append_assoc b.front b.back said);
  answers = b.answers;
}

begun_in : (budget : ℕ) (ps qs all : List (List ℕ)) (h : Held) (text : List ℕ) → all ≡ ps ++ qs → IsDialogue budget all h text → HasBegun budget ps text
begun_in budget ps qs all h text e (begins none first said) =
    whole_begun budget ps qs h text (no_more ps qs (sym e ∙ none)) (subst (λ z. IsDialogue budget z h text) e (begins none first said))
begun_in budget ps qs all h text e (goes_on before mid front piece said d going reply parts whole) =
    elim (last_split ps qs before piece (sym e ∙ parts)) [
      | inl none ↦ whole_begun budget ps qs h text none (subst (λ z. IsDialogue budget z h text) e (goes_on before mid front piece said d going reply parts whole))
      | inr found ↦ begun_more budget ps front said text whole (begun_in budget ps found.0 before mid front found.1 d)
    ]

pub dialogue_begun : (budget : ℕ) (ps qs : List (List ℕ)) (h : Held) (text : List ℕ) → IsDialogue budget (ps ++ qs) h text → HasBegun budget ps text
dialogue_begun budget ps qs h text d = begun_in budget ps qs (ps ++ qs) h text refl d

-- ---- the pieces

joined_on : (c : Cut) (is : Bool) (b : ℕ) → concat (cut_where is c b).pieces ++ (cut_where is c b).rest ≡ (concat c.pieces ++ c.rest) ++ b ∷ []
joined_on c true b =
    append-nil (concat (c.pieces ++ (c.rest ++ b ∷ []) ∷ [])) ∙ (concat-append c.pieces ((c.rest ++ b ∷ []) ∷ []) ∙ (ap (λ z. concat c.pieces ++ z) (append-nil (c.rest ++ b ∷ [])) ∙ sym (append_assoc (concat c.pieces) c.rest (b ∷ []))))
joined_on c false b = sym (append_assoc (concat c.pieces) c.rest (b ∷ []))

joined_from : (c : Cut) (bytes : List ℕ) → concat (fold cut_on c bytes).pieces ++ (fold cut_on c bytes).rest ≡ (concat c.pieces ++ c.rest) ++ bytes
joined_from c [] = sym (append-nil (concat c.pieces ++ c.rest))
joined_from c (b ∷ bytes) = joined_from (cut_on c b) bytes ∙ (ap (λ z. z ++ bytes) (joined_on c (ends_piece c.scan b) b) ∙ append_assoc (concat c.pieces ++ c.rest) (b ∷ []) bytes)

pub pieces_joined : (bytes : List ℕ) → concat (cut_of bytes).pieces ++ (cut_of bytes).rest ≡ bytes
pieces_joined bytes = joined_from first_cut bytes

-- ---- a check

check_asked : (w : Meaning) (budget : ℕ) (h : Held) (body : List ℕ) (o : Turn) (text : List ℕ) → ((w : Meaning) (budget : ℕ) (bytes : List ℕ) (a : Answer) → IsSmtAnswer budget bytes a → IsTakenStatus a.status → Scripted w bytes a.text)
    → IsAsked budget h k.Asks body o → text ≡ o.text → IsCheckTold w (h.text ++ body) text
check_asked w budget h body o text means (accepted a answers status made) e =
    let plain : (h.text ++ []) ++ body ≡ h.text ++ body = ap (λ z. z ++ body) (append-nil h.text) in
    let told : a.text ≡ text = sym (e ∙ ap (λ z. z.text) made) in
    says (subst (λ z. Scripted w z text) plain (subst (λ z. Scripted w ((h.text ++ []) ++ body) z) told (means w budget ((h.text ++ []) ++ body) a answers status)))
check_asked w budget h body o text means (refused a f answers status refusal made) e = fails _ f (e ∙ ap (λ z. z.text) made)

pub check_told : ((w : Meaning) (budget : ℕ) (bytes : List ℕ) (a : Answer) → IsSmtAnswer budget bytes a → IsTakenStatus a.status → Scripted w bytes a.text)
    → (w : Meaning) (budget : ℕ) (h : Held) (piece : List ℕ) (next : Held) (text : List ℕ) (reply : IsReply budget h piece next text) → reply.reading.kind ≡ k.Asks → IsCheckTold w (h.text ++ drop reply.reading.start piece) text
check_told means w budget h piece next text reply e = check_asked w budget (passing (take reply.reading.start piece) h) (drop reply.reading.start piece) reply.outcome text means (subst (λ z. IsDone budget (passing (take reply.reading.start piece) h) z (drop reply.reading.start piece) reply.outcome) e reply.done) reply.told
