-- What is read is heard byte after byte.
use Rattle.std.proofs.Common.{◌≡◌, ℕ, ◌∷◌, [], ◌++◌, List, Bool, true, false, Option, Some, None, sym, ap, subst, ◌∙◌, refl, append_assoc}
use Rattle.std.proofs.lemmas.List.{append-nil}
use Rattle.std.proofs.lemmas.List.Sums.{fold_push}
use Rattle.base_answers.specs.Outside.{PutsAll, PutsUpTo}
use Rattle.job_dialogue.specs.declared.stops.Stop.{Stop}
use Rattle.job_dialogue.specs.declared.stops.Stop.TheVariants as stop
use Rattle.job_dialogue.specs.declared.talks.Talk.{Talk}
use Rattle.job_dialogue.specs.Held.{Held, first_held}
use Rattle.job_dialogue.specs.Pieces.{cut_of, cut_on, cut_where, ends_piece, first_cut, scan_on}
use Rattle.job_dialogue.specs.Dialogue.{IsDialogue, begins, goes_on}
use Rattle.job_dialogue.specs.Views.{held_of}
use Rattle.job_dialogue.specs.Talks.{BreaksOff, Hears, HearsFront, IsHeard, TellsPart, TellsPiece}

pub first_heard : (budget : ℕ) (talk : Talk) → held_of talk.dialogue ≡ first_held → talk.rest.items ≡ [] → talk.scan ≡ first_cut.scan → IsHeard budget [] talk []
first_heard budget talk held rest scan = record { answered = begins refl held refl; rest = rest; scan = scan }

-- the cut after one byte more, where that ends no piece
cut_goes_on : (read : List ℕ) (b : ℕ) (is : Bool) → ends_piece (cut_of read).scan b ≡ is → cut_of (read ++ b ∷ []) ≡ cut_where is (cut_of read) b
cut_goes_on read b is e = fold_push cut_on first_cut read b ∙ ap (λ z. cut_where z (cut_of read) b) e

pub empty_put : (before : Option (List ℕ)) → PutsAll before before []
empty_put (Some b) = ap (λ z. Some z) (sym (append-nil b))
empty_put None = refl

-- the same dialogue, said of other terms
pub same_dialogue : (budget : ℕ) (ps qs : List (List ℕ)) (h k : Held) (s t : List ℕ) → ps ≡ qs → h ≡ k → s ≡ t → IsDialogue budget ps h s → IsDialogue budget qs k t
same_dialogue budget ps qs h k s t pieces held text d =
    subst (λ z. IsDialogue budget qs k z) text (subst (λ z. IsDialogue budget qs z s) held (subst (λ z. IsDialogue budget z h s) pieces d))

-- a byte that ends no piece
pub byte_kept : (budget b : ℕ) (old new : Talk) (before : Option (List ℕ)) → held_of new.dialogue ≡ held_of old.dialogue → new.rest.items ≡ old.rest.items ++ b ∷ [] → new.scan ≡ scan_on old.scan b
    → ends_piece old.scan b ≡ false → Hears budget old new (b ∷ []) before before
byte_kept budget b old new before held rest scan ends = record {
  said = [];
  put = empty_put before;
  heard = λ read text h.
      let same : cut_of (read ++ b ∷ []) ≡ cut_where false (cut_of read) b = cut_goes_on read b false (ap (λ z. ends_piece z b) (sym h.scan) ∙ ends) in
      record {
        answered = same_dialogue budget _ _ _ _ _ _ (sym (ap (λ z. z.pieces) same)) (sym held) (sym (append-nil text)) h.answered;
        rest = rest ∙ (ap (λ z. z ++ b ∷ []) h.rest ∙ sym (ap (λ z. z.rest) same));
        scan = scan ∙ (ap (λ z. scan_on z b) h.scan ∙ sym (ap (λ z. z.scan) same));
      };
}

-- a byte that ends a piece, which is answered
pub byte_told : (budget b : ℕ) (old new : Talk) (piece : List ℕ) (before after : Option (List ℕ)) → piece ≡ old.rest.items ++ b ∷ [] → old.dialogue.ended ≡ false → TellsPiece budget (held_of old.dialogue) piece (held_of new.dialogue) before after
    → new.rest.items ≡ [] → new.scan ≡ scan_on old.scan b → ends_piece old.scan b ≡ true → Hears budget old new (b ∷ []) before after
byte_told budget b old new piece before after made going told rest scan ends = record {
  said = told.said;
  put = told.put;
  heard = λ read text h.
      let same : cut_of (read ++ b ∷ []) ≡ cut_where true (cut_of read) b = cut_goes_on read b true (ap (λ z. ends_piece z b) (sym h.scan) ∙ ends) in
      let whole : piece ≡ (cut_of read).rest ++ b ∷ [] = made ∙ ap (λ z. z ++ b ∷ []) h.rest in
      record {
        answered = goes_on (cut_of read).pieces (held_of old.dialogue) text piece told.said h.answered going told.replies (ap (λ z. z.pieces) same ∙ ap (λ z. (cut_of read).pieces ++ z ∷ []) (sym whole)) refl;
        rest = rest ∙ sym (ap (λ z. z.rest) same);
        scan = scan ∙ (ap (λ z. scan_on z b) h.scan ∙ sym (ap (λ z. z.scan) same));
      };
}

pub puts_both : (before now after : Option (List ℕ)) (s t : List ℕ) → PutsAll before now s → PutsAll now after t → PutsAll before after (s ++ t)
puts_both (Some b) (Some c) after s t is more = let same : c ≡ b ++ s = cc in more ∙ (ap (λ z. Some (z ++ t)) same ∙ ap (λ z. Some z) (append_assoc b s t))
puts_both (Some b) None after s t is more = absurd cc
puts_both None (Some c) after s t is more = absurd cc
puts_both None None after s t is more = more

pub hears_nothing : (budget : ℕ) (talk : Talk) (before : Option (List ℕ)) → Hears budget talk talk [] before before
hears_nothing budget talk before = record {
  said = [];
  put = empty_put before;
  heard = λ read text h. subst (λ z. IsHeard budget z talk (text ++ [])) (sym (append-nil read)) (subst (λ z. IsHeard budget read talk z) (sym (append-nil text)) h);
}

hears_both : (budget : ℕ) (old mid new : Talk) (xs ys : List ℕ) (before now after : Option (List ℕ)) → Hears budget old mid xs before now → Hears budget mid new ys now after → Hears budget old new (xs ++ ys) before after
hears_both budget old mid new xs ys before now after one two = record {
  said = one.said ++ two.said;
  put = puts_both before now after one.said two.said one.put two.put;
  heard = λ read text h. subst (λ z. IsHeard budget (read ++ (xs ++ ys)) new z) (append_assoc text one.said two.said)
      (subst (λ z. IsHeard budget z new ((text ++ one.said) ++ two.said)) (append_assoc read xs ys) (two.heard (read ++ xs) (text ++ one.said) (one.heard read text h)));
}

-- of these bytes those before this rest are heard
pub record HeardUpTo (budget : ℕ) (old new : Talk) (bytes rest : List ℕ) (before after : Option (List ℕ)) : Type 0 where
  pub front : List ℕ
  pub parts : front ++ rest ≡ bytes
  pub hears : Hears budget old new front before after

pub heard_nothing : (budget : ℕ) (talk : Talk) (bytes : List ℕ) (before : Option (List ℕ)) → HeardUpTo budget talk talk bytes bytes before before
heard_nothing budget talk bytes before = record { front = []; parts = refl; hears = hears_nothing budget talk before }

pub heard_more : (budget b : ℕ) (old mid new : Talk) (bytes rest behind : List ℕ) (before now after : Option (List ℕ)) → rest ≡ b ∷ behind → HeardUpTo budget old mid bytes rest before now → Hears budget mid new (b ∷ []) now after
    → HeardUpTo budget old new bytes behind before after
heard_more budget b old mid new bytes rest behind before now after e so_far more = record {
  front = so_far.front ++ b ∷ [];
  parts = append_assoc so_far.front (b ∷ []) behind ∙ (ap (λ z. so_far.front ++ z) (sym e) ∙ so_far.parts);
  hears = hears_both budget old mid new so_far.front (b ∷ []) before now after so_far.hears more;
}

-- all of them are heard, or those up to an `exit`
pub front_heard : (budget : ℕ) (old new : Talk) (bytes rest : List ℕ) (before after : Option (List ℕ)) → (new.dialogue.ended ≡ false → rest ≡ []) → HeardUpTo budget old new bytes rest before after → HearsFront budget old new bytes before after
front_heard budget old new bytes rest before after whole so_far = record { front = so_far.front; rest = rest; parts = so_far.parts; whole = whole; hears = so_far.hears }

-- ---- where a dialogue breaks off

all_put : (before after : Option (List ℕ)) (text : List ℕ) → PutsAll before after text → PutsUpTo before after text []
all_put before after text put = record { front = text; parts = append-nil text; put = put }

pub nothing_put : (before after : Option (List ℕ)) → after ≡ before → PutsUpTo before after [] []
nothing_put before after same = record { front = []; parts = refl; put = subst (λ z. PutsAll before z []) (sym same) (empty_put before) }

pub then_put : (before now after : Option (List ℕ)) (s t rest : List ℕ) → PutsAll before now s → PutsUpTo now after t rest → PutsUpTo before after (s ++ t) rest
then_put before now after s t rest all part = record {
  front = s ++ part.front;
  parts = append_assoc s part.front rest ∙ ap (λ z. s ++ z) part.parts;
  put = puts_both before now after s part.front all part.put;
}

-- before a byte is answered
pub breaks_before : (budget : ℕ) (old : Talk) (bytes : List ℕ) (e : Stop) (before after : Option (List ℕ)) → after ≡ before → BreaksOff budget old bytes e before after
breaks_before budget old bytes e before after same = record {
  front = [];
  rest = bytes;
  parts = refl;
  said = [];
  unput = [];
  put = nothing_put before after same;
  full = λ _. refl;
  heard = λ read text h. (held_of old.dialogue, same_dialogue budget _ _ _ _ _ _ (ap (λ z. (cut_of z).pieces) (sym (append-nil read))) refl (sym (append-nil text)) h.answered);
}

-- while the answer to a piece is put
pub breaks_in : (budget b : ℕ) (old : Talk) (piece : List ℕ) (before after : Option (List ℕ)) → piece ≡ old.rest.items ++ b ∷ [] → old.dialogue.ended ≡ false → ends_piece old.scan b ≡ true
    → TellsPart budget (held_of old.dialogue) piece before after → BreaksOff budget old (b ∷ []) stop.Sink before after
breaks_in budget b old piece before after made going ends told = record {
  front = b ∷ [];
  rest = [];
  parts = refl;
  said = told.said;
  unput = told.unput;
  put = told.put;
  full = λ other. absurd (other refl);
  heard = λ read text h.
      let same : cut_of (read ++ b ∷ []) ≡ cut_where true (cut_of read) b = cut_goes_on read b true (ap (λ z. ends_piece z b) (sym h.scan) ∙ ends) in
      let whole : piece ≡ (cut_of read).rest ++ b ∷ [] = made ∙ ap (λ z. z ++ b ∷ []) h.rest in
      (told.next, goes_on (cut_of read).pieces (held_of old.dialogue) text piece told.said h.answered going told.replies (ap (λ z. z.pieces) same ∙ ap (λ z. (cut_of read).pieces ++ z ∷ []) (sym whole)) refl);
}

-- while a piece is answered
pub breaks_with : (budget b : ℕ) (old : Talk) (piece : List ℕ) (e : Stop) (before after : Option (List ℕ)) → piece ≡ old.rest.items ++ b ∷ [] → old.dialogue.ended ≡ false → ends_piece old.scan b ≡ true
    → (e ≡ stop.Sink → TellsPart budget (held_of old.dialogue) piece before after) → (e ≡ stop.Memory → after ≡ before) → (e ≡ stop.Source → ⊥) → BreaksOff budget old (b ∷ []) e before after
breaks_with budget b old piece stop.Source before after made going ends part silent source = absurd (source refl)
breaks_with budget b old piece stop.Sink before after made going ends part silent source = breaks_in budget b old piece before after made going ends (part refl)
breaks_with budget b old piece stop.Memory before after made going ends part silent source = breaks_before budget old (b ∷ []) stop.Memory before after (silent refl)

-- after these bytes were heard
pub breaks_later : (budget : ℕ) (old mid : Talk) (bytes xs rest : List ℕ) (behind : List ℕ) (e : Stop) (before now after : Option (List ℕ)) → HeardUpTo budget old mid bytes rest before now → rest ≡ xs ++ behind
    → BreaksOff budget mid xs e now after → BreaksOff budget old bytes e before after
breaks_later budget old mid bytes xs rest behind e before now after so_far split breaks = record {
  front = so_far.front ++ breaks.front;
  rest = breaks.rest ++ behind;
  parts = append_assoc so_far.front breaks.front (breaks.rest ++ behind) ∙ (ap (λ z. so_far.front ++ z) (sym (append_assoc breaks.front breaks.rest behind) ∙ (ap (λ z. z ++ behind) breaks.parts ∙ sym split)) ∙ so_far.parts);
  said = so_far.hears.said ++ breaks.said;
  unput = breaks.unput;
  put = then_put before now after so_far.hears.said breaks.said breaks.unput so_far.hears.put breaks.put;
  full = breaks.full;
  heard = λ read text h.
      let more = breaks.heard (read ++ so_far.front) (text ++ so_far.hears.said) (so_far.hears.heard read text h) in
      (more.0, same_dialogue budget _ _ _ _ _ _ (ap (λ z. (cut_of z).pieces) (append_assoc read so_far.front breaks.front)) refl (append_assoc text so_far.hears.said breaks.said) more.1);
}
