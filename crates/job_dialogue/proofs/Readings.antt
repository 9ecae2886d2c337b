-- What is read of an input is heard read after read, up to its end or an `exit`.
use Rattle.std.proofs.Common.{◌≡◌, ℕ, ◌∷◌, [], ◌++◌, List, take, drop, Bool, true, false, Option, Some, None, Result, Ok, Err, OnOk, IfErr, if◌then◌else◌, inl, inr, sym, ap, subst, ◌∙◌, refl, append_assoc}
use Rattle.std.proofs.lemmas.List.{append-nil, take-append-drop}
use Rattle.base_answers.specs.Outside.{PutsAll}
use Rattle.prover_io.specs.Outside.{IsWhole, ReadGives}
use Rattle.job_dialogue.specs.declared.stops.Stop.{Stop}
use Rattle.job_dialogue.specs.declared.stops.Stop.TheVariants as stop
use Rattle.job_dialogue.specs.declared.talks.Talk.{Talk}
use Rattle.job_dialogue.specs.Held.{Held, first_held}
use Rattle.job_dialogue.specs.Pieces.{cut_of, last_piece}
use Rattle.job_dialogue.specs.Dialogue.{IsDialogue, begins, goes_on}
use Rattle.job_dialogue.specs.Views.{held_of}
use Rattle.job_dialogue.specs.Talks.{StartsWith, BreaksIn, BreaksLast, BreaksOff, Finishes, Hears, HearsFront, IsAnswered, IsAnsweredUpTo, IsAtEnd, IsHeard, IsTalked, Listens, ReadsOff, TellsPart, TellsPiece, ends, exits, pieces_of}
use Rattle.job_dialogue.proofs.Hearing.{empty_put, hears_nothing, nothing_put, puts_both, same_dialogue, then_put}

-- ---- a read

pub takes_read : (before after : Option (List ℕ)) (n : ℕ) (buffer : List ℕ) → ReadGives before after n buffer → ReadsOff before after (take n buffer)
takes_read (Some b) after n buffer moves = (drop n b, moves.rest, sym (take-append-drop n b) ∙ ap (λ z. z ++ drop n b) (sym moves.moved))
takes_read None after n buffer none = none

end_read : (before after : Option (List ℕ)) (n : ℕ) (buffer : List ℕ) → ReadGives before after n buffer → n ≡ 0 → IsAtEnd after
end_read (Some b) (Some a) n buffer moves none = let e : a ≡ drop n b = cc in e ∙ (ap (λ z. drop z b) none ∙ moves.ends.0 none)
end_read (Some b) None n buffer moves none = tt
end_read None (Some a) n buffer same none = absurd cc
end_read None None n buffer same none = tt

pub listens_last : (budget : ℕ) (talk : Talk) (left_before left_after before after : Option (List ℕ)) (n : ℕ) (buffer : List ℕ) → ReadGives left_before left_after n buffer → n ≡ 0 → after ≡ before
    → Listens budget talk talk true left_before left_after before after
listens_last budget talk left_before left_after before after n buffer read none same = record {
  bytes = take n buffer;
  read = takes_read left_before left_after n buffer read;
  end = λ _. end_read left_before left_after n buffer read none;
  heard = record { front = []; rest = take n buffer; parts = refl; whole = λ _. ap (λ z. take z buffer) none; hears = subst (λ z. Hears budget talk talk [] before z) (sym same) (hears_nothing budget talk before) };
}

pub listens_more : (budget : ℕ) (old new : Talk) (bytes : List ℕ) (left_before left_after before after : Option (List ℕ)) (n : ℕ) (buffer : List ℕ) → HearsFront budget old new bytes before after → bytes ≡ take n buffer → ReadGives left_before left_after n buffer
    → Listens budget old new false left_before left_after before after
listens_more budget old new bytes left_before left_after before after n buffer heard same read = record {
  bytes = bytes;
  read = subst (λ z. ReadsOff left_before left_after z) (sym same) (takes_read left_before left_after n buffer read);
  end = λ e. absurd cc;
  heard = heard;
}

-- an input begins with a front of what is read of it
begins_front : (before after : Option (List ℕ)) (bytes front rest : List ℕ) → front ++ rest ≡ bytes → ReadsOff before after bytes → StartsWith before front
begins_front (Some b) after bytes front rest parts takes = (rest ++ takes.0, takes.2 ∙ (ap (λ z. z ++ takes.0) (sym parts) ∙ append_assoc front rest takes.0))
begins_front None after bytes front rest parts takes = tt

pub breaks_reading : (budget : ℕ) (old : Talk) (e : Stop) (bytes : List ℕ) (left_before left_after before after : Option (List ℕ)) (n : ℕ) (buffer : List ℕ) → BreaksOff budget old bytes e before after → bytes ≡ take n buffer → ReadGives left_before left_after n buffer
    → BreaksIn budget old e left_before before after
breaks_reading budget old e bytes left_before left_after before after n buffer breaks same read = record {
  front = breaks.front;
  begins = begins_front left_before left_after bytes breaks.front breaks.rest breaks.parts (subst (λ z. ReadsOff left_before left_after z) (sym same) (takes_read left_before left_after n buffer read));
  said = breaks.said;
  unput = breaks.unput;
  put = breaks.put;
  full = breaks.full;
  heard = breaks.heard;
}

-- nothing is read, since the source failed
begins_nothing : (input : Option (List ℕ)) → StartsWith input []
begins_nothing (Some all) = (all, refl)
begins_nothing None = tt

pub breaks_unread : (budget : ℕ) (old : Talk) (e : Stop) (left before after : Option (List ℕ)) → after ≡ before → BreaksIn budget old e left before after
breaks_unread budget old e left before after same = record {
  front = [];
  begins = begins_nothing left;
  said = [];
  unput = [];
  put = nothing_put before after same;
  full = λ _. refl;
  heard = λ read text h. (held_of old.dialogue, same_dialogue budget _ _ _ _ _ _ (ap (λ z. (cut_of z).pieces) (sym (append-nil read))) refl (sym (append-nil text)) h.answered);
}

-- ---- the reads

takes_nothing : (input : Option (List ℕ)) → ReadsOff input input []
takes_nothing (Some all) = (all, refl, refl)
takes_nothing None = refl

takes_both : (input mid left : Option (List ℕ)) (xs ys : List ℕ) → ReadsOff input mid xs → ReadsOff mid left ys → ReadsOff input left (xs ++ ys)
takes_both (Some all) (Some m) left xs ys one two = let same : m ≡ one.0 = cc in (two.0, two.1, one.2 ∙ (ap (λ z. xs ++ z) (sym same ∙ two.2) ∙ sym (append_assoc xs ys two.0)))
takes_both (Some all) None left xs ys one two = absurd cc
takes_both None (Some m) left xs ys one two = absurd cc
takes_both None None left xs ys one two = two

begins_both : (input left : Option (List ℕ)) (xs ys : List ℕ) → ReadsOff input left xs → StartsWith left ys → StartsWith input (xs ++ ys)
begins_both (Some all) (Some l) xs ys takes starts = let same : l ≡ takes.0 = cc in (starts.0, takes.2 ∙ (ap (λ z. xs ++ z) (sym same ∙ starts.1) ∙ sym (append_assoc xs ys starts.0)))
begins_both (Some all) None xs ys takes starts = absurd cc
begins_both None (Some l) xs ys takes starts = tt
begins_both None None xs ys takes starts = tt

whole_read : (input left : Option (List ℕ)) (xs : List ℕ) → ReadsOff input left xs → IsAtEnd left → IsWhole input xs
whole_read (Some all) (Some l) xs takes end = let same : l ≡ takes.0 = cc in sym (takes.2 ∙ (ap (λ z. xs ++ z) (sym same ∙ end) ∙ append-nil xs))
whole_read (Some all) None xs takes end = absurd cc
whole_read None (Some l) xs takes end = tt
whole_read None None xs takes end = tt

pub talked_nothing : (budget : ℕ) (talk : Talk) (input before : Option (List ℕ)) → IsHeard budget [] talk [] → PutsAll before before [] → IsTalked budget talk input input before before
talked_nothing budget talk input before heard put = record { read = []; text = []; taken = takes_nothing input; heard = heard; put = put }

-- a read more
pub talked_more : (budget : ℕ) (old new : Talk) (at_end : Bool) (input mid left before now after : Option (List ℕ)) → IsTalked budget old input mid before now → Listens budget old new at_end mid left now after → new.dialogue.ended ≡ false
    → IsTalked budget new input left before after
talked_more budget old new at_end input mid left before now after so_far listens going =
    let all : listens.heard.front ≡ listens.bytes = sym (append-nil listens.heard.front) ∙ (ap (λ z. listens.heard.front ++ z) (sym (listens.heard.whole going)) ∙ listens.heard.parts) in
    record {
      read = so_far.read ++ listens.bytes;
      text = so_far.text ++ listens.heard.hears.said;
      taken = takes_both input mid left so_far.read listens.bytes so_far.taken listens.read;
      heard = subst (λ z. IsHeard budget (so_far.read ++ z) new (so_far.text ++ listens.heard.hears.said)) all (listens.heard.hears.heard so_far.read so_far.text so_far.heard);
      put = puts_both before now after so_far.text listens.heard.hears.said so_far.put listens.heard.hears.put;
    }

-- a read with an `exit`
pub talked_out : (budget : ℕ) (old new : Talk) (at_end : Bool) (input mid left before now after : Option (List ℕ)) → IsTalked budget old input mid before now → Listens budget old new at_end mid left now after → new.dialogue.ended ≡ true
    → IsAnswered budget input before after
talked_out budget old new at_end input mid left before now after so_far listens ended =
    let heard : IsHeard budget (so_far.read ++ listens.heard.front) new (so_far.text ++ listens.heard.hears.said) = listens.heard.hears.heard so_far.read so_far.text so_far.heard in
    record {
      text = so_far.text ++ listens.heard.hears.said;
      answers = exits (so_far.read ++ listens.heard.front) (held_of new.dialogue) (begins_both input mid so_far.read listens.heard.front so_far.taken (begins_front mid left listens.bytes listens.heard.front listens.heard.rest listens.heard.parts listens.read)) heard.answered ended;
      put = puts_both before now after so_far.text listens.heard.hears.said so_far.put listens.heard.hears.put;
    }

-- the end of an input
pub talked_whole : (budget : ℕ) (talk : Talk) (input left before now after : Option (List ℕ)) → IsTalked budget talk input left before now → IsAtEnd left → Finishes budget talk now after → IsAnswered budget input before after
talked_whole budget talk input left before now after so_far end finishes =
    let more : (h : Held) × IsDialogue budget (pieces_of so_far.read) h (so_far.text ++ finishes.said) = finishes.heard so_far.read so_far.text so_far.heard in
    record {
      text = so_far.text ++ finishes.said;
      answers = ends so_far.read more.0 (whole_read input left so_far.read so_far.taken end) more.1;
      put = puts_both before now after so_far.text finishes.said so_far.put finishes.put;
    }

begins_read : (input left : Option (List ℕ)) (xs : List ℕ) → ReadsOff input left xs → StartsWith input xs
begins_read (Some all) left xs takes = (takes.0, takes.2)
begins_read None left xs takes = tt

-- a read breaks off
pub talked_off : (budget : ℕ) (old : Talk) (e : Stop) (input mid before now after : Option (List ℕ)) → IsTalked budget old input mid before now → BreaksIn budget old e mid now after → IsAnsweredUpTo budget e input before after
talked_off budget old e input mid before now after so_far breaks =
    let more : (h : Held) × IsDialogue budget (cut_of (so_far.read ++ breaks.front)).pieces h (so_far.text ++ breaks.said) = breaks.heard so_far.read so_far.text so_far.heard in
    record {
      read = so_far.read ++ breaks.front;
      begins = begins_both input mid so_far.read breaks.front so_far.taken breaks.begins;
      pieces = (cut_of (so_far.read ++ breaks.front)).pieces;
      cut = inl refl;
      held = more.0;
      text = so_far.text ++ breaks.said;
      answers = more.1;
      unput = breaks.unput;
      put = then_put before now after so_far.text breaks.said breaks.unput so_far.put breaks.put;
      full = breaks.full;
    }

-- the end breaks off
pub talked_off_last : (budget : ℕ) (talk : Talk) (e : Stop) (input left before now after : Option (List ℕ)) → IsTalked budget talk input left before now → BreaksLast budget talk e now after → IsAnsweredUpTo budget e input before after
talked_off_last budget talk e input left before now after so_far breaks =
    let more = breaks.heard so_far.read so_far.text so_far.heard in
    record {
      read = so_far.read;
      begins = begins_read input left so_far.read so_far.taken;
      pieces = more.0;
      cut = more.2;
      held = more.1;
      text = so_far.text ++ breaks.said;
      answers = more.3;
      unput = breaks.unput;
      put = then_put before now after so_far.text breaks.said breaks.unput so_far.put breaks.put;
      full = breaks.full;
    }

-- ---- the last piece

pub finishes_none : (budget : ℕ) (talk : Talk) (before after : Option (List ℕ)) → PutsAll before after [] → [] ≡ last_piece talk.rest.items → Finishes budget talk before after
finishes_none budget talk before after put none = record {
  said = [];
  put = put;
  heard = λ read text h. (held_of talk.dialogue, same_dialogue budget _ _ _ _ _ _ (sym (append-nil (cut_of read).pieces) ∙ ap (λ z. (cut_of read).pieces ++ z) (none ∙ ap last_piece h.rest)) refl (sym (append-nil text)) h.answered);
}

pub finishes_one : (budget : ℕ) (talk : Talk) (next : Held) (piece : List ℕ) (before after : Option (List ℕ)) → talk.dialogue.ended ≡ false → piece ≡ talk.rest.items → talk.rest.items ∷ [] ≡ last_piece talk.rest.items
    → TellsPiece budget (held_of talk.dialogue) piece next before after → Finishes budget talk before after
finishes_one budget talk next piece before after going same one told = record {
  said = told.said;
  put = told.put;
  heard = λ read text h. (
    next,
    goes_on (cut_of read).pieces (held_of talk.dialogue) text piece told.said h.answered going told.replies
        (ap (λ z. (cut_of read).pieces ++ z) (sym (ap last_piece h.rest) ∙ (sym one ∙ ap (λ z. z ∷ []) (sym same)))) refl,
  );
}

pub last_breaks_before : (budget : ℕ) (talk : Talk) (e : Stop) (before after : Option (List ℕ)) → after ≡ before → BreaksLast budget talk e before after
last_breaks_before budget talk e before after same = record {
  said = [];
  unput = [];
  put = nothing_put before after same;
  full = λ _. refl;
  heard = λ read text h. ((cut_of read).pieces, held_of talk.dialogue, inl refl, same_dialogue budget _ _ _ _ _ _ refl refl (sym (append-nil text)) h.answered);
}

pub last_breaks_in : (budget : ℕ) (talk : Talk) (piece : List ℕ) (before after : Option (List ℕ)) → talk.dialogue.ended ≡ false → piece ≡ talk.rest.items → talk.rest.items ∷ [] ≡ last_piece talk.rest.items
    → TellsPart budget (held_of talk.dialogue) piece before after → BreaksLast budget talk stop.Sink before after
last_breaks_in budget talk piece before after going same one told = record {
  said = told.said;
  unput = told.unput;
  put = told.put;
  full = λ other. absurd (other refl);
  heard = λ read text h. (
    pieces_of read,
    told.next,
    inr refl,
    goes_on (cut_of read).pieces (held_of talk.dialogue) text piece told.said h.answered going told.replies
        (ap (λ z. (cut_of read).pieces ++ z) (sym (ap last_piece h.rest) ∙ (sym one ∙ ap (λ z. z ∷ []) (sym same)))) refl,
  );
}

pub last_breaks_with : (budget : ℕ) (talk : Talk) (piece : List ℕ) (e : Stop) (before after : Option (List ℕ)) → talk.dialogue.ended ≡ false → piece ≡ talk.rest.items → talk.rest.items ∷ [] ≡ last_piece talk.rest.items
    → (e ≡ stop.Sink → TellsPart budget (held_of talk.dialogue) piece before after) → (e ≡ stop.Memory → after ≡ before) → (e ≡ stop.Source → ⊥) → BreaksLast budget talk e before after
last_breaks_with budget talk piece stop.Source before after going same one part silent source = absurd (source refl)
last_breaks_with budget talk piece stop.Sink before after going same one part silent source = last_breaks_in budget talk piece before after going same one (part refl)
last_breaks_with budget talk piece stop.Memory before after going same one part silent source = last_breaks_before budget talk stop.Memory before after (silent refl)

-- what is left has no token, or is the last piece
pub piece_none : (is : Bool) (bytes rest : List ℕ) → bytes ≡ rest → is ≡ false → (if is then bytes ∷ [] else []) ≡ last_piece bytes → [] ≡ last_piece rest
piece_none true bytes rest same e h = absurd cc
piece_none false bytes rest same e h = h ∙ ap last_piece same

pub piece_one : (is : Bool) (bytes rest : List ℕ) → bytes ≡ rest → is ≡ true → (if is then bytes ∷ [] else []) ≡ last_piece bytes → rest ∷ [] ≡ last_piece rest
piece_one false bytes rest same e h = absurd cc
piece_one true bytes rest same e h = ap (λ z. z ∷ []) (sym same) ∙ (h ∙ ap last_piece same)

-- ---- before the first read, and where no read is left

pub up_to_nothing : (budget : ℕ) (e : Stop) (input before after : Option (List ℕ)) → after ≡ before → IsAnsweredUpTo budget e input before after
up_to_nothing budget e input before after same = record {
  read = [];
  begins = begins_nothing input;
  pieces = [];
  cut = inl refl;
  held = first_held;
  text = [];
  answers = begins refl refl refl;
  unput = [];
  put = nothing_put before after same;
  full = λ _. refl;
}

pub talked_stops : (budget : ℕ) (old : Talk) (e : Stop) (input mid before now : Option (List ℕ)) → IsTalked budget old input mid before now → IsAnsweredUpTo budget e input before now
talked_stops budget old e input mid before now so_far = talked_off budget old e input mid before now now so_far (breaks_unread budget old e mid now now refl)

pub talked_first : (budget : ℕ) (talk : Talk) (input before : Option (List ℕ)) → IsHeard budget [] talk [] → IsTalked budget talk input input before before
talked_first budget talk input before heard = talked_nothing budget talk input before heard (empty_put before)

-- ---- outcomes

pub ok_then : {T E : Type 0} (r : Result T E) (P Q : Type 0) → (P → Q) → OnOk r P → OnOk r Q
ok_then (Ok x) P Q f h = f h
ok_then (Err e) P Q f h = tt

pub err_then : {T E : Type 0} (r : Result T E) (P Q : E → Type 0) → ((e : E) → P e → Q e) → IfErr r P → IfErr r Q
err_then (Ok x) P Q f h = tt
err_then (Err e) P Q f h = f e h
