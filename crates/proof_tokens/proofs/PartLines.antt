-- Lines of parts, and of logs that use them: where they are refused.
use Rattle.std.proofs.Common.{ℕ, ◌≡◌, ◌<◌, List, [], ◌∷◌, ◌++◌, length, refl, sym, ap, subst, ◌∙◌, ◌⊎◌, inl, inr}
use Rattle.base_budget.specs.declared.log.Entry.{Entry}
use Rattle.base_budget.specs.declared.log.Entry.TheVariants as step
use Rattle.proof_tokens.specs.declared.tokens.Token.{Token}
use Rattle.proof_tokens.specs.declared.tokens.Token.TheVariants as t
use Rattle.proof_tokens.specs.declared.part_lines.SaidLog.{SaidLog}
use Rattle.proof_tokens.specs.declared.part_lines.SaidLog.TheVariants as said
use Rattle.proof_tokens.specs.declared.reading.Refusal.{Refusal}
use Rattle.proof_tokens.specs.declared.reading.Refusal.TheVariants as e
use Rattle.proof_tokens.specs.Lines.{AnyEntries, entries_text, HasNoUse, IsPart, IsSaidLog, part_text, said_text, use_text}
use Rattle.proof_tokens.specs.Reading.{Cuts, Begins, IsRefusedAt, IsApart, RefusesProof, RefusesNext}
use Rattle.proof_tokens.proofs.Apart.{entries_apart, token_of}
use Rattle.proof_tokens.proofs.Cutting.{cut_append, some_same}
use Rattle.proof_tokens.proofs.Refusals.{lacked}

-- Parts.

begins_part : (bytes : List ℕ) (left : ℕ) (r : IsRefusedAt AnyEntries entries_text bytes left) (front : List Token) → front ≡ r.first.front → Begins AnyEntries entries_text front → Begins IsPart entries_text front
begins_part bytes left r [] same b = record { value = step.Exact ∷ []; is_value = tt; more = entries_text (step.Exact ∷ []); parts = refl }
begins_part bytes left r (x ∷ front) same b = by b.value b.more b.parts
  where
    by : (es : List Entry) (more : List Token) → entries_text es ≡ (x ∷ front) ++ more → Begins IsPart entries_text (x ∷ front)
    by (s ∷ es) more e = record { value = s ∷ es; is_value = tt; more = more; parts = e }
    by [] more e = absurd (whole front more e same)
      where
        whole : (front more : List Token) → t.LineFeed ∷ [] ≡ x ∷ (front ++ more) → x ∷ front ≡ r.first.front → ⊥
        whole [] more e same = r.inside [] tt (let h : t.LineFeed ≡ x = cc in ap (λ z. z ∷ []) h ∙ same)
        whole (y ∷ front) more e same = cc

-- what is refused as entries is refused as those of a part
pub entries_part : (bytes : List ℕ) (fault : Refusal) → RefusesProof AnyEntries entries_text bytes fault → RefusesProof IsPart entries_text bytes fault
entries_part bytes e.Memory r = tt
entries_part bytes (e.Syntax left) r = record {
  back = r.back;
  first = record {
    front = r.first.front;
    cut = r.first.cut;
    begins = begins_part bytes left r r.first.front refl r.first.begins;
    none = λ x rest c b. r.first.none x rest c (record { value = b.value; is_value = tt; more = b.more; parts = b.parts });
  };
  inside = λ es i h. r.inside es tt h;
  place = r.place;
}

-- a line with no entry is refused at its end
pub no_entry : (es : List Entry) (bytes rest : List ℕ) → es ≡ [] → Cuts (entries_text es) bytes rest → RefusesProof IsPart entries_text bytes (e.Syntax (length bytes))
no_entry es bytes rest none cut = lacked IsPart entries_text [] bytes bytes (λ y. y ≡ t.Blank) (e.Syntax (length bytes)) refl (refl, not_blank (subst (λ z. Cuts (entries_text z) bytes rest) none cut))
    (record { value = step.Exact ∷ []; is_value = tt; more = entries_text (step.Exact ∷ []); parts = refl })
    begins_blank
    some_text
  where
    not_blank : Cuts (t.LineFeed ∷ []) bytes rest → (x : Token) (behind : List ℕ) → Cuts (x ∷ []) bytes behind → x ≡ t.Blank → ⊥
    not_blank c x behind d is = let same = ap token_of (some_same _ _ (sym c.1 ∙ d.1)) in cc

    begins_blank : (es : List Entry) (x : Token) (more : List Token) → IsPart es → entries_text es ≡ x ∷ more → x ≡ t.Blank
    begins_blank [] x more i h = absurd i
    begins_blank (s ∷ es) x more i h = cc

    some_text : (es : List Entry) → IsPart es → entries_text es ≡ [] → ⊥
    some_text [] i h = i
    some_text (s ∷ es) i h = cc

-- Logs that may use a part.

abbrev of_entries : List Entry → SaidLog
of_entries es = said.Entries (record { entries = es })

-- after the use of a part the line does not end
pub no_end_of_use : (parts i : ℕ) (bytes rest : List ℕ) (fault : Refusal) → i < parts → Cuts (t.Blank ∷ t.Use i ∷ []) bytes rest → RefusesNext (λ y. y ≡ t.LineFeed) rest fault → RefusesProof (IsSaidLog parts) said_text bytes fault
no_end_of_use parts i bytes rest fault low cut lacks = lacked (IsSaidLog parts) said_text (t.Blank ∷ t.Use i ∷ []) bytes rest (λ y. y ≡ t.LineFeed) fault cut lacks
    (record { value = said.Part i; is_value = low; more = t.LineFeed ∷ []; parts = refl })
    (λ l x more j h. ends l x more h)
    (λ l j h. goes_on l h)
  where
    no_step : (es : List Entry) (more : List Token) → entries_text es ≡ t.Blank ∷ t.Use i ∷ more → ⊥
    no_step [] more h = cc
    no_step (s ∷ es) more h = cc

    ends : (l : SaidLog) (x : Token) (more : List Token) → said_text l ≡ t.Blank ∷ t.Use i ∷ x ∷ more → x ≡ t.LineFeed
    ends (said.Entries log) x more h = absurd (no_step log.entries (x ∷ more) h)
    ends (said.Part k) x more h = cc

    goes_on : (l : SaidLog) → said_text l ≡ t.Blank ∷ t.Use i ∷ [] → ⊥
    goes_on (said.Entries log) h = no_step log.entries [] h
    goes_on (said.Part k) h = cc

-- where no part is used, what is refused as entries is refused
pub entries_said : (parts : ℕ) (bytes : List ℕ) (fault : Refusal) → HasNoUse parts bytes → RefusesProof AnyEntries entries_text bytes fault → RefusesProof (IsSaidLog parts) said_text bytes fault
entries_said parts bytes e.Memory unused r = tt
entries_said parts bytes (e.Syntax left) unused r = record {
  back = r.back;
  first = record {
    front = r.first.front;
    cut = r.first.cut;
    begins = let b = r.first.begins in record { value = of_entries b.value; is_value = tt; more = b.more; parts = b.parts };
    none = λ x rest c b. not_begun x rest c b.value b.more b.is_value b.parts;
  };
  inside = λ l i h. not_whole l i h;
  place = r.place;
}
  where
    -- the tokens of a use before the next one, where they are those of a line of entries
    used_front : (front : List Token) (x : Token) (more : List Token) (i : ℕ) → t.Blank ∷ t.Use i ∷ t.LineFeed ∷ [] ≡ (front ++ x ∷ []) ++ more → (front ≡ []) ⊎ ((front ≡ t.Blank ∷ []) × (x ≡ t.Use i)) ⊎ ((y : List Token) × (front ≡ t.Blank ∷ t.Use i ∷ y))
    used_front [] x more i h = inl refl
    used_front (a ∷ []) x more i h = inr (inl (cc, cc))
    used_front (a ∷ b ∷ y) x more i h = inr (inr (y, cc))

    no_step : (es : List Entry) (i : ℕ) (more : List Token) → entries_text es ≡ t.Blank ∷ t.Use i ∷ more → ⊥
    no_step [] i more h = cc
    no_step (s ∷ es) i more h = cc

    begun_by : (x : Token) (rest : List ℕ) → Cuts (x ∷ []) r.back rest → (i : ℕ) (more : List Token) → i < parts → t.Blank ∷ t.Use i ∷ t.LineFeed ∷ [] ≡ (r.first.front ++ x ∷ []) ++ more
        → (r.first.front ≡ []) ⊎ ((r.first.front ≡ t.Blank ∷ []) × (x ≡ t.Use i)) ⊎ ((y : List Token) × (r.first.front ≡ t.Blank ∷ t.Use i ∷ y)) → ⊥
    begun_by x rest c i more low h (inl q) =
        let first : x ≡ t.Blank = (let k = h ∙ ap (λ z. (z ++ x ∷ []) ++ more) q in cc) in
        r.first.none x rest c (record { value = step.Exact ∷ []; is_value = tt; more = t.Step step.Exact ∷ t.LineFeed ∷ []; parts = ap (λ z. z ∷ t.Step step.Exact ∷ t.LineFeed ∷ []) (sym first) ∙ ap (λ z. (z ++ x ∷ []) ++ t.Step step.Exact ∷ t.LineFeed ∷ []) (sym q) })
    begun_by x rest c i more low h (inr (inl q)) =
        unused i rest low (cut_append (t.Blank ∷ []) (t.Use i ∷ []) bytes r.back rest (subst (λ z. Cuts z bytes r.back) q.0 r.first.cut) (subst (λ z. Cuts (z ∷ []) r.back rest) q.1 c))
    begun_by x rest c i more low h (inr (inr q)) = let b = r.first.begins in no_step b.value i (q.0 ++ b.more) (b.parts ∙ ap (λ z. z ++ b.more) q.1)

    not_begun : (x : Token) (rest : List ℕ) → Cuts (x ∷ []) r.back rest → (l : SaidLog) (more : List Token) → IsSaidLog parts l → said_text l ≡ (r.first.front ++ x ∷ []) ++ more → ⊥
    not_begun x rest c (said.Entries log) more i h = r.first.none x rest c (record { value = log.entries; is_value = tt; more = more; parts = h })
    not_begun x rest c (said.Part k) more i h = begun_by x rest c k more i h (used_front r.first.front x more k h)

    front_used : (i : ℕ) → use_text i ≡ r.first.front → ⊥
    front_used i h = let b = r.first.begins in no_step b.value i (t.LineFeed ∷ b.more) (b.parts ∙ ap (λ z. z ++ b.more) (sym h))

    not_whole : (l : SaidLog) → IsSaidLog parts l → said_text l ≡ r.first.front → ⊥
    not_whole (said.Entries log) i h = r.inside log.entries tt h
    not_whole (said.Part k) i h = front_used k h

-- no log that is said begins another one
pub said_apart : (parts : ℕ) → IsApart (IsSaidLog parts) said_text
said_apart parts (said.Entries k) (said.Entries l) more i j h = let q = entries_apart k.entries l.entries more tt tt h in (ap of_entries q.0, q.1)
said_apart parts (said.Entries k) (said.Part n) more i j h = absurd (unlike k.entries h)
  where
    unlike : (es : List Entry) → entries_text es ≡ use_text n ++ more → ⊥
    unlike [] h = cc
    unlike (s ∷ es) h = cc
said_apart parts (said.Part m) (said.Entries l) more i j h = absurd (unlike l.entries h)
  where
    unlike : (es : List Entry) → use_text m ≡ entries_text es ++ more → ⊥
    unlike [] h = cc
    unlike (s ∷ es) h = cc
said_apart parts (said.Part m) (said.Part n) more i j h = let nothing : [] ≡ more = cc in (cc, sym nothing)

-- no part begins another one
pub part_apart : IsApart IsPart part_text
part_apart us vs more i j h = entries_apart us vs more tt tt (cc)
