-- The line that begins a node: where it is refused.
use Rattle.std.proofs.Common.{ℕ, ◌≡◌, List, [], ◌∷◌, ◌++◌, refl, sym, subst}
use Rattle.sequent.specs.declared.member.Pick.{Pick}
use Rattle.sequent.specs.declared.member.Pick.TheVariants as pick
use Rattle.proof_tokens.specs.declared.tokens.Token.{Token}
use Rattle.proof_tokens.specs.declared.tokens.Token.TheVariants as t
use Rattle.proof_tokens.specs.declared.reading.Refusal.{Refusal}
use Rattle.proof_tokens.specs.Lines.{numbered_text, counted_text, IsPosition, IsCounted}
use Rattle.proof_tokens.specs.Reading.{Cuts, RefusesProof, RefusesNext}
use Rattle.proof_tokens.proofs.Cutting.{cut_append}
use Rattle.proof_tokens.proofs.Refusals.{lacked}
use Rattle.proof_tokens.proofs.Behind.{refused_case}
use Rattle.proof_grammar.specs.declared.rows.RowWord.{RowWord}
use Rattle.proof_grammar.specs.declared.rows.RowWord.TheVariants as u
use Rattle.proof_grammar.specs.declared.rows.OneWord.{OneWord}
use Rattle.proof_grammar.specs.declared.rows.OneWord.TheVariants as r
use Rattle.proof_grammar.specs.Lines.{row_text}
use Rattle.proof_grammar.specs.Owed.{HasWidth}
use Rattle.proof_grammar.specs.Rows.{IsRowWord, IsRow, row_line, one_token, word_token, placed}
use Rattle.proof_grammar.specs.Faults.{BeginsNode}

placed_row : (k : OneWord) (i : ℕ) → IsPosition i → IsRow (placed k i)
placed_row r.Trivial i h = (h, refl)
placed_row r.Alpha i h = (h, refl)
placed_row r.Delta i h = (h, refl)
placed_row r.Gamma i h = (h, refl)

placed_text : (k : OneWord) (i : ℕ) → row_line (placed k i) ≡ one_token k ∷ numbered_text i
placed_text r.Trivial i = refl
placed_text r.Alpha i = refl
placed_text r.Delta i = refl
placed_text r.Gamma i = refl

record Back (tail : List Token) : Type 0 where
  place : ℕ
  fits : IsPosition place
  is : numbered_text place ≡ tail

trivial_back : (p : Pick) (n : ℕ) (tail : List Token) → HasWidth p n → row_text p n ≡ t.Trivial ∷ tail → Back tail
trivial_back (pick.Trivial i) n tail h q = record { place = i; fits = h.0; is = cc }
trivial_back (pick.Alpha i) n tail h q = absurd (cc)
trivial_back (pick.Delta i) n tail h q = absurd (cc)
trivial_back (pick.Beta i) n tail h q = absurd (cc)
trivial_back (pick.Gamma i) n tail h q = absurd (cc)
trivial_back pick.Close n tail h q = absurd (cc)

alpha_back : (p : Pick) (n : ℕ) (tail : List Token) → HasWidth p n → row_text p n ≡ t.Alpha ∷ tail → Back tail
alpha_back (pick.Trivial i) n tail h q = absurd (cc)
alpha_back (pick.Alpha i) n tail h q = record { place = i; fits = h.0; is = cc }
alpha_back (pick.Delta i) n tail h q = absurd (cc)
alpha_back (pick.Beta i) n tail h q = absurd (cc)
alpha_back (pick.Gamma i) n tail h q = absurd (cc)
alpha_back pick.Close n tail h q = absurd (cc)

delta_back : (p : Pick) (n : ℕ) (tail : List Token) → HasWidth p n → row_text p n ≡ t.Delta ∷ tail → Back tail
delta_back (pick.Trivial i) n tail h q = absurd (cc)
delta_back (pick.Alpha i) n tail h q = absurd (cc)
delta_back (pick.Delta i) n tail h q = record { place = i; fits = h.0; is = cc }
delta_back (pick.Beta i) n tail h q = absurd (cc)
delta_back (pick.Gamma i) n tail h q = absurd (cc)
delta_back pick.Close n tail h q = absurd (cc)

gamma_back : (p : Pick) (n : ℕ) (tail : List Token) → HasWidth p n → row_text p n ≡ t.Gamma ∷ tail → Back tail
gamma_back (pick.Trivial i) n tail h q = absurd (cc)
gamma_back (pick.Alpha i) n tail h q = absurd (cc)
gamma_back (pick.Delta i) n tail h q = absurd (cc)
gamma_back (pick.Beta i) n tail h q = absurd (cc)
gamma_back (pick.Gamma i) n tail h q = record { place = i; fits = h.0; is = cc }
gamma_back pick.Close n tail h q = absurd (cc)

one_back : (k : OneWord) (p : Pick) (n : ℕ) (tail : List Token) → HasWidth p n → row_text p n ≡ one_token k ∷ tail → Back tail
one_back r.Trivial p n tail h q = trivial_back p n tail h q
one_back r.Alpha p n tail h q = alpha_back p n tail h q
one_back r.Delta p n tail h q = delta_back p n tail h q
one_back r.Gamma p n tail h q = gamma_back p n tail h q

-- no position stands after the word
pub one_refused : (k : OneWord) (bytes inner : List ℕ) (fault : Refusal) → Cuts (one_token k ∷ []) bytes inner → RefusesProof IsPosition numbered_text inner fault → RefusesProof IsRow row_line bytes fault
one_refused k bytes inner fault cut q = refused_case IsPosition numbered_text IsRow row_line (one_token k) bytes inner fault cut
    (λ i j. (placed k i, placed_row k i j, placed_text k i))
    (λ w tail h e. let b = one_back k w.0 w.1 tail h e in (b.place, b.fits, b.is))
    q

pub one_found : (k : OneWord) (i : ℕ) (bytes inner rest : List ℕ) → IsPosition i → Cuts (one_token k ∷ []) bytes inner → Cuts (numbered_text i) inner rest → IsRow (placed k i) × Cuts (row_line (placed k i)) bytes rest
one_found k i bytes inner rest h c d = (placed_row k i h, subst (λ z. Cuts z bytes rest) (sym (placed_text k i)) (cut_append (one_token k ∷ []) (numbered_text i) bytes inner rest c d))

record BackCounted (tail : List Token) : Type 0 where
  pair : ℕ × ℕ
  fits : IsCounted pair
  is : counted_text pair ≡ tail

beta_back : (p : Pick) (n : ℕ) (tail : List Token) → HasWidth p n → row_text p n ≡ t.Beta ∷ tail → BackCounted tail
beta_back (pick.Trivial i) n tail h q = absurd (cc)
beta_back (pick.Alpha i) n tail h q = absurd (cc)
beta_back (pick.Delta i) n tail h q = absurd (cc)
beta_back (pick.Beta i) n tail h q = record { pair = (i, n); fits = h; is = cc }
beta_back (pick.Gamma i) n tail h q = absurd (cc)
beta_back pick.Close n tail h q = absurd (cc)

-- no position or no number of premises stands after `beta`
pub beta_refused : (bytes inner : List ℕ) (fault : Refusal) → Cuts (t.Beta ∷ []) bytes inner → RefusesProof IsCounted counted_text inner fault → RefusesProof IsRow row_line bytes fault
beta_refused bytes inner fault cut q = refused_case IsCounted counted_text IsRow row_line t.Beta bytes inner fault cut
    (λ p j. ((pick.Beta p.0, p.1), j, refl))
    (λ w tail h e. let b = beta_back w.0 w.1 tail h e in (b.pair, b.fits, b.is))
    q

close_next : (p : Pick) (n : ℕ) (x : Token) (more : List Token) → row_text p n ≡ (t.Close ∷ []) ++ x ∷ more → x ≡ t.LineFeed
close_next (pick.Trivial i) n x more q = absurd (cc)
close_next (pick.Alpha i) n x more q = absurd (cc)
close_next (pick.Delta i) n x more q = absurd (cc)
close_next (pick.Beta i) n x more q = absurd (cc)
close_next (pick.Gamma i) n x more q = absurd (cc)
close_next pick.Close n x more q = cc

close_more : (p : Pick) (n : ℕ) → row_text p n ≡ t.Close ∷ [] → ⊥
close_more (pick.Trivial i) n q = cc
close_more (pick.Alpha i) n q = cc
close_more (pick.Delta i) n q = cc
close_more (pick.Beta i) n q = cc
close_more (pick.Gamma i) n q = cc
close_more pick.Close n q = cc

-- the line does not end after `close`
pub close_refused : (bytes inner : List ℕ) (fault : Refusal) → Cuts (t.Close ∷ []) bytes inner → RefusesNext (λ y. y ≡ t.LineFeed) inner fault → RefusesProof IsRow row_line bytes fault
close_refused bytes inner fault cut lacks = lacked IsRow row_line (t.Close ∷ []) bytes inner (λ y. y ≡ t.LineFeed) fault cut lacks
    (record { value = (pick.Close, 0); is_value = refl; more = t.LineFeed ∷ []; parts = refl })
    (λ w x more i q. close_next w.0 w.1 x more q)
    (λ w i q. close_more w.0 w.1 q)

begins_row : (p : Pick) (n : ℕ) (x : Token) (more : List Token) → row_text p n ≡ x ∷ more → IsRowWord x
begins_row (pick.Trivial i) n x more q = let e : t.Trivial ≡ x = cc in subst IsRowWord e tt
begins_row (pick.Alpha i) n x more q = let e : t.Alpha ≡ x = cc in subst IsRowWord e tt
begins_row (pick.Delta i) n x more q = let e : t.Delta ≡ x = cc in subst IsRowWord e tt
begins_row (pick.Beta i) n x more q = let e : t.Beta ≡ x = cc in subst IsRowWord e tt
begins_row (pick.Gamma i) n x more q = let e : t.Gamma ≡ x = cc in subst IsRowWord e tt
begins_row pick.Close n x more q = let e : t.Close ≡ x = cc in subst IsRowWord e tt

some_row : (p : Pick) (n : ℕ) → row_text p n ≡ [] → ⊥
some_row (pick.Trivial i) n q = cc
some_row (pick.Alpha i) n q = cc
some_row (pick.Delta i) n q = cc
some_row (pick.Beta i) n q = cc
some_row (pick.Gamma i) n q = cc
some_row pick.Close n q = cc

-- no word of a rule comes
pub no_row : (bytes : List ℕ) (fault : Refusal) → RefusesNext IsRowWord bytes fault → RefusesProof IsRow row_line bytes fault
no_row bytes fault lacks = lacked IsRow row_line [] bytes bytes IsRowWord fault refl lacks
    (record { value = (pick.Close, 0); is_value = refl; more = t.Close ∷ t.LineFeed ∷ []; parts = refl })
    (λ w x more i q. begins_row w.0 w.1 x more q)
    (λ w i q. some_row w.0 w.1 q)

row_word_is : (q : RowWord) → IsRowWord (word_token q)
row_word_is (u.One r.Trivial) = tt
row_word_is (u.One r.Alpha) = tt
row_word_is (u.One r.Delta) = tt
row_word_is (u.One r.Gamma) = tt
row_word_is u.Beta = tt
row_word_is u.Close = tt

-- the word of a rule begins a node
pub begins_node : (q : RowWord) (bytes rest : List ℕ) → Cuts (word_token q ∷ []) bytes rest → BeginsNode bytes
begins_node q bytes rest c = record { word = word_token q; rest = rest; comes = c; is_row = row_word_is q }

pub word_cut : (q v : RowWord) (bytes rest : List ℕ) → q ≡ v → Cuts (word_token q ∷ []) bytes rest → Cuts (word_token v ∷ []) bytes rest
word_cut q v bytes rest e c = subst (λ z. Cuts (word_token z ∷ []) bytes rest) e c
