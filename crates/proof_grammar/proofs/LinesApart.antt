-- No line that pays for what is owed begins another one.
use Rattle.std.proofs.Common.{ℕ, ◌≡◌, List, [], ◌++◌, refl, sym, ap, ◌∙◌}
use Rattle.linear_term.specs.Range.{InRange}
use Rattle.sequent.specs.declared.member.Pick.{Pick}
use Rattle.sequent.specs.declared.member.Pick.TheVariants as pick
use Rattle.proof_tokens.specs.declared.tokens.Token.{Token}
use Rattle.proof_tokens.specs.declared.tokens.Token.TheVariants as t
use Rattle.proof_tokens.specs.Lines.{numbered_text, counted_text, head_text, parts_text, part_text, charges_text, said_text, value_text, IsFormat, IsPart, IsCharges, IsPosition, IsSaidLog}
use Rattle.proof_tokens.specs.Reading.{IsApart}
use Rattle.proof_tokens.proofs.Apart.{behind_apart, numbered_apart}
use Rattle.proof_tokens.proofs.PartLines.{part_apart, said_apart}
use Rattle.proof_tokens.proofs.ItemLines.{list_apart}
use Rattle.proof_tokens.proofs.Integers.{value_apart}
use Rattle.proof_constraint.specs.Text.{AreClauses, gives_text}
use Rattle.proof_constraint.proofs.Gives.{gives_apart}
use Rattle.proof_grammar.specs.declared.lines.TextLine.{TextLine}
use Rattle.proof_grammar.specs.declared.lines.Owed.{Owed}
use Rattle.proof_grammar.specs.declared.lines.Owed.TheVariants as o
use Rattle.proof_grammar.specs.Lines.{row_text, line_text}
use Rattle.proof_grammar.specs.Owed.{Any, HasWidth, Pays}
use Rattle.proof_grammar.specs.Rows.{IsRow, row_line}
use Rattle.proof_grammar.proofs.LineKinds.{Kind, head_made, parts_made, part_made, charges_made, row_made, log_made, log_is, log_said_text, gives_made, solved, unsolved, IsEnding, ending_text, end_made, end_is, paid_head, paid_parts, paid_part, paid_charges, paid_row, paid_log, paid_gives, paid_end}

number_same : (n m : ℕ) (more : List Token) → numbered_text n ≡ numbered_text m ++ more → (n ≡ m) × (more ≡ [])
number_same n m more q = let same : n ≡ m = cc in let h : [] ≡ more = cc in (same, sym h)

counted_same : (n m k j : ℕ) (more : List Token) → counted_text (n, k) ≡ counted_text (m, j) ++ more → (n ≡ m) × (k ≡ j) × (more ≡ [])
counted_same n m k j more q = let h : [] ≡ more = cc in (cc, cc, sym h)

record Same (p q : Pick) (k m : ℕ) (more : List Token) : Type 0 where
  rule : p ≡ q
  many : k ≡ m
  nothing : more ≡ []

rows_same : (p q : Pick) (k m : ℕ) (more : List Token) → HasWidth p k → HasWidth q m → row_text p k ≡ row_text q m ++ more → Same p q k m more
rows_same (pick.Trivial i) (pick.Trivial j) k m more x y e = let s = number_same i j more (cc) in record { rule = ap pick.Trivial s.0; many = x.1 ∙ sym y.1; nothing = s.1 }
rows_same (pick.Trivial i) (pick.Alpha j) k m more x y e = absurd (cc)
rows_same (pick.Trivial i) (pick.Delta j) k m more x y e = absurd (cc)
rows_same (pick.Trivial i) (pick.Beta j) k m more x y e = absurd (cc)
rows_same (pick.Trivial i) (pick.Gamma j) k m more x y e = absurd (cc)
rows_same (pick.Trivial i) pick.Close k m more x y e = absurd (cc)
rows_same (pick.Alpha i) (pick.Trivial j) k m more x y e = absurd (cc)
rows_same (pick.Alpha i) (pick.Alpha j) k m more x y e = let s = number_same i j more (cc) in record { rule = ap pick.Alpha s.0; many = x.1 ∙ sym y.1; nothing = s.1 }
rows_same (pick.Alpha i) (pick.Delta j) k m more x y e = absurd (cc)
rows_same (pick.Alpha i) (pick.Beta j) k m more x y e = absurd (cc)
rows_same (pick.Alpha i) (pick.Gamma j) k m more x y e = absurd (cc)
rows_same (pick.Alpha i) pick.Close k m more x y e = absurd (cc)
rows_same (pick.Delta i) (pick.Trivial j) k m more x y e = absurd (cc)
rows_same (pick.Delta i) (pick.Alpha j) k m more x y e = absurd (cc)
rows_same (pick.Delta i) (pick.Delta j) k m more x y e = let s = number_same i j more (cc) in record { rule = ap pick.Delta s.0; many = x.1 ∙ sym y.1; nothing = s.1 }
rows_same (pick.Delta i) (pick.Beta j) k m more x y e = absurd (cc)
rows_same (pick.Delta i) (pick.Gamma j) k m more x y e = absurd (cc)
rows_same (pick.Delta i) pick.Close k m more x y e = absurd (cc)
rows_same (pick.Beta i) (pick.Trivial j) k m more x y e = absurd (cc)
rows_same (pick.Beta i) (pick.Alpha j) k m more x y e = absurd (cc)
rows_same (pick.Beta i) (pick.Delta j) k m more x y e = absurd (cc)
rows_same (pick.Beta i) (pick.Beta j) k m more x y e = let s = counted_same i j k m more (cc) in record { rule = ap pick.Beta s.0; many = s.1; nothing = s.2 }
rows_same (pick.Beta i) (pick.Gamma j) k m more x y e = absurd (cc)
rows_same (pick.Beta i) pick.Close k m more x y e = absurd (cc)
rows_same (pick.Gamma i) (pick.Trivial j) k m more x y e = absurd (cc)
rows_same (pick.Gamma i) (pick.Alpha j) k m more x y e = absurd (cc)
rows_same (pick.Gamma i) (pick.Delta j) k m more x y e = absurd (cc)
rows_same (pick.Gamma i) (pick.Beta j) k m more x y e = absurd (cc)
rows_same (pick.Gamma i) (pick.Gamma j) k m more x y e = let s = number_same i j more (cc) in record { rule = ap pick.Gamma s.0; many = x.1 ∙ sym y.1; nothing = s.1 }
rows_same (pick.Gamma i) pick.Close k m more x y e = absurd (cc)
rows_same pick.Close (pick.Trivial j) k m more x y e = absurd (cc)
rows_same pick.Close (pick.Alpha j) k m more x y e = absurd (cc)
rows_same pick.Close (pick.Delta j) k m more x y e = absurd (cc)
rows_same pick.Close (pick.Beta j) k m more x y e = absurd (cc)
rows_same pick.Close (pick.Gamma j) k m more x y e = absurd (cc)
rows_same pick.Close pick.Close k m more x y e = record { rule = refl; many = x ∙ sym y; nothing = let h : [] ≡ more = cc in sym h }

row_apart : IsApart IsRow row_line
row_apart u v more i j q =
    let s = rows_same u.0 v.0 u.1 v.1 more i j q in
    (ap (λ p. (p, u.1)) s.rule ∙ ap (λ k. (v.0, k)) s.many, s.nothing)

log_apart : (m : ℕ) → IsApart (IsSaidLog m) log_said_text
log_apart m u v more i j q = behind_apart (IsSaidLog m) said_text t.Log (said_apart m) u v more i j q

ending_apart : (m : ℕ) → IsApart (IsEnding m) ending_text
ending_apart m (solved us) (solved vs) more i j q = let s = list_apart InRange value_text value_apart us vs more i j (cc) in (ap solved s.0, s.1)
ending_apart m (solved us) (unsolved s) more i j q = absurd (cc)
ending_apart m (unsolved s) (solved us) more i j q = absurd (cc)
ending_apart m (unsolved k) (unsolved l) more i j q = let s = said_apart m k l more i j (cc) in (ap unsolved s.0, s.1)

-- from the values of one kind of line
kind_apart : {V : Type 0} (IsValue : V → Type 0) (text : V → List Token) (make : V → TextLine) → ((a : V) → line_text (make a) ≡ text a) → IsApart IsValue text → (u v : TextLine) (more : List Token) → Kind IsValue make u → Kind IsValue make v
    → line_text u ≡ line_text v ++ more → (u ≡ v) × (more ≡ [])
kind_apart IsValue text make is apart u v more a b q =
    let s = apart a.value b.value more a.fits b.fits (sym (ap line_text a.is ∙ is a.value) ∙ q ∙ ap (λ z. z ++ more) (ap line_text b.is ∙ is b.value)) in
    (a.is ∙ ap make s.0 ∙ sym b.is, s.1)

-- the lines that pay for what is owed
pub line_apart : (owed : Owed) → IsApart (Pays Any owed) line_text
line_apart o.Head u v more i j q = kind_apart IsFormat head_text head_made (λ a. refl) (behind_apart IsFormat numbered_text t.PrincessProof (numbered_apart IsFormat)) u v more (paid_head u i) (paid_head v j) q
line_apart o.Parts u v more i j q = kind_apart IsPosition parts_text parts_made (λ a. refl) (behind_apart IsPosition numbered_text t.Parts (numbered_apart IsPosition)) u v more (paid_parts u i) (paid_parts v j) q
line_apart o.Part u v more i j q = kind_apart IsPart part_text part_made (λ a. refl) part_apart u v more (paid_part u i) (paid_part v j) q
line_apart (o.Charges m) u v more i j q = kind_apart IsCharges charges_text charges_made (λ a. refl) (behind_apart IsCharges numbered_text t.Charges (numbered_apart IsCharges)) u v more (paid_charges m u i) (paid_charges m v j) q
line_apart (o.Node n m) u v more i j q = kind_apart IsRow row_line row_made (λ a. refl) row_apart u v more (paid_row n m u i) (paid_row n m v j) q
line_apart (o.Log m) u v more i j q = kind_apart (IsSaidLog m) log_said_text log_made log_is (log_apart m) u v more (paid_log m u i) (paid_log m v j) q
line_apart o.Gives u v more i j q = kind_apart AreClauses gives_text gives_made (λ a. refl) gives_apart u v more (paid_gives u i) (paid_gives v j) q
line_apart (o.End m) u v more i j q = kind_apart (IsEnding m) ending_text end_made end_is (ending_apart m) u v more (paid_end m u i) (paid_end m v j) q
