-- A whole proof: its text says it alone, and a refusal of a line is the first one of the text.
use Rattle.std.proofs.Common.{ℕ, ◌≡◌, List, [], ◌∷◌, ◌++◌, Result, Ok, Err, refl, sym, ap, subst, ◌∙◌, append_assoc, append-nil}
use Rattle.std.specs.List.{AllByRecursion}
use Rattle.clause_proof.specs.declared.line.Line.{Line}
use Rattle.clause_text.specs.declared.head.Head.{Head}
use Rattle.clause_text.specs.Head.{head_text, head_of, IsHead}
use Rattle.clause_text.specs.Lines.{line_text, line_of, IsLine}
use Rattle.clause_text.specs.Files.{ProofText, lines_text, proof_text, IsProofText, IsProofRefusedAt}
use Rattle.clause_words.specs.Tokens.{size}
use Rattle.clause_words.specs.Places.{Begins, IsRefusedAt}
use Rattle.clause_words.specs.Reading.{Token, Read, done}
use Rattle.clause_words.proofs.Lists.{done_is}
use Rattle.clause_words.proofs.Exact.{Reads, IsStuck, IsFault}
use Rattle.clause_text.proofs.ExactLines.{line_reads}
use Rattle.clause_text.proofs.ExactHead.{head_reads}

-- what an exact reader reads is one value, with one rest
same_value : {V : Type 0} (P : V → Type 0) (text : V → List Token) (read : List Token → Read V) → Reads P text read → (u v : V) (x y : List Token) → P u → P v → text u ++ x ≡ text v ++ y → (u ≡ v) × (x ≡ y)
same_value P text read r u v x y i j e = done_is u v x y (sym (r.again u x i) ∙ ap read e ∙ r.again v y j)

no_text : (l : Line) (x : List Token) → [] ≡ line_text l ++ x → ⊥
no_text l x e = cc

same_lines : (ks ls : List Line) → AllByRecursion IsLine ks → AllByRecursion IsLine ls → lines_text ks ≡ lines_text ls → ks ≡ ls
same_lines [] [] i j e = refl
same_lines [] (l ∷ ls) i j e = absurd (no_text l (lines_text ls) e)
same_lines (k ∷ ks) [] i j e = absurd (no_text k (lines_text ks) (sym e))
same_lines (k ∷ ks) (l ∷ ls) i j e =
    let q = same_value IsLine line_text line_of line_reads k l (lines_text ks) (lines_text ls) i.0 j.0 e in
    let rest = same_lines ks ls i.1 j.1 q.1 in
    ap (λ z. z ∷ ks) q.0 ∙ ap (λ z. l ∷ z) rest

pub same_proof : (p q : ProofText) → IsProofText p → IsProofText q → proof_text p ≡ proof_text q → p ≡ q
same_proof p q i j e =
    let h = same_value IsHead head_text head_of head_reads p.0 q.0 (lines_text p.1) (lines_text q.1) i.0 j.0 e in
    let ls = same_lines p.1 q.1 i.1 j.1 h.1 in
    ap (λ z. (z, p.1)) h.0 ∙ ap (λ z. (q.0, z)) ls

-- ---- refusals

fault_or : {A : Type 0} (r : Result A ℕ) (x : A) → IsFault r → r ≡ Ok x → ⊥
fault_or (Ok y) x h e = h
fault_or (Err n) x h e = cc

ok_or_err : {A : Type 0} (r : Result A ℕ) (x : A) (n : ℕ) → r ≡ Ok x → r ≡ Err n → ⊥
ok_or_err (Ok y) x n e f = cc
ok_or_err (Err m) x n e f = cc

no_middle : (front : List Token) (x : Token) (more : List Token) → [] ≡ front ++ x ∷ more → ⊥
no_middle [] x more e = cc
no_middle (y ∷ ys) x more e = cc

lines_none : (ks ls : List Line) (tail : List Token) → AllByRecursion IsLine ks → AllByRecursion IsLine ls → ((l : Line) (x : List Token) → line_of tail ≡ done l x → ⊥) → (tail ≡ [] → ⊥) → lines_text ks ≡ lines_text ls ++ tail → ⊥
lines_none [] [] tail i j h s e = s (sym e)
lines_none (k ∷ ks) [] tail i j h s e = h k (lines_text ks) (ap line_of (sym e) ∙ line_reads.again k (lines_text ks) i.0)
lines_none [] (l ∷ ls) tail i j h s e = no_text l (lines_text ls ++ tail) (e ∙ append_assoc (line_text l) (lines_text ls) tail)
lines_none (k ∷ ks) (l ∷ ls) tail i j h s e =
    let q = same_value IsLine line_text line_of line_reads k l (lines_text ks) (lines_text ls ++ tail) i.0 j.0 (e ∙ append_assoc (line_text l) (lines_text ls) tail) in
    lines_none ks ls tail i.1 j.1 h s q.1

lines_append : (ls : List Line) (v : Line) → lines_text (ls ++ v ∷ []) ≡ lines_text ls ++ line_text v
lines_append [] v = append-nil (line_text v)
lines_append (l ∷ ls) v = ap (λ z. line_text l ++ z) (lines_append ls v) ∙ sym (append_assoc (line_text l) (lines_text ls) (line_text v))

are_append : (ls : List Line) (v : Line) → AllByRecursion IsLine ls → IsLine v → AllByRecursion IsLine (ls ++ v ∷ [])
are_append [] v i j = (j, tt)
are_append (l ∷ ls) v i j = (i.0, are_append ls v i.1 j)

-- after the first lines and lines a refused line is refused there
pub line_refused : (h : Head) (ls : List Line) (rest : List Token) (n : ℕ) → IsHead h → AllByRecursion IsLine ls → (rest ≡ [] → ⊥) → line_of rest ≡ Err n → IsProofRefusedAt (head_text h ++ (lines_text ls ++ rest)) n
line_refused h ls rest n i j some e =
    let s = line_reads.first rest n e in
    let v = s.begins.value in
    record {
      front = head_text h ++ (lines_text ls ++ s.front);
      back = s.back;
      whole = ap (λ z. head_text h ++ (lines_text ls ++ z)) s.whole ∙ ap (λ z. head_text h ++ z) (sym (append_assoc (lines_text ls) s.front s.back)) ∙ sym (append_assoc (head_text h) (lines_text ls ++ s.front) s.back);
      begins = record {
        value = (h, ls ++ v ∷ []);
        is_value = (i, are_append ls v j s.begins.is_value);
        more = s.begins.more;
        parts = ap (λ z. head_text h ++ z) (lines_append ls v ∙ ap (λ z. lines_text ls ++ z) s.begins.parts ∙ sym (append_assoc (lines_text ls) s.front s.begins.more)) ∙ sym (append_assoc (head_text h) (lines_text ls ++ s.front) s.begins.more);
      };
      none = λ x r p b.
          let tail = s.front ++ x ∷ b.more in
          let text : head_text b.value.0 ++ lines_text b.value.1 ≡ head_text h ++ (lines_text ls ++ tail) =
          b.parts ∙ append_assoc (head_text h ++ (lines_text ls ++ s.front)) (x ∷ []) b.more ∙ append_assoc (head_text h) (lines_text ls ++ s.front) (x ∷ b.more) ∙ ap (λ z. head_text h ++ z) (append_assoc (lines_text ls) s.front (x ∷ b.more)) in
          let q = same_value IsHead head_text head_of head_reads b.value.0 h (lines_text b.value.1) (lines_text ls ++ tail) b.is_value.0 i text in
          lines_none b.value.1 ls tail b.is_value.1 j (λ l y f. fault_or (line_of tail) (l, y) (s.stuck x r b.more p) f) (λ f. no_middle s.front x b.more (sym f)) q.1;
      ends = λ nothing p k f.
          let rest_is : rest ≡ s.front = s.whole ∙ ap (λ z. s.front ++ z) nothing ∙ append-nil s.front in
          let q = same_value IsHead head_text head_of head_reads p.0 h (lines_text p.1) (lines_text ls ++ s.front) k.0 i f in
          lines_none p.1 ls rest k.1 j (λ l y g. ok_or_err (line_of rest) (l, y) n g e) some (q.1 ∙ ap (λ z. lines_text ls ++ z) (sym rest_is));
      place = s.place;
    }

-- refused first lines are refused there
pub head_refused : (ts : List Token) (n : ℕ) → head_of ts ≡ Err n → IsProofRefusedAt ts n
head_refused ts n e =
    let s = head_reads.first ts n e in
    record {
      front = s.front;
      back = s.back;
      whole = s.whole;
      begins = record { value = (s.begins.value, []); is_value = (s.begins.is_value, tt); more = s.begins.more; parts = append-nil (head_text s.begins.value) ∙ s.begins.parts };
      none = λ x r p b.
          let text : head_text b.value.0 ++ lines_text b.value.1 ≡ s.front ++ x ∷ b.more = b.parts ∙ append_assoc s.front (x ∷ []) b.more in
          fault_or (head_of (s.front ++ x ∷ b.more)) (b.value.0, lines_text b.value.1) (s.stuck x r b.more p) (ap head_of (sym text) ∙ head_reads.again b.value.0 (lines_text b.value.1) b.is_value.0);
      ends = λ nothing p k f.
          let ts_is : ts ≡ head_text p.0 ++ lines_text p.1 = s.whole ∙ ap (λ z. s.front ++ z) nothing ∙ append-nil s.front ∙ sym f in
          ok_or_err (head_of ts) (p.0, lines_text p.1) n (ap head_of ts_is ∙ head_reads.again p.0 (lines_text p.1) k.0) e;
      place = s.place;
    }
