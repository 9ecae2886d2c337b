-- Each file has a verdict.
use Rattle.std.proofs.Common.{ℕ, zero, suc, ◌≡◌, ◌+◌, ◌-◌, ◌≤◌, Bool, true, false, cond, nat_eq, List, [], ◌∷◌, ◌++◌, length, length-append, Option, Some, None, option_map, unwrap_or, Ok, Err, refl, sym, ap, subst, ◌∙◌, arith}
use Rattle.std.specs.List.{join_with_byte}
use Rattle.std.proofs.lemmas.Bool.Decides.{nat_tests}
use Rattle.std.proofs.lemmas.List.Splits.{join_with_byte-slice_split}
use Rattle.formula.specs.Form.{Form}
use Rattle.proof_file.specs.Body.{behind_marker, body, is_marker, lines_of}
use Rattle.clause_proof.specs.declared.line.Line.{Line}
use Rattle.clause_proof.specs.Clauses.{State}
use Rattle.clause_proof.specs.Lines.{after, found}
use Rattle.clause_proof.specs.Proofs.{ends_empty, run}
use Rattle.clause_text.specs.declared.head.Head.{Head}
use Rattle.clause_text.specs.Files.{proof_text}
use Rattle.clause_text.specs.Head.{head_of, head_text, IsHead}
use Rattle.clause_text.specs.Lines.{IsLine, line_of, line_text}
use Rattle.clause_text.proofs.ExactHead.{head_reads}
use Rattle.clause_text.proofs.ExactLines.{line_reads}
use Rattle.clause_words.specs.Reading.{Read, Token}
use Rattle.clause_words.specs.Tokens.{spelled, tokens}
use Rattle.clause_words.proofs.Exact.{refused}
use Rattle.clause_words.proofs.Splitting.{size_is, spelled_is}
use Rattle.clause_file.specs.Courses.{begun, BeginsWith, Reaches}
use Rattle.clause_file.specs.Verdicts.{IsVerdict, Verdict}
use Rattle.clause_file.specs.Verdicts as verdict
use Rattle.clause_file.proofs.Following.{end_wrong, ends_proof, head_refused_first, refused_first}
use Rattle.clause_file.proofs.Fronts.{refusal_within}
use Rattle.clause_file.proofs.Points.{head_alone, reach_more, same_rest, spelled_append}

-- ---- the body is no longer than the file

join_longer : (x : List ℕ) (xs : List (List ℕ)) → length (join_with_byte 10 xs) ≤ length (join_with_byte 10 (x ∷ xs))
join_longer x [] = omega arith
join_longer x (y ∷ ys) = let e = length-append x (10 ∷ join_with_byte 10 (y ∷ ys)) in omega (arith, e)

behind_shorter : (xs ys : List (List ℕ)) → behind_marker xs ≡ Some ys → length (join_with_byte 10 ys) ≤ length (join_with_byte 10 xs)
behind_shorter [] ys e = absurd (cc)
behind_shorter (x ∷ xs) ys e = by (is_marker x) e (behind_shorter xs ys)
  where
    by : (b : Bool) → cond b (Some xs) (behind_marker xs) ≡ Some ys → (behind_marker xs ≡ Some ys → length (join_with_byte 10 ys) ≤ length (join_with_byte 10 xs)) → length (join_with_byte 10 ys) ≤ length (join_with_byte 10 (x ∷ xs))
    by true q go = let same : xs ≡ ys = cc in let l = join_longer x xs in let k = ap (λ z. length (join_with_byte 10 z)) same in omega (arith, l, k)
    by false q go = let h = go q in let l = join_longer x xs in omega (arith, h, l)

body_by : (bytes : List ℕ) (o : Option (List (List ℕ))) → behind_marker (lines_of bytes) ≡ o → length (unwrap_or (option_map (join_with_byte 10) o) bytes) ≤ length bytes
body_by bytes None e = omega arith
body_by bytes (Some ys) e = let h = behind_shorter (lines_of bytes) ys e in let k = ap length (join_with_byte-slice_split 10 bytes) in omega (arith, h, k)

body_within : (bytes : List ℕ) → length (body bytes) ≤ length bytes
body_within bytes = body_by bytes (behind_marker (lines_of bytes)) refl

-- ---- from a point on

abbrev SomeVerdict : Form → ℕ → List ℕ → Type 0
SomeVerdict f n file = (v : Verdict) × IsVerdict f n file v

no_bytes : (text : List ℕ) → tokens text ≡ [] → text ≡ []
no_bytes text e = sym (spelled_is text) ∙ ap spelled e

at_end : (f : Form) (n : ℕ) (file text : List ℕ) (h : Head) (ls : List Line) (s : State) (b : Bool) → Reaches f n file h ls text s → text ≡ [] → ends_empty s.clauses ≡ b → SomeVerdict f n file
at_end f n file text h ls s true r none e = (verdict.proof h.values, ends_proof f n file text h ls s none (sym e) r)
at_end f n file text h ls s false r none e = (verdict.wrong (verdict.first_line + length ls), end_wrong f n (verdict.first_line + length ls) file text h ls s none (sym e) refl r)

place_there : (left whole : ℕ) → left ≤ whole → (whole - left) + left ≡ whole
place_there left whole h = omega (arith, h)

-- what comes after a line
abbrev GoesOn : Form → ℕ → List ℕ → List ℕ → State → Type 0
GoesOn f n file text s = (l : Line) (ts : List Token) (t : State) → IsLine l → tokens text ≡ line_text l ++ ts → after s l ≡ Some t → SomeVerdict f n file

text_of : (text : List ℕ) (l : Line) (ts : List Token) → tokens text ≡ line_text l ++ ts → text ≡ spelled (line_text l) ++ spelled ts
text_of text l ts e = sym (spelled_is text) ∙ ap spelled e ∙ spelled_append (line_text l) ts

at_line : (f : Form) (n : ℕ) (file text : List ℕ) (h : Head) (ls : List Line) (s : State) (l : Line) (ts : List Token) (o : Option State) → Reaches f n file h ls text s → IsLine l → tokens text ≡ line_text l ++ ts → after s l ≡ o
    → GoesOn f n file text s → SomeVerdict f n file
at_line f n file text h ls s l ts None r i e a go =
    (verdict.wrong (verdict.first_line + length ls), verdict.line h ls l (spelled ts) s (subst (λ z. Reaches f n file h ls z s) (text_of text l ts e) r) i a refl)
at_line f n file text h ls s l ts (Some t) r i e a go = go l ts t i e a

at_text : (f : Form) (n : ℕ) (file text : List ℕ) (h : Head) (ls : List Line) (s : State) (x : Read Line) → Reaches f n file h ls text s → (tokens text ≡ [] → ⊥) → length text ≤ length file → line_of (tokens text) ≡ x → GoesOn f n file text s → SomeVerdict f n file
at_text f n file text h ls s (Ok p) r some le e go = let k = line_reads.found (tokens text) p.0 p.1 e in at_line f n file text h ls s p.0 p.1 (after s p.0) r k.0 k.1 refl go
at_text f n file text h ls s (Err left) r some le e go =
    let w = refusal_within IsLine line_text (tokens text) left (refused IsLine line_text line_of line_reads (tokens text) left e) in
    let z = size_is text in
    (verdict.refused (length file - left), refused_first f n left (length file - left) file text h ls s e some (place_there left (length file) (omega (arith, w, z, le))) r)

at_tokens : (f : Form) (n : ℕ) (file text : List ℕ) (h : Head) (ls : List Line) (s : State) (ts : List Token) → Reaches f n file h ls text s → length text ≤ length file → tokens text ≡ ts → GoesOn f n file text s → SomeVerdict f n file
at_tokens f n file text h ls s [] r le e go = at_end f n file text h ls s (ends_empty s.clauses) r (no_bytes text e) refl
at_tokens f n file text h ls s (x ∷ xs) r le e go = at_text f n file text h ls s (line_of (tokens text)) r (λ none. absurd (let q = sym e ∙ none in cc)) le refl go

line_size : (l : Line) (ts : List Token) (k : ℕ) → length (line_text l ++ ts) ≤ suc k → length ts ≤ k
line_size l ts k h = let e = length-append (line_text l) ts in omega (arith, h, e)

shorter_text : (text : List ℕ) (l : Line) (ts : List Token) → tokens text ≡ line_text l ++ ts → length (spelled ts) ≤ length text
shorter_text text l ts e = let k = ap length (text_of text l ts e) in let s = length-append (spelled (line_text l)) (spelled ts) in omega (arith, k, s)

no_list : {A : Type 0} (xs : List A) → length xs ≤ zero → xs ≡ []
no_list [] h = refl
no_list (x ∷ xs) h = absurd (omega (arith, h))

from_point : (k : ℕ) (f : Form) (n : ℕ) (file text : List ℕ) (h : Head) (ls : List Line) (s : State) → length (tokens text) ≤ k → length text ≤ length file → Reaches f n file h ls text s → SomeVerdict f n file
from_point zero f n file text h ls s few le r = at_end f n file text h ls s (ends_empty s.clauses) r (no_bytes text (no_list (tokens text) few)) refl
from_point (suc k) f n file text h ls s few le r =
    at_tokens f n file text h ls s (tokens text) r le refl
    (λ l ts t i e a.
    let back : tokens (spelled ts) ≡ ts = same_rest text l ts i e in
    let short = line_size l ts k (subst (λ z. length z ≤ suc k) e few) in
    let fewer = shorter_text text l ts e in
    from_point k f n file (spelled ts) h (ls ++ l ∷ []) t (subst (λ z. length z ≤ k) (sym back) short) (omega (arith, fewer, le)) (reach_more f n file h ls l (spelled ts) s t (subst (λ z. Reaches f n file h ls z s) (text_of text l ts e) r) i a))

-- ---- from the start

at_start : (f : Form) (n : ℕ) (file text : List ℕ) (h : Head) (o : Option State) → BeginsWith (body file) h [] text → length text ≤ length file → length h.values ≡ n → begun f n h ≡ o → SomeVerdict f n file
at_start f n file text h None b le count e = (verdict.wrong 5, verdict.root h text b count e refl)
at_start f n file text h (Some s) b le count e = from_point (length (tokens text)) f n file text h [] s (omega arith) le (record { begins = b; values = count; makes = ap (λ o. found o (λ z. run z [])) e })

at_head : (f : Form) (n : ℕ) (file text : List ℕ) (h : Head) (b : Bool) → BeginsWith (body file) h [] text → length text ≤ length file → nat_eq (length h.values) n ≡ b → SomeVerdict f n file
at_head f n file text h true b le e = at_start f n file text h (begun f n h) b le (same e) refl
  where
    same : nat_eq (length h.values) n ≡ true → length h.values ≡ n
    same t = grind (arith, nat_tests)
at_head f n file text h false b le e = (verdict.wrong 4, verdict.values h text b (other e) refl)
  where
    other : nat_eq (length h.values) n ≡ false → length h.values ≡ n → ⊥
    other t k = grind (arith, nat_tests)

from_head : (f : Form) (n : ℕ) (file : List ℕ) (x : Read Head) → head_of (tokens (body file)) ≡ x → SomeVerdict f n file
from_head f n file (Ok p) e =
    let k = head_reads.found (tokens (body file)) p.0 p.1 e in
    let b = head_alone (body file) p.0 p.1 k.0 k.1 in
    let shorter = ap length b.parts ∙ length-append (spelled (proof_text (p.0, []))) (spelled p.1) in
    let within = body_within file in
    at_head f n file (spelled p.1) p.0 (nat_eq (length p.0.values) n) b (omega (arith, shorter, within)) refl
from_head f n file (Err left) e =
    let w = refusal_within IsHead head_text (tokens (body file)) left (refused IsHead head_text head_of head_reads (tokens (body file)) left e) in
    let z = size_is (body file) in
    let within = body_within file in
    (verdict.refused (length file - left), head_refused_first f n left (length file - left) file e (place_there left (length file) (omega (arith, w, z, within))))

pub some_verdict : (f : Form) (n : ℕ) (file : List ℕ) → SomeVerdict f n file
some_verdict f n file = from_head f n file (head_of (tokens (body file))) refl
