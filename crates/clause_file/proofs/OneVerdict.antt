-- A file has at most one verdict.
use Rattle.std.proofs.Common.{ℕ, ℤ, ◌≡◌, ◌≢◌, ◌+◌, false, true, List, [], ◌∷◌, ◌++◌, length, Option, Some, None, Result, Ok, Err, refl, sym, ap, subst, ◌∙◌, append-nil, arith}
use Rattle.formula.specs.Form.{Form}
use Rattle.proof_file.specs.Body.{body}
use Rattle.clause_proof.specs.declared.line.Line.{Line}
use Rattle.clause_proof.specs.Clauses.{State}
use Rattle.clause_proof.specs.Lines.{after, found}
use Rattle.clause_proof.specs.Proofs.{ends_empty, run, start}
use Rattle.clause_text.specs.declared.head.Head.{Head}
use Rattle.clause_text.specs.Files.{IsProofRefusedAt, IsProofText, lines_text, proof_text}
use Rattle.clause_text.specs.Head.{head_text}
use Rattle.clause_text.specs.Lines.{IsLine, line_of, line_text}
use Rattle.clause_text.proofs.ExactLines.{line_back, line_reads}
use Rattle.clause_words.specs.Reading.{Token}
use Rattle.clause_words.specs.Tokens.{spelled, tokens}
use Rattle.clause_words.proofs.Exact.{ok_not_err}
use Rattle.clause_file.specs.Courses.{begun, BeginsWith, Reaches}
use Rattle.clause_file.specs.Roots.{prepared_root}
use Rattle.clause_file.specs.Verdicts.{first_line, HoldsClauseProof, IsRefusedFirst, IsVerdict, IsWrongAt, values, root, line, end, Verdict, proof, wrong, refused}
use Rattle.clause_file.proofs.Fronts.{same_place}
use Rattle.clause_file.proofs.Points.{found_some, one_point, same_head, same_line, Stops, tokens_of}

-- ---- points at which no line goes on

-- a line that adds nothing
pub line_stops : (s : State) (l : Line) (rest : List ℕ) → IsLine l → after s l ≡ None → Stops s (tokens (spelled (line_text l) ++ rest))
line_stops s l rest i none = λ k more j e. ap (after s) (same_line k l more (tokens rest) j i (sym e ∙ line_back l rest i)) ∙ none

no_text : (l : Line) (x : List Token) → [] ≡ line_text l ++ x → ⊥
no_text l x e = cc

no_end : tokens [] ≡ []
unfolding tokens
no_end = refl

-- the end
pub end_stops : (s : State) → Stops s (tokens [])
end_stops s = λ k more j e. absurd (no_text k more (sym no_end ∙ e))

-- a line that is refused
pub refusal_stops : (s : State) (ts : List Token) (n : ℕ) → line_of ts ≡ Err n → Stops s ts
refusal_stops s ts n e = λ k more j f. absurd (ok_not_err (line_of ts) (k, more) n (ap line_of f ∙ line_reads.again k more j) e)

-- ---- two wrong lines

same_begun : (f : Form) (n : ℕ) (h k : Head) → h ≡ k → begun f n h ≡ begun f n k
same_begun f n h k e = ap (begun f n) e

not_both : {A : Type 0} (o : Option A) (x : A) → o ≡ None → o ≡ Some x → ⊥
not_both None x e g = cc
not_both (Some y) x e g = cc

-- the values are not counted otherwise
pub values_not : (file : List ℕ) (n : ℕ) (h k : Head) (ls ms : List Line) (x y : List ℕ) → BeginsWith (body file) h ls x → BeginsWith (body file) k ms y → length h.values ≢ n → length k.values ≡ n → ⊥
values_not file n h k ls ms x y a b off is = off (ap (λ z. length z.values) (same_head (body file) h k ls ms x y a b).0 ∙ is)

-- the root makes something where lines do
pub root_not : (f : Form) (n : ℕ) (file : List ℕ) (h k : Head) (ls ms : List Line) (x y : List ℕ) (t : State) → BeginsWith (body file) h ls x → begun f n h ≡ None → Reaches f n file k ms y t → ⊥
root_not f n file h k ls ms x y t a none b =
    let p = found_some (begun f n k) (λ z. run z ms) t b.makes in
    not_both (begun f n h) p.0 none (same_begun f n h k (same_head (body file) h k ls ms x y a b.begins).0 ∙ p.1)

no_line : (ts us : List Token) (l : Line) (rest : List ℕ) → IsLine l → ts ≡ tokens (spelled (line_text l) ++ rest) → ts ≡ [] → ⊥
no_line ts us l rest i e none = no_text l (tokens rest) (sym none ∙ e ∙ line_back l rest i)

same_number : (i j : ℕ) (ls ms : List Line) → i ≡ first_line + length ls → j ≡ first_line + length ms → ls ≡ ms → i ≡ j
same_number i j ls ms e f same = e ∙ ap (λ z. first_line + length z) same ∙ sym f

-- the end is no line
pub end_not : (f : Form) (n : ℕ) (file : List ℕ) (h k : Head) (ls ms : List Line) (l : Line) (rest : List ℕ) (s t : State) → Reaches f n file h ls (spelled (line_text l) ++ rest) s → IsLine l → after s l ≡ None
    → Reaches f n file k ms [] t → ⊥
end_not f n file h k ls ms l rest s t a i none b =
    let same = one_point f n file h k ls ms (spelled (line_text l) ++ rest) [] s t a b (line_stops s l rest i none) (end_stops t) in
    no_line (tokens []) [] l rest i (sym same.1) no_end

one_wrong : (f : Form) (n : ℕ) (file : List ℕ) (i j : ℕ) → IsWrongAt f n file i → IsWrongAt f n file j → i ≡ j
one_wrong f n file i j (values h x a v p) (values k y b u q) = p ∙ sym q
one_wrong f n file i j (values h x a v p) (root k y b u none q) = absurd (values_not file n h k [] [] x y a b v u)
one_wrong f n file i j (values h x a v p) (line k ms m y t b im none q) = absurd (values_not file n h k [] ms x (spelled (line_text m) ++ y) a b.begins v b.values)
one_wrong f n file i j (values h x a v p) (end k ms t b empty q) = absurd (values_not file n h k [] ms x [] a b.begins v b.values)
one_wrong f n file i j (root h x a v none p) (values k y b u q) = absurd (values_not file n k h [] [] y x b a u v)
one_wrong f n file i j (root h x a v none p) (root k y b u off q) = p ∙ sym q
one_wrong f n file i j (root h x a v none p) (line k ms m y t b im off q) = absurd (root_not f n file h k [] ms x (spelled (line_text m) ++ y) t a none b)
one_wrong f n file i j (root h x a v none p) (end k ms t b empty q) = absurd (root_not f n file h k [] ms x [] t a none b)
one_wrong f n file i j (line h ls l x s a il none p) (values k y b u q) = absurd (values_not file n k h [] ls y (spelled (line_text l) ++ x) b a.begins u a.values)
one_wrong f n file i j (line h ls l x s a il none p) (root k y b u off q) = absurd (root_not f n file k h [] ls y (spelled (line_text l) ++ x) s b off a)
one_wrong f n file i j (line h ls l x s a il none p) (line k ms m y t b im off q) =
    let same = one_point f n file h k ls ms (spelled (line_text l) ++ x) (spelled (line_text m) ++ y) s t a b (line_stops s l x il none) (line_stops t m y im off) in
    same_number i j ls ms p q same.0
one_wrong f n file i j (line h ls l x s a il none p) (end k ms t b empty q) = absurd (end_not f n file h k ls ms l x s t a il none b)
one_wrong f n file i j (end h ls s a full p) (values k y b u q) = absurd (values_not file n k h [] ls y [] b a.begins u a.values)
one_wrong f n file i j (end h ls s a full p) (root k y b u off q) = absurd (root_not f n file k h [] ls y [] s b off a)
one_wrong f n file i j (end h ls s a full p) (line k ms m y t b im off q) = absurd (end_not f n file k h ms ls m y t s b im off a)
one_wrong f n file i j (end h ls s a full p) (end k ms t b empty q) =
    let same = one_point f n file h k ls ms [] [] s t a b (end_stops s) (end_stops t) in
    same_number i j ls ms p q same.0

-- ---- a proof, and what is none

record Whole (f : Form) (n : ℕ) (file : List ℕ) (h : Head) (ls : List Line) : Type 0 where
  pub last : State
  pub reaches : Reaches f n file h ls [] last
  pub empty : ends_empty last.clauses ≡ true

whole : (f : Form) (n : ℕ) (file : List ℕ) (vs : List ℤ) → (p : HoldsClauseProof f n file vs) → Whole f n file p.head p.lines
whole f n file vs p = record {
  last = p.proves.last;
  reaches = record {
    begins = record { is_text = p.is_text; parts = p.is ∙ sym (append-nil (spelled (proof_text (p.head, p.lines)))) };
    values = ap length p.values ∙ p.count;
    makes = ap (λ z. found (start (prepared_root n f p.head.prepared) z p.head.root) (λ s. run s p.lines)) p.values ∙ p.proves.runs;
  };
  empty = p.proves.ends;
}

no_bool : false ≡ true → ⊥
no_bool e = cc

never_wrong : (f : Form) (n : ℕ) (file : List ℕ) (h : Head) (ls : List Line) (i : ℕ) → Whole f n file h ls → IsWrongAt f n file i → ⊥
never_wrong f n file h ls i w (values k y b u q) = values_not file n k h [] ls y [] b w.reaches.begins u w.reaches.values
never_wrong f n file h ls i w (root k y b u off q) = root_not f n file k h [] ls y [] w.last b off w.reaches
never_wrong f n file h ls i w (line k ms m y t b im off q) = end_not f n file k h ms ls m y t w.last b im off w.reaches
never_wrong f n file h ls i w (end k ms t b empty q) =
    let same = one_point f n file h k ls ms [] [] w.last t w.reaches b (end_stops w.last) (end_stops t) in
    no_bool (sym empty ∙ ap (λ z. ends_empty z.clauses) (sym same.2) ∙ w.empty)

whole_tokens : (text : List ℕ) (h : Head) (ls : List Line) → BeginsWith text h ls [] → tokens text ≡ proof_text (h, ls)
whole_tokens text h ls b = tokens_of text h ls [] b ∙ ap (λ z. head_text h ++ (lines_text ls ++ z)) no_end ∙ ap (λ z. head_text h ++ z) (append-nil (lines_text ls))

never_refused_at : (ts : List Token) (h : Head) (ls : List Line) (back : List Token) (n : ℕ) → IsProofText (h, ls) → ts ≡ proof_text (h, ls) → (r : IsProofRefusedAt ts n) → r.back ≡ back → ⊥
never_refused_at ts h ls [] n i e r b = r.ends b (h, ls) i (sym e ∙ r.whole ∙ ap (λ z. r.front ++ z) b ∙ append-nil r.front)
never_refused_at ts h ls (x ∷ more) n i e r b =
    r.none x more b (record { value = (h, ls); is_value = i; more = more; parts = sym e ∙ r.whole ∙ ap (λ z. r.front ++ z) b ∙ sym (Rattle.std.proofs.Common.append_assoc r.front (x ∷ []) more) })

never_refused : (f : Form) (n : ℕ) (file : List ℕ) (h : Head) (ls : List Line) (at : ℕ) → Whole f n file h ls → IsRefusedFirst f n file at → ⊥
never_refused f n file h ls at w r = never_refused_at (tokens (body file)) h ls r.refuses.1.back r.refuses.0 w.reaches.begins.is_text (whole_tokens (body file) h ls w.reaches.begins) r.refuses.1 refl

one_proof : (f : Form) (n : ℕ) (file : List ℕ) (us vs : List ℤ) → HoldsClauseProof f n file us → HoldsClauseProof f n file vs → us ≡ vs
one_proof f n file us vs a b =
    let v = whole f n file us a in
    let w = whole f n file vs b in
    let same = same_head (body file) a.head b.head a.lines b.lines [] [] v.reaches.begins w.reaches.begins in
    sym a.values ∙ ap (λ z. z.values) same.0 ∙ b.values

one_refusal : (f : Form) (n : ℕ) (file : List ℕ) (i j : ℕ) → IsRefusedFirst f n file i → IsRefusedFirst f n file j → i ≡ j
one_refusal f n file i j a b =
    let left = same_place (tokens (body file)) a.refuses.0 b.refuses.0 a.refuses.1 b.refuses.1 in
    let p = a.refuses.2 in let q = b.refuses.2 in
    omega (arith, left, p, q)

-- ---- one verdict

pub one_verdict : (f : Form) (n : ℕ) (file : List ℕ) (a b : Verdict) → IsVerdict f n file a → IsVerdict f n file b → a ≡ b
one_verdict f n file (proof us) (proof vs) p q = ap proof (one_proof f n file us vs p q)
one_verdict f n file (proof us) (wrong j) p q = absurd (never_wrong f n file p.head p.lines j (whole f n file us p) q)
one_verdict f n file (proof us) (refused j) p q = absurd (never_refused f n file p.head p.lines j (whole f n file us p) q)
one_verdict f n file (wrong i) (proof vs) p q = absurd (never_wrong f n file q.head q.lines i (whole f n file vs q) p)
one_verdict f n file (wrong i) (wrong j) p q = ap wrong (one_wrong f n file i j p q)
one_verdict f n file (wrong i) (refused j) p q = absurd (q.before i p)
one_verdict f n file (refused i) (proof vs) p q = absurd (never_refused f n file q.head q.lines i (whole f n file vs q) p)
one_verdict f n file (refused i) (wrong j) p q = absurd (p.before j q)
one_verdict f n file (refused i) (refused j) p q = ap refused (one_refusal f n file i j p q)
