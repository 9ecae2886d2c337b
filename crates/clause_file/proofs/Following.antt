-- What a check says that follows a text line by line.
use Rattle.std.proofs.Common.{ℕ, ◌≡◌, ℤ, ◌+◌, ◌<◌, ◌≤◌, false, true, List, [], ◌∷◌, ◌++◌, length, None, Some, Ok, Err, refl, sym, ap, subst, ◌∙◌, append-nil, arith}
use Rattle.base_budget.specs.Trace.{Funds}
use Rattle.formula.specs.Form.{Form}
use Rattle.proof_file.specs.Body.{body}
use Rattle.proof_tokens.specs.declared.reading.Refusal.{Refusal}
use Rattle.proof_tokens.specs.declared.reading.Refusal.TheVariants as e
use Rattle.clause_proof.specs.declared.line.Line.{Line}
use Rattle.clause_proof.specs.Clauses.{State}
use Rattle.clause_proof.specs.Lines.{after, found}
use Rattle.clause_proof.specs.Proofs.{ends_empty, start}
use Rattle.clause_checker.specs.declared.fault.Fault.{Fault}
use Rattle.clause_checker.specs.declared.fault.Fault.TheVariants as checker
use Rattle.clause_checker.specs.Answers.{Does, PaysPrice}
use Rattle.clause_text.specs.declared.head.Head.{Head}
use Rattle.clause_text.specs.Files.{IsProofRefusedAt, lines_text, proof_text}
use Rattle.clause_text.specs.Head.{head_of, head_text, IsHead, RefusesHead}
use Rattle.clause_text.specs.Lines.{IsLine, line_of, line_text, RefusesProofLine}
use Rattle.clause_text.proofs.ExactFiles.{head_refused, line_refused}
use Rattle.clause_text.proofs.ExactHead.{head_reads}
use Rattle.clause_text.proofs.ExactLines.{line_back, line_reads}
use Rattle.clause_words.specs.Tokens.{size, spelled, tokens}
use Rattle.clause_words.proofs.Exact.{ok_not_err}
use Rattle.clause_words.proofs.Splitting.{size_is}
use Rattle.clause_file.specs.declared.fault.ClauseFault.{ClauseFault}
use Rattle.clause_file.specs.Answers.{fault_at, IsFault, IsPlaced, LeavesWithin}
use Rattle.clause_file.specs.Courses.{BeginsWith, Reaches, Starts}
use Rattle.clause_file.specs.Costs as cost
use Rattle.clause_file.specs.Costs.{check_price, HasPaid}
use Rattle.clause_file.specs.Ranges as range
use Rattle.clause_file.specs.Roots.{preparation_price}
use Rattle.clause_file.proofs.Paying.{line_dear, line_paid, start_dear, start_paid}
use Rattle.clause_checker.specs.Prices.{price, start_price}
use Rattle.clause_file.specs.Verdicts.{first_line, HoldsClauseProof, IsRefusedFirst, IsWrongAt}
use Rattle.clause_file.specs.Verdicts as verdict
use Rattle.clause_file.proofs.Fronts.{refusal_read, refusal_within}
use Rattle.clause_file.proofs.OneVerdict.{end_stops, line_stops, refusal_stops, root_not, values_not}
use Rattle.clause_file.proofs.Points.{one_point, reach_more, tokens_of}

-- ---- places

pub line_within : (text : List ℕ) (bytes : ℕ) (r : Refusal) → RefusesProofLine text r → length text ≤ bytes → LeavesWithin bytes r
line_within text bytes (e.Syntax left) h le = let k = refusal_within IsLine line_text (tokens text) left h in let s = size_is text in omega (arith, k, s, le)
line_within text bytes e.Memory h le = tt

pub head_within : (text : List ℕ) (bytes : ℕ) (r : Refusal) → RefusesHead text r → length text ≤ bytes → LeavesWithin bytes r
head_within text bytes (e.Syntax left) h le = let k = refusal_within IsHead head_text (tokens text) left h in let s = size_is text in omega (arith, k, s, le)
head_within text bytes e.Memory h le = tt

-- ---- a line that is made

pub line_made : (g : Form) (n : ℕ) (file text rest : List ℕ) (h : Head) (ls : List Line) (l : Line) (s t : State) (old new : Funds) → IsLine l → text ≡ spelled (line_text l) ++ rest → Does (λ (u : Unit {0}). t) (after s l) (Ok tt)
    → new ≡ record old { spent = old.spent + price s l } → Reaches g n file h ls text s → HasPaid old h (check_price g n h ls) → (m : Line) × Reaches g n file h (ls ++ m ∷ []) rest t × HasPaid new h (check_price g n h (ls ++ m ∷ []))
line_made g n file text rest h ls l s t old new i is d pays r paid =
    (l, reach_more g n file h ls l rest s t (subst (λ z. Reaches g n file h ls z s) is r) i (d.ok tt refl), line_paid g n file h ls l text s old new r paid pays)

-- ---- a line that is not made

line_fault : (g : Form) (n number : ℕ) (file rest : List ℕ) (h : Head) (ls : List Line) (l : Line) (s : State) (old new : Funds) (fault : Fault) → IsLine l → Reaches g n file h ls (spelled (line_text l) ++ rest) s → HasPaid old h (check_price g n h ls)
    → PaysPrice {A = Unit {0}} (price s l) old new (Err fault) → (fault ≡ checker.Refused → after s l ≡ None) → number ≡ first_line + length ls → IsFault g n file (fault_at number fault)
line_fault g n number file rest h ls l s old new checker.Refused i r paid pays none is = verdict.line h ls l rest s r i (none refl) is
line_fault g n number file rest h ls l s old new checker.Steps i r paid pays none is = cost.line h ls l rest s r i (line_dear g n file h ls l (spelled (line_text l) ++ rest) s old r paid pays) is
line_fault g n number file rest h ls l s old new (checker.Overflow p) i r paid pays none is = range.line h ls l rest s r i is
line_fault g n number file rest h ls l s old new checker.Room i r paid pays none is = range.line h ls l rest s r i is
line_fault g n number file rest h ls l s old new checker.Memory i r paid pays none is = tt

pub line_not_made : (g : Form) (n number : ℕ) (file text rest : List ℕ) (h : Head) (ls : List Line) (l : Line) (s t : State) (old new : Funds) (fault : Fault) (x : ClauseFault) → IsLine l → text ≡ spelled (line_text l) ++ rest
    → Does (λ (u : Unit {0}). t) (after s l) (Err fault) → PaysPrice {A = Unit {0}} (price s l) old new (Err fault) → x ≡ fault_at number fault → Reaches g n file h ls text s → HasPaid old h (check_price g n h ls) → number ≡ first_line + length ls
    → IsFault g n file x
line_not_made g n number file text rest h ls l s t old new fault x i is d pays e r paid at =
    subst (IsFault g n file) (sym e) (line_fault g n number file rest h ls l s old new fault i (subst (λ z. Reaches g n file h ls z s) is r) paid pays (λ k. d.refused (ap Err k)) at)

-- ---- a line that is refused

no_tokens : tokens [] ≡ []
unfolding tokens
no_tokens = refl

some_tokens : (text : List ℕ) → 0 < length text → tokens text ≡ [] → ⊥
some_tokens text some none = let s = size_is text in let z = ap size none in omega (arith, s, z, some)

no_line_there : (text : List ℕ) (m : Line) (y : List ℕ) (left : ℕ) → line_of (tokens text) ≡ Err left → IsLine m → tokens text ≡ tokens (spelled (line_text m) ++ y) → ⊥
no_line_there text m y left refused i same = ok_not_err (line_of (tokens text)) (m, tokens y) left (ap line_of (same ∙ line_back m y i) ∙ line_reads.again m (tokens y) i) refused

-- no line before it is wrong
none_wrong : (g : Form) (n left number : ℕ) (file text : List ℕ) (h : Head) (ls : List Line) (s : State) → line_of (tokens text) ≡ Err left → (tokens text ≡ [] → ⊥) → Reaches g n file h ls text s → IsWrongAt g n file number → ⊥
none_wrong g n left number file text h ls s refused some r (verdict.values k y b off q) = values_not file n k h [] ls y text b r.begins off r.values
none_wrong g n left number file text h ls s refused some r (verdict.root k y b is off q) = root_not g n file k h [] ls y text s b off r
none_wrong g n left number file text h ls s refused some r (verdict.line k ms m y t b i none q) =
    let same = one_point g n file h k ls ms text (spelled (line_text m) ++ y) s t r b (refusal_stops s (tokens text) left refused) (line_stops t m y i none) in
    no_line_there text m y left refused i same.1
none_wrong g n left number file text h ls s refused some r (verdict.end k ms t b empty q) =
    let same = one_point g n file h k ls ms text [] s t r b (refusal_stops s (tokens text) left refused) (end_stops t) in
    some (same.1 ∙ no_tokens)

pub refused_first : (g : Form) (n left at : ℕ) (file text : List ℕ) (h : Head) (ls : List Line) (s : State) → line_of (tokens text) ≡ Err left → (tokens text ≡ [] → ⊥) → at + left ≡ length file → Reaches g n file h ls text s → IsRefusedFirst g n file at
refused_first g n left at file text h ls s refused some place r = record {
  refuses = (left, subst (λ z. IsProofRefusedAt z left) (sym (tokens_of (body file) h ls text r.begins)) (line_refused h ls (tokens text) left r.begins.is_text.0 r.begins.is_text.1 some refused), place);
  before = λ number wrong. none_wrong g n left number file text h ls s refused some r wrong;
}

pub line_not_read : (g : Form) (n : ℕ) (file text : List ℕ) (h : Head) (ls : List Line) (s : State) (r : Refusal) (x : ClauseFault) → RefusesProofLine text r → 0 < length text → IsPlaced (length file) r x → Reaches g n file h ls text s → IsFault g n file x
line_not_read g n file text h ls s (e.Syntax left) x refused some p r =
    subst (IsFault g n file) (sym p.1) (refused_first g n left p.0 file text h ls s (refusal_read IsLine line_text line_of line_reads (tokens text) left refused) (some_tokens text some) p.2 r)
line_not_read g n file text h ls s e.Memory x refused some p r = subst (IsFault g n file) (sym p) tt

-- ---- first lines that are refused

head_read : (text : List ℕ) (h : Head) (ls : List Line) (rest : List ℕ) (left : ℕ) → head_of (tokens text) ≡ Err left → BeginsWith text h ls rest → ⊥
head_read text h ls rest left refused b =
    ok_not_err (head_of (tokens text)) (h, lines_text ls ++ tokens rest) left (ap head_of (tokens_of text h ls rest b) ∙ head_reads.again h (lines_text ls ++ tokens rest) b.is_text.0) refused

none_wrong_there : (g : Form) (n left number : ℕ) (file : List ℕ) → head_of (tokens (body file)) ≡ Err left → IsWrongAt g n file number → ⊥
none_wrong_there g n left number file refused (verdict.values k y b off q) = head_read (body file) k [] y left refused b
none_wrong_there g n left number file refused (verdict.root k y b is off q) = head_read (body file) k [] y left refused b
none_wrong_there g n left number file refused (verdict.line k ms m y t b i none q) = head_read (body file) k ms (spelled (line_text m) ++ y) left refused b.begins
none_wrong_there g n left number file refused (verdict.end k ms t b empty q) = head_read (body file) k ms [] left refused b.begins

pub head_refused_first : (g : Form) (n left at : ℕ) (file : List ℕ) → head_of (tokens (body file)) ≡ Err left → at + left ≡ length file → IsRefusedFirst g n file at
head_refused_first g n left at file refused place = record {
  refuses = (left, head_refused (tokens (body file)) left refused, place);
  before = λ number wrong. none_wrong_there g n left number file refused wrong;
}

pub head_not_read : (g : Form) (n : ℕ) (file : List ℕ) (r : Refusal) (x : ClauseFault) → RefusesHead (body file) r → IsPlaced (length file) r x → IsFault g n file x
head_not_read g n file (e.Syntax left) x refused p =
    subst (IsFault g n file) (sym p.1) (head_refused_first g n left p.0 file (refusal_read IsHead head_text head_of head_reads (tokens (body file)) left refused) p.2)
head_not_read g n file e.Memory x refused p = subst (IsFault g n file) (sym p) tt

-- ---- the end of the lines

pub ends_proof : (g : Form) (n : ℕ) (file text : List ℕ) (h : Head) (ls : List Line) (s : State) → text ≡ [] → true ≡ ends_empty s.clauses → Reaches g n file h ls text s → HoldsClauseProof g n file h.values
ends_proof g n file text h ls s none empty r = record {
  head = h;
  lines = ls;
  is_text = r.begins.is_text;
  is = r.begins.parts ∙ ap (λ z. spelled (proof_text (h, ls)) ++ z) none ∙ append-nil (spelled (proof_text (h, ls)));
  values = refl;
  count = r.values;
  proves = record { last = s; runs = r.makes; ends = sym empty };
}

pub end_wrong : (g : Form) (n number : ℕ) (file text : List ℕ) (h : Head) (ls : List Line) (s : State) → text ≡ [] → false ≡ ends_empty s.clauses → number ≡ first_line + length ls → Reaches g n file h ls text s → IsWrongAt g n file number
end_wrong g n number file text h ls s none empty at r = verdict.end h ls s (subst (λ z. Reaches g n file h ls z s) none r) (sym empty) at

-- ---- the start

start_fault : (g k : Form) (n : ℕ) (file text : List ℕ) (h : Head) (vs : List ℤ) (old new : Funds) (fault : Fault) → vs ≡ h.values → HasPaid old h (preparation_price g h.prepared) → PaysPrice {A = Unit {0}} (start_price k vs) old new (Err fault)
    → (fault ≡ checker.Refused → start k h.values h.root ≡ None) → Starts g n file h text k → IsFault g n file (fault_at 5 fault)
start_fault g k n file text h vs old new checker.Refused same paid pays none t = verdict.root h text t.begins t.values (ap (λ z. start z h.values h.root) t.root ∙ none refl) refl
start_fault g k n file text h vs old new checker.Steps same paid pays none t = cost.root h text t.begins t.values (start_dear g k n file text h vs old same t paid pays) refl
start_fault g k n file text h vs old new (checker.Overflow p) same paid pays none t = range.root h text t.begins t.values refl
start_fault g k n file text h vs old new checker.Room same paid pays none t = range.root h text t.begins t.values refl
start_fault g k n file text h vs old new checker.Memory same paid pays none t = tt

-- the same of an answer of another type
pays_as : (A B : Type 0) (p : ℕ) (old new : Funds) (fault : Fault) → PaysPrice {A = A} p old new (Err fault) → PaysPrice {A = B} p old new (Err fault)
pays_as A B p old new checker.Refused h = h
pays_as A B p old new checker.Steps h = h
pays_as A B p old new (checker.Overflow q) h = h
pays_as A B p old new checker.Room h = h
pays_as A B p old new checker.Memory h = h

pub not_started : {A : Type 0} (view : A → State) (g k : Form) (n : ℕ) (file text : List ℕ) (h : Head) (vs : List ℤ) (old new : Funds) (fault : Fault) (x : ClauseFault) → vs ≡ h.values → Does view (start k vs h.root) (Err fault)
    → PaysPrice {A = A} (start_price k vs) old new (Err fault) → x ≡ fault_at 5 fault → Starts g n file h text k → HasPaid old h (preparation_price g h.prepared) → IsFault g n file x
not_started {A} view g k n file text h vs old new fault x same d pays e t paid =
    subst (IsFault g n file) (sym e) (start_fault g k n file text h vs old new fault same paid (pays_as A (Unit {0}) (start_price k vs) old new fault pays) (λ z. ap (λ us. start k us h.root) (sym same) ∙ d.refused (ap Err z)) t)

pub started : {A : Type 0} (view : A → State) (g k : Form) (n : ℕ) (file text : List ℕ) (h : Head) (vs : List ℤ) (old new : Funds) (s : A) → vs ≡ h.values → Does view (start k vs h.root) (Ok s) → new ≡ record old { spent = old.spent + start_price k vs }
    → Starts g n file h text k → HasPaid old h (preparation_price g h.prepared) → Reaches g n file h [] text (view s) × HasPaid new h (check_price g n h [])
started view g k n file text h vs old new s same d pays t paid = (
  record {
    begins = t.begins;
    values = t.values;
    makes = ap (λ z. found (start z h.values h.root) (λ x. Some x)) t.root ∙ ap (λ us. found (start k us h.root) (λ x. Some x)) (sym same) ∙ ap (λ o. found o (λ x. Some x)) (d.ok s refl);
  },
  start_paid g k n file text h vs old new same t paid pays,
)
