-- The lines of a text lead to one point at which they cannot go on.
use Rattle.std.proofs.Common.{ℕ, ◌≡◌, List, [], ◌∷◌, ◌++◌, Option, Some, None, refl, sym, ap, ◌∙◌, append_assoc, append-nil}
use Rattle.std.specs.List.{AllByRecursion}
use Rattle.formula.specs.Form.{Form}
use Rattle.proof_file.specs.Body.{body}
use Rattle.clause_proof.specs.declared.line.Line.{Line}
use Rattle.clause_proof.specs.Clauses.{State}
use Rattle.clause_proof.specs.Lines.{after, found}
use Rattle.clause_proof.specs.Proofs.{run}
use Rattle.clause_text.specs.declared.head.Head.{Head}
use Rattle.clause_text.specs.Files.{lines_text, proof_text}
use Rattle.clause_text.specs.Head.{head_of, head_text, IsHead}
use Rattle.clause_text.specs.Lines.{IsLine, line_of, line_text}
use Rattle.clause_text.proofs.ExactHead.{head_back, head_reads}
use Rattle.clause_text.proofs.ExactLines.{line_back, line_reads}
use Rattle.clause_words.specs.Reading.{Token, Read}
use Rattle.clause_words.specs.Tokens.{spelled, tokens}
use Rattle.clause_words.proofs.Exact.{Reads}
use Rattle.clause_words.proofs.Lists.{done_is}
use Rattle.clause_words.proofs.Splitting.{spelled_is}
use Rattle.clause_file.specs.Courses.{begun, BeginsWith, Reaches}

-- ---- bytes and tokens

pub spelled_append : (xs ys : List Token) → spelled (xs ++ ys) ≡ spelled xs ++ spelled ys
spelled_append [] ys = refl
spelled_append (x ∷ xs) ys = ap (λ z. x ++ z) (spelled_append xs ys) ∙ sym (append_assoc x (spelled xs) (spelled ys))

lines_back : (ls : List Line) (rest : List ℕ) → AllByRecursion IsLine ls → tokens (spelled (lines_text ls) ++ rest) ≡ lines_text ls ++ tokens rest
lines_back [] rest i = refl
lines_back (l ∷ ls) rest i =
    ap (λ z. tokens (z ++ rest)) (spelled_append (line_text l) (lines_text ls)) ∙ ap tokens (append_assoc (spelled (line_text l)) (spelled (lines_text ls)) rest)
    ∙ line_back l (spelled (lines_text ls) ++ rest) i.0 ∙ ap (λ z. line_text l ++ z) (lines_back ls rest i.1) ∙ sym (append_assoc (line_text l) (lines_text ls) (tokens rest))

pub tokens_of : (text : List ℕ) (h : Head) (ls : List Line) (rest : List ℕ) → BeginsWith text h ls rest → tokens text ≡ head_text h ++ (lines_text ls ++ tokens rest)
tokens_of text h ls rest b =
    ap tokens (b.parts ∙ ap (λ z. z ++ rest) (spelled_append (head_text h) (lines_text ls)) ∙ append_assoc (spelled (head_text h)) (spelled (lines_text ls)) rest)
    ∙ head_back h b.is_text.0 (spelled (lines_text ls) ++ rest) ∙ ap (λ z. head_text h ++ z) (lines_back ls rest b.is_text.1)

-- a line after the others
lines_more : (ls : List Line) (l : Line) → lines_text (ls ++ l ∷ []) ≡ lines_text ls ++ line_text l
lines_more [] l = append-nil (line_text l)
lines_more (k ∷ ls) l = ap (λ z. line_text k ++ z) (lines_more ls l) ∙ sym (append_assoc (line_text k) (lines_text ls) (line_text l))

are_more : (ls : List Line) (l : Line) → AllByRecursion IsLine ls → IsLine l → AllByRecursion IsLine (ls ++ l ∷ [])
are_more [] l i j = (j, tt)
are_more (k ∷ ls) l i j = (i.0, are_more ls l i.1 j)

begins_more : (text : List ℕ) (h : Head) (ls : List Line) (l : Line) (rest : List ℕ) → IsLine l → BeginsWith text h ls (spelled (line_text l) ++ rest) → BeginsWith text h (ls ++ l ∷ []) rest
begins_more text h ls l rest i b = record {
  is_text = (b.is_text.0, are_more ls l b.is_text.1 i);
  parts =
      b.parts ∙ sym (append_assoc (spelled (proof_text (h, ls))) (spelled (line_text l)) rest)
      ∙ ap (λ z. z ++ rest) (sym (spelled_append (proof_text (h, ls)) (line_text l)) ∙ ap spelled (append_assoc (head_text h) (lines_text ls) (line_text l) ∙ ap (λ z. head_text h ++ z) (sym (lines_more ls l))));
}

-- ---- one value

same_value : {V : Type 0} (P : V → Type 0) (text : V → List Token) (read : List Token → Read V) → Reads P text read → (u v : V) (x y : List Token) → P u → P v → text u ++ x ≡ text v ++ y → (u ≡ v) × (x ≡ y)
same_value P text read r u v x y i j e = done_is u v x y (sym (r.again u x i) ∙ ap read e ∙ r.again v y j)

pub same_head : (text : List ℕ) (h k : Head) (ls ms : List Line) (x y : List ℕ) → BeginsWith text h ls x → BeginsWith text k ms y → (h ≡ k) × (lines_text ls ++ tokens x ≡ lines_text ms ++ tokens y)
same_head text h k ls ms x y a b =
    same_value IsHead head_text head_of head_reads h k (lines_text ls ++ tokens x) (lines_text ms ++ tokens y) a.is_text.0 b.is_text.0 (sym (tokens_of text h ls x a) ∙ tokens_of text k ms y b)

pub same_line : (l m : Line) (x y : List Token) → IsLine l → IsLine m → line_text l ++ x ≡ line_text m ++ y → l ≡ m
same_line l m x y i j e = (same_value IsLine line_text line_of line_reads l m x y i j e).0

-- the tokens after first lines and after a line are those of the bytes that spell them
pub head_alone : (text : List ℕ) (h : Head) (ts : List Token) → IsHead h → tokens text ≡ head_text h ++ ts → BeginsWith text h [] (spelled ts)
head_alone text h ts i e = record {
  is_text = (i, tt);
  parts = sym (spelled_is text) ∙ ap spelled e ∙ spelled_append (head_text h) ts ∙ ap (λ z. spelled z ++ spelled ts) (sym (append-nil (head_text h)));
}

pub same_rest : (text : List ℕ) (l : Line) (ts : List Token) → IsLine l → tokens text ≡ line_text l ++ ts → tokens (spelled ts) ≡ ts
same_rest text l ts i e =
    (same_value IsLine line_text line_of line_reads l l (tokens (spelled ts)) ts i i
    (sym (line_back l (spelled ts) i) ∙ ap tokens (sym (spelled_append (line_text l) ts) ∙ ap spelled (sym e) ∙ spelled_is text) ∙ e)).1

-- ---- states

some_is : {A : Type 0} (x y : A) → Some x ≡ Some y → x ≡ y
some_is x y e = cc

not_none : {A : Type 0} (o : Option A) (x : A) → o ≡ None → o ≡ Some x → ⊥
not_none (Some y) x e f = cc
not_none None x e f = cc

pub found_some : {A B : Type 0} (o : Option A) (f : A → Option B) (z : B) → found o f ≡ Some z → (y : A) × (o ≡ Some y) × (f y ≡ Some z)
found_some (Some y) f z e = (y, refl, e)
found_some None f z e = absurd cc

run_more : (a s t : State) (ls : List Line) (l : Line) → run a ls ≡ Some s → after s l ≡ Some t → run a (ls ++ l ∷ []) ≡ Some t
run_more a s t [] l e f = ap (λ o. found o (λ b. run b [])) (ap (λ z. after z l) (some_is a s e) ∙ f)
run_more a s t (k ∷ ls) l e f =
    let y = found_some (after a k) (λ b. run b ls) s e in
    ap (λ o. found o (λ b. run b (ls ++ l ∷ []))) y.1 ∙ run_more y.0 s t ls l y.2 f

-- no line stands there that would go on from the state
abbrev pub Stops : State → List Token → Type 0
Stops s ts = (l : Line) (more : List Token) → IsLine l → ts ≡ line_text l ++ more → after s l ≡ None

stuck : (a s t : State) (m : Line) (ms : List Line) (x y : List Token) → IsLine m → a ≡ s → Stops s x → x ≡ lines_text (m ∷ ms) ++ y → run a (m ∷ ms) ≡ Some t → ⊥
stuck a s t m ms x y i e stops f q =
    let r = found_some (after a m) (λ b. run b ms) t q in
    not_none (after a m) r.0 (ap (λ z. after z m) e ∙ stops m (lines_text ms ++ y) i (f ∙ append_assoc (line_text m) (lines_text ms) y)) r.1

abbrev SamePoint : List Line → List Line → List Token → List Token → State → State → Type 0
SamePoint ls ms x y s t = (ls ≡ ms) × (x ≡ y) × (s ≡ t)

same_point : (a s t : State) (ls ms : List Line) (x y : List Token) → AllByRecursion IsLine ls → AllByRecursion IsLine ms → run a ls ≡ Some s → run a ms ≡ Some t → lines_text ls ++ x ≡ lines_text ms ++ y
    → Stops s x → Stops t y → SamePoint ls ms x y s t
same_point a s t [] [] x y i j p q e f g = (refl, e, some_is s t (sym p ∙ q))
same_point a s t [] (m ∷ ms) x y i j p q e f g = absurd (stuck a s t m ms x y j.0 (some_is a s p) f e q)
same_point a s t (l ∷ ls) [] x y i j p q e f g = absurd (stuck a t s l ls y x i.0 (some_is a t q) g (sym e) p)
same_point a s t (l ∷ ls) (m ∷ ms) x y i j p q e f g =
    let one = same_value IsLine line_text line_of line_reads l m (lines_text ls ++ x) (lines_text ms ++ y) i.0 j.0 (sym (append_assoc (line_text l) (lines_text ls) x) ∙ e ∙ append_assoc (line_text m) (lines_text ms) y) in
    let b = found_some (after a l) (λ b. run b ls) s p in
    let then_m : run b.0 ms ≡ Some t = sym (ap (λ o. found o (λ b. run b ms)) (sym (ap (after a) one.0) ∙ b.1)) ∙ q in
    let rest = same_point b.0 s t ls ms x y i.1 j.1 b.2 then_m one.1 f g in
    (ap (λ z. z ∷ ls) one.0 ∙ ap (λ z. m ∷ z) rest.0, rest.1, rest.2)

-- two points of one file at which the lines cannot go on are one
pub one_point : (f : Form) (n : ℕ) (file : List ℕ) (h k : Head) (ls ms : List Line) (x y : List ℕ) (s t : State) → Reaches f n file h ls x s → Reaches f n file k ms y t → Stops s (tokens x) → Stops t (tokens y)
    → SamePoint ls ms (tokens x) (tokens y) s t
one_point f n file h k ls ms x y s t a b stops ends =
    let one = same_head (body file) h k ls ms x y a.begins b.begins in
    let p = found_some (begun f n h) (λ z. run z ls) s a.makes in
    let q : run p.0 ms ≡ Some t = sym (ap (λ o. found o (λ z. run z ms)) (ap (begun f n) (sym one.0) ∙ p.1)) ∙ b.makes in
    same_point p.0 s t ls ms (tokens x) (tokens y) a.begins.is_text.1 b.begins.is_text.1 p.2 q one.1 stops ends

-- a line that is made leads on
pub reach_more : (f : Form) (n : ℕ) (file : List ℕ) (h : Head) (ls : List Line) (l : Line) (rest : List ℕ) (s t : State) → Reaches f n file h ls (spelled (line_text l) ++ rest) s → IsLine l → after s l ≡ Some t
    → Reaches f n file h (ls ++ l ∷ []) rest t
reach_more f n file h ls l rest s t a i e =
    let p = found_some (begun f n h) (λ z. run z ls) s a.makes in
    record {
      begins = begins_more (body file) h ls l rest i a.begins;
      values = a.values;
      makes = ap (λ o. found o (λ z. run z (ls ++ l ∷ []))) p.1 ∙ run_more p.0 s t ls l p.2 e;
    }
