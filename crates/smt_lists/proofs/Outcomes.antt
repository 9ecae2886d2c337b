-- What the outcome of the machine means: the script, or the first refusal.
use Rattle.std.proofs.Common.{ℕ, zero, suc, ◌≡◌, ◌≤◌, ◌<◌, ◌+◌, List, [], ◌∷◌, ◌++◌, length, refl, sym, ap, subst, ◌∙◌, arith, append_assoc, append-nil, true, false, Result, Err, if◌then◌else◌, Bool}
use Rattle.smt_tokens.specs.declared.terminals.Terminal.{Terminal}
use Rattle.smt_tokens.specs.declared.terminals.Terminal.TheVariants as t
use Rattle.smt_tokens.specs.declared.terminals.Lexeme.{Lexeme}
use Rattle.smt_lists.specs.declared.tree.Sexp.{Sexp}
use Rattle.smt_lists.specs.declared.tree.Sexp.TheVariants as s
use Rattle.smt_lists.specs.declared.refusal.ReadRefusal.{ReadRefusal}
use Rattle.smt_lists.specs.declared.refusal.ReadRefusal.TheVariants as refusal
use Rattle.smt_lists.specs.declared.reading.Outer.{Outer}
use Rattle.smt_lists.specs.Atoms.{is_atom, atom_of}
use Rattle.smt_lists.specs.Grammar.{IsScript, nothing}
use Rattle.smt_lists.specs.First.{BeginsScript, is_unfinished, place}
use Rattle.smt_lists.specs.Machine.{run, MeansLists}
use Rattle.smt_lists.proofs.Steps.{run_open, run_deep, run_close, run_surplus, run_bad, run_unfinished, run_atom, run_alone, run_end, run_short, Class, opens, closes, an_atom, no_token, no_end, class_of}
use Rattle.smt_lists.proofs.Complete.{script_read}
use Rattle.smt_lists.proofs.Reached.{Reached, atom_reached, open_reached, close_reached, begun, wider_reached}

-- these tokens lead to this state, with n levels left, whatever number of levels from 200 on is allowed
record At (b : List ℕ) (end n : ℕ) (os : List Outer) (es : List Sexp) (front : List Lexeme) : Type 0 where
  reached : Reached b n os es front
  levels : 200 ≡ length os + n
  comes : (most : ℕ) → 200 ≤ most → (rest : List Lexeme) → run b most end (front ++ rest) [] [] ≡ run b most end rest os es

-- the tokens before come to the next state
come_on : (b : List ℕ) (most end : ℕ) (front rest : List Lexeme) (x : Lexeme) (whole : Result (List Sexp) ReadRefusal) → run b most end (front ++ x ∷ rest) [] [] ≡ whole
    → run b most end ((front ++ x ∷ []) ++ rest) [] [] ≡ whole
come_on b most end front rest x whole e = ap (λ z. run b most end z [] []) (append_assoc front (x ∷ []) rest) ∙ e

-- no script goes on with a token that is refused in this state whatever comes after it
none_on : (b : List ℕ) (end n : ℕ) (os : List Outer) (es : List Sexp) (front : List Lexeme) (x : Lexeme) (e : ReadRefusal) → At b end n os es front
    → (m most : ℕ) → m ≤ most → 200 ≤ most → ((rest : List Lexeme) → run b most end (x ∷ rest) os es ≡ Err e) → BeginsScript b m (front ++ x ∷ []) → ⊥
none_on b end n os es front x e a m most h k stops begins =
    let read = script_read b most end m begins.lists ((front ++ x ∷ []) ++ begins.more) begins.is_script h in
    let came = come_on b most end front begins.more x (Err e) (a.comes most k (x ∷ begins.more) ∙ stops begins.more) in
    absurd (cc)

-- the next token is refused in this state
refused_on : (b : List ℕ) (end n : ℕ) (os : List Outer) (es : List Sexp) (front tokens : List Lexeme) (x : Lexeme) (at : ℕ) → At b end n os es front
    → place end (x ∷ tokens) ≡ at → ((most : ℕ) (rest : List Lexeme) → run b most end (x ∷ rest) os es ≡ Err (refusal.Syntax at))
    → MeansLists b end (front ++ x ∷ tokens) (run b 200 end (x ∷ tokens) os es)
refused_on b end n os es front tokens x at a here stops = subst (MeansLists b end (front ++ x ∷ tokens)) (sym (stops 200 tokens)) (record {
  front = front;
  back = x ∷ tokens;
  parts = refl;
  here = here;
  begins = begun b n 200 os es front a.levels a.reached;
  none = λ y rest is m begins.
      let same : y ≡ x = cc in
      none_on b end n os es front x (refusal.Syntax at) a m (200 + m) (omega arith) (omega arith) (stops (200 + m)) (subst (λ z. BeginsScript b m (front ++ z ∷ [])) same begins);
  short = λ is m fs p. absurd (cc);
})

-- one list too many is opened
deep_on : (b : List ℕ) (end : ℕ) (os : List Outer) (es : List Sexp) (front tokens : List Lexeme) (x : Lexeme) → At b end zero os es front → x.terminal ≡ t.Open
    → MeansLists b end (front ++ x ∷ tokens) (run b 200 end (x ∷ tokens) os es)
deep_on b end os es front tokens x a o =
    let full : 200 ≤ length os = omega (arith, a.levels) in
    let one_more : 201 ≡ length {A = Outer} (record { at = x.at; before = es } ∷ os) + 0 = omega (arith, a.levels) in
    subst (MeansLists b end (front ++ x ∷ tokens)) (sym (run_deep b 200 end x tokens os es o full)) (record {
      front = front;
      x = x;
      back = tokens;
      parts = refl;
      here = refl;
      opens = o;
      begins = begun b 0 200 os es front a.levels a.reached;
      fits = begun b 0 201 (record { at = x.at; before = es } ∷ os) [] (front ++ x ∷ []) one_more (open_reached b 0 os es front x (wider_reached b 0 os es front a.reached) o);
      none = none_on b end 0 os es front x (refusal.Deep x.at) a 200 200 (omega arith) (omega arith) (λ rest. run_deep b 200 end x rest os es o full);
    })

-- the text ends in a list
short_on : (b : List ℕ) (end n : ℕ) (o : Outer) (os : List Outer) (es : List Sexp) (front : List Lexeme) → At b end n (o ∷ os) es front
    → MeansLists b end (front ++ []) (run b 200 end [] (o ∷ os) es)
short_on b end n o os es front a = subst (MeansLists b end (front ++ [])) (sym (run_short b 200 end o os es)) (record {
  front = front;
  back = [];
  parts = refl;
  here = refl;
  begins = begun b n 200 (o ∷ os) es front a.levels a.reached;
  none = λ y rest is m begins. absurd (cc);
  short = λ is m fs p.
      let read = script_read b (200 + m) end m fs front p (omega arith) in
      let came = ap (λ z. run b (200 + m) end z [] []) (sym (append-nil front)) ∙ a.comes (200 + m) (omega arith) [] ∙ run_short b (200 + m) end o os es in
      absurd (cc);
})

no_end_is : (terminal : Terminal) → is_atom terminal ≡ true → is_unfinished terminal ≡ false
no_end_is t.Open e = refl
no_end_is t.Close e = refl
no_end_is t.Bad e = refl
no_end_is t.Unfinished e = cc
no_end_is t.Numeral e = refl
no_end_is t.Decimal e = refl
no_end_is t.Hash e = refl
no_end_is t.StringLiteral e = refl
no_end_is t.Keyword e = refl
no_end_is t.Symbol e = refl
no_end_is t.Quoted e = refl

-- the place of a token in which the text does not end
here_at : (end : ℕ) (x : Lexeme) (tokens : List Lexeme) (u : Bool) → is_unfinished x.terminal ≡ u → u ≡ false → place end (x ∷ tokens) ≡ x.at
here_at end x tokens u e f = ap (λ z. if z then end else x.at) (e ∙ f)

here_end : (end : ℕ) (x : Lexeme) (tokens : List Lexeme) → x.terminal ≡ t.Unfinished → place end (x ∷ tokens) ≡ end
here_end end x tokens e = ap (λ z. if is_unfinished z then end else x.at) e

-- what comes of the tokens after the next one
abbrev Goes : List ℕ → ℕ → List Lexeme → Type 0
Goes b end tokens = (front : List Lexeme) (n : ℕ) (os : List Outer) (es : List Sexp) → At b end n os es front → MeansLists b end (front ++ tokens) (run b 200 end tokens os es)

-- the next token leads on
leads : (b : List ℕ) (end n : ℕ) (os : List Outer) (es : List Sexp) (front tokens : List Lexeme) (x : Lexeme) (old : Result (List Sexp) ReadRefusal) → Goes b end tokens → At b end n os es (front ++ x ∷ [])
    → old ≡ run b 200 end tokens os es → MeansLists b end (front ++ x ∷ tokens) old
leads b end n os es front tokens x old go a e =
    subst (λ z. MeansLists b end z old) (append_assoc front (x ∷ []) tokens) (subst (MeansLists b end ((front ++ x ∷ []) ++ tokens)) (sym e) (go (front ++ x ∷ []) n os es a))

open_on : (b : List ℕ) (end n : ℕ) (os : List Outer) (es : List Sexp) (front tokens : List Lexeme) (x : Lexeme) → Goes b end tokens → At b end n os es front → x.terminal ≡ t.Open
    → MeansLists b end (front ++ x ∷ tokens) (run b 200 end (x ∷ tokens) os es)
open_on b end zero os es front tokens x go a o = deep_on b end os es front tokens x a o
open_on b end (suc n) os es front tokens x go a o =
    let new : Outer = record { at = x.at; before = es } in
    let room : length os < 200 = omega (arith, a.levels) in
    leads b end n (new ∷ os) [] front tokens x (run b 200 end (x ∷ tokens) os es) go (record {
      reached = open_reached b n os es front x a.reached o;
      levels = omega (arith, a.levels);
      comes = λ most h rest. come_on b most end front rest x _ (a.comes most h (x ∷ rest) ∙ run_open b most end x rest os es o (omega (arith, room)));
    }) (run_open b 200 end x tokens os es o room)

close_on : (b : List ℕ) (end n : ℕ) (os : List Outer) (es : List Sexp) (front tokens : List Lexeme) (x : Lexeme) → Goes b end tokens → At b end n os es front → x.terminal ≡ t.Close
    → MeansLists b end (front ++ x ∷ tokens) (run b 200 end (x ∷ tokens) os es)
close_on b end n [] es front tokens x go a c =
    refused_on b end n [] es front tokens x x.at a (here_at end x tokens false (ap is_unfinished c) refl) (λ most rest. run_surplus b most end x rest es c)
close_on b end n (o ∷ os) es front tokens x go a c =
    leads b end (suc n) os (o.before ++ s.List o.at es ∷ []) front tokens x (run b 200 end (x ∷ tokens) (o ∷ os) es) go (record {
      reached = close_reached b n o os es front x a.reached c;
      levels = omega (arith, a.levels);
      comes = λ most h rest. come_on b most end front rest x _ (a.comes most h (x ∷ rest) ∙ run_close b most end x rest o os es c);
    }) (run_close b 200 end x tokens o os es c)

atom_on : (b : List ℕ) (end n : ℕ) (os : List Outer) (es : List Sexp) (front tokens : List Lexeme) (x : Lexeme) → Goes b end tokens → At b end n os es front → is_atom x.terminal ≡ true
    → MeansLists b end (front ++ x ∷ tokens) (run b 200 end (x ∷ tokens) os es)
atom_on b end n [] es front tokens x go a c =
    refused_on b end n [] es front tokens x x.at a (here_at end x tokens (is_unfinished x.terminal) refl (no_end_is x.terminal c)) (λ most rest. run_alone b most end x rest es c)
atom_on b end n (o ∷ os) es front tokens x go a c =
    leads b end n (o ∷ os) (es ++ s.Atom (atom_of b x) ∷ []) front tokens x (run b 200 end (x ∷ tokens) (o ∷ os) es) go (record {
      reached = atom_reached b n o os es front x a.reached c;
      levels = a.levels;
      comes = λ most h rest. come_on b most end front rest x _ (a.comes most h (x ∷ rest) ∙ run_atom b most end x rest o os es c);
    }) (run_atom b 200 end x tokens o os es c)

token_on : (b : List ℕ) (end n : ℕ) (os : List Outer) (es : List Sexp) (front tokens : List Lexeme) (x : Lexeme) → Goes b end tokens → At b end n os es front → Class x.terminal
    → MeansLists b end (front ++ x ∷ tokens) (run b 200 end (x ∷ tokens) os es)
token_on b end n os es front tokens x go a (opens c) = open_on b end n os es front tokens x go a c
token_on b end n os es front tokens x go a (closes c) = close_on b end n os es front tokens x go a c
token_on b end n os es front tokens x go a (an_atom c) = atom_on b end n os es front tokens x go a c
token_on b end n os es front tokens x go a (no_token c) =
    refused_on b end n os es front tokens x x.at a (here_at end x tokens false (ap is_unfinished c) refl) (λ most rest. run_bad b most end x rest os es c)
token_on b end n os es front tokens x go a (no_end c) =
    refused_on b end n os es front tokens x end a (here_end end x tokens c) (λ most rest. run_unfinished b most end x rest os es c)

end_on : (b : List ℕ) (end n : ℕ) (os : List Outer) (es : List Sexp) (front : List Lexeme) → At b end n os es front → MeansLists b end (front ++ []) (run b 200 end [] os es)
end_on b end n [] es front a =
    let same : n ≡ 200 = omega (arith, a.levels) in
    subst (MeansLists b end (front ++ [])) (sym (run_end b 200 end es)) (subst (λ z. IsScript b z es (front ++ [])) same (subst (λ z. IsScript b n es z) (sym (append-nil front)) a.reached))
end_on b end n (o ∷ os) es front a = short_on b end n o os es front a

follows : (b : List ℕ) (end : ℕ) (tokens : List Lexeme) → Goes b end tokens
follows b end [] front n os es a = end_on b end n os es front a
follows b end (x ∷ tokens) front n os es a = token_on b end n os es front tokens x (follows b end tokens) a (class_of x.terminal)

-- the outcome of all tokens
pub outcome : (b : List ℕ) (end : ℕ) (tokens : List Lexeme) → MeansLists b end tokens (run b 200 end tokens [] [])
outcome b end tokens = follows b end tokens [] 200 [] [] (record {
  reached = record { said = nothing refl refl; lists = tt };
  levels = refl;
  comes = λ most h rest. refl;
})
