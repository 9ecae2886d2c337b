-- What is seen at once of a line `gives`, taken one token after another.
use Rattle.std.proofs.Common.{ℕ, ◌≡◌, ◌≢◌, ◌≤◌, ◌<◌, ◌^◌, ℤ, pos, Bool, true, false, cond, List, [], ◌∷◌, ◌++◌, Option, Some, None, Result, Ok, Err, refl, sym, ap, subst, ◌∙◌, arith}
use Rattle.std.specs.Prelude.{nat_lt}
use Rattle.std.specs.Result.{IfOk}
use Rattle.std.proofs.lemmas.Bool.Decides.{nat_tests}
use Rattle.proof_tokens.specs.declared.tokens.Token.{Token}
use Rattle.proof_tokens.specs.declared.tokens.Token.TheVariants as t
use Rattle.proof_tokens.specs.declared.reading.Refusal.{Refusal}
use Rattle.proof_tokens.specs.declared.reading.Refusal.TheVariants as e
use Rattle.proof_tokens.specs.Reading.{Cuts, RefusesNext}
use Rattle.proof_tokens.proofs.Cutting.{cut_append}
use Rattle.clause_set.specs.declared.literal.Literal.{Literal}
use Rattle.proof_constraint.specs.declared.draft.Draft.{Draft}
use Rattle.proof_constraint.specs.declared.draft.Divisor.{Divisor}
use Rattle.proof_constraint.specs.declared.place.Last.{Last}
use Rattle.proof_constraint.specs.declared.place.Last.TheVariants as w
use Rattle.proof_constraint.specs.Behind.{Behind}
use Rattle.proof_constraint.specs.Behind as b
use Rattle.proof_constraint.specs.State.{GivenState}
use Rattle.proof_constraint.specs.State as s
use Rattle.proof_constraint.specs.Move as m
use Rattle.proof_constraint.specs.Machine.{compared, counted, moves, opened, relation, signed, sum_of, true_then, with_pair}
use Rattle.proof_constraint.specs.Places.{behind_of, constant_of}
use Rattle.proof_constraint.specs.Steps.{LeadOn, ReachesState}
use Rattle.proof_constraint.proofs.Further.{is_above, lead_append, named_on}

-- tokens after tokens
pub reaches_more : (z y v : GivenState) (text mid rest : List ℕ) → ReachesState z y text mid → ReachesState y v mid rest → ReachesState z v text rest
reaches_more z y v text mid rest p q = record {
  tokens = p.tokens ++ q.tokens;
  leads = lead_append z y v p.tokens q.tokens p.leads q.leads;
  cut = cut_append p.tokens q.tokens text mid rest p.cut q.cut;
}

abbrev related_tokens : Bool → List Token
related_tokens bound = t.Blank ∷ cond bound t.AtLeast t.Equal ∷ t.Blank ∷ t.Number 0 ∷ []

abbrev with_literal : Draft → ℤ → Bool → GivenState
with_literal g k bound = s.Behind (b.Clause g.clauses (g.literals ++ compared bound (sum_of g k) ∷ []))

relation_is : (bound : Bool) (v : Option Divisor) (g : Draft) (k : ℤ) → v ≡ None → m.On (s.Behind (b.Relation g.clauses g.literals (sum_of g k) bound)) ≡ relation bound v g k
relation_is bound v g k e = sym (ap (λ u. relation bound u g k) e)

lead_related : (last : Behind) (g : Draft) (k : ℤ) (bound : Bool) → m.On (s.Blank last) ≡ moves (s.Behind last) t.Blank → relation bound g.divisor g k ≡ moves (s.Blank last) (cond bound t.AtLeast t.Equal) → g.divisor ≡ None
    → LeadOn (s.Behind last) (related_tokens bound) (with_literal g k bound)
unfolding moves
lead_related last g k true p q e = (s.Blank last, p, tt, (s.Behind (b.Relation g.clauses g.literals (sum_of g k) true), relation_is true g.divisor g k e ∙ q, tt, (s.Blank (b.Relation g.clauses g.literals (sum_of g k) true), refl, tt, (with_literal g k true, refl, omega arith, refl))))
lead_related last g k false p q e = (s.Blank last, p, tt, (s.Behind (b.Relation g.clauses g.literals (sum_of g k) false), relation_is false g.divisor g k e ∙ q, tt, (s.Blank (b.Relation g.clauses g.literals (sum_of g k) false), refl, tt, (with_literal g k false, refl, omega arith, refl))))

leads_related : (last : Last) (g : Draft) (k : ℤ) (bound : Bool) → constant_of last ≡ Some k → g.divisor ≡ None → LeadOn (s.Behind (behind_of last g)) (related_tokens bound) (with_literal g k bound)
unfolding moves
leads_related w.Sum g k true c e = let h : k ≡ pos 0 = cc in subst (λ i. LeadOn (s.Behind (b.Sum g)) (related_tokens true) (with_literal g i true)) (sym h) (lead_related (b.Sum g) g (pos 0) true refl refl e)
leads_related w.Sum g k false c e = let h : k ≡ pos 0 = cc in subst (λ i. LeadOn (s.Behind (b.Sum g)) (related_tokens false) (with_literal g i false)) (sym h) (lead_related (b.Sum g) g (pos 0) false refl refl e)
leads_related (w.Number minus n) g k true c e = let h : k ≡ signed minus n = cc in subst (λ i. LeadOn (s.Behind (b.Number g minus n)) (related_tokens true) (with_literal g i true)) (sym h) (lead_related (b.Number g minus n) g (signed minus n) true refl refl e)
leads_related (w.Number minus n) g k false c e = let h : k ≡ signed minus n = cc in subst (λ i. LeadOn (s.Behind (b.Number g minus n)) (related_tokens false) (with_literal g i false)) (sym h) (lead_related (b.Number g minus n) g (signed minus n) false refl refl e)
leads_related w.Start g k bound c e = absurd (cc)
leads_related (w.Sign minus) g k bound c e = absurd (cc)
leads_related (w.Relation bigger) g k bound c e = absurd (cc)
leads_related w.Clause g k bound c e = absurd (cc)
leads_related w.False g k bound c e = absurd (cc)

-- a relation with its 0
pub related_reaches : (last : Last) (g h : Draft) (k : ℤ) (bound : Bool) (text rest : List ℕ) → constant_of last ≡ Some k → g.divisor ≡ None → h.clauses ≡ g.clauses → h.literals ≡ g.literals ++ compared bound (sum_of g k) ∷ []
    → Cuts (related_tokens bound) text rest → ReachesState (s.Behind (behind_of last g)) (s.Behind (b.Clause h.clauses h.literals)) text rest
related_reaches last g h k bound text rest c e p q cut = record {
  tokens = related_tokens bound;
  leads = subst (λ v. LeadOn (s.Behind (behind_of last g)) (related_tokens bound) v) (sym (ap (λ d. s.Behind (b.Clause d h.literals)) p ∙ ap (λ l. s.Behind (b.Clause g.clauses l)) q)) (leads_related last g k bound c e);
  cut = cut;
}

-- a constant that ends a term
counted_is : (g : Draft) (minus : Bool) (n : ℕ) → 0 < n → m.On (s.Behind (b.Number g minus n)) ≡ counted g minus n
counted_is g minus n some = sym (ap (λ q. cond q (m.On (s.Behind (b.Number g minus n))) m.Bad) (is_some n some))
  where
    is_some : (n : ℕ) → 0 < n → nat_lt 0 n ≡ true
    is_some n some = grind (arith, nat_tests)

pub constant_reaches : (g : Draft) (minus : Bool) (n : ℕ) (text rest : List ℕ) → 0 < n → n < 2 ^ 127 → Cuts (t.Blank ∷ cond minus t.Minus t.Plus ∷ t.Blank ∷ t.Number n ∷ []) text rest
    → ReachesState (s.Behind (b.Sum g)) (s.Behind (b.Number g minus n)) text rest
unfolding moves
constant_reaches g true n text rest some small cut = record {
  tokens = t.Blank ∷ t.Minus ∷ t.Blank ∷ t.Number n ∷ [];
  leads = (s.Blank (b.Sum g), refl, tt, (s.Behind (b.Sign g true), refl, tt, (s.Blank (b.Sign g true), refl, tt, (s.Behind (b.Number g true n), counted_is g true n some, small, refl))));
  cut = cut;
}
constant_reaches g false n text rest some small cut = record {
  tokens = t.Blank ∷ t.Plus ∷ t.Blank ∷ t.Number n ∷ [];
  leads = (s.Blank (b.Sum g), refl, tt, (s.Behind (b.Sign g false), refl, tt, (s.Blank (b.Sign g false), refl, tt, (s.Behind (b.Number g false n), counted_is g false n some, small, refl))));
  cut = cut;
}

-- `|` after a clause
pub or_reaches : (d : List (List Literal)) (c : List Literal) (h : Draft) (text rest : List ℕ) → h ≡ opened (d ++ c ∷ []) [] None → Cuts (t.Blank ∷ t.Or ∷ t.Blank ∷ []) text rest
    → ReachesState (s.Behind (b.Clause d c)) (s.Blank (b.Start h)) text rest
unfolding moves
or_reaches d c h text rest e cut = record {
  tokens = t.Blank ∷ t.Or ∷ t.Blank ∷ [];
  leads = subst (λ g. LeadOn (s.Behind (b.Clause d c)) (t.Blank ∷ t.Or ∷ t.Blank ∷ []) (s.Blank (b.Start g))) (sym e)
      (s.Blank (b.Clause d c), refl, tt, (s.Behind (b.Start (opened (d ++ c ∷ []) [] None)), refl, tt, (s.Blank (b.Start (opened (d ++ c ∷ []) [] None)), refl, tt, refl)));
  cut = cut;
}

-- `&` after a literal
pub and_reaches : (d : List (List Literal)) (c : List Literal) (h : Draft) (text rest : List ℕ) → c ≢ [] → h ≡ opened d c None → Cuts (t.Blank ∷ t.And ∷ t.Blank ∷ []) text rest
    → ReachesState (s.Behind (b.Clause d c)) (s.Blank (b.Start h)) text rest
unfolding moves
and_reaches d [] h text rest some e cut = absurd (some refl)
and_reaches d (x ∷ c) h text rest some e cut = record {
  tokens = t.Blank ∷ t.And ∷ t.Blank ∷ [];
  leads = subst (λ g. LeadOn (s.Behind (b.Clause d (x ∷ c))) (t.Blank ∷ t.And ∷ t.Blank ∷ []) (s.Blank (b.Start g))) (sym e)
      (s.Blank (b.Clause d (x ∷ c)), refl, tt, (s.Behind (b.Start (opened d (x ∷ c) None)), refl, tt, (s.Blank (b.Start (opened d (x ∷ c) None)), refl, tt, refl)));
  cut = cut;
}

-- the name that begins a term
pub first_reaches : (g h : Draft) (minus : Bool) (x : ℕ) (text rest : List ℕ) → x < 2 ^ 32 → g.least ≤ x → h ≡ with_pair g minus 1 x → Cuts (cond minus (t.Minus ∷ t.Name x ∷ []) (t.Name x ∷ [])) text rest
    → ReachesState (s.Blank (b.Start g)) (s.Behind (b.Sum h)) text rest
unfolding moves
first_reaches g h true x text rest small up e cut = record {
  tokens = t.Minus ∷ t.Name x ∷ [];
  leads = subst (λ d. LeadOn (s.Blank (b.Start g)) (t.Minus ∷ t.Name x ∷ []) (s.Behind (b.Sum d))) (sym e)
      (s.Minus g, refl, tt, (s.Behind (b.Sum (with_pair g true 1 x)), named_on g true x (is_above g.least x up), small, refl));
  cut = cut;
}
first_reaches g h false x text rest small up e cut = record {
  tokens = t.Name x ∷ [];
  leads = subst (λ d. LeadOn (s.Blank (b.Start g)) (t.Name x ∷ []) (s.Behind (b.Sum d))) (sym e)
      (s.Behind (b.Sum (with_pair g false 1 x)), named_on g false x (is_above g.least x up), small, refl);
  cut = cut;
}

-- the word `true`
true_is : (g : Draft) → g.literals ≡ [] → g.divisor ≡ None → m.On (s.Behind (b.Clause g.clauses g.literals)) ≡ true_then g.clauses g.literals g.divisor
true_is g p q = ap (λ l. m.On (s.Behind (b.Clause g.clauses l))) p ∙ sym (ap (λ l. true_then g.clauses l g.divisor) p ∙ ap (λ v. true_then g.clauses [] v) q)

pub true_reaches : (g : Draft) (text rest : List ℕ) → g.literals ≡ [] → g.divisor ≡ None → Cuts (t.True ∷ []) text rest → ReachesState (s.Blank (b.Start g)) (s.Behind (b.Clause g.clauses g.literals)) text rest
unfolding moves
true_reaches g text rest p q cut = record { tokens = t.True ∷ []; leads = (s.Behind (b.Clause g.clauses g.literals), true_is g p q, tt, refl); cut = cut }

-- the blank before a literal
pub blank_reaches : (g : Draft) (text rest : List ℕ) → Cuts (t.Blank ∷ []) text rest → ReachesState (s.Behind (b.Start g)) (s.Blank (b.Start g)) text rest
unfolding moves
blank_reaches g text rest cut = record { tokens = t.Blank ∷ []; leads = (s.Blank (b.Start g), refl, tt, refl); cut = cut }

-- the line does not end there
pub no_end : (text : List ℕ) (refusal : Refusal) → RefusesNext (λ x. x ≡ t.LineFeed) text refusal → (rest : List ℕ) → Cuts (t.LineFeed ∷ []) text rest → ⊥
no_end text (e.Syntax left) h rest cut = h.1 t.LineFeed rest cut refl
no_end text e.Memory h rest cut = absurd h

-- the bytes of `>=` between two blanks
pub bound_cut : (text rest : List ℕ) → text ≡ 32 ∷ 62 ∷ 61 ∷ 32 ∷ rest → Cuts (t.Blank ∷ t.AtLeast ∷ t.Blank ∷ []) text rest
bound_cut text rest e = subst (λ z. Cuts (t.Blank ∷ t.AtLeast ∷ t.Blank ∷ []) z rest) (sym e) (1, refl, (2, refl, (1, refl, refl)))

-- a `-` before a token
pub minus_cut : (x : Token) (text behind rest : List ℕ) → text ≡ 45 ∷ behind → Cuts (x ∷ []) behind rest → Cuts (t.Minus ∷ x ∷ []) text rest
minus_cut x text behind rest e cut = subst (λ z. Cuts (t.Minus ∷ x ∷ []) z rest) (sym e) (1, refl, cut)

-- what is said of a value says another thing of it
pub ok_more : {A E : Type 0} (P Q : A → Type 0) (r : Result A E) → ((x : A) → P x → Q x) → IfOk r P → IfOk r Q
ok_more P Q (Ok x) f h = f x h
ok_more P Q (Err e) f h = h
