-- What each token does in a state of the code, whose last open list is the innermost one.
use Rattle.std.proofs.Common.{ℕ, ◌≡◌, ◌≤◌, ◌<◌, List, [], ◌∷◌, ◌++◌, length, reverse, refl, sym, ap, ◌∙◌, Ok, Err, true, arith}
use Rattle.std.proofs.lemmas.List.{length-reverse, reverse-append}
use Rattle.smt_tokens.specs.declared.terminals.Terminal.TheVariants as t
use Rattle.smt_tokens.specs.declared.terminals.Lexeme.{Lexeme}
use Rattle.smt_lists.specs.declared.tree.Sexp.{Sexp}
use Rattle.smt_lists.specs.declared.tree.Sexp.TheVariants as s
use Rattle.smt_lists.specs.declared.refusal.ReadRefusal.TheVariants as refusal
use Rattle.smt_lists.specs.declared.reading.Outer.{Outer}
use Rattle.smt_lists.specs.declared.reading.State.{State}
use Rattle.smt_lists.specs.Atoms.{is_atom, atom_of}
use Rattle.smt_lists.specs.Machine.{run, run_in, LeadsLists, StopsLists}
use Rattle.smt_lists.proofs.Steps.{run_open, run_deep, run_close, run_surplus, run_bad, run_unfinished, run_atom, run_alone, run_end, run_short}

-- the last list is the first from after
last_first : (os : List Outer) (o : Outer) → reverse (os ++ o ∷ []) ≡ o ∷ reverse os
last_first os o = reverse-append os (o ∷ [])

pub open_leads : (b : List ℕ) (end at : ℕ) (x : Lexeme) (old new : State) → x.terminal ≡ t.Open → x.at ≡ at → length old.outer < 200
    → new.outer ≡ old.outer ++ record { at = at; before = old.members } ∷ [] → new.members ≡ [] → LeadsLists b end x old new
open_leads b end at x old new o here room outer members = record {
  run = λ tokens.
      let fits : length (reverse old.outer) < 200 = rw length-reverse room in
      run_open b 200 end x tokens (reverse old.outer) old.members o fits
      ∙ ap (λ z. run b 200 end tokens (record { at = z; before = old.members } ∷ reverse old.outer) []) here
      ∙ ap (λ z. run b 200 end tokens z []) (sym (ap reverse outer ∙ last_first old.outer (record { at = at; before = old.members })))
      ∙ ap (run b 200 end tokens (reverse new.outer)) (sym members);
}

pub open_stops : (b : List ℕ) (end at : ℕ) (x : Lexeme) (old : State) → x.terminal ≡ t.Open → x.at ≡ at → 200 ≤ length old.outer → StopsLists b end x old (refusal.Deep at)
open_stops b end at x old o here full = record {
  run = λ tokens.
      let fits : 200 ≤ length (reverse old.outer) = rw length-reverse full in
      run_deep b 200 end x tokens (reverse old.outer) old.members o fits ∙ ap (λ z. Err (refusal.Deep z)) here;
}

pub close_leads : (b : List ℕ) (end : ℕ) (x : Lexeme) (old new : State) (o : Outer) → x.terminal ≡ t.Close
    → old.outer ≡ new.outer ++ o ∷ [] → new.members ≡ o.before ++ s.List o.at old.members ∷ [] → LeadsLists b end x old new
close_leads b end x old new o c outer members = record {
  run = λ tokens.
      ap (λ z. run b 200 end (x ∷ tokens) z old.members) (ap reverse outer ∙ last_first new.outer o)
      ∙ run_close b 200 end x tokens o (reverse new.outer) old.members c
      ∙ ap (run b 200 end tokens (reverse new.outer)) (sym members);
}

pub close_stops : (b : List ℕ) (end at : ℕ) (x : Lexeme) (old : State) → x.terminal ≡ t.Close → x.at ≡ at → old.outer ≡ [] → StopsLists b end x old (refusal.Syntax at)
close_stops b end at x old c here none = record {
  run = λ tokens.
      ap (λ z. run b 200 end (x ∷ tokens) z old.members) (ap reverse none)
      ∙ run_surplus b 200 end x tokens old.members c ∙ ap (λ z. Err (refusal.Syntax z)) here;
}

pub bad_stops : (b : List ℕ) (end at : ℕ) (x : Lexeme) (old : State) → x.terminal ≡ t.Bad → x.at ≡ at → StopsLists b end x old (refusal.Syntax at)
bad_stops b end at x old e here = record { run = λ tokens. run_bad b 200 end x tokens (reverse old.outer) old.members e ∙ ap (λ z. Err (refusal.Syntax z)) here }

pub unfinished_stops : (b : List ℕ) (end : ℕ) (x : Lexeme) (old : State) → x.terminal ≡ t.Unfinished → StopsLists b end x old (refusal.Syntax end)
unfinished_stops b end x old e = record { run = λ tokens. run_unfinished b 200 end x tokens (reverse old.outer) old.members e }

-- a list that is not empty has a last item
atom_by : (b : List ℕ) (end : ℕ) (x : Lexeme) (tokens : List Lexeme) (os : List Outer) (es : List Sexp) → is_atom x.terminal ≡ true → (os ≡ [] → ⊥)
    → run b 200 end (x ∷ tokens) os es ≡ run b 200 end tokens os (es ++ s.Atom (atom_of b x) ∷ [])
atom_by b end x tokens [] es a n = absurd (n refl)
atom_by b end x tokens (o ∷ os) es a n = run_atom b 200 end x tokens o os es a

reverse_some : (os : List Outer) → (os ≡ [] → ⊥) → reverse os ≡ [] → ⊥
reverse_some [] n e = n refl
reverse_some (o ∷ os) n e = let h = sym (length-reverse (o ∷ os)) ∙ ap length e in omega (arith, h)

pub atom_leads : (b : List ℕ) (end : ℕ) (x : Lexeme) (old new : State) → is_atom x.terminal ≡ true → (old.outer ≡ [] → ⊥)
    → new.outer ≡ old.outer → new.members ≡ old.members ++ s.Atom (atom_of b x) ∷ [] → LeadsLists b end x old new
atom_leads b end x old new a some outer members = record {
  run = λ tokens.
      atom_by b end x tokens (reverse old.outer) old.members a (reverse_some old.outer some)
      ∙ ap (λ z. run b 200 end tokens (reverse z) (old.members ++ s.Atom (atom_of b x) ∷ [])) (sym outer)
      ∙ ap (run b 200 end tokens (reverse new.outer)) (sym members);
}

pub atom_stops : (b : List ℕ) (end at : ℕ) (x : Lexeme) (old : State) → is_atom x.terminal ≡ true → x.at ≡ at → old.outer ≡ [] → StopsLists b end x old (refusal.Syntax at)
atom_stops b end at x old a here none = record {
  run = λ tokens.
      ap (λ z. run b 200 end (x ∷ tokens) z old.members) (ap reverse none)
      ∙ run_alone b 200 end x tokens old.members a ∙ ap (λ z. Err (refusal.Syntax z)) here;
}

pub end_reads : (b : List ℕ) (end : ℕ) (state : State) → state.outer ≡ [] → run_in b end [] state ≡ Ok state.members
end_reads b end state none = ap (λ z. run b 200 end [] z state.members) (ap reverse none) ∙ run_end b 200 end state.members

short_by : (b : List ℕ) (end : ℕ) (os : List Outer) (es : List Sexp) → (os ≡ [] → ⊥) → run b 200 end [] os es ≡ Err (refusal.Syntax end)
short_by b end [] es n = absurd (n refl)
short_by b end (o ∷ os) es n = run_short b 200 end o os es

pub end_stops : (b : List ℕ) (end : ℕ) (state : State) → (state.outer ≡ [] → ⊥) → run_in b end [] state ≡ Err (refusal.Syntax end)
end_stops b end state some = short_by b end (reverse state.outer) state.members (reverse_some state.outer some)
