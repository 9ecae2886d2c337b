-- The values of the rules, which are computed with their charges and raw numbers, are their results put into form.
use Rattle.std.proofs.Common.{◌≡◌, ℕ, ℤ, pos, List, [], ◌∷◌, ◌++◌, map, refl, sym, ◌∙◌, ap, append_assoc}
use Rattle.std.specs.List.{flat_map}
use Rattle.std.proofs.lemmas.List.{append-nil}
use Rattle.std.proofs.lemmas.List.Concat.{flat_map_single}
use Rattle.base_budget.specs.Trace.{Traced, just, step, next, each}
use Rattle.base_budget.specs.declared.log.Entry.TheVariants.{OneSided, Exact, Dark}
use Rattle.clause_set.specs.declared.literal.Literal.{Literal}
use Rattle.clause_set.specs.declared.literal.Literal.TheVariants.{Geq}
use Rattle.clause_set.specs.Clauses.{clauses_of}
use Rattle.clause_set.specs.Names.{others}
use Rattle.clause_set.specs.Divisibilities.{numbers_from}
use Rattle.clause_set.specs.Shadows.{lowers, uppers, factor, one_sided, exact, exact_pair, exact_pairs, dark, dark_pair, dark_pairs, splinter, splinters, splinter_count, greatest_factor}
use Rattle.clause_set.specs.Rules.{rule}
use Rattle.elim_rule_laws.specs.ShadowResults.{shadow_term, dark_term, inequalities, with_splinter, splinters_of, one_sided_results, exact_results, dark_results}

value-each : {C D : Type 0} (f : C → Traced (List D)) (g : C → List D) → ((c : C) → (f c).value ≡ g c) → (cs : List C) (out : List D)
    → (each f cs out).value ≡ out ++ flat_map g cs
unfolding next just
value-each f g same [] out = sym (append-nil out)
value-each f g same (c ∷ cs) out =
    value-each f g same cs (out ++ (f c).value) ∙ append_assoc out (f c).value (flat_map g cs) ∙ ap (λ ds. out ++ (ds ++ flat_map g cs)) (same c)

-- where each element gives one result, they are its images
value-each_one : {C D : Type 0} (f : C → Traced (List D)) (g : C → D) → ((c : C) → (f c).value ≡ g c ∷ []) → (cs : List C) → (each f cs []).value ≡ map g cs
value-each_one f g same cs = value-each f (λ c. g c ∷ []) same cs [] ∙ flat_map_single g cs

exact_pair-value : (x : ℕ) (low up : Literal) → (exact_pair x low up).value ≡ Geq (shadow_term x low up) ∷ []
unfolding next just step
exact_pair-value x low up = refl

dark_pair-value : (x : ℕ) (low up : Literal) → (dark_pair x low up).value ≡ Geq (dark_term x low up) ∷ []
unfolding next just step
dark_pair-value x low up = refl

splinter-value : (c : List Literal) (low : Literal) (i : ℕ) → (splinter c low i).value ≡ with_splinter c low i ∷ []
unfolding next just step
splinter-value c low i = refl

pub exact_pairs-value : (x : ℕ) (lows ups : List Literal) → (each (exact_pairs x ups) lows []).value ≡ inequalities (shadow_term x) lows ups
exact_pairs-value x lows ups =
    value-each (exact_pairs x ups) (λ low. map (λ up. Geq (shadow_term x low up)) ups)
    (λ low. value-each_one (exact_pair x low) (λ up. Geq (shadow_term x low up)) (exact_pair-value x low) ups) lows []

pub dark_pairs-value : (x : ℕ) (lows ups : List Literal) → (each (dark_pairs x ups) lows []).value ≡ inequalities (dark_term x) lows ups
dark_pairs-value x lows ups =
    value-each (dark_pairs x ups) (λ low. map (λ up. Geq (dark_term x low up)) ups)
    (λ low. value-each_one (dark_pair x low) (λ up. Geq (dark_term x low up)) (dark_pair-value x low) ups) lows []

splinters-of_one : (x : ℕ) (c : List Literal) (a : ℤ) (low : Literal) → (splinters x c a low).value ≡ splinters_of x c a low
unfolding next just step
splinters-of_one x c a low = value-each_one (splinter c low) (with_splinter c low) (splinter-value c low) (numbers_from 0 (splinter_count a (factor x low)))

pub splinters-value : (x : ℕ) (c : List Literal) (a : ℤ) (lows : List Literal) → (each (splinters x c a) lows []).value ≡ flat_map (splinters_of x c a) lows
splinters-value x c a lows = value-each (splinters x c a) (splinters_of x c a) (splinters-of_one x c a) lows []

pub one_sided-value : (x : ℕ) (c : List Literal) → (rule x c OneSided).value ≡ clauses_of (one_sided_results x c)
unfolding rule one_sided next just step
one_sided-value x c = refl

pub exact-value : (x : ℕ) (c : List Literal) → (rule x c Exact).value ≡ clauses_of (exact_results x c)
unfolding rule exact next just step
exact-value x c = ap (λ ls. clauses_of ((others x c ++ ls) ∷ [])) (exact_pairs-value x (lowers x c) (uppers x c))

pub dark-value : (x : ℕ) (c : List Literal) → (rule x c Dark).value ≡ clauses_of (dark_results x c)
unfolding rule dark next just step
dark-value x c =
    ap (λ ls. clauses_of ((others x c ++ ls) ∷ (each (splinters x c (pos (greatest_factor x (uppers x c)))) (lowers x c) []).value)) (dark_pairs-value x (lowers x c) (uppers x c))
    ∙ ap (λ cs. clauses_of ((others x c ++ inequalities (dark_term x) (lowers x c) (uppers x c)) ∷ cs)) (splinters-value x c (pos (greatest_factor x (uppers x c))) (lowers x c))
