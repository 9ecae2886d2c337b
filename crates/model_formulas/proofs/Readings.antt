-- Formulas that read a value.
use Rattle.std.proofs.Common.{◌≡◌, ℕ, ◌<◌, ℤ, Bool, true, false, nat_lt, List, [], ◌∷◌, All, length, map, refl, sym, ap, ◌∙◌, subst, arith}
use Rattle.std.specs.List.{AllByRecursion, list_all}
use Rattle.std.specs.Ordering.{is_eq}
use Rattle.std.specs.declared.cmp.Ordering.{Ordering}
use Rattle.std.specs.declared.cmp.Ordering.TheVariants.{Less, Equal, Greater}
use Rattle.std.proofs.lemmas.Bool.{and_parts}
use Rattle.std.proofs.lemmas.Bool.Decides.{nat_tests}
use Rattle.std.proofs.lemmas.List.Elements.{All-nil, All-cons}
use Rattle.linear_term.specs.Linear.{Linear, IsOver, name}
use Rattle.linear_term.specs.Order.{linear_cmp}
use Rattle.linear_term.proofs.Orders.{linear_cmp-equal}
use Rattle.formula.specs.Form.{Form, differs, disjunction, and_form, values_of}
use Rattle.formula.specs.Tree.{form, forms_of}
use Rattle.formula.specs.declared.calculus.Core.{Core}
use Rattle.formula.specs.declared.calculus.Core.TheVariants as c
use Rattle.formula.proofs.Building.{form-NotFun, form-Or}
use Rattle.model_table.specs.declared.model.Model.{Model}
use Rattle.model_table.specs.Models.{value_at}
use Rattle.model_formulas.specs.declared.choosing.Guard.{Guard}
use Rattle.model_formulas.specs.Choices.{AreChoices}
use Rattle.form_closures.specs.Putting.{put_in}
use Rattle.model_formulas.specs.Expanded.{IsRead, Reads, ReadsFirst, is_over, are_over}

equal_is : (o : Ordering) → is_eq o ≡ true → o ≡ Equal
equal_is Less h = absurd (cc)
equal_is Equal h = refl
equal_is Greater h = absurd (cc)

pub name_is : (t u : Linear) (n : ℕ) (o : Ordering) (b : Bool) → u ≡ name n → o ≡ linear_cmp t u → b ≡ is_eq o → b ≡ true → t ≡ name n
name_is t u n o b is cmp test h = linear_cmp-equal t u (sym cmp ∙ equal_is o (sym test ∙ h)) ∙ is

pub ruleset names = (name_is)

over_pairs : (n : ℕ) (ps : List (ℕ × ℤ)) → list_all (λ (p : ℕ × ℤ). nat_lt p.0 n) ps ≡ true → All (λ (p : ℕ × ℤ). p.0 < n) ps
over_pairs n [] h = All-nil (λ (p : ℕ × ℤ). p.0 < n)
over_pairs n (p ∷ ps) h =
    let two = and_parts (nat_lt p.0 n) (list_all (λ (q : ℕ × ℤ). nat_lt q.0 n) ps) h in
    let first : nat_lt p.0 n ≡ true = two.0 in
    All-cons (λ (q : ℕ × ℤ). q.0 < n) p ps (below p.0 n first) (over_pairs n ps two.1)
  where
    below : (x n : ℕ) → nat_lt x n ≡ true → x < n
    below x n h = grind (arith, nat_tests)

pub overs_are : (n : ℕ) (ts : List Linear) → are_over n ts ≡ true → AllByRecursion (IsOver n) ts
overs_are n [] h = tt
overs_are n (t ∷ ts) h = let two = and_parts (is_over n t) (are_over n ts) h in (over_pairs n t.pairs two.0, overs_are n ts two.1)

pub is_read : (m : Model) (body first : Core) (ms ns rest : List Core) (f n : ℕ) (us ws zs vs xs : List Linear) (u : Linear) (ts : List Linear) (gs : List Guard) (b : Bool) → AreChoices gs (λ e. value_at m.functions f (values_of xs e)) → xs ≡ vs
    → vs ≡ map (put_in ts) ws → ws ≡ us → first ≡ c.NotFun f us u → ns ≡ first ∷ rest → ns ≡ ms → body ≡ c.Or ms → u ≡ name n → n ≡ length ts → zs ≡ us → b ≡ are_over n zs → b ≡ true → IsRead m (form body) ts gs
is_read m body first ms ns rest f n us ws zs vs xs u ts gs b chosen xs_is vs_is ws_is first_is parts ns_is body_is u_is n_is zs_is test_is test = record {
  function = f;
  arguments = us;
  reads = subst (Reads (length ts) f us) (sym (ap form body_is ∙ form-Or ms ∙ ap (λ l. disjunction (forms_of l)) (sym ns_is ∙ parts)))
      (subst (ReadsFirst (length ts) f us) (sym (ap form first_is ∙ form-NotFun f us u)) (refl, refl, u_is ∙ ap name n_is));
  over = ap (λ k. are_over k us) (sym n_is) ∙ ap (are_over n) (sym zs_is) ∙ sym test_is ∙ test;
  chosen = subst (λ l. AreChoices gs (λ e. value_at m.functions f (values_of l e))) (xs_is ∙ vs_is ∙ ap (map (put_in ts)) ws_is) chosen;
}

pub ruleset readings = (is_read)
