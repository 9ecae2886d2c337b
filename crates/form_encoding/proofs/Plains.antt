-- A plain term is finished at once.
use Rattle.std.proofs.Common.{◌≡◌, ℕ, pos, negsuc, List, sym, ◌∙◌}
use Rattle.linear_term.specs.Linear as linear
use Rattle.linear_term.specs.Linear.{Linear}
use Rattle.form_typed.specs.Formula.{Expression, Expressions, number, name, call, minus, total, product, choice, absolute, lesser, greater, no_expression, and_expression}
use Rattle.base_budget.specs.Trace.{Traced, next, combining}
use Rattle.base_budget.proofs.Tracing.{next-just, next-assoc}
use Rattle.formula.specs.Form.{Form}
use Rattle.pri_typing.specs.WellFormed.{is_numeric}
use Rattle.form_encoding.specs.Encoding.{named, multiple, product_of, with_value, with_sum, with_more}
use Rattle.form_encoding.specs.Plain.{IsPlain, ArePlain, linear_of, linear_sum, linear_more}

-- three steps in a row
three : {A B C D : Type 0} (m : Traced A) (f : A → Traced B) (g : A → B → Traced C) (h : C → Traced D)
    → next m (λ a. next (f a) (λ b. next (g a b) h)) ≡ next (next m (λ a. next (f a) (g a))) h
three m f g h = (λ i. next m (λ a. sym (next-assoc (f a) (g a) h) i)) ∙ sym (next-assoc m (λ a. next (f a) (g a)) h)

mutual
  pub plain_is : (t : Expression) (at : List ℕ) (n : ℕ) (rest : ℕ → Linear → Traced Form) → IsPlain t → with_value at t n rest ≡ next (linear_of at t) (rest n)
  plain_is (number v) at n rest p = sym (next-just (linear.number v) (rest n))
  plain_is (name x) at n rest p = sym (next-just (named at x) (rest n))
  plain_is (call f ts) at n rest p = absurd p
  plain_is (minus t) at n rest p = plain_is t at n (λ m a. next (multiple (negsuc 0) a) (rest m)) p ∙ sym (next-assoc (linear_of at t) (λ a. multiple (negsuc 0) a) (rest n))
  plain_is (total ts) at n rest p = plain_sum ts at n rest p
  plain_is (product s t) at n rest p =
      plain_is s at n (λ m a. with_value at t m (λ k b. next (product_of (is_numeric s) a b) (rest k))) (p.0)
      ∙ (λ i. next (linear_of at s) (λ a. plain_is t at n (λ k b. next (product_of (is_numeric s) a b) (rest k)) (p.1) i))
      ∙ three (linear_of at s) (λ a. linear_of at t) (λ a b. product_of (is_numeric s) a b) (rest n)
  plain_is (choice f s t) at n rest p = absurd p
  plain_is (absolute t) at n rest p = absurd p
  plain_is (lesser s t) at n rest p = absurd p
  plain_is (greater s t) at n rest p = absurd p

  plain_sum : (ts : Expressions) (at : List ℕ) (n : ℕ) (rest : ℕ → Linear → Traced Form) → ArePlain ts → with_sum at ts n rest ≡ next (linear_sum at ts) (rest n)
  plain_sum no_expression at n rest p = sym (next-just (linear.number (pos 0)) (rest n))
  plain_sum (and_expression t ts) at n rest p =
      plain_is t at n (λ m a. with_more at ts m a rest) (p.0) ∙ (λ i. next (linear_of at t) (λ a. plain_more ts at n a rest (p.1) i))
      ∙ sym (next-assoc (linear_of at t) (λ a. linear_more at ts a) (rest n))

  plain_more : (ts : Expressions) (at : List ℕ) (n : ℕ) (s : Linear) (rest : ℕ → Linear → Traced Form) → ArePlain ts → with_more at ts n s rest ≡ next (linear_more at ts s) (rest n)
  plain_more no_expression at n s rest p = sym (next-just s (rest n))
  plain_more (and_expression (minus t) ts) at n s rest p =
      plain_is t at n (λ m a. next (combining (pos 1) s (negsuc 0) a) (λ z. with_more at ts m z rest)) (p.0)
      ∙ (λ i. next (linear_of at t) (λ a. next (combining (pos 1) s (negsuc 0) a) (λ z. plain_more ts at n z rest (p.1) i)))
      ∙ three (linear_of at t) (λ a. combining (pos 1) s (negsuc 0) a) (λ a z. linear_more at ts z) (rest n)
  plain_more (and_expression t ts) at n s rest p =
      plain_is t at n (λ m a. next (combining (pos 1) s (pos 1) a) (λ z. with_more at ts m z rest)) (p.0)
      ∙ (λ i. next (linear_of at t) (λ a. next (combining (pos 1) s (pos 1) a) (λ z. plain_more ts at n z rest (p.1) i)))
      ∙ three (linear_of at t) (λ a. combining (pos 1) s (pos 1) a) (λ a z. linear_more at ts z) (rest n)
