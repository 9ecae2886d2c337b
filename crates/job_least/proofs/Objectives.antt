-- Whether a text is a term of the existential constants: it is one at most.
use Rattle.std.proofs.Common.{◌≡◌, ℕ, true, false, List, [], Option, MatchOption, Some, None, sym, ap, ◌∙◌, subst}
use Rattle.pri_reader.specs.declared.tree.Expr.{Expr}
use Rattle.form_typed.specs.declared.typed.TypedTerm.{TypedTerm}
use Rattle.form_typed.specs.Formula.{Expression, expression}
use Rattle.pri_typing.specs.declared.problem.Problem.{Problem}
use Rattle.pri_typing.specs.declared.scope.Category.TheVariants as category
use Rattle.pri_typing.specs.Faults.{faults}
use Rattle.pri_typing.specs.Phrase.{phrase, first_token}
use Rattle.pri_typing.specs.Terms.{IsTermOf, IsTypedTerm, constants_scope}
use Rattle.pri_typing.specs.Typing.{value}
use Rattle.job_least.specs.Plain.{is_plain}
use Rattle.job_least.proofs.Linears.{plain_where}
use Rattle.job_least.specs.Reads.{IsReadTerm, ReadsTerm}
use Rattle.job_least.proofs.Braced.{one_term}
use Rattle.job_least.specs.Objective.{IsNoObjective, IsObjective}

value_same : (constants : List (List ℕ)) (d e : Expr) → d ≡ e → value (constants_scope constants) (phrase d) ≡ value (constants_scope constants) (phrase e)
value_same constants d e same = ap (λ z. value (constants_scope constants) (phrase z)) same

pub one_objective : (p : Problem) (text : List ℕ) (x y : Expression) → IsObjective p text x → IsObjective p text y → x ≡ y
one_objective p text x y h k = h.typed.is ∙ value_same p.existentials h.read k.read (one_term text h.read k.read h.reads k.reads) ∙ sym k.typed.is

-- a term that is found
pub found_so : (p : Problem) (text : List ℕ) (o : Option TypedTerm) (t : TypedTerm) → MatchOption o (IsNoObjective p text) (λ z. IsObjective p text (expression z)) → o ≡ Some t → IsObjective p text (expression t)
found_so p text o t h is = subst (λ z. MatchOption z (IsNoObjective p text) (λ y. IsObjective p text (expression y))) is h

-- what the reader answers
pub read_so : (text : List ℕ) (o : Option Expr) (e : Expr) → IsReadTerm text o → o ≡ Some e → ReadsTerm text e
read_so text o e h is = subst (IsReadTerm text) is h

-- what typing answers, of the problem's own constants
typed_so : (constants own : List (List ℕ)) (e : Expr) (o : Option TypedTerm) (q : Option TypedTerm) → constants ≡ own → o ≡ q → IsTypedTerm constants (phrase e) o → IsTypedTerm own (phrase e) q
typed_so constants own e o q same is h = subst (λ cs. IsTypedTerm cs (phrase e) q) same (subst (IsTypedTerm constants (phrase e)) is h)

pub no_term : (p : Problem) (text : List ℕ) (e : Expr) (constants : List (List ℕ)) (o : Option TypedTerm) → ReadsTerm text e → constants ≡ p.existentials → o ≡ None → IsTypedTerm constants (phrase e) o
    → IsNoObjective p text
no_term p text e constants o reads same is typed x h =
    typed_so constants p.existentials e o None same is typed
    (subst (λ g. faults (constants_scope p.existentials) category.Term (first_token (phrase g)) (phrase g) ≡ []) (one_term text h.read e h.reads reads) h.typed.faultless)

pub a_term : (p : Problem) (text : List ℕ) (e : Expr) (constants : List (List ℕ)) (o : Option TypedTerm) (t : TypedTerm) → ReadsTerm text e → constants ≡ p.existentials → o ≡ Some t
    → IsTypedTerm constants (phrase e) o → is_plain (expression t) ≡ true → IsObjective p text (expression t)
a_term p text e constants o t reads same is typed plain = record {
  read = e;
  reads = reads;
  typed = typed_so constants p.existentials e o (Some t) same is typed;
  plain = (plain_where (expression t)).0 plain;
}

pub not_plain : (p : Problem) (text : List ℕ) (e : Expr) (constants : List (List ℕ)) (o : Option TypedTerm) (t : TypedTerm) → ReadsTerm text e → constants ≡ p.existentials → o ≡ Some t
    → IsTypedTerm constants (phrase e) o → is_plain (expression t) ≡ false → IsNoObjective p text
not_plain p text e constants o t reads same is typed other x h =
    let own : IsTermOf p.existentials (phrase e) (expression t) = typed_so constants p.existentials e o (Some t) same is typed in
    let one : x ≡ expression t = h.typed.is ∙ value_same p.existentials h.read e (one_term text h.read e h.reads reads) ∙ sym own.is in
    let plain : is_plain (expression t) ≡ true = ap is_plain (sym one) ∙ (plain_where x).1 h.plain in
    absurd cc
