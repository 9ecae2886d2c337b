-- One list of a script after another.
use Rattle.std.proofs.Common.{◌≡◌, true, List, [], ◌∷◌, map, refl, ap, subst, ◌∙◌, Option, Some}
use Rattle.smt_lists.specs.Expressions.{expr}
use Rattle.smt_lists.specs.declared.tree.Sexp.{Sexp}
use Rattle.smt_commands.specs.Commands as form
use Rattle.smt_commands.specs.Commands.{CommandForm}
use Rattle.smt_commands.specs.Faults as faults
use Rattle.smt_commands.specs.Levels.{Levels}
use Rattle.smt_typing.specs.Steps.{is_exit}
use Rattle.smt_terms.specs.Scripts.{Command}
use Rattle.smt_reader.specs.declared.scripts.Gathered.{Gathered}
use Rattle.smt_reader.specs.Commands.{Act, acts_of, with_form}
use Rattle.smt_reader.specs.Taking.{AreTaken}

pub acts_on : (xs : List Sexp) (x : Sexp) (behind : List Sexp) (f : Option CommandForm) → xs ≡ x ∷ behind → faults.form (expr x) ≡ f → acts_of (map expr xs) ≡ with_form f (acts_of (map expr behind))
acts_on xs x behind f e h = ap (λ z. acts_of (map expr z)) e ∙ ap (λ z. with_form z (acts_of (map expr behind))) h

pub taken_at : (l : Levels (List Command)) (c : Gathered) (left other all : List Act) → AreTaken l c left all → left ≡ other → AreTaken l c other all
taken_at l c left other all h e = subst (λ z. AreTaken l c z all) e h

-- an `exit` ends the script
pub exit_ends : (f : CommandForm) (rest : List Act) → is_exit (Some f) ≡ true → with_form (Some f) rest ≡ []
exit_ends form.skip rest e = absurd (cc)
exit_ends (form.say x) rest e = absurd (cc)
exit_ends (form.declare x sorts s) rest e = absurd (cc)
exit_ends (form.define g arguments s t) rest e = absurd (cc)
exit_ends (form.assert t) rest e = absurd (cc)
exit_ends (form.check_sat ts) rest e = absurd (cc)
exit_ends (form.push n) rest e = absurd (cc)
exit_ends (form.pop n) rest e = absurd (cc)
exit_ends form.reset rest e = absurd (cc)
exit_ends form.exit rest e = refl
