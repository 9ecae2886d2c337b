-- What a script asks to be told, one command after another.
use Rattle.std.proofs.Common.{◌≡◌, true, false, List, [], ◌∷◌, ◌++◌, map, refl, sym, ap, ◌∙◌, append_assoc, append-nil, Option, Some, None}
use Rattle.smt_lists.specs.Expressions.{expr}
use Rattle.smt_lists.specs.declared.tree.Sexp.{Sexp}
use Rattle.smt_commands.specs.Commands as form
use Rattle.smt_commands.specs.Commands.{CommandForm}
use Rattle.smt_commands.specs.Faults as faults
use Rattle.smt_typing.specs.Steps.{is_exit}
use Rattle.smt_reader.specs.declared.replies.Reply.{Reply}
use Rattle.smt_reader.specs.Replies.{replies, replies_behind, reply_of, with_reply}

goes_on : (c : CommandForm) (later : List Reply) → is_exit (Some c) ≡ false → replies_behind (Some c) later ≡ with_reply (reply_of c) later
goes_on form.skip later e = refl
goes_on (form.say x) later e = refl
goes_on (form.declare x sorts s) later e = refl
goes_on (form.define g arguments s t) later e = refl
goes_on (form.assert t) later e = refl
goes_on (form.check_sat ts) later e = refl
goes_on (form.push n) later e = refl
goes_on (form.pop n) later e = refl
goes_on form.reset later e = refl
goes_on form.exit later e = absurd (cc)

ends_here : (c : CommandForm) (later : List Reply) → is_exit (Some c) ≡ true → replies_behind (Some c) later ≡ []
ends_here form.skip later e = absurd (cc)
ends_here (form.say x) later e = absurd (cc)
ends_here (form.declare x sorts s) later e = absurd (cc)
ends_here (form.define g arguments s t) later e = absurd (cc)
ends_here (form.assert t) later e = absurd (cc)
ends_here (form.check_sat ts) later e = absurd (cc)
ends_here (form.push n) later e = absurd (cc)
ends_here (form.pop n) later e = absurd (cc)
ends_here form.reset later e = absurd (cc)
ends_here form.exit later e = refl

-- the replies from a list on
unfolded : (xs : List Sexp) (x : Sexp) (behind : List Sexp) (f : Option CommandForm) → xs ≡ x ∷ behind → f ≡ faults.form (expr x) → replies (map expr xs) ≡ replies_behind f (replies (map expr behind))
unfolded xs x behind f e h = ap (λ z. replies (map expr z)) e ∙ ap (λ z. replies_behind z (replies (map expr behind))) (sym h)

-- with those found so far, the replies of what is left are all
pub replies_end : (found whole : List Reply) (xs : List Sexp) → xs ≡ [] → found ++ replies (map expr xs) ≡ whole → found ≡ whole
replies_end found whole xs e w = sym (ap (λ z. found ++ replies (map expr z)) e ∙ append-nil found) ∙ w

-- after what is no command
pub replies_over : (found whole : List Reply) (xs : List Sexp) (x : Sexp) (behind : List Sexp) → xs ≡ x ∷ behind → None ≡ faults.form (expr x) → found ++ replies (map expr xs) ≡ whole
    → found ++ replies (map expr behind) ≡ whole
replies_over found whole xs x behind e h w = sym (ap (λ z. found ++ z) (unfolded xs x behind None e h)) ∙ w

-- after a command that asks for nothing
pub replies_none : (found whole : List Reply) (xs : List Sexp) (x : Sexp) (behind : List Sexp) (c : CommandForm) → xs ≡ x ∷ behind → Some c ≡ faults.form (expr x) → is_exit (Some c) ≡ false → None ≡ reply_of c
    → found ++ replies (map expr xs) ≡ whole → found ++ replies (map expr behind) ≡ whole
replies_none found whole xs x behind c e h on n w =
    let one = unfolded xs x behind (Some c) e h ∙ goes_on c (replies (map expr behind)) on ∙ ap (λ z. with_reply z (replies (map expr behind))) (sym n) in
    sym (ap (λ z. found ++ z) one) ∙ w

-- after a command that asks for something
pub replies_on : (found whole : List Reply) (xs : List Sexp) (x : Sexp) (behind : List Sexp) (c : CommandForm) (r : Reply) → xs ≡ x ∷ behind → Some c ≡ faults.form (expr x) → is_exit (Some c) ≡ false → Some r ≡ reply_of c
    → found ++ replies (map expr xs) ≡ whole → (found ++ r ∷ []) ++ replies (map expr behind) ≡ whole
replies_on found whole xs x behind c r e h on n w =
    let one = unfolded xs x behind (Some c) e h ∙ goes_on c (replies (map expr behind)) on ∙ ap (λ z. with_reply z (replies (map expr behind))) (sym n) in
    append_assoc found (r ∷ []) (replies (map expr behind)) ∙ sym (ap (λ z. found ++ z) one) ∙ w

-- at an `exit`
pub replies_last : (found whole : List Reply) (xs : List Sexp) (x : Sexp) (behind : List Sexp) (c : CommandForm) → xs ≡ x ∷ behind → Some c ≡ faults.form (expr x) → is_exit (Some c) ≡ true
    → found ++ replies (map expr xs) ≡ whole → found ≡ whole
replies_last found whole xs x behind c e h on w =
    let one = unfolded xs x behind (Some c) e h ∙ ends_here c (replies (map expr behind)) on in
    sym (ap (λ z. found ++ z) one ∙ append-nil found) ∙ w
