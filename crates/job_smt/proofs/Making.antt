-- The answer to a script, as the code makes it.
use Rattle.std.proofs.Common.{◌≡◌, ◌≢◌, ◌<◌, ◌≤◌, ◌⊎◌, inl, inr, ℕ, Bool, true, false, cond, List, [], ◌∷◌, length, take, refl, sym, ap, subst, ◌∙◌, arith, codes, Result, Ok, Err, IfOk}
use Rattle.std.specs.List.{All, list_any}
use Rattle.std.proofs.lemmas.List.{length-take-le}
use Rattle.std.specs.declared.alloc.Global.{Global}
use Rattle.std.specs.declared.vec.Vec.{Vec}
use Rattle.base_answers.specs.Answer.{answer_of, refused_answer}
use Rattle.base_answers.specs.declared.output.Output.{Output}
use Rattle.linear_term.specs.declared.range.Memory.{Memory}
use Rattle.pri_typing.specs.declared.problem.Problem.{Problem}
use Rattle.pri_typing.specs.WellFormed.{IsWellFormed}
use Rattle.smt_commands.specs.declared.refusal.ScriptRefusal.{ScriptRefusal}
use Rattle.smt_commands.specs.declared.refusal.ScriptRefusal.TheVariants as fault
use Rattle.smt_reader.specs.declared.replies.Reply.{Reply}
use Rattle.smt_reader.specs.Read.{read_as}
use Rattle.smt_reader.specs.Poses.{AreLarge, IsScriptRefusal, IsScriptWith, checks_in}
use Rattle.smt_reader.proofs.Single.{one_lists, only_memory}
use Rattle.smt_reader.proofs.Whole.{empty_said}
use Rattle.job_smt.specs.declared.models.Checked.{Checked}
use Rattle.job_smt.specs.declared.lines.Answers.{Answers}
use Rattle.job_smt.specs.Lines.{AreGiven, AreGivenBy}
use Rattle.job_smt.specs.Answers.{is_unknown, refused_after, replied, AreCheckAnswers, AreFirstAnswers, is_open, lines_answer}
use Rattle.job_smt.specs.Answered.{IsBegun, IsSmtAnswer, answered, before, large, refusal_name, refused, told_further, told_short, told_whole}
use Rattle.job_smt.proofs.Meaning.{alone_of, formed_of}

pub formed_with : (bytes : List ℕ) (ps xs : List Problem) (told : List Reply) → IsScriptWith bytes ps told → xs ≡ ps → All IsWellFormed xs
formed_with bytes ps xs told h is = formed_of bytes ps xs h.script is

pub alone_with : (bytes : List ℕ) (ps xs : List Problem) (told : List Reply) → IsScriptWith bytes ps told → xs ≡ ps → All (λ p. p.existentials ≡ []) xs
alone_with bytes ps xs told h is = alone_of bytes ps xs h.script is

-- the answers that were found, to the problems of the script
given_at : (budget : ℕ) (ps xs : List Problem) (found : Answers) (stops : Bool) → xs ≡ ps → found.stopped ≡ stops → AreGiven budget xs found → AreGivenBy budget ps found.given stops
given_at budget ps xs found stops is e h = subst (AreGivenBy budget ps found.given) e (subst (λ z. AreGiven budget z found) is h)

-- the text that tells them
text_at : (text : List ℕ) (told slice : List Reply) (given : List Checked) (found : Answers) → slice ≡ told → given ≡ found.given → text ≡ replied slice given → text ≡ replied told found.given
text_at text told slice given found is same e = e ∙ ap (λ z. replied z given) is ∙ ap (replied told) same

pub made_whole : (budget status : ℕ) (bytes text : List ℕ) (ps xs : List Problem) (told slice : List Reply) (given : List Checked) (found : Answers) → IsScriptWith bytes ps told → xs ≡ ps → AreGiven budget xs found
    → found.stopped ≡ false → slice ≡ told → given ≡ found.given → text ≡ replied slice given → status ≡ cond (list_any is_open given) 2 0 → IsSmtAnswer budget bytes (record { status = status; text = text })
made_whole budget status bytes text ps xs told slice given found h is are whole asks same tells ends =
    let says : text ≡ replied told found.given = text_at text told slice given found asks same tells in
    let state : status ≡ cond (list_any is_open found.given) 2 0 = ends ∙ ap (λ z. cond (list_any is_open z) 2 0) same in
    answered ps told found.given h (given_at budget ps xs found false is whole are) (λ i. record { status = state i; text = says i })

pub made_short : (budget : ℕ) (bytes text : List ℕ) (ps xs : List Problem) (told slice : List Reply) (given : List Checked) (found : Answers) (o : Output) (r : Result Output Memory) → IsScriptWith bytes ps told → xs ≡ ps
    → AreGiven budget xs found → found.stopped ≡ true → slice ≡ told → given ≡ found.given → text ≡ replied slice given → answer_of o ≡ refused_answer (codes "Large")
    → IfOk r (λ out. (name : List ℕ) → answer_of o ≡ refused_answer name → answer_of out ≡ refused_after text name) → IfOk r (λ out. IsSmtAnswer budget bytes (answer_of out))
made_short budget bytes text ps xs told slice given found o (Ok out) h is are short asks same tells refuses after =
    large ps told found.given h (given_at budget ps xs found true is short are) (after (codes "Large") refuses ∙ ap (λ z. refused_after z (codes "Large")) (text_at text told slice given found asks same tells))
made_short budget bytes text ps xs told slice given found o (Err e) h is are short asks same tells refuses after = tt

pub made_refused : (budget : ℕ) (bytes part text : List ℕ) (e : ScriptRefusal) (o : Output) (r : Result Output Memory) → IsScriptRefusal bytes e → e ≢ fault.Memory → part ≡ before bytes e
    → IsBegun budget part text → answer_of o ≡ refused_answer (refusal_name e)
    → IfOk r (λ out. (name : List ℕ) → answer_of o ≡ refused_answer name → answer_of out ≡ refused_after text name) → IfOk r (λ out. IsSmtAnswer budget bytes (answer_of out))
made_refused budget bytes part text e o (Ok out) h m is begun refuses after = refused e text h m (subst (λ z. IsBegun budget z text) is begun) (after (refusal_name e) refuses)
made_refused budget bytes part text e o (Err f) h m is begun refuses after = tt

-- ---- what is told before a refusal

given_either : (budget : ℕ) (bytes text : List ℕ) (ps : List Problem) (told : List Reply) (xs : List Checked) (stops : Bool) → IsScriptWith bytes ps told → AreGivenBy budget ps xs stops → text ≡ replied told xs → IsBegun budget bytes text
given_either budget bytes text ps told xs true h are is = told_short ps told xs h are is
given_either budget bytes text ps told xs false h are is = told_whole ps told xs h are is

pub made_begun : (budget : ℕ) (bytes : List ℕ) (ps xs : List Problem) (told slice : List Reply) (given : List Checked) (found : Answers) (r : Result (Vec ℕ Global) Memory) → IsScriptWith bytes ps told → xs ≡ ps → AreGiven budget xs found
    → slice ≡ told → given ≡ found.given → IfOk r (λ text. text.items ≡ replied slice given) → IfOk r (λ text. IsBegun budget bytes text.items)
made_begun budget bytes ps xs told slice given found (Ok text) h is are asks same tells =
    given_either budget bytes text.items ps told found.given found.stopped h (given_at budget ps xs found found.stopped is refl are) (text_at text.items told slice given found asks same tells)
made_begun budget bytes ps xs told slice given found (Err e) h is are asks same tells = tt

pub made_further : (budget : ℕ) (bytes part : List ℕ) (e : ScriptRefusal) (r : Result (Vec ℕ Global) Memory) → IsScriptRefusal bytes e → e ≢ fault.Memory → part ≡ before bytes e
    → IfOk r (λ text. IsBegun budget part text.items) → IfOk r (λ text. IsBegun budget bytes text.items)
made_further budget bytes part e (Ok text) h m is begun = told_further e h m (subst (λ z. IsBegun budget z text.items) is begun)
made_further budget bytes part e (Err f) h m is begun = tt

-- ---- a text that is refused is not empty

none_large : ¬ (AreLarge [])
none_large (inl h) = omega (arith, h)
none_large (inr h) = omega (arith, h)

pub refused_some : (bytes : List ℕ) (e : ScriptRefusal) → IsScriptRefusal bytes e → e ≢ fault.Memory → 0 < length bytes
refused_some (b ∷ bytes) e h m = omega arith
refused_some [] e (inl h) m = absurd (m (only_memory [] [] e empty_said refl h))
refused_some [] e (inr h) m = absurd (none_large (subst (λ z. AreLarge (checks_in (read_as z))) (one_lists [] h.1.lists [] h.1.said empty_said) h.1.large.large))

within_text : (bytes : List ℕ) (cut : ℕ) (e : ScriptRefusal) → IsScriptRefusal bytes e → e ≢ fault.Memory → (cut < length bytes) ⊎ (cut ≡ 0) → cut < length bytes
within_text bytes cut e h m (inl l) = l
within_text bytes cut e h m (inr z) = subst (λ n. n < length bytes) (sym z) (refused_some bytes e h m)

-- so what stands before its refusal is shorter
pub shorter : (bytes part : List ℕ) (cut : ℕ) (e : ScriptRefusal) → IsScriptRefusal bytes e → e ≢ fault.Memory → (cut < length bytes) ⊎ (cut ≡ 0) → part ≡ take cut bytes → length part < length bytes
shorter bytes part cut e h m within is =
    let l : cut < length bytes = within_text bytes cut e h m within in
    let k : length (take cut bytes) ≡ cut = length-take-le cut bytes (omega (arith, l)) in
    let n : length part ≡ cut = ap length is ∙ k in
    omega (arith, l, n)

pub cut_short : (bytes : List ℕ) (cut : ℕ) (e : ScriptRefusal) → IsScriptRefusal bytes e → e ≢ fault.Memory → (cut < length bytes) ⊎ (cut ≡ 0) → cut ≤ length bytes
cut_short bytes cut e h m within = let l = within_text bytes cut e h m within in omega (arith, l)
