-- Where each answer of `smt` comes.
use Rattle.std.proofs.Common.{◌≡◌, ◌≢◌, ◌⊎◌, inl, inr, ℕ, suc, Bool, true, false, cond, List, [], ◌∷◌, ◌++◌, drop, get_or, refl, sym, ◌∙◌, ap, subst, codes, arith, Option, Some, None}
use Rattle.std.specs.List.{Contains, list_any}
use Rattle.std.proofs.lemmas.List.{append_cancel_right}
use Rattle.pri_typing.specs.declared.problem.Problem.{Problem}
use Rattle.pri_problem.specs.Encoded.{IsLarge}
use Rattle.base_answers.specs.Answer.{Answer, refused_answer}
use Rattle.smt_lists.specs.Expressions.{Expr, expr}
use Rattle.smt_commands.specs.Commands.{CommandForm, Saying, after_error, authors, echoed, program, unsupported, the_model, the_reason, the_values, version}
use Rattle.smt_commands.specs.Commands as form
use Rattle.smt_commands.specs.Faults as faults
use Rattle.smt_commands.specs.declared.refusal.ScriptRefusal.{ScriptRefusal}
use Rattle.smt_reader.specs.declared.replies.Reply.{Reply}
use Rattle.smt_reader.specs.declared.replies.Reply.TheVariants as reply
use Rattle.smt_reader.specs.Replies.{replies, replies_behind, reply_to}
use Rattle.job_smt.specs.declared.checking.CheckAnswer.{CheckAnswer}
use Rattle.job_smt.specs.declared.models.Checked.{Checked}
use Rattle.job_smt.specs.declared.checking.CheckAnswer.TheVariants.{Unsat, Sat, Unknown}
use Rattle.job_smt.specs.Answers.{AllAlike, AreFirstAnswers, is_unknown, lines_answer, refused_after, replied, word, is_open, replied_from, told_model, told_reason}
use Rattle.smt_reader.specs.Read.{read_as}
use Rattle.smt_reader.specs.Poses.{IsScriptWith}
use Rattle.job_smt.specs.Answered.{IsBegun, IsSmtAnswer, answered, before, large, refusal_name, refused, told_further, told_short, told_whole}
use Rattle.job_smt.specs.Causes.{AreAnswered, ComesOfScript, HasLargeCheck, IsRefusedAfter, IsSmtRefused, IsTextRefused, SmtCauses}
use Rattle.job_smt.proofs.Single.{all_there, large_there, not_refused, one_name, one_told, short_there}

abbrev status_of : Answer → ℕ
status_of a = a.status

-- ---- statuses
-- 2 where some check is unknown, else 0
abbrev checked_status : Bool → ℕ
checked_status b = cond b 2 0

by_unknown : (b : Bool) → checked_status b ≡ 2 → b ≡ true
by_unknown true e = refl
by_unknown false e = absurd cc

lines_below : (b : Bool) → checked_status b ≡ 3 → ⊥
lines_below true e = cc
lines_below false e = cc

lines_never : (b : Bool) → checked_status b ≡ 1 → ⊥
lines_never true e = cc
lines_never false e = cc

no_lines : (a : Answer) (text name : List ℕ) → a ≡ refused_after text name → (a.status ≡ 0) ⊎ (a.status ≡ 2) → ⊥
no_lines a text name e (inl z) = let bad = sym z ∙ ap status_of e in cc
no_lines a text name e (inr z) = let bad = sym z ∙ ap status_of e in cc

-- answers of refusals are the same where their names are
name_same : (m n : List ℕ) → (refused_answer m).text ≡ (refused_answer n).text → m ≡ n
name_same m n e = ap (drop 9) (append_cancel_right (codes "refused: " ++ m) (codes "refused: " ++ n) (10 ∷ []) e)

-- ---- what is told before a refusal does not begin as a refusal does
abbrev Quiet : List ℕ → Type 0
Quiet text = (text ≡ []) ⊎ ((b : ℕ) × (rest : List ℕ) × (text ≡ b ∷ rest) × (b ≢ 114))

abbrev Speaks : List ℕ → Type 0
Speaks text = (b : ℕ) × (rest : List ℕ) × (text ≡ b ∷ rest) × (b ≢ 114)

abbrev AllSpeak : List Reply → Type 0
AllSpeak [] = Unit {0}
AllSpeak (reply.Check ∷ told) = AllSpeak told
AllSpeak (reply.Reason ∷ told) = AllSpeak told
AllSpeak (reply.Model ∷ told) = AllSpeak told
AllSpeak (reply.Values names ∷ told) = AllSpeak told
AllSpeak (reply.Change ∷ told) = AllSpeak told
AllSpeak (reply.Says text ∷ told) = Speaks text × AllSpeak told

saying_speaks : (x : Saying) (later : List Reply) → AllSpeak later → AllSpeak (reply_to x ∷ later)
saying_speaks (echoed text) later h = ((34, text ++ codes "\"\n", refl, λ e. omega (arith, e)), h)
saying_speaks program later h = ((40, codes ":name \"princess\")\n", refl, λ e. omega (arith, e)), h)
saying_speaks version later h = ((40, codes ":version \"0.9.0\")\n", refl, λ e. omega (arith, e)), h)
saying_speaks authors later h = ((40, codes ":authors \"the authors of princess\")\n", refl, λ e. omega (arith, e)), h)
saying_speaks after_error later h = ((40, codes ":error-behavior immediate-exit)\n", refl, λ e. omega (arith, e)), h)
saying_speaks unsupported later h = ((117, codes "nsupported\n", refl, λ e. omega (arith, e)), h)
saying_speaks the_reason later h = h
saying_speaks the_model later h = h
saying_speaks (the_values xs) later h = h

behind_speak : (f : Option CommandForm) (later : List Reply) → AllSpeak later → AllSpeak (replies_behind f later)
behind_speak None later h = h
behind_speak (Some form.skip) later h = h
behind_speak (Some (form.say x)) later h = saying_speaks x later h
behind_speak (Some (form.declare x sorts s)) later h = h
behind_speak (Some (form.define g arguments s t)) later h = h
behind_speak (Some (form.assert t)) later h = h
behind_speak (Some (form.check_sat ts)) later h = h
behind_speak (Some (form.push n)) later h = h
behind_speak (Some (form.pop n)) later h = h
behind_speak (Some form.reset) later h = h
behind_speak (Some form.exit) later h = tt

replies_speak : (es : List Expr) → AllSpeak (replies es)
replies_speak [] = tt
replies_speak (e ∷ es) = behind_speak (faults.form e) (replies es) (replies_speak es)

line_speaks : (text : List ℕ) (more : List ℕ) → Speaks text → Speaks (text ++ more)
line_speaks text more h = (h.0, h.1 ++ more, ap (λ z. z ++ more) h.2, h.3)

word_speaks : (a : CheckAnswer) → Speaks (word a)
word_speaks Unsat = (117, codes "nsat\n", refl, λ e. omega (arith, e))
word_speaks Sat = (115, codes "at\n", refl, λ e. omega (arith, e))
word_speaks (Unknown cause) = (117, codes "nknown\n", refl, λ e. omega (arith, e))

-- before the first check there is no model
none_speaks : Speaks (told_model None)
none_speaks = (40, codes "error \"there is no model\")\n", refl, λ e. omega (arith, e))

reason_speaks : Speaks (told_reason None)
reason_speaks = (40, codes "error \"no answer is unknown\")\n", refl, λ e. omega (arith, e))

replied_quiet : (told : List Reply) (xs : List Checked) → AllSpeak told → Quiet (replied told xs)
replied_quiet [] xs h = inl refl
replied_quiet (reply.Says text ∷ told) xs h = inr (line_speaks text (replied told xs) h.0)
replied_quiet (reply.Reason ∷ told) xs h = inr (line_speaks (told_reason None) (replied told xs) reason_speaks)
replied_quiet (reply.Model ∷ told) xs h = inr (line_speaks (told_model None) (replied told xs) none_speaks)
replied_quiet (reply.Values names ∷ told) xs h = inr (line_speaks (told_model None) (replied told xs) none_speaks)
replied_quiet (reply.Change ∷ told) xs h = replied_quiet told xs h
replied_quiet (reply.Check ∷ told) [] h = inl refl
replied_quiet (reply.Check ∷ told) (a ∷ xs) h = inr (line_speaks (word a.answer) (replied_from (Some a) told xs) (word_speaks a.answer))

script_quiet : (bytes : List ℕ) (ps : List Problem) (told : List Reply) (xs : List Checked) → IsScriptWith bytes ps told → Quiet (replied told xs)
script_quiet bytes ps told xs h = replied_quiet told xs (subst AllSpeak (sym h.replies) (replies_speak (read_as h.script.lists)))

begun_quiet : (budget : ℕ) (bytes text : List ℕ) → IsBegun budget bytes text → Quiet text
begun_quiet budget bytes text (told_whole ps told xs h x e) = subst Quiet (sym e) (script_quiet bytes ps told xs h)
begun_quiet budget bytes text (told_short ps told xs h x e) = subst Quiet (sym e) (script_quiet bytes ps told xs h)
begun_quiet budget bytes text (told_further d h m b) = begun_quiet budget (before bytes d) text b

-- a refusal alone is that after nothing
alone : (text d e : List ℕ) → Quiet text → text ++ (refused_answer d).text ≡ (refused_answer e).text → d ≡ e
alone text d e (inl none) is = name_same d e (sym (ap (λ z. z ++ (refused_answer d).text) none) ∙ is)
alone text d e (inr h) is = absurd (h.3 (ap (λ z. get_or z 0 0) (sym (ap (λ z. z ++ (refused_answer d).text) h.2) ∙ is)))

-- ---- from an answer to its cause
-- where the checks are answered up to one that is too large, there is such a check
first_large : (budget : ℕ) (ps : List Problem) (xs : List Checked) → AreFirstAnswers budget ps xs → (p : Problem) × Contains ps p × IsLarge p
first_large budget [] xs h = absurd h
first_large budget (p ∷ ps) [] h = (p, (0, omega arith, refl), h)
first_large budget (p ∷ ps) (a ∷ xs) h = let k = first_large budget ps xs h.1 in (k.0, (suc k.1.0, omega (arith, k.1.1), k.1.2), k.2)

refused_by : (budget : ℕ) (bytes : List ℕ) (a : Answer) → IsSmtAnswer budget bytes a → a.status ≡ 3 → IsSmtRefused bytes
refused_by budget bytes a (refused e text h m b x) z = inl (e, (h, m))
refused_by budget bytes a (large ps told xs h x e) z = let k = first_large budget ps xs x in inr (ps, k.0, h.script, k.1, k.2)
refused_by budget bytes a (answered ps told xs h x e) z = absurd (lines_below (list_any is_open xs) (sym (ap status_of e) ∙ z))

answered_by : (budget : ℕ) (bytes : List ℕ) (a : Answer) → IsSmtAnswer budget bytes a → (a.status ≡ 0) ⊎ (a.status ≡ 2) → (told : List Reply) × (xs : List Checked) × AreAnswered budget bytes told xs × (a ≡ lines_answer told xs)
answered_by budget bytes a (refused e text h m b x) s = absurd (no_lines a text (refusal_name e) x s)
answered_by budget bytes a (large ps told xs h x e) s = absurd (no_lines a (replied told xs) (codes "Large") e s)
answered_by budget bytes a (answered ps told xs h x e) s = (told, xs, (ps, h, x), e)

never_one : (budget : ℕ) (bytes : List ℕ) (a : Answer) → IsSmtAnswer budget bytes a → a.status ≢ 1
never_one budget bytes a (refused e text h m b x) z = let bad = sym z ∙ ap status_of x in cc
never_one budget bytes a (large ps told xs h x e) z = let bad = sym z ∙ ap status_of e in cc
never_one budget bytes a (answered ps told xs h x e) z = lines_never (list_any is_open xs) (sym (ap status_of e) ∙ z)

only_by : (budget : ℕ) (bytes : List ℕ) (a : Answer) → IsSmtAnswer budget bytes a → (e : ScriptRefusal) → a ≡ refused_answer (refusal_name e) → ComesOfScript bytes e
only_by budget bytes a (refused d text h m b x) e is = inl (d, (h, m), alone text (refusal_name d) (refusal_name e) (begun_quiet budget (before bytes d) text b) (ap (λ z. z.text) (sym x ∙ is)))
only_by budget bytes a (large ps told xs h x f) e is =
    let k = first_large budget ps xs x in
    inr (sym (alone (replied told xs) (codes "Large") (refusal_name e) (script_quiet bytes ps told xs h) (ap (λ z. z.text) (sym f ∙ is))), (ps, k.0, h.script, k.1, k.2))
only_by budget bytes a (answered ps told xs h x f) e is = absurd (lines_below (list_any is_open xs) (sym (ap status_of f) ∙ ap status_of is))

-- ---- from a cause to its answer
refused_there : (budget : ℕ) (bytes : List ℕ) (a : Answer) → IsSmtAnswer budget bytes a → (e : ScriptRefusal) → IsTextRefused bytes e → IsRefusedAfter budget (before bytes e) (refusal_name e) a
refused_there budget bytes a (answered ps told xs h x f) e k = absurd (not_refused bytes ps e h.script k.0 k.1)
refused_there budget bytes a (large ps told xs h x f) e k = absurd (not_refused bytes ps e h.script k.0 k.1)
refused_there budget bytes a (refused d text h m b x) e k =
    let same : d ≡ e = one_name bytes d e h k.0 m k.1 in
    (text, subst (λ z. IsBegun budget (before bytes z) text) same b, x ∙ ap (λ z. refused_after text (refusal_name z)) same)

large_told : (budget : ℕ) (bytes : List ℕ) (a : Answer) → IsSmtAnswer budget bytes a → HasLargeCheck bytes → IsRefusedAfter budget bytes (codes "Large") a
large_told budget bytes a (answered ps told xs h x f) k = absurd (large_there budget bytes k.0 ps k.1 xs k.2 h.script k.3 k.4 x)
large_told budget bytes a (large ps told xs h x f) k = (replied told xs, told_short ps told xs h x refl, f)
large_told budget bytes a (refused d text h m b x) k = absurd (not_refused bytes k.0 d k.2 h m)

lines_there : (budget : ℕ) (bytes : List ℕ) (a : Answer) → IsSmtAnswer budget bytes a → (told : List Reply) (xs : List Checked) → AreAnswered budget bytes told xs
    → (ys : List Checked) × AreAnswered budget bytes told ys × (a ≡ lines_answer told ys) × AllAlike ys xs
lines_there budget bytes a (answered ps other ys h y f) told xs k =
    let same : other ≡ told = one_told bytes ps k.0 other told h k.1 in
    (ys, (ps, subst (IsScriptWith bytes ps) same h, y), f ∙ ap (λ z. lines_answer z ys) same, all_there budget bytes ps k.0 ys xs h.script k.1.script y k.2)
lines_there budget bytes a (large ps other ys h y f) told xs k = absurd (short_there budget bytes k.0 ps xs ys k.1.script h.script k.2 y)
lines_there budget bytes a (refused d text h m b x) told xs k = absurd (not_refused bytes k.0 d k.1.script h m)

after_status : (budget : ℕ) (bytes name : List ℕ) (a : Answer) → IsRefusedAfter budget bytes name a → a.status ≡ 3
after_status budget bytes name a h = ap status_of h.2

refused_status : (budget : ℕ) (bytes : List ℕ) (a : Answer) → IsSmtAnswer budget bytes a → IsSmtRefused bytes → a.status ≡ 3
refused_status budget bytes a is (inl h) = after_status budget (before bytes h.0) (refusal_name h.0) a (refused_there budget bytes a is h.0 h.1)
refused_status budget bytes a is (inr h) = after_status budget bytes (codes "Large") a (large_told budget bytes a is h)

unknown_by : (budget : ℕ) (bytes : List ℕ) (a : Answer) → IsSmtAnswer budget bytes a → a.status ≡ 2
    → (told : List Reply) × (xs : List Checked) × AreAnswered budget bytes told xs × (a ≡ lines_answer told xs) × (list_any is_open xs ≡ true)
unknown_by budget bytes a is z =
    let h = answered_by budget bytes a is (inr z) in
    (h.0, h.1, h.2, h.3, by_unknown (list_any is_open h.1) (sym (ap status_of h.3) ∙ z))

pub causes : (budget : ℕ) (bytes : List ℕ) (a : Answer) → IsSmtAnswer budget bytes a → SmtCauses budget bytes a
causes budget bytes a is = record {
  answers = lines_there budget bytes a is;
  answered = answered_by budget bytes a is;
  unknown = (unknown_by budget bytes a is, λ h. ap status_of h.3 ∙ ap checked_status h.4);
  refuses = (refused_by budget bytes a is, refused_status budget bytes a is);
  refused = refused_there budget bytes a is;
  only = only_by budget bytes a is;
  large = large_told budget bytes a is;
  never = never_one budget bytes a is;
}
