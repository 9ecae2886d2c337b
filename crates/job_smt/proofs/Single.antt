-- The answers to a script do not contradict each other.
use Rattle.std.proofs.Common.{ℕ, ◌≡◌, ◌≢◌, inl, inr, None, List, [], ◌∷◌, refl, sym, ap, subst, ◌∙◌, arith, codes}
use Rattle.std.specs.List.{All, Contains}
use Rattle.std.proofs.lemmas.List.Elements.{All-cons, All-contains}
use Rattle.form_typed.specs.Table.{meaning_of}
use Rattle.form_typed.specs.Truth.{Meaning}
use Rattle.pri_lines.proofs.Losing.{no_table}
use Rattle.pri_typing.specs.Problems.{finite_meaning}
use Rattle.pri_typing.specs.declared.problem.Problem.{Problem}
use Rattle.base_answers.specs.Answer.{Answer}
use Rattle.pri_problem.specs.Encoded.{IsLarge}
use Rattle.pri_problem.specs.Reads.{AreSame}
use Rattle.smt_commands.specs.Faults.{refusal_of}
use Rattle.smt_commands.specs.declared.refusal.ScriptRefusal.{ScriptRefusal}
use Rattle.smt_commands.specs.declared.refusal.ScriptRefusal.TheVariants as r
use Rattle.smt_reader.specs.Read.{read_as}
use Rattle.smt_lists.specs.Grammar.{IsScriptText}
use Rattle.smt_lists.specs.declared.tree.Sexp.{Sexp}
use Rattle.smt_terms.specs.Scripts.{Command, State}
use Rattle.smt_reader.specs.Commands.{acts_of, questions, script_terms}
use Rattle.smt_reader.specs.Formed.{IsFormedCheck}
use Rattle.smt_reader.specs.Posed.{IsCheckPosed}
use Rattle.smt_reader.specs.Replies.{replies}
use Rattle.smt_reader.specs.declared.replies.Reply.{Reply}
use Rattle.smt_reader.proofs.Texts.{text_checks}
use Rattle.job_smt.specs.declared.checking.CheckAnswer.{CheckAnswer}
use Rattle.job_smt.specs.declared.models.Checked.{Checked}
use Rattle.job_smt.specs.declared.checking.CheckAnswer.TheVariants.{Unsat, Sat, Unknown}
use Rattle.job_smt.specs.Answers as answers
use Rattle.job_smt.specs.Answers.{AllAlike, AreAlike, AreCheckAnswers, AreFirstAnswers, AreOneAnswer, lines_answer, refused_after, replied}
use Rattle.job_smt.specs.Meaning.{AllMean, FirstMean, Means}
use Rattle.job_smt.proofs.Meaning.{all_mean, first_mean}
use Rattle.job_smt.proofs.SingleCheck.{not_large}
use Rattle.smt_reader.specs.Poses.{ArePosed, IsScriptOf, IsScriptRefusal, IsScriptWith, checks_in}
use Rattle.smt_reader.proofs.Single.{never_both, one_lists, one_refusal, only_memory}
use Rattle.job_smt.specs.Answered.{IsBegun, IsSmtAnswer, answered, before, large, refusal_name, refused, told_further, told_short, told_whole}

-- two problems of one check are the same
same_posed : (s : State) (p q : Problem) → IsCheckPosed s p → IsCheckPosed s q → AreSame p q
same_posed s p q h k = record {
  existentials = h.existentials ∙ sym k.existentials;
  existential_types = h.existential_types ∙ sym k.existential_types;
  universals = h.universals ∙ sym k.universals;
  universal_types = h.universal_types ∙ sym k.universal_types;
  functions = h.functions ∙ sym k.functions;
  predicates = h.predicates ∙ sym k.predicates;
  parts = h.parts ∙ sym k.parts;
  formula = h.formula ∙ sym k.formula;
  cuts = h.cuts ∙ sym k.cuts;
  first_application = h.first_application ∙ sym k.first_application;
}

-- ---- what is so of one check does not contradict itself

not_both : (s : State) → ((w : Meaning) → Means w s Unsat) → Means (meaning_of no_table) s Sat → ⊥
not_both s none some = none (finite_meaning some.interpretation) some.constants some.fit some.satisfies

alike_meant : (s : State) (a b : CheckAnswer) → ((w : Meaning) → Means w s a) → ((w : Meaning) → Means w s b) → AreAlike a b
alike_meant s (Unknown cause) b h k = inr (inl refl)
alike_meant s Unsat (Unknown cause) h k = inr (inr refl)
alike_meant s Sat (Unknown cause) h k = inr (inr refl)
alike_meant s Unsat Unsat h k = inl refl
alike_meant s Sat Sat h k = inl refl
alike_meant s Unsat Sat h k = absurd (not_both s h (k (meaning_of no_table)))
alike_meant s Sat Unsat h k = absurd (not_both s k (h (meaning_of no_table)))

all_alike : (ss : List State) (xs ys : List Checked) → ((w : Meaning) → AllMean w ss xs) → ((w : Meaning) → AllMean w ss ys) → AllAlike xs ys
all_alike [] [] [] h k = tt
all_alike [] [] (b ∷ ys) h k = absurd (k (meaning_of no_table))
all_alike [] (a ∷ xs) ys h k = absurd (h (meaning_of no_table))
all_alike (s ∷ ss) [] ys h k = absurd (h (meaning_of no_table))
all_alike (s ∷ ss) (a ∷ xs) [] h k = absurd (k (meaning_of no_table))
all_alike (s ∷ ss) (a ∷ xs) (b ∷ ys) h k = (alike_meant s a.answer b.answer (λ w. (h w).0.0) (λ w. (k w).0.0), all_alike ss xs ys (λ w. (h w).1) (λ w. (k w).1))

one_lines : (budget : ℕ) (bytes : List ℕ) (lists : List Sexp) (ps qs : List Problem) (xs ys : List Checked) → IsScriptText bytes lists → refusal_of script_terms (read_as lists) ≡ None
    → ArePosed (checks_in (read_as lists)) ps → ArePosed (checks_in (read_as lists)) qs → AreCheckAnswers budget ps xs → AreCheckAnswers budget qs ys → AllAlike xs ys
one_lines budget bytes lists ps qs xs ys said fits h k x y =
    let asked : List (List Command) = questions (acts_of (read_as lists)) in
    let formed : All IsFormedCheck (checks_in (read_as lists)) = text_checks bytes lists said fits in
    all_alike (checks_in (read_as lists)) xs ys (λ w. all_mean w budget asked ps xs formed h x) (λ w. all_mean w budget asked qs ys formed k y)

-- answers up to a check that is too large
first_alike : (budget : ℕ) (ss : List State) (ps qs : List Problem) (xs ys : List Checked) → ArePosed ss ps → ArePosed ss qs → AreFirstAnswers budget ps xs → AreFirstAnswers budget qs ys
    → ((w : Meaning) → FirstMean w ss xs) → ((w : Meaning) → FirstMean w ss ys) → AllAlike xs ys
first_alike budget ss [] qs xs ys h k x y m n = absurd x
first_alike budget ss (p ∷ ps) [] xs ys h k x y m n = absurd y
first_alike budget [] (p ∷ ps) (q ∷ qs) xs ys h k x y m n = absurd h
first_alike budget (s ∷ ss) (p ∷ ps) (q ∷ qs) [] [] h k x y m n = tt
first_alike budget (s ∷ ss) (p ∷ ps) (q ∷ qs) [] (b ∷ ys) h k x y m n = absurd (not_large budget p q b.answer (same_posed s p q h.0 k.0) y.0.0 x)
first_alike budget (s ∷ ss) (p ∷ ps) (q ∷ qs) (a ∷ xs) [] h k x y m n = absurd (not_large budget q p a.answer (same_posed s q p k.0 h.0) x.0.0 y)
first_alike budget (s ∷ ss) (p ∷ ps) (q ∷ qs) (a ∷ xs) (b ∷ ys) h k x y m n =
    (alike_meant s a.answer b.answer (λ w. (m w).0.0) (λ w. (n w).0.0), first_alike budget ss ps qs xs ys h.1 k.1 x.1 y.1 (λ w. (m w).1) (λ w. (n w).1))

first_lines : (budget : ℕ) (bytes : List ℕ) (lists : List Sexp) (ps qs : List Problem) (xs ys : List Checked) → IsScriptText bytes lists → refusal_of script_terms (read_as lists) ≡ None
    → ArePosed (checks_in (read_as lists)) ps → ArePosed (checks_in (read_as lists)) qs → AreFirstAnswers budget ps xs → AreFirstAnswers budget qs ys → AllAlike xs ys
first_lines budget bytes lists ps qs xs ys said fits h k x y =
    let asked : List (List Command) = questions (acts_of (read_as lists)) in
    let formed : All IsFormedCheck (checks_in (read_as lists)) = text_checks bytes lists said fits in
    first_alike budget (checks_in (read_as lists)) ps qs xs ys h k x y (λ w. first_mean w budget asked ps xs formed h x) (λ w. first_mean w budget asked qs ys formed k y)

-- where all checks are answered, none is too large
pub never_short : (budget : ℕ) (ss : List State) (ps qs : List Problem) (xs ys : List Checked) → ArePosed ss ps → ArePosed ss qs → AreCheckAnswers budget ps xs → AreFirstAnswers budget qs ys → ⊥
never_short budget ss ps [] xs ys h k x y = y
never_short budget [] ps (q ∷ qs) xs ys h k x y = k
never_short budget (s ∷ ss) [] (q ∷ qs) xs ys h k x y = h
never_short budget (s ∷ ss) (p ∷ ps) (q ∷ qs) [] ys h k x y = x
never_short budget (s ∷ ss) (p ∷ ps) (q ∷ qs) (a ∷ xs) [] h k x y = not_large budget q p a.answer (same_posed s q p k.0 h.0) x.0.0 y
never_short budget (s ∷ ss) (p ∷ ps) (q ∷ qs) (a ∷ xs) (b ∷ ys) h k x y = never_short budget ss ps qs xs ys h.1 k.1 x.1 y.1

none_large : (budget : ℕ) (ss : List State) (ps qs : List Problem) (ys : List Checked) → ArePosed ss ps → ArePosed ss qs → AreCheckAnswers budget qs ys → All (λ p. ¬ (IsLarge p)) ps
none_large budget [] [] qs ys h k y = λ i d l. absurd (omega (arith, l))
none_large budget [] (p ∷ ps) qs ys h k y = absurd h
none_large budget (s ∷ ss) [] qs ys h k y = absurd h
none_large budget (s ∷ ss) (p ∷ ps) [] ys h k y = absurd k
none_large budget (s ∷ ss) (p ∷ ps) (q ∷ qs) [] h k y = absurd y
none_large budget (s ∷ ss) (p ∷ ps) (q ∷ qs) (b ∷ ys) h k y =
    All-cons (λ z. ¬ (IsLarge z)) p ps (not_large budget p q b.answer (same_posed s p q h.0 k.0) y.0.0) (none_large budget ss ps qs ys h.1 k.1 y.1)

-- the problems of a script are posed for the lists of another reading of it
posed_there : (bytes : List ℕ) (ps qs : List Problem) (h : IsScriptOf bytes ps) (k : IsScriptOf bytes qs) → ArePosed (checks_in (read_as h.lists)) qs
posed_there bytes ps qs h k = subst (λ z. ArePosed (checks_in (read_as z)) qs) (one_lists bytes k.lists h.lists k.said h.said) k.posed.posed

pub all_there : (budget : ℕ) (bytes : List ℕ) (ps qs : List Problem) (xs ys : List Checked) → IsScriptOf bytes ps → IsScriptOf bytes qs → AreCheckAnswers budget ps xs → AreCheckAnswers budget qs ys → AllAlike xs ys
all_there budget bytes ps qs xs ys h k x y = one_lines budget bytes h.lists ps qs xs ys h.said h.posed.fits h.posed.posed (posed_there bytes ps qs h k) x y

first_there : (budget : ℕ) (bytes : List ℕ) (ps qs : List Problem) (xs ys : List Checked) → IsScriptOf bytes ps → IsScriptOf bytes qs → AreFirstAnswers budget ps xs → AreFirstAnswers budget qs ys → AllAlike xs ys
first_there budget bytes ps qs xs ys h k x y = first_lines budget bytes h.lists ps qs xs ys h.said h.posed.fits h.posed.posed (posed_there bytes ps qs h k) x y

pub short_there : (budget : ℕ) (bytes : List ℕ) (ps qs : List Problem) (xs ys : List Checked) → IsScriptOf bytes ps → IsScriptOf bytes qs → AreCheckAnswers budget ps xs → AreFirstAnswers budget qs ys → ⊥
short_there budget bytes ps qs xs ys h k x y = never_short budget (checks_in (read_as h.lists)) ps qs xs ys h.posed.posed (posed_there bytes ps qs h k) x y

pub large_there : (budget : ℕ) (bytes : List ℕ) (ps qs : List Problem) (p : Problem) (ys : List Checked) → IsScriptOf bytes ps → IsScriptOf bytes qs → Contains ps p → IsLarge p → AreCheckAnswers budget qs ys → ⊥
large_there budget bytes ps qs p ys h k c l y = All-contains (λ z. ¬ (IsLarge z)) ps p (none_large budget (checks_in (read_as h.lists)) ps qs ys h.posed.posed (posed_there bytes ps qs h k) y) c l

-- one text asks for the same replies
pub one_told : (bytes : List ℕ) (ps qs : List Problem) (told other : List Reply) → IsScriptWith bytes ps told → IsScriptWith bytes qs other → told ≡ other
one_told bytes ps qs told other h k = h.replies ∙ ap (λ z. replies (read_as z)) (one_lists bytes h.script.lists k.script.lists h.script.said k.script.said) ∙ sym k.replies

-- a script is not refused
pub not_refused : (bytes : List ℕ) (ps : List Problem) (e : ScriptRefusal) → IsScriptOf bytes ps → IsScriptRefusal bytes e → e ≢ r.Memory → ⊥
not_refused bytes ps e h (inl k) m = m (only_memory bytes h.lists e h.said h.posed.fits k)
not_refused bytes ps e h (inr k) m = never_both bytes ps h k.1

pub one_name : (bytes : List ℕ) (e f : ScriptRefusal) → IsScriptRefusal bytes e → IsScriptRefusal bytes f → e ≢ r.Memory → f ≢ r.Memory → e ≡ f
one_name bytes e f (inl h) (inl k) m n = one_refusal bytes e f h k m n
one_name bytes e f (inl h) (inr k) m n = absurd (m (only_memory bytes k.1.lists e k.1.said k.1.large.fits h))
one_name bytes e f (inr h) (inl k) m n = absurd (n (only_memory bytes h.1.lists f h.1.said h.1.large.fits k))
one_name bytes e f (inr h) (inr k) m n = h.0 ∙ sym k.0

-- two texts tell of the same replies, with answers that are alike
abbrev AreTold : List ℕ → List ℕ → Type 0
AreTold t u = (told : List Reply) × (xs : List Checked) × (ys : List Checked) × (t ≡ replied told xs) × (u ≡ replied told ys) × AllAlike xs ys

-- what is told of the beginning of a text
begun_alike : (budget : ℕ) (bytes t u : List ℕ) → IsBegun budget bytes t → IsBegun budget bytes u → AreTold t u
begun_alike budget bytes t u (told_whole ps told xs h x e) (told_whole qs other ys k y f) =
    (told, xs, ys, e, f ∙ ap (λ z. replied z ys) (sym (one_told bytes ps qs told other h k)), all_there budget bytes ps qs xs ys h.script k.script x y)
begun_alike budget bytes t u (told_whole ps told xs h x e) (told_short qs other ys k y f) = absurd (short_there budget bytes ps qs xs ys h.script k.script x y)
begun_alike budget bytes t u (told_whole ps told xs h x e) (told_further d k n b) = absurd (not_refused bytes ps d h.script k n)
begun_alike budget bytes t u (told_short ps told xs h x e) (told_whole qs other ys k y f) = absurd (short_there budget bytes qs ps ys xs k.script h.script y x)
begun_alike budget bytes t u (told_short ps told xs h x e) (told_short qs other ys k y f) =
    (told, xs, ys, e, f ∙ ap (λ z. replied z ys) (sym (one_told bytes ps qs told other h k)), first_there budget bytes ps qs xs ys h.script k.script x y)
begun_alike budget bytes t u (told_short ps told xs h x e) (told_further d k n b) = absurd (not_refused bytes ps d h.script k n)
begun_alike budget bytes t u (told_further e h m a) (told_whole qs other ys k y f) = absurd (not_refused bytes qs e k.script h m)
begun_alike budget bytes t u (told_further e h m a) (told_short qs other ys k y f) = absurd (not_refused bytes qs e k.script h m)
begun_alike budget bytes t u (told_further e h m a) (told_further d k n b) =
    begun_alike budget (before bytes e) t u a (subst (λ z. IsBegun budget (before bytes z) u) (one_name bytes d e k h n m) b)

-- the same before a refusal
refused_alike : (name t u : List ℕ) (a b : Answer) → a ≡ refused_after t name → b ≡ refused_after u name → AreTold t u → AreOneAnswer a b
refused_alike name t u a b e f h = answers.before name h.0 h.1 h.2 (e ∙ ap (λ z. refused_after z name) h.3) (f ∙ ap (λ z. refused_after z name) h.4) h.5

pub one_answer : (budget : ℕ) (bytes : List ℕ) (a b : Answer) → IsSmtAnswer budget bytes a → IsSmtAnswer budget bytes b → AreOneAnswer a b
one_answer budget bytes a b (answered ps told xs h x e) (answered qs other ys k y f) =
    answers.whole told xs ys e (f ∙ ap (λ z. lines_answer z ys) (sym (one_told bytes ps qs told other h k))) (all_there budget bytes ps qs xs ys h.script k.script x y)
one_answer budget bytes a b (answered ps told xs h x e) (large qs other ys k y f) = absurd (short_there budget bytes ps qs xs ys h.script k.script x y)
one_answer budget bytes a b (answered ps told xs h x e) (refused d u k n j f) = absurd (not_refused bytes ps d h.script k n)
one_answer budget bytes a b (large ps told xs h x e) (answered qs other ys k y f) = absurd (short_there budget bytes qs ps ys xs k.script h.script y x)
one_answer budget bytes a b (large ps told xs h x e) (large qs other ys k y f) =
    refused_alike (codes "Large") (replied told xs) (replied other ys) a b e f
    (told, xs, ys, refl, ap (λ z. replied z ys) (sym (one_told bytes ps qs told other h k)), first_there budget bytes ps qs xs ys h.script k.script x y)
one_answer budget bytes a b (large ps told xs h x e) (refused d u k n j f) = absurd (not_refused bytes ps d h.script k n)
one_answer budget bytes a b (refused d t h m i e) (answered qs other ys k y f) = absurd (not_refused bytes qs d k.script h m)
one_answer budget bytes a b (refused d t h m i e) (large qs other ys k y f) = absurd (not_refused bytes qs d k.script h m)
one_answer budget bytes a b (refused d t h m i e) (refused c u k n j f) =
    let same : c ≡ d = one_name bytes c d k h n m in
    refused_alike (refusal_name d) t u a b e (f ∙ ap (λ z. refused_after u (refusal_name z)) same) (begun_alike budget (before bytes d) t u i (subst (λ z. IsBegun budget (before bytes z) u) same j))
