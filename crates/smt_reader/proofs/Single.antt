-- A text is a script or is refused, and in one way.
use Rattle.std.proofs.Common.{ℕ, ◌≡◌, ◌≢◌, inl, inr, List, [], ◌∷◌, ◌++◌, length, refl, sym, ap, ap₂, subst, ◌∙◌, append_assoc, Option, Some, None}
use Rattle.smt_lists.specs.declared.tree.Sexp.{Sexp}
use Rattle.smt_tokens.specs.declared.terminals.Lexeme.{Lexeme}
use Rattle.smt_tokens.specs.Lexemes.{lexemes_of}
use Rattle.smt_lists.specs.declared.refusal.ReadRefusal.{ReadRefusal}
use Rattle.smt_lists.specs.declared.refusal.ReadRefusal.TheVariants as e
use Rattle.smt_lists.specs.Grammar.{IsScript, IsScriptText}
use Rattle.smt_lists.proofs.Complete.{one_script}
use Rattle.smt_lists.specs.First.{BeginsScript, ListsDeepAt, IsFirst, ListsSyntaxAt, place}
use Rattle.smt_commands.specs.declared.refusal.ScriptRefusal.{ScriptRefusal}
use Rattle.smt_commands.specs.declared.refusal.ScriptRefusal.TheVariants as r
use Rattle.smt_commands.specs.Faults.{refusal_of}
use Rattle.smt_commands.specs.Least.{IsScriptRefused}
use Rattle.smt_reader.specs.Scripts.{RefusesScript, RefusesTokens, as_script}
use Rattle.pri_typing.specs.declared.problem.Problem.{Problem}
use Rattle.smt_reader.specs.Commands.{script_terms}
use Rattle.smt_reader.specs.Read.{read_as}
use Rattle.smt_reader.specs.Poses.{AreLarge, IsLargeScript, IsScriptOf, checks_in}

-- two ways to part a list: alike, or one front goes further
data IsParted {A : Type 0} (f b g c : List A) : Type 0 where
  same : f ≡ g → b ≡ c → IsParted f b g c
  further : (x : A) (m : List A) → g ≡ f ++ x ∷ m → b ≡ x ∷ (m ++ c) → IsParted f b g c
  back : (x : A) (m : List A) → f ≡ g ++ x ∷ m → c ≡ x ∷ (m ++ b) → IsParted f b g c

tail_is : {A : Type 0} (x y : A) (xs ys : List A) → x ∷ xs ≡ y ∷ ys → xs ≡ ys
tail_is x y xs ys h = cc

head_is : {A : Type 0} (x y : A) (xs ys : List A) → x ∷ xs ≡ y ∷ ys → x ≡ y
head_is x y xs ys h = cc

parted : {A : Type 0} (f b g c : List A) → f ++ b ≡ g ++ c → IsParted f b g c
parted [] b [] c h = same refl h
parted [] b (x ∷ g) c h = further x g refl h
parted (x ∷ f) b [] c h = back x f refl (sym h)
parted (x ∷ f) b (y ∷ g) c h = by (parted f b g c (tail_is x y (f ++ b) (g ++ c) h))
  where
    one : x ≡ y
    one = head_is x y (f ++ b) (g ++ c) h

    by : IsParted f b g c → IsParted (x ∷ f) b (y ∷ g) c
    by (same p q) = same (ap₂ (λ z zs. z ∷ zs) one p) q
    by (further z m p q) = further z m (ap₂ (λ w ws. w ∷ ws) (sym one) p) q
    by (back z m p q) = back z m (ap₂ (λ w ws. w ∷ ws) one p) q

-- what begins a script, in front of more, begins it too
begins_less : (b : List ℕ) (n : ℕ) (f g m : List Lexeme) (x : Lexeme) → g ≡ f ++ x ∷ m → BeginsScript b n g → BeginsScript b n (f ++ x ∷ [])
begins_less b n f g m x is h = record {
  more = m ++ h.more;
  lists = h.lists;
  is_script = subst (λ z. IsScript b n h.lists z)
      (ap (λ z. z ++ h.more) is ∙ append_assoc f (x ∷ m) h.more ∙ sym (append_assoc f (x ∷ []) (m ++ h.more))) h.is_script;
}

-- a script begins with each of its fronts
begins_script : (b : List ℕ) (n : ℕ) (es : List Sexp) (tokens f m : List Lexeme) (x : Lexeme) → IsScript b n es tokens → tokens ≡ f ++ x ∷ m → BeginsScript b n (f ++ x ∷ [])
begins_script b n es tokens f m x h is = record { more = m; lists = es; is_script = subst (λ z. IsScript b n es z) (is ∙ sym (append_assoc f (x ∷ []) m)) h }

append_none : {A : Type 0} (xs : List A) → xs ++ [] ≡ xs
append_none [] = refl
append_none (x ∷ xs) = ap (λ z. x ∷ z) (append_none xs)

-- a script has no refusal of its tokens
no_syntax : (b : List ℕ) (es : List Sexp) (tokens : List Lexeme) (end at : ℕ) → IsScript b 200 es tokens → ListsSyntaxAt b end tokens at → ⊥
no_syntax b es tokens end at h s = by s.back refl
  where
    by : (k : List Lexeme) → s.back ≡ k → ⊥
    by [] is = s.short is 200 es (subst (λ z. IsScript b 200 es z) (s.parts ∙ ap (λ z. s.front ++ z) is ∙ append_none s.front) h)
    by (x ∷ m) is = s.none x m is 200 (begins_script b 200 es tokens s.front m x h (s.parts ∙ ap (λ z. s.front ++ z) is))

no_deep : (b : List ℕ) (es : List Sexp) (tokens : List Lexeme) (at : ℕ) → IsScript b 200 es tokens → ListsDeepAt b tokens at → ⊥
no_deep b es tokens at h d = d.none (begins_script b 200 es tokens d.front d.back d.x h d.parts)

not_first : (b : List ℕ) (es : List Sexp) (tokens : List Lexeme) (end : ℕ) (a : ReadRefusal) → IsScript b 200 es tokens → IsFirst b end tokens a → a ≡ e.Memory
not_first b es tokens end (e.Syntax at) h f = absurd (no_syntax b es tokens end at h f)
not_first b es tokens end (e.Deep at) h f = absurd (no_deep b es tokens at h f)
not_first b es tokens end e.Memory h f = refl

-- two refusals of tokens are one
two_syntax : (b : List ℕ) (tokens : List Lexeme) (end at to : ℕ) → ListsSyntaxAt b end tokens at → ListsSyntaxAt b end tokens to → at ≡ to
two_syntax b tokens end at to s t = by (parted s.front s.back t.front t.back (sym s.parts ∙ t.parts))
  where
    by : IsParted s.front s.back t.front t.back → at ≡ to
    by (same p q) = sym s.here ∙ ap (place end) q ∙ t.here
    by (further x m p q) = absurd (s.none x (m ++ t.back) q 200 (begins_less b 200 s.front t.front m x p t.begins))
    by (back x m p q) = absurd (t.none x (m ++ s.back) q 200 (begins_less b 200 t.front s.front m x p s.begins))

two_deep : (b : List ℕ) (tokens : List Lexeme) (at to : ℕ) → ListsDeepAt b tokens at → ListsDeepAt b tokens to → at ≡ to
two_deep b tokens at to s t = by (parted s.front (s.x ∷ s.back) t.front (t.x ∷ t.back) (sym s.parts ∙ t.parts))
  where
    by : IsParted s.front (s.x ∷ s.back) t.front (t.x ∷ t.back) → at ≡ to
    by (same p q) = sym s.here ∙ ap (λ (z : Lexeme). z.at) (head_is s.x t.x s.back t.back q) ∙ t.here
    by (further x m p q) =
        absurd (s.none (subst (λ z. BeginsScript b 200 (s.front ++ z ∷ [])) (sym (head_is s.x x s.back (m ++ t.x ∷ t.back) q)) (begins_less b 200 s.front t.front m x p t.begins)))
    by (back x m p q) =
        absurd (t.none (subst (λ z. BeginsScript b 200 (t.front ++ z ∷ [])) (sym (head_is t.x x t.back (m ++ s.x ∷ s.back) q)) (begins_less b 200 t.front s.front m x p s.begins)))

not_both : (b : List ℕ) (tokens : List Lexeme) (end at to : ℕ) → ListsSyntaxAt b end tokens at → ListsDeepAt b tokens to → ⊥
not_both b tokens end at to s t = by (parted s.front s.back t.front (t.x ∷ t.back) (sym s.parts ∙ t.parts))
  where
    by : IsParted s.front s.back t.front (t.x ∷ t.back) → ⊥
    by (same p q) = s.none t.x t.back q 201 (subst (λ z. BeginsScript b 201 (z ++ t.x ∷ [])) (sym p) t.fits)
    by (further x m p q) = s.none x (m ++ t.x ∷ t.back) q 200 (begins_less b 200 s.front t.front m x p t.begins)
    by (back x m p q) =
        t.none (subst (λ z. BeginsScript b 200 (t.front ++ z ∷ [])) (sym (head_is t.x x t.back (m ++ s.back) q)) (begins_less b 200 t.front s.front m x p s.begins))

two_first : (b : List ℕ) (tokens : List Lexeme) (end : ℕ) (a c : ReadRefusal) → IsFirst b end tokens a → IsFirst b end tokens c → a ≢ e.Memory → c ≢ e.Memory → a ≡ c
two_first b tokens end (e.Syntax at) (e.Syntax to) f g m n = ap e.Syntax (two_syntax b tokens end at to f g)
two_first b tokens end (e.Deep at) (e.Deep to) f g m n = ap e.Deep (two_deep b tokens at to f g)
two_first b tokens end (e.Syntax at) (e.Deep to) f g m n = absurd (not_both b tokens end at to f g)
two_first b tokens end (e.Deep at) (e.Syntax to) f g m n = absurd (not_both b tokens end to at g f)
two_first b tokens end e.Memory c f g m n = absurd (m refl)
two_first b tokens end (e.Syntax at) e.Memory f g m n = absurd (n refl)
two_first b tokens end (e.Deep at) e.Memory f g m n = absurd (n refl)

-- refusals of scripts

pub one_lists : (bytes : List ℕ) (es fs : List Sexp) → IsScriptText bytes es → IsScriptText bytes fs → es ≡ fs
one_lists bytes es fs h k = one_script bytes 200 200 es fs (lexemes_of bytes) h k

told : (a : ScriptRefusal) (o : Option ScriptRefusal) → a ≢ r.Memory → IsScriptRefused a o → o ≡ Some a
told (r.Syntax at) o m h = h
told (r.Literal at) o m h = h
told (r.Deep at) o m h = h
told (r.Undeclared at) o m h = h
told (r.Redeclared at) o m h = h
told (r.Arity at) o m h = h
told (r.Kind at) o m h = h
told (r.NonLinear at) o m h = h
told (r.Many at) o m h = h
told r.Large o m h = h
told (r.Profile at) o m h = h
told r.Memory o m h = absurd (m refl)

-- where the tokens are a script, no refusal of the tokens is told
no_tokens : (bytes : List ℕ) (es : List Sexp) (a : ScriptRefusal) → IsScriptText bytes es → RefusesTokens bytes a → a ≡ r.Memory
no_tokens bytes es a h t = t.is ∙ ap as_script (not_first bytes es (lexemes_of bytes) (length bytes) t.tokens h t.first)

some_same : (a c : ScriptRefusal) → Some a ≡ Some c → a ≡ c
some_same a c h = cc

not_memory : (a : ReadRefusal) (x : ScriptRefusal) → x ≡ as_script a → x ≢ r.Memory → a ≢ e.Memory
not_memory a x is m bad = m (is ∙ ap as_script bad)

pub one_refusal : (bytes : List ℕ) (a c : ScriptRefusal) → RefusesScript script_terms bytes a → RefusesScript script_terms bytes c → a ≢ r.Memory → c ≢ r.Memory → a ≡ c
one_refusal bytes a c (inl s) (inl t) m n =
    s.is ∙ ap as_script (two_first bytes (lexemes_of bytes) (length bytes) s.tokens t.tokens s.first t.first (not_memory s.tokens a s.is m) (not_memory t.tokens c t.is n)) ∙ sym t.is
one_refusal bytes a c (inl s) (inr t) m n = absurd (m (no_tokens bytes t.lists a t.said s))
one_refusal bytes a c (inr s) (inl t) m n = absurd (n (no_tokens bytes s.lists c s.said t))
one_refusal bytes a c (inr s) (inr t) m n =
    let same : s.lists ≡ t.lists = one_script bytes 200 200 s.lists t.lists (lexemes_of bytes) s.said t.said in
    some_same a c (sym (told a (refusal_of script_terms (read_as s.lists)) m s.is) ∙ ap (λ z. refusal_of script_terms (read_as z)) same ∙ told c (refusal_of script_terms (read_as t.lists)) n t.is)

not_told : (a : ScriptRefusal) → IsScriptRefused a None → a ≡ r.Memory
not_told (r.Syntax at) h = absurd (cc)
not_told (r.Literal at) h = absurd (cc)
not_told (r.Deep at) h = absurd (cc)
not_told (r.Undeclared at) h = absurd (cc)
not_told (r.Redeclared at) h = absurd (cc)
not_told (r.Arity at) h = absurd (cc)
not_told (r.Kind at) h = absurd (cc)
not_told (r.NonLinear at) h = absurd (cc)
not_told (r.Many at) h = absurd (cc)
not_told r.Large h = absurd (cc)
not_told (r.Profile at) h = absurd (cc)
not_told r.Memory h = refl

-- a script without faults is refused for lack of memory alone
pub only_memory : (bytes : List ℕ) (es : List Sexp) (a : ScriptRefusal) → IsScriptText bytes es → refusal_of script_terms (read_as es) ≡ None → RefusesScript script_terms bytes a → a ≡ r.Memory
only_memory bytes es a said fits (inl t) = no_tokens bytes es a said t
only_memory bytes es a said fits (inr c) =
    let same : c.lists ≡ es = one_lists bytes c.lists es c.said said in
    not_told a (subst (IsScriptRefused a) (ap (λ z. refusal_of script_terms (read_as z)) same ∙ fits) c.is)

pub never_both : (bytes : List ℕ) (ps : List Problem) → IsScriptOf bytes ps → ¬ (IsLargeScript bytes)
never_both bytes ps h l = h.posed.small (subst (λ z. AreLarge (checks_in (read_as z))) (one_lists bytes l.lists h.lists l.said h.said) l.large.large)
