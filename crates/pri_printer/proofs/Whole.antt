-- A text that spells a formula says it.
use Rattle.std.proofs.Common.{ℕ, ◌≡◌, ◌≤◌, ◌<◌, ◌-◌, ◌^◌, true, List, [], ◌++◌, length, refl, sym, ap, subst, ◌∙◌, arith, append-nil, nat_lt}
use Rattle.std.proofs.lemmas.Bool.Decides.{nat_tests}
use Rattle.pri_tokens.specs.Lexemes.{lexemes_from, lexemes_of}
use Rattle.pri_reader.specs.declared.tree.Expr.{Expr}
use Rattle.pri_reader.specs.Grammar.{Setting, Derives, whole}
use Rattle.pri_reader.specs.Reading.{file_setting}
use Rattle.form_typed.specs.Formula.{Formula}
use Rattle.pri_typing.specs.declared.problem.Problem.{Problem}
use Rattle.pri_typing.specs.Phrase.{first_token, phrase}
use Rattle.pri_printer.proofs.Spells.{Allows, Spells, IsFormula}
use Rattle.pri_printer.proofs.Writing.{tokens_at}
use Rattle.pri_typing.specs.Problems.{Says, scope_of_problem, text_setting}
use Rattle.pri_printer.specs.Printed.{IsWithinLimits}

whole_tokens : (bytes : List ℕ) → tokens_at bytes (bytes ++ []) ≡ lexemes_of bytes
whole_tokens bytes =
    let z : length bytes - length bytes ≡ 0 = omega arith in
    ap (tokens_at bytes) (append-nil bytes) ∙ ap (λ k. lexemes_from k 0 bytes) z

no_tokens : (bytes : List ℕ) → tokens_at bytes [] ≡ []
unfolding lexemes_from
no_tokens bytes = refl

-- a text that is spelled is derived whole
derived_whole : (n : ℕ) (p : Problem) (f : Formula) (s : Setting) → Allows s 0 n → Spells n whole (IsFormula (scope_of_problem p) f) s.bytes
    → (e : Expr) × Derives s 0 whole e (lexemes_of s.bytes) [] × IsFormula (scope_of_problem p) f (phrase e)
derived_whole n p f s a h =
    let g = h.wherever s 0 [] a (record { front = []; parts = sym (append-nil s.bytes) }) refl in (
      g.expression,
      subst (λ z. Derives s 0 whole g.expression z []) (whole_tokens s.bytes)
          (subst (λ z. Derives s 0 whole g.expression (tokens_at s.bytes (s.bytes ++ [])) z) (no_tokens s.bytes) g.derived),
      g.is,
    )

text_allows : (text : List ℕ) (n : ℕ) → Allows (text_setting text) 0 n
text_allows text n = record { numerals = λ rest v l. refl; levels = λ rest e l. refl }

pub says_by : (n : ℕ) (p : Problem) (f : Formula) (text : List ℕ) → Spells n whole (IsFormula (scope_of_problem p) f) text → Says text p f
says_by n p f text h =
    let g = derived_whole n p f (text_setting text) (text_allows text n) h in
    record { expression = g.0; derived = g.1; typed = g.2.faultless (first_token (phrase g.0)); is = g.2.is }

allowed : (v bound : ℕ) → v < bound → nat_lt v bound ≡ true
allowed v bound h = search (nat_tests, arith)

file_allows : (bytes : List ℕ) (n : ℕ) → n ≤ 200 → Allows (file_setting bytes) 0 n
file_allows bytes n h = record { numerals = λ rest v l. allowed v (2 ^ 127) l; levels = λ rest e l. allowed e 200 (omega arith) }

pub within_limits : (n : ℕ) (p : Problem) (f : Formula) (text : List ℕ) → n ≤ 200 → Spells n whole (IsFormula (scope_of_problem p) f) text → IsWithinLimits text
within_limits n p f text l h =
    let g = derived_whole n p f (file_setting text) (file_allows text n l) h in
    record { expression = g.0; derived = g.1 }
