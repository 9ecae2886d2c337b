-- How the blocks of a file are read, one after another.
use Rattle.std.proofs.Common.{ℕ, ◌≡◌, ◌==◌, ◌||◌, Bool, true, false, List, [], ◌∷◌, ◌++◌, length, Some, Ok, Err, refl, ap, ◌∙◌, arith}
use Rattle.std.proofs.lemmas.Bool.Decides.{nat_tests}
use Rattle.pri_tokens.specs.declared.terminals.Lexeme.{Lexeme}
use Rattle.pri_reader.specs.declared.tree.Block.{Block}
use Rattle.pri_reader.specs.declared.tree.ReadRefusal.{ReadRefusal}
use Rattle.pri_reader.specs.declared.tree.ReadRefusal.TheVariants as refusal
use Rattle.pri_reader.specs.declared.classes.Heading.{Heading}
use Rattle.pri_reader.specs.declared.classes.Heading.TheVariants as h
use Rattle.pri_reader.specs.Grammar.{is_problem, has_problem}
use Rattle.pri_reader.specs.MachineStates.{a_block}
use Rattle.pri_reader.specs.Reading.{FailsWith, Heads, HeadsNone, place, reads}
use Rattle.pri_reader.specs.BlockReading.{IsBlock, IsNoBlock, IsSecond, heads_problem}
use Rattle.pri_reader.proofs.Exits.{through}
use Rattle.pri_reader.proofs.BlockSteps.{block_step, block_twice, block_bad, file_ends, file_short}

-- the tokens before the last ones are these blocks
pub record Blocked (b : List ℕ) (t0 t1 : List Lexeme) (blocks : List Block) : Type 0 where
  pub run : reads b t0 (a_block []) [] ≡ reads b t1 (a_block blocks) []

heads : (heading : Heading) → heads_problem heading ≡ true → heading ≡ h.Problem
heads h.Problem e = refl
heads _ e = absurd cc

problem_heads : (heading : Heading) → heading ≡ h.Problem → heads_problem heading ≡ true
problem_heads heading e = ap heads_problem e

pub has_problem-more : (blocks : List Block) (block : Block) → has_problem (blocks ++ block ∷ []) ≡ has_problem blocks || is_problem block
has_problem-more [] block = or_false (is_problem block)
  where
    or_false : (x : Bool) → (x || false) ≡ x
    or_false true = refl
    or_false false = refl
has_problem-more (one ∷ blocks) block = or_more (is_problem one) (has_problem blocks) (is_problem block) (has_problem-more blocks block)
  where
    or_more : (x y z : Bool) {w : Bool} → w ≡ (y || z) → (x || w) ≡ ((x || y) || z)
    or_more true y z e = refl
    or_more false y z e = e

pub blocks_begin : {b : List ℕ} {t0 : List Lexeme} → Blocked b t0 t0 []
blocks_begin = record { run = refl }

pub blocks_next : {b : List ℕ} {heading : Heading} {x : Lexeme} {blocks : List Block} {one : Block} {t0 t1 t2 t3 : List Lexeme}
    → Blocked b t0 t1 blocks → Heads heading x t1 t2 → (heads_problem heading ≡ true → has_problem blocks ≡ false) → IsBlock b heading x.at one t2 t3 → Blocked b t0 t3 (blocks ++ one ∷ [])
blocks_next {heading = heading} {blocks = blocks} i s p r =
    record { run = i.run ∙ block_step _ _ _ _ heading blocks s.parts s.is (λ e. p (problem_heads heading e)) ∙ r.run blocks }

pub blocks_twice : {b : List ℕ} {heading : Heading} {x : Lexeme} {blocks : List Block} {e : ReadRefusal} {t0 t1 t2 : List Lexeme}
    → Blocked b t0 t1 blocks → Heads heading x t1 t2 → IsSecond (has_problem blocks) heading x.at e → FailsWith e (reads b t0 (a_block []) [])
blocks_twice {heading = heading} {blocks = blocks} i s d = rw d.is (i.run ∙ block_twice _ _ _ _ blocks s.parts (s.is ∙ ap Some (heads heading d.heads)) d.had)

pub blocks_none : {b : List ℕ} {heading : Heading} {x : Lexeme} {blocks : List Block} {e : ReadRefusal} {t0 t1 t2 : List Lexeme}
    → Blocked b t0 t1 blocks → Heads heading x t1 t2 → (heads_problem heading ≡ true → has_problem blocks ≡ false) → IsNoBlock b heading x.at t2 e → FailsWith e (reads b t0 (a_block []) [])
blocks_none {heading = heading} {blocks = blocks} {e = e} i s p r =
    through e (i.run ∙ block_step _ _ _ _ heading blocks s.parts s.is (λ e. p (problem_heads heading e))) (r.run blocks)

pub blocks_done : (b : List ℕ) (tokens : List Lexeme) (blocks : List Block) → (length tokens == 0) ≡ true → has_problem blocks ≡ true → reads b tokens (a_block blocks) [] ≡ Ok (record { blocks = blocks })
blocks_done b [] blocks e p = file_ends b blocks p
blocks_done b (x ∷ tokens) blocks e p = let q : length (x ∷ tokens) ≡ 0 = grind (arith, nat_tests) in absurd (omega arith)

pub blocks_short : (b : List ℕ) (tokens : List Lexeme) (blocks : List Block) → HeadsNone tokens → has_problem blocks ≡ false → reads b tokens (a_block blocks) [] ≡ Err (refusal.Syntax (place (length b) tokens))
blocks_short b [] blocks n p = file_short b blocks p
blocks_short b (x ∷ tokens) blocks n p = block_bad b (x ∷ tokens) tokens x blocks refl (n.no x tokens refl)

pub blocks_bad : (b : List ℕ) (tokens : List Lexeme) (blocks : List Block) → HeadsNone tokens → (length tokens == 0) ≡ false → reads b tokens (a_block blocks) [] ≡ Err (refusal.Syntax (place (length b) tokens))
blocks_bad b [] blocks n p = absurd cc
blocks_bad b (x ∷ tokens) blocks n p = block_bad b (x ∷ tokens) tokens x blocks refl (n.no x tokens refl)
