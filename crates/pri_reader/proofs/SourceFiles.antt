-- What the machine's answer says of a file.
use Rattle.std.proofs.Common.{ℕ, zero, suc, ◌≡◌, ◌≤◌, ◌-◌, List, [], ◌∷◌, length, Option, Some, None, Result, Ok, Err, refl, sym, ◌∙◌, arith}
use Rattle.pri_tokens.specs.declared.terminals.Terminal.{Terminal}
use Rattle.pri_tokens.specs.declared.terminals.Lexeme.{Lexeme}
use Rattle.pri_tokens.specs.Lexemes.{lexemes_from, piece_of, put}
use Rattle.pri_reader.specs.declared.tree.File.{File}
use Rattle.pri_reader.specs.declared.tree.ReadRefusal.{ReadRefusal}
use Rattle.pri_reader.specs.declared.tree.ReadRefusal.TheVariants as refusal
use Rattle.pri_reader.specs.Grammar.{IsFile}
use Rattle.pri_reader.specs.MachineStates.{a_block}
use Rattle.pri_reader.specs.Reading.{GivesFile, AnswersRefusal, FailsWith, file_setting, reads}
use Rattle.pri_reader.specs.First.{Refuses, AsksNumber, IsFirstRefusal}
use Rattle.std.specs.Result.{IfErr, IfOk}
use Rattle.pri_reader.proofs.CompleteBlocks.{file_complete}
use Rattle.pri_reader.proofs.Sound.{file_sound}
use Rattle.pri_reader.proofs.FirstRefusal.{first_refused, first_none, first_unique}

put_length : (at n : ℕ) (terminal : Option Terminal) (more : List Lexeme) → length (put at n terminal more) ≤ suc (length more)
put_length at n None more = omega arith
put_length at n (Some terminal) more = omega arith

-- a file has no more tokens than bytes
pub tokens_length : (at skip : ℕ) (bytes : List ℕ) → length (lexemes_from at skip bytes) ≤ length bytes
unfolding lexemes_from
tokens_length at skip [] = omega arith
tokens_length at (suc skip) (b ∷ bytes) = let h = tokens_length (suc at) skip bytes in omega arith
tokens_length at zero (b ∷ bytes) =
    let h = tokens_length (suc at) ((piece_of b bytes).len - 1) bytes in
    let p = put_length at (piece_of b bytes).len (piece_of b bytes).terminal (lexemes_from (suc at) ((piece_of b bytes).len - 1) bytes) in
    omega arith

pub found : (b : List ℕ) (tokens : List Lexeme) (file : File) → reads b tokens (a_block []) [] ≡ Ok file → IsFile (file_setting b) file tokens
unfolding reads
found b tokens file h = file_sound (file_setting b) (length b) file tokens h

pub small_asks : (b : List ℕ) → AsksNumber (file_setting b).small
small_asks b = λ one two n. refl

pub shallow_asks : (b : List ℕ) → AsksNumber (file_setting b).shallow
shallow_asks b = λ one two n. refl

pub caused : (b : List ℕ) (tokens : List Lexeme) (e : ReadRefusal) → FailsWith e (reads b tokens (a_block []) []) → Refuses (file_setting b) (length b) tokens e
unfolding reads
caused b tokens refusal.Memory h = tt
caused b tokens (refusal.Syntax at) h = first_refused (file_setting b) (small_asks b) (shallow_asks b) (length b) tokens (refusal.Syntax at) h
caused b tokens (refusal.Literal at) h = first_refused (file_setting b) (small_asks b) (shallow_asks b) (length b) tokens (refusal.Literal at) h
caused b tokens (refusal.Deep at) h = first_refused (file_setting b) (small_asks b) (shallow_asks b) (length b) tokens (refusal.Deep at) h

read_complete : (b : List ℕ) (tokens : List Lexeme) (file : File) → IsFile (file_setting b) file tokens → reads b tokens (a_block []) [] ≡ Ok file
unfolding reads
read_complete b tokens file h = file_complete (file_setting b) (length b) file tokens h

pub answered : (b : List ℕ) (tokens : List Lexeme) (result : Result File ReadRefusal) → IfOk result (λ file. reads b tokens (a_block []) [] ≡ Ok file)
    → IfErr result (λ e. FailsWith e (reads b tokens (a_block []) [])) → (file : File) → IsFile (file_setting b) file tokens → GivesFile file result
answered b tokens (Ok g) h k file f = let e = read_complete b tokens file f in cc
answered b tokens (Err refusal.Memory) h k file f = tt
answered b tokens (Err (refusal.Syntax at)) h k file f = let e : Ok file ≡ Err (refusal.Syntax at) = sym (read_complete b tokens file f) ∙ k in absurd cc
answered b tokens (Err (refusal.Literal at)) h k file f = let e : Ok file ≡ Err (refusal.Literal at) = sym (read_complete b tokens file f) ∙ k in absurd cc
answered b tokens (Err (refusal.Deep at)) h k file f = let e : Ok file ≡ Err (refusal.Deep at) = sym (read_complete b tokens file f) ∙ k in absurd cc

pub refused_caused : (b : List ℕ) (tokens : List Lexeme) (result : Result File ReadRefusal) → IfErr result (λ e. FailsWith e (reads b tokens (a_block []) []))
    → IfErr result (Refuses (file_setting b) (length b) tokens)
refused_caused b tokens (Ok file) h = tt
refused_caused b tokens (Err e) h = caused b tokens e h

-- what is the first refusal is answered
pub refused_so : (b : List ℕ) (tokens : List Lexeme) (result : Result File ReadRefusal) → IfOk result (λ file. reads b tokens (a_block []) [] ≡ Ok file)
    → IfErr result (λ e. FailsWith e (reads b tokens (a_block []) [])) → (e : ReadRefusal) → IsFirstRefusal (file_setting b) (length b) tokens e → AnswersRefusal e result
refused_so b tokens (Ok g) h k e first = first_none (file_setting b) (length b) tokens g e (small_asks b) (shallow_asks b) (found b tokens g h) first
refused_so b tokens (Err refusal.Memory) h k e first = tt
refused_so b tokens (Err (refusal.Syntax at)) h k e first = first_unique (file_setting b) (length b) tokens (refusal.Syntax at) e (small_asks b) (shallow_asks b) (caused b tokens (refusal.Syntax at) k) first
refused_so b tokens (Err (refusal.Literal at)) h k e first = first_unique (file_setting b) (length b) tokens (refusal.Literal at) e (small_asks b) (shallow_asks b) (caused b tokens (refusal.Literal at) k) first
refused_so b tokens (Err (refusal.Deep at)) h k e first = first_unique (file_setting b) (length b) tokens (refusal.Deep at) e (small_asks b) (shallow_asks b) (caused b tokens (refusal.Deep at) k) first
