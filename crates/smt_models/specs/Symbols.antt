-- How a symbol is written: as it stands if it is a simple symbol, else between bars (SMT-LIB 2.6, section 3.1).
use Rattle.std.specs.Prelude.{ℕ, ◌&&◌, ◌||◌, not, Bool, List, ◌++◌, codes, if◌then◌else◌}
use Rattle.std.specs.Char.{is_ascii_digit}
use Rattle.base_texts.specs.Texts.{is_text}
use Rattle.smt_tokens.specs.Bytes.{is_symbol_byte}
use Rattle.smt_tokens.specs.Tokens.{begins, is_run}

-- a word that begins no command
abbrev pub is_general_word : List ℕ → Bool
is_general_word x = is_text x (codes "!") || is_text x (codes "_") || is_text x (codes "as") || is_text x (codes "BINARY") || is_text x (codes "DECIMAL")
    || is_text x (codes "exists") || is_text x (codes "HEXADECIMAL") || is_text x (codes "forall") || is_text x (codes "let") || is_text x (codes "match")
    || is_text x (codes "NUMERAL") || is_text x (codes "par") || is_text x (codes "STRING")

-- a command that declares or defines
abbrev pub is_defining_word : List ℕ → Bool
is_defining_word x = is_text x (codes "declare-const") || is_text x (codes "declare-datatype") || is_text x (codes "declare-datatypes") || is_text x (codes "declare-fun")
    || is_text x (codes "declare-sort") || is_text x (codes "define-const") || is_text x (codes "define-fun") || is_text x (codes "define-fun-rec")
    || is_text x (codes "define-funs-rec") || is_text x (codes "define-sort")

-- a command that asks
abbrev pub is_asking_word : List ℕ → Bool
is_asking_word x = is_text x (codes "check-sat") || is_text x (codes "check-sat-assuming") || is_text x (codes "get-assertions") || is_text x (codes "get-assignment")
    || is_text x (codes "get-info") || is_text x (codes "get-model") || is_text x (codes "get-option") || is_text x (codes "get-proof")
    || is_text x (codes "get-unsat-assumptions") || is_text x (codes "get-unsat-core") || is_text x (codes "get-value")

-- any other command
abbrev pub is_doing_word : List ℕ → Bool
is_doing_word x = is_text x (codes "assert") || is_text x (codes "echo") || is_text x (codes "exit") || is_text x (codes "pop") || is_text x (codes "push")
    || is_text x (codes "reset") || is_text x (codes "reset-assertions") || is_text x (codes "set-info") || is_text x (codes "set-logic") || is_text x (codes "set-option")

-- a reserved word
abbrev pub is_reserved : List ℕ → Bool
is_reserved x = is_general_word x || is_defining_word x || is_asking_word x || is_doing_word x

-- letters, digits and signs, no digit first, and no reserved word
abbrev pub is_simple : List ℕ → Bool
is_simple x = is_run is_symbol_byte x && not (begins is_ascii_digit x) && not (is_reserved x)

abbrev pub symbol_text : List ℕ → List ℕ
symbol_text x = if is_simple x then x else (codes "|" ++ (x ++ codes "|"))
