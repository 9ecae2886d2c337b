-- Where an input is cut into pieces: after each outermost list, by what its bytes belong to (SMT-LIB 2.6, section 3.1).
use Rattle.std.specs.Prelude.{ℕ, ◌+◌, ◌-◌, ◌==◌, ◌||◌, Bool, true, false, List, [], ◌∷◌, ◌++◌, fold, nat_le, if◌then◌else◌}
use Rattle.smt_tokens.specs.Lexemes.{lexemes_of}
use Rattle.smt_tokens.specs.declared.terminals.Lexeme.{Lexeme}
use Rattle.job_dialogue.specs.declared.pieces.Region.{Region}
use Rattle.job_dialogue.specs.declared.pieces.Region.TheVariants as r
use Rattle.job_dialogue.specs.declared.pieces.Scan.{Scan}

-- what the next byte belongs to: a comment ends with its line, a string at a quote, and a symbol between bars at a bar
abbrev pub region_on : Region → ℕ → Region
region_on r.Lists b = if b == 59 then r.Comment else (if b == 34 then r.Quotes else (if b == 124 then r.Bars else r.Lists))
region_on r.Comment b = if b == 10 || b == 13 then r.Lists else r.Comment
region_on r.Quotes b = if b == 34 then r.Lists else r.Quotes
region_on r.Bars b = if b == 124 then r.Lists else r.Bars

-- how many lists are open after a byte
abbrev pub depth_on : Region → ℕ → ℕ → ℕ
depth_on r.Lists n b = if b == 40 then n + 1 else (if b == 41 then n - 1 else n)
depth_on r.Comment n b = n
depth_on r.Quotes n b = n
depth_on r.Bars n b = n

abbrev pub scan_on : Scan → ℕ → Scan
scan_on s b = record { region = region_on s.region b; depth = depth_on s.region s.depth b }

abbrev pub ends_in : Region → ℕ → ℕ → Bool
ends_in r.Lists n b = if b == 41 then nat_le n 1 else false
ends_in r.Comment n b = false
ends_in r.Quotes n b = false
ends_in r.Bars n b = false

-- the byte ends a piece: it closes an outermost list, or closes nothing
abbrev pub ends_piece : Scan → ℕ → Bool
ends_piece s b = ends_in s.region s.depth b

-- where an input begins
abbrev pub first_scan : Scan
first_scan = record { region = r.Lists; depth = 0 }

-- the pieces of what is read, and what is read of the next one
pub record Cut : Type 0 where
  pub pieces : List (List ℕ)
  pub rest : List ℕ
  pub scan : Scan

abbrev pub cut_where : Bool → Cut → ℕ → Cut
cut_where true c b = record { pieces = c.pieces ++ (c.rest ++ b ∷ []) ∷ []; rest = []; scan = scan_on c.scan b }
cut_where false c b = record { pieces = c.pieces; rest = c.rest ++ b ∷ []; scan = scan_on c.scan b }

-- with one byte more
abbrev pub cut_on : Cut → ℕ → Cut
cut_on c b = cut_where (ends_piece c.scan b) c b

abbrev pub first_cut : Cut
first_cut = record { pieces = []; rest = []; scan = first_scan }

-- how these bytes are cut
abbrev pub cut_of : List ℕ → Cut
cut_of = fold cut_on first_cut

abbrev pub piece_where : List Lexeme → List ℕ → List (List ℕ)
piece_where [] rest = []
piece_where (x ∷ tokens) rest = rest ∷ []

-- what is left at the end of an input is a piece of its own, where it has a token
abbrev pub last_piece : List ℕ → List (List ℕ)
last_piece rest = piece_where (lexemes_of rest) rest
