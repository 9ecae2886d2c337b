-- The offsets of the lists of a script rise, so that the least fault of all is one of the first command that has any.
use Rattle.std.proofs.Common.{ℕ, zero, suc, ◌≡◌, ◌≤◌, ◌<◌, ◌+◌, ◌-◌, Bool, true, false, List, [], ◌∷◌, ◌++◌, length, map, refl, sym, ap, subst, ◌∙◌, arith, nat_lt, nat_eq, ◌&&◌, ◌||◌, Option, Some, None, if◌then◌else◌}
use Rattle.smt_tokens.specs.declared.terminals.Terminal.{Terminal}
use Rattle.smt_tokens.specs.declared.terminals.Lexeme.{Lexeme}
use Rattle.smt_tokens.specs.Lexemes.{lexemes_from, lexemes_of, piece_of, put}
use Rattle.smt_lists.specs.declared.tree.Sexp.{Sexp}
use Rattle.smt_lists.specs.Expressions.{Expr, Exprs, atom, list, no_expr, and_expr, exprs, expr, place_of}
use Rattle.smt_lists.proofs.Folds.{expr-Atom, expr-List}
use Rattle.smt_lists.specs.Atoms.{atom_of}
use Rattle.smt_lists.specs.Grammar as grammar
use Rattle.smt_lists.specs.Grammar.{IsScriptText, SayAll, SaysSexp, more, nothing}
use Rattle.smt_commands.specs.declared.refusal.ScriptRefusal.{ScriptRefusal}
use Rattle.smt_commands.specs.declared.table.Entry.{Entry}
use Rattle.smt_commands.specs.Commands as form
use Rattle.smt_commands.specs.Commands.{CommandForm}
use Rattle.smt_commands.specs.Levels.{Levels, lowest}
use Rattle.smt_commands.specs.Faults as faults
use Rattle.smt_commands.specs.Faults.{behind, command_faults, or_later, refusal_from, refusal_of, unless_exit}
use Rattle.smt_commands.specs.Least.{is_before, least, least_from, number_of, place_in, sooner}
use Rattle.smt_commands.proofs.Least.{least_from-append}
use Rattle.smt_reader.specs.Commands.{script_terms}
use Rattle.smt_reader.specs.Read.{read_as}
use Rattle.smt_reader.specs.Order.{all_faults, unless_end}
use Rattle.smt_reader.proofs.Offsets.{ExprAt, ExprsAt, FaultsAt, both_at}
use Rattle.smt_reader.proofs.Forms.{command_faults_at}

-- Tokens.

-- the tokens stand one after another from an offset on and up to another
abbrev Rising : ℕ → List Lexeme → ℕ → Type 0
Rising low [] high = low ≤ high
Rising low (x ∷ xs) high = low ≤ x.at × Rising (suc x.at) xs high

rising_from : (low from high : ℕ) (xs : List Lexeme) → low ≤ from → Rising from xs high → Rising low xs high
rising_from low from high [] h k = omega (arith, h, k)
rising_from low from high (x ∷ xs) h k = (omega (arith, h, k.0), k.1)

put_rising : (at n : ℕ) (terminal : Option Terminal) (ls : List Lexeme) (high : ℕ) → Rising (suc at) ls high → Rising at (put at n terminal ls) high
put_rising at n None ls high h = rising_from at (suc at) high ls (omega arith) h
put_rising at n (Some terminal) ls high h = (omega arith, h)

tokens_rising : (at skip : ℕ) (text : List ℕ) (high : ℕ) → at + length text ≤ high → Rising at (lexemes_from at skip text) high
unfolding lexemes_from
tokens_rising at skip [] high h = omega (arith, h)
tokens_rising at (suc skip) (b ∷ text) high h = rising_from at (suc at) high (lexemes_from (suc at) skip text) (omega arith) (tokens_rising (suc at) skip text high (omega (arith, h)))
tokens_rising at zero (b ∷ text) high h =
    put_rising at (piece_of b text).len (piece_of b text).terminal (lexemes_from (suc at) ((piece_of b text).len - 1) text) high
    (tokens_rising (suc at) ((piece_of b text).len - 1) text high (omega (arith, h)))

-- tokens that rise, split
abbrev Split : ℕ → List Lexeme → List Lexeme → ℕ → Type 0
Split low xs ys high = (middle : ℕ) × Rising low xs middle × Rising middle ys high

split : (low : ℕ) (xs ys : List Lexeme) (high : ℕ) → Rising low (xs ++ ys) high → Split low xs ys high
split low [] ys high h = (low, omega arith, h)
split low (x ∷ xs) ys high h =
    let rest = split (suc x.at) xs ys high h.1 in
    (rest.0, (h.0, rest.1), rest.2)

lower : (low : ℕ) (xs : List Lexeme) (high : ℕ) → Rising low xs high → low ≤ high
lower low [] high h = h
lower low (x ∷ xs) high h = omega (arith, h.0, lower (suc x.at) xs high h.1)

-- S-expressions.

-- from an offset on and before another
abbrev In : ℕ → ℕ → ℕ → Type 0
In low high o = low ≤ o × o < high

mutual
  wider : (a b c d : ℕ) → c ≤ a → b ≤ d → (e : Expr) → ExprAt (In a b) e → ExprAt (In c d) e
  wider a b c d h k (atom x) l = (omega (arith, h, l.0), omega (arith, k, l.1))
  wider a b c d h k (list at es) l = ((omega (arith, h, l.0.0), omega (arith, k, l.0.1)), all_wider a b c d h k es l.1)

  all_wider : (a b c d : ℕ) → c ≤ a → b ≤ d → (es : Exprs) → ExprsAt (In a b) es → ExprsAt (In c d) es
  all_wider a b c d h k no_expr l = tt
  all_wider a b c d h k (and_expr e es) l = (wider a b c d h k e l.0, all_wider a b c d h k es l.1)

-- S-expressions stand one after another
abbrev Rows : ℕ → List Expr → ℕ → Type 0
Rows low [] high = low ≤ high
Rows low (e ∷ es) high = (middle : ℕ) × (low ≤ middle) × ExprAt (In low middle) e × Rows middle es high

rows_end : (low : ℕ) (es : List Expr) (high : ℕ) → Rows low es high → low ≤ high
rows_end low [] high h = h
rows_end low (e ∷ es) high h = omega (arith, h.1, rows_end h.0 es high h.3)

rows_within : (low : ℕ) (es : List Expr) (high : ℕ) → Rows low es high → ExprsAt (In low high) (exprs es)
rows_within low [] high h = tt
rows_within low (e ∷ es) high h = (
  wider low h.0 low high (omega arith) (rows_end h.0 es high h.3) e h.2,
  all_wider h.0 high low high h.1 (omega arith) (exprs es) (rows_within h.0 es high h.3),
)

row_more : (low : ℕ) (es : List Sexp) (e : Sexp) (middle high : ℕ) → middle ≤ high → Rows low (map expr es) middle → ExprAt (In middle high) (expr e) → Rows low (map expr (es ++ e ∷ [])) high
row_more low [] e middle high l h k = (high, omega (arith, h, l), wider middle high low high h (omega arith) (expr e) k, omega arith)
row_more low (x ∷ es) e middle high l h k = (h.0, h.1, h.2, row_more h.0 es e middle high l h.3 k)

mutual
  one_in : (b : List ℕ) (n : ℕ) (e : Sexp) (tokens : List Lexeme) → SaysSexp b n e tokens → (low high : ℕ) → Rising low tokens high → ExprAt (In low high) (expr e)
  one_in b n e tokens (grammar.atom x a is parts) low high h =
      let own : Rising low (x ∷ []) high = subst (λ z. Rising low z high) parts h in
      subst (ExprAt (In low high)) (sym (ap expr is ∙ expr-Atom (atom_of b x))) (own.0, omega (arith, own.1))
  one_in b n e tokens (grammar.list m x y es inner o all c levels is parts) low high h =
      let own : Rising low (x ∷ inner ++ y ∷ []) high = subst (λ z. Rising low z high) parts h in
      let parted = split (suc x.at) inner (y ∷ []) high own.1 in
      let last = lower parted.0 (y ∷ []) high parted.2 in
      let rows = all_in b m es inner all (suc x.at) parted.0 parted.1 in
      let first = rows_end (suc x.at) (map expr es) parted.0 rows in
      subst (ExprAt (In low high)) (sym (ap expr is ∙ expr-List x.at es))
      ((own.0, omega (arith, first, last)), all_wider (suc x.at) parted.0 low high (omega (arith, own.0)) last (exprs (map expr es)) (rows_within (suc x.at) (map expr es) parted.0 rows))

  all_in : (b : List ℕ) (n : ℕ) (es : List Sexp) (tokens : List Lexeme) → SayAll b n es tokens → (low high : ℕ) → Rising low tokens high → Rows low (map expr es) high
  all_in b n es tokens (nothing is parts) low high h = subst (λ z. Rows low (map expr z) high) (sym is) (subst (λ z. Rising low z high) parts h)
  all_in b n es tokens (more before e front back all one is parts) low high h =
      let parted = split low front back high (subst (λ z. Rising low z high) parts h) in
      subst (λ z. Rows low (map expr z) high) (sym is)
      (row_more low before e parted.0 high (lower parted.0 back high parted.2) (all_in b n before front all low parted.0 parted.1) (one_in b n e back one parted.0 high parted.2))

-- The least fault.

abbrev Behind : ℕ → ℕ → Type 0
Behind low o = low ≤ o

abbrev FoundBefore : ℕ → Option ScriptRefusal → Type 0
FoundBefore high None = Unit {0}
FoundBefore high (Some e) = place_in e < high

faults_weaker : (low high : ℕ) (xs : List ScriptRefusal) → FaultsAt (In low high) xs → FaultsAt (Behind low) xs
faults_weaker low high [] h = tt
faults_weaker low high (x ∷ xs) h = (h.0.0, faults_weaker low high xs h.1)

faults_from : (low from : ℕ) (xs : List ScriptRefusal) → low ≤ from → FaultsAt (Behind from) xs → FaultsAt (Behind low) xs
faults_from low from [] l h = tt
faults_from low from (x ∷ xs) l h = (omega (arith, l, h.0), faults_from low from xs l h.1)

chosen_before : (b : Bool) (x a : ScriptRefusal) (high : ℕ) → place_in x < high → place_in a < high → place_in (if b then x else a) < high
chosen_before true x a high h k = h
chosen_before false x a high h k = k

sooner_before : (found : Option ScriptRefusal) (x : ScriptRefusal) (high : ℕ) → FoundBefore high found → place_in x < high → place_in (sooner found x) < high
sooner_before None x high h k = k
sooner_before (Some a) x high h k = chosen_before (is_before x a) x a high k h

least_before : (found : Option ScriptRefusal) (low high : ℕ) (xs : List ScriptRefusal) → FoundBefore high found → FaultsAt (In low high) xs → FoundBefore high (least_from found xs)
least_before found low high [] h k = h
least_before found low high (x ∷ xs) h k = least_before (Some (sooner found x)) low high xs (sooner_before found x high h k.0.1) k.1

-- what stands after does not come before
not_before : (a m b n : ℕ) → b < a → (nat_lt a b || nat_eq a b && nat_lt m n) ≡ false
not_before a m b n h = grind (arith, h)

chosen_stays : (b : Bool) (x a : ScriptRefusal) → b ≡ false → (if b then x else a) ≡ a
chosen_stays true x a e = absurd (cc)
chosen_stays false x a e = refl

stays : (a : ScriptRefusal) (middle : ℕ) (ys : List ScriptRefusal) → place_in a < middle → FaultsAt (Behind middle) ys → least_from (Some a) ys ≡ Some a
stays a middle [] h k = refl
stays a middle (y ∷ ys) h k =
    let same : sooner (Some a) y ≡ a = chosen_stays (is_before y a) y a (not_before (place_in y) (number_of y) (place_in a) (number_of a) (omega (arith, h, k.0))) in
    ap (λ z. least_from (Some z) ys) same ∙ stays a middle ys h k.1

found_or : (found : Option ScriptRefusal) (middle : ℕ) (ys : List ScriptRefusal) → FoundBefore middle found → FaultsAt (Behind middle) ys → least_from found ys ≡ or_later found (least ys)
found_or None middle ys h k = refl
found_or (Some a) middle ys h k = stays a middle ys h k

least_both : (low middle : ℕ) (xs ys : List ScriptRefusal) → FaultsAt (In low middle) xs → FaultsAt (Behind middle) ys → least (xs ++ ys) ≡ or_later (least xs) (least ys)
least_both low middle xs ys h k = least_from-append None xs ys ∙ found_or (least xs) middle ys (least_before None low middle xs tt h) k

end_behind : (f : Option CommandForm) (low : ℕ) (ys : List ScriptRefusal) → FaultsAt (Behind low) ys → FaultsAt (Behind low) (unless_end f ys)
end_behind None low ys h = h
end_behind (Some form.skip) low ys h = h
end_behind (Some (form.say x)) low ys h = h
end_behind (Some (form.declare x sorts s)) low ys h = h
end_behind (Some (form.define g arguments s t)) low ys h = h
end_behind (Some (form.assert t)) low ys h = h
end_behind (Some (form.check_sat ts)) low ys h = h
end_behind (Some (form.push n)) low ys h = h
end_behind (Some (form.pop n)) low ys h = h
end_behind (Some form.reset) low ys h = h
end_behind (Some form.exit) low ys h = tt

end_least : (f : Option CommandForm) (ys : List ScriptRefusal) → least (unless_end f ys) ≡ unless_exit f (least ys)
end_least None ys = refl
end_least (Some form.skip) ys = refl
end_least (Some (form.say x)) ys = refl
end_least (Some (form.declare x sorts s)) ys = refl
end_least (Some (form.define g arguments s t)) ys = refl
end_least (Some (form.assert t)) ys = refl
end_least (Some (form.check_sat ts)) ys = refl
end_least (Some (form.push n)) ys = refl
end_least (Some (form.pop n)) ys = refl
end_least (Some form.reset) ys = refl
end_least (Some form.exit) ys = refl

all_behind : (table : Levels (List Entry)) (low : ℕ) (es : List Expr) (high : ℕ) → Rows low es high → FaultsAt (Behind low) (all_faults script_terms table es)
all_behind table low [] high h = tt
all_behind table low (e ∷ es) high h =
    let here = command_faults script_terms table (place_of e) (faults.form e) in
    let later = all_faults script_terms (behind table (faults.form e)) es in
    both_at (Behind low) here (unless_end (faults.form e) later)
    (faults_weaker low h.0 here (command_faults_at (In low h.0) table e h.2))
    (end_behind (faults.form e) low later (faults_from low h.0 later h.1 (all_behind (behind table (faults.form e)) h.0 es high h.3)))

least_of_all : (table : Levels (List Entry)) (low : ℕ) (es : List Expr) (high : ℕ) → Rows low es high → refusal_from script_terms table es ≡ least (all_faults script_terms table es)
least_of_all table low [] high h = refl
least_of_all table low (e ∷ es) high h =
    let f = faults.form e in
    let here = command_faults script_terms table (place_of e) f in
    let later = all_faults script_terms (behind table f) es in
    ap (λ z. or_later (least here) (unless_exit f z)) (least_of_all (behind table f) h.0 es high h.3)
    ∙ ap (λ z. or_later (least here) z) (sym (end_least f later))
    ∙ sym (least_both low h.0 here (unless_end f later) (command_faults_at (In low h.0) table e h.2) (end_behind f h.0 later (all_behind (behind table f) h.0 es high h.3)))

least_there : (bytes : List ℕ) (lists : List Sexp) → IsScriptText bytes lists → refusal_of script_terms (map expr lists) ≡ least (all_faults script_terms (lowest []) (map expr lists))
least_there bytes lists h =
    least_of_all (lowest []) 0 (map expr lists) (length bytes) (all_in bytes 200 lists (lexemes_of bytes) h.said 0 (length bytes) (tokens_rising 0 0 bytes (length bytes) (omega arith)))

-- where the lists are read as they stand
pub refusal_least : (bytes : List ℕ) (lists : List Sexp) → IsScriptText bytes lists → read_as lists ≡ map expr lists → refusal_of script_terms (read_as lists) ≡ least (all_faults script_terms (lowest []) (read_as lists))
refusal_least bytes lists h is = subst (λ z. refusal_of script_terms z ≡ least (all_faults script_terms (lowest []) z)) (sym is) (least_there bytes lists h)
