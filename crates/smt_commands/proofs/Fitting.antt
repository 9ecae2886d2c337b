-- What a declaration and a definition without fault say of their symbol.
use Rattle.std.proofs.Common.{ℕ, ◌≡◌, ◌<◌, ◌||◌, Bool, true, false, List, [], ◌∷◌, ◌++◌, refl, sym, None, if◌then◌else◌, nat_le, arith}
use Rattle.std.proofs.lemmas.Bool.Decides.{nat_tests}
use Rattle.std.specs.List.{flat_map}
use Rattle.smt_lists.specs.Expressions.{Expr}
use Rattle.smt_commands.specs.declared.refusal.ScriptRefusal.{ScriptRefusal}
use Rattle.smt_commands.specs.declared.table.Entry.{Entry}
use Rattle.smt_commands.specs.Commands.{Symbol}
use Rattle.smt_commands.specs.Symbols.{declared_number, is_known, is_reserved, is_taken}
use Rattle.smt_commands.specs.Faults.{name_faults, many_faults, sort_faults, argument_faults, declaration_faults, definition_faults}
use Rattle.smt_commands.specs.Least.{least}
use Rattle.smt_commands.proofs.Least.{none_found}

both_none : {A : Type 0} (xs ys : List A) → xs ++ ys ≡ [] → (xs ≡ []) × (ys ≡ [])
both_none [] ys e = (refl, e)
both_none (x ∷ xs) ys e = absurd (cc)

no_fault : (c : Bool) (x : ScriptRefusal) → (if c then x ∷ [] else []) ≡ [] → c ≡ false
no_fault true x e = absurd (cc)
no_fault false x e = refl

right_false : (a b : Bool) → (a || b) ≡ false → b ≡ false
right_false true b e = absurd (cc)
right_false false b e = e

few_by : (n : ℕ) → nat_le 1000 n ≡ false → n < 1000
few_by n e = grind (arith, nat_tests)

-- a declaration without fault
pub declarable : (table : List Entry) (x : Symbol) (sorts : List Expr) (s : Expr) → None ≡ least (declaration_faults table x sorts s) → (is_known x.text table ≡ false) × (declared_number table < 1000)
declarable table x sorts s e =
    let none = none_found (declaration_faults table x sorts s) (sym e) in
    let front = (both_none (name_faults table x ++ many_faults table x ++ flat_map (sort_faults false) sorts) (sort_faults true s) none).0 in
    let two = (both_none (name_faults table x ++ many_faults table x) (flat_map (sort_faults false) sorts) front).0 in
    let each = both_none (name_faults table x) (many_faults table x) two in
    (right_false (is_reserved x.text) (is_known x.text table) (no_fault (is_taken x.text table) _ each.0), few_by (declared_number table) (no_fault (nat_le 1000 (declared_number table)) _ each.1))

-- a definition without fault
pub definable : (more : List ScriptRefusal) (table : List Entry) (x : Symbol) (arguments : List Expr) (s : Expr) → None ≡ least (definition_faults table x arguments s ++ more) → is_known x.text table ≡ false
definable more table x arguments s e =
    let own = definition_faults table x arguments s in
    let three = (both_none own more (none_found (own ++ more) (sym e))).0 in
    let two = (both_none (name_faults table x ++ flat_map argument_faults arguments) (sort_faults true s) three).0 in
    let name = (both_none (name_faults table x) (flat_map argument_faults arguments) two).0 in
    right_false (is_reserved x.text) (is_known x.text table) (no_fault (is_taken x.text table) _ name)
