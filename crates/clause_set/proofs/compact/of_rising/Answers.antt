use Rattle.std.proofs.Common.{rules, ◌≡◌, ◌||◌, true, sym}
use Rattle.std.specs.List.{list_all}
use Rattle.clause_set.specs.Apart.{is_open, is_plain}
use Rattle.clause_set.proofs.Plain.{compact_apart}
use Rattle.clause_set.proofs.compact.of_rising.Goals as goal

pub returns-then-are_open : goal.returns-then-are_open
returns-then-are_open c =
    let wide : (list_all is_plain c.args.literals || list_all (is_open c.args.literals) c.args.literals) ≡ true = search rules in
    sym (compact_apart c.args.literals (record { rising = c.requires; apart = wide }))
