-- How long the text of a problem is at most.
use Rattle.std.proofs.Common.{◌≡◌, ◌≤◌, ◌<◌, ◌^◌, ◌+◌, ◌*◌, ℕ, zero, suc, List, [], ◌++◌, length, cond, true, false, nat_eq, Bool, codes, refl, ap, ◌∙◌, arith}
use Rattle.std.proofs.lemmas.List.{length-append}
use Rattle.std.proofs.lemmas.Fmt.{length-decimal-le}
use Rattle.std.specs.Fmt.{decimal}
use Rattle.problem_gen.specs.Drills.{conjunct_text, conjuncts_text, drill_text}

number_size : (n : ℕ) → n ≤ 1005 → length (decimal n) ≤ 4
number_size n small = length-decimal-le 4 n (omega arith) (omega (arith, small)) (omega (arith, small))

conjunct_size : (i : ℕ) → i ≤ 1000 → length (conjunct_text i) ≤ 60
conjunct_size i small =
    let behind = length-append (decimal (i + 4)) (codes "))") in
    let middle = length-append (codes ") & \\forall int x; (p(x) -> p(x + 2)) -> p(") (decimal (i + 4) ++ codes "))") in
    let front = length-append (decimal i) (codes ") & \\forall int x; (p(x) -> p(x + 2)) -> p(" ++ (decimal (i + 4) ++ codes "))")) in
    omega (arith, front, middle, behind, number_size i (omega (arith, small)), number_size (i + 4) (omega (arith, small)))

between_size : (b : Bool) → length (cond b [] (codes " &\n")) ≤ 3
between_size true = omega arith
between_size false = omega arith

conjuncts_size : (n : ℕ) → n ≤ 1000 → length (conjuncts_text n) ≤ 63 * n
conjuncts_size zero small = omega arith
conjuncts_size (suc i) small =
    let all = length-append (conjuncts_text i) (cond (nat_eq i 0) [] (codes " &\n") ++ conjunct_text i) in
    let last = length-append (cond (nat_eq i 0) [] (codes " &\n")) (conjunct_text i) in
    omega (arith, all, last, between_size (nat_eq i 0), conjunct_size i (omega (arith, small)), conjuncts_size i (omega (arith, small)))

pub drill_size : (n : ℕ) → n ≤ 1000 → length (drill_text n) < 2 ^ 32
drill_size n small =
    let behind = length-append (conjuncts_text n) (codes "\n}\n") in
    omega (arith, behind, conjuncts_size n small, small)
