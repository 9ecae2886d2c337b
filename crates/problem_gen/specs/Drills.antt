-- Large valid problems from a number.
use Rattle.std.specs.Prelude.{ℕ, zero, suc, ◌+◌, nat_eq, cond, List, [], ◌++◌, codes}
use Rattle.std.specs.Fmt.{decimal}

-- from p(i), by steps of two, to p(i + 4)
abbrev pub conjunct_text : ℕ → List ℕ
conjunct_text i = codes "(p(" ++ (decimal i ++ (codes ") & \\forall int x; (p(x) -> p(x + 2)) -> p(" ++ (decimal (i + 4) ++ codes "))")))

-- the first n of these, each but the first after `&` and a line feed
abbrev pub conjuncts_text : ℕ → List ℕ
conjuncts_text zero = []
conjuncts_text (suc i) = conjuncts_text i ++ (cond (nat_eq i 0) [] (codes " &\n") ++ conjunct_text i)

-- the problem whose formula is the conjunction of n of these
abbrev pub drill_text : ℕ → List ℕ
drill_text n = codes "\\predicates { p(int); }\n\\problem {\n" ++ (conjuncts_text n ++ codes "\n}\n")
