use Rattle.cdcl_fuel.proofs.numbers.gcd_of_words.Given as goal

abbrev pub decreases-loop-b : goal.decreases-loop-b
decreases-loop-b l = l.b
