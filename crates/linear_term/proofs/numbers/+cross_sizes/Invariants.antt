use Rattle.linear_term.proofs.numbers.+cross_sizes.Given as goal

abbrev pub decreases-cross_sizes : goal.decreases-cross_sizes
decreases-cross_sizes l = l.b
