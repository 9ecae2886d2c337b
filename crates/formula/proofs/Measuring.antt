-- Sizes and depths, member by member.
use Rattle.formula.proofs.Building.{formed}

pub ruleset measured = (formed)
