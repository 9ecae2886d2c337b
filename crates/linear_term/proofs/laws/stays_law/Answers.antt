use Rattle.linear_term.proofs.Ranges.{Stays-from_test, test-from_Stays, All-from_all_stay, all_stay-from_All}
use Rattle.linear_term.proofs.laws.stays_law.Goals as goal

pub returns : goal.returns
returns c = record {
  stays = λ p. (Stays-from_test p, test-from_Stays p);
  all = λ ps. (All-from_all_stay ps, all_stay-from_All ps);
}
