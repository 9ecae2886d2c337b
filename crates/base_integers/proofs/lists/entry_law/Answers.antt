use Rattle.base_integers.proofs.Entries.{entry-past, entry-append_left, entry-append_right}
use Rattle.base_integers.proofs.lists.entry_law.Goals as goal

pub returns : goal.returns
returns c = record {
  past = entry-past;
  front = entry-append_left;
  back = entry-append_right;
}
