use Rattle.base_integers.proofs.Entries.{entry-put_same, entry-put_other, put-put_same, put-comm, put-entry, length-put}
use Rattle.base_integers.proofs.lists.put_law.Goals as goal

pub returns : goal.returns
returns c = record {
  same = entry-put_same;
  other = entry-put_other;
  later = put-put_same;
  either_order = put-comm;
  present = put-entry;
  length_kept = length-put;
}
