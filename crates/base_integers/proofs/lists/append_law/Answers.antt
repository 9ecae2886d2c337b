use Rattle.base_integers.proofs.Entries.{put-length, put-append_left, put-append_right}
use Rattle.base_integers.proofs.lists.append_law.Goals as goal

pub returns : goal.returns
returns c = record {
  end = put-length;
  front = put-append_left;
  back = put-append_right;
}
