-- The cuts of a problem that is posed.
use Rattle.std.proofs.Common.{List, ℕ, Result, Ok, Err, IfOk}
use Rattle.pri_typing.specs.declared.problem.Problem.{Problem}
use Rattle.pri_typing.proofs.CutConstants.{cut_alone}
use Rattle.pri_typing.proofs.Least.{least-none}
use Rattle.pri_problem.specs.declared.fault.FileFault.{FileFault}
use Rattle.pri_problem.specs.Answers.{Poses}
use Rattle.pri_problem.specs.Cuttable.{IsCuttable}
use Rattle.pri_problem.proofs.Bytes.{reads_pure}

pub poses_cuttable : (bytes : List ℕ) (p : Problem) → Poses bytes p → IsCuttable p
poses_cuttable bytes p poses =
    let reads = poses.reads in
    record {
      pure = reads_pure bytes p reads;
      alone = λ some. cut_alone reads.file p (least-none _ reads.sound) reads.typed some;
    }

-- the same of the answer of a call
pub cuttable_so : (bytes : List ℕ) (r : Result Problem FileFault) → IfOk r (Poses bytes) → IfOk r IsCuttable
cuttable_so bytes (Ok p) h = poses_cuttable bytes p h
cuttable_so bytes (Err fault) h = tt
