use Rattle.std.proofs.Common.{◌≡◌, ◌+◌, ◌≤◌, [], ℕ, List, length}
use Rattle.clause_checker.specs.Views.{state_of}
use Rattle.clause_file.specs.Courses.{Reaches}
use Rattle.clause_file.specs.Costs.{check_price, HasPaid}
use Rattle.clause_file.specs.Verdicts.{first_line}
use Rattle.clause_proof.specs.declared.line.Line.{Line}
use Rattle.clause_text.specs.declared.head.Head.{Head}
use Rattle.formula.specs.Form.{Form}
use Rattle.clause_file.proofs.running.run_lines.Given as goal

abbrev pub invariant-loop-rest : goal.invariant-loop-rest
invariant-loop-rest l = record {
  within : length l.rest ≤ length l.file;
  few : l.number + length l.rest ≤ 6 + length l.text;
  reached : (f : Form) (n : ℕ) (h : Head) → Reaches f n l.file h [] l.text (state_of l.initial.state) → HasPaid l.initial.purse h (check_price f n h [])
      → (ls : List Line) × Reaches f n l.file h ls l.rest (state_of l.state) × HasPaid l.purse h (check_price f n h ls) × (l.number ≡ first_line + length ls);
}

abbrev pub decreases-loop-rest : goal.decreases-loop-rest
decreases-loop-rest l = length l.rest
