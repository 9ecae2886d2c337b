use Rattle.elim_check.proofs.Turning.{turned_none, none_turned}
use Rattle.elim_check.proofs.todo.Todo.is_empty.Goals as goal

pub returns : goal.returns
returns c = (λ h. turned_none _ _ c.self.view_is (c.is_empty.ensures.0 h), λ h. c.is_empty.ensures.1 (none_turned _ _ c.self.view_is h))
