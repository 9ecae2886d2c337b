use Rattle.sequent.proofs.Limiting.{premises_limited, has_room}
use Rattle.sequent.proofs.laws.room_law.Goals as goal

pub returns-clause-premises : goal.returns-clause-premises
returns-clause-premises c = premises_limited

pub returns-clause-room : goal.returns-clause-room
returns-clause-room c = has_room
