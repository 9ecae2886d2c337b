use Rattle.pri_reader.proofs.FirstRefusal.{first_exact, first_unique, first_some, first_none}
use Rattle.pri_reader.proofs.first.first_refusal_law.Goals as goal

pub returns : goal.returns
returns c = record {
  exact = λ s end tokens e u v. first_exact s end tokens e u v;
  unique = λ s end tokens e f u v p q. first_unique s end tokens e f u v p q;
  some = λ s end tokens u v none. first_some s end tokens u v none;
  none = λ s end tokens file e u v f r. first_none s end tokens file e u v f r;
}
