-- What a `?` hands on as a fault.
use Rattle.std.proofs.Common.{◌≡◌, Result}
use Rattle.std.specs.Result.{IfErr, IsErrAnd}
use Rattle.std.proofs.lemmas.Result.{err_from_is_err_and}
use Rattle.proof_grammar.specs.declared.text.Fault.{Fault}

pub fails : {A : Type 0} (fault : Fault) (r : Result A Fault) (P : Fault → Type 0) → IsErrAnd r (λ x. x ≡ fault) → P fault → IfErr r P
fails fault r P h p = let q = err_from_is_err_and r h in rw (q.1, q.2) p
