use Rattle.std.proofs.Common.{All, sym, subst}
use Rattle.clause_root_laws.specs.Clausal.{AreTermsOver}
use Rattle.clause_root_laws.proofs.Clausal.{clauses_over}
use Rattle.clause_root.proofs.clausal.dnf_form.Goals as goal

pub clause_forms-requires : goal.clause_forms-requires
clause_forms-requires c = subst (λ cs. All (AreTermsOver c.args.names) cs) (sym c.clauses.ensures) (clauses_over c.args.names c.args.d.now c.requires)
