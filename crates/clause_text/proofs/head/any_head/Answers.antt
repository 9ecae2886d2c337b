use Rattle.std.proofs.Common.{List}
use Rattle.std.proofs.lemmas.Result.{err_from_is_err_and}
use Rattle.clause_words.specs.Tokens.{tokens}
use Rattle.clause_words.specs.Reading.{both}
use Rattle.clause_text.specs.Head.{format_line, charges_line, prepared_line, values_line, root_line}
use Rattle.clause_text.proofs.HeadSteps.{both_done, both_first, both_second, head_done, head_fails, behind_format, behind_charges, behind_prepared}
use Rattle.clause_text.proofs.head.any_head.Goals as goal

pub returns-in_err-rest : goal.returns-in_err-rest
returns-in_err-rest c =
    let p = err_from_is_err_and c.from_residual.result c.from_residual.ensures.1 in
    rw (p.1, p.2) (head_fails (tokens c.args.text.now) c.in_err-rest.field-0.0 (both_first format_line behind_format (tokens c.args.text.now) c.in_err-rest.field-0.0 c.in_err-rest.ensures))

pub returns-in_err-charges : goal.returns-in_err-charges
returns-in_err-charges c =
    let p = err_from_is_err_and c.from_residual-in_err-charges.result c.from_residual-in_err-charges.ensures.1 in
    rw (p.1, p.2) (head_fails (tokens c.args.text.now) c.in_err-charges.field-0.0 (both_second format_line behind_format (tokens c.args.text.now) (tokens c.in_ok-rest.rest.now) (tt, (tt, tt)) c.in_err-charges.field-0.0 c.in_ok-rest.ensures (both_first charges_line behind_charges (tokens c.in_ok-rest.rest.now) c.in_err-charges.field-0.0 c.in_err-charges.ensures)))

pub returns-in_err-prepared : goal.returns-in_err-prepared
returns-in_err-prepared c =
    let p = err_from_is_err_and c.from_residual-in_err-prepared.result c.from_residual-in_err-prepared.ensures.1 in
    rw (p.1, p.2) (head_fails (tokens c.args.text.now) c.in_err-prepared.field-0.0 (both_second format_line behind_format (tokens c.args.text.now) (tokens c.in_ok-rest.rest.now) (tt, (tt, tt)) c.in_err-prepared.field-0.0 c.in_ok-rest.ensures (both_second charges_line behind_charges (tokens c.in_ok-rest.rest.now) (tokens c.in_ok-charges.rest.now) (tt, (c.in_ok-charges.charges, tt)) c.in_err-prepared.field-0.0 c.in_ok-charges.ensures (both_first prepared_line behind_prepared (tokens c.in_ok-charges.rest.now) c.in_err-prepared.field-0.0 c.in_err-prepared.ensures))))

pub returns-in_err-values : goal.returns-in_err-values
returns-in_err-values c =
    let p = err_from_is_err_and c.from_residual-in_err-values.result c.from_residual-in_err-values.ensures.1 in
    rw (p.1, p.2) (head_fails (tokens c.args.text.now) c.in_err-values.field-0.0 (both_second format_line behind_format (tokens c.args.text.now) (tokens c.in_ok-rest.rest.now) (tt, (tt, tt)) c.in_err-values.field-0.0 c.in_ok-rest.ensures (both_second charges_line behind_charges (tokens c.in_ok-rest.rest.now) (tokens c.in_ok-charges.rest.now) (tt, (c.in_ok-charges.charges, tt)) c.in_err-values.field-0.0 c.in_ok-charges.ensures (both_second prepared_line behind_prepared (tokens c.in_ok-charges.rest.now) (tokens c.in_ok-prepared.rest.now) (tt, (c.in_ok-prepared.prepared, tt)) c.in_err-values.field-0.0 c.in_ok-prepared.ensures (both_first values_line root_line (tokens c.in_ok-prepared.rest.now) c.in_err-values.field-0.0 c.in_err-values.ensures)))))

pub returns-in_err-root : goal.returns-in_err-root
returns-in_err-root c =
    let p = err_from_is_err_and c.from_residual-in_err-root.result c.from_residual-in_err-root.ensures.1 in
    rw (p.1, p.2) (head_fails (tokens c.args.text.now) c.in_err-root.field-0.0 (both_second format_line behind_format (tokens c.args.text.now) (tokens c.in_ok-rest.rest.now) (tt, (tt, tt)) c.in_err-root.field-0.0 c.in_ok-rest.ensures (both_second charges_line behind_charges (tokens c.in_ok-rest.rest.now) (tokens c.in_ok-charges.rest.now) (tt, (c.in_ok-charges.charges, tt)) c.in_err-root.field-0.0 c.in_ok-charges.ensures (both_second prepared_line behind_prepared (tokens c.in_ok-charges.rest.now) (tokens c.in_ok-prepared.rest.now) (tt, (c.in_ok-prepared.prepared, tt)) c.in_err-root.field-0.0 c.in_ok-prepared.ensures (both_second values_line root_line (tokens c.in_ok-prepared.rest.now) (tokens c.in_ok-values.rest.now) (tt, c.in_ok-values.values) c.in_err-root.field-0.0 c.in_ok-values.ensures c.in_err-root.ensures)))))

pub returns : goal.returns
returns c = head_done (tokens c.args.text.now) (tokens c.in_ok-root.rest.now) ((tt, (tt, tt)), ((tt, (c.in_ok-charges.charges, tt)), ((tt, (c.in_ok-prepared.prepared, tt)), ((tt, c.in_ok-values.values), (tt, (c.in_ok-root.root, tt)))))) (both_done format_line behind_format (tokens c.args.text.now) (tokens c.in_ok-rest.rest.now) (tokens c.in_ok-root.rest.now) (tt, (tt, tt)) ((tt, (c.in_ok-charges.charges, tt)), ((tt, (c.in_ok-prepared.prepared, tt)), ((tt, c.in_ok-values.values), (tt, (c.in_ok-root.root, tt))))) c.in_ok-rest.ensures (both_done charges_line behind_charges (tokens c.in_ok-rest.rest.now) (tokens c.in_ok-charges.rest.now) (tokens c.in_ok-root.rest.now) (tt, (c.in_ok-charges.charges, tt)) ((tt, (c.in_ok-prepared.prepared, tt)), ((tt, c.in_ok-values.values), (tt, (c.in_ok-root.root, tt)))) c.in_ok-charges.ensures (both_done prepared_line behind_prepared (tokens c.in_ok-charges.rest.now) (tokens c.in_ok-prepared.rest.now) (tokens c.in_ok-root.rest.now) (tt, (c.in_ok-prepared.prepared, tt)) ((tt, c.in_ok-values.values), (tt, (c.in_ok-root.root, tt))) c.in_ok-prepared.ensures (both_done values_line root_line (tokens c.in_ok-prepared.rest.now) (tokens c.in_ok-values.rest.now) (tokens c.in_ok-root.rest.now) (tt, c.in_ok-values.values) (tt, (c.in_ok-root.root, tt)) c.in_ok-values.ensures c.in_ok-root.ensures))))
