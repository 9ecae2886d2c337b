use Rattle.std.proofs.Common.{◌≡◌, to_z, of_z, rules}
use Rattle.std.specs.Int.{w128}
use Rattle.model_printer.proofs.Modelled.{function_put}
use Rattle.model_printer.proofs.models.put_function.Goals as goal

pub returns : goal.returns
returns c =
    let default : to_z w128 (of_z w128 c.args.model.now.default) ≡ c.args.model.now.default = search rules in
    function_put c.put_default_value-2.result c.args.out.now.items c.put_value_lines.new.out.items c.put_default_value-2.new.out.items c.as_slice.result.now
    (to_z w128 (of_z w128 c.args.model.now.default)) c.as_slice-2.result.now c.args.symbol.now c.args.model.now c.as_slice.ensures default c.as_slice-2.ensures c.if-symbol-eq0.false
    c.in_ok-put_value_lines.ensures c.put_default_value-2.ensures
