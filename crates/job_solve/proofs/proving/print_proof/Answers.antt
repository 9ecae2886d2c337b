use Rattle.job_solve.proofs.Printing.{printed_behind}
use Rattle.job_solve.proofs.proving.print_proof.Goals as goal

pub write_form-requires : goal.write_form-requires
write_form-requires c = c.requires c.know_typed.ensures.root c.know_typed.ensures.conclusion

pub returns : goal.returns
returns c =
    printed_behind c.args.form c.args.tree.now c.args.plain.status c.args.plain.text.items _ _ c.in_ok-extend_from_slice.ensures.items c.in_ok-write_form.ensures.text c.in_ok-write_form.ensures.holds
