use Rattle.std.proofs.Common.{◌≡◌, ◌+◌, ◌++◌, ◌∷◌, [], length, ap, sym, subst, ◌∙◌, arith}
use Rattle.smt_terms.specs.Term.{phrase}
use Rattle.smt_terms.specs.Translation.{said, symbol_said}
use Rattle.smt_names.specs.Body.{shape}
use Rattle.smt_names.specs.Saying.{calls_of, shape_said}
use Rattle.smt_names.specs.Scopes.{named_onto, names_in, AreWithin}
use Rattle.smt_names.specs.Slots.{slots_onto}
use Rattle.smt_names.specs.Symbols.{Agrees}
use Rattle.smt_names.proofs.Reading.{slots-within}
use Rattle.smt_names.proofs.Growing.{agrees-define}
use Rattle.smt_names.proofs.Using.{uses-more}
use Rattle.smt_names.proofs.known.Known.define.Goals as goal

pub returns-clause-knows : goal.returns-clause-knows
returns-clause-knows c = λ gs knows new.
    let with = c.in_ok-symbols.ensures.more new in
    let after = c.in_ok-symbols-2.ensures in
    let xs = c.args.names.now in
    let W = symbol_said gs in
    let count = c.in_ok-bound.field-0.count in
    let leaves : named_onto c.as_slice.result.now [] ≡ slots_onto 0 xs [] = ap (λ z. named_onto z []) c.as_slice.ensures.value ∙ c.in_ok-bound.ensures.names [] in
    let many : 0 + length xs ≡ count = omega (arith, c.in_ok-bound.ensures.count) in
    let wide : AreWithin count (named_onto c.as_slice.result.now []) =
    subst (λ k. AreWithin k (named_onto c.as_slice.result.now [])) many (subst (AreWithin (0 + length xs)) (sym leaves) (slots-within 0 xs [] tt)) in (
      agrees-define gs c.args.self.symbols c.in_ok-symbols-2.symbols c.args.self.definitions c.push.new.self c.in_ok-body.body c.args.text.now xs (phrase c.args.term.now) _ _ knows.0 new
          (after.texts ∙ with.0) (after.meant ∙ with.1) c.in_ok-push.ensures.ok c.len-number.ensures c.in_ok-bound.ensures.count (λ e long.
          ap (λ z. shape_said (calls_of z) e (shape c.in_ok-body.body)) (sym c.as_slice-2.ensures)
          ∙ c.in_ok-body.ensures gs e (subst (λ z. Agrees gs c.args.self.symbols z) (sym c.as_slice-2.ensures) knows) wide (long ∙ sym c.in_ok-bound.ensures.count)
          ∙ ap (λ z. said W (names_in e z) (phrase c.args.term.now)) leaves),
      uses-more c.args.self.symbols.used c.in_ok-symbols-2.symbols.used c.args.self.definitions c.push.new.self c.in_ok-used.used c.in_ok-body.body
          (after.used ∙ ap (λ z. z ++ c.in_ok-used.used ∷ []) c.in_ok-symbols.ensures.used) c.in_ok-push.ensures.ok knows.1 c.in_ok-used.ensures,
    )
