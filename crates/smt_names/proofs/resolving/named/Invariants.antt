use Rattle.std.proofs.Common.{◌≡◌, map, take, length}
use Rattle.smt_names.proofs.resolving.named.Given as goal

abbrev pub invariant-loop-i : goal.invariant-loop-i
invariant-loop-i l = length l.bindings ≡ length l.leaves
    → (map (λ x. x.text.now) l.names.items ≡ map (λ b. b.text) (take l.i l.bindings)) × (map (λ x. x.leaf) l.names.items ≡ take l.i l.leaves)
