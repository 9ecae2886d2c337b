-- A check accepts exactly the proofs.
use Rattle.std.proofs.Common.{◌≡◌, ◌∙◌, ◌+◌, ◌≤◌, ◌↔◌, ℕ, List, [], ◌++◌, Option, Some, None, refl, sym, ap, arith}
use Rattle.clause_set.specs.declared.literal.Literal.{Literal}
use Rattle.base_budget.specs.Trace.{At, at, End, done, refused, out_of_range, cut, next}
use Rattle.base_budget.specs.Runs.{total, notes}
use Rattle.base_budget.proofs.Meaning.{passes_where_runs}
use Rattle.formula.specs.Form.{Form}
use Rattle.proof_tree.specs.declared.node.Conclusion.{Conclusion}
use Rattle.proof_tree.specs.declared.run.Verdict.{Verdict}
use Rattle.proof_tree.specs.Proof.{Proof}
use Rattle.proof_tree.specs.Proves.{Proves, concluded, proof_walk, rule_of, start}
use Rattle.proof_tree.specs.Walk.{walked}
use Rattle.proof_tree.proofs.Walking.{gives_walked, some_then, then_some, value-on_some, walked_gives}
use Rattle.tree_checker.specs.Faults.{accepted, checked, first_fault}

abbrev from_charges : ℕ → At
from_charges charges = at (record { budget = charges; spent = 0 }) []

accepted_ends : (w : Option Verdict) (e : End) (v : Verdict) → first_fault w e ≡ accepted v → (b : At) × (e ≡ done b) × (w ≡ Some v)
accepted_ends None (done b) v h = absurd (cc)
accepted_ends (Some u) (done b) v h = (b, refl, (let z : accepted u ≡ accepted v = h in let y : u ≡ v = cc in ap Some y))
accepted_ends w (refused b) v h = absurd (cc)
accepted_ends w (out_of_range ps b) v h = absurd (cc)

value-proof : (f : Form) (n : ℕ) (x : Proof) (c : Conclusion) → (proof_walk f n x c).value ≡ then_some (walked 0 (start f n) x).value (λ d. (concluded f n (rule_of x) c d).value)
unfolding next
value-proof f n x c = value-on_some _ (walked 0 (start f n) x).value

pub accepts_proofs : (f : Form) (n : ℕ) (x : Proof) (c : Conclusion) (charges : ℕ) (v : Verdict) → (checked f n x c charges ≡ accepted v) ↔ Proves f n x c charges v
accepts_proofs f n x c charges v = (there, back)
  where
    there : checked f n x c charges ≡ accepted v → Proves f n x c charges v
    there h =
        let w = proof_walk f n x c in
        let e = accepted_ends w.value (cut w.events (from_charges charges)) v h in
        let r = (passes_where_runs w.events (from_charges charges) e.0 (let z : 0 ≤ charges = omega arith in z)).0 e.1 in
        let g = some_then (walked 0 (start f n) x).value (λ d. (concluded f n (rule_of x) c d).value) v (sym (value-proof f n x c) ∙ e.2) in
        let t = walked_gives x 0 (start f n) g.0 g.1 in
        let within : 0 + total w.events ≤ charges = r.within in
        record { tree = t.0; conclusion = ap (λ (d : List (List Literal)). (concluded f n (rule_of x) c d).value) t.1 ∙ g.2; within = omega (arith, within); stay = r.stay }

    back : Proves f n x c charges v → checked f n x c charges ≡ accepted v
    back h =
        let w = proof_walk f n x c in
        let b : At = at (record { budget = charges; spent = 0 + total w.events }) ([] ++ notes w.events) in
        let within : total w.events ≤ charges = h.within in
        let p : cut w.events (from_charges charges) ≡ done b =
        (passes_where_runs w.events (from_charges charges) b (let z : 0 ≤ charges = omega arith in z)).1 (record { within = (let z : 0 + total w.events ≤ charges = omega (arith, within) in z); stay = h.stay; stands = refl }) in
        let value : w.value ≡ Some v = value-proof f n x c ∙ ap (λ o. then_some o (λ d. (concluded f n (rule_of x) c d).value)) (gives_walked x 0 (start f n) h.tree) ∙ h.conclusion in
        ap (λ o. first_fault o (cut w.events (from_charges charges))) value ∙ ap (λ e. first_fault (Some v) e) p
