-- What a run ends with is a proof that a text can hold.
use Rattle.std.proofs.Common.{◌≡◌, ℕ, ◌-◌, ◌≤◌, ℤ, List, [], sym, ap, subst, arith, Ok}
use Rattle.base_budget.specs.declared.log.Entry.{Entry}
use Rattle.base_budget.specs.declared.log.ElimLog.{ElimLog}
use Rattle.clause_set.specs.declared.literal.Literal.{Literal}
use Rattle.proof_tree.specs.declared.node.Tree.{Tree}
use Rattle.proof_tree.specs.Views.{proof_of}
use Rattle.search.specs.declared.judge.Outcome.TheVariants.{Valid, Invalid}
use Rattle.search.specs.Outcomes.{EndsAs, IsTree}
use Rattle.base_budget.specs.Runs.{total}
use Rattle.base_budget.specs.Trace.{Funds, At, at}
use Rattle.formula.specs.Form.{Form}
use Rattle.elim_laws.specs.Logs.{entries_of}
use Rattle.elim_laws.specs.Whole.{names_out}
use Rattle.base_limits.specs.Limits.{branch_limit, most_budget}
use Rattle.proof_tree.specs.declared.node.Conclusion.{Conclusion}
use Rattle.proof_tree.specs.declared.node.Conclusion.TheVariants.{Solution, Nothing}
use Rattle.proof_tree.specs.Proof.{Proof, given}
use Rattle.proof_tree.specs.Proves.{proof_walk, start}
use Rattle.base_budget.specs.Ending.{ending, ends_with}
use Rattle.search.specs.Run.{canonical_run, invalid, valid}
use Rattle.search.proofs.Given.{built-given}
use Rattle.sequent.proofs.Forming.{start_formed}
use Rattle.search.proofs.Charges.{valid_charges, invalid_charges}
use Rattle.proof_grammar.specs.Shaped.{IsWritable}
use Rattle.proof_printer.specs.Typed.{IsTypedProof}
use Rattle.formula.specs.Reduced.{HasReducedTerms}
use Rattle.formula.specs.Searchable.{IsSearchable}
use Rattle.proof_canonical.proofs.Built.{tree_shaped}
use Rattle.proof_canonical.proofs.Ended.{valid_round, invalid_round}
use Rattle.solve_laws.proofs.Values.{solution_in}

pub valid_shaped : (f : Form) (n : ℕ) (g : Funds) (vs : List ℤ) (x : Proof) (b : At) → IsSearchable f n → HasReducedTerms f → g.budget - g.spent ≤ most_budget
    → ending (canonical_run f n g.budget) (at g []) ≡ ends_with (valid vs x) b → IsTypedProof x → IsWritable (total (proof_walk f n x (Solution vs)).events) x (Solution vs)
valid_shaped f n g vs x b inside reduced most e t =
    let r = valid_round f n g vs x b e in
    let same = valid_charges f n r.limit x vs (r.tree).tree in
    let all = (r.tree).charges in
    let within = r.charges in
    record { charges = (omega arith, omega (arith, same, all, within, most)); root = tree_shaped f n r.limit x inside reduced (r.tree).tree t; conclusion = solution_in n (given x) vs (built-given r.limit branch_limit 0 (start f n) x (start_formed f n inside.over) (reduced, tt) (r.tree).tree) (r.tree).solution r.stay }

pub invalid_shaped : (f : Form) (n : ℕ) (g : Funds) (log : ElimLog) (x : Proof) (b : At) → IsSearchable f n → HasReducedTerms f → g.budget - g.spent ≤ most_budget
    → ending (canonical_run f n g.budget) (at g []) ≡ ends_with (invalid log.entries x) b → IsTypedProof x → IsWritable (total (proof_walk f n x (Nothing log)).events) x (Nothing log)
invalid_shaped f n g log x b inside reduced most e t =
    let r = invalid_round f n g log.entries x b e in
    let own = invalid_charges f n r.limit x r.pure (r.tree).tree (r.tree).solution in
    let same : total (proof_walk f n x (Nothing (record { entries = entries_of (names_out n (given x)).events }))).events ≡ total (proof_walk f n x (Nothing log)).events
    = ap (λ (es : List Entry). total (proof_walk f n x (Nothing (record { entries = es }))).events) (sym r.log_is) in
    let all = (r.tree).charges in
    let within = r.charges in
    record { charges = (omega arith, omega (arith, own, same, all, within, most)); root = tree_shaped f n r.limit x inside reduced (r.tree).tree t; conclusion = tt }

-- ---- outcomes
tree_as : (t : Tree) (k : ℕ) (x : Proof) (c : Conclusion) → proof_of t.root ≡ x → t.conclusion ≡ c → t.charges ≡ k → IsWritable k x c → IsWritable t.charges (proof_of t.root) t.conclusion
tree_as t k x c root end charges h =
    subst (λ (z : ℕ). IsWritable z (proof_of t.root) t.conclusion) (sym charges)
    (subst (λ (z : Proof). IsWritable k z t.conclusion) (sym root) (subst (λ (z : Conclusion). IsWritable k x z) (sym end) h))

pub valid_outcome : (f : Form) (n : ℕ) (old new : Funds) (d : List (List Literal)) (vs : List ℤ) (t : Tree) → IsSearchable f n → HasReducedTerms f
    → old.budget - old.spent ≤ most_budget → EndsAs f n old (Ok (Valid d vs t)) new → IsTypedProof (proof_of t.root) → IsWritable t.charges (proof_of t.root) t.conclusion
valid_outcome f n old new d vs t inside reduced most e i =
    let x = e.1 in
    let tree : IsTree f n x (Solution vs) t = e.4 in
    tree_as t (total (proof_walk f n x (Solution vs)).events) x (Solution vs) tree.root tree.conclusion tree.charges
    (valid_shaped f n old vs x (at new e.0) inside reduced most e.2 (subst IsTypedProof tree.root i))

pub invalid_outcome : (f : Form) (n : ℕ) (old new : Funds) (d : List (List Literal)) (t : Tree) → IsSearchable f n → HasReducedTerms f
    → old.budget - old.spent ≤ most_budget → EndsAs f n old (Ok (Invalid d t)) new → IsTypedProof (proof_of t.root) → IsWritable t.charges (proof_of t.root) t.conclusion
invalid_outcome f n old new d t inside reduced most e i =
    let x = e.2 in
    let tree : IsTree f n x (Nothing e.1) t = e.5 in
    tree_as t (total (proof_walk f n x (Nothing e.1)).events) x (Nothing e.1) tree.root tree.conclusion tree.charges
    (invalid_shaped f n old e.1 x (at new e.0) inside reduced most e.3 (subst IsTypedProof tree.root i))
