-- The text of a proof that a text can hold is read back as that proof.
use Rattle.std.proofs.Common.{ℕ, [], ◌∷◌, ap, subst, append-nil, arith, Result, Ok, Err, OnOk}
use Rattle.proof_tokens.specs.Spellings.{AreSpaced, spelled}
use Rattle.proof_tokens.specs.Reading.{Cuts}
use Rattle.proof_tokens.proofs.Respelled.{cut_back}
use Rattle.proof_tree.specs.declared.node.Conclusion.{Conclusion}
use Rattle.proof_tree.specs.Proof.{Proof}
use Rattle.proof_grammar.specs.declared.lines.TextLine.TheVariants as w
use Rattle.proof_grammar.specs.Lines.{proof_lines, proof_text}
use Rattle.proof_grammar.specs.Shaped.{IsWritable, IsTextOfProof}
use Rattle.proof_grammar.proofs.Expanding.{tree_expanded}
use Rattle.proof_grammar.proofs.Trees.{proof_pays}
use Rattle.proof_printer.specs.Typed.{IsTypedProof, IsTypedConclusion}
use Rattle.proof_printer.proofs.GoodLines.{good_spaced, plain_good}

pub proof_spaced : (n : ℕ) (x : Proof) (c : Conclusion) → IsWritable n x c → IsTypedProof x → IsTypedConclusion c → AreSpaced (proof_text n x c)
proof_spaced n x c s i k = good_spaced (proof_lines n x c) (omega arith, ((let h = s.charges.1 in omega arith), plain_good n x c s i k))

pub text_holds : (n : ℕ) (x : Proof) (c : Conclusion) → IsWritable n x c → IsTypedProof x → IsTypedConclusion c → IsTextOfProof (spelled (proof_text n x c)) n x c
text_holds n x c s i k = record {
  shaped = s;
  lines = proof_lines n x c;
  whole = proof_pays n x c s;
  is = ap (λ z. w.Head 1 ∷ w.Charges n ∷ z) (tree_expanded [] x (w.End c ∷ []));
  cut = subst (λ z. Cuts (proof_text n x c) z []) (append-nil (spelled (proof_text n x c))) (cut_back (proof_text n x c) [] (proof_spaced n x c s i k));
}

-- the same for what a call wrote
pub written_holds : {A E : Type 0} (r : Result A E) (n : ℕ) (x : Proof) (c : Conclusion) → IsWritable n x c → IsTypedProof x → IsTypedConclusion c → OnOk r (IsTextOfProof (spelled (proof_text n x c)) n x c)
written_holds (Ok v) n x c s i k = text_holds n x c s i k
written_holds (Err v) n x c s i k = tt
