-- A reader of lines goes on from line to line.
use Rattle.std.proofs.Common.{ℕ, zero, suc, ◌≡◌, ◌≤◌, ◌<◌, ◌+◌, List, [], ◌∷◌, ◌++◌, length, refl, sym, ap, subst, ◌∙◌, append-nil, arith, length-append, Result, Ok, Err}
use Rattle.std.specs.Prelude.{OnOk, IfErr}
use Rattle.base_budget.specs.declared.log.ElimLog.{ElimLog}
use Rattle.proof_tree.specs.declared.node.Conclusion.{Conclusion}
use Rattle.proof_tree.specs.Proof.{Proof}
use Rattle.proof_tokens.specs.declared.reading.Refusal.{Refusal}
use Rattle.proof_tokens.specs.Lines.{head_text, parts_text, part_text, charges_text, IsCharges, IsFormat, IsPart, IsPosition}
use Rattle.proof_tokens.specs.Reading.{Cuts, RefusesProof}
use Rattle.proof_grammar.specs.declared.lines.TextLine.{TextLine}
use Rattle.proof_grammar.specs.declared.lines.TextLine.TheVariants as w
use Rattle.proof_grammar.specs.declared.lines.Owed.{Owed}
use Rattle.proof_grammar.specs.declared.lines.Owed.TheVariants as o
use Rattle.proof_grammar.specs.declared.text.Fault.{Fault}
use Rattle.proof_grammar.specs.declared.text.Fault.TheVariants as f
use Rattle.proof_grammar.specs.Faults.{fault_of, RefusesLine}
use Rattle.proof_grammar.specs.Lines.{line_text, tokens_of, proof_lines}
use Rattle.proof_grammar.specs.Owed.{Pays, owes, LeadsOwed, OwesNothing, opening_owed, parts_owed, start, Shallow}
use Rattle.proof_grammar.specs.Expansion.{expanded, expansion, parts_behind}
use Rattle.proof_grammar.specs.Shaped.{IsWritable}
use Rattle.proof_grammar.specs.Stands.{StandsBefore, IsOpened}
use Rattle.proof_grammar.specs.Refusals.{RefusesText, HoldsSome}
use Rattle.proof_grammar.specs.Walks.{IsInner}
use Rattle.proof_grammar.proofs.LineKinds.{head_owed, parts_owed as parts_refused, part_owed as part_refused, charges_owed, line_refused}
use Rattle.proof_grammar.proofs.Leading.{leads_more, cut_more, leads_any, token_behind}
use Rattle.proof_grammar.proofs.Expanding.{expanded_append, parts_append, inner_parts, whole_expanded}
use Rattle.proof_grammar.proofs.Trees.{Said, proof_said}
use Rattle.proof_grammar.proofs.Deep.{refused_here, none_deep}

-- at the start of a text
pub stands_first : (bytes : List ℕ) → StandsBefore [] [] start bytes bytes
stands_first bytes = record { before = []; leads = refl; cut = refl; has = refl; is = refl }

-- one line further
pub stands_more : (ps qs : List ElimLog) (e d : List TextLine) (x : Owed) (os ws us : List Owed) (l : TextLine) (bytes inner rest : List ℕ) → os ≡ x ∷ ws → us ≡ owes x l ++ ws → parts_behind ps (l ∷ []) ≡ qs → e ++ expanded ps (l ∷ []) ≡ d
    → Pays Shallow x l → Cuts (line_text l) inner rest → StandsBefore ps e os bytes inner → StandsBefore qs d us bytes rest
stands_more ps qs e d x os ws us l bytes inner rest q r g h p c s = record {
  before = s.before ++ l ∷ [];
  leads = subst (λ z. LeadsOwed Shallow start (s.before ++ l ∷ []) z) (sym r) (leads_more Shallow start ws x s.before l (subst (λ z. LeadsOwed Shallow start s.before z) q s.leads) p);
  cut = cut_more s.before l bytes inner rest s.cut c;
  has = parts_append [] s.before (l ∷ []) ∙ ap (λ z. parts_behind z (l ∷ [])) s.has ∙ g;
  is = expanded_append [] s.before (l ∷ []) ∙ ap (λ z. z ++ expanded (parts_behind [] s.before) (l ∷ [])) s.is ∙ ap (λ z. e ++ expanded z (l ∷ [])) s.has ∙ h;
}

-- the line that is owed is refused
pub line_fails : (ps : List ElimLog) (e : List TextLine) (x : Owed) (os ws : List Owed) (bytes inner : List ℕ) (fault : Fault) → os ≡ x ∷ ws → RefusesLine x inner fault → StandsBefore ps e os bytes inner → RefusesText bytes fault
line_fails ps e x os ws bytes inner fault q r s = refused_here s.before x ws bytes inner fault (subst (λ z. LeadsOwed Shallow start s.before z) q s.leads) s.cut r

-- The opening.

-- after the first line
abbrev pub headed : ℕ → List ℕ → List ℕ → Type 0
headed n bytes inner = StandsBefore [] (w.Head 1 ∷ []) (opening_owed n) bytes inner

pub no_head : (bytes : List ℕ) (refusal : Refusal) → RefusesProof IsFormat head_text bytes refusal → RefusesText bytes (fault_of refusal)
no_head bytes refusal r = line_fails [] [] o.Head start [] bytes bytes (fault_of refusal) refl (line_refused o.Head bytes refusal tt (head_owed bytes refusal r)) (stands_first bytes)

pub stands_headed : (n : ℕ) (bytes inner : List ℕ) → IsFormat n → Cuts (head_text n) bytes inner → headed n bytes inner
stands_headed n bytes inner i c = stands_more [] [] [] (w.Head 1 ∷ []) o.Head start [] (opening_owed n) (w.Head n) bytes bytes inner refl (sym (append-nil (opening_owed n))) refl refl i c (stands_first bytes)

-- in the first format the charges come
pub headed_one : (n : ℕ) (bytes inner : List ℕ) → n ≡ 1 → headed n bytes inner → StandsBefore [] (w.Head 1 ∷ []) (o.Charges 0 ∷ []) bytes inner
headed_one n bytes inner e s = subst (λ k. StandsBefore [] (w.Head 1 ∷ []) (opening_owed k) bytes inner) e s

-- in the second format the parts come
pub headed_two : (n : ℕ) (bytes inner : List ℕ) → IsFormat n → (n ≡ 1 → ⊥) → headed n bytes inner → StandsBefore [] (w.Head 1 ∷ []) (o.Parts ∷ []) bytes inner
headed_two n bytes inner i e s = subst (λ k. StandsBefore [] (w.Head 1 ∷ []) (opening_owed k) bytes inner) (two i.0 i.1) s
  where
    two : 1 ≤ n → n ≤ 2 → n ≡ 2
    two low high = omega (arith, e)

pub no_parts : (bytes inner : List ℕ) (refusal : Refusal) → StandsBefore [] (w.Head 1 ∷ []) (o.Parts ∷ []) bytes inner → RefusesProof IsPosition parts_text inner refusal → RefusesText bytes (fault_of refusal)
no_parts bytes inner refusal s r = line_fails [] (w.Head 1 ∷ []) o.Parts (o.Parts ∷ []) [] bytes inner (fault_of refusal) refl (line_refused o.Parts inner refusal tt (parts_refused inner refusal r)) s

-- the parts that have come are these, of this many
pub record Parting (ps : List ElimLog) (m i : ℕ) (bytes rest : List ℕ) : Type 0 where
  pub left : ℕ
  pub many : left + i ≡ m
  pub length_is : length ps ≡ i
  pub stands : StandsBefore ps (w.Head 1 ∷ []) (parts_owed left ++ o.Charges m ∷ []) bytes rest

pub parting : (m : ℕ) (bytes inner rest : List ℕ) → IsPosition m → Cuts (parts_text m) inner rest → StandsBefore [] (w.Head 1 ∷ []) (o.Parts ∷ []) bytes inner → Parting [] m 0 bytes rest
parting m bytes inner rest i c s = record {
  left = m;
  many = omega arith;
  length_is = refl;
  stands = stands_more [] [] (w.Head 1 ∷ []) (w.Head 1 ∷ []) o.Parts (o.Parts ∷ []) [] (parts_owed m ++ o.Charges m ∷ []) (w.Parts m) bytes inner rest refl (sym (append-nil (parts_owed m ++ o.Charges m ∷ []))) refl refl i c s;
}

part_left : (ps : List ElimLog) (m i left : ℕ) (bytes rest : List ℕ) → i < m → left + i ≡ m → StandsBefore ps (w.Head 1 ∷ []) (parts_owed left ++ o.Charges m ∷ []) bytes rest
    → (k : ℕ) × (suc k + i ≡ m) × StandsBefore ps (w.Head 1 ∷ []) (o.Part ∷ (parts_owed k ++ o.Charges m ∷ [])) bytes rest
part_left ps m i zero bytes rest low e s = absurd (omega arith)
part_left ps m i (suc k) bytes rest low e s = (k, e, s)

pub no_part : (ps : List ElimLog) (m i : ℕ) (bytes rest : List ℕ) (refusal : Refusal) → i < m → Parting ps m i bytes rest → RefusesProof IsPart part_text rest refusal → RefusesText bytes (fault_of refusal)
no_part ps m i bytes rest refusal low p r =
    let q = part_left ps m i p.left bytes rest low p.many p.stands in
    line_fails ps (w.Head 1 ∷ []) o.Part (o.Part ∷ (parts_owed q.0 ++ o.Charges m ∷ [])) (parts_owed q.0 ++ o.Charges m ∷ []) bytes rest (fault_of refusal) refl (line_refused o.Part rest refusal tt (part_refused rest refusal r)) q.2

pub parting_more : (ps : List ElimLog) (log : ElimLog) (m i : ℕ) (bytes inner rest : List ℕ) → i < m → IsPart log.entries → Cuts (part_text log.entries) inner rest → Parting ps m i bytes inner → Parting (ps ++ log ∷ []) m (i + 1) bytes rest
parting_more ps log m i bytes inner rest low is c p =
    let q = part_left ps m i p.left bytes inner low p.many p.stands in
    record {
      left = q.0;
      many = omega (arith, q.1);
      length_is = length-append ps (log ∷ []) ∙ ap (λ k. k + 1) p.length_is;
      stands = stands_more ps (ps ++ log ∷ []) (w.Head 1 ∷ []) (w.Head 1 ∷ []) o.Part (o.Part ∷ (parts_owed q.0 ++ o.Charges m ∷ [])) (parts_owed q.0 ++ o.Charges m ∷ []) (parts_owed q.0 ++ o.Charges m ∷ []) (w.Part log) bytes inner rest refl refl refl refl is c q.2;
    }

none_left : (ps : List ElimLog) (m left : ℕ) (bytes rest : List ℕ) → left ≡ 0 → StandsBefore ps (w.Head 1 ∷ []) (parts_owed left ++ o.Charges m ∷ []) bytes rest → StandsBefore ps (w.Head 1 ∷ []) (o.Charges m ∷ []) bytes rest
none_left ps m left bytes rest e s = subst (λ k. StandsBefore ps (w.Head 1 ∷ []) (parts_owed k ++ o.Charges m ∷ []) bytes rest) e s

-- all have come
pub parting_end : (ps : List ElimLog) (m i : ℕ) (bytes rest : List ℕ) → m ≤ i → Parting ps m i bytes rest → StandsBefore ps (w.Head 1 ∷ []) (o.Charges (length ps) ∷ []) bytes rest
parting_end ps m i bytes rest past p =
    let is : m ≡ length ps = omega (arith, p.many, p.length_is) in
    subst (λ k. StandsBefore ps (w.Head 1 ∷ []) (o.Charges k ∷ []) bytes rest) is (none_left ps m p.left bytes rest (omega (arith, p.many)) p.stands)

pub no_charges : (ps : List ElimLog) (m : ℕ) (bytes inner : List ℕ) (refusal : Refusal) → StandsBefore ps (w.Head 1 ∷ []) (o.Charges m ∷ []) bytes inner → RefusesProof IsCharges charges_text inner refusal → RefusesText bytes (fault_of refusal)
no_charges ps m bytes inner refusal s r = line_fails ps (w.Head 1 ∷ []) (o.Charges m) (o.Charges m ∷ []) [] bytes inner (fault_of refusal) refl (line_refused (o.Charges m) inner refusal tt (charges_owed m inner refusal r)) s

pub opened : (ps : List ElimLog) (n : ℕ) (bytes inner rest : List ℕ) → IsCharges n → Cuts (charges_text n) inner rest → StandsBefore ps (w.Head 1 ∷ []) (o.Charges (length ps) ∷ []) bytes inner → IsOpened ps n bytes rest
opened ps n bytes inner rest i c s =
    stands_more ps ps (w.Head 1 ∷ []) (w.Head 1 ∷ w.Charges n ∷ []) (o.Charges (length ps)) (o.Charges (length ps) ∷ []) [] (Rattle.proof_grammar.specs.Owed.tree_owed (length ps)) (w.Charges n) bytes inner rest refl refl refl refl i c s

-- After the opening.

-- where the reader stands after the opening
pub record Inside (ps : List ElimLog) (n : ℕ) (os : List Owed) (bytes rest : List ℕ) : Type 0 where
  pub more : List TextLine
  pub stands : StandsBefore ps (w.Head 1 ∷ w.Charges n ∷ more) os bytes rest

pub inside : (ps : List ElimLog) (n : ℕ) (os : List Owed) (bytes rest : List ℕ) → os ≡ Rattle.proof_grammar.specs.Owed.tree_owed (length ps) → IsOpened ps n bytes rest → Inside ps n os bytes rest
inside ps n os bytes rest e s = record { more = []; stands = subst (λ z. StandsBefore ps (w.Head 1 ∷ w.Charges n ∷ []) z bytes rest) (sym e) s }

pub inside_more : (ps : List ElimLog) (n : ℕ) (x : Owed) (os ws us : List Owed) (l : TextLine) (bytes inner rest : List ℕ) → os ≡ x ∷ ws → us ≡ owes x l ++ ws → IsInner l → Pays Shallow x l → Cuts (line_text l) inner rest
    → Inside ps n os bytes inner → Inside ps n us bytes rest
inside_more ps n x os ws us l bytes inner rest e q i p c h = record {
  more = h.more ++ expanded ps (l ∷ []);
  stands = stands_more ps ps (w.Head 1 ∷ w.Charges n ∷ h.more) (w.Head 1 ∷ w.Charges n ∷ (h.more ++ expanded ps (l ∷ []))) x os ws us l bytes inner rest e q (inner_parts ps l i) refl p c h.stands;
}

charges_are : (n m : ℕ) (more : List TextLine) (x : Proof) (c : Conclusion) → w.Head 1 ∷ w.Charges n ∷ more ≡ proof_lines m x c → m ≡ n
charges_are n m more x c e = cc

held_by : (n : ℕ) (bytes : List ℕ) (ls es : List TextLine) (s : Said es) → s.charges ≡ n → OwesNothing Shallow start ls → Cuts (tokens_of ls) bytes [] → expansion ls ≡ es → HoldsSome bytes n
held_by n bytes ls es s e whole c is = (
  s.root,
  s.conclusion,
  record {
    shaped = subst (λ k. IsWritable k s.root s.conclusion) e s.shaped;
    lines = ls;
    whole = whole;
    cut = c;
    is = subst (λ k. expansion ls ≡ proof_lines k s.root s.conclusion) e (is ∙ s.is);
  },
)

-- the bytes end where nothing is owed
pub held : (ps : List ElimLog) (n : ℕ) (os : List Owed) (bytes rest : List ℕ) → os ≡ [] → rest ≡ [] → Inside ps n os bytes rest → HoldsSome bytes n
held ps n os bytes rest e q h =
    let es = w.Charges n ∷ h.more in
    let whole : OwesNothing Shallow start h.stands.before = subst (λ z. LeadsOwed Shallow start h.stands.before z) e h.stands.leads in
    let s = proof_said es (subst (OwesNothing Shallow start) h.stands.is (whole_expanded h.stands.before whole)) in
    held_by n bytes h.stands.before (w.Head 1 ∷ es) s (charges_are n s.charges h.more s.root s.conclusion s.is) whole (subst (λ z. Cuts (tokens_of h.stands.before) bytes z) q h.stands.cut) h.stands.is

-- more bytes stand there
pub bytes_behind : (ps : List ElimLog) (n : ℕ) (os : List Owed) (bytes rest : List ℕ) → os ≡ [] → (rest ≡ [] → ⊥) → Inside ps n os bytes rest → RefusesText bytes (f.Syntax (length rest))
bytes_behind ps n os bytes rest e some h =
    let ls = h.stands.before in
    let whole : OwesNothing Shallow start ls = subst (λ z. LeadsOwed Shallow start ls z) e h.stands.leads in (
      rest,
      refl,
      record {
        first = token_behind start ls bytes rest (leads_any start [] ls whole) h.stands.cut;
        ends = λ q ms i r. some q;
        shallow = λ deep d. none_deep ls bytes rest whole h.stands.cut deep d;
      },
    )

pub ended_held : (ps : List ElimLog) (n : ℕ) (os : List Owed) (bytes rest : List ℕ) (r : Result (Unit {0}) Fault) → os ≡ [] → OnOk r (rest ≡ []) → Inside ps n os bytes rest → OnOk r (HoldsSome bytes n)
ended_held ps n os bytes rest (Ok u) e q h = held ps n os bytes rest e q h
ended_held ps n os bytes rest (Err fault) e q h = tt

pub ended_refused : (ps : List ElimLog) (n : ℕ) (os : List Owed) (bytes rest : List ℕ) (r : Result (Unit {0}) Fault) → os ≡ [] → IfErr r (λ fault. (fault ≡ f.Syntax (length rest)) × (rest ≡ [] → ⊥)) → Inside ps n os bytes rest → IfErr r (RefusesText bytes)
ended_refused ps n os bytes rest (Ok u) e q h = tt
ended_refused ps n os bytes rest (Err fault) e q h = subst (RefusesText bytes) (sym q.0) (bytes_behind ps n os bytes rest e q.1 h)
