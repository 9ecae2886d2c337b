-- What is refused as one kind of line is refused where it is owed.
use Rattle.std.proofs.Common.{ℕ, ℤ, ◌≡◌, Bool, cond, List, [], ◌∷◌, refl, sym, ap, subst, ◌∙◌}
use Rattle.sequent.specs.declared.member.Pick.{Pick}
use Rattle.proof_tree.specs.declared.node.Conclusion.{Conclusion}
use Rattle.proof_tree.specs.declared.node.Conclusion.TheVariants.{Solution, Nothing}
use Rattle.proof_tokens.specs.declared.tokens.Token.{Token}
use Rattle.proof_tokens.specs.declared.tokens.Token.TheVariants as t
use Rattle.proof_tokens.specs.declared.reading.Refusal.{Refusal}
use Rattle.proof_tokens.specs.declared.reading.Refusal.TheVariants as e
use Rattle.proof_tokens.specs.declared.part_lines.SaidLog.{SaidLog}
use Rattle.proof_tokens.specs.declared.part_lines.SaidLog.TheVariants as said
use Rattle.proof_tokens.specs.Lines.{head_text, parts_text, part_text, charges_text, said_text, values_text, solution_text, IsFormat, IsPosition, IsPart, IsCharges, IsSaidLog, AreValues}
use Rattle.proof_tokens.specs.Reading.{Cuts, RefusesProof, RefusesNext}
use Rattle.proof_tokens.proofs.Refusals.{lacked}
use Rattle.proof_tokens.proofs.Behind.{refused_as, refused_case}
use Rattle.base_budget.specs.declared.log.Entry.{Entry}
use Rattle.clause_set.specs.declared.literal.Literal.{Literal}
use Rattle.proof_constraint.specs.Text.{AreClauses, gives_text}
use Rattle.proof_grammar.specs.declared.lines.TextLine.{TextLine}
use Rattle.proof_grammar.specs.declared.lines.TextLine.TheVariants as w
use Rattle.proof_grammar.specs.declared.lines.Owed.{Owed}
use Rattle.proof_grammar.specs.declared.lines.Owed.TheVariants as o
use Rattle.proof_grammar.specs.Conclusions.{IsEndWord}
use Rattle.proof_grammar.specs.Lines.{line_text}
use Rattle.proof_grammar.specs.Owed.{Any, IsConclusion, Pays}
use Rattle.proof_grammar.specs.Rows.{IsRow, IsRowWord, row_line}
use Rattle.proof_grammar.specs.Faults.{fault_of, HasNoDeepNode, RefusesLine}

-- a line of one kind
pub record Kind {V : Type 0} (IsValue : V → Type 0) (make : V → TextLine) (l : TextLine) : Type 0 where
  pub value : V
  pub fits : IsValue value
  pub is : l ≡ make value

record As {V : Type 0} (IsValue : V → Type 0) (text : V → List Token) (tokens : List Token) : Type 0 where
  value : V
  fits : IsValue value
  is : text value ≡ tokens

abbrev pub head_made : ℕ → TextLine
head_made a = w.Head a

pub paid_head : (l : TextLine) → Pays Any o.Head l → Kind IsFormat head_made l
paid_head (w.Head n) h = record { value = n; fits = h; is = refl }
paid_head _ h = absurd h

pub head_owed : (bytes : List ℕ) (fault : Refusal) → RefusesProof IsFormat head_text bytes fault → RefusesProof (Pays Any o.Head) line_text bytes fault
head_owed bytes fault r = refused_as IsFormat head_text (Pays Any o.Head) line_text bytes fault (λ n i. (w.Head n, i, refl)) (λ l i. let q = paid_head l i in (q.value, q.fits, sym (ap line_text q.is))) r

abbrev pub parts_made : ℕ → TextLine
parts_made a = w.Parts a

pub paid_parts : (l : TextLine) → Pays Any o.Parts l → Kind IsPosition parts_made l
paid_parts (w.Parts n) h = record { value = n; fits = h; is = refl }
paid_parts _ h = absurd h

pub parts_owed : (bytes : List ℕ) (fault : Refusal) → RefusesProof IsPosition parts_text bytes fault → RefusesProof (Pays Any o.Parts) line_text bytes fault
parts_owed bytes fault r = refused_as IsPosition parts_text (Pays Any o.Parts) line_text bytes fault (λ n i. (w.Parts n, i, refl)) (λ l i. let q = paid_parts l i in (q.value, q.fits, sym (ap line_text q.is))) r

abbrev pub part_made : List Entry → TextLine
part_made a = w.Part (record { entries = a })

pub paid_part : (l : TextLine) → Pays Any o.Part l → Kind IsPart part_made l
paid_part (w.Part log) h = record { value = log.entries; fits = h; is = refl }
paid_part _ h = absurd h

pub part_owed : (bytes : List ℕ) (fault : Refusal) → RefusesProof IsPart part_text bytes fault → RefusesProof (Pays Any o.Part) line_text bytes fault
part_owed bytes fault r = refused_as IsPart part_text (Pays Any o.Part) line_text bytes fault (λ es i. (part_made es, i, refl)) (λ l i. let q = paid_part l i in (q.value, q.fits, sym (ap line_text q.is))) r

abbrev pub charges_made : ℕ → TextLine
charges_made a = w.Charges a

pub paid_charges : (m : ℕ) (l : TextLine) → Pays Any (o.Charges m) l → Kind IsCharges charges_made l
paid_charges m (w.Charges n) h = record { value = n; fits = h; is = refl }
paid_charges m _ h = absurd h

pub charges_owed : (m : ℕ) (bytes : List ℕ) (fault : Refusal) → RefusesProof IsCharges charges_text bytes fault → RefusesProof (Pays Any (o.Charges m)) line_text bytes fault
charges_owed m bytes fault r = refused_as IsCharges charges_text (Pays Any (o.Charges m)) line_text bytes fault (λ n i. (w.Charges n, i, refl)) (λ l i. let q = paid_charges m l i in (q.value, q.fits, sym (ap line_text q.is))) r

abbrev pub row_made : (Pick × ℕ) → TextLine
row_made a = w.Row a.0 a.1

pub paid_row : (j m : ℕ) (l : TextLine) → Pays Any (o.Node j m) l → Kind IsRow row_made l
paid_row j m (w.Row p k) h = record { value = (p, k); fits = h.1; is = refl }
paid_row j m _ h = absurd h

pub row_owed : (j m : ℕ) (bytes : List ℕ) (fault : Refusal) → RefusesProof IsRow row_line bytes fault → RefusesProof (Pays Any (o.Node j m)) line_text bytes fault
row_owed j m bytes fault r = refused_as IsRow row_line (Pays Any (o.Node j m)) line_text bytes fault (λ p i. (w.Row p.0 p.1, (tt, i), refl)) (λ l i. let q = paid_row j m l i in (q.value, q.fits, sym (ap line_text q.is))) r

-- Logs.

abbrev pub log_said_text : SaidLog → List Token
log_said_text s = t.Log ∷ said_text s

abbrev pub log_made : SaidLog → TextLine
log_made (said.Entries log) = w.Log log
log_made (said.Part i) = w.LogOf i

pub log_is : (s : SaidLog) → line_text (log_made s) ≡ log_said_text s
log_is (said.Entries log) = refl
log_is (said.Part i) = refl

log_pays : (m : ℕ) (s : SaidLog) → IsSaidLog m s → Pays Any (o.Log m) (log_made s)
log_pays m (said.Entries log) h = tt
log_pays m (said.Part i) h = h

pub paid_log : (m : ℕ) (l : TextLine) → Pays Any (o.Log m) l → Kind (IsSaidLog m) log_made l
paid_log m (w.Log log) h = record { value = said.Entries log; fits = tt; is = refl }
paid_log m (w.LogOf i) h = record { value = said.Part i; fits = h; is = refl }
paid_log m _ h = absurd h

pub log_owed : (m : ℕ) (bytes : List ℕ) (fault : Refusal) → RefusesProof (IsSaidLog m) log_said_text bytes fault → RefusesProof (Pays Any (o.Log m)) line_text bytes fault
log_owed m bytes fault r = refused_as (IsSaidLog m) log_said_text (Pays Any (o.Log m)) line_text bytes fault (λ s i. (log_made s, log_pays m s i, log_is s)) (λ l i. let q = paid_log m l i in (q.value, q.fits, sym (ap line_text q.is ∙ log_is q.value))) r

abbrev pub gives_made : List (List Literal) → TextLine
gives_made a = w.Gives a

pub paid_gives : (l : TextLine) → Pays Any o.Gives l → Kind AreClauses gives_made l
paid_gives (w.Gives d) h = record { value = d; fits = h; is = refl }
paid_gives _ h = absurd h

pub gives_owed : (bytes : List ℕ) (fault : Refusal) → RefusesProof AreClauses gives_text bytes fault → RefusesProof (Pays Any o.Gives) line_text bytes fault
gives_owed bytes fault r = refused_as AreClauses gives_text (Pays Any o.Gives) line_text bytes fault (λ d i. (w.Gives d, i, refl)) (λ l i. let q = paid_gives l i in (q.value, q.fits, sym (ap line_text q.is))) r

-- Conclusions.

-- a conclusion as a line says it
pub data Ending : Type 0 where
  solved : List ℤ → Ending
  unsolved : SaidLog → Ending

abbrev pub ending_text : Ending → List Token
ending_text (solved vs) = solution_text vs
ending_text (unsolved s) = t.Nothing ∷ said_text s

abbrev pub IsEnding : ℕ → Ending → Type 0
IsEnding m (solved vs) = AreValues vs
IsEnding m (unsolved s) = IsSaidLog m s

abbrev pub end_made : Ending → TextLine
end_made (solved vs) = w.End (Solution vs)
end_made (unsolved (said.Entries log)) = w.End (Nothing log)
end_made (unsolved (said.Part i)) = w.EndOf i

pub end_is : (e : Ending) → line_text (end_made e) ≡ ending_text e
end_is (solved vs) = refl
end_is (unsolved (said.Entries log)) = refl
end_is (unsolved (said.Part i)) = refl

end_pays : (m : ℕ) (e : Ending) → IsEnding m e → Pays Any (o.End m) (end_made e)
end_pays m (solved vs) h = h
end_pays m (unsolved (said.Entries log)) h = tt
end_pays m (unsolved (said.Part i)) h = h

paid_conclusion : (m : ℕ) (c : Conclusion) → IsConclusion c → Kind (IsEnding m) end_made (w.End c)
paid_conclusion m (Solution vs) h = record { value = solved vs; fits = h; is = refl }
paid_conclusion m (Nothing log) h = record { value = unsolved (said.Entries log); fits = tt; is = refl }

pub paid_end : (m : ℕ) (l : TextLine) → Pays Any (o.End m) l → Kind (IsEnding m) end_made l
paid_end m (w.End c) h = paid_conclusion m c h
paid_end m (w.EndOf i) h = record { value = unsolved (said.Part i); fits = h; is = refl }
paid_end m _ h = absurd h

pub end_owed : (m : ℕ) (bytes : List ℕ) (fault : Refusal) → RefusesProof (IsEnding m) ending_text bytes fault → RefusesProof (Pays Any (o.End m)) line_text bytes fault
end_owed m bytes fault r = refused_as (IsEnding m) ending_text (Pays Any (o.End m)) line_text bytes fault (λ e i. (end_made e, end_pays m e i, end_is e)) (λ l i. let q = paid_end m l i in (q.value, q.fits, sym (ap line_text q.is ∙ end_is q.value))) r

solved_back : (m : ℕ) (e : Ending) (tail : List Token) → IsEnding m e → ending_text e ≡ t.Solution ∷ tail → As AreValues values_text tail
solved_back m (solved vs) tail i q = record { value = vs; fits = i; is = cc }
solved_back m (unsolved s) tail i q = absurd (cc)

unsolved_back : (m : ℕ) (e : Ending) (tail : List Token) → IsEnding m e → ending_text e ≡ t.Nothing ∷ tail → As (IsSaidLog m) said_text tail
unsolved_back m (solved vs) tail i q = absurd (cc)
unsolved_back m (unsolved s) tail i q = record { value = s; fits = i; is = cc }

pub word_cut : (b v : Bool) (bytes inner : List ℕ) → b ≡ v → Cuts (cond b t.Solution t.Nothing ∷ []) bytes inner → Cuts (cond v t.Solution t.Nothing ∷ []) bytes inner
word_cut b v bytes inner e c = subst (λ z. Cuts (cond z t.Solution t.Nothing ∷ []) bytes inner) e c

pub solution_refused : (m : ℕ) (bytes inner : List ℕ) (fault : Refusal) → Cuts (t.Solution ∷ []) bytes inner → RefusesProof AreValues values_text inner fault → RefusesProof (IsEnding m) ending_text bytes fault
solution_refused m bytes inner fault cut r = refused_case AreValues values_text (IsEnding m) ending_text t.Solution bytes inner fault cut
    (λ vs i. (solved vs, i, refl)) (λ e tail i q. let b = solved_back m e tail i q in (b.value, b.fits, b.is)) r

pub none_refused : (m : ℕ) (bytes inner : List ℕ) (fault : Refusal) → Cuts (t.Nothing ∷ []) bytes inner → RefusesProof (IsSaidLog m) said_text inner fault → RefusesProof (IsEnding m) ending_text bytes fault
none_refused m bytes inner fault cut r = refused_case (IsSaidLog m) said_text (IsEnding m) ending_text t.Nothing bytes inner fault cut
    (λ s i. (unsolved s, i, refl)) (λ e tail i q. let b = unsolved_back m e tail i q in (b.value, b.fits, b.is)) r

ends_by : (e : Ending) (x : Token) (more : List Token) → ending_text e ≡ x ∷ more → IsEndWord x
ends_by (solved vs) x more q = let h : t.Solution ≡ x = cc in subst IsEndWord h tt
ends_by (unsolved s) x more q = let h : t.Nothing ≡ x = cc in subst IsEndWord h tt

some_end : (e : Ending) → ending_text e ≡ [] → ⊥
some_end (solved vs) q = cc
some_end (unsolved s) q = cc

pub no_end_word : (m : ℕ) (bytes : List ℕ) (fault : Refusal) → RefusesNext IsEndWord bytes fault → RefusesProof (IsEnding m) ending_text bytes fault
no_end_word m bytes fault lacks = lacked (IsEnding m) ending_text [] bytes bytes IsEndWord fault refl lacks
    (record { value = solved []; is_value = tt; more = ending_text (solved []); parts = refl })
    (λ e x more i q. ends_by e x more q)
    (λ e i q. some_end e q)

-- Faults.

pub line_refused : (owed : Owed) (bytes : List ℕ) (refusal : Refusal) → HasNoDeepNode owed bytes → RefusesProof (Pays Any owed) line_text bytes refusal → RefusesLine owed bytes (fault_of refusal)
line_refused owed bytes (e.Syntax left) s r = (r, s)
line_refused owed bytes e.Memory s r = tt

-- no word of a rule comes where a node is owed, on whatever level
pub no_node : (j m : ℕ) (bytes : List ℕ) (refusal : Refusal) → RefusesNext IsRowWord bytes refusal → RefusesLine (o.Node j m) bytes (fault_of refusal)
no_node j m bytes e.Memory lacks = tt
no_node j m bytes (e.Syntax left) lacks =
    (row_owed j m bytes (e.Syntax left) (Rattle.proof_grammar.proofs.RowLines.no_row bytes (e.Syntax left) lacks), λ b. absurd (lacks.1 b.word b.rest b.comes b.is_row))
