-- What is derived, the machine gives: for every rest that does not go on with the part, and below all frames.
use Rattle.std.proofs.Common.{ℕ, suc, ◌≡◌, Bool, true, false, List, [], ◌∷◌, ◌++◌, None, refl, sym, ap, ◌∙◌, arith}
use Rattle.pri_tokens.specs.declared.terminals.Terminal.{Terminal}
use Rattle.pri_tokens.specs.declared.terminals.Terminal.TheVariants as t
use Rattle.pri_tokens.specs.declared.terminals.Lexeme.{Lexeme}
use Rattle.pri_reader.specs.declared.tree.Expr.{Expr}
use Rattle.pri_reader.specs.declared.tree.Form.TheVariants as form
use Rattle.pri_reader.specs.declared.tree.Added.{Added}
use Rattle.pri_reader.specs.declared.tree.Name.{Name}
use Rattle.pri_reader.specs.declared.tree.TypeName.{TypeName}
use Rattle.pri_reader.specs.declared.tree.Declared.{Declared}
use Rattle.pri_reader.specs.Classes.{prefix_of, opening_of}
use Rattle.pri_reader.specs.Grammar.{Right, equivalence, implication, multiplication, Chain, Part, right, chain, unary, rel, sum, factor, primary, parenthesized, whole, operand, member, quantifier, truth_word, pair_word, expr, join, added, Setting, name_of, Takes, IsType, Binding, bound_first, bound_next, bound_line, Derives, right_one, right_two, chain_all, unary_not, unary_bound, unary_grouped, unary_part, unary_rel, rel_one, rel_two, sum_all, factor_minus, factor_primary, number, truth, use_bare, use_empty, use_applied, group, conditional, absolute, pair, parentheses, Members, member_first, member_next, Terms, term_first, term_next, Arguments, argument_first, argument_next}
use Rattle.pri_reader.specs.MachineStates.{Frame, right_of, chain_of, rel_of, sum_of, wrap, parenthesis_of, test_of, branch_of, arguments_of, pair_left, pair_right, second, not_at, minus_at, bound_at, part_at, compared, grouped_at, absolute_at, branches, Want, a_unary, a_minus, a_parenthesis, an_argument, a_pair, a_binder, for_binder, a_type, bound_more, gives, under_sum, under_rel, under_chain, under_right}
use Rattle.pri_reader.specs.Machine.{unary_moves, argument_moves, follows, moves, limited, goes_on, run}
use Rattle.pri_reader.proofs.Moves.{under, wants, taken, step_on, step_level, step_numeral, rank, Stops, stops_at, operand_rank, member_rank, right_joins, chain_joins, comparison_joins, adding_joins, pass_right, pass_chain, pass_rel, pass_sum, pass_wrap, pass_name, follow_right, follow_chain, follow_rel, follow_sum, begin_right, begin_member, begin_chain}
use Rattle.pri_reader.proofs.CompleteTypes.{no_range_at, type_complete, binder_begins}

-- How a part begins.

abbrev is_close : Terminal → Bool
is_close t.CloseParenthesis = true
is_close _ = false

abbrev is_term : Part → Bool
is_term (right multiplication) = true
is_term rel = true
is_term sum = true
is_term factor = true
is_term primary = true
is_term _ = false

-- the first token of a part
record Starts (part : Part) (tokens : List Lexeme) : Type 0 where
  first : Lexeme
  behind : List Lexeme
  parts : tokens ≡ first ∷ behind
  opens : is_close first.terminal ≡ false
  term : is_term part ≡ true → prefix_of first.terminal ≡ None

starts_with : {k : Terminal} {x : Lexeme} {tokens inner : List Lexeme} (part : Part) → Takes k x tokens inner
    → is_close k ≡ false → (is_term part ≡ true → prefix_of k ≡ None) → Starts part tokens
starts_with {x = x} {inner = inner} part e p q = record {
  first = x;
  behind = inner;
  parts = e.parts;
  opens = ap is_close e.is ∙ p;
  term = λ h. ap prefix_of e.is ∙ q h;
}

starts_as : {old : Part} {tokens : List Lexeme} (part : Part) → Starts old tokens → (is_term part ≡ true → is_term old ≡ true) → Starts part tokens
starts_as part u h = record { first = u.first; behind = u.behind; parts = u.parts; opens = u.opens; term = λ g. u.term (h g) }

no_term : {A : Type 0} → false ≡ true → A
no_term e = absurd cc

operand_term : (r : Right) → is_term (right r) ≡ true → is_term (operand r) ≡ true
operand_term multiplication h = refl
operand_term implication h = no_term h
operand_term equivalence h = no_term h

starts_quantified : {x : Lexeme} {tokens inner : List Lexeme} (all : Bool) → Takes (quantifier all) x tokens inner → Starts unary tokens
starts_quantified true e = starts_with unary e refl (λ h. no_term h)
starts_quantified false e = starts_with unary e refl (λ h. no_term h)

starts_truth : {x : Lexeme} {tokens inner : List Lexeme} (b : Bool) → Takes (truth_word b) x tokens inner → Starts primary tokens
starts_truth true e = starts_with primary e refl (λ h. refl)
starts_truth false e = starts_with primary e refl (λ h. refl)

starts_pair : {x : Lexeme} {tokens inner : List Lexeme} (b : Bool) → Takes (pair_word b) x tokens inner → Starts primary tokens
starts_pair true e = starts_with primary e refl (λ h. refl)
starts_pair false e = starts_with primary e refl (λ h. refl)

mutual
  starts : {s : Setting} {d : ℕ} {part : Part} {f : Expr} {tokens rest : List Lexeme} → Derives s d part f tokens rest → Starts part tokens
  starts (right_one {r = r} u) = starts_as (right r) (starts u) (operand_term r)
  starts (right_two {r = r} u e l v) = starts_as (right r) (starts u) (operand_term r)
  starts (chain_all {c = c} m) = starts_as (chain c) (starts_members m) (λ h. no_term h)
  starts (unary_not e l u) = starts_with unary e refl (λ h. no_term h)
  starts (unary_bound {all = all} e b c u) = starts_quantified all e
  starts (unary_grouped {all = all} e p b c u) = starts_quantified all e
  starts (unary_part e l p n c u) = starts_with unary e refl (λ h. no_term h)
  starts (unary_rel u) = starts_as unary (starts u) (λ h. no_term h)
  starts (rel_one u) = starts_as rel (starts u) (λ h. refl)
  starts (rel_two u e v) = starts_as rel (starts u) (λ h. refl)
  starts (sum_all m) = starts_as sum (starts_terms m) (λ h. refl)
  starts (factor_minus e l u) = starts_with factor e refl (λ h. refl)
  starts (factor_primary u) = starts_as factor (starts u) (λ h. refl)
  starts (number e h) = starts_with primary e refl (λ g. refl)
  starts (truth {b = b} e) = starts_truth b e
  starts (use_bare e) = starts_with primary e refl (λ h. refl)
  starts (use_empty e p l c) = starts_with primary e refl (λ h. refl)
  starts (use_applied e p l m c) = starts_with primary e refl (λ h. refl)
  starts (group e u) = starts_with primary e refl (λ h. refl)
  starts (conditional e u f v g w) = starts_with primary e refl (λ h. refl)
  starts (absolute e u) = starts_with primary e refl (λ h. refl)
  starts (pair max e p l u f v c) = starts_pair max e
  starts (parentheses e l u c) = starts_with parenthesized e refl (λ h. no_term h)

  starts_members : {s : Setting} {d : ℕ} {c : Chain} {fs : List Expr} {f : Expr} {tokens rest : List Lexeme} → Members s d c fs f tokens rest
      → Starts (member c) tokens
  starts_members (member_first u) = starts u
  starts_members (member_next m e u) = starts_members m

  starts_terms : {s : Setting} {d : ℕ} {before : List Added} {sign : Bool} {f : Expr} {tokens rest : List Lexeme} → Terms s d before sign f tokens rest
      → Starts sum tokens
  starts_terms (term_first u) = starts_as sum (starts u) (λ h. refl)
  starts_terms (term_next m e u) = starts_terms m

-- a relation begins as a unary
unary_as_rel : (s : Setting) (end : ℕ) (tokens : List Lexeme) (n : ℕ) (frames : List Frame) → Starts rel tokens
    → run s end tokens (a_unary n) frames ≡ run s end tokens (a_minus n) (under_rel n frames)
unfolding moves
unary_as_rel s end tokens n frames u =
    let e : Takes u.first.terminal u.first tokens u.behind = record { parts = u.parts; is = refl } in
    taken s end e (a_unary n) frames
    ∙ ap (λ z. goes_on (run s end u.behind) (limited (s.small u.behind) (s.shallow u.behind) u.first.at (unary_moves s u.first z (opening_of u.first.terminal) n frames))) (u.term refl)
    ∙ sym (taken s end e (a_minus n) (under_rel n frames))

-- the first argument begins as a whole
argument_as_whole : (s : Setting) (x : Lexeme) (k : Terminal) (name : Name) (n : ℕ) (frames : List Frame) → is_close k ≡ false
    → argument_moves s x k name n frames ≡ unary_moves s x (prefix_of k) (opening_of k) n (under_right equivalence n (arguments_of name n [] ∷ frames))
argument_as_whole s x t.CloseParenthesis name n frames h = absurd cc
argument_as_whole s x _ name n frames h = refl

whole_argument : (s : Setting) (end : ℕ) (tokens : List Lexeme) (name : Name) (n : ℕ) (frames : List Frame) → Starts whole tokens
    → run s end tokens (an_argument name n) frames ≡ run s end tokens (a_unary n) (under_right equivalence n (arguments_of name n [] ∷ frames))
unfolding moves
whole_argument s end tokens name n frames u =
    let e : Takes u.first.terminal u.first tokens u.behind = record { parts = u.parts; is = refl } in
    taken s end e (an_argument name n) frames
    ∙ ap (λ z. goes_on (run s end u.behind) (limited (s.small u.behind) (s.shallow u.behind) u.first.at z)) (argument_as_whole s u.first u.first.terminal name n frames u.opens)
    ∙ sym (taken s end e (a_unary n) (under_right equivalence n (arguments_of name n [] ∷ frames)))

-- Binding names.

abbrev begins_bound : Bool → ℕ → Bool → ℕ → Want
begins_bound false at all d = a_binder at all d
begins_bound true at all d = a_type (for_binder at all true d [])

begin_bound : {s : Setting} {sort : TypeName} {tokens rest : List Lexeme} (end : ℕ) (several : Bool) → IsType s sort tokens rest → (at : ℕ) (all : Bool) (d : ℕ) (frames : List Frame)
    → run s end tokens (begins_bound several at all d) frames ≡ run s end tokens (a_type (for_binder at all several d [])) frames
begin_bound end true i at all d frames = refl
begin_bound end false i at all d frames = binder_begins end i at all d frames

bound_complete : {s : Setting} {several : Bool} {sort : TypeName} {d e : ℕ} {names : List Declared} {tokens rest : List Lexeme} (end : ℕ)
    → Binding s several sort d e names tokens rest → (at : ℕ) (all : Bool) (frames : List Frame)
    → run s end tokens (begins_bound several at all d) frames ≡ run s end rest (bound_more at all several sort e names) frames
unfolding moves
bound_complete {s = s} {several = several} {d = d} end (bound_first i x l) at all frames =
    begin_bound end several i at all d frames ∙ type_complete end i (no_range_at x refl) (for_binder at all several d []) frames ∙ step_level s end x _ _ refl l
bound_complete {s = s} end (bound_next b c x l) at all frames =
    bound_complete end b at all frames ∙ step_on s end c _ _ refl ∙ step_level s end x _ _ refl l
bound_complete {s = s} end (bound_line {e = e} {names = names} b c i x l) at all frames =
    bound_complete end b at all frames ∙ step_on s end c _ _ refl ∙ type_complete end i (no_range_at x refl) (for_binder at all true e names) frames
    ∙ step_level s end x _ _ refl l

quantified : (s : Setting) (end : ℕ) {x : Lexeme} {tokens inner : List Lexeme} (all : Bool) → Takes (quantifier all) x tokens inner → (d : ℕ) (frames : List Frame)
    → run s end tokens (a_unary d) frames ≡ run s end inner (a_binder x.at all d) frames
unfolding moves
quantified s end true e d frames = step_on s end e _ _ refl
quantified s end false e d frames = step_on s end e _ _ refl

true_word : (s : Setting) (end : ℕ) {x : Lexeme} {tokens inner : List Lexeme} (b : Bool) → Takes (truth_word b) x tokens inner → (d : ℕ) (frames : List Frame)
    → run s end tokens (a_minus d) frames ≡ run s end inner (gives (expr x.at (form.Truth b))) frames
unfolding moves
true_word s end true e d frames = step_on s end e _ _ refl
true_word s end false e d frames = step_on s end e _ _ refl

pair_begins : (s : Setting) (end : ℕ) {x : Lexeme} {tokens inner : List Lexeme} (b : Bool) → Takes (pair_word b) x tokens inner → (d : ℕ) (frames : List Frame)
    → run s end tokens (a_minus d) frames ≡ run s end inner (a_pair b x.at d) frames
unfolding moves
pair_begins s end true e d frames = step_on s end e _ _ refl
pair_begins s end false e d frames = step_on s end e _ _ refl

group_begins : (s : Setting) (end : ℕ) {x : Lexeme} {tokens inner : List Lexeme} → Takes t.OpenParenthesis x tokens inner → (d : ℕ) (frames : List Frame)
    → run s end tokens (a_minus d) frames ≡ run s end tokens (a_parenthesis d) (wrap (grouped_at x.at) ∷ frames)
unfolding moves
group_begins s end e d frames = taken s end e _ _ ∙ sym (taken s end e _ _)

-- The parts.

mutual
  unfolding moves follows

  pub complete : {s : Setting} {d : ℕ} {part : Part} {f : Expr} {tokens rest : List Lexeme} (end : ℕ) → Derives s d part f tokens rest → Stops (rank part) rest
      → (frames : List Frame) → run s end tokens (wants part d) (under part d frames) ≡ run s end rest (gives f) frames
  complete {s = s} {d = d} {f = f} {tokens = tokens} {rest = rest} end (right_one {r = r} u) h frames =
      begin_right r d frames (λ w fr. run s end tokens w fr ≡ run s end rest (gives f) frames)
      (complete end u (omega (arith, operand_rank r)) (right_of r d ∷ frames) ∙ pass_right s end r d f frames rest h)
  complete {s = s} {d = d} {tokens = tokens} {rest = rest} end (right_two {r = r} {f = f} {g = g} {x = x} u e l v) h frames =
      begin_right r d frames (λ w fr. run s end tokens w fr ≡ run s end rest (gives (join r f x.at g)) frames)
      (complete end u (stops_at _ e (omega (arith, operand_rank r, right_joins r))) (right_of r d ∷ frames)
      ∙ step_level s end e _ _ (follow_right x.at d r f frames) l
      ∙ complete end v h (wrap (second r f x.at) ∷ frames)
      ∙ pass_wrap s end (second r f x.at) g frames rest)
  complete {s = s} {d = d} {rest = rest} end (chain_all {c = c} {fs = fs} {f = f} m) h frames =
      members_complete end m (omega (arith, member_rank c)) frames ∙ pass_chain s end c d fs f frames rest h
  complete {s = s} {rest = rest} end (unary_not {f = f} {x = x} e l u) h frames =
      step_level s end e _ _ refl l ∙ complete end u h (wrap (not_at x.at) ∷ frames) ∙ pass_wrap s end (not_at x.at) f frames rest
  complete {s = s} {d = d} {rest = rest} end (unary_bound {all = all} {names = names} {f = f} {x = x} e b c u) h frames =
      quantified s end all e d frames ∙ bound_complete end b x.at all frames ∙ step_on s end c _ _ refl
      ∙ complete end u h (wrap (bound_at x.at all names) ∷ frames) ∙ pass_wrap s end (bound_at x.at all names) f frames rest
  complete {s = s} {d = d} {rest = rest} end (unary_grouped {all = all} {names = names} {f = f} {x = x} e p b c u) h frames =
      quantified s end all e d frames ∙ step_on s end p _ _ refl ∙ bound_complete end b x.at all frames ∙ step_on s end c _ _ refl
      ∙ complete end u h (wrap (bound_at x.at all names) ∷ frames) ∙ pass_wrap s end (bound_at x.at all names) f frames rest
  complete {s = s} {rest = rest} end (unary_part {f = f} {x = x} {n = n} e l p i c u) h frames =
      step_level s end e _ _ refl l ∙ step_on s end p _ _ refl ∙ step_on s end i _ _ refl ∙ step_on s end c _ _ refl
      ∙ complete end u h (wrap (part_at x.at (name_of s n)) ∷ frames) ∙ pass_wrap s end (part_at x.at (name_of s n)) f frames rest
  complete {s = s} {d = d} {tokens = tokens} end (unary_rel u) h frames =
      unary_as_rel s end tokens d frames (starts u) ∙ complete end u h frames
  complete {s = s} {d = d} {f = f} {rest = rest} end (rel_one u) h frames =
      complete end u (omega arith) (rel_of d ∷ frames) ∙ pass_rel s end d f frames rest h
  complete {s = s} {d = d} {rest = rest} end (rel_two {c = c} {f = f} {g = g} {x = x} u e v) h frames =
      complete end u (stops_at _ e (omega (arith, comparison_joins c))) (rel_of d ∷ frames)
      ∙ step_on s end e _ _ (follow_rel x.at d c f frames) ∙ complete end v (omega arith) (wrap (compared c f) ∷ frames)
      ∙ pass_wrap s end (compared c f) g frames rest
  complete {s = s} {d = d} {rest = rest} end (sum_all {before = before} {sign = sign} {f = f} m) h frames =
      terms_complete end m (omega arith) frames ∙ pass_sum s end d before sign f frames rest h
  complete {s = s} {rest = rest} end (factor_minus {f = f} {x = x} e l u) h frames =
      step_level s end e _ _ refl l ∙ complete end u h (wrap (minus_at x.at) ∷ frames) ∙ pass_wrap s end (minus_at x.at) f frames rest
  complete end (factor_primary u) h frames = complete end u h frames
  complete {s = s} end (number e l) h frames = step_numeral s end e _ _ refl l
  complete {s = s} {d = d} end (truth {b = b} e) h frames = true_word s end b e d frames
  complete {s = s} {d = d} {rest = rest} end (use_bare {x = x} e) h frames = step_on s end e _ _ refl ∙ pass_name s end (name_of s x) d frames rest h
  complete {s = s} end (use_empty e p l c) h frames = step_on s end e _ _ refl ∙ step_level s end p _ _ refl l ∙ step_on s end c _ _ refl
  complete {s = s} end (use_applied {fs = fs} {f = f} {x = x} e p l m c) h frames =
      step_on s end e _ _ refl ∙ step_level s end p _ _ refl l
      ∙ arguments_complete end m (stops_at _ c (omega arith)) (name_of s x) frames ∙ step_on s end c _ _ refl
  complete {s = s} {d = d} {rest = rest} end (group {f = f} {x = x} e u) h frames =
      group_begins s end e d frames ∙ complete end u (omega arith) (wrap (grouped_at x.at) ∷ frames) ∙ pass_wrap s end (grouped_at x.at) f frames rest
  complete {s = s} {d = d} {rest = rest} end (conditional {c = c} {f = f} {g = g} {x = x} e u y v z w) h frames =
      step_on s end e _ _ refl ∙ complete end u (stops_at _ y (omega arith)) (test_of x.at d ∷ frames)
      ∙ step_on s end y _ _ refl ∙ complete end v (stops_at _ z (omega arith)) (branch_of x.at d c ∷ frames)
      ∙ step_on s end z _ _ refl ∙ complete end w (omega arith) (wrap (branches x.at c f) ∷ frames)
      ∙ pass_wrap s end (branches x.at c f) g frames rest
  complete {s = s} {rest = rest} end (absolute {f = f} {x = x} e u) h frames =
      step_on s end e _ _ refl ∙ complete end u (omega arith) (wrap (absolute_at x.at) ∷ frames) ∙ pass_wrap s end (absolute_at x.at) f frames rest
  complete {s = s} {d = d} end (pair max {f = f} {x = x} e p l u i v c) h frames =
      pair_begins s end max e d frames ∙ step_level s end p _ _ refl l
      ∙ complete end u (stops_at _ i (omega arith)) (pair_left max x.at (suc d) ∷ frames) ∙ step_on s end i _ _ refl
      ∙ complete end v (stops_at _ c (omega arith)) (pair_right max x.at f ∷ frames) ∙ step_on s end c _ _ refl
  complete {s = s} end (parentheses e l u c) h frames =
      step_level s end e _ _ refl l ∙ complete end u (stops_at _ c (omega arith)) (parenthesis_of ∷ frames) ∙ step_on s end c _ _ refl

  members_complete : {s : Setting} {d : ℕ} {c : Chain} {fs : List Expr} {f : Expr} {tokens rest : List Lexeme} (end : ℕ) → Members s d c fs f tokens rest
      → Stops (rank (member c)) rest → (frames : List Frame)
      → run s end tokens (a_unary d) (under_chain c d frames) ≡ run s end rest (gives f) (chain_of c d fs ∷ frames)
  members_complete {s = s} {d = d} {c = c} {f = f} {tokens = tokens} {rest = rest} end (member_first u) h frames =
      begin_chain c d frames (λ w fr. run s end tokens w fr ≡ run s end rest (gives f) (chain_of c d [] ∷ frames)) (complete end u h (chain_of c d [] ∷ frames))
  members_complete {s = s} {d = d} {c = c} {rest = rest} end (member_next {fs = fs} {f = f} {g = g} {x = x} {inner = inner} m e u) h frames =
      members_complete end m (stops_at _ e (omega (arith, member_rank c, chain_joins c))) frames
      ∙ step_on s end e _ _ (follow_chain x.at d c fs f frames)
      ∙ begin_member c d (chain_of c d (fs ++ f ∷ []) ∷ frames) (λ w fr. run s end inner w fr ≡ run s end rest (gives g) (chain_of c d (fs ++ f ∷ []) ∷ frames))
      (complete end u h (chain_of c d (fs ++ f ∷ []) ∷ frames))

  terms_complete : {s : Setting} {d : ℕ} {before : List Added} {sign : Bool} {f : Expr} {tokens rest : List Lexeme} (end : ℕ) → Terms s d before sign f tokens rest
      → Stops 2 rest → (frames : List Frame)
      → run s end tokens (a_minus d) (under_sum d frames) ≡ run s end rest (gives f) (sum_of d before sign ∷ frames)
  terms_complete {s = s} {d = d} end (term_first u) h frames = complete end u h (sum_of d [] false ∷ frames)
  terms_complete {s = s} {d = d} end (term_next {before = before} {old = old} {new = new} {f = f} {x = x} m e u) h frames =
      terms_complete end m (stops_at _ e (omega (arith, adding_joins new))) frames
      ∙ step_on s end e _ _ (follow_sum x.at d new before old f frames)
      ∙ complete end u h (sum_of d (before ++ added old f ∷ []) new ∷ frames)

  arguments_complete : {s : Setting} {d : ℕ} {fs : List Expr} {f : Expr} {tokens rest : List Lexeme} (end : ℕ) → Arguments s d fs f tokens rest
      → Stops 8 rest → (name : Name) (frames : List Frame)
      → run s end tokens (an_argument name d) frames ≡ run s end rest (gives f) (arguments_of name d fs ∷ frames)
  arguments_complete {s = s} {d = d} {tokens = tokens} end (argument_first u) h name frames =
      whole_argument s end tokens name d frames (starts u) ∙ complete end u h (arguments_of name d [] ∷ frames)
  arguments_complete {s = s} {d = d} end (argument_next {fs = fs} {f = f} m e u) h name frames =
      arguments_complete end m (stops_at _ e (omega arith)) name frames ∙ step_on s end e _ _ refl
      ∙ complete end u h (arguments_of name d (fs ++ f ∷ []) ∷ frames)
