-- The text of a proof in the second format is read back as that proof.
use Rattle.std.proofs.Common.{ℕ, zero, suc, ◌≡◌, ◌≤◌, ◌<◌, ◌+◌, ◌&&◌, Bool, true, false, cond, List, [], ◌∷◌, ◌++◌, length, map, get_or, position, Option, Some, None, if◌then◌else◌, nat_lt, refl, sym, ap, subst, ◌∙◌, append_assoc, append-nil, arith, ◌⊎◌, inl, inr, Result, Ok, Err, OnOk}
use Rattle.std.specs.List.{AllByRecursion}
use Rattle.std.proofs.lemmas.Bool.Decides.{Decides-eqb}
use Rattle.std.proofs.lemmas.List.{get_or-map}
use Rattle.std.proofs.lemmas.List.Quantifiers.{position-Some}
use Rattle.std.proofs.lemmas.Slice.Eq.{slice_eq-Decides}
use Rattle.base_budget.specs.declared.log.Entry.{Entry}
use Rattle.base_budget.specs.declared.log.ElimLog.{ElimLog}
use Rattle.proof_tokens.specs.Lines.{AnyEntries, entries_text, IsPart}
use Rattle.proof_tokens.specs.Reading.{Cuts}
use Rattle.proof_tokens.specs.Spellings.{IsEntry, spelled}
use Rattle.proof_tokens.proofs.Apart.{entries_apart, one}
use Rattle.proof_tokens.proofs.Respelled.{cut_back}
use Rattle.proof_tokens.proofs.Spaced.{entries_spaced}
use Rattle.proof_tree.specs.declared.node.Conclusion.{Conclusion}
use Rattle.proof_tree.specs.declared.node.Conclusion.TheVariants.{Solution, Nothing}
use Rattle.proof_tree.specs.Proof.{Proof}
use Rattle.proof_grammar.specs.declared.lines.TextLine.{TextLine}
use Rattle.proof_grammar.specs.declared.lines.TextLine.TheVariants as w
use Rattle.proof_grammar.specs.declared.lines.Owed.{Owed}
use Rattle.proof_grammar.specs.declared.lines.Owed.TheVariants as o
use Rattle.proof_grammar.specs.Lines.{proof_lines}
use Rattle.proof_grammar.specs.Owed.{Pays, OwesNothing, nodes_owed, last_owed, parts_owed, tree_owed, owes, start, Shallow}
use Rattle.proof_grammar.specs.Expansion.{expanded, expansion, part_at}
use Rattle.proof_grammar.specs.Shaped.{IsWritable, IsTextOfProof}
use Rattle.proof_grammar.proofs.Expanding.{AreOf, IsOf, are_append, last_are, nodes_are}
use Rattle.proof_grammar.proofs.Trees.{proof_pays}
use Rattle.base_texts.specs.Texts.{is_among, is_text, picked, with_text}
use Rattle.proof_printer.specs.Short.{again_in, entries_of, has_two, key, keys, log_line, long_log, long_logs, most_parts, none_line, part_line, part_of, parts_of, plain_lines, seen_in, short_line, short_lines, short_lines_of, short_text}
use Rattle.proof_printer.specs.Typed.{IsTypedProof, IsTypedConclusion}
use Rattle.proof_printer.proofs.GoodLines.{AreGood, IsGood, good_append, good_spaced, plain_good}
use Rattle.proof_printer.proofs.Nodes.{AreWritten}
use Rattle.proof_printer.proofs.Tallying.{parts_most}

-- Texts.

pub text_same : (s u : List ℕ) → is_text s u ≡ true → s ≡ u
text_same s u h = (slice_eq-Decides Decides-eqb s u (is_text s u) refl).0 h

pub text_is : (s u : List ℕ) → s ≡ u → is_text s u ≡ true
text_is s u e = (slice_eq-Decides Decides-eqb s u (is_text s u) refl).1 e

-- logs that are written alike are the same
key_same : (es fs : List Entry) → AllByRecursion IsEntry es → AllByRecursion IsEntry fs → key es ≡ key fs → es ≡ fs
key_same es fs a b e =
    let cut : (us : List Entry) → AllByRecursion IsEntry us → Cuts (entries_text us) (key us ++ []) [] = λ us i. cut_back (entries_text us) [] (entries_spaced us i) in
    (one AnyEntries entries_text entries_apart es fs (key es ++ []) [] [] tt tt (cut es a) (subst (λ z. Cuts (entries_text fs) (z ++ []) []) (sym e) (cut fs b))).0

-- What holds of each text of a tally.

module _ (P : List ℕ → Type 0) where
  with_all : (b : Bool) (k : List ℕ) (ks : List (List ℕ)) → P k → AllByRecursion P ks → AllByRecursion P (if b then ks else ks ++ k ∷ [])
  with_all true k ks p a = a
  with_all false k [] p a = (p, tt)
  with_all false k (j ∷ ks) p a = (a.0, with_all false k ks p a.1)

  seen_all : (seen ks : List (List ℕ)) → AllByRecursion P seen → AllByRecursion P ks → AllByRecursion P (seen_in seen ks)
  seen_all seen [] a b = a
  seen_all seen (k ∷ ks) a b = seen_all (with_text k seen) ks (with_all (is_among k seen) k seen b.0 a) b.1

  step_all : (b : Bool) (k : List ℕ) (found : List (List ℕ)) → P k → AllByRecursion P found → AllByRecursion P (cond b (with_text k found) found)
  step_all true k found p a = with_all (is_among k found) k found p a
  step_all false k found p a = a

  picked_all : (others : List (List ℕ)) (most : ℕ) (found ts : List (List ℕ)) → AllByRecursion P found → AllByRecursion P ts → AllByRecursion P (picked others most found ts)
  picked_all others most found [] a b = a
  picked_all others most found (t ∷ ts) a b =
      picked_all others most (cond (nat_lt (length found) most && is_among t others) (with_text t found) found) ts (step_all (nat_lt (length found) most && is_among t others) t found b.0 a) b.1

  parts_all : (ls : List TextLine) → AllByRecursion P (keys ls) → AllByRecursion P (parts_of ls)
  parts_all ls a = picked_all (again_in [] [] (keys ls)) most_parts [] (seen_in [] (keys ls)) tt (seen_all [] (keys ls) tt a)

-- The entries of a part.

-- the log is one of these
abbrev IsOneOf : List Entry → List (List Entry) → Type 0
IsOneOf es [] = ⊥
IsOneOf es (f ∷ fs) = (es ≡ f) ⊎ IsOneOf es fs

-- the entries of a text: they are written so, they are two at least, and their positions fit
record AreEntriesOf (k : List ℕ) (es : List Entry) : Type 0 where
  same : key es ≡ k
  two : has_two es ≡ true
  typed : AllByRecursion IsEntry es

-- a log of two entries and more whose positions fit
abbrev IsLong : List Entry → Type 0
IsLong es = (has_two es ≡ true) × AllByRecursion IsEntry es

found_by : (f : List Entry) (fs : List (List Entry)) (k : List ℕ) (b : Bool) → is_text k (key f) ≡ b → IsLong f → (b ≡ false → AreEntriesOf k (entries_of fs k)) → AreEntriesOf k (cond b f (entries_of fs k))
found_by f fs k true e l go = record { same = sym (text_same k (key f) e); two = l.0; typed = l.1 }
found_by f fs k false e l go = go refl

found_in : (logs : List (List Entry)) (es : List Entry) → AllByRecursion IsLong logs → IsOneOf es logs → AreEntriesOf (key es) (entries_of logs (key es))
found_in [] es a m = absurd m
found_in (f ∷ fs) es a m = found_by f fs (key es) (is_text (key es) (key f)) refl a.0 (λ n. found_in fs es a.1 (later m n))
  where
    later : (es ≡ f) ⊎ IsOneOf es fs → is_text (key es) (key f) ≡ false → IsOneOf es fs
    later (inl e) n = absurd (let h = text_is (key es) (key f) (ap key e) in let bad : true ≡ false = sym h ∙ n in cc)
    later (inr q) n = q

found_all : (logs more : List (List Entry)) → AllByRecursion IsLong logs → ((es : List Entry) → IsOneOf es more → IsOneOf es logs) → AllByRecursion (λ k. AreEntriesOf k (entries_of logs k)) (map key more)
found_all logs [] a within = tt
found_all logs (es ∷ more) a within = (found_in logs es a (within es (inl refl)), found_all logs more a (λ fs m. within fs (inr m)))

long_one : (b : Bool) (es : List Entry) → has_two es ≡ b → AllByRecursion IsEntry es → AllByRecursion IsLong (cond b (es ∷ []) [])
long_one true es e a = ((e, a), tt)
long_one false es e a = tt

all_append : (xs ys : List (List Entry)) → AllByRecursion IsLong xs → AllByRecursion IsLong ys → AllByRecursion IsLong (xs ++ ys)
all_append [] ys a b = b
all_append (x ∷ xs) ys a b = (a.0, all_append xs ys a.1 b)

long_are : (ls : List TextLine) → AreGood ls → AllByRecursion IsLong (long_logs ls)
long_are [] g = tt
long_are (w.Log log ∷ ls) g = all_append (long_log log.entries) (long_logs ls) (long_one (has_two log.entries) log.entries refl g.0) (long_are ls g.1)
long_are (w.End (Nothing log) ∷ ls) g = all_append (long_log log.entries) (long_logs ls) (long_one (has_two log.entries) log.entries refl g.0.1) (long_are ls g.1)
long_are (w.End (Solution vs) ∷ ls) g = long_are ls g.1
long_are (w.Head n ∷ ls) g = long_are ls g.1
long_are (w.Parts n ∷ ls) g = long_are ls g.1
long_are (w.Part log ∷ ls) g = long_are ls g.1
long_are (w.Charges n ∷ ls) g = long_are ls g.1
long_are (w.Row p k ∷ ls) g = long_are ls g.1
long_are (w.LogOf i ∷ ls) g = long_are ls g.1
long_are (w.Gives d ∷ ls) g = long_are ls g.1
long_are (w.EndOf i ∷ ls) g = long_are ls g.1

-- the parts of a text have their entries
abbrev HaveEntries : List (List Entry) → List (List ℕ) → Type 0
HaveEntries logs ks = AllByRecursion (λ k. AreEntriesOf k (entries_of logs k)) ks

parts_have : (ls : List TextLine) → AreGood ls → HaveEntries (long_logs ls) (parts_of ls)
parts_have ls g = parts_all (λ k. AreEntriesOf k (entries_of (long_logs ls) k)) ls (found_all (long_logs ls) (long_logs ls) (long_are ls g) (λ es m. m))

are_written : (logs : List (List Entry)) (ks : List (List ℕ)) → HaveEntries logs ks → AreWritten logs ks
are_written logs [] a = tt
are_written logs (k ∷ ks) a = (a.0.same, are_written logs ks a.1)

pub parts_written : (ls : List TextLine) → AreGood ls → AreWritten (long_logs ls) (parts_of ls)
parts_written ls g = are_written (long_logs ls) (parts_of ls) (parts_have ls g)

-- The opening.

some_part : (es : List Entry) → has_two es ≡ true → IsPart es
some_part [] h = absurd (cc)
some_part (s ∷ es) h = tt

parts_good : (logs : List (List Entry)) (ks : List (List ℕ)) → HaveEntries logs ks → AreGood (map (part_line logs) ks)
parts_good logs [] a = tt
parts_good logs (k ∷ ks) a = (a.0.typed, parts_good logs ks a.1)

parts_pay : (logs : List (List Entry)) (ks : List (List ℕ)) (os : List Owed) (ls : List TextLine) → HaveEntries logs ks → OwesNothing Shallow os ls → OwesNothing Shallow (parts_owed (length ks) ++ os) (map (part_line logs) ks ++ ls)
parts_pay logs [] os ls a p = p
parts_pay logs (k ∷ ks) os ls a p = (some_part (entries_of logs k) a.0.two, parts_pay logs ks os ls a.1 p)

abbrev log_of : List (List Entry) → List ℕ → ElimLog
log_of logs k = record { entries = entries_of logs k }

parts_expanded : (logs : List (List Entry)) (ks : List (List ℕ)) (ps : List ElimLog) (ls : List TextLine) → expanded ps (map (part_line logs) ks ++ ls) ≡ expanded (ps ++ map (log_of logs) ks) ls
parts_expanded logs [] ps ls = ap (λ z. expanded z ls) (sym (append-nil ps))
parts_expanded logs (k ∷ ks) ps ls = parts_expanded logs ks (ps ++ log_of logs k ∷ []) ls ∙ ap (λ z. expanded z ls) (append_assoc ps (log_of logs k ∷ []) (map (log_of logs) ks))

-- After the opening.

abbrev with_parts : ℕ → Owed → Owed
with_parts m (o.Charges k) = o.Charges m
with_parts m (o.Node j k) = o.Node j m
with_parts m (o.Log k) = o.Log m
with_parts m (o.End k) = o.End m
with_parts m x = x

with_append : (m : ℕ) (os us : List Owed) → map (with_parts m) (os ++ us) ≡ map (with_parts m) os ++ map (with_parts m) us
with_append m [] us = refl
with_append m (x ∷ os) us = ap (λ z. with_parts m x ∷ z) (with_append m os us)

nodes_with : (m k j : ℕ) → map (with_parts m) (nodes_owed 0 k j) ≡ nodes_owed m k j
nodes_with m zero j = refl
nodes_with m (suc k) j = ap (λ z. o.Node j m ∷ z) (nodes_with m k j)

last_with : (m : ℕ) (b : Bool) → map (with_parts m) (cond b (o.Log 0 ∷ o.Gives ∷ []) (o.Gives ∷ [])) ≡ cond b (o.Log m ∷ o.Gives ∷ []) (o.Gives ∷ [])
last_with m true = refl
last_with m false = refl

-- a line and the one that stands for it
record IsShort (m : ℕ) (ps : List ElimLog) (x : Owed) (l s : TextLine) : Type 0 where
  pays : Pays Shallow (with_parts m x) s
  means : (ls : List TextLine) → expanded ps (s ∷ ls) ≡ l ∷ expanded ps ls
  are : AreOf 0 (owes x l)
  owed : map (with_parts m) (owes x l) ≡ owes (with_parts m x) s
  good : IsGood s

all_at : (P : List ℕ → Type 0) (ks : List (List ℕ)) (i : ℕ) (d : List ℕ) → AllByRecursion P ks → i < length ks → P (get_or ks i d)
all_at P [] i d a h = absurd (omega arith)
all_at P (k ∷ ks) zero d a h = a.0
all_at P (k ∷ ks) (suc i) d a h = all_at P ks i d a.1 (omega (arith, h))

found_place : (b : Bool) (place : Option ℕ) (i : ℕ) → cond b place None ≡ Some i → place ≡ Some i
found_place true place i e = e
found_place false place i e = absurd (cc)

module _ (logs : List (List Entry)) (ks : List (List ℕ)) (have : HaveEntries logs ks) (few : length ks ≤ most_parts) where
  abbrev ps : List ElimLog
  ps = map (log_of logs) ks

  -- where a log is a part
  record Placed (es : List Entry) (i : ℕ) : Type 0 where
    low : i < length ks
    is : part_at ps i ≡ record { entries = es }

  placed : (es : List Entry) (i : ℕ) → AllByRecursion IsEntry es → part_of ks es ≡ Some i → Placed es i
  placed es i typed e =
      let q = position-Some (is_text (key es)) ks i [] (found_place (has_two es) (position (is_text (key es)) ks) i e) in
      let k = get_or ks i [] in let h : AreEntriesOf k (entries_of logs k) = all_at (λ z. AreEntriesOf z (entries_of logs z)) ks i [] have q.0 in
      let same : entries_of logs k ≡ es = key_same (entries_of logs k) es h.typed typed (h.same ∙ sym (text_same (key es) k q.1)) in
      record { low = q.0; is = get_or-map (log_of logs) ks i [] (record { entries = [] }) q.0 ∙ ap (λ (z : List Entry). record { entries = z }) same }

  log_short : (n : ℕ) (log : ElimLog) (place : Option ℕ) → part_of ks log.entries ≡ place → AllByRecursion IsEntry log.entries → IsShort (length ks) ps (o.Log n) (w.Log log) (log_line log.entries place)
  log_short n log None e typed = record { pays = tt; means = λ ls. refl; are = tt; owed = refl; good = typed }
  log_short n log (Some i) e typed =
      let p = placed log.entries i typed e in let low = p.low in
      record { pays = low; means = λ ls. ap (λ z. w.Log z ∷ expanded ps ls) p.is; are = tt; owed = refl; good = omega (arith, low, few) }

  none_short : (n : ℕ) (log : ElimLog) (place : Option ℕ) → part_of ks log.entries ≡ place → AllByRecursion IsEntry log.entries → IsShort (length ks) ps (o.End n) (w.End (Nothing log)) (none_line log.entries place)
  none_short n log None e typed = record { pays = tt; means = λ ls. refl; are = tt; owed = refl; good = (tt, typed) }
  none_short n log (Some i) e typed =
      let p = placed log.entries i typed e in let low = p.low in
      record { pays = low; means = λ ls. ap (λ z. w.End (Nothing z) ∷ expanded ps ls) p.is; are = tt; owed = refl; good = omega (arith, low, few) }

  row_short : (j n : ℕ) (p : Rattle.sequent.specs.declared.member.Pick.Pick) (k : ℕ) → n ≡ 0 → Pays Shallow (o.Node j n) (w.Row p k) → IsShort (length ks) ps (o.Node j n) (w.Row p k) (w.Row p k)
  row_short j n p k e h = subst (λ z. IsShort (length ks) ps (o.Node j z) (w.Row p k) (w.Row p k)) (sym e) (record {
    pays = h;
    means = λ ls. refl;
    are = are_append 0 (nodes_owed 0 k (j + 1)) (last_owed 0 p) (nodes_are 0 k (j + 1)) (last_are 0 (Rattle.proof_tree.specs.Walk.eliminates p));
    owed = with_append (length ks) (nodes_owed 0 k (j + 1)) (last_owed 0 p) ∙ ap (λ z. z ++ map (with_parts (length ks)) (last_owed 0 p)) (nodes_with (length ks) k (j + 1))
        ∙ ap (λ z. nodes_owed (length ks) k (j + 1) ++ z) (last_with (length ks) (Rattle.proof_tree.specs.Walk.eliminates p));
    good = h.1;
  })

  one_short : (x : Owed) (l : TextLine) → IsOf 0 x → IsGood l → Pays Shallow x l → IsShort (length ks) ps x l (short_line ks l)
  one_short (o.Node j n) (w.Row p k) i g h = row_short j n p k i h
  one_short (o.Node j n) _ i g h = absurd h
  one_short (o.Log n) (w.Log log) i g h = log_short n log (part_of ks log.entries) refl g
  one_short (o.Log n) (w.LogOf k) i g h = absurd (omega (arith, h, i))
  one_short (o.Log n) _ i g h = absurd h
  one_short o.Gives (w.Gives d) i g h = record { pays = h; means = λ ls. refl; are = tt; owed = refl; good = g }
  one_short o.Gives _ i g h = absurd h
  one_short (o.End n) (w.End (Solution vs)) i g h = record { pays = h; means = λ ls. refl; are = tt; owed = refl; good = g }
  one_short (o.End n) (w.End (Nothing log)) i g h = none_short n log (part_of ks log.entries) refl g.1
  one_short (o.End n) (w.EndOf k) i g h = absurd (omega (arith, h, i))
  one_short (o.End n) _ i g h = absurd h
  one_short o.Head l i g h = absurd i
  one_short o.Parts l i g h = absurd i
  one_short o.Part l i g h = absurd i
  one_short (o.Charges n) l i g h = absurd i

  -- the lines that stand for those of a text of the first format: they pay for what is owed in the second, they mean the lines
  -- that they stand for, and their numbers are in their ranges
  record AreShort (os : List Owed) (ls : List TextLine) : Type 0 where
    whole : OwesNothing Shallow (map (with_parts (length ks)) os) (short_lines_of ks ls)
    mean : expanded ps (short_lines_of ks ls) ≡ ls
    good : AreGood (short_lines_of ks ls)

  inner_short : (os : List Owed) (ls : List TextLine) → AreOf 0 os → AreGood ls → OwesNothing Shallow os ls → AreShort os ls
  inner_short os [] a g p = record { whole = ap (map (with_parts (length ks))) p; mean = refl; good = tt }
  inner_short [] (l ∷ ls) a g p = absurd p
  inner_short (x ∷ os) (l ∷ ls) a g p =
      let q = one_short x l a.0 g.0 p.0 in let more = inner_short (owes x l ++ os) ls (are_append 0 (owes x l) os q.are a.1) g.1 p.1 in
      record {
        whole = (q.pays, subst (λ z. OwesNothing Shallow z (short_lines_of ks ls)) (with_append (length ks) (owes x l) os ∙ ap (λ z. z ++ map (with_parts (length ks)) os) q.owed) more.whole);
        mean = q.means (short_lines_of ks ls) ∙ ap (λ z. l ∷ z) more.mean;
        good = (q.good, more.good);
      }

-- The whole text.

-- what the lines of a proof in the second format are
pub record IsShortText (n : ℕ) (x : Proof) (c : Conclusion) : Type 0 where
  pub good : AreGood (short_lines n x c)
  pub whole : OwesNothing Shallow start (short_lines n x c)
  pub is : expansion (short_lines n x c) ≡ proof_lines n x c

pub is_short : (n : ℕ) (x : Proof) (c : Conclusion) → IsWritable n x c → IsTypedProof x → IsTypedConclusion c → IsShortText n x c
is_short n x c s i k =
    let ls = plain_lines x c in let ks = parts_of ls in let logs = long_logs ls in let m = length ks in
    let g = plain_good n x c s i k in let have = parts_have ls g in
    let few : m ≤ most_parts = parts_most (again_in [] [] (keys ls)) (seen_in [] (keys ls)) in
    let body = inner_short logs ks have few (tree_owed 0) ls (refl, (refl, tt)) g (proof_pays n x c s).1.1 in
    let charges = s.charges in
    record {
      good = (omega arith, (omega (arith, few), good_append (map (part_line logs) ks) (w.Charges n ∷ short_lines_of ks ls) (parts_good logs ks have) ((let h = charges.1 in omega arith), body.good)));
      whole = (
        (omega arith, omega arith),
        (
          (omega arith, few),
          subst (λ z. OwesNothing Shallow z (map (part_line logs) ks ++ w.Charges n ∷ short_lines_of ks ls)) (sym (append-nil (parts_owed m ++ o.Charges m ∷ [])))
              (parts_pay logs ks (o.Charges m ∷ []) (w.Charges n ∷ short_lines_of ks ls) have (charges, body.whole)),
        ),
      );
      is = ap (λ z. w.Head 1 ∷ z) (parts_expanded logs ks [] (w.Charges n ∷ short_lines_of ks ls) ∙ ap (λ z. w.Charges n ∷ z) body.mean);
    }

pub short_spaced : (n : ℕ) (x : Proof) (c : Conclusion) → IsWritable n x c → IsTypedProof x → IsTypedConclusion c → Rattle.proof_tokens.specs.Spellings.AreSpaced (short_text n x c)
short_spaced n x c s i k = good_spaced (short_lines n x c) (is_short n x c s i k).good

pub short_holds : (n : ℕ) (x : Proof) (c : Conclusion) → IsWritable n x c → IsTypedProof x → IsTypedConclusion c → IsTextOfProof (spelled (short_text n x c)) n x c
short_holds n x c s i k =
    let t = is_short n x c s i k in
    record {
      shaped = s;
      lines = short_lines n x c;
      whole = t.whole;
      is = t.is;
      cut = subst (λ z. Cuts (short_text n x c) z []) (append-nil (spelled (short_text n x c))) (cut_back (short_text n x c) [] (good_spaced (short_lines n x c) t.good));
    }

-- the same for what a call wrote
pub written_short : {A E : Type 0} (r : Result A E) (n : ℕ) (x : Proof) (c : Conclusion) → IsWritable n x c → IsTypedProof x → IsTypedConclusion c → OnOk r (IsTextOfProof (spelled (short_text n x c)) n x c)
written_short (Ok v) n x c s i k = short_holds n x c s i k
written_short (Err v) n x c s i k = tt
