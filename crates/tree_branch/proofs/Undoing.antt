-- Undos, one after the other.
use Rattle.std.proofs.Common.{◌≡◌, ℕ, zero, suc, ◌+◌, ◌≤◌, ◌<◌, List, [], ◌∷◌, ◌++◌, length, refl, sym, ap, ◌∙◌, arith, append_assoc, length-append}
use Rattle.std.specs.Prelude.{reverse}
use Rattle.std.proofs.lemmas.List.{append-nil, length-reverse, map-append, reverse-append, reverse-reverse}
use Rattle.backlist.specs.declared.boxes.Pos.{Pos}
use Rattle.backlist.specs.History.{History, after, back, push_of}
use Rattle.sequent.specs.declared.member.Member.{Member}
use Rattle.tree_branch.specs.Standing.{members_in, undone}

module _ {T : Type 0} where
  pub undone-last : (n : ℕ) (h : History T) → undone (suc n) h ≡ back (undone n h)
  undone-last zero h = refl
  undone-last (suc n) h = undone-last n (back h)

  pub back_is : (h : History T) (e : List (Pos × T)) (es : List (List (Pos × T))) → h.earlier ≡ e ∷ es → back h ≡ record { present = e; earlier = es }
  back_is h e es is = ap (λ (l : List (List (Pos × T))). elim l as (λ _. History T) [ [] ↦ h | (x ∷ xs) ↦ record { present = x; earlier = xs } ]) is

  pub length-undone : (n : ℕ) (h : History T) → n ≤ length h.earlier → length (undone n h).earlier + n ≡ length h.earlier
  length-undone zero h le = omega arith
  length-undone (suc n) h le = by h.earlier refl (length-undone n (back h))
    where
      by : (l : List (List (Pos × T))) → h.earlier ≡ l → (n ≤ length (back h).earlier → length (undone n (back h)).earlier + n ≡ length (back h).earlier) → length (undone n (back h)).earlier + suc n ≡ length h.earlier
      by [] is rest = absurd (omega (arith, le, ap length is))
      by (e ∷ es) is rest =
          let shorter = ap (λ (g : History T). length g.earlier) (back_is h e es is) in
          let one = ap length is in
          let fewer = rest (omega (arith, le, one, shorter)) in omega (arith, fewer, one, shorter)

  pub undone-one : (n : ℕ) (h : History T) → undone (n + 1) h ≡ back (undone n h)
  undone-one n h = ap (λ k. undone k h) (let more : n + 1 ≡ suc n = omega arith in more) ∙ undone-last n h

  -- after fewer undos than there are changes one more can be undone
  pub still_earlier : (n : ℕ) (h now : History T) → now ≡ undone n h → n < length h.earlier → 0 < length now.earlier
  still_earlier n h now is lt = let rest = length-undone n h (omega (arith, lt)) in let same = ap (λ (g : History T). length g.earlier) is in omega (arith, rest, same, lt)

  -- the last undo, after n others
  pub left_over : (n i : ℕ) (h now end : History T) → end ≡ back now → now ≡ undone i h → i ≡ n → end ≡ undone (n + 1) h
  left_over n i h now end is now_is same = is ∙ ap back (now_is ∙ ap (λ k. undone k h) same) ∙ sym (undone-one n h)

-- the members of all are pushed but for those of rest, the last one first
pub record Pushing (start now : History Member) (rest all : List Member) : Type 0 where
  pub new : List (Pos × Member)
  pub behind : now.present ≡ start.present ++ new
  pub members : members_in now.present ++ reverse rest ≡ members_in start.present ++ all
  pub pushed : ℕ
  pub count : pushed + length rest ≡ length all
  pub changes : pushed ≤ length now.earlier
  pub there : undone pushed now ≡ start

pub pushing_starts : (h : History Member) (rest all : List Member) → rest ≡ reverse all → Pushing h h rest all
pushing_starts h rest all is = record {
  new = [];
  behind = sym (append-nil h.present);
  members = ap (λ l. members_in h.present ++ l) (ap reverse is ∙ reverse-reverse all);
  pushed = 0;
  count = omega (arith, ap length is, length-reverse all);
  changes = omega arith;
  there = refl;
}

pub pushing_goes : (start now new : History Member) (rest fewer all : List Member) (m : Member) (p : Pos) → Pushing start now rest all → rest ≡ fewer ++ m ∷ [] → new ≡ after (push_of p m) now
    → Pushing start new fewer all
pushing_goes start now new rest fewer all m p st is did = record {
  new = st.new ++ (p, m) ∷ [];
  behind = ap (λ (h : History Member). h.present) did ∙ ap (λ is. is ++ (p, m) ∷ []) st.behind ∙ append_assoc start.present st.new ((p, m) ∷ []);
  members =
      ap (λ (h : History Member). members_in h.present ++ reverse fewer) did ∙ ap (λ l. l ++ reverse fewer) (map-append (λ (i : Pos × Member). i.1) now.present ((p, m) ∷ []))
      ∙ append_assoc (members_in now.present) (m ∷ []) (reverse fewer) ∙ ap (λ l. members_in now.present ++ l) (sym (ap reverse is ∙ reverse-append fewer (m ∷ []))) ∙ st.members;
  pushed = suc st.pushed;
  count = (let c = st.count in omega (arith, c, ap length is, length-append fewer (m ∷ [])));
  changes = (let c = st.changes in let longer = ap (λ (h : History Member). length h.earlier) did in omega (arith, c, longer));
  there = ap (λ (h : History Member). undone (suc st.pushed) h) did ∙ st.there;
}

pub pushed_behind : {start now : History Member} {rest all : List Member} → Pushing start now rest all → (new : List (Pos × Member)) × (now.present ≡ start.present ++ new)
pushed_behind st = (st.new, st.behind)

-- the members are all pushed
pub pushed_members : {start now : History Member} {rest all : List Member} → Pushing start now rest all → rest ≡ [] → members_in now.present ≡ members_in start.present ++ all
pushed_members {start} {now} {rest} {all} st is = sym (append-nil (members_in now.present)) ∙ ap (λ l. members_in now.present ++ reverse l) (sym is) ∙ st.members

pub pushed_changes : {start now : History Member} {rest all : List Member} → Pushing start now rest all → rest ≡ [] → length all ≤ length now.earlier
pushed_changes st is = let c = st.count in let few = st.changes in omega (arith, c, few, ap length is)

pub pushed_back : {start now : History Member} {rest all : List Member} → Pushing start now rest all → rest ≡ [] → undone (length all) now ≡ start
pushed_back {start} {now} {rest} {all} st is = ap (λ n. undone n now) (let c = st.count in let n : length all ≡ st.pushed = omega (arith, c, ap length is) in n) ∙ st.there
