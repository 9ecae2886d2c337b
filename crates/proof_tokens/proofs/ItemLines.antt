-- Lines of items, each after a blank: what stands before the next token, and where they are refused.
use Rattle.std.proofs.Common.{ℕ, ◌≡◌, List, [], ◌∷◌, ◌++◌, refl, sym, ap, subst, ◌∙◌, append_assoc, append-nil}
use Rattle.std.specs.List.{AllByRecursion}
use Rattle.proof_tokens.specs.declared.tokens.Token.{Token}
use Rattle.proof_tokens.specs.declared.tokens.Token.TheVariants as t
use Rattle.proof_tokens.specs.declared.reading.Refusal.{Refusal}
use Rattle.proof_tokens.specs.declared.reading.Refusal.TheVariants as e
use Rattle.proof_tokens.specs.Lines.{list_text, IsSeparator}
use Rattle.proof_tokens.specs.Reading.{Cuts, RefusesProof, RefusesNext, IsApart}
use Rattle.proof_tokens.proofs.Cutting.{cut_append}
use Rattle.proof_tokens.proofs.Refusals.{lacked}
use Rattle.proof_tokens.proofs.Behind.{front_same, no_text, no_end}

-- items, each after a blank
abbrev pub before : {A : Type 0} → (A → List Token) → List A → List Token
before text [] = []
before text (a ∷ us) = t.Blank ∷ (text a ++ before text us)

before_end : {A : Type 0} (text : A → List Token) (us : List A) → list_text text us ≡ before text us ++ t.LineFeed ∷ []
before_end text [] = refl
before_end text (a ∷ us) = ap (λ z. t.Blank ∷ (text a ++ z)) (before_end text us) ∙ ap (λ z. t.Blank ∷ z) (sym (append_assoc (text a) (before text us) (t.LineFeed ∷ [])))

before_more : {A : Type 0} (text : A → List Token) (us : List A) (a : A) → before text (us ++ a ∷ []) ≡ (before text us ++ t.Blank ∷ []) ++ text a
before_more text [] a = ap (λ z. t.Blank ∷ z) (append-nil (text a))
before_more text (u ∷ us) a = ap (λ z. t.Blank ∷ (text u ++ z)) (before_more text us a) ∙ ap (λ z. t.Blank ∷ z) (sym (append_assoc (text u) (before text us ++ t.Blank ∷ []) (text a)) ∙ ap (λ z. z ++ text a) (sym (append_assoc (text u) (before text us) (t.Blank ∷ []))))

pub items_more : {A : Type 0} (P : A → Type 0) (xs : List A) (y : A) → AllByRecursion P xs → P y → AllByRecursion P (xs ++ y ∷ [])
items_more P [] y a p = (p, tt)
items_more P (x ∷ xs) y a p = (a.0, items_more P xs y a.1 p)

-- what stands after some items of a line
record Rest {A : Type 0} (IsItem : A → Type 0) (text : A → List Token) (tail : List Token) : Type 0 where
  items : List A
  all : AllByRecursion IsItem items
  is : list_text text items ≡ tail

behind_is : {A : Type 0} (IsItem : A → Type 0) (text : A → List Token) → IsApart IsItem text → (us vs : List A) (tail : List Token) → AllByRecursion IsItem us → AllByRecursion IsItem vs
    → list_text text us ≡ before text vs ++ tail → Rest IsItem text tail
behind_is IsItem text apart us [] tail p q h = record { items = us; all = p; is = h }
behind_is IsItem text apart [] (v ∷ vs) tail p q h = absurd (cc)
behind_is IsItem text apart (u ∷ us) (v ∷ vs) tail p q h =
    let inner : text u ++ list_text text us ≡ (text v ++ before text vs) ++ tail = cc in
    let same = front_same IsItem text apart u v (list_text text us) (before text vs ++ tail) p.0 q.0 (inner ∙ append_assoc (text v) (before text vs) tail) in
    behind_is IsItem text apart us vs tail p.1 q.1 same.1

-- after a blank stands an item
record Item {A : Type 0} (IsItem : A → Type 0) (text : A → List Token) (tail : List Token) : Type 0 where
  item : A
  fits : IsItem item
  more : List Token
  is : text item ++ more ≡ tail

item_behind : {A : Type 0} (IsItem : A → Type 0) (text : A → List Token) (us : List A) (tail : List Token) → AllByRecursion IsItem us → list_text text us ≡ t.Blank ∷ tail → Item IsItem text tail
item_behind IsItem text [] tail p h = absurd (cc)
item_behind IsItem text (u ∷ us) tail p h = record { item = u; fits = p.0; more = list_text text us; is = cc }

-- after some items and a blank stands an item
next_item : {A : Type 0} (IsItem : A → Type 0) (text : A → List Token) → IsApart IsItem text → (us vs : List A) (tail : List Token) → AllByRecursion IsItem us → AllByRecursion IsItem vs
    → list_text text us ≡ (before text vs ++ t.Blank ∷ []) ++ tail → Item IsItem text tail
next_item IsItem text apart us vs tail p q h =
    let r = behind_is IsItem text apart us vs (t.Blank ∷ tail) p q (h ∙ append_assoc (before text vs) (t.Blank ∷ []) tail) in
    item_behind IsItem text r.items tail r.all r.is

separates : {A : Type 0} (text : A → List Token) (us : List A) (x : Token) (more : List Token) → list_text text us ≡ x ∷ more → IsSeparator x
separates text [] x more q = let h : t.LineFeed ≡ x = cc in subst IsSeparator h tt
separates text (u ∷ us) x more q = let h : t.Blank ≡ x = cc in subst IsSeparator h tt

not_nothing : {A : Type 0} (text : A → List Token) (us : List A) → list_text text us ≡ [] → ⊥
not_nothing text [] q = cc
not_nothing text (u ∷ us) q = cc

-- after an item neither a blank nor the end of the line comes
pub no_separator : {A : Type 0} (IsItem : A → Type 0) (text : A → List Token) → IsApart IsItem text → (us : List A) (bytes back : List ℕ) (fault : Refusal) → AllByRecursion IsItem us
    → Cuts (before text us) bytes back → RefusesNext IsSeparator back fault → RefusesProof (AllByRecursion IsItem) (list_text text) bytes fault
no_separator IsItem text apart us bytes back fault all cut lacks = lacked (AllByRecursion IsItem) (list_text text) (before text us) bytes back IsSeparator fault cut lacks
    (record { value = us; is_value = all; more = t.LineFeed ∷ []; parts = before_end text us })
    (λ vs x more i q. let r = behind_is IsItem text apart vs us (x ∷ more) i all q in separates text r.items x more r.is)
    (λ vs i q. let r = behind_is IsItem text apart vs us [] i all (q ∙ sym (append-nil (before text us))) in not_nothing text r.items r.is)

-- an item is refused
pub item_refused : {A : Type 0} (IsItem : A → Type 0) (text : A → List Token) → IsApart IsItem text → (us : List A) (bytes blank item : List ℕ) (fault : Refusal) → AllByRecursion IsItem us
    → Cuts (before text us) bytes blank → Cuts (t.Blank ∷ []) blank item → RefusesProof IsItem text item fault → RefusesProof (AllByRecursion IsItem) (list_text text) bytes fault
item_refused IsItem text apart us bytes blank item e.Memory all cut is_blank r = tt
item_refused IsItem text apart us bytes blank item (e.Syntax left) all cut is_blank r =
    let b = r.first.begins in let front = (before text us ++ t.Blank ∷ []) ++ r.first.front in record {
      back = r.back;
      first = record {
        front = front;
        cut = cut_append (before text us ++ t.Blank ∷ []) r.first.front bytes item r.back (cut_append (before text us) (t.Blank ∷ []) bytes blank item cut is_blank) r.first.cut;
        begins = record {
          value = us ++ b.value ∷ [];
          is_value = items_more IsItem us b.value all b.is_value;
          more = b.more ++ t.LineFeed ∷ [];
          parts = before_end text (us ++ b.value ∷ [])
              ∙ ap (λ z. z ++ t.LineFeed ∷ []) (before_more text us b.value ∙ ap (λ z. (before text us ++ t.Blank ∷ []) ++ z) b.parts ∙ sym (append_assoc (before text us ++ t.Blank ∷ []) r.first.front b.more))
              ∙ append_assoc front b.more (t.LineFeed ∷ []);
        };
        none = λ x rest c g.
            let i = next_item IsItem text apart g.value us (r.first.front ++ x ∷ g.more) g.is_value all
            (g.parts ∙ append_assoc front (x ∷ []) g.more ∙ append_assoc (before text us ++ t.Blank ∷ []) r.first.front (x ∷ g.more)) in
            no_text IsItem text apart item left r x rest i.item i.more g.more c i.fits i.is;
      };
      inside = λ vs i q. let n = next_item IsItem text apart vs us r.first.front i all q in no_end IsItem text apart item left r n.item n.more n.fits n.is;
      place = r.place;
    }

-- one item further
pub cut_item : {A : Type 0} (text : A → List Token) (us : List A) (a : A) (bytes blank item back : List ℕ) → Cuts (before text us) bytes blank → Cuts (t.Blank ∷ []) blank item → Cuts (text a) item back
    → Cuts (before text (us ++ a ∷ [])) bytes back
cut_item text us a bytes blank item back p q r =
    subst (λ z. Cuts z bytes back) (sym (before_more text us a))
    (cut_append (before text us ++ t.Blank ∷ []) (text a) bytes item back (cut_append (before text us) (t.Blank ∷ []) bytes blank item p q) r)

-- the end of the line
pub cut_end : {A : Type 0} (text : A → List Token) (us : List A) (bytes blank back : List ℕ) → Cuts (before text us) bytes blank → Cuts (t.LineFeed ∷ []) blank back → Cuts (list_text text us) bytes back
cut_end text us bytes blank back p q = subst (λ z. Cuts z bytes back) (sym (before_end text us)) (cut_append (before text us) (t.LineFeed ∷ []) bytes blank back p q)

-- the line of no items begins that of others
pub list_apart : {A : Type 0} (IsItem : A → Type 0) (text : A → List Token) → IsApart IsItem text → IsApart (AllByRecursion IsItem) (list_text text)
list_apart IsItem text apart [] [] more p q h = (refl, let e : [] ≡ more = cc in sym e)
list_apart IsItem text apart [] (v ∷ vs) more p q h = absurd (cc)
list_apart IsItem text apart (u ∷ us) [] more p q h = absurd (cc)
list_apart IsItem text apart (u ∷ us) (v ∷ vs) more p q h =
    let inner : text u ++ list_text text us ≡ (text v ++ list_text text vs) ++ more = cc in
    let same = front_same IsItem text apart u v (list_text text us) (list_text text vs ++ more) p.0 q.0 (inner ∙ append_assoc (text v) (list_text text vs) more) in
    let rest = list_apart IsItem text apart us vs more p.1 q.1 same.1 in
    let one = same.0 in let others = rest.0 in (cc, rest.1)
