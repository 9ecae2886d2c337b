-- What a table of symbols keeps when a declaration is added.
use Rattle.std.proofs.Common.{◌≡◌, ℕ, ◌+◌, ◌≤◌, Bool, true, false, ◌||◌, cond, List, [], ◌∷◌, ◌++◌, map, length, Option, Some, None, refl, sym, ap, subst, ◌∙◌, append_assoc, arith, is_some, suc, length-append, if◌then◌else◌}
use Rattle.std.specs.Global.{Vec}
use Rattle.std.specs.Option.{IfSome}
use Rattle.std.proofs.lemmas.List.{append-nil}
use Rattle.std.specs.List.{filter_map, cons_option}
use Rattle.std.proofs.lemmas.List.Elements.{filter_map-append}
use Rattle.pri_reader.specs.declared.tree.Name.{Name}
use Rattle.pri_typing.specs.declared.declaration.Kind.{Kind}
use Rattle.pri_typing.specs.declared.declaration.Kind.TheVariants.{Existential, Universal, Function, Predicate}
use Rattle.pri_typing.specs.declared.declaration.Declaration.{Declaration}
use Rattle.pri_typing.specs.declared.symbols.Entry.{Entry}
use Rattle.pri_typing.specs.declared.symbols.Lists.{Lists}
use Rattle.base_texts.specs.Texts.{is_text, is_among}
use Rattle.pri_typing.specs.Scope.{rank, declaration, existentials, universals, existential_text, universal_text, function_symbol, predicate_symbol, declared_from, entry}
use Rattle.pri_typing.specs.Symbols.{listed, IsListed, IsKept, Extends, entry_at, first_entry}
use Rattle.pri_typing.specs.Files.{declaration_faults, own_faults}
use Rattle.pri_typing.specs.Faults.{least, earlier}
use Rattle.pri_typing.proofs.Least.{least-append}
use Rattle.pri_typing.specs.declared.symbols.Builder.{Builder}

same_list : {A : Type 0} (h : Declaration → Option A) (ds : List Declaration) (d : Declaration) (xs ys more : List A)
    → xs ≡ filter_map h ds → filter_map h (d ∷ []) ≡ more → ys ≡ xs ++ more → ys ≡ filter_map h (ds ++ d ∷ [])
same_list h ds d xs ys more e f g = g ∙ ap (λ z. z ++ more) e ∙ ap (λ z. filter_map h ds ++ z) (sym f) ∙ sym (filter_map-append h ds (d ∷ []))

same_rest : {A : Type 0} (h : Declaration → Option A) (ds : List Declaration) (d : Declaration) (xs : List A)
    → xs ≡ filter_map h ds → filter_map h (d ∷ []) ≡ [] → xs ≡ filter_map h (ds ++ d ∷ [])
same_rest h ds d xs e f = same_list h ds d xs xs [] e f (sym (append-nil xs))

pub listed_is : (kind : Kind) (name : Name) (l : Lists) (ds : List Declaration) → IsListed l ds → IsListed (listed kind name.text l) (ds ++ declaration kind name ∷ [])
listed_is Existential name l ds k = record {
  existentials_are = same_list existential_text ds (declaration Existential name) l.existentials _ _ k.existentials_are refl refl;
  universals_are = same_rest universal_text ds (declaration Existential name) l.universals k.universals_are refl;
  functions_are = same_rest function_symbol ds (declaration Existential name) l.functions k.functions_are refl;
  predicates_are = same_rest predicate_symbol ds (declaration Existential name) l.predicates k.predicates_are refl;
}
listed_is Universal name l ds k = record {
  existentials_are = same_rest existential_text ds (declaration Universal name) l.existentials k.existentials_are refl;
  universals_are = same_list universal_text ds (declaration Universal name) l.universals _ _ k.universals_are refl refl;
  functions_are = same_rest function_symbol ds (declaration Universal name) l.functions k.functions_are refl;
  predicates_are = same_rest predicate_symbol ds (declaration Universal name) l.predicates k.predicates_are refl;
}
listed_is (Function n) name l ds k = record {
  existentials_are = same_rest existential_text ds (declaration (Function n) name) l.existentials k.existentials_are refl;
  universals_are = same_rest universal_text ds (declaration (Function n) name) l.universals k.universals_are refl;
  functions_are = same_list function_symbol ds (declaration (Function n) name) l.functions _ _ k.functions_are refl refl;
  predicates_are = same_rest predicate_symbol ds (declaration (Function n) name) l.predicates k.predicates_are refl;
}
listed_is (Predicate n) name l ds k = record {
  existentials_are = same_rest existential_text ds (declaration (Predicate n) name) l.existentials k.existentials_are refl;
  universals_are = same_rest universal_text ds (declaration (Predicate n) name) l.universals k.universals_are refl;
  functions_are = same_rest function_symbol ds (declaration (Predicate n) name) l.functions k.functions_are refl;
  predicates_are = same_list predicate_symbol ds (declaration (Predicate n) name) l.predicates _ _ k.predicates_are refl refl;
}

-- a new entry is found by its text, where no earlier one is
pub entry_at-append : (text : List ℕ) (es : List (Vec ℕ × Entry)) (k : Vec ℕ) (e : Entry)
    → entry_at text (es ++ (k, e) ∷ []) ≡ first_entry (entry_at text es) (if is_text text k.items then Some e else None)
entry_at-append text [] k e = refl
entry_at-append text (x ∷ es) k e = by (is_text text x.0.items) (entry_at-append text es k e)
  where
    new : Option Entry
    new = if is_text text k.items then Some e else None

    by : (b : Bool) → entry_at text (es ++ (k, e) ∷ []) ≡ first_entry (entry_at text es) new
        → cond b (Some x.1) (entry_at text (es ++ (k, e) ∷ [])) ≡ first_entry (cond b (Some x.1) (entry_at text es)) new
    by true h = refl
    by false h = h

-- the declaration after all others is the first of its text where no earlier one is
pub declared_from-append : (text : List ℕ) (before ds : List Declaration) (d : Declaration)
    → declared_from before text (ds ++ d ∷ []) ≡ first_entry (declared_from before text ds) (if is_text text d.text then Some (entry (before ++ ds) d.kind) else None)
declared_from-append text before [] d = ap (λ z. if is_text text d.text then Some (entry z d.kind) else None) (sym (append-nil before))
declared_from-append text before (x ∷ ds) d =
    by (is_text text x.text) (declared_from-append text (before ++ x ∷ []) ds d ∙ ap (λ z. first_entry (declared_from (before ++ x ∷ []) text ds) (new z)) (append_assoc before (x ∷ []) ds))
  where
    new : List Declaration → Option Entry
    new z = if is_text text d.text then Some (entry z d.kind) else None

    by : (b : Bool) → declared_from (before ++ x ∷ []) text (ds ++ d ∷ []) ≡ first_entry (declared_from (before ++ x ∷ []) text ds) (new (before ++ x ∷ ds))
        → (if b then Some (entry before x.kind) else declared_from (before ++ x ∷ []) text (ds ++ d ∷ []))
        ≡ first_entry (if b then Some (entry before x.kind) else declared_from (before ++ x ∷ []) text ds) (new (before ++ x ∷ ds))
    by true h = refl
    by false h = h

-- a text is found where a declaration has it
pub known_is : (text : List ℕ) (before ds : List Declaration) → is_some (declared_from before text ds) ≡ is_among text (map (λ d. d.text) ds)
known_is text before [] = refl
known_is text before (x ∷ ds) = by (is_text text x.text) (known_is text (before ++ x ∷ []) ds)
  where
    by : (b : Bool) → is_some (declared_from (before ++ x ∷ []) text ds) ≡ is_among text (map (λ d. d.text) ds)
        → is_some (if b then Some (entry before x.kind) else declared_from (before ++ x ∷ []) text ds) ≡ (b || is_among text (map (λ d. d.text) ds))
    by true h = refl
    by false h = h

-- the faults of the last declaration come after those of the earlier ones
pub declaration_faults-append : (before ds : List Declaration) (d : Declaration)
    → declaration_faults before (ds ++ d ∷ []) ≡ declaration_faults before ds ++ declaration_faults (before ++ ds) (d ∷ [])
declaration_faults-append before [] d = ap (λ z. declaration_faults z (d ∷ [])) (sym (append-nil before))
declaration_faults-append before (x ∷ ds) d =
    let own = own_faults (is_among x.text (map (λ b. b.text) before)) (length before) x.at in
    ap (λ z. own ++ z) (declaration_faults-append (before ++ x ∷ []) ds d ∙ ap (λ z. declaration_faults (before ++ x ∷ []) ds ++ declaration_faults z (d ∷ [])) (append_assoc before (x ∷ []) ds))
    ∙ sym (append_assoc own (declaration_faults (before ++ x ∷ []) ds) (declaration_faults (before ++ x ∷ ds) (d ∷ [])))

-- adding nothing, and adding twice
pub extends_none : (t : Builder) → IsKept t → Extends t t []
extends_none t k = record { declarations_are = sym (append-nil t.declarations); kept = k }

pub extends_more : (a b c : Builder) (xs ys : List Declaration) → Extends a b xs → Extends b c ys → Extends a c (xs ++ ys)
extends_more a b c xs ys e f = record {
  declarations_are = f.declarations_are ∙ ap (λ z. z ++ ys) e.declarations_are ∙ append_assoc a.declarations xs ys;
  kept = f.kept;
}

-- a table with one more declaration
pub extends_one : (old new : Builder) (kind : Kind) (name : Name) (known : Bool) (e : Entry) → IsKept old
    → new.declarations ≡ old.declarations ++ declaration kind name ∷ []
    → e ≡ entry old.declarations kind
    → known ≡ is_some (entry_at name.text old.index.entries)
    → ((t : List ℕ) → entry_at t new.index.entries ≡ first_entry (entry_at t old.index.entries) (if is_text t name.text then Some e else None))
    → new.lists ≡ listed kind name.text old.lists
    → new.fault ≡ earlier old.fault (least (own_faults known (length old.declarations) name.at))
    → Extends old new (declaration kind name ∷ [])
extends_one old new kind name known e k declared is_entry is_known noted is_listed is_fault =
    let d = declaration kind name in
    let ds = old.declarations in
    record {
      declarations_are = declared;
      kept = record {
        found = λ t. noted t
            ∙ ap (λ z. first_entry z (if is_text t name.text then Some e else None)) (k.found t)
            ∙ ap (λ z. first_entry (declared_from [] t ds) (if is_text t name.text then Some z else None)) is_entry
            ∙ sym (declared_from-append t [] ds d)
            ∙ ap (declared_from [] t) (sym declared);
        listed = subst (λ z. IsListed new.lists z) (sym declared) (subst (λ z. IsListed z (ds ++ d ∷ [])) (sym is_listed) (listed_is kind name old.lists ds k.listed));
        fault_is = is_fault
            ∙ ap (λ z. earlier z (least (own_faults known (length ds) name.at))) k.fault_is
            ∙ ap (λ z. earlier (least (declaration_faults [] ds)) (least (own_faults z (length ds) name.at))) (is_known ∙ ap is_some (k.found name.text) ∙ known_is name.text [] ds)
            ∙ ap (λ z. earlier (least (declaration_faults [] ds)) (least z)) (sym (append-nil (own_faults (is_among name.text (map (λ b. b.text) ds)) (length ds) name.at)))
            ∙ sym (least-append (declaration_faults [] ds) (declaration_faults ds (d ∷ [])))
            ∙ ap least (sym (declaration_faults-append [] ds d))
            ∙ ap (λ z. least (declaration_faults [] z)) (sym declared);
      };
    }

-- There are no more symbols of a kind than declarations.

pub length-existentials-universals : (ds : List Declaration) → length (existentials ds) + length (universals ds) ≤ length ds
length-existentials-universals [] = omega arith
length-existentials-universals (d ∷ ds) = by d.kind d.text (length-existentials-universals ds)
  where
    by : (k : Kind) (t : List ℕ) → length (existentials ds) + length (universals ds) ≤ length ds
        → length (existentials (record { at = 0; text = t; kind = k } ∷ ds)) + length (universals (record { at = 0; text = t; kind = k } ∷ ds)) ≤ suc (length ds)
    by Existential t h = omega arith
    by Universal t h = omega arith
    by (Function n) t h = omega arith
    by (Predicate n) t h = omega arith

pub constants_fit : (l : Lists) (ds : List Declaration) → IsListed l ds → length l.existentials + length l.universals ≤ length ds
constants_fit l ds k = subst (λ z. length z + length l.universals ≤ length ds) (sym k.existentials_are)
    (subst (λ z. length (existentials ds) + length z ≤ length ds) (sym k.universals_are) (length-existentials-universals ds))

length-filter_map : {A : Type 0} (h : Declaration → Option A) (ds : List Declaration) → length (filter_map h ds) ≤ length ds
length-filter_map h [] = omega arith
length-filter_map {A} h (d ∷ ds) = by (h d) (length-filter_map h ds)
  where
    by : (r : Option A) → length (filter_map h ds) ≤ length ds → length {A = A} (cons_option r (filter_map h ds)) ≤ suc (length ds)
    by None k = omega arith
    by (Some x) k = omega arith

rank-le : (k : Kind) (ds : List Declaration) → rank k ds ≤ length ds
rank-le Existential ds = length-filter_map existential_text ds
rank-le Universal ds = length-filter_map universal_text ds
rank-le (Function n) ds = length-filter_map function_symbol ds
rank-le (Predicate n) ds = length-filter_map predicate_symbol ds

pub declared_from-within : (text : List ℕ) (before ds : List Declaration) → IfSome (declared_from before text ds) (λ e. e.number ≤ length before + length ds)
declared_from-within text before [] = tt
declared_from-within text before (d ∷ ds) = by (is_text text d.text) (declared_from-within text (before ++ d ∷ []) ds)
  where
    by : (b : Bool) → IfSome (declared_from (before ++ d ∷ []) text ds) (λ e. e.number ≤ length (before ++ d ∷ []) + length ds)
        → IfSome (if b then Some (entry before d.kind) else declared_from (before ++ d ∷ []) text ds) (λ e. e.number ≤ length before + suc (length ds))
    by true h = omega (arith, rank-le d.kind before)
    by false h = more (declared_from (before ++ d ∷ []) text ds) h
      where
        more : (r : Option Entry) → IfSome r (λ e. e.number ≤ length (before ++ d ∷ []) + length ds) → IfSome r (λ e. e.number ≤ length before + suc (length ds))
        more None h = tt
        more (Some e) h = omega (arith, length-append before (d ∷ []))

pub first-within : (text : List ℕ) (ds : List Declaration) → IfSome (declared_from [] text ds) (λ e. e.number ≤ length ds)
first-within text ds = by (declared_from [] text ds) (declared_from-within text [] ds)
  where
    by : (r : Option Entry) → IfSome r (λ e. e.number ≤ length {A = Declaration} [] + length ds) → IfSome r (λ e. e.number ≤ length ds)
    by None h = tt
    by (Some e) h = omega (arith, h)
