-- What a table of symbols keeps of the declarations that it was given.
use Rattle.std.specs.Prelude.{ℕ, ◌≡◌, List, [], ◌∷◌, ◌++◌, Option, Some, None}
use Rattle.std.specs.Map.{lookup}
use Rattle.std.specs.Global.{Vec}
use Rattle.pri_typing.specs.declared.declaration.Kind.{Kind}
use Rattle.pri_typing.specs.declared.declaration.Kind.TheVariants.{Existential, Universal, Function, Predicate}
use Rattle.pri_typing.specs.declared.declaration.Declaration.{Declaration}
use Rattle.pri_typing.specs.declared.symbols.Entry.{Entry}
use Rattle.pri_typing.specs.declared.symbols.Lists.{Lists}
use Rattle.pri_typing.specs.declared.symbols.Builder.{Builder}
use Rattle.base_texts.specs.Texts.{is_text}
use Rattle.pri_typing.specs.Scope.{existentials, universals, functions, predicates, declared_from}
use Rattle.pri_typing.specs.Faults.{least}
use Rattle.pri_typing.specs.Files.{declaration_faults}

-- the symbols of each kind
pub record IsListed (l : Lists) (ds : List Declaration) : Type 0 where
  pub existentials_are : l.existentials ≡ existentials ds
  pub universals_are : l.universals ≡ universals ds
  pub functions_are : l.functions ≡ functions ds
  pub predicates_are : l.predicates ≡ predicates ds

-- the lists with a symbol of this kind after the others
abbrev pub listed : Kind → List ℕ → Lists → Lists
listed Existential text l = record { existentials = l.existentials ++ text ∷ []; universals = l.universals; functions = l.functions; predicates = l.predicates }
listed Universal text l = record { existentials = l.existentials; universals = l.universals ++ text ∷ []; functions = l.functions; predicates = l.predicates }
listed (Function n) text l =
    record { existentials = l.existentials; universals = l.universals; functions = l.functions ++ record { name = text; arity = n } ∷ []; predicates = l.predicates }
listed (Predicate n) text l =
    record { existentials = l.existentials; universals = l.universals; functions = l.functions; predicates = l.predicates ++ record { name = text; arity = n } ∷ [] }

-- the entry of a text
abbrev pub entry_at : List ℕ → List (Vec ℕ × Entry) → Option Entry
entry_at text entries = lookup (λ k. is_text text k.items) entries

abbrev pub first_entry : Option Entry → Option Entry → Option Entry
first_entry (Some e) other = Some e
first_entry None other = other

-- each name is found with its first declaration, the symbols of each kind are listed, and the least fault is noted
pub record IsKept (t : Builder) : Type 0 where
  pub found : (text : List ℕ) → entry_at text t.index.entries ≡ declared_from [] text t.declarations
  pub listed : IsListed t.lists t.declarations
  pub fault_is : t.fault ≡ least (declaration_faults [] t.declarations)

-- a table that has further declarations after those of another
pub record Extends (old new : Builder) (more : List Declaration) : Type 0 where
  pub declarations_are : new.declarations ≡ old.declarations ++ more
  pub kept : IsKept new
