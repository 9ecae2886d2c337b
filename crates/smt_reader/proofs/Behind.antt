-- What is held after one command more.
use Rattle.std.proofs.Common.{ℕ, zero, suc, ◌+◌, ◌-◌, ap₂, ◌≡◌, ◌≢◌, false, List, [], ◌∷◌, ◌++◌, length, take, map, refl, sym, ap, subst, ◌∙◌, arith}
use Rattle.std.proofs.lemmas.List.{map-append}
use Rattle.base_texts.specs.Texts.{is_among}
use Rattle.pri_typing.specs.declared.problem.Symbol.{Symbol}
use Rattle.smt_terms.specs.declared.operator.Sort.TheVariants as sort
use Rattle.smt_terms.specs.Term.{PlacedTerm}
use Rattle.smt_terms.specs.Evaluation.{Globals, constant_of, function_of, predicate_of, defined_by}
use Rattle.smt_terms.specs.Scripts as scripts
use Rattle.smt_terms.specs.Scripts.{State, after_declaration}
use Rattle.smt_terms.specs.Translation.{said, symbol_said}
use Rattle.smt_names.specs.declared.body.Body.{Body}
use Rattle.smt_names.specs.declared.known.Known.{Known}
use Rattle.smt_names.specs.Body.{shape}
use Rattle.smt_names.specs.Known.{Knows}
use Rattle.smt_names.specs.Saying.{calls_of, shape_said}
use Rattle.smt_reader.specs.Formed.{symbol, symbols}
use Rattle.smt_reader.specs.declared.following.Assertion.{Assertion}
use Rattle.smt_reader.specs.declared.following.Reading.{Reading}
use Rattle.smt_reader.specs.Following.{AreClaims, FollowsState}
use Rattle.form_typed.specs.Formula.{Formula, formulas}
use Rattle.smt_terms.specs.Translation.{asserted, formula_in}
use Rattle.smt_sizes.specs.declared.size.Size.{Size}
use Rattle.smt_sizes.specs.Size.{beside}
use Rattle.smt_sizes.specs.Sizes.{all_sizes, size}
use Rattle.smt_sizes.specs.declared.forms.Forms.{Forms}
use Rattle.smt_sizes.specs.Forms.{Describes}
use Rattle.smt_reader.proofs.Claims.{claims_more, claims_on}
use Rattle.smt_reader.proofs.Together.{sizes_more}

symbols_more : (fs : List scripts.Declared) (f : scripts.Declared) → symbols (fs ++ f ∷ []) ≡ symbols fs ++ symbol f ∷ []
symbols_more fs f = map-append symbol fs (f ∷ [])

length_symbols : (fs : List scripts.Declared) → length (symbols fs) ≡ length fs
length_symbols [] = refl
length_symbols (f ∷ fs) = ap suc (length_symbols fs)

module _ (r : Reading) (s : State) (x : List ℕ) (k : Known) (f : FollowsState r s) (new : is_among x r.known.symbols.texts ≡ false)
    (earlier : take (length r.known.definitions) k.definitions ≡ r.known.definitions) where
  pub constant_on : (cs : List (List ℕ)) (n : ℕ) → k.definitions ≡ r.known.definitions → ((gs : Globals) → Knows r.known gs → is_among x r.known.symbols.texts ≡ false → Knows k ((x, constant_of n) ∷ gs))
      → n ≡ length r.constants → cs ≡ r.constants ++ x ∷ []
      → FollowsState (record { known = k; constants = cs; functions = r.functions; predicates = r.predicates; claims = r.claims; forms = r.forms; size = r.size }) (after_declaration s x 0 sort.Int)
  constant_on cs n kept knows is more = record {
    knows = subst (λ z. Knows k ((x, constant_of z) ∷ s.globals)) (is ∙ ap length f.constants) (knows s.globals f.knows new);
    constants = more ∙ ap (λ z. z ++ x ∷ []) f.constants;
    functions = f.functions;
    predicates = f.predicates;
    claims = claims_on r.known.definitions k.definitions r.claims s.claims earlier f.claims;
    forms = subst (Describes r.forms) (sym kept) f.forms;
    size = f.size;
  }

  pub function_on : (fs : List Symbol) (n m : ℕ) (y : Symbol) → k.definitions ≡ r.known.definitions → ((gs : Globals) → Knows r.known gs → is_among x r.known.symbols.texts ≡ false → Knows k ((x, function_of n) ∷ gs))
      → n ≡ length r.functions → fs ≡ r.functions ++ y ∷ [] → y ≡ record { name = x; arity = m } → m ≢ 0
      → FollowsState (record { known = k; constants = r.constants; functions = fs; predicates = r.predicates; claims = r.claims; forms = r.forms; size = r.size }) (after_declaration s x m sort.Int)
  function_on fs n zero y kept knows is more same some = absurd (some refl)
  function_on fs n (suc m) y kept knows is more same some = record {
    knows = subst (λ z. Knows k ((x, function_of z) ∷ s.globals)) (is ∙ ap length f.functions ∙ length_symbols s.functions) (knows s.globals f.knows new);
    constants = f.constants;
    functions = more ∙ ap (λ z. r.functions ++ z ∷ []) same ∙ ap (λ z. z ++ (record { name = x; arity = suc m }) ∷ []) f.functions
        ∙ sym (symbols_more s.functions (record { text = x; arity = suc m }));
    predicates = f.predicates;
    claims = claims_on r.known.definitions k.definitions r.claims s.claims earlier f.claims;
    forms = subst (Describes r.forms) (sym kept) f.forms;
    size = f.size;
  }

  pub predicate_on : (fs : List Symbol) (n m : ℕ) (y : Symbol) → k.definitions ≡ r.known.definitions → ((gs : Globals) → Knows r.known gs → is_among x r.known.symbols.texts ≡ false → Knows k ((x, predicate_of n) ∷ gs))
      → n ≡ length r.predicates → fs ≡ r.predicates ++ y ∷ [] → y ≡ record { name = x; arity = m }
      → FollowsState (record { known = k; constants = r.constants; functions = r.functions; predicates = fs; claims = r.claims; forms = r.forms; size = r.size }) (after_declaration s x m sort.Bool)
  predicate_on fs n m y kept knows is more same = record {
    knows = subst (λ z. Knows k ((x, predicate_of z) ∷ s.globals)) (is ∙ ap length f.predicates ∙ length_symbols s.predicates) (knows s.globals f.knows new);
    constants = f.constants;
    functions = f.functions;
    predicates = more ∙ ap (λ z. r.predicates ++ z ∷ []) same ∙ ap (λ z. z ++ (record { name = x; arity = m }) ∷ []) f.predicates
        ∙ sym (symbols_more s.predicates (record { text = x; arity = m }));
    claims = claims_on r.known.definitions k.definitions r.claims s.claims earlier f.claims;
    forms = subst (Describes r.forms) (sym kept) f.forms;
    size = f.size;
  }

  pub define_on : (xs ys : List (List ℕ)) (t : PlacedTerm) (fs : Forms) → length k.definitions ≡ length r.known.definitions + 1
      → (Describes r.forms (take (length k.definitions - 1) k.definitions) → Describes fs k.definitions) → ((gs : Globals) → Knows r.known gs → is_among x r.known.symbols.texts ≡ false → Knows k ((x, defined_by xs t) ∷ gs)) → xs ≡ ys
      → FollowsState (record { known = k; constants = r.constants; functions = r.functions; predicates = r.predicates; claims = r.claims; forms = fs; size = r.size })
      (record s { globals = (x, defined_by ys t) ∷ s.globals })
  define_on xs ys t fs one described knows same = record {
    knows = subst (λ z. Knows k ((x, defined_by z t) ∷ s.globals)) same (knows s.globals f.knows new);
    constants = f.constants;
    functions = f.functions;
    predicates = f.predicates;
    claims = claims_on r.known.definitions k.definitions r.claims s.claims earlier f.claims;
    forms = described (subst (Describes r.forms) (sym (ap (λ z. take (z - 1) k.definitions) one ∙ ap (λ z. take z k.definitions) less ∙ earlier)) f.forms);
    size = f.size;
  }
    where
      less : length r.known.definitions + 1 - 1 ≡ length r.known.definitions
      less = omega arith

all_of : {A : Type 0} (xs : List A) → take (length xs) xs ≡ xs
all_of [] = refl
all_of (x ∷ xs) = ap (λ z. x ∷ z) (all_of xs)

pub claim_on : (r : Reading) (s : State) (t : PlacedTerm) (b : Body) (n : ℕ) (as_ : List Assertion) (one both : Size)
    → ((gs : Globals) → Knows r.known gs → shape_said (calls_of r.known.definitions) [] (shape b) ≡ said (symbol_said gs) [] t)
    → (Describes r.forms r.known.definitions → (m : ℕ) → one ≡ size (formula_in (shape_said (calls_of r.known.definitions) [] (shape b) m))) → both ≡ beside r.size one
    → n ≡ length r.known.definitions → as_ ≡ r.claims ++ (record { body = b; definitions = n }) ∷ [] → FollowsState r s
    → FollowsState (record { known = r.known; constants = r.constants; functions = r.functions; predicates = r.predicates; claims = as_; forms = r.forms; size = both })
    (record s { claims = s.claims ++ (record { globals = s.globals; term = t }) ∷ [] })
claim_on r s t b n as_ one both says sized together is more f = record {
  knows = f.knows;
  constants = f.constants;
  functions = f.functions;
  predicates = f.predicates;
  claims = subst (λ z. AreClaims r.known.definitions z (s.claims ++ (record { globals = s.globals; term = t }) ∷ [])) (sym more)
      (claims_more r.known.definitions r.claims s.claims (record { body = b; definitions = n }) (record { globals = s.globals; term = t }) f.claims
      (record {
        within = omega (arith, is);
        says = ap (λ z. shape_said (calls_of (take z r.known.definitions)) [] (shape b)) is
            ∙ ap (λ z. shape_said (calls_of z) [] (shape b)) (all_of r.known.definitions) ∙ says s.globals f.knows;
      }));
  forms = f.forms;
  size = λ m.
      let F : scripts.Claim → Formula = λ c. asserted c.globals m c.term in
      let last : one ≡ size (asserted s.globals m t) = sized f.forms m ∙ ap (λ z. size (formula_in (z m))) (says s.globals f.knows) in
      together ∙ ap₂ beside (f.size m) last ∙ sym (sizes_more (map F s.claims) (asserted s.globals m t))
      ∙ ap (λ z. all_sizes (formulas z)) (sym (map-append F s.claims ((record { globals = s.globals; term = t }) ∷ [])));
}

-- the forms are asked for a list that is the definitions

pub described_at : (a b : Forms) (ds xs : List Body) → xs ≡ ds → (Describes a (take (length xs - 1) xs) → Describes b xs) → Describes a (take (length ds - 1) ds) → Describes b ds
described_at a b ds xs is h = subst (λ z. Describes a (take (length z - 1) z) → Describes b z) is h

pub sized_at : (a : Forms) (ds xs : List Body) (body : Body) (one : Size) → xs ≡ ds → (Describes a xs → (m : ℕ) → one ≡ size (formula_in (shape_said (calls_of xs) [] (shape body) m)))
    → Describes a ds → (m : ℕ) → one ≡ size (formula_in (shape_said (calls_of ds) [] (shape body) m))
sized_at a ds xs body one is h = subst (λ z. Describes a z → (m : ℕ) → one ≡ size (formula_in (shape_said (calls_of z) [] (shape body) m))) is h
