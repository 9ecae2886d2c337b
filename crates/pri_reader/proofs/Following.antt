-- What a token does after an expression keeps what the machine's state says.
use Rattle.std.proofs.Common.{ℕ, suc, ◌≡◌, Bool, true, false, List, [], ◌∷◌, ◌++◌, Option, Some, None, refl, sym, ap, subst, ◌∙◌, if◌then◌else◌}
use Rattle.pri_tokens.specs.declared.terminals.Terminal.{Terminal}
use Rattle.pri_tokens.specs.declared.terminals.Terminal.TheVariants as t
use Rattle.pri_tokens.specs.declared.terminals.Lexeme.{Lexeme}
use Rattle.pri_reader.specs.declared.tree.Expr.{Expr}
use Rattle.pri_reader.specs.declared.tree.Added.{Added}
use Rattle.pri_reader.specs.declared.tree.Name.{Name}
use Rattle.pri_reader.specs.declared.tree.Block.{Block}
use Rattle.pri_reader.specs.declared.tree.Comparison.{Comparison}
use Rattle.pri_reader.specs.declared.tree.Comparison.TheVariants as compare
use Rattle.pri_reader.specs.Classes.{comparison_of, adding_of}
use Rattle.pri_reader.specs.Grammar.{Right, equivalence, implication, multiplication, Chain, disjunction, conjunction, Part, right, chain, unary, sum, factor, parenthesized, operand, member, right_sign, chain_sign, comparison_sign, adding_sign, chained, added, summed, Setting, Takes, Derives, right_one, right_two, chain_all, unary_rel, rel_one, rel_two, sum_all, Members, member_first, member_next, Terms, term_first, term_next, argument_next}
use Rattle.pri_reader.specs.MachineStates.{Frame, right_of, chain_of, rel_of, sum_of, wrap, wrapped, parenthesis_of, test_of, branch_of, arguments_of, pair_left, pair_right, problem_of, second, compared, a_unary, Move, on, level, under_product, under_sum, under_rel, under_chain, under_right, under_member, wants_right}
use Rattle.pri_reader.specs.Machine.{takes_right, takes_chain, sum_goes_on, rel_goes_on, parenthesis_follows, test_follows, branch_follows, arguments_follow, left_follows, pair_follows, problem_follows, follows}
use Rattle.pri_reader.proofs.States.{Below, IsOpen, Good}

-- What begins a part.

begin_product : (s : Setting) (start : List Lexeme) (n : ℕ) (frames : List Frame) (tokens : List Lexeme) → Below s start frames (right multiplication) n tokens
    → Below s start (under_product n frames) factor n tokens
begin_product s start n frames tokens k = record { part_is = refl; depth_is = refl; outside = k }

begin_sum : (s : Setting) (start : List Lexeme) (n : ℕ) (frames : List Frame) (tokens : List Lexeme) → Below s start frames sum n tokens
    → Below s start (under_sum n frames) factor n tokens
begin_sum s start n frames tokens k = begin_product s start n (sum_of n [] false ∷ frames) tokens
    (record { part_is = refl; depth_is = refl; outer = tokens; joins = λ f rest u. term_first u; outside = k })

pub begin_rel : (s : Setting) (start : List Lexeme) (n : ℕ) (frames : List Frame) (tokens : List Lexeme) → Below s start frames unary n tokens
    → Below s start (under_rel n frames) factor n tokens
begin_rel s start n frames tokens k = begin_sum s start n (rel_of n ∷ frames) tokens (record { part_is = refl; depth_is = refl; outside = k })

begin_member : (s : Setting) (start : List Lexeme) (c : Chain) (n : ℕ) (frames : List Frame) (tokens : List Lexeme) → Below s start frames (member c) n tokens
    → Below s start (under_member c n frames) unary n tokens
begin_member s start conjunction n frames tokens k = k
begin_member s start disjunction n frames tokens k =
    record { part_is = refl; depth_is = refl; outer = tokens; joins = λ f rest u. member_first u; outside = k }

begin_disjunction : (s : Setting) (start : List Lexeme) (n : ℕ) (frames : List Frame) (tokens : List Lexeme) → Below s start frames (chain disjunction) n tokens
    → Below s start (under_chain disjunction n frames) unary n tokens
begin_disjunction s start n frames tokens k = begin_member s start disjunction n (chain_of disjunction n [] ∷ frames) tokens
    (record { part_is = refl; depth_is = refl; outer = tokens; joins = λ f rest u. member_first u; outside = k })

begin_implication : (s : Setting) (start : List Lexeme) (n : ℕ) (frames : List Frame) (tokens : List Lexeme) → Below s start frames (right implication) n tokens
    → Below s start (under_right implication n frames) unary n tokens
begin_implication s start n frames tokens k =
    begin_disjunction s start n (right_of implication n ∷ frames) tokens (record { part_is = refl; depth_is = refl; outside = k })

pub begin_right : (s : Setting) (start : List Lexeme) (r : Right) (n : ℕ) (frames : List Frame) (tokens : List Lexeme) → Below s start frames (right r) n tokens
    → IsOpen s start (wants_right r n) (under_right r n frames) tokens
begin_right s start multiplication n frames tokens k = begin_product s start n frames tokens k
begin_right s start implication n frames tokens k = begin_implication s start n frames tokens k
begin_right s start equivalence n frames tokens k =
    begin_implication s start n (right_of equivalence n ∷ frames) tokens (record { part_is = refl; depth_is = refl; outside = k })

derives_as : (s : Setting) {part new : Part} {d n : ℕ} {f : Expr} {tokens rest : List Lexeme} → part ≡ new → d ≡ n → Derives s d part f tokens rest → Derives s n new f tokens rest
derives_as s {new = new} {d = d} {f = f} {tokens = tokens} {rest = rest} e q u =
    subst (λ z. Derives s z new f tokens rest) q (subst (λ z. Derives s d z f tokens rest) e u)

-- Which token was taken.

is_right : (r : Right) (k : Terminal) → takes_right r k ≡ true → k ≡ right_sign r
is_right equivalence t.Iff e = refl
is_right equivalence _ e = absurd cc
is_right implication t.Implies e = refl
is_right implication _ e = absurd cc
is_right multiplication t.Star e = refl
is_right multiplication _ e = absurd cc

is_chain : (c : Chain) (k : Terminal) → takes_chain c k ≡ true → k ≡ chain_sign c
is_chain conjunction t.And e = refl
is_chain conjunction _ e = absurd cc
is_chain disjunction t.Or e = refl
is_chain disjunction _ e = absurd cc

is_comparison : (c : Comparison) (k : Terminal) → comparison_of k ≡ Some c → k ≡ comparison_sign c
is_comparison c t.Equal e = let q : c ≡ compare.Equal = cc in ap comparison_sign (sym q)
is_comparison c t.Unequal e = let q : c ≡ compare.Unequal = cc in ap comparison_sign (sym q)
is_comparison c t.Less e = let q : c ≡ compare.Less = cc in ap comparison_sign (sym q)
is_comparison c t.AtMost e = let q : c ≡ compare.AtMost = cc in ap comparison_sign (sym q)
is_comparison c t.Greater e = let q : c ≡ compare.Greater = cc in ap comparison_sign (sym q)
is_comparison c t.AtLeast e = let q : c ≡ compare.AtLeast = cc in ap comparison_sign (sym q)
is_comparison c _ e = absurd cc

is_adding : (b : Bool) (k : Terminal) → adding_of k ≡ Some b → k ≡ adding_sign b
is_adding b t.Plus e = let q : b ≡ false = cc in ap adding_sign (sym q)
is_adding b t.Minus e = let q : b ≡ true = cc in ap adding_sign (sym q)
is_adding b _ e = absurd cc

pub takes_as : {k new : Terminal} {x : Lexeme} {tokens inner : List Lexeme} → Takes k x tokens inner → k ≡ new → Takes new x tokens inner
takes_as e q = record { parts = e.parts; is = e.is ∙ q }

-- An expression is read, and a token follows.

right_sound : (s : Setting) (start : List Lexeme) (r : Right) (n : ℕ) (frames : List Frame) (f : Expr) {k : Terminal} {x : Lexeme} {outer sign inner : List Lexeme}
    → Takes k x sign inner → Derives s n (operand r) f outer sign → Below s start frames (right r) n outer → (v : Bool) → takes_right r k ≡ v
    → (other : Move) → (v ≡ false → Good s start other inner)
    → Good s start (if v then level n (wants_right r (suc n)) (under_right r (suc n) (wrap (second r f x.at) ∷ frames)) else other) inner
right_sound s start r n frames f {k = k} {x = x} {outer = outer} {inner = inner} e u fits true v other q =
    λ l. begin_right s start r (suc n) (wrap (second r f x.at) ∷ frames) inner (record {
      new = right r;
      depth = n;
      outer = outer;
      wraps = λ g rest w. right_two u (takes_as e (is_right r k v)) l w;
      outside = fits;
    })
right_sound s start r n frames f e u fits false v other q = q refl

chain_sound : (s : Setting) (start : List Lexeme) (c : Chain) (n : ℕ) (fs : List Expr) (frames : List Frame) (f : Expr) {k : Terminal} {x : Lexeme} {outer sign inner : List Lexeme}
    → Takes k x sign inner → Members s n c fs f outer sign → Below s start frames (chain c) n outer → (v : Bool) → takes_chain c k ≡ v
    → (other : Move) → (v ≡ false → Good s start other inner)
    → Good s start (if v then on (a_unary n) (under_member c n (chain_of c n (fs ++ f ∷ []) ∷ frames)) else other) inner
chain_sound s start c n fs frames f {k = k} {outer = outer} {inner = inner} e m fits true v other q =
    begin_member s start c n (chain_of c n (fs ++ f ∷ []) ∷ frames) inner (record {
      part_is = refl;
      depth_is = refl;
      outer = outer;
      joins = λ g rest u. member_next m (takes_as e (is_chain c k v)) u;
      outside = fits;
    })
chain_sound s start c n fs frames f e m fits false v other q = q refl

rel_sound : (s : Setting) (start : List Lexeme) (n : ℕ) (frames : List Frame) (f : Expr) {k : Terminal} {x : Lexeme} {outer sign inner : List Lexeme}
    → Takes k x sign inner → Derives s n sum f outer sign → Below s start frames unary n outer → (v : Option Comparison) → comparison_of k ≡ v
    → (other : Move) → Good s start other inner → Good s start (rel_goes_on v n f frames other) inner
rel_sound s start n frames f e u fits None v other q = q
rel_sound s start n frames f {k = k} {outer = outer} {inner = inner} e u fits (Some c) v other q =
    begin_sum s start n (wrap (compared c f) ∷ frames) inner (record {
      new = unary;
      depth = n;
      outer = outer;
      wraps = λ g rest w. unary_rel (rel_two u (takes_as e (is_comparison c k v)) w);
      outside = fits;
    })

sum_sound : (s : Setting) (start : List Lexeme) (n : ℕ) (before : List Added) (old : Bool) (frames : List Frame) (f : Expr) {k : Terminal} {x : Lexeme} {outer sign inner : List Lexeme}
    → Takes k x sign inner → Terms s n before old f outer sign → Below s start frames sum n outer → (v : Option Bool) → adding_of k ≡ v
    → (other : Move) → Good s start other inner → Good s start (sum_goes_on v n (before ++ added old f ∷ []) frames other) inner
sum_sound s start n before old frames f e m fits None v other q = q
sum_sound s start n before old frames f {k = k} {outer = outer} {inner = inner} e m fits (Some new) v other q =
    begin_product s start n (sum_of n (before ++ added old f ∷ []) new ∷ frames) inner (record {
      part_is = refl;
      depth_is = refl;
      outer = outer;
      joins = λ g rest u. term_next m (takes_as e (is_adding new k v)) u;
      outside = fits;
    })

parenthesis_sound : (s : Setting) (start : List Lexeme) (frames : List Frame) (f : Expr) {part : Part} {d : ℕ} (k : Terminal) {x : Lexeme} {outer sign inner : List Lexeme}
    → Takes k x sign inner → Derives s d part f outer sign → Below s start (parenthesis_of ∷ frames) part d outer → Good s start (parenthesis_follows k f frames) inner
parenthesis_sound s start frames f t.CloseParenthesis {x = x} {sign = sign} {inner = inner} e u fits = record {
  part = parenthesized;
  depth = fits.depth;
  outer = fits.outer;
  derived = fits.closes f x sign inner u e;
  fits = fits.outside;
}
parenthesis_sound s start frames f _ e u fits = tt

test_sound : (s : Setting) (start : List Lexeme) (at n : ℕ) (frames : List Frame) (f : Expr) {part : Part} {d : ℕ} (k : Terminal) {x : Lexeme} {outer sign inner : List Lexeme}
    → Takes k x sign inner → Derives s d part f outer sign → Below s start (test_of at n ∷ frames) part d outer → Good s start (test_follows k at n f frames) inner
test_sound s start at n frames f t.Then {x = x} {sign = sign} {inner = inner} e u fits = record {
  depth = fits.depth;
  outer = fits.outer;
  closes = λ g i z last no rest v w y. fits.closes f g i x z sign inner last no rest u e v w y;
  outside = fits.outside;
}
test_sound s start at n frames f _ e u fits = tt

branch_sound : (s : Setting) (start : List Lexeme) (at n : ℕ) (c : Expr) (frames : List Frame) (f : Expr) {part : Part} {d : ℕ} (k : Terminal) {x : Lexeme} {outer sign inner : List Lexeme}
    → Takes k x sign inner → Derives s d part f outer sign → Below s start (branch_of at n c ∷ frames) part d outer → Good s start (branch_follows k at n c f frames) inner
branch_sound s start at n c frames f t.Else {x = x} {sign = sign} {inner = inner} e u fits = record {
  new = factor;
  depth = fits.depth;
  outer = fits.outer;
  wraps = λ g rest w. fits.closes f g x sign inner rest u e w;
  outside = fits.outside;
}
branch_sound s start at n c frames f _ e u fits = tt

arguments_sound : (s : Setting) (start : List Lexeme) (name : Name) (n : ℕ) (fs : List Expr) (frames : List Frame) (f : Expr) {part : Part} {d : ℕ} (k : Terminal) {x : Lexeme} {outer sign inner : List Lexeme}
    → Takes k x sign inner → Derives s d part f outer sign → Below s start (arguments_of name n fs ∷ frames) part d outer
    → Good s start (arguments_follow k name n (fs ++ f ∷ []) frames) inner
arguments_sound s start name n fs frames f t.Comma {x = x} {sign = sign} {inner = inner} e u fits =
    begin_right s start equivalence n (arguments_of name n (fs ++ f ∷ []) ∷ frames) inner (record {
      depth = fits.depth;
      outer = fits.outer;
      list = fits.list;
      joins = λ g rest w. argument_next (fits.joins f sign u) e w;
      closes = fits.closes;
      outside = fits.outside;
    })
arguments_sound s start name n fs frames f t.CloseParenthesis {x = x} {sign = sign} {inner = inner} e u fits = record {
  part = factor;
  depth = fits.depth;
  outer = fits.outer;
  derived = fits.closes fs f x sign inner (fits.joins f sign u) e;
  fits = fits.outside;
}
arguments_sound s start name n fs frames f _ e u fits = tt

left_sound : (s : Setting) (start : List Lexeme) (max : Bool) (at n : ℕ) (frames : List Frame) (f : Expr) {part : Part} {d : ℕ} (k : Terminal) {x : Lexeme} {outer sign inner : List Lexeme}
    → Takes k x sign inner → Derives s d part f outer sign → Below s start (pair_left max at n ∷ frames) part d outer → Good s start (left_follows k max at n f frames) inner
left_sound s start max at n frames f t.Comma {x = x} {sign = sign} {inner = inner} e u fits =
    begin_right s start equivalence n (pair_right max at f ∷ frames) inner (record {
      depth = fits.depth;
      outer = fits.outer;
      closes = λ g c close rest w y. fits.closes f g x c sign inner close rest u e w y;
      outside = fits.outside;
    })
left_sound s start max at n frames f _ e u fits = tt

pair_sound : (s : Setting) (start : List Lexeme) (max : Bool) (at : ℕ) (f : Expr) (frames : List Frame) (g : Expr) {part : Part} {d : ℕ} (k : Terminal) {x : Lexeme} {outer sign inner : List Lexeme}
    → Takes k x sign inner → Derives s d part g outer sign → Below s start (pair_right max at f ∷ frames) part d outer → Good s start (pair_follows k max at f g frames) inner
pair_sound s start max at f frames g t.CloseParenthesis {x = x} {sign = sign} {inner = inner} e u fits = record {
  part = factor;
  depth = fits.depth;
  outer = fits.outer;
  derived = fits.closes g x sign inner u e;
  fits = fits.outside;
}
pair_sound s start max at f frames g _ e u fits = tt

problem_sound : (s : Setting) (start : List Lexeme) (at : ℕ) (blocks : List Block) (frames : List Frame) (f : Expr) {part : Part} {d : ℕ} (k : Terminal) {x : Lexeme} {outer sign inner : List Lexeme}
    → Takes k x sign inner → Derives s d part f outer sign → Below s start (problem_of at blocks ∷ frames) part d outer → Good s start (problem_follows k at blocks f) inner
problem_sound s start at blocks frames f t.CloseBrace {x = x} {sign = sign} {inner = inner} e u fits = fits.closes f x sign inner u e
problem_sound s start at blocks frames f _ e u fits = tt

pub follows_sound : (s : Setting) (start : List Lexeme) (frames : List Frame) (f : Expr) (part : Part) (d : ℕ) (x : Lexeme) (outer sign inner : List Lexeme)
    → Takes x.terminal x sign inner → Derives s d part f outer sign → Below s start frames part d outer → Good s start (follows x.at x.terminal f frames) inner
unfolding follows
follows_sound s start [] f part d x outer sign inner e u fits = tt
follows_sound s start (right_of r n ∷ frames) f part d x outer sign inner e u fits =
    let v = derives_as s fits.part_is fits.depth_is u in
    right_sound s start r n frames f e v (subst (λ z. Below s start frames (right r) z outer) refl fits.outside) (takes_right r x.terminal) refl _
    (λ q. follows_sound s start frames f (right r) n x outer sign inner e (right_one v) fits.outside)
follows_sound s start (chain_of c n fs ∷ frames) f part d x outer sign inner e u fits =
    let m = fits.joins f sign (derives_as s fits.part_is fits.depth_is u) in
    chain_sound s start c n fs frames f e m fits.outside (takes_chain c x.terminal) refl _
    (λ q. follows_sound s start frames (chained c fs f) (chain c) n x fits.outer sign inner e (chain_all m) fits.outside)
follows_sound s start (rel_of n ∷ frames) f part d x outer sign inner e u fits =
    let v = derives_as s fits.part_is fits.depth_is u in
    rel_sound s start n frames f e v fits.outside (comparison_of x.terminal) refl _
    (follows_sound s start frames f unary n x outer sign inner e (unary_rel (rel_one v)) fits.outside)
follows_sound s start (sum_of n before old ∷ frames) f part d x outer sign inner e u fits =
    let m = fits.joins f sign (derives_as s fits.part_is fits.depth_is u) in
    sum_sound s start n before old frames f e m fits.outside (adding_of x.terminal) refl _
    (follows_sound s start frames (summed before old f) sum n x fits.outer sign inner e (sum_all m) fits.outside)
follows_sound s start (wrap w ∷ frames) f part d x outer sign inner e u fits =
    follows_sound s start frames (wrapped w f) fits.new fits.depth x fits.outer sign inner e (fits.wraps f sign u) fits.outside
follows_sound s start (parenthesis_of ∷ frames) f part d x outer sign inner e u fits = parenthesis_sound s start frames f x.terminal e u fits
follows_sound s start (test_of at n ∷ frames) f part d x outer sign inner e u fits = test_sound s start at n frames f x.terminal e u fits
follows_sound s start (branch_of at n c ∷ frames) f part d x outer sign inner e u fits = branch_sound s start at n c frames f x.terminal e u fits
follows_sound s start (arguments_of name n fs ∷ frames) f part d x outer sign inner e u fits = arguments_sound s start name n fs frames f x.terminal e u fits
follows_sound s start (pair_left max at n ∷ frames) f part d x outer sign inner e u fits = left_sound s start max at n frames f x.terminal e u fits
follows_sound s start (pair_right max at g ∷ frames) f part d x outer sign inner e u fits = pair_sound s start max at g frames f x.terminal e u fits
follows_sound s start (problem_of at blocks ∷ frames) f part d x outer sign inner e u fits = problem_sound s start at blocks frames f x.terminal e u fits
