-- What the words, the commands and the signs are spelled as.
use Rattle.std.proofs.Common.{ℕ, ◌≡◌, ◌≤◌, ◌<◌, ◌==◌, ◌&&◌, ◌||◌, not, Bool, true, false, List, [], ◌∷◌, length, take, get_or, refl, sym, ap, subst, ◌∙◌, inl, inr, ◌⊎◌, arith, if◌then◌else◌}
use Rattle.std.specs.Str.{bytes_eq}
use Rattle.std.specs.Char.{is_ascii_digit}
use Rattle.std.proofs.lemmas.Bool.{eqb-true}
use Rattle.pri_tokens.specs.declared.terminals.TokenKind.{TokenKind}
use Rattle.pri_tokens.specs.declared.terminals.TokenKind.TheVariants as k
use Rattle.pri_tokens.specs.declared.terminals.Terminal.{Terminal}
use Rattle.pri_tokens.specs.declared.terminals.Terminal.TheVariants as t
use Rattle.pri_tokens.specs.declared.spellings.Sign.{Sign}
use Rattle.pri_tokens.specs.Terminals.{kind_of}
use Rattle.pri_tokens.specs.Spellings.{word_of, command_of, sign_of, single_sign_of}
use Rattle.pri_tokens.specs.Lexemes.{is_white, starts_name}
use Rattle.pri_tokens.specs.Kinds.{is_name, has_command_form, words, commands, signs, is_one_of, is_bad_byte, is_spelled}
use Rattle.base_numerals.proofs.Tests.{left_true, right_true, if_begins, clash, heads}
use Rattle.pri_tokens.proofs.Tables.{of_table}

-- the terminal is of the first kind where the text is in the table, else of the second
data Chosen (kind other : TokenKind) (text : List ℕ) (table : List (List ℕ)) (terminal : Terminal) : Type 0 where
  is_in : kind_of terminal ≡ kind → is_one_of table text ≡ true → Chosen kind other text table terminal
  is_not_in : kind_of terminal ≡ other → is_one_of table text ≡ false → Chosen kind other text table terminal

chosen_first : (kind other : TokenKind) (text s : List ℕ) (table : List (List ℕ)) (x y : Terminal) → kind_of x ≡ kind
    → Chosen kind other text table y → Chosen kind other text (s ∷ table) (if bytes_eq text s then x else y)
chosen_first kind other text s table x y e o = if_begins (Chosen kind other text (s ∷ table)) (bytes_eq text s) x y
    (λ h. is_in e (ap (λ v. v || is_one_of table text) h))
    (λ h. elim o [
      | is_in i j ↦ is_in i (ap (λ v. v || is_one_of table text) h ∙ j)
      | is_not_in i j ↦ is_not_in i (ap (λ v. v || is_one_of table text) h ∙ j)
    ])

word_chosen : (text : List ℕ) → Chosen k.Word k.Identifier text words (word_of text)
word_chosen text =
    chosen_first _ _ text _ _ _ _ refl (chosen_first _ _ text _ _ _ _ refl (chosen_first _ _ text _ _ _ _ refl
    (chosen_first _ _ text _ _ _ _ refl (is_not_in refl refl))))

command_chosen : (text : List ℕ) → Chosen k.Command k.Bad text commands (command_of text)
command_chosen text =
    chosen_first _ _ text _ _ _ _ refl (chosen_first _ _ text _ _ _ _ refl (chosen_first _ _ text _ _ _ _ refl
    (chosen_first _ _ text _ _ _ _ refl (chosen_first _ _ text _ _ _ _ refl (chosen_first _ _ text _ _ _ _ refl
    (chosen_first _ _ text _ _ _ _ refl (chosen_first _ _ text _ _ _ _ refl (chosen_first _ _ text _ _ _ _ refl
    (chosen_first _ _ text _ _ _ _ refl (chosen_first _ _ text _ _ _ _ refl (chosen_first _ _ text _ _ _ _ refl
    (chosen_first _ _ text _ _ _ _ refl (chosen_first _ _ text _ _ _ _ refl (chosen_first _ _ text _ _ _ _ refl
    (is_not_in refl refl)))))))))))))))

spelled_as : (kind : TokenKind) (terminal : Terminal) (text : List ℕ) → kind_of terminal ≡ kind → is_spelled kind text ≡ true
    → is_spelled (kind_of terminal) text ≡ true
spelled_as kind terminal text e h = ap (λ v. is_spelled v text) e ∙ h

both_true : (a b : Bool) → a ≡ true → b ≡ false → (a && not b) ≡ true
both_true a b e f = ap (λ v. v && not b) e ∙ ap not f

-- a name is a word or an identifier
pub name_spelled : (text : List ℕ) → is_name text ≡ true → is_spelled (kind_of (word_of text)) text ≡ true
name_spelled text n = elim (word_chosen text) [
  | is_in i j ↦ spelled_as k.Word (word_of text) text i j
  | is_not_in i j ↦ spelled_as k.Identifier (word_of text) text i (both_true (is_name text) (is_one_of words text) n j)
]

right_or : (a b : Bool) → b ≡ true → (a || b) ≡ true
right_or true b e = refl
right_or false b e = e

-- a `\` with letters is a command, or bad
pub command_spelled : (text : List ℕ) → has_command_form text ≡ true → is_spelled (kind_of (command_of text)) text ≡ true
command_spelled text n = elim (command_chosen text) [
  | is_in i j ↦ spelled_as k.Command (command_of text) text i j
  | is_not_in i j ↦ spelled_as k.Bad (command_of text) text i
      (right_or (is_bad_byte text) _ (both_true (has_command_form text) (is_one_of commands text) n j))
]

-- a byte is a sign, or its terminal is bad
abbrev SignOrBad : ℕ → Terminal → Type 0
SignOrBad b terminal = ((kind_of terminal ≡ k.Sign) × (is_one_of signs (b ∷ []) ≡ true)) ⊎ (kind_of terminal ≡ k.Bad)

one_sign : (b s : ℕ) (x y : Terminal) → kind_of x ≡ k.Sign → is_one_of signs (s ∷ []) ≡ true → SignOrBad b y → SignOrBad b (if b == s then x else y)
one_sign b s x y e i o = if_begins (SignOrBad b) (b == s) x y
    (λ h. inl (e, subst (λ v. is_one_of signs (v ∷ []) ≡ true) (sym (eqb-true b s h)) i)) (λ h. o)

sign_or_bad : (b : ℕ) → SignOrBad b (single_sign_of b)
sign_or_bad b = one_sign b 123 _ _ refl refl (one_sign b 125 _ _ refl refl (one_sign b 40 _ _ refl refl (one_sign b 41 _ _ refl refl
    (one_sign b 91 _ _ refl refl (one_sign b 93 _ _ refl refl (one_sign b 59 _ _ refl refl (one_sign b 44 _ _ refl refl
    (one_sign b 33 _ _ refl refl (one_sign b 38 _ _ refl refl (one_sign b 124 _ _ refl refl (one_sign b 61 _ _ refl refl
    (one_sign b 60 _ _ refl refl (one_sign b 62 _ _ refl refl (one_sign b 43 _ _ refl refl (one_sign b 45 _ _ refl refl
    (one_sign b 42 _ _ refl refl (inr refl)))))))))))))))))

-- the terminal of a single byte, where that is no white space, letter, digit or `_`
none_of : (w n d i : Bool) → w ≡ false → n ≡ false → d ≡ false → i ≡ false → not (w || n || d || i) ≡ true
none_of true n d i e f g h = cc
none_of false true d i e f g h = cc
none_of false false true i e f g h = cc
none_of false false false true e f g h = cc
none_of false false false false e f g h = refl

abbrev is_bad_kind : TokenKind → Bool
is_bad_kind k.Bad = true
is_bad_kind _ = false

left_or : (a b : Bool) → a ≡ true → (a || b) ≡ true
left_or true b e = refl
left_or false b e = cc

single_by : (b : ℕ) (v : Bool) → is_one_of signs (b ∷ []) ≡ v → is_white b ≡ false → starts_name b ≡ false → is_ascii_digit b ≡ false
    → is_spelled (kind_of (single_sign_of b)) (b ∷ []) ≡ true
single_by b true e w n d = elim (sign_or_bad b) [
  | inl i ↦ spelled_as k.Sign (single_sign_of b) (b ∷ []) i.0 i.1
  | inr i ↦ absurd (clash (sym (ap (λ v. not (is_bad_kind v)) i)
      ∙ of_table (heads (λ x. not (is_bad_kind (kind_of (single_sign_of x))))) signs (b ∷ []) refl e))
]
single_by b false e w n d = elim (sign_or_bad b) [
  | inl i ↦ spelled_as k.Sign (single_sign_of b) (b ∷ []) i.0 i.1
  | inr i ↦ spelled_as k.Bad (single_sign_of b) (b ∷ []) i
      (left_or (is_bad_byte (b ∷ [])) _ (none_of (is_white b) (starts_name b) (is_ascii_digit b) (is_one_of signs (b ∷ [])) w n d e))
]

-- the byte at a place where it is not 0
pub one_byte : (bs : List ℕ) (c : ℕ) → 0 < c → get_or bs 0 0 ≡ c → (rest : List ℕ) × (bs ≡ c ∷ rest)
one_byte [] c h e = absurd (omega arith)
one_byte (b ∷ bs) c h e = (bs, ap (λ v. v ∷ bs) e)

pub two_bytes : (bs : List ℕ) (c d : ℕ) → 0 < d → get_or bs 0 0 ≡ c → get_or bs 1 0 ≡ d → (rest : List ℕ) × (bs ≡ c ∷ d ∷ rest)
two_bytes [] c d h e f = absurd (omega arith)
two_bytes (b ∷ []) c d h e f = absurd (omega arith)
two_bytes (b ∷ v ∷ bs) c d h e f = (bs, rw (e, f) refl)

-- the sign, or the bad byte, that begins a text
pub record SignBegins (b : ℕ) (bs : List ℕ) (s : Sign) : Type 0 where
  pub some : 1 ≤ s.len
  pub within : s.len ≤ length (b ∷ bs)
  pub spelled : is_spelled (kind_of s.terminal) (take s.len (b ∷ bs)) ≡ true

sign_by_two : (b : ℕ) (bs : List ℕ) (terminal : Terminal) (x y : ℕ) → (b == x && get_or bs 0 0 == y) ≡ true → 0 < y
    → is_spelled (kind_of terminal) (x ∷ y ∷ []) ≡ true → SignBegins b bs (record { len = 2; terminal = terminal })
sign_by_two b bs terminal x y e h i =
    let p : b ≡ x = eqb-true b x (left_true (b == x) _ e) in
    let q = one_byte bs y h (eqb-true (get_or bs 0 0) y (right_true (b == x) _ e)) in
    subst (λ z. SignBegins b z (record { len = 2; terminal = terminal })) (sym q.1)
    (subst (λ z. SignBegins z (y ∷ q.0) (record { len = 2; terminal = terminal })) (sym p)
    (record { some = omega arith; within = omega arith; spelled = i }))

sign_by_three : (b : ℕ) (bs : List ℕ) → (b == 60 && get_or bs 0 0 == 45 && get_or bs 1 0 == 62) ≡ true
    → SignBegins b bs (record { len = 3; terminal = t.Iff })
sign_by_three b bs e =
    let l = left_true (b == 60 && get_or bs 0 0 == 45) _ e in
    let p : b ≡ 60 = eqb-true b 60 (left_true (b == 60) _ l) in
    let q = two_bytes bs 45 62 (omega arith) (eqb-true (get_or bs 0 0) 45 (right_true (b == 60) _ l))
    (eqb-true (get_or bs 1 0) 62 (right_true (b == 60 && get_or bs 0 0 == 45) _ e)) in
    subst (λ z. SignBegins b z (record { len = 3; terminal = t.Iff })) (sym q.1)
    (subst (λ z. SignBegins z (45 ∷ 62 ∷ q.0) (record { len = 3; terminal = t.Iff })) (sym p)
    (record { some = omega arith; within = omega arith; spelled = refl }))

pub sign_begins : (b : ℕ) (bs : List ℕ) → is_white b ≡ false → starts_name b ≡ false → is_ascii_digit b ≡ false
    → SignBegins b bs (sign_of b (get_or bs 0 0) (get_or bs 1 0))
sign_begins b bs w n d =
    if_begins (SignBegins b bs) (b == 60 && get_or bs 0 0 == 45 && get_or bs 1 0 == 62) _ _ (sign_by_three b bs)
    (λ u. if_begins (SignBegins b bs) (b == 45 && get_or bs 0 0 == 62) _ _ (λ e. sign_by_two b bs t.Implies 45 62 e (omega arith) refl)
    (λ v. if_begins (SignBegins b bs) (b == 33 && get_or bs 0 0 == 61) _ _ (λ e. sign_by_two b bs t.Unequal 33 61 e (omega arith) refl)
    (λ x. if_begins (SignBegins b bs) (b == 60 && get_or bs 0 0 == 61) _ _ (λ e. sign_by_two b bs t.AtMost 60 61 e (omega arith) refl)
    (λ y. if_begins (SignBegins b bs) (b == 62 && get_or bs 0 0 == 61) _ _ (λ e. sign_by_two b bs t.AtLeast 62 61 e (omega arith) refl)
    (λ z. record { some = omega arith; within = omega arith; spelled = single_by b _ refl w n d })))))
