-- Laws of the entry at a place and of the list with one entry changed.
use Rattle.std.proofs.Common.{◌≡◌, ◌≢◌, ◌+◌, ◌<◌, ◌≤◌, ℕ, zero, suc, ℤ, pos, List, [], ◌∷◌, ◌++◌, length, refl, ap, arith}
use Rattle.base_integers.specs.Entry.{entry, put}

pub entry-put_same : (e : List ℤ) (x : ℕ) (v : ℤ) → entry (put e x v) x ≡ v
entry-put_same [] zero v = refl
entry-put_same [] (suc x) v = entry-put_same [] x v
entry-put_same (u ∷ e) zero v = refl
entry-put_same (u ∷ e) (suc x) v = entry-put_same e x v

pub entry-put_other : (e : List ℤ) (x y : ℕ) (v : ℤ) → x ≢ y → entry (put e x v) y ≡ entry e y
entry-put_other [] zero zero v n = absurd (n refl)
entry-put_other [] zero (suc y) v n = refl
entry-put_other [] (suc x) zero v n = refl
entry-put_other [] (suc x) (suc y) v n = entry-put_other [] x y v (λ e. n (ap suc e))
entry-put_other (u ∷ e) zero zero v n = absurd (n refl)
entry-put_other (u ∷ e) zero (suc y) v n = refl
entry-put_other (u ∷ e) (suc x) zero v n = refl
entry-put_other (u ∷ e) (suc x) (suc y) v n = entry-put_other e x y v (λ d. n (ap suc d))

-- a later change of the same entry counts
pub put-put_same : (e : List ℤ) (x : ℕ) (u v : ℤ) → put (put e x u) x v ≡ put e x v
put-put_same [] zero u v = refl
put-put_same [] (suc x) u v = ap (λ (r : List ℤ). pos 0 ∷ r) (put-put_same [] x u v)
put-put_same (w ∷ e) zero u v = refl
put-put_same (w ∷ e) (suc x) u v = ap (λ (r : List ℤ). w ∷ r) (put-put_same e x u v)

-- at the length it is an append
pub put-length : (e : List ℤ) (v : ℤ) → put e (length e) v ≡ e ++ v ∷ []
put-length [] v = refl
put-length (u ∷ e) v = ap (λ (r : List ℤ). u ∷ r) (put-length e v)

-- below the length it keeps the length
pub length-put : (e : List ℤ) (x : ℕ) (v : ℤ) → x < length e → length (put e x v) ≡ length e
length-put [] x v lt = absurd (omega arith)
length-put (u ∷ e) zero v lt = refl
length-put (u ∷ e) (suc x) v lt = ap suc (length-put e x v (omega arith))

-- an entry put where it stands changes nothing
pub put-entry : (e : List ℤ) (x : ℕ) → x < length e → put e x (entry e x) ≡ e
put-entry [] x lt = absurd (omega arith)
put-entry (u ∷ e) zero lt = refl
put-entry (u ∷ e) (suc x) lt = ap (λ (r : List ℤ). u ∷ r) (put-entry e x (omega arith))

-- past the end every entry is 0
pub entry-past : (e : List ℤ) (x : ℕ) → length e ≤ x → entry e x ≡ pos 0
entry-past [] x le = refl
entry-past (u ∷ e) zero le = absurd (omega arith)
entry-past (u ∷ e) (suc x) le = entry-past e x (omega arith)

pub entry-append_left : (e f : List ℤ) (x : ℕ) → x < length e → entry (e ++ f) x ≡ entry e x
entry-append_left [] f x lt = absurd (omega arith)
entry-append_left (u ∷ e) f zero lt = refl
entry-append_left (u ∷ e) f (suc x) lt = entry-append_left e f x (omega arith)

pub entry-append_right : (e f : List ℤ) (x : ℕ) → entry (e ++ f) (length e + x) ≡ entry f x
entry-append_right [] f x = ap (entry f) (omega arith)
entry-append_right (u ∷ e) f x =
    let at : length (u ∷ e) + x ≡ suc (length e + x) = omega arith in
    rw at (entry-append_right e f x)

-- a change after a list e is a change of what stands after it
pub put-append_right : (e f : List ℤ) (x : ℕ) (v : ℤ) → put (e ++ f) (length e + x) v ≡ e ++ put f x v
put-append_right [] f x v = ap (λ (y : ℕ). put f y v) (omega arith)
put-append_right (u ∷ e) f x v =
    let at : length (u ∷ e) + x ≡ suc (length e + x) = omega arith in
    rw at (ap (λ (r : List ℤ). u ∷ r) (put-append_right e f x v))

pub put-append_left : (e f : List ℤ) (x : ℕ) (v : ℤ) → x < length e → put (e ++ f) x v ≡ put e x v ++ f
put-append_left [] f x v lt = absurd (omega arith)
put-append_left (u ∷ e) f zero v lt = refl
put-append_left (u ∷ e) f (suc x) v lt = ap (λ (r : List ℤ). u ∷ r) (put-append_left e f x v (omega arith))

-- changes of two entries come in either order
pub put-comm : (e : List ℤ) (x y : ℕ) (u v : ℤ) → x ≢ y → put (put e x u) y v ≡ put (put e y v) x u
put-comm [] zero zero u v n = absurd (n refl)
put-comm [] zero (suc y) u v n = refl
put-comm [] (suc x) zero u v n = refl
put-comm [] (suc x) (suc y) u v n = ap (λ (r : List ℤ). pos 0 ∷ r) (put-comm [] x y u v (λ e. n (ap suc e)))
put-comm (w ∷ e) zero zero u v n = absurd (n refl)
put-comm (w ∷ e) zero (suc y) u v n = refl
put-comm (w ∷ e) (suc x) zero u v n = refl
put-comm (w ∷ e) (suc x) (suc y) u v n = ap (λ (r : List ℤ). w ∷ r) (put-comm e x y u v (λ d. n (ap suc d)))
