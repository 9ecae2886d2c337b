-- The residue of the integers that a divisibility allows.
use Rattle.std.proofs.Common.{◌≡◌, ℤ, pos, neg_ℤ, ◌+ℤ◌, ◌*ℤ◌, ◌≤ℤ◌, ◌<ℤ◌, true, false, [], ◌∷◌, Result, Ok, Err, IsErrAnd, refl, sym, ◌∙◌, ap, subst, arith}
use Rattle.std.specs.Int.{int_rem_euclid}
use Rattle.std.proofs.lemmas.Int.{ints}
use Rattle.std.proofs.lemmas.List.Elements.{Contains-get_or}
use Rattle.base_integers.specs.Gcd.{gcd}
use Rattle.base_integers.proofs.Residues.{rem-bounds}
use Rattle.linear_term.specs.Range.{stays}
use Rattle.linear_term.specs.declared.range.Place.{Place}
use Rattle.linear_term.specs.declared.range.TermFault.{TermFault}
use Rattle.linear_term.specs.declared.range.TermFault.TheVariants as term_fault
use Rattle.base_budget.specs.declared.fault.StepFault.{StepFault}
use Rattle.base_budget.specs.Trace.{Traced, just, next, compute}
use Rattle.base_budget.specs.Work.{Worked, step_fault_of}
use Rattle.base_budget.proofs.Charging.{work_ok, work_err, work_just, raw_ok, raw_leaves}
use Rattle.clause_set.specs.Bezout.{Bezout, bezout}
use Rattle.clause_set.specs.Literals.{IsDivisor}
use Rattle.clause_set.specs.Names.{product}
use Rattle.elim_rules.proofs.Named.{bezout_found}
use Rattle.parameter_solver.specs.Classes.{IsClass}
use Rattle.parameter_solver.proofs.Computed.{one_stays}

-- −u·k modulo d, where u·b is 1 modulo d
abbrev pub residue_work : ℤ → ℤ → ℤ → Traced ℤ
residue_work b d k = next (compute (product (bezout b d).p k ∷ [])) (λ _. just (int_rem_euclid (neg_ℤ ((bezout b d).p *ℤ k)) d))

-- the product that is computed
abbrev pub times : ℤ → ℤ → Place
times u k = record { m = u; a = k; n = pos 0; b = pos 0 }

-- u is the cofactor of b
pub record IsCofactor (b d u : ℤ) : Type 0 where
  pub is : u ≡ (bezout b d).p

pub cofactor_found : (b d g u w : ℤ) → pos 0 <ℤ b → pos 0 <ℤ d → g ≡ gcd b d → g ≡ (u *ℤ b) +ℤ (w *ℤ d) → (pos 0 ≤ℤ u) × ((u *ℤ g) <ℤ d) → IsCofactor b d u
cofactor_found b d g u w hb hd is sum least = record { is = ap (λ (z : Bezout). z.p) (bezout_found b d g u w hb hd is sum least) }

pub residue_done : (b d k u m r : ℤ) → IsCofactor b d u → m ≡ (u *ℤ k) +ℤ (pos 0 *ℤ pos 0) → stays (times u k) ≡ true → r ≡ int_rem_euclid (neg_ℤ m) d → Worked (residue_work b d k) (Ok r)
residue_done b d k u m r h is stay rest =
    let p : ℤ = (bezout b d).p in
    let whole : m ≡ p *ℤ k = is ∙ (let z : (u *ℤ k) +ℤ (pos 0 *ℤ pos 0) ≡ u *ℤ k = omega (arith, ints) in z) ∙ ap (λ y. y *ℤ k) h.is in
    work_ok (compute (product p k ∷ [])) _ (raw_ok (product p k ∷ []) tt tt (one_stays (product p k) (subst (λ y. stays (times y k) ≡ true) h.is stay)) refl)
    (work_just _ r (rest ∙ ap (λ y. int_rem_euclid (neg_ℤ y) d) whole))

pub residue_failed : (b d k u : ℤ) (fault : TermFault) (r : Result ℤ StepFault) → IsCofactor b d u → IsErrAnd r (λ e. e ≡ step_fault_of fault) → (fault ≡ term_fault.Overflow (times u k)) × (stays (times u k) ≡ false)
    → Worked (residue_work b d k) r
residue_failed b d k u fault r h err cause =
    let p : ℤ = (bezout b d).p in
    let same : times u k ≡ product p k = ap (λ y. times y k) h.is in
    work_err (compute (product p k ∷ [])) _ r err
    (raw_leaves (product p k ∷ []) tt (product p k) (Err (step_fault_of fault)) (ap step_fault_of (cause.0 ∙ ap term_fault.Overflow same))
    (Contains-get_or (product p k ∷ []) 0 (product p k) (omega arith)) (subst (λ z. stays z ≡ false) same cause.1))

pub residue_class : (d m r : ℤ) → IsDivisor d → r ≡ int_rem_euclid m d → IsClass d r
residue_class d m r h is = let k = rem-bounds m d h.positive in subst (IsClass d) (sym is) (record { modulus = h; not_negative = k.0; below = k.1 })
