use Rattle.std.proofs.Common.{◌≡◌, ◌∷◌, ◌++◌, [], List, length, map, refl, subst, arith, rules}
use Rattle.smt_terms.specs.declared.term.Term.{Term}
use Rattle.smt_terms.specs.Scripts.{claim}
use Rattle.smt_terms.specs.Term.{phrase}
use Rattle.smt_reader.specs.Taking.{IsAssumed}
use Rattle.smt_reader.proofs.Replaying.{assumed_all, assumed_on, assumed_start}
use Rattle.smt_reader.proofs.following.assume.Goals as goal

pub loop-term-init : goal.loop-term-init
loop-term-init c cs f = assumed_start c.args.reading cs (map claim (map phrase c.args.terms.now)) f

pub loop-term-preserved : goal.loop-term-preserved
loop-term-preserved c cs f =
    let parts : c.loop-term.rest.now ≡ c.in-Some.term.now ∷ c.in-Some.behind.now = search rules in
    assumed_on c.loop-term.reading c.in_ok-reading.reading (claim (phrase c.in-Some.term.now)) (map claim (map phrase c.in-Some.behind.now)) (cs ++ map claim (map phrase c.args.terms.now))
    (subst (λ z. IsAssumed c.loop-term.reading (map claim (map phrase z)) (cs ++ map claim (map phrase c.args.terms.now))) parts (c.loop-term.invariant cs f))
    c.in_ok-reading.ensures.follows

empty : (xs : List Term) → length xs ≡ 0 → xs ≡ []
empty [] h = refl
empty (x ∷ xs) h = absurd (omega (arith, h))

pub returns : goal.returns
returns c cs f =
    let none : c.loop-term.rest.now ≡ [] = empty c.loop-term.rest.now c.in_default.ensures.cases in
    assumed_all c.loop-term.reading (cs ++ map claim (map phrase c.args.terms.now))
    (subst (λ z. IsAssumed c.loop-term.reading (map claim (map phrase z)) (cs ++ map claim (map phrase c.args.terms.now))) none (c.loop-term.invariant cs f))
