use Rattle.std.proofs.Common.{◌∙◌, [], ◌∷◌, sym}
use Rattle.fir_fold_rules.specs.declared.term.Term.TheVariants as term
use Rattle.fir_fold_rules.specs.working.Folded.{AppliedToOne, AppliedToTwo}
use Rattle.fir_fold_rules.proofs.LiteralOperands.{single_stands, integer_stands, range_stands, pair_stands}
use Rattle.fir_fold_rules.proofs.Standing.{at_some, stands_as, stands_itself}
use Rattle.fir_fold_rules.proofs.literals.folded.Goals as goal
use Rattle.fir_fold_rules.proofs.literals.folded.Goals.{in-Single, in-Integer, in-Range, in-Pair}

pub returns-in-Read-clause-stands : goal.returns-in-Read-clause-stands
returns-in-Read-clause-stands c = stands_itself c.args.leaves.now c.args.nodes.now.keys c.args.ty c.args.term.now c.requires.is

pub returns-in-Some-clause-stands : goal.returns-in-Some-clause-stands
returns-in-Some-clause-stands c =
    let leaves = c.args.leaves.now in
    let nodes = c.args.nodes.now.keys in
    let ty = c.args.ty in
    let x = c.args.term.now in
    let k = c.in-Some.number in
    elim c.match-term.branch [
      | in-Single w ↦ (let op = w.in-Single.op in let a = w.in-Single.a in
          stands_as leaves nodes ty x (term.Single op a) (term.Number k) w.in-Single.is c.requires.is
          (λ is. single_stands leaves nodes ty op a k is
          (at_some (AppliedToOne nodes op a []) _ k (sym w.number-is ∙ c.in-Some.is) w.applied_to_one-number.ensures.some)))
      | in-Integer w ↦ (let op = w.in-Integer.op in let a = w.in-Integer.a in let n = w.in-Integer.n in
          stands_as leaves nodes ty x (term.Integer op a n) (term.Number k) w.in-Integer.is c.requires.is
          (λ is. integer_stands leaves nodes ty op a n k is
          (at_some (AppliedToOne nodes op a (n ∷ [])) _ k (sym w.number-is ∙ c.in-Some.is) w.applied_to_one-number-in-Integer.ensures.some)))
      | in-Range w ↦ (let op = w.in-Range.op in let a = w.in-Range.a in let n = w.in-Range.n in let m = w.in-Range.m in
          stands_as leaves nodes ty x (term.Range op a n m) (term.Number k) w.in-Range.is c.requires.is
          (λ is. range_stands leaves nodes ty op a n m k is
          (at_some (AppliedToOne nodes op a (n ∷ m ∷ [])) _ k (sym w.number-is ∙ c.in-Some.is) w.applied_to_one-number-in-Range.ensures.some)))
      | in-Pair w ↦ (let op = w.in-Pair.op in let a = w.in-Pair.a in let b = w.in-Pair.b in
          stands_as leaves nodes ty x (term.Pair op a b) (term.Number k) w.in-Pair.is c.requires.is
          (λ is. pair_stands leaves nodes ty op a b k is
          (at_some (AppliedToTwo nodes op a b) _ k (sym w.number-is ∙ c.in-Some.is) w.applied_to_two-number.ensures.some)))
    ]

pub returns-in-None-clause-stands : goal.returns-in-None-clause-stands
returns-in-None-clause-stands c = stands_itself c.args.leaves.now c.args.nodes.now.keys c.args.ty c.args.term.now c.requires.is
