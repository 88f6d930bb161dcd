use Rattle.std.proofs.Common.{◌∙◌, sym}
use Rattle.fir_fold_rules.proofs.NarrowReads.{narrow_choice}
use Rattle.fir_fold_rules.proofs.LiteralOperands.{first_chosen, second_chosen}
use Rattle.fir_fold_rules.proofs.Standing.{stands_itself}
use Rattle.fir_fold_rules.proofs.literals.chosen.Goals as goal

pub fitted-requires-clause-narrow : goal.fitted-requires-clause-narrow
fitted-requires-clause-narrow c =
    narrow_choice c.args.leaves.now c.requires.narrow c.args.nodes.now.keys c.requires.are c.args.ty c.args.c.now c.args.a.now c.args.b.now c.requires.is

pub fitted-requires-in-Some-2-clause-narrow : goal.fitted-requires-in-Some-2-clause-narrow
fitted-requires-in-Some-2-clause-narrow c =
    narrow_choice c.args.leaves.now c.requires.narrow c.args.nodes.now.keys c.requires.are c.args.ty c.args.c.now c.args.a.now c.args.b.now c.requires.is

pub returns-in-Some-clause-stands : goal.returns-in-Some-clause-stands
returns-in-Some-clause-stands c =
    first_chosen c.args.leaves.now c.args.nodes.now.keys c.args.ty c.args.c.now c.args.a.now c.args.b.now c.in-Some.condition c.fitted.result
    c.in-Some.ensures.some (sym c.bits.ensures.value ∙ c.if-bits-eq1.true) c.fitted.ensures.fits

pub returns-in-Some-2-clause-stands : goal.returns-in-Some-2-clause-stands
returns-in-Some-2-clause-stands c =
    second_chosen c.args.leaves.now c.args.nodes.now.keys c.args.ty c.args.c.now c.args.a.now c.args.b.now c.in-Some.condition c.fitted-in-Some-2.result
    c.in-Some.ensures.some (λ e. c.if-bits-eq1.false (c.bits.ensures.value ∙ e)) c.fitted-in-Some-2.ensures.fits

pub returns-in-None-clause-stands : goal.returns-in-None-clause-stands
returns-in-None-clause-stands c = stands_itself c.args.leaves.now c.args.nodes.now.keys c.args.ty _ c.requires.is
