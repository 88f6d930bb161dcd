use Rattle.std.proofs.Common.{◌≤◌, rules, subst}
use Rattle.fir_bits.specs.declared.types.NumTy.{NumTy}
use Rattle.fir_connect.specs.working.Lowered.{zero_of}
use Rattle.fir_connect.specs.working.NetTerms.{choice, term_type}
use Rattle.fir_merge.specs.working.Bounds.{StandsFor}
use Rattle.fir_merge.proofs.NarrowChoices.{narrow_stands}
use Rattle.fir_merge.proofs.StandingValues.{stands_later}
use Rattle.fir_merge.proofs.narrow.add_validif.Goals as goal

pub returns-clause-stands : goal.returns-clause-stands
returns-clause-stands c = λ holds u s nothing condition given.
    let old = c.args.net.now in
    let middle = c.add_zero.new.net in
    let new = c.add_choice.new.net in
    let r = c.in_ok-add_choice.field-0 in
    let grows = c.in_ok-zero.ensures.grown.grows in
    let narrow : c.args.a.ty.width ≤ 128 = search rules in
    let chosen = c.in_ok-add_choice.ensures.stands holds u s (zero_of c.args.a.ty) (stands_later holds old middle c.args.c u grows condition)
    (stands_later holds old middle c.args.a s grows given) (c.in_ok-zero.ensures.stands holds) in
    narrow_stands holds new r (term_type holds s) (choice holds u s (zero_of (term_type holds s))) (subst (λ (t : NumTy). t.width ≤ 128) given.has_type narrow)
    (subst (λ (t : NumTy). StandsFor holds new r (choice holds u s (zero_of t))) given.has_type chosen)
