use Rattle.std.proofs.Common.{◌≤◌, rules, subst}
use Rattle.fir_bits.specs.declared.types.NumTy.{NumTy}
use Rattle.fir_meaning.specs.Values.{literal_value, literal_type}
use Rattle.fir_connect.specs.working.NetTerms.{value}
use Rattle.fir_merge.proofs.NarrowChoices.{narrow_stands}
use Rattle.fir_merge.proofs.StandingValues.{same_value}
use Rattle.fir_merge.proofs.narrow.add_literal.Goals as goal

pub returns-clause-stands : goal.returns-clause-stands
returns-clause-stands c = λ holds nothing.
    let l = c.args.literal.now in
    let new = c.add_value.new.net in
    let r = c.in_ok-add_value.field-0 in
    let narrow : c.literal_type-ty.result.width ≤ 128 = search rules in
    narrow_stands holds new r (literal_type l) (value (literal_value l)) (subst (λ (t : NumTy). t.width ≤ 128) c.literal_type-ty.ensures narrow)
    (same_value holds new r c.literal_value-value.result (literal_value l) c.literal_value-value.ensures (c.in_ok-add_value.ensures.stands holds))
