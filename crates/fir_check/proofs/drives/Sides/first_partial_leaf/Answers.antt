use Rattle.std.proofs.Common.{map, ◌∙◌}
use Rattle.std.proofs.lemmas.Bool.{not-true}
use Rattle.fir_meaning.specs.ConnectPairs.{partial_pairs}
use Rattle.fir_type_table.specs.working.Tables.{types_of, type_at}
use Rattle.fir_check.specs.working.Driven.{spot_of_pair}
use Rattle.fir_check.proofs.PairSpots.{shown_pairs}
use Rattle.fir_check.proofs.FirstDriven.{first_flip, none_driven, wanted_pair_text}
use Rattle.fir_check.proofs.drives.Sides.first_partial_leaf.Goals as goal

pub returns-then-not-self-2 : goal.returns-then-not-self-2
returns-then-not-self-2 c = none_driven c.args.self _ (not-true c.args.self.straight c.if-not-self.true) (not-true c.args.self.flipped c.if-not-self-2.true)

pub returns : goal.returns
returns c =
    let ts = types_of c.args.table.now in
    let one = type_at ts c.in-Type.a.number in
    let other = type_at ts c.in-Type-right.b.number in
    rw (c.in-Type.is, c.in-Type-right.is, shown_pairs c.in-Type.field-1 c.in-Type-right.field-1 one other)
    (c.leaf_at.ensures (map spot_of_pair (partial_pairs one other)) (c.first_pair_flip.ensures ∙ first_flip spot_of_pair (partial_pairs one other))
    (c.in_ok-steps.ensures ∙ wanted_pair_text c.args.self (partial_pairs one other)))
