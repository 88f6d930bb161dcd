use Rattle.fir_type_table.specs.working.Tables.{types_of}
use Rattle.fir_leaf_pairs.proofs.PairFound.{found_paired}
use Rattle.fir_leaf_pairs.proofs.pairs.pair_found.Goals as goal

pub returns-in_ok-pair_parts-in-Type-Type : goal.returns-in_ok-pair_parts-in-Type-Type
returns-in_ok-pair_parts-in-Type-Type c =
    let i = c.in-Type-Type in
    found_paired (types_of c.args.table.now) c.args.partial i.field-1-0 i.field-1-1 c.args.left c.args.right i.s i.t c.args.pairs.now.items
    c.pair_parts.new.pairs.items
    i.is-0 i.is-1 c.in_ok-pair_parts-in-Type-Type.ensures
