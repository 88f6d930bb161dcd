use Rattle.fir_type_table.specs.working.Tables.{types_of}
use Rattle.fir_types.specs.working.Seen.{found_type}
use Rattle.fir_ground.specs.working.Absent.{absent_terms}
use Rattle.fir_ground.proofs.Absents.{adds_alone}
use Rattle.fir_ground.proofs.absent.read_absent.Goals as goal

pub returns : goal.returns
returns c =
    λ ps within picks.
    adds_alone c.args.nodes.now.items c.add_found.new.nodes.items c.new-ids.result.items c.add_found.new.ids.items (absent_terms ps (found_type (types_of c.args.table.now) c.args.found))
    c.new-ids.ensures.items (c.in_ok-add_found.ensures ps within picks)
