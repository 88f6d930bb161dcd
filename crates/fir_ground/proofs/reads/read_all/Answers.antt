use Rattle.fir_type_table.specs.working.Tables.{types_of}
use Rattle.fir_ground.proofs.ReadTargets.{absent_gives, there_gives}
use Rattle.fir_ground.proofs.reads.read_all.Goals as goal

pub returns-in_ok-read_from-in-Some : goal.returns-in_ok-read_from-in-Some
returns-in_ok-read_from-in-Some c =
    λ meant names small.
    there_gives c.args.nodes.now.items c.read_from.new.nodes.items (types_of c.args.table.now) c.args.target meant c.in-Some.base c.leaves-count.result
    c.in_ok-read_from-in-Some.field-0.items names small c.in-Some.is c.leaves-count.ensures (λ fits. c.in_ok-read_from-in-Some.ensures meant.picks fits names.within names.picks)

pub returns-in_ok-read_absent-in-None : goal.returns-in_ok-read_absent-in-None
returns-in_ok-read_absent-in-None c =
    λ meant names small.
    absent_gives c.args.nodes.now.items c.read_absent.new.nodes.items (types_of c.args.table.now) c.args.target meant c.in_ok-read_absent-in-None.field-0.items names c.in-None.is
    (c.in_ok-read_absent-in-None.ensures meant.picks names.within names.picks)
