-- The tree of a whole net is what the net is built as.
-- It is valid, named after the net, arranged and of its shape, it has one choice of values, and it allows what the net allows.
use Rattle.std.proofs.Common.{List, sym, subst}
use Rattle.std.specs.List.{AllByRecursion}
use Rattle.fir_base.specs.Lists.{Distinct}
use Rattle.ver_words.specs.Names.{IsName}
use Rattle.fir_net.specs.declared.reads.Read.{Read}
use Rattle.fir_net.specs.declared.net.FlatNet.{FlatNet}
use Rattle.fir_net_names.specs.declared.name_table.NameTable.{NameTable}
use Rattle.fir_net.specs.working.IsNet.{IsNet}
use Rattle.fir_net.specs.working.IsOrder.{IsOrder}
use Rattle.fir_net.specs.working.IsWritable.{HasNoPipes, IsWritable}
use Rattle.fir_net_names.specs.working.IsTable.{IsTable}
use Rattle.fir_net_names.specs.working.TableNames.{table_names}
use Rattle.fir_net.specs.working.Laws.{NodesHaveTheirValues, NodesHaveTheirTypes, OrderedHasOne}
use Rattle.ver_ast.specs.working.Laws.{ValidHasOneRest}
use Rattle.ver_build.specs.declared.places.Places.{Places}
use Rattle.ver_build.specs.working.Places.{IsPlaces}
use Rattle.ver_build.specs.working.Built.{built}
use Rattle.ver_build.specs.working.Builds.{Builds}
use Rattle.ver_build.proofs.Premises.{Premises}
use Rattle.ver_build.proofs.Parts.{built_in_parts}
use Rattle.ver_build.proofs.Named.{parts_named}
use Rattle.ver_build.proofs.Valid.{parts_valid}
use Rattle.ver_build.proofs.Arranged.{parts_arranged, parts_marked}
use Rattle.ver_build.proofs.Shapes.{built_shape}
use Rattle.ver_build.proofs.Allows.{parts_one, parts_allow}

pub builds : NodesHaveTheirValues → NodesHaveTheirTypes → OrderedHasOne → ValidHasOneRest
    → (net : FlatNet) (t : NameTable) (p : Places) (order : List Read) → IsNet net → IsWritable net → HasNoPipes net → IsOrder net order → IsTable net t
    → IsPlaces net t order p → Distinct (table_names t) → AllByRecursion IsName (table_names t) → IsName t.circuit
    → Builds net (built net t p order)
builds values types one_choice one_rest net t p order whole writable pipes ordered table places once spelled circuit =
    let is : Premises net t p order =
    record { laws = record { values = values; types = types; one_choice = one_choice; one_rest = one_rest }; whole = whole; writable = writable; pipes = pipes; ordered = ordered; table = table; places = places; once = once; spelled = spelled; circuit = circuit } in
    let shapes = built_shape net t p order is in
    let valid = parts_valid net t p order is in
    subst (Builds net) (sym (built_in_parts net t p order whole table))
    (record {
      named = parts_named net t p order is;
      arranged = parts_arranged net t p order is;
      with_blocks = parts_marked net t p order is;
      valid = valid;
      shapes = shapes;
      one = parts_one net t p order is valid shapes;
      allows = parts_allow net t p order is valid shapes;
    })
