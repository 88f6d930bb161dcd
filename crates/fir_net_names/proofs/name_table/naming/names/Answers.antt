use Rattle.std.proofs.Common.{subst, sym}
use Rattle.ver_words.specs.Names.{IsName}
use Rattle.fir_net_names.proofs.AllNames.{both_distinct, both_held, both_named, both_spelled, then}
use Rattle.fir_net_names.proofs.Unreserved.{module_is_name}
use Rattle.fir_net_names.proofs.name_table.naming.names.Goals as goal

pub returns-clause-module_spelled : goal.returns-clause-module_spelled
returns-clause-module_spelled c = subst IsName (sym c.in_ok-circuit.ensures) (module_is_name c.args.net.now.name c.requires.words.word)

pub invariant_of-result : goal.invariant_of-result
invariant_of-result c =
    let found = c.in_ok-names.field-0 in
    record { held = both_held c.args.net.now found.names c.in_ok-arrays.arrays found.taken.names c.array_names.new.taken.names c.in_ok-names.ensures.table c.in_ok-arrays.ensures.table }

pub returns-clause-table : goal.returns-clause-table
returns-clause-table c =
    let found = c.in_ok-names.field-0 in
    let arrays = then c.args.net.now found.names c.in_ok-arrays.arrays found.taken.names c.array_names.new.taken.names c.in_ok-names.ensures.table c.in_ok-arrays.ensures.table in
    record {
      circuit = c.in_ok-circuit.ensures;
      count = c.in_ok-names.ensures.count;
      array_count = c.in_ok-arrays.ensures.count;
      named = both_named c.args.net.now found.names c.in_ok-arrays.arrays found.taken.names c.array_names.new.taken.names c.in_ok-names.ensures.table c.in_ok-arrays.ensures.table;
      has = c.in_ok-names.ensures.table.has;
      only = c.in_ok-names.ensures.table.only;
      has_array = arrays.has;
      only_array = arrays.only;
    }

pub returns-clause-distinct : goal.returns-clause-distinct
returns-clause-distinct c =
    let found = c.in_ok-names.field-0 in
    both_distinct c.args.net.now found.names c.in_ok-arrays.arrays found.taken.names c.array_names.new.taken.names c.in_ok-names.ensures.table c.in_ok-arrays.ensures.table

pub returns-clause-spelled : goal.returns-clause-spelled
returns-clause-spelled c =
    let found = c.in_ok-names.field-0 in
    both_spelled c.args.net.now found.names c.in_ok-arrays.arrays found.taken.names c.array_names.new.taken.names c.in_ok-names.ensures.table c.in_ok-arrays.ensures.table c.requires.whole c.requires.words
