-- The leaf views of modules have the roles of their trees.
use Rattle.std.proofs.Common.{[]}
use Rattle.fir_meaning.specs.Visibility.{at_head}
use Rattle.fir_meaning.specs.working.LeafedModules.{arrays_in_block, leaves_in_block, leaves_of_ports}
use Rattle.fir_meaning.specs.ModuleScenes.{behind_all_ports}
use Rattle.fir_leaf.proofs.DeclaredLeaves.{own_module}
use Rattle.fir_design.specs.working.SameRoles.{ViewsHaveRoles}
use Rattle.fir_meaning.specs.SourceRoles.{source_arrays_in_block, sources_in_block, sources_of_ports}
use Rattle.fir_design.proofs.BlockRoles.{block_same, ports_same}
use Rattle.fir_design.proofs.FineScenes.{fine_scene}
use Rattle.fir_design.proofs.PlacedBlocks.{body_placed}
use Rattle.fir_design.proofs.SameLists.{both_same}

pub views_same : ViewsHaveRoles
views_same c s names types i =
    let head = behind_all_ports s.own.inside in
    let body = s.own.inside.body in
    let legal = (fine_scene c s names types i).legal in
    let same = both_same s (leaves_of_ports s at_head s.own.inside.ports) (leaves_in_block s head body) [] (arrays_in_block s head body)
    (sources_of_ports s at_head s.own.inside.ports) (sources_in_block s head body) [] (source_arrays_in_block s body)
    (ports_same s s.own.inside.ports at_head) (block_same c s names types i body head (body_placed s (own_module c s.own i).start) legal) in
    (same.leaves, same.arrays)
