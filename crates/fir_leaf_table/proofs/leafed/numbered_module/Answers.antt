use Rattle.std.proofs.Common.{◌≡◌, [], length, map, refl, sym, ap, ◌∙◌, arith}
use Rattle.std.specs.Prelude.{slice_get}
use Rattle.std.proofs.lemmas.Option.{same_Some}
use Rattle.fir_ast.specs.Circuits.{ModuleTree}
use Rattle.fir_ast.specs.working.Views.{block_of, circuit_of, module_of, port_of, stmt_of}
use Rattle.fir_meaning.specs.Visibility.{at_head}
use Rattle.fir_meaning.specs.ModuleScenes.{behind_all_ports}
use Rattle.fir_leaf_table.specs.declared.walk.Walk.{Walk}
use Rattle.fir_leaf_table.proofs.ModuleViews.{IsFresh, block_begins, block_enters, ports_begin, ports_enter, rest, viewed}
use Rattle.fir_leaf_table.proofs.leafed.numbered_module.Goals as goal

pub returns : goal.returns
returns c = λ s scene within.
    let tree = circuit_of c.args.fitted.now in
    let frame = c.frame_of-frame.result in
    let frames = c.frame_of-frame.ensures.frames s scene in
    let m = s.own.inside in
    let part = same_Some (module_of c.args.part.now) m
    (sym c.requires.there ∙ ap (slice_get tree.modules) (sym c.frame_of-frame.ensures.number) ∙ frames.is_module) in
    let ps = map port_of c.as_slice-2.result.now in
    let ports = ap (map port_of) c.as_slice-2.ensures.value ∙ ap (λ (x : ModuleTree). x.ports) part in
    let b = block_of (map stmt_of c.as_slice-3.result.now) in
    let body = ap (λ l. block_of (map stmt_of l)) c.as_slice-3.ensures.value ∙ ap (λ (x : ModuleTree). x.body) part in
    let g = c.in_ok-ground.ground in
    let made = c.in_ok-ground.ensures tree s frames part within in
    let old : Walk = record {
      declared = 0;
      drivers = c.as_slice.result;
      no_node = c.len.result;
      leaves = c.new.result;
      arrays = c.new-2.result;
      memories = c.new-3.result;
    } in
    let mid = c.in_ports.new.walk in
    let new = c.in_block.new.walk in
    let fresh : IsFresh g old = record {
      declared = refl;
      drivers = c.as_slice.ensures.value;
      no_node = omega (arith, c.len.ensures, g.nodes.ok.0);
      leaves = c.new.ensures.items;
      arrays = c.new-2.ensures.items;
      memories = c.new-3.ensures.items;
    } in
    let drivers = rest frame tree s frames g made ps ports b body old mid new fresh in
    let of_ports = c.in_ok-in_ports.ensures tree s at_head g.nodes.items drivers
    (ports_enter frame tree s frames g made ps ports b body old mid new fresh)
    (ports_begin frame tree s frames g made ps ports b body old mid new fresh) in
    let of_block = c.in_ok-in_block.ensures tree s (behind_all_ports m) g.nodes.items []
    (block_enters frame tree s frames g made ps ports b body old mid new fresh of_ports)
    (block_begins frame tree s frames g made ps ports b body old mid new fresh) in
    let count : c.len-port_leaves.result ≡ length mid.leaves.items = omega (arith, c.len-port_leaves.ensures, mid.leaves.ok.0) in
    viewed frame tree s frames g made ps ports b body old mid new fresh of_ports c.len-port_leaves.result count of_block
