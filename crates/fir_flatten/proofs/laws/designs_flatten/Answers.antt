use Rattle.fir_flatten.proofs.FlatCircuits.{designs_flatten}
use Rattle.fir_flatten.proofs.laws.designs_flatten.Goals as goal

pub returns : goal.returns
returns c =
    designs_flatten
    (record {
      plain = c.designs_are_plain.ensures;
      types = c.has_its_type.ensures;
      trees = c.has_one_tree.ensures;
      shapes = c.leaf_circuits_have_the_shape_of_their_sources.ensures;
      allows = c.leaf_circuits_allow_what_their_sources_allow.ensures;
      one = c.sources_have_one_where_their_leaf_circuits_have.ensures;
      net_allows = c.flat_nets_allow_the_same.ensures;
      net_one = c.flat_nets_have_one.ensures;
      loops = c.loops_stand_by_path.ensures;
      net_loops = c.flat_nets_show_the_same_loops.ensures;
      hidden = c.flat_nets_hide_no_loop.ensures;
      follow = c.leaves_follow_types.ensures;
    })
