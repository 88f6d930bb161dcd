use Rattle.fir_flatten.proofs.DesignInits.{designs_tell_inits}
use Rattle.fir_flatten.proofs.laws.designs_tell_inits.Goals as goal

pub returns : goal.returns
returns c =
    designs_tell_inits
    (record {
      plain = c.designs_are_plain.ensures;
      trees = c.has_one_tree.ensures;
      inits = c.inits_stand_by_path.ensures;
      net_inits = c.flat_nets_show_the_same_inits.ensures;
      hidden = c.flat_nets_hide_no_init.ensures;
    })
