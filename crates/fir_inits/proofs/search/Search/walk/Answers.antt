use Rattle.std.proofs.Common.{sym, refl, subst}
use Rattle.std.proofs.lemmas.Option.{slice_get_within}
use Rattle.fir_inits.specs.working.Walks.{IsInitWalk}
use Rattle.fir_inits.proofs.Walking.{walk_begins, walk_ends, walk_on}
use Rattle.fir_inits.proofs.search.Search.walk.Goals as goal

pub way-preserved : goal.way-preserved
way-preserved c =
    let w = c.way.invariant in
    record {
      are = w.are;
      walking = walk_on c.args.net.now c.args.self.now w.are c.way.number c.way.walk.items w.walking c.index-met.result.now c.index-met.ensures c.push_leaf.new.walk.items c.in_ok-push_leaf.ensures c.in-Met.before c.in-Met.is;
    }

pub leaf_of-requires : goal.leaf_of-requires
leaf_of-requires c =
    let w = c.way.invariant in
    let has = walk_begins c.args.net.now c.args.self.now w.are c.way.number c.way.walk.items w.walking c.index-met.result.now c.index-met.ensures c.push_leaf.new.walk.items c.in_ok-push_leaf.ensures c.in-Init.register c.in-Init.is in
    slice_get_within c.args.net.now.leaves c.in-Init.register has.leaf has.at

pub returns-in-Init : goal.returns-in-Init
returns-in-Init c =
    let w = c.way.invariant in
    subst (IsInitWalk c.args.net.now c.leaf_of.result.now.place) (sym c.reverse.ensures.items)
    (walk_ends c.args.net.now c.args.self.now w.are c.way.number c.way.walk.items w.walking c.index-met.result.now c.index-met.ensures c.push_leaf.new.walk.items c.in_ok-push_leaf.ensures c.in-Init.register c.in-Init.is c.leaf_of.result.now c.leaf_of.ensures c.leaf_of.result.now.place refl)
