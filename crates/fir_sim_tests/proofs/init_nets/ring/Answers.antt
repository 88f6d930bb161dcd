-- Each leaf is narrow and driven, and the register is the word of the state.
use Rattle.std.proofs.Common.{[], ◌∷◌, refl, false, sym, subst, lit≤}
use Rattle.std.proofs.lemmas.Result.{IfOk-weaker}
use Rattle.fir_net.specs.declared.leaf.ResetKind.TheVariants.{Asynchronous}
use Rattle.fir_net.specs.declared.reads.Read.TheVariants as read
use Rattle.fir_net.specs.declared.leaf.Role.TheVariants as role
use Rattle.fir_net.specs.declared.leaf.Leaf.{Leaf}
use Rattle.fir_net.specs.declared.net.FlatNet.{FlatNet}
use Rattle.fir_net.specs.working.IsNet.{IsNet}
use Rattle.fir_sim_tests.proofs.TestArrays.{no_arrays, pipes_of, readings_of}
use Rattle.fir_sim_tests.proofs.TestLeaves.{leaf, register_on}
use Rattle.fir_sim_tests.proofs.TestStates.{state_of}
use Rattle.fir_sim_tests.proofs.init_nets.ring.Goals as goal

abbrev k : Leaf
k = leaf 107 false 1 role.Clock

abbrev r : Leaf
r = leaf 114 false 1 role.Input

abbrev u : Leaf
u = leaf 117 false 4 (role.Wire (read.Leaf 4))

abbrev v : Leaf
v = leaf 118 false 4 (role.Wire (read.Leaf 3))

abbrev net : FlatNet
net = record { name = 110 ∷ []; leaves = k ∷ r ∷ register_on 122 2 4 Asynchronous (read.Leaf 3) ∷ u ∷ v ∷ []; nodes = []; state = 2 ∷ []; arrays = []; array_order = [] }

whole : IsNet net
whole = record {
  leaves = (record { narrow = lit≤ tt; driven = refl }, (record { narrow = lit≤ tt; driven = tt }, (record { narrow = lit≤ tt; driven = ((k, refl, refl), record { condition = (r, refl, refl); has_one_bit = refl; init = record { can = (u, refl, refl); kind = refl } }, tt) }, (record { narrow = lit≤ tt; driven = record { can = (v, refl, refl); kind = refl } }, (record { narrow = lit≤ tt; driven = record { can = (u, refl, refl); kind = refl } }, tt)))));
  ports_first = (refl, (refl, tt));
  nodes = tt;
  state = state_of net.leaves;
  arrays = tt;
  readings = readings_of [] net.leaves (tt, (tt, (tt, (tt, (tt, tt)))));
  pipes = pipes_of [] net.leaves (tt, (tt, (tt, (tt, (tt, tt)))));
  array_state = no_arrays;
  few_words = lit≤ tt;
}

pub returns : goal.returns
returns c = IfOk-weaker c.net.result _ _ (λ n e. subst IsNet (sym e) (rw (c.in_ok-vec.ensures.items, c.register.ensures, c.leaf.ensures, c.leaf-2.ensures, c.leaf-3.ensures, c.new.ensures.items, c.new-2.ensures, c.new-3.ensures.items, c.new-4.ensures.items) whole)) c.net.ensures
