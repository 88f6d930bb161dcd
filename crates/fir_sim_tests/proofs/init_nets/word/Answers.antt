-- Each leaf is narrow and driven, the register is the word of the state, and behind it stands the array, whose words are as wide as what is read.
use Rattle.std.proofs.Common.{[], ◌∷◌, refl, false, sym, subst, lit≤}
use Rattle.std.proofs.lemmas.Result.{IfOk-weaker}
use Rattle.fir_net.specs.declared.array.Array.{Array}
use Rattle.fir_net.specs.declared.leaf.ResetKind.TheVariants.{Asynchronous}
use Rattle.fir_net.specs.declared.reads.Read.TheVariants as read
use Rattle.fir_net.specs.declared.leaf.Role.TheVariants as role
use Rattle.fir_net.specs.declared.leaf.Leaf.{Leaf}
use Rattle.fir_net.specs.declared.net.FlatNet.{FlatNet}
use Rattle.fir_net.specs.working.IsNet.{IsNet}
use Rattle.fir_sim_tests.proofs.TestArrays.{one_array, pipes_of, readings_of}
use Rattle.fir_sim_tests.proofs.TestLeaves.{leaf, register_on}
use Rattle.fir_sim_tests.proofs.TestStates.{state_of}
use Rattle.fir_sim_tests.proofs.init_nets.word.Goals as goal

abbrev k : Leaf
k = leaf 107 false 1 role.Clock

abbrev r : Leaf
r = leaf 114 false 1 role.Input

abbrev u : Leaf
u = leaf 117 false 4 (role.Wire (read.Leaf 4))

abbrev d : Leaf
d = leaf 100 false 4 (role.Reading (record { array = 0; address = read.Leaf 5; enable = read.Leaf 1 }))

abbrev a : Leaf
a = leaf 97 false 1 (role.Wire (read.Leaf 1))

abbrev m : Array
m = record { path = 109 ∷ []; signed = false; width = 4; words = 2; writes = record { clock = 0; condition = read.Leaf 1; address = read.Leaf 5; given = read.Leaf 4 } ∷ [] }

abbrev net : FlatNet
net = record { name = 110 ∷ []; leaves = k ∷ r ∷ register_on 122 2 4 Asynchronous (read.Leaf 3) ∷ u ∷ d ∷ a ∷ []; nodes = []; state = 2 ∷ []; arrays = m ∷ []; array_order = 0 ∷ [] }

whole : IsNet net
whole = record {
  leaves = (record { narrow = lit≤ tt; driven = refl }, (record { narrow = lit≤ tt; driven = tt }, (record { narrow = lit≤ tt; driven = ((k, refl, refl), record { condition = (r, refl, refl); has_one_bit = refl; init = record { can = (u, refl, refl); kind = refl } }, tt) }, (record { narrow = lit≤ tt; driven = record { can = (d, refl, refl); kind = refl } }, (record { narrow = lit≤ tt; driven = record { address = (a, refl, refl); unsigned = refl; has_bits = lit≤ tt; enable = (r, refl, refl); has_one_bit = refl } }, (record { narrow = lit≤ tt; driven = record { can = (r, refl, refl); kind = refl } }, tt))))));
  ports_first = (refl, (refl, (refl, tt)));
  nodes = tt;
  state = state_of net.leaves;
  arrays = (record { narrow = lit≤ tt; has_words = lit≤ tt; writes = (record { clock = (k, refl, refl); addressed = record { address = (a, refl, refl); unsigned = refl; has_bits = lit≤ tt; enable = (r, refl, refl); has_one_bit = refl }; given = (d, refl, refl); has_type = refl }, tt) }, tt);
  readings = readings_of net.arrays net.leaves (tt, (tt, (tt, (tt, ((m, refl, refl, refl), (tt, tt))))));
  pipes = pipes_of net.arrays net.leaves (tt, (tt, (tt, (tt, ((m, refl, refl, refl), (tt, tt))))));
  array_state = one_array m (lit≤ tt);
  few_words = lit≤ tt;
}

pub returns : goal.returns
returns c = IfOk-weaker c.net.result _ _ (λ n e. subst IsNet (sym e) (rw (c.in_ok-vec.ensures.items, c.in_ok-vec-2.ensures.items, c.in_ok-vec-3.ensures.items, c.in_ok-array.ensures, c.register.ensures, c.leaf.ensures, c.leaf-2.ensures, c.leaf-3.ensures, c.reading.ensures, c.new.ensures.items, c.new-2.ensures) whole)) c.net.ensures
