-- Each leaf is narrow and driven, no register is a word of the state, and the array stands there alone, whose words are as wide as what is read and given.
use Rattle.std.proofs.Common.{[], ◌∷◌, refl, false, sym, subst, lit≤}
use Rattle.std.proofs.lemmas.Result.{IfOk-weaker}
use Rattle.fir_net.specs.declared.array.Array.{Array}
use Rattle.fir_net.specs.declared.reads.Read.TheVariants as read
use Rattle.fir_net.specs.declared.leaf.Role.TheVariants as role
use Rattle.fir_net.specs.declared.leaf.Leaf.{Leaf}
use Rattle.fir_net.specs.declared.net.FlatNet.{FlatNet}
use Rattle.fir_net.specs.working.IsNet.{IsNet}
use Rattle.fir_sim_tests.proofs.TestArrays.{one_array, pipes_of, readings_of}
use Rattle.fir_sim_tests.proofs.TestLeaves.{leaf}
use Rattle.fir_sim_tests.proofs.TestStates.{state_of}
use Rattle.fir_sim_tests.proofs.array_nets.words.Goals as goal

abbrev k : Leaf
k = leaf 107 false 1 role.Clock

abbrev j : Leaf
j = leaf 106 false 1 role.Clock

abbrev c1 : Leaf
c1 = leaf 99 false 1 role.Input

abbrev d : Leaf
d = leaf 100 false 1 role.Input

abbrev a : Leaf
a = leaf 97 false 2 role.Input

abbrev b : Leaf
b = leaf 98 false 2 role.Input

abbrev x : Leaf
x = leaf 120 false 4 role.Input

abbrev y : Leaf
y = leaf 121 false 4 role.Input

abbrev e : Leaf
e = leaf 101 false 1 role.Input

abbrev r : Leaf
r = leaf 114 false 2 role.Input

abbrev w : Leaf
w = leaf 119 false 4 (role.Reading (record { array = 0; address = read.Leaf 9; enable = read.Leaf 8 }))

abbrev m : Array
m = record { path = 109 ∷ []; signed = false; width = 4; words = 3; writes = record { clock = 0; condition = read.Leaf 2; address = read.Leaf 4; given = read.Leaf 6 } ∷ record { clock = 1; condition = read.Leaf 3; address = read.Leaf 5; given = read.Leaf 7 } ∷ [] }

abbrev net : FlatNet
net = record { name = 110 ∷ []; leaves = k ∷ j ∷ c1 ∷ d ∷ a ∷ b ∷ x ∷ y ∷ e ∷ r ∷ leaf 111 false 4 (role.Output (read.Leaf 11)) ∷ w ∷ []; nodes = []; state = []; arrays = m ∷ []; array_order = 0 ∷ [] }

whole : IsNet net
whole = record {
  leaves = (record { narrow = lit≤ tt; driven = refl }, (record { narrow = lit≤ tt; driven = refl }, (record { narrow = lit≤ tt; driven = tt }, (record { narrow = lit≤ tt; driven = tt }, (record { narrow = lit≤ tt; driven = tt }, (record { narrow = lit≤ tt; driven = tt }, (record { narrow = lit≤ tt; driven = tt }, (record { narrow = lit≤ tt; driven = tt }, (record { narrow = lit≤ tt; driven = tt }, (record { narrow = lit≤ tt; driven = tt }, (record { narrow = lit≤ tt; driven = record { can = (w, refl, refl); kind = refl } }, (record { narrow = lit≤ tt; driven = record { address = (r, refl, refl); unsigned = refl; has_bits = lit≤ tt; enable = (e, refl, refl); has_one_bit = refl } }, tt))))))))))));
  ports_first = tt;
  nodes = tt;
  state = state_of net.leaves;
  arrays = (record { narrow = lit≤ tt; has_words = lit≤ tt; writes = (record { clock = (k, refl, refl); addressed = record { address = (a, refl, refl); unsigned = refl; has_bits = lit≤ tt; enable = (c1, refl, refl); has_one_bit = refl }; given = (x, refl, refl); has_type = refl }, (record { clock = (j, refl, refl); addressed = record { address = (b, refl, refl); unsigned = refl; has_bits = lit≤ tt; enable = (d, refl, refl); has_one_bit = refl }; given = (y, refl, refl); has_type = refl }, tt)) }, tt);
  readings = readings_of net.arrays net.leaves (tt, (tt, (tt, (tt, (tt, (tt, (tt, (tt, (tt, (tt, (tt, ((m, refl, refl, refl), tt))))))))))));
  pipes = pipes_of net.arrays net.leaves (tt, (tt, (tt, (tt, (tt, (tt, (tt, (tt, (tt, (tt, (tt, ((m, refl, refl, refl), tt))))))))))));
  array_state = one_array m (lit≤ tt);
  few_words = lit≤ tt;
}

pub returns-clause-whole : goal.returns-clause-whole
returns-clause-whole c = IfOk-weaker c.net.result _ _ (λ n same. subst IsNet (sym same) (rw (c.in_ok-vec.ensures.items, c.in_ok-vec-2.ensures.items, c.in_ok-array.ensures, c.leaf.ensures, c.reading.ensures, c.new.ensures.items, c.new-2.ensures.items) whole)) c.net.ensures
