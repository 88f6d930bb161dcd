-- Each leaf is narrow and driven, registers and clock wires stand behind the ports, the node is a value of its width, and the registers are the words of the state.
use Rattle.std.proofs.Common.{[], ◌∷◌, refl, false, sym, subst, Some, None, lit≤, lit<}
use Rattle.std.proofs.lemmas.Result.{IfOk-weaker}
use Rattle.fir_net.specs.declared.reads.Read.TheVariants as read
use Rattle.fir_net.specs.declared.leaf.ResetKind.{ResetKind}
use Rattle.fir_net.specs.declared.leaf.ResetKind.TheVariants.{Synchronous, Asynchronous}
use Rattle.fir_net.specs.declared.leaf.Reset.{Reset}
use Rattle.fir_net.specs.declared.leaf.Role.TheVariants as role
use Rattle.fir_net.specs.declared.leaf.Leaf.{Leaf}
use Rattle.fir_net.specs.declared.node.Node.TheVariants as node
use Rattle.fir_net.specs.declared.net.FlatNet.{FlatNet}
use Rattle.fir_net.specs.working.IsNet.{IsNet}
use Rattle.fir_sim_tests.proofs.TestArrays.{no_arrays, pipes_of, readings_of}
use Rattle.fir_sim_tests.proofs.TestLeaves.{leaf}
use Rattle.fir_sim_tests.proofs.TestStates.{state_of}
use Rattle.fir_sim_tests.proofs.nets.resets.Goals as goal

abbrev reset : ResetKind → Reset
reset kind = record { kind = kind; condition = read.Leaf 1; init = read.Node 0 }

abbrev k : Leaf
k = leaf 107 false 1 role.Clock

abbrev r : Leaf
r = leaf 114 false 1 role.Input

abbrev a : Leaf
a = leaf 97 false 4 role.Input

abbrev x : Leaf
x = leaf 120 false 4 (role.Register (record { clock = 9; reset = Some (reset Synchronous); next = Some (read.Leaf 2) }))

abbrev y : Leaf
y = leaf 121 false 4 (role.Register (record { clock = 0; reset = Some (reset Asynchronous); next = Some (read.Leaf 2) }))

abbrev z : Leaf
z = leaf 122 false 4 (role.Register (record { clock = 10; reset = None; next = Some (read.Leaf 2) }))

abbrev l : Leaf
l = leaf 108 false 1 (role.ClockWire (Some 0))

abbrev m : Leaf
m = leaf 109 false 1 (role.ClockWire None)

abbrev net : FlatNet
net = record {
  name = 110 ∷ [];
  leaves = k ∷ r ∷ a ∷ leaf 115 false 4 (role.Output (read.Leaf 6)) ∷ leaf 116 false 4 (role.Output (read.Leaf 7)) ∷ leaf 117 false 4 (role.Output (read.Leaf 8)) ∷ x ∷ y ∷ z ∷ l ∷ m ∷ [];
  nodes = node.Literal (record { signed = false; value = record { width = 4; number = 9 } }) ∷ [];
  state = 6 ∷ 7 ∷ 8 ∷ [];
  arrays = [];
  array_order = [];
}

whole : IsNet net
whole = record {
  leaves = (record { narrow = lit≤ tt; driven = refl }, (record { narrow = lit≤ tt; driven = tt }, (record { narrow = lit≤ tt; driven = tt }, (record { narrow = lit≤ tt; driven = record { can = (x, refl, refl); kind = refl } }, (record { narrow = lit≤ tt; driven = record { can = (y, refl, refl); kind = refl } }, (record { narrow = lit≤ tt; driven = record { can = (z, refl, refl); kind = refl } }, (record { narrow = lit≤ tt; driven = ((l, refl, refl), record { condition = (r, refl, refl); has_one_bit = refl; init = record { can = lit< tt; kind = refl } }, record { can = (a, refl, refl); kind = refl }) }, (record { narrow = lit≤ tt; driven = ((k, refl, refl), record { condition = (r, refl, refl); has_one_bit = refl; init = record { can = lit< tt; kind = refl } }, record { can = (a, refl, refl); kind = refl }) }, (record { narrow = lit≤ tt; driven = ((m, refl, refl), tt, record { can = (a, refl, refl); kind = refl }) }, (record { narrow = lit≤ tt; driven = (refl, (k, refl, refl)) }, (record { narrow = lit≤ tt; driven = (refl, tt) }, tt)))))))))));
  ports_first = (refl, (refl, (refl, (refl, tt))));
  nodes = (record { narrow = lit≤ tt; below = lit< tt }, tt);
  state = state_of net.leaves;
  arrays = tt;
  readings = readings_of [] net.leaves (tt, (tt, (tt, (tt, (tt, (tt, (tt, (tt, (tt, (tt, (tt, tt)))))))))));
  pipes = pipes_of [] net.leaves (tt, (tt, (tt, (tt, (tt, (tt, (tt, (tt, (tt, (tt, (tt, tt)))))))))));
  array_state = no_arrays;
  few_words = lit≤ tt;
}

pub returns-clause-whole : goal.returns-clause-whole
returns-clause-whole c = IfOk-weaker c.net.result _ _ (λ n e. subst IsNet (sym e) (rw (c.in_ok-vec.ensures.items, c.in_ok-vec-2.ensures.items, c.of.ensures, c.register.ensures, c.register-2.ensures, c.register-3.ensures, c.reset.ensures, c.reset-2.ensures, c.leaf.ensures, c.leaf-2.ensures, c.leaf-3.ensures, c.leaf-4.ensures, c.leaf-5.ensures, c.leaf-6.ensures, c.new.ensures, c.new-2.ensures, c.new-3.ensures, c.new-4.ensures) whole)) c.net.ensures
