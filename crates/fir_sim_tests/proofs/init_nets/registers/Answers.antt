-- Each leaf is narrow and driven, each node has its type over the nodes before it, and the registers are the words of the state.
use Rattle.std.proofs.Common.{[], ◌∷◌, refl, false, sym, subst, lit≤, lit<}
use Rattle.std.proofs.lemmas.Result.{IfOk-weaker}
use Rattle.fir_bits.specs.declared.operators.PrimOp.TheVariants as op
use Rattle.fir_net.specs.declared.reads.Read.TheVariants as read
use Rattle.fir_net.specs.declared.leaf.Role.TheVariants as role
use Rattle.fir_net.specs.declared.leaf.Leaf.{Leaf}
use Rattle.fir_net.specs.declared.node.Node.TheVariants as node
use Rattle.fir_net.specs.declared.net.FlatNet.{FlatNet}
use Rattle.fir_net.specs.working.IsNet.{IsNet}
use Rattle.fir_sim_tests.specs.declared.init_nets.Varied.{Varied}
use Rattle.fir_sim_tests.proofs.TestArrays.{no_arrays, pipes_of, readings_of}
use Rattle.fir_sim_tests.proofs.TestLeaves.{leaf, register_on}
use Rattle.fir_sim_tests.proofs.TestStates.{state_of}
use Rattle.fir_sim_tests.proofs.init_nets.registers.Goals as goal

abbrev k : Leaf
k = leaf 107 false 1 role.Clock

abbrev r : Leaf
r = leaf 114 false 1 role.Input

abbrev i : Leaf
i = leaf 105 false 4 role.Input

abbrev p : Leaf
p = leaf 112 false 4 (role.Wire (read.Node 1))

abbrev q : Leaf
q = leaf 113 false 4 (role.Wire (read.Node 0))

abbrev v : Leaf
v = leaf 118 false 4 (role.Wire (read.Leaf 10))

abbrev w : Leaf
w = leaf 119 false 4 (role.Wire (read.Leaf 2))

module _ (x m a b : Varied) where
  abbrev own : Leaf
  own = register_on 98 b.line 4 b.kind (read.Leaf 6)

  abbrev net : FlatNet
  net = record {
    name = 110 ∷ [];
    leaves = k ∷ r ∷ i ∷ register_on 120 x.line 2 x.kind (read.Leaf 7) ∷ register_on 109 m.line 4 m.kind (read.Node 3) ∷ register_on 97 a.line 4 a.kind (read.Node 4) ∷ own ∷ p ∷ q ∷ v ∷ w ∷ [];
    nodes =
        node.Literal (record { signed = false; value = record { width = 4; number = 9 } })
        ∷ node.Operation (record { op = op.Not; reads = read.Leaf 8 ∷ []; integers = []; signed = false; width = 4 })
        ∷ node.Literal (record { signed = false; value = record { width = 1; number = 1 } })
        ∷ node.Mux (record { reads = read.Node 2 ∷ read.Leaf 7 ∷ read.Node 0 ∷ []; signed = false; width = 4 })
        ∷ node.Operation (record { op = op.And; reads = read.Leaf 9 ∷ read.Leaf 10 ∷ []; integers = []; signed = false; width = 4 })
        ∷ [];
    state = 3 ∷ 4 ∷ 5 ∷ 6 ∷ [];
    arrays = [];
    array_order = [];
  }

  whole : IsNet net
  whole = record {
    leaves = (record { narrow = lit≤ tt; driven = refl }, (record { narrow = lit≤ tt; driven = tt }, (record { narrow = lit≤ tt; driven = tt }, (record { narrow = lit≤ tt; driven = ((k, refl, refl), record { condition = (r, refl, refl); has_one_bit = refl; init = record { can = (p, refl, refl); kind = refl } }, tt) }, (record { narrow = lit≤ tt; driven = ((k, refl, refl), record { condition = (r, refl, refl); has_one_bit = refl; init = record { can = lit< tt; kind = refl } }, tt) }, (record { narrow = lit≤ tt; driven = ((k, refl, refl), record { condition = (r, refl, refl); has_one_bit = refl; init = record { can = lit< tt; kind = refl } }, tt) }, (record { narrow = lit≤ tt; driven = ((k, refl, refl), record { condition = (r, refl, refl); has_one_bit = refl; init = record { can = (own, refl, refl); kind = refl } }, tt) }, (record { narrow = lit≤ tt; driven = record { can = lit< tt; kind = refl } }, (record { narrow = lit≤ tt; driven = record { can = lit< tt; kind = refl } }, (record { narrow = lit≤ tt; driven = record { can = (w, refl, refl); kind = refl } }, (record { narrow = lit≤ tt; driven = record { can = (i, refl, refl); kind = refl } }, tt)))))))))));
    ports_first = (refl, (refl, (refl, (refl, (refl, (refl, (refl, tt)))))));
    nodes = (record { narrow = lit≤ tt; below = lit< tt }, (record { reads = ((q, refl, refl), tt); has_type = refl }, (record { narrow = lit≤ tt; below = lit< tt }, (record { reads = (lit< tt, ((p, refl, refl), (lit< tt, tt))); has_type = (refl, refl, refl, refl) }, (record { reads = ((v, refl, refl), ((w, refl, refl), tt)); has_type = refl }, tt)))));
    state = state_of net.leaves;
    arrays = tt;
    readings = readings_of [] net.leaves (tt, (tt, (tt, (tt, (tt, (tt, (tt, (tt, (tt, (tt, (tt, tt)))))))))));
    pipes = pipes_of [] net.leaves (tt, (tt, (tt, (tt, (tt, (tt, (tt, (tt, (tt, (tt, (tt, tt)))))))))));
    array_state = no_arrays;
    few_words = lit≤ tt;
  }

pub returns : goal.returns
returns c = IfOk-weaker c.net.result _ _ (λ n e. subst IsNet (sym e) (rw (c.in_ok-nodes.ensures, c.in_ok-vec.ensures.items, c.register.ensures, c.register-2.ensures, c.register-3.ensures, c.register-4.ensures, c.leaf.ensures, c.leaf-2.ensures, c.leaf-3.ensures, c.leaf-4.ensures, c.node.ensures, c.node-2.ensures, c.node-3.ensures, c.node-4.ensures, c.new.ensures, c.new-2.ensures, c.new-3.ensures, c.new-4.ensures, c.new-5.ensures.items, c.new-6.ensures.items) (whole c.args.x c.args.m c.args.a c.args.b))) c.net.ensures
