-- A folded net is the net written anew.
use Rattle.std.proofs.Common.{◌≡◌, ℕ, ◌<◌, List, [], ◌∷◌, length, map, Bool, refl, sym, ap, subst, arith}
use Rattle.std.specs.Prelude.{slice_get, Option, Some, None, option_map}
use Rattle.std.specs.List.{AllByRecursion}
use Rattle.std.proofs.lemmas.List.{length-map}
use Rattle.std.proofs.lemmas.Option.{slice_get_within}
use Rattle.fir_base.specs.Ticks.{Tick}
use Rattle.fir_base.proofs.Elements.{all_there}
use Rattle.fir_bits.specs.declared.values.Num.{Num}
use Rattle.fir_net.specs.declared.array.Array.{Array}
use Rattle.fir_net.specs.declared.array.ArrayRead.{ArrayRead}
use Rattle.fir_net.specs.declared.array.ArrayWrite.{ArrayWrite}
use Rattle.fir_net.specs.declared.leaf.Leaf.{Leaf}
use Rattle.fir_net.specs.declared.leaf.Reset.{Reset}
use Rattle.fir_net.specs.declared.leaf.Role.{Role}
use Rattle.fir_net.specs.declared.leaf.Role.TheVariants as role
use Rattle.fir_net.specs.declared.net.FlatNet.{FlatNet}
use Rattle.fir_net.specs.declared.reads.Read.{Read}
use Rattle.fir_net.specs.working.IsNet.{CanBeDriven, CanBeReset, CanRead, IsAddressed, IsArray, IsArrayWrite, IsLeaf, IsNet, IsRole}
use Rattle.fir_net.specs.working.IsOrder.{IsOrder}
use Rattle.fir_net.specs.working.Laws.{NodesHaveTheirTypes, NodesHaveTheirValues}
use Rattle.fir_net.specs.working.Settled.{Settled, value_at}
use Rattle.fir_net.specs.working.Values.{at_width}
use Rattle.fir_equivalence.specs.working.Rewrites.{AreSameArrays, AreSameWrites, IsSameArrayRead, IsSameAt, IsSameLeaf, IsSameNext, IsSameNumber, IsSameOptionalReset, IsSameRole, Rewrites}
use Rattle.fir_fold.specs.working.FoldedNet.{folded_net}
use Rattle.fir_fold.specs.working.Standing.{array_read, leaf_read, reset_read, role_read, write_read, written_array}
use Rattle.fir_fold.specs.working.Walking.{IsWalked, Walking, read_by}
use Rattle.fir_fold.proofs.FoldedLeaves.{map_from}
use Rattle.fir_fold.proofs.FoldedNets.{all_done, can_of, whole_folded}
use Rattle.fir_fold.proofs.ReachedLeaves.{constant_inits}
use Rattle.fir_fold.proofs.SameValues.{agree}

map_itself : (ks : List ℕ) → map (λ k. k) ks ≡ ks
map_itself [] = refl
map_itself (k ∷ ks) = ap (λ (js : List ℕ). k ∷ js) (map_itself ks)

option_itself : (o : Option ℕ) → option_map (λ k. k) o ≡ o
option_itself None = refl
option_itself (Some k) = refl

module _ (nodes_values : NodesHaveTheirValues) (nodes_types : NodesHaveTheirTypes) (net : FlatNet) (order : List Read) (ordered : IsOrder net order) (whole : IsNet net)
    (w : Walking) (h : IsWalked net order (length order) w) where
  agrees : (r : Read) → CanRead net.leaves net.nodes r → (state : List ℕ) (tick : Tick) (env : ℕ → ℕ) (clock : ℕ → Option ℕ) → Settled net state tick env clock
      → value_at (folded_net net w) env (read_by w r) ≡ value_at net env r
  agrees r can state tick env clock settled =
      agree nodes_values nodes_types net order ordered whole w h state tick env clock settled (length order) r
      (all_done net order ordered whole w h r (can_of net order ordered whole w h r can)) can

  same_at : (width : ℕ) (r : Read) → CanRead net.leaves net.nodes r → IsSameAt net (folded_net net w) (λ k. k) width r (read_by w r)
  same_at width r can state tick env clock settled = ap (λ (v : Num). at_width v width) (agrees r can state tick env clock settled)

  same_number : (r : Read) → CanRead net.leaves net.nodes r → IsSameNumber net (folded_net net w) (λ k. k) r (read_by w r)
  same_number r can state tick env clock settled = ap (λ (v : Num). v.value.number) (agrees r can state tick env clock settled)

  same_reset : (signed : Bool) (width : ℕ) (r : Option Reset) → CanBeReset net.leaves net.nodes signed r → IsSameOptionalReset net (folded_net net w) (λ k. k) width r (option_map (reset_read (read_by w)) r)
  same_reset signed width None is = tt
  same_reset signed width (Some r) is = record { kind = refl; condition = same_number r.condition is.condition; init = same_at width r.init is.init.can }

  same_next : (signed : Bool) (width : ℕ) (r : Option Read) → CanBeDriven net.leaves net.nodes signed r → IsSameNext net (folded_net net w) (λ k. k) width r (option_map (read_by w) r)
  same_next signed width None is = tt
  same_next signed width (Some r) is = same_at width r is.can

  same_array_read : (r : ArrayRead) → IsAddressed net.leaves net.nodes r.address r.enable → IsSameArrayRead net (folded_net net w) (λ k. k) r (array_read (read_by w) r)
  same_array_read r is = record { array = refl; address = same_number r.address is.address; enable = same_number r.enable is.enable }

  same_role : (signed : Bool) (width : ℕ) (r : Role) → IsRole net.leaves net.nodes signed width r → IsSameRole net (folded_net net w) (λ k. k) width r (role_read (read_by w) r)
  same_role signed width role.Input is = tt
  same_role signed width role.Clock is = tt
  same_role signed width (role.Output r) is = same_at width r is.can
  same_role signed width (role.Wire r) is = same_at width r is.can
  same_role signed width (role.Register r) is = record { clock = refl; reset = same_reset signed width r.reset is.1; next = same_next signed width r.next is.2 }
  same_role signed width (role.Reading r) is = same_array_read r is
  same_role signed width (role.Pipe p) is = record { clock = refl; read = same_array_read p.read is.1; is_new = refl }
  same_role signed width (role.ClockOutput c) is = option_itself c
  same_role signed width (role.ClockWire c) is = option_itself c

  same_leaf : (l : Leaf) → IsLeaf net.leaves net.nodes l → IsSameLeaf net (folded_net net w) (λ k. k) l (leaf_read (read_by w) l)
  same_leaf l is = record { path = refl; signed = refl; width = refl; role = same_role l.signed l.width l.role is.driven }

  same_writes : (signed : Bool) (width : ℕ) (ws : List ArrayWrite) → AllByRecursion (IsArrayWrite net.leaves net.nodes signed width) ws
      → AreSameWrites net (folded_net net w) (λ k. k) width ws (map (write_read (read_by w)) ws)
  same_writes signed width [] is = tt
  same_writes signed width (x ∷ ws) is = (
    record {
      clock = refl;
      condition = same_number x.condition is.0.addressed.enable;
      address = same_number x.address is.0.addressed.address;
      given = same_at width x.given is.0.given;
    },
    same_writes signed width ws is.1,
  )

  same_arrays : (xs : List Array) → AllByRecursion (IsArray net.leaves net.nodes) xs → AreSameArrays net (folded_net net w) (λ k. k) xs (map (written_array (read_by w)) xs)
  same_arrays [] is = tt
  same_arrays (a ∷ xs) is = (
    record { path = refl; signed = refl; width = refl; words = refl; writes = same_writes a.signed a.width a.writes is.0.writes },
    same_arrays xs is.1,
  )

  pub rewrites : Rewrites net (folded_net net w) (λ k. k)
  rewrites = record {
    whole = whole_folded net order ordered whole w h;
    name = refl;
    leaves = λ k m at.
        let l = map_from (leaf_read (read_by w)) net.leaves k m at in
        (l.0, l.1, subst (IsSameLeaf net (folded_net net w) (λ j. j) l.0) (sym l.2) (same_leaf l.0 (all_there (IsLeaf net.leaves net.nodes) net.leaves whole.leaves k l.0 l.1)));
    once = λ j k a b e. e;
    ports = λ k l at is. (within k l at, refl);
    state = map_itself net.state;
    arrays = same_arrays net.arrays whole.arrays;
    array_order = refl;
    inits = constant_inits net order ordered whole w h;
  }
    where
      within : (k : ℕ) (l : Leaf) → slice_get net.leaves k ≡ Some l → k < length (map (leaf_read (read_by w)) net.leaves)
      within k l at =
          let low = slice_get_within net.leaves k l at in
          let long = length-map net.leaves (leaf_read (read_by w)) in
          omega (arith, low, long)
