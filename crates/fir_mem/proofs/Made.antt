-- What the code puts is a net with registers in the place of pipes, step by step.
use Rattle.std.proofs.Common.{◌≡◌, ℕ, zero, suc, ◌<◌, ◌≤◌, List, [], ◌∷◌, ◌++◌, length, Bool, true, false, Ok, refl, sym, ap, ◌∙◌, subst, arith, append-nil, length-append, unwrap_or, option_map, ◌⊎◌, inl, inr}
use Rattle.std.specs.Prelude.{slice_get, Option, Some, None}
use Rattle.std.specs.List.{AllByRecursion}
use Rattle.std.proofs.lemmas.Bool.{cases_eq, cases_lt, le-leb}
use Rattle.std.proofs.lemmas.Nat.{pow_pos}
use Rattle.std.proofs.lemmas.Option.{slice_get_within, same_Some}
use Rattle.fir_base.proofs.Elements.{all_there, there}
use Rattle.fir_base.proofs.Writes.{push_end, push_left, write_same}
use Rattle.fir_bits.specs.Values.{IsBitVector}
use Rattle.fir_bits.specs.Forms.{no_type}
use Rattle.fir_bits.specs.working.Types.{typed}
use Rattle.fir_bits.specs.declared.operators.PrimOp.TheVariants.{And, Eq, Lt}
use Rattle.fir_bits.specs.declared.types.NumTy.{NumTy}
use Rattle.fir_bits.specs.declared.values.Num.{Num}
use Rattle.fir_net.specs.declared.array.Array.{Array}
use Rattle.fir_net.specs.declared.array.ArrayRead.{ArrayRead}
use Rattle.fir_net.specs.declared.array.ArrayWrite.{ArrayWrite}
use Rattle.fir_net.specs.declared.array.Pipe.{Pipe}
use Rattle.fir_net.specs.declared.leaf.Leaf.{Leaf}
use Rattle.fir_net.specs.declared.leaf.Role.{Role}
use Rattle.fir_net.specs.declared.leaf.Role.TheVariants as role
use Rattle.fir_net.specs.declared.node.Node.{Node}
use Rattle.fir_net.specs.declared.net.FlatNet.{FlatNet}
use Rattle.fir_net.specs.declared.reads.Read.{Read}
use Rattle.fir_net.specs.declared.reads.Read.TheVariants as read
use Rattle.fir_net.specs.working.Dependence.{IsOf}
use Rattle.fir_net.specs.working.IsNet.{CanRead, IsAddressed, IsArray, IsArrayWrite, IsChoice, IsLeaf, IsNet, IsNode, IsReadOf, IsRole, node_type, one_bit, read_type}
use Rattle.fir_net.specs.working.IsOrder.{IsOrder}
use Rattle.fir_net.specs.working.Laws.{NodesHaveTheirTypes}
use Rattle.fir_net.specs.working.Settled.{value_at}
use Rattle.fir_net.specs.working.Values.{type_of_leaf}
use Rattle.fir_mem.specs.declared.clocked_writes.PortWrite.{PortWrite}
use Rattle.fir_mem.specs.declared.clocked_writes.PortWrites.{PortWrites}
use Rattle.fir_mem.specs.working.Built.{Built, bit, choice, choice_read, choices_read, guard_read, is_read_read, left_read, literal, lower_first, lower_leaf, lower_pipe, lower_role, next_leaf, next_node, put_choice, put_choices, put_end, put_guard, put_here, put_is_read, put_leaf, put_left, put_node, put_taken, put_within, put_word, put_written, put_zero, reading_of, register_of, taken_read, zero_of}
use Rattle.fir_mem.specs.working.ClockedWrites.{AreClocked, AreClockedArrays, IsClockedArray, IsEnd, kept, none, passed}
use Rattle.fir_mem.proofs.Building.{AtNode, Building, Chosen, Guarded, IsHidden, Later, Takes, at_later, chosen_later, itself, later_twice, leaf_building, net_grown, net_of, new, node_at, node_building, node_later, nothing, old, one, same_later, set_building}
use Rattle.fir_mem.proofs.Clocked.{writes_there}
use Rattle.fir_mem.proofs.Growth.{can_read, same_type, type_there}
use Rattle.fir_mem.proofs.Steps.{keeps_first, keeps_leaf_others, pipe_leaves, same_left}

-- ---- types of the operations
typed_same : (s t : Bool) (w v : ℕ) → s ≡ false → t ≡ false → w ≤ 128 → v ≤ 128 → typed Eq (record { signed = s; width = w } ∷ record { signed = t; width = v } ∷ []) [] ≡ Ok one_bit
typed_same s t w v e f h g =
    let a = le-leb w 128 h in
    let b = le-leb v 128 g in
    rw (e, f, a, b) refl

typed_less : (s t : Bool) (w v : ℕ) → s ≡ false → t ≡ false → w ≤ 128 → v ≤ 128 → typed Lt (record { signed = s; width = w } ∷ record { signed = t; width = v } ∷ []) [] ≡ Ok one_bit
typed_less s t w v e f h g =
    let a = le-leb w 128 h in
    let b = le-leb v 128 g in
    rw (e, f, a, b) refl

typed_both : (x y : NumTy) → x ≡ one_bit → y ≡ one_bit → typed And (x ∷ y ∷ []) [] ≡ Ok one_bit
typed_both x y e f = rw (e, f) refl

-- what can be read, of a type
record Reads (b : Built) (r : Read) (t : NumTy) : Type 0 where
  can : CanRead b.leaves b.nodes r
  is : read_type b.leaves b.nodes r ≡ t

same_bit : (b : Built) (x y : Read) (t u : NumTy) → Reads b x t → Reads b y u → t.signed ≡ false → u.signed ≡ false → t.width ≤ 128 → u.width ≤ 128 → IsNode b.leaves b.nodes (bit Eq x y)
same_bit b x y t u p q e f h g = record {
  reads = (p.can, (q.can, tt));
  has_type =
      ap (λ (a : NumTy). typed Eq (a ∷ read_type b.leaves b.nodes y ∷ []) []) p.is ∙ ap (λ (a : NumTy). typed Eq (t ∷ a ∷ []) []) q.is
      ∙ typed_same t.signed u.signed t.width u.width e f h g;
}

less_bit : (b : Built) (x y : Read) (t u : NumTy) → Reads b x t → Reads b y u → t.signed ≡ false → u.signed ≡ false → t.width ≤ 128 → u.width ≤ 128 → IsNode b.leaves b.nodes (bit Lt x y)
less_bit b x y t u p q e f h g = record {
  reads = (p.can, (q.can, tt));
  has_type =
      ap (λ (a : NumTy). typed Lt (a ∷ read_type b.leaves b.nodes y ∷ []) []) p.is ∙ ap (λ (a : NumTy). typed Lt (t ∷ a ∷ []) []) q.is
      ∙ typed_less t.signed u.signed t.width u.width e f h g;
}

both_bit : (b : Built) (x y : Read) → Reads b x one_bit → Reads b y one_bit → IsNode b.leaves b.nodes (bit And x y)
both_bit b x y p q = record {
  reads = (p.can, (q.can, tt));
  has_type = typed_both (read_type b.leaves b.nodes x) (read_type b.leaves b.nodes y) p.is q.is;
}

choice_node : (b : Built) (t : NumTy) (c x y : Read) → Reads b c one_bit → Reads b x t → Reads b y t → IsNode b.leaves b.nodes (choice t c x y)
choice_node b t c x y p q r = record {
  reads = (p.can, (q.can, (r.can, tt)));
  has_type = types (read_type b.leaves b.nodes c) (read_type b.leaves b.nodes x) (read_type b.leaves b.nodes y) p.is q.is r.is;
}
  where
    types : (u v w : NumTy) → u ≡ one_bit → v ≡ t → w ≡ t → IsChoice t (u ∷ v ∷ w ∷ [])
    types u v w e f g = (e, ap (λ (a : NumTy). a.signed) f, ap (λ (a : NumTy). a.signed) g, rw (f, g) (omega arith))

node_read : (b : Built) (r : Read) (n : Node) → AtNode b.nodes r n → Reads b r (node_type n)
node_read b r n h = record {
  can = subst (CanRead b.leaves b.nodes) (sym h.is) (slice_get_within b.nodes h.number n h.at);
  is = ap (read_type b.leaves b.nodes) h.is ∙ ap (λ (o : Option Node). unwrap_or (option_map node_type o) no_type) h.at;
}

later_read : (net : FlatNet) (b c : Built) → Later net b c → (r : Read) (t : NumTy) → Reads b r t → Reads c r t
later_read net b c g r t h = record {
  can = can_read b.leaves b.nodes c.leaves c.nodes g.grown r h.can;
  is = same_type b.leaves b.nodes c.leaves c.nodes g.grown r h.can ∙ h.is;
}

-- what the code begins with
abbrev pub start : FlatNet → Built
start net = record { leaves = net.leaves; nodes = net.nodes; entries = [] }

module _ (nodes_types : NodesHaveTheirTypes) (net : FlatNet) (order : List Read) (whole : IsNet net) where
  -- what the net can read, in any state
  old_read : (c : Built) → Building net order c → (r : Read) → CanRead net.leaves net.nodes r → Reads c r (read_type net.leaves net.nodes r)
  old_read c B r can =
      let g = net_grown net order c B in
      record { can = can_read net.leaves net.nodes c.leaves c.nodes g r can; is = same_type net.leaves net.nodes c.leaves c.nodes g r can }

  narrow : (r : Read) → CanRead net.leaves net.nodes r → (read_type net.leaves net.nodes r).width ≤ 128
  narrow r can =
      let h = nodes_types net (λ k. 0) r whole (record { each = λ k l at plain. pow_pos l.width }) can in
      let same : (value_at net (λ k. 0) r).value.width ≡ (read_type net.leaves net.nodes r).width = ap (λ (t : NumTy). t.width) h.is in
      omega (arith, same, h.bits.narrow)

  -- a write that fits a type
  record Fits (t : NumTy) (w : PortWrite) : Type 0 where
    addressed : IsAddressed net.leaves net.nodes w.address w.condition
    given : CanRead net.leaves net.nodes w.given
    has_type : read_type net.leaves net.nodes w.given ≡ t

  fits_all : (t : NumTy) (ws : List ArrayWrite) (ps : List PortWrite) → AreClocked net ws ps → AllByRecursion (IsArrayWrite net.leaves net.nodes t.signed t.width) ws → AllByRecursion (Fits t) ps
  fits_all t _ _ none h = tt
  fits_all t _ _ (passed w ws ps bare more) h = fits_all t ws ps more h.1
  fits_all t _ _ (kept n w ws ps root more) h =
      (record { addressed = h.0.addressed; given = h.0.given; has_type = h.0.has_type }, fits_all t ws ps more h.1)

  -- ---- choices
  record Choices (b c : Built) (address : Read) (t : NumTy) (ws : List PortWrite) (r out : Read) : Type 0 where
    building : Building net order c
    later : Later net b c
    chosen : Chosen c.nodes address t ws r out
    reads : Reads c out t

  choices : (address : Read) → CanRead net.leaves net.nodes address → (read_type net.leaves net.nodes address).signed ≡ false → (t : NumTy) (ws : List PortWrite) → AllByRecursion (Fits t) ws
      → (b : Built) → Building net order b → (r : Read) → Reads b r t → Choices b (put_choices b address t ws r) address t ws r (choices_read b address t ws r)
  unfolding put_choices choices_read put_choice put_written put_here choice_read
  choices address can plain t [] fits b B r is = record { building = B; later = same_later net b; chosen = nothing r; reads = is }
  choices address can plain t (w ∷ ws) fits b B r is =
      let a = fits.0.addressed in
      let first = bit Eq w.address address in
      let is_first =
      same_bit b w.address address (read_type net.leaves net.nodes w.address) (read_type net.leaves net.nodes address) (old_read b B w.address a.address) (old_read b B address can) a.unsigned plain
      (narrow w.address a.address) (narrow address can) in
      let b1 = put_node b first in
      let B1 = node_building net order b B first is_first in
      let l1 = node_later net order b B first is_first in
      let at1 = node_at net order b B first is_first in
      let here = next_node b in
      let second = bit And w.condition here in
      let enable : Reads b1 w.condition one_bit = record { can = (old_read b1 B1 w.condition a.enable).can; is = (old_read b1 B1 w.condition a.enable).is ∙ a.has_one_bit } in
      let is_second = both_bit b1 w.condition here enable (node_read b1 here first at1) in
      let b2 = put_node b1 second in
      let B2 = node_building net order b1 B1 second is_second in
      let l2 = node_later net order b1 B1 second is_second in
      let at2 = node_at net order b1 B1 second is_second in
      let written = next_node b1 in
      let third = choice t written w.given r in
      let given : Reads b2 w.given t = record { can = (old_read b2 B2 w.given fits.0.given).can; is = (old_read b2 B2 w.given fits.0.given).is ∙ fits.0.has_type } in
      let l02 = later_twice net b b1 b2 l1 l2 in
      let is_third = choice_node b2 t written w.given r (node_read b2 written second at2) given (later_read net b b2 l02 r t is) in
      let b3 = put_node b2 third in
      let B3 = node_building net order b2 B2 third is_third in
      let l3 = node_later net order b2 B2 third is_third in
      let at3 = node_at net order b2 B2 third is_third in
      let mid = next_node b2 in
      let rest = choices address can plain t ws fits.1 b3 B3 mid (node_read b3 mid third at3) in
      let c = put_choices b3 address t ws mid in
      let l13 = later_twice net b1 b2 b3 l2 l3 in
      let l1c = later_twice net b1 b3 c l13 rest.later in
      let l2c = later_twice net b2 b3 c l3 rest.later in
      record {
        building = rest.building;
        later = later_twice net b b2 c l02 l2c;
        chosen =
            one w ws r here written mid (choices_read b3 address t ws mid) (at_later net b1 c l1c here first at1) (at_later net b2 c l2c written second at2)
            (at_later net b3 c rest.later mid third at3) rest.chosen;
        reads = rest.reads;
      }

  -- ---- the last choice
  record Guards (b c : Built) (r : ArrayRead) (t : NumTy) (end : Num) (taken out : Read) : Type 0 where
    building : Building net order c
    later : Later net b c
    guarded : Guarded c.nodes r t end taken out
    reads : Reads c out t

  guards : (r : ArrayRead) → IsAddressed net.leaves net.nodes r.address r.enable → (t : NumTy) → t.width ≤ 128 → (words : ℕ) (end : Num) → IsEnd words end
      → (b : Built) → Building net order b → (taken : Read) → Reads b taken t → Guards b (put_guard b r t end taken) r t end taken (guard_read b r t end)
  unfolding put_guard put_zero put_is_read put_within put_end guard_read is_read_read
  guards r a t low words end has b B taken is =
      let n1 = literal end in
      let b1 = put_node b n1 in
      let B1 = node_building net order b B n1 has.whole in
      let l1 = node_later net order b B n1 has.whole in
      let at1 = node_at net order b B n1 has.whole in
      let last = next_node b in
      let n2 = bit Lt r.address last in
      let is2 =
      less_bit b1 r.address last (read_type net.leaves net.nodes r.address) (node_type n1) (old_read b1 B1 r.address a.address) (node_read b1 last n1 at1) a.unsigned has.unsigned
      (narrow r.address a.address) has.whole.narrow in
      let b2 = put_node b1 n2 in
      let B2 = node_building net order b1 B1 n2 is2 in
      let l2 = node_later net order b1 B1 n2 is2 in
      let at2 = node_at net order b1 B1 n2 is2 in
      let within = next_node b1 in
      let n3 = bit And r.enable within in
      let enable : Reads b2 r.enable one_bit = record { can = (old_read b2 B2 r.enable a.enable).can; is = (old_read b2 B2 r.enable a.enable).is ∙ a.has_one_bit } in
      let is3 = both_bit b2 r.enable within enable (node_read b2 within n2 at2) in
      let b3 = put_node b2 n3 in
      let B3 = node_building net order b2 B2 n3 is3 in
      let l3 = node_later net order b2 B2 n3 is3 in
      let at3 = node_at net order b2 B2 n3 is3 in
      let reads = next_node b2 in
      let n4 = literal (zero_of t) in
      let is4 : IsBitVector (zero_of t).value = record { narrow = low; below = pow_pos t.width } in
      let b4 = put_node b3 n4 in
      let B4 = node_building net order b3 B3 n4 is4 in
      let l4 = node_later net order b3 B3 n4 is4 in
      let at4 = node_at net order b3 B3 n4 is4 in
      let zeroes = next_node b3 in
      let l12 = later_twice net b b1 b2 l1 l2 in
      let l13 = later_twice net b b2 b3 l12 l3 in
      let l14 = later_twice net b b3 b4 l13 l4 in
      let n5 = choice t reads taken zeroes in
      let is5 = choice_node b4 t reads taken zeroes (later_read net b3 b4 l4 reads one_bit (node_read b3 reads n3 at3)) (later_read net b b4 l14 taken t is) (node_read b4 zeroes n4 at4) in
      let b5 = put_node b4 n5 in
      let B5 = node_building net order b4 B4 n5 is5 in
      let l5 = node_later net order b4 B4 n5 is5 in
      let at5 = node_at net order b4 B4 n5 is5 in
      let l45 = later_twice net b3 b4 b5 l4 l5 in
      let l35 = later_twice net b2 b3 b5 l3 l45 in
      let l25 = later_twice net b1 b2 b5 l2 l35 in
      record {
        building = B5;
        later = later_twice net b b4 b5 l14 l5;
        guarded = record {
          last = last;
          within = within;
          is_read = reads;
          none = zeroes;
          at_last = at_later net b1 b5 l25 last n1 at1;
          at_within = at_later net b2 b5 l35 within n2 at2;
          at_read = at_later net b3 b5 l45 reads n3 at3;
          at_none = at_later net b4 b5 l5 zeroes n4 at4;
          at_out = at5;
        };
        reads = node_read b5 (next_node b4) n5 at5;
      }

  -- ---- all leaves
  pub start_building : IsOrder net order → Building net order (start net)
  start_building ordered = record {
    kept = λ k l e. (l, e, itself);
    hidden = λ k m e high. let low : k < length net.leaves = slice_get_within net.leaves k m e in absurd (omega (arith, low, high));
    more = [];
    nodes = sym (append-nil net.nodes);
    are_nodes = tt;
    ordered = subst (IsOrder net) (sym (append-nil order)) ordered;
  }

  -- ---- one pipe
  module _ (writes : List PortWrites) (clocked : AreClockedArrays net net.arrays writes) where
    record Taken (b c : Built) (l : Leaf) (p : Pipe) (next : Read) : Type 0 where
      building : Building net order c
      takes : Takes net c.leaves c.nodes l p next
      can : CanRead c.leaves c.nodes next
      same : c.leaves ≡ b.leaves

    array_writes : (a : Array) (k : ℕ) → slice_get net.arrays k ≡ Some a → AllByRecursion (IsArrayWrite net.leaves net.nodes a.signed a.width) a.writes
    array_writes a k at = (all_there (IsArray net.leaves net.nodes) net.arrays whole.arrays k a at).writes

    not_shorter : (b : Built) → Building net order b → length net.leaves ≤ length b.leaves
    not_shorter b B = by (cases_lt (length b.leaves) (length net.leaves))
      where
        by : (length b.leaves < length net.leaves) ⊎ (length net.leaves ≤ length b.leaves) → length net.leaves ≤ length b.leaves
        by (inr h) = h
        by (inl h) =
            let l = there net.leaves (length b.leaves) h in
            let m = B.kept (length b.leaves) l.0 l.1 in
            let low : length b.leaves < length b.leaves = slice_get_within b.leaves (length b.leaves) m.0 m.1 in
            absurd (omega (arith, low))

    module _ (l : Leaf) (p : Pipe) (k : ℕ) (at : slice_get net.leaves k ≡ Some l) (is : l.role ≡ role.Pipe p) where
      own : IsLeaf net.leaves net.nodes l
      own = all_there (IsLeaf net.leaves net.nodes) net.leaves whole.leaves k l at

      address_is : IsAddressed net.leaves net.nodes p.read.address p.read.enable
      address_is = (subst (IsRole net.leaves net.nodes l.signed l.width) is own.driven).1

      of : IsReadOf net.arrays l p.read
      of = whole.pipes k l p at is

      is_hidden : IsHidden net (reading_of l p.read)
      is_hidden = record { number = k; leaf = l; pipe = p; at = at; is_pipe = is; is = refl }

      of_built : (b : Built) → Building net order b → (r : Read) → CanRead net.leaves net.nodes r → IsOf (net_of net b) r
      of_built b B (read.Leaf j) can =
          let x = (old_read b B (read.Leaf j) can).can in
          slice_get_within b.leaves j x.0 x.1
      of_built b B (read.Node j) can = (old_read b B (read.Node j) can).can

      reads_old : (b : Built) → Building net order b → (place : ℕ) (w : Read) → slice_get (p.read.address ∷ p.read.enable ∷ []) place ≡ Some w → IsOf (net_of net b) w
      reads_old b B zero w e = subst (IsOf (net_of net b)) (same_Some p.read.address w e) (of_built b B p.read.address address_is.address)
      reads_old b B (suc zero) w e = subst (IsOf (net_of net b)) (same_Some p.read.enable w e) (of_built b B p.read.enable address_is.enable)
      reads_old b B (suc (suc n)) w e = cc

      module _ (b : Built) (B : Building net order b) where
        abbrev after : Built
        after = put_leaf b (reading_of l p.read)

        word_building : Building net order after
        word_building = leaf_building net order b B (reading_of l p.read) is_hidden (reads_old b B)

        word_at : slice_get after.leaves (length b.leaves) ≡ Some (reading_of l p.read)
        word_at = push_end b.leaves (reading_of l p.read)

        word_reads : Reads after (next_leaf b) (type_of_leaf l)
        word_reads = record {
          can = (reading_of l p.read, word_at, refl);
          is = type_there after.leaves (length b.leaves) (reading_of l p.read) word_at;
        }

        high : length net.leaves ≤ length b.leaves
        high = not_shorter b B

        taken_by : (is_new : Bool) (o : Option PortWrites) → p.is_new ≡ is_new → slice_get writes p.read.array ≡ o
            → Taken after (put_taken after is_new p.read (type_of_leaf l) o (next_leaf b)) l p (taken_read after is_new p.read (type_of_leaf l) o (next_leaf b))
        unfolding put_taken taken_read put_left left_read
        taken_by is_new None e f =
            let found = writes_there net net.arrays writes clocked p.read.array of.0 of.1 in
            let clash : None ≡ Some found.0 = sym f ∙ found.1 in
            absurd (none_some found.0 clash)
          where
            none_some : (x : PortWrites) → None ≡ Some x → ⊥
            none_some x e = cc
        taken_by false (Some ws) e f =
            record { building = word_building; takes = old (length b.leaves) high word_at e; can = word_reads.can; same = refl }
        taken_by true (Some ws) e f =
            let found = writes_there net net.arrays writes clocked p.read.array of.0 of.1 in
            let same : found.0 ≡ ws = same_Some found.0 ws (sym found.1 ∙ f) in
            let array : IsClockedArray net of.0 ws = subst (IsClockedArray net of.0) same found.2 in
            let types : AllByRecursion (IsArrayWrite net.leaves net.nodes l.signed l.width) of.0.writes =
            subst (λ (w : ℕ). AllByRecursion (IsArrayWrite net.leaves net.nodes l.signed w) of.0.writes) of.2
            (subst (λ (s : Bool). AllByRecursion (IsArrayWrite net.leaves net.nodes s of.0.width) of.0.writes) of.3 (array_writes of.0 p.read.array of.1)) in
            let ty = type_of_leaf l in
            let fits = fits_all ty of.0.writes ws.writes array.writes types in
            let word = next_leaf b in
            let x = choices p.read.address address_is.address address_is.unsigned ty ws.writes fits after word_building word word_reads in
            let c = put_choices after p.read.address ty ws.writes word in
            let mid = choices_read after p.read.address ty ws.writes word in
            let y = guards p.read address_is ty own.narrow of.0.words ws.end array.end c x.building mid x.reads in
            let d = put_guard c p.read ty ws.end mid in
            let out = guard_read c p.read ty ws.end in
            let later = later_twice net after c d x.later y.later in
            record {
              building = y.building;
              takes =
                  new (length b.leaves) of.0 ws mid out high (later.high (length b.leaves) (reading_of l p.read) high word_at) e of.1 array
                  (chosen_later net c d y.later p.read.address ty ws.writes word mid x.chosen) y.guarded;
              can = y.reads.can;
              same = same_left after p.read ty ws word;
            }

        lowered_building : slice_get b.leaves k ≡ Some l → Building net order (lower_pipe writes b k l p)
        unfolding lower_pipe put_word
        lowered_building here =
            let t = taken_by p.is_new (slice_get writes p.read.array) refl refl in
            let c = put_taken after p.is_new p.read (type_of_leaf l) (slice_get writes p.read.array) (next_leaf b) in
            let next = taken_read after p.is_new p.read (type_of_leaf l) (slice_get writes p.read.array) (next_leaf b) in
            let still : slice_get c.leaves k ≡ Some l = ap (λ (ls : List Leaf). slice_get ls k) t.same ∙ push_left b.leaves (reading_of l p.read ∷ []) k l here in
            set_building net order c t.building k l p next at still is t.can t.takes

    -- ---- one leaf
    record Turned (c : Built) (k : ℕ) : Type 0 where
      building : Building net order c
      none : (m : Leaf) (p : Pipe) → slice_get c.leaves k ≡ Some m → m.role ≡ role.Pipe p → ⊥

    module _ (b : Built) (B : Building net order b) (k : ℕ) (l : Leaf) (at : slice_get net.leaves k ≡ Some l) (here : slice_get b.leaves k ≡ Some l) where
      no_pipe : (r : Role) → l.role ≡ r → ((p : Pipe) → r ≡ role.Pipe p → ⊥) → Turned b k
      no_pipe r is h = record {
        building = B;
        none = λ m p e f. h p (sym is ∙ ap (λ (x : Leaf). x.role) (same_Some l m (sym here ∙ e)) ∙ f);
      }

      turned : (r : Role) → l.role ≡ r → Turned (lower_role writes b k l r) k
      unfolding lower_role
      turned (role.Pipe p) is = record {
        building = lowered_building l p k at is b B here;
        none = λ m q e f. gone m q e f;
      }
        where
          next : Read
          next = taken_read (put_word b l p.read) p.is_new p.read (type_of_leaf l) (slice_get writes p.read.array) (next_leaf b)

          longer : k < length (b.leaves ++ reading_of l p.read ∷ [])
          longer = let low : k < length b.leaves = slice_get_within b.leaves k l here in simp length-append (omega (arith, low))

          gone : (m : Leaf) (q : Pipe) → slice_get (lower_pipe writes b k l p).leaves k ≡ Some m → m.role ≡ role.Pipe q → ⊥
          gone m q e f =
              let is_register : register_of l p next ≡ m =
              same_Some (register_of l p next) m (sym (write_same (b.leaves ++ reading_of l p.read ∷ []) k (register_of l p next) longer)
              ∙ ap (λ (ls : List Leaf). slice_get ls k) (sym (pipe_leaves writes b k l p)) ∙ e) in
              let clash : (register_of l p next).role ≡ role.Pipe q = ap (λ (x : Leaf). x.role) is_register ∙ f in
              cc
      turned role.Input is = no_pipe role.Input is (λ p e. cc)
      turned role.Clock is = no_pipe role.Clock is (λ p e. cc)
      turned (role.Output r) is = no_pipe (role.Output r) is (λ p e. cc)
      turned (role.Wire r) is = no_pipe (role.Wire r) is (λ p e. cc)
      turned (role.Register r) is = no_pipe (role.Register r) is (λ p e. cc)
      turned (role.Reading r) is = no_pipe (role.Reading r) is (λ p e. cc)
      turned (role.ClockOutput r) is = no_pipe (role.ClockOutput r) is (λ p e. cc)
      turned (role.ClockWire r) is = no_pipe (role.ClockWire r) is (λ p e. cc)

    pub record Made (c : Built) (n : ℕ) : Type 0 where
      pub building : Building net order c
      pub none : (k : ℕ) (m : Leaf) (p : Pipe) → k < n → slice_get c.leaves k ≡ Some m → m.role ≡ role.Pipe p → ⊥

    pub made : IsOrder net order → (n : ℕ) → n ≤ length net.leaves → Made (lower_first writes (start net) n) n
    unfolding lower_first lower_leaf
    made ordered zero h = record { building = start_building ordered; none = λ k m p low e f. absurd (omega (arith, low)) }
    made ordered (suc n) h =
        let b = lower_first writes (start net) n in
        let so = made ordered n (omega (arith, h)) in
        let l = there net.leaves n (omega (arith, h)) in
        let here : slice_get b.leaves n ≡ Some l.0 = (keeps_first writes (start net) n).others n l.0 (omega arith) l.1 in
        let t = turned b so.building n l.0 l.1 here l.0.role refl in
        let same : lower_leaf writes b n (slice_get b.leaves n) ≡ lower_role writes b n l.0 l.0.role = ap (lower_leaf writes b n) here in
        record {
          building = subst (Building net order) (sym same) t.building;
          none = λ k m p low e f. none_by b so l.0 here t same k m p low e f (cases_eq k n) (cases_lt k n);
        }
      where
        none_by : (b : Built) → Made b n → (l : Leaf) → slice_get b.leaves n ≡ Some l → Turned (lower_role writes b n l l.role) n → lower_leaf writes b n (slice_get b.leaves n) ≡ lower_role writes b n l l.role
            → (k : ℕ) (m : Leaf) (p : Pipe) → k < suc n → slice_get (lower_leaf writes b n (slice_get b.leaves n)).leaves k ≡ Some m → m.role ≡ role.Pipe p → (k ≡ n) ⊎ (k ≡ n → ⊥) → (k < n) ⊎ (n ≤ k) → ⊥
        none_by b so l here t same k m p low e f (inl s) c =
            t.none m p (ap (λ (c : Built). slice_get c.leaves n) (sym same) ∙ ap (slice_get (lower_leaf writes b n (slice_get b.leaves n)).leaves) (sym s) ∙ e) f
        none_by b so l here t same k m p low e f (inr differs) (inl lower) =
            let long = not_shorter b so.building in
            let x = there b.leaves k (omega (arith, long, lower, h)) in
            let kept_at = keeps_leaf_others writes b n k x.0 differs x.1 in
            so.none k x.0 p lower x.1 (ap (λ (y : Leaf). y.role) (same_Some x.0 m (sym kept_at ∙ e)) ∙ f)
        none_by b so l here t same k m p low e f (inr differs) (inr higher) = absurd (differs (omega (arith, low, higher)))
