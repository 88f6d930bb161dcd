-- What leaves and nodes are worth among held numbers has their widths.
use Rattle.std.proofs.Common.{◌≡◌, ℕ, ◌^◌, ◌<◌, arith, List, Bool, true, false, if◌then◌else◌, refl, sym, ap, ◌∙◌, subst}
use Rattle.std.specs.Prelude.{slice_get, Option, Some, None, unwrap_or, option_map}
use Rattle.std.proofs.lemmas.Nat.{pow_pos}
use Rattle.std.proofs.lemmas.Option.{slice_get_within}
use Rattle.fir_base.proofs.Elements.{there, all_there}
use Rattle.fir_base.specs.Ticks.{FitEach}
use Rattle.fir_bits.specs.working.Laws.{HasItsType}
use Rattle.fir_bits.specs.Forms.{no_type}
use Rattle.fir_bits.specs.declared.types.NumTy.{NumTy}
use Rattle.fir_bits.specs.declared.values.Num.{Num}
use Rattle.fir_net.specs.declared.array.Array.{Array}
use Rattle.fir_net.specs.declared.array.ArrayRead.{ArrayRead}
use Rattle.fir_net.specs.declared.reads.Read.{Read}
use Rattle.fir_net.specs.declared.reads.Read.TheVariants as read
use Rattle.fir_net.specs.declared.leaf.ResetKind.{ResetKind}
use Rattle.fir_net.specs.declared.leaf.ResetKind.TheVariants.{Synchronous, Asynchronous}
use Rattle.fir_net.specs.declared.leaf.Reset.{Reset}
use Rattle.fir_net.specs.declared.leaf.Role.{Role}
use Rattle.fir_net.specs.declared.leaf.Role.TheVariants as role
use Rattle.fir_net.specs.declared.leaf.Leaf.{Leaf}
use Rattle.fir_net.specs.declared.node.Node.{Node}
use Rattle.fir_net.specs.declared.net.FlatNet.{FlatNet}
use Rattle.fir_net.specs.working.Arrays.{begin_of, word_in, word_width, words_of}
use Rattle.fir_net.specs.working.Dependence.{IsOf}
use Rattle.fir_net.specs.working.Values.{at_width, type_of_leaf}
use Rattle.fir_net.specs.working.IsNet.{node_type, CanRead, CanBeReset, IsLeaf, IsNet, IsReadOf, IsRole}
use Rattle.fir_net.specs.working.Laws.{NodesHaveTheirTypes}
use Rattle.fir_net.specs.working.Settled.{shape}
use Rattle.fir_net.proofs.ArrayWords.{word_fits}
use Rattle.fir_net.proofs.WholeValues.{type_at}
use Rattle.fir_work.specs.working.Numbers.{number_at, type_read, value_in}
use Rattle.fir_work.proofs.HeldTypes.{one_below, read_below, node_is}
use Rattle.fir_work.specs.working.NodeValues.{held_node, held_node_at}
use Rattle.fir_work.specs.working.Held.{IsHeld}
use Rattle.fir_tick.specs.working.Settling.{is_one, held_under, held_register, held_is_read, held_word, held_role, held_leaf_at, worth}

module _ (has : HasItsType) (types : NodesHaveTheirTypes) (net : FlatNet) (whole : IsNet net) (state : List ℕ) (fits : FitEach (shape net).state state) (ns : List ℕ) (held : IsHeld net ns) where
  abbrev value : Read → Num
  value = value_in net ns

  -- what a leaf takes has its width
  under_below : (w : ℕ) (kind : ResetKind) (c i : Read) (now : ℕ) → CanRead net.leaves net.nodes i → now < 2 ^ w → held_under value w kind c i now < 2 ^ w
  under_below w Synchronous c i now can h = h
  under_below w Asynchronous c i now can h = one_below (is_one (value c)) (at_width (value i) w) now w (read_below has types net whole ns held w i can) h

  register_below : (w : ℕ) (signed : Bool) (o : Option Reset) (now : ℕ) → CanBeReset net.leaves net.nodes signed o → now < 2 ^ w → held_register value w o now < 2 ^ w
  register_below w signed None now can h = h
  register_below w signed (Some d) now can h = under_below w d.kind d.condition d.init now can.init.can h

  word_below : (l : Leaf) (r : ArrayRead) → IsReadOf net.arrays l r → held_word net state value r < 2 ^ l.width
  word_below l r of = go (held_is_read net value r) refl
    where
      number : ℕ
      number = (value r.address).value.number

      wide : word_width net.arrays r.array ≡ l.width
      wide = ap (λ (o : Option Array). unwrap_or (option_map (λ (a : Array). a.width) o) 0) of.1 ∙ of.2

      go : (b : Bool) → held_is_read net value r ≡ b → (if b then word_in state (begin_of net r.array) number else 0) < 2 ^ l.width
      go false e = pow_pos l.width
      go true e =
          let within : number < words_of net.arrays r.array = grind arith in
          subst (λ (n : ℕ). word_in state (begin_of net r.array) number < 2 ^ n) wide (word_fits net state fits r.array number within)

  role_below : (k : ℕ) (l : Leaf) (r : Role) (now : ℕ) → slice_get net.leaves k ≡ Some l → l.role ≡ r → IsRole net.leaves net.nodes l.signed l.width r → now < 2 ^ l.width → held_role net state value l.width now r < 2 ^ l.width
  role_below k l role.Input now at eq is h = h
  role_below k l role.Clock now at eq is h = h
  role_below k l (role.Output r) now at eq is h = read_below has types net whole ns held l.width r is.can
  role_below k l (role.Wire r) now at eq is h = read_below has types net whole ns held l.width r is.can
  role_below k l (role.Register d) now at eq is h = register_below l.width l.signed d.reset now is.1 h
  role_below k l (role.Reading r) now at eq is h = word_below l r (whole.readings k l r at eq)
  role_below k l (role.Pipe p) now at eq is h = h
  role_below k l (role.ClockOutput c) now at eq is h = h
  role_below k l (role.ClockWire c) now at eq is h = h

  leaf_below : (k : ℕ) (l : Leaf) → slice_get net.leaves k ≡ Some l → worth net state ns value (read.Leaf k) < 2 ^ (type_read net (read.Leaf k)).width
  leaf_below k l at =
      let is = all_there (IsLeaf net.leaves net.nodes) net.leaves whole.leaves k l at in
      let now = subst (λ (t : NumTy). number_at ns k < 2 ^ t.width) (type_at net.leaves k l at) (held.fits (read.Leaf k) (slice_get_within net.leaves k l at)) in
      subst (λ (o : Option Leaf). held_leaf_at net state value (number_at ns k) o < 2 ^ (unwrap_or (option_map type_of_leaf o) no_type).width) (sym at) (role_below k l l.role (number_at ns k) at refl is.driven now)

  node_below : (k : ℕ) (n : Node) → slice_get net.nodes k ≡ Some n → worth net state ns value (read.Node k) < 2 ^ (type_read net (read.Node k)).width
  node_below k n at =
      let is = node_is has types net whole ns held k n at in
      let below = subst (λ (t : NumTy). (held_node value n).value.number < 2 ^ t.width) is.is is.bits.below in
      subst (λ (o : Option Node). (held_node_at value o).value.number < 2 ^ (unwrap_or (option_map node_type o) no_type).width) (sym at) below

  pub worth_below : (v : Read) → IsOf net v → worth net state ns value v < 2 ^ (type_read net v).width
  worth_below (read.Leaf k) of = let found = there net.leaves k of in leaf_below k found.0 found.1
  worth_below (read.Node k) of = let found = there net.nodes k of in node_below k found.0 found.1
