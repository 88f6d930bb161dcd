-- Values at rest in the tree hold the values of the net's leaves and nodes.
-- A leaf has the number of where it is, and a node its value by the equations of its nets; it goes along the order.
use Rattle.std.proofs.Common.{◌≡◌, ℕ, ◌^◌, ◌<◌, ◌≤◌, List, [], ◌∷◌, map, refl, sym, ap, ◌∙◌, ⊎_elim, ◌⊎◌, subst, arith, Option, Some, Ok, unwrap_or}
use Rattle.std.specs.Prelude.{slice_get}
use Rattle.std.specs.List.{AllByRecursion}
use Rattle.std.proofs.lemmas.Option.{slice_get_within}
use Rattle.fir_base.specs.Lists.{In}
use Rattle.fir_base.specs.Ticks.{Env, Tick}
use Rattle.fir_base.proofs.Each.{all_at, all_from}
use Rattle.fir_base.proofs.Elements.{there, all_there}
use Rattle.fir_bits.specs.working.Types.{typed}
use Rattle.fir_bits.specs.Operators.{no_operand}
use Rattle.fir_bits.specs.working.Operators.{type_of}
use Rattle.fir_bits.specs.declared.types.NumTy.{NumTy}
use Rattle.fir_bits.specs.declared.values.Num.{Num}
use Rattle.fir_net.specs.declared.reads.Read.{Read}
use Rattle.fir_net.specs.declared.reads.Read.TheVariants as read
use Rattle.fir_net.specs.declared.node.Node.{Node}
use Rattle.fir_net.specs.declared.node.Node.TheVariants as node
use Rattle.fir_net.specs.declared.net.FlatNet.{FlatNet}
use Rattle.fir_net_names.specs.declared.name_table.NameTable.{NameTable}
use Rattle.fir_net.specs.working.Values.{IsOfType, node_value, values}
use Rattle.fir_net.specs.working.Settled.{value_at}
use Rattle.fir_net.specs.working.Dependence.{support_of, IsOf, Reads}
use Rattle.fir_net.specs.working.IsNet.{node_type, read_type, CanRead, IsNode, IsChoice}
use Rattle.fir_net.specs.working.Laws.{LeavesFit}
use Rattle.ver_ast.specs.declared.tree.Assign.{Assign}
use Rattle.ver_ast.specs.Nets.{SizedNet, assigns, variables}
use Rattle.ver_build.proofs.SideValues.{side_value, same_side}
use Rattle.ver_ast.specs.SideValues.{rhs_value}
use Rattle.ver_ast.specs.Stores.{store_of}
use Rattle.ver_ast.specs.Settled.{Rest}
use Rattle.ver_build.specs.declared.held.Source.{Source}
use Rattle.ver_build.specs.declared.held.Source.TheVariants as source
use Rattle.ver_build.specs.declared.places.Places.{Places}
use Rattle.ver_build.specs.declared.right_sides.Inner.{Inner}
use Rattle.ver_build.specs.working.Held.{held_number}
use Rattle.ver_build.specs.working.Places.{held_of, node_at}
use Rattle.ver_build.specs.working.Built.{node_inners, inner_assign}
use Rattle.ver_build.proofs.AlongOrder.{along_order}
use Rattle.ver_build.proofs.Premises.{Premises, all_by_number}
use Rattle.ver_build.proofs.Parts.{in_parts}
use Rattle.ver_build.proofs.Nets.{sizes, nets_sized}
use Rattle.ver_build.proofs.Standing.{IsSource, FitsSource, Holds, AllHold, DeclaresInners, FitsInners, IsSoundInner, RestInners, HaveValues}
use Rattle.ver_build.proofs.InnersSound.{node_sound}
use Rattle.ver_build.proofs.Fitted.{held_below, whole_holds}
use Rattle.ver_build.proofs.NodeMeaning.{operation_means, choice_means}
use Rattle.ver_build.proofs.NodeNets.{IsLiteral, IsEmpty, IsNetted, node_view}
use Rattle.ver_build.proofs.Sizes.{inner_among, inners_among, node_declared, own_declared}
use Rattle.ver_build.proofs.ReadsStand.{whole_at, node_narrow, leaf_type_at, node_type_at, read_of, read_stands}
use Rattle.ver_build.proofs.Fitting.{part_among, support_can}
use Rattle.ver_build.proofs.Assigns.{inner_assign_in}
use Rattle.ver_build.proofs.Resting.{assign_equation}

-- the values by number
abbrev pub leaf_values : Places → Env → ℕ → ℕ
leaf_values p f k = held_number f (held_of p (read.Leaf k))

nothing : (n w : ℕ) → n < 2 ^ w → w ≡ 0 → 0 ≡ n
nothing n w below none = let h : n < 2 ^ 0 = subst (λ (x : ℕ). n < 2 ^ x) none below in omega arith

module _ (net : FlatNet) (t : NameTable) (p : Places) (order : List Read) (is : Premises net t p order) (state : List ℕ) (tick : Tick) (f : Env)
    (rest : Rest (in_parts net t p order) state tick f) where
  abbrev ns : List SizedNet
  ns = sizes net t p order

  abbrev e : ℕ → ℕ
  e = leaf_values p f

  abbrev value : Read → Num
  value r = value_at net (leaf_values p f) r

  pub nets_below : (n : List ℕ) (w : ℕ) → In (sizes net t p order) (n, w) → f n < 2 ^ w
  nets_below n w m = rest.fits n w (subst (λ (xs : List SizedNet). In xs (n, w)) (sym (nets_sized net t p order is)) m)

  pub equation : (a : Assign) (w : ℕ) → In (assigns (in_parts net t p order)) a → In (sizes net t p order) (a.target, w)
      → f a.target ≡ unwrap_or (rhs_value (sizes net t p order) (store_of (variables (in_parts net t p order)) state) f w a.rhs) 0
  equation a w m n = assign_equation net t p order is state tick f rest a w m n

  source_fits : (w : ℕ) (s : Source) → IsSource ns w s → FitsSource f s
  source_fits w (source.Number n) stands = tt
  source_fits w (source.Net q) stands = nets_below q.name q.own (part_among ns w q stands)

  read_fits : (r : Read) → CanRead net.leaves net.nodes r → FitsSource f (held_of p r).source
  read_fits r can = let stands = (read_stands net t p order is r can).stands in source_fits (held_of p r).width (held_of p r).source stands.source

  pub leaves_fit : LeavesFit net.leaves (leaf_values p f)
  leaves_fit = record {
    each = λ k l at plain.
        let can : CanRead net.leaves net.nodes (read.Leaf k) = (l, at, plain) in
        subst (λ (u : NumTy). e k < 2 ^ u.width) (leaf_type_at net k l at)
        (let stands = read_stands net t p order is (read.Leaf k) can in rw (← stands.width)
        (held_below ns f (held_of p (read.Leaf k)) stands.stands));
  }

  -- what can be read has a value of its type
  pub has_type : (r : Read) → CanRead net.leaves net.nodes r → IsOfType (read_type net.leaves net.nodes r) (value_at net (leaf_values p f) r)
  has_type r can = is.laws.types net e r is.whole leaves_fit can

  node_value_at : (k : ℕ) (n : Node) → slice_get net.nodes k ≡ Some n → value (read.Node k) ≡ node_value net.leaves e (values net e) n
  node_value_at k n at = ap (λ (o : Option Num). unwrap_or o no_operand) (is.laws.values net e k n is.whole at)

  all_types : (rs : List Read) → AllByRecursion (CanRead net.leaves net.nodes) rs
      → map type_of (map (value_at net e) rs) ≡ map (read_type net.leaves net.nodes) rs
  all_types [] can = refl
  all_types (r ∷ rs) can = rw ((has_type r can.0).is, all_types rs can.1) refl

  abbrev There : Read → Type 0
  There r = Holds ns f (held_of p r) (value r)

  all_hold : (rs : List Read) → AllByRecursion There rs → AllHold ns f (map (held_of p) rs) (map (value_at net e) rs)
  all_hold [] there = tt
  all_hold (r ∷ rs) there = (there.0, all_hold rs there.1)

  -- what a number is held for
  held_as : (r : Read) → CanRead net.leaves net.nodes r → held_number f (held_of p r) ≡ (value r).value.number → There r
  held_as r can same = record {
    standing = rw (has_type r can).is (read_stands net t p order is r can);
    below = read_fits r can;
    number = same;
  }

  -- the equations of a node's nets
  means_by : (n : Node) (helpers : List (List ℕ)) (name : List ℕ) (own : Inner) → In (node_inners p n helpers name) own
      → IsNode net.leaves net.nodes n → 1 ≤ (node_type n).width → AllByRecursion There (support_of n)
      → DeclaresInners ns (node_inners p n helpers name) → FitsInners f (node_inners p n helpers name)
      → RestInners ns f (node_inners p n helpers name)
      → HaveValues ns f (node_inners p n helpers name) × (f name ≡ (node_value net.leaves e (values net e) n).value.number)
  means_by (node.Literal v) helpers name own inside whole some there declares fits rests = absurd inside
  means_by (node.Operation o) helpers name own inside whole some there declares fits rests =
      let typed_is : typed o.op (map type_of (map (value_at net e) o.reads)) o.integers ≡ Ok (node_type (node.Operation o)) =
      rw (all_types o.reads whole.reads) whole.has_type in
      operation_means o.op o.integers (map (held_of p) o.reads) helpers name ns f (map (value_at net e) o.reads)
      (node_type (node.Operation o)) typed_is some
      (all_hold o.reads there) declares fits rests
  means_by (node.Mux m) helpers name own inside whole some there declares fits rests =
      let choice : IsChoice (node_type (node.Mux m)) (map type_of (map (value_at net e) m.reads)) =
      rw (all_types m.reads whole.reads) whole.has_type in
      choice_means (map (held_of p) m.reads) name ns f (map (value_at net e) m.reads) (node_type (node.Mux m)) choice some
      (all_hold m.reads there) rests

  module _ (k : ℕ) (n : Node) (h : IsNetted p n (node_at p.nodes k)) (at : slice_get net.nodes k ≡ Some n) where
    abbrev xs : List Inner
    xs = node_inners p n (node_at p.nodes k).helpers h.name

    among : (i : Inner) → In xs i → In (sizes net t p order) (i.name, i.width)
    among i m = inner_among net t p order is i (inners_among net t p order is k n h at i m)

    node_fits : FitsInners f xs
    node_fits = all_from (λ (i : Inner). f i.name < 2 ^ i.width) xs (λ i m. nets_below i.name i.width (among i m))

    node_rests : RestInners ns f xs
    node_rests =
        all_from (λ (i : Inner). f i.name ≡ unwrap_or (side_value ns f i.width i.rhs) 0) xs
        (λ i m.
        let sound = all_at (IsSoundInner ns) xs (node_sound net t p order is k n h at) i m in
        equation (inner_assign i) i.width (inner_assign_in net t p order is i (inners_among net t p order is k n h at i m)) (among i m)
        ∙ ap (λ (o : Option ℕ). unwrap_or o 0) (same_side ns ns (store_of (variables (in_parts net t p order)) state) f i.width i.width i.rhs sound.side))

    pub node_means : AllByRecursion There (support_of n) → HaveValues ns f xs × (f h.name ≡ (node_value net.leaves e (values net e) n).value.number)
    node_means there =
        means_by n (node_at p.nodes k).helpers h.name _ h.inside (whole_at net t p order is k n at) h.some there
        (node_declared net t p order is k n h at) node_fits node_rests

  netted_number : (k : ℕ) (n : Node) (h : IsNetted p n (node_at p.nodes k)) → slice_get net.nodes k ≡ Some n → AllByRecursion There (support_of n)
      → held_number f (node_at p.nodes k).held ≡ (value (read.Node k)).value.number
  netted_number k n h at there =
      let below = nets_below h.name (node_type n).width (among k n h at _ h.inside) in
      let own =
      whole_holds ns f h.name (node_type n).signed (node_type n).width h.some (node_narrow net t p order is k n at)
      (own_declared net t p order is k n h at) below in
      ap (held_number f) h.held ∙ own.number ∙ (node_means k n h at there).1 ∙ sym (ap (λ (v : Num). v.value.number) (node_value_at k n at))

  empty_number : (k : ℕ) (n : Node) (h : IsEmpty n (node_at p.nodes k)) → slice_get net.nodes k ≡ Some n
      → held_number f (node_at p.nodes k).held ≡ (value (read.Node k)).value.number
  empty_number k n h at =
      let has = has_type (read.Node k) (slice_get_within net.nodes k n at) in
      let wide : (value (read.Node k)).value.width ≡ 0 =
      ap (λ (u : NumTy). u.width) has.is ∙ ap (λ (u : NumTy). u.width) (node_type_at net k n at) ∙ h.none in
      ap (held_number f) h.held ∙ nothing (value (read.Node k)).value.number (value (read.Node k)).value.width has.bits.below wide

  literal_number : (k : ℕ) (n : Node) (h : IsLiteral n (node_at p.nodes k)) → slice_get net.nodes k ≡ Some n
      → held_number f (node_at p.nodes k).held ≡ (value (read.Node k)).value.number
  literal_number k n h at =
      ap (held_number f) h.held ∙ sym (ap (λ (v : Num). v.value.number) (node_value_at k n at ∙ ap (node_value net.leaves e (values net e)) h.node))

  node_number : (k : ℕ) (n : Node) → slice_get net.nodes k ≡ Some n → AllByRecursion There (support_of n)
      → held_number f (node_at p.nodes k).held ≡ (value (read.Node k)).value.number
  node_number k n at there =
      let here = node_at p.nodes k in
      ⊎_elim
      (λ (l : IsLiteral n here). literal_number k n l at)
      (λ (o : IsEmpty n here ⊎ IsNetted p n here). ⊎_elim (λ (x : IsEmpty n here). empty_number k n x at)
      (λ (h : IsNetted p n here). netted_number k n h at there) o)
      (node_view p n here (is.places.nodes.held.each k n at))

  abbrev Can : Read → Type 0
  Can r = CanRead net.leaves net.nodes r → There r

  support_there : (k : ℕ) (n : Node) → slice_get net.nodes k ≡ Some n → ((w : Read) → Reads net (read.Node k) w → Can w)
      → AllByRecursion There (support_of n)
  support_there k n at below =
      all_by_number There (support_of n)
      (λ i w found. below w (record { place = i; is = rw at found })
      (all_there (CanRead net.leaves net.nodes) (support_of n) (support_can net n (whole_at net t p order is k n at)) i w found))

  step : (v : Read) → IsOf net v → ((w : Read) → Reads net v w → Can w) → Can v
  step (read.Leaf k) of below can = held_as (read.Leaf k) can refl
  step (read.Node k) of below can =
      let n = there net.nodes k of in
      held_as (read.Node k) can (node_number k n.0 n.1 (support_there k n.0 n.1 below))

  -- each value that can be read is held
  pub read_holds : (r : Read) → CanRead net.leaves net.nodes r → Holds (sizes net t p order) f (held_of p r) (value_at net (leaf_values p f) r)
  read_holds r can = along_order net order is.ordered Can step r (read_of net r can) can

  -- the right sides of a node's nets have values
  pub node_valued : (k : ℕ) (n : Node) (h : IsNetted p n (node_at p.nodes k)) → slice_get net.nodes k ≡ Some n
      → HaveValues (sizes net t p order) f (node_inners p n (node_at p.nodes k).helpers h.name)
  node_valued k n h at = (node_means k n h at (support_there k n at (λ w reads can. read_holds w can))).0
