-- The nodes and roles of a whole design: each of its modules keeps what the others have given, and gives what it drives.
use Rattle.std.proofs.Common.{◌≡◌, ℕ, ◌+◌, ◌^◌, ◌<◌, ◌≤◌, List, [], ◌∷◌, ◌++◌, length, map, Option, Some, None, replicate, refl, sym, ap, ◌∙◌, subst, arith, inl, inr, ◌⊎◌, ⊎_elim, length-append}
use Rattle.std.specs.Prelude.{slice_get}
use Rattle.std.proofs.lemmas.List.{length-map, length-replicate}
use Rattle.std.proofs.lemmas.Option.{same_Some, slice_get_within}
use Rattle.fir_base.specs.Lists.{In}
use Rattle.fir_base.proofs.Elements.{get_in, there}
use Rattle.fir_base.proofs.Members.{in_map_from}
use Rattle.fir_base.proofs.Writes.{get-replicate, two_items}
use Rattle.fir_meaning.specs.LeafTypes.{number_type}
use Rattle.fir_meaning.specs.ModuleScenes.{Scene}
use Rattle.fir_meaning.specs.working.LeafCircuits.{LeafCircuit, role_of}
use Rattle.fir_meaning.specs.working.LeafModules.{LeafModule, Role, depth_at, leaf_at, role_at}
use Rattle.fir_meaning.specs.working.LeafModules as leafed
use Rattle.fir_meaning.specs.working.LeafedModules.{leafed_module}
use Rattle.fir_meaning.specs.working.Numberings.{Numbering, number}
use Rattle.fir_meaning.specs.working.TermValues.{Holds}
use Rattle.fir_connect.specs.working.CircuitModules.{as_module}
use Rattle.fir_connect.specs.working.MovedTerms.{moved_net_role}
use Rattle.fir_connect.specs.working.NetRoles.{NetRole as RoleMeant, net_role, net_role_at, net_types}
use Rattle.fir_copies.specs.working.Copies.{Copy}
use Rattle.fir_copies.specs.working.CopyLaws.{IsGiven, IsGivenBy, IsMainInput, StandsIn, numbers_of}
use Rattle.fir_elaborate.specs.declared.elaborated.ModuleCopy.{ModuleCopy}
use Rattle.fir_elaborate.specs.working.Elaborations.{copy_seen}
use Rattle.fir_memory_types.specs.working.TypedMemories.{AreMemoriesTyped}
use Rattle.fir_net.specs.declared.node.Node.{Node}
use Rattle.fir_merge.specs.working.NodeTerms.{Grows, ReadBefore}
use Rattle.fir_whens.specs.declared.net_role.NetRole.{NetRole}
use Rattle.fir_whens.specs.declared.net_role.NetRole.TheVariants as code
use Rattle.fir_whens.specs.working.StandingRoles.{RoleStands}
use Rattle.fir_flatten.specs.declared.design_net.ModulePart.{ModulePart}
use Rattle.fir_flatten.specs.declared.offsets.Offsets.{Offsets}
use Rattle.fir_flatten.specs.working.DesignNets.{ArePartsOf, IsPartOf}
use Rattle.fir_flatten.specs.working.MovedNets.{array_moved, leaf_moved, node_moved, offsets_of, role_moved, saturated}
use Rattle.fir_flatten.specs.working.PutModules.{Given, given_from, no_values, offsets_in, part_of, put_copies, put_module, put_part}
use Rattle.fir_flatten.proofs.RolesInTurn.{DoesStand, EachStands, MayStand, does_stand_on, may_stand_on, one_stands}
use Rattle.fir_flatten.proofs.MovedPorts.{port_typed}
use Rattle.fir_flatten.proofs.MovedTerms.{before_moved, saturated_small}
use Rattle.fir_flatten.proofs.PutLeaves.{length_given}
use Rattle.fir_flatten.proofs.StandingRoles.{moved_source, no_source, role_later, role_stands, source_stands}

-- a copy of a module, where it stands, and the part of the code
pub record Known (scenes : List Scene) (parts : List ModulePart) (c : LeafCircuit) (k : ModuleCopy) : Type 0 where
  pub stands : StandsIn scenes c (copy_seen k)
  pub part : ModulePart
  pub part_is : slice_get parts k.module_number ≡ Some part
  pub is_part : IsPartOf (leafed_module stands.scene) part

pub known_copy : (scenes : List Scene) (parts : List ModulePart) (c : LeafCircuit) (k : ModuleCopy) → ArePartsOf scenes parts
    → StandsIn scenes c (copy_seen k) → Known scenes parts c k
known_copy scenes parts c k are s =
    let within = slice_get_within scenes k.module_number s.scene s.is in
    let found = there parts k.module_number (omega (arith, within, are.count)) in
    record { stands = s; part = found.0; part_is = found.1; is_part = are.each k.module_number s.scene found.0 s.is found.1 }

-- its leaves stand where the code has them
pub leaf_place : (scenes : List Scene) (parts : List ModulePart) (c : LeafCircuit) → length c.leaves < 2 ^ 64 → (k : ModuleCopy) (n : Known scenes parts c k)
    (nodes y : ℕ) → y < length (leafed_module n.stands.scene).leaves
    → leaf_moved (offsets_of k n.part.part.now.port_leaves nodes) y ≡ number (numbers_of (leafed_module n.stands.scene) (copy_seen k)) y
leaf_place scenes parts c small k n nodes y lt =
    let numbers = numbers_of (leafed_module n.stands.scene) (copy_seen k) in
    let within = n.stands.within y lt in
    ap (λ ports. saturated (number (record { ports = ports; first = k.first; own = k.own }) y)) n.is_part.view.port_leaves
    ∙ saturated_small (number numbers y) (omega (arith, within, small))

is_source : (r : NetRole) → (r ≡ code.Source) ⊎ (r ≡ code.Source → ⊥)
is_source code.Source = inl refl
is_source (code.Driven b) = inr (λ e. cc)
is_source (code.Computed b) = inr (λ e. cc)
is_source (code.Register clock reset next) = inr (λ e. cc)
is_source (code.Reading r) = inr (λ e. cc)
is_source (code.Pipe r clock under) = inr (λ e. cc)

module _ (scenes : List Scene) (parts : List ModulePart) (c : LeafCircuit) (small : length c.leaves < 2 ^ 64) (few : length c.arrays < 2 ^ 64)
    (typed : (s : Scene) → In scenes s → AreMemoriesTyped (leafed_module s).leaves (leafed_module s).arrays) where
  abbrev whole : LeafModule
  whole = as_module c

  abbrev outer : Holds
  outer = net_types whole

  abbrev meant : ℕ → RoleMeant
  meant y = net_role_at whole y

  module _ (k : ModuleCopy) (n : Known scenes parts c k) (v : Given) where
    abbrev m : LeafModule
    m = leafed_module n.stands.scene

    abbrev at : Offsets
    at = offsets_in k n.part v

    abbrev ns : List Node
    ns = n.part.net.now.nodes

    abbrev rs : List NetRole
    rs = n.part.net.now.roles.items

    abbrev net : List Node
    net = v.nodes ++ map (node_moved at) ns

    abbrev numbers : Numbering
    numbers = numbers_of m (copy_seen k)

    place_is : (y : ℕ) → y < length m.leaves → leaf_moved at y ≡ number numbers y
    place_is y lt = leaf_place scenes parts c small k n (length v.nodes) y lt

    array_is : (i : ℕ) → i < length m.arrays → array_moved at i ≡ k.array + i
    array_is i lt = let within = n.stands.arrays_within in saturated_small (k.array + i) (omega (arith, within, few))

    memories : AreMemoriesTyped m.leaves m.arrays
    memories = typed n.stands.scene (get_in scenes k.module_number n.stands.scene n.stands.is)

    held_is : (y : ℕ) → y < length m.leaves → outer (number numbers y) ≡ net_types m y
    held_is y lt = ap number_type (n.stands.held y lt)

    leaf_within : (i : ℕ) (r : NetRole) → slice_get rs i ≡ Some r → i < length m.leaves
    leaf_within i r at_i = let within = slice_get_within rs i r at_i in omega (arith, within, n.is_part.is_net.count)

    module _ (room : length v.nodes + length ns < 2 ^ 64) where
      stands_there : (i : ℕ) (r : NetRole) → slice_get rs i ≡ Some r → (r ≡ code.Source → ⊥)
          → RoleStands outer net (role_moved at r) (meant (leaf_moved at i))
      stands_there i r at_i other =
          let lt = leaf_within i r at_i in
          let y = number numbers i in
          let stands = n.is_part.is_net.each i r at_i in
          let gives : role_at m i ≡ leafed.source → ⊥ =
          λ e. other (no_source (net_types m) ns r
          (subst (λ (role : Role). RoleStands (net_types m) ns r (net_role (net_types m) (depth_at m i) m.body i role)) e stands)) in
          let same : meant y ≡ moved_net_role numbers k.array (net_role_at m i) = n.stands.roles i lt gives in
          let holds = (leaf_at m.leaves i).holds in
          let port = port_typed m.leaves m.arrays holds (net_types m) (depth_at m i) m.body i (role_at m i) (memories.roles i lt) in
          subst (λ (q : RoleMeant). RoleStands outer net (role_moved at r) q) (sym same ∙ ap meant (sym (place_is i lt)))
          (role_stands at v.nodes ns refl room n.is_part.before (net_types m) outer numbers k.array m.leaves m.arrays place_is array_is held_is holds r
          (net_role_at m i) (n.is_part.reads i lt) port stands)

      each_stands : (y : ℕ) → EachStands outer net (meant y) y at 0 rs
      each_stands y i r at_i e =
          let here : leaf_moved at i ≡ y = subst (λ (z : ℕ). leaf_moved at z ≡ y) (omega arith) e in
          ⊎_elim
          (λ (none : r ≡ code.Source). inl (ap (role_moved at) none))
          (λ (other : r ≡ code.Source → ⊥).
          inr (subst (λ (z : ℕ). RoleStands outer net (role_moved at r) (meant z)) here (stands_there i r at_i other)))
          (is_source r)

      grows : Grows v.nodes net
      grows = record { added = map (node_moved at) ns; is = refl }

      keeps_may : (y : ℕ) → MayStand outer v.nodes (meant y) y v.roles → MayStand outer net (meant y) y (given_from at 0 rs v.roles)
      keeps_may y h =
          may_stand_on outer net (meant y) y at 0 rs v.roles (each_stands y)
          (λ r is.
          ⊎_elim
          (λ (none : r ≡ code.Source). inl none)
          (λ (stands : RoleStands outer v.nodes r (meant y)). inr (role_later outer v.nodes net grows r (meant y) stands))
          (h r is))

      keeps_does : (y : ℕ) → DoesStand outer v.nodes (meant y) y v.roles → DoesStand outer net (meant y) y (given_from at 0 rs v.roles)
      keeps_does y h =
          does_stand_on outer net (meant y) y at 0 rs v.roles (each_stands y) (λ r is. role_later outer v.nodes net grows r (meant y) (h r is))

      gives_it : (y : ℕ) → IsGivenBy scenes (copy_seen k) y → DoesStand outer net (meant y) y (given_from at 0 rs v.roles)
      gives_it y by =
          let same : by.scene ≡ n.stands.scene = two_items scenes k.module_number by.scene n.stands.scene by.is n.stands.is in
          let x = by.leaf in
          let lt : x < length m.leaves = subst (λ (s : Scene). x < length (leafed_module s).leaves) same by.within in
          let number_is : number numbers x ≡ y =
          subst (λ (s : Scene). number (numbers_of (leafed_module s) (copy_seen k)) x ≡ y) same by.number_is in
          let gives : role_at m x ≡ leafed.source → ⊥ =
          subst (λ (s : Scene). role_at (leafed_module s) x ≡ leafed.source → ⊥) same by.gives in
          let found = there rs x (omega (arith, lt, n.is_part.is_net.count)) in
          let stands = n.is_part.is_net.each x found.0 found.1 in
          let other : role_moved at found.0 ≡ code.Source → ⊥ =
          λ e. gives (source_stands (net_types m) ns (depth_at m x) m.body x (role_at m x)
          (subst (λ (r : NetRole). RoleStands (net_types m) ns r (net_role_at m x)) (moved_source at found.0 e) stands)) in
          let here : leaf_moved at (0 + x) ≡ y =
          subst (λ (z : ℕ). leaf_moved at z ≡ y) (omega arith) (place_is x lt ∙ number_is) in
          one_stands outer net (meant y) y at 0 x rs v.roles found.0 (each_stands y) found.1 here other

  -- the same of the whole step
  module _ (k : ModuleCopy) (n : Known scenes parts c k) (v : Given) (room : length (put_module k n.part v).nodes < 2 ^ 64) where
    abbrev next : Given
    next = put_module k n.part v

    room_is : length v.nodes + length n.part.net.now.nodes < 2 ^ 64
    unfolding put_module
    room_is =
        let moved : List Node = map (node_moved (offsets_in k n.part v)) n.part.net.now.nodes in
        let long : length moved ≡ length n.part.net.now.nodes = length-map n.part.net.now.nodes (node_moved (offsets_in k n.part v)) in
        omega (arith, length-append v.nodes moved, room)

    may_next : (y : ℕ) → MayStand outer v.nodes (meant y) y v.roles → MayStand outer next.nodes (meant y) y next.roles
    unfolding put_module
    may_next y h = keeps_may k n v room_is y h

    does_next : (y : ℕ) → DoesStand outer v.nodes (meant y) y v.roles → DoesStand outer next.nodes (meant y) y next.roles
    unfolding put_module
    does_next y h = keeps_does k n v room_is y h

    given_next : (y : ℕ) → IsGivenBy scenes (copy_seen k) y → DoesStand outer next.nodes (meant y) y next.roles
    unfolding put_module
    given_next y by = gives_it k n v room_is y by

    before_next : ReadBefore 0 v.nodes → ReadBefore 0 next.nodes
    unfolding put_module
    before_next h = before_moved (offsets_in k n.part v) v.nodes n.part.net.now.nodes refl room_is h n.is_part.before

    length_next : length next.roles ≡ length v.roles
    unfolding put_module
    length_next = length_given (offsets_in k n.part v) 0 n.part.net.now.roles.items v.roles

  -- nodes are added alone
  longer_one : (k : ModuleCopy) (o : Option ModulePart) (v : Given) → length v.nodes ≤ length (put_part k o v).nodes
  unfolding put_module
  longer_one k None v = omega arith
  longer_one k (Some p) v = omega (arith, length-append v.nodes (map (node_moved (offsets_in k p v)) p.net.now.nodes))

  longer_all : (ks : List ModuleCopy) (v : Given) → length v.nodes ≤ length (put_copies parts ks v).nodes
  longer_all [] v = omega arith
  longer_all (k ∷ ks) v =
      let here = longer_one k (part_of parts k) v in
      let rest = longer_all ks (put_part k (part_of parts k) v) in
      omega arith

  abbrev KnownAll : List ModuleCopy → Type 0
  KnownAll ks = (k : ModuleCopy) → In ks k → Known scenes parts c k

  -- what each step keeps
  module _ (P : Given → Type 0)
      (step : (k : ModuleCopy) (n : Known scenes parts c k) (v : Given) → length (put_module k n.part v).nodes < 2 ^ 64 → P v → P (put_module k n.part v)) where
    one_more : (k : ModuleCopy) (n : Known scenes parts c k) (ks : List ModuleCopy) (v : Given)
        → length (put_copies parts (k ∷ ks) v).nodes < 2 ^ 64 → P v → P (put_part k (part_of parts k) v)
    one_more k n ks v room h =
        let same : put_part k (part_of parts k) v ≡ put_module k n.part v = ap (λ o. put_part k o v) n.part_is in
        let rest = longer_all ks (put_part k (part_of parts k) v) in
        let there : length (put_part k (part_of parts k) v).nodes < 2 ^ 64 = omega arith in
        subst P (sym same) (step k n v (subst (λ (w : Given). length w.nodes < 2 ^ 64) same there) h)

    all_keep : (ks : List ModuleCopy) (known : KnownAll ks) (v : Given) → length (put_copies parts ks v).nodes < 2 ^ 64 → P v → P (put_copies parts ks v)
    all_keep [] known v room h = h
    all_keep (k ∷ ks) known v room h =
        all_keep ks (λ j m. known j (inr m)) (put_part k (part_of parts k) v) room (one_more k (known k (inl refl)) ks v room h)

  -- a leaf is given its role by one of them
  all_give : (y : ℕ) (j : ModuleCopy) → IsGivenBy scenes (copy_seen j) y → (ks : List ModuleCopy) (known : KnownAll ks) → In ks j → (v : Given)
      → length (put_copies parts ks v).nodes < 2 ^ 64
      → DoesStand outer (put_copies parts ks v).nodes (meant y) y (put_copies parts ks v).roles
  all_give y j by [] known among v room = absurd among
  all_give y j by (k ∷ ks) known (inl e) v room =
      let n = known k (inl refl) in
      let same : put_part k (part_of parts k) v ≡ put_module k n.part v = ap (λ o. put_part k o v) n.part_is in
      let rest = longer_all ks (put_part k (part_of parts k) v) in
      let there : length (put_part k (part_of parts k) v).nodes < 2 ^ 64 = omega arith in
      all_keep (λ w. DoesStand outer w.nodes (meant y) y w.roles) (λ i o w r h. does_next i o w r y h) ks (λ i m. known i (inr m))
      (put_part k (part_of parts k) v) room
      (subst (λ (w : Given). DoesStand outer w.nodes (meant y) y w.roles) (sym same)
      (given_next k n v (subst (λ (w : Given). length w.nodes < 2 ^ 64) same there) y
      (subst (λ (i : ModuleCopy). IsGivenBy scenes (copy_seen i) y) (sym e) by)))
  all_give y j by (k ∷ ks) known (inr m) v room =
      all_give y j by ks (λ i o. known i (inr o)) m (put_part k (part_of parts k) v) room

  -- and at the end
  module _ (main : Scene) (copies : List ModuleCopy) (known : KnownAll copies)
      (all_given : (y : ℕ) → y < length c.leaves → IsGiven scenes main (map copy_seen copies) y)
      (inputs : (x : ℕ) → x < (leafed_module main).port_leaves → role_at (leafed_module main) x ≡ leafed.source → role_of c x ≡ leafed.source) where
    abbrev first : Given
    first = no_values (length c.leaves)

    abbrev last : Given
    last = put_copies parts copies first

    module _ (room : length last.nodes < 2 ^ 64) where
      pub roles_count : length last.roles ≡ length c.leaves
      roles_count =
          all_keep (λ w. length w.roles ≡ length c.leaves) (λ i o w r h. length_next i o w r ∙ h) copies known first room
          (length-replicate (length c.leaves) code.Source)

      pub all_before : ReadBefore 0 last.nodes
      all_before = all_keep (λ w. ReadBefore 0 w.nodes) (λ i o w r h. before_next i o w r h) copies known first room tt

      may_last : (y : ℕ) → MayStand outer last.nodes (meant y) y last.roles
      may_last y =
          all_keep (λ w. MayStand outer w.nodes (meant y) y w.roles) (λ i o w r h. may_next i o w r y h) copies known first room
          (λ r is.
          let within = slice_get_within (replicate (length c.leaves) code.Source) y r is in
          let lt : y < length c.leaves = omega (arith, within, length-replicate (length c.leaves) code.Source) in
          inl (sym (same_Some code.Source r (sym (get-replicate (length c.leaves) y code.Source lt) ∙ is))))

      pub roles_stand : (y : ℕ) (r : NetRole) → slice_get last.roles y ≡ Some r → RoleStands outer last.nodes r (meant y)
      roles_stand y r is =
          let within = slice_get_within last.roles y r is in
          ⊎_elim
          (λ (i : IsMainInput (leafed_module main) y).
          let none : role_at whole y ≡ leafed.source = inputs y i.port i.is_source in
          ⊎_elim
          (λ (e : r ≡ code.Source).
          subst (λ (s : NetRole). RoleStands outer last.nodes s (meant y)) (sym e)
          (subst (λ (role : Role). RoleStands outer last.nodes code.Source (net_role outer (depth_at whole y) whole.body y role)) (sym none) tt))
          (λ (stands : RoleStands outer last.nodes r (meant y)). stands)
          (may_last y r is))
          (λ (g : (k : Copy) × In (map copy_seen copies) k × IsGivenBy scenes k y).
          let from = in_map_from copy_seen copies g.0 g.1 in
          all_give y from.0 (subst (λ (k : Copy). IsGivenBy scenes k y) (sym from.2) g.2) copies known from.1 first room r is)
          (all_given y (omega (arith, within, roles_count)))
