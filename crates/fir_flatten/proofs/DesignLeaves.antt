-- The leaves of a whole design: those that its modules put are those of its circuit, and each register is driven where it is in the whole.
use Rattle.std.proofs.Common.{◌≡◌, ℕ, zero, suc, ◌+◌, ◌-◌, ◌<◌, ◌≤◌, List, [], ◌∷◌, ◌++◌, length, map, take, drop, true, false, Some, refl, sym, ap, ap₂, ◌∙◌, subst, arith, inl, inr, ⊎_elim}
use Rattle.std.specs.Prelude.{flat_map, slice_get}
use Rattle.std.specs.List.{range_with_len}
use Rattle.std.proofs.lemmas.Bool.{cases_lt}
use Rattle.std.proofs.lemmas.List.{drop_more, length-map, length-take, map-append, take_rest}
use Rattle.std.proofs.lemmas.Option.{get_or_from_slice_get}
use Rattle.fir_base.specs.Lists.{In}
use Rattle.fir_base.proofs.Elements.{beside, get_left, there}
use Rattle.fir_base.proofs.Writes.{two_items}
use Rattle.fir_leaf.proofs.LeafPlaces.{get_mapped}
use Rattle.fir_meaning.specs.LeafPaths.{path_text}
use Rattle.fir_meaning.specs.ModuleScenes.{Scene}
use Rattle.fir_meaning.specs.working.Designs.{empty_module}
use Rattle.fir_meaning.specs.working.FlatDesigns.{inner_leaves}
use Rattle.fir_meaning.specs.working.Flattened.{port_leaves}
use Rattle.fir_meaning.specs.working.LeafCircuits.{LeafCircuit, role_of}
use Rattle.fir_meaning.specs.working.LeafModules.{LeafDeclared, LeafModule, leaf_at, no_leaf}
use Rattle.fir_meaning.specs.working.LeafedModules.{leafed_module}
use Rattle.fir_meaning.specs.working.UndrivenChoices.{drives_any}
use Rattle.fir_elaborate.specs.declared.elaborated.ModuleCopy.{ModuleCopy}
use Rattle.fir_leaf_circuit.specs.working.LeafStores.{leaf_of_code}
use Rattle.fir_leaf_circuit.specs.working.Seen.{leaf_seen, type_seen, unnamed}
use Rattle.fir_whens.proofs.CoveredViews.{as_many, same_leaf}
use Rattle.fir_flatten.specs.declared.design_net.DesignLeaf.{DesignLeaf}
use Rattle.fir_flatten.specs.declared.design_net.ModulePart.{ModulePart}
use Rattle.fir_flatten.specs.working.DesignNets.{AreBehind, IsDrivenAlike, IsLeafOf, IsPartOf, LeafSeen, is_register, leaves_of_copy, module_of_copy, seen_behind}
use Rattle.fir_flatten.specs.working.PutModules.{copy_leaves, inner_part, leaf_behind, leaves_of, listed, main_part, part_leaf, part_leaves, port_part}
use Rattle.fir_flatten.proofs.DesignRoles.{Known}

-- what is seen of a leaf of the net
abbrev seen : DesignLeaf → LeafSeen
seen l = record { path = l.path; place = l.place; holds = type_seen l.holds }

-- elements behind others
get_right : {A : Type 0} → (xs ys : List A) (k : ℕ) → slice_get (xs ++ ys) (length xs + k) ≡ slice_get ys k
get_right [] ys k = let at : 0 + k ≡ k = omega arith in ap (slice_get ys) at
get_right (x ∷ xs) ys k =
    let at : suc (length xs) + k ≡ suc (length xs + k) = omega arith in
    ap (slice_get (x ∷ (xs ++ ys))) at ∙ get_right xs ys k

-- the leaves that a part puts
module _ (m : LeafModule) (p : ModulePart) (is : IsPartOf m p) (prefix : List ℕ) where
  -- one leaf
  record Put (x : ℕ) : Type 0 where
    leaf : DesignLeaf
    put : part_leaf prefix p x ≡ Some leaf
    looks : seen leaf ≡ seen_behind prefix (leaf_at m.leaves x)
    driven : leaf.is_driven ≡ drives_any x m.body

  put_there : (x : ℕ) → x < length m.leaves → Put x
  put_there x lt =
      let many = as_many p.part.now m is.view in
      let declared = there p.part.now.leaves.items x (omega (arith, lt, many)) in
      let found = there m.leaves x lt in
      let text = λ (l : LeafDeclared). path_text l.path in
      let text_at : slice_get p.texts.items x ≡ Some (text found.0) =
      ap (λ (ts : List (List ℕ)). slice_get ts x) is.texts ∙ get_mapped text m.leaves x found.0 found.1 in
      let flag = there p.driven.items x (omega (arith, lt, is.driven.count)) in
      let at : leaf_at m.leaves x ≡ found.0 = get_or_from_slice_get m.leaves x found.0 no_leaf found.1 in
      let view = leaf_seen p.part.now.nodes.items in
      let read : leaf_of_code p.part.now x ≡ view declared.0 =
      get_or_from_slice_get (map view p.part.now.leaves.items) x (view declared.0) no_leaf (get_mapped view p.part.now.leaves.items x declared.0 declared.1) in
      let same : view declared.0 ≡ unnamed (leaf_at m.leaves x) = sym read ∙ same_leaf p.part.now m is.view x in
      let path : prefix ++ text found.0 ≡ prefix ++ text (leaf_at m.leaves x) = ap (λ (l : LeafDeclared). prefix ++ text l) (sym at) in
      record {
        leaf = record { path = prefix ++ text found.0; place = declared.0.place; holds = declared.0.holds; is_driven = flag.0 };
        put = λ i. leaf_behind prefix (declared.1 i) (text_at i) (flag.1 i);
        looks = λ i. record { path = path i; place = (same i).place; holds = (same i).holds };
        driven = sym (get_or_from_slice_get p.driven.items x flag.0 false flag.1) ∙ is.driven.each x lt;
      }

  abbrev from_number : ℕ → ℕ → List DesignLeaf
  from_number x n = flat_map (λ y. listed (part_leaf prefix p y)) (range_with_len x n)

  look_alike : (x n : ℕ) → x + n ≤ length m.leaves → map seen (from_number x n) ≡ map (seen_behind prefix) (take n (drop x m.leaves))
  look_alike x zero le = refl
  look_alike x (suc n) le =
      let one = put_there x (omega arith) in
      let rest = look_alike (x + 1) n (omega arith) in
      let more : drop x m.leaves ≡ leaf_at m.leaves x ∷ drop (x + 1) m.leaves = drop_more m.leaves x no_leaf (omega arith) in
      ap (λ o. map seen (listed o ++ from_number (x + 1) n)) one.put ∙ ap (λ (ls : List LeafSeen). seen one.leaf ∷ ls) rest
      ∙ ap (λ (l : LeafSeen). l ∷ map (seen_behind prefix) (take n (drop (x + 1) m.leaves))) one.looks
      ∙ ap (λ (ls : List LeafDeclared). map (seen_behind prefix) (take (suc n) ls)) (sym more)

  are_driven : (x n : ℕ) → x + n ≤ length m.leaves → (y : ℕ) (l : DesignLeaf) → slice_get (from_number x n) y ≡ Some l
      → l.is_driven ≡ drives_any (x + y) m.body
  are_driven x zero le y l e = cc
  are_driven x (suc n) le zero l e =
      let one = put_there x (omega arith) in
      let here : Some one.leaf ≡ Some l = ap (λ o. slice_get (listed o ++ from_number (x + 1) n) 0) (sym one.put) ∙ e in
      let same : one.leaf ≡ l = cc in
      let at : x ≡ x + 0 = omega arith in
      ap (λ (k : DesignLeaf). k.is_driven) (sym same) ∙ one.driven ∙ ap (λ z. drives_any z m.body) at
  are_driven x (suc n) le (suc y) l e =
      let one = put_there x (omega arith) in
      let rest : slice_get (from_number (x + 1) n) y ≡ Some l = ap (λ o. slice_get (listed o ++ from_number (x + 1) n) (suc y)) (sym one.put) ∙ e in
      let at : (x + 1) + y ≡ x + suc y = omega arith in
      are_driven (x + 1) n (omega arith) y l rest ∙ ap (λ z. drives_any z m.body) at

  -- from a number up to another
  parts_alike : (x to : ℕ) → x ≤ to → to ≤ length m.leaves → map seen (part_leaves prefix p x to) ≡ map (seen_behind prefix) (take (to - x) (drop x m.leaves))
  unfolding part_leaves
  parts_alike x to up within = look_alike x (to - x) (omega arith)

  parts_driven : (x to : ℕ) → x ≤ to → to ≤ length m.leaves → (y : ℕ) (l : DesignLeaf) → slice_get (part_leaves prefix p x to) y ≡ Some l
      → l.is_driven ≡ drives_any (x + y) m.body
  unfolding part_leaves
  parts_driven x to up within y l e = are_driven x (to - x) (omega arith) y l e

  -- those that are no ports
  inner_alike : m.port_leaves ≤ length m.leaves → map seen (inner_part prefix (Some p)) ≡ map (seen_behind prefix) (inner_leaves m)
  inner_alike room =
      let ports = is.view.port_leaves in
      let many = as_many p.part.now m is.view in
      ap (λ n. map seen (part_leaves prefix p n (length p.part.now.leaves.items))) ports
      ∙ ap (λ n. map seen (part_leaves prefix p m.port_leaves n)) many
      ∙ parts_alike m.port_leaves (length m.leaves) room (omega arith)
      ∙ ap (map (seen_behind prefix)) (take_rest m.leaves m.port_leaves)

  inner_driven : m.port_leaves ≤ length m.leaves → (y : ℕ) (l : DesignLeaf) → slice_get (inner_part prefix (Some p)) y ≡ Some l
      → l.is_driven ≡ drives_any (m.port_leaves + y) m.body
  inner_driven room y l e =
      let ports = is.view.port_leaves in
      let many = as_many p.part.now m is.view in
      parts_driven m.port_leaves (length m.leaves) room (omega arith) y l
      (ap (λ n. slice_get (part_leaves prefix p m.port_leaves n) y) (sym many)
      ∙ ap (λ n. slice_get (part_leaves prefix p n (length p.part.now.leaves.items)) y) (sym ports) ∙ e)

ports_alike : (m : LeafModule) (p : ModulePart) → IsPartOf m p → m.port_leaves ≤ length m.leaves
    → map seen (port_part (Some p)) ≡ map (seen_behind []) (port_leaves m)
ports_alike m p is room =
    let ports = is.view.port_leaves in
    let whole : m.port_leaves - 0 ≡ m.port_leaves = omega arith in
    ap (λ n. map seen (part_leaves [] p 0 n)) ports ∙ parts_alike m p is [] 0 m.port_leaves (omega arith) room
    ∙ ap (λ n. map (seen_behind []) (take n m.leaves)) whole

module _ (scenes : List Scene) (parts : List ModulePart) (c : LeafCircuit) where
  -- a copy
  module _ (k : ModuleCopy) (n : Known scenes parts c k) where
    module_is : module_of_copy scenes k ≡ leafed_module n.stands.scene
    module_is =
        get_or_from_slice_get (map leafed_module scenes) k.module_number (leafed_module n.stands.scene) empty_module
        (get_mapped leafed_module scenes k.module_number n.stands.scene n.stands.is)

    copy_alike : map seen (copy_leaves parts k) ≡ leaves_of_copy scenes k
    copy_alike =
        ap (λ o. map seen (inner_part k.prefix o)) n.part_is ∙ inner_alike (leafed_module n.stands.scene) n.part n.is_part k.prefix n.stands.ports
        ∙ ap (λ (m : LeafModule). map (seen_behind k.prefix) (inner_leaves m)) (sym module_is)

    copy_length : length (copy_leaves parts k) ≡ length (inner_leaves (module_of_copy scenes k))
    copy_length =
        sym (length-map (copy_leaves parts k) seen) ∙ ap length copy_alike
        ∙ length-map (inner_leaves (module_of_copy scenes k)) (seen_behind k.prefix)

    copy_driven : (y : ℕ) (l : DesignLeaf) → slice_get (copy_leaves parts k) y ≡ Some l
        → l.is_driven ≡ drives_any ((module_of_copy scenes k).port_leaves + y) (module_of_copy scenes k).body
    copy_driven y l e =
        inner_driven (leafed_module n.stands.scene) n.part n.is_part k.prefix n.stands.ports y l (ap (λ o. slice_get (inner_part k.prefix o) y) (sym n.part_is) ∙ e)
        ∙ ap (λ (m : LeafModule). drives_any (m.port_leaves + y) m.body) (sym module_is)

  abbrev KnownAll : List ModuleCopy → Type 0
  KnownAll ks = (k : ModuleCopy) → In ks k → Known scenes parts c k

  all_alike : (ks : List ModuleCopy) → KnownAll ks → map seen (flat_map (copy_leaves parts) ks) ≡ flat_map (leaves_of_copy scenes) ks
  all_alike [] known = refl
  all_alike (k ∷ ks) known =
      map-append seen (copy_leaves parts k) (flat_map (copy_leaves parts) ks)
      ∙ ap₂ (λ (xs ys : List LeafSeen). xs ++ ys) (copy_alike k (known k (inl refl))) (all_alike ks (λ j m. known j (inr m)))

  all_driven : (ks : List ModuleCopy) (free : ℕ) → KnownAll ks → AreBehind scenes free ks → ((k : ModuleCopy) → In ks k → IsDrivenAlike scenes c k)
      → (y : ℕ) (l : DesignLeaf) → slice_get (flat_map (copy_leaves parts) ks) y ≡ Some l → is_register (role_of c (free + y)) ≡ true
      → l.is_driven ≡ drives_any (free + y) c.body
  all_driven [] free known behind alike y l e is = cc
  all_driven (k ∷ ks) free known behind alike y l e is =
      let n = known k (inl refl) in
      let here = copy_leaves parts k in
      let rest = flat_map (copy_leaves parts) ks in
      let inner = length (inner_leaves (module_of_copy scenes k)) in
      let long : length here ≡ inner = copy_length k n in
      ⊎_elim
      (λ (lt : y < length here).
      let at : k.own + y ≡ free + y = ap (λ z. z + y) behind.0 in
      copy_driven k n y l (sym (get_left here rest y lt) ∙ e)
      ∙ sym (alike k (inl refl) y (omega arith) (ap (λ z. is_register (role_of c z)) at ∙ is)) ∙ ap (λ z. drives_any z c.body) at)
      (λ (le : length here ≤ y).
      let z = y - length here in
      let at : length here + z ≡ y = omega arith in
      let there : (free + inner) + z ≡ free + y = omega arith in
      all_driven ks (free + inner) (λ j m. known j (inr m)) behind.1 (λ j m. alike j (inr m)) z l
      (sym (get_right here rest z) ∙ ap (slice_get (here ++ rest)) at ∙ e) (ap (λ x. is_register (role_of c x)) there ∙ is)
      ∙ ap (λ x. drives_any x c.body) there)
      (cases_lt y (length here))

  -- all leaves
  module _ (main : Scene) (first : ModuleCopy) (others : List ModuleCopy) (known : KnownAll (first ∷ others))
      (is_main : slice_get scenes first.module_number ≡ Some main) where
    abbrev copies : List ModuleCopy
    copies = first ∷ others

    abbrev ports : ℕ
    ports = (leafed_module main).port_leaves

    abbrev main_known : Known scenes parts c first
    main_known = known first (inl refl)

    main_scene : main_known.stands.scene ≡ main
    main_scene = two_items scenes first.module_number main_known.stands.scene main main_known.stands.is is_main

    pub main_room : ports ≤ length (leafed_module main).leaves
    main_room = subst (λ (s : Scene). (leafed_module s).port_leaves ≤ length (leafed_module s).leaves) main_scene main_known.stands.ports

    pub main_is_part : IsPartOf (leafed_module main) main_known.part
    main_is_part = subst (λ (s : Scene). IsPartOf (leafed_module s) main_known.part) main_scene main_known.is_part

    ports_are : map seen (port_part (main_part parts copies)) ≡ map (seen_behind []) (port_leaves (leafed_module main))
    ports_are = ap (λ o. map seen (port_part o)) main_known.part_is ∙ ports_alike (leafed_module main) main_known.part main_is_part main_room

    ports_count : length (port_part (main_part parts copies)) ≡ ports
    ports_count =
        sym (length-map (port_part (main_part parts copies)) seen) ∙ ap length ports_are
        ∙ length-map (port_leaves (leafed_module main)) (seen_behind []) ∙ length-take ports (leafed_module main).leaves ∙ omega (arith, main_room)

    module _
        (leaves : map (seen_behind []) c.leaves
        ≡ map (seen_behind []) (port_leaves (leafed_module main)) ++ flat_map (leaves_of_copy scenes) copies) where
      leaves_alike : map seen (leaves_of parts copies) ≡ map (seen_behind []) c.leaves
      leaves_alike =
          map-append seen (port_part (main_part parts copies)) (flat_map (copy_leaves parts) copies)
          ∙ ap₂ (λ (xs ys : List LeafSeen). xs ++ ys) ports_are (all_alike copies known) ∙ sym leaves

      pub leaves_count : length (leaves_of parts copies) ≡ length c.leaves
      leaves_count = sym (length-map (leaves_of parts copies) seen) ∙ ap length leaves_alike ∙ length-map c.leaves (seen_behind [])

      module _ (behind : AreBehind scenes ports copies) (alike : (k : ModuleCopy) → In copies k → IsDrivenAlike scenes c k)
          (no_registers : (x : ℕ) → x < ports → is_register (role_of c x) ≡ false) where
        driven_alike : (x : ℕ) (l : DesignLeaf) → slice_get (leaves_of parts copies) x ≡ Some l → is_register (role_of c x) ≡ true
            → l.is_driven ≡ drives_any x c.body
        driven_alike x l e is =
            ⊎_elim
            (λ (lt : x < ports). let none = no_registers x lt in cc)
            (λ (le : ports ≤ x).
            let y = x - ports in
            let here = port_part (main_part parts copies) in
            let rest = flat_map (copy_leaves parts) copies in
            let at : ports + y ≡ x = omega arith in
            let along : length here + y ≡ x = omega (arith, ports_count) in
            all_driven copies ports known behind alike y l (sym (get_right here rest y) ∙ ap (slice_get (here ++ rest)) along ∙ e)
            (ap (λ z. is_register (role_of c z)) at ∙ is)
            ∙ ap (λ z. drives_any z c.body) at)
            (cases_lt x ports)

        pub leaf_is : (x : ℕ) (l : DesignLeaf) → slice_get (leaves_of parts copies) x ≡ Some l → IsLeafOf c x l
        leaf_is x l e =
            let one = beside (seen_behind []) seen c.leaves (leaves_of parts copies) (sym leaves_alike) x l e in
            let at : leaf_at c.leaves x ≡ one.0 = get_or_from_slice_get c.leaves x one.0 no_leaf one.1 in
            let same : seen_behind [] (leaf_at c.leaves x) ≡ seen l = ap (seen_behind []) at ∙ one.2 in
            record {
              path = ap (λ (s : LeafSeen). s.path) (sym same);
              place = ap (λ (s : LeafSeen). s.place) (sym same);
              held = ap (λ (s : LeafSeen). s.holds) (sym same);
              driven = driven_alike x l e;
            }
