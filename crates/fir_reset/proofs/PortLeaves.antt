-- The leaves of a module's ports, as those of the bundle of all of them.
use Rattle.std.proofs.Common.{◌≡◌, ℕ, suc, ◌+◌, List, [], ◌∷◌, ◌++◌, map, Bool, true, false, Option, Some, None, refl, inl, inr, ⊎_elim, ap, sym, ◌∙◌, subst, arith}
use Rattle.std.specs.Prelude.{option_map, slice_get}
use Rattle.std.specs.Str.{bytes_eq}
use Rattle.fir_base.specs.Lists.{In}
use Rattle.fir_base.proofs.Members.{in_left, in_right, in_either, in_map, in_map_from}
use Rattle.fir_base.proofs.SameNames.{name_same, name_other, name_apart}
use Rattle.fir_ast.specs.declared.place.Place.{Place}
use Rattle.fir_ast.specs.Circuits.{PortTree, ModuleTree, CircuitTree}
use Rattle.fir_meaning.specs.LeafPaths.{LeafPath, named}
use Rattle.fir_meaning.specs.TypeLeaves.{TypeLeaf, under, type_leaves, field_leaves}
use Rattle.fir_meaning.specs.Components.{Declaration, Declarations, find, port, instance}
use Rattle.fir_meaning.specs.Visibility.{declarations}
use Rattle.fir_meaning.specs.TypedScopes.{TypedScope}
use Rattle.fir_meaning.specs.ComponentTypes.{is_input, port_fields, instance_bundle, typed_scope}
use Rattle.fir_meaning.specs.SharedLeaves.{shared_count}
use Rattle.fir_meaning.proofs.FreshFields.{field_names, AreFresh}
use Rattle.fir_meaning.proofs.FoundDeclarations.{once_found}
use Rattle.fir_meaning.specs.ResetItems.{leaf_end, declared_at}
use Rattle.fir_meaning.specs.ResetJoins.{port_place}
use Rattle.fir_meaning.specs.ResetWalks.{IsLeafOf}
use Rattle.fir_reset.specs.working.DeclaredLeaves.{Declares, IsNoInstance}
use Rattle.fir_reset.specs.working.LeafClasses.{Class, of_ports, behind_so_many, offset_in, offset_in_fields, class_among, class_in}
use Rattle.fir_reset.proofs.DeclaredOnce.{one_declaration}
use Rattle.fir_reset.proofs.PortsInFront.{port_declared, port_known, PortsFirst, ports_first}
use Rattle.fir_reset.proofs.FreshScopes.{Sound}

-- the class of a leaf of ports, by its offset in the bundle of all
abbrev pub ports_class : ℕ → Option ℕ → Option Class
ports_class number o = option_map (λ k. record { number = number; part = of_ports; offset = k }) o

abbrev from_class : ℕ → ℕ → Option ℕ → Option Class
from_class number before o = option_map (λ k. record { number = number; part = of_ports; offset = before + k }) o

further_class : (number before count : ℕ) (o : Option ℕ) → from_class number (before + count) o ≡ from_class number before (behind_so_many count o)
further_class number before count None = refl
further_class number before count (Some k) =
    let sum : (before + count) + k ≡ before + (count + k) = omega arith in
    ap (λ n. Some (record { number = number; part = of_ports; offset = n })) sum

from_none : (number : ℕ) (o : Option ℕ) → from_class number 0 o ≡ ports_class number o
from_none number None = refl
from_none number (Some k) = let sum : 0 + k ≡ k = omega arith in ap (λ n. Some (record { number = number; part = of_ports; offset = n })) sum

among_ports : (number : ℕ) (modules : List ModuleTree) (position before : ℕ) (ps : List PortTree) (ds : Declarations) (ks : TypedScope) (x : List ℕ) (path : LeafPath)
    → In (field_names (port_fields ps)) x
    → class_among number modules position before (map port_declared ps ++ ds) (map port_known ps ++ ks) x path ≡ from_class number before (offset_in_fields (port_fields ps) x path)
among_ports number modules position before [] ds ks x path m = absurd m
among_ports number modules position before (p ∷ ps) ds ks x path m =
    by (bytes_eq p.named.name x) refl m (among_ports number modules (suc position) (before + shared_count p.data_type) ps ds ks x path)
  where
    by : (b : Bool) → bytes_eq p.named.name x ≡ b → In (field_names (port_fields (p ∷ ps))) x
        → (In (field_names (port_fields ps)) x → class_among number modules (suc position) (before + shared_count p.data_type) (map port_declared ps ++ ds) (map port_known ps ++ ks) x path
        ≡ from_class number (before + shared_count p.data_type) (offset_in_fields (port_fields ps) x path))
        → class_among number modules position before (map port_declared (p ∷ ps) ++ ds) (map port_known (p ∷ ps) ++ ks) x path
        ≡ from_class number before (offset_in_fields (port_fields (p ∷ ps)) x path)
    by true e m rest = rw e refl
    by false e (inl same) rest = absurd (name_apart p.named.name x e same)
    by false e (inr m) rest = rw e (rest m ∙ further_class number before (shared_count p.data_type) (offset_in_fields (port_fields ps) x path))

pub port_class : (number : ℕ) (modules : List ModuleTree) (m : ModuleTree) (x : List ℕ) (path : LeafPath) → In (field_names (port_fields m.ports)) x
    → class_in number modules (Some m) (named x ∷ path) ≡ ports_class number (offset_in (instance_bundle m) (named x ∷ path))
port_class number modules m x path i =
    let first = ports_first modules m in
    ap (λ ds. class_among number modules 0 0 ds (typed_scope modules (declarations m)) x path) first.declared.is
    ∙ ap (λ ks. class_among number modules 0 0 (map port_declared m.ports ++ first.declared.rest) ks x path) first.known.is
    ∙ among_ports number modules 0 0 m.ports first.declared.rest first.known.rest x path i ∙ from_none number (offset_in_fields (port_fields m.ports) x path)

-- the port to which a leaf of the bundle belongs
pub record PortLeaf (ps : List PortTree) (l : TypeLeaf) : Type 0 where
  pub port : PortTree
  pub among : In ps port
  pub inner : TypeLeaf
  pub is_leaf : In (type_leaves port.data_type) inner
  pub is : under (is_input port.direction) (named port.named.name) inner ≡ l

port_leaf : (ps : List PortTree) (l : TypeLeaf) → In (field_leaves (port_fields ps)) l → PortLeaf ps l
port_leaf [] l m = absurd m
port_leaf (p ∷ ps) l m =
    let here = map (under (is_input p.direction) (named p.named.name)) (type_leaves p.data_type) in
    ⊎_elim
    (λ (k : In here l).
    let from = in_map_from (under (is_input p.direction) (named p.named.name)) (type_leaves p.data_type) l k in
    record { port = p; among = inl refl; inner = from.0; is_leaf = from.1; is = from.2 })
    (λ (k : In (field_leaves (port_fields ps)) l).
    let r = port_leaf ps l k in record { port = r.port; among = inr r.among; inner = r.inner; is_leaf = r.is_leaf; is = r.is })
    (in_either here (field_leaves (port_fields ps)) l m)

-- and the other way round
pub leaf_of_port : (ps : List PortTree) (p : PortTree) (l : TypeLeaf) → In ps p → In (type_leaves p.data_type) l
    → In (field_leaves (port_fields ps)) (under (is_input p.direction) (named p.named.name) l)
leaf_of_port [] p l m i = absurd m
leaf_of_port (q ∷ ps) p l (inl e) i =
    in_left (map (under (is_input q.direction) (named q.named.name)) (type_leaves q.data_type)) (field_leaves (port_fields ps))
    (under (is_input p.direction) (named p.named.name) l)
    (subst (λ (y : PortTree). In (map (under (is_input y.direction) (named y.named.name)) (type_leaves y.data_type)) (under (is_input p.direction) (named p.named.name) l)) (sym e)
    (in_map (under (is_input p.direction) (named p.named.name)) (type_leaves p.data_type) l i))
leaf_of_port (q ∷ ps) p l (inr m) i =
    in_right (map (under (is_input q.direction) (named q.named.name)) (type_leaves q.data_type)) (field_leaves (port_fields ps))
    (under (is_input p.direction) (named p.named.name) l) (leaf_of_port ps p l m i)

pub port_among : (ps : List PortTree) (p : PortTree) → In ps p → In (field_names (port_fields ps)) p.named.name
port_among [] p m = absurd m
port_among (q ∷ ps) p (inl e) = inl (ap (λ (y : PortTree). y.named.name) e)
port_among (q ∷ ps) p (inr m) = inr (port_among ps p m)

-- where a port is declared
place_of_port : (ps : List PortTree) (p : PortTree) (q : Place) (path : LeafPath) → AreFresh (port_fields ps) → In ps p
    → port_place q ps (named p.named.name ∷ path) ≡ p.named.place
place_of_port [] p q path h m = absurd m
place_of_port (x ∷ ps) p q path h (inl e) = rw (e, name_same p.named.name) refl
place_of_port (x ∷ ps) p q path h (inr m) =
    let apart = name_other x.named.name p.named.name (λ e. h.0 (subst (In (field_names (port_fields ps))) (sym e) (port_among ps p m))) in
    rw apart (place_of_port ps p q path h.2 m)

-- each leaf of the bundle is one of what the module declares
pub record PortEnd (c : CircuitTree) (number : ℕ) (m : ModuleTree) (q : Place) (l : TypeLeaf) : Type 0 where
  pub is_leaf : IsLeafOf c (leaf_end number (port_place q m.ports l.path) l.path l.ground_type)
  pub class : class_in number c.modules (Some m) l.path ≡ ports_class number (offset_in (instance_bundle m) l.path)
  pub no_instance : IsNoInstance c number l.path

pub port_end : (c : CircuitTree) (number : ℕ) (m : ModuleTree) (q : Place) (l : TypeLeaf) → Sound c.modules m → slice_get c.modules number ≡ Some m
    → In (type_leaves (instance_bundle m)) l → PortEnd c number m q l
port_end c number m q l sound there i = at l from.is
  where
    from : PortLeaf m.ports l
    from = port_leaf m.ports l i

    first : PortsFirst c.modules m
    first = ports_first c.modules m

    declared : In (declarations m) (port_declared from.port)
    declared =
        subst (λ ds. In ds (port_declared from.port)) (sym first.declared.is)
        (in_left (map port_declared m.ports) first.declared.rest (port_declared from.port) (in_map port_declared m.ports from.port from.among))

    known : In (typed_scope c.modules (declarations m)) (port_known from.port)
    known =
        subst (λ ks. In ks (port_known from.port)) (sym first.known.is)
        (in_left (map port_known m.ports) first.known.rest (port_known from.port) (in_map port_known m.ports from.port from.among))

    place : (path : LeafPath) → port_place q m.ports (named from.port.named.name ∷ path)
        ≡ declared_at (port_place q m.ports (named from.port.named.name ∷ path)) (find (declarations m) from.port.named.name)
    place path =
        place_of_port m.ports from.port q path sound.ports from.among
        ∙ ap (declared_at (port_place q m.ports (named from.port.named.name ∷ path))) (sym (once_found (declarations m) sound.once (port_declared from.port) declared))

    no_instance : (path : LeafPath) → IsNoInstance c number (named from.port.named.name ∷ path)
    no_instance path d name h is =
        let declares : Declares c number (named from.port.named.name ∷ path) (port_declared from.port) = record {
          inside = m;
          is_module = there;
          name = from.port.named.name;
          rest = path;
          path_is = refl;
          found = once_found (declarations m) sound.once (port_declared from.port) declared;
        } in
        let same = one_declaration c number (named from.port.named.name ∷ path) d (port_declared from.port) h declares in
        let unlike : port from.port.direction from.port.data_type ≡ instance name = ap (λ (y : Declaration). y.component) (sym same) ∙ is in
        cc

    at : (y : TypeLeaf) → under (is_input from.port.direction) (named from.port.named.name) from.inner ≡ y → PortEnd c number m q y
    at y e =
        subst (PortEnd c number m q) e
        (record {
          is_leaf = record {
            number = number;
            inside = m;
            is_module = there;
            declared = port_known from.port;
            is_declared = known;
            data_type = from.port.data_type;
            has_type = refl;
            leaf = from.inner;
            is_leaf = from.is_leaf;
            item = refl;
            ground_type = refl;
            place = place from.inner.path;
          };
          class = port_class number c.modules m from.port.named.name from.inner.path (port_among m.ports from.port from.among);
          no_instance = no_instance from.inner.path;
        })
