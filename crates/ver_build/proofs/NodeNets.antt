-- The nets of a node, from where it is held.
-- A literal has none, and neither has a node of no bits; every other one has a net of its own, and those before it.
use Rattle.std.proofs.Common.{◌≡◌, ℕ, ◌≤◌, List, [], ◌∷◌, ◌++◌, map, length, Bool, true, false, nat_eq, refl, sym, ap, ◌∙◌, inl, inr, ◌⊎◌, ⊎_elim, arith, Option, Some, None}
use Rattle.std.specs.Prelude.{slice_get, MatchBool}
use Rattle.std.proofs.lemmas.Bool.{eqb-true, eqb-false}
use Rattle.fir_base.specs.Lists.{In}
use Rattle.fir_bits.specs.declared.operators.PrimOp.{PrimOp}
use Rattle.fir_bits.specs.declared.operators.PrimOp.TheVariants as op
use Rattle.fir_bits.specs.declared.values.Num.{Num}
use Rattle.fir_net.specs.declared.reads.Read.{Read}
use Rattle.fir_net.specs.declared.reads.Read.TheVariants as read
use Rattle.fir_net.specs.declared.node.Operation.{Operation}
use Rattle.fir_net.specs.declared.node.Mux.{Mux}
use Rattle.fir_net.specs.declared.node.Node.{Node}
use Rattle.fir_net.specs.declared.node.Node.TheVariants as node
use Rattle.fir_net.specs.declared.net.FlatNet.{FlatNet}
use Rattle.fir_net.specs.working.IsNet.{node_type}
use Rattle.ver_ast.specs.declared.tree.Rhs.{Rhs}
use Rattle.ver_build.specs.declared.held.Source.{Source}
use Rattle.ver_build.specs.declared.held.Source.TheVariants as source
use Rattle.ver_build.specs.declared.held.Held.{Held}
use Rattle.ver_build.specs.declared.places.NodePlace.{NodePlace}
use Rattle.ver_build.specs.declared.places.Places.{Places}
use Rattle.ver_build.specs.working.Held.{whole_net, own_held, held_literal}
use Rattle.ver_build.specs.declared.right_sides.Inner.{Inner}
use Rattle.ver_build.specs.working.Texts.{operation_inners}
use Rattle.ver_build.specs.working.Places.{held_of, IsNodePlace, AreNodesHeld, inner_names, node_at, node_names, node_names_at, read_names, source_name, node_helpers}
use Rattle.ver_build.specs.working.Built.{order_inners, node_inners, placed_inners, inners_at, read_inners}
use Rattle.ver_build.proofs.Lists.{flat_mapped}
use Rattle.ver_build.proofs.NodeMeaning.{operation_names}
use Rattle.ver_build.proofs.Nets.{inner_name}
use Rattle.fir_net_names.specs.declared.name_table.NameTable.{NameTable}

-- a literal
pub record IsLiteral (n : Node) (at : NodePlace) : Type 0 where
  pub value : Num
  pub node : n ≡ node.Literal value
  pub held : at.held ≡ held_literal value

-- a node of no bits
pub record IsEmpty (n : Node) (at : NodePlace) : Type 0 where
  pub none : (node_type n).width ≡ 0
  pub held : at.held ≡ own_held (node_type n).signed 0 None
  pub helpers : at.helpers ≡ []
  pub named : node_names n at ≡ at.helpers ++ source_name at.held.source

-- a node with a net of its own, of that name
pub record IsNetted (p : Places) (n : Node) (at : NodePlace) : Type 0 where
  pub name : List ℕ
  pub some : 1 ≤ (node_type n).width
  pub held : at.held ≡ whole_net name (node_type n).signed (node_type n).width
  pub side : Rhs
  pub inside : In (node_inners p n at.helpers name) (record { name = name; width = (node_type n).width; rhs = side })
  pub inners_named : map inner_name (node_inners p n at.helpers name) ≡ at.helpers ++ name ∷ []
  pub named : node_names n at ≡ at.helpers ++ source_name at.held.source

no_helpers : {A : Type 0} → (xs : List A) → length xs ≡ 0 → xs ≡ []
no_helpers [] e = refl
no_helpers (x ∷ xs) e = absurd (omega arith)

own_inside : (o : PrimOp) (r : ℕ) (a b : Held) (n m : ℕ) (helpers : List (List ℕ)) (name : List ℕ)
    → (x : Rhs) × In (operation_inners o r a b n m helpers name) (record { name = name; width = r; rhs = x })
own_inside op.Div r a b n m helpers name = (_, inr (inr (inr (inl refl))))
own_inside op.Rem r a b n m helpers name = (_, inr (inr (inr (inl refl))))
own_inside _ r a b n m helpers name = (_, inl refl)

abbrev View : Places → Node → NodePlace → Type 0
View p n at = IsLiteral n at ⊎ (IsEmpty n at ⊎ IsNetted p n at)

operation_view : (p : Places) (o : Operation) (at : NodePlace) (b : Bool) → nat_eq o.width 0 ≡ b
    → MatchBool b (at.held ≡ own_held o.signed o.width None) ((name : List ℕ) × (at.held ≡ whole_net name o.signed o.width))
    → length at.helpers ≡ node_helpers (node.Operation o) → View p (node.Operation o) at
operation_view p o at true e own count =
    let none : o.width ≡ 0 = eqb-true _ _ e in
    inr (inl (record {
      none = none;
      held = own
          ∙ ap (λ (w : ℕ). own_held o.signed w None) none;
      helpers = no_helpers at.helpers (rw e at count);
      named = refl;
    }))
operation_view p o at false e own count =
    let some : o.width ≡ 0 → ⊥ = eqb-false _ _ e in
    let inside = own_inside o.op o.width _ _ _ _ at.helpers own.0 in
    inr (inr (record {
      name = own.0;
      some = omega arith;
      held = own.1;
      side = inside.0;
      inside = inside.1;
      inners_named = operation_names o.op o.integers (map (held_of p) o.reads) at.helpers own.0 o.width (rw e at count);
      named = refl;
    }))

mux_view : (p : Places) (m : Mux) (at : NodePlace) (b : Bool) → nat_eq m.width 0 ≡ b
    → MatchBool b (at.held ≡ own_held m.signed m.width None) ((name : List ℕ) × (at.held ≡ whole_net name m.signed m.width))
    → length at.helpers ≡ 0 → View p (node.Mux m) at
mux_view p m at true e own count =
    let none : m.width ≡ 0 = eqb-true _ _ e in
    inr (inl (record {
      none = none;
      held = own
          ∙ ap (λ (w : ℕ). own_held m.signed w None) none;
      helpers = no_helpers at.helpers count;
      named = refl;
    }))
mux_view p m at false e own count =
    let some : m.width ≡ 0 → ⊥ = eqb-false _ _ e in
    let no_others : at.helpers ≡ [] = no_helpers at.helpers count in
    inr (inr (record { name = own.0; some = omega arith; held = own.1; side = _; inside = inl refl; inners_named = rw no_others refl; named = refl }))

pub node_view : (p : Places) (n : Node) (at : NodePlace) → IsNodePlace n at → View p n at
node_view p (node.Literal v) at is = inl (record { value = v; node = refl; held = is.held })
node_view p (node.Operation o) at is = operation_view p o at (nat_eq o.width 0) refl is.held is.helpers
node_view p (node.Mux m) at is = mux_view p m at (nat_eq m.width 0) refl is.held is.helpers

-- the inner nets of a node
abbrev pub given_inners : Places → Node → NodePlace → List Inner
given_inners p n at = placed_inners p n at.helpers at.held.source

literal_inners : (p : Places) (v : Num) (helpers : List (List ℕ)) (s : Source) → placed_inners p (node.Literal v) helpers s ≡ []
literal_inners p v helpers (source.Number k) = refl
literal_inners p v helpers (source.Net part) = refl

pub no_inners : (p : Places) (n : Node) (at : NodePlace) → IsLiteral n at → given_inners p n at ≡ []
no_inners p n at is = ap (λ (m : Node). given_inners p m at) is.node ∙ literal_inners p is.value at.helpers at.held.source

pub empty_inners : (p : Places) (n : Node) (at : NodePlace) → IsEmpty n at → given_inners p n at ≡ []
empty_inners p n at is = ap (λ (h : Held). placed_inners p n at.helpers h.source) is.held

pub netted_inners : (p : Places) (n : Node) (at : NodePlace) (is : IsNetted p n at) → given_inners p n at ≡ node_inners p n at.helpers is.name
netted_inners p n at is = ap (λ (h : Held). placed_inners p n at.helpers h.source) is.held

given_named : (p : Places) (n : Node) (at : NodePlace) → IsNodePlace n at → map inner_name (given_inners p n at) ≡ node_names n at
given_named p n at is =
    ⊎_elim
    (λ (l : IsLiteral n at). ap (map inner_name) (no_inners p n at l) ∙ sym (ap (λ (m : Node). node_names m at) l.node))
    (λ (o : IsEmpty n at ⊎ IsNetted p n at).
    ⊎_elim
    (λ (e : IsEmpty n at). ap (map inner_name) (empty_inners p n at e) ∙ sym (e.named ∙ rw (e.helpers, e.held) refl))
    (λ (h : IsNetted p n at).
    ap (map inner_name) (netted_inners p n at h) ∙ h.inners_named
    ∙ sym (h.named ∙ ap (λ (x : Held). at.helpers ++ source_name x.source) h.held))
    o)
    (node_view p n at is)

module _ (net : FlatNet) (t : NameTable) (p : Places) (held : AreNodesHeld net p.nodes) (leaf_named : (k : ℕ) → map inner_name (read_inners net t p (read.Leaf k)) ≡ read_names net p.nodes p.readings (read.Leaf k)) where
  read_named : (r : Read) → map inner_name (read_inners net t p r) ≡ read_names net p.nodes p.readings r
  read_named (read.Leaf k) = leaf_named k
  read_named (read.Node k) = by_node (slice_get net.nodes k) refl
    where
      by_node : (o : Option Node) → slice_get net.nodes k ≡ o
          → map inner_name (inners_at p o (node_at p.nodes k)) ≡ node_names_at o (node_at p.nodes k)
      by_node None e = refl
      by_node (Some n) e = given_named p n (node_at p.nodes k) (held.each k n e)

  -- the nets of nodes have the inner names
  pub order_named : (order : List Read) → map inner_name (order_inners net t p order) ≡ inner_names net p.nodes p.readings order
  order_named order = flat_mapped inner_name (read_inners net t p) (read_names net p.nodes p.readings) read_named order
