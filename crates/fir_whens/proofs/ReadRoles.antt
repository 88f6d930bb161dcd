-- The roles of the code stand for those of the net: their bounds stand for the lowered terms.
use Rattle.std.proofs.Common.{◌≡◌, ℕ, ◌+◌, ◌<◌, ◌≤◌, ◌⊎◌, List, [], ◌∷◌, ◌++◌, length, min, Option, Some, None, refl, ap, sym, ◌∙◌, subst, inl, inr, arith, ⊎_elim}
use Rattle.std.specs.Prelude.{option_map, slice_get}
use Rattle.std.proofs.lemmas.Bool.{cases_lt}
use Rattle.std.proofs.lemmas.List.{length_push}
use Rattle.std.proofs.lemmas.Option.{none-some, same_Some, slice_get_within}
use Rattle.fir_base.proofs.Elements.{get_behind, get_left}
use Rattle.fir_bits.specs.Forms.{no_type}
use Rattle.fir_leaf.specs.declared.node.Node.{Node as LeafNode}
use Rattle.fir_leaf.specs.working.Nodes.{entries, node_term}
use Rattle.fir_leaf_circuit.specs.declared.leaf.Leaf.{Leaf}
use Rattle.fir_leaf_circuit.specs.declared.leaf.LeafRole.TheVariants as leafed
use Rattle.fir_leaf_circuit.specs.declared.leaf.ResetRole.{ResetRole}
use Rattle.fir_leaf_circuit.specs.working.Seen.{reset_seen}
use Rattle.fir_leaf_types.specs.working.TypedBlocks.{MayGive}
use Rattle.fir_leaf_types.specs.working.TypedModules.{IsResetTyped}
use Rattle.fir_leaf_types.specs.working.TypedTerms.{HasType, one_bit}
use Rattle.fir_meaning.specs.LeafTypes.{LeafType, a_clock}
use Rattle.fir_meaning.specs.working.Terms.{zeros}
use Rattle.fir_net.specs.declared.node.Node.{Node}
use Rattle.fir_connect.specs.working.Lowered.{lowered, zero_of}
use Rattle.fir_connect.specs.working.LoweredLaws.{types_of}
use Rattle.fir_connect.specs.working.NetRoles.{net_reset}
use Rattle.fir_connect.specs.working.NetTerms.{NetTerm}
use Rattle.fir_connect.proofs.LoweredTypes.{lowered_has_type}
use Rattle.fir_merge.specs.declared.bound.Bound.{Bound}
use Rattle.fir_merge.specs.working.Bounds.{StandsFor}
use Rattle.fir_merge.specs.working.Entries.{EntriesStand, value_in}
use Rattle.fir_merge.specs.working.Made.{made}
use Rattle.fir_merge.proofs.LoweredEntries.{value_is_lowered}
use Rattle.fir_merge.proofs.StandingEntries.{value_stands}
use Rattle.fir_whens.specs.declared.net_role.NetReset.{NetReset}
use Rattle.fir_whens.specs.declared.net_role.NetRole.{NetRole}
use Rattle.fir_whens.specs.declared.net_role.NetRole.TheVariants as code
use Rattle.fir_whens.specs.working.StandingRoles.{AreRolesOf, IsRoleOf, ResetStands, reset_over}

module _ (held : ℕ → LeafType) (net : List Node) (nodes : List LeafNode) (bounds : List Bound) (nothing : Bound)
    (entries_stand : EntriesStand (types_of held) net bounds (entries nodes)) where
  pub typed_value : (k : ℕ) (t : LeafType) → HasType held (node_term nodes k) t
      → StandsFor (types_of held) net (value_in nodes bounds nothing k) (lowered (types_of held) (node_term nodes k))
  typed_value k t typed = value_is_lowered held lowered_has_type net nodes bounds nothing k t entries_stand typed

  module _ (zero_stands : StandsFor (types_of held) net nothing (zero_of no_type)) where
    -- what `is invalid` drives is zero of no bits
    pub given_value : (k : ℕ) (t : LeafType) → MayGive held (node_term nodes k) t
        → StandsFor (types_of held) net (value_in nodes bounds nothing k) (lowered (types_of held) (node_term nodes k))
    given_value k t may =
        let made_stands = value_stands (types_of held) net nodes bounds nothing k entries_stand zero_stands in
        ⊎_elim
        (λ (none : node_term nodes k ≡ zeros).
        subst (λ (e : NetTerm). StandsFor (types_of held) net (value_in nodes bounds nothing k) e)
        (ap (made (types_of held)) none ∙ ap (lowered (types_of held)) (sym none)) made_stands)
        (λ (typed : HasType held (node_term nodes k) may.data_type). typed_value k may.data_type typed)
        may.has

    pub reset_stands : (t : LeafType) (reset : Option ResetRole) → IsResetTyped held t (option_map (reset_seen nodes) reset)
        → ResetStands (types_of held) net (reset_over nodes bounds nothing reset) (option_map (net_reset (types_of held)) (option_map (reset_seen nodes) reset))
    reset_stands t None typed = tt
    reset_stands t (Some r) typed = (refl, typed_value r.condition one_bit typed.0, given_value r.init t typed.1)

module _ (nodes : List LeafNode) (bounds : List Bound) (nothing : Bound) where
  pub computed_role : (driver : Bound) (k : ℕ) (r : Bound) → r ≡ value_in nodes bounds nothing k
      → IsRoleOf nodes bounds nothing driver (leafed.Computed k) (code.Computed r)
  computed_role driver k r is held net depth x b entries_stand zero_stands typed drives =
      subst (λ (v : Bound). StandsFor (types_of held) net v (lowered (types_of held) (node_term nodes k))) (sym is)
      (typed_value held net nodes bounds nothing entries_stand k (held x) typed)

  pub register_role : (driver : Bound) (clock : ℕ) (reset : Option ResetRole) (r : Bound) (s : Option NetReset) → r ≡ value_in nodes bounds nothing clock
      → s ≡ reset_over nodes bounds nothing reset → IsRoleOf nodes bounds nothing driver (leafed.Register clock reset) (code.Register r s driver)
  register_role driver clock reset r s is made held net depth x b entries_stand zero_stands typed drives = (
    subst (λ (v : Bound). StandsFor (types_of held) net v (lowered (types_of held) (node_term nodes clock))) (sym is)
        (typed_value held net nodes bounds nothing entries_stand clock a_clock typed.1),
    subst (λ (v : Option NetReset). ResetStands (types_of held) net v (option_map (net_reset (types_of held)) (option_map (reset_seen nodes) reset))) (sym made)
        (reset_stands held net nodes bounds nothing entries_stand zero_stands (held x) reset typed.2),
    drives,
  )

  module _ (drivers : List Bound) (leaves : List Leaf) where
    -- those of so many leaves
    pub record RolesSoFar (roles : List NetRole) (k : ℕ) : Type 0 where
      pub count : length roles ≡ k
      pub each : (x : ℕ) (leaf : Leaf) (driver : Bound) (r : NetRole) → slice_get leaves x ≡ Some leaf → slice_get drivers x ≡ Some driver
          → slice_get roles x ≡ Some r → IsRoleOf nodes bounds nothing driver leaf.role r

    pub no_roles : RolesSoFar [] 0
    no_roles = record { count = refl; each = λ x leaf driver r of by at. absurd (none-some r at) }

    pub one_more_role : (roles : List NetRole) (k : ℕ) (leaf : Leaf) (driver : Bound) (new : NetRole) → slice_get leaves k ≡ Some leaf
        → slice_get drivers k ≡ Some driver → IsRoleOf nodes bounds nothing driver leaf.role new → RolesSoFar roles k → RolesSoFar (roles ++ new ∷ []) (k + 1)
    one_more_role roles k leaf driver new of_leaf by_driver is_role h = record {
      count = omega (arith, length_push roles new, h.count);
      each = λ x l d r of by at. where_at x l d r of by at (cases_lt x (length roles));
    }
      where
        where_at : (x : ℕ) (l : Leaf) (d : Bound) (r : NetRole) → slice_get leaves x ≡ Some l → slice_get drivers x ≡ Some d
            → slice_get (roles ++ new ∷ []) x ≡ Some r → (x < length roles) ⊎ (length roles ≤ x) → IsRoleOf nodes bounds nothing d l.role r
        where_at x l d r of by at (inl before) = h.each x l d r of by (sym (get_left roles (new ∷ []) x before) ∙ at)
        where_at x l d r of by at (inr past) =
            let long = slice_get_within (roles ++ new ∷ []) x r at in
            let last : length roles ≡ x = omega (arith, long, past, length_push roles new) in
            let place : k ≡ x = sym h.count ∙ last in
            let same_role : new ≡ r = same_Some new r (sym (get_behind roles [] new) ∙ ap (slice_get (roles ++ new ∷ [])) last ∙ at) in
            let same_leaf : leaf ≡ l = same_Some leaf l (sym of_leaf ∙ ap (slice_get leaves) place ∙ of) in
            let same_driver : driver ≡ d = same_Some driver d (sym by_driver ∙ ap (slice_get drivers) place ∙ by) in
            subst (λ (m : Leaf). IsRoleOf nodes bounds nothing d m.role r) same_leaf
            (subst (λ (e : Bound). IsRoleOf nodes bounds nothing e leaf.role r) same_driver
            (subst (λ (n : NetRole). IsRoleOf nodes bounds nothing driver leaf.role n) same_role is_role))

    pub all_roles : (roles : List NetRole) (k : ℕ) → k ≡ min (length leaves) (length drivers) → RolesSoFar roles k
        → AreRolesOf nodes bounds nothing drivers leaves roles
    all_roles roles k whole h = record { count = λ same. omega (arith, h.count, whole, same); each = h.each }
