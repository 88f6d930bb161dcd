-- What a role adds are nodes over the kept ones and those before them: the choice of a synchronous reset, and what enables a memory's port (FIRRTL spec, "Registers",
-- "Multiplexers", "Memories").
use Rattle.std.proofs.Common.{◌≡◌, ℕ, suc, ◌+◌, max, List, [], ◌∷◌, ◌++◌, length, Bool, true, false, if◌then◌else◌, Some, None, slice_get, refl, sym, ap, ap₂, ◌∙◌, subst, append_assoc, append-nil, length-append}
use Rattle.fir_bits.specs.declared.types.NumTy.{NumTy}
use Rattle.fir_leaf_circuit.specs.declared.leaf.LeafType.{LeafType as TypeOfCode}
use Rattle.fir_leaf_circuit.specs.declared.leaf.LeafType.TheVariants.{Clock, Number}
use Rattle.fir_leaf_types.specs.working.TypedModules.{held_in}
use Rattle.fir_meaning.specs.working.LeafCircuits.{LeafCircuit}
use Rattle.fir_connect.specs.working.CircuitModules.{as_module}
use Rattle.fir_connect.specs.working.NetRoles.{NetReset as ResetMeant, NetRole as RoleMeant, net_types}
use Rattle.fir_connect.specs.working.NetRoles as meant
use Rattle.fir_connect.specs.working.NetTerms.{NetTerm, term_type}
use Rattle.fir_net.specs.declared.leaf.Leaf.{Leaf}
use Rattle.fir_net.specs.declared.node.Node.{Node}
use Rattle.fir_net.specs.working.IsNet.{CanDrive, IsNode, read_type}
use Rattle.fir_merge.specs.declared.bound.Bound.{Bound}
use Rattle.fir_flat.specs.working.WholeRoles.{IsWholeIn}
use Rattle.fir_whens.specs.declared.net_role.NetReset.{NetReset}
use Rattle.fir_whens.specs.declared.net_role.NetRole.{NetRole}
use Rattle.fir_whens.specs.declared.net_role.NetRole.TheVariants as code
use Rattle.fir_flatten.specs.declared.design_net.DesignLeaf.{DesignLeaf}
use Rattle.fir_flatten.specs.working.FlatRoles.{added_behind, added_by, choice_node, choices_of_reset}
use Rattle.fir_flatten.specs.working.KeptNodes.{LeavesHold, moved}
use Rattle.fir_flatten.proofs.BuiltNodes.{AreBuilt, built_push}
use Rattle.fir_flatten.proofs.GivenRoles.{Drives, IsGiven, Resets}
use Rattle.fir_flatten.proofs.MovedRoles.{StandsMoved}
use Rattle.fir_flatten.proofs.PortBits.{reading_built}
use Rattle.fir_flatten.proofs.ReadTypes.{IsRead, read_is}

-- the one choice of a reset that acts at edges
pub one_choice : (places : List ℕ) (s : NetReset) (next : Bound) → s.is_async ≡ false → choices_of_reset places (Some s) next ≡ choice_node places s next ∷ []
one_choice places s next at_edge = ap (λ (b : Bool). if b then [] else (choice_node places s next ∷ [])) at_edge

module _
    (c : LeafCircuit) (leaves : List Leaf) (hold : LeavesHold leaves (held_in (as_module c)) (length c.leaves)) (places : List ℕ) (old ns : List Node)
    (built : AreBuilt leaves old ns) where
  pub read_of : (b : Bound) (t : NetTerm) → StandsMoved c places ns b t → IsWholeIn (as_module c) t → IsRead leaves ns (moved places b.read) (term_type (net_types (as_module c)) t)
  read_of b t h whole = read_is leaves (held_in (as_module c)) (length c.leaves) hold ns built.before built.are (moved places b.read) t h.below h.term whole

  -- what may drive a leaf can drive it
  pub drive_of : (u : NumTy) (b : Bound) (t : NetTerm) → Drives c (StandsMoved c places ns) u b t → CanDrive leaves ns u.signed (moved places b.read)
  drive_of u b t d =
      let own = read_of b t d.stands d.may.whole in
      record { can = own.can; kind = ap (λ (v : NumTy). v.signed) own.has_type ∙ d.may.kind }

  choice_is : (u : NumTy) (s : NetReset) (p : ResetMeant) (next : Bound) (t : NetTerm) → Resets c (StandsMoved c places ns) u s p
      → Drives c (StandsMoved c places ns) u next t → IsNode leaves ns (choice_node places s next)
  choice_is u s p next t h d =
      let condition = read_of s.condition p.condition h.condition h.whole in
      let first = read_of s.init p.init h.init.stands h.init.may.whole in
      let second = read_of next t d.stands d.may.whole in
      let first_type : read_type leaves ns (moved places s.init.read) ≡ s.init.ty = first.has_type ∙ sym h.init.stands.has_type in
      let second_type : read_type leaves ns (moved places next.read) ≡ next.ty = second.has_type ∙ sym d.stands.has_type in
      let first_kind : s.init.ty.signed ≡ u.signed = ap (λ (v : NumTy). v.signed) h.init.stands.has_type ∙ h.init.may.kind in
      record {
        reads = (condition.can, (first.can, (second.can, tt)));
        has_type = (
          condition.has_type ∙ h.has_one_bit,
          ap (λ (v : NumTy). v.signed) first_type,
          ap (λ (v : NumTy). v.signed) second.has_type ∙ d.may.kind ∙ sym first_kind,
          ap₂ (λ (v w : NumTy). max v.width w.width) (sym first_type) (sym second_type),
        );
      }

  no_choices : AreBuilt leaves old (ns ++ [])
  no_choices = subst (AreBuilt leaves old) (sym (append-nil ns)) built

  -- an asynchronous reset is no choice
  reset_built : (u : NumTy) (s : NetReset) (p : ResetMeant) (next : Bound) (t : NetTerm) → Resets c (StandsMoved c places ns) u s p
      → Drives c (StandsMoved c places ns) u next t → AreBuilt leaves old (ns ++ choices_of_reset places (Some s) next)
  reset_built u s p next t h d = by s.is_async
    where
      by : (b : Bool) → AreBuilt leaves old (ns ++ (if b then [] else (choice_node places s next ∷ [])))
      by true = no_choices
      by false =
          built_push leaves old ns (choice_node places s next) built (h.condition.below, (h.init.stands.below, (d.stands.below, tt)))
          (choice_is u s p next t h d)

  pub nodes_built : (holds : TypeOfCode) (r : NetRole) (q : RoleMeant) → IsGiven c (StandsMoved c places ns) holds r q
      → AreBuilt leaves old (ns ++ added_by places r (length ns))
  nodes_built Clock code.Source meant.source is = no_choices
  nodes_built (Number u) code.Source meant.source is = no_choices
  nodes_built Clock (code.Driven b) (meant.driven t) is = no_choices
  nodes_built Clock (code.Computed b) (meant.computed t) is = no_choices
  nodes_built (Number u) (code.Driven b) (meant.driven t) is = no_choices
  nodes_built (Number u) (code.Computed b) (meant.computed t) is = no_choices
  nodes_built (Number u) (code.Register clock None next) (meant.register k None t) is = no_choices
  nodes_built (Number u) (code.Register clock (Some s) next) (meant.register k (Some p) t) is = reset_built u s p next t is.1 is.2
  nodes_built (Number u) (code.Register clock None next) (meant.register k (Some p) t) is = absurd is.1
  nodes_built (Number u) (code.Register clock (Some s) next) (meant.register k None t) is = absurd is.1
  nodes_built (Number u) (code.Reading e) (meant.reading r) is = reading_built c leaves hold old ns built e.enable e.mode is.typed.needs
  nodes_built (Number u) (code.Pipe e clock under) (meant.pipe r k v) is = reading_built c leaves hold old ns built e.enable e.mode is.reads.typed.needs
  nodes_built holds r q is = absurd is

-- leaf by leaf
pub all_built : (leaves : List Leaf) (places : List ℕ) (old : List Node) (ls : List DesignLeaf) (rs : List NetRole)
    → ((k : ℕ) (r : NetRole) → slice_get rs k ≡ Some r → (ns : List Node) → AreBuilt leaves old ns → AreBuilt leaves old (ns ++ added_by places r (length ns)))
    → (ns : List Node) → AreBuilt leaves old ns → AreBuilt leaves old (ns ++ added_behind places ls rs (length ns))
all_built leaves places old [] rs each ns built = subst (AreBuilt leaves old) (sym (append-nil ns)) built
all_built leaves places old (l ∷ ls) [] each ns built = subst (AreBuilt leaves old) (sym (append-nil ns)) built
all_built leaves places old (l ∷ ls) (r ∷ rs) each ns built =
    let own = added_by places r (length ns) in
    let long : length (ns ++ own) ≡ length ns + length own = length-append ns own in
    subst (AreBuilt leaves old)
    (ap (λ (n : ℕ). (ns ++ own) ++ added_behind places ls rs n) long ∙ append_assoc ns own (added_behind places ls rs (length ns + length own)))
    (all_built leaves places old ls rs (λ k s at. each (suc k) s at) (ns ++ own) (each 0 r refl ns built))
