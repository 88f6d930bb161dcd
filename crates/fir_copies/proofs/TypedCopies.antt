-- The statements of a design have types where those of its modules have.
use Rattle.std.proofs.Common.{◌≡◌, ℕ, ◌+◌, ◌<◌, List, length, slice_get, Some, refl, sym, subst, inl, inr}
use Rattle.fir_base.specs.Lists.{In}
use Rattle.fir_base.proofs.Elements.{get_in}
use Rattle.fir_base.proofs.Members.{in_left, in_right}
use Rattle.fir_meaning.specs.LeafTypes.{LeafType}
use Rattle.fir_meaning.specs.ModuleScenes.{Scene}
use Rattle.fir_meaning.specs.working.Designs.{AreItemsIn, Design, IsDesignOf, IsItemIn, Item, Items, block_of, done, drive, instance, made_of, statement_of, then, when}
use Rattle.fir_meaning.specs.working.Elaborated.{views}
use Rattle.fir_meaning.specs.working.FlatDesigns.{array_count, array_count_all, count, count_all, flat, flat_all, flat_below, inner_leaves}
use Rattle.fir_meaning.specs.working.LeafBlocks.{LeafBlock, joined}
use Rattle.fir_meaning.specs.working.LeafBlocks as over
use Rattle.fir_meaning.specs.working.LeafedModules.{leafed_module}
use Rattle.fir_meaning.specs.working.LeafModules.{LeafModule}
use Rattle.fir_meaning.specs.working.Numberings.{Numbering, moved, moved_picks, number, numbering}
use Rattle.fir_meaning.specs.working.TermReads.{reached}
use Rattle.fir_leaf_types.specs.working.TypedBlocks.{AreTyped, IsTyped, MayGive}
use Rattle.fir_leaf_types.specs.working.TypedModules.{held_in}
use Rattle.fir_leaf_types.specs.working.TypedTerms.{AreAlike, one_bit}
use Rattle.fir_design.proofs.NumberedScenes.{view_at}
use Rattle.fir_design_faults.proofs.ReadStatements.{AreReading, IsReading}
use Rattle.fir_copies.specs.working.Copies.{Copy, all_copies_in, copies_below, copies_in}
use Rattle.fir_copies.proofs.MovedTypes.{alike_moved, indices_moved, leaf_moved, may_give_moved, typed_moved}

typed_joined : (held : ℕ → LeafType) (a b : LeafBlock) → AreTyped held a → AreTyped held b → AreTyped held (joined a b)
typed_joined held over.done b h k = k
typed_joined held (over.then s a) b h k = (h.0, typed_joined held a b h.1 k)

-- the leaves of a copy hold in the whole what they hold in its module
pub record CopyHolds (scenes : List Scene) (outer : ℕ → LeafType) (k : Copy) : Type 0 where
  pub scene : Scene
  pub is : slice_get scenes k.module_number ≡ Some scene
  pub held :
      (x : ℕ) → x < length (leafed_module scene).leaves
      → outer (number (numbering (leafed_module scene) k.first k.own) x) ≡ held_in (leafed_module scene) x

module _ (scenes : List Scene) (outer : ℕ → LeafType)
    (reading : (s : Scene) → In scenes s → AreReading (leafed_module s) (leafed_module s).body)
    (typed : (s : Scene) → In scenes s → AreTyped (held_in (leafed_module s)) (leafed_module s).body) where
  abbrev AllHold : List Copy → Type 0
  AllHold ks = (k : Copy) → In ks k → CopyHolds scenes outer k

  abbrev Same : Numbering → LeafModule → Type 0
  Same n m = (x : ℕ) → x < length m.leaves → outer (number n x) ≡ held_in m x

  mutual
    item_typed : (i : Item) (m : LeafModule) (n : Numbering) (free array : ℕ) → n.ports ≡ m.port_leaves → Same n m → IsItemIn (views scenes) i
        → IsReading m (statement_of i) → IsTyped (held_in m) (statement_of i) → AllHold (copies_in n free array i) → AreTyped outer (flat n free i)
    item_typed (drive p b ps t) m n free array ports same e r h all =
        let there = sym (leaf_moved n m ports outer (held_in m) same b ps r.0) in (
          (
            subst (MayGive outer (moved n t)) there (may_give_moved n m ports outer (held_in m) same t (held_in m b) r.2 h.0),
            subst (AreAlike outer (reached (number n b) (moved_picks n ps))) there
                (alike_moved n m ports outer (held_in m) same b ps (held_in m b) r.0 h.1),
            indices_moved n m ports outer (held_in m) same ps r.1 h.2,
          ),
          tt,
        )
    item_typed (when p c a b) m n free array ports same e r h all = (
      (
        typed_moved n m ports outer (held_in m) same c one_bit r.0 h.0,
        items_typed a m n free array ports same e.0 r.1 h.1 (λ k i. all k (in_left (all_copies_in n free array a) (all_copies_in n (free + count_all a) (array + array_count_all a) b) k i)),
        items_typed b m n (free + count_all a) (array + array_count_all a) ports same e.1 r.2 h.2
            (λ k i. all k (in_right (all_copies_in n free array a) (all_copies_in n (free + count_all a) (array + array_count_all a) b) k i)),
      ),
      tt,
    )
    item_typed (instance i d) m n free array ports same e r h all = below_typed d i.module_number (number n i.first) free array e all

    items_typed : (is : Items) (m : LeafModule) (n : Numbering) (free array : ℕ) → n.ports ≡ m.port_leaves → Same n m → AreItemsIn (views scenes) is
        → AreReading m (block_of is) → AreTyped (held_in m) (block_of is) → AllHold (all_copies_in n free array is) → AreTyped outer (flat_all n free is)
    items_typed done m n free array ports same e r h all = tt
    items_typed ((then) i is) m n free array ports same e r h all =
        typed_joined outer (flat n free i) (flat_all n (free + count i) is)
        (item_typed i m n free array ports same e.0 r.0 h.0 (λ k j. all k (in_left (copies_in n free array i) (all_copies_in n (free + count i) (array + array_count i) is) k j)))
        (items_typed is m n (free + count i) (array + array_count i) ports same e.1 r.1 h.1 (λ k j. all k (in_right (copies_in n free array i) (all_copies_in n (free + count i) (array + array_count i) is) k j)))

    -- of a design of the module of a number
    pub below_typed : (d : Design) (x first free array : ℕ) → (e : IsItemIn (views scenes) (instance (record { declaration = 0; module_number = x; first = 0 }) d))
        → ((k : Copy) → In (copies_below x first free array d) k → CopyHolds scenes outer k) → AreTyped outer (flat_below first free d)
    below_typed (made_of v is) x first free array e all =
        let own = all (record { module_number = x; first = first; own = free; array = array }) (inl refl) in
        let m = leafed_module own.scene in
        let n = numbering m first free in
        let among = get_in scenes x own.scene own.is in
        let f : IsDesignOf (views scenes) (leafed_module own.scene) (made_of v is) =
        subst (λ u. IsDesignOf (views scenes) u (made_of v is)) (view_at scenes x own.scene own.is) e in
        let view : v ≡ leafed_module own.scene = f.0 in
        subst (λ (u : LeafModule). ((k : Copy) → In (copies_below x first free array (made_of u is)) k → CopyHolds scenes outer k)
        → AreTyped outer (flat_below first free (made_of u is))) (sym view)
        (λ others.
        items_typed is m n (free + length (inner_leaves m)) (array + length m.arrays) refl own.held f.2
        (subst (AreReading m) (sym f.1) (reading own.scene among))
        (subst (AreTyped (held_in m)) (sym f.1) (typed own.scene among)) (λ k i. others k (inr i)))
        all
