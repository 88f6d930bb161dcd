-- The statements of a design read and drive leaves of the whole.
use Rattle.std.proofs.Common.{◌≡◌, ℕ, ◌+◌, ◌<◌, List, length, slice_get, Some, refl, sym, subst, inl, inr}
use Rattle.fir_base.specs.Lists.{In}
use Rattle.fir_base.proofs.Elements.{get_in}
use Rattle.fir_base.proofs.Members.{in_left, in_right}
use Rattle.fir_meaning.specs.ModuleScenes.{Scene}
use Rattle.fir_meaning.specs.working.Designs.{AreItemsIn, Design, IsDesignOf, IsItemIn, Item, Items, block_of, done, drive, instance, made_of, statement_of, then, when}
use Rattle.fir_meaning.specs.working.Elaborated.{views}
use Rattle.fir_meaning.specs.working.FlatDesigns.{array_count, array_count_all, count, count_all, flat, flat_all, flat_below, inner_leaves}
use Rattle.fir_meaning.specs.working.LeafBlocks.{LeafBlock, joined}
use Rattle.fir_meaning.specs.working.LeafBlocks as over
use Rattle.fir_meaning.specs.working.LeafedModules.{leafed_module}
use Rattle.fir_meaning.specs.working.LeafModules.{LeafModule}
use Rattle.fir_meaning.specs.working.Numberings.{Numbering, number, numbering}
use Rattle.fir_meaning.specs.working.Terms.{read}
use Rattle.fir_leaf.specs.working.LeafNumbers.{BlockWithin}
use Rattle.fir_design.proofs.NumberedScenes.{view_at}
use Rattle.fir_design_faults.proofs.ReadStatements.{AreReading, IsReading}
use Rattle.fir_copies.specs.working.Copies.{Copy, all_copies_in, copies_below, copies_in}
use Rattle.fir_flatten.proofs.WithinTerms.{term_within}

within_joined : (n : ℕ) (a b : LeafBlock) → BlockWithin n a → BlockWithin n b → BlockWithin n (joined a b)
within_joined n over.done b h k = k
within_joined n (over.then s a) b h k = (h.0, within_joined n a b h.1 k)

-- the leaves of a copy stand among so many
pub record CopyWithin (scenes : List Scene) (count : ℕ) (k : Copy) : Type 0 where
  pub scene : Scene
  pub is : slice_get scenes k.module_number ≡ Some scene
  pub within : (x : ℕ) → x < length (leafed_module scene).leaves → number (numbering (leafed_module scene) k.first k.own) x < count

module _ (scenes : List Scene) (whole : ℕ) (reading : (s : Scene) → In scenes s → AreReading (leafed_module s) (leafed_module s).body) where
  abbrev AllWithin : List Copy → Type 0
  AllWithin ks = (k : Copy) → In ks k → CopyWithin scenes whole k

  abbrev Within : Numbering → LeafModule → Type 0
  Within n m = (x : ℕ) → x < length m.leaves → number n x < whole

  mutual
    item_within : (i : Item) (m : LeafModule) (n : Numbering) (free array : ℕ) → n.ports ≡ m.port_leaves → Within n m → IsItemIn (views scenes) i
        → IsReading m (statement_of i) → AllWithin (copies_in n free array i) → BlockWithin whole (flat n free i)
    item_within (drive p b ps t) m n free array ports stands e r all =
        ((term_within n m ports whole stands (read b ps) (r.0, r.1), term_within n m ports whole stands t r.2), tt)
    item_within (when p c a b) m n free array ports stands e r all = (
      (
        term_within n m ports whole stands c r.0,
        items_within a m n free array ports stands e.0 r.1
            (λ k i. all k (in_left (all_copies_in n free array a) (all_copies_in n (free + count_all a) (array + array_count_all a) b) k i)),
        items_within b m n (free + count_all a) (array + array_count_all a) ports stands e.1 r.2
            (λ k i. all k (in_right (all_copies_in n free array a) (all_copies_in n (free + count_all a) (array + array_count_all a) b) k i)),
      ),
      tt,
    )
    item_within (instance i d) m n free array ports stands e r all = below_within d i.module_number (number n i.first) free array e all

    items_within : (is : Items) (m : LeafModule) (n : Numbering) (free array : ℕ) → n.ports ≡ m.port_leaves → Within n m → AreItemsIn (views scenes) is
        → AreReading m (block_of is) → AllWithin (all_copies_in n free array is) → BlockWithin whole (flat_all n free is)
    items_within done m n free array ports stands e r all = tt
    items_within ((then) i is) m n free array ports stands e r all =
        within_joined whole (flat n free i) (flat_all n (free + count i) is)
        (item_within i m n free array ports stands e.0 r.0
        (λ k j. all k (in_left (copies_in n free array i) (all_copies_in n (free + count i) (array + array_count i) is) k j)))
        (items_within is m n (free + count i) (array + array_count i) ports stands e.1 r.1
        (λ k j. all k (in_right (copies_in n free array i) (all_copies_in n (free + count i) (array + array_count i) is) k j)))

    -- of a design of the module of a number
    pub below_within : (d : Design) (x first free array : ℕ) → (e : IsItemIn (views scenes) (instance (record { declaration = 0; module_number = x; first = 0 }) d))
        → ((k : Copy) → In (copies_below x first free array d) k → CopyWithin scenes whole k) → BlockWithin whole (flat_below first free d)
    below_within (made_of v is) x first free array e all =
        let own = all (record { module_number = x; first = first; own = free; array = array }) (inl refl) in
        let m = leafed_module own.scene in
        let n = numbering m first free in
        let among = get_in scenes x own.scene own.is in
        let f : IsDesignOf (views scenes) (leafed_module own.scene) (made_of v is) =
        subst (λ u. IsDesignOf (views scenes) u (made_of v is)) (view_at scenes x own.scene own.is) e in
        let view : v ≡ leafed_module own.scene = f.0 in
        subst (λ (u : LeafModule). ((k : Copy) → In (copies_below x first free array (made_of u is)) k → CopyWithin scenes whole k)
        → BlockWithin whole (flat_below first free (made_of u is))) (sym view)
        (λ others.
        items_within is m n (free + length (inner_leaves m)) (array + length m.arrays) refl own.within f.2
        (subst (AreReading m) (sym f.1) (reading own.scene among)) (λ k i. others k (inr i)))
        all
