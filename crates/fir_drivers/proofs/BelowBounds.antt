-- Bounds that are leaves or some of so many nodes.
use Rattle.std.proofs.Common.{◌≡◌, ℕ, zero, suc, ◌<◌, List, [], ◌∷◌, length, get_or, map, Some, refl, sym, ap, ◌∙◌, subst}
use Rattle.std.specs.Prelude.{slice_get}
use Rattle.std.proofs.lemmas.Option.{same_Some, slice_get-get_or}
use Rattle.fir_net.specs.declared.node.Node.{Node}
use Rattle.fir_merge.specs.declared.bound.Bound.{Bound}
use Rattle.fir_merge.specs.working.Entries.{BoundsBelow}
use Rattle.fir_merge.specs.working.NodeTerms.{Grows, IsBelow}
use Rattle.fir_merge.proofs.GrownTerms.{below_later}
use Rattle.fir_drivers.specs.working.Slots.{slot_at}

-- one of them
pub below_at : (n : ℕ) (bs : List Bound) (x : ℕ) (b : Bound) → BoundsBelow n bs → slice_get bs x ≡ Some b → IsBelow n b.read
below_at n [] x b h e = absurd cc
below_at n (a ∷ bs) zero b h e = subst (λ (z : Bound). IsBelow n z.read) (same_Some a b e) h.0
below_at n (a ∷ bs) (suc x) b h e = below_at n bs x b h.1 e

pub below_each : (n : ℕ) (bs : List Bound) → ((x : ℕ) (b : Bound) → slice_get bs x ≡ Some b → IsBelow n b.read) → BoundsBelow n bs
below_each n [] h = tt
below_each n (b ∷ bs) h = (h 0 b refl, below_each n bs (λ x a e. h (suc x) a e))

-- nodes are added
pub bounds_later : (old new : List Node) (bs : List Bound) → Grows old new → BoundsBelow (length old) bs → BoundsBelow (length new) bs
bounds_later old new [] g h = tt
bounds_later old new (b ∷ bs) g h = (below_later old new b.read g h.0, bounds_later old new bs g h.1)

-- of some leaf, or nothing
pub below_slot : (n : ℕ) (slots : List Bound) (nothing : Bound) (x : ℕ) → BoundsBelow n slots → IsBelow n nothing.read
    → IsBelow n (slot_at slots nothing x).read
below_slot n [] nothing x h k = k
below_slot n (b ∷ bs) nothing zero h k = h.0
below_slot n (b ∷ bs) nothing (suc x) h k = below_slot n bs nothing x h.1 k

-- one of them that is read by its place
pub below_read : (n : ℕ) (bs : List Bound) (x : ℕ) (b : Bound) → BoundsBelow n bs → x < length bs → b ≡ get_or bs x b → IsBelow n b.read
below_read n bs x b h lt is = below_at n bs x b h (slice_get-get_or bs x b lt ∙ ap Some (sym is))

-- those of some leaves
pub below_map : (n : ℕ) (f : ℕ → Bound) (xs : List ℕ) → ((x : ℕ) → IsBelow n (f x).read) → BoundsBelow n (map f xs)
below_map n f [] h = tt
below_map n f (x ∷ xs) h = (h x, below_map n f xs h)
