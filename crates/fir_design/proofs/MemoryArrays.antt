-- The arrays of a memory: where they stand, and that they are those of its data's leaves, with their writes.
use Rattle.std.proofs.Common.{◌≡◌, ℕ, zero, suc, ◌+◌, ◌≤◌, List, [], ◌∷◌, map, length, slice_get, Some, refl, ap, arith}
use Rattle.std.specs.Prelude.{flat_map, unwrap_or}
use Rattle.fir_ast.specs.Statements.{MemoryPart}
use Rattle.fir_meaning.specs.LeafPaths.{named}
use Rattle.fir_meaning.specs.MemoryTypes.{depth_of_part, first_one}
use Rattle.fir_meaning.specs.TypeLeaves.{TypeLeaf}
use Rattle.fir_meaning.specs.working.LeafMemories.{LeafMemory, arrays_from, writings_from}
use Rattle.fir_meaning.specs.working.LeafModules.{LeafArray, LeafDeclared}
use Rattle.fir_meaning.specs.LeafTypes.{LeafType}
use Rattle.fir_design.specs.working.SameRoles.{array_on, writing_on}
use Rattle.fir_meaning.specs.SourceRoles.{arrays_of_data, ports_of_part, writings_at}

-- that of a leaf
pub array_there : (m : LeafMemory) (i : ℕ) (ls : List TypeLeaf) (hs : List LeafType) → length ls ≤ length hs → (k : ℕ) (l : TypeLeaf)
    → slice_get ls k ≡ Some l
    → (a : LeafArray) × (slice_get (arrays_from m i ls hs) k ≡ Some a) × (a.path ≡ named m.named.name ∷ l.path)
array_there m i [] hs le k l e = absurd (cc)
array_there m i (x ∷ ls) [] le k l e = absurd (omega (arith, le))
array_there m i (x ∷ ls) (h ∷ hs) le zero l e =
    let same : x ≡ l = cc in
    (_, refl, ap (λ (y : TypeLeaf). named m.named.name ∷ y.path) same)
array_there m i (x ∷ ls) (h ∷ hs) le (suc k) l e = array_there m (suc i) ls hs (omega (arith, le)) k l e

module _ (leaves : List LeafDeclared) (parts : List MemoryPart) (m : LeafMemory)
    (deep : m.words ≡ unwrap_or (first_one (flat_map depth_of_part parts)) 0) where
  -- what is written into that of the leaf of a number
  abbrev SameWritings : ℕ → TypeLeaf → Type 0
  SameWritings i l =
      map (writing_on leaves) (writings_from m.data_leaves i m.first m.ports) ≡ writings_at m.named.name l.path (flat_map ports_of_part parts)

  pub arrays_same : (i : ℕ) (ls : List TypeLeaf) (hs : List LeafType)
      → ((j : ℕ) (l : TypeLeaf) → slice_get ls j ≡ Some l → SameWritings (i + j) l)
      → map (array_on leaves) (arrays_from m i ls hs) ≡ arrays_of_data m.named.name parts ls hs
  arrays_same i [] hs h = refl
  arrays_same i (l ∷ ls) [] h = refl
  arrays_same i (l ∷ ls) (t ∷ hs) h =
      let first : i + 0 ≡ i = omega arith in
      let own : SameWritings i l = rw first at (h 0 l refl) in
      let rest = arrays_same (suc i) ls hs (λ j x e. let next : suc i + j ≡ i + suc j = omega arith in rw next (h (suc j) x e)) in
      rw (own, deep, rest) refl
