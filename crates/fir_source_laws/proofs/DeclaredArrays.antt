-- The arrays that a memory's statement declares, and what writes them.
use Rattle.std.proofs.Common.{◌≡◌, ℕ, List, [], ◌∷◌, ◌++◌, flat_map, unwrap_or, sym, ap, ap₂, ◌∙◌, inl, inr}
use Rattle.fir_base.specs.Lists.{In}
use Rattle.fir_ast.specs.Statements.{MemoryPart}
use Rattle.fir_meaning.specs.FoundTypes.{leaves_of_data}
use Rattle.fir_meaning.specs.LeafTypes.{LeafType}
use Rattle.fir_meaning.specs.LeafPaths.{LeafPath, named}
use Rattle.fir_meaning.specs.HeldTypes.{held_types}
use Rattle.fir_meaning.specs.MemoryTypes.{data_of_part, depth_of_part, first_one}
use Rattle.fir_meaning.specs.SizedMemories.{sized_array}
use Rattle.fir_meaning.specs.SourceCircuits.{PlacedArray, array_path}
use Rattle.fir_meaning.specs.SourceRoles.{SourceArray, arrays_of_data, ports_of_part, writings_at}
use Rattle.fir_meaning.specs.TypeLeaves.{TypeLeaf}
use Rattle.fir_source_laws.specs.working.MemoryLeaves.{HasDepth, IsArray, Memory, ports}

declared : (name : List ℕ) (parts : List MemoryPart) (ls : List TypeLeaf) (hs : List LeafType) (a : SourceArray)
    → In (arrays_of_data name parts ls hs) a
    → (q : LeafPath) × (a.path ≡ named name ∷ q) × (a.words ≡ unwrap_or (first_one (flat_map depth_of_part parts)) 0)
    × (a.writings ≡ writings_at name q (flat_map ports_of_part parts))
declared name parts [] hs a among = absurd among
declared name parts (l ∷ ls) [] a among = absurd among
declared name parts (l ∷ ls) (h ∷ hs) a (inl is) =
    (l.path, ap (λ (x : SourceArray). x.path) (sym is), ap (λ (x : SourceArray). x.words) (sym is), ap (λ (x : SourceArray). x.writings) (sym is))
declared name parts (l ∷ ls) (h ∷ hs) a (inr m) = declared name parts ls hs a m

module _ (m : Memory) (q : LeafPath) (a : PlacedArray) (h : IsArray m q a) where
  of_memory : (x : LeafPath) × (a.array.path ≡ named m.named.name ∷ x) × (a.array.words ≡ unwrap_or (first_one (flat_map depth_of_part m.parts)) 0)
      × (a.array.writings ≡ writings_at m.named.name x (ports m))
  of_memory =
      declared m.named.name m.parts (leaves_of_data (first_one (flat_map data_of_part m.parts))) (held_types m.scene.widths (sized_array m.parts)) a.array
      h.declared

  pub array_path_is : m.at ++ named m.named.name ∷ q ≡ array_path a
  array_path_is = ap₂ (λ (x y : LeafPath). x ++ y) (sym h.placed) (sym h.path)

  pub depth_is : (depth : ℕ) → HasDepth m depth → a.array.words ≡ depth
  depth_is depth e = of_memory.2 ∙ ap (λ (ns : List ℕ). unwrap_or (first_one ns) 0) e

  pub writings_are : a.array.writings ≡ writings_at m.named.name q (ports m)
  writings_are =
      let e : of_memory.0 ≡ q = let both : named m.named.name ∷ of_memory.0 ≡ named m.named.name ∷ q = sym of_memory.1 ∙ h.path in cc in
      of_memory.3 ∙ ap (λ (x : LeafPath). writings_at m.named.name x (ports m)) e
