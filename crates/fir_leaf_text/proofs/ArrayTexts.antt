-- The arrays of a memory have the paths of the leaves of its data, each behind the memory's name.
use Rattle.std.proofs.Common.{◌≡◌, ℕ, suc, List, [], ◌∷◌, ◌++◌, length, map, None, Option, Some, refl, ap, ap₂, ◌∙◌, arith}
use Rattle.std.specs.Prelude.{flat_map}
use Rattle.std.proofs.lemmas.List.{map-append}
use Rattle.fir_ast.specs.Types.{DataType}
use Rattle.fir_ast.specs.Statements.{Statement, wire, register, node, instance, memory, when, connect, partial_connect, invalid, skip, Block, done, then}
use Rattle.fir_meaning.specs.FoundTypes.{leaves_of_data}
use Rattle.fir_meaning.specs.HeldTypes.{held_types}
use Rattle.fir_meaning.specs.LeafPaths.{named, path_text}
use Rattle.fir_meaning.specs.LeafTypes.{LeafType}
use Rattle.fir_meaning.specs.MemoryTypes.{data_of_part, first_one}
use Rattle.fir_meaning.specs.ModuleScenes.{Scene}
use Rattle.fir_meaning.specs.SizedMemories.{as_written, sized_array}
use Rattle.fir_meaning.specs.TypeLeaves.{TypeLeaf}
use Rattle.fir_meaning.specs.Visibility.{Before, behind, behind_block, opened, reopened}
use Rattle.fir_meaning.specs.WidthExpressions.{Widths}
use Rattle.fir_meaning.specs.working.LeafMemories.{LeafMemory, arrays_from}
use Rattle.fir_meaning.specs.working.LeafModules.{LeafArray}
use Rattle.fir_meaning.specs.working.LeafedModules.{arrays_in, arrays_in_block, memory_before}
use Rattle.fir_leaf_text.proofs.HeldLengths.{held_long}
use Rattle.fir_leaf_text.specs.working.TextsOfArrays.{array_texts_in, array_texts_in_block}
use Rattle.fir_leaf_text.specs.working.TypePaths.{paths_of, texts_behind}

abbrev text_of : LeafArray → List ℕ
text_of a = path_text a.path

-- what a word holds has a type for each of its leaves
held_all : (w : Widths) (o : Option DataType) → length (leaves_of_data o) ≡ length (held_types w (as_written o))
held_all w None = refl
held_all w (Some t) = held_long w None t

texts_from : (m : LeafMemory) (i : ℕ) (ls : List TypeLeaf) (hs : List LeafType) → length ls ≡ length hs
    → map text_of (arrays_from m i ls hs) ≡ texts_behind m.named.name (paths_of ls)
texts_from m i [] hs e = refl
texts_from m i (l ∷ ls) [] e = absurd (omega arith)
texts_from m i (l ∷ ls) (h ∷ hs) e = ap (λ ts. path_text (named m.named.name ∷ l.path) ∷ ts) (texts_from m (suc i) ls hs (omega arith))

module _ (s : Scene) where
  joined : (xs ys : List LeafArray) (one two : List (List ℕ)) → map text_of xs ≡ one → map text_of ys ≡ two → map text_of (xs ++ ys) ≡ one ++ two
  joined xs ys one two e f = map-append text_of xs ys ∙ ap₂ (λ a b. a ++ b) e f

  mutual
    statement_arrays : (x : Statement) (before : Before) → map text_of (arrays_in s before x) ≡ array_texts_in x
    statement_arrays (memory p n parts) before =
        let words = first_one (flat_map data_of_part parts) in
        texts_from (memory_before s before n parts) 0 (leaves_of_data words) (held_types s.widths (sized_array parts)) (held_all s.widths words)
    statement_arrays (when p c a b) before =
        let other = reopened before (behind_block (opened before) a) in
        joined (arrays_in_block s (opened before) a) (arrays_in_block s other b) (array_texts_in_block a) (array_texts_in_block b)
        (block_arrays a (opened before)) (block_arrays b other)
    statement_arrays (wire p n begins t) before = refl
    statement_arrays (register p n begins t c r) before = refl
    statement_arrays (node p n e) before = refl
    statement_arrays (instance p n m) before = refl
    statement_arrays (connect p d e) before = refl
    statement_arrays (partial_connect p d e) before = refl
    statement_arrays (invalid p d) before = refl
    statement_arrays (skip p) before = refl

    pub block_arrays : (b : Block) (before : Before) → map text_of (arrays_in_block s before b) ≡ array_texts_in_block b
    block_arrays done before = refl
    block_arrays ((then) x b) before =
        joined (arrays_in s before x) (arrays_in_block s (behind before x) b) (array_texts_in x) (array_texts_in_block b) (statement_arrays x before)
        (block_arrays b (behind before x))
