-- The path of each array of a module begins with the name of its memory.
use Rattle.std.proofs.Common.{ℕ, zero, suc, List, [], ◌∷◌, flat_map, refl, subst, inl, inr, ⊎_elim}
use Rattle.fir_base.specs.Lists.{In}
use Rattle.fir_base.proofs.Members.{in_either}
use Rattle.fir_ast.specs.Statements.{Statement, wire, register, node, instance, memory, when, connect, partial_connect, invalid, skip, Block, done, then}
use Rattle.fir_leaf.specs.working.NamedDesigns.{IsBehind}
use Rattle.fir_meaning.specs.FoundTypes.{leaves_of_data}
use Rattle.fir_meaning.specs.HeldTypes.{held_types}
use Rattle.fir_meaning.specs.LeafTypes.{LeafType}
use Rattle.fir_meaning.specs.MemoryTypes.{data_of_part, first_one}
use Rattle.fir_meaning.specs.ModuleScenes.{Scene, behind_all_ports}
use Rattle.fir_meaning.specs.SizedMemories.{sized_array}
use Rattle.fir_meaning.specs.TypeLeaves.{TypeLeaf}
use Rattle.fir_meaning.specs.Visibility.{Before, behind, behind_block, opened, reopened}
use Rattle.fir_meaning.specs.working.Designs.{module_of}
use Rattle.fir_meaning.specs.working.Elaborated.{views}
use Rattle.fir_meaning.specs.working.LeafMemories.{LeafMemory, arrays_from}
use Rattle.fir_meaning.specs.working.LeafModules.{LeafArray}
use Rattle.fir_meaning.specs.working.LeafedModules.{arrays_in, arrays_in_block, memory_before}

abbrev pub IsNamed : LeafArray → Type 0
IsNamed a = (name : List ℕ) × IsBehind name a.path

from_named : (m : LeafMemory) (i : ℕ) (ls : List TypeLeaf) (hs : List LeafType) (a : LeafArray) → In (arrays_from m i ls hs) a → IsNamed a
from_named m i [] hs a among = absurd among
from_named m i (l ∷ ls) [] a among = absurd among
from_named m i (l ∷ ls) (h ∷ hs) a (inl e) = subst IsNamed e (m.named.name, record { rest = l.path; is = refl })
from_named m i (l ∷ ls) (h ∷ hs) a (inr among) = from_named m (suc i) ls hs a among

module _ (s : Scene) where
  mutual
    statement_named : (x : Statement) (before : Before) (a : LeafArray) → In (arrays_in s before x) a → IsNamed a
    statement_named (memory p n parts) before a among =
        from_named (memory_before s before n parts) 0 (leaves_of_data (first_one (flat_map data_of_part parts)))
        (held_types s.widths (sized_array parts)) a among
    statement_named (when p c b e) before a among =
        let first = opened before in
        let second = reopened before (behind_block first b) in
        ⊎_elim (λ (l : In (arrays_in_block s first b) a). block_named b first a l) (λ (r : In (arrays_in_block s second e) a). block_named e second a r)
        (in_either (arrays_in_block s first b) (arrays_in_block s second e) a among)
    statement_named (wire p n begins t) before a among = absurd among
    statement_named (register p n begins t c r) before a among = absurd among
    statement_named (node p n e) before a among = absurd among
    statement_named (instance p n other) before a among = absurd among
    statement_named (connect p d e) before a among = absurd among
    statement_named (partial_connect p d e) before a among = absurd among
    statement_named (invalid p d) before a among = absurd among
    statement_named (skip p) before a among = absurd among

    block_named : (b : Block) (before : Before) (a : LeafArray) → In (arrays_in_block s before b) a → IsNamed a
    block_named done before a among = absurd among
    block_named ((then) x b) before a among =
        ⊎_elim (λ (l : In (arrays_in s before x) a). statement_named x before a l)
        (λ (r : In (arrays_in_block s (behind before x) b) a). block_named b (behind before x) a r)
        (in_either (arrays_in s before x) (arrays_in_block s (behind before x) b) a among)

-- so it is with the modules of scenes, by their numbers
pub arrays_named : (scenes : List Scene) (x : ℕ) → (a : LeafArray) → In (module_of (views scenes) x).arrays a → IsNamed a
arrays_named [] x a among = absurd among
arrays_named (s ∷ scenes) zero a among = block_named s s.own.inside.body (behind_all_ports s.own.inside) a among
arrays_named (s ∷ scenes) (suc x) a among = arrays_named scenes x a among
