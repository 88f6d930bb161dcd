-- The memories of a module without faults of types or widths are as they are to be, and none of their leaves is over.
use Rattle.std.proofs.Common.{◌≡◌, [], ◌∷◌, ◌++◌}
use Rattle.std.specs.List.{AllByRecursion}
use Rattle.fir_base.proofs.Each.{all_joined}
use Rattle.fir_base.proofs.Empty.{empty_left, empty_right}
use Rattle.fir_ast.specs.Statements.{Statement, wire, register, node, instance, memory, when, connect, partial_connect, invalid, skip, Block, done, then}
use Rattle.fir_meaning.specs.Components as component
use Rattle.fir_meaning.specs.LeafPaths.{named}
use Rattle.fir_meaning.specs.OverFaults.{leaves_over, over_rule}
use Rattle.fir_meaning.specs.SizedMemories.{ports_or_array, sized_array, sized_memory}
use Rattle.fir_meaning.specs.SizedDeclarations.{sized_at}
use Rattle.fir_meaning.specs.WidthWalk.{shown_in, shown_in_block, shown_within}
use Rattle.fir_meaning.specs.Visibility.{Before, declaration_at, opened, reopened, behind, behind_block, declarations}
use Rattle.fir_meaning.specs.ModuleScenes.{Scene}
use Rattle.fir_meaning.specs.working.WellTyped.{AreLegal, IsLegal, MemoryIsLegal}
use Rattle.fir_leaf_types.proofs.DeclarationsGrow.{Grows, grows_block, grows_through}
use Rattle.fir_memory_types.proofs.MemoryVisits.{MemoryVisit, visits, visits_in}

module _ (s : Scene) where
  pub record IsFine (v : MemoryVisit) : Type 0 where
    pub grows : Grows (v.before.declared ++ declaration_at v.before v.named (component.memory v.parts) ∷ []) (declarations s.own.inside)
    pub legal : MemoryIsLegal v.parts
    pub within :
        leaves_over s.widths v.named.place (named v.named.name ∷ []) (ports_or_array (sized_memory v.named.place v.parts) (sized_array v.parts)) ≡ []

  mutual
    statement_fine : (x : Statement) (before : Before) → Grows (behind before x).declared (declarations s.own.inside) → IsLegal s.own.modules before x
        → shown_in (over_rule s.widths) s.own before x ≡ [] → AllByRecursion IsFine (visits before x)
    statement_fine (memory p n parts) before g h within = (record { grows = g; legal = h; within = within }, tt)
    statement_fine (when p x a b) before g h within =
        let inside = behind_block (opened before) a in
        let wx = shown_within (over_rule s.widths) (sized_at s.own before) x in
        let wa = shown_in_block (over_rule s.widths) s.own (opened before) a in
        let wb = shown_in_block (over_rule s.widths) s.own (reopened before inside) b in
        all_joined IsFine (visits_in (opened before) a) (visits_in (reopened before inside) b)
        (block_fine a (opened before)
        (grows_through inside.declared (behind_block (reopened before inside) b).declared (declarations s.own.inside)
        (grows_block b (reopened before inside)) g)
        h.2 (empty_right (wx ++ []) wa (empty_left ((wx ++ []) ++ wa) wb within)))
        (block_fine b (reopened before inside) g h.3 (empty_right ((wx ++ []) ++ wa) wb within))
    statement_fine (wire p n begins t) before g h within = tt
    statement_fine (register p n begins t c r) before g h within = tt
    statement_fine (node p n e) before g h within = tt
    statement_fine (instance p n other) before g h within = tt
    statement_fine (connect p d e) before g h within = tt
    statement_fine (partial_connect p d e) before g h within = tt
    statement_fine (invalid p d) before g h within = tt
    statement_fine (skip p) before g h within = tt

    pub block_fine : (b : Block) (before : Before) → Grows (behind_block before b).declared (declarations s.own.inside) → AreLegal s.own.modules before b
        → shown_in_block (over_rule s.widths) s.own before b ≡ [] → AllByRecursion IsFine (visits_in before b)
    block_fine done before g h within = tt
    block_fine ((then) x b) before g h within =
        let wx = shown_in (over_rule s.widths) s.own before x in
        let wb = shown_in_block (over_rule s.widths) s.own (behind before x) b in
        all_joined IsFine (visits before x) (visits_in (behind before x) b)
        (statement_fine x before
        (grows_through (behind before x).declared (behind_block (behind before x) b).declared (declarations s.own.inside) (grows_block b (behind before x)) g)
        h.0 (empty_left wx wb within))
        (block_fine b (behind before x) g h.1 (empty_right wx wb within))
