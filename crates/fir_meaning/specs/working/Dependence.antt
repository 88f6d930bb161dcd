-- What a leaf of a module depends on within a tick (FIRRTL spec, "Last Connect Semantics", "Registers", "Memories").
-- A sink depends on what the statements read that are live for it; a node on its expression; a register with an asynchronous reset on that reset and its
-- init; a read at once on its address and enables. Other state and what instances give depend on nothing in the module.
use Rattle.std.specs.Prelude.{ℕ, List, [], ◌∷◌, ◌++◌, map, Bool, true, false, Option, Some, None}
use Rattle.fir_base.specs.Lists.{In}
use Rattle.fir_meaning.specs.working.TermReads.{reads}
use Rattle.fir_meaning.specs.working.LeafBlocks.{LeafBlock}
use Rattle.fir_meaning.specs.working.Choices.{LiveReads}
use Rattle.fir_meaning.specs.working.LeafModules.{LeafReset, Reading, Role, computed, pipe, reading, register, sink, source}

abbrev pub reads_if : Bool → LeafReset → List ℕ
reads_if true r = reads r.condition ++ reads r.init
reads_if false r = []

abbrev pub reset_reads : Option LeafReset → List ℕ
reset_reads None = []
reset_reads (Some r) = reads_if r.is_async r

abbrev pub reading_reads : Reading → List ℕ
reading_reads r = r.address ∷ map (λ n. n.leaf) r.needs

-- by the statements, how many whens stand round the leaf's declaration, and its role
abbrev pub RoleDepends : LeafBlock → ℕ → ℕ → Role → ℕ → Type 0
RoleDepends body depth x source y = ⊥
RoleDepends body depth x sink y = LiveReads depth x body y
RoleDepends body depth x (computed t) y = In (reads t) y
RoleDepends body depth x (register clock reset) y = In (reset_reads reset) y
RoleDepends body depth x (reading r) y = In (reading_reads r) y
RoleDepends body depth x (pipe r clock under) y = ⊥
