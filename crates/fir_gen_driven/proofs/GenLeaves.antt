-- The leaves of the circuit's module: inputs, the output that statements drive, and registers that take a clock by its name and have no asynchronous reset.
use Rattle.std.proofs.Common.{◌≡◌, ℕ, List, [], false, Some, refl}
use Rattle.std.specs.Prelude.{IsTrue, codes}
use Rattle.std.specs.List.{AllByRecursion}
use Rattle.fir_ast.specs.Statements.{Block}
use Rattle.fir_meaning.specs.LeafPaths.{LeafPath}
use Rattle.fir_meaning.specs.LeafTypes.{LeafType, a_clock}
use Rattle.fir_meaning.specs.ModuleScenes.{Scene, scope_before}
use Rattle.fir_meaning.specs.SourceCircuits.{is_sink_role, role_within}
use Rattle.fir_meaning.specs.SourceClocks.{picking_places}
use Rattle.fir_meaning.specs.SourceRoles.{SourceLeaf, SourceRole, computed, pipe, reading, register, sink, source, sources_in_block}
use Rattle.fir_meaning.specs.Visibility.{Before, behind}
use Rattle.fir_gen_driven.proofs.PlainScopes.{IsReady, not_async, ready_behind}
use Rattle.fir_gen_driven.proofs.BodyTails.{IsTail, chosen, declared, driven, register_of, shown}
use Rattle.fir_gen_driven.proofs.LastDrives.{output}

-- with a clock that no index picks, and a reset that is not asynchronous
abbrev pub IsRegister : SourceRole → Type 0
IsRegister (register scope clock (Some r) q) = (picking_places clock ≡ []) × (r.is_async ≡ false)
IsRegister _ = ⊥

-- by the path of the leaf, what it holds and its role
abbrev pub IsFine : LeafPath → LeafType → SourceRole → Type 0
IsFine x h source = Unit {0}
IsFine x h sink = (x ≡ output) × (h ≡ a_clock → ⊥)
IsFine x h r = IsRegister r

abbrev pub IsFineLeaf : SourceLeaf → Type 0
IsFineLeaf l = IsFine l.path l.holds l.role

-- a register has the same role within its module
pub fine_register : (x : LeafPath) (h : LeafType) (r : SourceRole) → IsRegister r → IsFine x h r × IsFine x h (role_within r)
fine_register x h source wrong = absurd wrong
fine_register x h sink wrong = absurd wrong
fine_register x h (computed scope e q) wrong = absurd wrong
fine_register x h (register scope clock reset q) fine = (fine, fine)
fine_register x h (reading r) wrong = absurd wrong
fine_register x h (pipe r clock under) wrong = absurd wrong

pub sink_is_output : (x : LeafPath) (h : LeafType) (r : SourceRole) → IsFine x h r → IsTrue (is_sink_role r) → x ≡ output
sink_is_output x h sink fine is = fine.0
sink_is_output x h r fine is = cc

module _ (s : Scene) where
  pub tail_leaves : {name : List ℕ} → (b : Block) → IsTail name b → (before : Before) → IsReady s.own.modules before name
      → AllByRecursion (λ (l : SourceLeaf). IsRegister l.role) (sources_in_block s before b)
  tail_leaves b (shown p q r other) before ready = tt
  tail_leaves {name} b (declared {name = next} {b = rest} p q t c r condition init tail) before ready =
      let later = behind before (register_of p q next t c r condition init) in
      let known = ready_behind s.own.modules before name (record { place = q; name = next }) ready in
      ((refl, not_async s.is_async (scope_before s later) known.all (codes "reset") condition), tail_leaves rest tail later known)
  tail_leaves b (driven {b = rest} p into e tail) before ready = tail_leaves rest tail before ready
  tail_leaves b (chosen {b = rest} p c q into e r other f tail) before ready = tail_leaves rest tail before ready
