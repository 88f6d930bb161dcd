-- Statements over leaves hang only on which leaves may be driven, and so are the same by the flow of each as by its role.
use Rattle.std.proofs.Common.{◌≡◌, ℕ, List, Bool, false, ap, ◌∙◌}
use Rattle.std.specs.Prelude.{slice_index_or}
use Rattle.std.proofs.Math.ListN.{get_or-map}
use Rattle.std.proofs.Math.Path.{fun_ext}
use Rattle.fir_ast.specs.Circuits.{CircuitTree, ModuleTree}
use Rattle.fir_ast.specs.Statements.{Block}
use Rattle.fir_meaning.specs.ComponentTypes.{typed_scope}
use Rattle.fir_meaning.specs.Visibility.{Before, declarations}
use Rattle.fir_meaning.specs.working.LeafedBlocks.{leafed_all}
use Rattle.fir_meaning.specs.ModuleScenes.{Scene}
use Rattle.fir_meaning.specs.working.LeafedModules.{driven_leaves, module_leaves}
use Rattle.fir_meaning.specs.working.LeafModules.{LeafDeclared, may_drive, no_leaf}
use Rattle.fir_leaf_pairs.specs.working.Drives.{sinks_in}
use Rattle.fir_leaf_table.specs.declared.frame.Frame.{Frame}
use Rattle.fir_leaf_table.specs.working.DrivenLeaves.{driven_in}
use Rattle.fir_leaf_table.specs.working.Frames.{Frames}
use Rattle.fir_leaf_table.proofs.DrivenSinks.{driven_are_sinks}

pub same_body : (modules : List ModuleTree) (f g : ℕ → Bool) (before : Before) (b : Block) → ((x : ℕ) → f x ≡ g x)
    → leafed_all modules f before b ≡ leafed_all modules g before b
same_body modules f g before b same = ap (λ (may : ℕ → Bool). leafed_all modules may before b) (fun_ext same)

-- by the number of a leaf
driven_at : (frame : Frame) (c : CircuitTree) (s : Scene) → Frames frame c s → (x : ℕ)
    → sinks_in (driven_in (typed_scope c.modules (declarations s.own.inside))) x ≡ driven_leaves s x
driven_at frame c s h x =
    ap (λ bs. slice_index_or bs x false) (driven_are_sinks frame c s h)
    ∙ get_or-map (λ (l : LeafDeclared). may_drive l.role) (module_leaves s) x no_leaf

pub body_is_same : (frame : Frame) (c : CircuitTree) (s : Scene) (before : Before) (b : Block) → Frames frame c s
    → leafed_all c.modules (sinks_in (driven_in (typed_scope c.modules (declarations s.own.inside)))) before b
    ≡ leafed_all c.modules (driven_leaves s) before b
body_is_same frame c s before b h =
    same_body c.modules (sinks_in (driven_in (typed_scope c.modules (declarations s.own.inside)))) (driven_leaves s) before b (driven_at frame c s h)
