-- What the circuits of texts are over their leaves, what their statements store, and short names for what comes out.
-- In the texts all widths are written, and no reset is a Reset.
use Rattle.std.proofs.Common.{ℕ, List, [], ◌∷◌, length, map, Bool, false, Option, Some, None}
use Rattle.std.specs.Prelude.{slice_index}
use Rattle.fir_ast.specs.Circuits.{ModuleTree, CircuitTree}
use Rattle.fir_meaning.specs.LeafPaths.{LeafPath, path_text}
use Rattle.fir_meaning.specs.ResetJoins.{numbered_module}
use Rattle.fir_meaning.specs.SizedDeclarations.{NumberedModule, numbered_modules}
use Rattle.fir_meaning.specs.working.Terms.{Term, Picks, literal, no_picks, pick, read}
use Rattle.fir_meaning.specs.working.LeafBlocks.{LeafBlock, exec_all, nothing_stored}
use Rattle.fir_meaning.specs.working.LeafBlocks as over
use Rattle.fir_meaning.specs.working.LeafModules.{LeafDeclared, LeafModule}
use Rattle.fir_meaning.specs.working.LeafedModules.{leafed_module}
use Rattle.fir_meaning.proofs.SmallTrees.{at}
use Rattle.fir_meaning.specs.working.LeafCircuits.{LeafCircuit, depth_of, type_of_leaf}
use Rattle.fir_leaf.specs.working.ChoiceLaws.{fitted_at}
use Rattle.fir_meaning.specs.working.Designs.{Design, elaborated, module_of}
use Rattle.fir_meaning.specs.working.Flattened.{flattened}

-- the modules of a circuit over their leaves, with widths of the numbers, and with which Resets are asynchronous
abbrev pub modules_with : (ℕ → ℕ) → (LeafPath → Bool) → CircuitTree → List LeafModule
modules_with widths is_async c =
    map (λ (m : NumberedModule). leafed_module (record { own = m; widths = widths; is_async = is_async })) (numbered_modules c)

abbrev pub modules_of : CircuitTree → List LeafModule
modules_of c = modules_with (λ k. 0) (λ path. false) c

abbrev number_of : Option (ℕ × ModuleTree) → ℕ
number_of None = 0
number_of (Some m) = m.0

abbrev pub main_module : CircuitTree → LeafModule
main_module c = module_of (modules_of c) (number_of (numbered_module 0 c.modules c.named.name))

-- the design below the main module, and that as one list of leaves
abbrev pub design_of : CircuitTree → Design
design_of c = elaborated (length c.modules) (modules_of c) (main_module c)

abbrev pub over_leaves : CircuitTree → LeafCircuit
over_leaves c = flattened (design_of c)

abbrev pub paths_of : LeafCircuit → List (List ℕ)
paths_of c = map (λ (l : LeafDeclared). path_text l.path) c.leaves

-- what the statements store at the leaves of these numbers, where all leaves have these values
abbrev pub stores : LeafCircuit → List ℕ → List ℕ → List (Option ℕ)
stores c values =
    map (exec_all (type_of_leaf c) (depth_of c) (slice_index values) (fitted_at (type_of_leaf c) (slice_index values)) c.body [] nothing_stored)

-- the leaf of that number takes another one
abbrev pub takes : ℕ → ℕ → ℕ → ℕ → over.LeafStatement
takes line column x y = over.drive (at line column) x no_picks (read y no_picks)

abbrev pub statements : List over.LeafStatement → LeafBlock
statements [] = over.done
statements (s ∷ ss) = over.then s (statements ss)

-- a number of four bits, and one of three elements of one leaf, by i
abbrev pub four : ℕ → ℕ → ℕ → Term
four line column n = literal (record { place = at line column; signed = false; width = Some 4; negative = false; magnitude = n })

abbrev pub by_i : ℕ → ℕ → Picks
by_i line column = pick no_picks (at line column) (read 0 no_picks) 3 1
