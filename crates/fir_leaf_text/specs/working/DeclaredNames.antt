-- The names of what a module declares, in the order of the text: of its ports, and of its statements and those in whens (FIRRTL spec, "Modules").
use Rattle.std.specs.Prelude.{◌≡◌, ℕ, ◌+◌, List, [], ◌∷◌, ◌++◌, length, map, Some, slice_get}
use Rattle.fir_ast.specs.Circuits.{ModuleTree}
use Rattle.fir_ast.specs.Statements.{Statement, wire, register, node, instance, memory, when, Block, done, then}
use Rattle.fir_leaf_text.specs.declared.declared_name.Search.{Search}
use Rattle.fir_leaf_text.specs.declared.declared_name.Search.TheVariants.{Found, Left}

abbrev mutual
  pub names_in : Statement → List (List ℕ)
  names_in (wire p n begins t) = n.name ∷ []
  names_in (register p n begins t c r) = n.name ∷ []
  names_in (node p n e) = n.name ∷ []
  names_in (instance p n other) = n.name ∷ []
  names_in (memory p n parts) = n.name ∷ []
  names_in (when p c a b) = names_in_block a ++ names_in_block b
  names_in _ = []

  pub names_in_block : Block → List (List ℕ)
  names_in_block done = []
  names_in_block ((then) x b) = names_in x ++ names_in_block b

abbrev pub names_in_module : ModuleTree → List (List ℕ)
names_in_module m = map (λ p. p.named.name) m.ports ++ names_in_block m.body

-- the name of a number is found among names, or so many less are left behind them
abbrev pub IsSearched : List (List ℕ) → ℕ → Search → Type 0
IsSearched names position (Found name) = slice_get names position ≡ Some name.now
IsSearched names position (Left left) = position ≡ length names + left
