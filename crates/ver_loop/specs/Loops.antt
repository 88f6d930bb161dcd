-- Closed walks of what depends on what in a tree, and the fault that shows one (IEEE 1364-2005, 6.1, 9.2).
use Rattle.std.specs.Prelude.{◌≡◌, ℕ, List, [], ◌∷◌, ◌++◌, slice_get, Some, codes}
use Rattle.fir_base.specs.Lists.{In, Distinct}
use Rattle.ver_ast.specs.declared.tree.Verilog.{Verilog}
use Rattle.ver_ast.specs.declared.tree.Item.{Item}
use Rattle.ver_ast.specs.declared.tree.Item.TheVariants as item
use Rattle.ver_ast.specs.Processes.{Process, processes, target, process_reads}
use Rattle.ver_fault.specs.Faults.{VFault, V06}
use Rattle.ver_fault.specs.Texts.{walk_text}
use Rattle.ver_places.specs.ItemPlaces.{item_place}

-- a net, or a register with an asynchronous block, depends on what the process reads that gives it its value
pub record Depends (v : Verilog) (a b : List ℕ) : Type 0 where
  pub process : Process
  pub is_process : In (processes v) process
  pub gives : target process ≡ a
  pub reads : In (process_reads process) b

-- from a through the list, each depends on the next
abbrev pub Chained : Verilog → List ℕ → List (List ℕ) → Type 0
Chained v a [] = Unit {0}
Chained v a (b ∷ rest) = Depends v a b × Chained v b rest

-- a walk that ends where it begins, and else repeats nothing
pub record IsClosedWalk (v : Verilog) (walk : List (List ℕ)) : Type 0 where
  pub first : List ℕ
  pub between : List (List ℕ)
  pub walk_is : walk ≡ first ∷ (between ++ first ∷ [])
  pub chained : Chained v first (between ++ first ∷ [])
  pub once : Distinct (first ∷ between)

-- what an item that is a process gives its value
abbrev pub item_gives : Item → List (List ℕ)
item_gives (item.Assign a) = a.target ∷ []
item_gives (item.Resetting b) = b.target ∷ []
item_gives _ = []

-- the fault tells a closed walk, at the place of an item that gives its first name a value
pub record ShowsLoop (v : Verilog) (f : VFault) : Type 0 where
  pub walk : List (List ℕ)
  pub closed : IsClosedWalk v walk
  pub number : ℕ
  pub item : Item
  pub there : slice_get v.items number ≡ Some item
  pub gives : In (item_gives item) closed.first
  pub fault_is : f ≡ record { code = V06; place = item_place v number; evidence = codes "loop " ++ walk_text walk }
