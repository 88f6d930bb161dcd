-- Contracts between layers: the names of a circle, and the place of what gives a name its value.
use Rattle.std.specs.Prelude.{◌≡◌, ℕ, List, ◌++◌, flat_map, take, slice_get, Option, Some, None}
use Rattle.std.specs.Option.{option_to_list}
use Rattle.fir_base.specs.Lists.{In}
use Rattle.ver_ast.specs.declared.place.VPlace.{VPlace}
use Rattle.ver_ast.specs.declared.tree.Verilog.{Verilog}
use Rattle.ver_ast.specs.declared.tree.Item.{Item}
use Rattle.ver_places.specs.ItemPlaces.{item_place}
use Rattle.ver_loop.specs.Loops.{IsClosedWalk, item_gives}

-- the names of these numbers
abbrev pub named : List (List ℕ) → List ℕ → List (List ℕ)
named names = flat_map (λ i. option_to_list (slice_get names i))

-- those of a circle, with the first again at the end
abbrev pub round : List (List ℕ) → List ℕ → List (List ℕ)
round names circle = named names circle ++ named names (take 1 circle)

pub record Gives (items : List Item) (name : List ℕ) (number : ℕ) : Type 0 where
  pub item : Item
  pub there : slice_get items number ≡ Some item
  pub gives : In (item_gives item) name

-- the number of an item that gives a name its value, where one does
abbrev pub FindsGiver : List Item → List ℕ → Option ℕ → Type 0
FindsGiver items name (Some k) = Gives items name k
FindsGiver items name None = (i : Item) → In items i → In (item_gives i) name → ⊥

-- the place of an item that gives a name its value
pub record IsGivingPlace (v : Verilog) (name : List ℕ) (p : VPlace) : Type 0 where
  pub number : ℕ
  pub giver : Gives v.items name number
  pub place_is : p ≡ item_place v number

-- the same for the first name of a walk
abbrev pub IsFirstPlace : Verilog → List (List ℕ) → VPlace → Type 0
IsFirstPlace v walk p = (closed : IsClosedWalk v walk) → IsGivingPlace v closed.first p
