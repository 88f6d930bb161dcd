-- Laws about choices, on the statements of a module over its leaves.
use Rattle.std.specs.Prelude.{◌≡◌, ◌↔◌, ℕ, [], None, option_map}
use Rattle.fir_base.specs.Lists.{In}
use Rattle.fir_meaning.specs.working.Terms.{Term}
use Rattle.fir_meaning.specs.working.TermValues.{Holds, eval}
use Rattle.fir_meaning.specs.working.LeafBlocks.{LeafBlock, exec_all, nothing_stored}
use Rattle.fir_meaning.specs.working.Choices.{Live, IsLive, LiveReads, last_all, lives_all}
use Rattle.fir_meaning.specs.working.UndrivenChoices.{IsUndriven}
use Rattle.fir_leaf.specs.working.ValueChoices.{choice_of_all}
use Rattle.fir_meaning.specs.Values.{fit}

-- what is stored at a leaf is what the statement gives that is live under the choice of the values
abbrev pub StoredIsLive : Type 0 → Type 0
StoredIsLive V =
    (holds : Holds) (depth numbers : ℕ → ℕ) (given : ℕ → Term → V) (x : ℕ) (b : LeafBlock)
    → exec_all holds depth numbers given b [] nothing_stored x
    ≡ option_map (λ l. given x l.given) (last_all (depth x) x b 0 (choice_of_all holds numbers x b))

-- the list of live statements has those that are last under some choice
abbrev pub LivesAreLive : Type 0
LivesAreLive = (depth x : ℕ) (b : LeafBlock) (l : Live) → In (lives_all depth x b 0) l ↔ IsLive depth x b l

-- nothing is stored at a leaf exactly where the choice that the values make leaves it undriven
abbrev pub NothingWhereUndriven : Type 0 → Type 0
NothingWhereUndriven V =
    (holds : Holds) (depth numbers : ℕ → ℕ) (given : ℕ → Term → V) (x : ℕ) (b : LeafBlock)
    → (exec_all holds depth numbers given b [] nothing_stored x ≡ None) ↔ IsUndriven (depth x) x b (choice_of_all holds numbers x b)

-- what a term gives to a leaf
abbrev pub fitted_at : Holds → (ℕ → ℕ) → ℕ → Term → ℕ
fitted_at holds numbers x t = fit (eval holds numbers t) (holds x)

-- values that are the same at all that live statements read for a leaf store the same there
abbrev pub StoresByReads : Type 0
StoresByReads =
    (holds : Holds) (depth some others : ℕ → ℕ) (x : ℕ) (b : LeafBlock) → ((y : ℕ) → LiveReads (depth x) x b y → some y ≡ others y)
    → exec_all holds depth some (fitted_at holds some) b [] nothing_stored x ≡ exec_all holds depth others (fitted_at holds others) b [] nothing_stored x
