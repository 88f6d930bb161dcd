-- What is told of the statements that are live for a leaf, the last of the text first (FIRRTL spec, "Last Connect Semantics").
use Rattle.std.specs.Prelude.{◌≡◌, ℕ, List, [], ◌∷◌, ◌++◌, reverse, Bool}
use Rattle.fir_leaf.specs.working.ClockFaults.{live_places}
use Rattle.fir_meaning.specs.working.Choices.{Live, covers, covers_all, lives, lives_all}
use Rattle.fir_meaning.specs.working.LeafBlocks.{LeafBlock, LeafStatement}
use Rattle.fir_flatten.specs.declared.live_sites.LiveSite.{LiveSite}
use Rattle.fir_flatten.specs.declared.live_sites.Sought.{Sought}
use Rattle.fir_flatten.specs.working.FirstIndices.{IsFirstOf}

-- where it stands, and the first of its indices
pub record TellsOf (l : Live) (s : LiveSite) : Type 0 where
  pub place : s.place ≡ l.place
  pub index : IsFirstOf (live_places l) s.index

abbrev pub TellOf : List Live → List LiveSite → Type 0
TellOf [] [] = Unit {0}
TellOf (l ∷ ls) (s ∷ ss) = TellsOf l s × TellOf ls ss
TellOf _ _ = ⊥

abbrev pub AreSitesOf : List Live → List LiveSite → Type 0
AreSitesOf ls sites = TellOf ls (reverse sites)

-- those of live statements are put behind others, and it is told whether these statements cover the leaf
pub record Lists (ls : List Live) (covers told : Bool) (before after : List LiveSite) : Type 0 where
  pub covered : told ≡ covers
  pub added : List LiveSite
  pub grows : after ≡ before ++ added
  pub sites : AreSitesOf ls added

abbrev pub ListsBlock : Sought → LeafBlock → ℕ → Bool → List LiveSite → List LiveSite → Type 0
ListsBlock s b k = Lists (lives_all s.depth s.leaf b k) (covers_all s.depth s.leaf b k)

abbrev pub ListsStatement : Sought → LeafStatement → ℕ → Bool → List LiveSite → List LiveSite → Type 0
ListsStatement s t k = Lists (lives s.depth s.leaf t k) (covers s.depth s.leaf t k)
