-- Choices, and the statement that is live for a leaf under one (FIRRTL spec, "Last Connect Semantics").
-- A choice gives each when and each statement through indices an outcome, whatever their conditions say. A statement is named by its way in the block: true
-- goes to what follows, and into the second block of a when.
use Rattle.std.specs.Prelude.{◌≡◌, ℕ, ◌+◌, List, [], ◌∷◌, ◌++◌, map, flat_map, Bool, true, false, not, ◌&&◌, ◌||◌, nat_lt, if◌then◌else◌, Option, Some, None, option_map}
use Rattle.fir_base.specs.Lists.{In}
use Rattle.fir_ast.specs.declared.place.Place.{Place}
use Rattle.fir_meaning.specs.working.Terms.{Term, Picks}
use Rattle.fir_meaning.specs.working.TermReads.{reached, reads, picks_read, is_picked, is_among}
use Rattle.fir_meaning.specs.working.LeafBlocks.{LeafStatement, LeafBlock, drive, when, instance, done, then}

abbrev pub Choice : Type 0
Choice = List Bool → Bool

abbrev pub first_part : Choice → Choice
first_part f way = f (false ∷ way)

abbrev pub second_part : Choice → Choice
second_part f way = f (true ∷ way)

-- a statement for one leaf: where it stands, its indices on the leaf's side, what it gives, and its conditions from the leaf's declaration inward
pub record Live : Type 0 where
  pub place : Place
  pub through : Picks
  pub given : Term
  pub under : List Term

abbrev pub driving : Place → Picks → Term → Live
driving p ps t = record { place = p; through = ps; given = t; under = [] }

abbrev pub below : Term → Live → Live
below c l = record { place = l.place; through = l.through; given = l.given; under = c ∷ l.under }

abbrev pub later : Option Live → Option Live → Option Live
later (Some l) old = Some l
later None old = old

-- what a live statement reads for the leaf
abbrev pub live_reads : Live → List ℕ
live_reads l = flat_map reads l.under ++ picks_read l.through ++ reads l.given

abbrev pub unless : Bool → List Live → List Live
unless covered ls = if covered then [] else ls

-- for a leaf, and how many whens stand round its declaration
module _ (depth x : ℕ) where
  -- the last statement that reaches the leaf under a choice; so many whens stand round
  abbrev mutual
    pub last : LeafStatement → ℕ → Choice → Option Live
    last (drive p b ps t) k f = if is_among (reached b ps) x && (not (is_picked ps) || f []) then Some (driving p ps t) else None
    last (when p c a b) k f =
        if nat_lt k depth
        then later (last_all b (k + 1) (second_part f)) (last_all a (k + 1) (first_part f))
        else option_map (below c) (if f [] then last_all a (k + 1) (first_part f) else last_all b (k + 1) (second_part f))
    last (instance i) k f = None

    pub last_all : LeafBlock → ℕ → Choice → Option Live
    last_all done k f = None
    last_all ((then) s b) k f = later (last_all b k (second_part f)) (last s k (first_part f))

  -- whether some statement reaches the leaf under every choice
  abbrev mutual
    pub covers : LeafStatement → ℕ → Bool
    covers (drive p b ps t) k = is_among (reached b ps) x && not (is_picked ps)
    covers (when p c a b) k =
        if nat_lt k depth then covers_all b (k + 1) || covers_all a (k + 1) else covers_all a (k + 1) && covers_all b (k + 1)
    covers (instance i) k = false

    pub covers_all : LeafBlock → ℕ → Bool
    covers_all done k = false
    covers_all ((then) s b) k = covers_all b k || covers s k

  -- the statements that are live for the leaf under some choice, in the order of the text
  abbrev mutual
    pub lives : LeafStatement → ℕ → List Live
    lives (drive p b ps t) k = if is_among (reached b ps) x then driving p ps t ∷ [] else []
    lives (when p c a b) k =
        if nat_lt k depth
        then unless (covers_all b (k + 1)) (lives_all a (k + 1)) ++ lives_all b (k + 1)
        else map (below c) (lives_all a (k + 1) ++ lives_all b (k + 1))
    lives (instance i) k = []

    pub lives_all : LeafBlock → ℕ → List Live
    lives_all done k = []
    lives_all ((then) s b) k = unless (covers_all b k) (lives s k) ++ lives_all b k

  -- a statement is live under some choice
  pub record IsLive (b : LeafBlock) (l : Live) : Type 0 where
    pub choice : Choice
    pub last : last_all b 0 choice ≡ Some l

  -- a leaf is read by a statement that is live
  pub record LiveReads (b : LeafBlock) (y : ℕ) : Type 0 where
    pub live : Live
    pub is_live : IsLive b live
    pub read : In (live_reads live) y
