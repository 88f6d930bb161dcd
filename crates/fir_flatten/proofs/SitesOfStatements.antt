-- The live statements that are listed of a statement that drives leaves, and of a when.
use Rattle.std.proofs.Common.{◌≡◌, ℕ, ◌+◌, ◌<◌, ◌≤◌, List, [], ◌∷◌, ◌++◌, Bool, true, false, not, ◌&&◌, ◌||◌, nat_eq, nat_lt, refl, arith}
use Rattle.std.specs.List.{list_any}
use Rattle.std.proofs.lemmas.Bool.Decides.{nat_tests}
use Rattle.std.proofs.lemmas.List.Recursion.{same_from_clauses}
use Rattle.fir_ast.specs.declared.place.Place.{Place}
use Rattle.fir_meaning.specs.working.LeafBlocks.{LeafBlock, drive, when}
use Rattle.fir_meaning.specs.working.Terms.{Picks, Term}
use Rattle.fir_meaning.specs.working.TermReads.{is_among, is_picked, reached}
use Rattle.fir_meaning.specs.working.Choices.{driving}
use Rattle.fir_flatten.specs.declared.live_sites.LiveSite.{LiveSite}
use Rattle.fir_flatten.specs.declared.live_sites.Sought.{Sought}
use Rattle.fir_flatten.specs.working.LiveSites.{ListsBlock, ListsStatement, TellsOf}
use Rattle.fir_flatten.proofs.ListedSites.{lists_covered, lists_none, lists_then, lists_within}

pub among_is : (x : ℕ) (xs : List ℕ) → list_any (λ y. nat_eq y x) xs ≡ is_among xs x
among_is x = same_from_clauses (list_any (λ y. nat_eq y x)) (λ ys. is_among ys x) (λ y b. nat_eq y x || b) refl (λ y ys. refl) (λ y ys. refl)

module _ (sought : Sought) (k : ℕ) (before : List LiveSite) (p : Place) (b : ℕ) (ps : Picks) (t : Term) where
  pub lists_apart : is_among (reached b ps) sought.leaf ≡ false → ListsStatement sought (drive p b ps t) k false before before
  lists_apart apart = rw apart (lists_none before)

  pub lists_here : (site : LiveSite) → is_among (reached b ps) sought.leaf ≡ true → TellsOf (driving p ps t) site
      → ListsStatement sought (drive p b ps t) k (not (is_picked ps)) before (before ++ site ∷ [])
  lists_here site among tells = rw among (record { covered = refl; added = site ∷ []; grows = refl; sites = (tells, tt) })

module _ (sought : Sought) (k : ℕ) (p : Place) (c : Term) (a b : LeafBlock) where
  module _ (inside : k < sought.depth) where
    early : nat_lt k sought.depth ≡ true
    early = grind (arith, nat_tests)

    -- round the declaration of the leaf
    pub lists_second : (before after : List LiveSite) → ListsBlock sought b (k + 1) true before after → ListsStatement sought (when p c a b) k true before after
    lists_second before after h = rw early (lists_covered _ _ _ _ before after h)

    pub lists_inner : (told : Bool) (before between after : List LiveSite) → ListsBlock sought b (k + 1) false before between
        → ListsBlock sought a (k + 1) told between after → ListsStatement sought (when p c a b) k told before after
    lists_inner told before between after h g = rw early (lists_then _ _ _ _ told before between after h g)

  pub lists_outer : sought.depth ≤ k → (first second told : Bool) (before between after : List LiveSite)
      → ListsBlock sought b (k + 1) second before between → ListsBlock sought a (k + 1) first between after → told ≡ (first && second)
      → ListsStatement sought (when p c a b) k told before after
  lists_outer outside first second told before between after h g e =
      let late : nat_lt k sought.depth ≡ false = grind (arith, nat_tests) in
      rw late (lists_within c _ _ _ _ first second told before between after h g e)
