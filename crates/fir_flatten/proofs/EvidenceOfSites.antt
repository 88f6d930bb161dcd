-- What is told of live statements that are listed from the end of the text.
use Rattle.std.proofs.Common.{◌≡◌, ℕ, ◌+◌, ◌-◌, ◌<◌, ◌≤◌, List, [], ◌∷◌, ◌++◌, flat_map, length, take, get_or, reverse, Option, Some, None, refl, sym, ap, ◌∙◌, subst, arith}
use Rattle.std.proofs.lemmas.List.{get_or-reverse, length-reverse, reverse-append, take_more}
use Rattle.fir_ast.specs.declared.place.Place.{Place}
use Rattle.fir_meaning.specs.working.Choices.{Live}
use Rattle.fir_leaf.specs.working.ClockFaults.{live_places}
use Rattle.fir_flatten.specs.declared.live_sites.LiveSite.{LiveSite}
use Rattle.fir_flatten.specs.working.ClockEvidence.{Tells, first_two}
use Rattle.fir_flatten.specs.working.FirstIndices.{IsFirstOf}
use Rattle.fir_flatten.specs.working.LiveSites.{AreSitesOf, TellOf}

pub none_told : (ls : List Live) → TellOf ls [] → flat_map live_places ls ≡ []
none_told [] h = refl
none_told (l ∷ ls) h = absurd h

module _ (sites : List LiveSite) (i : ℕ) (d : LiveSite) (old new : Option Place) (within : i < length sites)
    (so_far : (ls : List Live) → AreSitesOf ls (take i sites) → IsFirstOf (flat_map live_places ls) old)
    (both : (ps qs : List Place) → IsFirstOf ps (get_or sites i d).index → IsFirstOf qs old → IsFirstOf (ps ++ qs) new) where
  told_before : (ls : List Live) → TellOf ls (get_or sites i d ∷ reverse (take i sites)) → IsFirstOf (flat_map live_places ls) new
  told_before [] h = absurd h
  told_before (l ∷ ls) h = both (live_places l) (flat_map live_places ls) h.0.index (so_far ls h.1)

  -- one statement before them in the text
  pub told_more : (ls : List Live) → AreSitesOf ls (take (i + 1) sites) → IsFirstOf (flat_map live_places ls) new
  told_more ls h =
      told_before ls
      (subst (TellOf ls) (ap reverse (take_more sites i d within) ∙ reverse-append (take i sites) (get_or sites i d ∷ [])) h)

two_told : (ls : List Live) (xs : List LiveSite) (d : LiveSite) → TellOf ls xs → 2 ≤ length xs
    → first_two ls ≡ Some (record { one = (get_or xs 0 d).place; other = (get_or xs 1 d).place })
two_told [] [] d h two = absurd (omega arith)
two_told [] (x ∷ xs) d h two = absurd h
two_told (l ∷ ls) [] d h two = absurd h
two_told (l ∷ []) (x ∷ []) d h two = absurd (omega arith)
two_told (l ∷ []) (x ∷ y ∷ xs) d h two = absurd h.1
two_told (l ∷ m ∷ ls) (x ∷ []) d h two = absurd h.1
two_told (l ∷ m ∷ ls) (x ∷ y ∷ xs) d h two = rw (h.0.place, h.1.0.place) refl

-- the last two of the list are the first two in the text
pub last_two : (sites : List LiveSite) (d : LiveSite) (ls : List Live) → AreSitesOf ls sites → 2 ≤ length sites
    → Some (record { one = (get_or sites (length sites - 1) d).place; other = (get_or sites (length sites - 2) d).place }) ≡ first_two ls
last_two sites d ls h two =
    let many : 2 ≤ length (reverse sites) = omega (arith, length-reverse sites) in
    let first : get_or (reverse sites) 0 d ≡ get_or sites (length sites - 1) d =
    get_or-reverse sites 0 d (omega arith) ∙ ap (λ k. get_or sites k d) (omega arith) in
    let second : get_or (reverse sites) 1 d ≡ get_or sites (length sites - 2) d =
    get_or-reverse sites 1 d (omega arith) ∙ ap (λ k. get_or sites k d) (omega arith) in
    sym (two_told ls (reverse sites) d h many ∙ rw (first, second) refl)

pub told_second : (sites : List LiveSite) (d : LiveSite) (ls : List Live) → IsFirstOf (flat_map live_places ls) None → AreSitesOf ls sites
    → 2 ≤ length sites
    → Tells (flat_map live_places ls) (first_two ls)
    (Some (record { one = (get_or sites (length sites - 1) d).place; other = (get_or sites (length sites - 2) d).place }))
told_second sites d ls none h two = record {
  picked = λ p first. absurd (rw none at first).among;
  unpicked = λ e. last_two sites d ls h two;
}
