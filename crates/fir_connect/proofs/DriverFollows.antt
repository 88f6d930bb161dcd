-- What a driver reads where it follows statements: what these read that are live, and what stood before where they do not cover the leaf.
use Rattle.std.proofs.Common.{◌≡◌, ℕ, [], ◌∷◌, List, ◌++◌, flat_map, map, Bool, true, false, ◌&&◌, ◌||◌, refl, sym, inl, inr, ◌⊎◌, ⊎_elim, subst}
use Rattle.std.proofs.lemmas.Bool.{and_cases}
use Rattle.fir_base.specs.Lists.{In}
use Rattle.fir_base.proofs.Members.{in_either, in_left, in_map, in_map_from, in_right}
use Rattle.fir_meaning.specs.working.Terms.{Term}
use Rattle.fir_meaning.specs.working.TermReads.{picks_read, reads}
use Rattle.fir_meaning.specs.working.TermValues.{Holds}
use Rattle.fir_meaning.specs.working.Choices.{Live, below, live_reads, unless}
use Rattle.fir_connect.specs.working.NetTerms.{NetTerm, choice}
use Rattle.fir_connect.specs.working.NetReads.{net_reads}
use Rattle.fir_connect.specs.working.Lowered.{lowered}
use Rattle.fir_connect.proofs.LoweredReads.{lowered_reads}
use Rattle.fir_connect.proofs.DriverLives.{SomeLive}

-- some of the statements reads a leaf
pub record Reading (ls : List Live) (y : ℕ) : Type 0 where
  pub live : Live
  pub among : In ls live
  pub is_read : In (live_reads live) y

-- the new term reads what statements read, and what the old one reads where these do not cover the leaf
pub record Follows (ls : List Live) (covered : Bool) (old new : NetTerm) (y : ℕ) : Type 0 where
  pub to : In (net_reads new) y → Reading ls y ⊎ ((covered ≡ false) × In (net_reads old) y)
  pub live : Reading ls y → In (net_reads new) y
  pub kept : covered ≡ false → In (net_reads old) y → In (net_reads new) y

first_reads : (ls ms : List Live) (y : ℕ) → Reading ls y → Reading (ls ++ ms) y
first_reads ls ms y r = record { live = r.live; among = in_left ls ms r.live r.among; is_read = r.is_read }

more_reads : (ls ms : List Live) (y : ℕ) → Reading ms y → Reading (ls ++ ms) y
more_reads ls ms y r = record { live = r.live; among = in_right ls ms r.live r.among; is_read = r.is_read }

either_reads : (ls ms : List Live) (y : ℕ) → Reading (ls ++ ms) y → Reading ls y ⊎ Reading ms y
either_reads ls ms y r =
    ⊎_elim
    (λ (m : In ls r.live). inl (record { live = r.live; among = m; is_read = r.is_read }))
    (λ (m : In ms r.live). inr (record { live = r.live; among = m; is_read = r.is_read }))
    (in_either ls ms r.live r.among)

pub nothing_reads : (y : ℕ) → Reading [] y → ⊥
nothing_reads y r = absurd r.among

-- below a condition a statement reads also what the condition reads
condition_is_read : (c : Term) (l : Live) (y : ℕ) → In (reads c) y → In (live_reads (below c l)) y
condition_is_read c l y m =
    let conditions_reads = flat_map reads l.under in
    in_left ((reads c ++ conditions_reads) ++ picks_read l.through) (reads l.given) y
    (in_left (reads c ++ conditions_reads) (picks_read l.through) y (in_left (reads c) conditions_reads y m))

still_read : (c : Term) (l : Live) (y : ℕ) → In (live_reads l) y → In (live_reads (below c l)) y
still_read c l y m =
    let xs = reads c in
    let us = flat_map reads l.under in
    let ps = picks_read l.through in
    let gs = reads l.given in
    ⊎_elim
    (λ (n : In (us ++ ps) y). in_left ((xs ++ us) ++ ps) gs y
    (⊎_elim (λ (o : In us y). in_left (xs ++ us) ps y (in_right xs us y o)) (λ (o : In ps y). in_right (xs ++ us) ps y o) (in_either us ps y n)))
    (λ (n : In gs y). in_right ((xs ++ us) ++ ps) gs y n)
    (in_either (us ++ ps) gs y m)

read_below : (c : Term) (l : Live) (y : ℕ) → In (live_reads (below c l)) y → In (reads c) y ⊎ In (live_reads l) y
read_below c l y m =
    let xs = reads c in
    let us = flat_map reads l.under in
    let ps = picks_read l.through in
    let gs = reads l.given in
    ⊎_elim
    (λ (n : In ((xs ++ us) ++ ps) y). ⊎_elim
    (λ (o : In (xs ++ us) y). ⊎_elim (λ (q : In xs y). inl q) (λ (q : In us y). inr (in_left (us ++ ps) gs y (in_left us ps y q))) (in_either xs us y o))
    (λ (o : In ps y). inr (in_left (us ++ ps) gs y (in_right us ps y o)))
    (in_either (xs ++ us) ps y n))
    (λ (n : In gs y). inr (in_right (us ++ ps) gs y n))
    (in_either ((xs ++ us) ++ ps) gs y m)

pub follows_none : (t : NetTerm) (y : ℕ) → Follows [] false t t y
follows_none t y = record { to = λ m. inr (refl, m); live = λ r. absurd (nothing_reads y r); kept = λ c m. m }

-- what comes later takes the place of what comes earlier where it covers the leaf
pub follows_after : (covered_earlier covered_later : Bool) (ls ms : List Live) (old mid new : NetTerm) (y : ℕ)
    → Follows ls covered_earlier old mid y → Follows ms covered_later mid new y
    → Follows (unless covered_later ls ++ ms) (covered_later || covered_earlier) old new y
follows_after earlier true ls ms old mid new y f g = record {
  to = λ m. ⊎_elim (λ (r : Reading ms y). inl r) (λ (k : (true ≡ false) × In (net_reads mid) y). let never = k.0 in absurd cc) (g.to m);
  live = g.live;
  kept = λ c m. absurd cc;
}
follows_after earlier false ls ms old mid new y f g = record {
  to = λ m. ⊎_elim
      (λ (r : Reading ms y). inl (more_reads ls ms y r))
      (λ (k : (false ≡ false) × In (net_reads mid) y). ⊎_elim
      (λ (r : Reading ls y). inl (first_reads ls ms y r))
      (λ (n : (earlier ≡ false) × In (net_reads old) y). inr n)
      (f.to k.1))
      (g.to m);
  live = λ r. ⊎_elim (λ (q : Reading ls y). g.kept refl (f.live q)) (λ (q : Reading ms y). g.live q) (either_reads ls ms y r);
  kept = λ c m. g.kept refl (f.kept c m);
}

module _ (holds : Holds) where
  -- a choice reads its condition, and what both sides read
  pub follows_choice : (c : Term) (covered_first covered_second : Bool) (ls ms : List Live) (old first second : NetTerm) (y : ℕ) → SomeLive (ls ++ ms)
      → Follows ls covered_first old first y → Follows ms covered_second old second y
      → Follows (map (below c) (ls ++ ms)) (covered_first && covered_second) old (choice holds (lowered holds c) first second) y
  follows_choice c covered_first covered_second ls ms old first second y some f g = record { to = to; live = live; kept = kept }
    where
      cs : List ℕ
      cs = net_reads (lowered holds c)

      both : List ℕ
      both = net_reads (choice holds (lowered holds c) first second)

      in_condition : In cs y → In both y
      in_condition m = in_left (cs ++ net_reads first) (net_reads second) y (in_left cs (net_reads first) y m)

      in_first : In (net_reads first) y → In both y
      in_first m = in_left (cs ++ net_reads first) (net_reads second) y (in_right cs (net_reads first) y m)

      in_second : In (net_reads second) y → In both y
      in_second m = in_right (cs ++ net_reads first) (net_reads second) y m

      beneath : Reading (ls ++ ms) y → Reading (map (below c) (ls ++ ms)) y
      beneath r = record { live = below c r.live; among = in_map (below c) (ls ++ ms) r.live r.among; is_read = still_read c r.live y r.is_read }

      from_condition : In cs y → Reading (map (below c) (ls ++ ms)) y
      from_condition m = record {
        live = below c some.live;
        among = in_map (below c) (ls ++ ms) some.live some.among;
        is_read = condition_is_read c some.live y ((lowered_reads holds c y).0 m);
      }

      to : In both y → Reading (map (below c) (ls ++ ms)) y ⊎ (((covered_first && covered_second) ≡ false) × In (net_reads old) y)
      to m =
          ⊎_elim
          (λ (n : In (cs ++ net_reads first) y). ⊎_elim
          (λ (o : In cs y). inl (from_condition o))
          (λ (o : In (net_reads first) y). ⊎_elim
          (λ (r : Reading ls y). inl (beneath (first_reads ls ms y r)))
          (λ (k : (covered_first ≡ false) × In (net_reads old) y). inr (rw k.0 refl, k.1))
          (f.to o))
          (in_either cs (net_reads first) y n))
          (λ (n : In (net_reads second) y). ⊎_elim
          (λ (r : Reading ms y). inl (beneath (more_reads ls ms y r)))
          (λ (k : (covered_second ≡ false) × In (net_reads old) y). inr (rw k.0 (and_false covered_first), k.1))
          (g.to n))
          (in_either (cs ++ net_reads first) (net_reads second) y m)
        where
          and_false : (b : Bool) → (b && false) ≡ false
          and_false true = refl
          and_false false = refl

      live : Reading (map (below c) (ls ++ ms)) y → In both y
      live r =
          let from = in_map_from (below c) (ls ++ ms) r.live r.among in
          ⊎_elim
          (λ (m : In (reads c) y). in_condition ((lowered_reads holds c y).1 m))
          (λ (m : In (live_reads from.0) y). ⊎_elim
          (λ (q : Reading ls y). in_first (f.live q))
          (λ (q : Reading ms y). in_second (g.live q))
          (either_reads ls ms y (record { live = from.0; among = from.1; is_read = m })))
          (read_below c from.0 y (subst (λ l. In (live_reads l) y) (sym from.2) r.is_read))

      kept : (covered_first && covered_second) ≡ false → In (net_reads old) y → In both y
      kept c m =
          ⊎_elim
          (λ (h : covered_first ≡ false). in_first (f.kept h m))
          (λ (h : covered_second ≡ false). in_second (g.kept h m))
          (and_cases covered_first covered_second c)

-- statements of which there is one
pub only_reads : (l : Live) (y : ℕ) → Reading (l ∷ []) y → In (live_reads l) y
only_reads l y r = of_member r.live r.among r.is_read
  where
    of_member : (m : Live) → In (l ∷ []) m → In (live_reads m) y → In (live_reads l) y
    of_member m (inl e) i = subst (λ z. In (live_reads z) y) (sym e) i
    of_member m (inr n) i = absurd n
