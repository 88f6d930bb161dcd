-- A look at a bound that waited keeps what a search with a work list knows.
use Rattle.std.proofs.Common.{◌≡◌, ℕ, zero, suc, ◌+◌, ◌<◌, ◌≤◌, List, Bool, true, false, Some, length, get_or, take, drop, ◌++◌, replicate, refl, sym, ap, ◌∙◌, subst, inl, inr, ◌⊎◌, arith, length-set, Vec, Global}
use Rattle.std.specs.Prelude.{slice_get, slice_index}
use Rattle.std.proofs.lemmas.Bool.{cases_eq}
use Rattle.std.proofs.lemmas.List.{length-replicate, take_at}
use Rattle.std.proofs.lemmas.Option.{same_Some, slice_get_within, slice_get-get_or, slice_get_read}
use Rattle.fir_base.specs.Lists.{In}
use Rattle.fir_bits.specs.working.Laws.{Monotone}
use Rattle.fir_least_widths.specs.declared.bound.Bound.{Bound}
use Rattle.fir_least_widths.specs.working.Bounds.{Holds, IsLeast, BoundsWithin, TermWithin, reads}
use Rattle.fir_meaning.specs.working.AssignedWidths.{assigned}
use Rattle.fir_least_widths.specs.working.Raises.{Rises, Stays}
use Rattle.fir_least_widths.specs.working.Readers.{IsReader, AllRead, ReadersWithin}
use Rattle.fir_least_widths.specs.working.Waiting.{Waits, NoneWaits, Takes, PlacesWithin, AllWait, waiting_count}
use Rattle.fir_least_widths.specs.working.Solving.{Solving, rises_left}
use Rattle.fir_base.proofs.Writes.{write_other, get-replicate}
use Rattle.fir_least_widths.proofs.Risen.{same_length, still_below, holds_still, holds_now}
use Rattle.fir_least_widths.proofs.RisesLeft.{fewer_left}
use Rattle.fir_least_widths.proofs.Terms.{read_or_not}
use Rattle.fir_least_widths.proofs.WaitingMarks.{count_taken}

module _ (bounds : List Bound) (unknowns : ℕ) (ws : List ℕ) (waits rest : List Bool) (place : ℕ) (b : Bound) (s : Solving bounds unknowns ws waits) (t : Takes waits rest place) (here : slice_get bounds place ≡ Some b) where
  covered : length rest ≡ length bounds
  covered = ap length t.set ∙ length-set waits place false ∙ s.covers

  -- what waited is the one that was taken, or waits still
  after : (i : ℕ) → Waits waits i → (i ≡ place) ⊎ Waits rest i
  after i w = by (cases_eq i place)
    where
      by : (i ≡ place) ⊎ (i ≡ place → ⊥) → (i ≡ place) ⊎ Waits rest i
      by (inl e) = inl e
      by (inr n) = inr (ap (λ ms. slice_get ms i) t.set ∙ write_other waits place false i n ∙ w)

  same_bound : (i : ℕ) (c : Bound) → slice_get bounds i ≡ Some c → i ≡ place → b ≡ c
  same_bound i c is e = same_Some b c (sym here ∙ ap (slice_get bounds) (sym e) ∙ is)

  -- the bound is met
  pub look_stays : (new : List ℕ) → Stays b ws new → Solving bounds unknowns new rest
  look_stays new h = rw h.same (record { long = s.long; covers = covered; below = s.below; settled = λ i c is. settled i c is (s.settled i c is) })
    where
      settled : (i : ℕ) (c : Bound) → slice_get bounds i ≡ Some c → Holds c (assigned ws) ⊎ Waits waits i → Holds c (assigned ws) ⊎ Waits rest i
      settled i c is (inl m) = inl m
      settled i c is (inr w) = by (after i w)
        where
          by : (i ≡ place) ⊎ Waits rest i → Holds c (assigned ws) ⊎ Waits rest i
          by (inl e) = inl (subst (λ (x : Bound). Holds x (assigned ws)) (same_bound i c is e) h.holds)
          by (inr r) = inr r

  -- its unknown rises, and what reads that waits
  pub look_rises : Monotone → (readers : List (Vec ℕ Global)) (list : Vec ℕ Global) (new : List ℕ) (more : List Bool) → b.unknown < length ws → Rises b ws new → AllRead bounds readers (length bounds) → slice_get readers b.unknown ≡ Some list → AllWait rest more list.items (length list.items) → Solving bounds unknowns new more
  look_rises law readers list new more within r all at_list a =
      record {
        long = same_length b ws new within r ∙ s.long;
        covers = a.long ∙ covered;
        below = still_below b ws new within r law bounds place here s.below;
        settled = λ i c is. settled i c is (read_or_not c.term b.unknown) (s.settled i c is);
      }
    where
      reader_waits : (i : ℕ) → IsReader readers b.unknown i → Waits more i
      reader_waits i q =
          let same : q.list ≡ list = same_Some q.list list (sym q.at ∙ at_list) in
          let at : slice_get list.items q.index ≡ Some i = ap (λ (l : Vec ℕ Global). slice_get l.items q.index) (sym same) ∙ q.is in
          a.has q.index i (slice_get_within list.items q.index i at) at

      settled : (i : ℕ) (c : Bound) → slice_get bounds i ≡ Some c → In (reads c.term) b.unknown ⊎ (In (reads c.term) b.unknown → ⊥) → Holds c (assigned ws) ⊎ Waits waits i → Holds c (assigned new) ⊎ Waits more i
      settled i c is (inl read) old = inr (reader_waits i (all.each i c b.unknown (slice_get_within bounds i c is) is read))
      settled i c is (inr n) (inl h) = inl (holds_still b ws new within r c n h)
      settled i c is (inr n) (inr w) = by (after i w)
        where
          by : (i ≡ place) ⊎ Waits rest i → Holds c (assigned new) ⊎ Waits more i
          by (inr v) = inr (a.keeps i v)
          by (inl e) =
              let same : b ≡ c = same_bound i c is e in
              let unread : In (reads b.term) b.unknown → ⊥ = subst (λ (x : Bound). In (reads x.term) b.unknown → ⊥) (sym same) n in
              inl (subst (λ (x : Bound). Holds x (assigned new)) same (holds_now b ws new within r unread))

  pub fewer_if_stays : (readers : List (Vec ℕ Global)) (new : List ℕ) → Stays b ws new → rises_left new readers + waiting_count rest < rises_left ws readers + waiting_count waits
  fewer_if_stays readers new h = rw (h.same, t.set) (omega (arith, count_taken waits place t.waited))

  pub fewer_if_rises : (readers : List (Vec ℕ Global)) (list : Vec ℕ Global) (new : List ℕ) (more : List Bool) → b.unknown < length ws → Rises b ws new → slice_get readers b.unknown ≡ Some list → AllWait rest more list.items (length list.items) → rises_left new readers + waiting_count more < rises_left ws readers + waiting_count waits
  fewer_if_rises readers list new more within r at_list a =
      let taken : waiting_count rest + 1 ≡ waiting_count waits = ap (λ ms. waiting_count ms + 1) t.set ∙ count_taken waits place t.waited in
      omega (arith, fewer_left b ws new readers list r within at_list, a.room, taken)

-- what is written through a slice of all widths
pub written_back : (n : ℕ) (ws slice new : List ℕ) → n ≡ length ws → slice ≡ ws → length new ≡ length slice → take n (new ++ drop (length new) ws) ≡ new
written_back n ws slice new long same kept = take_at new (drop (length new) ws) n (omega (arith, ap length same))

-- the bound at the place, as the code reads it
pub record Looked (bounds : List Bound) (ws : List ℕ) (place : ℕ) (b : Bound) : Type 0 where
  pub here : slice_get bounds place ≡ Some b
  pub within : place < length bounds
  pub unknown : b.unknown < length ws
  pub term : TermWithin b.term (length ws)

pub looked : (bounds : List Bound) (unknowns : ℕ) (ws : List ℕ) (waits rest : List Bool) (place : ℕ) (d : Bound) → BoundsWithin bounds unknowns → Solving bounds unknowns ws waits → Takes waits rest place → Looked bounds ws place (get_or bounds place d)
looked bounds unknowns ws waits rest place d bw s t =
    let lt : place < length bounds = omega (arith, s.covers, slice_get_within waits place true t.waited) in
    let h : slice_get bounds place ≡ Some (get_or bounds place d) = slice_get-get_or bounds place d lt in
    record {
      here = h;
      within = lt;
      unknown = omega (arith, s.long, bw.unknown place (get_or bounds place d) h);
      term = subst (λ (n : ℕ). TermWithin (get_or bounds place d).term n) (sym s.long) (bw.term place (get_or bounds place d) h);
    }

pub list_within : (readers : List (Vec ℕ Global)) (n unknown : ℕ) (list : Vec ℕ Global) → ReadersWithin readers n → slice_get readers unknown ≡ Some list → PlacesWithin list.items n
list_within readers n unknown list w at = record { each = λ i p h. w.each unknown p (record { list = list; at = at; index = i; is = h }) }

zero_at : (n k : ℕ) → slice_index (replicate n 0) k ≡ 0
zero_at zero k = refl
zero_at (suc n) zero = refl
zero_at (suc n) (suc k) = zero_at n k

pub zero_below : (n k m : ℕ) → slice_index (replicate n 0) k ≤ m
zero_below n k m = rw (zero_at n k) (omega arith)

-- all widths are 0, and all bounds wait
pub begun : (bounds : List Bound) (unknowns : ℕ) (ws : List ℕ) (waits : List Bool) → ws ≡ replicate unknowns 0 → waits ≡ replicate (length bounds) true → Solving bounds unknowns ws waits
begun bounds unknowns ws waits e f =
    rw (e, f) (
    record {
      long = length-replicate unknowns 0;
      covers = length-replicate (length bounds) true;
      below = λ v m k. zero_below unknowns k (v k);
      settled = λ i b is. inr (get-replicate (length bounds) i true (slice_get_within bounds i b is));
    })

-- none waits
pub least : (bounds : List Bound) (unknowns : ℕ) (ws : List ℕ) (waits : List Bool) → Solving bounds unknowns ws waits → NoneWaits waits → IsLeast bounds (assigned ws)
least bounds unknowns ws waits s n = record { meets = record { each = λ i b is. by i b (s.settled i b is) }; least = s.below }
  where
    by : (i : ℕ) (b : Bound) → Holds b (assigned ws) ⊎ Waits waits i → Holds b (assigned ws)
    by i b (inl h) = h
    by i b (inr w) = absurd (n.none i w)

-- what a look leaves: what a search knows, and fewer looks
pub record Leaves (bounds : List Bound) (unknowns : ℕ) (readers : List (Vec ℕ Global)) (ws : List ℕ) (waits : List Bool) (new : List ℕ) (more : List Bool) : Type 0 where
  pub solving : Solving bounds unknowns new more
  pub fewer : rises_left new readers + waiting_count more < rises_left ws readers + waiting_count waits

-- with the premises as the code has them
module _ (bounds : List Bound) (unknowns : ℕ) (readers : List (Vec ℕ Global)) (ws : List ℕ) (waits rest : List Bool) (place : ℕ) (b : Bound) (s : Solving bounds unknowns ws waits) (t : Takes waits rest place) (l : Looked bounds ws place b) (n : ℕ) (slice new : List ℕ) (long : n ≡ length ws) (same : slice ≡ ws) (kept : length new ≡ length slice) where
  pub leaves_if_stays : Stays b slice new → Leaves bounds unknowns readers ws waits (take n (new ++ drop (length new) ws)) rest
  leaves_if_stays h =
      let stays : Stays b ws new = subst (λ (xs : List ℕ). Stays b xs new) same h in
      rw (written_back n ws slice new long same kept) (record { solving = look_stays bounds unknowns ws waits rest place b s t l.here new stays; fewer = fewer_if_stays bounds unknowns ws waits rest place b s t l.here readers new stays })

  pub leaves_if_rises : Monotone → length readers ≡ unknowns → AllRead bounds readers (length bounds) → (list : Vec ℕ Global) (places : List ℕ) (more : List Bool) → list ≡ get_or readers b.unknown list → places ≡ list.items → Rises b slice new → AllWait rest more places (length places) → Leaves bounds unknowns readers ws waits (take n (new ++ drop (length new) ws)) more
  leaves_if_rises law covers all list places more read listed h a =
      let rises : Rises b ws new = subst (λ (xs : List ℕ). Rises b xs new) same h in
      let at : slice_get readers b.unknown ≡ Some list = slice_get_read readers unknowns b.unknown list (sym covers) (omega (arith, l.unknown, s.long)) read in
      let waits_all : AllWait rest more list.items (length list.items) = subst (λ (xs : List ℕ). AllWait rest more xs (length xs)) listed a in
      rw (written_back n ws slice new long same kept) (record { solving = look_rises bounds unknowns ws waits rest place b s t l.here law readers list new more l.unknown rises all at waits_all; fewer = fewer_if_rises bounds unknowns ws waits rest place b s t l.here readers list new more l.unknown rises at waits_all })

  pub readers_within : length readers ≡ unknowns → ReadersWithin readers (length bounds) → (list : Vec ℕ Global) (places : List ℕ) → list ≡ get_or readers b.unknown list → places ≡ list.items → PlacesWithin places (length rest)
  readers_within covers w list places read listed =
      let at : slice_get readers b.unknown ≡ Some list = slice_get_read readers unknowns b.unknown list (sym covers) (omega (arith, l.unknown, s.long)) read in
      rw (listed, covered bounds unknowns ws waits rest place b s t l.here) (list_within readers (length bounds) b.unknown list w at)
