-- A look at one that was met: its targets are met, one by one.
use Rattle.std.proofs.Common.{◌≡◌, ℕ, ◌+◌, ◌<◌, ◌≤◌, true, false, None, Some, length, sym, ap, ◌∙◌, subst, refl, inl, inr, ◌⊎◌, arith}
use Rattle.std.specs.Prelude.{slice_get}
use Rattle.std.proofs.lemmas.Bool.{cases_lt}
use Rattle.std.proofs.lemmas.Option.{none-some, same_Some, slice_get_within}
use Rattle.fir_base.proofs.Elements.{there}
use Rattle.fir_net.specs.declared.net.FlatNet.{FlatNet}
use Rattle.fir_net.specs.declared.reads.Read.{Read}
use Rattle.fir_net.specs.working.Dependence.{reads_of, IsOf, Reads}
use Rattle.fir_net.specs.working.IsNet.{IsNet}
use Rattle.fir_loop.proofs.NetReads.{reads_within}
use Rattle.fir_inits.specs.declared.search.Met.{Met}
use Rattle.fir_inits.specs.declared.search.Origin.TheVariants as origin
use Rattle.fir_inits.specs.declared.search.Search.{Search}
use Rattle.fir_inits.specs.working.Searched.{ComesFrom, HasEnd, IsDone, IsMet, Keeps, Knows, Waits}
use Rattle.fir_inits.specs.working.Steps.{GoesOn, Meets}
use Rattle.fir_inits.proofs.Meeting.{keeps_itself, keeps_on, meets_end, meets_it, meets_on, stays_at}

-- the targets before that place are met
pub record Opening (net : FlatNet) (start s : Search) (number : ℕ) (read : Read) (place : ℕ) : Type 0 where
  pub goes : GoesOn net (Some number) start s
  pub entry : Met
  pub at : slice_get s.met.items number ≡ Some entry
  pub is : entry.read ≡ read
  pub seen : (j : ℕ) (w : Read) → j < place → slice_get (reads_of net read) j ≡ Some w → IsMet s.met.items w

module _ (net : FlatNet) (whole : IsNet net) (start : Search) (number : ℕ) where
  pub opens : (entry : Met) → Knows net (Some number) start → slice_get start.met.items number ≡ Some entry → Opening net start start number entry.read 0
  opens entry knows at = record {
    goes = record { knows = knows; keeps = keeps_itself start; fewer = omega arith };
    entry = entry;
    at = at;
    is = refl;
    seen = λ j w low h. absurd (omega (arith, low));
  }

  module _ (s : Search) (read : Read) (place : ℕ) (open_ : Opening net start s number read place) where
    module _ (w : Read) (next : Some w ≡ slice_get (reads_of net read) place) where
      hangs : Reads net read w
      hangs = record { place = place; is = sym next }

      pub target_of : IsOf net w
      target_of = reads_within net whole read w hangs

      target_comes : ComesFrom net s.met.items (length s.met.items) w (origin.Met number)
      target_comes = (slice_get_within s.met.items number open_.entry open_.at, open_.entry, open_.at, subst (λ (v : Read). Reads net v w) (sym open_.is) hangs)

      module _ (new : Search) where
        pub opening_ends : Meets net s new w (origin.Met number) true → HasEnd net new
        opening_ends m = meets_end net s new w (origin.Met number) target_of target_comes open_.goes.knows.met m

        pub opening_more : Meets net s new w (origin.Met number) false → Opening net start new number read (place + 1)
        opening_more m =
            let on = meets_on net s new w (origin.Met number) target_of target_comes (Some number) open_.goes.knows m in
            record {
              goes = record { knows = on.knows; keeps = keeps_on start s new open_.goes.keeps on.keeps; fewer = omega (arith, on.fewer, open_.goes.fewer) };
              entry = open_.entry;
              at = stays_at net s new w (origin.Met number) target_of target_comes m number open_.entry open_.at;
              is = open_.is;
              seen = λ j u low h. seen on.keeps j u low h (cases_lt j place);
            }
          where
            seen : Keeps s new → (j : ℕ) (u : Read) → j < place + 1 → slice_get (reads_of net read) j ≡ Some u → (j < place) ⊎ (place ≤ j) → IsMet new.met.items u
            seen keeps j u low h (inl l) = keeps.met u (open_.seen j u l h)
            seen keeps j u low h (inr l) =
                let here : j ≡ place = omega (arith, low, l) in
                let same : w ≡ u = same_Some w u (next ∙ ap (slice_get (reads_of net read)) (sym here) ∙ h) in
                subst (IsMet new.met.items) same (meets_it net s new w (origin.Met number) target_of target_comes open_.goes.knows.met m)

    -- with no target left it is done
    pub opened : None ≡ slice_get (reads_of net read) place → GoesOn net None start s
    opened none = record {
      knows = record {
        met = knows.met;
        ahead = knows.ahead;
        waiting = knows.waiting;
        done = λ i m h. by i m h (knows.done i m h);
      };
      keeps = open_.goes.keeps;
      fewer = open_.goes.fewer;
    }
      where
        knows : Knows net (Some number) s
        knows = open_.goes.knows

        low : (j : ℕ) (u : Read) → slice_get (reads_of net read) j ≡ Some u → (j < place) ⊎ (place ≤ j) → j < place
        low j u h (inl l) = l
        low j u h (inr l) = let past = there (reads_of net read) place (omega (arith, l, slice_get_within (reads_of net read) j u h)) in absurd (none-some past.0 (none ∙ past.1))

        done : IsDone net s.met.items read
        done = record { each = λ w r. open_.seen r.place w (low r.place w r.is (cases_lt r.place place)) r.is }

        by : (i : ℕ) (m : Met) → slice_get s.met.items i ≡ Some m → (Some number ≡ Some i) ⊎ (Waits s i ⊎ IsDone net s.met.items m.read) → (None ≡ Some i) ⊎ (Waits s i ⊎ IsDone net s.met.items m.read)
        by i m h (inl e) =
            let same : open_.entry ≡ m = same_Some open_.entry m (sym open_.at ∙ ap (slice_get s.met.items) (same_Some number i e) ∙ h) in
            inr (inr (subst (λ (n : Met). IsDone net s.met.items n.read) same (subst (IsDone net s.met.items) (sym open_.is) done)))
        by i m h (inr o) = inr o
