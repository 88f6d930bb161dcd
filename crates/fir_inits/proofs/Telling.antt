-- What the walk of a search tells; and that where all inits are searched without an end, all are constants.
use Rattle.std.proofs.Common.{◌≡◌, ℕ, ◌+◌, ◌<◌, ◌≤◌, List, None, Some, false, length, map, sym, ap, ◌∙◌, subst, refl, inl, inr, ◌⊎◌, arith}
use Rattle.std.specs.Prelude.{slice_get}
use Rattle.std.proofs.lemmas.Bool.{cases_lt}
use Rattle.std.proofs.lemmas.Option.{same_Some, slice_get_read, slice_get_within}
use Rattle.fir_base.specs.Lists.{In, Distinct}
use Rattle.fir_ast.specs.declared.fault.FirFault.TheVariants.{AsyncInit}
use Rattle.fir_ast.specs.declared.place.Place.{Place}
use Rattle.fir_net.specs.declared.leaf.Leaf.{Leaf}
use Rattle.fir_net.specs.declared.net.FlatNet.{FlatNet}
use Rattle.fir_net.specs.declared.reads.Read.{Read}
use Rattle.fir_net.specs.declared.reads.Read.TheVariants as read
use Rattle.fir_net.specs.working.IsWritable.{HasConstantInits, Reaches, itself, through}
use Rattle.fir_loop.specs.working.IsLoop.{path_of}
use Rattle.fir_inits.specs.declared.registers.AsyncRegister.{AsyncRegister}
use Rattle.fir_inits.specs.declared.search.Search.{Search}
use Rattle.fir_inits.specs.working.AsyncInits.{async_init, AreAsync}
use Rattle.fir_inits.specs.working.Searched.{ends, leaf_ends, IsDone, IsIdle, IsMet, Keeps, Waits}
use Rattle.fir_inits.specs.working.ShowsInit.{ReadsLeaf, ShowsInit}
use Rattle.fir_inits.specs.working.Walks.{IsInitWalk}
use Rattle.fir_inits.proofs.Inits.{init_with, reset_of}

pub walk_shows : (net : FlatNet) (place : Place) (walk : List ℕ) (names : List (List ℕ)) → IsInitWalk net place walk → names ≡ map (path_of net) walk → ShowsInit net (AsyncInit place names)
walk_shows net place walk names w named =
    let r = reset_of w.has.leaf.role w.init w.has.is in
    record {
      register = w.register;
      leaf = w.has.leaf;
      at = w.has.at;
      own = r.own;
      is_register = r.is_register;
      reset = r.reset;
      has_reset = r.has_reset;
      is_async = r.is_async;
      first = w.first;
      rest = w.rest;
      final = w.final;
      begins = subst (λ (v : Read). ReadsLeaf net v w.first) (sym r.inits) w.begins;
      walk = w.goes;
      end = w.end;
      end_at = w.end_at;
      ends = w.ends;
      distinct = subst Distinct w.is w.distinct;
      is = ap (λ (p : Place). AsyncInit p names) w.declared ∙ ap (AsyncInit w.has.leaf.place) (named ∙ ap (map (path_of net)) w.is);
    }

module _ (net : FlatNet) (s : Search) (idle : IsIdle net s) where
  -- none waits
  none_waits : (i : ℕ) → Waits s i → ⊥
  none_waits i (inl w) = subst (λ (xs : List ℕ). In xs i) idle.near w
  none_waits i (inr w) = subst (λ (xs : List ℕ). In xs i) idle.far w

  done : (v : Read) → IsMet s.met.items v → IsDone net s.met.items v
  done v m = subst (IsDone net s.met.items) m.is (by (idle.knows.done m.number m.entry m.at))
    where
      by : (None ≡ Some m.number) ⊎ (Waits s m.number ⊎ IsDone net s.met.items m.entry.read) → IsDone net s.met.items m.entry.read
      by (inl e) = absurd (cc)
      by (inr (inl w)) = absurd (none_waits m.number w)
      by (inr (inr d)) = d

  -- what is reached from one that was met was met
  reached : (v x : Read) → Reaches net v x → IsMet s.met.items v → IsMet s.met.items x
  reached v x (itself u) m = m
  reached v x (through u w y r h) m = reached w x h ((done v m).each w r)

  no_end : (v : Read) → IsMet s.met.items v → ends net v ≡ false
  no_end v m = subst (λ (u : Read). ends net u ≡ false) m.is (idle.knows.ahead m.number m.entry m.at)

  pub all_constant : (registers : List AsyncRegister) → AreAsync net (length net.leaves) registers → ((i : ℕ) (r : AsyncRegister) → slice_get registers i ≡ Some r → IsMet s.met.items r.init) → HasConstantInits net
  all_constant registers are met = record {
    each = λ k l own reset at is has kind. record {
      none = λ j e h there. ap leaf_ends (sym there) ∙ no_end (read.Leaf j) (reached reset.init (read.Leaf j) h (init_met k l reset.init at (init_with l.role own reset is has kind)));
    };
  }
    where
      init_met : (k : ℕ) (l : Leaf) (init : Read) → slice_get net.leaves k ≡ Some l → async_init l.role ≡ Some init → IsMet s.met.items init
      init_met k l init at is =
          let r : AsyncRegister = record { leaf = k; place = l.place; init = init } in
          let in_ = are.all k l init (slice_get_within net.leaves k l at) at is in
          met in_.0 r (slice_get_read registers (length registers) in_.0 r refl in_.1 (sym in_.2))

-- one init more is searched
pub met_more : (old new : Search) (registers : List AsyncRegister) (n : ℕ) (r : AsyncRegister) → slice_get registers n ≡ Some r
    → ((i : ℕ) (q : AsyncRegister) → i < n → slice_get registers i ≡ Some q → IsMet old.met.items q.init) → Keeps old new → IsMet new.met.items r.init
    → (i : ℕ) (q : AsyncRegister) → i < n + 1 → slice_get registers i ≡ Some q → IsMet new.met.items q.init
met_more old new registers n r at met keeps here i q low is = by (cases_lt i n)
  where
    by : (i < n) ⊎ (n ≤ i) → IsMet new.met.items q.init
    by (inl l) = keeps.met q.init (met i q l is)
    by (inr l) =
        let same : i ≡ n = omega (arith, l, low) in
        let entry : r ≡ q = same_Some r q (sym at ∙ ap (slice_get registers) (sym same) ∙ is) in
        subst (λ (x : AsyncRegister). IsMet new.met.items x.init) entry here
