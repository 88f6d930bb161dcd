-- Where a walk of dependence comes back, some closed walk repeats no leaf; and a chain of clocks is a walk.
use Rattle.std.proofs.Common.{◌≡◌, ℕ, List, [], ◌∷◌, ◌++◌, flat_map, Bool, true, false, nat_eq, refl, sym, ap, subst, arith, ◌⊎◌, inl, inr, ⊎_elim}
use Rattle.fir_base.specs.Lists.{In, Distinct}
use Rattle.fir_base.proofs.Members.{in_right}
use Rattle.fir_base.proofs.Twins.{apart, distinct_left}
use Rattle.fir_ast.specs.Faults.{Fault}
use Rattle.fir_meaning.specs.working.Terms.{Term, no_picks, read}
use Rattle.fir_meaning.specs.working.TermReads.{picks_read, reads}
use Rattle.fir_meaning.specs.working.Choices.{Live}
use Rattle.fir_meaning.specs.working.LeafModules.{Role, computed, pipe, reading, register, sink, source}
use Rattle.fir_meaning.specs.working.LeafCircuits.{LeafCircuit, depth_of, role_of}
use Rattle.fir_leaf.specs.working.ClockRoots.{GivesClock}
use Rattle.fir_meaning.specs.working.Dependence.{RoleDepends}
use Rattle.fir_meaning.specs.working.CircuitDependence.{IsWalk}
use Rattle.fir_meaning.specs.working.LoopFaults.{ShowsLoop}
use Rattle.fir_leaf.specs.working.FaultLaws.{ChainIsWalk, ClosedWalkShowsLoop, RingShowsLoop}
use Rattle.fir_leaf.proofs.LiveStatements.{lives_are_live}

-- the list up to a number, and what follows it
record Split (x : ℕ) (ys : List ℕ) : Type 0 where
  before : List ℕ
  after : List ℕ
  is : ys ≡ before ++ x ∷ after

split_later : (x y : ℕ) (ys : List ℕ) → nat_eq x y ≡ false → (In ys x → ⊥) ⊎ Split x ys → (In (y ∷ ys) x → ⊥) ⊎ Split x (y ∷ ys)
split_later x y ys e (inl none) = inl (λ m. neither m)
  where
    neither : In (y ∷ ys) x → ⊥
    neither (inl s) = let same : x ≡ y = sym s in absurd (grind (arith, same, e))
    neither (inr m) = none m
split_later x y ys e (inr s) = inr (record { before = y ∷ s.before; after = s.after; is = ap (λ zs. y ∷ zs) s.is })

split_first : (x y : ℕ) (ys : List ℕ) (b : Bool) → nat_eq x y ≡ b → (In ys x → ⊥) ⊎ Split x ys → (In (y ∷ ys) x → ⊥) ⊎ Split x (y ∷ ys)
split_first x y ys true e s = let same : y ≡ x = grind (arith, e) in inr (record { before = []; after = ys; is = ap (λ z. z ∷ ys) same })
split_first x y ys false e s = split_later x y ys e s

split : (x : ℕ) (ys : List ℕ) → (In ys x → ⊥) ⊎ Split x ys
split x [] = inl (λ m. m)
split x (y ∷ ys) = split_first x y ys (nat_eq x y) refl (split x ys)

module _ (c : LeafCircuit) where
  -- a walk up to a leaf on it
  walk_before : (v w : List ℕ) (x y final : ℕ) → IsWalk c x (v ++ y ∷ w) final → IsWalk c x (v ++ y ∷ []) y
  walk_before [] w x y final a = (a.0, refl)
  walk_before (z ∷ v) w x y final a = (a.0, walk_before v w z y final a.1)

  final_is_last : (ys : List ℕ) (x y final : ℕ) → IsWalk c x (y ∷ ys) final → In (y ∷ ys) final
  final_is_last [] x y final a = inl a.1
  final_is_last (z ∷ ys) x y final a = inr (final_is_last ys y z final a.1)

  abbrev HasLoop : Type 0
  HasLoop = (f : Fault) × ShowsLoop c f

  loop_at : (x : ℕ) (v w : List ℕ) (final : ℕ) → IsWalk c x (v ++ x ∷ w) final → Distinct (v ++ x ∷ w) → HasLoop
  loop_at x v w final a d = (
    _,
    record {
      first = x;
      between = v;
      walk = walk_before v w x x final a;
      distinct = ((λ m. apart v (x ∷ w) d x m (inl refl)), distinct_left v (x ∷ w) d);
      is = refl;
    },
  )

  -- a walk repeats no leaf, or some part of it is closed
  closed_or_distinct : (ys : List ℕ) (x final : ℕ) → IsWalk c x ys final → HasLoop ⊎ Distinct (x ∷ ys)
  closed_or_distinct [] x final a = inr ((λ m. m), tt)
  closed_or_distinct (y ∷ ys) x final a =
      ⊎_elim
      (λ (l : HasLoop). inl l)
      (λ (d : Distinct (y ∷ ys)).
      ⊎_elim
      (λ (none : In (y ∷ ys) x → ⊥). inr (none, d))
      (λ (s : Split x (y ∷ ys)).
      inl (loop_at x s.before s.after final
      (subst (λ (zs : List ℕ). IsWalk c x zs final) s.is a)
      (subst (λ (zs : List ℕ). Distinct zs) s.is d)))
      (split x (y ∷ ys)))
      (closed_or_distinct ys y final a.1)

  of_closed : (x y : ℕ) (ys : List ℕ) → IsWalk c x (y ∷ ys) x → HasLoop ⊎ Distinct (x ∷ y ∷ ys) → HasLoop
  of_closed x y ys a (inl l) = l
  of_closed x y ys a (inr d) = absurd (d.0 (final_is_last ys x y x a))

  -- what names a leaf as the clock reads it
  depends : (x y : ℕ) (r : Role) → GivesClock c x r (read y no_picks) → RoleDepends c.body (depth_of c x) x r y
  depends x y sink g =
      let among = subst (λ (ls : List Live). In ls g.live) (sym g.only) (inl refl) in
      let here : In (reads g.live.given) y = subst (λ (t : Term). In (reads t) y) (sym g.gives) (inl refl) in
      record {
        live = g.live;
        is_live = (lives_are_live (depth_of c x) x c.body g.live).0 among;
        read = in_right (flat_map reads g.live.under ++ picks_read g.live.through) (reads g.live.given) y here;
      }
  depends x y (computed t) g = subst (λ (u : Term). In (reads u) y) (sym g) (inl refl)
  depends x y source g = absurd g
  depends x y (register k s) g = absurd g
  depends x y (reading s) g = absurd g
  depends x y (pipe s k u) g = absurd g

pub chain_is_walk : ChainIsWalk
chain_is_walk c x [] final a = a
chain_is_walk c x (y ∷ ys) final a = (depends c x y (role_of c x) a.0, chain_is_walk c y ys final a.2)

pub closed_walk_shows_loop : ClosedWalkShowsLoop
closed_walk_shows_loop c x y ys a = of_closed c x y ys a (closed_or_distinct c (y ∷ ys) x x a)

pub ring_shows_loop : RingShowsLoop
ring_shows_loop c x y ys a = closed_walk_shows_loop c x y ys (chain_is_walk c x (y ∷ ys) x a)
