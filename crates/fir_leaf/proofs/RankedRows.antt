-- Leaf circuits without a closed walk of dependence, computed from texts: each leaf has a rank above those that it depends on.
use Rattle.std.proofs.Common.{◌≡◌, ℕ, zero, suc, ◌+◌, ◌<◌, ◌≤◌, List, [], ◌∷◌, ◌++◌, length, Bool, true, ◌&&◌, nat_lt, flat_map, refl, subst, arith, inl, inr, ⊎_elim}
use Rattle.std.specs.Prelude.{slice_index_or}
use Rattle.std.proofs.lemmas.Bool.{cases_lt}
use Rattle.fir_base.specs.Lists.{In}
use Rattle.fir_base.proofs.Members.{in_flat_map}
use Rattle.fir_ast.specs.Faults.{Fault}
use Rattle.fir_bits.specs.Literals.{least_width}
use Rattle.fir_meaning.specs.working.TermReads.{reads}
use Rattle.fir_meaning.specs.working.Choices.{live_reads, lives_all}
use Rattle.fir_meaning.specs.working.LeafBlocks.{LeafBlock}
use Rattle.fir_meaning.specs.working.LeafModules.{LeafDeclared, Role, computed, leaf_at, no_leaf, pipe, reading, register, sink, source}
use Rattle.fir_meaning.specs.working.LeafCircuits.{LeafCircuit, depth_of, role_of}
use Rattle.fir_meaning.specs.working.Dependence.{RoleDepends, reading_reads, reset_reads}
use Rattle.fir_meaning.specs.working.CircuitDependence.{CircuitDepends, IsWalk}
use Rattle.fir_meaning.specs.working.LoopFaults.{ShowsLoop}
use Rattle.fir_meaning.specs.working.Designs.{elaborated}
use Rattle.fir_leaf.proofs.LiveStatements.{lives_are_live}
use Rattle.fir_leaf.proofs.RowTrees.{over_leaves}
use Rattle.fir_leaf.proofs.SettledTests.{left, right}
use Rattle.fir_leaf.proofs.TextTrees as text

-- what a leaf depends on, as a list
abbrev read_by : LeafBlock → ℕ → ℕ → Role → List ℕ
read_by body depth x source = []
read_by body depth x sink = flat_map live_reads (lives_all depth x body 0)
read_by body depth x (computed t) = reads t
read_by body depth x (register clock reset) = reset_reads reset
read_by body depth x (reading r) = reading_reads r
read_by body depth x (pipe r clock under) = []

depended : (body : LeafBlock) (depth x : ℕ) (r : Role) (y : ℕ) → RoleDepends body depth x r y → In (read_by body depth x r) y
depended body depth x source y h = absurd h
depended body depth x sink y h =
    in_flat_map live_reads (lives_all depth x body 0) h.live y ((lives_are_live depth x body h.live).1 h.is_live) h.read
depended body depth x (computed t) y h = h
depended body depth x (register clock reset) y h = h
depended body depth x (reading r) y h = h
depended body depth x (pipe r clock under) y h = absurd h

abbrev rank_in : List ℕ → ℕ → ℕ
rank_in ranks x = slice_index_or ranks x 0

abbrev are_below : List ℕ → ℕ → List ℕ → Bool
are_below ranks rank [] = true
are_below ranks rank (y ∷ ys) = nat_lt (rank_in ranks y) rank && are_below ranks rank ys

abbrev ranked_from : LeafCircuit → List ℕ → ℕ → ℕ → Bool
ranked_from c ranks k zero = true
ranked_from c ranks k (suc n) =
    are_below ranks (rank_in ranks k) (read_by c.body (depth_of c k) k (role_of c k)) && ranked_from c ranks (k + 1) n

-- whether each leaf has a rank above those that it depends on
abbrev is_ranked : LeafCircuit → List ℕ → Bool
is_ranked c ranks = ranked_from c ranks 0 (length c.leaves)

one_below : (ranks : List ℕ) (rank : ℕ) (ys : List ℕ) (y : ℕ) → are_below ranks rank ys ≡ true → In ys y → rank_in ranks y < rank
one_below ranks rank [] y e m = absurd m
one_below ranks rank (z ∷ ys) y e (inl s) =
    let here = left (nat_lt (rank_in ranks z) rank) (are_below ranks rank ys) e in
    subst (λ (k : ℕ). rank_in ranks k < rank) s (grind arith)
one_below ranks rank (z ∷ ys) y e (inr m) = one_below ranks rank ys y (right (nat_lt (rank_in ranks z) rank) (are_below ranks rank ys) e) m

beyond : (ls : List LeafDeclared) (x : ℕ) → length ls ≤ x → leaf_at ls x ≡ no_leaf
beyond [] x l = refl
beyond (h ∷ ls) zero l = absurd (omega (arith, l))
beyond (h ∷ ls) (suc x) l = beyond ls x (omega (arith, l))

module _ (c : LeafCircuit) (ranks : List ℕ) where
  at_rank : (k n x y : ℕ) → ranked_from c ranks k n ≡ true → k ≤ x → x < k + n → CircuitDepends c x y → rank_in ranks y < rank_in ranks x
  at_rank k zero x y e l m h = absurd (omega (arith, l, m))
  at_rank k (suc n) x y e l m h =
      let this = are_below ranks (rank_in ranks k) (read_by c.body (depth_of c k) k (role_of c k)) in
      ⊎_elim
      (λ (later : k < x). at_rank (k + 1) n x y (right this _ e) (omega (arith, later)) (omega (arith, m)) h)
      (λ (here : x ≤ k).
      let same : k ≡ x = omega (arith, l, here) in
      let below = left this _ e in
      subst (λ (z : ℕ). CircuitDepends c z y → rank_in ranks y < rank_in ranks z) same
      (λ (d : CircuitDepends c k y). one_below ranks (rank_in ranks k) _ y below (depended c.body (depth_of c k) k (role_of c k) y d)) h)
      (cases_lt k x)

  goes_down : is_ranked c ranks ≡ true → (x y : ℕ) → CircuitDepends c x y → rank_in ranks y < rank_in ranks x
  goes_down e x y h =
      ⊎_elim
      (λ (within : x < length c.leaves). at_rank 0 (length c.leaves) x y e (omega arith) (omega (arith, within)) h)
      (λ (past : length c.leaves ≤ x).
      absurd (subst (λ (l : LeafDeclared). RoleDepends c.body l.depth x l.role y) (beyond c.leaves x past) h))
      (cases_lt x (length c.leaves))

  walks_down : is_ranked c ranks ≡ true → (x : ℕ) (ys : List ℕ) (final : ℕ) → IsWalk c x ys final → rank_in ranks final ≤ rank_in ranks x
  walks_down e x [] final h = subst (λ (z : ℕ). rank_in ranks z ≤ rank_in ranks x) h (omega arith)
  walks_down e x (y ∷ ys) final h =
      let first = goes_down e x y h.0 in
      let rest = walks_down e y ys final h.1 in
      omega (arith, first, rest)

  none_closes : is_ranked c ranks ≡ true → (x : ℕ) (between : List ℕ) → IsWalk c x (between ++ x ∷ []) x → ⊥
  none_closes e x [] h = let down = goes_down e x x h.0 in omega (arith, down)
  none_closes e x (y ∷ ys) h =
      let first = goes_down e x y h.0 in
      let rest = walks_down e y (ys ++ x ∷ []) x h.1 in
      omega (arith, first, rest)

  pub no_loop_by : is_ranked c ranks ≡ true → (f : Fault) → ShowsLoop c f → ⊥
  no_loop_by e f h = none_closes e h.first h.between h.walk

-- the ring of memory_loop with a memory that is read a tick later: the pipe depends on nothing. The leaves are clock, o, b.i, b.o, x.clock, x.a, x.d, and the
-- addr, en, clk and data of the port
pipe_shows_no_loop : (f : Fault) → ShowsLoop (over_leaves text.pipe_in_a_ring) f → ⊥
unfolding elaborated least_width
pipe_shows_no_loop = no_loop_by (over_leaves text.pipe_in_a_ring) (0 ∷ 2 ∷ 2 ∷ 3 ∷ 1 ∷ 4 ∷ 1 ∷ 5 ∷ 0 ∷ 2 ∷ 0 ∷ []) refl
