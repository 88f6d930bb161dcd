-- A term over the module's numbers and the same term over those of the design have one value.
use Rattle.std.proofs.Common.{◌≡◌, ℕ, ◌+◌, ◌*◌, ◌-◌, ◌<◌, ◌≤◌, List, ◌++◌, Bool, true, false, length, refl, ap, ap₂, arith, Option, Some, None, mul-le-mul_right}
use Rattle.std.specs.Prelude.{option_map, nat_lt, if◌then◌else◌}
use Rattle.std.proofs.lemmas.Bool.{ltb-true, ltb-false, lt-ltb, le-ltb}
use Rattle.fir_bits.specs.Operators.{outcome}
use Rattle.fir_meaning.specs.Values.{number_of}
use Rattle.fir_meaning.specs.LeafPaths.{LeafPath}
use Rattle.fir_meaning.specs.working.Terms.{Term, zeros, absent, literal, read, operation, mux, validif, Picks, no_picks, pick, Terms, no_terms, term}
use Rattle.fir_meaning.specs.working.TermValues.{eval, leaf_of, eval_each, picked, value_at, clock_at, clock_of}
use Rattle.fir_meaning.specs.working.LeafModules.{LeafDeclared, LeafModule, leaf_at}
use Rattle.fir_meaning.specs.TreeValues.{TypesByPath, ValuesByPath}
use Rattle.fir_meaning.specs.working.Numberings.{Numbering, number, moved, moved_picks, moved_terms}
use Rattle.fir_meaning.specs.working.DesignPaths.{seen}
use Rattle.fir_leaf.specs.working.SoundDesigns.{last_of, IsRead, IsTermIn, ArePicksIn, AreTermsIn}

pub number_port : (n : Numbering) (k : ℕ) → k < n.ports → number n k ≡ n.first + k
number_port n k lt = rw (lt-ltb k n.ports lt) refl

pub number_own : (n : Numbering) (k : ℕ) → n.ports ≤ k → number n k ≡ n.own + (k - n.ports)
number_own n k le = rw (le-ltb k n.ports le) refl

-- some leaves further, all ports or none
pub number_more : (n : Numbering) (k z : ℕ) → (k < n.ports → k + z < n.ports) → number n k + z ≡ number n (k + z)
number_more n k z side = go (nat_lt k n.ports) refl
  where
    go : (b : Bool) → nat_lt k n.ports ≡ b → number n k + z ≡ number n (k + z)
    go true e = let lt : k < n.ports = ltb-true k n.ports e in omega (arith, number_port n k lt, number_port n (k + z) (side lt))
    go false e =
        let le : n.ports ≤ k = ltb-false k n.ports e in
        let further : n.ports ≤ k + z = omega (arith, le) in
        omega (arith, le, number_own n k le, number_own n (k + z) further)

-- neither, or a leaf of the module from b to l, and its number
abbrev pub Both : Numbering → ℕ → ℕ → Option ℕ → Option ℕ → Type 0
Both n b l None None = Unit {0}
Both n b l None (Some x) = ⊥
Both n b l (Some y) None = ⊥
Both n b l (Some y) (Some x) = (y ≡ number n x) × (b ≤ x) × (x ≤ l)

both_picked : (n : Numbering) (v c each b l : ℕ) (o q : Option ℕ) → (b < n.ports → l + (c - 1) * each < n.ports) → Both n b l o q
    → Both n b (l + (c - 1) * each) (picked v c each o) (picked v c each q)
both_picked n v c each b l o q side h = go (nat_lt v c) refl o q h
  where
    go : (t : Bool) → nat_lt v c ≡ t → (o q : Option ℕ) → Both n b l o q
        → Both n b (l + (c - 1) * each) (if t then option_map (λ k. k + v * each) o else None) (if t then option_map (λ k. k + v * each) q else None)
    go false e o q h = tt
    go true e None None h = tt
    go true e None (Some x) h = absurd h
    go true e (Some y) None h = absurd h
    go true e (Some y) (Some x) h =
        let lt : v < c = ltb-true v c e in
        let room : v * each ≤ (c - 1) * each = mul-le-mul_right each (omega (arith, lt)) in
        let low : b ≤ x = h.1 in
        let high : x ≤ l = h.2 in (
          rw h.0 (number_more n x (v * each) (λ port. omega (arith, port, low, high, room, side (omega (arith, port, low))))),
          omega (arith, low),
          omega (arith, high, room),
        )

pub shorter : (m : LeafModule) (b : ℕ) (ps : Picks) (l : ℕ) → last_of b ps ≤ l → l < length m.leaves → (b < m.port_leaves → l < m.port_leaves) → IsRead m b ps
shorter m b ps l le within ports = record { within = omega (arith, le, within); ports = λ low. omega (arith, le, ports low) }

-- where the leaves of the module of the instance at the path stand in the table, k whens round it
pub record Stands (table : List LeafDeclared) (n : Numbering) (here : LeafPath) (k : ℕ) (m : LeafModule) : Type 0 where
  pub ports : n.ports ≡ m.port_leaves
  pub within : (x : ℕ) → x < length m.leaves → number n x < length table
  pub path : (x : ℕ) → x < length m.leaves → (leaf_at table (number n x)).path ≡ here ++ (leaf_at m.leaves x).path
  pub depth : (x : ℕ) → x < length m.leaves → (leaf_at table (number n x)).depth ≡ k + (leaf_at m.leaves x).depth

-- a function of paths over the numbers of the table
abbrev pub in_table : {A : Type 0} → List LeafDeclared → (LeafPath → A) → ℕ → A
in_table table f x = f (leaf_at table x).path

module _ (table : List LeafDeclared) (holds : TypesByPath) (env : ValuesByPath) (n : Numbering) (here : LeafPath) (k : ℕ) (m : LeafModule)
    (s : Stands table n here k m) where
  read_same : (b : ℕ) (o q : Option ℕ) (l : ℕ) → b < length m.leaves → l < length m.leaves → Both n b l o q
      → number_of (in_table table holds (number n b)) (value_at o (in_table table env)) ≡ number_of (seen here m holds b) (value_at q (seen here m env))
  read_same b None None l lt room h = ap (λ p. number_of (holds p) 0) (s.path b lt)
  read_same b None (Some x) l lt room h = absurd h
  read_same b (Some y) None l lt room h = absurd h
  read_same b (Some y) (Some x) l lt room h =
      let high : x ≤ l = h.2 in
      let within : x < length m.leaves = omega (arith, high, room) in
      rw h.0 (ap₂ (λ p q. number_of (holds p) (env q)) (s.path b lt) (s.path x within))

  first_le : (b : ℕ) (ps : Picks) → b ≤ last_of b ps
  first_le b no_picks = omega arith
  first_le b (pick ps p i c each) = let e : b ≤ last_of b ps = first_le b ps in omega (arith, e)

  mutual
    pub eval_same : (t : Term) → IsTermIn m t → eval (in_table table holds) (in_table table env) (moved n t) ≡ eval (seen here m holds) (seen here m env) t
    eval_same zeros h = refl
    eval_same (absent t ps) h = refl
    eval_same (literal l) h = refl
    eval_same (read b ps) h =
        let f : b ≤ last_of b ps = first_le b ps in
        read_same b _ _ (last_of b ps) (omega (arith, f, h.0.within)) h.0.within (leaf_same b ps h.0 h.1)
    eval_same (operation op ts ks) h = ap (λ vs. outcome op vs ks) (each_same ts h)
    eval_same (mux c a b) h = rw (eval_same c h.0, eval_same a h.1, eval_same b h.2) refl
    eval_same (validif c a) h = rw (eval_same c h.0, eval_same a h.1) refl

    pub leaf_same : (b : ℕ) (ps : Picks) → IsRead m b ps → ArePicksIn m ps
        → Both n b (last_of b ps) (leaf_of (in_table table holds) (in_table table env) (number n b) (moved_picks n ps))
        (leaf_of (seen here m holds) (seen here m env) b ps)
    leaf_same b no_picks h k = (refl, omega arith, omega arith)
    leaf_same b (pick ps p i c each) h k =
        rw (eval_same i k.1)
        (both_picked n (eval (seen here m holds) (seen here m env) i).value.number c each b (last_of b ps) _ _ (λ low. rw s.ports (h.ports (rw s.ports at low)))
        (leaf_same b ps (shorter m b ps (last_of b (pick ps p i c each)) (omega arith) h.within h.ports) k.0))

    each_same : (ts : Terms) → AreTermsIn m ts
        → eval_each (in_table table holds) (in_table table env) (moved_terms n ts) ≡ eval_each (seen here m holds) (seen here m env) ts
    each_same no_terms h = refl
    each_same (term t ts) h = rw (eval_same t h.0, each_same ts h.1) refl

  read_clock_same : (clocks : LeafPath → Option ℕ) (b : ℕ) (o q : Option ℕ) (l : ℕ) → l < length m.leaves → Both n b l o q
      → clock_at o (in_table table clocks) ≡ clock_at q (seen here m clocks)
  read_clock_same clocks b None None l room h = refl
  read_clock_same clocks b None (Some x) l room h = absurd h
  read_clock_same clocks b (Some y) None l room h = absurd h
  read_clock_same clocks b (Some y) (Some x) l room h =
      let high : x ≤ l = h.2 in
      let within : x < length m.leaves = omega (arith, high, room) in
      rw h.0 (ap clocks (s.path x within))

  pub clock_same : (clocks : LeafPath → Option ℕ) (t : Term) → IsTermIn m t
      → clock_of (in_table table holds) (record { numbers = in_table table env; clocks = in_table table clocks }) (moved n t)
      ≡ clock_of (seen here m holds) (record { numbers = seen here m env; clocks = seen here m clocks }) t
  clock_same clocks zeros h = refl
  clock_same clocks (absent t ps) h = refl
  clock_same clocks (literal l) h = refl
  clock_same clocks (read b ps) h = read_clock_same clocks b _ _ (last_of b ps) h.0.within (leaf_same b ps h.0 h.1)
  clock_same clocks (operation op ts ks) h = refl
  clock_same clocks (mux c a b) h = refl
  clock_same clocks (validif c a) h = refl
