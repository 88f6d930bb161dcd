-- The clocks of what writes into an array of a memory, and of what reads it at edges, are those of the memory's ports.
use Rattle.std.proofs.Common.{◌≡◌, ℕ, zero, suc, ◌+◌, ◌*◌, ◌<◌, List, [], ◌∷◌, ◌++◌, false, refl, sym, ap, arith, inl, inr, ⊎_elim}
use Rattle.std.specs.Prelude.{slice_index_or}
use Rattle.fir_base.specs.Lists.{In}
use Rattle.fir_base.proofs.Members.{in_either}
use Rattle.fir_ast.specs.declared.statements.ReadUnderWrite.{ReadUnderWrite}
use Rattle.fir_meaning.specs.MemoryPorts.{MemoryPortKind, reads, writes, reads_and_writes}
use Rattle.fir_meaning.specs.working.LeafMemories.{LeafMemory, clocks_from, enable, mode, port_roles, port_size, read_role, read_roles, roles_from, sinks, writings_from}
use Rattle.fir_meaning.specs.working.LeafModules.{Need, Reading, Role, Writing, pipe, reading, source}

pub writing_clock : (d i b : ℕ) (ks : List MemoryPortKind) (w : Writing) → In (writings_from d i b ks) w → In (clocks_from d b ks) w.clock
writing_clock d i b [] w among = absurd among
writing_clock d i b (reads ∷ ks) w among = inr (writing_clock d i (b + port_size d reads) ks w among)
writing_clock d i b (writes ∷ ks) w (inl e) = inl (ap (λ (x : Writing). x.clock) e)
writing_clock d i b (writes ∷ ks) w (inr among) = inr (writing_clock d i (b + port_size d writes) ks w among)
writing_clock d i b (reads_and_writes ∷ ks) w (inl e) = inl (ap (λ (x : Writing). x.clock) e)
writing_clock d i b (reads_and_writes ∷ ks) w (inr among) = inr (writing_clock d i (b + port_size d reads_and_writes) ks w among)

-- a role among others
pub role_among : (rs : List Role) (k : ℕ) (r : Reading) (clock : ℕ) (under : ReadUnderWrite) → slice_index_or rs k source ≡ pipe r clock under
    → In rs (pipe r clock under)
role_among [] k r clock under e = absurd (cc)
role_among (x ∷ rs) zero r clock under e = inl e
role_among (x ∷ rs) (suc k) r clock under e = inr (role_among rs k r clock under e)

module _ (m : LeafMemory) (r : Reading) (clock : ℕ) (under : ReadUnderWrite) where
  -- what is read of the array of a data leaf
  pub record IsPipeOf (clocks : List ℕ) : Type 0 where
    pub at : ℕ
    pub array : r.array ≡ m.first_array + at
    pub below : at < m.data_leaves
    pub clock_is : In clocks clock

  sinks_not : (n : ℕ) → In (sinks n) (pipe r clock under) → ⊥
  sinks_not zero among = among
  sinks_not (suc n) (inl e) = absurd (cc)
  sinks_not (suc n) (inr among) = sinks_not n among

  read_is : (needs : List Need) (b i : ℕ) → read_role m needs b i ≡ pipe r clock under → (r.array ≡ m.first_array + i) × (b + 2 ≡ clock)
  read_is needs b i e = by m.read_latency refl
    where
      this : Reading
      this = record { array = m.first_array + i; address = b; needs = needs }

      by : (l : ℕ) → m.read_latency ≡ l → (r.array ≡ m.first_array + i) × (b + 2 ≡ clock)
      by zero same = let no : reading this ≡ pipe r clock under = rw same at e in absurd (cc)
      by (suc l) same =
          let yes : pipe this (b + 2) m.under_write ≡ pipe r clock under = rw same at e in
          let of_array : this ≡ r = cc in
          let of_clock : b + 2 ≡ clock = cc in
          (ap (λ (x : Reading). x.array) (sym of_array), of_clock)

  reads_are : (needs : List Need) (b i n : ℕ) → In (read_roles m needs b i n) (pipe r clock under)
      → (at : ℕ) × (r.array ≡ m.first_array + at) × (at < i + n) × (b + 2 ≡ clock)
  reads_are needs b i zero among = absurd among
  reads_are needs b i (suc n) (inl e) = let h = read_is needs b i e in (i, h.0, omega arith, h.1)
  reads_are needs b i (suc n) (inr among) = let h = reads_are needs b (suc i) n among in (h.0, h.1, omega (arith, h.2), h.3)

  all_reads : (needs : List Need) (b : ℕ) (more : List ℕ) → In (read_roles m needs b 0 m.data_leaves) (pipe r clock under) → IsPipeOf ((b + 2) ∷ more)
  all_reads needs b more among =
      let h = reads_are needs b 0 m.data_leaves among in
      record { at = h.0; array = h.1; below = omega (arith, h.2); clock_is = inl h.3 }

  port_pipe : (b : ℕ) (k : MemoryPortKind) (more : List ℕ) → In (port_roles m b k) (pipe r clock under) → IsPipeOf ((b + 2) ∷ more)
  port_pipe b reads more among =
      let rs = read_roles m (enable b ∷ []) b 0 m.data_leaves in
      ⊎_elim (λ (h : In (sinks 3) (pipe r clock under)). absurd (sinks_not 3 h))
      (λ (h : In rs (pipe r clock under)). all_reads (enable b ∷ []) b more h) (in_either (sinks 3) rs (pipe r clock under) among)
  port_pipe b writes more among = absurd (sinks_not (3 + 2 * m.data_leaves) among)
  port_pipe b reads_and_writes more among =
      let needs : List Need = enable b ∷ record { leaf = mode m.data_leaves b; high = false } ∷ [] in
      let rs = read_roles m needs b 0 m.data_leaves in
      let last = sinks (1 + 2 * m.data_leaves) in
      ⊎_elim
      (λ (g : In (sinks 3 ++ rs) (pipe r clock under)).
      ⊎_elim (λ (h : In (sinks 3) (pipe r clock under)). absurd (sinks_not 3 h)) (λ (h : In rs (pipe r clock under)). all_reads needs b more h)
      (in_either (sinks 3) rs (pipe r clock under) g))
      (λ (g : In last (pipe r clock under)). absurd (sinks_not (1 + 2 * m.data_leaves) g)) (in_either (sinks 3 ++ rs) last (pipe r clock under) among)

  pub pipe_of_port : (b : ℕ) (ks : List MemoryPortKind) → In (roles_from m b ks) (pipe r clock under) → IsPipeOf (clocks_from m.data_leaves b ks)
  pipe_of_port b [] among = absurd among
  pipe_of_port b (k ∷ ks) among =
      let next = b + port_size m.data_leaves k in
      ⊎_elim (λ (h : In (port_roles m b k) (pipe r clock under)). port_pipe b k (clocks_from m.data_leaves next ks) h)
      (λ (h : In (roles_from m next ks) (pipe r clock under)).
      let rest = pipe_of_port next ks h in
      record { at = rest.at; array = rest.array; below = rest.below; clock_is = inr rest.clock_is })
      (in_either (port_roles m b k) (roles_from m next ks) (pipe r clock under) among)
