-- The ports of a memory have types where its leaves hold what its type says, and its arrays stand: what reads, and what writes.
use Rattle.std.proofs.Common.{◌≡◌, ℕ, zero, suc, ◌+◌, ◌*◌, ◌<◌, ◌≤◌, List, [], ◌∷◌, ◌++◌, flat_map, length, slice_get, Bool, true, false, Some, refl, sym, ap, ◌∙◌, subst, arith, length-append}
use Rattle.std.specs.Prelude.{slice_index_or}
use Rattle.std.specs.List.{AllByRecursion}
use Rattle.std.proofs.lemmas.List.{length-map}
use Rattle.fir_base.proofs.Each.{all_joined}
use Rattle.fir_meaning.specs.LeafTypes.{LeafType, a_clock}
use Rattle.fir_meaning.specs.MemoryPorts.{MemoryPortKind, reads, writes, reads_and_writes}
use Rattle.fir_meaning.specs.working.LeafMemories.{LeafMemory, enable, mode, port_roles, port_size, port_writings, read_role, read_roles, roles_from, sinks, writings_from}
use Rattle.fir_meaning.specs.working.LeafModules.{LeafArray, LeafDeclared, Need, Reading, Role, source}
use Rattle.fir_leaf.proofs.LeafPlaces.{get_left, get_mapped, get_right}
use Rattle.fir_leaf_types.specs.working.TypedTerms.{one_bit}
use Rattle.fir_memory_types.specs.working.TypedMemories.{AreNeedsTyped, IsAddressTyped, IsClockTyped, IsMemoryRoleTyped, IsNeedTyped, IsReadingTyped, IsWritingTyped, held}
use Rattle.fir_memory_types.proofs.MemoryHolds.{an_address, as_bit, behind_controls, masks, port_counted, port_holds}

-- leaves that stand one behind the other, from one on, hold these
pub record Stand (leaves : List LeafDeclared) (b : ℕ) (hs : List LeafType) : Type 0 where
  pub each : (j : ℕ) (h : LeafType) → slice_get hs j ≡ Some h → (b + j < length leaves) × (held leaves (b + j) ≡ h)

module _ (leaves : List LeafDeclared) where
  stand_left : (b : ℕ) (hs ks : List LeafType) → Stand leaves b (hs ++ ks) → Stand leaves b hs
  stand_left b hs ks h = record { each = λ j x e. h.each j x (get_left hs ks j x e) }

  stand_right : (b n : ℕ) (hs ks : List LeafType) → length hs ≡ n → Stand leaves b (hs ++ ks) → Stand leaves (b + n) ks
  stand_right b n hs ks long h = record {
    each = λ j x e.
        let far : b + n + j ≡ b + (n + j) = omega arith in rw far (h.each (n + j) x (get_right hs ks n j long ∙ e));
  }

  -- the leaf of a number
  stand_at : (b : ℕ) (hs : List LeafType) → Stand leaves b hs → (j x : ℕ) (h : LeafType) → b + j ≡ x → slice_get hs j ≡ Some h
      → (x < length leaves) × (held leaves x ≡ h)
  stand_at b hs s j x h at e = subst (λ y. (y < length leaves) × (held leaves y ≡ h)) at (s.each j h e)

  need_at : (b : ℕ) (hs : List LeafType) → Stand leaves b hs → (j : ℕ) (n : Need) → b + j ≡ n.leaf → slice_get hs j ≡ Some one_bit → IsNeedTyped leaves n
  need_at b hs s j n at e = let r = stand_at b hs s j n.leaf one_bit at e in record { within = r.0; is = r.1 }

  module _ (arrays : List LeafArray) (m : LeafMemory) (hs : List LeafType) (width : ℕ) (long : m.data_leaves ≡ length hs) (has_bits : 1 ≤ width)
      (there : (i : ℕ) (h : LeafType) → slice_get hs i ≡ Some h
      → (a : LeafArray) × (slice_get arrays (m.first_array + i) ≡ Some a) × (a.holds ≡ h)) where
    -- roles in order, each of what its leaf holds
    abbrev AreRolesTyped : List Role → List LeafType → Type 0
    AreRolesTyped [] [] = Unit {0}
    AreRolesTyped (r ∷ rs) (h ∷ ks) = IsMemoryRoleTyped leaves arrays h r × AreRolesTyped rs ks
    AreRolesTyped _ _ = ⊥

    roles_joined : (rs qs : List Role) (ks ls : List LeafType) → AreRolesTyped rs ks → AreRolesTyped qs ls → AreRolesTyped (rs ++ qs) (ks ++ ls)
    roles_joined [] qs [] ls h g = g
    roles_joined [] qs (k ∷ ks) ls h g = absurd h
    roles_joined (r ∷ rs) qs [] ls h g = absurd h
    roles_joined (r ∷ rs) qs (k ∷ ks) ls h g = (h.0, roles_joined rs qs ks ls h.1 g)

    sinks_typed : (n : ℕ) (ks : List LeafType) → length ks ≡ n → AreRolesTyped (sinks n) ks
    sinks_typed zero [] e = tt
    sinks_typed zero (k ∷ ks) e = absurd (omega (arith, e))
    sinks_typed (suc n) [] e = absurd (omega (arith, e))
    sinks_typed (suc n) (k ∷ ks) e = (tt, sinks_typed n ks (omega (arith, e)))

    -- a port from a leaf on, whose data begins behind its controls
    module _ (b : ℕ) (k : MemoryPortKind) (s : Stand leaves b (port_holds width hs k)) where
      address_typed : IsAddressTyped leaves b
      address_typed =
          let r = stand_at b (port_holds width hs k) s 0 b (an_address width) (omega arith) refl in
          record { within = r.0; width = width; is = r.1; has_bits = has_bits }

      enable_typed : IsNeedTyped leaves (enable b)
      enable_typed = need_at b (port_holds width hs k) s 1 (enable b) refl refl

      clock_typed : IsClockTyped leaves (b + 2)
      clock_typed = let r = stand_at b (port_holds width hs k) s 2 (b + 2) a_clock refl refl in record { within = r.0; is = r.1 }

      behind_typed : Stand leaves (b + 3) (behind_controls hs k)
      behind_typed = stand_right b 3 (an_address width ∷ one_bit ∷ a_clock ∷ []) (behind_controls hs k) refl s

    -- one that reads and writes has its mode behind what it reads, and then what it writes
    module _ (b : ℕ) (s : Stand leaves b (port_holds width hs reads_and_writes)) where
      moded : Stand leaves (b + 3 + m.data_leaves) (one_bit ∷ (hs ++ masks hs))
      moded = stand_right (b + 3) m.data_leaves hs (one_bit ∷ (hs ++ masks hs)) (sym long) (behind_typed b reads_and_writes s)

      mode_typed : (high : Bool) → IsNeedTyped leaves (record { leaf = mode m.data_leaves b; high = high })
      mode_typed high =
          need_at (b + 3 + m.data_leaves) (one_bit ∷ (hs ++ masks hs)) moded 0 (record { leaf = mode m.data_leaves b; high = high }) (omega arith) refl

      given_typed : Stand leaves (b + 3 + m.data_leaves + 1) (hs ++ masks hs)
      given_typed = stand_right (b + 3 + m.data_leaves) 1 (one_bit ∷ []) (hs ++ masks hs) refl moded

    -- what is read
    read_typed : (needs : List Need) (b i : ℕ) (h : LeafType) → IsAddressTyped leaves b → AreNeedsTyped leaves needs → IsClockTyped leaves (b + 2)
        → slice_get hs i ≡ Some h → IsMemoryRoleTyped leaves arrays h (read_role m needs b i)
    read_typed needs b i h address enabled clock e = by m.read_latency refl
      where
        this : Reading
        this = record { array = m.first_array + i; address = b; needs = needs }

        reads_it : IsReadingTyped leaves arrays h this
        reads_it = let a = there i h e in record { array = a.0; is_there = a.1; holds = a.2; address = address; needs = enabled }

        by : (l : ℕ) → m.read_latency ≡ l → IsMemoryRoleTyped leaves arrays h (read_role m needs b i)
        by zero same = rw same reads_it
        by (suc l) same = rw same (reads_it, clock)

    reads_typed : (needs : List Need) (b i n : ℕ) (ks : List LeafType) → IsAddressTyped leaves b → AreNeedsTyped leaves needs → IsClockTyped leaves (b + 2)
        → length ks ≡ n → ((j : ℕ) (h : LeafType) → slice_get ks j ≡ Some h → slice_get hs (i + j) ≡ Some h)
        → AreRolesTyped (read_roles m needs b i n) ks
    reads_typed needs b i zero [] address enabled clock e from = tt
    reads_typed needs b i zero (k ∷ ks) address enabled clock e from = absurd (omega (arith, e))
    reads_typed needs b i (suc n) [] address enabled clock e from = absurd (omega (arith, e))
    reads_typed needs b i (suc n) (k ∷ ks) address enabled clock e from =
        let first : i + 0 ≡ i = omega arith in (
          read_typed needs b i k address enabled clock (rw first at (from 0 k refl)),
          reads_typed needs b (suc i) n ks address enabled clock (omega (arith, e))
              (λ j h f. let next : suc i + j ≡ i + suc j = omega arith in rw next (from (suc j) h f)),
        )

    all_reads_typed : (needs : List Need) (b : ℕ) → IsAddressTyped leaves b → AreNeedsTyped leaves needs → IsClockTyped leaves (b + 2)
        → AreRolesTyped (read_roles m needs b 0 m.data_leaves) hs
    all_reads_typed needs b address enabled clock =
        reads_typed needs b 0 m.data_leaves hs address enabled clock (sym long) (λ j h e. let none : 0 + j ≡ j = omega arith in rw none e)

    port_roles_typed : (b : ℕ) (k : MemoryPortKind) → Stand leaves b (port_holds width hs k) → AreRolesTyped (port_roles m b k) (port_holds width hs k)
    port_roles_typed b reads s =
        (tt, (tt, (tt, all_reads_typed (enable b ∷ []) b (address_typed b reads s) (enable_typed b reads s, tt) (clock_typed b reads s))))
    port_roles_typed b writes s =
        sinks_typed (3 + 2 * m.data_leaves) (port_holds width hs writes) (omega (arith, long, length-append hs (masks hs), length-map hs as_bit))
    port_roles_typed b reads_and_writes s =
        let needs : List Need = enable b ∷ record { leaf = mode m.data_leaves b; high = false } ∷ [] in
        let behind =
        roles_joined (read_roles m needs b 0 m.data_leaves) (sinks (1 + 2 * m.data_leaves)) hs (one_bit ∷ (hs ++ masks hs))
        (all_reads_typed needs b (address_typed b reads_and_writes s) (enable_typed b reads_and_writes s, (mode_typed b s false, tt))
        (clock_typed b reads_and_writes s))
        (sinks_typed (1 + 2 * m.data_leaves) (one_bit ∷ (hs ++ masks hs)) (omega (arith, long, length-append hs (masks hs), length-map hs as_bit))) in
        (tt, (tt, (tt, behind)))

    roles_typed : (b : ℕ) (ks : List MemoryPortKind) → Stand leaves b (flat_map (port_holds width hs) ks)
        → AreRolesTyped (roles_from m b ks) (flat_map (port_holds width hs) ks)
    roles_typed b [] s = tt
    roles_typed b (k ∷ ks) s =
        let rest = flat_map (port_holds width hs) ks in
        let size = port_size m.data_leaves k in
        let counted : length (port_holds width hs k) ≡ size = port_counted width hs k ∙ ap (λ d. port_size d k) (sym long) in
        roles_joined (port_roles m b k) (roles_from m (b + size) ks) (port_holds width hs k) rest
        (port_roles_typed b k (stand_left b (port_holds width hs k) rest s))
        (roles_typed (b + size) ks (stand_right b size (port_holds width hs k) rest counted s))

    -- the role of a leaf
    role_typed : (rs : List Role) (ks : List LeafType) → AreRolesTyped rs ks → (j : ℕ) (h : LeafType) → slice_get ks j ≡ Some h
        → IsMemoryRoleTyped leaves arrays h (slice_index_or rs j source)
    role_typed [] [] t j h e = absurd (cc)
    role_typed [] (k ∷ ks) t j h e = absurd t
    role_typed (r ∷ rs) [] t j h e = absurd (cc)
    role_typed (r ∷ rs) (k ∷ ks) t zero h e = let same : k ≡ h = cc in subst (λ x. IsMemoryRoleTyped leaves arrays x r) same t.0
    role_typed (r ∷ rs) (k ∷ ks) t (suc j) h e = role_typed rs ks t.1 j h e

    pub memory_role_typed : (ks : List MemoryPortKind) → Stand leaves m.first (flat_map (port_holds width hs) ks) → (j : ℕ) (h : LeafType)
        → slice_get (flat_map (port_holds width hs) ks) j ≡ Some h
        → IsMemoryRoleTyped leaves arrays h (slice_index_or (roles_from m m.first ks) j source)
    memory_role_typed ks s j h e = role_typed (roles_from m m.first ks) (flat_map (port_holds width hs) ks) (roles_typed m.first ks s) j h e

    -- what is written into the array of a data leaf
    module _ (i : ℕ) (h : LeafType) (e : slice_get hs i ≡ Some h) where
      masked : slice_get (masks hs) i ≡ Some one_bit
      masked = get_mapped as_bit hs i h e

      -- into what begins at a leaf, with its masks behind it
      given_at : (b x : ℕ) → Stand leaves b (hs ++ masks hs) → b + i ≡ x → (x < length leaves) × (held leaves x ≡ h)
      given_at b x s at = stand_at b (hs ++ masks hs) s i x h at (get_left hs (masks hs) i h e)

      mask_at : (b : ℕ) (n : Need) → Stand leaves b (hs ++ masks hs) → b + m.data_leaves + i ≡ n.leaf → IsNeedTyped leaves n
      mask_at b n s at =
          need_at (b + m.data_leaves) (masks hs) (stand_right b m.data_leaves hs (masks hs) (sym long) s) i n at masked

      port_writings_typed : (b : ℕ) (k : MemoryPortKind) → Stand leaves b (port_holds width hs k)
          → AllByRecursion (IsWritingTyped leaves h) (port_writings m.data_leaves i b k)
      port_writings_typed b reads s = tt
      port_writings_typed b writes s =
          let behind = behind_typed b writes s in
          let given = given_at (b + 3) (b + 3 + i) behind refl in
          let mask = mask_at (b + 3) (record { leaf = b + 3 + m.data_leaves + i; high = true }) behind refl in (
            record {
              address = address_typed b writes s;
              needs = (enable_typed b writes s, (mask, tt));
              clock = clock_typed b writes s;
              given_within = given.0;
              given = given.1;
            },
            tt,
          )
      port_writings_typed b reads_and_writes s =
          let d = m.data_leaves in
          let behind = given_typed b s in
          let given = given_at (b + 3 + d + 1) (b + 4 + d + i) behind (omega arith) in
          let mask = mask_at (b + 3 + d + 1) (record { leaf = b + 4 + 2 * d + i; high = true }) behind (omega arith) in (
            record {
              address = address_typed b reads_and_writes s;
              needs = (enable_typed b reads_and_writes s, (mode_typed b s true, (mask, tt)));
              clock = clock_typed b reads_and_writes s;
              given_within = given.0;
              given = given.1;
            },
            tt,
          )

      pub writings_typed : (b : ℕ) (ks : List MemoryPortKind) → Stand leaves b (flat_map (port_holds width hs) ks)
          → AllByRecursion (IsWritingTyped leaves h) (writings_from m.data_leaves i b ks)
      writings_typed b [] s = tt
      writings_typed b (k ∷ ks) s =
          let rest = flat_map (port_holds width hs) ks in
          let size = port_size m.data_leaves k in
          let counted : length (port_holds width hs k) ≡ size = port_counted width hs k ∙ ap (λ d. port_size d k) (sym long) in
          all_joined (IsWritingTyped leaves h) (port_writings m.data_leaves i b k) (writings_from m.data_leaves i (b + size) ks)
          (port_writings_typed b k (stand_left b (port_holds width hs k) rest s))
          (writings_typed (b + size) ks (stand_right b size (port_holds width hs k) rest counted s))
