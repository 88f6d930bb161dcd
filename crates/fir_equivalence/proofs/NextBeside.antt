-- The state after a tick of a net that is another one written anew is that of the other one, from its settled values.
use Rattle.std.proofs.Common.{◌≡◌, ℕ, List, [], ◌∷◌, ◌++◌, map, flat_map, Bool, nat_eq, ◌&&◌, if◌then◌else◌, refl, sym, ap, ◌∙◌}
use Rattle.std.specs.Prelude.{slice_get, Option, Some, None}
use Rattle.fir_base.specs.Ticks.{Tick}
use Rattle.fir_net.specs.declared.array.Array.{Array}
use Rattle.fir_net.specs.declared.array.ArrayRead.{ArrayRead}
use Rattle.fir_net.specs.declared.array.ArrayWrite.{ArrayWrite}
use Rattle.fir_net.specs.declared.array.Pipe.{Pipe}
use Rattle.fir_net.specs.declared.leaf.Leaf.{Leaf}
use Rattle.fir_net.specs.declared.leaf.Reset.{Reset}
use Rattle.fir_net.specs.declared.leaf.ResetKind.{ResetKind}
use Rattle.fir_net.specs.declared.leaf.ResetKind.TheVariants.{Asynchronous, Synchronous}
use Rattle.fir_net.specs.declared.leaf.Role.{Role}
use Rattle.fir_net.specs.declared.leaf.Role.TheVariants as role
use Rattle.fir_net.specs.declared.net.FlatNet.{FlatNet}
use Rattle.fir_net.specs.declared.reads.Read.{Read}
use Rattle.fir_net.specs.working.Arrays.{addresses, begin_of, word_in}
use Rattle.fir_net.specs.working.IsNet.{IsNet}
use Rattle.fir_net.specs.working.Next.{array_after, arrays_next, is_written, next, next_by, next_of, next_word, piped, read_left, taken, taken_under, taken_with, ticks, word_after, word_left, words_next}
use Rattle.fir_net.specs.working.Settled.{Settled, is_high, is_read, value_at, word_read}
use Rattle.fir_net.specs.working.Values.{at_width}
use Rattle.fir_net.proofs.Places.{map_at}
use Rattle.fir_equivalence.specs.working.Rewrites.{AreSameWrites, IsSameArray, IsSameArrayRead, IsSameLeaf, IsSameNext, IsSameOptionalReset, IsSamePipe, IsSameReset, IsSameRole, IsSameWrite, Rewrites, renumbered}
use Rattle.fir_equivalence.proofs.Arrays.{AreBeside, array_beside, arrays, begin_same, flat_same, none}
use Rattle.fir_equivalence.proofs.SettledBeside.{high_same, is_read_same, word_read_same}
use Rattle.fir_equivalence.proofs.Shapes.{map_along}

module _
    (net other : FlatNet) (number : ℕ → ℕ) (R : Rewrites net other number) (whole : IsNet net)
    (state : List ℕ) (tick : Tick) (env : ℕ → ℕ) (clock : ℕ → Option ℕ) (s : Settled net state tick env clock) where
  abbrev values_there : ℕ → ℕ
  values_there = renumbered number env

  abbrev clocks_there : ℕ → Option ℕ
  clocks_there = renumbered number clock

  ticks_same : (j k : ℕ) → number k ≡ j → ticks tick.clocks (clocks_there k) ≡ ticks tick.clocks (clock j)
  ticks_same j k e = ap (λ (x : ℕ). ticks tick.clocks (clock x)) e

  taken_same : (width now : ℕ) (a b : Option Read) → IsSameNext net other number width a b → taken other values_there width now b ≡ taken net env width now a
  taken_same width now None None h = refl
  taken_same width now None (Some q) h = absurd h
  taken_same width now (Some r) None h = absurd h
  taken_same width now (Some r) (Some q) h = h state tick env clock s

  under_same : (width now after : ℕ) (kind : ResetKind) (a b : Reset) → IsSameReset net other number width a b
      → taken_under other values_there width now kind b.condition b.init after ≡ taken_under net env width now kind a.condition a.init after
  under_same width now after Synchronous a b h =
      ap (λ (t : Bool). if t then at_width (value_at other values_there b.init) width else after) (high_same net other number R whole state tick env clock s a.condition b.condition h.condition)
      ∙ ap (λ (v : ℕ). if is_high net env a.condition then v else after) (h.init state tick env clock s)
  under_same width now after Asynchronous a b h = ap (λ (t : Bool). if t then now else after) (high_same net other number R whole state tick env clock s a.condition b.condition h.condition)

  with_same : (width now after : ℕ) (a b : Option Reset) → IsSameOptionalReset net other number width a b → taken_with other values_there width now b after ≡ taken_with net env width now a after
  with_same width now after None None h = refl
  with_same width now after None (Some b) h = absurd h
  with_same width now after (Some a) None h = absurd h
  with_same width now after (Some a) (Some b) h =
      ap (λ (kind : ResetKind). taken_under other values_there width now kind b.condition b.init after) h.kind ∙ under_same width now after a.kind a b h

  written_same : (width address : ℕ) (a b : ArrayWrite) → IsSameWrite net other number width a b
      → is_written other values_there clocks_there tick.clocks b address ≡ is_written net env clock tick.clocks a address
  written_same width address a b h =
      ap (λ (t : Bool). t && (is_high other values_there b.condition && nat_eq (value_at other values_there b.address).value.number address)) (ticks_same a.clock b.clock h.clock)
      ∙ ap (λ (t : Bool). ticks tick.clocks (clock a.clock) && (t && nat_eq (value_at other values_there b.address).value.number address)) (high_same net other number R whole state tick env clock s a.condition b.condition h.condition)
      ∙ ap (λ (n : ℕ). ticks tick.clocks (clock a.clock) && (is_high net env a.condition && nat_eq n address)) (h.address state tick env clock s)

  after_same : (width address word : ℕ) (first second : List ArrayWrite) → AreSameWrites net other number width first second
      → word_after other values_there clocks_there tick.clocks width second address word ≡ word_after net env clock tick.clocks width first address word
  after_same width address word [] [] h = refl
  after_same width address word [] (b ∷ second) h = absurd h
  after_same width address word (a ∷ first) [] h = absurd h
  after_same width address word (a ∷ first) (b ∷ second) h =
      ap (λ (t : Bool). word_after other values_there clocks_there tick.clocks width second address (if t then at_width (value_at other values_there b.given) width else word)) (written_same width address a b h.0)
      ∙ ap (λ (v : ℕ). word_after other values_there clocks_there tick.clocks width second address (if is_written net env clock tick.clocks a address then v else word)) (h.0.given state tick env clock s)
      ∙ after_same width address (if is_written net env clock tick.clocks a address then at_width (value_at net env a.given) width else word) first second h.1

  -- the word of an array at an address after all writes
  left_same : (a b : Array) → IsSameArray net other number a b → (k address : ℕ)
      → word_after other values_there clocks_there tick.clocks b.width b.writes address (word_in state (begin_of other k) address)
      ≡ word_after net env clock tick.clocks a.width a.writes address (word_in state (begin_of net k) address)
  left_same a b h k address =
      ap (λ (w : ℕ). word_after other values_there clocks_there tick.clocks w b.writes address (word_in state (begin_of other k) address)) h.width
      ∙ ap (λ (place : Option ℕ). word_after other values_there clocks_there tick.clocks a.width b.writes address (word_in state place address)) (begin_same net other number R k)
      ∙ after_same a.width address (word_in state (begin_of net k) address) a.writes b.writes h.writes

  word_left_same : (k address : ℕ) (o p : Option Array) → AreBeside net other number o p
      → word_left other values_there clocks_there tick.clocks state k address p ≡ word_left net env clock tick.clocks state k address o
  word_left_same k address _ _ none = refl
  word_left_same k address _ _ (arrays a b h) = left_same a b h k address

  array_after_same : (k : ℕ) (o p : Option Array) → AreBeside net other number o p
      → array_after other values_there clocks_there tick.clocks state k p ≡ array_after net env clock tick.clocks state k o
  array_after_same k _ _ none = refl
  array_after_same k _ _ (arrays a b h) =
      map_at (λ address. word_after other values_there clocks_there tick.clocks b.width b.writes address (word_in state (begin_of other k) address))
      (λ address. word_after net env clock tick.clocks a.width a.writes address (word_in state (begin_of net k) address)) (addresses 0 b.words) (λ j address e. left_same a b h k address)
      ∙ ap (λ (n : ℕ). map (λ address. word_after net env clock tick.clocks a.width a.writes address (word_in state (begin_of net k) address)) (addresses 0 n)) h.words

  arrays_next_same : arrays_next other values_there clocks_there tick.clocks state ≡ arrays_next net env clock tick.clocks state
  arrays_next_same =
      ap (flat_map (λ (k : ℕ). array_after other values_there clocks_there tick.clocks state k (slice_get other.arrays k))) R.array_order
      ∙ flat_same (λ (k : ℕ). array_after other values_there clocks_there tick.clocks state k (slice_get other.arrays k))
      (λ (k : ℕ). array_after net env clock tick.clocks state k (slice_get net.arrays k)) net.array_order
      (λ k. array_after_same k (slice_get net.arrays k) (slice_get other.arrays k) (array_beside net other number R k))

  read_left_same : (a b : ArrayRead) → IsSameArrayRead net other number a b
      → read_left other values_there clocks_there tick.clocks state b ≡ read_left net env clock tick.clocks state a
  read_left_same a b h =
      ap (λ (t : Bool). if t then word_left other values_there clocks_there tick.clocks state b.array (value_at other values_there b.address).value.number (slice_get other.arrays b.array) else 0)
      (is_read_same net other number R whole state tick env clock s a b h)
      ∙ ap (λ (n : ℕ). if is_read net env a then word_left other values_there clocks_there tick.clocks state b.array n (slice_get other.arrays b.array) else 0) (h.address state tick env clock s)
      ∙ ap (λ (k : ℕ). if is_read net env a then word_left other values_there clocks_there tick.clocks state k (value_at net env a.address).value.number (slice_get other.arrays k) else 0) h.array
      ∙ ap (λ (v : ℕ). if is_read net env a then v else 0)
      (word_left_same a.array (value_at net env a.address).value.number (slice_get net.arrays a.array) (slice_get other.arrays a.array) (array_beside net other number R a.array))

  piped_same : (p q : Pipe) → IsSamePipe net other number p q → piped other values_there clocks_there tick.clocks state q ≡ piped net env clock tick.clocks state p
  piped_same p q h =
      ap (λ (t : Bool). if t then read_left other values_there clocks_there tick.clocks state q.read else word_read other state values_there q.read) h.is_new
      ∙ ap (λ (v : ℕ). if p.is_new then v else word_read other state values_there q.read) (read_left_same p.read q.read h.read)
      ∙ ap (λ (v : ℕ). if p.is_new then read_left net env clock tick.clocks state p.read else v) (word_read_same net other number R whole state tick env clock s p.read q.read h.read)

  next_by_same : (width now : ℕ) (r q : Role) → IsSameRole net other number width r q
      → next_by other values_there clocks_there tick.clocks state width now q ≡ next_by net env clock tick.clocks state width now r
  next_by_same width now role.Input role.Input h = refl
  next_by_same width now role.Clock role.Clock h = refl
  next_by_same width now (role.Output r) (role.Output q) h = refl
  next_by_same width now (role.Wire r) (role.Wire q) h = refl
  next_by_same width now (role.Register a) (role.Register b) h =
      ap (λ (t : Bool). if t then taken_with other values_there width now b.reset (taken other values_there width now b.next) else now) (ticks_same a.clock b.clock h.clock)
      ∙ ap (λ (v : ℕ). if ticks tick.clocks (clock a.clock) then taken_with other values_there width now b.reset v else now) (taken_same width now a.next b.next h.next)
      ∙ ap (λ (v : ℕ). if ticks tick.clocks (clock a.clock) then v else now) (with_same width now (taken net env width now a.next) a.reset b.reset h.reset)
  next_by_same width now (role.Reading r) (role.Reading q) h = refl
  next_by_same width now (role.Pipe p) (role.Pipe q) h =
      ap (λ (t : Bool). if t then piped other values_there clocks_there tick.clocks state q else now) (ticks_same p.clock q.clock h.clock)
      ∙ ap (λ (v : ℕ). if ticks tick.clocks (clock p.clock) then v else now) (piped_same p q h)
  next_by_same width now (role.ClockOutput c) (role.ClockOutput d) h = refl
  next_by_same width now (role.ClockWire c) (role.ClockWire d) h = refl
  next_by_same width now _ _ h = absurd h

  next_leaf_same : (now : ℕ) (l m : Leaf) → IsSameLeaf net other number l m
      → next_by other values_there clocks_there tick.clocks state m.width now m.role ≡ next_by net env clock tick.clocks state l.width now l.role
  next_leaf_same now l m h =
      ap (λ (w : ℕ). next_by other values_there clocks_there tick.clocks state w now m.role) h.width ∙ next_by_same l.width now l.role m.role h.role

  next_word_same : (n k : ℕ) → slice_get other.state n ≡ Some k
      → next_word other values_there clocks_there tick.clocks state k ≡ next_word net env clock tick.clocks state (number k)
  next_word_same n k e =
      let m = R.whole.state.only n k e in
      let x = R.leaves k m.0 m.1 in
      ap (next_of other values_there clocks_there tick.clocks state (env (number k))) m.1
      ∙ next_leaf_same (env (number k)) x.0 m.0 x.2
      ∙ sym (ap (next_of net env clock tick.clocks state (env (number k))) x.1)

  words_next_same : words_next other values_there clocks_there tick.clocks state ≡ words_next net env clock tick.clocks state
  words_next_same =
      map_along (next_word other values_there clocks_there tick.clocks state) (next_word net env clock tick.clocks state) number other.state next_word_same
      ∙ ap (map (next_word net env clock tick.clocks state)) R.state

  pub next_there : next other state values_there clocks_there tick ≡ next net state env clock tick
  next_there =
      ap (λ (ws : List ℕ). ws ++ arrays_next other values_there clocks_there tick.clocks state) words_next_same
      ∙ ap (λ (ws : List ℕ). words_next net env clock tick.clocks state ++ ws) arrays_next_same
