-- Choices that agree on every leaf of a whole net are followed by one state.
use Rattle.std.proofs.Common.{◌≡◌, ℕ, List, [], ◌∷◌, ◌++◌, Bool, nat_eq, ◌&&◌, if◌then◌else◌, refl, sym, ap, ◌∙◌}
use Rattle.std.specs.Prelude.{slice_get, Option, Some, None}
use Rattle.std.specs.List.{AllByRecursion}
use Rattle.fir_base.proofs.Elements.{all_there}
use Rattle.fir_base.specs.Ticks.{Tick}
use Rattle.fir_bits.specs.declared.values.Num.{Num}
use Rattle.fir_net.specs.declared.array.Array.{Array}
use Rattle.fir_net.specs.declared.array.ArrayRead.{ArrayRead}
use Rattle.fir_net.specs.declared.array.ArrayWrite.{ArrayWrite}
use Rattle.fir_net.specs.declared.array.Pipe.{Pipe}
use Rattle.fir_net.specs.declared.leaf.Reset.{Reset}
use Rattle.fir_net.specs.declared.leaf.ResetKind.{ResetKind}
use Rattle.fir_net.specs.declared.leaf.ResetKind.TheVariants.{Asynchronous, Synchronous}
use Rattle.fir_net.specs.declared.leaf.Role.{Role}
use Rattle.fir_net.specs.declared.leaf.Role.TheVariants as role
use Rattle.fir_net.specs.declared.net.FlatNet.{FlatNet}
use Rattle.fir_net.specs.declared.reads.Read.{Read}
use Rattle.fir_net.specs.working.Arrays.{addresses, begin_of, word_in}
use Rattle.fir_net.specs.working.IsNet.{CanBeDriven, CanBeReset, CanRead, IsAddressed, IsArray, IsArrayWrite, IsClock, IsLeaf, IsNet, IsReset, IsRole}
use Rattle.fir_net.specs.working.Next.{array_after, arrays_next, is_written, next, next_by, next_of, next_word, piped, read_left, taken, taken_under, taken_with, ticks, word_after, word_left, words_next}
use Rattle.fir_net.specs.working.Settled.{is_high, is_read, value_at, word_read}
use Rattle.fir_net.specs.working.Values.{at_width}
use Rattle.fir_net.proofs.Places.{map_at}
use Rattle.fir_net.proofs.StateWords.{state_at, state_plain}
use Rattle.fir_equivalence.proofs.AgreeingValues.{Agree, clock_same, high_same, is_read_same, value_same, word_read_same}
use Rattle.fir_equivalence.proofs.Arrays.{flat_same}

module _ (net : FlatNet) (whole : IsNet net) (e f : ℕ → ℕ) (c d : ℕ → Option ℕ) (agree : Agree net e f c d) (state : List ℕ) (named : List ℕ) where
  high : (r : Read) → CanRead net.leaves net.nodes r → is_high net e r ≡ is_high net f r
  high r can = high_same net whole e f c d agree r can

  value : (r : Read) → CanRead net.leaves net.nodes r → value_at net e r ≡ value_at net f r
  value r can = value_same net whole e f c d agree r can

  ticks_same : (k : ℕ) → IsClock net.leaves k → ticks named (c k) ≡ ticks named (d k)
  ticks_same k is = ap (ticks named) (clock_same net whole e f c d agree k is)

  taken_same : (signed : Bool) (width now : ℕ) (r : Option Read) → CanBeDriven net.leaves net.nodes signed r → taken net e width now r ≡ taken net f width now r
  taken_same signed width now None is = refl
  taken_same signed width now (Some r) is = ap (λ (v : Num). at_width v width) (value r is.can)

  under_same : (signed : Bool) (width now after : ℕ) (kind : ResetKind) (r : Reset) → IsReset net.leaves net.nodes signed r
      → taken_under net e width now kind r.condition r.init after ≡ taken_under net f width now kind r.condition r.init after
  under_same signed width now after Synchronous r is =
      ap (λ (t : Bool). if t then at_width (value_at net e r.init) width else after) (high r.condition is.condition)
      ∙ ap (λ (v : Num). if is_high net f r.condition then at_width v width else after) (value r.init is.init.can)
  under_same signed width now after Asynchronous r is = ap (λ (t : Bool). if t then now else after) (high r.condition is.condition)

  with_same : (signed : Bool) (width now after : ℕ) (r : Option Reset) → CanBeReset net.leaves net.nodes signed r → taken_with net e width now r after ≡ taken_with net f width now r after
  with_same signed width now after None is = refl
  with_same signed width now after (Some r) is = under_same signed width now after r.kind r is

  written_same : (signed : Bool) (width address : ℕ) (w : ArrayWrite) → IsArrayWrite net.leaves net.nodes signed width w → is_written net e c named w address ≡ is_written net f d named w address
  written_same signed width address w is =
      ap (λ (t : Bool). t && (is_high net e w.condition && nat_eq (value_at net e w.address).value.number address)) (ticks_same w.clock is.clock)
      ∙ ap (λ (t : Bool). ticks named (d w.clock) && (t && nat_eq (value_at net e w.address).value.number address)) (high w.condition is.addressed.enable)
      ∙ ap (λ (v : Num). ticks named (d w.clock) && (is_high net f w.condition && nat_eq v.value.number address)) (value w.address is.addressed.address)

  after_same : (signed : Bool) (width address word : ℕ) (ws : List ArrayWrite) → AllByRecursion (IsArrayWrite net.leaves net.nodes signed width) ws
      → word_after net e c named width ws address word ≡ word_after net f d named width ws address word
  after_same signed width address word [] is = refl
  after_same signed width address word (w ∷ ws) is =
      ap (λ (t : Bool). word_after net e c named width ws address (if t then at_width (value_at net e w.given) width else word)) (written_same signed width address w is.0)
      ∙ ap (λ (v : Num). word_after net e c named width ws address (if is_written net f d named w address then at_width v width else word)) (value w.given is.0.given)
      ∙ after_same signed width address (if is_written net f d named w address then at_width (value_at net f w.given) width else word) ws is.1

  left_same : (k : ℕ) (a : Array) → IsArray net.leaves net.nodes a → (address : ℕ)
      → word_after net e c named a.width a.writes address (word_in state (begin_of net k) address) ≡ word_after net f d named a.width a.writes address (word_in state (begin_of net k) address)
  left_same k a is address = after_same a.signed a.width address (word_in state (begin_of net k) address) a.writes is.writes

  own_array : (k : ℕ) (a : Array) → slice_get net.arrays k ≡ Some a → IsArray net.leaves net.nodes a
  own_array k a at = all_there (IsArray net.leaves net.nodes) net.arrays whole.arrays k a at

  array_after_same : (k : ℕ) (o : Option Array) → slice_get net.arrays k ≡ o → array_after net e c named state k o ≡ array_after net f d named state k o
  array_after_same k None at = refl
  array_after_same k (Some a) at =
      map_at (λ address. word_after net e c named a.width a.writes address (word_in state (begin_of net k) address))
      (λ address. word_after net f d named a.width a.writes address (word_in state (begin_of net k) address)) (addresses 0 a.words) (λ j address e. left_same k a (own_array k a at) address)

  arrays_next_same : arrays_next net e c named state ≡ arrays_next net f d named state
  arrays_next_same =
      flat_same (λ (k : ℕ). array_after net e c named state k (slice_get net.arrays k)) (λ (k : ℕ). array_after net f d named state k (slice_get net.arrays k)) net.array_order
      (λ k. array_after_same k (slice_get net.arrays k) refl)

  word_left_same : (k address : ℕ) (o : Option Array) → slice_get net.arrays k ≡ o → word_left net e c named state k address o ≡ word_left net f d named state k address o
  word_left_same k address None at = refl
  word_left_same k address (Some a) at = left_same k a (own_array k a at) address

  read_left_same : (r : ArrayRead) → IsAddressed net.leaves net.nodes r.address r.enable → read_left net e c named state r ≡ read_left net f d named state r
  read_left_same r is =
      ap (λ (t : Bool). if t then word_left net e c named state r.array (value_at net e r.address).value.number (slice_get net.arrays r.array) else 0) (is_read_same net whole e f c d agree r is)
      ∙ ap (λ (v : Num). if is_read net f r then word_left net e c named state r.array v.value.number (slice_get net.arrays r.array) else 0) (value r.address is.address)
      ∙ ap (λ (v : ℕ). if is_read net f r then v else 0) (word_left_same r.array (value_at net f r.address).value.number (slice_get net.arrays r.array) refl)

  piped_same : (p : Pipe) → IsAddressed net.leaves net.nodes p.read.address p.read.enable → piped net e c named state p ≡ piped net f d named state p
  piped_same p is =
      ap (λ (v : ℕ). if p.is_new then v else word_read net state e p.read) (read_left_same p.read is)
      ∙ ap (λ (v : ℕ). if p.is_new then read_left net f d named state p.read else v) (word_read_same net whole e f c d agree state p.read is)

  next_by_same : (signed : Bool) (width now : ℕ) (r : Role) → IsRole net.leaves net.nodes signed width r → next_by net e c named state width now r ≡ next_by net f d named state width now r
  next_by_same signed width now (role.Register r) is =
      ap (λ (t : Bool). if t then taken_with net e width now r.reset (taken net e width now r.next) else now) (ticks_same r.clock is.0)
      ∙ ap (λ (v : ℕ). if ticks named (d r.clock) then taken_with net e width now r.reset v else now) (taken_same signed width now r.next is.2)
      ∙ ap (λ (v : ℕ). if ticks named (d r.clock) then v else now) (with_same signed width now (taken net f width now r.next) r.reset is.1)
  next_by_same signed width now (role.Pipe p) is =
      ap (λ (t : Bool). if t then piped net e c named state p else now) (ticks_same p.clock is.0)
      ∙ ap (λ (v : ℕ). if ticks named (d p.clock) then v else now) (piped_same p is.1)
  next_by_same signed width now _ is = refl

  next_word_same : (n k : ℕ) → slice_get net.state n ≡ Some k → next_word net e c named state k ≡ next_word net f d named state k
  next_word_same n k at =
      let x = state_at whole.state n k at in
      let role_is : IsRole net.leaves net.nodes x.leaf.signed x.leaf.width x.leaf.role = (all_there (IsLeaf net.leaves net.nodes) net.leaves whole.leaves k x.leaf x.at).driven in
      ap (next_of net e c named state (e k)) x.at
      ∙ ap (λ (now : ℕ). next_by net e c named state x.leaf.width now x.leaf.role) (agree.values k x.leaf x.at (state_plain x.leaf.role x.is))
      ∙ next_by_same x.leaf.signed x.leaf.width (f k) x.leaf.role role_is
      ∙ sym (ap (next_of net f d named state (f k)) x.at)

  words_next_same : words_next net e c named state ≡ words_next net f d named state
  words_next_same = map_at (next_word net e c named state) (next_word net f d named state) net.state next_word_same

module _ (net : FlatNet) (whole : IsNet net) (e f : ℕ → ℕ) (c d : ℕ → Option ℕ) (agree : Agree net e f c d) where
  pub next_agrees : (state : List ℕ) (tick : Tick) → next net state e c tick ≡ next net state f d tick
  next_agrees state tick =
      ap (λ (ws : List ℕ). ws ++ arrays_next net e c tick.clocks state) (words_next_same net whole e f c d agree state tick.clocks)
      ∙ ap (λ (ws : List ℕ). words_next net f d tick.clocks state ++ ws) (arrays_next_same net whole e f c d agree state tick.clocks)
